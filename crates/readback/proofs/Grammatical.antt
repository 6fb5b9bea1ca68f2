-- The reply that bytes are, against the grammar of replies.
use Rattle.std.proofs.Common.{◌≡◌, ℕ, ◌+◌, ◌*◌, ◌/◌, ◌%◌, ◌<◌, ◌≤◌, ◌⊎◌, inl, inr, Bool, true, false, cond, eqb, leb, ◌&&◌, List, [], ◌∷◌, ◌++◌, length, Option, Some, None, refl, sym, ◌∙◌, subst, arith, get_or, suc, IfSome}
use Rattle.std.specs.List.{AllByRecursion}
use Rattle.std.proofs.lemmas.Bool.{eqb-true, leb-true, eq-eqb, le-leb, and_parts}
use Rattle.std.proofs.lemmas.Option.{cond_some}
use Rattle.modbus_pdu.specs.Grammar.{IsByte, IsWord, word, words, IsReply}
use Rattle.modbus_pdu.specs.declared.pdu.Reply.{Reply}
use Rattle.modbus_pdu.specs.declared.pdu.Reply.TheVariants as reply
use Rattle.readback.specs.Replies.{registers_in, registers_reply, wrote_reply, exception_reply, reply_of}

length-words : (values : List ℕ) → length (words values) ≡ 2 * length values
length-words [] = refl
length-words (value ∷ values) = let rest = length-words values in omega arith

registers_in-words : (values : List ℕ) → registers_in (words values) ≡ values
registers_in-words [] = refl
registers_in-words (value ∷ values) =
    let head : 256 * (value / 256) + value % 256 ≡ value = omega arith in
    let rest = registers_in-words values in
    cc

word-of_bytes : (high low : ℕ) → low < 256 → word (256 * high + low) ≡ high ∷ low ∷ []
word-of_bytes high low fits =
    let first : (256 * high + low) / 256 ≡ high = omega arith in
    let second : (256 * high + low) % 256 ≡ low = omega arith in
    rw (first, second) refl

-- an even count of bytes is that of its registers
words-registers_in : (bytes : List ℕ) → AllByRecursion IsByte bytes → length bytes ≡ 2 * length (registers_in bytes) → words (registers_in bytes) ≡ bytes
words-registers_in [] fits even = refl
words-registers_in (high ∷ []) fits even = absurd (omega arith)
words-registers_in (high ∷ low ∷ bytes) fits even =
    let here = word-of_bytes high low fits.1.0 in
    let rest = words-registers_in bytes fits.1.1 (omega arith) in
    cc

registers_fit : (bytes : List ℕ) → AllByRecursion IsByte bytes → AllByRecursion IsWord (registers_in bytes)
registers_fit [] fits = tt
registers_fit (high ∷ []) fits = tt
registers_fit (high ∷ low ∷ bytes) fits =
    let first : high < 256 = fits.0 in
    let second : low < 256 = fits.1.0 in
    (omega arith, registers_fit bytes fits.1.1)

registers_found : (fields : List ℕ) (answer : Reply) → AllByRecursion IsByte fields → registers_reply fields ≡ Some answer → IsReply (3 ∷ fields) answer
registers_found [] answer fits e = absurd cc
registers_found (count ∷ bytes) answer fits e =
    let values = registers_in bytes in
    let test = cond_some _ (reply.Regs values) answer e in
    let most = and_parts ((eqb (length bytes) (2 * length values) && eqb count (length bytes)) && leb 1 (length values)) (leb (length values) 125) test.0 in
    let least = and_parts (eqb (length bytes) (2 * length values) && eqb count (length bytes)) (leb 1 (length values)) most.0 in
    let counts = and_parts (eqb (length bytes) (2 * length values)) (eqb count (length bytes)) least.0 in
    let even : length bytes ≡ 2 * length values = eqb-true _ _ counts.0 in
    let counted : count ≡ 2 * length values = eqb-true _ _ counts.1 ∙ even in
    let spelled : words values ≡ bytes = words-registers_in bytes fits.1 even in
    let bytes_are : 3 ∷ count ∷ bytes ≡ 3 ∷ (2 * length values) ∷ words values = cc (counted, spelled) in
    subst (IsReply (3 ∷ count ∷ bytes)) test.1 ((leb-true _ _ least.1, leb-true _ _ most.1), registers_fit bytes fits.1, bytes_are)

wrote_found : (fields : List ℕ) (answer : Reply) → AllByRecursion IsByte fields → wrote_reply fields ≡ Some answer → IsReply (16 ∷ fields) answer
wrote_found (a ∷ b ∷ c ∷ d ∷ []) answer fits e =
    let count = 256 * c + d in
    let test = cond_some _ (reply.Wrote (256 * a + b) count) answer e in
    let limits = and_parts (leb 1 count) (leb count 123) test.0 in
    let first : a < 256 = fits.0 in
    let second : b < 256 = fits.1.0 in
    let start_fits : 256 * a + b < 65536 = omega arith in
    let start_is = word-of_bytes a b fits.1.0 in
    let count_is = word-of_bytes c d fits.1.1.1.0 in
    let bytes_are : 16 ∷ a ∷ b ∷ c ∷ d ∷ [] ≡ 16 ∷ word (256 * a + b) ++ word count = cc (start_is, count_is) in
    subst (IsReply (16 ∷ a ∷ b ∷ c ∷ d ∷ [])) test.1 ((leb-true _ _ limits.0, leb-true _ _ limits.1), start_fits, bytes_are)
wrote_found _ answer fits e = absurd cc

exception_found : (function : ℕ) (fields : List ℕ) (answer : Reply) → (function ≡ 3) ⊎ (function ≡ 16) → AllByRecursion IsByte fields → exception_reply function fields ≡ Some answer → IsReply ((function + 128) ∷ fields) answer
exception_found function [] answer is fits e = absurd cc
exception_found function (code ∷ []) answer is fits e =
    let same : reply.Exception function code ≡ answer = cc in
    subst (IsReply ((function + 128) ∷ code ∷ [])) same (is, fits.0, refl)
exception_found function (code ∷ other ∷ rest) answer is fits e = absurd cc

-- which of the four functions a byte is, or none
chosen : {A : Type 0} (a b c d : Bool) (w x y z : Option A) (answer : A) → cond a w (cond b x (cond c y (cond d z None))) ≡ Some answer
    → ((a ≡ true) × (w ≡ Some answer)) ⊎ (((b ≡ true) × (x ≡ Some answer)) ⊎ (((c ≡ true) × (y ≡ Some answer)) ⊎ ((d ≡ true) × (z ≡ Some answer))))
chosen true b c d w x y z answer e = inl (refl, e)
chosen false true c d w x y z answer e = inr (inl (refl, e))
chosen false false true d w x y z answer e = inr (inr (inl (refl, e)))
chosen false false false true w x y z answer e = inr (inr (inr (refl, e)))
chosen false false false false w x y z answer e = absurd cc

at_function : (function n : ℕ) (fields : List ℕ) (answer : Reply) → eqb function n ≡ true → IsReply (n ∷ fields) answer → IsReply (function ∷ fields) answer
at_function function n fields answer e is = subst (λ (f : ℕ). IsReply (f ∷ fields) answer) (sym (eqb-true _ _ e)) is

pub reply_found : (bytes : List ℕ) (answer : Reply) → AllByRecursion IsByte bytes → reply_of bytes ≡ Some answer → IsReply bytes answer
unfolding reply_of
reply_found [] answer fits e = absurd cc
reply_found (function ∷ fields) answer fits e =
    elim (chosen (eqb function 3) (eqb function 16) (eqb function 131) (eqb function 144) (registers_reply fields) (wrote_reply fields) (exception_reply 3 fields) (exception_reply 16 fields) answer e) [
      | inl is ↦ at_function function 3 fields answer is.0 (registers_found fields answer fits.1 is.1)
      | inr rest ↦ elim rest [
        | inl is ↦ at_function function 16 fields answer is.0 (wrote_found fields answer fits.1 is.1)
        | inr rest ↦ elim rest [
          | inl is ↦ at_function function 131 fields answer is.0 (exception_found 3 fields answer (inl refl) fits.1 is.1)
          | inr is ↦ at_function function 144 fields answer is.0 (exception_found 16 fields answer (inr refl) fits.1 is.1)
        ]
      ]
    ]

registers_only : (values : List ℕ) → 1 ≤ length values → length values ≤ 125 → registers_reply ((2 * length values) ∷ words values) ≡ Some (reply.Regs values)
registers_only values least most =
    let len : length (words values) ≡ 2 * length values = length-words values in
    let even : eqb (length (words values)) (2 * length values) ≡ true = eq-eqb _ _ len in
    let counted : eqb (2 * length values) (length (words values)) ≡ true = eq-eqb _ _ (sym len) in
    let low : leb 1 (length values) ≡ true = le-leb _ _ least in
    let high : leb (length values) 125 ≡ true = le-leb _ _ most in
    rw (registers_in-words, even, counted, low, high) refl

wrote_only : (start count : ℕ) → 1 ≤ count → count ≤ 123 → wrote_reply (word start ++ word count) ≡ Some (reply.Wrote start count)
wrote_only start count least most =
    let start_is : 256 * (start / 256) + start % 256 ≡ start = omega arith in
    let count_is : 256 * (count / 256) + count % 256 ≡ count = omega arith in
    let low : leb 1 count ≡ true = le-leb _ _ least in
    let high : leb count 123 ≡ true = le-leb _ _ most in
    rw (start_is, count_is, low, high) refl

exception_only : (function code : ℕ) → (function ≡ 3) ⊎ (function ≡ 16) → reply_of ((function + 128) ∷ code ∷ []) ≡ Some (reply.Exception function code)
unfolding reply_of
exception_only function code (inl is) = rw is refl
exception_only function code (inr is) = rw is refl

pub reply_only : (bytes : List ℕ) (answer : Reply) → IsReply bytes answer → reply_of bytes ≡ Some answer
unfolding reply_of
reply_only bytes (reply.Regs values) is = rw is.2 (registers_only values is.0.0 is.0.1)
reply_only bytes (reply.Wrote start count) is = rw is.2 (wrote_only start count is.0.0 is.0.1)
reply_only bytes (reply.Exception function code) is = rw is.2 (exception_only function code is.0)

-- bytes, each below 256
pub bytes_fit : (bytes : List ℕ) → ((i : ℕ) → get_or bytes i 0 < 256) → AllByRecursion IsByte bytes
bytes_fit [] fits = tt
bytes_fit (byte ∷ bytes) fits = (fits 0, bytes_fit bytes (λ i. fits (suc i)))

-- An answer that is in the grammar, and is given for every reply in it, is the reply that the bytes are.
pub reply_decoded : (bytes : List ℕ) (answer : Option Reply) → AllByRecursion IsByte bytes → IfSome answer (IsReply bytes)
    → ((other : Reply) → IsReply bytes other → answer ≡ Some other) → answer ≡ reply_of bytes
reply_decoded bytes (Some found) fits is only = sym (reply_only bytes found is)
reply_decoded bytes None fits is only = none_decoded bytes (reply_of bytes) fits only refl
  where
    none_decoded : (bytes : List ℕ) (known : Option Reply) → AllByRecursion IsByte bytes
        → ((other : Reply) → IsReply bytes other → None ≡ Some other) → reply_of bytes ≡ known → None ≡ reply_of bytes
    none_decoded bytes None fits only e = sym e
    none_decoded bytes (Some found) fits only e = only found (reply_found bytes found fits e) ∙ sym e
