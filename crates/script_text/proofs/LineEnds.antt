-- The lines of a text, one at its front after another: the bytes of a line, its end, and what stands behind.
use Rattle.std.proofs.Common.{◌≡◌, ℕ, zero, suc, ◌-◌, ◌≤◌, Bool, true, false, cond, eqb, ◌||◌, ◌&&◌, ◌⊎◌, inl, inr, List, [], ◌∷◌, ◌++◌, length, get_or, Option, Some, None, refl, sym, ap, ◌∙◌, arith}
use Rattle.std.specs.List.{slice_split}
use Rattle.std.specs.Str.Iter.{LacksByte}
use Rattle.std.specs.Str.Lines.{lines, lines_of_parts, strip_carriage_return}
use Rattle.std.proofs.lemmas.Bool.{eqb-true, cases_Bool, ne_eqb, and_parts}
use Rattle.std.proofs.lemmas.Bool.Decides.{nat_tests}
use Rattle.script_text.specs.Grammar.{IsRemark, IsUnread}
use Rattle.script_text.specs.Reading.{begins_with, row_at, behind_row, remark_at, feed_at, end_at}

abbrev pub some : {A : Type 0} → A → Option A
some x = Some x

pub some_is : {A : Type 0} (x y : A) → some x ≡ some y → x ≡ y
some_is x y e = cc

pub none_some : {A : Type 0} (o : Option A) (x : A) → o ≡ None → o ≡ Some x → ⊥
none_some None x e f = absurd cc
none_some (Some y) x e f = absurd cc

-- which way a test went
pub chosen : {A : Type 0} (b : Bool) (x y z : A) → cond b x y ≡ z → ((b ≡ true) × (x ≡ z)) ⊎ ((b ≡ false) × (y ≡ z))
chosen true x y z e = inl (refl, e)
chosen false x y z e = inr (refl, e)

-- the lines of std

abbrev before : List ℕ → List ℕ
before [] = []
before (byte ∷ rest) = cond (eqb byte 10) [] (byte ∷ before rest)

abbrev has_feed : List ℕ → Bool
has_feed [] = false
has_feed (byte ∷ rest) = cond (eqb byte 10) true (has_feed rest)

abbrev split : List ℕ → List (List ℕ)
split bytes = slice_split (λ byte. eqb byte 10) bytes

split_first : (bytes : List ℕ) → split bytes ≡ before bytes ∷ cond (has_feed bytes) (split (behind_row bytes)) []
split_first [] = refl
split_first (byte ∷ rest) =
    elim (cases_Bool (eqb byte 10)) [ inl is ↦ rw is refl | inr not ↦ rw (not, split_first rest) refl ]

two_parts : (part next : List ℕ) (parts more : List (List ℕ)) → parts ≡ next ∷ more → lines_of_parts (part ∷ parts) ≡ strip_carriage_return part ∷ lines_of_parts parts
two_parts part next parts more e = rw e refl

strip_more : (a b : ℕ) (rest : List ℕ) → strip_carriage_return (a ∷ b ∷ rest) ≡ a ∷ strip_carriage_return (b ∷ rest)
strip_more a b rest =
    let two : suc (suc (length rest)) - 1 ≡ suc (length rest) = omega arith in
    let one : suc (length rest) - 1 ≡ length rest = omega arith in
    elim (cases_Bool (eqb (get_or (b ∷ rest) (length rest) 0) 13)) [ inl is ↦ rw (two, one, is) refl | inr not ↦ rw (two, one, not) refl ]

strip_is : (bytes : List ℕ) → has_feed bytes ≡ true → strip_carriage_return (before bytes) ≡ row_at bytes
strip_is [] has = absurd cc
strip_is (byte ∷ []) has =
    elim (cases_Bool (eqb byte 10)) [ inl is ↦ rw is refl | inr not ↦ let no : false ≡ true = rw not at has in absurd cc ]
strip_is (byte ∷ next ∷ rest) has =
    elim (cases_Bool (eqb byte 10)) [
      | inl is ↦ rw is refl
      | inr not ↦
          elim (cases_Bool (eqb next 10)) [
            | inl end ↦ elim (cases_Bool (eqb byte 13)) [ inl cr ↦ rw (not, end, cr) refl | inr other ↦ rw (not, end, other) refl ]
            | inr inside ↦
                let has' : has_feed (next ∷ rest) ≡ true = rw not at has in
                let more : strip_carriage_return (before (next ∷ rest)) ≡ row_at (next ∷ rest) = strip_is (next ∷ rest) has' in
                let first : before (byte ∷ next ∷ rest) ≡ byte ∷ next ∷ before rest = rw (not, inside) refl in
                let second : before (next ∷ rest) ≡ next ∷ before rest = rw inside refl in
                let row : row_at (byte ∷ next ∷ rest) ≡ byte ∷ row_at (next ∷ rest) =
                elim (cases_Bool (eqb byte 13)) [ inl cr ↦ rw (not, cr, inside) refl | inr other ↦ rw (not, other) refl ] in
                ap strip_carriage_return first ∙ strip_more byte next (before rest) ∙ ap (λ (x : List ℕ). byte ∷ strip_carriage_return x) (sym second) ∙ ap (λ (x : List ℕ). byte ∷ x) more ∙ sym row
          ]
    ]

no_feed_first : (rest : List ℕ) → has_feed rest ≡ false → begins_with 10 rest ≡ false
no_feed_first [] has = refl
no_feed_first (byte ∷ rest) has = elim (cases_Bool (eqb byte 10)) [ inl is ↦ let no : true ≡ false = rw is at has in absurd cc | inr not ↦ not ]

whole : (bytes : List ℕ) → has_feed bytes ≡ false → (before bytes ≡ bytes) × (row_at bytes ≡ bytes) × (behind_row bytes ≡ [])
whole [] has = (refl, refl, refl)
whole (byte ∷ rest) has =
    elim (cases_Bool (eqb byte 10)) [
      | inl is ↦ let no : true ≡ false = rw is at has in absurd cc
      | inr not ↦
          let has' : has_feed rest ≡ false = rw not at has in
          let more = whole rest has' in
          let none : begins_with 10 rest ≡ false = no_feed_first rest has' in
          let row : row_at (byte ∷ rest) ≡ byte ∷ row_at rest = elim (cases_Bool (eqb byte 13)) [ inl cr ↦ rw (not, cr, none) refl | inr other ↦ rw (not, other) refl ] in
          (rw not (ap (λ (x : List ℕ). byte ∷ x) more.0), row ∙ ap (λ (x : List ℕ). byte ∷ x) more.1, rw not more.2)
    ]

-- bytes that aren't empty have a first row, and the rows behind it
pub lines_first : (bytes : List ℕ) → 1 ≤ length bytes → lines bytes ≡ row_at bytes ∷ lines (behind_row bytes)
lines_first bytes some =
    elim (cases_Bool (has_feed bytes)) [
      | inl has ↦
          let first : split bytes ≡ before bytes ∷ split (behind_row bytes) = split_first bytes ∙ ap (λ (b : Bool). before bytes ∷ cond b (split (behind_row bytes)) []) has in
          ap lines_of_parts first ∙ two_parts (before bytes) _ (split (behind_row bytes)) _ (split_first (behind_row bytes)) ∙ ap (λ (x : List ℕ). x ∷ lines (behind_row bytes)) (strip_is bytes has)
      | inr has ↦
          let all = whole bytes has in
          let first : split bytes ≡ before bytes ∷ [] = split_first bytes ∙ ap (λ (b : Bool). before bytes ∷ cond b (split (behind_row bytes)) []) has in
          let long : eqb (length bytes) 0 ≡ false = ne_eqb (length bytes) 0 (omega (arith, some)) in
          ap lines_of_parts first ∙ ap (λ (x : List ℕ). lines_of_parts (x ∷ [])) all.0 ∙ rw long (ap (λ (x : List ℕ). x ∷ lines []) (sym all.1) ∙ ap (λ (x : List ℕ). row_at bytes ∷ lines x) (sym all.2))
    ]

-- the parts of a row

-- no byte of a text ends a row
abbrev pub is_plain : List ℕ → Bool
is_plain [] = true
is_plain (byte ∷ more) = cond (eqb byte 10 || eqb byte 13) false (is_plain more)

plain_parts : (byte : ℕ) (more : List ℕ) → is_plain (byte ∷ more) ≡ true → (eqb byte 10 ≡ false) × (eqb byte 13 ≡ false) × (is_plain more ≡ true)
plain_parts byte more plain =
    elim (chosen (eqb byte 10 || eqb byte 13) false (is_plain more) true plain) [
      | inl bad ↦ absurd cc
      | inr good ↦ (grind (arith, nat_tests, good.0), grind (arith, nat_tests, good.0), good.1)
    ]

-- and none of it is a line feed
pub plain_lacks : (text : List ℕ) → is_plain text ≡ true → LacksByte 10 text
plain_lacks [] plain k low is = omega (arith, low)
plain_lacks (byte ∷ more) plain zero low is = let no : true ≡ false = rw is at (plain_parts byte more plain).0 in absurd cc
plain_lacks (byte ∷ more) plain (suc k) low is = plain_lacks more (plain_parts byte more plain).2 k (omega (arith, low)) is

pub plain_more : (a b : List ℕ) → is_plain a ≡ true → is_plain b ≡ true → is_plain (a ++ b) ≡ true
plain_more [] b p q = q
plain_more (byte ∷ more) b p q =
    let parts = plain_parts byte more p in
    rw (parts.0, parts.1) (plain_more more b parts.2 q)

pub row_past : (text tail : List ℕ) → is_plain text ≡ true → row_at (text ++ tail) ≡ text ++ row_at tail
row_past [] tail plain = refl
row_past (byte ∷ more) tail plain =
    let parts = plain_parts byte more plain in
    rw (parts.0, parts.1) (ap (λ (x : List ℕ). byte ∷ x) (row_past more tail parts.2))

pub behind_past : (text tail : List ℕ) → is_plain text ≡ true → behind_row (text ++ tail) ≡ behind_row tail
behind_past [] tail plain = refl
behind_past (byte ∷ more) tail plain =
    let parts = plain_parts byte more plain in
    rw parts.0 (behind_past more tail parts.2)

-- what stands behind a row and what isn't read of it
pub record Ended (tail rest : List ℕ) : Type 0 where
  pub unread : IsUnread (row_at tail)
  pub rest_is : rest ≡ behind_row tail

remark_taken : (tail rest : List ℕ) → remark_at tail ≡ Some rest → IsRemark (row_at tail) × (rest ≡ behind_row tail)
remark_taken [] rest e = absurd cc
remark_taken (byte ∷ more) rest e =
    elim (chosen (eqb byte 32) (remark_at more) (cond (eqb byte 61) (Some (behind_row more)) None) (Some rest) e) [
      | inl is ↦
          let space : byte ≡ 32 = eqb-true byte 32 is.0 in
          let inner = remark_taken more rest is.1 in
          rw space (inr (refl, inner.0), inner.1)
      | inr not ↦
          elim (chosen (eqb byte 61) (Some (behind_row more)) None (Some rest) not.1) [
            | inl is ↦
                let equals : byte ≡ 61 = eqb-true byte 61 is.0 in
                rw equals (inl refl, sym (some_is (behind_row more) rest is.1))
            | inr none ↦ absurd cc
          ]
    ]

unread_remark : (row : List ℕ) → IsRemark row → IsUnread row
unread_remark [] is = tt
unread_remark (byte ∷ more) is = is

feed_taken : (more rest : List ℕ) → feed_at more ≡ Some rest → more ≡ 10 ∷ rest
feed_taken [] rest e = absurd cc
feed_taken (byte ∷ more) rest e =
    elim (chosen (eqb byte 10) (Some more) None (Some rest) e) [
      | inl is ↦
          let feed : byte ≡ 10 = eqb-true byte 10 is.0 in
          let same : more ≡ rest = some_is more rest is.1 in
          λ i. feed i ∷ same i
      | inr not ↦ absurd cc
    ]

pub end_taken : (tail rest : List ℕ) → end_at tail ≡ Some rest → Ended tail rest
end_taken [] rest e = record { unread = tt; rest_is = sym (some_is [] rest e) }
end_taken (byte ∷ more) rest e =
    elim (chosen (eqb byte 10) (Some more) (cond (eqb byte 13) (feed_at more) (remark_at (byte ∷ more))) (Some rest) e) [
      | inl is ↦
          let feed : byte ≡ 10 = eqb-true byte 10 is.0 in
          record { unread = rw feed tt; rest_is = rw feed (sym (some_is more rest is.1)) }
      | inr not ↦
          elim (chosen (eqb byte 13) (feed_at more) (remark_at (byte ∷ more)) (Some rest) not.1) [
            | inl is ↦
                let cr : byte ≡ 13 = eqb-true byte 13 is.0 in
                let feed = feed_taken more rest is.1 in
                record { unread = rw (cr, feed) tt; rest_is = rw (cr, feed) refl }
            | inr other ↦
                let inner = remark_taken (byte ∷ more) rest other.1 in
                record { unread = unread_remark (row_at (byte ∷ more)) inner.0; rest_is = inner.1 }
          ]
    ]

-- a row is put together again

abbrev pub ending_of : List ℕ → List ℕ
ending_of [] = []
ending_of (byte ∷ rest) = cond (eqb byte 10) (10 ∷ []) (cond (eqb byte 13 && begins_with 10 rest) (13 ∷ 10 ∷ []) (ending_of rest))

begins_is : (rest : List ℕ) → begins_with 10 rest ≡ true → rest ≡ 10 ∷ behind_row rest
begins_is [] e = absurd cc
begins_is (byte ∷ more) e = let feed : byte ≡ 10 = eqb-true byte 10 e in rw (feed) refl

pub row_parts : (bytes : List ℕ) → bytes ≡ row_at bytes ++ (ending_of bytes ++ behind_row bytes)
row_parts [] = refl
row_parts (byte ∷ rest) =
    elim (cases_Bool (eqb byte 10)) [
      | inl is ↦ let feed : byte ≡ 10 = eqb-true byte 10 is in rw feed refl
      | inr not ↦
          elim (cases_Bool (eqb byte 13 && begins_with 10 rest)) [
            | inl both ↦
                let parts = and_parts (eqb byte 13) (begins_with 10 rest) both in
                let cr : byte ≡ 13 = eqb-true byte 13 parts.0 in
                let more = begins_is rest parts.1 in
                rw (not, both) (λ i. cr i ∷ more i)
            | inr other ↦ rw (not, other) (ap (λ (x : List ℕ). byte ∷ x) (row_parts rest))
          ]
    ]

-- what the end of a row leaves
pub record IsEnd (tail rest : List ℕ) : Type 0 where
  pub ends : end_at tail ≡ Some rest
  pub behind : behind_row tail ≡ rest

feed_ends : (rest : List ℕ) → IsEnd (10 ∷ rest) rest
feed_ends rest = record { ends = refl; behind = refl }

pub row_ends : (bytes : List ℕ) → IsEnd (ending_of bytes ++ behind_row bytes) (behind_row bytes)
row_ends [] = record { ends = refl; behind = refl }
row_ends (byte ∷ rest) =
    elim (cases_Bool (eqb byte 10)) [
      | inl is ↦ rw is (feed_ends rest)
      | inr not ↦
          elim (cases_Bool (eqb byte 13 && begins_with 10 rest)) [
            | inl both ↦ rw (not, both) (record { ends = refl; behind = refl })
            | inr other ↦ rw (not, other) (row_ends rest)
          ]
    ]

-- no byte of it is a line feed
abbrev pub lacks_feed : List ℕ → Bool
lacks_feed [] = true
lacks_feed (byte ∷ more) = cond (eqb byte 10) false (lacks_feed more)

pub row_lacks : (bytes : List ℕ) → lacks_feed (row_at bytes) ≡ true
row_lacks [] = refl
row_lacks (byte ∷ rest) =
    elim (cases_Bool (eqb byte 10)) [
      | inl is ↦ rw is refl
      | inr not ↦
          elim (cases_Bool (eqb byte 13 && begins_with 10 rest)) [
            | inl both ↦ rw (not, both) refl
            | inr other ↦ rw (not, other, not) (row_lacks rest)
          ]
    ]

lacks_parts : (byte : ℕ) (more : List ℕ) → lacks_feed (byte ∷ more) ≡ true → (eqb byte 10 ≡ false) × (lacks_feed more ≡ true)
lacks_parts byte more lacks =
    elim (chosen (eqb byte 10) false (lacks_feed more) true lacks) [ inl bad ↦ absurd cc | inr good ↦ good ]

pub lacks_back : (a b : List ℕ) → lacks_feed (a ++ b) ≡ true → lacks_feed b ≡ true
lacks_back [] b lacks = lacks
lacks_back (byte ∷ more) b lacks = lacks_back more b (lacks_parts byte (more ++ b) lacks).1

behind_lacking : (text tail : List ℕ) → lacks_feed text ≡ true → behind_row (text ++ tail) ≡ behind_row tail
behind_lacking [] tail lacks = refl
behind_lacking (byte ∷ more) tail lacks =
    let parts = lacks_parts byte more lacks in
    rw parts.0 (behind_lacking more tail parts.1)

remark_found : (unread tail rest : List ℕ) → IsRemark unread → lacks_feed unread ≡ true → behind_row tail ≡ rest → remark_at (unread ++ tail) ≡ Some rest
remark_found [] tail rest is lacks e = absurd is
remark_found (byte ∷ more) tail rest (inl equals) lacks e =
    let parts = lacks_parts byte more lacks in
    rw equals (ap (λ (x : List ℕ). some x) (behind_lacking more tail parts.1 ∙ e))
remark_found (byte ∷ more) tail rest (inr (space, is)) lacks e =
    let parts = lacks_parts byte more lacks in
    rw space (remark_found more tail rest is parts.1 e)

pub end_found : (unread tail rest : List ℕ) → IsUnread unread → lacks_feed unread ≡ true → IsEnd tail rest → end_at (unread ++ tail) ≡ Some rest
end_found [] tail rest is lacks end = end.ends
end_found (byte ∷ more) tail rest (inl equals) lacks end =
    let parts = lacks_parts byte more lacks in
    rw equals (ap (λ (x : List ℕ). some x) (behind_lacking more tail parts.1 ∙ end.behind))
end_found (byte ∷ more) tail rest (inr (space, is)) lacks end =
    let parts = lacks_parts byte more lacks in
    rw space (remark_found more tail rest is parts.1 end.behind)

remark_ends : (row : List ℕ) → IsRemark row → (rest : List ℕ) × (remark_at row ≡ Some rest)
remark_ends [] is = absurd is
remark_ends (byte ∷ more) (inl equals) = (behind_row more, rw equals refl)
remark_ends (byte ∷ more) (inr (space, is)) = let inner = remark_ends more is in (inner.0, rw space inner.1)

-- a row by itself ends too, wherever that is
pub unread_ends : (unread : List ℕ) → IsUnread unread → (rest : List ℕ) × (end_at unread ≡ Some rest)
unread_ends [] is = ([], refl)
unread_ends (byte ∷ more) (inl equals) = (behind_row more, rw equals refl)
unread_ends (byte ∷ more) (inr (space, is)) =
    let inner = remark_ends more is in
    (inner.0, rw space inner.1)
