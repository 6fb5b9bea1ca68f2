-- Bytes in parts, and the words of orders.
use Rattle.std.proofs.Common.{◌≡◌, ℕ, suc, ◌<◌, ◌^◌, List, [], ◌∷◌, ◌++◌, refl, sym, ap, ◌∙◌, arith, append_assoc}
use Rattle.std.specs.Prelude.{codes}
use Rattle.std.specs.Fmt.{decimal}
use Rattle.std.specs.Str.Iter.{LacksByte}
use Rattle.std.specs.Str.Parse.{AllDigits}
use Rattle.std.proofs.lemmas.Str.Parse.{numerals_by_value, not_in_digits, tells_digits}
use Rattle.std.proofs.lemmas.Fmt.{decimal_injective, digits_decimal}

tail_lacks : (byte x : ℕ) (xs : List ℕ) → LacksByte byte (x ∷ xs) → LacksByte byte xs
tail_lacks byte x xs lacks = λ k below. lacks (suc k) (omega (arith, below))

-- bytes have one first such byte
pub one_split : (byte : ℕ) (a b c d : List ℕ) → LacksByte byte a → LacksByte byte c → a ++ byte ∷ b ≡ c ++ byte ∷ d → (a ≡ c) × (b ≡ d)
one_split byte [] b [] d la lc e = (refl, cc)
one_split byte [] b (x ∷ c) d la lc e = absurd (lc 0 (omega arith) (let same : x ≡ byte = cc in same))
one_split byte (x ∷ a) b [] d la lc e = absurd (la 0 (omega arith) (let same : x ≡ byte = cc in same))
one_split byte (x ∷ a) b (y ∷ c) d la lc e =
    let head : x ≡ y = cc in
    let behind : a ++ byte ∷ b ≡ c ++ byte ∷ d = cc in
    let rest = one_split byte a b c d (tail_lacks byte x a la) (tail_lacks byte y c lc) behind in
    (ap (λ (z : ℕ). z ∷ a) head ∙ ap (λ (z : List ℕ). y ∷ z) rest.0, rest.1)

-- no space stands in a number
pub no_space : (n : ℕ) → n < 2 ^ 64 → LacksByte 32 (decimal n)
no_space n small = not_in_digits (numerals_by_value (AllDigits 10) tells_digits) (decimal n) 32 (digits_decimal (numerals_by_value (AllDigits 10) tells_digits) n small) (λ within. omega (arith, within.0))

-- two numbers with a space between them, as they are read
pub two_words : (words a b : List ℕ) (inverter mw : ℕ) → inverter < 2 ^ 64 → LacksByte 32 a → words ≡ a ++ 32 ∷ b
    → words ≡ decimal inverter ++ codes " " ++ decimal mw → (a ≡ decimal inverter) × (b ≡ decimal mw)
two_words words a b inverter mw small lacks read spelled =
    let same : a ++ 32 ∷ b ≡ decimal inverter ++ 32 ∷ decimal mw = sym read ∙ spelled ∙ append_assoc (decimal inverter) (codes " ") (decimal mw) in
    one_split 32 a b (decimal inverter) (decimal mw) lacks (no_space inverter small) same

-- a word is one number
pub one_number : (word : List ℕ) (a n : ℕ) → a < 2 ^ 64 → n < 2 ^ 64 → word ≡ decimal a → word ≡ decimal n → a ≡ n
one_number word a n small fits read spelled = decimal_injective a n small fits (sym read ∙ spelled)
