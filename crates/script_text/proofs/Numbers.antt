-- A number that is read is one that is spelled, and what is spelled is read.
use Rattle.std.proofs.Common.{◌≡◌, ℕ, suc, ◌+◌, ◌*◌, ◌-◌, ◌^◌, ◌<◌, ◌≤◌, min, Bool, true, false, cond, eqb, ltb, ◌||◌, ◌⊎◌, List, [], ◌∷◌, ◌++◌, length, take, drop, get_or, Option, Some, None, refl, sym, ap, ◌∙◌, arith, rules, inl, inr, ℤ, pos, negsuc}
use Rattle.std.specs.Prelude.{codes}
use Rattle.std.specs.Fmt.{decimal, signed_decimal}
use Rattle.std.specs.Str.{bytes_eq}
use Rattle.std.proofs.lemmas.Bool.{eqb-true, ne_eqb, cases_Bool}
use Rattle.std.proofs.lemmas.Bool.Decides.{nat_tests}
use Rattle.std.proofs.lemmas.Slice.Eq.{bytes_eq-Decides}
use Rattle.std.proofs.lemmas.List.{take-append-drop}
use Rattle.std.proofs.lemmas.Str.Parse.{IsNumeralModel, numerals_by_fold}
use Rattle.std.proofs.lemmas.Fmt.{decimal_digit, decimal_nonempty, first_decimal, digits_decimal, digits_value-decimal}
use Rattle.script_text.specs.Words.{IsDigits, value_behind, IsNumber, IsSigned}
use Rattle.script_text.specs.Reading.{◌>>=◌, rest_after, reading, digits_at, number_at, next_at, below_zero, negative_at, positive_at, signed_at, cut}
use Rattle.script_text.proofs.LineEnds.{some, some_is, chosen}

-- the value of a step that gave one
pub bind_some : {A B : Type 0} (r : Option A) (f : A → Option B) (y : B) → (r >>= f) ≡ Some y → (x : A) × (r ≡ Some x) × (f x ≡ Some y)
bind_some (Some x) f y e = (x, refl, e)
bind_some None f y e = absurd cc

pub after_is : (text bytes rest : List ℕ) → rest_after text bytes ≡ Some rest → bytes ≡ text ++ rest
after_is text bytes rest e =
    elim (chosen (bytes_eq (take (length text) bytes) text) (Some (drop (length text) bytes)) None (Some rest) e) [
      | inl is ↦
          let front : take (length text) bytes ≡ text = (bytes_eq-Decides (take (length text) bytes) text).0 is.0 in
          let back : drop (length text) bytes ≡ rest = some_is (drop (length text) bytes) rest is.1 in
          sym (take-append-drop (length text) bytes) ∙ rw (front, back) refl
      | inr not ↦ absurd cc
    ]

pub behind_is : {X : Type 0} (o : Option (List ℕ)) (read : List ℕ → Option X) (other : Option X) (y : X) → reading o read other ≡ Some y → ((rest : List ℕ) × (o ≡ Some rest) × (read rest ≡ Some y)) ⊎ (other ≡ Some y)
behind_is (Some rest) read other y e = inl (rest, refl, e)
behind_is None read other y e = inr e

-- digits

pub outside : (low high c : ℕ) → (ltb c low || ltb high c) ≡ false → (low ≤ c) × (c ≤ high)
outside low high c e = grind (arith, nat_tests)

pub inside : (low high c : ℕ) → low ≤ c → c ≤ high → (ltb c low || ltb high c) ≡ false
inside low high c l h = grind (arith, nat_tests)

-- no digit stands at the front
abbrev pub no_digit : List ℕ → Bool
no_digit [] = true
no_digit (byte ∷ more) = ltb byte 48 || ltb 57 byte

abbrev front : List ℕ → List ℕ
front [] = []
front (byte ∷ more) = cond (ltb byte 48 || ltb 57 byte) [] (byte ∷ front more)

abbrev back : List ℕ → List ℕ
back [] = []
back (byte ∷ more) = cond (ltb byte 48 || ltb 57 byte) (byte ∷ more) (back more)

front_back : (bytes : List ℕ) → bytes ≡ front bytes ++ back bytes
front_back [] = refl
front_back (byte ∷ more) =
    elim (cases_Bool (ltb byte 48 || ltb 57 byte)) [ inl end ↦ rw end refl | inr digit ↦ rw digit (ap (λ (x : List ℕ). byte ∷ x) (front_back more)) ]

front_digits : (bytes : List ℕ) → IsDigits (front bytes)
front_digits [] = tt
front_digits (byte ∷ more) =
    elim (cases_Bool (ltb byte 48 || ltb 57 byte)) [
      | inl end ↦ rw end tt
      | inr digit ↦ let range = outside 48 57 byte digit in rw digit (range.0, range.1, front_digits more)
    ]

digits_are : (most number : ℕ) (bytes : List ℕ) → digits_at most (min number most) bytes ≡ (min (value_behind number (front bytes)) most, back bytes)
unfolding digits_at
digits_are most number [] = refl
digits_are most number (byte ∷ more) =
    elim (cases_Bool (ltb byte 48 || ltb 57 byte)) [
      | inl end ↦ rw end refl
      | inr digit ↦
          let step : min (min number most * 10 + (byte - 48)) most ≡ min (number * 10 + (byte - 48)) most = omega arith in
          rw (digit, step) (digits_are most (number * 10 + (byte - 48)) more)
    ]

digits_front : (digits more : List ℕ) → IsDigits digits → no_digit more ≡ true → (front (digits ++ more) ≡ digits) × (back (digits ++ more) ≡ more)
digits_front [] [] are none = (refl, refl)
digits_front [] (byte ∷ more) are none = (rw none refl, rw none refl)
digits_front (digit ∷ digits) more are none =
    let test = inside 48 57 digit are.0 are.1 in
    let inner = digits_front digits more are.2 none in
    (rw test (ap (λ (x : List ℕ). digit ∷ x) inner.0), rw test inner.1)

-- numbers

-- a number that was read, and how it is spelled
pub record Taken (most : ℕ) (bytes : List ℕ) (value : ℕ) (rest : List ℕ) : Type 0 where
  pub word : List ℕ
  pub number : ℕ
  pub parts : bytes ≡ word ++ rest
  pub is : IsNumber word number
  pub value_is : value ≡ min number most

pub number_taken : (most : ℕ) (bytes : List ℕ) (value : ℕ) (rest : List ℕ) → 9 ≤ most → number_at most bytes ≡ Some (value, rest) → Taken most bytes value rest
unfolding number_at
number_taken most [] value rest big e = absurd cc
number_taken most (byte ∷ more) value rest big e =
    elim (chosen (eqb byte 48) (Some (0, more)) (cond (ltb byte 49 || ltb 57 byte) None (Some (digits_at most (byte - 48) more))) (Some (value, rest)) e) [
      | inl nil ↦
          let same = some_is (0, more) (value, rest) nil.1 in
          let rest-is : more ≡ rest = ap (λ (p : ℕ × List ℕ). p.1) same in
          let value-is : 0 ≡ value = ap (λ (p : ℕ × List ℕ). p.0) same in
          record { word = byte ∷ []; number = 0; parts = ap (λ (x : List ℕ). byte ∷ x) rest-is; is = inl (eqb-true byte 48 nil.0, refl, refl); value_is = sym value-is ∙ omega arith }
      | inr not ↦
          elim (chosen (ltb byte 49 || ltb 57 byte) None (Some (digits_at most (byte - 48) more)) (Some (value, rest)) not.1) [
            | inl bad ↦ absurd cc
            | inr digit ↦
                let range = outside 49 57 byte digit.0 in
                let small : min (byte - 48) most ≡ byte - 48 = omega (arith, range.1, big) in
                let read : digits_at most (byte - 48) more ≡ (min (value_behind (byte - 48) (front more)) most, back more) =
                ap (λ (n : ℕ). digits_at most n more) (sym small) ∙ digits_are most (byte - 48) more in
                let same : (min (value_behind (byte - 48) (front more)) most, back more) ≡ (value, rest) = sym read ∙ some_is (digits_at most (byte - 48) more) (value, rest) digit.1 in
                record {
                  word = byte ∷ front more;
                  number = value_behind (byte - 48) (front more);
                  parts = ap (λ (x : List ℕ). byte ∷ x) (front_back more ∙ ap (λ (p : ℕ × List ℕ). front more ++ p.1) same);
                  is = inr (range.0, range.1, front_digits more, refl);
                  value_is = sym (ap (λ (p : ℕ × List ℕ). p.0) same);
                }
          ]
    ]

pub number_found : (most : ℕ) (word more : List ℕ) (number : ℕ) → 9 ≤ most → IsNumber word number → no_digit more ≡ true → number_at most (word ++ more) ≡ Some (min number most, more)
unfolding number_at
number_found most [] more number big is none = absurd is
number_found most (first ∷ digits) more number big (inl (nil, none_behind, value)) none =
    let zero : min number most ≡ 0 = omega (arith, value) in
    rw (nil, none_behind, zero) refl
number_found most (first ∷ digits) more number big (inr (low, high, are, value)) none =
    let other : eqb first 48 ≡ false = ne_eqb first 48 (omega (arith, low)) in
    let test = inside 49 57 first low high in
    let small : min (first - 48) most ≡ first - 48 = omega (arith, high, big) in
    let ends = digits_front digits more are none in
    let read : digits_at most (first - 48) (digits ++ more) ≡ (min (value_behind (first - 48) (front (digits ++ more))) most, back (digits ++ more)) =
    ap (λ (n : ℕ). digits_at most n (digits ++ more)) (sym small) ∙ digits_are most (first - 48) (digits ++ more) in
    let read' : digits_at most (first - 48) (digits ++ more) ≡ (min number most, more) =
    read ∙ rw (ends.0, ends.1, value) refl in
    rw (other, test) (ap (λ (p : ℕ × List ℕ). some p) read')

pub record NextTaken (most : ℕ) (bytes : List ℕ) (value : ℕ) (rest : List ℕ) : Type 0 where
  pub word : List ℕ
  pub number : ℕ
  pub parts : bytes ≡ 32 ∷ (word ++ rest)
  pub is : IsNumber word number
  pub value_is : value ≡ min number most

pub next_taken : (most : ℕ) (bytes : List ℕ) (value : ℕ) (rest : List ℕ) → 9 ≤ most → next_at most bytes ≡ Some (value, rest) → NextTaken most bytes value rest
unfolding next_at
next_taken most [] value rest big e = absurd cc
next_taken most (byte ∷ more) value rest big e =
    elim (chosen (eqb byte 32) (number_at most more) None (Some (value, rest)) e) [
      | inl is ↦
          let space : byte ≡ 32 = eqb-true byte 32 is.0 in
          let inner = number_taken most more value rest big is.1 in
          record { word = inner.word; number = inner.number; parts = λ i. space i ∷ inner.parts i; is = inner.is; value_is = inner.value_is }
      | inr not ↦ absurd cc
    ]

pub next_found : (most : ℕ) (word more : List ℕ) (number : ℕ) → 9 ≤ most → IsNumber word number → no_digit more ≡ true → next_at most (32 ∷ (word ++ more)) ≡ Some (min number most, more)
unfolding next_at
next_found most word more number big is none = number_found most word more number big is none

-- numbers that may be below zero

pub record SignedTaken (most_size : ℕ) (bytes : List ℕ) (value : ℤ) (rest : List ℕ) : Type 0 where
  pub word : List ℕ
  pub number : ℤ
  pub parts : bytes ≡ 32 ∷ (word ++ rest)
  pub is : IsSigned word number
  pub value_is : value ≡ cut most_size number

size_is : (n : ℕ) → eqb n 0 ≡ false → suc (n - 1) ≡ n
size_is n e = grind (arith, nat_tests, e)

pub signed_taken : (most most_size : ℕ) (bytes : List ℕ) (value : ℤ) (rest : List ℕ) → 9 ≤ most → most_size ≤ most → signed_at most most_size bytes ≡ Some (value, rest) → SignedTaken most_size bytes value rest
unfolding signed_at
signed_taken most most_size bytes value rest big le e =
    elim (behind_is (rest_after (codes " -") bytes) (negative_at most most_size) (positive_at most most_size bytes) (value, rest) e) [
      | inl below ↦
          let a = bind_some (number_at most below.0) _ (value, rest) below.2 in
          let b = bind_some (below_zero most_size a.0.0) (λ number. Some (number, a.0.1)) (value, rest) a.2 in
          let same = some_is (b.0, a.0.1) (value, rest) b.2 in
          let n = number_taken most below.0 a.0.0 a.0.1 big a.1 in
          let rest-is : a.0.1 ≡ rest = ap (λ (p : ℤ × List ℕ). p.1) same in
          elim (chosen (eqb a.0.0 0) None (Some (negsuc (min a.0.0 most_size - 1))) (Some b.0) b.1) [
            | inl bad ↦ absurd cc
            | inr good ↦
                let some : eqb n.number 0 ≡ false = grind (arith, nat_tests, n.value_is, good.0) in
                let size : suc (n.number - 1) ≡ n.number = size_is n.number some in
                let cut_is : min a.0.0 most_size ≡ min n.number most_size = omega (arith, n.value_is, le) in
                record {
                  word = 45 ∷ n.word;
                  number = negsuc (n.number - 1);
                  parts = after_is (codes " -") bytes below.0 below.1 ∙ ap (λ (x : List ℕ). 32 ∷ 45 ∷ x) (n.parts ∙ ap (λ (x : List ℕ). n.word ++ x) rest-is);
                  is = (n.word, refl, rw size n.is);
                  value_is = sym (ap (λ (p : ℤ × List ℕ). p.0) same) ∙ sym (some_is (negsuc (min a.0.0 most_size - 1)) b.0 good.1) ∙ rw (cut_is, size) refl;
                }
          ]
      | inr above ↦
          let a = bind_some (next_at most bytes) _ (value, rest) above in
          let n = next_taken most bytes a.0.0 a.0.1 big a.1 in
          let same = some_is (pos (min a.0.0 most_size), a.0.1) (value, rest) a.2 in
          let rest-is : a.0.1 ≡ rest = ap (λ (p : ℤ × List ℕ). p.1) same in
          let cut_is : min a.0.0 most_size ≡ min n.number most_size = omega (arith, n.value_is, le) in
          record {
            word = n.word;
            number = pos n.number;
            parts = n.parts ∙ ap (λ (x : List ℕ). 32 ∷ (n.word ++ x)) rest-is;
            is = n.is;
            value_is = sym (ap (λ (p : ℤ × List ℕ). p.0) same) ∙ ap (λ (k : ℕ). pos k) cut_is;
          }
    ]

no_minus : (word more : List ℕ) (number : ℕ) → IsNumber word number → rest_after (codes " -") (32 ∷ (word ++ more)) ≡ None
no_minus [] more number is = absurd is
no_minus (first ∷ digits) more number (inl (nil, none, value)) = rw nil refl
no_minus (first ∷ digits) more number (inr (low, high, are, value)) = rw (ne_eqb first 45 (omega (arith, low))) refl

some_number : (most n : ℕ) → 9 ≤ most → eqb (min (suc n) most) 0 ≡ false
some_number most n big = ne_eqb (min (suc n) most) 0 (omega (arith, big))

pub signed_found : (most most_size : ℕ) (word more : List ℕ) (number : ℤ) → 9 ≤ most → most_size ≤ most → IsSigned word number → no_digit more ≡ true → signed_at most most_size (32 ∷ (word ++ more)) ≡ Some (cut most_size number, more)
unfolding signed_at
signed_found most most_size word more (pos n) big le is none =
    let same : min (min n most) most_size ≡ min n most_size = omega (arith, le) in
    rw (no_minus word more n is, next_found most word more n big is none, same) refl
signed_found most most_size word more (negsuc n) big le (size, spelled, is) none =
    let same : min (min (suc n) most) most_size ≡ min (suc n) most_size = omega (arith, le) in
    rw spelled (rw (number_found most size more (suc n) big is none, some_number most n big, same) refl)

-- what is written

own : IsNumeralModel IsDigits (value_behind 0)
own = numerals_by_fold _ (search rules) value_behind (search rules)

first_is : (c : ℕ) (cs : List ℕ) → c ∷ cs ≡ 48 ∷ [] → c ≡ 48
first_is c cs e = cc

rest_is : (c : ℕ) (cs : List ℕ) → c ∷ cs ≡ 48 ∷ [] → cs ≡ []
rest_is c cs e = cc

spelled_is : (digits : List ℕ) (n : ℕ) → IsDigits digits → value_behind 0 digits ≡ n → 0 < length digits → (0 < n → 48 < get_or digits 0 0) → (n ≡ 0 → digits ≡ 48 ∷ []) → IsNumber digits n
spelled_is [] n are value long first zero = absurd (omega (arith, long))
spelled_is (c ∷ cs) n are value long first zero =
    elim (cases_Bool (eqb n 0)) [
      | inl nil ↦
          let n-is : n ≡ 0 = eqb-true n 0 nil in
          let all = zero n-is in
          let c-is : c ≡ 48 = first_is c cs all in
          let cs-is : cs ≡ [] = rest_is c cs all in
          inl (c-is, cs-is, n-is)
      | inr above ↦
          let high : 0 < n = grind (arith, nat_tests, above) in
          let low : 49 ≤ c = omega (arith, first high) in
          let start : 0 * 10 + (c - 48) ≡ c - 48 = omega arith in
          inr (low, are.1, are.2, sym value ∙ ap (λ (k : ℕ). value_behind k cs) start)
    ]

pub decimal_is : (n : ℕ) → n < 2 ^ 64 → IsNumber (decimal n) n
decimal_is n small =
    spelled_is (decimal n) n (digits_decimal own n small) (digits_value-decimal own n small) (decimal_nonempty n small) (λ some. first_decimal n some small) (λ zero. ap decimal zero ∙ decimal_digit 0 (omega arith))

abbrev pub Fits16 : ℤ → Type 0
Fits16 (pos n) = n ≤ 32767
Fits16 (negsuc n) = n ≤ 32767

pub signed_decimal_is : (z : ℤ) → Fits16 z → IsSigned (signed_decimal z) z
signed_decimal_is (pos n) fits = decimal_is n (omega (arith, fits))
signed_decimal_is (negsuc n) fits = (decimal (suc n), refl, decimal_is (suc n) (omega (arith, fits)))
