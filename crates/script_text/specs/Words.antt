-- Words as they are spelled, and how they are written.
use Rattle.std.specs.Prelude.{◌≡◌, ℕ, ◌+◌, ◌*◌, ◌-◌, ◌≤◌, ◌⊎◌, List, [], ◌∷◌, ◌++◌, ℤ, pos, negsuc, suc, map}
use Rattle.std.specs.List.{flat_map}
use Rattle.std.specs.Fmt.{decimal, signed_decimal}

-- a word of a line: a text that stands for itself, a number, or a number that may be below zero
pub data Word : Type 0 where
  Text : (text : List ℕ) → Word
  Number : (number : ℕ) → Word
  Signed : (number : ℤ) → Word

abbrev pub IsDigits : List ℕ → Type 0
IsDigits [] = Unit {0}
IsDigits (digit ∷ digits) = (48 ≤ digit) × (digit ≤ 57) × IsDigits digits

-- the number of these digits, behind those of a number
abbrev pub value_behind : ℕ → List ℕ → ℕ
value_behind number [] = number
value_behind number (digit ∷ digits) = value_behind (number * 10 + (digit - 48)) digits

-- a number is 0, or a digit from 1 to 9 with digits behind it
abbrev pub IsNumber : List ℕ → ℕ → Type 0
IsNumber [] number = ⊥
IsNumber (first ∷ digits) number =
    ((first ≡ 48) × (digits ≡ []) × (number ≡ 0))
    ⊎ ((49 ≤ first) × (first ≤ 57) × IsDigits digits × (number ≡ value_behind (first - 48) digits))

-- a number below zero has a minus sign before its size
abbrev pub IsSigned : List ℕ → ℤ → Type 0
IsSigned spelled (pos number) = IsNumber spelled number
IsSigned spelled (negsuc number) = (size : List ℕ) × (spelled ≡ 45 ∷ size) × IsNumber size (suc number)

-- these bytes spell the word
abbrev pub IsWord : Word → List ℕ → Type 0
IsWord (Text text) spelled = spelled ≡ text
IsWord (Number number) spelled = IsNumber spelled number
IsWord (Signed number) spelled = IsSigned spelled number

-- each of these words is spelled by the bytes at its place
abbrev pub AreWords : List Word → List (List ℕ) → Type 0
AreWords [] [] = Unit {0}
AreWords (word ∷ words) (spelled ∷ more) = IsWord word spelled × AreWords words more
AreWords _ _ = ⊥

-- words with one space between two of them
abbrev pub spaced : List (List ℕ) → List ℕ
spaced [] = []
spaced (word ∷ words) = word ++ flat_map (λ word. 32 ∷ word) words

-- how a word is written
abbrev pub written : Word → List ℕ
written (Text text) = text
written (Number number) = decimal number
written (Signed number) = signed_decimal number

-- a line of these words, with its end
abbrev pub line_text : List Word → List ℕ
line_text words = spaced (map written words) ++ 10 ∷ []
