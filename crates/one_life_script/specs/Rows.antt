-- Rows in the grammar of scripts, whatever their words.
use Rattle.std.specs.Prelude.{◌≡◌, ℕ, ◌^◌, ◌-◌, Bool, true, ◌&&◌, nat_lt, List, ◌∷◌, [], ◌++◌, Option, Some, min}
use Rattle.script_text.specs.Words.{Word, Text, Number, AreWords, spaced}
use Rattle.script_text.specs.Grammar.{IsUnread}
use Rattle.script_text.specs.Reading.{◌>>=◌, number_most, rest_after, next_at, end_at, row_at, behind_row}

-- the row begins with this text
abbrev pub BeginsWith : List ℕ → List ℕ → Type 0
BeginsWith text row = (more : List ℕ) × (row ≡ text ++ more)

-- the row spells these words, one space between two, and what isn't read stands behind
pub record SpellsWords (row : List ℕ) (words : List Word) : Type 0 where
  pub spelled : List (List ℕ)
  pub unread : List ℕ
  pub are : AreWords words spelled
  pub spelling : row ≡ spaced spelled ++ unread
  pub is_unread : IsUnread unread

-- a text and three numbers
abbrev pub three_words : List ℕ → (a b c : ℕ) → List Word
three_words text a b c = Text text ∷ Number a ∷ Number b ∷ Number c ∷ []

-- no byte of the text is a space or a control character, so none of it ends a row
abbrev pub is_plain : List ℕ → Bool
is_plain [] = true
is_plain (byte ∷ more) = nat_lt 32 byte && is_plain more

-- how a text and three numbers are read at the front of bytes
unfoldable pub three_at : List ℕ → List ℕ → Option ((ℕ × ℕ × ℕ) × List ℕ)
three_at text bytes = do
  rest ← rest_after text bytes
  a ← next_at number_most rest
  b ← next_at number_most a.1
  c ← next_at number_most b.1
  behind ← end_at c.1
  Some ((a.0, b.0, c.0), behind)

-- the row at the front spells the text and three numbers, each of which is read as 2^64 - 1 at most; behind it are
-- these bytes
pub record ThreeFound (text bytes : List ℕ) (a b c : ℕ) (behind : List ℕ) : Type 0 where
  pub first : ℕ
  pub second : ℕ
  pub third : ℕ
  pub spells : SpellsWords (row_at bytes) (three_words text first second third)
  pub first_is : a ≡ min first (2 ^ 64 - 1)
  pub second_is : b ≡ min second (2 ^ 64 - 1)
  pub third_is : c ≡ min third (2 ^ 64 - 1)
  pub behind_is : behind ≡ behind_row bytes

-- the row at the front spells the text and three numbers for none
abbrev pub SpellsNoThree : List ℕ → List ℕ → Type 0
SpellsNoThree text bytes = (a b c : ℕ) → SpellsWords (row_at bytes) (three_words text a b c) → ⊥
