-- Scripts of one life: scripts of which no row begins with `restart` or with `roll`.
use Rattle.std.specs.Prelude.{◌≡◌, ◌⊎◌, ℕ, ◌+◌, ◌^◌, ◌<◌, List, [], ◌∷◌, ◌++◌, length, codes, Option, Result, MatchResult}
use Rattle.std.specs.List.{AllByRecursion}
use Rattle.std.specs.Str.Lines.{lines}
use Rattle.script_text.specs.declared.line.LineKind.{LineKind}
use Rattle.script_text.specs.declared.line.LineKind.TheVariants as kinds
use Rattle.script_text.specs.declared.fault.ScriptFault.{ScriptFault}
use Rattle.script_text.specs.declared.fault.ScriptFault.TheVariants as faults
use Rattle.script_text.specs.declared.size.SiteSize as sizes
use Rattle.script_text.specs.Grammar.{Statement}
use Rattle.script_text.specs.Script.{ScriptRecord, IsScript, IsBad, Say, EachMayFollow, statements_of}
use Rattle.script_text.specs.Progress.{IsBadLine}
use Rattle.script_text.specs.Size.{IsSizeOf, HasSize}
use Rattle.one_life_script.specs.Rows.{BeginsWith}

-- the row would end a life or a book: it begins with `restart` or with `roll`, whatever stands behind
abbrev pub EndsBook : List ℕ → Type 0
EndsBook row = BeginsWith (codes "restart") row ⊎ BeginsWith (codes "roll") row

-- none of the rows ends a book
abbrev pub EndNoBook : List (List ℕ) → Type 0
EndNoBook rows = AllByRecursion (λ row. EndsBook row → ⊥) rows

-- the bytes are this script, and no row of theirs ends a book
pub record IsOneLifeScript (bytes : List ℕ) (script : ScriptRecord) : Type 0 where
  pub is_script : IsScript bytes script
  pub one : EndNoBook (lines bytes)

-- why a row is bad behind these statements: it ends a book, which is no form of these scripts; or as in any script
abbrev pub IsBadOfOne : LineKind → List Statement → List (List ℕ) → Type 0
IsBadOfOne kind before [] = IsBad kind before []
IsBadOfOne kind before (row ∷ more) =
    (EndsBook row × (kind ≡ kinds.Form)) ⊎ ((EndsBook row → ⊥) × IsBad kind before (row ∷ more))

-- The line of this number, counted from 1, is the first bad one of the bytes, of this kind: the rows before it are
-- comments and statements that may follow each other, and end no book.
pub record IsFirstBadLineOfOne (bytes : List ℕ) (number : ℕ) (kind : LineKind) : Type 0 where
  pub before : List (List ℕ)
  pub rest : List (List ℕ)
  pub rows : lines bytes ≡ before ++ rest
  pub said : List (Option Statement)
  pub say : Say before said
  pub each : EachMayFollow [] (statements_of said)
  pub one : EndNoBook before
  pub bad : IsBadOfOne kind (statements_of said) rest
  pub count : number ≡ length before + 1

-- the bytes have no bad line
abbrev pub HasNoBadLineOfOne : List ℕ → Type 0
HasNoBadLineOfOne bytes = (line : ℕ) (kind : LineKind) → IsFirstBadLineOfOne bytes line kind → ⊥

-- the row of this number, counted from 1, is the first one that ends a book
pub record EndsBookFirst (bytes : List ℕ) (number : ℕ) : Type 0 where
  pub before : List (List ℕ)
  pub row : List ℕ
  pub more : List (List ℕ)
  pub rows : lines bytes ≡ before ++ row ∷ more
  pub one : EndNoBook before
  pub ends : EndsBook row
  pub count : number ≡ length before + 1

-- what came of judging the bytes as a script of any lives
abbrev pub IsJudged : List ℕ → Result sizes.SiteSize ScriptFault → Type 0
IsJudged bytes judged = MatchResult judged (λ size. HasSize bytes size) (λ fault. IsBadLine fault bytes)

-- the bytes are a script of one life whose site has this size
pub record HasOneLife (bytes : List ℕ) (size : sizes.SiteSize) : Type 0 where
  pub script : ScriptRecord
  pub is_script : IsOneLifeScript bytes script
  pub size_is : IsSizeOf script.site size
  pub few : size.inverters < 2 ^ 32

-- why bytes are no script of one life: their first bad line
abbrev pub IsBadOneLife : ScriptFault → List ℕ → Type 0
IsBadOneLife faults.NoMemory bytes = ⊥
IsBadOneLife (faults.BadLine line kind) bytes = IsFirstBadLineOfOne bytes line kind
