-- Reading the rows of a script one after another.
use Rattle.std.specs.Prelude.{◌≡◌, ℕ, ◌+◌, ◌-◌, ◌^◌, ◌<◌, ◌≤◌, map, Result, Ok, Err, ℤ, pos, negsuc, ◌≤ℤ◌, List, [], ◌∷◌, ◌++◌, length, Option, Some, None}
use Rattle.std.specs.Str.Lines.{lines}
use Rattle.plant_book.specs.declared.site.Unit as unit
use Rattle.script_text.specs.declared.line.Line.{Line}
use Rattle.script_text.specs.declared.line.LineKind.{LineKind}
use Rattle.script_text.specs.declared.line.LineKind.TheVariants as kinds
use Rattle.script_text.specs.declared.fields.Fields.{Fields}
use Rattle.script_text.specs.declared.head.HeadLine.{HeadLine}
use Rattle.script_text.specs.declared.head.HeadLine.TheVariants as heads
use Rattle.script_text.specs.declared.head.SiteLine as sites
use Rattle.script_text.specs.declared.rows.Rows.{Rows}
use Rattle.script_text.specs.declared.rows.Row.{Row}
use Rattle.script_text.specs.declared.rows.Row.TheVariants as row
use Rattle.script_text.specs.declared.fault.ScriptFault.{ScriptFault}
use Rattle.script_text.specs.declared.fault.ScriptFault.TheVariants as faults
use Rattle.script_text.specs.Grammar.{Statement, Begin, Says}
use Rattle.script_text.specs.Script.{Say, statements_of, MayFollow, Lacks, EachMayFollow, IsFirstBadLine, HasNoBadLine, InRange, begins_in, inverters_in, latest_in, site_statement, inverter_statement}
use Rattle.script_text.specs.Reading.{statement_of}

-- the rows before the rest say these statements, each of which may follow those before it; so many rows and one
-- are counted
pub record Progress (bytes rest : List ℕ) (statements : List Statement) (number : ℕ) : Type 0 where
  pub before : List (List ℕ)
  pub rows : lines bytes ≡ before ++ lines rest
  pub said : List (Option Statement)
  pub say : Say before said
  pub statements_are : statements_of said ≡ statements
  pub each : EachMayFollow [] statements
  pub count : number ≡ length before + 1

-- why bytes are read as no script: for want of memory only where they have no bad line
abbrev pub Explains : ScriptFault → List ℕ → Type 0
Explains faults.NoMemory bytes = HasNoBadLine bytes
Explains (faults.BadLine line kind) bytes = IsFirstBadLine bytes line kind

-- why bytes that were read without taking memory are no script: their first bad line
abbrev pub IsBadLine : ScriptFault → List ℕ → Type 0
IsBadLine faults.NoMemory bytes = ⊥
IsBadLine (faults.BadLine line kind) bytes = IsFirstBadLine bytes line kind

-- the rows that are still to be read, behind these statements
abbrev pub IsAt : Rows → List Statement → Type 0
IsAt rows statements = Progress rows.whole.now rows.rest.now statements rows.number

-- The numbers of a row were read, and the rows behind it: the statement that they are goes on where it may follow,
-- and else its row is bad.
pub record Said (rows : Rows) (numbers : Fields) (behind : Rows) : Type 0 where
  pub whole : behind.whole.now ≡ rows.whole.now
  pub shorter : length behind.rest.now < length rows.rest.now
  pub number : rows.number < behind.number
  pub goes_on : (before : List Statement) → IsAt rows before → MayFollow before (statement_of numbers)
      → IsAt behind (before ++ statement_of numbers ∷ [])
  pub bad : (before : List Statement) (kind : LineKind) → IsAt rows before → Lacks kind before (statement_of numbers)
      → IsFirstBadLine rows.whole.now (behind.number - 1) kind

-- what is at the front of the rows: no row, a row that is no line, or the numbers of a line
abbrev pub IsNextRow : Rows → Row → Type 0
IsNextRow rows (row.End number) =
    (before : List Statement) → IsAt rows before → Progress rows.whole.now [] before number
IsNextRow rows (row.Bad number) =
    (before : List Statement) → IsAt rows before → IsFirstBadLine rows.whole.now number kinds.Form
IsNextRow rows (row.Said numbers behind) = Said rows numbers behind

-- a line of these numbers, if they are in range
abbrev pub Judges : Option Line → Line → Type 0
Judges None line = InRange (Says line) → ⊥
Judges (Some found) line = (found ≡ line) × InRange (Says line)

-- what a line of a head says
abbrev pub head_statement : HeadLine → Statement
head_statement (heads.Inverter unit) = inverter_statement unit
head_statement (heads.Begin start) = Begin start

-- the rows behind have numbers of 32 bits
abbrev pub IsFew : Row → Type 0
IsFew (row.Said numbers behind) = behind.number + length behind.rest.now < 2 ^ 32
IsFew _ = Unit {0}

-- a line of a head that says this, if it is in range
abbrev pub JudgesHead : Option HeadLine → Statement → Type 0
JudgesHead None statement = InRange statement → ⊥
JudgesHead (Some line) statement = (head_statement line ≡ statement) × InRange statement

-- why there is no next line of a head, where there was no begin
abbrev pub HeadFault : Rows → ScriptFault → Type 0
HeadFault rows fault =
    (before : List Statement) → IsAt rows before → begins_in before ≡ [] → IsBadLine fault rows.whole.now

-- the rows behind are those of the same bytes, further on
pub record IsFurther (rows behind : Rows) : Type 0 where
  pub whole : behind.whole.now ≡ rows.whole.now
  pub shorter : length behind.rest.now < length rows.rest.now
  pub number : rows.number < behind.number
  pub few : behind.number + length behind.rest.now < 2 ^ 32

-- the site line was read
pub record SiteTaken (rows : Rows) (site : sites.SiteLine) (behind : Rows) : Type 0 where
  pub further : IsFurther rows behind
  pub is_at : IsAt rows [] → IsAt behind (site_statement site.cap site.rules site.policy site.room ∷ [])

-- a line of a head was read behind its site line
pub record HeadLineTaken (rows : Rows) (line : HeadLine) (behind : Rows) : Type 0 where
  pub further : IsFurther rows behind
  pub is_at : (before : List Statement) → IsAt rows before → 1 ≤ length before → begins_in before ≡ []
      → IsAt behind (before ++ head_statement line ∷ [])

abbrev pub HeadLineFault : Rows → ScriptFault → Type 0
HeadLineFault rows fault =
    (before : List Statement) → IsAt rows before → 1 ≤ length before → begins_in before ≡ []
    → IsBadLine fault rows.whole.now

-- the inverters and the begin were read behind the site line
pub record UnitsTaken (rows : Rows) (units : List unit.Unit) (start : ℕ) (behind : Rows) : Type 0 where
  pub whole : behind.whole.now ≡ rows.whole.now
  pub few : behind.number + length behind.rest.now < 2 ^ 32
  pub count : length units < 2 ^ 32
  pub is_at : (site : Statement) → begins_in (site ∷ []) ≡ [] → IsAt rows (site ∷ [])
      → IsAt behind (site ∷ map inverter_statement units ++ Begin start ∷ [])

-- why there are no inverters and begin behind the site line: a bad line
abbrev pub UnitsFault : Rows → ScriptFault → Type 0
UnitsFault rows fault =
    (site : Statement) → begins_in (site ∷ []) ≡ [] → IsAt rows (site ∷ []) → IsBadLine fault rows.whole.now

-- or want of memory for them
abbrev pub UnitsRefused : Rows → ScriptFault → Type 0
UnitsRefused rows fault =
    (site : Statement) → begins_in (site ∷ []) ≡ [] → IsAt rows (site ∷ []) → Explains fault rows.whole.now

-- these statements are a head of so many inverters and lines behind it up to this last moment
pub record IsBegun (inverters latest : ℕ) (before : List Statement) : Type 0 where
  pub begun : 1 ≤ length (begins_in before)
  pub inverters_are : inverters_in before ≡ inverters
  pub latest_is : latest_in before ≡ latest

-- a line behind a head was read, or the end
pub record OneLineTaken (rows : Rows) (inverters latest : ℕ) (line : Line) (behind : Rows) : Type 0 where
  pub further : IsFurther rows behind
  pub is_at : (before : List Statement) → IsAt rows before → IsBegun inverters latest before
      → IsAt behind (before ++ Says line ∷ [])

abbrev pub LineFault : Rows → ℕ → ℕ → ScriptFault → Type 0
LineFault rows inverters latest fault =
    (before : List Statement) → IsAt rows before → IsBegun inverters latest before → IsBadLine fault rows.whole.now

abbrev pub LineTaken : Rows → ℕ → ℕ → Result (Option (Line × Rows)) ScriptFault → Type 0
LineTaken rows inverters latest (Ok None) =
    (before : List Statement) → IsAt rows before → (number : ℕ) × Progress rows.whole.now [] before number
LineTaken rows inverters latest (Ok (Some found)) = OneLineTaken rows inverters latest found.0 found.1
LineTaken rows inverters latest (Err fault) = LineFault rows inverters latest fault

-- all lines behind a head were read
abbrev pub LinesTaken : Rows → ℕ → ℕ → List Line → Type 0
LinesTaken rows inverters start taken =
    (before : List Statement) → IsAt rows before → IsBegun inverters start before
    → (number : ℕ) × Progress rows.whole.now [] (before ++ map (λ line. Says line) taken) number

-- the points of an inverter fit their 16 bits
abbrev pub AreFactors : ℕ → ℤ → ℤ → Type 0
AreFactors wmax wsf psf =
    (wmax ≤ 65535) × (negsuc 32767 ≤ℤ wsf) × (wsf ≤ℤ pos 32767) × (negsuc 32767 ≤ℤ psf) × (psf ≤ℤ pos 32767)
