-- A script of which the head was read, and some of the lines behind it.
use Rattle.std.specs.Prelude.{◌≡◌, ℕ, ◌+◌, ◌^◌, ◌<◌, List, [], ◌∷◌, ◌++◌, length, Result, Ok, Err, Option, Some, None}
use Rattle.script_text.specs.declared.line.Line.{Line}
use Rattle.script_text.specs.declared.lines.Lines.{Lines}
use Rattle.script_text.specs.declared.lines.Begun.{Begun}
use Rattle.script_text.specs.declared.fault.ScriptFault.{ScriptFault}
use Rattle.script_text.specs.Script.{ScriptRecord, script_statements, IsScript}
use Rattle.script_text.specs.Progress.{IsAt, IsBegun, IsBadLine, Explains}

-- the numbers of the rows ahead have 32 bits
abbrev pub CanGoOn : Lines → Type 0
CanGoOn lines = lines.rows.number + length lines.rows.rest.now < 2 ^ 32

-- how many bytes are still to be read
abbrev pub bytes_ahead : Lines → ℕ
bytes_ahead lines = length lines.rows.rest.now

-- The bytes begin with the head and the lines of this script, each of which may follow those before it, and these
-- lines are those behind it.
pub record HasRead (bytes : List ℕ) (script : ScriptRecord) (lines : Lines) : Type 0 where
  pub whole : lines.rows.whole.now ≡ bytes
  pub can_go_on : CanGoOn lines
  pub is_at : IsAt lines.rows (script_statements script)
  pub is_begun : IsBegun lines.inverters lines.latest (script_statements script)

abbrev pub script_begun : Begun → ScriptRecord
script_begun begun = record { site = begun.site; start = begun.start; lines = [] }

abbrev pub with_lines : ScriptRecord → List Line → ScriptRecord
with_lines script more = record { site = script.site; start = script.start; lines = script.lines ++ more }

-- one more line was read
pub record LineRead (old : Lines) (line : Line) (new : Lines) : Type 0 where
  pub shorter : bytes_ahead new < bytes_ahead old
  pub can_go_on : CanGoOn new
  pub goes_on : (bytes : List ℕ) (script : ScriptRecord) → HasRead bytes script old
      → HasRead bytes (with_lines script (line ∷ [])) new

-- why there is no next line: the first bad line
abbrev pub IsBadFrom : Lines → ScriptFault → Type 0
IsBadFrom lines fault =
    (bytes : List ℕ) (script : ScriptRecord) → HasRead bytes script lines → IsBadLine fault bytes

-- why there is no script of these lines, which are taken
abbrev pub FaultExplained : Lines → ScriptFault → Type 0
FaultExplained lines fault =
    (bytes : List ℕ) (script : ScriptRecord) → HasRead bytes script lines → Explains fault bytes

-- the lines that are left are those of a script
abbrev pub AreLast : Lines → Type 0
AreLast lines = (bytes : List ℕ) (script : ScriptRecord) → HasRead bytes script lines
    → (more : List Line) × IsScript bytes (with_lines script more)

-- what came of reading one more line: the line, the end of the script, or its first bad line
abbrev pub NextRead : Lines → Lines → Result (Option Line) ScriptFault → Type 0
NextRead old new (Ok (Some line)) = LineRead old line new
NextRead old new (Ok None) = (bytes : List ℕ) (script : ScriptRecord) → HasRead bytes script old → IsScript bytes script
NextRead old new (Err fault) = IsBadFrom old fault
