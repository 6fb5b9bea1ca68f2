-- What is kept while a script is replayed.
use Rattle.std.specs.Prelude.{◌≡◌, ℕ, ◌≤◌, ◌<◌, List, [], ◌∷◌, ◌++◌, length, IfSome, take, map, Option, Some, None, Result, Ok, Err}
use Rattle.plant_book.specs.declared.call.Call.{Call}
use Rattle.plant_book.specs.declared.call.TheConstants.{MOMENT_MAX}
use Rattle.plant_book.specs.declared.book.Entry.{Entry}
use Rattle.plant_book.specs.Site.{inverters}
use Rattle.plant_book.specs.Calls.{moment, named}
use Rattle.plant_book.specs.Part.{PartRecord, book_behind, last_moment_of}
use Rattle.plant_book.specs.Answered.{IsInRange, IsOpenable}
use Rattle.plant_book.specs.Carry.{IsBehind}
use Rattle.plant_book.specs.History.{IsHistory}
use Rattle.plant_ledger.specs.Plant.{IsFullLife}
use Rattle.script_text.specs.declared.line.Line.{Line}
use Rattle.script_text.specs.declared.line.Line.TheVariants as lines
use Rattle.script_text.specs.declared.lines.Lines.{Lines}
use Rattle.script_text.specs.Script.{ScriptRecord, IsScript}
use Rattle.script_text.specs.Reader.{HasRead, LineRead}
use Rattle.script_text.specs.Text.{Deed, deed_line, deed_text, lives_text}
use Rattle.script_replay.specs.Chain.{Chain, first_chain, chain_after, chain_behind, IsDone, AreDone, history_of}
use Rattle.script_replay.specs.declared.replay.ReplayFault.{ReplayFault}
use Rattle.script_replay.specs.Replay.{Explains}

-- a plant keeps the last book of the lives so far
pub record Stands (chain : Chain) (part : PartRecord) : Type 0 where
  pub before : List Entry
  pub behind : IsBehind before part
  pub life_is : chain.life ≡ book_behind before part
  pub calls_are : chain.calls ≡ length part.entries
  pub history : IsHistory (history_of chain)

-- a line that the plant can take
abbrev pub LineFits : PartRecord → Line → Type 0
LineFits part (lines.One call) =
    (moment call ≤ MOMENT_MAX) × IfSome (named call) (λ inverter. inverter < inverters part.site) × IsInRange call
    × (last_moment_of part ≤ moment call)
LineFits part (lines.Restart at) = (at ≤ MOMENT_MAX) × (last_moment_of part ≤ at)
LineFits part lines.Roll = IsFullLife part → ⊥

-- so many first lines were done, and their text was written
pub record Played (script : ScriptRecord) (count : ℕ) (part : PartRecord) (text : List ℕ) : Type 0 where
  pub deeds : List Deed
  pub lines_are : map deed_line deeds ≡ take count script.lines
  pub done : AreDone (first_chain script.site script.start) deeds
  pub stands : Stands (chain_behind (first_chain script.site script.start) deeds) part
  pub text_is : text ≡ lives_text script.site script.start deeds

-- a line was done on the plant, whatever lives it stands behind, and its text was added
pub record Does (line : Line) (old new : PartRecord) (before after : List ℕ) : Type 0 where
  pub deed : Deed
  pub line_is : deed_line deed ≡ line
  pub text_is : after ≡ before ++ deed_text deed
  pub done : (chain : Chain) → Stands chain old → IsDone chain deed
  pub stands : (chain : Chain) → Stands chain old → Stands (chain_after chain deed) new

-- a call found the book of the plant at its room, which is as many calls; nothing was changed
pub record FindsFull (line : Line) (old new : PartRecord) (before after : List ℕ) (calls : ℕ) : Type 0 where
  pub call : Call
  pub line_is : line ≡ lines.One call
  pub room : calls ≡ old.site.room
  pub full : length old.entries ≡ old.site.room
  pub same : new ≡ old
  pub text : after ≡ before

-- what came of a line
abbrev pub Steps : Line → PartRecord → PartRecord → List ℕ → List ℕ → Option ℕ → Type 0
Steps line old new before after None = Does line old new before after
Steps line old new before after (Some calls) = FindsFull line old new before after calls

-- all lines were done, or those up to one that found a book full
abbrev pub Ends : ScriptRecord → PartRecord → List ℕ → Option ℕ → Type 0
Ends script part text None = Played script (length script.lines) part text
Ends script part text (Some calls) =
    (count : ℕ) × Played script count part text × (call : Call) × (more : List Line)
    × (script.lines ≡ take count script.lines ++ lines.One call ∷ more)
    × (length part.entries ≡ script.site.room) × (calls ≡ script.site.room)

-- the script of these lines whose first book is that of the plant
abbrev pub script_with : PartRecord → List Line → ScriptRecord
script_with first done = record { site = first.site; start = first.start; lines = done }

-- the bytes that the lines are read from
abbrev pub bytes_of : Lines → List ℕ
bytes_of lines = lines.rows.whole.now

-- Some lines of a script were read and done, and its lines that are left are these. The plant was opened as the
-- first one.
pub record IsReplayed
    (bytes : List ℕ) (first : PartRecord) (lines : Lines) (part : PartRecord) (text : List ℕ) : Type 0 where
  pub done : List Line
  pub read : HasRead bytes (script_with first done) lines
  pub played : Played (script_with first done) (length done) part text

-- why a script isn't replayed further
abbrev pub FaultExplained : Lines → ReplayFault → Type 0
FaultExplained lines fault =
    (bytes : List ℕ) (script : ScriptRecord) → HasRead bytes script lines → Explains fault bytes

-- what came of reading one more line
abbrev pub NextLine : Lines → Lines → Result (Option Line) ReplayFault → Type 0
NextLine old new (Ok (Some line)) = LineRead old line new
NextLine old new (Ok None) = (bytes : List ℕ) (script : ScriptRecord) → HasRead bytes script old → IsScript bytes script
NextLine old new (Err fault) = FaultExplained old fault

-- the whole script was read, and replayed as far as a book was full
pub record IsReplayedWhole (bytes : List ℕ) (first part : PartRecord) (text : List ℕ) (full : Option ℕ) : Type 0 where
  pub lines : List Line
  pub is_script : IsScript bytes (script_with first lines)
  pub ends : Ends (script_with first lines) part text full

-- the empty book of a new life of the same site
abbrev pub IsNextLife : PartRecord → ℕ → PartRecord → Type 0
IsNextLife old at next =
    (next ≡ record { site = old.site; start = at; carry = None; entries = [] }) × IsOpenable next.site

-- the empty book of the first life of a script
abbrev pub IsFirstLife : ScriptRecord → PartRecord → Type 0
IsFirstLife script part =
    (part ≡ record { site = script.site; start = script.start; carry = None; entries = [] }) × IsOpenable script.site
