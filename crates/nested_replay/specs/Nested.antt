-- Inputs with buses: lines of buses, and behind them a script of one life.
use Rattle.std.specs.Prelude.{◌≡◌, ◌⊎◌, ℕ, ◌+◌, ◌^◌, ◌<◌, ◌≤◌, List, [], ◌∷◌, ◌++◌, length, codes, Option, None, Some}
use Rattle.std.specs.List.{flat_map}
use Rattle.std.specs.Option.{option_to_list}
use Rattle.std.specs.Str.Lines.{lines}
use Rattle.script_text.specs.declared.line.LineKind.{LineKind}
use Rattle.script_text.specs.declared.line.LineKind.TheVariants as kinds
use Rattle.script_text.specs.Words.{Word}
use Rattle.script_text.specs.Grammar.{IsComment}
use Rattle.script_text.specs.Script.{ScriptRecord}
use Rattle.one_life_script.specs.Rows.{BeginsWith, SpellsWords, three_words}
use Rattle.one_life_script.specs.OneLife.{IsOneLifeScript, IsFirstBadLineOfOne}
use Rattle.busbars.specs.declared.bus.Bus as bus

-- the words of a bus's line: its cap in milliwatts, its first inverter and its last
abbrev pub bus_words : bus.Bus → List Word
bus_words bus = three_words (codes "bus") bus.cap bus.lo bus.hi

-- the numbers of a bus are in their ranges
abbrev pub IsBusInRange : bus.Bus → Type 0
IsBusInRange bus = (bus.cap ≤ 10 ^ 14) × (bus.lo ≤ 255) × (bus.hi ≤ 255)

-- what each row in front of the script says: a comment nothing, and any other row one bus
abbrev pub SayBuses : List (List ℕ) → List (Option bus.Bus) → Type 0
SayBuses [] [] = Unit {0}
SayBuses (row ∷ rows) (None ∷ more) = IsComment row × SayBuses rows more
SayBuses (row ∷ rows) (Some bus ∷ more) =
    SpellsWords row (bus_words bus) × IsBusInRange bus × SayBuses rows more
SayBuses _ _ = ⊥

abbrev pub buses_of : List (Option bus.Bus) → List bus.Bus
buses_of said = flat_map option_to_list said

-- the first of these rows that is no comment, if there is one, doesn't begin as a bus's line does
abbrev pub BeginsNoBus : List (List ℕ) → Type 0
BeginsNoBus [] = Unit {0}
BeginsNoBus (row ∷ rows) =
    (IsComment row × BeginsNoBus rows)
    ⊎ ((IsComment row → ⊥) × (BeginsWith (codes "bus") row → ⊥))

-- buses, and the script behind them
pub record NestedRecord : Type 0 where
  pub buses : List bus.Bus
  pub script : ScriptRecord

-- The bytes are these buses, of which there are 32 at most, and this script.
pub record IsNested (bytes : List ℕ) (nested : NestedRecord) : Type 0 where
  pub front : List (List ℕ)
  pub said : List (Option bus.Bus)
  pub rest : List ℕ
  pub rows : lines bytes ≡ front ++ lines rest
  pub say : SayBuses front said
  pub buses : nested.buses ≡ buses_of said
  pub few : length nested.buses ≤ 32
  pub script : IsOneLifeScript rest nested.script

-- Why a bus's line is bad behind these buses: it is one too many, or not of the form; or a number of it is out of its
-- range.
abbrev pub IsBadBus : LineKind → List bus.Bus → List ℕ → Type 0
IsBadBus kinds.Form before row =
    BeginsWith (codes "bus") row
    × ((32 ≤ length before) ⊎ ((bus : bus.Bus) → SpellsWords row (bus_words bus) → ⊥))
IsBadBus kinds.Value before row =
    (length before < 32) × (bus : bus.Bus) × SpellsWords row (bus_words bus) × (IsBusInRange bus → ⊥)
IsBadBus _ before row = ⊥

abbrev pub IsBadBusFirst : LineKind → List bus.Bus → List (List ℕ) → Type 0
IsBadBusFirst kind before [] = ⊥
IsBadBusFirst kind before (row ∷ rows) = IsBadBus kind before row

-- The line of this number, counted from 1 over the whole input, is the first bad one, of this kind: the rows before
-- it are buses and comments, and it is a bad bus's line; or it is the first bad line of the script behind them.
pub record IsFirstBadNested (bytes : List ℕ) (number : ℕ) (kind : LineKind) : Type 0 where
  pub front : List (List ℕ)
  pub said : List (Option bus.Bus)
  pub rest : List ℕ
  pub rows : lines bytes ≡ front ++ lines rest
  pub say : SayBuses front said
  pub few : length (buses_of said) ≤ 32
  pub bad : (IsBadBusFirst kind (buses_of said) (lines rest) × (number ≡ length front + 1))
      ⊎ (BeginsNoBus (lines rest) × (line : ℕ) × IsFirstBadLineOfOne rest line kind
      × (number ≡ length front + line))

-- the bytes have no bad line
abbrev pub HasNoBadNested : List ℕ → Type 0
HasNoBadNested bytes = (line : ℕ) (kind : LineKind) → IsFirstBadNested bytes line kind → ⊥
