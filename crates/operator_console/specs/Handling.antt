-- A console between two lines, and what handling one line comes to. No promise to a caller names this.
use Rattle.std.specs.Prelude.{◌≡◌, ℕ, ◌⊎◌, All, map, List, [], ◌∷◌, ◌++◌, codes, length, Option, None, Result, Ok, Err}
use Rattle.std.specs.List.{flat_map, range_with_len}
use Rattle.std.specs.Io.KnownBytes.{Appends}
use Rattle.std.specs.Str.Iter.{LacksByte}
use Rattle.plant_book.specs.declared.call.Call.{Call}
use Rattle.plant_book.specs.declared.call.Call.TheVariants as calls
use Rattle.plant_book.specs.declared.call.Reply.{Reply}
use Rattle.plant_book.specs.Part.{PartRecord}
use Rattle.ledger_desk.specs.Desk.{DeskState, GoalTest, RollTest, LifeTest, AddsRoll, Enters, EntersNone}
use Rattle.stream_io.specs.Streams.{AppendsFront}
use Rattle.operator_console.specs.declared.order.Order.{Order}
use Rattle.operator_console.specs.declared.session.ConsoleEnd.{ConsoleEnd}
use Rattle.operator_console.specs.declared.session.ConsoleEnd.TheVariants as ends
use Rattle.operator_console.specs.Orders.{EndsInReturn, IsOrder, call_of}
use Rattle.operator_console.specs.Comments.{full_line, goal_line, reply_line, rolled_text}
use Rattle.operator_console.specs.Deeds.{Deed, Told, Rolled, Tests, IsDeed}
use Rattle.operator_console.specs.Deeds.{deed_entries, deed_fronts, deed_rolls, deed_text}
use Rattle.operator_console.specs.Transcript.{Done, AreDone, IsStop, NeverFall, bytes_of, text_of}

-- the desk did the deed of a line
pub record Does (tests : Tests) (line : List ℕ) (deed : Deed) (old new : DeskState) : Type 0 where
  pub is : IsDeed tests old.inverters (length old.made) (length old.rolls) line deed
  pub made : new.made ≡ old.made ++ deed_entries deed
  pub rolls : new.rolls ≡ old.rolls ++ deed_rolls deed
  pub fronts : NeverFall old.front (deed_fronts deed) new.front
  pub inverters : new.inverters ≡ old.inverters

-- the deed was done, and its text written whole, or cut short
abbrev pub IsWhole : Tests → (number : ℕ) → (line : List ℕ) → (old new : DeskState)
    → (taken taken_now : Option (List ℕ)) → Type 0
IsWhole tests number line old new taken taken_now =
    (deed : Deed) × Does tests line deed old new × Appends taken taken_now (deed_text number deed)

abbrev pub IsCut : Tests → (number : ℕ) → (line : List ℕ) → (old new : DeskState)
    → (taken taken_now : Option (List ℕ)) → Type 0
IsCut tests number line old new taken taken_now =
    (deed : Deed) × Does tests line deed old new × AppendsFront taken taken_now (deed_text number deed)

-- the same of a roll
abbrev pub IsRollCut : Tests → (number : ℕ) → (line : List ℕ) → (old new : DeskState)
    → (taken taken_now : Option (List ℕ)) → Type 0
IsRollCut tests number line old new taken taken_now =
    (front : ℕ) × (book : PartRecord) × Does tests line (Rolled front book) old new
    × AppendsFront taken taken_now (deed_text number (Rolled front book))

-- What handling a line comes to: it was done, or the console ends.
abbrev pub IsHandled : Result (Unit {0}) ConsoleEnd → Tests → (was_full : Type 0) → (number : ℕ) → (line : List ℕ)
    → (old new : DeskState) → (taken taken_now : Option (List ℕ)) → Type 0
IsHandled (Ok _) tests was_full number line old new taken taken_now =
    (¬ (line ≡ codes "stop")) × IsWhole tests number line old new taken taken_now
IsHandled (Err ends.Stopped) tests was_full number line old new taken taken_now =
    (line ≡ codes "stop") × IsWhole tests number line old new taken taken_now
IsHandled (Err ends.WriteFault) tests was_full number line old new taken taken_now =
    IsCut tests number line old new taken taken_now
IsHandled (Err ends.BookFull) tests was_full number line old new taken taken_now =
    was_full × EntersNone old new × Appends taken taken_now []
    × ((order : Order) × IsOrder old.inverters line order × ¬ (call_of order 0 ≡ None))
IsHandled (Err ends.NoMemory) tests was_full number line old new taken taken_now =
    (EntersNone old new × Appends taken taken_now [])
    ⊎ ((¬ (line ≡ codes "stop")) × IsRollCut tests number line old new taken taken_now)
IsHandled (Err _) tests was_full number line old new taken taken_now = ⊥

-- What entering a call and writing the line of its reply comes to.
abbrev pub IsToldCall : Result (Unit {0}) ConsoleEnd → (was_full : Type 0) → Call → (old new : DeskState)
    → (taken taken_now : Option (List ℕ)) → Type 0
IsToldCall (Ok _) was_full call old new taken taken_now =
    (reply : Reply) × Enters call reply old new × Appends taken taken_now (reply_line reply)
IsToldCall (Err ends.WriteFault) was_full call old new taken taken_now =
    (reply : Reply) × Enters call reply old new × AppendsFront taken taken_now (reply_line reply)
IsToldCall (Err ends.BookFull) was_full call old new taken taken_now =
    was_full × EntersNone old new × Appends taken taken_now []
IsToldCall (Err _) was_full call old new taken taken_now = ⊥

-- The goals of so many inverters were told, one after another.
pub record AreTold (may_tell : GoalTest) (count : ℕ) (old new : DeskState) (told : List Told) : Type 0 where
  pub asked : map (λ one. one.inverter) told ≡ range_with_len 0 count
  pub goals : All (λ one. may_tell (length old.made) one.front one.inverter one.goal) told
  pub fronts : NeverFall old.front (map (λ one. one.front) told) new.front

-- the lines of goals that were told
abbrev pub goals_text : List Told → List ℕ
goals_text told = flat_map (λ one. goal_line one.inverter one.goal) told

-- What a status comes to: after the entry of its Tick the goals of all inverters are told.
pub record IsStatus (may_tell : GoalTest) (at : ℕ) (old new : DeskState) (text : List ℕ) : Type 0 where
  pub reply : Reply
  pub ticked : DeskState
  pub enters : Enters (calls.Tick at) reply old ticked
  pub none : EntersNone ticked new
  pub told : List Told
  pub are : AreTold may_tell old.inverters ticked new told
  pub text_is : text ≡ reply_line reply ++ goals_text told

abbrev pub IsShown : Result (Unit {0}) ConsoleEnd → GoalTest → (was_full : Type 0) → (at : ℕ) → (old new : DeskState)
    → (taken taken_now : Option (List ℕ)) → Type 0
IsShown (Ok _) may_tell was_full at old new taken taken_now =
    (text : List ℕ) × IsStatus may_tell at old new text × Appends taken taken_now text
IsShown (Err ends.WriteFault) may_tell was_full at old new taken taken_now =
    (text : List ℕ) × IsStatus may_tell at old new text × AppendsFront taken taken_now text
IsShown (Err ends.BookFull) may_tell was_full at old new taken taken_now =
    was_full × EntersNone old new × Appends taken taken_now []
IsShown (Err _) may_tell was_full at old new taken taken_now = ⊥

-- What a stop comes to.
abbrev pub IsStopped : Result (Unit {0}) ConsoleEnd → (was_full : Type 0) → (at : ℕ) → (old new : DeskState)
    → (taken taken_now : Option (List ℕ)) → Type 0
IsStopped (Ok _) was_full at old new taken taken_now = ⊥
IsStopped (Err ends.Stopped) was_full at old new taken taken_now =
    IsToldCall (Ok tt) was_full (calls.Stop at) old new taken taken_now
IsStopped (Err end) was_full at old new taken taken_now =
    IsToldCall (Err end) was_full (calls.Stop at) old new taken taken_now

-- What a roll comes to: a book was rolled, or the life is full.
abbrev pub IsRoll : RollTest → LifeTest → (old new : DeskState) → (text : List ℕ) → Type 0
IsRoll ended full_life old new text =
    ((book : PartRecord) × AddsRoll old new × ended (length new.rolls) book × (text ≡ rolled_text book))
    ⊎ ((calls : ℕ) × EntersNone old new × full_life calls × (text ≡ full_line))

abbrev pub IsRolled : Result (Unit {0}) ConsoleEnd → RollTest → LifeTest → (old new : DeskState)
    → (taken taken_now : Option (List ℕ)) → Type 0
IsRolled (Ok _) ended full_life old new taken taken_now =
    (text : List ℕ) × IsRoll ended full_life old new text × Appends taken taken_now text
IsRolled (Err ends.WriteFault) ended full_life old new taken taken_now =
    (text : List ℕ) × IsRoll ended full_life old new text × AppendsFront taken taken_now text
IsRolled (Err ends.NoMemory) ended full_life old new taken taken_now =
    (EntersNone old new × Appends taken taken_now [])
    ⊎ ((book : PartRecord) × AddsRoll old new × ended (length new.rolls) book
    × AppendsFront taken taken_now (rolled_text book))
IsRolled (Err _) ended full_life old new taken taken_now = ⊥

-- how a console ends whose last step answers so: where nothing is left, at the end of its input
abbrev pub end_of : Result (Unit {0}) ConsoleEnd → ConsoleEnd
end_of (Ok _) = ends.Ended
end_of (Err end) = end

-- what it says of the reads
abbrev pub at_reads : Result (Unit {0}) ConsoleEnd → Result (Unit {0}) (Unit {0})
at_reads (Err ends.ReadFault) = Err tt
at_reads _ = Ok tt

-- What an end of handling says of the writes: one failed, or none.
abbrev pub at_writes : Result (Unit {0}) ConsoleEnd → Result (Unit {0}) (Unit {0})
at_writes (Err ends.WriteFault) = Err tt
at_writes _ = Ok tt

-- The bytes before a line feed are a line, behind which a CR stands or not.
abbrev pub HasReturn : (bytes line : List ℕ) → Type 0
HasReturn bytes line = (bytes ≡ line ++ 13 ∷ []) ⊎ ((bytes ≡ line) × ¬ EndsInReturn line)

-- The bytes read so far are whole lines, which were done, and the begin of a line that is held.
pub record IsTaking (tests : Tests) (old new : DeskState) (taken taken_now : Option (List ℕ)) (read : List ℕ)
    (number : ℕ) (held : List ℕ) : Type 0 where
  pub dones : List Done
  pub are : AreDone tests old new dones
  pub whole : (before : List Done) (done : Done) (behind : List Done) → dones ≡ before ++ done ∷ behind
      → ¬ (done.end ≡ [])
  pub going : (before : List Done) (done : Done) (behind : List Done) → dones ≡ before ++ done ∷ behind
      → ¬ IsStop done
  pub parts : read ≡ bytes_of dones ++ held
  pub one : LacksByte 10 held
  pub count : number ≡ length dones
  pub written : Appends taken taken_now (text_of dones)
