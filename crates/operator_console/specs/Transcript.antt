-- The transcript of a console: what was done of the lines of the bytes that were read, and how it ended.
use Rattle.std.specs.Prelude.{◌≡◌, ℕ, ◌+◌, ◌≤◌, ◌⊎◌, List, [], ◌∷◌, ◌++◌, codes, length}
use Rattle.std.specs.Prelude.{Option, None, IsTrue, Bool, Result, Ok, Err}
use Rattle.std.specs.List.{flat_map}
use Rattle.std.specs.Io.KnownBytes.{Appends, Consumes, IsAtEnd}
use Rattle.std.specs.Str.Iter.{LacksByte}
use Rattle.plant_book.specs.declared.call.Call.TheVariants as calls
use Rattle.plant_book.specs.declared.call.Reply.TheVariants as replies
use Rattle.plant_book.specs.declared.book.Entry.{Entry}
use Rattle.plant_book.specs.Part.{PartRecord}
use Rattle.ledger_desk.specs.Desk.{DeskState, EntersNone, Enters}
use Rattle.operator_console.specs.declared.order.Order.{Order}
use Rattle.operator_console.specs.declared.session.ConsoleEnd.{ConsoleEnd}
use Rattle.operator_console.specs.declared.session.ConsoleEnd.TheVariants as ends
use Rattle.operator_console.specs.Orders.{IsOrder, IsLine, call_of}
use Rattle.operator_console.specs.Deeds.{Deed, Rolled, Tests, IsDeed, deed_entries, deed_fronts, deed_rolls, deed_text}

-- a line of the input with its number from 1 and its end, and what was done of it
pub record Done : Type 0 where
  pub number : ℕ
  pub line : List ℕ
  pub end : List ℕ
  pub deed : Deed

-- what lines made together: the bytes that they are, entries, places of rolls, fronts, and the text that they write
abbrev pub bytes_of : List Done → List ℕ
bytes_of dones = flat_map (λ done. done.line ++ done.end) dones

abbrev pub entries_of : List Done → List Entry
entries_of dones = flat_map (λ done. deed_entries done.deed) dones

abbrev pub rolls_of : List Done → List ℕ
rolls_of dones = flat_map (λ done. deed_rolls done.deed) dones

abbrev pub fronts_of : List Done → List ℕ
fronts_of dones = flat_map (λ done. deed_fronts done.deed) dones

abbrev pub done_text : Done → List ℕ
done_text done = deed_text done.number done.deed

abbrev pub text_of : List Done → List ℕ
text_of dones = flat_map done_text dones

-- from a first number over these to a last one none is below the one before
abbrev pub NeverFall : ℕ → List ℕ → ℕ → Type 0
NeverFall first [] last = first ≤ last
NeverFall first (next ∷ later) last = (first ≤ next) × NeverFall next later last

-- the line was done behind these, on a desk that was so before all of them
pub record IsDone (tests : Tests) (old : DeskState) (before : List Done) (done : Done) : Type 0 where
  pub number : done.number ≡ length before + 1
  pub line : IsLine done.line done.end
  pub deed : IsDeed tests old.inverters (length old.made + length (entries_of before))
      (length old.rolls + length (rolls_of before)) done.line done.deed

-- The desk gained what these lines made, in their order, and nothing else, and its front never fell.
pub record AreDone (tests : Tests) (old new : DeskState) (dones : List Done) : Type 0 where
  pub each : (before : List Done) (done : Done) (behind : List Done) → dones ≡ before ++ done ∷ behind
      → IsDone tests old before done
  pub made : new.made ≡ old.made ++ entries_of dones
  pub rolls : new.rolls ≡ old.rolls ++ rolls_of dones
  pub fronts : NeverFall old.front (fronts_of dones) new.front
  pub inverters : new.inverters ≡ old.inverters

-- a line of an order that stops the console
abbrev pub IsStop : Done → Type 0
IsStop done = done.line ≡ codes "stop"

-- the last of these lines
pub record EndsWith (dones : List Done) (last : Done) : Type 0 where
  pub before : List Done
  pub is : dones ≡ before ++ last ∷ []

abbrev pub HasStop : List Done → Type 0
HasStop dones = (last : Done) × EndsWith dones last × IsStop last

-- nothing more is to be read: the input is at its end, or 1,048,576 bytes were read
abbrev pub IsOver : (read : List ℕ) → (left : Option (List ℕ)) → Type 0
IsOver read left = IsAtEnd left ⊎ (length read ≡ 1048576)

-- The bytes read are those of these lines and a rest. No line stands behind a stop, and none behind one without an
-- end, which comes only where nothing more is to be read.
pub record AreTaken (read rest : List ℕ) (dones : List Done) (left : Option (List ℕ)) : Type 0 where
  pub parts : read ≡ bytes_of dones ++ rest
  pub stops : (before : List Done) (done : Done) (behind : List Done) → dones ≡ before ++ done ∷ behind
      → IsStop done → behind ≡ []
  pub last : (before : List Done) (done : Done) (behind : List Done) → dones ≡ before ++ done ∷ behind
      → done.end ≡ [] → (behind ≡ []) × (rest ≡ []) × IsOver read left

-- the rest begins with a line of an order that makes a call
pub record CallsNext (inverters : ℕ) (read rest : List ℕ) (left : Option (List ℕ)) : Type 0 where
  pub line : List ℕ
  pub end : List ℕ
  pub behind : List ℕ
  pub parts : rest ≡ line ++ end ++ behind
  pub is_line : IsLine line end
  pub last : end ≡ [] → (behind ≡ []) × IsOver read left
  pub order : Order
  pub spelled : IsOrder inverters line order
  pub calls : ¬ (call_of order 0 ≡ None)

-- The output gained the text of all of these lines but the last, and the first bytes of that of the last.
pub record IsCutShort (dones : List Done) (last : Done) (old new : Option (List ℕ)) : Type 0 where
  pub before : List Done
  pub is : dones ≡ before ++ last ∷ []
  pub front : List ℕ
  pub behind : List ℕ
  pub parts : done_text last ≡ front ++ behind
  pub written : Appends old new (text_of before ++ front)

-- What is so of the lines at each end, and of what was written: the whole text of the lines, but for a write that
-- failed, and for a roll for whose text there was no memory.
abbrev pub EndsSo : ConsoleEnd → (inverters : ℕ) → (was_full : Type 0) → (read rest : List ℕ) → List Done
    → (left : Option (List ℕ)) → (old new : Option (List ℕ)) → Type 0
EndsSo ends.Ended inverters was_full read rest dones left old new =
    IsOver read left × (rest ≡ []) × (¬ HasStop dones) × Appends old new (text_of dones)
EndsSo ends.Stopped inverters was_full read rest dones left old new =
    HasStop dones × Appends old new (text_of dones)
EndsSo ends.ReadFault inverters was_full read rest dones left old new =
    LacksByte 10 rest × (¬ HasStop dones) × Appends old new (text_of dones)
EndsSo ends.WriteFault inverters was_full read rest dones left old new =
    (last : Done) × IsCutShort dones last old new
EndsSo ends.BookFull inverters was_full read rest dones left old new =
    was_full × CallsNext inverters read rest left × (¬ HasStop dones) × Appends old new (text_of dones)
EndsSo ends.NoMemory inverters was_full read rest dones left old new =
    (¬ HasStop dones) × (Appends old new (text_of dones)
    ⊎ ((last : Done) × IsCutShort dones last old new
    × (front : ℕ) × (book : PartRecord) × (last.deed ≡ Rolled front book)))

-- At a fault and at want of memory a Stop was entered behind the lines, at a reading of the clock, or a book was
-- full. At another end there is none.
abbrev pub IsClosed : ConsoleEnd → (may_give : ℕ → Bool) → (was_full : Type 0) → (old new : DeskState) → Type 0
IsClosed ends.Ended may_give was_full old new = new ≡ old
IsClosed ends.Stopped may_give was_full old new = new ≡ old
IsClosed ends.BookFull may_give was_full old new = new ≡ old
IsClosed _ may_give was_full old new =
    ((reading : ℕ) × IsTrue (may_give reading) × Enters (calls.Stop reading) replies.Taken old new)
    ⊎ (was_full × EntersNone old new)

-- What an end says of the reads, and of the writes: one failed, or none.
abbrev pub at_input : ConsoleEnd → Result (Unit {0}) (Unit {0})
at_input ends.ReadFault = Err tt
at_input _ = Ok tt

abbrev pub at_output : ConsoleEnd → Result (Unit {0}) (Unit {0})
at_output ends.WriteFault = Err tt
at_output _ = Ok tt

-- the lines of the bytes read, what was done of them, and how they ended
pub record IsHeld (ended : ConsoleEnd) (tests : Tests) (was_full : Type 0) (old new : DeskState) (read : List ℕ)
    (left : Option (List ℕ)) (taken taken_now : Option (List ℕ)) : Type 0 where
  pub dones : List Done
  pub rest : List ℕ
  pub lines : AreTaken read rest dones left
  pub are : AreDone tests old new dones
  pub so : EndsSo ended old.inverters was_full read rest dones left taken taken_now

-- A console over these bytes of its input ended so.
pub record IsTranscript (ended : ConsoleEnd) (tests : Tests) (was_full : Type 0) (old new : DeskState)
    (left left_now : Option (List ℕ)) (taken taken_now : Option (List ℕ)) : Type 0 where
  pub read : List ℕ
  pub bytes : Consumes left left_now read
  pub within : length read ≤ 1048576
  pub desk : DeskState
  pub held : IsHeld ended tests was_full old desk read left_now taken taken_now
  pub closed : IsClosed ended tests.may_give was_full desk new
