-- What a console's transcript says later, and whose the entries are that it made.
use Rattle.std.proofs.Common.{◌≡◌, ℕ, Bool, true, List, [], ◌∷◌, ◌++◌, Option, Some, refl, sym, ap, subst, ◌∙◌, inl, inr, append_assoc}
use Rattle.std.specs.Prelude.{◌⊎◌, IsTrue}
use Rattle.std.specs.List.{AllByRecursion}
use Rattle.std.proofs.lemmas.List.{append-nil}
use Rattle.std.proofs.lemmas.Option.{none-some, same_Some}
use Rattle.plant_book.specs.declared.call.Call.{Call}
use Rattle.plant_book.specs.declared.call.Call.TheVariants as calls
use Rattle.plant_book.specs.declared.call.Reply.TheVariants as replies
use Rattle.plant_book.specs.declared.book.Entry.{Entry}
use Rattle.plant_book.specs.Calls.{at_moment}
use Rattle.ledger_desk.specs.Desk.{DeskState, Enters, EntersNone}
use Rattle.operator_console.specs.declared.order.Order.{Order}
use Rattle.operator_console.specs.declared.order.Order.TheVariants as orders
use Rattle.operator_console.specs.declared.session.ConsoleEnd.{ConsoleEnd}
use Rattle.operator_console.specs.declared.session.ConsoleEnd.TheVariants as ends
use Rattle.operator_console.specs.Orders.{call_of}
use Rattle.operator_console.specs.Deeds.{Deed, Entered, IsDeed, LifeFull, Passed, Refused, Rolled, Tests, deed_entries}
use Rattle.operator_console.specs.Transcript.{Done, IsClosed, IsTranscript, entries_of}
use Rattle.operator_console.proofs.Done.{Lasts}
use Rattle.operator_console.proofs.Taking.{held_later}
use Rattle.plant_run.specs.Operator.{is_operators}
use Rattle.plant_run.proofs.Seeing.{all_joined}

-- a Stop behind the lines, or a full book
abbrev Stops : (may_give : ℕ → Bool) → (was_full : Type 0) → (old new : DeskState) → Type 0
Stops may_give was_full old new =
    ((reading : ℕ) × IsTrue (may_give reading) × Enters (calls.Stop reading) replies.Taken old new)
    ⊎ (was_full × EntersNone old new)

module _ (may_give may_give_now : ℕ → Bool) (was_full was_full_now : Type 0) (old new : DeskState)
    (given : (reading : ℕ) → may_give reading ≡ may_give_now reading) (full : was_full → was_full_now) where
  -- a Stop that was entered, or a full book, as the tests tell later
  stops_later : Stops may_give was_full old new → Stops may_give_now was_full_now old new
  stops_later (inl stop) = let P : Bool → Type 0 = λ b. IsTrue b in inl (stop.0, subst P (given stop.0) stop.1, stop.2)
  stops_later (inr none) = inr (full none.0, none.1)

  -- so too at each end
  closed_later : (ended : ConsoleEnd) → IsClosed ended may_give was_full old new → IsClosed ended may_give_now was_full_now old new
  closed_later ends.Ended closed = closed
  closed_later ends.Stopped closed = closed
  closed_later ends.ReadFault closed = stops_later closed
  closed_later ends.WriteFault closed = stops_later closed
  closed_later ends.BookFull closed = closed
  closed_later ends.NoMemory closed = stops_later closed

-- a transcript stays one, with other tests that all pass which passed those before
pub transcript_lasts : (ended : ConsoleEnd) (old tests : Tests) (was_full was_full_now : Type 0) (begun now : DeskState)
    (left left_now taken taken_now : Option (List ℕ))
    → Lasts old tests → (was_full → was_full_now) → IsTranscript ended old was_full begun now left left_now taken taken_now
    → IsTranscript ended tests was_full_now begun now left left_now taken taken_now
transcript_lasts ended old tests was_full was_full_now begun now left left_now taken taken_now last full script = record {
  read = script.read;
  bytes = script.bytes;
  within = script.within;
  desk = script.desk;
  held = held_later ended old tests was_full was_full_now begun script.desk script.read left_now taken taken_now last full
      script.held;
  closed = closed_later old.may_give tests.may_give was_full was_full_now script.desk now last.given full ended
      script.closed;
}

-- an entry that an operator's console makes
abbrev pub IsTheirs : Entry → Type 0
IsTheirs entry = is_operators entry.call ≡ true

-- an order's call is one of those, at any moment
order_makes : (order : Order) (reading : ℕ) (call : Call) (at : ℕ) → call_of order reading ≡ Some call
    → is_operators (at_moment at call) ≡ true
order_makes orders.Status reading call at is =
    let P : Call → Type 0 = λ c. is_operators (at_moment at c) ≡ true in subst P (same_Some (calls.Tick reading) call is) refl
order_makes (orders.Want inverter mw) reading call at is =
    let P : Call → Type 0 = λ c. is_operators (at_moment at c) ≡ true in
    subst P (same_Some (calls.Want reading inverter mw) call is) refl
order_makes orders.Stop reading call at is =
    let P : Call → Type 0 = λ c. is_operators (at_moment at c) ≡ true in subst P (same_Some (calls.Stop reading) call is) refl
order_makes (orders.Cap mw) reading call at is =
    let P : Call → Type 0 = λ c. is_operators (at_moment at c) ≡ true in subst P (same_Some (calls.Cap reading mw) call is) refl
order_makes orders.Roll reading call at is = absurd (none-some call is)

-- a deed makes no other entry
deed_makes : (tests : Tests) (inverters made rolls : ℕ) (line : List ℕ) (deed : Deed)
    → IsDeed tests inverters made rolls line deed → AllByRecursion IsTheirs (deed_entries deed)
deed_makes tests inverters made rolls line Passed is = tt
deed_makes tests inverters made rolls line Refused is = tt
deed_makes tests inverters made rolls line (Entered reading entry front told) is =
    (ap is_operators is.entry_is.call_is ∙ order_makes is.order reading is.call is.entry_is.at is.is_call, tt)
deed_makes tests inverters made rolls line (Rolled front book) is = tt
deed_makes tests inverters made rolls line (LifeFull calls) is = tt

-- nor do lines that were done
dones_make : (dones : List Done)
    → ((before : List Done) (done : Done) (behind : List Done) → dones ≡ before ++ done ∷ behind → AllByRecursion IsTheirs (deed_entries done.deed))
    → AllByRecursion IsTheirs (entries_of dones)
dones_make [] each = tt
dones_make (done ∷ dones) each =
    all_joined IsTheirs (deed_entries done.deed) (entries_of dones) (each [] done dones refl)
    (dones_make dones (λ before one behind is. each (done ∷ before) one behind (ap (λ (l : List Done). done ∷ l) is)))

-- what a desk gained, all of it an operator's
pub record Gains (old new : DeskState) : Type 0 where
  pub gained : List Entry
  pub made : new.made ≡ old.made ++ gained
  pub theirs : AllByRecursion IsTheirs gained

-- a desk that entered nothing gained nothing
gains_none : (old new : DeskState) → new.made ≡ old.made → Gains old new
gains_none old new same = record { gained = []; made = same ∙ sym (append-nil old.made); theirs = tt }

-- a Stop behind the lines is one entry more
stop_gains : (may_give : ℕ → Bool) (was_full : Type 0) (old new : DeskState) → Stops may_give was_full old new → Gains old new
stop_gains may_give was_full old new (inl stop) =
    record { gained = record { call = calls.Stop stop.2.at; reply = replies.Taken } ∷ []; made = stop.2.made; theirs = (refl, tt) }
stop_gains may_give was_full old new (inr none) = gains_none old new none.1.made

-- what a desk gained as its console closed
closed_gains : (ended : ConsoleEnd) (may_give : ℕ → Bool) (was_full : Type 0) (old new : DeskState)
    → IsClosed ended may_give was_full old new → Gains old new
closed_gains ends.Ended may_give was_full old new closed = gains_none old new (ap (λ (s : DeskState). s.made) closed)
closed_gains ends.Stopped may_give was_full old new closed = gains_none old new (ap (λ (s : DeskState). s.made) closed)
closed_gains ends.ReadFault may_give was_full old new closed = stop_gains may_give was_full old new closed
closed_gains ends.WriteFault may_give was_full old new closed = stop_gains may_give was_full old new closed
closed_gains ends.BookFull may_give was_full old new closed = gains_none old new (ap (λ (s : DeskState). s.made) closed)
closed_gains ends.NoMemory may_give was_full old new closed = stop_gains may_give was_full old new closed

-- over a whole transcript a desk gains only entries that an operator makes
pub operators_own : (ended : ConsoleEnd) (tests : Tests) (was_full : Type 0) (old new : DeskState)
    (left left_now taken taken_now : Option (List ℕ))
    → IsTranscript ended tests was_full old new left left_now taken taken_now → Gains old new
operators_own ended tests was_full old new left left_now taken taken_now script =
    let held = script.held in
    let end = closed_gains ended tests.may_give was_full script.desk new script.closed in
    let lines = entries_of held.dones in
    record {
      gained = lines ++ end.gained;
      made = end.made ∙ ap (λ (es : List Entry). es ++ end.gained) held.are.made ∙ append_assoc old.made lines end.gained;
      theirs = all_joined IsTheirs lines end.gained
          (dones_make held.dones
          (λ before done behind is. deed_makes tests _ _ _ done.line done.deed (held.are.each before done behind is).deed))
          end.theirs;
    }
