-- What handling an order comes to, by what its calls came to.
use Rattle.std.proofs.Common.{◌≡◌, ℕ, ◌+◌, List, [], ◌∷◌, length, map, Option, Some, None, get_or, refl, sym, ap, subst, ◌∙◌, arith, inl, inr, length-append}
use Rattle.std.specs.Prelude.{All, IsTrue, IfErr, OnErr, OnOk, Result, Ok, Err, codes, ◌⊎◌}
use Rattle.std.specs.Io.KnownBytes.{Appends}
use Rattle.std.proofs.lemmas.List.{append-nil}
use Rattle.std.proofs.lemmas.List.Elements.{All-nil}
use Rattle.plant_book.specs.declared.call.Call.{Call}
use Rattle.plant_book.specs.declared.call.Call.TheVariants as calls
use Rattle.plant_book.specs.declared.call.Reply.{Reply}
use Rattle.plant_book.specs.declared.book.Entry.{Entry}
use Rattle.plant_book.specs.Calls.{at_moment}
use Rattle.plant_book.specs.Part.{PartRecord}
use Rattle.ledger_desk.specs.Desk.{DeskState, AddsRoll, Enters, EntersNone, LifeTest, RollTest}
use Rattle.stream_io.specs.Streams.{AppendsFront}
use Rattle.operator_console.specs.declared.order.Order.{Order}
use Rattle.operator_console.specs.declared.order.Order.TheVariants as orders
use Rattle.operator_console.specs.declared.session.ConsoleEnd.{ConsoleEnd}
use Rattle.operator_console.specs.declared.session.ConsoleEnd.TheVariants as ends
use Rattle.operator_console.specs.Orders.{IsOrder, asked_by, call_of}
use Rattle.operator_console.specs.Comments.{bad_line, full_line, reply_line, rolled_text}
use Rattle.operator_console.specs.Deeds.{Deed, Entered, LifeFull, Refused, Rolled, Tests, Told, deed_text}
use Rattle.operator_console.specs.Transcript.{NeverFall}
use Rattle.operator_console.specs.Handling.{Does, IsHandled, IsRoll, IsRolled, IsShown, IsStatus, IsStopped, IsToldCall}
use Rattle.operator_console.proofs.Telling.{none_entered}

-- the line of another order is no stop
pub not_stop : (inverters : ℕ) (line : List ℕ) (order : Order) → IsOrder inverters line order → ¬ (order ≡ orders.Stop) → ¬ (line ≡ codes "stop")
not_stop inverters line orders.Status is other = λ stop. let n : 97 ≡ 111 = ap (λ (l : List ℕ). get_or l 2 0) (sym is.spelling ∙ stop) in omega (arith, n)
not_stop inverters line (orders.Want inverter mw) is other = λ stop. let n : 119 ≡ 115 = ap (λ (l : List ℕ). get_or l 0 0) (sym is.spelling ∙ stop) in omega (arith, n)
not_stop inverters line orders.Stop is other = λ stop. other refl
not_stop inverters line (orders.Cap mw) is other = λ stop. let n : 99 ≡ 115 = ap (λ (l : List ℕ). get_or l 0 0) (sym is.spelling ∙ stop) in omega (arith, n)
not_stop inverters line orders.Roll is other = λ stop. let n : 114 ≡ 115 = ap (λ (l : List ℕ). get_or l 0 0) (sym is.spelling ∙ stop) in omega (arith, n)

text_is : (a b : Option (List ℕ)) (x y : List ℕ) → x ≡ y → Appends a b x → Appends a b y
text_is a b x y e gained = let P : List ℕ → Type 0 = λ t. Appends a b t in subst P e gained

part_is : (a b : Option (List ℕ)) (x y : List ℕ) → x ≡ y → AppendsFront a b x → AppendsFront a b y
part_is a b x y e gained = let P : List ℕ → Type 0 = λ t. AppendsFront a b t in subst P e gained

-- a call was entered, and goals were told behind it
pub does_call : (tests : Tests) (line : List ℕ) (order : Order) (reading : ℕ) (call : Call) (reply : Reply) (old mid new : DeskState) (told : List Told)
    → IsOrder old.inverters line order → IsTrue (tests.may_give reading) → call_of order reading ≡ Some call
    → (entered : Enters call reply old mid) → EntersNone mid new → map (λ (x : Told). x.inverter) told ≡ asked_by order old.inverters
    → All (λ (x : Told). tests.may_tell (length mid.made) x.front x.inverter x.goal) told
    → NeverFall mid.front (map (λ (x : Told). x.front) told) new.front
    → Does tests line (Entered reading (record { call = at_moment entered.at call; reply = reply }) mid.front told) old new
does_call tests line order reading call reply old mid new told spelled given is_call entered none asked goals fronts =
    let entry : Entry = record { call = at_moment entered.at call; reply = reply } in
    let made : length mid.made ≡ length old.made + 1 = ap length entered.made ∙ length-append old.made (entry ∷ []) in
    let P : ℕ → Type 0 = λ n. All (λ (x : Told). tests.may_tell n x.front x.inverter x.goal) told in
    record {
      is = record {
        order = order;
        spelled = spelled;
        given = given;
        call = call;
        is_call = is_call;
        entry_is = record { at = entered.at; later = entered.later; high = entered.high; call_is = refl; fits = entered.fits };
        asked = asked;
        goals = subst P made goals;
      };
      made = none.made ∙ entered.made;
      rolls = none.rolls ∙ entered.rolls ∙ sym (append-nil old.rolls);
      fronts = (entered.front, fronts);
      inverters = none.inverters ∙ entered.inverters;
    }

-- the same where no goal is told
does_plain : (tests : Tests) (line : List ℕ) (order : Order) (reading : ℕ) (call : Call) (reply : Reply) (old new : DeskState)
    → IsOrder old.inverters line order → IsTrue (tests.may_give reading) → call_of order reading ≡ Some call → asked_by order old.inverters ≡ []
    → (entered : Enters call reply old new)
    → Does tests line (Entered reading (record { call = at_moment entered.at call; reply = reply }) new.front []) old new
does_plain tests line order reading call reply old new spelled given is_call asks entered =
    does_call tests line order reading call reply old new new [] spelled given is_call entered (none_entered new) (sym asks) (All-nil _) (omega arith)

-- an order whose call was told
pub told_handled : (r : Result (Unit {0}) ConsoleEnd) (tests : Tests) (was_full : Type 0) (number : ℕ) (line : List ℕ) (order : Order) (reading : ℕ) (call : Call)
    (old new : DeskState) (taken taken_now : Option (List ℕ)) → IsOrder old.inverters line order → IsTrue (tests.may_give reading)
    → call_of order reading ≡ Some call → asked_by order old.inverters ≡ [] → ¬ (order ≡ orders.Stop) → ¬ (call_of order 0 ≡ None)
    → IsToldCall r was_full call old new taken taken_now → IsHandled r tests was_full number line old new taken taken_now
told_handled (Ok u) tests was_full number line order reading call old new taken taken_now spelled given is_call asks other calls (reply, entered, gained) =
    (not_stop old.inverters line order spelled other, (_, does_plain tests line order reading call reply old new spelled given is_call asks entered, text_is taken taken_now _ _ (sym (append-nil (reply_line reply))) gained))
told_handled (Err ends.Ended) tests was_full number line order reading call old new taken taken_now spelled given is_call asks other calls is = absurd is
told_handled (Err ends.Stopped) tests was_full number line order reading call old new taken taken_now spelled given is_call asks other calls is = absurd is
told_handled (Err ends.ReadFault) tests was_full number line order reading call old new taken taken_now spelled given is_call asks other calls is = absurd is
told_handled (Err ends.WriteFault) tests was_full number line order reading call old new taken taken_now spelled given is_call asks other calls (reply, entered, gained) =
    (_, does_plain tests line order reading call reply old new spelled given is_call asks entered, part_is taken taken_now _ _ (sym (append-nil (reply_line reply))) gained)
told_handled (Err ends.BookFull) tests was_full number line order reading call old new taken taken_now spelled given is_call asks other calls (full, none, gained) =
    (full, none, gained, (order, spelled, calls))
told_handled (Err ends.NoMemory) tests was_full number line order reading call old new taken taken_now spelled given is_call asks other calls is = absurd is

-- a stop
pub stop_handled : (r : Result (Unit {0}) ConsoleEnd) (tests : Tests) (was_full : Type 0) (number : ℕ) (line : List ℕ) (reading : ℕ)
    (old new : DeskState) (taken taken_now : Option (List ℕ)) → IsOrder old.inverters line orders.Stop → IsTrue (tests.may_give reading)
    → IsStopped r was_full reading old new taken taken_now → IsHandled r tests was_full number line old new taken taken_now
stop_handled (Ok u) tests was_full number line reading old new taken taken_now spelled given is = absurd is
stop_handled (Err ends.Ended) tests was_full number line reading old new taken taken_now spelled given is = absurd is
stop_handled (Err ends.Stopped) tests was_full number line reading old new taken taken_now spelled given (reply, entered, gained) =
    (spelled.spelling, (_, does_plain tests line orders.Stop reading (calls.Stop reading) reply old new spelled given refl refl entered, text_is taken taken_now _ _ (sym (append-nil (reply_line reply))) gained))
stop_handled (Err ends.ReadFault) tests was_full number line reading old new taken taken_now spelled given is = absurd is
stop_handled (Err ends.WriteFault) tests was_full number line reading old new taken taken_now spelled given (reply, entered, gained) =
    (_, does_plain tests line orders.Stop reading (calls.Stop reading) reply old new spelled given refl refl entered, part_is taken taken_now _ _ (sym (append-nil (reply_line reply))) gained)
stop_handled (Err ends.BookFull) tests was_full number line reading old new taken taken_now spelled given (full, none, gained) =
    (full, none, gained, (orders.Stop, spelled, λ is. cc))
stop_handled (Err ends.NoMemory) tests was_full number line reading old new taken taken_now spelled given is = absurd is

-- a status
does_status : (tests : Tests) (line : List ℕ) (at : ℕ) (old new : DeskState) (text : List ℕ) (number : ℕ) → IsOrder old.inverters line orders.Status → IsTrue (tests.may_give at)
    → IsStatus tests.may_tell at old new text → (deed : Deed) × Does tests line deed old new × (text ≡ deed_text number deed)
does_status tests line at old new text number spelled given is =
    (_, does_call tests line orders.Status at (calls.Tick at) is.reply old is.ticked new is.told spelled given refl is.enters is.none is.are.asked is.are.goals is.are.fronts, is.text_is)

pub status_handled : (r : Result (Unit {0}) ConsoleEnd) (tests : Tests) (was_full : Type 0) (number : ℕ) (line : List ℕ) (at : ℕ)
    (old new : DeskState) (taken taken_now : Option (List ℕ)) → IsOrder old.inverters line orders.Status → IsTrue (tests.may_give at)
    → IsShown r tests.may_tell was_full at old new taken taken_now → IsHandled r tests was_full number line old new taken taken_now
status_handled (Ok u) tests was_full number line at old new taken taken_now spelled given (text, is, gained) =
    let done = does_status tests line at old new text number spelled given is in
    (not_stop old.inverters line orders.Status spelled (λ e. cc), (done.0, done.1, text_is taken taken_now _ _ done.2 gained))
status_handled (Err ends.Ended) tests was_full number line at old new taken taken_now spelled given is = absurd is
status_handled (Err ends.Stopped) tests was_full number line at old new taken taken_now spelled given is = absurd is
status_handled (Err ends.ReadFault) tests was_full number line at old new taken taken_now spelled given is = absurd is
status_handled (Err ends.WriteFault) tests was_full number line at old new taken taken_now spelled given (text, is, gained) =
    let done = does_status tests line at old new text number spelled given is in
    (done.0, done.1, part_is taken taken_now _ _ done.2 gained)
status_handled (Err ends.BookFull) tests was_full number line at old new taken taken_now spelled given (full, none, gained) =
    (full, none, gained, (orders.Status, spelled, λ is. cc))
status_handled (Err ends.NoMemory) tests was_full number line at old new taken taken_now spelled given is = absurd is

-- a roll
does_roll : (tests : Tests) (line : List ℕ) (old new : DeskState) (book : PartRecord) → IsOrder old.inverters line orders.Roll → AddsRoll old new
    → tests.ended (length new.rolls) book → Does tests line (Rolled new.front book) old new
does_roll tests line old new book spelled adds ended =
    let count : length new.rolls ≡ length old.rolls + 1 = ap length adds.rolls ∙ length-append old.rolls (new.front ∷ []) in
    let P : ℕ → Type 0 = λ n. tests.ended n book in
    record {
      is = (spelled, subst P count ended);
      made = adds.made ∙ sym (append-nil old.made);
      rolls = adds.rolls;
      fronts = (adds.front, omega arith);
      inverters = adds.inverters;
    }

does_full : (tests : Tests) (line : List ℕ) (old new : DeskState) (calls : ℕ) → IsOrder old.inverters line orders.Roll → EntersNone old new
    → tests.full_life calls → Does tests line (LifeFull calls) old new
does_full tests line old new calls spelled none full = record {
  is = (spelled, full);
  made = none.made ∙ sym (append-nil old.made);
  rolls = none.rolls ∙ sym (append-nil old.rolls);
  fronts = none.front;
  inverters = none.inverters;
}

does_either : (tests : Tests) (line : List ℕ) (old new : DeskState) (text : List ℕ) (number : ℕ) → IsOrder old.inverters line orders.Roll
    → IsRoll tests.ended tests.full_life old new text → (deed : Deed) × Does tests line deed old new × (text ≡ deed_text number deed)
does_either tests line old new text number spelled (inl (book, adds, ended, is)) = (_, does_roll tests line old new book spelled adds ended, is)
does_either tests line old new text number spelled (inr (calls, none, full, is)) = (_, does_full tests line old new calls spelled none full, is)

pub roll_handled : (r : Result (Unit {0}) ConsoleEnd) (tests : Tests) (was_full : Type 0) (number : ℕ) (line : List ℕ)
    (old new : DeskState) (taken taken_now : Option (List ℕ)) → IsOrder old.inverters line orders.Roll
    → IsRolled r tests.ended tests.full_life old new taken taken_now → IsHandled r tests was_full number line old new taken taken_now
roll_handled (Ok u) tests was_full number line old new taken taken_now spelled (text, is, gained) =
    let done = does_either tests line old new text number spelled is in
    (not_stop old.inverters line orders.Roll spelled (λ e. cc), (done.0, done.1, text_is taken taken_now _ _ done.2 gained))
roll_handled (Err ends.Ended) tests was_full number line old new taken taken_now spelled is = absurd is
roll_handled (Err ends.Stopped) tests was_full number line old new taken taken_now spelled is = absurd is
roll_handled (Err ends.ReadFault) tests was_full number line old new taken taken_now spelled is = absurd is
roll_handled (Err ends.WriteFault) tests was_full number line old new taken taken_now spelled (text, is, gained) =
    let done = does_either tests line old new text number spelled is in
    (done.0, done.1, part_is taken taken_now _ _ done.2 gained)
roll_handled (Err ends.BookFull) tests was_full number line old new taken taken_now spelled is = absurd is
roll_handled (Err ends.NoMemory) tests was_full number line old new taken taken_now spelled (inl none) = inl none
roll_handled (Err ends.NoMemory) tests was_full number line old new taken taken_now spelled (inr (book, adds, ended, gained)) =
    inr (not_stop old.inverters line orders.Roll spelled (λ e. cc), (new.front, book, does_roll tests line old new book spelled adds ended, gained))

-- a roll, by what its writes came to
pub writes_rolled : (r : Result (Unit {0}) ConsoleEnd) (ended : RollTest) (full_life : LifeTest) (old new : DeskState) (book : PartRecord) (taken taken_now : Option (List ℕ))
    → AddsRoll old new → ended (length new.rolls) book → OnOk r (Appends taken taken_now (rolled_text book)) → OnErr r (AppendsFront taken taken_now (rolled_text book))
    → IfErr r (λ end. (end ≡ ends.WriteFault) ⊎ (end ≡ ends.NoMemory)) → IsRolled r ended full_life old new taken taken_now
writes_rolled (Ok u) ended full_life old new book taken taken_now adds told all front failed = (rolled_text book, inl (book, adds, told, refl), all)
writes_rolled (Err ends.Ended) ended full_life old new book taken taken_now adds told all front (inl e) = absurd cc
writes_rolled (Err ends.Ended) ended full_life old new book taken taken_now adds told all front (inr e) = absurd cc
writes_rolled (Err ends.Stopped) ended full_life old new book taken taken_now adds told all front (inl e) = absurd cc
writes_rolled (Err ends.Stopped) ended full_life old new book taken taken_now adds told all front (inr e) = absurd cc
writes_rolled (Err ends.ReadFault) ended full_life old new book taken taken_now adds told all front (inl e) = absurd cc
writes_rolled (Err ends.ReadFault) ended full_life old new book taken taken_now adds told all front (inr e) = absurd cc
writes_rolled (Err ends.BookFull) ended full_life old new book taken taken_now adds told all front (inl e) = absurd cc
writes_rolled (Err ends.BookFull) ended full_life old new book taken taken_now adds told all front (inr e) = absurd cc
writes_rolled (Err ends.WriteFault) ended full_life old new book taken taken_now adds told all front failed = (rolled_text book, inl (book, adds, told, refl), front)
writes_rolled (Err ends.NoMemory) ended full_life old new book taken taken_now adds told all front failed = inr (book, adds, told, front)

-- the line of a full life was written
pub writes_full : (r : Result (Unit {0}) ConsoleEnd) (ended : RollTest) (full_life : LifeTest) (old new : DeskState) (calls : ℕ) (taken taken_now : Option (List ℕ))
    → EntersNone old new → full_life calls → OnOk r (Appends taken taken_now full_line) → OnErr r (AppendsFront taken taken_now full_line)
    → IfErr r (λ end. end ≡ ends.WriteFault) → IsRolled r ended full_life old new taken taken_now
writes_full (Ok u) ended full_life old new calls taken taken_now none told all front failed = (full_line, inr (calls, none, told, refl), all)
writes_full (Err end) ended full_life old new calls taken taken_now none told all front failed =
    let P : ConsoleEnd → Type 0 = λ e. IsRolled (Err e) ended full_life old new taken taken_now in
    subst P (sym failed) (full_line, inr (calls, none, told, refl), front)

-- a line that spells no order
does_nothing : (tests : Tests) (line : List ℕ) (desk : DeskState) → ¬ (line ≡ []) → ((order : Order) → IsOrder desk.inverters line order → ⊥) → Does tests line Refused desk desk
does_nothing tests line desk some none = record {
  is = (some, none);
  made = sym (append-nil desk.made);
  rolls = sym (append-nil desk.rolls);
  fronts = omega arith;
  inverters = refl;
}

pub bad_handled : (r : Result (Unit {0}) ConsoleEnd) (tests : Tests) (was_full : Type 0) (number : ℕ) (line : List ℕ) (desk : DeskState) (taken taken_now : Option (List ℕ))
    → ¬ (line ≡ []) → ((order : Order) → IsOrder desk.inverters line order → ⊥) → OnOk r (Appends taken taken_now (bad_line number))
    → OnErr r (AppendsFront taken taken_now (bad_line number)) → IfErr r (λ end. end ≡ ends.WriteFault) → IsHandled r tests was_full number line desk desk taken taken_now
bad_handled (Ok u) tests was_full number line desk taken taken_now some none all front failed =
    (λ stop. none orders.Stop (record { spelling = stop; in_range = tt }), (Refused, does_nothing tests line desk some none, all))
bad_handled (Err end) tests was_full number line desk taken taken_now some none all front failed =
    let P : ConsoleEnd → Type 0 = λ e. IsHandled (Err e) tests was_full number line desk desk taken taken_now in
    subst P (sym failed) (Refused, does_nothing tests line desk some none, front)
