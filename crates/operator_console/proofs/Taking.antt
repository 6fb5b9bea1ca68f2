-- Lines that are taken one after another, and how they end.
use Rattle.std.proofs.Common.{◌≡◌, ℕ, ◌+◌, List, [], ◌∷◌, ◌++◌, length, Option, refl, sym, ap, subst, ◌∙◌, arith, inl, inr, length-append, append_assoc}
use Rattle.std.specs.Prelude.{IfErr, OnOk, Result, Ok, Err, codes}
use Rattle.std.specs.Io.KnownBytes.{Appends}
use Rattle.std.specs.Str.Iter.{LacksByte}
use Rattle.std.proofs.KnownBytes.{Appends-nil, Appends-trans}
use Rattle.std.proofs.lemmas.List.{append-nil}
use Rattle.world_traits.specs.Causes.{HasCause}
use Rattle.ledger_desk.specs.Desk.{DeskState}
use Rattle.operator_console.specs.declared.session.ConsoleEnd.{ConsoleEnd}
use Rattle.operator_console.specs.declared.session.ConsoleEnd.TheVariants as ends
use Rattle.operator_console.specs.Orders.{IsLine, IsOrder}
use Rattle.operator_console.specs.Deeds.{Rolled, Tests}
use Rattle.operator_console.specs.Transcript.{AreTaken, Done, EndsSo, HasStop, IsHeld, IsOver, IsStop, bytes_of, done_text, text_of}
use Rattle.operator_console.specs.Handling.{HasReturn, IsHandled, IsTaking, IsWhole, at_reads, end_of}
use Rattle.operator_console.proofs.Ending as ending
use Rattle.operator_console.proofs.Ending.{lacks_both}
use Rattle.operator_console.proofs.Done.{Lasts, are_later, are_more, are_none, flat_more, one_done, place_of}

gains : (a b : Option (List ℕ)) (x y : List ℕ) → x ≡ y → Appends a b x → Appends a b y
gains a b x y e gained = let P : List ℕ → Type 0 = λ t. Appends a b t in subst P e gained

-- before the first line
pub none_taken : (tests : Tests) (desk : DeskState) (told : Option (List ℕ)) → IsTaking tests desk desk told told [] 0 []
none_taken tests desk told = record {
  dones = [];
  are = record {
    each = λ before done behind is. absurd (omega (arith, ap length is, length-append before (done ∷ behind)));
    made = sym (append-nil desk.made);
    rolls = sym (append-nil desk.rolls);
    fronts = omega arith;
    inverters = refl;
  };
  whole = λ before done behind is. absurd (omega (arith, ap length is, length-append before (done ∷ behind)));
  going = λ before done behind is. absurd (omega (arith, ap length is, length-append before (done ∷ behind)));
  parts = refl;
  one = λ k below. absurd (omega (arith, below));
  count = refl;
  written = Appends-nil told;
}

pub taking_later : (old new : Tests) (begun now : DeskState) (told told_now : Option (List ℕ)) (read : List ℕ) (number : ℕ) (held : List ℕ) → Lasts old new
    → IsTaking old begun now told told_now read number held → IsTaking new begun now told told_now read number held
taking_later old new begun now told told_now read number held last taking = record {
  dones = taking.dones;
  are = are_later old new begun now taking.dones last taking.are;
  whole = taking.whole;
  going = taking.going;
  parts = taking.parts;
  one = taking.one;
  count = taking.count;
  written = taking.written;
}

-- more bytes of a line
pub taking_held : (tests : Tests) (begun now : DeskState) (told told_now : Option (List ℕ)) (read : List ℕ) (number : ℕ) (held more held_now : List ℕ)
    → held_now ≡ held ++ more → LacksByte 10 held_now → IsTaking tests begun now told told_now read number held → IsTaking tests begun now told told_now (read ++ more) number held_now
taking_held tests begun now told told_now read number held more held_now is lacks taking = record {
  dones = taking.dones;
  are = taking.are;
  whole = taking.whole;
  going = taking.going;
  parts = ap (λ (l : List ℕ). l ++ more) taking.parts ∙ append_assoc (bytes_of taking.dones) held more ∙ ap (λ (l : List ℕ). bytes_of taking.dones ++ l) (sym is);
  one = lacks;
  count = taking.count;
  written = taking.written;
}

-- the bytes and the text of one line more
bytes_more : (read tail : List ℕ) (dones : List Done) (done : Done) (held behind : List ℕ) → read ≡ bytes_of dones ++ held → held ++ tail ≡ (done.line ++ done.end) ++ behind
    → read ++ tail ≡ bytes_of (dones ++ done ∷ []) ++ behind
bytes_more read tail dones done held behind parts next =
    ap (λ (l : List ℕ). l ++ tail) parts ∙ append_assoc (bytes_of dones) held tail ∙ ap (λ (l : List ℕ). bytes_of dones ++ l) next
    ∙ sym (append_assoc (bytes_of dones) (done.line ++ done.end) behind)
    ∙ ap (λ (l : List ℕ). l ++ behind) (sym (flat_more (λ (d : Done). d.line ++ d.end) dones done))

text_whole : (a b c : Option (List ℕ)) (dones : List Done) (done : Done) → Appends a b (text_of dones) → Appends b c (done_text done) → Appends a c (text_of (dones ++ done ∷ []))
text_whole a b c dones done before now = gains a c _ _ (sym (flat_more done_text dones done)) (Appends-trans a b c (text_of dones) (done_text done) before now)

-- a whole line was done, and goes on
pub taking_more : (tests : Tests) (begun mid now : DeskState) (told told_mid told_now : Option (List ℕ)) (read : List ℕ) (number : ℕ) (held line end tail : List ℕ)
    → IsTaking tests begun mid told told_mid read number held → IsLine line end → ¬ (end ≡ []) → held ++ tail ≡ line ++ end → ¬ (line ≡ codes "stop")
    → IsWhole tests (number + 1) line mid now told_mid told_now → IsTaking tests begun now told told_now (read ++ tail) (number + 1) []
taking_more tests begun mid now told told_mid told_now read number held line end tail taking is_line ended next goes (deed, does, gained) =
    let done = one_done (number + 1) line end deed in
    let counted : number + 1 ≡ length taking.dones + 1 = ap (λ (n : ℕ). n + 1) taking.count in
    record {
      dones = taking.dones ++ done ∷ [];
      are = are_more tests begun mid now taking.dones done taking.are does counted is_line;
      whole = λ before one behind is. elim (place_of taking.dones done before one behind is) [
        | inl last ↦ λ none. ended (ap (λ (d : Done). d.end) (sym last.2) ∙ none)
        | inr earlier ↦ taking.whole before one earlier.0 earlier.2
      ];
      going = λ before one behind is. elim (place_of taking.dones done before one behind is) [
        | inl last ↦ λ stop. goes (ap (λ (d : Done). d.line) (sym last.2) ∙ stop)
        | inr earlier ↦ taking.going before one earlier.0 earlier.2
      ];
      parts = bytes_more read tail taking.dones done held [] taking.parts (next ∙ sym (append-nil (line ++ end)));
      one = λ k below. absurd (omega (arith, below));
      count = counted ∙ sym (length-append taking.dones (done ∷ []));
      written = text_whole told told_mid told_now taking.dones done taking.written gained;
    }

-- how it ends

no_stop : (dones : List Done) → ((before : List Done) (done : Done) (behind : List Done) → dones ≡ before ++ done ∷ behind → ¬ IsStop done) → ¬ HasStop dones
no_stop dones going = λ (last, ends_with, stop). going ends_with.before last [] ends_with.is stop

-- the lines so far, and a rest
rest_taken : (tests : Tests) (begun now : DeskState) (told told_now : Option (List ℕ)) (read tail : List ℕ) (number : ℕ) (held : List ℕ) (left : Option (List ℕ))
    → (taking : IsTaking tests begun now told told_now read number held) → AreTaken (read ++ tail) (held ++ tail) taking.dones left
rest_taken tests begun now told told_now read tail number held left taking = record {
  parts = ap (λ (l : List ℕ). l ++ tail) taking.parts ∙ append_assoc (bytes_of taking.dones) held tail;
  stops = λ before done behind is stop. absurd (taking.going before done behind is stop);
  last = λ before done behind is none. absurd (taking.whole before done behind is none);
}

-- the lines so far and one more, and a rest
last_taken : (tests : Tests) (begun now : DeskState) (told told_now : Option (List ℕ)) (read tail : List ℕ) (number : ℕ) (held behind : List ℕ) (left : Option (List ℕ)) (done : Done)
    → (taking : IsTaking tests begun now told told_now read number held) → held ++ tail ≡ (done.line ++ done.end) ++ behind → (done.end ≡ [] → (behind ≡ []) × IsOver (read ++ tail) left)
    → AreTaken (read ++ tail) behind (taking.dones ++ done ∷ []) left
last_taken tests begun now told told_now read tail number held behind left done taking next over = record {
  parts = bytes_more read tail taking.dones done held behind taking.parts next;
  stops = λ before one more is stop. elim (place_of taking.dones done before one more is) [
    | inl last ↦ last.0
    | inr earlier ↦ absurd (taking.going before one earlier.0 earlier.2 stop)
  ];
  last = λ before one more is none. elim (place_of taking.dones done before one more is) [
    | inl last ↦ let so = over (ap (λ (d : Done). d.end) (sym last.2) ∙ none) in (last.0, so.0, so.1)
    | inr earlier ↦ absurd (taking.whole before one earlier.0 earlier.2 none)
  ];
}

-- no stop among the lines and one more
no_stop_more : (tests : Tests) (begun now : DeskState) (told told_now : Option (List ℕ)) (read : List ℕ) (number : ℕ) (held : List ℕ) (done : Done)
    → (taking : IsTaking tests begun now told told_now read number held) → ¬ (done.line ≡ codes "stop") → ¬ HasStop (taking.dones ++ done ∷ [])
no_stop_more tests begun now told told_now read number held done taking goes = no_stop _ (λ before one behind is. elim (place_of taking.dones done before one behind is) [
  | inl last ↦ λ stop. goes (ap (λ (d : Done). d.line) (sym last.2) ∙ stop)
  | inr earlier ↦ taking.going before one earlier.0 earlier.2
])

nothing_gained : (a b c : Option (List ℕ)) (text : List ℕ) → Appends a b text → Appends b c [] → Appends a c text
nothing_gained a b c text before now = gains a c _ _ (append-nil text) (Appends-trans a b c text [] before now)

-- a line was done, and the console ends by it, or at it
pub taking_ends : (ended : ConsoleEnd) (tests : Tests) (was_full : Type 0) (begun mid now : DeskState) (told told_mid told_now : Option (List ℕ)) (read : List ℕ) (number : ℕ) (held line end tail behind : List ℕ)
    (left : Option (List ℕ)) → IsTaking tests begun mid told told_mid read number held → IsLine line end → held ++ tail ≡ (line ++ end) ++ behind
    → (end ≡ [] → (behind ≡ []) × IsOver (read ++ tail) left) → IsHandled (Err ended) tests was_full (number + 1) line mid now told_mid told_now
    → IsHeld ended tests was_full begun now (read ++ tail) left told told_now
taking_ends ends.Ended tests was_full begun mid now told told_mid told_now read number held line end tail behind left taking is_line next over handled = absurd handled
taking_ends ends.ReadFault tests was_full begun mid now told told_mid told_now read number held line end tail behind left taking is_line next over handled = absurd handled
taking_ends ends.Stopped tests was_full begun mid now told told_mid told_now read number held line end tail behind left taking is_line next over (stop, (deed, does, gained)) =
    let done = one_done (number + 1) line end deed in
    record {
      dones = taking.dones ++ done ∷ [];
      rest = behind;
      lines = last_taken tests begun mid told told_mid read tail number held behind left done taking next over;
      are = are_more tests begun mid now taking.dones done taking.are does (ap (λ (n : ℕ). n + 1) taking.count) is_line;
      so = ((done, record { before = taking.dones; is = refl }, stop), text_whole told told_mid told_now taking.dones done taking.written gained);
    }
taking_ends ends.WriteFault tests was_full begun mid now told told_mid told_now read number held line end tail behind left taking is_line next over (deed, does, (front, rest, parts, gained)) =
    let done = one_done (number + 1) line end deed in
    record {
      dones = taking.dones ++ done ∷ [];
      rest = behind;
      lines = last_taken tests begun mid told told_mid read tail number held behind left done taking next over;
      are = are_more tests begun mid now taking.dones done taking.are does (ap (λ (n : ℕ). n + 1) taking.count) is_line;
      so = (done, record { before = taking.dones; is = refl; front = front; behind = rest; parts = parts; written = Appends-trans told told_mid told_now (text_of taking.dones) front taking.written gained });
    }
taking_ends ends.BookFull tests was_full begun mid now told told_mid told_now read number held line end tail behind left taking is_line next over (full, none, gained, (order, spelled, calls)) =
    let P : ℕ → Type 0 = λ n. IsOrder n line order in
    record {
      dones = taking.dones;
      rest = held ++ tail;
      lines = rest_taken tests begun mid told told_mid read tail number held left taking;
      are = are_none tests begun mid now taking.dones taking.are none;
      so = (
        full,
        record { line = line; end = end; behind = behind; parts = next; is_line = is_line; last = over; order = order; spelled = subst P taking.are.inverters spelled; calls = calls },
        no_stop taking.dones taking.going,
        nothing_gained told told_mid told_now (text_of taking.dones) taking.written gained,
      );
    }
taking_ends ends.NoMemory tests was_full begun mid now told told_mid told_now read number held line end tail behind left taking is_line next over (inl (none, gained)) = record {
  dones = taking.dones;
  rest = held ++ tail;
  lines = rest_taken tests begun mid told told_mid read tail number held left taking;
  are = are_none tests begun mid now taking.dones taking.are none;
  so = (no_stop taking.dones taking.going, inl (nothing_gained told told_mid told_now (text_of taking.dones) taking.written gained));
}
taking_ends ends.NoMemory tests was_full begun mid now told told_mid told_now read number held line end tail behind left taking is_line next over (inr (goes, (place, book, does, (front, rest, parts, gained)))) =
    let done = one_done (number + 1) line end (Rolled place book) in
    record {
      dones = taking.dones ++ done ∷ [];
      rest = behind;
      lines = last_taken tests begun mid told told_mid read tail number held behind left done taking next over;
      are = are_more tests begun mid now taking.dones done taking.are does (ap (λ (n : ℕ). n + 1) taking.count) is_line;
      so = (
        no_stop_more tests begun mid told told_mid read number held done taking goes,
        inr (done, record { before = taking.dones; is = refl; front = front; behind = rest; parts = parts; written = Appends-trans told told_mid told_now (text_of taking.dones) front taking.written gained }, place, book, refl),
      );
    }

-- memory ran out for the begin of a line
pub taking_starved : (tests : Tests) (was_full : Type 0) (begun now : DeskState) (told told_now : Option (List ℕ)) (read tail : List ℕ) (number : ℕ) (held : List ℕ) (left : Option (List ℕ))
    → IsTaking tests begun now told told_now read number held → IsHeld ends.NoMemory tests was_full begun now (read ++ tail) left told told_now
taking_starved tests was_full begun now told told_now read tail number held left taking = record {
  dones = taking.dones;
  rest = held ++ tail;
  lines = rest_taken tests begun now told told_now read tail number held left taking;
  are = taking.are;
  so = (no_stop taking.dones taking.going, inl taking.written);
}

-- a read failed
pub taking_fails : (tests : Tests) (was_full : Type 0) (begun now : DeskState) (told told_now : Option (List ℕ)) (read : List ℕ) (number : ℕ) (held : List ℕ) (left : Option (List ℕ))
    → IsTaking tests begun now told told_now read number held → IsHeld ends.ReadFault tests was_full begun now read left told told_now
taking_fails tests was_full begun now told told_now read number held left taking = record {
  dones = taking.dones;
  rest = held;
  lines = record {
    parts = taking.parts;
    stops = λ before done behind is stop. absurd (taking.going before done behind is stop);
    last = λ before done behind is none. absurd (taking.whole before done behind is none);
  };
  are = taking.are;
  so = (taking.one, no_stop taking.dones taking.going, taking.written);
}

-- nothing is held where the bytes are over
pub taking_over : (tests : Tests) (was_full : Type 0) (begun now : DeskState) (told told_now : Option (List ℕ)) (read : List ℕ) (number : ℕ) (held : List ℕ) (left : Option (List ℕ))
    → held ≡ [] → IsOver read left → IsTaking tests begun now told told_now read number held → IsHeld ends.Ended tests was_full begun now read left told told_now
taking_over tests was_full begun now told told_now read number held left none over taking = record {
  dones = taking.dones;
  rest = held;
  lines = record {
    parts = taking.parts;
    stops = λ before done behind is stop. absurd (taking.going before done behind is stop);
    last = λ before done behind is no_end. absurd (taking.whole before done behind is no_end);
  };
  are = taking.are;
  so = (over, none, no_stop taking.dones taking.going, taking.written);
}

-- the last line has no end
pub taking_last : (tests : Tests) (was_full : Type 0) (begun mid now : DeskState) (told told_mid told_now : Option (List ℕ)) (read : List ℕ) (number : ℕ) (held : List ℕ) (left : Option (List ℕ))
    → ¬ (held ≡ []) → IsOver read left → IsTaking tests begun mid told told_mid read number held → ¬ (held ≡ codes "stop")
    → IsWhole tests (number + 1) held mid now told_mid told_now → IsHeld ends.Ended tests was_full begun now read left told told_now
taking_last tests was_full begun mid now told told_mid told_now read number held left some over taking goes (deed, does, gained) =
    let done = one_done (number + 1) held [] deed in
    let next : held ++ [] ≡ (held ++ []) ++ [] = sym (append-nil (held ++ [])) in
    let O : List ℕ → Type 0 = λ l. IsOver l left in
    let H : List ℕ → Type 0 = λ l. AreTaken l [] (taking.dones ++ done ∷ []) left in
    record {
      dones = taking.dones ++ done ∷ [];
      rest = [];
      lines = subst H (append-nil read) (last_taken tests begun mid told told_mid read [] number held [] left done taking next (λ e. (refl, subst O (sym (append-nil read)) over)));
      are = are_more tests begun mid now taking.dones done taking.are does (ap (λ (n : ℕ). n + 1) taking.count) (record { one = taking.one; ended = inr (inr (refl, some)) });
      so = (over, refl, no_stop_more tests begun mid told told_mid read number held done taking goes, text_whole told told_mid told_now taking.dones done taking.written gained);
    }

-- a desk keeps its inverters over a line that was done
pub handled_inverters : (u : Unit {0}) (tests : Tests) (was_full : Type 0) (number : ℕ) (line : List ℕ) (old new : DeskState) (taken taken_now : Option (List ℕ))
    → IsHandled (Ok u) tests was_full number line old new taken taken_now → new.inverters ≡ old.inverters
handled_inverters u tests was_full number line old new taken taken_now (goes, (deed, does, gained)) = does.inverters

-- a line that was held, with its line feed behind it
pub held_goes_on : (r : Result (Unit {0}) ConsoleEnd) (old tests : Tests) (was_full : Type 0) (mid now : DeskState) (told_mid told_now : Option (List ℕ)) (number : ℕ) (held line held_now : List ℕ)
    → Lasts old tests → HasReturn held line → held_now ≡ [] → IsHandled r tests was_full (number + 1) line mid now told_mid told_now
    → OnOk r ((begun : DeskState) (told : Option (List ℕ)) (read : List ℕ) → IsTaking old begun mid told told_mid read number held
    → IsTaking tests begun now told told_now (read ++ 10 ∷ []) (number + 1) held_now)
held_goes_on (Ok u) old tests was_full mid now told_mid told_now number held line held_now last is empty handled = λ begun told read taking.
    let end = ending.ends held line taking.one is in
    let P : List ℕ → Type 0 = λ l. IsTaking tests begun now told told_now (read ++ 10 ∷ []) (number + 1) l in
    subst P (sym empty) (taking_more tests begun mid now told told_mid told_now read number held line end.end (10 ∷ []) (taking_later old tests begun mid told told_mid read number held last taking)
    end.is_line end.some end.next handled.0 handled.1)
held_goes_on (Err e) old tests was_full mid now told_mid told_now number held line held_now last is empty handled = tt

pub held_ends : (r : Result (Unit {0}) ConsoleEnd) (old tests : Tests) (was_full : Type 0) (mid now : DeskState) (told_mid told_now : Option (List ℕ)) (number : ℕ) (held line : List ℕ)
    → Lasts old tests → HasReturn held line → IsHandled r tests was_full (number + 1) line mid now told_mid told_now
    → IfErr r (λ ended. (begun : DeskState) (told : Option (List ℕ)) (read behind : List ℕ) (left : Option (List ℕ)) → IsTaking old begun mid told told_mid read number held
    → IsHeld ended tests was_full begun now (read ++ 10 ∷ behind) left told told_now)
held_ends (Ok u) old tests was_full mid now told_mid told_now number held line last is handled = tt
held_ends (Err e) old tests was_full mid now told_mid told_now number held line last is handled = λ begun told read behind left taking.
    let end = ending.ends held line taking.one is in
    let next : held ++ 10 ∷ behind ≡ (line ++ end.end) ++ behind = sym (append_assoc held (10 ∷ []) behind) ∙ ap (λ (l : List ℕ). l ++ behind) end.next in
    taking_ends e tests was_full begun mid now told told_mid told_now read number held line end.end (10 ∷ behind) behind left (taking_later old tests begun mid told told_mid read number held last taking)
    end.is_line next (λ none. absurd (end.some none)) handled

-- the last line, without an end
pub last_held : (r : Result (Unit {0}) ConsoleEnd) (old tests : Tests) (was_full : Type 0) (mid now : DeskState) (told_mid told_now : Option (List ℕ)) (number : ℕ) (held : List ℕ)
    → Lasts old tests → ¬ (held ≡ []) → IsHandled r tests was_full (number + 1) held mid now told_mid told_now
    → (begun : DeskState) (told : Option (List ℕ)) (read : List ℕ) (left : Option (List ℕ)) → IsOver read left → IsTaking old begun mid told told_mid read number held
    → IsHeld (end_of r) tests was_full begun now read left told told_now
last_held (Ok u) old tests was_full mid now told_mid told_now number held last some handled begun told read left over taking =
    taking_last tests was_full begun mid now told told_mid told_now read number held left some over (taking_later old tests begun mid told told_mid read number held last taking) handled.0 handled.1
last_held (Err e) old tests was_full mid now told_mid told_now number held last some handled begun told read left over taking =
    let later = taking_later old tests begun mid told told_mid read number held last taking in
    let next : held ++ [] ≡ (held ++ []) ++ [] = sym (append-nil (held ++ [])) in
    let O : List ℕ → Type 0 = λ l. IsOver l left in
    let H : List ℕ → Type 0 = λ l. IsHeld e tests was_full begun now l left told told_now in
    subst H (append-nil read) (taking_ends e tests was_full begun mid now told told_mid told_now read number held held [] [] [] left later
    (record { one = taking.one; ended = inr (inr (refl, some)) }) next (λ none. (refl, subst O (sym (append-nil read)) over)) handled)

-- a piece of the input

-- memory ran out for the rest of a piece
pub piece_ends : (r : Result (Unit {0}) ConsoleEnd) (old tests : Tests) (was_full : Type 0) (first now : DeskState) (told_first told_now : Option (List ℕ)) (number_first number : ℕ)
    (held_first held piece before rest : List ℕ) → piece ≡ before ++ rest → IfErr r (λ e. e ≡ ends.NoMemory)
    → ((begun : DeskState) (told : Option (List ℕ)) (read : List ℕ) → IsTaking old begun first told told_first read number_first held_first → IsTaking tests begun now told told_now (read ++ before) number held)
    → IfErr r (λ e. (begun : DeskState) (told : Option (List ℕ)) (read : List ℕ) (left : Option (List ℕ)) → IsTaking old begun first told told_first read number_first held_first
    → IsHeld e tests was_full begun now (read ++ piece) left told told_now)
piece_ends (Ok u) old tests was_full first now told_first told_now number_first number held_first held piece before rest is failed so_far = tt
piece_ends (Err e) old tests was_full first now told_first told_now number_first number held_first held piece before rest is failed so_far = λ begun told read left taking.
    let parts : (read ++ before) ++ rest ≡ read ++ piece = append_assoc read before rest ∙ ap (λ (l : List ℕ). read ++ l) (sym is) in
    let E : ConsoleEnd → Type 0 = λ x. IsHeld x tests was_full begun now (read ++ piece) left told told_now in
    let P : List ℕ → Type 0 = λ l. IsHeld ends.NoMemory tests was_full begun now l left told told_now in
    subst E (sym failed) (subst P parts (taking_starved tests was_full begun now told told_now (read ++ before) rest number held left (so_far begun told read taking)))

-- the front of a line in it
pub piece_held : (tests : Tests) (begun now : DeskState) (told told_now : Option (List ℕ)) (read before front : List ℕ) (number number_now : ℕ) (held held_now : List ℕ)
    → number_now ≡ number → held_now ≡ held ++ front → LacksByte 10 front → IsTaking tests begun now told told_now (read ++ before) number held
    → IsTaking tests begun now told told_now ((read ++ before) ++ front) number_now held_now
piece_held tests begun now told told_now read before front number number_now held held_now same is lacks taking =
    let L : List ℕ → Type 0 = λ l. LacksByte 10 l in
    let N : ℕ → Type 0 = λ n. IsTaking tests begun now told told_now ((read ++ before) ++ front) n held_now in
    subst N (sym same) (taking_held tests begun now told told_now (read ++ before) number held front held_now is (subst L (sym is) (lacks_both 10 held front taking.one lacks)) taking)

-- the parts of a piece up to a line feed
pub piece_parts : (read before front behind : List ℕ) → ((read ++ before) ++ front) ++ 10 ∷ behind ≡ read ++ (before ++ (front ++ 10 ∷ behind))
piece_parts read before front behind = append_assoc (read ++ before) front (10 ∷ behind) ∙ append_assoc read before (front ++ 10 ∷ behind)

pub piece_whole : (piece before rest front behind : List ℕ) → piece ≡ before ++ rest → rest ≡ front ++ 10 ∷ behind → piece ≡ (before ++ (front ++ 10 ∷ [])) ++ behind
piece_whole piece before rest front behind is split =
    is ∙ ap (λ (l : List ℕ). before ++ l) (split ∙ sym (append_assoc front (10 ∷ []) behind)) ∙ sym (append_assoc before (front ++ 10 ∷ []) behind)

-- a line in it ends the console
pub piece_line_ends : (e : ConsoleEnd) (tests : Tests) (was_full : Type 0) (begun now : DeskState) (told told_now : Option (List ℕ)) (read before rest front behind piece : List ℕ) (left : Option (List ℕ))
    → piece ≡ before ++ rest → rest ≡ front ++ 10 ∷ behind → IsHeld e tests was_full begun now (((read ++ before) ++ front) ++ 10 ∷ behind) left told told_now
    → IsHeld e tests was_full begun now (read ++ piece) left told told_now
piece_line_ends e tests was_full begun now told told_now read before rest front behind piece left is split held =
    let P : List ℕ → Type 0 = λ l. IsHeld e tests was_full begun now l left told told_now in
    subst P (piece_parts read before front behind ∙ ap (λ (l : List ℕ). read ++ l) (ap (λ (l : List ℕ). before ++ l) (sym split) ∙ sym is)) held

-- and goes on
pub piece_line_goes : (tests : Tests) (begun now : DeskState) (told told_now : Option (List ℕ)) (read before front : List ℕ) (number : ℕ) (held : List ℕ)
    → IsTaking tests begun now told told_now (((read ++ before) ++ front) ++ 10 ∷ []) number held → IsTaking tests begun now told told_now (read ++ (before ++ (front ++ 10 ∷ []))) number held
piece_line_goes tests begun now told told_now read before front number held taking =
    let P : List ℕ → Type 0 = λ l. IsTaking tests begun now told told_now l number held in
    subst P (piece_parts read before front []) taking

-- handling a line reads nothing
pub handled_reads : (r : Result (Unit {0}) ConsoleEnd) (tests : Tests) (was_full : Type 0) (number : ℕ) (line : List ℕ) (old new : DeskState) (taken taken_now : Option (List ℕ))
    → IsHandled r tests was_full number line old new taken taken_now → at_reads r ≡ Ok tt
handled_reads (Ok u) tests was_full number line old new taken taken_now is = refl
handled_reads (Err ends.Ended) tests was_full number line old new taken taken_now is = refl
handled_reads (Err ends.Stopped) tests was_full number line old new taken taken_now is = refl
handled_reads (Err ends.ReadFault) tests was_full number line old new taken taken_now is = absurd is
handled_reads (Err ends.WriteFault) tests was_full number line old new taken taken_now is = refl
handled_reads (Err ends.BookFull) tests was_full number line old new taken taken_now is = refl
handled_reads (Err ends.NoMemory) tests was_full number line old new taken taken_now is = refl

pub starved_reads : (r : Result (Unit {0}) ConsoleEnd) → IfErr r (λ e. e ≡ ends.NoMemory) → at_reads r ≡ Ok tt
starved_reads (Ok u) failed = refl
starved_reads (Err e) failed = let P : ConsoleEnd → Type 0 = λ x. at_reads (Err x) ≡ Ok tt in subst P (sym failed) refl

-- how it ended, as the desk tells later
so_later : (ended : ConsoleEnd) (inverters : ℕ) (was_full was_full_now : Type 0) (read rest : List ℕ) (dones : List Done) (left : Option (List ℕ)) (told told_now : Option (List ℕ))
    → (was_full → was_full_now) → EndsSo ended inverters was_full read rest dones left told told_now → EndsSo ended inverters was_full_now read rest dones left told told_now
so_later ends.Ended inverters was_full was_full_now read rest dones left told told_now full so = so
so_later ends.Stopped inverters was_full was_full_now read rest dones left told told_now full so = so
so_later ends.ReadFault inverters was_full was_full_now read rest dones left told told_now full so = so
so_later ends.WriteFault inverters was_full was_full_now read rest dones left told told_now full so = so
so_later ends.BookFull inverters was_full was_full_now read rest dones left told told_now full so = (full so.0, so.1, so.2, so.3)
so_later ends.NoMemory inverters was_full was_full_now read rest dones left told told_now full so = so

pub held_later : (ended : ConsoleEnd) (old tests : Tests) (was_full was_full_now : Type 0) (begun now : DeskState) (read : List ℕ) (left : Option (List ℕ)) (told told_now : Option (List ℕ))
    → Lasts old tests → (was_full → was_full_now) → IsHeld ended old was_full begun now read left told told_now → IsHeld ended tests was_full_now begun now read left told told_now
held_later ended old tests was_full was_full_now begun now read left told told_now last full held = record {
  dones = held.dones;
  rest = held.rest;
  lines = held.lines;
  are = are_later old tests begun now held.dones last held.are;
  so = so_later ended begun.inverters was_full was_full_now read held.rest held.dones left told told_now full held.so;
}

-- the cause of a call that worked
pub cause_none : (before mid now : ℕ) (r : Result (Unit {0}) (Unit {0})) → r ≡ Ok tt → mid ≡ before → now ≡ mid → HasCause before now r
cause_none before mid now r worked first second =
    let P : Result (Unit {0}) (Unit {0}) → Type 0 = λ x. HasCause before now x in
    subst P (sym worked) (record { later = omega (arith, first, second); failed = tt; kept = second ∙ first })
