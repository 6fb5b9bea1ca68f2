-- Lines that were done, and one more.
use Rattle.std.proofs.Common.{◌≡◌, ℕ, ◌+◌, List, [], ◌∷◌, ◌++◌, length, refl, sym, ap, subst, ◌∙◌, arith, inl, inr, length-append, append_assoc}
use Rattle.std.specs.Prelude.{◌⊎◌, Bool, IsTrue}
use Rattle.plant_book.specs.declared.book.Entry.{Entry}
use Rattle.std.specs.List.{flat_map}
use Rattle.std.proofs.lemmas.List.{append-nil}
use Rattle.std.proofs.lemmas.Grind.{flat_map-append}
use Rattle.plant_book.specs.Part.{PartRecord}
use Rattle.plant_ledger.specs.declared.plant.Goal.{Goal}
use Rattle.ledger_desk.specs.Desk.{DeskState, EntersNone}
use Rattle.operator_console.specs.Orders.{IsLine}
use Rattle.operator_console.specs.Deeds.{Deed, Entered, IsDeed, LifeFull, Passed, Refused, Rolled, Tests, deed_entries, deed_fronts, deed_rolls}
use Rattle.operator_console.specs.Transcript.{AreDone, Done, IsDone, NeverFall, entries_of, fronts_of, rolls_of}
use Rattle.operator_console.specs.Handling.{Does}
use Rattle.operator_console.proofs.Fronts.{fall_append, higher_last}

-- what the desk's tests told before they tell now
pub record Lasts (old new : Tests) : Type 0 where
  pub given : (reading : ℕ) → old.may_give reading ≡ new.may_give reading
  pub goals : (made place inverter : ℕ) (goal : Goal) → old.may_tell made place inverter goal → new.may_tell made place inverter goal
  pub rolls : (number : ℕ) (book : PartRecord) → old.ended number book → new.ended number book
  pub lives : (calls : ℕ) → old.full_life calls → new.full_life calls

-- where a list ends in an element, a place in it is that of the last, or one before
abbrev pub Place : {X : Type 0} → (xs : List X) → X → (before : List X) → X → (behind : List X) → Type 0
Place {X} xs x before y behind = ((behind ≡ []) × (before ≡ xs) × (y ≡ x)) ⊎ ((more : List X) × (behind ≡ more ++ x ∷ []) × (xs ≡ before ++ y ∷ more))

pub place_of : {X : Type 0} (xs : List X) (x : X) (before : List X) (y : X) (behind : List X) → xs ++ x ∷ [] ≡ before ++ y ∷ behind → Place xs x before y behind
place_of [] x [] y behind e = inl (cc, refl, cc)
place_of [] x (z ∷ before) y behind e = absurd (omega (arith, ap length e, length-append before (y ∷ behind)))
place_of (w ∷ xs) x [] y behind e =
    let head : w ≡ y = cc in
    inr (xs, cc, ap (λ (v : _). v ∷ xs) head)
place_of {X} (w ∷ xs) x (z ∷ before) y behind e =
    let head : w ≡ z = cc in
    let tail : xs ++ x ∷ [] ≡ before ++ y ∷ behind = cc in
    elim (place_of xs x before y behind tail) [
      | inl last ↦ inl (last.0, ap (λ (l : List X). z ∷ l) last.1 ∙ ap (λ (v : X). v ∷ xs) (sym head), last.2)
      | inr earlier ↦ inr (earlier.0, earlier.1, ap (λ (v : X). v ∷ xs) head ∙ ap (λ (l : List X). z ∷ l) earlier.2)
    ]

-- a flat map over one more
pub flat_more : {X A : Type 0} (f : X → List A) (xs : List X) (x : X) → flat_map f (xs ++ x ∷ []) ≡ flat_map f xs ++ f x
flat_more {X} {A} f xs x = flat_map-append f xs (x ∷ []) ∙ ap (λ (t : List A). flat_map f xs ++ t) (append-nil (f x))

deed_later : (old new : Tests) (inverters made rolls : ℕ) (line : List ℕ) (deed : Deed) → Lasts old new → IsDeed old inverters made rolls line deed → IsDeed new inverters made rolls line deed
deed_later old new inverters made rolls line Passed last is = is
deed_later old new inverters made rolls line Refused last is = is
deed_later old new inverters made rolls line (Entered reading entry front told) last is = record {
  order = is.order;
  spelled = is.spelled;
  given = let P : Bool → Type 0 = λ b. IsTrue b in subst P (last.given reading) is.given;
  call = is.call;
  is_call = is.is_call;
  entry_is = is.entry_is;
  asked = is.asked;
  goals = λ k d below. last.goals _ _ _ _ (is.goals k d below);
}
deed_later old new inverters made rolls line (Rolled front book) last is = (is.0, last.rolls _ _ is.1)
deed_later old new inverters made rolls line (LifeFull calls) last is = (is.0, last.lives _ is.1)

pub are_later : (old new : Tests) (begun now : DeskState) (dones : List Done) → Lasts old new → AreDone old begun now dones → AreDone new begun now dones
are_later old new begun now dones last are = record {
  each = λ before done behind is.
      let it = are.each before done behind is in
      record { number = it.number; line = it.line; deed = deed_later old new _ _ _ done.line done.deed last it.deed };
  made = are.made;
  rolls = are.rolls;
  fronts = are.fronts;
  inverters = are.inverters;
}

pub are_none : (tests : Tests) (begun mid now : DeskState) (dones : List Done) → AreDone tests begun mid dones → EntersNone mid now → AreDone tests begun now dones
are_none tests begun mid now dones are none = record {
  each = are.each;
  made = none.made ∙ are.made;
  rolls = none.rolls ∙ are.rolls;
  fronts = higher_last begun.front (fronts_of dones) mid.front now.front none.front are.fronts;
  inverters = none.inverters ∙ are.inverters;
}

abbrev pub one_done : ℕ → (line end : List ℕ) → Deed → Done
one_done number line end deed = record { number = number; line = line; end = end; deed = deed }

-- one line more, which is done
pub are_more : (tests : Tests) (begun mid now : DeskState) (dones : List Done) (done : Done) → AreDone tests begun mid dones → Does tests done.line done.deed mid now
    → done.number ≡ length dones + 1 → IsLine done.line done.end → AreDone tests begun now (dones ++ done ∷ [])
are_more tests begun mid now dones done are does number line =
    let made : length mid.made ≡ length begun.made + length (entries_of dones) = ap length are.made ∙ length-append begun.made (entries_of dones) in
    let rolls : length mid.rolls ≡ length begun.rolls + length (rolls_of dones) = ap length are.rolls ∙ length-append begun.rolls (rolls_of dones) in
    let I : ℕ → Type 0 = λ n. IsDeed tests n (length mid.made) (length mid.rolls) done.line done.deed in
    let M : ℕ → Type 0 = λ n. IsDeed tests begun.inverters n (length mid.rolls) done.line done.deed in
    let R : ℕ → Type 0 = λ n. IsDeed tests begun.inverters (length begun.made + length (entries_of dones)) n done.line done.deed in
    let deed = subst R rolls (subst M made (subst I are.inverters does.is)) in
    let it : IsDone tests begun dones done = record { number = number; line = line; deed = deed } in
    let F : List ℕ → Type 0 = λ l. NeverFall begun.front l now.front in
    record {
      each = λ before one behind is. elim (place_of dones done before one behind is) [
        | inl last ↦
            let P : List Done → Type 0 = λ l. IsDone tests begun l one in
            let Q : Done → Type 0 = λ d. IsDone tests begun dones d in
            subst P (sym last.1) (subst Q (sym last.2) it)
        | inr earlier ↦ are.each before one earlier.0 earlier.2
      ];
      made = does.made ∙ ap (λ (l : List Entry). l ++ deed_entries done.deed) are.made ∙ append_assoc begun.made (entries_of dones) (deed_entries done.deed)
          ∙ ap (λ (l : List Entry). begun.made ++ l) (sym (flat_more (λ (d : Done). deed_entries d.deed) dones done));
      rolls = does.rolls ∙ ap (λ (l : List ℕ). l ++ deed_rolls done.deed) are.rolls ∙ append_assoc begun.rolls (rolls_of dones) (deed_rolls done.deed)
          ∙ ap (λ (l : List ℕ). begun.rolls ++ l) (sym (flat_more (λ (d : Done). deed_rolls d.deed) dones done));
      fronts = subst F (sym (flat_more (λ (d : Done). deed_fronts d.deed) dones done)) (fall_append begun.front (fronts_of dones) (deed_fronts done.deed) mid.front now.front are.fronts does.fronts);
      inverters = does.inverters ∙ are.inverters;
    }
