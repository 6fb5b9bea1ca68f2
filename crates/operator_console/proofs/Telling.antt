-- Goals that are told one after another.
use Rattle.std.proofs.Common.{◌≡◌, ℕ, zero, suc, ◌+◌, ◌≤◌, List, [], ◌∷◌, ◌++◌, length, map, refl, sym, ap, subst, ◌∙◌, arith, add-one}
use Rattle.std.specs.Prelude.{All}
use Rattle.std.specs.List.{range_with_len}
use Rattle.std.proofs.lemmas.List.{map-append, append-nil}
use Rattle.std.proofs.lemmas.List.Elements.{All-append, All-cons, All-nil}
use Rattle.std.proofs.lemmas.Grind.{flat_map-append}
use Rattle.plant_ledger.specs.declared.plant.Goal.{Goal}
use Rattle.ledger_desk.specs.Desk.{DeskState, GoalTest, EntersNone}
use Rattle.operator_console.specs.Comments.{goal_line}
use Rattle.operator_console.specs.Deeds.{Told}
use Rattle.operator_console.specs.Transcript.{NeverFall}
use Rattle.operator_console.specs.Handling.{AreTold, goals_text}
use Rattle.operator_console.proofs.Fronts.{fall_append}

-- numbers from one on, and one more
range_more : (a n : ℕ) → range_with_len a (suc n) ≡ range_with_len a n ++ (a + n) ∷ []
range_more a zero = let same : a ≡ a + 0 = omega arith in ap (λ (k : ℕ). k ∷ []) same
range_more a (suc n) =
    let same : a + 1 + n ≡ a + suc n = omega arith in
    ap (λ (xs : List ℕ). a ∷ xs) (range_more (a + 1) n ∙ ap (λ (k : ℕ). range_with_len (a + 1) n ++ k ∷ []) same)

pub none_told : (may_tell : GoalTest) (desk : DeskState) → AreTold may_tell 0 desk desk []
none_told may_tell desk = record { asked = refl; goals = All-nil _; fronts = omega arith }

pub one_told : (front n : ℕ) → Goal → Told
one_told front n goal = record { inverter = n; front = front; goal = goal }

-- a desk that enters none is as before in what was made
pub none_again : (a b c : DeskState) → EntersNone a b → EntersNone b c → EntersNone a c
none_again a b c first second = record {
  made = second.made ∙ first.made;
  front = omega (arith, first.front, second.front);
  inverters = second.inverters ∙ first.inverters;
  rolls = second.rolls ∙ first.rolls;
}

pub none_entered : (a : DeskState) → EntersNone a a
none_entered a = record { made = refl; front = omega arith; inverters = refl; rolls = refl }

-- one goal more
pub told_more : (may_tell may_tell_now : GoalTest) (n : ℕ) (old mid new : DeskState) (told : List Told) (goal : Goal)
    → AreTold may_tell n old mid told → ((made place inverter : ℕ) (goal : Goal) → may_tell made place inverter goal → may_tell_now made place inverter goal) → EntersNone old mid → EntersNone mid new
    → may_tell_now (length new.made) new.front n goal
    → AreTold may_tell_now (n + 1) old new (told ++ record { inverter = n; front = new.front; goal = goal } ∷ [])
told_more may_tell may_tell_now n old mid new told goal are last none next now =
    let one : Told = record { inverter = n; front = new.front; goal = goal } in
    let made : length new.made ≡ length old.made = ap length (next.made ∙ none.made) in
    let zero_plus : 0 + n ≡ n = omega arith in
    let P : ℕ → Type 0 = λ k. may_tell_now k new.front n goal in
    let Test : Told → Type 0 = λ x. may_tell_now (length old.made) x.front x.inverter x.goal in
    let before : All Test told = λ k d below. last _ _ _ _ (are.goals k d below) in
    let single : All Test (one ∷ []) = All-cons Test one [] (subst P made now) (All-nil Test) in
    let still : new.front ≤ new.front = omega arith in
    let asked : map (λ (x : Told). x.inverter) (told ++ one ∷ []) ≡ range_with_len 0 (suc n) =
    map-append (λ (x : Told). x.inverter) told (one ∷ []) ∙ ap (λ (xs : List ℕ). xs ++ n ∷ []) are.asked
    ∙ ap (λ (k : ℕ). range_with_len 0 n ++ k ∷ []) (sym zero_plus) ∙ sym (range_more 0 n) in
    let fronts : NeverFall old.front (map (λ (x : Told). x.front) told ++ new.front ∷ []) new.front =
    fall_append old.front (map (λ (x : Told). x.front) told) (new.front ∷ []) mid.front new.front are.fronts (next.front, still) in
    let F : List ℕ → Type 0 = λ xs. NeverFall old.front xs new.front in
    let R : ℕ → Type 0 = λ k. map (λ (x : Told). x.inverter) (told ++ one ∷ []) ≡ range_with_len 0 k in
    record {
      asked = subst R (sym (add-one n)) asked;
      goals = All-append Test told (one ∷ []) before single;
      fronts = subst F (sym (map-append (λ (x : Told). x.front) told (one ∷ []))) fronts;
    }

-- and its line
pub text_more : (told : List Told) (one : Told) → goals_text (told ++ one ∷ []) ≡ goals_text told ++ goal_line one.inverter one.goal
text_more told one =
    flat_map-append (λ (x : Told). goal_line x.inverter x.goal) told (one ∷ [])
    ∙ ap (λ (t : List ℕ). goals_text told ++ t) (append-nil (goal_line one.inverter one.goal))
