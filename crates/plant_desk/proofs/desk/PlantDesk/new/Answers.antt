use Rattle.std.proofs.Common.{◌≡◌, ℕ, zero, suc, ◌+◌, ◌-◌, ◌<◌, List, [], ◌∷◌, ◌++◌, map, false, refl, sym, ap, subst, ◌∙◌, arith}
use Rattle.std.specs.List.{range_with_len}
use Rattle.std.specs.Prelude.{All}
use Rattle.std.proofs.lemmas.List.Elements.{All-nil, All-cons}
use Rattle.std.proofs.lemmas.List.FromFn.{map-range_with_len_more}
use Rattle.plant_book.specs.Part.{PartRecord}
use Rattle.plant_desk.specs.declared.board.Hand.{Hand}
use Rattle.plant_desk.specs.Hands.{hand}
use Rattle.plant_desk.specs.Rule.{Sat}
use Rattle.plant_desk.specs.Passes.{DeskRecord, PassRecord, new_pass}
use Rattle.plant_desk.proofs.desk.PlantDesk.new.Goals as goal

-- a seat with these hands
abbrev with_hands : List Hand → Sat
with_hands hands = (record { hands = hands; holds = false }, [])

abbrev hands_from : PartRecord → ℕ → ℕ → ℕ → List Hand
hands_from book passes from count = map (λ number. hand book passes number []) (range_with_len from count)

-- the first of them, and the others
parted : (book : PartRecord) (passes known from before : ℕ) (me : Sat) → known ≡ passes → before < passes → from ≡ before + 1
    → me ≡ with_hands (hands_from book passes from (passes - before))
    → me ≡ with_hands (hand book known from [] ∷ hands_from book passes (from + 1) (passes - (before + 1)))
parted book passes known from before me same lt at is =
    let next : passes - before ≡ suc (passes - (before + 1)) = omega arith in
    is ∙ ap (λ (n : ℕ). with_hands (hands_from book passes from n)) next ∙ ap (λ (n : ℕ). with_hands (hand book n from [] ∷ hands_from book passes (from + 1) (passes - (before + 1)))) (sym same)

pub part-requires-clause-first : goal.part-requires-clause-first
part-requires-clause-first c =
    let i = c.loop-before.invariant in
    (_, parted _ _ _ _ _ _ c.in_ok-desk.ensures.desk.1 c.loop-before-test.true refl i.rest)

pub loop-before-preserved : goal.loop-before-preserved
loop-before-preserved c =
    let i = c.loop-before.invariant in
    let desk = c.in_ok-desk.desk in
    let b = c.loop-before.before in
    record {
      made = c.push_reserved.ensures.items ∙ ap (λ (ps : List PassRecord). ps ++ c.part.result ∷ []) i.made ∙ ap (λ (p : PassRecord). map (new_pass desk) (range_with_len 1 b) ++ p ∷ []) c.part.ensures.pass
          ∙ sym (map-range_with_len_more (new_pass desk) 1 b (b + 1) (omega arith));
      room = let capacity = c.push_reserved.ensures.capacity in let room = i.room in omega arith;
      count = let len = c.push_reserved.ensures.len in let count = i.count in omega arith;
      place = c.part.ensures.same ∙ i.place;
      rest = c.part.ensures.others _ (parted _ _ _ _ _ _ c.in_ok-desk.ensures.desk.1 c.loop-before-test.true refl i.rest);
    }

of_desk : (desk : DeskRecord) (from count : ℕ) → All (λ (p : PassRecord). p.desk ≡ desk) (map (new_pass desk) (range_with_len from count))
of_desk desk from zero = All-nil (λ (p : PassRecord). p.desk ≡ desk)
of_desk desk from (suc count) = All-cons (λ (p : PassRecord). p.desk ≡ desk) (new_pass desk from) (map (new_pass desk) (range_with_len (from + 1) count)) refl (of_desk desk (from + 1) count)

pub returns-clause-of_desk : goal.returns-clause-of_desk
returns-clause-of_desk c = subst (All (λ (p : PassRecord). p.desk ≡ c.in_ok-desk.desk)) (sym c.loop-before.invariant.made) (of_desk c.in_ok-desk.desk 1 c.loop-before.before)
