use Rattle.std.proofs.Common.{◌≡◌, Bool, MatchBool, true, false, subst, ◌∙◌}
use Rattle.plant_desk.specs.declared.board.Hand.{Hand}
use Rattle.plant_desk.specs.Rule.{Sat, Takes, told}
use Rattle.plant_desk.proofs.turn.take_turn.Goals as goal

pub try_turn-requires-clause-rests : goal.try_turn-requires-clause-rests
try_turn-requires-clause-rests g c = let rests = c.requires.rests in (rests.0, c.loop.invariant.1 ∙ rests.1, rests.2)

-- what the try told, where it took the turn and where it didn't
took : (b : Bool) (one : Hand) (old new : Sat) → b ≡ true → MatchBool b (Takes one new) (new ≡ old) → Takes one new
took b one old new is told = subst (λ (x : Bool). MatchBool x (Takes one new) (new ≡ old)) is told

left : (b : Bool) (one : Hand) (old new : Sat) → b ≡ false → MatchBool b (Takes one new) (new ≡ old) → new ≡ old
left b one old new is told = subst (λ (x : Bool). MatchBool x (Takes one new) (new ≡ old)) is told

pub take_plant-requires-clause-holds : goal.take_plant-requires-clause-holds
take_plant-requires-clause-holds g c =
    let rests = c.requires.rests in
    let takes = took _ _ _ _ c.if-try_turn.true (c.try_turn.ensures.taken rests.0 (c.loop.invariant.1 ∙ rests.1)) in
    (told rests.0 takes.between, takes.holds)

pub loop-preserved : goal.loop-preserved
loop-preserved g c =
    let rests = c.requires.rests in
    (c.try_turn.ensures.same ∙ c.loop.invariant.0, left _ _ _ _ c.if-try_turn.false (c.try_turn.ensures.taken rests.0 (c.loop.invariant.1 ∙ rests.1)) ∙ c.loop.invariant.1)

pub returns-then-try_turn-clause-taken : goal.returns-then-try_turn-clause-taken
returns-then-try_turn-clause-taken g c = λ one is.
    let takes = took _ _ _ _ c.if-try_turn.true (c.try_turn.ensures.taken one (c.loop.invariant.1 ∙ is)) in
    let out = c.take_plant.ensures.taken (told one takes.between) takes.holds in
    record { between = takes.between; others = takes.others; answered = takes.answered; on = out.0; holds = out.1 }
