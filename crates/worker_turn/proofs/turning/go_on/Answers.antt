use Rattle.std.proofs.Common.{◌≡◌, false, ◌++◌, ◌∷◌, [], ◌<◌, refl, sym, ap, subst, ◌∙◌, arith, length, length-append}
use Rattle.std.specs.Prelude.{vec_len, vec_capacity}
use Rattle.world_traits.specs.Clocks.{AreGiven}
use Rattle.inverter_worker.specs.declared.output.Output.TheVariants as output
use Rattle.inverter_worker.specs.Turns.{reading_in}
use Rattle.inverter_worker.proofs.Turns.{requests_left}
use Rattle.inverter_worker.proofs.Answered.{answered}
use Rattle.worker_turn.specs.Doing.{world_of}
use Rattle.worker_turn.specs.Acts.{is_last, ticket_after}
use Rattle.worker_turn.proofs.Rows.{not_ready}
use Rattle.worker_turn.proofs.Going.{at_first, one_more, answers_on, led_on, moves_on}
use Rattle.worker_turn.proofs.Rooms.{uses, begins_stands, begins_held, begins_clock, begins_room, lasting, same, staying, still}
use Rattle.worker_turn.proofs.turning.go_on.Goals as goal

pub loop-output-init : goal.loop-output-init
loop-output-init g c =
    let begun = c.args.begun in
    let world = world_of (g.D.Desk.state c.args.desk.now).made (g.L.Line.links c.args.line.now) (g.L.Line.faults c.args.line.now) c.args.watch.now.readings (g.L.Line.unread c.args.line.now) in
    let stands = begins_stands c.args.job.now begun.0.step begun.1 c.requires.begun in
    let none : length c.args.watch.now.readings ≡ 0 = ap length c.requires.readings in
    record {
      later = [];
      follows = at_first g.L.Line.shares _ _ c.args.job.now begun.0 begun.1 c.args.log.now.items world stands c.requires.reached.0 c.requires.reached.1 c.requires.reached.2;
      last = same _;
      stays = still _;
      kept = refl;
      line = refl;
      ticket = begins_held c.args.job.now begun.0.step begun.1 c.requires.begun;
      clock = refl;
      given = λ place other within. absurd (omega (arith, none, within));
      readings = omega (arith, none, begins_clock c.args.job.now begun.0.step begun.1 c.requires.begun);
      room = begins_room c.args.job.now begun.0.step begun.1 (vec_len c.args.log.now) (vec_capacity c.args.log.now) c.requires.begun c.requires.room;
    }

pub next-requires-clause-row : goal.next-requires-clause-row
next-requires-clause-row g c =
    let follows = c.loop-output.invariant.follows in
    let reached = follows.reached in
    answered c.args.job.now reached.0 c.loop-output.state reached.1 c.perform-came.result.input c.loop-output.output reached.2
    (answers_on g.L.Line.shares c.args.job.now c.loop-output.output c.perform-came.result.input _ _ c.perform-came.ensures.done)

pub next-requires-clause-room : goal.next-requires-clause-room
next-requires-clause-room g c = λ next request clock is.
    let invariant = c.loop-output.invariant in
    let within = not_ready c.args.job.now c.loop-output.state.step c.loop-output.output (sym c.is_last.ensures ∙ c.loop-output-test.true) invariant.follows.stands in
    let used = uses c.args.job.now c.loop-output.state next c.perform-came.result.input (output.Send request clock) within is in
    let some : 0 < requests_left c.loop-output.state.step = omega (arith, used.requests) in
    omega (arith, invariant.room some, some)

pub loop-output-smaller : goal.loop-output-smaller
loop-output-smaller g c =
    let within = not_ready c.args.job.now c.loop-output.state.step c.loop-output.output (sym c.is_last.ensures ∙ c.loop-output-test.true) c.loop-output.invariant.follows.stands in
    let used = uses c.args.job.now c.loop-output.state c.next.result.0 c.perform-came.result.input c.next.result.1 within c.next.ensures.row in
    omega (arith, used.steps)

pub loop-output-preserved : goal.loop-output-preserved
loop-output-preserved g c =
    let job = c.args.job.now in
    let state = c.loop-output.state in
    let came = c.perform-came.result.input in
    let last = c.loop-output.output in
    let next = c.next.result.0 in
    let following = c.next.result.1 in
    let invariant = c.loop-output.invariant in
    let done = c.perform-came.ensures.done in
    let going : is_last last ≡ false = sym c.is_last.ensures ∙ c.loop-output-test.true in
    let within = not_ready job state.step last going invariant.follows.stands in
    let used = uses job state next came following within c.next.ensures.row in
    let goes = led_on g.L.Line.shares job state next last following came _ _ going invariant.follows.stands done c.next.ensures.row in
    let does = moves_on g.L.Line.shares job last came _ _ done in
    let grown = length-append c.loop-output.watch.readings (reading_in came) in
    let read = ap length does.readings in
    record {
      later = invariant.later ++ record { state = state; input = came; output = following } ∷ [];
      follows = one_more g.L.Line.shares _ _ _ _ (g.D.Desk.state c.perform-came.new.desk) job c.args.begun.0 c.args.begun.1 invariant.later state next last following came _ _ _ _ _ _ invariant.follows going done c.next.ensures.row
          c.perform-came.ensures.last invariant.stays.front c.perform-came.ensures.stays.front refl c.perform-came.ensures.told c.next.ensures.noted;
      last = lasting _ _ _ invariant.last c.perform-came.ensures.last;
      stays = staying _ _ _ invariant.stays c.perform-came.ensures.stays;
      kept = c.perform-came.ensures.kept ∙ invariant.kept;
      line = c.perform-came.ensures.line ∙ invariant.line;
      ticket = c.perform-came.ensures.ticket ∙ ap (ticket_after last came) invariant.ticket ∙ goes.ticket;
      clock = c.perform-came.ensures.clock ∙ invariant.clock;
      given =
          let P : g.row.K.Denot → Type 0 = λ clock. AreGiven (g.K.Clock.may_give clock) c.loop-output.watch.readings → AreGiven (g.K.Clock.may_give clock) c.perform-came.new.watch.readings in
          subst P invariant.clock c.perform-came.ensures.given invariant.given;
      readings = omega (arith, read, grown, used.clock, invariant.readings);
      room = λ some. let before : 0 < requests_left state.step = omega (arith, used.requests, some) in
          omega (arith, invariant.room before, used.requests, c.next.ensures.len, c.next.ensures.capacity);
    }
