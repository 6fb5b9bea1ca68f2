use Rattle.std.proofs.Common.{◌≡◌, ℕ, ◌<◌, List, sym, ap, subst, ◌∙◌}
use Rattle.worker_turn.specs.Doing.{World, world_of}
use Rattle.worker_turn.specs.Worker.{WorkerRecord, IsTurn}
use Rattle.worker_turn.proofs.Turn.{again_ready}
use Rattle.worker_turn.proofs.worker.Worker.turn.Goals as goal

pub returns : goal.returns
returns g c =
    let inside = c.self.inside in
    let view = c.self.view_is in
    let took = c.take_turn-state.ensures in
    let line = c.take_turn-state.new.line in
    let dialer = c.dialer-1.given.0 in
    let back : dialer ≡ line.dialer.now = c.dialer-1.given.1 (sym (ap (λ (names : ℕ × ℕ). names.0) took.line)) in
    let before : WorkerRecord = record { job = inside.job; state = inside.state; log = inside.log.items; unread = inside.inbox } in
    let after : WorkerRecord =
    record { job = inside.job; state = c.take_turn-state.result; log = c.take_turn-state.new.log.items; unread = line.inbox.now } in
    let tests = g.D.Desk.tests c.take_turn-state.new.desk in
    let desk = g.D.Desk.state c.args.desk.now in
    let desk_now = g.D.Desk.state c.take_turn-state.new.desk in
    let old : List ℕ → World = λ unread.
    world_of desk.made (g.N.Dialer.links c.args.dialer.now) (g.N.Dialer.faults c.args.dialer.now) c.args.watch.now.readings unread in
    let new : g.row.N.Denot → World = λ dialer.
    world_of desk_now.made (g.N.Dialer.links dialer) (g.N.Dialer.faults dialer) c.take_turn-state.new.watch.readings line.inbox.now in
    let P : g.row.N.Denot → Type 0 = λ dialer. IsTurn tests desk.front desk_now.front before after (old before.unread) (new dialer) in
    let Q : WorkerRecord → Type 0 = λ worker. IsTurn tests desk.front desk_now.front worker after (old worker.unread) (new dialer) in
    record {
      answer = c.at.ensures;
      job = ap (λ (w : WorkerRecord). w.job) view;
      turn = λ _. subst Q view (subst P (sym back) took.turn);
      few = took.few;
      given = took.given;
      memory = λ short. let i = took.memory short in (
        i.0 ∙ ap (λ (w : WorkerRecord). w.log) view,
        ap new back ∙ i.1 ∙ ap (λ (w : WorkerRecord). old w.unread) view,
      );
      over = λ end is. absurd (c.in_default.not-Over end (ap (λ (w : WorkerRecord). w.state.step) view ∙ is));
      fewer = λ again. subst (λ (w : WorkerRecord). after.state.turns < w.state.turns) view
          (took.fewer (again_ready c.at.result after.state.step c.at.ensures again));
      stays = took.stays;
      last = took.last;
      kept = took.kept;
      clock = took.clock;
    }
