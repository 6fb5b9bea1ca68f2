-- A turn leaves fewer turns.
use Rattle.std.proofs.Common.{◌≡◌, ◌≢◌, ℕ, suc, ◌+◌, ◌<◌, ◌≤◌, Bool, true, false, cond, ltb, eqb, List, [], ◌∷◌, inl, inr, Option, Some, None, refl, sym, ap, subst, ◌∙◌, arith}
use Rattle.std.proofs.lemmas.Bool.{eqb-false}
use Rattle.std.proofs.lemmas.Option.{none-some}
use Rattle.std.specs.List.{AllByRecursion}
use Rattle.plant_book.specs.declared.call.Reply.TheVariants as reply
use Rattle.plant_book.specs.declared.call.Read as reads
use Rattle.inverter_worker.specs.declared.job.Job.{Job}
use Rattle.inverter_worker.specs.declared.input.Input.{Input}
use Rattle.inverter_worker.specs.declared.input.Input.TheVariants as input
use Rattle.inverter_worker.specs.declared.output.Output.{Output}
use Rattle.inverter_worker.specs.declared.state.State.{State}
use Rattle.inverter_worker.specs.declared.state.End.{End}
use Rattle.inverter_worker.specs.declared.state.Step.{Step}
use Rattle.inverter_worker.specs.declared.state.Step.TheVariants.{Ready, Aiming, Dialing, LinkTiming, Linking, Timing, Asking, Window, ReleaseTiming, Sending, WaitWrite, ReadTiming, ReadAsking, ReadWindow, SendingRead, WaitRead, SawTiming, SawAsking, Closing, UnfitClosing, Resting, Over}
use Rattle.readback.specs.declared.judging.Judged.{Judged}
use Rattle.readback.specs.declared.judging.Judged.TheVariants.{WrongNumber, WrongUnit, Exception, WrongReply, Differs, Shows}
use Rattle.readback.specs.Judging.{judgement}
use Rattle.inverter_worker.specs.States.{due, in_window}
use Rattle.inverter_worker.specs.Table.{row, table, other_frame_row, judgement_row}
use Rattle.inverter_worker.specs.Runs.{RunStep, LeadsTo}
use Rattle.inverter_worker.specs.Turns.{IsWithinTurn}
use Rattle.worker_turn.specs.Doing.{World}
use Rattle.worker_turn.specs.Worker.{WorkerRecord, IsBegin, IsTurnOn}
use Rattle.ledger_desk.specs.Desk.{DeskTests}

-- the turns that are left, and one more as long as the worker isn't over
abbrev pub left_at : Step → (turns : ℕ) → ℕ
left_at (Over end) turns = 0
left_at step turns = suc turns

abbrev pub left : State → ℕ
left state = left_at state.step state.turns

abbrev Keeps : (most : ℕ) → Option (State × Output) → Type 0
Keeps most None = Unit {0}
Keeps most (Some row) = left row.0 ≤ most

either : (most : ℕ) (b : Bool) (x y : Option (State × Output)) → Keeps most x → Keeps most y → Keeps most (cond b x y)
either most true x y p q = p
either most false x y p q = q

module _ (job : Job) (state : State) where
  same : suc state.turns ≤ suc state.turns
  same = omega arith

  none : 0 ≤ suc state.turns
  none = omega arith

  passing : (step : Step) → left_at step state.turns ≤ suc state.turns → Keeps (suc state.turns) (other_frame_row state step)
  passing step le = either (suc state.turns) (ltb state.skipped 7) _ _ le (either (suc state.turns) (eqb state.skipped 7) _ _ same tt)

  judged : (read : reads.Read) (judged : Judged) → Keeps (suc state.turns) (judgement_row state read judged)
  judged read (Shows raw) = same
  judged read (Differs point wanted found) = same
  judged read (WrongNumber number) = passing (WaitRead read) same
  judged read (WrongUnit unit) = same
  judged read (Exception code) = same
  judged read WrongReply = same

  keeps : (step : Step) (came : Input) → step ≢ Ready → Keeps (suc state.turns) (row job state step came)
  keeps Ready came not = absurd (not refl)
  keeps Aiming (input.Goal goal) not = either (suc state.turns) goal.stop _ _ none (either (suc state.turns) state.up _ _ same same)
  keeps (Dialing raw) input.DialFailed not = same
  keeps (Dialing raw) input.Dialed not = same
  keeps (LinkTiming raw) (input.Time c) not = same
  keeps (Linking raw) (input.Reply (reply.Linked link)) not = same
  keeps (Linking raw) input.Full not = none
  keeps (Timing raw) (input.Time c) not = either (suc state.turns) (due job state.last c raw) _ _ same same
  keeps Asking (input.Reply (reply.Granted write)) not = same
  keeps Asking (input.Reply reply.Spent) not = same
  keeps Asking (input.Reply _) not = same
  keeps Asking input.Full not = none
  keeps (Window write) (input.Time c) not = either (suc state.turns) (in_window job write c) _ _ same same
  keeps (ReleaseTiming write) (input.Reply _) not = same
  keeps (ReleaseTiming write) input.Full not = none
  keeps (Sending write) input.SentAll not = same
  keeps (Sending write) input.SendFailed not = same
  keeps (WaitWrite write) (input.Frame frame) not =
      either (suc state.turns) (eqb frame.transaction write.number) _ _ same (passing (WaitWrite write) same)
  keeps (WaitWrite write) input.Quiet not = same
  keeps (WaitWrite write) input.Closed not = same
  keeps (WaitWrite write) input.RecvFailed not = same
  keeps (WaitWrite write) input.BadFrame not = same
  keeps ReadTiming (input.Time c) not = same
  keeps ReadAsking (input.Reply (reply.ReadAs read)) not = same
  keeps ReadAsking (input.Reply _) not = same
  keeps ReadAsking input.Full not = none
  keeps (ReadWindow read) (input.Time c) not = same
  keeps (SendingRead read) input.SentAll not = same
  keeps (SendingRead read) input.SendFailed not = same
  keeps (WaitRead read) (input.Frame frame) not = judged read (judgement read job.unit job.port job.rules frame)
  keeps (WaitRead read) input.Quiet not = same
  keeps (WaitRead read) input.Closed not = same
  keeps (WaitRead read) input.RecvFailed not = same
  keeps (WaitRead read) input.BadFrame not = same
  keeps (SawTiming read raw) (input.Time c) not = same
  keeps SawAsking (input.Reply _) not = same
  keeps SawAsking input.Full not = none
  keeps Closing input.HungUp not = same
  keeps (UnfitClosing point wanted found) input.HungUp not = none
  keeps Resting input.Rested not = same
  keeps step came not = tt

  decided : (b : Bool) → eqb state.turns 0 ≡ b → (x y : Option (State × Output)) → Keeps state.turns x → (state.turns ≢ 0 → Keeps state.turns y)
      → Keeps state.turns (cond b x y)
  decided true is x y over goes = over
  decided false is x y over goes = goes (eqb-false state.turns 0 is)

  -- the first row of a turn takes one, or ends the worker
  first : (came : Input) → IsBegin came → Keeps state.turns (row job state Ready came)
  first came (inl is) =
      let P : Input → Type 0 = λ came. Keeps state.turns (row job state Ready came) in
      subst P (sym is) (decided (eqb state.turns 0) refl _ _ (omega arith) (λ some. omega (arith, some)))
  first came (inr is) =
      let P : Input → Type 0 = λ came. Keeps state.turns (row job state Ready came) in
      subst P (sym is) (omega arith)

-- so a step within a turn leaves no more
next_left : (job : Job) (state next : State) (came : Input) (out : Output) → state.step ≢ Ready
    → table job state came ≡ Some (next, out) → left next ≤ suc state.turns
next_left job state next came out not is =
    let P : Option (State × Output) → Type 0 = λ row. Keeps (suc state.turns) row in
    subst P is (keeps job state state.step came not)

-- a worker that is over makes no step
over_none : (job : Job) (state : State) (end : End) (came : Input) → row job state (Over end) came ≡ None
over_none job state end came = refl

left_of : (step : Step) (turns : ℕ) → ((end : End) → step ≡ Over end → ⊥) → left_at step turns ≡ suc turns
left_of (Over end) turns not = absurd (not end refl)
left_of step turns not = refl

pub not_over : (job : Job) (state next : State) (came : Input) (out : Output) → table job state came ≡ Some (next, out)
    → (end : End) → state.step ≡ Over end → ⊥
not_over job state next came out is end over =
    let P : Step → Type 0 = λ step. row job state step came ≡ Some (next, out) in
    none-some (next, out) (sym (over_none job state end came) ∙ subst P over is)

rest_left : (job : Job) (state last : State) (later : List RunStep) → LeadsTo job state later last → AllByRecursion IsWithinTurn later
    → left last ≤ left state
rest_left job state last [] leads within = omega (arith, ap left leads)
rest_left job state last (one ∷ later) leads within =
    let next = leads.1.0 in
    let is = leads.1.1.0 in
    let P : State → Type 0 = λ state. state.step ≢ Ready in
    let one_less = next_left job state next one.input one.output (subst P leads.0 within.0) is in
    let alive = left_of state.step state.turns (not_over job state next one.input one.output is) in
    omega (arith, one_less, alive, rest_left job next last later leads.1.1.1 within.1)

-- the turns left after a turn are fewer
pub fewer : (shares : Bool) (tests : DeskTests) (front front_now : ℕ) (before after : WorkerRecord) (old new : World) → before.state.step ≡ Ready
    → IsTurnOn shares tests front front_now before after old new → left after.state + 1 ≤ suc before.state.turns
fewer shares tests front front_now before after old new ready turn =
    let next = turn.leads.1.0 in
    let P : Step → Type 0 = λ step. row before.job before.state step turn.first.input ≡ Some (next, turn.first.output) in
    let Q : Option (State × Output) → Type 0 = λ row. Keeps before.state.turns row in
    let begun : left next ≤ before.state.turns = subst Q (subst P ready turn.leads.1.1.0) (first before.job before.state turn.first.input turn.begins) in
    omega (arith, begun, rest_left before.job next after.state turn.later turn.leads.1.1.1 turn.within)

-- and a worker that is ready again has one turn less, at least
pub ready_fewer : (step : Step) (turns before : ℕ) → step ≡ Ready → left_at step turns + 1 ≤ suc before → turns < before
ready_fewer step turns before ready le =
    let P : Step → Type 0 = λ step. left_at step turns + 1 ≤ suc before in
    let it : suc turns + 1 ≤ suc before = subst P ready le in omega (arith, it)
