-- What a row leads to within a turn: the output stands with its step, and the ticket in hand is that of the step.
use Rattle.std.proofs.Common.{◌≡◌, ◌≢◌, ℕ, Bool, true, false, cond, ltb, eqb, Option, Some, None, refl, sym, ap, subst, ◌∙◌}
use Rattle.plant_book.specs.declared.call.Call.TheVariants as call
use Rattle.plant_book.specs.declared.call.Reply.TheVariants as reply
use Rattle.plant_book.specs.declared.call.Read as reads
use Rattle.plant_book.specs.declared.call.Write as writes
use Rattle.limiter_num.specs.declared.rating.Point.{Point}
use Rattle.inverter_worker.specs.declared.job.Job.{Job}
use Rattle.inverter_worker.specs.declared.input.Input.{Input}
use Rattle.inverter_worker.specs.declared.input.Input.TheVariants as input
use Rattle.inverter_worker.specs.declared.output.Output.{Output}
use Rattle.inverter_worker.specs.declared.output.Output.TheVariants as output
use Rattle.inverter_worker.specs.declared.output.Asked.TheVariants as asked
use Rattle.inverter_worker.specs.declared.state.State.{State}
use Rattle.inverter_worker.specs.declared.state.End.TheVariants as over
use Rattle.inverter_worker.specs.declared.state.Step.{Step}
use Rattle.inverter_worker.specs.declared.state.Step.TheVariants.{Ready, Aiming, Dialing, LinkTiming, Linking, Timing, Asking, Window, ReleaseTiming, Sending, WaitWrite, ReadTiming, ReadAsking, ReadWindow, SendingRead, WaitRead, SawTiming, SawAsking, Closing, UnfitClosing, Resting, Over}
use Rattle.readback.specs.declared.judging.Judged.{Judged}
use Rattle.readback.specs.declared.judging.Judged.TheVariants.{WrongNumber, WrongUnit, Exception, WrongReply, Differs, Shows}
use Rattle.readback.specs.Judging.{judgement}
use Rattle.inverter_worker.specs.States.{due, in_window}
use Rattle.inverter_worker.specs.Table.{row, table, other_frame_row, judgement_row}
use Rattle.worker_turn.specs.Doing.{World, IsDone}
use Rattle.worker_turn.specs.Worker.{IsBetweenTurns}
use Rattle.worker_turn.specs.Acts.{is_last, IsDoable, ticket_after, held, Stands}

-- not the goal, which a turn begins with
abbrev pub IsNotGoal : Output → Type 0
IsNotGoal output.Goal = ⊥
IsNotGoal output = Unit {0}

-- not the end of a turn that found no memory when it began
abbrev pub IsNotNoMemory : Step → Type 0
IsNotNoMemory (Over over.NoMemory) = ⊥
IsNotNoMemory step = Unit {0}

pub record Led (job : Job) (output : Output) (came : Input) (step : Step) (state : State) (next : Output) : Type 0 where
  pub stands : Stands job state.step next
  pub ticket : ticket_after output came (held step) ≡ held state.step
  pub later : IsNotGoal next
  pub memory : IsNotNoMemory state.step

abbrev pub Leads : Job → Output → Input → Step → Option (State × Output) → Type 0
Leads job output came step None = Unit {0}
Leads job output came step (Some row) = Led job output came step row.0 row.1

either : (job : Job) (output : Output) (came : Input) (step : Step) (b : Bool) (x y : Option (State × Output))
    → Leads job output came step x → Leads job output came step y → Leads job output came step (cond b x y)
either job output came step true x y p q = p
either job output came step false x y p q = q

module _ (job : Job) (state : State) (old new : World) where
  at_aiming : (came : Input) → IsDone job output.Goal came old new → Leads job output.Goal came Aiming (row job state Aiming came)
  at_aiming (input.Goal goal) done = either job output.Goal (input.Goal goal) Aiming goal.stop _ _ (record { stands = tt; ticket = refl; later = tt; memory = tt })
      (either job output.Goal (input.Goal goal) Aiming state.up _ _ (record { stands = tt; ticket = refl; later = tt; memory = tt }) (record { stands = tt; ticket = refl; later = tt; memory = tt }))
  at_aiming _ done = absurd done

  at_dialing : (raw : ℕ) (came : Input) → IsDone job output.Dial came old new → Leads job output.Dial came (Dialing raw) (row job state (Dialing raw) came)
  at_dialing raw input.DialFailed done = record { stands = tt; ticket = refl; later = tt; memory = tt }
  at_dialing raw input.Dialed done = record { stands = tt; ticket = refl; later = tt; memory = tt }
  at_dialing raw _ done = absurd done

  at_link_timing : (raw : ℕ) (came : Input) → IsDone job output.Now came old new → Leads job output.Now came (LinkTiming raw) (row job state (LinkTiming raw) came)
  at_link_timing raw (input.Time c) done = record { stands = (done.1, refl); ticket = refl; later = tt; memory = tt }
  at_link_timing raw _ done = absurd done

  at_linking : (raw at inverter : ℕ) (came : Input) → IsDone job (output.Call (call.Link at inverter)) came old new
      → Leads job (output.Call (call.Link at inverter)) came (Linking raw) (row job state (Linking raw) came)
  at_linking raw at inverter (input.Reply (reply.Linked number)) done = record { stands = tt; ticket = refl; later = tt; memory = tt }
  at_linking raw at inverter (input.Reply _) done = tt
  at_linking raw at inverter input.Full done = record { stands = tt; ticket = refl; later = tt; memory = tt }
  at_linking raw at inverter _ done = absurd done

  at_timing : (raw : ℕ) (came : Input) → IsDone job output.Now came old new → Leads job output.Now came (Timing raw) (row job state (Timing raw) came)
  at_timing raw (input.Time c) done = either job output.Now (input.Time c) (Timing raw) (due job state.last c raw) _ _ (record { stands = (done.1, refl); ticket = refl; later = tt; memory = tt })
      (record { stands = (done.1, refl); ticket = refl; later = tt; memory = tt })
  at_timing raw _ done = absurd done

  at_asking : (at inverter raw : ℕ) → inverter ≡ job.inverter → (came : Input) → IsDone job (output.Call (call.Ask at inverter raw)) came old new
      → Leads job (output.Call (call.Ask at inverter raw)) came Asking (row job state Asking came)
  at_asking at inverter raw own (input.Reply (reply.Granted write)) done = record { stands = done.fits.0 ∙ own; ticket = refl; later = tt; memory = tt }
  at_asking at inverter raw own (input.Reply reply.Spent) done = record { stands = tt; ticket = refl; later = tt; memory = tt }
  at_asking at inverter raw own (input.Reply _) done = record { stands = tt; ticket = refl; later = tt; memory = tt }
  at_asking at inverter raw own input.Full done = record { stands = tt; ticket = refl; later = tt; memory = tt }
  at_asking at inverter raw own _ done = absurd done

  at_window : (write : writes.Write) → write.inverter ≡ job.inverter → (came : Input) → IsDone job output.Now came old new
      → Leads job output.Now came (Window write) (row job state (Window write) came)
  at_window write own (input.Time c) done = either job output.Now (input.Time c) (Window write) (in_window job write c) _ _ (record { stands = refl; ticket = refl; later = tt; memory = tt })
      (record { stands = (refl, own, done.1); ticket = refl; later = tt; memory = tt })
  at_window write own _ done = absurd done

  at_release : (write back : writes.Write) (at : ℕ) (came : Input) → IsDone job (output.Release back at) came old new
      → Leads job (output.Release back at) came (ReleaseTiming write) (row job state (ReleaseTiming write) came)
  at_release write back at (input.Reply _) done = record { stands = tt; ticket = refl; later = tt; memory = tt }
  at_release write back at input.Full done = record { stands = tt; ticket = refl; later = tt; memory = tt }
  at_release write back at _ done = absurd done

  at_sending : (write sent : writes.Write) (clock : ℕ) (came : Input) → IsDone job (output.Send (asked.Write sent) clock) came old new
      → Leads job (output.Send (asked.Write sent) clock) came (Sending write) (row job state (Sending write) came)
  at_sending write sent clock input.SentAll done = record { stands = tt; ticket = refl; later = tt; memory = tt }
  at_sending write sent clock input.SendFailed done = record { stands = tt; ticket = refl; later = tt; memory = tt }
  at_sending write sent clock _ done = absurd done

  passing_write : (write : writes.Write) (came : Input) → Leads job output.Receive came (WaitWrite write) (other_frame_row state (WaitWrite write))
  passing_write write came = either job output.Receive came (WaitWrite write) (ltb state.skipped 7) _ _ (record { stands = tt; ticket = refl; later = tt; memory = tt })
      (either job output.Receive came (WaitWrite write) (eqb state.skipped 7) _ _ (record { stands = tt; ticket = refl; later = tt; memory = tt }) tt)

  at_wait_write : (write : writes.Write) (came : Input) → Leads job output.Receive came (WaitWrite write) (row job state (WaitWrite write) came)
  at_wait_write write (input.Frame frame) = either job output.Receive (input.Frame frame) (WaitWrite write) (eqb frame.transaction write.number) _ _
      (record { stands = tt; ticket = refl; later = tt; memory = tt }) (passing_write write (input.Frame frame))
  at_wait_write write input.Quiet = record { stands = tt; ticket = refl; later = tt; memory = tt }
  at_wait_write write input.Closed = record { stands = tt; ticket = refl; later = tt; memory = tt }
  at_wait_write write input.RecvFailed = record { stands = tt; ticket = refl; later = tt; memory = tt }
  at_wait_write write input.BadFrame = record { stands = tt; ticket = refl; later = tt; memory = tt }
  at_wait_write write _ = tt

  at_read_timing : (came : Input) → IsDone job output.Now came old new → Leads job output.Now came ReadTiming (row job state ReadTiming came)
  at_read_timing (input.Time c) done = record { stands = (done.1, refl); ticket = refl; later = tt; memory = tt }
  at_read_timing _ done = absurd done

  at_read_asking : (at inverter : ℕ) (came : Input) → IsDone job (output.Call (call.Read at inverter)) came old new
      → Leads job (output.Call (call.Read at inverter)) came ReadAsking (row job state ReadAsking came)
  at_read_asking at inverter (input.Reply (reply.ReadAs read)) done = record { stands = tt; ticket = refl; later = tt; memory = tt }
  at_read_asking at inverter (input.Reply (reply.Granted write)) done = absurd done.fits
  at_read_asking at inverter (input.Reply _) done = record { stands = tt; ticket = refl; later = tt; memory = tt }
  at_read_asking at inverter input.Full done = record { stands = tt; ticket = refl; later = tt; memory = tt }
  at_read_asking at inverter _ done = absurd done

  at_read_window : (read : reads.Read) (came : Input) → IsDone job output.Now came old new → Leads job output.Now came (ReadWindow read) (row job state (ReadWindow read) came)
  at_read_window read (input.Time c) done = record { stands = tt; ticket = refl; later = tt; memory = tt }
  at_read_window read _ done = absurd done

  at_sending_read : (read sent : reads.Read) (clock : ℕ) (came : Input) → IsDone job (output.Send (asked.Read sent) clock) came old new
      → Leads job (output.Send (asked.Read sent) clock) came (SendingRead read) (row job state (SendingRead read) came)
  at_sending_read read sent clock input.SentAll done = record { stands = tt; ticket = refl; later = tt; memory = tt }
  at_sending_read read sent clock input.SendFailed done = record { stands = tt; ticket = refl; later = tt; memory = tt }
  at_sending_read read sent clock _ done = absurd done

  judged : (read : reads.Read) (came : Input) (judged : Judged) → Leads job output.Receive came (WaitRead read) (judgement_row state read judged)
  judged read came (Shows raw) = record { stands = tt; ticket = refl; later = tt; memory = tt }
  judged read came (Differs point wanted found) = record { stands = tt; ticket = refl; later = tt; memory = tt }
  judged read came (WrongNumber number) = either job output.Receive came (WaitRead read) (ltb state.skipped 7) _ _ (record { stands = tt; ticket = refl; later = tt; memory = tt })
      (either job output.Receive came (WaitRead read) (eqb state.skipped 7) _ _ (record { stands = tt; ticket = refl; later = tt; memory = tt }) tt)
  judged read came (WrongUnit unit) = record { stands = tt; ticket = refl; later = tt; memory = tt }
  judged read came (Exception code) = record { stands = tt; ticket = refl; later = tt; memory = tt }
  judged read came WrongReply = record { stands = tt; ticket = refl; later = tt; memory = tt }

  at_wait_read : (read : reads.Read) (came : Input) → Leads job output.Receive came (WaitRead read) (row job state (WaitRead read) came)
  at_wait_read read (input.Frame frame) = judged read (input.Frame frame) (judgement read job.unit job.port job.rules frame)
  at_wait_read read input.Quiet = record { stands = tt; ticket = refl; later = tt; memory = tt }
  at_wait_read read input.Closed = record { stands = tt; ticket = refl; later = tt; memory = tt }
  at_wait_read read input.RecvFailed = record { stands = tt; ticket = refl; later = tt; memory = tt }
  at_wait_read read input.BadFrame = record { stands = tt; ticket = refl; later = tt; memory = tt }
  at_wait_read read _ = tt

  at_saw_timing : (read : reads.Read) (raw : ℕ) (came : Input) → IsDone job output.Now came old new → Leads job output.Now came (SawTiming read raw) (row job state (SawTiming read raw) came)
  at_saw_timing read raw (input.Time c) done = record { stands = (done.1, refl); ticket = refl; later = tt; memory = tt }
  at_saw_timing read raw _ done = absurd done

  at_saw_asking : (at inverter number raw : ℕ) (came : Input) → IsDone job (output.Call (call.Saw at inverter number raw)) came old new
      → Leads job (output.Call (call.Saw at inverter number raw)) came SawAsking (row job state SawAsking came)
  at_saw_asking at inverter number raw (input.Reply (reply.Granted write)) done = absurd done.fits
  at_saw_asking at inverter number raw (input.Reply _) done = record { stands = tt; ticket = refl; later = tt; memory = tt }
  at_saw_asking at inverter number raw input.Full done = record { stands = tt; ticket = refl; later = tt; memory = tt }
  at_saw_asking at inverter number raw _ done = absurd done

  at_closing : (came : Input) → IsDone job output.HangUp came old new → Leads job output.HangUp came Closing (row job state Closing came)
  at_closing input.HungUp done = record { stands = tt; ticket = refl; later = tt; memory = tt }
  at_closing _ done = absurd done

  at_unfit_closing : (point : Point) (wanted found : ℕ) (came : Input) → IsDone job output.HangUp came old new
      → Leads job output.HangUp came (UnfitClosing point wanted found) (row job state (UnfitClosing point wanted found) came)
  at_unfit_closing point wanted found input.HungUp done = record { stands = tt; ticket = refl; later = tt; memory = tt }
  at_unfit_closing point wanted found _ done = absurd done

  at_resting : (ms : ℕ) (came : Input) → IsDone job (output.Rest ms) came old new → Leads job (output.Rest ms) came Resting (row job state Resting came)
  at_resting ms input.Rested done = record { stands = tt; ticket = refl; later = tt; memory = tt }
  at_resting ms _ done = absurd done

  -- at each step with its output
  pub leads : (step : Step) (output : Output) → is_last output ≡ false → Stands job step output → (came : Input) → IsDone job output came old new
      → Leads job output came step (row job state step came)
  leads Ready output.Nothing going stands came done = absurd cc
  leads (Over end) output.End going stands came done = absurd done
  leads Aiming output.Goal going stands came done = at_aiming came done
  leads (Dialing raw) output.Dial going stands came done = at_dialing raw came done
  leads (LinkTiming raw) output.Now going stands came done = at_link_timing raw came done
  leads (Linking raw) (output.Call (call.Link at inverter)) going stands came done = at_linking raw at inverter came done
  leads (Timing raw) output.Now going stands came done = at_timing raw came done
  leads Asking (output.Call (call.Ask at inverter raw)) going stands came done = at_asking at inverter raw stands.1 came done
  leads (Window write) output.Now going stands came done = at_window write stands came done
  leads (ReleaseTiming write) (output.Release back at) going stands came done = at_release write back at came done
  leads (Sending write) (output.Send (asked.Write sent) clock) going stands came done = at_sending write sent clock came done
  leads (WaitWrite write) output.Receive going stands came done = at_wait_write write came
  leads ReadTiming output.Now going stands came done = at_read_timing came done
  leads ReadAsking (output.Call (call.Read at inverter)) going stands came done = at_read_asking at inverter came done
  leads (ReadWindow read) output.Now going stands came done = at_read_window read came done
  leads (SendingRead read) (output.Send (asked.Read sent) clock) going stands came done = at_sending_read read sent clock came done
  leads (WaitRead read) output.Receive going stands came done = at_wait_read read came
  leads (SawTiming read raw) output.Now going stands came done = at_saw_timing read raw came done
  leads SawAsking (output.Call (call.Saw at inverter number raw)) going stands came done = at_saw_asking at inverter number raw came done
  leads Closing output.HangUp going stands came done = at_closing came done
  leads (UnfitClosing point wanted found) output.HangUp going stands came done = at_unfit_closing point wanted found came done
  leads Resting (output.Rest ms) going stands came done = at_resting ms came done
  leads step output going stands came done = absurd stands

pub led : (job : Job) (state next : State) (output following : Output) (came : Input) (old new : World) → is_last output ≡ false → Stands job state.step output
    → IsDone job output came old new → table job state came ≡ Some (next, following) → Led job output came state.step next following
led job state next output following came old new going stands done is =
    let P : Option (State × Output) → Type 0 = λ row. Leads job output came state.step row in
    subst P is (leads job state old new state.step output going stands came done)

ready_last : (job : Job) (output : Output) → is_last output ≡ false → Stands job Ready output → ⊥
ready_last job output.Nothing going stands = cc
ready_last job _ going stands = stands

pub not_ready : (job : Job) (step : Step) (output : Output) → is_last output ≡ false → Stands job step output → step ≢ Ready
not_ready job step output going stands is =
    let P : Step → Type 0 = λ step. Stands job step output in ready_last job output going (subst P is stands)

-- it can be done, or the turn is over
pub doable : (job : Job) (step : Step) (output : Output) (ticket : Option writes.Write) → Stands job step output → is_last output ≡ false
    → ticket ≡ held step → IsDoable job output ticket
doable job Ready output.Nothing ticket stands last is = absurd cc
doable job (Over end) output.End ticket stands last is = absurd cc
doable job Aiming output.Goal ticket stands last is = tt
doable job (Dialing raw) output.Dial ticket stands last is = tt
doable job (LinkTiming raw) output.Now ticket stands last is = tt
doable job (Linking raw) (output.Call (call.Link at inverter)) ticket stands last is = stands
doable job (Timing raw) output.Now ticket stands last is = tt
doable job Asking (output.Call (call.Ask at inverter raw)) ticket stands last is = stands
doable job (Window write) output.Now ticket stands last is = tt
doable job (ReleaseTiming write) (output.Release back at) ticket stands last is =
    (is ∙ ap (λ (w : writes.Write). Some w) (sym stands.0), ap (λ (w : writes.Write). w.inverter) stands.0 ∙ stands.1, stands.2)
doable job (Sending write) (output.Send (asked.Write sent) clock) ticket stands last is = is ∙ ap (λ (w : writes.Write). Some w) (sym stands)
doable job (WaitWrite write) output.Receive ticket stands last is = tt
doable job ReadTiming output.Now ticket stands last is = tt
doable job ReadAsking (output.Call (call.Read at inverter)) ticket stands last is = stands
doable job (ReadWindow read) output.Now ticket stands last is = tt
doable job (SendingRead read) (output.Send (asked.Read sent) clock) ticket stands last is = tt
doable job (WaitRead read) output.Receive ticket stands last is = tt
doable job (SawTiming read raw) output.Now ticket stands last is = tt
doable job SawAsking (output.Call (call.Saw at inverter number raw)) ticket stands last is = stands
doable job Closing output.HangUp ticket stands last is = tt
doable job (UnfitClosing point wanted found) output.HangUp ticket stands last is = tt
doable job Resting (output.Rest ms) ticket stands last is = tt
doable job step output ticket stands last is = absurd stands

pub ended : (job : Job) (output : Output) (step : Step) → Stands job step output → is_last output ≡ true → IsBetweenTurns step
ended job output.End (Over end) stands last = tt
ended job output.End _ stands last = absurd stands
ended job output.Nothing Ready stands last = tt
ended job output.Nothing _ stands last = absurd stands
ended job _ step stands last = absurd cc
