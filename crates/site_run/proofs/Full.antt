-- A worker ends at a full book only where the book told so.
use Rattle.std.proofs.Common.{◌≡◌, ℕ, ◌+◌, Bool, true, false, cond, ltb, eqb, List, [], ◌∷◌, length, ◌⊎◌, inl, inr, Option, Some, None, refl, ap, subst}
use Rattle.plant_book.specs.declared.call.Reply.TheVariants as reply
use Rattle.plant_book.specs.declared.call.Read as reads
use Rattle.ledger_desk.specs.Desk.{GoalTest}
use Rattle.inverter_worker.specs.declared.job.Job.{Job}
use Rattle.inverter_worker.specs.declared.input.Input.{Input}
use Rattle.inverter_worker.specs.declared.input.Input.TheVariants as input
use Rattle.inverter_worker.specs.declared.output.Output.{Output}
use Rattle.inverter_worker.specs.declared.state.State.{State}
use Rattle.inverter_worker.specs.declared.state.End.TheVariants as over
use Rattle.inverter_worker.specs.declared.state.Step.{Step}
use Rattle.inverter_worker.specs.declared.state.Step.TheVariants.{Ready, Aiming, Dialing, LinkTiming, Linking, Timing, Asking, Window, ReleaseTiming, Sending, WaitWrite, ReadTiming, ReadAsking, ReadWindow, SendingRead, WaitRead, SawTiming, SawAsking, Closing, UnfitClosing, Resting, Over}
use Rattle.readback.specs.declared.judging.Judged.{Judged}
use Rattle.readback.specs.declared.judging.Judged.TheVariants.{WrongNumber, WrongUnit, Exception, WrongReply, Differs, Shows}
use Rattle.readback.specs.Judging.{judgement}
use Rattle.inverter_worker.specs.States.{due, in_window}
use Rattle.inverter_worker.specs.Table.{row, other_frame_row, judgement_row}
use Rattle.inverter_worker.specs.Runs.{RunStep, LeadsTo}
use Rattle.worker_turn.specs.Agreeing.{made_by}
use Rattle.plant_run.specs.Works.{AreTold, IsToldAt}

-- not over at a full book
abbrev pub IsNotFull : Step → Type 0
IsNotFull (Over over.BookFull) = ⊥
IsNotFull step = Unit {0}

abbrev IsOther : Input → Type 0
IsOther input.Full = ⊥
IsOther came = Unit {0}

abbrev LeadsOn : Option (State × Output) → Type 0
LeadsOn None = Unit {0}
LeadsOn (Some found) = IsNotFull found.0.step

either : (b : Bool) (x y : Option (State × Output)) → LeadsOn x → LeadsOn y → LeadsOn (cond b x y)
either true x y p q = p
either false x y p q = q

module _ (job : Job) (state : State) where
  passing : (step : Step) → IsNotFull step → LeadsOn (other_frame_row state step)
  passing step p = either (ltb state.skipped 7) _ _ p (either (eqb state.skipped 7) _ _ tt tt)

  judged : (read : reads.Read) (judged : Judged) → LeadsOn (judgement_row state read judged)
  judged read (Shows raw) = tt
  judged read (Differs point wanted found) = tt
  judged read (WrongNumber number) = passing (WaitRead read) tt
  judged read (WrongUnit unit) = tt
  judged read (Exception code) = tt
  judged read WrongReply = tt

  -- an input other than a full book leads to no such end
  pub leads_on : (step : Step) (came : Input) → IsOther came → LeadsOn (row job state step came)
  leads_on Ready input.NoRoom other = tt
  leads_on Ready input.Go other = either (eqb state.turns 0) _ _ tt tt
  leads_on Ready _ other = tt
  leads_on Aiming (input.Goal goal) other = either goal.stop _ _ tt (either state.up _ _ tt tt)
  leads_on Aiming _ other = tt
  leads_on (Dialing raw) input.DialFailed other = tt
  leads_on (Dialing raw) input.Dialed other = tt
  leads_on (Dialing raw) _ other = tt
  leads_on (LinkTiming raw) (input.Time c) other = tt
  leads_on (LinkTiming raw) _ other = tt
  leads_on (Linking raw) (input.Reply (reply.Linked link)) other = tt
  leads_on (Linking raw) (input.Reply _) other = tt
  leads_on (Linking raw) input.Full other = absurd other
  leads_on (Linking raw) _ other = tt
  leads_on (Timing raw) (input.Time c) other = either (due job state.last c raw) _ _ tt tt
  leads_on (Timing raw) _ other = tt
  leads_on Asking (input.Reply (reply.Granted write)) other = tt
  leads_on Asking (input.Reply reply.Spent) other = tt
  leads_on Asking (input.Reply _) other = tt
  leads_on Asking input.Full other = absurd other
  leads_on Asking _ other = tt
  leads_on (Window write) (input.Time c) other = either (in_window job write c) _ _ tt tt
  leads_on (Window write) _ other = tt
  leads_on (ReleaseTiming write) (input.Reply _) other = tt
  leads_on (ReleaseTiming write) input.Full other = absurd other
  leads_on (ReleaseTiming write) _ other = tt
  leads_on (Sending write) input.SentAll other = tt
  leads_on (Sending write) input.SendFailed other = tt
  leads_on (Sending write) _ other = tt
  leads_on (WaitWrite write) (input.Frame frame) other = either (eqb frame.transaction write.number) _ _ tt (passing (WaitWrite write) tt)
  leads_on (WaitWrite write) input.Quiet other = tt
  leads_on (WaitWrite write) input.Closed other = tt
  leads_on (WaitWrite write) input.RecvFailed other = tt
  leads_on (WaitWrite write) input.BadFrame other = tt
  leads_on (WaitWrite write) _ other = tt
  leads_on ReadTiming (input.Time c) other = tt
  leads_on ReadTiming _ other = tt
  leads_on ReadAsking (input.Reply (reply.ReadAs read)) other = tt
  leads_on ReadAsking (input.Reply _) other = tt
  leads_on ReadAsking input.Full other = absurd other
  leads_on ReadAsking _ other = tt
  leads_on (ReadWindow read) (input.Time c) other = tt
  leads_on (ReadWindow read) _ other = tt
  leads_on (SendingRead read) input.SentAll other = tt
  leads_on (SendingRead read) input.SendFailed other = tt
  leads_on (SendingRead read) _ other = tt
  leads_on (WaitRead read) (input.Frame frame) other = judged read (judgement read job.unit job.port job.rules frame)
  leads_on (WaitRead read) input.Quiet other = tt
  leads_on (WaitRead read) input.Closed other = tt
  leads_on (WaitRead read) input.RecvFailed other = tt
  leads_on (WaitRead read) input.BadFrame other = tt
  leads_on (WaitRead read) _ other = tt
  leads_on (SawTiming read raw) (input.Time c) other = tt
  leads_on (SawTiming read raw) _ other = tt
  leads_on SawAsking (input.Reply _) other = tt
  leads_on SawAsking input.Full other = absurd other
  leads_on SawAsking _ other = tt
  leads_on Closing input.HungUp other = tt
  leads_on Closing _ other = tt
  leads_on (UnfitClosing point wanted found) input.HungUp other = tt
  leads_on (UnfitClosing point wanted found) _ other = tt
  leads_on Resting input.Rested other = tt
  leads_on Resting _ other = tt
  leads_on (Over end) _ other = tt

-- full, or another input
full_or_not : (came : Input) → (came ≡ input.Full) ⊎ IsOther came
full_or_not input.Full = inl refl
full_or_not _ = inr tt

-- a run that came to a full book was told so
pub told_full : (job : Job) (may_tell : GoalTest) (was_full : Type 0) (inverter : ℕ) (from last : State) (put : Output) (run : List RunStep) (made : ℕ) → LeadsTo job from run last
    → IsNotFull from.step → last.step ≡ Over over.BookFull → AreTold may_tell was_full inverter put run made → was_full
told_full job may_tell was_full inverter from last put [] made leads other full told =
    let P : Step → Type 0 = λ step. IsNotFull step in absurd (subst P full (subst P (ap (λ (s : State). s.step) leads) other))
told_full job may_tell was_full inverter from last put (one ∷ later) made leads other full told =
    elim (full_or_not one.input) [
      | inl is ↦ let T : Input → Type 0 = λ came. IsToldAt may_tell was_full inverter made came in subst T is told.0
      | inr not ↦
          let next = leads.1.0 in
          let on : IsNotFull next.step = let L : Option (State × Output) → Type 0 = λ found. LeadsOn found in subst L leads.1.1.0 (leads_on job from from.step one.input not) in
          told_full job may_tell was_full inverter next last one.output later (made + length (made_by put one.input)) leads.1.1.1 on full told.1
    ]
