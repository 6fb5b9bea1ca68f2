-- What a run has to do with the book and the dialer, one output after another.
use Rattle.std.proofs.Common.{◌≡◌, ℕ, ◌+◌, ◌-◌, ◌^◌, ◌≤◌, min, List, [], ◌∷◌, ◌++◌, length, Result, Ok, Err, refl, sym, ap, subst, ◌∙◌, arith, append-nil, append_assoc, length-append}
use Rattle.world_traits.specs.Causes.{Rose}
use Rattle.plant_book.specs.declared.book.Entry.{Entry}
use Rattle.plant_book.specs.declared.call.Call.{Call}
use Rattle.plant_book.specs.declared.call.Reply.{Reply}
use Rattle.plant_ledger.specs.Release.{back_of}
use Rattle.mbap_frames.specs.declared.frame.Frame.{Frame}
use Rattle.frame_inbox.specs.declared.inbox.NoFrame.{NoFrame}
use Rattle.frame_inbox.specs.declared.inbox.NoFrame.TheVariants as none
use Rattle.frame_inbox.specs.Waiting.{Counts}
use Rattle.inverter_worker.specs.declared.job.Job.{Job}
use Rattle.inverter_worker.specs.declared.input.Input.{Input}
use Rattle.inverter_worker.specs.declared.input.Input.TheVariants as input
use Rattle.inverter_worker.specs.declared.output.Output.{Output}
use Rattle.inverter_worker.specs.declared.output.Output.TheVariants as output
use Rattle.inverter_worker.specs.Runs.{RunStep}
use Rattle.worker_turn.specs.Doing.{World, IsEntered, IsDone, AreDone, input_of_wait}
use Rattle.worker_turn.specs.Agreeing.{made_by, calls_made, AreEntriesOf, failure_in, failures}

-- entries of calls were gained
abbrev pub Gains : List Entry → World → World → Type 0
Gains made old new = (gained : List Entry) × (new.made ≡ old.made ++ gained) × AreEntriesOf made gained

gains_none : (old new : World) → new.made ≡ old.made → Gains [] old new
gains_none old new is = ([], is ∙ sym (append-nil old.made), tt)

same_made : (old new : World) → new ≡ old → new.made ≡ old.made
same_made old new is = ap (λ (w : World). w.made) is

gains_one : (called : Call) (answer : Reply) (old new : World) → IsEntered called answer old new
    → Gains (record { call = called; reply = answer } ∷ []) old new
gains_one called answer old new enters =
    (_, same_made _ new enters.is, (record { at = enters.at; later = enters.later; is = refl }, tt))

pub gains : (job : Job) (output : Output) (came : Input) (old new : World) → IsDone job output came old new → Gains (made_by output came) old new
gains job output.Goal (input.Goal goal) old new done = gains_none old new (same_made old new done)
gains job output.Dial input.Dialed old new done = gains_none old new (same_made _ new done)
gains job output.Dial input.DialFailed old new done = gains_none old new (same_made _ new done.0)
gains job output.Now (input.Time clock) old new done = gains_none old new (same_made _ new done.0)
gains job (output.Call called) (input.Reply answer) old new done = gains_one called answer old new done
gains job (output.Call called) input.Full old new done = gains_none old new (same_made old new done)
gains job (output.Release write at) (input.Reply answer) old new done = gains_one (back_of write at) answer old new done
gains job (output.Release write at) input.Full old new done = gains_none old new (same_made old new done)
gains job (output.Send request clock) input.SentAll old new done = gains_none old new (same_made _ new done)
gains job (output.Send request clock) input.SendFailed old new done = gains_none old new (same_made _ new done.0)
gains job output.Receive came old new done = gains_none old new (same_made _ new done.0)
gains job output.HangUp input.HungUp old new done = gains_none old new (same_made _ new done)
gains job (output.Rest ms) input.Rested old new done = gains_none old new (same_made old new done)
gains job output.Nothing input.Go old new done = gains_none old new (same_made old new done)
gains job output.Nothing input.NoRoom old new done = gains_none old new (same_made old new done)
gains job output came old new done = absurd done

entries_joined : (made entries others later : List Entry) → AreEntriesOf made entries → AreEntriesOf others later
    → AreEntriesOf (made ++ others) (entries ++ later)
entries_joined [] [] others later first last = last
entries_joined (own ∷ made) (entry ∷ entries) others later first last = (first.0, entries_joined made entries others later first.1 last)
entries_joined [] (entry ∷ entries) others later first last = absurd first
entries_joined (own ∷ made) [] others later first last = absurd first

pub entered : (job : Job) (first : Output) (later : List RunStep) (old new : World) → AreDone job first later old new
    → Gains (calls_made first later) old new
entered job first [] old new done = gains_none old new (same_made old new done)
entered job first (next ∷ later) old new done =
    let here = gains job first next.input old done.0 done.1 in
    let behind = entered job next.output later done.0 new done.2 in (
      here.0 ++ behind.0,
      behind.1 ∙ ap (λ (t : List Entry). t ++ behind.0) here.1 ∙ append_assoc old.made here.0 behind.0,
      entries_joined (made_by first next.input) here.0 (calls_made next.output later) behind.0 here.2 behind.2,
    )

-- each failure is counted
abbrev pub IsCounted : (failed old new : ℕ) → Type 0
IsCounted failed old new = min (old + failed) (2 ^ 64 - 1) ≤ new

counts_none : (old new : ℕ) → new ≡ old → IsCounted 0 old new
counts_none old new is = omega arith

counts_one : (old new : ℕ) → Rose old new → IsCounted 1 old new
counts_one old new rose = rose

same_faults : (old new : World) → new ≡ old → new.faults ≡ old.faults
same_faults old new is = ap (λ (w : World). w.faults) is

answers_wait : (result : Result Frame NoFrame) (old new : ℕ) → Counts result old new → IsCounted (length (failure_in (input_of_wait result))) old new
answers_wait (Ok frame) old new counts = counts_none old new counts
answers_wait (Err none.Quiet) old new counts = counts_none old new counts
answers_wait (Err none.Closed) old new counts = counts_none old new counts
answers_wait (Err none.RecvFailed) old new counts = counts_one old new counts
answers_wait (Err (none.BadFrame fault)) old new counts = counts_none old new counts

counted_one : (job : Job) (output : Output) (came : Input) (old new : World) → IsDone job output came old new
    → IsCounted (length (failure_in came)) old.faults new.faults
counted_one job output.Goal (input.Goal goal) old new done = counts_none old.faults new.faults (same_faults _ new done)
counted_one job output.Dial input.Dialed old new done = counts_none old.faults new.faults (same_faults _ new done)
counted_one job output.Dial input.DialFailed old new done = counts_one old.faults new.faults done.1
counted_one job output.Now (input.Time clock) old new done = counts_none old.faults new.faults (same_faults _ new done.0)
counted_one job (output.Call called) (input.Reply answer) old new done = counts_none old.faults new.faults (same_faults _ new done.is)
counted_one job (output.Call called) input.Full old new done = counts_none old.faults new.faults (same_faults _ new done)
counted_one job (output.Release write at) (input.Reply answer) old new done = counts_none old.faults new.faults (same_faults _ new done.is)
counted_one job (output.Release write at) input.Full old new done = counts_none old.faults new.faults (same_faults _ new done)
counted_one job (output.Send request clock) input.SentAll old new done = counts_none old.faults new.faults (same_faults _ new done)
counted_one job (output.Send request clock) input.SendFailed old new done = counts_one old.faults new.faults done.2
counted_one job output.Receive came old new done =
    let P : Input → Type 0 = λ came. IsCounted (length (failure_in came)) old.faults new.faults in
    subst P (sym done.1.is) (answers_wait done.1.result old.faults new.faults done.1.counts)
counted_one job output.HangUp input.HungUp old new done = counts_none old.faults new.faults (same_faults _ new done)
counted_one job (output.Rest ms) input.Rested old new done = counts_none old.faults new.faults (same_faults old new done)
counted_one job output.Nothing input.Go old new done = counts_none old.faults new.faults (same_faults old new done)
counted_one job output.Nothing input.NoRoom old new done = counts_none old.faults new.faults (same_faults old new done)
counted_one job output came old new done = absurd done

counts_more : (m n a b c : ℕ) → IsCounted m a b → IsCounted n b c → IsCounted (m + n) a c
counts_more m n a b c first last = omega arith

pub counted : (job : Job) (first : Output) (later : List RunStep) (old new : World) → AreDone job first later old new
    → IsCounted (length (failures later)) old.faults new.faults
counted job first [] old new done = counts_none old.faults new.faults (same_faults old new done)
counted job first (next ∷ later) old new done =
    let P : ℕ → Type 0 = λ n. IsCounted n old.faults new.faults in
    subst P (sym (length-append (failure_in next.input) (failures later)))
    (counts_more (length (failure_in next.input)) (length (failures later)) old.faults done.0.faults new.faults
    (counted_one job first next.input old done.0 done.1) (counted job next.output later done.0 new done.2))
