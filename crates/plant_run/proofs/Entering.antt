-- Where a run enters a link, and where it numbers a request: so the table has it.
use Rattle.std.proofs.Common.{◌≡◌, ℕ, Bool, true, false, cond, ltb, eqb, [], Option, Some, None, refl, sym, subst}
use Rattle.plant_book.specs.declared.call.Call.TheVariants as call
use Rattle.plant_book.specs.declared.call.Read as reads
use Rattle.plant_book.specs.declared.call.Reply.TheVariants as reply
use Rattle.readback.specs.declared.judging.Judged.{Judged}
use Rattle.readback.specs.declared.judging.Judged.TheVariants.{WrongNumber, WrongUnit, Exception, WrongReply, Differs, Shows}
use Rattle.readback.specs.Judging.{judgement}
use Rattle.inverter_worker.specs.declared.job.Job.{Job}
use Rattle.inverter_worker.specs.declared.input.Input.{Input}
use Rattle.inverter_worker.specs.declared.input.Input.TheVariants as input
use Rattle.inverter_worker.specs.declared.output.Asked.TheVariants as asked
use Rattle.inverter_worker.specs.declared.output.Output.{Output}
use Rattle.inverter_worker.specs.declared.output.Output.TheVariants as output
use Rattle.inverter_worker.specs.declared.state.End.{End}
use Rattle.inverter_worker.specs.declared.state.State.{State}
use Rattle.inverter_worker.specs.declared.state.Step.{Step}
use Rattle.inverter_worker.specs.declared.state.Step.TheVariants.{Ready, Aiming, Dialing, LinkTiming, Linking, Timing, Asking, Window, ReleaseTiming, Sending, WaitWrite, ReadTiming, ReadAsking, ReadWindow, SendingRead, WaitRead, SawTiming, SawAsking, Closing, UnfitClosing, Resting, Over}
use Rattle.inverter_worker.specs.States.{due, in_window}
use Rattle.inverter_worker.specs.Table.{row, other_frame_row, judgement_row}
use Rattle.inverter_worker.specs.Requests.{requests_in}
use Rattle.worker_turn.specs.Agreeing.{made_by}
use Rattle.plant_run.specs.Acts.{is_dialed}
use Rattle.plant_run.specs.Requests.{links_in, requested}

-- whether a link was dialed that the ledger has not entered yet
abbrev pub is_entering : Step → Bool
is_entering (LinkTiming raw) = true
is_entering (Linking raw) = true
is_entering step = false

-- what an input does to a link
pub data Move (step : Step) (came : Input) (next : Step) : Type 0 where
  Along : is_entering step ≡ false → is_entering next ≡ false → is_dialed came ≡ false → Move step came next
  Dials : (raw : ℕ) → step ≡ Dialing raw → came ≡ input.Dialed → next ≡ LinkTiming raw → Move step came next
  Times : (raw clock : ℕ) → step ≡ LinkTiming raw → came ≡ input.Time clock → next ≡ Linking raw → Move step came next
  Enters : (raw number : ℕ) → step ≡ Linking raw → came ≡ input.Reply (reply.Linked number) → next ≡ Timing raw → Move step came next
  Fills : (raw : ℕ) (end : End) → step ≡ Linking raw → came ≡ input.Full → next ≡ Over end → Move step came next

-- what holds of each such move holds of them all
pub by_move : (P : Step → Input → Step → Type 0)
    → ((step : Step) (came : Input) (next : Step) → is_entering step ≡ false → is_entering next ≡ false → is_dialed came ≡ false → P step came next)
    → ((raw : ℕ) → P (Dialing raw) input.Dialed (LinkTiming raw)) → ((raw clock : ℕ) → P (LinkTiming raw) (input.Time clock) (Linking raw))
    → ((raw number : ℕ) → P (Linking raw) (input.Reply (reply.Linked number)) (Timing raw))
    → ((raw : ℕ) (end : End) → P (Linking raw) input.Full (Over end)) → (step : Step) (came : Input) (next : Step) → Move step came next → P step came next
by_move P along dials times enters fills step came next (Along first last apart) = along step came next first last apart
by_move P along dials times enters fills step came next (Dials raw is by to) =
    subst (λ (s : Step). P s came next) (sym is) (subst (λ (c : Input). P (Dialing raw) c next) (sym by) (subst (λ (s : Step). P (Dialing raw) input.Dialed s) (sym to) (dials raw)))
by_move P along dials times enters fills step came next (Times raw clock is by to) =
    subst (λ (s : Step). P s came next) (sym is) (subst (λ (c : Input). P (LinkTiming raw) c next) (sym by)
    (subst (λ (s : Step). P (LinkTiming raw) (input.Time clock) s) (sym to) (times raw clock)))
by_move P along dials times enters fills step came next (Enters raw number is by to) =
    subst (λ (s : Step). P s came next) (sym is) (subst (λ (c : Input). P (Linking raw) c next) (sym by)
    (subst (λ (s : Step). P (Linking raw) (input.Reply (reply.Linked number)) s) (sym to) (enters raw number)))
by_move P along dials times enters fills step came next (Fills raw end is by to) =
    subst (λ (s : Step). P s came next) (sym is) (subst (λ (c : Input). P (Linking raw) c next) (sym by)
    (subst (λ (s : Step). P (Linking raw) input.Full s) (sym to) (fills raw end)))

-- an output that neither enters a link nor numbers a request
abbrev pub IsApart : Output → Type 0
IsApart (output.Call (call.Link at inverter)) = ⊥
IsApart (output.Call (call.Ask at inverter raw)) = ⊥
IsApart (output.Call (call.Read at inverter)) = ⊥
IsApart put = Unit {0}

-- with which output a step is entered
abbrev pub Fits : Step → Output → Type 0
Fits (Dialing raw) put = put ≡ output.Dial
Fits (LinkTiming raw) put = put ≡ output.Now
Fits (Linking raw) put = (at : ℕ) × (inverter : ℕ) × (put ≡ output.Call (call.Link at inverter))
Fits Asking put = (at : ℕ) × (inverter : ℕ) × (raw : ℕ) × (put ≡ output.Call (call.Ask at inverter raw))
Fits ReadAsking put = (at : ℕ) × (inverter : ℕ) × (put ≡ output.Call (call.Read at inverter))
Fits (Sending write) put = (clock : ℕ) × (put ≡ output.Send (asked.Write write) clock)
Fits (SendingRead read) put = (clock : ℕ) × (put ≡ output.Send (asked.Read read) clock)
Fits (Over end) put = put ≡ output.End
Fits step put = IsApart put

-- behind a send that took the whole frame, or a frame that came
abbrev pub Behind : Step → Input → Type 0
Behind (Sending write) input.SentAll = Unit {0}
Behind (SendingRead read) input.SentAll = Unit {0}
Behind (WaitWrite write) (input.Frame frame) = Unit {0}
Behind (WaitRead read) (input.Frame frame) = Unit {0}
Behind step came = ⊥

abbrev pub IsNoWait : Output → Type 0
IsNoWait output.Receive = ⊥
IsNoWait put = Unit {0}

-- only there a frame is waited for
abbrev pub Waits : Step → Input → Step → Output → Type 0
Waits step came (WaitWrite write) put = Behind step came
Waits step came (WaitRead read) put = Behind step came
Waits step came next put = IsNoWait put

abbrev pub Keeps : Step → Input → Option (State × Output) → Type 0
Keeps step came None = Unit {0}
Keeps step came (Some next) = Move step came next.0.step × Fits next.0.step next.1 × Waits step came next.0.step next.1

either : (step : Step) (came : Input) (b : Bool) (x y : Option (State × Output)) → Keeps step came x → Keeps step came y → Keeps step came (cond b x y)
either step came true x y p q = p
either step came false x y p q = q

module _ (job : Job) (state : State) where
  passing_write : (write : _) (frame : _) → Keeps (WaitWrite write) (input.Frame frame) (other_frame_row state (WaitWrite write))
  passing_write write frame = either (WaitWrite write) (input.Frame frame) (ltb state.skipped 7) _ _ (Along refl refl refl, tt, tt)
      (either (WaitWrite write) (input.Frame frame) (eqb state.skipped 7) _ _ (Along refl refl refl, tt, tt) tt)

  passing_read : (read : reads.Read) (frame : _) → Keeps (WaitRead read) (input.Frame frame) (other_frame_row state (WaitRead read))
  passing_read read frame = either (WaitRead read) (input.Frame frame) (ltb state.skipped 7) _ _ (Along refl refl refl, tt, tt)
      (either (WaitRead read) (input.Frame frame) (eqb state.skipped 7) _ _ (Along refl refl refl, tt, tt) tt)

  judging : (read : reads.Read) (frame : _) (judged : Judged) → Keeps (WaitRead read) (input.Frame frame) (judgement_row state read judged)
  judging read frame (Shows raw) = (Along refl refl refl, tt, tt)
  judging read frame (Differs point wanted found) = (Along refl refl refl, tt, tt)
  judging read frame (WrongNumber number) = passing_read read frame
  judging read frame (WrongUnit unit) = (Along refl refl refl, tt, tt)
  judging read frame (Exception code) = (Along refl refl refl, tt, tt)
  judging read frame WrongReply = (Along refl refl refl, tt, tt)

  rows : (step : Step) (came : Input) → Keeps step came (row job state step came)
  rows Ready input.NoRoom = (Along refl refl refl, refl, tt)
  rows Ready input.Go = either Ready input.Go (eqb state.turns 0) _ _ (Along refl refl refl, refl, tt) (Along refl refl refl, tt, tt)
  rows Aiming (input.Goal goal) = either Aiming (input.Goal goal) goal.stop _ _ (Along refl refl refl, refl, tt)
      (either Aiming (input.Goal goal) state.up _ _ (Along refl refl refl, tt, tt) (Along refl refl refl, refl, tt))
  rows (Dialing raw) input.DialFailed = (Along refl refl refl, tt, tt)
  rows (Dialing raw) input.Dialed = (Dials raw refl refl refl, refl, tt)
  rows (LinkTiming raw) (input.Time c) = (Times raw c refl refl refl, (c, job.inverter, refl), tt)
  rows (Linking raw) (input.Reply (reply.Linked number)) = (Enters raw number refl refl refl, tt, tt)
  rows (Linking raw) input.Full = (Fills raw _ refl refl refl, refl, tt)
  rows (Timing raw) (input.Time c) = either (Timing raw) (input.Time c) (due job state.last c raw) _ _
      (Along refl refl refl, (c, job.inverter, raw, refl), tt) (Along refl refl refl, (c, job.inverter, refl), tt)
  rows Asking (input.Reply (reply.Granted write)) = (Along refl refl refl, tt, tt)
  rows Asking (input.Reply reply.Spent) = (Along refl refl refl, tt, tt)
  rows Asking (input.Reply _) = (Along refl refl refl, tt, tt)
  rows Asking input.Full = (Along refl refl refl, refl, tt)
  rows (Window write) (input.Time c) = either (Window write) (input.Time c) (in_window job write c) _ _
      (Along refl refl refl, (c, refl), tt) (Along refl refl refl, tt, tt)
  rows (ReleaseTiming write) (input.Reply _) = (Along refl refl refl, tt, tt)
  rows (ReleaseTiming write) input.Full = (Along refl refl refl, refl, tt)
  rows (Sending write) input.SentAll = (Along refl refl refl, tt, tt)
  rows (Sending write) input.SendFailed = (Along refl refl refl, tt, tt)
  rows (WaitWrite write) (input.Frame frame) =
      either (WaitWrite write) (input.Frame frame) (eqb frame.transaction write.number) _ _ (Along refl refl refl, tt, tt) (passing_write write frame)
  rows (WaitWrite write) input.Quiet = (Along refl refl refl, tt, tt)
  rows (WaitWrite write) input.Closed = (Along refl refl refl, tt, tt)
  rows (WaitWrite write) input.RecvFailed = (Along refl refl refl, tt, tt)
  rows (WaitWrite write) input.BadFrame = (Along refl refl refl, tt, tt)
  rows ReadTiming (input.Time c) = (Along refl refl refl, (c, job.inverter, refl), tt)
  rows ReadAsking (input.Reply (reply.ReadAs read)) = (Along refl refl refl, tt, tt)
  rows ReadAsking (input.Reply _) = (Along refl refl refl, tt, tt)
  rows ReadAsking input.Full = (Along refl refl refl, refl, tt)
  rows (ReadWindow read) (input.Time c) = (Along refl refl refl, (c, refl), tt)
  rows (SendingRead read) input.SentAll = (Along refl refl refl, tt, tt)
  rows (SendingRead read) input.SendFailed = (Along refl refl refl, tt, tt)
  rows (WaitRead read) (input.Frame frame) = judging read frame (judgement read job.unit job.port job.rules frame)
  rows (WaitRead read) input.Quiet = (Along refl refl refl, tt, tt)
  rows (WaitRead read) input.Closed = (Along refl refl refl, tt, tt)
  rows (WaitRead read) input.RecvFailed = (Along refl refl refl, tt, tt)
  rows (WaitRead read) input.BadFrame = (Along refl refl refl, tt, tt)
  rows (SawTiming read raw) (input.Time c) = (Along refl refl refl, tt, tt)
  rows SawAsking (input.Reply _) = (Along refl refl refl, tt, tt)
  rows SawAsking input.Full = (Along refl refl refl, refl, tt)
  rows Closing input.HungUp = (Along refl refl refl, tt, tt)
  rows (UnfitClosing point wanted found) input.HungUp = (Along refl refl refl, refl, tt)
  rows Resting input.Rested = (Along refl refl refl, tt, tt)
  rows step came = tt

pub kept : (job : Job) (from next : State) (came : Input) (put : Output) → row job from from.step came ≡ Some (next, put) → Move from.step came next.step × Fits next.step put × Waits from.step came next.step put
kept job from next came put is =
    let P : Option (State × Output) → Type 0 = λ row. Keeps from.step came row in subst P is (rows job from from.step came)

-- what such an output enters and numbers
apart_requested : (put : Output) (came : Input) → IsApart put → requested (made_by put came) ≡ []
apart_requested (output.Call (call.Link at inverter)) came apart = absurd apart
apart_requested (output.Call (call.Ask at inverter raw)) came apart = absurd apart
apart_requested (output.Call (call.Read at inverter)) came apart = absurd apart
apart_requested (output.Call called) (input.Reply answer) apart = refl
apart_requested (output.Release write at) (input.Reply answer) apart = refl
apart_requested put came apart = refl

apart_linked : (put : Output) (came : Input) → IsApart put → links_in (made_by put came) ≡ []
apart_linked (output.Call (call.Link at inverter)) came apart = absurd apart
apart_linked (output.Call called) (input.Reply answer) apart = refl
apart_linked (output.Release write at) (input.Reply answer) apart = refl
apart_linked put came apart = refl

asked_ask : (at inverter raw : ℕ) (came : Input) → requested (made_by (output.Call (call.Ask at inverter raw)) came) ≡ requests_in Asking came
asked_ask at inverter raw (input.Reply (reply.Granted write)) = refl
asked_ask at inverter raw (input.Reply answer) = refl
asked_ask at inverter raw came = refl

asked_read : (at inverter : ℕ) (came : Input) → requested (made_by (output.Call (call.Read at inverter)) came) ≡ requests_in ReadAsking came
asked_read at inverter (input.Reply (reply.ReadAs made)) = refl
asked_read at inverter (input.Reply answer) = refl
asked_read at inverter came = refl

linked : (at inverter : ℕ) (came : Input) → requested (made_by (output.Call (call.Link at inverter)) came) ≡ []
linked at inverter (input.Reply answer) = refl
linked at inverter came = refl

asked_linked : (at inverter raw : ℕ) (came : Input) → links_in (made_by (output.Call (call.Ask at inverter raw)) came) ≡ []
asked_linked at inverter raw (input.Reply answer) = refl
asked_linked at inverter raw came = refl

read_linked : (at inverter : ℕ) (came : Input) → links_in (made_by (output.Call (call.Read at inverter)) came) ≡ []
read_linked at inverter (input.Reply answer) = refl
read_linked at inverter came = refl

-- a step numbers what its output was answered
pub requested_here : (step : Step) (put : Output) (came : Input) → Fits step put → requested (made_by put came) ≡ requests_in step came
requested_here (Dialing raw) put came fits = subst (λ (o : Output). requested (made_by o came) ≡ []) (sym fits) refl
requested_here (LinkTiming raw) put came fits = subst (λ (o : Output). requested (made_by o came) ≡ []) (sym fits) refl
requested_here (Linking raw) put came fits = subst (λ (o : Output). requested (made_by o came) ≡ []) (sym fits.2) (linked fits.0 fits.1 came)
requested_here Asking put came fits = subst (λ (o : Output). requested (made_by o came) ≡ requests_in Asking came) (sym fits.3) (asked_ask fits.0 fits.1 fits.2 came)
requested_here ReadAsking put came fits = subst (λ (o : Output). requested (made_by o came) ≡ requests_in ReadAsking came) (sym fits.2) (asked_read fits.0 fits.1 came)
requested_here (Sending write) put came fits = subst (λ (o : Output). requested (made_by o came) ≡ []) (sym fits.1) refl
requested_here (SendingRead read) put came fits = subst (λ (o : Output). requested (made_by o came) ≡ []) (sym fits.1) refl
requested_here (Over end) put came fits = subst (λ (o : Output). requested (made_by o came) ≡ []) (sym fits) refl
requested_here step put came fits = apart_requested put came fits

-- only where one is being entered is a link entered
pub linked_here : (step : Step) (put : Output) (came : Input) → is_entering step ≡ false → Fits step put → links_in (made_by put came) ≡ []
linked_here (Dialing raw) put came not fits = subst (λ (o : Output). links_in (made_by o came) ≡ []) (sym fits) refl
linked_here (LinkTiming raw) put came not fits = absurd cc
linked_here (Linking raw) put came not fits = absurd cc
linked_here Asking put came not fits = subst (λ (o : Output). links_in (made_by o came) ≡ []) (sym fits.3) (asked_linked fits.0 fits.1 fits.2 came)
linked_here ReadAsking put came not fits = subst (λ (o : Output). links_in (made_by o came) ≡ []) (sym fits.2) (read_linked fits.0 fits.1 came)
linked_here (Sending write) put came not fits = subst (λ (o : Output). links_in (made_by o came) ≡ []) (sym fits.1) refl
linked_here (SendingRead read) put came not fits = subst (λ (o : Output). links_in (made_by o came) ≡ []) (sym fits.1) refl
linked_here (Over end) put came not fits = subst (λ (o : Output). links_in (made_by o came) ≡ []) (sym fits) refl
linked_here step put came not fits = apart_linked put came fits
