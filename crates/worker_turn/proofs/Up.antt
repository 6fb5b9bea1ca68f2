-- Whether a link is up at each step of the table.
use Rattle.std.proofs.Common.{◌≡◌, ℕ, Bool, true, false, cond, ltb, eqb, List, [], ◌∷◌, Option, Some, None, Result, Ok, Err, refl, sym, ap, subst, ◌∙◌}
use Rattle.std.specs.Option.{option_map}
use Rattle.world_traits.specs.Links.{Answer, Bytes, Quiet, Closed, Link, Links, new_link, link_with_bytes, link_with_receipt, with_link, with_bytes, with_receipt}
use Rattle.mbap_frames.specs.declared.frame.Frame.{Frame}
use Rattle.mbap_frames.specs.Frame.{frame_spelling}
use Rattle.plant_book.specs.declared.call.Reply.TheVariants as reply
use Rattle.plant_book.specs.declared.call.Read as reads
use Rattle.plant_book.specs.declared.call.Write as writes
use Rattle.readback.specs.declared.judging.Judged.{Judged}
use Rattle.readback.specs.declared.judging.Judged.TheVariants.{WrongNumber, WrongUnit, Exception, WrongReply, Differs, Shows}
use Rattle.readback.specs.Judging.{judgement}
use Rattle.frame_inbox.specs.declared.inbox.NoFrame.{NoFrame}
use Rattle.frame_inbox.specs.declared.inbox.NoFrame.TheVariants as none
use Rattle.frame_inbox.specs.Waiting.{with_pieces, EndsWait}
use Rattle.inverter_worker.specs.declared.job.Job.{Job}
use Rattle.inverter_worker.specs.declared.input.Input.{Input}
use Rattle.inverter_worker.specs.declared.input.Input.TheVariants as input
use Rattle.inverter_worker.specs.declared.output.Output.{Output}
use Rattle.inverter_worker.specs.declared.output.Output.TheVariants as output
use Rattle.inverter_worker.specs.declared.state.State.{State}
use Rattle.inverter_worker.specs.declared.state.Step.{Step}
use Rattle.inverter_worker.specs.declared.state.Step.TheVariants.{Ready, Aiming, Dialing, LinkTiming, Linking, Timing, Asking, Window, ReleaseTiming, Sending, WaitWrite, ReadTiming, ReadAsking, ReadWindow, SendingRead, WaitRead, SawTiming, SawAsking, Closing, UnfitClosing, Resting, Over}
use Rattle.inverter_worker.specs.States.{due, in_window}
use Rattle.inverter_worker.specs.Table.{row, other_frame_row, judgement_row}
use Rattle.inverter_worker.specs.Runs.{RunStep, LeadsTo}
use Rattle.worker_turn.specs.Doing.{World, IsDone, AreDone, input_of_wait, request_frame}
use Rattle.worker_turn.specs.Turning.{pending}
use Rattle.worker_turn.specs.Lines.{IsUp}
use Rattle.worker_turn.proofs.Reading.{told_of, same_links}

-- a link that is up stays up
abbrev Stays : (Links → Links) → Type 0
Stays f = (links : Links) (link : Link) → links.current ≡ Some link → (after : Link) × ((f links).current ≡ Some after)

stays_bytes : (bytes : List ℕ) → Stays (with_bytes bytes)
stays_bytes bytes links link up = (link_with_bytes bytes link, ap (option_map (link_with_bytes bytes)) up)

stays_receipt : (answer : Answer) → Stays (with_receipt answer)
stays_receipt answer links link up = (link_with_receipt answer link, ap (option_map (link_with_receipt answer)) up)

stays_pieces : (pieces : List (List ℕ)) → Stays (with_pieces pieces)
stays_pieces [] links link up = (link, up)
stays_pieces (piece ∷ pieces) links link up =
    let here = stays_receipt (Bytes piece) links link up in stays_pieces pieces (with_receipt (Bytes piece) links) here.0 here.1

stays_through : (f : Links → Links) (old new : Option Links) → Stays f → new ≡ option_map f old → IsUp old → IsUp new
stays_through f old new stays is up = λ links told.
    let was = told_of f old links (sym is ∙ told) in
    let before = up was.0 was.1 in
    let after = stays was.0 before.0 before.1 in (after.0, subst (λ (l : Links). l.current ≡ Some after.0) was.2 after.1)

stays_same : (old new : Option Links) → new ≡ old → IsUp old → IsUp new
stays_same old new is up = λ links told. up links (sym is ∙ told)

dialed_up : (host : List ℕ) (port : ℕ) (old new : Option Links) → new ≡ option_map (with_link host port) old → IsUp new
dialed_up host port old new is = λ links told.
    let was = told_of (with_link host port) old links (sym is ∙ told) in
    (new_link host port, ap (λ (l : Links). l.current) (sym was.2))

-- what an input tells of the link
abbrev Keeps : Input → Option Links → Option Links → Type 0
Keeps input.Dialed old new = IsUp new
Keeps input.RecvFailed old new = Unit {0}
Keeps input.HungUp old new = Unit {0}
Keeps came old new = IsUp old → IsUp new

keeps_end : (result : Result Frame NoFrame) (bytes rest : List ℕ) (old between new : Option Links) → (IsUp old → IsUp between) → EndsWait result bytes rest between new
    → Keeps (input_of_wait result) old new
keeps_end (Ok frame) bytes rest old between new first ends = λ up. stays_same between new ends.2 (first up)
keeps_end (Err none.Quiet) bytes rest old between new first ends = λ up. stays_through (with_receipt Quiet) between new (stays_receipt Quiet) ends.1 (first up)
keeps_end (Err none.Closed) bytes rest old between new first ends = λ up. stays_through (with_receipt Closed) between new (stays_receipt Closed) ends.1 (first up)
keeps_end (Err none.RecvFailed) bytes rest old between new first ends = tt
keeps_end (Err (none.BadFrame fault)) bytes rest old between new first ends = λ up. stays_same between new ends.1 (first up)

keeps_one : (job : Job) (put : Output) (came : Input) (old new : World) → IsDone job put came old new → Keeps came old.links new.links
keeps_one job output.Goal (input.Goal goal) old new done = stays_same old.links new.links (same_links _ new done)
keeps_one job output.Dial input.Dialed old new done = dialed_up job.port.host job.port.port old.links new.links (same_links _ new done)
keeps_one job output.Dial input.DialFailed old new done = stays_same old.links new.links (same_links _ new done.0)
keeps_one job output.Now (input.Time clock) old new done = stays_same old.links new.links (same_links _ new done.0)
keeps_one job (output.Call called) (input.Reply answer) old new done = stays_same old.links new.links (same_links _ new done.is)
keeps_one job (output.Call called) input.Full old new done = stays_same old.links new.links (same_links _ new done)
keeps_one job (output.Release write at) (input.Reply answer) old new done = stays_same old.links new.links (same_links _ new done.is)
keeps_one job (output.Release write at) input.Full old new done = stays_same old.links new.links (same_links _ new done)
keeps_one job (output.Send request clock) input.SentAll old new done =
    let bytes = frame_spelling (request_frame job request) in
    stays_through (with_bytes bytes) old.links new.links (stays_bytes bytes) (same_links _ new done)
keeps_one job (output.Send request clock) input.SendFailed old new done =
    stays_through (with_bytes _) old.links new.links (stays_bytes _) done.1.2
keeps_one job output.Receive came old new done =
    let wait = done.1.wait in
    let P : Input → Type 0 = λ i. Keeps i old.links new.links in
    subst P (sym done.1.is) (keeps_end done.1.result _ new.unread old.links wait.between new.links
    (stays_through (with_pieces wait.pieces) old.links wait.between (stays_pieces wait.pieces) wait.receives.links) wait.ends)
keeps_one job output.HangUp input.HungUp old new done = tt
keeps_one job (output.Rest ms) input.Rested old new done = stays_same old.links new.links (same_links old new done)
keeps_one job output.Nothing input.Go old new done = stays_same old.links new.links (same_links old new done)
keeps_one job output.Nothing input.NoRoom old new done = stays_same old.links new.links (same_links old new done)
keeps_one job put came old new done = absurd done

-- whether a link is up at a step
abbrev pub HasLink : Step → Bool → Option Links → Type 0
HasLink Ready up told = up ≡ true → IsUp told
HasLink Aiming up told = up ≡ true → IsUp told
HasLink (Dialing raw) up told = up ≡ true → IsUp told
HasLink Resting up told = up ≡ true → IsUp told
HasLink Closing up told = Unit {0}
HasLink (UnfitClosing point wanted found) up told = Unit {0}
HasLink (Over end) up told = Unit {0}
HasLink step up told = IsUp told

abbrev pub HasLinkAt : Output → Option Links → Type 0
HasLinkAt output.Receive told = IsUp told
HasLinkAt put told = Unit {0}

abbrev RowHasLink : Option Links → Option (State × Output) → Type 0
RowHasLink told None = Unit {0}
RowHasLink told (Some row) = HasLink row.0.step row.0.up told × HasLinkAt row.1 told

either : (told : Option Links) (b : Bool) (x y : Option (State × Output)) → (b ≡ true → RowHasLink told x) → RowHasLink told y → RowHasLink told (cond b x y)
either told true x y p q = p refl
either told false x y p q = q

module _ (job : Job) (from : State) (old new : Option Links) where
  passing_write : (write : writes.Write) → IsUp new → RowHasLink new (other_frame_row from (WaitWrite write))
  passing_write write up = either new (ltb from.skipped 7) _ _ (λ _. (up, up)) (either new (eqb from.skipped 7) _ _ (λ _. (tt, tt)) tt)

  judging : (read : reads.Read) (judged : Judged) → IsUp new → RowHasLink new (judgement_row from read judged)
  judging read (Shows raw) up = (up, tt)
  judging read (Differs point wanted found) up = (tt, tt)
  judging read (WrongNumber number) up = either new (ltb from.skipped 7) _ _ (λ _. (up, up)) (either new (eqb from.skipped 7) _ _ (λ _. (tt, tt)) tt)
  judging read (WrongUnit unit) up = (tt, tt)
  judging read (Exception code) up = (tt, tt)
  judging read WrongReply up = (tt, tt)

  rows : (step : Step) (came : Input) → Keeps came old new → HasLink step from.up old → RowHasLink new (row job from step came)
  rows Ready input.NoRoom keeps has = (tt, tt)
  rows Ready input.Go keeps has = either new (eqb from.turns 0) _ _ (λ _. (tt, tt)) (λ up. keeps (has up), tt)
  rows Aiming (input.Goal goal) keeps has = either new goal.stop _ _ (λ _. (tt, tt))
      (either new from.up _ _ (λ up. (keeps (has up), tt)) (λ up. keeps (has up), tt))
  rows (Dialing raw) input.DialFailed keeps has = (λ up. keeps (has up), tt)
  rows (Dialing raw) input.Dialed keeps has = (keeps, tt)
  rows (LinkTiming raw) (input.Time c) keeps has = (keeps has, tt)
  rows (Linking raw) (input.Reply (reply.Linked number)) keeps has = (keeps has, tt)
  rows (Linking raw) input.Full keeps has = (tt, tt)
  rows (Timing raw) (input.Time c) keeps has = either new (due job from.last c raw) _ _ (λ _. (keeps has, tt)) (keeps has, tt)
  rows Asking (input.Reply (reply.Granted write)) keeps has = (keeps has, tt)
  rows Asking (input.Reply reply.Spent) keeps has = (tt, tt)
  rows Asking (input.Reply _) keeps has = (keeps has, tt)
  rows Asking input.Full keeps has = (tt, tt)
  rows (Window write) (input.Time c) keeps has = either new (in_window job write c) _ _ (λ _. (keeps has, tt)) (keeps has, tt)
  rows (ReleaseTiming write) (input.Reply _) keeps has = (keeps has, tt)
  rows (ReleaseTiming write) input.Full keeps has = (tt, tt)
  rows (Sending write) input.SentAll keeps has = (keeps has, keeps has)
  rows (Sending write) input.SendFailed keeps has = (tt, tt)
  rows (WaitWrite write) (input.Frame frame) keeps has =
      either new (eqb frame.transaction write.number) _ _ (λ _. (keeps has, tt)) (passing_write write (keeps has))
  rows (WaitWrite write) input.Quiet keeps has = (tt, tt)
  rows (WaitWrite write) input.Closed keeps has = (tt, tt)
  rows (WaitWrite write) input.RecvFailed keeps has = (tt, tt)
  rows (WaitWrite write) input.BadFrame keeps has = (tt, tt)
  rows ReadTiming (input.Time c) keeps has = (keeps has, tt)
  rows ReadAsking (input.Reply (reply.ReadAs read)) keeps has = (keeps has, tt)
  rows ReadAsking (input.Reply _) keeps has = (tt, tt)
  rows ReadAsking input.Full keeps has = (tt, tt)
  rows (ReadWindow read) (input.Time c) keeps has = (keeps has, tt)
  rows (SendingRead read) input.SentAll keeps has = (keeps has, keeps has)
  rows (SendingRead read) input.SendFailed keeps has = (tt, tt)
  rows (WaitRead read) (input.Frame frame) keeps has = judging read (judgement read job.unit job.port job.rules frame) (keeps has)
  rows (WaitRead read) input.Quiet keeps has = (tt, tt)
  rows (WaitRead read) input.Closed keeps has = (tt, tt)
  rows (WaitRead read) input.RecvFailed keeps has = (tt, tt)
  rows (WaitRead read) input.BadFrame keeps has = (tt, tt)
  rows (SawTiming read raw) (input.Time c) keeps has = (keeps has, tt)
  rows SawAsking (input.Reply _) keeps has = (λ _. keeps has, tt)
  rows SawAsking input.Full keeps has = (tt, tt)
  rows Closing input.HungUp keeps has = (λ up. absurd cc, tt)
  rows (UnfitClosing point wanted found) input.HungUp keeps has = (tt, tt)
  rows Resting input.Rested keeps has = (λ up. keeps (has up), tt)
  rows step came keeps has = tt

-- so it is at the end of each run
held : (job : Job) (from last : State) (put : Output) (later : List RunStep) (old new : World) → HasLink from.step from.up old.links → HasLinkAt put old.links
    → LeadsTo job from later last → AreDone job put later old new → HasLink last.step last.up new.links × HasLinkAt (pending put later) new.links
held job from last put [] old new has at leads done =
    let P : Option Links → Type 0 = λ told. HasLink last.step last.up told × HasLinkAt put told in
    let Q : State → Type 0 = λ state. HasLink state.step state.up old.links in
    subst P (sym (same_links old new done)) (subst Q leads has, at)
held job from last put (one ∷ later) old new has at leads done =
    let next = leads.1.0 in
    let P : Option (State × Output) → Type 0 = λ row. RowHasLink done.0.links row in
    let here : RowHasLink done.0.links (Some (next, one.output)) =
    subst P leads.1.1.0 (rows job from old.links done.0.links from.step one.input (keeps_one job put one.input old done.0 done.1) has) in
    held job next last one.output later done.0 new here.0 here.1 leads.1.1.1 done.2

module _ (job : Job) (begun last : State) (run : List RunStep) (old here : World) (ready : begun.step ≡ Ready) (known : begun.up ≡ true → IsUp old.links)
    (leads : LeadsTo job begun run last) (done : AreDone job output.Nothing run old here) where
  all : HasLink last.step last.up here.links × HasLinkAt (pending output.Nothing run) here.links
  all = held job begun last output.Nothing run old here (subst (λ (step : Step). HasLink step begun.up old.links) (sym ready) known) tt leads done

  pub up_at_receive : pending output.Nothing run ≡ output.Receive → IsUp here.links
  up_at_receive receives = subst (λ (o : Output). HasLinkAt o here.links) receives all.1

  pub up_when_ready : last.step ≡ Ready → last.up ≡ true → IsUp here.links
  up_when_ready over = subst (λ (step : Step). HasLink step last.up here.links) over all.0
