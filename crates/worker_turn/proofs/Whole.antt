-- What a link was sent last when a run waits for a frame.
use Rattle.std.proofs.Common.{◌≡◌, ℕ, List, [], ◌∷◌, ◌++◌, Option, Some, Result, Ok, Err, sym, ap, subst, ◌∙◌, append-nil, append_assoc}
use Rattle.std.specs.List.{AllByRecursion, concat}
use Rattle.std.specs.Option.{option_map}
use Rattle.world_traits.specs.Links.{Quiet, Closed, Link, Links, with_bytes, with_receipt, with_failure}
use Rattle.mbap_frames.specs.declared.frame.Frame.{Frame}
use Rattle.mbap_frames.specs.Frame.{frame_spelling}
use Rattle.frame_inbox.specs.declared.inbox.NoFrame.{NoFrame}
use Rattle.frame_inbox.specs.declared.inbox.NoFrame.TheVariants as none
use Rattle.frame_inbox.specs.Waiting.{with_pieces, EndsWait}
use Rattle.inverter_worker.specs.declared.job.Job.{Job}
use Rattle.inverter_worker.specs.declared.input.Input.{Input}
use Rattle.inverter_worker.specs.declared.input.Input.TheVariants as input
use Rattle.inverter_worker.specs.declared.output.Asked.{Asked}
use Rattle.inverter_worker.specs.declared.output.Output.{Output}
use Rattle.inverter_worker.specs.declared.output.Output.TheVariants as output
use Rattle.inverter_worker.specs.declared.state.State.{State}
use Rattle.inverter_worker.specs.declared.state.Step.TheVariants.{Ready}
use Rattle.inverter_worker.specs.Runs.{RunStep, LeadsTo}
use Rattle.worker_turn.specs.Doing.{World, IsDone, AreDone, request_frame}
use Rattle.worker_turn.specs.Turning.{pending}
use Rattle.worker_turn.specs.Requests.{IsPassedOver, Awaits, IsSentLast, IsRequested}
use Rattle.worker_turn.proofs.Reading.{told_of, Adds, adds_bytes, adds_receipt, adds_pieces, adds_failure, same_links}
use Rattle.worker_turn.proofs.Ending.{Tells, told}
use Rattle.worker_turn.proofs.Cutting.{leads_cut, done_cut}

-- the link that is up was up before, and these bytes were sent on it since
abbrev pub IsSentSince : List ℕ → Option Links → Option Links → Type 0
IsSentSince bytes old new = (links : Links) (link : Link) → new ≡ Some links → links.current ≡ Some link
    → (earlier : Links) × (was : Link) × (old ≡ Some earlier) × (earlier.current ≡ Some was) × (link.sent ≡ was.sent ++ bytes)

since_none : (old new : Option Links) → new ≡ old → IsSentSince [] old new
since_none old new is = λ links link told up. (links, link, sym is ∙ told, up, sym (append-nil link.sent))

since : (f : Links → Links) (received sent : List ℕ) (old new : Option Links) → Adds f received sent → new ≡ option_map f old → IsSentSince sent old new
since f received sent old new adds is = λ links link told up.
    let was = told_of f old links (sym is ∙ told) in
    let P : Links → Type 0 = λ l. l.current ≡ Some link in
    let more = adds was.0 link (subst P (sym was.2) up) in
    (was.0, more.0, was.1, more.1, more.3)

since_more : (a b : List ℕ) (old mid new : Option Links) → IsSentSince a old mid → IsSentSince b mid new → IsSentSince (a ++ b) old new
since_more a b old mid new first last = λ links link told up.
    let late = last links link told up in
    let early = first late.0 late.1 late.2 late.3 in
    (early.0, early.1, early.2, early.3, late.4 ∙ ap (λ (t : List ℕ). t ++ b) early.4 ∙ append_assoc early.1.sent a b)

since_end : (result : Result Frame NoFrame) (bytes rest : List ℕ) (old new : Option Links) → EndsWait result bytes rest old new → IsSentSince [] old new
since_end (Ok frame) bytes rest old new ends = since_none old new ends.2
since_end (Err none.Quiet) bytes rest old new ends = since (with_receipt Quiet) [] [] old new (adds_receipt Quiet) ends.1
since_end (Err none.Closed) bytes rest old new ends = since (with_receipt Closed) [] [] old new (adds_receipt Closed) ends.1
since_end (Err none.RecvFailed) bytes rest old new ends = since with_failure [] [] old new (adds_failure [] []) ends.1
since_end (Err (none.BadFrame fault)) bytes rest old new ends = since_none old new ends.1

since_wait : (job : Job) (came : Input) (old new : World) → IsDone job output.Receive came old new → IsSentSince [] old.links new.links
since_wait job came old new done =
    let wait = done.1.wait in
    since_more [] [] old.links wait.between new.links
    (since (with_pieces wait.pieces) (concat wait.pieces) [] old.links wait.between (adds_pieces wait.pieces) wait.receives.links)
    (since_end done.1.result _ new.unread wait.between new.links wait.ends)

since_waits : (job : Job) (request : Asked) (put : Output) (passed : List RunStep) (old new : World) → put ≡ output.Receive → AllByRecursion (IsPassedOver request) passed
    → AreDone job put passed old new → IsSentSince [] old.links new.links
since_waits job request put [] old new receives all done = since_none old.links new.links (same_links old new done)
since_waits job request put (one ∷ passed) old new receives all done =
    since_more [] [] old.links done.0.links new.links
    (since_wait job one.input old done.0 (subst (λ (o : Output). IsDone job o one.input old done.0) receives done.1))
    (since_waits job request one.output passed done.0 new all.0.2.1 all.1 done.2)

since_sent : (job : Job) (request : Asked) (clock : ℕ) (put : Output) (came : Input) (old new : World) → put ≡ output.Send request clock → came ≡ input.SentAll
    → IsDone job put came old new → IsSentSince (frame_spelling (request_frame job request)) old.links new.links
since_sent job request clock put came old new sends all done =
    let bytes = frame_spelling (request_frame job request) in
    let Q : Output → Type 0 = λ o. IsDone job o came old new in
    let P : Input → Type 0 = λ i. IsDone job (output.Send request clock) i old new in
    since (with_bytes bytes) [] bytes old.links new.links (adds_bytes bytes) (same_links _ new (subst P all (subst Q sends done)))

-- the steps since the request was sent
last_sent : (job : Job) (request : Asked) (run : List RunStep) (old here : World) → Awaits request run → AreDone job output.Nothing run old here
    → IsSentLast (frame_spelling (request_frame job request)) here.links
last_sent job request run old here awaits done =
    let bytes = frame_spelling (request_frame job request) in
    let cut = done_cut job output.Nothing awaits.before (awaits.numbered ∷ awaits.sent ∷ awaits.whole ∷ awaits.passed) old here
    (subst (λ (t : List RunStep). AreDone job output.Nothing t old here) awaits.is done) in
    let sent = cut.2.2.2 in
    let all = since_more bytes [] cut.2.2.0.links sent.0.links here.links
    (since_sent job request awaits.clock awaits.sent.output awaits.whole.input cut.2.2.0 sent.0 awaits.is_sent.1 awaits.is_whole.0 sent.1)
    (since_waits job request awaits.whole.output awaits.passed sent.0 here awaits.is_whole.1 awaits.are_passed sent.2) in
    λ links link told up.
    let was = all links link told up in
    (was.1.sent, was.4 ∙ ap (λ (t : List ℕ). was.1.sent ++ t) (append-nil bytes))

pub requested : (job : Job) (begun last : State) (run : List RunStep) (old here : World) → begun.step ≡ Ready → LeadsTo job begun run last
    → AreDone job output.Nothing run old here → pending output.Nothing run ≡ output.Receive → IsRequested job run here.links
requested job begun last run old here ready leads done receives =
    let awaits : (request : Asked) × Awaits request run = subst (λ (o : Output). Tells job o run) receives (told job begun last run ready leads) in
    record { request = awaits.0; awaits = awaits.1; last = last_sent job awaits.0 run old here awaits.1 done }

pub anywhere : (job : Job) (begun last : State) (sofar later : List RunStep) (old new : World) → begun.step ≡ Ready → LeadsTo job begun (sofar ++ later) last
    → AreDone job output.Nothing (sofar ++ later) old new → pending output.Nothing sofar ≡ output.Receive
    → (here : World) × AreDone job output.Nothing sofar old here × AreDone job output.Receive later here new × IsRequested job sofar here.links
anywhere job begun last sofar later old new ready leads done receives =
    let cut = done_cut job output.Nothing sofar later old new done in
    let before = leads_cut job begun last sofar later leads in (
      cut.0,
      cut.1,
      subst (λ (o : Output). AreDone job o later cut.0 new) receives cut.2,
      requested job begun before.0 sofar old cut.0 ready before.1 cut.1 receives,
    )
