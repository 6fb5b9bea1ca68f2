-- The links, one output after another.
use Rattle.std.proofs.Common.{◌≡◌, ℕ, List, [], ◌∷◌, ◌++◌, take, Option, Some, None, Result, Ok, Err, refl, sym, ap, subst, ◌∙◌, append-nil, append_assoc}
use Rattle.std.specs.Prelude.{map}
use Rattle.std.specs.Option.{option_map}
use Rattle.world_traits.specs.Links.{Bytes, Quiet, Closed, Failed, Link, Links, with_link, with_bytes, with_receipt, with_failure, after_hang_up, link_with_bytes, link_with_receipt, new_link, links_with, all_links}
use Rattle.mbap_frames.specs.declared.frame.Frame.{Frame}
use Rattle.mbap_frames.specs.Frame.{frame_spelling}
use Rattle.frame_inbox.specs.declared.inbox.NoFrame.{NoFrame}
use Rattle.frame_inbox.specs.declared.inbox.NoFrame.TheVariants as none
use Rattle.frame_inbox.specs.Waiting.{with_pieces, EndsWait}
use Rattle.inverter_worker.specs.declared.job.Job.{Job}
use Rattle.inverter_worker.specs.declared.input.Input.{Input}
use Rattle.inverter_worker.specs.declared.input.Input.TheVariants as input
use Rattle.inverter_worker.specs.declared.output.Output.{Output}
use Rattle.inverter_worker.specs.declared.output.Output.TheVariants as output
use Rattle.inverter_worker.specs.Runs.{RunStep}
use Rattle.worker_turn.specs.Doing.{World, IsDone, AreDone, input_of_wait, request_frame}
use Rattle.worker_turn.specs.Agreeing.{Endpoint, endpoint, endpoints, dialed_in, dialed}
use Rattle.worker_turn.proofs.Reading.{same_links}

map-push : (xs : List Link) (x : Link) → map endpoint (xs ++ x ∷ []) ≡ map endpoint xs ++ endpoint x ∷ []
map-push [] x = refl
map-push (y ∷ xs) x = ap (λ (t : List Endpoint). endpoint y ∷ t) (map-push xs x)

same_ends : (g : Link → Link) → ((link : Link) → endpoint (g link) ≡ endpoint link) → (past : List Link) (current : Option Link)
    → map endpoint (links_with past (option_map g current)) ≡ map endpoint (links_with past current)
same_ends g is past None = refl
same_ends g is past (Some link) =
    map-push past (g link) ∙ ap (λ (e : Endpoint). map endpoint past ++ e ∷ []) (is link) ∙ sym (map-push past link)

pieces_ends : (pieces : List (List ℕ)) (links : Links) → endpoints (with_pieces pieces links) ≡ endpoints links
pieces_ends [] links = refl
pieces_ends (piece ∷ pieces) links =
    pieces_ends pieces (with_receipt (Bytes piece) links) ∙ same_ends (link_with_receipt (Bytes piece)) (λ _. refl) links.past links.current

-- the links are told then too, with these more
abbrev pub Ends : List Endpoint → Option Links → Option Links → Type 0
Ends more old new = (before : Links) → old ≡ Some before → (after : Links) × (new ≡ Some after) × (endpoints after ≡ endpoints before ++ more)

ends_by : (f : Links → Links) (more : List Endpoint) (old new : Option Links) → ((links : Links) → endpoints (f links) ≡ endpoints links ++ more)
    → new ≡ option_map f old → Ends more old new
ends_by f more old new adds is = λ before told. (f before, is ∙ ap (λ (o : Option Links). option_map f o) told, adds before)

no_more : (f : Links → Links) (old new : Option Links) → ((links : Links) → endpoints (f links) ≡ endpoints links) → new ≡ option_map f old → Ends [] old new
no_more f old new same is = ends_by f [] old new (λ links. same links ∙ sym (append-nil (endpoints links))) is

ends_same : (old new : Option Links) → new ≡ old → Ends [] old new
ends_same old new is = λ before told. (before, is ∙ told, sym (append-nil (endpoints before)))

ends_joined : (more later : List Endpoint) (old mid new : Option Links) → Ends more old mid → Ends later mid new → Ends (more ++ later) old new
ends_joined more later old mid new first last = λ before told.
    let here = first before told in
    let behind = last here.0 here.1 in
    (behind.0, behind.1, behind.2 ∙ ap (λ (t : List Endpoint). t ++ later) here.2 ∙ append_assoc (endpoints before) more later)

ends_wait : (job : Job) (result : Result Frame NoFrame) (bytes rest : List ℕ) (old new : Option Links) → EndsWait result bytes rest old new
    → Ends (dialed_in job (input_of_wait result)) old new
ends_wait job (Ok frame) bytes rest old new ends = ends_same old new ends.2
ends_wait job (Err none.Quiet) bytes rest old new ends =
    no_more (with_receipt Quiet) old new (λ links. same_ends (link_with_receipt Quiet) (λ _. refl) links.past links.current) ends.1
ends_wait job (Err none.Closed) bytes rest old new ends =
    no_more (with_receipt Closed) old new (λ links. same_ends (link_with_receipt Closed) (λ _. refl) links.past links.current) ends.1
ends_wait job (Err none.RecvFailed) bytes rest old new ends =
    no_more with_failure old new (λ links. same_ends (link_with_receipt Failed) (λ _. refl) links.past links.current) ends.1
ends_wait job (Err (none.BadFrame fault)) bytes rest old new ends = ends_same old new ends.1

ends_one : (job : Job) (output : Output) (came : Input) (old new : World) → IsDone job output came old new → Ends (dialed_in job came) old.links new.links
ends_one job output.Goal (input.Goal goal) old new done = ends_same old.links new.links (same_links _ new done)
ends_one job output.Dial input.Dialed old new done =
    ends_by (with_link job.port.host job.port.port) _ old.links new.links (λ links. map-push (all_links links) (new_link job.port.host job.port.port)) (same_links _ new done)
ends_one job output.Dial input.DialFailed old new done = ends_same old.links new.links (same_links _ new done.0)
ends_one job output.Now (input.Time clock) old new done = ends_same old.links new.links (same_links _ new done.0)
ends_one job (output.Call called) (input.Reply answer) old new done = ends_same old.links new.links (same_links _ new done.is)
ends_one job (output.Call called) input.Full old new done = ends_same old.links new.links (same_links _ new done)
ends_one job (output.Release write at) (input.Reply answer) old new done = ends_same old.links new.links (same_links _ new done.is)
ends_one job (output.Release write at) input.Full old new done = ends_same old.links new.links (same_links _ new done)
ends_one job (output.Send request clock) input.SentAll old new done =
    let bytes = frame_spelling (request_frame job request) in
    no_more (with_bytes bytes) old.links new.links (λ links. same_ends (link_with_bytes bytes) (λ _. refl) links.past links.current) (same_links _ new done)
ends_one job (output.Send request clock) input.SendFailed old new done =
    let bytes = take done.1.0 (frame_spelling (request_frame job request)) in
    no_more (with_bytes bytes) old.links new.links (λ links. same_ends (link_with_bytes bytes) (λ _. refl) links.past links.current) done.1.2
ends_one job output.Receive came old new done =
    let wait = done.1.wait in
    let P : Input → Type 0 = λ came. Ends (dialed_in job came) old.links new.links in
    subst P (sym done.1.is) (ends_joined [] (dialed_in job (input_of_wait done.1.result)) old.links wait.between new.links
    (no_more (with_pieces wait.pieces) old.links wait.between (pieces_ends wait.pieces) wait.receives.links)
    (ends_wait job done.1.result _ _ wait.between new.links wait.ends))
ends_one job output.HangUp input.HungUp old new done = no_more after_hang_up old.links new.links (λ links. refl) (same_links _ new done)
ends_one job (output.Rest ms) input.Rested old new done = ends_same old.links new.links (same_links old new done)
ends_one job output.Nothing input.Go old new done = ends_same old.links new.links (same_links old new done)
ends_one job output.Nothing input.NoRoom old new done = ends_same old.links new.links (same_links old new done)
ends_one job output came old new done = absurd done

pub ends_all : (job : Job) (first : Output) (later : List RunStep) (old new : World) → AreDone job first later old new → Ends (dialed job later) old.links new.links
ends_all job first [] old new done = ends_same old.links new.links (same_links old new done)
ends_all job first (next ∷ later) old new done =
    ends_joined (dialed_in job next.input) (dialed job later) old.links done.0.links new.links (ends_one job first next.input old done.0 done.1)
    (ends_all job next.output later done.0 new done.2)
