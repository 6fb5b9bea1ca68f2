-- All links of a run, one act after another.
use Rattle.std.proofs.Common.{◌≡◌, ℕ, Bool, true, false, cond, List, [], ◌∷◌, ◌++◌, take, Option, Some, None, Result, Ok, Err, refl, sym, ap, subst, ◌∙◌, append-nil, append_assoc}
use Rattle.std.specs.Option.{option_map}
use Rattle.world_traits.specs.Links.{Bytes, Quiet, Closed, Failed, Link, Links, all_links, with_link, with_bytes, with_receipt, with_failure, after_hang_up, link_with_bytes, link_with_receipt, new_link}
use Rattle.mbap_frames.specs.declared.frame.Frame.{Frame}
use Rattle.mbap_frames.specs.Frame.{frame_spelling}
use Rattle.frame_inbox.specs.declared.inbox.NoFrame.{NoFrame}
use Rattle.frame_inbox.specs.declared.inbox.NoFrame.TheVariants as none
use Rattle.frame_inbox.specs.Waiting.{with_pieces, IsWait}
use Rattle.inverter_worker.specs.declared.job.Job.{Job}
use Rattle.inverter_worker.specs.declared.input.Input.{Input}
use Rattle.inverter_worker.specs.declared.input.Input.TheVariants as input
use Rattle.inverter_worker.specs.declared.output.Output.{Output}
use Rattle.inverter_worker.specs.declared.output.Output.TheVariants as output
use Rattle.inverter_worker.specs.declared.output.Asked.{Asked}
use Rattle.inverter_worker.specs.declared.state.State.{State}
use Rattle.inverter_worker.specs.Runs.{RunStep, LeadsTo, first_state}
use Rattle.worker_turn.specs.Doing.{World, IsDone, AreDone, input_of_wait, request_frame}
use Rattle.worker_turn.proofs.Reading.{same_links}
use Rattle.plant_run.specs.Acts.{Act, acts, is_dialed, before_links, on_links}
use Rattle.plant_run.specs.Agreement.{AgreesEach, LinksAgree}
use Rattle.plant_run.proofs.Standing.{up_after, Needs, HaveNeeds, from_first}
use Rattle.plant_run.proofs.Going.{Still, AreStill, none_transfer, Goes, agrees, goes_none, goes_still, goes_sent, goes_cut, gets_pieces, gets_silence, link_with_pieces, goes_frame, goes_end}

-- where a run stands: no link is up on which more may come, or one is, behind these that are over
data Place : Type 0 where
  Down : Links → Place
  On : List Link → Link → Place

abbrev links_at : Place → Links
links_at (Down links) = links
links_at (On past link) = record { past = past; current = Some link }

abbrev is_up : Place → Bool
is_up (Down links) = false
is_up (On past link) = true

-- what came of acts that began with no link up
record OffLink (job : Job) (done : List Act) (before : List Link) (last : Option Links) : Type 0 where
  after : Links
  told : last ≡ Some after
  still : AreStill job (before_links done)
  made : List Link
  all : all_links after ≡ before ++ made
  agree : AgreesEach job (on_links done) made

-- and of acts that began on a link
record OnLink (job : Job) (done : List Act) (past : List Link) (unread : List ℕ) (link : Link) (last : Option Links) : Type 0 where
  after : Links
  told : last ≡ Some after
  final : Link
  goes : Goes job (before_links done) unread link final
  made : List Link
  all : all_links after ≡ (past ++ final ∷ []) ++ made
  agree : AgreesEach job (on_links done) made

abbrev Comes : Job → Place → List Act → (unread : List ℕ) → Option Links → Type 0
Comes job (Down links) done unread last = OffLink job done (all_links links) last
Comes job (On past link) done unread last = OnLink job done past unread link last

-- one act leads to another place, and what came of the later acts is what came of all
record Moves (job : Job) (at : Place) (put : Output) (came : Input) (old new : World) : Type 0 where
  to : Place
  told : new.links ≡ Some (links_at to)
  same : is_up to ≡ up_after (is_up at) came
  back : (later : List Act) (last : Option Links) → Comes job to later new.unread last
      → Comes job at (record { output = put; came = came } ∷ later) old.unread last

pub before_more : (act : Act) (later : List Act) → is_dialed act.came ≡ false → before_links (act ∷ later) ≡ act ∷ before_links later
before_more act later is = ap (λ (b : Bool). cond b [] (act ∷ before_links later)) is

pub on_more : (act : Act) (later : List Act) → is_dialed act.came ≡ false → on_links (act ∷ later) ≡ on_links later
on_more act later is = ap (λ (b : Bool). cond b (before_links later ∷ on_links later) (on_links later)) is

module _ (job : Job) (act : Act) (later : List Act) (last : Option Links) (is : is_dialed act.came ≡ false) where
  agree_more : (made : List Link) → AgreesEach job (on_links later) made → AgreesEach job (on_links (act ∷ later)) made
  agree_more made agree = let P : List (List Act) → Type 0 = λ t. AgreesEach job t made in subst P (sym (on_more act later is)) agree

  -- an act with no link up
  off_by : (before : List Link) → Still job act → OffLink job later before last → OffLink job (act ∷ later) before last
  off_by before still off = record {
    after = off.after;
    told = off.told;
    still = let P : List Act → Type 0 = λ t. AreStill job t in subst P (sym (before_more act later is)) (still, off.still);
    made = off.made;
    all = off.all;
    agree = agree_more off.made off.agree;
  }

  goes_more : (unread : List ℕ) (link final : Link) → Goes job (act ∷ before_links later) unread link final → Goes job (before_links (act ∷ later)) unread link final
  goes_more unread link final goes = let P : List Act → Type 0 = λ t. Goes job t unread link final in subst P (sym (before_more act later is)) goes

  -- an act on a link, which stays up
  on_by : (past : List Link) (unread between : List ℕ) (link mid : Link)
      → ((final : Link) → Goes job (before_links later) between mid final → Goes job (act ∷ before_links later) unread link final)
      → OnLink job later past between mid last → OnLink job (act ∷ later) past unread link last
  on_by past unread between link mid goes on = record {
    after = on.after;
    told = on.told;
    final = on.final;
    goes = goes_more unread link on.final (goes on.final on.goes);
    made = on.made;
    all = on.all;
    agree = agree_more on.made on.agree;
  }

  -- the last act on a link
  over_by : (past : List Link) (unread : List ℕ) (link final : Link)
      → (AreStill job (before_links later) → Goes job (act ∷ before_links later) unread link final)
      → OffLink job later (past ++ final ∷ []) last → OnLink job (act ∷ later) past unread link last
  over_by past unread link final goes off = record {
    after = off.after;
    told = off.told;
    final = final;
    goes = goes_more unread link final (goes off.still);
    made = off.made;
    all = off.all;
    agree = agree_more off.made off.agree;
  }

-- a link is dialed where none was up, or where one was
off_dialed : (job : Job) (put : Output) (later : List Act) (before : List Link) (last : Option Links)
    → OnLink job later before [] (new_link job.port.host job.port.port) last
    → OffLink job (record { output = put; came = input.Dialed } ∷ later) before last
off_dialed job put later before last on = record {
  after = on.after;
  told = on.told;
  still = tt;
  made = on.final ∷ on.made;
  all = on.all ∙ append_assoc before (on.final ∷ []) on.made;
  agree = (agrees job (before_links later) on.final on.goes, on.agree);
}

on_dialed : (job : Job) (put : Output) (later : List Act) (past : List Link) (unread : List ℕ) (link : Link) (last : Option Links)
    → OnLink job later (past ++ link ∷ []) [] (new_link job.port.host job.port.port) last
    → OnLink job (record { output = put; came = input.Dialed } ∷ later) past unread link last
on_dialed job put later past unread link last on = record {
  after = on.after;
  told = on.told;
  final = link;
  goes = goes_none job [] unread link tt;
  made = on.final ∷ on.made;
  all = on.all ∙ append_assoc (past ++ link ∷ []) (on.final ∷ []) on.made;
  agree = (agrees job (before_links later) on.final on.goes, on.agree);
}

same_unread : (old new : World) → new ≡ old → new.unread ≡ old.unread
same_unread old new is = ap (λ (w : World). w.unread) is

-- an act that leaves the links and the unread bytes
stays : (job : Job) (at : Place) (put : Output) (came : Input) (old new : World) → Still job (record { output = put; came = came })
    → is_dialed came ≡ false → ((up : Bool) → up ≡ up_after up came) → new.links ≡ old.links → new.unread ≡ old.unread → old.links ≡ Some (links_at at)
    → Moves job at put came old new
stays job (Down links) put came old new still is same links_same unread_same told = record {
  to = Down links;
  told = links_same ∙ told;
  same = same false;
  back = λ later last off. off_by job (record { output = put; came = came }) later last is (all_links links) still off;
}
stays job (On past link) put came old new still is same links_same unread_same told = record {
  to = On past link;
  told = links_same ∙ told;
  same = same true;
  back = λ later last on.
      let act : Act = record { output = put; came = came } in
      let P : List ℕ → Type 0 = λ t. OnLink job later past t link last in
      on_by job act later last is past old.unread old.unread link link (λ final goes. goes_still job act (before_links later) old.unread link final still goes)
      (subst P unread_same on);
}

hangs_up : (job : Job) (at : Place) (old new : World) → new ≡ record old { links = option_map after_hang_up old.links; unread = [] }
    → old.links ≡ Some (links_at at) → Moves job at output.HangUp input.HungUp old new
hangs_up job (Down links) old new done told = record {
  to = Down (after_hang_up links);
  told = same_links _ new done ∙ ap (λ (o : Option Links). option_map after_hang_up o) told;
  same = refl;
  back = λ later last off. off_by job (record { output = output.HangUp; came = input.HungUp }) later last refl (all_links links)
      (record { attempt = refl; arrival = refl; apart = tt }) off;
}
hangs_up job (On past link) old new done told = record {
  to = Down (record { past = past ++ link ∷ []; current = None });
  told = same_links _ new done ∙ ap (λ (o : Option Links). option_map after_hang_up o) told;
  same = refl;
  back = λ later last off.
      let act : Act = record { output = output.HangUp; came = input.HungUp } in
      over_by job act later last refl past old.unread link link
      (λ still. goes_none job (act ∷ before_links later) old.unread link (record { attempt = refl; arrival = refl; apart = tt }, still)) off;
}

dials : (job : Job) (at : Place) (old new : World)
    → new ≡ record old { links = option_map (with_link job.port.host job.port.port) old.links; unread = [] }
    → old.links ≡ Some (links_at at) → Moves job at output.Dial input.Dialed old new
dials job (Down links) old new done told = record {
  to = On (all_links links) (new_link job.port.host job.port.port);
  told = same_links _ new done ∙ ap (λ (o : Option Links). option_map (with_link job.port.host job.port.port) o) told;
  same = refl;
  back = λ later last on.
      let P : List ℕ → Type 0 = λ t. OnLink job later (all_links links) t (new_link job.port.host job.port.port) last in
      off_dialed job output.Dial later (all_links links) last (subst P (same_unread _ new done) on);
}
dials job (On past link) old new done told = record {
  to = On (past ++ link ∷ []) (new_link job.port.host job.port.port);
  told = same_links _ new done ∙ ap (λ (o : Option Links). option_map (with_link job.port.host job.port.port) o) told;
  same = refl;
  back = λ later last on.
      let P : List ℕ → Type 0 = λ t. OnLink job later (past ++ link ∷ []) t (new_link job.port.host job.port.port) last in
      on_dialed job output.Dial later past old.unread link last (subst P (same_unread _ new done) on);
}

-- what comes of a wait for a frame
module _ (job : Job) (past : List Link) (link : Link) (old new : World) (told : old.links ≡ Some (links_at (On past link))) where
  pieces_on : (pieces : List (List ℕ)) (up : Link) → with_pieces pieces (links_at (On past up)) ≡ links_at (On past (link_with_pieces pieces up))
  pieces_on [] up = refl
  pieces_on (piece ∷ pieces) up = pieces_on pieces (link_with_receipt (Bytes piece) up)

  between_is : (pieces : List (List ℕ)) (between : Option Links) → between ≡ option_map (with_pieces pieces) old.links
      → between ≡ Some (links_at (On past (link_with_pieces pieces link)))
  between_is pieces between is = is ∙ ap (λ (o : Option Links). option_map (with_pieces pieces) o) told ∙ ap (λ (l : Links). Some l) (pieces_on pieces link)

  waited : (result : Result Frame NoFrame) → IsWait result old.unread new.unread old.links new.links → Moves job (On past link) output.Receive (input_of_wait result) old new
  waited (Ok frame) wait = record {
    to = On past (link_with_pieces wait.pieces link);
    told = wait.ends.2 ∙ between_is wait.pieces wait.between wait.receives.links;
    same = refl;
    back = λ later last on.
        on_by job (record { output = output.Receive; came = input.Frame frame }) later last refl past old.unread new.unread link (link_with_pieces wait.pieces link)
        (λ final goes. goes_frame job frame wait.pieces (before_links later) old.unread new.unread link final wait.ends.0 wait.ends.1 goes) on;
  }
  waited (Err none.Quiet) wait = record {
    to = Down (record { past = past; current = Some (link_with_receipt Quiet (link_with_pieces wait.pieces link)) });
    told = wait.ends.1 ∙ ap (λ (o : Option Links). option_map (with_receipt Quiet) o) (between_is wait.pieces wait.between wait.receives.links);
    same = refl;
    back = λ later last off.
        over_by job (record { output = output.Receive; came = input.Quiet }) later last refl past old.unread link (link_with_receipt Quiet (link_with_pieces wait.pieces link))
        (goes_end job input.Quiet wait.pieces (Quiet ∷ []) (before_links later) old.unread link _ (gets_silence wait.pieces Quiet link) wait.ends.0) off;
  }
  waited (Err none.Closed) wait = record {
    to = Down (record { past = past; current = Some (link_with_receipt Closed (link_with_pieces wait.pieces link)) });
    told = wait.ends.1 ∙ ap (λ (o : Option Links). option_map (with_receipt Closed) o) (between_is wait.pieces wait.between wait.receives.links);
    same = refl;
    back = λ later last off.
        over_by job (record { output = output.Receive; came = input.Closed }) later last refl past old.unread link (link_with_receipt Closed (link_with_pieces wait.pieces link))
        (goes_end job input.Closed wait.pieces (Closed ∷ []) (before_links later) old.unread link _ (gets_silence wait.pieces Closed link) wait.ends.0) off;
  }
  waited (Err none.RecvFailed) wait = record {
    to = Down (record { past = past ++ link_with_receipt Failed (link_with_pieces wait.pieces link) ∷ []; current = None });
    told = wait.ends.1 ∙ ap (λ (o : Option Links). option_map with_failure o) (between_is wait.pieces wait.between wait.receives.links);
    same = refl;
    back = λ later last off.
        over_by job (record { output = output.Receive; came = input.RecvFailed }) later last refl past old.unread link (link_with_receipt Failed (link_with_pieces wait.pieces link))
        (goes_end job input.RecvFailed wait.pieces (Failed ∷ []) (before_links later) old.unread link _ (gets_silence wait.pieces Failed link) wait.ends.0) off;
  }
  waited (Err (none.BadFrame fault)) wait = record {
    to = Down (record { past = past; current = Some (link_with_pieces wait.pieces link) });
    told = wait.ends.1 ∙ between_is wait.pieces wait.between wait.receives.links;
    same = refl;
    back = λ later last off.
        over_by job (record { output = output.Receive; came = input.BadFrame }) later last refl past old.unread link (link_with_pieces wait.pieces link)
        (goes_end job input.BadFrame wait.pieces [] (before_links later) old.unread link _ (gets_pieces wait.pieces link) (fault, wait.ends.0)) off;
  }

-- a request is sent, or is not
sends : (job : Job) (at : Place) (request : Asked) (clock : ℕ) (came : Input) (old new : World) → is_up at ≡ true
    → IsDone job (output.Send request clock) came old new → old.links ≡ Some (links_at at) → Moves job at (output.Send request clock) came old new
sends job (Down links) request clock came old new needs done told = absurd cc
sends job (On past link) request clock input.SentAll old new needs done told =
    let sent : List ℕ = frame_spelling (request_frame job request) in
    record {
      to = On past (link_with_bytes sent link);
      told = same_links _ new done ∙ ap (λ (o : Option Links). option_map (with_bytes sent) o) told;
      same = refl;
      back = λ later last on.
          let P : List ℕ → Type 0 = λ t. OnLink job later past t (link_with_bytes sent link) last in
          on_by job (record { output = output.Send request clock; came = input.SentAll }) later last refl past old.unread old.unread link (link_with_bytes sent link)
          (λ final goes. goes_sent job request clock (before_links later) old.unread link final goes) (subst P (same_unread _ new done) on);
    }
sends job (On past link) request clock input.SendFailed old new needs done told =
    let sent : List ℕ = take done.1.0 (frame_spelling (request_frame job request)) in
    record {
      to = Down (record { past = past; current = Some (link_with_bytes sent link) });
      told = done.1.2 ∙ ap (λ (o : Option Links). option_map (with_bytes sent) o) told;
      same = refl;
      back = λ later last off.
          over_by job (record { output = output.Send request clock; came = input.SendFailed }) later last refl past old.unread link (link_with_bytes sent link)
          (goes_cut job request clock done.1.0 (before_links later) old.unread link done.1.1) off;
    }
sends job (On past link) request clock came old new needs done told = absurd done

receives : (job : Job) (at : Place) (came : Input) (old new : World) → is_up at ≡ true → IsDone job output.Receive came old new
    → old.links ≡ Some (links_at at) → Moves job at output.Receive came old new
receives job (Down links) came old new needs done told = absurd cc
receives job (On past link) came old new needs done told =
    let P : Input → Type 0 = λ came. Moves job (On past link) output.Receive came old new in
    subst P (sym done.1.is) (waited job past link old new told done.1.result done.1.wait)

moves : (job : Job) (at : Place) (put : Output) (came : Input) (old new : World) → Needs put (is_up at) → IsDone job put came old new
    → old.links ≡ Some (links_at at) → Moves job at put came old new
moves job at output.Goal (input.Goal goal) old new needs done told = stays job at output.Goal (input.Goal goal) old new
    (record { attempt = refl; arrival = refl; apart = tt }) refl (λ up. refl) (same_links _ new done) (same_unread _ new done) told
moves job at output.Dial input.Dialed old new needs done told = dials job at old new done told
moves job at output.Dial input.DialFailed old new needs done told = stays job at output.Dial input.DialFailed old new
    (record { attempt = refl; arrival = refl; apart = tt }) refl (λ up. refl) (same_links _ new done.0) (same_unread _ new done.0) told
moves job at output.Now (input.Time clock) old new needs done told = stays job at output.Now (input.Time clock) old new
    (record { attempt = refl; arrival = refl; apart = tt }) refl (λ up. refl) (same_links _ new done.0) (same_unread _ new done.0) told
moves job at (output.Call called) (input.Reply answer) old new needs done told = stays job at (output.Call called) (input.Reply answer) old new
    (record { attempt = refl; arrival = refl; apart = tt }) refl (λ up. refl) (same_links _ new done.is) (same_unread _ new done.is) told
moves job at (output.Call called) input.Full old new needs done told = stays job at (output.Call called) input.Full old new
    (record { attempt = refl; arrival = refl; apart = tt }) refl (λ up. refl) (same_links _ new done) (same_unread _ new done) told
moves job at (output.Release write moment) (input.Reply answer) old new needs done told = stays job at (output.Release write moment) (input.Reply answer) old new
    (record { attempt = refl; arrival = refl; apart = tt }) refl (λ up. refl) (same_links _ new done.is) (same_unread _ new done.is) told
moves job at (output.Release write moment) input.Full old new needs done told = stays job at (output.Release write moment) input.Full old new
    (record { attempt = refl; arrival = refl; apart = tt }) refl (λ up. refl) (same_links _ new done) (same_unread _ new done) told
moves job at (output.Send request clock) came old new needs done told = sends job at request clock came old new needs done told
moves job at output.Receive came old new needs done told = receives job at came old new needs done told
moves job at output.HangUp input.HungUp old new needs done told = hangs_up job at old new done told
moves job at (output.Rest ms) input.Rested old new needs done told = stays job at (output.Rest ms) input.Rested old new
    (record { attempt = refl; arrival = refl; apart = tt }) refl (λ up. refl) (same_links old new done) (same_unread old new done) told
moves job at output.Nothing input.Go old new needs done told = stays job at output.Nothing input.Go old new
    (record { attempt = refl; arrival = refl; apart = tt }) refl (λ up. refl) (same_links old new done) (same_unread old new done) told
moves job at output.Nothing input.NoRoom old new needs done told = stays job at output.Nothing input.NoRoom old new
    (record { attempt = refl; arrival = refl; apart = tt }) refl (λ up. refl) (same_links old new done) (same_unread old new done) told
moves job at put came old new needs done told = absurd done

ends_at : (job : Job) (at : Place) (put : Output) (unread : List ℕ) (last : Option Links) → last ≡ Some (links_at at) → Comes job at [] unread last
ends_at job (Down links) put unread last told =
    record { after = links; told = told; still = tt; made = []; all = sym (append-nil (all_links links)); agree = tt }
ends_at job (On past link) put unread last told = record {
  after = record { past = past; current = Some link };
  told = told;
  final = link;
  goes = goes_none job [] unread link tt;
  made = [];
  all = sym (append-nil (past ++ link ∷ []));
  agree = tt;
}

walk : (job : Job) (at : Place) (put : Output) (run : List RunStep) (old new : World) → HaveNeeds (is_up at) (acts put run) → AreDone job put run old new
    → old.links ≡ Some (links_at at) → Comes job at (acts put run) old.unread new.links
walk job at put [] old new needs done told = ends_at job at put old.unread new.links (same_links old new done ∙ told)
walk job at put (next ∷ later) old new needs done told =
    let moved = moves job at put next.input old done.0 needs.0 done.1 told in
    let P : Bool → Type 0 = λ up. HaveNeeds up (acts next.output later) in
    moved.back (acts next.output later) new.links
    (walk job moved.to next.output later done.0 new (subst P (sym moved.same) needs.1) done.2 moved.told)

pub links_agree : (job : Job) (turns : ℕ) (run : List RunStep) (last : State) (old new : World) → LeadsTo job (first_state turns) run last
    → AreDone job output.Nothing run old new → LinksAgree job run old.links new.links
links_agree job turns run last old new leads done = λ before told.
    let off = walk job (Down before) output.Nothing run old new (from_first job turns run last leads) done told in
    record {
      after = off.after;
      told = off.told;
      nothing_before = none_transfer job (before_links (acts output.Nothing run)) off.still;
      made = off.made;
      all = off.all;
      agree = off.agree;
    }
