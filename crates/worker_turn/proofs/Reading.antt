-- The bytes of a link, one output after another.
use Rattle.std.proofs.Common.{◌≡◌, ℕ, List, [], ◌∷◌, ◌++◌, length, take, Option, Some, None, Result, Ok, Err, refl, sym, ap, subst, ◌∙◌, append-nil, append_assoc}
use Rattle.std.specs.List.{AllByRecursion, concat}
use Rattle.std.specs.Option.{option_map}
use Rattle.std.proofs.lemmas.List.Concat.{flat_map-append}
use Rattle.world_traits.specs.Links.{Answer, Bytes, Quiet, Closed, Link, Links, Receipt, answer_bytes, received_bytes, with_link, with_bytes, with_receipt, with_failure, after_hang_up, link_with_bytes, link_with_receipt, new_link}
use Rattle.mbap_frames.specs.declared.frame.Frame.{Frame}
use Rattle.mbap_frames.specs.declared.frame.FrameFault.{FrameFault}
use Rattle.mbap_frames.specs.Frame.{IsFrame, frame_spelling}
use Rattle.mbap_frames.specs.Stream.{HasFault, frames_spelling}
use Rattle.frame_inbox.specs.declared.inbox.NoFrame.{NoFrame}
use Rattle.frame_inbox.specs.declared.inbox.NoFrame.TheVariants as none
use Rattle.frame_inbox.specs.Waiting.{with_pieces, EndsWait, IsWait}
use Rattle.inverter_worker.specs.declared.job.Job.{Job}
use Rattle.inverter_worker.specs.declared.input.Input.{Input}
use Rattle.inverter_worker.specs.declared.input.Input.TheVariants as input
use Rattle.inverter_worker.specs.declared.output.Output.{Output}
use Rattle.inverter_worker.specs.declared.output.Output.TheVariants as output
use Rattle.inverter_worker.specs.Runs.{RunStep}
use Rattle.worker_turn.specs.Doing.{World, IsDone, AreDone, input_of_wait, request_frame}
use Rattle.worker_turn.specs.Agreeing.{IsRead, frames_with, frames_after, IsSent, Sends, AreSent}

-- what a change of the links tells of the link that is up then
mapped : (g : Link → Link) (o : Option Link) (link : Link) → option_map g o ≡ Some link → (before : Link) × (o ≡ Some before) × (g before ≡ link)
mapped g None link is = absurd cc
mapped g (Some before) link is = (before, refl, cc)

pub told_of : (f : Links → Links) (o : Option Links) (links : Links) → option_map f o ≡ Some links → (before : Links) × (o ≡ Some before) × (f before ≡ links)
told_of f None links is = absurd cc
told_of f (Some before) links is = (before, refl, cc)

-- the link that is up was up before, and so many bytes more were received and sent on it
abbrev pub Adds : (Links → Links) → (received sent : List ℕ) → Type 0
Adds f received sent = (links : Links) (link : Link) → (f links).current ≡ Some link
    → (before : Link) × (links.current ≡ Some before) × (received_bytes link ≡ received_bytes before ++ received) × (link.sent ≡ before.sent ++ sent)

pub adds_bytes : (bytes : List ℕ) → Adds (with_bytes bytes) [] bytes
adds_bytes bytes links link up =
    let m = mapped (link_with_bytes bytes) links.current link up in
    (m.0, m.1, ap received_bytes (sym m.2) ∙ sym (append-nil (received_bytes m.0)), ap (λ (l : Link). l.sent) (sym m.2))

received-push : (answer : Answer) (link : Link) → received_bytes (link_with_receipt answer link) ≡ received_bytes link ++ answer_bytes answer
received-push answer link =
    flat_map-append (λ (r : Receipt). answer_bytes r.answer) link.receipts (record { answer = answer; sent_before = length link.sent } ∷ [])
    ∙ ap (λ (t : List ℕ). received_bytes link ++ t) (append-nil (answer_bytes answer))

pub adds_receipt : (answer : Answer) → Adds (with_receipt answer) (answer_bytes answer) []
adds_receipt answer links link up =
    let m = mapped (link_with_receipt answer) links.current link up in
    (m.0, m.1, ap received_bytes (sym m.2) ∙ received-push answer m.0, ap (λ (l : Link). l.sent) (sym m.2) ∙ sym (append-nil m.0.sent))

pub adds_pieces : (pieces : List (List ℕ)) → Adds (with_pieces pieces) (concat pieces) []
adds_pieces [] links link up = (link, up, sym (append-nil (received_bytes link)), sym (append-nil link.sent))
adds_pieces (piece ∷ pieces) links link up =
    let later = adds_pieces pieces (with_receipt (Bytes piece) links) link up in
    let here = adds_receipt (Bytes piece) links later.0 later.1 in (
      here.0,
      here.1,
      later.2 ∙ ap (λ (t : List ℕ). t ++ concat pieces) here.2 ∙ append_assoc (received_bytes here.0) piece (concat pieces),
      later.3 ∙ append-nil later.0.sent ∙ here.3,
    )

pub adds_failure : (received sent : List ℕ) → Adds with_failure received sent
adds_failure received sent links link up = absurd cc

adds_hang_up : (received sent : List ℕ) → Adds after_hang_up received sent
adds_hang_up received sent links link up = absurd cc

through : (f : Links → Links) (received sent : List ℕ) (frames later : List Frame) (unread rest : List ℕ) (old new : Option Links) → Adds f received sent
    → new ≡ option_map f old → frames_spelling later ++ rest ≡ frames_spelling frames ++ unread ++ received → IsRead frames unread old → IsRead later rest new
through f received sent frames later unread rest old new adds is bytes read = λ links link told up.
    let before = told_of f old links (sym is ∙ told) in
    let P : Links → Type 0 = λ l. l.current ≡ Some link in
    let more = adds before.0 link (subst P (sym before.2) up) in
    more.2 ∙ ap (λ (t : List ℕ). t ++ received) (read before.0 more.0 before.1 more.1) ∙ sym bytes

stays : (frames : List Frame) (unread rest : List ℕ) (old new : Option Links) → new ≡ old → rest ≡ unread → IsRead frames unread old → IsRead frames rest new
stays frames unread rest old new is same read = λ links link told up.
    read links link (sym is ∙ told) up ∙ ap (λ (t : List ℕ). frames_spelling frames ++ t) (sym same)

begun : (host : List ℕ) (port : ℕ) (old new : Option Links) (links : Links) (link : Link) → new ≡ option_map (with_link host port) old → new ≡ Some links
    → links.current ≡ Some link → new_link host port ≡ link
begun host port old new links link is told up =
    let before = told_of (with_link host port) old links (sym is ∙ told) in
    let P : Links → Type 0 = λ l. l.current ≡ Some link in
    let at : Some (new_link host port) ≡ Some link = subst P (sym before.2) up in cc

pub same_links : (old new : World) → new ≡ old → new.links ≡ old.links
same_links old new is = ap (λ (w : World). w.links) is

same_unread : (old new : World) → new ≡ old → new.unread ≡ old.unread
same_unread old new is = ap (λ (w : World). w.unread) is

one_frame : (frames : List Frame) (frame : Frame) (rest : List ℕ) → frames_spelling (frames ++ frame ∷ []) ++ rest ≡ frames_spelling frames ++ (frame_spelling frame ++ rest)
one_frame frames frame rest =
    ap (λ (t : List ℕ). t ++ rest) (flat_map-append frame_spelling frames (frame ∷ []) ∙ ap (λ (t : List ℕ). frames_spelling frames ++ t) (append-nil (frame_spelling frame)))
    ∙ append_assoc (frames_spelling frames) (frame_spelling frame) rest

read_end : (result : Result Frame NoFrame) (frames : List Frame) (bytes rest : List ℕ) (old new : Option Links) → EndsWait result bytes rest old new → IsRead frames bytes old
    → IsRead (frames_with frames (input_of_wait result)) rest new
read_end (Ok frame) frames bytes rest old new ends read = λ links link told up.
    read links link (sym ends.2 ∙ told) up ∙ ap (λ (t : List ℕ). frames_spelling frames ++ t) ends.1 ∙ sym (one_frame frames frame rest)
read_end (Err none.Quiet) frames bytes rest old new ends read =
    through (with_receipt Quiet) [] [] frames frames bytes rest old new (adds_receipt Quiet) ends.1
    (ap (λ (t : List ℕ). frames_spelling frames ++ t) ends.2 ∙ sym (append-nil (frames_spelling frames ++ bytes))) read
read_end (Err none.Closed) frames bytes rest old new ends read =
    through (with_receipt Closed) [] [] frames frames bytes rest old new (adds_receipt Closed) ends.1
    (ap (λ (t : List ℕ). frames_spelling frames ++ t) ends.2 ∙ sym (append-nil (frames_spelling frames ++ bytes))) read
read_end (Err none.RecvFailed) frames bytes rest old new ends read =
    through with_failure [] [] frames frames bytes rest old new (adds_failure [] []) ends.1
    (ap (λ (t : List ℕ). frames_spelling frames ++ t) ends.2 ∙ sym (append-nil (frames_spelling frames ++ bytes))) read
read_end (Err (none.BadFrame fault)) frames bytes rest old new ends read = stays frames bytes rest old new ends.1 ends.2 read

read_wait : (result : Result Frame NoFrame) (frames : List Frame) (unread rest : List ℕ) (old new : Option Links) → IsWait result unread rest old new → IsRead frames unread old
    → IsRead (frames_with frames (input_of_wait result)) rest new
read_wait result frames unread rest old new wait read =
    let bytes = concat wait.pieces in
    read_end result frames (unread ++ bytes) rest wait.between new wait.ends
    (through (with_pieces wait.pieces) bytes [] frames frames unread (unread ++ bytes) old wait.between (adds_pieces wait.pieces) wait.receives.links
    (sym (append_assoc (frames_spelling frames) unread bytes)) read)

read_one : (job : Job) (output : Output) (came : Input) (old new : World) (frames : List Frame) → IsDone job output came old new → IsRead frames old.unread old.links
    → IsRead (frames_with frames came) new.unread new.links
read_one job output.Goal (input.Goal goal) old new frames done read = stays frames old.unread new.unread old.links new.links (same_links _ new done) (same_unread _ new done) read
read_one job output.Dial input.Dialed old new frames done read = λ links link told up.
    ap received_bytes (sym (begun job.port.host job.port.port old.links new.links links link (same_links _ new done) told up)) ∙ sym (same_unread _ new done)
read_one job output.Dial input.DialFailed old new frames done read = stays frames old.unread new.unread old.links new.links (same_links _ new done.0) (same_unread _ new done.0) read
read_one job output.Now (input.Time clock) old new frames done read = stays frames old.unread new.unread old.links new.links (same_links _ new done.0) (same_unread _ new done.0) read
read_one job (output.Call called) (input.Reply answer) old new frames done read = stays frames old.unread new.unread old.links new.links (same_links _ new done.is) (same_unread _ new done.is) read
read_one job (output.Call called) input.Full old new frames done read = stays frames old.unread new.unread old.links new.links (same_links _ new done) (same_unread _ new done) read
read_one job (output.Release write at) (input.Reply answer) old new frames done read = stays frames old.unread new.unread old.links new.links (same_links _ new done.is) (same_unread _ new done.is) read
read_one job (output.Release write at) input.Full old new frames done read = stays frames old.unread new.unread old.links new.links (same_links _ new done) (same_unread _ new done) read
read_one job (output.Send request clock) input.SentAll old new frames done read =
    let bytes = frame_spelling (request_frame job request) in
    through (with_bytes bytes) [] bytes frames frames old.unread new.unread old.links new.links (adds_bytes bytes) (same_links _ new done)
    (ap (λ (t : List ℕ). frames_spelling frames ++ t) (same_unread _ new done) ∙ sym (append-nil (frames_spelling frames ++ old.unread))) read
read_one job (output.Send request clock) input.SendFailed old new frames done read =
    let bytes = take done.1.0 (frame_spelling (request_frame job request)) in
    through (with_bytes bytes) [] bytes frames frames old.unread new.unread old.links new.links (adds_bytes bytes) done.1.2
    (ap (λ (t : List ℕ). frames_spelling frames ++ t) (same_unread _ new done.0) ∙ sym (append-nil (frames_spelling frames ++ old.unread))) read
read_one job output.Receive came old new frames done read =
    let P : Input → Type 0 = λ came. IsRead (frames_with frames came) new.unread new.links in
    subst P (sym done.1.is) (read_wait done.1.result frames old.unread new.unread old.links new.links done.1.wait read)
read_one job output.HangUp input.HungUp old new frames done read = λ links link told up.
    let before = told_of after_hang_up old.links links (sym (same_links _ new done) ∙ told) in
    let P : Links → Type 0 = λ l. l.current ≡ Some link in
    let at : None ≡ Some link = subst P (sym before.2) up in absurd cc
read_one job (output.Rest ms) input.Rested old new frames done read = stays frames old.unread new.unread old.links new.links (same_links old new done) (same_unread old new done) read
read_one job output.Nothing input.Go old new frames done read = stays frames old.unread new.unread old.links new.links (same_links old new done) (same_unread old new done) read
read_one job output.Nothing input.NoRoom old new frames done read = stays frames old.unread new.unread old.links new.links (same_links old new done) (same_unread old new done) read
read_one job output came old new frames done read = absurd done

pub read_all : (job : Job) (first : Output) (later : List RunStep) (old new : World) (frames : List Frame) → AreDone job first later old new → IsRead frames old.unread old.links
    → IsRead (frames_after frames later) new.unread new.links
read_all job first [] old new frames done read = stays frames old.unread new.unread old.links new.links (same_links old new done) (same_unread old new done) read
read_all job first (next ∷ later) old new frames done read =
    read_all job next.output later done.0 new (frames_with frames next.input) done.2 (read_one job first next.input old done.0 frames done.1 read)

each_push : (frames : List Frame) (frame : Frame) → AllByRecursion IsFrame frames → IsFrame frame → AllByRecursion IsFrame (frames ++ frame ∷ [])
each_push [] frame all is = (is, tt)
each_push (first ∷ frames) frame all is = (all.0, each_push frames frame all.1 is)

each_end : (result : Result Frame NoFrame) (frames : List Frame) (bytes rest : List ℕ) (old new : Option Links) → EndsWait result bytes rest old new → AllByRecursion IsFrame frames
    → AllByRecursion IsFrame (frames_with frames (input_of_wait result))
each_end (Ok frame) frames bytes rest old new ends all = each_push frames frame all ends.0
each_end (Err none.Quiet) frames bytes rest old new ends all = all
each_end (Err none.Closed) frames bytes rest old new ends all = all
each_end (Err none.RecvFailed) frames bytes rest old new ends all = all
each_end (Err (none.BadFrame fault)) frames bytes rest old new ends all = all

each_one : (job : Job) (output : Output) (came : Input) (old new : World) (frames : List Frame) → IsDone job output came old new → AllByRecursion IsFrame frames
    → AllByRecursion IsFrame (frames_with frames came)
each_one job output.Receive came old new frames done all =
    let P : Input → Type 0 = λ came. AllByRecursion IsFrame (frames_with frames came) in
    subst P (sym done.1.is) (each_end done.1.result frames _ _ _ _ done.1.wait.ends all)
each_one job output input.Dialed old new frames done all = tt
each_one job output (input.Frame frame) old new frames done all = absurd done
each_one job output came old new frames done all = all

pub each_all : (job : Job) (first : Output) (later : List RunStep) (old new : World) (frames : List Frame) → AreDone job first later old new → AllByRecursion IsFrame frames
    → AllByRecursion IsFrame (frames_after frames later)
each_all job first [] old new frames done all = all
each_all job first (next ∷ later) old new frames done all =
    each_all job next.output later done.0 new (frames_with frames next.input) done.2 (each_one job first next.input old done.0 frames done.1 all)

bad_end : (result : Result Frame NoFrame) (bytes rest : List ℕ) (old new : Option Links) → input.BadFrame ≡ input_of_wait result → EndsWait result bytes rest old new
    → (fault : FrameFault) × HasFault rest fault
bad_end (Ok frame) bytes rest old new is ends = absurd cc
bad_end (Err none.Quiet) bytes rest old new is ends = absurd cc
bad_end (Err none.Closed) bytes rest old new is ends = absurd cc
bad_end (Err none.RecvFailed) bytes rest old new is ends = absurd cc
bad_end (Err (none.BadFrame fault)) bytes rest old new is ends =
    let P : List ℕ → Type 0 = λ t. HasFault t fault in (fault, subst P (sym ends.2) ends.0)

pub bad : (job : Job) (old new : World) → IsDone job output.Receive input.BadFrame old new → (fault : FrameFault) × HasFault new.unread fault
bad job old new done = bad_end done.1.result _ new.unread _ new.links done.1.is done.1.wait.ends

-- what is sent on the link that is up
sends_through : (f : Links → Links) (received sent before after : List ℕ) (old new : Option Links) → Adds f received sent → new ≡ option_map f old
    → after ≡ before ++ sent → IsSent before old → IsSent after new
sends_through f received sent before after old new adds is bytes were = λ links link told up.
    let was = told_of f old links (sym is ∙ told) in
    let P : Links → Type 0 = λ l. l.current ≡ Some link in
    let more = adds was.0 link (subst P (sym was.2) up) in
    more.3 ∙ ap (λ (t : List ℕ). t ++ sent) (were was.0 more.0 was.1 more.1) ∙ sym bytes

sends_none : (before : List ℕ) (old new : Option Links) → new ≡ old → IsSent before old → IsSent before new
sends_none before old new is were = λ links link told up. were links link (sym is ∙ told) up

sent_end : (result : Result Frame NoFrame) (sent bytes rest : List ℕ) (old new : Option Links) → EndsWait result bytes rest old new → IsSent sent old → IsSent sent new
sent_end (Ok frame) sent bytes rest old new ends were = sends_none sent old new ends.2 were
sent_end (Err none.Quiet) sent bytes rest old new ends were =
    sends_through (with_receipt Quiet) [] [] sent sent old new (adds_receipt Quiet) ends.1 (sym (append-nil sent)) were
sent_end (Err none.Closed) sent bytes rest old new ends were =
    sends_through (with_receipt Closed) [] [] sent sent old new (adds_receipt Closed) ends.1 (sym (append-nil sent)) were
sent_end (Err none.RecvFailed) sent bytes rest old new ends were =
    sends_through with_failure [] [] sent sent old new (adds_failure [] []) ends.1 (sym (append-nil sent)) were
sent_end (Err (none.BadFrame fault)) sent bytes rest old new ends were = sends_none sent old new ends.1 were

abbrev pub Sent : Job → Output → Input → List ℕ → World → Type 0
Sent job output came before new = (after : List ℕ) × Sends job output came before after × IsSent after new.links

sent_one : (job : Job) (output : Output) (came : Input) (old new : World) (before : List ℕ) → IsDone job output came old new → IsSent before old.links
    → Sent job output came before new
sent_one job output.Goal (input.Goal goal) old new before done were = (before, refl, sends_none before old.links new.links (same_links _ new done) were)
sent_one job output.Dial input.Dialed old new before done were = (
  [],
  refl,
  λ links link told up. ap (λ (l : Link). l.sent) (sym (begun job.port.host job.port.port old.links new.links links link (same_links _ new done) told up)),
)
sent_one job output.Dial input.DialFailed old new before done were = (before, refl, sends_none before old.links new.links (same_links _ new done.0) were)
sent_one job output.Now (input.Time clock) old new before done were = (before, refl, sends_none before old.links new.links (same_links _ new done.0) were)
sent_one job (output.Call called) (input.Reply answer) old new before done were = (before, refl, sends_none before old.links new.links (same_links _ new done.is) were)
sent_one job (output.Call called) input.Full old new before done were = (before, refl, sends_none before old.links new.links (same_links _ new done) were)
sent_one job (output.Release write at) (input.Reply answer) old new before done were = (before, refl, sends_none before old.links new.links (same_links _ new done.is) were)
sent_one job (output.Release write at) input.Full old new before done were = (before, refl, sends_none before old.links new.links (same_links _ new done) were)
sent_one job (output.Send request clock) input.SentAll old new before done were =
    let bytes = frame_spelling (request_frame job request) in
    (before ++ bytes, refl, sends_through (with_bytes bytes) [] bytes before (before ++ bytes) old.links new.links (adds_bytes bytes) (same_links _ new done) refl were)
sent_one job (output.Send request clock) input.SendFailed old new before done were =
    let bytes = take done.1.0 (frame_spelling (request_frame job request)) in (
      before ++ bytes,
      (done.1.0, done.1.1, refl),
      sends_through (with_bytes bytes) [] bytes before (before ++ bytes) old.links new.links (adds_bytes bytes) done.1.2 refl were,
    )
sent_one job output.Receive came old new before done were =
    let wait = done.1.wait in (
      before,
      refl,
      sent_end done.1.result before _ new.unread wait.between new.links wait.ends
          (sends_through (with_pieces wait.pieces) (concat wait.pieces) [] before before old.links wait.between (adds_pieces wait.pieces) wait.receives.links
          (sym (append-nil before)) were),
    )
sent_one job output.HangUp input.HungUp old new before done were =
    (before, refl, sends_through after_hang_up [] [] before before old.links new.links (adds_hang_up [] []) (same_links _ new done) (sym (append-nil before)) were)
sent_one job (output.Rest ms) input.Rested old new before done were = (before, refl, sends_none before old.links new.links (same_links old new done) were)
sent_one job output.Nothing input.Go old new before done were = (before, refl, sends_none before old.links new.links (same_links old new done) were)
sent_one job output.Nothing input.NoRoom old new before done were = (before, refl, sends_none before old.links new.links (same_links old new done) were)
sent_one job output came old new before done were = absurd done

pub sent_all : (job : Job) (first : Output) (later : List RunStep) (old new : World) (before : List ℕ) → AreDone job first later old new → IsSent before old.links
    → (after : List ℕ) × AreSent job first later before after × IsSent after new.links
sent_all job first [] old new before done were = (before, refl, sends_none before old.links new.links (same_links old new done) were)
sent_all job first (next ∷ later) old new before done were =
    let here = sent_one job first next.input old done.0 before done.1 were in
    let behind = sent_all job next.output later done.0 new here.0 done.2 here.2 in
    (behind.0, (here.0, here.1, behind.1), behind.2)
