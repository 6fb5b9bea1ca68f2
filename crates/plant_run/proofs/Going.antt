-- A link that is up goes on, one act after another.
use Rattle.std.proofs.Common.{◌≡◌, ℕ, ◌<◌, List, [], ◌∷◌, ◌++◌, length, take, refl, sym, ap, subst, ◌∙◌, append-nil, append_assoc}
use Rattle.std.specs.List.{AllByRecursion, concat}
use Rattle.std.proofs.lemmas.List.{map-append}
use Rattle.std.proofs.lemmas.List.Folds.{concat-append}
use Rattle.world_traits.specs.Links.{Answer, Bytes, Link, Receipt, link_with_bytes, link_with_receipt, new_link}
use Rattle.mbap_frames.specs.declared.frame.Frame.{Frame}
use Rattle.mbap_frames.specs.Frame.{IsFrame, frame_spelling}
use Rattle.mbap_frames.specs.Stream.{frames_spelling}
use Rattle.inverter_worker.specs.declared.job.Job.{Job}
use Rattle.inverter_worker.specs.declared.input.Input.{Input}
use Rattle.inverter_worker.specs.declared.input.Input.TheVariants as input
use Rattle.inverter_worker.specs.declared.output.Output.TheVariants as output
use Rattle.inverter_worker.specs.declared.output.Asked.{Asked}
use Rattle.worker_turn.specs.Doing.{request_frame}
use Rattle.plant_run.specs.Acts.{Act, IsNoTransfer, Attempt, CutShort, attempt_in, attempts, HaveSent, whole, IsCounted, AreCounted}
use Rattle.plant_run.specs.Agreement.{arrival_in, arrivals, frame_inputs, answers, piece_answers, EndsWith, AgreesWith}

-- an act that sends nothing and receives nothing
pub record Still (job : Job) (act : Act) : Type 0 where
  pub attempt : attempt_in job act.output act.came ≡ []
  pub arrival : arrival_in act.output act.came ≡ []
  pub apart : IsNoTransfer act.output

abbrev pub AreStill : Job → List Act → Type 0
AreStill job done = AllByRecursion (Still job) done

attempts_more : (job : Job) (act : Act) (done : List Act) → Still job act → attempts job (act ∷ done) ≡ attempts job done
attempts_more job act done still = ap (λ (t : List Attempt). t ++ attempts job done) still.attempt

arrivals_more : (job : Job) (act : Act) (done : List Act) → Still job act → arrivals (act ∷ done) ≡ arrivals done
arrivals_more job act done still = ap (λ (t : List Input). t ++ arrivals done) still.arrival

no_attempts : (job : Job) (done : List Act) → AreStill job done → attempts job done ≡ []
no_attempts job [] still = refl
no_attempts job (act ∷ done) still = attempts_more job act done still.0 ∙ no_attempts job done still.1

no_arrivals : (job : Job) (done : List Act) → AreStill job done → arrivals done ≡ []
no_arrivals job [] still = refl
no_arrivals job (act ∷ done) still = arrivals_more job act done still.0 ∙ no_arrivals job done still.1

pub none_transfer : (job : Job) (done : List Act) → AreStill job done → AllByRecursion (λ (act : Act). IsNoTransfer act.output) done
none_transfer job [] still = tt
none_transfer job (act ∷ done) still = (still.0.apart, none_transfer job done still.1)

-- what became of a link on which so many bytes were unread
pub record Goes (job : Job) (done : List Act) (unread : List ℕ) (link final : Link) : Type 0 where
  pub host : final.host ≡ link.host
  pub port : final.port ≡ link.port
  pub more : List ℕ
  pub sent : final.sent ≡ link.sent ++ more
  pub attempted : HaveSent (attempts job done) more
  pub frames : List Frame
  pub end : List Input
  pub waits : arrivals done ≡ frame_inputs frames ++ end
  pub each : AllByRecursion IsFrame frames
  pub pieces : List (List ℕ)
  pub silence : List Answer
  pub receives : answers final ≡ answers link ++ (piece_answers pieces ++ silence)
  pub rest : List ℕ
  pub bytes : unread ++ concat pieces ≡ frames_spelling frames ++ rest
  pub ends : EndsWith end silence rest
  pub gained : List Receipt
  pub receipts : final.receipts ≡ link.receipts ++ gained
  pub counted : AreCounted job link.sent done gained

none_counted : (job : Job) (sent : List ℕ) (done : List Act) → AreCounted job sent done []
none_counted job sent [] = refl
none_counted job sent (act ∷ done) = ([], [], refl, tt, none_counted job (sent ++ whole (attempt_in job act.output act.came)) done)

pub agrees : (job : Job) (done : List Act) (final : Link) → Goes job done [] (new_link job.port.host job.port.port) final → AgreesWith job done final
agrees job done final goes = record {
  host = goes.host;
  port = goes.port;
  sent = let P : List ℕ → Type 0 = λ t. HaveSent (attempts job done) t in subst P (sym goes.sent) goes.attempted;
  frames = goes.frames;
  end = goes.end;
  waits = goes.waits;
  each = goes.each;
  pieces = goes.pieces;
  silence = goes.silence;
  receives = goes.receives;
  unread = goes.rest;
  bytes = goes.bytes;
  ends = goes.ends;
  counted = let P : List Receipt → Type 0 = λ t. AreCounted job [] done t in subst P (sym goes.receipts) goes.counted;
}

-- nothing is sent or received any more
pub goes_none : (job : Job) (done : List Act) (unread : List ℕ) (link : Link) → AreStill job done → Goes job done unread link link
goes_none job done unread link still = record {
  host = refl;
  port = refl;
  more = [];
  sent = sym (append-nil link.sent);
  attempted = let P : List Attempt → Type 0 = λ t. HaveSent t [] in subst P (sym (no_attempts job done still)) refl;
  frames = [];
  end = [];
  waits = no_arrivals job done still;
  each = tt;
  pieces = [];
  silence = [];
  receives = sym (append-nil (answers link));
  rest = unread;
  bytes = append-nil unread;
  ends = tt;
  gained = [];
  receipts = sym (append-nil link.receipts);
  counted = none_counted job link.sent done;
}

pub goes_still : (job : Job) (act : Act) (done : List Act) (unread : List ℕ) (link final : Link) → Still job act → Goes job done unread link final
    → Goes job (act ∷ done) unread link final
goes_still job act done unread link final still goes = record {
  host = goes.host;
  port = goes.port;
  more = goes.more;
  sent = goes.sent;
  attempted = let P : List Attempt → Type 0 = λ t. HaveSent t goes.more in subst P (sym (attempts_more job act done still)) goes.attempted;
  frames = goes.frames;
  end = goes.end;
  waits = arrivals_more job act done still ∙ goes.waits;
  each = goes.each;
  pieces = goes.pieces;
  silence = goes.silence;
  receives = goes.receives;
  rest = goes.rest;
  bytes = goes.bytes;
  ends = goes.ends;
  gained = goes.gained;
  receipts = goes.receipts;
  counted = (
    [],
    goes.gained,
    refl,
    tt,
    let P : List ℕ → Type 0 = λ t. AreCounted job t done goes.gained in
        subst P (sym (ap (λ (t : List Attempt). link.sent ++ whole t) still.attempt ∙ append-nil link.sent)) goes.counted,
  );
}

-- a request goes out whole
pub goes_sent : (job : Job) (request : Asked) (clock : ℕ) (done : List Act) (unread : List ℕ) (link final : Link)
    → Goes job done unread (link_with_bytes (frame_spelling (request_frame job request)) link) final
    → Goes job (record { output = output.Send request clock; came = input.SentAll } ∷ done) unread link final
goes_sent job request clock done unread link final goes = record {
  host = goes.host;
  port = goes.port;
  more = frame_spelling (request_frame job request) ++ goes.more;
  sent = goes.sent ∙ append_assoc link.sent (frame_spelling (request_frame job request)) goes.more;
  attempted = (goes.more, refl, goes.attempted);
  frames = goes.frames;
  end = goes.end;
  waits = goes.waits;
  each = goes.each;
  pieces = goes.pieces;
  silence = goes.silence;
  receives = goes.receives;
  rest = goes.rest;
  bytes = goes.bytes;
  ends = goes.ends;
  gained = goes.gained;
  receipts = goes.receipts;
  counted = ([], goes.gained, refl, tt, goes.counted);
}

-- a send fails, and nothing is sent or received any more
pub goes_cut : (job : Job) (request : Asked) (clock count : ℕ) (done : List Act) (unread : List ℕ) (link : Link)
    → count < length (frame_spelling (request_frame job request)) → AreStill job done
    → Goes job (record { output = output.Send request clock; came = input.SendFailed } ∷ done) unread link
    (link_with_bytes (take count (frame_spelling (request_frame job request))) link)
goes_cut job request clock count done unread link less still = record {
  host = refl;
  port = refl;
  more = take count (frame_spelling (request_frame job request));
  sent = refl;
  attempted =
      let P : List Attempt → Type 0 = λ t. HaveSent (CutShort (request_frame job request) ∷ t) (take count (frame_spelling (request_frame job request))) in
      subst P (sym (no_attempts job done still)) (count, less, refl);
  frames = [];
  end = [];
  waits = no_arrivals job done still;
  each = tt;
  pieces = [];
  silence = [];
  receives = sym (append-nil (answers link));
  rest = unread;
  bytes = append-nil unread;
  ends = tt;
  gained = [];
  receipts = sym (append-nil link.receipts);
  counted = none_counted job link.sent (record { output = output.Send request clock; came = input.SendFailed } ∷ done);
}

-- a link after receives that gave these pieces, and then this silence
pub record Gets (pieces : List (List ℕ)) (silence : List Answer) (link final : Link) : Type 0 where
  pub host : final.host ≡ link.host
  pub port : final.port ≡ link.port
  pub sent : final.sent ≡ link.sent
  pub receives : answers final ≡ answers link ++ (piece_answers pieces ++ silence)
  pub gained : List Receipt
  pub receipts : final.receipts ≡ link.receipts ++ gained
  pub counted : AllByRecursion (λ (receipt : Receipt). receipt.sent_before ≡ length link.sent) gained

answers_more : (answer : Answer) (link : Link) → answers (link_with_receipt answer link) ≡ answers link ++ answer ∷ []
answers_more answer link =
    map-append (λ (receipt : Receipt). receipt.answer) link.receipts (record { answer = answer; sent_before = length link.sent } ∷ [])

abbrev pub link_with_pieces : List (List ℕ) → Link → Link
link_with_pieces [] link = link
link_with_pieces (piece ∷ pieces) link = link_with_pieces pieces (link_with_receipt (Bytes piece) link)

pub gets_pieces : (pieces : List (List ℕ)) (link : Link) → Gets pieces [] link (link_with_pieces pieces link)
gets_pieces [] link = record {
  host = refl;
  port = refl;
  sent = refl;
  receives = sym (append-nil (answers link));
  gained = [];
  receipts = sym (append-nil link.receipts);
  counted = tt;
}
gets_pieces (piece ∷ pieces) link =
    let later = gets_pieces pieces (link_with_receipt (Bytes piece) link) in
    record {
      host = later.host;
      port = later.port;
      sent = later.sent;
      receives = later.receives ∙ ap (λ (t : List Answer). t ++ (piece_answers pieces ++ [])) (answers_more (Bytes piece) link)
          ∙ append_assoc (answers link) (Bytes piece ∷ []) (piece_answers pieces ++ []);
      gained = record { answer = Bytes piece; sent_before = length link.sent } ∷ later.gained;
      receipts = later.receipts ∙ append_assoc link.receipts (record { answer = Bytes piece; sent_before = length link.sent } ∷ []) later.gained;
      counted = (refl, later.counted);
    }

all_push : (P : Receipt → Type 0) (receipts : List Receipt) (one : Receipt) → AllByRecursion P receipts → P one → AllByRecursion P (receipts ++ one ∷ [])
all_push P [] one all last = (last, tt)
all_push P (receipt ∷ receipts) one all last = (all.0, all_push P receipts one all.1 last)

of_wait : (came : Input) (sent : List ℕ) (receipts : List Receipt) → AllByRecursion (λ (receipt : Receipt). receipt.sent_before ≡ length sent) receipts
    → AllByRecursion (IsCounted (record { output = output.Receive; came = came }) sent) receipts
of_wait came sent [] all = tt
of_wait came sent (receipt ∷ receipts) all = (record { waits = refl; count = all.0 }, of_wait came sent receipts all.1)

then_silence : (a p s : List Answer) → (a ++ (p ++ [])) ++ s ≡ a ++ (p ++ s)
then_silence a p s = ap (λ (t : List Answer). (a ++ t) ++ s) (append-nil p) ∙ append_assoc a p s

pub gets_silence : (pieces : List (List ℕ)) (answer : Answer) (link : Link) → Gets pieces (answer ∷ []) link (link_with_receipt answer (link_with_pieces pieces link))
gets_silence pieces answer link =
    let before = gets_pieces pieces link in
    record {
      host = before.host;
      port = before.port;
      sent = before.sent;
      receives = answers_more answer (link_with_pieces pieces link) ∙ ap (λ (t : List Answer). t ++ answer ∷ []) before.receives
          ∙ then_silence (answers link) (piece_answers pieces) (answer ∷ []);
      gained = before.gained ++ record { answer = answer; sent_before = length (link_with_pieces pieces link).sent } ∷ [];
      receipts = ap (λ (t : List Receipt). t ++ record { answer = answer; sent_before = length (link_with_pieces pieces link).sent } ∷ []) before.receipts
          ∙ append_assoc link.receipts before.gained (record { answer = answer; sent_before = length (link_with_pieces pieces link).sent } ∷ []);
      counted = all_push (λ (receipt : Receipt). receipt.sent_before ≡ length link.sent) before.gained
          (record { answer = answer; sent_before = length (link_with_pieces pieces link).sent }) before.counted (ap (length {A = ℕ}) before.sent);
    }

then_pieces : (a p q s : List Answer) → (a ++ (p ++ [])) ++ (q ++ s) ≡ a ++ ((p ++ q) ++ s)
then_pieces a p q s = then_silence a p (q ++ s) ∙ ap (λ (t : List Answer). a ++ t) (sym (append_assoc p q s))

then_bytes : (unread p q f later between rest : List ℕ) → unread ++ p ≡ f ++ between → between ++ q ≡ later ++ rest → unread ++ (p ++ q) ≡ (f ++ later) ++ rest
then_bytes unread p q f later between rest first last =
    sym (append_assoc unread p q) ∙ ap (λ (t : List ℕ). t ++ q) first ∙ append_assoc f between q ∙ ap (λ (t : List ℕ). f ++ t) last ∙ sym (append_assoc f later rest)

-- a frame comes
pub goes_frame : (job : Job) (frame : Frame) (pieces : List (List ℕ)) (done : List Act) (unread between : List ℕ) (link final : Link)
    → IsFrame frame → unread ++ concat pieces ≡ frame_spelling frame ++ between → Goes job done between (link_with_pieces pieces link) final
    → Goes job (record { output = output.Receive; came = input.Frame frame } ∷ done) unread link final
goes_frame job frame pieces done unread between link final is first goes =
    let gets = gets_pieces pieces link in
    record {
      host = goes.host ∙ gets.host;
      port = goes.port ∙ gets.port;
      more = goes.more;
      sent = goes.sent ∙ ap (λ (t : List ℕ). t ++ goes.more) gets.sent;
      attempted = goes.attempted;
      frames = frame ∷ goes.frames;
      end = goes.end;
      waits = ap (λ (t : List Input). input.Frame frame ∷ t) goes.waits;
      each = (is, goes.each);
      pieces = pieces ++ goes.pieces;
      silence = goes.silence;
      receives = goes.receives ∙ ap (λ (t : List Answer). t ++ (piece_answers goes.pieces ++ goes.silence)) gets.receives
          ∙ then_pieces (answers link) (piece_answers pieces) (piece_answers goes.pieces) goes.silence
          ∙ ap (λ (t : List Answer). answers link ++ (t ++ goes.silence)) (sym (map-append Bytes pieces goes.pieces));
      rest = goes.rest;
      bytes = ap (λ (t : List ℕ). unread ++ t) (concat-append pieces goes.pieces)
          ∙ then_bytes unread (concat pieces) (concat goes.pieces) (frame_spelling frame) (frames_spelling goes.frames) between goes.rest first goes.bytes;
      ends = goes.ends;
      gained = gets.gained ++ goes.gained;
      receipts = goes.receipts ∙ ap (λ (t : List Receipt). t ++ goes.gained) gets.receipts ∙ append_assoc link.receipts gets.gained goes.gained;
      counted = (
        gets.gained,
        goes.gained,
        refl,
        of_wait (input.Frame frame) link.sent gets.gained gets.counted,
        let P : List ℕ → Type 0 = λ t. AreCounted job t done goes.gained in subst P (gets.sent ∙ sym (append-nil link.sent)) goes.counted,
      );
    }

-- no frame comes, and nothing is sent or received any more
pub goes_end : (job : Job) (came : Input) (pieces : List (List ℕ)) (silence : List Answer) (done : List Act) (unread : List ℕ) (link final : Link)
    → Gets pieces silence link final → EndsWith (came ∷ []) silence (unread ++ concat pieces) → AreStill job done
    → Goes job (record { output = output.Receive; came = came } ∷ done) unread link final
goes_end job came pieces silence done unread link final gets ends still = record {
  host = gets.host;
  port = gets.port;
  more = [];
  sent = gets.sent ∙ sym (append-nil link.sent);
  attempted = let P : List Attempt → Type 0 = λ t. HaveSent t [] in subst P (sym (no_attempts job done still)) refl;
  frames = [];
  end = came ∷ [];
  waits = ap (λ (t : List Input). came ∷ t) (no_arrivals job done still);
  each = tt;
  pieces = pieces;
  silence = silence;
  receives = gets.receives;
  rest = unread ++ concat pieces;
  bytes = refl;
  ends = ends;
  gained = gets.gained;
  receipts = gets.receipts;
  counted = (gets.gained, [], sym (append-nil gets.gained), of_wait came link.sent gets.gained gets.counted, none_counted job (link.sent ++ []) done);
}
