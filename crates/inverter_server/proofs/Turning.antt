-- What one turn adds to what was served.
use Rattle.std.proofs.Common.{◌≡◌, ℕ, zero, suc, ◌+◌, ◌-◌, inl, Bool, IsTrue, List, [], ◌∷◌, ◌++◌, length, map, take, Option, Some, None, refl, sym, ap, subst, ◌∙◌, append_assoc, append-nil, arith}
use Rattle.std.specs.List.{AllByRecursion, flat_map, sum_by}
use Rattle.std.specs.Option.{option_map}
use Rattle.std.proofs.lemmas.List.{length-append, map-append}
use Rattle.std.proofs.Math.Seq.{take-append_seam}
use Rattle.std.proofs.lemmas.List.Concat.{flat_map-append}
use Rattle.std.proofs.lemmas.List.Sums.{sum_by_push}
use Rattle.world_traits.specs.Causes.{Rose}
use Rattle.world_traits.specs.Links as links
use Rattle.world_traits.specs.Links.{Link, Links, Receipt, all_links, link_with_bytes, link_with_receipt, new_link, received_bytes, after_hang_up, with_bytes, with_link}
use Rattle.mbap_frames.specs.Frame.{IsFrame, frame_spelling}
use Rattle.inverter_sim.specs.Bank.{BankRecord}
use Rattle.inverter_server.specs.Answers.{Answered, AreAnswers, asked_bytes, answer_bytes, bank_after_all}
use Rattle.inverter_server.specs.Serving.{Ending, Open, Closed, Lost, Refused, Unsent, Visit, Dial, Missed, Made, AllGoOn, GoesOn, HasReceipts, IsOver, IsSent, IsServed, IsVisit, MayDial, RoseBy, StandsBehind, answers_of, failures_of, failures_on, links_of, turns_of, up_behind, up_of, visit_of, visits_of}
use Rattle.inverter_server.specs.Turns.{State, Start, IsAttended, CameTo, GoesOnAttended, EndsAttended, Attends, HasServed, IsUp, Stands, after_receive, all_links_with, link_up, link_up_behind, up_links}
use Rattle.inverter_server.proofs.Answering.{all-append, AreAnswers-append, bank_after_all-append, asked_bytes-append, answer_bytes-append}
use Rattle.inverter_server.proofs.Visits.{both_steps}

rose_more : (a b before between now : ℕ) → RoseBy a before between → RoseBy b between now → RoseBy (a + b) before now
rose_more a b before between now first second = omega (arith, first, second)

-- the dials with one more behind them
visits_of_push : (done : List Dial) (visit : Visit) → visits_of (done ++ Made visit ∷ []) ≡ visits_of done ++ visit ∷ []
visits_of_push done visit = flat_map-append visit_of done (Made visit ∷ [])

visits_of_miss : (done : List Dial) → visits_of (done ++ Missed ∷ []) ≡ visits_of done
visits_of_miss done = flat_map-append visit_of done (Missed ∷ []) ∙ append-nil (visits_of done)

links_of_push : (done : List Dial) (visit : Visit) → links_of (done ++ Made visit ∷ []) ≡ links_of done ++ visit.link ∷ []
links_of_push done visit =
    ap (λ (v : List Visit). map (λ x. x.link) v) (visits_of_push done visit) ∙ map-append (λ (x : Visit). x.link) (visits_of done) (visit ∷ [])

answers_of_push : (done : List Dial) (visit : Visit) → answers_of (done ++ Made visit ∷ []) ≡ answers_of done ++ visit.answers
answers_of_push done visit =
    ap (λ (v : List Visit). flat_map (λ x. x.answers) v) (visits_of_push done visit)
    ∙ flat_map-append (λ (x : Visit). x.answers) (visits_of done) (visit ∷ []) ∙ ap (λ (t : List Answered). answers_of done ++ t) (append-nil visit.answers)

-- a link behind a receive, and the answers that were sent then
visit_with : Visit → links.Answer → List Answered → Ending → List ℕ → Visit
visit_with visit came answers ending sent =
    record { link = link_with_bytes sent (link_with_receipt came visit.link); answers = visit.answers ++ answers; ending = ending }

received_more : (link : Link) (came : links.Answer) → received_bytes (link_with_receipt came link) ≡ received_bytes link ++ links.answer_bytes came
received_more link came =
    flat_map-append (λ (r : Receipt). links.answer_bytes r.answer) link.receipts (record { answer = came; sent_before = length link.sent } ∷ [])
    ∙ ap (λ (t : List ℕ). received_bytes link ++ t) (append-nil (links.answer_bytes came))

came_in_order : (received kept came behind : List ℕ) (before answers : List Answered) → received ≡ asked_bytes before ++ kept → kept ++ came ≡ asked_bytes answers ++ behind
    → received ++ came ≡ asked_bytes (before ++ answers) ++ behind
came_in_order received kept came behind before answers so_far more =
    ap (λ (t : List ℕ). t ++ came) so_far ∙ append_assoc (asked_bytes before) kept came ∙ ap (λ (t : List ℕ). asked_bytes before ++ t) more
    ∙ sym (append_assoc (asked_bytes before) (asked_bytes answers) behind) ∙ ap (λ (t : List ℕ). t ++ behind) (sym (asked_bytes-append before answers))

receipts_more : (ending : Ending) (receipts : List Receipt) (last : Receipt) → AllGoOn receipts → CameTo ending last.answer → HasReceipts ending (receipts ++ last ∷ [])
receipts_more Open receipts last each came = all-append (λ (r : Receipt). GoesOn r.answer) receipts (last ∷ []) each (came, tt)
receipts_more Closed receipts last each came = (receipts, last, refl, came, each)
receipts_more Lost receipts last each came = (receipts, last, refl, came, each)
receipts_more Refused receipts last each came = all-append (λ (r : Receipt). GoesOn r.answer) receipts (last ∷ []) each (came, tt)
receipts_more Unsent receipts last each came = all-append (λ (r : Receipt). GoesOn r.answer) receipts (last ∷ []) each (came, tt)

sent_all : (before answers : List Answered) (sent more : List ℕ) → sent ≡ answer_bytes before → more ≡ answer_bytes answers → sent ++ more ≡ answer_bytes (before ++ answers)
sent_all before answers sent more so_far is =
    ap (λ (t : List ℕ). t ++ more) so_far ∙ ap (λ (t : List ℕ). answer_bytes before ++ t) is ∙ sym (answer_bytes-append before answers)

sent_more : (ending : Ending) (before answers : List Answered) (sent more : List ℕ) → sent ≡ answer_bytes before → IsSent ending answers more → IsSent ending (before ++ answers) (sent ++ more)
sent_more Open before answers sent more so_far is = sent_all before answers sent more so_far is
sent_more Closed before answers sent more so_far is = sent_all before answers sent more so_far is
sent_more Lost before answers sent more so_far is = sent_all before answers sent more so_far is
sent_more Refused before answers sent more so_far is = sent_all before answers sent more so_far is
sent_more Unsent before answers sent more so_far is =
    let part = take is.2 (frame_spelling is.1.answer) in (
      before ++ is.0,
      is.1,
      is.2,
      ap (λ (t : List Answered). before ++ t) is.3 ∙ sym (append_assoc before is.0 (is.1 ∷ [])),
      is.4,
      ap (λ (t : List ℕ). t ++ more) so_far ∙ ap (λ (t : List ℕ). answer_bytes before ++ t) is.5 ∙ sym (append_assoc (answer_bytes before) (answer_bytes is.0) part)
          ∙ ap (λ (t : List ℕ). t ++ part) (sym (answer_bytes-append before is.0)),
    )

-- the link behind the turn is one that was served
visit_more : (start : Start) (old new : State) (kept behind : List ℕ) (visit : Visit) (came : links.Answer) (answers : List Answered) (ending : Ending) (sent : List ℕ) (end : Links → Links)
    → old.bank.number ≡ start.state.bank.number → IsUp start kept visit → IsAttended start.may_give old new kept behind came answers ending sent end
    → IsVisit start.port start.state.bank.number (visit_with visit came answers ending sent)
unfolding visit_with
visit_more start old new kept behind visit came answers ending sent end number up turn = record {
  host = up.host;
  port_number = up.port_number;
  receipts = receipts_more ending visit.link.receipts (record { answer = came; sent_before = length visit.link.sent }) up.receipts turn.answered;
  frames = all-append (λ (a : Answered). IsFrame a.asked) visit.answers answers up.frames turn.frames;
  received = (
    behind,
    received_more visit.link came ∙ came_in_order (received_bytes visit.link) kept (links.answer_bytes came) behind visit.answers answers up.received turn.whole,
    subst (λ (n : ℕ). StandsBehind n ending behind) number turn.stands,
  );
  sent = sent_more ending visit.answers answers visit.link.sent sent up.sent turn.spelled;
}

-- the answers of all links, with those of the turn behind them
record Answers (start : Start) (now : State) (answers : List Answered) : Type 0 where
  pub replies : AreAnswers start.state.bank answers
  pub bank : now.bank ≡ bank_after_all start.state.bank answers
  pub number : now.bank.number ≡ start.state.bank.number
  pub moments : AllByRecursion (λ answered. IsTrue (start.may_give answered.at)) answers

answers_more : (start : Start) (old new : State) (kept behind : List ℕ) (done : List Dial) (before answers : List Answered) (came : links.Answer) (ending : Ending) (sent : List ℕ) (end : Links → Links)
    → HasServed start old done before → IsAttended start.may_give old new kept behind came answers ending sent end
    → Answers start new (answers_of done ++ (before ++ answers))
answers_more start old new kept behind done before answers came ending sent end so_far turn =
    let first = start.state.bank in
    let all = answers_of done ++ before in
    let assoc : all ++ answers ≡ answers_of done ++ (before ++ answers) = append_assoc (answers_of done) before answers in
    let whole : Answers start new (all ++ answers) = record {
      replies = AreAnswers-append first all answers so_far.replies (subst (λ (b : BankRecord). AreAnswers b answers) so_far.bank turn.replies);
      bank = turn.bank ∙ ap (λ (b : BankRecord). bank_after_all b answers) so_far.bank ∙ sym (bank_after_all-append first all answers);
      number = turn.number ∙ so_far.number;
      moments = all-append (λ (a : Answered). IsTrue (start.may_give a.at)) all answers so_far.moments turn.moments;
    } in
    subst (Answers start new) assoc whole

-- the link that is up, behind a receive and the bytes that were sent then
up_came : (done : List Dial) (link : Link) (came : links.Answer) (sent : List ℕ) → GoesOn came → (told : Option Links)
    → option_map (λ (l : Links). with_bytes sent (after_receive came (up_links done link l))) told
    ≡ option_map (up_links done (link_with_bytes sent (link_with_receipt came link))) told
up_came done link (links.Bytes bytes) sent on told = refl
up_came done link links.Quiet sent on told = refl
up_came done link links.Closed sent on told = absurd on
up_came done link links.Failed sent on told = absurd on

-- a turn behind which the link goes on
pub goes_on : (start : Start) (turns : ℕ) (old new : State) (kept after : List ℕ) → Stands start turns old (Some kept) → GoesOnAttended start.may_give kept after old new
    → Stands start (turns + 1) new (Some after)
unfolding visit_with
goes_on start turns old new kept after stands turn =
    let done = stands.0 in
    let visit = stands.1 in
    let came = turn.0 in
    let answers = turn.1 in
    let next = visit_with visit came answers Open (answer_bytes answers) in
    let is = visit_more start old new kept after visit came answers Open (answer_bytes answers) (λ (l : Links). l) stands.2.number stands.3 turn.3 in
    let all = answers_more start old new kept after done visit.answers answers came Open (answer_bytes answers) (λ (l : Links). l) stands.2 turn.3 in
    let receipt : Receipt = record { answer = came; sent_before = length visit.link.sent } in
    let more : length (visit.link.receipts ++ receipt ∷ []) ≡ length visit.link.receipts + 1 = length-append visit.link.receipts (receipt ∷ []) in (
      done,
      next,
      record {
        over = stands.2.over;
        visits = stands.2.visits;
        replies = all.replies;
        bank = all.bank;
        number = all.number;
        moments = all.moments;
        faults = omega (arith, stands.2.faults, turn.3.faults);
      },
      record {
        ending = refl;
        host = is.host;
        port_number = is.port_number;
        receipts = is.receipts;
        frames = is.frames;
        received = received_more visit.link came ∙ came_in_order (received_bytes visit.link) kept (links.answer_bytes came) after visit.answers answers stands.3.received turn.3.whole;
        unfinished = turn.2;
        sent = is.sent;
      },
      omega (arith, stands.4, more),
      turn.3.links ∙ ap (λ (o : Option Links). option_map (λ (l : Links). with_bytes (answer_bytes answers) (after_receive came l)) o) stands.5
          ∙ both_steps (up_links done visit.link) (λ (l : Links). with_bytes (answer_bytes answers) (after_receive came l)) start.state.links
          ∙ up_came done visit.link came (answer_bytes answers) turn.3.answered start.state.links,
    )

-- a link that is over behind such a turn
past_link : (done : List Dial) (visit next : Visit) (link : Link) (before : Links) → next.link ≡ link
    → (all_links before ++ links_of done) ++ link ∷ [] ≡ all_links before ++ links_of (done ++ Made next ∷ [])
past_link done visit next link before is =
    ap (λ (l : Link). (all_links before ++ links_of done) ++ l ∷ []) (sym is) ∙ append_assoc (all_links before) (links_of done) (next.link ∷ [])
    ∙ ap (λ (t : List Link). all_links before ++ t) (sym (links_of_push done next))

no_more_bytes : (link : Link) (sent : List ℕ) → sent ≡ [] → link_with_bytes sent link ≡ link
no_more_bytes link sent none =
    ap (λ (bytes : List ℕ). record link { sent = bytes }) (ap (λ (t : List ℕ). link.sent ++ t) none ∙ append-nil link.sent)

over_came : (done : List Dial) (visit next : Visit) (came : links.Answer) (sent : List ℕ) → next.link ≡ link_with_bytes sent (link_with_receipt came visit.link)
    → (came ≡ links.Failed → sent ≡ []) → (told : Option Links)
    → option_map all_links (option_map (λ (l : Links). after_hang_up (with_bytes sent (after_receive came (up_links done visit.link l)))) told)
    ≡ option_map (all_links_with (done ++ Made next ∷ [])) told
over_came done visit next came sent is none None = refl
over_came done visit next (links.Bytes bytes) sent is none (Some before) = ap Some (past_link done visit next _ before is)
over_came done visit next links.Quiet sent is none (Some before) = ap Some (past_link done visit next _ before is)
over_came done visit next links.Closed sent is none (Some before) = ap Some (past_link done visit next _ before is)
over_came done visit next links.Failed sent is none (Some before) =
    ap Some (past_link done visit next _ before (is ∙ no_more_bytes (link_with_receipt links.Failed visit.link) sent (none refl)))

-- which link is up behind one more
up_behind-push : (before : Option Link) (visits : List Visit) (visit : Visit) → up_behind before (visits ++ visit ∷ []) ≡ up_of visit.ending visit.link
up_behind-push before [] visit = refl
up_behind-push before (first ∷ later) visit = up_behind-push (up_of first.ending first.link) later visit

link_up_behind-push : (done : List Dial) (next : Visit) (links : Links) → link_up_behind (done ++ Made next ∷ []) links ≡ up_of next.ending next.link
link_up_behind-push done next links =
    ap (λ (v : List Visit). up_behind links.current v) (visits_of_push done next) ∙ up_behind-push links.current (visits_of done) next

ended_up : (ending : Ending) (link : Link) → MayDial ending → up_of ending link ≡ None
ended_up Open link may = absurd may
ended_up Closed link may = refl
ended_up Lost link may = refl
ended_up Refused link may = refl
ended_up Unsent link may = refl

none_up : (done : List Dial) (next : Visit) (before : Links → Links) → MayDial next.ending → (told : Option Links)
    → option_map link_up (option_map (λ (l : Links). after_hang_up (before l)) told) ≡ option_map (link_up_behind (done ++ Made next ∷ [])) told
none_up done next before may None = refl
none_up done next before may (Some links) = ap Some (sym (link_up_behind-push done next links ∙ ended_up next.ending next.link may))

-- a turn behind which the link is over
pub ended : (start : Start) (turns : ℕ) (old new : State) (kept : List ℕ) → Stands start turns old (Some kept) → EndsAttended start.may_give kept old new after_hang_up
    → Stands start (turns + 1) new None
unfolding visit_with
ended start turns old new kept stands turn =
    let done = stands.0 in
    let visit = stands.1 in
    let came = turn.0 in
    let answers = turn.2 in
    let ending = turn.3 in
    let sent = turn.4 in
    let next = visit_with visit came answers ending sent in
    let is = visit_more start old new kept turn.1 visit came answers ending sent after_hang_up stands.2.number stands.3 turn.6 in
    let same : answers_of (done ++ Made next ∷ []) ++ [] ≡ answers_of done ++ (visit.answers ++ answers) = append-nil _ ∙ answers_of_push done next in
    let all = subst (Answers start new) (sym same) (answers_more start old new kept turn.1 done visit.answers answers came ending sent after_hang_up stands.2 turn.6) in
    let receipt : Receipt = record { answer = came; sent_before = length visit.link.sent } in
    let more : length (visit.link.receipts ++ receipt ∷ []) ≡ length visit.link.receipts + 1 = length-append visit.link.receipts (receipt ∷ []) in
    let turns_are : sum_by turns_of (done ++ Made next ∷ []) ≡ sum_by turns_of done + (1 + length (visit.link.receipts ++ receipt ∷ [])) = sum_by_push turns_of done (Made next) in
    let failures_are : sum_by failures_of (done ++ Made next ∷ []) ≡ sum_by failures_of done + failures_on ending = sum_by_push failures_of done (Made next) in (
      done ++ Made next ∷ [],
      record {
        over = all-append IsOver done (Made next ∷ []) stands.2.over (turn.5, tt);
        visits = subst (AllByRecursion (IsVisit start.port start.state.bank.number)) (sym (visits_of_push done next))
            (all-append (IsVisit start.port start.state.bank.number) (visits_of done) (next ∷ []) stands.2.visits (is, tt));
        replies = all.replies;
        bank = all.bank;
        number = all.number;
        moments = all.moments;
        faults = subst (λ (n : ℕ). RoseBy n start.state.faults new.faults) (sym failures_are)
            (rose_more (sum_by failures_of done) (failures_on ending) start.state.faults old.faults new.faults stands.2.faults turn.6.faults);
      },
      omega (arith, stands.4, more, turns_are),
      ap (λ (o : Option Links). option_map all_links o) (turn.6.links
          ∙ ap (λ (o : Option Links). option_map (λ (l : Links). after_hang_up (with_bytes sent (after_receive came l))) o) stands.5
          ∙ both_steps (up_links done visit.link) (λ (l : Links). after_hang_up (with_bytes sent (after_receive came l))) start.state.links)
          ∙ over_came done visit next came sent refl turn.6.unsent start.state.links,
      ap (λ (o : Option Links). option_map link_up o) (turn.6.links
          ∙ ap (λ (o : Option Links). option_map (λ (l : Links). after_hang_up (with_bytes sent (after_receive came l))) o) stands.5
          ∙ both_steps (up_links done visit.link) (λ (l : Links). after_hang_up (with_bytes sent (after_receive came l))) start.state.links)
          ∙ none_up done next (λ (l : Links). with_bytes sent (after_receive came (up_links done visit.link l))) turn.5 start.state.links,
    )

attended_so : (start : Start) (turns : ℕ) (old new : State) (kept : List ℕ) (after : Option (List ℕ)) → Stands start turns old (Some kept)
    → Attends start.may_give old new kept after → Stands start (turns + 1) new after
attended_so start turns old new kept None stands turn = ended start turns old new kept stands turn
attended_so start turns old new kept (Some after) stands turn = goes_on start turns old new kept after stands turn

pub attended : (start : Start) (may_give : ℕ → Bool) (turns : ℕ) (old new : State) (line : Option (List ℕ)) (kept : List ℕ) (after : Option (List ℕ))
    → start.may_give ≡ may_give → line ≡ Some kept → Stands start turns old line → Attends may_give old new kept after → Stands start (turns + 1) new after
attended start may_give turns old new line kept after given is stands turn =
    attended_so start turns old new kept after (subst (Stands start turns old) is stands) (subst (λ (m : ℕ → Bool). Attends m old new kept after) (sym given) turn)

-- a dial that failed
pub missed : (start : Start) (turns : ℕ) (old new : State) (line : Option (List ℕ)) → line ≡ None → Stands start turns old line → new.bank ≡ old.bank → new.links ≡ option_map (λ (l : Links). l) old.links
    → Rose old.faults new.faults → Stands start (turns + 1) new None
missed start turns old new line down stands_so bank recorded rose =
    let stands = subst (Stands start turns old) down stands_so in
    let done = stands.0 in
    let served = stands.1 in
    let same : visits_of (done ++ Missed ∷ []) ≡ visits_of done = visits_of_miss done in
    let answers : answers_of (done ++ Missed ∷ []) ≡ answers_of done = ap (λ (v : List Visit). flat_map (λ x. x.answers) v) same in
    let all : Answers start new (answers_of (done ++ Missed ∷ []) ++ []) = subst (λ (a : List Answered). Answers start new (a ++ [])) (sym answers)
    (record { replies = served.replies; bank = bank ∙ served.bank; number = ap (λ (b : BankRecord). b.number) bank ∙ served.number; moments = served.moments }) in
    let turns_are : sum_by turns_of (done ++ Missed ∷ []) ≡ sum_by turns_of done + 1 = sum_by_push turns_of done Missed in
    let failures_are : sum_by failures_of (done ++ Missed ∷ []) ≡ sum_by failures_of done + 1 = sum_by_push failures_of done Missed in
    let rose_by : RoseBy 1 old.faults new.faults = omega (arith, rose) in (
      done ++ Missed ∷ [],
      record {
        over = all-append IsOver done (Missed ∷ []) served.over (tt, tt);
        visits = subst (AllByRecursion (IsVisit start.port start.state.bank.number)) (sym same) served.visits;
        replies = all.replies;
        bank = all.bank;
        number = all.number;
        moments = all.moments;
        faults = subst (λ (n : ℕ). RoseBy n start.state.faults new.faults) (sym failures_are)
            (rose_more (sum_by failures_of done) 1 start.state.faults old.faults new.faults served.faults rose_by);
      },
      omega (arith, stands.2, turns_are),
      ap (λ (o : Option Links). option_map all_links o) recorded ∙ both_steps (λ (l : Links). l) all_links old.links ∙ stands.3
          ∙ ap (λ (v : List Visit). option_map (λ (l : Links). all_links l ++ map (λ x. x.link) v) start.state.links) (sym same),
      ap (λ (o : Option Links). option_map link_up o) recorded ∙ both_steps (λ (l : Links). l) link_up old.links ∙ stands.4
          ∙ ap (λ (v : List Visit). option_map (λ (l : Links). up_behind l.current v) start.state.links) (sym same),
    )

-- a dial that made a link
pub made : (start : Start) (turns : ℕ) (old new : State) (line : Option (List ℕ)) (kept host : List ℕ) (port : ℕ) → line ≡ None → Stands start turns old line → kept ≡ [] → host ≡ start.port.host → port ≡ start.port.port
    → new.bank ≡ old.bank → new.links ≡ option_map (with_link host port) old.links → new.faults ≡ old.faults → Stands start (turns + 1) new (Some kept)
made start turns old new line kept host port down stands_so none host_is port_is bank recorded same =
    let stands = subst (Stands start turns old) down stands_so in
    let done = stands.0 in
    let served = stands.1 in
    let up : List Link → Links = λ past. record { past = past; current = Some (new_link host port) } in (
      done,
      record { link = new_link host port; answers = []; ending = Open },
      record {
        over = served.over;
        visits = served.visits;
        replies = served.replies;
        bank = bank ∙ served.bank;
        number = ap (λ (b : BankRecord). b.number) bank ∙ served.number;
        moments = served.moments;
        faults = subst (λ (n : ℕ). RoseBy (sum_by failures_of done) start.state.faults n) (sym same) served.faults;
      },
      record {
        ending = refl;
        host = host_is;
        port_number = port_is;
        receipts = tt;
        frames = tt;
        received = sym none;
        unfinished = inl (omega (arith, ap length none));
        sent = refl;
      },
      omega (arith, stands.2),
      recorded ∙ sym (both_steps all_links up old.links) ∙ ap (λ (o : Option (List Link)). option_map up o) stands.3 ∙ both_steps (all_links_with done) up start.state.links,
    )

all_take : {X : Type 0} (P : X → Type 0) (n : ℕ) (xs : List X) → AllByRecursion P xs → AllByRecursion P (take n xs)
all_take P zero xs each = tt
all_take P (suc n) [] each = tt
all_take P (suc n) (x ∷ xs) each = (each.0, all_take P n xs each.1)

all_but_last : (done : List Dial) (last : Dial) → take (length (done ++ last ∷ []) - 1) (done ++ last ∷ []) ≡ done
all_but_last done last =
    let is : length (done ++ last ∷ []) - 1 ≡ length done = omega (arith, length-append done (last ∷ [])) in
    ap (λ (n : ℕ). take n (done ++ last ∷ [])) is ∙ take-append_seam done (last ∷ [])

all_told : (done : List Dial) (visit : Visit) (told : Option Links)
    → option_map (λ (l : Links). all_links (up_links done visit.link l)) told ≡ option_map (all_links_with (done ++ Made visit ∷ [])) told
all_told done visit None = refl
all_told done visit (Some before) = ap Some (past_link done visit visit visit.link before refl)

one_up : (done : List Dial) (visit : Visit) → visit.ending ≡ Open → (told : Option Links)
    → option_map (λ (l : Links). link_up (up_links done visit.link l)) told ≡ option_map (link_up_behind (done ++ Made visit ∷ [])) told
one_up done visit is None = refl
one_up done visit is (Some links) = ap Some (sym (link_up_behind-push done visit links ∙ ap (λ (e : Ending). up_of e visit.link) is))

-- what was served when the last turn is over
pub served : (start : Start) (made_so turns : ℕ) (now : State) (line : Option (List ℕ)) → made_so ≡ turns → Stands start made_so now line
    → (dials : List Dial) × IsServed start.may_give start.state.bank start.port turns dials start.state.links now.links start.state.faults now.faults
served start made_so turns now None all stands =
    let done = stands.0 in
    let so_far = stands.1 in
    let nil = append-nil (answers_of done) in (
      done,
      record {
        turns_made = stands.2 ∙ all;
        faults = so_far.faults;
        order = all_take IsOver (length done - 1) done so_far.over;
        visits = so_far.visits;
        answers = subst (AreAnswers start.state.bank) nil so_far.replies;
        moments = subst (AllByRecursion (λ (a : Answered). IsTrue (start.may_give a.at))) nil so_far.moments;
        told = stands.3;
        up = stands.4;
      },
    )
served start made_so turns now (Some kept) all stands =
    let done = stands.0 in
    let visit = stands.1 in
    let so_far = stands.2 in
    let up = stands.3 in
    let dials : List Dial = done ++ Made visit ∷ [] in
    let answers = answers_of_push done visit in
    let is : IsVisit start.port start.state.bank.number visit = record {
      host = up.host;
      port_number = up.port_number;
      receipts = subst (λ (e : Ending). HasReceipts e visit.link.receipts) (sym up.ending) up.receipts;
      frames = up.frames;
      received = (kept, up.received, subst (λ (e : Ending). StandsBehind start.state.bank.number e kept) (sym up.ending) up.unfinished);
      sent = subst (λ (e : Ending). IsSent e visit.answers visit.link.sent) (sym up.ending) up.sent;
    } in
    let failures_are : sum_by failures_of dials ≡ sum_by failures_of done + failures_on visit.ending = sum_by_push failures_of done (Made visit) in
    let none : failures_on visit.ending ≡ 0 = ap failures_on up.ending in
    let no_more : sum_by failures_of dials ≡ sum_by failures_of done = omega (arith, failures_are, none) in (
      dials,
      record {
        turns_made = sum_by_push turns_of done (Made visit) ∙ stands.4 ∙ all;
        faults = subst (λ (n : ℕ). RoseBy n start.state.faults now.faults) (sym no_more) so_far.faults;
        order = subst (AllByRecursion IsOver) (sym (all_but_last done (Made visit))) so_far.over;
        visits = subst (AllByRecursion (IsVisit start.port start.state.bank.number)) (sym (visits_of_push done visit))
            (all-append (IsVisit start.port start.state.bank.number) (visits_of done) (visit ∷ []) so_far.visits (is, tt));
        answers = subst (AreAnswers start.state.bank) (sym answers) so_far.replies;
        moments = subst (AllByRecursion (λ (a : Answered). IsTrue (start.may_give a.at))) (sym answers) so_far.moments;
        told = ap (λ (o : Option Links). option_map all_links o) stands.5 ∙ both_steps (up_links done visit.link) all_links start.state.links
            ∙ all_told done visit start.state.links;
        up = ap (λ (o : Option Links). option_map link_up o) stands.5 ∙ both_steps (up_links done visit.link) link_up start.state.links
            ∙ one_up done visit up.ending start.state.links;
      },
    )
