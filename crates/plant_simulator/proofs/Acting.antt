-- What the calls and the acts of a simulated inverter make of what it did so far.
use Rattle.std.proofs.Common.{◌≡◌, ℕ, ◌+◌, ◌≤◌, false, List, [], ◌∷◌, ◌++◌, drop, Some, refl, sym, ap, subst, ◌∙◌, arith, inl, inr}
use Rattle.std.specs.Prelude.{slice_get, Contains}
use Rattle.std.specs.List.{AllByRecursion}
use Rattle.std.proofs.lemmas.Bool.{eq-eqb, ltb-false}
use Rattle.std.proofs.lemmas.List.{length_push}
use Rattle.limiter_num.specs.Timers.{last_act}
use Rattle.plant_book.specs.declared.call.Call.TheVariants as calls
use Rattle.plant_book.specs.declared.call.Reply.{Reply}
use Rattle.plant_book.specs.declared.call.Write as writes
use Rattle.plant_book.specs.declared.book.Entry.{Entry}
use Rattle.plant_book.specs.Sums.{last_that}
use Rattle.plant_book.specs.Site.{floor_raw_at}
use Rattle.plant_book.specs.Book.{BookRecord}
use Rattle.plant_book.specs.Requests.{link_number, requests, pending_read}
use Rattle.plant_book.specs.Answer.{reply_to}
use Rattle.plant_book.specs.History.{Grant, Sight, grants, sights}
use Rattle.plant_book.specs.Behaviour.{Act, held}
use Rattle.plant_book.proofs.Steps.{requests-push_link}
use Rattle.plant_book.proofs.Growing.{start_empty}
use Rattle.plant_simulator.specs.declared.inverter.Request.{Request}
use Rattle.plant_simulator.specs.declared.inverter.Request.TheVariants as sent
use Rattle.plant_simulator.specs.declared.inverter.OldWrite.{OldWrite}
use Rattle.plant_simulator.specs.World.{InverterRecord, fresh}
use Rattle.plant_simulator.specs.Inverter.{is_late, holding, emptied, without_first, without_old}
use Rattle.plant_simulator.proofs.Longer.{commissioned, made, number_of, grants_next, sights_next}
use Rattle.inverter_sim.specs.Following.{IsLonger, HasFollowed}
use Rattle.inverter_sim.proofs.Doing.{does_act, does_longer}
use Rattle.plant_simulator.proofs.Queue.{InOrder, number_in, NotAbove, AskedUpTo, Stage, IsUnderWay, Queue, GoesOn, queue_on}
use Rattle.plant_simulator.proofs.Moves.{link_of_life, act_is_of, queue_asked, the_stray, queue_act_old, queue_rest, queue_emptied, queue_linked, queue_next}
use Rattle.plant_simulator.proofs.Follows.{stage_of, Follows, IsTimedSite, next_link, after, longer_after, sight_before, pending_next}

module _ (earlier : List BookRecord) (book : BookRecord) (inverter now : ℕ) (timed : IsTimedSite book.site inverter) (its : InverterRecord) (follows : Follows earlier book inverter now (link_number inverter book.entries) its) where
  abbrev stage : Stage
  stage = stage_of earlier book inverter now (link_number inverter book.entries)

  in_time : (write : writes.Write) → is_late now write ≡ false → now ≤ last_act book.site.rules write.at
  in_time write is = omega (arith, ltb-false (write.at + 5000) now is, timed.last write.at)

  -- the first request of the line
  module _ (request : Request) (rest : List Request) (stand : its.line ≡ request ∷ rest) where
    pub head : IsUnderWay stage follows.events request
    head = (subst (AllByRecursion (IsUnderWay stage follows.events)) stand follows.queue.under_way).0

    pub head_first : AllByRecursion (λ other. number_in request ≤ number_in other) its.line
    head_first = subst (AllByRecursion (λ other. number_in request ≤ number_in other)) (sym stand) (omega arith, (subst (InOrder NotAbove) stand follows.queue.in_order).0)

    pub rest_first : AllByRecursion (λ other. number_in request ≤ number_in other) (drop 1 its.line)
    rest_first = subst (λ (line : List Request). AllByRecursion (λ other. number_in request ≤ number_in other) (drop 1 line)) (sym stand) (subst (InOrder NotAbove) stand follows.queue.in_order).0

  -- it is a write, and acts
  module _ (revert : ℕ) (low : now + 58300 ≤ revert) (high : revert ≤ now + 61700) where
    acts : (life place : ℕ) (write : writes.Write) → 1 ≤ life → Contains (grants (commissioned earlier book)) (made life place write) → write.inverter ≡ inverter → write.at ≤ now → is_late now write ≡ false
        → AllByRecursion (AskedUpTo (life, write.link) write.number) follows.events
        → HasFollowed (commissioned earlier book) inverter now write.raw (Some revert) (follows.events ++ record { at = now; event = Act (made life place write) } ∷ [])
    acts life place write from granted mine at timely numbers =
        does_act (commissioned earlier book) inverter now follows.events its.held its.due follows.does (made life place write) revert granted mine at (in_time write timely)
        (subst (λ (link : ℕ × ℕ). AllByRecursion (AskedUpTo link write.number) follows.events) (sym (link_of_life life place write from)) numbers)
        (omega (arith, low, timed.low)) (omega (arith, high, timed.high)) (omega (arith, low))

    module _ (write : writes.Write) (rest : List Request) (stand : its.line ≡ sent.Write write ∷ rest) where
      acted : (line : List Request) → AllByRecursion (λ other. write.number ≤ number_in other) line → Queue stage follows.events line its.strays
          → Follows earlier book inverter now (link_number inverter book.entries) (record its { held = write.raw; due = Some revert; line = line })
      acted line later queue =
          let way = head (sent.Write write) rest stand in
          let grant = way.granted.0 in
          record {
            events = follows.events ++ record { at = now; event = Act (made (number_of earlier) grant.place write) } ∷ [];
            does = acts (number_of earlier) grant.place write grant.from grant.granted grant.its grant.at way.timely
                (subst (λ (at : ℕ). AllByRecursion (AskedUpTo (number_of earlier, at) write.number) follows.events) (sym way.granted.1) way.low);
            queue = queue_asked (record { at = now; event = Act (made (number_of earlier) grant.place write) }) (number_of earlier) write.link write.number (act_is_of now grant.place (number_of earlier) write grant.from) stage follows.events line its.strays
                refl way.granted.1 (omega arith) way.high later queue;
            pending = follows.pending;
          }

      pub acts_kept : Follows earlier book inverter now (link_number inverter book.entries) (holding write.raw revert its)
      unfolding holding
      acts_kept = acted its.line (head_first (sent.Write write) rest stand) follows.queue

      pub acts_first : Follows earlier book inverter now (link_number inverter book.entries) (holding write.raw revert (without_first its))
      unfolding holding without_first
      acts_first = acted (drop 1 its.line) (rest_first (sent.Write write) rest stand) (queue_rest stage follows.events its.line its.strays follows.queue)

    -- an old write acts
    pub acts_late : (place : ℕ) (chosen : OldWrite) → slice_get its.strays place ≡ Some chosen → Follows earlier book inverter now (link_number inverter book.entries) (holding chosen.write.raw revert (without_old place chosen its))
    unfolding holding without_old
    acts_late place chosen found =
        let stray = the_stray stage follows.events its.line its.strays place chosen found (omega arith) follows.queue in
        record {
          events = follows.events ++ record { at = now; event = Act (made chosen.life stray.granted.place chosen.write) } ∷ [];
          does = acts chosen.life stray.granted.place chosen.write stray.granted.from stray.granted.granted stray.granted.its stray.granted.at stray.timely stray.low;
          queue = queue_act_old stage follows.events its.line its.strays place chosen found (omega arith) follows.queue now;
          pending = follows.pending;
        }

  -- the first request is lost
  pub loses_first : Follows earlier book inverter now (link_number inverter book.entries) (without_first its)
  unfolding without_first
  loses_first = record { events = follows.events; does = follows.does; queue = queue_rest stage follows.events its.line its.strays follows.queue; pending = follows.pending }

  -- what is on its way is old
  pub is_emptied : Follows earlier book inverter now (link_number inverter book.entries + 1) (emptied (number_of earlier) its)
  unfolding emptied
  is_emptied = record { events = follows.events; does = follows.does; queue = queue_emptied stage follows.events refl its.line its.strays follows.queue; pending = follows.pending }

-- a Link, behind which nothing of the link before is in the line
module _ (earlier : List BookRecord) (book : BookRecord) (inverter now bound at : ℕ) (reply : Reply) (right : reply ≡ reply_to book (calls.Link at inverter)) (until : at ≤ now) (narrow : bound ≤ link_number inverter book.entries + 1)
    (its : InverterRecord) (follows : Follows earlier book inverter now bound its) (empty : its.line ≡ []) where
  abbrev link_entry : Entry
  link_entry = record { call = calls.Link at inverter; reply = reply }

  abbrev behind_link : BookRecord
  behind_link = after earlier book link_entry (λ write. refl)

  abbrev link_before : Stage
  link_before = record (stage_of earlier behind_link inverter now bound) { link = link_number inverter book.entries; requests = requests inverter book.entries }

  pub follows_link : Follows earlier behind_link inverter now (link_number inverter behind_link.entries) its
  follows_link =
      let longer = longer_after earlier book link_entry (λ write. refl) in
      let on : GoesOn (stage_of earlier book inverter now bound) link_before = record { longer = longer; inverter = refl; now = omega arith; clock = refl; lives = refl; link = refl; requests = omega arith; bound = omega arith } in
      let queue = queue_on (stage_of earlier book inverter now bound) link_before on follows.events its.line its.strays follows.queue in
      let linked = queue_linked link_before follows.events narrow its.strays (subst (λ (line : List Request). Queue link_before follows.events line its.strays) empty queue) in
      let is_one : link_number inverter book.entries + 1 ≡ link_number inverter behind_link.entries = sym (next_link inverter book.entries link_entry (eq-eqb inverter inverter refl)) in
      let none : 0 ≡ requests inverter behind_link.entries = sym (requests-push_link inverter book.entries link_entry (eq-eqb inverter inverter refl)) in
      let made_of : ℕ → ℕ → Stage = λ link count. record link_before { link = link; requests = count; bound = link } in
      record {
        events = follows.events;
        does = does_longer (commissioned earlier book) (commissioned earlier behind_link) longer inverter now its.held its.due follows.events follows.does
            (λ sight within mine. elim (sight_before earlier book link_entry (λ write. refl) sight within) [ inl before ↦ before | inr new ↦ absurd (omega (arith, new.1)) ]);
        queue = subst (λ (line : List Request). Queue (made_of (link_number inverter behind_link.entries) (requests inverter behind_link.entries)) follows.events line its.strays) (sym empty)
            (subst (λ (count : ℕ). Queue (made_of (link_number inverter behind_link.entries) count) follows.events [] its.strays) none
            (subst (λ (link : ℕ). Queue (made_of link 0) follows.events [] its.strays) is_one linked));
        pending = pending_next inverter book link_entry now right until follows.pending;
      }

-- the next life
module _ (earlier : List BookRecord) (book next : BookRecord) (inverter now bound : ℕ) (site : next.site ≡ book.site) (empty_book : next.entries ≡ []) (its : InverterRecord) (follows : Follows earlier book inverter now bound its) (empty : its.line ≡ []) where
  abbrev ended : List BookRecord
  ended = earlier ++ book ∷ []

  abbrev life_before : Stage
  life_before = record (stage_of earlier book inverter now bound) { history = commissioned ended next }

  pub follows_next : Follows ended next inverter now (link_number inverter next.entries) its
  unfolding link_number requests pending_read last_that
  follows_next =
      let more = grants_next earlier book next empty_book in
      let seen = sights_next earlier book next empty_book in
      let longer : IsLonger (commissioned earlier book) (commissioned ended next) = record {
        site = site;
        grants = λ grant within. subst (λ (gs : List Grant). Contains gs grant) (sym more) within;
        sights = λ sight within. subst (λ (ss : List Sight). Contains ss sight) (sym seen) within;
      } in
      let on : GoesOn (stage_of earlier book inverter now bound) life_before = record { longer = longer; inverter = refl; now = omega arith; clock = refl; lives = refl; link = refl; requests = omega arith; bound = omega arith } in
      let queue = queue_on (stage_of earlier book inverter now bound) life_before on follows.events its.line its.strays follows.queue in
      let begun = queue_next life_before follows.events its.strays (subst (λ (line : List Request). Queue life_before follows.events line its.strays) empty queue) in
      let one_more : number_of earlier + 1 ≡ number_of ended = omega (arith, length_push earlier book) in
      let made_of : ℕ → ℕ → ℕ → Stage = λ lives link count. record life_before { lives = lives; link = link; requests = count; bound = link } in
      let no_links : 0 ≡ link_number inverter next.entries = ap (link_number inverter) (sym empty_book) in
      let no_requests : 0 ≡ requests inverter next.entries = ap (requests inverter) (sym empty_book) in
      record {
        events = follows.events;
        does = does_longer (commissioned earlier book) (commissioned ended next) longer inverter now its.held its.due follows.events follows.does (λ sight within mine. subst (λ (ss : List Sight). Contains ss sight) seen within);
        queue = subst (λ (line : List Request). Queue (made_of (number_of ended) (link_number inverter next.entries) (requests inverter next.entries)) follows.events line its.strays) (sym empty)
            (subst (λ (count : ℕ). Queue (made_of (number_of ended) (link_number inverter next.entries) count) follows.events [] its.strays) no_requests
            (subst (λ (link : ℕ). Queue (made_of (number_of ended) link 0) follows.events [] its.strays) no_links
            (subst (λ (lives : ℕ). Queue (made_of lives 0 0) follows.events [] its.strays) one_more begun)));
        pending = λ read is. absurd (let none = ap (pending_read inverter) (sym empty_book) ∙ is in cc);
      }

-- an inverter at its floor, to which nothing is on its way
pub follows_fresh : (book : BookRecord) (inverter now : ℕ) → book.entries ≡ [] → floor_raw_at book.site inverter ≡ 100 → Follows [] book inverter now (link_number inverter book.entries) fresh
unfolding link_number requests pending_read last_that held
follows_fresh book inverter now empty floor =
    let history = commissioned [] book in
    let none : sights history ≡ [] = subst (λ (es : List Entry). sights (commissioned [] (record book { entries = es })) ≡ []) (sym empty) refl in
    record {
      events = [];
      does = record {
        start = start_empty history inverter;
        until = tt;
        once = λ sight within mine. let never = subst (λ (ss : List Sight). Contains ss sight) none within in absurd (omega (arith, never.1));
        holds = floor;
        timer = λ at grant is. absurd cc;
      };
      queue = record { sent = tt; under_way = tt; in_order = tt; old_writes = tt; old_in_order = tt };
      pending = λ read is. absurd (let never = ap (pending_read inverter) (sym empty) ∙ is in cc);
    }
