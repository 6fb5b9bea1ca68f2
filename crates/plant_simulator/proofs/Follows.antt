-- What a simulated inverter did and holds, with what is on its way to it, and what each call makes of it.
use Rattle.std.proofs.Common.{◌≡◌, ℕ, ◌+◌, ◌≤◌, Bool, true, false, cond, eqb, leb, List, [], ◌∷◌, ◌++◌, length, map, Option, Some, None, refl, sym, ap, subst, ◌∙◌, arith, inl, inr, ◌⊎◌}
use Rattle.std.specs.Prelude.{Contains}
use Rattle.std.proofs.lemmas.Bool.{cases_Bool, eq-eqb, leb-true, leb-false}
use Rattle.std.proofs.lemmas.List.{append-nil}
use Rattle.std.proofs.lemmas.List.Elements.{Contains-append_cases, Contains-append_left}
use Rattle.limiter_num.specs.Timers.{tmin, tmax, last_act}
use Rattle.plant_book.specs.declared.call.Call.{Call}
use Rattle.plant_book.specs.declared.call.Call.TheVariants as calls
use Rattle.plant_book.specs.declared.call.Reply.{Reply}
use Rattle.plant_book.specs.declared.call.Reply.TheVariants as replies
use Rattle.plant_book.specs.declared.call.Read as reads
use Rattle.plant_book.specs.declared.call.TheConstants.{REQUESTS_MAX}
use Rattle.plant_book.specs.declared.book.Entry.{Entry}
use Rattle.plant_book.specs.Site.{SiteRecord, floor_raw_at}
use Rattle.plant_book.specs.Book.{BookRecord}
use Rattle.plant_book.specs.Calls.{moment}
use Rattle.plant_book.specs.Requests.{links_to, is_link, link_number, grants_to, is_request, requests, changes_by, changes_pending, read_of, pending_after, pending_read}
use Rattle.plant_book.specs.Writes.{grant_of}
use Rattle.plant_book.specs.Answer.{reply_to, reply_to_read}
use Rattle.plant_book.specs.Answered.{with_entries}
use Rattle.plant_book.specs.History.{History, Grant, Sight, grants, sights, sight_by}
use Rattle.plant_book.specs.Behaviour.{Revert, Timed}
use Rattle.plant_book.proofs.Granting.{rest_of}
use Rattle.plant_book.proofs.Steps.{count_by-push, last_that-push, requests-push}
use Rattle.plant_book.proofs.Numbers.{request_is_no_link, read_is_at, read_inverter}
use Rattle.plant_simulator.specs.declared.inverter.Request.{Request}
use Rattle.plant_simulator.specs.declared.inverter.OldWrite.{OldWrite}
use Rattle.plant_simulator.specs.World.{InverterRecord}
use Rattle.plant_simulator.specs.Inverter.{reverted, is_late_request, inverter_at}
use Rattle.plant_simulator.proofs.Longer.{commissioned, made, KeepsAll, number_of, grants_more, sights_more}
use Rattle.inverter_sim.specs.Following.{IsLonger, HasFollowed, revert_by}
use Rattle.inverter_sim.proofs.Doing.{does_pass, does_longer}
use Rattle.plant_simulator.proofs.Queue.{number_in, Stage, IsOfGrant, Queue, GoesOn, queue_on, queue_timely}
use Rattle.plant_simulator.proofs.Moves.{queue_reverted, queue_push}

-- a pending read
pub record IsPending (inverter on now : ℕ) (read : reads.Read) : Type 0 where
  pub its : read.inverter ≡ inverter
  pub link : read.link ≡ on
  pub at : read.at ≤ now

abbrev pub PendingIn : ℕ → List Entry → ℕ → Type 0
PendingIn inverter entries now = (read : reads.Read) → pending_read inverter entries ≡ Some read → IsPending inverter (link_number inverter entries) now read

abbrev pub stage_of : List BookRecord → BookRecord → ℕ → ℕ → ℕ → Stage
stage_of earlier book inverter now bound = record {
  history = commissioned earlier book;
  inverter = inverter;
  now = now;
  clock = now;
  lives = number_of earlier;
  link = link_number inverter book.entries;
  requests = requests inverter book.entries;
  bound = bound;
}

-- An inverter behind these lives, and this book of the last one: what it did so far, as the timed device does it, what it
-- holds, and what is on its way to it.
pub record Follows (earlier : List BookRecord) (book : BookRecord) (inverter now bound : ℕ) (its : InverterRecord) : Type 0 where
  pub events : List Timed
  pub does : HasFollowed (commissioned earlier book) inverter now its.held its.due events
  pub queue : Queue (stage_of earlier book inverter now bound) events its.line its.strays
  pub pending : PendingIn inverter book.entries now

-- what is known of the site
pub record IsTimedSite (site : SiteRecord) (inverter : ℕ) : Type 0 where
  pub floor : floor_raw_at site inverter ≡ 100
  pub low : tmin site.rules ≡ 58300
  pub high : tmax site.rules ≡ 61700
  pub last : (at : ℕ) → last_act site.rules at ≡ at + 5000

-- time passes
module _ (earlier : List BookRecord) (book : BookRecord) (inverter now later bound : ℕ) (timed : IsTimedSite book.site inverter) (le : now ≤ later) where
  abbrev passing : Stage
  passing = record (stage_of earlier book inverter now bound) { now = later }

  -- the same without what is too late
  record Passing (its : InverterRecord) : Type 0 where
    events : List Timed
    does : HasFollowed (commissioned earlier book) inverter later its.held its.due events
    queue : Queue passing events its.line its.strays

  longer_same : IsLonger (commissioned earlier book) (commissioned earlier book)
  longer_same = record { site = refl; grants = λ grant within. within; sights = λ sight within. within }

  passes_on : GoesOn (stage_of earlier book inverter now bound) passing
  passes_on = record { longer = longer_same; inverter = refl; now = le; clock = refl; lives = refl; link = refl; requests = omega arith; bound = omega arith }

  -- what reverted at most is no request
  queue_passed : (due : Option ℕ) (events : List Timed) (line : List Request) (strays : List OldWrite) → Queue passing events line strays → Queue passing (events ++ revert_by later due) line strays
  queue_passed None events line strays queue = rw (append-nil events) queue
  queue_passed (Some due) events line strays queue =
      elim (cases_Bool (leb due later)) [
        | inl early ↦ rw early (queue_reverted passing events due line strays queue)
        | inr late ↦ rw (late, append-nil events) queue
      ]

  passing_reverted : (its : InverterRecord) → Follows earlier book inverter now bound its → Passing (reverted later its)
  passing_reverted its follows =
      let queue = queue_on (stage_of earlier book inverter now bound) passing passes_on follows.events its.line its.strays follows.queue in
      record {
        events = follows.events ++ revert_by later its.due;
        does = rw (← timed.floor) (does_pass (commissioned earlier book) inverter now later follows.events le its.held its.due follows.does);
        queue = queue_passed its.due follows.events its.line its.strays queue;
      }

  pub follows_at : (its : InverterRecord) → Follows earlier book inverter now bound its → Follows earlier book inverter later bound (inverter_at later its)
  unfolding inverter_at
  follows_at its follows =
      let passed = passing_reverted its follows in
      record {
        events = passed.events;
        does = passed.does;
        queue = queue_timely passing passed.events later (reverted later its).line (reverted later its).strays passed.queue;
        pending = λ read is. let was = follows.pending read is in record { its = was.its; link = was.link; at = omega (arith, was.at, le) };
      }

-- what one more entry makes of the pending read
link_number-push : (inverter : ℕ) (entries : List Entry) (entry : Entry) → link_number inverter (entries ++ entry ∷ []) ≡ link_number inverter entries + cond (is_link inverter entry) 1 0
unfolding link_number
link_number-push inverter entries entry = count_by-push (is_link inverter) entries entry

pub same_link : (inverter : ℕ) (entries : List Entry) (entry : Entry) → is_link inverter entry ≡ false → link_number inverter (entries ++ entry ∷ []) ≡ link_number inverter entries
same_link inverter entries entry other = link_number-push inverter entries entry ∙ rw other (omega arith)

pub next_link : (inverter : ℕ) (entries : List Entry) (entry : Entry) → is_link inverter entry ≡ true → link_number inverter (entries ++ entry ∷ []) ≡ link_number inverter entries + 1
next_link inverter entries entry link = link_number-push inverter entries entry ∙ rw link refl

read_reply : (reply : Reply) (read : reads.Read) → read_of reply ≡ Some read → reply ≡ replies.ReadAs read
read_reply (replies.ReadAs made) read is = ap (λ (r : reads.Read). replies.ReadAs r) (alike made read is)
  where
    alike : (a b : reads.Read) → Some a ≡ Some b → a ≡ b
    alike a b is = cc
read_reply _ read is = absurd cc

read_alike : (a b : reads.Read) → replies.ReadAs a ≡ replies.ReadAs b → a ≡ b
read_alike a b is = cc

read_at_moment : (book : BookRecord) (now inverter : ℕ) (read : reads.Read) → reply_to_read book now inverter ≡ replies.ReadAs read → read.at ≡ now
unfolding reply_to_read
read_at_moment book now inverter read is =
    let linked = rest_of (eqb (link_number inverter book.entries) 0) _ _ (replies.ReadAs read) (λ other. cc) is in
    let left = rest_of (leb REQUESTS_MAX (requests inverter book.entries)) _ _ (replies.ReadAs read) (λ other. cc) linked.1 in
    sym (ap (λ (r : reads.Read). r.at) (read_alike _ read left.1))

false_either_way : (b : Bool) → cond b false false ≡ true → ⊥
false_either_way true is = cc
false_either_way false is = cc

read_moment : (inverter : ℕ) (book : BookRecord) (call : Call) (reply : Reply) (read : reads.Read) → reply ≡ reply_to book call → changes_by inverter call reply ≡ true → reply ≡ replies.ReadAs read → read.at ≡ moment call
read_moment inverter book (calls.Link at other) reply read right changes is = absurd (let never = sym right ∙ is in cc)
read_moment inverter book (calls.Read at other) reply read right changes is = read_at_moment book at other read (sym right ∙ is)
read_moment inverter book (calls.Saw at other number raw) reply read right changes is =
    absurd (false_either_way (eqb other inverter) (subst (λ (r : Reply). changes_by inverter (calls.Saw at other number raw) r ≡ true) is changes))
read_moment inverter book _ reply read right changes is = absurd cc

no_change_no_link : (inverter : ℕ) (call : Call) (reply : Reply) → changes_by inverter call reply ≡ false → links_to inverter call ≡ false
no_change_no_link inverter (calls.Link at other) reply is = is
no_change_no_link inverter _ reply is = refl

pub pending_next : (inverter : ℕ) (book : BookRecord) (entry : Entry) (now : ℕ) → entry.reply ≡ reply_to book entry.call → moment entry.call ≤ now → PendingIn inverter book.entries now → PendingIn inverter (book.entries ++ entry ∷ []) now
unfolding pending_read
pending_next inverter book entry now right until was read is =
    let pushed = ap pending_after (last_that-push (changes_pending inverter) book.entries entry) in
    elim (cases_Bool (changes_pending inverter entry)) [
      | inl changes ↦
          let reply = read_reply entry.reply read (rw changes at (sym pushed ∙ is)) in
          let its = read_inverter inverter book entry.call entry.reply read right changes reply in
          let grants : grants_to inverter entry.reply ≡ true = subst (λ (r : Reply). grants_to inverter r ≡ true) (sym reply) (eq-eqb read.inverter inverter its) in
          let no_link = request_is_no_link inverter book entry.call entry.reply right grants in
          let at = read_is_at book entry.call read (sym right ∙ reply) in
          record {
            its = its;
            link = at.link ∙ ap (λ (i : ℕ). link_number i book.entries) its ∙ sym (same_link inverter book.entries entry no_link);
            at = omega (arith, read_moment inverter book entry.call entry.reply read right changes reply, until);
          }
      | inr stays ↦
          let before = was read (rw stays at (sym pushed ∙ is)) in
          record { its = before.its; link = before.link ∙ sym (same_link inverter book.entries entry (no_change_no_link inverter entry.call entry.reply stays)); at = before.at }
    ]

-- one more entry
module _ (earlier : List BookRecord) (book : BookRecord) (entry : Entry) (keeps : KeepsAll entry) where
  abbrev pub after : BookRecord
  after = with_entries book (book.entries ++ entry ∷ [])

  abbrev old_history : History
  old_history = commissioned earlier book

  abbrev new_history : History
  new_history = commissioned earlier after

  abbrev seen_now : List Sight
  seen_now = sight_by (number_of earlier) (length book.entries) book.entries entry.call entry.reply

  pub longer_after : IsLonger old_history new_history
  longer_after = record {
    site = refl;
    grants = λ grant within. subst (λ (gs : List Grant). Contains gs grant) (sym (grants_more earlier book entry keeps)) (Contains-append_left (grants old_history) (map (made (number_of earlier) (length book.entries)) (grant_of entry)) grant within);
    sights = λ sight within. subst (λ (ss : List Sight). Contains ss sight) (sym (sights_more earlier book entry keeps)) (Contains-append_left (sights old_history) seen_now sight within);
  }

  pub sight_before : (sight : Sight) → Contains (sights new_history) sight → Contains (sights old_history) sight ⊎ Contains seen_now sight
  sight_before sight within = Contains-append_cases (sights old_history) seen_now sight (subst (λ (ss : List Sight). Contains ss sight) (sights_more earlier book entry keeps) within)

  module _ (inverter now bound : ℕ) (right : entry.reply ≡ reply_to book entry.call) (until : moment entry.call ≤ now) (no_link : is_link inverter entry ≡ false) where
    abbrev old_stage : Stage
    old_stage = stage_of earlier book inverter now bound

    abbrev new_stage : Stage
    new_stage = stage_of earlier after inverter now bound

    -- the new history, with the requests so far
    abbrev mid_stage : Stage
    mid_stage = record new_stage { requests = requests inverter book.entries }

    goes_mid : GoesOn old_stage mid_stage
    goes_mid = record { longer = longer_after; inverter = refl; now = omega arith; clock = refl; lives = refl; link = same_link inverter book.entries entry no_link; requests = omega arith; bound = omega arith }

    pub goes_new : GoesOn old_stage new_stage
    goes_new = record {
      longer = longer_after;
      inverter = refl;
      now = omega arith;
      clock = refl;
      lives = refl;
      link = same_link inverter book.entries entry no_link;
      requests = omega (arith, requests-push inverter book.entries entry no_link);
      bound = omega arith;
    }

    module _ (its : InverterRecord) (follows : Follows earlier book inverter now bound its) where
      pub still_pending : PendingIn inverter after.entries now
      still_pending = pending_next inverter book entry now right until follows.pending

      module _ (unseen : (sight : Sight) → Contains seen_now sight → sight.read.inverter ≡ inverter → ⊥) where
        still_does : HasFollowed new_history inverter now its.held its.due follows.events
        still_does = does_longer old_history new_history longer_after inverter now its.held its.due follows.events follows.does
            (λ sight within mine. elim (sight_before sight within) [ inl before ↦ before | inr new ↦ absurd (unseen sight new mine) ])

        -- a call that is none of the inverter's, or was refused
        pub follows_other : Follows earlier after inverter now bound its
        follows_other = record {
          events = follows.events;
          does = still_does;
          queue = queue_on old_stage new_stage goes_new follows.events its.line its.strays follows.queue;
          pending = still_pending;
        }

        -- a request that joins the line
        pub follows_queued : (request : Request) → is_request inverter entry ≡ true → number_in request ≡ requests inverter book.entries + 1 → IsOfGrant mid_stage request → is_late_request now request ≡ false
            → Follows earlier after inverter now bound (record its { line = its.line ++ request ∷ [] })
        follows_queued request counts number granted timely =
            let one_more : requests inverter book.entries + 1 ≡ requests inverter after.entries = sym (requests-push inverter book.entries entry no_link ∙ rw counts refl) in
            let queue = queue_on old_stage mid_stage goes_mid follows.events its.line its.strays follows.queue in
            record {
              events = follows.events;
              does = still_does;
              queue = subst (λ (n : ℕ). Queue (record new_stage { requests = n }) follows.events (its.line ++ request ∷ []) its.strays) one_more
                  (queue_push mid_stage follows.events its.line its.strays request number granted timely queue);
              pending = still_pending;
            }
