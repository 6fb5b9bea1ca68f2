-- What the replies to a simulated inverter's calls make of what it did so far.
use Rattle.std.proofs.Common.{◌≡◌, ℕ, ◌+◌, ◌≤◌, Bool, true, false, cond, List, [], ◌∷◌, ◌++◌, length, drop, map, Option, Some, None, refl, sym, ap, subst, ◌∙◌, arith, inl, inr, ◌⊎◌}
use Rattle.std.specs.Prelude.{Contains}
use Rattle.std.specs.List.{AllByRecursion}
use Rattle.std.proofs.lemmas.Bool.{cases_Bool, eq-eqb, eqb-true, le-ltb}
use Rattle.std.proofs.lemmas.List.{append-nil}
use Rattle.std.proofs.lemmas.List.Elements.{Contains-push, Contains-append_right}
use Rattle.plant_book.specs.declared.call.Call.TheVariants as calls
use Rattle.plant_book.specs.declared.call.Reply.{Reply}
use Rattle.plant_book.specs.declared.call.Reply.TheVariants as replies
use Rattle.plant_book.specs.declared.call.Write as writes
use Rattle.plant_book.specs.declared.call.Read as reads
use Rattle.plant_book.specs.declared.book.Entry.{Entry}
use Rattle.plant_book.specs.Book.{BookRecord}
use Rattle.plant_book.specs.Requests.{link_number, grants_to, requests, is_seen, pending_read}
use Rattle.plant_book.specs.Writes.{granted}
use Rattle.plant_book.specs.Answer.{reply_to_ask, reply_by_policy, reply_by_watts, reply_to_read, reply_to_saw, write_at, silent_until, is_pending}
use Rattle.plant_book.specs.Policy.{target_at}
use Rattle.plant_book.specs.Reserved.{unreserved_at}
use Rattle.plant_book.specs.Site.{full_at, raw_at}
use Rattle.plant_book.specs.History.{Grant, Sight, grants, sights, sight_of, sight_by}
use Rattle.plant_book.specs.Behaviour.{Look, Timed}
use Rattle.plant_book.proofs.Maxima.{only_element}
use Rattle.plant_simulator.specs.declared.inverter.Request.{Request}
use Rattle.plant_simulator.specs.declared.inverter.Request.TheVariants as sent
use Rattle.plant_simulator.specs.World.{InverterRecord}
use Rattle.plant_simulator.specs.Inverter.{requested, queued, without_first}
use Rattle.plant_simulator.proofs.Longer.{commissioned, made, number_of, grants_more, sights_more, grant_is_within, sight_is_within, none_after}
use Rattle.inverter_sim.specs.Following.{IsNewSight}
use Rattle.inverter_sim.proofs.Doing.{does_look}
use Rattle.plant_simulator.proofs.Queue.{number_in, AskedUpTo, Queue, queue_on}
use Rattle.plant_simulator.proofs.Moves.{IsOf, queue_asked, queue_rest}
use Rattle.plant_simulator.proofs.Follows.{PendingIn, stage_of, Follows, IsTimedSite, same_link, after, longer_after, sight_before, still_pending, goes_new, follows_other, follows_queued}
use Rattle.plant_simulator.proofs.Acting.{head, head_first, rest_first}

-- the reply to an Ask, or to a Read, makes no request, or the next one
record IsNone (one reply : Reply) : Type 0 where
  is : (requested reply ≡ []) ⊎ (reply ≡ one)

none_if : (one : Reply) (b : Bool) (x y : Reply) → IsNone one x → IsNone one y → IsNone one (cond b x y)
none_if one true x y first second = first
none_if one false x y first second = second

asked_makes : (book : BookRecord) (now inverter raw : ℕ) → IsNone (replies.Granted (write_at book now inverter raw)) (reply_to_ask book now inverter raw)
unfolding reply_to_ask reply_by_policy reply_by_watts
asked_makes book now inverter raw =
    let one = replies.Granted (write_at book now inverter raw) in
    none_if one _ replies.Unlinked _ (record { is = inl refl }) (none_if one _ replies.Spent _ (record { is = inl refl })
    (none_if one _ (replies.Over (full_at book.site inverter)) _ (record { is = inl refl }) (none_if one _ (replies.Silent (silent_until book)) _ (record { is = inl refl })
    (none_if one _ (replies.NotAllowed (raw_at book.site inverter (target_at book now inverter))) _ (record { is = inl refl })
    (none_if one _ (replies.NoWatts (unreserved_at book now)) _ (record { is = inl refl }) (none_if one _ replies.Crowded one (record { is = inl refl }) (record { is = inr refl })))))))

abbrev read_now : BookRecord → ℕ → ℕ → reads.Read
read_now book now inverter = record { inverter = inverter; link = link_number inverter book.entries; number = requests inverter book.entries + 1; at = now }

read_makes : (book : BookRecord) (now inverter : ℕ) → IsNone (replies.ReadAs (read_now book now inverter)) (reply_to_read book now inverter)
unfolding reply_to_read
read_makes book now inverter =
    let one = replies.ReadAs (read_now book now inverter) in
    none_if one _ replies.Unlinked _ (record { is = inl refl }) (none_if one _ replies.Spent one (record { is = inl refl }) (record { is = inr refl }))

module _ (earlier : List BookRecord) (book : BookRecord) (inverter now bound at : ℕ) (is_now : at ≡ now) (reply : Reply) (its : InverterRecord) (follows : Follows earlier book inverter now bound its) where
  -- nothing joins the line
  nothing_joins : (next : BookRecord) → requested reply ≡ [] → Follows earlier next inverter now bound its → Follows earlier next inverter now bound (queued reply its)
  unfolding queued
  nothing_joins next none same =
      subst (λ (more : List Request). Follows earlier next inverter now bound (record its { line = its.line ++ more })) (sym none)
      (subst (λ (line : List Request). Follows earlier next inverter now bound (record its { line = line })) (sym (append-nil its.line)) same)

  one_joins : (next : BookRecord) (request : Request) → requested reply ≡ request ∷ [] → Follows earlier next inverter now bound (record its { line = its.line ++ request ∷ [] }) → Follows earlier next inverter now bound (queued reply its)
  unfolding queued
  one_joins next request one with_it = subst (λ (more : List Request). Follows earlier next inverter now bound (record its { line = its.line ++ more })) (sym one) with_it

  module _ (raw : ℕ) (right : reply ≡ reply_to_ask book at inverter raw) where
    abbrev ask_entry : Entry
    ask_entry = record { call = calls.Ask at inverter raw; reply = reply }

    abbrev behind_ask : BookRecord
    behind_ask = after earlier book ask_entry (λ write. refl)

    ask_write : writes.Write
    ask_write = write_at book at inverter raw

    granted_here : reply ≡ replies.Granted (write_at book at inverter raw) → Contains (grants (commissioned earlier behind_ask)) (made (number_of earlier) (length book.entries) (write_at book at inverter raw))
    granted_here is =
        let grant = made (number_of earlier) (length book.entries) (write_at book at inverter raw) in
        let place : List writes.Write → List Grant = λ ws. map (made (number_of earlier) (length book.entries)) ws in
        let here : Contains (place (granted reply)) grant = subst (λ (r : Reply). Contains (place (granted r)) grant) (sym is) (Contains-push [] grant) in
        subst (λ (gs : List Grant). Contains gs grant) (sym (grants_more earlier book ask_entry (λ write. refl))) (Contains-append_right (grants (commissioned earlier book)) (place (granted reply)) grant here)

    pub follows_asked : Follows earlier behind_ask inverter now bound (queued reply its)
    follows_asked =
        let one = write_at book at inverter raw in
        let unseen : (sight : Sight) → Contains (sight_by (number_of earlier) (length book.entries) book.entries ask_entry.call reply) sight → sight.read.inverter ≡ inverter → ⊥ = λ sight within mine. absurd (omega (arith, within.1)) in
        elim ((subst (λ (r : Reply). IsNone (replies.Granted one) r) (sym right) (asked_makes book at inverter raw)).is) [
          | inl none ↦ nothing_joins behind_ask none (follows_other earlier book ask_entry (λ write. refl) inverter now bound right (omega (arith, is_now)) refl its follows unseen)
          | inr grants ↦
              one_joins behind_ask (sent.Write one) (ap requested grants)
              (follows_queued earlier book ask_entry (λ write. refl) inverter now bound right (omega (arith, is_now)) refl its follows unseen (sent.Write one)
              (subst (λ (r : Reply). grants_to inverter r ≡ true) (sym grants) (eq-eqb inverter inverter refl)) refl
              (record { place = length book.entries; granted = granted_here grants; from = omega arith; its = refl; at = omega (arith, is_now) }, sym (same_link inverter book.entries ask_entry refl))
              (le-ltb (at + 5000) now (omega (arith, is_now))))
        ]

  module _ (right : reply ≡ reply_to_read book at inverter) where
    abbrev read_entry : Entry
    read_entry = record { call = calls.Read at inverter; reply = reply }

    abbrev behind_read : BookRecord
    behind_read = after earlier book read_entry (λ write. refl)

    pub follows_read : Follows earlier behind_read inverter now bound (queued reply its)
    follows_read =
        let one = read_now book at inverter in
        let unseen : (sight : Sight) → Contains (sight_by (number_of earlier) (length book.entries) book.entries read_entry.call reply) sight → sight.read.inverter ≡ inverter → ⊥ = λ sight within mine. absurd (omega (arith, within.1)) in
        elim ((subst (λ (r : Reply). IsNone (replies.ReadAs one) r) (sym right) (read_makes book at inverter)).is) [
          | inl none ↦ nothing_joins behind_read none (follows_other earlier book read_entry (λ write. refl) inverter now bound right (omega (arith, is_now)) refl its follows unseen)
          | inr reads ↦
              one_joins behind_read (sent.Read one) (ap requested reads)
              (follows_queued earlier book read_entry (λ write. refl) inverter now bound right (omega (arith, is_now)) refl its follows unseen (sent.Read one)
              (subst (λ (r : Reply). grants_to inverter r ≡ true) (sym reads) (eq-eqb inverter inverter refl)) refl tt refl)
        ]

-- a Saw that is answered is one of the pending read
record PendingAs (pending : Option reads.Read) (number : ℕ) : Type 0 where
  read : reads.Read
  is : pending ≡ Some read
  numbered : read.number ≡ number

pending_as : (pending : Option reads.Read) (number : ℕ) → is_pending pending number ≡ true → PendingAs pending number
pending_as None number is = absurd cc
pending_as (Some read) number is = record { read = read; is = refl; numbered = eqb-true read.number number is }

saw_pending : (book : BookRecord) (now inverter number raw : ℕ) → is_seen (reply_to_saw book now inverter number raw) ≡ true → PendingAs (pending_read inverter book.entries) number
unfolding reply_to_saw
saw_pending book now inverter number raw seen =
    elim (cases_Bool (is_pending (pending_read inverter book.entries) number)) [
      | inl is ↦ pending_as (pending_read inverter book.entries) number is
      | inr not_it ↦ absurd (let never = rw not_it at seen in cc)
    ]

-- and shows that read
sight_shows : (life place raw at : ℕ) (pending : Option reads.Read) (sight : Sight) → Contains (sight_of life place pending raw at) sight → pending ≡ Some sight.read
sight_shows life place raw at None sight within = absurd (omega (arith, within.1))
sight_shows life place raw at (Some read) sight within = ap (λ (s : Sight). Some s.read) (only_element (record { life = life; place = place; read = read; raw = raw; at = at }) sight within)

saw_shows : (b : Bool) (life place raw at : ℕ) (pending : Option reads.Read) (sight : Sight) → Contains (cond b (sight_of life place pending raw at) []) sight → pending ≡ Some sight.read
saw_shows true life place raw at pending sight within = sight_shows life place raw at pending sight within
saw_shows false life place raw at pending sight within = absurd (omega (arith, within.1))

pub saw_is_its : (earlier : List BookRecord) (book : BookRecord) (inverter now at number raw : ℕ) (reply : Reply) → PendingIn inverter book.entries now
    → (sight : Sight) → Contains (sight_by (number_of earlier) (length book.entries) book.entries (calls.Saw at inverter number raw) reply) sight → sight.read.inverter ≡ inverter
saw_is_its earlier book inverter now at number raw reply pending sight within =
    (pending sight.read (saw_shows (is_seen reply) (number_of earlier) (length book.entries) raw at (pending_read inverter book.entries) sight within)).its

module _ (earlier : List BookRecord) (book : BookRecord) (inverter now at number : ℕ) (is_now : at ≡ now) (timed : IsTimedSite book.site inverter) (its : InverterRecord) (follows : Follows earlier book inverter now (link_number inverter book.entries) its)
    (reply : Reply) (right : reply ≡ reply_to_saw book at inverter number its.held) where
  abbrev saw_entry : Entry
  saw_entry = record { call = calls.Saw at inverter number its.held; reply = reply }

  abbrev behind_saw : BookRecord
  behind_saw = after earlier book saw_entry (λ write. refl)

  -- it was refused
  pub saw_nothing : is_seen reply ≡ false → (line : List Request) → Follows earlier book inverter now (link_number inverter book.entries) (record its { line = line }) → Follows earlier behind_saw inverter now (link_number inverter behind_saw.entries) (record its { line = line })
  saw_nothing unseen line same =
      subst (λ (bound : ℕ). Follows earlier behind_saw inverter now bound (record its { line = line })) (sym (same_link inverter book.entries saw_entry refl))
      (follows_other earlier book saw_entry (λ write. refl) inverter now (link_number inverter book.entries) right (omega (arith, is_now)) refl (record its { line = line }) same
      (λ sight within mine. absurd (none_here sight within)))
    where
      none_here : (sight : Sight) → Contains (sight_by (number_of earlier) (length book.entries) book.entries (calls.Saw at inverter number its.held) reply) sight → ⊥
      none_here sight within = let none = rw unseen at within in omega (arith, none.1)

  module _ (seen : is_seen reply ≡ true) (read : reads.Read) (rest : List Request) (numbered : read.number ≡ number) (stand : its.line ≡ sent.Read read ∷ rest) where
    shown : PendingAs (pending_read inverter book.entries) number
    shown = saw_pending book at inverter number its.held (subst (λ (r : Reply). is_seen r ≡ true) right seen)

    the_sight : Sight
    the_sight = record { life = number_of earlier; place = length book.entries; read = shown.read; raw = its.held; at = at }

    the_look : Timed
    the_look = record { at = now; event = Look the_sight }

    seen_now : sight_by (number_of earlier) (length book.entries) book.entries saw_entry.call reply ≡ the_sight ∷ []
    unfolding the_sight
    seen_now = rw (seen, shown.is) refl

    is_in : Contains (sights (commissioned earlier behind_saw)) the_sight
    is_in =
        let new = sight_by (number_of earlier) (length book.entries) book.entries saw_entry.call reply in
        subst (λ (ss : List Sight). Contains ss the_sight) (sym (sights_more earlier book saw_entry (λ write. refl)))
        (Contains-append_right (sights (commissioned earlier book)) new the_sight (subst (λ (ss : List Sight). Contains ss the_sight) (sym seen_now) (Contains-push [] the_sight)))

    is_new : IsNewSight (commissioned earlier book) (commissioned earlier behind_saw) inverter the_sight
    unfolding the_sight
    is_new = record {
      longer = longer_after earlier book saw_entry (λ write. refl);
      seen = is_in;
      its = (follows.pending shown.read shown.is).its;
      other = λ one within life place. let before = sight_is_within earlier book one within in absurd (omega (arith, before.sooner life, place));
      only = λ one within. elim (sight_before earlier book saw_entry (λ write. refl) one within) [
        | inl before ↦ inl before
        | inr new ↦ inr (sym (only_element the_sight one (subst (λ (ss : List Sight). Contains ss one) seen_now new)))
      ];
      not_after = λ grant within. none_after the_sight grant (number_of earlier) (length book.entries) (grant_is_within earlier book grant within) refl refl;
    }

    look_is : IsOf the_look (number_of earlier) shown.read.link number
    unfolding the_look the_sight
    look_is = record { is = λ link other asked. (asked.0, sym shown.numbered ∙ asked.1) }

    saw : (line : List Request) → AllByRecursion (λ other. number ≤ number_in other) line → Queue (stage_of earlier book inverter now (link_number inverter book.entries)) follows.events line its.strays
        → Follows earlier behind_saw inverter now (link_number inverter behind_saw.entries) (record its { line = line })
    unfolding the_look the_sight
    saw line later queue =
        let stage = stage_of earlier book inverter now (link_number inverter book.entries) in
        let way = head earlier book inverter now timed its follows (sent.Read read) rest stand in
        let pending = follows.pending shown.read shown.is in
        let until : at ≤ now = omega (arith, is_now) in
        let looked = queue_asked the_look (number_of earlier) shown.read.link number look_is stage follows.events line its.strays refl pending.link (omega arith) (omega (arith, way.high, numbered)) later queue in
        let low = subst (λ (link : ℕ). AllByRecursion (AskedUpTo (number_of earlier, link) shown.read.number) follows.events) (sym pending.link)
        (subst (λ (n : ℕ). AllByRecursion (AskedUpTo (number_of earlier, link_number inverter book.entries) n) follows.events) (numbered ∙ sym shown.numbered) way.low) in
        subst (λ (bound : ℕ). Follows earlier behind_saw inverter now bound (record its { line = line })) (sym (same_link inverter book.entries saw_entry refl))
        (record {
          events = follows.events ++ the_look ∷ [];
          does = does_look (commissioned earlier book) (commissioned earlier behind_saw) inverter now its.held its.due follows.events follows.does the_sight is_new pending.at (omega (arith, is_now)) refl low;
          queue = queue_on stage (stage_of earlier behind_saw inverter now (link_number inverter book.entries)) (goes_new earlier book saw_entry (λ write. refl) inverter now (link_number inverter book.entries) right until refl)
              (follows.events ++ the_look ∷ []) line its.strays looked;
          pending = still_pending earlier book saw_entry (λ write. refl) inverter now (link_number inverter book.entries) right until refl its follows;
        })

    pub saw_kept : Follows earlier behind_saw inverter now (link_number inverter behind_saw.entries) its
    saw_kept = saw its.line (subst (λ (n : ℕ). AllByRecursion (λ other. n ≤ number_in other) its.line) numbered (head_first earlier book inverter now timed its follows (sent.Read read) rest stand)) follows.queue

    pub saw_first : Follows earlier behind_saw inverter now (link_number inverter behind_saw.entries) (without_first its)
    unfolding without_first
    saw_first = saw (drop 1 its.line) (subst (λ (n : ℕ). AllByRecursion (λ other. n ≤ number_in other) (drop 1 its.line)) numbered (rest_first earlier book inverter now timed its follows (sent.Read read) rest stand))
        (queue_rest (stage_of earlier book inverter now (link_number inverter book.entries)) follows.events its.line its.strays follows.queue)
