-- What the reply to a call does to an inverter's live writes, by the definition and by the list.
use Rattle.std.proofs.Common.{◌≡◌, ℕ, Bool, true, false, cond, not, ◌&&◌, ◌||◌, eqb, leb, ltb, List, [], ◌++◌, length, Option, Some, None, refl, sym, ap, ◌∙◌, arith, inl, inr}
use Rattle.std.specs.Prelude.{filter}
use Rattle.std.specs.List.{list_any}
use Rattle.std.proofs.lemmas.Bool.{cases_Bool, eqb-true, eq-eqb, ne_eqb, eqb-false, le-leb, and_parts}
use Rattle.std.proofs.lemmas.List.{append-nil}
use Rattle.limiter_num.specs.declared.rules.Rules.{Rules}
use Rattle.limiter_num.specs.Timers.{last_moment}
use Rattle.plant_book.specs.declared.call.Call.{Call}
use Rattle.plant_book.specs.declared.call.Call.TheVariants as calls
use Rattle.plant_book.specs.declared.call.Reply.{Reply}
use Rattle.plant_book.specs.declared.call.Reply.TheVariants as replies
use Rattle.plant_book.specs.declared.call.Write as writes
use Rattle.plant_book.specs.declared.call.Read as reads
use Rattle.plant_book.specs.declared.call.TheConstants.{REQUESTS_MAX, LIVE_MAX}
use Rattle.plant_book.specs.declared.book.Entry.{Entry}
use Rattle.plant_book.specs.Site.{mw_at, full_at, floors}
use Rattle.plant_book.specs.Book.{BookRecord}
use Rattle.plant_book.specs.Calls.{moment}
use Rattle.plant_book.specs.Requests.{link_number, requests, pending_read}
use Rattle.plant_book.specs.Writes.{granted, frees, is_numbered, ends_by, is_current, live}
use Rattle.plant_book.specs.Reserved.{unreserved_at}
use Rattle.plant_book.specs.Policy.{target_at}
use Rattle.plant_book.specs.Answer.{reply_to, reply_to_ask, reply_by_policy, reply_by_watts, reply_to_read, reply_to_saw, reply_to_back, reply_to_cap, raise_at, write_at, silent_until, is_pending}
use Rattle.plant_book.specs.Answered.{with_entries}
use Rattle.uncertain_writes.specs.Live.{has_numbers, without}
use Rattle.uncertain_writes.specs.Calls.{after_reply}
use Rattle.uncertain_writes.proofs.Lists.{filter_all, filter-swap}
use Rattle.uncertain_writes.proofs.Pending.{PendsOwn}

-- what holds of both replies holds of the one that is chosen
pub by_cond : (P : Reply → Type 0) (b : Bool) (x y : Reply) → P x → P y → P (cond b x y)
by_cond P true x y px py = px
by_cond P false x y px py = py

-- a test with one that fails is passed alike by none
and_no : (a b c d : Bool) → a ≡ false → c ≡ false → (a && b) ≡ (c && d)
and_no a b c d first second = rw (first, second) refl

-- Of the writes that stood, those that the reply leaves and that are current at its moment, and the grant, are the list
-- after the reply.
pub record IsFollowed (rules : Rules) (before : List Entry) (inverter at : ℕ) (all : List writes.Write) (call : Call) (reply : Reply) : Type 0 where
  pub is : after_reply rules inverter (pending_read inverter before) call reply (filter (is_current rules at inverter) all)
      ≡ filter (is_current rules at inverter) (filter (λ write. not (ends_by rules before call reply write)) all) ++ filter (is_current rules at inverter) (granted reply)

module _ (book : BookRecord) (before : List Entry) (inverter at : ℕ) (all : List writes.Write) (pends : PendsOwn before) where
  -- a call that ends nothing and grants nothing
  unchanged : filter (is_current book.site.rules at inverter) all
      ≡ filter (is_current book.site.rules at inverter) (filter (λ write. not false) all) ++ []
  unchanged =
      sym (append-nil (filter (is_current book.site.rules at inverter) (filter (λ write. not false) all)) ∙ ap (filter (is_current book.site.rules at inverter)) (filter_all (λ write. not false) (λ write. refl) all))

  -- a call that ends those of the inverter's writes that a test finds
  dropped : (found ended : writes.Write → Bool) → ((write : writes.Write) → write.inverter ≡ inverter → ended write ≡ found write)
      → without found (filter (is_current book.site.rules at inverter) all)
      ≡ filter (is_current book.site.rules at inverter) (filter (λ write. not (ended write)) all) ++ []
  dropped found ended agree =
      sym (append-nil (filter (is_current book.site.rules at inverter) (filter (λ write. not (ended write)) all))
      ∙ filter-swap (is_current book.site.rules at inverter) (λ write. not (ended write)) (λ write. not (found write))
      (λ write is. ap not (agree write (eqb-true write.inverter inverter (and_parts (eqb write.inverter inverter) (leb at (last_moment book.site.rules write.at)) is).0))) all)

  -- a call that ends none of the inverter's writes
  spared : (ended : writes.Write → Bool) → ((write : writes.Write) → write.inverter ≡ inverter → ended write ≡ false)
      → filter (is_current book.site.rules at inverter) all
      ≡ filter (is_current book.site.rules at inverter) (filter (λ write. not (ended write)) all) ++ []
  spared ended none =
      sym (filter_all (λ write. not false) (λ write. refl) (filter (is_current book.site.rules at inverter) all)) ∙ dropped (λ write. false) ended none

  -- a grant
  followed_grant : (other raw : ℕ) (write : writes.Write) → write.inverter ≡ other → write.at ≡ at → IsFollowed book.site.rules before inverter at all (calls.Ask at other raw) (replies.Granted write)
  followed_grant other raw write its at_once =
      let same = ap (filter (is_current book.site.rules at inverter)) (filter_all (λ w. not false) (λ w. refl) all) in
      elim (cases_Bool (eqb other inverter)) [
        | inl own ↦
            let late : leb at (last_moment book.site.rules write.at) ≡ true = le-leb at (last_moment book.site.rules write.at) (omega arith) in
            let ours : eqb write.inverter inverter ≡ true = ap (λ (i : ℕ). eqb i inverter) its ∙ own in
            record { is = rw (own, ours, late, same) refl }
        | inr another ↦
            let ours : eqb write.inverter inverter ≡ false = ap (λ (i : ℕ). eqb i inverter) its ∙ another in
            record { is = rw (another, ours, same) (sym (append-nil (filter (is_current book.site.rules at inverter) all))) }
      ]

  followed_by_watts : (other raw : ℕ) → IsFollowed book.site.rules before inverter at all (calls.Ask at other raw) (reply_by_watts (with_entries book before) at other raw)
  unfolding reply_by_watts
  followed_by_watts other raw =
      let P : Reply → Type 0 = IsFollowed book.site.rules before inverter at all (calls.Ask at other raw) in
      let old = with_entries book before in
      by_cond P (ltb (unreserved_at old at) (raise_at old at other raw)) _ _ (record { is = unchanged })
      (by_cond P (leb LIVE_MAX (length (live book.site.rules before at other))) _ _ (record { is = unchanged }) (followed_grant other raw (write_at old at other raw) refl refl))

  followed_by_policy : (other raw : ℕ) → IsFollowed book.site.rules before inverter at all (calls.Ask at other raw) (reply_by_policy (with_entries book before) at other raw)
  unfolding reply_by_policy
  followed_by_policy other raw =
      let P : Reply → Type 0 = IsFollowed book.site.rules before inverter at all (calls.Ask at other raw) in
      let old = with_entries book before in
      by_cond P (ltb (full_at book.site other) raw) _ _ (record { is = unchanged })
      (by_cond P (leb at (silent_until old)) _ _ (record { is = unchanged })
      (by_cond P (ltb (target_at old at other) (mw_at book.site other raw)) _ _ (record { is = unchanged }) (followed_by_watts other raw)))

  followed_ask : (other raw : ℕ) → IsFollowed book.site.rules before inverter at all (calls.Ask at other raw) (reply_to_ask (with_entries book before) at other raw)
  unfolding reply_to_ask
  followed_ask other raw =
      let P : Reply → Type 0 = IsFollowed book.site.rules before inverter at all (calls.Ask at other raw) in
      by_cond P (eqb (link_number other before) 0) _ _ (record { is = unchanged })
      (by_cond P (leb REQUESTS_MAX (requests other before)) _ _ (record { is = unchanged }) (followed_by_policy other raw))

  followed_read : (other : ℕ) → IsFollowed book.site.rules before inverter at all (calls.Read at other) (reply_to_read (with_entries book before) at other)
  unfolding reply_to_read
  followed_read other =
      let P : Reply → Type 0 = IsFollowed book.site.rules before inverter at all (calls.Read at other) in
      by_cond P (eqb (link_number other before) 0) _ _ (record { is = unchanged })
      (by_cond P (leb REQUESTS_MAX (requests other before)) _ _ (record { is = unchanged }) (record { is = unchanged }))

  -- a pending read of another inverter frees none of this one's writes
  frees_own : (other raw : ℕ) (pending : Option reads.Read) (write : writes.Write) → ((read : reads.Read) → pending ≡ Some read → read.inverter ≡ other)
      → eqb other inverter ≡ false → write.inverter ≡ inverter → frees book.site.rules pending raw write ≡ false
  frees_own other raw None write own another its = refl
  frees_own other raw (Some read) write own another its =
      let apart : eqb write.inverter read.inverter ≡ false = ne_eqb write.inverter read.inverter (λ same. eqb-false other inverter another (sym (own read refl) ∙ sym same ∙ its)) in
      rw apart refl

  -- a Saw that frees
  followed_freed : (other number raw count reserved : ℕ) → IsFollowed book.site.rules before inverter at all (calls.Saw at other number raw) (replies.Freed count reserved)
  followed_freed other number raw count reserved =
      elim (cases_Bool (eqb other inverter)) [
        | inl own ↦ record {
          is = rw own (dropped (frees book.site.rules (pending_read inverter before) raw) (frees book.site.rules (pending_read other before) raw)
              (λ write its. ap (λ (i : ℕ). frees book.site.rules (pending_read i before) raw write) (eqb-true other inverter own)));
        }
        | inr another ↦ record {
          is = rw another (spared (frees book.site.rules (pending_read other before) raw)
              (λ write its. frees_own other raw (pending_read other before) write (pends.own other) another its));
        }
      ]

  -- a Saw that is strange
  followed_strange : (other number raw : ℕ) → IsFollowed book.site.rules before inverter at all (calls.Saw at other number raw) (replies.Strange raw)
  followed_strange other number raw = record { is = unchanged }

  followed_saw : (other number raw : ℕ) → IsFollowed book.site.rules before inverter at all (calls.Saw at other number raw) (reply_to_saw (with_entries book before) at other number raw)
  unfolding reply_to_saw
  followed_saw other number raw =
      let P : Reply → Type 0 = IsFollowed book.site.rules before inverter at all (calls.Saw at other number raw) in
      by_cond P (not (is_pending (pending_read other before) number)) _ _ (record { is = unchanged })
      (by_cond P _ _ _ (followed_strange other number raw) (followed_freed other number raw _ _))

  -- Numbers name a write of this inverter, and none of it where they are of another.
  numbered_own : (other link number : ℕ) (write : writes.Write) → eqb other inverter ≡ true → write.inverter ≡ inverter → is_numbered other link number write ≡ has_numbers link number write
  numbered_own other link number write own its =
      let ours : eqb write.inverter other ≡ true = eq-eqb write.inverter other (its ∙ sym (eqb-true other inverter own)) in
      rw ours refl

  numbered_other : (other link number : ℕ) (write : writes.Write) → eqb other inverter ≡ false → write.inverter ≡ inverter → is_numbered other link number write ≡ false
  numbered_other other link number write another its =
      let apart : eqb write.inverter other ≡ false = ne_eqb write.inverter other (λ same. eqb-false other inverter another (sym same ∙ its)) in
      rw apart refl

  -- a Back of a live write
  followed_taken : (other link number : ℕ) → IsFollowed book.site.rules before inverter at all (calls.Back at other link number) replies.Taken
  followed_taken other link number =
      elim (cases_Bool (eqb other inverter)) [
        | inl own ↦ record { is = rw own (dropped (has_numbers link number) (is_numbered other link number) (λ write its. numbered_own other link number write own its)) }
        | inr another ↦ record { is = rw another (spared (is_numbered other link number) (λ write its. numbered_other other link number write another its)) }
      ]

  followed_back : (other link number : ℕ) → IsFollowed book.site.rules before inverter at all (calls.Back at other link number) (reply_to_back (with_entries book before) at other link number)
  unfolding reply_to_back
  followed_back other link number =
      let P : Reply → Type 0 = IsFollowed book.site.rules before inverter at all (calls.Back at other link number) in
      by_cond P (list_any (is_numbered other link number) (live book.site.rules before at other)) _ _ (followed_taken other link number) (record { is = unchanged })

  -- a Cap changes no write
  followed_cap : (watts : ℕ) → IsFollowed book.site.rules before inverter at all (calls.Cap at watts) (reply_to_cap (with_entries book before) at watts)
  unfolding reply_to_cap
  followed_cap watts =
      let P : Reply → Type 0 = IsFollowed book.site.rules before inverter at all (calls.Cap at watts) in
      by_cond P (ltb watts (floors book.site) || ltb book.site.cap watts) _ _ (record { is = unchanged }) (record { is = unchanged })

-- the list after a call that is answered
pub followed : (book : BookRecord) (before : List Entry) (inverter : ℕ) (all : List writes.Write) → PendsOwn before → (call : Call)
    → IsFollowed book.site.rules before inverter (moment call) all call (reply_to (with_entries book before) call)
followed book before inverter all pends (calls.Link at other) = record { is = unchanged book before inverter at all pends }
followed book before inverter all pends (calls.Ask at other raw) = followed_ask book before inverter at all pends other raw
followed book before inverter all pends (calls.Read at other) = followed_read book before inverter at all pends other
followed book before inverter all pends (calls.Saw at other number raw) = followed_saw book before inverter at all pends other number raw
followed book before inverter all pends (calls.Back at other link number) = followed_back book before inverter at all pends other link number
followed book before inverter all pends (calls.Want at other mw) = record { is = unchanged book before inverter at all pends }
followed book before inverter all pends (calls.Tick at) = record { is = unchanged book before inverter at all pends }
followed book before inverter all pends (calls.Stop at) = record { is = unchanged book before inverter at all pends }
followed book before inverter all pends (calls.Cap at watts) = followed_cap book before inverter at all pends watts
