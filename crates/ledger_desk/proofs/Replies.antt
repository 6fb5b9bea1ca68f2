-- The reply that a book asks for is one that the call may have.
use Rattle.std.proofs.Common.{ℕ, ◌+◌, Bool, true, false, not, ◌||◌, length, refl}
use Rattle.std.specs.Prelude.{if◌then◌else◌, nat_le, nat_lt, ◌==◌, filter}
use Rattle.std.specs.List.{list_any}
use Rattle.plant_book.specs.declared.call.Call.{Call}
use Rattle.plant_book.specs.declared.call.Call.TheVariants as calls
use Rattle.plant_book.specs.declared.call.Reply.{Reply}
use Rattle.plant_book.specs.declared.call.Reply.TheVariants as replies
use Rattle.plant_book.specs.declared.call.Read as reads
use Rattle.plant_book.specs.declared.call.TheConstants.{REQUESTS_MAX, LIVE_MAX}
use Rattle.plant_book.specs.Site.{mw_at, floor_raw_at, full_at, raw_at, floors}
use Rattle.plant_book.specs.Book.{BookRecord}
use Rattle.plant_book.specs.Requests.{link_number, requests, pending_read}
use Rattle.plant_book.specs.Writes.{live, frees, is_numbered}
use Rattle.plant_book.specs.Reserved.{covering, unreserved_at}
use Rattle.plant_book.specs.Policy.{target_at}
use Rattle.plant_book.specs.Answer.{silent_until, raise_at, write_at, is_raw_of, is_pending, ceiling_with, reply_to_sight, reply_by_watts, reply_by_policy, reply_to_ask, reply_to_read, reply_to_saw, reply_to_back, reply_to_cap, reply_to}
use Rattle.ledger_desk.specs.Calls.{IsReplyTo}

choice : (b : Bool) (P : Reply → Type 0) (x y : Reply) → P x → P y → P (if b then x else y)
choice true P x y this other = this
choice false P x y this other = other

module _ (book : BookRecord) (at inverter : ℕ) where
  by_watts : (raw : ℕ) → IsReplyTo (calls.Ask at inverter raw) (reply_by_watts book at inverter raw)
  unfolding reply_by_watts
  by_watts raw =
      let P : Reply → Type 0 = IsReplyTo (calls.Ask at inverter raw) in
      let granted : P (replies.Granted (write_at book at inverter raw)) = (refl, refl, refl) in
      choice (nat_lt (unreserved_at book at) (raise_at book at inverter raw)) P (replies.NoWatts (unreserved_at book at)) _ tt
      (choice (nat_le LIVE_MAX (length (live book.site.rules book.entries at inverter))) P replies.Crowded _ tt granted)

  by_policy : (raw : ℕ) → IsReplyTo (calls.Ask at inverter raw) (reply_by_policy book at inverter raw)
  unfolding reply_by_policy
  by_policy raw =
      let P : Reply → Type 0 = IsReplyTo (calls.Ask at inverter raw) in
      choice (nat_lt (full_at book.site inverter) raw) P (replies.Over (full_at book.site inverter)) _ tt
      (choice (nat_le at (silent_until book)) P (replies.Silent (silent_until book)) _ tt
      (choice (nat_lt (target_at book at inverter) (mw_at book.site inverter raw)) P (replies.NotAllowed (raw_at book.site inverter (target_at book at inverter))) _ tt
      (by_watts raw)))

  to_ask : (raw : ℕ) → IsReplyTo (calls.Ask at inverter raw) (reply_to_ask book at inverter raw)
  unfolding reply_to_ask
  to_ask raw =
      let P : Reply → Type 0 = IsReplyTo (calls.Ask at inverter raw) in
      choice (link_number inverter book.entries == 0) P replies.Unlinked _ tt
      (choice (nat_le REQUESTS_MAX (requests inverter book.entries)) P replies.Spent _ tt (by_policy raw))

  to_read : IsReplyTo (calls.Read at inverter) (reply_to_read book at inverter)
  unfolding reply_to_read
  to_read =
      let P : Reply → Type 0 = IsReplyTo (calls.Read at inverter) in
      let read : reads.Read = record { inverter = inverter; link = link_number inverter book.entries; number = requests inverter book.entries + 1; at = at } in
      let numbered : P (replies.ReadAs read) = (refl, refl) in
      choice (link_number inverter book.entries == 0) P replies.Unlinked _ tt
      (choice (nat_le REQUESTS_MAX (requests inverter book.entries)) P replies.Spent _ tt numbered)

  to_saw : (number raw : ℕ) → IsReplyTo (calls.Saw at inverter number raw) (reply_to_saw book at inverter number raw)
  unfolding reply_to_saw
  to_saw number raw =
      let P : Reply → Type 0 = IsReplyTo (calls.Saw at inverter number raw) in
      let pending = pending_read inverter book.entries in
      let its = live book.site.rules book.entries at inverter in
      let freed = replies.Freed (length (filter (frees book.site.rules pending raw) its)) (covering book.site inverter (filter (λ write. not (frees book.site.rules pending raw write)) its)) in
      let sight : P (reply_to_sight book.site inverter pending raw its) =
      choice (not (is_raw_of (floor_raw_at book.site inverter) raw its)) P (replies.Strange raw) freed tt tt in
      choice (not (is_pending pending number)) P replies.NoRead (reply_to_sight book.site inverter pending raw its) tt sight

  to_back : (link number : ℕ) → IsReplyTo (calls.Back at inverter link number) (reply_to_back book at inverter link number)
  unfolding reply_to_back
  to_back link number =
      choice (list_any (is_numbered inverter link number) (live book.site.rules book.entries at inverter)) (IsReplyTo (calls.Back at inverter link number)) replies.Taken replies.NoWrite tt tt

to_cap : (book : BookRecord) (at mw : ℕ) → IsReplyTo (calls.Cap at mw) (reply_to_cap book at mw)
unfolding reply_to_cap
to_cap book at mw =
    choice (nat_lt mw (floors book.site) || nat_lt book.site.cap mw) (IsReplyTo (calls.Cap at mw)) (replies.CapOut (floors book.site) book.site.cap) (replies.CapSet mw (ceiling_with book at mw)) tt tt

pub replies_fit : (book : BookRecord) (call : Call) → IsReplyTo call (reply_to book call)
replies_fit book (calls.Link at inverter) = tt
replies_fit book (calls.Ask at inverter raw) = to_ask book at inverter raw
replies_fit book (calls.Read at inverter) = to_read book at inverter
replies_fit book (calls.Saw at inverter number raw) = to_saw book at inverter number raw
replies_fit book (calls.Back at inverter link number) = to_back book at inverter link number
replies_fit book (calls.Want at inverter mw) = tt
replies_fit book (calls.Tick at) = tt
replies_fit book (calls.Stop at) = tt
replies_fit book (calls.Cap at mw) = to_cap book at mw
