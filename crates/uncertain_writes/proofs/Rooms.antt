-- A grant finds fewer live writes of its inverter than there may be at once.
use Rattle.std.proofs.Common.{◌≡◌, ℕ, ◌<◌, not, ◌||◌, eqb, leb, ltb, length, ap, arith, inl, inr}
use Rattle.std.specs.List.{list_any}
use Rattle.std.proofs.lemmas.Bool.{cases_Bool, leb-false}
use Rattle.plant_book.specs.declared.call.Call.{Call}
use Rattle.plant_book.specs.declared.call.Call.TheVariants as calls
use Rattle.plant_book.specs.declared.call.Reply.{Reply}
use Rattle.plant_book.specs.declared.call.Reply.TheVariants as replies
use Rattle.plant_book.specs.declared.call.Write as writes
use Rattle.plant_book.specs.declared.call.TheConstants.{REQUESTS_MAX, LIVE_MAX}
use Rattle.plant_book.specs.Site.{mw_at, full_at, floors}
use Rattle.plant_book.specs.Book.{BookRecord}
use Rattle.plant_book.specs.Calls.{moment}
use Rattle.plant_book.specs.Requests.{link_number, requests, pending_read}
use Rattle.plant_book.specs.Writes.{is_numbered, live}
use Rattle.plant_book.specs.Reserved.{unreserved_at}
use Rattle.plant_book.specs.Policy.{target_at}
use Rattle.plant_book.specs.Answer.{reply_to, reply_to_ask, reply_by_policy, reply_by_watts, reply_to_read, reply_to_saw, reply_to_back, reply_to_cap, raise_at, write_at, silent_until, is_pending}
use Rattle.uncertain_writes.specs.Live.{live_max}
use Rattle.uncertain_writes.proofs.Replies.{by_cond}

-- where the reply is a grant, its inverter has fewer live writes than it may have
pub record FindsRoom (book : BookRecord) (now : ℕ) (reply : Reply) : Type 0 where
  pub room : (write : writes.Write) → reply ≡ replies.Granted write → length (live book.site.rules book.entries now write.inverter) < live_max

granted_write : (made write : writes.Write) → replies.Granted made ≡ replies.Granted write → made ≡ write
granted_write made write is = cc

module _ (book : BookRecord) (now inverter : ℕ) where
  room_by_watts : (raw : ℕ) → FindsRoom book now (reply_by_watts book now inverter raw)
  unfolding reply_by_watts
  room_by_watts raw =
      let P : Reply → Type 0 = FindsRoom book now in
      by_cond P (ltb (unreserved_at book now) (raise_at book now inverter raw)) _ _ (record { room = λ write is. absurd cc })
      (elim (cases_Bool (leb LIVE_MAX (length (live book.site.rules book.entries now inverter)))) [
        | inl full ↦ rw full (record { room = λ write is. absurd cc })
        | inr fewer ↦ rw fewer (record {
          room = λ write is.
              let its = ap (λ (w : writes.Write). length (live book.site.rules book.entries now w.inverter)) (granted_write (write_at book now inverter raw) write is) in
              omega (arith, leb-false LIVE_MAX (length (live book.site.rules book.entries now inverter)) fewer, its);
        })
      ])

  room_by_policy : (raw : ℕ) → FindsRoom book now (reply_by_policy book now inverter raw)
  unfolding reply_by_policy
  room_by_policy raw =
      let P : Reply → Type 0 = FindsRoom book now in
      by_cond P (ltb (full_at book.site inverter) raw) _ _ (record { room = λ write is. absurd cc })
      (by_cond P (leb now (silent_until book)) _ _ (record { room = λ write is. absurd cc })
      (by_cond P (ltb (target_at book now inverter) (mw_at book.site inverter raw)) _ _ (record { room = λ write is. absurd cc }) (room_by_watts raw)))

  room_ask : (raw : ℕ) → FindsRoom book now (reply_to_ask book now inverter raw)
  unfolding reply_to_ask
  room_ask raw =
      let P : Reply → Type 0 = FindsRoom book now in
      by_cond P (eqb (link_number inverter book.entries) 0) _ _ (record { room = λ write is. absurd cc })
      (by_cond P (leb REQUESTS_MAX (requests inverter book.entries)) _ _ (record { room = λ write is. absurd cc }) (room_by_policy raw))

  room_read : FindsRoom book now (reply_to_read book now inverter)
  unfolding reply_to_read
  room_read =
      let P : Reply → Type 0 = FindsRoom book now in
      by_cond P (eqb (link_number inverter book.entries) 0) _ _ (record { room = λ write is. absurd cc })
      (by_cond P (leb REQUESTS_MAX (requests inverter book.entries)) _ _ (record { room = λ write is. absurd cc }) (record { room = λ write is. absurd cc }))

  strange_room : (raw : ℕ) → FindsRoom book now (replies.Strange raw)
  strange_room raw = record { room = λ write is. absurd cc }

  freed_room : (count reserved : ℕ) → FindsRoom book now (replies.Freed count reserved)
  freed_room count reserved = record { room = λ write is. absurd cc }

  room_saw : (number raw : ℕ) → FindsRoom book now (reply_to_saw book now inverter number raw)
  unfolding reply_to_saw
  room_saw number raw =
      let P : Reply → Type 0 = FindsRoom book now in
      by_cond P (not (is_pending (pending_read inverter book.entries) number)) _ _ (record { room = λ write is. absurd cc })
      (by_cond P _ _ _ (strange_room raw) (freed_room _ _))

  room_back : (link number : ℕ) → FindsRoom book now (reply_to_back book now inverter link number)
  unfolding reply_to_back
  room_back link number =
      let P : Reply → Type 0 = FindsRoom book now in
      by_cond P (list_any (is_numbered inverter link number) (live book.site.rules book.entries now inverter)) _ _ (record { room = λ write is. absurd cc }) (record { room = λ write is. absurd cc })

-- a Cap grants nothing
room_cap : (book : BookRecord) (now watts : ℕ) → FindsRoom book now (reply_to_cap book now watts)
unfolding reply_to_cap
room_cap book now watts =
    by_cond (FindsRoom book now) (ltb watts (floors book.site) || ltb book.site.cap watts) _ _ (record { room = λ write is. absurd cc }) (record { room = λ write is. absurd cc })

-- whatever the call
pub finds_room : (book : BookRecord) (call : Call) → FindsRoom book (moment call) (reply_to book call)
finds_room book (calls.Link at inverter) = record { room = λ write is. absurd cc }
finds_room book (calls.Ask at inverter raw) = room_ask book at inverter raw
finds_room book (calls.Read at inverter) = room_read book at inverter
finds_room book (calls.Saw at inverter number raw) = room_saw book at inverter number raw
finds_room book (calls.Back at inverter link number) = room_back book at inverter link number
finds_room book (calls.Want at inverter mw) = record { room = λ write is. absurd cc }
finds_room book (calls.Tick at) = record { room = λ write is. absurd cc }
finds_room book (calls.Stop at) = record { room = λ write is. absurd cc }
finds_room book (calls.Cap at watts) = room_cap book at watts
