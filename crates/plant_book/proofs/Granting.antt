-- A grant is no greater than what was unreserved.
use Rattle.std.proofs.Common.{◌≡◌, ℕ, ◌<◌, ◌≤◌, Bool, true, false, cond, not, ◌||◌, ltb, leb, eqb, length, refl, subst}
use Rattle.std.proofs.lemmas.Bool.{ltb-false, leb-false}
use Rattle.plant_book.specs.declared.call.Call.{Call}
use Rattle.plant_book.specs.declared.call.Call.TheVariants as calls
use Rattle.plant_book.specs.declared.call.Reply.{Reply}
use Rattle.plant_book.specs.declared.call.Reply.TheVariants as replies
use Rattle.plant_book.specs.declared.call.Write as writes
use Rattle.plant_book.specs.declared.call.TheConstants.{REQUESTS_MAX, LIVE_MAX}
use Rattle.plant_book.specs.Site.{mw_at, full_at, floor_raw_at, floors}
use Rattle.plant_book.specs.Book.{BookRecord}
use Rattle.plant_book.specs.Calls.{moment}
use Rattle.plant_book.specs.Reserved.{unreserved_at}
use Rattle.plant_book.specs.Answer.{reply_to, reply_to_ask, reply_by_policy, reply_by_watts, reply_to_read, reply_to_saw, reply_to_back, reply_to_cap, raise_at, write_at, silent_until, is_pending, is_raw_of}
use Rattle.plant_book.specs.Requests.{link_number, requests, pending_read}
use Rattle.plant_book.specs.Writes.{live, is_numbered}
use Rattle.plant_book.specs.Policy.{target_at}
use Rattle.std.specs.List.{list_any}

-- what a grant at this moment is, and means for the silence, the policy and the watts
pub record IsCovered (book : BookRecord) (now : ℕ) (write : writes.Write) : Type 0 where
  pub is : write ≡ write_at book now write.inverter write.raw
  pub at : write.at ≡ now
  pub left : requests write.inverter book.entries < REQUESTS_MAX
  pub loud : silent_until book < now
  pub allowed : mw_at book.site write.inverter write.raw ≤ target_at book now write.inverter
  pub fits : raise_at book now write.inverter write.raw ≤ unreserved_at book now
  pub room : length (live book.site.rules book.entries now write.inverter) < 32

-- where the first answer isn't this one, the test failed and the rest is
pub rest_of : (b : Bool) (x y z : Reply) → (x ≡ z → ⊥) → cond b x y ≡ z → (b ≡ false) × (y ≡ z)
rest_of true x y z other is = absurd (other is)
rest_of false x y z other is = (refl, is)

granted_is : (made write : writes.Write) → replies.Granted made ≡ replies.Granted write → made ≡ write
granted_is made write is = cc

covered_by : (book : BookRecord) (now inverter raw : ℕ) (write : writes.Write) → requests inverter book.entries < REQUESTS_MAX → silent_until book < now → mw_at book.site inverter raw ≤ target_at book now inverter → raise_at book now inverter raw ≤ unreserved_at book now
    → length (live book.site.rules book.entries now inverter) < 32 → write_at book now inverter raw ≡ write → IsCovered book now write
covered_by book now inverter raw write left loud allowed fits room is =
    subst (λ (w : writes.Write). IsCovered book now w) is (record { is = refl; at = refl; left = left; loud = loud; allowed = allowed; fits = fits; room = room })

by_watts : (book : BookRecord) (now inverter raw : ℕ) (write : writes.Write) → requests inverter book.entries < REQUESTS_MAX → silent_until book < now → mw_at book.site inverter raw ≤ target_at book now inverter → reply_by_watts book now inverter raw ≡ replies.Granted write → IsCovered book now write
unfolding reply_by_watts
by_watts book now inverter raw write left loud allowed is =
    let watts = rest_of (ltb (unreserved_at book now) (raise_at book now inverter raw)) _ _ (replies.Granted write) (λ no. cc) is in
    let room = rest_of (leb LIVE_MAX (length (live book.site.rules book.entries now inverter))) replies.Crowded (replies.Granted (write_at book now inverter raw)) (replies.Granted write) (λ no. cc) watts.1 in
    covered_by book now inverter raw write left loud allowed (ltb-false _ _ watts.0) (leb-false LIVE_MAX (length (live book.site.rules book.entries now inverter)) room.0) (granted_is (write_at book now inverter raw) write room.1)

by_policy : (book : BookRecord) (now inverter raw : ℕ) (write : writes.Write) → requests inverter book.entries < REQUESTS_MAX → reply_by_policy book now inverter raw ≡ replies.Granted write → IsCovered book now write
unfolding reply_by_policy
by_policy book now inverter raw write left is =
    let over = rest_of (ltb (full_at book.site inverter) raw) _ _ (replies.Granted write) (λ no. cc) is in
    let silent = rest_of (leb now (silent_until book)) _ _ (replies.Granted write) (λ no. cc) over.1 in
    let allowed = rest_of (ltb (target_at book now inverter) (mw_at book.site inverter raw)) _ _ (replies.Granted write) (λ no. cc) silent.1 in
    by_watts book now inverter raw write left (leb-false now (silent_until book) silent.0) (ltb-false _ _ allowed.0) allowed.1

by_ask : (book : BookRecord) (now inverter raw : ℕ) (write : writes.Write) → reply_to_ask book now inverter raw ≡ replies.Granted write → IsCovered book now write
unfolding reply_to_ask
by_ask book now inverter raw write is =
    let linked = rest_of (eqb (link_number inverter book.entries) 0) _ _ (replies.Granted write) (λ no. cc) is in
    let left = rest_of (leb REQUESTS_MAX (requests inverter book.entries)) _ _ (replies.Granted write) (λ no. cc) linked.1 in
    by_policy book now inverter raw write (leb-false REQUESTS_MAX (requests inverter book.entries) left.0) left.1

no_grant_by_read : (book : BookRecord) (now inverter : ℕ) (write : writes.Write) → reply_to_read book now inverter ≡ replies.Granted write → ⊥
unfolding reply_to_read
no_grant_by_read book now inverter write is =
    let linked = rest_of (eqb (link_number inverter book.entries) 0) _ _ (replies.Granted write) (λ no. cc) is in
    let left = rest_of (leb REQUESTS_MAX (requests inverter book.entries)) _ _ (replies.Granted write) (λ no. cc) linked.1 in
    let never = left.1 in cc

no_grant_by_saw : (book : BookRecord) (now inverter number raw : ℕ) (write : writes.Write) → reply_to_saw book now inverter number raw ≡ replies.Granted write → ⊥
unfolding reply_to_saw
no_grant_by_saw book now inverter number raw write is =
    let pending = rest_of (not (is_pending (pending_read inverter book.entries) number)) _ _ (replies.Granted write) (λ no. cc) is in
    let known = rest_of (not (is_raw_of (floor_raw_at book.site inverter) raw (live book.site.rules book.entries now inverter))) _ _ (replies.Granted write) (λ no. cc) pending.1 in
    let never = known.1 in cc

no_grant_by_back : (book : BookRecord) (now inverter link number : ℕ) (write : writes.Write) → reply_to_back book now inverter link number ≡ replies.Granted write → ⊥
unfolding reply_to_back
no_grant_by_back book now inverter link number write is =
    let taken = rest_of (list_any (is_numbered inverter link number) (live book.site.rules book.entries now inverter)) _ _ (replies.Granted write) (λ no. cc) is in
    let never = taken.1 in cc

no_grant_by_cap : (book : BookRecord) (now watts : ℕ) (write : writes.Write) → reply_to_cap book now watts ≡ replies.Granted write → ⊥
unfolding reply_to_cap
no_grant_by_cap book now watts write is =
    let out = rest_of (ltb watts (floors book.site) || ltb book.site.cap watts) _ _ (replies.Granted write) (λ no. cc) is in
    let never = out.1 in cc

-- a grant, to whichever call, is no greater than what was unreserved
pub granted_is_covered : (book : BookRecord) (call : Call) (write : writes.Write) → reply_to book call ≡ replies.Granted write → IsCovered book (moment call) write
granted_is_covered book (calls.Link at inverter) write is = absurd cc
granted_is_covered book (calls.Ask at inverter raw) write is = by_ask book at inverter raw write is
granted_is_covered book (calls.Read at inverter) write is = absurd (no_grant_by_read book at inverter write is)
granted_is_covered book (calls.Saw at inverter number raw) write is = absurd (no_grant_by_saw book at inverter number raw write is)
granted_is_covered book (calls.Back at inverter link number) write is = absurd (no_grant_by_back book at inverter link number write is)
granted_is_covered book (calls.Want at inverter mw) write is = absurd cc
granted_is_covered book (calls.Tick at) write is = absurd cc
granted_is_covered book (calls.Stop at) write is = absurd cc
granted_is_covered book (calls.Cap at mw) write is = absurd (no_grant_by_cap book at mw write is)
