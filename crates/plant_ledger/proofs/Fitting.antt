-- A reply fits its call, and the account has room for it.
use Rattle.std.proofs.Common.{◌≡◌, ℕ, ◌+◌, ◌<◌, ◌≤◌, not, ◌||◌, eqb, leb, ltb, length, List, refl, sym, ap, subst, ◌∙◌, arith, inl, inr}
use Rattle.std.specs.Prelude.{Option, Some}
use Rattle.std.specs.List.{list_any}
use Rattle.std.proofs.lemmas.Bool.{cases_Bool, leb-false}
use Rattle.plant_book.specs.declared.call.Call.{Call}
use Rattle.plant_book.specs.declared.call.Call.TheVariants as calls
use Rattle.plant_book.specs.declared.call.Reply.{Reply}
use Rattle.plant_book.specs.declared.call.Reply.TheVariants as replies
use Rattle.plant_book.specs.declared.call.Write as writes
use Rattle.plant_book.specs.declared.call.Read as reads
use Rattle.plant_book.specs.declared.call.TheConstants.{MOMENT_MAX, REQUESTS_MAX, LIVE_MAX}
use Rattle.plant_book.specs.declared.book.Entry.{Entry}
use Rattle.plant_book.specs.Site.{mw_at, full_at, floor_raw_at, floors}
use Rattle.plant_book.specs.Book.{BookRecord}
use Rattle.plant_book.specs.Calls.{moment, named}
use Rattle.plant_book.specs.Requests.{link_number, requests, pending_read}
use Rattle.plant_book.specs.Writes.{is_numbered, live}
use Rattle.plant_book.specs.Reserved.{unreserved_at}
use Rattle.plant_book.specs.Policy.{target_at}
use Rattle.plant_book.specs.Answer.{reply_to, reply_to_ask, reply_by_policy, reply_by_watts, reply_to_read, reply_to_saw, reply_to_back, reply_to_cap, raise_at, write_at, silent_until, is_pending, is_raw_of, reply_to_sight}
use Rattle.plant_book.specs.Answered.{IsAnswer}
use Rattle.plant_book.proofs.Granting.{granted_is_covered}
use Rattle.uncertain_writes.proofs.Replies.{by_cond}
use Rattle.plant_ledger.proofs.Standing.{IsNextGrant}
use Rattle.plant_ledger.specs.Account.{Account}
use Rattle.plant_ledger.specs.Account.{IsAccount, IsReplyTo, HasRoom}

-- a request is numbered by a call of its kind and its inverter, of which the link has requests left
abbrev Fits : BookRecord → Call → Reply → Type 0
Fits book (calls.Ask at inverter raw) (replies.Granted write) = (write ≡ write_at book at inverter raw) × (requests inverter book.entries < REQUESTS_MAX)
Fits book (calls.Read at inverter) (replies.ReadAs read) = (read.inverter ≡ inverter) × (requests inverter book.entries < REQUESTS_MAX)
Fits book call (replies.Granted write) = ⊥
Fits book call (replies.ReadAs read) = ⊥
Fits book call _ = Unit {0}

module _ (book : BookRecord) (at inverter : ℕ) where
  fits_by_watts : (raw : ℕ) → requests inverter book.entries < REQUESTS_MAX → Fits book (calls.Ask at inverter raw) (reply_by_watts book at inverter raw)
  unfolding reply_by_watts
  fits_by_watts raw left =
      let P : Reply → Type 0 = λ reply. Fits book (calls.Ask at inverter raw) reply in
      by_cond P (ltb (unreserved_at book at) (raise_at book at inverter raw)) _ _ tt
      (by_cond P (leb LIVE_MAX (length (live book.site.rules book.entries at inverter))) _ _ tt (refl, left))

  fits_by_policy : (raw : ℕ) → requests inverter book.entries < REQUESTS_MAX → Fits book (calls.Ask at inverter raw) (reply_by_policy book at inverter raw)
  unfolding reply_by_policy
  fits_by_policy raw left =
      let P : Reply → Type 0 = λ reply. Fits book (calls.Ask at inverter raw) reply in
      by_cond P (ltb (full_at book.site inverter) raw) _ _ tt
      (by_cond P (leb at (silent_until book)) _ _ tt
      (by_cond P (ltb (target_at book at inverter) (mw_at book.site inverter raw)) _ _ tt (fits_by_watts raw left)))

  fits_ask : (raw : ℕ) → Fits book (calls.Ask at inverter raw) (reply_to_ask book at inverter raw)
  unfolding reply_to_ask
  fits_ask raw =
      let P : Reply → Type 0 = λ reply. Fits book (calls.Ask at inverter raw) reply in
      by_cond P (eqb (link_number inverter book.entries) 0) _ _ tt
      (elim (cases_Bool (leb REQUESTS_MAX (requests inverter book.entries))) [
        | inl spent ↦ rw spent tt
        | inr left ↦ rw left (fits_by_policy raw (leb-false REQUESTS_MAX (requests inverter book.entries) left))
      ])

  fits_read : Fits book (calls.Read at inverter) (reply_to_read book at inverter)
  unfolding reply_to_read
  fits_read =
      let P : Reply → Type 0 = λ reply. Fits book (calls.Read at inverter) reply in
      by_cond P (eqb (link_number inverter book.entries) 0) _ _ tt
      (elim (cases_Bool (leb REQUESTS_MAX (requests inverter book.entries))) [
        | inl spent ↦ rw spent tt
        | inr left ↦ rw left (refl, leb-false REQUESTS_MAX (requests inverter book.entries) left)
      ])

  fits_sight : (number raw : ℕ) (pending : Option reads.Read) (its_writes : List writes.Write) → Fits book (calls.Saw at inverter number raw) (reply_to_sight book.site inverter pending raw its_writes)
  fits_sight number raw pending its_writes =
      elim (cases_Bool (is_raw_of (floor_raw_at book.site inverter) raw its_writes)) [
        | inl known ↦ rw known tt
        | inr strange ↦ rw strange tt
      ]

  fits_saw : (number raw : ℕ) → Fits book (calls.Saw at inverter number raw) (reply_to_saw book at inverter number raw)
  unfolding reply_to_saw
  fits_saw number raw =
      let P : Reply → Type 0 = λ reply. Fits book (calls.Saw at inverter number raw) reply in
      by_cond P (not (is_pending (pending_read inverter book.entries) number)) _ _ tt
      (fits_sight number raw (pending_read inverter book.entries) (live book.site.rules book.entries at inverter))

  fits_back : (link number : ℕ) → Fits book (calls.Back at inverter link number) (reply_to_back book at inverter link number)
  unfolding reply_to_back
  fits_back link number =
      let P : Reply → Type 0 = λ reply. Fits book (calls.Back at inverter link number) reply in
      by_cond P (list_any (is_numbered inverter link number) (live book.site.rules book.entries at inverter)) _ _ tt tt

fits_cap : (book : BookRecord) (at watts : ℕ) → Fits book (calls.Cap at watts) (reply_to_cap book at watts)
unfolding reply_to_cap
fits_cap book at watts =
    elim (cases_Bool (ltb watts (floors book.site) || ltb book.site.cap watts)) [
      | inl out ↦ rw out tt
      | inr set ↦ rw set tt
    ]

fits : (book : BookRecord) (call : Call) → Fits book call (reply_to book call)
fits book (calls.Link at inverter) = tt
fits book (calls.Ask at inverter raw) = fits_ask book at inverter raw
fits book (calls.Read at inverter) = fits_read book at inverter
fits book (calls.Saw at inverter number raw) = fits_saw book at inverter number raw
fits book (calls.Back at inverter link number) = fits_back book at inverter link number
fits book (calls.Want at inverter mw) = tt
fits book (calls.Tick at) = tt
fits book (calls.Stop at) = tt
fits book (calls.Cap at watts) = fits_cap book at watts

reply_fits : (book : BookRecord) (call : Call) (reply : Reply) → Fits book call reply → IsReplyTo call reply
reply_fits book (calls.Ask at inverter raw) (replies.Granted write) is = ap (λ (w : writes.Write). w.inverter) is.0
reply_fits book (calls.Read at inverter) (replies.ReadAs read) is = is.0
reply_fits book call (replies.Granted write) is = absurd is
reply_fits book call (replies.ReadAs read) is = absurd is
reply_fits book call _ is = tt

pub fits_call : (book : BookRecord) (entry : Entry) → IsAnswer book book.entries entry → IsReplyTo entry.call entry.reply
fits_call book entry answer = reply_fits book entry.call entry.reply (subst (λ (reply : Reply). Fits book entry.call reply) (sym answer) (fits book entry.call))

some_is : (i j : ℕ) → ◌≡◌ {A = Option ℕ} (Some i) (Some j) → i ≡ j
some_is i j is = cc

room_by : (book : BookRecord) (now inverter : ℕ) (account : Account) (call : Call) (reply : Reply) → IsAccount book now inverter account → named call ≡ Some inverter
    → moment call ≡ now → now ≤ MOMENT_MAX → reply ≡ reply_to book call → Fits book call reply → HasRoom reply account
room_by book now inverter account (calls.Ask at other raw) (replies.Granted write) its is same high answer fit =
    let own : other ≡ inverter = some_is other inverter is in
    let asked : write.inverter ≡ other = ap (λ (w : writes.Write). w.inverter) fit.0 in
    let covered = granted_is_covered book (calls.Ask at other raw) write (sym answer) in
    let count : requests write.inverter book.entries < REQUESTS_MAX = subst (λ (i : ℕ). requests i book.entries < REQUESTS_MAX) (sym asked) fit.1 in
    let whose : write.inverter ≡ inverter = asked ∙ own in
    let left : requests inverter book.entries < REQUESTS_MAX = subst (λ (i : ℕ). requests i book.entries < REQUESTS_MAX) whose count in
    let room : length (live book.site.rules book.entries now inverter) < 32 =
    subst (λ (n : ℕ). length (live book.site.rules book.entries n inverter) < 32) same (subst (λ (i : ℕ). length (live book.site.rules book.entries at i) < 32) whose covered.room) in
    (omega (arith, left, its.requests), omega (arith, room, ap (λ (ws : List writes.Write). length ws) its.live), omega (arith, covered.at, same))
room_by book now inverter account (calls.Read at other) (replies.ReadAs read) its is same high answer fit =
    let left : requests inverter book.entries < REQUESTS_MAX = subst (λ (i : ℕ). requests i book.entries < REQUESTS_MAX) (some_is other inverter is) fit.1 in
    omega (arith, left, its.requests)
room_by book now inverter account call (replies.Granted write) its is same high answer fit = absurd fit
room_by book now inverter account call (replies.ReadAs read) its is same high answer fit = absurd fit
room_by book now inverter account call _ its is same high answer fit = tt

pub has_room : (book : BookRecord) (entry : Entry) (now inverter : ℕ) (account : Account) → IsAccount book now inverter account → named entry.call ≡ Some inverter
    → moment entry.call ≡ now → now ≤ MOMENT_MAX → IsAnswer book book.entries entry → HasRoom entry.reply account
has_room book entry now inverter account its is same high answer =
    room_by book now inverter account entry.call entry.reply its is same high answer (subst (λ (reply : Reply). Fits book entry.call reply) (sym answer) (fits book entry.call))

next_by : (book : BookRecord) (now inverter : ℕ) (account : Account) (call : Call) (write : writes.Write) → IsAccount book now inverter account → named call ≡ Some inverter
    → moment call ≡ now → Fits book call (replies.Granted write) → IsNextGrant now write account
next_by book now inverter account (calls.Ask at other raw) write its is same fit =
    let own : other ≡ inverter = some_is other inverter is in
    record {
      link = ap (λ (w : writes.Write). w.link) fit.0 ∙ ap (λ (i : ℕ). link_number i book.entries) own ∙ sym its.link;
      number = ap (λ (w : writes.Write). w.number) fit.0 ∙ ap (λ (i : ℕ). requests i book.entries + 1) own ∙ ap (λ (n : ℕ). n + 1) (sym its.requests);
      at = ap (λ (w : writes.Write). w.at) fit.0 ∙ same;
    }
next_by book now inverter account call write its is same fit = absurd fit

-- a granted write has the next number of the account's link
pub granted_next : (book : BookRecord) (entry : Entry) (now inverter : ℕ) (account : Account) (write : writes.Write) → IsAccount book now inverter account → named entry.call ≡ Some inverter
    → moment entry.call ≡ now → IsAnswer book book.entries entry → entry.reply ≡ replies.Granted write → IsNextGrant now write account
granted_next book entry now inverter account write its is same answer grants =
    next_by book now inverter account entry.call write its is same (subst (λ (reply : Reply). Fits book entry.call reply) (sym answer ∙ grants) (fits book entry.call))
