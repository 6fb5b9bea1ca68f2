-- The numbers of requests and of what is held stay in their ranges.
use Rattle.std.proofs.Common.{◌≡◌, ℕ, zero, suc, ◌+◌, ◌≤◌, Bool, true, false, cond, not, leb, ltb, eqb, List, [], ◌∷◌, ◌++◌, length, map, replicate, take, drop, Option, Some, None, refl, sym, subst, ap, arith, lit≤, inl, inr}
use Rattle.std.specs.Prelude.{filter, slice_get}
use Rattle.std.specs.List.{AllByRecursion}
use Rattle.std.specs.Option.{option_map_or}
use Rattle.std.proofs.lemmas.Bool.{cases_Bool}
use Rattle.limiter_num.specs.Greatest.{greatest_up_to}
use Rattle.limiter_num.specs.Milliwatts.{full_of, is_within_full}
use Rattle.limiter_num.specs.Rating.{mw, full, raw_at_most}
use Rattle.plant_book.specs.declared.site.Unit as units
use Rattle.plant_book.specs.declared.call.Call.{Call}
use Rattle.plant_book.specs.declared.call.Call.TheVariants as calls
use Rattle.plant_book.specs.declared.call.Reply.{Reply}
use Rattle.plant_book.specs.declared.call.Reply.TheVariants as replies
use Rattle.plant_book.specs.declared.call.Write as writes
use Rattle.plant_book.specs.declared.call.Read as reads
use Rattle.plant_book.specs.declared.call.TheConstants.{REQUESTS_MAX, LIVE_MAX}
use Rattle.plant_book.specs.Site.{mw_at, full_at, raw_at, floors}
use Rattle.plant_book.specs.Book.{BookRecord}
use Rattle.plant_book.specs.Requests.{link_number, requests, pending_read}
use Rattle.plant_book.specs.Writes.{live, frees}
use Rattle.plant_book.specs.Policy.{target_at}
use Rattle.plant_book.specs.Reserved.{unreserved_at, now_of}
use Rattle.plant_book.specs.Calls.{moment}
use Rattle.plant_book.specs.Answered.{IsBook}
use Rattle.plant_book.specs.Answer.{reply_to, reply_to_ask, reply_by_policy, reply_by_watts, reply_to_read, reply_to_saw, reply_to_back, reply_to_cap, raise_at, write_at, silent_until, goal_raw, ceiling_with}
use Rattle.plant_book.proofs.Granting.{rest_of}
use Rattle.plant_book.proofs.Numbers.{read_is_at}
use Rattle.plant_book.proofs.Few.{live_few, length-filter_not}
use Rattle.plant_simulator.specs.declared.inverter.Request.{Request}
use Rattle.plant_simulator.specs.declared.inverter.Request.TheVariants as sent
use Rattle.plant_simulator.specs.declared.inverter.OldWrite.{OldWrite}
use Rattle.plant_simulator.specs.World.{InverterRecord, fresh}
use Rattle.plant_simulator.specs.Call.{freed_in}
use Rattle.inverter_sim.specs.HeldLimit.{is_due}
use Rattle.plant_simulator.specs.Inverter.{reverted, is_late, is_late_request, inverter_at, requested, queued, holding, old_writes, emptied, without_first, is_of_link, without_old, changed_at}

-- a raw percentage that is found is at most 65535
greatest_le : (n : ℕ) (test : ℕ → Bool) → greatest_up_to n test ≤ n
unfolding greatest_up_to
greatest_le zero test = omega arith
greatest_le (suc n) test =
    elim (cases_Bool (test (suc n))) [
      | inl passes ↦ rw passes (omega arith)
      | inr fails ↦ rw fails (omega (arith, greatest_le n test))
    ]

raw_small : (found : Option units.Unit) (watts : ℕ) → option_map_or (λ u. raw_at_most u.rating watts) found 0 ≤ 65535
unfolding raw_at_most full_of
raw_small None watts = omega arith
raw_small (Some u) watts =
    let below : ℕ → ℕ → Bool = λ n raw. leb (mw u.rating raw) n in
    omega (arith, greatest_le (full u.rating) (below watts), greatest_le 65534 (is_within_full u.rating.psf))

pub goal_small : (book : BookRecord) (inverter : ℕ) → goal_raw book inverter ≤ 65535
unfolding goal_raw raw_at
goal_small book inverter = raw_small (slice_get book.site.units inverter) _

granted_alike : (a b : writes.Write) → replies.Granted a ≡ replies.Granted b → a ≡ b
granted_alike a b is = cc

raw_by_watts : (book : BookRecord) (now inverter raw : ℕ) (write : writes.Write) → reply_by_watts book now inverter raw ≡ replies.Granted write → write.raw ≡ raw
unfolding reply_by_watts
raw_by_watts book now inverter raw write is =
    let watts = rest_of (ltb (unreserved_at book now) (raise_at book now inverter raw)) _ _ (replies.Granted write) (λ no. cc) is in
    let room = rest_of (leb LIVE_MAX (length (live book.site.rules book.entries now inverter))) replies.Crowded (replies.Granted (write_at book now inverter raw)) (replies.Granted write) (λ no. cc) watts.1 in
    sym (ap (λ (w : writes.Write). w.raw) (granted_alike (write_at book now inverter raw) write room.1))

raw_by_policy : (book : BookRecord) (now inverter raw : ℕ) (write : writes.Write) → reply_by_policy book now inverter raw ≡ replies.Granted write → write.raw ≡ raw
unfolding reply_by_policy
raw_by_policy book now inverter raw write is =
    let over = rest_of (ltb (full_at book.site inverter) raw) _ _ (replies.Granted write) (λ no. cc) is in
    let silent = rest_of (leb now (silent_until book)) _ _ (replies.Granted write) (λ no. cc) over.1 in
    let allowed = rest_of (ltb (target_at book now inverter) (mw_at book.site inverter raw)) _ _ (replies.Granted write) (λ no. cc) silent.1 in
    raw_by_watts book now inverter raw write allowed.1

-- a granted write is for the raw percentage that was asked for
pub raw_by_ask : (book : BookRecord) (now inverter raw : ℕ) (write : writes.Write) → reply_to_ask book now inverter raw ≡ replies.Granted write → write.raw ≡ raw
unfolding reply_to_ask
raw_by_ask book now inverter raw write is =
    let linked = rest_of (eqb (link_number inverter book.entries) 0) _ _ (replies.Granted write) (λ no. cc) is in
    let left = rest_of (leb REQUESTS_MAX (requests inverter book.entries)) _ _ (replies.Granted write) (λ no. cc) linked.1 in
    raw_by_policy book now inverter raw write left.1

-- a reply frees at most 32 writes
pub record FreesFew (reply : Reply) : Type 0 where
  pub is : freed_in reply ≤ 32

few_if : (b : Bool) (x y : Reply) → FreesFew x → FreesFew y → FreesFew (cond b x y)
few_if true x y one two = one
few_if false x y one two = two

none_freed : (reply : Reply) → freed_in reply ≡ 0 → FreesFew reply
none_freed reply is = record { is = omega (arith, is) }

module _ (book : BookRecord) (kept : IsBook book) (now : ℕ) (le : now_of book ≤ now) where
  freed_by_sight : (inverter raw : ℕ) (pending : Option reads.Read) (reserved : ℕ)
      → FreesFew (replies.Freed (length (filter (frees book.site.rules pending raw) (live book.site.rules book.entries now inverter))) reserved)
  freed_by_sight inverter raw pending reserved =
      record { is = omega (arith, live_few book kept now inverter le, length-filter_not (frees book.site.rules pending raw) (live book.site.rules book.entries now inverter)) }

  pub freed_by_saw : (inverter number raw : ℕ) → FreesFew (reply_to_saw book now inverter number raw)
  unfolding reply_to_saw
  freed_by_saw inverter number raw =
      few_if _ _ _ (none_freed replies.NoRead refl) (few_if _ _ _ (none_freed (replies.Strange raw) refl) (freed_by_sight inverter raw (pending_read inverter book.entries) _))

module _ (book : BookRecord) (now inverter : ℕ) where
  few_by_watts : (raw : ℕ) → FreesFew (reply_by_watts book now inverter raw)
  unfolding reply_by_watts
  few_by_watts raw = few_if _ (replies.NoWatts (unreserved_at book now)) _ (record { is = omega arith }) (few_if _ replies.Crowded (replies.Granted (write_at book now inverter raw)) (record { is = omega arith }) (record { is = omega arith }))

  few_by_policy : (raw : ℕ) → FreesFew (reply_by_policy book now inverter raw)
  unfolding reply_by_policy
  few_by_policy raw =
      few_if _ (replies.Over (full_at book.site inverter)) _ (record { is = omega arith }) (few_if _ (replies.Silent (silent_until book)) _ (record { is = omega arith })
      (few_if _ (replies.NotAllowed (raw_at book.site inverter (target_at book now inverter))) _ (record { is = omega arith }) (few_by_watts raw)))

  few_by_ask : (raw : ℕ) → FreesFew (reply_to_ask book now inverter raw)
  unfolding reply_to_ask
  few_by_ask raw = few_if _ replies.Unlinked _ (record { is = omega arith }) (few_if _ replies.Spent _ (record { is = omega arith }) (few_by_policy raw))

  few_by_read : FreesFew (reply_to_read book now inverter)
  unfolding reply_to_read
  few_by_read =
      few_if _ replies.Unlinked _ (record { is = omega arith }) (few_if _ replies.Spent (replies.ReadAs (record { inverter = inverter; link = link_number inverter book.entries; number = requests inverter book.entries + 1; at = now })) (record { is = omega arith }) (record { is = omega arith }))

  few_by_back : (link number : ℕ) → FreesFew (reply_to_back book now inverter link number)
  unfolding reply_to_back
  few_by_back link number = few_if _ replies.Taken replies.NoWrite (record { is = omega arith }) (record { is = omega arith })

few_by_cap : (book : BookRecord) (now watts : ℕ) → FreesFew (reply_to_cap book now watts)
unfolding reply_to_cap
few_by_cap book now watts = few_if _ (replies.CapOut (floors book.site) book.site.cap) (replies.CapSet watts (ceiling_with book now watts)) (record { is = omega arith }) (record { is = omega arith })

pub freed_by_call : (book : BookRecord) (call : Call) → IsBook book → now_of book ≤ moment call → FreesFew (reply_to book call)
freed_by_call book (calls.Link at inverter) kept le = record { is = omega arith }
freed_by_call book (calls.Ask at inverter raw) kept le = few_by_ask book at inverter raw
freed_by_call book (calls.Read at inverter) kept le = few_by_read book at inverter
freed_by_call book (calls.Saw at inverter number raw) kept le = freed_by_saw book kept at le inverter number raw
freed_by_call book (calls.Back at inverter link number) kept le = few_by_back book at inverter link number
freed_by_call book (calls.Want at inverter mw) kept le = record { is = omega arith }
freed_by_call book (calls.Tick at) kept le = record { is = omega arith }
freed_by_call book (calls.Stop at) kept le = record { is = omega arith }
freed_by_call book (calls.Cap at mw) kept le = few_by_cap book at mw

-- lists
module _ {X : Type 0} (P : X → Type 0) where
  pub all_filter : (p : X → Bool) (xs : List X) → AllByRecursion P xs → AllByRecursion P (filter p xs)
  all_filter p [] all = tt
  all_filter p (x ∷ xs) all =
      elim (cases_Bool (p x)) [
        | inl passes ↦ rw passes (all.0, all_filter p xs all.1)
        | inr fails ↦ rw fails (all_filter p xs all.1)
      ]

  pub all_append : (xs ys : List X) → AllByRecursion P xs → AllByRecursion P ys → AllByRecursion P (xs ++ ys)
  all_append [] ys one two = two
  all_append (x ∷ xs) ys one two = (one.0, all_append xs ys one.1 two)

  pub all_take : (n : ℕ) (xs : List X) → AllByRecursion P xs → AllByRecursion P (take n xs)
  all_take zero [] all = tt
  all_take zero (x ∷ xs) all = tt
  all_take (suc n) [] all = tt
  all_take (suc n) (x ∷ xs) all = (all.0, all_take n xs all.1)

  pub all_drop : (n : ℕ) (xs : List X) → AllByRecursion P xs → AllByRecursion P (drop n xs)
  all_drop zero [] all = tt
  all_drop zero (x ∷ xs) all = all
  all_drop (suc n) [] all = tt
  all_drop (suc n) (x ∷ xs) all = all_drop n xs all.1

  pub all_at : (xs : List X) (i : ℕ) (x : X) → AllByRecursion P xs → slice_get xs i ≡ Some x → P x
  all_at [] i x all is = absurd cc
  all_at (y ∷ xs) zero x all is = subst P (same y x is) all.0
    where
      same : (a b : X) → Some a ≡ Some b → a ≡ b
      same a b e = cc
  all_at (y ∷ xs) (suc i) x all is = all_at xs i x all.1 is

-- the numbers of a request are in their ranges
abbrev pub InRangeOf : Request → Type 0
InRangeOf (sent.Write write) = write.raw ≤ 65535
InRangeOf (sent.Read read) = read.number ≤ 65535

pub record IsRanged (its : InverterRecord) : Type 0 where
  pub held : its.held ≤ 65535
  pub line : AllByRecursion InRangeOf its.line
  pub strays : AllByRecursion (λ stray. stray.write.raw ≤ 65535) its.strays

pub ranged_fresh : IsRanged fresh
ranged_fresh = record { held = lit≤ tt; line = tt; strays = tt }

ranged_reverted : (now : ℕ) (its : InverterRecord) → IsRanged its → IsRanged (reverted now its)
ranged_reverted now its is =
    elim (cases_Bool (is_due now its.due)) [
      | inl due ↦ rw due (record { held = lit≤ tt; line = is.line; strays = is.strays })
      | inr later ↦ rw later is
    ]

pub ranged_at : (now : ℕ) (its : InverterRecord) → IsRanged its → IsRanged (inverter_at now its)
unfolding inverter_at
ranged_at now its is =
    let was = ranged_reverted now its is in
    record {
      held = was.held;
      line = all_filter InRangeOf (λ request. not (is_late_request now request)) (reverted now its).line was.line;
      strays = all_filter (λ stray. stray.write.raw ≤ 65535) (λ stray. not (is_late now stray.write)) (reverted now its).strays was.strays;
    }

pub ranged_queued : (reply : Reply) (its : InverterRecord) → AllByRecursion InRangeOf (requested reply) → IsRanged its → IsRanged (queued reply its)
unfolding queued
ranged_queued reply its new is = record { held = is.held; line = all_append InRangeOf its.line (requested reply) is.line new; strays = is.strays }

pub ranged_holding : (raw revert : ℕ) (its : InverterRecord) → raw ≤ 65535 → IsRanged its → IsRanged (holding raw revert its)
unfolding holding
ranged_holding raw revert its small is = record { held = small; line = is.line; strays = is.strays }

ranged_old : (life : ℕ) (line : List Request) → AllByRecursion InRangeOf line → AllByRecursion (λ stray. stray.write.raw ≤ 65535) (old_writes life line)
ranged_old life [] all = tt
ranged_old life (sent.Write write ∷ line) all = (all.0, ranged_old life line all.1)
ranged_old life (sent.Read read ∷ line) all = ranged_old life line all.1

pub ranged_emptied : (life : ℕ) (its : InverterRecord) → IsRanged its → IsRanged (emptied life its)
unfolding emptied
ranged_emptied life its is = record {
  held = is.held;
  line = tt;
  strays = all_append (λ stray. stray.write.raw ≤ 65535) its.strays (old_writes life its.line) is.strays (ranged_old life its.line is.line);
}

pub ranged_without_first : (its : InverterRecord) → IsRanged its → IsRanged (without_first its)
unfolding without_first
ranged_without_first its is = record { held = is.held; line = all_drop InRangeOf 1 its.line is.line; strays = is.strays }

pub ranged_without_old : (place : ℕ) (chosen : OldWrite) (its : InverterRecord) → IsRanged its → IsRanged (without_old place chosen its)
unfolding without_old
ranged_without_old place chosen its is =
    let P : OldWrite → Type 0 = λ stray. stray.write.raw ≤ 65535 in
    record {
      held = is.held;
      line = is.line;
      strays = all_append P _ _ (all_filter P (λ other. not (is_of_link chosen other)) (take (place + 1) its.strays) (all_take P (place + 1) its.strays is.strays)) (all_drop P (place + 1) its.strays is.strays);
    }

pub all_changed : (P : InverterRecord → Type 0) (number : ℕ) (change : InverterRecord → InverterRecord) (xs : List InverterRecord) → ((its : InverterRecord) → P its → P (change its)) → AllByRecursion P xs → AllByRecursion P (changed_at number change xs)
all_changed P number change [] keeps all = tt
all_changed P zero change (x ∷ xs) keeps all = (keeps x all.0, all.1)
all_changed P (suc number) change (x ∷ xs) keeps all = (all.0, all_changed P number change xs keeps all.1)

pub all_each : (P : InverterRecord → Type 0) (change : InverterRecord → InverterRecord) (xs : List InverterRecord) → ((its : InverterRecord) → P its → P (change its)) → AllByRecursion P xs → AllByRecursion P (map change xs)
all_each P change [] keeps all = tt
all_each P change (x ∷ xs) keeps all = (keeps x all.0, all_each P change xs keeps all.1)

pub all_replicate : (P : InverterRecord → Type 0) (n : ℕ) (its : InverterRecord) → P its → AllByRecursion P (replicate n its)
all_replicate P zero its fact = tt
all_replicate P (suc n) its fact = (fact, all_replicate P n its fact)

-- the request of a reply is in range, where the raw percentage that was asked for is
requested_by : (reply : Reply) → ((write : writes.Write) → reply ≡ replies.Granted write → write.raw ≤ 65535) → ((read : reads.Read) → reply ≡ replies.ReadAs read → read.number ≤ 65535) → AllByRecursion InRangeOf (requested reply)
requested_by (replies.Granted write) one two = (one write refl, tt)
requested_by (replies.ReadAs read) one two = (two read refl, tt)
requested_by _ one two = tt

read_small : (book : BookRecord) (call : Call) (read : reads.Read) → reply_to book call ≡ replies.ReadAs read → read.number ≤ 65535
read_small book call read is = let at = read_is_at book call read is in omega (arith, at.number, at.left)

pub asked_ranged : (book : BookRecord) (at inverter raw : ℕ) → raw ≤ 65535 → AllByRecursion InRangeOf (requested (reply_to book (calls.Ask at inverter raw)))
asked_ranged book at inverter raw small =
    requested_by (reply_to book (calls.Ask at inverter raw)) (λ write is. omega (arith, raw_by_ask book at inverter raw write is, small)) (read_small book (calls.Ask at inverter raw))

pub read_ranged : (book : BookRecord) (at inverter : ℕ) → AllByRecursion InRangeOf (requested (reply_to book (calls.Read at inverter)))
unfolding reply_to_read
read_ranged book at inverter =
    requested_by (reply_to book (calls.Read at inverter)) (λ write is. absurd (never write is)) (read_small book (calls.Read at inverter))
  where
    never : (write : writes.Write) → reply_to_read book at inverter ≡ replies.Granted write → ⊥
    never write is =
        let linked = rest_of (eqb (link_number inverter book.entries) 0) _ _ (replies.Granted write) (λ no. cc) is in
        let left = rest_of (leb REQUESTS_MAX (requests inverter book.entries)) _ _ (replies.Granted write) (λ no. cc) linked.1 in
        let no = left.1 in cc
