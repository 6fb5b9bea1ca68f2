-- What one more entry of a joined book leaves reserved: a grant raises it to its limit at the most, and nothing else
-- raises it.
use Rattle.std.proofs.Common.{◌≡◌, ℕ, ◌≤◌, max, Bool, true, false, not, eqb, leb, ltb, List, [], ◌∷◌, ◌++◌, map, length, refl, sym, ap, ◌∙◌, arith, inl, inr}
use Rattle.std.specs.Prelude.{filter, fold}
use Rattle.std.proofs.lemmas.Bool.{cases_Bool, eq-eqb, ne_eqb}
use Rattle.std.proofs.lemmas.List.{append-nil}
use Rattle.limiter_num.specs.Timers.{last_moment}
use Rattle.plant_book.specs.declared.call.Reply.TheVariants as replies
use Rattle.plant_book.specs.declared.call.Write as writes
use Rattle.plant_book.specs.declared.call.TheConstants.{REQUESTS_MAX, LIVE_MAX}
use Rattle.plant_book.specs.declared.book.Entry.{Entry}
use Rattle.plant_book.specs.Site.{mw_at, full_at, floor_at}
use Rattle.plant_book.specs.Book.{BookRecord}
use Rattle.plant_book.specs.Calls.{moment}
use Rattle.plant_book.specs.Requests.{link_number, requests}
use Rattle.plant_book.specs.Writes.{granted, ends, live}
use Rattle.plant_book.specs.Policy.{target_at}
use Rattle.plant_book.specs.Reserved.{covering, reserved_at, reserved, unreserved_at, now_of}
use Rattle.plant_book.specs.Answer.{reply_to_ask, reply_by_policy, reply_by_watts, raise_at, write_at, silent_until}
use Rattle.plant_book.specs.Lifetime.{left_after, granted_to, LiveOn}
use Rattle.plant_book.proofs.Granting.{rest_of}
use Rattle.plant_book.proofs.Maxima.{fold_max-push}

-- fewer values have no greater greatest
greatest_of_fewer : {X : Type 0} (f : X → ℕ) (keeps : X → Bool) (d e : ℕ) (xs : List X) → d ≤ e → fold max d (map f (filter keeps xs)) ≤ fold max e (map f xs)
greatest_of_fewer f keeps d e [] le = le
greatest_of_fewer f keeps d e (x ∷ xs) le =
    elim (cases_Bool (keeps x)) [
      | inl stays ↦ rw stays (greatest_of_fewer f keeps (max d (f x)) (max e (f x)) xs (omega arith))
      | inr goes ↦ rw goes (greatest_of_fewer f keeps d (max e (f x)) xs (omega arith))
    ]

module _ (old : BookRecord) (entry : Entry) (new : BookRecord) (on : LiveOn old entry new) (inverter : ℕ) where
  abbrev left : List writes.Write
  left = left_after old.site.rules old.entries entry (live old.site.rules old.entries (now_of old) inverter)

  left_no_more : covering old.site inverter left ≤ reserved old inverter
  unfolding covering reserved_at
  left_no_more =
      let watts : writes.Write → ℕ = λ write. mw_at old.site inverter write.raw in
      let floor = floor_at old.site inverter in
      let all = live old.site.rules old.entries (now_of old) inverter in
      let stays : writes.Write → Bool = λ write. not (ends old.site.rules old.entries entry write) in
      omega (
        arith,
        greatest_of_fewer watts (λ write. leb (moment entry.call) (last_moment old.site.rules write.at)) floor floor (filter stays all) (omega arith),
        greatest_of_fewer watts stays floor floor all (omega arith),
      )

  -- an inverter to which it grants nothing has no more reserved than before
  pub no_more : granted_to inverter entry ≡ [] → reserved new inverter ≤ reserved old inverter
  no_more none =
      omega (arith, on inverter, ap (covering old.site inverter) (ap (λ (ws : List writes.Write). left ++ ws) none ∙ append-nil left), left_no_more)

  with_one : (write : writes.Write) → covering old.site inverter (left ++ write ∷ []) ≡ max (covering old.site inverter left) (mw_at old.site inverter write.raw)
  unfolding covering
  with_one write = fold_max-push (λ (w : writes.Write). mw_at old.site inverter w.raw) (floor_at old.site inverter) left write

  -- the inverter of the grant has at most the limit reserved besides
  pub raised : (write : writes.Write) → granted_to inverter entry ≡ write ∷ [] → reserved new inverter ≤ max (reserved old inverter) (mw_at old.site inverter write.raw)
  raised write one =
      omega (arith, on inverter, ap (covering old.site inverter) (ap (λ (ws : List writes.Write). left ++ ws) one), with_one write, left_no_more)

-- what an entry grants goes to the inverter of its write
pub grant_is_its_own : (entry : Entry) (write : writes.Write) → entry.reply ≡ replies.Granted write → granted_to write.inverter entry ≡ write ∷ []
grant_is_its_own entry write is =
    ap (filter (λ (w : writes.Write). eqb w.inverter write.inverter)) (ap granted is) ∙ one (eq-eqb write.inverter write.inverter refl)
  where
    one : eqb write.inverter write.inverter ≡ true → filter (λ (w : writes.Write). eqb w.inverter write.inverter) (write ∷ []) ≡ write ∷ []
    one same = rw same refl

pub grant_is_no_others : (entry : Entry) (write : writes.Write) (inverter : ℕ) → entry.reply ≡ replies.Granted write → (inverter ≡ write.inverter → ⊥) → granted_to inverter entry ≡ []
grant_is_no_others entry write inverter is other =
    ap (filter (λ (w : writes.Write). eqb w.inverter inverter)) (ap granted is) ∙ none (ne_eqb write.inverter inverter (λ same. other (sym same)))
  where
    none : eqb write.inverter inverter ≡ false → filter (λ (w : writes.Write). eqb w.inverter inverter) (write ∷ []) ≡ []
    none apart = rw apart refl

pub no_grant : (entry : Entry) (inverter : ℕ) → granted entry.reply ≡ [] → granted_to inverter entry ≡ []
no_grant entry inverter none = ap (filter (λ (w : writes.Write). eqb w.inverter inverter)) none

-- what an Ask is granted is what it asks for
module _ (book : BookRecord) (now inverter raw : ℕ) (write : writes.Write) where
  granted_by_watts : reply_by_watts book now inverter raw ≡ replies.Granted write → write_at book now inverter raw ≡ write
  unfolding reply_by_watts
  granted_by_watts is =
      let watts = rest_of (ltb (unreserved_at book now) (raise_at book now inverter raw)) _ _ (replies.Granted write) (λ no. cc) is in
      let room = rest_of (leb LIVE_MAX (length (live book.site.rules book.entries now inverter))) replies.Crowded (replies.Granted (write_at book now inverter raw)) (replies.Granted write) (λ no. cc) watts.1 in
      same (write_at book now inverter raw) room.1
    where
      same : (made : writes.Write) → replies.Granted made ≡ replies.Granted write → made ≡ write
      same made is = cc

  granted_by_policy : reply_by_policy book now inverter raw ≡ replies.Granted write → write_at book now inverter raw ≡ write
  unfolding reply_by_policy
  granted_by_policy is =
      let over = rest_of (ltb (full_at book.site inverter) raw) _ _ (replies.Granted write) (λ no. cc) is in
      let silent = rest_of (leb now (silent_until book)) _ _ (replies.Granted write) (λ no. cc) over.1 in
      let allowed = rest_of (ltb (target_at book now inverter) (mw_at book.site inverter raw)) _ _ (replies.Granted write) (λ no. cc) silent.1 in
      granted_by_watts allowed.1

  pub granted_is_asked : reply_to_ask book now inverter raw ≡ replies.Granted write → write_at book now inverter raw ≡ write
  unfolding reply_to_ask
  granted_is_asked is =
      let linked = rest_of (eqb (link_number inverter book.entries) 0) _ _ (replies.Granted write) (λ no. cc) is in
      let left = rest_of (leb REQUESTS_MAX (requests inverter book.entries)) _ _ (replies.Granted write) (λ no. cc) linked.1 in
      granted_by_policy left.1
