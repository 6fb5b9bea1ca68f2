-- The numbers of requests rise along a link, and where grants and answered reads stand.
use Rattle.std.proofs.Common.{◌≡◌, ℕ, ◌+◌, ◌<◌, ◌≤◌, Bool, true, false, cond, not, ◌||◌, eqb, leb, ltb, List, [], ◌∷◌, ◌++◌, length, map, Option, Some, None, refl, sym, ap, subst, ◌∙◌, append_assoc, arith, inl, inr}
use Rattle.std.specs.Prelude.{filter, Contains, find, reverse}
use Rattle.std.specs.List.{list_any}
use Rattle.std.proofs.lemmas.Bool.{cases_Bool, eqb-true, eq-eqb, leb-false}
use Rattle.std.proofs.lemmas.List.{append-nil}
use Rattle.std.proofs.lemmas.List.Elements.{Contains-push, Contains-append_cases, Contains-append_left, Contains-append_right}
use Rattle.limiter_num.specs.declared.rules.Rules.{Rules}
use Rattle.plant_book.specs.declared.call.Call.{Call}
use Rattle.plant_book.specs.declared.call.Call.TheVariants as calls
use Rattle.plant_book.specs.declared.call.Reply.{Reply}
use Rattle.plant_book.specs.declared.call.Reply.TheVariants as replies
use Rattle.plant_book.specs.declared.call.Write as writes
use Rattle.plant_book.specs.declared.call.Read as reads
use Rattle.plant_book.specs.declared.call.TheConstants.{REQUESTS_MAX, LIVE_MAX}
use Rattle.plant_book.specs.declared.book.Entry.{Entry}
use Rattle.plant_book.specs.Sums.{last_that}
use Rattle.plant_book.specs.Site.{mw_at, full_at, floor_raw_at, floors}
use Rattle.plant_book.specs.Book.{BookRecord}
use Rattle.plant_book.specs.Calls.{moment}
use Rattle.plant_book.specs.Requests.{is_link, links_to, link_number, grants_to, is_request, requests, is_seen, changes_by, changes_pending, read_of, pending_after, pending_read}
use Rattle.plant_book.specs.Writes.{grant_of, ends, ends_by, ends_later, standing, live, is_numbered}
use Rattle.plant_book.specs.Policy.{is_sight, sees, target_at}
use Rattle.plant_book.specs.Reserved.{unreserved_at}
use Rattle.plant_book.specs.Answer.{reply_to, reply_to_ask, reply_by_policy, reply_by_watts, reply_to_read, reply_to_saw, reply_to_back, reply_to_cap, raise_at, write_at, silent_until, is_pending, is_raw_of}
use Rattle.plant_book.specs.History.{Grant, Sight, gives_back, is_given_back, life_grants, sight_of, sight_by, life_sights}
use Rattle.plant_book.proofs.Steps.{requests-push, count_by-push}
use Rattle.plant_book.proofs.Granting.{rest_of}
use Rattle.plant_book.proofs.Last.{last_that-stands, some_is}
use Rattle.plant_book.proofs.Maxima.{only_element}
use Rattle.plant_book.proofs.Freeing.{or_false_parts, Contains-filter, Contains-filtered}

module _ (inverter : ℕ) where
  link_number-push : (entries : List Entry) (entry : Entry) → link_number inverter (entries ++ entry ∷ []) ≡ link_number inverter entries + cond (is_link inverter entry) 1 0
  unfolding link_number
  link_number-push entries entry = count_by-push (is_link inverter) entries entry

  -- links only come
  links_grow : (before later : List Entry) → link_number inverter before ≤ link_number inverter (before ++ later)
  links_grow before [] = omega (arith, ap (link_number inverter) (append-nil before))
  links_grow before (entry ∷ later) =
      omega (arith, link_number-push before entry, links_grow (before ++ entry ∷ []) later, ap (link_number inverter) (append_assoc before (entry ∷ []) later))

  -- on one link requests only come
  requests_grow : (before later : List Entry) → link_number inverter (before ++ later) ≡ link_number inverter before → requests inverter before ≤ requests inverter (before ++ later)
  requests_grow before [] same = omega (arith, ap (requests inverter) (append-nil before))
  requests_grow before (entry ∷ later) same =
      let through : (before ++ entry ∷ []) ++ later ≡ before ++ entry ∷ later = append_assoc before (entry ∷ []) later in
      let more = links_grow (before ++ entry ∷ []) later in
      let all = ap (link_number inverter) through in
      elim (cases_Bool (is_link inverter entry)) [
        | inl link ↦ absurd (let one : link_number inverter (before ++ entry ∷ []) ≡ link_number inverter before + 1 = link_number-push before entry ∙ rw link refl in omega (arith, one, more, all, same))
        | inr other ↦
            let none : link_number inverter (before ++ entry ∷ []) ≡ link_number inverter before = link_number-push before entry ∙ rw other (omega arith) in
            let rest = requests_grow (before ++ entry ∷ []) later (omega (arith, none, all, same)) in
            omega (arith, rest, requests-push inverter before entry other, ap (requests inverter) through)
      ]

  -- a request behind another one of its link has a greater number
  pub number_rises : (before later : List Entry) (entry : Entry) → is_request inverter entry ≡ true → is_link inverter entry ≡ false
      → link_number inverter (before ++ entry ∷ later) ≡ link_number inverter before → requests inverter before + 1 ≤ requests inverter (before ++ entry ∷ later)
  number_rises before later entry request other same =
      let through : (before ++ entry ∷ []) ++ later ≡ before ++ entry ∷ later = append_assoc before (entry ∷ []) later in
      let none : link_number inverter (before ++ entry ∷ []) ≡ link_number inverter before = link_number-push before entry ∙ rw other (omega arith) in
      let one : requests inverter (before ++ entry ∷ []) ≡ requests inverter before + 1 = requests-push inverter before entry other ∙ rw request refl in
      let rest = requests_grow (before ++ entry ∷ []) later (ap (link_number inverter) through ∙ same ∙ sym none) in
      omega (arith, one, rest, ap (requests inverter) through)

-- an entry that makes a request is no Link
pub request_is_no_link : (inverter : ℕ) (book : BookRecord) (call : Call) (reply : Reply) → reply ≡ reply_to book call → grants_to inverter reply ≡ true → links_to inverter call ≡ false
request_is_no_link inverter book (calls.Link at other) reply right request = absurd (let never = subst (λ (r : Reply). grants_to inverter r ≡ true) right request in cc)
request_is_no_link inverter book _ reply right request = refl

-- what a numbered read is
pub record IsReadAt (book : BookRecord) (now : ℕ) (read : reads.Read) : Type 0 where
  pub link : read.link ≡ link_number read.inverter book.entries
  pub number : read.number ≡ requests read.inverter book.entries + 1
  pub left : requests read.inverter book.entries < REQUESTS_MAX

read_is : (made read : reads.Read) → replies.ReadAs made ≡ replies.ReadAs read → made ≡ read
read_is made read is = cc

by_read : (book : BookRecord) (now inverter : ℕ) (read : reads.Read) → reply_to_read book now inverter ≡ replies.ReadAs read → IsReadAt book now read
unfolding reply_to_read
by_read book now inverter read is =
    let linked = rest_of (eqb (link_number inverter book.entries) 0) _ _ (replies.ReadAs read) (λ other. cc) is in
    let left = rest_of (leb REQUESTS_MAX (requests inverter book.entries)) _ _ (replies.ReadAs read) (λ other. cc) linked.1 in
    subst (λ (r : reads.Read). IsReadAt book now r) (read_is _ read left.1) (record { link = refl; number = refl; left = leb-false REQUESTS_MAX (requests inverter book.entries) left.0 })

no_read_by_watts : (book : BookRecord) (now inverter raw : ℕ) (read : reads.Read) → reply_by_watts book now inverter raw ≡ replies.ReadAs read → ⊥
unfolding reply_by_watts
no_read_by_watts book now inverter raw read is =
    let watts = rest_of (ltb (unreserved_at book now) (raise_at book now inverter raw)) _ _ (replies.ReadAs read) (λ other. cc) is in
    let room = rest_of (leb LIVE_MAX (length (live book.site.rules book.entries now inverter))) replies.Crowded (replies.Granted (write_at book now inverter raw)) (replies.ReadAs read) (λ other. cc) watts.1 in
    let never = room.1 in cc

no_read_by_policy : (book : BookRecord) (now inverter raw : ℕ) (read : reads.Read) → reply_by_policy book now inverter raw ≡ replies.ReadAs read → ⊥
unfolding reply_by_policy
no_read_by_policy book now inverter raw read is =
    let over = rest_of (ltb (full_at book.site inverter) raw) _ _ (replies.ReadAs read) (λ other. cc) is in
    let silent = rest_of (leb now (silent_until book)) _ _ (replies.ReadAs read) (λ other. cc) over.1 in
    let allowed = rest_of (ltb (target_at book now inverter) (mw_at book.site inverter raw)) _ _ (replies.ReadAs read) (λ other. cc) silent.1 in
    no_read_by_watts book now inverter raw read allowed.1

no_read_by_ask : (book : BookRecord) (now inverter raw : ℕ) (read : reads.Read) → reply_to_ask book now inverter raw ≡ replies.ReadAs read → ⊥
unfolding reply_to_ask
no_read_by_ask book now inverter raw read is =
    let linked = rest_of (eqb (link_number inverter book.entries) 0) _ _ (replies.ReadAs read) (λ other. cc) is in
    let left = rest_of (leb REQUESTS_MAX (requests inverter book.entries)) _ _ (replies.ReadAs read) (λ other. cc) linked.1 in
    no_read_by_policy book now inverter raw read left.1

no_read_by_saw : (book : BookRecord) (now inverter number raw : ℕ) (read : reads.Read) → reply_to_saw book now inverter number raw ≡ replies.ReadAs read → ⊥
unfolding reply_to_saw
no_read_by_saw book now inverter number raw read is =
    let pending = rest_of (not (is_pending (pending_read inverter book.entries) number)) _ _ (replies.ReadAs read) (λ other. cc) is in
    let known = rest_of (not (is_raw_of (floor_raw_at book.site inverter) raw (live book.site.rules book.entries now inverter))) _ _ (replies.ReadAs read) (λ other. cc) pending.1 in
    let never = known.1 in cc

no_read_by_back : (book : BookRecord) (now inverter link number : ℕ) (read : reads.Read) → reply_to_back book now inverter link number ≡ replies.ReadAs read → ⊥
unfolding reply_to_back
no_read_by_back book now inverter link number read is =
    let taken = rest_of (list_any (is_numbered inverter link number) (live book.site.rules book.entries now inverter)) _ _ (replies.ReadAs read) (λ other. cc) is in
    let never = taken.1 in cc

no_read_by_cap : (book : BookRecord) (now watts : ℕ) (read : reads.Read) → reply_to_cap book now watts ≡ replies.ReadAs read → ⊥
unfolding reply_to_cap
no_read_by_cap book now watts read is =
    let out = rest_of (ltb watts (floors book.site) || ltb book.site.cap watts) _ _ (replies.ReadAs read) (λ other. cc) is in
    let never = out.1 in cc

pub read_is_at : (book : BookRecord) (call : Call) (read : reads.Read) → reply_to book call ≡ replies.ReadAs read → IsReadAt book (moment call) read
read_is_at book (calls.Link at inverter) read is = absurd cc
read_is_at book (calls.Ask at inverter raw) read is = absurd (no_read_by_ask book at inverter raw read is)
read_is_at book (calls.Read at inverter) read is = by_read book at inverter read is
read_is_at book (calls.Saw at inverter number raw) read is = absurd (no_read_by_saw book at inverter number raw read is)
read_is_at book (calls.Back at inverter link number) read is = absurd (no_read_by_back book at inverter link number read is)
read_is_at book (calls.Want at inverter mw) read is = absurd cc
read_is_at book (calls.Tick at) read is = absurd cc
read_is_at book (calls.Stop at) read is = absurd cc
read_is_at book (calls.Cap at mw) read is = absurd (no_read_by_cap book at mw read is)

-- where a write that stands was granted: no later entry ends it
pub record StandsAt (rules : Rules) (later : List Entry) (write : writes.Write) : Type 0 where
  pub front : List Entry
  pub entry : Entry
  pub behind : List Entry
  pub stand : later ≡ front ++ entry ∷ behind
  pub grants : Contains (grant_of entry) write
  pub kept : is_given_back behind write ≡ false

gives_back_ends : (rules : Rules) (before : List Entry) (call : Call) (reply : Reply) (write : writes.Write) → ends_by rules before call reply write ≡ false → gives_back call reply write ≡ false
gives_back_ends rules before (calls.Back at inverter link number) reply write is = is
gives_back_ends rules before _ reply write is = refl

not_given_back : (rules : Rules) (before later : List Entry) (write : writes.Write) → ends_later rules before later write ≡ false → is_given_back later write ≡ false
unfolding ends_later
not_given_back rules before [] write is = refl
not_given_back rules before (entry ∷ later) write is =
    let parts = or_false_parts (ends rules before entry write) (ends_later rules (before ++ entry ∷ []) later write) is in
    rw (gives_back_ends rules before entry.call entry.reply write parts.0) (not_given_back rules (before ++ entry ∷ []) later write parts.1)

not_true : (b : Bool) → not b ≡ true → b ≡ false
not_true true is = absurd cc
not_true false is = refl

pub stands_at : (rules : Rules) (before later : List Entry) (write : writes.Write) → Contains (standing rules before later) write → StandsAt rules later write
unfolding standing
stands_at rules before [] write within = absurd (omega (arith, within.1))
stands_at rules before (entry ∷ later) write within =
    let through = before ++ entry ∷ [] in
    let stays : writes.Write → Bool = λ w. not (ends_later rules through later w) in
    elim (Contains-append_cases (filter stays (grant_of entry)) (standing rules through later) write within) [
      | inl here ↦
          let passes = Contains-filter stays (grant_of entry) write here in
          record { front = []; entry = entry; behind = later; stand = refl; grants = passes.within; kept = not_given_back rules through later write (not_true (ends_later rules through later write) passes.passes) }
      | inr rest ↦
          let at = stands_at rules through later write rest in
          record { front = entry ∷ at.front; entry = at.entry; behind = at.behind; stand = ap (λ (es : List Entry). entry ∷ es) at.stand; grants = at.grants; kept = at.kept }
    ]

Contains-map : {X Y : Type 0} (f : X → Y) (xs : List X) (x : X) → Contains xs x → Contains (map f xs) (f x)
Contains-map f [] x within = absurd (omega (arith, within.1))
Contains-map {Y = Y} f (y ∷ xs) x within =
    elim (Contains-append_cases (y ∷ []) xs x within) [
      | inl here ↦ subst (λ z. Contains (f y ∷ map f xs) (f z)) (only_element y x here) (Contains-append_left (f y ∷ []) (map f xs) (f y) (Contains-push [] (f y)))
      | inr later ↦ Contains-append_right (f y ∷ []) (map f xs) (f x) (Contains-map f xs x later)
    ]

-- a grant that isn't given back is one of its life's
pub grant_within : (life place : ℕ) (front : List Entry) (entry : Entry) (behind : List Entry) (write : writes.Write) → Contains (grant_of entry) write → is_given_back behind write ≡ false
    → Contains (life_grants life place (front ++ entry ∷ behind)) (record { life = life; place = place + length front; write = write })
grant_within life place [] entry behind write grants kept =
    let made : writes.Write → Grant = λ w. record { life = life; place = place; write = w } in
    let stays : writes.Write → Bool = λ w. not (is_given_back behind w) in
    let here : Contains (map made (filter stays (grant_of entry))) (made write) = Contains-map made (filter stays (grant_of entry)) write (Contains-filtered stays (grant_of entry) write grants (ap not kept)) in
    let same : place ≡ place + 0 = omega arith in
    subst (λ (n : ℕ). Contains (life_grants life place (entry ∷ behind)) (record { life = life; place = n; write = write })) same
    (Contains-append_left (map made (filter stays (grant_of entry))) (life_grants life (place + 1) behind) (made write) here)
grant_within life place (one ∷ front) entry behind write grants kept =
    let rest = grant_within life (place + 1) front entry behind write grants kept in
    let same : (place + 1) + length front ≡ place + length (one ∷ front) = omega arith in
    subst (λ (n : ℕ). Contains (life_grants life place (one ∷ (front ++ entry ∷ behind))) (record { life = life; place = n; write = write })) same
    (Contains-append_right _ (life_grants life (place + 1) (front ++ entry ∷ behind)) (record { life = life; place = (place + 1) + length front; write = write }) rest)

-- where a grant of a life stands
pub record GrantAt (life place : ℕ) (later : List Entry) (grant : Grant) : Type 0 where
  pub front : List Entry
  pub entry : Entry
  pub behind : List Entry
  pub stand : later ≡ front ++ entry ∷ behind
  pub grants : Contains (grant_of entry) grant.write
  pub in_life : grant.life ≡ life
  pub in_place : grant.place ≡ place + length front

record MadeAt (life place : ℕ) (its : List writes.Write) (grant : Grant) : Type 0 where
  within : Contains its grant.write
  in_life : grant.life ≡ life
  in_place : grant.place ≡ place

made_at : (life place : ℕ) (its : List writes.Write) (grant : Grant) → Contains (map (λ (write : writes.Write). record { life = life; place = place; write = write }) its) grant → MadeAt life place its grant
made_at life place [] grant within = absurd (omega (arith, within.1))
made_at life place (write ∷ its) grant within =
    let one : Grant = record { life = life; place = place; write = write } in
    elim (Contains-append_cases (one ∷ []) _ grant within) [
      | inl here ↦
          subst (λ (g : Grant). MadeAt life place (write ∷ its) g) (only_element one grant here)
          (record { within = Contains-append_left (write ∷ []) its write (Contains-push [] write); in_life = refl; in_place = refl })
      | inr later ↦ let rest = made_at life place its grant later in record { within = Contains-append_right (write ∷ []) its grant.write rest.within; in_life = rest.in_life; in_place = rest.in_place }
    ]

pub grant_at : (life place : ℕ) (later : List Entry) (grant : Grant) → Contains (life_grants life place later) grant → GrantAt life place later grant
grant_at life place [] grant within = absurd (omega (arith, within.1))
grant_at life place (entry ∷ later) grant within =
    let stays : writes.Write → Bool = λ w. not (is_given_back later w) in
    elim (Contains-append_cases (map (λ (write : writes.Write). record { life = life; place = place; write = write }) (filter stays (grant_of entry))) (life_grants life (place + 1) later) grant within) [
      | inl here ↦
          let made = made_at life place (filter stays (grant_of entry)) grant here in
          record { front = []; entry = entry; behind = later; stand = refl; grants = (Contains-filter stays (grant_of entry) grant.write made.within).within; in_life = made.in_life; in_place = omega (arith, made.in_place) }
      | inr rest ↦
          let at = grant_at life (place + 1) later grant rest in
          record {
            front = entry ∷ at.front;
            entry = at.entry;
            behind = at.behind;
            stand = ap (λ (es : List Entry). entry ∷ es) at.stand;
            grants = at.grants;
            in_life = at.in_life;
            in_place = omega (arith, at.in_place);
          }
    ]

-- where the Saw of an answered read stands
pub record SightAt (life place : ℕ) (before later : List Entry) (sight : Sight) : Type 0 where
  pub front : List Entry
  pub entry : Entry
  pub behind : List Entry
  pub stand : later ≡ front ++ entry ∷ behind
  pub in_life : sight.life ≡ life
  pub in_place : sight.place ≡ place + length front
  pub at : sight.at ≡ moment entry.call
  pub inverter : ℕ
  pub seen : is_sight inverter entry ≡ true
  pub pending : pending_read inverter (before ++ front) ≡ Some sight.read

record SeenBy (life place : ℕ) (before : List Entry) (call : Call) (reply : Reply) (sight : Sight) : Type 0 where
  in_life : sight.life ≡ life
  in_place : sight.place ≡ place
  at : sight.at ≡ moment call
  inverter : ℕ
  seen : sees inverter call reply ≡ true
  pending : pending_read inverter before ≡ Some sight.read

seen_of : (life place : ℕ) (pending : Option reads.Read) (raw at : ℕ) (sight : Sight) → Contains (sight_of life place pending raw at) sight
    → (sight.life ≡ life) × (sight.place ≡ place) × (sight.at ≡ at) × (pending ≡ Some sight.read)
seen_of life place None raw at sight within = absurd (omega (arith, within.1))
seen_of life place (Some read) raw at sight within =
    let one : Sight = record { life = life; place = place; read = read; raw = raw; at = at } in
    subst (λ (s : Sight). (s.life ≡ life) × (s.place ≡ place) × (s.at ≡ at) × (Some read ≡ Some s.read)) (only_element one sight within) (refl, refl, refl, refl)

seen_if : (b : Bool) (life place : ℕ) (pending : Option reads.Read) (raw at : ℕ) (sight : Sight) → Contains (cond b (sight_of life place pending raw at) []) sight
    → (b ≡ true) × Contains (sight_of life place pending raw at) sight
seen_if true life place pending raw at sight within = (refl, within)
seen_if false life place pending raw at sight within = absurd (omega (arith, within.1))

seen_by : (life place : ℕ) (before : List Entry) (call : Call) (reply : Reply) (sight : Sight) → Contains (sight_by life place before call reply) sight → SeenBy life place before call reply sight
seen_by life place before (calls.Saw at inverter number raw) reply sight within =
    let both = seen_if (is_seen reply) life place (pending_read inverter before) raw at sight within in
    let facts = seen_of life place (pending_read inverter before) raw at sight both.1 in
    record { in_life = facts.0; in_place = facts.1; at = facts.2; inverter = inverter; seen = rw (eq-eqb inverter inverter refl) both.0; pending = facts.3 }
seen_by life place before _ reply sight within = absurd (omega (arith, within.1))

pub sight_at : (life place : ℕ) (before later : List Entry) (sight : Sight) → Contains (life_sights life place before later) sight → SightAt life place before later sight
sight_at life place before [] sight within = absurd (omega (arith, within.1))
sight_at life place before (entry ∷ later) sight within =
    elim (Contains-append_cases (sight_by life place before entry.call entry.reply) (life_sights life (place + 1) (before ++ entry ∷ []) later) sight within) [
      | inl here ↦
          let seen = seen_by life place before entry.call entry.reply sight here in
          record {
            front = [];
            entry = entry;
            behind = later;
            stand = refl;
            in_life = seen.in_life;
            in_place = omega (arith, seen.in_place);
            at = seen.at;
            inverter = seen.inverter;
            seen = seen.seen;
            pending = ap (pending_read seen.inverter) (append-nil before) ∙ seen.pending;
          }
      | inr rest ↦
          let at = sight_at life (place + 1) (before ++ entry ∷ []) later sight rest in
          record {
            front = entry ∷ at.front;
            entry = at.entry;
            behind = at.behind;
            stand = ap (λ (es : List Entry). entry ∷ es) at.stand;
            in_life = at.in_life;
            in_place = omega (arith, at.in_place);
            at = at.at;
            inverter = at.inverter;
            seen = at.seen;
            pending = ap (pending_read at.inverter) (sym (append_assoc before (entry ∷ []) at.front)) ∙ at.pending;
          }
    ]

-- where a pending read was numbered
pub record ReadAt (inverter : ℕ) (entries : List Entry) (read : reads.Read) : Type 0 where
  pub front : List Entry
  pub entry : Entry
  pub behind : List Entry
  pub stand : entries ≡ front ++ entry ∷ behind
  pub reply : entry.reply ≡ replies.ReadAs read
  pub passes : changes_pending inverter entry ≡ true

find_passes : {X : Type 0} (p : X → Bool) (xs : List X) (x : X) → find p xs ≡ Some x → p x ≡ true
find_passes p [] x is = absurd cc
find_passes {X = X} p (y ∷ xs) x is =
    elim (cases_Bool (p y)) [
      | inl passes ↦ let one = rw passes at is in subst (λ (z : X). p z ≡ true) (some_is y x one) passes
      | inr fails ↦ let more = rw fails at is in find_passes p xs x more
    ]

pub last_that_passes : {X : Type 0} (p : X → Bool) (xs : List X) (x : X) → last_that p xs ≡ Some x → p x ≡ true
unfolding last_that
last_that_passes p xs x is = find_passes p (reverse xs) x is

read_reply : (reply : Reply) (read : reads.Read) → read_of reply ≡ Some read → reply ≡ replies.ReadAs read
read_reply (replies.ReadAs made) read is = ap (λ (r : reads.Read). replies.ReadAs r) (some_alike made read is)
  where
    some_alike : (a b : reads.Read) → Some a ≡ Some b → a ≡ b
    some_alike a b is = cc
read_reply _ read is = absurd cc

read_at_last : (inverter : ℕ) (entries : List Entry) (read : reads.Read) (last : Option Entry) → last_that (changes_pending inverter) entries ≡ last → pending_after last ≡ Some read → ReadAt inverter entries read
read_at_last inverter entries read None found is = absurd cc
read_at_last inverter entries read (Some entry) found is =
    let stands = last_that-stands (changes_pending inverter) entries entry found in
    record { front = stands.before; entry = entry; behind = stands.after; stand = stands.stand; reply = read_reply entry.reply read is; passes = last_that_passes (changes_pending inverter) entries entry found }

pub read_at : (inverter : ℕ) (entries : List Entry) (read : reads.Read) → pending_read inverter entries ≡ Some read → ReadAt inverter entries read
unfolding pending_read
read_at inverter entries read is = read_at_last inverter entries read (last_that (changes_pending inverter) entries) refl is

-- a pending read is of the inverter
cond_false : (b : Bool) → cond b false false ≡ true → ⊥
cond_false true is = cc
cond_false false is = cc

pub read_inverter : (inverter : ℕ) (book : BookRecord) (call : Call) (reply : Reply) (read : reads.Read) → reply ≡ reply_to book call → changes_by inverter call reply ≡ true → reply ≡ replies.ReadAs read → read.inverter ≡ inverter
read_inverter inverter book (calls.Link at other) reply read right changes is = absurd (let never = sym right ∙ is in cc)
read_inverter inverter book (calls.Read at other) reply read right changes is =
    eqb-true read.inverter inverter (subst (λ (r : Reply). changes_by inverter (calls.Read at other) r ≡ true) is changes)
read_inverter inverter book (calls.Saw at other number raw) reply read right changes is =
    absurd (cond_false (eqb other inverter) (subst (λ (r : Reply). changes_by inverter (calls.Saw at other number raw) r ≡ true) is changes))
read_inverter inverter book _ reply read right changes is = absurd cc

-- a grant is no sight
pub grant_is_no_sight : (inverter : ℕ) (call : Call) (reply : Reply) (write : writes.Write) → sees inverter call reply ≡ true → reply ≡ replies.Granted write → ⊥
grant_is_no_sight inverter (calls.Saw at other number raw) reply write seen is =
    cond_false (eqb other inverter) (subst (λ (r : Reply). sees inverter (calls.Saw at other number raw) r ≡ true) is seen)
grant_is_no_sight inverter _ reply write seen is = cc
