-- The queue after each call has the live writes of all accounts.
use Rattle.std.proofs.Common.{◌≡◌, ◌≢◌, ℕ, suc, zero, ◌+◌, ◌*◌, ◌<◌, ◌≤◌, Bool, true, false, cond, not, ◌&&◌, ◌||◌, eqb, List, [], ◌∷◌, ◌++◌, length, get_or, map, Option, Some, None, refl, sym, ap, subst, ◌∙◌, arith, inl, inr, append_assoc, length-append}
use Rattle.std.specs.Prelude.{filter, slice_set}
use Rattle.std.specs.List.{All, list_any}
use Rattle.std.proofs.lemmas.Bool.{cases_Bool, cases_eq, cases_lt, and_parts, eqb-true, eq-eqb, ne_eqb}
use Rattle.std.proofs.lemmas.List.{get_or-set_same, get_or-set_other, get_or-map, map-append, append-nil, length-map}
use Rattle.std.proofs.lemmas.List.Elements.{All-head, All-tail, All-weaker, All-push, All-filter, filter_passes, filter-append}
use Rattle.std.proofs.lemmas.List.Folds.{list_any_at}
use Rattle.std.proofs.lemmas.List.Filters.{length-filter_both}
use Rattle.limiter_num.specs.declared.rules.Rules.{Rules}
use Rattle.limiter_num.specs.Timers.{last_moment}
use Rattle.plant_book.specs.declared.call.Write as writes
use Rattle.plant_book.specs.Writes.{frees}
use Rattle.revert_timers.specs.declared.expiries.Due.{Due}
use Rattle.revert_timers.specs.Expiries as dues
use Rattle.revert_timers.specs.Expiries.{without_first}
use Rattle.revert_timers.proofs.Lists.{without_first-filter}
use Rattle.uncertain_writes.specs.Live.{is_past, has_numbers, without}
use Rattle.uncertain_writes.proofs.Lists.{filter-filter}
use Rattle.plant_book.specs.declared.call.Call.{Call}
use Rattle.plant_book.specs.declared.call.Call.TheVariants as calls
use Rattle.plant_book.specs.declared.call.Reply.{Reply}
use Rattle.plant_book.specs.declared.call.Reply.TheVariants as replies
use Rattle.plant_book.specs.declared.site.Unit.{Unit as Inverter}
use Rattle.plant_book.specs.declared.book.Entry.{Entry}
use Rattle.plant_book.specs.Calls.{named}
use Rattle.plant_ledger.specs.Account.{Account, after_call, first_account}
use Rattle.plant_ledger.specs.Ledger.{account_at}
use Rattle.plant_ledger.specs.Queue.{due_of, is_of, is_due, AreNumbered, AreQueued, HavePlaces, without_writes, queue_after}

and_swap : (a b : Bool) → (a && b) ≡ (b && a)
and_swap true true = refl
and_swap true false = refl
and_swap false true = refl
and_swap false false = refl

-- two filters in either order
filter-swap : {X : Type 0} (p q : X → Bool) (xs : List X) → filter p (filter q xs) ≡ filter q (filter p xs)
filter-swap p q xs =
    filter-filter q p (λ x. q x && p x) (λ x. refl) xs
    ∙ sym (filter-filter p q (λ x. q x && p x) (λ x. and_swap (q x) (p x)) xs)

-- a filter of mapped elements
filter-map_step : (b c : Bool) (x : writes.Write) (d : Due) (f : writes.Write → Due) (ys : List Due) (xs : List writes.Write) → b ≡ c → d ≡ f x → ys ≡ map f xs
    → cond b (d ∷ ys) ys ≡ map f (cond c (x ∷ xs) xs)
filter-map_step b true x d f ys xs same is rest = rw (same, is, rest) refl
filter-map_step b false x d f ys xs same is rest = rw (same, rest) refl

filter-map : (f : writes.Write → Due) (p : Due → Bool) (q : writes.Write → Bool) → ((w : writes.Write) → p (f w) ≡ q w) → (xs : List writes.Write) → filter p (map f xs) ≡ map f (filter q xs)
filter-map f p q same [] = refl
filter-map f p q same (x ∷ xs) = filter-map_step (p (f x)) (q x) x (f x) f (filter p (map f xs)) (filter q xs) (same x) refl (filter-map f p q same xs)

length-filter_le : {X : Type 0} (p : X → Bool) (xs : List X) → length (filter p xs) ≤ length xs
length-filter_le p xs = omega (arith, length-filter_both p (λ x. not (p x)) (λ x. refl) xs)

length-map_due : (f : writes.Write → Due) (xs : List writes.Write) → length (map f xs) ≡ length xs
length-map_due f [] = refl
length-map_due f (x ∷ xs) = omega (arith, length-map_due f xs)

-- places of one inverter
module _ (rules : Rules) (inverter link number : ℕ) where
  abbrev pub test : Due → Bool
  test = dues.has_numbers inverter link number

  -- a write's place has its numbers where the write has
  of_write : (write : writes.Write) → test (due_of rules inverter write) ≡ has_numbers link number write
  of_write write = ap (λ (b : Bool). (b && eqb write.link link) && eqb write.number number) (eq-eqb inverter inverter refl)

  -- a place of these numbers is the inverter's
  test_of : (due : Due) → test due ≡ (is_of inverter due && test due)
  test_of due = both (eqb due.inverter inverter) (eqb due.link link) (eqb due.number number)
    where
      both : (a b c : Bool) → ((a && b) && c) ≡ (a && ((a && b) && c))
      both true b c = refl
      both false b c = refl

  other_of : (other : ℕ) → other ≢ inverter → (due : Due) → is_of other due ≡ (not (test due) && is_of other due)
  other_of other apart due = elim (cases_eq due.inverter other) [
    | inl is ↦
        let off : eqb due.inverter inverter ≡ false = ne_eqb due.inverter inverter (λ same. apart (sym is ∙ same)) in
        sym (ap (λ (b : Bool). not ((b && eqb due.link link) && eqb due.number number) && is_of other due) off)
    | inr differs ↦ let no : eqb due.inverter other ≡ false = ne_eqb due.inverter other differs in no ∙ sym (ap (λ (b : Bool). not (test due) && b) no ∙ and_no (not (test due)))
  ]
    where
      and_no : (b : Bool) → (b && false) ≡ false
      and_no true = refl
      and_no false = refl

  module _ (queue : List Due) (its : List writes.Write) (are : filter (is_of inverter) queue ≡ map (due_of rules inverter) its)
      (once : length (filter (has_numbers link number) its) ≤ 1) where
    few : length (filter test queue) ≤ 1
    few =
        let same : filter test queue ≡ map (due_of rules inverter) (filter (has_numbers link number) its) =
        sym (filter-filter (is_of inverter) test test test_of queue) ∙ ap (filter test) are ∙ filter-map (due_of rules inverter) test (has_numbers link number) of_write its in
        omega (arith, ap (λ (ds : List Due). length ds) same, length-map_due (due_of rules inverter) (filter (has_numbers link number) its), once)

    left_is : without_first test queue ≡ filter (λ due. not (test due)) queue
    left_is = without_first-filter test queue few

    pub own_left : filter (is_of inverter) (without_first test queue) ≡ map (due_of rules inverter) (without (has_numbers link number) its)
    own_left =
        ap (filter (is_of inverter)) left_is
        ∙ filter-swap (is_of inverter) (λ (due : Due). not (test due)) queue
        ∙ ap (filter (λ (due : Due). not (test due))) are
        ∙ filter-map (due_of rules inverter) (λ (due : Due). not (test due)) (λ (write : writes.Write). not (has_numbers link number write)) (λ write. ap not (of_write write)) its

    pub other_left : (other : ℕ) → other ≢ inverter → filter (is_of other) (without_first test queue) ≡ filter (is_of other) queue
    other_left other apart =
        ap (filter (is_of other)) left_is
        ∙ filter-filter (λ (due : Due). not (test due)) (is_of other) (is_of other) (other_of other apart) queue

    pub all_left : (P : Due → Type 0) → All P queue → All P (without_first test queue)
    all_left P all = subst (λ (ds : List Due). All P ds) (sym left_is) (All-filter (λ (due : Due). not (test due)) P queue all)

none_step : {X : Type 0} (b : Bool) (x : X) (xs passing failing : List X) → length (cond b (x ∷ passing) passing) ≤ 0 → (length passing ≤ 0 → failing ≡ xs) → cond (not b) (x ∷ failing) failing ≡ x ∷ xs
none_step true x xs passing failing none same = absurd (omega (arith, none))
none_step {X} false x xs passing failing none same = ap (λ (ys : List X). x ∷ ys) (same none)

-- where no element passes, all stay
none_passes : {X : Type 0} (p : X → Bool) (xs : List X) → length (filter p xs) ≤ 0 → filter (λ x. not (p x)) xs ≡ xs
none_passes p [] none = refl
none_passes p (x ∷ xs) none = none_step (p x) x xs (filter p xs) (filter (λ y. not (p y)) xs) none (none_passes p xs)

length-two : {X : Type 0} (p : X → Bool) (front later : List X) → length (filter p (front ++ later)) ≡ length (filter p front) + length (filter p later)
length-two {X} p front later = omega (arith, ap (λ (xs : List X). length xs) (filter-append p front later), length-append (filter p front) (filter p later))

length-head : {X : Type 0} (b : Bool) (x : X) (xs : List X) → length xs ≤ length (cond b (x ∷ xs) xs)
length-head true x xs = omega arith
length-head false x xs = omega arith

-- without the only one that passes
only_gone : (p : writes.Write → Bool) (front : List writes.Write) (one : writes.Write) (later : List writes.Write) → p one ≡ true → length (filter p (front ++ one ∷ later)) ≤ 1
    → filter (λ w. not (p w)) (front ++ one ∷ later) ≡ front ++ later
only_gone p front one later passes once =
    let here : length (filter p (one ∷ later)) ≡ length (filter p later) + 1 = rw passes (omega arith) in
    let both = length-two p front (one ∷ later) in
    let before = none_passes p front (omega (arith, both, here, once)) in
    let behind = none_passes p later (omega (arith, both, here, once)) in
    let gone : filter (λ w. not (p w)) (one ∷ later) ≡ filter (λ w. not (p w)) later = rw passes refl in
    filter-append (λ w. not (p w)) front (one ∷ later) ∙ ap (λ (ws : List writes.Write). ws ++ filter (λ w. not (p w)) (one ∷ later)) before ∙ ap (λ (ws : List writes.Write). front ++ ws) (gone ∙ behind)

-- what is left of the queue: the places of one inverter are those of these writes, the others stay
pub record Left (rules : Rules) (inverter : ℕ) (queue left : List Due) (its : List writes.Write) : Type 1 where
  pub own : filter (is_of inverter) left ≡ map (due_of rules inverter) its
  pub others : (other : ℕ) → other ≢ inverter → filter (is_of other) left ≡ filter (is_of other) queue
  pub all : (P : Due → Type 0) → All P queue → All P left

module _ (rules : Rules) (inverter : ℕ) where
  pub one_left : (link number : ℕ) (queue : List Due) (its : List writes.Write) → filter (is_of inverter) queue ≡ map (due_of rules inverter) its
      → length (filter (has_numbers link number) its) ≤ 1 → Left rules inverter queue (without_first (dues.has_numbers inverter link number) queue) (without (has_numbers link number) its)
  one_left link number queue its are once = record {
    own = own_left rules inverter link number queue its are once;
    others = other_left rules inverter link number queue its are once;
    all = all_left rules inverter link number queue its are once;
  }

  -- all that a test finds, one after another
  pub freed_left : (p : writes.Write → Bool) (front later : List writes.Write) (queue : List Due) → filter (is_of inverter) queue ≡ map (due_of rules inverter) (front ++ later)
      → ((link number : ℕ) → length (filter (has_numbers link number) (front ++ later)) ≤ 1)
      → Left rules inverter queue (without_writes inverter (filter p later) queue) (front ++ filter (λ w. not (p w)) later)
  freed_left p front [] queue are once = record { own = are; others = λ other apart. refl; all = λ P all. all }
  freed_left p front (one ∷ later) queue are once =
      elim (cases_Bool (p one)) [
        | inl goes ↦
            let left = without_first (dues.has_numbers inverter one.link one.number) queue in
            let its : has_numbers one.link one.number one ≡ true = rw (eq-eqb one.link one.link refl) (eq-eqb one.number one.number refl) in
            let first = one_left one.link one.number queue (front ++ one ∷ later) are (once one.link one.number) in
            let are_left : filter (is_of inverter) left ≡ map (due_of rules inverter) (front ++ later) =
            first.own ∙ ap (map (due_of rules inverter)) (only_gone (has_numbers one.link one.number) front one later its (once one.link one.number)) in
            let rest = freed_left p front later left are_left (λ link number.
            let test = has_numbers link number in
            omega (arith, once link number, length-two test front (one ∷ later), length-two test front later, length-head (test one) one (filter test later))) in
            rw goes (record {
              own = rest.own;
              others = λ other apart. rest.others other apart ∙ first.others other apart;
              all = λ P all. rest.all P (first.all P all);
            })
        | inr stays ↦
            let through = append_assoc front (one ∷ []) later in
            let rest = freed_left p (front ++ one ∷ []) later queue (are ∙ ap (map (due_of rules inverter)) (sym through))
            (λ link number. subst (λ (ws : List writes.Write). length (filter (has_numbers link number) ws) ≤ 1) (sym through) (once link number)) in
            rw stays (subst (λ (ws : List writes.Write). Left rules inverter queue (without_writes inverter (filter p later) queue) ws)
            (append_assoc front (one ∷ []) (filter (λ w. not (p w)) later)) rest)
      ]

-- a write behind the others
module _ (rules : Rules) (inverter : ℕ) (queue : List Due) (its : List writes.Write) (write : writes.Write) (are : filter (is_of inverter) queue ≡ map (due_of rules inverter) its) where
  pub own_more : filter (is_of inverter) (queue ++ due_of rules inverter write ∷ []) ≡ map (due_of rules inverter) (its ++ write ∷ [])
  own_more =
      let here : filter (is_of inverter) (due_of rules inverter write ∷ []) ≡ due_of rules inverter write ∷ [] = rw (eq-eqb inverter inverter refl) refl in
      filter-append (is_of inverter) queue (due_of rules inverter write ∷ [])
      ∙ ap (λ (ds : List Due). ds ++ filter (is_of inverter) (due_of rules inverter write ∷ [])) are
      ∙ ap (λ (ds : List Due). map (due_of rules inverter) its ++ ds) here
      ∙ sym (map-append (due_of rules inverter) its (write ∷ []))

  pub other_more : (other : ℕ) → other ≢ inverter → filter (is_of other) (queue ++ due_of rules inverter write ∷ []) ≡ filter (is_of other) queue
  other_more other apart =
      let none : filter (is_of other) (due_of rules inverter write ∷ []) ≡ [] = rw (ne_eqb inverter other (λ same. apart (sym same))) refl in
      filter-append (is_of other) queue (due_of rules inverter write ∷ []) ∙ ap (λ (ds : List Due). filter (is_of other) queue ++ ds) none ∙ append-nil (filter (is_of other) queue)

-- a write that is granted now has the next number of its link
pub record IsNextGrant (now : ℕ) (write : writes.Write) (account : Account) : Type 0 where
  pub link : write.link ≡ account.link
  pub number : write.number ≡ account.requests + 1
  pub at : write.at ≡ now

all_fail : (p : writes.Write → Bool) (xs : List writes.Write) → All (λ x. p x ≡ false) xs → length (filter p xs) ≤ 0
all_fail p [] fail = omega arith
all_fail p (x ∷ xs) fail = rw (All-head (λ (w : writes.Write). p w ≡ false) x xs fail) (all_fail p xs (All-tail (λ (w : writes.Write). p w ≡ false) x xs fail))

numbered_weaker : (link requests more : ℕ) (its : List writes.Write) → requests ≤ more → AreNumbered link requests its → AreNumbered link more its
numbered_weaker link requests more its le are = record {
  so_far = All-weaker (λ (w : writes.Write). (w.link ≤ link) × (w.link ≡ link → w.number ≤ requests)) (λ (w : writes.Write). (w.link ≤ link) × (w.link ≡ link → w.number ≤ more))
      (λ w is. (is.0, λ same. omega (arith, is.1 same, le))) its are.so_far;
  once = are.once;
}

numbered_link : (link requests : ℕ) (its : List writes.Write) → AreNumbered link requests its → AreNumbered (link + 1) 0 its
numbered_link link requests its are = record {
  so_far = All-weaker (λ (w : writes.Write). (w.link ≤ link) × (w.link ≡ link → w.number ≤ requests)) (λ (w : writes.Write). (w.link ≤ link + 1) × (w.link ≡ link + 1 → w.number ≤ 0))
      (λ w is. (omega (arith, is.0), λ same. absurd (omega (arith, same, is.0)))) its are.so_far;
  once = are.once;
}

numbered_filter : (p : writes.Write → Bool) (link requests : ℕ) (its : List writes.Write) → AreNumbered link requests its → AreNumbered link requests (filter p its)
numbered_filter p link requests its are = record {
  so_far = All-filter p (λ (w : writes.Write). (w.link ≤ link) × (w.link ≡ link → w.number ≤ requests)) its are.so_far;
  once = λ l n. omega (arith, ap (λ (ws : List writes.Write). length ws) (filter-swap (has_numbers l n) p its), length-filter_le p (filter (has_numbers l n) its), are.once l n);
}

numbered_push : (now : ℕ) (account : Account) (write : writes.Write) → IsNextGrant now write account → AreNumbered account.link account.requests account.live
    → AreNumbered account.link (account.requests + 1) (account.live ++ write ∷ [])
numbered_push now account write next are =
    let link = account.link in
    let its = account.live in
    let more = numbered_weaker link account.requests (account.requests + 1) its (omega arith) are in
    record {
      so_far = All-push (λ (w : writes.Write). (w.link ≤ link) × (w.link ≡ link → w.number ≤ account.requests + 1)) its write more.so_far
          (omega (arith, next.link), λ same. omega (arith, next.number));
      once = λ l n.
          let test = has_numbers l n in
          let both = length-two test its (write ∷ []) in
          elim (cases_Bool (test write)) [
            | inl found ↦
                let parts = and_parts (eqb write.link l) (eqb write.number n) found in
                let at_link = eqb-true write.link l parts.0 in
                let at_number = eqb-true write.number n parts.1 in
                let none = all_fail test its (All-weaker (λ (w : writes.Write). (w.link ≤ link) × (w.link ≡ link → w.number ≤ account.requests)) (λ (w : writes.Write). test w ≡ false)
                (λ w is. fails l n w (λ same. omega (arith, is.1 (omega (arith, same, at_link, next.link)), at_number, next.number))) its are.so_far) in
                let one : length (filter test (write ∷ [])) ≡ 1 = rw found refl in
                omega (arith, both, none, one)
            | inr other ↦ let zero : length (filter test (write ∷ [])) ≡ 0 = rw other refl in omega (arith, both, zero, are.once l n)
          ];
    }
  where
    fails : (l n : ℕ) (w : writes.Write) → (w.link ≡ l → w.number < n) → has_numbers l n w ≡ false
    fails l n w below = elim (cases_eq w.link l) [
      | inl same ↦ let apart : w.number ≢ n = λ (is : w.number ≡ n). omega (arith, below same, is) in
          ap (λ (b : Bool). eqb w.link l && b) (ne_eqb w.number n apart) ∙ and_none (eqb w.link l)
      | inr differs ↦ ap (λ (b : Bool). b && eqb w.number n) (ne_eqb w.link l differs)
    ]
      where
        and_none : (b : Bool) → (b && false) ≡ false
        and_none true = refl
        and_none false = refl

pub numbered_after : (rules : Rules) (now : ℕ) (call : Call) (reply : Reply) (account : Account) → AreNumbered account.link account.requests account.live
    → ((write : writes.Write) → reply ≡ replies.Granted write → IsNextGrant now write account)
    → AreNumbered (after_call rules call reply account).link (after_call rules call reply account).requests (after_call rules call reply account).live
numbered_after rules now (calls.Link at inverter) reply account are next = numbered_link account.link account.requests account.live are
numbered_after rules now (calls.Ask at inverter raw) (replies.Granted write) account are next = numbered_push now account write (next write refl) are
numbered_after rules now (calls.Ask at inverter raw) _ account are next = are
numbered_after rules now (calls.Read at inverter) (replies.ReadAs read) account are next = numbered_weaker account.link account.requests (account.requests + 1) account.live (omega arith) are
numbered_after rules now (calls.Read at inverter) _ account are next = are
numbered_after rules now (calls.Saw at inverter number raw) (replies.Freed count reserved) account are next = numbered_filter _ account.link account.requests account.live are
numbered_after rules now (calls.Saw at inverter number raw) (replies.Strange seen) account are next = are
numbered_after rules now (calls.Saw at inverter number raw) _ account are next = are
numbered_after rules now (calls.Back at inverter link number) replies.Taken account are next = numbered_filter _ account.link account.requests account.live are
numbered_after rules now (calls.Back at inverter link number) _ account are next = are
numbered_after rules now (calls.Want at inverter mw) reply account are next = are
numbered_after rules now (calls.Tick at) reply account are next = are
numbered_after rules now (calls.Stop at) reply account are next = are
numbered_after rules now (calls.Cap at mw) reply account are next = are

-- the queue after a call
pub record After (rules : Rules) (inverter : ℕ) (queue after : List Due) (its : List writes.Write) (reply : Reply) : Type 1 where
  pub own : filter (is_of inverter) after ≡ map (due_of rules inverter) its
  pub others : (other : ℕ) → other ≢ inverter → filter (is_of other) after ≡ filter (is_of other) queue
  pub all : (P : Due → Type 0) → All P queue → ((write : writes.Write) → reply ≡ replies.Granted write → P (due_of rules inverter write)) → All P after

some_is : (i j : ℕ) → ◌≡◌ {A = Option ℕ} (Some i) (Some j) → i ≡ j
some_is i j is = cc

module _ (rules : Rules) (account : Account) (queue : List Due) where
  same_after : (inverter : ℕ) (reply : Reply) → filter (is_of inverter) queue ≡ map (due_of rules inverter) account.live → After rules inverter queue queue account.live reply
  same_after inverter reply are = record { own = are; others = λ other apart. refl; all = λ P all new. all }

  left_after : (inverter : ℕ) (reply : Reply) (after : List Due) (its : List writes.Write) → Left rules inverter queue after its → After rules inverter queue after its reply
  left_after inverter reply after its left = record { own = left.own; others = left.others; all = λ P all new. left.all P all }

  module _ (numbered : AreNumbered account.link account.requests account.live) where
    at_own : (call : Call) (reply : Reply) (inverter : ℕ) → named call ≡ Some inverter → ((i : ℕ) → named call ≡ Some i → filter (is_of i) queue ≡ map (due_of rules i) account.live)
        → After rules inverter queue (queue_after rules call reply account queue) (after_call rules call reply account).live reply
    at_own (calls.Link at other) reply inverter is are = same_after inverter reply (are inverter is)
    at_own (calls.Ask at other raw) (replies.Granted write) inverter is are =
        subst (λ (i : ℕ). After rules i queue (queue ++ due_of rules other write ∷ []) (account.live ++ write ∷ []) (replies.Granted write)) (some_is other inverter is) (record {
          own = own_more rules other queue account.live write (are other refl);
          others = other_more rules other queue account.live write (are other refl);
          all = λ P all new. All-push P queue (due_of rules other write) all (new write refl);
        })
    at_own (calls.Ask at other raw) r inverter is are = same_after inverter r (are inverter is)
    at_own (calls.Read at other) (replies.ReadAs read) inverter is are = same_after inverter (replies.ReadAs read) (are inverter is)
    at_own (calls.Read at other) r inverter is are = same_after inverter r (are inverter is)
    at_own (calls.Saw at other number raw) (replies.Freed count reserved) inverter is are =
        subst (λ (i : ℕ). After rules i queue (queue_after rules (calls.Saw at other number raw) (replies.Freed count reserved) account queue)
        (without (frees rules account.pending raw) account.live) (replies.Freed count reserved)) (some_is other inverter is)
        (left_after other (replies.Freed count reserved) _ _ (freed_left rules other (frees rules account.pending raw) [] account.live queue (are other refl) numbered.once))
    at_own (calls.Saw at other number raw) (replies.Strange seen) inverter is are = same_after inverter (replies.Strange seen) (are inverter is)
    at_own (calls.Saw at other number raw) r inverter is are = same_after inverter r (are inverter is)
    at_own (calls.Back at other link number) replies.Taken inverter is are =
        subst (λ (i : ℕ). After rules i queue (queue_after rules (calls.Back at other link number) replies.Taken account queue)
        (without (has_numbers link number) account.live) replies.Taken) (some_is other inverter is)
        (left_after other replies.Taken _ _ (one_left rules other link number queue account.live (are other refl) (numbered.once link number)))
    at_own (calls.Back at other link number) r inverter is are = same_after inverter r (are inverter is)
    at_own (calls.Want at other mw) reply inverter is are = same_after inverter reply (are inverter is)
    at_own (calls.Tick at) reply inverter is are = absurd cc
    at_own (calls.Stop at) reply inverter is are = absurd cc
    at_own (calls.Cap at mw) reply inverter is are = absurd cc

-- an account, to have one where it doesn't matter which
pub any_account : (accounts : List Account) → 0 < length accounts → Account
any_account [] some = absurd (omega (arith, some))
any_account (account ∷ later) some = account

-- the queue after one more entry is the accounts' after it
module _ (rules : Rules) (now : ℕ) (entry : Entry) (accounts others : List Account) (queue after : List Due) (count : length others ≡ length accounts)
    (follows : (inverter : ℕ) (otherwise : Account) → named entry.call ≡ Some inverter
    → others ≡ slice_set accounts inverter (after_call rules entry.call entry.reply (get_or accounts inverter otherwise)))
    (stays : named entry.call ≡ None → others ≡ accounts)
    (moves : (inverter : ℕ) (otherwise : Account) → named entry.call ≡ Some inverter → after ≡ queue_after rules entry.call entry.reply (get_or accounts inverter otherwise) queue)
    (rests : named entry.call ≡ None → after ≡ queue)
    (within : (inverter : ℕ) → named entry.call ≡ Some inverter → inverter < length accounts)
    (next : (inverter : ℕ) (otherwise : Account) (write : writes.Write) → named entry.call ≡ Some inverter → entry.reply ≡ replies.Granted write → IsNextGrant now write (get_or accounts inverter otherwise))
    (queued : AreQueued rules now queue accounts) where
  step : (place : ℕ) (otherwise : Account) → named entry.call ≡ Some place
      → After rules place queue (queue_after rules entry.call entry.reply (get_or accounts place otherwise) queue) (after_call rules entry.call entry.reply (get_or accounts place otherwise)).live entry.reply
  step place otherwise is =
      let account = get_or accounts place otherwise in
      at_own rules account queue (queued.numbered place otherwise (within place is)) entry.call entry.reply place is
      (λ i its. let same = some_is place i (sym is ∙ its) in subst (λ (j : ℕ). filter (is_of j) queue ≡ map (due_of rules j) account.live) same (queued.each place otherwise (within place is)))

  at_place : (place : ℕ) (otherwise : Account) → named entry.call ≡ Some place → get_or others place otherwise ≡ after_call rules entry.call entry.reply (get_or accounts place otherwise)
  at_place place otherwise is =
      ap (λ (all : List Account). get_or all place otherwise) (follows place otherwise is)
      ∙ get_or-set_same accounts place (after_call rules entry.call entry.reply (get_or accounts place otherwise)) otherwise (within place is)

  at_other : (place inverter : ℕ) (otherwise : Account) → named entry.call ≡ Some place → inverter ≢ place → get_or others inverter otherwise ≡ get_or accounts inverter otherwise
  at_other place inverter otherwise is apart =
      ap (λ (all : List Account). get_or all inverter otherwise) (follows place otherwise is)
      ∙ get_or-set_other accounts place inverter (after_call rules entry.call entry.reply (get_or accounts place otherwise)) otherwise apart

  IsNumbered : Account → Type 0
  IsNumbered account = AreNumbered account.link account.requests account.live

  entered_by : (name : Option ℕ) → named entry.call ≡ name → AreQueued rules now after others
  unfolding IsNumbered
  entered_by None is = subst (λ (q : List Due). AreQueued rules now q others) (sym (rests is)) (subst (λ (all : List Account). AreQueued rules now queue all) (sym (stays is)) queued)
  entered_by (Some place) is =
      let any = any_account accounts (omega (arith, within place is)) in
      let one = step place any is in
      let to_after = sym (moves place any is) in
      record {
        each = λ inverter otherwise below.
            elim (cases_eq inverter place) [
              | inl own ↦
                  subst (λ (i : ℕ). filter (is_of i) after ≡ map (due_of rules i) (get_or others i otherwise).live) (sym own)
                  (ap (filter (is_of place)) (moves place otherwise is) ∙ (step place otherwise is).own ∙ ap (λ (a : Account). map (due_of rules place) a.live) (sym (at_place place otherwise is)))
              | inr apart ↦
                  ap (filter (is_of inverter)) (moves place otherwise is) ∙ (step place otherwise is).others inverter apart
                  ∙ queued.each inverter otherwise (omega (arith, below, count)) ∙ ap (λ (a : Account). map (due_of rules inverter) a.live) (sym (at_other place inverter otherwise is apart))
            ];
        of_accounts = subst (λ (q : List Due). All (λ due. due.inverter < length others) q) to_after
            (one.all (λ due. due.inverter < length others)
            (All-weaker (λ (due : Due). due.inverter < length accounts) (λ (due : Due). due.inverter < length others) (λ due low. omega (arith, low, count)) queue queued.of_accounts)
            (λ write reply. omega (arith, within place is, count)));
        in_time = subst (λ (q : List Due). All (λ due. due.last ≤ last_moment rules now) q) to_after
            (one.all (λ due. due.last ≤ last_moment rules now) queued.in_time (λ write reply. omega (arith, (next place any write is reply).at)));
        numbered = λ inverter otherwise below.
            elim (cases_eq inverter place) [
              | inl own ↦
                  subst (λ (i : ℕ). IsNumbered (get_or others i otherwise)) (sym own)
                  (subst IsNumbered (sym (at_place place otherwise is))
                  (numbered_after rules now entry.call entry.reply (get_or accounts place otherwise) (queued.numbered place otherwise (within place is)) (λ write reply. next place otherwise write is reply)))
              | inr apart ↦ subst IsNumbered (sym (at_other place inverter otherwise is apart)) (queued.numbered inverter otherwise (omega (arith, below, count)))
            ];
      }

  pub queued_entered : AreQueued rules now after others
  queued_entered = entered_by (named entry.call) refl

-- at a later moment
pub queued_same : (rules : Rules) (now later : ℕ) (queue : List Due) (accounts : List Account) → now ≤ later → AreQueued rules now queue accounts → AreQueued rules later queue accounts
queued_same rules now later queue accounts le queued = record {
  each = queued.each;
  of_accounts = queued.of_accounts;
  in_time = All-weaker (λ (due : Due). due.last ≤ last_moment rules now) (λ (due : Due). due.last ≤ last_moment rules later) (λ due low. omega (arith, low, le)) queue queued.in_time;
  numbered = queued.numbered;
}

pub queued_later : (rules : Rules) (now later : ℕ) (queue : List Due) (accounts : List Account) → now ≤ later → AreQueued rules now queue accounts
    → AreQueued rules later (filter (λ due. not (dues.is_past later due)) queue) (map (account_at rules later) accounts)
queued_later rules now later queue accounts le first =
    let queued = queued_same rules now later queue accounts le first in
    let at = account_at rules later in
    let stays : Due → Bool = λ due. not (dues.is_past later due) in
    let long = length-map accounts at in
    record {
      each = λ inverter otherwise below.
          let its = get_or-map at accounts inverter otherwise otherwise (omega (arith, below, long)) in
          filter-swap (is_of inverter) stays queue
          ∙ ap (filter stays) (queued.each inverter otherwise (omega (arith, below, long)))
          ∙ filter-map (due_of rules inverter) stays (λ w. not (is_past rules later w)) (λ w. refl) (get_or accounts inverter otherwise).live
          ∙ ap (λ (a : Account). map (due_of rules inverter) a.live) (sym its);
      of_accounts = All-filter stays (λ (due : Due). due.inverter < length (map at accounts)) queue
          (All-weaker (λ (due : Due). due.inverter < length accounts) (λ (due : Due). due.inverter < length (map at accounts)) (λ due low. omega (arith, low, long)) queue queued.of_accounts);
      in_time = All-filter stays (λ (due : Due). due.last ≤ last_moment rules later) queue queued.in_time;
      numbered = λ inverter otherwise below.
          let its = get_or-map at accounts inverter otherwise otherwise (omega (arith, below, long)) in
          subst (λ (a : Account). AreNumbered a.link a.requests a.live) (sym its)
          (numbered_filter (λ w. not (is_past rules later w)) (get_or accounts inverter otherwise).link (get_or accounts inverter otherwise).requests (get_or accounts inverter otherwise).live (queued.numbered inverter otherwise (omega (arith, below, long))));
    }

any_filtered : (p q : Due → Bool) (xs : List Due) → list_any p (filter q xs) ≡ true → list_any p xs ≡ true
any_filtered p q [] found = found
any_filtered p q (x ∷ xs) found = any_step (p x) (q x) refl (any_filtered p q xs) found
  where
    any_step : (b c : Bool) → b ≡ p x → (list_any p (filter q xs) ≡ true → list_any p xs ≡ true) → list_any p (cond c (x ∷ filter q xs) (filter q xs)) ≡ true → (b || list_any p xs) ≡ true
    any_step true c same rest is = refl
    any_step false true same rest is = rest (ap (λ (b : Bool). b || list_any p (filter q xs)) same ∙ is)
    any_step false false same rest is = rest is

-- each live write has its place
pub have_places : (rules : Rules) (now : ℕ) (queue : List Due) (accounts : List Account) → AreQueued rules now queue accounts → HavePlaces rules queue accounts
have_places rules now queue accounts queued inverter otherwise within = λ k d h.
    let its = (get_or accounts inverter otherwise).live in
    let write = get_or its k d in
    let test = is_due rules inverter write in
    let found : test (due_of rules inverter write) ≡ true = rw (eq-eqb inverter inverter refl) (eq-eqb (last_moment rules write.at) (last_moment rules write.at) refl) in
    any_filtered test (is_of inverter) queue
    (ap (list_any test) (queued.each inverter otherwise within)
    ∙ list_any_at test (map (due_of rules inverter) its) k (due_of rules inverter d) (omega (arith, h, length-map_due (due_of rules inverter) its))
    (ap test (get_or-map (due_of rules inverter) its k d (due_of rules inverter d) h) ∙ found))

live_first : (units : List Inverter) (k : ℕ) (d : Account) → k < length (map first_account units) → (get_or (map first_account units) k d).live ≡ []
live_first [] k d h = absurd (omega (arith, h))
live_first (unit ∷ later) zero d h = refl
live_first (unit ∷ later) (suc k) d h = live_first later k d (omega (arith, h))

-- of a book without entries
pub queued_first : (rules : Rules) (start : ℕ) (units : List Inverter) → AreQueued rules start [] (map first_account units)
queued_first rules start units = record {
  each = λ inverter otherwise below. sym (ap (map (due_of rules inverter)) (live_first units inverter otherwise below));
  of_accounts = λ k d h. absurd (omega (arith, h));
  in_time = λ k d h. absurd (omega (arith, h));
  numbered = λ inverter otherwise below.
      let account = get_or (map first_account units) inverter otherwise in
      subst (λ (ws : List writes.Write). AreNumbered account.link account.requests ws) (sym (live_first units inverter otherwise below)) (record {
        so_far = λ k d h. absurd (omega (arith, h));
        once = λ l n. omega arith;
      });
}

-- a queue with a few places of each inverter isn't long
few_places : (n : ℕ) (queue : List Due) → All (λ due. due.inverter < n) queue → ((i : ℕ) → i < n → length (filter (is_of i) queue) ≤ 32) → length queue ≤ 32 * n
few_places zero [] below few = omega arith
few_places zero (due ∷ rest) below few = absurd (omega (arith, All-head (λ (d : Due). d.inverter < 0) due rest below))
few_places (suc n) queue below few =
    let others : Due → Bool = λ due. not (is_of n due) in
    let rest = filter others queue in
    let both = length-filter_both (is_of n) others (λ x. refl) queue in
    let low : All (λ due. due.inverter < n) rest = λ k d h.
    let apart = filter_passes others queue k d h in
    let under = All-filter others (λ (due : Due). due.inverter < suc n) queue below k d h in
    elim (cases_eq (get_or rest k d).inverter n) [
      | inl same ↦ absurd (let both : false ≡ true = sym (ap not (eq-eqb (get_or rest k d).inverter n same)) ∙ apart in cc)
      | inr differs ↦ elim (cases_lt (get_or rest k d).inverter n) [ inl lt ↦ lt | inr le ↦ absurd (differs (omega (arith, le, under))) ]
    ] in
    let tail = few_places n rest low (λ i within. omega (arith, ap (λ (ds : List Due). length ds) (filter-swap (is_of i) others queue), length-filter_le others (filter (is_of i) queue), few i (omega (arith, within)))) in
    omega (arith, both, tail, few n (omega arith))

-- there is room for one more
pub has_place : (rules : Rules) (now : ℕ) (queue : List Due) (accounts : List Account) (inverter : ℕ) (write : writes.Write) (any : Account) → AreQueued rules now queue accounts → length accounts ≤ 64
    → inverter < length accounts → length (get_or accounts inverter any).live < 32 → ((i : ℕ) → i < length accounts → length (get_or accounts i any).live ≤ 32) → length queue < 2048
has_place rules now queue accounts inverter write any queued few within room each =
    let its = (get_or accounts inverter any).live in
    let due = due_of rules inverter write in
    let are = queued.each inverter any within in
    let more = few_places (length accounts) (queue ++ due ∷ []) (All-push (λ (d : Due). d.inverter < length accounts) queue due queued.of_accounts within)
    (λ i below. elim (cases_eq i inverter) [
      | inl own ↦ subst (λ (j : ℕ). length (filter (is_of j) (queue ++ due ∷ [])) ≤ 32) (sym own)
          (omega (arith, ap (λ (ds : List Due). length ds) (own_more rules inverter queue its write are), length-map_due (due_of rules inverter) (its ++ write ∷ []), length-append its (write ∷ []), room))
      | inr apart ↦ omega (
        arith,
        ap (λ (ds : List Due). length ds) (other_more rules inverter queue its write are i apart),
        ap (λ (ds : List Due). length ds) (queued.each i any below),
        length-map_due (due_of rules i) (get_or accounts i any).live,
        each i below,
      )
    ]) in
    omega (arith, more, few, length-append queue (due ∷ []))

-- no read frees nothing
pub none_freed : (rules : Rules) (raw : ℕ) (its : List writes.Write) → filter (frees rules None raw) its ≡ []
none_freed rules raw [] = refl
none_freed rules raw (write ∷ later) = none_freed rules raw later
