-- One worker alone, and two halves of workers together.
use Rattle.std.proofs.Common.{◌≡◌, ℕ, zero, suc, ◌<◌, ◌+◌, ◌-◌, ◌≤◌, Bool, true, false, List, [], ◌∷◌, ◌++◌, length, Option, Some, refl, sym, ap, subst, ◌∙◌, arith, get_or, ◌⊎◌, inl, inr, length-append}
use Rattle.std.specs.Prelude.{slice_get, set, ◌==◌}
use Rattle.std.proofs.lemmas.Bool.{eqb-true}
use Rattle.std.proofs.lemmas.Option.{slice_get_within, slice_get-get_or}
use Rattle.world_traits.specs.Links.{Links}
use Rattle.ledger_desk.specs.Desk.{DeskState, DeskTests}
use Rattle.worker_turn.specs.Worker.{WorkerRecord}
use Rattle.plant_run.specs.Forked.{RunsOut, AllRunOut, EachReady}
use Rattle.plant_run.proofs.Seats.{get_same, some_same}

-- a count that isn't 0
pub is_some : (n : ℕ) → (n == 0) ≡ false → 0 < n
is_some zero none = absurd cc
is_some (suc n) some = omega arith

pub is_none : (n : ℕ) → (n == 0) ≡ true → n ≡ 0
is_none n none = eqb-true n 0 none

-- a place less the first ones
less_none : (i : ℕ) → i ≡ i - 0
less_none i = omega arith

less_both : (i n : ℕ) → i - n ≡ suc i - suc n
less_both i n = omega arith

-- an element of two lists together is one of the first, or one of the second behind it
pub get_either : {X : Type 0} (xs ys : List X) (i : ℕ) (x : X) → slice_get (xs ++ ys) i ≡ Some x
    → ((i < length xs) × (slice_get xs i ≡ Some x)) ⊎ ((length xs ≤ i) × (slice_get ys (i - length xs) ≡ Some x))
get_either [] ys i x is = inr (omega arith, subst (λ (m : ℕ). slice_get ys m ≡ Some x) (less_none i) is)
get_either (y ∷ xs) ys zero x is = inl (omega arith, is)
get_either (y ∷ xs) ys (suc i) x is = elim (get_either xs ys i x is) [
  | inl here ↦ inl (omega (arith, here.0), here.1)
  | inr there ↦ inr (omega (arith, there.0), subst (λ (m : ℕ). slice_get ys m ≡ Some x) (less_both i (length xs)) there.1)
]

-- one of the first is below their count, and one behind is not
in_first : {X : Type 0} (xs ys : List X) (i : ℕ) (x : X) → i < length xs → slice_get (xs ++ ys) i ≡ Some x → slice_get xs i ≡ Some x
in_first xs ys i x below is = elim (get_either xs ys i x is) [
  | inl here ↦ here.1
  | inr there ↦ absurd (omega (arith, below, there.0))
]

in_second : {X : Type 0} (xs ys : List X) (i : ℕ) (x : X) → length xs ≤ i → slice_get (xs ++ ys) i ≡ Some x → slice_get ys (i - length xs) ≡ Some x
in_second xs ys i x past is = elim (get_either xs ys i x is) [
  | inl here ↦ absurd (omega (arith, past, here.0))
  | inr there ↦ there.1
]

-- where one count is another's
behind_as : {X : Type 0} (xs ys : List X) (n i : ℕ) (x : X) → n ≡ length xs → n ≤ i → slice_get (xs ++ ys) i ≡ Some x → slice_get ys (i - n) ≡ Some x
behind_as xs ys n i x is past found =
    subst (λ (m : ℕ). slice_get ys (i - m) ≡ Some x) (sym is) (in_second xs ys i x (omega (arith, is, past)) found)

first_as : {X : Type 0} (xs ys : List X) (n i : ℕ) (x : X) → n ≡ length xs → i < n → slice_get (xs ++ ys) i ≡ Some x → slice_get xs i ≡ Some x
first_as xs ys n i x is below found = in_first xs ys i x (omega (arith, is, below)) found

-- what stands at a place is what is read there
pub read_at : {X : Type 0} (xs : List X) (i : ℕ) (x d : X) → slice_get xs i ≡ Some x → x ≡ get_or xs i d
read_at xs i x d is = some_same x (get_or xs i d) (sym is ∙ slice_get-get_or xs i d (slice_get_within xs i x is))

-- the element that was put at a place of a list
put_at : {X : Type 0} (xs : List X) (i : ℕ) (x y : X) → i < length xs → slice_get (set xs i x) i ≡ Some y → y ≡ x
put_at xs i x y within is = some_same y x (sym is ∙ get_same xs i x within)

module _ {D N Kept : Type 0} (state : D → DeskState) (tests : D → DeskTests) (kept_of : D → Kept) (links : N → Option Links)
    (faults : N → ℕ) (may_give : ℕ → Bool) where
  -- no worker
  pub nobody : (workers : List WorkerRecord) (desks : List D) (dialers : List N) → length workers ≡ 0
      → AllRunOut state tests kept_of links faults may_give workers workers desks desks dialers dialers
  nobody workers desks dialers none = record {
    each = λ place before after desk desk_now old new is. absurd (omega (arith, none, slice_get_within workers place before is));
    workers_stay = refl;
    desks_stay = refl;
    dialers_stay = refl;
  }

  -- one worker
  pub alone : (workers : List WorkerRecord) (desks : List D) (dialers : List N) (before after : WorkerRecord) (desk desk_now : D) (old new : N)
      → length workers < 2 → 0 < length workers → length desks ≡ length workers → length dialers ≡ length workers
      → RunsOut state tests kept_of links faults may_give (get_or workers 0 before) after (get_or desks 0 desk) desk_now (get_or dialers 0 old) new
      → length (set workers 0 after) ≡ length workers → length (set desks 0 desk_now) ≡ length desks → length (set dialers 0 new) ≡ length dialers
      → AllRunOut state tests kept_of links faults may_give workers (set workers 0 after) desks (set desks 0 desk_now) dialers (set dialers 0 new)
  alone workers desks dialers before after desk desk_now old new few some as_desks as_dialers ran workers_stay desks_stay dialers_stay = record {
    each = each;
    workers_stay = workers_stay;
    desks_stay = desks_stay;
    dialers_stay = dialers_stay;
  }
    where
      each : (place : ℕ) (w v : WorkerRecord) (d e : D) (n m : N) → slice_get workers place ≡ Some w → slice_get (set workers 0 after) place ≡ Some v
          → slice_get desks place ≡ Some d → slice_get (set desks 0 desk_now) place ≡ Some e
          → slice_get dialers place ≡ Some n → slice_get (set dialers 0 new) place ≡ Some m
          → RunsOut state tests kept_of links faults may_give w v d e n m
      each zero w v d e n m is now desk_is desk_after dialer_is dialer_after =
          let A : WorkerRecord → Type 0 = λ x. RunsOut state tests kept_of links faults may_give x v d e n m in
          let B : WorkerRecord → Type 0 = λ x. RunsOut state tests kept_of links faults may_give (get_or workers 0 before) x d e n m in
          let C : D → Type 0 = λ x. RunsOut state tests kept_of links faults may_give (get_or workers 0 before) after x e n m in
          let E : D → Type 0 = λ x. RunsOut state tests kept_of links faults may_give (get_or workers 0 before) after (get_or desks 0 desk) x n m in
          let F : N → Type 0 = λ x. RunsOut state tests kept_of links faults may_give (get_or workers 0 before) after (get_or desks 0 desk) desk_now x m in
          let G : N → Type 0 = λ x. RunsOut state tests kept_of links faults may_give (get_or workers 0 before) after (get_or desks 0 desk) desk_now (get_or dialers 0 old) x in
          subst A (sym (read_at workers 0 w before is)) (subst B (sym (put_at workers 0 after v some now))
          (subst C (sym (read_at desks 0 d desk desk_is)) (subst E (sym (put_at desks 0 desk_now e (omega (arith, some, as_desks)) desk_after))
          (subst F (sym (read_at dialers 0 n old dialer_is)) (subst G (sym (put_at dialers 0 new m (omega (arith, some, as_dialers)) dialer_after)) ran)))))
      each (suc place) w v d e n m is now desk_is desk_after dialer_is dialer_after =
          absurd (omega (arith, few, slice_get_within workers (suc place) w is))

  -- the same of lists that are these
  pub all_as : (workers workers_as workers_now : List WorkerRecord) (desks desks_as desks_now : List D) (dialers dialers_as dialers_now : List N)
      → workers ≡ workers_as → desks ≡ desks_as → dialers ≡ dialers_as
      → AllRunOut state tests kept_of links faults may_give workers_as workers_now desks_as desks_now dialers_as dialers_now
      → AllRunOut state tests kept_of links faults may_give workers workers_now desks desks_now dialers dialers_now
  all_as workers workers_as workers_now desks desks_as desks_now dialers dialers_as dialers_now same_workers same_desks same_dialers all =
      let P : List WorkerRecord → Type 0 = λ ws. AllRunOut state tests kept_of links faults may_give ws workers_now desks_as desks_now dialers_as dialers_now in
      let Q : List D → Type 0 = λ ds. AllRunOut state tests kept_of links faults may_give workers workers_now ds desks_now dialers_as dialers_now in
      let R : List N → Type 0 = λ ns. AllRunOut state tests kept_of links faults may_give workers workers_now desks desks_now ns dialers_now in
      subst R (sym same_dialers) (subst Q (sym same_desks) (subst P (sym same_workers) all))

  -- two halves
  pub together : (low high low_now high_now : List WorkerRecord) (low_desks high_desks low_desks_now high_desks_now : List D)
      (low_dialers high_dialers low_dialers_now high_dialers_now : List N)
      → length low_desks ≡ length low → length low_dialers ≡ length low
      → AllRunOut state tests kept_of links faults may_give low low_now low_desks low_desks_now low_dialers low_dialers_now
      → AllRunOut state tests kept_of links faults may_give high high_now high_desks high_desks_now high_dialers high_dialers_now
      → AllRunOut state tests kept_of links faults may_give (low ++ high) (low_now ++ high_now) (low_desks ++ high_desks) (low_desks_now ++ high_desks_now)
      (low_dialers ++ high_dialers) (low_dialers_now ++ high_dialers_now)
  together low high low_now high_now low_desks high_desks low_desks_now high_desks_now low_dialers high_dialers low_dialers_now high_dialers_now
      as_desks as_dialers first second = record {
        each = each;
        workers_stay = both_stay low high low_now high_now first.workers_stay second.workers_stay;
        desks_stay = both_stay low_desks high_desks low_desks_now high_desks_now first.desks_stay second.desks_stay;
        dialers_stay = both_stay low_dialers high_dialers low_dialers_now high_dialers_now first.dialers_stay second.dialers_stay;
      }
    where
      both_stay : {X : Type 0} (xs ys zs ws : List X) → length zs ≡ length xs → length ws ≡ length ys → length (zs ++ ws) ≡ length (xs ++ ys)
      both_stay xs ys zs ws one other = omega (arith, length-append zs ws, length-append xs ys, one, other)

      each : (place : ℕ) (w v : WorkerRecord) (d e : D) (n m : N) → slice_get (low ++ high) place ≡ Some w → slice_get (low_now ++ high_now) place ≡ Some v
          → slice_get (low_desks ++ high_desks) place ≡ Some d → slice_get (low_desks_now ++ high_desks_now) place ≡ Some e
          → slice_get (low_dialers ++ high_dialers) place ≡ Some n → slice_get (low_dialers_now ++ high_dialers_now) place ≡ Some m
          → RunsOut state tests kept_of links faults may_give w v d e n m
      each place w v d e n m is now desk_is desk_after dialer_is dialer_after =
          let l = length low in
          let as_now : l ≡ length low_now = sym first.workers_stay in
          let as_desk : l ≡ length low_desks = sym as_desks in
          let as_desk_now : l ≡ length low_desks_now = sym (first.desks_stay ∙ as_desks) in
          let as_dialer : l ≡ length low_dialers = sym as_dialers in
          let as_dialer_now : l ≡ length low_dialers_now = sym (first.dialers_stay ∙ as_dialers) in
          elim (get_either low high place w is) [
            | inl here ↦ first.each place w v d e n m here.1 (first_as low_now high_now l place v as_now here.0 now)
                (first_as low_desks high_desks l place d as_desk here.0 desk_is) (first_as low_desks_now high_desks_now l place e as_desk_now here.0 desk_after)
                (first_as low_dialers high_dialers l place n as_dialer here.0 dialer_is) (first_as low_dialers_now high_dialers_now l place m as_dialer_now here.0 dialer_after)
            | inr there ↦ second.each (place - l) w v d e n m there.1 (behind_as low_now high_now l place v as_now there.0 now)
                (behind_as low_desks high_desks l place d as_desk there.0 desk_is) (behind_as low_desks_now high_desks_now l place e as_desk_now there.0 desk_after)
                (behind_as low_dialers high_dialers l place n as_dialer there.0 dialer_is) (behind_as low_dialers_now high_dialers_now l place m as_dialer_now there.0 dialer_after)
          ]

-- each half of those that are ready is so
module _ {D : Type 0} (state : D → DeskState) where
  get_first : {X : Type 0} (xs ys : List X) (i : ℕ) (x : X) → slice_get xs i ≡ Some x → slice_get (xs ++ ys) i ≡ Some x
  get_first [] ys i x is = absurd cc
  get_first (y ∷ xs) ys zero x is = is
  get_first (y ∷ xs) ys (suc i) x is = get_first xs ys i x is

  get_behind : {X : Type 0} (xs ys : List X) (n i : ℕ) → n ≡ length xs → slice_get (xs ++ ys) (n + i) ≡ slice_get ys i
  get_behind [] ys n i is =
      let none : n + i ≡ i = omega (arith, is) in
      ap (λ (m : ℕ). slice_get ys m) none
  get_behind (y ∷ xs) ys zero i is = absurd (omega (arith, is))
  get_behind (y ∷ xs) ys (suc n) i is =
      let next : suc n + i ≡ suc (n + i) = omega arith in
      ap (λ (m : ℕ). slice_get (y ∷ xs ++ ys) m) next ∙ get_behind xs ys n i (omega (arith, is))

  -- the same of lists that are these
  pub ready_as : (workers workers_as : List WorkerRecord) (desks desks_as : List D) → workers ≡ workers_as → desks ≡ desks_as
      → EachReady state workers desks → EachReady state workers_as desks_as
  ready_as workers workers_as desks desks_as same_workers same_desks ready =
      let P : List WorkerRecord → Type 0 = λ ws. EachReady state ws desks in
      let Q : List D → Type 0 = λ ds. EachReady state workers_as ds in
      subst Q same_desks (subst P same_workers ready)

  pub first_ready : (low high : List WorkerRecord) (low_desks high_desks : List D) → EachReady state (low ++ high) (low_desks ++ high_desks)
      → EachReady state low low_desks
  first_ready low high low_desks high_desks ready = λ place worker desk is desk_is.
      ready place worker desk (get_first low high place worker is) (get_first low_desks high_desks place desk desk_is)

  pub second_ready : (low high : List WorkerRecord) (low_desks high_desks : List D) → length low_desks ≡ length low
      → EachReady state (low ++ high) (low_desks ++ high_desks) → EachReady state high high_desks
  second_ready low high low_desks high_desks as_desks ready = λ place worker desk is desk_is.
      ready (length low + place) worker desk (get_behind low high (length low) place refl ∙ is)
      (get_behind low_desks high_desks (length low) place (sym as_desks) ∙ desk_is)
