-- The requests on their way to a simulated inverter: on one link they act, and are looked at, in order.
use Rattle.std.proofs.Common.{◌≡◌, ℕ, zero, suc, ◌+◌, ◌<◌, ◌≤◌, Bool, true, false, not, List, [], ◌∷◌, ◌++◌, take, drop, Some, refl, sym, ap, subst, ◌∙◌, arith, inl, inr}
use Rattle.std.specs.Prelude.{filter, slice_get, Contains}
use Rattle.std.specs.List.{AllByRecursion}
use Rattle.std.proofs.lemmas.Bool.{cases_Bool}
use Rattle.plant_book.specs.declared.call.Write as writes
use Rattle.plant_book.specs.History.{History, grants}
use Rattle.plant_book.specs.Behaviour.{Timed, IsAsked}
use Rattle.plant_book.proofs.Growing.{all_map, all_push}
use Rattle.plant_simulator.specs.declared.inverter.Request.{Request}
use Rattle.plant_simulator.specs.declared.inverter.Request.TheVariants as sent
use Rattle.plant_simulator.specs.declared.inverter.OldWrite.{OldWrite}
use Rattle.plant_simulator.specs.Inverter.{is_late, is_late_request}
use Rattle.plant_simulator.proofs.Ranges.{all_filter, all_append, all_take, all_drop}
use Rattle.inverter_sim.specs.Following.{IsLonger}

-- each element has this relation to each later one
abbrev pub InOrder : {X : Type 0} → (X → X → Type 0) → List X → Type 0
InOrder R [] = Unit {0}
InOrder R (x ∷ xs) = AllByRecursion (R x) xs × InOrder R xs

module _ {X : Type 0} (R : X → X → Type 0) where
  pub order_filter : (p : X → Bool) (xs : List X) → InOrder R xs → InOrder R (filter p xs)
  order_filter p [] order = tt
  order_filter p (x ∷ xs) order =
      elim (cases_Bool (p x)) [
        | inl passes ↦ rw passes (all_filter (R x) p xs order.0, order_filter p xs order.1)
        | inr fails ↦ rw fails (order_filter p xs order.1)
      ]

  pub order_append : (xs ys : List X) → InOrder R xs → InOrder R ys → AllByRecursion (λ x. AllByRecursion (R x) ys) xs → InOrder R (xs ++ ys)
  order_append [] ys one two across = two
  order_append (x ∷ xs) ys one two across = (all_append (R x) xs ys one.0 across.0, order_append xs ys one.1 two across.1)

  all_without : (P : X → Type 0) (p : X → Bool) (n : ℕ) (xs : List X) → AllByRecursion P xs → AllByRecursion P (filter p (take n xs) ++ drop n xs)
  all_without P p n xs all = all_append P (filter p (take n xs)) (drop n xs) (all_filter P p (take n xs) (all_take P n xs all)) (all_drop P n xs all)

  pub order_without : (p : X → Bool) (n : ℕ) (xs : List X) → InOrder R xs → InOrder R (filter p (take n xs) ++ drop n xs)
  order_without p zero [] order = tt
  order_without p zero (x ∷ xs) order = order
  order_without p (suc n) [] order = tt
  order_without p (suc n) (x ∷ xs) order =
      elim (cases_Bool (p x)) [
        | inl passes ↦ rw passes (all_without (R x) p n xs order.0, order_without p n xs order.1)
        | inr fails ↦ rw fails (order_without p n xs order.1)
      ]

  -- what stands behind the element at a place
  pub order_at : (xs : List X) (i : ℕ) (x : X) → InOrder R xs → slice_get xs i ≡ Some x → AllByRecursion (R x) (drop (i + 1) xs)
  order_at [] i x order is = absurd cc
  order_at (y ∷ xs) zero x order is = subst (λ z. AllByRecursion (R z) xs) (same y x is) order.0
    where
      same : (a b : X) → Some a ≡ Some b → a ≡ b
      same a b e = cc
  order_at (y ∷ xs) (suc i) x order is =
      let step : suc (i + 1) ≡ suc i + 1 = omega arith in
      subst (λ (n : ℕ). AllByRecursion (R x) (drop n (y ∷ xs))) step (order_at xs i x order.1 is)

-- an element that passes a filter
pub all_filtered : {X : Type 0} (P Q : X → Type 0) (p : X → Bool) → ((x : X) → P x → p x ≡ true → Q x) → (xs : List X) → AllByRecursion P xs → AllByRecursion Q (filter p xs)
all_filtered P Q p implies [] all = tt
all_filtered P Q p implies (x ∷ xs) all =
    elim (cases_Bool (p x)) [
      | inl passes ↦ rw passes (implies x all.0 passes, all_filtered P Q p implies xs all.1)
      | inr fails ↦ rw fails (all_filtered P Q p implies xs all.1)
    ]

pub not_passes : (b : Bool) → not b ≡ true → b ≡ false
not_passes true is = absurd cc
not_passes false is = refl

abbrev pub number_in : Request → ℕ
number_in (sent.Write write) = write.number
number_in (sent.Read read) = read.number

abbrev pub NotAbove : Request → Request → Type 0
NotAbove one other = number_in one ≤ number_in other

-- on one link
abbrev pub NotAboveOld : OldWrite → OldWrite → Type 0
NotAboveOld one other = one.life ≡ other.life → one.write.link ≡ other.write.link → one.write.number ≤ other.write.number

-- the requests of a link that acted, or were looked at, have no greater number
abbrev pub AskedUpTo : ℕ × ℕ → ℕ → Timed → Type 0
AskedUpTo link most timed = (number : ℕ) → IsAsked timed.event link number → number ≤ most

-- how far an inverter's links and requests came
pub record Stage : Type 0 where
  pub history : History
  pub inverter : ℕ
  pub now : ℕ
  pub clock : ℕ
  pub lives : ℕ
  pub link : ℕ
  pub requests : ℕ
  pub bound : ℕ

-- a request that acted, or was looked at, is of a link and a number so far
pub record IsSoFar (lives link requests life at number : ℕ) : Type 0 where
  pub life_until : life ≤ lives
  pub link_until : life ≡ lives → at ≤ link
  pub number_until : life ≡ lives → at ≡ link → number ≤ requests

abbrev pub IsSent : Stage → Timed → Type 0
IsSent s timed = (life at number : ℕ) → IsAsked timed.event (life, at) number → IsSoFar s.lives s.link s.requests life at number

-- a write that was granted, and may still act
pub record IsGranted (s : Stage) (life : ℕ) (write : writes.Write) : Type 0 where
  pub place : ℕ
  pub granted : Contains (grants s.history) (record { life = life; place = place; write = write })
  pub from : 1 ≤ life
  pub its : write.inverter ≡ s.inverter
  pub at : write.at ≤ s.now

abbrev pub IsOfGrant : Stage → Request → Type 0
IsOfGrant s (sent.Write write) = IsGranted s s.lives write × (write.link ≡ s.link)
IsOfGrant s (sent.Read read) = Unit {0}

pub record IsUnderWay (s : Stage) (events : List Timed) (request : Request) : Type 0 where
  pub low : AllByRecursion (AskedUpTo (s.lives, s.link) (number_in request)) events
  pub high : number_in request ≤ s.requests
  pub granted : IsOfGrant s request
  pub timely : is_late_request s.clock request ≡ false

pub record IsStray (s : Stage) (events : List Timed) (stray : OldWrite) : Type 0 where
  pub low : AllByRecursion (AskedUpTo (stray.life, stray.write.link) stray.write.number) events
  pub granted : IsGranted s stray.life stray.write
  pub until : stray.life ≤ s.lives
  pub old : stray.life ≡ s.lives → stray.write.link < s.bound
  pub timely : is_late s.clock stray.write ≡ false

-- all that is on its way to an inverter
pub record Queue (s : Stage) (events : List Timed) (line : List Request) (strays : List OldWrite) : Type 0 where
  pub sent : AllByRecursion (IsSent s) events
  pub under_way : AllByRecursion (IsUnderWay s events) line
  pub in_order : InOrder NotAbove line
  pub old_writes : AllByRecursion (IsStray s events) strays
  pub old_in_order : InOrder NotAboveOld strays

-- a longer history, a later moment, more requests of the link
pub record GoesOn (old new : Stage) : Type 0 where
  pub longer : IsLonger old.history new.history
  pub inverter : new.inverter ≡ old.inverter
  pub now : old.now ≤ new.now
  pub clock : new.clock ≡ old.clock
  pub lives : new.lives ≡ old.lives
  pub link : new.link ≡ old.link
  pub requests : old.requests ≤ new.requests
  pub bound : old.bound ≤ new.bound

module _ (old new : Stage) (on : GoesOn old new) where
  granted_on : (life : ℕ) (write : writes.Write) → IsGranted old life write → IsGranted new life write
  granted_on life write was = record {
    place = was.place;
    granted = on.longer.grants (record { life = life; place = was.place; write = write }) was.granted;
    from = was.from;
    its = was.its ∙ sym on.inverter;
    at = omega (arith, was.at, on.now);
  }

  of_grant_on : (request : Request) → IsOfGrant old request → IsOfGrant new request
  of_grant_on (sent.Write write) was = (subst (λ (n : ℕ). IsGranted new n write) (sym on.lives) (granted_on old.lives write was.0), was.1 ∙ sym on.link)
  of_grant_on (sent.Read read) was = tt

  sent_on : (timed : Timed) → IsSent old timed → IsSent new timed
  sent_on timed was = λ life at number asked.
      let far = was life at number asked in
      record {
        life_until = omega (arith, far.life_until, on.lives);
        link_until = λ same. omega (arith, far.link_until (same ∙ on.lives), on.link);
        number_until = λ same link. omega (arith, far.number_until (same ∙ on.lives) (link ∙ on.link), on.requests);
      }

  module _ (events : List Timed) where
    under_way_on : (request : Request) → IsUnderWay old events request → IsUnderWay new events request
    under_way_on request was = record {
      low = subst (λ (link : ℕ × ℕ). AllByRecursion (AskedUpTo link (number_in request)) events) (ap (λ (n : ℕ). (n, old.link)) (sym on.lives) ∙ ap (λ (n : ℕ). (new.lives, n)) (sym on.link)) was.low;
      high = omega (arith, was.high, on.requests);
      granted = of_grant_on request was.granted;
      timely = subst (λ (n : ℕ). is_late_request n request ≡ false) (sym on.clock) was.timely;
    }

    stray_on : (stray : OldWrite) → IsStray old events stray → IsStray new events stray
    stray_on stray was = record {
      low = was.low;
      granted = granted_on stray.life stray.write was.granted;
      until = omega (arith, was.until, on.lives);
      old = λ last. omega (arith, was.old (last ∙ on.lives), on.bound);
      timely = subst (λ (n : ℕ). is_late n stray.write ≡ false) (sym on.clock) was.timely;
    }

    pub queue_on : (line : List Request) (strays : List OldWrite) → Queue old events line strays → Queue new events line strays
    queue_on line strays was = record {
      sent = all_map (IsSent old) (IsSent new) sent_on events was.sent;
      under_way = all_map (IsUnderWay old events) (IsUnderWay new events) under_way_on line was.under_way;
      in_order = was.in_order;
      old_writes = all_map (IsStray old events) (IsStray new events) stray_on strays was.old_writes;
      old_in_order = was.old_in_order;
    }

module _ (s : Stage) (events : List Timed) where
  -- writes that are too late leave
  module _ (later : ℕ) where
    abbrev clocked : Stage
    clocked = record s { clock = later }

    granted_clocked : (life : ℕ) (write : writes.Write) → IsGranted s life write → IsGranted clocked life write
    granted_clocked life write was = record { place = was.place; granted = was.granted; from = was.from; its = was.its; at = was.at }

    of_grant_clocked : (request : Request) → IsOfGrant s request → IsOfGrant clocked request
    of_grant_clocked (sent.Write write) was = (granted_clocked s.lives write was.0, was.1)
    of_grant_clocked (sent.Read read) was = tt

    pub queue_timely : (line : List Request) (strays : List OldWrite) → Queue s events line strays
        → Queue clocked events (filter (λ request. not (is_late_request later request)) line) (filter (λ stray. not (is_late later stray.write)) strays)
    queue_timely line strays was = record {
      sent = all_map (IsSent s) (IsSent clocked) (λ timed so_far life at number asked. so_far life at number asked) events was.sent;
      under_way = all_filtered (IsUnderWay s events) (IsUnderWay clocked events) (λ request. not (is_late_request later request))
          (λ request its passes. record { low = its.low; high = its.high; granted = of_grant_clocked request its.granted; timely = not_passes (is_late_request later request) passes }) line was.under_way;
      in_order = order_filter NotAbove (λ request. not (is_late_request later request)) line was.in_order;
      old_writes = all_filtered (IsStray s events) (IsStray clocked events) (λ stray. not (is_late later stray.write))
          (λ stray its passes. record { low = its.low; granted = granted_clocked stray.life stray.write its.granted; until = its.until; old = its.old; timely = not_passes (is_late later stray.write) passes }) strays was.old_writes;
      old_in_order = order_filter NotAboveOld (λ stray. not (is_late later stray.write)) strays was.old_in_order;
    }

  -- one more event
  module _ (timed : Timed) (line : List Request) (strays : List OldWrite) where
    pub queue_event : Queue s events line strays → IsSent s timed → AllByRecursion (λ request. AskedUpTo (s.lives, s.link) (number_in request) timed) line
        → AllByRecursion (λ stray. AskedUpTo (stray.life, stray.write.link) stray.write.number timed) strays → Queue s (events ++ timed ∷ []) line strays
    queue_event was sent on_line on_strays = record {
      sent = all_push (IsSent s) events timed was.sent sent;
      under_way = all_both line was.under_way on_line;
      in_order = was.in_order;
      old_writes = all_both_old strays was.old_writes on_strays;
      old_in_order = was.old_in_order;
    }
      where
        all_both : (line : List Request) → AllByRecursion (IsUnderWay s events) line → AllByRecursion (λ request. AskedUpTo (s.lives, s.link) (number_in request) timed) line → AllByRecursion (IsUnderWay s (events ++ timed ∷ [])) line
        all_both [] its last = tt
        all_both (request ∷ line) its last =
            (record { low = all_push (AskedUpTo (s.lives, s.link) (number_in request)) events timed its.0.low last.0; high = its.0.high; granted = its.0.granted; timely = its.0.timely }, all_both line its.1 last.1)

        all_both_old : (strays : List OldWrite) → AllByRecursion (IsStray s events) strays → AllByRecursion (λ stray. AskedUpTo (stray.life, stray.write.link) stray.write.number timed) strays → AllByRecursion (IsStray s (events ++ timed ∷ [])) strays
        all_both_old [] its last = tt
        all_both_old (stray ∷ strays) its last =
            (record { low = all_push (AskedUpTo (stray.life, stray.write.link) stray.write.number) events timed its.0.low last.0; granted = its.0.granted; until = its.0.until; old = its.0.old; timely = its.0.timely }, all_both_old strays its.1 last.1)
