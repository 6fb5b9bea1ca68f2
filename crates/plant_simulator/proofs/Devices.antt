-- Each inverter that is simulated follows the timed device, so all that is held stays under the cap.
use Rattle.std.proofs.Common.{◌≡◌, ℕ, zero, suc, ◌*◌, ◌<◌, ◌≤◌, Bool, true, cond, leb, List, [], ◌∷◌, ◌++◌, length, replicate, Some, refl, sym, ap, subst, ◌∙◌, arith, inl, inr}
use Rattle.std.specs.Prelude.{slice_get}
use Rattle.std.specs.Option.{option_map_or}
use Rattle.std.proofs.lemmas.Bool.{cases_Bool, cases_lt, eq-eqb, ne_eqb}
use Rattle.std.proofs.lemmas.List.{append-nil, length_push}
use Rattle.std.proofs.Math.ListN.{length-replicate}
use Rattle.limiter_num.specs.Timers.{tmin, tmax}
use Rattle.plant_book.specs.Sums.{sum_below, last_that}
use Rattle.plant_book.specs.Site.{SiteRecord, inverters, mw_at, floor_raw_at}
use Rattle.plant_book.specs.Book.{BookRecord}
use Rattle.plant_book.specs.Calls.{latest}
use Rattle.plant_book.specs.Ceiling.{ceiling}
use Rattle.plant_book.specs.Requests.{link_number}
use Rattle.plant_book.specs.Reserved.{now_of}
use Rattle.plant_book.specs.Answer.{silent_until}
use Rattle.plant_book.specs.Answered.{IsBook}
use Rattle.plant_book.specs.History.{History, IsHistory}
use Rattle.plant_book.specs.Behaviour.{Timed, held, IsBehaviour}
use Rattle.plant_book.specs.Held.{IsCut}
use Rattle.plant_book.specs.Safe.{held_mw}
use Rattle.plant_book.proofs.Maxima.{sum_below_le}
use Rattle.plant_book.proofs.Safe.{safe_history}
use Rattle.restart_silence.proofs.Chain as chains
use Rattle.plant_simulator.specs.Site.{site_of, unit}
use Rattle.plant_simulator.specs.World.{InverterRecord, World, fresh, held_by, held_in}
use Rattle.plant_simulator.specs.Step.{stepped}
use Rattle.plant_simulator.specs.Summary.{unlinked, beginning, plant_after, peak_after}
use Rattle.inverter_sim.specs.Following.{FollowsDevice}
use Rattle.plant_simulator.specs.Devices.{ended_by, ended_after, AreDevices}
use Rattle.plant_simulator.proofs.Running.{runs_after}
use Rattle.plant_simulator.proofs.Peak.{is_peak}
use Rattle.plant_simulator.proofs.Longer.{commissioned}
use Rattle.inverter_sim.proofs.Doing.{does_end}
use Rattle.plant_simulator.proofs.Follows.{Follows, IsTimedSite}
use Rattle.plant_simulator.proofs.Acting.{follows_fresh}
use Rattle.plant_simulator.proofs.Plants.{Each}
use Rattle.plant_simulator.proofs.Happenings.{its_held}
use Rattle.plant_simulator.proofs.Restarting.{Quiet, quiet_linked, leads_stepped}

-- the site that is simulated
floor_of : (n i : ℕ) → i < n → option_map_or (λ u. u.floor) (slice_get (replicate n unit) i) 0 ≡ 100
floor_of zero i lt = absurd (omega (arith, lt))
floor_of (suc n) zero lt = refl
floor_of (suc n) (suc i) lt = floor_of n i (omega (arith, lt))

timed_site : (n i : ℕ) → i < n → IsTimedSite (site_of n) i
unfolding floor_raw_at tmin tmax
timed_site n i lt = record { floor = floor_of n i lt; low = refl; high = refl; last = λ at. omega arith }

-- the beginning
record OfMany (n i : ℕ) (its : InverterRecord) : Type 0 where
  is : its ≡ fresh
  within : i < n

of_many : (n i : ℕ) (its : InverterRecord) → slice_get (replicate n fresh) i ≡ Some its → OfMany n i its
of_many zero i its found = absurd cc
of_many (suc n) zero its found = record { is = one its found; within = omega arith }
  where
    one : (x : InverterRecord) → Some fresh ≡ Some x → x ≡ fresh
    one x e = cc
of_many (suc n) (suc i) its found = let rest = of_many n i its found in record { is = rest.is; within = omega (arith, rest.within) }

quiet_unlinked : (seed n : ℕ) → Quiet [] (unlinked seed n)
unfolding now_of latest last_that
quiet_unlinked seed n = record {
  each = record {
    life = refl;
    time = omega arith;
    plain = refl;
    each = λ i its found.
        let its_place = of_many n i its found in
        let timed = timed_site n i its_place.within in
        record { timed = timed; follows = subst (λ (x : InverterRecord). Follows [] (unlinked seed n).book i 0 (link_number i (unlinked seed n).book.entries) x) (sym its_place.is) (follows_fresh (unlinked seed n).book i 0 refl timed.floor) };
  };
  empty = λ i its found. ap (λ (x : InverterRecord). x.line) (of_many n i its found).is;
}

-- a plant behind so many steps, with the books of its ended lives
record Devices (ended : List BookRecord) (world : World) : Type 0 where
  each : Each ended world
  history : IsHistory (commissioned ended world.book)

first_devices : (seed n : ℕ) → IsBook (beginning seed n).book → Devices [] (beginning seed n)
unfolding beginning
first_devices seed n kept = record { each = (quiet_linked [] n (unlinked seed n) (quiet_unlinked seed n)).each; history = (chains.begins (beginning seed n).book kept).is }

ended_same : (ended : List BookRecord) (old new : World) → new.life ≡ old.life → ended ++ ended_by old new ≡ ended
ended_same ended old new same = ap (λ (b : Bool). ended ++ cond b [] (old.book ∷ [])) (eq-eqb new.life old.life same) ∙ append-nil ended

ended_one : (ended : List BookRecord) (old new : World) → (new.life ≡ old.life → ⊥) → ended ++ ended_by old new ≡ ended ++ old.book ∷ []
ended_one ended old new other = ap (λ (b : Bool). ended ++ cond b [] (old.book ∷ [])) (ne_eqb new.life old.life other)

next_devices : (ended : List BookRecord) (world : World) → Devices ended world → IsBook (stepped world).book → Devices (ended ++ ended_by world (stepped world)) (stepped world)
next_devices ended world is kept =
    let next = stepped world in
    elim ((leads_stepped ended world is.each).is) [
      | inl on ↦
          let same = ended_same ended world next (omega (arith, is.each.life, on.each.life)) in
          subst (λ (books : List BookRecord). Devices books next) (sym same)
          (record { each = on.each; history = (chains.goes_on world.book next.book kept on.site on.start [] ended is.history).is })
      | inr begun ↦
          let one = ended_one ended world next (λ alike. omega (arith, is.each.life, begun.each.life, alike, length_push ended world.book)) in
          subst (λ (books : List BookRecord). Devices books next) (sym one)
          (record { each = begun.each; history = (chains.restarts world.book next.book kept begun.site begun.start [] ended is.history).is })
    ]

module _ (seed n : ℕ) (some : 1 ≤ n) (few : n ≤ 64) where
  devices_after : (steps : ℕ) → steps ≤ 1000000 → Devices (ended_after seed n steps) (plant_after seed n steps)
  unfolding ended_after plant_after
  devices_after zero room = first_devices seed n (runs_after seed n 0 some few room).fine.sound.book
  devices_after (suc steps) room =
      next_devices (ended_after seed n steps) (plant_after seed n steps) (devices_after steps (omega (arith, room))) (runs_after seed n (suc steps) some few room).fine.sound.book

  module _ (steps : ℕ) (room : steps ≤ 1000000) where
    abbrev world : World
    world = plant_after seed n steps

    abbrev chain : History
    chain = commissioned (ended_after seed n steps) world.book

    its_devices : Devices (ended_after seed n steps) world
    its_devices = devices_after steps room

    -- one of the inverters
    record Here (i : ℕ) (xs : List InverterRecord) : Type 0 where
      its : InverterRecord
      found : slice_get xs i ≡ Some its

    here : (xs : List InverterRecord) (i : ℕ) → i < length xs → Here i xs
    here [] i lt = absurd (omega (arith, lt))
    here (x ∷ xs) zero lt = record { its = x; found = refl }
    here (x ∷ xs) (suc i) lt = let rest = here xs i (omega (arith, lt)) in record { its = rest.its; found = rest.found }

    device : (i : ℕ) → i < length world.inverters → FollowsDevice chain i world.moment (held_by world i)
    device i lt =
        let at = here world.inverters i lt in
        let follows = (its_devices.each.each i at.its at.found).follows in
        subst (FollowsDevice chain i world.moment) (sym (its_held i world at.its at.found)) (does_end chain i world.moment follows.events at.its.held at.its.due follows.does)

    pub are_devices : AreDevices n (ended_after seed n steps) world
    are_devices =
        let many = (runs_after seed n steps some few room).fine.as_many in
        record {
          many = many;
          lives = omega (arith, its_devices.each.life);
          chain = its_devices.history;
          from = its_devices.each.time;
          each = λ i lt. device i (omega (arith, many, lt));
        }

    -- a choice for each number
    record Chosen (i : ℕ) : Type 0 where
      events : List Timed
      first : List Timed
      rest : List Timed
      behaviour : i < length world.inverters → IsBehaviour chain i events
      cut : i < length world.inverters → IsCut events world.moment first rest
      holds : i < length world.inverters → held chain.life.site i first ≡ held_by world i

    chosen : (i : ℕ) → Chosen i
    chosen i =
        elim (cases_lt i (length world.inverters)) [
          | inl lt ↦ let is = device i lt in record { events = is.events; first = is.first; rest = is.rest; behaviour = λ _. is.behaviour; cut = λ _. is.cut; holds = λ _. is.holds }
          | inr none ↦ record { events = []; first = []; rest = []; behaviour = λ lt. absurd (omega (arith, lt, none)); cut = λ lt. absurd (omega (arith, lt, none)); holds = λ lt. absurd (omega (arith, lt, none)) }
        ]

    its_site : world.book.site ≡ site_of n
    its_site = let fine = (runs_after seed n steps some few room).fine in fine.sound.site ∙ ap site_of fine.as_many

    as_many : inverters world.book.site ≡ length world.inverters
    as_many = ap inverters its_site ∙ length-replicate n unit ∙ sym (runs_after seed n steps some few room).fine.as_many

    -- no Cap is entered
    ceiling_is : ceiling world.book ≡ n * 3000000
    unfolding ceiling
    ceiling_is =
        elim (cases_Bool (leb (now_of world.book) (silent_until world.book))) [
          | inl silent ↦ rw silent (ap (λ (s : SiteRecord). s.cap) its_site)
          | inr loud ↦ rw (loud, its_devices.each.plain) (ap (λ (s : SiteRecord). s.cap) its_site)
        ]

    held_under : held_in world ≤ n * 3000000
    unfolding held_in
    held_under =
        let safe = safe_history chain its_devices.history (λ _. true) (λ i. (chosen i).events) (λ i. (chosen i).first) (λ i. (chosen i).rest) world.moment
        (λ i lt follows. (chosen i).behaviour (omega (arith, lt, as_many))) its_devices.each.time (λ i lt follows. (chosen i).cut (omega (arith, lt, as_many))) in
        let each = sum_below_le (length world.inverters) (λ i. mw_at world.book.site i (held_by world i)) (λ i. held_mw world.book.site i (chosen i).first)
        (λ i lt. omega (arith, ap (mw_at world.book.site i) ((chosen i).holds lt))) in
        omega (arith, each, safe, ceiling_is, ap (λ (m : ℕ). sum_below m (λ i. held_mw world.book.site i (chosen i).first)) as_many)

  -- and so is the peak
  pub peak_under : (steps : ℕ) → steps ≤ 1000000 → peak_after seed n steps ≤ n * 3000000
  peak_under steps room = let peak = is_peak seed n steps in omega (arith, peak.is, held_under peak.at (omega (arith, peak.within, room)))
