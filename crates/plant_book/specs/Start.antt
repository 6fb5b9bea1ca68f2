-- A behaviour up to some moment, which more may follow.
use Rattle.std.specs.Prelude.{◌≡◌, ℕ, ◌+◌, ◌≤◌, false, List, ◌∷◌, ◌++◌, Option, Some, None, find, Contains, IsSomeAnd}
use Rattle.limiter_num.specs.Timers.{tmin, tmax, last_act}
use Rattle.plant_book.specs.Sums.{last_that}
use Rattle.plant_book.specs.History.{History, Grant, Sight, grants, sights, is_granted_after}
use Rattle.plant_book.specs.Behaviour.{Act, Revert, Look, Timed, is_change, IsAct, IsAsked, Precedes, held}

-- the next change, where there is one, comes in time
abbrev pub InTime : ℕ → Option Timed → Type 0
InTime until None = Unit {0}
InTime until (Some next) = next.at ≤ until

-- A behaviour up to some moment: its last Act may still run, and answered reads may still be looked at.
pub record IsStart (history : History) (inverter : ℕ) (events : List Timed) : Type 0 where
  pub in_order : (first second : Timed) → Precedes events first second → first.at ≤ second.at
  pub acts : (before after : List Timed) (at : ℕ) (grant : Grant)
      → events ≡ before ++ record { at = at; event = Act grant } ∷ after
      → Contains (grants history) grant × (grant.write.inverter ≡ inverter)
      × (grant.write.at ≤ at) × (at ≤ last_act history.life.site.rules grant.write.at)
  pub numbers : (first second : Timed) → Precedes events first second → (link : ℕ × ℕ) (one other : ℕ)
      → IsAsked first.event link one → IsAsked second.event link other → one ≤ other
  pub looks : (before after : List Timed) (at : ℕ) (sight : Sight)
      → events ≡ before ++ record { at = at; event = Look sight } ∷ after
      → Contains (sights history) sight × (sight.read.inverter ≡ inverter) × (sight.read.at ≤ at) × (at ≤ sight.at)
  pub looks_first : (sight : Sight) (grant : Grant) (first second : Timed) → Precedes events first second
      → first.event ≡ Act grant → second.event ≡ Look sight → is_granted_after sight grant ≡ false
  pub ends : (before after : List Timed) (at : ℕ) (grant : Grant)
      → events ≡ before ++ record { at = at; event = Act grant } ∷ after
      → InTime (at + tmax history.life.site.rules) (find is_change after)
  pub reverts : (before after : List Timed) (at : ℕ) → events ≡ before ++ record { at = at; event = Revert } ∷ after
      → IsSomeAnd (last_that is_change before) (λ last. IsAct last.event
      × (last.at + tmin history.life.site.rules ≤ at) × (at ≤ last.at + tmax history.life.site.rules))
  pub shown : (before after : List Timed) (at : ℕ) (sight : Sight)
      → events ≡ before ++ record { at = at; event = Look sight } ∷ after
      → held history.life.site inverter before ≡ sight.raw
