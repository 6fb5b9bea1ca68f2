-- What an inverter may have done over a history: the timed device. A whole write acts at once and starts its timer
-- anew; when the timer runs out the inverter goes back to its floor.
use Rattle.std.specs.Prelude.{◌≡◌, ℕ, ◌+◌, ◌≤◌, ◌==◌, ◌&&◌, Bool, true, false, List, [], ◌∷◌}
use Rattle.std.specs.Prelude.{◌++◌, find, Option, Some, None, IsSomeAnd, count_by, Contains}
use Rattle.limiter_num.specs.declared.rules.Rules.{Rules}
use Rattle.limiter_num.specs.Timers.{tmin, tmax, last_act}
use Rattle.plant_book.specs.Sums.{last_that}
use Rattle.plant_book.specs.Site.{SiteRecord, floor_raw_at}
use Rattle.plant_book.specs.History.{History, Grant, Sight, grants, sights, is_granted_after}
use Rattle.plant_book.specs.History.{link_of_grant, link_of_sight}

-- a write acts, the timer runs out, or a read is looked at
pub data Event : Type 0 where
  Act : Grant → Event
  Revert : Event
  Look : Sight → Event

-- an event and its moment
pub record Timed : Type 0 where
  pub at : ℕ
  pub event : Event

abbrev pub changes : Event → Bool
changes (Act grant) = true
changes Revert = true
changes (Look sight) = false

-- whether what is held may change: an Act or a Revert
abbrev pub is_change : Timed → Bool
is_change timed = changes timed.event

abbrev pub held_after : ℕ → Event → ℕ
held_after floor (Act grant) = grant.write.raw
held_after floor Revert = floor
held_after floor (Look sight) = floor

abbrev pub held_by : ℕ → Option Timed → ℕ
held_by floor None = floor
held_by floor (Some timed) = held_after floor timed.event

-- the raw percentage that is held after these events: that of the last Act, if no Revert follows it, else the
-- floor
unfoldable pub held : SiteRecord → ℕ → List Timed → ℕ
held site inverter events = held_by (floor_raw_at site inverter) (last_that is_change events)

-- one event stands somewhere before another
pub record Precedes (events : List Timed) (first second : Timed) : Type 0 where
  pub before : List Timed
  pub between : List Timed
  pub after : List Timed
  pub stand : events ≡ before ++ first ∷ (between ++ second ∷ after)

-- the link and the number of a request that acted or was looked at, which on one link never fall
abbrev pub IsAsked : Event → ℕ × ℕ → ℕ → Type 0
IsAsked (Act grant) link number = (link_of_grant grant ≡ link) × (grant.write.number ≡ number)
IsAsked Revert link number = ⊥
IsAsked (Look sight) link number = (link_of_sight sight ≡ link) × (sight.read.number ≡ number)

abbrev pub is_look_of : Sight → Event → Bool
is_look_of sight (Act grant) = false
is_look_of sight Revert = false
is_look_of sight (Look other) = (other.life == sight.life) && (other.place == sight.place)

abbrev pub IsAct : Event → Type 0
IsAct (Act grant) = Unit {0}
IsAct Revert = ⊥
IsAct (Look sight) = ⊥

-- What the timed device allows an inverter to have done.
pub record IsBehaviour (history : History) (inverter : ℕ) (events : List Timed) : Type 0 where
  -- the moments never fall
  pub in_order : (first second : Timed) → Precedes events first second → first.at ≤ second.at
  -- an Act is one of a write of the inverter that may act, not before its grant, and in its send window and
  -- delay
  pub acts : (before after : List Timed) (at : ℕ) (grant : Grant)
      → events ≡ before ++ record { at = at; event = Act grant } ∷ after
      → Contains (grants history) grant × (grant.write.inverter ≡ inverter)
      × (grant.write.at ≤ at) × (at ≤ last_act history.life.site.rules grant.write.at)
  -- on one link requests act, and are looked at, in rising order of their numbers
  pub numbers : (first second : Timed) → Precedes events first second → (link : ℕ × ℕ) (one other : ℕ)
      → IsAsked first.event link one → IsAsked second.event link other → one ≤ other
  -- each answered read was looked at once
  pub looked : (sight : Sight) → Contains (sights history) sight → sight.read.inverter ≡ inverter
      → count_by (λ timed. is_look_of sight timed.event) events ≡ 1
  -- and nothing else was: between the read and its Saw, and before every Act of a write that was granted
  -- after that Saw
  pub looks : (before after : List Timed) (at : ℕ) (sight : Sight)
      → events ≡ before ++ record { at = at; event = Look sight } ∷ after
      → Contains (sights history) sight × (sight.read.inverter ≡ inverter) × (sight.read.at ≤ at)
      × (at ≤ sight.at)
  pub looks_first : (sight : Sight) (grant : Grant) (first second : Timed) → Precedes events first second
      → first.event ≡ Act grant → second.event ≡ Look sight → is_granted_after sight grant ≡ false
  -- after an Act another Act or a Revert follows, at most the longest timer later
  pub ends : (before after : List Timed) (at : ℕ) (grant : Grant)
      → events ≡ before ++ record { at = at; event = Act grant } ∷ after
      → IsSomeAnd (find is_change after) (λ next. next.at ≤ at + tmax history.life.site.rules)
  -- a Revert comes from the shortest to the longest timer after the last Act before it, with no other Revert
  -- between
  pub reverts : (before after : List Timed) (at : ℕ)
      → events ≡ before ++ record { at = at; event = Revert } ∷ after
      → IsSomeAnd (last_that is_change before) (λ last. IsAct last.event
      × (last.at + tmin history.life.site.rules ≤ at) × (at ≤ last.at + tmax history.life.site.rules))
  -- what a Look showed was held
  pub shown : (before after : List Timed) (at : ℕ) (sight : Sight)
      → events ≡ before ++ record { at = at; event = Look sight } ∷ after
      → held history.life.site inverter before ≡ sight.raw

-- a write that acts at the last moment at which it may, and the longest timer after it the Revert
abbrev pub acts_last : Rules → Grant → List Timed
acts_last rules grant =
    record { at = last_act rules grant.write.at; event = Act grant }
    ∷ record { at = last_act rules grant.write.at + tmax rules; event = Revert } ∷ []

-- a write that acts, a look while it is held, and the longest timer after the Act the Revert
abbrev pub acts_and_shows : Rules → Grant → Sight → ℕ → ℕ → List Timed
acts_and_shows rules grant sight acted looked =
    record { at = acted; event = Act grant } ∷ record { at = looked; event = Look sight }
    ∷ record { at = acted + tmax rules; event = Revert } ∷ []

-- no read of the inverter was answered
abbrev pub IsUnseen : History → ℕ → Type 0
IsUnseen history inverter = (sight : Sight) → Contains (sights history) sight
    → sight.read.inverter ≡ inverter → ⊥

-- The only answered read of an inverter may have shown a write that acted at this moment and was looked at at this
-- one: the write was not granted behind the Saw, on its link it is no later request, and its raw percentage was
-- shown.
pub record MayShow (history : History) (inverter : ℕ) (grant : Grant) (sight : Sight)
    (acted looked : ℕ) : Type 0 where
  pub granted : Contains (grants history) grant
  pub its_write : grant.write.inverter ≡ inverter
  pub acts_from : grant.write.at ≤ acted
  pub acts_until : acted ≤ last_act history.life.site.rules grant.write.at
  pub seen : Contains (sights history) sight
  pub its_read : sight.read.inverter ≡ inverter
  pub looks_from : sight.read.at ≤ looked
  pub looks_until : looked ≤ sight.at
  pub held_from : acted ≤ looked
  pub held_until : looked ≤ acted + tmax history.life.site.rules
  pub shown : grant.write.raw ≡ sight.raw
  pub not_after : is_granted_after sight grant ≡ false
  pub in_order : link_of_grant grant ≡ link_of_sight sight → grant.write.number ≤ sight.read.number
  pub only : (other : Sight) → Contains (sights history) other → other.read.inverter ≡ inverter
      → other ≡ sight
