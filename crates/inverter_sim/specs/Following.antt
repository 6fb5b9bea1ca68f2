-- What an inverter did so far that holds a limit until it reverts, as the timed device does it.
use Rattle.std.specs.Prelude.{◌≡◌, ℕ, ◌+◌, ◌≤◌, ◌⊎◌, false, nat_le, if◌then◌else◌, List, [], ◌∷◌, Option, Some, None, Contains, count_by}
use Rattle.std.specs.List.{AllByRecursion}
use Rattle.limiter_num.specs.declared.rules.Rules.{Rules}
use Rattle.limiter_num.specs.Timers.{tmin, tmax, last_act}
use Rattle.plant_book.specs.Sums.{last_that}
use Rattle.plant_book.specs.History.{History, Grant, Sight, grants, sights, is_granted_after, link_of_grant, link_of_sight}
use Rattle.plant_book.specs.Behaviour.{Event, Act, Revert, Look, Timed, IsAsked, IsBehaviour, is_change, is_look_of, held}
use Rattle.plant_book.specs.Held.{IsCut}
use Rattle.plant_book.specs.Start.{IsStart}
use Rattle.modbus_pdu.specs.declared.pdu.Request.{Request}
use Rattle.modbus_pdu.specs.declared.pdu.Request.TheVariants.{WriteRegs}
use Rattle.der_models.specs.Limit.{limit_registers}
use Rattle.inverter_sim.specs.Bank.{BankRecord}

-- An inverter that follows the timed device over a history: its behaviour, and a cut of it at a moment,
-- behind which it holds this raw percentage.
pub record FollowsDevice (history : History) (inverter at raw : ℕ) : Type 0 where
  pub events : List Timed
  pub first : List Timed
  pub rest : List Timed
  pub behaviour : IsBehaviour history inverter events
  pub cut : IsCut events at first rest
  pub holds : held history.life.site inverter first ≡ raw

-- with a longer history it did the same
pub record IsLonger (old new : History) : Type 0 where
  pub site : new.life.site ≡ old.life.site
  pub grants : (grant : Grant) → Contains (grants old) grant → Contains (grants new) grant
  pub sights : (sight : Sight) → Contains (sights old) sight → Contains (sights new) sight

-- a timer that runs, and when it runs out
pub record IsRunning (rules : Rules) (now due : ℕ) (events : List Timed) : Type 0 where
  pub acted : ℕ
  pub grant : Grant
  pub last : last_that is_change events ≡ Some (record { at = acted; event = Act grant })
  pub from : acted + tmin rules ≤ due
  pub until : due ≤ acted + tmax rules
  pub to_come : now ≤ due

abbrev pub IsTimer : Rules → ℕ → List Timed → Option ℕ → Type 0
IsTimer rules now events None =
    (at : ℕ) (grant : Grant)
    → last_that is_change events ≡ Some (record { at = at; event = Act grant }) → ⊥
IsTimer rules now events (Some due) = IsRunning rules now due events

-- what it did up to now, what it holds, and when its timer runs out
pub record HasFollowed (history : History) (inverter now raw : ℕ) (due : Option ℕ) (events : List Timed) : Type 0 where
  pub start : IsStart history inverter events
  pub until : AllByRecursion (λ timed. timed.at ≤ now) events
  pub once : (sight : Sight) → Contains (sights history) sight → sight.read.inverter ≡ inverter
      → count_by (λ timed. is_look_of sight timed.event) events ≡ 1
  pub holds : held history.life.site inverter events ≡ raw
  pub timer : IsTimer history.life.site.rules now events due

-- a read is answered that shows what is held
pub record IsNewSight (old new : History) (inverter : ℕ) (sight : Sight) : Type 0 where
  pub longer : IsLonger old new
  pub seen : Contains (sights new) sight
  pub its : sight.read.inverter ≡ inverter
  pub other : (one : Sight) → Contains (sights old) one → one.life ≡ sight.life → one.place ≡ sight.place → ⊥
  pub only : (one : Sight) → Contains (sights new) one → Contains (sights old) one ⊎ (one ≡ sight)
  pub not_after : (grant : Grant) → Contains (grants old) grant → is_granted_after sight grant ≡ false

-- a write acts, a revert comes, and a read is looked at
abbrev pub act_at : ℕ → Grant → Timed
act_at at grant = record { at = at; event = Act grant }

abbrev pub revert_at : ℕ → Timed
revert_at at = record { at = at; event = Revert }

abbrev pub look_at : ℕ → Sight → Timed
look_at at sight = record { at = at; event = Look sight }

-- the revert that comes by a moment, where one is due by then
abbrev pub revert_by : ℕ → Option ℕ → List Timed
revert_by now None = []
revert_by now (Some moment) = if nat_le moment now then revert_at moment ∷ [] else []

-- of the requests of this link that acted or were looked at none has a greater number
abbrev pub IsAskedUpTo : List Timed → ℕ × ℕ → ℕ → Type 0
IsAskedUpTo events link most =
    AllByRecursion (λ timed. (number : ℕ) → IsAsked timed.event link number → number ≤ most) events

-- A write may act now: it was granted to the inverter, its send window and delay are not over, and none of its link
-- with a greater number acted or was looked at.
pub record MayAct (history : History) (inverter now : ℕ) (events : List Timed) (grant : Grant) : Type 0 where
  pub granted : Contains (grants history) grant
  pub its : grant.write.inverter ≡ inverter
  pub from : grant.write.at ≤ now
  pub until : now ≤ last_act history.life.site.rules grant.write.at
  pub numbers : IsAskedUpTo events (link_of_grant grant) grant.write.number

-- a time that the tolerance of the timer allows from an act to its revert
pub record IsInTolerance (rules : Rules) (acted revert : ℕ) : Type 0 where
  pub low : acted + tmin rules ≤ revert
  pub high : revert ≤ acted + tmax rules
  pub to_come : acted ≤ revert

-- the request that sets a raw percentage, with the floor and the timer of a bank
abbrev pub limit_write : BankRecord → ℕ → Request
limit_write bank raw = WriteRegs 40310 (limit_registers raw bank.unit.floor bank.rules.timer)
