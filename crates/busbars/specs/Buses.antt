-- Buses: parts of a plant that have caps of their own, and which lists of them a plant may have.
use Rattle.std.specs.Prelude.{◌≡◌, ◌⊎◌, ℕ, ◌<◌, ◌≤◌, List, [], ◌∷◌, ◌++◌, length, nat_le, Bool, true, ◌&&◌, if◌then◌else◌}
use Rattle.plant_book.specs.Sums.{sum_below}
use Rattle.plant_book.specs.Site.{SiteRecord, inverters, floor_at}
use Rattle.busbars.specs.declared.bus.Bus as bus
use Rattle.busbars.specs.declared.bus.BusCause.{BusCause}
use Rattle.busbars.specs.declared.bus.BusCause.TheVariants as causes
use Rattle.busbars.specs.declared.bus.BusFault.{BusFault}

-- whether the bus holds the inverter: from its first to its last, both with it
abbrev pub holds : bus.Bus → ℕ → Bool
holds bus inverter = nat_le bus.lo inverter && nat_le inverter bus.hi

-- the sum of a number over the members of a bus
abbrev pub sum_of_members : SiteRecord → bus.Bus → (ℕ → ℕ) → ℕ
sum_of_members site bus number = sum_below (inverters site)
    (λ inverter. if holds bus inverter then number inverter else 0)

-- what the members reserve at the least, in milliwatts
abbrev pub floors_of : SiteRecord → bus.Bus → ℕ
floors_of site bus = sum_of_members site bus (floor_at site)

-- its first inverter isn't above its last, and both are inverters of the site
abbrev pub IsOfSite : SiteRecord → bus.Bus → Type 0
IsOfSite site bus = (bus.lo ≤ bus.hi) × (bus.hi < inverters site)

-- an inverter is on both
abbrev pub SharesOne : bus.Bus → bus.Bus → Type 0
SharesOne one other = (inverter : ℕ) × (holds one inverter ≡ true) × (holds other inverter ≡ true)

-- each inverter of the other is on this one
abbrev pub HoldsAll : bus.Bus → bus.Bus → Type 0
HoldsAll one other = (inverter : ℕ) → holds other inverter ≡ true → holds one inverter ≡ true

-- they share an inverter, and neither holds all of the other
pub record Crosses (one other : bus.Bus) : Type 0 where
  pub shared : SharesOne one other
  pub not_outer : HoldsAll one other → ⊥
  pub not_inner : HoldsAll other one → ⊥

-- one of these buses crosses it
abbrev pub CrossesOne : List bus.Bus → bus.Bus → Type 0
CrossesOne [] bus = ⊥
CrossesOne (other ∷ others) bus = Crosses bus other ⊎ CrossesOne others bus

-- a bus without a fault, behind these
pub record Fits (site : SiteRecord) (earlier : List bus.Bus) (bus : bus.Bus) : Type 0 where
  pub of_site : IsOfSite site bus
  pub nested : CrossesOne earlier bus → ⊥
  pub floors : floors_of site bus ≤ bus.cap

-- each of the later buses fits behind those before it
abbrev pub EachFits : SiteRecord → List bus.Bus → List bus.Bus → Type 0
EachFits site earlier [] = Unit {0}
EachFits site earlier (bus ∷ later) = Fits site earlier bus × EachFits site (earlier ++ bus ∷ []) later

-- the first cause that a bus behind these has
abbrev pub HasCause : SiteRecord → List bus.Bus → bus.Bus → BusCause → Type 0
HasCause site earlier bus causes.Range = IsOfSite site bus → ⊥
HasCause site earlier bus causes.Crossing = IsOfSite site bus × CrossesOne earlier bus
HasCause site earlier bus (causes.FloorsOver sum) =
    IsOfSite site bus × (CrossesOne earlier bus → ⊥) × (sum ≡ floors_of site bus) × (bus.cap < sum)

-- the first bus that has a cause, by its place, and its first cause
pub record IsFirstFault (site : SiteRecord) (buses : List bus.Bus) (fault : BusFault) : Type 0 where
  pub before : List bus.Bus
  pub first : bus.Bus
  pub later : List bus.Bus
  pub are : buses ≡ before ++ first ∷ later
  pub place : fault.bus ≡ length before
  pub fit : EachFits site [] before
  pub cause : HasCause site before first fault.cause
