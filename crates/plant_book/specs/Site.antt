-- What contracts see of a site, what is true of every site, and the numbers of its inverters.
use Rattle.std.specs.Prelude.{ℕ, ◌^◌, ◌<◌, ◌≤◌, List, length, slice_get}
use Rattle.std.specs.Option.{option_map_or}
use Rattle.limiter_num.specs.declared.rules.Rules.{Rules}
use Rattle.limiter_num.specs.Rating.{mw, full, rated, raw_at_most}
use Rattle.share_policy.specs.declared.claim.Policy.{Policy}
use Rattle.plant_book.specs.declared.site.Unit as unit
use Rattle.plant_book.specs.declared.site.TheConstants.{CAP_MAX, ROOM_MAX}
use Rattle.plant_book.specs.Sums.{sum_below}

-- the cap in milliwatts, the rules, the policy, the room of a book, and the inverters by their numbers
pub record SiteRecord : Type 0 where
  pub cap : ℕ
  pub rules : Rules
  pub policy : Policy
  pub room : ℕ
  pub units : List unit.Unit

-- what is true of every site
pub record IsSite (site : SiteRecord) : Type 0 where
  pub cap : site.cap ≤ CAP_MAX
  pub room_low : 1 ≤ site.room
  pub room_high : site.room ≤ ROOM_MAX
  pub units : length site.units < 2 ^ 32

-- how many inverters the site has
abbrev pub inverters : SiteRecord → ℕ
inverters site = length site.units

-- a number of the inverter, or 0 where the site has none of that number
abbrev pub of_inverter : SiteRecord → ℕ → (unit.Unit → ℕ) → ℕ
of_inverter site inverter number = option_map_or number (slice_get site.units inverter) 0

-- the milliwatts of a raw percentage at the inverter
unfoldable pub mw_at : SiteRecord → ℕ → ℕ → ℕ
mw_at site inverter raw = of_inverter site inverter (λ unit. mw unit.rating raw)

-- the milliwatts of the inverter's floor
unfoldable pub floor_at : SiteRecord → ℕ → ℕ
floor_at site inverter = of_inverter site inverter (λ unit. mw unit.rating unit.floor)

-- the raw percentage of the inverter's floor
unfoldable pub floor_raw_at : SiteRecord → ℕ → ℕ
floor_raw_at site inverter = of_inverter site inverter (λ unit. unit.floor)

-- the inverter's greatest raw percentage
unfoldable pub full_at : SiteRecord → ℕ → ℕ
full_at site inverter = of_inverter site inverter (λ unit. full unit.rating)

-- the milliwatts of the inverter's greatest raw percentage
unfoldable pub rated_at : SiteRecord → ℕ → ℕ
rated_at site inverter = of_inverter site inverter (λ unit. rated unit.rating)

-- the greatest raw percentage of the inverter whose milliwatts are at most these
unfoldable pub raw_at : SiteRecord → ℕ → ℕ → ℕ
raw_at site inverter watts = of_inverter site inverter (λ unit. raw_at_most unit.rating watts)

-- the milliwatts of all floors
abbrev pub floors : SiteRecord → ℕ
floors site = sum_below (inverters site) (floor_at site)
