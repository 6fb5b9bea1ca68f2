-- What opening a book asks of the site of a script, as it is counted without taking memory.
use Rattle.std.specs.Prelude.{◌≡◌, ℕ, ◌*◌, ◌^◌, ◌<◌, ◌≤◌, List, length, sum_by}
use Rattle.limiter_num.specs.Rating.{mw}
use Rattle.plant_book.specs.declared.site.Unit as unit
use Rattle.plant_book.specs.Site.{SiteRecord, inverters, floors}
use Rattle.script_text.specs.declared.rows.Rows.{Rows}
use Rattle.script_text.specs.declared.size.SiteSize as sizes
use Rattle.script_text.specs.Script.{ScriptRecord, IsScript}
use Rattle.script_text.specs.Progress.{UnitsTaken}

-- these inverters were counted; their floors are told where there are at most 64
pub record AreCounted (units : List unit.Unit) (size : sizes.SiteSize) : Type 0 where
  pub inverters_are : size.inverters ≡ length units
  pub floors_are : length units ≤ 64 → size.floors ≡ sum_by (λ unit. mw unit.rating unit.floor) units
  pub below : length units ≤ 64 → size.floors ≤ length units * (65535 * 10 ^ 12)

-- inverters that were counted and the begin stand behind the site line
pub record UnitsCounted (rows : Rows) (size : sizes.SiteSize) (start : ℕ) (behind : Rows) : Type 0 where
  pub units : List unit.Unit
  pub counted : AreCounted units size
  pub taken : UnitsTaken rows units start behind

-- the cap of the site, how many inverters it has, and the milliwatts of their floors where there are at most 64
pub record IsSizeOf (site : SiteRecord) (size : sizes.SiteSize) : Type 0 where
  pub cap_is : size.cap ≡ site.cap
  pub inverters_are : size.inverters ≡ inverters site
  pub floors_are : inverters site ≤ 64 → size.floors ≡ floors site

-- the bytes are a script whose site has this size
pub record HasSize (bytes : List ℕ) (size : sizes.SiteSize) : Type 0 where
  pub script : ScriptRecord
  pub is_script : IsScript bytes script
  pub size_is : IsSizeOf script.site size
  pub few : size.inverters < 2 ^ 32
