-- What a site file holds, told in lines.
use Rattle.std.specs.Prelude.{ℕ, List, [], ◌∷◌, ◌++◌, codes}
use Rattle.std.specs.List.{flat_map, enumerate_from, join_with_byte}
use Rattle.std.specs.Fmt.{decimal}
use Rattle.limiter_num.specs.declared.rules.Rules.{Rules}
use Rattle.limiter_num.specs.Timers.{tmin, tmax, reach}
use Rattle.limiter_num.specs.Rating.{mw, full, rated}
use Rattle.plant_book.specs.declared.site.Unit as unit
use Rattle.plant_book.specs.Site.{SiteRecord, inverters, floors}
use Rattle.site_config.specs.SiteFile.{SiteFileRecord}

-- a line: its words, one space between two of them, and a line feed
abbrev pub line_of : List (List ℕ) → List ℕ
line_of words = join_with_byte 32 words ++ 10 ∷ []

abbrev pub number_line : List ℕ → ℕ → List ℕ
number_line name number = line_of (name ∷ decimal number ∷ [])

-- the cap, the count of the inverters, and the milliwatts of all floors
abbrev pub site_lines : SiteRecord → List ℕ
site_lines site =
    number_line (codes "cap") site.cap
    ++ number_line (codes "inverters") (inverters site)
    ++ number_line (codes "floors") (floors site)

-- the moments of the timer in ms, and how long a write may be held
abbrev pub rules_lines : Rules → List ℕ
rules_lines rules =
    number_line (codes "tmin") (tmin rules)
    ++ number_line (codes "tmax") (tmax rules)
    ++ number_line (codes "reach") (reach rules)

-- an inverter: its number, its greatest raw percentage, and the milliwatts of that and of its floor
abbrev pub inverter_line : ℕ → unit.Unit → List ℕ
inverter_line number unit = line_of (
    codes "inverter" ∷ decimal number
    ∷ codes "full" ∷ decimal (full unit.rating)
    ∷ codes "rated" ∷ decimal (rated unit.rating)
    ∷ codes "floor" ∷ decimal (mw unit.rating unit.floor)
    ∷ [])

abbrev pub inverter_lines : List unit.Unit → List ℕ
inverter_lines units = flat_map (λ entry. inverter_line entry.0 entry.1) (enumerate_from 0 units)

-- the summary of a site file
abbrev pub summary : SiteFileRecord → List ℕ
summary file =
    site_lines file.site
    ++ rules_lines file.site.rules
    ++ number_line (codes "renew") file.renew
    ++ inverter_lines file.site.units
