-- What may be wrong with the table of a site file: one check for each key, and their order.
use Rattle.std.specs.Prelude.{ℕ, ℤ, pos, negsuc, ◌^◌, Bool, ◌&&◌, ◌||◌, ◌==◌, nat_lt, nat_le, is_some, if◌then◌else◌, List, [], ◌∷◌, ◌++◌, length, map, Option, Some, None, option_map}
use Rattle.std.specs.Option.{option_or, option_map_or}
use Rattle.std.specs.List.{flat_map, enumerate_from}
use Rattle.std.specs.Int.RustNames.{int_lt}
use Rattle.toml.specs.Data.{Data, Members, as_integer, as_str}
use Rattle.limiter_num.specs.Milliwatts.{full_of}
use Rattle.limiter_num.specs.RatingFaults.{rating_fault}
use Rattle.site_config.specs.declared.key.Key.{Key}
use Rattle.site_config.specs.declared.key.Key.TheVariants as keys
use Rattle.site_config.specs.declared.points.Points as points
use Rattle.site_config.specs.declared.fault.SiteFault.{SiteFault}
use Rattle.site_config.specs.declared.fault.SiteFault.TheVariants.{Missing, WrongKind, OutOfRange, BadText, NoInverter, TooManyInverters, Unrated, FloorOut}
use Rattle.site_config.specs.Keys.{base_max, renew_max, pause_max, wait_max, value_at, policy_of, as_tables, inverters_at, points_at}

-- A check of a key answers its fault, if it has one: that the table lacks it, that it holds another kind of value,
-- or what the last test says of a value of the right kind.
abbrev pub key_fault :
    {X : Type 0} → Key → Option ℕ → (Data → Option X) → (X → Option SiteFault) → Option Data → Option SiteFault
key_fault key inverter kind test None = Some (Missing key inverter)
key_fault key inverter kind test (Some value) = option_map_or test (kind value) (Some (WrongKind key inverter))

-- an integer from low to high
unfoldable pub integer_fault : Key → Option ℕ → ℤ → ℤ → Members → Option SiteFault
integer_fault key inverter low high table =
    key_fault key inverter as_integer
    (λ value. if int_lt value low || int_lt high value then Some (OutOfRange key inverter value) else None)
    (value_at key table)

-- a number from low to high
abbrev pub number_fault : Key → Option ℕ → ℕ → ℕ → Members → Option SiteFault
number_fault key inverter low high table = integer_fault key inverter (pos low) (pos high) table

-- a string that passes a test
unfoldable pub text_fault : Key → Option ℕ → (List ℕ → Bool) → Members → Option SiteFault
text_fault key inverter passes table =
    key_fault key inverter as_str
    (λ text. if passes text then None else Some (BadText key inverter))
    (value_at key table)

-- a policy is `open` or `fair`, a host has 1 to 64 bytes
abbrev pub is_policy : List ℕ → Bool
is_policy text = is_some (policy_of text)

abbrev pub is_host : List ℕ → Bool
is_host text = nat_le 1 (length text) && nat_le (length text) 64

-- 1 to 64 inverters
abbrev pub count_fault : List Members → Option SiteFault
count_fault inverters =
    if length inverters == 0 then Some NoInverter
    else if nat_lt 64 (length inverters) then Some (TooManyInverters (length inverters))
    else None

-- an array of 1 to 64 tables; where there is no such key, there is no inverter
abbrev pub array_fault : Option Data → Option SiteFault
array_fault None = Some NoInverter
array_fault (Some value) = option_map_or count_fault (as_tables value) (Some (WrongKind keys.Inverter None))

unfoldable pub inverters_fault : Members → Option SiteFault
inverters_fault site = array_fault (value_at keys.Inverter site)

-- the numbers of the rules
abbrev pub rules_checks : Members → List (Option SiteFault)
rules_checks site =
    number_fault keys.Send None 1 60000 site
    ∷ number_fault keys.Delay None 0 600000 site
    ∷ number_fault keys.Timer None 1 86400 site
    ∷ number_fault keys.PerMille None 0 500 site
    ∷ number_fault keys.Slack None 0 600000 site
    ∷ []

-- how a worker of an inverter goes about
abbrev pub pace_checks : Members → List (Option SiteFault)
pace_checks site =
    number_fault keys.Renew None 1 renew_max site
    ∷ number_fault keys.Pause None 0 pause_max site
    ∷ number_fault keys.Wait None 1 wait_max site
    ∷ []

-- the site's own keys
abbrev pub site_checks : Members → List (Option SiteFault)
site_checks site =
    number_fault keys.Cap None 0 (10 ^ 14) site
    ∷ rules_checks site
    ++ pace_checks site
    ++ number_fault keys.Book None 1 1048576 site
    ∷ text_fault keys.Policy None is_policy site
    ∷ inverters_fault site
    ∷ []

-- the keys of the inverter of this number
abbrev pub port_checks : ℕ → Members → List (Option SiteFault)
port_checks number inverter =
    text_fault keys.Host (Some number) is_host inverter
    ∷ number_fault keys.Port (Some number) 1 65535 inverter
    ∷ number_fault keys.Unit (Some number) 0 255 inverter
    ∷ number_fault keys.Base (Some number) 0 base_max inverter
    ∷ []

abbrev pub points_checks : ℕ → Members → List (Option SiteFault)
points_checks number inverter =
    number_fault keys.Wmax (Some number) 0 65535 inverter
    ∷ integer_fault keys.Wsf (Some number) (negsuc 32767) (pos 32767) inverter
    ∷ integer_fault keys.Psf (Some number) (negsuc 32767) (pos 32767) inverter
    ∷ number_fault keys.Floor (Some number) 0 65535 inverter
    ∷ []

abbrev pub inverter_checks : ℕ → Members → List (Option SiteFault)
inverter_checks number inverter = port_checks number inverter ++ points_checks number inverter

-- its rating, and its floor
abbrev pub unit_checks : ℕ → points.Points → List (Option SiteFault)
unit_checks number points =
    option_map (λ cause. Unrated number cause) (rating_fault points.wmax points.wsf points.psf)
    ∷ (if nat_lt (full_of points.psf) points.floor then Some (FloorOut number (full_of points.psf)) else None)
    ∷ []

-- the checks of one inverter after the other, numbered from 0
abbrev pub each : {X : Type 0} → (ℕ → X → List (Option SiteFault)) → List X → List (Option SiteFault)
each checks inverters = flat_map (λ entry. checks entry.0 entry.1) (enumerate_from 0 inverters)

-- the first fault that checks find
abbrev pub first_fault : List (Option SiteFault) → Option SiteFault
first_fault [] = None
first_fault (check ∷ later) = option_or check (first_fault later)

-- All checks of a table, in their order: the site's own keys, then those of each inverter, and when all of these are
-- there and in range, the ratings and floors.
abbrev pub table_checks : Members → List (Option SiteFault)
table_checks site =
    site_checks site
    ++ each inverter_checks (inverters_at site)
    ++ each unit_checks (map points_at (inverters_at site))

-- the first fault of a table
unfoldable pub table_fault : Members → Option SiteFault
table_fault site = first_fault (table_checks site)
