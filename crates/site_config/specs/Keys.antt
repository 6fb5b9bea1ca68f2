-- The keys of a site file, and what a table of it holds at them.
use Rattle.std.specs.Prelude.{ℕ, ℤ, pos, codes, List, [], ◌∷◌, if◌then◌else◌, Option, Some, None, unwrap_or, option_map, option_and_then}
use Rattle.std.specs.Int.RustNames.{unsigned_abs}
use Rattle.std.specs.Str.{bytes_eq}
use Rattle.toml.specs.Data.{Data, Items, no_items, item, Members, as_integer, as_str, as_array, as_table, get_member}
use Rattle.share_policy.specs.declared.claim.Policy as policy
use Rattle.share_policy.specs.declared.claim.Policy.TheVariants as policies
use Rattle.plant_book.specs.Port.{PortRecord}
use Rattle.site_config.specs.declared.key.Key.{Key}
use Rattle.site_config.specs.declared.key.Key.TheVariants as keys
use Rattle.site_config.specs.declared.points.Points as points

-- the greatest address of the 704 identifier, and of the times in ms
abbrev pub base_max : ℕ
base_max = 65514

abbrev pub renew_max : ℕ
renew_max = 86400000

abbrev pub pause_max : ℕ
pause_max = 600000

abbrev pub wait_max : ℕ
wait_max = 60000

-- how a key is written
abbrev pub name_of : Key → List ℕ
name_of keys.Cap = codes "cap"
name_of keys.Send = codes "send"
name_of keys.Delay = codes "delay"
name_of keys.Timer = codes "timer"
name_of keys.PerMille = codes "per_mille"
name_of keys.Slack = codes "slack"
name_of keys.Renew = codes "renew"
name_of keys.Pause = codes "pause"
name_of keys.Wait = codes "wait"
name_of keys.Book = codes "book"
name_of keys.Policy = codes "policy"
name_of keys.Inverter = codes "inverter"
name_of keys.Host = codes "host"
name_of keys.Port = codes "port"
name_of keys.Unit = codes "unit"
name_of keys.Base = codes "base"
name_of keys.Wmax = codes "wmax"
name_of keys.Wsf = codes "wsf"
name_of keys.Psf = codes "psf"
name_of keys.Floor = codes "floor"

-- what a table holds at a key
unfoldable pub value_at : Key → Members → Option Data
value_at key table = get_member (name_of key) table

-- the integer at a key; 0 where the table has none
unfoldable pub integer_at : Key → Members → ℤ
integer_at key table = unwrap_or (option_and_then as_integer (value_at key table)) (pos 0)

-- the number at a key that holds none below 0
abbrev pub number_at : Key → Members → ℕ
number_at key table = unsigned_abs (integer_at key table)

-- the string at a key, as bytes; empty where the table has none
unfoldable pub text_at : Key → Members → List ℕ
text_at key table = unwrap_or (option_and_then as_str (value_at key table)) []

-- the tables that an array holds, where it holds nothing else
abbrev pub tables_of : Items → Option (List Members)
tables_of no_items = Some []
tables_of (item first more) =
    option_and_then (λ table. option_map (λ tables. table ∷ tables) (tables_of more)) (as_table first)

-- a value as an array of tables
abbrev pub as_tables : Data → Option (List Members)
as_tables value = option_and_then tables_of (as_array value)

-- the tables of the inverters, in order; none where there's no array of tables
unfoldable pub inverters_at : Members → List Members
inverters_at site = unwrap_or (option_and_then as_tables (value_at keys.Inverter site)) []

-- the policy that is spelled so
abbrev pub policy_of : List ℕ → Option policy.Policy
policy_of text =
    if bytes_eq text (codes "open") then Some policies.Open
    else if bytes_eq text (codes "fair") then Some policies.Fair
    else None

-- what an inverter's table says of its rating and its floor
abbrev pub points_at : Members → points.Points
points_at inverter = record {
  wmax = number_at keys.Wmax inverter;
  wsf = integer_at keys.Wsf inverter;
  psf = integer_at keys.Psf inverter;
  floor = number_at keys.Floor inverter;
}

-- where it says that the inverter is reached
abbrev pub port_at : Members → PortRecord
port_at inverter = record {
  host = text_at keys.Host inverter;
  port = number_at keys.Port inverter;
  unit = number_at keys.Unit inverter;
  base = number_at keys.Base inverter;
}
