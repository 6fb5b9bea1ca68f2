-- A table that is judged, and the file that it says.
use Rattle.std.proofs.Common.{◌≡◌, ℕ, ◌≤◌, List, map, Option, Some, None, Result, Ok, Err, refl, sym, ap, ◌∙◌, inl, inr}
use Rattle.std.specs.Prelude.{MatchResult, IfOk, IfErr, OnOk}
use Rattle.std.proofs.Common.{ltb}
use Rattle.std.proofs.lemmas.Bool.{cases_Bool, ltb-false}
use Rattle.std.specs.Option.{option_or}
use Rattle.std.proofs.lemmas.Option.{none-some}
use Rattle.toml.specs.Data.{Members}
use Rattle.plant_book.specs.Site.{SiteRecord, floors}
use Rattle.plant_book.specs.Answered.{IsOpenable}
use Rattle.plant_book.proofs.Inverters.{floors-is}
use Rattle.site_config.specs.declared.fault.SiteFault.{SiteFault}
use Rattle.site_config.specs.declared.fault.SiteFault.TheVariants.{FloorsOverCap}
use Rattle.site_config.specs.declared.fault.SiteError.{SiteError}
use Rattle.site_config.specs.declared.fault.SiteError.TheVariants.{NoMemory, Bad}
use Rattle.site_config.specs.declared.settings.Settings.{Settings}
use Rattle.site_config.specs.Keys.{inverters_at, port_at}
use Rattle.site_config.specs.Checks.{first_fault, table_fault}
use Rattle.site_config.specs.SiteFile.{SiteFileRecord, IsText, IsFileOf, IsFaultOf, of_table, of_file, IsFaultless, IsTableCause, IsCause, for_file, IsSiteFile, IsInRange, bad_table, bad_file, renew_fault, floors_fault, file_checks}
use Rattle.site_config.specs.Reading.{HasSettings, AreFloored, MakesFile, Tells, inverter_at}
use Rattle.site_config.proofs.MadeFile.{site_of_settings, file_of_settings, IsFileOf-made}
use Rattle.site_config.proofs.WholeTable.{map-points, map-port}
use Rattle.site_config.proofs.SameFile.{same_file}

-- the file of a table's settings and the inverters that were judged
abbrev pub judged_file : (table : Members) → Settings → {sum : ℕ} → AreFloored (inverters_at table) sum → SiteFileRecord
judged_file table settings floored = file_of_settings settings floored.units (map port_at (inverters_at table))

pub file_is : (table : Members) (settings : Settings) (sum : ℕ) → HasSettings table settings → (floored : AreFloored (inverters_at table) sum) → IsFileOf table (judged_file table settings floored)
file_is table settings sum has floored =
    let tables : List Members = inverters_at table in
    IsFileOf-made table settings (map inverter_at tables) floored.units (map port_at tables) has
    (record { read = refl; rated = floored.points_are ∙ sym (map-points tables); reached = sym (map-port tables) })

pub floors_are : (settings : Settings) (table : Members) (sum : ℕ) (floored : AreFloored (inverters_at table) sum) → sum ≡ floors (site_of_settings settings floored.units)
floors_are settings table sum floored = floored.sum_is ∙ sym (floors-is (site_of_settings settings floored.units))

first_of : (file : SiteFileRecord) → first_fault (file_checks file) ≡ option_or (renew_fault file.site.rules file.renew) (option_or (floors_fault file.site) None)
first_of file = refl

pub faulty_renew : (table : Members) (file : SiteFileRecord) (fault : SiteFault) → table_fault table ≡ None → IsFileOf table file → renew_fault file.site.rules file.renew ≡ Some fault → IsFaultOf table fault
faulty_renew table file fault none holds found = of_file file none holds (ap (λ o. option_or o (option_or (floors_fault file.site) None)) found)

pub faulty_floors : (table : Members) (file : SiteFileRecord) (fault : SiteFault) → table_fault table ≡ None → IsFileOf table file → renew_fault file.site.rules file.renew ≡ None → floors_fault file.site ≡ Some fault → IsFaultOf table fault
faulty_floors table file fault none holds passes found =
    of_file file none holds (ap (λ o. option_or o (option_or (floors_fault file.site) None)) passes ∙ ap (λ o. option_or o None) found)

pub faultless : (table : Members) (file : SiteFileRecord) → table_fault table ≡ None → IsFileOf table file → renew_fault file.site.rules file.renew ≡ None → floors_fault file.site ≡ None → IsFaultless table
faultless table file none holds renew floors =
    let own : first_fault (file_checks file) ≡ None = ap (λ o. option_or o (option_or (floors_fault file.site) None)) renew ∙ ap (λ o. option_or o None) floors in
    record { table_none = none; file_none = λ other its. ap (λ (f : SiteFileRecord). first_fault (file_checks f)) (same_file table other file its holds) ∙ own }

-- the end of the judgement, at its floors
pub judged_whole : (table : Members) (settings : Settings) (sum : ℕ) (result : Result (Unit {0}) SiteFault) → HasSettings table settings → table_fault table ≡ None → AreFloored (inverters_at table) sum
    → renew_fault settings.rules settings.pace.renew ≡ None
    → ((site : SiteRecord) → settings.cap ≡ site.cap → sum ≡ floors site → MatchResult result (λ _. floors_fault site ≡ None) (λ fault. floors_fault site ≡ Some fault))
    → MatchResult result (λ _. IsFaultless table) (IsFaultOf table)
judged_whole table settings sum (Ok done) has none floored renew checked =
    let file : SiteFileRecord = judged_file table settings floored in
    faultless table file none (file_is table settings sum has floored) renew (checked file.site refl (floors_are settings table sum floored))
judged_whole table settings sum (Err fault) has none floored renew checked =
    let file : SiteFileRecord = judged_file table settings floored in
    faulty_floors table file fault none (file_is table settings sum has floored) renew (checked file.site refl (floors_are settings table sum floored))

neither : (first second : Option SiteFault) → option_or first (option_or second None) ≡ None → second ≡ None
neither None None none = refl
neither None (Some fault) none = none
neither (Some fault) second none = absurd cc

floors_fit : (site : SiteRecord) → floors_fault site ≡ None → floors site ≤ site.cap
floors_fit site none = elim (cases_Bool (ltb site.cap (floors site))) [
  | inl more ↦ let some : floors_fault site ≡ Some (FloorsOverCap (floors site)) = rw more refl in absurd (none-some _ (sym none ∙ some))
  | inr fits ↦ ltb-false site.cap (floors site) fits
]

-- why a faultless table makes no file
pub told_faultless : (table : Members) (error : SiteError) → IsFaultless table → Tells (table_fault table) error → IsTableCause table error
told_faultless table NoMemory none told = none
told_faultless table (Bad fault) none told = of_table told

-- and why the bytes are no site file
pub cause_of : (bytes : List ℕ) (table : Members) (error : SiteError) → IsText bytes table → IsTableCause table error → IsCause bytes error
cause_of bytes table NoMemory text none = for_file table text none
cause_of bytes table (Bad fault) text (of_table told) = bad_table table text told
cause_of bytes table (Bad fault) text (of_file file none holds told) = bad_file file (record { table = table; text = text; faultless = none; holds = holds }) told

-- the file that a judged table makes

pub file_made : (table : Members) (result : Result SiteFileRecord SiteError) → MakesFile table result → IfOk result (IsFileOf table)
file_made table (Ok file) made = made.1
file_made table (Err error) made = tt

pub file_refused : (table : Members) (result : Result SiteFileRecord SiteError) → IsFaultless table → MakesFile table result → IfErr result (IsTableCause table)
file_refused table (Ok file) none made = tt
file_refused table (Err error) none made = told_faultless table error none made

pub file_openable : (table : Members) (result : Result SiteFileRecord SiteError) → IsFaultless table → MakesFile table result → IfOk result (λ file. IsOpenable file.site)
file_openable table (Ok file) none made =
    let fits : floors_fault file.site ≡ None = neither (renew_fault file.site.rules file.renew) (floors_fault file.site) (none.file_none file made.1) in
    record { checked = made.3; some = made.4; few = made.5; floors = floors_fit file.site fits }
file_openable table (Err error) none made = tt

pub file_in_range : (table : Members) (result : Result SiteFileRecord SiteError) → MakesFile table result → IfOk result IsInRange
file_in_range table (Ok file) made = made.2
file_in_range table (Err error) made = tt

-- and the site file that the bytes are

pub site_read : (bytes : List ℕ) (table : Members) (result : Result SiteFileRecord SiteError) → IsText bytes table → IfOk result (IsFileOf table) → OnOk result (IsFaultless table) → IfOk result (IsSiteFile bytes)
site_read bytes table (Ok file) text holds none = record { says = record { table = table; text = text; faultless = none.table_none; holds = holds }; faultless = none.file_none file holds }
site_read bytes table (Err error) text holds none = tt

pub site_refused : (bytes : List ℕ) (table : Members) (result : Result SiteFileRecord SiteError) → IsText bytes table → IfErr result (IsTableCause table) → IfErr result (IsCause bytes)
site_refused bytes table (Ok file) text cause = tt
site_refused bytes table (Err error) text cause = cause_of bytes table error text cause
