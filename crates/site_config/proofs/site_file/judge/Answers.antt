use Rattle.std.proofs.Common.{◌∙◌}
use Rattle.std.proofs.lemmas.Result.{err_from_is_err_and}
use Rattle.toml.specs.View.{table_view}
use Rattle.site_config.specs.Keys.{inverters_at}
use Rattle.site_config.specs.SiteFile.{of_table}
use Rattle.site_config.proofs.WholeTable.{told_by_site, behind_site, faultless_table}
use Rattle.site_config.proofs.Judged.{judged_file, file_is, faulty_renew, judged_whole}
use Rattle.site_config.proofs.site_file.judge.Goals as goal

pub returns-in_err-settings : goal.returns-in_err-settings
returns-in_err-settings c =
    let p = err_from_is_err_and c.from_residual.result c.from_residual.ensures.1 in
    rw (p.1, p.2) (of_table (told_by_site (table_view c.args.table.now) c.in_err-settings.field-0.0 c.in_err-settings.ensures.fault))

pub returns-in_err-floors : goal.returns-in_err-floors
returns-in_err-floors c =
    let table = table_view c.args.table.now in
    let settings = c.in_ok-settings.ensures in
    let p = err_from_is_err_and c.from_residual-in_err-floors.result c.from_residual-in_err-floors.ensures.1 in
    rw (p.1, p.2) (of_table (behind_site table settings.fault ∙ c.in_err-floors.ensures (inverters_at table) settings.settings.inverters))

pub returns-in_err-check_renew : goal.returns-in_err-check_renew
returns-in_err-check_renew c =
    let table = table_view c.args.table.now in
    let settings = c.in_ok-settings.ensures in
    let judged = c.in_ok-floors.ensures (inverters_at table) settings.settings.inverters in
    let p = err_from_is_err_and c.from_residual-in_err-check_renew.result c.from_residual-in_err-check_renew.ensures.1 in
    rw (p.1, p.2) (faulty_renew table (judged_file table c.in_ok-settings.settings judged.2) c.in_err-check_renew.field-0.0 (faultless_table table settings.fault judged.0 judged.1)
    (file_is table c.in_ok-settings.settings c.in_ok-floors.floors settings.settings judged.2) c.in_err-check_renew.ensures)

pub returns : goal.returns
returns c =
    let table = table_view c.args.table.now in
    let settings = c.in_ok-settings.ensures in
    let judged = c.in_ok-floors.ensures (inverters_at table) settings.settings.inverters in
    judged_whole table c.in_ok-settings.settings c.in_ok-floors.floors c.check_floors.result settings.settings (faultless_table table settings.fault judged.0 judged.1) judged.2 c.in_ok-check_renew.ensures c.check_floors.ensures
