use Rattle.std.proofs.Common.{◌≡◌, ◌≤◌, length, map, take, vec_capacity}
use Rattle.plant_ledger.specs.Account.{unit_by}
use Rattle.plant_ledger.proofs.lists.units_by.Given as goal

abbrev pub invariant-loop-account : goal.invariant-loop-account
invariant-loop-account l = record {
  made : l.units.items ≡ map unit_by (take l.account-index l.accounts);
  room : length l.accounts ≤ vec_capacity l.units;
}
