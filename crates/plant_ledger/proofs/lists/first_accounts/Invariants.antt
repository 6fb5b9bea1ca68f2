use Rattle.std.proofs.Common.{◌≡◌, ◌≤◌, length, map, take, vec_capacity}
use Rattle.plant_ledger.specs.Account.{first_account}
use Rattle.plant_ledger.proofs.lists.first_accounts.Given as goal

abbrev pub invariant-loop-unit : goal.invariant-loop-unit
invariant-loop-unit l = record {
  made : l.accounts.items ≡ map first_account (take l.unit-index l.units);
  room : length l.units ≤ vec_capacity l.accounts;
}
