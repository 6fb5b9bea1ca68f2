use Rattle.std.proofs.Common.{◌≡◌, ◌≤◌, length, map, take, vec_capacity}
use Rattle.plant_ledger.specs.Account.{claim_by}
use Rattle.plant_ledger.proofs.lists.claims_by.Given as goal

abbrev pub invariant-loop-account : goal.invariant-loop-account
invariant-loop-account l = record {
  made : l.claims.items ≡ map claim_by (take l.account-index l.accounts);
  room : length l.accounts ≤ vec_capacity l.claims;
}
