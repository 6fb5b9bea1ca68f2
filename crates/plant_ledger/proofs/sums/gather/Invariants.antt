use Rattle.std.proofs.Common.{◌≡◌, ◌≤◌, ◌*◌, ◌^◌, take}
use Rattle.std.specs.Prelude.{sum_by}
use Rattle.std.specs.List.{All}
use Rattle.plant_ledger.specs.Account.{AreFrom, reserved_of}
use Rattle.plant_ledger.proofs.sums.gather.Given as goal

abbrev pub invariant-loop-account : goal.invariant-loop-account
invariant-loop-account l = record {
  summed : l.total ≡ sum_by reserved_of (take l.account-index l.accounts);
  below : l.total ≤ l.account-index * (65535 * 10 ^ 12);
  each : All (λ account. reserved_of account ≤ 65535 * 10 ^ 12) (take l.account-index l.accounts);
  oldest : All (λ account. AreFrom l.oldest account.live) (take l.account-index l.accounts);
}
