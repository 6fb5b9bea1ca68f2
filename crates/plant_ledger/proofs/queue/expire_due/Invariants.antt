use Rattle.std.proofs.Common.{◌≡◌, not, length, map}
use Rattle.std.specs.Prelude.{filter}
use Rattle.revert_timers.specs.Expiries.{is_past}
use Rattle.plant_ledger.specs.Ledger.{AreSums, account_at}
use Rattle.plant_ledger.specs.Queue.{HavePlaces}
use Rattle.plant_ledger.proofs.queue.expire_due.Given as goal

abbrev pub invariant-loop-due : goal.invariant-loop-due
invariant-loop-due l = record {
  same : map (account_at l.rules l.now) l.accounts ≡ map (account_at l.rules l.now) l.initial.accounts;
  count : length l.accounts ≡ length l.initial.accounts;
  sums : AreSums l.accounts l.sums;
  queued : HavePlaces l.rules l.expiries l.accounts;
  level : l.sums.level ≡ l.initial.sums.level;
  fall : l.sums.fall ≡ l.initial.sums.fall;
  set : l.sums.set ≡ l.initial.sums.set;
  left : filter (λ due. not (is_past l.now due)) l.expiries ≡ filter (λ due. not (is_past l.now due)) l.initial.expiries;
}

abbrev pub decreases-loop-due : goal.decreases-loop-due
decreases-loop-due l = length l.expiries
