use Rattle.revert_timers.proofs.Lists.{without_first-push, without_first-filter, all_stay, all_later}
use Rattle.revert_timers.proofs.laws.entries_that_are_left.Goals as goal

pub returns : goal.returns
returns c = record {
  more = without_first-push;
  only = without_first-filter;
  none_past = λ now entries rising none. all_stay now entries (all_later now entries rising none);
}
