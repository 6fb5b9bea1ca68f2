use Rattle.std.proofs.Common.{◌≡◌, length, ap, arith, rules}
use Rattle.arrayvec.proofs.ArrayVecLemmas.{filter-from_retain}
use Rattle.uncertain_writes.specs.Live.{is_past, without}
use Rattle.uncertain_writes.proofs.Lists.{length-without}
use Rattle.uncertain_writes.proofs.places.drop_past.Goals as goal

left_by : (c : goal.After-len) → c.retain.new.self.items ≡ without (is_past c.args.rules.now c.args.now) c.args.writes.now.items
left_by c = filter-from_retain _ _ _ (λ x b f' y called. search rules) _ _ c.retain.ensures.filtered

pub returns-clause-left : goal.returns-clause-left
returns-clause-left c = left_by c

pub returns-clause-count : goal.returns-clause-count
returns-clause-count c = omega (arith, ap length (left_by c), length-without (is_past c.args.rules.now c.args.now) c.args.writes.now.items)
