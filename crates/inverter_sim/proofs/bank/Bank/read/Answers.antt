use Rattle.std.proofs.Common.{◌≡◌, ◌+◌, ◌-◌, length, arith, ap, ◌∙◌}
use Rattle.std.proofs.lemmas.List.FromFn.{length-map-range_with_len, map-range_with_len_more}
use Rattle.inverter_sim.specs.RegisterMap.{register}
use Rattle.inverter_sim.proofs.Outside.{none_outside, one_below, one_above}
use Rattle.inverter_sim.proofs.bank.Bank.read.Goals as goal
use Rattle.inverter_sim.proofs.bank.Bank.read.Goals.{then-start-lt-MARK-via-then-start-lt-MARK, then-start-lt-MARK-via-else-start-lt-MARK+then-from-gt-MAP_END}

pub returns-then-start-lt-MARK : goal.returns-then-start-lt-MARK
returns-then-start-lt-MARK c = elim c.then-start-lt-MARK.branch [
  | then-start-lt-MARK-via-then-start-lt-MARK w ↦ rw (one_below c.args.start c.args.count c.requires.0 w.if-start-lt-MARK.true)
  | then-start-lt-MARK-via-else-start-lt-MARK+then-from-gt-MAP_END w ↦ rw (one_above c.args.start c.args.count c.requires.0 (omega arith))
]

pub push-requires : goal.push-requires
push-requires c =
    let count = ap length c.loop-address.invariant ∙ length-map-range_with_len (register c.args.self.now) c.args.start (c.loop-address.address - c.args.start) in
    omega (arith, count)

pub loop-address-preserved : goal.loop-address-preserved
loop-address-preserved c =
    let start = c.args.start in
    let at = c.loop-address.address in
    let next : at + 1 - start ≡ (at - start) + 1 = omega arith in
    rw (next, map-range_with_len_more (register c.args.self.now) start (at - start) at (omega arith), c.push.ensures, c.loop-address.invariant, c.register_by.ensures, c.contents-contents.ensures)

pub returns : goal.returns
returns c =
    let start = c.args.start in
    let whole : c.loop-address.address - start ≡ c.args.count = omega arith in
    rw (none_outside start c.args.count (omega arith) (omega arith), c.loop-address.invariant, whole)
