use Rattle.std.proofs.Common.{sym, ap, ◌∙◌, true, false, arith}
use Rattle.plant_book.specs.Requests as counted
use Rattle.plant_book.proofs.Steps.{behind_none, requests-behind_link, requests-behind}
use Rattle.plant_book.proofs.requests.requests_from.Goals as goal
use Rattle.plant_book.proofs.requests.requests_from.Goals.{then-is_link, else-is_link+then-is_request, else-is_link+else-is_request}

pub loop-entry-init : goal.loop-entry-init
loop-entry-init c = record {
  counted = λ before from. omega (arith, from, ap (counted.requests c.args.inverter) (behind_none before c.args.entries.now), c.from-count.ensures);
  below = omega (arith, c.from-count.ensures, c.ranges.from);
}

pub loop-entry-preserved : goal.loop-entry-preserved
loop-entry-preserved c =
    let a = c.args in
    let i = c.loop-entry.entry-index in
    elim c.if-is_link.branch [
      | then-is_link w ↦
          record { counted = λ before from. w.count-is ∙ sym (requests-behind_link a.inverter before a.entries.now i _ c.loop-entry-test.true (sym c.is_link.ensures ∙ w.if-is_link.true)); below = omega arith }
      | else-is_link+then-is_request w ↦
          record { counted = λ before from. omega (arith, requests-behind a.inverter before a.entries.now i _ c.loop-entry-test.true true (sym c.is_link.ensures ∙ w.if-is_link.false) (sym w.is_request.ensures ∙ w.if-is_request.true), w.count-is, c.loop-entry.invariant.counted before from); below = omega arith }
      | else-is_link+else-is_request w ↦
          record { counted = λ before from. omega (arith, requests-behind a.inverter before a.entries.now i _ c.loop-entry-test.true false (sym c.is_link.ensures ∙ w.if-is_link.false) (sym w.is_request.ensures ∙ w.if-is_request.false), w.count-is, c.loop-entry.invariant.counted before from); below = omega arith }
    ]
