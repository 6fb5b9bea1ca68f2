use Rattle.std.specs.Prelude.{string_bytes}
use Rattle.std.proofs.Common.{◌≡◌, ℕ, List, length, ◌++◌, sym, ap, ◌∙◌, append_assoc, arith}
use Rattle.site_config.specs.Summary.{inverter_line}
use Rattle.site_config.proofs.InverterLines.{lines_below, lines_below-more, lines_below-all}
use Rattle.site_config.proofs.summary.put_inverters.Goals as goal

pub loop-number-preserved : goal.loop-number-preserved
loop-number-preserved c =
    let item = c.index-units-number in
    let front = string_bytes c.args.text.now in
    let done = lines_below c.loop-number.number c.args.units.now in
    let line = inverter_line c.loop-number.number item.result in
    c.in_ok-put_inverter.ensures
    ∙ ap (λ (text : List ℕ). text ++ line) c.loop-number.invariant
    ∙ append_assoc front done line
    ∙ ap (λ (lines : List ℕ). front ++ lines) (sym (lines_below-more c.args.units.now c.loop-number.number item.result c.loop-number-test.true item.is))

pub returns : goal.returns
returns c =
    let all : c.loop-number.number ≡ length c.args.units.now = omega (arith, c.loop-number.auto.number-end) in
    c.loop-number.invariant ∙ ap (λ (lines : List ℕ). string_bytes c.args.text.now ++ lines) (lines_below-all c.args.units.now c.loop-number.number all)
