use Rattle.std.proofs.Common.{set, ap, sym, ◌∙◌}
use Rattle.std.proofs.lemmas.List.Edits.{map_over_more}
use Rattle.plant_simulator.specs.World.{InverterRecord}
use Rattle.plant_simulator.specs.Inverter as rule
use Rattle.plant_simulator.proofs.simulation.pass_each.Goals as goal

pub loop-inverter-preserved : goal.loop-inverter-preserved
loop-inverter-preserved c =
    ap (λ (its : InverterRecord). set c.loop-inverter.inverters c.loop-inverter.inverter-index its) (c.pass.ensures ∙ ap (rule.inverter_at c.args.moment) (sym c.inverter-item.is))
    ∙ map_over_more (rule.inverter_at c.args.moment) c.args.inverters.now c.loop-inverter.inverters c.loop-inverter.inverter-index c.inverter-item.result
    c.loop-inverter-test.true c.loop-inverter.invariant c.inverter-item.is
