use Rattle.std.proofs.Common.{◌+◌, sym, subst, ap, ◌∙◌, arith}
use Rattle.plant_simulator.specs.World.{World, held_in}
use Rattle.plant_simulator.specs.Step.{stepped}
use Rattle.plant_simulator.specs.Ready.{IsReady}
use Rattle.plant_simulator.proofs.Running.{step_ready, plant_first, plant_more, peak_first, peak_more}
use Rattle.plant_simulator.proofs.Devices.{peak_under}
use Rattle.plant_simulator.proofs.summary.simulate.Goals as goal

pub held-peak-requires : goal.held-peak-requires
held-peak-requires c =
    subst IsReady (plant_first c.args.seed c.args.inverters ∙ sym c.in_ok-simulation.ensures)
    (step_ready c.args.seed c.args.inverters 0 c.requires.some c.requires.few (omega arith)).ready

pub step-requires-clause-ready : goal.step-requires-clause-ready
step-requires-clause-ready c =
    subst IsReady (sym c.loop-step.invariant.plant)
    (step_ready c.args.seed c.args.inverters c.loop-step._step c.requires.some c.requires.few (omega (arith, c.requires.steps_high, c.loop-step-test.true))).ready

pub step-requires-clause-life : goal.step-requires-clause-life
step-requires-clause-life c =
    omega (
      arith,
      ap (λ (w : World). w.life) c.loop-step.invariant.plant,
      (step_ready c.args.seed c.args.inverters c.loop-step._step c.requires.some c.requires.few (omega (arith, c.requires.steps_high, c.loop-step-test.true))).life,
    )

pub step-requires-clause-moment : goal.step-requires-clause-moment
step-requires-clause-moment c =
    omega (
      arith,
      ap (λ (w : World). w.moment) c.loop-step.invariant.plant,
      (step_ready c.args.seed c.args.inverters c.loop-step._step c.requires.some c.requires.few (omega (arith, c.requires.steps_high, c.loop-step-test.true))).moment,
    )

pub held-requires : goal.held-requires
held-requires c =
    subst IsReady (sym (c.in_ok-step.ensures ∙ ap stepped c.loop-step.invariant.plant ∙ sym (plant_more c.args.seed c.args.inverters c.loop-step._step)))
    (step_ready c.args.seed c.args.inverters (c.loop-step._step + 1) c.requires.some c.requires.few (omega (arith, c.requires.steps_high, c.loop-step-test.true))).ready

pub loop-step-init : goal.loop-step-init
loop-step-init c = record {
  plant = c.in_ok-simulation.ensures ∙ sym (plant_first c.args.seed c.args.inverters);
  peak = c.held-peak.ensures ∙ ap held_in c.in_ok-simulation.ensures ∙ sym (peak_first c.args.seed c.args.inverters);
}

pub loop-step-preserved : goal.loop-step-preserved
loop-step-preserved c =
    let next = c.in_ok-step.ensures ∙ ap stepped c.loop-step.invariant.plant ∙ sym (plant_more c.args.seed c.args.inverters c.loop-step._step) in
    record {
      plant = next;
      peak =
          omega (
            arith,
            c.loop-step.invariant.peak,
            c.held.ensures,
            ap held_in next,
            peak_more c.args.seed c.args.inverters c.loop-step._step,
          );
    }

pub returns-clause-under_the_cap : goal.returns-clause-under_the_cap
returns-clause-under_the_cap c =
    omega (
      arith,
      c.loop-step.invariant.peak,
      c.from.ensures,
      peak_under c.args.seed c.args.inverters c.requires.some c.requires.few c.loop-step._step (omega (arith, c.loop-step.auto._step-end, c.requires.steps_high)),
    )
