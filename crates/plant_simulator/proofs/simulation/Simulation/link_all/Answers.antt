use Rattle.std.proofs.Common.{List, length, refl, sym, subst, ap, ◌∙◌, arith}
use Rattle.plant_book.specs.declared.call.Call.TheVariants as calls
use Rattle.plant_simulator.specs.World.{InverterRecord, World}
use Rattle.plant_simulator.specs.Call.{called}
use Rattle.plant_simulator.specs.Step.{linked}
use Rattle.plant_simulator.specs.Ready.{IsReady}
use Rattle.plant_simulator.proofs.Ready.{is_linked, ready_linked, linked_more}
use Rattle.plant_simulator.proofs.simulation.Simulation.link_all.Goals as goal

pub loop-number-init : goal.loop-number-init
unfolding linked
loop-number-init c = refl

pub link-requires-clause-ready : goal.link-requires-clause-ready
link-requires-clause-ready c =
    subst IsReady (sym c.loop-number.invariant) (ready_linked c.loop-number.number c.args.self.now c.requires.ready c.requires.room (omega arith))

pub link-requires-clause-of_site : goal.link-requires-clause-of_site
link-requires-clause-of_site c =
    omega (arith, ap (λ (w : World). length w.inverters) c.loop-number.invariant, ap (λ (xs : List InverterRecord). length xs) (is_linked c.loop-number.number c.args.self.now).inverters)

pub loop-number-preserved : goal.loop-number-preserved
loop-number-preserved c =
    c.link.ensures ∙ ap (λ (w : World). called (calls.Link w.moment c.loop-number.number) w) c.loop-number.invariant
    ∙ linked_more c.loop-number.number c.args.self.now
