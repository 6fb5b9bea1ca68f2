use Rattle.std.proofs.Common.{ap, sym, subst, ◌∙◌}
use Rattle.rand_pcg.specs.Lcg.{Lcg}
use Rattle.plant_book.specs.Part.{first_book}
use Rattle.plant_simulator.specs.World.{World}
use Rattle.plant_simulator.specs.Step.{drawn}
use Rattle.plant_simulator.specs.Ready.{IsReady}
use Rattle.plant_simulator.proofs.Ready.{ready_drawn}
use Rattle.plant_simulator.proofs.simulation.Simulation.draw.Goals as goal

pub returns-clause-ready : goal.returns-clause-ready
returns-clause-ready c =
    let is = ap (λ (words : Lcg). record {
      moment = c.self.inside.moment;
      words = words;
      life = c.self.inside.life;
      book = first_book c.self.inside.lives;
      granted = c.self.inside.granted;
      freed = c.self.inside.freed;
      inverters = c.self.inside.inverters.items;
    }) c.draw.ensures.behind ∙ ap (λ (w : World). drawn 1 w) c.self.view_is in
    λ ready. subst IsReady (sym is) (ready_drawn 1 c.args.self.now ready)
