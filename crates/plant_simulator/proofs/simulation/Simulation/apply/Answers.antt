use Rattle.std.proofs.Common.{◌≡◌, ap, subst, sym, ◌∙◌}
use Rattle.plant_book.specs.Book.{BookRecord}
use Rattle.plant_book.specs.Part.{first_book}
use Rattle.plant_book.specs.Answered.{IsBook}
use Rattle.plant_simulator.specs.World.{World}
use Rattle.plant_simulator.specs.Call.{entry_in, with_entry}
use Rattle.plant_simulator.proofs.Entering.{booked, right}
use Rattle.plant_simulator.proofs.simulation.Simulation.apply.Goals as goal

its_reply : (c : goal.In-Ok) → c.in-Ok.outcome.reply ≡ (entry_in (first_book c.self.inside.lives) c.args.call).reply
its_reply c =
    right c.self.inside.lives c.apply.new.self c.args.call c.in-Ok.outcome.reply c.self.invariant
    (subst (λ (w : World). IsBook w.book) (sym c.self.view_is) c.requires.ready.book) c.in-Ok.ensures.lives

pub returns-clause-reply : goal.returns-clause-reply
returns-clause-reply c = its_reply c ∙ ap (λ (w : World). (entry_in w.book c.args.call).reply) c.self.view_is

pub returns-clause-entered : goal.returns-clause-entered
unfolding with_entry
returns-clause-entered c =
    ap (λ (book : BookRecord). record {
      moment = c.self.inside.moment;
      words = c.self.inside.words;
      life = c.self.inside.life;
      book = book;
      granted = c.self.inside.granted;
      freed = c.self.inside.freed;
      inverters = c.self.inside.inverters.items;
    }) (booked c.self.inside.lives c.apply.new.self c.args.call c.in-Ok.outcome.reply c.self.invariant c.in-Ok.ensures.entered (its_reply c))
    ∙ ap (λ (w : World). with_entry (entry_in w.book c.args.call) w) c.self.view_is
