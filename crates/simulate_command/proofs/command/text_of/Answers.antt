use Rattle.simulate_command.proofs.Simulated.{greatest}
use Rattle.simulate_command.proofs.command.text_of.Goals as goal

pub returns : goal.returns
returns c = record {
  summary = c.in_ok-summary.summary;
  text_is = rw c.new-text.ensures.items at c.in_ok-summary_text.ensures.ok;
  summary_is = c.in_ok-summary.ensures.summary;
  greatest = greatest c.peaks_are_greatest.ensures c.args.simulation.seed c.args.simulation.inverters c.args.simulation.steps c.in_ok-summary.summary c.in_ok-summary.ensures.summary;
  under_the_cap = c.in_ok-summary.ensures.under_the_cap;
}
