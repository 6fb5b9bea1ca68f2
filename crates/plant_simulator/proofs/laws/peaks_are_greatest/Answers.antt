use Rattle.plant_simulator.proofs.Peak.{is_peak}
use Rattle.plant_simulator.proofs.laws.peaks_are_greatest.Goals as goal

pub returns : goal.returns
returns c = is_peak
