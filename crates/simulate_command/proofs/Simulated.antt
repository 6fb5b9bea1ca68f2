-- The peak of a summary is the greatest sum of what is held.
use Rattle.std.proofs.Common.{◌≡◌, ℕ, sym, ap, subst}
use Rattle.plant_simulator.specs.declared.summary.Summary.{Summary}
use Rattle.plant_simulator.specs.Summary.{summary_of, peak_after}
use Rattle.plant_simulator.specs.Peak.{IsPeak}

pub greatest : ((seed count steps : ℕ) → IsPeak seed count steps (peak_after seed count steps))
    → (seed count steps : ℕ) (summary : Summary) → summary ≡ summary_of seed count steps → IsPeak seed count steps summary.peak
unfolding summary_of
greatest law seed count steps summary is =
    subst (λ (peak : ℕ). IsPeak seed count steps peak) (sym (ap (λ (other : Summary). other.peak) is)) (law seed count steps)
