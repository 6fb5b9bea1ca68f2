-- What a simulation comes to.
use Rattle.std.specs.Prelude.{ℕ, ◌*◌, max, [], replicate}
use Rattle.std.proofs.Common.{zero, suc}
use Rattle.plant_simulator.specs.declared.summary.Summary.{Summary}
use Rattle.plant_simulator.specs.Words.{seeded}
use Rattle.plant_simulator.specs.Site.{site_of}
use Rattle.plant_simulator.specs.World.{World, fresh, held_in}
use Rattle.plant_simulator.specs.Step.{linked, stepped}

-- a plant of so many inverters, before its first Links
abbrev pub unlinked : ℕ → ℕ → World
unlinked seed count = record {
  moment = 0;
  words = seeded seed;
  life = 1;
  book = record { site = site_of count; start = 0; entries = [] };
  granted = 0;
  freed = 0;
  inverters = replicate count fresh;
}

-- the plant at its beginning: each inverter has a Link
unfoldable pub beginning : ℕ → ℕ → World
beginning seed count = linked count (unlinked seed count)

-- the plant behind so many steps
unfoldable pub plant_after : ℕ → ℕ → ℕ → World
plant_after seed count zero = beginning seed count
plant_after seed count (suc steps) = stepped (plant_after seed count steps)

-- the greatest sum of what is held at the beginning and at the ends of so many steps, in milliwatts
unfoldable pub peak_after : ℕ → ℕ → ℕ → ℕ
peak_after seed count zero = held_in (plant_after seed count 0)
peak_after seed count (suc steps) =
    max (peak_after seed count steps) (held_in (plant_after seed count (suc steps)))

-- the summary of so many steps
unfoldable pub summary_of : ℕ → ℕ → ℕ → Summary
summary_of seed count steps = record {
  cap = count * 3000000;
  lives = (plant_after seed count steps).life;
  granted = (plant_after seed count steps).granted;
  freed = (plant_after seed count steps).freed;
  peak = peak_after seed count steps;
}
