-- What the inverters of a simulated plant did: no more than the timed device allows.
use Rattle.std.specs.Prelude.{◌≡◌, ℕ, ◌+◌, ◌<◌, ◌≤◌, ◌==◌, if◌then◌else◌, List, [], ◌∷◌, ◌++◌, length}
use Rattle.std.proofs.Common.{zero, suc}
use Rattle.plant_book.specs.Book.{BookRecord}
use Rattle.plant_book.specs.Reserved.{now_of}
use Rattle.plant_book.specs.History.{History, IsHistory}
use Rattle.inverter_sim.specs.Following.{FollowsDevice}
use Rattle.restart_silence.specs.Chain.{ending_in}
use Rattle.plant_simulator.specs.World.{World, held_by}
use Rattle.plant_simulator.specs.Summary.{plant_after}

-- the book that a step ended, where it began the next life
abbrev pub ended_by : World → World → List BookRecord
ended_by old new = if new.life == old.life then [] else old.book ∷ []

-- the books of the lives that ended in so many steps, the oldest first
unfoldable pub ended_after : ℕ → ℕ → ℕ → List BookRecord
ended_after seed count zero = []
ended_after seed count (suc steps) = ended_after seed count steps
    ++ ended_by (plant_after seed count steps) (plant_after seed count (suc steps))

-- A plant of so many inverters whose books, those of the ended lives and the last one, are a chain that began
-- with every inverter at its floor. Over it each inverter follows the timed device, and it holds now what the
-- plant says.
pub record AreDevices (count : ℕ) (ended : List BookRecord) (world : World) : Type 0 where
  pub many : length world.inverters ≡ count
  pub lives : world.life ≡ length ended + 1
  pub chain : IsHistory (ending_in [] ended world.book)
  pub from : now_of world.book ≤ world.moment
  pub each : (inverter : ℕ) → inverter < count
      → FollowsDevice (ending_in [] ended world.book) inverter world.moment (held_by world inverter)
