-- A simulated plant: its ledger and its inverters, with the requests that are under way.
use Rattle.std.specs.Prelude.{ℕ, List, [], length, slice_get, Option, None}
use Rattle.std.specs.Option.{option_map_or}
use Rattle.rand_pcg.specs.Lcg.{Lcg}
use Rattle.plant_book.specs.Site.{mw_at}
use Rattle.plant_book.specs.Book.{BookRecord}
use Rattle.plant_book.specs.Sums.{sum_below}
use Rattle.plant_simulator.specs.declared.inverter.Request.{Request}
use Rattle.plant_simulator.specs.declared.inverter.OldWrite.{OldWrite}

-- an inverter: the raw percentage that it holds and the moment at which it reverts to the floor, where a
-- revert is due; the requests of its link that are not delivered yet, and the writes of its earlier links that
-- are not, each in order
pub record InverterRecord : Type 0 where
  pub held : ℕ
  pub due : Option ℕ
  pub line : List Request
  pub strays : List OldWrite

-- a plant: the moment, the words that are not drawn yet, the number of the life, its book, how many Asks were
-- granted and how many writes were freed over all lives, and the inverters by their numbers
pub record World : Type 0 where
  pub moment : ℕ
  pub words : Lcg
  pub life : ℕ
  pub book : BookRecord
  pub granted : ℕ
  pub freed : ℕ
  pub inverters : List InverterRecord

-- an inverter as it begins
abbrev pub fresh : InverterRecord
fresh = record { held = 100; due = None; line = []; strays = [] }

-- the raw percentage that an inverter holds
abbrev pub held_by : World → ℕ → ℕ
held_by world inverter = option_map_or (λ its. its.held) (slice_get world.inverters inverter) 0

-- the milliwatts that all inverters hold
unfoldable pub held_in : World → ℕ
held_in world = sum_below (length world.inverters)
    (λ inverter. mw_at world.book.site inverter (held_by world inverter))
