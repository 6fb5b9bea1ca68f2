use Rattle.std.proofs.Common.{take}
use Rattle.plant_book.specs.Part.{first_book}
use Rattle.busbars.specs.Caps.{HasRoomOnAll}
use Rattle.busbars.proofs.entering.first_full.Given as goal

abbrev pub invariant-loop-place : goal.invariant-loop-place
invariant-loop-place l = HasRoomOnAll (first_book l.plant) (take l.place l.buses) l.inverter l.raw
