-- What contracts see of the fields of a desk and of a pass, and what is true of them.
use Rattle.std.specs.Prelude.{◌≡◌, []}
use Rattle.plant_desk.specs.declared.pass.Pass.TheInside as passes
use Rattle.plant_desk.specs.declared.desk.PlantDesk.TheInside as desks
use Rattle.plant_desk.specs.declared.board.Hand.{Hand}
use Rattle.plant_desk.specs.Hands.{hand, idle, first_hand}
use Rattle.plant_desk.specs.Rule.{IsBoard}
use Rattle.plant_desk.specs.Passes.{DeskRecord, PassRecord}

-- what the seat of a pass knows
abbrev pub known_by : passes.Inside → Hand
known_by p = first_hand p.place.me.0

abbrev pub pass_of : passes.Inside → PassRecord
pass_of p = record {
  desk = record { name = p.place.table_id; book = (known_by p).plant; passes = (known_by p).passes };
  number = p.number;
  seen = (known_by p).seen;
}

-- the hand of a pass
abbrev pub hand_of : passes.Inside → Hand
hand_of p = hand (known_by p).plant (known_by p).passes p.number (known_by p).seen

-- the seat of a pass is without the turn, holds nothing, and has its one hand
abbrev pub IsPass : passes.Inside → Type 0
IsPass p = p.place.me ≡ (idle (hand_of p), [])

abbrev pub desk_of : desks.Inside → DeskRecord
desk_of d = record { name = d.boards.shared.table_id; book = d.boards.shared.key.plant.value; passes = d.passes }

-- the table has three words and one slot, and was told of as many passes
pub record IsPlantDesk (d : desks.Inside) : Type 0 where
  pub board : IsBoard d.boards.shared.table_id
  pub passes : d.boards.shared.key.passes ≡ d.passes

-- what a pass knows
abbrev pub as_hand : PassRecord → Hand
as_hand pass = hand pass.desk.book pass.desk.passes pass.number pass.seen
