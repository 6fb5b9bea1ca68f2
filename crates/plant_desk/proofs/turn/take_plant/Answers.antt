use Rattle.std.proofs.Common.{ℕ, List, ◌∷◌, Some, ap, sym, ◌∙◌}
use Rattle.atomic_table.specs.Table.{rest}
use Rattle.plant_desk.specs.Rule.{Sat, Slot, plant_of}
use Rattle.plant_desk.proofs.turn.take_plant.Goals as goal

pub exchange-requires : goal.exchange-requires
exchange-requires c =
    let holds = c.requires.holds in
    let slot : Slot = Some (plant_of holds.0) in
    let carried = ap (λ (m : Sat). m.1) holds.1 in
    (c.requires.place, (slot, carried ∙ ap (λ (cs : List (ℕ × Slot)). (0, slot) ∷ rest cs) (sym carried)))
