use Rattle.std.proofs.Common.{◌≡◌, map}
use Rattle.std.specs.List.{range_with_len}
use Rattle.plant_book.specs.Policy.{fall_claim}
use Rattle.plant_ledger.proofs.ledger.Ledger.fall_claims.Given as goal

abbrev pub invariant-loop-inverter : goal.invariant-loop-inverter
invariant-loop-inverter l = l.claims.items ≡ map (fall_claim l.self.book.site) (range_with_len 0 l.inverter)
