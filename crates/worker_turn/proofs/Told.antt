-- What came just now, as the desk tells it.
use Rattle.std.proofs.Common.{◌≡◌, ℕ, Some}
use Rattle.plant_book.specs.declared.call.Write as writes
use Rattle.ledger_desk.specs.Desk.{DeskState, DeskTests}
use Rattle.inverter_worker.specs.declared.input.Input.{Input}
use Rattle.inverter_worker.specs.declared.input.Input.TheVariants as input
use Rattle.worker_turn.specs.Desks.{IsPlain, IsToldNow}

pub plain : (tests : DeskTests) (inverter : ℕ) (desk : DeskState) (came : Input) → IsPlain came
    → IsToldNow tests inverter desk came
plain tests inverter desk (input.Goal goal) is = absurd is
plain tests inverter desk input.Full is = absurd is
plain tests inverter desk _ is = tt

pub some_same : (a b : writes.Write) → Some a ≡ Some b → a ≡ b
some_same a b is = cc
