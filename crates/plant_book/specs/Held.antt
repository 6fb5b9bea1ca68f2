-- What is held at a moment.
use Rattle.std.specs.Prelude.{◌≡◌, ℕ, ◌≤◌, List, ◌++◌}
use Rattle.std.specs.List.{AllByRecursion}
use Rattle.plant_book.specs.Behaviour.{Event, Act, Revert, Look, Timed}

abbrev pub IsNoLook : Event → Type 0
IsNoLook (Act grant) = Unit {0}
IsNoLook Revert = Unit {0}
IsNoLook (Look sight) = ⊥

-- A cut of a behaviour at a moment: what came up to it, all Looks among it, and what comes from it on. Events of
-- that very moment may stand on either side.
pub record IsCut (events : List Timed) (at : ℕ) (first rest : List Timed) : Type 0 where
  pub parts : events ≡ first ++ rest
  pub earlier : AllByRecursion (λ timed. timed.at ≤ at) first
  pub later : AllByRecursion (λ timed. at ≤ timed.at) rest
  pub looked : AllByRecursion (λ timed. IsNoLook timed.event) rest
