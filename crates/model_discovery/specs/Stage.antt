-- What the code keeps of a walk's place.
use Rattle.std.specs.Prelude.{◌≡◌, None, ◌+◌, ◌<◌, ◌≤◌, List, length, drop, slice_index}
use Rattle.der_models.specs.Layout.{header}
use Rattle.model_discovery.specs.declared.found.Found.{Found}
use Rattle.model_discovery.specs.declared.walk.Stage.{Stage}
use Rattle.model_discovery.specs.declared.walk.Stage.TheVariants as stage
use Rattle.model_discovery.specs.Map.{map_registers}
use Rattle.model_discovery.specs.Chain.{bases, absent_model, AreSound}
use Rattle.model_discovery.specs.WalkState.{Place, Seeking, Reading, Finished, Failed, WalkState}

abbrev pub place_of : Stage → Place
place_of (stage.Mark place) = Seeking (slice_index bases place) (drop (place + 1) bases)
place_of (stage.Header next) = Reading next
place_of stage.Finished = Finished
place_of (stage.Failed error) = Failed error

-- a walk in this stage with these models
abbrev pub state_of : Stage → List Found → WalkState
state_of stage models = record { place = place_of stage; models = models }

-- a stage that a walk may be in, with the models that it has found
abbrev pub IsStage : Stage → List Found → Type 0
IsStage (stage.Mark place) models = place < length bases
IsStage (stage.Header next) models = next + header ≤ map_registers
IsStage stage.Finished models = absent_model models ≡ None
IsStage (stage.Failed error) models = Unit {0}

-- what every walk keeps, whatever it is answered
pub record IsWalk (stage : Stage) (models : List Found) : Type 0 where
  pub fits : IsStage stage models
  pub sound : AreSound models
