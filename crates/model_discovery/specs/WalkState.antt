-- Where a walk over a register map stands, and what an answer makes of it.
use Rattle.std.specs.Prelude.{◌≡◌, ℕ, ◌==◌, List, [], ◌∷◌, ◌++◌, length, slice_index, Option, Some, None, if◌then◌else◌}
use Rattle.model_discovery.specs.declared.found.Found.{Found}
use Rattle.model_discovery.specs.declared.fault.WalkFault.{WalkFault}
use Rattle.model_discovery.specs.declared.fault.WalkFault.TheVariants as fault
use Rattle.model_discovery.specs.declared.walk.Next.{Next}
use Rattle.model_discovery.specs.declared.walk.Next.TheVariants.{Read, Done}
use Rattle.model_discovery.specs.Map.{read_size, Map, Answer, Registers, Exception}
use Rattle.model_discovery.specs.Chain.{end_mark, bases, base_of, is_mark, first_header, next_header, model_fault, absent_model, ReachesTo, IsChain, IsFaultAfter}

-- where a walk stands
pub data Place : Type 0 where
  -- the mark is looked for at a base, with others left to try
  Seeking : (base : ℕ) (left : List ℕ) → Place
  -- the header at an address is read next
  Reading : (next : ℕ) → Place
  Finished : Place
  Failed : WalkFault → Place

-- a walk, with the models that it found so far
pub record WalkState : Type 0 where
  pub place : Place
  pub models : List Found

-- The walk over a map stands where the definition of its chain has it.
abbrev pub IsAt : Map → Place → List Found → Type 0
IsAt map (Seeking base left) models = (models ≡ []) × (base_of map bases ≡ base_of map (base ∷ left))
IsAt map (Reading next) models = ReachesTo map models next
IsAt map Finished models = IsChain map models
IsAt map (Failed error) models = IsFaultAfter map models error

abbrev pub IsOn : Map → WalkState → Type 0
IsOn map walk = IsAt map walk.place walk.models

-- the read that is asked for next
abbrev pub next_read : Place → Next
next_read (Seeking base left) = Read base read_size
next_read (Reading next) = Read next read_size
next_read Finished = Done
next_read (Failed error) = Done

-- the map gives this answer to that read
abbrev pub Answers : Map → Place → Answer → Type 0
Answers map (Seeking base left) answer = map base ≡ answer
Answers map (Reading next) answer = map next ≡ answer
Answers map Finished answer = Unit {0}
Answers map (Failed error) answer = Unit {0}

-- the first of the bases that are left is tried, and where none is left there's no mark
abbrev pub place_at_bases : List ℕ → Place
place_at_bases [] = Failed fault.NoMark
place_at_bases (base ∷ left) = Seeking base left

-- at the end mark, where this model is absent, or none
abbrev pub place_at_end : Option ℕ → Place
place_at_end None = Finished
place_at_end (Some id) = Failed (fault.Missing id)

-- a model behind these, with its fault
abbrev pub state_after_model : List Found → Found → Option WalkFault → WalkState
state_after_model models model None = record {
  place = Reading (next_header model);
  models = models ++ model ∷ [];
}
state_after_model models model (Some error) = record { place = Failed error; models = models }

-- a header behind these models
abbrev pub state_after_header : List Found → Found → WalkState
state_after_header models model = if model.id == end_mark
    then record { place = place_at_end (absent_model models); models = models }
    else state_after_model models model (model_fault models model)

-- after an answer to the read that was asked for; after its end a walk stays as it is
abbrev pub state_after : Place → List Found → Answer → WalkState
state_after (Seeking base left) models answer = record {
  place = if is_mark answer then Reading (first_header base) else place_at_bases left;
  models = models;
}
state_after (Reading next) models (Registers first second) =
    state_after_header models (record { id = first; start = next; length = second })
state_after (Reading next) models (Exception code) = record {
  place = Failed (fault.Exception code);
  models = models;
}
state_after Finished models answer = record { place = Finished; models = models }
state_after (Failed error) models answer = record { place = Failed error; models = models }

abbrev pub walk_after : WalkState → Answer → WalkState
walk_after walk answer = state_after walk.place walk.models answer

-- the fault of a walk that has failed
abbrev pub fault_of : Place → Option WalkFault
fault_of (Seeking base left) = None
fault_of (Reading next) = None
fault_of Finished = None
fault_of (Failed error) = Some error

-- A read may be answered, or a fault is there to be answered again.
abbrev pub TakesAnswer : Place → Type 0
TakesAnswer (Seeking base left) = Unit {0}
TakesAnswer (Reading next) = Unit {0}
TakesAnswer Finished = ⊥
TakesAnswer (Failed error) = Unit {0}

abbrev pub TakesRegisters : Place → List ℕ → Type 0
TakesRegisters (Seeking base left) regs = length regs ≡ read_size
TakesRegisters (Reading next) regs = length regs ≡ read_size
TakesRegisters Finished regs = ⊥
TakesRegisters (Failed error) regs = Unit {0}

-- the registers of a read, as an answer
abbrev pub registers : List ℕ → Answer
registers regs = Registers (slice_index regs 0) (slice_index regs 1)
