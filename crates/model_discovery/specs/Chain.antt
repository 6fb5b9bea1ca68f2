-- The chain of models in a SunSpec map, or the first fault that keeps it from having one (SunSpec
-- Device Information Model Specification, the map's marker, the model headers and the end model).
use Rattle.std.specs.Prelude.{◌≡◌, ◌≢◌, ℕ, ◌+◌, ◌==◌, nat_lt, nat_le, Bool, false, ◌&&◌, List, [], ◌∷◌, ◌++◌, length, find, Option, Some, None, is_none, Result, Ok, Err, if◌then◌else◌}
use Rattle.model_discovery.specs.declared.found.Found.{Found}
use Rattle.model_discovery.specs.declared.fault.WalkFault.{WalkFault}
use Rattle.model_discovery.specs.declared.fault.WalkFault.TheVariants as fault
use Rattle.der_models.specs.Layout.{capacity_id, ac_controls_id, header, least_length}
use Rattle.model_discovery.specs.Map.{map_registers, read_size, Map, Answer, Registers, Exception}

-- how many models a chain may have
abbrev pub models_max : ℕ
models_max = 128

-- the identifier that ends the chain
abbrev pub end_mark : ℕ
end_mark = 0xFFFF

-- the addresses at which a map may start, in the order in which they are tried
abbrev pub bases : List ℕ
bases = 40000 ∷ 50000 ∷ 0 ∷ []

-- the registers 'SunS', which mark the start of a map
abbrev pub is_mark : Answer → Bool
is_mark (Registers first second) = (first == 0x5375) && (second == 0x6E53)
is_mark (Exception code) = false

-- the first of these addresses that has the mark
abbrev pub base_of : Map → List ℕ → Option ℕ
base_of map addresses = find (λ base. is_mark (map base)) addresses

-- where the first header stands: behind the mark, which is one read
abbrev pub first_header : ℕ → ℕ
first_header base = base + read_size

-- a model's header stands at its start: its identifier, which isn't the end mark, and its length
abbrev pub HasHeader : Map → Found → Type 0
HasHeader map model = (map model.start ≡ Registers model.id model.length) × (model.id ≢ end_mark)

-- where the header behind a model stands
abbrev pub next_header : Found → ℕ
next_header model = model.start + header + model.length

-- the models stand one behind the other, from an address on, and the next header stands at `next`
abbrev pub Stand : Map → ℕ → List Found → ℕ → Type 0
Stand map from [] next = from ≡ next
Stand map from (model ∷ models) next = (model.start ≡ from) × HasHeader map model
    × Stand map (next_header model) models next

-- the first model of an identifier
abbrev pub first_of : ℕ → List Found → Option Found
first_of id models = find (λ model. model.id == id) models

-- behind these models this one is the first of its identifier, and shorter than it has to be
abbrev pub is_too_short : List Found → Found → Bool
is_too_short before model = is_none (first_of model.id before) && nat_lt model.length (least_length model.id)

-- would a header at this address need a register past the last one
abbrev pub leaves_map : ℕ → Bool
leaves_map next = nat_lt map_registers (next + header)

-- what is at fault with a model behind these: it is one too many; it is too short; or the header behind
-- it would leave the map. The first of these counts.
abbrev pub model_fault : List Found → Found → Option WalkFault
model_fault before model = if nat_le models_max (length before) then Some fault.TooManyModels
    else if is_too_short before model then Some (fault.TooShort model.id model.length)
    else if leaves_map (next_header model) then Some (fault.ChainLeaves (next_header model))
    else None

-- no model of the list is at fault, behind those before it
abbrev pub AreSound : List Found → Type 0
AreSound models = (before after : List Found) (model : Found) → models ≡ before ++ model ∷ after
    → model_fault before model ≡ None

-- Sound models stand one behind the other behind the mark, and the next header stands at `next`.
pub record ReachesTo (map : Map) (models : List Found) (next : ℕ) : Type 0 where
  pub base : ℕ
  pub mark : base_of map bases ≡ Some base
  pub stand : Stand map (first_header base) models next
  pub sound : AreSound models

-- the identifier at this address is the end mark; the length behind it may be anything
abbrev pub EndsAt : Map → ℕ → Type 0
EndsAt map next = (any : ℕ) × (map next ≡ Registers end_mark any)

-- the first model that has to be there and isn't: of 702 and 704
abbrev pub absent_model : List Found → Option ℕ
absent_model models = if is_none (first_of capacity_id models) then Some capacity_id
    else if is_none (first_of ac_controls_id models) then Some ac_controls_id
    else None

-- The chain of a map: the models between the mark and the end mark.
pub record IsChain (map : Map) (models : List Found) : Type 0 where
  pub next : ℕ
  pub reach : ReachesTo map models next
  pub end : EndsAt map next
  pub complete : absent_model models ≡ None

-- What keeps a map from having a chain, and the models that stand before it.
pub data IsFaultAfter (map : Map) (models : List Found) (error : WalkFault) : Type 0 where
  -- no base has the mark
  at_mark : models ≡ [] → base_of map bases ≡ None → error ≡ fault.NoMark → IsFaultAfter map models error
  -- the model behind these is at fault
  at_model : (model : Found) → ReachesTo map models model.start → HasHeader map model
      → model_fault models model ≡ Some error → IsFaultAfter map models error
  -- a model is missing at the end mark
  at_end : (next id : ℕ) → ReachesTo map models next → EndsAt map next
      → absent_model models ≡ Some id → error ≡ fault.Missing id → IsFaultAfter map models error
  -- the read of the header behind these is refused
  at_exception : (next code : ℕ) → ReachesTo map models next
      → map next ≡ Exception code → error ≡ fault.Exception code → IsFaultAfter map models error

-- What a walk over the map comes to: its chain, or its fault.
abbrev pub IsOutcome : Map → Result (List Found) WalkFault → Type 0
IsOutcome map (Ok models) = IsChain map models
IsOutcome map (Err error) = (models : List Found) × IsFaultAfter map models error
