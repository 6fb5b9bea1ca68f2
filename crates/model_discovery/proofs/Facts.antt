-- What sound models have, each and all together.
use Rattle.std.proofs.Common.{◌≡◌, ℕ, suc, ◌+◌, ◌<◌, ◌≤◌, Bool, true, false, cond, eqb, ltb, leb, ◌&&◌, List, [], ◌∷◌, ◌++◌, length, get_or, take, drop, Option, Some, None, All, refl, sym, ◌∙◌, ap, subst, arith, append_assoc, drop-cons, take-append-drop}
use Rattle.std.specs.Prelude.{is_none, IsSome, IfSome}
use Rattle.std.specs.Option.{option_or}
use Rattle.std.proofs.lemmas.Bool.{eqb-true, ltb-false, leb-false}
use Rattle.std.proofs.lemmas.List.{length-take}
use Rattle.std.proofs.lemmas.List.Folds.{find-append}
use Rattle.der_models.specs.Layout.{capacity_id, ac_controls_id, header, least_length, least_block}
use Rattle.model_discovery.specs.declared.found.Found.{Found}
use Rattle.model_discovery.specs.declared.fault.WalkFault.{WalkFault}
use Rattle.model_discovery.specs.declared.fault.WalkFault.TheVariants as fault
use Rattle.model_discovery.specs.Map.{map_registers}
use Rattle.model_discovery.specs.Chain.{models_max, first_of, is_too_short, next_header, leaves_map, model_fault, absent_model, AreSound}

-- a model that isn't at fault passes each of the three tests
tests_passed : (a b c : Bool) (x y z : WalkFault) → cond a (Some x) (cond b (Some y) (cond c (Some z) None)) ≡ None → (a ≡ false) × (b ≡ false) × (c ≡ false)
tests_passed true b c x y z e = absurd cc
tests_passed false true c x y z e = absurd cc
tests_passed false false true x y z e = absurd cc
tests_passed false false false x y z e = (refl, refl, refl)

record IsFine (before : List Found) (model : Found) : Type 0 where
  few : length before < models_max
  long : is_too_short before model ≡ false
  within : next_header model + header ≤ map_registers

is_fine : (before : List Found) (model : Found) → model_fault before model ≡ None → IsFine before model
is_fine before model e =
    let passed = tests_passed (leb models_max (length before)) (is_too_short before model) (leaves_map (next_header model))
    fault.TooManyModels (fault.TooShort model.id model.length) (fault.ChainLeaves (next_header model)) e in
    record { few = leb-false _ _ passed.0; long = passed.1; within = ltb-false _ _ passed.2 }

pub header_within : (before : List Found) (model : Found) → model_fault before model ≡ None → next_header model + header ≤ map_registers
header_within before model e = (is_fine before model e).within

fine_at : (models : List Found) (k : ℕ) (d : Found) → AreSound models → k < length models → IsFine (take k models) (get_or models k d)
fine_at models k d sound lt =
    let split : models ≡ take k models ++ get_or models k d ∷ drop (suc k) models =
    sym (take-append-drop k models) ∙ ap (λ (t : List Found). take k models ++ t) (drop-cons models k d lt) in
    is_fine (take k models) (get_or models k d) (sound (take k models) (drop (suc k) models) (get_or models k d) split)

pub few_models : (models : List Found) → AreSound models → length models ≤ models_max
few_models [] sound = omega arith
few_models (x ∷ models) sound =
    let last = fine_at (x ∷ models) (length models) x sound (omega arith) in
    let few : length (take (length models) (x ∷ models)) < models_max = last.few in
    omega (arith, length-take (length models) (x ∷ models))

pub within_map : (models : List Found) → AreSound models → All (λ model. next_header model + header ≤ map_registers) models
within_map models sound k d lt = (fine_at models k d sound lt).within

-- A model that is the first of its identifier is as long as it has to be, and within the map.
record IsUsable (id : ℕ) (model : Found) : Type 0 where
  long : least_length id ≤ model.length
  within : next_header model + header ≤ map_registers

long_passed : (a b : Bool) → a ≡ true → a && b ≡ false → b ≡ false
long_passed true b e h = h
long_passed false b e h = absurd cc

-- a model of this identifier, behind none of it
usable_here : (id : ℕ) (before after : List Found) (model : Found) → model.id ≡ id → first_of id before ≡ None → AreSound (before ++ model ∷ after) → IsUsable id model
usable_here id before after model same none sound =
    let fine = is_fine before model (sound before after model refl) in
    let unseen : is_none (first_of model.id before) ≡ true = ap (λ (i : ℕ). is_none (first_of i before)) same ∙ ap is_none none in
    let long = long_passed (is_none (first_of model.id before)) (ltb model.length (least_length model.id)) unseen fine.long in
    record { long = subst (λ (i : ℕ). least_length i ≤ model.length) same (ltb-false _ _ long); within = fine.within }

-- behind a model of another identifier there's still none of this one
none_still : (id : ℕ) (before : List Found) (model : Found) → eqb model.id id ≡ false → first_of id before ≡ None → first_of id (before ++ model ∷ []) ≡ None
none_still id before model other none =
    find-append (λ (m : Found). eqb m.id id) before (model ∷ [])
    ∙ ap (λ (o : Option Found). option_or o (cond (eqb model.id id) (Some model) None)) none
    ∙ ap (λ (b : Bool). cond b (Some model) None) other

first_or_rest : (is : Bool) (model : Found) (rest : Option Found) (P : Found → Type 0) → (is ≡ true → P model) → (is ≡ false → IfSome rest P) → IfSome (cond is (Some model) rest) P
first_or_rest true model rest P here there = here refl
first_or_rest false model rest P here there = there refl

first_usable : (id : ℕ) (before models : List Found) → first_of id before ≡ None → AreSound (before ++ models) → IfSome (first_of id models) (IsUsable id)
first_usable id before [] none sound = tt
first_usable id before (x ∷ models) none sound =
    first_or_rest (eqb x.id id) x (first_of id models) (IsUsable id)
    (λ e. usable_here id before models x (eqb-true _ _ e) none sound)
    (λ e. first_usable id (before ++ x ∷ []) models (none_still id before x e none) (rw append_assoc sound))

of_usable : (id : ℕ) (first : Option Found) (P : Found → Type 0) → ((model : Found) → IsUsable id model → P model) → IfSome first (IsUsable id) → IfSome first P
of_usable id None P all h = tt
of_usable id (Some model) P all h = all model h

pub first_is_long : (models : List Found) → AreSound models → (id : ℕ) → IfSome (first_of id models) (λ model. least_length id ≤ model.length)
first_is_long models sound id =
    of_usable id (first_of id models) (λ model. least_length id ≤ model.length) (λ model usable. usable.long) (first_usable id [] models refl sound)

-- the registers that are used of the first model of an identifier are its own
pub first_block_own : (models : List Found) → AreSound models → (id : ℕ) → IfSome (first_of id models) (λ model. least_block id ≤ header + model.length)
first_block_own models sound id =
    of_usable id (first_of id models) (λ model. least_block id ≤ header + model.length)
    (λ model usable. let long : least_length id ≤ model.length = usable.long in omega (arith, long)) (first_usable id [] models refl sound)

-- and they are within the map
pub first_block_within : (models : List Found) → AreSound models → (id : ℕ) → IfSome (first_of id models) (λ model. model.start + least_block id ≤ map_registers)
first_block_within models sound id =
    of_usable id (first_of id models) (λ model. model.start + least_block id ≤ map_registers)
    (λ model usable. let long : least_length id ≤ model.length = usable.long in
    let within : next_header model + header ≤ map_registers = usable.within in omega (arith, long, within)) (first_usable id [] models refl sound)

absent_none : (one other : Option Found) → cond {A = Option ℕ} (is_none one) (Some capacity_id) (cond (is_none other) (Some ac_controls_id) None) ≡ None → IsSome one × IsSome other
absent_none None other e = absurd cc
absent_none (Some x) None e = absurd cc
absent_none (Some x) (Some y) e = (refl, refl)

pub none_absent : (models : List Found) → absent_model models ≡ None → IsSome (first_of capacity_id models) × IsSome (first_of ac_controls_id models)
none_absent models e = absent_none (first_of capacity_id models) (first_of ac_controls_id models) e
