-- A walk over a map is a walk over that map again after the map's answer.
use Rattle.std.proofs.Common.{◌≡◌, ℕ, Bool, true, false, cond, eqb, List, [], ◌∷◌, ◌++◌, Option, Some, None, Result, Ok, Err, refl, sym, ◌∙◌, ap, subst, ◌⊎◌, inl, inr}
use Rattle.std.specs.Prelude.{IfErr}
use Rattle.std.specs.Result.{result_err}
use Rattle.std.proofs.lemmas.Bool.{eqb-true, eqb-false}
use Rattle.model_discovery.specs.declared.found.Found.{Found}
use Rattle.model_discovery.specs.declared.fault.WalkFault.{WalkFault}
use Rattle.model_discovery.specs.declared.walk.Next.TheVariants.{Read, Done}
use Rattle.model_discovery.specs.Map.{Map, Answer, Registers, Exception}
use Rattle.model_discovery.specs.Chain.{end_mark, bases, is_mark, base_of, first_header, HasHeader, next_header, Stand, model_fault, AreSound, ReachesTo, EndsAt, absent_model, IsChain, IsFaultAfter, IsOutcome, at_mark, at_model, at_end, at_exception}
use Rattle.model_discovery.specs.WalkState.{Place, Seeking, Reading, Finished, Failed, WalkState, IsAt, IsOn, Answers, place_at_bases, place_at_end, state_after_model, state_after, fault_of, next_read}

nil_no_middle : (before after : List Found) (model : Found) → [] ≡ before ++ model ∷ after → ⊥
nil_no_middle [] after model e = cc
nil_no_middle (x ∷ before) after model e = cc

-- a place in a list with one more at its end is that end, or a place before it
place_in_longer : (xs before after : List Found) (x y : Found) → xs ++ x ∷ [] ≡ before ++ y ∷ after
    → ((before ≡ xs) × (y ≡ x)) ⊎ ((rest : List Found) × (xs ≡ before ++ y ∷ rest))
place_in_longer [] [] after x y e = inl (refl, cc)
place_in_longer [] (b ∷ before) after x y e = let tail : [] ≡ before ++ y ∷ after = cc in absurd (nil_no_middle before after y tail)
place_in_longer (a ∷ xs) [] after x y e = let head : a ≡ y = cc in inr (xs, ap (λ (z : Found). z ∷ xs) head)
place_in_longer (a ∷ xs) (b ∷ before) after x y e =
    let head : a ≡ b = cc in
    let tail : xs ++ x ∷ [] ≡ before ++ y ∷ after = cc in
    elim (place_in_longer xs before after x y tail) [
      | inl last ↦ let here : before ≡ xs = last.0 in inl (cc, last.1)
      | inr inside ↦ let here : xs ≡ before ++ y ∷ inside.0 = inside.1 in inr (inside.0, cc)
    ]

pub sound_nil : AreSound []
sound_nil before after model e = absurd (nil_no_middle before after model e)

pub sound_more : (models : List Found) (model : Found) → AreSound models → model_fault models model ≡ None → AreSound (models ++ model ∷ [])
sound_more models model sound fine before after other e =
    elim (place_in_longer models before after model other e) [
      | inl last ↦ rw (last.0, last.1) fine
      | inr inside ↦ sound before inside.0 other inside.1
    ]

pub Stand-more : (map : Map) (from : ℕ) (models : List Found) (next : ℕ) (model : Found) → Stand map from models next → model.start ≡ next → HasHeader map model
    → Stand map from (models ++ model ∷ []) (next_header model)
Stand-more map from [] next model h at header = (at ∙ sym h, header, refl)
Stand-more map from (x ∷ models) next model h at header = (h.0, h.1, Stand-more map (next_header x) models next model h.2 at header)

ReachesTo-more : (map : Map) (models : List Found) (model : Found) → ReachesTo map models model.start → HasHeader map model → model_fault models model ≡ None
    → ReachesTo map (models ++ model ∷ []) (next_header model)
ReachesTo-more map models model reached header fine = record {
  base = reached.base;
  mark = reached.mark;
  stand = Stand-more map (first_header reached.base) models model.start model reached.stand refl header;
  sound = sound_more models model reached.sound fine;
}

after_base_on : (map : Map) (left : List ℕ) → base_of map bases ≡ base_of map left → IsAt map (place_at_bases left) []
after_base_on map [] h = at_mark refl h refl
after_base_on map (base ∷ left) h = (refl, h)

marked_on : (map : Map) (base : ℕ) (left : List ℕ) (marked : Bool) → is_mark (map base) ≡ marked → base_of map bases ≡ base_of map (base ∷ left)
    → IsAt map (cond marked (Reading (first_header base)) (place_at_bases left)) []
marked_on map base left true e h = record {
  base = base;
  mark = h ∙ ap (λ (b : Bool). cond b (Some base) (base_of map left)) e;
  stand = refl;
  sound = sound_nil;
}
marked_on map base left false e h = after_base_on map left (h ∙ ap (λ (b : Bool). cond b (Some base) (base_of map left)) e)

closed_on : (map : Map) (models : List Found) (next : ℕ) (lacks : Option ℕ) → absent_model models ≡ lacks → ReachesTo map models next → EndsAt map next → IsAt map (place_at_end lacks) models
closed_on map models next None e reached ends = record { next = next; reach = reached; end = ends; complete = e }
closed_on map models next (Some id) e reached ends = at_end next id reached ends e refl

taken_on : (map : Map) (models : List Found) (model : Found) (found : Option WalkFault) → model_fault models model ≡ found → ReachesTo map models model.start → HasHeader map model
    → IsOn map (state_after_model models model found)
taken_on map models model None e reached header = ReachesTo-more map models model reached header e
taken_on map models model (Some error) e reached header = at_model model reached header e

header_on : (map : Map) (models : List Found) (model : Found) (ends : Bool) → eqb model.id end_mark ≡ ends → ReachesTo map models model.start → map model.start ≡ Registers model.id model.length
    → IsOn map (cond ends (record { place = place_at_end (absent_model models); models = models }) (state_after_model models model (model_fault models model)))
header_on map models model true e reached answer =
    let id : model.id ≡ end_mark = eqb-true _ _ e in
    closed_on map models model.start (absent_model models) refl reached (model.length, answer ∙ ap (λ (n : ℕ). Registers n model.length) id)
header_on map models model false e reached answer = taken_on map models model (model_fault models model) refl reached (answer, eqb-false _ _ e)

pub after_on : (map : Map) (place : Place) (models : List Found) (answer : Answer) → IsAt map place models → Answers map place answer → IsOn map (state_after place models answer)
after_on map (Seeking base left) models answer h a =
    let marked = marked_on map base left (is_mark answer) (ap is_mark a) h.1 in
    subst (λ (found : List Found). IsAt map (cond (is_mark answer) (Reading (first_header base)) (place_at_bases left)) found) (sym h.0) marked
after_on map (Reading next) models (Registers first second) h a = header_on map models (record { id = first; start = next; length = second }) (eqb first end_mark) refl h a
after_on map (Reading next) models (Exception code) h a = at_exception next code h a refl
after_on map Finished models answer h a = h
after_on map (Failed error) models answer h a = h

failed_at : (map : Map) (place : Place) (models : List Found) (error : WalkFault) → IsAt map place models → Some error ≡ fault_of place → IsFaultAfter map models error
failed_at map (Seeking base left) models error h e = absurd cc
failed_at map (Reading next) models error h e = absurd cc
failed_at map Finished models error h e = absurd cc
failed_at map (Failed error') models error h e = let same : error' ≡ error = cc in subst (λ (f : WalkFault). IsFaultAfter map models f) same h

-- a walk over a map that has failed has that map's fault
pub fault_on : (map : Map) (walk : WalkState) (error : WalkFault) → IsOn map walk → Some error ≡ fault_of walk.place → IsOutcome map (Err error)
fault_on map walk error on e = (walk.models, failed_at map walk.place walk.models error on e)

-- and so has the answer of the call that it failed in
pub outcome_at : {T : Type 0} (map : Map) (walk : WalkState) (result : Result T WalkFault) → IsOn map walk → result_err result ≡ fault_of walk.place
    → IfErr result (λ error. IsOutcome map (Err error))
outcome_at map walk (Ok x) on e = tt
outcome_at map walk (Err error) on e = fault_on map walk error on e

finished_at : (map : Map) (place : Place) (models : List Found) → IsAt map place models → fault_of place ≡ None → Done ≡ next_read place → IsChain map models
finished_at map (Seeking base left) models h e done = absurd cc
finished_at map (Reading next) models h e done = absurd cc
finished_at map Finished models h e done = h
finished_at map (Failed error) models h e done = absurd cc

-- a walk over a map that is done and hasn't failed has that map's chain
pub chain_on : (map : Map) (walk : WalkState) → IsOn map walk → fault_of walk.place ≡ None → Done ≡ next_read walk.place → IsChain map walk.models
chain_on map walk on e done = finished_at map walk.place walk.models on e done

-- the answer to the read that a walk asks for, where the map gives it
pub answered : (map : Map) (place : Place) (answer : Answer) (start count : ℕ) → Read start count ≡ next_read place → map start ≡ answer → Answers map place answer
answered map (Seeking base left) answer start count asked given = let same : base ≡ start = cc in ap map same ∙ given
answered map (Reading next) answer start count asked given = let same : next ≡ start = cc in ap map same ∙ given
answered map Finished answer start count asked given = tt
answered map (Failed error) answer start count asked given = tt
