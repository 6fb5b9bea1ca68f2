-- A map has no more than one outcome.
use Rattle.std.proofs.Common.{◌≡◌, ℕ, Bool, false, cond, eqb, List, [], ◌∷◌, ◌++◌, Option, Some, None, Result, Ok, Err, refl, sym, ◌∙◌, ap, subst, append_assoc}
use Rattle.std.specs.Option.{option_map}
use Rattle.std.proofs.lemmas.Bool.{ne_eqb}
use Rattle.std.proofs.lemmas.List.{append-nil}
use Rattle.model_discovery.specs.declared.found.Found.{Found}
use Rattle.model_discovery.specs.declared.fault.WalkFault.{WalkFault}
use Rattle.model_discovery.specs.declared.fault.WalkFault.TheVariants as fault
use Rattle.model_discovery.specs.Map.{Map, Answer, Registers, Exception}
use Rattle.model_discovery.specs.Chain.{end_mark, bases, base_of, first_header, HasHeader, next_header, Stand, model_fault, AreSound, ReachesTo, EndsAt, absent_model, IsFaultAfter, at_mark, at_model, at_end, at_exception, IsOutcome}

abbrev Outcome : Type 0
Outcome = Result (List Found) WalkFault

abbrev complete : List Found → Option ℕ → Outcome
complete models None = Ok models
complete models (Some id) = Err (fault.Missing id)

abbrev failed : WalkFault → Outcome
failed error = Err error

-- what a map comes to by its answer to the read of the header behind these models; none where the
-- chain goes on
abbrev verdict : List Found → ℕ → Answer → Option Outcome
verdict models next (Exception code) = Some (Err (fault.Exception code))
verdict models next (Registers first second) = cond (eqb first end_mark) (Some (complete models (absent_model models)))
    (option_map (λ (error : WalkFault). Err error) (model_fault models (record { id = first; start = next; length = second })))

-- the models are sound, and the map comes to this outcome behind them
record Stops (map : Map) (models : List Found) (next : ℕ) (outcome : Outcome) : Type 0 where
  sound : AreSound models
  verdict_is : verdict models next (map next) ≡ Some outcome

verdict_at : (map : Map) (models : List Found) (model : Found) (found : Option WalkFault) → HasHeader map model → model_fault models model ≡ found
    → verdict models model.start (map model.start) ≡ option_map (λ (error : WalkFault). Err error) found
verdict_at map models model found header e =
    let here : eqb model.id end_mark ≡ false = ne_eqb _ _ header.1 in
    ap (verdict models model.start) header.0
    ∙ ap (λ (b : Bool). cond b (Some (complete models (absent_model models))) (option_map (λ (error : WalkFault). Err error) (model_fault models model))) here
    ∙ ap (λ (f : Option WalkFault). option_map {U = Outcome} (λ (error : WalkFault). Err error) f) e

verdict_at_end : (map : Map) (models : List Found) (next : ℕ) (lacks : Option ℕ) → EndsAt map next → absent_model models ≡ lacks
    → verdict models next (map next) ≡ Some (complete models lacks)
verdict_at_end map models next lacks ends e = ap (verdict models next) ends.1 ∙ ap (λ (o : Option ℕ). Some (complete models o)) e

-- a chain that goes on doesn't stop
no_stop : (map : Map) (models more : List Found) (model : Found) (outcome : Outcome) → HasHeader map model → AreSound (models ++ model ∷ more)
    → Stops map models model.start outcome → ⊥
no_stop map models more model outcome header sound stops =
    let goes_on : verdict models model.start (map model.start) ≡ None = verdict_at map models model None header (sound models more model refl) in
    let stop = stops.verdict_is in
    cc

same_model : (map : Map) (one other : Found) → one.start ≡ other.start → HasHeader map one → HasHeader map other → one ≡ other
same_model map one other at first second =
    let headers : Registers one.id one.length ≡ Registers other.id other.length = sym first.0 ∙ ap map at ∙ second.0 in
    let ids : one.id ≡ other.id = cc in
    let lengths : one.length ≡ other.length = cc in
    λ i. record { id = ids i; start = at i; length = lengths i }

regroup : (map : Map) (before models : List Found) (model : Found) (next : ℕ) (outcome : Outcome) → Stops map (before ++ model ∷ models) next outcome
    → Stops map ((before ++ model ∷ []) ++ models) next outcome
regroup map before models model next outcome stops = rw append_assoc stops

-- two lists of models from one address on, behind the same models, come to one outcome
same_stop : (map : Map) (from : ℕ) (before one other : List Found) (next next' : ℕ) (outcome outcome' : Outcome) → Stand map from one next → Stand map from other next'
    → Stops map (before ++ one) next outcome → Stops map (before ++ other) next' outcome' → outcome ≡ outcome'
same_stop map from before [] [] next next' outcome outcome' stand stand' stops stops' =
    let here : Stops map (before ++ []) next outcome' = subst (λ (n : ℕ). Stops map (before ++ []) n outcome') (sym stand' ∙ stand) stops' in
    let first = stops.verdict_is in
    let second = here.verdict_is in
    cc
same_stop map from before [] (y ∷ other) next next' outcome outcome' stand stand' stops stops' =
    let here : Stops map before y.start outcome = subst (λ (n : ℕ). Stops map before n outcome) (sym stand ∙ sym stand'.0) (rw append-nil at stops) in
    absurd (no_stop map before other y outcome stand'.1 stops'.sound here)
same_stop map from before (x ∷ one) [] next next' outcome outcome' stand stand' stops stops' =
    let here : Stops map before x.start outcome' = subst (λ (n : ℕ). Stops map before n outcome') (sym stand' ∙ sym stand.0) (rw append-nil at stops') in
    absurd (no_stop map before one x outcome' stand.1 stops.sound here)
same_stop map from before (x ∷ one) (y ∷ other) next next' outcome outcome' stand stand' stops stops' =
    let same : y ≡ x = same_model map y x (stand'.0 ∙ sym stand.0) stand'.1 stand.1 in
    let there : Stand map (next_header x) other next' = subst (λ (m : Found). Stand map (next_header m) other next') same stand'.2 in
    let stops_there : Stops map (before ++ x ∷ other) next' outcome' = subst (λ (m : Found). Stops map (before ++ m ∷ other) next' outcome') same stops' in
    same_stop map (next_header x) (before ++ x ∷ []) one other next next' outcome outcome' stand.2 there
    (regroup map before one x next outcome stops) (regroup map before other x next' outcome' stops_there)

-- an outcome is that of a map with no mark, or that behind the models which its chain reaches
data Comes (map : Map) (outcome : Outcome) : Type 0 where
  unmarked : base_of map bases ≡ None → outcome ≡ Err fault.NoMark → Comes map outcome
  stopped : (models : List Found) (next : ℕ) → ReachesTo map models next → verdict models next (map next) ≡ Some outcome → Comes map outcome

fault_comes : (map : Map) (models : List Found) (error : WalkFault) → IsFaultAfter map models error → Comes map (Err error)
fault_comes map models error (at_mark empty none e) = unmarked none (ap (λ (f : WalkFault). Err f) e)
fault_comes map models error (at_model model reached header e) = stopped models model.start reached (verdict_at map models model (Some error) header e)
fault_comes map models error (at_end next id reached ends e is) =
    stopped models next reached (verdict_at_end map models next (Some id) ends e ∙ ap (λ (f : WalkFault). Some (failed f)) (sym is))
fault_comes map models error (at_exception next code reached e is) =
    stopped models next reached (ap (verdict models next) e ∙ ap (λ (f : WalkFault). Some (failed f)) (sym is))

comes : (map : Map) (outcome : Outcome) → IsOutcome map outcome → Comes map outcome
comes map (Ok models) chain = stopped models chain.next chain.reach (verdict_at_end map models chain.next None chain.end chain.complete)
comes map (Err error) failed = fault_comes map failed.0 error failed.1

same_end : (map : Map) (one other : Outcome) → Comes map one → Comes map other → one ≡ other
same_end map one other (unmarked none e) (unmarked none' e') = e ∙ sym e'
same_end map one other (unmarked none e) (stopped models next reached v) = let marked = reached.mark in absurd cc
same_end map one other (stopped models next reached v) (unmarked none e) = let marked = reached.mark in absurd cc
same_end map one other (stopped models next reached v) (stopped models' next' reached' v') =
    let first = reached.mark in
    let second = reached'.mark in
    let base : reached'.base ≡ reached.base = cc in
    let stand : Stand map (first_header reached.base) models' next' = subst (λ (b : ℕ). Stand map (first_header b) models' next') base reached'.stand in
    same_stop map (first_header reached.base) [] models models' next next' one other reached.stand stand
    (record { sound = reached.sound; verdict_is = v }) (record { sound = reached'.sound; verdict_is = v' })

pub one_outcome : (map : Map) (one other : Outcome) → IsOutcome map one → IsOutcome map other → one ≡ other
one_outcome map one other first second = same_end map one other (comes map one first) (comes map other second)
