-- What a call that enters a read-back stands on.
use Rattle.std.proofs.Common.{◌≡◌, ◌≢◌, ℕ, List, [], ◌∷◌, ◌++◌, refl, sym, ap, subst, ◌∙◌, append_assoc}
use Rattle.std.specs.List.{AllByRecursion}
use Rattle.plant_book.specs.declared.call.Call.TheVariants as call
use Rattle.inverter_worker.specs.declared.job.Job.{Job}
use Rattle.inverter_worker.specs.declared.output.Asked.TheVariants as asked
use Rattle.inverter_worker.specs.declared.output.Output.{Output}
use Rattle.inverter_worker.specs.declared.output.Output.TheVariants as output
use Rattle.inverter_worker.specs.declared.state.State.{State}
use Rattle.inverter_worker.specs.declared.state.Step.TheVariants.{Ready}
use Rattle.inverter_worker.specs.Runs.{RunStep, LeadsTo}
use Rattle.worker_turn.specs.Turning.{pending}
use Rattle.worker_turn.specs.Requests.{IsPassedOver}
use Rattle.worker_turn.specs.Sights.{IsSight, IsSeen}
use Rattle.worker_turn.proofs.Going.{all_push, all_map}
use Rattle.worker_turn.proofs.Ending.{Tells, told}
use Rattle.worker_turn.proofs.Cutting.{leads_cut}

pub seen_anywhere : (job : Job) (begun last : State) (sofar later : List RunStep) (at inverter number raw : ℕ) → begun.step ≡ Ready
    → LeadsTo job begun (sofar ++ later) last → pending output.Nothing sofar ≡ output.Call (call.Saw at inverter number raw)
    → IsSeen job sofar at inverter number raw
seen_anywhere job begun last sofar later at inverter number raw ready leads saw =
    let cut = leads_cut job begun last sofar later leads in
    subst (λ (o : Output). Tells job o sofar) saw (told job begun cut.0 sofar ready cut.1)

-- a step that enters nothing of a read-back
abbrev pub IsNoSight : RunStep → Type 0
IsNoSight one = IsSight one.output → ⊥

no_sight : (one : RunStep) (put : Output) → one.output ≡ put → (IsSight put → ⊥) → IsNoSight one
no_sight one put is none = subst (λ (o : Output). IsSight o → ⊥) (sym is) none

last_no_sight : (put : Output) (run : List RunStep) → (IsSight put → ⊥) → AllByRecursion IsNoSight run → IsSight (pending put run) → ⊥
last_no_sight put [] none all sight = none sight
last_no_sight put (one ∷ run) none all sight = last_no_sight one.output run all.0 all.1 sight

none_behind : (xs ys : List RunStep) → xs ++ ys ≡ [] → ys ≡ []
none_behind [] ys is = is
none_behind (x ∷ xs) ys is = absurd cc

-- what stands before the last step
all_before : (P : RunStep → Type 0) (xs ys front : List RunStep) (last : RunStep) → ys ≢ [] → xs ++ ys ≡ front ++ last ∷ [] → AllByRecursion P front
    → AllByRecursion P xs
all_before P [] ys front last some is all = tt
all_before P (x ∷ xs) ys [] last some is all =
    let rest : xs ++ ys ≡ [] = cc in absurd (some (none_behind xs ys rest))
all_before P (x ∷ xs) ys (first ∷ front) last some is all =
    let head : first ≡ x = cc in
    let rest : xs ++ ys ≡ front ++ last ∷ [] = cc in (subst P head all.0, all_before P xs ys front last some rest all.1)

-- a run that ends with such a call lies before steps that make none
lies_before : (put : Output) (xs ys before front : List RunStep) (last : RunStep) → ys ≢ [] → AllByRecursion IsNoSight front → IsSight (pending put xs)
    → xs ++ ys ≡ before ++ (front ++ last ∷ []) → (more : List RunStep) × (before ≡ xs ++ more)
lies_before put [] ys before front last some all sight is = (before, refl)
lies_before put (x ∷ xs) ys [] front last some all sight is =
    let none = all_before IsNoSight (x ∷ xs) ys front last some is all in absurd (last_no_sight x.output xs none.0 none.1 sight)
lies_before put (x ∷ xs) ys (first ∷ before) front last some all sight is =
    let head : first ≡ x = cc in
    let rest : xs ++ ys ≡ before ++ (front ++ last ∷ []) = cc in
    let behind = lies_before x.output xs ys before front last some all sight rest in
    (behind.0, ap (λ (s : RunStep). s ∷ before) head ∙ ap (λ (t : List RunStep). x ∷ t) behind.1)

pub own : (job : Job) (sofar between : List RunStep) (at inverter number raw : ℕ) → (seen : IsSeen job (sofar ++ between) at inverter number raw)
    → IsSight (pending output.Nothing sofar) → between ≢ [] → (more : List RunStep) × (seen.awaits.before ≡ sofar ++ more)
own job sofar between at inverter number raw seen sight some =
    let awaits = seen.awaits in
    let wait = awaits.numbered ∷ awaits.sent ∷ awaits.whole ∷ awaits.passed in
    let front = awaits.numbered ∷ awaits.sent ∷ awaits.whole ∷ (awaits.passed ++ seen.showed ∷ []) in
    let is : sofar ++ between ≡ awaits.before ++ (front ++ seen.called ∷ []) =
    seen.is ∙ ap (λ (t : List RunStep). t ++ seen.showed ∷ seen.called ∷ []) awaits.is ∙ append_assoc awaits.before wait (seen.showed ∷ seen.called ∷ [])
    ∙ ap (λ (t : List RunStep). awaits.before ++ awaits.numbered ∷ awaits.sent ∷ awaits.whole ∷ t) (sym (append_assoc awaits.passed (seen.showed ∷ []) (seen.called ∷ []))) in
    let passed = all_map (IsPassedOver (asked.Read seen.read)) IsNoSight awaits.passed (λ one over. no_sight one output.Receive over.2.1 (λ h. h)) awaits.are_passed in
    let none : AllByRecursion IsNoSight front = (
      no_sight awaits.numbered output.Now awaits.is_numbered.1 (λ h. h),
      (
        no_sight awaits.sent _ awaits.is_sent.1 (λ h. h),
        (
          no_sight awaits.whole output.Receive awaits.is_whole.1 (λ h. h),
          all_push IsNoSight awaits.passed seen.showed passed (no_sight seen.showed output.Now seen.is_showed.1 (λ h. h)),
        ),
      ),
    ) in
    lies_before output.Nothing sofar between awaits.before front seen.called some none sight is
