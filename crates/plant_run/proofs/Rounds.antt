-- One turn more of a round.
use Rattle.std.proofs.Common.{◌≡◌, ◌≢◌, ℕ, ◌+◌, ◌<◌, ◌≤◌, Bool, true, false, cond, List, length, ◌⊎◌, inl, inr, Some, refl, sym, ap, subst, ◌∙◌, arith, get_or}
use Rattle.std.specs.Prelude.{set, slice_get}
use Rattle.std.proofs.lemmas.List.Sums.{sum_by-set}
use Rattle.inverter_worker.specs.declared.job.Job.{Job}
use Rattle.worker_turn.specs.Worker.{WorkerRecord, IsBetweenTurns}
use Rattle.plant_run.specs.Running.{EachWorker, IsOver, Differ}
use Rattle.plant_run.specs.Rounds.{IsSeat, turns_left, all_left}
use Rattle.plant_run.proofs.Seats.{get_same, get_other, same_or_not, some_same}

module _ (workers : List WorkerRecord) (place : ℕ) (before after : WorkerRecord) (within : place < length workers) (was : slice_get workers place ≡ Some before) where
  -- the worker at the place, or another that is as before
  at : (other : ℕ) (worker : WorkerRecord) → slice_get (set workers place after) other ≡ Some worker
      → ((place ≡ other) × (after ≡ worker)) ⊎ ((place ≢ other) × (slice_get workers other ≡ Some worker))
  at other worker is = by (same_or_not place other)
    where
      by : (place ≡ other) ⊎ (place ≢ other) → ((place ≡ other) × (after ≡ worker)) ⊎ ((place ≢ other) × (slice_get workers other ≡ Some worker))
      by (inl same) =
          let P : ℕ → Type 0 = λ n. slice_get (set workers place after) n ≡ Some worker in
          inl (same, some_same after worker (sym (get_same workers place after within) ∙ subst P (sym same) is))
      by (inr not) = inr (not, sym (get_other workers place other after not) ∙ is)

  pub seats_after : (count count_now : ℕ) → count_now ≡ count → after.job ≡ before.job → IsBetweenTurns after.state.step → EachWorker (IsSeat count) workers
      → EachWorker (IsSeat count_now) (set workers place after)
  seats_after count count_now same job rests seats other worker is = by (at other worker is)
    where
      by : ((place ≡ other) × (after ≡ worker)) ⊎ ((place ≢ other) × (slice_get workers other ≡ Some worker)) → IsSeat count_now worker
      by (inl here) =
          let P : WorkerRecord → Type 0 = λ w. IsSeat count_now w in
          subst P here.1 (record { of_desk = omega (arith, (seats place before was).of_desk, same, ap (λ (j : Job). j.inverter) job); rests = rests })
      by (inr there) = record { of_desk = omega (arith, (seats other worker there.1).of_desk, same); rests = (seats other worker there.1).rests }

  -- the worker that had its job before
  job_at : after.job ≡ before.job → (other : ℕ) (worker : WorkerRecord) → slice_get (set workers place after) other ≡ Some worker
      → (first : WorkerRecord) × (slice_get workers other ≡ Some first) × (worker.job ≡ first.job)
  job_at job other worker is = by (at other worker is)
    where
      by : ((place ≡ other) × (after ≡ worker)) ⊎ ((place ≢ other) × (slice_get workers other ≡ Some worker))
          → (first : WorkerRecord) × (slice_get workers other ≡ Some first) × (worker.job ≡ first.job)
      by (inl here) =
          let P : ℕ → Type 0 = λ n. slice_get workers n ≡ Some before in
          (before, subst P here.0 was, ap (λ (w : WorkerRecord). w.job) (sym here.1) ∙ job)
      by (inr there) = (worker, there.1, refl)

  pub differ_after : after.job ≡ before.job → Differ workers → Differ (set workers place after)
  differ_after job differ one other worker another is_one is_other same =
      let first = job_at job one worker is_one in
      let second = job_at job other another is_other in
      differ one other first.0 second.0 first.1 second.1
      (ap (λ (j : Job). j.inverter) (sym first.2) ∙ same ∙ ap (λ (j : Job). j.inverter) second.2)

  pub over_after : (turned again : Bool) → (turned ≡ false → IsOver after)
      → (again ≡ false → (other : ℕ) (worker : WorkerRecord) → other < place → slice_get workers other ≡ Some worker → IsOver worker)
      → cond turned true again ≡ false → (other : ℕ) (worker : WorkerRecord) → other < place + 1 → slice_get (set workers place after) other ≡ Some worker
      → IsOver worker
  over_after true again ended over none other worker below is = absurd cc
  over_after false again ended over none other worker below is = by (at other worker is)
    where
      by : ((place ≡ other) × (after ≡ worker)) ⊎ ((place ≢ other) × (slice_get workers other ≡ Some worker)) → IsOver worker
      by (inl here) = let P : WorkerRecord → Type 0 = λ w. IsOver w in subst P here.1 (ended refl)
      by (inr there) =
          let not : place ≡ other → ⊥ = there.0 in
          over none other worker (omega (arith, below, not)) there.1

  pub fewer_after : (turned again : Bool) (most : ℕ) (else : WorkerRecord) → get_or workers place else ≡ before
      → turns_left after + cond turned 1 0 ≤ turns_left before → all_left workers + cond again 1 0 ≤ most
      → all_left (set workers place after) + cond (cond turned true again) 1 0 ≤ most
  fewer_after true true most else it fewer all =
      omega (arith, sum_by-set turns_left workers place after else within, ap turns_left it, fewer, all)
  fewer_after true false most else it fewer all =
      omega (arith, sum_by-set turns_left workers place after else within, ap turns_left it, fewer, all)
  fewer_after false true most else it fewer all =
      omega (arith, sum_by-set turns_left workers place after else within, ap turns_left it, fewer, all)
  fewer_after false false most else it fewer all =
      omega (arith, sum_by-set turns_left workers place after else within, ap turns_left it, fewer, all)
