-- A site has as many workers as inverters at most.
use Rattle.std.proofs.Common.{◌≡◌, ◌≢◌, ℕ, suc, ◌<◌, ◌≤◌, eqb, Bool, true, false, true≢false, List, [], ◌∷◌, length, map, refl, sym, subst, arith, ne_eqb, eqb-true}
use Rattle.std.specs.Prelude.{◌||◌}
use Rattle.std.specs.List.{AllByRecursion, IsDistinct, list_any}
use Rattle.std.proofs.lemmas.List.{length-map}
use Rattle.std.proofs.lemmas.Map.Steps.{length-le_from_distinct_below}
use Rattle.std.proofs.lemmas.Option.{slice_get_within}
use Rattle.plant_book.specs.Site.{SiteRecord}
use Rattle.worker_turn.specs.Worker.{WorkerRecord}
use Rattle.plant_run.specs.Running.{EachWorker, IsOfSite, Differ}

abbrev inverter_of : WorkerRecord → ℕ
inverter_of worker = worker.job.inverter

-- a number that is no worker's inverter differs from each
apart : (number : ℕ) (workers : List WorkerRecord) → EachWorker (λ worker. number ≢ inverter_of worker) workers
    → AllByRecursion (λ other. eqb number other ≡ false) (map inverter_of workers)
apart number [] not = tt
apart number (worker ∷ workers) not =
    (ne_eqb number (inverter_of worker) (not 0 worker refl), apart number workers (λ place other is. not (suc place) other is))

-- the inverters of workers that differ are distinct
distinct : (workers : List WorkerRecord) → Differ workers → IsDistinct eqb (map inverter_of workers)
unfolding IsDistinct
distinct [] differ = tt
distinct (worker ∷ workers) differ = (
  apart (inverter_of worker) workers (λ place other is same.
      let first : 0 ≡ suc place = differ 0 (suc place) worker other refl is same in absurd (omega (arith, first))),
  distinct workers (λ place other one another is_one is_another same.
      let next : suc place ≡ suc other = differ (suc place) (suc other) one another is_one is_another same in omega (arith, next)),
)

-- and each of them is a site's, where each worker's is
first_or_later : (count number other : ℕ) (later b : Bool) → eqb number other ≡ b → (b || later) ≡ true → other < count
    → (later ≡ true → number < count) → number < count
first_or_later count number other later true is any first behind = subst (λ (n : ℕ). n < count) (sym (eqb-true number other is)) first
first_or_later count number other later false is any first behind = behind any

below : (count number : ℕ) (workers : List WorkerRecord) → EachWorker (λ worker. inverter_of worker < count) workers
    → list_any (eqb number) (map inverter_of workers) ≡ true → number < count
below count number [] each any = absurd (true≢false (sym any))
below count number (worker ∷ workers) each any =
    first_or_later count number (inverter_of worker) (list_any (eqb number) (map inverter_of workers)) (eqb number (inverter_of worker)) refl any
    (each 0 worker refl) (below count number workers (λ place other is. each (suc place) other is))

-- workers of a site that differ are as many as its inverters at most
pub few : (site : SiteRecord) (workers : List WorkerRecord) → EachWorker (IsOfSite site) workers → Differ workers → length site.units ≤ 64
    → length workers ≤ 64
few site workers of_site differ units =
    let each : EachWorker (λ worker. inverter_of worker < length site.units) workers =
    λ place worker is. slice_get_within site.units worker.job.inverter worker.job.unit (of_site place worker is).unit in
    let within = length-le_from_distinct_below (map inverter_of workers) (length site.units) (distinct workers differ)
    (λ number any. below (length site.units) number workers each any) in
    omega (arith, within, units, length-map workers inverter_of)
