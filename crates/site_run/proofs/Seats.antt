-- The workers of a site before their first turns.
use Rattle.std.proofs.Common.{◌≡◌, ℕ, zero, suc, ◌<◌, List, [], ◌∷◌, ◌++◌, length, Some, refl, sym, ap, subst, ◌∙◌, arith, ◌⊎◌, inl, inr, get_or, false, Result, Ok, Err}
use Rattle.std.specs.Prelude.{slice_get, if◌then◌else◌, is_ok, is_err}
use Rattle.plant_book.specs.Site.{SiteRecord}
use Rattle.site_config.specs.SiteFile.{SiteFileRecord}
use Rattle.worker_turn.specs.Worker.{WorkerRecord, new_worker}
use Rattle.plant_run.specs.Running.{EachWorker, IsNew, IsOfSite, Differ}
use Rattle.site_run.specs.Run.{IsSeated, AreSeated}

new_is : (worker : WorkerRecord) (turns : ℕ) → worker ≡ new_worker worker.job turns → IsNew worker
new_is worker turns is = is ∙ ap (λ (n : ℕ). new_worker worker.job n) (sym (ap (λ (w : WorkerRecord). w.state.turns) is))

pub each_new : (file : SiteFileRecord) (turns count : ℕ) (workers : List WorkerRecord) → AreSeated file turns count workers → EachWorker IsNew workers
each_new file turns count workers are = λ place worker is. new_is worker turns (are.each place worker is).new

pub each_of_site : (file : SiteFileRecord) (turns count : ℕ) (site : SiteRecord) (workers : List WorkerRecord) → site ≡ file.site
    → AreSeated file turns count workers → EachWorker (IsOfSite site) workers
each_of_site file turns count site workers same are = λ place worker is.
    let job = (are.each place worker is).job in
    record {
      unit = ap (λ (s : SiteRecord). slice_get s.units worker.job.inverter) same ∙ ap (λ (n : ℕ). slice_get file.site.units n) job.inverter ∙ job.unit;
      rules = job.rules ∙ ap (λ (s : SiteRecord). s.rules) (sym same);
    }

pub differ : (file : SiteFileRecord) (turns count : ℕ) (workers : List WorkerRecord) → AreSeated file turns count workers → Differ workers
differ file turns count workers are = λ place other worker another is its same.
    sym (are.each place worker is).job.inverter ∙ same ∙ (are.each other another its).job.inverter

-- one worker more

pub no_worker : (file : SiteFileRecord) (turns : ℕ) → AreSeated file turns 0 []
no_worker file turns = record { all = refl; each = λ number worker is. absurd cc }

pub some_same : {X : Type 0} (a b : X) → Some a ≡ Some b → a ≡ b
some_same a b is = cc

-- what stands in a list with one more, by its place
pub get_more : {X : Type 0} (xs : List X) (x y : X) (i : ℕ) → slice_get (xs ++ x ∷ []) i ≡ Some y
    → (slice_get xs i ≡ Some y) ⊎ ((i ≡ length xs) × (x ≡ y))
get_more [] x y zero is = inr (refl, some_same x y is)
get_more [] x y (suc i) is = absurd cc
get_more (z ∷ xs) x y zero is = inl is
get_more (z ∷ xs) x y (suc i) is = elim (get_more xs x y i is) [ inl here ↦ inl here | inr last ↦ inr (ap suc last.0, last.1) ]

pub one_more : (file : SiteFileRecord) (turns : ℕ) (workers : List WorkerRecord) (worker : WorkerRecord)
    → AreSeated file turns (length workers) workers → IsSeated file turns (length workers) worker
    → AreSeated file turns (length (workers ++ worker ∷ [])) (workers ++ worker ∷ [])
one_more file turns workers worker are seated = record {
  all = refl;
  each = λ number other is. elim (get_more workers worker other number is) [
    | inl here ↦ are.each number other here
    | inr last ↦
        let P : ℕ → Type 0 = λ n. IsSeated file turns n other in
        let Q : WorkerRecord → Type 0 = λ w. IsSeated file turns (length workers) w in
        subst P (sym last.0) (subst Q last.1 seated)
  ];
}

-- the port that stands behind those so far
pub get_seam : {X : Type 0} (before rest : List X) (x : X) → slice_get (before ++ x ∷ rest) (length before) ≡ Some x
get_seam [] rest x = refl
get_seam (y ∷ before) rest x = get_seam before rest x

-- what a list has at a place
pub get_is : {X : Type 0} (xs : List X) (i : ℕ) (x : X) → i < length xs → x ≡ get_or xs i x → slice_get xs i ≡ Some x
get_is [] i x within is = absurd (omega (arith, within))
get_is (y ∷ xs) zero x within is = ap (λ (z : _). Some z) (sym is)
get_is (y ∷ xs) (suc i) x within is = get_is xs i x (omega (arith, within)) is

-- a list with one more, where it found room
pub pushed : {T E X : Type 0} (result : Result T E) (more same : List X) → is_err result ≡ false → (if is_ok result then more else same) ≡ more
pushed (Ok value) more same none = refl
pushed (Err why) more same none = absurd cc
