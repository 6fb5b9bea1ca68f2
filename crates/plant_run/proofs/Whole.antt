-- A life in one book, from its begin to its end.
use Rattle.std.proofs.Common.{◌≡◌, ℕ, Bool, List, [], ◌∷◌, ◌++◌, length, take, drop, Option, Some, refl, sym, ap, subst, ◌∙◌, arith}
use Rattle.std.specs.Prelude.{slice_get}
use Rattle.std.specs.List.{AllByRecursion}
use Rattle.std.proofs.lemmas.List.{take_all, take-append-le}
use Rattle.std.proofs.lemmas.Option.{get_or_from_slice_get, slice_get_within}
use Rattle.world_traits.specs.Links.{Links}
use Rattle.plant_book.specs.declared.book.Entry.{Entry}
use Rattle.plant_book.specs.Site.{SiteRecord, inverters}
use Rattle.plant_book.specs.Book.{BookRecord}
use Rattle.plant_book.specs.Part.{PartRecord, book_behind, first_book}
use Rattle.plant_book.specs.Answered.{IsBook}
use Rattle.plant_ledger.specs.Plant.{IsSafeLife}
use Rattle.plant_book.proofs.Safe.{safe_life}
use Rattle.ledger_desk.specs.Plain.{PlainRecord, IsKeptDesk}
use Rattle.worker_turn.specs.Worker.{WorkerRecord, IsBetweenTurns}
use Rattle.plant_run.specs.Running.{IsNew, IsOfSite, IsOfOne, EachWorks}
use Rattle.inverter_worker.specs.declared.output.Output.TheVariants as output
use Rattle.plant_run.specs.Works.{IsGoalAfter, IsFull, HasFullBook, one_book}
use Rattle.plant_run.proofs.Joining.{told_still}
use Rattle.plant_run.specs.Rounds.{IsWhole, IsSeat, WorkOn, book_of}

nothing_in : {X : Type 0} (xs : List X) → 0 ≡ length xs → xs ≡ []
nothing_in [] is = refl
nothing_in (x ∷ xs) is = absurd (omega (arith, is))

pub none_before : (desk : PlainRecord) → IsWhole desk → IsKeptDesk desk → desk.before ≡ []
none_before desk whole kept =
    let P : List ℕ → Type 0 = λ rolls. slice_get (0 ∷ rolls) (length rolls) ≡ Some (length desk.before) in
    nothing_in desk.before (get_or_from_slice_get (0 ∷ []) 0 (length desk.before) 0 (subst P whole.rolls kept.last))

-- the book of the life is the plant's
pub book_is : (desk : PlainRecord) → IsWhole desk → IsKeptDesk desk → book_of desk ≡ first_book desk.book
book_is desk whole kept = ap (λ (es : List Entry). book_behind es desk.book) (none_before desk whole kept)

pub answered : (desk : PlainRecord) → IsWhole desk → IsKeptDesk desk → IsBook (first_book desk.book)
answered desk whole kept =
    let P : List Entry → Type 0 = λ es. IsBook (book_behind es desk.book) in subst P (none_before desk whole kept) kept.behind.book

pub safe : (book : BookRecord) → IsBook book → IsSafeLife book
safe book is = λ past fits. safe_life book past is fits

-- a list that was lent whole
pub lent : {X : Type 0} (len : ℕ) (now items : List X) → len ≡ length items → length now ≡ length items
    → take len (now ++ drop (length now) items) ≡ now
lent len now items is same =
    take-append-le len now (drop (length now) items) (omega (arith, is, same)) ∙ take_all len now (omega (arith, is, same))

-- a new worker of a site's inverter has its seat
pub seat : (site : SiteRecord) (worker : WorkerRecord) → IsNew worker → IsOfSite site worker → IsSeat (inverters site) worker
seat site worker new of_site = record {
  of_desk = slice_get_within site.units worker.job.inverter worker.job.unit of_site.unit;
  rests = let P : WorkerRecord → Type 0 = λ w. IsBetweenTurns w.state.step in subst P (sym new) tt;
}

-- all entries of a life that began with none are the workers'
pub owned : (plant result : PartRecord) (workers : List WorkerRecord) (more : List Entry) → plant.entries ≡ []
    → first_book result ≡ record (first_book plant) { entries = (first_book plant).entries ++ more } → AllByRecursion (IsOfOne workers) more
    → AllByRecursion (IsOfOne workers) result.entries
owned plant result workers more none is each =
    let entries : result.entries ≡ more = ap (λ (b : BookRecord). b.entries) is ∙ ap (λ (es : List Entry). es ++ more) none in
    let P : List Entry → Type 0 = λ es. AllByRecursion (IsOfOne workers) es in subst P (sym entries) each

module _ {N : Type 0} (links : N → Option Links) (faults : N → ℕ) (may_give : ℕ → Bool) where
  -- the same of the books and of the lists as they were lent
  pub work_is : (a b c d : BookRecord) (workers lent_workers now : List WorkerRecord) (dialers lent_dialers dialers_now : List N) → a ≡ c → b ≡ d
      → lent_workers ≡ workers → lent_dialers ≡ dialers → WorkOn links faults may_give a b lent_workers now lent_dialers dialers_now
      → WorkOn links faults may_give c d workers now dialers dialers_now
  work_is a b c d workers lent_workers now dialers lent_dialers dialers_now first last its theirs work =
      let P : BookRecord → Type 0 = λ x. WorkOn links faults may_give x d workers now dialers dialers_now in
      let Q : BookRecord → Type 0 = λ x. WorkOn links faults may_give a x workers now dialers dialers_now in
      let R : List WorkerRecord → Type 0 = λ x. WorkOn links faults may_give a b x now dialers dialers_now in
      let S : List N → Type 0 = λ x. WorkOn links faults may_give a b lent_workers now x dialers_now in
      subst P first (subst Q last (subst R its (subst S theirs work)))

  -- a full book of a life in one book is its book
  pub in_life : (opened : BookRecord) (plant : PartRecord) (workers workers_now : List WorkerRecord) (dialers dialers_now : List N)
      → EachWorks links faults may_give opened (first_book plant) (IsFull (first_book plant)) workers workers_now dialers dialers_now
      → EachWorks links faults may_give opened (first_book plant) (HasFullBook (one_book plant)) workers workers_now dialers dialers_now
  in_life opened plant workers workers_now dialers dialers_now each = λ place before after old new was now had has.
      let it = each place before after old new was now had has in
      record {
        run = it.run;
        job_same = it.job_same;
        leads = it.leads;
        log = it.log;
        done = it.done;
        own = it.own;
        clock = it.clock;
        told = told_still (IsGoalAfter (first_book plant)) (IsGoalAfter (first_book plant)) (IsFull (first_book plant)) (HasFullBook (one_book plant))
            before.job.inverter output.Nothing it.run _ (λ made place inverter goal told. told) (λ full. (plant, (0, omega arith, refl), full)) it.told;
        rests = it.rests;
      }
