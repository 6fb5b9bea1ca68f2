-- A run of a worker agrees with the numbers of a book whose replies are right.
use Rattle.std.proofs.Common.{◌≡◌, ◌≢◌, ℕ, ◌+◌, ◌≤◌, List, [], ◌∷◌, ◌++◌, length, refl, sym, ap, subst, ◌∙◌, arith}
use Rattle.std.specs.Prelude.{◌==◌}
use Rattle.std.proofs.lemmas.List.Elements.{filter-append}
use Rattle.plant_book.specs.declared.book.Entry.{Entry}
use Rattle.plant_book.specs.Book.{BookRecord}
use Rattle.plant_book.specs.Answered.{IsAnswered}
use Rattle.ledger_desk.specs.Desk.{GoalTest}
use Rattle.inverter_worker.specs.declared.job.Job.{Job}
use Rattle.inverter_worker.specs.declared.input.Input.{Input}
use Rattle.inverter_worker.specs.declared.input.Input.TheVariants as input
use Rattle.inverter_worker.specs.declared.output.Asked.{Asked}
use Rattle.inverter_worker.specs.declared.output.Output.{Output}
use Rattle.inverter_worker.specs.declared.output.Output.TheVariants as output
use Rattle.inverter_worker.specs.declared.state.State.{State}
use Rattle.inverter_worker.specs.declared.state.Step.{Step}
use Rattle.inverter_worker.specs.declared.state.Step.TheVariants.{Ready}
use Rattle.inverter_worker.specs.Runs.{RunStep, LeadsTo}
use Rattle.worker_turn.specs.Agreeing.{AreEntriesOf, made_by, calls_made}
use Rattle.worker_turn.specs.Turning.{pending}
use Rattle.plant_run.specs.Own.{entries_of}
use Rattle.plant_run.specs.Works.{IsToldAt, AreTold, IsAtRest}
use Rattle.plant_run.specs.Acts.{acts}
use Rattle.plant_run.specs.Requests.{linked_by, requested_by, link_of, links_in, requested, requests_on, entries_in, AreNumbered, RequestsAgree}
use Rattle.plant_run.proofs.Numbering.{IsNumberedBy, sent_after, AreNumberedBy, from_book, requested_same, linked_same, numbered_same}
use Rattle.plant_run.proofs.Filtering.{none_of, all_map, numbers_rise}
use Rattle.plant_run.proofs.Requesting.{due, Comes, Entered, Before, AreFull, walk}
use Rattle.plant_run.proofs.Entering.{is_entering, Fits}

-- no request is numbered without a link
none_unlinked : (entries : List Entry) (links sent : ℕ) → AreNumberedBy links sent entries → requests_on 0 entries ≡ []
none_unlinked [] links sent all = refl
none_unlinked (entry ∷ entries) links sent all =
    filter-append (λ (request : Asked). link_of request == 0) (requested_by entry.call entry.reply) (requested entries)
    ∙ ap (λ (t : List Asked). t ++ requests_on 0 entries)
    (none_of 0 (requested_by entry.call entry.reply) (all_map (IsNumberedBy links sent) (λ (request : Asked). link_of request ≢ 0)
    (λ request is same. let some = is.some in let link = is.link in absurd (omega (arith, some, link, same))) (requested_by entry.call entry.reply) all.0))
    ∙ none_unlinked entries (links + length (linked_by entry.call entry.reply))
    (sent_after (linked_by entry.call entry.reply) (sent + length (requested_by entry.call entry.reply))) all.2

-- the calls of a run are those of its acts
calls_same : (put : Output) (run : List RunStep) → entries_in (acts put run) ≡ calls_made put run
calls_same put [] = refl
calls_same put (one ∷ run) = ap (λ (t : List Entry). made_by put one.input ++ t) (calls_same one.output run)

-- where a full book was told, it was full
told_full : (may_tell : GoalTest) (was_full : Type 0) (inverter made : ℕ) (came : Input) → IsToldAt may_tell was_full inverter made came → came ≡ input.Full → was_full
told_full may_tell was_full inverter made came told is = let P : Input → Type 0 = λ came. IsToldAt may_tell was_full inverter made came in subst P is told

pub are_full : (may_tell : GoalTest) (was_full : Type 0) (inverter : ℕ) (put : Output) (run : List RunStep) (made : ℕ)
    → AreTold may_tell was_full inverter put run made → AreFull was_full run
are_full may_tell was_full inverter put [] made told = tt
are_full may_tell was_full inverter put (one ∷ run) made told = (
  told_full may_tell was_full inverter made one.input told.0,
  are_full may_tell was_full inverter one.output run (made + length (made_by put one.input)) told.1,
)

module _ (full : Type 0) (job : Job) (book : BookRecord) (run : List RunStep) (answered : IsAnswered book)
    (are : AreEntriesOf (calls_made output.Nothing run) (entries_of job.inverter book.entries)) where
  abbrev all : List Entry
  all = entries_of job.inverter book.entries

  book_numbered : AreNumberedBy 0 0 all
  book_numbered = from_book job.inverter book answered

  rise : (link : ℕ) → 1 ≤ link → AreNumbered 1 (requests_on link all)
  rise link some = numbers_rise link all some book_numbered

  run_numbered : AreNumberedBy 0 0 (entries_in (acts output.Nothing run))
  run_numbered =
      let P : List Entry → Type 0 = λ t. AreNumberedBy 0 0 t in
      subst P (sym (calls_same output.Nothing run)) (numbered_same (calls_made output.Nothing run) all 0 0 are book_numbered)

  before : Before full all rise 0 (acts output.Nothing run)
  before = record {
    earlier = [];
    is = requested_same (calls_made output.Nothing run) all are ∙ ap requested (sym (calls_same output.Nothing run));
    below = tt;
    count =
        let same : length (links_in all) ≡ length (links_in (entries_in (acts output.Nothing run))) =
        ap length (linked_same (calls_made output.Nothing run) all are) ∙ ap (λ (t : List Entry). length (links_in t)) (sym (calls_same output.Nothing run)) in
        omega (arith, same);
    sent = 0;
    numbered = run_numbered;
  }

  pub requests_agree : (from last : State) → from.step ≡ Ready → LeadsTo job from run last → IsAtRest last.step (pending output.Nothing run) → AreFull full run
      → RequestsAgree full all run
  requests_agree from last ready leads rests fulls =
      let P : Step → Type 0 = λ step. Fits step output.Nothing in
      let Q : Step → Type 0 = λ step. Comes full all rise (is_entering step) 0 (due step output.Nothing) (acts output.Nothing run) in
      let comes : Entered full all rise 0 [] (acts output.Nothing run) =
      subst Q ready (walk full all rise job run from last output.Nothing 0 (subst P (sym ready) tt) leads rests fulls before) in
      record {
        none_before = comes.own ∙ none_unlinked (entries_in (acts output.Nothing run)) 0 0 run_numbered;
        on_each = comes.rest;
      }
