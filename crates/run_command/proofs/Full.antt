-- A run that finishes at a full book: a book of its life has as many calls as room.
use Rattle.std.proofs.Common.{◌≡◌, ◌⊎◌, inl, inr, ℕ, zero, suc, ◌<◌, Bool, true, false, List, [], ◌∷◌, length, Option, Some, refl, ap, subst, arith}
use Rattle.std.specs.Prelude.{if◌then◌else◌, slice_get}
use Rattle.std.specs.List.{list_any, slice_index_or}
use Rattle.std.proofs.lemmas.List.Folds.{Any-from_list_any}
use Rattle.plant_book.specs.Part.{PartRecord}
use Rattle.inverter_worker.specs.declared.state.End.TheVariants as over
use Rattle.inverter_worker.specs.declared.state.Step.{Step}
use Rattle.inverter_worker.specs.declared.state.Step.TheVariants as steps
use Rattle.worker_turn.specs.Worker.{WorkerRecord}
use Rattle.plant_book.specs.Life.{Life}
use Rattle.site_config.specs.SiteFile.{SiteFileRecord}
use Rattle.world_traits.specs.Links.{Links}
use Rattle.operator_console.specs.declared.session.ConsoleEnd.{ConsoleEnd}
use Rattle.operator_console.specs.declared.session.ConsoleEnd.TheVariants as consoles
use Rattle.plant_run.specs.Works.{HasFullBook}
use Rattle.plant_run.specs.Operator.{IsConsole}
use Rattle.site_run.specs.declared.report.Finish.TheVariants as finishes
use Rattle.site_run.specs.Report.{finish_behind, finish_of, found_full, lacks_memory}
use Rattle.site_run.specs.Run.{IsRun}

-- an element that is read at a place is got there
get_at : {X : Type 0} (xs : List X) (place : ℕ) (x : X) → place < length xs → slice_index_or xs place x ≡ x → slice_get xs place ≡ Some x
get_at [] place x low e = absurd (omega (arith, low))
get_at (y ∷ ys) zero x low e = ap Some e
get_at (y ∷ ys) (suc place) x low e = get_at ys place x (omega (arith, low)) e

full_step : (step : Step) → found_full step ≡ true → step ≡ steps.Over over.BookFull
full_step (steps.Over over.BookFull) e = refl
full_step (steps.Over over.TurnsDone) e = absurd cc
full_step (steps.Over over.Stopped) e = absurd cc
full_step (steps.Over (over.Unfit _ _ _)) e = absurd cc
full_step (steps.Over over.NoMemory) e = absurd cc
full_step steps.Ready e = absurd cc
full_step steps.Aiming e = absurd cc
full_step (steps.Dialing _) e = absurd cc
full_step (steps.LinkTiming _) e = absurd cc
full_step (steps.Linking _) e = absurd cc
full_step (steps.Timing _) e = absurd cc
full_step steps.Asking e = absurd cc
full_step (steps.Window _) e = absurd cc
full_step (steps.ReleaseTiming _) e = absurd cc
full_step (steps.Sending _) e = absurd cc
full_step (steps.WaitWrite _) e = absurd cc
full_step steps.ReadTiming e = absurd cc
full_step steps.ReadAsking e = absurd cc
full_step (steps.ReadWindow _) e = absurd cc
full_step (steps.SendingRead _) e = absurd cc
full_step (steps.WaitRead _) e = absurd cc
full_step (steps.SawTiming _ _) e = absurd cc
full_step steps.SawAsking e = absurd cc
full_step steps.Closing e = absurd cc
full_step (steps.UnfitClosing _ _ _) e = absurd cc
full_step steps.Resting e = absurd cc

-- who found a full book: a worker, or the console; and how much room the book has
found_by : (room : ℕ) (full : Bool) (ending : ConsoleEnd) (calls : ℕ) → finish_behind room full ending ≡ finishes.BookFull calls → ((full ≡ true) ⊎ (ending ≡ consoles.BookFull)) × (room ≡ calls)
found_by room full consoles.NoMemory calls e = absurd cc
found_by room full consoles.WriteFault calls e = absurd cc
found_by room full consoles.ReadFault calls e = absurd cc
found_by room full consoles.BookFull calls e = (inr refl, cc)
found_by room true consoles.Ended calls e = (inl refl, cc)
found_by room true consoles.Stopped calls e = (inl refl, cc)
found_by room false consoles.Ended calls e = absurd cc
found_by room false consoles.Stopped calls e = absurd cc

-- no want of memory hides it
full_if : (lacks full : Bool) (room : ℕ) (ending : ConsoleEnd) (calls : ℕ) → (if lacks then finishes.NoMemory else finish_behind room full ending) ≡ finishes.BookFull calls
    → ((full ≡ true) ⊎ (ending ≡ consoles.BookFull)) × (room ≡ calls)
full_if true full room ending calls e = absurd cc
full_if false full room ending calls e = found_by room full ending calls e

-- a worker that found a book full
full_worker : (workers : List WorkerRecord) → list_any (λ (w : WorkerRecord). found_full w.state.step) workers ≡ true
    → (number : ℕ) × (worker : WorkerRecord) × (slice_get workers number ≡ Some worker) × (worker.state.step ≡ steps.Over over.BookFull)
full_worker workers e =
    let found = Any-from_list_any (λ (w : WorkerRecord). found_full w.state.step) workers e in
    (found.0, found.1, get_at workers found.0 found.1 found.2 found.3, full_step found.1.state.step found.4)

-- a console that ended at a full book found one so
full_console : (may_give : ℕ → Bool) (life : Life) (ending : ConsoleEnd) (left left_now taken taken_now : Option (List ℕ)) → IsConsole may_give life ending left left_now taken taken_now
    → ending ≡ consoles.BookFull → HasFullBook life
full_console may_give life ending left left_now taken taken_now console e =
    let at : IsConsole may_give life consoles.BookFull left left_now taken taken_now = subst (λ (end : ConsoleEnd). IsConsole may_give life end left left_now taken taken_now) e console in
    at.transcript.held.so.0

-- a run that finishes at a full book: a book of its life is full, and the calls told are the room of its site
pub full_life : {N : Type 0} (links : N → Option Links) (faults : N → ℕ) (may_give : ℕ → Bool) (file : SiteFileRecord) (turns : ℕ) (dialers dialers_now : List N) (plant : PartRecord)
    (workers : List WorkerRecord) (ending : ConsoleEnd) (left left_now taken taken_now : Option (List ℕ)) (calls : ℕ)
    (run : IsRun links faults may_give file turns dialers dialers_now plant workers ending left left_now taken taken_now) → finish_of plant workers ending ≡ finishes.BookFull calls
    → HasFullBook run.life × (plant.site.room ≡ calls)
full_life links faults may_give file turns dialers dialers_now plant workers ending left left_now taken taken_now calls run e =
    let is = full_if (list_any (λ (w : WorkerRecord). lacks_memory w.state.step) workers) (list_any (λ (w : WorkerRecord). found_full w.state.step) workers) plant.site.room ending calls e in
    elim is.0 [
      | inl worker ↦ let one = full_worker workers worker in (run.full one.0 one.1 one.2 one.3, is.1)
      | inr console ↦ (full_console may_give run.life ending left left_now taken taken_now run.operator console, is.1)
    ]
