-- Steps between worlds that are the same, and none.
use Rattle.std.proofs.Common.{◌≡◌, ℕ, Bool, List, [], Option, refl, sym, subst, arith, append-nil}
use Rattle.world_traits.specs.Links.{Links}
use Rattle.plant_book.specs.declared.book.Entry.{Entry}
use Rattle.ledger_desk.specs.Desk.{GoalTest}
use Rattle.inverter_worker.specs.declared.job.Job.{Job}
use Rattle.inverter_worker.specs.declared.output.Output.{Output}
use Rattle.inverter_worker.specs.declared.output.Output.TheVariants as output
use Rattle.inverter_worker.specs.declared.state.Step.{Step}
use Rattle.inverter_worker.specs.declared.state.Step.TheVariants.{Ready, Over}
use Rattle.inverter_worker.specs.Runs.{RunStep}
use Rattle.worker_turn.specs.Doing.{World, AreDone}
use Rattle.worker_turn.specs.Worker.{WorkerRecord, IsBetweenTurns}
use Rattle.plant_run.specs.Works.{IsAtRest, WorksOn}

-- the same steps between worlds that are the same
pub done_between : (job : Job) (put : Output) (run : List RunStep) (a b c d : World) → a ≡ b → c ≡ d → AreDone job put run a c → AreDone job put run b d
done_between job put run a b c d first last done =
    let P : World → Type 0 = λ w. AreDone job put run w d in
    let Q : World → Type 0 = λ w. AreDone job put run a w in subst P first (subst Q last done)

rest_nothing : (step : Step) → IsBetweenTurns step → IsAtRest step output.Nothing
rest_nothing Ready rests = refl
rest_nothing (Over end) rests = tt
rest_nothing step rests = absurd rests

-- a worker that made no turn, while others did
pub idle : (may_tell : GoalTest) (was_full : Type 0) (may_give : ℕ → Bool) (job : Job) (made made_now : List Entry) (worker : WorkerRecord) (links : Option Links)
    (faults : ℕ) → worker.job ≡ job → IsBetweenTurns worker.state.step → made_now ≡ made
    → WorksOn may_tell was_full may_give job made made_now worker worker links links faults faults
idle may_tell was_full may_give job made made_now worker links faults same rests is = record {
  run = [];
  job_same = same;
  leads = refl;
  log = sym (append-nil worker.log);
  done = λ earlier. rw (is, append-nil earlier) refl;
  own = tt;
  clock = λ place other within. absurd (omega (arith, within));
  told = tt;
  rests = rest_nothing worker.state.step rests;
}
