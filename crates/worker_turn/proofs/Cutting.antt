-- A run that is cut in two, and a turn as a run.
use Rattle.std.proofs.Common.{◌≡◌, List, [], ◌∷◌, ◌++◌, Some, inl, inr, refl, sym, subst}
use Rattle.inverter_worker.specs.declared.job.Job.{Job}
use Rattle.inverter_worker.specs.declared.input.Input.{Input}
use Rattle.inverter_worker.specs.declared.input.Input.TheVariants as input
use Rattle.inverter_worker.specs.declared.output.Output.{Output}
use Rattle.inverter_worker.specs.declared.output.Output.TheVariants as output
use Rattle.inverter_worker.specs.declared.state.State.{State}
use Rattle.inverter_worker.specs.declared.state.Step.{Step}
use Rattle.inverter_worker.specs.declared.state.Step.TheVariants.{Ready}
use Rattle.inverter_worker.specs.Table.{row}
use Rattle.inverter_worker.specs.Runs.{RunStep, LeadsTo}
use Rattle.worker_turn.specs.Doing.{World, IsDone, AreDone}
use Rattle.worker_turn.specs.Turning.{pending}
use Rattle.worker_turn.specs.Worker.{IsBegin}

pub leads_cut : (job : Job) (from last : State) (sofar later : List RunStep) → LeadsTo job from (sofar ++ later) last
    → (middle : State) × LeadsTo job from sofar middle × LeadsTo job middle later last
leads_cut job from last [] later leads = (from, refl, leads)
leads_cut job from last (one ∷ sofar) later leads =
    let behind = leads_cut job leads.1.0 last sofar later leads.1.1.1 in
    (behind.0, (leads.0, (leads.1.0, (leads.1.1.0, behind.1))), behind.2)

pub done_cut : (job : Job) (first : Output) (sofar later : List RunStep) (old new : World) → AreDone job first (sofar ++ later) old new
    → (here : World) × AreDone job first sofar old here × AreDone job (pending first sofar) later here new
done_cut job first [] later old new done = (old, refl, done)
done_cut job first (one ∷ sofar) later old new done =
    let behind = done_cut job one.output sofar later done.0 new done.2 in
    (behind.0, (done.0, done.1, behind.1), behind.2)

-- a turn begins at Ready alone
goes_at_ready : (job : Job) (state : State) (step : Step) (next : State × Output) → row job state step input.Go ≡ Some next → step ≡ Ready
goes_at_ready job state Ready next is = refl
goes_at_ready job state _ next is = absurd cc

fails_at_ready : (job : Job) (state : State) (step : Step) (next : State × Output) → row job state step input.NoRoom ≡ Some next → step ≡ Ready
fails_at_ready job state Ready next is = refl
fails_at_ready job state _ next is = absurd cc

begins : (job : Job) (state : State) (came : Input) (next : State × Output) → IsBegin came → row job state state.step came ≡ Some next → state.step ≡ Ready
begins job state came next (inl go) is =
    goes_at_ready job state state.step next (subst (λ (i : Input). row job state state.step i ≡ Some next) go is)
begins job state came next (inr none) is =
    fails_at_ready job state state.step next (subst (λ (i : Input). row job state state.step i ≡ Some next) none is)

done_first : (job : Job) (came : Input) (old : World) → IsBegin came → IsDone job output.Nothing came old old
done_first job came old (inl go) = subst (λ (i : Input). IsDone job output.Nothing i old old) (sym go) refl
done_first job came old (inr none) = subst (λ (i : Input). IsDone job output.Nothing i old old) (sym none) refl

pub turn : (job : Job) (before after : State) (first : RunStep) (later : List RunStep) (old new : World) → IsBegin first.input
    → LeadsTo job before (first ∷ later) after → AreDone job first.output later old new
    → (before.step ≡ Ready) × AreDone job output.Nothing (first ∷ later) old new
turn job before after first later old new begin leads done =
    (begins job before first.input _ begin leads.1.1.0, (old, done_first job first.input old begin, done))
