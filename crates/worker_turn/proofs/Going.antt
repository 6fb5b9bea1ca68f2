-- One output more is done.
use Rattle.std.proofs.Common.{◌≡◌, ℕ, ◌≤◌, Bool, true, false, List, [], ◌∷◌, ◌++◌, length, Some, option_map, Result, Ok, Err, refl, sym, ap, subst, ◌∙◌, arith, append-nil, append_assoc}
use Rattle.std.specs.List.{AllByRecursion}
use Rattle.std.proofs.lemmas.List.Concat.{flat_map-append}
use Rattle.world_traits.specs.Links.{with_link}
use Rattle.plant_book.specs.declared.call.Call.{Call}
use Rattle.plant_book.specs.declared.call.Call.TheVariants as call
use Rattle.plant_book.specs.declared.call.Reply.{Reply}
use Rattle.plant_book.specs.declared.call.Reply.TheVariants as reply
use Rattle.mbap_frames.specs.declared.frame.Frame.{Frame}
use Rattle.frame_inbox.specs.declared.inbox.NoFrame.{NoFrame}
use Rattle.frame_inbox.specs.declared.inbox.NoFrame.TheVariants as none
use Rattle.plant_ledger.specs.declared.plant.Goal.{Goal}
use Rattle.ledger_desk.specs.Desk.{DeskState, DeskTests, TestsLast}
use Rattle.inverter_worker.specs.declared.job.Job.{Job}
use Rattle.inverter_worker.specs.declared.input.Input.{Input}
use Rattle.inverter_worker.specs.declared.input.Input.TheVariants as input
use Rattle.inverter_worker.specs.declared.output.Output.{Output}
use Rattle.inverter_worker.specs.declared.output.Output.TheVariants as output
use Rattle.inverter_worker.specs.declared.output.Sent.{Sent}
use Rattle.inverter_worker.specs.declared.state.State.{State}
use Rattle.inverter_worker.specs.declared.state.Step.{Step}
use Rattle.inverter_worker.specs.Table.{table}
use Rattle.inverter_worker.specs.Answers.{IsAnswerTo, IsReplyTo}
use Rattle.inverter_worker.specs.Runs.{RunStep, log, sends_of}
use Rattle.inverter_worker.specs.Turns.{IsWithinTurn, reading_in, readings}
use Rattle.inverter_worker.proofs.Runs.{LeadsTo-push}
use Rattle.worker_turn.specs.Doing.{World, IsEntered, IsDone, IsDoneOn, AreDoneOn, DialIsDone, input_of_wait}
use Rattle.worker_turn.specs.Desks.{IsTold, IsToldNow}
use Rattle.worker_turn.specs.Acts.{is_last, Stands}
use Rattle.worker_turn.specs.Turning.{pending, Follows, IsFresh}
use Rattle.worker_turn.proofs.Rows.{IsNotGoal, IsNotNoMemory, Led, led, not_ready}

-- what came is an answer to the output
replied : (called : Call) (answer : Reply) (old new : World) → IsEntered called answer old new → IsReplyTo called answer
replied (call.Link at inverter) (reply.Linked number) old new enters = tt
replied (call.Link at inverter) _ old new enters = absurd enters.fits
replied _ answer old new enters = tt

answers_wait : (result : Result Frame NoFrame) → IsAnswerTo output.Receive (input_of_wait result)
answers_wait (Ok frame) = tt
answers_wait (Err none.Quiet) = tt
answers_wait (Err none.Closed) = tt
answers_wait (Err none.RecvFailed) = tt
answers_wait (Err (none.BadFrame fault)) = tt

no_reading : (result : Result Frame NoFrame) → reading_in (input_of_wait result) ≡ []
no_reading (Ok frame) = refl
no_reading (Err none.Quiet) = refl
no_reading (Err none.Closed) = refl
no_reading (Err none.RecvFailed) = refl
no_reading (Err (none.BadFrame fault)) = refl

-- what an output does to the readings, and that what came answers it
pub record Moves (output : Output) (came : Input) (old new : World) : Type 0 where
  pub answers : IsAnswerTo output came
  pub readings : new.readings ≡ old.readings ++ reading_in came

unread : (came : Input) (old new : World) → reading_in came ≡ [] → new.readings ≡ old.readings
    → new.readings ≡ old.readings ++ reading_in came
unread came old new none is = is ∙ sym (append-nil old.readings) ∙ ap (λ (t : List ℕ). old.readings ++ t) (sym none)

readings_of : (old new : World) → new ≡ old → new.readings ≡ old.readings
readings_of old new is = ap (λ (w : World). w.readings) is

-- the clock wasn't read
still : (output : Output) (came : Input) (old new was : World) → IsAnswerTo output came → reading_in came ≡ []
    → was.readings ≡ old.readings → new ≡ was → Moves output came old new
still output came old new was answers none same is =
    record { answers = answers; readings = unread came old new none (readings_of was new is ∙ same) }

pub moves : (job : Job) (output : Output) (came : Input) (old new : World) → IsDone job output came old new → Moves output came old new
moves job output.Goal (input.Goal goal) old new done = still _ _ old new _ tt refl refl done
moves job output.Dial input.Dialed old new done = still _ _ old new _ tt refl refl done
moves job output.Dial input.DialFailed old new done = still _ _ old new _ tt refl refl done.0
moves job output.Now (input.Time clock) old new done = record { answers = tt; readings = readings_of _ new done.0 }
moves job (output.Call called) (input.Reply answer) old new done = still _ _ old new _ (replied called answer old new done) refl refl done.is
moves job (output.Call called) input.Full old new done = still _ _ old new _ tt refl refl done
moves job (output.Release write at) (input.Reply answer) old new done = still _ _ old new _ tt refl refl done.is
moves job (output.Release write at) input.Full old new done = still _ _ old new _ tt refl refl done
moves job (output.Send request clock) input.SentAll old new done = still _ _ old new _ tt refl refl done
moves job (output.Send request clock) input.SendFailed old new done = still _ _ old new _ tt refl refl done.0
moves job output.Receive came old new done =
    let P : Input → Type 0 = λ came. IsAnswerTo output.Receive came in
    still output.Receive came old new _ (subst P (sym done.1.is) (answers_wait done.1.result)) (ap reading_in done.1.is ∙ no_reading done.1.result) refl done.0
moves job output.HangUp input.HungUp old new done = still _ _ old new _ tt refl refl done
moves job (output.Rest ms) input.Rested old new done = still _ _ old new _ tt refl refl done
moves job output.Nothing input.Go old new done = still _ _ old new _ tt refl refl done
moves job output.Nothing input.NoRoom old new done = still _ _ old new _ tt refl refl done
moves job output came old new done = absurd done

-- what was done on a line that is shared is, but for links and unread bytes, what is done on a line of one's own
pub record DoneAlone (job : Job) (output : Output) (came : Input) (old new : World) : Type 0 where
  pub there : World
  pub done : IsDone job output came old there
  pub made : there.made ≡ new.made
  pub readings : there.readings ≡ new.readings

just_so : (job : Job) (output : Output) (came : Input) (old new : World) → IsDone job output came old new → DoneAlone job output came old new
just_so job output came old new done = record { there = new; done = done; made = refl; readings = refl }

dialed_alone : (shares : Bool) (job : Job) (old new : World) → DialIsDone shares job old new → DoneAlone job output.Dial input.Dialed old new
dialed_alone false job old new done = just_so job output.Dial input.Dialed old new done
dialed_alone true job old new done = record {
  there = record old { links = option_map (with_link job.port.host job.port.port) old.links; unread = [] };
  done = refl;
  made = ap (λ (w : World). w.made) (sym done.0);
  readings = ap (λ (w : World). w.readings) (sym done.0);
}

pub done_alone : (shares : Bool) (job : Job) (output : Output) (came : Input) (old new : World) → IsDoneOn shares job output came old new
    → DoneAlone job output came old new
done_alone shares job output.Goal (input.Goal goal) old new done = just_so job output.Goal (input.Goal goal) old new done
done_alone shares job output.Dial input.Dialed old new done = dialed_alone shares job old new done
done_alone shares job output.Dial input.DialFailed old new done = just_so job output.Dial input.DialFailed old new done
done_alone shares job output.Now (input.Time clock) old new done = just_so job output.Now (input.Time clock) old new done
done_alone shares job (output.Call called) (input.Reply answer) old new done = just_so job (output.Call called) (input.Reply answer) old new done
done_alone shares job (output.Call called) input.Full old new done = just_so job (output.Call called) input.Full old new done
done_alone shares job (output.Release write at) (input.Reply answer) old new done = just_so job (output.Release write at) (input.Reply answer) old new done
done_alone shares job (output.Release write at) input.Full old new done = just_so job (output.Release write at) input.Full old new done
done_alone shares job (output.Send request clock) input.SentAll old new done = just_so job (output.Send request clock) input.SentAll old new done
done_alone shares job (output.Send request clock) input.SendFailed old new done = just_so job (output.Send request clock) input.SendFailed old new done
done_alone shares job output.Receive came old new done = just_so job output.Receive came old new done
done_alone shares job output.HangUp input.HungUp old new done = just_so job output.HangUp input.HungUp old new done
done_alone shares job (output.Rest ms) input.Rested old new done = just_so job (output.Rest ms) input.Rested old new done
done_alone shares job output.Nothing input.Go old new done = just_so job output.Nothing input.Go old new done
done_alone shares job output.Nothing input.NoRoom old new done = just_so job output.Nothing input.NoRoom old new done
done_alone shares job output came old new done = absurd done

pub moves_on : (shares : Bool) (job : Job) (output : Output) (came : Input) (old new : World) → IsDoneOn shares job output came old new → Moves output came old new
moves_on shares job output came old new done =
    let alone = done_alone shares job output came old new done in
    let does = moves job output came old alone.there alone.done in
    record { answers = does.answers; readings = sym alone.readings ∙ does.readings }

pub answers_on : (shares : Bool) (job : Job) (output : Output) (came : Input) (old new : World) → IsDoneOn shares job output came old new → IsAnswerTo output came
answers_on shares job output came old new done = (moves_on shares job output came old new done).answers

pub led_on : (shares : Bool) (job : Job) (state next : State) (output following : Output) (came : Input) (old new : World) → is_last output ≡ false → Stands job state.step output
    → IsDoneOn shares job output came old new → table job state came ≡ Some (next, following) → Led job output came state.step next following
led_on shares job state next output following came old new going stands done is =
    let alone = done_alone shares job output came old new done in
    led job state next output following came old alone.there going stands alone.done is

pub all_push : (P : RunStep → Type 0) (later : List RunStep) (one : RunStep) → AllByRecursion P later → P one → AllByRecursion P (later ++ one ∷ [])
all_push P [] one all here = (here, tt)
all_push P (first ∷ later) one all here = (all.0, all_push P later one all.1 here)

pub all_map : (P Q : RunStep → Type 0) (later : List RunStep) → ((one : RunStep) → P one → Q one) → AllByRecursion P later → AllByRecursion Q later
all_map P Q [] to all = tt
all_map P Q (one ∷ later) to all = (to one all.0, all_map P Q later to all.1)

pending-push : (first : Output) (later : List RunStep) (one : RunStep) → one.output ≡ pending first (later ++ one ∷ [])
pending-push first [] one = refl
pending-push first (next ∷ later) one = pending-push next.output later one

done-push : (shares : Bool) (job : Job) (first : Output) (later : List RunStep) (one : RunStep) (old mid new : World) → AreDoneOn shares job first later old mid
    → IsDoneOn shares job (pending first later) one.input mid new → AreDoneOn shares job first (later ++ one ∷ []) old new
done-push shares job first [] one old mid new before done =
    let P : World → Type 0 = λ world. IsDoneOn shares job first one.input world new in (new, subst P before done, refl)
done-push shares job first (next ∷ later) one old mid new before done =
    (before.0, before.1, done-push shares job next.output later one before.0 mid new before.2 done)

fresh_first : (first : Output) (old : World) → IsFresh first old old
fresh_first output.Goal old = refl
fresh_first _ old = tt

fresh_none : (next : Output) (old new : World) → IsNotGoal next → IsFresh next old new
fresh_none output.Goal old new later = absurd later
fresh_none _ old new later = tt

-- what was told before is told still
told_still : (tests tests_now : DeskTests) (inverter made begun mid now : ℕ) (came : Input) → TestsLast tests tests_now → mid ≤ now
    → IsTold tests inverter made begun mid came → IsTold tests_now inverter made begun now came
told_still tests tests_now inverter made begun mid now (input.Goal goal) last front told =
    (told.0, told.1, omega (arith, told.2, front), last.goals made told.0 inverter goal told.3)
told_still tests tests_now inverter made begun mid now input.Full last front told = last.full told
told_still tests tests_now inverter made begun mid now _ last front told = tt

pub no_goal_of_wait : (goal : Goal) (result : Result Frame NoFrame) → input.Goal goal ≡ input_of_wait result → ⊥
no_goal_of_wait goal (Ok frame) is = cc
no_goal_of_wait goal (Err none.Quiet) is = cc
no_goal_of_wait goal (Err none.Closed) is = cc
no_goal_of_wait goal (Err none.RecvFailed) is = cc
no_goal_of_wait goal (Err (none.BadFrame fault)) is = cc

-- a goal that came just now is told at the front
told_goal : (job : Job) (last : Output) (tests : DeskTests) (inverter begun : ℕ) (desk : DeskState) (goal : Goal) (old mid new : World) → IsFresh last old mid
    → IsDone job last (input.Goal goal) mid new → new.made ≡ desk.made → begun ≤ desk.front → IsToldNow tests inverter desk (input.Goal goal)
    → IsTold tests inverter (length old.made) begun desk.front (input.Goal goal)
told_goal job output.Goal tests inverter begun desk goal old mid new fresh done is front told =
    let Q : ℕ → Type 0 = λ n. tests.may_tell n desk.front inverter goal in
    let made : length desk.made ≡ length old.made = ap length (sym is ∙ ap (λ (w : World). w.made) done ∙ ap (λ (w : World). w.made) fresh) in
    (desk.front, front, omega arith, subst Q made told)
told_goal job output.Receive tests inverter begun desk goal old mid new fresh done is front told = absurd (no_goal_of_wait goal done.1.result done.1.is)
told_goal job _ tests inverter begun desk goal old mid new fresh done is front told = absurd done

told_now : (job : Job) (last : Output) (came : Input) (tests : DeskTests) (inverter begun : ℕ) (desk : DeskState) (old mid new : World) → IsFresh last old mid
    → IsDone job last came mid new → new.made ≡ desk.made → begun ≤ desk.front → IsToldNow tests inverter desk came
    → IsTold tests inverter (length old.made) begun desk.front came
told_now job last (input.Goal goal) tests inverter begun desk old mid new fresh done is front told =
    told_goal job last tests inverter begun desk goal old mid new fresh done is front told
told_now job last input.Full tests inverter begun desk old mid new fresh done is front told = told
told_now job last _ tests inverter begun desk old mid new fresh done is front told = tt

-- at first nothing is done
pub at_first : (shares : Bool) (tests : DeskTests) (front : ℕ) (job : Job) (begun : State) (first : Output) (logged : List Sent) (old : World)
    → Stands job begun.step first → (from : State) (came : Input) → table job from came ≡ Some (begun, first)
    → Follows shares tests front front job begun first [] begun first logged logged old old
at_first shares tests front job begun first logged old stands from came is = record {
  within = tt;
  leads = refl;
  pending = refl;
  done = refl;
  log = sym (append-nil logged);
  readings = sym (append-nil old.readings);
  told = tt;
  stands = stands;
  fresh = fresh_first first old;
  reached = (from, came, is);
  memory = λ _. refl;
}

-- one output more is done
pub one_more : (shares : Bool) (tests tests_now : DeskTests) (front front_mid : ℕ) (desk : DeskState) (job : Job) (begun : State) (first : Output) (later : List RunStep)
    (state next : State) (last following : Output) (came : Input) (logged log_mid log_now : List Sent) (old mid new : World)
    → Follows shares tests front front_mid job begun first later state last logged log_mid old mid
    → is_last last ≡ false → IsDoneOn shares job last came mid new → table job state came ≡ Some (next, following)
    → TestsLast tests tests_now → front ≤ front_mid → front_mid ≤ desk.front → new.made ≡ desk.made → IsToldNow tests_now job.inverter desk came
    → log_now ≡ log_mid ++ sends_of following
    → Follows shares tests_now front desk.front job begun first (later ++ record { state = state; input = came; output = following } ∷ []) next following logged log_now old new
one_more shares tests tests_now front front_mid desk job begun first later state next last following came logged log_mid log_now old mid new follows going done is lasts behind moved made told noted =
    let one : RunStep = record { state = state; input = came; output = following } in
    let alone = done_alone shares job last came mid new done in
    let does = moves_on shares job last came mid new done in
    let goes : Led job last came state.step next following = led_on shares job state next last following came mid new going follows.stands done is in
    let P : Output → Type 0 = λ output. IsDoneOn shares job output came mid new in
    record {
      within = all_push IsWithinTurn later one follows.within (not_ready job state.step last going follows.stands);
      leads = LeadsTo-push job begun state next later came following follows.leads is;
      pending = pending-push first later one;
      done = done-push shares job first later one old mid new follows.done (subst P follows.pending done);
      log = noted ∙ ap (λ (t : List Sent). t ++ sends_of following) follows.log ∙ append_assoc logged (log later) (sends_of following)
          ∙ ap (λ (t : List Sent). logged ++ (log later ++ t)) (sym (append-nil (sends_of following)))
          ∙ ap (λ (t : List Sent). logged ++ t) (sym (flat_map-append (λ (one : RunStep). sends_of one.output) later (one ∷ [])));
      readings = does.readings ∙ ap (λ (t : List ℕ). t ++ reading_in came) follows.readings ∙ append_assoc old.readings (readings later) (reading_in came)
          ∙ ap (λ (t : List ℕ). old.readings ++ (readings later ++ t)) (sym (append-nil (reading_in came)))
          ∙ ap (λ (t : List ℕ). old.readings ++ t) (sym (flat_map-append (λ (one : RunStep). reading_in one.input) later (one ∷ [])));
      told = all_push (λ one. IsTold tests_now job.inverter (length old.made) front desk.front one.input) later one
          (all_map (λ one. IsTold tests job.inverter (length old.made) front front_mid one.input) (λ one. IsTold tests_now job.inverter (length old.made) front desk.front one.input) later
          (λ one. told_still tests tests_now job.inverter (length old.made) front front_mid desk.front one.input lasts moved) follows.told)
          (told_now job last came tests_now job.inverter front desk old mid alone.there follows.fresh alone.done (alone.made ∙ made) (omega (arith, behind, moved)) told);
      stands = goes.stands;
      fresh = fresh_none following old new goes.later;
      reached = (state, came, is);
      memory = λ short. let Q : Step → Type 0 = λ step. IsNotNoMemory step in absurd (subst Q short goes.memory);
    }
