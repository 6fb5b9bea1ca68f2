-- What is done is done too where the entries and the readings are seen another way.
use Rattle.std.proofs.Common.{◌≡◌, ℕ, Bool, true, cond, List, [], ◌∷◌, ◌++◌, refl, sym, ap, subst, ◌∙◌, append_assoc}
use Rattle.std.specs.Prelude.{◌==◌}
use Rattle.std.specs.List.{AllByRecursion}
use Rattle.std.proofs.lemmas.Bool.{eq-eqb}
use Rattle.std.proofs.lemmas.List.Elements.{filter-append}
use Rattle.plant_book.specs.declared.call.Call.{Call}
use Rattle.plant_book.specs.declared.call.Call.TheVariants as call
use Rattle.plant_book.specs.declared.call.Reply.{Reply}
use Rattle.plant_book.specs.declared.book.Entry.{Entry}
use Rattle.plant_book.specs.Calls.{at_moment}
use Rattle.plant_ledger.specs.Release.{back_of}
use Rattle.inverter_worker.specs.declared.job.Job.{Job}
use Rattle.inverter_worker.specs.declared.input.Input.{Input}
use Rattle.inverter_worker.specs.declared.input.Input.TheVariants as input
use Rattle.inverter_worker.specs.declared.output.Output.{Output}
use Rattle.inverter_worker.specs.declared.output.Output.TheVariants as output
use Rattle.inverter_worker.specs.declared.state.Step.{Step}
use Rattle.inverter_worker.specs.Runs.{RunStep}
use Rattle.worker_turn.specs.Doing.{World, IsEntered, IsDone, AreDone}
use Rattle.worker_turn.specs.Acts.{IsOwnCall, Stands, held}
use Rattle.worker_turn.specs.Agreeing.{AreEntriesOf, made_by, calls_made}
use Rattle.worker_turn.proofs.Rows.{doable}
use Rattle.plant_run.specs.Own.{is_workers, entries_of}

-- the world where entries are seen this way, and earlier readings stand before
abbrev pub viewed : (List Entry → List Entry) → (earlier : List ℕ) → World → World
viewed see earlier world = record {
  made = see world.made;
  links = world.links;
  faults = world.faults;
  readings = earlier ++ world.readings;
  unread = world.unread;
}

abbrev entry_at : ℕ → Entry → Entry
entry_at at own = record { call = at_moment at own.call; reply = own.reply }

-- one entry more of this call is seen as one more
abbrev pub Adds : (List Entry → List Entry) → Entry → Type 0
Adds see own = (at : ℕ) (made : List Entry) → see (made ++ entry_at at own ∷ []) ≡ see made ++ entry_at at own ∷ []

viewed_entered : (see : List Entry → List Entry) (earlier : List ℕ) (called : Call) (answer : Reply) (old new : World)
    → Adds see (record { call = called; reply = answer }) → IsEntered called answer old new
    → IsEntered called answer (viewed see earlier old) (viewed see earlier new)
viewed_entered see earlier called answer old new adds entered = record {
  at = entered.at;
  later = entered.later;
  high = entered.high;
  fits = entered.fits;
  is = ap (viewed see earlier) entered.is
      ∙ ap (λ (es : List Entry). record (viewed see earlier old) { made = es }) (adds entered.at old.made);
}

-- an output that was done is done as it is seen
viewed_done : (see : List Entry → List Entry) (earlier : List ℕ) (job : Job) (put : Output) (came : Input) (old new : World)
    → AllByRecursion (Adds see) (made_by put came) → IsDone job put came old new → IsDone job put came (viewed see earlier old) (viewed see earlier new)
viewed_done see earlier job output.Goal (input.Goal goal) old new adds done = ap (viewed see earlier) done
viewed_done see earlier job output.Dial input.Dialed old new adds done = ap (viewed see earlier) done
viewed_done see earlier job output.Dial input.DialFailed old new adds done = (ap (viewed see earlier) done.0, done.1)
viewed_done see earlier job output.Now (input.Time clock) old new adds done =
    let read : List ℕ → World = λ readings. record (viewed see earlier old) { readings = readings } in
    (ap (viewed see earlier) done.0 ∙ ap read (sym (append_assoc earlier old.readings (clock ∷ []))), done.1)
viewed_done see earlier job (output.Call made) (input.Reply answer) old new adds done = viewed_entered see earlier made answer old new adds.0 done
viewed_done see earlier job (output.Call made) input.Full old new adds done = ap (viewed see earlier) done
viewed_done see earlier job (output.Release write at) (input.Reply answer) old new adds done =
    viewed_entered see earlier (back_of write at) answer old new adds.0 done
viewed_done see earlier job (output.Release write at) input.Full old new adds done = ap (viewed see earlier) done
viewed_done see earlier job (output.Send request clock) input.SentAll old new adds done = ap (viewed see earlier) done
viewed_done see earlier job (output.Send request clock) input.SendFailed old new adds done = (ap (viewed see earlier) done.0, done.1, done.2)
viewed_done see earlier job output.Receive came old new adds done =
    let it = done.1 in
    (ap (viewed see earlier) done.0, record { result = it.result; is = it.is; wait = it.wait; counts = it.counts })
viewed_done see earlier job output.HangUp input.HungUp old new adds done = ap (viewed see earlier) done
viewed_done see earlier job (output.Rest ms) input.Rested old new adds done = ap (viewed see earlier) done
viewed_done see earlier job output.Nothing input.Go old new adds done = ap (viewed see earlier) done
viewed_done see earlier job output.Nothing input.NoRoom old new adds done = ap (viewed see earlier) done
viewed_done see earlier job put came old new adds done = absurd done

pub all_split : (P : Entry → Type 0) (xs ys : List Entry) → AllByRecursion P (xs ++ ys) → AllByRecursion P xs × AllByRecursion P ys
all_split P [] ys all = (tt, all)
all_split P (x ∷ xs) ys all = let rest = all_split P xs ys all.1 in ((all.0, rest.0), rest.1)

pub all_joined : (P : Entry → Type 0) (xs ys : List Entry) → AllByRecursion P xs → AllByRecursion P ys → AllByRecursion P (xs ++ ys)
all_joined P [] ys first last = last
all_joined P (x ∷ xs) ys first last = (first.0, all_joined P xs ys first.1 last)

pub all_map : (P Q : Entry → Type 0) → ((entry : Entry) → P entry → Q entry) → (entries : List Entry) → AllByRecursion P entries → AllByRecursion Q entries
all_map P Q to [] all = tt
all_map P Q to (entry ∷ entries) all = (to entry all.0, all_map P Q to entries all.1)

-- and so are all outputs of a run
pub viewed_all : (see : List Entry → List Entry) (earlier : List ℕ) (job : Job) (put : Output) (run : List RunStep) (old new : World)
    → AllByRecursion (Adds see) (calls_made put run) → AreDone job put run old new → AreDone job put run (viewed see earlier old) (viewed see earlier new)
viewed_all see earlier job put [] old new adds done = ap (viewed see earlier) done
viewed_all see earlier job put (one ∷ later) old new adds done =
    let parts = all_split (Adds see) (made_by put one.input) (calls_made one.output later) adds in (
      viewed see earlier done.0,
      viewed_done see earlier job put one.input old done.0 parts.0 done.1,
      viewed_all see earlier job one.output later done.0 new parts.1 done.2,
    )

-- with earlier readings before, and the entries as they are
pub shifted : (earlier : List ℕ) (job : Job) (put : Output) (run : List RunStep) (old new : World) → AreDone job put run old new
    → AreDone job put run (viewed (λ made. made) earlier old) (viewed (λ made. made) earlier new)
shifted earlier job put run old new done = viewed_all (λ made. made) earlier job put run old new (adds (calls_made put run)) done
  where
    adds : (entries : List Entry) → AllByRecursion (Adds (λ made. made)) entries
    adds [] = tt
    adds (entry ∷ entries) = ((λ at made. refl), adds entries)

-- a call that an inverter's worker makes
abbrev pub IsOwn : (inverter : ℕ) → Entry → Type 0
IsOwn inverter made = is_workers inverter made.call ≡ true

own_at : (inverter at : ℕ) (made : Call) → is_workers inverter made ≡ true → is_workers inverter (at_moment at made) ≡ true
own_at inverter at (call.Link m other) own = own
own_at inverter at (call.Ask m other raw) own = own
own_at inverter at (call.Read m other) own = own
own_at inverter at (call.Saw m other number raw) own = own
own_at inverter at (call.Back m other link number) own = own
own_at inverter at (call.Want m other mw) own = own
own_at inverter at (call.Tick m) own = own
own_at inverter at (call.Stop m) own = own
own_at inverter at (call.Cap m mw) own = own

pub one_own : (inverter : ℕ) (entry : Entry) → is_workers inverter entry.call ≡ true → entries_of inverter (entry ∷ []) ≡ entry ∷ []
one_own inverter entry own = ap (λ (b : Bool). cond b (entry ∷ []) []) own

-- of the entries the inverter's own alone
pub own_adds : (inverter : ℕ) (own : Entry) → IsOwn inverter own → Adds (entries_of inverter) own
own_adds inverter own is = λ at made.
    filter-append (λ (e : Entry). is_workers inverter e.call) made (entry_at at own ∷ [])
    ∙ ap (λ (es : List Entry). entries_of inverter made ++ es) (one_own inverter (entry_at at own) (own_at inverter at own.call is))

-- the entries that were made are the worker's own
pub entries_own : (inverter : ℕ) (made gained : List Entry) → AllByRecursion (IsOwn inverter) made → AreEntriesOf made gained
    → AllByRecursion (IsOwn inverter) gained
entries_own inverter [] [] own are = tt
entries_own inverter (one ∷ made) (entry ∷ gained) own are =
    (subst (IsOwn inverter) (sym are.0.is) (own_at inverter are.0.at one.call own.0), entries_own inverter made gained own.1 are.1)
entries_own inverter [] (entry ∷ gained) own are = absurd are
entries_own inverter (one ∷ made) [] own are = absurd are

-- and stand whole among the inverter's
pub all_own : (inverter : ℕ) (entries : List Entry) → AllByRecursion (IsOwn inverter) entries → entries_of inverter entries ≡ entries
all_own inverter [] own = refl
all_own inverter (entry ∷ entries) own = rw own.0 (ap (λ (es : List Entry). entry ∷ es) (all_own inverter entries own.1))

-- the calls that an output makes are those of the inverter's worker
abbrev pub MakesOwn : Job → Output → Type 0
MakesOwn job (output.Call made) = is_workers job.inverter made ≡ true
MakesOwn job (output.Release write at) = is_workers job.inverter (back_of write at) ≡ true
MakesOwn job put = Unit {0}

same_number : (a b : ℕ) → a ≡ b → (a == b) ≡ true
same_number a b is = eq-eqb a b is

own_call : (job : Job) (made : Call) → IsOwnCall job made → is_workers job.inverter made ≡ true
own_call job (call.Link at inverter) own = same_number inverter job.inverter own.1
own_call job (call.Ask at inverter raw) own = same_number inverter job.inverter own.1
own_call job (call.Read at inverter) own = same_number inverter job.inverter own.1
own_call job (call.Saw at inverter number raw) own = same_number inverter job.inverter own.1
own_call job _ own = absurd own

pub makes_own : (job : Job) (step : Step) (put : Output) → Stands job step put → MakesOwn job put
makes_own job step (output.Call made) stands = own_call job made (doable job step (output.Call made) (held step) stands refl refl)
makes_own job step (output.Release write at) stands =
    same_number write.inverter job.inverter (doable job step (output.Release write at) (held step) stands refl refl).1
makes_own job step _ stands = tt

-- the calls that are made are those of the worker's inverter
pub made_own : (job : Job) (put : Output) (came : Input) → MakesOwn job put → AllByRecursion (IsOwn job.inverter) (made_by put came)
made_own job (output.Call made) (input.Reply answer) own = (own, tt)
made_own job (output.Release write at) (input.Reply answer) own = (own, tt)
made_own job put came own = tt
