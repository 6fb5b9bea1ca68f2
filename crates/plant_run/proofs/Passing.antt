-- What workers did through the passes of one desk, as of the life that came from these.
use Rattle.std.proofs.Common.{◌≡◌, ◌≢◌, ℕ, zero, suc, ◌+◌, ◌<◌, ◌≤◌, inl, inr, cond, Bool, true, false, true≢false, List, [], ◌∷◌, length, map, get_or, take, drop, Option, Some, refl, sym, ap, subst, ◌∙◌, arith, length-take-le}
use Rattle.std.specs.Prelude.{All, Contains, slice_get}
use Rattle.std.specs.List.{AllByRecursion, range_with_len}
use Rattle.std.proofs.lemmas.List.{length-map, get_or-map}
use Rattle.std.proofs.lemmas.List.Elements.{All-from_recursion, recursion_from_All, All-contains}
use Rattle.std.proofs.lemmas.List.FromFn.{length-map-range_with_len, get_or-map-range_with_len}
use Rattle.std.proofs.lemmas.Option.{same_Some, slice_get_within, slice_get-get_or, slice_get_read, get_or_from_slice_get}
use Rattle.world_traits.specs.Links.{Links}
use Rattle.plant_book.specs.declared.call.Call.{Call}
use Rattle.plant_book.specs.declared.call.Call.TheVariants as call
use Rattle.plant_book.specs.declared.book.Entry.{Entry}
use Rattle.plant_book.specs.Part.{PartRecord, first_book}
use Rattle.plant_book.specs.Life.{Life, joined_book}
use Rattle.plant_ledger.specs.declared.plant.Goal.{Goal}
use Rattle.ledger_desk.specs.Desk.{GoalTest}
use Rattle.plant_desk.specs.Deeds.{Placed}
use Rattle.plant_desk.specs.Passes.{DeskRecord, PassRecord, first_place, entries, rolls, new_pass, ComesFrom}
use Rattle.plant_desk.specs.DeskOf.{MayTell, WasFull, state_of, tests_of, identity}
use Rattle.plant_desk.specs.Standing.{made, Stands, IsMadeUp, TellsApart}
use Rattle.plant_desk.proofs.Placing.{place_of}
use Rattle.plant_desk.proofs.Standing.{in_list, is_made_up}
use Rattle.plant_desk.proofs.Telling.{all_found, first_found}
use Rattle.inverter_worker.specs.declared.job.Job.{Job}
use Rattle.inverter_worker.specs.declared.input.Input.{Input}
use Rattle.inverter_worker.specs.declared.input.Input.TheVariants as input
use Rattle.inverter_worker.specs.declared.output.Output.{Output}
use Rattle.inverter_worker.specs.declared.output.Output.TheVariants as output
use Rattle.inverter_worker.specs.Runs.{RunStep}
use Rattle.worker_turn.specs.Worker.{WorkerRecord}
use Rattle.worker_turn.specs.Agreeing.{made_by, calls_made}
use Rattle.worker_turn.proofs.Agreeing.{entered}
use Rattle.plant_run.specs.Own.{is_workers, entries_of}
use Rattle.plant_run.specs.Operator.{is_operators}
use Rattle.plant_run.specs.Works.{IsGoalAfter, IsToldAt, AreTold, HasFullBook, WorksOn}
use Rattle.plant_run.specs.Running.{Differ, EachWorks}
use Rattle.plant_run.specs.Forked.{IsOfSomeone, RunsOut, EachRunsOut}
use Rattle.plant_run.proofs.Seeing.{IsOwn, all_map, entries_own}
use Rattle.plant_run.proofs.Seats.{get_at, others_stay}

-- a call of a worker is none of the operator's
pub none_operators : (inverter : ℕ) (called : Call) → is_workers inverter called ≡ true → is_operators called ≡ false
none_operators inverter (call.Want at other mw) own = absurd (true≢false (sym own))
none_operators inverter (call.Cap at mw) own = absurd (true≢false (sym own))
none_operators inverter (call.Tick at) own = absurd (true≢false (sym own))
none_operators inverter (call.Stop at) own = absurd (true≢false (sym own))
none_operators inverter _ own = refl

-- and a call of the operator is no worker's
pub none_workers : (inverter : ℕ) (called : Call) → is_operators called ≡ true → is_workers inverter called ≡ false
none_workers inverter (call.Want at other mw) theirs = refl
none_workers inverter (call.Cap at mw) theirs = refl
none_workers inverter (call.Tick at) theirs = refl
none_workers inverter (call.Stop at) theirs = refl
none_workers inverter _ theirs = absurd (true≢false (sym theirs))

-- an entry that a test leaves out does not pass it
left_out : (b : Bool) (entry : Entry) → cond b (entry ∷ []) [] ≡ [] → b ≡ false
left_out true entry none = cc
left_out false entry none = refl

-- a call of one worker is none of another's
none_others : (inverter other : ℕ) → inverter ≢ other → (entry : Entry) → IsOwn inverter entry → is_workers other entry.call ≡ false
none_others inverter other not entry own =
    left_out (is_workers other entry.call) entry (others_stay inverter other not [] (entry ∷ []) (own, tt))

-- what passed the tests of a desk at one inverter is told by tests that it passes too
abbrev LastAt : (inverter : ℕ) → (may_tell may_tell_now : GoalTest) → Type 0
LastAt inverter may_tell may_tell_now = (made place : ℕ) (goal : Goal) → may_tell made place inverter goal → may_tell_now made place inverter goal

module _ (may_tell may_tell_now : GoalTest) (was_full was_full_now : Type 0) (inverter : ℕ) (goals : LastAt inverter may_tell may_tell_now)
    (full : was_full → was_full_now) where
  -- so it is of each step of that inverter's run
  told_one : (made : ℕ) (came : Input) → IsToldAt may_tell was_full inverter made came → IsToldAt may_tell_now was_full_now inverter made came
  told_one made (input.Goal goal) told = (told.0, goals made told.0 goal told.1)
  told_one made input.Full told = full told
  told_one made _ told = tt

  told_all : (put : Output) (run : List RunStep) (made : ℕ) → AreTold may_tell was_full inverter put run made
      → AreTold may_tell_now was_full_now inverter put run made
  told_all put [] made told = tt
  told_all put (one ∷ run) made told =
      (told_one made one.input told.0, told_all one.output run (made + length (made_by put one.input)) told.1)

-- and of what its worker did
works_still : (may_tell may_tell_now : GoalTest) (was_full was_full_now : Type 0) (may_give : ℕ → Bool) (job : Job) (made made_now : List Entry)
    (before after : WorkerRecord) (links links_now : Option Links) (faults faults_now : ℕ)
    → LastAt job.inverter may_tell may_tell_now → (was_full → was_full_now)
    → WorksOn may_tell was_full may_give job made made_now before after links links_now faults faults_now
    → WorksOn may_tell_now was_full_now may_give job made made_now before after links links_now faults faults_now
works_still may_tell may_tell_now was_full was_full_now may_give job made made_now before after links links_now faults faults_now goals full works = record {
  run = works.run;
  job_same = works.job_same;
  leads = works.leads;
  log = works.log;
  done = works.done;
  own = works.own;
  clock = works.clock;
  told = told_all may_tell may_tell_now was_full was_full_now job.inverter goals full output.Nothing works.run (length made) works.told;
  rests = works.rests;
}

-- what a list contains stands at that place
there_at : {X : Type 0} (xs : List X) (x : X) → (there : Contains xs x) → slice_get xs there.0 ≡ Some x
there_at xs x there = slice_get-get_or xs there.0 x there.1 ∙ ap Some there.2

module _ {N : Type 0} (links : N → Option Links) (faults : N → ℕ) (may_give : ℕ → Bool) (desk : DeskRecord) (passes : List PassRecord)
    (workers workers_now : List WorkerRecord) (dialers dialers_now : List N) (same : length workers_now ≡ length workers)
    (paired : length passes ≡ length workers) (enough : length workers ≤ length dialers) (stay : length dialers_now ≡ length dialers)
    (ran : EachRunsOut state_of tests_of identity links faults may_give workers workers_now (map (new_pass desk) (range_with_len 1 (length workers)))
    passes dialers dialers_now) where
  -- the passes began with the numbers from 1 on
  begun : (place : ℕ) → place < length workers
      → slice_get (map (new_pass desk) (range_with_len 1 (length workers))) place ≡ Some (new_pass desk (place + 1))
  begun place within =
      let count = length workers in
      let one = new_pass desk (place + 1) in
      slice_get_read (map (new_pass desk) (range_with_len 1 count)) count place one (sym (length-map-range_with_len (new_pass desk) 1 count)) within
      (sym (get_or-map-range_with_len (new_pass desk) 1 count place (place + 1) one within (omega arith)))

  -- what the worker at a place did through its pass
  abbrev Ran : ℕ → WorkerRecord → PassRecord → Type 0
  Ran place worker pass = (after : WorkerRecord) × (old : N) × (new : N)
      × RunsOut state_of tests_of identity links faults may_give worker after (new_pass desk (place + 1)) pass old new

  ran_at : (place : ℕ) (worker : WorkerRecord) (pass : PassRecord) → slice_get workers place ≡ Some worker → slice_get passes place ≡ Some pass
      → Ran place worker pass
  ran_at place worker pass is has =
      let within : place < length workers = slice_get_within workers place worker is in
      let after = get_at workers_now place (omega (arith, within, same)) in
      let old = get_at dialers place (omega (arith, within, enough)) in
      let new = get_at dialers_now place (omega (arith, within, enough, stay)) in
      (after.0, old.0, new.0, ran place worker after.0 (new_pass desk (place + 1)) pass old.0 new.0 is after.1 (begun place within) has old.1 new.1)

  -- each pass keeps its number
  numbered : (place : ℕ) (worker : WorkerRecord) (pass : PassRecord) → slice_get workers place ≡ Some worker → slice_get passes place ≡ Some pass
      → pass.number ≡ place + 1
  numbered place worker pass is has = ap (λ (one : DeskRecord × ℕ). one.1) (ran_at place worker pass is has).3.kept

  -- what a worker's pass made are entries of its inverter
  pub workers_made : (place : ℕ) (worker : WorkerRecord) (pass : PassRecord) → slice_get workers place ≡ Some worker → slice_get passes place ≡ Some pass
      → AllByRecursion (λ entry. is_workers worker.job.inverter entry.call ≡ true) (made pass)
  workers_made place worker pass is has =
      let works = (ran_at place worker pass is has).3.works in
      let gained = entered worker.job output.Nothing works.run _ _ (works.done []) in
      subst (AllByRecursion (IsOwn worker.job.inverter)) (sym gained.1)
      (entries_own worker.job.inverter (calls_made output.Nothing works.run) gained.0 works.own gained.2)

  -- and it rolled no book
  pub no_rolls : (place : ℕ) (worker : WorkerRecord) (pass : PassRecord) → slice_get workers place ≡ Some worker → slice_get passes place ≡ Some pass
      → rolls pass ≡ []
  no_rolls place worker pass is has = (ran_at place worker pass is has).3.stays.rolls

  -- each pass is that of the worker at its place
  worker_at : (place : ℕ) (pass : PassRecord) → slice_get passes place ≡ Some pass → (worker : WorkerRecord) × (slice_get workers place ≡ Some worker)
  worker_at place pass has = get_at workers place (omega (arith, paired, slice_get_within passes place pass has))

  -- none of the workers' passes rolled a book
  pub none_rolled : (pass : PassRecord) → Contains passes pass → rolls pass ≡ []
  none_rolled pass there =
      let has = there_at passes pass there in
      let worker = worker_at there.0 pass has in
      no_rolls there.0 worker.0 pass worker.1 has

  -- and none of what they made is the operator's
  pub none_theirs : (pass : PassRecord) → Contains passes pass → All (λ entry. is_operators entry.call ≡ false) (made pass)
  none_theirs pass there =
      let has = there_at passes pass there in
      let worker = worker_at there.0 pass has in
      let inverter = worker.0.job.inverter in
      All-from_recursion (λ (entry : Entry). is_operators entry.call ≡ false) (made pass)
      (all_map (IsOwn inverter) (λ entry. is_operators entry.call ≡ false) (λ entry own. none_operators inverter entry.call own) (made pass)
      (workers_made there.0 worker.0 pass worker.1 has))

  module _ (operator : PassRecord) (life : Life) (theirs : AllByRecursion (λ entry. is_operators entry.call ≡ true) (made operator))
      (comes : ComesFrom desk (operator ∷ passes) life) where
    -- each pass made entries of a worker or of the operator
    someones : (nth : ℕ) (pass : PassRecord) → slice_get (operator ∷ passes) nth ≡ Some pass → AllByRecursion (IsOfSomeone workers) (made pass)
    someones zero pass there =
        subst (λ (one : PassRecord). AllByRecursion (IsOfSomeone workers) (made one)) (same_Some operator pass there)
        (all_map (λ entry. is_operators entry.call ≡ true) (IsOfSomeone workers) (λ entry own. inr own) (made operator) theirs)
    someones (suc nth) pass there =
        let worker = worker_at nth pass there in
        all_map (IsOwn worker.0.job.inverter) (IsOfSomeone workers)
        (λ entry own. inl (record { place = nth; worker = worker.0; is = worker.1; own = own })) (made pass)
        (workers_made nth worker.0 pass worker.1 there)

    -- and so each entry of the life is one of these
    owned_of : first_place desk ≡ 0 → AllByRecursion (IsOfSomeone workers) (joined_book life).entries
    owned_of fresh = recursion_from_All (IsOfSomeone workers) (joined_book life).entries each
      where
        up : IsMadeUp desk (operator ∷ passes) life
        up = is_made_up desk (operator ∷ passes) life comes

        each : All (IsOfSomeone workers) (joined_book life).entries
        each place other within =
            let once = up.once place (omega (arith, fresh)) within in
            let pass = once.pass in
            let stands = All-contains (Stands desk life) (operator ∷ passes) pass up.each (in_list (operator ∷ passes) once.nth pass once.there) in
            let any : Placed = record { place = place; entry = other } in
            let k = once.made.0 in
            let inside : k < length (entries pass) = omega (arith, once.made.1, length-map (entries pass) place_of) in
            let placed = get_or (entries pass) k any in
            let at : placed.place ≡ place = sym (get_or-map place_of (entries pass) k any place inside) ∙ once.made.2 in
            let here : slice_get (joined_book life).entries place ≡ Some placed.entry =
            subst (λ (n : ℕ). slice_get (joined_book life).entries n ≡ Some placed.entry) at (stands.entries k any inside) in
            let it = get_or_from_slice_get (joined_book life).entries place placed.entry other here in
            let entry_of = λ (one : Placed). one.entry in
            let all = All-from_recursion (IsOfSomeone workers) (made pass) (someones once.nth pass once.there) in
            let this = all k other (omega (arith, inside, length-map (entries pass) entry_of)) in
            subst (IsOfSomeone workers) (get_or-map entry_of (entries pass) k any other inside ∙ sym it) this

  module _ (operator : PassRecord) (life : Life) (theirs : AllByRecursion (λ entry. is_operators entry.call ≡ true) (made operator))
      (comes : ComesFrom desk (operator ∷ passes) life) (differ : Differ workers) where
    -- an entry that is none of the inverter's worker
    abbrev NoneOf : ℕ → Entry → Type 0
    NoneOf inverter entry = is_workers inverter entry.call ≡ false

    -- what another pass made is none of a worker's
    others_made : (place : ℕ) (worker : WorkerRecord) (pass : PassRecord) → slice_get workers place ≡ Some worker → slice_get passes place ≡ Some pass
        → (nth : ℕ) (other : PassRecord) → slice_get (operator ∷ passes) nth ≡ Some other → other.number ≢ pass.number
        → AllByRecursion (NoneOf worker.job.inverter) (made other)
    others_made place worker pass is has zero other there not =
        subst (λ (one : PassRecord). AllByRecursion (NoneOf worker.job.inverter) (made one)) (same_Some operator other there)
        (all_map (λ entry. is_operators entry.call ≡ true) (NoneOf worker.job.inverter) (λ entry own. none_workers worker.job.inverter entry.call own)
        (made operator) theirs)
    others_made place worker pass is has (suc nth) other there not =
        let another = worker_at nth other there in
        let elsewhere : nth ≢ place =
        λ at. not (numbered nth another.0 other another.1 there ∙ ap (λ (n : ℕ). n + 1) at ∙ sym (numbered place worker pass is has)) in
        let apart : another.0.job.inverter ≢ worker.job.inverter = λ one. elsewhere (differ nth place another.0 worker another.1 is one) in
        all_map (IsOwn another.0.job.inverter) (NoneOf worker.job.inverter)
        (λ entry own. none_others another.0.job.inverter worker.job.inverter apart entry own) (made other)
        (workers_made nth another.0 other another.1 there)

    module _ (place : ℕ) (worker : WorkerRecord) (pass : PassRecord) (is : slice_get workers place ≡ Some worker)
        (has : slice_get passes place ≡ Some pass) where
      abbrev inverter : ℕ
      inverter = worker.job.inverter

      abbrev test : Entry → Bool
      test entry = is_workers inverter entry.call

      there : Contains (operator ∷ passes) pass
      there = in_list (operator ∷ passes) (suc place) pass has

      -- the worker's entries are told from those of the others
      apart : TellsApart test pass (operator ∷ passes)
      apart = record {
        own = All-from_recursion (λ (entry : Entry). test entry ≡ true) (made pass) (workers_made place worker pass is has);
        others = λ other inside not. All-from_recursion (λ (entry : Entry). test entry ≡ false) (made other)
            (others_made place worker pass is has inside.0 other (there_at (operator ∷ passes) other inside) not);
      }

      -- what it made stands in the life
      stands : Stands desk life pass
      stands = All-contains (Stands desk life) (operator ∷ passes) pass (is_made_up desk (operator ∷ passes) life comes).each there

      module _ (fresh : first_place desk ≡ 0) where
        -- the inverter's entries of the life are those of its pass
        own_entries : entries_of inverter (joined_book life).entries ≡ made pass
        own_entries =
            let found = all_found desk (operator ∷ passes) life pass test comes there apart in
            subst (λ (first : ℕ). entries_of inverter (drop first (joined_book life).entries) ≡ made pass) fresh found

        -- its goals are those of the life
        own_goals : LastAt inverter (MayTell pass) (IsGoalAfter (joined_book life))
        own_goals count at goal may =
            let tells = stands.goals count at inverter goal may in
            let found = first_found desk (operator ∷ passes) life pass test comes there apart count at inverter goal may in
            let sofar = take at (joined_book life).entries in
            let first = subst (λ (first : ℕ). entries_of inverter (drop first sofar) ≡ take count (made pass)) fresh found in
            let enough : count ≤ length (made pass) = omega (arith, may.counted, length-map (entries pass) (λ (placed : Placed). placed.entry)) in
            record {
              within = tells.within;
              counted = ap (λ (es : List Entry). length es) first ∙ length-take-le count (made pass) enough;
              told = tells.told;
            }

        -- and so is its full book
        own_full : WasFull pass → HasFullBook life
        own_full was = let full = stands.full was in (was.book, full.there, omega (arith, full.full))

    -- what the worker at each place did agrees with the life
    each_works_of : (opened : PartRecord) → opened.entries ≡ [] → desk.book ≡ opened
        → EachWorks links faults may_give (first_book opened) (joined_book life) (HasFullBook life) workers workers_now dialers dialers_now
    each_works_of opened none book place before after old new is now had has =
        let within : place < length workers = slice_get_within workers place before is in
        let pass = get_at passes place (omega (arith, within, paired)) in
        let fresh : first_place desk ≡ 0 = ap (λ (part : PartRecord). length part.entries) book ∙ ap (λ (es : List Entry). length es) none in
        let out = ran place before after (new_pass desk (place + 1)) pass.0 old new is now (begun place within) pass.1 had has in
        let inverter = before.job.inverter in
        let may_tell = IsGoalAfter (joined_book life) in
        let full = HasFullBook life in
        let works = works_still (MayTell pass.0) may_tell (WasFull pass.0) full may_give before.job [] (made pass.0) before after
        (links old) (links new) (faults old) (faults new) (own_goals place before pass.0 is pass.1 fresh) (own_full place before pass.0 is pass.1 fresh) out.works in
        let Worked : List Entry → List Entry → Type 0 = λ first last.
        WorksOn may_tell full may_give before.job first last before after (links old) (links new) (faults old) (faults new) in
        subst (Worked (entries_of inverter opened.entries)) (sym (own_entries place before pass.0 is pass.1 fresh))
        (subst (λ (first : List Entry). Worked first (made pass.0)) (sym (ap (entries_of inverter) none)) works)

-- What each worker did, each through a pass of one desk that began with no entries, agrees with the life that came from
-- these passes and the operator's.
pub each_works : {N : Type 0} (links : N → Option Links) (faults : N → ℕ) (may_give : ℕ → Bool) (opened : PartRecord) (desk : DeskRecord)
    (operator : PassRecord) (passes : List PassRecord) (life : Life) (workers workers_now : List WorkerRecord) (dialers dialers_now : List N)
    → opened.entries ≡ [] → desk.book ≡ opened → Differ workers
    → length workers_now ≡ length workers → length passes ≡ length workers → length workers ≤ length dialers → length dialers_now ≡ length dialers
    → EachRunsOut state_of tests_of identity links faults may_give workers workers_now (map (new_pass desk) (range_with_len 1 (length workers)))
    passes dialers dialers_now
    → AllByRecursion (λ entry. is_operators entry.call ≡ true) (made operator)
    → ComesFrom desk (operator ∷ passes) life
    → EachWorks links faults may_give (first_book opened) (joined_book life) (HasFullBook life) workers workers_now dialers dialers_now
each_works links faults may_give opened desk operator passes life workers workers_now dialers dialers_now none book differ same paired enough stay ran theirs
    comes =
    each_works_of links faults may_give desk passes workers workers_now dialers dialers_now same paired enough stay ran operator life theirs comes differ opened
    none book

-- Each entry of that life is a worker's or the operator's.
pub owned : {N : Type 0} (links : N → Option Links) (faults : N → ℕ) (may_give : ℕ → Bool) (opened : PartRecord) (desk : DeskRecord)
    (operator : PassRecord) (passes : List PassRecord) (life : Life) (workers workers_now : List WorkerRecord) (dialers dialers_now : List N)
    → opened.entries ≡ [] → desk.book ≡ opened
    → length workers_now ≡ length workers → length passes ≡ length workers → length workers ≤ length dialers → length dialers_now ≡ length dialers
    → EachRunsOut state_of tests_of identity links faults may_give workers workers_now (map (new_pass desk) (range_with_len 1 (length workers)))
    passes dialers dialers_now
    → AllByRecursion (λ entry. is_operators entry.call ≡ true) (made operator)
    → ComesFrom desk (operator ∷ passes) life
    → AllByRecursion (IsOfSomeone workers) (joined_book life).entries
owned links faults may_give opened desk operator passes life workers workers_now dialers dialers_now none book same paired enough stay ran theirs comes =
    owned_of links faults may_give desk passes workers workers_now dialers dialers_now same paired enough stay ran operator life theirs comes
    (ap (λ (part : PartRecord). length part.entries) book ∙ ap (λ (es : List Entry). length es) none)
