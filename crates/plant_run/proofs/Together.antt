-- Workers and a console at one desk, all at once: how they begin, and what they did on one life.
use Rattle.std.proofs.Common.{◌≡◌, ℕ, zero, suc, ◌+◌, ◌<◌, ◌≤◌, Bool, List, [], ◌∷◌, ◌++◌, length, map, get_or, Option, Some, refl, sym, ap, subst, ◌∙◌, arith, length-append, inl, inr}
use Rattle.std.specs.Prelude.{All, slice_get}
use Rattle.std.specs.List.{range_with_len}
use Rattle.std.proofs.lemmas.List.FromFn.{length-map-range_with_len, get_or-map-range_with_len, map-range_with_len_more}
use Rattle.std.proofs.lemmas.Option.{slice_get_within, slice_get-get_or, get_or_from_slice_get}
use Rattle.world_traits.specs.Links.{Links}
use Rattle.plant_book.specs.Site.{inverters}
use Rattle.plant_book.specs.Part.{PartRecord}
use Rattle.plant_book.specs.Life.{joined_book}
use Rattle.plant_desk.specs.Passes.{DeskRecord, PassRecord, new_pass, IsNewDesk, IsClosed}
use Rattle.plant_desk.specs.DeskOf.{state_of, tests_of, identity}
use Rattle.plant_desk.proofs.Standing.{is_made_up}
use Rattle.operator_console.specs.declared.session.ConsoleEnd.{ConsoleEnd}
use Rattle.operator_console.specs.Deeds as console
use Rattle.operator_console.specs.Transcript.{IsTranscript}
use Rattle.worker_turn.specs.Worker.{WorkerRecord}
use Rattle.plant_run.specs.Running.{EachWorker, IsNew, IsOfSite, IsOver, Differ, StayBehind}
use Rattle.plant_run.specs.Forked.{RunsOut, EachRunsOut, AllRunOut, EachReady, IsForked}
use Rattle.plant_run.proofs.Seats.{get_at}
use Rattle.plant_run.proofs.Whole.{safe, seat}
use Rattle.plant_run.proofs.Halves.{get_either}
use Rattle.plant_run.proofs.Passing.{each_works, owned, none_rolled, none_theirs}
use Rattle.plant_run.proofs.Console.{operators_made, console_stands}

-- two lists with one more are the same where their first ones are, and the last
last_apart : {X : Type 0} (xs ys : List X) (x y : X) → xs ++ x ∷ [] ≡ ys ++ y ∷ [] → (xs ≡ ys) × (x ≡ y)
last_apart [] [] x y is = (refl, cc)
last_apart {X = X} [] (b ∷ ys) x y is = absurd (omega (arith, ap (λ (zs : List X). length zs) is, length-append ys (y ∷ [])))
last_apart {X = X} (a ∷ xs) [] x y is = absurd (omega (arith, ap (λ (zs : List X). length zs) is, length-append xs (x ∷ [])))
last_apart {X = X} (a ∷ xs) (b ∷ ys) x y is =
    let first : a ≡ b = cc in
    let rest : xs ++ x ∷ [] ≡ ys ++ y ∷ [] = cc in
    let later = last_apart xs ys x y rest in
    (ap (λ (zs : List X). a ∷ zs) later.0 ∙ ap (λ (z : X). z ∷ ys) first, later.1)

-- the passes of a new desk: those of the workers, and behind them the console's
pub seats_are : (desk : DeskRecord) (count : ℕ) (desks : List PassRecord) (operator : PassRecord)
    → desks ++ operator ∷ [] ≡ map (new_pass desk) (range_with_len 1 (count + 1))
    → (desks ≡ map (new_pass desk) (range_with_len 1 count)) × (operator ≡ new_pass desk (count + 1))
seats_are desk count desks operator is =
    last_apart desks (map (new_pass desk) (range_with_len 1 count)) operator (new_pass desk (count + 1))
    (is ∙ map-range_with_len_more (new_pass desk) 1 count (count + 1) (omega arith))

-- how many there are
pub seats_count : (desk : DeskRecord) (count : ℕ) (desks : List PassRecord) (operator : PassRecord)
    → desks ++ operator ∷ [] ≡ map (new_pass desk) (range_with_len 1 (count + 1)) → length desks ≡ count
seats_count desk count desks operator is =
    ap (λ (ps : List PassRecord). length ps) (seats_are desk count desks operator is).0 ∙ length-map-range_with_len (new_pass desk) 1 count

-- a pass of the workers at a place
seat_at : (desk : DeskRecord) (count : ℕ) (desks : List PassRecord) (place : ℕ) (pass : PassRecord)
    → desks ≡ map (new_pass desk) (range_with_len 1 count) → place < count → slice_get desks place ≡ Some pass → pass ≡ new_pass desk (place + 1)
seat_at desk count desks place pass are within is =
    sym (get_or_from_slice_get desks place pass pass is) ∙ ap (λ (ps : List PassRecord). get_or ps place pass) are
    ∙ get_or-map-range_with_len (new_pass desk) 1 count place (place + 1) pass within (omega arith)

-- new workers of the plant's site are ready at them
pub ready : (opened : PartRecord) (desk : DeskRecord) (workers : List WorkerRecord) (desks : List PassRecord) (operator : PassRecord)
    → desk.book ≡ opened → desks ++ operator ∷ [] ≡ map (new_pass desk) (range_with_len 1 (length workers + 1))
    → EachWorker IsNew workers → EachWorker (IsOfSite opened.site) workers → EachReady state_of workers desks
ready opened desk workers desks operator book are new of_site = λ place worker pass is pass_is.
    let within : place < length workers = slice_get_within workers place worker is in
    let seats = seats_are desk (length workers) desks operator are in
    let its = seat opened.site worker (new place worker is) (of_site place worker is) in
    let its_pass = seat_at desk (length workers) desks place pass seats.0 within pass_is in
    let its_book : pass.desk.book ≡ opened = ap (λ (p : PassRecord). p.desk.book) its_pass ∙ book in
    (subst (λ (part : PartRecord). worker.job.inverter < inverters part.site) (sym its_book) its.of_desk, its.rests)

-- the console's desk has the inverters of the plant
pub operators_inverters : (opened : PartRecord) (desk : DeskRecord) (count : ℕ) (desks : List PassRecord) (operator : PassRecord)
    → desk.book ≡ opened → desks ++ operator ∷ [] ≡ map (new_pass desk) (range_with_len 1 (count + 1))
    → inverters opened.site ≡ (state_of operator).inverters
operators_inverters opened desk count desks operator book are =
    ap (λ (part : PartRecord). inverters part.site) (sym book)
    ∙ ap (λ (p : PassRecord). inverters p.desk.book.site) (sym (seats_are desk count desks operator are).1)

-- what stands among the first ones of a list
in_low : {X : Type 0} (low high : List X) (i : ℕ) (x : X) → i < length low → slice_get (low ++ high) i ≡ Some x → slice_get low i ≡ Some x
in_low low high i x below is = elim (get_either low high i x is) [
  | inl here ↦ here.1
  | inr there ↦ absurd (omega (arith, below, there.0))
]

module _ {N : Type 0} (links : N → Option Links) (faults : N → ℕ) (may_give : ℕ → Bool) where
  -- what workers did with the first dialers they did with all of them
  pub with_more : (workers workers_now : List WorkerRecord) (desks desks_now : List PassRecord) (low low_now high : List N)
      → length low ≡ length workers → length low_now ≡ length low
      → EachRunsOut state_of tests_of identity links faults may_give workers workers_now desks desks_now low low_now
      → EachRunsOut state_of tests_of identity links faults may_give workers workers_now desks desks_now (low ++ high) (low_now ++ high)
  with_more workers workers_now desks desks_now low low_now high as_many stay ran = λ place before after desk desk_now old new is now desk_is desk_after dialer_is dialer_after.
      let within : place < length workers = slice_get_within workers place before is in
      ran place before after desk desk_now old new is now desk_is desk_after (in_low low high place old (omega (arith, within, as_many)) dialer_is)
      (in_low low_now high place new (omega (arith, within, as_many, stay)) dialer_after)

  module _ (desk : DeskRecord) (desks desks_now : List PassRecord) (operator operator_now : PassRecord) (workers workers_now : List WorkerRecord)
      (dialers dialers_now : List N)
      (are : desks ++ operator ∷ [] ≡ map (new_pass desk) (range_with_len 1 (length workers + 1)))
      (enough : length workers ≤ length dialers) (workers_stay : length workers_now ≡ length workers) (desks_stay : length desks_now ≡ length desks)
      (dialers_stay : length dialers_now ≡ length dialers)
      (ran : EachRunsOut state_of tests_of identity links faults may_give workers workers_now desks desks_now dialers dialers_now)
      (kept : identity operator_now ≡ identity operator) where
    paired : length desks ≡ length workers
    paired = seats_count desk (length workers) desks operator are

    -- the console's pass stays one of the desk
    own_desk : operator_now.desk ≡ desk
    own_desk = ap (λ (one : DeskRecord × ℕ). one.0) kept ∙ ap (λ (p : PassRecord). p.desk) (seats_are desk (length workers) desks operator are).1

    -- what the worker at a place did
    abbrev RanAt : ℕ → WorkerRecord → PassRecord → Type 0
    RanAt place after pass_now = (before : WorkerRecord) × (pass : PassRecord) × (old : N) × (new : N)
        × (slice_get desks place ≡ Some pass)
        × RunsOut state_of tests_of identity links faults may_give before after pass pass_now old new

    ran_at : (place : ℕ) (after : WorkerRecord) (pass_now : PassRecord) → slice_get workers_now place ≡ Some after
        → slice_get desks_now place ≡ Some pass_now → RanAt place after pass_now
    ran_at place after pass_now is has =
        let within : place < length workers_now = slice_get_within workers_now place after is in
        let before = get_at workers place (omega (arith, within, workers_stay)) in
        let pass = get_at desks place (omega (arith, within, workers_stay, paired)) in
        let old = get_at dialers place (omega (arith, within, workers_stay, enough)) in
        let new = get_at dialers_now place (omega (arith, within, workers_stay, enough, dialers_stay)) in
        (before.0, pass.0, old.0, new.0, pass.1, ran place before.0 after pass.0 pass_now old.0 new.0 before.1 is pass.1 has old.1 new.1)

    -- all workers are over
    all_over : EachWorker IsOver workers_now
    all_over place worker is =
        let within : place < length workers_now = slice_get_within workers_now place worker is in
        let pass_now = get_at desks_now place (omega (arith, within, workers_stay, paired, desks_stay)) in
        (ran_at place worker pass_now.0 is pass_now.1).5.over

    -- all passes stay those of the desk, and are as many as it made
    pub of_desk : All (λ pass. pass.desk ≡ desk) (operator_now ∷ desks_now)
    of_desk zero other within = own_desk
    of_desk (suc place) other within =
        let below : place < length desks_now = omega (arith, within) in
        let after = get_at workers_now place (omega (arith, below, workers_stay, paired, desks_stay)) in
        let it = ran_at place after.0 (get_or desks_now place other) after.1 (slice_get-get_or desks_now place other below) in
        let seats = seats_are desk (length workers) desks operator are in
        let was = seat_at desk (length workers) desks place it.1 seats.0 (omega (arith, below, paired, desks_stay)) it.4 in
        ap (λ (one : DeskRecord × ℕ). one.0) it.5.kept ∙ ap (λ (p : PassRecord). p.desk) was

    pub as_many : length (operator_now ∷ desks_now) ≡ length workers + 1
    as_many = omega (arith, paired, desks_stay)

    -- what workers and console did on one life
    pub forked : (opened plant : PartRecord) (ended : ConsoleEnd) (left left_now taken taken_now : Option (List ℕ))
        → opened.entries ≡ [] → desk.book ≡ opened → Differ workers
        → IsTranscript ended (console.tests_of may_give (tests_of operator_now)) (tests_of operator_now).was_full (state_of operator)
        (state_of operator_now) left left_now taken taken_now
        → IsClosed desk (operator_now ∷ desks_now) plant
        → IsForked links faults may_give opened plant workers workers_now dialers dialers_now ended left left_now taken taken_now
    forked opened plant ended left left_now taken taken_now none book differ script closed =
        let life = closed.life in
        let seats = seats_are desk (length workers) desks operator are in
        let number = length workers + 1 in
        let Ran : List PassRecord → Type 0 =
        λ ps. EachRunsOut state_of tests_of identity links faults may_give workers workers_now ps desks_now dialers dialers_now in
        let ran_new = subst Ran seats.0 ran in
        let as_workers : length desks_now ≡ length workers = desks_stay ∙ paired in
        let Script : PassRecord → Type 0 =
        λ p. IsTranscript ended (console.tests_of may_give (tests_of operator_now)) (tests_of operator_now).was_full (state_of p)
        (state_of operator_now) left left_now taken taken_now in
        let script_new = subst Script seats.1 script in
        let theirs = operators_made may_give desk operator_now number ended left left_now taken taken_now script_new in
        let up = is_made_up desk (operator_now ∷ desks_now) life closed.comes in
        let begun : desk.book.entries ≡ [] = ap (λ (part : PartRecord). part.entries) book ∙ none in
        record {
          life = life;
          last = closed.last;
          site = ap (λ (part : PartRecord). part.site) closed.last ∙ up.site ∙ ap (λ (part : PartRecord). part.site) book;
          start = ap (λ (part : PartRecord). part.start) closed.last ∙ up.start ∙ ap (λ (part : PartRecord). part.start) book;
          answered = closed.comes.answered;
          safe = safe (joined_book life) closed.comes.answered.book;
          owned = owned links faults may_give opened desk operator_now desks_now life workers workers_now dialers dialers_now none book workers_stay as_workers
              enough dialers_stay ran_new theirs closed.comes;
          works = each_works links faults may_give opened desk operator_now desks_now life workers workers_now dialers dialers_now none book differ
              workers_stay as_workers enough dialers_stay ran_new theirs closed.comes;
          over = all_over;
          console = console_stands may_give desk operator_now desks_now life number ended left left_now taken taken_now begun own_desk
              (none_rolled links faults may_give desk desks_now workers workers_now dialers dialers_now workers_stay as_workers enough dialers_stay ran_new)
              (none_theirs links faults may_give desk desks_now workers workers_now dialers dialers_now workers_stay as_workers enough dialers_stay ran_new)
              script_new closed.comes;
        }

-- the passes that a new desk gave, in the order of their numbers
pub numbered : (opened : PartRecord) (number count : ℕ) (desk : DeskRecord) (made desks : List PassRecord) (operator : PassRecord)
    → number ≡ count + 1 → IsNewDesk opened number desk made → desks ++ operator ∷ [] ≡ made
    → desks ++ operator ∷ [] ≡ map (new_pass desk) (range_with_len 1 (count + 1))
numbered opened number count desk made desks operator is begun seated =
    seated ∙ begun.numbered ∙ ap (λ (n : ℕ). map (new_pass desk) (range_with_len 1 n)) is

-- what stands behind the first ones of a list, which are as many as before
pub behind_low : {X : Type 0} (low low_now high : List X) (i : ℕ) → length low_now ≡ length low → length low ≤ i
    → slice_get (low_now ++ high) i ≡ slice_get (low ++ high) i
behind_low [] [] high i same past = refl
behind_low [] (y ∷ low_now) high i same past = absurd (omega (arith, same))
behind_low (x ∷ low) [] high i same past = absurd (omega (arith, same))
behind_low (x ∷ low) (y ∷ low_now) high zero same past = absurd (omega (arith, past))
behind_low (x ∷ low) (y ∷ low_now) high (suc i) same past = behind_low low low_now high i (omega (arith, same)) (omega (arith, past))

-- dialers behind those that were lent stay as they were
pub stay_behind : {N : Type 0} (count : ℕ) (dialers dialers_end low low_now high : List N)
    → dialers ≡ low ++ high → dialers_end ≡ low_now ++ high → length low ≡ count → length low_now ≡ length low
    → StayBehind count dialers dialers_end
stay_behind count dialers dialers_end low low_now high split ends as_many stay = λ place past.
    ap (λ (ds : List _). slice_get ds place) ends ∙ behind_low low low_now high place stay (omega (arith, as_many, past))
    ∙ ap (λ (ds : List _). slice_get ds place) (sym split)

-- A run of workers and a console, with the lists as they were lent and handed on.
module _ {N : Type 0} (links : N → Option Links) (faults : N → ℕ) (may_give : ℕ → Bool) (opened : PartRecord) (number : ℕ) (desk : DeskRecord)
    (made desks desks_lent desks_now passes : List PassRecord) (operator operator_now : PassRecord) (workers workers_lent workers_now : List WorkerRecord)
    (dialers low low_now high : List N)
    (is : number ≡ length workers + 1) (begun : IsNewDesk opened number desk made) (seated : desks ++ operator ∷ [] ≡ made)
    (lent_desks : desks_lent ≡ desks) (lent_workers : workers_lent ≡ workers) (split : dialers ≡ low ++ high) (as_many_low : length low ≡ length workers)
    (all : AllRunOut state_of tests_of identity links faults may_give workers_lent workers_now desks_lent desks_now low low_now)
    (kept : identity operator_now ≡ identity operator) (handed : passes ≡ operator_now ∷ desks_now) where
  are : desks ++ operator ∷ [] ≡ map (new_pass desk) (range_with_len 1 (length workers + 1))
  are = numbered opened number (length workers) desk made desks operator is begun seated

  ran : AllRunOut state_of tests_of identity links faults may_give workers workers_now desks desks_now low low_now
  ran =
      let P : List WorkerRecord → Type 0 = λ ws. AllRunOut state_of tests_of identity links faults may_give ws workers_now desks_lent desks_now low low_now in
      let Q : List PassRecord → Type 0 = λ ps. AllRunOut state_of tests_of identity links faults may_give workers workers_now ps desks_now low low_now in
      subst Q lent_desks (subst P lent_workers all)

  each : EachRunsOut state_of tests_of identity links faults may_give workers workers_now desks desks_now (low ++ high) (low_now ++ high)
  each = with_more links faults may_give workers workers_now desks desks_now low low_now high as_many_low ran.dialers_stay ran.each

  enough : length workers ≤ length (low ++ high)
  enough = omega (arith, as_many_low, length-append low high)

  all_stay : length (low_now ++ high) ≡ length (low ++ high)
  all_stay = omega (arith, length-append low high, length-append low_now high, ran.dialers_stay)

  -- all passes that were handed in are the desk's
  pub handed_of_desk : All (λ pass. pass.desk ≡ desk) passes
  handed_of_desk = subst (λ (ps : List PassRecord). All (λ pass. pass.desk ≡ desk) ps) (sym handed)
      (of_desk links faults may_give desk desks desks_now operator operator_now workers workers_now (low ++ high) (low_now ++ high) are enough
      ran.workers_stay ran.desks_stay all_stay each kept)

  -- and they are all that it gave
  pub handed_all : desk.passes ≤ length passes
  handed_all = omega (
    arith,
    begun.passes,
    is,
    ap (λ (ps : List PassRecord). length ps) handed,
    ran.desks_stay,
    seats_count desk (length workers) desks operator are,
  )

  -- what workers and console did on one life
  pub forked_whole : (plant : PartRecord) (ended : ConsoleEnd) (left left_now taken taken_now : Option (List ℕ)) (workers_end : List WorkerRecord)
      (dialers_end : List N) → opened.entries ≡ [] → Differ workers
      → IsTranscript ended (console.tests_of may_give (tests_of operator_now)) (tests_of operator_now).was_full (state_of operator)
      (state_of operator_now) left left_now taken taken_now
      → IsClosed desk passes plant → workers_end ≡ workers_now → dialers_end ≡ low_now ++ high
      → IsForked links faults may_give opened plant workers workers_end dialers dialers_end ended left left_now taken taken_now
  forked_whole plant ended left left_now taken taken_now workers_end dialers_end none differ script closed workers_are dialers_are =
      let A : List WorkerRecord → Type 0 = λ ws. IsForked links faults may_give opened plant workers ws dialers dialers_end ended left left_now taken taken_now in
      let B : List N → Type 0 = λ ds. IsForked links faults may_give opened plant workers workers_now dialers ds ended left left_now taken taken_now in
      let C : List N → Type 0 = λ ds. IsForked links faults may_give opened plant workers workers_now ds (low_now ++ high) ended left left_now taken taken_now in
      let P : List PassRecord → Type 0 = λ ps. IsClosed desk ps plant in
      subst A (sym workers_are) (subst B (sym dialers_are) (subst C (sym split)
      (forked links faults may_give desk desks desks_now operator operator_now workers workers_now (low ++ high) (low_now ++ high) are enough
      ran.workers_stay ran.desks_stay all_stay each kept opened plant ended left left_now taken taken_now none begun.of_book differ script
      (subst P handed closed))))
