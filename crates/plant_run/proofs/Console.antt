-- What a console did through its pass, as it stands in the life that came from it and from the passes of workers.
use Rattle.std.proofs.Common.{◌≡◌, ◌≢◌, ℕ, zero, suc, ◌+◌, ◌<◌, ◌≤◌, eqb, Bool, true, false, List, [], ◌∷◌, ◌++◌, length, take, drop, filter, Option, Some, refl, sym, ap, subst, ◌∙◌, ⊎_elim, append_assoc, arith, eqb-true}
use Rattle.std.specs.Prelude.{All, Contains, slice_get}
use Rattle.std.specs.List.{AllByRecursion}
use Rattle.std.proofs.lemmas.List.{length-map, length-take-le}
use Rattle.std.proofs.lemmas.List.Elements.{All-contains, All-from_recursion, Contains-append_cases}
use Rattle.plant_book.specs.declared.carry.TheConstants.{CALLS_MAX}
use Rattle.plant_book.specs.declared.book.Entry.{Entry}
use Rattle.plant_book.specs.Site.{SiteRecord, inverters}
use Rattle.plant_book.specs.Part.{PartRecord}
use Rattle.plant_book.specs.Life.{Life, joined_book}
use Rattle.plant_ledger.specs.declared.plant.Goal.{Goal}
use Rattle.ledger_desk.specs.Desk.{DeskState}
use Rattle.operator_console.specs.declared.session.ConsoleEnd.{ConsoleEnd}
use Rattle.operator_console.specs.Deeds as console
use Rattle.operator_console.specs.Transcript.{IsTranscript}
use Rattle.operator_console.proofs.Done.{Lasts}
use Rattle.plant_desk.specs.declared.deed.Deed.{Deed}
use Rattle.plant_desk.specs.declared.deed.Deed.TheVariants.{Rolled}
use Rattle.plant_desk.specs.Deeds.{Placed, first_life, life_of, rolls_by}
use Rattle.plant_desk.specs.Passes.{DeskRecord, PassRecord, ComesFrom, entries, first_place, new_pass, rolls}
use Rattle.plant_desk.specs.DeskOf.{front, state_of, tests_of, MayTell, WasFull, Ended, WasFullLife}
use Rattle.plant_desk.specs.Standing.{Stands, TellsApart, made}
use Rattle.plant_desk.proofs.Lives.{front-le}
use Rattle.plant_desk.proofs.Standing.{in_list, is_made_up, just_one}
use Rattle.plant_desk.proofs.Telling.{all_found, first_found}
use Rattle.plant_run.specs.Works.{HasFullBook}
use Rattle.plant_run.specs.Operator.{is_operators, operators, IsGoalShown, IsEnded, HadFullLife, tests_in, ends_behind, nothing_made, IsConsole}
use Rattle.plant_run.proofs.Transcripts.{IsTheirs, operators_own, transcript_lasts}
use Rattle.plant_run.proofs.Rollers.{RollsAre, first_rolls, rolls_are, ends_after, roll_ended}

-- the operator's entries by their calls
abbrev is_theirs : Entry → Bool
is_theirs entry = is_operators entry.call

-- an element of a list of one is that one
only_one : (one other : PassRecord) → Contains (one ∷ []) other → one ≡ other
only_one one other (zero, lt, is) = is
only_one one other (suc k, lt, is) = absurd (omega arith)

-- a pass of another number is one of the others
of_others : (one other : PassRecord) (passes : List PassRecord) → Contains (one ∷ passes) other → other.number ≢ one.number
    → Contains passes other
of_others one other passes there apart = ⊎_elim
    (λ (first : Contains (one ∷ []) other). absurd (apart (ap (λ (p : PassRecord). p.number) (sym (only_one one other first)))))
    (λ (rest : Contains passes other). rest)
    (Contains-append_cases (one ∷ []) passes other there)

-- each entry of the operator's pass is one that an operator makes
pub operators_made : (may_give : ℕ → Bool) (desk : DeskRecord) (operator : PassRecord) (number : ℕ)
    (ended : ConsoleEnd) (left left_now taken taken_now : Option (List ℕ))
    → IsTranscript ended (console.tests_of may_give (tests_of operator)) (tests_of operator).was_full
    (state_of (new_pass desk number)) (state_of operator) left left_now taken taken_now
    → AllByRecursion (λ entry. is_operators entry.call ≡ true) (made operator)
operators_made may_give desk operator number ended left left_now taken taken_now script =
    let gains =
    operators_own ended (console.tests_of may_give (tests_of operator)) (WasFull operator)
    (state_of (new_pass desk number)) (state_of operator) left left_now taken taken_now script in
    subst (AllByRecursion IsTheirs) (sym gains.made) gains.theirs

module _ (desk : DeskRecord) (operator : PassRecord) (passes : List PassRecord) (life : Life)
    (comes : ComesFrom desk (operator ∷ passes) life) where
  abbrev all : List PassRecord
  all = operator ∷ passes

  abbrev number : ℕ
  number = operator.number

  abbrev first : ℕ
  first = first_place desk

  -- the operator's is one of the passes
  there : Contains all operator
  there = (0, omega arith, refl)

  of_desk : operator.desk ≡ desk
  of_desk = All-contains (λ (pass : PassRecord). pass.desk ≡ desk) all operator comes.of_desk there

  begins : (later : List Deed) × (comes.deeds ≡ operator.seen ++ later)
  begins = All-contains (λ (pass : PassRecord). (later : List Deed) × (comes.deeds ≡ pass.seen ++ later)) all operator comes.begins there

  stands : Stands desk life operator
  stands = All-contains (Stands desk life) all operator (is_made_up desk all life comes).each there

  site_is : life.last.site ≡ desk.book.site
  site_is = (is_made_up desk all life comes).site

  -- the front that the operator saw last is one of the life
  front_within : front operator ≤ length (joined_book life).entries
  front_within =
      let grows = front-le operator.desk.book operator.seen begins.0 in
      let whole : life_of operator.desk.book (operator.seen ++ begins.0) ≡ life =
      ap (λ (d : DeskRecord). life_of d.book (operator.seen ++ begins.0)) of_desk ∙ ap (life_of desk.book) (sym begins.1) ∙ sym comes.made in
      subst (λ (l : Life). front operator ≤ length (joined_book l).entries) whole grows

  -- a book that the operator saw full is one of the life's
  full_stays : WasFull operator → HasFullBook life
  full_stays was = let full = stands.full was in (was.book, full.there, omega (arith, full.full))

  -- a life that they saw full was
  full_life_stays : (calls : ℕ) → WasFullLife operator calls → HadFullLife life calls
  full_life_stays calls was =
      let room : operator.desk.book.site.room ≡ life.last.site.room =
      ap (λ (d : DeskRecord). d.book.site.room) of_desk ∙ ap (λ (s : SiteRecord). s.room) (sym site_is) in
      (stands.full_life calls was, subst (λ (n : ℕ). CALLS_MAX < calls + n) room was.1)

  -- where the plant came with no entries and the operator's are told from the workers', a goal that they may have been
  -- told is one of the life
  goal_stays : desk.book.entries ≡ [] → TellsApart is_theirs operator all → (count place inverter : ℕ) (goal : Goal)
      → MayTell operator count place inverter goal → IsGoalShown (joined_book life) count place inverter goal
  goal_stays new apart count place inverter goal may =
      let tells = stands.goals count place inverter goal may in
      let book = (joined_book life).entries in
      let found =
      subst (λ (n : ℕ). filter is_theirs (drop n (take place book)) ≡ take count (made operator)) (ap (λ (es : List Entry). length es) new)
      (first_found desk all life operator is_theirs comes there apart count place inverter goal may) in
      let entry_at : Placed → Entry = λ placed. placed.entry in
      record {
        within = tells.within;
        counted = ap (λ (es : List Entry). length es) found
            ∙ length-take-le count (made operator) (omega (arith, may.counted, length-map (entries operator) entry_at));
        told = tells.told;
      }

  -- and their entries are the life's of theirs
  made_stay : desk.book.entries ≡ [] → TellsApart is_theirs operator all → made operator ≡ operators (joined_book life).entries
  made_stay new apart =
      sym (subst (λ (n : ℕ). filter is_theirs (drop n (joined_book life).entries) ≡ made operator) (ap (λ (es : List Entry). length es) new)
      (all_found desk all life operator is_theirs comes there apart))

  -- where no other pass rolls
  module _ (none : (pass : PassRecord) → Contains passes pass → rolls pass ≡ []) where
    abbrev IsPass : ℕ → Type 0
    IsPass by = (1 ≤ by) × (by ≤ desk.passes)

    abbrev RollsStay : PassRecord → Type 0
    RollsStay pass = rolls_by pass.number first comes.deeds ≡ rolls pass

    -- a number of another pass has no roll among the deeds
    others_none : (by : ℕ) → IsPass by → by ≢ number → rolls_by by first comes.deeds ≡ []
    others_none by signed apart =
        let one = just_one (λ (pass : PassRecord). eqb pass.number by) all (comes.numbers by signed.0 signed.1) in
        let same : one.it.number ≡ by = eqb-true one.it.number by one.passes in
        let inside = in_list all one.nth one.it one.there in
        let rest = of_others operator one.it passes inside (λ is. apart (sym same ∙ is)) in
        ap (λ (n : ℕ). rolls_by n first comes.deeds) (sym same) ∙ All-contains RollsStay all one.it comes.rolls inside ∙ none one.it rest

    -- so each roll among them is the operator's
    all_theirs : RollsAre number comes.deeds
    all_theirs = rolls_are number IsPass first comes.deeds comes.signed others_none

    -- the operator's rolls are where the books of the life end
    rolls_stay : rolls operator ≡ ends_behind 0 life.ended
    rolls_stay =
        sym (All-contains RollsStay all operator comes.rolls there)
        ∙ sym (ap (λ (l : Life). ends_behind 0 l.ended) comes.made ∙ ends_after number (first_life desk.book) comes.deeds all_theirs)

    -- and the book that one of them ended is the life's of its number
    ended_stays : (nth : ℕ) (book : PartRecord) → Ended operator nth book → IsEnded life nth book
    ended_stays nth book was =
        let place = first_place operator.desk in
        let before = was.before in
        let count = length (rolls_by number place before) in
        let through : comes.deeds ≡ before ++ Rolled number ∷ (was.behind ++ begins.0) =
        begins.1 ∙ ap (λ (ds : List Deed). ds ++ begins.0) was.seen ∙ append_assoc before (Rolled number ∷ was.behind) begins.0 in
        let theirs = first_rolls number before (Rolled number ∷ (was.behind ++ begins.0)) (subst (RollsAre number) through all_theirs) in
        let whole : life_of operator.desk.book (before ++ Rolled number ∷ (was.behind ++ begins.0)) ≡ life =
        ap (λ (d : DeskRecord). life_of d.book (before ++ Rolled number ∷ (was.behind ++ begins.0))) of_desk
        ∙ ap (life_of desk.book) (sym through) ∙ sym comes.made in (
          count,
          omega (arith, was.counted),
          sym (ap (λ (l : Life). slice_get l.ended count) whole)
              ∙ roll_ended number place number operator.desk.book before (was.behind ++ begins.0) theirs ∙ ap Some (sym was.it),
        )

-- A console's transcript over the operator's pass is one over the life that came from that pass and from those of
-- workers, who roll no book and make none of an operator's entries.
pub console_stands : (may_give : ℕ → Bool) (desk : DeskRecord) (operator : PassRecord) (passes : List PassRecord) (life : Life) (number : ℕ)
    (ended : ConsoleEnd) (left left_now taken taken_now : Option (List ℕ))
    → desk.book.entries ≡ [] → operator.desk ≡ desk
    → ((pass : PassRecord) → Contains passes pass → rolls pass ≡ [])
    → ((pass : PassRecord) → Contains passes pass → All (λ entry. is_operators entry.call ≡ false) (made pass))
    → IsTranscript ended (console.tests_of may_give (tests_of operator)) (tests_of operator).was_full
    (state_of (new_pass desk number)) (state_of operator) left left_now taken taken_now
    → ComesFrom desk (operator ∷ passes) life
    → IsConsole may_give life ended left left_now taken taken_now
console_stands may_give desk operator passes life number ended left left_now taken taken_now new own_desk none_rolls none_theirs script comes =
    let all = operator ∷ passes in
    let theirs =
    All-from_recursion IsTheirs (made operator)
    (operators_made may_give desk operator number ended left left_now taken taken_now script) in
    let apart : TellsApart is_theirs operator all = record {
      own = theirs;
      others = λ other there differs. none_theirs other (of_others operator other passes there differs);
    } in
    let site : desk.book.site ≡ life.last.site = sym (is_made_up desk all life comes).site in
    let last : Lasts (console.tests_of may_give (tests_of operator)) (tests_in may_give life) = record {
      given = λ reading. refl;
      goals = goal_stays desk operator passes life comes new apart;
      rolls = ended_stays desk operator passes life comes none_rolls;
      lives = full_life_stays desk operator passes life comes;
    } in
    let later = transcript_lasts ended (console.tests_of may_give (tests_of operator)) (tests_in may_give life) (WasFull operator) (HasFullBook life)
    (state_of (new_pass desk number)) (state_of operator) left left_now taken taken_now last (full_stays desk operator passes life comes) script in
    let begun : state_of (new_pass desk number) ≡ nothing_made (inverters life.last.site) =
    λ i. record { made = []; front = length (new i); inverters = inverters (site i); rolls = [] } in
    record {
      desk = state_of operator;
      of_life = record {
        made = made_stay desk operator passes life comes new apart;
        front = front_within desk operator passes life comes;
        inverters = ap (λ (d : DeskRecord). inverters d.book.site) own_desk ∙ ap inverters site;
        rolls = rolls_stay desk operator passes life comes none_rolls;
      };
      transcript = subst
          (λ (s : DeskState). IsTranscript ended (tests_in may_give life) (HasFullBook life) s (state_of operator) left left_now taken taken_now)
          begun later;
    }
