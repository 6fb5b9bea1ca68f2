-- What passes made stands in the life that came from them.
use Rattle.std.proofs.Common.{◌≡◌, ℕ, zero, suc, ◌+◌, ◌<◌, ◌≤◌, eqb, cond, Bool, true, false, true≢false, List, [], ◌∷◌, ◌++◌, length, map, take, Some, refl, sym, ap, subst, ◌∙◌, append_assoc, length-append, arith, eq-eqb, eqb-true}
use Rattle.std.specs.Prelude.{All, Contains, slice_get}
use Rattle.std.specs.List.{count_by}
use Rattle.std.specs.List.Sorted.{IsStrictlyIncreasing}
use Rattle.std.proofs.lemmas.List.{append-nil}
use Rattle.std.proofs.Math.Seq.{take-append_seam}
use Rattle.std.proofs.lemmas.List.Sums.{sum_by-cons}
use Rattle.std.proofs.lemmas.List.Elements.{All-nil, All-cons, All-map, All-contains, Contains-append_right}
use Rattle.std.proofs.lemmas.Option.{none-some, same_Some, slice_get_within, get_or_from_slice_get}
use Rattle.plant_book.specs.declared.book.Entry.{Entry}
use Rattle.plant_book.specs.Site.{SiteRecord}
use Rattle.plant_book.specs.Book.{BookRecord}
use Rattle.plant_book.specs.Answered.{with_entries}
use Rattle.plant_book.specs.Part.{PartRecord}
use Rattle.plant_book.specs.Life.{Life, AreParts, joined_book}
use Rattle.plant_ledger.specs.declared.plant.Goal.{Goal}
use Rattle.ledger_desk.specs.Plain.{IsGoalOf}
use Rattle.plant_desk.specs.declared.deed.Deed.{Deed}
use Rattle.plant_desk.specs.declared.deed.Deed.TheVariants.{Rolled}
use Rattle.plant_desk.specs.Deeds.{first_life, life_of, Placed, entries_by}
use Rattle.plant_desk.specs.Passes.{DeskRecord, PassRecord, first_place, entries, ComesFrom}
use Rattle.plant_desk.specs.DeskOf.{MayTell, books_of, WasFull, Ended, WasFullLife}
use Rattle.plant_desk.specs.Standing.{places, StandsAt, MadeOnce, TellsOf, IsFullBookOf, Stands, IsMadeUp}
use Rattle.plant_desk.proofs.Passes.{calls_in, site-after, stands_in}
use Rattle.plant_desk.proofs.Later.{entries_in, joined-after, places-from, goals_after, lives_after, with_more, book-grows}
use Rattle.plant_desk.proofs.Placing.{place_of, At, length-entries_in, entries_at, places-rise, author_at}

-- the one of a list that passes a test
pub record JustOne {A : Type 0} (test : A → Bool) (xs : List A) : Type 0 where
  pub nth : ℕ
  pub it : A
  pub there : slice_get xs nth ≡ Some it
  pub passes : test it ≡ true
  pub only : (other : ℕ) (one : A) → slice_get xs other ≡ Some one → test one ≡ true → other ≡ nth

abbrev one_if : Bool → ℕ
one_if b = cond b 1 0

module _ {A : Type 0} (test : A → Bool) where
  none_passes : (xs : List A) → count_by test xs ≡ 0 → (k : ℕ) (x : A) → slice_get xs k ≡ Some x → test x ≡ true → ⊥
  none_passes [] none k x at pass = none-some x at
  none_passes (y ∷ xs) none zero x at pass =
      let first = ap one_if (ap test (same_Some y x at) ∙ pass) in
      absurd (omega (arith, first, sum_by-cons (λ (z : A). one_if (test z)) y xs))
  none_passes (y ∷ xs) none (suc k) x at pass = none_passes xs (omega (arith, sum_by-cons (λ (z : A). one_if (test z)) y xs)) k x at pass

  with_first : (y : A) (xs : List A) (b : Bool) → test y ≡ b → one_if (test y) + count_by test xs ≡ 1 → (count_by test xs ≡ 1 → JustOne test xs) → JustOne test (y ∷ xs)
  with_first y xs true is counted rest =
      let none : count_by test xs ≡ 0 = omega (arith, counted, ap one_if is) in
      record { nth = 0; it = y; there = refl; passes = is; only = only none }
    where
      only : count_by test xs ≡ 0 → (other : ℕ) (x : A) → slice_get (y ∷ xs) other ≡ Some x → test x ≡ true → other ≡ 0
      only none zero x at pass = refl
      only none (suc k) x at pass = absurd (none_passes xs none k x at pass)
  with_first y xs false is counted rest =
      let one = rest (omega (arith, counted, ap one_if is)) in
      record { nth = suc one.nth; it = one.it; there = one.there; passes = one.passes; only = only one }
    where
      only : (one : JustOne test xs) → (other : ℕ) (x : A) → slice_get (y ∷ xs) other ≡ Some x → test x ≡ true → other ≡ suc one.nth
      only one zero x at pass = absurd (true≢false (sym pass ∙ sym (ap test (same_Some y x at)) ∙ is))
      only one (suc k) x at pass = ap suc (one.only k x at pass)

  pub just_one : (xs : List A) → count_by test xs ≡ 1 → JustOne test xs
  just_one [] one = absurd (omega arith)
  just_one (y ∷ xs) one = with_first y xs (test y) refl (sym (sum_by-cons (λ (z : A). one_if (test z)) y xs) ∙ one) (just_one xs)

pub in_list : {A : Type 0} (xs : List A) (k : ℕ) (x : A) → slice_get xs k ≡ Some x → Contains xs x
in_list xs k x at = (k, slice_get_within xs k x at, get_or_from_slice_get xs k x x at)

-- the books of a life have its site, and no more calls than it has room for
abbrev Fits : SiteRecord → PartRecord → Type 0
Fits site part = (part.site ≡ site) × (length part.entries ≤ site.room)

parts_fit : (site : SiteRecord) (start : ℕ) (before parts : List PartRecord) → AreParts site start before parts → All (Fits site) parts
parts_fit site start before [] are = All-nil (Fits site)
parts_fit site start before (part ∷ parts) are = All-cons (Fits site) part parts (are.0.one_site, are.0.room) (parts_fit site start (before ++ part ∷ []) parts are.1)

-- a list with no more behind it
nothing_more : {A : Type 0} (xs more : List A) → length (xs ++ more) ≤ length xs → xs ++ more ≡ xs
nothing_more xs [] le = append-nil xs
nothing_more xs (x ∷ more) le = absurd (omega (arith, length-append xs (x ∷ more)))

module _ (desk : DeskRecord) (passes : List PassRecord) (life : Life) (comes : ComesFrom desk passes life) where
  abbrev deeds : List Deed
  deeds = comes.deeds

  abbrev first : ℕ
  first = first_place desk

  joined_is : joined_book life ≡ with_entries (joined_book (first_life desk.book)) (desk.book.entries ++ entries_in deeds)
  joined_is = ap joined_book comes.made ∙ joined-after (first_life desk.book) deeds

  pub entries_are : (joined_book life).entries ≡ desk.book.entries ++ entries_in deeds
  entries_are = ap (λ (book : BookRecord). book.entries) joined_is

  pub new_count : length (joined_book life).entries ≡ first + calls_in deeds
  new_count =
      ap (λ (es : List Entry). length es) entries_are ∙ length-append desk.book.entries (entries_in deeds)
      ∙ ap (λ (n : ℕ). first + n) (length-entries_in deeds)

  site_is : life.last.site ≡ desk.book.site
  site_is = ap (λ (l : Life). l.last.site) comes.made ∙ site-after (first_life desk.book) deeds

  begins_with : take first (joined_book life).entries ≡ desk.book.entries
  begins_with = ap (take first) entries_are ∙ take-append_seam desk.book.entries (entries_in deeds)

  abbrev EntriesAre : PassRecord → Type 0
  EntriesAre pass = entries_by pass.number first deeds ≡ entries pass

  -- the place of a new entry is of the one pass whose deed it was
  abbrev IsPass : ℕ → Type 0
  IsPass number = (1 ≤ number) × (number ≤ desk.passes)

  made_once : (place : ℕ) → first ≤ place → place < length (joined_book life).entries → MadeOnce passes place
  made_once place low high =
      let author = author_at IsPass first place deeds low (omega (arith, new_count, high)) comes.signed in
      let one = just_one (λ (pass : PassRecord). eqb pass.number author.number) passes (comes.numbers author.number author.signed.0 author.signed.1) in
      let number : one.it.number ≡ author.number = eqb-true one.it.number author.number one.passes in
      let its = All-contains EntriesAre passes one.it comes.entries (in_list passes one.nth one.it one.there) in
      record {
        nth = one.nth;
        pass = one.it;
        there = one.there;
        made = subst (λ (es : List Placed). Contains (map place_of es) place) (ap (λ (n : ℕ). entries_by n first deeds) (sym number) ∙ its) author.made;
        only = λ other pass there inside.
            let those = All-contains EntriesAre passes pass comes.entries (in_list passes other pass there) in
            let by = author.only pass.number (subst (λ (es : List Placed). Contains (map place_of es) place) (sym those) inside) in
            one.only other pass there (eq-eqb pass.number author.number by);
      }

  module _ (pass : PassRecord) (of_desk : pass.desk ≡ desk) (later : List Deed) (begins : deeds ≡ pass.seen ++ later) (all : entries_by pass.number first deeds ≡ entries pass) where
    life_is : life_of pass.desk.book (pass.seen ++ later) ≡ life
    life_is = ap (λ (d : DeskRecord). life_of d.book (pass.seen ++ later)) of_desk ∙ ap (life_of desk.book) (sym begins) ∙ sym comes.made

    entries_stand : All (StandsAt (joined_book life)) (entries pass)
    entries_stand =
        subst (All (StandsAt (joined_book life))) all
        (subst (λ (es : List Entry). All (At es) (entries_by pass.number first deeds)) (sym entries_are) (entries_at pass.number desk.book.entries deeds))

    entries_fresh : All (λ place. first ≤ place) (places pass)
    entries_fresh = All-map (λ place. first ≤ place) place_of (entries pass) (subst (All (λ (p : Placed). first ≤ p.place)) all (places-from pass.number first deeds))

    entries_rise : IsStrictlyIncreasing (places pass)
    entries_rise = subst (λ (es : List Placed). IsStrictlyIncreasing (map place_of es)) all (places-rise pass.number first deeds)

    goal_stands : (count place inverter : ℕ) (goal : Goal) → MayTell pass count place inverter goal → TellsOf life place inverter goal
    goal_stands count place inverter goal may =
        let told = goals_after pass later count place inverter goal may in
        let book = ap joined_book life_is in
        record {
          within = subst (λ (b : BookRecord). place ≤ length b.entries) book told.within;
          told = subst (λ (b : BookRecord). IsGoalOf (with_entries b (take place b.entries)) inverter goal) book told.told;
        }

    full_stands : (was : WasFull pass) → IsFullBookOf life was.book
    full_stands was =
        let book = was.book in
        let grown = book-grows book pass.desk.book pass.seen later was.there in
        let there = subst (λ (l : Life). Contains (books_of l) (with_more book grown.0)) life_is grown.1 in
        let fits = All-contains (Fits life.last.site) (books_of life) (with_more book grown.0) (parts_fit life.last.site life.last.start [] (books_of life) comes.answered.parts) there in
        let room : pass.desk.book.site.room ≡ life.last.site.room = ap (λ (d : DeskRecord). d.book.site.room) of_desk ∙ ap (λ (s : SiteRecord). s.room) (sym site_is) in
        let same = nothing_more book.entries grown.0 (omega (arith, room, fits.1, was.full)) in
        let is : with_more book grown.0 ≡ book = ap (λ (es : List Entry). record { site = book.site; start = book.start; carry = book.carry; entries = es }) same in
        let calls = ap (λ (es : List Entry). length es) same in
        record {
          there = subst (Contains (books_of life)) is there;
          full = omega (arith, room, fits.1, was.full, calls, ap (λ (s : SiteRecord). s.room) fits.0);
        }

    rolls_stand : (number : ℕ) (book : PartRecord) → Ended pass number book → Contains life.ended book
    rolls_stand number book ended =
        let stands = stands_in pass.desk.book ended.before (ended.behind ++ later) pass.number in
        let through : (ended.before ++ Rolled pass.number ∷ []) ++ (ended.behind ++ later) ≡ pass.seen ++ later =
        append_assoc ended.before (Rolled pass.number ∷ []) (ended.behind ++ later) ∙ sym (append_assoc ended.before (Rolled pass.number ∷ ended.behind) later) ∙ ap (λ (ds : List Deed). ds ++ later) (sym ended.seen) in
        let parts = sym stands.there ∙ ap (λ (ds : List Deed). (life_of pass.desk.book ds).ended) through ∙ ap (λ (l : Life). l.ended) life_is in
        let last = (life_of pass.desk.book ended.before).last in
        subst (λ (part : PartRecord). Contains life.ended part) (sym ended.it)
        (subst (λ (ps : List PartRecord). Contains ps last) parts (Contains-append_right stands.before (last ∷ stands.behind) last (0, omega arith, refl)))

    full_life_stands : (calls : ℕ) → WasFullLife pass calls → calls ≤ length (joined_book life).entries
    full_life_stands calls was = subst (λ (l : Life). calls ≤ length (joined_book l).entries) life_is (lives_after pass later calls was).0

    stands : Stands desk life pass
    stands = record { entries = entries_stand; fresh = entries_fresh; rise = entries_rise; goals = goal_stands; full = full_stands; rolls = rolls_stand; full_life = full_life_stands }

  start_is : life.last.start ≡ desk.book.start
  start_is = ap (λ (book : BookRecord). book.start) joined_is

  pub is_made_up : IsMadeUp desk passes life
  is_made_up = record {
    site = site_is;
    start = start_is;
    begins = begins_with;
    once = made_once;
    each = λ k d lt. let seen = comes.begins k d lt in stands _ (comes.of_desk k d lt) seen.0 seen.1 (comes.entries k d lt);
  }
