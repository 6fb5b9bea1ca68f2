-- What the desk of a pass meant, and the tests that were passed, once the pass has seen more.
use Rattle.std.proofs.Common.{◌≡◌, ℕ, ◌+◌, ◌<◌, ◌≤◌, cond, eqb, Bool, true, false, List, [], ◌∷◌, ◌++◌, length, take, drop, sym, ap, subst, ◌∙◌, ⊎_elim, append_assoc, length-append, arith}
use Rattle.std.specs.Prelude.{All, Contains}
use Rattle.std.proofs.lemmas.List.{append-nil, take-append-le, drop-append-le}
use Rattle.std.proofs.lemmas.List.Elements.{All-nil, All-cons, All-append, All-weaker, Contains-append_left, Contains-push, Contains-push_cases}
use Rattle.plant_book.specs.declared.book.Entry.{Entry}
use Rattle.plant_book.specs.Book.{BookRecord}
use Rattle.plant_book.specs.Answered.{with_entries}
use Rattle.plant_book.specs.Part.{PartRecord}
use Rattle.plant_book.specs.Life.{Life, entries_of, joined_book}
use Rattle.plant_ledger.specs.Plant.{with_one}
use Rattle.plant_ledger.specs.declared.plant.Goal.{Goal}
use Rattle.ledger_desk.specs.Desk.{TestsLast}
use Rattle.ledger_desk.specs.Plain.{IsGoalOf}
use Rattle.plant_desk.specs.declared.deed.Deed.{Deed}
use Rattle.plant_desk.specs.declared.deed.Deed.TheVariants.{Entered, Rolled}
use Rattle.plant_desk.specs.Deeds.{first_life, life_after, life_of, Placed, entries_by}
use Rattle.plant_desk.specs.Deeds as lives
use Rattle.plant_desk.specs.Passes.{PassRecord, seen_book, first_place, after, entries}
use Rattle.plant_desk.specs.DeskOf.{front, first_entries, MayTell, books_of, WasFull, Ended, WasFullLife, tests_of, identity}
use Rattle.plant_desk.proofs.Lives.{life_after-append, entries_of-push, front-le}
use Rattle.plant_desk.proofs.Passes.{calls_in, front-calls_in, entries_by-append}

-- the entries among deeds
abbrev pub entries_in : List Deed → List Entry
entries_in [] = []
entries_in (Entered by entry ∷ deeds) = entry ∷ entries_in deeds
entries_in (Rolled by ∷ deeds) = entries_in deeds

-- the joined book goes on with them
pub joined-after : (life : Life) (deeds : List Deed) → joined_book (life_after life deeds) ≡ with_entries (joined_book life) ((joined_book life).entries ++ entries_in deeds)
joined-after life [] = ap (with_entries (joined_book life)) (sym (append-nil (joined_book life).entries))
joined-after life (Entered by entry ∷ deeds) =
    let book = joined_book life in
    joined-after (lives.after life (Entered by entry)) deeds
    ∙ ap (λ (es : List Entry). with_entries book (es ++ entries_in deeds)) (sym (append_assoc (entries_of life.ended) life.last.entries (entry ∷ [])))
    ∙ ap (with_entries book) (append_assoc book.entries (entry ∷ []) (entries_in deeds))
joined-after life (Rolled by ∷ deeds) =
    joined-after (lives.after life (Rolled by)) deeds
    ∙ ap (λ (es : List Entry). with_entries (joined_book life) (es ++ entries_in deeds)) (append-nil (entries_of (life.ended ++ life.last ∷ [])) ∙ entries_of-push life.ended life.last)

-- the places of a pass's entries are those from the first on, below the front
pub one_more : {A : Type 0} (P : A → Type 0) (b : Bool) (x : A) (xs : List A) → P x → All P xs → All P (cond b (x ∷ xs) xs)
one_more P true x xs here rest = All-cons P x xs here rest
one_more P false x xs here rest = rest

pub places-from : (number place : ℕ) (deeds : List Deed) → All (λ (p : Placed). place ≤ p.place) (entries_by number place deeds)
places-from number place [] = All-nil (λ (p : Placed). place ≤ p.place)
places-from number place (Entered by entry ∷ deeds) =
    let P : Placed → Type 0 = λ p. place ≤ p.place in
    one_more P (eqb by number) (record { place = place; entry = entry }) (entries_by number (place + 1) deeds) (omega arith)
    (All-weaker (λ (p : Placed). place + 1 ≤ p.place) P (λ p le. omega arith) (entries_by number (place + 1) deeds) (places-from number (place + 1) deeds))
places-from number place (Rolled by ∷ deeds) = places-from number place deeds

pub places-below : (number place : ℕ) (deeds : List Deed) → All (λ (p : Placed). p.place < place + calls_in deeds) (entries_by number place deeds)
places-below number place [] = All-nil (λ (p : Placed). p.place < place + 0)
places-below number place (Entered by entry ∷ deeds) =
    let P : Placed → Type 0 = λ p. p.place < place + (calls_in deeds + 1) in
    one_more P (eqb by number) (record { place = place; entry = entry }) (entries_by number (place + 1) deeds) (omega arith)
    (All-weaker (λ (p : Placed). p.place < place + 1 + calls_in deeds) P (λ p lt. omega arith) (entries_by number (place + 1) deeds) (places-below number (place + 1) deeds))
places-below number place (Rolled by ∷ deeds) = places-below number place deeds

-- a book of a life with more entries at its end is one of what the life goes on to
abbrev pub with_more : PartRecord → List Entry → PartRecord
with_more book more = record { site = book.site; start = book.start; carry = book.carry; entries = book.entries ++ more }

abbrev pub Grown : PartRecord → Life → Type 0
Grown book life = (more : List Entry) × Contains (books_of life) (with_more book more)

grown-entered : (book : PartRecord) (by : ℕ) (entry : Entry) (life : Life) → Grown book life → Grown book (lives.after life (Entered by entry))
grown-entered book by entry life (more, there) =
    let grown = with_one life.last entry in
    ⊎_elim
    (λ (one : Contains life.ended (with_more book more)). (more, Contains-append_left life.ended (grown ∷ []) (with_more book more) one))
    (λ (last : life.last ≡ with_more book more).
    let is : grown ≡ with_more book (more ++ entry ∷ []) =
    ap (λ (part : PartRecord). with_one part entry) last ∙ ap (λ (es : List Entry). record { site = book.site; start = book.start; carry = book.carry; entries = es }) (append_assoc book.entries more (entry ∷ [])) in
    (more ++ entry ∷ [], subst (Contains (books_of (lives.after life (Entered by entry)))) is (Contains-push life.ended grown)))
    (Contains-push_cases life.ended life.last (with_more book more) there)

grown-after : (book : PartRecord) (life : Life) (deeds : List Deed) → Grown book life → Grown book (life_after life deeds)
grown-after book life [] grown = grown
grown-after book life (Entered by entry ∷ deeds) grown = grown-after book (lives.after life (Entered by entry)) deeds (grown-entered book by entry life grown)
grown-after book life (Rolled by ∷ deeds) grown =
    let rolled = lives.after life (Rolled by) in
    grown-after book rolled deeds (grown.0, Contains-append_left rolled.ended (rolled.last ∷ []) (with_more book grown.0) grown.1)

pub book-grows : (book plant : PartRecord) (deeds later : List Deed) → Contains (books_of (life_of plant deeds)) book → Grown book (life_of plant (deeds ++ later))
book-grows book plant deeds later there =
    let same : book ≡ with_more book [] = ap (λ (es : List Entry). record { site = book.site; start = book.start; carry = book.carry; entries = es }) (sym (append-nil book.entries)) in
    let first : Grown book (life_of plant deeds) = ([], subst (Contains (books_of (life_of plant deeds))) same there) in
    subst (Grown book) (sym (life_after-append (first_life plant) deeds later)) (grown-after book (life_of plant deeds) later first)

module _ (old : PassRecord) (more : List Deed) where
  abbrev new : PassRecord
  new = after old more

  book_later : seen_book new ≡ with_entries (seen_book old) ((seen_book old).entries ++ entries_in more)
  book_later = ap joined_book (life_after-append (first_life old.desk.book) old.seen more) ∙ joined-after (life_of old.desk.book old.seen) more

  front_later : front old ≤ front new
  front_later = front-le old.desk.book old.seen more

  first_same : (place : ℕ) → place ≤ front old → first_entries new place ≡ first_entries old place
  first_same place le =
      let book = seen_book old in
      ap (λ (b : BookRecord). with_entries b (take place b.entries)) book_later
      ∙ ap (with_entries book) (take-append-le place book.entries (entries_in more) le)

  abbrev fresh : List Placed
  fresh = entries_by old.number (first_place old.desk + calls_in old.seen) more

  entries_later : entries new ≡ entries old ++ fresh
  entries_later = entries_by-append old.number (first_place old.desk) old.seen more

  pub goals_after : (made place inverter : ℕ) (goal : Goal) → MayTell old made place inverter goal → MayTell new made place inverter goal
  goals_after made place inverter goal was =
      let Held : Placed → Type 0 = λ p. p.place < place in
      let Later : Placed → Type 0 = λ p. place ≤ p.place in
      let start = first_place old.desk + calls_in old.seen in
      let from : place ≤ start = omega (arith, was.within, front-calls_in old.desk.book old.seen) in
      let of_fresh : All Later fresh = All-weaker (λ (p : Placed). start ≤ p.place) Later (λ p le. omega (arith, from, le)) fresh (places-from old.number start more) in
      record {
        counted = omega (arith, was.counted, ap (λ (es : List Placed). length es) entries_later, length-append (entries old) fresh);
        begun = was.begun;
        within = omega (arith, was.within, front_later);
        held = subst (All Held) (sym (ap (take made) entries_later ∙ take-append-le made (entries old) fresh was.counted)) was.held;
        none_later = subst (All Later) (sym (ap (drop made) entries_later ∙ drop-append-le made (entries old) fresh was.counted))
            (All-append Later (drop made (entries old)) fresh was.none_later of_fresh);
        told = subst (λ (b : BookRecord). IsGoalOf b inverter goal) (sym (first_same place was.within)) was.told;
      }

  full_after : WasFull old → WasFull new
  full_after was =
      let found = book-grows was.book old.desk.book old.seen more was.there in
      record { book = with_more was.book found.0; there = found.1; full = omega (arith, was.full, length-append was.book.entries found.0) }

  pub rolls_after : (number : ℕ) (book : PartRecord) → Ended old number book → Ended new number book
  rolls_after number book was = record {
    before = was.before;
    behind = was.behind ++ more;
    seen = ap (λ (ds : List Deed). ds ++ more) was.seen ∙ append_assoc was.before (Rolled old.number ∷ was.behind) more;
    counted = was.counted;
    it = was.it;
  }

  pub lives_after : (calls : ℕ) → WasFullLife old calls → WasFullLife new calls
  lives_after calls was = (omega (arith, was.0, front_later), was.1)

  tests_after : TestsLast (tests_of old) (tests_of new)
  tests_after = record { goals = goals_after; full = full_after; rolls = rolls_after; lives = lives_after }

-- a pass that has seen more
pub record IsLater (old new : PassRecord) : Type 0 where
  pub more : List Deed
  pub seen : new ≡ after old more

module _ (old new : PassRecord) (later : IsLater old new) where
  pub front_lasts : front old ≤ front new
  front_lasts = subst (λ (p : PassRecord). front old ≤ front p) (sym later.seen) (front_later old later.more)

  pub tests_last : TestsLast (tests_of old) (tests_of new)
  tests_last = subst (λ (p : PassRecord). TestsLast (tests_of old) (tests_of p)) (sym later.seen) (tests_after old later.more)

  pub kept_lasts : identity new ≡ identity old
  kept_lasts = ap identity later.seen
