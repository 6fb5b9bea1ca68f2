-- A test that tells the entries of one pass from those of the others finds just these.
use Rattle.std.proofs.Common.{◌≡◌, ◌≢◌, ℕ, zero, suc, ◌+◌, ◌-◌, ◌<◌, ◌≤◌, eqb, ltb, cond, Bool, true, false, List, [], ◌∷◌, ◌++◌, map, take, drop, filter, refl, sym, ap, subst, ◌∙◌, length-append, take-append-drop, arith, eq-eqb, eqb-true, ne_eqb}
use Rattle.std.specs.Prelude.{All, Contains}
use Rattle.std.proofs.lemmas.List.{append-nil, length-map, get_or-map, get_or_append_left, take-map}
use Rattle.std.proofs.lemmas.Bool.{lt-ltb, le-ltb}
use Rattle.std.proofs.Math.Seq.{take-append_seam, take-append-add, drop-append_seam}
use Rattle.std.proofs.lemmas.List.Elements.{All-head, All-tail, All-contains, Contains-append_left, Contains-append_right, filter-append}
use Rattle.plant_book.specs.declared.book.Entry.{Entry}
use Rattle.plant_book.specs.Life.{Life, joined_book}
use Rattle.plant_ledger.specs.declared.plant.Goal.{Goal}
use Rattle.plant_desk.specs.declared.deed.Deed.{Deed}
use Rattle.plant_desk.specs.declared.deed.Deed.TheVariants.{Entered, Rolled}
use Rattle.plant_desk.specs.Deeds.{author, Placed, entries_by}
use Rattle.plant_desk.specs.Passes.{DeskRecord, PassRecord, first_place, entries, ComesFrom}
use Rattle.plant_desk.specs.DeskOf.{MayTell}
use Rattle.plant_desk.specs.Standing.{Stands, made, new_entries, first_joined, TellsApart}
use Rattle.plant_desk.proofs.Passes.{calls_in, entries_by-append}
use Rattle.plant_desk.proofs.Later.{entries_in, places-from, places-below}
use Rattle.plant_desk.proofs.Placing.{length-entries_in}
use Rattle.plant_desk.proofs.Standing.{entries_are, new_count, is_made_up, just_one, in_list}
use mathlib.Core.Logic.{dite}
use native.Mathlib.Decide.{ℕ_discrete}

abbrev entry_at : Placed → Entry
entry_at placed = placed.entry

entries_in-append : (deeds later : List Deed) → entries_in (deeds ++ later) ≡ entries_in deeds ++ entries_in later
entries_in-append [] later = refl
entries_in-append (Entered by entry ∷ deeds) later = ap (λ (es : List Entry). entry ∷ es) (entries_in-append deeds later)
entries_in-append (Rolled by ∷ deeds) later = entries_in-append deeds later

-- the test is right for each entry of a pass that may sign
abbrev IsRight : (test : Entry → Bool) → (number : ℕ) → (Signed : ℕ → Type 0) → (place : ℕ) → List Deed → Type 0
IsRight test number Signed place deeds = (by : ℕ) (p : Placed) → Signed by → Contains (entries_by by place deeds) p → test p.entry ≡ eqb by number

with_first : (b : Bool) (x : Placed) (xs : List Placed) (p : Placed) → Contains xs p → Contains (cond b (x ∷ xs) xs) p
with_first true x xs p inside = Contains-append_right (x ∷ []) xs p inside
with_first false x xs p inside = inside

entries-first : (b : Bool) (x : Placed) (xs : List Placed) → cond b (x.entry ∷ map entry_at xs) (map entry_at xs) ≡ map entry_at (cond b (x ∷ xs) xs)
entries-first true x xs = refl
entries-first false x xs = refl

filter_is : (test : Entry → Bool) (number : ℕ) (Signed : ℕ → Type 0) (place : ℕ) (deeds : List Deed) → All (λ deed. Signed (author deed)) deeds → IsRight test number Signed place deeds
    → filter test (entries_in deeds) ≡ map entry_at (entries_by number place deeds)
filter_is test number Signed place [] signed right = refl
filter_is test number Signed place (Entered by entry ∷ deeds) signed right =
    let x : Placed = record { place = place; entry = entry } in
    let rest : ℕ → List Placed = λ n. entries_by n (place + 1) deeds in
    let P : Deed → Type 0 = λ deed. Signed (author deed) in
    let own : Contains (entries_by by place (Entered by entry ∷ deeds)) x = subst (λ (b : Bool). Contains (cond b (x ∷ rest by) (rest by)) x) (sym (eq-eqb by by refl)) (0, omega arith, refl) in
    let tail = filter_is test number Signed (place + 1) deeds (All-tail P (Entered by entry) deeds signed) (λ n p is inside. right n p is (with_first (eqb by n) x (rest n) p inside)) in
    ap (λ (b : Bool). cond b (entry ∷ filter test (entries_in deeds)) (filter test (entries_in deeds))) (right by x (All-head P (Entered by entry) deeds signed) own)
    ∙ ap (λ (es : List Entry). cond (eqb by number) (entry ∷ es) es) tail ∙ entries-first (eqb by number) x (rest number)
filter_is test number Signed place (Rolled by ∷ deeds) signed right = filter_is test number Signed place deeds (All-tail (λ deed. Signed (author deed)) (Rolled by) deeds signed) right

-- the deeds up to a call, and those behind
pub record SplitAt (deeds : List Deed) (count : ℕ) : Type 0 where
  pub before : List Deed
  pub behind : List Deed
  pub all : deeds ≡ before ++ behind
  pub calls : calls_in before ≡ count

split_at : (deeds : List Deed) (count : ℕ) → count ≤ calls_in deeds → SplitAt deeds count
split_at deeds zero le = record { before = []; behind = deeds; all = refl; calls = refl }
split_at [] (suc count) le = absurd (omega arith)
split_at (Entered by entry ∷ deeds) (suc count) le =
    let rest = split_at deeds count (omega arith) in
    record { before = Entered by entry ∷ rest.before; behind = rest.behind; all = ap (λ (ds : List Deed). Entered by entry ∷ ds) rest.all; calls = omega (arith, rest.calls) }
split_at (Rolled by ∷ deeds) (suc count) le =
    let rest = split_at deeds (suc count) le in
    record { before = Rolled by ∷ rest.before; behind = rest.behind; all = ap (λ (ds : List Deed). Rolled by ∷ ds) rest.all; calls = rest.calls }

-- what passes a test stands before what doesn't
module _ {A : Type 0} (test : A → Bool) where
  all_pass : (xs : List A) → All (λ x. test x ≡ true) xs → filter test xs ≡ xs
  all_pass [] are = refl
  all_pass (x ∷ xs) are =
      ap (λ (b : Bool). cond b (x ∷ filter test xs) (filter test xs)) (All-head (λ y. test y ≡ true) x xs are) ∙ ap (λ (ys : List A). x ∷ ys) (all_pass xs (All-tail (λ y. test y ≡ true) x xs are))

  none_pass : (xs : List A) → All (λ x. test x ≡ false) xs → filter test xs ≡ []
  none_pass [] are = refl
  none_pass (x ∷ xs) are =
      ap (λ (b : Bool). cond b (x ∷ filter test xs) (filter test xs)) (All-head (λ y. test y ≡ false) x xs are) ∙ none_pass xs (All-tail (λ y. test y ≡ false) x xs are)

  first_pass : (xs ys : List A) → All (λ x. test x ≡ true) xs → All (λ y. test y ≡ false) ys → filter test (xs ++ ys) ≡ xs
  first_pass xs ys front rest = filter-append test xs ys ∙ ap (λ (zs : List A). zs ++ filter test ys) (all_pass xs front) ∙ ap (λ (zs : List A). xs ++ zs) (none_pass ys rest) ∙ append-nil xs

-- the entries below a place are those of the deeds up to it
below_is : (number place count some_made : ℕ) (deeds behind : List Deed) → calls_in deeds ≡ count
    → All (λ (p : Placed). p.place < place + count) (take some_made (entries_by number place (deeds ++ behind))) → All (λ (p : Placed). place + count ≤ p.place) (drop some_made (entries_by number place (deeds ++ behind)))
    → take some_made (entries_by number place (deeds ++ behind)) ≡ entries_by number place deeds
below_is number place count some_made deeds behind calls held later =
    let all = entries_by number place (deeds ++ behind) in
    let here = entries_by number place deeds in
    let rest = entries_by number (place + calls_in deeds) behind in
    let end = place + count in
    let test : Placed → Bool = λ p. ltb p.place end in
    let below = places-below number place deeds in
    let past = places-from number (place + calls_in deeds) behind in
    sym (first_pass test (take some_made all) (drop some_made all) (λ k d lt. lt-ltb _ end (held k d lt)) (λ k d lt. le-ltb _ end (later k d lt)))
    ∙ ap (filter test) (take-append-drop some_made all ∙ entries_by-append number place deeds behind)
    ∙ first_pass test here rest (λ k d lt. let it = below k d lt in lt-ltb _ end (omega (arith, calls, it))) (λ k d lt. let it = past k d lt in le-ltb _ end (omega (arith, calls, it)))

in_map : {A B : Type 0} (f : A → B) (xs : List A) (x : A) → Contains xs x → Contains (map f xs) (f x)
in_map f xs x (k, lt, is) = (k, omega (arith, lt, length-map xs f), get_or-map f xs k x (f x) lt ∙ ap f is)

All-front : {A : Type 0} (P : A → Type 0) (xs ys : List A) → All P (xs ++ ys) → All P xs
All-front P xs ys all k d lt = subst P (get_or_append_left xs ys d k lt) (all k d (omega (arith, length-append xs ys)))

module _ (desk : DeskRecord) (passes : List PassRecord) (life : Life) (pass : PassRecord) (test : Entry → Bool) (comes : ComesFrom desk passes life) (there : Contains passes pass)
    (apart : TellsApart test pass passes) where
  abbrev deeds : List Deed
  deeds = comes.deeds

  abbrev first : ℕ
  first = first_place desk

  abbrev EntriesAre : PassRecord → Type 0
  EntriesAre one = entries_by one.number first deeds ≡ entries one

  own_entries : entries_by pass.number first deeds ≡ entries pass
  own_entries = All-contains EntriesAre passes pass comes.entries there

  -- its desk's first place is that of the desk
  first_same : first_place pass.desk ≡ first
  first_same = ap first_place (All-contains (λ (one : PassRecord). one.desk ≡ desk) passes pass comes.of_desk there)

  abbrev IsPass : ℕ → Type 0
  IsPass number = (1 ≤ number) × (number ≤ desk.passes)

  -- the test is right for each entry among the deeds
  told_apart : IsRight test pass.number IsPass first deeds
  told_apart by p signed inside =
      let n = pass.number in
      dite (ℕ_discrete by n)
      (λ (own : by ≡ n).
      let its = subst (λ (es : List Placed). Contains es p) (ap (λ (m : ℕ). entries_by m first deeds) own ∙ own_entries) inside in
      All-contains (λ (e : Entry). test e ≡ true) (made pass) p.entry apart.own (in_map entry_at (entries pass) p its) ∙ sym (eq-eqb by n own))
      (λ (isnt : by ≢ n).
      let one = just_one (λ (o : PassRecord). eqb o.number by) passes (comes.numbers by signed.0 signed.1) in
      let number : one.it.number ≡ by = eqb-true one.it.number by one.passes in
      let in_passes = in_list passes one.nth one.it one.there in
      let its = subst (λ (es : List Placed). Contains es p) (ap (λ (m : ℕ). entries_by m first deeds) (sym number) ∙ All-contains EntriesAre passes one.it comes.entries in_passes) inside in
      All-contains (λ (e : Entry). test e ≡ false) (made one.it) p.entry (apart.others one.it in_passes (λ is. isnt (sym number ∙ is))) (in_map entry_at (entries one.it) p its)
      ∙ sym (ne_eqb by n isnt))

  pub all_found : filter test (new_entries desk (joined_book life)) ≡ made pass
  all_found =
      ap (λ (es : List Entry). filter test (drop first es)) (entries_are desk passes life comes) ∙ ap (filter test) (drop-append_seam desk.book.entries (entries_in deeds))
      ∙ filter_is test pass.number IsPass first deeds comes.signed told_apart ∙ ap (map entry_at) own_entries

  pub first_found : (count place inverter : ℕ) (goal : Goal) → MayTell pass count place inverter goal → filter test (new_entries desk (first_joined life place)) ≡ take count (made pass)
  first_found count place inverter goal may =
      let number = pass.number in
      let within = (All-contains (Stands desk life) passes pass (is_made_up desk passes life comes).each there).goals count place inverter goal may in
      let n = place - first in
      let place_is : place ≡ first + n = omega (arith, may.begun, first_same) in
      let split = split_at deeds n (omega (arith, within.within, new_count desk passes life comes)) in
      let here = entries_by number first split.before in
      let whole : entries_by number first (split.before ++ split.behind) ≡ entries pass = ap (entries_by number first) (sym split.all) ∙ own_entries in
      let new = entries_in deeds in
      let old = desk.book.entries in
      let front_is : take n new ≡ entries_in split.before =
      ap (take n) (ap entries_in split.all ∙ entries_in-append split.before split.behind)
      ∙ ap (λ (m : ℕ). take m (entries_in split.before ++ entries_in split.behind)) (sym (length-entries_in split.before ∙ split.calls)) ∙ take-append_seam (entries_in split.before) (entries_in split.behind) in
      let signed = All-front (λ deed. IsPass (author deed)) split.before split.behind (subst (All (λ deed. IsPass (author deed))) split.all comes.signed) in
      let right : IsRight test number IsPass first split.before =
      λ by p is inside. told_apart by p is
      (subst (λ (es : List Placed). Contains es p) (sym (ap (entries_by by first) split.all ∙ entries_by-append by first split.before split.behind))
      (Contains-append_left (entries_by by first split.before) (entries_by by (first + calls_in split.before) split.behind) p inside)) in
      let held = subst (λ (es : List Placed). All (λ (p : Placed). p.place < first + n) (take count es)) (sym whole) (subst (λ (m : ℕ). All (λ (p : Placed). p.place < m) (take count (entries pass))) place_is may.held) in
      let later = subst (λ (es : List Placed). All (λ (p : Placed). first + n ≤ p.place) (drop count es)) (sym whole) (subst (λ (m : ℕ). All (λ (p : Placed). m ≤ p.place) (drop count (entries pass))) place_is may.none_later) in
      ap (λ (es : List Entry). filter test (drop first (take place es))) (entries_are desk passes life comes)
      ∙ ap (λ (m : ℕ). filter test (drop first (take m (old ++ new)))) place_is
      ∙ ap (λ (es : List Entry). filter test (drop first es)) (take-append-add old new n)
      ∙ ap (filter test) (drop-append_seam old (take n new) ∙ front_is)
      ∙ filter_is test number IsPass first split.before signed right
      ∙ ap (map entry_at) (sym (below_is number first n count split.before split.behind split.calls held later) ∙ ap (take count) whole)
      ∙ sym (take-map entry_at count (entries pass))
