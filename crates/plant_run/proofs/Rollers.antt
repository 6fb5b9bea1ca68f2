-- The books of a life that ended, where each roll among its deeds is of one pass.
use Rattle.std.proofs.Common.{◌≡◌, ◌≢◌, ℕ, ◌+◌, eqb, cond, Bool, true, false, List, [], ◌∷◌, ◌++◌, length, Some, refl, sym, ap, subst, ◌∙◌, append_assoc, length-append, arith, eq-eqb}
use Rattle.std.specs.Prelude.{All, slice_get}
use Rattle.std.proofs.lemmas.List.{append-nil, length_push}
use Rattle.std.proofs.lemmas.List.Elements.{All-head, All-tail}
use Rattle.std.proofs.lemmas.Option.{slice_get-get_or}
use Rattle.std.proofs.Math.Seq.{get_or-append_seam}
use Rattle.plant_book.specs.declared.book.Entry.{Entry}
use Rattle.plant_book.specs.Part.{PartRecord}
use Rattle.plant_book.specs.Life.{Life, entries_of, joined_book}
use Rattle.ledger_desk.proofs.Later.{get-append}
use Rattle.plant_desk.specs.declared.deed.Deed.{Deed}
use Rattle.plant_desk.specs.declared.deed.Deed.TheVariants.{Entered, Rolled}
use Rattle.plant_desk.specs.Deeds.{author, after, first_life, life_after, life_of, rolls_by}
use Rattle.plant_desk.proofs.Lives.{life_after-append, entries_of-push}
use Rattle.plant_run.specs.Operator.{ends_behind}
use mathlib.Core.Logic.{dite}
use native.Mathlib.Decide.{ℕ_discrete}

-- each roll among these deeds is of the pass of this number
abbrev pub RollsAre : (number : ℕ) → List Deed → Type 0
RollsAre number [] = Unit {0}
RollsAre number (Entered by entry ∷ deeds) = RollsAre number deeds
RollsAre number (Rolled by ∷ deeds) = (by ≡ number) × RollsAre number deeds

-- so are those among the first of them
pub first_rolls : (number : ℕ) (deeds later : List Deed) → RollsAre number (deeds ++ later) → RollsAre number deeds
first_rolls number [] later are = tt
first_rolls number (Entered by entry ∷ deeds) later are = first_rolls number deeds later are
first_rolls number (Rolled by ∷ deeds) later are = (are.0, first_rolls number deeds later are.1)

-- where places and perhaps one more are none, they are none
rest_none : (b : Bool) (place : ℕ) (places : List ℕ) → cond b (place ∷ places) places ≡ [] → places ≡ []
rest_none true place places none = absurd (omega (arith, ap (λ (l : List ℕ). length l) none))
rest_none false place places none = none

-- they are where no other pass that may sign has one
pub rolls_are : (number : ℕ) (Signed : ℕ → Type 0) (place : ℕ) (deeds : List Deed) → All (λ deed. Signed (author deed)) deeds
    → ((by : ℕ) → Signed by → by ≢ number → rolls_by by place deeds ≡ []) → RollsAre number deeds
rolls_are number Signed place [] signed none = tt
rolls_are number Signed place (Entered by entry ∷ deeds) signed none =
    rolls_are number Signed (place + 1) deeds (All-tail (λ deed. Signed (author deed)) (Entered by entry) deeds signed) none
rolls_are number Signed place (Rolled by ∷ deeds) signed none =
    let P : Deed → Type 0 = λ deed. Signed (author deed) in
    let rest : ℕ → List ℕ = λ other. rolls_by other place deeds in (
      dite (ℕ_discrete by number)
          (λ (same : by ≡ number). same)
          (λ (apart : by ≢ number).
          let one : place ∷ rest by ≡ [] =
          ap (λ (b : Bool). cond b (place ∷ rest by) (rest by)) (sym (eq-eqb by by refl))
          ∙ none by (All-head P (Rolled by) deeds signed) apart in
          absurd (omega (arith, ap (λ (l : List ℕ). length l) one))),
      rolls_are number Signed place deeds (All-tail P (Rolled by) deeds signed)
          (λ other is apart. rest_none (eqb by other) place (rest other) (none other is apart)),
    )

-- where books end, and one more
ends_more : (before : ℕ) (parts : List PartRecord) (part : PartRecord)
    → ends_behind before (parts ++ part ∷ []) ≡ ends_behind before parts ++ (before + length (entries_of parts ++ part.entries)) ∷ []
ends_more before [] part = refl
ends_more before (one ∷ parts) part =
    let here = before + length one.entries in
    let behind = entries_of parts ++ part.entries in
    let sum : here + length behind ≡ before + length ((one.entries ++ entries_of parts) ++ part.entries) =
    omega (
      arith,
      length-append (one.entries ++ entries_of parts) part.entries,
      length-append one.entries (entries_of parts),
      length-append (entries_of parts) part.entries,
    ) in
    ap (λ (l : List ℕ). here ∷ l) (ends_more here parts part) ∙ ap (λ (n : ℕ). here ∷ (ends_behind here parts ++ n ∷ [])) sum

-- the ends of the books of a life are the places of that pass's rolls
pub ends_after : (number : ℕ) (life : Life) (deeds : List Deed) → RollsAre number deeds
    → ends_behind 0 (life_after life deeds).ended ≡ ends_behind 0 life.ended ++ rolls_by number (length (joined_book life).entries) deeds
ends_after number life [] are = sym (append-nil (ends_behind 0 life.ended))
ends_after number life (Entered by entry ∷ deeds) are =
    let more : length (entries_of life.ended ++ (life.last.entries ++ entry ∷ [])) ≡ length (entries_of life.ended ++ life.last.entries) + 1 =
    omega (
      arith,
      length-append (entries_of life.ended) (life.last.entries ++ entry ∷ []),
      length_push life.last.entries entry,
      length-append (entries_of life.ended) life.last.entries,
    ) in
    ends_after number (after life (Entered by entry)) deeds are
    ∙ ap (λ (n : ℕ). ends_behind 0 life.ended ++ rolls_by number n deeds) more
ends_after number life (Rolled by ∷ deeds) are =
    let place = length (joined_book life).entries in
    let old = ends_behind 0 life.ended in
    let rest = rolls_by number place deeds in
    let same : length (entries_of (life.ended ++ life.last ∷ []) ++ []) ≡ place =
    ap (λ (es : List Entry). length es) (append-nil (entries_of (life.ended ++ life.last ∷ [])) ∙ entries_of-push life.ended life.last) in
    let sum : 0 + place ≡ place = omega arith in
    ends_after number (after life (Rolled by)) deeds are.1
    ∙ ap (λ (n : ℕ). ends_behind 0 (life.ended ++ life.last ∷ []) ++ rolls_by number n deeds) same
    ∙ ap (λ (l : List ℕ). l ++ rest) (ends_more 0 life.ended life.last) ∙ append_assoc old ((0 + place) ∷ []) rest
    ∙ ap (λ (n : ℕ). old ++ n ∷ rest) sum ∙ ap (λ (b : Bool). old ++ cond b (place ∷ rest) rest) (sym (eq-eqb by number are.0))

-- a life has a book more that ended for each
ended_count : (number place : ℕ) (life : Life) (deeds : List Deed) → RollsAre number deeds
    → length (life_after life deeds).ended ≡ length life.ended + length (rolls_by number place deeds)
ended_count number place life [] are = omega arith
ended_count number place life (Entered by entry ∷ deeds) are = ended_count number (place + 1) (after life (Entered by entry)) deeds are
ended_count number place life (Rolled by ∷ deeds) are =
    let rest = rolls_by number place deeds in
    omega (
      arith,
      ended_count number place (after life (Rolled by)) deeds are.1,
      length_push life.ended life.last,
      ap (λ (b : Bool). length (cond b (place ∷ rest) rest)) (eq-eqb by number are.0),
    )

-- a book that ended stays where it is
place_stays : (life : Life) (deeds : List Deed) (k : ℕ) (part : PartRecord) → slice_get life.ended k ≡ Some part
    → slice_get (life_after life deeds).ended k ≡ Some part
place_stays life [] k part is = is
place_stays life (Entered by entry ∷ deeds) k part is = place_stays (after life (Entered by entry)) deeds k part is
place_stays life (Rolled by ∷ deeds) k part is =
    place_stays (after life (Rolled by)) deeds k part (get-append life.ended (life.last ∷ []) k part is)

-- the last of a list stands behind as many as are before it
last_there : (parts : List PartRecord) (part : PartRecord) → slice_get (parts ++ part ∷ []) (length parts) ≡ Some part
last_there parts part =
    slice_get-get_or (parts ++ part ∷ []) (length parts) part (omega (arith, length_push parts part))
    ∙ ap Some (get_or-append_seam parts part [] part)

-- the book that a roll ended stands behind one for each roll before it
pub roll_ended : (number place by : ℕ) (book : PartRecord) (before behind : List Deed) → RollsAre number before
    → slice_get (life_of book (before ++ Rolled by ∷ behind)).ended (length (rolls_by number place before)) ≡ Some (life_of book before).last
roll_ended number place by book before behind are =
    let life = life_of book before in
    let count : length life.ended ≡ length (rolls_by number place before) = omega (arith, ended_count number place (first_life book) before are) in
    let whole : life_of book (before ++ Rolled by ∷ behind) ≡ life_after (after life (Rolled by)) behind =
    life_after-append (first_life book) before (Rolled by ∷ behind) in
    ap (λ (l : Life). slice_get l.ended (length (rolls_by number place before))) whole
    ∙ place_stays (after life (Rolled by)) behind (length (rolls_by number place before)) life.last
    (subst (λ (n : ℕ). slice_get (life.ended ++ life.last ∷ []) n ≡ Some life.last) count (last_there life.ended life.last))
