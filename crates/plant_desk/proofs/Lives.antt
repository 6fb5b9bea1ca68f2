-- The life of a desk, one deed at a time.
use Rattle.std.proofs.Common.{◌≡◌, ℕ, ◌+◌, ◌<◌, ◌≤◌, List, [], ◌∷◌, ◌++◌, length, Some, None, refl, sym, ap, subst, ◌∙◌, append_assoc, arith, length-append}
use Rattle.std.proofs.lemmas.List.{append-nil}
use Rattle.plant_book.specs.declared.call.Call.{Call}
use Rattle.plant_book.specs.declared.call.Reply.{Reply}
use Rattle.plant_book.specs.declared.book.Entry.{Entry}
use Rattle.plant_book.specs.Site.{SiteRecord}
use Rattle.plant_book.specs.Part.{PartRecord, book_behind}
use Rattle.plant_book.specs.Answered.{IsBook}
use Rattle.plant_book.specs.Carry.{carry_of, EachBefore}
use Rattle.plant_book.specs.Life.{Life, IsLife, IsPart, AreParts, carry_behind, entries_of, joined_book}
use Rattle.plant_book.proofs.Behind.{behind_nothing}
use Rattle.plant_book.proofs.Lives.{life_is_behind}
use Rattle.plant_ledger.specs.Plant.{IsKept, GoesOn, Rolls, entered, entry_of, next_book}
use Rattle.plant_desk.specs.declared.deed.Deed.{Deed}
use Rattle.plant_desk.specs.declared.deed.Deed.TheVariants.{Entered, Rolled}
use Rattle.plant_desk.specs.Deeds.{after, life_after, first_life, life_of, front, base}

pub life_after-append : (life : Life) (deeds later : List Deed) → life_after life (deeds ++ later) ≡ life_after (life_after life deeds) later
life_after-append life [] later = refl
life_after-append life (deed ∷ deeds) later = life_after-append (after life deed) deeds later

pub life_of-push : (book : PartRecord) (deeds : List Deed) (deed : Deed) → life_of book (deeds ++ deed ∷ []) ≡ after (life_of book deeds) deed
life_of-push book deeds deed = life_after-append (first_life book) deeds (deed ∷ [])

pub entries_of-append : (ended later : List PartRecord) → entries_of (ended ++ later) ≡ entries_of ended ++ entries_of later
entries_of-append [] later = refl
entries_of-append (part ∷ ended) later = ap (λ (es : List Entry). part.entries ++ es) (entries_of-append ended later) ∙ sym (append_assoc part.entries (entries_of ended) (entries_of later))

pub entries_of-push : (ended : List PartRecord) (part : PartRecord) → entries_of (ended ++ part ∷ []) ≡ entries_of ended ++ part.entries
entries_of-push ended part = entries_of-append ended (part ∷ []) ∙ ap (λ (es : List Entry). entries_of ended ++ es) (append-nil part.entries)

-- the last of parts in turn is a part behind those before it, and another one may stand there
last_part : (site : SiteRecord) (start : ℕ) (before ended : List PartRecord) (part : PartRecord) → AreParts site start before (ended ++ part ∷ []) → IsPart site start (before ++ ended) part
last_part site start before [] part are = subst (λ (ps : List PartRecord). IsPart site start ps part) (sym (append-nil before)) are.0
last_part site start before (one ∷ ended) part are =
    subst (λ (ps : List PartRecord). IsPart site start ps part) (append_assoc before (one ∷ []) ended) (last_part site start (before ++ one ∷ []) ended part are.1)

other_part : (site : SiteRecord) (start : ℕ) (before ended : List PartRecord) (part other : PartRecord) → AreParts site start before (ended ++ part ∷ []) → IsPart site start (before ++ ended) other
    → AreParts site start before (ended ++ other ∷ [])
other_part site start before [] part other are is = (subst (λ (ps : List PartRecord). IsPart site start ps other) (append-nil before) is, tt)
other_part site start before (one ∷ ended) part other are is =
    (are.0, other_part site start (before ++ one ∷ []) ended part other are.1 (subst (λ (ps : List PartRecord). IsPart site start ps other) (sym (append_assoc before (one ∷ []) ended)) is))

one_part_more : (site : SiteRecord) (start : ℕ) (before parts : List PartRecord) (part : PartRecord) → AreParts site start before parts → IsPart site start (before ++ parts) part
    → AreParts site start before (parts ++ part ∷ [])
one_part_more site start before [] part are is = (subst (λ (ps : List PartRecord). IsPart site start ps part) (append-nil before) is, tt)
one_part_more site start before (one ∷ parts) part are is =
    (are.0, one_part_more site start (before ++ one ∷ []) parts part are.1 (subst (λ (ps : List PartRecord). IsPart site start ps part) (sym (append_assoc before (one ∷ []) parts)) is))

carry_behind-push : (site : SiteRecord) (start : ℕ) (ended : List PartRecord) (part : PartRecord)
    → carry_behind site start (ended ++ part ∷ []) ≡ Some (carry_of (record { site = site; start = start; entries = entries_of (ended ++ part ∷ []) }))
carry_behind-push site start [] part = refl
carry_behind-push site start (one ∷ ended) part = refl

-- the life of a plant that begins
pub first_is_life : (book : PartRecord) → IsKept book → book.carry ≡ None → IsLife (first_life book)
first_is_life book kept none = record {
  parts = (record { one_site = refl; one_start = refl; carry = none; room = kept.room }, tt);
  book = (behind_nothing book kept.of_life none).book;
}

-- the last book of a life is right behind the entries before it
pub each_before : (life : Life) (Fact : List Entry → Type 0) → IsLife life → EachBefore life.last Fact → Fact (entries_of life.ended)
each_before life Fact is each = each (entries_of life.ended) (life_is_behind life is)

-- a call that goes on with the last book goes on with the life
pub enters_life : (life : Life) (call : Call) (reply : Reply) → IsLife life → length life.last.entries < life.last.site.room
    → EachBefore life.last (λ before. GoesOn before life.last call reply (entered life.last call reply))
    → IsLife (after life (Entered 0 (entry_of life.last call reply)))
enters_life life call reply is room each =
    let goes = each_before life (λ before. GoesOn before life.last call reply (entered life.last call reply)) is each in
    let last = last_part life.last.site life.last.start [] life.ended life.last is.parts in
    record {
      parts = other_part life.last.site life.last.start [] life.ended life.last (entered life.last call reply) is.parts
          (record { one_site = refl; one_start = refl; carry = last.carry; room = omega (arith, length-append life.last.entries (entry_of life.last call reply ∷ [])) });
      book = goes.answered.book;
    }

-- and a roll goes on with it in the next book
pub rolls_life : (life : Life) (new : PartRecord) → IsLife life → EachBefore life.last (λ before. Rolls before life.last new)
    → (new ≡ next_book (entries_of life.ended) life.last) × IsLife (after life (Rolled 0))
rolls_life life new is each =
    let rolls = each_before life (λ before. Rolls before life.last new) is each in
    let next = next_book (entries_of life.ended) life.last in
    let pushed = entries_of-push life.ended life.last in (
      rolls.begins,
      record {
        parts = one_part_more life.last.site life.last.start [] (life.ended ++ life.last ∷ []) next is.parts
            (record {
              one_site = refl;
              one_start = refl;
              carry = ap (λ (es : List Entry). Some (carry_of (record { site = life.last.site; start = life.last.start; entries = es }))) (sym pushed) ∙ sym (carry_behind-push life.last.site life.last.start life.ended life.last);
              room = omega arith;
            });
        book = subst (λ (es : List Entry). IsBook (book_behind es next)) (sym pushed) (subst (λ (p : PartRecord). IsBook (book_behind (entries_of life.ended ++ life.last.entries) p)) rolls.begins rolls.answered.book);
      },
    )

-- how long the joined book is after one more deed
pub front-entered : (book : PartRecord) (deeds : List Deed) (by : ℕ) (entry : Entry) → front book (deeds ++ Entered by entry ∷ []) ≡ front book deeds + 1
front-entered book deeds by entry =
    let life = life_of book deeds in
    ap (λ (l : Life). length (joined_book l).entries) (life_of-push book deeds (Entered by entry))
    ∙ ap (λ (es : List Entry). length es) (sym (append_assoc (entries_of life.ended) life.last.entries (entry ∷ [])))
    ∙ length-append (entries_of life.ended ++ life.last.entries) (entry ∷ [])

pub base-entered : (book : PartRecord) (deeds : List Deed) (by : ℕ) (entry : Entry) → base book (deeds ++ Entered by entry ∷ []) ≡ base book deeds
base-entered book deeds by entry = ap (λ (l : Life). length (entries_of l.ended)) (life_of-push book deeds (Entered by entry))

pub front-rolled : (book : PartRecord) (deeds : List Deed) (by : ℕ) → front book (deeds ++ Rolled by ∷ []) ≡ front book deeds
front-rolled book deeds by =
    let life = life_of book deeds in
    ap (λ (l : Life). length (joined_book l).entries) (life_of-push book deeds (Rolled by))
    ∙ ap (λ (es : List Entry). length es) (append-nil (entries_of (life.ended ++ life.last ∷ [])) ∙ entries_of-push life.ended life.last)

pub base-rolled : (book : PartRecord) (deeds : List Deed) (by : ℕ) → base book (deeds ++ Rolled by ∷ []) ≡ front book deeds
base-rolled book deeds by =
    let life = life_of book deeds in
    ap (λ (l : Life). length (entries_of l.ended)) (life_of-push book deeds (Rolled by)) ∙ ap (λ (es : List Entry). length es) (entries_of-push life.ended life.last)

-- after each deed the joined book is the one before, with what it entered
pub front-le : (book : PartRecord) (deeds later : List Deed) → front book deeds ≤ front book (deeds ++ later)
front-le book deeds [] = omega (arith, ap (front book) (append-nil deeds))
front-le book deeds (Entered by entry ∷ later) =
    omega (arith, front-le book (deeds ++ Entered by entry ∷ []) later, front-entered book deeds by entry, ap (front book) (append_assoc deeds (Entered by entry ∷ []) later))
front-le book deeds (Rolled by ∷ later) =
    omega (arith, front-le book (deeds ++ Rolled by ∷ []) later, front-rolled book deeds by, ap (front book) (append_assoc deeds (Rolled by ∷ []) later))
