-- What a console writes over a life, and the last book behind it, are the life's text with comments put in.
use Rattle.std.proofs.Common.{◌≡◌, ℕ, ◌+◌, List, [], ◌∷◌, ◌++◌, length, Bool, Some, None, Option, refl, sym, ap, subst, ◌∙◌, append_assoc, append-nil, length-append, arith}
use Rattle.std.specs.Prelude.{slice_get}
use Rattle.std.specs.List.{flat_map}
use Rattle.std.proofs.lemmas.List.Concat.{flat_map-append}
use Rattle.std.proofs.lemmas.Option.{slice_get_within}
use Rattle.plant_book.specs.Site.{SiteRecord}
use Rattle.plant_book.specs.Part.{PartRecord, CarryRecord}
use Rattle.plant_book.specs.Life.{Life, IsPart, AreParts, IsLife}
use Rattle.ledger_desk.specs.Desk.{DeskState}
use Rattle.script_text.specs.Text.{head_text, entry_text, roll_text}
use Rattle.script_replay.specs.Comments.{AreComments}
use Rattle.script_replay.specs.Lives.{HasComments, ended_text, life_text}
use Rattle.script_replay.proofs.Mixed.{IsMixed, none_mixed, mixed_more, comments_behind, head_mixed, entries_mixed, roll_mixed}
use Rattle.operator_console.specs.Comments.{head_before, rolled_text}
use Rattle.operator_console.specs.Deeds.{Deed, Passed, Refused, Entered, Rolled, LifeFull, IsDeed, deed_rolls, deed_text}
use Rattle.operator_console.specs.Transcript.{Done, IsDone, AreDone, rolls_of, text_of}
use Rattle.plant_run.specs.Operator.{tests_in, ends_behind}
use Rattle.site_run.specs.Report.{last_text}
use Rattle.site_run.proofs.Seats.{some_same, get_seam}
use Rattle.site_run.proofs.Shown.{reply_mixed, goals_mixed, bad_mixed, full_mixed}

-- the lines of a book

-- the head of a life, where it stands, has its own lines alone
before_mixed : (site : SiteRecord) (start : ℕ) (carry : Option CarryRecord) → IsMixed (head_before site start carry) (head_before site start carry)
before_mixed site start None = head_mixed site start
before_mixed site start (Some carry) = none_mixed

-- so has the text of a book that was rolled
rolled_mixed : (book : PartRecord) → IsMixed (rolled_text book) (rolled_text book)
rolled_mixed book = mixed_more (mixed_more (before_mixed book.site book.start book.carry) (entries_mixed book.entries)) roll_mixed

-- and that of the last book
last_mixed : (book : PartRecord) → IsMixed (last_text book) (last_text book)
last_mixed book = mixed_more (before_mixed book.site book.start book.carry) (entries_mixed book.entries)

-- the books of a life, each with the head before it where it is the first

-- the head stands before a book that begins with nothing
head_first : (site : SiteRecord) (start : ℕ) (part : PartRecord) → IsPart site start [] part → head_before part.site part.start part.carry ≡ head_text site start
head_first site start part is = λ i. head_before (is.one_site i) (is.one_start i) (is.carry i)

-- and before no other
head_later : (site : SiteRecord) (start : ℕ) (first : PartRecord) (gone : List PartRecord) (part : PartRecord) → IsPart site start (first ∷ gone) part → head_before part.site part.start part.carry ≡ []
head_later site start first gone part is = λ i. head_before (is.one_site i) (is.one_start i) (is.carry i)

-- behind the first book of a life no head stands
later_text : (site : SiteRecord) (start : ℕ) (first : PartRecord) (gone parts : List PartRecord) (last : PartRecord) → AreParts site start (first ∷ gone) (parts ++ last ∷ [])
    → flat_map ended_text parts ++ flat_map entry_text last.entries ≡ flat_map rolled_text parts ++ last_text last
later_text site start first gone [] last are = ap (λ (head : List ℕ). head ++ flat_map entry_text last.entries) (sym (head_later site start first gone last are.0))
later_text site start first gone (part ∷ parts) last are =
    let ended : List ℕ = flat_map ended_text parts in
    let rolled : List ℕ = flat_map rolled_text parts in
    let entries : List ℕ = flat_map entry_text last.entries in
    let own : ended_text part ≡ rolled_text part = ap (λ (head : List ℕ). (head ++ flat_map entry_text part.entries) ++ roll_text) (sym (head_later site start first gone part are.0)) in
    append_assoc (ended_text part) ended entries ∙ (λ i. own i ++ later_text site start first (gone ++ part ∷ []) parts last are.1 i) ∙ sym (append_assoc (rolled_text part) rolled (last_text last))

-- the text of a life of these books is that of its rolled books, with that of the last behind it
books_text : (site : SiteRecord) (start : ℕ) (parts : List PartRecord) (last : PartRecord) → AreParts site start [] (parts ++ last ∷ [])
    → (head_text site start ++ flat_map ended_text parts) ++ flat_map entry_text last.entries ≡ flat_map rolled_text parts ++ last_text last
books_text site start [] last are =
    ap (λ (head : List ℕ). head ++ flat_map entry_text last.entries) (append-nil (head_text site start) ∙ sym (head_first site start last are.0))
books_text site start (part ∷ parts) last are =
    let head : List ℕ = head_text site start in
    let own : List ℕ = flat_map entry_text part.entries in
    let ended : List ℕ = flat_map ended_text parts in
    let rolled : List ℕ = flat_map rolled_text parts in
    let entries : List ℕ = flat_map entry_text last.entries in
    let first : head ++ ended_text part ≡ rolled_text part =
    sym (append_assoc head own roll_text) ∙ ap (λ (x : List ℕ). (x ++ own) ++ roll_text) (sym (head_first site start part are.0)) in
    append_assoc head (ended_text part ++ ended) entries ∙ ap (λ (x : List ℕ). head ++ x) (append_assoc (ended_text part) ended entries)
    ∙ sym (append_assoc head (ended_text part) (ended ++ entries)) ∙ (λ i. first i ++ later_text site start part [] parts last are.1 i)
    ∙ sym (append_assoc (rolled_text part) rolled (last_text last))

-- what is written of one line

-- a deed wrote the text of the books that it rolled, one or none, with comments in it; the others are still to be written
record Writes (ended gone parts : List PartRecord) (number : ℕ) (deed : Deed) : Type 0 where
  gone_now : List PartRecord
  parts_now : List PartRecord
  are : ended ≡ gone_now ++ parts_now
  gained : length gone_now ≡ length gone + length (deed_rolls deed)
  fewer : length parts ≡ length (deed_rolls deed) + length parts_now
  text : List ℕ
  text_is : flat_map rolled_text parts ≡ text ++ flat_map rolled_text parts_now
  mixed : IsMixed text (deed_text number deed)

-- a deed that rolls no book writes comments
writes_comments : (ended gone parts : List PartRecord) (number : ℕ) (deed : Deed) → ended ≡ gone ++ parts → deed_rolls deed ≡ [] → IsMixed [] (deed_text number deed) → Writes ended gone parts number deed
writes_comments ended gone parts number deed are none mixed =
    let count : length (deed_rolls deed) ≡ 0 = ap (λ (rolls : List ℕ). length rolls) none in
    record { gone_now = gone; parts_now = parts; are = are; gained = omega (arith, count); fewer = omega (arith, count); text = []; text_is = refl; mixed = mixed }

-- one that rolls a book writes the first that is not written yet
writes_book : (ended gone parts : List PartRecord) (number front : ℕ) (book : PartRecord) → ended ≡ gone ++ parts → slice_get ended (length gone) ≡ Some book → Writes ended gone parts number (Rolled front book)
writes_book ended gone [] number front book are there =
    absurd (omega (arith, slice_get_within ended (length gone) book there, ap (λ (all : List PartRecord). length all) are, length-append gone []))
writes_book ended gone (part ∷ parts) number front book are there =
    let same : part ≡ book = some_same part book (sym (get_seam gone parts part) ∙ ap (λ (all : List PartRecord). slice_get all (length gone)) (sym are) ∙ there) in
    record {
      gone_now = gone ++ part ∷ [];
      parts_now = parts;
      are = are ∙ sym (append_assoc gone (part ∷ []) parts);
      gained = length-append gone (part ∷ []);
      fewer = omega arith;
      text = rolled_text part;
      text_is = refl;
      mixed = subst (λ (its : PartRecord). IsMixed (rolled_text part) (rolled_text its)) same (rolled_mixed part);
    }

module _ (may_give : ℕ → Bool) (life : Life) where
  -- what a deed of a console writes, by the books that it ended
  deed_writes : (inverters made rolls number : ℕ) (line : List ℕ) (deed : Deed) (gone parts : List PartRecord) → life.ended ≡ gone ++ parts → length gone ≡ rolls
      → IsDeed (tests_in may_give life) inverters made rolls line deed → Writes life.ended gone parts number deed
  deed_writes inverters made rolls number line Passed gone parts are count is = writes_comments life.ended gone parts number Passed are refl none_mixed
  deed_writes inverters made rolls number line Refused gone parts are count is = writes_comments life.ended gone parts number Refused are refl (bad_mixed number)
  deed_writes inverters made rolls number line (Entered reading entry front told) gone parts are count is =
      writes_comments life.ended gone parts number (Entered reading entry front told) are refl (mixed_more (reply_mixed entry.reply) (goals_mixed told))
  deed_writes inverters made rolls number line (Rolled front book) gone parts are count is =
      let place : ℕ = is.1.0 in
      let here : place ≡ length gone = omega (arith, is.1.1, count) in
      writes_book life.ended gone parts number front book are (subst (λ (k : ℕ). slice_get life.ended k ≡ Some book) here is.1.2)
  deed_writes inverters made rolls number line (LifeFull calls) gone parts are count is = writes_comments life.ended gone parts number (LifeFull calls) are refl full_mixed

  -- lines that roll as many books as are not written yet write those, with comments in them
  lines_write : (old : DeskState) (before dones : List Done) (gone parts : List PartRecord) → old.rolls ≡ [] → life.ended ≡ gone ++ parts → length gone ≡ length (rolls_of before)
      → length parts ≡ length (rolls_of dones)
      → ((first : List Done) (done : Done) (behind : List Done) → before ++ dones ≡ first ++ done ∷ behind → IsDone (tests_in may_give life) old first done)
      → IsMixed (flat_map rolled_text parts) (text_of dones)
  lines_write old before [] gone [] none are count all each = none_mixed
  lines_write old before [] gone (part ∷ parts) none are count all each = absurd cc
  lines_write old before (done ∷ dones) gone parts none are count all each =
      let rolls : length gone ≡ length old.rolls + length (rolls_of before) = omega (arith, count, ap (λ (places : List ℕ). length places) none) in
      let its = deed_writes old.inverters _ (length old.rolls + length (rolls_of before)) done.number done.line done.deed gone parts are rolls (each before done dones refl).deed in
      let on : (before ++ done ∷ []) ++ dones ≡ before ++ done ∷ dones = append_assoc before (done ∷ []) dones in
      let gained : length (rolls_of (before ++ done ∷ [])) ≡ length (rolls_of before) + length (deed_rolls done.deed) =
      ap (λ (places : List ℕ). length places) (flat_map-append (λ one. deed_rolls one.deed) before (done ∷ []) ∙ ap (λ (x : List ℕ). rolls_of before ++ x) (append-nil (deed_rolls done.deed)))
      ∙ length-append (rolls_of before) (deed_rolls done.deed) in
      let left : length its.parts_now ≡ length (rolls_of dones) = omega (arith, all, its.fewer, length-append (deed_rolls done.deed) (rolls_of dones)) in
      let later = lines_write old (before ++ done ∷ []) dones its.gone_now its.parts_now none its.are (omega (arith, its.gained, count, gained)) left
      (λ first one behind is. each first one behind (sym on ∙ is)) in
      subst (λ (text : List ℕ). IsMixed text (text_of (done ∷ dones))) (sym its.text_is) (mixed_more its.mixed later)

-- there are as many ends as books
ends_count : (before : ℕ) (parts : List PartRecord) → length (ends_behind before parts) ≡ length parts
ends_count before [] = refl
ends_count before (part ∷ parts) = omega (arith, ends_count (before + length part.entries) parts)

-- what a console writes over a life, then the last book and any comments are the life's text with comments put in
pub output_is : (may_give : ℕ → Bool) (life : Life) (old new : DeskState) (dones : List Done) (behind : List ℕ) → IsLife life → AreDone (tests_in may_give life) old new dones → old.rolls ≡ []
    → new.rolls ≡ ends_behind 0 life.ended → AreComments behind → HasComments (life_text life) (text_of dones ++ last_text life.last ++ behind)
output_is may_give life old new dones behind kept are none ends comments =
    let all : rolls_of dones ≡ ends_behind 0 life.ended = ap (λ (places : List ℕ). places ++ rolls_of dones) (sym none) ∙ sym are.rolls ∙ ends in
    let count : length life.ended ≡ length (rolls_of dones) = sym (ends_count 0 life.ended) ∙ ap (λ (places : List ℕ). length places) (sym all) in
    let books : IsMixed (flat_map rolled_text life.ended) (text_of dones) = lines_write may_give life old [] dones [] life.ended none refl refl count are.each in
    let whole : IsMixed (life_text life) (text_of dones ++ last_text life.last) =
    subst (λ (text : List ℕ). IsMixed text (text_of dones ++ last_text life.last)) (sym (books_text life.last.site life.last.start life.ended life.last kept.parts)) (mixed_more books (last_mixed life.last)) in
    comments_behind behind whole comments
