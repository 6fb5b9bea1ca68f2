-- The first entries of a book are a book.
use Rattle.std.proofs.Common.{ℕ, zero, suc, List, [], ◌∷◌, ◌++◌, take, arith}
use Rattle.std.proofs.lemmas.List.{length-take}
use Rattle.plant_book.specs.declared.book.Entry.{Entry}
use Rattle.plant_book.specs.Book.{BookRecord}
use Rattle.plant_book.specs.Answered.{EachInTurn, IsAnswer, IsNext, IsBook, with_entries}

each_in_turn_first : (Fact : List Entry → Entry → Type 0) (before later : List Entry) (count : ℕ) → EachInTurn Fact before later → EachInTurn Fact before (take count later)
each_in_turn_first Fact before [] zero each = tt
each_in_turn_first Fact before [] (suc count) each = tt
each_in_turn_first Fact before (entry ∷ later) zero each = tt
each_in_turn_first Fact before (entry ∷ later) (suc count) each = (each.0, each_in_turn_first Fact (before ++ entry ∷ []) later count each.1)

pub IsBook-first : (book : BookRecord) (count : ℕ) → IsBook book → IsBook (with_entries book (take count book.entries))
IsBook-first book count kept = record {
  openable = kept.openable;
  start_high = kept.start_high;
  calls = omega (arith, kept.calls, length-take count book.entries);
  answered = each_in_turn_first (IsAnswer book) [] book.entries count kept.answered;
  entered = each_in_turn_first (λ es entry. IsNext book.site book.start es entry.call) [] book.entries count kept.entered;
}
