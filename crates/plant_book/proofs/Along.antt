-- What one more right entry keeps holds of every book.
use Rattle.std.proofs.Common.{List, [], ◌∷◌, ◌++◌, sym, subst, append_assoc}
use Rattle.std.proofs.lemmas.List.{append-nil}
use Rattle.plant_book.specs.declared.book.Entry.{Entry}
use Rattle.plant_book.specs.Book.{BookRecord}
use Rattle.plant_book.specs.Answered.{EachInTurn, IsAnswer, IsNext, IsBook}

module _ (book : BookRecord) (P : List Entry → Type 0)
    (step : (before : List Entry) (entry : Entry) → P before → IsAnswer book before entry → IsNext book.site book.start before entry.call → P (before ++ entry ∷ [])) where
  along_from : (before later : List Entry) → P before → EachInTurn (IsAnswer book) before later → EachInTurn (λ es entry. IsNext book.site book.start es entry.call) before later → P (before ++ later)
  along_from before [] holds right next = subst P (sym (append-nil before)) holds
  along_from before (entry ∷ later) holds right next =
      subst P (append_assoc before (entry ∷ []) later) (along_from (before ++ entry ∷ []) later (step before entry holds right.0 next.0) right.1 next.1)

  pub along : IsBook book → P [] → P book.entries
  along kept first = along_from [] book.entries first kept.answered kept.entered
