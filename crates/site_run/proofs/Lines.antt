-- The lines of the workers up to a number, and of a book's first entries.
use Rattle.std.proofs.Common.{◌≡◌, ℕ, zero, suc, ◌+◌, ◌<◌, List, [], ◌∷◌, ◌++◌, length, take, get_or, Some, sym, ap, subst, ◌∙◌, zero-add, add-one, append-nil, append_assoc}
use Rattle.std.specs.Prelude.{slice_get}
use Rattle.std.specs.List.{flat_map, enumerate_from}
use Rattle.std.proofs.lemmas.List.{take_more, flat_map_more}
use Rattle.std.proofs.lemmas.List.FromFn.{length-enumerate_from, get_or-enumerate_from}
use Rattle.std.proofs.Math.Seq.{take-length}
use Rattle.plant_book.specs.declared.book.Entry.{Entry}
use Rattle.script_text.specs.Text.{entry_text}
use Rattle.worker_turn.specs.Worker.{WorkerRecord}
use Rattle.site_run.specs.Report.{worker_line, worker_lines}
use Rattle.site_run.proofs.Seats.{some_same}

abbrev line : ℕ × WorkerRecord → List ℕ
line seat = worker_line seat.0 seat.1.state.step

abbrev pub lines_below : ℕ → List WorkerRecord → List ℕ
lines_below n workers = flat_map (λ seat. worker_line seat.0 seat.1.state.step) (take n (enumerate_from 0 workers))

pub lines_below-more : (workers : List WorkerRecord) (n : ℕ) (its : WorkerRecord) → n < length workers → its ≡ get_or workers n its → lines_below (n + 1) workers ≡ lines_below n workers ++ worker_line n its.state.step
lines_below-more workers n its within is =
    let inside : n < length (enumerate_from 0 workers) = subst (λ (m : ℕ). n < m) (sym (length-enumerate_from 0 workers)) within in
    ap (flat_map line) (take_more (enumerate_from 0 workers) n (n, its) inside)
    ∙ sym (flat_map_more line [] (take n (enumerate_from 0 workers)) (get_or (enumerate_from 0 workers) n (n, its)))
    ∙ ap (λ (seat : ℕ × WorkerRecord). lines_below n workers ++ line seat) (get_or-enumerate_from 0 workers n (n, its) within)
    ∙ ap (λ (m : ℕ). lines_below n workers ++ line (m, get_or workers n its)) (zero-add n)
    ∙ ap (λ (w : WorkerRecord). lines_below n workers ++ worker_line n w.state.step) (sym is)

pub lines_below-all : (workers : List WorkerRecord) (n : ℕ) → n ≡ length workers → lines_below n workers ≡ worker_lines workers
lines_below-all workers n all =
    ap (λ (m : ℕ). lines_below m workers) (all ∙ sym (length-enumerate_from 0 workers))
    ∙ ap (flat_map line) (take-length (enumerate_from 0 workers))

-- the lines of the first entries, and of one more
taken : (entries : List Entry) (n : ℕ) (entry : Entry) → slice_get entries n ≡ Some entry → flat_map entry_text (take (suc n) entries) ≡ flat_map entry_text (take n entries) ++ entry_text entry
taken [] n entry is = absurd cc
taken (first ∷ entries) zero entry is = append-nil (entry_text first) ∙ ap entry_text (some_same first entry is)
taken (first ∷ entries) (suc n) entry is =
    ap (λ (x : List ℕ). entry_text first ++ x) (taken entries n entry is) ∙ sym (append_assoc (entry_text first) (flat_map entry_text (take n entries)) (entry_text entry))

pub entries_more : (entries : List Entry) (n : ℕ) (entry : Entry) → slice_get entries n ≡ Some entry → flat_map entry_text (take (n + 1) entries) ≡ flat_map entry_text (take n entries) ++ entry_text entry
entries_more entries n entry is = ap (λ (m : ℕ). flat_map entry_text (take m entries)) (add-one n) ∙ taken entries n entry is
