-- What a run writes in all, where its console wrote its last text whole.
use Rattle.std.proofs.Common.{◌≡◌, ℕ, Bool, true, List, [], ◌++◌, Option, None, inl, inr, refl, sym, ap, subst, ◌∙◌, append_assoc}
use Rattle.std.specs.Io.KnownBytes.{Appends}
use Rattle.plant_book.specs.Part.{PartRecord}
use Rattle.plant_book.specs.Life.{Life, IsLife}
use Rattle.ledger_desk.specs.Desk.{DeskState}
use Rattle.worker_turn.specs.Worker.{WorkerRecord}
use Rattle.operator_console.specs.declared.session.ConsoleEnd.{ConsoleEnd}
use Rattle.operator_console.specs.declared.session.ConsoleEnd.TheVariants as ends
use Rattle.operator_console.specs.Transcript.{Done, EndsSo, IsClosed, text_of}
use Rattle.script_replay.specs.Lives.{HasComments, life_text}
use Rattle.plant_run.specs.Operator.{IsConsole}
use Rattle.site_run.specs.Report.{last_text, text_of_run, worker_lines, wrote_whole}
use Rattle.site_run.proofs.Comments.{are_comments}
use Rattle.site_run.proofs.Output.{output_is}

-- a console that wrote its last text whole wrote the texts of its lines
all_shown : (ended : ConsoleEnd) (inverters : ℕ) (was_full : Type 0) (read rest : List ℕ) (dones : List Done) (left old new : Option (List ℕ)) → wrote_whole ended ≡ true
    → EndsSo ended inverters was_full read rest dones left old new → Appends old new (text_of dones)
all_shown ends.Ended inverters was_full read rest dones left old new whole so = so.3
all_shown ends.Stopped inverters was_full read rest dones left old new whole so = so.1
all_shown ends.ReadFault inverters was_full read rest dones left old new whole so = so.2
all_shown ends.BookFull inverters was_full read rest dones left old new whole so = so.3
all_shown ends.WriteFault inverters was_full read rest dones left old new whole so = absurd cc
all_shown ends.NoMemory inverters was_full read rest dones left old new whole so = absurd cc

-- the Stop that a console enters at its end rolls no book
closed_rolls : (ended : ConsoleEnd) (may_give : ℕ → Bool) (was_full : Type 0) (old new : DeskState) → wrote_whole ended ≡ true → IsClosed ended may_give was_full old new → new.rolls ≡ old.rolls
closed_rolls ends.Ended may_give was_full old new whole same = ap (λ (desk : DeskState). desk.rolls) same
closed_rolls ends.Stopped may_give was_full old new whole same = ap (λ (desk : DeskState). desk.rolls) same
closed_rolls ends.BookFull may_give was_full old new whole same = ap (λ (desk : DeskState). desk.rolls) same
closed_rolls ends.ReadFault may_give was_full old new whole (inl stop) = stop.2.rolls
closed_rolls ends.ReadFault may_give was_full old new whole (inr full) = full.1.rolls
closed_rolls ends.WriteFault may_give was_full old new whole closed = absurd cc
closed_rolls ends.NoMemory may_give was_full old new whole closed = absurd cc

-- what the console wrote, and behind it the text of the run, is the text of the life with comments put in
pub all_written : (may_give : ℕ → Bool) (life : Life) (plant : PartRecord) (workers : List WorkerRecord) (ended : ConsoleEnd) (left left_now taken taken_now : Option (List ℕ))
    → IsLife life → plant ≡ life.last → IsConsole may_give life ended left left_now taken taken_now → wrote_whole ended ≡ true
    → (shown : List ℕ) × Appends taken taken_now shown × HasComments (life_text life) (shown ++ text_of_run plant workers)
all_written may_give life plant workers ended left left_now taken taken_now kept last console whole =
    let script = console.transcript in
    let held = script.held in
    let shown = text_of held.dones in
    let rolls = sym (closed_rolls ended _ _ script.desk console.desk whole script.closed) ∙ console.of_life.rolls in
    let is = output_is may_give life _ script.desk held.dones (worker_lines workers) kept held.are refl rolls (are_comments workers) in
    let P : PartRecord → Type 0 = λ part. HasComments (life_text life) (shown ++ text_of_run part workers) in (
      shown,
      all_shown ended _ _ _ _ held.dones _ taken taken_now whole held.so,
      subst P (sym last) (subst (HasComments (life_text life)) (append_assoc shown (last_text life.last) (worker_lines workers)) is),
    )
