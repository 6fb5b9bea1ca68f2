use Rattle.std.proofs.Common.{◌≡◌, ℕ, List, length, ◌++◌, take, sym, ap, ◌∙◌, append_assoc, arith}
use Rattle.std.specs.List.{flat_map}
use Rattle.std.proofs.lemmas.List.{take_all}
use Rattle.plant_book.specs.declared.book.Entry.{Entry}
use Rattle.plant_book.specs.Part.{PartRecord}
use Rattle.script_text.specs.Text.{entry_text}
use Rattle.operator_console.specs.Comments.{head_before}
use Rattle.site_run.proofs.Lines.{entries_more}
use Rattle.site_run.proofs.report.put_book.Goals as goal

pub loop-place-preserved : goal.loop-place-preserved
loop-place-preserved c =
    let before : List ℕ = c.put_head.new.text.items in
    let entries : List Entry = c.args.plant.now.entries in
    let entry : Entry = c.entry.result in
    c.in_ok-entry_text.ensures.text ∙ ap (λ (x : List ℕ). x ++ entry_text entry) c.loop-place.invariant
    ∙ append_assoc before (flat_map entry_text (take c.loop-place.place entries)) (entry_text entry)
    ∙ ap (λ (x : List ℕ). before ++ x) (sym (entries_more entries c.loop-place.place entry c.entry.ensures))

pub returns : goal.returns
returns c =
    let text : List ℕ = c.args.text.now.items in
    let plant : PartRecord = c.args.plant.now in
    let all : c.loop-place.place ≡ length plant.entries = omega (arith, c.loop-place.auto.place-end, c.calls-place-end.ensures.calls) in
    c.loop-place.invariant ∙ ap (λ (x : List Entry). c.put_head.new.text.items ++ flat_map entry_text x) (ap (λ (n : ℕ). take n plant.entries) all ∙ take_all (length plant.entries) plant.entries (omega arith))
    ∙ ap (λ (x : List ℕ). x ++ flat_map entry_text plant.entries) c.in_ok-put_head.ensures ∙ append_assoc text (head_before plant.site plant.start plant.carry) (flat_map entry_text plant.entries)
