use Rattle.std.proofs.Common.{◌++◌, List, subst}
use Rattle.std.specs.Prelude.{OnErr}
use Rattle.std.specs.List.{flat_map}
use Rattle.std.proofs.KnownBytes.{Appends-trans}
use Rattle.plant_book.specs.declared.book.Entry.{Entry}
use Rattle.plant_book.specs.Part.{PartRecord}
use Rattle.stream_io.specs.Streams.{AppendsFront}
use Rattle.script_text.specs.Text as texts
use Rattle.operator_console.specs.Comments.{head_before}
use Rattle.operator_console.proofs.Texts.{front_first, front_second, on_err, on_err_more}
use Rattle.operator_console.proofs.rolled.write_rolled.Goals as goal

pub returns-in_err-write_head-clause-front : goal.returns-in_err-write_head-clause-front
returns-in_err-write_head-clause-front g c =
    on_err c.from_residual.result _ (front_first _ _ _ _ (front_first _ _ _ _ c.in_err-write_head.ensures.front))

pub returns-in_err-write_entries-clause-front : goal.returns-in_err-write_entries-clause-front
returns-in_err-write_entries-clause-front g c =
    let head = head_before c.args.book.now.site c.args.book.now.start c.args.book.now.carry in
    let entries = c.deref.result.now in
    let P : PartRecord → Type 0 = λ b. AppendsFront (g.O.Sink.taken c.args.out.now) (g.O.Sink.taken c.write_entries.new.out) (head ++ flat_map texts.entry_text b.entries ++ texts.roll_text) in
    let Q : List Entry → Type 0 = λ xs. AppendsFront (g.O.Sink.taken c.args.out.now) (g.O.Sink.taken c.write_entries.new.out) (head ++ flat_map texts.entry_text xs ++ texts.roll_text) in
    on_err c.from_residual-in_err-write_entries.result _
    (subst P c.book.view_is (subst Q c.deref.ensures.value (front_first _ _ _ texts.roll_text (front_second _ _ _ head (flat_map texts.entry_text entries) c.in_ok-write_head.ensures.all c.in_err-write_entries.ensures.front))))

pub returns-clause-front : goal.returns-clause-front
returns-clause-front g c =
    let head = head_before c.args.book.now.site c.args.book.now.start c.args.book.now.carry in
    let entries = c.deref.result.now in
    let P : PartRecord → Type 0 = λ b. OnErr c.write_roll.result (AppendsFront (g.O.Sink.taken c.args.out.now) (g.O.Sink.taken c.write_roll.new.out) (head ++ flat_map texts.entry_text b.entries ++ texts.roll_text)) in
    let Q : List Entry → Type 0 = λ xs. OnErr c.write_roll.result (AppendsFront (g.O.Sink.taken c.args.out.now) (g.O.Sink.taken c.write_roll.new.out) (head ++ flat_map texts.entry_text xs ++ texts.roll_text)) in
    subst P c.book.view_is (subst Q c.deref.ensures.value (on_err_more c.write_roll.result _ _
    (λ front. front_second _ _ _ _ texts.roll_text (Appends-trans _ _ _ head (flat_map texts.entry_text entries) c.in_ok-write_head.ensures.all c.in_ok-write_entries.ensures.all) front)
    c.write_roll.ensures.front))
