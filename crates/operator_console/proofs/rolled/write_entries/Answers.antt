use Rattle.std.proofs.Common.{◌≡◌, ◌∙◌, ◌+◌, ◌++◌, List, ℕ, sym, subst, drop}
use Rattle.std.specs.List.{flat_map}
use Rattle.std.specs.Io.KnownBytes.{Appends}
use Rattle.std.proofs.KnownBytes.{Appends-trans}
use Rattle.stream_io.specs.Streams.{AppendsFront}
use Rattle.script_text.specs.Text as texts
use Rattle.operator_console.proofs.Texts.{front_first, front_second, on_err, texts_all, texts_to}
use Rattle.operator_console.proofs.rolled.write_entries.Goals as goal

pub returns-in_err-write_entry-clause-front : goal.returns-in_err-write_entry-clause-front
returns-in_err-write_entry-clause-front g c =
    let xs = c.args.entries.now in
    let i = c.loop-entry.entry-index in
    let front = front_second _ _ _ _ _ c.loop-entry.invariant.0 c.in_err-write_entry.ensures.front in
    let P : List ℕ → Type 0 = λ t. AppendsFront (g.O.Sink.taken c.args.out.now) (g.O.Sink.taken c.write_entry.new.out) (t ++ flat_map texts.entry_text (drop (i + 1) xs)) in
    let Q : List ℕ → Type 0 = λ t. AppendsFront (g.O.Sink.taken c.args.out.now) (g.O.Sink.taken c.write_entry.new.out) t in
    on_err c.from_residual.result _
    (subst Q (texts_all texts.entry_text xs (i + 1)) (subst P (sym (texts_to texts.entry_text xs i _ c.loop-entry-test.true)) (front_first _ _ _ _ front)))

pub loop-entry-preserved : goal.loop-entry-preserved
loop-entry-preserved g c =
    let xs = c.args.entries.now in
    let i = c.loop-entry.entry-index in
    let more = Appends-trans _ _ _ _ _ c.loop-entry.invariant.0 c.in_ok-write_entry.ensures.all in
    let P : List ℕ → Type 0 = λ t. Appends (g.O.Sink.taken c.args.out.now) (g.O.Sink.taken c.write_entry.new.out) t in
    let kept : g.O.Sink.faults c.write_entry.new.out ≡ g.O.Sink.faults c.loop-entry.out = c.in_ok-write_entry.ensures.cause.kept in (
      subst P (sym (texts_to texts.entry_text xs i _ c.loop-entry-test.true)) more,
      kept ∙ c.loop-entry.invariant.1,
      λ none. c.write_entry.ensures.stops (c.loop-entry.invariant.1 ∙ none) ∙ c.loop-entry.invariant.2 none,
    )
