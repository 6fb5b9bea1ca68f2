use Rattle.nested_replay.proofs.Texts.{entry_on}
use Rattle.nested_replay.proofs.writing.entries_text.Goals as goal

pub loop-place-preserved : goal.loop-place-preserved
loop-place-preserved c = entry_on c.args.plant.now.entries c.loop-place.place c.entry.result c.loop-place.out.items c.entry_text.new.out.items _ c.entry.ensures c.in_ok-entry_text.ensures.text c.loop-place.invariant
