use Rattle.std.proofs.Common.{ap}
use Rattle.std.specs.Fmt.{decimal}
use Rattle.nested_replay.proofs.Texts.{on_ok, busfull_line}
use Rattle.nested_replay.proofs.writing.busfull_text.Goals as goal

pub returns : goal.returns
returns c =
    on_ok c.put_last.result
    (busfull_line c.args.out.now.items (decimal c.args.at) (decimal c.args.inverter) (decimal c.args.raw) (decimal c.args.bus) (decimal c.args.left) _ _ _ c.put.new.out.items c.put_three.new.out.items c.put-2.new.out.items c.put_last.new.out.items
    (ap decimal c.from.ensures) (ap decimal c.from-2.ensures) (ap decimal c.from-3.ensures) c.in_ok-put.ensures c.in_ok-put_three.ensures c.in_ok-put-2.ensures)
    c.put_last.ensures
