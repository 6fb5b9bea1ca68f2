use Rattle.nested_replay.proofs.Calls.{starts}
use Rattle.nested_replay.proofs.Playings.{reads_head, opens, not_opened}
use Rattle.nested_replay.proofs.replay.open.Goals as goal

pub open-requires : goal.open-requires
open-requires c = record { start = starts c.args.front.now.script.now _ c.in-Ok.field-0.lines c.in-Ok.ensures }

pub read_rest-requires : goal.read_rest-requires
read_rest-requires c = reads_head c.args.front.now.script.now c.in-Ok.field-0 c.args.size.now c.requires.one c.in-Ok.ensures

pub returns-in-Ok-new : goal.returns-in-Ok-new
returns-in-Ok-new c =
    opens c.args.front.now c.args.size.now c.in-Ok.field-0 c.in-Ok-open.plant c.in-Ok-buses.buses.items c.in-Ok-new.plant c.requires.one c.in-Ok.ensures c.in-Ok-open.ensures.opened c.in-Ok-open.ensures.kept c.in-Ok-buses.ensures
    c.in-Ok-new.ensures.made c.in-Ok-new.ensures.fit c.in-Ok-new.ensures.under

pub returns-in-Err : goal.returns-in-Err
returns-in-Err c =
    not_opened c.args.front.now c.in-Ok.field-0 c.in-Ok-open.plant c.in-Ok-buses.buses.items c.in-Err.fault c.in-Ok.ensures c.in-Ok-open.ensures.opened c.in-Ok-buses.ensures c.in-Err.ensures.refused c.read_rest.ensures
