use Rattle.std.proofs.lemmas.Result.{err_from_is_err_and}
use Rattle.nested_replay.proofs.Rows.{front_low}
use Rattle.nested_replay.proofs.Replays.{site_refused, no_memory, not_opened_explains, is_replay}
use Rattle.nested_replay.proofs.replay.replay_nested.Goals as goal

pub returns-in-Some-clause-fault : goal.returns-in-Some-clause-fault
returns-in-Some-clause-fault c =
    let j = c.in_ok-front.ensures in
    site_refused c.args.bytes.now c.in_ok-front.front c.in_ok-front.size c.in-Some.fault j (c.in-Some.ensures j.one.script.site j.one.size_is)

pub open-requires-clause-low : goal.open-requires-clause-low
open-requires-clause-low c = front_low c.args.bytes.now c.in_ok-front.front c.in_ok-front.ensures.front_is

pub returns-in_err-opened-clause-fault : goal.returns-in_err-opened-clause-fault
returns-in_err-opened-clause-fault c =
    let j = c.in_ok-front.ensures in
    let p = err_from_is_err_and c.from_residual-in_err-opened.result c.from_residual-in_err-opened.ensures.1 in
    rw (p.1, p.2) (not_opened_explains c.args.bytes.now c.in_ok-front.front c.in_ok-front.size _ j (c.in_default.ensures j.one.script.site j.one.size_is) c.in_err-opened.ensures)

pub returns-in-Ok-clause-text : goal.returns-in-Ok-clause-text
returns-in-Ok-clause-text c =
    is_replay c.args.bytes.now c.in_ok-front.front c.in_ok-front.size c.in_ok-opened.opened c.in-Ok.replayed.text.items c.in-Ok.replayed.full c.in_ok-front.ensures c.in_ok-opened.ensures c.in-Ok.ensures

pub returns-clause-fault : goal.returns-clause-fault
returns-clause-fault c =
    let j = c.in_ok-front.ensures in
    no_memory c.args.bytes.now c.in_ok-front.front c.in_ok-front.size j (c.in_default.ensures j.one.script.site j.one.size_is)
