use Rattle.std.proofs.Common.{sym}
use Rattle.plant_book.proofs.LiveSteps.{live_later}
use Rattle.plant_book.proofs.live.live_among.Goals as goal

pub returns : goal.returns
returns c before is =
    rw (c.still_on.ensures, c.rules.ensures, c.live_first.ensures before is) (sym (live_later c.args.book.now before is c.args.count c.args.now c.args.inverter c.requires.later))
