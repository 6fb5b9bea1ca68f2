use Rattle.std.proofs.Common.{sym}
use Rattle.share_policy.proofs.Levels.{level_of-beyond}
use Rattle.plant_ledger.proofs.known.Known.tells.Goals as goal

pub returns-then-mw-cap : goal.returns-then-mw-cap
returns-then-mw-cap c = λ claims feasible is. sym (level_of-beyond c.args.cap c.args.mw claims c.if-mw-cap.true)
