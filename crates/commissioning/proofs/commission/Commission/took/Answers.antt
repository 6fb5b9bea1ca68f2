use Rattle.std.proofs.Common.{subst}
use Rattle.commissioning.specs.Keeping.{IsSound}
use Rattle.commissioning.proofs.Fewer.{frames_fewer}
use Rattle.commissioning.proofs.commission.Commission.took.Goals as goal

pub returns-clause-ends : goal.returns-clause-ends
returns-clause-ends c =
    let sound : IsSound c.args.self.now = subst IsSound c.self.view_is c.self.invariant in
    frames_fewer c.args.self.now c.tell.new.self c.reply_in-reply.result sound c.requires c.tell.ensures
