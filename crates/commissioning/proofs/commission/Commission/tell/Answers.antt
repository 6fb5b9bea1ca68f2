use Rattle.commissioning.proofs.Fewer.{sound_after}
use Rattle.commissioning.proofs.commission.Commission.tell.Goals as goal

pub invariant_of-self : goal.invariant_of-self
invariant_of-self c =
    let some = rw (← c.self.view_is) at c.requires in
    sound_after _ c.args.reply _ c.self.invariant some c.stage_after-self-inside.ensures
