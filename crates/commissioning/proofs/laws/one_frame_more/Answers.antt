use Rattle.commissioning.proofs.Moves.{requests-more, standing_after-taken}
use Rattle.commissioning.proofs.laws.one_frame_more.Goals as goal

pub returns : goal.returns
returns c = record { standing = standing_after-taken; requests = requests-more }
