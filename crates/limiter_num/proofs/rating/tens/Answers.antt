use Rattle.limiter_num.proofs.Scaled.{ten_pos}
use Rattle.limiter_num.proofs.rating.tens.Goals as goal

pub returns-clause-positive : goal.returns-clause-positive
returns-clause-positive c = rw c.pow.ensures (ten_pos c.unsigned_abs.result)
