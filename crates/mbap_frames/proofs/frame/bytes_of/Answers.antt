use Rattle.std.proofs.Common.{arith}
use Rattle.mbap_frames.proofs.Gathered.{bytes_fit}
use Rattle.mbap_frames.proofs.frame.bytes_of.Goals as goal

pub returns-clause-bytes : goal.returns-clause-bytes
returns-clause-bytes c = bytes_fit c.args.pdu.now (λ i. omega (arith, c.type_inv.pdu i))
