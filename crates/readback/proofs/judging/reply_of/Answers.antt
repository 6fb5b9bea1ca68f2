use Rattle.std.proofs.Common.{arith}
use Rattle.readback.proofs.Grammatical.{bytes_fit, reply_decoded}
use Rattle.readback.proofs.judging.reply_of.Goals as goal

pub returns : goal.returns
returns c =
    reply_decoded c.args.pdu.now c.decode_reply.result (bytes_fit c.args.pdu.now (λ i. omega (arith, c.type_inv.pdu i)))
    c.decode_reply.ensures.found c.decode_reply.ensures.only
