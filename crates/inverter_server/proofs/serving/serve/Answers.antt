use Rattle.std.proofs.Common.{◌∙◌, sym, ap, refl, arith}
use Rattle.inverter_server.proofs.Turning.{served}
use Rattle.inverter_server.proofs.serving.serve.Goals as goal

pub loop-made-preserved : goal.loop-made-preserved
loop-made-preserved g c = record {
  unfinished = c.turn-line.ensures.unfinished;
  clock = c.turn-line.ensures.clock ∙ c.loop-made.invariant.clock;
  stands = c.turn-line.ensures.stands _ _ (ap g.K.Clock.may_give (sym c.loop-made.invariant.clock)) refl c.loop-made.invariant.stands;
}

pub returns : goal.returns
returns g c = record { served = served _ _ _ _ _ (omega arith) c.loop-made.invariant.stands }
