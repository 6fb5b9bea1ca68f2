use Rattle.std.proofs.Common.{◌∙◌, take}
use Rattle.script_text.specs.Text.{inverters_text}
use Rattle.script_text.proofs.Written.{longer}
use Rattle.script_text.proofs.text.put_inverters.Goals as goal

pub returns-in_err-put-clause-front : goal.returns-in_err-put-clause-front
returns-in_err-put-clause-front c =
    longer c.from_residual.result c.args.out.now.items (inverters_text (take c.loop-unit.unit-index c.args.units.now)) c.put.new.out.items (c.in_err-put.ensures.unchanged ∙ c.loop-unit.invariant)
