use Rattle.std.proofs.Common.{ap, w8}
use Rattle.std.specs.Prelude.{codes}
use Rattle.std.specs.Fmt.{decimal, signed_decimal}
use Rattle.std.proofs.lemmas.Int.{to_z-of_z}
use Rattle.script_text.proofs.Written.{inverter_put}
use Rattle.script_text.proofs.text.numbered_inverter.Goals as goal

pub returns : goal.returns
returns c =
    inverter_put (codes "inverter") (decimal c.args.wmax) (signed_decimal c.args.wsf) _ (signed_decimal c.args.psf) _ (decimal c.args.floor) _ _ _ _ _ _
    (ap signed_decimal (to_z-of_z w8 c.args.wsf c.ranges.wsf)) (ap signed_decimal (to_z-of_z w8 c.args.psf c.ranges.psf))
    c.next.ensures.line c.signed.ensures.line c.signed-2.ensures.line c.next-2.ensures.line c.text.ensures.line c.new-pen.ensures.line
