use Rattle.std.specs.Prelude.{codes}
use Rattle.std.specs.Fmt.{decimal}
use Rattle.script_text.specs.Grammar.{policy_word}
use Rattle.script_text.proofs.Written.{site_put}
use Rattle.script_text.proofs.text.numbered_site.Goals as goal

pub returns : goal.returns
returns c =
    site_put (codes "site") (decimal c.args.cap) (decimal c.args.send) (decimal c.args.delay) (decimal c.args.timer) (decimal c.args.per_mille) (decimal c.args.slack) (policy_word c.args.policy) (decimal c.args.room)
    _ _ _ _ _ _ _ _ _ _ c.next.ensures.line c.put_policy.ensures.line c.next-2.ensures.line c.next-3.ensures.line c.next-4.ensures.line c.next-5.ensures.line c.next-6.ensures.line c.next-7.ensures.line c.text.ensures.line c.new-pen.ensures.line
