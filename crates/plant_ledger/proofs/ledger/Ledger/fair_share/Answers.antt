use Rattle.std.proofs.Common.{◌∙◌, sym, arith}
use Rattle.std.proofs.lemmas.Bool.{leb-true}
use Rattle.plant_book.specs.Part.{book_behind}
use Rattle.plant_book.specs.Caps.{cap_of}
use Rattle.plant_book.specs.Policy as rule
use Rattle.share_policy.specs.Shares.{level_of}
use Rattle.plant_ledger.proofs.Reaching.{share_whole}
use Rattle.plant_ledger.proofs.ledger.Ledger.fair_share.Goals as goal

pub returns-then-reaches : goal.returns-then-reaches
returns-then-reaches c before is =
    let whole = book_behind before c.args.self.now.book in
    let level = level_of (cap_of whole) (rule.claims whole) in
    let le = leb-true c.min-most.result level (sym (c.reaches.ensures before is) ∙ c.if-reaches.true) in
    share_whole c.max.result level c.args.claim.now (omega (arith, c.max.ensures, c.min-most.ensures)) (omega (arith, c.min-most.ensures, le))
