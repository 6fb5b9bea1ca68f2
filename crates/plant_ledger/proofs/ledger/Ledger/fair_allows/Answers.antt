use Rattle.std.proofs.Common.{sym, ◌∙◌, arith}
use Rattle.plant_book.specs.Part.{book_behind}
use Rattle.plant_book.specs.Caps.{cap_of}
use Rattle.plant_book.specs.Policy as rule
use Rattle.share_policy.specs.Shares.{level_of}
use Rattle.plant_ledger.proofs.Reaching.{share_low, share_unwished, share_unrated, share_by_level}
use Rattle.plant_ledger.proofs.ledger.Ledger.fair_allows.Goals as goal

pub returns-then-mw-claim : goal.returns-then-mw-claim
returns-then-mw-claim c before is =
    let whole = book_behind before c.args.self.now.book in
    sym (share_low c.args.mw (level_of (cap_of whole) (rule.claims whole)) c.args.claim.now (omega (arith, c.if-mw-claim.true)))

pub returns-then-mw-claim-2 : goal.returns-then-mw-claim-2
returns-then-mw-claim-2 c before is =
    let whole = book_behind before c.args.self.now.book in
    sym (share_unwished c.args.mw (level_of (cap_of whole) (rule.claims whole)) c.args.claim.now (omega (arith, c.if-mw-claim.false)) (omega (arith, c.if-mw-claim-2.true)))

pub returns-then-mw-claim-3 : goal.returns-then-mw-claim-3
returns-then-mw-claim-3 c before is =
    let whole = book_behind before c.args.self.now.book in
    sym (share_unrated c.args.mw (level_of (cap_of whole) (rule.claims whole)) c.args.claim.now (omega (arith, c.if-mw-claim.false)) (omega (arith, c.if-mw-claim-3.true)))

pub returns : goal.returns
returns c before is =
    let whole = book_behind before c.args.self.now.book in
    c.reaches.ensures before is
    ∙ share_by_level c.args.mw (level_of (cap_of whole) (rule.claims whole)) c.args.claim.now (omega (arith, c.if-mw-claim.false)) (omega (arith, c.if-mw-claim-2.false)) (omega (arith, c.if-mw-claim-3.false))
