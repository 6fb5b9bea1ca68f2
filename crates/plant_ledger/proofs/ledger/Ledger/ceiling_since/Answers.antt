use Rattle.std.proofs.Common.{◌≡◌, ℕ, max, sym, ap, ◌∙◌, arith}
use Rattle.limiter_num.specs.Timers.{reach}
use Rattle.plant_book.specs.Sums.{last_that}
use Rattle.plant_book.specs.Caps as rule
use Rattle.plant_book.specs.Part.{book_behind}
use Rattle.plant_book.proofs.Behind.{last_moment_of-is}
use Rattle.plant_book.proofs.Marks.{ceiling_within, ceiling_past}
use Rattle.plant_ledger.proofs.ledger.Ledger.ceiling_since.Goals as goal

pub returns-in-Some : goal.returns-in-Some
returns-in-Some c before is from =
    let part = c.args.self.now.book in
    let whole = book_behind before part in
    let now = last_moment_of-is part before is in
    let rules : reach c.rules.result ≡ reach part.site.rules = ap reach c.rules.ensures in
    let within = ceiling_within whole (last_that rule.sets_cap whole.entries) c.in-Some.mark (sym c.in-Some.is ∙ from) (omega (arith, rules, now, c.now.ensures.now, c.requires.last, c.reach-reach.ensures.moment, c.if-now-saturating_add.true, c.saturating_add.ensures)) in
    c.max.ensures ∙ ap (λ (n : ℕ). max n c.in-Some.mark.was) (c.cap-cap.ensures.cap before is) ∙ within

pub returns-in-Some-2 : goal.returns-in-Some-2
returns-in-Some-2 c before is from =
    let part = c.args.self.now.book in
    let whole = book_behind before part in
    let now = last_moment_of-is part before is in
    let rules : reach c.rules.result ≡ reach part.site.rules = ap reach c.rules.ensures in
    c.cap-cap.ensures.cap before is
    ∙ ceiling_past whole (last_that rule.sets_cap whole.entries) c.in-Some.mark (sym c.in-Some.is ∙ from) (omega (arith, rules, now, c.now.ensures.now, c.requires.last, c.now.type_inv, c.reach-reach.ensures.moment, c.if-now-saturating_add.false, c.saturating_add.ensures))
