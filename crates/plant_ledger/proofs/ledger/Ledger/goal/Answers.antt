use Rattle.std.proofs.Common.{◌≡◌, ℕ, ◌+◌, min, sym, ap, ◌∙◌, arith}
use Rattle.plant_book.specs.Site.{raw_at}
use Rattle.plant_book.specs.Reserved as sums
use Rattle.plant_book.specs.Policy.{target_at}
use Rattle.plant_book.specs.Answer as rule
use Rattle.plant_book.specs.Part.{book_behind}
use Rattle.plant_book.proofs.Behind.{last_moment_of-is}
use Rattle.plant_ledger.proofs.ledger.Ledger.goal.Goals as goal

pub returns : goal.returns
unfolding rule.goal_raw
returns c before is =
    let part = c.args.self.now.book in
    let whole = book_behind before part in
    let last = sums.now_of whole in
    let now : c.args.self.now.at ≡ last = c.requires.last ∙ last_moment_of-is part before is in
    let its = c.reserved.ensures.watts before is ∙ ap (λ (n : ℕ). sums.reserved_at whole n c.args.inverter) now in
    let left = c.unreserved.ensures.watts before is ∙ ap (λ (n : ℕ). sums.unreserved_at whole n) now in
    let aim = c.target.ensures before is ∙ ap (λ (n : ℕ). target_at whole n c.args.inverter) now in
    let most : c.min.result ≡ min (target_at whole last c.args.inverter) (sums.reserved_at whole last c.args.inverter + sums.unreserved_at whole last) = omega (arith, its, left, aim, c.min.ensures) in
    c.raw_at_most.ensures ∙ sym (c.unit.ensures.numbers.raw c.min.result) ∙ ap (raw_at part.site c.args.inverter) most
