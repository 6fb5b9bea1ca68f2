use Rattle.std.proofs.Common.{◌≡◌, ℕ, ◌+◌, ◌-◌, min, ap, ◌∙◌, arith}
use Rattle.plant_book.specs.Site.{raw_at}
use Rattle.plant_book.specs.Caps.{cap_of}
use Rattle.plant_book.specs.Reserved as sums
use Rattle.plant_book.specs.Policy.{target_at}
use Rattle.plant_book.specs.Answer as rule
use Rattle.plant_book.specs.Part.{book_behind}
use Rattle.plant_book.proofs.Behind.{last_moment_of-is}
use Rattle.plant_book.proofs.replies.goal_plain.Goals as goal

pub returns : goal.returns
unfolding rule.goal_raw sums.unreserved_at
returns c before is =
    let part = c.args.book.now in
    let whole = book_behind before part in
    let now : c.latest-now.result ≡ sums.now_of whole = c.latest-now.ensures ∙ last_moment_of-is part before is in
    let all = c.total_at.ensures before is ∙ ap (sums.total_at whole) now in
    let its = c.reserved_at.ensures.watts before is ∙ ap (λ (n : ℕ). sums.reserved_at whole n c.args.inverter) now in
    let aim = c.target_at.ensures before is ∙ ap (λ (n : ℕ). target_at whole n c.args.inverter) now in
    let most : c.min.result ≡ min (target_at whole (sums.now_of whole) c.args.inverter) (sums.reserved_at whole (sums.now_of whole) c.args.inverter + (cap_of whole - sums.total_at whole (sums.now_of whole))) =
    omega (arith, all, its, aim, c.cap_plain.ensures.cap before is, c.saturating_sub-unreserved.ensures, c.min.ensures) in
    c.raw_at_most.ensures ∙ ap (raw_at part.site c.args.inverter) most
