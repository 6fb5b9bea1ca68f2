use Rattle.std.proofs.Common.{◌≡◌, ℕ, ◌-◌, true, not, filter, length, sym, ap, ◌∙◌, arith}
use Rattle.plant_book.specs.declared.call.Reply.TheVariants as replies
use Rattle.plant_book.specs.declared.call.Write as writes
use Rattle.plant_book.specs.Writes.{frees}
use Rattle.plant_book.specs.Reserved.{covering}
use Rattle.plant_book.specs.Site.{floor_raw_at}
use Rattle.plant_book.specs.Answer as rule
use Rattle.plant_book.proofs.Few.{length-filter_not}
use Rattle.plant_book.proofs.replies.reply_to_sight.Goals as goal

freed_alike : (a b c d : ℕ) → a ≡ b → c ≡ d → replies.Freed a c ≡ replies.Freed b d
freed_alike a b c d one other = cc

pub overflow_sub-result : goal.overflow_sub-result
overflow_sub-result c =
    let left = rw c.rules.ensures at c.left_by-left.ensures in
    omega (arith, c.len.ensures.value, c.len-2.ensures.value, ap (length {A = writes.Write}) left, length-filter_not (frees c.args.book.now.site.rules c.args.pending c.args.raw) c.args.live.now.items)

pub returns : goal.returns
returns c =
    let a = c.args in
    let site = a.book.now.site in
    let left : c.left_by-left.result.items ≡ filter (λ write. not (frees site.rules a.pending a.raw write)) a.live.now.items = rw c.rules.ensures at c.left_by-left.ensures in
    let count : c.len.result - c.len-2.result ≡ length (filter (frees site.rules a.pending a.raw) a.live.now.items) =
    omega (arith, c.len.ensures.value, c.len-2.ensures.value, ap (length {A = writes.Write}) left, length-filter_not (frees site.rules a.pending a.raw) a.live.now.items) in
    let watts : c.covering.result ≡ covering site a.inverter (filter (λ write. not (frees site.rules a.pending a.raw write)) a.live.now.items) =
    c.covering.ensures.watts ∙ ap (covering site a.inverter) (c.as_slice.ensures.value ∙ left) in
    let known : rule.is_raw_of (floor_raw_at site a.inverter) a.raw a.live.now.items ≡ true =
    ap (λ (floor : ℕ). rule.is_raw_of floor a.raw a.live.now.items) (sym c.floor_raw.ensures) ∙ sym c.is_known.ensures ∙ c.if-not-is_known.false in
    rw known (freed_alike _ _ _ _ count watts)
