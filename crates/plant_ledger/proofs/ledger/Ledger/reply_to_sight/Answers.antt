use Rattle.std.proofs.Common.{◌≡◌, Bool, ℕ, Some, true, filter, length, sym, ap, ◌∙◌}
use Rattle.limiter_num.specs.declared.rules.Rules.{Rules}
use Rattle.plant_book.specs.declared.call.Reply.TheVariants as replies
use Rattle.plant_book.specs.declared.call.Write as writes
use Rattle.plant_book.specs.Writes.{frees}
use Rattle.plant_book.specs.Reserved.{covering}
use Rattle.plant_book.specs.Site.{floor_raw_at}
use Rattle.plant_book.specs.Answer as rule
use Rattle.uncertain_writes.specs.Live.{without}
use Rattle.plant_book.specs.declared.site.Unit.{Unit as Inverter}
use Rattle.plant_ledger.specs.Account.{most_of}
use Rattle.plant_ledger.proofs.Running.{most_of-is}
use Rattle.plant_ledger.proofs.ledger.Ledger.reply_to_sight.Goals as goal

freed_alike : (a b c d : ℕ) → a ≡ b → c ≡ d → replies.Freed a c ≡ replies.Freed b d
freed_alike a b c d one other = cc

pub returns : goal.returns
returns c before is =
    let a = c.args in
    let site = a.self.now.book.site in
    let its = c.live-live.result.now in
    let unit = c.account-account.result.now.unit in
    let free : Rules → writes.Write → Bool = λ rules write. frees rules (Some a.read.now) a.raw write in
    let count : c.freed.result ≡ length (filter (free site.rules) its) = c.freed.ensures ∙ ap (λ (rules : Rules). length (filter (free rules) its)) c.rules-rules.ensures in
    let watts : c.covering_left.result ≡ covering site a.inverter (without (free site.rules) its) =
    c.covering_left.ensures
    ∙ ap (λ (rules : Rules). most_of c.unit-2.result.now (without (free rules) its)) c.rules-rules.ensures
    ∙ ap (λ (u : Inverter). most_of u (without (free site.rules) its)) c.unit-2.ensures
    ∙ most_of-is site a.inverter unit (without (free site.rules) its) c.account-account.ensures.unit in
    let known : rule.is_raw_of (floor_raw_at site a.inverter) a.raw its ≡ true =
    ap (λ (floor : ℕ). rule.is_raw_of floor a.raw its) c.unit.ensures.numbers.floor_raw ∙ sym c.is_known.ensures ∙ c.if-not-is_known.false in
    let alike : replies.Freed c.freed.result c.covering_left.result ≡ rule.reply_to_sight site a.inverter (Some a.read.now) a.raw its = rw known (freed_alike _ _ _ _ count watts) in
    alike ∙ ap (rule.reply_to_sight site a.inverter (Some a.read.now) a.raw) (c.live-live.ensures ∙ (c.account-account.ensures.account before is).live)
