use Rattle.std.proofs.Common.{◌≡◌, ℕ, ◌<◌, ◌≤◌, Option, List, length, get_or, sym, subst, ap, ◌∙◌, arith}
use Rattle.plant_book.specs.Part.{book_behind}
use Rattle.plant_book.specs.declared.book.Entry.{Entry}
use Rattle.std.specs.Prelude.{IfSome}
use Rattle.std.specs.List.{All}
use Rattle.limiter_num.specs.declared.rules.Rules.{Rules}
use Rattle.limiter_num.specs.Timers.{last_moment}
use Rattle.plant_book.specs.Site.{inverters}
use Rattle.plant_book.specs.declared.call.Reply.{Reply}
use Rattle.plant_ledger.specs.Account.{Account, HasRoom}
use Rattle.plant_ledger.specs.declared.known.Known.{Known}
use Rattle.plant_ledger.specs.Ledger.{LedgerRecord, IsLevel, IsFallLevel, Keeps}
use Rattle.plant_ledger.specs.Plant.{with_one}
use Rattle.plant_book.specs.Reserved.{total_at}
use Rattle.plant_book.specs.Carry.{mark_of, EachBook}
use Rattle.plant_book.specs.declared.call.Reply.TheVariants as replies
use Rattle.plant_ledger.proofs.Standing.{queued_entered, has_place, any_account}
use Rattle.plant_ledger.proofs.Running.{total_is, mark_next}
use Rattle.plant_ledger.proofs.Accounts.{MayFollow, Follow, whole, may_enter, without_one, next_of, links_left, room_left, next_left, few_live}
use Rattle.plant_ledger.proofs.ledger.Ledger.enter.Goals as goal

pub follow-requires-clause-links : goal.follow-requires-clause-links
follow-requires-clause-links c = λ inverter otherwise is.
    let inside = c.self.inside in
    let may : MayFollow inside.book inside.moment c.args.entry =
    subst (λ (ledger : LedgerRecord). MayFollow ledger.book ledger.at c.args.entry) (sym c.self.view_is)
    (record { calls = c.requires.life; next = c.requires.next; answer = c.requires.answer; at_once = c.requires.now }) in
    let before = c.self.invariant.numbers.of_life.before in
    let behind = c.self.invariant.numbers.of_life.behind in
    rw c.deref_mut.ensures.value (links_left (book_behind before inside.book) c.args.entry inside.moment inside.accounts.items inside.cap inside.stopped (c.self.invariant.numbers.each before behind)
    (may_enter inside.book inside.moment c.args.entry before may behind) inverter otherwise is)

pub follow-requires-clause-room : goal.follow-requires-clause-room
follow-requires-clause-room c = λ inverter otherwise is.
    let inside = c.self.inside in
    let may : MayFollow inside.book inside.moment c.args.entry =
    subst (λ (ledger : LedgerRecord). MayFollow ledger.book ledger.at c.args.entry) (sym c.self.view_is)
    (record { calls = c.requires.life; next = c.requires.next; answer = c.requires.answer; at_once = c.requires.now }) in
    let before = c.self.invariant.numbers.of_life.before in
    let behind = c.self.invariant.numbers.of_life.behind in
    rw c.deref_mut.ensures.value (room_left (book_behind before inside.book) c.args.entry inside.moment inside.accounts.items inside.cap inside.stopped (c.self.invariant.numbers.each before behind)
    (may_enter inside.book inside.moment c.args.entry before may behind) inverter otherwise is)

pub invariant_of-self : goal.invariant_of-self
invariant_of-self c =
    let inside = c.self.inside in
    let same_rules : c.rules-rules.result ≡ c.self.inside.book.site.rules = c.rules-rules.ensures ∙ ap (λ (l : LedgerRecord). l.book.site.rules) (sym c.self.view_is) in
    let may : MayFollow inside.book inside.moment c.args.entry =
    subst (λ (ledger : LedgerRecord). MayFollow ledger.book ledger.at c.args.entry) (sym c.self.view_is)
    (record { calls = c.requires.life; next = c.requires.next; answer = c.requires.answer; at_once = c.requires.now }) in
    let old : List Account = inside.accounts.items in
    let new = c.follow.new.accounts in
    let follow : (before : List Entry) → Follow (book_behind before inside.book) c.args.entry old new = λ before. record {
      follows = λ inverter otherwise is. rw (c.deref_mut.ensures.value, same_rules) at (c.follow.ensures.named inverter otherwise is);
      stays = λ is. c.follow.ensures.unnamed is ∙ c.deref_mut.ensures.value;
    } in
    let len : length new ≡ inside.accounts.len = omega (arith, c.follow.auto.accounts, c.deref_mut.ensures.len) in
    let count : length new ≡ length old = omega (arith, c.follow.auto.accounts, ap (λ (all : List Account). length all) c.deref_mut.ensures.value) in
    let claims = c.follow.new.claims in
    let claims_len : length claims ≡ inside.claims.len = omega (arith, c.follow.auto.claims, c.deref_mut-2.ensures.len) in
    let kept = c.self.invariant in
    let sums = c.follow.new.sums in
    let level = c.follow.ensures.level inside.cap (subst (λ (all : List Account). IsLevel inside.cap all inside.sums.level) (sym c.deref_mut.ensures.value) kept.level) in
    let fall = subst (λ (made : Option ℕ). IsFallLevel inside.cap inside.book.site made) (sym c.follow.ensures.fall) kept.fall in
    let numbers = next_of inside.book c.args.entry inside.moment old new inside.cap inside.stopped kept.numbers may count follow c.cap_after-cap.result c.is_stopped_after-self-inside.result c.cap_after-cap.ensures c.is_stopped_after-self-inside.ensures in
    let same : c.under.new.self.set ≡ inside.sums.set = c.under.ensures.set ∙ c.follow.ensures.set in
    let under = c.under.ensures.sums new c.follow.ensures.sums in
    let mark : EachBook (with_one inside.book c.args.entry) (λ whole. c.mark.new.self.set ≡ mark_of whole) = λ before is.
    let whole = book_behind before (with_one inside.book c.args.entry) in
    let total = under.total ∙ total_is whole inside.moment new (numbers.each before is).of_inverters ∙ ap (total_at whole) (sym may.at_once) in
    c.mark.ensures.set ∙ mark_next inside.book before c.args.entry c.under.new.self.total c.under.new.self.set (same ∙ kept.set before (without_one before inside.book c.args.entry is)) total in
    let marked = c.mark.ensures.sums new under in
    let moved = c.follow_queue.ensures in
    let before = kept.numbers.of_life.before in
    let behind = kept.numbers.of_life.behind in
    let its_enter = may_enter inside.book inside.moment c.args.entry before may behind in
    let all : Keeps (with_one inside.book c.args.entry) inside.moment new claims c.follow_queue.new.expiries (record { total = c.mark.new.self.total; oldest = c.mark.new.self.oldest; level = c.mark.new.self.level; fall = c.mark.new.self.fall; set = c.mark.new.self.set }) c.cap_after-cap.result c.is_stopped_after-self-inside.result inside.reach =
    record {
      numbers = numbers;
      reach_is = kept.reach_is;
      reach_low = kept.reach_low;
      claims_are = c.follow.ensures.claims;
      sums = record { total = marked.total; each = marked.each; oldest = marked.oldest };
      level = subst (λ (made : Known). IsLevel c.cap_after-cap.result new made) (sym c.mark.ensures.level) (c.under.ensures.level new level);
      fall = subst (λ (made : Option ℕ). IsFallLevel c.cap_after-cap.result inside.book.site made) (sym c.mark.ensures.fall) (c.under.ensures.fall inside.book.site fall);
      set = mark;
      queued = queued_entered inside.book.site.rules inside.moment c.args.entry old new inside.expiries c.follow_queue.new.expiries count
          (follow c.self.invariant.numbers.of_life.before).follows (follow c.self.invariant.numbers.of_life.before).stays
          (λ inverter otherwise is. rw (c.deref.ensures.value, same_rules) at (moved.follows inverter otherwise is)) moved.stays
          (λ inverter is. omega (arith, subst (λ (o : Option ℕ). IfSome o (λ i. i < inverters inside.book.site)) is its_enter.next.of_site, kept.numbers.count))
          (λ inverter otherwise write is grants. next_left (book_behind before inside.book) c.args.entry inside.moment old inside.cap inside.stopped (kept.numbers.each before behind)
          its_enter inverter otherwise is write grants)
          kept.queued;
    } in
    rw (c.push.ensures, whole new old inside.accounts.len len, whole claims inside.claims.items inside.claims.len claims_len) all

pub follow_queue-requires-clause-room : goal.follow_queue-requires-clause-room
follow_queue-requires-clause-room c = λ inverter write is grants.
    let inside = c.self.inside in
    let same_rules : c.rules-rules.result ≡ c.self.inside.book.site.rules = c.rules-rules.ensures ∙ ap (λ (l : LedgerRecord). l.book.site.rules) (sym c.self.view_is) in
    let rules = inside.book.site.rules in
    let kept = c.self.invariant in
    let may : MayFollow inside.book inside.moment c.args.entry =
    subst (λ (ledger : LedgerRecord). MayFollow ledger.book ledger.at c.args.entry) (sym c.self.view_is)
    (record { calls = c.requires.life; next = c.requires.next; answer = c.requires.answer; at_once = c.requires.now }) in
    let before = kept.numbers.of_life.before in
    let behind = kept.numbers.of_life.behind in
    let whole = book_behind before inside.book in
    let accounts : List Account = inside.accounts.items in
    let ledger = kept.numbers.each before behind in
    let its_enter = may_enter inside.book inside.moment c.args.entry before may behind in
    let within : inverter < length accounts = omega (arith, subst (λ (o : Option ℕ). IfSome o (λ i. i < inverters inside.book.site)) is its_enter.next.of_site, kept.numbers.count) in
    let any = any_account accounts (omega (arith, within)) in
    let next = next_left whole c.args.entry inside.moment accounts inside.cap inside.stopped ledger its_enter inverter any is write grants in
    let room : HasRoom (replies.Granted write) (get_or accounts inverter any) =
    subst (λ (reply : Reply). HasRoom reply (get_or accounts inverter any)) grants
    (room_left whole c.args.entry inside.moment accounts inside.cap inside.stopped ledger its_enter inverter any is) in
    let few = has_place rules inside.moment inside.expiries accounts inverter write any kept.queued (omega (arith, kept.numbers.count, kept.numbers.of_life.behind.book.openable.few)) within
    room.1 (λ i below. few_live whole inside.moment accounts inside.cap inside.stopped ledger i any below) in
    let latest = subst (λ (n : ℕ). All (λ due. due.last ≤ last_moment rules n) inside.expiries) (sym next.at) kept.queued.in_time in (
      omega (arith, next.at, ledger.high),
      few,
      subst (λ (r : Rules). All (λ due. due.last ≤ last_moment r write.at) inside.expiries) (sym same_rules) latest,
    )
