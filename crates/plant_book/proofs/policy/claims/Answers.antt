use Rattle.std.proofs.Common.{◌≡◌, ℕ, map, sym, ap, ◌∙◌, arith, lit<}
use Rattle.std.specs.List.{range_with_len}
use Rattle.std.proofs.lemmas.List.{length_push}
use Rattle.std.proofs.lemmas.List.FromFn.{map-range_with_len_more}
use Rattle.plant_book.specs.Site.{inverters}
use Rattle.plant_book.specs.Policy as rule
use Rattle.plant_book.specs.Part.{book_behind}
use Rattle.plant_book.proofs.policy.claims.Goals as goal

pub push-requires : goal.push-requires
push-requires c = (lit< tt, omega (arith, c.loop-inverter.invariant.few, c.loop-inverter-test.true, c.inverters-inverter-end.ensures, c.requires.few))

pub loop-inverter-preserved : goal.loop-inverter-preserved
loop-inverter-preserved c =
    let a = c.args in
    let i = c.loop-inverter.inverter in
    record {
      claimed = λ before is. rw (c.push.ensures.items, c.loop-inverter.invariant.claimed before is, c.claim_of.ensures before is) (sym (map-range_with_len_more (rule.claim_of (book_behind before a.book.now)) 0 i i (omega arith)));
      few = rw c.push.ensures.items (omega (arith, length_push c.loop-inverter.claims.items c.claim_of.result, c.loop-inverter.invariant.few));
    }

pub returns : goal.returns
unfolding rule.claims
returns c before is =
    let book = c.args.book.now in
    let all : c.loop-inverter.inverter ≡ inverters book.site = omega (arith, c.loop-inverter-test.false, c.loop-inverter.auto.inverter-end, c.inverters-inverter-end.ensures) in
    c.loop-inverter.invariant.claimed before is ∙ ap (λ (n : ℕ). map (rule.claim_of (book_behind before book)) (range_with_len 0 n)) all
