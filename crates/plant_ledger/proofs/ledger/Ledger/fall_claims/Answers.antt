use Rattle.std.proofs.Common.{◌≡◌, ℕ, length, map, sym, ap, ◌∙◌, arith, lit<}
use Rattle.std.specs.List.{range_with_len}
use Rattle.std.proofs.lemmas.List.FromFn.{map-range_with_len_more, length-map-range_with_len}
use Rattle.share_policy.specs.declared.claim.Claim.{Claim}
use Rattle.plant_book.specs.Site.{inverters}
use Rattle.plant_book.specs.Part.{book_behind}
use Rattle.plant_book.specs.Policy as rule
use Rattle.plant_book.proofs.Claims.{fall_claims-feasible}
use Rattle.plant_ledger.proofs.ledger.Ledger.fall_claims.Goals as goal

pub push-requires : goal.push-requires
push-requires c = (
  lit< tt,
  omega (
    arith,
    ap (length {A = Claim}) c.loop-inverter.invariant,
    length-map-range_with_len (rule.fall_claim c.args.self.now.book.site) 0 c.loop-inverter.inverter,
    c.loop-inverter-test.true,
    c.inverters-inverter-end.ensures.count,
    c.inverters-inverter-end.ensures.of_life.behind.book.openable.few,
  ),
)

pub loop-inverter-preserved : goal.loop-inverter-preserved
loop-inverter-preserved c =
    let i = c.loop-inverter.inverter in
    rw (c.push.ensures.items, c.loop-inverter.invariant, c.fall_claim.ensures) (sym (map-range_with_len_more (rule.fall_claim c.args.self.now.book.site) 0 i i (omega arith)))

pub returns-clause-feasible : goal.returns-clause-feasible
returns-clause-feasible c before is = fall_claims-feasible (book_behind before c.args.self.now.book) is.book

pub returns-clause-claims : goal.returns-clause-claims
unfolding rule.fall_claims
returns-clause-claims c =
    let site = c.args.self.now.book.site in
    let all : c.loop-inverter.inverter ≡ inverters site = omega (arith, c.loop-inverter-test.false, c.loop-inverter.auto.inverter-end, c.inverters-inverter-end.ensures.count) in
    c.loop-inverter.invariant ∙ ap (λ (n : ℕ). map (rule.fall_claim site) (range_with_len 0 n)) all
