use Rattle.std.proofs.Common.{◌≡◌, ℕ, length, map, sym, ap, ◌∙◌, arith, lit<}
use Rattle.std.specs.List.{range_with_len}
use Rattle.std.proofs.lemmas.List.FromFn.{map-range_with_len_more, length-map-range_with_len}
use Rattle.share_policy.specs.declared.claim.Claim.{Claim}
use Rattle.plant_book.specs.Site.{inverters}
use Rattle.plant_book.specs.Policy as rule
use Rattle.plant_book.proofs.policy.fall_claims.Goals as goal

pub push-requires : goal.push-requires
push-requires c = (
  lit< tt,
  omega (
    arith,
    ap (length {A = Claim}) c.loop-inverter.invariant,
    length-map-range_with_len (rule.fall_claim c.args.book.now.site) 0 c.loop-inverter.inverter,
    c.loop-inverter-test.true,
    c.inverters-inverter-end.ensures,
    c.requires.few,
  ),
)

pub loop-inverter-preserved : goal.loop-inverter-preserved
loop-inverter-preserved c =
    let a = c.args in
    let i = c.loop-inverter.inverter in
    rw (c.push.ensures.items, c.loop-inverter.invariant, c.fall_claim.ensures) (sym (map-range_with_len_more (rule.fall_claim a.book.now.site) 0 i i (omega arith)))

pub returns : goal.returns
unfolding rule.fall_claims
returns c =
    let book = c.args.book.now in
    let all : c.loop-inverter.inverter ≡ inverters book.site = omega (arith, c.loop-inverter-test.false, c.loop-inverter.auto.inverter-end, c.inverters-inverter-end.ensures) in
    c.loop-inverter.invariant ∙ ap (λ (n : ℕ). map (rule.fall_claim book.site) (range_with_len 0 n)) all
