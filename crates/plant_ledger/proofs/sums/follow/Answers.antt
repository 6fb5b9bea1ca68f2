use Rattle.std.proofs.Common.{◌≡◌, ◌<◌, List, length, get_or, map, refl, sym, ap, subst, ◌∙◌, arith, rules, Bool, true, false}
use Rattle.std.proofs.Math.Bool.{beq}
use Rattle.std.specs.Prelude.{slice_set}
use Rattle.std.proofs.lemmas.List.{map-set, length-map}
use Rattle.std.proofs.Math.Seq.{map-set_same}
use Rattle.share_policy.specs.declared.claim.Claim.{Claim}
use Rattle.plant_ledger.specs.Account.{Account, claim_by}
use Rattle.plant_ledger.specs.Known.{IsKnown}
use Rattle.plant_ledger.proofs.Following.{unit_stays}
use Rattle.plant_ledger.proofs.Running.{total_low, level_next}
use Rattle.plant_ledger.proofs.sums.follow.Goals as goal

pub overflow_add-sums : goal.overflow_add-sums
overflow_add-sums c = omega (arith, c.reserved.ensures.below, c.requires.sums.total, total_low c.args.accounts.now c.requires.few c.requires.sums.each)

-- the claim where there is none
abbrev no_claim : Claim
no_claim = record { floor = 0; wish = 0; rated = 0 }

agree : (a b : Bool) → beq a b ≡ true → a ≡ b
agree true true is = refl
agree false false is = refl
agree true false is = absurd cc
agree false true is = absurd cc

claim_stays : (new old : Account) → new.unit ≡ old.unit → new.wish ≡ old.wish → new.strange ≡ old.strange → claim_by new ≡ claim_by old
claim_stays new old unit wish strange = rw (unit, wish, strange) refl

module _ (c : goal.Then-is_strange-strange) where
  same : claim_by c.follow.new.self ≡ claim_by (get_or c.args.accounts.now c.from-place.result c.index-accounts-place.result)
  same =
      let old = get_or c.args.accounts.now c.from-place.result c.index-accounts-place.result in
      let entry = c.args.entry.now in
      claim_stays c.follow.new.self old
      (ap (λ (account : Account). account.unit) c.follow.ensures ∙ unit_stays c.args.rules.now entry.call entry.reply old)
      (sym c.wish.ensures ∙ c.if-wish.true ∙ c.wish-wish.ensures)
      (sym c.is_strange.ensures ∙ agree c.is_strange.result c.is_strange-strange.result c.if-is_strange-strange.true ∙ c.is_strange-strange.ensures)

pub returns-then-is_strange-strange-clause-level : goal.returns-then-is_strange-strange-clause-level
returns-then-is_strange-strange-clause-level c = λ cap is.
    level_next cap c.args.accounts.now c.from-place.result c.follow.new.self c.index-accounts-place.result c.args.sums.now.level (same c) is

pub returns-then-is_strange-strange-clause-claims : goal.returns-then-is_strange-strange-clause-claims
returns-then-is_strange-strange-clause-claims c =
    c.requires.claims ∙ sym (map-set_same claim_by c.args.accounts.now c.from-place.result c.follow.new.self c.index-accounts-place.result (same c))

pub returns-clause-level : goal.returns-clause-level
returns-clause-level c = λ cap is.
    let place = c.from-place.result in
    let accounts = c.args.accounts.now in
    let within : place < length accounts = search rules in
    subst (λ (claims : List Claim). IsKnown cap claims c.moved-sums.result)
    (ap (λ (claim : Claim). slice_set (map claim_by accounts) place claim) c.claim-next.ensures ∙ sym (map-set claim_by accounts place c.follow.new.self))
    (c.moved-sums.ensures cap place (map claim_by accounts) no_claim (omega (arith, within, length-map accounts claim_by))
    (ap (λ (all : List Claim). get_or all place no_claim) (sym c.requires.claims)) is)

pub returns-clause-claims : goal.returns-clause-claims
returns-clause-claims c =
    let place = c.from-place.result in
    let next = c.claim-next.result in
    ap (λ (all : List Claim). slice_set all place next) c.requires.claims
    ∙ ap (λ (claim : Claim). slice_set (map claim_by c.args.accounts.now) place claim) c.claim-next.ensures
    ∙ sym (map-set claim_by c.args.accounts.now place c.follow.new.self)
