use Rattle.std.proofs.Common.{◌≡◌, ℕ, refl, sym, ◌∙◌}
use Rattle.share_policy.specs.declared.claim.Claim.{Claim}
use Rattle.plant_book.proofs.Inverters.{floor_at-is, rated_at-is}
use Rattle.plant_ledger.proofs.ledger.Ledger.fall_claim.Goals as goal

claim_with : (floor rated other most : ℕ) → floor ≡ other → rated ≡ most
    → ◌≡◌ {A = Claim} (record { floor = floor; wish = rated; rated = rated }) (record { floor = other; wish = most; rated = most })
claim_with floor rated other most a b = rw (a, b) refl

pub returns : goal.returns
returns c =
    let site = c.args.self.now.book.site in
    let unit = c.account-account.result.now.unit in
    claim_with _ _ _ _ (c.floor.ensures.watts ∙ sym (floor_at-is site c.args.inverter unit c.account-account.ensures.unit))
    (c.rated-rated.ensures ∙ sym (rated_at-is site c.args.inverter unit c.account-account.ensures.unit))
