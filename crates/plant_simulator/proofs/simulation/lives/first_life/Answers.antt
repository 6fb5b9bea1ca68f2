use Rattle.std.proofs.Common.{◌≡◌, ℕ, ◌≤◌, None, Some, sym, ap, ◌∙◌, inl, inr, ◌⊎◌}
use Rattle.plant_book.specs.Site.{SiteRecord}
use Rattle.plant_ledger.specs.declared.opening.OpenFault.{OpenFault}
use Rattle.plant_ledger.specs.declared.opening.OpenFault.TheVariants as faults
use Rattle.plant_ledger.specs.Opening.{open_fault}
use Rattle.plant_simulator.specs.Site.{site_of}
use Rattle.plant_simulator.proofs.Running.{no_fault}
use Rattle.plant_simulator.proofs.simulation.lives.first_life.Goals as goal

only_memory : (site : SiteRecord) (fault : OpenFault) → open_fault site ≡ None → ((open_fault site ≡ Some fault) ⊎ ((fault ≡ faults.NoMemory) × (open_fault site ≡ None))) → fault ≡ faults.NoMemory
only_memory site fault none refused =
    elim refused [
      | inl other ↦ absurd (let never = sym none ∙ other in cc)
      | inr memory ↦ memory.0
    ]

none_at : (site : SiteRecord) (n : ℕ) → site ≡ site_of n → 1 ≤ n → n ≤ 64 → open_fault site ≡ None
none_at site n is some few = ap open_fault is ∙ no_fault n some few

pub unreachable-requires : goal.unreachable-requires
unreachable-requires c =
    let none = none_at c.in_ok-site.site c.args.inverters c.in_ok-site.ensures c.requires.some c.requires.few in
    let memory = only_memory c.in_ok-site.site c.in-Err-NoInverter.field-0 none c.in-Err-NoInverter.ensures.refused in
    let is = c.in-Err-NoInverter.field-0-is in
    cc

pub unreachable-requires-in-Err-FloorsOverCap : goal.unreachable-requires-in-Err-FloorsOverCap
unreachable-requires-in-Err-FloorsOverCap c =
    let none = none_at c.in_ok-site.site c.args.inverters c.in_ok-site.ensures c.requires.some c.requires.few in
    let memory = only_memory c.in_ok-site.site c.in-Err-FloorsOverCap.field-0 none c.in-Err-FloorsOverCap.ensures.refused in
    let is = c.in-Err-FloorsOverCap.field-0-is in
    cc
