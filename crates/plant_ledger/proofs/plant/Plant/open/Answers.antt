use Rattle.std.proofs.Common.{◌≡◌, ℕ, ◌≤◌, [], None, refl, sym, subst, arith}
use Rattle.plant_book.specs.declared.call.TheConstants.{MOMENT_MAX}
use Rattle.plant_book.specs.Site.{SiteRecord}
use Rattle.plant_book.specs.Answered.{IsOpenable}
use Rattle.plant_book.specs.Calls.{latest}
use Rattle.plant_book.proofs.Growth.{IsBook-empty}
use Rattle.plant_ledger.specs.Ledger.{LedgerRecord, IsAtLast}
use Rattle.plant_ledger.proofs.Kept.{kept_sound}
use Rattle.plant_ledger.proofs.plant.Plant.open.Goals as goal

-- the ledger of a life without calls
at_start : (site : SiteRecord) (start : ℕ) (ledger : LedgerRecord) → IsOpenable site → start ≤ MOMENT_MAX
    → ledger ≡ record { book = record { site = site; start = start; carry = None; entries = [] }; at = start } → IsAtLast ledger
unfolding latest
at_start site start ledger openable low is = subst IsAtLast (sym is) (record {
  kept = record {
    of_life = record { before = []; behind = record { carry = refl; book = IsBook-empty site start openable low } };
    room = omega arith;
    calls = omega (arith, openable.checked.room_high);
  };
  last = refl;
})

pub invariant_of-result : goal.invariant_of-result
invariant_of-result c = at_start c.args.site c.args.start c.in-Ok.ledger c.in_ok-refuse.ensures.openable c.requires.start c.in-Ok.ensures

pub returns-clause-sound : goal.returns-clause-sound
returns-clause-sound c = kept_sound _
