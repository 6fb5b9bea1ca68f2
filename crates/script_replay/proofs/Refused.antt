-- Sites of scripts that are refused, and those that are not.
use Rattle.std.proofs.Common.{◌≡◌, ℕ, false, eqb, ltb, List, Some, None, refl, sym, ap, ◌∙◌, arith}
use Rattle.std.proofs.lemmas.Bool.{ne_eqb, le-ltb}
use Rattle.std.proofs.lemmas.Option.{none-some}
use Rattle.plant_book.specs.Site.{SiteRecord, inverters, floors}
use Rattle.plant_book.specs.Answered.{IsOpenable}
use Rattle.plant_ledger.specs.declared.opening.OpenFault.{OpenFault}
use Rattle.plant_ledger.specs.Opening.{open_fault}
use Rattle.script_text.specs.Script.{ScriptRecord, IsScript}
use Rattle.script_text.specs.Size.{HasSize}
use Rattle.script_text.specs.declared.size.SiteSize as sizes
use Rattle.script_text.proofs.Once.{one_script, not_both}
use Rattle.script_replay.specs.declared.replay.ReplayFault.TheVariants as faults
use Rattle.script_replay.specs.Replay.{IsRefused, Explains}

pub openable_is : (site : SiteRecord) → IsOpenable site → open_fault site ≡ None
openable_is site openable =
    let some : eqb (inverters site) 0 ≡ false = ne_eqb (inverters site) 0 (omega (arith, openable.some)) in
    let few : ltb 64 (inverters site) ≡ false = le-ltb 64 (inverters site) openable.few in
    let fit : ltb site.cap (floors site) ≡ false = le-ltb site.cap (floors site) openable.floors in
    rw (some, few, fit) refl

-- what refuses the site of one script that the bytes spell refuses that of each
pub of_script : (bytes : List ℕ) (script : ScriptRecord) (fault : OpenFault) → IsScript bytes script → open_fault script.site ≡ Some fault → (other : ScriptRecord) → IsScript bytes other → open_fault other.site ≡ Some fault
of_script bytes script fault is refused other its = ap (λ (s : ScriptRecord). open_fault s.site) (one_script bytes other script its is) ∙ refused

pub not_refused_of : (bytes : List ℕ) (script : ScriptRecord) → IsScript bytes script → open_fault script.site ≡ None → (fault : OpenFault) → IsRefused bytes fault → ⊥
not_refused_of bytes script is none fault refused =
    none-some fault (sym none ∙ of_script bytes refused.script fault refused.is_script refused.refused script is)

-- a script whose site is refused for nothing has no fault
pub no_memory : (bytes : List ℕ) (script : ScriptRecord) → IsScript bytes script → open_fault script.site ≡ None → Explains faults.NoMemory bytes
no_memory bytes script is none = ((λ line kind bad. not_both bytes script line kind is bad), not_refused_of bytes script is none)

-- the fault of a script by the size of its site

pub sized_none : (bytes : List ℕ) (size : sizes.SiteSize) (has : HasSize bytes size) → None ≡ open_fault has.script.site → Explains faults.NoMemory bytes
sized_none bytes size has none = no_memory bytes has.script has.is_script (sym none)

pub sized_some : (bytes : List ℕ) (size : sizes.SiteSize) (fault : OpenFault) (has : HasSize bytes size) → Some fault ≡ open_fault has.script.site → IsRefused bytes fault
sized_some bytes size fault has some = record { script = has.script; is_script = has.is_script; refused = sym some }
