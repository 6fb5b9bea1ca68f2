use Rattle.std.proofs.Common.{◌≡◌, subst, ap, ◌∙◌, arith}
use Rattle.std.specs.Prelude.{Result, Ok, Err, IfOk, IfErr, length}
use Rattle.plant_book.specs.declared.call.Call.{Call}
use Rattle.plant_book.specs.Reserved.{now_of}
use Rattle.plant_book.specs.Part.{PartRecord, first_book}
use Rattle.plant_book.proofs.Cap.{total_at-capped}
use Rattle.plant_book.proofs.Behind.{behind_nothing}
use Rattle.plant_ledger.specs.declared.plant.BookFull.{BookFull}
use Rattle.plant_ledger.specs.declared.plant.Outcome.{Outcome}
use Rattle.plant_ledger.specs.Plant.{entered}
use Rattle.restart_silence.specs.Chain.{GoesOn}
use Rattle.restart_silence.proofs.Chain.{goes_on}
use Rattle.restart_silence.proofs.lives.Lives.apply.Goals as goal

-- a call leaves the site, the start and the carry
record SameLife (old new : PartRecord) : Type 0 where
  site : new.site ≡ old.site
  start : new.start ≡ old.start
  carry : new.carry ≡ old.carry

same_life : (old new : PartRecord) (call : Call) (result : Result Outcome BookFull) → IfOk result (λ outcome. new ≡ entered old call outcome.reply)
    → IfErr result (λ full. (full.calls ≡ length old.entries) × (full.calls ≡ old.site.room) × (new ≡ old)) → SameLife old new
same_life old new call (Ok outcome) is full = record { site = ap (λ (b : PartRecord). b.site) is; start = ap (λ (b : PartRecord). b.start) is; carry = ap (λ (b : PartRecord). b.carry) is }
same_life old new call (Err full) is same = record { site = ap (λ (b : PartRecord). b.site) same.2; start = ap (λ (b : PartRecord). b.start) same.2; carry = ap (λ (b : PartRecord). b.carry) same.2 }

pub returns-clause-chain : goal.returns-clause-chain
returns-clause-chain c =
    let old = c.self.inside.plant in
    let new = c.apply.new.self in
    let same = same_life old new c.args.call c.apply.result c.apply.ensures.entered c.apply.ensures.full in
    let book = (behind_nothing new c.apply.ensures.kept.of_life (same.carry ∙ c.self.invariant)).book in
    subst (λ (b : PartRecord). GoesOn (first_book b) (first_book new)) c.self.view_is (goes_on (first_book old) (first_book new) book same.site same.start)

pub returns-clause-capped : goal.returns-clause-capped
returns-clause-capped c =
    let new = c.apply.new.self in
    let same = same_life c.self.inside.plant new c.args.call c.apply.result c.apply.ensures.entered c.apply.ensures.full in
    let book = (behind_nothing new c.apply.ensures.kept.of_life (same.carry ∙ c.self.invariant)).book in
    total_at-capped (first_book new) book (now_of (first_book new)) (omega arith)
