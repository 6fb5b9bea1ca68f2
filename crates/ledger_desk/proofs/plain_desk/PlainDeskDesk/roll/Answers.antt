-- The desk of a plant after a roll.
use Rattle.std.proofs.Common.{◌≡◌, ℕ, List, ◌++◌, ◌∷◌, [], length, Result, Ok, subst, sym, ap, ◌∙◌}
use Rattle.std.specs.Prelude.{IfOk, OnOk}
use Rattle.plant_book.specs.declared.book.Entry.{Entry}
use Rattle.plant_book.specs.Part.{PartRecord}
use Rattle.plant_book.specs.Carry.{IsBehind, EachBefore}
use Rattle.plant_ledger.specs.Plant.{Rolls}
use Rattle.ledger_desk.specs.Desk.{TestsLast}
use Rattle.ledger_desk.specs.Plain.{PlainRecord, joined, front, tests_of, life_of, Ended, IsKeptDesk}
use Rattle.ledger_desk.proofs.Later.{tests_last, rolled_from, life_same}
use Rattle.ledger_desk.proofs.Rolled.{carry, rolled_later, kept_next, ended_by}
use Rattle.ledger_desk.specs.contracts.plain_desk.PlainDesk as desk
use Rattle.ledger_desk.proofs.plain_desk.PlainDeskDesk.roll.Goals as goal

abbrev desk_of : PartRecord → List Entry → ℕ → List ℕ → PlainRecord
desk_of book before begun rolls = record { book = book; before = before; begun = begun; rolls = rolls }

-- what a roll that worked says
on_ok : {A E : Type 0} (P : Type 0) (result : Result A E) (a : A) → result ≡ Ok a → OnOk result P → P
on_ok P result a is fact = subst (λ r. OnOk r P) is fact

if_ok : {A E : Type 0} (P : A → Type 0) (result : Result A E) (a : A) → result ≡ Ok a → IfOk result P → P a
if_ok P result a is fact = subst (λ r. IfOk r P) is fact

desks_same : {book other : PartRecord} {before earlier : List Entry} {begun : ℕ} {rolls places : List ℕ} → book ≡ other → before ≡ earlier → rolls ≡ places
    → desk_of book before begun rolls ≡ desk_of other earlier begun places
desks_same book before rolls = cc

module _ (c : goal.After-push_reserved) where
  abbrev old : PlainRecord
  old = desk.the_view c.self.inside

  abbrev new : PlainRecord
  new = record { book = c.roll.new.self; before = c.append_reserved.new.entries.items; begun = c.self.inside.begun; rolls = c.push_reserved.new.self.items }

  rolls : Rolls old.before old.book c.roll.new.self
  rolls = on_ok (EachBefore old.book (λ before. Rolls before old.book c.roll.new.self)) c.roll.result c.in_ok-ended.ended c.in_ok-ended.was c.roll.ensures.lives old.before c.self.invariant.behind

  ended : c.in_ok-ended.ended ≡ old.book
  ended = if_ok (λ book. book ≡ old.book) c.roll.result c.in_ok-ended.ended c.in_ok-ended.was c.roll.ensures.ended

  copied : c.append_reserved.new.entries.items ≡ joined old
  copied =
      let its : c.deref.result.now ≡ old.book.entries =
      c.deref.ensures.value ∙ ap (λ (book : PartRecord). book.entries) (c.ended.view_is ∙ ended) in
      c.append_reserved.ensures ∙ ap (λ (es : List Entry). es ++ c.deref.result.now) c.reserve.ensures.items ∙ ap (λ (es : List Entry). old.before ++ es) its

  placed : c.push_reserved.new.self.items ≡ old.rolls ++ front old ∷ []
  placed =
      let place : c.count.result ≡ front old = c.count.ensures ∙ ap length (c.deref-2.ensures.value ∙ copied) in
      c.push_reserved.ensures.items ∙ ap (λ (places : List ℕ). places ++ c.count.result ∷ []) c.reserve-else-is_err.ensures.items ∙ ap (λ (n : ℕ). old.rolls ++ n ∷ []) place

  is : new ≡ rolled_from old (carry old c.self.invariant)
  is = desks_same (rolls.begins) copied placed

pub invariant_of-self-2 : goal.invariant_of-self-2
invariant_of-self-2 c =
    let behind : IsBehind (joined (old c)) (rolled_from (old c) (carry (old c) c.self.invariant)).book = subst (IsBehind (joined (old c))) (rolls c).begins (rolls c).answered in
    subst IsKeptDesk (sym (is c)) (kept_next (old c) c.self.invariant behind)

pub returns-clause-ended : goal.returns-clause-ended
returns-clause-ended c =
    let by : Ended (rolled_from (old c) (carry (old c) c.self.invariant)) (length ((old c).rolls ++ front (old c) ∷ [])) (old c).book = ended_by (old c) c.self.invariant in
    let of_rolls = subst (λ (places : List ℕ). Ended (rolled_from (old c) (carry (old c) c.self.invariant)) (length places) (old c).book) (sym (placed c)) by in
    let of_book = subst (λ (book : PartRecord). Ended (rolled_from (old c) (carry (old c) c.self.invariant)) (length c.push_reserved.new.self.items) book) (sym (ended c)) of_rolls in
    subst (λ (desk : PlainRecord). Ended desk (length c.push_reserved.new.self.items) c.in_ok-ended.ended) (sym (is c)) of_book

pub returns-clause-last : goal.returns-clause-last
returns-clause-last c =
    subst (λ (was : PlainRecord). TestsLast (tests_of was) (tests_of (new c))) c.self.view_is
    (tests_last (old c) (new c) (rolled_later (old c) c.self.invariant (new c) (is c)))

pub returns-clause-kept : goal.returns-clause-kept
returns-clause-kept c =
    subst (λ (was : PlainRecord). life_of (new c) ≡ life_of was) c.self.view_is (life_same (old c) (new c) (rolled_later (old c) c.self.invariant (new c) (is c)))
