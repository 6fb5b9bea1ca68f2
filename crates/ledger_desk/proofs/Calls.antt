-- What a call, a release and a roll make of a desk.
use Rattle.std.proofs.Common.{◌≡◌, ℕ, ◌≤◌, max, List, [], ◌∷◌, ◌++◌, length, drop, Result, Ok, Err, refl, sym, ap, subst, ◌∙◌, length-append, arith}
use Rattle.std.specs.Prelude.{IfOk, OnErr, Some, slice_get}
use Rattle.std.proofs.lemmas.List.{drop-append-le}
use Rattle.plant_book.specs.declared.call.Call.{Call}
use Rattle.plant_book.specs.declared.call.Call.TheVariants as calls
use Rattle.plant_book.specs.declared.call.TheConstants.{MOMENT_MAX}
use Rattle.plant_book.specs.declared.call.Reply.{Reply}
use Rattle.plant_book.specs.Calls.{moment, at_moment, named}
use Rattle.plant_book.specs.Calls as parts
use Rattle.plant_book.specs.Answer.{reply_to}
use Rattle.plant_book.specs.Part.{PartRecord, begin_of, last_moment_of, book_behind}
use Rattle.plant_ledger.specs.Plant.{entry_of, entered, GoesOn}
use Rattle.plant_ledger.proofs.Lives.{entered-same, part_next}
use Rattle.ledger_desk.specs.Calls.{IsReplyTo}
use Rattle.ledger_desk.specs.Desk.{Enters, EntersNone}
use Rattle.ledger_desk.specs.Plain.{PlainRecord, joined, front, state_of, WasFull, IsKeptDesk}
use Rattle.ledger_desk.proofs.Replies.{replies_fit}
use Rattle.plant_book.specs.Carry.{EachBefore}
use Rattle.ledger_desk.proofs.Later.{joined-with, IsLater, entry_later, same_later}

module _ (old : PlainRecord) (kept : IsKeptDesk old) (call : Call) (high : moment call ≤ MOMENT_MAX) where
  at : ℕ
  at = max (moment call) (last_moment_of old.book)

  module _ (reply : Reply) (on : GoesOn old.before old.book call reply (entered old.book call reply)) where
    fits : IsReplyTo (parts.entered (begin_of old.book) old.book.entries call) reply
    fits =
        let whole = book_behind old.before old.book in
        let of_life = replies_fit whole (parts.entered whole.start whole.entries call) in
        let of_part = subst (λ (moved : Call). IsReplyTo moved (reply_to whole (parts.entered whole.start whole.entries call))) (sym (entered-same old.book old.before call kept.behind)) of_life in
        subst (λ (r : Reply). IsReplyTo (parts.entered (begin_of old.book) old.book.entries call) r) (sym on.right) of_part

    pub enters : Enters call reply (state_of old) (state_of (record old { book = entered old.book call reply }))
    unfolding at
    enters =
        let entry = entry_of old.book call reply in
        let more = joined-with old entry in
        record {
          at = max (moment call) (last_moment_of old.book);
          later = omega arith;
          high = (part_next old.book old.before (calls.Tick (moment call)) kept.behind high tt tt).moment_high;
          made = ap (drop old.begun) more ∙ drop-append-le old.begun (joined old) (entry ∷ []) kept.begun;
          fits = fits;
          front = omega (arith, ap length more, length-append (joined old) (entry ∷ []));
          inverters = refl;
          rolls = refl;
        }

pub last_end : (places : List ℕ) (end : ℕ) → slice_get (places ++ end ∷ []) (length places) ≡ Some end
last_end [] end = refl
last_end (place ∷ places) end = last_end places end

-- a desk whose book has its room of calls was full
pub full_now : (desk : PlainRecord) → IsKeptDesk desk → length desk.book.entries ≡ desk.book.site.room → WasFull desk
full_now desk kept full = record {
  number = length desk.rolls;
  begin = length desk.before;
  end = front desk;
  begins = kept.last;
  ends = last_end desk.rolls (front desk);
  full = omega (arith, full, length-append desk.before desk.book.entries);
}

-- the desk with another book of its plant
abbrev pub with_book : PlainRecord → PartRecord → PlainRecord
with_book desk book = record desk { book = book }

-- What a call or a release leaves, by what its plant answered.
module _ {Answer Fault : Type 0} (reply : Answer → Reply) (old : PlainRecord) (call : Call) (plant : PartRecord) where
  pub desk_later : (result : Result Answer Fault) → IfOk result (λ answer. plant ≡ entered old.book call (reply answer))
      → OnErr result (plant ≡ old.book) → IsLater old (with_book old plant)
  desk_later (Ok answer) made same =
      subst (λ (book : PartRecord). IsLater old (with_book old book)) (sym made) (entry_later old (entry_of old.book call (reply answer)))
  desk_later (Err fault) made same = subst (λ (book : PartRecord). IsLater old (with_book old book)) (sym same) (same_later old)

  pub desk_none : (result : Result Answer Fault) → OnErr result (plant ≡ old.book) → OnErr result (EntersNone (state_of old) (state_of (with_book old plant)))
  desk_none (Ok answer) same = tt
  desk_none (Err fault) same =
      subst (λ (book : PartRecord). EntersNone (state_of old) (state_of (with_book old book))) (sym same)
      (record { made = refl; front = omega arith; inverters = refl; rolls = refl })

  module _ (kept : IsKeptDesk old) where
    pub desk_full : (result : Result Answer Fault) → OnErr result (plant ≡ old.book) → OnErr result (length old.book.entries ≡ old.book.site.room)
        → OnErr result (WasFull (with_book old plant))
    desk_full (Ok answer) same full = tt
    desk_full (Err fault) same full = subst (λ (book : PartRecord). WasFull (with_book old book)) (sym same) (full_now old kept full)

    module _ (high : moment call ≤ MOMENT_MAX) where
      pub desk_enters : (result : Result Answer Fault) → IfOk result (λ answer. plant ≡ entered old.book call (reply answer))
          → IfOk result (λ answer. EachBefore old.book (λ before. GoesOn before old.book call (reply answer) plant))
          → IfOk result (λ answer. Enters call (reply answer) (state_of old) (state_of (with_book old plant)))
      desk_enters (Ok answer) made on =
          let goes = subst (λ (book : PartRecord). GoesOn old.before old.book call (reply answer) book) made (on old.before kept.behind) in
          subst (λ (book : PartRecord). Enters call (reply answer) (state_of old) (state_of (with_book old book))) (sym made)
          (enters old kept call high (reply answer) goes)
      desk_enters (Err fault) made on = tt

      pub desk_kept : (result : Result Answer Fault) → IfOk result (λ answer. plant ≡ entered old.book call (reply answer))
          → IfOk result (λ answer. EachBefore old.book (λ before. GoesOn before old.book call (reply answer) plant))
          → OnErr result (plant ≡ old.book) → IsKeptDesk (with_book old plant)
      desk_kept (Ok answer) made on same =
          let entry = entry_of old.book call (reply answer) in
          let goes = subst (λ (book : PartRecord). GoesOn old.before old.book call (reply answer) book) made (on old.before kept.behind) in
          subst (λ (book : PartRecord). IsKeptDesk (with_book old book)) (sym made) (record {
            behind = goes.answered;
            begun = omega (arith, kept.begun, ap length (joined-with old entry), length-append (joined old) (entry ∷ []));
            last = kept.last;
            carry = kept.carry;
          })
      desk_kept (Err fault) made on same = subst (λ (book : PartRecord). IsKeptDesk (with_book old book)) (sym same) kept
