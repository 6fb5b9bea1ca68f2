-- What a roll makes of a desk.
use Rattle.std.proofs.Common.{◌≡◌, ℕ, zero, suc, ◌+◌, ◌-◌, ◌<◌, List, [], ◌∷◌, ◌++◌, length, take, drop, Option, Some, None, refl, sym, ap, subst, ◌∙◌, length-append, arith}
use Rattle.std.specs.Prelude.{MatchOption, slice_get}
use Rattle.std.proofs.lemmas.List.{append-nil, take_at, drop_at, take_all, length_push}
use Rattle.plant_book.specs.declared.book.Entry.{Entry}
use Rattle.plant_book.specs.Part.{CarryRecord, book_before, book_behind}
use Rattle.plant_book.specs.Carry.{carry_of, IsBehind}
use Rattle.ledger_desk.specs.Plain.{PlainRecord, joined, front, first_entries, begins, carry_at, Ended, IsKeptDesk}
use Rattle.ledger_desk.proofs.Later.{IsLater, rolled_from, roll_later, get-append, parts_same}
use Rattle.ledger_desk.proofs.Calls.{last_end}

module _ (old : PlainRecord) (kept : IsKeptDesk old) where
  abbrev pub carry : CarryRecord
  carry = carry_of (book_behind old.before old.book)

  front_is : front old ≡ length old.before + length old.book.entries
  front_is = length-append old.before old.book.entries

  module _ (new : PlainRecord) (is : new ≡ rolled_from old carry) where
    pub rolled_later : IsLater old new
    rolled_later = subst (λ (desk : PlainRecord). IsLater old desk) (sym is) (roll_later old carry)

  rolls_more : {n m : ℕ} → n ≡ m + 1 → n ≡ suc m
  rolls_more is = omega (arith, is)

  pub kept_next : IsBehind (joined old) (rolled_from old carry).book → IsKeptDesk (rolled_from old carry)
  kept_next behind = record {
    behind = behind;
    begun = omega (arith, kept.begun, length-append (joined old) []);
    last = subst (λ (n : ℕ). slice_get (0 ∷ (old.rolls ++ front old ∷ [])) n ≡ Some (front old)) (sym (rolls_more (length_push old.rolls (front old)))) (last_end (0 ∷ old.rolls) (front old));
    carry = omega (arith, length_push old.rolls (front old));
  }

  -- the entries of the book that ends
  its_entries : take (front old - length old.before) (drop (length old.before) (joined old ++ [])) ≡ old.book.entries
  its_entries =
      ap (λ (es : List Entry). take (front old - length old.before) (drop (length old.before) es)) (append-nil (joined old))
      ∙ ap (take (front old - length old.before)) (drop_at old.before old.book.entries (length old.before) refl)
      ∙ take_all (front old - length old.before) old.book.entries (omega (arith, front_is))

  first_before : first_entries (rolled_from old carry) (length old.before) ≡ book_before old.before old.book
  first_before =
      ap (λ (es : List Entry). book_before es old.book)
      (ap (take (length old.before)) (append-nil (joined old)) ∙ take_at old.before old.book.entries (length old.before) refl)

  -- the carry with which it began
  its_carry : (had : Option CarryRecord) → old.book.carry ≡ had → MatchOption had (old.before ≡ []) (λ k. k ≡ carry_of (book_before old.before old.book))
      → MatchOption had (old.rolls ≡ []) (λ k. 0 < length old.rolls) → (nth : ℕ) → nth ≡ length old.rolls → carry_at (rolled_from old carry) nth (length old.before) ≡ had
  its_carry None has behind none zero n = refl
  its_carry None has behind none (suc nth) n = absurd (omega (arith, n, ap length none))
  its_carry (Some k) has behind some zero n = absurd (omega (arith, n, some))
  its_carry (Some k) has behind some (suc nth) n = ap Some (ap carry_of first_before ∙ sym behind)

  pub ended_by : Ended (rolled_from old carry) (length (old.rolls ++ front old ∷ [])) old.book
  ended_by = record {
    nth = length old.rolls;
    begin = length old.before;
    end = front old;
    counted = length_push old.rolls (front old);
    begins = get-append (begins old) (front old ∷ []) (length old.rolls) (length old.before) kept.last;
    ends = last_end old.rolls (front old);
    order = omega (arith, front_is);
    within = omega (arith, length-append (joined old) []);
    it = sym (parts_same refl refl (its_carry old.book.carry refl kept.behind.carry kept.carry (length old.rolls) refl) its_entries);
  }
