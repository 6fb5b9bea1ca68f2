-- What one more entry makes of a life that goes on in a book.
use Rattle.std.proofs.Common.{◌≡◌, ℕ, ◌<◌, ◌≤◌, max, List, [], ◌∷◌, ◌++◌, Some, sym, ap, subst, ◌∙◌, append_assoc, arith}
use Rattle.std.specs.Prelude.{IfSome}
use Rattle.std.proofs.lemmas.List.{append-nil}
use Rattle.plant_book.specs.declared.call.Call.{Call}
use Rattle.plant_book.specs.declared.call.TheConstants.{MOMENT_MAX}
use Rattle.plant_book.specs.declared.carry.TheConstants.{CALLS_MAX}
use Rattle.plant_book.specs.declared.call.Reply.{Reply}
use Rattle.plant_book.specs.declared.book.Entry.{Entry}
use Rattle.plant_book.specs.Site.{inverters}
use Rattle.plant_book.specs.Calls.{moment, at_moment, named}
use Rattle.plant_book.specs.Calls as parts
use Rattle.plant_book.specs.Reserved.{now_of}
use Rattle.plant_book.specs.Answer.{reply_to}
use Rattle.plant_book.specs.Answered.{IsNext, IsBook, IsInRange, with_entries}
use Rattle.plant_book.specs.Covered.{TellsCap}
use Rattle.plant_book.specs.Part.{CarryRecord, PartRecord, begin_of, last_moment_of, calls_of, book_behind}
use Rattle.plant_book.specs.Carry.{carry_of, IsBehind}
use Rattle.plant_book.proofs.Lifetime.{lives_on, changes_nothing}
use Rattle.plant_book.proofs.Lowered.{tells_cap}
use Rattle.plant_book.proofs.Growth.{IsNext-entered, IsBook-push}
use Rattle.plant_book.proofs.Behind.{last_moment_of-is, calls_of-is}
use Rattle.plant_ledger.specs.Plant.{entry_of, entered, LeavesReservations, GoesOn, Rolls}

-- a call is entered with the same moment in the book and in the life
pub entered-same : (part : PartRecord) (before : List Entry) (call : Call) → IsBehind before part
    → parts.entered (begin_of part) part.entries call ≡ parts.entered part.start (before ++ part.entries) call
unfolding now_of
entered-same part before call is = ap (λ (last : ℕ). at_moment (max (moment call) last) call) (last_moment_of-is part before is)

-- what the code computes is the call as it is entered
pub entered-is : (part : PartRecord) (call moved : Call) (at own last : ℕ) → own ≡ moment call → last ≡ last_moment_of part → at ≡ max own last → moved ≡ at_moment at call
    → moved ≡ parts.entered (begin_of part) part.entries call
entered-is part call moved at own last o l a m = m ∙ ap (λ (n : ℕ). at_moment n call) (rw (← o, ← l) a)

module _ (part : PartRecord) (before : List Entry) (call : Call) (is : IsBehind before part) (high : moment call ≤ MOMENT_MAX)
    (of_site : IfSome (named call) (λ inverter. inverter < inverters part.site)) (in_range : IsInRange call) where
  whole_next : IsNext part.site part.start (before ++ part.entries) (parts.entered part.start (before ++ part.entries) call)
  whole_next = IsNext-entered (book_behind before part) call is.book high of_site in_range

  -- the call may be entered behind the book
  pub part_next : IsNext part.site (begin_of part) part.entries (parts.entered (begin_of part) part.entries call)
  unfolding now_of
  part_next =
      let same = entered-same part before call is in
      let next = subst (λ (moved : Call). IsNext part.site part.start (before ++ part.entries) moved) (sym same) whole_next in
      record {
        later = omega (arith, next.later, last_moment_of-is part before is);
        moment_high = next.moment_high;
        of_site = next.of_site;
        in_range = next.in_range;
      }

  module _ (reply : Reply) (few : calls_of part < CALLS_MAX) (right : reply ≡ reply_to (book_behind before part) (parts.entered (begin_of part) part.entries call)) where
    entry : Entry
    entry = entry_of part call reply

    whole_may : IsNext part.site part.start (before ++ part.entries) (parts.entered (begin_of part) part.entries call)
    whole_may = subst (λ (moved : Call). IsNext part.site part.start (before ++ part.entries) moved) (sym (entered-same part before call is)) whole_next

    through : (before ++ part.entries) ++ entry_of part call reply ∷ [] ≡ before ++ (part.entries ++ entry_of part call reply ∷ [])
    through = append_assoc before part.entries (entry_of part call reply ∷ [])

    pub goes_on : GoesOn before part call reply (entered part call reply)
    unfolding now_of
    goes_on =
        let whole = book_behind before part in
        let one = entry_of part call reply in
        let kept = IsBook-push whole one is.book (omega (arith, few, calls_of-is part before is)) whole_may right in
        record {
          right = right ∙ ap (reply_to whole) (entered-same part before call is);
          answered = record { carry = is.carry; book = subst (λ (es : List Entry). IsBook (with_entries whole es)) through kept };
          reserved = subst (λ (es : List Entry). LeavesReservations whole one (with_entries whole es)) through
              (record { lifetime = lives_on whole one right whole_may.later; refused = changes_nothing whole one right whole_may.later });
          told = subst (λ (es : List Entry). TellsCap whole one (with_entries whole es)) through (tells_cap whole one right whole_may.later);
        }

-- the next book is right behind the entries of the joined one
pub rolls : (part : PartRecord) (before : List Entry) (carry : CarryRecord) → IsBehind before part → carry ≡ carry_of (book_behind before part)
    → Rolls before part (record { site = part.site; start = part.start; carry = Some carry; entries = [] })
rolls part before carry is its = record {
  begins = ap (λ (k : CarryRecord). with_carry k) its;
  answered = record {
    carry = its;
    book = subst (λ (es : List Entry). IsBook (with_entries (book_behind before part) es)) (sym (append-nil (before ++ part.entries))) is.book;
  };
}
  where
    with_carry : CarryRecord → PartRecord
    with_carry k = record { site = part.site; start = part.start; carry = Some k; entries = [] }
