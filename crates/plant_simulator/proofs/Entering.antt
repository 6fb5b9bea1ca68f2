-- What a call does to the book of a life.
use Rattle.std.proofs.Common.{◌≡◌, ℕ, List, [], ◌∷◌, ◌++◌, Option, None, MatchOption, refl, sym, subst, ap, ◌∙◌}
use Rattle.plant_book.specs.declared.call.Call.{Call}
use Rattle.plant_book.specs.declared.call.Reply.{Reply}
use Rattle.plant_book.specs.declared.book.Entry.{Entry}
use Rattle.plant_book.specs.Calls as calls
use Rattle.plant_book.specs.Answered.{with_entries, IsBook}
use Rattle.plant_book.specs.Carry.{carry_of, IsBehind, EachBefore}
use Rattle.plant_book.specs.Part.{CarryRecord, PartRecord, first_book, book_before, begin_of, moment_carried, last_moment_of}
use Rattle.plant_book.specs.Reserved.{now_of}
use Rattle.plant_ledger.specs.Plant as ledger
use Rattle.plant_simulator.specs.Call.{entry_in}

pub booked : (old new : PartRecord) (call : Call) (reply : Reply) → old.carry ≡ None → new ≡ ledger.entered old call reply → reply ≡ (entry_in (first_book old) call).reply
    → first_book new ≡ with_entries (first_book old) (old.entries ++ entry_in (first_book old) call ∷ [])
unfolding entry_in
booked old new call reply none is right =
    let made : ℕ → Reply → Entry = λ start r. record { call = calls.entered start old.entries call; reply = r } in
    let begins : begin_of old ≡ old.start = ap (moment_carried old.start) none in
    ap first_book is
    ∙ ap (λ (start : ℕ). with_entries (first_book old) (old.entries ++ made start reply ∷ [])) begins
    ∙ ap (λ (r : Reply). with_entries (first_book old) (old.entries ++ made old.start r ∷ [])) right

-- the first book of a life has nothing before it
abbrev no_entries : List Entry
no_entries = []

pub behind_first : (part : PartRecord) → part.carry ≡ None → IsBook (first_book part) → IsBehind [] part
behind_first part none kept = record {
  carry = subst (λ (o : Option CarryRecord). MatchOption o (no_entries ≡ []) (λ carry. carry ≡ carry_of (book_before [] part))) (sym none) refl;
  book = kept;
}

pub right : (old new : PartRecord) (call : Call) (reply : Reply) → old.carry ≡ None → IsBook (first_book old) → EachBefore old (λ before. ledger.GoesOn before old call reply new)
    → reply ≡ (entry_in (first_book old) call).reply
unfolding entry_in
right old new call reply none kept lives = (lives [] (behind_first old none kept)).right

-- its last moment
pub last_is : (part : PartRecord) → part.carry ≡ None → last_moment_of part ≡ now_of (first_book part)
unfolding now_of
last_is part none = ap (λ (start : ℕ). calls.latest start part.entries) (ap (moment_carried part.start) none)
