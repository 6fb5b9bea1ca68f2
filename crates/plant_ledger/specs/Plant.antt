-- What an applied call leaves, and what a roll does.
use Rattle.std.specs.Prelude.{◌≡◌, ◌+◌, ◌<◌, ◌≤◌, List, [], ◌∷◌, ◌++◌, length, Some}
use Rattle.plant_book.specs.declared.call.Call.{Call}
use Rattle.plant_book.specs.declared.call.Reply.{Reply}
use Rattle.plant_book.specs.declared.call.Write as writes
use Rattle.plant_book.specs.declared.book.Entry.{Entry}
use Rattle.plant_book.specs.declared.carry.TheConstants.{CALLS_MAX}
use Rattle.plant_book.specs.Book.{BookRecord}
use Rattle.plant_book.specs.Calls as parts
use Rattle.plant_book.specs.Answer.{reply_to}
use Rattle.plant_book.specs.Lifetime.{LiveOn, ChangesNothing}
use Rattle.plant_book.specs.Covered.{TellsCap, CoversHeld, IsUnderCeiling, IsBackUnderCap}
use Rattle.plant_book.specs.Tight.{IsTight}
use Rattle.plant_book.specs.History.{IsPast, life_after}
use Rattle.plant_book.specs.Safe.{IsSafeAlways}
use Rattle.plant_book.specs.Part.{PartRecord, begin_of, calls_carried, calls_of, book_behind}
use Rattle.plant_book.specs.Carry.{carry_of, IsBehind, IsBookPart}

-- What is true of every book that a plant keeps: it goes on with an answered life, it has no more calls than its
-- room, and with all of its room the life has no more calls than a life may have.
pub record IsKept (book : PartRecord) : Type 0 where
  pub of_life : IsBookPart book
  pub room : length book.entries ≤ book.site.room
  pub calls : calls_carried book.carry + book.site.room ≤ CALLS_MAX

-- the entry of a call with its reply: the call as it is entered
abbrev pub entry_of : PartRecord → Call → Reply → Entry
entry_of book call reply = record { call = parts.entered (begin_of book) book.entries call; reply = reply }

-- the book with one more entry
abbrev pub with_one : PartRecord → Entry → PartRecord
with_one book entry = record {
  site = book.site;
  start = book.start;
  carry = book.carry;
  entries = book.entries ++ entry ∷ [];
}

-- the book with this call entered behind it
abbrev pub entered : PartRecord → Call → Reply → PartRecord
entered book call reply = with_one book (entry_of book call reply)

-- the reply that a joined book asks for
abbrev pub right_reply : BookRecord → Call → Reply
right_reply book call = reply_to book (parts.entered book.start book.entries call)

-- Whatever past the life followed that fits, and whatever the inverters did that follow the timed device: the
-- life is safe at every moment.
abbrev pub IsSafeLife : BookRecord → Type 0
IsSafeLife book = (past : List writes.Write) → IsPast book.site book.start past
    → IsSafeAlways (life_after past book)

-- What is true of each life that a plant's book goes on with.
pub record IsSound (book : BookRecord) : Type 0 where
  -- What is reserved in all stays under the ceiling: the site's cap through the silence, and within reach of a
  -- lowering what was reserved right after it. Past that it is back under the cap.
  pub capped : IsUnderCeiling book
  pub back : IsBackUnderCap book
  -- Behind the silence, and in the first life of a plant, what an inverter may hold is reserved for it.
  pub covered : CoversHeld book
  -- Whatever past that fits the life followed, and whatever inverters did that follow the timed device.
  pub safe : IsSafeLife book
  -- No ledger that knows only the calls could free a write sooner.
  pub tight : IsTight book

-- what an entry leaves of the reservations
pub record LeavesReservations (old : BookRecord) (entry : Entry) (new : BookRecord) : Type 0 where
  pub lifetime : LiveOn old entry new
  pub refused : ChangesNothing old entry new

-- What a call does to the life that these entries begin and this book goes on with. The reply is the one that the
-- joined book asks for, and with the new book the life is an answered one again. A write stays reserved until it
-- is given back, freed or past, and is gone at that very call. Only a Cap that is answered so changes the cap, and
-- the reply tells the ceiling right after it.
pub record GoesOn (before : List Entry) (old : PartRecord) (call : Call) (reply : Reply)
    (new : PartRecord) : Type 0 where
  pub right : reply ≡ right_reply (book_behind before old) call
  pub answered : IsBehind before new
  pub reserved : LeavesReservations (book_behind before old) (entry_of old call reply)
      (book_behind before new)
  pub told : TellsCap (book_behind before old) (entry_of old call reply) (book_behind before new)

-- the empty book that goes on behind this one: it begins with what the joined book leaves
abbrev pub next_book : List Entry → PartRecord → PartRecord
next_book before book = record {
  site = book.site;
  start = book.start;
  carry = Some (carry_of (book_behind before book));
  entries = [];
}

-- What a roll does to the life that these entries begin and this book goes on with: the next book begins with what
-- the joined book leaves, and is right behind its entries.
pub record Rolls (before : List Entry) (old new : PartRecord) : Type 0 where
  pub begins : new ≡ next_book before old
  pub answered : IsBehind (before ++ old.entries) new

-- with one more book of this room the life would have more calls than a life may have
abbrev pub IsFullLife : PartRecord → Type 0
IsFullLife book = CALLS_MAX < calls_of book + book.site.room
