-- What a book leaves to the next one of its life, and which entries a book may be right behind.
use Rattle.std.specs.Prelude.{◌≡◌, ℕ, List, [], length, map, Option, Some, None, MatchOption}
use Rattle.std.specs.List.{range_with_len}
use Rattle.plant_book.specs.declared.book.Entry.{Entry}
use Rattle.plant_book.specs.declared.carry.CapMark as marks
use Rattle.plant_book.specs.declared.call.Write as writes
use Rattle.plant_book.specs.Sums.{last_that}
use Rattle.plant_book.specs.Calls.{moment}
use Rattle.plant_book.specs.Site.{inverters}
use Rattle.plant_book.specs.Book.{BookRecord}
use Rattle.plant_book.specs.Part.{UnitRecord, CarryRecord, PartRecord, book_behind, book_before}
use Rattle.plant_book.specs.Requests.{link_number, requests, pending_read}
use Rattle.plant_book.specs.Policy.{is_strange, wish}
use Rattle.plant_book.specs.Writes.{live}
use Rattle.plant_book.specs.Reserved.{now_of}
use Rattle.plant_book.specs.Caps.{sets_cap, cap_of}
use Rattle.plant_book.specs.Answer.{is_stopped}
use Rattle.plant_book.specs.Ceiling.{total_when_set}
use Rattle.plant_book.specs.Answered.{IsBook}

-- the writes of an inverter that are live at the last moment of a book
abbrev pub live_writes : BookRecord → ℕ → List writes.Write
live_writes book inverter = live book.site.rules book.entries (now_of book) inverter

-- what a book leaves of an inverter
abbrev pub unit_of : BookRecord → ℕ → UnitRecord
unit_of book inverter = record {
  link = link_number inverter book.entries;
  sent = requests inverter book.entries;
  pending = pending_read inverter book.entries;
  strange = is_strange inverter book.entries;
  wish = wish book inverter;
  writes = live_writes book inverter;
}

-- what it leaves of all inverters, by their numbers
abbrev pub units_of : BookRecord → List UnitRecord
units_of book = map (unit_of book) (range_with_len 0 (inverters book.site))

abbrev pub mark_by : BookRecord → Option Entry → Option marks.CapMark
mark_by book None = None
mark_by book (Some set) = Some (record { at = moment set.call; was = total_when_set book })

-- the moment of the last Cap that was set, with what was reserved in all right after it
abbrev pub mark_of : BookRecord → Option marks.CapMark
mark_of book = mark_by book (last_that sets_cap book.entries)

-- what a book leaves to the next one of its life
abbrev pub carry_of : BookRecord → CarryRecord
carry_of book = record {
  last = now_of book;
  calls = length book.entries;
  cap = cap_of book;
  set = mark_of book;
  stop = is_stopped book;
  units = units_of book;
}

-- The book of a part is right behind these entries: the part begins with what they leave, the first of a life
-- with nothing, and the joined book is one of right replies.
pub record IsBehind (before : List Entry) (part : PartRecord) : Type 0 where
  pub carry : MatchOption part.carry (before ≡ []) (λ carry. carry ≡ carry_of (book_before before part))
  pub book : IsBook (book_behind before part)

-- a fact of each list of entries that this book may be right behind
abbrev pub EachBefore : PartRecord → (List Entry → Type 0) → Type 0
EachBefore part Fact = (before : List Entry) → IsBehind before part → Fact before

-- a fact of each joined book that goes on in this one
abbrev pub EachBook : PartRecord → (BookRecord → Type 0) → Type 0
EachBook part Fact = EachBefore part (λ before. Fact (book_behind before part))

-- a book that is right behind some entries
pub record IsBookPart (part : PartRecord) : Type 0 where
  pub before : List Entry
  pub behind : IsBehind before part
