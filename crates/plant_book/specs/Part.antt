-- What contracts see of a book: a part of a life, which may begin with what the parts before it leave.
use Rattle.std.specs.Prelude.{ℕ, ◌+◌, Bool, List, [], ◌++◌, length, take, Option, Some, None}
use Rattle.plant_book.specs.declared.call.Write as writes
use Rattle.plant_book.specs.declared.call.Read as reads
use Rattle.plant_book.specs.declared.carry.CapMark as marks
use Rattle.plant_book.specs.declared.book.Entry.{Entry}
use Rattle.plant_book.specs.Site.{SiteRecord}
use Rattle.plant_book.specs.Book.{BookRecord}
use Rattle.plant_book.specs.Calls.{latest}

-- what a book leaves of an inverter: its link number, the count of its requests since its last Link, its
-- pending read, whether it is strange, its wish, and its writes that are live at the last moment in the order
-- of their grants
pub record UnitRecord : Type 0 where
  pub link : ℕ
  pub sent : ℕ
  pub pending : Option reads.Read
  pub strange : Bool
  pub wish : ℕ
  pub writes : List writes.Write

-- what a book leaves to the next one of its life: its last moment, its count of calls, its cap, the moment of
-- the last Cap that was set with the total right after it, whether a Stop stands in it, and what it leaves of
-- each inverter
pub record CarryRecord : Type 0 where
  pub last : ℕ
  pub calls : ℕ
  pub cap : ℕ
  pub set : Option marks.CapMark
  pub stop : Bool
  pub units : List UnitRecord

-- a site, the start of the life, the carry of the books before, and the calls with their replies in order
pub record PartRecord : Type 0 where
  pub site : SiteRecord
  pub start : ℕ
  pub carry : Option CarryRecord
  pub entries : List Entry

abbrev pub moment_carried : ℕ → Option CarryRecord → ℕ
moment_carried start None = start
moment_carried start (Some carry) = carry.last

-- the joined book where these entries stand before those of the part
abbrev pub book_behind : List Entry → PartRecord → BookRecord
book_behind before part = record { site = part.site; start = part.start; entries = before ++ part.entries }

abbrev pub calls_carried : Option CarryRecord → ℕ
calls_carried None = 0
calls_carried (Some carry) = carry.calls

-- the count of calls of the life up to and with a part
abbrev pub calls_of : PartRecord → ℕ
calls_of part = calls_carried part.carry + length part.entries

-- the book of a life that this part begins
abbrev pub first_book : PartRecord → BookRecord
first_book part = book_behind [] part

-- the book before a part, where these are its entries
abbrev pub book_before : List Entry → PartRecord → BookRecord
book_before before part = record { site = part.site; start = part.start; entries = before }

-- a part with its first entries alone
abbrev pub part_first : PartRecord → ℕ → PartRecord
part_first part count = record {
  site = part.site;
  start = part.start;
  carry = part.carry;
  entries = take count part.entries;
}

-- the moment at which a part begins: the last one of those before it, or the start of the life
abbrev pub begin_of : PartRecord → ℕ
begin_of part = moment_carried part.start part.carry

-- the last moment of a part, which is that of its life up to it
abbrev pub last_moment_of : PartRecord → ℕ
last_moment_of part = latest (begin_of part) part.entries
