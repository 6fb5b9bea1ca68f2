-- The desk of a plant that nobody shares, and its tests.
use Rattle.std.specs.Prelude.{◌≡◌, ℕ, zero, suc, ◌+◌, ◌-◌, ◌<◌, ◌≤◌, List, [], ◌∷◌, ◌++◌, length, take, drop, slice_get, Option, Some, None, MatchOption}
use Rattle.plant_book.specs.declared.carry.TheConstants.{CALLS_MAX}
use Rattle.plant_book.specs.declared.book.Entry.{Entry}
use Rattle.plant_book.specs.Site.{SiteRecord, inverters}
use Rattle.plant_book.specs.Book.{BookRecord}
use Rattle.plant_book.specs.Answer.{goal_raw, is_stopped}
use Rattle.plant_book.specs.Reserved.{reserved}
use Rattle.plant_book.specs.Part.{PartRecord, CarryRecord, book_before}
use Rattle.plant_book.specs.Carry.{carry_of, IsBehind}
use Rattle.plant_ledger.specs.declared.plant.Goal.{Goal}
use Rattle.ledger_desk.specs.Desk.{DeskState, DeskTests}

-- The last book of the plant's life, the entries of the books before it, how many entries the life had when the desk
-- was made, and the places of its rolls: how many entries the life had at each.
pub record PlainRecord : Type 0 where
  pub book : PartRecord
  pub before : List Entry
  pub begun : ℕ
  pub rolls : List ℕ

-- the entries of the life, and how many they are
abbrev pub joined : PlainRecord → List Entry
joined desk = desk.before ++ desk.book.entries

abbrev pub front : PlainRecord → ℕ
front desk = length (joined desk)

-- what the desk means
abbrev pub state_of : PlainRecord → DeskState
state_of desk = record {
  made = drop desk.begun (joined desk);
  front = front desk;
  inverters = inverters desk.book.site;
  rolls = desk.rolls;
}

-- the book with the first so many entries of the life
abbrev pub first_entries : PlainRecord → ℕ → BookRecord
first_entries desk place = book_before (take place (joined desk)) desk.book

-- what a book lets an inverter aim at
pub record IsGoalOf (book : BookRecord) (inverter : ℕ) (goal : Goal) : Type 0 where
  pub raw : goal.raw ≡ goal_raw book inverter
  pub reserved : goal.reserved ≡ reserved book inverter
  pub stop : goal.stop ≡ is_stopped book

-- The goal is that of the first so many entries of the life. These hold the first so many that were made through the
-- desk, and none that was made later.
pub record MayTell (desk : PlainRecord) (made place inverter : ℕ) (goal : Goal) : Type 0 where
  pub counted : place ≡ desk.begun + made
  pub within : place ≤ front desk
  pub told : IsGoalOf (first_entries desk place) inverter goal

-- where the books of the life begin, and where they end so far, by their numbers from 0
abbrev pub begins : PlainRecord → List ℕ
begins desk = 0 ∷ desk.rolls

abbrev pub ends : PlainRecord → List ℕ
ends desk = desk.rolls ++ front desk ∷ []

-- a book of the life has its room of calls
pub record WasFull (desk : PlainRecord) : Type 0 where
  pub number : ℕ
  pub begin : ℕ
  pub end : ℕ
  pub begins : slice_get (begins desk) number ≡ Some begin
  pub ends : slice_get (ends desk) number ≡ Some end
  pub full : begin + desk.book.site.room ≤ end

-- the first book of a life begins with nothing, and each later one with what the entries before it leave
abbrev pub carry_at : PlainRecord → (number begin : ℕ) → Option CarryRecord
carry_at desk zero begin = None
carry_at desk (suc number) begin = Some (carry_of (first_entries desk begin))

-- the book that begins and ends at these places
abbrev pub book_between : PlainRecord → (number begin end : ℕ) → PartRecord
book_between desk number begin end = record {
  site = desk.book.site;
  start = desk.book.start;
  carry = carry_at desk number begin;
  entries = take (end - begin) (drop begin (joined desk));
}

-- the roll of this number, counted from 1, ended this book
pub record Ended (desk : PlainRecord) (number : ℕ) (book : PartRecord) : Type 0 where
  pub nth : ℕ
  pub begin : ℕ
  pub end : ℕ
  pub counted : number ≡ nth + 1
  pub begins : slice_get (begins desk) nth ≡ Some begin
  pub ends : slice_get desk.rolls nth ≡ Some end
  pub order : begin ≤ end
  pub within : end ≤ front desk
  pub it : book ≡ book_between desk nth begin end

-- the life had so many calls, and with the room they are more than it may have
abbrev pub WasFullLife : PlainRecord → (calls : ℕ) → Type 0
WasFullLife desk calls = (calls ≤ front desk) × (CALLS_MAX < calls + desk.book.site.room)

-- the desk's tests
abbrev pub tests_of : PlainRecord → DeskTests
tests_of desk = record {
  may_tell = MayTell desk;
  was_full = WasFull desk;
  ended = Ended desk;
  was_full_life = WasFullLife desk;
}

-- which life it is a desk of, and where in it: its site, its start, and how many entries it had
pub record LifeRecord : Type 0 where
  pub site : SiteRecord
  pub start : ℕ
  pub begun : ℕ

abbrev pub life_of : PlainRecord → LifeRecord
life_of desk = record { site = desk.book.site; start = desk.book.start; begun = desk.begun }

-- what is kept: the book is right behind the entries before it, which end at the last roll
pub record IsKeptDesk (desk : PlainRecord) : Type 0 where
  pub behind : IsBehind desk.before desk.book
  pub begun : desk.begun ≤ front desk
  pub last : slice_get (begins desk) (length desk.rolls) ≡ Some (length desk.before)
  pub carry : MatchOption desk.book.carry (desk.rolls ≡ []) (λ carry. 0 < length desk.rolls)
