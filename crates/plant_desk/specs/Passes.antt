-- What contracts see of a desk and of its passes, and what a call through a pass does.
use Rattle.std.specs.Prelude.{◌≡◌, ◌⊎◌, ℕ, ◌+◌, ◌<◌, ◌≤◌, ◌==◌, List, [], ◌∷◌, ◌++◌, length, map, All, count_by}
use Rattle.std.specs.List.{range_with_len}
use Rattle.atomic_table.specs.Seated.{TableId}
use Rattle.plant_book.specs.declared.call.Call.{Call}
use Rattle.plant_book.specs.declared.carry.TheConstants.{CALLS_MAX}
use Rattle.plant_ledger.specs.declared.rolling.RollFault.{RollFault}
use Rattle.plant_ledger.specs.declared.rolling.RollFault.TheVariants.{LifeFull, NoMemory}
use Rattle.plant_book.specs.declared.call.Reply.{Reply}
use Rattle.plant_book.specs.declared.book.Entry.{Entry}
use Rattle.plant_book.specs.Book.{BookRecord}
use Rattle.plant_book.specs.Part.{PartRecord}
use Rattle.plant_book.specs.Life.{Life, IsLife}
use Rattle.plant_ledger.specs.Plant.{entry_of, right_reply}
use Rattle.plant_desk.specs.declared.deed.Deed.{Deed}
use Rattle.plant_desk.specs.declared.deed.Deed.TheVariants.{Entered, Rolled}
use Rattle.plant_desk.specs.Deeds.{author, AreOthers, life_of, joined, front, base, Placed, entries_by, rolls_by}

-- a desk: its name, the plant's book as it came to the desk, and how many passes were made
pub record DeskRecord : Type 0 where
  pub name : TableId
  pub book : PartRecord
  pub passes : ℕ

-- a pass: its desk, its number, and the deeds that it has seen, in order and from the first
pub record PassRecord : Type 0 where
  pub desk : DeskRecord
  pub number : ℕ
  pub seen : List Deed

-- the joined book that a pass has seen
abbrev pub seen_book : PassRecord → BookRecord
seen_book pass = joined pass.desk.book pass.seen

-- the first place that the desk gave out
abbrev pub first_place : DeskRecord → ℕ
first_place desk = length desk.book.entries

-- the entries that a pass made, each with its place in the joined book
abbrev pub entries : PassRecord → List Placed
entries pass = entries_by pass.number (first_place pass.desk) pass.seen

-- the places of its rolls
abbrev pub rolls : PassRecord → List ℕ
rolls pass = rolls_by pass.number (first_place pass.desk) pass.seen

-- a pass that has done nothing and seen nothing
abbrev pub new_pass : DeskRecord → ℕ → PassRecord
new_pass desk number = record { desk = desk; number = number; seen = [] }

-- the pass once it has seen these later deeds
abbrev pub after : PassRecord → List Deed → PassRecord
after pass later = record pass { seen = pass.seen ++ later }

-- What a pass finds once it has the turn: the life so far is an answered one, it begins with all that the
-- pass had seen, and has nothing else of the pass.
pub record Finds (old : PassRecord) (between : List Deed) : Type 0 where
  pub others : AreOthers old.number between
  pub answered : IsLife (life_of old.desk.book (old.seen ++ between))

-- a look: the pass has seen what it found, and nothing was done
pub record Looks (old new : PassRecord) : Type 0 where
  pub between : List Deed
  pub finds : Finds old between
  pub seen : new ≡ after old between
  pub entries : entries new ≡ entries old
  pub rolls : rolls new ≡ rolls old

-- A look at a full book: the front stands at the base and as many calls as a book has room for.
pub record FindsFull (old : PassRecord) (calls : ℕ) (new : PassRecord) : Type 0 where
  pub looks : Looks old new
  pub room : calls ≡ old.desk.book.site.room
  pub full : front old.desk.book new.seen ≡ base old.desk.book new.seen + calls

-- A call that was entered. The reply is the one that the joined book asks for which begins with all that
-- the pass had seen and has of the pass just its own entries. The pass gets one entry more, at the place
-- behind that book.
pub record Enters (old : PassRecord) (call : Call) (reply : Reply) (new : PassRecord) : Type 0 where
  pub between : List Deed
  pub finds : Finds old between
  pub right : reply ≡ right_reply (joined old.desk.book (old.seen ++ between)) call
  pub entry : Entry
  pub entered : entry ≡ entry_of (life_of old.desk.book (old.seen ++ between)).last call reply
  pub seen : new ≡ after old (between ++ Entered old.number entry ∷ [])
  pub answered : IsLife (life_of old.desk.book new.seen)
  pub later : front old.desk.book old.seen ≤ front old.desk.book (old.seen ++ between)
  pub entries : entries new
      ≡ entries old ++ record { place = front old.desk.book (old.seen ++ between); entry = entry } ∷ []
  pub rolls : rolls new ≡ rolls old

-- the book is one of those of the life that ended
pub record StandsIn (life : Life) (part : PartRecord) : Type 0 where
  pub before : List PartRecord
  pub behind : List PartRecord
  pub there : life.ended ≡ before ++ part ∷ behind

-- A roll: the book that ended is the last one of the life so far, and the next deed goes into the book
-- behind it. The pass gets one roll more, at the front, and the book that ended stands in whatever the life
-- goes on to.
pub record RollsOver (old : PassRecord) (ended : PartRecord) (new : PassRecord) : Type 0 where
  pub between : List Deed
  pub finds : Finds old between
  pub whole : ended ≡ (life_of old.desk.book (old.seen ++ between)).last
  pub seen : new ≡ after old (between ++ Rolled old.number ∷ [])
  pub answered : IsLife (life_of old.desk.book new.seen)
  pub entries : entries new ≡ entries old
  pub rolls : rolls new ≡ rolls old ++ front old.desk.book (old.seen ++ between) ∷ []
  pub stands : (later : List Deed) → StandsIn (life_of old.desk.book (new.seen ++ later)) ended

-- with one more book of the room the life would have more calls than a life may have
abbrev pub IsFull : PartRecord → List Deed → Type 0
IsFull book deeds = CALLS_MAX < front book deeds + book.site.room

-- A roll that was refused: for a full life, with its calls as the front shows them, or else for want of
-- memory.
pub record RefusesRoll (old : PassRecord) (fault : RollFault) (new : PassRecord) : Type 0 where
  pub looks : Looks old new
  pub cause : ((fault ≡ LifeFull (front old.desk.book new.seen)) × IsFull old.desk.book new.seen)
      ⊎ ((fault ≡ NoMemory) × (¬ IsFull old.desk.book new.seen))

-- A life comes from these passes of a desk: it is the answered life that some deeds make of the book that
-- came to the desk. Each deed is of just one of the passes, and of each pass the deeds have just its own
-- entries and rolls, and begin with all that it has seen.
pub record ComesFrom (desk : DeskRecord) (passes : List PassRecord) (life : Life) : Type 0 where
  pub deeds : List Deed
  pub made : life ≡ life_of desk.book deeds
  pub answered : IsLife life
  pub of_desk : All (λ pass. pass.desk ≡ desk) passes
  pub numbers : (number : ℕ) → 1 ≤ number → number ≤ desk.passes
      → count_by (λ pass. pass.number == number) passes ≡ 1
  pub signed : All (λ deed. (1 ≤ author deed) × (author deed ≤ desk.passes)) deeds
  pub begins : All (λ pass. (later : List Deed) × (deeds ≡ pass.seen ++ later)) passes
  pub entries : All (λ pass. entries_by pass.number (first_place desk) deeds ≡ entries pass) passes
  pub rolls : All (λ pass. rolls_by pass.number (first_place desk) deeds ≡ rolls pass) passes

-- a desk that begins: it has the plant's book, and its passes have the numbers from 1 on
pub record IsNewDesk (book : PartRecord) (count : ℕ) (desk : DeskRecord) (made : List PassRecord) : Type 0 where
  pub of_book : desk.book ≡ book
  pub passes : desk.passes ≡ count
  pub numbered : made ≡ map (new_pass desk) (range_with_len 1 count)

-- a desk that was closed: the plant is on the last book of a life that comes from its passes
pub record IsClosed (desk : DeskRecord) (passes : List PassRecord) (plant : PartRecord) : Type 0 where
  pub life : Life
  pub comes : ComesFrom desk passes life
  pub last : plant ≡ life.last
