-- Lives that are kept in several books, one after another.
use Rattle.std.specs.Prelude.{◌≡◌, ℕ, ◌≤◌, List, [], ◌∷◌, ◌++◌, length, Option, Some, None}
use Rattle.plant_book.specs.declared.book.Entry.{Entry}
use Rattle.plant_book.specs.Site.{SiteRecord}
use Rattle.plant_book.specs.Book.{BookRecord}
use Rattle.plant_book.specs.Part.{CarryRecord, PartRecord, book_behind}
use Rattle.plant_book.specs.Answered.{IsBook}
use Rattle.plant_book.specs.Carry.{carry_of}

-- the entries of books one after another
abbrev pub entries_of : List PartRecord → List Entry
entries_of [] = []
entries_of (part ∷ parts) = part.entries ++ entries_of parts

-- A life that is kept in books: those that ended, the oldest first, and the last one.
pub record Life : Type 0 where
  pub ended : List PartRecord
  pub last : PartRecord

-- the joined book of a life: the entries of its books one after another
abbrev pub joined_book : Life → BookRecord
joined_book life = book_behind (entries_of life.ended) life.last

-- what a book of this site and start begins with behind these: the first of a life with nothing
abbrev pub carry_behind : SiteRecord → ℕ → List PartRecord → Option CarryRecord
carry_behind site start [] = None
carry_behind site start (part ∷ parts) =
    Some (carry_of (record { site = site; start = start; entries = entries_of (part ∷ parts) }))

-- a book of a life of this site and start, behind these
pub record IsPart (site : SiteRecord) (start : ℕ) (before : List PartRecord)
    (part : PartRecord) : Type 0 where
  pub one_site : part.site ≡ site
  pub one_start : part.start ≡ start
  pub carry : part.carry ≡ carry_behind site start before
  pub room : length part.entries ≤ site.room

abbrev pub AreParts : SiteRecord → ℕ → List PartRecord → List PartRecord → Type 0
AreParts site start before [] = Unit {0}
AreParts site start before (part ∷ later) = IsPart site start before part
    × AreParts site start (before ++ part ∷ []) later

-- an answered life: its books are of one site and start, each begins with what those before it leave, and the
-- joined book is one of right replies
pub record IsLife (life : Life) : Type 0 where
  pub parts : AreParts life.last.site life.last.start [] (life.ended ++ life.last ∷ [])
  pub book : IsBook (joined_book life)
