-- What passes do at a desk, and the life that it makes.
use Rattle.std.specs.Prelude.{◌≢◌, ℕ, ◌+◌, ◌==◌, if◌then◌else◌, List, [], ◌∷◌, ◌++◌, length, All}
use Rattle.plant_book.specs.declared.book.Entry.{Entry}
use Rattle.plant_book.specs.Book.{BookRecord}
use Rattle.plant_book.specs.Part.{PartRecord}
use Rattle.plant_book.specs.Life.{Life, entries_of, joined_book}
use Rattle.plant_ledger.specs.Plant.{with_one, next_book}
use Rattle.plant_desk.specs.declared.deed.Deed.{Deed}
use Rattle.plant_desk.specs.declared.deed.Deed.TheVariants.{Entered, Rolled}

-- the number of the pass that did it
abbrev pub author : Deed → ℕ
author (Entered by entry) = by
author (Rolled by) = by

-- these deeds are all of other passes
abbrev pub AreOthers : ℕ → List Deed → Type 0
AreOthers number deeds = All (λ deed. author deed ≢ number) deeds

-- the life after one more deed: a call is one more entry of the last book, and a roll ends that book
abbrev pub after : Life → Deed → Life
after life (Entered by entry) = record { ended = life.ended; last = with_one life.last entry }
after life (Rolled by) =
    record { ended = life.ended ++ life.last ∷ []; last = next_book (entries_of life.ended) life.last }

abbrev pub life_after : Life → List Deed → Life
life_after life [] = life
life_after life (deed ∷ deeds) = life_after (after life deed) deeds

-- the life of one book
abbrev pub first_life : PartRecord → Life
first_life book = record { ended = []; last = book }

-- the life that a plant's first book begins and these deeds go on with
abbrev pub life_of : PartRecord → List Deed → Life
life_of book deeds = life_after (first_life book) deeds

abbrev pub joined : PartRecord → List Deed → BookRecord
joined book deeds = joined_book (life_of book deeds)

-- how many calls the joined book has
abbrev pub front : PartRecord → List Deed → ℕ
front book deeds = length (joined book deeds).entries

-- how many of them are before the current book
abbrev pub base : PartRecord → List Deed → ℕ
base book deeds = length (entries_of (life_of book deeds).ended)

-- an entry of a joined book, with its place counted from 0
pub record Placed : Type 0 where
  pub place : ℕ
  pub entry : Entry

-- the entries that a pass made among these deeds, where the first of them has this place
abbrev pub entries_by : ℕ → ℕ → List Deed → List Placed
entries_by number place [] = []
entries_by number place (Entered by entry ∷ deeds) =
    if by == number then record { place = place; entry = entry } ∷ entries_by number (place + 1) deeds
    else entries_by number (place + 1) deeds
entries_by number place (Rolled by ∷ deeds) = entries_by number place deeds

-- the places of the rolls that a pass made among these deeds
abbrev pub rolls_by : ℕ → ℕ → List Deed → List ℕ
rolls_by number place [] = []
rolls_by number place (Entered by entry ∷ deeds) = rolls_by number (place + 1) deeds
rolls_by number place (Rolled by ∷ deeds) =
    if by == number then place ∷ rolls_by number place deeds else rolls_by number place deeds
