-- The ceiling: what all limits together stay under at the last moment of a book, also right behind a lowering
-- of the cap.
use Rattle.std.specs.Prelude.{ℕ, ◌+◌, nat_le, if◌then◌else◌, max, Option, Some, None}
use Rattle.limiter_num.specs.Timers.{reach}
use Rattle.plant_book.specs.declared.book.Entry.{Entry}
use Rattle.plant_book.specs.Sums.{last_that, through_last}
use Rattle.plant_book.specs.Book.{BookRecord}
use Rattle.plant_book.specs.Calls.{moment}
use Rattle.plant_book.specs.Caps.{sets_cap, cap_of}
use Rattle.plant_book.specs.Reserved.{now_of, total}
use Rattle.plant_book.specs.Answer.{silent_until}

-- the book up to the entry that set the cap in force
abbrev pub book_when_set : BookRecord → BookRecord
book_when_set book = record {
  site = book.site;
  start = book.start;
  entries = through_last sets_cap book.entries;
}

-- what was reserved in all right after the cap in force was set
unfoldable pub total_when_set : BookRecord → ℕ
total_when_set book = total (book_when_set book)

-- Behind the silence: the site's cap where none was set; within reach of the entry that set the cap in force
-- the greater of this cap and what was reserved right after that entry; then the cap in force.
abbrev pub ceiling_since : BookRecord → Option Entry → ℕ
ceiling_since book None = book.site.cap
ceiling_since book (Some set) = if nat_le (now_of book) (moment set.call + reach book.site.rules)
    then max (cap_of book) (total_when_set book) else cap_of book

-- the ceiling in milliwatts: the site's cap through the silence, then by the last Cap answered CapSet
unfoldable pub ceiling : BookRecord → ℕ
ceiling book = if nat_le (now_of book) (silent_until book) then book.site.cap
    else ceiling_since book (last_that sets_cap book.entries)
