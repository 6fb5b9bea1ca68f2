-- What is reserved for an inverter and in all, in milliwatts.
use Rattle.std.specs.Prelude.{ℕ, ◌-◌, max, fold, map, List}
use Rattle.plant_book.specs.declared.call.Write as writes
use Rattle.plant_book.specs.Sums.{sum_below}
use Rattle.plant_book.specs.Site.{SiteRecord, inverters, mw_at, floor_at}
use Rattle.plant_book.specs.Book.{BookRecord}
use Rattle.plant_book.specs.Calls.{latest}
use Rattle.plant_book.specs.Caps.{cap_of}
use Rattle.plant_book.specs.Writes.{live}

-- the greatest of the floor and the limits of these writes
unfoldable pub covering : SiteRecord → ℕ → List writes.Write → ℕ
covering site inverter its_writes = fold max (floor_at site inverter) (map
    (λ write. mw_at site inverter write.raw) its_writes)

-- what is reserved for the inverter at a moment
unfoldable pub reserved_at : BookRecord → ℕ → ℕ → ℕ
reserved_at book now inverter = covering book.site inverter (live book.site.rules book.entries now inverter)

-- what is reserved in all at a moment
unfoldable pub total_at : BookRecord → ℕ → ℕ
total_at book now = sum_below (inverters book.site) (reserved_at book now)

-- what of the cap in force is not reserved at a moment: 0 where more than it is reserved
unfoldable pub unreserved_at : BookRecord → ℕ → ℕ
unreserved_at book now = cap_of book - total_at book now

-- the last moment of the book
unfoldable pub now_of : BookRecord → ℕ
now_of book = latest book.start book.entries

-- the same at the last moment of the book
abbrev pub reserved : BookRecord → ℕ → ℕ
reserved book inverter = reserved_at book (now_of book) inverter

abbrev pub total : BookRecord → ℕ
total book = total_at book (now_of book)

abbrev pub unreserved : BookRecord → ℕ
unreserved book = unreserved_at book (now_of book)
