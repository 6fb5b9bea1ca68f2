-- The cap in force: an operator may change it while the plant runs.
use Rattle.std.specs.Prelude.{ℕ, Bool, true, false, Option, Some, None}
use Rattle.plant_book.specs.declared.call.Call.{Call}
use Rattle.plant_book.specs.declared.call.Call.TheVariants as calls
use Rattle.plant_book.specs.declared.call.Reply.{Reply}
use Rattle.plant_book.specs.declared.call.Reply.TheVariants as replies
use Rattle.plant_book.specs.declared.book.Entry.{Entry}
use Rattle.plant_book.specs.Sums.{last_that}
use Rattle.plant_book.specs.Book.{BookRecord}

abbrev pub is_set : Reply → Bool
is_set (replies.CapSet cap ceiling) = true
is_set _ = false

abbrev pub sets_by : Call → Reply → Bool
sets_by (calls.Cap at mw) reply = is_set reply
sets_by _ reply = false

-- whether an entry sets the cap: a Cap answered CapSet
abbrev pub sets_cap : Entry → Bool
sets_cap entry = sets_by entry.call entry.reply

abbrev pub cap_by : ℕ → Call → ℕ
cap_by otherwise (calls.Cap at mw) = mw
cap_by otherwise _ = otherwise

abbrev pub cap_after : ℕ → Option Entry → ℕ
cap_after otherwise None = otherwise
cap_after otherwise (Some entry) = cap_by otherwise entry.call

-- the cap in force in milliwatts: that of the last Cap answered CapSet, or the site's where there is none
unfoldable pub cap_of : BookRecord → ℕ
cap_of book = cap_after book.site.cap (last_that sets_cap book.entries)
