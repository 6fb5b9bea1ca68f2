-- Links, requests and the pending read of an inverter.
use Rattle.std.specs.Prelude.{ℕ, Bool, true, false, ◌==◌, if◌then◌else◌, List, Option, Some, None, count_by}
use Rattle.std.specs.List.{after_last}
use Rattle.plant_book.specs.declared.call.Call.{Call}
use Rattle.plant_book.specs.declared.call.Call.TheVariants as calls
use Rattle.plant_book.specs.declared.call.Reply.{Reply}
use Rattle.plant_book.specs.declared.call.Reply.TheVariants as replies
use Rattle.plant_book.specs.declared.call.Read as reads
use Rattle.plant_book.specs.declared.book.Entry.{Entry}
use Rattle.plant_book.specs.Sums.{last_that}

abbrev pub links_to : ℕ → Call → Bool
links_to inverter (calls.Link at other) = other == inverter
links_to inverter _ = false

-- whether an entry is a Link of the inverter
abbrev pub is_link : ℕ → Entry → Bool
is_link inverter entry = links_to inverter entry.call

-- the link number of an inverter: the count of its Links
unfoldable pub link_number : ℕ → List Entry → ℕ
link_number inverter entries = count_by (is_link inverter) entries

abbrev pub grants_to : ℕ → Reply → Bool
grants_to inverter (replies.Granted write) = write.inverter == inverter
grants_to inverter (replies.ReadAs read) = read.inverter == inverter
grants_to inverter _ = false

-- whether an entry is a request of the inverter: an Ask answered Granted or a Read answered ReadAs
abbrev pub is_request : ℕ → Entry → Bool
is_request inverter entry = grants_to inverter entry.reply

-- the count of the inverter's requests since its last Link
unfoldable pub requests : ℕ → List Entry → ℕ
requests inverter entries = count_by (is_request inverter) (after_last (is_link inverter) entries)

abbrev pub reads_for : ℕ → Reply → Bool
reads_for inverter (replies.ReadAs read) = read.inverter == inverter
reads_for inverter _ = false

abbrev pub is_seen : Reply → Bool
is_seen (replies.Freed count reserved) = true
is_seen (replies.Strange raw) = true
is_seen _ = false

abbrev pub changes_by : ℕ → Call → Reply → Bool
changes_by inverter (calls.Link at other) reply = other == inverter
changes_by inverter (calls.Saw at other number raw) reply = if other == inverter then is_seen reply else false
changes_by inverter (calls.Read at other) reply = reads_for inverter reply
changes_by inverter _ reply = false

-- whether an entry makes or ends the pending read of the inverter: a Read answered ReadAs, a Link, or a Saw
-- answered Freed or Strange
abbrev pub changes_pending : ℕ → Entry → Bool
changes_pending inverter entry = changes_by inverter entry.call entry.reply

abbrev pub read_of : Reply → Option reads.Read
read_of (replies.ReadAs read) = Some read
read_of _ = None

abbrev pub pending_after : Option Entry → Option reads.Read
pending_after None = None
pending_after (Some entry) = read_of entry.reply

-- the pending read of the inverter: that of the last such entry, where it is a Read
unfoldable pub pending_read : ℕ → List Entry → Option reads.Read
pending_read inverter entries = pending_after (last_that (changes_pending inverter) entries)
