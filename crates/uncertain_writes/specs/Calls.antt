-- What the calls of a book make of the list of an inverter's live writes, one after another.
use Rattle.std.specs.Prelude.{ℕ, ◌==◌, if◌then◌else◌, List, [], ◌∷◌, ◌++◌, Option}
use Rattle.limiter_num.specs.declared.rules.Rules.{Rules}
use Rattle.plant_book.specs.declared.call.Call.{Call}
use Rattle.plant_book.specs.declared.call.Call.TheVariants as calls
use Rattle.plant_book.specs.declared.call.Reply.{Reply}
use Rattle.plant_book.specs.declared.call.Reply.TheVariants as replies
use Rattle.plant_book.specs.declared.call.Write as writes
use Rattle.plant_book.specs.declared.call.Read as reads
use Rattle.plant_book.specs.declared.book.Entry.{Entry}
use Rattle.plant_book.specs.Calls.{moment}
use Rattle.plant_book.specs.Requests.{pending_read}
use Rattle.plant_book.specs.Writes.{frees}
use Rattle.uncertain_writes.specs.Live.{is_past, has_numbers, without}

-- The list after a call of the inverter with this reply, by the read that was pending before it: a grant is one more
-- write at the end, a Saw answered Freed drops those that the read frees, a Back answered Taken the one of its numbers.
abbrev pub after_reply : Rules → ℕ → Option reads.Read → Call → Reply → List writes.Write → List writes.Write
after_reply rules inverter pending (calls.Ask at other raw) (replies.Granted write) its_writes =
    if other == inverter then its_writes ++ write ∷ [] else its_writes
after_reply rules inverter pending (calls.Saw at other number raw) (replies.Freed count reserved) its_writes =
    if other == inverter then without (frees rules pending raw) its_writes else its_writes
after_reply rules inverter pending (calls.Back at other link number) replies.Taken its_writes =
    if other == inverter then without (has_numbers link number) its_writes else its_writes
after_reply rules inverter pending _ _ its_writes = its_writes

-- the list after one more entry behind these: what is past by its moment goes first
abbrev pub after_entry : Rules → ℕ → List Entry → Entry → List writes.Write → List writes.Write
after_entry rules inverter before entry its_writes =
    after_reply rules inverter (pending_read inverter before) entry.call entry.reply
    (without (is_past rules (moment entry.call)) its_writes)

-- the list after the later entries
unfoldable pub after_entries : Rules → ℕ → List Entry → List Entry → List writes.Write → List writes.Write
after_entries rules inverter before [] its_writes = its_writes
after_entries rules inverter before (entry ∷ later) its_writes =
    after_entries rules inverter (before ++ entry ∷ []) later (after_entry rules inverter before entry its_writes)

-- the list at a moment after all entries of a book, which begins with none
abbrev pub live_by_calls : Rules → List Entry → ℕ → ℕ → List writes.Write
live_by_calls rules entries now inverter = without (is_past rules now) (after_entries rules inverter [] entries [])
