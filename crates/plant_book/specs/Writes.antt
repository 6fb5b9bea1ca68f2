-- Which writes are live: granted, neither given back nor freed, and not past their last moment.
use Rattle.std.specs.Prelude.{ℕ, Bool, true, false, not, ◌&&◌, ◌||◌, nat_le, nat_lt}
use Rattle.std.specs.Prelude.{◌==◌, List, [], ◌∷◌, ◌++◌, filter, Option, Some, None}
use Rattle.limiter_num.specs.declared.rules.Rules.{Rules}
use Rattle.limiter_num.specs.Timers.{last_act, last_moment}
use Rattle.plant_book.specs.declared.call.Call.{Call}
use Rattle.plant_book.specs.declared.call.Call.TheVariants as calls
use Rattle.plant_book.specs.declared.call.Reply.{Reply}
use Rattle.plant_book.specs.declared.call.Reply.TheVariants as replies
use Rattle.plant_book.specs.declared.call.Write as writes
use Rattle.plant_book.specs.declared.call.Read as reads
use Rattle.plant_book.specs.declared.book.Entry.{Entry}
use Rattle.plant_book.specs.Requests.{pending_read}

abbrev pub granted : Reply → List writes.Write
granted (replies.Granted write) = write ∷ []
granted _ = []

-- the write that an entry grants, or none
abbrev pub grant_of : Entry → List writes.Write
grant_of entry = granted entry.reply

-- Whether a read settles a write of its inverter: the write has the read's link and a smaller number, or it
-- could act at the latest before the read.
abbrev pub settles : Rules → reads.Read → writes.Write → Bool
settles rules read write = (write.inverter == read.inverter)
    && ((write.link == read.link) && nat_lt write.number read.number || nat_lt
    (last_act rules write.at) read.at)

-- whether a pending read that showed a raw percentage frees a write: it settles the write, whose raw is
-- another
abbrev pub frees : Rules → Option reads.Read → ℕ → writes.Write → Bool
frees rules None raw write = false
frees rules (Some read) raw write = settles rules read write && not (write.raw == raw)

abbrev pub is_numbered : ℕ → ℕ → ℕ → writes.Write → Bool
is_numbered inverter link number write = (write.inverter == inverter) && (write.link == link) &&
    (write.number == number)

abbrev pub is_taken : Reply → Bool
is_taken replies.Taken = true
is_taken _ = false

abbrev pub is_freed : Reply → Bool
is_freed (replies.Freed count reserved) = true
is_freed _ = false

abbrev pub ends_by : Rules → List Entry → Call → Reply → writes.Write → Bool
ends_by rules before (calls.Back at inverter link number) reply write = is_taken reply
    && is_numbered inverter link number write
ends_by rules before (calls.Saw at inverter number raw) reply write = is_freed reply && frees rules
    (pending_read inverter before) raw write
ends_by rules before _ reply write = false

-- whether an entry, behind these before it, gives a write back or frees it
abbrev pub ends : Rules → List Entry → Entry → writes.Write → Bool
ends rules before entry write = ends_by rules before entry.call entry.reply write

-- whether one of the later entries does
unfoldable pub ends_later : Rules → List Entry → List Entry → writes.Write → Bool
ends_later rules before [] write = false
ends_later rules before (entry ∷ later) write = ends rules before entry write || ends_later rules (before
    ++ entry ∷ []) later write

-- the grants of the later entries that no entry behind them gives back or frees
unfoldable pub standing : Rules → List Entry → List Entry → List writes.Write
standing rules before [] = []
standing rules before (entry ∷ later) =
    filter (λ write. not (ends_later rules (before ++ entry ∷ []) later write)) (grant_of entry)
    ++ standing rules (before ++ entry ∷ []) later

-- whether a write is of the inverter and not past its last moment
abbrev pub is_current : Rules → ℕ → ℕ → writes.Write → Bool
is_current rules now inverter write = (write.inverter == inverter) && nat_le now (last_moment rules write.at)

-- the writes of the inverter that are live at a moment, in the order of their grants
unfoldable pub live : Rules → List Entry → ℕ → ℕ → List writes.Write
live rules entries now inverter = filter (is_current rules now inverter) (standing rules [] entries)
