-- What a call makes of the writes that are live and of what is reserved.
use Rattle.std.specs.Prelude.{◌≡◌, ℕ, Bool, true, false, not, ◌&&◌, nat_le, ◌==◌, List, ◌++◌, filter}
use Rattle.limiter_num.specs.declared.rules.Rules.{Rules}
use Rattle.limiter_num.specs.Timers.{last_moment}
use Rattle.plant_book.specs.declared.call.Reply.{Reply}
use Rattle.plant_book.specs.declared.call.Reply.TheVariants as replies
use Rattle.plant_book.specs.declared.call.Write as writes
use Rattle.plant_book.specs.declared.book.Entry.{Entry}
use Rattle.plant_book.specs.Book.{BookRecord}
use Rattle.plant_book.specs.Calls.{moment}
use Rattle.plant_book.specs.Writes.{grant_of, ends, live}
use Rattle.plant_book.specs.Reserved.{covering, reserved_at, reserved, now_of}

-- whether a reply refuses the call, or says that a read-back was strange
abbrev pub is_refusal : Reply → Bool
is_refusal (replies.Linked number) = false
is_refusal (replies.Granted write) = false
is_refusal (replies.ReadAs read) = false
is_refusal (replies.Freed count reserved) = false
is_refusal replies.Taken = false
is_refusal (replies.Total watts) = false
is_refusal (replies.CapSet cap ceiling) = false
is_refusal _ = true

-- whether an entry, behind these before it, neither gives the write back nor frees it, and it is not past its
-- last moment at the entry's own
abbrev pub stays_by : Rules → List Entry → Entry → writes.Write → Bool
stays_by rules before entry write = not (ends rules before entry write)
    && nat_le (moment entry.call) (last_moment rules write.at)

-- of these writes those that an entry, behind these before it, neither gives back nor frees, and that are not past
-- their last moment at its own
abbrev pub left_after : Rules → List Entry → Entry → List writes.Write → List writes.Write
left_after rules before entry its_writes =
    filter (λ write. nat_le (moment entry.call) (last_moment rules write.at)) (filter (λ write. not
    (ends rules before entry write)) its_writes)

-- the writes that an entry grants to the inverter
abbrev pub granted_to : ℕ → Entry → List writes.Write
granted_to inverter entry = filter (λ write. write.inverter == inverter) (grant_of entry)

-- A write stays reserved until it is given back, freed or past, and at that very call it is gone: what is reserved
-- for each inverter after an entry covers the writes that were live before and are left, and the one that is
-- granted.
abbrev pub LiveOn : BookRecord → Entry → BookRecord → Type 0
LiveOn old entry new = (inverter : ℕ) → reserved new inverter
    ≡ covering old.site inverter (left_after old.site.rules old.entries entry
    (live old.site.rules old.entries (now_of old) inverter) ++ granted_to inverter entry)

-- a refused call changes no reservation beyond what is past by its moment
abbrev pub ChangesNothing : BookRecord → Entry → BookRecord → Type 0
ChangesNothing old entry new = is_refusal entry.reply ≡ true → (inverter : ℕ)
    → reserved new inverter ≡ reserved_at old (moment entry.call) inverter
