-- The queue of live writes by their last moments: each live write stands there once, and nothing else does.
use Rattle.std.specs.Prelude.{◌≡◌, ℕ, ◌<◌, ◌≤◌, Bool, true, ◌&&◌, ◌==◌, List, []}
use Rattle.std.specs.Prelude.{◌∷◌, ◌++◌, length, map, filter, slice_index_or}
use Rattle.std.specs.List.{All, list_any}
use Rattle.limiter_num.specs.declared.rules.Rules.{Rules}
use Rattle.limiter_num.specs.Timers.{last_moment}
use Rattle.plant_book.specs.declared.call.Call.{Call}
use Rattle.plant_book.specs.declared.call.Call.TheVariants as calls
use Rattle.plant_book.specs.declared.call.Reply.{Reply}
use Rattle.plant_book.specs.declared.call.Reply.TheVariants as replies
use Rattle.plant_book.specs.declared.call.Write as writes
use Rattle.plant_book.specs.Writes.{frees}
use Rattle.revert_timers.specs.declared.expiries.Due.{Due}
use Rattle.revert_timers.specs.Expiries.{has_numbers, without_first}
use Rattle.uncertain_writes.specs.Live as lists
use Rattle.plant_ledger.specs.Account.{Account}

-- the place in the queue of a write of this inverter
abbrev pub due_of : Rules → ℕ → writes.Write → Due
due_of rules inverter write =
    record { last = last_moment rules write.at; inverter = inverter; link = write.link; number = write.number }

-- whether a place of the queue is this inverter's
abbrev pub is_of : ℕ → Due → Bool
is_of inverter due = due.inverter == inverter

-- The numbers of an inverter's live writes: none is of a later request than the last of the link, and no two are
-- alike.
pub record AreNumbered (link requests : ℕ) (its_writes : List writes.Write) : Type 0 where
  pub so_far : All (λ write. (write.link ≤ link) × (write.link ≡ link → write.number ≤ requests)) its_writes
  pub once : (of_link number : ℕ) → length (filter (lists.has_numbers of_link number) its_writes) ≤ 1

-- The places of each inverter are those of its live writes, in order. No other inverter has any, and none is later
-- than the last moment of a write of now.
pub record AreQueued (rules : Rules) (now : ℕ) (queue : List Due) (accounts : List Account) : Type 0 where
  pub each : (inverter : ℕ) (otherwise : Account) → inverter < length accounts
      → filter (is_of inverter) queue ≡ map (due_of rules inverter) (slice_index_or accounts inverter otherwise).live
  pub of_accounts : All (λ due. due.inverter < length accounts) queue
  pub in_time : All (λ due. due.last ≤ last_moment rules now) queue
  pub numbered : (inverter : ℕ) (otherwise : Account) → inverter < length accounts
      → AreNumbered (slice_index_or accounts inverter otherwise).link
      (slice_index_or accounts inverter otherwise).requests (slice_index_or accounts inverter otherwise).live

-- whether a place of the queue may be that of a write of this inverter
abbrev pub is_due : Rules → ℕ → writes.Write → Due → Bool
is_due rules inverter write due = (due.inverter == inverter) && (due.last == last_moment rules write.at)

-- each live write has a place
abbrev pub HavePlaces : Rules → List Due → List Account → Type 0
HavePlaces rules queue accounts = (inverter : ℕ) (otherwise : Account) → inverter < length accounts
    → All (λ write. list_any (is_due rules inverter write) queue ≡ true)
    (slice_index_or accounts inverter otherwise).live

-- the queue once these writes of an inverter were taken out
abbrev pub without_writes : (inverter : ℕ) → List writes.Write → List Due → List Due
without_writes inverter [] queue = queue
without_writes inverter (write ∷ later) queue =
    without_writes inverter later (without_first (has_numbers inverter write.link write.number) queue)

-- The queue after a call with this reply, by the account of its inverter before it: a granted write comes behind the
-- others, those that a Saw frees go, and so does one that is given back.
abbrev pub queue_after : Rules → Call → Reply → Account → List Due → List Due
queue_after rules (calls.Ask at inverter raw) (replies.Granted write) account queue =
    queue ++ due_of rules inverter write ∷ []
queue_after rules (calls.Saw at inverter number raw) (replies.Freed count reserved) account queue =
    without_writes inverter (filter (frees rules account.pending raw) account.live) queue
queue_after rules (calls.Back at inverter link number) replies.Taken account queue =
    without_first (has_numbers inverter link number) queue
queue_after rules call reply account queue = queue
