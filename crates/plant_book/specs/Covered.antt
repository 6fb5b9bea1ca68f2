-- What is reserved for an inverter covers what it may hold, and after a lowering what is reserved comes back
-- under the cap.
use Rattle.std.specs.Prelude.{◌≡◌, ℕ, ◌+◌, ◌<◌, ◌≤◌, ◌⊎◌, true, if◌then◌else◌, List, [], IfSome}
use Rattle.limiter_num.specs.Timers.{reach}
use Rattle.plant_book.specs.declared.call.Reply.TheVariants as replies
use Rattle.plant_book.specs.declared.book.Entry.{Entry}
use Rattle.plant_book.specs.Sums.{last_that}
use Rattle.plant_book.specs.Book.{BookRecord}
use Rattle.plant_book.specs.Calls.{moment}
use Rattle.plant_book.specs.Caps.{sets_cap, cap_by, cap_of}
use Rattle.plant_book.specs.Reserved.{reserved, total, now_of}
use Rattle.plant_book.specs.Answer.{silent_until}
use Rattle.plant_book.specs.Ceiling.{ceiling}
use Rattle.plant_book.specs.History.{History, IsHistory}
use Rattle.plant_book.specs.Behaviour.{Timed, IsBehaviour}
use Rattle.plant_book.specs.Held.{IsCut}
use Rattle.plant_book.specs.Safe.{held_mw}

-- whatever an inverter did that follows the timed device: at each cut from the last moment on it holds no more
-- than is reserved for it
abbrev pub HoldsWithin : History → Type 0
HoldsWithin history = (inverter : ℕ) (events first rest : List Timed) (at : ℕ)
    → IsBehaviour history inverter events → now_of history.life ≤ at → IsCut events at first rest
    → held_mw history.life.site inverter first ≤ reserved history.life inverter

-- one life with an empty past
abbrev pub IsOneLife : History → Type 0
IsOneLife history = (history.past ≡ []) × (history.earlier ≡ [])

-- What is held in a history that ends with this book is covered by what is reserved: behind the silence of the
-- last life, or where there was no life and no write before it.
abbrev pub CoversHeld : BookRecord → Type 0
CoversHeld book = (history : History) → IsHistory history → history.life ≡ book
    → (silent_until book < now_of book) ⊎ IsOneLife history → HoldsWithin history

-- what is reserved in all is at most the ceiling
abbrev pub IsUnderCeiling : BookRecord → Type 0
IsUnderCeiling book = total book ≤ ceiling book

-- past reach of the entry that set the cap in force, what is reserved in all is at most this cap
abbrev pub IsBackUnderCap : BookRecord → Type 0
IsBackUnderCap book = IfSome (last_that sets_cap book.entries)
    (λ set. moment set.call + reach book.site.rules < now_of book → total book ≤ cap_of book)

-- Only an entry that sets the cap changes it, to what its Cap wants, and it tells this cap and the ceiling.
pub record TellsCap (old : BookRecord) (entry : Entry) (new : BookRecord) : Type 0 where
  pub cap : cap_of new ≡ (if sets_cap entry then cap_by old.site.cap entry.call else cap_of old)
  pub told : sets_cap entry ≡ true → entry.reply ≡ replies.CapSet (cap_of new) (ceiling new)
