-- What each call makes of the list of an inverter's live writes.
use Rattle.std.specs.Prelude.{◌≡◌, ℕ, ◌-◌, ◌^◌, ◌<◌, ◌≤◌, Bool, IsTrue, not, ◌&&◌, ◌==◌}
use Rattle.std.specs.Prelude.{nat_lt, List, [], length, drop, filter, fold, map, max}
use Rattle.std.specs.List.{All, Any}
use Rattle.std.specs.List.Sorted.{IsNonDecreasingBy}
use Rattle.limiter_num.specs.declared.rules.Rules.{Rules}
use Rattle.limiter_num.specs.Timers.{last_moment}
use Rattle.plant_book.specs.declared.call.Write as writes

-- how many writes of an inverter may be live at once
abbrev pub live_max : ℕ
live_max = 32

-- the greatest moment, in milliseconds
abbrev pub moment_max : ℕ
moment_max = 10 ^ 15

-- whether a write is past its last moment
abbrev pub is_past : Rules → ℕ → writes.Write → Bool
is_past rules now write = nat_lt (last_moment rules write.at) now

-- whether a write has this link and number
abbrev pub has_numbers : ℕ → ℕ → writes.Write → Bool
has_numbers link number write = (write.link == link) && (write.number == number)

-- whether a write has this raw percentage
abbrev pub has_raw : ℕ → writes.Write → Bool
has_raw raw write = write.raw == raw

-- the writes that a test doesn't find, in their order
abbrev pub without : (writes.Write → Bool) → List writes.Write → List writes.Write
without test its_writes = filter (λ write. not (test write)) its_writes

-- the greatest raw percentage of writes, or 0 of none
abbrev pub most_raw : List writes.Write → ℕ
most_raw its_writes = fold max 0 (map (λ write. write.raw) its_writes)

-- no write is older than one before it
abbrev pub AreInOrder : List writes.Write → Type 0
AreInOrder its_writes = IsNonDecreasingBy (λ write. write.at) its_writes

-- none of the writes was granted before this moment and one of them at it; of none it is the greatest number of a word
pub record IsOldest (its_writes : List writes.Write) (moment : ℕ) : Type 0 where
  pub from : All (λ write. moment ≤ write.at) its_writes
  pub one : 0 < length its_writes → Any (λ write. write.at ≡ moment) its_writes
  pub none : its_writes ≡ [] → moment ≡ 2 ^ 64 - 1

-- what places keep to: the writes behind those that are gone are few
pub record AreFew (kept : List writes.Write) (gone : ℕ) : Type 0 where
  pub within : gone ≤ length kept
  pub few : length (drop gone kept) ≤ live_max

-- what a list keeps beside its writes: their greatest raw percentage, and whether they are known to be in order
pub record IsKept (its_writes : List writes.Write) (most : ℕ) (rising : Bool) : Type 0 where
  pub greatest : most ≡ most_raw its_writes
  pub order : IsTrue rising → AreInOrder its_writes
