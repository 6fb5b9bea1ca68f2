-- When a history is safe: whatever the inverters do that follow the timed device, their limits and what is
-- reserved for all others stay under the ceiling.
use Rattle.std.specs.Prelude.{◌≡◌, ℕ, ◌+◌, ◌≤◌, ◌<◌, Bool, true, if◌then◌else◌, List, ◌∷◌, ◌++◌, take}
use Rattle.plant_book.specs.Sums.{sum_below}
use Rattle.plant_book.specs.Site.{SiteRecord, inverters, mw_at}
use Rattle.plant_book.specs.Book.{BookRecord}
use Rattle.plant_book.specs.Reserved.{reserved, now_of}
use Rattle.plant_book.specs.Ceiling.{ceiling}
use Rattle.plant_book.specs.Answered.{with_entries}
use Rattle.plant_book.specs.History.{History, lives}
use Rattle.plant_book.specs.Behaviour.{Timed, held, IsBehaviour}
use Rattle.plant_book.specs.Held.{IsCut}

-- the milliwatts of what an inverter holds after these events
abbrev pub held_mw : SiteRecord → ℕ → List Timed → ℕ
held_mw site inverter events = mw_at site inverter (held site inverter events)

-- For each set of inverters, each choice of a behaviour for each inverter of the set, each moment from the last of
-- the history on, and each choice of cuts at it: the limits that the set holds and what is reserved for the others
-- sum to at most the ceiling of the last life.
abbrev pub IsSafe : History → Type 0
IsSafe history = (among : ℕ → Bool) (events first rest : ℕ → List Timed) (at : ℕ)
    → ((inverter : ℕ) → inverter < inverters history.life.site → among inverter ≡ true
    → IsBehaviour history inverter (events inverter))
    → now_of history.life ≤ at
    → ((inverter : ℕ) → inverter < inverters history.life.site → among inverter ≡ true
    → IsCut (events inverter) at (first inverter) (rest inverter))
    → sum_below (inverters history.life.site) (λ inverter. if among inverter
    then held_mw history.life.site inverter (first inverter) else 0)
    + sum_below (inverters history.life.site) (λ inverter. if among inverter then 0
    else reserved history.life inverter)
    ≤ ceiling history.life

-- the history up to one of its lives, and of that life the first entries
abbrev pub up_to : History → List BookRecord → BookRecord → ℕ → History
up_to history before book count = record {
  past = history.past;
  earlier = before;
  life = with_entries book
      (take count book.entries);
}

-- A history is safe at every moment where each prefix of it is safe: its first lives, and of the last of them any
-- first entries.
abbrev pub IsSafeAlways : History → Type 0
IsSafeAlways history = (before later : List BookRecord) (book : BookRecord) (count : ℕ)
    → lives history ≡ before ++ book ∷ later → IsSafe (up_to history before book count)
