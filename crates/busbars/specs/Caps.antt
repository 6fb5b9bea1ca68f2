-- What the members of a bus have reserved, what they may hold, and what is left under its cap.
use Rattle.std.specs.Prelude.{◌≡◌, ◌⊎◌, ℕ, ◌-◌, ◌<◌, ◌≤◌, max, List, ◌∷◌, ◌++◌, length, true}
use Rattle.std.specs.List.{AllByRecursion}
use Rattle.plant_book.specs.Site.{inverters, mw_at}
use Rattle.plant_book.specs.Book.{BookRecord}
use Rattle.plant_book.specs.Reserved.{reserved, now_of}
use Rattle.plant_book.specs.Answer.{silent_until}
use Rattle.plant_book.specs.History.{History, IsHistory}
use Rattle.plant_book.specs.Behaviour.{Timed, IsBehaviour}
use Rattle.plant_book.specs.Held.{IsCut}
use Rattle.plant_book.specs.Safe.{held_mw}
use Rattle.plant_book.specs.Covered.{IsOneLife}
use Rattle.busbars.specs.declared.bus.Bus as bus
use Rattle.busbars.specs.Buses.{holds, sum_of_members}

-- what the members of a bus have reserved at the last moment of a book
abbrev pub reserved_on : BookRecord → bus.Bus → ℕ
reserved_on book bus = sum_of_members book.site bus (reserved book)

-- what of its cap they have not reserved: 0 where they have reserved more
abbrev pub left_on : BookRecord → bus.Bus → ℕ
left_on book bus = bus.cap - reserved_on book bus

-- what a limit asks for beyond what the inverter has reserved
abbrev pub asked_more : BookRecord → (inverter raw : ℕ) → ℕ
asked_more book inverter raw = max (reserved book inverter) (mw_at book.site inverter raw)
    - reserved book inverter

-- the bus holds the inverter, and less is left on it than the limit asks for
abbrev pub LacksRoom : BookRecord → (inverter raw : ℕ) → bus.Bus → Type 0
LacksRoom book inverter raw bus = (holds bus inverter ≡ true)
    × (left_on book bus < asked_more book inverter raw)

-- no bus that holds the inverter lacks the room
abbrev pub HasRoomOnAll : BookRecord → List bus.Bus → (inverter raw : ℕ) → Type 0
HasRoomOnAll book buses inverter raw = AllByRecursion (λ bus. LacksRoom book inverter raw bus → ⊥) buses

-- the first bus that lacks the room, by its place, and what is left on it
pub record IsFirstFull (book : BookRecord) (buses : List bus.Bus) (inverter raw place left : ℕ) : Type 0 where
  pub before : List bus.Bus
  pub full : bus.Bus
  pub later : List bus.Bus
  pub are : buses ≡ before ++ full ∷ later
  pub place_is : place ≡ length before
  pub room : HasRoomOnAll book before inverter raw
  pub lacks : LacksRoom book inverter raw full
  pub left_is : left ≡ left_on book full

-- what the members of each bus have reserved is at most its cap
abbrev pub ReservesUnderCaps : List bus.Bus → BookRecord → Type 0
ReservesUnderCaps buses book = AllByRecursion (λ bus. reserved_on book bus ≤ bus.cap) buses

-- Whatever the members of a bus did that follow the timed device: at each choice of cuts at a moment from the
-- last one of the history on, their limits sum to at most the cap of the bus.
abbrev pub HoldsUnder : History → bus.Bus → Type 0
HoldsUnder history bus = (events first rest : ℕ → List Timed) (at : ℕ)
    → ((inverter : ℕ) → inverter < inverters history.life.site → holds bus inverter ≡ true
    → IsBehaviour history inverter (events inverter))
    → now_of history.life ≤ at
    → ((inverter : ℕ) → inverter < inverters history.life.site → holds bus inverter ≡ true
    → IsCut (events inverter) at (first inverter) (rest inverter))
    → sum_of_members history.life.site bus
    (λ inverter. held_mw history.life.site inverter (first inverter)) ≤ bus.cap

-- This is so of each bus, in every history that ends with this book: behind the silence of its life, or where
-- there was no life and no write before it.
abbrev pub HoldsUnderCaps : List bus.Bus → BookRecord → Type 0
HoldsUnderCaps buses book = (history : History) → IsHistory history → history.life ≡ book
    → (silent_until book < now_of book) ⊎ IsOneLife history → AllByRecursion (HoldsUnder history) buses
