-- What a call does to a plant with buses.
use Rattle.std.specs.Prelude.{◌≡◌, ◌⊎◌, ℕ, ◌<◌, ◌≤◌, ◌^◌, List, [], length, None, Result, Ok, Err}
use Rattle.std.specs.List.{AllByRecursion}
use Rattle.plant_book.specs.declared.call.Call.{Call}
use Rattle.plant_book.specs.declared.call.Call.TheVariants as calls
use Rattle.plant_book.specs.Part.{PartRecord}
use Rattle.plant_book.specs.Carry.{EachBefore, EachBook}
use Rattle.plant_ledger.specs.declared.plant.BookFull.{BookFull}
use Rattle.plant_ledger.specs.declared.plant.Outcome.{Outcome}
use Rattle.plant_ledger.specs.Opening.{ticket_for}
use Rattle.plant_ledger.specs.Plant.{entered, GoesOn, IsKept}
use Rattle.busbars.specs.declared.bus.Bus as bus
use Rattle.busbars.specs.declared.plant.BusReply.{BusReply}
use Rattle.busbars.specs.declared.plant.BusReply.TheVariants as replies
use Rattle.busbars.specs.Buses.{EachFits}
use Rattle.busbars.specs.Caps.{HasRoomOnAll, IsFirstFull, ReservesUnderCaps}

-- what contracts see of a plant with buses: the plant's book, and the buses in their order
pub record BusPlantRecord : Type 0 where
  pub book : PartRecord
  pub buses : List bus.Bus

-- what is true of every plant with buses
pub record IsBusPlant (plant : BusPlantRecord) : Type 0 where
  pub kept : IsKept plant.book
  pub first : plant.book.carry ≡ None
  pub few : length plant.buses ≤ 32
  pub low : AllByRecursion (λ bus. bus.cap ≤ 10 ^ 14) plant.buses
  pub fit : EachFits plant.book.site [] plant.buses
  pub under : EachBook plant.book (ReservesUnderCaps plant.buses)

-- a call is the plant's: entered as the plant enters it, or refused because the book is full
abbrev pub IsThePlants : Call → Result Outcome BookFull → PartRecord → PartRecord → Type 0
IsThePlants call (Ok outcome) old new =
    (length old.entries < old.site.room) × (new ≡ entered old call outcome.reply)
    × (outcome.ticket ≡ ticket_for outcome.reply)
    × EachBefore old (λ before. GoesOn before old call outcome.reply new)
IsThePlants call (Err full) old new =
    (full.calls ≡ length old.entries) × (full.calls ≡ old.site.room) × (new ≡ old)

-- what comes of an Ask behind its Tick: the first bus that lacks the room, and the Ask isn't entered; or, where
-- none lacks it, the Ask is the plant's
abbrev pub IsAsked : List bus.Bus → (at inverter raw : ℕ) → Result BusReply BookFull
    → PartRecord → PartRecord → Type 0
IsAsked buses at inverter raw (Ok (replies.BusFull place left)) old new =
    (new ≡ old) × EachBook old (λ whole. IsFirstFull whole buses inverter raw place left)
IsAsked buses at inverter raw (Ok (replies.Plain outcome)) old new =
    EachBook old (λ whole. HasRoomOnAll whole buses inverter raw)
    × IsThePlants (calls.Ask at inverter raw) (Ok outcome) old new
IsAsked buses at inverter raw (Err full) old new =
    EachBook old (λ whole. HasRoomOnAll whole buses inverter raw)
    × IsThePlants (calls.Ask at inverter raw) (Err full) old new

-- An Ask enters a Tick of its moment first. Where the book is full already, that is all.
abbrev pub IsAskedBehindTick : List bus.Bus → (at inverter raw : ℕ) → Result BusReply BookFull
    → PartRecord → PartRecord → Type 0
IsAskedBehindTick buses at inverter raw result old new =
    ((full : BookFull) × (result ≡ Err full) × IsThePlants (calls.Tick at) (Err full) old new)
    ⊎ ((ticked : PartRecord) × (outcome : Outcome) × IsThePlants (calls.Tick at) (Ok outcome) old ticked
    × IsAsked buses at inverter raw result ticked new)

-- what comes of a call that isn't an Ask: the plant's answer, and no bus is full
abbrev pub IsPlain : Call → Result BusReply BookFull → PartRecord → PartRecord → Type 0
IsPlain call (Ok (replies.Plain outcome)) old new = IsThePlants call (Ok outcome) old new
IsPlain call (Ok (replies.BusFull place left)) old new = ⊥
IsPlain call (Err full) old new = IsThePlants call (Err full) old new

-- what comes of a call
abbrev pub IsApplied : List bus.Bus → Call → Result BusReply BookFull → PartRecord → PartRecord → Type 0
IsApplied buses (calls.Ask at inverter raw) result old new =
    IsAskedBehindTick buses at inverter raw result old new
IsApplied buses call result old new = IsPlain call result old new
