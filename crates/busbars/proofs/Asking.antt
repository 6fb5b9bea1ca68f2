-- What comes of an Ask behind its Tick, from what is found of the first book of a plant's life.
use Rattle.std.proofs.Common.{◌≡◌, ℕ, List, None, refl, sym, subst, ◌∙◌, inr}
use Rattle.std.specs.Prelude.{Result, Ok, Err, IsErrAnd}
use Rattle.plant_book.specs.declared.call.Call.{Call}
use Rattle.plant_book.specs.declared.call.Call.TheVariants as calls
use Rattle.plant_book.specs.Part.{PartRecord, first_book}
use Rattle.plant_ledger.specs.declared.plant.BookFull.{BookFull}
use Rattle.plant_ledger.specs.declared.plant.Outcome.{Outcome}
use Rattle.busbars.specs.declared.bus.Bus as bus
use Rattle.busbars.specs.declared.plant.BusReply.{BusReply}
use Rattle.busbars.specs.declared.plant.BusReply.TheVariants as told
use Rattle.busbars.specs.Caps.{HasRoomOnAll, IsFirstFull}
use Rattle.busbars.specs.Applied.{IsThePlants, IsAsked, IsApplied}
use Rattle.busbars.proofs.Under.{plants_same, each_book}

pub is_error : (result : Result BusReply BookFull) (full : BookFull) → IsErrAnd result (λ e. e ≡ full) → result ≡ Err full
is_error (Ok reply) full is = absurd is
is_error (Err other) full is = cc

module _ (buses : List bus.Bus) (call : Call) (at inverter raw : ℕ) (is : call ≡ calls.Ask at inverter raw) (old ticked : PartRecord) (tick : Outcome) (first : old.carry ≡ None)
    (plants : IsThePlants (calls.Tick at) (Ok tick) old ticked) where
  behind_tick : (result : Result BusReply BookFull) (new : PartRecord) → IsAsked buses at inverter raw result ticked new → IsApplied buses call result old new
  behind_tick result new asked = subst (λ (c : Call). IsApplied buses c result old new) (sym is) (inr (ticked, tick, plants, asked))

  ticked_first : ticked.carry ≡ None
  ticked_first = (plants_same (calls.Tick at) (Ok tick) old ticked plants).carry ∙ first

  pub when_full : (place left : ℕ) → IsFirstFull (first_book ticked) buses inverter raw place left → IsApplied buses call (Ok (told.BusFull place left)) old ticked
  when_full place left full = behind_tick (Ok (told.BusFull place left)) ticked (refl, each_book (λ whole. IsFirstFull whole buses inverter raw place left) ticked ticked_first full)

  module _ (room : HasRoomOnAll (first_book ticked) buses inverter raw) (new : PartRecord) where
    pub when_room : (outcome : Outcome) → IsThePlants (calls.Ask at inverter raw) (Ok outcome) ticked new → IsApplied buses call (Ok (told.Plain outcome)) old new
    when_room outcome plain = behind_tick (Ok (told.Plain outcome)) new (each_book (λ whole. HasRoomOnAll whole buses inverter raw) ticked ticked_first room, plain)

    pub when_no_place : (full : BookFull) → IsThePlants (calls.Ask at inverter raw) (Err full) ticked new → IsApplied buses call (Err full) old new
    when_no_place full plain = behind_tick (Err full) new (each_book (λ whole. HasRoomOnAll whole buses inverter raw) ticked ticked_first room, plain)
