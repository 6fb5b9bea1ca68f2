-- A piece that reaches an inverter that listens.
use Rattle.std.proofs.Common.{◌≡◌, ℕ, Bool, List, ◌++◌, sym, subst}
use Rattle.world_traits.specs.Links.{with_bytes}
use Rattle.device_dialers.specs.declared.hearing.Standing.TheVariants.{Listens}
use Rattle.device_dialers.specs.Device.{DeviceDialerState, Hears, IsDelivered, TakesPiece}

delivered_so : {K : Type 0} (may_give : ℕ → Bool) (piece : List ℕ) (old new : DeviceDialerState K) (left : List ℕ)
    → new.links ≡ with_bytes piece old.links → new.clock ≡ old.clock → new.schedule ≡ old.schedule → new.starved ≡ old.starved
    → old.standing ≡ Listens → left ≡ old.left → Hears may_give old.bank new.bank old.latest new.latest (old.kept ++ piece) new.kept left new.left new.standing
    → IsDelivered may_give piece old new
delivered_so may_give piece old new left links clock schedule starved listens same heard = record {
  links = links;
  clock = clock;
  schedule = schedule;
  starved = starved;
  taken = subst (TakesPiece may_give piece old new) (sym listens)
      (subst (λ (l : List ℕ). Hears may_give old.bank new.bank old.latest new.latest (old.kept ++ piece) new.kept l new.left new.standing) same heard);
}

pub delivered : {K : Type 0} (may_give : K → ℕ → Bool) (piece : List ℕ) (given old new : DeviceDialerState K) (left : List ℕ) → old ≡ given
    → new.links ≡ with_bytes piece old.links → new.clock ≡ old.clock → new.schedule ≡ old.schedule → new.starved ≡ old.starved
    → old.standing ≡ Listens → left ≡ old.left → Hears (may_give old.clock) old.bank new.bank old.latest new.latest (old.kept ++ piece) new.kept left new.left new.standing
    → IsDelivered (may_give given.clock) piece given new
delivered {K = K} may_give piece given old new left is links clock schedule starved listens same heard =
    subst (λ (s : DeviceDialerState K). IsDelivered (may_give s.clock) piece s new) is
    (delivered_so (may_give old.clock) piece old new left links clock schedule starved listens same heard)
