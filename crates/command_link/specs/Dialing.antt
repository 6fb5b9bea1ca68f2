-- What a command does with the first of the dialers.
use Rattle.std.specs.Prelude.{◌≡◌, ℕ, List, [], ◌∷◌, ◌++◌, Option, None}
use Rattle.std.specs.Option.{option_map}
use Rattle.world_traits.specs.Causes.{Rose}
use Rattle.world_traits.specs.Links.{Answer, Failed, Link, Links, Receipt, received_bytes}
use Rattle.mbap_frames.specs.declared.frame.Frame.{Frame}
use Rattle.mbap_frames.specs.declared.frame.FrameFault.{FrameFault}
use Rattle.mbap_frames.specs.Stream.{HasFaultBehind}
use Rattle.commission_run.specs.Course.{with_past_link}

-- what a dialer tells before and after a call: its links, where it does, and its count of faults
pub record Dialing : Type 0 where
  pub old : Option Links
  pub new : Option Links
  pub faults_old : ℕ
  pub faults_new : ℕ

-- the change of a dialer, by what it tells of its links and faults
abbrev pub dialing : {N : Type 0} → (N → Option Links) → (N → ℕ) → N → N → Dialing
dialing links faults old new = record {
  old = links old;
  new = links new;
  faults_old = faults old;
  faults_new = faults new;
}

-- that of the first of some dialers
abbrev pub first_dialing : {N : Type 0} → (N → Option Links) → (N → ℕ) → List N → List N → Dialing
first_dialing links faults (old ∷ others) (new ∷ later) = dialing links faults old new
first_dialing links faults _ _ = record { old = None; new = None; faults_old = 0; faults_new = 0 }

-- nothing was dialed, sent or received
abbrev pub DialsNothing : Dialing → Type 0
DialsNothing dialing = (dialing.new ≡ dialing.old) × (dialing.faults_new ≡ dialing.faults_old)

-- a dial, a send or a receive failed in the call
abbrev pub FaultsAt : Dialing → Type 0
FaultsAt dialing = Rose dialing.faults_old dialing.faults_new

-- one link was made, which is over, and this is true of it
abbrev pub MakesLink : (Link → Type 0) → Dialing → Type 0
MakesLink IsLink dialing =
    (link : Link) × (dialing.new ≡ option_map (with_past_link link) dialing.old) × IsLink link

-- the last receive of a link answered so
abbrev pub HeardLast : Answer → Link → Type 0
HeardLast answer link = (before : List Receipt) × (last : Receipt)
    × (link.receipts ≡ before ++ last ∷ []) × (last.answer ≡ answer)

-- a dial failed, and no link was made
abbrev pub FailsToDial : Dialing → Type 0
FailsToDial dialing = FaultsAt dialing × (dialing.new ≡ dialing.old)

-- a receive failed, the last of the link
abbrev pub FailsToReceive : Dialing → Type 0
FailsToReceive dialing = FaultsAt dialing × MakesLink (HeardLast Failed) dialing

-- the bytes that came over a link have this fault behind the frames at their front
abbrev pub HasBadFrame : FrameFault → Link → Type 0
HasBadFrame fault link = (frames : List Frame) × HasFaultBehind (received_bytes link) frames fault
