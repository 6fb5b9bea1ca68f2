-- What contracts see of a dialer that cuts one frame of the dialer below it.
use Rattle.std.specs.Prelude.{◌≡◌, ℕ, ◌==◌, ◌≤◌, Bool, if◌then◌else◌, List, [], slice_index, take, Option, Some, None, Result, IsErr}
use Rattle.std.specs.Io.{WritesAtMost}
use Rattle.world_traits.specs.Causes.{HasCause, one_more}
use Rattle.device_dialers.specs.declared.cut_dialer.Handing.{Handing}
use Rattle.device_dialers.specs.declared.cut_dialer.Handing.TheVariants.{Whole, CutAt, Blocked}

-- the dialer below, what is handed on to it, and the count of sends that failed behind the cut
pub record CutState (N : Type 0) : Type 0 where
  pub inner : N
  pub handing : Handing
  pub blocked : ℕ

-- what is handed on at first
abbrev pub handing_of : Option ℕ → Handing
handing_of None = Whole
handing_of (Some cut) = CutAt cut

-- a piece that has the function of a write behind a frame's header of seven bytes (Modbus Application Protocol
-- V1.1b3, section 6.12)
abbrev pub is_write : List ℕ → Bool
is_write piece = slice_index piece 7 == 16

-- the bytes of a piece that are handed on
abbrev pub handed : Handing → List ℕ → List ℕ
handed Whole piece = piece
handed (CutAt cut) piece = if is_write piece then take cut piece else piece
handed Blocked piece = []

-- what is handed on behind a piece: once a write was cut, nothing on that link
abbrev pub handing_after : Handing → List ℕ → Handing
handing_after Whole piece = Whole
handing_after (CutAt cut) piece = if is_write piece then Blocked else CutAt cut
handing_after Blocked piece = Blocked

-- behind a dial that made a link: it isn't cut
abbrev pub handing_on_new_link : Handing → Handing
handing_on_new_link Whole = Whole
handing_on_new_link (CutAt cut) = CutAt cut
handing_on_new_link Blocked = Whole

-- a cut leaves one byte at least, and a link that isn't cut is open
abbrev pub CutsSome : Handing → Type 0
CutsSome (CutAt cut) = 1 ≤ cut
CutsSome _ = Unit {0}

abbrev pub IsOpen : Handing → Type 0
IsOpen Blocked = ⊥
IsOpen _ = Unit {0}

-- What a send comes to: behind the cut it fails, and the dialer below has no call; else the bytes that are handed
-- on are sent there.
abbrev pub Sends :
    {E : Type 0} → Handing → (piece : List ℕ) → Result ℕ E → (before now : ℕ) → (blocked after : ℕ) → Type 0
Sends Blocked piece result before now blocked after = IsErr result × (now ≡ before) × (after ≡ one_more blocked)
Sends handing piece result before now blocked after =
    WritesAtMost result (handed handing piece) × HasCause before now result × (after ≡ blocked)
