-- How the bytes of one frame are gathered. No promise to a caller names this.
use Rattle.std.specs.Prelude.{◌≡◌, ℕ, ◌+◌, ◌<◌, ◌≤◌, ◌⊎◌, List, length}
use Rattle.mbap_frames.specs.Stream.{protocol_of, length_of, least_length, greatest_length, IsLength}

-- the header was looked at before more was taken, and nothing was taken past the frame
pub record IsGathered (bytes : List ℕ) : Type 0 where
  pub protocol : 4 < length bytes → protocol_of bytes ≡ 0
  pub low : 6 < length bytes → least_length ≤ length_of bytes
  pub high : 6 < length bytes → length_of bytes ≤ greatest_length
  pub end : 6 < length bytes → length bytes ≤ 6 + length_of bytes

-- what is kept between two calls, which is no whole frame
pub record IsKept (bytes : List ℕ) : Type 0 where
  pub protocol : 4 < length bytes → protocol_of bytes ≡ 0
  pub low : 6 < length bytes → least_length ≤ length_of bytes
  pub high : 6 < length bytes → length_of bytes ≤ greatest_length
  pub end : 6 < length bytes → length bytes < 6 + length_of bytes

-- where the header wants to be looked at next: behind the protocol number, behind the length, at the end of
-- the frame
abbrev pub Wants : List ℕ → ℕ → Type 0
Wants bytes end =
    ((length bytes < 4) × (end ≡ 4))
    ⊎ ((4 ≤ length bytes) × (length bytes < 6) × (protocol_of bytes ≡ 0) × (end ≡ 6))
    ⊎ ((6 ≤ length bytes) × (protocol_of bytes ≡ 0) × IsLength (length_of bytes)
    × (end ≡ 6 + length_of bytes))

-- the bytes of one frame, and no more
pub record IsWhole (bytes : List ℕ) : Type 0 where
  pub protocol : protocol_of bytes ≡ 0
  pub low : least_length ≤ length_of bytes
  pub high : length_of bytes ≤ greatest_length
  pub end : length bytes ≡ 6 + length_of bytes
