-- A stream of bytes: frames, and what stands behind the last of them.
use Rattle.std.specs.Prelude.{◌≡◌, ◌≢◌, ℕ, ◌+◌, ◌*◌, ◌<◌, ◌≤◌, ◌⊎◌, List, ◌++◌, length, slice_index}
use Rattle.std.specs.List.{flat_map, AllByRecursion}
use Rattle.mbap_frames.specs.declared.frame.Frame.{Frame}
use Rattle.mbap_frames.specs.declared.frame.FrameFault.{FrameFault}
use Rattle.mbap_frames.specs.declared.frame.FrameFault.TheVariants.{BadProtocol, BadLength}
use Rattle.mbap_frames.specs.Frame.{IsFrame, frame_spelling}

-- the numbers that a header has in its third and fourth byte, and in its fifth and sixth
abbrev pub protocol_of : List ℕ → ℕ
protocol_of bytes = 256 * slice_index bytes 2 + slice_index bytes 3

abbrev pub length_of : List ℕ → ℕ
length_of bytes = 256 * slice_index bytes 4 + slice_index bytes 5

-- the lengths that a header may name: the unit number with 1 to 253 bytes of PDU
abbrev pub least_length : ℕ
least_length = 2

abbrev pub greatest_length : ℕ
greatest_length = 254

abbrev pub IsLength : ℕ → Type 0
IsLength n = (least_length ≤ n) × (n ≤ greatest_length)

-- less than a whole frame, and no fault yet
abbrev pub IsUnfinished : List ℕ → Type 0
IsUnfinished bytes =
    (length bytes < 4)
    ⊎ ((4 ≤ length bytes) × (length bytes < 6) × (protocol_of bytes ≡ 0))
    ⊎ ((6 ≤ length bytes) × (protocol_of bytes ≡ 0) × IsLength (length_of bytes)
    × (length bytes < 6 + length_of bytes))

-- The fault that stands at the head of these bytes. The protocol number is looked at before the length.
abbrev pub HasFault : List ℕ → FrameFault → Type 0
HasFault bytes (BadProtocol n) =
    (4 ≤ length bytes) × (protocol_of bytes ≢ 0) × (n ≡ protocol_of bytes)
HasFault bytes (BadLength n) =
    (6 ≤ length bytes) × (protocol_of bytes ≡ 0)
    × ((length_of bytes < least_length) ⊎ (greatest_length < length_of bytes)) × (n ≡ length_of bytes)

-- how many bytes show a fault: up to and including the second byte of the number that is wrong
abbrev pub fault_end : FrameFault → ℕ
fault_end (BadProtocol n) = 4
fault_end (BadLength n) = 6

-- what may stand behind the last whole frame
abbrev pub IsRest : List ℕ → Type 0
IsRest bytes = IsUnfinished bytes ⊎ ((fault : FrameFault) × HasFault bytes fault)

-- the bytes of frames, one behind the other
abbrev pub frames_spelling : List Frame → List ℕ
frames_spelling frames = flat_map frame_spelling frames

-- A stream is these frames, and then this rest, which is no whole frame.
pub record IsStream (stream : List ℕ) (frames : List Frame) (rest : List ℕ) : Type 0 where
  pub whole : stream ≡ frames_spelling frames ++ rest
  pub each : AllByRecursion IsFrame frames
  pub end : IsRest rest

-- A stream is these frames, and behind them stands this fault.
abbrev pub HasFaultBehind : List ℕ → List Frame → FrameFault → Type 0
HasFaultBehind stream frames fault = (rest : List ℕ) × IsStream stream frames rest × HasFault rest fault
