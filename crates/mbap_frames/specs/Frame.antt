-- One frame and its bytes (Modbus Messaging on TCP/IP Implementation Guide V1.0b, section 3.1.3).
use Rattle.std.specs.Prelude.{◌≡◌, ℕ, ◌+◌, ◌≤◌, List, ◌∷◌, ◌++◌, length}
use Rattle.std.specs.List.{AllByRecursion}
use Rattle.modbus_pdu.specs.Grammar.{IsByte, IsWord, word, pdu_limit}
use Rattle.mbap_frames.specs.declared.frame.Frame.{Frame}

-- the most bytes of a frame (Modbus Application Protocol V1.1b3, section 4.1)
abbrev pub frame_limit : ℕ
frame_limit = 260

-- what a frame holds: its numbers fit their fields, and its PDU has a function byte and no byte too many
pub record IsFrame (frame : Frame) : Type 0 where
  pub transaction : IsWord frame.transaction
  pub unit : IsByte frame.unit
  pub begins : 1 ≤ length frame.pdu
  pub ends : length frame.pdu ≤ pdu_limit
  pub bytes : AllByRecursion IsByte frame.pdu

-- the bytes of a frame: transaction number, protocol number 0, how many bytes follow, unit number, PDU
abbrev pub frame_spelling : Frame → List ℕ
frame_spelling frame =
    word frame.transaction ++ word 0 ++ word (length frame.pdu + 1) ++ frame.unit ∷ frame.pdu

-- bytes that begin with this frame
abbrev pub Begins : List ℕ → Frame → Type 0
Begins bytes frame = IsFrame frame × (rest : List ℕ) × (bytes ≡ frame_spelling frame ++ rest)
