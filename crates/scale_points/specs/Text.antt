-- The text of a string point: the bytes of its registers, the high one of each first, up to the first
-- zero byte.
use Rattle.std.specs.Prelude.{ℕ, ◌+◌, ◌≤◌, ◌==◌, List, length, slice_range}
use Rattle.std.specs.List.{flat_map, before_first}
use Rattle.std.specs.Int.{w16, to_be_bytes}
use Rattle.std.specs.Str.{IsAscii}

-- how many registers a text may have
abbrev pub text_registers : ℕ
text_registers = 32

-- the bytes of the registers
abbrev pub bytes_of : List ℕ → List ℕ
bytes_of regs = flat_map (to_be_bytes w16) regs

-- the bytes before the first zero byte, or all where there is none
abbrev pub up_to_zero : List ℕ → List ℕ
up_to_zero bytes = before_first (λ byte. byte == 0) bytes

-- the text of so many registers from a place on
abbrev pub text_at : List ℕ → ℕ → ℕ → List ℕ
text_at regs at count = up_to_zero (bytes_of (slice_range regs at (at + count)))

-- which registers have a text: those within the slice, not too many, and with no byte above 127 in it
pub record HasText (regs : List ℕ) (at count : ℕ) : Type 0 where
  pub within : at + count ≤ length regs
  pub short : count ≤ text_registers
  pub ascii : IsAscii (text_at regs at count)
