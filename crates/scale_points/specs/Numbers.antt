-- The value of a numeric point in a list of registers, by its kind: a number, or none where the
-- registers end before the point does or hold what its kind keeps for "not implemented".
-- (SunSpec Device Information Model: registers of 16 bits, the high one of two first.)
use Rattle.std.specs.Prelude.{ℕ, ◌+◌, ◌*◌, ◌==◌, nat_lt, nat_le, Bool, List, Option, Some, None, slice_get, ℤ, pos, negsuc, if◌then◌else◌}
use Rattle.std.specs.Option.{option_map, option_and_then}
use Rattle.std.specs.Int.{w16, cast_signed}

-- what each kind holds where it is not implemented: uint16 and enum16; int16 and sunssf; uint32
abbrev pub unsigned_absence : ℕ
unsigned_absence = 0xFFFF

abbrev pub signed_absence : ℕ
signed_absence = 0x8000

abbrev pub double_absence : ℕ
double_absence = 0xFFFFFFFF

-- the greatest power of ten that a scale factor may have, up and down
abbrev pub power_max : ℕ
power_max = 10

-- the number in one register
abbrev pub word_at : List ℕ → ℕ → Option ℕ
word_at regs at = slice_get regs at

-- the number of two registers, of which the first is the high one
abbrev pub double_word : (high low : ℕ) → ℕ
double_word high low = 65536 * high + low

-- that number, where both registers are there
abbrev pub pair_number : Option ℕ → Option ℕ → Option ℕ
pair_number (Some high) (Some low) = Some (double_word high low)
pair_number (Some high) None = None
pair_number None low = None

abbrev pub double_word_at : List ℕ → ℕ → Option ℕ
double_word_at regs at = pair_number (word_at regs at) (word_at regs (at + 1))

-- the number that was read, unless it is the one that means "not implemented"
abbrev pub number_unless : ℕ → Option ℕ → Option ℕ
number_unless absent None = None
number_unless absent (Some number) = if number == absent then None else Some number

-- uint16 and enum16
abbrev pub uint16_at : List ℕ → ℕ → Option ℕ
uint16_at regs at = number_unless unsigned_absence (word_at regs at)

abbrev pub enum16_at : List ℕ → ℕ → Option ℕ
enum16_at regs at = number_unless unsigned_absence (word_at regs at)

-- int16, in two's complement
abbrev pub int16_at : List ℕ → ℕ → Option ℤ
int16_at regs at = option_map (cast_signed w16) (number_unless signed_absence (word_at regs at))

-- uint32
abbrev pub uint32_at : List ℕ → ℕ → Option ℕ
uint32_at regs at = number_unless double_absence (double_word_at regs at)

-- is this a power of ten that a scale factor may have: from -10 to 10
abbrev pub is_power : ℤ → Bool
is_power (pos n) = nat_le n power_max
is_power (negsuc n) = nat_lt n power_max

-- sunssf, a scale factor: an int16 that is such a power
abbrev pub sunssf_at : List ℕ → ℕ → Option ℤ
sunssf_at regs at = option_and_then (λ power. if is_power power then Some power else None) (int16_at regs at)
