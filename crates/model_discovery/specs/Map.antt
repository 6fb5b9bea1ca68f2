-- A register map, as reads of two registers show it.
use Rattle.std.specs.Prelude.{ℕ}

-- how many registers there are, at the addresses below this number
abbrev pub map_registers : ℕ
map_registers = 65536

-- how many registers each read asks for
abbrev pub read_size : ℕ
read_size = 2

-- what a device answers to such a read: these registers, or an exception with its code
pub data Answer : Type 0 where
  Registers : (first second : ℕ) → Answer
  Exception : (code : ℕ) → Answer

-- the answer to a read of the registers at an address and behind it
abbrev pub Map : Type 0
Map = ℕ → Answer
