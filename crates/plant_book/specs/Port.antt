-- What contracts see of the place where an inverter is reached.
use Rattle.std.specs.Prelude.{ℕ, List}

-- the bytes of the host's name, the TCP port, the unit number, and the address of the 704 identifier
pub record PortRecord : Type 0 where
  pub host : List ℕ
  pub port : ℕ
  pub unit : ℕ
  pub base : ℕ
