-- A limit that is held until it reverts to the floor.
use Rattle.std.specs.Prelude.{ℕ, Bool, false, nat_le, if◌then◌else◌, Option, Some, None}

-- the raw percentage that is held, and the moment at which it reverts to the floor, where a revert is due
pub record LimitRecord : Type 0 where
  pub raw : ℕ
  pub revert : Option ℕ

-- whether a revert is due by a moment
abbrev pub is_due : ℕ → Option ℕ → Bool
is_due now None = false
is_due now (Some moment) = nat_le moment now

-- the limit at a moment: a revert that is due by then has come
abbrev pub limit_at : (floor now : ℕ) → LimitRecord → LimitRecord
limit_at floor now limit = record {
  raw = if is_due now limit.revert then floor else limit.raw;
  revert = if is_due now limit.revert then None else limit.revert;
}
