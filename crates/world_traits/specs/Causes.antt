-- When a call may say that the outside failed: exactly as the count of faults moves in that call.
use Rattle.std.specs.Prelude.{◌≡◌, ℕ, ◌+◌, ◌-◌, ◌^◌, ◌<◌, ◌≤◌, min, Result, OnErr, OnOk}

-- a count of 64 bits after one more, or the same at its end
abbrev pub one_more : ℕ → ℕ
one_more count = min (count + 1) (2 ^ 64 - 1)

-- The count is higher than before. Where it stands at the last value of 64 bits it is taken as risen.
abbrev pub Rose : ℕ → ℕ → Type 0
Rose before now = one_more before ≤ now

-- the count has not fallen, it rose where the call failed, and it stands where the call worked
pub record HasCause {T E : Type 0} (before now : ℕ) (result : Result T E) : Type 0 where
  pub later : before ≤ now
  pub failed : OnErr result (Rose before now)
  pub kept : OnOk result (now ≡ before)

-- The count of writes that worked after one had failed, by what one more write answers: it is higher where that worked
-- and one had failed before, and else it stands.
pub record CountsLate {T E : Type 0} (faults before now : ℕ) (result : Result T E) : Type 0 where
  pub in_time : OnOk result (faults ≡ 0 → now ≡ before)
  pub late : OnOk result (0 < faults → Rose before now)
  pub failed : OnErr result (now ≡ before)
