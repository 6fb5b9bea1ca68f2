-- The limit of model 704 (SunSpec DER AC Controls): its registers from WMaxLimPctEna on.
use Rattle.std.specs.Prelude.{◌≡◌, ℕ, ◌/◌, ◌%◌, List, [], ◌∷◌, slice_index}
use Rattle.scale_points.specs.Numbers.{double_word}
use Rattle.der_models.specs.declared.limit.LimitView.{LimitView}

-- how many of them a write has, and how many a read-back
abbrev pub limit_block_length : ℕ
limit_block_length = 6

abbrev pub limit_view_length : ℕ
limit_view_length = 8

-- the registers that set a limit: WMaxLimPctEna 1, WMaxLimPct, WMaxLimPctRvrt, WMaxLimPctEnaRvrt 1, and
-- WMaxLimPctRvrtTms in seconds, the high register first
abbrev pub limit_registers : (raw floor timer : ℕ) → List ℕ
limit_registers raw floor timer = 1 ∷ raw ∷ floor ∷ 1 ∷ (timer / 65536) ∷ (timer % 65536) ∷ []

-- what the registers of a read-back show: the same points, and WMaxLimPctRvrtRem behind them
abbrev pub view_of : List ℕ → LimitView
view_of regs = record {
  ena = slice_index regs 0;
  pct = slice_index regs 1;
  pct_rvrt = slice_index regs 2;
  ena_rvrt = slice_index regs 3;
  tms = double_word (slice_index regs 4) (slice_index regs 5);
  rem = double_word (slice_index regs 6) (slice_index regs 7);
}

-- the view shows that this limit is set, with this limit to revert to and this timer
pub record ShowsLimit (raw floor timer : ℕ) (view : LimitView) : Type 0 where
  pub ena : view.ena ≡ 1
  pub pct : view.pct ≡ raw
  pub pct_rvrt : view.pct_rvrt ≡ floor
  pub ena_rvrt : view.ena_rvrt ≡ 1
  pub tms : view.tms ≡ timer
