-- The points of the models 701 to 703 and the scale of 704 in a block that starts at the register of the
-- model's identifier.
use Rattle.std.specs.Prelude.{ℕ, ℤ, List, slice_index}
use Rattle.std.specs.Int.{w16, cast_signed}
use Rattle.scale_points.specs.Numbers.{enum16_at, int16_at, sunssf_at}
use Rattle.der_models.specs.Layout.{m701_inv_st, m701_w, m701_w_sf, m702_w_max, m702_w_sf, m704_w_max_lim_pct_sf}
use Rattle.der_models.specs.declared.measured.Measure.{Measure}

-- 701: InvSt, W and W_SF
abbrev pub measure_of : List ℕ → Measure
measure_of regs = record {
  state = enum16_at regs m701_inv_st;
  watts = int16_at regs m701_w;
  scale = sunssf_at regs m701_w_sf;
}

-- 702: WMax, as it stands in its register
abbrev pub raw_wmax : List ℕ → ℕ
raw_wmax regs = slice_index regs m702_w_max

-- 702: W_SF, as it stands in its register
abbrev pub raw_wsf : List ℕ → ℤ
raw_wsf regs = cast_signed w16 (slice_index regs m702_w_sf)

-- 704: WMaxLimPct_SF, as it stands in its register
abbrev pub raw_psf : List ℕ → ℤ
raw_psf regs = cast_signed w16 (slice_index regs m704_w_max_lim_pct_sf)
