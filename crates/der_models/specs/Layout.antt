-- How the models 701 to 704 are laid out, as far as they are used (SunSpec DER AC Measurement, DER
-- Capacity, DER Enter Service and DER AC Controls). Offsets count from the register of a model's
-- identifier, which has offset 0.
use Rattle.std.specs.Prelude.{ℕ, ◌+◌, ◌==◌, if◌then◌else◌}

-- the identifiers
abbrev pub ac_measurement_id : ℕ
ac_measurement_id = 701

abbrev pub capacity_id : ℕ
capacity_id = 702

abbrev pub enter_service_id : ℕ
enter_service_id = 703

abbrev pub ac_controls_id : ℕ
ac_controls_id = 704

-- the registers of a model's header: its identifier, and its length, which counts those behind it
abbrev pub header : ℕ
header = 2

-- how long a model that is used has to be at least; any other may have any length
abbrev pub least_length : ℕ → ℕ
least_length id = if id == ac_measurement_id then 115
    else if id == capacity_id then 44
    else if id == enter_service_id then 17
    else if id == ac_controls_id then 53
    else 0

-- the registers of such a model with its header: 117 of 701, 46 of 702, 19 of 703, 55 of 704
abbrev pub least_block : ℕ → ℕ
least_block id = header + least_length id

-- 701: InvSt, W and W_SF
abbrev pub m701_inv_st : ℕ
m701_inv_st = 4

abbrev pub m701_w : ℕ
m701_w = 10

abbrev pub m701_w_sf : ℕ
m701_w_sf = 116

-- 702: WMax and W_SF
abbrev pub m702_w_max : ℕ
m702_w_max = 26

abbrev pub m702_w_sf : ℕ
m702_w_sf = 45

-- 703: ES
abbrev pub m703_es : ℕ
m703_es = 2

-- 704: WMaxLimPctEna, the first register of the limit, and WMaxLimPct_SF
abbrev pub m704_w_max_lim_pct_ena : ℕ
m704_w_max_lim_pct_ena = 14

abbrev pub m704_w_max_lim_pct_sf : ℕ
m704_w_max_lim_pct_sf = 54
