-- The register map of a simulated inverter, after the SunSpec models 701 to 704: from addresses to registers.
use Rattle.std.specs.Prelude.{ℕ, ◌+◌, ◌-◌, ◌/◌, ◌%◌, ◌==◌, List, [], ◌∷◌, ◌++◌, map, find, Option, Some, None}
use Rattle.std.specs.Option.{option_map_or}
use Rattle.std.specs.Int.{w16, cast_unsigned, div_ceil}
use Rattle.inverter_sim.specs.Bank.{BankRecord}

-- seconds until the revert, rounded up, or 0 where none is due
abbrev pub seconds_left : ℕ → Option ℕ → ℕ
seconds_left now None = 0
seconds_left now (Some moment) = div_ceil (moment - now) 1000

-- the two registers of a number, of which the first is the high one
abbrev pub high : ℕ → ℕ
high number = number / 65536

abbrev pub low : ℕ → ℕ
low number = number % 65536

-- the registers of a model, each with its address: the identifier at the start, the length behind it, and
-- points by their offsets from the start
abbrev pub model : (start id length : ℕ) → List (ℕ × ℕ) → List (ℕ × ℕ)
model start id length points =
    (start, id) ∷ (start + 1, length) ∷ map (λ point. (start + point.0, point.1)) points

-- 701: InvSt 0, W 0, W_SF
abbrev pub points_701 : BankRecord → List (ℕ × ℕ)
points_701 bank = (4, 0) ∷ (10, 0) ∷ (116, cast_unsigned w16 bank.unit.rating.wsf) ∷ []

-- 702: WMax, W_SF
abbrev pub points_702 : BankRecord → List (ℕ × ℕ)
points_702 bank = (26, bank.unit.rating.wmax) ∷ (45, cast_unsigned w16 bank.unit.rating.wsf) ∷ []

-- 703: ES 1
abbrev pub points_703 : BankRecord → List (ℕ × ℕ)
points_703 bank = (2, 1) ∷ []

-- 704: WMaxLimPctEna 1, WMaxLimPct, WMaxLimPctRvrt, WMaxLimPctEnaRvrt 1, WMaxLimPctRvrtTms,
-- WMaxLimPctRvrtRem, WMaxLimPct_SF
abbrev pub points_704 : BankRecord → List (ℕ × ℕ)
points_704 bank =
    (14, 1)
    ∷ (15, bank.raw)
    ∷ (16, bank.unit.floor)
    ∷ (17, 1)
    ∷ (18, high bank.rules.timer)
    ∷ (19, low bank.rules.timer)
    ∷ (20, high (seconds_left bank.last bank.revert))
    ∷ (21, low (seconds_left bank.last bank.revert))
    ∷ (54, cast_unsigned w16 bank.unit.rating.psf)
    ∷ []

-- the named registers, each with its address: the mark, the models one behind the other, and the end
unfoldable pub contents : BankRecord → List (ℕ × ℕ)
contents bank =
    (40000, 0x5375) ∷ (40001, 0x6E53) ∷ []
    ++ model 40002 1 66 []
    ++ model 40070 701 153 (points_701 bank)
    ++ model 40225 702 50 (points_702 bank)
    ++ model 40277 703 17 (points_703 bank)
    ++ model 40296 704 65 (points_704 bank)
    ++ (40363, 0xFFFF) ∷ (40364, 0) ∷ []

-- the register at an address, by those that have a name; any other is 0
abbrev pub register_by : List (ℕ × ℕ) → ℕ → ℕ
register_by names address = option_map_or (λ named. named.1) (find (λ named. named.0 == address) names) 0

-- the register at an address of the map
abbrev pub register : BankRecord → ℕ → ℕ
register bank address = register_by (contents bank) address
