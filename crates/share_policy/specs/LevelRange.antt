-- Ranges of levels.
use Rattle.std.specs.Prelude.{ℕ, ◌-◌, ◌≤◌}
use Rattle.share_policy.specs.declared.level_range.LevelRange.{LevelRange}

-- the level is one of the range
abbrev pub Has : LevelRange → ℕ → Type 0
Has range level = (range.lowest ≤ level) × (level ≤ range.highest)

-- how far apart the ends of a range are
abbrev pub width : LevelRange → ℕ
width range = range.highest - range.lowest
