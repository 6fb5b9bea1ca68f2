-- Lines as they are written from the last byte to the first.
use Rattle.std.specs.Prelude.{◌≡◌, ℕ, List, ◌++◌, drop}
use Rattle.script_text.specs.declared.pen.Pen as pen

-- the line so far
abbrev pub tail_of : pen.Pen → List ℕ
tail_of pen = drop pen.at pen.bytes

-- bytes with more behind them
abbrev pub IsLonger : List ℕ → List ℕ → Type 0
IsLonger old new = (more : List ℕ) × (new ≡ old ++ more)
