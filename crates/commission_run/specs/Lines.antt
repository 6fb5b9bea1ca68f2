-- The lines that a commissioning writes.
use Rattle.std.specs.Prelude.{ℕ, List, [], ◌∷◌, ◌++◌, codes, Option, Some, None}
use Rattle.std.specs.Fmt.{decimal, signed_decimal}
use Rattle.commissioning.specs.declared.found.Record702.{Record702}
use Rattle.commissioning.specs.Stage.{Stage, Commissioned, found_at}

-- the points that were found, their raw values as decimal numbers
abbrev pub found_line : Record702 → List ℕ
found_line found =
    codes "found base " ++ decimal found.base ++ codes " wmax " ++ decimal found.wmax
    ++ codes " wsf " ++ signed_decimal found.wsf ++ codes " psf " ++ signed_decimal found.psf ++ 10 ∷ []

abbrev pub commissioned_line : ℕ → List ℕ
commissioned_line inverter = codes "commissioned " ++ decimal inverter ++ 10 ∷ []

-- the line of the points, once they were found
abbrev pub found_text : Option Record702 → List ℕ
found_text None = []
found_text (Some found) = found_line found

-- the line of an inverter that is commissioned
abbrev pub end_text : ℕ → Stage → List ℕ
end_text inverter (Commissioned found) = commissioned_line inverter
end_text inverter _ = []

-- the lines of the points that a commissioning has passed when it stands at a stage
abbrev pub passed_text : ℕ → Stage → List ℕ
passed_text inverter stage = found_text (found_at stage) ++ end_text inverter stage
