-- The text of a summary.
use Rattle.std.specs.Prelude.{ℕ, List, [], ◌∷◌, ◌++◌, codes}
use Rattle.std.specs.Fmt.{decimal}
use Rattle.plant_simulator.specs.declared.summary.Summary.{Summary}

-- a name, a space and a number
abbrev pub numbered : List ℕ → ℕ → List ℕ
numbered name number = name ++ 32 ∷ decimal number

-- the same as a line
abbrev pub number_line : List ℕ → ℕ → List ℕ
number_line name number = numbered name number ++ 10 ∷ []

-- the line of what was simulated
abbrev pub run_line : ℕ → ℕ → ℕ → List ℕ
run_line seed inverters steps =
    numbered (codes "seed") seed ++ numbered (codes " inverters") inverters ++ number_line (codes " steps") steps

-- the lines of what came of it
abbrev pub result_lines : Summary → List ℕ
result_lines summary =
    number_line (codes "cap") summary.cap ++ number_line (codes "lives") summary.lives
    ++ number_line (codes "granted") summary.granted ++ number_line (codes "freed") summary.freed
    ++ number_line (codes "peak") summary.peak

-- the text of the summary of so many steps
abbrev pub text_of : ℕ → ℕ → ℕ → Summary → List ℕ
text_of seed inverters steps summary = run_line seed inverters steps ++ result_lines summary
