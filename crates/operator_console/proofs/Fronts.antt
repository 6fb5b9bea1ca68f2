-- A desk's front, which never falls.
use Rattle.std.proofs.Common.{ℕ, ◌≤◌, List, [], ◌∷◌, ◌++◌, arith}
use Rattle.operator_console.specs.Transcript.{NeverFall}

pub lower_first : (first low : ℕ) (over : List ℕ) (last : ℕ) → low ≤ first → NeverFall first over last → NeverFall low over last
lower_first first low [] last le fall = omega (arith, le, fall)
lower_first first low (next ∷ later) last le fall = (omega (arith, le, fall.0), fall.1)

pub higher_last : (first : ℕ) (over : List ℕ) (last high : ℕ) → last ≤ high → NeverFall first over last → NeverFall first over high
higher_last first [] last high le fall = omega (arith, le, fall)
higher_last first (next ∷ later) last high le fall = (fall.0, higher_last next later last high le fall.1)

-- one list over another
pub fall_append : (first : ℕ) (xs ys : List ℕ) (mid last : ℕ) → NeverFall first xs mid → NeverFall mid ys last → NeverFall first (xs ++ ys) last
fall_append first [] ys mid last a b = lower_first mid first ys last a b
fall_append first (x ∷ xs) ys mid last a b = (a.0, fall_append x xs ys mid last a.1 b)
