-- Lists of requests and of inverters.
use Rattle.std.proofs.Common.{◌≡◌, ℕ, zero, suc, ◌+◌, ◌<◌, List, [], ◌∷◌, ◌++◌, length, get_or, set, take, refl, sym, ap, ◌∙◌, append_assoc, arith}
use Rattle.std.proofs.lemmas.List.{take_more}
use Rattle.plant_simulator.specs.declared.inverter.Request.{Request}
use Rattle.plant_simulator.specs.declared.inverter.Request.TheVariants as requests
use Rattle.plant_simulator.specs.declared.inverter.OldWrite.{OldWrite}
use Rattle.plant_simulator.specs.World.{InverterRecord}
use Rattle.plant_simulator.specs.Inverter.{old_writes, changed_at}

pub old_writes-append : (life : ℕ) (xs ys : List Request) → old_writes life (xs ++ ys) ≡ old_writes life xs ++ old_writes life ys
old_writes-append life [] ys = refl
old_writes-append life (requests.Write write ∷ xs) ys = ap (λ (ws : List OldWrite). record { life = life; write = write } ∷ ws) (old_writes-append life xs ys)
old_writes-append life (requests.Read read ∷ xs) ys = old_writes-append life xs ys

pub old_writes_more : (life : ℕ) (before now after : List OldWrite) (line : List Request) (i : ℕ) (default : Request) → i < length line
    → now ≡ before ++ old_writes life (take i line) → after ≡ now ++ old_writes life (get_or line i default ∷ []) → after ≡ before ++ old_writes life (take (i + 1) line)
old_writes_more life before now after line i default lt was made =
    made ∙ ap (λ (ws : List OldWrite). ws ++ old_writes life (get_or line i default ∷ [])) was
    ∙ append_assoc before (old_writes life (take i line)) (old_writes life (get_or line i default ∷ []))
    ∙ ap (λ (ws : List OldWrite). before ++ ws) (sym (old_writes-append life (take i line) (get_or line i default ∷ [])) ∙ ap (old_writes life) (sym (take_more line i default lt)))

-- one inverter is changed where it stands
pub changed_at_set : (xs : List InverterRecord) (number : ℕ) (change : InverterRecord → InverterRecord) (its : InverterRecord) → number < length xs → its ≡ get_or xs number its
    → set xs number (change its) ≡ changed_at number change xs
changed_at_set [] number change its lt is = absurd (omega (arith, lt))
changed_at_set (x ∷ xs) zero change its lt is = ap (λ (y : InverterRecord). change y ∷ xs) is
changed_at_set (x ∷ xs) (suc number) change its lt is = ap (λ (ys : List InverterRecord). x ∷ ys) (changed_at_set xs number change its (omega (arith, lt)) is)

pub length-changed_at : (xs : List InverterRecord) (number : ℕ) (change : InverterRecord → InverterRecord) → length (changed_at number change xs) ≡ length xs
length-changed_at [] number change = refl
length-changed_at (x ∷ xs) zero change = refl
length-changed_at (x ∷ xs) (suc number) change = omega (arith, length-changed_at xs number change)
