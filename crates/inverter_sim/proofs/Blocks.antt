-- Six registers set a limit exactly where they are the block of that limit.
use Rattle.std.proofs.Common.{◌≡◌, ℕ, ◌+◌, ◌*◌, ◌/◌, ◌%◌, ◌<◌, ◌≤◌, Bool, true, false, ◌&&◌, eqb, leb, List, [], ◌∷◌, length, get_or, refl, arith, eq-eqb, leb-true}
use Rattle.std.proofs.lemmas.Bool.Decides.{nat_tests}
use Rattle.limiter_num.specs.declared.rules.Rules.{Rules}
use Rattle.limiter_num.specs.Rating.{full}
use Rattle.plant_book.specs.declared.site.Unit as units
use Rattle.der_models.specs.Limit.{limit_registers}
use Rattle.inverter_sim.specs.Replies.{sets_limit}
use lib.Pointwise.{pointwise}

-- two registers are those of a number exactly where they make it
halves_test : (high low number : ℕ) → low < 65536 → eqb high (number / 65536) && eqb low (number % 65536) ≡ eqb (65536 * high + low) number
halves_test high low number small = grind (arith, nat_tests)

regroup : (ena rvrt ena_rvrt high low tms : Bool) → high && low ≡ tms
    → ena && (true && (rvrt && (ena_rvrt && (high && (low && true))))) ≡ (((ena && true) && rvrt) && ena_rvrt) && tms
regroup false rvrt ena_rvrt high low tms same = refl
regroup true false ena_rvrt high low tms same = refl
regroup true true false high low tms same = refl
regroup true true true high true tms same = same
regroup true true true high false tms same = same

pub block_test : (unit : units.Unit) (rules : Rules) (values : List ℕ) → length values ≡ 6 → get_or values 5 0 < 65536 → get_or values 1 0 ≤ full unit.rating
    → pointwise eqb values (limit_registers (get_or values 1 0) unit.floor rules.timer) ≡ sets_limit unit rules values
block_test unit rules (a ∷ b ∷ c ∷ d ∷ e ∷ f ∷ []) six small within =
    let own : eqb b b ≡ true = eq-eqb b b refl in
    let pct : leb b (full unit.rating) ≡ true = grind (arith, nat_tests) in
    rw (own, pct) (regroup (eqb a 1) (eqb c unit.floor) (eqb d 1) (eqb e (rules.timer / 65536)) (eqb f (rules.timer % 65536)) (eqb (65536 * e + f) rules.timer) (halves_test e f rules.timer small))
block_test unit rules _ six small within = absurd (omega arith)

and_parts : (a b c d e : Bool) → (((a && b) && c) && d) && e ≡ true → b ≡ true
and_parts true true c d e all = refl
and_parts false b c d e all = absurd cc
and_parts true false c d e all = absurd cc

-- a limit that is taken is at most 100 percent
pub raw_within : (unit : units.Unit) (rules : Rules) (values : List ℕ) → sets_limit unit rules values ≡ true → get_or values 1 0 ≤ full unit.rating
raw_within unit rules values taken = leb-true _ _ (and_parts (eqb (get_or values 0 0) 1) (leb (get_or values 1 0) (full unit.rating)) (eqb (get_or values 2 0) unit.floor) (eqb (get_or values 3 0) 1) (eqb (65536 * get_or values 4 0 + get_or values 5 0) rules.timer) taken)
