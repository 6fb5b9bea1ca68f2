use Rattle.std.proofs.Common.{◌≡◌, ◌+◌, ◌^◌, ◌<◌, ◌≤◌, [], ◌∷◌, length, map, vec_len}
use Rattle.script_text.specs.Grammar.{Statement}
use Rattle.script_text.specs.Script.{begins_in, inverter_statement}
use Rattle.script_text.specs.Progress.{IsAt}
use Rattle.script_text.proofs.script.read_units.Given as goal

abbrev pub invariant-loop-units : goal.invariant-loop-units
invariant-loop-units l = record {
  few : l.rows.number + length l.rows.rest.now < 2 ^ 32;
  whole : l.rows.whole.now ≡ l.fn.rows.whole.now;
  count : vec_len l.units ≤ l.rows.number;
  is_at : (site : Statement) → begins_in (site ∷ []) ≡ [] → IsAt l.fn.rows (site ∷ []) → IsAt l.rows (site ∷ map inverter_statement l.units.items);
}

abbrev pub decreases-loop-units : goal.decreases-loop-units
decreases-loop-units l = length l.rows.rest.now
