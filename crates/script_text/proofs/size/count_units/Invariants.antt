use Rattle.std.proofs.Common.{◌≡◌, ◌+◌, ◌^◌, ◌<◌, ◌≤◌, List, [], ◌∷◌, length, map}
use Rattle.plant_book.specs.declared.site.Unit as unit
use Rattle.script_text.specs.Grammar.{Statement}
use Rattle.script_text.specs.Script.{begins_in, inverter_statement}
use Rattle.script_text.specs.Progress.{IsAt}
use Rattle.script_text.specs.Size.{AreCounted}
use Rattle.script_text.proofs.size.count_units.Given as goal

abbrev pub invariant-loop-line : goal.invariant-loop-line
invariant-loop-line l = record {
  few : l.rows.number + length l.rows.rest.now < 2 ^ 32;
  whole : l.rows.whole.now ≡ l.fn.rows.whole.now;
  count : l.size.inverters ≤ l.rows.number;
  cap : l.size.cap ≡ l.fn.cap;
  units : List unit.Unit;
  counted : AreCounted units l.size;
  is_at : (site : Statement) → begins_in (site ∷ []) ≡ [] → IsAt l.fn.rows (site ∷ []) → IsAt l.rows (site ∷ map inverter_statement units);
}

abbrev pub decreases-loop-line : goal.decreases-loop-line
decreases-loop-line l = length l.rows.rest.now
