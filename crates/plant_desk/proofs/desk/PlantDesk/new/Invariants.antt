use Rattle.std.proofs.Common.{◌≡◌, ◌+◌, ◌-◌, ◌≤◌, [], map, false, vec_len, vec_capacity}
use Rattle.std.specs.List.{range_with_len}
use Rattle.plant_desk.specs.Hands.{hand}
use Rattle.plant_desk.specs.Passes.{new_pass}
use Rattle.plant_desk.proofs.desk.PlantDesk.new.Given as goal

abbrev pub invariant-loop-before : goal.invariant-loop-before
invariant-loop-before l = record {
  made : l.made.items ≡ map (new_pass l.desk) (range_with_len 1 l.before);
  room : l.passes ≤ vec_capacity l.made;
  count : vec_len l.made ≡ l.before;
  place : l.place.table_id ≡ l.desk.name;
  rest : l.place.me ≡ (record { hands = map (λ number. hand l.desk.book l.passes number []) (range_with_len (l.before + 1) (l.passes - l.before)); holds = false }, []);
}
