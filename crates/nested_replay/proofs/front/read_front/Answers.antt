use Rattle.std.proofs.Common.{◌≡◌, ◌+◌, ◌<◌, [], length, take, refl, ap, ◌∙◌, arith, length-set}
use Rattle.std.proofs.lemmas.List.{take_more_set, length-take-le}
use Rattle.nested_replay.proofs.Rows.{front_begins, comment_past, bus_past, shorter_comment, shorter_bus, front_done, front_bad}
use Rattle.nested_replay.proofs.front.read_front.Goals.{in-Comment, in-Bus}
use Rattle.nested_replay.proofs.front.read_front.Goals as goal

pub loop-bus-init : goal.loop-bus-init
loop-bus-init c = record { read = front_begins c.args.bytes.now [] refl; few = omega arith; places = refl; short = omega arith }

pub returns-in-Bad : goal.returns-in-Bad
returns-in-Bad c =
    let places = c.loop-bus.invariant.places in
    let held : length (take c.loop-bus.count c.loop-bus.places) ≡ c.loop-bus.count = length-take-le c.loop-bus.count c.loop-bus.places (omega (arith, places, c.loop-bus.invariant.few)) in
    front_bad c.args.bytes.now c.loop-bus.script.now (take c.loop-bus.count c.loop-bus.places) c.loop-bus.rows (c.loop-bus.rows + 1) c.loop-bus.count c.in-Bad.kind c.loop-bus.invariant.read held c.loop-bus.invariant.few refl c.in-Bad.ensures

pub returns-in-Script : goal.returns-in-Script
returns-in-Script c = front_done c.args.bytes.now _ c.loop-bus.invariant.read c.loop-bus.invariant.few c.loop-bus.invariant.short (rw c.in-Script.is at c.front_row.ensures)

pub loop-bus-smaller : goal.loop-bus-smaller
loop-bus-smaller c =
    elim c.match-front_row.branch [
      | in-Comment w ↦ omega (arith, shorter_comment c.loop-bus.script.now (rw w.in-Comment.is at c.front_row.ensures), ap length c.behind_row-script.ensures)
      | in-Bus w ↦ omega (arith, shorter_bus c.loop-bus.script.now (rw w.in-Bus.is at c.front_row.ensures).0, ap length c.behind_row-script.ensures)
    ]

pub loop-bus-preserved : goal.loop-bus-preserved
loop-bus-preserved c =
    let i = c.loop-bus.invariant in
    elim c.match-front_row.branch [
      | in-Comment w ↦
          let comment = rw w.in-Comment.is at c.front_row.ensures in
          record {
            read = rw (w.places-is, w.count-is, c.behind_row-script.ensures) (comment_past c.args.bytes.now c.loop-bus.script.now (take c.loop-bus.count c.loop-bus.places) c.loop-bus.rows i.read comment);
            few = omega (arith, i.few, w.count-is);
            places = ap length w.places-is ∙ i.places;
            short = omega (arith, i.short, shorter_comment c.loop-bus.script.now comment, ap length c.behind_row-script.ensures);
          }
      | in-Bus w ↦
          let found = rw w.in-Bus.is at c.front_row.ensures in
          let places = i.places in
          let within : c.loop-bus.count < length c.loop-bus.places = omega (arith, places, found.1) in
          record {
            read = rw (w.places-is, w.count-is, c.behind_row-script.ensures)
                (bus_past c.args.bytes.now c.loop-bus.script.now (take c.loop-bus.count c.loop-bus.places) _ w.in-Bus.bus c.loop-bus.rows i.read found.0 found.2 found.3 (take_more_set c.loop-bus.places c.loop-bus.count w.in-Bus.bus within));
            few = omega (arith, found.1, w.count-is);
            places = ap length w.places-is ∙ length-set c.loop-bus.places c.loop-bus.count w.in-Bus.bus ∙ i.places;
            short = omega (arith, i.short, shorter_bus c.loop-bus.script.now found.0, ap length c.behind_row-script.ensures);
          }
    ]
