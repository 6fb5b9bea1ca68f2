use Rattle.std.proofs.Common.{◌≡◌, ◌+◌, ◌++◌, ◌∷◌, List, length, sym, ap, subst, ◌∙◌, arith, length-append}
use Rattle.std.proofs.lemmas.List.FromFn.{length-map-range_with_len}
use Rattle.plant_book.specs.Site.{SiteRecord, inverters}
use Rattle.plant_desk.specs.Passes.{PassRecord, new_pass}
use Rattle.plant_desk.specs.DeskOf.{state_of}
use Rattle.worker_turn.specs.Worker.{WorkerRecord}
use Rattle.plant_run.specs.Forked.{EachReady}
use Rattle.plant_run.proofs.Few.{few}
use Rattle.plant_run.proofs.Whole.{lent}
use Rattle.plant_run.proofs.Together.{numbered, seats_count, ready, operators_inverters, stay_behind, handed_of_desk, handed_all, forked_whole}
use Rattle.plant_run.proofs.forked.run_forked.Goals as goal

-- there are no more workers than inverters
pub overflow_cast-count : goal.overflow_cast-count
overflow_cast-count g c =
    omega (
      arith,
      c.len-count.ensures,
      c.args.workers.now.ok,
      few c.args.plant.site c.args.workers.now.items c.requires.site c.requires.differ c.calls-calls.ensures.kept.of_life.behind.book.openable.few,
    )

pub overflow_add-count : goal.overflow_add-count
overflow_add-count g c =
    omega (
      arith,
      c.len-count.ensures,
      c.args.workers.now.ok,
      few c.args.plant.site c.args.workers.now.items c.requires.site c.requires.differ c.calls-calls.ensures.kept.of_life.behind.book.openable.few,
    )

pub new-requires-clause-few : goal.new-requires-clause-few
new-requires-clause-few g c =
    omega (
      arith,
      c.len-count.ensures,
      c.args.workers.now.ok,
      few c.args.plant.site c.args.workers.now.items c.requires.site c.requires.differ c.calls-calls.ensures.kept.of_life.behind.book.openable.few,
    )

pub take_seats-requires-clause-some : goal.take_seats-requires-clause-some
take_seats-requires-clause-some g c =
    let given = ap (λ (ps : List PassRecord). length ps) c.in_ok-desk.ensures.made.numbered
    ∙ length-map-range_with_len (new_pass c.in_ok-desk.desk) 1 (c.len-count.result + 1) in
    omega (arith, given, c.in_ok-desk.passes.ok)

pub work_and_listen-console-requires-clause-of_desk : goal.work_and_listen-console-requires-clause-of_desk
work_and_listen-console-requires-clause-of_desk g c κs within =
    let number : c.len-count.result + 1 ≡ length c.args.workers.now.items + 1 = omega (arith, c.len-count.ensures, c.args.workers.now.ok) in
    let are = numbered c.args.plant (c.len-count.result + 1) (length c.args.workers.now.items) c.in_ok-desk.desk c.in_ok-desk.passes.items
    c.in_ok-desks.field-0.workers.items c.in_ok-desks.field-0.operator number c.in_ok-desk.ensures.made c.in_ok-desks.ensures.seated in
    let inside : length c.behind-plant.inside.units.items ≡ inverters c.args.plant.site =
    ap (λ (s : SiteRecord). length s.units) c.behind-plant.view_is ∙ ap (λ (s : SiteRecord). length s.units) c.site.ensures in
    omega (arith, c.len-inverters.ensures, c.behind-plant.inside.units.ok, inside) ∙ operators_inverters c.args.plant c.in_ok-desk.desk (length c.args.workers.now.items) c.in_ok-desks.field-0.workers.items
    c.in_ok-desks.field-0.operator c.in_ok-desk.ensures.made.of_book are

pub work_and_listen-console-requires-clause-desks : goal.work_and_listen-console-requires-clause-desks
work_and_listen-console-requires-clause-desks g c κs within =
    let number : c.len-count.result + 1 ≡ length c.args.workers.now.items + 1 = omega (arith, c.len-count.ensures, c.args.workers.now.ok) in
    let are = numbered c.args.plant (c.len-count.result + 1) (length c.args.workers.now.items) c.in_ok-desk.desk c.in_ok-desk.passes.items
    c.in_ok-desks.field-0.workers.items c.in_ok-desks.field-0.operator number c.in_ok-desk.ensures.made c.in_ok-desks.ensures.seated in
    ap (λ (ps : List PassRecord). length ps) c.deref_mut-2.ensures.value
    ∙ seats_count c.in_ok-desk.desk (length c.args.workers.now.items) c.in_ok-desks.field-0.workers.items c.in_ok-desks.field-0.operator are
    ∙ ap (λ (ws : List WorkerRecord). length ws) (sym c.deref_mut-3.ensures.value)

pub work_and_listen-console-requires-clause-ready : goal.work_and_listen-console-requires-clause-ready
work_and_listen-console-requires-clause-ready g c κs within =
    let number : c.len-count.result + 1 ≡ length c.args.workers.now.items + 1 = omega (arith, c.len-count.ensures, c.args.workers.now.ok) in
    let are = numbered c.args.plant (c.len-count.result + 1) (length c.args.workers.now.items) c.in_ok-desk.desk c.in_ok-desk.passes.items
    c.in_ok-desks.field-0.workers.items c.in_ok-desks.field-0.operator number c.in_ok-desk.ensures.made c.in_ok-desks.ensures.seated in
    let P : List PassRecord → Type 0 = λ ps. EachReady state_of c.deref_mut-3.result.now ps in
    let Q : List WorkerRecord → Type 0 = λ ws. EachReady state_of ws c.in_ok-desks.field-0.workers.items in
    subst P (sym c.deref_mut-2.ensures.value) (subst Q (sym c.deref_mut-3.ensures.value)
    (ready c.args.plant c.in_ok-desk.desk c.args.workers.now.items c.in_ok-desks.field-0.workers.items c.in_ok-desks.field-0.operator
    c.in_ok-desk.ensures.made.of_book are c.requires.workers c.requires.site))

pub close-plant-requires-clause-of_desk : goal.close-plant-requires-clause-of_desk
close-plant-requires-clause-of_desk g c =
    let number : c.len-count.result + 1 ≡ length c.args.workers.now.items + 1 = omega (arith, c.len-count.ensures, c.args.workers.now.ok) in
    let low = c.split_at_mut-dialers in
    let all = c.work_and_listen-console.ensures.workers in
    let count : length low.result.0.now ≡ length c.args.workers.now.items = omega (arith, low.ensures.front_len, c.len.ensures, c.args.workers.now.ok) in
    let desks : _ ≡ c.work_and_listen-console.new.desks = lent c.in_ok-desks.field-0.workers.len c.work_and_listen-console.new.desks c.in_ok-desks.field-0.workers.items
    (sym c.deref_mut-2.ensures.len ∙ ap (λ (ps : List PassRecord). length ps) c.deref_mut-2.ensures.value)
    (all.desks_stay ∙ ap (λ (ps : List PassRecord). length ps) c.deref_mut-2.ensures.value) in
    handed_of_desk g.N.Dialer.links g.N.Dialer.faults (g.K.Clock.may_give c.args.clock.now) c.args.plant (c.len-count.result + 1) c.in_ok-desk.desk
    c.in_ok-desk.passes.items c.in_ok-desks.field-0.workers.items c.deref_mut-2.result.now c.work_and_listen-console.new.desks c.hand_in-passes.result.items
    c.in_ok-desks.field-0.operator c.work_and_listen-console.new.operator c.args.workers.now.items c.deref_mut-3.result.now c.work_and_listen-console.new.workers
    c.args.dialers.now.items low.result.0.now c.work_and_listen-console.new.dialers low.result.1.now
    number c.in_ok-desk.ensures.made c.in_ok-desks.ensures.seated c.deref_mut-2.ensures.value c.deref_mut-3.ensures.value
    (sym c.deref_mut.ensures.value ∙ low.ensures.value) count all c.work_and_listen-console.ensures.kept
    (c.hand_in-passes.ensures ∙ ap (λ (ps : List PassRecord). c.work_and_listen-console.new.operator ∷ ps) desks)

pub close-plant-requires-clause-all : goal.close-plant-requires-clause-all
close-plant-requires-clause-all g c =
    let number : c.len-count.result + 1 ≡ length c.args.workers.now.items + 1 = omega (arith, c.len-count.ensures, c.args.workers.now.ok) in
    let low = c.split_at_mut-dialers in
    let all = c.work_and_listen-console.ensures.workers in
    let count : length low.result.0.now ≡ length c.args.workers.now.items = omega (arith, low.ensures.front_len, c.len.ensures, c.args.workers.now.ok) in
    let desks : _ ≡ c.work_and_listen-console.new.desks = lent c.in_ok-desks.field-0.workers.len c.work_and_listen-console.new.desks c.in_ok-desks.field-0.workers.items
    (sym c.deref_mut-2.ensures.len ∙ ap (λ (ps : List PassRecord). length ps) c.deref_mut-2.ensures.value)
    (all.desks_stay ∙ ap (λ (ps : List PassRecord). length ps) c.deref_mut-2.ensures.value) in
    let enough = handed_all g.N.Dialer.links g.N.Dialer.faults (g.K.Clock.may_give c.args.clock.now) c.args.plant (c.len-count.result + 1) c.in_ok-desk.desk
    c.in_ok-desk.passes.items c.in_ok-desks.field-0.workers.items c.deref_mut-2.result.now c.work_and_listen-console.new.desks c.hand_in-passes.result.items
    c.in_ok-desks.field-0.operator c.work_and_listen-console.new.operator c.args.workers.now.items c.deref_mut-3.result.now c.work_and_listen-console.new.workers
    c.args.dialers.now.items low.result.0.now c.work_and_listen-console.new.dialers low.result.1.now
    number c.in_ok-desk.ensures.made c.in_ok-desks.ensures.seated c.deref_mut-2.ensures.value c.deref_mut-3.ensures.value
    (sym c.deref_mut.ensures.value ∙ low.ensures.value) count all c.work_and_listen-console.ensures.kept
    (c.hand_in-passes.ensures ∙ ap (λ (ps : List PassRecord). c.work_and_listen-console.new.operator ∷ ps) desks) in
    omega (arith, enough, c.hand_in-passes.result.ok)

pub returns-clause-forked : goal.returns-clause-forked
returns-clause-forked g c =
    let number : c.len-count.result + 1 ≡ length c.args.workers.now.items + 1 = omega (arith, c.len-count.ensures, c.args.workers.now.ok) in
    let low = c.split_at_mut-dialers in
    let ran = c.work_and_listen-console in
    let all = ran.ensures.workers in
    let count : length low.result.0.now ≡ length c.args.workers.now.items = omega (arith, low.ensures.front_len, c.len.ensures, c.args.workers.now.ok) in
    let desks : _ ≡ ran.new.desks = lent c.in_ok-desks.field-0.workers.len ran.new.desks c.in_ok-desks.field-0.workers.items
    (sym c.deref_mut-2.ensures.len ∙ ap (λ (ps : List PassRecord). length ps) c.deref_mut-2.ensures.value)
    (all.desks_stay ∙ ap (λ (ps : List PassRecord). length ps) c.deref_mut-2.ensures.value) in
    let split : c.args.dialers.now.items ≡ low.result.0.now ++ low.result.1.now = sym c.deref_mut.ensures.value ∙ low.ensures.value in
    let ended = ran.new.dialers ++ low.result.1.now in
    let stay : length ended ≡ length c.args.dialers.now.items =
    omega (arith, length-append ran.new.dialers low.result.1.now, length-append low.result.0.now low.result.1.now, all.dialers_stay, ap (λ (ds : List g.row.N.Denot). length ds) split) in
    forked_whole g.N.Dialer.links g.N.Dialer.faults (g.K.Clock.may_give c.args.clock.now) c.args.plant (c.len-count.result + 1) c.in_ok-desk.desk
    c.in_ok-desk.passes.items c.in_ok-desks.field-0.workers.items c.deref_mut-2.result.now ran.new.desks c.hand_in-passes.result.items
    c.in_ok-desks.field-0.operator ran.new.operator c.args.workers.now.items c.deref_mut-3.result.now ran.new.workers
    c.args.dialers.now.items low.result.0.now ran.new.dialers low.result.1.now
    number c.in_ok-desk.ensures.made c.in_ok-desks.ensures.seated c.deref_mut-2.ensures.value c.deref_mut-3.ensures.value
    split count all ran.ensures.kept
    (c.hand_in-passes.ensures ∙ ap (λ (ps : List PassRecord). ran.new.operator ∷ ps) desks)
    c.close-plant.result ran.result _ _ _ _ _ _ c.requires.opened.1 c.requires.differ ran.ensures.console c.close-plant.ensures
    (lent c.args.workers.now.len ran.new.workers c.args.workers.now.items
    (sym c.deref_mut-3.ensures.len ∙ ap (λ (ws : List WorkerRecord). length ws) c.deref_mut-3.ensures.value)
    (all.workers_stay ∙ ap (λ (ws : List WorkerRecord). length ws) c.deref_mut-3.ensures.value))
    (lent c.args.dialers.now.len ended c.args.dialers.now.items
    (sym c.deref_mut.ensures.len ∙ ap (λ (ds : List g.row.N.Denot). length ds) c.deref_mut.ensures.value) stay)

pub returns-clause-behind : goal.returns-clause-behind
returns-clause-behind g c =
    let low = c.split_at_mut-dialers in
    let ran = c.work_and_listen-console in
    let all = ran.ensures.workers in
    let split : c.args.dialers.now.items ≡ low.result.0.now ++ low.result.1.now = sym c.deref_mut.ensures.value ∙ low.ensures.value in
    let ended = ran.new.dialers ++ low.result.1.now in
    let stay : length ended ≡ length c.args.dialers.now.items =
    omega (arith, length-append ran.new.dialers low.result.1.now, length-append low.result.0.now low.result.1.now, all.dialers_stay, ap (λ (ds : List g.row.N.Denot). length ds) split) in
    stay_behind c.args.workers.now.len c.args.dialers.now.items _ low.result.0.now ran.new.dialers low.result.1.now split
    (lent c.args.dialers.now.len ended c.args.dialers.now.items
    (sym c.deref_mut.ensures.len ∙ ap (λ (ds : List g.row.N.Denot). length ds) c.deref_mut.ensures.value) stay)
    (omega (arith, low.ensures.front_len, c.len.ensures)) all.dialers_stay
