use Rattle.std.proofs.Common.{◌≡◌, ◌+◌, ◌<◌, ◌≤◌, true, cond, length, Some, refl, sym, ap, subst, ◌∙◌, arith, get_or}
use Rattle.std.specs.Prelude.{set, slice_get}
use Rattle.std.proofs.lemmas.Option.{slice_get_within, slice_get-get_or}
use Rattle.plant_book.specs.Site.{inverters}
use Rattle.ledger_desk.specs.Plain.{LifeRecord}
use Rattle.plant_run.specs.Rounds.{book_of, all_left}
use Rattle.plant_run.proofs.Seats as seats
use Rattle.plant_run.proofs.Rounds.{seats_after, differ_after, over_after, fewer_after}
use Rattle.plant_run.proofs.plain.round.Given as given
use Rattle.plant_run.proofs.plain.round.Goals as goal
use Rattle.plant_run.proofs.plain.round.Goals.{then-turn_of_life, else-turn_of_life}

pub loop-place-init : goal.loop-place-init
loop-place-init g c = record {
  whole = c.requires.whole;
  life = refl;
  seats = c.requires.seats;
  differ = c.requires.differ;
  work = seats.none g.N.Dialer.links g.N.Dialer.faults (g.K.Clock.may_give c.args.clock.now) (book_of c.args.desk.now) c.args.workers.now c.args.dialers.now
      (inverters c.args.desk.now.book.site) c.requires.seats;
  over = λ none place worker below is. absurd (omega (arith, below));
  fewer = omega arith;
}

pub turn_of_life-requires-clause-seat : goal.turn_of_life-requires-clause-seat
turn_of_life-requires-clause-seat g c =
    c.loop-place.invariant.seats c.loop-place.place (get_or c.loop-place.workers c.loop-place.place c.index-workers-place.result)
    (slice_get-get_or c.loop-place.workers c.loop-place.place c.index-workers-place.result (omega (arith, c.loop-place-test.true, c.loop-place.auto.workers)))

-- whether one is ready for another turn
again : (g : given.Over) (c : goal.Joined-turn_of_life g) → c.if-turn_of_life.again ≡ cond c.turn_of_life.result true c.loop-place.again
again g c = elim c.if-turn_of_life.branch [
  | then-turn_of_life w ↦ w.again-is ∙ ap (λ b. cond b true c.loop-place.again) (sym w.if-turn_of_life.true)
  | else-turn_of_life w ↦ w.again-is ∙ ap (λ b. cond b true c.loop-place.again) (sym w.if-turn_of_life.false)
]

pub loop-place-preserved : goal.loop-place-preserved
loop-place-preserved g c =
    let workers = c.loop-place.workers in
    let dialers = c.loop-place.dialers in
    let place = c.loop-place.place in
    let within : place < length workers = omega (arith, c.loop-place-test.true, c.loop-place.auto.workers) in
    let dialed : place < length dialers = omega (arith, c.loop-place-test.true, c.requires.dialers, c.loop-place.auto.dialers) in
    let before = get_or workers place c.index-workers-place.result in
    let dialer = get_or dialers place c.index-dialers-place.result in
    let after = c.turn_of_life.new.worker in
    let was : slice_get workers place ≡ Some before = slice_get-get_or workers place c.index-workers-place.result within in
    let had : slice_get dialers place ≡ Some dialer = slice_get-get_or dialers place c.index-dialers-place.result dialed in
    let did = c.turn_of_life.ensures in
    let invariant = c.loop-place.invariant in
    let count = inverters c.loop-place.desk.book.site in
    let one = seats.one g.N.Dialer.links g.N.Dialer.faults (g.K.Clock.may_give c.args.clock.now) (book_of c.loop-place.desk) (book_of c.turn_of_life.new.desk) workers dialers count place before after dialer
    c.turn_of_life.new.dialer invariant.seats invariant.differ within dialed was had did.grows did.works in
    let job = did.works.job_same in
    let same : inverters c.turn_of_life.new.desk.book.site ≡ count = ap (λ (l : LifeRecord). inverters l.site) did.life in
    let now = again g c in
    let enough : length c.args.workers.now ≤ length c.args.dialers.now = c.requires.dialers in
    record {
      whole = did.whole;
      life = did.life ∙ invariant.life;
      seats = seats_after workers place before after within was count (inverters c.turn_of_life.new.desk.book.site) same job did.rests invariant.seats;
      differ = differ_after workers place before after within was job invariant.differ;
      work = seats.more g.N.Dialer.links g.N.Dialer.faults (g.K.Clock.may_give c.args.clock.now) (book_of c.args.desk.now) (book_of c.loop-place.desk) (book_of c.turn_of_life.new.desk)
          c.args.workers.now workers _ c.args.dialers.now dialers _ enough invariant.work one;
      over = λ none. over_after workers place before after within was c.turn_of_life.result c.loop-place.again did.over invariant.over (sym now ∙ none);
      fewer = subst (λ b. all_left (set workers place after) + cond b 1 0 ≤ all_left c.args.workers.now) (sym now)
          (fewer_after workers place before after within was c.turn_of_life.result c.loop-place.again (all_left c.args.workers.now) c.index-workers-place.result refl
          did.fewer invariant.fewer);
    }

pub returns-clause-over : goal.returns-clause-over
returns-clause-over g c = λ none place worker is.
    let within = slice_get_within c.loop-place.workers place worker is in
    c.loop-place.invariant.over none place worker (omega (arith, within, c.loop-place-test.false, c.loop-place.auto.workers)) is
