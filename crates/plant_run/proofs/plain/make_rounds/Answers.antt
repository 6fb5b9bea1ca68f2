use Rattle.std.proofs.Common.{refl, ◌∙◌}
use Rattle.plant_book.specs.Site.{inverters}
use Rattle.plant_run.specs.Rounds.{book_of}
use Rattle.plant_run.proofs.Seats as seats
use Rattle.plant_run.proofs.plain.make_rounds.Goals as goal

pub loop-init : goal.loop-init
loop-init g c = record {
  whole = c.requires.whole;
  life = refl;
  seats = c.requires.seats;
  differ = c.requires.differ;
  work = seats.none g.N.Dialer.links g.N.Dialer.faults (g.K.Clock.may_give c.args.clock.now) (book_of c.args.desk.now) c.args.workers.now c.args.dialers.now
      (inverters c.args.desk.now.book.site) c.requires.seats;
}

pub loop-preserved : goal.loop-preserved
loop-preserved g c = record {
  whole = c.round.ensures.whole;
  life = c.round.ensures.life ∙ c.loop.invariant.life;
  seats = c.round.ensures.seats;
  differ = c.round.ensures.differ;
  work = seats.more g.N.Dialer.links g.N.Dialer.faults (g.K.Clock.may_give c.args.clock.now) (book_of c.args.desk.now) (book_of c.loop.desk) (book_of c.round.new.desk)
      c.args.workers.now c.loop.workers c.round.new.workers c.args.dialers.now c.loop.dialers c.round.new.dialers c.requires.dialers
      c.loop.invariant.work c.round.ensures.work;
}

pub returns-clause-work : goal.returns-clause-work
returns-clause-work g c =
    seats.more g.N.Dialer.links g.N.Dialer.faults (g.K.Clock.may_give c.args.clock.now) (book_of c.args.desk.now) (book_of c.loop.desk) (book_of c.round.new.desk)
    c.args.workers.now c.loop.workers c.round.new.workers c.args.dialers.now c.loop.dialers c.round.new.dialers c.requires.dialers
    c.loop.invariant.work c.round.ensures.work
