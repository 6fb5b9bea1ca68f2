use Rattle.std.proofs.Common.{◌≡◌, ◌++◌, length, take, drop, List, sym, ap, subst, ◌∙◌, arith}
use Rattle.std.specs.Prelude.{vec_len}
use Rattle.plant_book.specs.Site.{inverters}
use Rattle.plant_book.specs.Part.{PartRecord, first_book}
use Rattle.ledger_desk.specs.Plain.{PlainRecord}
use Rattle.worker_turn.specs.Worker.{WorkerRecord}
use Rattle.plant_run.specs.Running.{EachWorker, EachWorks, IsOver, Differ, StayBehind}
use Rattle.plant_ledger.specs.Plant.{IsSafeLife}
use Rattle.plant_run.specs.Rounds.{IsSeat, WorkOn, book_of}
use Rattle.plant_run.specs.Works.{HasFullBook, one_book}
use Rattle.plant_run.proofs.Whole.{book_is, answered, safe, lent, seat, owned, work_is, in_life}
use Rattle.plant_run.proofs.plain.run_plain.Given as given
use Rattle.plant_run.proofs.plain.run_plain.Goals as goal

pub make_rounds-requires-clause-seats : goal.make_rounds-requires-clause-seats
make_rounds-requires-clause-seats g c =
    let P : List WorkerRecord → Type 0 = λ ws. EachWorker (IsSeat (inverters c.new-desk.result.book.site)) ws in
    let Q : PlainRecord → Type 0 = λ desk. EachWorker (IsSeat (inverters desk.book.site)) c.args.workers.now.items in
    subst P (sym c.deref_mut.ensures.value) (subst Q (sym c.new-desk.ensures)
    (λ place worker is. seat c.args.plant.site worker (c.requires.workers place worker is) (c.requires.site place worker is)))

pub make_rounds-requires-clause-differ : goal.make_rounds-requires-clause-differ
make_rounds-requires-clause-differ g c =
    let P : List WorkerRecord → Type 0 = λ ws. Differ ws in subst P (sym c.deref_mut.ensures.value) c.requires.differ

-- what all workers did
work : (g : given.Over) (c : goal.After-into_plant g) → WorkOn g.N.Dialer.links g.N.Dialer.faults (g.K.Clock.may_give c.args.clock.now) (first_book c.args.plant) (first_book c.into_plant.result)
    c.args.workers.now.items c.make_rounds.new.workers c.args.dialers.now.items c.make_rounds.new.dialers
work g c =
    let desk = c.make_rounds.new.desk in
    work_is g.N.Dialer.links g.N.Dialer.faults (g.K.Clock.may_give c.args.clock.now) (book_of c.new-desk.result) (book_of desk) (first_book c.args.plant) (first_book c.into_plant.result)
    c.args.workers.now.items c.deref_mut.result.now c.make_rounds.new.workers c.args.dialers.now.items c.deref_mut-2.result.now c.make_rounds.new.dialers
    (ap book_of c.new-desk.ensures)
    (book_is desk c.make_rounds.ensures.whole c.into_plant.ensures.whole ∙ ap first_book (sym c.into_plant.ensures.book))
    c.deref_mut.ensures.value c.deref_mut-2.ensures.value c.make_rounds.ensures.work

pub returns-clause-safe : goal.returns-clause-safe
returns-clause-safe g c =
    let P : PartRecord → Type 0 = λ plant. IsSafeLife (first_book plant) in
    subst P (sym c.into_plant.ensures.book)
    (safe (first_book c.make_rounds.new.desk.book) (answered c.make_rounds.new.desk c.make_rounds.ensures.whole c.into_plant.ensures.whole))

pub returns-clause-owned : goal.returns-clause-owned
returns-clause-owned g c =
    let all = work g c in
    owned c.args.plant c.into_plant.result c.args.workers.now.items all.grows.more c.requires.opened.1 all.grows.is all.grows.each

-- the workers and the dialers, as they were lent
workers_now : (g : given.Over) (c : goal.After-into_plant g)
    → take c.args.workers.now.len (c.make_rounds.new.workers ++ drop (length c.make_rounds.new.workers) c.args.workers.now.items)
    ≡ c.make_rounds.new.workers
workers_now g c =
    lent c.args.workers.now.len c.make_rounds.new.workers c.args.workers.now.items
    (sym c.deref_mut.ensures.len ∙ ap length c.deref_mut.ensures.value) (work g c).workers_stay

dialers_now : (g : given.Over) (c : goal.After-into_plant g)
    → take c.args.dialers.now.len (c.make_rounds.new.dialers ++ drop (length c.make_rounds.new.dialers) c.args.dialers.now.items)
    ≡ c.make_rounds.new.dialers
dialers_now g c =
    lent c.args.dialers.now.len c.make_rounds.new.dialers c.args.dialers.now.items
    (sym c.deref_mut-2.ensures.len ∙ ap length c.deref_mut-2.ensures.value) (work g c).dialers_stay

pub returns-clause-works : goal.returns-clause-works
returns-clause-works g c =
    let P : List WorkerRecord → Type 0 = λ ws. EachWorks g.N.Dialer.links g.N.Dialer.faults (g.K.Clock.may_give c.args.clock.now) (first_book c.args.plant) (first_book c.into_plant.result)
    (HasFullBook (one_book c.into_plant.result)) c.args.workers.now.items ws c.args.dialers.now.items c.make_rounds.new.dialers in
    let Q : List g.row.N.Denot → Type 0 = λ ds. EachWorks g.N.Dialer.links g.N.Dialer.faults (g.K.Clock.may_give c.args.clock.now) (first_book c.args.plant) (first_book c.into_plant.result)
    (HasFullBook (one_book c.into_plant.result)) c.args.workers.now.items (take c.args.workers.now.len (c.make_rounds.new.workers ++ drop (length c.make_rounds.new.workers) c.args.workers.now.items))
    c.args.dialers.now.items ds in
    subst Q (sym (dialers_now g c)) (subst P (sym (workers_now g c))
    (in_life g.N.Dialer.links g.N.Dialer.faults (g.K.Clock.may_give c.args.clock.now) (first_book c.args.plant) c.into_plant.result _ _ _ _ (work g c).each))

pub returns-clause-over : goal.returns-clause-over
returns-clause-over g c =
    let P : List WorkerRecord → Type 0 = λ ws. EachWorker IsOver ws in subst P (sym (workers_now g c)) c.make_rounds.ensures.over

pub returns-clause-behind : goal.returns-clause-behind
returns-clause-behind g c =
    let P : List g.row.N.Denot → Type 0 = λ ds. StayBehind (vec_len c.args.workers.now) c.args.dialers.now.items ds in
    subst P (sym (dialers_now g c)) (λ place past. (work g c).behind place
    (omega (arith, past, c.deref_mut.ensures.len, ap length c.deref_mut.ensures.value)))
