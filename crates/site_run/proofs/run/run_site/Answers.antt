use Rattle.std.proofs.Common.{◌≡◌, ◌≤◌, ℕ, List, length, sym, ap, subst, ◌∙◌, arith}
use Rattle.std.specs.Prelude.{IsTrue, vec_len}
use Rattle.plant_book.specs.Site.{SiteRecord, inverters}
use Rattle.plant_book.specs.Part.{PartRecord}
use Rattle.plant_book.specs.Life.{joined_book}
use Rattle.worker_turn.specs.Worker.{WorkerRecord}
use Rattle.plant_run.specs.Running.{StayBehind}
use Rattle.site_run.proofs.Seats.{each_new, each_of_site, differ}
use Rattle.site_run.proofs.Whole.{opened_is, owned, each_work, at_full}
use Rattle.site_run.proofs.run.run_site.Goals as goal

pub run_forked-requires-clause-workers : goal.run_forked-requires-clause-workers
run_forked-requires-clause-workers g c = λ lifetimes outlive.
    each_new c.args.file c.args.turns (inverters c.args.file.site) c.in_ok-plant.field-0.workers.items c.in_ok-plant.ensures.seated

pub run_forked-requires-clause-site : goal.run_forked-requires-clause-site
run_forked-requires-clause-site g c = λ lifetimes outlive.
    each_of_site c.args.file c.args.turns (inverters c.args.file.site) c.in_ok-plant.field-0.plant.site c.in_ok-plant.field-0.workers.items
    (ap (λ (p : PartRecord). p.site) c.in_ok-plant.ensures.empty) c.in_ok-plant.ensures.seated

pub run_forked-requires-clause-differ : goal.run_forked-requires-clause-differ
run_forked-requires-clause-differ g c = λ lifetimes outlive.
    differ c.args.file c.args.turns (inverters c.args.file.site) c.in_ok-plant.field-0.workers.items c.in_ok-plant.ensures.seated

pub returns-clause-ran : goal.returns-clause-ran
returns-clause-ran g c =
    let run = c.in_ok-plant-2.ensures.forked in
    let opened : PartRecord = c.in_ok-plant.field-0.plant in
    let empty = c.in_ok-plant.ensures.empty in
    let seated = c.in_ok-plant.ensures.seated in
    let file = c.args.file in
    let count : ℕ = inverters file.site in
    let before : List WorkerRecord = c.in_ok-plant.field-0.workers.items in
    let after : List WorkerRecord = c.run_forked.new.workers.items in
    let dialers = c.args.dialers.now.items in
    let dialers_now = c.run_forked.new.dialers.items in
    let may_give = g.K.Clock.may_give c.args.clock.now in
    let stay : length after ≡ length before =
    omega (arith, c.run_forked.ensures.workers_stay, c.run_forked.new.workers.ok, c.in_ok-plant.field-0.workers.ok) in
    let all : length after ≡ count = stay ∙ seated.all in
    let dialers_stay : length dialers_now ≡ length dialers =
    omega (arith, c.run_forked.ensures.dialers_stay, c.run_forked.new.dialers.ok, c.args.dialers.now.ok) in
    let few : length after ≤ length dialers = omega (arith, all, c.requires.dialers, c.args.dialers.now.ok) in
    let many : vec_len c.in_ok-plant.field-0.workers ≡ count = omega (arith, c.in_ok-plant.field-0.workers.ok, seated.all) in
    let site_of : PartRecord → SiteRecord = λ p. p.site in
    let start_of : PartRecord → ℕ = λ p. p.start in
    let first = opened_is opened run.life (ap (λ (p : PartRecord). p.entries) empty) (ap site_of (sym run.last) ∙ run.site) (ap start_of (sym run.last) ∙ run.start) in
    let each = each_work g.N.Dialer.links g.N.Dialer.faults may_give file c.args.turns count _ run.life before after dialers dialers_now first seated stay run.works run.over in
    record {
      life = run.life;
      last = run.last;
      site = run.site ∙ ap site_of empty;
      start = subst (λ (n : ℕ). IsTrue (may_give n)) (sym (run.start ∙ ap start_of empty)) c.now-start.ensures.given;
      answered = run.answered;
      safe = run.safe;
      owned = owned file c.args.turns count before (joined_book run.life).entries seated run.owned;
      all = all;
      each = each;
      full = at_full g.N.Dialer.links g.N.Dialer.faults may_give file c.args.turns run.life after dialers dialers_now few dialers_stay each;
      operator = run.console;
      dialers_stay = dialers_stay;
      behind = subst (λ (n : ℕ). StayBehind n dialers dialers_now) many c.run_forked.ensures.behind;
    }
