use Rattle.std.proofs.Common.{ℕ, Bool, List, Option, refl, ap, subst, ◌∙◌, arith}
use Rattle.world_traits.specs.Links.{Links}
use Rattle.plant_book.specs.declared.book.Entry.{Entry}
use Rattle.ledger_desk.specs.Desk.{DeskTests, TestsLast}
use Rattle.inverter_worker.specs.declared.job.Job.{Job}
use Rattle.worker_turn.specs.Worker.{WorkerRecord}
use Rattle.worker_turn.proofs.Rooms.{lasting, same, staying, still}
use Rattle.plant_run.specs.Works.{WorksOn}
use Rattle.plant_run.proofs.Steps.{idle}
use Rattle.plant_run.proofs.Joining.{joined}
use Rattle.plant_run.proofs.turns.run_out.Goals as goal

-- one turn more
more : (tests tests_now : DeskTests) (may_give : ℕ → Bool) (job : Job) (first mid last : List Entry) (a b c : WorkerRecord) (links links_mid links_now : Option Links)
    (faults faults_mid faults_now : ℕ) → TestsLast tests tests_now → WorksOn tests.may_tell tests.was_full may_give job first mid a b links links_mid faults faults_mid
    → WorksOn tests_now.may_tell tests_now.was_full may_give b.job mid last b c links_mid links_now faults_mid faults_now
    → WorksOn tests_now.may_tell tests_now.was_full may_give job first last a c links links_now faults faults_now
more tests tests_now may_give job first mid last a b c links links_mid links_now faults faults_mid faults_now lasts x y =
    let P : Job → Type 0 = λ j. WorksOn tests_now.may_tell tests_now.was_full may_give j mid last b c links_mid links_now faults_mid faults_now in
    joined tests.may_tell tests_now.may_tell tests.was_full tests_now.was_full lasts.goals lasts.full may_give job first mid last a b c links links_mid links_now
    faults faults_mid faults_now x (subst P x.job_same y)

pub loop-init : goal.loop-init
loop-init g c = record {
  works = idle _ _ _ c.args.worker.now.job _ _ c.args.worker.now _ _ refl c.requires.rests refl;
  rests = c.requires.rests;
  stays = still _;
  last = same _;
  kept = refl;
}

pub one_turn-requires-clause-of_desk : goal.one_turn-requires-clause-of_desk
one_turn-requires-clause-of_desk g c =
    omega (arith, c.requires.of_desk, ap (λ (j : Job). j.inverter) c.loop.invariant.works.job_same, c.loop.invariant.stays.inverters)

pub loop-preserved : goal.loop-preserved
loop-preserved g c = record {
  works = more _ _ _ _ _ _ _ _ _ _ _ _ _ _ _ _ c.one_turn.ensures.last c.loop.invariant.works c.one_turn.ensures.works;
  rests = c.one_turn.ensures.rests;
  stays = staying _ _ _ c.loop.invariant.stays c.one_turn.ensures.stays;
  last = lasting _ _ _ c.loop.invariant.last c.one_turn.ensures.last;
  kept = c.one_turn.ensures.kept ∙ c.loop.invariant.kept;
}

pub returns-clause-works : goal.returns-clause-works
returns-clause-works g c = more _ _ _ _ _ _ _ _ _ _ _ _ _ _ _ _ c.one_turn.ensures.last c.loop.invariant.works c.one_turn.ensures.works

pub returns-clause-stays : goal.returns-clause-stays
returns-clause-stays g c = staying _ _ _ c.loop.invariant.stays c.one_turn.ensures.stays

pub returns-clause-last : goal.returns-clause-last
returns-clause-last g c = lasting _ _ _ c.loop.invariant.last c.one_turn.ensures.last
