-- What a worker did from its first turn on agrees with the book and with its dialer.
use Rattle.std.proofs.Common.{◌≡◌, ℕ, Bool, List, [], ◌++◌, length, Option, sym, ap, subst, ◌∙◌}
use Rattle.world_traits.specs.Links.{Links}
use Rattle.plant_book.specs.declared.book.Entry.{Entry}
use Rattle.plant_book.specs.Book.{BookRecord}
use Rattle.inverter_worker.specs.declared.output.Output.TheVariants as output
use Rattle.inverter_worker.specs.declared.state.State.{State}
use Rattle.inverter_worker.specs.declared.state.Step.TheVariants.{Ready}
use Rattle.inverter_worker.specs.Runs.{RunStep, LeadsTo}
use Rattle.inverter_worker.specs.Turns.{readings}
use Rattle.inverter_worker.proofs.Runs.{sent_in_time}
use Rattle.worker_turn.specs.Doing.{World, AreDone}
use Rattle.worker_turn.specs.Worker.{WorkerRecord}
use Rattle.worker_turn.specs.Agreeing.{AreEntriesOf, calls_made}
use Rattle.worker_turn.proofs.Agreeing.{entered, counted}
use Rattle.worker_turn.proofs.Seeing.{seen_anywhere}
use Rattle.worker_turn.proofs.Whole.{anywhere}
use Rattle.plant_run.specs.Own.{entries_of, own_world}
use Rattle.plant_run.specs.Works.{IsGoalAfter, Works, AreTold}
use Rattle.plant_run.specs.Running.{IsNew}
use Rattle.plant_run.specs.Agreement.{LinksAgree, Agrees}
use Rattle.plant_run.proofs.Linking as linking
use Rattle.plant_run.proofs.Waiting.{waits_follow}
use Rattle.plant_run.proofs.Receiving.{receives_follow}
use Rattle.plant_run.proofs.Numbered.{requests_agree, are_full}

pub agree : (may_give : ℕ → Bool) (opened book : BookRecord) (full : Type 0) (before after : WorkerRecord) (links links_now : Option Links) (faults faults_now : ℕ)
    (works : Works may_give before.job opened book full before after links links_now faults faults_now) → IsNew before → LinksAgree before.job works.run links links_now
agree may_give opened book full before after links links_now faults faults_now works new =
    let P : State → Type 0 = λ state. LeadsTo before.job state works.run after.state in
    linking.links_agree before.job before.state.turns works.run after.state _ _
    (subst P (ap (λ (worker : WorkerRecord). worker.state) new) works.leads) (works.done [])

pub agrees : (may_give : ℕ → Bool) (opened book : BookRecord) (full : Type 0) (before after : WorkerRecord) (links links_now : Option Links) (faults faults_now : ℕ)
    (works : Works may_give before.job opened book full before after links links_now faults faults_now) → IsNew before → opened.entries ≡ []
    → Agrees before.job book full works.run (own_world before.job.inverter opened links faults [] before.unread) (own_world before.job.inverter book links_now faults_now (readings works.run) after.unread)
agrees may_give opened book full before after links links_now faults faults_now works new none =
    let old : World = own_world before.job.inverter opened links faults [] before.unread in
    let now : World = own_world before.job.inverter book links_now faults_now (readings works.run) after.unread in
    let done : AreDone before.job output.Nothing works.run old now = works.done [] in
    let ready : before.state.step ≡ Ready = ap (λ (worker : WorkerRecord). worker.state.step) new in
    let empty : entries_of before.job.inverter opened.entries ≡ [] = ap (entries_of before.job.inverter) none in
    let gained = entered before.job output.Nothing works.run old now done in
    let all : gained.0 ≡ entries_of before.job.inverter book.entries = ap (λ (first : List Entry). first ++ gained.0) (sym empty) ∙ sym gained.1 in
    record {
      calls = subst (λ (entries : List Entry). AreEntriesOf (calls_made output.Nothing works.run) entries) all gained.2;
      links = agree may_give opened book full before after links links_now faults faults_now works new;
      in_window = sent_in_time before.job before.state after.state works.run works.leads;
      requests = λ sofar later is receives.
          anywhere before.job before.state after.state sofar later old now ready
          (subst (λ (run : List RunStep). LeadsTo before.job before.state run after.state) is works.leads)
          (subst (λ (run : List RunStep). AreDone before.job output.Nothing run old now) is done) receives;
      counted = counted before.job output.Nothing works.run old now done;
      goals = subst (λ (n : ℕ). AreTold (IsGoalAfter book) full before.job.inverter output.Nothing works.run n) (ap length empty) works.told;
      sights = λ sofar later at inverter number raw is saw.
          seen_anywhere before.job before.state after.state sofar later at inverter number raw ready
          (subst (λ (run : List RunStep). LeadsTo before.job before.state run after.state) is works.leads) saw;
      receives = receives_follow before.job works.run links links_now
          (agree may_give opened book full before after links links_now faults faults_now works new)
          (waits_follow before.job before.state after.state works.run ready works.leads);
      numbered = λ is.
          requests_agree full before.job book works.run is.answered
          (subst (λ (entries : List Entry). AreEntriesOf (calls_made output.Nothing works.run) entries) all gained.2)
          before.state after.state ready works.leads works.rests
          (are_full (IsGoalAfter book) full before.job.inverter output.Nothing works.run (length (entries_of before.job.inverter opened.entries)) works.told);
    }
