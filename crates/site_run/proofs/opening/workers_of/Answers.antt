use Rattle.std.proofs.Common.{◌≡◌, ℕ, ◌<◌, List, [], ◌∷◌, ◌++◌, length, Some, refl, sym, ap, subst, ◌∙◌, arith, append_assoc, length-append, rules, get_or}
use Rattle.std.specs.Prelude.{slice_get}
use Rattle.plant_book.specs.Port.{PortRecord}
use Rattle.plant_book.specs.Site.{SiteRecord, inverters}
use Rattle.site_config.specs.SiteFile.{SiteFileRecord}
use Rattle.inverter_worker.specs.declared.job.Job.{Job}
use Rattle.worker_turn.specs.Worker.{WorkerRecord, new_worker}
use Rattle.site_run.specs.Run.{IsJobOf, IsSeated, AreSeated}
use Rattle.site_run.proofs.Seats.{get_seam, get_is, pushed, no_worker, one_more}
use Rattle.site_run.proofs.opening.workers_of.Goals as goal

-- the file of these arguments
abbrev file_of : SiteRecord → List PortRecord → (renew pause wait : ℕ) → SiteFileRecord
file_of site ports renew pause wait = record { site = site; ports = ports; renew = renew; pause = pause; wait = wait }

pub loop-port-init : goal.loop-port-init
loop-port-init c = (
  tt,
  tt,
  search rules,
  ap length (sym c.new-workers.ensures.items),
  subst (λ (ws : List WorkerRecord). AreSeated (file_of c.args.site.now c.args.ports.items c.args.pace.renew c.args.pace.pause c.args.pace.wait) c.args.turns (length ws) ws) (sym c.new-workers.ensures.items)
      (no_worker (file_of c.args.site.now c.args.ports.items c.args.pace.renew c.args.pace.pause c.args.pace.wait) c.args.turns),
)

-- there are fewer workers than ports
pub overflow_cast-job : goal.overflow_cast-job
overflow_cast-job c =
    let rest : c.args.ports.items ≡ c.loop-port.yielded ++ c.in-Some.port ∷ c.next.new.self.rest.items =
    c.loop-port.invariant.2 ∙ ap (λ (x : List PortRecord). c.loop-port.yielded ++ x) c.in-Some.ensures.steps.0 in
    omega (arith, c.requires.few, c.requires.ports, ap length rest, length-append c.loop-port.yielded (c.in-Some.port ∷ c.next.new.self.rest.items), c.loop-port.invariant.3, c.len-number.ensures)

pub loop-port-preserved : goal.loop-port-preserved
loop-port-preserved c =
    let file : SiteFileRecord = file_of c.args.site.now c.args.ports.items c.args.pace.renew c.args.pace.pause c.args.pace.wait in
    let workers : List WorkerRecord = c.loop-port.workers.items in
    let rest : c.args.ports.items ≡ c.loop-port.yielded ++ c.in-Some.port ∷ c.next.new.self.rest.items =
    c.loop-port.invariant.2 ∙ ap (λ (x : List PortRecord). c.loop-port.yielded ++ x) c.in-Some.ensures.steps.0 in
    let more : c.push.new.self.items ≡ workers ++ c.new.result ∷ [] =
    c.push.ensures.items ∙ pushed c.push.result (workers ++ c.new.result ∷ []) workers (sym c.is_err.ensures.value ∙ c.if-is_err.false) in
    let number : c.len-number.result ≡ length workers = search rules in
    let within : length workers < length c.args.site.now.units =
    omega (arith, c.requires.ports, ap length rest, length-append c.loop-port.yielded (c.in-Some.port ∷ c.next.new.self.rest.items), c.loop-port.invariant.3) in
    let unit : slice_get c.args.site.now.units (length workers) ≡ Some c.index.result.now = get_is c.args.site.now.units (length workers) c.index.result.now within
    (c.index.ensures ∙ ap (λ (n : ℕ). get_or c.site.inside.units.items n c.index.result.now) number ∙ ap (λ (s : SiteRecord). get_or s.units (length workers) c.index.result.now) c.site.view_is) in
    let port : slice_get c.args.ports.items (length workers) ≡ Some c.in-Some.port =
    ap (λ (x : List PortRecord). slice_get x (length workers)) rest ∙ ap (λ (n : ℕ). slice_get (c.loop-port.yielded ++ c.in-Some.port ∷ c.next.new.self.rest.items) n) (sym c.loop-port.invariant.3)
    ∙ get_seam c.loop-port.yielded c.next.new.self.rest.items c.in-Some.port in
    let job : Job = record {
      inverter = c.len-number.result;
      unit = c.index.result.now;
      port = c.in-Some.port;
      rules = c.site.inside.rules;
      renew = c.args.pace.renew;
      pause = c.args.pace.pause;
      wait = c.args.pace.wait;
    } in
    let its : c.new.result.job ≡ job = ap (λ (w : WorkerRecord). w.job) c.new.ensures in
    let of_file : IsJobOf file (length workers) job = record {
      inverter = number;
      unit = unit;
      port = port;
      rules = ap (λ (s : SiteRecord). s.rules) c.site.view_is;
      renew = refl;
      pause = refl;
      wait = refl;
    } in
    let seated : IsSeated file c.args.turns (length workers) c.new.result = record {
      job = subst (λ (j : Job). IsJobOf file (length workers) j) (sym its) of_file;
      new = c.new.ensures ∙ ap (λ (j : Job). new_worker j c.args.turns) (sym its);
    } in (
      tt,
      tt,
      rest ∙ sym (append_assoc c.loop-port.yielded (c.in-Some.port ∷ []) c.next.new.self.rest.items),
      omega (arith, length-append c.loop-port.yielded (c.in-Some.port ∷ []), ap length more, length-append workers (c.new.result ∷ []), c.loop-port.invariant.3),
      subst (λ (ws : List WorkerRecord). AreSeated file c.args.turns (length ws) ws) (sym more) (one_more file c.args.turns workers c.new.result c.loop-port.invariant.4 seated),
    )

pub returns : goal.returns
returns c =
    let file : SiteFileRecord = file_of c.args.site.now c.args.ports.items c.args.pace.renew c.args.pace.pause c.args.pace.wait in
    let workers : List WorkerRecord = c.loop-port.workers.items in
    let count : length workers ≡ inverters c.args.site.now =
    omega (arith, c.requires.ports, ap length c.loop-port.invariant.2, length-append c.loop-port.yielded c.loop-port.port-iterator.rest.items, c.loop-port.invariant.3, c.in-None.ensures.steps.0, c.loop-port.port-iterator.rest.ok) in
    subst (λ (n : ℕ). AreSeated file c.args.turns n workers) count c.loop-port.invariant.4
