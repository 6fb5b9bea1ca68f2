use Rattle.std.proofs.Common.{◌≡◌, ℕ, Option, sym, ap, subst, ◌∙◌}
use Rattle.std.specs.Option.{option_map}
use Rattle.world_traits.specs.Causes.{HasCause}
use Rattle.world_traits.specs.Links.{Links}
use Rattle.commission_run.specs.Course.{target_of, with_past_link}
use Rattle.commission_run.specs.Ends.{HasReplies, at_dialer}
use Rattle.commission_run.proofs.Complete.{complete, one_link, on_ok, dialed_over}
use Rattle.commission_run.proofs.run.commission.Goals as goal

pub returns-clause-complete : goal.returns-clause-complete
returns-clause-complete g c = λ before link told over replies works wrote.
    let target = target_of c.args.job in
    let course = c.converse-outcome.ensures.course in
    let dialed = sym c.is_err.ensures.value ∙ c.if-is_err.false in
    let ends = dialed_over (g.N.Dialer.links c.args.dialer.now) (g.N.Dialer.links c.dial-dialed.new.self) (g.N.Dialer.links c.converse-outcome.new.dialer) (g.N.Dialer.links c.hang_up.new.self)
    _ _ c.dial-dialed.result course.1 dialed c.dial-dialed.ensures.links course.2 c.hang_up.ensures.links in
    let same : link ≡ course.1 = one_link before link course.1 (sym over ∙ ends ∙ ap (λ (o : Option Links). option_map (with_past_link course.1) o) told) in
    let kept = on_ok c.dial-dialed.result dialed c.dial-dialed.ensures.cause.kept in
    let cause = subst (λ (n : ℕ). HasCause n (g.N.Dialer.faults c.hang_up.new.self) (at_dialer c.converse-outcome.result)) kept
    (subst (λ (n : ℕ). HasCause (g.N.Dialer.faults c.dial-dialed.new.self) n (at_dialer c.converse-outcome.result)) (sym c.hang_up.ensures.faults) c.converse-outcome.ensures.dialer_faults) in
    complete c.converse-outcome.result target c.args.job.inverter course.0 course.1 _ _ _ _ _ _ course.3 (subst (HasReplies target) same replies)
    cause c.converse-outcome.ensures.output_faults works wrote
