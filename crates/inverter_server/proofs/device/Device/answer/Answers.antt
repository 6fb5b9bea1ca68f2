use Rattle.std.proofs.Common.{ℕ, IfSome, sym, subst}
use Rattle.inverter_server.specs.Answers.{IsAnsweredBy}
use Rattle.inverter_server.specs.Turns.{DeviceState}
use Rattle.inverter_server.proofs.device.Device.answer.Goals as goal

pub returns-clause-answered : goal.returns-clause-answered
returns-clause-answered g c =
    let P : ℕ → Type 0 = λ at. IfSome c.answer.result (λ answer. IsAnsweredBy c.self.inside.bank at c.args.frame.now answer c.answer.new.bank) in
    let h : P c.now-now.new.self.latest = subst P (sym c.now-now.ensures.latest) c.answer.ensures.answered in
    let Q : DeviceState _ → Type 0 = λ device. IfSome c.answer.result (λ answer. IsAnsweredBy device.bank c.now-now.new.self.latest c.args.frame.now answer c.answer.new.bank) in
    subst Q c.self.view_is h
