use Rattle.std.proofs.Common.{◌∙◌, sym, ap, refl}
use Rattle.plant_book.specs.Port.{PortRecord}
use Rattle.inverter_server.proofs.Turning.{attended, missed, made}
use Rattle.inverter_server.proofs.serving.turn.Goals as goal

pub returns-in-Some-clause-stands : goal.returns-in-Some-clause-stands
returns-in-Some-clause-stands g c = λ start turns given port stands.
    attended start _ turns _ _ _ _ _ given c.in-Some.is stands c.attend.ensures.attended

pub returns-in-Ok-clause-stands : goal.returns-in-Ok-clause-stands
returns-in-Ok-clause-stands g c = λ start turns given port stands.
    let is = c.port.view_is ∙ sym port in
    let host = c.deref.ensures.0 ∙ ap (λ (p : PortRecord). p.host) is in
    made start turns _ _ _ _ _ _ c.in-None.is stands c.new.ensures host (ap (λ (p : PortRecord). p.port) is)
    refl c.in-Ok.ensures.links c.in-Ok.ensures.cause.kept

pub returns-in-Err-clause-stands : goal.returns-in-Err-clause-stands
returns-in-Err-clause-stands g c = λ start turns given port stands.
    missed start turns _ _ _ c.in-None.is stands refl c.in-Err.ensures.links c.in-Err.ensures.cause.failed
