use Rattle.std.proofs.Common.{refl}
use Rattle.device_dialers.proofs.Delivering.{delivered}
use Rattle.device_dialers.proofs.device_dialer.DeviceDialer.deliver.Goals as goal

pub returns-in-Listens-clause-ok : goal.returns-in-Listens-clause-ok
returns-in-Listens-clause-ok g c =
    delivered g.K.Clock.may_give _ _ _ _ _ c.self.view_is c.in_ok-send.ensures.ok c.hear-self-inside.ensures.clock refl refl
    c.in-Listens.is c.make_room.ensures.left c.hear-self-inside.ensures.heard
