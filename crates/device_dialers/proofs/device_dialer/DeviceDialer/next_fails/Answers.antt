use Rattle.std.proofs.Common.{◌↔◌, IsTrue, subst}
use Rattle.world_traits.specs.Fakes.{FailsNext}
use Rattle.device_dialers.specs.Device.{DeviceDialerState}
use Rattle.device_dialers.proofs.device_dialer.DeviceDialer.next_fails.Goals as goal

pub returns-clause-listed : goal.returns-clause-listed
returns-clause-listed g c =
    subst (λ (s : DeviceDialerState g.row.K.Denot). IsTrue c.next_fails.result ↔ FailsNext s.schedule) c.self.view_is c.next_fails.ensures.listed
