use Rattle.std.proofs.Common.{subst}
use Rattle.device_dialers.specs.Device.{DeviceDialerState, IsDelivered}
use Rattle.device_dialers.proofs.device_dialer.DeviceDialerDialer.send.Goals as goal

pub returns-in-Ok-clause-ok : goal.returns-in-Ok-clause-ok
returns-in-Ok-clause-ok g c =
    let P : DeviceDialerState _ → Type 0 = λ state. IsDelivered (g.K.Clock.may_give state.clock) c.args.bytes.now state c.deliver.new.self in
    subst P c.if-fails_on_link.ensures.works c.in-Ok.ensures.ok
