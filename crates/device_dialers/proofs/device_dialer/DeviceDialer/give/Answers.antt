use Rattle.device_dialers.proofs.device_dialer.DeviceDialer.give.Goals as goal

pub returns-then-is_empty-clause-fits : goal.returns-then-is_empty-clause-fits
returns-then-is_empty-clause-fits g c = c.tell.ensures.fits c.args.into.now
