use Rattle.plant_simulator.proofs.Devices.{are_devices}
use Rattle.plant_simulator.proofs.laws.inverters_follow_the_device.Goals as goal

pub returns : goal.returns
returns c = λ seed count steps some few room. are_devices seed count some few steps room
