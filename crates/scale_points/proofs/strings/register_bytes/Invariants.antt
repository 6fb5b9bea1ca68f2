use Rattle.std.proofs.Common.{◌≡◌, ◌*◌, length, take}
use Rattle.scale_points.specs.Text.{bytes_of}
use Rattle.scale_points.proofs.strings.register_bytes.Given as goal

abbrev pub invariant-loop-register : goal.invariant-loop-register
invariant-loop-register l = (l.bytes.items ≡ bytes_of (take l.register-index l.regs)) × (length l.bytes.items ≡ 2 * l.register-index)
