use Rattle.std.proofs.Common.{◌≡◌, ◌≤◌, ℕ, length, take, drop}
use Rattle.std.specs.Option.{option_map}
use Rattle.world_traits.specs.Links.{with_bytes}
use Rattle.world_traits.proofs.dialer.send_whole.Given as goal

-- no send failed, a front of the bytes was sent, and the rest is what is left
abbrev pub invariant-loop-rest : goal.invariant-loop-rest
invariant-loop-rest g l = record {
  kept : g.N.Dialer.faults l.dialer ≡ g.N.Dialer.faults l.fn.dialer;
  front : (count : ℕ) × (count ≤ length l.bytes) × (l.rest ≡ drop count l.bytes)
      × (g.N.Dialer.links l.dialer ≡ option_map (with_bytes (take count l.bytes)) (g.N.Dialer.links l.fn.dialer));
}

abbrev pub decreases-loop-rest : goal.decreases-loop-rest
decreases-loop-rest g l = length l.rest
