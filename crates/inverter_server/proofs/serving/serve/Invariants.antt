use Rattle.std.proofs.Common.{◌≡◌}
use Rattle.std.specs.Option.{ForSome}
use Rattle.mbap_frames.specs.Stream.{IsUnfinished}
use Rattle.inverter_server.specs.Turns.{Stands}
use Rattle.inverter_server.proofs.serving.serve.Given as goal

-- so many turns were made
abbrev pub invariant-loop-made : goal.invariant-loop-made
invariant-loop-made g l = record {
  unfinished : ForSome l.line IsUnfinished;
  clock : l.device.clock ≡ l.clock;
  stands : Stands
      (record {
        may_give = g.K.Clock.may_give l.clock;
        port = l.port;
        state = record { bank = l.fn.bank; links = g.N.Dialer.links l.fn.dialer; faults = g.N.Dialer.faults l.fn.dialer };
      })
      l._made
      (record { bank = l.device.bank; links = g.N.Dialer.links l.dialer; faults = g.N.Dialer.faults l.dialer })
      l.line;
}
