use Rattle.run_command.proofs.Runs as said
use Rattle.run_command.proofs.laws.what_a_run_says.Goals as goal

pub returns : goal.returns
returns g c = record {
  causes = λ may_give turns read site console output dialers dialers_now ended end.
      said.causes g.N.Dialer.links g.N.Dialer.faults may_give turns read site console output dialers dialers_now ended end;
  write_fault = λ may_give turns read site console output dialers dialers_now end.
      said.write_fault g.N.Dialer.links g.N.Dialer.faults may_give turns read site console output dialers dialers_now end;
  not_refused = λ may_give turns read site console output dialers dialers_now fault end.
      said.not_refused g.N.Dialer.links g.N.Dialer.faults may_give turns read site console output dialers dialers_now fault end;
  safe_life = λ may_give turns read site console output dialers dialers_now ended end is.
      said.safe_life g.N.Dialer.links g.N.Dialer.faults may_give turns read site console output dialers dialers_now
      (λ file. c.runs_replay_as_their_lives.ensures may_give file turns dialers dialers_now) ended end is;
  book_full = λ may_give turns read site console output dialers dialers_now calls end.
      said.book_full g.N.Dialer.links g.N.Dialer.faults may_give turns read site console output dialers dialers_now
      (λ file. c.runs_replay_as_their_lives.ensures may_give file turns dialers dialers_now) calls end;
}
