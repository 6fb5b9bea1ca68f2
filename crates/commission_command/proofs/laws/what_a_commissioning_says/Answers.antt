use Rattle.commission_command.proofs.Commissioned as said
use Rattle.commission_command.proofs.laws.what_a_commissioning_says.Goals as goal

pub returns : goal.returns
returns c = record {
  site = said.causes;
  no_such_inverter = said.no_such_inverter;
  write_fault = said.write_fault;
  dial = said.dial;
  send = said.send;
  recv = said.recv;
  quiet = said.quiet;
  closed = said.closed;
  bad_frame = said.bad_frame;
  commission_fault = said.commission_fault;
}
