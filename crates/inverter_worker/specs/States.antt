-- What the rows of the table test, and what they change of a state.
use Rattle.std.specs.Prelude.{ℕ, ◌+◌, ◌-◌, Bool, true, false, not, ◌&&◌, ◌||◌, ◌==◌, nat_le, Option, Some, None}
use Rattle.plant_book.specs.declared.call.Write as writes
use Rattle.inverter_worker.specs.declared.job.Job.{Job}
use Rattle.inverter_worker.specs.declared.state.State.{State}
use Rattle.inverter_worker.specs.declared.state.Step.{Step}
use Rattle.inverter_worker.specs.declared.output.Output.{Output}

-- Whether a limit is to be asked for at this reading of the clock: none was sent on this link, the last one
-- was another, or it is to be renewed, counted from the moment of its grant.
abbrev pub due : Job → Option writes.Write → (clock raw : ℕ) → Bool
due job None clock raw = true
due job (Some last) clock raw = not (last.raw == raw) || nat_le (last.at + job.renew) clock

-- whether a reading of the clock lies in the send window of a write
abbrev pub in_window : Job → writes.Write → (clock : ℕ) → Bool
in_window job write clock = nat_le write.at clock && nat_le clock (write.at + job.rules.send)

-- a row: the next step, and the output
abbrev pub row_to : State → Step → Output → Option (State × Output)
row_to state step output = Some (record state { step = step }, output)

abbrev pub one_turn_less : State → State
one_turn_less state = record state { turns = state.turns - 1 }

-- a link is up, and nothing was sent on it
abbrev pub with_link : State → State
with_link state = record state { up = true; last = None }

-- the link is down
abbrev pub without_link : State → State
without_link state = record state { up = false; last = None }

-- the link is down for good
abbrev pub with_link_down : State → State
with_link_down state = record state { up = false }

-- a write was sent on this link
abbrev pub with_last : State → writes.Write → State
with_last state write = record state { last = Some write; skipped = 0 }

-- no frame was passed over in this wait, or one more
abbrev pub with_none_skipped : State → State
with_none_skipped state = record state { skipped = 0 }

abbrev pub with_one_more_skipped : State → State
with_one_more_skipped state = record state { skipped = state.skipped + 1 }
