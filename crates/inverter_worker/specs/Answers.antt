-- Which inputs may come of an output.
use Rattle.plant_book.specs.declared.call.Call.{Call}
use Rattle.plant_book.specs.declared.call.Call.TheVariants as call
use Rattle.plant_book.specs.declared.call.Reply.{Reply}
use Rattle.plant_book.specs.declared.call.Reply.TheVariants as reply
use Rattle.inverter_worker.specs.declared.input.Input.{Input}
use Rattle.inverter_worker.specs.declared.input.Input.TheVariants as input
use Rattle.inverter_worker.specs.declared.output.Output.{Output}
use Rattle.inverter_worker.specs.declared.output.Output.TheVariants as output

-- a new link is always entered
abbrev pub IsReplyTo : Call → Reply → Type 0
IsReplyTo (call.Link moment inverter) (reply.Linked number) = Unit {0}
IsReplyTo (call.Link moment inverter) _ = ⊥
IsReplyTo _ _ = Unit {0}

-- whether an input may come of an output
abbrev pub IsAnswerTo : Output → Input → Type 0
IsAnswerTo output.Goal (input.Goal goal) = Unit {0}
IsAnswerTo output.Dial input.DialFailed = Unit {0}
IsAnswerTo output.Dial input.Dialed = Unit {0}
IsAnswerTo output.Now (input.Time clock) = Unit {0}
IsAnswerTo (output.Call call) (input.Reply reply) = IsReplyTo call reply
IsAnswerTo (output.Call call) input.Full = Unit {0}
IsAnswerTo (output.Release write moment) (input.Reply reply) = Unit {0}
IsAnswerTo (output.Release write moment) input.Full = Unit {0}
IsAnswerTo (output.Send request clock) input.SentAll = Unit {0}
IsAnswerTo (output.Send request clock) input.SendFailed = Unit {0}
IsAnswerTo output.Receive (input.Frame frame) = Unit {0}
IsAnswerTo output.Receive input.Quiet = Unit {0}
IsAnswerTo output.Receive input.Closed = Unit {0}
IsAnswerTo output.Receive input.RecvFailed = Unit {0}
IsAnswerTo output.Receive input.BadFrame = Unit {0}
IsAnswerTo output.HangUp input.HungUp = Unit {0}
IsAnswerTo (output.Rest ms) input.Rested = Unit {0}
IsAnswerTo output.Nothing input.NoRoom = Unit {0}
IsAnswerTo output.Nothing input.Go = Unit {0}
IsAnswerTo _ _ = ⊥
