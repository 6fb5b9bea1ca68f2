-- Which calls are made through a desk, and which replies a call may get.
use Rattle.std.specs.Prelude.{◌≡◌}
use Rattle.plant_book.specs.declared.call.Call.{Call}
use Rattle.plant_book.specs.declared.call.Call.TheVariants as call
use Rattle.plant_book.specs.declared.call.Reply.{Reply}
use Rattle.plant_book.specs.declared.call.Reply.TheVariants as reply

-- a Back, which only the release of a ticket makes
abbrev pub IsBack : Call → Type 0
IsBack (call.Back at inverter link number) = Unit {0}
IsBack _ = ⊥

-- A reply that an entered call may have. A Link, a Tick, a Want and a Stop have one kind each. A grant is of the
-- inverter, the raw percentage and the moment of its Ask, and a numbered read of the inverter and the moment of its
-- Read; no other call has these.
abbrev pub IsReplyTo : Call → Reply → Type 0
IsReplyTo (call.Link at inverter) (reply.Linked number) = Unit {0}
IsReplyTo (call.Link at inverter) _ = ⊥
IsReplyTo (call.Ask at inverter raw) (reply.Granted write) =
    (write.inverter ≡ inverter) × (write.raw ≡ raw) × (write.at ≡ at)
IsReplyTo (call.Read at inverter) (reply.ReadAs read) = (read.inverter ≡ inverter) × (read.at ≡ at)
IsReplyTo (call.Want at inverter mw) reply.Taken = Unit {0}
IsReplyTo (call.Want at inverter mw) _ = ⊥
IsReplyTo (call.Tick at) (reply.Total total) = Unit {0}
IsReplyTo (call.Tick at) _ = ⊥
IsReplyTo (call.Stop at) reply.Taken = Unit {0}
IsReplyTo (call.Stop at) _ = ⊥
IsReplyTo (call.Cap at mw) (reply.CapSet cap ceiling) = Unit {0}
IsReplyTo (call.Cap at mw) (reply.CapOut least most) = Unit {0}
IsReplyTo (call.Cap at mw) _ = ⊥
IsReplyTo _ (reply.Granted write) = ⊥
IsReplyTo _ (reply.ReadAs read) = ⊥
IsReplyTo _ _ = Unit {0}
