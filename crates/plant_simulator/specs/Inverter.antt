-- What becomes of one inverter, and of the requests on their way to it.
use Rattle.std.specs.Prelude.{ℕ, ◌+◌, Bool, false, not, ◌&&◌, ◌==◌, nat_le, nat_lt, if◌then◌else◌, List, [], ◌∷◌, ◌++◌, filter, take, drop, Option, Some, None}
use Rattle.std.proofs.Common.{zero, suc}
use Rattle.plant_book.specs.declared.call.Write as writes
use Rattle.plant_book.specs.declared.call.Reply.{Reply}
use Rattle.plant_book.specs.declared.call.Reply.TheVariants as replies
use Rattle.plant_simulator.specs.declared.inverter.Request.{Request}
use Rattle.plant_simulator.specs.declared.inverter.Request.TheVariants as requests
use Rattle.plant_simulator.specs.declared.inverter.OldWrite.{OldWrite}
use Rattle.inverter_sim.specs.HeldLimit.{limit_at}
use Rattle.plant_simulator.specs.World.{InverterRecord}

-- an inverter whose revert moment is at most now holds its floor
abbrev pub reverted : ℕ → InverterRecord → InverterRecord
reverted now its =
    let limit = limit_at 100 now (record { raw = its.held; revert = its.due }) in
    record its { held = limit.raw; due = limit.revert }

-- whether a write is past the last moment at which it may act
abbrev pub is_late : ℕ → writes.Write → Bool
is_late now write = nat_lt (write.at + 5000) now

abbrev pub is_late_request : ℕ → Request → Bool
is_late_request now (requests.Write write) = is_late now write
is_late_request now (requests.Read read) = false

-- an inverter without the writes that are too late
abbrev pub without_late : ℕ → InverterRecord → InverterRecord
without_late now its = record its {
  line = filter (λ request. not (is_late_request now request)) its.line;
  strays = filter (λ write. not (is_late now write.write)) its.strays;
}

-- an inverter at a later moment
unfoldable pub inverter_at : ℕ → InverterRecord → InverterRecord
inverter_at now its = without_late now (reverted now its)

-- the request that a reply grants, or none
abbrev pub requested : Reply → List Request
requested (replies.Granted write) = requests.Write write ∷ []
requested (replies.ReadAs read) = requests.Read read ∷ []
requested _ = []

-- an inverter whose line the reply's request has joined
unfoldable pub queued : Reply → InverterRecord → InverterRecord
queued reply its = record its { line = its.line ++ requested reply }

-- an inverter that holds a raw percentage until it reverts
unfoldable pub holding : ℕ → ℕ → InverterRecord → InverterRecord
holding raw revert its = record its { held = raw; due = Some revert }

-- the writes of a line, which are old in a life or on a link to come
abbrev pub old_writes : ℕ → List Request → List OldWrite
old_writes life [] = []
old_writes life (requests.Write write ∷ line) = record { life = life; write = write } ∷ old_writes life line
old_writes life (requests.Read read ∷ line) = old_writes life line

-- an inverter whose line is emptied
unfoldable pub emptied : ℕ → InverterRecord → InverterRecord
emptied life its = record its { line = []; strays = its.strays ++ old_writes life its.line }

-- an inverter without the first request of its line
unfoldable pub without_first : InverterRecord → InverterRecord
without_first its = record its { line = drop 1 its.line }

-- whether two old writes were granted on one link of one life
abbrev pub is_of_link : OldWrite → OldWrite → Bool
is_of_link one other = (other.life == one.life) && (other.write.link == one.write.link)

-- an inverter without the old write at a place and the earlier ones of its link and life
unfoldable pub without_old : ℕ → OldWrite → InverterRecord → InverterRecord
without_old place chosen its = record its {
  strays = filter (λ other. not (is_of_link chosen other)) (take (place + 1) its.strays) ++ drop (place + 1) its.strays;
}

-- the inverters with the one of this number changed
abbrev pub changed_at : ℕ → (InverterRecord → InverterRecord) → List InverterRecord → List InverterRecord
changed_at number change [] = []
changed_at zero change (its ∷ inverters) = change its ∷ inverters
changed_at (suc number) change (its ∷ inverters) = its ∷ changed_at number change inverters
