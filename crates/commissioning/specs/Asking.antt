-- What is asked at each stage.
use Rattle.std.specs.Prelude.{ℕ, List, [], ◌∷◌, Option, Some, None, option_map}
use Rattle.mbap_frames.specs.declared.frame.Frame.{Frame}
use Rattle.model_discovery.specs.declared.walk.Next.{Next}
use Rattle.model_discovery.specs.declared.walk.Next.TheVariants.{Read, Done}
use Rattle.model_discovery.specs.WalkState.{WalkState, Seeking, next_read}
use Rattle.readback.specs.Frames.{read_pdu, limit_pdu, read_back_pdu}
use Rattle.commissioning.specs.declared.target.Target.{Target}
use Rattle.commissioning.specs.Stage.{Stage, Discovering, ReadingCapacity, ReadingControls, WritingFloor, ReadingBack, Commissioned, Refused, Standing}

-- a commissioning begins with a walk from the first base on, and its first request is number 1
abbrev pub first_walk : WalkState
first_walk = record { place = Seeking 40000 (50000 ∷ 0 ∷ []); models = [] }

abbrev pub start : Target → Standing
start target = record { target = target; stage = Discovering first_walk; number = 1; skipped = 0 }

-- the read that a walk wants
abbrev pub wanted_pdu : Next → Option (List ℕ)
wanted_pdu (Read start count) = Some (read_pdu start count)
wanted_pdu Done = None

-- The reads of the walk; 46 registers from the start of the 702; 55 from the base; the write of the floor, which
-- reverts to the floor; the read-back of the eight registers of the limit.
abbrev pub asked_pdu : Target → Stage → Option (List ℕ)
asked_pdu target (Discovering walk) = wanted_pdu (next_read walk.place)
asked_pdu target (ReadingCapacity start base) = Some (read_pdu start 46)
asked_pdu target (ReadingControls base wmax wsf) = Some (read_pdu base 55)
asked_pdu target (WritingFloor found) = Some (limit_pdu target.unit.floor target.unit target.port target.rules)
asked_pdu target (ReadingBack found) = Some (read_back_pdu target.port)
asked_pdu target (Commissioned found) = None
asked_pdu target (Refused fault found) = None

-- the frame of a request to the inverter, with its number as the transaction
abbrev pub request_frame : Target → ℕ → List ℕ → Frame
request_frame target number pdu = record { transaction = number; unit = target.port.unit; pdu = pdu }

-- the request that is asked
abbrev pub asked : Standing → Option Frame
asked standing = option_map (request_frame standing.target standing.number) (asked_pdu standing.target standing.stage)
