-- What a reply makes of each stage.
use Rattle.std.specs.Prelude.{ℕ, ℤ, pos, ◌==◌, ◌&&◌, List, length, Option, Some, None, Result, Ok, Err, if◌then◌else◌}
use Rattle.std.specs.Option.{option_map_or, option_or}
use Rattle.std.specs.Ordering.{int_eq}
use Rattle.modbus_pdu.specs.declared.pdu.Reply.{Reply}
use Rattle.modbus_pdu.specs.declared.pdu.Reply.TheVariants as reply
use Rattle.limiter_num.specs.declared.rating.Point.{Point}
use Rattle.limiter_num.specs.declared.rating.Point.TheVariants as point
use Rattle.der_models.specs.Models.{raw_wmax, raw_wsf, raw_psf}
use Rattle.plant_book.specs.declared.site.Unit as units
use Rattle.plant_book.specs.Port.{PortRecord}
use Rattle.model_discovery.specs.declared.found.Found.{Found}
use Rattle.model_discovery.specs.Map.{Exception}
use Rattle.model_discovery.specs.Chain.{first_of}
use Rattle.model_discovery.specs.WalkState.{Place, Seeking, Reading, Finished, Failed, WalkState, walk_after, registers}
use Rattle.readback.specs.declared.judging.Judged.{Judged}
use Rattle.readback.specs.declared.judging.Judged.TheVariants as judged
use Rattle.readback.specs.Frames.{limit_address}
use Rattle.readback.specs.Judging.{reply_judgement}
use Rattle.commissioning.specs.declared.fault.CommissionFault.{CommissionFault}
use Rattle.commissioning.specs.declared.fault.CommissionFault.TheVariants as fault
use Rattle.commissioning.specs.declared.found.Record702.{Record702}
use Rattle.commissioning.specs.declared.target.Target.{Target}
use Rattle.commissioning.specs.Stage.{Stage, Discovering, ReadingCapacity, ReadingControls, WritingFloor, ReadingBack, Commissioned, Refused}

-- what comes to a read of so many registers: these, or an exception to function 03; anything else wasn't asked for
abbrev pub block_of : (count : ℕ) → Option Reply → Result (List ℕ) CommissionFault
block_of count (Some (reply.Regs values)) = if length values == count then Ok values else Err fault.WrongReply
block_of count (Some (reply.Exception function code)) =
    Err (if function == 3 then fault.Exception code else fault.WrongReply)
block_of count (Some (reply.Wrote start written)) = Err fault.WrongReply
block_of count None = Err fault.WrongReply

-- where the first model of an identifier stands; a walk is finished only where there are a 702 and a 704
abbrev pub start_of : ℕ → List Found → ℕ
start_of id models = option_map_or (λ model. model.start) (first_of id models) 0

-- a walk that was told an answer: it has failed, it has found its chain, or it goes on
abbrev pub walk_stage : Place → List Found → Stage
walk_stage (Failed error) models = Refused (fault.Walk error) None
walk_stage Finished models = ReadingCapacity (start_of 702 models) (start_of 704 models)
walk_stage (Seeking base left) models = Discovering (record { place = Seeking base left; models = models })
walk_stage (Reading next) models = Discovering (record { place = Reading next; models = models })

abbrev pub walked : WalkState → Stage
walked walk = walk_stage walk.place walk.models

-- a walk's read is answered by two registers or an exception, which the walk is told
abbrev pub discovered : WalkState → Result (List ℕ) CommissionFault → Stage
discovered walk (Ok values) = walked (walk_after walk (registers values))
discovered walk (Err (fault.Exception code)) = walked (walk_after walk (Exception code))
discovered walk (Err error) = Refused error None

-- the block of the 702: WMax and W_SF as they stand in their registers
abbrev pub capacity_read : (base : ℕ) → Result (List ℕ) CommissionFault → Stage
capacity_read base (Ok values) = ReadingControls base (raw_wmax values) (raw_wsf values)
capacity_read base (Err error) = Refused error None

-- a point that isn't as the site file has it
abbrev pub unlike : Point → (wanted found : ℤ) → Option CommissionFault
unlike at wanted found = if int_eq wanted found then None else Some (fault.Unfit at wanted found)

-- the first of the points that isn't: the base, WMax, W_SF, WMaxLimPct_SF
abbrev pub misfit : units.Unit → PortRecord → Record702 → Option CommissionFault
misfit unit port found =
    option_or (option_or (option_or
    (unlike point.Base (pos port.base) (pos found.base))
    (unlike point.WMax (pos unit.rating.wmax) (pos found.wmax)))
    (unlike point.WSf unit.rating.wsf found.wsf))
    (unlike point.PctSf unit.rating.psf found.psf)

abbrev pub compared : units.Unit → PortRecord → Record702 → Stage
compared unit port found =
    option_map_or (λ error. Refused error (Some found)) (misfit unit port found) (WritingFloor found)

-- the block of the 704: WMaxLimPct_SF as it stands in its register
abbrev pub controls_read :
    units.Unit → PortRecord → (base wmax : ℕ) → (wsf : ℤ) → Result (List ℕ) CommissionFault → Stage
controls_read unit port base wmax wsf (Ok values) =
    compared unit port (record { base = base; wmax = wmax; wsf = wsf; psf = raw_psf values })
controls_read unit port base wmax wsf (Err error) = Refused error None

-- the six registers of the limit were written, or the write was refused by an exception to function 16
abbrev pub floor_written : PortRecord → Record702 → Option Reply → Stage
floor_written port found (Some (reply.Wrote start count)) =
    if (start == limit_address port) && (count == 6) then ReadingBack found else Refused fault.WrongReply (Some found)
floor_written port found (Some (reply.Exception function code)) =
    Refused (if function == 16 then fault.Exception code else fault.WrongReply) (Some found)
floor_written port found (Some (reply.Regs values)) = Refused fault.WrongReply (Some found)
floor_written port found None = Refused fault.WrongReply (Some found)

-- the read-back shows the floor
abbrev pub read_back : (floor : ℕ) → Record702 → Judged → Stage
read_back floor found (judged.Shows raw) =
    if raw == floor then Commissioned found else Refused (fault.Unfit point.Pct (pos floor) (pos raw)) (Some found)
read_back floor found (judged.Differs at wanted shown) = Refused (fault.Unfit at (pos wanted) (pos shown)) (Some found)
read_back floor found (judged.Exception code) = Refused (fault.Exception code) (Some found)
read_back floor found judged.WrongReply = Refused fault.WrongReply (Some found)
read_back floor found (judged.WrongNumber number) = Refused fault.WrongReply (Some found)
read_back floor found (judged.WrongUnit unit) = Refused fault.WrongReply (Some found)

-- the stage behind a reply to what is asked; none where what came is no reply to it
abbrev pub stage_after : Target → Stage → Option Reply → Stage
stage_after target (Discovering walk) answer = discovered walk (block_of 2 answer)
stage_after target (ReadingCapacity start base) answer = capacity_read base (block_of 46 answer)
stage_after target (ReadingControls base wmax wsf) answer =
    controls_read target.unit target.port base wmax wsf (block_of 55 answer)
stage_after target (WritingFloor found) answer = floor_written target.port found answer
stage_after target (ReadingBack found) answer =
    read_back target.unit.floor found (reply_judgement target.unit.floor target.rules.timer answer)
stage_after target (Commissioned found) answer = Commissioned found
stage_after target (Refused error found) answer = Refused error found
