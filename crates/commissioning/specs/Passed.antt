-- What has passed over the link when a commissioning stands at a stage: which requests were asked, in which order,
-- and what was replied to each.
use Rattle.std.specs.Prelude.{◌≡◌, ℕ, ℤ, ◌+◌, List, [], ◌∷◌, ◌++◌, length, map, Option, Some, IsSome}
use Rattle.modbus_pdu.specs.declared.pdu.Reply.{Reply}
use Rattle.modbus_pdu.specs.declared.pdu.Reply.TheVariants as reply
use Rattle.mbap_frames.specs.declared.frame.Frame.{Frame}
use Rattle.der_models.specs.Models.{raw_wmax, raw_wsf, raw_psf}
use Rattle.model_discovery.specs.declared.found.Found.{Found}
use Rattle.model_discovery.specs.declared.walk.Next.TheVariants.{Read}
use Rattle.model_discovery.specs.Map.{Answer, Exception}
use Rattle.model_discovery.specs.Chain.{first_of}
use Rattle.model_discovery.specs.WalkState.{Finished, WalkState, next_read, walk_after, registers}
use Rattle.readback.specs.declared.judging.Judged.TheVariants as judged
use Rattle.readback.specs.Frames.{read_pdu, limit_address, limit_pdu, read_back_pdu}
use Rattle.readback.specs.Replies.{reply_of}
use Rattle.readback.specs.Judging.{reply_judgement}
use Rattle.commissioning.specs.declared.fault.CommissionFault.{CommissionFault}
use Rattle.commissioning.specs.declared.found.Record702.{Record702}
use Rattle.commissioning.specs.declared.target.Target.{Target}
use Rattle.commissioning.specs.Stage.{Stage, Discovering, ReadingCapacity, ReadingControls, WritingFloor, ReadingBack, Commissioned, Refused}
use Rattle.commissioning.specs.Asking.{first_walk, wanted_pdu, request_frame, asked_pdu}
use Rattle.commissioning.specs.Replies.{stage_after}
use Rattle.commissioning.specs.Taking.{reply_in}
use Rattle.commissioning.specs.Runs.{Exchange, standing_after, exchanges}

-- the exchange behind others: requests are numbered from 1
abbrev pub exchange_behind : Target → List Exchange → List ℕ → Frame → Exchange
exchange_behind target before pdu came = record { request = request_frame target (length before + 1) pdu; reply = came }

-- All are those before and one more: this PDU was asked next, and this reply came to it, with the number of the
-- request and from the unit of the port.
pub record Follows
    (target : Target) (before : List Exchange) (pdu : List ℕ) (answer : Reply) (all : List Exchange) : Type 0 where
  pub came : Frame
  pub exchange : all ≡ before ++ exchange_behind target before pdu came ∷ []
  pub number : came.transaction ≡ length before + 1
  pub unit : came.unit ≡ target.port.unit
  pub reply : reply_of came.pdu ≡ Some answer

-- what a walk is told by the reply to its read: two registers, or an exception to function 03
abbrev pub Tells : Reply → Answer → Type 0
Tells (reply.Regs values) answer = (length values ≡ 2) × (answer ≡ registers values)
Tells (reply.Exception function code) answer = (function ≡ 3) × (answer ≡ Exception code)
Tells (reply.Wrote start count) answer = ⊥

-- The reads of a walk from its start on: each is the one that it wanted, and it was told what came.
pub data IsWalked (target : Target) : List Exchange → WalkState → Type 0 where
  begins : IsWalked target [] first_walk
  goes_on : {before all : List Exchange} {walk after : WalkState} (start count : ℕ) (heard : Reply) (answer : Answer)
      → IsWalked target before walk → next_read walk.place ≡ Read start count
      → Follows target before (read_pdu start count) heard all → Tells heard answer → after ≡ walk_after walk answer
      → IsWalked target all after

-- The walk has found its chain, and in it the first 702 and the first 704.
pub record IsDiscovered (target : Target) (all : List Exchange) (start base : ℕ) : Type 0 where
  pub models : List Found
  pub walked : IsWalked target all (record { place = Finished; models = models })
  pub capacity : Found
  pub first_capacity : first_of 702 models ≡ Some capacity
  pub capacity_start : start ≡ capacity.start
  pub controls : Found
  pub first_controls : first_of 704 models ≡ Some controls
  pub controls_start : base ≡ controls.start

-- Then 46 registers of the 702 have come.
pub record HasCapacity (target : Target) (all : List Exchange) (base wmax : ℕ) (wsf : ℤ) : Type 0 where
  pub before : List Exchange
  pub start : ℕ
  pub discovered : IsDiscovered target before start base
  pub values : List ℕ
  pub block : Follows target before (read_pdu start 46) (reply.Regs values) all
  pub size : length values ≡ 46
  pub wmax_is : wmax ≡ raw_wmax values
  pub wsf_is : wsf ≡ raw_wsf values

-- Then 55 registers of the 704 have come.
pub record HasControls (target : Target) (all : List Exchange) (found : Record702) : Type 0 where
  pub before : List Exchange
  pub capacity : HasCapacity target before found.base found.wmax found.wsf
  pub values : List ℕ
  pub block : Follows target before (read_pdu found.base 55) (reply.Regs values) all
  pub size : length values ≡ 55
  pub psf_is : found.psf ≡ raw_psf values

-- What was found is what the site file has.
pub record IsFit (target : Target) (found : Record702) : Type 0 where
  pub base : found.base ≡ target.port.base
  pub wmax : found.wmax ≡ target.unit.rating.wmax
  pub wsf : found.wsf ≡ target.unit.rating.wsf
  pub psf : found.psf ≡ target.unit.rating.psf

-- Then the floor was written, of an inverter that is fit.
pub record IsWritten (target : Target) (all : List Exchange) (found : Record702) : Type 0 where
  pub before : List Exchange
  pub controls : HasControls target before found
  pub fit : IsFit target found
  pub write : Follows target before (limit_pdu target.unit.floor target.unit target.port target.rules)
      (reply.Wrote (limit_address target.port) 6) all

-- Then it was read back, and shows the floor.
pub record IsCommissioned (target : Target) (all : List Exchange) (found : Record702) : Type 0 where
  pub before : List Exchange
  pub written : IsWritten target before found
  pub answer : Reply
  pub read_back : Follows target before (read_back_pdu target.port) answer all
  pub shows : reply_judgement target.unit.floor target.rules.timer (Some answer) ≡ judged.Shows target.unit.floor

-- what has passed when a request is asked
abbrev pub Reached : Target → List Exchange → Stage → Type 0
Reached target all (Discovering walk) = IsWalked target all walk × IsSome (wanted_pdu (next_read walk.place))
Reached target all (ReadingCapacity start base) = IsDiscovered target all start base
Reached target all (ReadingControls base wmax wsf) = HasCapacity target all base wmax wsf
Reached target all (WritingFloor found) = HasControls target all found × IsFit target found
Reached target all (ReadingBack found) = IsWritten target all found
Reached target all _ = ⊥

-- The last request was asked at such a stage, and what came to it has led to this fault.
pub record IsRefused
    (target : Target) (all : List Exchange) (fault : CommissionFault) (found : Option Record702) : Type 0 where
  pub before : List Exchange
  pub stage : Stage
  pub reached : Reached target before stage
  pub pdu : List ℕ
  pub asks : asked_pdu target stage ≡ Some pdu
  pub came : Frame
  pub exchange : all ≡ before ++ exchange_behind target before pdu came ∷ []
  pub cause : stage_after target stage (reply_in target (length before + 1) came) ≡ Refused fault found

-- what has passed when a commissioning stands at a stage
abbrev pub Passed : Target → List Exchange → Stage → Type 0
Passed target all (Commissioned found) = IsCommissioned target all found
Passed target all (Refused fault found) = IsRefused target all fault found
Passed target all stage = Reached target all stage

-- a commissioning that was handed the replies of these exchanges has had just these, and stands at this stage
pub record IsAt (target : Target) (all : List Exchange) (stage : Stage) : Type 0 where
  pub standing : standing_after target (map (λ exchange. exchange.reply) all)
      ≡ record { target = target; stage = stage; number = length all + 1; skipped = 0 }
  pub had : exchanges target (map (λ exchange. exchange.reply) all) ≡ all
