-- Each reply leaves fewer requests, and a walk that is gone on with wants a read.
use Rattle.std.proofs.Common.{◌≡◌, ℕ, ◌+◌, ◌-◌, ◌*◌, ◌<◌, ◌≤◌, Bool, true, false, cond, eqb, leb, ℤ, pos, IsSome, List, [], ◌∷◌, length, Option, Some, None, Result, Ok, Err, refl, ap, arith, length-append}
use Rattle.std.proofs.lemmas.Bool.{leb-false}
use Rattle.std.specs.Option.{option_map_or, option_map}
use Rattle.modbus_pdu.specs.declared.pdu.Reply.{Reply}
use Rattle.modbus_pdu.specs.declared.pdu.Reply.TheVariants as reply
use Rattle.limiter_num.specs.declared.rating.Point.TheVariants as point
use Rattle.model_discovery.specs.declared.found.Found.{Found}
use Rattle.model_discovery.specs.declared.fault.WalkFault.{WalkFault}
use Rattle.model_discovery.specs.Map.{Answer, Registers, Exception}
use Rattle.model_discovery.specs.Chain.{is_mark, is_too_short, leaves_map, next_header, model_fault, absent_model}
use Rattle.model_discovery.specs.WalkState.{Place, Seeking, Reading, Finished, Failed, WalkState, place_at_bases, place_at_end, state_after_model, state_after, walk_after, registers}
use Rattle.readback.specs.declared.judging.Judged.{Judged}
use Rattle.readback.specs.declared.judging.Judged.TheVariants as judged
use Rattle.commissioning.specs.declared.fault.CommissionFault.{CommissionFault}
use Rattle.commissioning.specs.declared.fault.CommissionFault.TheVariants as fault
use Rattle.commissioning.specs.declared.found.Record702.{Record702}
use Rattle.commissioning.specs.declared.target.Target.{Target}
use Rattle.commissioning.specs.Stage.{Stage, Discovering, ReadingCapacity, ReadingControls, WritingFloor, ReadingBack, Commissioned, Refused, Standing}
use Rattle.commissioning.specs.Asking.{asked_pdu, asked, request_frame}
use Rattle.commissioning.specs.Replies.{block_of, walk_stage, walked, discovered, capacity_read, controls_read, floor_written, read_back, stage_after}
use Rattle.commissioning.specs.Ending.{reads_left, requests_left, frames_left}
use Rattle.commissioning.specs.Keeping.{IsUnderway, Wants, IsSound}

-- the reads that a walk has left
abbrev left_of : WalkState → ℕ
left_of walk = reads_left walk.place (length walk.models)

-- a model that isn't at fault isn't the 129th
few_models : (n : ℕ) (a b c : Bool) (x y z : WalkFault) → leb 128 n ≡ a
    → cond a (Some x) (cond b (Some y) (cond c (Some z) None)) ≡ None → n < 128
few_models n true b c x y z is e = absurd cc
few_models n false b c x y z is e = leb-false _ _ is

seek_fewer : (left : List ℕ) (models : List Found) → left_of (record { place = place_at_bases left; models = models }) < 130 + length left
seek_fewer [] models = omega arith
seek_fewer (base ∷ left) models = omega arith

base_fewer : (base : ℕ) (left : List ℕ) (models : List Found) (marked : Bool)
    → left_of (record { place = cond marked (Reading (base + 2)) (place_at_bases left); models = models }) < 130 + length left
base_fewer base left models true = omega arith
base_fewer base left models false = seek_fewer left models

close_fewer : (models : List Found) (n : ℕ) (lacks : Option ℕ) → left_of (record { place = place_at_end lacks; models = models }) < 1 + n
close_fewer models n None = omega arith
close_fewer models n (Some id) = omega arith

model_fewer : (models : List Found) (model : Found) (found : Option WalkFault) → model_fault models model ≡ found
    → left_of (state_after_model models model found) < 1 + (128 - length models)
model_fewer models model None e =
    let few : length models < 128 =
    few_models (length models) (leb 128 (length models)) (is_too_short models model) (leaves_map (next_header model)) _ _ _ refl e in
    omega (arith, length-append models (model ∷ []))
model_fewer models model (Some error) e = omega arith

header_fewer : (models : List Found) (model : Found) (ended : Bool)
    → left_of (cond ended (record { place = place_at_end (absent_model models); models = models }) (state_after_model models model (model_fault models model))) < 1 + (128 - length models)
header_fewer models model true = close_fewer models (128 - length models) (absent_model models)
header_fewer models model false = model_fewer models model (model_fault models model) refl

-- a walk that wants a read has fewer left once it was told an answer
told_fewer : (place : Place) (models : List Found) (answer : Answer) → IsUnderway place
    → left_of (state_after place models answer) < reads_left place (length models)
told_fewer (Seeking base left) models answer h = base_fewer base left models (is_mark answer)
told_fewer (Reading next) models (Registers first second) h =
    header_fewer models (record { id = first; start = next; length = second }) (eqb first 0xFFFF)
told_fewer (Reading next) models (Exception code) h = omega arith
told_fewer Finished models answer h = absurd h
told_fewer (Failed error) models answer h = absurd h

walked_left : (place : Place) (models : List Found) → requests_left (walk_stage place models) ≤ 4 + reads_left place (length models)
walked_left (Seeking base left) models = omega arith
walked_left (Reading next) models = omega arith
walked_left Finished models = omega arith
walked_left (Failed error) models = omega arith

answer_fewer : (walk : WalkState) (answer : Answer) → IsUnderway walk.place
    → requests_left (walked (walk_after walk answer)) < 4 + left_of walk
answer_fewer walk answer h =
    let after = walk_after walk answer in
    let most : requests_left (walk_stage after.place after.models) ≤ 4 + left_of after = walked_left after.place after.models in
    let fewer : left_of after < left_of walk = told_fewer walk.place walk.models answer h in
    omega arith

discovered_fewer : (walk : WalkState) (heard : Result (List ℕ) CommissionFault) → IsUnderway walk.place
    → requests_left (discovered walk heard) < 4 + left_of walk
discovered_fewer walk (Ok values) h = answer_fewer walk (registers values) h
discovered_fewer walk (Err (fault.Exception code)) h = answer_fewer walk (Exception code) h
discovered_fewer walk (Err (fault.Walk error)) h = omega arith
discovered_fewer walk (Err (fault.Unfit at wanted found)) h = omega arith
discovered_fewer walk (Err fault.WrongReply) h = omega arith

capacity_fewer : (base : ℕ) (heard : Result (List ℕ) CommissionFault) → requests_left (capacity_read base heard) < 4
capacity_fewer base (Ok values) = omega arith
capacity_fewer base (Err error) = omega arith

compared_fewer : (found : Record702) (error : Option CommissionFault)
    → requests_left (option_map_or (λ e. Refused e (Some found)) error (WritingFloor found)) < 3
compared_fewer found (Some error) = omega arith
compared_fewer found None = omega arith

controls_fewer : (target : Target) (base wmax : ℕ) (wsf : ℤ) (heard : Result (List ℕ) CommissionFault)
    → requests_left (controls_read target.unit target.port base wmax wsf heard) < 3
controls_fewer target base wmax wsf (Ok values) = compared_fewer _ _
controls_fewer target base wmax wsf (Err error) = omega arith

wrote_fewer : (found : Record702) (right : Bool) → requests_left (cond right (ReadingBack found) (Refused fault.WrongReply (Some found))) < 2
wrote_fewer found true = omega arith
wrote_fewer found false = omega arith

floor_fewer : (target : Target) (found : Record702) (answer : Option Reply) → requests_left (floor_written target.port found answer) < 2
floor_fewer target found (Some (reply.Wrote start count)) = wrote_fewer found _
floor_fewer target found (Some (reply.Exception function code)) = omega arith
floor_fewer target found (Some (reply.Regs values)) = omega arith
floor_fewer target found None = omega arith

shown_fewer : (floor raw : ℕ) (found : Record702) (right : Bool)
    → requests_left (cond right (Commissioned found) (Refused (fault.Unfit point.Pct (pos floor) (pos raw)) (Some found))) < 1
shown_fewer floor raw found true = omega arith
shown_fewer floor raw found false = omega arith

back_fewer : (floor : ℕ) (found : Record702) (is : Judged) → requests_left (read_back floor found is) < 1
back_fewer floor found (judged.Shows raw) = shown_fewer floor raw found (eqb raw floor)
back_fewer floor found (judged.Differs at wanted shown) = omega arith
back_fewer floor found (judged.Exception code) = omega arith
back_fewer floor found judged.WrongReply = omega arith
back_fewer floor found (judged.WrongNumber number) = omega arith
back_fewer floor found (judged.WrongUnit unit) = omega arith

-- Behind each reply fewer requests are left.
pub reply_fewer : (target : Target) (stage : Stage) (answer : Option Reply) → Wants stage → IsSome (asked_pdu target stage)
    → requests_left (stage_after target stage answer) < requests_left stage
reply_fewer target (Discovering walk) answer h some = discovered_fewer walk (block_of 2 answer) h
reply_fewer target (ReadingCapacity start base) answer h some = capacity_fewer base (block_of 46 answer)
reply_fewer target (ReadingControls base wmax wsf) answer h some = controls_fewer target base wmax wsf (block_of 55 answer)
reply_fewer target (WritingFloor found) answer h some = floor_fewer target found answer
reply_fewer target (ReadingBack found) answer h some = back_fewer target.unit.floor found _
reply_fewer target (Commissioned found) answer h some = absurd cc
reply_fewer target (Refused error found) answer h some = absurd cc

walk_wants : (place : Place) (models : List Found) → Wants (walk_stage place models)
walk_wants (Seeking base left) models = tt
walk_wants (Reading next) models = tt
walk_wants Finished models = tt
walk_wants (Failed error) models = tt

discovered_wants : (walk : WalkState) (heard : Result (List ℕ) CommissionFault) → Wants (discovered walk heard)
discovered_wants walk (Ok values) =
    let after = walk_after walk (registers values) in
    walk_wants after.place after.models
discovered_wants walk (Err (fault.Exception code)) =
    let after = walk_after walk (Exception code) in
    walk_wants after.place after.models
discovered_wants walk (Err (fault.Walk error)) = tt
discovered_wants walk (Err (fault.Unfit at wanted found)) = tt
discovered_wants walk (Err fault.WrongReply) = tt

capacity_wants : (base : ℕ) (heard : Result (List ℕ) CommissionFault) → Wants (capacity_read base heard)
capacity_wants base (Ok values) = tt
capacity_wants base (Err error) = tt

compared_wants : (found : Record702) (error : Option CommissionFault)
    → Wants (option_map_or (λ e. Refused e (Some found)) error (WritingFloor found))
compared_wants found (Some error) = tt
compared_wants found None = tt

controls_wants : (target : Target) (base wmax : ℕ) (wsf : ℤ) (heard : Result (List ℕ) CommissionFault)
    → Wants (controls_read target.unit target.port base wmax wsf heard)
controls_wants target base wmax wsf (Ok values) = compared_wants _ _
controls_wants target base wmax wsf (Err error) = tt

wrote_wants : (found : Record702) (right : Bool) → Wants (cond right (ReadingBack found) (Refused fault.WrongReply (Some found)))
wrote_wants found true = tt
wrote_wants found false = tt

floor_wants : (target : Target) (found : Record702) (answer : Option Reply) → Wants (floor_written target.port found answer)
floor_wants target found (Some (reply.Wrote start count)) = wrote_wants found _
floor_wants target found (Some (reply.Exception function code)) = tt
floor_wants target found (Some (reply.Regs values)) = tt
floor_wants target found None = tt

shown_wants : (floor raw : ℕ) (found : Record702) (right : Bool)
    → Wants (cond right (Commissioned found) (Refused (fault.Unfit point.Pct (pos floor) (pos raw)) (Some found)))
shown_wants floor raw found true = tt
shown_wants floor raw found false = tt

back_wants : (floor : ℕ) (found : Record702) (is : Judged) → Wants (read_back floor found is)
back_wants floor found (judged.Shows raw) = shown_wants floor raw found (eqb raw floor)
back_wants floor found (judged.Differs at wanted shown) = tt
back_wants floor found (judged.Exception code) = tt
back_wants floor found judged.WrongReply = tt
back_wants floor found (judged.WrongNumber number) = tt
back_wants floor found (judged.WrongUnit unit) = tt

-- Behind each reply a walk that is gone on with wants a read.
pub reply_wants : (target : Target) (stage : Stage) (answer : Option Reply) → Wants (stage_after target stage answer)
reply_wants target (Discovering walk) answer = discovered_wants walk (block_of 2 answer)
reply_wants target (ReadingCapacity start base) answer = capacity_wants base (block_of 46 answer)
reply_wants target (ReadingControls base wmax wsf) answer = controls_wants target base wmax wsf (block_of 55 answer)
reply_wants target (WritingFloor found) answer = floor_wants target found answer
reply_wants target (ReadingBack found) answer = back_wants target.unit.floor found _
reply_wants target (Commissioned found) answer = tt
reply_wants target (Refused error found) answer = tt

some_mapped : {A B : Type 0} (f : A → B) (o : Option A) → IsSome (option_map f o) → IsSome o
some_mapped f (Some x) some = refl
some_mapped f None some = absurd cc

-- what is asked of a commissioning is asked at its stage
pub stage_asks : (standing : Standing) → IsSome (asked standing) → IsSome (asked_pdu standing.target standing.stage)
stage_asks standing some = some_mapped (request_frame standing.target standing.number) (asked_pdu standing.target standing.stage) some

-- a commissioning after a reply
pub sound_after : (standing : Standing) (answer : Option Reply) (stage : Stage) → IsSound standing → IsSome (asked standing)
    → stage ≡ stage_after standing.target standing.stage answer
    → IsSound (record { target = standing.target; stage = stage; number = standing.number + 1; skipped = 0 })
sound_after standing answer stage sound some is =
    let fewer : requests_left (stage_after standing.target standing.stage answer) < requests_left standing.stage =
    reply_fewer standing.target standing.stage answer sound.wants (stage_asks standing some) in
    let same : requests_left stage ≡ requests_left (stage_after standing.target standing.stage answer) = ap requests_left is in
    let few = sound.few in
    record {
      base = sound.base;
      few = omega arith;
      skipped = omega arith;
      wants = rw is (reply_wants standing.target standing.stage answer);
    }

-- fewer frames may be taken after a reply
pub frames_fewer : (standing new : Standing) (answer : Option Reply) → IsSound standing → IsSome (asked standing)
    → new ≡ record { target = standing.target; stage = stage_after standing.target standing.stage answer; number = standing.number + 1; skipped = 0 }
    → frames_left new < frames_left standing
frames_fewer standing new answer sound some is =
    let fewer : requests_left (stage_after standing.target standing.stage answer) < requests_left standing.stage =
    reply_fewer standing.target standing.stage answer sound.wants (stage_asks standing some) in
    let skipped = sound.skipped in
    let left : frames_left new ≡ 8 * requests_left (stage_after standing.target standing.stage answer) - 0 = ap frames_left is in
    omega arith
