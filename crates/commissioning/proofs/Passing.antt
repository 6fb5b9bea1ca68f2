-- What has passed over the link still has, with the exchange of one reply more, at the stage behind that reply.
use Rattle.std.proofs.Common.{◌≡◌, ℕ, ◌+◌, ℤ, pos, Bool, true, false, cond, eqb, ◌&&◌, List, [], ◌∷◌, ◌++◌, length, Option, Some, None, Result, Ok, Err, refl, sym, ◌∙◌, ap, subst, append_assoc, length-append, arith}
use Rattle.std.specs.Prelude.{is_none, fold}
use Rattle.std.specs.Option.{option_or, option_map_or}
use Rattle.std.specs.Ordering.{int_eq}
use Rattle.std.proofs.lemmas.Bool.{eqb-true, and_parts}
use Rattle.std.proofs.lemmas.Bool.Decides.{Decides-int_eq}
use Rattle.std.proofs.lemmas.List.{append-nil}
use Rattle.limiter_num.specs.declared.rating.Point.{Point}
use Rattle.limiter_num.specs.declared.rating.Point.TheVariants as point
use Rattle.modbus_pdu.specs.declared.pdu.Reply.{Reply}
use Rattle.modbus_pdu.specs.declared.pdu.Reply.TheVariants as reply
use Rattle.mbap_frames.specs.declared.frame.Frame.{Frame}
use Rattle.der_models.specs.Models.{raw_psf}
use Rattle.model_discovery.specs.declared.found.Found.{Found}
use Rattle.model_discovery.specs.declared.fault.WalkFault.{WalkFault}
use Rattle.model_discovery.specs.declared.walk.Next.{Next}
use Rattle.model_discovery.specs.declared.walk.Next.TheVariants.{Read, Done}
use Rattle.model_discovery.specs.Map.{Answer, Registers, Exception}
use Rattle.model_discovery.specs.Chain.{first_of, is_mark, model_fault, absent_model}
use Rattle.model_discovery.specs.WalkState.{Place, Seeking, Reading, Finished, Failed, WalkState, place_at_bases, place_at_end, state_after_model, state_after, walk_after, registers, next_read}
use Rattle.readback.specs.declared.judging.Judged.{Judged}
use Rattle.readback.specs.declared.judging.Judged.TheVariants as judged
use Rattle.readback.specs.Frames.{read_pdu, limit_address, limit_pdu, read_back_pdu}
use Rattle.readback.specs.Replies.{reply_of}
use Rattle.readback.specs.Judging.{reply_judgement}
use Rattle.commissioning.specs.declared.fault.CommissionFault.{CommissionFault}
use Rattle.commissioning.specs.declared.fault.CommissionFault.TheVariants as fault
use Rattle.commissioning.specs.declared.found.Record702.{Record702}
use Rattle.commissioning.specs.declared.target.Target.{Target}
use Rattle.commissioning.specs.Stage.{Stage, Discovering, ReadingCapacity, ReadingControls, WritingFloor, ReadingBack, Commissioned, Refused, Standing}
use Rattle.commissioning.specs.Asking.{wanted_pdu, asked_pdu, start}
use Rattle.commissioning.specs.Replies.{block_of, walk_stage, discovered, capacity_read, unlike, misfit, controls_read, floor_written, read_back, stage_after}
use Rattle.commissioning.specs.Taking.{reply_in}
use Rattle.commissioning.specs.Runs.{Exchange, after, standing_after, exchange_by, exchanges_from, exchanges}
use Rattle.commissioning.specs.Passed.{exchange_behind, Follows, Tells, IsWalked, begins, goes_on, HasControls, IsFit, Reached, IsRefused, Passed}
use Rattle.commissioning.proofs.Moves.{Moves, over, skips, replies, moves, exchanged}

-- these exchanges and the one of a frame
abbrev more : Target → List Exchange → List ℕ → Frame → List Exchange
more target had pdu frame = had ++ exchange_behind target had pdu frame ∷ []

-- the reply in the frame that comes next
abbrev heard_in : Target → List Exchange → Frame → Option Reply
heard_in target had frame = reply_in target (length had + 1) frame

some_under : {A : Type 0} (b : Bool) (o : Option A) (y : A) → cond b o None ≡ Some y → (b ≡ true) × (o ≡ Some y)
some_under true o y e = (refl, e)
some_under false o y e = absurd cc

pub follows : (target : Target) (had : List Exchange) (pdu : List ℕ) (frame : Frame) (answer : Reply)
    → heard_in target had frame ≡ Some answer → Follows target had pdu answer (more target had pdu frame)
follows target had pdu frame answer e =
    let test = some_under (eqb frame.transaction (length had + 1) && eqb frame.unit target.port.unit) (reply_of frame.pdu) answer e in
    let parts = and_parts (eqb frame.transaction (length had + 1)) (eqb frame.unit target.port.unit) test.0 in
    record {
      came = frame;
      exchange = refl;
      number = eqb-true _ _ parts.0;
      unit = eqb-true _ _ parts.1;
      reply = test.1;
    }

-- what came to a read of so many registers
size_ok : (values values' : List ℕ) (count : ℕ) (right : Bool) → eqb (length values) count ≡ right
    → cond {A = Result (List ℕ) CommissionFault} right (Ok values) (Err fault.WrongReply) ≡ Ok values' → (length values ≡ count) × (values ≡ values')
size_ok values values' count true e is = (eqb-true _ _ e, cc)
size_ok values values' count false e is = absurd cc

pub block_ok : (count : ℕ) (answer : Option Reply) (values : List ℕ) → block_of count answer ≡ Ok values
    → (answer ≡ Some (reply.Regs values)) × (length values ≡ count)
block_ok count (Some (reply.Regs values')) values e =
    let test = size_ok values' values count (eqb (length values') count) refl e in
    (ap (λ (vs : List ℕ). Some (reply.Regs vs)) test.1, sym (ap length test.1) ∙ test.0)
block_ok count (Some (reply.Exception function code)) values e = absurd cc
block_ok count (Some (reply.Wrote start written)) values e = absurd cc
block_ok count None values e = absurd cc

of_function : (function code code' : ℕ) (right : Bool) → eqb function 3 ≡ right
    → cond right (fault.Exception code) fault.WrongReply ≡ fault.Exception code' → (function ≡ 3) × (code ≡ code')
of_function function code code' true e is = (eqb-true _ _ e, cc)
of_function function code code' false e is = absurd cc

size_exception : (values : List ℕ) (code : ℕ) (right : Bool)
    → cond {A = Result (List ℕ) CommissionFault} right (Ok values) (Err fault.WrongReply) ≡ Err (fault.Exception code) → ⊥
size_exception values code true is = cc
size_exception values code false is = cc

block_exception : (count : ℕ) (answer : Option Reply) (code : ℕ) → block_of count answer ≡ Err (fault.Exception code)
    → answer ≡ Some (reply.Exception 3 code)
block_exception count (Some (reply.Regs values)) code e = absurd (size_exception values code _ e)
block_exception count (Some (reply.Exception function code')) code e =
    let inner : cond (eqb function 3) (fault.Exception code') fault.WrongReply ≡ fault.Exception code = cc in
    let test = of_function function code' code (eqb function 3) refl inner in
    cc
block_exception count (Some (reply.Wrote start written)) code e = absurd cc
block_exception count None code e = absurd cc

refused : (target : Target) (had : List Exchange) (stage : Stage) (pdu : List ℕ) (frame : Frame) (error : CommissionFault) (found : Option Record702)
    → Reached target had stage → asked_pdu target stage ≡ Some pdu → stage_after target stage (heard_in target had frame) ≡ Refused error found
    → IsRefused target (more target had pdu frame) error found
refused target had stage pdu frame error found reached asks cause =
    record { before = had; stage = stage; reached = reached; pdu = pdu; asks = asks; came = frame; exchange = refl; cause = cause }

-- a walk that ends has a 702 and a 704
closes : (models : List Found) (lacks : Option ℕ) → absent_model models ≡ lacks → place_at_end lacks ≡ Finished → absent_model models ≡ None
closes models None e is = e
closes models (Some id) e is = absurd cc

takes_in : (models : List Found) (model : Found) (error : Option WalkFault) → (state_after_model models model error).place ≡ Finished → ⊥
takes_in models model None is = cc
takes_in models model (Some error) is = cc

header_ends : (models : List Found) (model : Found) (ended : Bool)
    → (cond ended (record { place = place_at_end (absent_model models); models = models }) (state_after_model models model (model_fault models model))).place ≡ Finished
    → absent_model (cond ended (record { place = place_at_end (absent_model models); models = models }) (state_after_model models model (model_fault models model))).models ≡ None
header_ends models model true is = closes models (absent_model models) refl is
header_ends models model false is = absurd (takes_in models model (model_fault models model) is)

base_ends : (base : ℕ) (left : List ℕ) (marked : Bool) → cond marked (Reading (base + 2)) (place_at_bases left) ≡ Finished → ⊥
base_ends base left true is = cc
base_ends base [] false is = cc
base_ends base (next ∷ left) false is = cc

told_ends : (place : Place) (models : List Found) (answer : Answer) (start count : ℕ) → next_read place ≡ Read start count
    → (state_after place models answer).place ≡ Finished → absent_model (state_after place models answer).models ≡ None
told_ends (Seeking base left) models answer start count wants is = absurd (base_ends base left (is_mark answer) is)
told_ends (Reading next) models (Registers first second) start count wants is =
    header_ends models (record { id = first; start = next; length = second }) (eqb first 0xFFFF) is
told_ends (Reading next) models (Exception code) start count wants is = absurd cc
told_ends Finished models answer start count wants is = absurd cc
told_ends (Failed error) models answer start count wants is = absurd cc

walk_ends : (target : Target) {all : List Exchange} {walk : WalkState} → IsWalked target all walk → walk.place ≡ Finished → absent_model walk.models ≡ None
walk_ends target begins is = absurd cc
walk_ends target (goes_on {walk} start count heard answer walked' wants follows' tells after_is) is =
    let ends = told_ends walk.place walk.models answer start count wants (sym (ap (λ (w : WalkState). w.place) after_is) ∙ is) in
    ap (λ (w : WalkState). absent_model w.models) after_is ∙ ends

record HasBoth (models : List Found) : Type 0 where
  capacity : Found
  first_capacity : first_of 702 models ≡ Some capacity
  controls : Found
  first_controls : first_of 704 models ≡ Some controls

both_at : (models : List Found) (one other : Option Found) → first_of 702 models ≡ one → first_of 704 models ≡ other
    → cond {A = Option ℕ} (is_none one) (Some 702) (cond (is_none other) (Some 704) None) ≡ None → HasBoth models
both_at models None other first second e = absurd cc
both_at models (Some x) None first second e = absurd cc
both_at models (Some x) (Some y) first second e =
    record { capacity = x; first_capacity = first; controls = y; first_controls = second }

has_both : (models : List Found) → absent_model models ≡ None → HasBoth models
has_both models e = both_at models (first_of 702 models) (first_of 704 models) refl refl e

-- the stage of a walk that has gone on
module _ (target : Target) (all : List Exchange) where
  walk_passed : (place : Place) (models : List Found) → IsWalked target all (record { place = place; models = models })
      → ((error : CommissionFault) (found : Option Record702) → walk_stage place models ≡ Refused error found → IsRefused target all error found)
      → Passed target all (walk_stage place models)
  walk_passed (Seeking base left) models walked' fails = (walked', refl)
  walk_passed (Reading next) models walked' fails = (walked', refl)
  walk_passed Finished models walked' fails =
      let both = has_both models (walk_ends target walked' refl) in
      record {
        models = models;
        walked = walked';
        capacity = both.capacity;
        first_capacity = both.first_capacity;
        capacity_start = ap (λ (o : Option Found). option_map_or (λ (m : Found). m.start) o 0) both.first_capacity;
        controls = both.controls;
        first_controls = both.first_controls;
        controls_start = ap (λ (o : Option Found). option_map_or (λ (m : Found). m.start) o 0) both.first_controls;
      }
  walk_passed (Failed error) models walked' fails = fails (fault.Walk error) None refl

record IsWanted (next : Next) (pdu : List ℕ) : Type 0 where
  start : ℕ
  count : ℕ
  read : next ≡ Read start count
  pdu_is : pdu ≡ read_pdu start count

wanted : (next : Next) (pdu : List ℕ) → wanted_pdu next ≡ Some pdu → IsWanted next pdu
wanted (Read start count) pdu e = record { start = start; count = count; read = refl; pdu_is = cc }
wanted Done pdu e = absurd cc

pub discovered_passed : (target : Target) (had : List Exchange) (walk : WalkState) (pdu : List ℕ) (frame : Frame) (heard : Result (List ℕ) CommissionFault)
    → Reached target had (Discovering walk) → asked_pdu target (Discovering walk) ≡ Some pdu → block_of 2 (heard_in target had frame) ≡ heard
    → Passed target (more target had pdu frame) (discovered walk heard)
discovered_passed target had walk pdu frame heard reached asks is = told_passed heard is
  where
    is_wanted : IsWanted (next_read walk.place) pdu
    is_wanted = wanted (next_read walk.place) pdu asks

    goes : (answer : Reply) (tells : Answer) → heard_in target had frame ≡ Some answer → Tells answer tells
        → IsWalked target (more target had pdu frame) (walk_after walk tells)
    goes answer tells heard' right =
        let next : Follows target had (read_pdu is_wanted.start is_wanted.count) answer (more target had pdu frame) =
        subst (λ (p : List ℕ). Follows target had p answer (more target had pdu frame)) is_wanted.pdu_is (follows target had pdu frame answer heard') in
        goes_on is_wanted.start is_wanted.count answer tells reached.0 is_wanted.read next right refl

    told_passed : (heard : Result (List ℕ) CommissionFault) → block_of 2 (heard_in target had frame) ≡ heard
        → Passed target (more target had pdu frame) (discovered walk heard)
    told_passed (Ok values) is =
        let block = block_ok 2 (heard_in target had frame) values is in
        let after' = walk_after walk (registers values) in
        walk_passed target (more target had pdu frame) after'.place after'.models (goes (reply.Regs values) (registers values) block.0 (block.1, refl))
        (λ error found cause. refused target had (Discovering walk) pdu frame error found reached asks (ap (discovered walk) is ∙ cause))
    told_passed (Err (fault.Exception code)) is =
        let after' = walk_after walk (Exception code) in
        walk_passed target (more target had pdu frame) after'.place after'.models
        (goes (reply.Exception 3 code) (Exception code) (block_exception 2 (heard_in target had frame) code is) (refl, refl))
        (λ error found cause. refused target had (Discovering walk) pdu frame error found reached asks (ap (discovered walk) is ∙ cause))
    told_passed (Err (fault.Walk error)) is = refused target had (Discovering walk) pdu frame _ _ reached asks (ap (discovered walk) is)
    told_passed (Err (fault.Unfit at wanted' found)) is = refused target had (Discovering walk) pdu frame _ _ reached asks (ap (discovered walk) is)
    told_passed (Err fault.WrongReply) is = refused target had (Discovering walk) pdu frame _ _ reached asks (ap (discovered walk) is)

capacity_passed : (target : Target) (had : List Exchange) (start base : ℕ) (frame : Frame) (heard : Result (List ℕ) CommissionFault)
    → Reached target had (ReadingCapacity start base) → block_of 46 (heard_in target had frame) ≡ heard
    → Passed target (more target had (read_pdu start 46) frame) (capacity_read base heard)
capacity_passed target had start base frame (Ok values) reached is =
    let block = block_ok 46 (heard_in target had frame) values is in
    record {
      before = had;
      start = start;
      discovered = reached;
      values = values;
      block = follows target had (read_pdu start 46) frame (reply.Regs values) block.0;
      size = block.1;
      wmax_is = refl;
      wsf_is = refl;
    }
capacity_passed target had start base frame (Err error) reached is =
    refused target had (ReadingCapacity start base) (read_pdu start 46) frame error None reached refl (ap (capacity_read base) is)

-- where no point is unlike, each is the same
like : (at : Point) (x y : ℤ) (same : Bool) → int_eq x y ≡ same → cond {A = Option CommissionFault} same None (Some (fault.Unfit at x y)) ≡ None → x ≡ y
like at x y true e is = (Decides-int_eq x y).0 e
like at x y false e is = absurd cc

record NoneOf (a b c d : Option CommissionFault) : Type 0 where
  first : a ≡ None
  second : b ≡ None
  third : c ≡ None
  fourth : d ≡ None

none_of : (a b c d : Option CommissionFault) → option_or (option_or (option_or a b) c) d ≡ None → NoneOf a b c d
none_of None None None None e = record { first = refl; second = refl; third = refl; fourth = refl }
none_of None None None (Some x) e = absurd cc
none_of None None (Some x) d e = absurd cc
none_of None (Some x) c d e = absurd cc
none_of (Some x) b c d e = absurd cc

fits : (target : Target) (found : Record702) → misfit target.unit target.port found ≡ None → IsFit target found
fits target found e =
    let rating = target.unit.rating in
    let all = none_of (unlike point.Base (pos target.port.base) (pos found.base)) (unlike point.WMax (pos rating.wmax) (pos found.wmax))
    (unlike point.WSf rating.wsf found.wsf) (unlike point.PctSf rating.psf found.psf) e in
    let base : pos target.port.base ≡ pos found.base = like point.Base _ _ _ refl all.first in
    let wmax : pos rating.wmax ≡ pos found.wmax = like point.WMax _ _ _ refl all.second in
    record {
      base = cc;
      wmax = cc;
      wsf = sym (like point.WSf _ _ _ refl all.third);
      psf = sym (like point.PctSf _ _ _ refl all.fourth);
    }

compared_passed : (target : Target) (all : List Exchange) (found : Record702) (error : Option CommissionFault)
    → HasControls target all found → ((e : CommissionFault) → error ≡ Some e → IsRefused target all e (Some found))
    → misfit target.unit target.port found ≡ error
    → Passed target all (option_map_or (λ e. Refused e (Some found)) error (WritingFloor found))
compared_passed target all found None has fails e = (has, fits target found e)
compared_passed target all found (Some error) has fails e = fails error refl

controls_passed : (target : Target) (had : List Exchange) (base wmax : ℕ) (wsf : ℤ) (frame : Frame) (heard : Result (List ℕ) CommissionFault)
    → Reached target had (ReadingControls base wmax wsf) → block_of 55 (heard_in target had frame) ≡ heard
    → Passed target (more target had (read_pdu base 55) frame) (controls_read target.unit target.port base wmax wsf heard)
controls_passed target had base wmax wsf frame (Err error) reached is =
    refused target had (ReadingControls base wmax wsf) (read_pdu base 55) frame error None reached refl
    (ap (controls_read target.unit target.port base wmax wsf) is)
controls_passed target had base wmax wsf frame (Ok values) reached is =
    let block = block_ok 55 (heard_in target had frame) values is in
    let found : Record702 = record { base = base; wmax = wmax; wsf = wsf; psf = raw_psf values } in
    let has : HasControls target (more target had (read_pdu base 55) frame) found = record {
      before = had;
      capacity = reached;
      values = values;
      block = follows target had (read_pdu base 55) frame (reply.Regs values) block.0;
      size = block.1;
      psf_is = refl;
    } in
    compared_passed target (more target had (read_pdu base 55) frame) found (misfit target.unit target.port found) has
    (λ e unfit. refused target had (ReadingControls base wmax wsf) (read_pdu base 55) frame e (Some found) reached refl
    (ap (controls_read target.unit target.port base wmax wsf) is
    ∙ ap (λ (o : Option CommissionFault). option_map_or (λ e. Refused e (Some found)) o (WritingFloor found)) unfit))
    refl

wrote_right : (address start count : ℕ) (right : Bool) → (eqb start address && eqb count 6) ≡ right → right ≡ true → (start ≡ address) × (count ≡ 6)
wrote_right address start count right e is =
    let parts = and_parts (eqb start address) (eqb count 6) (e ∙ is) in
    (eqb-true _ _ parts.0, eqb-true _ _ parts.1)

abbrev floor_pdu : Target → List ℕ
floor_pdu target = limit_pdu target.unit.floor target.unit target.port target.rules

wrote_passed : (target : Target) (had : List Exchange) (found : Record702) (frame : Frame) (start count : ℕ) (right : Bool)
    → Reached target had (WritingFloor found) → heard_in target had frame ≡ Some (reply.Wrote start count)
    → (eqb start (limit_address target.port) && eqb count 6) ≡ right
    → Passed target (more target had (floor_pdu target) frame) (cond right (ReadingBack found) (Refused fault.WrongReply (Some found)))
wrote_passed target had found frame start count true reached heard right =
    let same = wrote_right (limit_address target.port) start count true right refl in
    let wrote : reply.Wrote start count ≡ reply.Wrote (limit_address target.port) 6 = cc (same.0, same.1) in
    record {
      before = had;
      controls = reached.0;
      fit = reached.1;
      write = follows target had (floor_pdu target) frame (reply.Wrote (limit_address target.port) 6) (heard ∙ ap (λ (r : Reply). Some r) wrote);
    }
wrote_passed target had found frame start count false reached heard right =
    refused target had (WritingFloor found) (floor_pdu target) frame fault.WrongReply (Some found) reached refl
    (ap (floor_written target.port found) heard
    ∙ ap (λ (b : Bool). cond b (ReadingBack found) (Refused fault.WrongReply (Some found))) right)

floor_passed : (target : Target) (had : List Exchange) (found : Record702) (frame : Frame) (answer : Option Reply)
    → Reached target had (WritingFloor found) → heard_in target had frame ≡ answer
    → Passed target (more target had (floor_pdu target) frame) (floor_written target.port found answer)
floor_passed target had found frame (Some (reply.Wrote start count)) reached is =
    wrote_passed target had found frame start count (eqb start (limit_address target.port) && eqb count 6) reached is refl
floor_passed target had found frame (Some (reply.Exception function code)) reached is =
    refused target had (WritingFloor found) (floor_pdu target) frame _ (Some found) reached refl (ap (floor_written target.port found) is)
floor_passed target had found frame (Some (reply.Regs values)) reached is =
    refused target had (WritingFloor found) (floor_pdu target) frame fault.WrongReply (Some found) reached refl (ap (floor_written target.port found) is)
floor_passed target had found frame None reached is =
    refused target had (WritingFloor found) (floor_pdu target) frame fault.WrongReply (Some found) reached refl (ap (floor_written target.port found) is)

shown_passed : (target : Target) (had : List Exchange) (found : Record702) (frame : Frame) (answer : Option Reply) (raw : ℕ) (right : Bool)
    → Reached target had (ReadingBack found) → heard_in target had frame ≡ answer
    → reply_judgement target.unit.floor target.rules.timer answer ≡ judged.Shows raw → eqb raw target.unit.floor ≡ right
    → Passed target (more target had (read_back_pdu target.port) frame)
    (cond right (Commissioned found) (Refused (fault.Unfit point.Pct (pos target.unit.floor) (pos raw)) (Some found)))
shown_passed target had found frame None raw true reached is shows right = absurd cc
shown_passed target had found frame (Some answer) raw true reached is shows right =
    record {
      before = had;
      written = reached;
      answer = answer;
      read_back = follows target had (read_back_pdu target.port) frame answer is;
      shows = shows ∙ ap judged.Shows (eqb-true _ _ right);
    }
shown_passed target had found frame answer raw false reached is shows right =
    refused target had (ReadingBack found) (read_back_pdu target.port) frame _ (Some found) reached refl
    (ap (λ (o : Option Reply). read_back target.unit.floor found (reply_judgement target.unit.floor target.rules.timer o)) is
    ∙ ap (read_back target.unit.floor found) shows
    ∙ ap (λ (b : Bool). cond b (Commissioned found) (Refused (fault.Unfit point.Pct (pos target.unit.floor) (pos raw)) (Some found))) right)

back_passed : (target : Target) (had : List Exchange) (found : Record702) (frame : Frame) (is : Judged)
    → Reached target had (ReadingBack found) → reply_judgement target.unit.floor target.rules.timer (heard_in target had frame) ≡ is
    → Passed target (more target had (read_back_pdu target.port) frame) (read_back target.unit.floor found is)
back_passed target had found frame (judged.Shows raw) reached e =
    shown_passed target had found frame (heard_in target had frame) raw (eqb raw target.unit.floor) reached refl e refl
back_passed target had found frame (judged.Differs at wanted' shown) reached e =
    refused target had (ReadingBack found) (read_back_pdu target.port) frame _ (Some found) reached refl (ap (read_back target.unit.floor found) e)
back_passed target had found frame (judged.Exception code) reached e =
    refused target had (ReadingBack found) (read_back_pdu target.port) frame _ (Some found) reached refl (ap (read_back target.unit.floor found) e)
back_passed target had found frame judged.WrongReply reached e =
    refused target had (ReadingBack found) (read_back_pdu target.port) frame _ (Some found) reached refl (ap (read_back target.unit.floor found) e)
back_passed target had found frame (judged.WrongNumber number) reached e =
    refused target had (ReadingBack found) (read_back_pdu target.port) frame _ (Some found) reached refl (ap (read_back target.unit.floor found) e)
back_passed target had found frame (judged.WrongUnit unit) reached e =
    refused target had (ReadingBack found) (read_back_pdu target.port) frame _ (Some found) reached refl (ap (read_back target.unit.floor found) e)

at_pdu : (target : Target) (had : List Exchange) (frame : Frame) (stage : Stage) (pdu pdu' : List ℕ) → Some pdu ≡ Some pdu'
    → Passed target (more target had pdu frame) stage → Passed target (more target had pdu' frame) stage
at_pdu target had frame stage pdu pdu' e passed =
    let same : pdu ≡ pdu' = cc in
    subst (λ (p : List ℕ). Passed target (more target had p frame) stage) same passed

-- What has passed with one reply more.
pub passed_more : (target : Target) (had : List Exchange) (stage : Stage) (pdu : List ℕ) (frame : Frame)
    → Passed target had stage → asked_pdu target stage ≡ Some pdu
    → Passed target (more target had pdu frame) (stage_after target stage (heard_in target had frame))
passed_more target had (Discovering walk) pdu frame passed asks =
    discovered_passed target had walk pdu frame (block_of 2 (heard_in target had frame)) passed asks refl
passed_more target had (ReadingCapacity start base) pdu frame passed asks =
    at_pdu target had frame _ (read_pdu start 46) pdu asks (capacity_passed target had start base frame (block_of 46 (heard_in target had frame)) passed refl)
passed_more target had (ReadingControls base wmax wsf) pdu frame passed asks =
    at_pdu target had frame _ (read_pdu base 55) pdu asks (controls_passed target had base wmax wsf frame (block_of 55 (heard_in target had frame)) passed refl)
passed_more target had (WritingFloor found) pdu frame passed asks =
    at_pdu target had frame _ (floor_pdu target) pdu asks (floor_passed target had found frame (heard_in target had frame) passed refl)
passed_more target had (ReadingBack found) pdu frame passed asks =
    at_pdu target had frame _ (read_back_pdu target.port) pdu asks
    (back_passed target had found frame (reply_judgement target.unit.floor target.rules.timer (heard_in target had frame)) passed refl)
passed_more target had (Commissioned found) pdu frame passed asks = absurd cc
passed_more target had (Refused error found) pdu frame passed asks = absurd cc

-- what has passed, with the number of the request that comes next
pub record IsKept (target : Target) (had : List Exchange) (standing : Standing) : Type 0 where
  pub same : standing.target ≡ target
  pub number : standing.number ≡ length had + 1
  pub passed : Passed target had standing.stage

exchange_is : (target : Target) (had : List Exchange) (standing : Standing) (pdu : List ℕ) (frame : Frame)
    → standing.target ≡ target → standing.number ≡ length had + 1 → exchanged standing pdu frame ≡ exchange_behind target had pdu frame
exchange_is target had standing pdu frame same number = rw (same, number) refl

kept_move : (target : Target) (had : List Exchange) (standing : Standing) (frame : Frame) → IsKept target had standing → Moves standing frame
    → IsKept target (had ++ exchange_by standing frame) (after standing frame)
kept_move target had standing frame kept (over none stays ends) =
    rw (ends, stays, append-nil) kept
kept_move target had standing frame kept (skips goes ends leads) =
    rw (ends, goes, append-nil) (record { same = kept.same; number = kept.number; passed = kept.passed })
kept_move target had standing frame kept (replies pdu asks goes ends leads) =
    let asks' : asked_pdu target standing.stage ≡ Some pdu = ap (λ (t : Target). asked_pdu t standing.stage) (sym kept.same) ∙ asks in
    let here = exchange_is target had standing pdu frame kept.same kept.number in
    let stage_is : stage_after standing.target standing.stage (reply_in standing.target standing.number frame)
    ≡ stage_after target standing.stage (heard_in target had frame) =
    ap (λ (t : Target). stage_after t standing.stage (reply_in t standing.number frame)) kept.same
    ∙ ap (λ (n : ℕ). stage_after target standing.stage (reply_in target n frame)) kept.number in
    let number = kept.number in
    rw (ends, goes, here) (record {
      same = kept.same;
      number = ap (λ (n : ℕ). n + 1) number ∙ omega (arith, length-append had (exchange_behind target had pdu frame ∷ []));
      passed = rw stage_is (passed_more target had standing.stage pdu frame kept.passed asks');
    })

kept_all : (target : Target) (had : List Exchange) (standing : Standing) (frames : List Frame) → IsKept target had standing
    → IsKept target (had ++ exchanges_from standing frames) (fold after standing frames)
kept_all target had standing [] kept = rw append-nil kept
kept_all target had standing (frame ∷ frames) kept =
    let rest = kept_all target (had ++ exchange_by standing frame) (after standing frame) frames (kept_move target had standing frame kept (moves standing frame)) in
    rw (← append_assoc had (exchange_by standing frame) (exchanges_from (after standing frame) frames)) rest

-- What any list of frames keeps.
pub kept_after : (target : Target) (frames : List Frame) → IsKept target (exchanges target frames) (standing_after target frames)
kept_after target frames =
    kept_all target [] (start target) frames (record { same = refl; number = refl; passed = (begins, refl) })
