-- What the stages of a commissioning write and ask.
use Rattle.std.proofs.Common.{◌≡◌, ℕ, ◌+◌, pos, Bool, true, false, cond, eqb, ◌&&◌, List, [], ◌∷◌, ◌++◌, map, Option, Some, None, Result, Ok, Err, refl, sym, ap, subst, ◌∙◌, append-nil}
use Rattle.std.specs.Prelude.{IsSome, option_map, option_to_list}
use Rattle.std.proofs.lemmas.List.{map-append}
use Rattle.limiter_num.specs.declared.rating.Point.TheVariants as point
use Rattle.modbus_pdu.specs.declared.pdu.Reply.{Reply}
use Rattle.modbus_pdu.specs.declared.pdu.Reply.TheVariants as reply
use Rattle.mbap_frames.specs.declared.frame.Frame.{Frame}
use Rattle.plant_book.specs.Port.{PortRecord}
use Rattle.readback.specs.declared.judging.Judged.{Judged}
use Rattle.readback.specs.declared.judging.Judged.TheVariants as judged
use Rattle.readback.specs.Frames.{limit_address}
use Rattle.readback.specs.Judging.{reply_judgement}
use Rattle.commissioning.specs.declared.commission.Took.{Took}
use Rattle.commissioning.specs.declared.commission.Took.TheVariants as took
use Rattle.commissioning.specs.declared.fault.CommissionFault.{CommissionFault}
use Rattle.commissioning.specs.declared.fault.CommissionFault.TheVariants as fault
use Rattle.commissioning.specs.declared.found.Record702.{Record702}
use Rattle.commissioning.specs.declared.target.Target.{Target}
use Rattle.commissioning.specs.Stage.{Stage, Discovering, ReadingCapacity, ReadingControls, WritingFloor, ReadingBack, Commissioned, Refused, Standing, found_at, IsOver}
use Rattle.commissioning.specs.Asking.{asked_pdu, asked, request_frame}
use Rattle.commissioning.specs.Replies.{floor_written, read_back, stage_after}
use Rattle.commissioning.specs.Taking.{is_skipped, reply_in, taken, answer, outcome}
use Rattle.commissioning.specs.Runs.{Exchange, standing_after, exchanges, requests, request_by}
use Rattle.commissioning.proofs.Moves.{exchanged, replied, replied_at, exchanges-more}
use Rattle.commission_run.specs.Lines.{found_text, end_text, passed_text}
use Rattle.commission_run.specs.Course.{answered}
use Rattle.commission_run.specs.Arriving.{gained_text}

text_at : (inverter number : ℕ) (target : Target) (stage : Stage) → IsSome (option_map (request_frame target number) (asked_pdu target stage)) → end_text inverter stage ≡ []
text_at inverter number target (Discovering walk) asks = refl
text_at inverter number target (ReadingCapacity start base) asks = refl
text_at inverter number target (ReadingControls base wmax wsf) asks = refl
text_at inverter number target (WritingFloor found) asks = refl
text_at inverter number target (ReadingBack found) asks = refl
text_at inverter number target (Commissioned found) asks = absurd cc
text_at inverter number target (Refused error found) asks = refl

-- while a request is asked the line of the points is all that is due
pub text_asking : (inverter : ℕ) (standing : Standing) → IsSome (asked standing) → passed_text inverter standing.stage ≡ found_text (found_at standing.stage)
text_asking inverter standing asks =
    ap (λ (t : List ℕ). found_text (found_at standing.stage) ++ t) (text_at inverter standing.number standing.target standing.stage asks)
    ∙ append-nil (found_text (found_at standing.stage))

-- so it is after a refusal, and nothing is asked
pub text_refused : (inverter : ℕ) (stage : Stage) (fault : CommissionFault) → outcome stage ≡ Err fault → passed_text inverter stage ≡ found_text (found_at stage)
text_refused inverter (Refused error found) fault is = append-nil (found_text found)
text_refused inverter (Discovering walk) fault is = absurd cc
text_refused inverter (ReadingCapacity start base) fault is = absurd cc
text_refused inverter (ReadingControls base wmax wsf) fault is = absurd cc
text_refused inverter (WritingFloor found) fault is = absurd cc
text_refused inverter (ReadingBack found) fault is = absurd cc
text_refused inverter (Commissioned found) fault is = absurd cc

pub none_refused : (target : Target) (stage : Stage) (fault : CommissionFault) → outcome stage ≡ Err fault → asked_pdu target stage ≡ None
none_refused target (Refused error found) fault is = refl
none_refused target (Discovering walk) fault is = absurd cc
none_refused target (ReadingCapacity start base) fault is = absurd cc
none_refused target (ReadingControls base wmax wsf) fault is = absurd cc
none_refused target (WritingFloor found) fault is = absurd cc
none_refused target (ReadingBack found) fault is = absurd cc
none_refused target (Commissioned found) fault is = absurd cc

-- what isn't refused goes on
pub goes_on : (stage : Stage) (said : Took) → outcome stage ≡ Ok said → outcome stage ≡ Ok took.Taken
goes_on (Refused error found) said is = absurd cc
goes_on (Discovering walk) said is = refl
goes_on (ReadingCapacity start base) said is = refl
goes_on (ReadingControls base wmax wsf) said is = refl
goes_on (WritingFloor found) said is = refl
goes_on (ReadingBack found) said is = refl
goes_on (Commissioned found) said is = refl

-- the end that isn't a refusal
pub at_end : (stage : Stage) → outcome stage ≡ Ok took.Taken → IsOver stage → (found : Record702) × (stage ≡ Commissioned found)
at_end (Commissioned found) on over = (found, refl)
at_end (Refused error found) on over = absurd cc
at_end (Discovering walk) on over = absurd over
at_end (ReadingCapacity start base) on over = absurd over
at_end (ReadingControls base wmax wsf) on over = absurd over
at_end (WritingFloor found) on over = absurd over
at_end (ReadingBack found) on over = absurd over

-- nothing more was found
gained_none : (found : Option Record702) → found_text found ++ gained_text found found ≡ found_text found
gained_none None = refl
gained_none (Some found) = append-nil (found_text (Some found))

-- what was found stays
stays_at : (found : Record702) (later : Option Record702) → later ≡ Some found → found_text (Some found) ++ gained_text (Some found) later ≡ found_text later
stays_at found later is = append-nil (found_text (Some found)) ∙ ap found_text (sym is)

wrote_found : (found : Record702) (right : Bool) → found_at (cond right (ReadingBack found) (Refused fault.WrongReply (Some found))) ≡ Some found
wrote_found found true = refl
wrote_found found false = refl

floor_found : (port : PortRecord) (found : Record702) (heard : Option Reply) → found_at (floor_written port found heard) ≡ Some found
floor_found port found None = refl
floor_found port found (Some (reply.Regs values)) = refl
floor_found port found (Some (reply.Wrote start count)) = wrote_found found (eqb start (limit_address port) && eqb count 6)
floor_found port found (Some (reply.Exception function code)) = refl

shown_found : (found : Record702) (error : CommissionFault) (right : Bool) → found_at (cond right (Commissioned found) (Refused error (Some found))) ≡ Some found
shown_found found error true = refl
shown_found found error false = refl

back_found : (floor : ℕ) (found : Record702) (is : Judged) → found_at (read_back floor found is) ≡ Some found
back_found floor found (judged.Shows raw) = shown_found found (fault.Unfit point.Pct (pos floor) (pos raw)) (eqb raw floor)
back_found floor found (judged.Differs at wanted shown) = refl
back_found floor found (judged.Exception code) = refl
back_found floor found judged.WrongReply = refl
back_found floor found (judged.WrongNumber number) = refl
back_found floor found (judged.WrongUnit unit) = refl

gained_after : (target : Target) (stage : Stage) (heard : Option Reply)
    → found_text (found_at stage) ++ gained_text (found_at stage) (found_at (stage_after target stage heard)) ≡ found_text (found_at (stage_after target stage heard))
gained_after target (Discovering walk) heard = refl
gained_after target (ReadingCapacity start base) heard = refl
gained_after target (ReadingControls base wmax wsf) heard = refl
gained_after target (WritingFloor found) heard = stays_at found (found_at (floor_written target.port found heard)) (floor_found target.port found heard)
gained_after target (ReadingBack found) heard =
    let is = reply_judgement target.unit.floor target.rules.timer heard in
    stays_at found (found_at (read_back target.unit.floor found is)) (back_found target.unit.floor found is)
gained_after target (Commissioned found) heard = gained_none (Some found)
gained_after target (Refused error found) heard = gained_none found

pub taken_skipped : (standing : Standing) (frame : Frame) → is_skipped standing frame ≡ true → taken standing frame ≡ record standing { skipped = standing.skipped + 1 }
taken_skipped standing frame is = ap (λ (b : Bool). cond b (record standing { skipped = standing.skipped + 1 }) (replied standing frame)) is

pub taken_replied : (standing : Standing) (frame : Frame) → is_skipped standing frame ≡ false → taken standing frame ≡ replied standing frame
taken_replied standing frame is = ap (λ (b : Bool). cond b (record standing { skipped = standing.skipped + 1 }) (replied standing frame)) is

abbrev Gains : Standing → Standing → Type 0
Gains old new = found_text (found_at old.stage) ++ gained_text (found_at old.stage) (found_at new.stage) ≡ found_text (found_at new.stage)

gained_by : (standing : Standing) (frame : Frame) (skip : Bool) → is_skipped standing frame ≡ skip → Gains standing (taken standing frame)
gained_by standing frame true is = subst (Gains standing) (sym (taken_skipped standing frame is)) (gained_none (found_at standing.stage))
gained_by standing frame false is = subst (Gains standing) (sym (taken_replied standing frame is))
    (gained_after standing.target standing.stage (reply_in standing.target standing.number frame))

-- the line of the points is there once they were found
pub gained : (standing : Standing) (frame : Frame) → Gains standing (taken standing frame)
gained standing frame = gained_by standing frame (is_skipped standing frame) refl

said_by : {R : Result Took CommissionFault} (standing : Standing) (frame : Frame) (skip : Bool) → is_skipped standing frame ≡ skip → answer standing frame ≡ R
    → cond skip (Ok took.Skipped) (outcome (taken standing frame).stage) ≡ R
said_by standing frame skip is said = ap (λ (b : Bool). cond b (Ok took.Skipped) (outcome (taken standing frame).stage)) (sym is) ∙ said

on_by : (standing : Standing) (frame : Frame) (said : Took) (skip : Bool) → is_skipped standing frame ≡ skip → outcome standing.stage ≡ Ok took.Taken
    → answer standing frame ≡ Ok said → outcome (taken standing frame).stage ≡ Ok took.Taken
on_by standing frame said true is on says = ap (λ (s : Standing). outcome s.stage) (taken_skipped standing frame is) ∙ on
on_by standing frame said false is on says = goes_on (taken standing frame).stage said (said_by standing frame false is says)

-- it goes on where the frame isn't refused
pub still_on : (standing : Standing) (frame : Frame) (said : Took) → outcome standing.stage ≡ Ok took.Taken
    → answer standing frame ≡ Ok said → outcome (taken standing frame).stage ≡ Ok took.Taken
still_on standing frame said on says = on_by standing frame said (is_skipped standing frame) refl on says

refused_by : (standing : Standing) (frame : Frame) (fault : CommissionFault) (skip : Bool) → is_skipped standing frame ≡ skip
    → answer standing frame ≡ Err fault → (outcome (taken standing frame).stage ≡ Err fault) × (is_skipped standing frame ≡ false)
refused_by standing frame fault true is says = absurd (let e = said_by standing frame true is says in cc)
refused_by standing frame fault false is says = (said_by standing frame false is says, is)

-- a refusal is no skip
pub refused : (standing : Standing) (frame : Frame) (fault : CommissionFault)
    → answer standing frame ≡ Err fault → (outcome (taken standing frame).stage ≡ Err fault) × (is_skipped standing frame ≡ false)
refused standing frame fault says = refused_by standing frame fault (is_skipped standing frame) refl says

found_by : (standing : Standing) (frame : Frame) (skip : Bool) → is_skipped standing frame ≡ skip
    → found_at standing.stage ≡ None → IsSome (found_at (taken standing frame).stage) → is_skipped standing frame ≡ false
found_by standing frame false is none some = is
found_by standing frame true is none some =
    absurd (let same : found_at (taken standing frame).stage ≡ None = ap (λ (s : Standing). found_at s.stage) (taken_skipped standing frame is) ∙ none in cc)

-- what shows the points is no skip
pub found_new : (standing : Standing) (frame : Frame) → found_at standing.stage ≡ None → IsSome (found_at (taken standing frame).stage) → is_skipped standing frame ≡ false
found_new standing frame none some = found_by standing frame (is_skipped standing frame) refl none some

-- the request that a frame leads to is asked then
pub record IsAskedNext (standing : Standing) (frame request : Frame) : Type 0 where
  pub asked_then : asked (taken standing frame) ≡ Some request
  pub reply : is_skipped standing frame ≡ false

only_some : (asks : Option Frame) (request : Frame) → option_to_list asks ≡ request ∷ [] → asks ≡ Some request
only_some None request is = absurd cc
only_some (Some asks) request is = cc

asked_by : (standing : Standing) (frame request : Frame) (skip : Bool) → is_skipped standing frame ≡ skip
    → cond skip [] (option_to_list (asked (taken standing frame))) ≡ request ∷ [] → IsAskedNext standing frame request
asked_by standing frame request true is leads = absurd cc
asked_by standing frame request false is leads = record { asked_then = only_some (asked (taken standing frame)) request leads; reply = is }

pub asked_next : (standing : Standing) (frame request : Frame) → request_by standing frame ≡ request ∷ [] → IsAskedNext standing frame request
asked_next standing frame request leads = asked_by standing frame request (is_skipped standing frame) refl leads

answered_at : (target : Target) (frames : List Frame) (frame : Frame) (pdu : Option (List ℕ)) → asked_pdu (standing_after target frames).target (standing_after target frames).stage ≡ pdu
    → IsSome (asked (standing_after target frames)) → is_skipped (standing_after target frames) frame ≡ false
    → answered target (frames ++ frame ∷ []) ≡ requests target frames
answered_at target frames frame None is asks reply =
    let standing = standing_after target frames in
    absurd (let none : asked standing ≡ None = ap (option_map (request_frame standing.target standing.number)) is in cc)
answered_at target frames frame (Some pdu) is asks reply =
    let standing = standing_after target frames in
    let had = exchanges target frames in
    let some : asked standing ≡ Some (request_frame standing.target standing.number pdu) = ap (option_map (request_frame standing.target standing.number)) is in
    ap (λ (xs : List Exchange). map (λ x. x.request) xs) (exchanges-more target frames frame)
    ∙ ap (λ (xs : List Exchange). map (λ x. x.request) (had ++ xs)) (replied_at standing frame pdu is reply).ends
    ∙ map-append (λ (x : Exchange). x.request) had (exchanged standing pdu frame ∷ [])
    ∙ ap (λ (o : Option Frame). map (λ (x : Exchange). x.request) had ++ option_to_list o) (sym some)

-- a reply answers the last of the requests
pub answered-more : (target : Target) (frames : List Frame) (frame : Frame) → IsSome (asked (standing_after target frames))
    → is_skipped (standing_after target frames) frame ≡ false → answered target (frames ++ frame ∷ []) ≡ requests target frames
answered-more target frames frame asks reply =
    answered_at target frames frame (asked_pdu (standing_after target frames).target (standing_after target frames).stage) refl asks reply
