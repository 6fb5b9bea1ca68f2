-- The replies of exchanges lead to the stage at which these have passed.
use Rattle.std.proofs.Common.{◌≡◌, ℕ, ◌+◌, ℤ, pos, Bool, true, false, cond, eqb, not, ◌&&◌, ltb, List, [], ◌∷◌, ◌++◌, length, map, Option, Some, None, Result, Ok, Err, refl, sym, ◌∙◌, ap, subst, length-append, arith}
use Rattle.std.specs.Prelude.{IsSome}
use Rattle.std.specs.Option.{option_or, option_map_or}
use Rattle.std.proofs.lemmas.Bool.{eq-eqb, and_from}
use Rattle.std.proofs.lemmas.Bool.Decides.{Decides-int_eq}
use Rattle.std.proofs.lemmas.List.{map-append}
use Rattle.limiter_num.specs.declared.rating.Point.{Point}
use Rattle.limiter_num.specs.declared.rating.Point.TheVariants as point
use Rattle.modbus_pdu.specs.declared.pdu.Reply.{Reply}
use Rattle.modbus_pdu.specs.declared.pdu.Reply.TheVariants as reply
use Rattle.mbap_frames.specs.declared.frame.Frame.{Frame}
use Rattle.der_models.specs.Models.{raw_wmax, raw_wsf, raw_psf}
use Rattle.model_discovery.specs.declared.found.Found.{Found}
use Rattle.model_discovery.specs.Map.{Answer}
use Rattle.model_discovery.specs.WalkState.{Place, Seeking, Reading, Finished, Failed, WalkState, walk_after, next_read}
use Rattle.readback.specs.Frames.{read_pdu, limit_address, read_back_pdu}
use Rattle.readback.specs.Replies.{reply_of}
use Rattle.readback.specs.Judging.{reply_judgement}
use Rattle.commissioning.specs.declared.fault.CommissionFault.{CommissionFault}
use Rattle.commissioning.specs.declared.fault.CommissionFault.TheVariants as fault
use Rattle.commissioning.specs.declared.found.Record702.{Record702}
use Rattle.commissioning.specs.declared.target.Target.{Target}
use Rattle.commissioning.specs.Stage.{Stage, Discovering, ReadingCapacity, ReadingControls, WritingFloor, ReadingBack, Commissioned, Refused, Standing}
use Rattle.commissioning.specs.Asking.{wanted_pdu, asked_pdu, start}
use Rattle.commissioning.specs.Replies.{block_of, start_of, walk_stage, walked, discovered, capacity_read, unlike, misfit, compared, controls_read, floor_written, read_back, stage_after}
use Rattle.commissioning.specs.Taking.{is_skipped, reply_in}
use Rattle.commissioning.specs.Runs.{Exchange, after, standing_after, exchange_by, exchanges}
use Rattle.commissioning.specs.Passed.{exchange_behind, Follows, Tells, IsWalked, begins, goes_on, IsDiscovered, HasCapacity, HasControls, IsFit, IsWritten, IsCommissioned, Reached, IsAt}
use Rattle.commissioning.proofs.Moves.{replied, replied_at, standing_after-more, exchanges-more}

abbrev replies_of : List Exchange → List Frame
replies_of all = map (λ x. x.reply) all

-- a commissioning that has had these exchanges, at a stage
abbrev stands : Target → List Exchange → Stage → Standing
stands target all stage = record { target = target; stage = stage; number = length all + 1; skipped = 0 }

not_skipped : (same few : Bool) → same ≡ true → (not same && few) ≡ false
not_skipped true few e = refl
not_skipped false few e = absurd cc

heard : (target : Target) (all all' : List Exchange) (pdu : List ℕ) (answer : Reply) → (next : Follows target all pdu answer all')
    → reply_in target (length all + 1) next.came ≡ Some answer
heard target all all' pdu answer next =
    let number : eqb next.came.transaction (length all + 1) ≡ true = eq-eqb _ _ next.number in
    let unit : eqb next.came.unit target.port.unit ≡ true = eq-eqb _ _ next.unit in
    ap (λ (b : Bool). cond b (reply_of next.came.pdu) None) (and_from _ _ number unit) ∙ next.reply

-- one exchange more
at_more : (target : Target) (all all' : List Exchange) (stage : Stage) (pdu : List ℕ) (answer : Reply) → IsAt target all stage
    → asked_pdu target stage ≡ Some pdu → Follows target all pdu answer all' → IsAt target all' (stage_after target stage (Some answer))
at_more target all all' stage pdu answer here asks next =
    let standing = stands target all stage in
    let number : eqb next.came.transaction (length all + 1) ≡ true = eq-eqb _ _ next.number in
    let skip : is_skipped standing next.came ≡ false = not_skipped _ (ltb 0 7) number in
    let goes = replied_at standing next.came pdu asks skip in
    let frames : replies_of all' ≡ replies_of all ++ next.came ∷ [] =
    ap replies_of next.exchange ∙ map-append (λ (x : Exchange). x.reply) all (exchange_behind target all pdu next.came ∷ []) in
    let longer : length all' ≡ length all + 1 =
    ap length next.exchange ∙ omega (arith, length-append all (exchange_behind target all pdu next.came ∷ [])) in
    let stage_is : replied standing next.came ≡ stands target all' (stage_after target stage (Some answer)) =
    rw (heard target all all' pdu answer next, longer) refl in
    record {
      standing = ap (standing_after target) frames ∙ standing_after-more target (replies_of all) next.came
          ∙ ap (λ (s : Standing). after s next.came) here.standing ∙ goes.goes ∙ stage_is;
      had = ap (exchanges target) frames ∙ exchanges-more target (replies_of all) next.came
          ∙ ap (λ (s : Standing). exchanges target (replies_of all) ++ exchange_by s next.came) here.standing
          ∙ ap (λ (xs : List Exchange). xs ++ exchange_by standing next.came) here.had
          ∙ ap (λ (xs : List Exchange). all ++ xs) goes.ends ∙ sym next.exchange;
    }

at_stage : (target : Target) (all : List Exchange) (stage stage' : Stage) → stage ≡ stage' → IsAt target all stage → IsAt target all stage'
at_stage target all stage stage' e here = subst (IsAt target all) e here

-- a walk that wants a read is gone on with
goes_on_with : (place : Place) (models : List Found) → IsSome (wanted_pdu (next_read place))
    → walk_stage place models ≡ Discovering (record { place = place; models = models })
goes_on_with (Seeking base left) models some = refl
goes_on_with (Reading next) models some = refl
goes_on_with Finished models some = absurd cc
goes_on_with (Failed error) models some = absurd cc

block_right : (count : ℕ) (values : List ℕ) → length values ≡ count → block_of count (Some (reply.Regs values)) ≡ Ok values
block_right count values e =
    ap (λ (b : Bool). cond {A = Result (List ℕ) CommissionFault} b (Ok values) (Err fault.WrongReply)) (eq-eqb (length values) count e)

told_right : (walk : WalkState) (answer : Reply) (told' : Answer) → Tells answer told' → discovered walk (block_of 2 (Some answer)) ≡ walked (walk_after walk told')
told_right walk (reply.Regs values) told' tells =
    ap (discovered walk) (block_right 2 values tells.0) ∙ ap (λ (a : Answer). walked (walk_after walk a)) (sym tells.1)
told_right walk (reply.Exception function code) told' tells =
    ap (λ (f : ℕ). discovered walk (block_of 2 (Some (reply.Exception f code)))) tells.0 ∙ ap (λ (a : Answer). walked (walk_after walk a)) (sym tells.1)
told_right walk (reply.Wrote start count) told' tells = absurd tells

walked_at : (target : Target) {all : List Exchange} {walk : WalkState} → IsWalked target all walk → IsAt target all (walked walk)
walked_at target begins = record { standing = refl; had = refl }
walked_at target (goes_on {before} {all} {walk} {after = after'} start' count answer told' walked' wants next tells is) =
    let asks : wanted_pdu (next_read walk.place) ≡ Some (read_pdu start' count) = ap wanted_pdu wants in
    let some : IsSome (wanted_pdu (next_read walk.place)) = rw asks refl in
    let here : IsAt target before (Discovering walk) =
    at_stage target before (walked walk) (Discovering walk) (goes_on_with walk.place walk.models some) (walked_at target walked') in
    at_stage target all (discovered walk (block_of 2 (Some answer))) (walked after') (told_right walk answer told' tells ∙ ap walked (sym is))
    (at_more target before all (Discovering walk) (read_pdu start' count) answer here asks next)

discovered_at : (target : Target) (all : List Exchange) (start' base : ℕ) → IsDiscovered target all start' base → IsAt target all (ReadingCapacity start' base)
discovered_at target all start' base is =
    let one : start_of 702 is.models ≡ start' =
    ap (λ (o : Option Found). option_map_or (λ (m : Found). m.start) o 0) is.first_capacity ∙ sym is.capacity_start in
    let other : start_of 704 is.models ≡ base =
    ap (λ (o : Option Found). option_map_or (λ (m : Found). m.start) o 0) is.first_controls ∙ sym is.controls_start in
    let stage : ReadingCapacity (start_of 702 is.models) (start_of 704 is.models) ≡ ReadingCapacity start' base = cc (one, other) in
    at_stage target all _ _ stage (walked_at target is.walked)

capacity_at : (target : Target) (all : List Exchange) (base wmax : ℕ) (wsf : ℤ) → HasCapacity target all base wmax wsf
    → IsAt target all (ReadingControls base wmax wsf)
capacity_at target all base wmax wsf has =
    let here = discovered_at target has.before has.start base has.discovered in
    let wmax_is = has.wmax_is in
    let wsf_is = has.wsf_is in
    let stage : ReadingControls base (raw_wmax has.values) (raw_wsf has.values) ≡ ReadingControls base wmax wsf = cc in
    at_stage target all _ _ (ap (capacity_read base) (block_right 46 has.values has.size) ∙ stage)
    (at_more target has.before all (ReadingCapacity has.start base) (read_pdu has.start 46) (reply.Regs has.values) here refl has.block)

alike : (at : Point) (x y : ℤ) → x ≡ y → unlike at x y ≡ None
alike at x y e = ap (λ (b : Bool). cond {A = Option CommissionFault} b None (Some (fault.Unfit at x y))) ((Decides-int_eq x y).1 e)

none_of : (a b c d : Option CommissionFault) → a ≡ None → b ≡ None → c ≡ None → d ≡ None → option_or (option_or (option_or a b) c) d ≡ None
none_of a b c d p q r s = rw (p, q, r, s) refl

fit : (target : Target) (found : Record702) → IsFit target found → misfit target.unit target.port found ≡ None
fit target found is =
    let rating = target.unit.rating in
    let base : unlike point.Base (pos target.port.base) (pos found.base) ≡ None = alike point.Base _ _ (ap pos (sym is.base)) in
    let wmax : unlike point.WMax (pos rating.wmax) (pos found.wmax) ≡ None = alike point.WMax _ _ (ap pos (sym is.wmax)) in
    let wsf : unlike point.WSf rating.wsf found.wsf ≡ None = alike point.WSf _ _ (sym is.wsf) in
    let psf : unlike point.PctSf rating.psf found.psf ≡ None = alike point.PctSf _ _ (sym is.psf) in
    none_of _ _ _ _ base wmax wsf psf

controls_at : (target : Target) (all : List Exchange) (found : Record702) → HasControls target all found → IsFit target found
    → IsAt target all (WritingFloor found)
controls_at target all found has is =
    let here = capacity_at target has.before found.base found.wmax found.wsf has.capacity in
    let psf = has.psf_is in
    let found_is : compared target.unit target.port (record { base = found.base; wmax = found.wmax; wsf = found.wsf; psf = raw_psf has.values })
    ≡ compared target.unit target.port found =
    ap (λ (p : ℤ). compared target.unit target.port (record { base = found.base; wmax = found.wmax; wsf = found.wsf; psf = p })) (sym psf) in
    let stage : compared target.unit target.port found ≡ WritingFloor found =
    ap (λ (o : Option CommissionFault). option_map_or (λ e. Refused e (Some found)) o (WritingFloor found)) (fit target found is) in
    at_stage target all _ _
    (ap (controls_read target.unit target.port found.base found.wmax found.wsf) (block_right 55 has.values has.size) ∙ found_is ∙ stage)
    (at_more target has.before all (ReadingControls found.base found.wmax found.wsf) (read_pdu found.base 55) (reply.Regs has.values) here refl has.block)

written_at : (target : Target) (all : List Exchange) (found : Record702) → IsWritten target all found → IsAt target all (ReadingBack found)
written_at target all found is =
    let here = controls_at target is.before found is.controls is.fit in
    let address = limit_address target.port in
    let stage : floor_written target.port found (Some (reply.Wrote address 6)) ≡ ReadingBack found =
    ap (λ (b : Bool). cond b (ReadingBack found) (Refused fault.WrongReply (Some found))) (and_from _ _ (eq-eqb address address refl) refl) in
    at_stage target all _ _ stage
    (at_more target is.before all (WritingFloor found) _ (reply.Wrote address 6) here refl is.write)

pub commissioned_at : (target : Target) (all : List Exchange) (found : Record702) → IsCommissioned target all found → IsAt target all (Commissioned found)
commissioned_at target all found is =
    let here = written_at target is.before found is.written in
    let floor = target.unit.floor in
    let stage : read_back floor found (reply_judgement floor target.rules.timer (Some is.answer)) ≡ Commissioned found =
    ap (read_back floor found) is.shows
    ∙ ap (λ (b : Bool). cond b (Commissioned found) (Refused (fault.Unfit point.Pct (pos floor) (pos floor)) (Some found))) (eq-eqb floor floor refl) in
    at_stage target all _ _ stage
    (at_more target is.before all (ReadingBack found) (read_back_pdu target.port) is.answer here refl is.read_back)

pub reached_at : (target : Target) (all : List Exchange) (stage : Stage) → Reached target all stage → IsAt target all stage
reached_at target all (Discovering walk) is =
    at_stage target all (walked walk) (Discovering walk) (goes_on_with walk.place walk.models is.1) (walked_at target is.0)
reached_at target all (ReadingCapacity start' base) is = discovered_at target all start' base is
reached_at target all (ReadingControls base wmax wsf) is = capacity_at target all base wmax wsf is
reached_at target all (WritingFloor found) is = controls_at target all found is.0 is.1
reached_at target all (ReadingBack found) is = written_at target all found is
reached_at target all (Commissioned found) is = absurd is
reached_at target all (Refused error found) is = absurd is
