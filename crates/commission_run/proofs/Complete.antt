-- Where the replies of an inverter that is commissioned came and no call failed, there is no other end than done.
use Rattle.std.proofs.Common.{◌≡◌, ℕ, cond, List, [], ◌∷◌, ◌++◌, map, fold, false, Option, Some, None, Result, Ok, Err, refl, sym, ap, subst, ◌∙◌}
use Rattle.std.specs.Prelude.{IsOk, IsSome, is_some, is_err, OnOk, option_map}
use Rattle.std.specs.List.{AllByRecursion}
use Rattle.std.proofs.lemmas.List.Sums.{fold-append}
use Rattle.world_traits.specs.Causes.{HasCause, Rose}
use Rattle.world_traits.specs.Links.{Answer, Bytes, Quiet, Closed, Link, Links, Receipt, received_bytes, all_links, after_dial, after_hang_up}
use Rattle.world_traits.specs.declared.dialer.DialFailed.{DialFailed}
use Rattle.mbap_frames.specs.declared.frame.Frame.{Frame}
use Rattle.mbap_frames.proofs.Streams.{first_frames, one_reading}
use Rattle.commissioning.specs.declared.fault.CommissionFault.{CommissionFault}
use Rattle.commissioning.specs.declared.target.Target.{Target}
use Rattle.commissioning.specs.Stage.{Stage, Standing, Commissioned}
use Rattle.commissioning.specs.Asking.{asked, asked_pdu, request_frame, start}
use Rattle.commissioning.specs.Taking.{taken, outcome}
use Rattle.commissioning.specs.Runs.{after, standing_after}
use Rattle.commissioning.proofs.Moves.{standing_after-taken}
use Rattle.commission_run.specs.declared.stop.Stop.TheVariants.{WriteFailed, Refused}
use Rattle.commission_run.specs.declared.stop.Refusal.TheVariants as by
use Rattle.commission_run.specs.Course.{with_past_link}
use Rattle.commission_run.specs.Ends.{Outcome, at_dialer, at_output, Commission, TakesFault, IsCourse, HasReplies}
use Rattle.commission_run.specs.Arriving.{with_current}
use Rattle.commission_run.proofs.Stages.{refused, none_refused}

-- nothing is taken once nothing is asked
over_stays : (standing : Standing) (frames : List Frame) → asked standing ≡ None → fold after standing frames ≡ standing
over_stays standing [] none = refl
over_stays standing (frame ∷ frames) none =
    let stays : after standing frame ≡ standing = ap (λ (o : Option Frame). cond (is_some o) (taken standing frame) standing) none in
    ap (λ (s : Standing). fold after s frames) stays ∙ over_stays standing frames none

-- the last answer isn't among answers that there are none of
last_not : (receipts : List Receipt) (front : List Answer) (last : Answer) → map (λ receipt. receipt.answer) receipts ≡ front ++ last ∷ []
    → AllByRecursion (λ receipt. receipt.answer ≡ last → ⊥) receipts → ⊥
last_not [] [] last is none = absurd cc
last_not [] (first ∷ front) last is none = absurd cc
last_not (receipt ∷ receipts) [] last is none = none.0 cc
last_not (receipt ∷ receipts) (first ∷ front) last is none = last_not receipts front last (cc) none.1

-- nothing is asked at the end
none_at_end : (target : Target) (frames : List Frame) → Commission target frames → asked (standing_after target frames) ≡ None
none_at_end target frames (found, is) =
    let standing = standing_after target frames in
    ap (λ (stage : Stage). option_map (request_frame standing.target standing.number) (asked_pdu standing.target stage)) is

asks_at_end : (target : Target) (frames : List Frame) → Commission target frames → IsSome (asked (standing_after target frames)) → ⊥
asks_at_end target frames done asks = let none = none_at_end target frames done in cc

-- what leads to a fault doesn't lead to the end
fault_at_end : (target : Target) (frames later : List Frame) (fault : CommissionFault) → TakesFault target frames fault → Commission target (frames ++ later) → ⊥
fault_at_end target frames later fault (before, last, is, asks, says) (found, done) =
    let standing = standing_after target before in
    let at : standing_after target frames ≡ taken standing last = ap (λ (fs : List Frame). standing_after target fs) is ∙ standing_after-taken target before last asks in
    let failed : outcome (standing_after target frames).stage ≡ Err fault = ap (λ (s : Standing). outcome s.stage) at ∙ (refused standing last fault says).0 in
    let now = standing_after target frames in
    let none : asked now ≡ None = ap (option_map (request_frame now.target now.number)) (none_refused now.target now.stage fault failed) in
    let same : standing_after target (frames ++ later) ≡ now = fold-append after (start target) frames later ∙ over_stays now later none in
    let stays : now.stage ≡ Commissioned found = ap (λ (s : Standing). s.stage) (sym same) ∙ done in
    let fine = sym (ap outcome stays) ∙ failed in
    absurd cc

pub complete : (ends : Outcome) (target : Target) (inverter : ℕ) (frames : List Frame) (link : Link) (old new : Option (List ℕ)) (dialer_old dialer_new output_old output_new : ℕ)
    → IsCourse target inverter ends frames link old new → HasReplies target link
    → HasCause dialer_old dialer_new (at_dialer ends) → HasCause output_old output_new (at_output ends)
    → (Rose dialer_old dialer_new → ⊥) → (Rose output_old output_new → ⊥) → IsOk ends
complete (Ok done) target inverter frames link old new dialer_old dialer_new output_old output_new course replies dialer output works wrote = refl
complete (Err WriteFailed) target inverter frames link old new dialer_old dialer_new output_old output_new course replies dialer output works wrote = absurd (wrote output.failed)
complete (Err (Refused by.Dial)) target inverter frames link old new dialer_old dialer_new output_old output_new course replies dialer output works wrote = absurd (works dialer.failed)
complete (Err (Refused by.Send)) target inverter frames link old new dialer_old dialer_new output_old output_new course replies dialer output works wrote = absurd (works dialer.failed)
complete (Err (Refused by.Recv)) target inverter frames link old new dialer_old dialer_new output_old output_new course replies dialer output works wrote = absurd (works dialer.failed)
complete (Err (Refused by.Quiet)) target inverter frames link old new dialer_old dialer_new output_old output_new course replies dialer output works wrote =
    absurd (last_not link.receipts (map Bytes course.answers.0) Quiet course.answers.1 replies.heard)
complete (Err (Refused by.Closed)) target inverter frames link old new dialer_old dialer_new output_old output_new course replies dialer output works wrote =
    absurd (last_not link.receipts (map Bytes course.answers.0) Closed course.answers.1 replies.open_link)
complete (Err (Refused (by.BadFrame fault))) target inverter frames link old new dialer_old dialer_new output_old output_new course replies dialer output works wrote =
    let bad = course.cause.1 in
    let same = (one_reading (received_bytes link) frames replies.frames bad.0 replies.rest bad.1 replies.stream).0 in
    absurd (asks_at_end target frames (subst (Commission target) (sym same) replies.end) course.cause.0)
complete (Err (Refused (by.Commission fault))) target inverter frames link old new dialer_old dialer_new output_old output_new course replies dialer output works wrote =
    let first = first_frames frames replies.frames course.first.1 replies.rest course.first.0 replies.stream.each replies.stream.end (sym course.first.2 ∙ replies.stream.whole) in
    absurd (fault_at_end target frames first.later fault course.cause (subst (Commission target) first.frames_are replies.end))

same_last : (links : List Link) (link other : Link) → links ++ link ∷ [] ≡ links ++ other ∷ [] → link ≡ other
same_last [] link other is = cc
same_last (first ∷ links) link other is = same_last links link other (cc)

abbrev past_of : Option Links → List Link
past_of None = []
past_of (Some links) = links.past

-- the record has one last link
pub one_link : (before : Links) (link other : Link) → Some (with_past_link link before) ≡ Some (with_past_link other before) → link ≡ other
one_link before link other is = same_last (all_links before) link other (ap past_of is)

-- what holds of a dial that worked
pub on_ok : {T E X : Type 0} (result : Result T E) → is_err result ≡ false → OnOk result X → X
on_ok (Ok done) works is = is
on_ok (Err error) works is = absurd cc

-- a dial that worked, what passed over the link, and the hang-up
pub dialed_over : (told dialed talked over : Option Links) (host : List ℕ) (port : ℕ) (result : Result (Unit {0}) DialFailed) (link : Link) → is_err result ≡ false
    → dialed ≡ option_map (after_dial host port result) told → option_map after_hang_up talked ≡ option_map (λ links. after_hang_up (with_current link links)) dialed
    → over ≡ option_map after_hang_up talked → over ≡ option_map (with_past_link link) told
dialed_over told dialed talked over host port (Err error) link works is passed ends = absurd cc
dialed_over None dialed talked over host port (Ok done) link works is passed ends = ends ∙ passed ∙ ap (λ (o : Option Links). option_map (λ links. after_hang_up (with_current link links)) o) is
dialed_over (Some links) dialed talked over host port (Ok done) link works is passed ends = ends ∙ passed ∙ ap (λ (o : Option Links). option_map (λ links. after_hang_up (with_current link links)) o) is
