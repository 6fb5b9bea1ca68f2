-- A frame that came is handed to a commissioning.
use Rattle.std.proofs.Common.{◌≡◌, ℕ, Bool, true, false, cond, List, [], Option, Some, None, Result, Ok, Err, IfErr, OnOk, refl, sym, ap, ◌∙◌}
use Rattle.std.specs.Prelude.{option_to_list}
use Rattle.std.specs.Option.{option_map}
use Rattle.std.specs.Io.KnownBytes.{Appends}
use Rattle.world_traits.specs.Links.{Links, with_bytes}
use Rattle.mbap_frames.specs.declared.frame.Frame.{Frame}
use Rattle.mbap_frames.specs.Stream.{frames_spelling}
use Rattle.commissioning.specs.declared.commission.Took.TheVariants as took
use Rattle.commissioning.specs.Stage.{Standing}
use Rattle.commissioning.specs.Asking.{asked}
use Rattle.commissioning.specs.Taking.{is_skipped, taken, answer}
use Rattle.commissioning.specs.Runs.{request_by}
use Rattle.commission_run.specs.declared.stop.Stop.{Stop}
use Rattle.commission_run.specs.declared.stop.Stop.TheVariants.{WriteFailed, Refused}
use Rattle.commission_run.specs.declared.stop.Refusal.{Refusal}
use Rattle.commission_run.specs.declared.stop.Refusal.TheVariants as by
use Rattle.commission_run.specs.Arriving.{CutsShort, IsHandled}

request_at : (standing : Standing) (frame : Frame) (skip : Bool) → is_skipped standing frame ≡ skip → answer standing frame ≡ Ok took.Taken
    → request_by standing frame ≡ option_to_list (asked (taken standing frame))
request_at standing frame false is said = ap (λ (b : Bool). cond b [] (option_to_list (asked (taken standing frame)))) is
request_at standing frame true is said = absurd cc

-- a reply leads to the request that is asked then
pub request_next : (standing : Standing) (frame : Frame) → answer standing frame ≡ Ok took.Taken → request_by standing frame ≡ option_to_list (asked (taken standing frame))
request_next standing frame said = request_at standing frame (is_skipped standing frame) refl said

cut_at : (refusal : Refusal) (standing : Standing) (frame : Frame) (request : Option Frame) (old new : Option Links) (text : List ℕ) (before after : Option (List ℕ)) → request_by standing frame ≡ option_to_list request
    → Appends before after text → CutsShort (Refused refusal) request old new
    → IsHandled (Err (Refused refusal)) standing frame old new text before after
cut_at by.Send standing frame (Some request) old new text before after is wrote cut = (request, is, wrote, cut)
cut_at by.Send standing frame None old new text before after is wrote cut = absurd cut
cut_at by.Dial standing frame request old new text before after is wrote cut = absurd cut
cut_at by.Recv standing frame request old new text before after is wrote cut = absurd cut
cut_at by.Quiet standing frame request old new text before after is wrote cut = absurd cut
cut_at by.Closed standing frame request old new text before after is wrote cut = absurd cut
cut_at (by.BadFrame fault) standing frame request old new text before after is wrote cut = absurd cut
cut_at (by.Commission fault) standing frame request old new text before after is wrote cut = absurd cut

-- a reply was handled where the request behind it was sent, or cut short
pub handled_by_reply : (result : Result (Unit {0}) Stop) (standing : Standing) (frame : Frame) (old new : Option Links) (text : List ℕ) (before after : Option (List ℕ)) → answer standing frame ≡ Ok took.Taken
    → Appends before after text → OnOk result (new ≡ option_map (with_bytes (frames_spelling (option_to_list (asked (taken standing frame))))) old)
    → IfErr result (λ stop. CutsShort stop (asked (taken standing frame)) old new)
    → IsHandled result standing frame old new text before after
handled_by_reply (Ok done) standing frame old new text before after said wrote sent cut =
    (took.Taken, said, wrote, sent ∙ ap (λ (fs : List Frame). option_map (with_bytes (frames_spelling fs)) old) (sym (request_next standing frame said)))
handled_by_reply (Err WriteFailed) standing frame old new text before after said wrote sent cut = absurd cut
handled_by_reply (Err (Refused refusal)) standing frame old new text before after said wrote sent cut =
    cut_at refusal standing frame (asked (taken standing frame)) old new text before after (request_next standing frame said) wrote cut
