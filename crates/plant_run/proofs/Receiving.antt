-- The bytes that were sent on a link before each of its receives.
use Rattle.std.proofs.Common.{◌≡◌, ℕ, List, [], ◌∷◌, ◌++◌, length, ◌⊎◌, inl, inr, Option, Some, refl, sym, ap, subst, ◌∙◌, append-nil, append_assoc}
use Rattle.std.specs.List.{AllByRecursion, flat_map}
use Rattle.std.proofs.lemmas.List.{append_cancel_left}
use Rattle.std.proofs.lemmas.List.Concat.{flat_map-append}
use Rattle.world_traits.specs.Links.{Receipt, Link, Links, all_links}
use Rattle.mbap_frames.specs.Frame.{frame_spelling}
use Rattle.inverter_worker.specs.declared.job.Job.{Job}
use Rattle.inverter_worker.specs.declared.input.Input.{Input}
use Rattle.inverter_worker.specs.declared.input.Input.TheVariants as input
use Rattle.inverter_worker.specs.declared.output.Output.{Output}
use Rattle.inverter_worker.specs.declared.output.Output.TheVariants as output
use Rattle.inverter_worker.specs.Runs.{RunStep}
use Rattle.plant_run.specs.Acts.{Act, acts, on_links, Attempt, Whole, CutShort, attempt_in, attempts, HaveSent, whole, IsCounted, AreCounted, EndsWhole, IsAfterWhole, AreAfterWhole}
use Rattle.plant_run.proofs.Waiting.{WaitsFollow}
use Rattle.plant_run.specs.Agreement.{AgreesEach, NewLinksAgree, LinksAgree, EachAfterWhole, ReceivesFollow}

-- the bytes of those of these frames that went out whole
abbrev whole_of : Attempt → List ℕ
whole_of (Whole frame) = frame_spelling frame
whole_of (CutShort frame) = []

abbrev bytes_of : List Attempt → List ℕ
bytes_of before = flat_map whole_of before

whole_is : (job : Job) (put : Output) (came : Input) → whole (attempt_in job put came) ≡ bytes_of (attempt_in job put came)
whole_is job (output.Send request clock) input.SentAll = sym (append-nil _)
whole_is job (output.Send request clock) input.SendFailed = refl
whole_is job put came = refl

more_bytes : (job : Job) (put : Output) (came : Input) (before : List Attempt) (sofar : List ℕ) → sofar ≡ bytes_of before
    → sofar ++ whole (attempt_in job put came) ≡ bytes_of (before ++ attempt_in job put came)
more_bytes job put came before sofar is =
    ap (λ (t : List ℕ). t ++ whole (attempt_in job put came)) is ∙ ap (λ (t : List ℕ). bytes_of before ++ t) (whole_is job put came)
    ∙ sym (flat_map-append whole_of before (attempt_in job put came))

-- what is still to be sent: these bytes, or nothing more
abbrev Rest : Job → List Act → List ℕ → Type 0
Rest job done rest = HaveSent (attempts job done) rest ⊎ (attempts job done ≡ [])

cut_last : (others : List Attempt) (frame : _) (rest : List ℕ) → HaveSent (CutShort frame ∷ others) rest → others ≡ []
cut_last [] frame rest sent = refl
cut_last (another ∷ others) frame rest sent = absurd sent

record Goes (job : Job) (sent sofar : List ℕ) (later : List Act) : Type 0 where
  rest : List ℕ
  stands : sent ≡ sofar ++ rest
  still : Rest job later rest

goes_on : (job : Job) (put : Output) (came : Input) (sent sofar rest : List ℕ) (later : List Act) → sent ≡ sofar ++ rest
    → Rest job (record { output = put; came = came } ∷ later) rest → Goes job sent (sofar ++ whole (attempt_in job put came)) later
goes_on job (output.Send request clock) input.SentAll sent sofar rest later stands (inl is) = record {
  rest = is.0;
  stands = stands ∙ ap (λ (t : List ℕ). sofar ++ t) is.1 ∙ sym (append_assoc sofar _ is.0);
  still = inl is.2;
}
goes_on job (output.Send request clock) input.SentAll sent sofar rest later stands (inr is) = absurd cc
goes_on job (output.Send request clock) input.SendFailed sent sofar rest later stands (inl is) = record {
  rest = rest;
  stands = stands ∙ ap (λ (t : List ℕ). t ++ rest) (sym (append-nil sofar));
  still = inr (cut_last (attempts job later) _ rest is);
}
goes_on job (output.Send request clock) input.SendFailed sent sofar rest later stands (inr is) = absurd cc
goes_on job put came sent sofar rest later stands still = record {
  rest = rest;
  stands = stands ∙ ap (λ (t : List ℕ). t ++ rest) (sym (append-nil sofar));
  still = still;
}

behind_whole : (sent sofar rest : List ℕ) (before : List Attempt) (act : Act) (receipt : Receipt) → sent ≡ sofar ++ rest → sofar ≡ bytes_of before
    → (act.output ≡ output.Receive → EndsWhole before) → IsCounted act sofar receipt → IsAfterWhole sent before act receipt
behind_whole sent sofar rest before act receipt stands is follows counted =
    let ends = follows counted.waits in
    let last : sofar ≡ bytes_of ends.earlier ++ frame_spelling ends.frame =
    is ∙ ap bytes_of ends.is ∙ flat_map-append whole_of ends.earlier (Whole ends.frame ∷ [])
    ∙ ap (λ (t : List ℕ). bytes_of ends.earlier ++ t) (append-nil (frame_spelling ends.frame)) in
    record {
      waits = counted.waits;
      whole = ends;
      bytes = bytes_of ends.earlier;
      behind = rest;
      stands = stands ∙ ap (λ (t : List ℕ). t ++ rest) last ∙ append_assoc (bytes_of ends.earlier) (frame_spelling ends.frame) rest;
      count = counted.count ∙ ap (length {A = ℕ}) last;
    }

all_behind : (sent sofar rest : List ℕ) (before : List Attempt) (act : Act) (receipts : List Receipt) → sent ≡ sofar ++ rest → sofar ≡ bytes_of before
    → (act.output ≡ output.Receive → EndsWhole before) → AllByRecursion (IsCounted act sofar) receipts → AllByRecursion (IsAfterWhole sent before act) receipts
all_behind sent sofar rest before act [] stands is follows counted = tt
all_behind sent sofar rest before act (receipt ∷ receipts) stands is follows counted = (
  behind_whole sent sofar rest before act receipt stands is follows counted.0,
  all_behind sent sofar rest before act receipts stands is follows counted.1,
)

after_whole : (job : Job) (done : List Act) (sent sofar rest : List ℕ) (before : List Attempt) (receipts : List Receipt) → sent ≡ sofar ++ rest
    → sofar ≡ bytes_of before → Rest job done rest → WaitsFollow job before done → AreCounted job sofar done receipts → AreAfterWhole job sent before done receipts
after_whole job [] sent sofar rest before receipts stands is still follows counted = counted
after_whole job (act ∷ done) sent sofar rest before receipts stands is still follows counted =
    let goes = goes_on job act.output act.came sent sofar rest done stands still in (
      counted.0,
      counted.1,
      counted.2,
      all_behind sent sofar rest before act counted.0 stands is follows.0 counted.3,
      after_whole job done sent (sofar ++ whole (attempt_in job act.output act.came)) goes.rest (before ++ attempt_in job act.output act.came) counted.1 goes.stands
          (more_bytes job act.output act.came before sofar is) goes.still follows.1 counted.4,
    )

each : (job : Job) (parts : List (List Act)) (links : List Link) → AgreesEach job parts links → AllByRecursion (WaitsFollow job []) parts → EachAfterWhole job parts links
each job [] [] agree follows = tt
each job (done ∷ parts) (link ∷ links) agree follows = (
  after_whole job done link.sent [] link.sent [] link.receipts refl refl (inl agree.0.sent) follows.0 agree.0.counted,
  each job parts links agree.1 follows.1,
)
each job [] (link ∷ links) agree follows = absurd agree
each job (done ∷ parts) [] agree follows = absurd agree

some_same : (a b : Links) → Some a ≡ Some b → a ≡ b
some_same a b is = cc

pub receives_follow : (job : Job) (run : List RunStep) (links links_now : Option Links) → LinksAgree job run links links_now
    → AllByRecursion (WaitsFollow job []) (on_links (acts output.Nothing run)) → ReceivesFollow job run links links_now
receives_follow job run links links_now agree follows before after told told_now made all =
    let new : NewLinksAgree job (acts output.Nothing run) before links_now = agree before told in
    let same : new.after ≡ after = some_same new.after after (sym new.told ∙ told_now) in
    let gained : new.made ≡ made = append_cancel_left (all_links before) new.made made (sym new.all ∙ ap all_links same ∙ all) in
    let P : List Link → Type 0 = λ t. EachAfterWhole job (on_links (acts output.Nothing run)) t in
    subst P gained (each job (on_links (acts output.Nothing run)) new.made new.agree follows)
