-- What the ends of `commission` say.
use Rattle.std.proofs.Common.{◌≡◌, ℕ, inl, inr, map, List, [], ◌∷◌, ◌++◌, length, Option, Some, Ok, Err, refl, sym, ap, subst, ◌∙◌, arith}
use Rattle.std.specs.Prelude.{IfSome, IsOk}
use Rattle.world_traits.specs.Links.{Answer, Bytes, Quiet, Closed, Failed, Link, Receipt}
use Rattle.mbap_frames.specs.declared.frame.FrameFault.{FrameFault}
use Rattle.site_config.specs.SiteFile.{SiteFileRecord, IsSiteFile}
use Rattle.site_config.proofs.OneMeaning.{one_file}
use Rattle.commissioning.specs.declared.fault.CommissionFault.{CommissionFault}
use Rattle.commissioning.specs.declared.target.Target.{Target}
use Rattle.commission_run.specs.declared.job.Job.{Job}
use Rattle.commission_run.specs.declared.stop.Stop.TheVariants.{WriteFailed, Refused}
use Rattle.commission_run.specs.declared.stop.Refusal.{Refusal}
use Rattle.commission_run.specs.declared.stop.Refusal.TheVariants as by
use Rattle.commission_run.specs.Course.{target_of}
use Rattle.commission_run.specs.Ends.{Outcome, HasReplies}
use Rattle.stream_io.specs.Streams.{Change, Fails, GainsNothing}
use Rattle.stream_io.proofs.Told.{if_some_more}
use Rattle.command_io.specs.declared.ended.Ended.{Ended}
use Rattle.command_io.specs.declared.ended.Ended.TheVariants as ends
use Rattle.command_io.specs.declared.live_fault.LiveFault.TheVariants as faults
use Rattle.command_io.specs.Ends.{status_of}
use Rattle.command_io.specs.Site.{HasSiteCause, ReadsSite}
use Rattle.command_io.proofs.Sites.{IsApart, of_whole}
use Rattle.command_link.specs.Dialing.{Dialing, DialsNothing, FaultsAt, FailsToDial, FailsToReceive, HasBadFrame, HeardLast, MakesLink}
use Rattle.command_link.specs.Finding.{FindsInverter, HasInverter, IsJob, LacksInverter, no_inverter}
use Rattle.command_link.proofs.Found.{found_causes, found_due, found_has, none_causes, none_due, none_lacks, none_memory, none_not_written, none_refused}
use Rattle.commission_command.specs.Commission.{Commissions, CommissionsOne, IsCommissionDue, IsCommissionEnd, IsCutShort, IsRefusedBy, begun, commissions, end_of, fault_of, lacks, not_begun}

-- what is done with the site file is an end of the command
pub commissioned_end : (file : SiteFileRecord) (number : ℕ) (read : List ℕ) (site output : Change) (dialing : Dialing) (ended : Ended)
    → ReadsSite file read site → CommissionsOne file number output dialing ended → IsCommissionEnd number read site output dialing ended
commissioned_end file number read site output dialing ended reads (lacks less nothing still e) = not_begun (no_inverter file reads less e) nothing still
commissioned_end file number read site output dialing ended reads (commissions job outcome is did e) = begun job outcome (record { file = file; reads = reads; is_job = is }) did e

-- how the commissioning ended, by the end of the command
abbrev back : Ended → Outcome
back ends.WriteFault = Err WriteFailed
back (ends.Refused faults.Dial) = Err (Refused by.Dial)
back (ends.Refused faults.Send) = Err (Refused by.Send)
back (ends.Refused faults.Recv) = Err (Refused by.Recv)
back (ends.Refused faults.Quiet) = Err (Refused by.Quiet)
back (ends.Refused faults.Closed) = Err (Refused by.Closed)
back (ends.Refused (faults.BadFrame fault)) = Err (Refused (by.BadFrame fault))
back (ends.Refused (faults.Commission fault)) = Err (Refused (by.Commission fault))
back _ = Ok tt

back_end : (outcome : Outcome) → back (end_of outcome) ≡ outcome
back_end (Ok _) = refl
back_end (Err WriteFailed) = refl
back_end (Err (Refused by.Dial)) = refl
back_end (Err (Refused by.Send)) = refl
back_end (Err (Refused by.Recv)) = refl
back_end (Err (Refused by.Quiet)) = refl
back_end (Err (Refused by.Closed)) = refl
back_end (Err (Refused (by.BadFrame fault))) = refl
back_end (Err (Refused (by.Commission fault))) = refl

outcome_is : (outcome : Outcome) (ended : Ended) → ended ≡ end_of outcome → outcome ≡ back ended
outcome_is outcome ended e = sym (back_end outcome) ∙ ap back (sym e)

-- numbers that tell ends apart
abbrev code : Outcome → ℕ
code (Ok _) = 0
code (Err WriteFailed) = 1
code (Err (Refused by.Dial)) = 2
code (Err (Refused _)) = 3

abbrev succeeds : Outcome → ℕ
succeeds (Ok _) = 1
succeeds (Err _) = 0

-- the end of a commissioning is apart from those that no site file has
apart_at : (outcome : Outcome) → IsApart (end_of outcome)
apart_at (Ok _) = (λ e. omega (arith, e), λ e. omega (arith, e), λ e. omega (arith, e))
apart_at (Err WriteFailed) = (λ e. omega (arith, e), λ e. omega (arith, e), λ e. omega (arith, e))
apart_at (Err (Refused refusal)) = (λ e. omega (arith, e), λ e. omega (arith, e), λ e. omega (arith, e))

pub causes : (number : ℕ) (read : List ℕ) (site output : Change) (dialing : Dialing) (ended : Ended)
    → IsCommissionEnd number read site output dialing ended → HasSiteCause ended site
causes number read site output dialing ended (not_begun none nothing still) = none_causes number ended read site none
causes number read site output dialing ended (begun job outcome found did e) =
    found_causes number job ended read site found (subst IsApart (sym e) (apart_at outcome))

-- a refusal that isn't of the commissioning
fault_apart : (outcome : Outcome) (count : ℕ) → ends.Refused (faults.NoSuchInverter count) ≡ end_of outcome → ⊥
fault_apart outcome count e =
    let same : outcome ≡ Ok tt = outcome_is outcome (ends.Refused (faults.NoSuchInverter count)) e in
    omega (arith, ap status_of e, ap (λ (o : Outcome). status_of (end_of o)) same)

pub no_such_inverter : (number count : ℕ) (read : List ℕ) (site output : Change) (dialing : Dialing)
    → IsCommissionEnd number read site output dialing (ends.Refused (faults.NoSuchInverter count))
    → IfSome site.old (LacksInverter number count) × DialsNothing dialing × GainsNothing output
no_such_inverter number count read site output dialing (not_begun none nothing still) = (none_lacks number count read site none, still, nothing)
no_such_inverter number count read site output dialing (begun job outcome found did e) = absurd (fault_apart outcome count e)

pub write_fault : (number : ℕ) (read : List ℕ) (site output : Change) (dialing : Dialing) → IsCommissionEnd number read site output dialing ends.WriteFault → Fails output
write_fault number read site output dialing (not_begun none nothing still) = absurd (none_not_written number read site none)
write_fault number read site output dialing (begun job outcome found did e) =
    (subst (λ (o : Outcome). Commissions job o output dialing) (outcome_is outcome ends.WriteFault e) did).output_faults.failed

-- a refusal by the dialer or the inverter comes of a commissioning that was begun
apart_from : (refusal : Refusal) (count : ℕ) → fault_of refusal ≡ faults.NoSuchInverter count → ⊥
apart_from refusal count e = fault_apart (Err (Refused refusal)) count (ap ends.Refused (sym e))

begun_with : (number : ℕ) (read : List ℕ) (site output : Change) (dialing : Dialing) (refusal : Refusal)
    → IsCommissionEnd number read site output dialing (ends.Refused (fault_of refusal))
    → (job : Job) × FindsInverter number job read site × Commissions job (Err (Refused refusal)) output dialing
begun_with number read site output dialing refusal (not_begun none nothing still) =
    let other = none_refused number (fault_of refusal) read site none in absurd (apart_from refusal other.0 other.1)
begun_with number read site output dialing refusal (begun job outcome found did e) = (
  job,
  found,
  subst (λ (o : Outcome). Commissions job o output dialing) (outcome_is outcome (ends.Refused (fault_of refusal)) e ∙ back_end (Err (Refused refusal))) did,
)

pub dial : (number : ℕ) (read : List ℕ) (site output : Change) (dialing : Dialing) → IsCommissionEnd number read site output dialing (ends.Refused faults.Dial) → FailsToDial dialing
dial number read site output dialing end =
    let b = begun_with number read site output dialing by.Dial end in
    (b.2.dialer_faults.failed, (b.2.no_link refl).0)

pub send : (number : ℕ) (read : List ℕ) (site output : Change) (dialing : Dialing) → IsCommissionEnd number read site output dialing (ends.Refused faults.Send)
    → (job : Job) × IfSome site.old (HasInverter number job) × FaultsAt dialing × MakesLink (IsCutShort job) dialing
send number read site output dialing end =
    let b = begun_with number read site output dialing by.Send end in
    let c = b.2.course (λ same. omega (arith, ap code same)) in
    (b.0, found_has number b.0 read site b.1, b.2.dialer_faults.failed, (c.1.0, c.1.1, (c.0, c.1.2.sent)))

-- a list whose values end with this one has a last item of that value
last_of : {A B : Type 0} (f : A → B) (items : List A) (values : List B) (value : B) → map f items ≡ values ++ value ∷ []
    → (before : List A) × (last : A) × (items ≡ before ++ last ∷ []) × (f last ≡ value)
last_of f [] [] value e = absurd (omega (arith, ap length e))
last_of f [] (v ∷ vs) value e = absurd (omega (arith, ap length e))
last_of f (x ∷ []) [] value e = ([], x, refl, cc)
last_of f (x ∷ y ∷ more) [] value e = absurd (omega (arith, ap length e))
last_of f (x ∷ xs) (v ∷ vs) value e =
    let later = last_of f xs vs value cc in
    (x ∷ later.0, later.1, ap (λ (l : List _). x ∷ l) later.2, later.3)

-- the last receive of a course that it ended
heard : (answer : Answer) (link : Link) (pieces : List (List ℕ)) → map (λ (r : Receipt). r.answer) link.receipts ≡ map Bytes pieces ++ answer ∷ [] → HeardLast answer link
heard answer link pieces e = last_of (λ (r : Receipt). r.answer) link.receipts (map Bytes pieces) answer e

pub recv : (number : ℕ) (read : List ℕ) (site output : Change) (dialing : Dialing) → IsCommissionEnd number read site output dialing (ends.Refused faults.Recv) → FailsToReceive dialing
recv number read site output dialing end =
    let b = begun_with number read site output dialing by.Recv end in
    let c = b.2.course (λ same. omega (arith, ap code same)) in
    (b.2.dialer_faults.failed, (c.1.0, c.1.1, heard Failed c.1.0 c.1.2.answers.0 c.1.2.answers.1))

pub quiet : (number : ℕ) (read : List ℕ) (site output : Change) (dialing : Dialing) → IsCommissionEnd number read site output dialing (ends.Refused faults.Quiet) → MakesLink (HeardLast Quiet) dialing
quiet number read site output dialing end =
    let b = begun_with number read site output dialing by.Quiet end in
    let c = b.2.course (λ same. omega (arith, ap code same)) in
    (c.1.0, c.1.1, heard Quiet c.1.0 c.1.2.answers.0 c.1.2.answers.1)

pub closed : (number : ℕ) (read : List ℕ) (site output : Change) (dialing : Dialing) → IsCommissionEnd number read site output dialing (ends.Refused faults.Closed) → MakesLink (HeardLast Closed) dialing
closed number read site output dialing end =
    let b = begun_with number read site output dialing by.Closed end in
    let c = b.2.course (λ same. omega (arith, ap code same)) in
    (c.1.0, c.1.1, heard Closed c.1.0 c.1.2.answers.0 c.1.2.answers.1)

pub bad_frame : (number : ℕ) (read : List ℕ) (site output : Change) (dialing : Dialing) (fault : FrameFault) → IsCommissionEnd number read site output dialing (ends.Refused (faults.BadFrame fault))
    → MakesLink (HasBadFrame fault) dialing
bad_frame number read site output dialing fault end =
    let b = begun_with number read site output dialing (by.BadFrame fault) end in
    let c = b.2.course (λ same. omega (arith, ap code same)) in
    (c.1.0, c.1.1, (c.0, c.1.2.cause.1))

pub commission_fault : (number : ℕ) (read : List ℕ) (site output : Change) (dialing : Dialing) (fault : CommissionFault) → IsCommissionEnd number read site output dialing (ends.Refused (faults.Commission fault))
    → (job : Job) × IfSome site.old (HasInverter number job) × MakesLink (IsRefusedBy job fault) dialing
commission_fault number read site output dialing fault end =
    let b = begun_with number read site output dialing (by.Commission fault) end in
    let c = b.2.course (λ same. omega (arith, ap code same)) in
    (b.0, found_has number b.0 read site b.1, (c.1.0, c.1.1, (c.0, c.1.2.first, c.1.2.cause)))

-- a unit and a port of a place
slice_same : {A : Type 0} (a b : A) (found : Option A) → found ≡ Some a → found ≡ Some b → a ≡ b
slice_same a b found p q = cc

one_target : (file : SiteFileRecord) (number : ℕ) (a b : Job) → IsJob file number a → IsJob file number b → target_of a ≡ target_of b
one_target file number a b p q =
    let unit : a.unit ≡ b.unit = slice_same a.unit b.unit _ p.unit q.unit in
    let port : a.port ≡ b.port = slice_same a.port b.port _ p.port q.port in
    let rules : a.rules ≡ b.rules = p.rules ∙ sym q.rules in
    cc

succeeded : (outcome : Outcome) → IsOk outcome → end_of outcome ≡ ends.Done
succeeded (Ok _) ok = refl
succeeded (Err stop) ok = cc

pub due : (number : ℕ) (read : List ℕ) (site output : Change) (dialing : Dialing) (ended : Ended)
    → IsCommissionEnd number read site output dialing ended → IsCommissionDue number site output dialing ended
due number read site output dialing ended (not_begun none nothing still) = record {
  complete = if_some_more site.old _ _ (λ bytes known short file is job is_job hears no_fault written works. inr (known short file is is_job.is_there no_fault)) (none_memory number ended read site none);
  refused = none_due number ended read site none;
}
due number read site output dialing ended (begun found outcome finds did e) = record {
  complete = if_some_more site.old (λ bytes. IsSiteFile bytes finds.file) _
      (λ bytes is_found short file is job is_job hears no_fault written works.
      let same : target_of job ≡ target_of found = one_target finds.file number job found (subst (λ (f : SiteFileRecord). IsJob f number job) (sym (one_file bytes finds.file file is_found is)) is_job) finds.is_job in
      inl (e ∙ succeeded outcome (did.complete hears.0 hears.1 hears.2 hears.3 (subst (λ (t : Target). HasReplies t hears.1) same hears.4) works written)))
      (of_whole read site (λ bytes. IsSiteFile bytes finds.file) finds.reads.whole finds.reads.is_file);
  refused = found_due number found ended read site finds;
}
