-- How `commission` ends, and which end comes.
use Rattle.std.specs.Prelude.{◌≡◌, ◌≢◌, ℕ, ◌≤◌, ◌⊎◌, List, IfSome, Some, Ok, Err, IsOk, length}
use Rattle.plant_book.specs.Site.{inverters}
use Rattle.site_config.specs.SiteFile.{SiteFileRecord, IsSiteFile}
use Rattle.commissioning.specs.declared.fault.CommissionFault.{CommissionFault}
use Rattle.command_io.specs.Site.{site_limit}
use Rattle.world_traits.specs.Causes.{HasCause}
use Rattle.world_traits.specs.Links.{Link, Links, received_bytes}
use Rattle.mbap_frames.specs.declared.frame.Frame.{Frame}
use Rattle.commission_run.specs.declared.job.Job.{Job}
use Rattle.commission_run.specs.declared.stop.Stop.TheVariants.{WriteFailed, Refused}
use Rattle.commission_run.specs.declared.stop.Refusal.{Refusal}
use Rattle.commission_run.specs.declared.stop.Refusal.TheVariants as by
use Rattle.commission_run.specs.Course.{AreFirst, target_of, with_past_link}
use Rattle.commission_run.specs.Ends.{Outcome, HasReplies, IsCourse, IsSent, TakesFault, at_dialer, at_output}
use Rattle.command_io.specs.declared.ended.Ended.{Ended}
use Rattle.command_io.specs.declared.ended.Ended.TheVariants as ends
use Rattle.command_io.specs.declared.live_fault.LiveFault.{LiveFault}
use Rattle.command_io.specs.declared.live_fault.LiveFault.TheVariants as faults
use Rattle.stream_io.specs.Streams.{Change, Fails, GainsNothing}
use Rattle.command_link.specs.Dialing.{Dialing, DialsNothing, FaultsAt, MakesLink}
use Rattle.command_link.specs.Finding.{FindsInverter, FindsNoInverter, IsJob, RefusesNoInverter}

-- the refusal of the command, by that of the commissioning
abbrev pub fault_of : Refusal → LiveFault
fault_of by.Dial = faults.Dial
fault_of by.Send = faults.Send
fault_of by.Recv = faults.Recv
fault_of by.Quiet = faults.Quiet
fault_of by.Closed = faults.Closed
fault_of (by.BadFrame fault) = faults.BadFrame fault
fault_of (by.Commission fault) = faults.Commission fault

-- how the command ends, by how the commissioning did
abbrev pub end_of : Outcome → Ended
end_of (Ok _) = ends.Done
end_of (Err WriteFailed) = ends.WriteFault
end_of (Err (Refused refusal)) = ends.Refused (fault_of refusal)

-- An inverter's commissioning was begun and ended so: at a dial that failed nothing more was done, else one
-- link was made at the inverter's port, and this is what passed there and was written.
pub record Commissions (job : Job) (outcome : Outcome) (output : Change) (dialing : Dialing) : Type 0 where
  pub dialer_faults : HasCause dialing.faults_old dialing.faults_new (at_dialer outcome)
  pub output_faults : HasCause output.faults_old output.faults_new (at_output outcome)
  pub no_link : outcome ≡ Err (Refused by.Dial) → (dialing.new ≡ dialing.old) × GainsNothing output
  pub course : outcome ≢ Err (Refused by.Dial) → (frames : List Frame) × MakesLink (λ link.
      IsCourse (target_of job) job.inverter outcome frames link output.old output.new) dialing
  -- where no call failed and the replies of an inverter that is commissioned came, it is done
  pub complete : (before : Links) (link : Link) → dialing.old ≡ Some before
      → dialing.new ≡ Some (with_past_link link before)
      → HasReplies (target_of job) link → (FaultsAt dialing → ⊥) → (Fails output → ⊥) → IsOk outcome

-- The ends of `commission` for the inverter of this number, each with what it says of the bytes read.
pub data IsCommissionEnd (number : ℕ) (read : List ℕ) (site output : Change) (dialing : Dialing)
    (ended : Ended) : Type 0 where
  not_begun : FindsNoInverter number read site ended → GainsNothing output → DialsNothing dialing
      → IsCommissionEnd number read site output dialing ended
  begun : (job : Job) (outcome : Outcome) → FindsInverter number job read site
      → Commissions job outcome output dialing
      → ended ≡ end_of outcome → IsCommissionEnd number read site output dialing ended

-- What `commission` does with a site file that was read. No promise to a caller names this.
pub data CommissionsOne (file : SiteFileRecord) (number : ℕ) (output : Change) (dialing : Dialing) (ended : Ended)
    : Type 0 where
  lacks : inverters file.site ≤ number → GainsNothing output → DialsNothing dialing
      → ended ≡ ends.Refused (faults.NoSuchInverter (inverters file.site))
      → CommissionsOne file number output dialing ended
  commissions : (job : Job) (outcome : Outcome) → IsJob file number job → Commissions job outcome output dialing
      → ended ≡ end_of outcome → CommissionsOne file number output dialing ended

-- the bytes that came are the replies of the inverter, once commissioned: on the one new link
abbrev pub HearsReplies : Job → Dialing → Type 0
HearsReplies job dialing = (before : Links) × (link : Link) × (dialing.old ≡ Some before)
    × (dialing.new ≡ Some (with_past_link link before)) × HasReplies (target_of job) link

-- Which end comes where no call failed and memory doesn't run out: the inverter is commissioned where the bytes that
-- came are the replies of one that is, and the command is refused where the site file lacks it.
pub record IsCommissionDue (number : ℕ) (site output : Change) (dialing : Dialing) (ended : Ended) : Type 0 where
  pub complete : IfSome site.old (λ bytes. length bytes ≤ site_limit
      → (file : SiteFileRecord) → IsSiteFile bytes file → (job : Job) → IsJob file number job → HearsReplies job dialing
      → (Fails site → ⊥) → (Fails output → ⊥) → (FaultsAt dialing → ⊥)
      → (ended ≡ ends.Done) ⊎ (ended ≡ ends.NoMemory))
  pub refused : RefusesNoInverter number ended site

-- of an inverter: the frames taken are the first of the bytes that came, and the last is answered so
abbrev pub IsRefusedBy : Job → CommissionFault → Link → Type 0
IsRefusedBy job fault link = (frames : List Frame)
    × AreFirst frames (received_bytes link) × TakesFault (target_of job) frames fault

-- of an inverter: the last request that the link was sent is cut short
abbrev pub IsCutShort : Job → Link → Type 0
IsCutShort job link = (frames : List Frame) × IsSent (target_of job) (Err (Refused by.Send)) frames link.sent
