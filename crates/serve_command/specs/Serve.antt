-- How `serve` ends, and which end comes.
use Rattle.std.specs.Prelude.{◌≡◌, ℕ, ◌<◌, ◌≤◌, ◌⊎◌, Bool, List, IfSome, length}
use Rattle.plant_book.specs.Site.{inverters}
use Rattle.site_config.specs.SiteFile.{SiteFileRecord, IsSiteFile}
use Rattle.command_io.specs.declared.live_fault.LiveFault.TheVariants as faults
use Rattle.command_io.specs.Site.{site_limit}
use Rattle.limiter_num.specs.Timers.{tmax}
use Rattle.inverter_sim.specs.Bank.{BankRecord, new_bank}
use Rattle.commission_run.specs.declared.job.Job.{Job}
use Rattle.inverter_server.specs.Serving.{Dial, IsServed}
use Rattle.command_io.specs.declared.ended.Ended.{Ended}
use Rattle.command_io.specs.declared.ended.Ended.TheVariants as ends
use Rattle.stream_io.specs.Streams.{Change, Fails}
use Rattle.command_link.specs.Dialing.{Dialing, DialsNothing}
use Rattle.command_link.specs.Finding.{FindsInverter, FindsNoInverter, IsJob, RefusesNoInverter}

-- The simulation of an inverter: it has the unit number of its port, and reverts as late as the tolerance of
-- its timer allows.
abbrev pub bank_of : Job → BankRecord
bank_of job = new_bank job.unit job.rules job.port.unit (tmax job.rules)

-- The ends of `serve` for the inverter of this number in so many turns, each with what it says of the bytes
-- that were read.
pub data IsServeEnd (may_give : ℕ → Bool) (number turns : ℕ) (read : List ℕ) (site : Change)
    (dialing : Dialing) (ended : Ended) : Type 0 where
  not_begun : FindsNoInverter number read site ended → DialsNothing dialing
      → IsServeEnd may_give number turns read site dialing ended
  served : (job : Job) (dials : List Dial) → FindsInverter number job read site
      → IsServed may_give (bank_of job) job.port turns dials
      dialing.old dialing.new dialing.faults_old dialing.faults_new
      → ended ≡ ends.Done → IsServeEnd may_give number turns read site dialing ended

-- What `serve` does with a site file that was read. No promise to a caller names this.
pub data Serves (may_give : ℕ → Bool) (file : SiteFileRecord) (number turns : ℕ) (dialing : Dialing) (ended : Ended)
    : Type 0 where
  lacks : inverters file.site ≤ number → DialsNothing dialing
      → ended ≡ ends.Refused (faults.NoSuchInverter (inverters file.site))
      → Serves may_give file number turns dialing ended
  serves : (job : Job) (dials : List Dial) → IsJob file number job
      → IsServed may_give (bank_of job) job.port turns dials
      dialing.old dialing.new dialing.faults_old dialing.faults_new
      → ended ≡ ends.Done → Serves may_give file number turns dialing ended

-- Which end comes where the source doesn't fail and memory doesn't run out: an inverter that the site file has is
-- served, and without one the command is refused.
pub record IsServeDue (number : ℕ) (ended : Ended) (site : Change) : Type 0 where
  pub complete : IfSome site.old (λ bytes. length bytes ≤ site_limit
      → (file : SiteFileRecord) → IsSiteFile bytes file → number < inverters file.site
      → (Fails site → ⊥) → (ended ≡ ends.Done) ⊎ (ended ≡ ends.NoMemory))
  pub refused : RefusesNoInverter number ended site
