-- What the ends of `serve` say.
use Rattle.std.proofs.Common.{◌≡◌, ℕ, Bool, List, inl, inr, ap, arith}
use Rattle.std.specs.Prelude.{IfSome}
use Rattle.stream_io.specs.Streams.{Change}
use Rattle.stream_io.proofs.Told.{if_some_all, if_some_more}
use Rattle.command_io.specs.declared.ended.Ended.{Ended}
use Rattle.command_io.specs.declared.ended.Ended.TheVariants as ends
use Rattle.command_io.specs.declared.live_fault.LiveFault.{LiveFault}
use Rattle.command_io.specs.declared.live_fault.LiveFault.TheVariants as faults
use Rattle.command_io.specs.Ends.{status_of}
use Rattle.command_io.specs.Site.{HasSiteCause, ReadsSite}
use Rattle.command_link.specs.Dialing.{Dialing, DialsNothing}
use Rattle.command_link.specs.Finding.{LacksInverter, no_inverter}
use Rattle.command_link.proofs.Found.{found_causes, found_due, none_causes, none_due, none_lacks, none_memory, none_not_written, none_refused}
use Rattle.site_config.specs.SiteFile.{SiteFileRecord}
use Rattle.serve_command.specs.Serve.{IsServeDue, IsServeEnd, Serves, lacks, not_begun, served, serves}

-- what is done with the site file is an end of the command
pub served_end : (may_give : ℕ → Bool) (file : SiteFileRecord) (number turns : ℕ) (read : List ℕ) (site : Change) (dialing : Dialing) (ended : Ended)
    → ReadsSite file read site → Serves may_give file number turns dialing ended → IsServeEnd may_give number turns read site dialing ended
served_end may_give file number turns read site dialing ended reads (lacks less still e) = not_begun (no_inverter file reads less e) still
served_end may_give file number turns read site dialing ended reads (serves job dials is did e) = served job dials (record { file = file; reads = reads; is_job = is }) did e

pub causes : (may_give : ℕ → Bool) (number turns : ℕ) (read : List ℕ) (site : Change) (dialing : Dialing) (ended : Ended)
    → IsServeEnd may_give number turns read site dialing ended → HasSiteCause ended site
causes may_give number turns read site dialing ended (not_begun none still) = none_causes number ended read site none
causes may_give number turns read site dialing ended (served job dials found did e) =
    found_causes number job ended read site found (λ four. omega (arith, ap status_of e, four), λ six. omega (arith, ap status_of e, six), λ nine. omega (arith, ap status_of e, nine))

pub due : (may_give : ℕ → Bool) (number turns : ℕ) (read : List ℕ) (site : Change) (dialing : Dialing) (ended : Ended)
    → IsServeEnd may_give number turns read site dialing ended → IsServeDue number ended site
due may_give number turns read site dialing ended (not_begun none still) = record {
  complete = if_some_more site.old _ _ (λ bytes known short file is there no_fault. inr (known short file is there no_fault)) (none_memory number ended read site none);
  refused = none_due number ended read site none;
}
due may_give number turns read site dialing ended (served job dials found did e) = record {
  complete = if_some_all site.old _ (λ bytes short file is there no_fault. inl e);
  refused = found_due number job ended read site found;
}

pub no_such_inverter : (may_give : ℕ → Bool) (number turns count : ℕ) (read : List ℕ) (site : Change) (dialing : Dialing)
    → IsServeEnd may_give number turns read site dialing (ends.Refused (faults.NoSuchInverter count)) → IfSome site.old (LacksInverter number count) × DialsNothing dialing
no_such_inverter may_give number turns count read site dialing (not_begun none still) = (none_lacks number count read site none, still)
no_such_inverter may_give number turns count read site dialing (served job dials found did e) = absurd (omega (arith, ap status_of e))

pub only_lacking : (may_give : ℕ → Bool) (number turns : ℕ) (fault : LiveFault) (read : List ℕ) (site : Change) (dialing : Dialing)
    → IsServeEnd may_give number turns read site dialing (ends.Refused fault) → (count : ℕ) × (fault ≡ faults.NoSuchInverter count)
only_lacking may_give number turns fault read site dialing (not_begun none still) = none_refused number fault read site none
only_lacking may_give number turns fault read site dialing (served job dials found did e) = absurd (omega (arith, ap status_of e))

pub no_write_fault : (may_give : ℕ → Bool) (number turns : ℕ) (read : List ℕ) (site : Change) (dialing : Dialing)
    → IsServeEnd may_give number turns read site dialing ends.WriteFault → ⊥
no_write_fault may_give number turns read site dialing (not_begun none still) = none_not_written number read site none
no_write_fault may_give number turns read site dialing (served job dials found did e) = omega (arith, ap status_of e)
