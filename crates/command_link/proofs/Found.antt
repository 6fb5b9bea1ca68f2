-- What an end says of the inverter that a command names: that of a command that found none, and that of one that did.
use Rattle.std.proofs.Common.{◌≡◌, ℕ, ◌<◌, ◌≤◌, inl, inr, List, length, ap, ◌∙◌, arith}
use Rattle.std.specs.Prelude.{IfSome}
use Rattle.plant_book.specs.Site.{inverters}
use Rattle.site_config.specs.SiteFile.{SiteFileRecord, IsSiteFile}
use Rattle.site_config.proofs.OneMeaning.{one_file}
use Rattle.commission_run.specs.declared.job.Job.{Job}
use Rattle.stream_io.specs.Streams.{Change, Fails}
use Rattle.stream_io.proofs.Told.{if_some_more}
use Rattle.command_io.specs.declared.ended.Ended.{Ended}
use Rattle.command_io.specs.declared.ended.Ended.TheVariants as ends
use Rattle.command_io.specs.declared.live_fault.LiveFault.{LiveFault}
use Rattle.command_io.specs.declared.live_fault.LiveFault.TheVariants as faults
use Rattle.command_io.specs.Ends.{status_of}
use Rattle.command_io.specs.Site.{site_limit, HasSiteCause}
use Rattle.command_io.proofs.Sites.{IsApart, no_site_causes, no_site_due, no_site_memory, of_whole, read_causes, read_due}
use Rattle.command_link.specs.Finding.{FindsInverter, FindsNoInverter, HasInverter, LacksInverter, RefusesNoInverter, no_site, no_inverter}

-- a command that found no inverter

-- the end of a site file that lacks it is apart from those that no site file has
apart_at : (ended : Ended) (fault : LiveFault) → ended ≡ ends.Refused fault → IsApart ended
apart_at ended fault e = (λ four. omega (arith, ap status_of e, four), λ six. omega (arith, ap status_of e, six), λ nine. omega (arith, ap status_of e, nine))

pub none_causes : (number : ℕ) (ended : Ended) (read : List ℕ) (site : Change) → FindsNoInverter number read site ended → HasSiteCause ended site
none_causes number ended read site (no_site row) = no_site_causes ended read site row
none_causes number ended read site (no_inverter file reads lacks e) = read_causes file ended read site reads (apart_at ended (faults.NoSuchInverter (inverters file.site)) e)

-- it isn't done, no write failed, and it isn't refused for another reason
pub none_not_done : (number : ℕ) (read : List ℕ) (site : Change) → FindsNoInverter number read site ends.Done → ⊥
none_not_done number read site (no_site row) = row
none_not_done number read site (no_inverter file reads lacks e) = omega (arith, ap status_of e)

pub none_not_written : (number : ℕ) (read : List ℕ) (site : Change) → FindsNoInverter number read site ends.WriteFault → ⊥
none_not_written number read site (no_site row) = row
none_not_written number read site (no_inverter file reads lacks e) = omega (arith, ap status_of e)

-- the refusal of an end, and the count of inverters of a refusal
abbrev refusal_of : Ended → LiveFault
refusal_of (ends.Refused fault) = fault
refusal_of _ = faults.Dial

abbrev count_of : Ended → ℕ
count_of (ends.Refused (faults.NoSuchInverter count)) = count
count_of _ = 0

pub none_refused : (number : ℕ) (fault : LiveFault) (read : List ℕ) (site : Change) → FindsNoInverter number read site (ends.Refused fault)
    → (count : ℕ) × (fault ≡ faults.NoSuchInverter count)
none_refused number fault read site (no_site row) = absurd row
none_refused number fault read site (no_inverter file reads lacks e) = (inverters file.site, ap refusal_of e)

pub none_lacks : (number count : ℕ) (read : List ℕ) (site : Change) → FindsNoInverter number read site (ends.Refused (faults.NoSuchInverter count))
    → IfSome site.old (LacksInverter number count)
none_lacks number count read site (no_site row) = absurd row
none_lacks number count read site (no_inverter file reads lacks e) =
    let same : count ≡ inverters file.site = ap count_of e in
    of_whole read site (LacksInverter number count) reads.whole (file, reads.is_file, same, omega (arith, same, lacks))

-- where the source told a site file that has it, it isn't found only for want of memory
pub none_memory : (number : ℕ) (ended : Ended) (read : List ℕ) (site : Change) → FindsNoInverter number read site ended
    → IfSome site.old (λ bytes. length bytes ≤ site_limit → (file : SiteFileRecord) → IsSiteFile bytes file → number < inverters file.site
    → (Fails site → ⊥) → ended ≡ ends.NoMemory)
none_memory number ended read site (no_site row) =
    if_some_more site.old _ _ (λ bytes known short file is there no_fault. known short file is no_fault) (no_site_memory ended read site row)
none_memory number ended read site (no_inverter found reads lacks e) =
    if_some_more site.old (λ bytes. IsSiteFile bytes found) _
    (λ bytes is_found short file is there no_fault. absurd (omega (arith, lacks, there, ap (λ (f : SiteFileRecord). inverters f.site) (one_file bytes found file is_found is))))
    (of_whole read site (λ bytes. IsSiteFile bytes found) reads.whole reads.is_file)

pub none_due : (number : ℕ) (ended : Ended) (read : List ℕ) (site : Change) → FindsNoInverter number read site ended → RefusesNoInverter number ended site
none_due number ended read site (no_site row) = record {
  lacking = if_some_more site.old _ _ (λ bytes known short file is lacks no_fault. inr (known short file is no_fault)) (no_site_memory ended read site row);
  bad_site = no_site_due ended read site row;
}
none_due number ended read site (no_inverter found reads lacked e) = record {
  lacking = if_some_more site.old (λ bytes. IsSiteFile bytes found) _
      (λ bytes is_found short file is lacks no_fault. inl (e ∙ ap (λ (f : SiteFileRecord). ends.Refused (faults.NoSuchInverter (inverters f.site))) (one_file bytes found file is_found is)))
      (of_whole read site (λ bytes. IsSiteFile bytes found) reads.whole reads.is_file);
  bad_site = read_due found ended read site reads;
}

-- a command that found it

pub found_causes : (number : ℕ) (job : Job) (ended : Ended) (read : List ℕ) (site : Change) → FindsInverter number job read site → IsApart ended → HasSiteCause ended site
found_causes number job ended read site found apart = read_causes found.file ended read site found.reads apart

pub found_has : (number : ℕ) (job : Job) (read : List ℕ) (site : Change) → FindsInverter number job read site → IfSome site.old (HasInverter number job)
found_has number job read site found = of_whole read site (HasInverter number job) found.reads.whole (found.file, found.reads.is_file, found.is_job)

pub found_due : (number : ℕ) (job : Job) (ended : Ended) (read : List ℕ) (site : Change) → FindsInverter number job read site → RefusesNoInverter number ended site
found_due number job ended read site found = record {
  lacking = if_some_more site.old (λ bytes. IsSiteFile bytes found.file) _
      (λ bytes is_found short file is lacks no_fault. absurd (omega (arith, lacks, found.is_job.is_there, ap (λ (f : SiteFileRecord). inverters f.site) (one_file bytes found.file file is_found is))))
      (of_whole read site (λ bytes. IsSiteFile bytes found.file) found.reads.whole found.reads.is_file);
  bad_site = read_due found.file ended read site found.reads;
}
