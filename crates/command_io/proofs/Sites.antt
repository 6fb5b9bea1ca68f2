-- What an end says of the site file: that of a command that was given none, and that of one that read it.
use Rattle.std.proofs.Common.{◌≡◌, ◌≢◌, ℕ, ◌<◌, ◌≤◌, inl, inr, List, length, refl, sym, ap, subst, ◌∙◌, arith}
use Rattle.std.specs.Prelude.{IfSome}
use Rattle.site_config.specs.declared.fault.SiteFault.{SiteFault}
use Rattle.site_config.specs.SiteFile.{SiteFileRecord, IsSiteFile, IsRefused}
use Rattle.site_config.proofs.OneMeaning.{one_fault, not_both}
use Rattle.stream_io.specs.Streams.{Change, Fails, ReadsWhole, ReadsBeyond}
use Rattle.stream_io.proofs.Told.{if_some_all, if_some_more, told_whole, told_front}
use Rattle.command_io.specs.declared.ended.Ended.{Ended}
use Rattle.command_io.specs.declared.ended.Ended.TheVariants as ends
use Rattle.command_io.specs.Ends.{status_of}
use Rattle.command_io.specs.Site.{site_limit, FindsNoSite, HasSiteCause, ReadsSite, RefusesBadSite}

-- a fact of the bytes that were read is one of those that the source told
pub of_whole : (read : List ℕ) (site : Change) (P : List ℕ → Type 0) → ReadsWhole site_limit read site → P read → IfSome site.old P
of_whole read site P whole holds = told_whole site.old site.new read P whole.bytes whole.at_end holds

-- the source told no fewer bytes than were read of it
pub of_front : (read : List ℕ) (site : Change) → ReadsBeyond site_limit read site → IfSome site.old (λ bytes. site_limit < length bytes)
of_front read site beyond =
    if_some_more site.old (λ bytes. length read ≤ length bytes) _ (λ bytes front. omega (arith, front, beyond.beyond)) (told_front site.old site.new read beyond.bytes)

-- an end that no site file has
abbrev pub IsApart : Ended → Type 0
IsApart ended = (status_of ended ≢ 4) × (status_of ended ≢ 6) × (status_of ended ≢ 9)

-- the limit of an end
abbrev limit_of : Ended → ℕ
limit_of (ends.TooLong limit) = limit
limit_of _ = 0

-- causes

pub read_causes : (file : SiteFileRecord) (ended : Ended) (read : List ℕ) (site : Change) → ReadsSite file read site → IsApart ended → HasSiteCause ended site
read_causes file ended read site reads apart = record {
  read = λ e. reads.whole.at_end;
  bad_site = λ fault e. absurd (apart.0 (ap status_of e));
  too_long = λ limit e. absurd (apart.2 (ap status_of e));
  read_fault = λ e. absurd (apart.1 (ap status_of e));
}

pub no_site_causes : (ended : Ended) (read : List ℕ) (site : Change) → FindsNoSite ended read site → HasSiteCause ended site
no_site_causes (ends.BadSite found) read site row = record {
  read = λ e. absurd cc;
  bad_site = λ fault e. let same : found ≡ fault = cc in of_whole read site (λ bytes. IsRefused bytes fault) row.1 (subst (λ (f : SiteFault). IsRefused read f) same row.0);
  too_long = λ limit e. absurd cc;
  read_fault = λ e. absurd cc;
}
no_site_causes ends.ReadFault read site row = record { read = λ e. absurd cc; bad_site = λ fault e. absurd cc; too_long = λ limit e. absurd cc; read_fault = λ e. row.0 }
no_site_causes ends.NoMemory read site row = record { read = λ e. absurd cc; bad_site = λ fault e. absurd cc; too_long = λ limit e. absurd cc; read_fault = λ e. absurd cc }
no_site_causes (ends.TooLong found) read site row = record {
  read = λ e. absurd cc;
  bad_site = λ fault e. absurd cc;
  too_long = λ limit e. let same : limit ≡ site_limit = ap limit_of (sym e) ∙ row.0 in
      (same, subst (λ (n : ℕ). IfSome site.old (λ bytes. n < length bytes)) (sym same) (of_front read site row.1));
  read_fault = λ e. absurd cc;
}
no_site_causes ends.Done read site row = absurd row
no_site_causes ends.BadWords read site row = absurd row
no_site_causes ends.WriteFault read site row = absurd row
no_site_causes (ends.BadLine line kind) read site row = absurd row
no_site_causes (ends.BookFull calls) read site row = absurd row
no_site_causes (ends.Refused fault) read site row = absurd row
no_site_causes (ends.BadBus fault) read site row = absurd row

-- which end comes

-- a site file that was read has no fault, and isn't too long
pub read_due : (file : SiteFileRecord) (ended : Ended) (read : List ℕ) (site : Change) → ReadsSite file read site → RefusesBadSite ended site
read_due file ended read site reads = record {
  refused = if_some_more site.old (λ bytes. IsSiteFile bytes file) _ (λ bytes is short fault refused no_fault. absurd (not_both bytes file fault is refused))
      (of_whole read site (λ bytes. IsSiteFile bytes file) reads.whole reads.is_file);
  beyond = if_some_more site.old (λ bytes. length bytes ≤ site_limit) _ (λ bytes short long no_fault. absurd (omega (arith, short, long)))
      (of_whole read site (λ bytes. length bytes ≤ site_limit) reads.whole reads.whole.within);
}

pub no_site_due : (ended : Ended) (read : List ℕ) (site : Change) → FindsNoSite ended read site → RefusesBadSite ended site
no_site_due (ends.BadSite found) read site row = record {
  refused = if_some_more site.old (λ bytes. IsRefused bytes found) _ (λ bytes refused short fault is no_fault. inl (ap ends.BadSite (one_fault bytes found fault refused is)))
      (of_whole read site (λ bytes. IsRefused bytes found) row.1 row.0);
  beyond = if_some_more site.old (λ bytes. length bytes ≤ site_limit) _ (λ bytes short long no_fault. absurd (omega (arith, short, long)))
      (of_whole read site (λ bytes. length bytes ≤ site_limit) row.1 row.1.within);
}
no_site_due ends.ReadFault read site row = record {
  refused = if_some_all site.old _ (λ bytes short fault is no_fault. absurd (no_fault row.0));
  beyond = if_some_all site.old _ (λ bytes long no_fault. absurd (no_fault row.0));
}
no_site_due ends.NoMemory read site row = record {
  refused = if_some_all site.old _ (λ bytes short fault is no_fault. inr refl);
  beyond = if_some_all site.old _ (λ bytes long no_fault. inr refl);
}
no_site_due (ends.TooLong limit) read site row = record {
  refused = if_some_more site.old (λ bytes. site_limit < length bytes) _ (λ bytes long short fault is no_fault. absurd (omega (arith, long, short))) (of_front read site row.1);
  beyond = if_some_all site.old _ (λ bytes long no_fault. inl (ap ends.TooLong row.0));
}
no_site_due ends.Done read site row = absurd row
no_site_due ends.BadWords read site row = absurd row
no_site_due ends.WriteFault read site row = absurd row
no_site_due (ends.BadLine line kind) read site row = absurd row
no_site_due (ends.BookFull calls) read site row = absurd row
no_site_due (ends.Refused fault) read site row = absurd row
no_site_due (ends.BadBus fault) read site row = absurd row

-- where the source told a site file, it isn't found only for want of memory
pub no_site_memory : (ended : Ended) (read : List ℕ) (site : Change) → FindsNoSite ended read site
    → IfSome site.old (λ bytes. length bytes ≤ site_limit → (file : SiteFileRecord) → IsSiteFile bytes file → (Fails site → ⊥) → ended ≡ ends.NoMemory)
no_site_memory (ends.BadSite fault) read site row =
    if_some_more site.old (λ bytes. IsRefused bytes fault) _ (λ bytes refused short file is no_fault. absurd (not_both bytes file fault is refused))
    (of_whole read site (λ bytes. IsRefused bytes fault) row.1 row.0)
no_site_memory ends.ReadFault read site row = if_some_all site.old _ (λ bytes short file is no_fault. absurd (no_fault row.0))
no_site_memory ends.NoMemory read site row = if_some_all site.old _ (λ bytes short file is no_fault. refl)
no_site_memory (ends.TooLong limit) read site row =
    if_some_more site.old (λ bytes. site_limit < length bytes) _ (λ bytes long short file is no_fault. absurd (omega (arith, long, short))) (of_front read site row.1)
no_site_memory ends.Done read site row = absurd row
no_site_memory ends.BadWords read site row = absurd row
no_site_memory ends.WriteFault read site row = absurd row
no_site_memory (ends.BadLine line kind) read site row = absurd row
no_site_memory (ends.BookFull calls) read site row = absurd row
no_site_memory (ends.Refused fault) read site row = absurd row
no_site_memory (ends.BadBus fault) read site row = absurd row
