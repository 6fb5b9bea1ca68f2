-- What the ends of `check` say of the bytes that the input told.
use Rattle.std.proofs.Common.{◌≡◌, ℕ, ◌≤◌, ◌⊎◌, inl, inr, List, length, refl, ap, arith}
use Rattle.std.specs.Prelude.{IfSome}
use Rattle.site_config.specs.declared.fault.SiteFault.{SiteFault}
use Rattle.site_config.specs.SiteFile.{SiteFileRecord}
use Rattle.stream_io.specs.Streams.{Change, Fails}
use Rattle.stream_io.proofs.Told.{if_some_all, if_some_more}
use Rattle.command_io.specs.declared.ended.Ended.{Ended}
use Rattle.command_io.specs.declared.ended.Ended.TheVariants as ends
use Rattle.command_io.specs.Ends.{status_of}
use Rattle.command_io.specs.Site.{site_limit, FindsNoSite, HasSiteCause, ReadsSite}
use Rattle.command_io.proofs.Sites.{IsApart, no_site_causes, no_site_due, no_site_memory, of_whole, read_causes, read_due}
use Rattle.check_command.specs.Check.{IsCheckDue, IsCheckEnd}

-- a site file was read, and then it was written of, or a write failed
record HasRead (ended : Ended) (read : List ℕ) (input output : Change) : Type 0 where
  pub file : SiteFileRecord
  pub reads : ReadsSite file read input
  pub apart : IsApart ended
  pub over : (ended ≡ ends.Done) ⊎ Fails output

cases : (ended : Ended) (read : List ℕ) (input output : Change) → IsCheckEnd ended read input output → FindsNoSite ended read input ⊎ HasRead ended read input output
cases ends.Done read input output row = inr (record {
  file = row.gained.1.file;
  reads = record { is_file = row.gained.1.is_file; whole = row.read };
  apart = (λ e. omega (arith, e), λ e. omega (arith, e), λ e. omega (arith, e));
  over = inl refl;
})
cases ends.WriteFault read input output row = inr (record {
  file = row.gained.1.file;
  reads = record { is_file = row.gained.1.is_file; whole = row.read };
  apart = (λ e. omega (arith, e), λ e. omega (arith, e), λ e. omega (arith, e));
  over = inr row.cause;
})
cases ends.NoMemory read input output row = inl row.0
cases ends.ReadFault read input output row = inl row.0
cases (ends.BadSite fault) read input output row = inl row.0
cases (ends.TooLong limit) read input output row = inl row.0
cases ends.BadWords read input output row = inl row.0
cases (ends.BadLine line kind) read input output row = inl row.0
cases (ends.BookFull calls) read input output row = inl row.0
cases (ends.Refused fault) read input output row = inl row.0
cases (ends.BadBus fault) read input output row = inl row.0

pub causes : (ended : Ended) (read : List ℕ) (input output : Change) → IsCheckEnd ended read input output → HasSiteCause ended input
causes ended read input output row = elim (cases ended read input output row) [
  | inl none ↦ no_site_causes ended read input none
  | inr has ↦ read_causes has.file ended read input has.reads has.apart
]

pub due : (ended : Ended) (read : List ℕ) (input output : Change) → IsCheckEnd ended read input output → IsCheckDue ended input output
due ended read input output row = elim (cases ended read input output row) [
  | inl none ↦ record {
    complete = if_some_more input.old _ _ (λ bytes known short file is no_fault written. inr (known short file is no_fault)) (no_site_memory ended read input none);
    bad_site = no_site_due ended read input none;
  }
  | inr has ↦ record {
    complete = if_some_all input.old _ (λ bytes short file is no_fault written. elim has.over [
      | inl done ↦ inl done
      | inr fails ↦ absurd (written fails)
    ]);
    bad_site = read_due has.file ended read input has.reads;
  }
]

-- the ends that come when all of the input was read
abbrev IsRead : Ended → Type 0
IsRead ended = (ended ≡ ends.Done) ⊎ (ended ≡ ends.WriteFault) ⊎ ((fault : SiteFault) × (ended ≡ ends.BadSite fault))

abbrev status_read : ℕ → Type 0
status_read status = (status ≡ 0) ⊎ ((status ≡ 7) ⊎ (status ≡ 4))

status_of_read : (ended : Ended) → IsRead ended → status_read (status_of ended)
status_of_read ended (inl e) = inl (ap status_of e)
status_of_read ended (inr (inl e)) = inr (inl (ap status_of e))
status_of_read ended (inr (inr e)) = inr (inr (ap status_of e.1))

pub within : (ended : Ended) (read : List ℕ) (input output : Change) → IsCheckEnd ended read input output → IsRead ended → IfSome input.old (λ bytes. length bytes ≤ site_limit)
within ends.Done read input output row is = of_whole read input _ row.read row.read.within
within ends.WriteFault read input output row is = of_whole read input _ row.read row.read.within
within (ends.BadSite fault) read input output row is = of_whole read input _ row.0.1 row.0.1.within
within ends.NoMemory read input output row is = absurd (omega (arith, status_of_read ends.NoMemory is))
within ends.ReadFault read input output row is = absurd (omega (arith, status_of_read ends.ReadFault is))
within (ends.TooLong limit) read input output row is = absurd (omega (arith, status_of_read (ends.TooLong limit) is))
within ends.BadWords read input output row is = absurd (omega (arith, status_of_read ends.BadWords is))
within (ends.BadLine line kind) read input output row is = absurd (omega (arith, status_of_read (ends.BadLine line kind) is))
within (ends.BookFull calls) read input output row is = absurd (omega (arith, status_of_read (ends.BookFull calls) is))
within (ends.Refused fault) read input output row is = absurd (omega (arith, status_of_read (ends.Refused fault) is))
within (ends.BadBus fault) read input output row is = absurd (omega (arith, status_of_read (ends.BadBus fault) is))
