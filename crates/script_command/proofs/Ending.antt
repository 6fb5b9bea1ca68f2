-- What the ends of a command that is given a script say of the bytes that the input told, and which end comes.
use Rattle.std.proofs.Common.{◌≡◌, ℕ, ◌<◌, ◌≤◌, ◌⊎◌, inl, inr, List, length, Option, Some, None, refl, ap, arith}
use Rattle.std.specs.Prelude.{IfSome}
use Rattle.std.specs.Io.KnownBytes.{IsAtEnd}
use Rattle.plant_ledger.specs.declared.opening.OpenFault.{OpenFault}
use Rattle.plant_ledger.specs.declared.opening.OpenFault.TheVariants as openings
use Rattle.site_config.specs.declared.fault.SiteFault.{SiteFault}
use Rattle.site_config.specs.declared.fault.SiteFault.TheVariants as sites
use Rattle.command_io.specs.declared.ended.Ended.{Ended}
use Rattle.command_io.specs.declared.ended.Ended.TheVariants as ends
use Rattle.stream_io.specs.Streams.{Change, Fails, ReadsWhole, GainsText}
use Rattle.stream_io.proofs.Told.{if_some_all, if_some_more, told_whole, told_front}
use Rattle.script_command.specs.Ends.{input_limit, site_end, written_end, HasNoText, HasSiteFault, IsReadWhole, IsScriptEnd, IsScriptDue}

-- a site of which no book is opened has no text
pub no_book : (IsCause : OpenFault → Type 0) (IsRefused : Ended → Type 0) → ((fault : SiteFault) → HasSiteFault IsCause fault → IsRefused (ends.BadSite fault))
    → (cause : OpenFault) → IsCause cause → HasNoText IsRefused (site_end cause)
no_book IsCause IsRefused refuses openings.NoInverter is = refuses sites.NoInverter (openings.NoInverter, is, refl)
no_book IsCause IsRefused refuses (openings.TooManyInverters n) is = refuses (sites.TooManyInverters n) (openings.TooManyInverters n, is, refl)
no_book IsCause IsRefused refuses (openings.FloorsOverCap n) is = refuses (sites.FloorsOverCap n) (openings.FloorsOverCap n, is, refl)
no_book IsCause IsRefused refuses openings.NoMemory is = tt

-- a fact of the bytes that were read is one of those that the input told
pub of_whole : (read : List ℕ) (input : Change) (P : List ℕ → Type 0) → ReadsWhole input_limit read input → P read → IfSome input.old P
of_whole read input P whole holds = told_whole input.old input.new read P whole.bytes whole.at_end holds

-- the input was within its limit, and is at its end
abbrev pub IsWithin : Change → Type 0
IsWithin input = IfSome input.old (λ bytes. length bytes ≤ input_limit) × IsAtEnd input.new

whole_within : (read : List ℕ) (input : Change) → ReadsWhole input_limit read input → IsWithin input
whole_within read input whole = (of_whole read input (λ bytes. length bytes ≤ input_limit) whole whole.within, whole.at_end)

-- a fact of what was told, under premises that don't speak of it
if_some_under : {A P : Type 0} (found : Option A) (Q R : A → Type 0) → (P → IfSome found Q) → ((x : A) → (P → Q x) → R x) → IfSome found R
if_some_under None Q R some more = tt
if_some_under (Some x) Q R some more = more x some

module _ (Text : List ℕ → Option ℕ → List ℕ → Type 0) (Refuses : List ℕ → Ended → Type 0) where
  -- causes

  pub too_long : (read : List ℕ) (input output : Change) (limit : ℕ) → IsScriptEnd Text Refuses (ends.TooLong limit) read input output
      → (limit ≡ input_limit) × IfSome input.old (λ bytes. limit < length bytes)
  too_long read input output limit row = (
    row.cause,
    if_some_more input.old (λ bytes. length read ≤ length bytes) _ (λ bytes front. omega (arith, front, row.cause, row.read.beyond)) (told_front input.old input.new read row.read.bytes),
  )

  pub within : (ended : Ended) (read : List ℕ) (input output : Change) → IsScriptEnd Text Refuses ended read input output → IsReadWhole ended → IsWithin input
  within ends.Done read input output row is = whole_within read input row.read
  within (ends.BookFull calls) read input output row is = whole_within read input row.read
  within (ends.BadLine line kind) read input output row is = whole_within read input row.read
  within (ends.BadSite fault) read input output row is = whole_within read input row.read
  within (ends.BadBus fault) read input output row is = whole_within read input row.read
  within ends.WriteFault read input output row is = whole_within read input row.read
  within ends.ReadFault read input output row is = absurd is
  within ends.NoMemory read input output row is = absurd is
  within (ends.TooLong limit) read input output row is = absurd is
  within ends.BadWords read input output row is = absurd row
  within (ends.Refused fault) read input output row is = absurd row

  -- what the output gained is a text of this kind, where each text is
  pub gains : (Kind : List ℕ → Type 0) → ((bytes text : List ℕ) (full : Option ℕ) → Text bytes full text → Kind text)
      → (ended : Ended) (read : List ℕ) (input output : Change) → IsScriptEnd Text Refuses ended read input output → (ended ≡ ends.Done) ⊎ ((calls : ℕ) × (ended ≡ ends.BookFull calls)) → GainsText Kind output
  gains Kind each ends.Done read input output row is = (row.gained.0, each read row.gained.0 None row.gained.1, row.gained.2, row.gained.3)
  gains Kind each (ends.BookFull calls) read input output row is = (row.gained.0, each read row.gained.0 (Some calls) row.gained.1, row.gained.2, row.gained.3)
  gains Kind each ends.BadWords read input output row is = absurd row
  gains Kind each (ends.BadLine line kind) read input output row is = elim is [ inl done ↦ absurd cc | inr full ↦ let same = full.1 in absurd cc ]
  gains Kind each (ends.BadSite fault) read input output row is = elim is [ inl done ↦ absurd cc | inr full ↦ let same = full.1 in absurd cc ]
  gains Kind each (ends.BadBus fault) read input output row is = elim is [ inl done ↦ absurd cc | inr full ↦ let same = full.1 in absurd cc ]
  gains Kind each ends.ReadFault read input output row is = elim is [ inl done ↦ absurd cc | inr full ↦ let same = full.1 in absurd cc ]
  gains Kind each ends.WriteFault read input output row is = elim is [ inl done ↦ absurd cc | inr full ↦ let same = full.1 in absurd cc ]
  gains Kind each ends.NoMemory read input output row is = elim is [ inl done ↦ absurd cc | inr full ↦ let same = full.1 in absurd cc ]
  gains Kind each (ends.TooLong limit) read input output row is = elim is [ inl done ↦ absurd cc | inr full ↦ let same = full.1 in absurd cc ]
  gains Kind each (ends.Refused fault) read input output row is = absurd row

  -- which end comes

  -- what an end says of all bytes that the input told, where the input didn't fail
  abbrev pub Says : Ended → Change → List ℕ → Type 0
  Says ends.Done output bytes = (text : List ℕ) × Text bytes None text
  Says (ends.BookFull calls) output bytes = (text : List ℕ) × Text bytes (Some calls) text
  Says (ends.BadLine line kind) output bytes = Refuses bytes (ends.BadLine line kind)
  Says (ends.BadSite fault) output bytes = Refuses bytes (ends.BadSite fault)
  Says (ends.BadBus fault) output bytes = Refuses bytes (ends.BadBus fault)
  Says ends.NoMemory output bytes = Unit {0}
  Says ends.WriteFault output bytes = Fails output × ((text : List ℕ) × (full : Option ℕ) × Text bytes full text)
  Says _ output bytes = ⊥

  said : (ended : Ended) (read : List ℕ) (input output : Change) → ReadsWhole input_limit read input → Says ended output read → IfSome input.old (λ bytes. length bytes ≤ input_limit → Says ended output bytes)
  said ended read input output whole is =
      if_some_more input.old (Says ended output) _ (λ bytes known within. known) (told_whole input.old input.new read (Says ended output) whole.bytes whole.at_end is)

  says : (ended : Ended) (read : List ℕ) (input output : Change) → IsScriptEnd Text Refuses ended read input output → (Fails input → ⊥) → IfSome input.old (λ bytes. length bytes ≤ input_limit → Says ended output bytes)
  says ends.Done read input output row works = said ends.Done read input output row.read (row.gained.0, row.gained.1)
  says (ends.BookFull calls) read input output row works = said (ends.BookFull calls) read input output row.read (row.gained.0, row.gained.1)
  says (ends.BadLine line kind) read input output row works = said (ends.BadLine line kind) read input output row.read row.cause
  says (ends.BadSite fault) read input output row works = said (ends.BadSite fault) read input output row.read row.cause
  says (ends.BadBus fault) read input output row works = said (ends.BadBus fault) read input output row.read row.cause
  says ends.WriteFault read input output row works = said ends.WriteFault read input output row.read (row.cause, (row.gained.0, row.gained.1.0, row.gained.1.1))
  says ends.NoMemory read input output row works = if_some_all input.old _ (λ bytes within. tt)
  says ends.ReadFault read input output row works = absurd (works row.cause)
  says (ends.TooLong limit) read input output row works =
      if_some_more input.old (λ bytes. length read ≤ length bytes) _ (λ bytes front within. absurd (omega (arith, front, within, row.read.beyond))) (told_front input.old input.new read row.read.bytes)
  says ends.BadWords read input output row works = absurd row
  says (ends.Refused fault) read input output row works = absurd row

  pub told : (ended : Ended) (read : List ℕ) (input output : Change) (R : List ℕ → Type 0) → IsScriptEnd Text Refuses ended read input output
      → ((bytes : List ℕ) → ((Fails input → ⊥) → length bytes ≤ input_limit → Says ended output bytes) → R bytes) → IfSome input.old R
  told ended read input output R row more = if_some_under input.old (λ bytes. length bytes ≤ input_limit → Says ended output bytes) R (says ended read input output row) more

  -- bytes that have a text are refused by no end, and were full at one place at most
  pub record OneMeaning : Type 0 where
    pub one_full : (bytes : List ℕ) (a b : Option ℕ) (x y : List ℕ) → Text bytes a x → Text bytes b y → a ≡ b
    pub not_refused : (bytes : List ℕ) (full : Option ℕ) (text : List ℕ) (ended : Ended) → Text bytes full text → Refuses bytes ended → ⊥

  where_told : OneMeaning → (ended : Ended) (output : Change) (bytes : List ℕ) → Says ended output bytes → (full : Option ℕ) (text : List ℕ) → Text bytes full text → (Fails output → ⊥) → (ended ≡ written_end full) ⊎ (ended ≡ ends.NoMemory)
  where_told one ends.Done output bytes known full text is none = inl (ap written_end (one.one_full bytes None full known.0 text known.1 is))
  where_told one (ends.BookFull calls) output bytes known full text is none = inl (ap written_end (one.one_full bytes (Some calls) full known.0 text known.1 is))
  where_told one (ends.BadLine line kind) output bytes known full text is none = absurd (one.not_refused bytes full text (ends.BadLine line kind) is known)
  where_told one (ends.BadSite fault) output bytes known full text is none = absurd (one.not_refused bytes full text (ends.BadSite fault) is known)
  where_told one (ends.BadBus fault) output bytes known full text is none = absurd (one.not_refused bytes full text (ends.BadBus fault) is known)
  where_told one ends.NoMemory output bytes known full text is none = inr refl
  where_told one ends.WriteFault output bytes known full text is none = absurd (none known.0)
  where_told one ends.ReadFault output bytes known full text is none = absurd known
  where_told one (ends.TooLong limit) output bytes known full text is none = absurd known
  where_told one ends.BadWords output bytes known full text is none = absurd known
  where_told one (ends.Refused fault) output bytes known full text is none = absurd known

  where_refused : OneMeaning → (ended : Ended) (output : Change) (bytes : List ℕ) → Says ended output bytes → (refusal : Ended) → Refuses bytes refusal → Refuses bytes ended ⊎ (ended ≡ ends.NoMemory)
  where_refused one ends.Done output bytes known refusal is = absurd (one.not_refused bytes None known.0 refusal known.1 is)
  where_refused one (ends.BookFull calls) output bytes known refusal is = absurd (one.not_refused bytes (Some calls) known.0 refusal known.1 is)
  where_refused one ends.WriteFault output bytes known refusal is = absurd (one.not_refused bytes known.1.1 known.1.0 refusal known.1.2 is)
  where_refused one (ends.BadLine line kind) output bytes known refusal is = inl known
  where_refused one (ends.BadSite fault) output bytes known refusal is = inl known
  where_refused one (ends.BadBus fault) output bytes known refusal is = inl known
  where_refused one ends.NoMemory output bytes known refusal is = inr refl
  where_refused one ends.ReadFault output bytes known refusal is = absurd known
  where_refused one (ends.TooLong limit) output bytes known refusal is = absurd known
  where_refused one ends.BadWords output bytes known refusal is = absurd known
  where_refused one (ends.Refused fault) output bytes known refusal is = absurd known

  abbrev Beyond : Ended → Change → List ℕ → Type 0
  Beyond ended input bytes = input_limit < length bytes → (Fails input → ⊥) → (ended ≡ ends.TooLong input_limit) ⊎ (ended ≡ ends.NoMemory)

  whole_is_within : (ended : Ended) (read : List ℕ) (input : Change) → ReadsWhole input_limit read input → IfSome input.old (Beyond ended input)
  whole_is_within ended read input whole =
      if_some_more input.old (λ bytes. length bytes ≤ input_limit) (Beyond ended input) (λ bytes within beyond works. absurd (omega (arith, within, beyond)))
      (of_whole read input (λ bytes. length bytes ≤ input_limit) whole whole.within)

  beyond : (ended : Ended) (read : List ℕ) (input output : Change) → IsScriptEnd Text Refuses ended read input output → IfSome input.old (Beyond ended input)
  beyond ends.Done read input output row = whole_is_within ends.Done read input row.read
  beyond (ends.BookFull calls) read input output row = whole_is_within (ends.BookFull calls) read input row.read
  beyond (ends.BadLine line kind) read input output row = whole_is_within (ends.BadLine line kind) read input row.read
  beyond (ends.BadSite fault) read input output row = whole_is_within (ends.BadSite fault) read input row.read
  beyond (ends.BadBus fault) read input output row = whole_is_within (ends.BadBus fault) read input row.read
  beyond ends.WriteFault read input output row = whole_is_within ends.WriteFault read input row.read
  beyond ends.NoMemory read input output row = if_some_all input.old (Beyond ends.NoMemory input) (λ bytes past works. inr refl)
  beyond ends.ReadFault read input output row = if_some_all input.old (Beyond ends.ReadFault input) (λ bytes past works. absurd (works row.cause))
  beyond (ends.TooLong limit) read input output row = if_some_all input.old (Beyond (ends.TooLong limit) input) (λ bytes past works. inl (ap ends.TooLong row.cause))
  beyond ends.BadWords read input output row = absurd row
  beyond (ends.Refused fault) read input output row = absurd row

  pub due : OneMeaning → (ended : Ended) (read : List ℕ) (input output : Change) → IsScriptEnd Text Refuses ended read input output → IsScriptDue Text Refuses ended input output
  due one ended read input output row = record {
    told = told ended read input output _ row (λ bytes said within full text is works none. where_told one ended output bytes (said works within) full text is none);
    refused = told ended read input output _ row (λ bytes said within refusal is works. where_refused one ended output bytes (said works within) refusal is);
    beyond = beyond ended read input output row;
  }
