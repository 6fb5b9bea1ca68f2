-- Gathering the bytes of one frame, look by look.
use Rattle.std.proofs.Common.{◌≡◌, ℕ, suc, min, ◌-◌, ◌+◌, ◌<◌, ◌≤◌, inl, inr, List, [], ◌∷◌, ◌++◌, length, get_or, take, drop, sym, ap, ◌∙◌, append_assoc, arith}
use Rattle.std.specs.List.{AllByRecursion}
use Rattle.std.proofs.lemmas.List.{length-append, length-take, take-append-drop, get_or-drop}
use Rattle.std.proofs.Math.Seq.{take-append-add}
use Rattle.modbus_pdu.specs.Grammar.{IsByte}
use Rattle.mbap_frames.specs.declared.frame.FrameFault.{FrameFault}
use Rattle.mbap_frames.specs.declared.frame.FrameFault.TheVariants.{BadProtocol, BadLength}
use Rattle.mbap_frames.specs.Stream.{IsUnfinished, HasFault, fault_end}
use Rattle.mbap_frames.specs.Gathering.{IsGathered, IsKept, IsWhole, Wants}
use Rattle.mbap_frames.proofs.Headers.{protocol_of-append, length_of-append}

pub gathered_of_kept : (bytes : List ℕ) → IsKept bytes → IsGathered bytes
gathered_of_kept bytes kept = record {
  protocol = kept.protocol;
  low = kept.low;
  high = kept.high;
  end = λ long. omega (arith, kept.end long);
}

-- bytes up to the next look
pub gathers : (bytes more : List ℕ) (end : ℕ) → Wants bytes end → length bytes + length more ≤ end → IsGathered (bytes ++ more)
gathers bytes more end (inl few) fits =
    let len = length-append bytes more in
    record {
      protocol = λ long. absurd (omega arith);
      low = λ long. absurd (omega arith);
      high = λ long. absurd (omega arith);
      end = λ long. absurd (omega arith);
    }
gathers bytes more end (inr (inl part)) fits =
    let len = length-append bytes more in
    record {
      protocol = λ long. protocol_of-append bytes more part.0 ∙ part.2;
      low = λ long. absurd (omega arith);
      high = λ long. absurd (omega arith);
      end = λ long. absurd (omega arith);
    }
gathers bytes more end (inr (inr part)) fits =
    let len = length-append bytes more in
    let same = length_of-append bytes more part.0 in
    record {
      protocol = λ long. protocol_of-append bytes more (omega arith) ∙ part.1;
      low = λ long. omega (arith, part.2.0);
      high = λ long. omega (arith, part.2.1);
      end = λ long. omega arith;
    }

-- more bytes of a piece behind those that were taken of it
take_on : (used count : ℕ) (piece : List ℕ) → used ≤ length piece → take (used + count) piece ≡ take used piece ++ take count (drop used piece)
take_on used count piece within =
    let len : length (take used piece) ≡ used = omega (arith, length-take used piece) in
    rw (len, take-append-drop used piece) at (take-append-add (take used piece) (drop used piece) count)

pub record Goes (old piece new : List ℕ) (used : ℕ) : Type 0 where
  pub within : used ≤ length piece
  pub taken : new ≡ old ++ take used piece
  pub gathered : IsGathered new

pub goes_on : (old piece kept new : List ℕ) (used count missing : ℕ) → used ≤ length piece → kept ≡ old ++ take used piece → new ≡ kept ++ take (used + count - used) (drop used piece)
    → Wants kept (length kept + missing) → count ≡ min missing (length piece - used) → Goes old piece new (used + count)
goes_on old piece kept new used count missing within taken appended wants is =
    let some : used + count - used ≡ count = omega arith in
    let more = take count (drop used piece) in
    let new_is : new ≡ kept ++ more = appended ∙ ap (λ (n : ℕ). kept ++ take n (drop used piece)) some in
    let len : length more ≤ missing = omega (arith, length-take count (drop used piece)) in
    record {
      within = omega arith;
      taken = new_is ∙ ap (λ (t : List ℕ). t ++ more) taken ∙ append_assoc old (take used piece) more ∙ ap (λ (t : List ℕ). old ++ t) (sym (take_on used count piece within));
      gathered = rw new_is (gathers kept more (length kept + missing) wants (omega arith));
    }

-- the next look isn't past the end of a frame, and the bytes aren't past it
pub wants_fit : (bytes : List ℕ) (end : ℕ) → Wants bytes end → end ≤ 260
wants_fit bytes end (inl few) = omega arith
wants_fit bytes end (inr (inl part)) = omega arith
wants_fit bytes end (inr (inr part)) = omega (arith, part.2.1)

pub within_look : (bytes : List ℕ) (end : ℕ) → IsGathered bytes → Wants bytes end → length bytes ≤ end
within_look bytes end gathered (inl few) = omega arith
within_look bytes end gathered (inr (inl part)) = omega arith
within_look bytes end gathered (inr (inr part)) = grind (arith, gathered, part)

-- bytes are unfinished exactly before the next look
pub unfinished_before : (bytes : List ℕ) (end : ℕ) → Wants bytes end → IsUnfinished bytes → length bytes < end
unfinished_before bytes end (inl few) unfinished = omega arith
unfinished_before bytes end (inr (inl part)) unfinished = omega arith
unfinished_before bytes end (inr (inr part)) (inl few) = absurd (omega arith)
unfinished_before bytes end (inr (inr part)) (inr (inl few)) = absurd (omega arith)
unfinished_before bytes end (inr (inr part)) (inr (inr still)) = omega (arith, still.3)

pub before_unfinished : (bytes : List ℕ) (end : ℕ) → Wants bytes end → length bytes < end → IsUnfinished bytes
before_unfinished bytes end (inl few) below = inl few.0
before_unfinished bytes end (inr (inl part)) below = inr (inl (part.0, part.1, part.2))
before_unfinished bytes end (inr (inr part)) below = inr (inr (part.0, part.1, part.2, omega arith))

-- at its end the frame is whole
pub whole_at : (bytes : List ℕ) (end : ℕ) → IsGathered bytes → Wants bytes end → end ≤ length bytes → IsWhole bytes
whole_at bytes end gathered (inl few) past = absurd (omega arith)
whole_at bytes end gathered (inr (inl part)) past = absurd (omega arith)
whole_at bytes end gathered (inr (inr part)) past =
    record { protocol = part.1; low = part.2.0; high = part.2.1; end = grind (arith, gathered, part) }

-- a fault was seen as soon as its bytes were there
pub fault_at : (bytes : List ℕ) (fault : FrameFault) → IsGathered bytes → HasFault bytes fault → length bytes ≡ fault_end fault
fault_at bytes (BadProtocol n) gathered fault = grind (arith, gathered, fault)
fault_at bytes (BadLength n) gathered fault = grind (arith, gathered, fault)

-- what is kept between two calls
pub kept_unfinished : (bytes : List ℕ) → IsGathered bytes → IsUnfinished bytes → IsKept bytes
kept_unfinished bytes gathered unfinished = record {
  protocol = gathered.protocol;
  low = gathered.low;
  high = gathered.high;
  end = λ long. grind (arith, unfinished, long);
}

-- a fault is shown by at most six bytes
fault_end_fits : (fault : FrameFault) → fault_end fault ≤ 6
fault_end_fits (BadProtocol n) = omega arith
fault_end_fits (BadLength n) = omega arith

pub kept_fault : (bytes : List ℕ) (fault : FrameFault) → IsGathered bytes → HasFault bytes fault → IsKept bytes
kept_fault bytes fault gathered stands =
    let len = fault_at bytes fault gathered stands in
    let few = fault_end_fits fault in
    record {
      protocol = gathered.protocol;
      low = gathered.low;
      high = gathered.high;
      end = λ long. absurd (omega arith);
    }

pub length-kept : (bytes : List ℕ) → IsKept bytes → length bytes < 260
length-kept bytes kept = grind (arith, kept)

-- bytes that fit at each place fit
pub bytes_fit : (bytes : List ℕ) → ((i : ℕ) → get_or bytes i 0 < 256) → AllByRecursion IsByte bytes
bytes_fit [] fits = tt
bytes_fit (b ∷ bytes) fits = (fits 0, bytes_fit bytes (λ i. fits (suc i)))

pub bytes_fit-drop : (n : ℕ) (bytes : List ℕ) → ((i : ℕ) → get_or bytes i 0 < 256) → AllByRecursion IsByte (drop n bytes)
bytes_fit-drop n bytes fits = bytes_fit (drop n bytes) (λ i. rw get_or-drop (fits (n + i)))
