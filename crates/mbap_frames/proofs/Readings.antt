-- Each stream of bytes has a reading.
use Rattle.std.proofs.Common.{◌≡◌, ℕ, zero, suc, ◌-◌, ◌+◌, ◌*◌, ◌<◌, ◌≤◌, inl, inr, List, [], ◌∷◌, ◌++◌, length, take, drop, refl, sym, ap, subst, ◌∙◌, append_assoc, arith}
use Rattle.std.specs.List.{AllByRecursion}
use Rattle.std.proofs.lemmas.Bool.{cases_lt}
use Rattle.std.proofs.lemmas.List.{length-append, length-take, take-append-drop}
use Rattle.modbus_pdu.specs.Grammar.{IsByte, word}
use Rattle.modbus_pdu.proofs.Words.{word-read}
use Rattle.mbap_frames.specs.declared.frame.Frame.{Frame}
use Rattle.mbap_frames.specs.declared.frame.FrameFault.TheVariants.{BadProtocol, BadLength}
use Rattle.mbap_frames.specs.declared.frames.Got.{Got}
use Rattle.mbap_frames.specs.declared.frames.Got.TheVariants.{More, One, Bad}
use Rattle.mbap_frames.specs.Frame.{IsFrame, frame_spelling}
use Rattle.mbap_frames.specs.Stream.{IsStream, frames_spelling}
use Rattle.mbap_frames.proofs.OneFeeding.{StandsFirst}

-- what stands first in bytes, whatever they are
record Head (bytes : List ℕ) : Type 0 where
  pub got : Got
  pub stands : StandsFirst bytes got

bytes_in_front : (xs ys : List ℕ) → AllByRecursion IsByte (xs ++ ys) → AllByRecursion IsByte xs
bytes_in_front [] ys fits = tt
bytes_in_front (x ∷ xs) ys fits = (fits.0, bytes_in_front xs ys fits.1)

bytes_behind : (xs ys : List ℕ) → AllByRecursion IsByte (xs ++ ys) → AllByRecursion IsByte ys
bytes_behind [] ys fits = fits
bytes_behind (x ∷ xs) ys fits = bytes_behind xs ys fits.1

-- the number of two bytes that fit is that of a field
number_fits : (high low : ℕ) → high < 256 → low < 256 → 256 * high + low < 65536
number_fits high low high_fits low_fits = omega arith

whole_head : (a b c d e f unit : ℕ) (more : List ℕ) → AllByRecursion IsByte (a ∷ b ∷ c ∷ d ∷ e ∷ f ∷ unit ∷ more) → 256 * c + d ≡ 0 → 2 ≤ 256 * e + f → 256 * e + f ≤ 254
    → 256 * e + f ≤ length more + 1 → Head (a ∷ b ∷ c ∷ d ∷ e ∷ f ∷ unit ∷ more)
whole_head a b c d e f unit more fits none low high long =
    let count = 256 * e + f - 1 in
    let pdu = take count more in
    let rest = drop count more in
    let len : length pdu ≡ count = omega (arith, length-take count more) in
    let parts : pdu ++ rest ≡ more = take-append-drop count more in
    let frame : Frame = record { transaction = 256 * a + b; unit = unit; pdu = pdu } in
    let frame_is : IsFrame frame = record {
      transaction = number_fits a b fits.0 fits.1.0;
      unit = fits.1.1.1.1.1.1.0;
      begins = omega arith;
      ends = omega arith;
      bytes = bytes_in_front pdu rest (subst (AllByRecursion IsByte) (sym parts) fits.1.1.1.1.1.1.1);
    } in
    let transaction : word (256 * a + b) ≡ a ∷ b ∷ [] = word-read a b (256 * a + b) fits.0 fits.1.0 refl in
    let named : word (length pdu + 1) ≡ e ∷ f ∷ [] = word-read e f (length pdu + 1) fits.1.1.1.1.0 fits.1.1.1.1.1.0 (omega arith) in
    let third : c ≡ 0 = omega arith in
    let fourth : d ≡ 0 = omega arith in
    record { got = One frame; stands = (frame_is, rest, cc (transaction, named, third, fourth, parts)) }

behind_length : (a b c d e f : ℕ) (bytes : List ℕ) → AllByRecursion IsByte (a ∷ b ∷ c ∷ d ∷ e ∷ f ∷ bytes) → 256 * c + d ≡ 0 → 2 ≤ 256 * e + f → 256 * e + f ≤ 254
    → Head (a ∷ b ∷ c ∷ d ∷ e ∷ f ∷ bytes)
behind_length a b c d e f [] fits none low high =
    record { got = More; stands = inr (inr (omega arith, none, (low, high), omega arith)) }
behind_length a b c d e f (unit ∷ more) fits none low high =
    elim (cases_lt (length more + 1) (256 * e + f)) [
      | inl short ↦ record { got = More; stands = inr (inr (omega arith, none, (low, high), omega arith)) }
      | inr long ↦ whole_head a b c d e f unit more fits none low high long
    ]

behind_protocol : (a b c d : ℕ) (bytes : List ℕ) → AllByRecursion IsByte (a ∷ b ∷ c ∷ d ∷ bytes) → 256 * c + d ≡ 0 → Head (a ∷ b ∷ c ∷ d ∷ bytes)
behind_protocol a b c d [] fits none = record { got = More; stands = inr (inl (omega arith, omega arith, none)) }
behind_protocol a b c d (e ∷ []) fits none = record { got = More; stands = inr (inl (omega arith, omega arith, none)) }
behind_protocol a b c d (e ∷ f ∷ bytes) fits none =
    elim (cases_lt (256 * e + f) 2) [
      | inl low ↦ record { got = Bad (BadLength (256 * e + f)); stands = (omega arith, none, inl low, refl) }
      | inr enough ↦ elim (cases_lt 254 (256 * e + f)) [
        | inl high ↦ record { got = Bad (BadLength (256 * e + f)); stands = (omega arith, none, inr high, refl) }
        | inr fits_in ↦ behind_length a b c d e f bytes fits none enough fits_in
      ]
    ]

head_of : (bytes : List ℕ) → AllByRecursion IsByte bytes → Head bytes
head_of [] fits = record { got = More; stands = inl (omega arith) }
head_of (a ∷ []) fits = record { got = More; stands = inl (omega arith) }
head_of (a ∷ b ∷ []) fits = record { got = More; stands = inl (omega arith) }
head_of (a ∷ b ∷ c ∷ []) fits = record { got = More; stands = inl (omega arith) }
head_of (a ∷ b ∷ c ∷ d ∷ bytes) fits =
    elim (cases_lt 0 (256 * c + d)) [
      | inl some ↦ record { got = Bad (BadProtocol (256 * c + d)); stands = (omega arith, λ none. omega arith, refl) }
      | inr none ↦ behind_protocol a b c d bytes fits (omega arith)
    ]

record Reading (stream : List ℕ) : Type 0 where
  pub frames : List Frame
  pub rest : List ℕ
  pub is : IsStream stream frames rest

-- what stands first, and a reading of what stands behind it
read_on : (stream : List ℕ) (got : Got) → StandsFirst stream got → AllByRecursion IsByte stream
    → ((behind : List ℕ) → length behind < length stream → AllByRecursion IsByte behind → Reading behind) → Reading stream
read_on stream More stands fits again =
    record { frames = []; rest = stream; is = record { whole = refl; each = tt; end = inl stands } }
read_on stream (Bad fault) stands fits again =
    record { frames = []; rest = stream; is = record { whole = refl; each = tt; end = inr (fault, stands) } }
read_on stream (One frame) stands fits again =
    let behind = stands.1 in
    let less : length behind < length stream = omega (arith, ap length stands.2, length-append frame.pdu behind) in
    let more = again behind less (bytes_behind (frame_spelling frame) behind (subst (AllByRecursion IsByte) stands.2 fits)) in
    record {
      frames = frame ∷ more.frames;
      rest = more.rest;
      is = record {
        whole = stands.2 ∙ ap (λ (t : List ℕ). frame_spelling frame ++ t) more.is.whole ∙ sym (append_assoc (frame_spelling frame) (frames_spelling more.frames) more.rest);
        each = (stands.0, more.is.each);
        end = more.is.end;
      };
    }

reading : (fuel : ℕ) (stream : List ℕ) → length stream < fuel → AllByRecursion IsByte stream → Reading stream
reading zero stream short fits = absurd (omega arith)
reading (suc fuel) stream short fits =
    let head = head_of stream fits in
    read_on stream head.got head.stands fits (λ behind less behind_fits. reading fuel behind (omega arith) behind_fits)

pub some_reading : (stream : List ℕ) → AllByRecursion IsByte stream → (frames : List Frame) × (rest : List ℕ) × IsStream stream frames rest
some_reading stream fits =
    let read = reading (suc (length stream)) stream (omega arith) fits in
    (read.frames, read.rest, read.is)
