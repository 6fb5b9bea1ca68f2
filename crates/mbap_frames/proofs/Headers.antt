-- What a header says, whatever stands behind it, and which of the answers it allows: one.
use Rattle.std.proofs.Common.{◌≡◌, ℕ, ◌+◌, ◌≤◌, inl, inr, List, [], ◌∷◌, ◌++◌, length, refl, arith}
use Rattle.std.proofs.lemmas.List.{length-append}
use Rattle.std.proofs.Math.ListN.{get_or-append}
use Rattle.modbus_pdu.proofs.Words.{word_injective}
use Rattle.mbap_frames.specs.declared.frame.Frame.{Frame}
use Rattle.mbap_frames.specs.declared.frame.FrameFault.{FrameFault}
use Rattle.mbap_frames.specs.declared.frame.FrameFault.TheVariants.{BadProtocol, BadLength}
use Rattle.mbap_frames.specs.Frame.{IsFrame, Begins, frame_spelling}
use Rattle.mbap_frames.specs.Stream.{protocol_of, length_of, IsUnfinished, HasFault}

-- bytes behind the header leave it as it is
pub protocol_of-append : (bytes more : List ℕ) → 4 ≤ length bytes → protocol_of (bytes ++ more) ≡ protocol_of bytes
protocol_of-append bytes more long =
    let third = get_or-append bytes more 0 2 (omega arith) in
    let fourth = get_or-append bytes more 0 3 (omega arith) in
    cc (third, fourth)

pub length_of-append : (bytes more : List ℕ) → 6 ≤ length bytes → length_of (bytes ++ more) ≡ length_of bytes
length_of-append bytes more long =
    let fifth = get_or-append bytes more 0 4 (omega arith) in
    let sixth = get_or-append bytes more 0 5 (omega arith) in
    cc (fifth, sixth)

-- a fault stands, whatever comes behind it
pub HasFault-append : (bytes more : List ℕ) (fault : FrameFault) → HasFault bytes fault → HasFault (bytes ++ more) fault
HasFault-append bytes more (BadProtocol n) h =
    let long : 4 ≤ length (bytes ++ more) = omega (arith, length-append bytes more, h.0) in
    rw (protocol_of-append bytes more h.0) (long, h.1, h.2)
HasFault-append bytes more (BadLength n) h =
    let long : 6 ≤ length (bytes ++ more) = omega (arith, length-append bytes more, h.0) in
    let header : 4 ≤ length bytes = omega (arith, h.0) in
    rw (protocol_of-append bytes more header, length_of-append bytes more h.0) (long, h.1, h.2, h.3)

-- the header of bytes that begin with a frame
pub record HasHeader (bytes : List ℕ) (frame : Frame) : Type 0 where
  pub protocol : protocol_of bytes ≡ 0
  pub length_is : length_of bytes ≡ length frame.pdu + 1
  pub begins : 1 ≤ length frame.pdu
  pub ends : length frame.pdu ≤ 253
  pub whole : 7 + length frame.pdu ≤ length bytes

spelled_header : (frame : Frame) (rest : List ℕ) → IsFrame frame → HasHeader (frame_spelling frame ++ rest) frame
spelled_header frame rest is = record {
  protocol = refl;
  length_is = omega arith;
  begins = is.begins;
  ends = is.ends;
  whole = omega (arith, length-append frame.pdu rest);
}

pub header : (bytes : List ℕ) (frame : Frame) → Begins bytes frame → HasHeader bytes frame
header bytes frame begins = rw begins.2 (spelled_header frame begins.1 begins.0)

-- lists of one length at the front of one list
pub same_front : (a b x y : List ℕ) → length a ≡ length b → a ++ x ≡ b ++ y → (a ≡ b) × (x ≡ y)
same_front [] [] x y same e = (refl, e)
same_front [] (n ∷ b) x y same e = absurd (omega arith)
same_front (m ∷ a) [] x y same e = absurd (omega arith)
same_front (m ∷ a) (n ∷ b) x y same e =
    let head : m ≡ n = cc in
    let tail : a ++ x ≡ b ++ y = cc in
    let rest = same_front a b x y (omega arith) tail in
    (cc (head, rest.0), rest.1)

-- two frames at the front of one list are one
pub same_frame : (f g : Frame) (x y : List ℕ) → IsFrame f → IsFrame g → frame_spelling f ++ x ≡ frame_spelling g ++ y → (f ≡ g) × (x ≡ y)
same_frame f g x y f_is g_is e =
    let transaction : f.transaction ≡ g.transaction = word_injective _ _ cc in
    let count : length f.pdu + 1 ≡ length g.pdu + 1 = word_injective _ _ cc in
    let unit : f.unit ≡ g.unit = cc in
    let tail : f.pdu ++ x ≡ g.pdu ++ y = cc in
    let parts = same_front f.pdu g.pdu x y (omega arith) tail in
    (λ i. record { transaction = transaction i; unit = unit i; pdu = parts.0 i }, parts.1)

-- what is unfinished shows no fault, and begins with no frame
pub unfinished_no_fault : (bytes : List ℕ) (fault : FrameFault) → IsUnfinished bytes → HasFault bytes fault → ⊥
unfinished_no_fault bytes (BadProtocol n) (inl few) fault = omega (arith, few, fault.0)
unfinished_no_fault bytes (BadProtocol n) (inr (inl part)) fault = fault.1 part.2
unfinished_no_fault bytes (BadProtocol n) (inr (inr part)) fault = fault.1 part.1
unfinished_no_fault bytes (BadLength n) (inl few) fault = omega (arith, few, fault.0)
unfinished_no_fault bytes (BadLength n) (inr (inl part)) fault = omega (arith, part.1, fault.0)
unfinished_no_fault bytes (BadLength n) (inr (inr part)) fault = grind (arith, part, fault)

pub unfinished_no_frame : (bytes : List ℕ) (frame : Frame) → IsUnfinished bytes → Begins bytes frame → ⊥
unfinished_no_frame bytes frame unfinished begins =
    let has = header bytes frame begins in
    grind (arith, has, unfinished)

pub fault_no_frame : (bytes : List ℕ) (frame : Frame) (fault : FrameFault) → HasFault bytes fault → Begins bytes frame → ⊥
fault_no_frame bytes frame (BadProtocol n) fault begins = fault.1 (header bytes frame begins).protocol
fault_no_frame bytes frame (BadLength n) fault begins =
    let has = header bytes frame begins in
    grind (arith, has, fault)

-- one fault stands
pub one_fault : (bytes : List ℕ) (a b : FrameFault) → HasFault bytes a → HasFault bytes b → a ≡ b
one_fault bytes (BadProtocol m) (BadProtocol n) x y = cc (x.2, y.2)
one_fault bytes (BadProtocol m) (BadLength n) x y = absurd (x.1 y.1)
one_fault bytes (BadLength m) (BadProtocol n) x y = absurd (y.1 x.1)
one_fault bytes (BadLength m) (BadLength n) x y = cc (x.3, y.3)
