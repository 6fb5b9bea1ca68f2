use Rattle.std.proofs.Common.{◌≡◌, ◌-◌, length, drop, ap, ◌∙◌, arith}
use Rattle.std.proofs.lemmas.List.{length-drop, take_all}
use Rattle.mbap_frames.proofs.Gathered.{bytes_fit-drop}
use Rattle.mbap_frames.proofs.gathering.frame_of.Goals as goal

pub returns-clause-is_frame : goal.returns-clause-is_frame
returns-clause-is_frame c =
    let bytes = c.args.bytes.now in
    let whole = c.requires in
    let len = length-drop 7 bytes in
    let pdu : c.from_slice.result ≡ drop 7 bytes = c.from_slice.ensures ∙ take_all (length bytes - 7) (drop 7 bytes) (omega (arith, len)) in
    let pdu_len : length c.from_slice.result ≡ length bytes - 7 = ap length pdu ∙ len in
    record {
      transaction = c.from_be_bytes.type_inv;
      unit = omega (arith, c.type_inv.bytes 6);
      begins = omega arith;
      ends = omega arith;
      bytes = rw pdu (bytes_fit-drop 7 bytes (λ i. omega (arith, c.type_inv.bytes i)));
    }
