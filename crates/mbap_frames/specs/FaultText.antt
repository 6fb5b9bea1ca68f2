-- The text of a fault: its name in lower-case letters, a space, and the number that is wrong.
use Rattle.std.specs.Prelude.{ℕ, List, ◌++◌, codes}
use Rattle.std.specs.Fmt.{decimal}
use Rattle.mbap_frames.specs.declared.frame.FrameFault.{FrameFault}
use Rattle.mbap_frames.specs.declared.frame.FrameFault.TheVariants.{BadProtocol, BadLength}

abbrev pub fault_text : FrameFault → List ℕ
fault_text (BadProtocol number) = codes "badprotocol " ++ decimal number
fault_text (BadLength length) = codes "badlength " ++ decimal length
