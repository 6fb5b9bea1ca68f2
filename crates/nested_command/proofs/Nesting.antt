-- An input with buses that has a text is refused by no end.
use Rattle.std.proofs.Common.{◌≡◌, ℕ, List, Option, refl}
use Rattle.nested_replay.specs.declared.replay.NestedFault.{NestedFault}
use Rattle.nested_replay.specs.declared.replay.NestedFault.TheVariants as faults
use Rattle.nested_replay.specs.Replay.{IsNestedReplay, IsSiteRefused, Explains}
use Rattle.command_io.specs.declared.ended.Ended.{Ended}
use Rattle.command_io.specs.declared.ended.Ended.TheVariants as ends
use Rattle.script_command.specs.Ends.{HasNoText}
use Rattle.script_command.proofs.Ending.{OneMeaning, no_book}
use Rattle.nested_command.specs.Nested.{fault_end, RefusesNested, TellsSafeLife}

pub no_text : (fault : NestedFault) (bytes : List ℕ) → Explains fault bytes → HasNoText (RefusesNested bytes) (fault_end fault)
no_text faults.NoMemory bytes explains = tt
no_text (faults.BadLine line kind) bytes explains = explains
no_text (faults.BadSite cause) bytes explains = no_book (IsSiteRefused bytes) (RefusesNested bytes) (λ fault is. is) cause explains
no_text (faults.BadBus fault) bytes explains = explains

-- the life of a text is safe
pub tells : (bytes text : List ℕ) (full : Option ℕ) → IsNestedReplay bytes full text → TellsSafeLife text
tells bytes text full p = record {
  buses = p.nested.buses;
  site = p.nested.script.site;
  start = p.nested.script.start;
  deeds = p.deeds;
  text_is = p.text_is;
  fit = p.fit;
  life = p.life;
  sound = p.sound;
  holds = p.holds;
}

-- the fault for which an input is refused
abbrev FaultOf : List ℕ → Ended → Type 0
FaultOf bytes ended = (fault : NestedFault) × Explains fault bytes × (fault_end fault ≡ ended) × (fault ≡ faults.NoMemory → ⊥)

fault_of : (bytes : List ℕ) (ended : Ended) → RefusesNested bytes ended → FaultOf bytes ended
fault_of bytes (ends.BadLine line kind) is = (faults.BadLine line kind, is, refl, λ no. absurd cc)
fault_of bytes (ends.BadSite fault) is = (faults.BadSite is.0, is.1, is.2, λ no. absurd cc)
fault_of bytes (ends.BadBus fault) is = (faults.BadBus fault, is, refl, λ no. absurd cc)
fault_of bytes ends.Done is = absurd is
fault_of bytes (ends.BookFull calls) is = absurd is
fault_of bytes ends.BadWords is = absurd is
fault_of bytes ends.ReadFault is = absurd is
fault_of bytes ends.WriteFault is = absurd is
fault_of bytes ends.NoMemory is = absurd is
fault_of bytes (ends.TooLong limit) is = absurd is
fault_of bytes (ends.Refused fault) is = absurd is

abbrev NotRefused : Type 0
NotRefused = (bytes : List ℕ) (full : Option ℕ) (text : List ℕ) (fault : NestedFault) → IsNestedReplay bytes full text → Explains fault bytes → fault ≡ faults.NoMemory

abbrev OneReplay : Type 0
OneReplay = (bytes : List ℕ) (a b : Option ℕ) (x y : List ℕ) → IsNestedReplay bytes a x → IsNestedReplay bytes b y → (a ≡ b) × (x ≡ y)

pub one_meaning : OneReplay → NotRefused → OneMeaning IsNestedReplay RefusesNested
one_meaning one stands = record {
  one_full = λ bytes a b x y p q. (one bytes a b x y p q).0;
  not_refused = λ bytes full text ended p is. let found : FaultOf bytes ended = fault_of bytes ended is in found.3 (stands bytes full text found.0 p found.1);
}
