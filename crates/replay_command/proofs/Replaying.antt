-- A script has one text or one end by which it is refused, and what follows from it.
use Rattle.std.proofs.Common.{◌≡◌, ℕ, ◌⊎◌, inl, inr, List, Option, Some, refl, sym, ap, subst, ◌∙◌}
use Rattle.site_config.specs.declared.fault.SiteFault.{SiteFault}
use Rattle.script_text.specs.declared.line.LineKind.{LineKind}
use Rattle.script_replay.specs.declared.replay.ReplayFault.{ReplayFault}
use Rattle.script_replay.specs.declared.replay.ReplayFault.TheVariants as faults
use Rattle.script_replay.specs.Replay.{IsReplay, IsRefused, Explains, HasRoom}
use Rattle.command_io.specs.declared.ended.Ended.{Ended}
use Rattle.command_io.specs.declared.ended.Ended.TheVariants as ends
use Rattle.stream_io.specs.Streams.{Change, Fails}
use Rattle.stream_io.proofs.Told.{if_some_more}
use Rattle.script_command.specs.Ends.{HasNoText, IsReadWhole, IsScriptDue}
use Rattle.script_command.proofs.Ending.{OneMeaning, Says, due, no_book, told}
use Rattle.replay_command.specs.Replay.{fault_end, RefusesScript, TellsSafeLives, IsReplayEnd, IsReplayDue}

pub no_text : (fault : ReplayFault) (bytes : List ℕ) → Explains fault bytes → HasNoText (RefusesScript bytes) (fault_end fault)
no_text faults.NoMemory bytes explains = tt
no_text (faults.BadLine line kind) bytes explains = explains
no_text (faults.BadSite cause) bytes explains = no_book (IsRefused bytes) (RefusesScript bytes) (λ fault is. is) cause explains

-- the lives of a text are safe
pub tells : (bytes text : List ℕ) (full : Option ℕ) → IsReplay bytes full text → TellsSafeLives text
tells bytes text full p = (p.script.site, p.script.start, p.deeds, p.text_is, p.safe)

-- all of the input was read
pub read_whole : (ended : Ended) → (ended ≡ ends.Done) ⊎ (ended ≡ ends.WriteFault)
    ⊎ ((line : ℕ) × (kind : LineKind) × (ended ≡ ends.BadLine line kind))
    ⊎ ((fault : SiteFault) × (ended ≡ ends.BadSite fault)) ⊎ ((calls : ℕ) × (ended ≡ ends.BookFull calls)) → IsReadWhole ended
read_whole ended (inl e) = subst IsReadWhole (sym e) tt
read_whole ended (inr (inl e)) = subst IsReadWhole (sym e) tt
read_whole ended (inr (inr (inl e))) = subst IsReadWhole (sym e.2) tt
read_whole ended (inr (inr (inr (inl e)))) = subst IsReadWhole (sym e.1) tt
read_whole ended (inr (inr (inr (inr e)))) = subst IsReadWhole (sym e.1) tt

-- the fault for which a script is refused
abbrev FaultOf : List ℕ → Ended → Type 0
FaultOf bytes ended = (fault : ReplayFault) × Explains fault bytes × (fault_end fault ≡ ended) × (fault ≡ faults.NoMemory → ⊥)

fault_of : (bytes : List ℕ) (ended : Ended) → RefusesScript bytes ended → FaultOf bytes ended
fault_of bytes (ends.BadLine line kind) is = (faults.BadLine line kind, is, refl, λ no. absurd cc)
fault_of bytes (ends.BadSite fault) is = (faults.BadSite is.0, is.1, is.2, λ no. absurd cc)
fault_of bytes (ends.BadBus fault) is = absurd is
fault_of bytes ends.Done is = absurd is
fault_of bytes (ends.BookFull calls) is = absurd is
fault_of bytes ends.BadWords is = absurd is
fault_of bytes ends.ReadFault is = absurd is
fault_of bytes ends.WriteFault is = absurd is
fault_of bytes ends.NoMemory is = absurd is
fault_of bytes (ends.TooLong limit) is = absurd is
fault_of bytes (ends.Refused fault) is = absurd is

abbrev NotRefused : Type 0
NotRefused = (bytes : List ℕ) (full : Option ℕ) (text : List ℕ) (fault : ReplayFault) → IsReplay bytes full text → Explains fault bytes → fault ≡ faults.NoMemory

abbrev OneReplay : Type 0
OneReplay = (bytes : List ℕ) (a b : Option ℕ) (x y : List ℕ) → IsReplay bytes a x → IsReplay bytes b y → (a ≡ b) × (x ≡ y)

abbrev OneFault : Type 0
OneFault = (bytes : List ℕ) (f g : ReplayFault) → Explains f bytes → Explains g bytes → f ≡ g

one_meaning : OneReplay → NotRefused → OneMeaning IsReplay RefusesScript
one_meaning one stands = record {
  one_full = λ bytes a b x y p q. (one bytes a b x y p q).0;
  not_refused = λ bytes full text ended p is. let found : FaultOf bytes ended = fault_of bytes ended is in found.3 (stands bytes full text found.0 p found.1);
}

-- a script is refused by one end at most
one_refusal : OneFault → (bytes : List ℕ) (a b : Ended) → RefusesScript bytes a → RefusesScript bytes b → a ≡ b
one_refusal one_fault bytes a b is other =
    let f : FaultOf bytes a = fault_of bytes a is in
    let h : FaultOf bytes b = fault_of bytes b other in
    sym f.2 ∙ ap fault_end (one_fault bytes f.0 h.0 f.1 h.1) ∙ h.2

ends_so : OneFault → (bytes : List ℕ) (ended refusal : Ended) → RefusesScript bytes refusal → RefusesScript bytes ended ⊎ (ended ≡ ends.NoMemory)
    → (ended ≡ refusal) ⊎ (ended ≡ ends.NoMemory)
ends_so one_fault bytes ended refusal is (inl other) = inl (one_refusal one_fault bytes ended refusal other is)
ends_so one_fault bytes ended refusal is (inr none) = inr none

abbrev Room : Type 0
Room = (bytes : List ℕ) (fault : ReplayFault) → HasRoom bytes → Explains fault bytes → fault ≡ faults.NoMemory

abbrev RoomFull : Type 0
RoomFull = (bytes : List ℕ) (calls : ℕ) (text : List ℕ) → HasRoom bytes → IsReplay bytes (Some calls) text → ⊥

with_room : Room → RoomFull → (ended : Ended) (output : Change) (bytes : List ℕ) → Says IsReplay RefusesScript ended output bytes → HasRoom bytes → (Fails output → ⊥) → (ended ≡ ends.Done) ⊎ (ended ≡ ends.NoMemory)
with_room room full ends.Done output bytes says has none = inl refl
with_room room full ends.NoMemory output bytes says has none = inr refl
with_room room full (ends.BookFull calls) output bytes says has none = absurd (full bytes calls says.0 has says.1)
with_room room full (ends.BadLine line kind) output bytes says has none = let no : faults.BadLine line kind ≡ faults.NoMemory = room bytes (faults.BadLine line kind) has says in absurd cc
with_room room full (ends.BadSite fault) output bytes says has none = let no : faults.BadSite says.0 ≡ faults.NoMemory = room bytes (faults.BadSite says.0) has says.1 in absurd cc
with_room room full (ends.BadBus fault) output bytes says has none = absurd says
with_room room full ends.WriteFault output bytes says has none = absurd (none says.0)
with_room room full ends.ReadFault output bytes says has none = absurd says
with_room room full (ends.TooLong limit) output bytes says has none = absurd says
with_room room full ends.BadWords output bytes says has none = absurd says
with_room room full (ends.Refused fault) output bytes says has none = absurd says

pub replay_due : OneReplay → NotRefused → OneFault → Room → RoomFull → (ended : Ended) (read : List ℕ) (input output : Change) → IsReplayEnd ended read input output → IsReplayDue ended input output
replay_due one stands one_fault room full ended read input output row =
    let comes : IsScriptDue IsReplay RefusesScript ended input output = due IsReplay RefusesScript (one_meaning one stands) ended read input output row in record {
      complete = told IsReplay RefusesScript ended read input output _ row (λ bytes said within has works none. with_room room full ended output bytes (said works within) has none);
      full = if_some_more input.old _ _ (λ bytes is short calls text. is short (Some calls) text) comes.told;
      refused_line = if_some_more input.old _ _
          (λ bytes is short line kind bad works. ends_so one_fault bytes ended (ends.BadLine line kind) bad (is short (ends.BadLine line kind) bad works)) comes.refused;
      refused_site = if_some_more input.old _ _
          (λ bytes is short fault bad works. ends_so one_fault bytes ended (ends.BadSite fault) bad (is short (ends.BadSite fault) bad works)) comes.refused;
      beyond = comes.beyond;
    }
