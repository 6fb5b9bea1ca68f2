-- What one receive comes to.
use Rattle.std.proofs.Common.{◌≡◌, ℕ, Bool, List, [], ◌++◌, Option, Some, None, refl, sym, ap, subst, ◌∙◌, append-nil, arith}
use Rattle.std.specs.Option.{option_map}
use Rattle.world_traits.specs.Causes.{Rose}
use Rattle.world_traits.specs.Links as links
use Rattle.world_traits.specs.Links.{Links, after_hang_up, with_bytes, with_receipt}
use Rattle.world_traits.proofs.Links.{no_bytes}
use Rattle.mbap_frames.specs.Stream.{IsUnfinished}
use Rattle.inverter_server.specs.declared.piece.Course.{Course}
use Rattle.inverter_server.specs.declared.piece.Course.TheVariants as course
use Rattle.inverter_server.specs.Answers.{Answered, answer_bytes}
use Rattle.inverter_server.specs.Serving.{Ending, Open, Closed, Lost, Refused, Unsent, IsSent, MayDial, RoseBy, StandsBehind, failures_on}
use Rattle.inverter_server.specs.Turns.{State, IsAnsweredUpTo, IsAttended, IsOurs, CameTo, HandlesPiece, Receives, EndsAttended, after_receive}

-- one step and then another, where there is something
pub both_steps : {A B C : Type 0} (f : A → B) (g : B → C) (o : Option A) → option_map g (option_map f o) ≡ option_map (λ x. g (f x)) o
both_steps f g None = refl
both_steps f g (Some x) = refl

-- a receive that gave no bytes, and whatever becomes of the link by it
pub attended_none : (may_give : ℕ → Bool) (old new : State) (kept : List ℕ) (came : links.Answer) (ending : Ending)
    → CameTo ending came → links.answer_bytes came ≡ [] → StandsBehind old.bank.number ending kept → IsSent ending [] [] → new.bank ≡ old.bank
    → new.links ≡ option_map (after_receive came) old.links → RoseBy (failures_on ending) old.faults new.faults
    → IsAttended may_give old new kept kept came [] ending [] (λ (l : Links). l)
attended_none may_give old new kept came ending so none stands spelled bank recorded rose = record {
  replies = tt;
  bank = bank;
  number = ap (λ (b : _). b.number) bank;
  moments = tt;
  frames = tt;
  whole = ap (λ (t : List ℕ). kept ++ t) none ∙ append-nil kept;
  stands = stands;
  answered = so;
  spelled = spelled;
  unsent = λ _. refl;
  links = recorded ∙ sym (no_bytes (option_map (after_receive came) old.links)) ∙ both_steps (after_receive came) (with_bytes []) old.links;
  faults = rose;
}

-- a piece that came, and what became of it
attended_piece : (may_give : ℕ → Bool) (old new : State) (kept piece behind : List ℕ) (told : Option Links) (faults : ℕ) (answers : List Answered) (ending : Ending) (sent : List ℕ)
    → told ≡ option_map (with_receipt (links.Bytes piece)) old.links → faults ≡ old.faults → CameTo ending (links.Bytes piece)
    → IsAnsweredUpTo may_give (record { bank = old.bank; links = told; faults = faults }) new (kept ++ piece) behind answers ending sent
    → IsAttended may_give old new kept behind (links.Bytes piece) answers ending sent (λ (l : Links). l)
attended_piece may_give old new kept piece behind told faults answers ending sent recorded same so done = record {
  replies = done.replies;
  bank = done.bank;
  number = done.number;
  moments = done.moments;
  frames = done.frames;
  whole = done.whole;
  stands = done.stands;
  answered = so;
  spelled = done.spelled;
  unsent = λ failed. cc;
  links = done.links ∙ ap (λ (o : Option Links). option_map (with_bytes sent) o) recorded ∙ both_steps (with_receipt (links.Bytes piece)) (with_bytes sent) old.links;
  faults = subst (λ (n : ℕ). RoseBy (failures_on ending) n new.faults) same done.faults;
}

ours_come : (ending : Ending) (piece : List ℕ) → IsOurs ending → CameTo ending (links.Bytes piece)
ours_come Open piece ours = absurd ours
ours_come Closed piece ours = absurd ours
ours_come Lost piece ours = absurd ours
ours_come Refused piece ours = tt
ours_come Unsent piece ours = tt

ours_may_dial : (ending : Ending) → IsOurs ending → MayDial ending
ours_may_dial Open ours = absurd ours
ours_may_dial Closed ours = absurd ours
ours_may_dial Lost ours = absurd ours
ours_may_dial Refused ours = tt
ours_may_dial Unsent ours = tt

pub receives_piece : (may_give : ℕ → Bool) (old new : State) (kept piece after : List ℕ) (told : Option Links) (faults : ℕ) (came : Course)
    → told ≡ option_map (with_receipt (links.Bytes piece)) old.links → faults ≡ old.faults
    → HandlesPiece may_give (kept ++ piece) after (record { bank = old.bank; links = told; faults = faults }) new came
    → Receives may_give kept after old new came
receives_piece may_give old new kept piece after told faults course.GoesOn recorded same handled =
    (links.Bytes piece, handled.0, handled.1, attended_piece may_give old new kept piece after told faults handled.0 Open (answer_bytes handled.0) recorded same tt handled.2)
receives_piece may_give old new kept piece after told faults course.Ends recorded same handled = (
  links.Bytes piece,
  handled.0,
  handled.1,
  handled.2,
  handled.3,
  ours_may_dial handled.2 handled.4,
  attended_piece may_give old new kept piece handled.0 told faults handled.1 handled.2 handled.3 recorded same (ours_come handled.2 piece handled.4) handled.5,
)

-- nothing came
pub receives_quiet : (may_give : ℕ → Bool) (old new : State) (kept : List ℕ) → IsUnfinished kept → new.bank ≡ old.bank
    → new.links ≡ option_map (with_receipt links.Quiet) old.links → new.faults ≡ old.faults → Receives may_give kept kept old new course.GoesOn
receives_quiet may_give old new kept unfinished bank recorded same =
    (links.Quiet, [], unfinished, attended_none may_give old new kept links.Quiet Open tt refl unfinished refl bank recorded (omega (arith, same)))

-- the peer has closed the link
pub receives_closed : (may_give : ℕ → Bool) (old new : State) (kept after : List ℕ) → IsUnfinished kept → new.bank ≡ old.bank
    → new.links ≡ option_map (with_receipt links.Closed) old.links → new.faults ≡ old.faults → Receives may_give kept after old new course.Ends
receives_closed may_give old new kept after unfinished bank recorded same =
    (links.Closed, kept, [], Closed, [], tt, attended_none may_give old new kept links.Closed Closed refl refl unfinished refl bank recorded (omega (arith, same)))

-- the receive failed
pub receives_lost : (may_give : ℕ → Bool) (old new : State) (kept after : List ℕ) → IsUnfinished kept → new.bank ≡ old.bank
    → new.links ≡ option_map links.with_failure old.links → Rose old.faults new.faults → Receives may_give kept after old new course.Ends
receives_lost may_give old new kept after unfinished bank recorded rose =
    (links.Failed, kept, [], Lost, [], tt, attended_none may_give old new kept links.Failed Lost refl refl unfinished refl bank recorded (omega (arith, rose)))

-- a link that has come to its end is hung up
pub hung_up : (may_give : ℕ → Bool) (old mid new : State) (kept after : List ℕ) → Receives may_give kept after old mid course.Ends → new.bank ≡ mid.bank
    → new.links ≡ option_map after_hang_up mid.links → new.faults ≡ mid.faults → EndsAttended may_give kept old new after_hang_up
hung_up may_give old mid new kept after h bank recorded same =
    let d = h.6 in (
      h.0,
      h.1,
      h.2,
      h.3,
      h.4,
      h.5,
      record {
        replies = d.replies;
        bank = bank ∙ d.bank;
        number = ap (λ (b : _). b.number) bank ∙ d.number;
        moments = d.moments;
        frames = d.frames;
        whole = d.whole;
        stands = d.stands;
        answered = d.answered;
        spelled = d.spelled;
        unsent = d.unsent;
        links = recorded ∙ ap (λ (o : Option Links). option_map after_hang_up o) d.links
            ∙ both_steps (λ (l : Links). with_bytes h.4 (after_receive h.0 l)) after_hang_up old.links;
        faults = subst (λ (n : ℕ). RoseBy (failures_on h.3) old.faults n) (sym same) d.faults;
      },
    )
