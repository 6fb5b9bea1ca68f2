-- One list of answers behind another.
use Rattle.std.proofs.Common.{◌≡◌, List, [], ◌∷◌, ◌++◌, map, refl, ap, ◌∙◌}
use Rattle.std.specs.List.{AllByRecursion}
use Rattle.std.proofs.lemmas.List.{map-append}
use Rattle.std.proofs.lemmas.List.Concat.{flat_map-append}
use Rattle.mbap_frames.specs.declared.frame.Frame.{Frame}
use Rattle.mbap_frames.specs.Frame.{frame_spelling}
use Rattle.mbap_frames.specs.Stream.{frames_spelling}
use Rattle.inverter_sim.specs.Bank.{BankRecord}
use Rattle.inverter_server.specs.Answers.{Answered, AreAnswers, bank_after, bank_after_all, asked_bytes, answer_bytes}

pub all-append : {X : Type 0} (P : X → Type 0) (xs ys : List X) → AllByRecursion P xs → AllByRecursion P ys → AllByRecursion P (xs ++ ys)
all-append P [] ys each more = more
all-append P (x ∷ xs) ys each more = (each.0, all-append P xs ys each.1 more)

pub bank_after_all-append : (bank : BankRecord) (xs ys : List Answered) → bank_after_all bank (xs ++ ys) ≡ bank_after_all (bank_after_all bank xs) ys
bank_after_all-append bank [] ys = refl
bank_after_all-append bank (x ∷ xs) ys = bank_after_all-append (bank_after bank x) xs ys

pub AreAnswers-append : (bank : BankRecord) (xs ys : List Answered) → AreAnswers bank xs → AreAnswers (bank_after_all bank xs) ys → AreAnswers bank (xs ++ ys)
AreAnswers-append bank [] ys each more = more
AreAnswers-append bank (x ∷ xs) ys each more = (each.0, AreAnswers-append (bank_after bank x) xs ys each.1 more)

spelled-append : (f : Answered → Frame) (xs ys : List Answered) → frames_spelling (map f (xs ++ ys)) ≡ frames_spelling (map f xs) ++ frames_spelling (map f ys)
spelled-append f xs ys = ap frames_spelling (map-append f xs ys) ∙ flat_map-append frame_spelling (map f xs) (map f ys)

pub asked_bytes-append : (xs ys : List Answered) → asked_bytes (xs ++ ys) ≡ asked_bytes xs ++ asked_bytes ys
asked_bytes-append xs ys = spelled-append (λ answered. answered.asked) xs ys

pub answer_bytes-append : (xs ys : List Answered) → answer_bytes (xs ++ ys) ≡ answer_bytes xs ++ answer_bytes ys
answer_bytes-append xs ys = spelled-append (λ answered. answered.answer) xs ys
