-- What was read, as what the source told.
use Rattle.std.proofs.Common.{ℕ, ◌≤◌, List, ◌++◌, length, Option, Some, None, sym, ap, subst, ◌∙◌, arith, length-append}
use Rattle.std.specs.Prelude.{IfSome}
use Rattle.std.specs.Io.KnownBytes.{Consumes, IsAtEnd}
use Rattle.std.proofs.lemmas.List.{append-nil}

pub told_whole : (old new : Option (List ℕ)) (bytes : List ℕ) (P : List ℕ → Type 0) → Consumes old new bytes → IsAtEnd new → P bytes → IfSome old P
told_whole None new bytes P taken at_end holds = tt
told_whole (Some told) None bytes P taken at_end holds = absurd taken
told_whole (Some told) (Some left) bytes P taken at_end holds =
    subst P (sym (taken ∙ ap (λ (x : List ℕ). bytes ++ x) at_end ∙ append-nil bytes)) holds

pub if_some_all : {A : Type 0} (found : Option A) (P : A → Type 0) → ((x : A) → P x) → IfSome found P
if_some_all None P all = tt
if_some_all (Some x) P all = all x

pub if_some_more : {A : Type 0} (found : Option A) (P Q : A → Type 0) → ((x : A) → P x → Q x) → IfSome found P → IfSome found Q
if_some_more None P Q more some = tt
if_some_more (Some x) P Q more some = more x some

pub told_front : (old new : Option (List ℕ)) (read : List ℕ) → Consumes old new read → IfSome old (λ bytes. length read ≤ length bytes)
told_front None new read taken = tt
told_front (Some told) None read taken = absurd taken
told_front (Some told) (Some left) read taken = omega (arith, ap length taken, length-append read left)
