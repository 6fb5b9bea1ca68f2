-- What one more entry makes of the writes that stand.
use Rattle.std.proofs.Common.{◌≡◌, Bool, true, false, cond, not, ◌||◌, List, [], ◌∷◌, ◌++◌, refl, sym, ap, ◌∙◌, append_assoc}
use Rattle.std.specs.Prelude.{filter}
use Rattle.std.proofs.lemmas.List.{append-nil}
use Rattle.std.proofs.lemmas.List.Elements.{filter-append}
use Rattle.limiter_num.specs.declared.rules.Rules.{Rules}
use Rattle.plant_book.specs.declared.call.Write as writes
use Rattle.plant_book.specs.declared.book.Entry.{Entry}
use Rattle.plant_book.specs.Writes.{grant_of, ends, ends_later, standing}

-- a filter that every element passes leaves the list
pub filter_all_pass : {X : Type 0} (p : X → Bool) → ((x : X) → p x ≡ true) → (xs : List X) → filter p xs ≡ xs
filter_all_pass p passes [] = refl
filter_all_pass p passes (x ∷ xs) = rw (passes x) (ap (λ (ys : List _). x ∷ ys) (filter_all_pass p passes xs))

or_false : (a : Bool) → (a || false) ≡ a
or_false true = refl
or_false false = refl

or_join : (a b c d : Bool) → d ≡ (b || c) → (a || d) ≡ ((a || b) || c)
or_join true b c d is = refl
or_join false b c d is = is

-- whether one of the entries ends a write: the later ones, or one more behind them
pub ends_later-push : (rules : Rules) (before later : List Entry) (entry : Entry) (write : writes.Write) → ends_later rules before (later ++ entry ∷ []) write ≡ (ends_later rules before later write || ends rules (before ++ later) entry write)
unfolding ends_later
ends_later-push rules before [] entry write = or_false (ends rules before entry write) ∙ ap (λ (es : List Entry). ends rules es entry write) (sym (append-nil before))
ends_later-push rules before (first ∷ later) entry write =
    or_join (ends rules before first write) (ends_later rules (before ++ first ∷ []) later write) (ends rules (before ++ first ∷ later) entry write) _
    (ends_later-push rules (before ++ first ∷ []) later entry write
    ∙ ap (λ (es : List Entry). ends_later rules (before ++ first ∷ []) later write || ends rules es entry write) (append_assoc before (first ∷ []) later))

filter-same : {X : Type 0} (p q : X → Bool) → ((x : X) → p x ≡ q x) → (xs : List X) → filter p xs ≡ filter q xs
filter-same p q same [] = refl
filter-same p q same (x ∷ xs) = rw (same x, filter-same p q same xs) refl

filter-twice_step : {X : Type 0} (q : X → Bool) (a b : Bool) (x : X) (both once : List X) → q x ≡ b → both ≡ filter (λ y. not (q y)) once
    → cond (not (a || b)) (x ∷ both) both ≡ filter (λ y. not (q y)) (cond (not a) (x ∷ once) once)
filter-twice_step q true b x both once is same = same
filter-twice_step q false b x both once is same = rw (is, same) refl

filter-twice : {X : Type 0} (p q : X → Bool) (xs : List X) → filter (λ x. not (p x || q x)) xs ≡ filter (λ x. not (q x)) (filter (λ x. not (p x)) xs)
filter-twice p q [] = refl
filter-twice p q (x ∷ xs) = filter-twice_step q (p x) (q x) x (filter (λ y. not (p y || q y)) xs) (filter (λ y. not (p y)) xs) refl (filter-twice p q xs)

-- the writes that stand behind one more entry: those that it doesn't end, and the one that it grants
pub standing-push : (rules : Rules) (before later : List Entry) (entry : Entry)
    → standing rules before (later ++ entry ∷ []) ≡ filter (λ write. not (ends rules (before ++ later) entry write)) (standing rules before later) ++ grant_of entry
unfolding standing ends_later
standing-push rules before [] entry = append-nil (filter (λ write. not (ends_later rules (before ++ entry ∷ []) [] write)) (grant_of entry)) ∙ filter_all_pass (λ write. not (ends_later rules (before ++ entry ∷ []) [] write)) (λ write. refl) (grant_of entry)
standing-push rules before (first ∷ later) entry =
    let through = before ++ first ∷ [] in
    let ended : writes.Write → Bool = λ write. ends_later rules through later write in
    let ends_here : writes.Write → Bool = λ write. ends rules (through ++ later) entry write in
    let firsts : filter (λ write. not (ends_later rules through (later ++ entry ∷ []) write)) (grant_of first) ≡ filter (λ write. not (ends_here write)) (filter (λ write. not (ended write)) (grant_of first)) =
    filter-same (λ write. not (ends_later rules through (later ++ entry ∷ []) write)) (λ write. not (ended write || ends_here write)) (λ write. ap not (ends_later-push rules through later entry write)) (grant_of first)
    ∙ filter-twice ended ends_here (grant_of first) in
    let rest = standing-push rules through later entry in
    let joined : filter (λ write. not (ends_later rules through (later ++ entry ∷ []) write)) (grant_of first) ++ standing rules through (later ++ entry ∷ [])
    ≡ filter (λ write. not (ends_here write)) (filter (λ write. not (ended write)) (grant_of first) ++ standing rules through later) ++ grant_of entry =
    rw (firsts, rest, filter-append (λ write. not (ends_here write)) (filter (λ write. not (ended write)) (grant_of first)) (standing rules through later))
    (sym (append_assoc (filter (λ write. not (ends_here write)) (filter (λ write. not (ended write)) (grant_of first))) (filter (λ write. not (ends_here write)) (standing rules through later)) (grant_of entry))) in
    joined ∙ ap (λ (es : List Entry). filter (λ write. not (ends rules es entry write)) (filter (λ write. not (ended write)) (grant_of first) ++ standing rules through later) ++ grant_of entry) (append_assoc before (first ∷ []) later)
