-- Texts that are written one behind the other.
use Rattle.std.proofs.Common.{◌≡◌, ℕ, ◌+◌, ◌<◌, List, [], ◌∷◌, ◌++◌, length, take, drop, Option, refl, sym, ap, subst, ◌∙◌, append_assoc, take-append-drop, get_or}
use Rattle.std.specs.Prelude.{OnErr, Result, Ok, Err}
use Rattle.std.specs.List.{flat_map}
use Rattle.std.specs.Io.KnownBytes.{Appends}
use Rattle.std.proofs.KnownBytes.{Appends-trans, Appends-nil}
use Rattle.std.proofs.lemmas.Grind.{flat_map-append}
use Rattle.std.proofs.lemmas.List.{append-nil, take_more}
use Rattle.stream_io.specs.Streams.{AppendsFront}

-- the first bytes of a text are the first of a longer one
pub front_first : (a b : Option (List ℕ)) (x y : List ℕ) → AppendsFront a b x → AppendsFront a b (x ++ y)
front_first a b x y (front, rest, is, gained) = (front, rest ++ y, ap (λ (t : List ℕ). t ++ y) is ∙ append_assoc front rest y, gained)

-- a whole text, and the first bytes of the next
pub front_second : (a b c : Option (List ℕ)) (x y : List ℕ) → Appends a b x → AppendsFront b c y → AppendsFront a c (x ++ y)
front_second a b c x y whole (front, rest, is, gained) =
    (x ++ front, rest, ap (λ (t : List ℕ). x ++ t) is ∙ sym (append_assoc x front rest), Appends-trans a b c x front whole gained)

-- no byte is the front of each text
pub front_none : (a : Option (List ℕ)) (x : List ℕ) → AppendsFront a a x
front_none a x = ([], x, refl, Appends-nil a)

-- the same of a text that is equal
pub front_is : {E : Type 0} (r : Result (Unit {0}) E) (a b : Option (List ℕ)) (x y : List ℕ) → x ≡ y → OnErr r (AppendsFront a b x) → OnErr r (AppendsFront a b y)
front_is r a b x y same front = let P : List ℕ → Type 0 = λ t. OnErr r (AppendsFront a b t) in subst P same front

-- a fact of an end
pub on_err : {T E : Type 0} (r : Result T E) (P : Type 0) → P → OnErr r P
on_err (Ok x) P p = tt
on_err (Err e) P p = p

-- the texts of the first elements, and of one more
pub texts_to : {X : Type 0} (f : X → List ℕ) (xs : List X) (i : ℕ) (d : X) → i < length xs → flat_map f (take (i + 1) xs) ≡ flat_map f (take i xs) ++ f (get_or xs i d)
texts_to {X} f xs i d below =
    ap (λ (l : List X). flat_map f l) (take_more xs i d below) ∙ flat_map-append f (take i xs) (get_or xs i d ∷ [])
    ∙ ap (λ (t : List ℕ). flat_map f (take i xs) ++ t) (append-nil (f (get_or xs i d)))

-- and of those behind them
pub texts_all : {X : Type 0} (f : X → List ℕ) (xs : List X) (i : ℕ) → flat_map f (take i xs) ++ flat_map f (drop i xs) ≡ flat_map f xs
texts_all {X} f xs i = sym (flat_map-append f (take i xs) (drop i xs)) ∙ ap (λ (l : List X). flat_map f l) (take-append-drop i xs)

-- a fact of an end, by another
pub on_err_more : {T E : Type 0} (r : Result T E) (P Q : Type 0) → (P → Q) → OnErr r P → OnErr r Q
on_err_more (Ok x) P Q more p = tt
on_err_more (Err e) P Q more p = more p
