-- Lists of buses without a fault, and what holds of each bus.
use Rattle.std.proofs.Common.{◌≡◌, ℕ, zero, suc, ◌+◌, ◌<◌, List, [], ◌∷◌, ◌++◌, length, get_or, take, drop, sym, ap, ◌∙◌, subst, append_assoc, arith}
use Rattle.std.specs.List.{AllByRecursion}
use Rattle.std.proofs.lemmas.List.{append-nil, take_more, take-append-drop, length-take-le}
use Rattle.std.proofs.Math.Seq.{drop-cons}
use Rattle.plant_book.proofs.Growing.{all_push}
use Rattle.plant_book.specs.Site.{SiteRecord}
use Rattle.busbars.specs.declared.bus.Bus as bus
use Rattle.busbars.specs.Buses.{Fits, EachFits}

-- what two facts of each element come to
pub all_both : {X : Type 0} (P Q R : X → Type 0) → ((x : X) → P x → Q x → R x) → (xs : List X) → AllByRecursion P xs → AllByRecursion Q xs → AllByRecursion R xs
all_both P Q R step [] one other = tt
all_both P Q R step (x ∷ xs) one other = (step x one.0 other.0, all_both P Q R step xs one.1 other.1)

pub all_weaker : {X : Type 0} (P Q : X → Type 0) → ((x : X) → P x → Q x) → (xs : List X) → AllByRecursion P xs → AllByRecursion Q xs
all_weaker P Q step [] all = tt
all_weaker P Q step (x ∷ xs) all = (step x all.0, all_weaker P Q step xs all.1)

-- what holds of each element holds of the one at a place
pub all_at : {X : Type 0} (P : X → Type 0) (xs : List X) (i : ℕ) (d : X) → i < length xs → AllByRecursion P xs → P (get_or xs i d)
all_at P [] i d lt all = absurd (omega arith)
all_at P (x ∷ xs) zero d lt all = all.0
all_at P (x ∷ xs) (suc i) d lt all = all_at P xs i d (omega arith) all.1

-- what holds of the first elements and of the next one holds of one more
pub all_more : {X : Type 0} (P : X → Type 0) (xs : List X) (i : ℕ) (d : X) → i < length xs → AllByRecursion P (take i xs) → P (get_or xs i d) → AllByRecursion P (take (i + 1) xs)
all_more P xs i d lt all last = subst (AllByRecursion P) (sym (take_more xs i d lt)) (all_push P (take i xs) (get_or xs i d) all last)

-- a list is what stands before a place, the element there and the rest
pub parts_at : {X : Type 0} (xs : List X) (i : ℕ) (d : X) → i < length xs → xs ≡ take i xs ++ get_or xs i d ∷ drop (suc i) xs
parts_at {X = X} xs i d lt = sym (take-append-drop i xs) ∙ ap (λ (ys : List X). take i xs ++ ys) (drop-cons xs i d lt)

pub length_before : {X : Type 0} (xs : List X) (i : ℕ) → i < length xs → i ≡ length (take i xs)
length_before xs i lt = sym (length-take-le i xs (omega arith))

module _ (site : SiteRecord) where
  -- what holds of each bus that fits
  pub each_that_fits : (P : bus.Bus → Type 0) → ((earlier : List bus.Bus) (b : bus.Bus) → Fits site earlier b → P b) → (earlier buses : List bus.Bus) → EachFits site earlier buses → AllByRecursion P buses
  each_that_fits P step earlier [] fit = tt
  each_that_fits P step earlier (b ∷ buses) fit = (step earlier b fit.0, each_that_fits P step (earlier ++ b ∷ []) buses fit.1)

  -- one more bus
  pub fits_push : (earlier buses : List bus.Bus) (b : bus.Bus) → EachFits site earlier buses → Fits site (earlier ++ buses) b → EachFits site earlier (buses ++ b ∷ [])
  fits_push earlier [] b fit last = (subst (λ (bs : List bus.Bus). Fits site bs b) (append-nil earlier) last, tt)
  fits_push earlier (one ∷ buses) b fit last =
      (fit.0, fits_push (earlier ++ one ∷ []) buses b fit.1 (subst (λ (bs : List bus.Bus). Fits site bs b) (sym (append_assoc earlier (one ∷ []) buses)) last))

  -- up to a place and with the bus there
  pub fits_more : (buses : List bus.Bus) (i : ℕ) (d : bus.Bus) → i < length buses → EachFits site [] (take i buses) → Fits site (take i buses) (get_or buses i d) → EachFits site [] (take (i + 1) buses)
  fits_more buses i d lt fit last = subst (EachFits site []) (sym (take_more buses i d lt)) (fits_push [] (take i buses) (get_or buses i d) fit last)
