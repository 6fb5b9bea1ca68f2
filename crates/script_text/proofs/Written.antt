-- Lines that are written from the last byte to the first.
use Rattle.std.proofs.Common.{◌≡◌, List, [], ◌∷◌, ◌++◌, ap, ◌∙◌, append_assoc, ℕ, Result, Ok, Err}
use Rattle.std.specs.Prelude.{OnErr}
use Rattle.script_text.specs.Words.{spaced}
use Rattle.script_text.specs.Lines.{IsLonger}

pub next_put : (n t0 t1 t2 : List ℕ) → t1 ≡ n ++ t0 → t2 ≡ (32 ∷ []) ++ t1 → t2 ≡ 32 ∷ (n ++ t0)
next_put n t0 t1 t2 p q = q ∙ ap (λ (x : List ℕ). 32 ∷ x) p

pub none_put : (w t0 t1 : List ℕ) → t1 ≡ w ++ t0 → t1 ≡ spaced (w ∷ []) ++ t0
none_put w t0 t1 p = p ∙ simp append_assoc

pub one_put : (w a t0 t1 t2 : List ℕ) → t1 ≡ 32 ∷ (a ++ t0) → t2 ≡ w ++ t1 → t2 ≡ spaced (w ∷ a ∷ []) ++ t0
one_put w a t0 t1 t2 p q = rw (q, p) (simp append_assoc)

pub two_put : (w a b t0 t1 t2 t3 : List ℕ) → t1 ≡ 32 ∷ (b ++ t0) → t2 ≡ 32 ∷ (a ++ t1) → t3 ≡ w ++ t2 → t3 ≡ spaced (w ∷ a ∷ b ∷ []) ++ t0
two_put w a b t0 t1 t2 t3 p q r = rw (r, q, p) (simp append_assoc)

pub three_put : (w a b c t0 t1 t2 t3 t4 : List ℕ) → t1 ≡ 32 ∷ (c ++ t0) → t2 ≡ 32 ∷ (b ++ t1) → t3 ≡ 32 ∷ (a ++ t2) → t4 ≡ w ++ t3 → t4 ≡ spaced (w ∷ a ∷ b ∷ c ∷ []) ++ t0
three_put w a b c t0 t1 t2 t3 t4 p q r s = rw (s, r, q, p) (simp append_assoc)

pub four_put : (w a b c d t0 t1 t2 t3 t4 t5 : List ℕ) → t1 ≡ 32 ∷ (d ++ t0) → t2 ≡ 32 ∷ (c ++ t1) → t3 ≡ 32 ∷ (b ++ t2) → t4 ≡ 32 ∷ (a ++ t3) → t5 ≡ w ++ t4 → t5 ≡ spaced (w ∷ a ∷ b ∷ c ∷ d ∷ []) ++ t0
four_put w a b c d t0 t1 t2 t3 t4 t5 p q r s u = rw (u, s, r, q, p) (simp append_assoc)

pub inverter_put : (w a b b' c c' d t0 t1 t2 t3 t4 t5 : List ℕ) → b' ≡ b → c' ≡ c → t1 ≡ 32 ∷ (d ++ t0) → t2 ≡ 32 ∷ (c' ++ t1) → t3 ≡ 32 ∷ (b' ++ t2) → t4 ≡ 32 ∷ (a ++ t3) → t5 ≡ w ++ t4 → t0 ≡ 10 ∷ []
    → t5 ≡ spaced (w ∷ a ∷ b ∷ c ∷ d ∷ []) ++ 10 ∷ []
inverter_put w a b b' c c' d t0 t1 t2 t3 t4 t5 x y p q r s u e = rw (u, s, r, q, p, e, x, y) (simp append_assoc)

pub site_put : (w a b c d f g h k t0 t1 t2 t3 t4 t5 t6 t7 t8 t9 : List ℕ) → t1 ≡ 32 ∷ (k ++ t0) → t2 ≡ 32 ∷ (h ++ t1) → t3 ≡ 32 ∷ (g ++ t2) → t4 ≡ 32 ∷ (f ++ t3) → t5 ≡ 32 ∷ (d ++ t4) → t6 ≡ 32 ∷ (c ++ t5) → t7 ≡ 32 ∷ (b ++ t6)
    → t8 ≡ 32 ∷ (a ++ t7) → t9 ≡ w ++ t8 → t0 ≡ 10 ∷ [] → t9 ≡ spaced (w ∷ a ∷ b ∷ c ∷ d ∷ f ∷ g ∷ h ∷ k ∷ []) ++ 10 ∷ []
site_put w a b c d f g h k t0 t1 t2 t3 t4 t5 t6 t7 t8 t9 p1 p2 p3 p4 p5 p6 p7 p8 p9 e = rw (p9, p8, p7, p6, p5, p4, p3, p2, p1, e) (simp append_assoc)

pub longer : {T E : Type 0} (r : Result T E) (old a b : List ℕ) → b ≡ old ++ a → OnErr r (IsLonger old b)
longer (Ok x) old a b e = tt
longer (Err x) old a b e = (a, e)
