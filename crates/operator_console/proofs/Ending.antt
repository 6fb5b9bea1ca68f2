-- A line and its end, among the bytes that were held.
use Rattle.std.proofs.Common.{◌≡◌, ℕ, zero, suc, ◌<◌, List, [], ◌∷◌, ◌++◌, length, get_or, refl, ap, subst, ◌∙◌, arith, inl, inr, append_assoc}
use Rattle.std.specs.Str.Iter.{LacksByte}
use Rattle.operator_console.specs.Orders.{IsLine}
use Rattle.ledger_desk.specs.Desk.{DeskTests, TestsLast}
use Rattle.operator_console.specs.Deeds.{tests_of}
use Rattle.operator_console.specs.Handling.{HasReturn}
use Rattle.operator_console.proofs.Done.{Lasts}
use Rattle.std.specs.Prelude.{Bool}

-- no byte of a front is one that the whole lacks
front_lacks : (byte : ℕ) (a b : List ℕ) (k : ℕ) → k < length a → LacksByte byte (a ++ b) → get_or a k 0 ≡ byte → ⊥
front_lacks byte [] b k below lacks is = absurd (omega (arith, below))
front_lacks byte (x ∷ a) b zero below lacks is = lacks 0 (omega arith) is
front_lacks byte (x ∷ a) b (suc k) below lacks is = front_lacks byte a b k (omega (arith, below)) (λ n within. lacks (suc n) (omega (arith, within))) is

pub lacks_front : (byte : ℕ) (a b : List ℕ) → LacksByte byte (a ++ b) → LacksByte byte a
lacks_front byte a b lacks = λ k below is. front_lacks byte a b k below lacks is

-- the end of a line that was held
pub record Ends (held line : List ℕ) : Type 0 where
  pub end : List ℕ
  pub is_line : IsLine line end
  pub some : ¬ (end ≡ [])
  pub next : held ++ 10 ∷ [] ≡ line ++ end

pub ends : (held line : List ℕ) → LacksByte 10 held → HasReturn held line → Ends held line
ends held line lacks (inl is) =
    let P : List ℕ → Type 0 = λ l. LacksByte 10 l in
    record {
      end = 13 ∷ 10 ∷ [];
      is_line = record { one = lacks_front 10 line (13 ∷ []) (subst P is lacks); ended = inl refl };
      some = λ e. let n : 2 ≡ 0 = ap length e in omega (arith, n);
      next = ap (λ (l : List ℕ). l ++ 10 ∷ []) is ∙ append_assoc line (13 ∷ []) (10 ∷ []);
    }
ends held line lacks (inr (is, alone)) =
    let P : List ℕ → Type 0 = λ l. LacksByte 10 l in
    record {
      end = 10 ∷ [];
      is_line = record { one = subst P is lacks; ended = inr (inl (refl, alone)) };
      some = λ e. let n : 1 ≡ 0 = ap length e in omega (arith, n);
      next = ap (λ (l : List ℕ). l ++ 10 ∷ []) is;
    }

-- the tests of a desk over a call, at one clock
pub lasts : (may_give : ℕ → Bool) (old new : DeskTests) → TestsLast old new → Lasts (tests_of may_give old) (tests_of may_give new)
lasts may_give old new last = record {
  given = λ reading. refl;
  goals = last.goals;
  rolls = last.rolls;
  lives = last.lives;
}

pub last_again : (a b c : DeskTests) → TestsLast a b → TestsLast b c → TestsLast a c
last_again a b c first second = record {
  goals = λ made place inverter goal is. second.goals made place inverter goal (first.goals made place inverter goal is);
  full = λ is. second.full (first.full is);
  rolls = λ number book is. second.rolls number book (first.rolls number book is);
  lives = λ calls is. second.lives calls (first.lives calls is);
}

pub last_same : (tests : DeskTests) → TestsLast tests tests
last_same tests = record { goals = λ made place inverter goal is. is; full = λ is. is; rolls = λ number book is. is; lives = λ calls is. is }

lacks_cons : (byte x : ℕ) (xs : List ℕ) → (x ≡ byte → ⊥) → LacksByte byte xs → LacksByte byte (x ∷ xs)
lacks_cons byte x xs head tail zero below is = head is
lacks_cons byte x xs head tail (suc k) below is = tail k (omega (arith, below)) is

-- two parts that lack a byte
pub lacks_both : (byte : ℕ) (a b : List ℕ) → LacksByte byte a → LacksByte byte b → LacksByte byte (a ++ b)
lacks_both byte [] b first second = second
lacks_both byte (x ∷ a) b first second = lacks_cons byte x (a ++ b) (first 0 (omega arith)) (lacks_both byte a b (λ k below. first (suc k) (omega (arith, below))) second)
