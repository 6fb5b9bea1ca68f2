-- The rows of bytes that are lines, each with its line feed, and of comments among them.
use Rattle.std.proofs.Common.{◌≡◌, ℕ, suc, ◌≤◌, inl, inr, false, eqb, List, [], ◌∷◌, ◌++◌, length, refl, sym, ap, ◌∙◌, arith, length-append}
use Rattle.std.specs.Str.Iter.{LacksByte}
use Rattle.std.specs.Str.Lines.{lines}
use Rattle.std.proofs.lemmas.Bool.{ne_eqb, cases_Bool}
use Rattle.script_text.specs.Grammar.{IsComment}
use Rattle.script_text.specs.Reading.{row_at, behind_row}
use Rattle.script_text.proofs.LineEnds.{lines_first}
use Rattle.script_text.proofs.Taken.{comment_is}

-- the row of a line that ends with a line feed
abbrev pub row_of : List ℕ → List ℕ
row_of line = row_at (line ++ 10 ∷ [])

-- bytes without a line feed don't begin with one
first_lacks : (byte : ℕ) (more : List ℕ) → LacksByte 10 (byte ∷ more) → eqb byte 10 ≡ false
first_lacks byte more lacks = ne_eqb byte 10 (lacks 0 (omega arith))

-- nor do those behind the first have one
later_lacks : (byte : ℕ) (more : List ℕ) → LacksByte 10 (byte ∷ more) → LacksByte 10 more
later_lacks byte more lacks k low = lacks (suc k) (omega (arith, low))

-- the row of two bytes and more goes on behind the first
row_on : (byte next : ℕ) (rest : List ℕ) → eqb byte 10 ≡ false → eqb next 10 ≡ false → row_at (byte ∷ next ∷ rest) ≡ byte ∷ row_at (next ∷ rest)
row_on byte next rest not inside = elim (cases_Bool (eqb byte 13)) [ inl is ↦ rw (not, is, inside) refl | inr other ↦ rw (not, other) refl ]

-- a line is its own row, whatever stands behind its line feed
row_first : (line rest : List ℕ) → LacksByte 10 line → row_at (line ++ 10 ∷ rest) ≡ row_of line
row_first [] rest lacks = refl
row_first (byte ∷ []) rest lacks =
    let not = first_lacks byte [] lacks in
    elim (cases_Bool (eqb byte 13)) [ inl is ↦ rw (not, is) refl | inr other ↦ rw (not, other) refl ]
row_first (byte ∷ next ∷ more) rest lacks =
    let not = first_lacks byte (next ∷ more) lacks in
    let later : LacksByte 10 (next ∷ more) = later_lacks byte (next ∷ more) lacks in
    let inside = first_lacks next more later in
    row_on byte next (more ++ 10 ∷ rest) not inside ∙ ap (λ (x : List ℕ). byte ∷ x) (row_first (next ∷ more) rest later) ∙ sym (row_on byte next (more ++ 10 ∷ []) not inside)

-- and what stands behind its line feed stands behind its row
behind_first : (line rest : List ℕ) → LacksByte 10 line → behind_row (line ++ 10 ∷ rest) ≡ rest
behind_first [] rest lacks = refl
behind_first (byte ∷ more) rest lacks =
    let not = first_lacks byte more lacks in
    rw not (behind_first more rest (later_lacks byte more lacks))

-- the rows of a line and of the bytes behind its line feed
pub lines_behind : (line rest : List ℕ) → LacksByte 10 line → lines (line ++ 10 ∷ rest) ≡ row_of line ∷ lines rest
lines_behind line rest lacks =
    let some : 1 ≤ length (line ++ 10 ∷ rest) = omega (arith, length-append line (10 ∷ rest)) in
    lines_first (line ++ 10 ∷ rest) some ∙ (λ i. row_first line rest lacks i ∷ lines (behind_first line rest lacks i))

-- the row of a comment line is a comment
pub comment_row : (line : List ℕ) → IsComment line → IsComment (row_of line)
comment_row [] is = absurd is
comment_row (byte ∷ more) is = (comment_is byte (more ++ 10 ∷ [])).0 is
