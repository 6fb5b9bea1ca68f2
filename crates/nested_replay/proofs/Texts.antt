-- What is written.
use Rattle.std.proofs.Common.{◌≡◌, ℕ, suc, ◌+◌, ◌≤◌, List, [], ◌∷◌, ◌++◌, length, drop, Result, Ok, Err, sym, ap, ◌∙◌, append_assoc, arith}
use Rattle.std.specs.Prelude.{OnOk, codes, Some, slice_get}
use Rattle.std.specs.List.{flat_map}
use Rattle.std.proofs.Math.Seq.{drop-cons}
use Rattle.std.proofs.lemmas.List.{append-nil, drop_all}
use Rattle.std.proofs.lemmas.Option.{slice_get_within, get_or_from_slice_get}
use Rattle.plant_book.specs.declared.book.Entry.{Entry}
use Rattle.script_text.specs.Words.{spaced}
use Rattle.script_text.specs.Text.{entry_text}

pub on_ok : {T E A B : Type 0} (r : Result T E) → (A → B) → OnOk r A → OnOk r B
on_ok (Ok x) f a = f a
on_ok (Err x) f a = tt

pub busfull_line : (o at inverter raw bus left inverter' raw' bus' x1 x2 x3 x4 : List ℕ) → inverter' ≡ inverter → raw' ≡ raw → bus' ≡ bus → x1 ≡ o ++ codes "ask" → x2 ≡ x1 ++ 32 ∷ (at ++ 32 ∷ (inverter' ++ 32 ∷ raw')) → x3 ≡ x2 ++ codes " = busfull"
    → x4 ≡ x3 ++ 32 ∷ (bus' ++ 32 ∷ (left ++ 10 ∷ [])) → x4 ≡ o ++ (spaced (codes "ask" ∷ at ∷ inverter ∷ raw ∷ codes "=" ∷ codes "busfull" ∷ bus ∷ left ∷ []) ++ 10 ∷ [])
busfull_line o at inverter raw bus left inverter' raw' bus' x1 x2 x3 x4 a b c p q r s = rw (s, r, q, p, a, b, c) (simp append_assoc)

-- the entries from a place on begin with the one there
next_entry : (entries : List Entry) (place : ℕ) (entry : Entry) → slice_get entries place ≡ Some entry → drop place entries ≡ entry ∷ drop (suc place) entries
next_entry entries place entry is =
    drop-cons entries place entry (slice_get_within entries place entry is) ∙ ap (λ (x : Entry). x ∷ drop (suc place) entries) (get_or_from_slice_get entries place entry entry is)

-- going on over entries: what is written and the texts of the rest are all
pub entry_on : (entries : List Entry) (place : ℕ) (entry : Entry) (old new whole : List ℕ) → slice_get entries place ≡ Some entry → new ≡ old ++ entry_text entry → old ++ flat_map entry_text (drop place entries) ≡ whole
    → new ++ flat_map entry_text (drop (place + 1) entries) ≡ whole
entry_on entries place entry old new whole is added all =
    let rest : List ℕ = flat_map entry_text (drop (place + 1) entries) in
    let next : place + 1 ≡ suc place = omega arith in
    let first : flat_map entry_text (drop place entries) ≡ entry_text entry ++ rest =
    ap (flat_map entry_text) (next_entry entries place entry is) ∙ ap (λ (n : ℕ). entry_text entry ++ flat_map entry_text (drop n entries)) (sym next) in
    ap (λ (x : List ℕ). x ++ rest) added ∙ append_assoc old (entry_text entry) rest ∙ ap (λ (x : List ℕ). old ++ x) (sym first) ∙ all

pub entries_end : (entries : List Entry) (place : ℕ) (old whole : List ℕ) → length entries ≤ place → old ++ flat_map entry_text (drop place entries) ≡ whole → old ≡ whole
entries_end entries place old whole past all =
    sym (ap (λ (x : List Entry). old ++ flat_map entry_text x) (drop_all place entries past) ∙ append-nil old) ∙ all
