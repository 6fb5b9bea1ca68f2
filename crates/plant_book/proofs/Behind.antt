-- What a part that is right behind some entries begins with.
use Rattle.std.proofs.Common.{◌≡◌, ℕ, ◌+◌, ◌<◌, true, false, List, [], ◌∷◌, ◌++◌, length, take, get_or, Option, Some, None, MatchOption, refl, sym, ap, subst, ◌∙◌, add-one, arith, ltb}
use Rattle.std.specs.Prelude.{IfSome, is_some}
use Rattle.std.proofs.lemmas.Bool.{lt-ltb}
use Rattle.std.proofs.lemmas.List.FromFn.{get_or-map-range_with_len, length-map-range_with_len}
use Rattle.plant_book.specs.declared.book.Entry.{Entry}
use Rattle.plant_book.specs.Site.{inverters}
use Rattle.std.proofs.lemmas.List.{length-append}
use Rattle.plant_book.specs.Calls.{moment, latest}
use Rattle.plant_book.specs.Reserved.{now_of}
use Rattle.plant_book.specs.Answered.{IsBook, with_entries}
use Rattle.plant_book.specs.Part.{UnitRecord, CarryRecord, PartRecord, book_before, book_behind, part_first, calls_carried, calls_of, moment_carried, last_moment_of}
use Rattle.plant_book.proofs.Prefix.{IsBook-first}
use Rattle.plant_book.specs.Carry.{unit_of, carry_of, IsBehind, IsBookPart}

-- a part with a carry begins with that of the entries before it
pub carry_is : (part : PartRecord) (before : List Entry) (carry : CarryRecord) → IsBehind before part → part.carry ≡ Some carry → carry ≡ carry_of (book_before before part)
carry_is part before carry is has = let its = rw has at is.carry in its

-- the one without a carry is the first of its life
pub nothing_before : (part : PartRecord) (before : List Entry) → IsBehind before part → part.carry ≡ None → before ≡ []
nothing_before part before is none = let its = rw none at is.carry in its

-- so it is right behind nothing
pub behind_nothing : (part : PartRecord) → IsBookPart part → part.carry ≡ None → IsBehind [] part
behind_nothing part of_life none = subst (λ (es : List Entry). IsBehind es part) (nothing_before part of_life.before of_life.behind none) of_life.behind

-- the unit of an inverter that is found among those of a carry
pub found_unit : {X : Type 0} (value : X → UnitRecord) (found : Option X) (part : PartRecord) (before : List Entry) (carry : CarryRecord) (inverter : ℕ)
    → IsBehind before part → part.carry ≡ Some carry → inverter < inverters part.site
    → is_some found ≡ ltb inverter (length carry.units) → IfSome found (λ x. value x ≡ get_or carry.units inverter (value x))
    → MatchOption found (before ≡ []) (λ x. value x ≡ unit_of (book_before before part) inverter)
found_unit value None part before carry inverter is has lt some at =
    let its = carry_is part before carry is has in
    let all : inverter < length carry.units = omega (arith, ap (λ (k : CarryRecord). length k.units) its, length-map-range_with_len (unit_of (book_before before part)) 0 (inverters part.site)) in
    absurd (never (some ∙ lt-ltb inverter (length carry.units) all))
  where
    never : false ≡ true → ⊥
    never is = cc
found_unit value (Some x) part before carry inverter is has lt some at =
    at
    ∙ ap (λ (k : CarryRecord). get_or k.units inverter (value x)) (carry_is part before carry is has)
    ∙ get_or-map-range_with_len (unit_of (book_before before part)) 0 (inverters part.site) inverter inverter (value x) lt (omega arith)

-- the calls of a life up to and with a part
calls_carried-is : (part : PartRecord) (before : List Entry) (carry : Option CarryRecord) → part.carry ≡ carry → IsBehind before part → calls_carried carry ≡ length before
calls_carried-is part before None has is = ap (λ (es : List Entry). length es) (sym (nothing_before part before is has))
calls_carried-is part before (Some carry) has is = ap (λ (k : CarryRecord). k.calls) (carry_is part before carry is has)

pub calls_of-is : (part : PartRecord) (before : List Entry) → IsBehind before part → calls_of part ≡ length (before ++ part.entries)
calls_of-is part before is = omega (arith, calls_carried-is part before part.carry refl is, length-append before part.entries)

-- the moment at which a part begins is the last one of those before it
moment_carried-is : (part : PartRecord) (before : List Entry) (carry : Option CarryRecord) → part.carry ≡ carry → IsBehind before part → moment_carried part.start carry ≡ latest part.start before
unfolding latest now_of
moment_carried-is part before None has is = ap (latest part.start) (sym (nothing_before part before is has))
moment_carried-is part before (Some carry) has is = ap (λ (k : CarryRecord). k.last) (carry_is part before carry is has)

latest-append : (start : ℕ) (before later : List Entry) → latest start (before ++ later) ≡ latest (latest start before) later
unfolding latest
latest-append start [] later = refl
latest-append start (entry ∷ before) later = latest-append (moment entry.call) before later

pub last_moment_of-is : (part : PartRecord) (before : List Entry) → IsBehind before part → last_moment_of part ≡ now_of (book_behind before part)
unfolding now_of
last_moment_of-is part before is = ap (λ (m : ℕ). latest m part.entries) (moment_carried-is part before part.carry refl is) ∙ sym (latest-append part.start before part.entries)

-- a part with its first entries alone is behind the same entries
take-behind : {X : Type 0} (before xs : List X) (count : ℕ) → take (length before + count) (before ++ xs) ≡ before ++ take count xs
take-behind {X = X} [] xs count = ap (λ (n : ℕ). take n xs) (omega arith)
take-behind {X = X} (x ∷ before) xs count = take_suc (length before + count) x (before ++ xs) (omega arith) ∙ ap (λ (ys : List X). x ∷ ys) (take-behind before xs count)
  where
    take_suc : {X : Type 0} (n : ℕ) {m : ℕ} (x : X) (xs : List X) → m ≡ n + 1 → take m (x ∷ xs) ≡ x ∷ take n xs
    take_suc n x xs is = rw (is, add-one) refl

pub IsBehind-first : (part : PartRecord) (before : List Entry) (count : ℕ) → IsBehind before part → IsBehind before (part_first part count)
IsBehind-first part before count is = record {
  carry = is.carry;
  book = subst (λ (es : List Entry). IsBook (with_entries (book_behind before part) es)) (take-behind before part.entries count) (IsBook-first (book_behind before part) (length before + count) is.book);
}
