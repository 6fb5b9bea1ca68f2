-- The greatest raw percentage of writes, and writes in order.
use Rattle.std.proofs.Common.{◌≡◌, ℕ, suc, max, min, ◌^◌, ◌+◌, ◌-◌, ◌<◌, ◌≤◌, Bool, true, false, ◌||◌, List, [], ◌∷◌, ◌++◌, length, length-append, get_or, take, drop, map, refl, ap, sym, ◌∙◌, arith, inl, inr}
use Rattle.std.specs.Prelude.{filter, fold}
use Rattle.std.specs.List.{All, Any, list_any}
use Rattle.std.proofs.lemmas.List.Elements.{All-push, All-weaker}
use Rattle.std.proofs.lemmas.List.Quantifiers.{Any-push}
use Rattle.std.proofs.lemmas.Bool.{cases_Bool, cases_lt, lt-ltb, le-ltb}
use Rattle.std.proofs.lemmas.List.{get_or_default, take_more, get_or_append_left}
use Rattle.std.proofs.lemmas.List.Sorted.{IsNonDecreasingBy-push, IsNonDecreasingBy-drop}
use Rattle.std.proofs.lemmas.List.Kept.{IsNonDecreasingBy-filter}
use Rattle.limiter_num.specs.declared.rating.Rating.{Rating}
use Rattle.limiter_num.specs.declared.rules.Rules.{Rules}
use Rattle.limiter_num.specs.Rating.{mw}
use Rattle.limiter_num.specs.Timers.{last_moment}
use Rattle.plant_book.specs.declared.call.Write as writes
use Rattle.plant_book.proofs.Maxima.{fold_max-push}
use Rattle.uncertain_writes.specs.Live.{is_past, most_raw, AreInOrder, IsOldest}
use Rattle.uncertain_writes.proofs.Lists.{fold_max-from, mw-max, mw-zero}

-- the milliwatts of the greatest raw percentage are the greatest milliwatts
pub mw-most_raw : (rating : Rating) (its : List writes.Write) → mw rating (most_raw its) ≡ fold max 0 (map (λ write. mw rating write.raw) its)
mw-most_raw rating [] = mw-zero rating
mw-most_raw rating (x ∷ xs) =
    let raws = map (λ (write : writes.Write). write.raw) xs in
    let watts = map (λ (write : writes.Write). mw rating write.raw) xs in
    let first : max 0 x.raw ≡ x.raw = omega arith in
    let left : mw rating (fold max (max 0 x.raw) raws) ≡ max (mw rating (max 0 x.raw)) (mw rating (fold max 0 raws)) =
    ap (mw rating) (fold_max-from (max 0 x.raw) raws) ∙ mw-max rating (max 0 x.raw) (fold max 0 raws) in
    omega (arith, left, ap (mw rating) first, mw-most_raw rating xs, fold_max-from (max 0 (mw rating x.raw)) watts)

-- without a first write that has a lesser one the greatest stays
pub most_raw-drop : (its : List writes.Write) (first : writes.Write) (most raw : ℕ) → 0 < length its → first ≡ get_or its 0 first → raw ≡ first.raw → most ≡ most_raw its → (raw ≡ most → ⊥)
    → most ≡ most_raw (drop 1 its)
most_raw-drop [] first most raw some is its_raw greatest other = absurd (omega (arith, some))
most_raw-drop (x ∷ xs) first most raw some is its_raw greatest other =
    let all = fold_max-from (max 0 x.raw) (map (λ (write : writes.Write). write.raw) xs) in
    let same : first.raw ≡ x.raw = ap (λ (write : writes.Write). write.raw) is in
    elim (cases_lt (most_raw xs) most) [
      | inl lt ↦ absurd (other (omega (arith, all, greatest, same, its_raw, lt)))
      | inr le ↦ omega (arith, all, greatest, le)
    ]

-- a test that fails everywhere finds nothing
none_found : (p : writes.Write → Bool) (xs : List writes.Write) → ((k : ℕ) (d : writes.Write) → k < length xs → p (get_or xs k d) ≡ false) → list_any p xs ≡ false
none_found p [] fails = refl
none_found p (x ∷ xs) fails =
    let first : p x ≡ false = fails 0 x (omega arith) in
    rw first (none_found p xs (λ k d h. fails (suc k) d (omega arith)))

past_at : (rules : Rules) (now : ℕ) (a b : writes.Write) → a.at ≤ b.at → is_past rules now a ≡ false → is_past rules now b ≡ false
past_at rules now a b le current = elim (cases_lt (last_moment rules b.at) now) [
  | inl past ↦ absurd (let both : true ≡ false = sym (lt-ltb (last_moment rules a.at) now (omega (arith, past, le))) ∙ current in cc)
  | inr later ↦ le-ltb (last_moment rules b.at) now later
]

module _ (its : List writes.Write) (first : writes.Write) (order : AreInOrder its) (is : first ≡ get_or its 0 first) where
  first_least : (k : ℕ) (d : writes.Write) → k < length its → first.at ≤ (get_or its k d).at
  first_least k d h =
      omega (
        arith,
        ap (λ (write : writes.Write). write.at) is,
        order 0 k first (omega arith) h,
        ap (λ (write : writes.Write). write.at) (get_or_default its k d first h),
      )

  -- the first of writes in order is the oldest
  pub first_oldest : All (λ write. first.at ≤ write.at) its
  first_oldest = λ k d h. first_least k d h

  pub oldest_first : 0 < length its → IsOldest its first.at
  oldest_first some = record {
    from = first_oldest;
    one = λ h. (0, first, some, sym is, refl);
    none = λ empty. absurd (omega (arith, some, ap length empty));
  }

  -- and is past if one is
  pub past_by_first : (rules : Rules) (now : ℕ) → 0 < length its → is_past rules now first ≡ list_any (is_past rules now) its
  past_by_first rules now some = elim (cases_Bool (is_past rules now first)) [
    | inl past ↦ past ∙ sym (found its some is past)
    | inr current ↦ current ∙ sym (none_found (is_past rules now) its (λ k d h. past_at rules now first (get_or its k d) (first_least k d h) current))
  ]
    where
      found : (xs : List writes.Write) → 0 < length xs → first ≡ get_or xs 0 first → is_past rules now first ≡ true → list_any (is_past rules now) xs ≡ true
      found [] none at past = absurd (omega (arith, none))
      found (x ∷ xs) none at past =
          let its_first : is_past rules now x ≡ true = ap (is_past rules now) (sym at) ∙ past in
          ap (λ (b : Bool). b || list_any (is_past rules now) xs) its_first

-- the greatest of some writes, and of one more of them
pub most_raw-more : (its : List writes.Write) (i most raw new : ℕ) (item : writes.Write) → i < length its → item ≡ get_or its i item → raw ≡ item.raw → new ≡ max most raw
    → most ≡ most_raw (take i its) → new ≡ most_raw (take (i + 1) its)
most_raw-more its i most raw new item within is its_raw greater old =
    let more = fold_max-push (λ (write : writes.Write). write.raw) 0 (take i its) (get_or its i item) in
    rw (take_more its i item within) (omega (arith, more, ap (λ (write : writes.Write). write.raw) is, its_raw, greater, old))

pub most_raw-push : (its : List writes.Write) (write : writes.Write) → most_raw (its ++ write ∷ []) ≡ max (most_raw its) write.raw
most_raw-push its write = omega (arith, fold_max-push (λ (w : writes.Write). w.raw) 0 its write)

-- one more write behind those that are in order, which isn't older than the last
pub order-push : (its : List writes.Write) (last write : writes.Write) → AreInOrder its → last ≡ get_or its (length its - 1) last → last.at ≤ write.at → AreInOrder (its ++ write ∷ [])
order-push its last write order is le =
    IsNonDecreasingBy-push (λ (w : writes.Write). w.at) its write order
    (λ d some. omega (arith, le, ap (λ (w : writes.Write). w.at) is, ap (λ (w : writes.Write). w.at) (get_or_default its (length its - 1) d last (omega (arith, some)))))

-- a filter leaves writes in order
pub order-filter : (p : writes.Write → Bool) (its left : List writes.Write) → left ≡ filter p its → AreInOrder its → AreInOrder left
order-filter p its left is order = rw is (IsNonDecreasingBy-filter (λ (w : writes.Write). w.at) p its order)

pub order-drop : (its left : List writes.Write) → left ≡ drop 1 its → AreInOrder its → AreInOrder left
order-drop its left is order = rw is (IsNonDecreasingBy-drop (λ (w : writes.Write). w.at) 1 its order)

-- with one more write behind them, the oldest is the older of it and the oldest before
pub oldest-push : (its : List writes.Write) (write : writes.Write) (old new : ℕ) → write.at < 2 ^ 64 → new ≡ min old write.at → IsOldest its old → IsOldest (its ++ write ∷ []) new
oldest-push its write old new fits least is = record {
  from = All-push (λ (w : writes.Write). new ≤ w.at) its write (All-weaker (λ (w : writes.Write). old ≤ w.at) (λ (w : writes.Write). new ≤ w.at) (λ w le. omega (arith, le, least)) its is.from) (omega (arith, least));
  one = λ some. elim (cases_lt old write.at) [
    | inl lt ↦ stays (is.one (nonempty its is.none lt)) lt
    | inr le ↦ Any-push (λ (w : writes.Write). w.at ≡ new) its write (omega (arith, least, le))
  ];
  none = λ empty. absurd (omega (arith, length-append its (write ∷ []), ap length empty));
}
  where
    nonempty : (xs : List writes.Write) → (xs ≡ [] → old ≡ 2 ^ 64 - 1) → old < write.at → 0 < length xs
    nonempty [] none lt = absurd (omega (arith, none refl, lt, fits))
    nonempty (x ∷ xs) none lt = omega arith

    stays : Any (λ w. w.at ≡ old) its → old < write.at → Any (λ w. w.at ≡ new) (its ++ write ∷ [])
    stays (k, w, within, at, is_at) lt =
        (k, w, omega (arith, within, length-append its (write ∷ [])), get_or_append_left its (write ∷ []) w k within ∙ at, omega (arith, is_at, least, lt))
