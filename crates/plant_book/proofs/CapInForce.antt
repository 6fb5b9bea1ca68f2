-- The cap in force: what one more entry makes of it, and its bounds.
use Rattle.std.proofs.Common.{◌≡◌, ℕ, ◌≤◌, Bool, true, false, cond, ltb, ◌||◌, List, [], ◌∷◌, ◌++◌, Some, refl, ap, subst, ◌∙◌, arith, inl, inr}
use Rattle.std.proofs.lemmas.Bool.{cases_Bool, ltb-false}
use Rattle.plant_book.specs.declared.call.Call.{Call}
use Rattle.plant_book.specs.declared.call.Call.TheVariants as calls
use Rattle.plant_book.specs.declared.call.Reply.{Reply}
use Rattle.plant_book.specs.declared.call.Reply.TheVariants as replies
use Rattle.plant_book.specs.declared.book.Entry.{Entry}
use Rattle.plant_book.specs.Sums.{last_that}
use Rattle.plant_book.specs.Site.{floors}
use Rattle.plant_book.specs.Book.{BookRecord}
use Rattle.plant_book.specs.Caps.{is_set, sets_by, sets_cap, cap_by, cap_after, cap_of}
use Rattle.plant_book.specs.Answer.{reply_to, reply_to_cap, ceiling_with}
use Rattle.plant_book.specs.Answered.{IsAnswer, IsBook, with_entries}
use Rattle.plant_book.proofs.Steps.{last_that-push}
use Rattle.plant_book.proofs.Along.{along}

-- what an entry that sets the cap is: a Cap within the bounds, and its reply
pub record SetsCap (book : BookRecord) (call : Call) (reply : Reply) : Type 0 where
  pub at : ℕ
  pub watts : ℕ
  pub is : call ≡ calls.Cap at watts
  pub low : floors book.site ≤ watts
  pub high : watts ≤ book.site.cap
  pub told : reply ≡ replies.CapSet watts (ceiling_with book at watts)

no_set : false ≡ true → ⊥
no_set is = cc

neither : (a b : Bool) → (a || b) ≡ false → (a ≡ false) × (b ≡ false)
neither true b is = absurd cc
neither false b is = (refl, is)

by_bounds : (book : BookRecord) (at watts : ℕ) (reply : Reply) (out : Bool) → (ltb watts (floors book.site) || ltb book.site.cap watts) ≡ out
    → reply ≡ cond out (replies.CapOut (floors book.site) book.site.cap) (replies.CapSet watts (ceiling_with book at watts)) → is_set reply ≡ true
    → SetsCap book (calls.Cap at watts) reply
by_bounds book at watts reply true out right set = absurd (no_set (subst (λ (r : Reply). is_set r ≡ true) right set))
by_bounds book at watts reply false out right set =
    let bounds = neither (ltb watts (floors book.site)) (ltb book.site.cap watts) out in
    record { at = at; watts = watts; is = refl; low = ltb-false watts (floors book.site) bounds.0; high = ltb-false book.site.cap watts bounds.1; told = right }

pub sets_cap-is : (book : BookRecord) (call : Call) (reply : Reply) → sets_by call reply ≡ true → reply ≡ reply_to book call → SetsCap book call reply
unfolding reply_to_cap
sets_cap-is book (calls.Cap at watts) reply set right = by_bounds book at watts reply (ltb watts (floors book.site) || ltb book.site.cap watts) refl right set
sets_cap-is book _ reply set right = absurd (no_set set)

module _ (book : BookRecord) (before : List Entry) (entry : Entry) where
  -- the last entry that sets the cap
  pub last_set-set : sets_cap entry ≡ true → last_that sets_cap (before ++ entry ∷ []) ≡ Some entry
  last_set-set set = last_that-push sets_cap before entry ∙ rw set refl

  pub last_set-same : sets_cap entry ≡ false → last_that sets_cap (before ++ entry ∷ []) ≡ last_that sets_cap before
  last_set-same other = last_that-push sets_cap before entry ∙ rw other refl

  -- the cap that is set is in force, and no other entry changes the cap
  pub cap_of-set : sets_cap entry ≡ true → cap_of (with_entries book (before ++ entry ∷ [])) ≡ cap_by book.site.cap entry.call
  unfolding cap_of
  cap_of-set set = ap (cap_after book.site.cap) (last_set-set set)

  pub cap_of-same : sets_cap entry ≡ false → cap_of (with_entries book (before ++ entry ∷ [])) ≡ cap_of (with_entries book before)
  unfolding cap_of
  cap_of-same other = ap (cap_after book.site.cap) (last_set-same other)

  pub cap_of-is : (set : SetsCap (with_entries book before) entry.call entry.reply) → sets_cap entry ≡ true → cap_of (with_entries book (before ++ entry ∷ [])) ≡ set.watts
  cap_of-is set is = cap_of-set is ∙ ap (cap_by book.site.cap) set.is

-- the floors fit under the cap in force, and the site's cap is no lower
pub record IsWithin (book : BookRecord) (entries : List Entry) : Type 0 where
  pub low : floors book.site ≤ cap_of (with_entries book entries)
  pub high : cap_of (with_entries book entries) ≤ book.site.cap

pub within-push : (book : BookRecord) (before : List Entry) (entry : Entry) → IsWithin book before → IsAnswer book before entry → IsWithin book (before ++ entry ∷ [])
within-push book before entry within right =
    elim (cases_Bool (sets_cap entry)) [
      | inl is ↦
          let set = sets_cap-is (with_entries book before) entry.call entry.reply is right in
          record { low = omega (arith, cap_of-is book before entry set is, set.low); high = omega (arith, cap_of-is book before entry set is, set.high) }
      | inr other ↦
          record { low = omega (arith, cap_of-same book before entry other, within.low); high = omega (arith, cap_of-same book before entry other, within.high) }
    ]

-- with no entry the site's cap is in force
pub cap_of-empty : (book : BookRecord) → cap_of (with_entries book []) ≡ book.site.cap
unfolding cap_of last_that
cap_of-empty book = refl

pub within_empty : (book : BookRecord) → floors book.site ≤ book.site.cap → IsWithin book []
within_empty book floors = record { low = omega (arith, cap_of-empty book, floors); high = omega (arith, cap_of-empty book) }

pub cap_within : (book : BookRecord) → IsBook book → IsWithin book book.entries
cap_within book kept = along book (IsWithin book) (λ before entry within right next. within-push book before entry within right) kept (within_empty book kept.openable.floors)
