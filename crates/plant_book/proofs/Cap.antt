-- What is reserved in all never passes the site's cap: from the last moment of a book on, and whatever calls it has.
use Rattle.std.proofs.Common.{◌≡◌, ℕ, ◌+◌, ◌≤◌, max, true, not, ◌⊎◌, eqb, leb, List, [], ◌∷◌, ◌++◌, map, refl, sym, ap, subst, ◌∙◌, arith, inl, inr}
use Rattle.std.specs.Prelude.{filter, fold}
use Rattle.std.proofs.lemmas.Bool.{cases_Bool, and_parts, and_from, leb-true, le-leb, ne_eqb, and_left}
use Rattle.std.proofs.lemmas.List.{append-nil}
use Rattle.std.proofs.lemmas.List.Elements.{filter-append}
use Rattle.limiter_num.specs.declared.rules.Rules.{Rules}
use Rattle.limiter_num.specs.Timers.{reach}
use Rattle.plant_book.specs.declared.call.Reply.{Reply}
use Rattle.plant_book.specs.declared.call.Reply.TheVariants as replies
use Rattle.plant_book.specs.declared.call.Write as writes
use Rattle.plant_book.specs.declared.book.Entry.{Entry}
use Rattle.plant_book.specs.Site.{inverters, mw_at, floor_at, floors}
use Rattle.plant_book.specs.Book.{BookRecord}
use Rattle.plant_book.specs.Calls.{moment, latest}
use Rattle.plant_book.specs.Writes.{grant_of, granted, ends, standing, is_current, live}
use Rattle.plant_book.specs.Reserved.{covering, reserved_at, total_at, unreserved_at, now_of}
use Rattle.plant_book.specs.Caps.{cap_of}
use Rattle.plant_book.specs.Answer.{raise_at}
use Rattle.plant_book.specs.Answered.{IsAnswer, IsBook, with_entries}
use Rattle.plant_book.proofs.Steps.{latest-push}
use Rattle.plant_book.proofs.Maxima.{fold_max_filter, fold_max_filtered, fold_max-push, sum_below_le, sum_below_raise}
use Rattle.plant_book.proofs.Standing.{standing-push}
use Rattle.plant_book.proofs.Granting.{granted_is_covered}
use Rattle.plant_book.proofs.Along.{along}
use Rattle.plant_book.proofs.CapInForce.{IsWithin, within-push, within_empty}

-- a write that is not past its last moment was not past it before
pub current_before : (rules : Rules) (old new inverter : ℕ) (write : writes.Write) → old ≤ new → is_current rules new inverter write ≡ true → is_current rules old inverter write ≡ true
current_before rules old new inverter write le is =
    let both = and_parts (eqb write.inverter inverter) (leb new (write.at + reach rules)) is in
    and_from (eqb write.inverter inverter) (leb old (write.at + reach rules)) both.0 (le-leb old (write.at + reach rules) (omega (arith, leb-true new (write.at + reach rules) both.1)))

module _ (book : BookRecord) (before : List Entry) (entry : Entry) (old new : ℕ) (le : old ≤ new) where
  -- the writes that stand and are current at the new moment: those of before that aren't ended, and the grant
  pub live-push : (inverter : ℕ) → live book.site.rules (before ++ entry ∷ []) new inverter
      ≡ filter (is_current book.site.rules new inverter) (filter (λ write. not (ends book.site.rules before entry write)) (standing book.site.rules [] before)) ++ filter (is_current book.site.rules new inverter) (grant_of entry)
  unfolding live
  live-push inverter =
      ap (filter (is_current book.site.rules new inverter)) (standing-push book.site.rules [] before entry)
      ∙ filter-append (is_current book.site.rules new inverter) (filter (λ write. not (ends book.site.rules before entry write)) (standing book.site.rules [] before)) (grant_of entry)

  reserved-by : (inverter : ℕ) (its : List writes.Write) → live book.site.rules (before ++ entry ∷ []) new inverter ≡ its
      → reserved_at (with_entries book (before ++ entry ∷ [])) new inverter ≡ fold max (floor_at book.site inverter) (map (λ (write : writes.Write). mw_at book.site inverter write.raw) its)
  unfolding reserved_at covering
  reserved-by inverter its is = ap (λ (ws : List writes.Write). fold max (floor_at book.site inverter) (map (λ (write : writes.Write). mw_at book.site inverter write.raw) ws)) is

  -- what is left of the writes of before reserves no more than they did
  left_no_more : (inverter : ℕ) → fold max (floor_at book.site inverter) (map (λ (write : writes.Write). mw_at book.site inverter write.raw)
      (filter (is_current book.site.rules new inverter) (filter (λ write. not (ends book.site.rules before entry write)) (standing book.site.rules [] before)))) ≤ reserved_at (with_entries book before) old inverter
  unfolding reserved_at covering live
  left_no_more inverter =
      let watts : writes.Write → ℕ = λ write. mw_at book.site inverter write.raw in
      let floor = floor_at book.site inverter in
      let all = standing book.site.rules [] before in
      omega (
        arith,
        fold_max_filtered watts (λ write. not (ends book.site.rules before entry write)) (is_current book.site.rules new inverter) floor floor all (omega arith),
        fold_max_filter watts (is_current book.site.rules new inverter) (is_current book.site.rules old inverter) (λ write is. current_before book.site.rules old new inverter write le is) floor floor all (omega arith),
      )

  -- an inverter to which the entry grants nothing has no more reserved than before
  reserved_no_more : (inverter : ℕ) → filter (is_current book.site.rules new inverter) (grant_of entry) ≡ [] → reserved_at (with_entries book (before ++ entry ∷ [])) new inverter ≤ reserved_at (with_entries book before) old inverter
  reserved_no_more inverter none =
      let left = filter (is_current book.site.rules new inverter) (filter (λ write. not (ends book.site.rules before entry write)) (standing book.site.rules [] before)) in
      let is : live book.site.rules (before ++ entry ∷ []) new inverter ≡ left = live-push inverter ∙ ap (λ (ws : List writes.Write). left ++ ws) none ∙ append-nil left in
      subst (λ (n : ℕ). n ≤ reserved_at (with_entries book before) old inverter) (sym (reserved-by inverter left is)) (left_no_more inverter)

  -- the inverter of the grant has at most the limit reserved besides
  reserved_raised : (write : writes.Write) (inverter : ℕ) → entry.reply ≡ replies.Granted write
      → reserved_at (with_entries book (before ++ entry ∷ [])) new inverter ≤ max (reserved_at (with_entries book before) old inverter) (mw_at book.site inverter write.raw)
  reserved_raised write inverter grants =
      let left = filter (is_current book.site.rules new inverter) (filter (λ w. not (ends book.site.rules before entry w)) (standing book.site.rules [] before)) in
      let grant : grant_of entry ≡ write ∷ [] = ap granted grants in
      elim (cases_Bool (is_current book.site.rules new inverter write)) [
        | inl current ↦
            let one : filter (is_current book.site.rules new inverter) (grant_of entry) ≡ write ∷ [] = rw (grant, current) refl in
            let is : live book.site.rules (before ++ entry ∷ []) new inverter ≡ left ++ write ∷ [] = live-push inverter ∙ ap (λ (ws : List writes.Write). left ++ ws) one in
            omega (arith, reserved-by inverter (left ++ write ∷ []) is, fold_max-push (λ (w : writes.Write). mw_at book.site inverter w.raw) (floor_at book.site inverter) left write, left_no_more inverter)
        | inr past ↦
            let none : filter (is_current book.site.rules new inverter) (grant_of entry) ≡ [] = rw (grant, past) refl in
            omega (arith, reserved_no_more inverter none)
      ]

-- a reply grants a write, or it grants none
pub grant_cases : (reply : Reply) → ((write : writes.Write) × (reply ≡ replies.Granted write)) ⊎ (granted reply ≡ [])
grant_cases (replies.Linked number) = inr refl
grant_cases (replies.Granted write) = inl (write, refl)
grant_cases (replies.ReadAs read) = inr refl
grant_cases (replies.Freed count reserved) = inr refl
grant_cases replies.Taken = inr refl
grant_cases (replies.Total watts) = inr refl
grant_cases replies.Unlinked = inr refl
grant_cases replies.Spent = inr refl
grant_cases (replies.Over full) = inr refl
grant_cases (replies.Silent until) = inr refl
grant_cases (replies.NotAllowed raw) = inr refl
grant_cases (replies.NoWatts watts) = inr refl
grant_cases replies.Crowded = inr refl
grant_cases replies.NoRead = inr refl
grant_cases (replies.Strange raw) = inr refl
grant_cases replies.NoWrite = inr refl
grant_cases (replies.CapSet cap ceiling) = inr refl
grant_cases (replies.CapOut least most) = inr refl

-- what is reserved in all is at most this from the last moment of these entries on
abbrev pub IsUnder : BookRecord → List Entry → ℕ → Type 0
IsUnder book entries most = (now : ℕ) → latest book.start entries ≤ now → total_at (with_entries book entries) now ≤ most

-- One more entry keeps what is reserved under a bound that is no lower than the cap in force: a grant raises it to the
-- cap at most, and nothing else raises it.
module _ (book : BookRecord) (before : List Entry) (entry : Entry) (most : ℕ) (cap : cap_of (with_entries book before) ≤ most)
    (under : total_at (with_entries book before) (moment entry.call) ≤ most) (right : IsAnswer book before entry) where
  under_by_none : (now : ℕ) → moment entry.call ≤ now → granted entry.reply ≡ [] → total_at (with_entries book (before ++ entry ∷ [])) now ≤ most
  unfolding total_at
  under_by_none now le none =
      omega (
        arith,
        under,
        sum_below_le (inverters book.site) (reserved_at (with_entries book (before ++ entry ∷ [])) now) (reserved_at (with_entries book before) (moment entry.call))
            (λ inverter lt. reserved_no_more book before entry (moment entry.call) now le inverter (ap (filter (is_current book.site.rules now inverter)) none)),
      )

  under_by_grant : (now : ℕ) → moment entry.call ≤ now → (write : writes.Write) → entry.reply ≡ replies.Granted write → total_at (with_entries book (before ++ entry ∷ [])) now ≤ most
  unfolding total_at unreserved_at
  under_by_grant now le write grants =
      let at = moment entry.call in
      let old = with_entries book before in
      let covered = granted_is_covered old entry.call write (sym right ∙ grants) in
      omega (
        arith,
        under,
        cap,
        covered.fits,
        sum_below_raise (inverters book.site) write.inverter (raise_at old at write.inverter write.raw)
            (reserved_at (with_entries book (before ++ entry ∷ [])) now) (reserved_at old at)
            (λ inverter other. reserved_no_more book before entry at now le inverter
            (rw (ap granted grants, and_left (eqb write.inverter inverter) (leb now (write.at + reach book.site.rules)) (ne_eqb write.inverter inverter (λ same. other (sym same)))) refl))
            (omega (arith, reserved_raised book before entry at now le write write.inverter grants)),
      )

  pub under-push : IsUnder book (before ++ entry ∷ []) most
  under-push now le =
      let from : moment entry.call ≤ now = subst (λ (m : ℕ). m ≤ now) (latest-push book.start before entry) le in
      elim (grant_cases entry.reply) [
        | inl grant ↦ under_by_grant now from grant.0 grant.1
        | inr none ↦ under_by_none now from none
      ]

-- an empty book reserves the floors
pub under_empty : (book : BookRecord) (most : ℕ) → floors book.site ≤ most → IsUnder book [] most
unfolding total_at reserved_at covering live standing
under_empty book most fits now le = fits

-- the cap in force is within its bounds, and what is reserved in all is under the site's
record IsCapped (book : BookRecord) (entries : List Entry) : Type 0 where
  within : IsWithin book entries
  under : IsUnder book entries book.site.cap

capped-push : (book : BookRecord) (before : List Entry) (entry : Entry) → IsCapped book before → IsAnswer book before entry → latest book.start before ≤ moment entry.call → IsCapped book (before ++ entry ∷ [])
capped-push book before entry capped right later = record {
  within = within-push book before entry capped.within right;
  under = under-push book before entry book.site.cap capped.within.high (capped.under (moment entry.call) later) right;
}

-- what is reserved in all never passes the site's cap
pub total_at-capped : (book : BookRecord) → IsBook book → (now : ℕ) → now_of book ≤ now → total_at book now ≤ book.site.cap
unfolding now_of
total_at-capped book kept now le =
    (along book (IsCapped book) (λ before entry capped right next. capped-push book before entry capped right next.later) kept
    (record { within = within_empty book kept.openable.floors; under = under_empty book book.site.cap kept.openable.floors })).under now le
