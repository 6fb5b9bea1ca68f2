-- After a lowering: what is reserved in all stays under the ceiling, and comes back under the cap.
use Rattle.std.proofs.Common.{◌≡◌, ℕ, ◌+◌, ◌<◌, ◌≤◌, max, min, Bool, true, false, cond, leb, ltb, List, [], ◌∷◌, ◌++◌, Option, Some, None, refl, sym, ap, subst, ◌∙◌, arith, inl, inr, ◌⊎◌}
use Rattle.std.specs.Prelude.{fold, map, filter, Contains, IfSome}
use Rattle.std.specs.List.{flat_map}
use Rattle.std.proofs.lemmas.Bool.{cases_Bool, cases_lt, le-leb, leb-true, leb-false, lt-ltb, and_parts, eqb-true}
use Rattle.std.proofs.lemmas.List.{append-nil}
use Rattle.std.proofs.lemmas.List.Concat.{flat_map-cons}
use Rattle.std.proofs.lemmas.List.Elements.{Contains-push, Contains-append_cases, Contains-append_left, Contains-append_right}
use Rattle.std.proofs.lemmas.Grind.{flat_map-append}
use Rattle.limiter_num.specs.Timers.{reach}
use Rattle.plant_book.specs.declared.call.Reply.TheVariants as replies
use Rattle.plant_book.specs.declared.call.Write as writes
use Rattle.plant_book.specs.declared.book.Entry.{Entry}
use Rattle.plant_book.specs.Sums.{last_that}
use Rattle.plant_book.specs.Site.{inverters, mw_at, floor_at}
use Rattle.plant_book.specs.Book.{BookRecord}
use Rattle.plant_book.specs.Calls.{moment, latest}
use Rattle.plant_book.specs.Writes.{grant_of, granted, ends, ends_by, standing, is_current, live}
use Rattle.plant_book.specs.Caps.{sets_cap, cap_by, cap_of}
use Rattle.plant_book.specs.Reserved.{covering, reserved_at, total_at, total, now_of}
use Rattle.plant_book.specs.Policy.{policy_target, fall_share, target_at}
use Rattle.plant_book.specs.Answer.{silent_until, ceiling_with}
use Rattle.plant_book.specs.Ceiling.{total_when_set, ceiling_since, ceiling}
use Rattle.plant_book.specs.Answered.{IsAnswer, IsBook, with_entries}
use Rattle.plant_book.specs.Covered.{IsUnderCeiling, IsBackUnderCap, TellsCap}
use Rattle.plant_book.proofs.Steps.{latest-push, through_last-push_passes, through_last-push_fails}
use Rattle.plant_book.proofs.Maxima.{fold_max_filter, sum_below_le}
use Rattle.plant_book.proofs.Granting.{granted_is_covered}
use Rattle.plant_book.proofs.Along.{along}
use Rattle.plant_book.proofs.CapInForce.{SetsCap, sets_cap-is, last_set-set, last_set-same, cap_of-set, cap_of-same, cap_of-is, cap_of-empty, cap_within}
use Rattle.plant_book.proofs.Cap.{current_before, IsUnder, under-push, under_empty, total_at-capped}
use Rattle.plant_book.proofs.Freeing.{Contains-filter}
use Rattle.plant_book.proofs.Cover.{granted_by, standing_granted}
use Rattle.plant_book.proofs.Claims.{fall_shares-fit, floor_le_fall_share}
use Rattle.plant_book.proofs.Lifetime.{unchanged}

-- at a later moment no more is reserved
total_later : (book : BookRecord) (old new : ℕ) → old ≤ new → total_at book new ≤ total_at book old
unfolding total_at reserved_at covering live
total_later book old new le =
    sum_below_le (inverters book.site) (reserved_at book new) (reserved_at book old)
    (λ inverter lt. fold_max_filter (λ (w : writes.Write). mw_at book.site inverter w.raw) (is_current book.site.rules new inverter) (is_current book.site.rules old inverter)
    (λ write is. current_before book.site.rules old new inverter write le is) (floor_at book.site inverter) (floor_at book.site inverter) (standing book.site.rules [] book.entries) (omega arith))

module _ (book : BookRecord) (before : List Entry) (entry : Entry) where
  -- what was reserved right after the cap in force was set
  pub total_when_set-set : sets_cap entry ≡ true → total_when_set (with_entries book (before ++ entry ∷ [])) ≡ total_at (with_entries book (before ++ entry ∷ [])) (moment entry.call)
  unfolding total_when_set now_of
  total_when_set-set set =
      ap (λ (es : List Entry). total (with_entries book es)) (through_last-push_passes sets_cap before entry set)
      ∙ ap (total_at (with_entries book (before ++ entry ∷ []))) (latest-push book.start before entry)

  pub total_when_set-same : sets_cap entry ≡ false → total_when_set (with_entries book (before ++ entry ∷ [])) ≡ total_when_set (with_entries book before)
  unfolding total_when_set
  total_when_set-same other = ap (λ (es : List Entry). total (with_entries book es)) (through_last-push_fails sets_cap before entry other)

-- what is reserved in all is at most the cap in force, or what was reserved when it was set
abbrev IsLowered : BookRecord → List Entry → Type 0
IsLowered book entries = IsUnder book entries (max (cap_of (with_entries book entries)) (total_when_set (with_entries book entries)))

lowered-push : (book : BookRecord) (before : List Entry) (entry : Entry) → IsLowered book before → IsAnswer book before entry → latest book.start before ≤ moment entry.call → IsLowered book (before ++ entry ∷ [])
lowered-push book before entry lowered right later =
    elim (cases_Bool (sets_cap entry)) [
      | inl set ↦ λ now le.
          let from : moment entry.call ≤ now = subst (λ (m : ℕ). m ≤ now) (latest-push book.start before entry) le in
          omega (arith, total_later (with_entries book (before ++ entry ∷ [])) (moment entry.call) now from, total_when_set-set book before entry set)
      | inr other ↦ λ now le.
          let most = max (cap_of (with_entries book before)) (total_when_set (with_entries book before)) in
          let under = under-push book before entry most (omega arith) (lowered (moment entry.call) later) right now le in
          omega (arith, under, cap_of-same book before entry other, total_when_set-same book before entry other)
    ]

lowered_empty : (book : BookRecord) → IsBook book → IsLowered book []
lowered_empty book kept = under_empty book _ (omega (arith, cap_of-empty book, kept.openable.floors))

-- the moment at which the cap in force was set, or the start
abbrev since_by : ℕ → Option Entry → ℕ
since_by start None = start
since_by start (Some set) = moment set.call

abbrev since : BookRecord → List Entry → ℕ
since book entries = since_by book.start (last_that sets_cap entries)

-- each write that was granted since then is at most the fall share of its inverter
abbrev EachFalls : BookRecord → List Entry → Type 0
EachFalls book entries = (write : writes.Write) → Contains (flat_map grant_of entries) write → since book entries < write.at
    → mw_at book.site write.inverter write.raw ≤ fall_share book.site (cap_of (with_entries book entries)) write.inverter

-- What is reserved in all is under the cap in force, or all that was granted since it was set falls.
record IsFalling (book : BookRecord) (entries : List Entry) : Type 0 where
  until : (write : writes.Write) → Contains (flat_map grant_of entries) write → write.at ≤ latest book.start entries
  falls : IsUnder book entries (cap_of (with_entries book entries)) ⊎ EachFalls book entries

module _ (book : BookRecord) (before : List Entry) (entry : Entry) (falling : IsFalling book before) (right : IsAnswer book before entry) (later : latest book.start before ≤ moment entry.call) where
  -- a grant is one of before, or the entry's
  granted_where : (write : writes.Write) → Contains (flat_map grant_of (before ++ entry ∷ [])) write → Contains (flat_map grant_of before) write ⊎ (entry.reply ≡ replies.Granted write)
  granted_where write within =
      let parts : flat_map grant_of (before ++ entry ∷ []) ≡ flat_map grant_of before ++ grant_of entry =
      flat_map-append grant_of before (entry ∷ []) ∙ ap (λ (ws : List writes.Write). flat_map grant_of before ++ ws) (flat_map-cons grant_of entry [] ∙ append-nil (grant_of entry)) in
      elim (Contains-append_cases (flat_map grant_of before) (grant_of entry) write (subst (λ (ws : List writes.Write). Contains ws write) parts within)) [
        | inl old ↦ inl old
        | inr new ↦ inr (granted_by book entry.reply write new)
      ]

  until-push : (write : writes.Write) → Contains (flat_map grant_of (before ++ entry ∷ [])) write → write.at ≤ latest book.start (before ++ entry ∷ [])
  until-push write within =
      elim (granted_where write within) [
        | inl old ↦ omega (arith, falling.until write old, later, latest-push book.start before entry)
        | inr new ↦ omega (arith, (granted_is_covered (with_entries book before) entry.call write (sym right ∙ new)).at, latest-push book.start before entry)
      ]

  -- nothing was granted since a cap that was just set
  falls_set : sets_cap entry ≡ true → EachFalls book (before ++ entry ∷ [])
  falls_set set write within above =
      let last = last_set-set book before entry set in
      let from = subst (λ (o : Option Entry). since_by book.start o < write.at) last above in
      absurd (omega (arith, from, until-push write within, latest-push book.start before entry))

  -- a grant while more than the cap is reserved is at most the fall share
  new_falls : (write : writes.Write) → entry.reply ≡ replies.Granted write → cap_of (with_entries book before) < total_at (with_entries book before) (moment entry.call)
      → mw_at book.site write.inverter write.raw ≤ fall_share book.site (cap_of (with_entries book before)) write.inverter
  unfolding target_at
  new_falls write grants above =
      let old = with_entries book before in
      let at = moment entry.call in
      let covered = granted_is_covered old entry.call write (sym right ∙ grants) in
      let is_above : ltb (cap_of old) (total_at old at) ≡ true = lt-ltb (cap_of old) (total_at old at) above in
      let allowed : mw_at book.site write.inverter write.raw ≤ min (policy_target old write.inverter) (fall_share book.site (cap_of old) write.inverter) =
      subst (λ (b : Bool). mw_at book.site write.inverter write.raw ≤ cond b (min (policy_target old write.inverter) (fall_share book.site (cap_of old) write.inverter)) (policy_target old write.inverter)) is_above covered.allowed in
      omega (arith, allowed)

  falls_on : sets_cap entry ≡ false → EachFalls book before → cap_of (with_entries book before) < total_at (with_entries book before) (moment entry.call) → EachFalls book (before ++ entry ∷ [])
  falls_on other falls above write within from =
      let cap = cap_of-same book before entry other in
      let last = last_set-same book before entry other in
      subst (λ (n : ℕ). mw_at book.site write.inverter write.raw ≤ fall_share book.site n write.inverter) (sym cap)
      (elim (granted_where write within) [
        | inl old ↦ falls write old (subst (λ (o : Option Entry). since_by book.start o < write.at) last from)
        | inr new ↦ new_falls write new above
      ])

  under_on : sets_cap entry ≡ false → total_at (with_entries book before) (moment entry.call) ≤ cap_of (with_entries book before) → IsUnder book (before ++ entry ∷ []) (cap_of (with_entries book (before ++ entry ∷ [])))
  under_on other under = subst (IsUnder book (before ++ entry ∷ [])) (sym (cap_of-same book before entry other)) (under-push book before entry (cap_of (with_entries book before)) (omega arith) under right)

  falls_or_under : sets_cap entry ≡ false → EachFalls book before → IsUnder book (before ++ entry ∷ []) (cap_of (with_entries book (before ++ entry ∷ []))) ⊎ EachFalls book (before ++ entry ∷ [])
  falls_or_under other falls =
      elim (cases_lt (cap_of (with_entries book before)) (total_at (with_entries book before) (moment entry.call))) [
        | inl above ↦ inr (falls_on other falls above)
        | inr under ↦ inl (under_on other under)
      ]

  falling-push : IsFalling book (before ++ entry ∷ [])
  falling-push = record {
    until = until-push;
    falls = elim (cases_Bool (sets_cap entry)) [
      | inl set ↦ inr (falls_set set)
      | inr other ↦ elim falling.falls [
        | inl under ↦ inl (under_on other (under (moment entry.call) later))
        | inr falls ↦ falls_or_under other falls
      ]
    ];
  }

falling_empty : (book : BookRecord) → IsBook book → IsFalling book []
falling_empty book kept = record {
  until = λ write within. absurd (omega (arith, within.1));
  falls = inl (under_empty book _ (omega (arith, cap_of-empty book, kept.openable.floors)));
}

-- the greatest of some values is at most what each is
fold_max_le : {X : Type 0} (f : X → ℕ) (most d : ℕ) (xs : List X) → d ≤ most → ((x : X) → Contains xs x → f x ≤ most) → fold max d (map f xs) ≤ most
fold_max_le f most d [] le each = le
fold_max_le f most d (x ∷ xs) le each =
    fold_max_le f most (max d (f x)) xs (omega (arith, le, each x (Contains-append_left (x ∷ []) xs x (Contains-push [] x)))) (λ y within. each y (Contains-append_right (x ∷ []) xs y within))

module _ (book : BookRecord) (kept : IsBook book) (set : Entry) (is : last_that sets_cap book.entries ≡ Some set) (past : moment set.call + reach book.site.rules < now_of book) where
  -- past reach of the lowering each live write was granted since
  live_falls : EachFalls book book.entries → (inverter : ℕ) → reserved_at book (now_of book) inverter ≤ fall_share book.site (cap_of book) inverter
  unfolding reserved_at covering live
  live_falls falls inverter =
      fold_max_le (λ (w : writes.Write). mw_at book.site inverter w.raw) (fall_share book.site (cap_of book) inverter) (floor_at book.site inverter)
      (filter (is_current book.site.rules (now_of book) inverter) (standing book.site.rules [] book.entries)) (floor_le_fall_share book.site (cap_of book) inverter) each
    where
      each : (write : writes.Write) → Contains (filter (is_current book.site.rules (now_of book) inverter) (standing book.site.rules [] book.entries)) write
          → mw_at book.site inverter write.raw ≤ fall_share book.site (cap_of book) inverter
      each write within =
          let one = Contains-filter (is_current book.site.rules (now_of book) inverter) (standing book.site.rules [] book.entries) write within in
          let parts = and_parts _ (leb (now_of book) (write.at + reach book.site.rules)) one.passes in
          let its : write.inverter ≡ inverter = eqb-true write.inverter inverter parts.0 in
          let current = leb-true (now_of book) (write.at + reach book.site.rules) parts.1 in
          let above : moment set.call < write.at = omega (arith, current, past) in
          subst (λ (i : ℕ). mw_at book.site i write.raw ≤ fall_share book.site (cap_of book) i) its
          (falls write (standing_granted book.site.rules [] book.entries write one.within) (subst (λ (o : Option Entry). since_by book.start o < write.at) (sym is) above))

  back : total book ≤ cap_of book
  unfolding total_at now_of
  back =
      elim (along book (IsFalling book) (λ before entry falling right next. falling-push book before entry falling right next.later) kept (falling_empty book kept)).falls [
        | inl under ↦ under (now_of book) (omega arith)
        | inr falls ↦
            omega (
              arith,
              sum_below_le (inverters book.site) (reserved_at book (now_of book)) (fall_share book.site (cap_of book)) (λ inverter lt. live_falls falls inverter),
              fall_shares-fit book.site (cap_of book) (cap_within book kept).low,
            )
      ]

-- past reach of the last Cap that was set, what is reserved in all is at most the cap
pub back_under_cap : (book : BookRecord) → IsBook book → IsBackUnderCap book
back_under_cap book kept = by_last (last_that sets_cap book.entries) refl
  where
    by_last : (last : Option Entry) → last_that sets_cap book.entries ≡ last → IfSome last (λ set. moment set.call + reach book.site.rules < now_of book → total book ≤ cap_of book)
    by_last None is = tt
    by_last (Some set) is = λ past. back book kept set is past

le_cond : (n x y : ℕ) (b : Bool) → (b ≡ true → n ≤ x) → (b ≡ false → n ≤ y) → n ≤ cond b x y
le_cond n x y true one other = one refl
le_cond n x y false one other = other refl

lowered : (book : BookRecord) → IsBook book → total book ≤ max (cap_of book) (total_when_set book)
unfolding now_of
lowered book kept = along book (IsLowered book) (λ before entry low right next. lowered-push book before entry low right next.later) kept (lowered_empty book kept) (now_of book) (omega arith)

-- what is reserved in all is at most the ceiling
pub under_ceiling : (book : BookRecord) → IsBook book → IsUnderCeiling book
unfolding ceiling
under_ceiling book kept =
    le_cond (total book) book.site.cap (ceiling_since book (last_that sets_cap book.entries)) (leb (now_of book) (silent_until book)) (λ silent. capped) (λ loud. by_last (last_that sets_cap book.entries) refl)
  where
    capped : total book ≤ book.site.cap
    capped = total_at-capped book kept (now_of book) (omega arith)

    by_last : (last : Option Entry) → last_that sets_cap book.entries ≡ last → total book ≤ ceiling_since book last
    by_last None is = capped
    by_last (Some set) is =
        le_cond (total book) (max (cap_of book) (total_when_set book)) (cap_of book) (leb (now_of book) (moment set.call + reach book.site.rules)) (λ near. lowered book kept)
        (λ far. back book kept set is (leb-false (now_of book) (moment set.call + reach book.site.rules) far))

-- a Cap ends no write
cap_ends_none : (book : BookRecord) (entry : Entry) → SetsCap book entry.call entry.reply → (write : writes.Write) → ends book.site.rules book.entries entry write ≡ false
cap_ends_none book entry set write = subst (λ c. ends_by book.site.rules book.entries c entry.reply write ≡ false) (sym set.is) refl

module _ (book : BookRecord) (entry : Entry) (right : IsAnswer book book.entries entry) (later : now_of book ≤ moment entry.call) (is : sets_cap entry ≡ true) where
  abbrev new : BookRecord
  new = with_entries book (book.entries ++ entry ∷ [])

  abbrev set : SetsCap book entry.call entry.reply
  set = sets_cap-is book entry.call entry.reply is right

  now_is : now_of new ≡ moment entry.call
  unfolding now_of
  now_is = latest-push book.start book.entries entry

  -- what is reserved right after it is what was reserved at its moment
  total_stays : total new ≡ total_at book (moment entry.call)
  unfolding total_at
  total_stays =
      let same = unchanged book entry right later (cap_ends_none book entry set) (ap granted set.told) in
      omega (
        arith,
        sum_below_le (inverters book.site) (reserved_at new (now_of new)) (reserved_at book (moment entry.call)) (λ inverter lt. omega (arith, same inverter)),
        sum_below_le (inverters book.site) (reserved_at book (moment entry.call)) (reserved_at new (now_of new)) (λ inverter lt. omega (arith, same inverter)),
      )

  total_set : total_when_set new ≡ total_at book (moment entry.call)
  total_set = total_when_set-set book book.entries entry is ∙ ap (total_at new) (sym now_is) ∙ total_stays

  ceiling_near : ceiling_since new (Some entry) ≡ max (cap_of new) (total_when_set new)
  ceiling_near =
      ap (λ (b : Bool). cond b (max (cap_of new) (total_when_set new)) (cap_of new))
      (le-leb (now_of new) (moment entry.call + reach book.site.rules) (omega (arith, now_is)))

  pub ceiling_told : ceiling new ≡ ceiling_with book (moment entry.call) set.watts
  unfolding ceiling
  ceiling_told =
      ap (λ (o : Option Entry). cond (leb (now_of new) (silent_until book)) book.site.cap (ceiling_since new o)) (last_set-set book book.entries entry is)
      ∙ ap (cond (leb (now_of new) (silent_until book)) book.site.cap) (ceiling_near ∙ rw (cap_of-is book book.entries entry set is, total_set) refl)
      ∙ ap (λ (m : ℕ). cond (leb m (silent_until book)) book.site.cap (max set.watts (total_at book (moment entry.call)))) now_is

  at_is : set.at ≡ moment entry.call
  at_is = sym (ap moment set.is)

  told_set : entry.reply ≡ replies.CapSet (cap_of new) (ceiling new)
  told_set = set.told ∙ told_alike (sym (cap_of-is book book.entries entry set is)) (sym (ceiling_told ∙ ap (λ (m : ℕ). ceiling_with book m set.watts) (sym at_is)))
    where
      told_alike : {a b c d : ℕ} → a ≡ b → c ≡ d → replies.CapSet a c ≡ replies.CapSet b d
      told_alike one other = cc

-- what an entry makes of the cap, and what it tells of it
pub tells_cap : (book : BookRecord) (entry : Entry) → IsAnswer book book.entries entry → now_of book ≤ moment entry.call → TellsCap book entry (with_entries book (book.entries ++ entry ∷ []))
tells_cap book entry right later = record { cap = by_entry; told = told_set book entry right later }
  where
    by_entry : cap_of (with_entries book (book.entries ++ entry ∷ [])) ≡ cond (sets_cap entry) (cap_by book.site.cap entry.call) (cap_of book)
    by_entry =
        elim (cases_Bool (sets_cap entry)) [
          | inl set ↦ cap_of-set book book.entries entry set ∙ rw set refl
          | inr other ↦ cap_of-same book book.entries entry other ∙ rw other refl
        ]
