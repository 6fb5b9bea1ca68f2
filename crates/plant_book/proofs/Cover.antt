-- A history's cover: what bounds the limit of each inverter at its end. It is what was reserved in the last life that
-- granted anything, or what the past and the floors come to.
use Rattle.std.proofs.Common.{◌≡◌, ℕ, ◌+◌, ◌<◌, ◌≤◌, max, not, eqb, leb, List, [], ◌∷◌, ◌++◌, map, refl, sym, ap, subst, ◌∙◌, append_assoc, arith, inl, inr, ◌⊎◌}
use Rattle.std.specs.Prelude.{filter, fold, Contains}
use Rattle.std.specs.List.{flat_map, AllByRecursion}
use Rattle.std.proofs.lemmas.Bool.{and_from, eq-eqb, le-leb}
use Rattle.std.proofs.lemmas.List.{append-nil}
use Rattle.std.proofs.lemmas.List.Concat.{flat_map-cons}
use Rattle.std.proofs.lemmas.List.Elements.{Contains-push, Contains-append_cases, Contains-append_left, Contains-append_right}
use Rattle.limiter_num.specs.declared.rules.Rules.{Rules}
use Rattle.limiter_num.specs.Timers.{reach}
use Rattle.plant_book.specs.declared.call.Reply.{Reply}
use Rattle.plant_book.specs.declared.call.Reply.TheVariants as replies
use Rattle.plant_book.specs.declared.call.Write as writes
use Rattle.plant_book.specs.declared.book.Entry.{Entry}
use Rattle.plant_book.specs.Sums.{sum_below}
use Rattle.plant_book.specs.Site.{SiteRecord, inverters, mw_at, floor_at}
use Rattle.plant_book.specs.Book.{BookRecord}
use Rattle.plant_book.specs.Calls.{latest}
use Rattle.plant_book.specs.Writes.{grant_of, granted, ends_later, standing, is_current, live}
use Rattle.plant_book.specs.Reserved.{covering, reserved_at, reserved, total_at, now_of}
use Rattle.plant_book.specs.Answered.{EachInTurn, IsAnswer, IsNext, IsBook, with_entries}
use Rattle.plant_book.proofs.Steps.{latest-push}
use Rattle.plant_book.proofs.Maxima.{only_element, fold_max_from, le_fold_max}
use Rattle.plant_book.proofs.Granting.{granted_is_covered}
use Rattle.plant_book.proofs.Freeing.{Contains-filter}
use Rattle.plant_book.proofs.Cap.{total_at-capped}

module _ (book : BookRecord) where
  -- moments never fall
  pub latest_grows : (before later : List Entry) → EachInTurn (λ es entry. IsNext book.site book.start es entry.call) before later → latest book.start before ≤ latest book.start (before ++ later)
  latest_grows before [] next = omega (arith, ap (latest book.start) (append-nil before))
  latest_grows before (entry ∷ later) next =
      omega (
        arith,
        next.0.later,
        latest-push book.start before entry,
        latest_grows (before ++ entry ∷ []) later next.1,
        ap (latest book.start) (append_assoc before (entry ∷ []) later),
      )

  -- a grant stands behind the silence, and not after the last moment
  pub record GrantedWithin (entries : List Entry) (write : writes.Write) : Type 0 where
    pub loud : book.start + reach book.site.rules < write.at
    pub until : write.at ≤ latest book.start entries

  pub granted_by : (reply : Reply) (write : writes.Write) → Contains (granted reply) write → reply ≡ replies.Granted write
  granted_by (replies.Granted made) write within = ap (λ (w : writes.Write). replies.Granted w) (only_element made write within)
  granted_by _ write within = absurd (omega (arith, within.1))

  granted_within : (before later : List Entry) (write : writes.Write) → EachInTurn (IsAnswer book) before later → EachInTurn (λ es entry. IsNext book.site book.start es entry.call) before later
      → Contains (flat_map grant_of later) write → GrantedWithin (before ++ later) write
  granted_within before [] write right next within = absurd (omega (arith, within.1))
  granted_within before (entry ∷ later) write right next within =
      let through : (before ++ entry ∷ []) ++ later ≡ before ++ entry ∷ later = append_assoc before (entry ∷ []) later in
      let parts = subst (λ (ws : List writes.Write). Contains ws write) (flat_map-cons grant_of entry later) within in
      elim (Contains-append_cases (grant_of entry) (flat_map grant_of later) write parts) [
        | inl here ↦
            let covered = granted_is_covered (with_entries book before) entry.call write (sym right.0 ∙ granted_by entry.reply write here) in
            record {
              loud = omega (arith, covered.loud, covered.at);
              until = omega (arith, covered.at, latest-push book.start before entry, latest_grows (before ++ entry ∷ []) later next.1, ap (latest book.start) through);
            }
        | inr rest ↦
            subst (λ (es : List Entry). GrantedWithin es write) through (granted_within (before ++ entry ∷ []) later write right.1 next.1 rest)
      ]

  pub grant_is_within : IsBook book → (write : writes.Write) → Contains (flat_map grant_of book.entries) write → GrantedWithin book.entries write
  grant_is_within kept write within = granted_within [] book.entries write kept.answered kept.entered within

  pub start_le_now : IsBook book → book.start ≤ now_of book
  unfolding now_of latest
  start_le_now kept = latest_grows [] book.entries kept.entered

-- a write that stands was granted
pub standing_granted : (rules : Rules) (before later : List Entry) (write : writes.Write) → Contains (standing rules before later) write → Contains (flat_map grant_of later) write
unfolding standing
standing_granted rules before [] write within = within
standing_granted rules before (entry ∷ later) write within =
    let stays = filter (λ w. not (ends_later rules (before ++ entry ∷ []) later w)) (grant_of entry) in
    subst (λ (ws : List writes.Write). Contains ws write) (sym (flat_map-cons grant_of entry later))
    (elim (Contains-append_cases stays (standing rules (before ++ entry ∷ []) later) write within) [
      | inl here ↦ Contains-append_left (grant_of entry) (flat_map grant_of later) write (Contains-filter (λ w. not (ends_later rules (before ++ entry ∷ []) later w)) (grant_of entry) write here).within
      | inr rest ↦ Contains-append_right (grant_of entry) (flat_map grant_of later) write (standing_granted rules (before ++ entry ∷ []) later write rest)
    ])

-- the floor is always reserved
pub floor_le_reserved : (book : BookRecord) (now inverter : ℕ) → floor_at book.site inverter ≤ reserved_at book now inverter
unfolding reserved_at covering
floor_le_reserved book now inverter = fold_max_from (λ (w : writes.Write). mw_at book.site inverter w.raw) (floor_at book.site inverter) (live book.site.rules book.entries now inverter)

-- and so is the limit of each write that stands and is not past its last moment
pub standing_le_reserved : (book : BookRecord) (now inverter : ℕ) (write : writes.Write) → Contains (standing book.site.rules [] book.entries) write → write.inverter ≡ inverter → now ≤ write.at + reach book.site.rules
    → mw_at book.site inverter write.raw ≤ reserved_at book now inverter
unfolding reserved_at covering live
standing_le_reserved book now inverter write within its current =
    le_fold_max (λ (w : writes.Write). mw_at book.site inverter w.raw) (is_current book.site.rules now inverter) (floor_at book.site inverter) (standing book.site.rules [] book.entries) write within
    (and_from (eqb write.inverter inverter) (leb now (write.at + reach book.site.rules)) (eq-eqb write.inverter inverter its) (le-leb now (write.at + reach book.site.rules) current))

nothing_stands : (rules : Rules) (entries : List Entry) → flat_map grant_of entries ≡ [] → (its : List writes.Write) → standing rules [] entries ≡ its → its ≡ []
nothing_stands rules entries none [] is = refl
nothing_stands rules entries none (write ∷ its) is =
    let here : Contains (write ∷ its) write = Contains-append_left (write ∷ []) its write (Contains-push [] write) in
    let granted_one = standing_granted rules [] entries write (subst (λ (ws : List writes.Write). Contains ws write) (sym is) here) in
    let never = subst (λ (ws : List writes.Write). Contains ws write) none granted_one in
    absurd (omega (arith, never.1))

-- where nothing was granted the floors alone are reserved
pub reserved_nothing_granted : (book : BookRecord) (now inverter : ℕ) → flat_map grant_of book.entries ≡ [] → reserved_at book now inverter ≡ floor_at book.site inverter
unfolding reserved_at covering live
reserved_nothing_granted book now inverter none =
    let nothing = nothing_stands book.site.rules book.entries none (standing book.site.rules [] book.entries) refl in
    ap (λ (ws : List writes.Write). fold max (floor_at book.site inverter) (map (λ (w : writes.Write). mw_at book.site inverter w.raw) (filter (is_current book.site.rules now inverter) ws))) nothing

-- what a life makes of the cover: with a grant it is what is reserved, without one it stays
abbrev pub cover_by : List writes.Write → BookRecord → (ℕ → ℕ) → ℕ → ℕ
cover_by [] book most = most
cover_by (write ∷ its) book most = reserved book

abbrev pub cover : (ℕ → ℕ) → List BookRecord → ℕ → ℕ
cover most [] = most
cover most (book ∷ books) = cover (cover_by (flat_map grant_of book.entries) book most) books

-- a life of a chain on this site that ended, or stands, at this moment
pub record IsLink (site : SiteRecord) (at : ℕ) (book : BookRecord) : Type 0 where
  pub kept : IsBook book
  pub of_site : book.site ≡ site
  pub until : now_of book ≤ at

-- lives one after another
abbrev pub IsChain : SiteRecord → ℕ → List BookRecord → Type 0
IsChain site at [] = Unit {0}
IsChain site at (book ∷ books) = IsLink site at book × AllByRecursion (λ later. now_of book ≤ later.start) books × IsChain site at books

-- what is reserved at the last moment sums to at most the cap
reserved_capped : (book : BookRecord) → IsBook book → sum_below (inverters book.site) (reserved book) ≤ book.site.cap
unfolding total_at
reserved_capped book kept = total_at-capped book kept (now_of book) (omega arith)

module _ (site : SiteRecord) (at : ℕ) where
  cover_by_capped : (book : BookRecord) (its : List writes.Write) (most : ℕ → ℕ) → IsLink site at book → sum_below (inverters site) most ≤ site.cap → sum_below (inverters site) (cover_by its book most) ≤ site.cap
  cover_by_capped book [] most link capped = capped
  cover_by_capped book (write ∷ its) most link capped =
      subst (λ (s : SiteRecord). sum_below (inverters s) (reserved book) ≤ s.cap) link.of_site (reserved_capped book link.kept)

  -- the cover of all inverters is at most the cap
  pub cover_capped : (books : List BookRecord) (most : ℕ → ℕ) → IsChain site at books → sum_below (inverters site) most ≤ site.cap → sum_below (inverters site) (cover most books) ≤ site.cap
  cover_capped [] most chain capped = capped
  cover_capped (book ∷ books) most chain capped = cover_capped books (cover_by (flat_map grant_of book.entries) book most) chain.2 (cover_by_capped book (flat_map grant_of book.entries) most chain.0 capped)

  module _ (inverter : ℕ) where
    floor_le_cover_by : (book : BookRecord) (its : List writes.Write) (most : ℕ → ℕ) → IsLink site at book → floor_at site inverter ≤ most inverter → floor_at site inverter ≤ cover_by its book most inverter
    floor_le_cover_by book [] most link floor = floor
    floor_le_cover_by book (write ∷ its) most link floor = subst (λ (s : SiteRecord). floor_at s inverter ≤ reserved book inverter) link.of_site (floor_le_reserved book (now_of book) inverter)

    -- the floor is covered
    pub floor_le_cover : (books : List BookRecord) (most : ℕ → ℕ) → IsChain site at books → floor_at site inverter ≤ most inverter → floor_at site inverter ≤ cover most books inverter
    floor_le_cover [] most chain floor = floor
    floor_le_cover (book ∷ books) most chain floor =
        floor_le_cover books (cover_by (flat_map grant_of book.entries) book most) chain.2 (floor_le_cover_by book (flat_map grant_of book.entries) most chain.0 floor)

    reserved_le_cover_by : (book : BookRecord) (its : List writes.Write) (most : ℕ → ℕ) → flat_map grant_of book.entries ≡ its → IsLink site at book → floor_at site inverter ≤ most inverter → reserved book inverter ≤ cover_by its book most inverter
    reserved_le_cover_by book [] most none link floor =
        omega (arith, reserved_nothing_granted book (now_of book) inverter none, ap (λ (s : SiteRecord). floor_at s inverter) link.of_site, floor)
    reserved_le_cover_by book (write ∷ its) most some link floor = omega arith

    -- what is reserved in the last life is covered
    pub reserved_le_cover : (earlier : List BookRecord) (life : BookRecord) (most : ℕ → ℕ) → IsChain site at (earlier ++ life ∷ []) → floor_at site inverter ≤ most inverter → reserved life inverter ≤ cover most (earlier ++ life ∷ []) inverter
    reserved_le_cover [] life most chain floor = reserved_le_cover_by life (flat_map grant_of life.entries) most refl chain.0 floor
    reserved_le_cover (book ∷ earlier) life most chain floor =
        reserved_le_cover earlier life (cover_by (flat_map grant_of book.entries) book most) chain.2 (floor_le_cover_by book (flat_map grant_of book.entries) most chain.0 floor)

    module _ (write : writes.Write) (its : write.inverter ≡ inverter) (current : at ≤ write.at + reach site.rules) where
      -- a life that grants anything does so when no earlier write can act any more
      old_by : (book : BookRecord) (grants : List writes.Write) (most : ℕ → ℕ) → flat_map grant_of book.entries ≡ grants → IsLink site at book → write.at ≤ book.start → mw_at site inverter write.raw ≤ most inverter
          → mw_at site inverter write.raw ≤ cover_by grants book most inverter
      unfolding now_of
      old_by book [] most is link old covered = covered
      old_by book (grant ∷ grants) most is link old covered =
          let here : Contains (grant ∷ grants) grant = Contains-append_left (grant ∷ []) grants grant (Contains-push [] grant) in
          let times = grant_is_within book link.kept grant (subst (λ (ws : List writes.Write). Contains ws grant) (sym is) here) in
          absurd (omega (arith, times.loud, times.until, link.until, old, current, ap (λ (s : SiteRecord). reach s.rules) link.of_site))

      pub old_le_cover : (books : List BookRecord) (most : ℕ → ℕ) → IsChain site at books → AllByRecursion (λ book. write.at ≤ book.start) books → mw_at site inverter write.raw ≤ most inverter → mw_at site inverter write.raw ≤ cover most books inverter
      old_le_cover [] most chain old covered = covered
      old_le_cover (book ∷ books) most chain old covered =
          old_le_cover books (cover_by (flat_map grant_of book.entries) book most) chain.2 old.1 (old_by book (flat_map grant_of book.entries) most refl chain.0 old.0 covered)

      -- the write stands in one of the lives
      abbrev pub StandsAmong : List BookRecord → Type 0
      StandsAmong [] = ⊥
      StandsAmong (book ∷ books) = Contains (standing site.rules [] book.entries) write ⊎ StandsAmong books

      stands_here : (book : BookRecord) (grants : List writes.Write) (most : ℕ → ℕ) → flat_map grant_of book.entries ≡ grants → IsLink site at book → Contains (standing site.rules [] book.entries) write
          → mw_at site inverter write.raw ≤ cover_by grants book most inverter
      stands_here book [] most is link stands = let none = subst (λ (ws : List writes.Write). Contains ws write) is (standing_granted site.rules [] book.entries write stands) in absurd (omega (arith, none.1))
      stands_here book (grant ∷ grants) most is link stands =
          let here = subst (λ (s : SiteRecord). Contains (standing s.rules [] book.entries) write) (sym link.of_site) stands in
          subst (λ (s : SiteRecord). mw_at s inverter write.raw ≤ reserved book inverter) link.of_site
          (standing_le_reserved book (now_of book) inverter write here its (omega (arith, link.until, current, ap (λ (s : SiteRecord). reach s.rules) link.of_site)))

      ended_before : (n : ℕ) (m : ℕ) (books : List BookRecord) → m ≤ n → AllByRecursion (λ later. n ≤ later.start) books → AllByRecursion (λ later. m ≤ later.start) books
      ended_before n m [] le all = tt
      ended_before n m (book ∷ books) le all = (omega (arith, le, all.0), ended_before n m books le all.1)

      pub standing_le_cover : (books : List BookRecord) (most : ℕ → ℕ) → IsChain site at books → StandsAmong books → mw_at site inverter write.raw ≤ cover most books inverter
      unfolding now_of
      standing_le_cover [] most chain stands = absurd stands
      standing_le_cover (book ∷ books) most chain stands =
          elim stands [
            | inl here ↦
                let times = grant_is_within book chain.0.kept write (standing_granted site.rules [] book.entries write here) in
                old_le_cover books (cover_by (flat_map grant_of book.entries) book most) chain.2 (ended_before (now_of book) write.at books times.until chain.1)
                (stands_here book (flat_map grant_of book.entries) most refl chain.0 here)
            | inr later ↦ standing_le_cover books (cover_by (flat_map grant_of book.entries) book most) chain.2 later
          ]
