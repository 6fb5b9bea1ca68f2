-- Every history is safe at every moment.
use Rattle.std.proofs.Common.{◌≡◌, ℕ, ◌+◌, ◌<◌, ◌≤◌, inl, inr, Bool, true, false, cond, List, [], ◌∷◌, ◌++◌, take, refl, sym, ap, subst, ◌∙◌, arith}
use Rattle.std.specs.List.{AllByRecursion}
use Rattle.std.proofs.lemmas.Bool.{cases_lt, le-leb}
use Rattle.plant_book.specs.Site.{SiteRecord, inverters}
use Rattle.plant_book.specs.Book.{BookRecord}
use Rattle.plant_book.specs.declared.call.Write as writes
use Rattle.plant_book.specs.Reserved.{covering, reserved, total_at, now_of}
use Rattle.plant_book.specs.Answer.{silent_until}
use Rattle.plant_book.specs.Ceiling.{ceiling}
use Rattle.plant_book.specs.Answered.{IsBook, with_entries}
use Rattle.plant_book.specs.History.{History, lives, InTurn, first_start, Fits, IsHistory, IsPast, life_after}
use Rattle.plant_book.specs.Safe.{held_mw, IsSafe, IsSafeAlways, up_to}
use Rattle.plant_book.proofs.Maxima.{sum_below-both}
use Rattle.plant_book.proofs.Prefix.{IsBook-first}
use Rattle.plant_book.proofs.Cover.{cover, cover_capped, reserved_le_cover}
use Rattle.plant_book.proofs.Device.{past_cover, floor_le_past, chain_of_history, held_is_covered, held_behind_silence}
use Rattle.plant_book.proofs.Lowered.{under_ceiling}

-- one inverter's part: what it holds, or what is reserved for it
part_le : (b : Bool) (holds reserves covers : ℕ) → (b ≡ true → holds ≤ covers) → reserves ≤ covers → cond b holds 0 + cond b 0 reserves ≤ covers
part_le true holds reserves covers le covered = omega (arith, le refl)
part_le false holds reserves covers le covered = omega (arith, covered)

-- what holds of each life holds of one
has_one : (P : BookRecord → Type 0) (before : List BookRecord) (book : BookRecord) (later : List BookRecord) → AllByRecursion P (before ++ book ∷ later) → P book
has_one P [] book later all = all.0
has_one P (one ∷ before) book later all = has_one P before book later all.1

-- While the last life is silent the cover bounds all, and it is at most the site's cap.
safe_in_silence : (history : History) → IsHistory history → now_of history.life ≤ silent_until history.life → IsSafe history
unfolding ceiling
safe_in_silence history is silent among events first rest at devices from cuts =
    let site = history.life.site in
    let chain = chain_of_history history at is from in
    let total = cover_capped site at (lives history) (past_cover history) chain is.fits in
    let both = sum_below-both (inverters site)
    (λ inverter. cond (among inverter) (held_mw site inverter (first inverter)) 0)
    (λ inverter. cond (among inverter) 0 (reserved history.life inverter))
    (cover (past_cover history) (lives history))
    (λ inverter lt. part_le (among inverter) (held_mw site inverter (first inverter)) (reserved history.life inverter) (cover (past_cover history) (lives history) inverter)
    (λ follows. held_is_covered history is inverter at from (events inverter) (first inverter) (rest inverter) (devices inverter lt follows) (cuts inverter lt follows))
    (reserved_le_cover site at inverter history.earlier history.life (past_cover history) chain (floor_le_past history is inverter at from))) in
    rw (le-leb (now_of history.life) (silent_until history.life) silent) (omega (arith, total, both))

-- Behind the silence what is held is reserved, and what is reserved in all is at most the ceiling.
safe_behind_silence : (history : History) → IsHistory history → silent_until history.life < now_of history.life → IsSafe history
unfolding total_at
safe_behind_silence history is loud among events first rest at devices from cuts =
    let site = history.life.site in
    let both = sum_below-both (inverters site)
    (λ inverter. cond (among inverter) (held_mw site inverter (first inverter)) 0)
    (λ inverter. cond (among inverter) 0 (reserved history.life inverter))
    (reserved history.life)
    (λ inverter lt. part_le (among inverter) (held_mw site inverter (first inverter)) (reserved history.life inverter) (reserved history.life inverter)
    (λ follows. held_behind_silence history is inverter at from (events inverter) (first inverter) (rest inverter) (devices inverter lt follows) (cuts inverter lt follows) loud)
    (omega arith)) in
    omega (arith, both, under_ceiling history.life (has_one IsBook history.earlier history.life [] is.books))

pub safe_history : (history : History) → IsHistory history → IsSafe history
safe_history history is =
    elim (cases_lt (silent_until history.life) (now_of history.life)) [
      | inl loud ↦ safe_behind_silence history is loud
      | inr silent ↦ safe_in_silence history is silent
    ]

-- the facts of a history hold of its first lives, the last of them cut short
pub first_books : (P : BookRecord → Type 0) (before : List BookRecord) (book cut : BookRecord) (later : List BookRecord) → AllByRecursion P (before ++ book ∷ later) → (P book → P cut) → AllByRecursion P (before ++ cut ∷ [])
first_books P [] book cut later all keeps = (keeps all.0, tt)
first_books P (one ∷ before) book cut later all keeps = (all.0, first_books P before book cut later all.1 keeps)

pub first_in_turn : (before : List BookRecord) (book cut : BookRecord) (later : List BookRecord) → InTurn (before ++ book ∷ later) → cut.start ≡ book.start → InTurn (before ++ cut ∷ [])
first_in_turn [] book cut later turn same = tt
first_in_turn (one ∷ []) book cut later turn same = (omega (arith, turn.0, same), tt)
first_in_turn (one ∷ two ∷ before) book cut later turn same = (turn.0, first_in_turn (two ∷ before) book cut later turn.1 same)

pub first_start_is : (before : List BookRecord) (book cut : BookRecord) (later : List BookRecord) (n m : ℕ) → cut.start ≡ book.start → first_start (before ++ cut ∷ []) n ≡ first_start (before ++ book ∷ later) m
first_start_is [] book cut later n m same = same
first_start_is (one ∷ before) book cut later n m same = refl

-- a prefix of a history is one
pub history_first : (history : History) (before later : List BookRecord) (book : BookRecord) (count : ℕ) → IsHistory history → lives history ≡ before ++ book ∷ later → IsHistory (up_to history before book count)
history_first history before later book count is parts =
    let cut = with_entries book (take count book.entries) in
    let books = subst (AllByRecursion IsBook) parts is.books in
    let sites = subst (AllByRecursion (λ b. b.site ≡ history.life.site)) parts is.one_site in
    let site : book.site ≡ history.life.site = has_one (λ b. b.site ≡ history.life.site) before book later sites in
    let start : first_start (before ++ cut ∷ []) book.start ≡ first_start (lives history) history.life.start = first_start_is before book cut later book.start history.life.start refl ∙ ap (λ (bs : List BookRecord). first_start bs history.life.start) (sym parts) in
    record {
      books = first_books IsBook before book cut later books (λ kept. IsBook-first book count kept);
      one_site = subst (λ (s : SiteRecord). AllByRecursion (λ b. b.site ≡ s) (before ++ cut ∷ [])) (sym site) (first_books (λ b. b.site ≡ history.life.site) before book cut later sites (λ same. same));
      in_turn = first_in_turn before book cut later (subst InTurn parts is.in_turn) refl;
      before = subst (λ (n : ℕ). AllByRecursion (λ w. w.at ≤ n) history.past) (sym start) is.before;
      fits = subst (λ (s : SiteRecord). Fits s history.past) (sym site) is.fits;
    }

-- at every moment
pub safe_always : (history : History) → IsHistory history → IsSafeAlways history
safe_always history is before later book count parts = safe_history (up_to history before book count) (history_first history before later book count is parts)

-- a book behind a past that it may follow is a history
pub life_is_history : (book : BookRecord) (past : List writes.Write) → IsBook book → IsPast book.site book.start past → IsHistory (life_after past book)
life_is_history book past kept its_past = record { books = (kept, tt); one_site = (refl, tt); in_turn = tt; before = its_past.before; fits = its_past.fits }

-- no past fits
pub no_past : (book : BookRecord) → IsBook book → IsPast book.site book.start []
unfolding covering
no_past book kept = record { before = tt; fits = kept.openable.floors }

-- at every moment of a life behind any past that it may follow
pub safe_life : (book : BookRecord) (past : List writes.Write) → IsBook book → IsPast book.site book.start past → IsSafeAlways (life_after past book)
safe_life book past kept its_past = safe_always (life_after past book) (life_is_history book past kept its_past)
