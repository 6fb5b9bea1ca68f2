-- A history whose last life goes on, or is followed by the next one, is a history.
use Rattle.std.proofs.Common.{◌≡◌, ℕ, zero, suc, ◌+◌, ◌≤◌, Bool, true, false, ◌&&◌, eqb, leb, List, [], ◌∷◌, ◌++◌, refl, sym, ap, subst, arith}
use Rattle.std.specs.Prelude.{filter, Contains}
use Rattle.std.specs.List.{AllByRecursion}
use Rattle.std.proofs.lemmas.List.Elements.{Contains-push, Contains-append_left, Contains-append_right}
use Rattle.limiter_num.specs.Timers.{reach}
use Rattle.plant_book.specs.declared.call.Write as writes
use Rattle.plant_book.specs.Sums.{sum_below}
use Rattle.plant_book.specs.Site.{SiteRecord, inverters}
use Rattle.plant_book.specs.Book.{BookRecord}
use Rattle.plant_book.specs.Writes.{standing, is_current, live}
use Rattle.plant_book.specs.Reserved.{covering, reserved_at, total_at, now_of}
use Rattle.plant_book.specs.Answered.{IsBook}
use Rattle.plant_book.specs.History.{History, lives, InTurn, first_start, Fits, IsHistory, IsPast}
use Rattle.plant_book.proofs.Cap.{total_at-capped}
use Rattle.plant_book.proofs.Cover.{grant_is_within, standing_granted}
use Rattle.plant_book.proofs.Freeing.{Contains-filter}
use Rattle.plant_book.proofs.Lifetime.{filter-both}
use Rattle.plant_book.proofs.Safe.{safe_always, first_books, first_in_turn, first_start_is, life_is_history, no_past}
use Rattle.restart_silence.specs.Chain.{ending_in, IsSafeHistory, Begins, GoesOn, Restarts, still_live}

pub safe_history_of : (history : History) → IsHistory history → IsSafeHistory history
safe_history_of history is = record { is = is; safe = safe_always history is }

pub begins : (book : BookRecord) → IsBook book → Begins book
begins book kept = safe_history_of (ending_in [] [] book) (life_is_history book [] kept (no_past book kept))

-- the last life of a history may go on
pub goes_on : (old new : BookRecord) → IsBook new → new.site ≡ old.site → new.start ≡ old.start → GoesOn old new
goes_on old new kept site start past earlier is =
    let history = ending_in past earlier new in
    let first : first_start (lives history) new.start ≡ first_start (lives (ending_in past earlier old)) old.start = first_start_is earlier old new [] new.start old.start start in
    safe_history_of history (record {
      books = first_books IsBook earlier old new [] is.books (λ was. kept);
      one_site = subst (λ (s : SiteRecord). AllByRecursion (λ b. b.site ≡ s) (earlier ++ new ∷ [])) (sym site) (first_books (λ b. b.site ≡ old.site) earlier old new [] is.one_site (λ was. site));
      in_turn = first_in_turn earlier old new [] is.in_turn start;
      before = subst (λ (n : ℕ). AllByRecursion (λ w. w.at ≤ n) past) (sym first) is.before;
      fits = subst (λ (s : SiteRecord). Fits s past) (sym site) is.fits;
    })

-- lives and one more
all_more : (P : BookRecord → Type 0) (books : List BookRecord) (next : BookRecord) → AllByRecursion P books → P next → AllByRecursion P (books ++ next ∷ [])
all_more P [] next all fact = (fact, tt)
all_more P (book ∷ books) next all fact = (all.0, all_more P books next all.1 fact)

in_turn_more : (earlier : List BookRecord) (old next : BookRecord) → InTurn (earlier ++ old ∷ []) → now_of old ≤ next.start → InTurn ((earlier ++ old ∷ []) ++ next ∷ [])
in_turn_more [] old next turn later = (later, tt)
in_turn_more (book ∷ []) old next turn later = (turn.0, (later, tt))
in_turn_more (book ∷ two ∷ earlier) old next turn later = (turn.0, in_turn_more (two ∷ earlier) old next turn.1 later)

first_start_more : (earlier : List BookRecord) (old next : BookRecord) (n m : ℕ) → first_start ((earlier ++ old ∷ []) ++ next ∷ []) n ≡ first_start (earlier ++ old ∷ []) m
first_start_more [] old next n m = refl
first_start_more (book ∷ earlier) old next n m = refl

pub restarts : (old new : BookRecord) → IsBook new → new.site ≡ old.site → now_of old ≤ new.start → Restarts old new
restarts old new kept site later past earlier is =
    let history = ending_in past (earlier ++ old ∷ []) new in
    safe_history_of history (record {
      books = all_more IsBook (earlier ++ old ∷ []) new is.books kept;
      one_site = subst (λ (s : SiteRecord). AllByRecursion (λ b. b.site ≡ s) ((earlier ++ old ∷ []) ++ new ∷ [])) (sym site) (all_more (λ b. b.site ≡ old.site) (earlier ++ old ∷ []) new is.one_site site);
      in_turn = in_turn_more earlier old new is.in_turn later;
      before = subst (λ (n : ℕ). AllByRecursion (λ w. w.at ≤ n) past) (sym (first_start_more earlier old new new.start old.start)) is.before;
      fits = subst (λ (s : SiteRecord). Fits s past) (sym site) is.fits;
    })

-- what is still live of an ended book fits
module _ (book : BookRecord) (kept : IsBook book) where
  its_live : (inverter : ℕ) → filter (λ write. eqb write.inverter inverter) (still_live book) ≡ live book.site.rules book.entries (now_of book) inverter
  unfolding live
  its_live inverter =
      filter-both (λ (write : writes.Write). eqb write.inverter inverter) (λ (write : writes.Write). leb (now_of book) (write.at + reach book.site.rules)) (is_current book.site.rules (now_of book) inverter)
      (λ write. both_ways (leb (now_of book) (write.at + reach book.site.rules)) (eqb write.inverter inverter)) (standing book.site.rules [] book.entries)
    where
      both_ways : (a b : Bool) → (a && b) ≡ (b && a)
      both_ways true true = refl
      both_ways true false = refl
      both_ways false true = refl
      both_ways false false = refl

  sum_same : (n : ℕ) (f g : ℕ → ℕ) → ((k : ℕ) → f k ≡ g k) → sum_below n f ≡ sum_below n g
  unfolding sum_below
  sum_same zero f g same = refl
  sum_same (suc n) f g same = omega (arith, sum_same n f g same, same n)

  still_live_fits : Fits book.site (still_live book)
  unfolding total_at reserved_at
  still_live_fits =
      let total = total_at-capped book kept (now_of book) (omega arith) in
      omega (
        arith,
        total,
        sum_same (inverters book.site)
            (λ inverter. covering book.site inverter (filter (λ write. eqb write.inverter inverter) (still_live book)))
            (λ inverter. covering book.site inverter (live book.site.rules book.entries (now_of book) inverter))
            (λ inverter. ap (covering book.site inverter) (its_live inverter)),
      )

  granted_until : (at : ℕ) → now_of book ≤ at → (its : List writes.Write) → ((write : writes.Write) → Contains its write → Contains (standing book.site.rules [] book.entries) write) → AllByRecursion (λ write. write.at ≤ at) its
  unfolding now_of
  granted_until at le [] stand = tt
  granted_until at le (write ∷ its) stand =
      let here = Contains-append_left (write ∷ []) its write (Contains-push [] write) in
      let within = grant_is_within book kept write (standing_granted book.site.rules [] book.entries write (stand write here)) in
      (omega (arith, within.until, le), granted_until at le its (λ other later. stand other (Contains-append_right (write ∷ []) its other later)))

  pub still_live_past : (at : ℕ) → now_of book ≤ at → IsPast book.site at (still_live book)
  still_live_past at le = record {
    before = granted_until at le (still_live book) (λ write within. (Contains-filter (λ write. leb (now_of book) (write.at + reach book.site.rules)) (standing book.site.rules [] book.entries) write within).within);
    fits = still_live_fits;
  }
