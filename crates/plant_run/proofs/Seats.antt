-- What all workers did, one after another.
use Rattle.std.proofs.Common.{◌≡◌, ◌≢◌, ℕ, zero, suc, ◌<◌, ◌≤◌, Bool, true, false, eqb, List, [], ◌∷◌, ◌++◌, length, ◌⊎◌, inl, inr, Option, Some, refl, sym, ap, subst, ◌∙◌, arith, append-nil, append_assoc, length-append}
use Rattle.std.specs.Prelude.{set, slice_get, ◌==◌}
use Rattle.std.specs.List.{AllByRecursion}
use Rattle.std.proofs.lemmas.Bool.{eqb-true, eqb-false, ne_eqb}
use Rattle.std.proofs.lemmas.List.{length-set}
use Rattle.std.proofs.lemmas.List.Elements.{filter-append}
use Rattle.std.proofs.lemmas.Option.{slice_get_within}
use Rattle.world_traits.specs.Links.{Links}
use Rattle.plant_book.specs.declared.call.Call.{Call}
use Rattle.plant_book.specs.declared.call.Call.TheVariants as call
use Rattle.plant_book.specs.declared.book.Entry.{Entry}
use Rattle.plant_book.specs.Book.{BookRecord}
use Rattle.inverter_worker.specs.declared.job.Job.{Job}
use Rattle.worker_turn.specs.Worker.{WorkerRecord}
use Rattle.plant_run.specs.Own.{is_workers, entries_of}
use Rattle.plant_run.specs.Works.{IsGoalAfter, IsFull, Works}
use Rattle.plant_run.specs.Running.{EachWorker, IsOfOne, Differ}
use Rattle.plant_run.specs.Rounds.{IsSeat, Grows, WorkOn}
use Rattle.plant_run.proofs.Steps.{idle}
use Rattle.plant_run.proofs.Seeing.{all_map, all_joined}
use Rattle.plant_run.proofs.Joining.{Last, goal_still, joined}

-- lists, place by place
pub get_at : {X : Type 0} (xs : List X) (i : ℕ) → i < length xs → (x : X) × (slice_get xs i ≡ Some x)
get_at [] i within = absurd (omega (arith, within))
get_at (x ∷ xs) zero within = (x, refl)
get_at (x ∷ xs) (suc i) within = get_at xs i (omega (arith, within))

pub get_same : {X : Type 0} (xs : List X) (i : ℕ) (x : X) → i < length xs → slice_get (set xs i x) i ≡ Some x
get_same [] i x within = absurd (omega (arith, within))
get_same (y ∷ xs) zero x within = refl
get_same (y ∷ xs) (suc i) x within = get_same xs i x (omega (arith, within))

pub get_other : {X : Type 0} (xs : List X) (i j : ℕ) (x : X) → i ≢ j → slice_get (set xs i x) j ≡ slice_get xs j
get_other [] i j x not = refl
get_other (y ∷ xs) zero zero x not = absurd (not refl)
get_other (y ∷ xs) zero (suc j) x not = refl
get_other (y ∷ xs) (suc i) zero x not = refl
get_other (y ∷ xs) (suc i) (suc j) x not = get_other xs i j x (λ is. not (ap suc is))

pub same_or_not : (i j : ℕ) → (i ≡ j) ⊎ (i ≢ j)
same_or_not i j = by (eqb i j) refl
  where
    by : (b : Bool) → eqb i j ≡ b → (i ≡ j) ⊎ (i ≢ j)
    by true is = inl (eqb-true i j is)
    by false is = inr (eqb-false i j is)

pub some_same : {X : Type 0} (a b : X) → Some a ≡ Some b → a ≡ b
some_same a b is = cc

-- a call of one worker is none of another's
other_number : (inverter other named : ℕ) → inverter ≢ other → (named == inverter) ≡ true → (named == other) ≡ false
other_number inverter other named not is = ne_eqb named other (λ same. not (sym (eqb-true named inverter is) ∙ same))

others_not : (inverter other : ℕ) → inverter ≢ other → (made : Call) → is_workers inverter made ≡ true → is_workers other made ≡ false
others_not inverter other not (call.Link at named) own = other_number inverter other named not own
others_not inverter other not (call.Ask at named raw) own = other_number inverter other named not own
others_not inverter other not (call.Read at named) own = other_number inverter other named not own
others_not inverter other not (call.Saw at named number raw) own = other_number inverter other named not own
others_not inverter other not (call.Back at named link number) own = other_number inverter other named not own
others_not inverter other not (call.Want at named mw) own = refl
others_not inverter other not (call.Tick at) own = refl
others_not inverter other not (call.Stop at) own = refl
others_not inverter other not (call.Cap at mw) own = refl

none_of : (inverter other : ℕ) → inverter ≢ other → (more : List Entry) → AllByRecursion (λ entry. is_workers inverter entry.call ≡ true) more
    → entries_of other more ≡ []
none_of inverter other not [] own = refl
none_of inverter other not (entry ∷ more) own =
    let no : is_workers other entry.call ≡ false = others_not inverter other not entry.call own.0 in
    rw no (none_of inverter other not more own.1)

-- entries of one worker leave those of another as they are
pub others_stay : (inverter other : ℕ) → inverter ≢ other → (entries more : List Entry)
    → AllByRecursion (λ entry. is_workers inverter entry.call ≡ true) more → entries_of other (entries ++ more) ≡ entries_of other entries
others_stay inverter other not entries more own =
    filter-append (λ (e : Entry). is_workers other e.call) entries more
    ∙ ap (λ (es : List Entry). entries_of other entries ++ es) (none_of inverter other not more own) ∙ append-nil (entries_of other entries)

goals_still : (b c : BookRecord) (more : List Entry) → c ≡ record b { entries = b.entries ++ more } → Last (IsGoalAfter b) (IsGoalAfter c)
goals_still b c more is made place inverter goal told =
    let P : BookRecord → Type 0 = λ book. IsGoalAfter book made place inverter goal in subst P (sym is) (goal_still b more made place inverter goal told)

full_still : (b c : BookRecord) (more : List Entry) → c ≡ record b { entries = b.entries ++ more } → IsFull b → IsFull c
full_still b c more is full = subst IsFull (sym is) (omega (arith, full, length-append b.entries more))

grows_more : (P : Entry → Type 0) (a b c : BookRecord) → (x : Grows P a b) → (y : Grows P b c) → Grows P a c
grows_more P a b c x y =
    let Q : BookRecord → Type 0 = λ book. c ≡ record book { entries = book.entries ++ y.more } in
    record {
      more = x.more ++ y.more;
      is = subst Q x.is y.is ∙ ap (λ (es : List Entry). record a { entries = es }) (append_assoc a.entries x.more y.more);
      each = all_joined P x.more y.more x.each y.each;
    }

module _ {N : Type 0} (links : N → Option Links) (faults : N → ℕ) (may_give : ℕ → Bool) where
  -- nobody did anything
  pub none : (book : BookRecord) (workers : List WorkerRecord) (dialers : List N) (count : ℕ) → EachWorker (IsSeat count) workers
      → WorkOn links faults may_give book book workers workers dialers dialers
  none book workers dialers count seats = record {
    grows = record { more = []; is = ap (λ (es : List Entry). record book { entries = es }) (sym (append-nil book.entries)); each = tt };
    each = λ place before after old new was now dialer dialer_now.
        let worker_same : before ≡ after = some_same before after (sym was ∙ now) in
        let dialer_same : old ≡ new = some_same old new (sym dialer ∙ dialer_now) in
        let P : WorkerRecord → Type 0 = λ w. Works may_give before.job book book (IsFull book) before w (links old) (links new) (faults old) (faults new) in
        let Q : N → Type 0 = λ d. Works may_give before.job book book (IsFull book) before before (links old) (links d) (faults old) (faults d) in
        subst P worker_same (subst Q dialer_same (idle (IsGoalAfter book) (IsFull book) may_give before.job (entries_of before.job.inverter book.entries) (entries_of before.job.inverter book.entries) before
        (links old) (faults old) refl (seats place before was).rests refl));
    workers_stay = refl;
    dialers_stay = refl;
    behind = λ place past. refl;
  }

  -- the worker at a place made a turn
  pub one : (old new : BookRecord) (workers : List WorkerRecord) (dialers : List N) (count place : ℕ) (before after : WorkerRecord) (dialer dialer_now : N)
      → EachWorker (IsSeat count) workers → Differ workers → place < length workers → place < length dialers
      → slice_get workers place ≡ Some before → slice_get dialers place ≡ Some dialer
      → Grows (λ entry. is_workers before.job.inverter entry.call ≡ true) old new
      → Works may_give before.job old new (IsFull new) before after (links dialer) (links dialer_now) (faults dialer) (faults dialer_now)
      → WorkOn links faults may_give old new workers (set workers place after) dialers (set dialers place dialer_now)
  one old new workers dialers count place before after dialer dialer_now seats differ within dialed was was_dialer grows works = record {
    grows = record {
      more = grows.more;
      is = grows.is;
      each = all_map (λ entry. is_workers before.job.inverter entry.call ≡ true) (IsOfOne workers)
          (λ entry own. record { place = place; worker = before; is = was; own = own }) grows.more grows.each;
    };
    each = λ other a b d e. at other a b d e (same_or_not place other);
    workers_stay = length-set workers place after;
    dialers_stay = length-set dialers place dialer_now;
    behind = λ other past. get_other dialers place other dialer_now (λ same. absurd (omega (arith, within, past, same)));
  }
    where
      here : (a b : WorkerRecord) (d e : N) → slice_get workers place ≡ Some a → slice_get (set workers place after) place ≡ Some b
          → slice_get dialers place ≡ Some d → slice_get (set dialers place dialer_now) place ≡ Some e
          → Works may_give a.job old new (IsFull new) a b (links d) (links e) (faults d) (faults e)
      here a b d e is_a is_b is_d is_e =
          let same_a : before ≡ a = some_same before a (sym was ∙ is_a) in
          let same_b : after ≡ b = some_same after b (sym (get_same workers place after within) ∙ is_b) in
          let same_d : dialer ≡ d = some_same dialer d (sym was_dialer ∙ is_d) in
          let same_e : dialer_now ≡ e = some_same dialer_now e (sym (get_same dialers place dialer_now dialed) ∙ is_e) in
          let P : WorkerRecord → Type 0 = λ a. Works may_give a.job old new (IsFull new) a b (links d) (links e) (faults d) (faults e) in
          let Q : WorkerRecord → Type 0 = λ b. Works may_give before.job old new (IsFull new) before b (links d) (links e) (faults d) (faults e) in
          let R : N → Type 0 = λ d. Works may_give before.job old new (IsFull new) before after (links d) (links e) (faults d) (faults e) in
          let S : N → Type 0 = λ e. Works may_give before.job old new (IsFull new) before after (links dialer) (links e) (faults dialer) (faults e) in
          subst P same_a (subst Q same_b (subst R same_d (subst S same_e works)))

      there : (other : ℕ) (a b : WorkerRecord) (d e : N) → place ≢ other → slice_get workers other ≡ Some a
          → slice_get (set workers place after) other ≡ Some b → slice_get dialers other ≡ Some d → slice_get (set dialers place dialer_now) other ≡ Some e
          → Works may_give a.job old new (IsFull new) a b (links d) (links e) (faults d) (faults e)
      there other a b d e not is_a is_b is_d is_e =
          let same_b : a ≡ b = some_same a b (sym is_a ∙ sym (get_other workers place other after not) ∙ is_b) in
          let same_e : d ≡ e = some_same d e (sym is_d ∙ sym (get_other dialers place other dialer_now not) ∙ is_e) in
          let apart : before.job.inverter ≢ a.job.inverter = λ same. not (differ place other before a was is_a same) in
          let entries : entries_of a.job.inverter new.entries ≡ entries_of a.job.inverter old.entries =
          ap (λ (book : BookRecord). entries_of a.job.inverter book.entries) grows.is
          ∙ others_stay before.job.inverter a.job.inverter apart old.entries grows.more grows.each in
          let P : WorkerRecord → Type 0 = λ b. Works may_give a.job old new (IsFull new) a b (links d) (links e) (faults d) (faults e) in
          let Q : N → Type 0 = λ e. Works may_give a.job old new (IsFull new) a a (links d) (links e) (faults d) (faults e) in
          subst P same_b (subst Q same_e (idle (IsGoalAfter new) (IsFull new) may_give a.job (entries_of a.job.inverter old.entries) (entries_of a.job.inverter new.entries) a
          (links d) (faults d) refl (seats other a is_a).rests entries))

      at : (other : ℕ) (a b : WorkerRecord) (d e : N) → (place ≡ other) ⊎ (place ≢ other) → slice_get workers other ≡ Some a
          → slice_get (set workers place after) other ≡ Some b → slice_get dialers other ≡ Some d → slice_get (set dialers place dialer_now) other ≡ Some e
          → Works may_give a.job old new (IsFull new) a b (links d) (links e) (faults d) (faults e)
      at other a b d e (inl same) is_a is_b is_d is_e =
          let P : ℕ → Type 0 = λ n. slice_get workers n ≡ Some a → slice_get (set workers place after) n ≡ Some b → slice_get dialers n ≡ Some d
          → slice_get (set dialers place dialer_now) n ≡ Some e → Works may_give a.job old new (IsFull new) a b (links d) (links e) (faults d) (faults e) in
          subst P same (here a b d e) is_a is_b is_d is_e
      at other a b d e (inr not) is_a is_b is_d is_e = there other a b d e not is_a is_b is_d is_e

  -- what all did, and what all did then
  pub more : (a b c : BookRecord) (workers workers_mid workers_now : List WorkerRecord) (dialers dialers_mid dialers_now : List N)
      → length workers ≤ length dialers → WorkOn links faults may_give a b workers workers_mid dialers dialers_mid
      → WorkOn links faults may_give b c workers_mid workers_now dialers_mid dialers_now → WorkOn links faults may_give a c workers workers_now dialers dialers_now
  more a b c workers workers_mid workers_now dialers dialers_mid dialers_now enough x y = record {
    grows = grows_more (IsOfOne workers) a b c x.grows
        (record { more = y.grows.more; is = y.grows.is; each = all_map (IsOfOne workers_mid) (IsOfOne workers) of_one y.grows.more y.grows.each });
    each = λ place before after old new was now dialer dialer_now.
        let within : place < length workers = slice_get_within workers place before was in
        let dialed : place < length dialers = slice_get_within dialers place old dialer in
        let mid = get_at workers_mid place (omega (arith, within, x.workers_stay)) in
        let mid_dialer = get_at dialers_mid place (omega (arith, dialed, x.dialers_stay)) in
        let first = x.each place before mid.0 old mid_dialer.0 was mid.1 dialer mid_dialer.1 in
        let last = y.each place mid.0 after mid_dialer.0 new mid.1 now mid_dialer.1 dialer_now in
        let P : Job → Type 0 = λ job. Works may_give job b c (IsFull c) mid.0 after (links mid_dialer.0) (links new) (faults mid_dialer.0) (faults new) in
        joined (IsGoalAfter b) (IsGoalAfter c) (IsFull b) (IsFull c) (goals_still b c y.grows.more y.grows.is) (full_still b c y.grows.more y.grows.is) may_give before.job
        _ _ _ before mid.0 after _ _ _ _ _ _ first (subst P first.job_same last);
    workers_stay = y.workers_stay ∙ x.workers_stay;
    dialers_stay = y.dialers_stay ∙ x.dialers_stay;
    behind = λ place past. y.behind place (omega (arith, past, x.workers_stay)) ∙ x.behind place past;
  }
    where
      of_one : (entry : Entry) → IsOfOne workers_mid entry → IsOfOne workers entry
      of_one entry made =
          let within : made.place < length workers = omega (arith, slice_get_within workers_mid made.place made.worker made.is, x.workers_stay) in
          let first = get_at workers made.place within in
          let dialer = get_at dialers made.place (omega (arith, within, enough)) in
          let mid_dialer = get_at dialers_mid made.place (omega (arith, within, enough, x.dialers_stay)) in
          let works = x.each made.place first.0 made.worker dialer.0 mid_dialer.0 first.1 made.is dialer.1 mid_dialer.1 in
          let P : Job → Type 0 = λ job. is_workers job.inverter entry.call ≡ true in
          record { place = made.place; worker = first.0; is = first.1; own = subst P works.job_same made.own }
