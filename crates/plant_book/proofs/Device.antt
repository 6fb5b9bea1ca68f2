-- What an inverter holds is covered: whatever it did that follows the timed device.
use Rattle.std.proofs.Common.{◌≡◌, ℕ, ◌+◌, ◌<◌, ◌≤◌, eqb, List, [], ◌∷◌, ◌++◌, Option, Some, None, refl, sym, ap, subst, ◌∙◌, append_assoc, arith, inl, inr, ◌⊎◌}
use Rattle.std.specs.Prelude.{filter, find, Contains, IsSomeAnd, slice_get}
use Rattle.std.specs.List.{AllByRecursion}
use Rattle.std.specs.Option.{option_or, option_map_or}
use Rattle.std.proofs.lemmas.Bool.{eq-eqb, and_parts, eqb-true}
use Rattle.std.proofs.lemmas.List.Elements.{Contains-push, Contains-append_cases, Contains-append_left, Contains-append_right}
use Rattle.std.proofs.lemmas.List.Folds.{find-append}
use Rattle.limiter_num.specs.Rating.{mw}
use Rattle.limiter_num.specs.Timers.{tmax, reach}
use Rattle.plant_book.specs.declared.site.Unit as unit
use Rattle.plant_book.specs.declared.call.Write as writes
use Rattle.plant_book.specs.Sums.{last_that}
use Rattle.plant_book.specs.Site.{SiteRecord, mw_at, floor_at, floor_raw_at}
use Rattle.plant_book.specs.Book.{BookRecord}
use Rattle.plant_book.specs.Reserved.{covering, reserved, now_of}
use Rattle.plant_book.specs.Writes.{standing}
use Rattle.plant_book.specs.Answer.{silent_until}
use Rattle.plant_book.specs.Covered.{CoversHeld}
use Rattle.plant_book.specs.Answered.{IsBook}
use Rattle.plant_book.specs.History.{History, Grant, lives, past_grants, life_grants, lives_grants, life_sights, lives_sights, sights, InTurn, first_start, IsHistory}
use Rattle.plant_book.specs.Behaviour.{Event, Act, Revert, Look, Timed, is_change, held, held_by, held_after, IsBehaviour}
use Rattle.plant_book.specs.Held.{IsCut}
use Rattle.plant_book.specs.Safe.{held_mw}
use Rattle.plant_book.proofs.Maxima.{fold_max_from, le_fold_max, only_element}
use Rattle.plant_book.proofs.Last.{last_that-stands, found_has}
use Rattle.plant_book.proofs.Freeing.{FreedBy, freed_among, life_fate}
use Rattle.plant_book.proofs.Looks.{not_the_last}
use Rattle.plant_book.proofs.Cover.{start_le_now, grant_is_within, standing_granted, floor_le_reserved, standing_le_reserved, cover, IsChain, floor_le_cover, StandsAmong, old_le_cover, standing_le_cover}

-- the milliwatts of the floor's raw percentage are the floor's
floor_by : (found : Option unit.Unit) → option_map_or (λ u. mw u.rating (option_map_or (λ v. v.floor) found 0)) found 0 ≡ option_map_or (λ u. mw u.rating u.floor) found 0
floor_by None = refl
floor_by (Some its) = refl

pub mw_at-floor : (site : SiteRecord) (inverter : ℕ) → mw_at site inverter (floor_raw_at site inverter) ≡ floor_at site inverter
unfolding mw_at floor_raw_at floor_at
mw_at-floor site inverter = floor_by (slice_get site.units inverter)

-- a grant is past, or of a life
record PastOf (past : List writes.Write) (grant : Grant) : Type 0 where
  within : Contains past grant.write
  is_past : grant.life ≡ 0

past_of : (place : ℕ) (past : List writes.Write) (grant : Grant) → Contains (past_grants place past) grant → PastOf past grant
past_of place [] grant within = absurd (omega (arith, within.1))
past_of place (write ∷ past) grant within =
    elim (Contains-append_cases (record { life = 0; place = place; write = write } ∷ []) (past_grants (place + 1) past) grant within) [
      | inl here ↦
          subst (λ (g : Grant). PastOf (write ∷ past) g) (only_element (record { life = 0; place = place; write = write }) grant here)
          (record { within = Contains-append_left (write ∷ []) past write (Contains-push [] write); is_past = refl })
      | inr later ↦ let rest = past_of (place + 1) past grant later in record { within = Contains-append_right (write ∷ []) past grant.write rest.within; is_past = rest.is_past }
    ]

-- what became of a grant of one of the lives: it stands there, or an answered read freed it
record LivesFate (site : SiteRecord) (at inverter : ℕ) (write : writes.Write) (its : write.inverter ≡ inverter) (current : at ≤ write.at + reach site.rules) (life : ℕ) (first : ℕ) (books : List BookRecord) : Type 0 where
  from : first ≤ life
  is : StandsAmong site at inverter write its current books ⊎ FreedBy site.rules life write (lives_sights first books)

module _ (site : SiteRecord) (at inverter : ℕ) (grant : Grant) (its : grant.write.inverter ≡ inverter) (current : at ≤ grant.write.at + reach site.rules) where
  lives_fate : (life : ℕ) (books : List BookRecord) → Contains (lives_grants life books) grant → LivesFate site at inverter grant.write its current grant.life life books
  lives_fate life [] within = absurd (omega (arith, within.1))
  lives_fate life (book ∷ books) within =
      let here = life_sights life 0 [] book.entries in
      let rest = lives_sights (life + 1) books in
      elim (Contains-append_cases (life_grants life 0 book.entries) (lives_grants (life + 1) books) grant within) [
        | inl mine ↦
            let fate = life_fate site.rules life 0 [] book.entries grant mine in
            record {
              from = omega (arith, fate.in_life);
              is = elim fate.is [
                | inl stands ↦ inl (inl stands)
                | inr freed ↦ inr (freed_among site.rules grant.life grant.write here (here ++ rest) (λ sight seen. Contains-append_left here rest sight seen)
                    (subst (λ (n : ℕ). FreedBy site.rules n grant.write here) (sym fate.in_life) freed))
              ];
            }
        | inr later ↦
            let fate = lives_fate (life + 1) books later in
            record {
              from = omega (arith, fate.from);
              is = elim fate.is [
                | inl stands ↦ inl (inr stands)
                | inr freed ↦ inr (freed_among site.rules grant.life grant.write rest (here ++ rest) (λ sight seen. Contains-append_right here rest sight seen) freed)
              ];
            }
      ]

-- the lives of a history are a chain
after_life : (n : ℕ) (book : BookRecord) (books : List BookRecord) → n ≤ now_of book → AllByRecursion IsBook (book ∷ books) → InTurn (book ∷ books) → AllByRecursion (λ later. n ≤ later.start) books
after_life n book [] le kept turn = tt
after_life n book (next ∷ books) le kept turn =
    (omega (arith, le, turn.0), after_life n next books (omega (arith, le, turn.0, start_le_now next kept.1.0)) kept.1 turn.1)

turn_rest : (book : BookRecord) (books : List BookRecord) → InTurn (book ∷ books) → InTurn books
turn_rest book [] turn = tt
turn_rest book (next ∷ books) turn = turn.1

all_until : (at : ℕ) (earlier : List BookRecord) (life : BookRecord) → now_of life ≤ at → AllByRecursion IsBook (earlier ++ life ∷ []) → InTurn (earlier ++ life ∷ []) → AllByRecursion (λ book. now_of book ≤ at) (earlier ++ life ∷ [])
all_until at [] life le kept turn = (le, tt)
all_until at (book ∷ []) life le kept turn = (omega (arith, le, turn.0, start_le_now life kept.1.0), (le, tt))
all_until at (book ∷ next ∷ earlier) life le kept turn =
    let rest = all_until at (next ∷ earlier) life le kept.1 turn.1 in
    (omega (arith, turn.0, start_le_now next kept.1.0, rest.0), rest)

chain_of : (site : SiteRecord) (at : ℕ) (books : List BookRecord) → AllByRecursion IsBook books → AllByRecursion (λ book. book.site ≡ site) books → InTurn books → AllByRecursion (λ book. now_of book ≤ at) books → IsChain site at books
chain_of site at [] kept one_site turn until = tt
chain_of site at (book ∷ books) kept one_site turn until =
    (record { kept = kept.0; of_site = one_site.0; until = until.0 }, after_life (now_of book) book books (omega arith) kept turn, chain_of site at books kept.1 one_site.1 (turn_rest book books turn) until.1)

pub chain_of_history : (history : History) (at : ℕ) → IsHistory history → now_of history.life ≤ at → IsChain history.life.site at (lives history)
chain_of_history history at is from =
    chain_of history.life.site at (lives history) is.books is.one_site is.in_turn (all_until at history.earlier history.life from is.books is.in_turn)

-- what the past and the floors come to
abbrev pub past_cover : History → ℕ → ℕ
past_cover history inverter = covering history.life.site inverter (filter (λ write. eqb write.inverter inverter) history.past)

all_starts : (n : ℕ) (books : List BookRecord) (otherwise : ℕ) → n ≤ first_start books otherwise → AllByRecursion IsBook books → InTurn books → AllByRecursion (λ later. n ≤ later.start) books
all_starts n [] otherwise le kept turn = tt
all_starts n (book ∷ books) otherwise le kept turn = (le, after_life n book books (omega (arith, le, start_le_now book kept.0)) kept turn)

all_has : {X : Type 0} (P : X → Type 0) (xs : List X) (x : X) → AllByRecursion P xs → Contains xs x → P x
all_has P [] x all within = absurd (omega (arith, within.1))
all_has P (y ∷ xs) x all within = elim (Contains-append_cases (y ∷ []) xs x within) [ inl here ↦ subst P (only_element y x here) all.0 | inr later ↦ all_has P xs x all.1 later ]

-- What an inverter holds is under a bound that is no lower than its floor, where each of its writes that may still act
-- is: those of the past, and those that stand in one of the lives.
module _ (history : History) (is : IsHistory history) (inverter at : ℕ) (from : now_of history.life ≤ at) (most : ℕ) (floor : floor_at history.life.site inverter ≤ most)
    (past : (write : writes.Write) → Contains history.past write → write.inverter ≡ inverter → at ≤ write.at + reach history.life.site.rules → mw_at history.life.site inverter write.raw ≤ most)
    (lived : (write : writes.Write) (its : write.inverter ≡ inverter) (current : at ≤ write.at + reach history.life.site.rules)
    → StandsAmong history.life.site at inverter write its current (lives history) → mw_at history.life.site inverter write.raw ≤ most) where
  module _ (events first rest : List Timed) (device : IsBehaviour history inverter events) (cut : IsCut events at first rest) where
    -- what ends an Act comes after the cut
    ends_later : (acted : ℕ) (next : Option Timed) → find is_change rest ≡ next → IsSomeAnd next (λ t. t.at ≤ acted + tmax history.life.site.rules) → at ≤ acted + tmax history.life.site.rules
    ends_later acted None none ends = absurd ends
    ends_later acted (Some next) one ends = omega (arith, ends, found_has (λ (t : Timed). at ≤ t.at) is_change rest next cut.later one)

    -- the read that frees a write of the inverter is one of the inverter
    freed_not_held : (grant : Grant) (before after : List Timed) (acted : ℕ) → grant.write.inverter ≡ inverter → 1 ≤ grant.life → FreedBy history.life.site.rules grant.life grant.write (sights history)
        → first ≡ before ++ record { at = acted; event = Act grant } ∷ after → find is_change after ≡ None → ⊥
    freed_not_held grant before after acted its a_life freed stand none =
        let parts = and_parts (eqb grant.write.inverter freed.sight.read.inverter) _ freed.settled in
        let of_inverter : freed.sight.read.inverter ≡ inverter = sym (eqb-true grant.write.inverter freed.sight.read.inverter parts.0) ∙ its in
        not_the_last history inverter at events first rest device cut grant freed.sight freed.within of_inverter freed.in_life a_life freed.settled freed.other before after acted stand none

    -- the last Act before the cut was of a write that is under the bound
    act_is_under : (before after : List Timed) (acted : ℕ) (grant : Grant) → first ≡ before ++ record { at = acted; event = Act grant } ∷ after → find is_change after ≡ None
        → mw_at history.life.site inverter grant.write.raw ≤ most
    unfolding reach
    act_is_under before after acted grant stand none =
        let all : events ≡ before ++ record { at = acted; event = Act grant } ∷ (after ++ rest) = cut.parts ∙ ap (λ (ts : List Timed). ts ++ rest) stand ∙ append_assoc before (record { at = acted; event = Act grant } ∷ after) rest in
        let may = device.acts before (after ++ rest) acted grant all in
        let next : find is_change (after ++ rest) ≡ find is_change rest = find-append is_change after rest ∙ ap (λ (o : Option Timed). option_or o (find is_change rest)) none in
        let ends = subst (λ (o : Option Timed). IsSomeAnd o (λ t. t.at ≤ acted + tmax history.life.site.rules)) next (device.ends before (after ++ rest) acted grant all) in
        let current : at ≤ grant.write.at + reach history.life.site.rules = omega (arith, ends_later acted (find is_change rest) refl ends, may.2, may.3) in
        elim (Contains-append_cases (past_grants 0 history.past) (lives_grants 1 (lives history)) grant may.0) [
          | inl within ↦ past grant.write (past_of 0 history.past grant within).within may.1 current
          | inr living ↦
              let fate = lives_fate history.life.site at inverter grant may.1 current 1 (lives history) living in
              elim fate.is [
                | inl stands ↦ lived grant.write may.1 current stands
                | inr freed ↦ absurd (freed_not_held grant before after acted may.1 fate.from freed stand none)
              ]
        ]

    floor_raw_is_under : mw_at history.life.site inverter (floor_raw_at history.life.site inverter) ≤ most
    floor_raw_is_under = subst (λ (n : ℕ). n ≤ most) (sym (mw_at-floor history.life.site inverter)) floor

    held_by_event : (last : Timed) (event : Event) → last.event ≡ event → last_that is_change first ≡ Some last → mw_at history.life.site inverter (held_after (floor_raw_at history.life.site inverter) event) ≤ most
    held_by_event last (Act grant) acts found =
        let stands = last_that-stands is_change first last found in
        act_is_under stands.before stands.after last.at grant
        (stands.stand ∙ ap (λ (e : Event). stands.before ++ record { at = last.at; event = e } ∷ stands.after) acts) stands.none_after
    held_by_event last Revert reverts found = floor_raw_is_under
    held_by_event last (Look sight) looks found = floor_raw_is_under

    held_by_last : (last : Option Timed) → last_that is_change first ≡ last → mw_at history.life.site inverter (held_by (floor_raw_at history.life.site inverter) last) ≤ most
    held_by_last None none = floor_raw_is_under
    held_by_last (Some last) one = held_by_event last last.event refl one

    -- what is held is at most the bound
    pub held_is_under : held_mw history.life.site inverter first ≤ most
    unfolding held
    held_is_under = held_by_last (last_that is_change first) refl

-- the cover is such a bound
module _ (history : History) (is : IsHistory history) (inverter at : ℕ) (from : now_of history.life ≤ at) where
  chain : IsChain history.life.site at (lives history)
  chain = chain_of_history history at is from

  pub floor_le_past : floor_at history.life.site inverter ≤ past_cover history inverter
  unfolding covering
  floor_le_past = fold_max_from (λ (w : writes.Write). mw_at history.life.site inverter w.raw) (floor_at history.life.site inverter) (filter (λ write. eqb write.inverter inverter) history.past)

  abbrev covers : ℕ
  covers = cover (past_cover history) (lives history) inverter

  floor_is_covered : floor_at history.life.site inverter ≤ covers
  floor_is_covered = floor_le_cover history.life.site at inverter (lives history) (past_cover history) chain floor_le_past

  past_is_covered : (write : writes.Write) → Contains history.past write → write.inverter ≡ inverter → at ≤ write.at + reach history.life.site.rules → mw_at history.life.site inverter write.raw ≤ covers
  unfolding covering
  past_is_covered write within its current =
      old_le_cover history.life.site at inverter write its current (lives history) (past_cover history) chain
      (all_starts write.at (lives history) history.life.start (all_has (λ w. w.at ≤ first_start (lives history) history.life.start) history.past write is.before within) is.books is.in_turn)
      (le_fold_max (λ (w : writes.Write). mw_at history.life.site inverter w.raw) (λ (w : writes.Write). eqb w.inverter inverter) (floor_at history.life.site inverter) history.past write within (eq-eqb write.inverter inverter its))

-- what is held is at most the cover
pub held_is_covered : (history : History) (is : IsHistory history) (inverter at : ℕ) (from : now_of history.life ≤ at) (events first rest : List Timed) → IsBehaviour history inverter events → IsCut events at first rest
    → held_mw history.life.site inverter first ≤ cover (past_cover history) (lives history) inverter
held_is_covered history is inverter at from events first rest device cut =
    held_is_under history is inverter at from (cover (past_cover history) (lives history) inverter) (floor_is_covered history is inverter at from) (past_is_covered history is inverter at from)
    (λ write its current stands. standing_le_cover history.life.site at inverter write its current (lives history) (past_cover history) (chain_of_history history at is from) stands)
    events first rest device cut

all_last : {X : Type 0} (P : X → Type 0) (xs : List X) (x : X) → AllByRecursion P (xs ++ x ∷ []) → P x
all_last P [] x all = all.0
all_last P (y ∷ xs) x all = all_last P xs x all.1

-- a write later than the start of the last life stands there, where it stands at all
stands_last : (site : SiteRecord) (at inverter : ℕ) (write : writes.Write) (its : write.inverter ≡ inverter) (current : at ≤ write.at + reach site.rules) (earlier : List BookRecord) (life : BookRecord)
    → IsChain site at (earlier ++ life ∷ []) → life.start < write.at → StandsAmong site at inverter write its current (earlier ++ life ∷ []) → Contains (standing site.rules [] life.entries) write
unfolding now_of
stands_last site at inverter write its current [] life chain later stands = elim stands [ inl here ↦ here | inr never ↦ absurd never ]
stands_last site at inverter write its current (book ∷ earlier) life chain later stands =
    elim stands [
      | inl here ↦
          let times = grant_is_within book chain.0.kept write (standing_granted site.rules [] book.entries write here) in
          absurd (omega (arith, times.until, all_last (λ (b : BookRecord). now_of book ≤ b.start) earlier life chain.1, later))
      | inr rest ↦ stands_last site at inverter write its current earlier life chain.2 later rest
    ]

-- the first life does not begin behind the last
first_before_last : (earlier : List BookRecord) (life : BookRecord) (otherwise n : ℕ) → n ≤ first_start (earlier ++ life ∷ []) otherwise → AllByRecursion IsBook (earlier ++ life ∷ []) → InTurn (earlier ++ life ∷ []) → n ≤ life.start
first_before_last earlier life otherwise n le kept turn = all_last (λ (b : BookRecord). n ≤ b.start) earlier life (all_starts n (earlier ++ life ∷ []) otherwise le kept turn)

module _ (history : History) (is : IsHistory history) (inverter at : ℕ) (from : now_of history.life ≤ at) (events first rest : List Timed) (device : IsBehaviour history inverter events) (cut : IsCut events at first rest) where
  abbrev site : SiteRecord
  site = history.life.site

  stands_reserved : (write : writes.Write) → write.inverter ≡ inverter → at ≤ write.at + reach site.rules → Contains (standing site.rules [] history.life.entries) write → mw_at site inverter write.raw ≤ reserved history.life inverter
  stands_reserved write its current stands = standing_le_reserved history.life (now_of history.life) inverter write stands its (omega (arith, from, current))

  -- behind the silence of the last life what is held is reserved there
  pub held_behind_silence : silent_until history.life < now_of history.life → held_mw site inverter first ≤ reserved history.life inverter
  held_behind_silence loud =
      held_is_under history is inverter at from (reserved history.life inverter) (floor_le_reserved history.life (now_of history.life) inverter)
      (λ write within its current.
      let early : write.at ≤ history.life.start =
      first_before_last history.earlier history.life history.life.start write.at (all_has (λ (w : writes.Write). w.at ≤ first_start (lives history) history.life.start) history.past write is.before within) is.books is.in_turn in
      absurd (omega (arith, early, loud, from, current)))
      (λ write its current stands. stands_reserved write its current
      (stands_last site at inverter write its current history.earlier history.life (chain_of_history history at is from) (omega (arith, loud, from, current)) stands))
      events first rest device cut

  -- and so it is in the first life of a plant that began at its floors
  pub held_in_one_life : history.past ≡ [] → history.earlier ≡ [] → held_mw site inverter first ≤ reserved history.life inverter
  held_in_one_life none alone =
      held_is_under history is inverter at from (reserved history.life inverter) (floor_le_reserved history.life (now_of history.life) inverter)
      (λ write within its current. let never = subst (λ (ws : List writes.Write). Contains ws write) none within in absurd (omega (arith, never.1)))
      (λ write its current stands. stands_reserved write its current (here write its current (subst (λ (bs : List BookRecord). StandsAmong site at inverter write its current (bs ++ history.life ∷ [])) alone stands)))
      events first rest device cut
    where
      here : (write : writes.Write) (its : write.inverter ≡ inverter) (current : at ≤ write.at + reach site.rules) → StandsAmong site at inverter write its current (history.life ∷ []) → Contains (standing site.rules [] history.life.entries) write
      here write its current stands = elim stands [ inl one ↦ one | inr never ↦ absurd never ]

-- what is held in a history that ends with this book is covered by what is reserved
pub covers_held : (book : BookRecord) → CoversHeld book
covers_held book history is ends when inverter events first rest at device from cut =
    elim when [
      | inl loud ↦ held_behind_silence history is inverter at from events first rest device cut (subst (λ (b : BookRecord). silent_until b < now_of b) (sym ends) loud)
      | inr one ↦ held_in_one_life history is inverter at from events first rest device cut one.0 one.1
    ]
