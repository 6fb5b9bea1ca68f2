-- What each thing that happens to a simulated plant makes of what its inverters did so far.
use Rattle.std.proofs.Common.{◌≡◌, ℕ, zero, suc, ◌+◌, ◌≤◌, max, Bool, true, false, cond, List, [], ◌∷◌, ◌++◌, length, map, Some, None, refl, sym, ap, subst, ◌∙◌, arith, inl, inr, ◌⊎◌}
use Rattle.std.specs.Prelude.{slice_get, Contains}
use Rattle.plant_book.specs.declared.call.Call.TheVariants as calls
use Rattle.plant_book.specs.declared.book.Entry.{Entry}
use Rattle.plant_book.specs.Sums.{last_that}
use Rattle.plant_book.specs.Book.{BookRecord}
use Rattle.plant_book.specs.Calls.{moment, latest}
use Rattle.plant_book.specs.Caps.{sets_cap}
use Rattle.plant_book.specs.Requests.{is_link, link_number}
use Rattle.plant_book.specs.Reserved.{now_of}
use Rattle.plant_book.specs.Answer.{reply_to}
use Rattle.plant_book.specs.Answered.{with_entries}
use Rattle.plant_book.specs.History.{Sight, sight_by}
use Rattle.plant_book.proofs.Steps.{latest-push}
use Rattle.plant_book.proofs.CapInForce.{last_set-same}
use Rattle.plant_simulator.specs.Words.{draw}
use Rattle.plant_simulator.specs.World.{InverterRecord, World}
use Rattle.plant_simulator.specs.Inverter.{inverter_at, queued, changed_at}
use Rattle.plant_simulator.specs.Call.{entry_in, with_entry, called}
use Rattle.plant_simulator.specs.Step.{drawn, changed, passed, asked_for, asked, read_back, wished}
use Rattle.plant_simulator.proofs.Longer.{number_of, KeepsAll}
use Rattle.plant_simulator.proofs.Follows.{Follows, IsTimedSite, same_link, follows_at, follows_other}
use Rattle.plant_simulator.proofs.Calling.{follows_asked, follows_read}

-- an inverter of a changed list is the changed one, or one that was there
pub record IsChanged (xs : List InverterRecord) (number : ℕ) (change : InverterRecord → InverterRecord) (i : ℕ) (new : InverterRecord) : Type 0 where
  pub its : InverterRecord
  pub was : slice_get xs i ≡ Some its
  pub is : ((i ≡ number) × (new ≡ change its)) ⊎ ((i ≡ number → ⊥) × (new ≡ its))

one_is : (x y : InverterRecord) → Some x ≡ Some y → x ≡ y
one_is x y is = cc

changed_more : (x : InverterRecord) (xs : List InverterRecord) (number : ℕ) (change : InverterRecord → InverterRecord) (i : ℕ) (new : InverterRecord) → IsChanged xs number change i new → IsChanged (x ∷ xs) (suc number) change (suc i) new
changed_more x xs number change i new place = record {
  its = place.its;
  was = place.was;
  is = elim place.is [
    | inl own ↦ inl ((omega (arith, own.0)), own.1)
    | inr other ↦ inr ((λ same. other.0 (omega (arith, same))), other.1)
  ];
}

pub is_changed : (xs : List InverterRecord) (number : ℕ) (change : InverterRecord → InverterRecord) (i : ℕ) (new : InverterRecord) → slice_get (changed_at number change xs) i ≡ Some new → IsChanged xs number change i new
is_changed [] number change i new found = absurd cc
is_changed (x ∷ xs) zero change zero new found = record { its = x; was = refl; is = inl (refl, sym (one_is (change x) new found)) }
is_changed (x ∷ xs) zero change (suc i) new found = record { its = new; was = found; is = inr ((λ same. omega (arith, same)), refl) }
is_changed (x ∷ xs) (suc number) change zero new found = record { its = x; was = refl; is = inr ((λ same. omega (arith, same)), sym (one_is x new found)) }
is_changed (x ∷ xs) (suc number) change (suc i) new found = changed_more x xs number change i new (is_changed xs number change i new found)

pub record IsMapped (xs : List InverterRecord) (change : InverterRecord → InverterRecord) (i : ℕ) (new : InverterRecord) : Type 0 where
  pub its : InverterRecord
  pub was : slice_get xs i ≡ Some its
  pub is : new ≡ change its

pub is_mapped : (xs : List InverterRecord) (change : InverterRecord → InverterRecord) (i : ℕ) (new : InverterRecord) → slice_get (map change xs) i ≡ Some new → IsMapped xs change i new
is_mapped [] change i new found = absurd cc
is_mapped (x ∷ xs) change zero new found = record { its = x; was = refl; is = sym (one_is (change x) new found) }
is_mapped (x ∷ xs) change (suc i) new found = let rest = is_mapped xs change i new found in record { its = rest.its; was = rest.was; is = rest.is }

pub changed_twice : (number : ℕ) (one two : InverterRecord → InverterRecord) (xs : List InverterRecord) → changed_at number two (changed_at number one xs) ≡ changed_at number (λ its. two (one its)) xs
changed_twice number one two [] = refl
changed_twice zero one two (x ∷ xs) = refl
changed_twice (suc number) one two (x ∷ xs) = ap (λ (ys : List InverterRecord). x ∷ ys) (changed_twice number one two xs)

-- an inverter at a moment, behind these lives and this book
pub record IsAt (earlier : List BookRecord) (book : BookRecord) (i now : ℕ) (its : InverterRecord) : Type 0 where
  pub timed : IsTimedSite book.site i
  pub follows : Follows earlier book i now (link_number i book.entries) its

-- each inverter of a plant
pub record Each (earlier : List BookRecord) (world : World) : Type 0 where
  pub life : world.life ≡ number_of earlier
  pub time : now_of world.book ≤ world.moment
  pub plain : last_that sets_cap world.book.entries ≡ None
  pub each : (i : ℕ) (its : InverterRecord) → slice_get world.inverters i ≡ Some its → IsAt earlier world.book i world.moment its

pub each_drawn : (earlier : List BookRecord) (n : ℕ) (world : World) → Each earlier world → Each earlier (drawn n world)
each_drawn earlier n world is = record { life = is.life; time = is.time; plain = is.plain; each = is.each }

-- time passes
pub each_passed : (earlier : List BookRecord) (world : World) → Each earlier world → Each earlier (passed world)
unfolding passed
each_passed earlier world is =
    let now = world.moment + draw 0 2000 world.words in
    record {
      life = is.life;
      time = omega (arith, is.time);
      plain = is.plain;
      each = λ i new found.
          let place = is_mapped world.inverters (inverter_at now) i new found in
          let at = is.each i place.its place.was in
          record {
            timed = at.timed;
            follows = subst (λ (its : InverterRecord). Follows earlier world.book i now (link_number i world.book.entries) its) (sym place.is)
                (follows_at earlier world.book i world.moment now (link_number i world.book.entries) at.timed (omega arith) place.its at.follows);
          };
    }

module _ (earlier : List BookRecord) (world : World) (is : Each earlier world) where
  -- one inverter changes
  pub each_changed : (number : ℕ) (change : InverterRecord → InverterRecord)
      → ((its : InverterRecord) → slice_get world.inverters number ≡ Some its → IsAt earlier world.book number world.moment its → Follows earlier world.book number world.moment (link_number number world.book.entries) (change its))
      → Each earlier (changed number change world)
  each_changed number change own = record {
    life = is.life;
    time = is.time;
    plain = is.plain;
    each = λ i new found.
        let place = is_changed world.inverters number change i new found in
        let at = is.each i place.its place.was in
        elim place.is [
          | inl mine ↦ record {
            timed = at.timed;
            follows = subst (λ (its : InverterRecord). Follows earlier world.book i world.moment (link_number i world.book.entries) its) (sym mine.1)
                (subst (λ (k : ℕ). Follows earlier world.book k world.moment (link_number k world.book.entries) (change place.its)) (sym mine.0)
                (own place.its (subst (λ (k : ℕ). slice_get world.inverters k ≡ Some place.its) mine.0 place.was) (subst (λ (k : ℕ). IsAt earlier world.book k world.moment place.its) mine.0 at)));
          }
          | inr other ↦ subst (λ (its : InverterRecord). IsAt earlier world.book i world.moment its) (sym other.1) at
        ];
  }

  -- a call is entered
  abbrev pub at : ℕ
  at = max world.moment (latest world.book.start world.book.entries)

  pub at_now : at ≡ world.moment
  unfolding now_of
  at_now = omega (arith, is.time)

  -- an entry of the call
  module _ (entry : Entry) (keeps : KeepsAll entry) (plain : sets_cap entry ≡ false) (right : entry.reply ≡ reply_to world.book entry.call) (now : moment entry.call ≡ world.moment) where
    abbrev pub next_book : BookRecord
    next_book = with_entries world.book (world.book.entries ++ entry ∷ [])

    abbrev pub ShowsOnlyTo : ℕ → Type 0
    ShowsOnlyTo number = (i : ℕ) → (i ≡ number → ⊥) → (sight : Sight) → Contains (sight_by (number_of earlier) (length world.book.entries) world.book.entries entry.call entry.reply) sight → sight.read.inverter ≡ i → ⊥

    pub each_entered : (granted freed : ℕ) (inverters : List InverterRecord) → ((i : ℕ) (its : InverterRecord) → slice_get inverters i ≡ Some its → IsAt earlier next_book i world.moment its)
        → Each earlier (record world { book = next_book; granted = granted; freed = freed; inverters = inverters })
    unfolding now_of
    each_entered granted freed inverters each = record {
      life = is.life;
      time = omega (arith, latest-push world.book.start world.book.entries entry, now);
      plain = last_set-same world.book world.book.entries entry plain ∙ is.plain;
      each = each;
    }

    -- an inverter that the call does not name
    at_other : (i : ℕ) (its : InverterRecord) → is_link i entry ≡ false → ((sight : Sight) → Contains (sight_by (number_of earlier) (length world.book.entries) world.book.entries entry.call entry.reply) sight → sight.read.inverter ≡ i → ⊥)
        → IsAt earlier world.book i world.moment its → IsAt earlier next_book i world.moment its
    at_other i its no_link unseen was = record {
      timed = was.timed;
      follows = subst (λ (bound : ℕ). Follows earlier next_book i world.moment bound its) (sym (same_link i world.book.entries entry no_link))
          (follows_other earlier world.book entry keeps i world.moment (link_number i world.book.entries) right (omega (arith, now)) no_link its was.follows unseen);
    }

    -- no inverter is changed
    pub each_other : ((i : ℕ) → is_link i entry ≡ false) → ((i : ℕ) (sight : Sight) → Contains (sight_by (number_of earlier) (length world.book.entries) world.book.entries entry.call entry.reply) sight → sight.read.inverter ≡ i → ⊥)
        → (i : ℕ) (its : InverterRecord) → slice_get world.inverters i ≡ Some its → IsAt earlier next_book i world.moment its
    each_other no_link unseen i its found = at_other i its (no_link i) (unseen i) (is.each i its found)

    -- one inverter is changed
    pub each_one : (number : ℕ) (change : InverterRecord → InverterRecord) → ((i : ℕ) → (i ≡ number → ⊥) → is_link i entry ≡ false) → ShowsOnlyTo number
        → ((its : InverterRecord) → slice_get world.inverters number ≡ Some its → IsAt earlier world.book number world.moment its → Follows earlier next_book number world.moment (link_number number next_book.entries) (change its))
        → (i : ℕ) (its : InverterRecord) → slice_get (changed_at number change world.inverters) i ≡ Some its → IsAt earlier next_book i world.moment its
    each_one number change no_link unseen own i new found =
        let place = is_changed world.inverters number change i new found in
        let was = is.each i place.its place.was in
        elim place.is [
          | inl mine ↦ record {
            timed = was.timed;
            follows = subst (λ (its : InverterRecord). Follows earlier next_book i world.moment (link_number i next_book.entries) its) (sym mine.1)
                (subst (λ (k : ℕ). Follows earlier next_book k world.moment (link_number k next_book.entries) (change place.its)) (sym mine.0)
                (own place.its (subst (λ (k : ℕ). slice_get world.inverters k ≡ Some place.its) mine.0 place.was) (subst (λ (k : ℕ). IsAt earlier world.book k world.moment place.its) mine.0 was)));
          }
          | inr other ↦ subst (λ (its : InverterRecord). IsAt earlier next_book i world.moment its) (sym other.1) (at_other i place.its (no_link i other.0) (unseen i other.0) was)
        ]

-- A plant behind a thing that happened: its life goes on, or the next one begins.
pub record GoesOnIn (earlier : List BookRecord) (old : BookRecord) (world : World) : Type 0 where
  pub each : Each earlier world
  pub site : world.book.site ≡ old.site
  pub start : world.book.start ≡ old.start

pub record BeginsNext (earlier : List BookRecord) (old : BookRecord) (world : World) : Type 0 where
  pub each : Each (earlier ++ old ∷ []) world
  pub site : world.book.site ≡ old.site
  pub start : now_of old ≤ world.book.start

pub record Leads (earlier : List BookRecord) (old : BookRecord) (world : World) : Type 0 where
  pub is : GoesOnIn earlier old world ⊎ BeginsNext earlier old world

pub leads_if : (earlier : List BookRecord) (old : BookRecord) (b : Bool) (x y : World) → Leads earlier old x → Leads earlier old y → Leads earlier old (cond b x y)
leads_if earlier old true x y one two = one
leads_if earlier old false x y one two = two

abbrev pub goes_on : (earlier : List BookRecord) (old : BookRecord) (world : World) → Each earlier world → world.book.site ≡ old.site → world.book.start ≡ old.start → Leads earlier old world
goes_on earlier old world each site start = record { is = inl (record { each = each; site = site; start = start }) }

abbrev pub none_seen : List Sight
none_seen = []

pub no_sights : (earlier : List BookRecord) (sight : Sight) → Contains none_seen sight → ⊥
no_sights earlier sight within = omega (arith, within.1)

module _ (earlier : List BookRecord) where
  -- an Ask
  pub leads_asked_for : (number raw : ℕ) (world : World) → Each earlier world → Leads earlier world.book (asked_for number raw world)
  unfolding asked_for called with_entry entry_in
  leads_asked_for number raw world is =
      let now = at earlier world is in
      let reply = reply_to world.book (calls.Ask now number raw) in
      let entry : Entry = record { call = calls.Ask now number raw; reply = reply } in
      let each = each_one earlier world is entry (λ write. refl) refl refl (at_now earlier world is) number (queued reply) (λ i other. refl) (λ i other sight within mine. no_sights earlier sight within)
      (λ its found was. subst (λ (bound : ℕ). Follows earlier (next_book earlier world is entry (λ write. refl) refl refl (at_now earlier world is)) number world.moment bound (queued reply its)) (sym (same_link number world.book.entries entry refl))
      (follows_asked earlier world.book number world.moment (link_number number world.book.entries) now (at_now earlier world is) reply its was.follows raw refl)) in
      goes_on earlier world.book (asked_for number raw world) (each_entered earlier world is entry (λ write. refl) refl refl (at_now earlier world is) _ _ (changed_at number (queued reply) world.inverters) each) refl refl

  pub leads_asked : (number : ℕ) (world : World) → Each earlier world → Leads earlier world.book (asked number world)
  unfolding asked
  leads_asked number world is =
      leads_if earlier world.book _ _ _ (leads_asked_for number _ (drawn 1 world) (each_drawn earlier 1 world is)) (leads_asked_for number _ (drawn 2 world) (each_drawn earlier 2 world is))

  -- a Read
  pub leads_read_back : (number : ℕ) (world : World) → Each earlier world → Leads earlier world.book (read_back number world)
  unfolding read_back called with_entry entry_in
  leads_read_back number world is =
      let now = at earlier world is in
      let reply = reply_to world.book (calls.Read now number) in
      let entry : Entry = record { call = calls.Read now number; reply = reply } in
      let each = each_one earlier world is entry (λ write. refl) refl refl (at_now earlier world is) number (queued reply) (λ i other. refl) (λ i other sight within mine. no_sights earlier sight within)
      (λ its found was. subst (λ (bound : ℕ). Follows earlier (next_book earlier world is entry (λ write. refl) refl refl (at_now earlier world is)) number world.moment bound (queued reply its)) (sym (same_link number world.book.entries entry refl))
      (follows_read earlier world.book number world.moment (link_number number world.book.entries) now (at_now earlier world is) reply its was.follows refl)) in
      goes_on earlier world.book (read_back number world) (each_entered earlier world is entry (λ write. refl) refl refl (at_now earlier world is) _ _ (changed_at number (queued reply) world.inverters) each) refl refl

  -- a wish, and a Tick
  pub leads_wished : (number : ℕ) (world : World) → Each earlier world → Leads earlier world.book (wished number world)
  unfolding wished called with_entry entry_in
  leads_wished number world is =
      let some = each_drawn earlier 1 world is in
      let now = at earlier (drawn 1 world) some in
      let call = calls.Want now number (draw 0 6000001 world.words) in
      let entry : Entry = record { call = call; reply = reply_to world.book call } in
      let each = each_other earlier (drawn 1 world) some entry (λ write. refl) refl refl (at_now earlier (drawn 1 world) some) (λ i. refl) (λ i sight within mine. no_sights earlier sight within) in
      goes_on earlier world.book (wished number world) (each_entered earlier (drawn 1 world) some entry (λ write. refl) refl refl (at_now earlier (drawn 1 world) some) _ _ world.inverters each) refl refl

  pub leads_tick : (world : World) → Each earlier world → Leads earlier world.book (called (calls.Tick world.moment) world)
  unfolding called with_entry entry_in
  leads_tick world is =
      let now = at earlier world is in
      let entry : Entry = record { call = calls.Tick now; reply = reply_to world.book (calls.Tick now) } in
      let each = each_other earlier world is entry (λ write. refl) refl refl (at_now earlier world is) (λ i. refl) (λ i sight within mine. no_sights earlier sight within) in
      goes_on earlier world.book (called (calls.Tick world.moment) world) (each_entered earlier world is entry (λ write. refl) refl refl (at_now earlier world is) _ _ world.inverters each) refl refl
