-- What a call through a pass does to what the desk of that pass means.
use Rattle.std.proofs.Common.{◌≡◌, ℕ, ◌+◌, ◌<◌, ◌≤◌, max, List, [], ◌∷◌, ◌++◌, length, map, Result, Ok, Err, sym, ap, subst, ◌∙◌, inl, inr, ⊎_elim, append_assoc, length-append, length-drop, arith}
use Rattle.std.specs.Prelude.{All, IfOk, IfErr, OnErr}
use Rattle.std.proofs.lemmas.List.{map-append, length-map, take_all, length_push}
use Rattle.std.proofs.lemmas.List.Elements.{All-take, All-weaker, Contains-push}
use Rattle.plant_book.specs.declared.book.Entry.{Entry}
use Rattle.plant_book.specs.declared.call.Call.{Call}
use Rattle.plant_book.specs.declared.call.Call.TheVariants as calls
use Rattle.plant_book.specs.declared.call.TheConstants.{MOMENT_MAX}
use Rattle.plant_book.specs.declared.call.Reply.{Reply}
use Rattle.plant_book.specs.Site.{SiteRecord, inverters}
use Rattle.plant_book.specs.Book.{BookRecord}
use Rattle.plant_book.specs.Calls.{moment, at_moment}
use Rattle.plant_book.specs.Calls as parts
use Rattle.plant_book.specs.Answer.{reply_to}
use Rattle.plant_book.specs.Answered.{with_entries}
use Rattle.plant_book.specs.Part.{PartRecord, begin_of, last_moment_of, book_behind}
use Rattle.plant_book.specs.Carry.{IsBehind}
use Rattle.plant_book.specs.Life.{Life, entries_of}
use Rattle.plant_book.proofs.Lives.{life_is_behind}
use Rattle.plant_ledger.specs.declared.plant.Goal.{Goal}
use Rattle.plant_ledger.specs.declared.plant.BookFull.{BookFull}
use Rattle.plant_ledger.specs.declared.rolling.RollFault.{RollFault}
use Rattle.plant_ledger.specs.declared.rolling.RollFault.TheVariants.{LifeFull, NoMemory}
use Rattle.plant_ledger.proofs.Lives.{entered-same, part_next}
use Rattle.ledger_desk.specs.Calls.{IsReplyTo}
use Rattle.ledger_desk.specs.Desk as means
use Rattle.ledger_desk.specs.Desk.{EntersNone, AddsRoll}
use Rattle.ledger_desk.specs.Plain.{IsGoalOf}
use Rattle.ledger_desk.proofs.Replies.{replies_fit}
use Rattle.plant_desk.specs.declared.deed.Deed.{Deed}
use Rattle.plant_desk.specs.declared.deed.Deed.TheVariants as deeds
use Rattle.plant_desk.specs.Deeds.{first_life, life_of, joined, base, Placed, rolls_by}
use Rattle.plant_desk.specs.Passes.{PassRecord, seen_book, first_place, entries, rolls, Finds, Looks, FindsFull, Enters, RollsOver, IsFull, RefusesRoll}
use Rattle.plant_desk.specs.DeskOf.{front, state_of, MayTell, WasFull, Ended, WasFullLife}
use Rattle.plant_desk.proofs.Lives.{front-rolled}
use Rattle.plant_desk.proofs.Passes.{calls_in, front-calls_in, rolls_by-same, site-after}
use Rattle.plant_desk.proofs.Later.{IsLater, front_lasts, places-below}

abbrev entry_at : Placed → Entry
entry_at placed = placed.entry

site_later : (old new : PassRecord) → IsLater old new → inverters new.desk.book.site ≡ inverters old.desk.book.site
site_later old new later = ap (λ (p : PassRecord). inverters p.desk.book.site) later.seen

-- the site of an answered life has few inverters
few_later : (old new : PassRecord) (between : List Deed) → Finds old between → IsLater old new → inverters new.desk.book.site ≤ 64
few_later old new between finds later =
    let of_site = site-after (first_life old.desk.book) (old.seen ++ between) in
    let few : inverters old.desk.book.site ≤ 64 = subst (λ (site : SiteRecord). inverters site ≤ 64) of_site finds.answered.book.openable.few in
    subst (λ (n : ℕ). n ≤ 64) (sym (site_later old new later)) few

pub looks_few : (old new : PassRecord) → Looks old new → inverters new.desk.book.site ≤ 64
looks_few old new looks = few_later old new looks.between looks.finds (record { more = looks.between; seen = looks.seen })

-- a look means nothing
pub looks_later : (old new : PassRecord) → Looks old new → IsLater old new
looks_later old new looks = record { more = looks.between; seen = looks.seen }

pub looks_none : (old new : PassRecord) → Looks old new → EntersNone (state_of old) (state_of new)
looks_none old new looks =
    let later = looks_later old new looks in
    record { made = ap (map entry_at) looks.entries; front = front_lasts old new later; inverters = site_later old new later; rolls = looks.rolls }

-- the goal of all that the pass has seen
pub tells : (pass : PassRecord) (inverter : ℕ) (goal : Goal) → IsGoalOf (seen_book pass) inverter goal
    → MayTell pass (length (state_of pass).made) (front pass) inverter goal
tells pass inverter goal is =
    let book = seen_book pass in
    let count = length-map (entries pass) entry_at in
    let grown = front-calls_in pass.desk.book pass.seen in
    let Held : Placed → Type 0 = λ p. p.place < front pass in
    let below : All Held (entries pass) = All-weaker (λ (p : Placed). p.place < first_place pass.desk + calls_in pass.seen) Held (λ p lt. omega (arith, grown, lt)) (entries pass)
    (places-below pass.number (first_place pass.desk) pass.seen) in
    record {
      counted = omega (arith, count);
      begun = omega (arith, grown);
      within = omega arith;
      held = All-take Held (length (map entry_at (entries pass))) (entries pass) below;
      none_later = λ k d lt. absurd (omega (arith, lt, count, length-drop (length (map entry_at (entries pass))) (entries pass)));
      told = subst (λ (b : BookRecord). IsGoalOf b inverter goal) (sym (ap (with_entries book) (take_all (front pass) book.entries (omega arith)))) is;
    }

-- a full book
pub finds_full : (old : PassRecord) (count : ℕ) (new : PassRecord) → FindsFull old count new → WasFull new
finds_full old count new full =
    let life = life_of new.desk.book new.seen in
    let same : new.desk.book ≡ old.desk.book = ap (λ (p : PassRecord). p.desk.book) full.looks.seen in
    let here : front new ≡ base new.desk.book new.seen + count = subst (λ (b : PartRecord). length (joined b new.seen).entries ≡ base b new.seen + count) (sym same) full.full in
    record {
      book = life.last;
      there = Contains-push life.ended life.last;
      full = omega (arith, here, full.room, ap (λ (b : PartRecord). b.site.room) same, length-append (entries_of life.ended) life.last.entries);
    }

-- its calls are its room
finds_room : (old : PassRecord) (count : ℕ) (new : PassRecord) → FindsFull old count new → count ≡ new.desk.book.site.room
finds_room old count new full = full.room ∙ sym (ap (λ (p : PassRecord). p.desk.book.site.room) full.looks.seen)

-- a call that was entered
module _ (old : PassRecord) (call : Call) (reply : Reply) (new : PassRecord) (is : Enters old call reply new) where
  pub enters_later : IsLater old new
  enters_later = record { more = is.between ++ deeds.Entered old.number is.entry ∷ []; seen = is.seen }

  abbrev life : Life
  life = life_of old.desk.book (old.seen ++ is.between)

  behind : IsBehind (entries_of life.ended) life.last
  behind = life_is_behind life is.finds.answered

  fits : IsReplyTo (parts.entered (begin_of life.last) life.last.entries call) reply
  fits =
      let whole = book_behind (entries_of life.ended) life.last in
      let of_life = replies_fit whole (parts.entered whole.start whole.entries call) in
      let of_part = subst (λ (moved : Call). IsReplyTo moved (reply_to whole (parts.entered whole.start whole.entries call))) (sym (entered-same life.last (entries_of life.ended) call behind)) of_life in
      subst (λ (r : Reply). IsReplyTo (parts.entered (begin_of life.last) life.last.entries call) r) (sym is.right) of_part

  pub enters_one : moment call ≤ MOMENT_MAX → means.Enters call reply (state_of old) (state_of new)
  enters_one high =
      let place = front (record old { seen = old.seen ++ is.between }) in
      record {
        at = max (moment call) (last_moment_of life.last);
        later = omega arith;
        high = (part_next life.last (entries_of life.ended) (calls.Tick (moment call)) behind high tt tt).moment_high;
        made = ap (map entry_at) is.entries ∙ map-append entry_at (entries old) (record { place = place; entry = is.entry } ∷ [])
            ∙ ap (λ (e : Entry). map entry_at (entries old) ++ e ∷ []) is.entered;
        fits = fits;
        front = front_lasts old new enters_later;
        inverters = site_later old new enters_later;
        rolls = is.rolls;
      }

-- What a call or a release leaves, by what the shared desk answered.
module _ {Answer : Type 0} (reply : Answer → Reply) (call : Call) (result : Result Answer BookFull) (new : PassRecord) where
  -- what the shared desk promises of it, and what the desk of the pass does
  pub record Applied (old : PassRecord) : Type 0 where
    pub entered : IfOk result (λ answer. Enters old call (reply answer) new)
    pub full : IfErr result (λ full. FindsFull old full.calls new)

  pub record Called (old : PassRecord) : Type 0 where
    pub entered : IfOk result (λ answer. means.Enters call (reply answer) (state_of old) (state_of new))
    pub none : OnErr result (EntersNone (state_of old) (state_of new))
    pub full : OnErr result (WasFull new)
    pub room : IfErr result (λ full. full.calls ≡ new.desk.book.site.room)
    pub few : inverters new.desk.book.site ≤ 64
    pub later : IsLater old new

pub called : {Answer : Type 0} (reply : Answer → Reply) (call : Call) (result : Result Answer BookFull) (new old : PassRecord) → moment call ≤ MOMENT_MAX
    → Applied reply call result new old → Called reply call result new old
called reply call (Ok answer) new old high is = record {
  entered = enters_one old call (reply answer) new is.entered high;
  none = tt;
  full = tt;
  room = tt;
  few = few_later old new is.entered.between is.entered.finds (enters_later old call (reply answer) new is.entered);
  later = enters_later old call (reply answer) new is.entered;
}
called reply call (Err fault) new old high is = record {
  entered = tt;
  none = looks_none old new is.full.looks;
  full = finds_full old fault.calls new is.full;
  room = finds_room old fault.calls new is.full;
  few = looks_few old new is.full.looks;
  later = looks_later old new is.full.looks;
}

-- a roll
module _ (old : PassRecord) (book : PartRecord) (new : PassRecord) (is : RollsOver old book new) where
  pub over_later : IsLater old new
  over_later = record { more = is.between ++ deeds.Rolled old.number ∷ []; seen = is.seen }

  abbrev found : List Deed
  found = old.seen ++ is.between

  same_desk : new.desk.book ≡ old.desk.book
  same_desk = ap (λ (p : PassRecord). p.desk.book) is.seen

  all_seen : new.seen ≡ found ++ deeds.Rolled old.number ∷ []
  all_seen = ap (λ (p : PassRecord). p.seen) is.seen ∙ sym (append_assoc old.seen is.between (deeds.Rolled old.number ∷ []))

  pub over_adds : AddsRoll (state_of old) (state_of new)
  over_adds =
      let at_front : front new ≡ length (joined old.desk.book found).entries =
      ap (λ (b : PartRecord). length (joined b new.seen).entries) same_desk ∙ ap (λ (ds : List Deed). length (joined old.desk.book ds).entries) all_seen ∙ front-rolled old.desk.book found old.number in
      record {
        made = ap (map entry_at) is.entries;
        front = front_lasts old new over_later;
        inverters = site_later old new over_later;
        rolls = is.rolls ∙ ap (λ (place : ℕ). rolls old ++ place ∷ []) (sym at_front);
      }

  pub over_ended : Ended new (length (rolls new)) book
  over_ended =
      let own : new.number ≡ old.number = ap (λ (p : PassRecord). p.number) is.seen in
      let desk : new.desk ≡ old.desk = ap (λ (p : PassRecord). p.desk) is.seen in
      let before : rolls_by new.number (first_place new.desk) found ≡ rolls old =
      rw (own, desk) (rolls_by-same old.number (first_place old.desk) old.seen is.between is.finds.others) in
      record {
        before = found;
        behind = [];
        seen = all_seen ∙ ap (λ (number : ℕ). found ++ deeds.Rolled number ∷ []) (sym own);
        counted = ap (λ (ps : List ℕ). length ps) is.rolls ∙ length_push (rolls old) (length (joined old.desk.book found).entries) ∙ ap (λ (ps : List ℕ). length ps + 1) (sym before);
        it = is.whole ∙ ap (λ (b : PartRecord). (life_of b found).last) (sym same_desk);
      }

-- a life that is full
full_life : (old new : PassRecord) (calls : ℕ) (fault : RollFault) → RefusesRoll old fault new → fault ≡ LifeFull calls → WasFullLife new calls
full_life old new calls fault refused named = ⊎_elim
    (λ (full : (fault ≡ LifeFull (length (joined old.desk.book new.seen).entries)) × IsFull old.desk.book new.seen).
    let same : new.desk.book ≡ old.desk.book = ap (λ (p : PassRecord). p.desk.book) refused.looks.seen in
    let is : calls ≡ length (joined old.desk.book new.seen).entries = its (sym named ∙ full.0) in
    let here : front new ≡ length (joined old.desk.book new.seen).entries = ap (λ (b : PartRecord). length (joined b new.seen).entries) same in
    let room = ap (λ (b : PartRecord). b.site.room) same in
    let high = full.1 in
    (omega (arith, is, here), omega (arith, is, room, high)))
    (λ (short : (fault ≡ NoMemory) × (¬ IsFull old.desk.book new.seen)). absurd (none (sym named ∙ short.0)))
    refused.cause
  where
    its : {m n : ℕ} → LifeFull m ≡ LifeFull n → m ≡ n
    its e = cc

    none : {m : ℕ} → LifeFull m ≡ NoMemory → ⊥
    none e = cc

-- what a roll that was refused found
refuses : (old new : PassRecord) (fault : RollFault) → RefusesRoll old fault new → means.RefusesRoll (front new) new.desk.book.site.room fault
refuses old new fault refused =
    let Cause : PartRecord → Type 0 = λ b. means.RefusesRoll (length (joined b new.seen).entries) b.site.room fault in
    subst Cause (sym (ap (λ (p : PassRecord). p.desk.book) refused.looks.seen)) (⊎_elim
    (λ (full : (fault ≡ LifeFull (length (joined old.desk.book new.seen).entries)) × IsFull old.desk.book new.seen). inl (full.1, full.0))
    (λ (short : (fault ≡ NoMemory) × (¬ IsFull old.desk.book new.seen)). inr (short.1, short.0))
    refused.cause)

-- What a roll leaves, by what the shared desk answered.
module _ (result : Result PartRecord RollFault) (new : PassRecord) where
  pub record Rolls (old : PassRecord) : Type 0 where
    pub ended : IfOk result (λ book. RollsOver old book new)
    pub refused : IfErr result (λ fault. RefusesRoll old fault new)

  pub record Rolled (old : PassRecord) : Type 0 where
    pub rolled : IfOk result (λ book. AddsRoll (state_of old) (state_of new))
    pub ended : IfOk result (λ book. Ended new (length (rolls new)) book)
    pub none : OnErr result (EntersNone (state_of old) (state_of new))
    pub refused : IfErr result (λ fault. means.RefusesRoll (front new) new.desk.book.site.room fault)
    pub few : inverters new.desk.book.site ≤ 64
    pub full_life : (calls : ℕ) → IfErr result (λ fault. fault ≡ LifeFull calls → WasFullLife new calls)
    pub later : IsLater old new

pub rolled : (result : Result PartRecord RollFault) (new old : PassRecord) → Rolls result new old → Rolled result new old
rolled (Ok book) new old is = record {
  rolled = over_adds old book new is.ended;
  ended = over_ended old book new is.ended;
  none = tt;
  refused = tt;
  few = few_later old new is.ended.between is.ended.finds (over_later old book new is.ended);
  full_life = λ calls. tt;
  later = over_later old book new is.ended;
}
rolled (Err fault) new old is = record {
  rolled = tt;
  ended = tt;
  none = looks_none old new is.refused.looks;
  refused = refuses old new fault is.refused;
  few = looks_few old new is.refused.looks;
  full_life = λ calls. full_life old new calls fault is.refused;
  later = looks_later old new is.refused.looks;
}
