-- What a call leaves of the fields of its pass.
use Rattle.std.proofs.Common.{◌≡◌, ℕ, List, [], ◌∷◌, ◌++◌, refl, sym, ap, subst, ◌∙◌, append_assoc, ◌⊎◌, inl, inr, ⊎_elim, arith, ◌+◌, length, length-append}
use Rattle.atomic_table.specs.declared.shared.Seat.{Seat}
use Rattle.plant_book.specs.declared.call.Call.{Call}
use Rattle.plant_book.specs.declared.call.Reply.{Reply}
use Rattle.plant_book.specs.Site.{SiteRecord}
use Rattle.plant_book.specs.Book.{BookRecord}
use Rattle.plant_book.specs.Part.{PartRecord, book_behind, calls_of}
use Rattle.plant_book.specs.Carry.{EachBook}
use Rattle.plant_book.proofs.Behind.{calls_of-is}
use Rattle.plant_book.proofs.Lives.{life_is_behind}
use Rattle.plant_ledger.specs.Plant.{IsFullLife}
use Rattle.plant_ledger.specs.declared.rolling.RollFault.{RollFault}
use Rattle.plant_ledger.specs.declared.rolling.RollFault.TheVariants.{LifeFull, NoMemory}
use Rattle.plant_book.specs.Life.{IsLife, entries_of}
use Rattle.plant_desk.specs.declared.deed.Deed.{Deed}
use Rattle.plant_desk.specs.declared.deed.Deed.TheVariants.{Entered, Rolled}
use Rattle.plant_desk.specs.declared.board.Hand.{Hand}
use Rattle.plant_desk.specs.declared.board.View.{View}
use Rattle.plant_desk.specs.declared.pass.Pass.TheInside.{Inside}
use Rattle.plant_desk.specs.Deeds.{life_of, joined, front, base}
use Rattle.plant_desk.specs.Hands.{hand, first_hand}
use Rattle.plant_desk.specs.Rule.{Slot, Sat, TakesOut, HasRolled, resting, told, plant_of}
use Rattle.plant_desk.specs.Passes.{PassRecord, after, Finds, Looks, FindsFull, Enters, RollsOver, IsFull, RefusesRoll}
use Rattle.plant_desk.specs.Kept.{known_by, pass_of, hand_of, IsPass}
use Rattle.plant_desk.proofs.Lives.{each_before}
use Rattle.plant_desk.proofs.Passes.{IsMore, rests_as, site-plant_of}
use Rattle.plant_desk.proofs.Passes as made

-- its fields with another seat
abbrev pub with_place : Inside → Seat Slot View → Inside
with_place p place = record { number = p.number; place = place }

module _ (p : Inside) (place : Seat Slot View) (later : List Deed) (rests : place.me ≡ resting (told (hand_of p) later)) where
  pub is_pass : IsPass (with_place p place)
  is_pass = rests ∙ sym (ap (λ (m : Sat). resting (hand (first_hand m.0).plant (first_hand m.0).passes p.number (first_hand m.0).seen)) rests)

  -- its value is the one before, with what it has seen since
  pub value_after : (value : PassRecord) → pass_of p ≡ value → place.table_id ≡ p.place.table_id → after value later ≡ pass_of (with_place p place)
  value_after value is same =
      ap (λ (v : PassRecord). after v later) (sym is) ∙ sym (rests_as place.table_id (pass_of p) later place.me p.place.table_id refl same rests)

-- it is a pass of the same desk and number
abbrev IsSame : PassRecord → PassRecord → Type 0
IsSame old new = (new.desk ≡ old.desk) × (new.number ≡ old.number)

stays : (old new : PassRecord) (later : List Deed) → new ≡ after old later → IsSame old new
stays old new later is = (ap (λ (v : PassRecord). v.desk) is, ap (λ (v : PassRecord). v.number) is)

pub looks_same : (old new : PassRecord) → Looks old new → IsSame old new
looks_same old new is = stays old new is.between is.seen

pub enters_same : (old new : PassRecord) (call : Call) (reply : Reply) → Enters old call reply new → IsSame old new
enters_same old new call reply is = stays old new (is.between ++ Entered old.number is.entry ∷ []) is.seen

pub rolls_same : (old new : PassRecord) (ended : PartRecord) → RollsOver old ended new → IsSame old new
rolls_same old new ended is = stays old new (is.between ++ Rolled old.number ∷ []) is.seen

-- what the pass found with the turn
pub finds : (p : Inside) (value : PassRecord) (plant : PartRecord) (me : Sat) → pass_of p ≡ value → (out : TakesOut (hand_of p) plant me) → Finds value out.between
finds p value plant me is out = subst (λ (v : PassRecord). Finds v out.between) is (record { others = out.others; answered = out.answered })

-- a look
pub looks : (p : Inside) (value : PassRecord) (plant : PartRecord) (me : Sat) (place : Seat Slot View) → pass_of p ≡ value → (out : TakesOut (hand_of p) plant me)
    → place.me ≡ resting (told (hand_of p) out.between) → place.table_id ≡ p.place.table_id → Looks value (pass_of (with_place p place))
looks p value plant me place is out rests same =
    subst (λ (v : PassRecord). Looks value v) (value_after p place out.between rests value is same) (made.looks value out.between (finds p value plant me is out))

-- what is true of each joined book that goes on in the plant is true of the one that was seen
pub at_joined : (one : Hand) (plant : PartRecord) (Fact : BookRecord → Type 0) → plant ≡ plant_of one → IsLife (life_of one.plant one.seen) → EachBook plant Fact → Fact (joined one.plant one.seen)
at_joined one plant Fact on life each =
    let at = life_of one.plant one.seen in
    each_before at (λ before. Fact (book_behind before at.last)) life (subst (λ (p : PartRecord). EachBook p Fact) on each)

-- a pass that was told twice
pub twice : (one : Hand) (between more : List Deed) (me : Sat) → me ≡ resting (told (told one between) more) → me ≡ resting (told one (between ++ more))
twice one between more me is = is ∙ ap (λ (ds : List Deed). resting (hand one.plant one.passes one.number ds)) (append_assoc one.seen between more)

module _ (p : Inside) (value : PassRecord) (plant : PartRecord) (me : Sat) (place : Seat Slot View) (view_is : pass_of p ≡ value) (out : TakesOut (hand_of p) plant me) (same : place.table_id ≡ p.place.table_id) where
  -- the plant is on a book of the site
  pub site_is : plant.site ≡ value.desk.book.site
  site_is = ap (λ (b : PartRecord). b.site) out.on ∙ site-plant_of (told (hand_of p) out.between) ∙ ap (λ (v : PassRecord). v.desk.book.site) view_is

  -- a call that was entered
  pub enters : (new : PartRecord) (call : Call) (reply : Reply) (is : IsMore (told (hand_of p) out.between) call reply new)
      → place.me ≡ resting (told (told (hand_of p) out.between) (Entered p.number is.more.entry ∷ [])) → Enters value call reply (pass_of (with_place p place))
  enters new call reply is rests =
      let later : List Deed = out.between ++ Entered p.number is.more.entry ∷ [] in
      subst (λ (v : PassRecord). Enters value call reply v) (value_after p place later (twice (hand_of p) out.between (Entered p.number is.more.entry ∷ []) place.me rests) value view_is same)
      (subst (λ (v : PassRecord). Enters v call reply (after v later)) view_is
      (made.enters (pass_of p) out.between (record { others = out.others; answered = out.answered }) call reply is.more.entry is.right is.entry is.more.answered))

  -- a roll
  pub rolls_over : (new : PartRecord) (ended : PartRecord) → ended ≡ plant → HasRolled (told (hand_of p) out.between) new
      → place.me ≡ resting (told (told (hand_of p) out.between) (Rolled p.number ∷ [])) → RollsOver value ended (pass_of (with_place p place))
  rolls_over new ended is rolled rests =
      let later : List Deed = out.between ++ Rolled p.number ∷ [] in
      subst (λ (v : PassRecord). RollsOver value ended v) (value_after p place later (twice (hand_of p) out.between (Rolled p.number ∷ []) place.me rests) value view_is same)
      (subst (λ (v : PassRecord). RollsOver v ended (after v later)) view_is
      (made.rolls_over (pass_of p) out.between (record { others = out.others; answered = out.answered }) ended (is ∙ out.on) rolled.answered))

  -- a full book
  pub finds_full : (calls : ℕ) → calls ≡ length plant.entries → calls ≡ plant.site.room → place.me ≡ resting (told (hand_of p) out.between) → FindsFull value calls (pass_of (with_place p place))
  finds_full calls many room rests =
      let life = life_of (known_by p).plant ((known_by p).seen ++ out.between) in
      let seen = ap (λ (m : Sat). (first_hand m.0).seen) rests in
      record {
        looks = looks p value plant me place view_is out rests same;
        room = room ∙ ap (λ (s : SiteRecord). s.room) site_is;
        full = subst (λ (v : PassRecord). front v.desk.book (first_hand place.me.0).seen ≡ base v.desk.book (first_hand place.me.0).seen + calls) view_is
            (subst (λ (ds : List Deed). front (known_by p).plant ds ≡ base (known_by p).plant ds + calls) (sym seen)
            (length-append (entries_of life.ended) life.last.entries ∙ ap (λ (n : ℕ). length (entries_of life.ended) + n) (ap (λ (b : PartRecord). length b.entries) (sym out.on) ∙ sym many)));
      }

  -- a roll that was refused
  pub refuses_roll : (fault : RollFault) → place.me ≡ resting (told (hand_of p) out.between)
      → (IsFullLife plant × (fault ≡ LifeFull (calls_of plant))) ⊎ ((¬ IsFullLife plant) × (fault ≡ NoMemory)) → RefusesRoll value fault (pass_of (with_place p place))
  refuses_roll fault rests cause =
      let first = (known_by p).plant in
      let found : List Deed = (known_by p).seen ++ out.between in
      let life = life_of first found in
      let seen = ap (λ (m : Sat). (first_hand m.0).seen) rests in
      let calls : calls_of plant ≡ front first found = ap calls_of out.on ∙ calls_of-is life.last (entries_of life.ended) (life_is_behind life out.answered) in
      let room : plant.site.room ≡ first.site.room = ap (λ (b : PartRecord). b.site.room) out.on ∙ ap (λ (s : SiteRecord). s.room) (site-plant_of (told (hand_of p) out.between)) in
      let Cause : PartRecord → List Deed → Type 0 = λ b ds. ((fault ≡ LifeFull (front b ds)) × IsFull b ds) ⊎ ((fault ≡ NoMemory) × (¬ IsFull b ds)) in
      let there : Cause first found = ⊎_elim
      (λ (full : IsFullLife plant × (fault ≡ LifeFull (calls_of plant))). let high = full.0 in inl (full.1 ∙ ap (λ (n : ℕ). LifeFull n) calls, omega arith))
      (λ (short : (¬ IsFullLife plant) × (fault ≡ NoMemory)). inr (short.1, λ high. short.0 (omega arith)))
      cause in
      record {
        looks = looks p value plant me place view_is out rests same;
        cause = subst (λ (v : PassRecord). Cause v.desk.book (first_hand place.me.0).seen) view_is (subst (λ (ds : List Deed). Cause first ds) (sym seen) there);
      }
