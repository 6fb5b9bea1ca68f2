-- The rule of a desk's table, and what each step tells.
use Rattle.std.specs.Prelude.{◌≡◌, ◌≢◌, ℕ, ◌≤◌, List, [], ◌∷◌, ◌++◌, true, Option, Some, None, All}
use Rattle.std.specs.List.{range_with_len, sum_by}
use mathlib.Core.Option.{some, none}
use mathlib.Core.Option as maybe
use lib.ListN.{get_elem?}
use Rattle.atomic_table.specs.Seated.{TableId}
use Rattle.atomic_table.specs.Table.{State, Me, Step}
use Rattle.plant_book.specs.declared.book.Entry.{Entry}
use Rattle.plant_book.specs.Part.{PartRecord}
use Rattle.plant_book.specs.Life.{IsLife}
use Rattle.plant_ledger.specs.Plant.{with_one}
use Rattle.plant_desk.specs.declared.deed.Deed.{Deed}
use Rattle.plant_desk.specs.declared.deed.Deed.TheVariants.{Entered, Rolled}
use Rattle.plant_desk.specs.declared.board.Hand.{Hand}
use Rattle.plant_desk.specs.declared.board.View.{View}
use Rattle.plant_desk.specs.Deeds.{author, AreOthers, life_of, front, base}
use Rattle.plant_desk.specs.Hands.{hand, idle, busy, spent, weight}
pub use Rattle.plant_desk.specs.Hands.{first_view}

-- what the slot may hold: the plant or nothing
abbrev pub Slot : Type 0
Slot = Option PartRecord

abbrev pub Table : Type 0
Table = State Slot View

abbrev pub Sat : Type 0
Sat = Me Slot View

-- the book that the plant is on after these deeds
abbrev pub last_book : PartRecord → List Deed → PartRecord
last_book book deeds = (life_of book deeds).last

-- What a pass knows is true of these deeds: it is one of the passes, it has seen the first of them, and those
-- that it hasn't seen are all of other passes. So the deeds have no more of it than it knows.
pub record IsHand (book : PartRecord) (passes : ℕ) (deeds : List Deed) (one : Hand) : Type 0 where
  pub plant : one.plant ≡ book
  pub count : one.passes ≡ passes
  pub low : 1 ≤ one.number
  pub high : one.number ≤ passes
  pub later : List Deed
  pub begins : deeds ≡ one.seen ++ later
  pub others : AreOthers one.number later

-- A seat with the turn has one pass, whose number the turn is, and it has seen every deed.
pub record HasTurn (deeds : List Deed) (turn : ℕ) (view : View) : Type 0 where
  pub one : Hand
  pub alone : view ≡ busy one
  pub number : one.number ≡ turn
  pub all : one.seen ≡ deeds

pub record IsView (book : PartRecord) (passes : ℕ) (deeds : List Deed) (turn : ℕ) (view : View) : Type 0 where
  pub hands : All (IsHand book passes deeds) view.hands
  pub holder : view.holds ≡ true → HasTurn deeds turn view

-- one seat has the turn
pub record IsTaken (views : List View) : Type 0 where
  pub seat : ℕ
  pub view : View
  pub there : get_elem? views seat ≡ some view
  pub holds : view.holds ≡ true

-- The rule. There are deeds, each of one of the passes, that make an answered life of the plant's first book.
-- `front` counts the calls of the joined book, and `base` those before the current one. While nobody has
-- the turn the plant is in the slot, on the last book of that life. `turn` names the one seat that has it,
-- and then the plant is out with that seat. What each seat knows is true, and each pass lies in one seat.
pub record IsDesk (book : PartRecord) (passes : ℕ) (s : Table) : Type 0 where
  pub deeds : List Deed
  pub turn : ℕ
  pub home : maybe.Option Slot
  pub words : s.words ≡ front book deeds ∷ turn ∷ base book deeds ∷ []
  pub slots : s.homes ≡ home ∷ []
  pub answered : IsLife (life_of book deeds)
  pub signed : All (λ deed. (1 ≤ author deed) × (author deed ≤ passes)) deeds
  pub free : turn ≡ 0 → home ≡ some (Some (last_book book deeds))
  pub out : turn ≢ 0 → home ≡ none
  pub taken : turn ≢ 0 → IsTaken s.views
  pub views : (seat : ℕ) (view : View) → get_elem? s.views seat ≡ some view
      → IsView book passes deeds turn view
  pub numbers : (heavy : ℕ → ℕ) → sum_by (weight heavy) s.views ≡ sum_by heavy (range_with_len 1 passes)

-- the pass once it has seen these later deeds
abbrev pub told : Hand → List Deed → Hand
told one later = hand one.plant one.passes one.number (one.seen ++ later)

-- a seat without the turn that holds nothing, and one with the turn that has this in the slot
abbrev pub resting : Hand → Sat
resting one = (idle one, [])

abbrev pub holding : Hand → Slot → Sat
holding one slot = (busy one, (0, slot) ∷ [])

abbrev pub plant_of : Hand → PartRecord
plant_of one = last_book one.plant one.seen

-- The turn was taken, with the plant: the pass has seen all deeds so far, none of them its own but those
-- that it knew.
pub record Takes (one : Hand) (me : Sat) : Type 0 where
  pub between : List Deed
  pub others : AreOthers one.number between
  pub answered : IsLife (life_of one.plant (one.seen ++ between))
  pub holds : me ≡ holding (told one between) (Some (plant_of (told one between)))

-- trying the turn takes it where it was free, and else nothing changes
abbrev pub Tries : Step Slot → Sat → ℕ → Sat → Type 0
Tries st me found now = (one : Hand) → me ≡ resting one
    → (found ≡ 0 → Takes one now) × (found ≢ 0 → now ≡ me)

-- a look at the front, or at the base, with the turn
abbrev pub SeesFront : Step Slot → Sat → ℕ → Sat → Type 0
SeesFront st me found now = (now ≡ me) × ((one : Hand) → me.0 ≡ busy one → found ≡ front one.plant one.seen)

abbrev pub SeesBase : Step Slot → Sat → ℕ → Sat → Type 0
SeesBase st me found now = (now ≡ me) × ((one : Hand) → me.0 ≡ busy one → found ≡ base one.plant one.seen)

-- the front goes up by one, with the entry that the plant in the slot has more
abbrev pub Raises : Step Slot → Sat → ℕ → Sat → Type 0
Raises st me found now = (one : Hand) (entry : Entry) → me ≡ holding one (Some (with_one (plant_of one) entry))
    → now ≡ holding (told one (Entered one.number entry ∷ [])) (Some (with_one (plant_of one) entry))

-- the base goes up to the front, with the roll of the plant in the slot
abbrev pub Cuts : Step Slot → Sat → ℕ → Sat → Type 0
Cuts st me found now = (one : Hand) (slot : Slot) → me ≡ holding one slot
    → now ≡ holding (told one (Rolled one.number ∷ [])) slot

-- the turn is given back, with the plant
abbrev pub Gives : Step Slot → Sat → ℕ → Sat → Type 0
Gives st me found now = (one : Hand) (slot : Slot) → me ≡ holding one slot → now ≡ resting one

-- The turn was taken, and the plant is out of the slot: it is on the last book of all deeds so far.
pub record TakesOut (one : Hand) (plant : PartRecord) (me : Sat) : Type 0 where
  pub between : List Deed
  pub others : AreOthers one.number between
  pub answered : IsLife (life_of one.plant (one.seen ++ between))
  pub on : plant ≡ plant_of (told one between)
  pub holds : me ≡ holding (told one between) None

-- the plant has this entry more, and its life is answered
pub record HasOneMore (one : Hand) (plant : PartRecord) : Type 0 where
  pub entry : Entry
  pub more : plant ≡ with_one (plant_of one) entry
  pub answered : IsLife (life_of one.plant (one.seen ++ Entered one.number entry ∷ []))

-- the plant is on the book behind, and its life is answered
pub record HasRolled (one : Hand) (plant : PartRecord) : Type 0 where
  pub next : plant ≡ plant_of (told one (Rolled one.number ∷ []))
  pub answered : IsLife (life_of one.plant (one.seen ++ Rolled one.number ∷ []))

-- a table of three words and one slot
pub record IsBoard (id : TableId) : Type 0 where
  pub words : id.words ≡ 3
  pub slots : id.slots ≡ 1

-- a new seat comes without a pass
abbrev pub Comes : Step Slot → Sat → ℕ → Sat → Type 0
Comes st me found now = now ≡ (spent, [])

-- What is known at the end, where one seat has the hands of all passes: the plant is on the last book of
-- deeds that make an answered life, and what each pass knows of them is true.
pub record IsOver (book : PartRecord) (passes : ℕ) (hands : List Hand) (slot : Slot) : Type 0 where
  pub deeds : List Deed
  pub answered : IsLife (life_of book deeds)
  pub signed : All (λ deed. (1 ≤ author deed) × (author deed ≤ passes)) deeds
  pub known : All (IsHand book passes deeds) hands
  pub numbers : (heavy : ℕ → ℕ) → sum_by (λ (one : Hand). heavy one.number) hands
      ≡ sum_by heavy (range_with_len 1 passes)
  pub plant : slot ≡ Some (last_book book deeds)
