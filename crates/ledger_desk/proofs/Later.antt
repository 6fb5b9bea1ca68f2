-- What a desk meant, and the tests that were passed, once there are more entries or one more roll.
use Rattle.std.proofs.Common.{◌≡◌, ℕ, zero, suc, ◌+◌, ◌-◌, ◌<◌, ◌≤◌, List, [], ◌∷◌, ◌++◌, length, take, drop, Option, Some, refl, sym, ap, subst, ◌∙◌, append_assoc, length-append, arith}
use Rattle.std.specs.Prelude.{slice_get}
use Rattle.std.proofs.lemmas.List.{append-nil, take-append-le, drop-append-le, length-drop, get_or_append_left}
use Rattle.std.proofs.lemmas.Option.{none-some, slice_get_within, slice_get-get_or, get_or_from_slice_get}
use Rattle.plant_book.specs.declared.book.Entry.{Entry}
use Rattle.plant_book.specs.declared.carry.TheConstants.{CALLS_MAX}
use Rattle.plant_book.specs.Site.{SiteRecord}
use Rattle.plant_book.specs.Book.{BookRecord}
use Rattle.plant_book.specs.Part.{PartRecord, CarryRecord}
use Rattle.plant_book.specs.Carry.{carry_of}
use Rattle.plant_ledger.specs.declared.plant.Goal.{Goal}
use Rattle.plant_ledger.specs.Plant.{with_one}
use Rattle.ledger_desk.specs.Desk.{TestsLast}
use Rattle.ledger_desk.specs.Plain.{PlainRecord, joined, front, first_entries, IsGoalOf, MayTell, begins, ends, WasFull, carry_at, book_between, Ended, WasFullLife, tests_of, life_of}

pub get-append : {X : Type 0} (xs ys : List X) (n : ℕ) (x : X) → slice_get xs n ≡ Some x → slice_get (xs ++ ys) n ≡ Some x
get-append xs ys n x is =
    let within = slice_get_within xs n x is in
    slice_get-get_or (xs ++ ys) n x (omega (arith, within, length-append xs ys))
    ∙ ap Some (get_or_append_left xs ys x n within ∙ get_or_from_slice_get xs n x x is)

abbrev pub part_of : SiteRecord → ℕ → Option CarryRecord → List Entry → PartRecord
part_of site start carry entries = record { site = site; start = start; carry = carry; entries = entries }

-- the last end moves on, and the others stand
ends_later : (places : List ℕ) (front later n end : ℕ) → front ≤ later → slice_get (places ++ front ∷ []) n ≡ Some end
    → (after : ℕ) × (end ≤ after) × (slice_get (places ++ later ∷ []) n ≡ Some after)
ends_later [] front later zero end le is = (later, omega (arith, le, get_or_from_slice_get (front ∷ []) zero end 0 is), refl)
ends_later [] front later (suc n) end le is = absurd (none-some end is)
ends_later (place ∷ places) front later zero end le is = (end, omega arith, is)
ends_later (place ∷ places) front later (suc n) end le is = ends_later places front later n end le is

-- A desk with other entries behind those that it had, or with one more roll: its site, its start and how many entries
-- it began behind are the same, the entries that it had stand first, and so do its rolls.
pub record IsLater (old new : PlainRecord) : Type 0 where
  pub site : new.book.site ≡ old.book.site
  pub start : new.book.start ≡ old.book.start
  pub begun : new.begun ≡ old.begun
  pub more : List Entry
  pub entries : joined new ≡ joined old ++ more
  pub places : List ℕ
  pub rolls : new.rolls ≡ old.rolls ++ places
  pub ended : (n end : ℕ) → slice_get (ends old) n ≡ Some end → (after : ℕ) × (end ≤ after) × (slice_get (ends new) n ≡ Some after)

pub parts_same : {s t : SiteRecord} {m n : ℕ} {c d : Option CarryRecord} {es fs : List Entry} → s ≡ t → m ≡ n → c ≡ d → es ≡ fs
    → part_of s m c es ≡ part_of t n d fs
parts_same site start carry entries = cc

module _ (old new : PlainRecord) (later : IsLater old new) where
  front_later : front old ≤ front new
  front_later = omega (arith, ap length later.entries, length-append (joined old) later.more)

  first_same : (place : ℕ) → place ≤ front old → take place (joined new) ≡ take place (joined old)
  first_same place le = ap (take place) later.entries ∙ take-append-le place (joined old) later.more le

  book_same : (place : ℕ) → place ≤ front old → first_entries new place ≡ first_entries old place
  book_same place le = rw (later.site, later.start, first_same place le) refl

  pub life_same : life_of new ≡ life_of old
  life_same = rw (later.site, later.start, later.begun) refl

  goals_last : (made place inverter : ℕ) (goal : Goal) → MayTell old made place inverter goal → MayTell new made place inverter goal
  goals_last made place inverter goal told = record {
    counted = rw later.begun told.counted;
    within = omega (arith, told.within, front_later);
    told = subst (λ (book : BookRecord). IsGoalOf book inverter goal) (sym (book_same place told.within)) told.told;
  }

  begins_later : (n begin : ℕ) → slice_get (begins old) n ≡ Some begin → slice_get (begins new) n ≡ Some begin
  begins_later n begin is = subst (λ (places : List ℕ). slice_get (0 ∷ places) n ≡ Some begin) (sym later.rolls) (get-append (begins old) later.places n begin is)

  full_lasts : WasFull old → WasFull new
  full_lasts full =
      let end = later.ended full.number full.end full.ends in
      record {
        number = full.number;
        begin = full.begin;
        end = end.0;
        begins = begins_later full.number full.begin full.begins;
        ends = end.2;
        full = subst (λ (s : SiteRecord). full.begin + s.room ≤ end.0) (sym later.site) (omega (arith, full.full, end.1));
      }

  carry_same : (nth begin : ℕ) → begin ≤ front old → carry_at new nth begin ≡ carry_at old nth begin
  carry_same zero begin le = refl
  carry_same (suc nth) begin le = ap (λ (book : BookRecord). Some (carry_of book)) (book_same begin le)

  between_same : (nth begin end : ℕ) → begin ≤ end → end ≤ front old → book_between new nth begin end ≡ book_between old nth begin end
  between_same nth begin end order within =
      let le : begin ≤ front old = omega (arith, order, within) in
      let cut : drop begin (joined new) ≡ drop begin (joined old) ++ later.more = ap (drop begin) later.entries ∙ drop-append-le begin (joined old) later.more le in
      let room : end - begin ≤ length (drop begin (joined old)) = omega (arith, within, length-drop begin (joined old)) in
      let same : take (end - begin) (drop begin (joined new)) ≡ take (end - begin) (drop begin (joined old)) =
      ap (take (end - begin)) cut ∙ take-append-le (end - begin) (drop begin (joined old)) later.more room in
      parts_same later.site later.start (carry_same nth begin le) same

  rolls_last : (number : ℕ) (book : PartRecord) → Ended old number book → Ended new number book
  rolls_last number book ended = record {
    nth = ended.nth;
    begin = ended.begin;
    end = ended.end;
    counted = ended.counted;
    begins = begins_later ended.nth ended.begin ended.begins;
    ends = subst (λ (places : List ℕ). slice_get places ended.nth ≡ Some ended.end) (sym later.rolls) (get-append old.rolls later.places ended.nth ended.end ended.ends);
    order = ended.order;
    within = omega (arith, ended.within, front_later);
    it = ended.it ∙ sym (between_same ended.nth ended.begin ended.end ended.order ended.within);
  }

  lives_last : (calls : ℕ) → WasFullLife old calls → WasFullLife new calls
  lives_last calls full = (omega (arith, full.0, front_later), subst (λ (s : SiteRecord). CALLS_MAX < calls + s.room) (sym later.site) full.1)

  pub tests_last : TestsLast (tests_of old) (tests_of new)
  tests_last = record { goals = goals_last; full = full_lasts; rolls = rolls_last; lives = lives_last }

-- with one more entry
pub joined-with : (desk : PlainRecord) (entry : Entry) → joined (record desk { book = with_one desk.book entry }) ≡ joined desk ++ entry ∷ []
joined-with desk entry = sym (append_assoc desk.before desk.book.entries (entry ∷ []))

pub entry_later : (old : PlainRecord) (entry : Entry) → IsLater old (record old { book = with_one old.book entry })
entry_later old entry = record {
  site = refl;
  start = refl;
  begun = refl;
  more = entry ∷ [];
  entries = joined-with old entry;
  places = [];
  rolls = sym (append-nil old.rolls);
  ended = λ n end is. ends_later old.rolls (front old) (length (joined (record old { book = with_one old.book entry }))) n end (omega (arith, ap length (joined-with old entry), length-append (joined old) (entry ∷ []))) is;
}

pub same_later : (desk : PlainRecord) → IsLater desk desk
same_later desk = record {
  site = refl;
  start = refl;
  begun = refl;
  more = [];
  entries = sym (append-nil (joined desk));
  places = [];
  rolls = sym (append-nil desk.rolls);
  ended = λ n end is. (end, omega arith, is);
}

-- with one more roll: an empty book follows
abbrev pub rolled_from : PlainRecord → CarryRecord → PlainRecord
rolled_from old carry = record {
  book = record { site = old.book.site; start = old.book.start; carry = Some carry; entries = [] };
  before = joined old;
  begun = old.begun;
  rolls = old.rolls ++ front old ∷ [];
}

pub roll_later : (old : PlainRecord) (carry : CarryRecord) → IsLater old (rolled_from old carry)
roll_later old carry = record {
  site = refl;
  start = refl;
  begun = refl;
  more = [];
  entries = refl;
  places = front old ∷ [];
  rolls = refl;
  ended = λ n end is. (end, omega arith, get-append (ends old) (front (rolled_from old carry) ∷ []) n end is);
}
