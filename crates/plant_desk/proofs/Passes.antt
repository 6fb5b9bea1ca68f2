-- What a pass has, one deed at a time.
use Rattle.std.proofs.Common.{◌≡◌, ◌≢◌, ℕ, ◌+◌, ◌<◌, eqb, cond, Bool, true, false, List, [], ◌∷◌, ◌++◌, length, refl, sym, ap, subst, ◌∙◌, append_assoc, arith, length-append, eq-eqb, ne_eqb}
use Rattle.std.proofs.lemmas.List.{append-nil}
use Rattle.std.proofs.lemmas.List.Elements.{All-head, All-tail}
use Rattle.atomic_table.specs.Seated.{TableId}
use Rattle.plant_book.specs.declared.call.Call.{Call}
use Rattle.plant_book.specs.declared.call.Reply.{Reply}
use Rattle.plant_book.specs.declared.book.Entry.{Entry}
use Rattle.plant_book.specs.Part.{PartRecord}
use Rattle.plant_book.specs.Carry.{EachBefore}
use Rattle.plant_book.specs.Life.{Life, IsLife, entries_of, joined_book}
use Rattle.plant_ledger.specs.Plant.{GoesOn, Rolls, entered, entry_of, right_reply}
use Rattle.plant_desk.specs.declared.deed.Deed.{Deed}
use Rattle.plant_desk.specs.declared.deed.Deed.TheVariants.{Entered, Rolled}
use Rattle.plant_desk.specs.declared.board.Hand.{Hand}
use Rattle.plant_desk.specs.Deeds.{author, AreOthers, life_after, life_of, joined, front, base, Placed, entries_by, rolls_by}
use Rattle.plant_desk.specs.Deeds as lives
use Rattle.plant_desk.specs.Hands.{hand, first_hand}
use Rattle.plant_desk.specs.Rule.{Sat, resting, plant_of, HasOneMore, HasRolled}
use Rattle.plant_desk.specs.Passes.{PassRecord, after, entries, rolls, first_place, Finds, Looks, Enters, RollsOver, StandsIn}
use Rattle.plant_desk.proofs.Lives.{life_after-append, life_of-push, enters_life, rolls_life, each_before, entries_of-push, front-le}

-- how many of the deeds entered a call
abbrev pub calls_in : List Deed → ℕ
calls_in [] = 0
calls_in (Entered by entry ∷ deeds) = calls_in deeds + 1
calls_in (Rolled by ∷ deeds) = calls_in deeds

calls_in-append : (deeds later : List Deed) → calls_in (deeds ++ later) ≡ calls_in deeds + calls_in later
calls_in-append [] later = omega arith
calls_in-append (Entered by entry ∷ deeds) later = omega (arith, calls_in-append deeds later)
calls_in-append (Rolled by ∷ deeds) later = calls_in-append deeds later

length-after : (life : Life) (deeds : List Deed) → length (joined_book (life_after life deeds)).entries ≡ length (joined_book life).entries + calls_in deeds
length-after life [] = omega arith
length-after life (Entered by entry ∷ deeds) =
    omega (arith, length-after (lives.after life (Entered by entry)) deeds, length-append (entries_of life.ended) (life.last.entries ++ entry ∷ []), length-append life.last.entries (entry ∷ []), length-append (entries_of life.ended) life.last.entries)
length-after life (Rolled by ∷ deeds) =
    omega (arith, length-after (lives.after life (Rolled by)) deeds, ap (λ (es : List Entry). length es) (append-nil (entries_of (life.ended ++ life.last ∷ []))), ap (λ (es : List Entry). length es) (entries_of-push life.ended life.last))

pub front-calls_in : (book : PartRecord) (deeds : List Deed) → front book deeds ≡ length book.entries + calls_in deeds
front-calls_in book deeds = length-after (lives.first_life book) deeds

-- the entries and rolls of a pass among deeds and later ones
choose : {A : Type 0} (b : Bool) (x : A) (xs ys : List A) → cond b (x ∷ xs ++ ys) (xs ++ ys) ≡ cond b (x ∷ xs) xs ++ ys
choose true x xs ys = refl
choose false x xs ys = refl

pub entries_by-append : (number place : ℕ) (deeds later : List Deed) → entries_by number place (deeds ++ later) ≡ entries_by number place deeds ++ entries_by number (place + calls_in deeds) later
entries_by-append number place [] later = ap (λ (p : ℕ). entries_by number p later) (omega arith)
entries_by-append number place (Entered by entry ∷ deeds) later =
    ap (λ (es : List Placed). cond (eqb by number) (record { place = place; entry = entry } ∷ es) es) (entries_by-append number (place + 1) deeds later)
    ∙ choose (eqb by number) (record { place = place; entry = entry }) (entries_by number (place + 1) deeds) (entries_by number (place + 1 + calls_in deeds) later)
    ∙ ap (λ (p : ℕ). entries_by number place (Entered by entry ∷ deeds) ++ entries_by number p later) (omega arith)
entries_by-append number place (Rolled by ∷ deeds) later = entries_by-append number place deeds later

rolls_by-append : (number place : ℕ) (deeds later : List Deed) → rolls_by number place (deeds ++ later) ≡ rolls_by number place deeds ++ rolls_by number (place + calls_in deeds) later
rolls_by-append number place [] later = ap (λ (p : ℕ). rolls_by number p later) (omega arith)
rolls_by-append number place (Entered by entry ∷ deeds) later =
    rolls_by-append number (place + 1) deeds later ∙ ap (λ (p : ℕ). rolls_by number (place + 1) deeds ++ rolls_by number p later) (omega arith)
rolls_by-append number place (Rolled by ∷ deeds) later =
    ap (λ (ps : List ℕ). cond (eqb by number) (place ∷ ps) ps) (rolls_by-append number place deeds later)
    ∙ choose (eqb by number) place (rolls_by number place deeds) (rolls_by number (place + calls_in deeds) later)

entries_by-others : (number place : ℕ) (deeds : List Deed) → AreOthers number deeds → entries_by number place deeds ≡ []
entries_by-others number place [] others = refl
entries_by-others number place (Entered by entry ∷ deeds) others =
    let P : Deed → Type 0 = λ d. author d ≢ number in
    ap (λ (b : Bool). cond b (record { place = place; entry = entry } ∷ entries_by number (place + 1) deeds) (entries_by number (place + 1) deeds)) (ne_eqb by number (All-head P (Entered by entry) deeds others))
    ∙ entries_by-others number (place + 1) deeds (All-tail P (Entered by entry) deeds others)
entries_by-others number place (Rolled by ∷ deeds) others = entries_by-others number place deeds (All-tail (λ (d : Deed). author d ≢ number) (Rolled by) deeds others)

rolls_by-others : (number place : ℕ) (deeds : List Deed) → AreOthers number deeds → rolls_by number place deeds ≡ []
rolls_by-others number place [] others = refl
rolls_by-others number place (Entered by entry ∷ deeds) others = rolls_by-others number (place + 1) deeds (All-tail (λ (d : Deed). author d ≢ number) (Entered by entry) deeds others)
rolls_by-others number place (Rolled by ∷ deeds) others =
    let P : Deed → Type 0 = λ d. author d ≢ number in
    ap (λ (b : Bool). cond b (place ∷ rolls_by number place deeds) (rolls_by number place deeds)) (ne_eqb by number (All-head P (Rolled by) deeds others))
    ∙ rolls_by-others number place deeds (All-tail P (Rolled by) deeds others)

-- later deeds of other passes bring none
pub entries_by-same : (number place : ℕ) (deeds later : List Deed) → AreOthers number later → entries_by number place (deeds ++ later) ≡ entries_by number place deeds
entries_by-same number place deeds later others =
    entries_by-append number place deeds later ∙ ap (λ (es : List Placed). entries_by number place deeds ++ es) (entries_by-others number (place + calls_in deeds) later others) ∙ append-nil (entries_by number place deeds)

pub rolls_by-same : (number place : ℕ) (deeds later : List Deed) → AreOthers number later → rolls_by number place (deeds ++ later) ≡ rolls_by number place deeds
rolls_by-same number place deeds later others =
    rolls_by-append number place deeds later ∙ ap (λ (ps : List ℕ). rolls_by number place deeds ++ ps) (rolls_by-others number (place + calls_in deeds) later others) ∙ append-nil (rolls_by number place deeds)

-- one deed of the pass behind them
entries_by-own : (number place : ℕ) (entry : Entry) → entries_by number place (Entered number entry ∷ []) ≡ record { place = place; entry = entry } ∷ []
entries_by-own number place entry = ap (λ (b : Bool). cond b (record { place = place; entry = entry } ∷ []) []) (eq-eqb number number refl)

rolls_by-own : (number place : ℕ) → rolls_by number place (Rolled number ∷ []) ≡ place ∷ []
rolls_by-own number place = ap (λ (b : Bool). cond b (place ∷ []) []) (eq-eqb number number refl)

-- the books of a life that ended stay, whatever it goes on to
ended-after : (life : Life) (deeds : List Deed) → (more : List PartRecord) × ((life_after life deeds).ended ≡ life.ended ++ more)
ended-after life [] = ([], sym (append-nil life.ended))
ended-after life (Entered by entry ∷ deeds) = ended-after (lives.after life (Entered by entry)) deeds
ended-after life (Rolled by ∷ deeds) =
    let rest = ended-after (lives.after life (Rolled by)) deeds in
    (life.last ∷ rest.0, rest.1 ∙ append_assoc life.ended (life.last ∷ []) rest.0)

pub stands_in : (book : PartRecord) (deeds later : List Deed) (by : ℕ) → StandsIn (life_of book ((deeds ++ Rolled by ∷ []) ++ later)) (life_of book deeds).last
stands_in book deeds later by =
    let first = lives.first_life book in
    let life = life_of book deeds in
    let rest = ended-after (lives.after life (Rolled by)) later in
    record {
      before = life.ended;
      behind = rest.0;
      there = ap (λ (l : Life). l.ended) (life_after-append first (deeds ++ Rolled by ∷ []) later)
          ∙ ap (λ (l : Life). (life_after l later).ended) (life_of-push book deeds (Rolled by)) ∙ rest.1 ∙ append_assoc life.ended (life.last ∷ []) rest.0;
    }

module _ (old : PassRecord) (between : List Deed) (finds : Finds old between) where
  abbrev book : PartRecord
  book = old.desk.book

  abbrev place : ℕ
  place = first_place old.desk

  abbrev found : List Deed
  found = old.seen ++ between

  same_entries : entries_by old.number place found ≡ entries old
  same_entries = entries_by-same old.number place old.seen between finds.others

  same_rolls : rolls_by old.number place found ≡ rolls old
  same_rolls = rolls_by-same old.number place old.seen between finds.others

  pub looks : Looks old (after old between)
  looks = record { between = between; finds = finds; seen = refl; entries = same_entries; rolls = same_rolls }

  pub enters : (call : Call) (reply : Reply) (entry : Entry) → reply ≡ right_reply (joined book found) call → entry ≡ entry_of (life_of book found).last call reply
      → IsLife (life_of book (found ++ Entered old.number entry ∷ [])) → Enters old call reply (after old (between ++ Entered old.number entry ∷ []))
  enters call reply entry right is answered =
      let deed = Entered old.number entry in
      let through : old.seen ++ (between ++ deed ∷ []) ≡ found ++ deed ∷ [] = sym (append_assoc old.seen between (deed ∷ [])) in
      record {
        between = between;
        finds = finds;
        right = right;
        entry = entry;
        entered = is;
        seen = refl;
        answered = subst (λ (ds : List Deed). IsLife (life_of book ds)) (sym through) answered;
        later = front-le book old.seen between;
        entries = ap (entries_by old.number place) through ∙ entries_by-append old.number place found (deed ∷ [])
            ∙ ap (λ (es : List Placed). entries_by old.number place found ++ es) (entries_by-own old.number (place + calls_in found) entry)
            ∙ ap (λ (p : ℕ). entries_by old.number place found ++ record { place = p; entry = entry } ∷ []) (sym (front-calls_in book found))
            ∙ ap (λ (es : List Placed). es ++ record { place = front book found; entry = entry } ∷ []) same_entries;
        rolls = ap (rolls_by old.number place) through ∙ rolls_by-append old.number place found (deed ∷ []) ∙ append-nil (rolls_by old.number place found) ∙ same_rolls;
      }

  pub rolls_over : (ended : PartRecord) → ended ≡ (life_of book found).last → IsLife (life_of book (found ++ Rolled old.number ∷ []))
      → RollsOver old ended (after old (between ++ Rolled old.number ∷ []))
  rolls_over ended is answered =
      let deed = Rolled old.number in
      let through : old.seen ++ (between ++ deed ∷ []) ≡ found ++ deed ∷ [] = sym (append_assoc old.seen between (deed ∷ [])) in
      record {
        between = between;
        finds = finds;
        whole = is;
        seen = refl;
        answered = subst (λ (ds : List Deed). IsLife (life_of book ds)) (sym through) answered;
        entries = ap (entries_by old.number place) through ∙ entries_by-append old.number place found (deed ∷ []) ∙ append-nil (entries_by old.number place found) ∙ same_entries;
        rolls = ap (rolls_by old.number place) through ∙ rolls_by-append old.number place found (deed ∷ [])
            ∙ ap (λ (ps : List ℕ). rolls_by old.number place found ++ ps) (rolls_by-own old.number (place + calls_in found))
            ∙ ap (λ (p : ℕ). rolls_by old.number place found ++ p ∷ []) (sym (front-calls_in book found)) ∙ ap (λ (ps : List ℕ). ps ++ front book found ∷ []) same_rolls;
        stands = λ later. subst (λ (part : PartRecord). StandsIn (life_of book ((old.seen ++ (between ++ deed ∷ [])) ++ later)) part) (sym is)
            (subst (λ (ds : List Deed). StandsIn (life_of book (ds ++ later)) (life_of book found).last) (sym through) (stands_in book found later old.number));
      }

-- the value of a pass whose seat rests
pub rests_as : (name : TableId) (old : PassRecord) (later : List Deed) (me : Sat) (was : TableId) → old.desk.name ≡ was → name ≡ was
    → me ≡ resting (hand old.desk.book old.desk.passes old.number (old.seen ++ later))
    → record { desk = record { name = name; book = (first_hand me.0).plant; passes = (first_hand me.0).passes }; number = old.number; seen = (first_hand me.0).seen } ≡ after old later
rests_as name old later me was is now rests = λ i. record {
  desk = record { name = (now ∙ sym is) i; book = (first_hand (rests i).0).plant; passes = (first_hand (rests i).0).passes };
  number = old.number;
  seen = (first_hand (rests i).0).seen;
}

-- every book of a life is of one site
pub site-after : (life : Life) (deeds : List Deed) → (life_after life deeds).last.site ≡ life.last.site
site-after life [] = refl
site-after life (Entered by entry ∷ deeds) = site-after (lives.after life (Entered by entry)) deeds
site-after life (Rolled by ∷ deeds) = site-after (lives.after life (Rolled by)) deeds

pub site-plant_of : (one : Hand) → (plant_of one).site ≡ one.plant.site
site-plant_of one = site-after (lives.first_life one.plant) one.seen

-- a call that the plant took goes on with the life
pub record IsMore (one : Hand) (call : Call) (reply : Reply) (plant : PartRecord) : Type 0 where
  pub more : HasOneMore one plant
  pub entry : more.entry ≡ entry_of (plant_of one) call reply
  pub right : reply ≡ right_reply (joined one.plant one.seen) call

pub has_one_more : (one : Hand) (plant new : PartRecord) (call : Call) (reply : Reply) → plant ≡ plant_of one → IsLife (life_of one.plant one.seen) → new ≡ entered plant call reply
    → EachBefore plant (λ before. GoesOn before plant call reply new) → length plant.entries < plant.site.room → IsMore one call reply new
has_one_more one plant new call reply on life is each room =
    let at = life_of one.plant one.seen in
    let new_is : new ≡ entered (plant_of one) call reply = is ∙ ap (λ (p : PartRecord). entered p call reply) on in
    let each_at : EachBefore at.last (λ before. GoesOn before at.last call reply (entered at.last call reply)) =
    subst (λ (n : PartRecord). EachBefore at.last (λ before. GoesOn before at.last call reply n)) new_is (subst (λ (p : PartRecord). EachBefore p (λ before. GoesOn before p call reply new)) on each) in
    let room_at : length at.last.entries < at.last.site.room = subst (λ (p : PartRecord). length p.entries < p.site.room) on room in
    record {
      more = record {
        entry = entry_of (plant_of one) call reply;
        more = new_is;
        answered = subst IsLife (sym (life_of-push one.plant one.seen (Entered one.number (entry_of at.last call reply)))) (enters_life at call reply life room_at each_at);
      };
      entry = refl;
      right = (each_before at (λ before. GoesOn before at.last call reply (entered at.last call reply)) life each_at).right;
    }

-- and so does a roll
pub has_rolled : (one : Hand) (plant new : PartRecord) → plant ≡ plant_of one → IsLife (life_of one.plant one.seen) → EachBefore plant (λ before. Rolls before plant new) → HasRolled one new
has_rolled one plant new on life each =
    let at = life_of one.plant one.seen in
    let rolls_at = rolls_life at new life (subst (λ (p : PartRecord). EachBefore p (λ before. Rolls before p new)) on each) in
    let pushed = sym (life_of-push one.plant one.seen (Rolled one.number)) in
    record { next = rolls_at.0 ∙ ap (λ (l : Life). l.last) pushed; answered = subst IsLife pushed rolls_at.1 }
