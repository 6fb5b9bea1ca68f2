-- Each step keeps the rule of a desk.
use Rattle.std.proofs.Common.{◌≡◌, ◌≢◌, ℕ, zero, suc, ◌+◌, ◌<◌, ◌≤◌, eqb, Bool, true, false, true≢false, List, [], ◌∷◌, ◌++◌, length, set, get_or, Some, None, refl, sym, ap, subst, ◌∙◌, append_assoc, ⊎_elim, arith, eq-eqb, ne_eqb}
use Rattle.std.specs.Prelude.{All}
use Rattle.std.specs.List.{sum_by, range_with_len}
use Rattle.std.proofs.lemmas.List.{append-nil}
use Rattle.std.proofs.lemmas.List.Elements.{All-nil, All-cons, All-head, All-tail, All-append}
use Rattle.std.proofs.lemmas.List.Sums.{sum_by-cons}
use mathlib.Core.Logic.{dite}
use mathlib.Core.Option.{some, none, some-ne-none, some-injective}
use mathlib.Core.Option as maybe
use native.Mathlib.Decide.{ℕ_discrete}
use lib.ListN.{get_elem?}
use lib.Seq.{set-get_or}
use prog.Atomic.{either}
use Rattle.atomic_table.specs.Table.{step, stepped, keeps, takes, gives, Allows}
use Rattle.atomic_table.proofs.Lists.{at_set, set_again, set_here}
use Rattle.plant_book.specs.declared.book.Entry.{Entry}
use Rattle.plant_book.specs.Part.{PartRecord}
use Rattle.plant_book.specs.Life.{Life, IsLife}
use Rattle.plant_ledger.specs.Plant.{with_one}
use Rattle.plant_desk.specs.declared.deed.Deed.{Deed}
use Rattle.plant_desk.specs.declared.deed.Deed.TheVariants.{Entered, Rolled}
use Rattle.plant_desk.specs.declared.board.Hand.{Hand}
use Rattle.plant_desk.specs.declared.board.View.{View}
use Rattle.plant_desk.specs.Deeds.{author, AreOthers, life_of, front, base}
use Rattle.plant_desk.specs.Hands.{hand, idle, busy, weight}
use Rattle.plant_desk.specs.Rule.{Slot, Table, Sat, IsHand, IsView, IsDesk, told, resting, holding, plant_of, Takes, Tries, SeesFront, SeesBase, Raises, Cuts, Gives}
use Rattle.plant_desk.proofs.Lives.{front-entered, base-entered, front-rolled, base-rolled}
use Rattle.plant_desk.proofs.Sums.{sum_by-set_at, two-le-sum_by, is_one, is_one-same, sum_by-once}

pub off : false ≡ true → ⊥
off e = true≢false (sym e)

inside : {A : Type 0} (xs : List A) (i : ℕ) (x : A) → get_elem? xs i ≡ some x → i < length xs
inside [] i x at = absurd (some-ne-none x (sym at))
inside (y ∷ xs) zero x at = omega arith
inside (y ∷ xs) (suc i) x at = let lt = inside xs i x at in omega arith

abbrev pub first_or : Hand → List Hand → Hand
first_or otherwise [] = otherwise
first_or otherwise (one ∷ hands) = one

-- the hand of a seat
abbrev pub hand_in : Hand → Sat → Hand
hand_in otherwise me = first_or otherwise me.0.hands

abbrev last_of : Entry → List Entry → Entry
last_of entry [] = entry
last_of entry (one ∷ entries) = last_of one entries

last_of-push : (entry : Entry) (entries : List Entry) (one : Entry) → last_of entry (entries ++ one ∷ []) ≡ one
last_of-push entry [] one = refl
last_of-push entry (other ∷ entries) one = last_of-push other entries one

abbrev entries_at : Slot → List Entry
entries_at None = []
entries_at (Some book) = book.entries

abbrev entries_in : List (ℕ × Slot) → List Entry
entries_in [] = []
entries_in (x ∷ xs) = entries_at x.1

module _ (book : PartRecord) (passes : ℕ) where
  abbrev Rule : Table → Type 0
  Rule = IsDesk book passes

  -- what the views of all seats say, after one of them changed
  pub views_set : (deeds : List Deed) (turn : ℕ) (views : List View) (id : ℕ) (w : View) → IsView book passes deeds turn w
      → ((j : ℕ) (u : View) → j ≢ id → get_elem? views j ≡ some u → IsView book passes deeds turn u)
      → (j : ℕ) (u : View) → get_elem? (set views id w) j ≡ some u → IsView book passes deeds turn u
  views_set deeds turn views id w mine others j u at =
      ⊎_elim
      (λ (here : (j ≡ id) × (w ≡ u)). subst (IsView book passes deeds turn) here.1 mine)
      (λ (else : (j ≢ id) × (get_elem? views j ≡ some u)). others j u else.0 else.1)
      (at_set views id j w u at)

  -- a change of a view that leaves its numbers
  numbers_set : (heavy : ℕ → ℕ) (views : List View) (id : ℕ) (v w : View) → get_elem? views id ≡ some v → weight heavy w ≡ weight heavy v
      → sum_by (weight heavy) views ≡ sum_by heavy (range_with_len 1 passes) → sum_by (weight heavy) (set views id w) ≡ sum_by heavy (range_with_len 1 passes)
  numbers_set heavy views id v w at same is = omega (arith, sum_by-set_at (weight heavy) views id v w at)

  -- a hand after later deeds of other passes
  hand_later : (deeds later : List Deed) (one : Hand) → IsHand book passes deeds one → AreOthers one.number later → IsHand book passes (deeds ++ later) one
  hand_later deeds later one is others = record {
    plant = is.plant;
    count = is.count;
    low = is.low;
    high = is.high;
    later = is.later ++ later;
    begins = ap (λ (ds : List Deed). ds ++ later) is.begins ∙ append_assoc one.seen is.later later;
    others = All-append (λ (d : Deed). author d ≢ one.number) is.later later is.others others;
  }

  -- a hand that has seen all deeds
  hand_told : (old deeds : List Deed) (one : Hand) → IsHand book passes old one → (seen : List Deed) → deeds ≡ seen
      → IsHand book passes deeds (hand one.plant one.passes one.number seen)
  hand_told old deeds one is seen all = record {
    plant = is.plant;
    count = is.count;
    low = is.low;
    high = is.high;
    later = [];
    begins = all ∙ sym (append-nil seen);
    others = All-nil (λ (d : Deed). author d ≢ one.number);
  }

  one_hand : (deeds : List Deed) (one : Hand) → IsHand book passes deeds one → All (IsHand book passes deeds) (one ∷ [])
  one_hand deeds one is = All-cons (IsHand book passes deeds) one [] is (All-nil (IsHand book passes deeds))

  -- what the rule says of a seat with the turn
  has_turn : (s : Table) (k : Rule s) (id : ℕ) (one : Hand) → get_elem? s.views id ≡ some (busy one) → IsHand book passes k.deeds one × (one.number ≡ k.turn) × (one.seen ≡ k.deeds)
  has_turn s k id one at =
      let view = k.views id (busy one) at in
      let turn = view.holder refl in
      let same : one ≡ turn.one = ap (λ (v : View). first v.hands) turn.alone in (
        All-head (IsHand book passes k.deeds) one [] view.hands,
        ap (λ (h : Hand). h.number) same ∙ turn.number,
        ap (λ (h : Hand). h.seen) same ∙ turn.all,
      )
    where
      first : List Hand → Hand
      first [] = one
      first (x ∷ xs) = x

  -- nobody has the turn where it is 0
  nobody : (s : Table) (k : Rule s) (id : ℕ) (v : View) → get_elem? s.views id ≡ some v → k.turn ≡ 0 → v.holds ≡ true → ⊥
  nobody s k id v at free holds =
      let view = k.views id v at in
      let turn = view.holder holds in
      let hands = subst (λ (u : View). All (IsHand book passes k.deeds) u.hands) turn.alone view.hands in
      let is = All-head (IsHand book passes k.deeds) turn.one [] hands in
      let low = is.low in
      let number = turn.number in
      absurd (omega arith)

  -- nobody but the seat that has it
  nobody_else : (s : Table) (k : Rule s) (id : ℕ) (one : Hand) (j : ℕ) (u : View) → get_elem? s.views id ≡ some (busy one) → j ≢ id → get_elem? s.views j ≡ some u → u.holds ≡ true → ⊥
  nobody_else s k id one j u at apart there holds =
      let mine = has_turn s k id one at in
      let turn = (k.views j u there).holder holds in
      let x = one.number in
      let own : weight (is_one x) (busy one) ≡ 1 = omega (arith, is_one-same x one.number refl, sum_by-cons (λ (h : Hand). is_one x h.number) one []) in
      let its : weight (is_one x) u ≡ 1 = ap (weight (is_one x)) turn.alone ∙ omega (arith, is_one-same x turn.one.number (turn.number ∙ sym mine.1), sum_by-cons (λ (h : Hand). is_one x h.number) turn.one []) in
      let two = two-le-sum_by (weight (is_one x)) s.views id j (busy one) u apart at there in
      let all = k.numbers (is_one x) in
      absurd (omega (arith, sum_by-once x 1 passes))

  -- the hands of another seat aren't of this number
  differs : (x : ℕ) (hands : List Hand) → sum_by (λ (h : Hand). is_one x h.number) hands ≡ 0 → All (λ (h : Hand). x ≢ h.number) hands
  differs x [] empty = All-nil (λ (h : Hand). x ≢ h.number)
  differs x (one ∷ hands) empty =
      let sum = sum_by-cons (λ (h : Hand). is_one x h.number) one hands in
      All-cons (λ (h : Hand). x ≢ h.number) one hands
      (λ same. absurd (omega (arith, is_one-same x one.number (sym same))))
      (differs x hands (omega arith))

  others_differ : (s : Table) (k : Rule s) (id : ℕ) (one : Hand) (j : ℕ) (u : View) → get_elem? s.views id ≡ some (busy one) → j ≢ id → get_elem? s.views j ≡ some u
      → All (λ (h : Hand). one.number ≢ h.number) u.hands
  others_differ s k id one j u at apart there =
      let x = one.number in
      let own : weight (is_one x) (busy one) ≡ 1 = omega (arith, is_one-same x one.number refl, sum_by-cons (λ (h : Hand). is_one x h.number) one []) in
      let two = two-le-sum_by (weight (is_one x)) s.views id j (busy one) u apart at there in
      let all = k.numbers (is_one x) in
      differs x u.hands (omega (arith, sum_by-once x 1 passes))

  hands_later : (deeds : List Deed) (deed : Deed) (hands : List Hand) → All (IsHand book passes deeds) hands → All (λ (h : Hand). author deed ≢ h.number) hands
      → All (IsHand book passes (deeds ++ deed ∷ [])) hands
  hands_later deeds deed [] are differ = All-nil (IsHand book passes (deeds ++ deed ∷ []))
  hands_later deeds deed (one ∷ hands) are differ =
      let other = All-head (λ (h : Hand). author deed ≢ h.number) one hands differ in
      All-cons (IsHand book passes (deeds ++ deed ∷ [])) one hands
      (hand_later deeds (deed ∷ []) one (All-head (IsHand book passes deeds) one hands are) (All-cons (λ (d : Deed). author d ≢ one.number) deed [] other (All-nil (λ (d : Deed). author d ≢ one.number))))
      (hands_later deeds deed hands (All-tail (IsHand book passes deeds) one hands are) (All-tail (λ (h : Hand). author deed ≢ h.number) one hands differ))

  -- a step that changes nothing
  stays : (s : Table) (i id : ℕ) (me : Sat) → Rule s → get_elem? s.views id ≡ some me.0 → Rule (stepped s i (get_or s.words i 0) id me.1 me.0 keeps)
  stays s i id me k at =
      let P : List ℕ → List View → Type 0 = λ ws vs. Rule (record { words = ws; homes = s.homes; views = vs }) in
      let words = set-get_or s.words i 0 in
      let views = set_again s.views id me.0 at in
      subst (λ (ws : List ℕ). P ws (set s.views id me.0)) (sym words) (subst (λ (vs : List View). P s.words vs) (sym views) k)

  -- what a resting seat finds when the turn is free
  takes_rule : (s : Table) (k : Rule s) (id : ℕ) (one : Hand) (own : IsHand book passes k.deeds one) → get_elem? s.views id ≡ some (idle one) → k.turn ≡ 0
      → Rule (stepped s 1 one.number id [] (busy (told one own.later)) (takes 0 (Some (plant_of (told one own.later)))))
  takes_rule s k id one own at free = record {
    deeds = k.deeds;
    turn = one.number;
    home = none;
    words = ap (λ (ws : List ℕ). set ws 1 one.number) k.words;
    slots = ap (λ (hs : List (maybe.Option Slot)). set hs 0 none) k.slots;
    answered = k.answered;
    signed = k.signed;
    free = λ zero_is. let low = own.low in absurd (omega arith);
    out = λ _. refl;
    taken = λ _. record { seat = id; view = busy (told one own.later); there = set_here s.views id (busy (told one own.later)) (inside s.views id (idle one) at); holds = refl };
    views = views_set k.deeds one.number s.views id (busy (told one own.later))
        (record {
          hands = one_hand k.deeds (told one own.later) (hand_told k.deeds k.deeds one own (one.seen ++ own.later) own.begins);
          holder = λ _. record { one = told one own.later; alone = refl; number = refl; all = sym own.begins };
        })
        (λ j u _ there. record { hands = (k.views j u there).hands; holder = λ holds. absurd (nobody s k j u there free holds) });
    numbers = λ heavy. numbers_set heavy s.views id (idle one) (busy (told one own.later)) at refl (k.numbers heavy);
  }

  tries_at : (slots id : ℕ) (one : Hand) → Allows Rule slots id (resting one) 1 (λ n. either (eqb n 0) one.number n) (Tries (step slots 1 0 one.number none) (resting one))
  tries_at slots id one s k long at fits =
      let own = All-head (IsHand book passes k.deeds) one [] (k.views id (idle one) at).hands in
      let turn_is : get_or s.words 1 0 ≡ k.turn = ap (λ (ws : List ℕ). get_or ws 1 0) k.words in
      let n = get_or s.words 1 0 in
      dite (ℕ_discrete n 0)
      (λ (free : n ≡ 0).
      let new = told one own.later in
      let lives : life_of book k.deeds ≡ life_of one.plant (one.seen ++ own.later) = λ i. life_of (sym own.plant i) (own.begins i) in
      let home : get_elem? s.homes 0 ≡ some (some (Some (plant_of new))) =
      ap (λ (hs : List (maybe.Option Slot)). get_elem? hs 0) k.slots ∙ ap some (k.free (sym turn_is ∙ free) ∙ ap (λ (l : Life). some (Some l.last)) lives) in (
        busy new,
        takes 0 (Some (plant_of new)),
        home,
        subst (λ (m : ℕ). Rule (stepped s 1 m id [] (busy new) (takes 0 (Some (plant_of new))))) (sym (ap (λ (b : Bool). either b one.number n) (eq-eqb n 0 free)))
            (takes_rule s k id one own at (sym turn_is ∙ free)),
        λ other is. (
          (λ _. subst (λ (h : Hand). Takes h (holding new (Some (plant_of new)))) (ap (hand_in one) is)
              (record { between = own.later; others = own.others; answered = subst IsLife lives k.answered; holds = refl })),
          (λ ne. absurd (ne free)),
        ),
      ))
      (λ (taken : n ≢ 0). (
        idle one,
        keeps,
        tt,
        subst (λ (m : ℕ). Rule (stepped s 1 m id [] (idle one) keeps)) (sym (ap (λ (b : Bool). either b one.number n) (ne_eqb n 0 taken))) (stays s 1 id (resting one) k at),
        λ other is. ((λ free. absurd (taken free)), (λ _. refl)),
      ))

  pub tries : (slots id number : ℕ) (me : Sat) (one : Hand) → me ≡ resting one → one.number ≡ number
      → Allows Rule slots id me 1 (λ n. either (eqb n 0) number n) (Tries (step slots 1 0 number none) me)
  tries slots id number me one rests is =
      let P : Sat → ℕ → Type 0 = λ m x. Allows Rule slots id m 1 (λ n. either (eqb n 0) x n) (Tries (step slots 1 0 x none) m) in
      subst (λ (m : Sat). P m number) (sym rests) (subst (λ (x : ℕ). P (resting one) x) is (tries_at slots id one))

  pub sees_front : (slots id : ℕ) (me : Sat) → Allows Rule slots id me 0 (λ n. n) (SeesFront (step slots 0 0 0 none) me)
  sees_front slots id me s k long at fits = (
    me.0,
    keeps,
    tt,
    stays s 0 id me k at,
    (
      refl,
      λ one is.
          let mine = has_turn s k id one (at ∙ ap some is) in
          ap (λ (ws : List ℕ). get_or ws 0 0) k.words ∙ (λ i. front (sym mine.0.plant i) (sym mine.2 i)),
    ),
  )

  pub sees_base : (slots id : ℕ) (me : Sat) → Allows Rule slots id me 2 (λ n. n) (SeesBase (step slots 2 0 0 none) me)
  sees_base slots id me s k long at fits = (
    me.0,
    keeps,
    tt,
    stays s 2 id me k at,
    (
      refl,
      λ one is.
          let mine = has_turn s k id one (at ∙ ap some is) in
          ap (λ (ws : List ℕ). get_or ws 2 0) k.words ∙ (λ i. base (sym mine.0.plant i) (sym mine.2 i)),
    ),
  )

  -- one more deed of the seat that has the turn: the words are those of the deeds with it
  does_rule : (s : Table) (k : Rule s) (id i n : ℕ) (one : Hand) (cs : List (ℕ × Slot)) (deed : Deed) → get_elem? s.views id ≡ some (busy one) → author deed ≡ one.number
      → IsLife (life_of one.plant (one.seen ++ deed ∷ [])) → set (front book k.deeds ∷ k.turn ∷ base book k.deeds ∷ []) i n ≡ front book (k.deeds ++ deed ∷ []) ∷ k.turn ∷ base book (k.deeds ++ deed ∷ []) ∷ []
      → Rule (stepped s i n id cs (busy (told one (deed ∷ []))) keeps)
  does_rule s k id i n one cs deed at own answered words =
      let mine = has_turn s k id one at in
      let low = mine.0.low in
      let all : k.deeds ++ deed ∷ [] ≡ one.seen ++ deed ∷ [] = ap (λ (ds : List Deed). ds ++ deed ∷ []) (sym mine.2) in
      let lives : life_of one.plant (one.seen ++ deed ∷ []) ≡ life_of book (k.deeds ++ deed ∷ []) = λ j. life_of (mine.0.plant j) (sym all j) in
      let new = told one (deed ∷ []) in
      let busy_turn : k.turn ≢ 0 = λ zero_is. let number = mine.1 in absurd (omega arith) in
      record {
        deeds = k.deeds ++ deed ∷ [];
        turn = k.turn;
        home = k.home;
        words = ap (λ (ws : List ℕ). set ws i n) k.words ∙ words;
        slots = k.slots;
        answered = subst IsLife lives answered;
        signed = All-append (λ (d : Deed). (1 ≤ author d) × (author d ≤ passes)) k.deeds (deed ∷ []) k.signed
            (All-cons (λ (d : Deed). (1 ≤ author d) × (author d ≤ passes)) deed [] (subst (λ (x : ℕ). (1 ≤ x) × (x ≤ passes)) (sym own) (mine.0.low, mine.0.high)) (All-nil (λ (d : Deed). (1 ≤ author d) × (author d ≤ passes))));
        free = λ zero_is. absurd (busy_turn zero_is);
        out = k.out;
        taken = λ _. record { seat = id; view = busy new; there = set_here s.views id (busy new) (inside s.views id (busy one) at); holds = refl };
        views = views_set (k.deeds ++ deed ∷ []) k.turn s.views id (busy new)
            (record {
              hands = one_hand (k.deeds ++ deed ∷ []) new (hand_told k.deeds (k.deeds ++ deed ∷ []) one mine.0 (one.seen ++ deed ∷ []) all);
              holder = λ _. record { one = new; alone = refl; number = mine.1; all = sym all };
            })
            (λ j u apart there. record {
              hands = hands_later k.deeds deed u.hands (k.views j u there).hands
                  (subst (λ (x : ℕ). All (λ (h : Hand). x ≢ h.number) u.hands) (sym own) (others_differ s k id one j u at apart there));
              holder = λ holds. absurd (nobody_else s k id one j u at apart there holds);
            });
        numbers = λ heavy. numbers_set heavy s.views id (busy one) (busy new) at refl (k.numbers heavy);
      }

  raises_at : (slots id new : ℕ) (one : Hand) (entry : Entry) → new ≡ front one.plant one.seen + 1 → IsLife (life_of one.plant (one.seen ++ Entered one.number entry ∷ []))
      → Allows Rule slots id (holding one (Some (with_one (plant_of one) entry))) 0 (λ _. new)
      (λ _. Raises (step slots 0 new 0 none) (holding one (Some (with_one (plant_of one) entry))) new)
  raises_at slots id new one entry more answered s k long at fits =
      let mine = has_turn s k id one at in
      let deed = Entered one.number entry in
      let fronts : front one.plant one.seen ≡ front book k.deeds = λ i. front (mine.0.plant i) (mine.2 i) in
      let up : new ≡ front book (k.deeds ++ deed ∷ []) = more ∙ ap (λ (n : ℕ). n + 1) fronts ∙ sym (front-entered book k.deeds one.number entry) in (
        busy (told one (deed ∷ [])),
        keeps,
        tt,
        does_rule s k id 0 new one ((0, Some (with_one (plant_of one) entry)) ∷ []) deed at refl answered (λ i. up i ∷ k.turn ∷ sym (base-entered book k.deeds one.number entry) i ∷ []),
        λ other its is.
            let same : one ≡ other = ap (hand_in one) is in
            let entries : entry ≡ its = sym (last_of-push entry (plant_of one).entries entry) ∙ ap (λ (m : Sat). last_of entry (entries_in m.1)) is ∙ last_of-push entry (plant_of other).entries its in
            λ i. (busy (told (same i) (Entered (same i).number (entries i) ∷ [])), (is i).1),
      )

  pub raises : (slots id new : ℕ) (me : Sat) (one : Hand) (entry : Entry) → me ≡ holding one (Some (with_one (plant_of one) entry)) → new ≡ front one.plant one.seen + 1
      → IsLife (life_of one.plant (one.seen ++ Entered one.number entry ∷ []))
      → Allows Rule slots id me 0 (λ _. new) (λ _. Raises (step slots 0 new 0 none) me new)
  raises slots id new me one entry is more answered =
      subst (λ (m : Sat). Allows Rule slots id m 0 (λ _. new) (λ _. Raises (step slots 0 new 0 none) m new)) (sym is) (raises_at slots id new one entry more answered)

  cuts_at : (slots id new : ℕ) (one : Hand) (slot : Slot) → new ≡ front one.plant one.seen → IsLife (life_of one.plant (one.seen ++ Rolled one.number ∷ []))
      → Allows Rule slots id (holding one slot) 2 (λ _. new) (λ _. Cuts (step slots 2 new 0 none) (holding one slot) new)
  cuts_at slots id new one slot is_front answered s k long at fits =
      let mine = has_turn s k id one at in
      let deed = Rolled one.number in
      let fronts : front one.plant one.seen ≡ front book k.deeds = λ i. front (mine.0.plant i) (mine.2 i) in
      let up : new ≡ base book (k.deeds ++ deed ∷ []) = is_front ∙ fronts ∙ sym (base-rolled book k.deeds one.number) in (
        busy (told one (deed ∷ [])),
        keeps,
        tt,
        does_rule s k id 2 new one ((0, slot) ∷ []) deed at refl answered (λ i. sym (front-rolled book k.deeds one.number) i ∷ k.turn ∷ up i ∷ []),
        λ other its is.
            let same : one ≡ other = ap (hand_in one) is in
            λ i. (busy (told (same i) (Rolled (same i).number ∷ [])), (is i).1),
      )

  pub cuts : (slots id new : ℕ) (me : Sat) (one : Hand) (slot : Slot) → me ≡ holding one slot → new ≡ front one.plant one.seen → IsLife (life_of one.plant (one.seen ++ Rolled one.number ∷ []))
      → Allows Rule slots id me 2 (λ _. new) (λ _. Cuts (step slots 2 new 0 none) me new)
  cuts slots id new me one slot is is_front answered =
      subst (λ (m : Sat). Allows Rule slots id m 2 (λ _. new) (λ _. Cuts (step slots 2 new 0 none) m new)) (sym is) (cuts_at slots id new one slot is_front answered)

  gives_at : (slots id : ℕ) (one : Hand) → Allows Rule slots id (holding one (Some (plant_of one))) 1 (λ _. 0) (λ _. Gives (step slots 1 0 0 none) (holding one (Some (plant_of one))) 0)
  gives_at slots id one s k long at fits =
      let mine = has_turn s k id one at in
      let lives : life_of one.plant one.seen ≡ life_of book k.deeds = λ i. life_of (mine.0.plant i) (mine.2 i) in (
        idle one,
        gives,
        tt,
        record {
          deeds = k.deeds;
          turn = 0;
          home = some (Some (plant_of one));
          words = ap (λ (ws : List ℕ). set ws 1 0) k.words;
          slots = ap (λ (hs : List (maybe.Option Slot)). set hs 0 (some (Some (plant_of one)))) k.slots;
          answered = k.answered;
          signed = k.signed;
          free = λ _. ap (λ (l : Life). some (Some l.last)) lives;
          out = λ ne. absurd (ne refl);
          taken = λ ne. absurd (ne refl);
          views = views_set k.deeds 0 s.views id (idle one)
              (record { hands = (k.views id (busy one) at).hands; holder = λ holds. absurd (off holds) })
              (λ j u apart there. record { hands = (k.views j u there).hands; holder = λ holds. absurd (nobody_else s k id one j u at apart there holds) });
          numbers = λ heavy. numbers_set heavy s.views id (busy one) (idle one) at refl (k.numbers heavy);
        },
        λ other slot is. ap (λ (h : Hand). resting h) (ap (hand_in one) is),
      )

  pub gives_back : (slots id : ℕ) (me : Sat) (one : Hand) → me ≡ holding one (Some (plant_of one)) → Allows Rule slots id me 1 (λ _. 0) (λ _. Gives (step slots 1 0 0 none) me 0)
  gives_back slots id me one is = subst (λ (m : Sat). Allows Rule slots id m 1 (λ _. 0) (λ _. Gives (step slots 1 0 0 none) m 0)) (sym is) (gives_at slots id one)
