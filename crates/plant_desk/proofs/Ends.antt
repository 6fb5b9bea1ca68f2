-- How a desk begins, how its passes part and come together, and how it ends.
use Rattle.std.proofs.Common.{◌≡◌, ◌≢◌, ℕ, zero, suc, ◌+◌, ◌≤◌, false, List, [], ◌∷◌, ◌++◌, map, length, set, take, drop, Some, None, refl, sym, ap, subst, ◌∙◌, ⊎_elim, arith}
use Rattle.std.specs.Prelude.{All}
use Rattle.std.specs.List.{sum_by, range_with_len}
use Rattle.std.proofs.lemmas.List.Elements.{All-nil, All-cons, All-head, All-tail, All-append}
use Rattle.std.proofs.lemmas.List.Sums.{sum_by-cons, sum_by-append}
use mathlib.Core.Logic.{dite}
use mathlib.Core.Option.{some, none, some-ne-none, some-injective}
use mathlib.Core.Option as maybe
use native.Mathlib.Decide.{ℕ_discrete}
use lib.ListN.{get_elem?}
use Rattle.atomic_table.specs.Table.{step, Splits, Joins, Enters, Final, Seen, opening}
use Rattle.atomic_table.proofs.Lists.{at_set, at_snoc, set_else, at_longer}
use Rattle.plant_book.specs.Part.{PartRecord}
use Rattle.plant_ledger.specs.Plant as ledger
use Rattle.plant_desk.specs.declared.deed.Deed.{Deed}
use Rattle.plant_desk.specs.declared.board.Hand.{Hand}
use Rattle.plant_desk.specs.declared.board.View.{View}
use Rattle.plant_desk.specs.Deeds.{author, life_of}
use Rattle.plant_desk.specs.Hands.{hand, spent, first_view, first_of, others_of, both, weight}
use Rattle.plant_desk.specs.Rule.{Slot, Table, last_book, IsHand, IsView, IsDesk, Comes, IsOver}
use Rattle.plant_desk.specs.Deeds.{entries_by, rolls_by}
use Rattle.plant_desk.specs.Passes.{DeskRecord, PassRecord, first_place, entries, rolls, IsClosed}
use Rattle.plant_desk.specs.Kept.{as_hand}
use Rattle.plant_desk.proofs.Lives.{first_is_life}
use Rattle.plant_desk.proofs.Passes.{entries_by-same, rolls_by-same}
use Rattle.plant_desk.proofs.Sums.{sum_by-set_at, two-le-sum_by, sum_by-only, sum_by-map_of, sum_by-ones, sum_by-length, empty-of_length, is_one, sum_by-there}
use Rattle.plant_desk.proofs.Kept.{off, views_set}

module _ (book : PartRecord) (passes : ℕ) where
  abbrev Rule : Table → Type 0
  Rule = IsDesk book passes

  abbrev Known : List Deed → List Hand → Type 0
  Known deeds = All (IsHand book passes deeds)

  first_hands : (deeds : List Deed) (hands : List Hand) → Known deeds hands → Known deeds (take 1 hands)
  first_hands deeds [] are = All-nil (IsHand book passes deeds)
  first_hands deeds (one ∷ hands) are = All-cons (IsHand book passes deeds) one [] (All-head (IsHand book passes deeds) one hands are) (All-nil (IsHand book passes deeds))

  other_hands : (deeds : List Deed) (hands : List Hand) → Known deeds hands → Known deeds (drop 1 hands)
  other_hands deeds [] are = All-nil (IsHand book passes deeds)
  other_hands deeds (one ∷ hands) are = All-tail (IsHand book passes deeds) one hands are

  parted : (heavy : Hand → ℕ) (hands : List Hand) → sum_by heavy (take 1 hands) + sum_by heavy (drop 1 hands) ≡ sum_by heavy hands
  parted heavy [] = refl
  parted heavy (one ∷ hands) = omega (arith, sum_by-cons heavy one [], sum_by-cons heavy one hands)

  -- a seat without the turn gives away its first pass
  pub splits : (id : ℕ) (v : View) → v.holds ≡ false → Splits Rule id v (others_of v) (first_of v)
  splits id v free s k at = record {
    deeds = k.deeds;
    turn = k.turn;
    home = k.home;
    words = k.words;
    slots = k.slots;
    answered = k.answered;
    signed = k.signed;
    free = k.free;
    out = k.out;
    taken = λ busy.
        let t = k.taken busy in
        record {
          seat = t.seat;
          view = t.view;
          there = at_longer (set s.views id (others_of v)) (first_of v ∷ []) t.seat t.view
              (set_else s.views id t.seat (others_of v) (λ same. absurd (off (sym free ∙ ap (λ (u : View). u.holds) (some-injective v t.view (sym at ∙ ap (get_elem? s.views) (sym same) ∙ t.there)) ∙ t.holds))) ∙ t.there);
          holds = t.holds;
        };
    views = λ j u there. ⊎_elim
        (views_set book passes k.deeds k.turn s.views id (others_of v)
        (record { hands = other_hands k.deeds v.hands (k.views id v at).hands; holder = λ holds. absurd (off (sym free ∙ holds)) })
        (λ i w _ its. k.views i w its) j u)
        (λ (same : first_of v ≡ u). subst (IsView book passes k.deeds k.turn) same
        (record { hands = first_hands k.deeds v.hands (k.views id v at).hands; holder = λ holds. absurd (off holds) }))
        (at_snoc (set s.views id (others_of v)) (first_of v) u j there);
    numbers = λ heavy.
        let whole = parted (λ (h : Hand). heavy h.number) v.hands in
        let one = sum_by-set_at (weight heavy) s.views id v (others_of v) at in
        let last = sum_by-append (weight heavy) (set s.views id (others_of v)) (first_of v ∷ []) in
        let alone = sum_by-cons (weight heavy) (first_of v) [] in
        let all = k.numbers heavy in
        omega arith;
  }

  -- a seat without the turn takes in the passes of another one
  pub joins : (id : ℕ) (v : View) (other : ℕ) (w : View) → v.holds ≡ false → w.holds ≡ false → Joins Rule id v other w (both v w) spent
  joins id v other w free free_too s k at apart there =
      let its : get_elem? s.views other ≡ some w =
      ⊎_elim (λ (t : (other ≡ id) × (both v w ≡ w)). absurd (apart t.0)) (λ (t : (other ≢ id) × (get_elem? s.views other ≡ some w)). t.1) (at_set s.views id other (both v w) w there) in
      record {
        deeds = k.deeds;
        turn = k.turn;
        home = k.home;
        words = k.words;
        slots = k.slots;
        answered = k.answered;
        signed = k.signed;
        free = k.free;
        out = k.out;
        taken = λ busy.
            let t = k.taken busy in
            record {
              seat = t.seat;
              view = t.view;
              there = set_else (set s.views id (both v w)) other t.seat spent
                  (λ same. absurd (off (sym free_too ∙ ap (λ (u : View). u.holds) (some-injective w t.view (sym its ∙ ap (get_elem? s.views) (sym same) ∙ t.there)) ∙ t.holds)))
                  ∙ set_else s.views id t.seat (both v w) (λ same. absurd (off (sym free ∙ ap (λ (u : View). u.holds) (some-injective v t.view (sym at ∙ ap (get_elem? s.views) (sym same) ∙ t.there)) ∙ t.holds))) ∙ t.there;
              holds = t.holds;
            };
        views = views_set book passes k.deeds k.turn (set s.views id (both v w)) other spent
            (record { hands = All-nil (IsHand book passes k.deeds); holder = λ holds. absurd (off holds) })
            (λ j u _ here. views_set book passes k.deeds k.turn s.views id (both v w)
            (record {
              hands = All-append (IsHand book passes k.deeds) w.hands v.hands (k.views other w its).hands (k.views id v at).hands;
              holder = λ holds. absurd (off (sym free ∙ holds));
            })
            (λ i x _ at_i. k.views i x at_i) j u here);
        numbers = λ heavy.
            let one = sum_by-set_at (weight heavy) s.views id v (both v w) at in
            let two = sum_by-set_at (weight heavy) (set s.views id (both v w)) other w spent there in
            let sum = sum_by-append (λ (h : Hand). heavy h.number) w.hands v.hands in
            let all = k.numbers heavy in
            omega arith;
      }

  -- a new seat without a pass
  pub comes : (slots : ℕ) → Enters Rule slots 0 (λ n w. Comes (step slots 0 0 0 none) (first_view book passes, []) n (w, []))
  comes slots s k long fits = (
    spent,
    record {
      deeds = k.deeds;
      turn = k.turn;
      home = k.home;
      words = k.words;
      slots = k.slots;
      answered = k.answered;
      signed = k.signed;
      free = k.free;
      out = k.out;
      taken = λ busy. let t = k.taken busy in record { seat = t.seat; view = t.view; there = at_longer s.views (spent ∷ []) t.seat t.view t.there; holds = t.holds };
      views = λ j u there. ⊎_elim (k.views j u)
          (λ (same : spent ≡ u). subst (IsView book passes k.deeds k.turn) same (record { hands = All-nil (IsHand book passes k.deeds); holder = λ holds. absurd (off holds) }))
          (at_snoc s.views spent u j there);
      numbers = λ heavy.
          let last = sum_by-append (weight heavy) s.views (spent ∷ []) in
          let all = k.numbers heavy in
          omega arith;
    },
    refl,
  )

  -- the hands of the passes before any deed
  first_known : (from count : ℕ) → 1 ≤ from → from + count ≤ passes + 1 → Known [] (map (λ number. hand book passes number []) (range_with_len from count))
  first_known from zero low high = All-nil (IsHand book passes [])
  first_known from (suc count) low high = All-cons (IsHand book passes []) (hand book passes from []) (map (λ number. hand book passes number []) (range_with_len (from + 1) count))
      (record { plant = refl; count = refl; low = low; high = omega arith; later = []; begins = refl; others = All-nil (λ (d : Deed). author d ≢ from) })
      (first_known (from + 1) count (omega arith) (omega arith))

  -- the table at the start
  pub starts : ledger.IsKept book → book.carry ≡ None → (ws : List ℕ) → ws ≡ length book.entries ∷ 0 ∷ 0 ∷ [] → Rule (opening ws (Some book ∷ []) (first_view book passes))
  starts kept first ws is = record {
    deeds = [];
    turn = 0;
    home = some (Some book);
    words = is;
    slots = refl;
    answered = first_is_life book kept first;
    signed = All-nil (λ (d : Deed). (1 ≤ author d) × (author d ≤ passes));
    free = λ _. refl;
    out = λ ne. absurd (ne refl);
    taken = λ ne. absurd (ne refl);
    views = one;
    numbers = λ heavy. sum_by-cons (weight heavy) (first_view book passes) [] ∙ add (sum_by-map_of (λ (h : Hand). heavy h.number) (λ number. hand book passes number []) (range_with_len 1 passes));
  }
    where
      one : (seat : ℕ) (view : View) → get_elem? (first_view book passes ∷ []) seat ≡ some view → IsView book passes [] 0 view
      one zero view at = subst (IsView book passes [] 0) (some-injective (first_view book passes) view at) (record { hands = first_known 1 passes (omega arith) (omega arith); holder = λ holds. absurd (off holds) })
      one (suc seat) view at = absurd (some-ne-none view (sym at))

      add : {m n : ℕ} → m ≡ n → m + 0 ≡ n
      add e = omega arith

  -- another seat has no pass then
  nothing_else : (s : Table) (k : Rule s) (id : ℕ) (v : View) → get_elem? s.views id ≡ some v → passes ≤ length v.hands → (j : ℕ) (u : View) → j ≢ id → get_elem? s.views j ≡ some u → u.hands ≡ []
  nothing_else s k id v at all j u apart there =
      let two = two-le-sum_by (weight (λ n. 1)) s.views id j v u apart at there in
      let sum = k.numbers (λ n. 1) in
      let mine = sum_by-length v.hands in
      let its = sum_by-length u.hands in
      let ones = sum_by-ones 1 passes in
      empty-of_length u.hands (omega arith)

  nobody_left : (s : Table) (k : Rule s) (id : ℕ) (v : View) → get_elem? s.views id ≡ some v → v.holds ≡ false → passes ≤ length v.hands → k.turn ≢ 0 → ⊥
  nobody_left s k id v at free all busy =
      let t = k.taken busy in
      let turn = (k.views t.seat t.view t.there).holder t.holds in
      dite (ℕ_discrete t.seat id)
      (λ (same : t.seat ≡ id). off (sym free ∙ ap (λ (u : View). u.holds) (some-injective v t.view (sym at ∙ ap (get_elem? s.views) (sym same) ∙ t.there)) ∙ t.holds))
      (λ (other : t.seat ≢ id).
      let empty = ap (λ (hs : List Hand). length hs) (nothing_else s k id v at all t.seat t.view other t.there) in
      let some_hand : length t.view.hands ≡ 1 = ap (λ (u : View). length u.hands) turn.alone in
      absurd (omega arith))

  pub is_over : (id : ℕ) (v : View) (ws : List ℕ) (xs : List Slot) (slot : Slot) → v.holds ≡ false → passes ≤ length v.hands → Final (Seen Rule id v) ws xs → get_elem? xs 0 ≡ some slot → IsOver book passes v.hands slot
  is_over id v ws xs slot free all final here =
      let s = final.0 in
      let k = final.1.0 in
      let at = final.1.1 in
      let turn : k.turn ≡ 0 = dite (ℕ_discrete k.turn 0) (λ zero_is. zero_is) (λ busy. absurd (nobody_left s k id v at free all busy)) in
      let home : get_elem? s.homes 0 ≡ some (some (Some (last_book book k.deeds))) = ap (λ (hs : List (maybe.Option Slot)). get_elem? hs 0) k.slots ∙ ap some (k.free turn) in
      record {
        deeds = k.deeds;
        answered = k.answered;
        signed = k.signed;
        known = (k.views id v at).hands;
        numbers = λ heavy.
            sym (sum_by-only (weight heavy) s.views id v at (λ j u apart there. ap (λ (hs : List Hand). sum_by (λ (h : Hand). heavy h.number) hs) (nothing_else s k id v at all j u apart there))) ∙ k.numbers heavy;
        plant = some-injective slot (Some (last_book book k.deeds)) (sym here ∙ final.4 0 (Some (last_book book k.deeds)) home);
      }

-- what is true of the hands of passes is true of the passes
all_of : (book : PartRecord) (passes : ℕ) (deeds : List Deed) (Fact : PassRecord → Type 0) → ((pass : PassRecord) → IsHand book passes deeds (as_hand pass) → Fact pass)
    → (all : List PassRecord) → All (IsHand book passes deeds) (map as_hand all) → All Fact all
all_of book passes deeds Fact each [] are = All-nil Fact
all_of book passes deeds Fact each (pass ∷ all) are =
    All-cons Fact pass all (each pass (All-head (IsHand book passes deeds) (as_hand pass) (map as_hand all) are)) (all_of book passes deeds Fact each all (All-tail (IsHand book passes deeds) (as_hand pass) (map as_hand all) are))

-- so the life comes from the passes
pub is_closed : (desk : DeskRecord) (all : List PassRecord) (hands : List Hand) (slot : Slot) → All (λ pass. pass.desk ≡ desk) all → hands ≡ map as_hand all
    → IsOver desk.book desk.passes hands slot → (plant : PartRecord) → slot ≡ Some plant → IsClosed desk all plant
is_closed desk all hands slot of_desk are over plant is = record {
  life = life_of desk.book over.deeds;
  comes = record {
    deeds = over.deeds;
    made = refl;
    answered = over.answered;
    of_desk = of_desk;
    numbers = λ number low high.
        sym (sum_by-map_of (λ (h : Hand). is_one number h.number) as_hand all) ∙ ap (λ (hs : List Hand). sum_by (λ (h : Hand). is_one number h.number) hs) (sym are)
        ∙ over.numbers (is_one number) ∙ sum_by-there number 1 desk.passes low (omega arith);
    signed = over.signed;
    begins = all_of desk.book desk.passes over.deeds (λ pass. (later : List Deed) × (over.deeds ≡ pass.seen ++ later)) (λ pass its. (its.later, its.begins)) all known;
    entries = all_of desk.book desk.passes over.deeds (λ pass. entries_by pass.number (first_place desk) over.deeds ≡ entries pass)
        (λ pass its. ap (entries_by pass.number (first_place desk)) its.begins ∙ entries_by-same pass.number (first_place desk) pass.seen its.later its.others
        ∙ ap (λ (b : PartRecord). entries_by pass.number (length b.entries) pass.seen) (sym its.plant)) all known;
    rolls = all_of desk.book desk.passes over.deeds (λ pass. rolls_by pass.number (first_place desk) over.deeds ≡ rolls pass)
        (λ pass its. ap (rolls_by pass.number (first_place desk)) its.begins ∙ rolls_by-same pass.number (first_place desk) pass.seen its.later its.others
        ∙ ap (λ (b : PartRecord). rolls_by pass.number (length b.entries) pass.seen) (sym its.plant)) all known;
  };
  last = some_is (sym is ∙ over.plant);
}
  where
    known : All (IsHand desk.book desk.passes over.deeds) (map as_hand all)
    known = subst (All (IsHand desk.book desk.passes over.deeds)) are over.known

    some_is : {p q : PartRecord} → Some p ≡ Some q → p ≡ q
    some_is e = cc
