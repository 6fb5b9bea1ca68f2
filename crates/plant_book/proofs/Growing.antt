-- What an inverter may have done, one event after another.
use Rattle.std.proofs.Common.{◌≡◌, ℕ, ◌+◌, ◌-◌, ◌*◌, ◌/◌, ◌≤◌, Bool, true, false, cond, List, [], ◌∷◌, ◌++◌, length, Option, Some, None, refl, sym, ap, subst, ◌∙◌, append_assoc, arith}
use Rattle.std.specs.Prelude.{find, Contains, IsSomeAnd, count_by}
use Rattle.std.specs.List.{AllByRecursion}
use Rattle.std.specs.Option.{option_or}
use Rattle.std.specs.Int.{div_ceil}
use Rattle.std.proofs.lemmas.List.{length-append}
use Rattle.std.proofs.lemmas.List.Folds.{find-append}
use Rattle.std.proofs.lemmas.Grind.{div_ceil_times}
use Rattle.std.proofs.Math.Nat.{div-mul-le_self, mul-le-mul_left}
use Rattle.limiter_num.specs.declared.rules.Rules.{Rules}
use Rattle.limiter_num.specs.Timers.{tmin, tmax, last_act}
use Rattle.plant_book.specs.Sums.{last_that}
use Rattle.plant_book.specs.History.{History, Grant, Sight, grants, sights, is_granted_after, link_of_grant, link_of_sight}
use Rattle.plant_book.specs.Behaviour.{Act, Revert, Look, Timed, is_change, IsAct, IsAsked, Precedes, IsBehaviour, is_look_of, held}
use Rattle.plant_book.specs.Start.{InTime, IsStart}
use Rattle.plant_book.proofs.Places.{last_that-is}

-- the shortest timer is no longer than the longest
pub tmin_le-tmax : (rules : Rules) → tmin rules ≤ tmax rules
unfolding tmin tmax
tmin_le-tmax rules =
    let low = rules.timer * 1000 * (1000 - rules.per_mille) in
    let high = rules.timer * 1000 * (1000 + rules.per_mille) in
    let less : low ≤ high = mul-le-mul_left (rules.timer * 1000) (omega arith) in
    let ends : low / 1000 ≤ div_ceil high 1000 = omega (arith, less, div-mul-le_self low 1000, (div_ceil_times high 1000 (omega arith)).0) in
    omega (arith, ends)

-- what holds of each element holds at each place
pub has_place : {X : Type 0} (P : X → Type 0) (before : List X) (x : X) (after : List X) → AllByRecursion P (before ++ x ∷ after) → P x
has_place P [] x after all = all.0
has_place P (y ∷ before) x after all = has_place P before x after all.1

-- a place in a list with one more at its end: the last one, or one before it
pub record NotLast {X : Type 0} (xs : List X) (last : X) (before : List X) (x : X) (after : List X) : Type 0 where
  pub rest : List X
  pub to_after : after ≡ rest ++ last ∷ []
  pub stand : xs ≡ before ++ x ∷ rest

pub data PushPlaces {X : Type 0} (xs : List X) (last : X) (before : List X) (x : X) (after : List X) : Type 0 where
  AtLast : before ≡ xs → x ≡ last → after ≡ [] → PushPlaces xs last before x after
  Sooner : NotLast xs last before x after → PushPlaces xs last before x after

tails : {X : Type 0} (x y : X) (xs ys : List X) → x ∷ xs ≡ y ∷ ys → xs ≡ ys
tails x y xs ys is = cc

heads : {X : Type 0} (x y : X) (xs ys : List X) → x ∷ xs ≡ y ∷ ys → x ≡ y
heads x y xs ys is = cc

one_more_place : {X : Type 0} (xs : List X) (last : X) (before : List X) (x : X) (after : List X) (y z : X) → y ≡ z → PushPlaces xs last before x after → PushPlaces (y ∷ xs) last (z ∷ before) x after
one_more_place {X = X} xs last before x after y z same (AtLast a b c) = AtLast (ap (λ (ys : List X). z ∷ ys) a ∙ ap (λ (w : X). w ∷ xs) (sym same)) b c
one_more_place {X = X} xs last before x after y z same (Sooner p) = Sooner (record { rest = p.rest; to_after = p.to_after; stand = ap (λ (ys : List X). y ∷ ys) p.stand ∙ ap (λ (w : X). w ∷ (before ++ x ∷ p.rest)) same })

pub push_places : {X : Type 0} (xs : List X) (last : X) (before : List X) (x : X) (after : List X) → xs ++ last ∷ [] ≡ before ++ x ∷ after → PushPlaces xs last before x after
push_places [] last [] x after is = AtLast refl (sym (heads last x [] after is)) (sym (tails last x [] after is))
push_places {X = X} [] last (y ∷ before) x after is = absurd (omega (arith, ap (λ (ys : List X). length ys) is, length-append before (x ∷ after)))
push_places {X = X} (y ∷ xs) last [] x after is = Sooner (record { rest = xs; to_after = sym (tails y x (xs ++ last ∷ []) after is); stand = ap (λ (w : X). w ∷ xs) (heads y x (xs ++ last ∷ []) after is) })
push_places (y ∷ xs) last (z ∷ before) x after is =
    one_more_place xs last before x after y z (heads y z (xs ++ last ∷ []) (before ++ x ∷ after) is) (push_places xs last before x after (tails y z (xs ++ last ∷ []) (before ++ x ∷ after) is))

-- a place of two events in a list with one more: both before it, or the second is it
pub data PushPrecedes (events : List Timed) (last first second : Timed) : Type 0 where
  Both : Precedes events first second → PushPrecedes events last first second
  Ends : second ≡ last → (before after : List Timed) → events ≡ before ++ first ∷ after → PushPrecedes events last first second

pub push_precedes : (events : List Timed) (last first second : Timed) → Precedes (events ++ last ∷ []) first second → PushPrecedes events last first second
push_precedes events last first second p =
    elim (push_places events last p.before first (p.between ++ second ∷ p.after) p.stand) as (λ _. PushPrecedes events last first second) [
      | AtLast a b c ↦ absurd (omega (arith, ap (λ (ts : List Timed). length ts) c, length-append p.between (second ∷ p.after)))
      | Sooner at_first ↦
          elim (push_places at_first.rest last p.between second p.after (sym at_first.to_after)) as (λ _. PushPrecedes events last first second) [
            | AtLast a b c ↦ Ends b p.before at_first.rest at_first.stand
            | Sooner at_second ↦ Both (record { before = p.before; between = p.between; after = at_second.rest; stand = at_first.stand ∙ ap (λ (ts : List Timed). p.before ++ first ∷ ts) at_second.stand })
          ]
    ]

-- an event that may come next
pub record MayCome (history : History) (inverter : ℕ) (events : List Timed) (next : Timed) : Type 0 where
  pub in_order : AllByRecursion (λ timed. timed.at ≤ next.at) events
  pub acts : (at : ℕ) (grant : Grant) → next ≡ record { at = at; event = Act grant } → Contains (grants history) grant × (grant.write.inverter ≡ inverter)
      × (grant.write.at ≤ at) × (at ≤ last_act history.life.site.rules grant.write.at)
  pub numbers : AllByRecursion (λ timed. (link : ℕ × ℕ) (one other : ℕ) → IsAsked timed.event link one → IsAsked next.event link other → one ≤ other) events
  pub looks : (at : ℕ) (sight : Sight) → next ≡ record { at = at; event = Look sight }
      → Contains (sights history) sight × (sight.read.inverter ≡ inverter) × (sight.read.at ≤ at) × (at ≤ sight.at)
  pub looks_first : AllByRecursion (λ timed. (sight : Sight) (grant : Grant) → timed.event ≡ Act grant → next.event ≡ Look sight → is_granted_after sight grant ≡ false) events
  pub ends : (before after : List Timed) (at : ℕ) (grant : Grant) → events ≡ before ++ record { at = at; event = Act grant } ∷ after
      → find is_change after ≡ None → is_change next ≡ true → next.at ≤ at + tmax history.life.site.rules
  pub reverts : (at : ℕ) → next ≡ record { at = at; event = Revert }
      → IsSomeAnd (last_that is_change events) (λ last. IsAct last.event
      × (last.at + tmin history.life.site.rules ≤ at) × (at ≤ last.at + tmax history.life.site.rules))
  pub shown : (at : ℕ) (sight : Sight) → next ≡ record { at = at; event = Look sight } → held history.life.site inverter events ≡ sight.raw

pub nothing_stands : {X : Type 0} (x : X) (before after : List X) → [] ≡ before ++ x ∷ after → ⊥
nothing_stands {X = X} x before after is = omega (arith, ap (λ (xs : List X). length xs) is, length-append before (x ∷ after))

-- nothing has happened yet
pub start_empty : (history : History) (inverter : ℕ) → IsStart history inverter []
start_empty history inverter = record {
  in_order = λ first second p. absurd (nothing_stands first p.before _ p.stand);
  acts = λ before after at grant is. absurd (nothing_stands _ before after is);
  numbers = λ first second p link one other a b. absurd (nothing_stands first p.before _ p.stand);
  looks = λ before after at sight is. absurd (nothing_stands _ before after is);
  looks_first = λ sight grant first second p a b. absurd (nothing_stands first p.before _ p.stand);
  ends = λ before after at grant is. absurd (nothing_stands _ before after is);
  reverts = λ before after at is. absurd (nothing_stands _ before after is);
  shown = λ before after at sight is. absurd (nothing_stands _ before after is);
}

module _ (history : History) (inverter : ℕ) (events : List Timed) (next : Timed) (start : IsStart history inverter events) (may : MayCome history inverter events next) where
  -- a fact of two events, where it holds of those before and of each with the next
  both : (P : Timed → Timed → Type 0) → ((first second : Timed) → Precedes events first second → P first second) → AllByRecursion (λ timed. P timed next) events
      → (first second : Timed) → Precedes (events ++ next ∷ []) first second → P first second
  both P before with_next first second p =
      elim (push_precedes events next first second p) as (λ _. P first second) [
        | Both q ↦ before first second q
        | Ends is front rest stand ↦ subst (λ (t : Timed). P first t) (sym is) (has_place (λ (timed : Timed). P timed next) front first rest (subst (AllByRecursion (λ (timed : Timed). P timed next)) stand with_next))
      ]

  -- a fact of a place, where it holds of those before and of the next one
  at_each : (P : List Timed → Timed → Type 0) → ((before : List Timed) (x : Timed) (after : List Timed) → events ≡ before ++ x ∷ after → P before x) → P events next
      → (before : List Timed) (x : Timed) (after : List Timed) → events ++ next ∷ [] ≡ before ++ x ∷ after → P before x
  at_each P sooner last before x after is =
      elim (push_places events next before x after is) as (λ _. P before x) [
        | AtLast a b c ↦ subst (λ (t : Timed). P before t) (sym b) (subst (λ (ts : List Timed). P ts next) (sym a) last)
        | Sooner p ↦ sooner before x p.rest p.stand
      ]

  in_time_push : (until : ℕ) (rest : List Timed) → InTime until (find is_change rest) → (find is_change rest ≡ None → is_change next ≡ true → next.at ≤ until) → InTime until (find is_change (rest ++ next ∷ []))
  in_time_push until rest sooner last = subst (InTime until) (sym (find-append is_change rest (next ∷ []))) (by_found (find is_change rest) sooner last)
    where
      by_last : (b : Bool) → (b ≡ true → next.at ≤ until) → InTime until (cond b (Some next) None)
      by_last true le = le refl
      by_last false le = tt

      by_found : (found : Option Timed) → InTime until found → (found ≡ None → is_change next ≡ true → next.at ≤ until) → InTime until (option_or found (cond (is_change next) (Some next) None))
      by_found None in_time le = by_last (is_change next) (le refl)
      by_found (Some one) in_time le = in_time

  ends_push : (before after : List Timed) (at : ℕ) (grant : Grant) → events ++ next ∷ [] ≡ before ++ record { at = at; event = Act grant } ∷ after → InTime (at + tmax history.life.site.rules) (find is_change after)
  ends_push before after at grant is =
      elim (push_places events next before (record { at = at; event = Act grant }) after is) as (λ _. InTime (at + tmax history.life.site.rules) (find is_change after)) [
        | AtLast a b c ↦ subst (λ (ts : List Timed). InTime (at + tmax history.life.site.rules) (find is_change ts)) (sym c) tt
        | Sooner p ↦ subst (λ (ts : List Timed). InTime (at + tmax history.life.site.rules) (find is_change ts)) (sym p.to_after)
            (in_time_push (at + tmax history.life.site.rules) p.rest (start.ends before p.rest at grant p.stand) (λ none change. may.ends before p.rest at grant p.stand none change))
      ]

  -- one more event
  pub start_push : IsStart history inverter (events ++ next ∷ [])
  start_push = record {
    in_order = both (λ first second. first.at ≤ second.at) start.in_order may.in_order;
    acts = λ before after at grant is. at_each (λ _ x. (at : ℕ) (grant : Grant) → x ≡ record { at = at; event = Act grant } → Contains (grants history) grant × (grant.write.inverter ≡ inverter) × (grant.write.at ≤ at) × (at ≤ last_act history.life.site.rules grant.write.at))
        (λ front x rest stand at grant here. start.acts front rest at grant (stand ∙ ap (λ (t : Timed). front ++ t ∷ rest) here)) may.acts before (record { at = at; event = Act grant }) after is at grant refl;
    numbers = both (λ first second. (link : ℕ × ℕ) (one other : ℕ) → IsAsked first.event link one → IsAsked second.event link other → one ≤ other) start.numbers may.numbers;
    looks = λ before after at sight is. at_each (λ _ x. (at : ℕ) (sight : Sight) → x ≡ record { at = at; event = Look sight } → Contains (sights history) sight × (sight.read.inverter ≡ inverter) × (sight.read.at ≤ at) × (at ≤ sight.at))
        (λ front x rest stand at sight here. start.looks front rest at sight (stand ∙ ap (λ (t : Timed). front ++ t ∷ rest) here)) may.looks before (record { at = at; event = Look sight }) after is at sight refl;
    looks_first = λ sight grant first second p. both (λ first second. (sight : Sight) (grant : Grant) → first.event ≡ Act grant → second.event ≡ Look sight → is_granted_after sight grant ≡ false)
        (λ one other q s g. start.looks_first s g one other q) may.looks_first first second p sight grant;
    ends = ends_push;
    reverts = λ before after at is. at_each (λ front x. (at : ℕ) → x ≡ record { at = at; event = Revert } → IsSomeAnd (last_that is_change front) (λ last. IsAct last.event × (last.at + tmin history.life.site.rules ≤ at) × (at ≤ last.at + tmax history.life.site.rules)))
        (λ front x rest stand at here. start.reverts front rest at (stand ∙ ap (λ (t : Timed). front ++ t ∷ rest) here)) may.reverts before (record { at = at; event = Revert }) after is at refl;
    shown = λ before after at sight is. at_each (λ front x. (at : ℕ) (sight : Sight) → x ≡ record { at = at; event = Look sight } → held history.life.site inverter front ≡ sight.raw)
        (λ front x rest stand at sight here. start.shown front rest at sight (stand ∙ ap (λ (t : Timed). front ++ t ∷ rest) here)) may.shown before (record { at = at; event = Look sight }) after is at sight refl;
  }

-- a start whose last change is no Act, and that has looked at each answered read once, is a behaviour
in_time_some : (until : ℕ) (found : Option Timed) → InTime until found → (found ≡ None → ⊥) → IsSomeAnd found (λ next. next.at ≤ until)
in_time_some until None in_time some = absurd (some refl)
in_time_some until (Some next) in_time some = in_time

pub behaviour_of : (history : History) (inverter : ℕ) (events : List Timed) → IsStart history inverter events
    → ((grant : Grant) (at : ℕ) → last_that is_change events ≡ Some (record { at = at; event = Act grant }) → ⊥)
    → ((sight : Sight) → Contains (sights history) sight → sight.read.inverter ≡ inverter → count_by (λ timed. is_look_of sight timed.event) events ≡ 1)
    → IsBehaviour history inverter events
behaviour_of history inverter events start ended looked = record {
  in_order = start.in_order;
  acts = start.acts;
  numbers = start.numbers;
  looked = looked;
  looks = start.looks;
  looks_first = start.looks_first;
  ends = λ before after at grant is. in_time_some (at + tmax history.life.site.rules) (find is_change after) (start.ends before after at grant is)
      (λ none. ended grant at (ap (last_that is_change) is ∙ last_that-is is_change before (record { at = at; event = Act grant }) after refl none));
  reverts = start.reverts;
  shown = start.shown;
}

-- the first events of a behaviour are a start
record Longer (events rest before : List Timed) (x : Timed) (after : List Timed) : Type 0 where
  stand : events ++ rest ≡ before ++ x ∷ (after ++ rest)

longer : (events rest before : List Timed) (x : Timed) (after : List Timed) → events ≡ before ++ x ∷ after → events ++ rest ≡ before ++ x ∷ (after ++ rest)
longer events rest before x after is = ap (λ (ts : List Timed). ts ++ rest) is ∙ append_assoc before (x ∷ after) rest

longer_precedes : (events rest : List Timed) (first second : Timed) → Precedes events first second → Precedes (events ++ rest) first second
longer_precedes events rest first second p = record {
  before = p.before;
  between = p.between;
  after = p.after ++ rest;
  stand = longer events rest p.before first (p.between ++ second ∷ p.after) p.stand ∙ ap (λ (ts : List Timed). p.before ++ first ∷ ts) (append_assoc p.between (second ∷ p.after) rest);
}

in_time_first : (until : ℕ) (found rest : Option Timed) → IsSomeAnd (option_or found rest) (λ next. next.at ≤ until) → InTime until found
in_time_first until None rest some = tt
in_time_first until (Some next) rest some = some

pub start_of : (history : History) (inverter : ℕ) (events rest : List Timed) → IsBehaviour history inverter (events ++ rest) → IsStart history inverter events
start_of history inverter events rest device = record {
  in_order = λ first second p. device.in_order first second (longer_precedes events rest first second p);
  acts = λ before after at grant is. device.acts before (after ++ rest) at grant (longer events rest before _ after is);
  numbers = λ first second p. device.numbers first second (longer_precedes events rest first second p);
  looks = λ before after at sight is. device.looks before (after ++ rest) at sight (longer events rest before _ after is);
  looks_first = λ sight grant first second p. device.looks_first sight grant first second (longer_precedes events rest first second p);
  ends = λ before after at grant is. in_time_first (at + tmax history.life.site.rules) (find is_change after) (find is_change rest)
      (subst (λ (o : Option Timed). IsSomeAnd o (λ next. next.at ≤ at + tmax history.life.site.rules)) (find-append is_change after rest) (device.ends before (after ++ rest) at grant (longer events rest before _ after is)));
  reverts = λ before after at is. device.reverts before (after ++ rest) at (longer events rest before _ after is);
  shown = λ before after at sight is. device.shown before (after ++ rest) at sight (longer events rest before _ after is);
}

-- a fact of each element, by one that implies it, or that holds of all
pub all_map : {X : Type 0} (P Q : X → Type 0) → ((x : X) → P x → Q x) → (xs : List X) → AllByRecursion P xs → AllByRecursion Q xs
all_map P Q implies [] all = tt
all_map P Q implies (x ∷ xs) all = (implies x all.0, all_map P Q implies xs all.1)

pub all_of : {X : Type 0} (P : X → Type 0) → ((x : X) → P x) → (xs : List X) → AllByRecursion P xs
all_of P each [] = tt
all_of P each (x ∷ xs) = (each x, all_of P each xs)

pub all_push : {X : Type 0} (P : X → Type 0) (xs : List X) (x : X) → AllByRecursion P xs → P x → AllByRecursion P (xs ++ x ∷ [])
all_push P [] x all fact = (fact, tt)
all_push P (y ∷ xs) x all fact = (all.0, all_push P xs x all.1 fact)

grants_alike : (a b : Grant) → Act a ≡ Act b → a ≡ b
grants_alike a b is = cc

sights_alike : (a b : Sight) → Look a ≡ Look b → a ≡ b
sights_alike a b is = cc

module _ (history : History) (inverter : ℕ) (events : List Timed) (at : ℕ) (in_order : AllByRecursion (λ timed. timed.at ≤ at) events) where
  -- a write may act
  pub act_may : (grant : Grant) → Contains (grants history) grant → grant.write.inverter ≡ inverter → grant.write.at ≤ at → at ≤ last_act history.life.site.rules grant.write.at
      → AllByRecursion (λ timed. (number : ℕ) → IsAsked timed.event (link_of_grant grant) number → number ≤ grant.write.number) events
      → ((before after : List Timed) (acted : ℕ) (other : Grant) → events ≡ before ++ record { at = acted; event = Act other } ∷ after → find is_change after ≡ None → at ≤ acted + tmax history.life.site.rules)
      → MayCome history inverter events (record { at = at; event = Act grant })
  act_may grant granted its from until numbers ends = record {
    in_order = in_order;
    acts = λ moment other is.
        let same : grant ≡ other = grants_alike grant other (ap (λ (t : Timed). t.event) is) in
        let then : at ≡ moment = ap (λ (t : Timed). t.at) is in
        subst (λ (g : Grant). Contains (grants history) g × (g.write.inverter ≡ inverter) × (g.write.at ≤ moment) × (moment ≤ last_act history.life.site.rules g.write.at)) same
        (granted, its, omega (arith, from, then), omega (arith, until, then));
    numbers = all_map _ _ (λ timed rises link one other a b. omega (arith, rises one (subst (λ (l : ℕ × ℕ). IsAsked timed.event l one) (sym b.0) a), b.1)) events numbers;
    looks = λ moment sight is. absurd (let never = ap (λ (t : Timed). t.event) is in cc);
    looks_first = all_of _ (λ timed sight other a b. absurd cc) events;
    ends = λ before after acted other is none change. ends before after acted other is none;
    reverts = λ moment is. absurd (let never = ap (λ (t : Timed). t.event) is in cc);
    shown = λ moment sight is. absurd (let never = ap (λ (t : Timed). t.event) is in cc);
  }

  -- the timer of the last Act may run out
  pub revert_may : (acted : ℕ) (grant : Grant) → last_that is_change events ≡ Some (record { at = acted; event = Act grant })
      → acted + tmin history.life.site.rules ≤ at → at ≤ acted + tmax history.life.site.rules → MayCome history inverter events (record { at = at; event = Revert })
  revert_may acted grant last from until = record {
    in_order = in_order;
    acts = λ moment other is. absurd (let never = ap (λ (t : Timed). t.event) is in cc);
    numbers = all_of _ (λ timed link one other a b. absurd b) events;
    looks = λ moment sight is. absurd (let never = ap (λ (t : Timed). t.event) is in cc);
    looks_first = all_of _ (λ timed sight other a b. absurd cc) events;
    ends = λ before after moment other is none change.
        let same : Some (record { at = moment; event = Act other }) ≡ Some (record { at = acted; event = Act grant }) =
        sym (ap (last_that is_change) is ∙ last_that-is is_change before (record { at = moment; event = Act other }) after refl none) ∙ last in
        let then : moment ≡ acted = ap (λ (t : Timed). t.at) (some_alike _ _ same) in
        omega (arith, then, until);
    reverts = λ moment is.
        let then : at ≡ moment = ap (λ (t : Timed). t.at) is in
        subst (λ (o : Option Timed). IsSomeAnd o (λ t. IsAct t.event × (t.at + tmin history.life.site.rules ≤ moment) × (moment ≤ t.at + tmax history.life.site.rules))) (sym last)
        (tt, omega (arith, from, then), omega (arith, until, then));
    shown = λ moment sight is. absurd (let never = ap (λ (t : Timed). t.event) is in cc);
  }
    where
      some_alike : (a b : Timed) → Some a ≡ Some b → a ≡ b
      some_alike a b is = cc

  -- an answered read may be looked at
  pub look_may : (sight : Sight) → Contains (sights history) sight → sight.read.inverter ≡ inverter → sight.read.at ≤ at → at ≤ sight.at
      → AllByRecursion (λ timed. (number : ℕ) → IsAsked timed.event (link_of_sight sight) number → number ≤ sight.read.number) events
      → AllByRecursion (λ timed. (grant : Grant) → timed.event ≡ Act grant → is_granted_after sight grant ≡ false) events
      → held history.life.site inverter events ≡ sight.raw → MayCome history inverter events (record { at = at; event = Look sight })
  look_may sight seen its from until numbers not_after shows = record {
    in_order = in_order;
    acts = λ moment grant is. absurd (let never = ap (λ (t : Timed). t.event) is in cc);
    numbers = all_map _ _ (λ timed rises link one other a b. omega (arith, rises one (subst (λ (l : ℕ × ℕ). IsAsked timed.event l one) (sym b.0) a), b.1)) events numbers;
    looks = λ moment other is.
        let same : sight ≡ other = sights_alike sight other (ap (λ (t : Timed). t.event) is) in
        let then : at ≡ moment = ap (λ (t : Timed). t.at) is in
        subst (λ (s : Sight). Contains (sights history) s × (s.read.inverter ≡ inverter) × (s.read.at ≤ moment) × (moment ≤ s.at)) same (seen, its, omega (arith, from, then), omega (arith, until, then));
    looks_first = all_map _ _ (λ timed first other grant a b. subst (λ (s : Sight). is_granted_after s grant ≡ false) (sights_alike sight other b) (first grant a)) events not_after;
    ends = λ before after moment other is none change. absurd cc;
    reverts = λ moment is. absurd (let never = ap (λ (t : Timed). t.event) is in cc);
    shown = λ moment other is. shows ∙ ap (λ (s : Sight). s.raw) (sights_alike sight other (ap (λ (t : Timed). t.event) is));
  }
