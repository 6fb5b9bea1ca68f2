-- What a simulated inverter did so far, as the timed device does it.
use Rattle.std.proofs.Common.{◌≡◌, ℕ, ◌+◌, ◌≤◌, true, false, eqb, leb, ◌&&◌, List, [], ◌∷◌, ◌++◌, Option, Some, None, refl, sym, ap, subst, ◌∙◌, arith, inl, inr, ◌⊎◌}
use Rattle.std.specs.Prelude.{find, count_by, Contains, IsSomeAnd}
use Rattle.std.specs.List.{AllByRecursion}
use Rattle.std.proofs.lemmas.Bool.{cases_Bool, eq-eqb, eqb-true, and_parts, leb-true, leb-false}
use Rattle.std.proofs.lemmas.List.{append-nil}
use Rattle.limiter_num.specs.declared.rules.Rules.{Rules}
use Rattle.limiter_num.specs.Timers.{tmin, tmax, last_act}
use Rattle.plant_book.specs.Sums.{last_that}
use Rattle.plant_book.specs.Site.{SiteRecord, floor_raw_at}
use Rattle.plant_book.specs.History.{History, Grant, Sight, grants, sights, is_granted_after, link_of_grant, link_of_sight}
use Rattle.plant_book.specs.Behaviour.{Event, Act, Revert, Look, Timed, is_change, IsAct, IsAsked, is_look_of, held, held_by}
use Rattle.inverter_sim.specs.HeldLimit.{limit_at}
use Rattle.inverter_sim.specs.Following.{FollowsDevice, HasFollowed, IsInTolerance, IsLonger, IsNewSight, IsRunning, IsTimer, MayAct, act_at, look_at, revert_at, revert_by}
use Rattle.plant_book.proofs.Places.{last_that-is, count_by-append, count_by-none}
use Rattle.plant_book.proofs.Steps.{last_that-push}
use Rattle.plant_book.proofs.Last.{some_is}
use Rattle.plant_book.specs.Start.{IsStart, InTime}
use Rattle.plant_book.proofs.Growing.{start_empty, start_push, behaviour_of, act_may, revert_may, look_may, all_map, all_push}

abbrev RevertsBy : List Timed → Rules → Type 0
RevertsBy events rules = (before after : List Timed) (at : ℕ) → events ≡ before ++ record { at = at; event = Revert } ∷ after
    → IsSomeAnd (last_that is_change before) (λ last. IsAct last.event × (last.at + tmin rules ≤ at) × (at ≤ last.at + tmax rules))

module _ (old new : History) (longer : IsLonger old new) (inverter : ℕ) (events : List Timed) where
  pub start_longer : IsStart old inverter events → IsStart new inverter events
  start_longer start = record {
    in_order = start.in_order;
    acts = λ before after at grant is.
        let was = start.acts before after at grant is in
        (longer.grants grant was.0, was.1, was.2, subst (λ (s : SiteRecord). at ≤ last_act s.rules grant.write.at) (sym longer.site) was.3);
    numbers = start.numbers;
    looks = λ before after at sight is. let was = start.looks before after at sight is in (longer.sights sight was.0, was.1, was.2, was.3);
    looks_first = start.looks_first;
    ends = λ before after at grant is. subst (λ (s : SiteRecord). InTime (at + tmax s.rules) (find is_change after)) (sym longer.site) (start.ends before after at grant is);
    reverts = subst (λ (s : SiteRecord). RevertsBy events s.rules) (sym longer.site) start.reverts;
    shown = λ before after at sight is. ap (λ (s : SiteRecord). held s inverter before) longer.site ∙ start.shown before after at sight is;
  }

no_act : (a b : ℕ) (grant : Grant) → revert_at a ≡ act_at b grant → ⊥
no_act a b grant is = let never = ap (λ (t : Timed). t.event) is in cc

module _ (history : History) (inverter now : ℕ) (events : List Timed) where
  abbrev rules : Rules
  rules = history.life.site.rules

  all_until : (later : ℕ) → now ≤ later → AllByRecursion (λ timed. timed.at ≤ now) events → AllByRecursion (λ timed. timed.at ≤ later) events
  all_until later le = all_map (λ (timed : Timed). timed.at ≤ now) (λ (timed : Timed). timed.at ≤ later) (λ timed before. omega (arith, before, le)) events

  -- the last change, of events with one more
  last_push : (timed : Timed) → is_change timed ≡ true → last_that is_change (events ++ timed ∷ []) ≡ Some timed
  last_push timed changes = last_that-is is_change events timed [] changes refl

  module _ (raw : ℕ) where
    -- time passes
    later_timer : (later : ℕ) (due : Option ℕ) → ((moment : ℕ) → due ≡ Some moment → later ≤ moment) → IsTimer rules now events due → IsTimer rules later events due
    later_timer later None to_come timer = timer
    later_timer later (Some due) to_come timer = record { acted = timer.acted; grant = timer.grant; last = timer.last; from = timer.from; until = timer.until; to_come = to_come due refl }

    pub does_later : (later : ℕ) (due : Option ℕ) → now ≤ later → ((moment : ℕ) → due ≡ Some moment → later ≤ moment) → HasFollowed history inverter now raw due events → HasFollowed history inverter later raw due events
    does_later later due le to_come does = record {
      start = does.start;
      until = all_until later le does.until;
      once = does.once;
      holds = does.holds;
      timer = later_timer later due to_come does.timer;
    }

    module _ (due : ℕ) (does : HasFollowed history inverter now raw (Some due) events) where
      abbrev ran_out : List Timed
      ran_out = events ++ revert_at due ∷ []

      revert_start : IsStart history inverter ran_out
      revert_start =
          let timer = does.timer in
          start_push history inverter events (revert_at due) does.start
          (revert_may history inverter events due (all_until due timer.to_come does.until) timer.acted timer.grant timer.last timer.from timer.until)

      revert_once : (sight : Sight) → Contains (sights history) sight → sight.read.inverter ≡ inverter → count_by (λ timed. is_look_of sight timed.event) ran_out ≡ 1
      revert_once sight seen its = omega (arith, does.once sight seen its, count_by-append (λ timed. is_look_of sight timed.event) events (revert_at due ∷ []))

      revert_timer : (at : ℕ) (grant : Grant) → last_that is_change ran_out ≡ Some (act_at at grant) → ⊥
      revert_timer at grant is = no_act due at grant (some_is (revert_at due) (act_at at grant) (sym (last_push (revert_at due) refl) ∙ is))

      -- the timer runs out
      pub does_revert : (later : ℕ) → due ≤ later → HasFollowed history inverter later (floor_raw_at history.life.site inverter) None ran_out
      unfolding held
      does_revert later le = record {
        start = revert_start;
        until = all_push (λ (timed : Timed). timed.at ≤ later) events (revert_at due) (all_until later (omega (arith, does.timer.to_come, le)) does.until) le;
        once = revert_once;
        holds = ap (held_by (floor_raw_at history.life.site inverter)) (last_push (revert_at due) refl);
        timer = revert_timer;
      }

      ends_running : FollowsDevice history inverter now raw
      ends_running = record {
        events = ran_out;
        first = events;
        rest = revert_at due ∷ [];
        behaviour = behaviour_of history inverter ran_out revert_start (λ grant at. revert_timer at grant) revert_once;
        cut = record { parts = refl; earlier = does.until; later = (does.timer.to_come, tt); looked = (tt, tt) };
        holds = does.holds;
      }

    ends_still : HasFollowed history inverter now raw None events → FollowsDevice history inverter now raw
    ends_still does = record {
      events = events;
      first = events;
      rest = [];
      behaviour = behaviour_of history inverter events does.start (λ grant at. does.timer at grant) does.once;
      cut = record { parts = sym (append-nil events); earlier = does.until; later = tt; looked = tt };
      holds = does.holds;
    }

    pub does_end : (due : Option ℕ) → HasFollowed history inverter now raw due events → FollowsDevice history inverter now raw
    does_end None does = ends_still does
    does_end (Some due) does = ends_running due does

    -- the last Act may still be followed
    in_time : (due : Option ℕ) → IsTimer rules now events due → (before after : List Timed) (acted : ℕ) (other : Grant) → events ≡ before ++ act_at acted other ∷ after → find is_change after ≡ None → now ≤ acted + tmax rules
    in_time due timer before after acted other is none = by_due due timer (ap (last_that is_change) is ∙ last_that-is is_change before (act_at acted other) after refl none)
      where
        by_due : (due : Option ℕ) → IsTimer rules now events due → last_that is_change events ≡ Some (act_at acted other) → now ≤ acted + tmax rules
        by_due None timer last = absurd (timer acted other last)
        by_due (Some due) timer last =
            let same = some_is (act_at acted other) (act_at timer.acted timer.grant) (sym last ∙ timer.last) in
            omega (arith, timer.to_come, timer.until, ap (λ (t : Timed). t.at) same)

    -- a write acts
    pub does_act : (due : Option ℕ) → HasFollowed history inverter now raw due events → (grant : Grant) (revert : ℕ) → Contains (grants history) grant → grant.write.inverter ≡ inverter → grant.write.at ≤ now → now ≤ last_act rules grant.write.at
        → AllByRecursion (λ timed. (number : ℕ) → IsAsked timed.event (link_of_grant grant) number → number ≤ grant.write.number) events
        → now + tmin rules ≤ revert → revert ≤ now + tmax rules → now ≤ revert
        → HasFollowed history inverter now grant.write.raw (Some revert) (events ++ act_at now grant ∷ [])
    unfolding held
    does_act due does grant revert granted its from until numbers low high to_come = record {
      start = start_push history inverter events (act_at now grant) does.start (act_may history inverter events now does.until grant granted its from until numbers (in_time due does.timer));
      until = all_push (λ (timed : Timed). timed.at ≤ now) events (act_at now grant) does.until (omega arith);
      once = λ sight seen mine. omega (arith, does.once sight seen mine, count_by-append (λ timed. is_look_of sight timed.event) events (act_at now grant ∷ []));
      holds = ap (held_by (floor_raw_at history.life.site inverter)) (last_push (act_at now grant) refl);
      timer = record { acted = now; grant = grant; last = last_push (act_at now grant) refl; from = low; until = high; to_come = to_come };
    }

-- before anything acted the floor is held
pub does_begin : (history : History) (inverter now : ℕ) → ((sight : Sight) → Contains (sights history) sight → sight.read.inverter ≡ inverter → ⊥)
    → HasFollowed history inverter now (floor_raw_at history.life.site inverter) None []
unfolding last_that held
does_begin history inverter now none = record {
  start = start_empty history inverter;
  until = tt;
  once = λ sight within mine. absurd (none sight within mine);
  holds = refl;
  timer = λ at grant is. absurd cc;
}

-- time passes, and with it the revert comes that is due
module _ (history : History) (inverter now later : ℕ) (events : List Timed) (le : now ≤ later) where
  abbrev its_floor : ℕ
  its_floor = floor_raw_at history.life.site inverter

  waits : (due : ℕ) → leb due later ≡ false → (moment : ℕ) → Some due ≡ Some moment → later ≤ moment
  waits due late moment is = let less = leb-false due later late in let one : due ≡ moment = cc in omega (arith, less, one)

  never : (moment : ℕ) → None ≡ Some moment → later ≤ moment
  never moment is = absurd cc

  pub does_pass : (raw : ℕ) (due : Option ℕ) → HasFollowed history inverter now raw due events
      → HasFollowed history inverter later (limit_at its_floor later (record { raw = raw; revert = due })).raw (limit_at its_floor later (record { raw = raw; revert = due })).revert
      (events ++ revert_by later due)
  does_pass raw None does = rw (append-nil events) (does_later history inverter now events raw later None le never does)
  does_pass raw (Some due) does =
      elim (cases_Bool (leb due later)) [
        | inl early ↦ rw early (does_revert history inverter now events raw due does later (leb-true due later early))
        | inr late ↦ rw (late, append-nil events) (does_later history inverter now events raw later (Some due) le (waits due late) does)
      ]

-- a write that may act does
pub does_may : (history : History) (inverter now raw : ℕ) (due : Option ℕ) (events : List Timed) → HasFollowed history inverter now raw due events
    → (grant : Grant) → MayAct history inverter now events grant → (revert : ℕ) → IsInTolerance history.life.site.rules now revert
    → HasFollowed history inverter now grant.write.raw (Some revert) (events ++ act_at now grant ∷ [])
does_may history inverter now raw due events does grant may revert within =
    does_act history inverter now events raw due does grant revert may.granted may.its may.from may.until may.numbers within.low within.high within.to_come

-- a longer history, in which no other read of the inverter was answered
module _ (old new : History) (longer : IsLonger old new) (inverter now raw : ℕ) (due : Option ℕ) (events : List Timed) (does : HasFollowed old inverter now raw due events) where
  same_timer : (o : Option ℕ) → IsTimer old.life.site.rules now events o → IsTimer new.life.site.rules now events o
  same_timer None timer = timer
  same_timer (Some due) timer = subst (λ (s : SiteRecord). IsRunning s.rules now due events) (sym longer.site) timer

  pub does_longer : ((sight : Sight) → Contains (sights new) sight → sight.read.inverter ≡ inverter → Contains (sights old) sight) → HasFollowed new inverter now raw due events
  does_longer same = record {
    start = start_longer old new longer inverter events does.start;
    until = does.until;
    once = λ sight seen its. does.once sight (same sight seen its) its;
    holds = ap (λ (s : SiteRecord). held s inverter events) longer.site ∙ does.holds;
    timer = same_timer due does.timer;
  }

-- the elements of a list, by their places
all_places : {X : Type 0} (P : X → Type 0) (xs : List X) → ((before : List X) (x : X) (after : List X) → xs ≡ before ++ x ∷ after → P x) → AllByRecursion P xs
all_places P [] each = tt
all_places {X = X} P (x ∷ xs) each = (each [] x xs refl, all_places P xs (λ before y after is. each (x ∷ before) y after (ap (λ (zs : List X). x ∷ zs) is)))

differ : (a b c d : ℕ) → (a ≡ c → b ≡ d → ⊥) → (eqb a c && eqb b d) ≡ false
differ a b c d other =
    elim (cases_Bool (eqb a c && eqb b d)) [
      | inl both ↦ let parts = and_parts (eqb a c) (eqb b d) both in absurd (other (eqb-true a c parts.0) (eqb-true b d parts.1))
      | inr is ↦ is
    ]

module _ (old new : History) (inverter now raw : ℕ) (due : Option ℕ) (events : List Timed) (does : HasFollowed old inverter now raw due events) (sight : Sight) (is : IsNewSight old new inverter sight) where
  abbrev looked : List Timed
  looked = events ++ look_at now sight ∷ []

  not_before : AllByRecursion (λ timed. is_look_of sight timed.event ≡ false) events
  not_before = all_places (λ timed. is_look_of sight timed.event ≡ false) events (λ before timed after stand. by_event before timed.at timed.event after stand)
    where
      by_event : (before : List Timed) (at : ℕ) (event : Event) (after : List Timed) → events ≡ before ++ record { at = at; event = event } ∷ after → is_look_of sight event ≡ false
      by_event before at (Act grant) after stand = refl
      by_event before at Revert after stand = refl
      by_event before at (Look one) after stand =
          let was = does.start.looks before after at one stand in
          differ one.life one.place sight.life sight.place (λ life place. is.other one was.0 life place)

  not_after_acts : AllByRecursion (λ timed. (grant : Grant) → timed.event ≡ Act grant → is_granted_after sight grant ≡ false) events
  not_after_acts = all_places (λ timed. (grant : Grant) → timed.event ≡ Act grant → is_granted_after sight grant ≡ false) events
      (λ before timed after stand grant acts. is.not_after grant (does.start.acts before after timed.at grant (stand ∙ ap (λ (e : Event). before ++ record { at = timed.at; event = e } ∷ after) acts)).0)

  looked_once : (one : Sight) → Contains (sights new) one → one.read.inverter ≡ inverter → count_by (λ timed. is_look_of one timed.event) looked ≡ 1
  looked_once one within its =
      elim (is.only one within) [
        | inl before ↦
            let fails : is_look_of one (Look sight) ≡ false = differ sight.life sight.place one.life one.place (λ life place. is.other one before (sym life) (sym place)) in
            let none : count_by (λ timed. is_look_of one timed.event) (look_at now sight ∷ []) ≡ 0 = rw fails refl in
            omega (arith, does.once one before its, none, count_by-append (λ timed. is_look_of one timed.event) events (look_at now sight ∷ []))
        | inr same ↦ subst (λ (s : Sight). count_by (λ timed. is_look_of s timed.event) looked ≡ 1) (sym same) the_new_one
      ]
    where
      the_new_one : count_by (λ timed. is_look_of sight timed.event) looked ≡ 1
      the_new_one =
          let passes : is_look_of sight (Look sight) ≡ true = rw (eq-eqb sight.life sight.life refl, eq-eqb sight.place sight.place refl) refl in
          let one : count_by (λ timed. is_look_of sight timed.event) (look_at now sight ∷ []) ≡ 1 = rw passes refl in
          let none = count_by-none (λ (timed : Timed). is_look_of sight timed.event) (λ timed. is_look_of sight timed.event ≡ false) (λ timed fails. fails) events not_before in
          omega (arith, none, one, count_by-append (λ timed. is_look_of sight timed.event) events (look_at now sight ∷ []))

  same_change : last_that is_change looked ≡ last_that is_change events
  same_change = last_that-push is_change events (look_at now sight)

  look_timer : (o : Option ℕ) → IsTimer old.life.site.rules now events o → IsTimer new.life.site.rules now looked o
  look_timer None timer = λ at grant last. timer at grant (sym same_change ∙ last)
  look_timer (Some due) timer =
      subst (λ (s : SiteRecord). IsRunning s.rules now due looked) (sym is.longer.site)
      (record { acted = timer.acted; grant = timer.grant; last = same_change ∙ timer.last; from = timer.from; until = timer.until; to_come = timer.to_come })

  pub does_look : sight.read.at ≤ now → now ≤ sight.at → sight.raw ≡ raw
      → AllByRecursion (λ timed. (number : ℕ) → IsAsked timed.event (link_of_sight sight) number → number ≤ sight.read.number) events
      → HasFollowed new inverter now raw due looked
  unfolding held
  does_look from until shows numbers =
      let same_held : held new.life.site inverter events ≡ raw = ap (λ (s : SiteRecord). held s inverter events) is.longer.site ∙ does.holds in
      record {
        start = start_push new inverter events (look_at now sight) (start_longer old new is.longer inverter events does.start)
            (look_may new inverter events now does.until sight is.seen is.its from until numbers not_after_acts (same_held ∙ sym shows));
        until = all_push (λ (timed : Timed). timed.at ≤ now) events (look_at now sight) does.until (omega arith);
        once = looked_once;
        holds = ap (held_by (floor_raw_at new.life.site inverter)) same_change ∙ same_held;
        timer = look_timer due does.timer;
      }
