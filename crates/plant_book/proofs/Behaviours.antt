-- The timed device is no empty premise: what inverters may have done.
use Rattle.std.proofs.Common.{◌≡◌, ℕ, ◌+◌, ◌≤◌, false, [], ◌∷◌, Some, refl, sym, ap, subst, ◌∙◌, arith}
use Rattle.std.specs.Prelude.{Contains, count_by}
use Rattle.std.proofs.lemmas.Bool.{eq-eqb}
use Rattle.limiter_num.specs.Timers.{tmax, last_act}
use Rattle.plant_book.specs.Sums.{last_that}
use Rattle.plant_book.specs.History.{History, Grant, Sight, grants, is_granted_after}
use Rattle.plant_book.specs.Behaviour.{Act, Revert, Look, Timed, is_change, is_look_of, held, IsBehaviour, acts_last, acts_and_shows, IsUnseen, MayShow}
use Rattle.plant_book.specs.Start.{IsStart}
use Rattle.plant_book.proofs.Growing.{tmin_le-tmax, nothing_stands, start_empty, start_push, behaviour_of, act_may, revert_may, look_may}

timed_alike : (a b : Timed) → Some a ≡ Some b → a ≡ b
timed_alike a b is = cc

-- a Revert is no Act
pub no_act : (grant : Grant) → Revert ≡ Act grant → ⊥
no_act grant is = cc

pub revert_is_no_act : (reverted acted : Timed) (grant : Grant) → reverted.event ≡ Revert → acted.event ≡ Act grant → Some reverted ≡ Some acted → ⊥
revert_is_no_act reverted acted grant reverts acts is = no_act grant (sym reverts ∙ ap (λ (t : Timed). t.event) (timed_alike reverted acted is) ∙ acts)

-- an inverter that did nothing
pub idle : (history : History) (inverter : ℕ) → IsUnseen history inverter → IsBehaviour history inverter []
unfolding last_that
idle history inverter unseen = behaviour_of history inverter [] (start_empty history inverter) (λ grant at is. cc) (λ sight seen its. absurd (unseen sight seen its))

module _ (history : History) (inverter : ℕ) (grant : Grant) (at : ℕ) (granted : Contains (grants history) grant) (its : grant.write.inverter ≡ inverter)
    (from : grant.write.at ≤ at) (until : at ≤ last_act history.life.site.rules grant.write.at) where
  abbrev acted : Timed
  acted = record { at = at; event = Act grant }

  -- one write that acted
  act_start : IsStart history inverter (acted ∷ [])
  act_start =
      start_push history inverter [] acted (start_empty history inverter)
      (act_may history inverter [] at tt grant granted its from until tt (λ before after moment other is none. absurd (nothing_stands _ before after is)))

  pub acted_last : IsUnseen history inverter → IsBehaviour history inverter (acted ∷ record { at = at + tmax history.life.site.rules; event = Revert } ∷ [])
  unfolding last_that
  acted_last unseen =
      let reverted : Timed = record { at = at + tmax history.life.site.rules; event = Revert } in
      let start : IsStart history inverter (acted ∷ reverted ∷ []) =
      start_push history inverter (acted ∷ []) reverted act_start
      (revert_may history inverter (acted ∷ []) (at + tmax history.life.site.rules) (omega arith, tt) at grant refl (omega (arith, tmin_le-tmax history.life.site.rules)) (omega arith)) in
      behaviour_of history inverter (acted ∷ reverted ∷ []) start (λ other moment is. revert_is_no_act reverted (record { at = moment; event = Act other }) other refl refl is) (λ sight seen mine. absurd (unseen sight seen mine))

-- a write that acted at the last moment at which it may, and whose timer ran the longest
pub last : (history : History) (inverter : ℕ) (grant : Grant) → IsUnseen history inverter → Contains (grants history) grant → grant.write.inverter ≡ inverter → IsBehaviour history inverter (acts_last history.life.site.rules grant)
last history inverter grant unseen granted its = acted_last history inverter grant (last_act history.life.site.rules grant.write.at) granted its (omega arith) (omega arith) unseen

-- a write that acted, and was seen while it was held
module _ (history : History) (inverter : ℕ) (grant : Grant) (sight : Sight) (at looked : ℕ) (may : MayShow history inverter grant sight at looked) where
  abbrev acts : Timed
  acts = record { at = at; event = Act grant }

  abbrev looks : Timed
  looks = record { at = looked; event = Look sight }

  abbrev reverts : Timed
  reverts = record { at = at + tmax history.life.site.rules; event = Revert }

  shows : held history.life.site inverter (acts ∷ []) ≡ sight.raw
  unfolding held last_that
  shows = may.shown

  seen_start : IsStart history inverter (acts ∷ looks ∷ [])
  seen_start =
      start_push history inverter (acts ∷ []) looks (act_start history inverter grant at may.granted may.its_write may.acts_from may.acts_until)
      (look_may history inverter (acts ∷ []) looked (may.held_from, tt) sight may.seen may.its_read may.looks_from may.looks_until
      ((λ number asked. omega (arith, may.in_order asked.0, asked.1)), tt)
      ((λ other is. subst (λ (g : Grant). is_granted_after sight g ≡ false) (same_grant grant other is) may.not_after), tt)
      shows)
    where
      same_grant : (a b : Grant) → Act a ≡ Act b → a ≡ b
      same_grant a b is = cc

  last_change : last_that is_change (acts ∷ looks ∷ []) ≡ Some acts
  unfolding last_that
  last_change = refl

  shown_start : IsStart history inverter (acts ∷ looks ∷ reverts ∷ [])
  shown_start =
      start_push history inverter (acts ∷ looks ∷ []) reverts seen_start
      (revert_may history inverter (acts ∷ looks ∷ []) (at + tmax history.life.site.rules) (omega arith, (may.held_until, tt)) at grant last_change (omega (arith, tmin_le-tmax history.life.site.rules)) (omega arith))

  once : (other : Sight) → other ≡ sight → count_by (λ timed. is_look_of other timed.event) (acts ∷ looks ∷ reverts ∷ []) ≡ 1
  once other is = subst (λ (s : Sight). count_by (λ timed. is_look_of s timed.event) (acts ∷ looks ∷ reverts ∷ []) ≡ 1) (sym is) (rw (eq-eqb sight.life sight.life refl, eq-eqb sight.place sight.place refl) refl)

  pub shown : IsBehaviour history inverter (acts_and_shows history.life.site.rules grant sight at looked)
  unfolding last_that
  shown = behaviour_of history inverter (acts ∷ looks ∷ reverts ∷ []) shown_start (λ other moment is. revert_is_no_act reverts (record { at = moment; event = Act other }) other refl refl is) (λ other seen mine. once other (may.only other seen mine))
