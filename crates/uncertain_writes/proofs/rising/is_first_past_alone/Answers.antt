use Rattle.std.proofs.Common.{◌≡◌, Bool, true, false, not, ◌-◌, length, take, drop, sym, ap, subst, ◌∙◌, arith, inl, inr}
use Rattle.std.specs.Prelude.{IsTrue, filter}
use Rattle.std.specs.List.{list_any}
use Rattle.std.proofs.lemmas.Bool.{cases_Bool}
use Rattle.std.proofs.lemmas.List.{take_all, length-drop}
use Rattle.uncertain_writes.specs.Live.{is_past, without}
use Rattle.uncertain_writes.proofs.Lists.{first_alone}
use Rattle.uncertain_writes.proofs.rising.is_first_past_alone.Goals as goal

none_behind : (found : Bool) → IsTrue (not found) → found ≡ false
none_behind found alone =
    elim (cases_Bool found) [
      | inl finds ↦ absurd (let both : false ≡ true = subst (λ (b : Bool). IsTrue (not b)) finds alone in cc)
      | inr none ↦ none
    ]

whole_rest : (c : goal.After-has_past) → list_any (is_past c.args.rules.now c.args.now) (drop 1 c.args.writes.now)
    ≡ list_any (is_past c.args.rules.now c.args.now) (take (length c.args.writes.now - 1) (drop 1 c.args.writes.now))
whole_rest c = ap (list_any (is_past c.args.rules.now c.args.now)) (sym (take_all (length c.args.writes.now - 1) (drop 1 c.args.writes.now) (omega (arith, length-drop 1 c.args.writes.now))))

alone : (c : goal.After-has_past) → IsTrue (not c.has_past.result)
    → (without (is_past c.args.rules.now c.args.now) c.args.writes.now ≡ drop 1 c.args.writes.now) × (length (filter (is_past c.args.rules.now c.args.now) c.args.writes.now) ≡ 1)
alone c is =
    first_alone (is_past c.args.rules.now c.args.now) c.args.writes.now c.first-item.result (omega (arith, c.in-len1-up.len_at_least)) c.first-item.is
    (sym c.is_past.ensures ∙ c.if-is_past.true) (whole_rest c ∙ sym c.has_past.ensures ∙ none_behind c.has_past.result is)

pub returns-then-is_past-clause-left : goal.returns-then-is_past-clause-left
returns-then-is_past-clause-left c = λ is. (alone c is).0

pub returns-then-is_past-clause-one : goal.returns-then-is_past-clause-one
returns-then-is_past-clause-one c = λ is. (alone c is).1
