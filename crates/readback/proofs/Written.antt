-- What a read-back of a written limit is judged.
use Rattle.std.proofs.Common.{◌≡◌, ℕ, ◌+◌, ◌*◌, ◌/◌, ◌%◌, ◌<◌, Bool, true, false, cond, not, eqb, List, [], ◌∷◌, length, take, Some, refl, sym, ◌∙◌, ap, arith, subst}
use Rattle.std.specs.List.{AllByRecursion}
use Rattle.std.proofs.lemmas.Bool.{eqb-true, eq-eqb, cond-true}
use Rattle.modbus_pdu.specs.Grammar.{IsWord}
use Rattle.modbus_pdu.specs.declared.pdu.Reply.TheVariants as reply
use Rattle.der_models.specs.declared.limit.LimitView.{LimitView}
use Rattle.der_models.specs.Limit.{limit_registers, view_of, ShowsLimit}
use Rattle.limiter_num.specs.declared.rating.Point.{Point}
use Rattle.readback.specs.declared.judging.Judged.{Judged}
use Rattle.readback.specs.declared.judging.Judged.TheVariants as judged
use Rattle.readback.specs.Judging.{limit_judgement, reply_judgement}

-- a judgement by its four tests is Shows exactly where all pass
tests_passed : (a b c d : Bool) (w x y z end : Judged) → a ≡ true → b ≡ true → c ≡ true → d ≡ true
    → cond (not a) w (cond (not b) x (cond (not c) y (cond (not d) z end))) ≡ end
tests_passed true true true true w x y z end p q r s = refl
tests_passed true true true false w x y z end p q r s = absurd cc
tests_passed true true false d w x y z end p q r s = absurd cc
tests_passed true false c d w x y z end p q r s = absurd cc
tests_passed false b c d w x y z end p q r s = absurd cc

shown : (floor timer : ℕ) (view : LimitView) → view.ena ≡ 1 → view.pct_rvrt ≡ floor → view.ena_rvrt ≡ 1 → view.tms ≡ timer
    → limit_judgement floor timer view ≡ judged.Shows view.pct
unfolding limit_judgement
shown floor timer view p q r s =
    tests_passed (eqb view.ena 1) (eqb view.pct_rvrt floor) (eqb view.ena_rvrt 1) (eqb view.tms timer) _ _ _ _ _
    (eq-eqb _ _ p) (eq-eqb _ _ q) (eq-eqb _ _ r) (eq-eqb _ _ s)

record AllPass (a b c d : Bool) (shows found : ℕ) : Type 0 where
  first : a ≡ true
  second : b ≡ true
  third : c ≡ true
  fourth : d ≡ true
  same : shows ≡ found

all_passed : (a b c d : Bool) (o p q r : Point) (w w' x x' y y' z z' shows found : ℕ)
    → cond (not a) (judged.Differs o w w') (cond (not b) (judged.Differs p x x') (cond (not c) (judged.Differs q y y')
    (cond (not d) (judged.Differs r z z') (judged.Shows shows)))) ≡ judged.Shows found
    → AllPass a b c d shows found
all_passed true true true true o p q r w w' x x' y y' z z' shows found e =
    record { first = refl; second = refl; third = refl; fourth = refl; same = cc }
all_passed true true true false o p q r w w' x x' y y' z z' shows found e = absurd cc
all_passed true true false d o p q r w w' x x' y y' z z' shows found e = absurd cc
all_passed true false c d o p q r w w' x x' y y' z z' shows found e = absurd cc
all_passed false b c d o p q r w w' x x' y y' z z' shows found e = absurd cc

only_shown : (floor timer found : ℕ) (view : LimitView) → limit_judgement floor timer view ≡ judged.Shows found → ShowsLimit found floor timer view
unfolding limit_judgement
only_shown floor timer found view e =
    let all = all_passed (eqb view.ena 1) (eqb view.pct_rvrt floor) (eqb view.ena_rvrt 1) (eqb view.tms timer) _ _ _ _ _ _ _ _ _ _ _ _ view.pct found e in
    record {
      ena = eqb-true _ _ all.first;
      pct = all.same;
      pct_rvrt = eqb-true _ _ all.second;
      ena_rvrt = eqb-true _ _ all.third;
      tms = eqb-true _ _ all.fourth;
    }

record Eight (values : List ℕ) : Type 0 where
  a : ℕ
  b : ℕ
  c : ℕ
  d : ℕ
  e : ℕ
  f : ℕ
  rest : List ℕ
  are : values ≡ a ∷ b ∷ c ∷ d ∷ e ∷ f ∷ rest

eight : (values : List ℕ) → length values ≡ 8 → Eight values
eight (a ∷ b ∷ c ∷ d ∷ e ∷ f ∷ rest) len = record { a = a; b = b; c = c; d = d; e = e; f = f; rest = rest; are = refl }
eight _ len = absurd (omega arith)

pub written_shown : (raw floor timer : ℕ) (values : List ℕ) → length values ≡ 8 → take 6 values ≡ limit_registers raw floor timer
    → reply_judgement floor timer (Some (reply.Regs values)) ≡ judged.Shows raw
written_shown raw floor timer values len written =
    let split = eight values len in
    let front : split.a ∷ split.b ∷ split.c ∷ split.d ∷ split.e ∷ split.f ∷ [] ≡ limit_registers raw floor timer = sym (ap (take 6) split.are) ∙ written in
    let high : split.e ≡ timer / 65536 = cc in
    let low : split.f ≡ timer % 65536 = cc in
    let list = split.a ∷ split.b ∷ split.c ∷ split.d ∷ split.e ∷ split.f ∷ split.rest in
    let view : limit_judgement floor timer (view_of values) ≡ judged.Shows split.b =
    ap (λ (vs : List ℕ). limit_judgement floor timer (view_of vs)) split.are ∙ shown floor timer (view_of list) (cc) (cc) (cc) (omega arith) in
    let raw_is : split.b ≡ raw = cc in
    cond-true _ _ _ (eq-eqb _ _ len) ∙ view ∙ ap judged.Shows raw_is

wrong_reply : (eight : Bool) (other : Judged) (found : ℕ) → cond eight other judged.WrongReply ≡ judged.Shows found → (eight ≡ true) × (other ≡ judged.Shows found)
wrong_reply true other found e = (refl, e)
wrong_reply false other found e = absurd cc

pub shown_written : (raw floor timer : ℕ) (values : List ℕ) → AllByRecursion IsWord values
    → reply_judgement floor timer (Some (reply.Regs values)) ≡ judged.Shows raw
    → (length values ≡ 8) × (take 6 values ≡ limit_registers raw floor timer)
shown_written raw floor timer values fit e =
    let passed = wrong_reply (eqb (length values) 8) (limit_judgement floor timer (view_of values)) raw e in
    let len : length values ≡ 8 = eqb-true _ _ passed.0 in
    let split = eight values len in
    let front = split.a ∷ split.b ∷ split.c ∷ split.d ∷ split.e ∷ split.f ∷ split.rest in
    let fits : AllByRecursion IsWord front = subst (AllByRecursion IsWord) split.are fit in
    let shows : ShowsLimit raw floor timer (view_of front) = only_shown floor timer raw (view_of front) (sym (ap (λ (vs : List ℕ). limit_judgement floor timer (view_of vs)) split.are) ∙ passed.1) in
    let low_fits : split.f < 65536 = fits.1.1.1.1.1.0 in
    let tms : 65536 * split.e + split.f ≡ timer = shows.tms in
    let high : split.e ≡ timer / 65536 = omega arith in
    let low : split.f ≡ timer % 65536 = omega arith in
    let ena : split.a ≡ 1 = shows.ena in
    let pct : split.b ≡ raw = shows.pct in
    let pct_rvrt : split.c ≡ floor = shows.pct_rvrt in
    let ena_rvrt : split.d ≡ 1 = shows.ena_rvrt in
    let taken : split.a ∷ split.b ∷ split.c ∷ split.d ∷ split.e ∷ split.f ∷ [] ≡ limit_registers raw floor timer = cc in
    (len, ap (take 6) split.are ∙ taken)
