-- Numbers that are in range are read as they are.
use Rattle.std.proofs.Common.{◌≡◌, ℕ, suc, ◌-◌, ◌≤◌, min, ltb, ◌||◌, inl, inr, List, Option, Some, None, refl, sym, ap, subst, arith, ℤ, pos, negsuc}
use Rattle.std.specs.Prelude.{◌≤ℤ◌}
use Rattle.std.proofs.lemmas.Int.{ints}
use Rattle.std.proofs.lemmas.Bool.Decides.{nat_tests}
use Rattle.limiter_num.specs.Timers.{rules_out, range_fault}
use Rattle.limiter_num.specs.Timers as timers
use Rattle.limiter_num.specs.declared.rules.RulesOut.{RulesOut}
use Rattle.limiter_num.specs.declared.rules.RulesField.{RulesField}
use Rattle.limiter_num.specs.declared.rules.RulesField.TheVariants.{Send, Delay, Timer, PerMille, Slack}
use Rattle.plant_book.specs.declared.call.Call.TheVariants as calls
use Rattle.script_text.specs.declared.line.Line.TheVariants as lines
use Rattle.script_text.specs.declared.line.LineKind.{LineKind}
use Rattle.script_text.specs.declared.line.LineKind.TheVariants as kinds
use Rattle.script_text.specs.Grammar.{Statement, Site, Inverter, Begin, Says}
use Rattle.script_text.specs.Script.{HasPlace, InRange, Lacks}
use Rattle.script_text.specs.Reading.{number_most, size_most, statement_of, cut, fields_of}
use Rattle.script_text.proofs.LineEnds.{chosen}

abbrev pub capped : Statement → Statement
capped statement = statement_of (fields_of number_most size_most statement)

range_of : (field : RulesField) (value low high : ℕ) → range_fault field value low high ≡ None → (low ≤ value) × (value ≤ high)
range_of field value low high e =
    elim (chosen (ltb value low || ltb high value) (Some (record { field = field; value = value })) None None e) [
      | inl bad ↦ absurd cc
      | inr good ↦ (grind (arith, nat_tests, good.0), grind (arith, nat_tests, good.0))
    ]

none_of : (a b : Option RulesOut) → timers.before a b ≡ None → (a ≡ None) × (b ≡ None)
none_of None b e = (refl, e)
none_of (Some fault) b e = absurd cc

pub record Bounds (send delay timer per_mille slack : ℕ) : Type 0 where
  pub send_high : send ≤ 60000
  pub delay_high : delay ≤ 600000
  pub timer_high : timer ≤ 86400
  pub per_mille_high : per_mille ≤ 500
  pub slack_high : slack ≤ 600000

pub bounds_of : (send delay timer per_mille slack : ℕ) → rules_out send delay timer per_mille slack ≡ None → Bounds send delay timer per_mille slack
bounds_of send delay timer per_mille slack e =
    let a = none_of (range_fault Send send 1 60000) _ e in
    let b = none_of (range_fault Delay delay 0 600000) _ a.1 in
    let c = none_of (range_fault Timer timer 1 86400) _ b.1 in
    let d = none_of (range_fault PerMille per_mille 0 500) (range_fault Slack slack 0 600000) c.1 in
    record {
      send_high = (range_of Send send 1 60000 a.0).1;
      delay_high = (range_of Delay delay 0 600000 b.0).1;
      timer_high = (range_of Timer timer 1 86400 c.0).1;
      per_mille_high = (range_of PerMille per_mille 0 500 d.0).1;
      slack_high = (range_of Slack slack 0 600000 d.1).1;
    }

cut_is : (z : ℤ) → negsuc 32767 ≤ℤ z → z ≤ℤ pos 32767 → cut size_most z ≡ z
cut_is (pos n) low high = let e : min n 65536 ≡ n = omega (arith, ints) in ap (λ (k : ℕ). pos k) e
cut_is (negsuc n) low high = let e : min (suc n) 65536 - 1 ≡ n = omega (arith, ints) in ap (λ (k : ℕ). negsuc k) e

cut_was : (z : ℤ) → negsuc 32767 ≤ℤ cut size_most z → cut size_most z ≤ℤ pos 32767 → cut size_most z ≡ z
cut_was (pos n) low high = let e : min n 65536 ≡ n = omega (arith, ints) in ap (λ (k : ℕ). pos k) e
cut_was (negsuc n) low high = let e : min (suc n) 65536 - 1 ≡ n = omega (arith, ints) in ap (λ (k : ℕ). negsuc k) e

pub capped_exact : (statement : Statement) → InRange (capped statement) → capped statement ≡ statement
capped_exact (Says (lines.One (calls.Link a b))) range =
    let ea : min a number_most ≡ a = omega (arith, range) in
    let eb : min b number_most ≡ b = omega (arith, range) in
    rw (ea, eb) refl
capped_exact (Says (lines.One (calls.Ask a b c))) range =
    let ea : min a number_most ≡ a = omega (arith, range) in
    let eb : min b number_most ≡ b = omega (arith, range) in
    let ec : min c number_most ≡ c = omega (arith, range) in
    rw (ea, eb, ec) refl
capped_exact (Says (lines.One (calls.Read a b))) range =
    let ea : min a number_most ≡ a = omega (arith, range) in
    let eb : min b number_most ≡ b = omega (arith, range) in
    rw (ea, eb) refl
capped_exact (Says (lines.One (calls.Saw a b c d))) range =
    let ea : min a number_most ≡ a = omega (arith, range) in
    let eb : min b number_most ≡ b = omega (arith, range) in
    let ec : min c number_most ≡ c = omega (arith, range) in
    let ed : min d number_most ≡ d = omega (arith, range) in
    rw (ea, eb, ec, ed) refl
capped_exact (Says (lines.One (calls.Back a b c d))) range =
    let ea : min a number_most ≡ a = omega (arith, range) in
    let eb : min b number_most ≡ b = omega (arith, range) in
    let ec : min c number_most ≡ c = omega (arith, range) in
    let ed : min d number_most ≡ d = omega (arith, range) in
    rw (ea, eb, ec, ed) refl
capped_exact (Says (lines.One (calls.Want a b c))) range =
    let ea : min a number_most ≡ a = omega (arith, range) in
    let eb : min b number_most ≡ b = omega (arith, range) in
    let ec : min c number_most ≡ c = omega (arith, range) in
    rw (ea, eb, ec) refl
capped_exact (Says (lines.One (calls.Tick a))) range =
    let ea : min a number_most ≡ a = omega (arith, range) in
    rw (ea) refl
capped_exact (Says (lines.One (calls.Stop a))) range =
    let ea : min a number_most ≡ a = omega (arith, range) in
    rw (ea) refl
capped_exact (Says (lines.One (calls.Cap a b))) range =
    let ea : min a number_most ≡ a = omega (arith, range) in
    let eb : min b number_most ≡ b = omega (arith, range) in
    rw (ea, eb) refl
capped_exact (Says (lines.Restart a)) range = let e : min a number_most ≡ a = omega (arith, range) in rw e refl
capped_exact (Begin a) range = let e : min a number_most ≡ a = omega (arith, range) in rw e refl
capped_exact (Says lines.Roll) range = refl
capped_exact (Inverter wmax wsf psf floor) range =
    let a : min wmax number_most ≡ wmax = omega (arith, range.0) in
    let b : cut size_most wsf ≡ wsf = cut_was wsf range.1 range.2 in
    let c : cut size_most psf ≡ psf = cut_was psf range.3 range.4 in
    let d : min floor number_most ≡ floor = omega (arith, range.5) in
    rw (a, b, c, d) refl
capped_exact (Site cap send delay timer per_mille slack policy room) range =
    let in_bounds = bounds_of (min send number_most) (min delay number_most) (min timer number_most) (min per_mille number_most) (min slack number_most) range.1 in
    let a : min cap number_most ≡ cap = omega (arith, range.0) in
    let b : min send number_most ≡ send = omega (arith, in_bounds) in
    let c : min delay number_most ≡ delay = omega (arith, in_bounds) in
    let d : min timer number_most ≡ timer = omega (arith, in_bounds) in
    let f : min per_mille number_most ≡ per_mille = omega (arith, in_bounds) in
    let g : min slack number_most ≡ slack = omega (arith, in_bounds) in
    let h : min room number_most ≡ room = omega (arith, range.3) in
    rw (a, b, c, d, f, g, h) refl

pub exact_capped : (statement : Statement) → InRange statement → capped statement ≡ statement
exact_capped (Says (lines.One (calls.Link a b))) range =
    let ea : min a number_most ≡ a = omega (arith, range) in
    let eb : min b number_most ≡ b = omega (arith, range) in
    rw (ea, eb) refl
exact_capped (Says (lines.One (calls.Ask a b c))) range =
    let ea : min a number_most ≡ a = omega (arith, range) in
    let eb : min b number_most ≡ b = omega (arith, range) in
    let ec : min c number_most ≡ c = omega (arith, range) in
    rw (ea, eb, ec) refl
exact_capped (Says (lines.One (calls.Read a b))) range =
    let ea : min a number_most ≡ a = omega (arith, range) in
    let eb : min b number_most ≡ b = omega (arith, range) in
    rw (ea, eb) refl
exact_capped (Says (lines.One (calls.Saw a b c d))) range =
    let ea : min a number_most ≡ a = omega (arith, range) in
    let eb : min b number_most ≡ b = omega (arith, range) in
    let ec : min c number_most ≡ c = omega (arith, range) in
    let ed : min d number_most ≡ d = omega (arith, range) in
    rw (ea, eb, ec, ed) refl
exact_capped (Says (lines.One (calls.Back a b c d))) range =
    let ea : min a number_most ≡ a = omega (arith, range) in
    let eb : min b number_most ≡ b = omega (arith, range) in
    let ec : min c number_most ≡ c = omega (arith, range) in
    let ed : min d number_most ≡ d = omega (arith, range) in
    rw (ea, eb, ec, ed) refl
exact_capped (Says (lines.One (calls.Want a b c))) range =
    let ea : min a number_most ≡ a = omega (arith, range) in
    let eb : min b number_most ≡ b = omega (arith, range) in
    let ec : min c number_most ≡ c = omega (arith, range) in
    rw (ea, eb, ec) refl
exact_capped (Says (lines.One (calls.Tick a))) range =
    let ea : min a number_most ≡ a = omega (arith, range) in
    rw (ea) refl
exact_capped (Says (lines.One (calls.Stop a))) range =
    let ea : min a number_most ≡ a = omega (arith, range) in
    rw (ea) refl
exact_capped (Says (lines.One (calls.Cap a b))) range =
    let ea : min a number_most ≡ a = omega (arith, range) in
    let eb : min b number_most ≡ b = omega (arith, range) in
    rw (ea, eb) refl
exact_capped (Says (lines.Restart a)) range = let e : min a number_most ≡ a = omega (arith, range) in rw e refl
exact_capped (Begin a) range = let e : min a number_most ≡ a = omega (arith, range) in rw e refl
exact_capped (Says lines.Roll) range = refl
exact_capped (Inverter wmax wsf psf floor) range =
    let a : min wmax number_most ≡ wmax = omega (arith, range.0) in
    let b : cut size_most wsf ≡ wsf = cut_is wsf range.1 range.2 in
    let c : cut size_most psf ≡ psf = cut_is psf range.3 range.4 in
    let d : min floor number_most ≡ floor = omega (arith, range.5) in
    rw (a, b, c, d) refl
exact_capped (Site cap send delay timer per_mille slack policy room) range =
    let in_bounds = bounds_of send delay timer per_mille slack range.1 in
    let a : min cap number_most ≡ cap = omega (arith, range.0) in
    let b : min send number_most ≡ send = omega (arith, in_bounds) in
    let c : min delay number_most ≡ delay = omega (arith, in_bounds) in
    let d : min timer number_most ≡ timer = omega (arith, in_bounds) in
    let f : min per_mille number_most ≡ per_mille = omega (arith, in_bounds) in
    let g : min slack number_most ≡ slack = omega (arith, in_bounds) in
    let h : min room number_most ≡ room = omega (arith, range.3) in
    rw (a, b, c, d, f, g, h) refl

place_capped : (before : List Statement) (statement : Statement) → HasPlace before statement → HasPlace before (capped statement)
place_capped before (Says (lines.One (calls.Link a b))) place = place
place_capped before (Says (lines.One (calls.Ask a b c))) place = place
place_capped before (Says (lines.One (calls.Read a b))) place = place
place_capped before (Says (lines.One (calls.Saw a b c d))) place = place
place_capped before (Says (lines.One (calls.Back a b c d))) place = place
place_capped before (Says (lines.One (calls.Want a b c))) place = place
place_capped before (Says (lines.One (calls.Tick a))) place = place
place_capped before (Says (lines.One (calls.Stop a))) place = place
place_capped before (Says (lines.One (calls.Cap a b))) place = place
place_capped before (Says (lines.Restart at)) place = place
place_capped before (Says lines.Roll) place = place
place_capped before (Begin at) place = place
place_capped before (Inverter wmax wsf psf floor) place = place
place_capped before (Site cap send delay timer per_mille slack policy room) place = place

place_exact : (before : List Statement) (statement : Statement) → HasPlace before (capped statement) → HasPlace before statement
place_exact before (Says (lines.One (calls.Link a b))) place = place
place_exact before (Says (lines.One (calls.Ask a b c))) place = place
place_exact before (Says (lines.One (calls.Read a b))) place = place
place_exact before (Says (lines.One (calls.Saw a b c d))) place = place
place_exact before (Says (lines.One (calls.Back a b c d))) place = place
place_exact before (Says (lines.One (calls.Want a b c))) place = place
place_exact before (Says (lines.One (calls.Tick a))) place = place
place_exact before (Says (lines.One (calls.Stop a))) place = place
place_exact before (Says (lines.One (calls.Cap a b))) place = place
place_exact before (Says (lines.Restart at)) place = place
place_exact before (Says lines.Roll) place = place
place_exact before (Begin at) place = place
place_exact before (Inverter wmax wsf psf floor) place = place
place_exact before (Site cap send delay timer per_mille slack policy room) place = place

-- what the numbers that were read lack, the line lacks
pub lacks_exact : (kind : LineKind) (before : List Statement) (statement : Statement) → Lacks kind before (capped statement) → Lacks kind before statement
lacks_exact kinds.Form before statement lacks = λ place. lacks (place_capped before statement place)
lacks_exact kinds.Value before statement lacks = (place_exact before statement lacks.0, λ range. lacks.1 (subst InRange (sym (exact_capped statement range)) range))
lacks_exact kinds.Inverter before statement lacks = subst (λ (x : Statement). Lacks kinds.Inverter before x) (capped_exact statement lacks.1) lacks
lacks_exact kinds.Time before statement lacks = subst (λ (x : Statement). Lacks kinds.Time before x) (capped_exact statement lacks.1) lacks
