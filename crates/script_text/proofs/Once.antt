-- Bytes are one script at most, or have one first bad line.
use Rattle.std.proofs.Common.{◌≡◌, ℕ, ◌<◌, ◌≤◌, inl, inr, List, [], ◌∷◌, ◌++◌, length, map, Option, Some, None, refl, sym, ap, subst, ◌∙◌, arith, append_assoc, ℤ, pos}
use Rattle.std.specs.Option.{option_to_list}
use Rattle.std.specs.Str.Lines.{lines}
use Rattle.std.proofs.Props.{props}
use Rattle.std.proofs.lemmas.Bool.{cases_order}
use Rattle.std.proofs.lemmas.List.{append-nil}
use Rattle.std.proofs.lemmas.List.Concat.{flat_map-append}
use Rattle.limiter_num.specs.declared.rules.Rules.{Rules}
use Rattle.limiter_num.specs.declared.rating.Rating.{Rating}
use Rattle.limiter_num.specs.Milliwatts.{IsRated, full_of}
use Rattle.share_policy.specs.declared.claim.Policy.{Policy}
use Rattle.plant_book.specs.declared.site.Unit as unit
use Rattle.script_text.specs.declared.line.Line.{Line}
use Rattle.script_text.specs.declared.line.LineKind.{LineKind}
use Rattle.script_text.specs.declared.line.LineKind.TheVariants as kinds
use Rattle.script_text.specs.Grammar.{Statement, Site, Inverter, Begin, Says}
use Rattle.script_text.specs.Script.{ScriptRecord, Say, statements_of, begin_on, begins_in, MayFollow, Lacks, EachMayFollow, IsScript, IsBad, IsFirstBadLine, inverter_statement, script_statements}
use Rattle.script_text.proofs.Spelled.{spelled_once, no_comment}
use Rattle.script_text.proofs.Taken.{no_begins}

-- two statements of the same words are one

over : {A B : Type 0} (P : A → Type 0) (make : (x : A) → P x → B) → ((x : A) → IsProp (P x)) → (x y : A) → x ≡ y → (p : P x) (q : P y) → make x p ≡ make y q
over {A} P make prop x y e = subst (λ (z : A). (p : P x) (q : P z) → make x p ≡ make z q) e (λ p q. ap (make x) (prop x p q))

same_rating : (a b : Rating) → a.wmax ≡ b.wmax → a.wsf ≡ b.wsf → a.psf ≡ b.psf → a ≡ b
same_rating a b wmax wsf psf =
    over {A = ℕ × ℤ × ℤ} {B = Rating} (λ n. IsRated n.0 n.1 n.2) (λ n p. record { wmax = n.0; wsf = n.1; psf = n.2; sound = p }) (λ n. hlevel props)
    (a.wmax, a.wsf, a.psf) (b.wmax, b.wsf, b.psf) (λ i. (wmax i, wsf i, psf i)) a.sound b.sound

same_unit : (a b : unit.Unit) → a.rating ≡ b.rating → a.floor ≡ b.floor → a ≡ b
same_unit a b rating floor =
    over {A = Rating × ℕ} {B = unit.Unit} (λ n. n.1 ≤ full_of n.0.psf) (λ n p. record { rating = n.0; floor = n.1; within = p }) (λ n. hlevel props)
    (a.rating, a.floor) (b.rating, b.floor) (λ i. (rating i, floor i)) a.within b.within

record InRange (send delay timer per_mille slack : ℕ) : Type 0 where
  send_low : 1 ≤ send
  send_high : send ≤ 60000
  delay_high : delay ≤ 600000
  timer_low : 1 ≤ timer
  timer_high : timer ≤ 86400
  per_mille_high : per_mille ≤ 500
  slack_high : slack ≤ 600000

in_range : (a : Rules) → InRange a.send a.delay a.timer a.per_mille a.slack
in_range a = record { send_low = a.send_low; send_high = a.send_high; delay_high = a.delay_high; timer_low = a.timer_low; timer_high = a.timer_high; per_mille_high = a.per_mille_high; slack_high = a.slack_high }

same_rules : (a b : Rules) → a.send ≡ b.send → a.delay ≡ b.delay → a.timer ≡ b.timer → a.per_mille ≡ b.per_mille → a.slack ≡ b.slack → a ≡ b
unfolding in_range
same_rules a b send delay timer per_mille slack =
    over {A = ℕ × ℕ × ℕ × ℕ × ℕ} {B = Rules} (λ n. InRange n.0 n.1 n.2 n.3 n.4)
    (λ n p. record {
      send = n.0;
      delay = n.1;
      timer = n.2;
      per_mille = n.3;
      slack = n.4;
      send_low = p.send_low;
      send_high = p.send_high;
      delay_high = p.delay_high;
      timer_low = p.timer_low;
      timer_high = p.timer_high;
      per_mille_high = p.per_mille_high;
      slack_high = p.slack_high;
    }) (λ n. hlevel props)
    (a.send, a.delay, a.timer, a.per_mille, a.slack) (b.send, b.delay, b.timer, b.per_mille, b.slack) (λ i. (send i, delay i, timer i, per_mille i, slack i)) (in_range a) (in_range b)

-- what statements tell, by their kinds
abbrev told_inverter : Statement → ℕ × ℤ × ℤ × ℕ
told_inverter (Inverter wmax wsf psf floor) = (wmax, wsf, psf, floor)
told_inverter _ = (0, pos 0, pos 0, 0)

abbrev told_site : Statement → Policy → ℕ × ℕ × ℕ × ℕ × ℕ × ℕ × Policy × ℕ
told_site (Site cap send delay timer per_mille slack policy room) other = (cap, send, delay, timer, per_mille, slack, policy, room)
told_site _ other = (0, 0, 0, 0, 0, 0, other, 0)

abbrev told_at : Statement → ℕ
told_at (Begin at) = at
told_at _ = 0

abbrev told_line : Statement → Line → Line
told_line (Says line) other = line
told_line _ other = other

same_inverter : (a b : unit.Unit) → inverter_statement a ≡ inverter_statement b → a ≡ b
same_inverter a b e =
    let same = ap told_inverter e in
    same_unit a b (same_rating a.rating b.rating (λ i. (same i).0) (λ i. (same i).1) (λ i. (same i).2)) (λ i. (same i).3)

first_same : (a b : Statement) (x y : List Statement) → a ∷ x ≡ b ∷ y → (a ≡ b) × (x ≡ y)
first_same a b x y e = (cc, cc)

lines_same : (a b : List Line) → map (λ line. Says line) a ≡ map (λ line. Says line) b → a ≡ b
lines_same [] [] e = refl
lines_same [] (line ∷ b) e = absurd cc
lines_same (line ∷ a) [] e = absurd cc
lines_same (line ∷ a) (other ∷ b) e =
    let both = first_same (Says line) (Says other) (map (λ line. Says line) a) (map (λ line. Says line) b) e in
    let one : line ≡ other = ap (λ (s : Statement). told_line s line) both.0 in
    let more : a ≡ b = lines_same a b both.1 in
    λ i. one i ∷ more i

record Rest (units units' : List unit.Unit) (start start' : ℕ) (x y : List Line) : Type 0 where
  units_are : units ≡ units'
  start_is : start ≡ start'
  lines_are : x ≡ y

rest_same : (units units' : List unit.Unit) (start start' : ℕ) (x y : List Line) → (map inverter_statement units ++ Begin start ∷ []) ++ map (λ line. Says line) x ≡ (map inverter_statement units' ++ Begin start' ∷ []) ++ map (λ line. Says line) y
    → Rest units units' start start' x y
rest_same [] [] start start' x y e =
    let both = first_same (Begin start) (Begin start') (map (λ line. Says line) x) (map (λ line. Says line) y) e in
    record { units_are = refl; start_is = ap told_at both.0; lines_are = lines_same x y both.1 }
rest_same [] (unit ∷ units') start start' x y e = absurd cc
rest_same (unit ∷ units) [] start start' x y e = absurd cc
rest_same (one ∷ units) (other ∷ units') start start' x y e =
    let both = first_same (inverter_statement one) (inverter_statement other) _ _ e in
    let more = rest_same units units' start start' x y both.1 in
    let first : one ≡ other = same_inverter one other both.0 in
    let rest : units ≡ units' = more.units_are in
    record { units_are = λ i. first i ∷ rest i; start_is = more.start_is; lines_are = more.lines_are }

same_script : (a b : ScriptRecord) → script_statements a ≡ script_statements b → a ≡ b
same_script a b e =
    let both = first_same _ _ _ _ e in
    let site = ap (λ (s : Statement). told_site s a.site.policy) both.0 in
    let rules : a.site.rules ≡ b.site.rules = same_rules a.site.rules b.site.rules (λ i. (site i).1) (λ i. (site i).2) (λ i. (site i).3) (λ i. (site i).4) (λ i. (site i).5) in
    let more = rest_same a.site.units b.site.units a.start b.start a.lines b.lines both.1 in
    λ i. record {
      site = record { cap = (site i).0; rules = rules i; policy = (site i).6; room = (site i).7; units = more.units_are i };
      start = more.start_is i;
      lines = more.lines_are i;
    }

-- rows say the same

says_none : (one : Option Statement) (more : List (Option Statement)) → Say [] (one ∷ more) → ⊥
says_none None more p = p
says_none (Some statement) more p = p

say_once : (rows : List (List ℕ)) (x y : List (Option Statement)) → Say rows x → Say rows y → x ≡ y
say_once [] [] [] p q = refl
say_once [] [] (one ∷ y) p q = absurd (says_none one y q)
say_once [] (one ∷ x) y p q = absurd (says_none one x p)
say_once (row ∷ rows) [] y p q = absurd p
say_once (row ∷ rows) (one ∷ x) [] p q = absurd q
say_once (row ∷ rows) (None ∷ x) (None ∷ y) p q = ap (λ (z : List (Option Statement)). None ∷ z) (say_once rows x y p.1 q.1)
say_once (row ∷ rows) (None ∷ x) (Some b ∷ y) p q = absurd (no_comment row b q.0 p.0)
say_once (row ∷ rows) (Some a ∷ x) (None ∷ y) p q = absurd (no_comment row a p.0 q.0)
say_once (row ∷ rows) (Some a ∷ x) (Some b ∷ y) p q =
    let one : a ≡ b = spelled_once row a b p.0 q.0 in
    let more : x ≡ y = say_once rows x y p.1 q.1 in
    λ i. Some (one i) ∷ more i

pub one_script : (bytes : List ℕ) (a b : ScriptRecord) → IsScript bytes a → IsScript bytes b → a ≡ b
one_script bytes a b p q = same_script a b (sym p.statements ∙ ap statements_of (say_once (lines bytes) p.said q.said p.say q.say) ∙ q.statements)

-- a row that is bad isn't among rows that are not

lacks_may : (kind : LineKind) (before : List Statement) (statement : Statement) → Lacks kind before statement → MayFollow before statement → ⊥
lacks_may kinds.Form before statement lacks may = lacks may.place
lacks_may kinds.Value before statement lacks may = lacks.1 may.range
lacks_may kinds.Inverter before statement lacks may = lacks.2 may.of_site
lacks_may kinds.Time before statement lacks may = lacks.3 may.in_time

-- rows behind other rows, and what they say
record Behind (before rows : List (List ℕ)) (said said' : List (Option Statement)) : Type 0 where
  more : List (Option Statement)
  say : Say rows more
  said_is : said ≡ said' ++ more

say_behind : (before rows : List (List ℕ)) (said said' : List (Option Statement)) → Say (before ++ rows) said → Say before said' → Behind before rows said said'
say_behind [] rows said [] p q = record { more = said; say = p; said_is = refl }
say_behind [] rows said (one ∷ said') p q = absurd (says_none one said' q)
say_behind (row ∷ before) rows [] said' p q = absurd p
say_behind (row ∷ before) rows (one ∷ said) [] p q = absurd q
say_behind (row ∷ before) rows (None ∷ said) (None ∷ said') p q =
    let more = say_behind before rows said said' p.1 q.1 in
    record { more = more.more; say = more.say; said_is = ap (λ (z : List (Option Statement)). None ∷ z) more.said_is }
say_behind (row ∷ before) rows (None ∷ said) (Some b ∷ said') p q = absurd (no_comment row b q.0 p.0)
say_behind (row ∷ before) rows (Some a ∷ said) (None ∷ said') p q = absurd (no_comment row a p.0 q.0)
say_behind (row ∷ before) rows (Some a ∷ said) (Some b ∷ said') p q =
    let more = say_behind before rows said said' p.1 q.1 in
    let one : a ≡ b = spelled_once row a b p.0 q.0 in
    let rest = more.said_is in
    record { more = more.more; say = more.say; said_is = λ i. Some (one i) ∷ rest i }

each_behind : (acc a b : List Statement) → EachMayFollow acc (a ++ b) → EachMayFollow (acc ++ a) b
each_behind acc [] b each = subst (λ (x : List Statement). EachMayFollow x b) (sym (append-nil acc)) each
each_behind acc (statement ∷ a) b each =
    subst (λ (x : List Statement). EachMayFollow x b) (append_assoc acc (statement ∷ []) a) (each_behind (acc ++ statement ∷ []) a b each.1)

good_row : (kind : LineKind) (row : List ℕ) (rows rest : List (List ℕ)) (said : List (Option Statement)) (before : List Statement) → Say (row ∷ rows) said → EachMayFollow before (statements_of said) → IsBad kind before (row ∷ rest) → ⊥
good_row kind row rows rest [] before say each bad = absurd say
good_row kind row rows rest (None ∷ said) before say each bad = bad.0 say.0
good_row kind row rows rest (Some statement ∷ said) before say each bad = lacks_may kind before statement (bad.1 statement say.0) each.0

inside : (kind : LineKind) (before rows rest : List (List ℕ)) (row : List ℕ) (all said : List (Option Statement)) → Say (before ++ row ∷ rows) all → EachMayFollow [] (statements_of all) → Say before said
    → IsBad kind (statements_of said) (row ∷ rest) → ⊥
inside kind before rows rest row all said say each say' bad =
    let behind = say_behind before (row ∷ rows) all said say say' in
    let each' : EachMayFollow [] (statements_of said ++ statements_of behind.more) = subst (λ (x : List Statement). EachMayFollow [] x) (ap statements_of behind.said_is ∙ flat_map-append option_to_list said behind.more) each in
    good_row kind row rows rest behind.more (statements_of said) behind.say (each_behind [] (statements_of said) (statements_of behind.more) each') bad

head_begun : (script : ScriptRecord) (before : List Statement) → before ≡ script_statements script → begins_in before ≡ [] → ⊥
head_begun script before is none =
    let units : List Statement = map inverter_statement script.site.units in
    let tail : begins_in ((units ++ Begin script.start ∷ []) ++ map (λ line. Says line) script.lines) ≡ (begins_in units ++ script.start ∷ []) ++ begins_in (map (λ line. Says line) script.lines) =
    flat_map-append begin_on (units ++ Begin script.start ∷ []) (map (λ line. Says line) script.lines) ∙ ap (λ (x : List ℕ). x ++ begins_in (map (λ line. Says line) script.lines)) (flat_map-append begin_on units (Begin script.start ∷ [])) in
    let first : (begins_in units ++ script.start ∷ []) ++ begins_in (map (λ line. Says line) script.lines) ≡ script.start ∷ begins_in (map (λ line. Says line) script.lines) =
    ap (λ (x : List ℕ). (x ++ script.start ∷ []) ++ begins_in (map (λ line. Says line) script.lines)) (no_begins script.site.units) in
    let all : [] ≡ script.start ∷ begins_in (map (λ line. Says line) script.lines) = sym none ∙ ap begins_in is ∙ tail ∙ first in
    absurd cc

by_rest : (kind : LineKind) (rest : List (List ℕ)) (script : ScriptRecord) (all said : List (Option Statement)) (before : List (List ℕ)) → Say (before ++ rest) all → statements_of all ≡ script_statements script → EachMayFollow [] (statements_of all)
    → Say before said → IsBad kind (statements_of said) rest → ⊥
by_rest kind [] script all said before say is each say' bad =
    let same : all ≡ said = say_once before all said (subst (λ (x : List (List ℕ)). Say x all) (append-nil before) say) say' in
    head_begun script (statements_of said) (ap statements_of (sym same) ∙ is) bad.1
by_rest kind (row ∷ rest) script all said before say is each say' bad = inside kind before rest rest row all said say each say' bad

pub not_both : (bytes : List ℕ) (script : ScriptRecord) (line : ℕ) (kind : LineKind) → IsScript bytes script → IsFirstBadLine bytes line kind → ⊥
not_both bytes script line kind p q = by_rest kind q.rest script p.said q.said q.before (subst (λ (x : List (List ℕ)). Say x p.said) q.rows p.say) p.statements (subst (λ (x : List Statement). EachMayFollow [] x) (sym p.statements) p.each) q.say q.bad

-- the first bad line

same_lack : (j k : LineKind) (before : List Statement) (statement : Statement) → Lacks j before statement → Lacks k before statement → j ≡ k
same_lack kinds.Form kinds.Form before statement p q = refl
same_lack kinds.Form kinds.Value before statement p q = absurd (p q.0)
same_lack kinds.Form kinds.Inverter before statement p q = absurd (p q.0)
same_lack kinds.Form kinds.Time before statement p q = absurd (p q.0)
same_lack kinds.Value kinds.Form before statement p q = absurd (q p.0)
same_lack kinds.Value kinds.Value before statement p q = refl
same_lack kinds.Value kinds.Inverter before statement p q = absurd (p.1 q.1)
same_lack kinds.Value kinds.Time before statement p q = absurd (p.1 q.1)
same_lack kinds.Inverter kinds.Form before statement p q = absurd (q p.0)
same_lack kinds.Inverter kinds.Value before statement p q = absurd (q.1 p.1)
same_lack kinds.Inverter kinds.Inverter before statement p q = refl
same_lack kinds.Inverter kinds.Time before statement p q = absurd (p.2 q.2)
same_lack kinds.Time kinds.Form before statement p q = absurd (q p.0)
same_lack kinds.Time kinds.Value before statement p q = absurd (q.1 p.1)
same_lack kinds.Time kinds.Inverter before statement p q = absurd (q.2 p.2)
same_lack kinds.Time kinds.Time before statement p q = refl

same_kind : (j k : LineKind) (before : List Statement) (rest : List (List ℕ)) → IsBad j before rest → IsBad k before rest → j ≡ k
same_kind j k before [] p q = p.0 ∙ sym q.0
same_kind j k before (row ∷ rest) p q =
    elim p.2 [
      | inl form ↦ elim q.2 [ inl form' ↦ form ∙ sym form' | inr at ↦ same_lack j k before at.0 (p.1 at.0 at.1) (q.1 at.0 at.1) ]
      | inr at ↦ same_lack j k before at.0 (p.1 at.0 at.1) (q.1 at.0 at.1)
    ]

-- two ways to cut a list: at one place, or one before the other
row_same : (row other : List ℕ) (x y : List (List ℕ)) → row ∷ x ≡ other ∷ y → row ≡ other
row_same row other x y e = cc

rows_same : (row other : List ℕ) (x y : List (List ℕ)) → row ∷ x ≡ other ∷ y → x ≡ y
rows_same row other x y e = cc

same_cut : (a b x y : List (List ℕ)) → a ++ x ≡ b ++ y → length a ≡ length b → (a ≡ b) × (x ≡ y)
same_cut [] [] x y e len = (refl, e)
same_cut [] (row ∷ b) x y e len = absurd (omega (arith, len))
same_cut (row ∷ a) [] x y e len = absurd (omega (arith, len))
same_cut (row ∷ a) (other ∷ b) x y e len =
    let one : row ≡ other = row_same row other (a ++ x) (b ++ y) e in
    let rest = same_cut a b x y (rows_same row other (a ++ x) (b ++ y) e) (omega (arith, len)) in
    let more = rest.0 in
    (λ i. one i ∷ more i, rest.1)

record Earlier (a b x y : List (List ℕ)) : Type 0 where
  row : List ℕ
  rows : List (List ℕ)
  more : List (List ℕ)
  rest_is : x ≡ row ∷ more
  before_is : b ≡ a ++ row ∷ rows

earlier_cut : (a b x y : List (List ℕ)) → a ++ x ≡ b ++ y → length a < length b → Earlier a b x y
earlier_cut [] [] x y e less = absurd (omega (arith, less))
earlier_cut [] (row ∷ b) x y e less = record { row = row; rows = b; more = b ++ y; rest_is = e; before_is = refl }
earlier_cut (row ∷ a) [] x y e less = absurd (omega (arith, less))
earlier_cut (row ∷ a) (other ∷ b) x y e less =
    let one : row ≡ other = row_same row other (a ++ x) (b ++ y) e in
    let rest = earlier_cut a b x y (rows_same row other (a ++ x) (b ++ y) e) (omega (arith, less)) in
    let is = rest.before_is in
    record { row = rest.row; rows = rest.rows; more = rest.more; rest_is = rest.rest_is; before_is = λ i. sym one i ∷ is i }

no_earlier : (bytes : List ℕ) (m n : ℕ) (j k : LineKind) (p : IsFirstBadLine bytes m j) (q : IsFirstBadLine bytes n k) → length p.before < length q.before → ⊥
no_earlier bytes m n j k p q less =
    let cut = earlier_cut p.before q.before p.rest q.rest (sym p.rows ∙ q.rows) less in
    inside j p.before cut.rows cut.more cut.row q.said p.said (subst (λ (x : List (List ℕ)). Say x q.said) cut.before_is q.say) q.each p.say (subst (λ (x : List (List ℕ)). IsBad j (statements_of p.said) x) cut.rest_is p.bad)

pub one_line : (bytes : List ℕ) (m n : ℕ) (j k : LineKind) → IsFirstBadLine bytes m j → IsFirstBadLine bytes n k → (m ≡ n) × (j ≡ k)
one_line bytes m n j k p q =
    elim (cases_order (length p.before) (length q.before)) [
      | inl same ↦
          let cut = same_cut p.before q.before p.rest q.rest (sym p.rows ∙ q.rows) same in
          let said : p.said ≡ q.said = say_once p.before p.said q.said p.say (subst (λ (x : List (List ℕ)). Say x q.said) (sym cut.0) q.say) in
          let bad : IsBad k (statements_of p.said) p.rest =
          subst (λ (x : List (Option Statement)). IsBad k (statements_of x) p.rest) (sym said) (subst (λ (x : List (List ℕ)). IsBad k (statements_of q.said) x) (sym cut.1) q.bad) in
          (omega (arith, p.count, q.count, same), same_kind j k (statements_of p.said) p.rest p.bad bad)
      | inr other ↦ elim other [ inl less ↦ absurd (no_earlier bytes m n j k p q less) | inr more ↦ absurd (no_earlier bytes n m k j q p more) ]
    ]
