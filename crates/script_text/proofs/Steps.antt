-- Going on row by row.
use Rattle.std.proofs.Common.{◌≡◌, ℕ, ◌+◌, ◌≤◌, ◌⊎◌, List, [], ◌∷◌, ◌++◌, length, Option, Some, None, refl, sym, ap, subst, ◌∙◌, arith, append_assoc, length-append}
use Rattle.std.specs.List.{flat_map}
use Rattle.std.specs.Option.{option_to_list}
use Rattle.std.specs.Str.Lines.{lines}
use Rattle.std.proofs.lemmas.List.{append-nil}
use Rattle.std.proofs.lemmas.List.Concat.{flat_map-append}
use Rattle.script_text.specs.declared.line.Line.{Line}
use Rattle.script_text.specs.declared.line.LineKind.{LineKind}
use Rattle.script_text.specs.declared.line.LineKind.TheVariants as kinds
use Rattle.script_text.specs.Grammar.{Statement, Says, IsSpelled, IsComment}
use Rattle.script_text.specs.Script.{Say, statements_of, inverter_on, inverters_in, moment_on, last_of, latest_in, begin_on, begins_in, MayFollow, Lacks, EachMayFollow, IsBad, IsFirstBadLine}
use Rattle.script_text.specs.Reading.{row_at, behind_row}
use Rattle.script_text.specs.Progress.{Progress, IsBegun}
use Rattle.script_text.proofs.LineEnds.{lines_first}

no_rows : (one : Option Statement) (more : List (Option Statement)) → Say [] (one ∷ more) → ⊥
no_rows None more p = p
no_rows (Some statement) more p = p

say_more : (rows rows' : List (List ℕ)) (said said' : List (Option Statement)) → Say rows said → Say rows' said' → Say (rows ++ rows') (said ++ said')
say_more [] rows' [] said' p q = q
say_more [] rows' (one ∷ more) said' p q = absurd (no_rows one more p)
say_more (row ∷ rows) rows' [] said' p q = absurd p
say_more (row ∷ rows) rows' (None ∷ more) said' p q = (p.0, say_more rows rows' more said' p.1 q)
say_more (row ∷ rows) rows' (Some statement ∷ more) said' p q = (p.0, say_more rows rows' more said' p.1 q)

statements_more : (said said' : List (Option Statement)) → statements_of (said ++ said') ≡ statements_of said ++ statements_of said'
statements_more said said' = flat_map-append option_to_list said said'

pub each_push : (acc before : List Statement) (statement : Statement) → EachMayFollow acc before → MayFollow (acc ++ before) statement → EachMayFollow acc (before ++ statement ∷ [])
each_push acc [] statement each may = (subst (λ (x : List Statement). MayFollow x statement) (append-nil acc) may, tt)
each_push acc (first ∷ before) statement each may =
    (each.0, each_push (acc ++ first ∷ []) before statement each.1 (subst (λ (x : List Statement). MayFollow x statement) (sym (append_assoc acc (first ∷ []) before)) may))

behind_rows : (bytes rest : List ℕ) (before : List (List ℕ)) → lines bytes ≡ before ++ lines rest → 1 ≤ length rest → lines bytes ≡ (before ++ row_at rest ∷ []) ++ lines (behind_row rest)
behind_rows bytes rest before rows some =
    rows ∙ ap (λ (x : List (List ℕ)). before ++ x) (lines_first rest some) ∙ sym (append_assoc before (row_at rest ∷ []) (lines (behind_row rest)))

pub begins : (bytes : List ℕ) → Progress bytes bytes [] 1
begins bytes = record { before = []; rows = refl; said = []; say = tt; statements_are = refl; each = tt; count = refl }

pub comment_on : (bytes rest : List ℕ) (statements : List Statement) (number : ℕ) → Progress bytes rest statements number → 1 ≤ length rest → IsComment (row_at rest) → Progress bytes (behind_row rest) statements (number + 1)
comment_on bytes rest statements number p some comment = record {
  before = p.before ++ row_at rest ∷ [];
  rows = behind_rows bytes rest p.before p.rows some;
  said = p.said ++ None ∷ [];
  say = say_more p.before (row_at rest ∷ []) p.said (None ∷ []) p.say (comment, tt);
  statements_are = statements_more p.said (None ∷ []) ∙ append-nil (statements_of p.said) ∙ p.statements_are;
  each = p.each;
  count = omega (arith, p.count, length-append p.before (row_at rest ∷ []));
}

pub statement_on : (bytes rest : List ℕ) (statements : List Statement) (number : ℕ) (statement : Statement) → Progress bytes rest statements number → 1 ≤ length rest → IsSpelled (row_at rest) statement
    → MayFollow statements statement → Progress bytes (behind_row rest) (statements ++ statement ∷ []) (number + 1)
statement_on bytes rest statements number statement p some spelled may = record {
  before = p.before ++ row_at rest ∷ [];
  rows = behind_rows bytes rest p.before p.rows some;
  said = p.said ++ Some statement ∷ [];
  say = say_more p.before (row_at rest ∷ []) p.said (Some statement ∷ []) p.say (spelled, tt);
  statements_are = statements_more p.said (Some statement ∷ []) ∙ ap (λ (x : List Statement). x ++ statement ∷ []) p.statements_are;
  each = each_push [] statements statement p.each may;
  count = omega (arith, p.count, length-append p.before (row_at rest ∷ []));
}

pub bad_row : (bytes rest : List ℕ) (statements : List Statement) (number : ℕ) (kind : LineKind) → Progress bytes rest statements number → 1 ≤ length rest → (IsComment (row_at rest) → ⊥)
    → ((statement : Statement) → IsSpelled (row_at rest) statement → Lacks kind statements statement) → ((kind ≡ kinds.Form) ⊎ ((statement : Statement) × IsSpelled (row_at rest) statement)) → IsFirstBadLine bytes number kind
bad_row bytes rest statements number kind p some plain lacks why = record {
  before = p.before;
  rest = row_at rest ∷ lines (behind_row rest);
  rows = p.rows ∙ ap (λ (x : List (List ℕ)). p.before ++ x) (lines_first rest some);
  said = p.said;
  say = p.say;
  each = subst (λ (x : List Statement). EachMayFollow [] x) (sym p.statements_are) p.each;
  bad = subst (λ (x : List Statement). IsBad kind x (row_at rest ∷ lines (behind_row rest))) (sym p.statements_are) (plain, lacks, why);
  count = p.count;
}

pub ends_early : (bytes : List ℕ) (statements : List Statement) (number : ℕ) → Progress bytes [] statements number → begins_in statements ≡ [] → IsFirstBadLine bytes number kinds.Form
ends_early bytes statements number p none = record {
  before = p.before;
  rest = [];
  rows = p.rows;
  said = p.said;
  say = p.say;
  each = subst (λ (x : List Statement). EachMayFollow [] x) (sym p.statements_are) p.each;
  bad = (refl, ap begins_in p.statements_are ∙ none);
  count = p.count;
}

-- what one more statement tells

pub begins_more : (before : List Statement) (statement : Statement) → begins_in (before ++ statement ∷ []) ≡ begins_in before ++ begin_on statement
begins_more before statement = flat_map-append begin_on before (statement ∷ []) ∙ ap (λ (x : List ℕ). begins_in before ++ x) (append-nil (begin_on statement))

last_more : (number : ℕ) (a b : List ℕ) → last_of number (a ++ b) ≡ last_of (last_of number a) b
last_more number [] b = refl
last_more number (x ∷ a) b = last_more x a b

pub latest_more : (before : List Statement) (statement : Statement) → latest_in (before ++ statement ∷ []) ≡ last_of (latest_in before) (moment_on statement)
latest_more before statement =
    ap (last_of 0) (flat_map-append moment_on before (statement ∷ []) ∙ ap (λ (x : List ℕ). flat_map moment_on before ++ x) (append-nil (moment_on statement)))
    ∙ last_more 0 (flat_map moment_on before) (moment_on statement)

pub inverters_more : (before : List Statement) (statement : Statement) → inverters_in (before ++ statement ∷ []) ≡ inverters_in before + length (inverter_on statement)
inverters_more before statement =
    ap length (flat_map-append inverter_on before (statement ∷ []) ∙ ap (λ (x : List Statement). flat_map inverter_on before ++ x) (append-nil (inverter_on statement)))
    ∙ length-append (flat_map inverter_on before) (inverter_on statement)

pub begun_on : (inverters latest : ℕ) (before : List Statement) (line : Line) → IsBegun inverters latest before → IsBegun inverters (last_of latest (moment_on (Says line))) (before ++ Says line ∷ [])
begun_on inverters latest before line b = record {
  begun = omega (arith, b.begun, ap length (begins_more before (Says line)), length-append (begins_in before) []);
  inverters_are = inverters_more before (Says line) ∙ omega (arith, b.inverters_are);
  latest_is = latest_more before (Says line) ∙ ap (λ (n : ℕ). last_of n (moment_on (Says line))) b.latest_is;
}
