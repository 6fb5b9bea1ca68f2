-- What the reader took.
use Rattle.std.proofs.Common.{◌≡◌, ℕ, suc, ◌+◌, ◌-◌, ◌^◌, ◌<◌, ◌≤◌, inl, inr, Bool, false, eqb, ◌&&◌, List, [], ◌∷◌, ◌++◌, length, map, Some, None, refl, sym, ap, subst, ◌∙◌, arith, length-append}
use denote.Ref.{Bor}
use Rattle.std.specs.List.{flat_map}
use Rattle.std.proofs.lemmas.Bool.{cases_Bool}
use Rattle.std.proofs.lemmas.Bool.Decides.{nat_tests}
use Rattle.std.proofs.lemmas.List.{append-nil, map_push}
use Rattle.plant_book.specs.declared.site.Unit as unit
use Rattle.script_text.specs.declared.line.Line.{Line}
use Rattle.script_text.specs.declared.line.LineKind.TheVariants as kinds
use Rattle.script_text.specs.declared.fields.Fields.{Fields}
use Rattle.script_text.specs.declared.head.HeadLine.{HeadLine}
use Rattle.script_text.specs.declared.head.HeadLine.TheVariants as heads
use Rattle.script_text.specs.declared.head.SiteLine as sites
use Rattle.script_text.specs.declared.rows.Rows.{Rows}
use Rattle.script_text.specs.declared.fault.ScriptFault.{ScriptFault}
use Rattle.script_text.specs.declared.fault.ScriptFault.TheVariants as faults
use Rattle.script_text.specs.Grammar.{Statement, Begin, Says, IsComment}
use Rattle.script_text.specs.Script.{ScriptRecord, Say, inverter_on, inverters_in, latest_in, begin_on, begins_in, MayFollow, Lacks, EachMayFollow, IsFirstBadLine, IsScript, site_statement, inverter_statement, script_statements}
use Rattle.script_text.specs.Reading.{number_most, size_most, begins_with, row_at, behind_row, fields_at, statement_of, fields_of}
use Rattle.script_text.specs.Progress.{Progress, IsAt, Said, Explains, IsBadLine, IsFurther, SiteTaken, HeadLineTaken, HeadLineFault, head_statement, UnitsTaken, UnitsFault, IsBegun, OneLineTaken}
use Rattle.script_text.proofs.LineEnds.{none_some}
use Rattle.script_text.proofs.Spelled.{fields_taken, row_found, spelled_once}
use Rattle.script_text.proofs.Ranges.{capped, capped_exact, lacks_exact}
use Rattle.script_text.proofs.Steps.{begins, statement_on, bad_row, ends_early, begins_more, latest_more, inverters_more}

pub comment_is : (byte : ℕ) (rest : List ℕ) → (byte ≡ 35 → IsComment (row_at (byte ∷ rest))) × (IsComment (row_at (byte ∷ rest)) → byte ≡ 35)
comment_is byte rest = (
  λ e. rw e refl,
  λ is. elim (cases_Bool (eqb byte 10)) [
    | inl feed ↦ let no : IsComment [] = rw feed at is in absurd no
    | inr other ↦
        elim (cases_Bool (eqb byte 13 && begins_with 10 rest)) [
          | inl end ↦ let no : IsComment [] = rw (other, end) at is in absurd no
          | inr inside ↦ rw (other, inside) at is
        ]
  ],
)

behind_at_most : (byte : ℕ) (rest : List ℕ) → length (behind_row (byte ∷ rest)) ≤ length rest
behind_at_most byte [] = elim (cases_Bool (eqb byte 10)) [ inl feed ↦ rw feed (omega arith) | inr other ↦ rw other (omega arith) ]
behind_at_most byte (next ∷ rest) =
    elim (cases_Bool (eqb byte 10)) [ inl feed ↦ rw feed (omega arith) | inr other ↦ rw other (omega (arith, behind_at_most next rest)) ]

pub behind_short : (bytes : List ℕ) → 1 ≤ length bytes → length (behind_row bytes) < length bytes
behind_short [] some = absurd (omega (arith, some))
behind_short (byte ∷ rest) some = omega (arith, behind_at_most byte rest)

most_big : 9 ≤ number_most
most_big = omega arith

size_small : size_most ≤ number_most
size_small = omega arith

-- a row from which nothing is read is no line
pub none_next : (whole whole' rest : List ℕ) (before : List Statement) (number : ℕ) → whole' ≡ whole → Progress whole' rest before number → 1 ≤ length rest → (IsComment (row_at rest) → ⊥)
    → fields_at number_most size_most rest ≡ None → IsFirstBadLine whole number kinds.Form
none_next whole whole' rest before number same p some plain none =
    subst (λ (w : List ℕ). IsFirstBadLine w number kinds.Form) same
    (bad_row whole' rest before number kinds.Form p some plain
    (λ statement spelled. absurd (none_some (fields_at number_most size_most rest) (fields_of number_most size_most statement, behind_row rest) none (row_found number_most size_most rest statement most_big size_small spelled))) (inl refl))

pub said_next : (args past behind : Rows) (numbers : Fields) → past.whole.now ≡ args.whole.now → length past.rest.now ≤ length args.rest.now → args.number ≤ past.number
    → ((before : List Statement) → IsAt args before → IsAt past before) → (IsComment (row_at past.rest.now) → ⊥) → 1 ≤ length past.rest.now
    → fields_at number_most size_most past.rest.now ≡ Some (numbers, behind.rest.now) → behind.whole.now ≡ past.whole.now → behind.number ≡ past.number + 1 → Said args numbers behind
said_next args past behind numbers whole shorter number goes plain some read behind_whole next =
    let found = fields_taken number_most size_most past.rest.now (numbers, behind.rest.now) most_big size_small read in
    let statement : Statement = found.statement in
    let same : statement_of numbers ≡ capped statement = ap statement_of found.fields_are in
    record {
      whole = behind_whole ∙ whole;
      shorter = omega (arith, shorter, behind_short past.rest.now some, ap length found.row.behind);
      number = omega (arith, next, number);
      goes_on = λ before at may.
          let exact : statement_of numbers ≡ statement = same ∙ capped_exact statement (subst (λ (x : Statement). MayFollow before x) same may).range in
          let step = statement_on past.whole.now past.rest.now before past.number statement (goes before at) some found.row.is (subst (λ (x : Statement). MayFollow before x) exact may) in
          rw (behind_whole, found.row.behind, exact, next) step;
      bad = λ before kind at lacks.
          let lacks' : Lacks kind before statement = lacks_exact kind before statement (subst (λ (x : Statement). Lacks kind before x) same lacks) in
          let bad : IsFirstBadLine past.whole.now past.number kind =
          bad_row past.whole.now past.rest.now before past.number kind (goes before at) some plain
          (λ other spelled. subst (λ (x : Statement). Lacks kind before x) (spelled_once (row_at past.rest.now) statement other found.row.is spelled) lacks') (inr (statement, found.row.is)) in
          let line : behind.number - 1 ≡ past.number = omega (arith, next) in
          rw (← whole, line) bad;
    }

pub head_ends : (rows : Rows) (before : List Statement) (number : ℕ) → Progress rows.whole.now [] before number → begins_in before ≡ [] → IsFirstBadLine rows.whole.now number kinds.Form
head_ends rows before number p none = ends_early rows.whole.now before number p none

further : (rows behind : Rows) (numbers : Fields) → Said rows numbers behind → behind.number + length behind.rest.now < 2 ^ 32 → IsFurther rows behind
further rows behind numbers said few = record { whole = said.whole; shorter = said.shorter; number = said.number; few = few }

pub site_taken : (rows behind : Rows) (numbers : Fields) (site : sites.SiteLine) → Said rows numbers behind → behind.number + length behind.rest.now < 2 ^ 32
    → (site_statement site.cap site.rules site.policy site.room ≡ statement_of numbers) × MayFollow [] (statement_of numbers) → SiteTaken rows site behind
site_taken rows behind numbers site said few judged = record {
  further = further rows behind numbers said few;
  is_at = λ at. subst (λ (x : Statement). IsAt behind (x ∷ [])) (sym judged.0) (said.goes_on [] at judged.1);
}

pub head_line_taken : (rows behind : Rows) (numbers : Fields) (line : HeadLine) → Said rows numbers behind → behind.number + length behind.rest.now < 2 ^ 32
    → ((before : List Statement) → 1 ≤ length before → begins_in before ≡ [] → (head_statement line ≡ statement_of numbers) × MayFollow before (statement_of numbers)) → HeadLineTaken rows line behind
head_line_taken rows behind numbers line said few judged = record {
  further = further rows behind numbers said few;
  is_at = λ before at some none.
      let j = judged before some none in
      subst (λ (x : Statement). IsAt behind (before ++ x ∷ [])) (sym j.0) (said.goes_on before at j.1);
}

pub line_taken : (rows behind : Rows) (numbers : Fields) (inverters latest : ℕ) (line : Line) → Said rows numbers behind → behind.number + length behind.rest.now < 2 ^ 32
    → ((before : List Statement) → 1 ≤ length (begins_in before) → inverters_in before ≡ inverters → latest_in before ≡ latest → (Says line ≡ statement_of numbers) × MayFollow before (statement_of numbers))
    → OneLineTaken rows inverters latest line behind
line_taken rows behind numbers inverters latest line said few judged = record {
  further = further rows behind numbers said few;
  is_at = λ before at b.
      let j = judged before b.begun b.inverters_are b.latest_is in
      subst (λ (x : Statement). IsAt behind (before ++ x ∷ [])) (sym j.0) (said.goes_on before at j.1);
}

-- inverters

pub no_begins : (units : List unit.Unit) → begins_in (map inverter_statement units) ≡ []
no_begins [] = refl
no_begins (unit ∷ units) = no_begins units

pub units_inverters : (units : List unit.Unit) → inverters_in (map inverter_statement units) ≡ length units
units_inverters [] = refl
units_inverters (unit ∷ units) = ap suc (units_inverters units)

head_begins : (site : Statement) (units : List unit.Unit) → begins_in (site ∷ []) ≡ [] → begins_in (site ∷ map inverter_statement units) ≡ []
head_begins site units none =
    ap (λ (x : List ℕ). begin_on site ++ x) (no_begins units) ∙ none

pub units_on : (first rows behind : Rows) (units units' : List unit.Unit) (unit : unit.Unit) → units' ≡ units ++ unit ∷ [] → HeadLineTaken rows (heads.Inverter unit) behind
    → ((site : Statement) → begins_in (site ∷ []) ≡ [] → IsAt first (site ∷ []) → IsAt rows (site ∷ map inverter_statement units))
    → (site : Statement) → begins_in (site ∷ []) ≡ [] → IsAt first (site ∷ []) → IsAt behind (site ∷ map inverter_statement units')
units_on first rows behind units units' unit is taken before site none at =
    let step = taken.is_at (site ∷ map inverter_statement units) (before site none at) (omega arith) (head_begins site units none) in
    rw (is, map_push inverter_statement units unit) step

pub units_begun : (first rows behind : Rows) (units : List unit.Unit) (start : ℕ) → HeadLineTaken rows (heads.Begin start) behind → rows.whole.now ≡ first.whole.now → length units < 2 ^ 32
    → ((site : Statement) → begins_in (site ∷ []) ≡ [] → IsAt first (site ∷ []) → IsAt rows (site ∷ map inverter_statement units))
    → UnitsTaken first units start behind
units_begun first rows behind units start taken whole few before = record {
  whole = taken.further.whole ∙ whole;
  few = taken.further.few;
  count = few;
  is_at = λ site none at. taken.is_at (site ∷ map inverter_statement units) (before site none at) (omega arith) (head_begins site units none);
}

pub units_fault : (first rows : Rows) (units : List unit.Unit) (fault : ScriptFault) → HeadLineFault rows fault → rows.whole.now ≡ first.whole.now
    → ((site : Statement) → begins_in (site ∷ []) ≡ [] → IsAt first (site ∷ []) → IsAt rows (site ∷ map inverter_statement units))
    → UnitsFault first fault
units_fault first rows units fault bad whole before = λ site none at.
    subst (λ (w : List ℕ). IsBadLine fault w) whole (bad (site ∷ map inverter_statement units) (before site none at) (omega arith) (head_begins site units none))

-- the whole

head_inverters : (site : Statement) (units : List unit.Unit) → inverters_in (site ∷ map inverter_statement units) ≡ inverters_in (site ∷ []) + length units
head_inverters site units =
    omega (arith, length-append (inverter_on site) (flat_map inverter_on (map inverter_statement units)), length-append (inverter_on site) [], units_inverters units)

pub head_begun : (site : Statement) (units : List unit.Unit) (start : ℕ) → begins_in (site ∷ []) ≡ [] → inverters_in (site ∷ []) ≡ 0 → IsBegun (length units) start (site ∷ map inverter_statement units ++ Begin start ∷ [])
head_begun site units start none few =
    let before : List Statement = site ∷ map inverter_statement units in
    let begins_are : begins_in (before ++ Begin start ∷ []) ≡ start ∷ [] = begins_more before (Begin start) ∙ ap (λ (x : List ℕ). x ++ start ∷ []) (head_begins site units none) in
    record {
      begun = omega (arith, ap length begins_are);
      inverters_are = inverters_more before (Begin start) ∙ omega (arith, few, head_inverters site units);
      latest_is = latest_more before (Begin start);
    }

pub whole_script : (bytes : List ℕ) (script : ScriptRecord) (statements : List Statement) (number : ℕ) → Progress bytes [] statements number → statements ≡ script_statements script → IsScript bytes script
whole_script bytes script statements number p are = record {
  said = p.said;
  say = subst (λ (rows : List (List ℕ)). Say rows p.said) (sym (p.rows ∙ append-nil p.before)) p.say;
  statements = p.statements_are ∙ are;
  each = subst (λ (x : List Statement). EachMayFollow [] x) are p.each;
}

-- small facts of the code

pub comment_some : (bytes : List ℕ) → IsComment (row_at bytes) → 1 ≤ length bytes
comment_some [] is = absurd is
comment_some (byte ∷ rest) is = omega arith

pub some_bytes : (test : Bool) (n : ℕ) → test ≡ eqb n 0 → test ≡ false → 1 ≤ n
some_bytes test n e not = grind (arith, nat_tests, sym e ∙ not)

pub fewer : (bytes rest : List ℕ) (number : ℕ) (numbers : Fields) → 1 ≤ length bytes → fields_at number_most size_most bytes ≡ Some (numbers, rest) → number + length bytes < 2 ^ 32 → number + 1 + length rest < 2 ^ 32
fewer bytes rest number numbers some read few =
    let found = fields_taken number_most size_most bytes (numbers, rest) most_big size_small read in
    omega (arith, few, behind_short bytes some, ap length found.row.behind)

-- a bad line, which comes before want of memory
pub bad_explains : (fault : ScriptFault) (bytes : List ℕ) → IsBadLine fault bytes → Explains fault bytes
bad_explains faults.NoMemory bytes bad = absurd bad
bad_explains (faults.BadLine line kind) bytes bad = bad

-- the parts of a script one behind the other

abbrev pub first_rows : Bor (List ℕ) → Rows
first_rows bytes = record { whole = bytes; rest = bytes; number = 1 }

abbrev pub line_of_site : sites.SiteLine → Statement
line_of_site site = site_statement site.cap site.rules site.policy site.room

-- why there are no units behind a site line is why the bytes are no script
pub units_explain : (P : ScriptFault → List ℕ → Type 0) (bytes : Bor (List ℕ)) (rows : Rows) (site : sites.SiteLine) (fault : ScriptFault) → SiteTaken (first_rows bytes) site rows
    → ((site : Statement) → begins_in (site ∷ []) ≡ [] → IsAt rows (site ∷ []) → P fault rows.whole.now) → P fault bytes.now
units_explain P bytes rows site fault taken bad =
    subst (λ (w : List ℕ). P fault w) taken.further.whole (bad (line_of_site site) refl (taken.is_at (begins bytes.now)))

pub lines_begun : (bytes : Bor (List ℕ)) (rows behind : Rows) (site : sites.SiteLine) (units : List unit.Unit) (start : ℕ) → SiteTaken (first_rows bytes) site rows → UnitsTaken rows units start behind
    → IsAt behind (line_of_site site ∷ map inverter_statement units ++ Begin start ∷ [])
lines_begun bytes rows behind site units start taken more = more.is_at (line_of_site site) refl (taken.is_at (begins bytes.now))
