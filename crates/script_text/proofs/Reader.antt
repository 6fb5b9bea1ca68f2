-- Reading a script line by line.
use Rattle.std.proofs.Common.{◌≡◌, ℕ, ◌^◌, ◌<◌, List, [], ◌∷◌, ◌++◌, length, map, Option, Some, None, Ok, true, false, refl, sym, ap, subst, ◌∙◌, append_assoc}
use denote.Ref.{Bor}
use Rattle.std.specs.Prelude.{is_some}
use Rattle.std.proofs.lemmas.List.{append-nil, map_push}
use Rattle.plant_book.specs.declared.site.Unit as unit
use Rattle.plant_book.specs.Site.{SiteRecord}
use Rattle.plant_book.proofs.Inverters.{floors-is}
use Rattle.script_text.specs.declared.line.Line.{Line}
use Rattle.script_text.specs.declared.head.SiteLine as sites
use Rattle.script_text.specs.declared.rows.Rows.{Rows}
use Rattle.script_text.specs.declared.lines.Lines.{Lines}
use Rattle.script_text.specs.declared.fault.ScriptFault.{ScriptFault}
use Rattle.script_text.specs.Grammar.{Statement, Says}
use Rattle.script_text.specs.Script.{ScriptRecord, HasNoBadLine, last_of, moment_on, site_statement, head_statements, script_statements, IsScript}
use Rattle.script_text.specs.Progress.{Progress, IsAt, IsBadLine, SiteTaken, UnitsTaken, IsBegun, OneLineTaken, LineFault}
use Rattle.script_text.specs.Reader.{HasRead, LineRead, NextRead, IsBadFrom, AreLast, with_lines}
use Rattle.script_text.specs.Size.{UnitsCounted, HasSize}
use Rattle.script_text.specs.declared.size.SiteSize as sizes
use Rattle.script_text.proofs.Once.{not_both}
use Rattle.script_text.proofs.Steps.{begun_on}
use Rattle.script_text.proofs.Taken.{first_rows, lines_begun, head_begun, whole_script}

abbrev record_of : SiteRecord → ℕ → List Line → ScriptRecord
record_of site start taken = record { site = site; start = start; lines = taken }

pub head_read : (bytes : Bor (List ℕ)) (rows behind : Rows) (site : sites.SiteLine) (units : List unit.Unit) (start inverters : ℕ) (made : SiteRecord) → SiteTaken (first_rows bytes) site rows
    → UnitsTaken rows units start behind → inverters ≡ length units → made ≡ record { cap = site.cap; rules = site.rules; policy = site.policy; room = site.room; units = units }
    → HasRead bytes.now (record_of made start []) (record { rows = behind; inverters = inverters; latest = start })
head_read bytes rows behind site units start inverters made taken more count is =
    let own : SiteRecord = record { cap = site.cap; rules = site.rules; policy = site.policy; room = site.room; units = units } in
    let head : List Statement = head_statements own start in
    let same : head ≡ script_statements (record_of made start []) = sym (append-nil head) ∙ ap (λ (s : SiteRecord). script_statements (record_of s start [])) (sym is) in
    record {
      whole = more.whole ∙ taken.further.whole;
      can_go_on = more.few;
      is_at = subst (λ (x : List Statement). IsAt behind x) same (lines_begun bytes rows behind site units start taken more);
      is_begun = subst (λ (x : List Statement). IsBegun inverters start x) same
          (subst (λ (n : ℕ). IsBegun n start head) (sym count) (head_begun (site_statement site.cap site.rules site.policy site.room) units start refl refl));
    }

one_more : (script : ScriptRecord) (line : Line) → script_statements script ++ Says line ∷ [] ≡ script_statements (with_lines script (line ∷ []))
one_more script line =
    append_assoc (head_statements script.site script.start) (map (λ line. Says line) script.lines) (Says line ∷ [])
    ∙ ap (λ (x : List Statement). head_statements script.site script.start ++ x) (sym (map_push (λ line. Says line) script.lines line))

pub line_read : (old : Lines) (line : Line) (behind : Rows) (latest : ℕ) → OneLineTaken old.rows old.inverters old.latest line behind → latest ≡ last_of old.latest (moment_on (Says line))
    → LineRead old line (record { rows = behind; inverters = old.inverters; latest = latest })
line_read old line behind latest one later = record {
  shorter = one.further.shorter;
  can_go_on = one.further.few;
  goes_on = λ bytes script has. record {
    whole = one.further.whole ∙ has.whole;
    can_go_on = one.further.few;
    is_at = subst (λ (x : List Statement). IsAt behind x) (one_more script line) (one.is_at (script_statements script) has.is_at has.is_begun);
    is_begun = subst (λ (n : ℕ). IsBegun old.inverters n (script_statements (with_lines script (line ∷ [])))) (sym later)
        (subst (λ (x : List Statement). IsBegun old.inverters (last_of old.latest (moment_on (Says line))) x) (one_more script line) (begun_on old.inverters old.latest (script_statements script) line has.is_begun));
  };
}

pub no_line : (old : Lines) → ((before : List Statement) → IsAt old.rows before → (number : ℕ) × Progress old.rows.whole.now [] before number)
    → (bytes : List ℕ) (script : ScriptRecord) → HasRead bytes script old → IsScript bytes script
no_line old ends bytes script has =
    let last = ends (script_statements script) has.is_at in
    whole_script bytes script (script_statements script) last.0 (subst (λ (w : List ℕ). Progress w [] (script_statements script) last.0) has.whole last.1) refl

pub no_more : (old : Lines) (fault : ScriptFault) → LineFault old.rows old.inverters old.latest fault → IsBadFrom old fault
no_more old fault bad = λ bytes script has. subst (λ (w : List ℕ). IsBadLine fault w) has.whole (bad (script_statements script) has.is_at has.is_begun)

-- lines one behind the other

pub none_more : (bytes : List ℕ) (script : ScriptRecord) (lines : Lines) → HasRead bytes script lines → HasRead bytes (with_lines script []) lines
none_more bytes script lines has =
    subst (λ (its : List Line). HasRead bytes (record_of script.site script.start its) lines) (sym (append-nil script.lines)) has

pub one_behind : (bytes : List ℕ) (script : ScriptRecord) (taken : List Line) (line : Line) (old new : Lines) → LineRead old line new → HasRead bytes (with_lines script taken) old → HasRead bytes (with_lines script (taken ++ line ∷ [])) new
one_behind bytes script taken line old new one has =
    subst (λ (its : List Line). HasRead bytes (record_of script.site script.start its) new) (append_assoc script.lines taken (line ∷ [])) (one.goes_on bytes (with_lines script taken) has)

-- judging without taking lines

pub some_line : (found : Option Line) (old new : Lines) → is_some found ≡ true → NextRead old new (Ok found) → (line : Line) × LineRead old line new
some_line (Some line) old new some one = (line, one)
some_line None old new some ends = absurd cc

pub no_line_left : (found : Option Line) (old new : Lines) → is_some found ≡ false → NextRead old new (Ok found) → (bytes : List ℕ) (script : ScriptRecord) → HasRead bytes script old → IsScript bytes script
no_line_left (Some line) old new none one = absurd cc
no_line_left None old new none ends = ends

pub none_bad : (bytes : List ℕ) (script : ScriptRecord) (left : Lines) → AreLast left → HasRead bytes script left → HasNoBadLine bytes
none_bad bytes script left last has line kind bad =
    let rest = last bytes script has in
    not_both bytes (with_lines script rest.0) line kind rest.1 bad

abbrev site_counted : sites.SiteLine → List unit.Unit → SiteRecord
site_counted site units = record { cap = site.cap; rules = site.rules; policy = site.policy; room = site.room; units = units }

pub head_counted : (bytes : Bor (List ℕ)) (rows behind : Rows) (site : sites.SiteLine) (size : sizes.SiteSize) (start : ℕ) → SiteTaken (first_rows bytes) site rows → (counted : UnitsCounted rows size start behind)
    → HasRead bytes.now (record_of (site_counted site counted.units) start []) (record { rows = behind; inverters = size.inverters; latest = start })
head_counted bytes rows behind site size start taken counted =
    head_read bytes rows behind site counted.units start size.inverters (site_counted site counted.units) taken counted.taken counted.counted.inverters_are refl

-- the size of the site of a whole script
pub has_size : (bytes : Bor (List ℕ)) (rows behind : Rows) (site : sites.SiteLine) (size : sizes.SiteSize) (start : ℕ) (left : Lines) → SiteTaken (first_rows bytes) site rows → UnitsCounted rows size start behind → size.cap ≡ site.cap
    → left ≡ record { rows = behind; inverters = size.inverters; latest = start } → AreLast left → HasSize bytes.now size
has_size bytes rows behind site size start left taken counted cap is last =
    let own : SiteRecord = site_counted site counted.units in
    let has : HasRead bytes.now (record_of own start []) left = subst (λ (l : Lines). HasRead bytes.now (record_of own start []) l) (sym is) (head_counted bytes rows behind site size start taken counted) in
    let rest = last bytes.now (record_of own start []) has in
    record {
      script = with_lines (record_of own start []) rest.0;
      is_script = rest.1;
      size_is = record { cap_is = cap; inverters_are = counted.counted.inverters_are; floors_are = λ few. counted.counted.floors_are few ∙ sym (floors-is own) };
      few = subst (λ (n : ℕ). n < 2 ^ 32) (sym counted.counted.inverters_are) counted.taken.count;
    }

-- bytes whose site has a size have no bad line
pub sized_none_bad : (bytes : List ℕ) (size : sizes.SiteSize) → HasSize bytes size → HasNoBadLine bytes
sized_none_bad bytes size has line kind bad = not_both bytes has.script line kind has.is_script bad
