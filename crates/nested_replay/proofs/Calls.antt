-- Reading the calls of a script of one life.
use Rattle.std.proofs.Common.{◌≡◌, ℕ, ◌<◌, ◌≤◌, List, [], ◌∷◌, ◌++◌, length, map, Result, Ok, Err, true, refl, sym, ap, subst, ◌∙◌, append_assoc}
use Rattle.std.specs.Prelude.{IfSome, MatchResult}
use Rattle.std.specs.List.{flat_map}
use Rattle.std.specs.Result.{is_err}
use Rattle.std.proofs.lemmas.List.{append-nil, map-append}
use Rattle.std.proofs.lemmas.List.Concat.{flat_map-append}
use Rattle.plant_book.specs.declared.call.Call.{Call}
use Rattle.plant_book.specs.declared.call.TheConstants.{MOMENT_MAX}
use Rattle.plant_book.specs.Site.{inverters}
use Rattle.plant_book.specs.Calls.{named}
use Rattle.script_text.specs.declared.line.Line.{Line}
use Rattle.script_text.specs.declared.line.Line.TheVariants as lines
use Rattle.script_text.specs.declared.lines.Lines.{Lines}
use Rattle.script_text.specs.declared.fault.ScriptFault.{ScriptFault}
use Rattle.script_text.specs.declared.fault.ScriptFault.TheVariants as readings
use Rattle.script_text.specs.Grammar.{Statement, Begin, Says}
use Rattle.script_text.specs.Script.{ScriptRecord, MayFollow, EachMayFollow, inverter_on, inverters_in, inverter_statement, site_statement, head_statements, script_statements, IsScript}
use Rattle.script_text.specs.Reader.{HasRead, LineRead, IsBadFrom, AreLast, with_lines}
use Rattle.script_text.proofs.Once as script
use Rattle.script_text.proofs.Taken.{head_begun}
use Rattle.one_life_script.specs.OneLife.{IsOneLifeScript}
use Rattle.one_life_script.proofs.Calls.{AreCalls, script_calls, read_calls}
use Rattle.nested_replay.specs.Playing.{CallFits, IsCall, IsReading, CallRead, bytes_of}

-- a script of one life has no bad line, so reading it finds none
pub no_fault : (old : Lines) (fault : ScriptFault) → IsReading old → IsBadFrom old fault → ⊥
no_fault old readings.NoMemory is bad = bad (bytes_of old) is.script is.read
no_fault old (readings.BadLine line kind) is bad = script.not_both (bytes_of old) is.whole line kind is.one.is_script (bad (bytes_of old) is.script is.read)

pub rest_is_read : (old : Lines) (r : Result (Unit {0}) ScriptFault) → IsReading old → MatchResult r (λ _. AreLast old) (λ fault. IsBadFrom old fault) → is_err r ≡ true → ⊥
rest_is_read old (Ok x) is judged e = absurd cc
rest_is_read old (Err fault) is judged e = no_fault old fault is judged

-- the last of lines that are calls
last_call : (before : List Line) (line : Line) (calls : List Call) → before ++ line ∷ [] ≡ map (λ call. lines.One call) calls → IsCall line
last_call before line [] e = absurd (none_of before line e)
  where
    none_of : (xs : List Line) (x : Line) → xs ++ x ∷ [] ≡ [] → ⊥
    none_of [] x e = absurd cc
    none_of (y ∷ xs) x e = absurd cc
last_call [] line (call ∷ calls) e = (call, first_of line (lines.One call) [] (map (λ call. lines.One call) calls) e)
  where
    first_of : (x y : Line) (xs ys : List Line) → x ∷ xs ≡ y ∷ ys → x ≡ y
    first_of x y xs ys e = cc
last_call (first ∷ before) line (call ∷ calls) e = last_call before line calls (rest_of first (lines.One call) (before ++ line ∷ []) (map (λ call. lines.One call) calls) e)
  where
    rest_of : (x y : Line) (xs ys : List Line) → x ∷ xs ≡ y ∷ ys → xs ≡ ys
    rest_of x y xs ys e = cc

pub line_is_call : (old new : Lines) (line : Line) → IsReading old → LineRead old line new → IsCall line
line_is_call old new line is one =
    let calls = read_calls (bytes_of old) (with_lines is.script (line ∷ [])) new is.one.one (one.goes_on (bytes_of old) is.script is.read) in
    last_call is.script.lines line calls.0 calls.1

-- what a line of a script may rely on

no_more_inverters : (its : List Line) → flat_map inverter_on (map (λ line. Says line) its) ≡ []
no_more_inverters [] = refl
no_more_inverters (line ∷ its) = no_more_inverters its

inverters_are : (script : ScriptRecord) → inverters_in (script_statements script) ≡ inverters script.site
inverters_are script =
    let head : List Statement = head_statements script.site script.start in
    let all : flat_map inverter_on (script_statements script) ≡ flat_map inverter_on head =
    flat_map-append inverter_on head (map (λ line. Says line) script.lines) ∙ ap (λ (x : List Statement). flat_map inverter_on head ++ x) (no_more_inverters script.lines) ∙ append-nil (flat_map inverter_on head) in
    ap length all ∙ (head_begun (site_statement script.site.cap script.site.rules script.site.policy script.site.room) script.site.units script.start refl refl).inverters_are

each_at : (acc xs ys : List Statement) (one : Statement) → EachMayFollow acc (xs ++ one ∷ ys) → MayFollow (acc ++ xs) one
each_at acc [] ys one each = subst (λ (x : List Statement). MayFollow x one) (sym (append-nil acc)) each.0
each_at acc (first ∷ xs) ys one each = subst (λ (x : List Statement). MayFollow x one) (append_assoc acc (first ∷ []) xs) (each_at (acc ++ first ∷ []) xs ys one each.1)

one_more : (script : ScriptRecord) (line : Line) → script_statements (with_lines script (line ∷ [])) ≡ script_statements script ++ Says line ∷ []
one_more script line =
    ap (λ (x : List Statement). head_statements script.site script.start ++ x) (map-append (λ line. Says line) script.lines (line ∷ []))
    ∙ sym (append_assoc (head_statements script.site script.start) (map (λ line. Says line) script.lines) (Says line ∷ []))

call_fits : (bytes : List ℕ) (script : ScriptRecord) (call : Call) (new : Lines) → HasRead bytes (with_lines script (lines.One call ∷ [])) new → CallFits script.site call
call_fits bytes script call new has =
    let may = each_at [] (script_statements script) [] (Says (lines.One call)) (subst (λ (x : List Statement). EachMayFollow [] x) (one_more script (lines.One call)) has.is_at.each) in
    (may.range.0, subst (λ (n : ℕ). IfSome (named call) (λ inverter. inverter < n)) (inverters_are script) may.of_site, may.range.2)

pub call_is_read : (old new : Lines) (line : Line) (call : Call) → IsReading old → LineRead old line new → line ≡ lines.One call → CallRead old call new
call_is_read old new line call is one same =
    let one' : LineRead old (lines.One call) new = subst (λ (l : Line). LineRead old l new) same one in
    record {
      whole = (one'.goes_on (bytes_of old) is.script is.read).whole;
      shorter = one'.shorter;
      goes_on = λ it has. let next = one'.goes_on (bytes_of old) it has in (next, call_fits (bytes_of old) it call new next);
    }

-- the head of a script
pub starts : (bytes : List ℕ) (script : ScriptRecord) (left : Lines) → HasRead bytes script left → script.start ≤ MOMENT_MAX
starts bytes script left has =
    let head : List Statement = site_statement script.site.cap script.site.rules script.site.policy script.site.room ∷ map inverter_statement script.site.units in
    let its : List Statement = map (λ line. Says line) script.lines in
    (each_at [] head its (Begin script.start) (subst (λ (x : List Statement). EachMayFollow [] x) (append_assoc head (Begin script.start ∷ []) its) has.is_at.each)).range

-- the rest of a script of one life is calls
pub rest_are_calls : (bytes : List ℕ) (it whole : ScriptRecord) (more : List Line) → IsOneLifeScript bytes whole → IsScript bytes (with_lines it more) → AreCalls (it.lines ++ more)
rest_are_calls bytes it whole more one is = script_calls bytes (with_lines it more) (record { is_script = is; one = one.one })
