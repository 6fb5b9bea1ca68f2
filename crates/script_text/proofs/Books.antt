-- The statements of a life that a ledger keeps may follow each other.
use Rattle.std.proofs.Common.{◌≡◌, ℕ, ◌^◌, ◌<◌, ◌≤◌, false, eqb, ltb, List, [], ◌∷◌, ◌++◌, length, map, Option, Some, None, refl, sym, subst, ◌∙◌, arith, append_assoc, length-append, ℤ, pos, negsuc}
use Rattle.std.specs.Prelude.{IfSome, ◌≤ℤ◌}
use Rattle.std.proofs.lemmas.Bool.{ne_eqb, le-ltb}
use Rattle.std.proofs.lemmas.Int.{ints}
use Rattle.std.proofs.lemmas.List.{append-nil}
use Rattle.limiter_num.specs.declared.rules.Rules.{Rules}
use Rattle.limiter_num.specs.declared.rules.RulesOut.{RulesOut}
use Rattle.limiter_num.specs.declared.rules.RulesField.{RulesField}
use Rattle.limiter_num.specs.declared.rules.RulesField.TheVariants.{Send, Delay, Timer, PerMille, Slack}
use Rattle.limiter_num.specs.declared.rating.RatingFault.{RatingFault}
use Rattle.limiter_num.specs.declared.rating.Point.{Point}
use Rattle.limiter_num.specs.declared.rating.Point.TheVariants.{WSf, PctSf}
use Rattle.limiter_num.specs.Timers.{rules_out, range_fault}
use Rattle.limiter_num.specs.Timers as timers
use Rattle.limiter_num.specs.Milliwatts.{mw_of, full_of, IsRated}
use Rattle.limiter_num.specs.RatingFaults.{is_missing, missing_fault, scale_fault, size_fault, rating_fault}
use Rattle.limiter_num.specs.RatingFaults as ratings
use Rattle.limiter_num.proofs.Scaled.{full-pos, full-negsuc}
use Rattle.plant_book.specs.declared.site.Unit as unit
use Rattle.plant_book.specs.declared.call.Call.{Call}
use Rattle.plant_book.specs.declared.call.TheConstants.{MOMENT_MAX}
use Rattle.plant_book.specs.declared.book.Entry.{Entry}
use Rattle.plant_book.specs.Site.{SiteRecord, IsSite, inverters}
use Rattle.plant_book.specs.Book.{BookRecord}
use Rattle.plant_book.specs.Calls.{moment, named, latest}
use Rattle.plant_book.specs.Answered.{EachInTurn, IsNext, IsBook}
use Rattle.plant_book.proofs.Steps.{latest-push}
use Rattle.script_text.specs.declared.line.Line.{Line}
use Rattle.script_text.specs.declared.line.Line.TheVariants as lines
use Rattle.script_text.specs.Grammar.{Statement, Inverter, Begin, Says}
use Rattle.script_text.specs.Script.{ScriptRecord, InRange, begins_in, MayFollow, EachMayFollow, site_statement, inverter_statement, head_statements, script_statements}
use Rattle.script_text.specs.Text.{Deed, Entered, Begun, Rolled, deed_line}
use Rattle.script_text.specs.Progress.{IsBegun}
use Rattle.script_text.proofs.Steps.{begins_more, begun_on}
use Rattle.script_text.proofs.Taken.{no_begins, head_begun}

-- the numbers of a site are in their ranges, since its rules, its ratings and its floors always are

within : (field : RulesField) (value low high : ℕ) → low ≤ value → value ≤ high → range_fault field value low high ≡ None
within field value low high p q =
    let above : ltb value low ≡ false = le-ltb value low p in
    let below : ltb high value ≡ false = le-ltb high value q in
    rw (above, below) refl

no_rule_out : (a b : Option RulesOut) → a ≡ None → b ≡ None → timers.before a b ≡ None
no_rule_out None b p q = q
no_rule_out (Some fault) b p q = absurd cc

rules_fit : (rules : Rules) → rules_out rules.send rules.delay rules.timer rules.per_mille rules.slack ≡ None
rules_fit rules =
    let send = range_fault Send rules.send 1 60000 in
    let delay = range_fault Delay rules.delay 0 600000 in
    let timer = range_fault Timer rules.timer 1 86400 in
    let per_mille = range_fault PerMille rules.per_mille 0 500 in
    let slack = range_fault Slack rules.slack 0 600000 in
    let last = no_rule_out per_mille slack (within PerMille rules.per_mille 0 500 (omega arith) rules.per_mille_high) (within Slack rules.slack 0 600000 (omega arith) rules.slack_high) in
    let later = no_rule_out timer (timers.before per_mille slack) (within Timer rules.timer 1 86400 rules.timer_low rules.timer_high) last in
    let more = no_rule_out delay (timers.before timer (timers.before per_mille slack)) (within Delay rules.delay 0 600000 (omega arith) rules.delay_high) later in
    no_rule_out send (timers.before delay (timers.before timer (timers.before per_mille slack))) (within Send rules.send 1 60000 rules.send_low rules.send_high) more

no_fault : (a b : Option RatingFault) → a ≡ None → b ≡ None → ratings.before a b ≡ None
no_fault None b p q = q
no_fault (Some fault) b p q = absurd cc

not_missing : (factor : ℤ) → negsuc 9 ≤ℤ factor → is_missing factor ≡ false
not_missing (pos n) low = refl
not_missing (negsuc n) low = let few : n ≤ 9 = omega (arith, ints) in ne_eqb n 32767 (omega arith)

in_scale : (point : Point) (factor : ℤ) → negsuc 9 ≤ℤ factor → factor ≤ℤ pos 10 → scale_fault point factor ≡ None
in_scale point (pos n) low high = let few : ltb 10 n ≡ false = le-ltb 10 n (omega (arith, ints)) in rw few refl
in_scale point (negsuc n) low high = let few : ltb 9 n ≡ false = le-ltb 9 n (omega (arith, ints)) in rw few refl

all_there : (wmax : ℕ) (wsf psf : ℤ) → IsRated wmax wsf psf → missing_fault wmax wsf psf ≡ None
all_there wmax wsf psf rated =
    let first : eqb wmax 65535 ≡ false = ne_eqb wmax 65535 (omega (arith, rated.implemented)) in
    let second : is_missing wsf ≡ false = not_missing wsf rated.wsf_low in
    let third : is_missing psf ≡ false = not_missing psf rated.psf_low in
    rw (first, second, third) refl

right_size : (wmax : ℕ) (wsf psf : ℤ) → IsRated wmax wsf psf → size_fault wmax wsf psf ≡ None
right_size wmax wsf psf rated =
    let some : eqb wmax 0 ≡ false = ne_eqb wmax 0 (omega (arith, rated.positive)) in
    let resolves : eqb (full_of psf) 0 ≡ false = ne_eqb (full_of psf) 0 (omega (arith, rated.resolves)) in
    let small : ltb (10 ^ 12) (mw_of wmax wsf psf (full_of psf)) ≡ false = le-ltb (10 ^ 12) (mw_of wmax wsf psf (full_of psf)) rated.rated_small in
    rw (some, resolves, small) refl

rating_fits : (wmax : ℕ) (wsf psf : ℤ) → IsRated wmax wsf psf → rating_fault wmax wsf psf ≡ None
rating_fits wmax wsf psf rated =
    let missing = missing_fault wmax wsf psf in
    let first = scale_fault WSf wsf in
    let second = scale_fault PctSf psf in
    let size = size_fault wmax wsf psf in
    let last = no_fault second size (in_scale PctSf psf rated.psf_low rated.psf_high) (right_size wmax wsf psf rated) in
    let more = no_fault first (ratings.before second size) (in_scale WSf wsf rated.wsf_low rated.wsf_high) last in
    no_fault missing (ratings.before first (ratings.before second size)) (all_there wmax wsf psf rated) more

full_small : (psf : ℤ) → full_of psf ≤ 65534
full_small (pos n) = rw (full-pos n) (omega arith)
full_small (negsuc n) = rw (full-negsuc n) (omega arith)

unit_fits : (wmax : ℕ) (wsf psf : ℤ) (floor : ℕ) → IsRated wmax wsf psf → floor ≤ full_of psf → InRange (Inverter wmax wsf psf floor)
unit_fits wmax wsf psf floor rated at_most = (
  omega (arith, rated.implemented),
  omega (arith, ints, rated.wsf_low),
  omega (arith, ints, rated.wsf_high),
  omega (arith, ints, rated.psf_low),
  omega (arith, ints, rated.psf_high),
  omega (arith, at_most, full_small psf),
  rating_fits wmax wsf psf rated,
  at_most,
)

-- the head

each_more : (acc a b : List Statement) → EachMayFollow acc a → EachMayFollow (acc ++ a) b → EachMayFollow acc (a ++ b)
each_more acc [] b p q = subst (λ (x : List Statement). EachMayFollow x b) (append-nil acc) q
each_more acc (one ∷ a) b p q = (p.0, each_more (acc ++ one ∷ []) a b p.1 (subst (λ (x : List Statement). EachMayFollow x b) (sym (append_assoc acc (one ∷ []) a)) q))

units_follow : (before : List Statement) (units : List unit.Unit) → 1 ≤ length before → begins_in before ≡ [] → EachMayFollow before (map inverter_statement units)
units_follow before [] some none = tt
units_follow before (one ∷ units) some none = (
  record { place = (some, none); range = unit_fits one.rating.wmax one.rating.wsf one.rating.psf one.floor one.rating.sound one.within; of_site = tt; in_time = tt },
  units_follow (before ++ inverter_statement one ∷ []) units (omega (arith, some, length-append before (inverter_statement one ∷ [])))
      (begins_more before (inverter_statement one) ∙ append-nil (begins_in before) ∙ none),
)

head_follows : (site : SiteRecord) (start : ℕ) → IsSite site → start ≤ MOMENT_MAX → EachMayFollow [] (head_statements site start)
head_follows site start checked high =
    let first : Statement = site_statement site.cap site.rules site.policy site.room in
    let units : List Statement = map inverter_statement site.units in (
      record { place = refl; range = (checked.cap, rules_fit site.rules, checked.room_low, checked.room_high); of_site = tt; in_time = tt },
      each_more (first ∷ []) units (Begin start ∷ []) (units_follow (first ∷ []) site.units (omega arith) refl)
          (record { place = (omega arith, no_begins site.units); range = high; of_site = tt; in_time = tt }, tt),
    )

-- the entries

head_is_begun : (site : SiteRecord) (start : ℕ) → IsBegun (length site.units) (latest start []) (head_statements site start)
unfolding latest
head_is_begun site start = head_begun (site_statement site.cap site.rules site.policy site.room) site.units start refl refl

few_named : (number : Option ℕ) (count : ℕ) → count ≤ 64 → IfSome number (λ inverter. inverter < count) → IfSome number (λ inverter. inverter ≤ 255)
few_named None count few of_site = tt
few_named (Some inverter) count few of_site = omega (arith, few, of_site)

call_follows : (site : SiteRecord) (start : ℕ) (entries : List Entry) (before : List Statement) (call : Call) → inverters site ≤ 64 → IsBegun (length site.units) (latest start entries) before → IsNext site start entries call
    → MayFollow before (Says (lines.One call))
call_follows site start entries before call few begun next = record {
  place = begun.begun;
  range = (next.moment_high, few_named (named call) (inverters site) few next.of_site, next.in_range);
  of_site = subst (λ (n : ℕ). IfSome (named call) (λ inverter. inverter < n)) (sym begun.inverters_are) next.of_site;
  in_time = omega (arith, begun.latest_is, next.later);
}

-- the entries that were made
abbrev pub entries_in : List Deed → List Entry
entries_in [] = []
entries_in (Entered entry ∷ deeds) = entry ∷ entries_in deeds
entries_in (Begun at ∷ deeds) = entries_in deeds
entries_in (Rolled ∷ deeds) = entries_in deeds

-- none of these begins a life
abbrev pub AreOfLife : List Deed → Type 0
AreOfLife [] = Unit {0}
AreOfLife (Entered entry ∷ deeds) = AreOfLife deeds
AreOfLife (Begun at ∷ deeds) = ⊥
AreOfLife (Rolled ∷ deeds) = AreOfLife deeds

-- calls that are entered in turn, and rolls wherever they stand, may follow each other
deeds_follow : (site : SiteRecord) (start : ℕ) (entries : List Entry) (deeds : List Deed) (before : List Statement) → inverters site ≤ 64 → IsBegun (length site.units) (latest start entries) before → AreOfLife deeds
    → EachInTurn (λ es entry. IsNext site start es entry.call) entries (entries_in deeds) → EachMayFollow before (map (λ line. Says line) (map deed_line deeds))
deeds_follow site start entries [] before few begun life each = tt
deeds_follow site start entries (Entered entry ∷ deeds) before few begun life each =
    let line : Line = lines.One entry.call in
    let next : IsBegun (length site.units) (moment entry.call) (before ++ Says line ∷ []) = begun_on (length site.units) (latest start entries) before line begun in (
      call_follows site start entries before entry.call few begun each.0,
      deeds_follow site start (entries ++ entry ∷ []) deeds (before ++ Says line ∷ []) few
          (subst (λ (n : ℕ). IsBegun (length site.units) n (before ++ Says line ∷ [])) (sym (latest-push start entries entry)) next) life each.1,
    )
deeds_follow site start entries (Begun at ∷ deeds) before few begun life each = absurd life
deeds_follow site start entries (Rolled ∷ deeds) before few begun life each = (
  record { place = begun.begun; range = tt; of_site = tt; in_time = tt },
  deeds_follow site start entries deeds (before ++ Says lines.Roll ∷ []) few (begun_on (length site.units) (latest start entries) before lines.Roll begun) life each,
)

-- what was done of a book of a life, as a script
abbrev pub deeds_script : BookRecord → List Deed → ScriptRecord
deeds_script book deeds = record { site = book.site; start = book.start; lines = map deed_line deeds }

-- the calls of a book, wherever rolls stand between them, may follow each other
pub life_follows : (book : BookRecord) (deeds : List Deed) → IsBook book → AreOfLife deeds → entries_in deeds ≡ book.entries → EachMayFollow [] (script_statements (deeds_script book deeds))
life_follows book deeds kept life are =
    let head : List Statement = head_statements book.site book.start in
    let its : List Statement = map (λ line. Says line) (map deed_line deeds) in
    let entered = subst (λ (es : List Entry). EachInTurn (λ before entry. IsNext book.site book.start before entry.call) [] es) (sym are) kept.entered in
    each_more [] head its (head_follows book.site book.start kept.openable.checked kept.start_high)
    (deeds_follow book.site book.start [] deeds head kept.openable.few (head_is_begun book.site book.start) life entered)
