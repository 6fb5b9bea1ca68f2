-- Scripts as lists of lines, and the first bad line of bytes that are none.
use Rattle.std.specs.Prelude.{◌≡◌, ℕ, ◌+◌, ◌<◌, ◌≤◌, ◌≤ℤ◌, List, [], ◌∷◌, ◌++◌, length, map, ◌⊎◌, Option, None, Some, IfSome, pos, negsuc}
use Rattle.std.specs.List.{flat_map}
use Rattle.std.specs.Option.{option_to_list}
use Rattle.std.specs.Str.Lines.{lines}
use Rattle.limiter_num.specs.Milliwatts.{full_of}
use Rattle.limiter_num.specs.RatingFaults.{rating_fault}
use Rattle.limiter_num.specs.Timers.{rules_out}
use Rattle.limiter_num.specs.declared.rules.Rules.{Rules}
use Rattle.share_policy.specs.declared.claim.Policy.{Policy}
use Rattle.plant_book.specs.declared.site.Unit as unit
use Rattle.plant_book.specs.declared.site.TheConstants.{CAP_MAX, ROOM_MAX}
use Rattle.plant_book.specs.declared.call.TheConstants.{MOMENT_MAX}
use Rattle.plant_book.specs.Site.{SiteRecord}
use Rattle.plant_book.specs.Calls.{moment, named}
use Rattle.plant_book.specs.Answered.{IsInRange}
use Rattle.script_text.specs.declared.line.Line.{Line}
use Rattle.script_text.specs.declared.line.Line.TheVariants as kinds_of_line
use Rattle.script_text.specs.declared.line.LineKind.{LineKind}
use Rattle.script_text.specs.declared.line.LineKind.TheVariants as kinds
use Rattle.script_text.specs.Grammar.{Statement, Site, Inverter, Begin, Says, IsSpelled, IsComment}

-- what contracts see of a script: the site, the moment at which the first book begins, and the other lines
pub record ScriptRecord : Type 0 where
  pub site : SiteRecord
  pub start : ℕ
  pub lines : List Line

-- what each row of bytes says: a comment nothing, and any other row one statement
abbrev pub Say : List (List ℕ) → List (Option Statement) → Type 0
Say [] [] = Unit {0}
Say (row ∷ rows) (None ∷ more) = IsComment row × Say rows more
Say (row ∷ rows) (Some statement ∷ more) = IsSpelled row statement × Say rows more
Say _ _ = ⊥

abbrev pub statements_of : List (Option Statement) → List Statement
statements_of said = flat_map option_to_list said

-- what the statements before a line tell

abbrev pub inverter_on : Statement → List Statement
inverter_on (Inverter wmax wsf psf floor) = Inverter wmax wsf psf floor ∷ []
inverter_on _ = []

-- how many inverters there are
abbrev pub inverters_in : List Statement → ℕ
inverters_in before = length (flat_map inverter_on before)

-- the moments that a statement tells
abbrev pub moment_on : Statement → List ℕ
moment_on (Begin at) = at ∷ []
moment_on (Says (kinds_of_line.One call)) = moment call ∷ []
moment_on (Says (kinds_of_line.Restart at)) = at ∷ []
moment_on _ = []

-- the last of these numbers
abbrev pub last_of : ℕ → List ℕ → ℕ
last_of number [] = number
last_of number (next ∷ more) = last_of next more

-- the last moment that is told
abbrev pub latest_in : List Statement → ℕ
latest_in before = last_of 0 (flat_map moment_on before)

abbrev pub begin_on : Statement → List ℕ
begin_on (Begin at) = at ∷ []
begin_on _ = []

abbrev pub begins_in : List Statement → List ℕ
begins_in before = flat_map begin_on before

-- what a line has to meet, in the order in which it is tried

-- It is at its place: the site line first, then inverters, then the one begin, then the other lines.
abbrev pub HasPlace : List Statement → Statement → Type 0
HasPlace before (Site cap send delay timer per_mille slack policy room) = before ≡ []
HasPlace before (Inverter wmax wsf psf floor) = (1 ≤ length before) × (begins_in before ≡ [])
HasPlace before (Begin at) = (1 ≤ length before) × (begins_in before ≡ [])
HasPlace before (Says line) = 1 ≤ length (begins_in before)

-- its numbers are in their ranges
abbrev pub InRange : Statement → Type 0
InRange (Site cap send delay timer per_mille slack policy room) =
    (cap ≤ CAP_MAX) × (rules_out send delay timer per_mille slack ≡ None) × (1 ≤ room) × (room ≤ ROOM_MAX)
InRange (Inverter wmax wsf psf floor) =
    (wmax ≤ 65535) × (negsuc 32767 ≤ℤ wsf) × (wsf ≤ℤ pos 32767) × (negsuc 32767 ≤ℤ psf) × (psf ≤ℤ pos 32767)
    × (floor ≤ 65535) × (rating_fault wmax wsf psf ≡ None) × (floor ≤ full_of psf)
InRange (Begin at) = at ≤ MOMENT_MAX
InRange (Says (kinds_of_line.One call)) =
    (moment call ≤ MOMENT_MAX) × IfSome (named call) (λ inverter. inverter ≤ 255) × IsInRange call
InRange (Says (kinds_of_line.Restart at)) = at ≤ MOMENT_MAX
InRange (Says kinds_of_line.Roll) = Unit {0}

-- the inverter that it names is one of so many
abbrev pub OfSite : ℕ → Statement → Type 0
OfSite inverters (Says (kinds_of_line.One call)) = IfSome (named call) (λ inverter. inverter < inverters)
OfSite inverters _ = Unit {0}

-- its moment isn't below the last one
abbrev pub InTime : ℕ → Statement → Type 0
InTime latest (Says (kinds_of_line.One call)) = latest ≤ moment call
InTime latest (Says (kinds_of_line.Restart at)) = latest ≤ at
InTime latest _ = Unit {0}

-- a statement that may stand behind these
pub record MayFollow (before : List Statement) (statement : Statement) : Type 0 where
  pub place : HasPlace before statement
  pub range : InRange statement
  pub of_site : OfSite (inverters_in before) statement
  pub in_time : InTime (latest_in before) statement

-- the first of these that a statement doesn't meet
abbrev pub Lacks : LineKind → List Statement → Statement → Type 0
Lacks kinds.Form before statement = HasPlace before statement → ⊥
Lacks kinds.Value before statement = HasPlace before statement × (InRange statement → ⊥)
Lacks kinds.Inverter before statement =
    HasPlace before statement × InRange statement × (OfSite (inverters_in before) statement → ⊥)
Lacks kinds.Time before statement =
    HasPlace before statement × InRange statement × OfSite (inverters_in before) statement
    × (InTime (latest_in before) statement → ⊥)

-- each of the later statements may follow those before it
abbrev pub EachMayFollow : List Statement → List Statement → Type 0
EachMayFollow before [] = Unit {0}
EachMayFollow before (statement ∷ later) =
    MayFollow before statement × EachMayFollow (before ++ statement ∷ []) later

-- scripts

abbrev pub site_statement : ℕ → Rules → Policy → ℕ → Statement
site_statement cap rules policy room =
    Site cap rules.send rules.delay rules.timer rules.per_mille rules.slack policy room

abbrev pub inverter_statement : unit.Unit → Statement
inverter_statement unit = Inverter unit.rating.wmax unit.rating.wsf unit.rating.psf unit.floor

-- the head of a script: its site, its inverters and its begin
abbrev pub head_statements : SiteRecord → ℕ → List Statement
head_statements site start =
    site_statement site.cap site.rules site.policy site.room
    ∷ map inverter_statement site.units ++ Begin start ∷ []

abbrev pub script_statements : ScriptRecord → List Statement
script_statements script = head_statements script.site script.start ++ map (λ line. Says line) script.lines

-- the bytes are this script: what their rows say is the head and the lines, each of which may follow those before
pub record IsScript (bytes : List ℕ) (script : ScriptRecord) : Type 0 where
  pub said : List (Option Statement)
  pub say : Say (lines bytes) said
  pub statements : statements_of said ≡ script_statements script
  pub each : EachMayFollow [] (script_statements script)

-- Why a row is bad behind these statements: it is no comment, and spells no statement, or one that isn't met. At
-- the end of the rows this is so where there was no begin.
abbrev pub IsBad : LineKind → List Statement → List (List ℕ) → Type 0
IsBad kind before [] = (kind ≡ kinds.Form) × (begins_in before ≡ [])
IsBad kind before (row ∷ more) =
    (IsComment row → ⊥)
    × ((statement : Statement) → IsSpelled row statement → Lacks kind before statement)
    × ((kind ≡ kinds.Form) ⊎ ((statement : Statement) × IsSpelled row statement))

-- The line of this number, counted from 1, is the first bad one of the bytes, of this kind: the rows before it are
-- comments and statements that may follow each other.
pub record IsFirstBadLine (bytes : List ℕ) (number : ℕ) (kind : LineKind) : Type 0 where
  pub before : List (List ℕ)
  pub rest : List (List ℕ)
  pub rows : lines bytes ≡ before ++ rest
  pub said : List (Option Statement)
  pub say : Say before said
  pub each : EachMayFollow [] (statements_of said)
  pub bad : IsBad kind (statements_of said) rest
  pub count : number ≡ length before + 1

-- the bytes have no bad line
abbrev pub HasNoBadLine : List ℕ → Type 0
HasNoBadLine bytes = (line : ℕ) (kind : LineKind) → IsFirstBadLine bytes line kind → ⊥
