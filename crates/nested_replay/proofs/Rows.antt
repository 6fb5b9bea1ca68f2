-- The rows in front of a script.
use Rattle.std.proofs.Common.{◌≡◌, ℕ, zero, suc, ◌+◌, ◌^◌, ◌<◌, ◌≤◌, inl, inr, List, [], ◌∷◌, ◌++◌, length, take, Option, Some, None, refl, sym, ap, subst, ◌∙◌, length-append, arith}
use Rattle.std.specs.Prelude.{codes}
use Rattle.std.specs.List.{AllByRecursion}
use Rattle.std.specs.Option.{option_to_list}
use Rattle.std.specs.Str.Lines.{lines}
use Rattle.std.proofs.lemmas.List.{append-nil}
use Rattle.std.proofs.lemmas.List.Concat.{flat_map-append}
use Rattle.script_text.specs.declared.line.LineKind.{LineKind}
use Rattle.script_text.specs.declared.fault.ScriptFault.{ScriptFault}
use Rattle.script_text.specs.declared.fault.ScriptFault.TheVariants as readings
use Rattle.script_text.specs.Grammar.{IsComment}
use Rattle.script_text.specs.Reading.{row_at, behind_row}
use Rattle.script_text.proofs.LineEnds.{lines_first}
use Rattle.script_text.proofs.Taken.{behind_short, comment_some}
use Rattle.one_life_script.specs.Rows.{BeginsWith, SpellsWords, ThreeFound}
use Rattle.one_life_script.specs.OneLife.{IsBadOneLife}
use Rattle.one_life_script.proofs.Ends.{rows_past}
use Rattle.busbars.specs.declared.bus.Bus as bus
use Rattle.nested_replay.specs.declared.front.Front as fronts
use Rattle.nested_replay.specs.Nested.{bus_words, IsBusInRange, SayBuses, buses_of, BeginsNoBus, IsBadBusFirst, IsFirstBadNested}
use Rattle.nested_replay.specs.Reading.{IsBusOf, IsBadBehind, FrontRead, IsFront, FrontFault, front_buses}
use Rattle.nested_replay.specs.Replay.{IsBadNested, moved_fault, FitsBehind}

-- a bus's line whose numbers are out of range
pub wrong_bus : (before : List bus.Bus) (count : ℕ) (bytes : List ℕ) (cap lo hi : ℕ) (behind : List ℕ) → length before ≡ count → count < 32 → ThreeFound (codes "bus") bytes cap lo hi behind → IsBusOf cap lo hi None
    → (length before < 32) × (bus : bus.Bus) × SpellsWords (row_at bytes) (bus_words bus) × (IsBusInRange bus → ⊥)
wrong_bus before count bytes cap lo hi behind same less found wrong = (
  omega (arith, same, less),
  record { cap = found.first; lo = found.second; hi = found.third },
  found.spells,
  λ range. wrong (omega (arith, found.first_is, range.0), omega (arith, found.second_is, range.1), omega (arith, found.third_is, range.2)),
)

begins_some : (bytes : List ℕ) → BeginsWith (codes "bus") (row_at bytes) → 1 ≤ length bytes
begins_some [] begins = let e = begins.1 in absurd cc
begins_some (byte ∷ rest) begins = omega arith

-- going on

say_more : (rows rows' : List (List ℕ)) (said said' : List (Option bus.Bus)) → SayBuses rows said → SayBuses rows' said' → SayBuses (rows ++ rows') (said ++ said')
say_more [] rows' [] said' p q = q
say_more [] rows' (None ∷ more) said' p q = absurd p
say_more [] rows' (Some one ∷ more) said' p q = absurd p
say_more (row ∷ rows) rows' [] said' p q = absurd p
say_more (row ∷ rows) rows' (None ∷ more) said' p q = (p.0, say_more rows rows' more said' p.1 q)
say_more (row ∷ rows) rows' (Some one ∷ more) said' p q = (p.0, p.1, say_more rows rows' more said' p.2 q)

buses_more : (said said' : List (Option bus.Bus)) → buses_of (said ++ said') ≡ buses_of said ++ buses_of said'
buses_more said said' = flat_map-append option_to_list said said'

pub front_begins : (bytes : List ℕ) (buses : List bus.Bus) → buses ≡ [] → FrontRead bytes buses bytes 0
front_begins bytes buses none = record { front = []; said = []; rows = refl; say = tt; buses_are = sym none; count_is = refl }

pub comment_past : (bytes rest : List ℕ) (buses : List bus.Bus) (count : ℕ) → FrontRead bytes buses rest count → IsComment (row_at rest) → FrontRead bytes buses (behind_row rest) (count + 1)
comment_past bytes rest buses count r comment = record {
  front = r.front ++ row_at rest ∷ [];
  said = r.said ++ None ∷ [];
  rows = rows_past bytes rest r.front r.rows (comment_some rest comment);
  say = say_more r.front (row_at rest ∷ []) r.said (None ∷ []) r.say (comment, tt);
  buses_are = buses_more r.said (None ∷ []) ∙ append-nil (buses_of r.said) ∙ r.buses_are;
  count_is = omega (arith, r.count_is, length-append r.front (row_at rest ∷ []));
}

pub bus_past : (bytes rest : List ℕ) (buses buses' : List bus.Bus) (one : bus.Bus) (count : ℕ) → FrontRead bytes buses rest count → BeginsWith (codes "bus") (row_at rest) → SpellsWords (row_at rest) (bus_words one) → IsBusInRange one
    → buses' ≡ buses ++ one ∷ [] → FrontRead bytes buses' (behind_row rest) (count + 1)
bus_past bytes rest buses buses' one count r begins spells range is = record {
  front = r.front ++ row_at rest ∷ [];
  said = r.said ++ Some one ∷ [];
  rows = rows_past bytes rest r.front r.rows (begins_some rest begins);
  say = say_more r.front (row_at rest ∷ []) r.said (Some one ∷ []) r.say (spells, range, tt);
  buses_are = buses_more r.said (Some one ∷ []) ∙ ap (λ (x : List bus.Bus). x ++ one ∷ []) r.buses_are ∙ sym is;
  count_is = omega (arith, r.count_is, length-append r.front (row_at rest ∷ []));
}

pub shorter_comment : (rest : List ℕ) → IsComment (row_at rest) → length (behind_row rest) < length rest
shorter_comment rest comment = behind_short rest (comment_some rest comment)

pub shorter_bus : (rest : List ℕ) → BeginsWith (codes "bus") (row_at rest) → length (behind_row rest) < length rest
shorter_bus rest begins = behind_short rest (begins_some rest begins)

no_bus_begins : (rest : List ℕ) → (IsComment (row_at rest) → ⊥) → (BeginsWith (codes "bus") (row_at rest) → ⊥) → BeginsNoBus (lines rest)
no_bus_begins [] plain none = tt
no_bus_begins (byte ∷ more) plain none = subst BeginsNoBus (sym (lines_first (byte ∷ more) (omega arith))) (inr (plain, none))

pub front_done : (bytes : List ℕ) (front : fronts.Front) → FrontRead bytes (front_buses front) front.script.now front.rows → front.count ≤ 32 → front.rows + length front.script.now ≤ length bytes
    → (IsComment (row_at front.script.now) → ⊥) × (BeginsWith (codes "bus") (row_at front.script.now) → ⊥) → IsFront bytes front
front_done bytes front read few short ends = record { read = read; few = few; begins = no_bus_begins front.script.now ends.0 ends.1; short = short }

pub front_bad : (bytes rest : List ℕ) (buses : List bus.Bus) (count line held : ℕ) (kind : LineKind) → FrontRead bytes buses rest count → length buses ≡ held → held ≤ 32 → line ≡ count + 1
    → BeginsWith (codes "bus") (row_at rest) × IsBadBehind kind held (row_at rest) → FrontFault bytes line kind
front_bad bytes rest buses count line held kind read same few line_is bad = record {
  buses = buses;
  rest = rest;
  count = count;
  read = read;
  few = omega (arith, same, few);
  bad = subst (IsBadBusFirst kind buses) (sym (lines_first rest (begins_some rest bad.0))) (bad.1 buses same bad.0);
  line_is = line_is;
}

-- the whole input

pub fault_in_front : (bytes : List ℕ) (line : ℕ) (kind : LineKind) → FrontFault bytes line kind → IsFirstBadNested bytes line kind
fault_in_front bytes line kind f =
    let r = f.read in
    record {
      front = r.front;
      said = r.said;
      rest = f.rest;
      rows = r.rows;
      say = r.say;
      few = omega (arith, f.few, ap length r.buses_are);
      bad = inl (subst (λ (x : List bus.Bus). IsBadBusFirst kind x (lines f.rest)) (sym r.buses_are) f.bad, omega (arith, f.line_is, r.count_is));
    }

pub taken_few : (count : ℕ) (xs : List bus.Bus) → count ≤ 32 → length (take count xs) ≤ 32
taken_few count xs few = omega (arith, few, take_short count xs)
  where
    take_short : (n : ℕ) (ys : List bus.Bus) → length (take n ys) ≤ n
    take_short zero ys = omega arith
    take_short (suc n) [] = omega arith
    take_short (suc n) (y ∷ ys) = omega (arith, take_short n ys)

pub fault_behind : (bytes : List ℕ) (front : fronts.Front) (fault : ScriptFault) → IsFront bytes front → IsBadOneLife fault front.script.now → IsBadNested (moved_fault fault front.rows) bytes
fault_behind bytes front readings.NoMemory is bad = absurd bad
fault_behind bytes front (readings.BadLine line kind) is bad =
    let r = is.read in
    record {
      front = r.front;
      said = r.said;
      rest = front.script.now;
      rows = r.rows;
      say = r.say;
      few = omega (arith, ap length r.buses_are, taken_few front.count front.places is.few);
      bad = inr (is.begins, line, bad, omega (arith, r.count_is));
    }

rows_few : (fuel : ℕ) (bytes : List ℕ) → length bytes ≤ fuel → length (lines bytes) ≤ length bytes
rows_few fuel [] le = omega arith
rows_few zero (byte ∷ bytes) le = absurd (omega (arith, le))
rows_few (suc fuel) (byte ∷ bytes) le =
    let all : List ℕ = byte ∷ bytes in
    let shorter = behind_short all (omega arith) in
    omega (arith, ap length (lines_first all (omega arith)), shorter, rows_few fuel (behind_row all) (omega (arith, le, shorter)))

pub fits_behind : (bytes : List ℕ) (front : fronts.Front) (fault : ScriptFault) → length bytes ≤ 134217728 → IsFront bytes front → IsBadOneLife fault front.script.now → FitsBehind fault front.rows
fits_behind bytes front readings.NoMemory small is bad = tt
fits_behind bytes front (readings.BadLine line kind) small is bad =
    let script : List ℕ = front.script.now in
    omega (arith, small, is.short, bad.count, ap length bad.rows, length-append bad.before bad.rest, rows_few (length script) script (omega arith))

-- the caps of the buses
said_low : (rows : List (List ℕ)) (said : List (Option bus.Bus)) → SayBuses rows said → AllByRecursion (λ bus. bus.cap ≤ 10 ^ 14) (buses_of said)
said_low [] [] say = tt
said_low [] (None ∷ said) say = absurd say
said_low [] (Some one ∷ said) say = absurd say
said_low (row ∷ rows) [] say = absurd say
said_low (row ∷ rows) (None ∷ said) say = said_low rows said say.1
said_low (row ∷ rows) (Some one ∷ said) say = (say.1.0, said_low rows said say.2)

pub front_low : (bytes : List ℕ) (front : fronts.Front) → IsFront bytes front → AllByRecursion (λ bus. bus.cap ≤ 10 ^ 14) (front_buses front)
front_low bytes front is = subst (AllByRecursion (λ bus. bus.cap ≤ 10 ^ 14)) is.read.buses_are (said_low is.read.front is.read.said is.read.say)
