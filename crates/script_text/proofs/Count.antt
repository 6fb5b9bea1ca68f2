-- A script has no more lines than bytes.
use Rattle.std.proofs.Common.{ℕ, zero, suc, ◌≤◌, List, [], ◌∷◌, length, map, Option, Some, None, ap, arith, length-append}
use Rattle.std.specs.Str.Lines.{lines}
use Rattle.std.proofs.lemmas.List.{length-map}
use Rattle.script_text.specs.declared.line.Line.{Line}
use Rattle.script_text.specs.declared.lines.Lines.{Lines}
use Rattle.script_text.specs.Reader.{HasRead}
use Rattle.script_text.specs.Grammar.{Statement, Says}
use Rattle.script_text.specs.Script.{ScriptRecord, Say, statements_of, IsScript, head_statements}
use Rattle.script_text.specs.Reading.{behind_row}
use Rattle.script_text.proofs.LineEnds.{lines_first}
use Rattle.script_text.proofs.Taken.{behind_short}

lines_few : (fuel : ℕ) (bytes : List ℕ) → length bytes ≤ fuel → length (lines bytes) ≤ length bytes
lines_few zero [] le = omega arith
lines_few zero (byte ∷ bytes) le = absurd (omega (arith, le))
lines_few (suc fuel) [] le = omega arith
lines_few (suc fuel) (byte ∷ bytes) le =
    let all : List ℕ = byte ∷ bytes in
    let shorter = behind_short all (omega arith) in
    omega (arith, ap length (lines_first all (omega arith)), shorter, lines_few fuel (behind_row all) (omega (arith, le, shorter)))

said_few : (rows : List (List ℕ)) (said : List (Option Statement)) → Say rows said → length (statements_of said) ≤ length rows
said_few [] [] say = omega arith
said_few [] (None ∷ said) say = absurd say
said_few [] (Some statement ∷ said) say = absurd say
said_few (row ∷ rows) [] say = absurd say
said_few (row ∷ rows) (None ∷ said) say = omega (arith, said_few rows said say.1)
said_few (row ∷ rows) (Some statement ∷ said) say = omega (arith, said_few rows said say.1)

pub lines_within : (bytes : List ℕ) (script : ScriptRecord) → IsScript bytes script → length script.lines ≤ length bytes
lines_within bytes script is =
    omega (
      arith,
      lines_few (length bytes) bytes (omega arith),
      said_few (lines bytes) is.said is.say,
      ap length is.statements,
      length-append (head_statements script.site script.start) (map (λ (line : Line). Says line) script.lines),
      length-map script.lines (λ (line : Line). Says line),
    )

pub read_within : (bytes : List ℕ) (script : ScriptRecord) (left : Lines) → HasRead bytes script left → length script.lines ≤ length bytes
read_within bytes script left has =
    let p = has.is_at in
    omega (
      arith,
      ap length has.whole,
      lines_few (length left.rows.whole.now) left.rows.whole.now (omega arith),
      ap length p.rows,
      length-append p.before (lines left.rows.rest.now),
      said_few p.before p.said p.say,
      ap length p.statements_are,
      length-append (head_statements script.site script.start) (map (λ (line : Line). Says line) script.lines),
      length-map script.lines (λ (line : Line). Says line),
    )
