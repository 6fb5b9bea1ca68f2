-- The lines of the workers are comments.
use Rattle.std.proofs.Common.{◌≡◌, ℕ, ◌+◌, ◌≤◌, true, List, [], ◌∷◌, ◌++◌, length, refl, sym, ap, subst, ◌∙◌, arith, append-nil, append_assoc, length-append}
use Rattle.std.specs.Prelude.{codes}
use Rattle.std.specs.List.{All, flat_map, enumerate_from}
use Rattle.std.specs.Fmt.{decimal}
use Rattle.std.specs.Str.Lines.{lines}
use Rattle.std.proofs.lemmas.List.Elements.{All-nil, All-cons}
use Rattle.limiter_num.specs.declared.rating.Point.{Point}
use Rattle.limiter_num.specs.declared.rating.Point.TheVariants as points
use Rattle.limiter_num.specs.Points.{name_of_point}
use Rattle.script_text.specs.Grammar.{IsComment}
use Rattle.script_text.specs.Reading.{row_at, behind_row}
use Rattle.script_text.proofs.LineEnds.{is_plain, plain_more, row_past, behind_past, lines_first}
use Rattle.script_text.proofs.Back.{decimal_plain}
use Rattle.script_replay.specs.Comments.{AreComments}
use Rattle.inverter_worker.specs.declared.state.End.{End}
use Rattle.inverter_worker.specs.declared.state.End.TheVariants as ends
use Rattle.inverter_worker.specs.declared.state.Step.{Step}
use Rattle.inverter_worker.specs.declared.state.Step.TheVariants.{Over}
use Rattle.worker_turn.specs.Worker.{WorkerRecord}
use Rattle.site_run.specs.Report.{end_name, worker_line, worker_lines}

-- a comment line, and comments behind it
one_comment : (body behind : List ℕ) → is_plain body ≡ true → IsComment body → AreComments behind → AreComments (body ++ 10 ∷ behind)
one_comment body behind plain comment all =
    let some : 1 ≤ length (body ++ 10 ∷ behind) = omega (arith, length-append body (10 ∷ behind)) in
    let row : row_at (body ++ 10 ∷ behind) ≡ body = row_past body (10 ∷ behind) plain ∙ append-nil body in
    let rest : behind_row (body ++ 10 ∷ behind) ≡ behind = behind_past body (10 ∷ behind) plain in
    let are : lines (body ++ 10 ∷ behind) ≡ body ∷ lines behind =
    lines_first (body ++ 10 ∷ behind) some ∙ ap (λ (x : List ℕ). x ∷ lines (behind_row (body ++ 10 ∷ behind))) row ∙ ap (λ (x : List ℕ). body ∷ lines x) rest in
    subst (λ (rows : List (List ℕ)). All IsComment rows) (sym are) (All-cons IsComment body (lines behind) comment all)

point_plain : (point : Point) → is_plain (name_of_point point) ≡ true
point_plain points.WMax = refl
point_plain points.WSf = refl
point_plain points.PctSf = refl
point_plain points.Base = refl
point_plain points.Ena = refl
point_plain points.Pct = refl
point_plain points.PctRvrt = refl
point_plain points.EnaRvrt = refl
point_plain points.RvrtTms = refl

end_plain : (end : End) → is_plain (end_name end) ≡ true
end_plain ends.TurnsDone = refl
end_plain ends.Stopped = refl
end_plain ends.BookFull = refl
end_plain (ends.Unfit point wanted found) =
    let named = plain_more (codes "unfit ") (name_of_point point) refl (point_plain point) in
    let behind = plain_more (codes "unfit " ++ name_of_point point) (codes " ") named refl in
    let want = plain_more (codes "unfit " ++ name_of_point point ++ codes " ") (decimal wanted) behind (decimal_plain wanted) in
    let then = plain_more (codes "unfit " ++ name_of_point point ++ codes " " ++ decimal wanted) (codes " ") want refl in
    plain_more (codes "unfit " ++ name_of_point point ++ codes " " ++ decimal wanted ++ codes " ") (decimal found) then (decimal_plain found)
end_plain ends.NoMemory = refl

abbrev body : ℕ → End → List ℕ
body number end = codes "# worker " ++ decimal number ++ codes " " ++ end_name end

body_plain : (number : ℕ) (end : End) → is_plain (body number end) ≡ true
body_plain number end =
    let named = plain_more (codes "# worker ") (decimal number) refl (decimal_plain number) in
    let behind = plain_more (codes "# worker " ++ decimal number) (codes " ") named refl in
    plain_more (codes "# worker " ++ decimal number ++ codes " ") (end_name end) behind (end_plain end)

line_comments : (number : ℕ) (step : Step) (behind : List ℕ) → AreComments behind → AreComments (worker_line number step ++ behind)
line_comments number (Over end) behind all =
    subst AreComments (sym (append_assoc (body number end) (10 ∷ []) behind)) (one_comment (body number end) behind (body_plain number end) refl all)
line_comments number _ behind all = all

comments_from : (number : ℕ) (workers : List WorkerRecord) → AreComments (flat_map (λ seat. worker_line seat.0 seat.1.state.step) (enumerate_from number workers))
comments_from number [] = All-nil IsComment
comments_from number (worker ∷ workers) = line_comments number worker.state.step _ (comments_from (number + 1) workers)

pub are_comments : (workers : List WorkerRecord) → AreComments (worker_lines workers)
are_comments workers = comments_from 0 workers
