use Rattle.std.proofs.Common.{◌≡◌, ◌∙◌, ◌+◌, ◌++◌, ◌∷◌, [], ℕ, ap, arith, length, length-append}
use Rattle.std.specs.Prelude.{Err}
use Rattle.std.proofs.lemmas.Result.{err_from_is_err_and}
use Rattle.operator_console.proofs.Ending.{last_again}
use Rattle.operator_console.proofs.Taking.{starved_reads, piece_ends, piece_held, piece_line_ends, piece_line_goes, piece_whole}
use Rattle.operator_console.proofs.lines.take_piece.Goals as goal

pub returns-in_err-hold-clause-ends : goal.returns-in_err-hold-clause-ends
returns-in_err-hold-clause-ends g c =
    let p = err_from_is_err_and c.from_residual.result c.from_residual.ensures.1 in
    let before = c.loop-front.invariant.0 in
    rw (p.1, p.2) (piece_ends (Err c.in_err-hold.field-0.0) _ _ _ _ _ _ _ _ _ _ _ _ before.0 _ before.1 c.in_err-hold.ensures.failed before.2)

pub returns-in_err-follow_held-clause-ends : goal.returns-in_err-follow_held-clause-ends
returns-in_err-follow_held-clause-ends g c =
    let p = err_from_is_err_and c.from_residual-in_err-follow_held.result c.from_residual-in_err-follow_held.ensures.1 in
    let before = c.loop-front.invariant.0 in
    let front = c.in-Some.front.now in
    let behind = c.in-Some.behind.now in
    rw (p.1, p.2) (λ begun told read left taking.
    piece_line_ends c.in_err-follow_held.field-0.0 _ _ begun _ told _ read before.0 c.loop-front.rest.now front behind c.args.piece.now left before.1 c.in-Some.ensures.0
    (c.in_err-follow_held.ensures.ends begun told ((read ++ before.0) ++ front) behind left
    (piece_held _ begun _ told _ read before.0 front _ _ _ _ c.in_ok-hold.ensures.number c.in_ok-hold.ensures.held c.in-Some.ensures.1 (before.2 begun told read taking))))

pub loop-front-preserved : goal.loop-front-preserved
loop-front-preserved g c =
    let invariant = c.loop-front.invariant in
    let before = invariant.0 in
    let front = c.in-Some.front.now in
    let behind = c.in-Some.behind.now in
    let followed = c.follow_held.ensures in
    let long : length (before.0 ++ (front ++ 10 ∷ [])) ≡ length before.0 + (length front + 1) = length-append before.0 (front ++ 10 ∷ []) ∙ ap (λ (n : ℕ). length before.0 + n) (length-append front (10 ∷ [])) in
    let number : c.hold.new.self.number ≡ c.loop-front.lines.number = c.hold.ensures.number in (
      (
        before.0 ++ (front ++ 10 ∷ []),
        piece_whole c.args.piece.now before.0 c.loop-front.rest.now front behind before.1 c.in-Some.ensures.0,
        (λ begun told read taking. piece_line_goes _ begun _ told _ read before.0 front _ _ (c.in_ok-follow_held.ensures.goes_on begun told ((read ++ before.0) ++ front)
            (piece_held _ begun _ told _ read before.0 front _ _ _ _ c.in_ok-hold.ensures.number c.in_ok-hold.ensures.held c.in-Some.ensures.1 (before.2 begun told read taking)))),
        omega (arith, long, number, followed.number, before.3),
      ),
      last_again _ _ _ invariant.1 followed.last,
      followed.kept ∙ invariant.2,
      c.in_ok-follow_held.ensures.desk ∙ invariant.3,
      followed.inverters ∙ c.hold.ensures.inverters ∙ invariant.4,
      c.in_ok-follow_held.ensures.cause.kept ∙ invariant.5,
      λ none. followed.stops (invariant.5 ∙ none) ∙ invariant.6 none,
    )

pub returns-clause-ends : goal.returns-clause-ends
returns-clause-ends g c =
    let before = c.loop-front.invariant.0 in
    piece_ends c.hold-2.result _ _ _ _ _ _ _ _ _ _ _ _ before.0 _ before.1 c.hold-2.ensures.failed before.2

pub returns-clause-reads : goal.returns-clause-reads
returns-clause-reads g c = starved_reads c.hold-2.result c.hold-2.ensures.failed

pub returns-in_err-hold-clause-reads : goal.returns-in_err-hold-clause-reads
returns-in_err-hold-clause-reads g c =
    let p = err_from_is_err_and c.from_residual.result c.from_residual.ensures.1 in
    rw (p.1, p.2) (starved_reads (Err c.in_err-hold.field-0.0) c.in_err-hold.ensures.failed)

pub returns-in_err-follow_held-clause-reads : goal.returns-in_err-follow_held-clause-reads
returns-in_err-follow_held-clause-reads g c =
    let p = err_from_is_err_and c.from_residual-in_err-follow_held.result c.from_residual-in_err-follow_held.ensures.1 in
    rw (p.1, p.2) c.in_err-follow_held.ensures.reads
