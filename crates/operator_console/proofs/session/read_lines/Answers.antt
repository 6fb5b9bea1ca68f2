use Rattle.std.proofs.Common.{◌≡◌, ◌∙◌, ◌≤◌, ◌+◌, ◌++◌, [], ℕ, List, refl, sym, ap, subst, take, drop, min, arith, length, length-append}
use Rattle.std.proofs.KnownBytes.{Consumes-nil, Consumes-trans}
use Rattle.std.proofs.lemmas.List.{length-take, take-append-le}
use Rattle.std.proofs.lemmas.Result.{err_from_is_err_and}
use Rattle.operator_console.specs.Deeds.{tests_of}
use Rattle.operator_console.specs.Handling.{IsTaking}
use Rattle.operator_console.specs.Transcript.{IsHeld}
use Rattle.operator_console.proofs.Ending.{last_again, last_same}
use Rattle.operator_console.proofs.Taking.{cause_none, none_taken}
use Rattle.operator_console.proofs.session.read_lines.Goals as goal

pub loop-left-init : goal.loop-left-init
loop-left-init g c =
    let desk = g.D.Desk.state c.args.desk.now in
    let told = g.O.Sink.taken c.args.out.now in
    let tests = tests_of (g.K.Clock.may_give c.args.clock.now) (g.D.Desk.tests c.args.desk.now) in
    let N : ℕ → Type 0 = λ n. IsTaking tests desk desk told told [] n [] in
    let H : List ℕ → Type 0 = λ l. IsTaking tests desk desk told told [] c.args.lines.now.number l in (
      ([], Consumes-nil (g.C.Source.left c.args.input.now), omega arith, subst H (sym c.requires.held) (subst N (sym c.requires.number) (none_taken tests desk told))),
      last_same _,
      refl,
      refl,
      refl,
      omega (arith, c.requires.number),
      refl,
      refl,
      λ none. refl,
    )

pub returns-in_err-take_piece-clause-ends : goal.returns-in_err-take_piece-clause-ends
returns-in_err-take_piece-clause-ends g c =
    let p = err_from_is_err_and c.from_residual.result c.from_residual.ensures.1 in
    let so_far = c.loop-left.invariant.0 in
    let given = c.read.new.into in
    let got : List ℕ = take c.in-Ok.count given in
    let bound = c.in-Ok.ensures.bound in
    let same : take c.in-Ok.count (given ++ drop c.min-room.result c.loop-left.piece) ≡ got = take-append-le c.in-Ok.count given (drop c.min-room.result c.loop-left.piece) bound.0 in
    let room : c.min-room.result ≡ min c.loop-left.left 4096 = c.min-room.ensures in
    let size_of : length given ≡ length (take c.min-room.result c.loop-left.piece) = c.read.auto.into in
    let few : c.in-Ok.count ≤ c.loop-left.left = omega (arith, room, size_of, length-take c.min-room.result c.loop-left.piece, bound.0) in
    let long : length (so_far.0 ++ got) ≡ length so_far.0 + length got = length-append so_far.0 got in
    let P : List ℕ → Type 0 = λ l. IsHeld c.in_err-take_piece.field-0.0
    (tests_of (g.K.Clock.may_give c.args.clock.now) (g.D.Desk.tests c.take_piece.new.desk))
    (g.D.Desk.tests c.take_piece.new.desk).was_full (g.D.Desk.state c.args.desk.now) (g.D.Desk.state c.take_piece.new.desk) (so_far.0 ++ l) (g.C.Source.left c.read.new.self)
    (g.O.Sink.taken c.args.out.now) (g.O.Sink.taken c.take_piece.new.out) in
    rw (p.1, p.2) (
      so_far.0 ++ got,
      Consumes-trans _ _ _ so_far.0 got so_far.1 c.in-Ok.ensures.bytes.0,
      omega (arith, long, so_far.2, few, bound.1),
      subst P same (c.in_err-take_piece.ensures.ends _ _ so_far.0 (g.C.Source.left c.read.new.self) so_far.3),
    )

pub returns-in_err-take_piece-clause-reads : goal.returns-in_err-take_piece-clause-reads
returns-in_err-take_piece-clause-reads g c =
    let p = err_from_is_err_and c.from_residual.result c.from_residual.ensures.1 in
    rw (p.1, p.2) (cause_none _ _ _ _ c.in_err-take_piece.ensures.reads c.loop-left.invariant.6 c.in-Ok.ensures.cause.kept)

pub loop-left-preserved : goal.loop-left-preserved
loop-left-preserved g c =
    let invariant = c.loop-left.invariant in
    let so_far = invariant.0 in
    let given = c.read.new.into in
    let got : List ℕ = take c.in-Ok.count given in
    let bound = c.in-Ok.ensures.bound in
    let same : take c.in-Ok.count (given ++ drop c.min-room.result c.loop-left.piece) ≡ got = take-append-le c.in-Ok.count given (drop c.min-room.result c.loop-left.piece) bound.0 in
    let room : c.min-room.result ≡ min c.loop-left.left 4096 = c.min-room.ensures in
    let size_of : length given ≡ length (take c.min-room.result c.loop-left.piece) = c.read.auto.into in
    let few : c.in-Ok.count ≤ c.loop-left.left = omega (arith, room, size_of, length-take c.min-room.result c.loop-left.piece, bound.0) in
    let long : length (so_far.0 ++ got) ≡ length so_far.0 + length got = length-append so_far.0 got in
    let size : length (take c.in-Ok.count (given ++ drop c.min-room.result c.loop-left.piece)) ≡ length got = ap length same in
    let taken = c.take_piece.ensures in
    let P : List ℕ → Type 0 = λ l. IsTaking
    (tests_of (g.K.Clock.may_give c.args.clock.now) (g.D.Desk.tests c.take_piece.new.desk))
    (g.D.Desk.state c.args.desk.now) (g.D.Desk.state c.take_piece.new.desk) (g.O.Sink.taken c.args.out.now) (g.O.Sink.taken c.take_piece.new.out) (so_far.0 ++ l)
    c.take_piece.new.lines.number c.take_piece.new.lines.held.items in (
      (
        so_far.0 ++ got,
        Consumes-trans _ _ _ so_far.0 got so_far.1 c.in-Ok.ensures.bytes.0,
        omega (arith, long, so_far.2, few, bound.1),
        subst P same (c.in_ok-take_piece.ensures.goes_on _ _ so_far.0 so_far.3),
      ),
      last_again _ _ _ invariant.1 taken.last,
      taken.kept ∙ invariant.2,
      c.in_ok-take_piece.ensures.desk ∙ invariant.3,
      taken.inverters ∙ invariant.4,
      omega (arith, taken.number, size, bound.1, few, invariant.5),
      c.in-Ok.ensures.cause.kept ∙ invariant.6,
      c.in_ok-take_piece.ensures.cause.kept ∙ invariant.7,
      λ none. taken.stops (invariant.7 ∙ none) ∙ invariant.8 none,
    )
