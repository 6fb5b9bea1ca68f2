use Rattle.std.proofs.Common.{refl}
use Rattle.inverter_server.proofs.Visits.{receives_piece, receives_quiet, receives_closed, receives_lost}
use Rattle.inverter_server.proofs.visit.receive.Goals as goal

pub returns-in-Ok-Bytes-clause-attended : goal.returns-in-Ok-Bytes-clause-attended
returns-in-Ok-Bytes-clause-attended g c =
    let recorded = rw c.in-Ok-Bytes.field-0-is at c.in-Ok-Bytes.ensures.links in
    receives_piece _ _ _ _ _ _ _ _ _ recorded c.in-Ok-Bytes.ensures.cause.kept c.answer_piece.ensures.handled

pub returns-in-Ok-Closed-clause-attended : goal.returns-in-Ok-Closed-clause-attended
returns-in-Ok-Closed-clause-attended g c =
    let recorded = rw c.in-Ok-Closed.field-0-is at c.in-Ok-Closed.ensures.links in
    receives_closed _ _ _ _ c.args.frames.now c.requires refl recorded c.in-Ok-Closed.ensures.cause.kept

pub returns-in-Err-clause-attended : goal.returns-in-Err-clause-attended
returns-in-Err-clause-attended g c = receives_lost _ _ _ _ c.args.frames.now c.requires refl c.in-Err.ensures.links c.in-Err.ensures.cause.failed

pub returns-in-Ok-Quiet-clause-attended : goal.returns-in-Ok-Quiet-clause-attended
returns-in-Ok-Quiet-clause-attended g c =
    let recorded = rw c.in-Ok-Quiet.field-0-is at c.in-Ok-Quiet.ensures.links in
    receives_quiet _ _ _ c.args.frames.now c.requires refl recorded c.in-Ok-Quiet.ensures.cause.kept
