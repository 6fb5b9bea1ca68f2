use Rattle.std.proofs.Common.{◌≡◌, Option, Ok, OnOk, IfErr, ap, ◌∙◌, sym, subst}
use Rattle.std.specs.Prelude.{option_to_list}
use Rattle.std.specs.Option.{option_map}
use Rattle.std.specs.Io.KnownBytes.{Appends}
use Rattle.world_traits.specs.Links.{with_bytes}
use Rattle.mbap_frames.specs.Stream.{frames_spelling}
use Rattle.commissioning.specs.declared.commission.Took.{Took}
use Rattle.commissioning.specs.declared.commission.Took.TheVariants.{Taken}
use Rattle.commissioning.specs.declared.found.Record702.{Record702}
use Rattle.commissioning.specs.Stage.{Standing, found_at}
use Rattle.commissioning.specs.Asking.{asked}
use Rattle.commissioning.specs.Taking.{answer}
use Rattle.commission_run.specs.Arriving.{CutsShort, gained_text}
use Rattle.commission_run.proofs.Taking.{handled_by_reply}
use Rattle.commission_run.proofs.run.take.Goals as goal

pub returns-in-Ok-Taken-clause-handled : goal.returns-in-Ok-Taken-clause-handled
returns-in-Ok-Taken-clause-handled g c =
    let standing = c.args.commission.now in
    let is : c.in-Ok-Taken.field-0 ≡ Taken = rw c.in-Ok-Taken.is at c.in-Ok-Taken.field-0-is in
    let said : answer standing c.args.frame.now ≡ Ok Taken = sym c.took-took.ensures.answer ∙ c.in-Ok-Taken.is ∙ ap (λ (t : Took). Ok t) is in
    let text : Appends (g.O.Sink.taken c.args.out.now) (g.O.Sink.taken c.write_found.new.out) (gained_text (found_at standing.stage) (found_at c.took-took.new.self.stage)) =
    subst (λ (found : Option Record702). Appends (g.O.Sink.taken c.args.out.now) (g.O.Sink.taken c.write_found.new.out) (gained_text (found_at standing.stage) found)) c.found.ensures
    (subst (λ (had : Option Record702). Appends (g.O.Sink.taken c.args.out.now) (g.O.Sink.taken c.write_found.new.out) (gained_text had c.found.result)) c.found-had.ensures c.in_ok-write_found.ensures.all) in
    let links = g.N.Dialer.links c.args.dialer.now in
    handled_by_reply c.ask.result standing c.args.frame.now links (g.N.Dialer.links c.ask.new.dialer) _ _ _ said text
    (subst (λ (s : Standing). OnOk c.ask.result (g.N.Dialer.links c.ask.new.dialer ≡ option_map (with_bytes (frames_spelling (option_to_list (asked s)))) links)) c.took-took.ensures.step c.ask.ensures.sent)
    (subst (λ (s : Standing). IfErr c.ask.result (λ stop. CutsShort stop (asked s) links (g.N.Dialer.links c.ask.new.dialer))) c.took-took.ensures.step c.ask.ensures.short)
