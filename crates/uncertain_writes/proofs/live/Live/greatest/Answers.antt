use Rattle.std.proofs.Common.{List, max, map, ap, ◌∙◌}
use Rattle.std.specs.Prelude.{fold}
use Rattle.limiter_num.specs.Rating.{mw}
use Rattle.plant_book.specs.declared.call.Write as writes
use Rattle.uncertain_writes.proofs.Order.{mw-most_raw}
use Rattle.uncertain_writes.proofs.live.Live.greatest.Goals as goal

pub returns-clause-watts : goal.returns-clause-watts
returns-clause-watts c =
    let rating = c.args.rating.now in
    c.mw.ensures.watts ∙ ap (mw rating) c.self.invariant.greatest ∙ mw-most_raw rating c.self.inside.writes
    ∙ ap (λ (its : List writes.Write). fold max 0 (map (λ write. mw rating write.raw) its)) c.self.view_is
