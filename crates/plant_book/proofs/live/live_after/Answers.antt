use Rattle.std.proofs.Common.{◌≡◌, ◌+◌, ◌++◌, List, length, sym, ap, ◌∙◌, arith, lit<}
use Rattle.std.specs.Prelude.{option_to_list}
use Rattle.std.proofs.lemmas.List.{append-nil, length_push}
use Rattle.plant_book.specs.declared.call.Write as writes
use Rattle.plant_book.proofs.LiveSteps.{few_first, next_at, live_next}
use Rattle.plant_book.proofs.live.live_after.Goals as goal

pub left_after-next-requires-clause-of_site : goal.left_after-next-requires-clause-of_site
left_after-next-requires-clause-of_site c =
    rw c.entries.ensures (next_at c.args.book.now c.requires.book.before c.requires.book.behind c.args.place _ c.requires.within).of_site

-- what is left, with what is granted, is what is live
joined : (left its granted its_grant live : List writes.Write) → left ≡ its → granted ≡ its_grant → live ≡ its ++ its_grant → left ++ granted ≡ live
joined left its granted its_grant live l g is = rw (l, g) (sym is)

pub returns-in-Some : goal.returns-in-Some
returns-in-Some c before is =
    let left = rw (c.requires.live before is, c.entries.ensures) at c.left_after-next.ensures before is in
    let grant = rw c.entries.ensures at (ap option_to_list (sym c.in-Some.is) ∙ c.grant_to.ensures) in
    c.push.ensures.items ∙ joined _ _ _ _ _ left grant (live_next c.args.book.now before is c.args.place _ c.requires.within c.args.inverter)

pub returns-in_default : goal.returns-in_default
returns-in_default c before is =
    let left = rw (c.requires.live before is, c.entries.ensures) at c.left_after-next.ensures before is in
    let grant = rw c.entries.ensures at (ap option_to_list (sym c.in_default.is) ∙ c.grant_to.ensures) in
    sym (append-nil c.left_after-next.result.items) ∙ joined _ _ _ _ _ left grant (live_next c.args.book.now before is c.args.place _ c.requires.within c.args.inverter)

pub push-requires : goal.push-requires
push-requires c =
    let part = c.args.book.now in
    let before = c.requires.book.before in
    let is = c.requires.book.behind in
    let left = rw (c.requires.live before is, c.entries.ensures) at c.left_after-next.ensures before is in
    let grant = rw c.entries.ensures at (ap option_to_list (sym c.in-Some.is) ∙ c.grant_to.ensures) in
    let all = joined _ _ _ _ _ left grant (live_next part before is c.args.place _ c.requires.within c.args.inverter) in
    (lit< tt, omega (arith, ap (length {A = writes.Write}) all, length_push c.left_after-next.result.items c.in-Some.write, few_first part before is (c.args.place + 1) c.args.inverter))
