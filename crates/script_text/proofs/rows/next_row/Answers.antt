use Rattle.std.proofs.Common.{refl}
use Rattle.script_text.proofs.Taken.{none_next, said_next, fewer, some_bytes}
use Rattle.script_text.proofs.rows.next_row.Goals as goal

pub returns-in-None-clause-next : goal.returns-in-None-clause-next
returns-in-None-clause-next c = λ before at.
    none_next _ c.past_comments-rows.result.whole.now c.past_comments-rows.result.rest.now before c.past_comments-rows.result.number c.past_comments-rows.ensures.whole
    (c.past_comments-rows.ensures.goes_on before at) (some_bytes c.is_empty.result _ c.is_empty.ensures c.if-is_empty.false) c.past_comments-rows.ensures.no_comment c.in-None.ensures

pub returns-in-Some-clause-next : goal.returns-in-Some-clause-next
returns-in-Some-clause-next c =
    said_next c.args.rows c.past_comments-rows.result _ c.in-Some.fields c.past_comments-rows.ensures.whole c.past_comments-rows.ensures.shorter c.past_comments-rows.ensures.number
    c.past_comments-rows.ensures.goes_on c.past_comments-rows.ensures.no_comment (some_bytes c.is_empty.result _ c.is_empty.ensures c.if-is_empty.false) c.in-Some.ensures refl refl

pub returns-in-Some-clause-few : goal.returns-in-Some-clause-few
returns-in-Some-clause-few c =
    let some = some_bytes c.is_empty.result _ c.is_empty.ensures c.if-is_empty.false in
    fewer c.past_comments-rows.result.rest.now c.in-Some.rest.now c.past_comments-rows.result.number c.in-Some.fields some c.in-Some.ensures c.past_comments-rows.ensures.few
