use Rattle.std.proofs.Common.{◌≡◌, ℕ, ◌++◌, ◌∷◌, [], List, take, get_or, Option, Some, sym, ap, ◌∙◌, arith}
use Rattle.std.proofs.lemmas.List.{take_more}
use Rattle.plant_book.specs.declared.call.Call.TheVariants as calls
use Rattle.plant_book.specs.declared.call.Reply.TheVariants as replies
use Rattle.plant_book.specs.declared.book.Entry.{Entry}
use Rattle.plant_book.specs.declared.carry.CapMark as marks
use Rattle.plant_book.specs.Calls.{moment, latest}
use Rattle.plant_book.specs.Reserved.{total_at}
use Rattle.plant_book.specs.Answered.{with_entries}
use Rattle.plant_book.specs.Part.{begin_of, book_behind}
use Rattle.plant_book.specs.Carry.{mark_of}
use Rattle.plant_book.proofs.Steps.{latest-push, behind_more}
use Rattle.plant_book.proofs.Marks.{mark_of-sets, mark_of-stays}
use Rattle.plant_book.proofs.caps.mark_after.Goals as goal

default : Entry
default = record { call = calls.Link 0 0; reply = replies.Linked 0 }

marked : ℕ → ℕ → Option marks.CapMark
marked at was = Some (record { at = at; was = was })

pub returns-then-not-sets_cap : goal.returns-then-not-sets_cap
unfolding default
returns-then-not-sets_cap c before is from =
    let part = c.args.book.now in
    let entry = get_or part.entries c.args.place default in
    let stays = rw c.entries.ensures at (sym c.sets_cap.ensures ∙ c.if-not-sets_cap.true) in
    let whole = book_behind before part in
    let old = before ++ take c.args.place part.entries in
    from ∙ sym (ap (λ (es : List Entry). mark_of (with_entries whole es)) (behind_more before part.entries c.args.place default c.requires.within) ∙ mark_of-stays whole old entry stays)

pub total_among-was-requires-clause-later : goal.total_among-was-requires-clause-later
unfolding default
total_among-was-requires-clause-later c =
    let part = c.args.book.now in
    let entry = get_or part.entries c.args.place default in
    let at = rw c.entries.ensures at c.at-at.ensures in
    let last = ap (latest (begin_of part)) (take_more part.entries c.args.place default c.requires.within) ∙ latest-push (begin_of part) (take c.args.place part.entries) entry in
    omega (arith, at, last)

pub returns : goal.returns
unfolding default marked
returns c before is from =
    let part = c.args.book.now in
    let entry = get_or part.entries c.args.place default in
    let sets = rw c.entries.ensures at (sym c.sets_cap.ensures ∙ c.if-not-sets_cap.false) in
    let at : c.at-at.result ≡ moment entry.call = rw c.entries.ensures at c.at-at.ensures in
    let whole = book_behind before part in
    let old = before ++ take c.args.place part.entries in
    let more = behind_more before part.entries c.args.place default c.requires.within in
    let was : c.total_among-was.result ≡ total_at (with_entries whole (old ++ entry ∷ [])) (moment entry.call) =
    c.total_among-was.ensures before is
    ∙ ap (λ (es : List Entry). total_at (with_entries whole es) c.at-at.result) more
    ∙ ap (total_at (with_entries whole (old ++ entry ∷ []))) at in
    ap (λ (n : ℕ). marked n c.total_among-was.result) at ∙ ap (marked (moment entry.call)) was
    ∙ sym (ap (λ (es : List Entry). mark_of (with_entries whole es)) more ∙ mark_of-sets whole old entry sets)
