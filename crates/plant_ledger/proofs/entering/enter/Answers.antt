-- The entry is the call as it is entered with its reply, and each life goes on with it.
use Rattle.std.proofs.Common.{◌≡◌, ◌<◌, length, sym, ap, subst, ◌∙◌, arith}
use Rattle.std.proofs.lemmas.List.{length_push}
use Rattle.plant_book.specs.declared.call.Call.{Call}
use Rattle.plant_book.specs.declared.book.Entry.{Entry}
use Rattle.plant_book.specs.declared.carry.TheConstants.{CALLS_MAX}
use Rattle.plant_book.specs.Calls as parts
use Rattle.plant_book.specs.Answer.{reply_to}
use Rattle.plant_book.specs.Answered.{IsNext}
use Rattle.plant_book.specs.Part.{PartRecord, begin_of, calls_of, book_behind}
use Rattle.plant_book.specs.Carry.{IsBookPart, EachBook, EachBefore}
use Rattle.plant_book.proofs.Steps.{latest-push}
use Rattle.plant_ledger.specs.Ledger.{LedgerRecord, IsAtLast}
use Rattle.plant_ledger.specs.Plant.{entered, with_one, GoesOn}
use Rattle.plant_ledger.proofs.Lives.{entered-is, part_next, goes_on}
use Rattle.plant_ledger.proofs.entering.enter.Goals as goal

-- the room of a book is room in its life
few_calls : (ledger : LedgerRecord) → IsAtLast ledger → length ledger.book.entries < ledger.book.site.room → calls_of ledger.book < CALLS_MAX
few_calls ledger at_last room = omega (arith, at_last.kept.calls, room)

pub answer-reply-requires-clause-life : goal.answer-reply-requires-clause-life
answer-reply-requires-clause-life c =
    subst (λ (ledger : LedgerRecord). calls_of ledger.book < CALLS_MAX) (sym c.go_on.ensures) (few_calls c.args.ledger.now c.requires.kept c.requires.room)

pub enter-requires-clause-next : goal.enter-requires-clause-next
enter-requires-clause-next c =
    let part = c.args.ledger.now.book in
    let life = c.requires.kept.kept.of_life in
    let is = entered-is part c.args.call c.at_moment-call.result c.max.result c.at.result c.now.result c.at.ensures (c.now.ensures.now ∙ c.requires.kept.last) c.max.ensures c.at_moment-call.ensures in
    subst (λ (ledger : LedgerRecord). IsNext ledger.book.site (begin_of ledger.book) ledger.book.entries c.at_moment-call.result) (sym c.go_on.ensures)
    (subst (λ (moved : Call). IsNext part.site (begin_of part) part.entries moved) (sym is) (part_next part life.before c.args.call life.behind c.requires.moment c.requires.of_site c.requires.in_range))

module _ (c : goal.After-enter) where
  is : c.at_moment-call.result ≡ parts.entered (begin_of c.args.ledger.now.book) c.args.ledger.now.book.entries c.args.call
  is = entered-is c.args.ledger.now.book c.args.call c.at_moment-call.result c.max.result c.at.result c.now.result c.at.ensures (c.now.ensures.now ∙ c.requires.kept.last) c.max.ensures c.at_moment-call.ensures

  written : c.enter.new.self ≡ record { book = with_one c.args.ledger.now.book (record { call = c.at_moment-call.result; reply = c.answer-reply.result }); at = parts.moment c.at_moment-call.result }
  written =
      let after : LedgerRecord → LedgerRecord = λ ledger. record { book = with_one ledger.book (record { call = c.at_moment-call.result; reply = c.answer-reply.result }); at = ledger.at } in
      c.enter.ensures ∙ ap after c.go_on.ensures

  new_book : c.enter.new.self.book ≡ entered c.args.ledger.now.book c.args.call c.answer-reply.result
  new_book =
      ap (λ (ledger : LedgerRecord). ledger.book) written
      ∙ ap (λ (moved : Call). with_one c.args.ledger.now.book (record { call = moved; reply = c.answer-reply.result })) is

  goes : EachBefore c.args.ledger.now.book (λ before. GoesOn before c.args.ledger.now.book c.args.call c.answer-reply.result c.enter.new.self.book)
  goes before behind =
      let part = c.args.ledger.now.book in
      let answers = subst (λ (ledger : LedgerRecord). EachBook ledger.book (λ whole. c.answer-reply.result ≡ reply_to whole c.at_moment-call.result)) c.go_on.ensures c.answer-reply.ensures in
      let right : c.answer-reply.result ≡ reply_to (book_behind before part) (parts.entered (begin_of part) part.entries c.args.call) =
      answers before behind ∙ ap (reply_to (book_behind before part)) is in
      subst (λ (b : PartRecord). GoesOn before part c.args.call c.answer-reply.result b) (sym new_book)
      (goes_on part before c.args.call behind c.requires.moment c.requires.of_site c.requires.in_range c.answer-reply.result (few_calls c.args.ledger.now c.requires.kept c.requires.room) right)

pub returns-clause-lives : goal.returns-clause-lives
returns-clause-lives c = goes c

pub returns-clause-kept : goal.returns-clause-kept
returns-clause-kept c =
    let old = c.args.ledger.now in
    let entry : Entry = record { call = c.at_moment-call.result; reply = c.answer-reply.result } in
    let before = c.requires.kept.kept.of_life.before in
    let on = goes c before c.requires.kept.kept.of_life.behind in
    let of_life : IsBookPart c.enter.new.self.book = record { before = before; behind = on.answered } in
    let made = subst IsBookPart (ap (λ (ledger : LedgerRecord). ledger.book) (written c)) of_life in
    subst IsAtLast (sym (written c)) (record {
      kept = record {
        of_life = made;
        room = omega (arith, length_push old.book.entries entry, c.requires.room);
        calls = c.requires.kept.kept.calls;
      };
      last = sym (latest-push (begin_of old.book) old.book.entries entry);
    })
