-- How the ledger numbers the links and the requests of an inverter.
use Rattle.std.proofs.Common.{◌≡◌, ℕ, ◌+◌, ◌≤◌, Bool, true, false, cond, eqb, List, [], ◌∷◌, ◌++◌, length, refl, sym, ap, subst, ◌∙◌, arith}
use Rattle.std.specs.List.{AllByRecursion}
use Rattle.std.proofs.lemmas.Bool.{eqb-true, eqb-false}
use Rattle.plant_book.specs.declared.call.Call.{Call}
use Rattle.plant_book.specs.declared.call.Call.TheVariants as call
use Rattle.plant_book.specs.declared.call.Reply.{Reply}
use Rattle.plant_book.specs.declared.call.Reply.TheVariants as reply
use Rattle.plant_book.specs.declared.call.Read as reads
use Rattle.plant_book.specs.declared.call.Write as writes
use Rattle.plant_book.specs.declared.book.Entry.{Entry}
use Rattle.plant_book.specs.Book.{BookRecord}
use Rattle.plant_book.specs.Calls.{at_moment}
use Rattle.plant_book.specs.Requests.{is_link, links_to, link_number, grants_to, is_request, requests}
use Rattle.plant_book.specs.Answer.{reply_to, reply_to_ask, reply_to_read}
use Rattle.plant_book.specs.Answered.{EachInTurn, IsAnswer, IsAnswered, with_entries}
use Rattle.plant_book.proofs.Steps.{requests-push, requests-push_link, count_by-push}
use Rattle.plant_book.proofs.Granting.{rest_of, granted_is_covered}
use Rattle.plant_book.proofs.Numbers.{read_is_at}
use Rattle.ledger_desk.specs.Calls.{IsReplyTo}
use Rattle.ledger_desk.proofs.Replies.{replies_fit}
use Rattle.inverter_worker.specs.declared.output.Asked.{Asked}
use Rattle.inverter_worker.specs.declared.output.Asked.TheVariants as asked
use Rattle.worker_turn.specs.Requests.{request_number}
use Rattle.worker_turn.specs.Agreeing.{AreEntriesOf}
use Rattle.plant_run.specs.Own.{is_workers, entries_of}
use Rattle.plant_run.specs.Requests.{linked_by, requested_by, link_of, links_in, requested}

-- a request that is numbered where so many links were entered, and so many requests on the last of them
pub record IsNumberedBy (links sent : ℕ) (request : Asked) : Type 0 where
  pub some : 1 ≤ links
  pub link : link_of request ≡ links
  pub number : request_number request ≡ sent + 1

-- how many requests there are on the last link then
abbrev pub sent_after : List ℕ → (sent : ℕ) → ℕ
sent_after [] sent = sent
sent_after (number ∷ others) sent = 0

-- the links and requests of these entries are numbered in order
abbrev pub AreNumberedBy : (links sent : ℕ) → List Entry → Type 0
AreNumberedBy links sent [] = Unit {0}
AreNumberedBy links sent (entry ∷ later) = AllByRecursion (IsNumberedBy links sent) (requested_by entry.call entry.reply)
    × AllByRecursion (λ number. number ≡ links + 1) (linked_by entry.call entry.reply)
    × AreNumberedBy (links + length (linked_by entry.call entry.reply))
    (sent_after (linked_by entry.call entry.reply) (sent + length (requested_by entry.call entry.reply))) later

none : (b : Bool) → ◌≡◌ {A = ℕ} (cond b 0 0) 0
none true = refl
none false = refl

some_links : (b : Bool) (n : ℕ) → b ≡ eqb n 0 → b ≡ false → 1 ≤ n
some_links b n same is = omega (arith, eqb-false n 0 (sym same ∙ is))

asked_linked : (book : BookRecord) (at inverter raw : ℕ) (write : writes.Write) → reply_to_ask book at inverter raw ≡ reply.Granted write
    → 1 ≤ link_number inverter book.entries
unfolding reply_to_ask
asked_linked book at inverter raw write is =
    some_links (eqb (link_number inverter book.entries) 0) (link_number inverter book.entries) refl
    (rest_of (eqb (link_number inverter book.entries) 0) _ _ (reply.Granted write) (λ other. cc) is).0

read_linked : (book : BookRecord) (at inverter : ℕ) (read : reads.Read) → reply_to_read book at inverter ≡ reply.ReadAs read
    → 1 ≤ link_number inverter book.entries
unfolding reply_to_read
read_linked book at inverter read is =
    some_links (eqb (link_number inverter book.entries) 0) (link_number inverter book.entries) refl
    (rest_of (eqb (link_number inverter book.entries) 0) _ _ (reply.ReadAs read) (λ other. cc) is).0

module _ (inverter : ℕ) where
  grants : (called : Call) (answer : Reply) → IsReplyTo called answer
      → cond (grants_to inverter answer) 1 0 ≡ cond (is_workers inverter called) (length (requested_by called answer)) 0
  grants (call.Ask at other raw) (reply.Granted write) fits = ap (λ (n : ℕ). cond (eqb n inverter) 1 0) fits.0
  grants (call.Read at other) (reply.ReadAs read) fits = ap (λ (n : ℕ). cond (eqb n inverter) 1 0) fits.0
  grants called (reply.Granted write) fits = absurd fits
  grants called (reply.ReadAs read) fits = absurd fits
  grants called answer fits = sym (none (is_workers inverter called))

  links : (called : Call) (answer : Reply) → IsReplyTo called answer
      → cond (links_to inverter called) 1 0 ≡ cond (is_workers inverter called) (length (linked_by called answer)) 0
  links (call.Link at other) (reply.Linked number) fits = refl
  links (call.Link at other) answer fits = absurd fits
  links called answer fits = sym (none (is_workers inverter called))

  -- a call that is no Link of the inverter
  no_link : (called : Call) → links_to inverter called ≡ false → (answer : Reply) → is_workers inverter called ≡ true → linked_by called answer ≡ []
  no_link (call.Link at other) not answer own = absurd (let t : true ≡ false = sym own ∙ not in cc)
  no_link called not answer own = refl

  no_request : (called : Call) → links_to inverter called ≡ true → (answer : Reply) → requested_by called answer ≡ []
  no_request (call.Link at other) is answer = refl
  no_request called is answer = absurd cc

  module _ (book : BookRecord) where
    numbered_write : (at raw : ℕ) (write : writes.Write) → reply.Granted write ≡ reply_to book (call.Ask at inverter raw)
        → IsNumberedBy (link_number inverter book.entries) (requests inverter book.entries) (asked.Write write)
    numbered_write at raw write right =
        let covered = granted_is_covered book (call.Ask at inverter raw) write (sym right) in
        let fits = subst (λ (r : Reply). IsReplyTo (call.Ask at inverter raw) r) (sym right) (replies_fit book (call.Ask at inverter raw)) in
        record {
          some = asked_linked book at inverter raw write (sym right);
          link = ap (λ (w : writes.Write). w.link) covered.is ∙ ap (λ (n : ℕ). link_number n book.entries) fits.0;
          number = ap (λ (w : writes.Write). w.number) covered.is ∙ ap (λ (n : ℕ). requests n book.entries + 1) fits.0;
        }

    numbered_read : (at : ℕ) (read : reads.Read) → reply.ReadAs read ≡ reply_to book (call.Read at inverter)
        → IsNumberedBy (link_number inverter book.entries) (requests inverter book.entries) (asked.Read read)
    numbered_read at read right =
        let is = read_is_at book (call.Read at inverter) read (sym right) in
        let fits = subst (λ (r : Reply). IsReplyTo (call.Read at inverter) r) (sym right) (replies_fit book (call.Read at inverter)) in
        record {
          some = read_linked book at inverter read (sym right);
          link = is.link ∙ ap (λ (n : ℕ). link_number n book.entries) fits.0;
          number = is.number ∙ ap (λ (n : ℕ). requests n book.entries + 1) fits.0;
        }

    numbered_requests : (called : Call) (answer : Reply) → answer ≡ reply_to book called → is_workers inverter called ≡ true
        → AllByRecursion (IsNumberedBy (link_number inverter book.entries) (requests inverter book.entries)) (requested_by called answer)
    numbered_requests (call.Ask at other raw) (reply.Granted write) right own =
        let P : ℕ → Type 0 = λ n. reply.Granted write ≡ reply_to book (call.Ask at n raw) in
        (numbered_write at raw write (subst P (eqb-true other inverter own) right), tt)
    numbered_requests (call.Read at other) (reply.ReadAs read) right own =
        let P : ℕ → Type 0 = λ n. reply.ReadAs read ≡ reply_to book (call.Read at n) in
        (numbered_read at read (subst P (eqb-true other inverter own) right), tt)
    numbered_requests called answer right own = tt

    numbered_links : (called : Call) (answer : Reply) → answer ≡ reply_to book called → is_workers inverter called ≡ true
        → AllByRecursion (λ number. number ≡ link_number inverter book.entries + 1) (linked_by called answer)
    numbered_links (call.Link at other) (reply.Linked number) right own =
        let P : ℕ → Type 0 = λ n. reply.Linked number ≡ reply.Linked (link_number n book.entries + 1) in
        (linked_same number (link_number inverter book.entries + 1) (subst P (eqb-true other inverter own) right), tt)
      where
        linked_same : (a b : ℕ) → reply.Linked a ≡ reply.Linked b → a ≡ b
        linked_same a b is = cc
    numbered_links called answer right own = tt

  link_number-push : (entries : List Entry) (entry : Entry) → link_number inverter (entries ++ entry ∷ []) ≡ link_number inverter entries + cond (is_link inverter entry) 1 0
  unfolding link_number
  link_number-push entries entry = count_by-push (is_link inverter) entries entry

  -- how an entry of the inverter counts
  counted_link : (before : List Entry) (entry : Entry) → IsReplyTo entry.call entry.reply → is_workers inverter entry.call ≡ true
      → link_number inverter (before ++ entry ∷ []) ≡ link_number inverter before + length (linked_by entry.call entry.reply)
  counted_link before entry fits own =
      link_number-push before entry ∙ ap (λ (n : ℕ). link_number inverter before + n) (links entry.call entry.reply fits ∙ rw own refl)

  counted_request : (before : List Entry) (entry : Entry) → IsReplyTo entry.call entry.reply → is_workers inverter entry.call ≡ true
      → requests inverter (before ++ entry ∷ []) ≡ sent_after (linked_by entry.call entry.reply) (requests inverter before + length (requested_by entry.call entry.reply))
  counted_request before entry fits own = by (is_link inverter entry) refl
    where
      by : (b : Bool) → is_link inverter entry ≡ b
          → requests inverter (before ++ entry ∷ []) ≡ sent_after (linked_by entry.call entry.reply) (requests inverter before + length (requested_by entry.call entry.reply))
      by true is = requests-push_link inverter before entry is ∙ sym (was_link entry.call entry.reply fits is (requests inverter before + length (requested_by entry.call entry.reply)))
        where
          was_link : (called : Call) (answer : Reply) → IsReplyTo called answer → links_to inverter called ≡ true → (sent : ℕ) → sent_after (linked_by called answer) sent ≡ 0
          was_link (call.Link at other) (reply.Linked number) fits is sent = refl
          was_link (call.Link at other) answer fits is sent = absurd fits
          was_link called answer fits is sent = absurd cc
      by false is =
          requests-push inverter before entry is
          ∙ ap (λ (n : ℕ). requests inverter before + n) (grants entry.call entry.reply fits ∙ rw own refl)
          ∙ ap (λ (ls : List ℕ). sent_after ls (requests inverter before + length (requested_by entry.call entry.reply))) (sym (no_link entry.call is entry.reply own))

  -- an entry of another inverter, or of none, leaves the counts as they are
  other_link : (before : List Entry) (entry : Entry) → IsReplyTo entry.call entry.reply → is_workers inverter entry.call ≡ false
      → link_number inverter (before ++ entry ∷ []) ≡ link_number inverter before
  other_link before entry fits other =
      let none : ◌≡◌ {A = ℕ} (cond (is_link inverter entry) 1 0) 0 = links entry.call entry.reply fits ∙ rw other refl in
      omega (arith, link_number-push before entry, none)

  other_request : (before : List Entry) (entry : Entry) → IsReplyTo entry.call entry.reply → is_workers inverter entry.call ≡ false
      → requests inverter (before ++ entry ∷ []) ≡ requests inverter before
  other_request before entry fits other =
      let none : ◌≡◌ {A = ℕ} (cond (is_request inverter entry) 1 0) 0 = grants entry.call entry.reply fits ∙ rw other refl in
      let apart : is_link inverter entry ≡ false = no_cond (is_link inverter entry) (links entry.call entry.reply fits ∙ rw other refl) in
      omega (arith, requests-push inverter before entry apart, none)
    where
      no_cond : (b : Bool) → ◌≡◌ {A = ℕ} (cond b 1 0) 0 → b ≡ false
      no_cond true is = absurd (omega (arith, is))
      no_cond false is = refl

  -- so the entries of an inverter are numbered in a book whose replies are right
  numbered_one : (book : BookRecord) (before later : List Entry) (entry : Entry) → IsAnswer book before entry
      → AreNumberedBy (link_number inverter (before ++ entry ∷ [])) (requests inverter (before ++ entry ∷ [])) (entries_of inverter later)
      → (b : Bool) → is_workers inverter entry.call ≡ b → AreNumberedBy (link_number inverter before) (requests inverter before) (entries_of inverter (entry ∷ later))
  numbered_one book before later entry right rest true is =
      let fits = subst (λ (r : Reply). IsReplyTo entry.call r) (sym right) (replies_fit (with_entries book before) entry.call) in
      let P : ℕ → Type 0 = λ n. AreNumberedBy n (requests inverter (before ++ entry ∷ [])) (entries_of inverter later) in
      let Q : ℕ → Type 0 = λ n. AreNumberedBy (link_number inverter before + length (linked_by entry.call entry.reply)) n (entries_of inverter later) in
      rw is (
        numbered_requests (with_entries book before) entry.call entry.reply right is,
        numbered_links (with_entries book before) entry.call entry.reply right is,
        subst Q (counted_request before entry fits is) (subst P (counted_link before entry fits is) rest),
      )
  numbered_one book before later entry right rest false is =
      let fits = subst (λ (r : Reply). IsReplyTo entry.call r) (sym right) (replies_fit (with_entries book before) entry.call) in
      let P : ℕ → Type 0 = λ n. AreNumberedBy n (requests inverter (before ++ entry ∷ [])) (entries_of inverter later) in
      let Q : ℕ → Type 0 = λ n. AreNumberedBy (link_number inverter before) n (entries_of inverter later) in
      rw is (subst Q (other_request before entry fits is) (subst P (other_link before entry fits is) rest))

  numbered : (book : BookRecord) (before later : List Entry) → EachInTurn (IsAnswer book) before later
      → AreNumberedBy (link_number inverter before) (requests inverter before) (entries_of inverter later)
  numbered book before [] all = tt
  numbered book before (entry ∷ later) all =
      numbered_one book before later entry all.0 (numbered book (before ++ entry ∷ []) later all.1) (is_workers inverter entry.call) refl

no_links : (inverter : ℕ) → link_number inverter [] ≡ 0
unfolding link_number
no_links inverter = refl

no_requests : (inverter : ℕ) → requests inverter [] ≡ 0
unfolding requests
no_requests inverter = refl

pub from_book : (inverter : ℕ) (book : BookRecord) → IsAnswered book → AreNumberedBy 0 0 (entries_of inverter book.entries)
from_book inverter book answered =
    let P : ℕ → Type 0 = λ n. AreNumberedBy n (requests inverter []) (entries_of inverter book.entries) in
    let Q : ℕ → Type 0 = λ n. AreNumberedBy 0 n (entries_of inverter book.entries) in
    subst Q (no_requests inverter) (subst P (no_links inverter) (numbered inverter book [] book.entries answered))

-- the moment of a call does not matter
same_requested : (at : ℕ) (called : Call) (answer : Reply) → requested_by (at_moment at called) answer ≡ requested_by called answer
same_requested at (call.Ask before inverter raw) (reply.Granted write) = refl
same_requested at (call.Read before inverter) (reply.ReadAs read) = refl
same_requested at called answer = refl

same_linked : (at : ℕ) (called : Call) (answer : Reply) → linked_by (at_moment at called) answer ≡ linked_by called answer
same_linked at (call.Link before inverter) (reply.Linked number) = refl
same_linked at called answer = refl

pub requested_same : (made entries : List Entry) → AreEntriesOf made entries → requested entries ≡ requested made
requested_same [] [] are = refl
requested_same (own ∷ made) (entry ∷ entries) are =
    ap (λ (e : Entry). requested_by e.call e.reply ++ requested entries) are.0.is
    ∙ ap (λ (t : List Asked). t ++ requested entries) (same_requested are.0.at own.call own.reply)
    ∙ ap (λ (t : List Asked). requested_by own.call own.reply ++ t) (requested_same made entries are.1)
requested_same [] (entry ∷ entries) are = absurd are
requested_same (own ∷ made) [] are = absurd are

pub linked_same : (made entries : List Entry) → AreEntriesOf made entries → links_in entries ≡ links_in made
linked_same [] [] are = refl
linked_same (own ∷ made) (entry ∷ entries) are =
    ap (λ (e : Entry). linked_by e.call e.reply ++ links_in entries) are.0.is
    ∙ ap (λ (t : List ℕ). t ++ links_in entries) (same_linked are.0.at own.call own.reply)
    ∙ ap (λ (t : List ℕ). linked_by own.call own.reply ++ t) (linked_same made entries are.1)
linked_same [] (entry ∷ entries) are = absurd are
linked_same (own ∷ made) [] are = absurd are

pub numbered_same : (made entries : List Entry) (entered sent : ℕ) → AreEntriesOf made entries → AreNumberedBy entered sent entries → AreNumberedBy entered sent made
numbered_same [] [] entered sent are all = tt
numbered_same (own ∷ made) (entry ∷ entries) entered sent are all =
    let requests : requested_by entry.call entry.reply ≡ requested_by own.call own.reply =
    ap (λ (e : Entry). requested_by e.call e.reply) are.0.is ∙ same_requested are.0.at own.call own.reply in
    let linked : linked_by entry.call entry.reply ≡ linked_by own.call own.reply =
    ap (λ (e : Entry). linked_by e.call e.reply) are.0.is ∙ same_linked are.0.at own.call own.reply in
    let P : List Asked → Type 0 = λ rs. AllByRecursion (IsNumberedBy entered sent) rs
    × AllByRecursion (λ (number : ℕ). number ≡ entered + 1) (linked_by entry.call entry.reply)
    × AreNumberedBy (entered + length (linked_by entry.call entry.reply)) (sent_after (linked_by entry.call entry.reply) (sent + length rs)) entries in
    let Q : List ℕ → Type 0 = λ ls. AllByRecursion (IsNumberedBy entered sent) (requested_by own.call own.reply)
    × AllByRecursion (λ (number : ℕ). number ≡ entered + 1) ls
    × AreNumberedBy (entered + length ls) (sent_after ls (sent + length (requested_by own.call own.reply))) entries in
    let moved = subst Q linked (subst P requests all) in (
      moved.0,
      moved.1,
      numbered_same made entries (entered + length (linked_by own.call own.reply))
          (sent_after (linked_by own.call own.reply) (sent + length (requested_by own.call own.reply))) are.1 moved.2,
    )
numbered_same [] (entry ∷ entries) entered sent are all = absurd are
numbered_same (own ∷ made) [] entered sent are all = absurd are
