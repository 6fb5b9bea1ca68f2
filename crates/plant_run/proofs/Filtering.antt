-- The requests of one link among those that entries tell of.
use Rattle.std.proofs.Common.{◌≡◌, ◌≢◌, ℕ, ◌+◌, ◌<◌, ◌≤◌, Bool, true, false, eqb, List, [], ◌∷◌, ◌++◌, length, refl, sym, ap, subst, ◌∙◌, arith}
use Rattle.std.specs.Prelude.{filter, ◌==◌}
use Rattle.std.specs.List.{AllByRecursion}
use Rattle.std.proofs.lemmas.Bool.{eqb-true, eqb-false, eq-eqb, ne_eqb}
use Rattle.std.proofs.lemmas.List.Elements.{filter-append}
use Rattle.plant_book.specs.declared.call.Call.{Call}
use Rattle.plant_book.specs.declared.call.Call.TheVariants as call
use Rattle.plant_book.specs.declared.call.Reply.{Reply}
use Rattle.plant_book.specs.declared.call.Reply.TheVariants as reply
use Rattle.plant_book.specs.declared.book.Entry.{Entry}
use Rattle.inverter_worker.specs.declared.output.Asked.{Asked}
use Rattle.plant_run.specs.Requests.{linked_by, requested_by, link_of, requested, requests_on, AreNumbered}
use Rattle.plant_run.proofs.Numbering.{IsNumberedBy, sent_after, AreNumberedBy}

-- those of a link, of any requests
abbrev pub of_link : (link : ℕ) → List Asked → List Asked
of_link link requests = filter (λ request. link_of request == link) requests

abbrev pub IsBelow : (link : ℕ) → Asked → Type 0
IsBelow link request = link_of request < link

pub none_of : (link : ℕ) (requests : List Asked) → AllByRecursion (λ (request : Asked). link_of request ≢ link) requests → of_link link requests ≡ []
none_of link [] apart = refl
none_of link (request ∷ requests) apart = rw (ne_eqb (link_of request) link apart.0) (none_of link requests apart.1)

pub all_of : (link : ℕ) (requests : List Asked) → AllByRecursion (λ (request : Asked). link_of request ≡ link) requests → of_link link requests ≡ requests
all_of link [] same = refl
all_of link (request ∷ requests) same =
    rw (eq-eqb (link_of request) link same.0) (ap (λ (t : List Asked). request ∷ t) (all_of link requests same.1))

pub all_map : (P Q : Asked → Type 0) → ((request : Asked) → P request → Q request) → (requests : List Asked) → AllByRecursion P requests → AllByRecursion Q requests
all_map P Q to [] all = tt
all_map P Q to (request ∷ requests) all = (to request all.0, all_map P Q to requests all.1)

pub all_joined : (P : Asked → Type 0) (xs ys : List Asked) → AllByRecursion P xs → AllByRecursion P ys → AllByRecursion P (xs ++ ys)
all_joined P [] ys first last = last
all_joined P (x ∷ xs) ys first last = (first.0, all_joined P xs ys first.1 last)

pub above : (link more : ℕ) (requests : List Asked) → link ≤ more → AllByRecursion (IsBelow link) requests → AllByRecursion (IsBelow more) requests
above link more requests le all = all_map (IsBelow link) (IsBelow more) (λ request below. omega (arith, le, below)) requests all

pub below_none : (link : ℕ) (requests : List Asked) → AllByRecursion (IsBelow link) requests → of_link link requests ≡ []
below_none link requests all =
    none_of link requests (all_map (IsBelow link) (λ (request : Asked). link_of request ≢ link) (λ request below same. absurd (omega (arith, below, same))) requests all)

-- what is numbered now belongs to the link that was entered last
pub on_link : (links sent : ℕ) (requests : List Asked) → AllByRecursion (IsNumberedBy links sent) requests → of_link links requests ≡ requests
on_link links sent requests all = all_of links requests (all_map (IsNumberedBy links sent) (λ (request : Asked). link_of request ≡ links) (λ request is. is.link) requests all)

pub below_next : (links sent : ℕ) (requests : List Asked) → AllByRecursion (IsNumberedBy links sent) requests → AllByRecursion (IsBelow (links + 1)) requests
below_next links sent requests all =
    all_map (IsNumberedBy links sent) (IsBelow (links + 1)) (λ request is. let same = is.link in omega (arith, same)) requests all

-- and of an earlier link there is nothing more
pub none_earlier : (entries : List Entry) (links sent link : ℕ) → link < links → AreNumberedBy links sent entries → requests_on link entries ≡ []
none_earlier [] links sent link earlier all = refl
none_earlier (entry ∷ entries) links sent link earlier all =
    filter-append (λ (request : Asked). link_of request == link) (requested_by entry.call entry.reply) (requested entries)
    ∙ ap (λ (t : List Asked). t ++ requests_on link entries)
    (none_of link (requested_by entry.call entry.reply) (all_map (IsNumberedBy links sent) (λ (request : Asked). link_of request ≢ link)
    (λ request is same. let at = is.link in absurd (omega (arith, at, same, earlier))) (requested_by entry.call entry.reply) all.0))
    ∙ none_earlier entries (links + length (linked_by entry.call entry.reply))
    (sent_after (linked_by entry.call entry.reply) (sent + length (requested_by entry.call entry.reply))) link (omega (arith, earlier)) all.2

-- an entry tells of one link or one request at most
few : (called : Call) (answer : Reply) → length (linked_by called answer) + length (requested_by called answer) ≤ 1
few (call.Link at inverter) (reply.Linked number) = omega arith
few (call.Ask at inverter raw) (reply.Granted write) = omega arith
few (call.Read at inverter) (reply.ReadAs read) = omega arith
few called answer = omega arith

-- the number with which the requests of a link go on
pub record GoesOn (links sent link first : ℕ) : Type 0 where
  le : links ≤ link
  here : link ≡ links → first ≡ sent + 1
  later : links < link → first ≡ 1

strictly : (a b : ℕ) → a ≤ b → a ≢ b → a < b
strictly a b le not = omega (arith, le, not)

abbrev Counts : (link : ℕ) → (entries : List Entry) → (links sent : ℕ) → Type 0
Counts link entries links sent = (first : ℕ) → GoesOn links sent link first → AreNumbered first (requests_on link entries)

one_request : (links sent link first : ℕ) (request : Asked) (entries : List Entry) → GoesOn links sent link first → IsNumberedBy links sent request
    → Counts link entries (links + 0) (sent + 1) → (b : Bool) → eqb (link_of request) link ≡ b
    → AreNumbered first (of_link link ((request ∷ []) ++ requested entries))
one_request links sent link first request entries on is rest true same_link =
    let same : link ≡ links = sym (eqb-true (link_of request) link same_link) ∙ is.link in
    let first_is : first ≡ sent + 1 = on.here same in
    rw same_link (
      is.number ∙ sym first_is,
      rest (first + 1) (record { le = omega (arith, on.le); here = λ _. omega (arith, first_is); later = λ less. absurd (omega (arith, less, same)) }),
    )
one_request links sent link first request entries on is rest false other =
    let apart : links < link = strictly links link on.le (λ same. eqb-false (link_of request) link other (is.link ∙ same)) in
    rw other (rest first (record { le = omega (arith, on.le); here = λ same. absurd (omega (arith, same, apart)); later = λ _. on.later apart }))

one_link : (links sent link first number : ℕ) (entries : List Entry) → GoesOn links sent link first → AreNumberedBy (links + 1) 0 entries
    → Counts link entries (links + 1) 0 → (b : Bool) → eqb link links ≡ b → AreNumbered first (requests_on link entries)
one_link links sent link first number entries on all rest true is =
    let same : link ≡ links = eqb-true link links is in
    subst (λ (rs : List Asked). AreNumbered first rs) (sym (none_earlier entries (links + 1) 0 link (omega (arith, same)) all)) tt
one_link links sent link first number entries on all rest false is =
    let apart : links < link = strictly links link on.le (λ same. eqb-false link links is (sym same)) in
    let one : first ≡ 1 = on.later apart in
    rest first (record { le = omega (arith, apart); here = λ _. omega (arith, one); later = λ _. one })

step : (links sent link first : ℕ) (requests : List Asked) (numbers : List ℕ) (entries : List Entry) → length numbers + length requests ≤ 1
    → GoesOn links sent link first → AllByRecursion (IsNumberedBy links sent) requests
    → AreNumberedBy (links + length numbers) (sent_after numbers (sent + length requests)) entries
    → Counts link entries (links + length numbers) (sent_after numbers (sent + length requests))
    → AreNumbered first (of_link link (requests ++ requested entries))
step links sent link first [] [] entries few on all more rest =
    rest first (record { le = omega (arith, on.le); here = λ same. let is = on.here (omega (arith, same)) in omega (arith, is); later = λ less. on.later (omega (arith, less)) })
step links sent link first (request ∷ []) [] entries few on all more rest =
    one_request links sent link first request entries on all.0 rest (eqb (link_of request) link) refl
step links sent link first [] (number ∷ []) entries few on all more rest =
    one_link links sent link first number entries on more rest (eqb link links) refl
step links sent link first (request ∷ another ∷ requests) numbers entries few on all more rest = absurd (omega (arith, few))
step links sent link first requests (number ∷ another ∷ numbers) entries few on all more rest = absurd (omega (arith, few))
step links sent link first (request ∷ requests) (number ∷ numbers) entries few on all more rest = absurd (omega (arith, few))

numbers_on : (entries : List Entry) (links sent link : ℕ) → AreNumberedBy links sent entries → Counts link entries links sent
numbers_on [] links sent link all first on = tt
numbers_on (entry ∷ entries) links sent link all first on =
    step links sent link first (requested_by entry.call entry.reply) (linked_by entry.call entry.reply) entries (few entry.call entry.reply) on all.0 all.2
    (numbers_on entries (links + length (linked_by entry.call entry.reply))
    (sent_after (linked_by entry.call entry.reply) (sent + length (requested_by entry.call entry.reply))) link all.2)

pub numbers_rise : (link : ℕ) (entries : List Entry) → 1 ≤ link → AreNumberedBy 0 0 entries → AreNumbered 1 (requests_on link entries)
numbers_rise link entries some all =
    numbers_on entries 0 0 link all 1 (record { le = omega arith; here = λ same. absurd (omega (arith, some, same)); later = λ _. refl })
