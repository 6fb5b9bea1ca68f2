-- The links and the requests that the ledger numbered, and what a run did with each.
use Rattle.std.specs.Prelude.{◌≡◌, ◌⊎◌, ℕ, ◌+◌, ◌==◌, List, [], ◌∷◌, length, filter}
use Rattle.std.specs.List.{flat_map}
use Rattle.plant_book.specs.declared.call.Call.{Call}
use Rattle.plant_book.specs.declared.call.Call.TheVariants as call
use Rattle.plant_book.specs.declared.call.Reply.{Reply}
use Rattle.plant_book.specs.declared.call.Reply.TheVariants as reply
use Rattle.plant_book.specs.declared.book.Entry.{Entry}
use Rattle.inverter_worker.specs.declared.output.Output.TheVariants as output
use Rattle.inverter_worker.specs.declared.output.Asked.{Asked}
use Rattle.inverter_worker.specs.declared.output.Asked.TheVariants as asked
use Rattle.inverter_worker.specs.Runs.{RunStep}
use Rattle.inverter_worker.specs.Requests.{requests_out}
use Rattle.worker_turn.specs.Agreeing.{made_by}
use Rattle.worker_turn.specs.Requests.{request_number}
use Rattle.plant_run.specs.Acts.{Act, acts, before_links, on_links}

-- the number of the link that a call entered
abbrev pub linked_by : Call → Reply → List ℕ
linked_by (call.Link at inverter) (reply.Linked number) = number ∷ []
linked_by called answer = []

-- the request that a call was answered: an Ask answered Granted, or a Read answered ReadAs
abbrev pub requested_by : Call → Reply → List Asked
requested_by (call.Ask at inverter raw) (reply.Granted write) = asked.Write write ∷ []
requested_by (call.Read at inverter) (reply.ReadAs read) = asked.Read read ∷ []
requested_by called answer = []

-- the numbers of the links that were entered, in order
abbrev pub links_in : List Entry → List ℕ
links_in entries = flat_map (λ entry. linked_by entry.call entry.reply) entries

-- the requests that were numbered, in order
abbrev pub requested : List Entry → List Asked
requested entries = flat_map (λ entry. requested_by entry.call entry.reply) entries

-- the link on which a request may be sent
abbrev pub link_of : Asked → ℕ
link_of (asked.Write write) = write.link
link_of (asked.Read read) = read.link

-- the requests that were numbered on a link, in order
abbrev pub requests_on : (link : ℕ) → List Entry → List Asked
requests_on link entries = filter (λ request. link_of request == link) (requested entries)

-- the first of these requests has this number, and each later one the next
abbrev pub AreNumbered : (number : ℕ) → List Asked → Type 0
AreNumbered number [] = Unit {0}
AreNumbered number (request ∷ later) = (request_number request ≡ number) × AreNumbered (number + 1) later

-- the calls of acts with their replies, in order
abbrev pub entries_in : List Act → List Entry
entries_in done = flat_map (λ act. made_by act.output act.came) done

-- the requests that were to be sent, and the writes that were given back, in order
abbrev pub handled : List Act → List Asked
handled done = flat_map (λ act. requests_out act.output) done

-- The acts on the link of this number: it was entered once, as this link. Each request that the ledger numbered on it,
-- from 1 on, was to be sent or was given back, once, in the order of their numbers; and no other was. The bytes sent on
-- the link are the frames of those that were to be sent, as its agreement with these acts has it.
pub record IsLinkOf (entries : List Entry) (number : ℕ) (done : List Act) : Type 0 where
  pub linked : links_in (entries_in done) ≡ number ∷ []
  pub numbers : AreNumbered 1 (requests_on number entries)
  pub requests : handled done ≡ requests_on number entries

-- The acts on a link that was not entered, since the book was full: there was no call and no request.
pub record IsLeftOut (full : Type 0) (done : List Act) : Type 0 where
  pub was_full : full
  pub calls : entries_in done ≡ []
  pub requests : handled done ≡ []

-- behind these links the ledger entered no other
abbrev pub IsNext : List Entry → (number : ℕ) → Type 0
IsNext entries number = number ≡ length (links_in entries) + 1

-- The acts on the links from this number on: each was entered under the next number, and all that the ledger entered
-- are here. One more may stand last that a full book left out.
abbrev pub AreLinksOf : (full : Type 0) → List Entry → (number : ℕ) → List (List Act) → Type 0
AreLinksOf full entries number [] = IsNext entries number
AreLinksOf full entries number (done ∷ others) =
    (IsLinkOf entries number done × AreLinksOf full entries (number + 1) others)
    ⊎ (IsLeftOut full done × IsNext entries number × (others ≡ []))

-- A run agrees with the entries of its inverter in what it sent, link by link. Before its first link there was no
-- request.
pub record RequestsAgree (full : Type 0) (entries : List Entry) (run : List RunStep) : Type 0 where
  pub none_before : handled (before_links (acts output.Nothing run)) ≡ []
  pub on_each : AreLinksOf full entries 1 (on_links (acts output.Nothing run))
