-- The record of links: what stood on each link that a dialer made. Whatever speaks of links cites these definitions.
use Rattle.std.specs.Prelude.{◌≡◌, ℕ, ◌<◌, ◌≤◌, List, [], ◌∷◌, ◌++◌, length, take, Option, Some, None, Result, Ok, Err}
use Rattle.std.specs.List.{flat_map}
use Rattle.std.specs.Option.{option_map}
use Rattle.world_traits.specs.declared.dialer.Received.{Received}
use Rattle.world_traits.specs.declared.dialer.Received.TheVariants as received

-- what a receive answered: bytes, that nothing came in time, that the peer closed the link, or that it failed
pub data Answer : Type 0 where
  Bytes : List ℕ → Answer
  Quiet : Answer
  Closed : Answer
  Failed : Answer

-- the answer of a receive, with the count of bytes sent on its link before it
pub record Receipt : Type 0 where
  pub answer : Answer
  pub sent_before : ℕ

-- a link: the host and the port that were dialed, the bytes sent on it, and its receives in order
pub record Link : Type 0 where
  pub host : List ℕ
  pub port : ℕ
  pub sent : List ℕ
  pub receipts : List Receipt

-- the links that are over, in order, and the link that is up, which is the last of all
pub record Links : Type 0 where
  pub past : List Link
  pub current : Option Link

-- links, and one more behind them where there is one
abbrev pub links_with : List Link → Option Link → List Link
links_with past None = past
links_with past (Some link) = past ++ link ∷ []

-- all links so far, in order
abbrev pub all_links : Links → List Link
all_links links = links_with links.past links.current

-- no link yet
abbrev pub no_links : Links
no_links = record { past = []; current = None }

-- no link is up: none was dialed yet, it was hung up, or a receive failed on it, and no dial worked since
abbrev pub IsDown : Links → Type 0
IsDown links = links.current ≡ None

-- a link on which nothing was sent or received yet
abbrev pub new_link : List ℕ → ℕ → Link
new_link host port = record { host = host; port = port; sent = []; receipts = [] }

-- a link after more bytes were sent on it
abbrev pub link_with_bytes : List ℕ → Link → Link
link_with_bytes bytes link = record link { sent = link.sent ++ bytes }

-- a link after one receive more
abbrev pub link_with_receipt : Answer → Link → Link
link_with_receipt answer link = record link { receipts = link.receipts ++ record { answer = answer; sent_before = length link.sent } ∷ [] }

-- The links with a new one, which is up. The one that was up is over.
abbrev pub with_link : List ℕ → ℕ → Links → Links
with_link host port links = record { past = all_links links; current = Some (new_link host port) }

-- the links with more bytes sent on the one that is up
abbrev pub with_bytes : List ℕ → Links → Links
with_bytes bytes links = record links { current = option_map (link_with_bytes bytes) links.current }

-- the links with one receive more on the one that is up
abbrev pub with_receipt : Answer → Links → Links
with_receipt answer links = record links { current = option_map (link_with_receipt answer) links.current }

-- the links with a receive that failed on the one that was up, which is over then
abbrev pub with_failure : Links → Links
with_failure links = record { past = links_with links.past (option_map (link_with_receipt Failed) links.current); current = None }

-- a dial that worked makes a link, and one that failed changes nothing
abbrev pub after_dial : {E : Type 0} → List ℕ → ℕ → Result (Unit {0}) E → Links → Links
after_dial host port (Ok _) links = with_link host port links
after_dial host port (Err _) links = links

-- a send that worked added the first so many bytes of its piece, and one that failed changes nothing
abbrev pub after_send : {E : Type 0} → List ℕ → Result ℕ E → Links → Links
after_send piece (Ok count) links = with_bytes (take count piece) links
after_send piece (Err _) links = links

-- of a piece the first bytes were sent, but not all
abbrev pub IsCutShort : List ℕ → Option Links → Option Links → Type 0
IsCutShort piece old new = (count : ℕ) × (count < length piece) × (new ≡ option_map (with_bytes (take count piece)) old)

-- what a receive into these bytes came to
abbrev pub answer_of : List ℕ → Received → Answer
answer_of into (received.Bytes count) = Bytes (take count into)
answer_of into received.Quiet = Quiet
answer_of into received.Closed = Closed

-- a receive adds its answer, and one that failed ends its link
abbrev pub after_receive : {E : Type 0} → List ℕ → Result Received E → Links → Links
after_receive into (Ok got) links = with_receipt (answer_of into got) links
after_receive into (Err _) links = with_failure links

-- a hang-up records nothing: the link that was up is over
abbrev pub after_hang_up : Links → Links
after_hang_up links = record { past = all_links links; current = None }

-- a receive gives one byte at least, and no more than find room
abbrev pub FitsInto : List ℕ → Received → Type 0
FitsInto into (received.Bytes count) = (1 ≤ count) × (count ≤ length into)
FitsInto into received.Quiet = Unit {0}
FitsInto into received.Closed = Unit {0}

-- what was dialed and sent, without the receives
abbrev pub without_receipts : Link → Link
without_receipts link = record link { receipts = [] }

-- the bytes that an answer gave
abbrev pub answer_bytes : Answer → List ℕ
answer_bytes (Bytes bytes) = bytes
answer_bytes Quiet = []
answer_bytes Closed = []
answer_bytes Failed = []

-- the bytes that the receives of a link gave, in order
abbrev pub received_bytes : Link → List ℕ
received_bytes link = flat_map (λ receipt. answer_bytes receipt.answer) link.receipts
