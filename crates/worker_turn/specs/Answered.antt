-- What the receives of one wait answered.
use Rattle.std.specs.Prelude.{◌≡◌, ℕ, List, [], ◌∷◌, ◌++◌, Option, Some, None, map}
use Rattle.world_traits.specs.Links.{Answer, Bytes, Quiet, Closed, Failed, Link, Links}
use Rattle.inverter_worker.specs.declared.input.Input.{Input}
use Rattle.inverter_worker.specs.declared.input.Input.TheVariants as input

-- what the receives of a link answered, in order
abbrev pub answers : Link → List Answer
answers link = map (λ receipt. receipt.answer) link.receipts

-- the answer with no bytes that an input tells of
abbrev pub answer_told : Input → List Answer
answer_told input.Quiet = Quiet ∷ []
answer_told input.Closed = Closed ∷ []
answer_told input.RecvFailed = Failed ∷ []
answer_told came = []

-- the links behind a wait: a receive that failed ends its link
abbrev pub links_after : Input → (past : List Link) → Link → Links
links_after input.RecvFailed past link = record { past = past ++ link ∷ []; current = None }
links_after came past link = record { past = past; current = Some link }

-- A wait on a link: its receives answered with bytes, any number of times, and then as the input tells.
-- Nothing but these receives is new.
pub record IsAnswered (came : Input) (links : Links) (link : Link) (told : Option Links) : Type 0 where
  pub pieces : List (List ℕ)
  pub after : Link
  pub answers : answers after ≡ answers link ++ map Bytes pieces ++ answer_told came
  pub same : after ≡ record link { receipts = after.receipts }
  pub now : told ≡ Some (links_after came links.past after)
