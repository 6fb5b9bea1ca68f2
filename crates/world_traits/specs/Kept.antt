-- What the links that are kept in memory stand for.
use Rattle.world_traits.specs.Links as links
use Rattle.world_traits.specs.Links.{Link, link_with_receipt}
use Rattle.world_traits.specs.declared.link.Answer.{Answer}
use Rattle.world_traits.specs.declared.link.Answer.TheVariants as kept
use Rattle.world_traits.specs.declared.link.Ending.{Ending}
use Rattle.world_traits.specs.declared.link.Ending.TheVariants as endings

-- the answer that is kept
abbrev pub kept_answer : Answer → links.Answer
kept_answer (kept.Bytes bytes) = links.Bytes bytes.items
kept_answer kept.Quiet = links.Quiet
kept_answer kept.Closed = links.Closed

-- a link that is over: where a receive failed, that is its last
abbrev pub past_link : Ending → Link → Link
past_link endings.HungUp link = link
past_link endings.Failed link = link_with_receipt links.Failed link
