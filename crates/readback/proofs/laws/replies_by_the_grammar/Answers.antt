use Rattle.readback.proofs.Grammatical.{reply_found, reply_only}
use Rattle.readback.proofs.laws.replies_by_the_grammar.Goals as goal

pub returns : goal.returns
returns c = record { found = reply_found; only = reply_only }
