use Rattle.model_discovery.proofs.Facts.{first_block_own, first_block_within}
use Rattle.model_discovery.proofs.walk.Walk.find.Goals as goal

pub returns-clause-long_enough : goal.returns-clause-long_enough
returns-clause-long_enough c = rw (c.first_of.ensures, c.deref.ensures.0) (first_block_own c.self.inside.models.items c.self.invariant.sound c.args.id)

pub returns-clause-within_map : goal.returns-clause-within_map
returns-clause-within_map c = rw (c.first_of.ensures, c.deref.ensures.0) (first_block_within c.self.inside.models.items c.self.invariant.sound c.args.id)
