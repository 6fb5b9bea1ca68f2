use Rattle.model_discovery.proofs.Facts.{few_models, first_is_long, none_absent, within_map}
use Rattle.model_discovery.proofs.laws.each_chain.Goals as goal

pub returns : goal.returns
returns c = record {
  few = λ map models chain. few_models models chain.reach.sound;
  within_map = λ map models chain. within_map models chain.reach.sound;
  long_enough = λ map models id chain. first_is_long models chain.reach.sound id;
  present = λ map models chain. none_absent models chain.complete;
}
