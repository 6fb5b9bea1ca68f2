use Rattle.commissioning.proofs.Passing.{kept_after}
use Rattle.commissioning.proofs.laws.what_has_passed.Goals as goal

pub returns : goal.returns
returns c = record {
  passed = λ target frames. (kept_after target frames).passed;
  number = λ target frames. (kept_after target frames).number;
}
