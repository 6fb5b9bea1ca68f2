use Rattle.std.proofs.Common.{map, ◌∙◌}
use Rattle.limiter_num.specs.Rating.{mw}
use Rattle.plant_book.specs.declared.call.Write as writes
use Rattle.plant_book.proofs.Inverters.{covering-is}
use Rattle.uncertain_writes.proofs.Lists.{fold_max-from}
use Rattle.uncertain_writes.proofs.laws.the_greatest_is_reserved.Goals as goal

pub returns : goal.returns
returns c = λ site inverter unit its_writes is.
    covering-is site inverter unit is its_writes ∙ fold_max-from (mw unit.rating unit.floor) (map (λ (write : writes.Write). mw unit.rating write.raw) its_writes)
