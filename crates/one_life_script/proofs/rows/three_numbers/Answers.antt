use Rattle.one_life_script.proofs.Front.{three_is}
use Rattle.one_life_script.proofs.rows.three_numbers.Goals as goal

pub returns : goal.returns
returns c = three_is c.args.text.now c.args.bytes.now c.read_three.result c.requires c.read_three.ensures
