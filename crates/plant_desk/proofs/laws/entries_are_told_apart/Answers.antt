use Rattle.plant_desk.proofs.Telling.{all_found, first_found}
use Rattle.plant_desk.proofs.laws.entries_are_told_apart.Goals as goal

pub returns-clause-all : goal.returns-clause-all
returns-clause-all c = λ desk passes life pass test comes there apart. all_found desk passes life pass test comes there apart

pub returns-clause-first : goal.returns-clause-first
returns-clause-first c = λ desk passes life pass test count place inverter goal comes there apart may. first_found desk passes life pass test comes there apart count place inverter goal may
