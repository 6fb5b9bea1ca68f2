use Rattle.plant_book.proofs.Behaviours.{idle, last, shown}
use Rattle.plant_book.proofs.laws.behaviours_exist.Goals as goal

pub returns-clause-idle : goal.returns-clause-idle
returns-clause-idle c = idle

pub returns-clause-last : goal.returns-clause-last
returns-clause-last c = last

pub returns-clause-shown : goal.returns-clause-shown
returns-clause-shown c = shown
