use Rattle.std.proofs.Common.{sym, ◌∙◌}
use Rattle.uncertain_writes.proofs.Pending.{PendsOwn-answered}
use Rattle.uncertain_writes.proofs.Entries.{live-later, live-entry, live-book, no_live}
use Rattle.uncertain_writes.proofs.Rooms.{finds_room}
use Rattle.uncertain_writes.proofs.laws.lists_follow_the_book.Goals as goal

pub returns-clause-book : goal.returns-clause-book
returns-clause-book c = live-book

pub returns-clause-entry : goal.returns-clause-entry
returns-clause-entry c = λ book entry now inverter right answer le. live-entry book book.entries entry now inverter (PendsOwn-answered book right) answer le

pub returns-clause-empty : goal.returns-clause-empty
returns-clause-empty c = no_live

pub returns-clause-later : goal.returns-clause-later
returns-clause-later c = live-later

pub returns-clause-room : goal.returns-clause-room
returns-clause-room c = λ book entry write answer granted. (finds_room book entry.call).room write (sym answer ∙ granted)
