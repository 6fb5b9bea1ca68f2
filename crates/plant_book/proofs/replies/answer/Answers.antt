use Rattle.std.proofs.Common.{ap, arith}
use Rattle.plant_book.specs.Calls.{moment}
use Rattle.plant_book.specs.Reserved.{now_of}
use Rattle.plant_book.proofs.replies.answer.Goals as goal

pub reply_to_ask-requires-clause-later : goal.reply_to_ask-requires-clause-later
unfolding now_of
reply_to_ask-requires-clause-later c = omega (arith, c.requires.next.later, ap moment c.in-Ask.is)

pub reply_to_saw-requires-clause-later : goal.reply_to_saw-requires-clause-later
unfolding now_of
reply_to_saw-requires-clause-later c = omega (arith, c.requires.next.later, ap moment c.in-Saw.is)

pub reply_to_back-requires-clause-later : goal.reply_to_back-requires-clause-later
unfolding now_of
reply_to_back-requires-clause-later c = omega (arith, c.requires.next.later, ap moment c.in-Back.is)

pub total_at-requires-clause-later : goal.total_at-requires-clause-later
unfolding now_of
total_at-requires-clause-later c = omega (arith, c.requires.next.later, ap moment c.in-Tick.is)

pub reply_to_cap-requires-clause-later : goal.reply_to_cap-requires-clause-later
unfolding now_of
reply_to_cap-requires-clause-later c = omega (arith, c.requires.next.later, ap moment c.in-Cap.is)
