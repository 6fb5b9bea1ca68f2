use Rattle.script_replay.proofs.Lives.{book_replays}
use Rattle.script_replay.proofs.laws.books_replay_as_themselves.Goals as goal

pub returns : goal.returns
returns c = book_replays
