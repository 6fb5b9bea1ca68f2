-- What a call does to a simulated plant.
use Rattle.std.specs.Prelude.{ℕ, ◌+◌, ◌++◌, [], ◌∷◌}
use Rattle.plant_book.specs.declared.call.Call.{Call}
use Rattle.plant_book.specs.declared.call.Reply.{Reply}
use Rattle.plant_book.specs.declared.call.Reply.TheVariants as replies
use Rattle.plant_book.specs.declared.book.Entry.{Entry}
use Rattle.plant_book.specs.Book.{BookRecord}
use Rattle.plant_book.specs.Calls as calls
use Rattle.plant_book.specs.Answer.{reply_to}
use Rattle.plant_book.specs.Answered.{with_entries}
use Rattle.plant_simulator.specs.World.{World}

-- a call as it is entered, with the right reply
unfoldable pub entry_in : BookRecord → Call → Entry
entry_in book call = record {
  call = calls.entered book.start book.entries call;
  reply = reply_to book (calls.entered book.start book.entries call);
}

-- how many Asks a reply grants, and how many writes it says are freed
abbrev pub grants_in : Reply → ℕ
grants_in (replies.Granted write) = 1
grants_in _ = 0

abbrev pub freed_in : Reply → ℕ
freed_in (replies.Freed count reserved) = count
freed_in _ = 0

-- the plant with one more entry in its book
unfoldable pub with_entry : Entry → World → World
with_entry entry world = record world { book = with_entries world.book (world.book.entries ++ entry ∷ []) }

-- the plant with what a reply grants and frees counted
abbrev pub counted : Reply → World → World
counted reply world = record world {
  granted = world.granted + grants_in reply;
  freed = world.freed + freed_in reply;
}

-- the reply to a call
abbrev pub reply_in : World → Call → Reply
reply_in world call = (entry_in world.book call).reply

-- the plant behind a call
unfoldable pub called : Call → World → World
called call world = counted (reply_in world call) (with_entry (entry_in world.book call) world)
