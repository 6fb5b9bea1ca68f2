-- Lives one after another as one history.
use Rattle.std.specs.Prelude.{nat_le, List, [], ◌∷◌, ◌++◌, filter}
use Rattle.limiter_num.specs.Timers.{last_moment}
use Rattle.plant_book.specs.declared.call.Write as writes
use Rattle.plant_book.specs.Book.{BookRecord}
use Rattle.plant_book.specs.Writes.{standing}
use Rattle.plant_book.specs.Reserved.{now_of}
use Rattle.plant_book.specs.History.{History, IsHistory}
use Rattle.plant_book.specs.Safe.{IsSafeAlways}

-- a history with this last life
abbrev pub ending_in : List writes.Write → List BookRecord → BookRecord → History
ending_in past earlier book = record { past = past; earlier = earlier; life = book }

-- a history, safe at every moment
pub record IsSafeHistory (history : History) : Type 0 where
  pub is : IsHistory history
  pub safe : IsSafeAlways history

-- the first life of a plant that was commissioned
abbrev pub Begins : BookRecord → Type 0
Begins book = IsSafeHistory (ending_in [] [] book)

-- Whatever past and lives came before, with a life that has gone on they are still a safe history.
abbrev pub GoesOn : BookRecord → BookRecord → Type 0
GoesOn old new = (past : List writes.Write) (earlier : List BookRecord)
    → IsHistory (ending_in past earlier old) → IsSafeHistory (ending_in past earlier new)

-- Whatever past and lives came before, with this one ended and the next begun they are a safe history.
abbrev pub Restarts : BookRecord → BookRecord → Type 0
Restarts old new = (past : List writes.Write) (earlier : List BookRecord)
    → IsHistory (ending_in past earlier old) → IsSafeHistory (ending_in past (earlier ++ old ∷ []) new)

-- the writes of all inverters that are live at the last moment of a book
abbrev pub still_live : BookRecord → List writes.Write
still_live book = filter (λ write. nat_le (now_of book) (last_moment book.site.rules write.at))
    (standing book.site.rules [] book.entries)
