-- That a ledger which knows only the calls could free no write sooner.
use Rattle.std.specs.Prelude.{◌≡◌, ℕ, ◌≤◌, false, List, [], ◌∷◌, ◌++◌, Some, Contains}
use Rattle.std.specs.List.{AllByRecursion}
use Rattle.plant_book.specs.declared.call.Write as writes
use Rattle.plant_book.specs.declared.book.Entry.{Entry}
use Rattle.plant_book.specs.Sums.{last_that}
use Rattle.plant_book.specs.Book.{BookRecord}
use Rattle.plant_book.specs.Writes.{grant_of, live}
use Rattle.plant_book.specs.Policy.{is_sight}
use Rattle.plant_book.specs.Reserved.{now_of}
use Rattle.plant_book.specs.History.{History, Grant, life_after}
use Rattle.plant_book.specs.Behaviour.{Timed, Act, is_change, IsBehaviour}
use Rattle.plant_book.specs.Held.{IsCut}

-- no read of the inverter was answered since the grant of the write
abbrev pub IsUnreadSince : List Entry → writes.Write → Type 0
IsUnreadSince entries write = (before later : List Entry) (entry : Entry)
    → entries ≡ before ++ entry ∷ later → Contains (grant_of entry) write
    → AllByRecursion (λ one. is_sight write.inverter one ≡ false) later

-- A behaviour of the write's inverter, a moment from the last of the history on, and a cut at it, at which an Act
-- of the write is the last change: its raw percentage is held.
pub record MayHold (history : History) (write : writes.Write) : Type 0 where
  pub events : List Timed
  pub behaviour : IsBehaviour history write.inverter events
  pub at : ℕ
  pub from : now_of history.life ≤ at
  pub first : List Timed
  pub rest : List Timed
  pub cut : IsCut events at first rest
  pub grant : Grant
  pub of_write : grant.write ≡ write
  pub acted : ℕ
  pub holds : last_that is_change first ≡ Some (record { at = acted; event = Act grant })

-- A commissioned life is tight: each live write since whose grant no read of its inverter was answered may be
-- held, if the inverter has a behaviour at all.
abbrev pub IsTight : BookRecord → Type 0
IsTight book = (write : writes.Write) (events : List Timed)
    → Contains (live book.site.rules book.entries (now_of book) write.inverter) write
    → IsUnreadSince book.entries write → IsBehaviour (life_after [] book) write.inverter events
    → MayHold (life_after [] book) write
