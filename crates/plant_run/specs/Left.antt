-- What the run of a worker leaves in the book.
use Rattle.std.specs.Prelude.{◌≡◌, ℕ, ◌≤◌, false, List, [], ◌∷◌, ◌++◌, Contains}
use Rattle.limiter_num.specs.declared.rules.Rules.{Rules}
use Rattle.limiter_num.specs.Timers.{last_moment}
use Rattle.plant_book.specs.declared.call.Reply.TheVariants as reply
use Rattle.plant_book.specs.declared.call.Write as writes
use Rattle.plant_book.specs.declared.book.Entry.{Entry}
use Rattle.plant_book.specs.Site.{mw_at}
use Rattle.plant_book.specs.Book.{BookRecord}
use Rattle.plant_book.specs.Writes.{ends_later, live}
use Rattle.plant_book.specs.Reserved.{covering, reserved_at}
use Rattle.inverter_worker.specs.declared.output.Output.TheVariants as output
use Rattle.inverter_worker.specs.Runs.{RunStep}
use Rattle.worker_turn.specs.Agreeing.{calls_made}

-- A run has left a write: one of its calls was answered with the grant of it, and no later call of the run gives it
-- back or frees it.
pub record HasLeft (rules : Rules) (run : List RunStep) (write : writes.Write) : Type 0 where
  pub before : List Entry
  pub asked : Entry
  pub later : List Entry
  pub calls : calls_made output.Nothing run ≡ before ++ asked ∷ later
  pub granted : asked.reply ≡ reply.Granted write
  pub not_ended : ends_later rules (before ++ asked ∷ []) later write ≡ false

-- at each moment up to its last one a write is live in a book, and what is reserved for the inverter covers it
abbrev pub StaysReserved : BookRecord → (inverter : ℕ) → writes.Write → Type 0
StaysReserved book inverter write = (now : ℕ) → now ≤ last_moment book.site.rules write.at
    → Contains (live book.site.rules book.entries now inverter) write
    × (mw_at book.site inverter write.raw ≤ reserved_at book now inverter)

-- At each moment the live writes of an inverter in a book are those that are live by the calls of a run alone, and
-- what is reserved for the inverter covers just these.
pub record AreLeftBy (run : List RunStep) (book : BookRecord) (inverter : ℕ) : Type 0 where
  pub alive : (now : ℕ) → live book.site.rules book.entries now inverter
      ≡ live book.site.rules (calls_made output.Nothing run) now inverter
  pub reserved : (now : ℕ) → reserved_at book now inverter
      ≡ covering book.site inverter (live book.site.rules (calls_made output.Nothing run) now inverter)
