-- The lives that the lines of a script make, one line after another.
use Rattle.std.specs.Prelude.{◌≡◌, ℕ, ◌+◌, ◌<◌, List, [], ◌∷◌, ◌++◌}
use Rattle.plant_book.specs.Site.{SiteRecord}
use Rattle.plant_book.specs.Book.{BookRecord}
use Rattle.plant_book.specs.Answer.{reply_to}
use Rattle.plant_book.specs.Answered.{with_entries}
use Rattle.plant_book.specs.History.{History, IsHistory, IsCommissioned}
use Rattle.plant_book.specs.Safe.{IsSafeAlways}
use Rattle.script_text.specs.Text.{Deed, Entered, Begun, Rolled}

-- The lives so far: those that ended, the oldest first, and the one that is on, each with the entries of all its
-- books; and how many calls the current book has.
pub record Chain : Type 0 where
  pub earlier : List BookRecord
  pub life : BookRecord
  pub calls : ℕ

abbrev pub empty_life : SiteRecord → ℕ → BookRecord
empty_life site start = record { site = site; start = start; entries = [] }

abbrev pub first_chain : SiteRecord → ℕ → Chain
first_chain site start = record { earlier = []; life = empty_life site start; calls = 0 }

-- the lives with one more deed: a restart begins a life, a roll a book of the same life
abbrev pub chain_after : Chain → Deed → Chain
chain_after chain (Entered entry) = record {
  earlier = chain.earlier;
  life = with_entries chain.life (chain.life.entries ++ entry ∷ []);
  calls = chain.calls + 1;
}
chain_after chain (Begun at) = record {
  earlier = chain.earlier ++ chain.life ∷ [];
  life = empty_life chain.life.site at;
  calls = 0;
}
chain_after chain Rolled = record { earlier = chain.earlier; life = chain.life; calls = 0 }

-- the lives with these deeds, one behind the other
abbrev pub chain_behind : Chain → List Deed → Chain
chain_behind chain [] = chain
chain_behind chain (deed ∷ later) = chain_behind (chain_after chain deed) later

-- a call is entered where the current book has room for it, and its reply is the one that its life asks for
abbrev pub IsDone : Chain → Deed → Type 0
IsDone chain (Entered entry) =
    (chain.calls < chain.life.site.room) × (entry.reply ≡ reply_to chain.life entry.call)
IsDone chain (Begun at) = Unit {0}
IsDone chain Rolled = Unit {0}

abbrev pub AreDone : Chain → List Deed → Type 0
AreDone chain [] = Unit {0}
AreDone chain (deed ∷ later) = IsDone chain deed × AreDone (chain_after chain deed) later

abbrev pub history_of : Chain → History
history_of chain = record { past = []; earlier = chain.earlier; life = chain.life }

-- the lives of a plant that was commissioned are a history, safe at every moment, whatever the inverters did that
-- follow the timed device
pub record IsSafeChain (chain : Chain) : Type 0 where
  pub commissioned : IsCommissioned (history_of chain)
  pub history : IsHistory (history_of chain)
  pub safe : IsSafeAlways (history_of chain)
