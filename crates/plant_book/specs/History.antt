-- What was granted and seen over the lives of a plant. A restart ends a life: its book is closed, and an empty
-- one begins, at the site's cap, while what was sent in it may still act.
use Rattle.std.specs.Prelude.{◌≡◌, ℕ, ◌+◌, ◌≤◌, Bool, false, not, ◌&&◌, ◌||◌, ◌==◌, nat_lt, if◌then◌else◌}
use Rattle.std.specs.Prelude.{List, [], ◌∷◌, ◌++◌, map, filter, Option, Some, None}
use Rattle.std.specs.List.{AllByRecursion, list_any}
use Rattle.plant_book.specs.declared.call.Call.{Call}
use Rattle.plant_book.specs.declared.call.Call.TheVariants as calls
use Rattle.plant_book.specs.declared.call.Reply.{Reply}
use Rattle.plant_book.specs.declared.call.Write as writes
use Rattle.plant_book.specs.declared.call.Read as reads
use Rattle.plant_book.specs.declared.book.Entry.{Entry}
use Rattle.plant_book.specs.Sums.{sum_below}
use Rattle.plant_book.specs.Site.{SiteRecord, inverters}
use Rattle.plant_book.specs.Book.{BookRecord}
use Rattle.plant_book.specs.Requests.{is_seen, pending_read}
use Rattle.plant_book.specs.Writes.{grant_of, is_taken, is_numbered}
use Rattle.plant_book.specs.Reserved.{covering, now_of}
use Rattle.plant_book.specs.Answered.{IsBook}

-- A plant's past writes, from before its first life, then its ended lives, the oldest first, and its last
-- life.
pub record History : Type 0 where
  pub past : List writes.Write
  pub earlier : List BookRecord
  pub life : BookRecord

abbrev pub lives : History → List BookRecord
lives history = history.earlier ++ history.life ∷ []

-- a write that may act: a past one, whose life is 0, or a grant, by its life from 1 on and its place in that
-- life's book
pub record Grant : Type 0 where
  pub life : ℕ
  pub place : ℕ
  pub write : writes.Write

-- a read that was answered: by the life and the place of the Saw, with the raw percentage and the moment of
-- the Saw
pub record Sight : Type 0 where
  pub life : ℕ
  pub place : ℕ
  pub read : reads.Read
  pub raw : ℕ
  pub at : ℕ

-- the past writes, each by its place among them
abbrev pub past_grants : ℕ → List writes.Write → List Grant
past_grants place [] = []
past_grants place (write ∷ past) = record { life = 0; place = place; write = write } ∷ past_grants
    (place + 1) past

abbrev pub gives_back : Call → Reply → writes.Write → Bool
gives_back (calls.Back at inverter link number) reply write = is_taken reply
    && is_numbered inverter link number write
gives_back _ reply write = false

-- whether one of these entries gives the write back
abbrev pub is_given_back : List Entry → writes.Write → Bool
is_given_back later write = list_any (λ entry. gives_back entry.call entry.reply write) later

-- the grants of a life's entries, from a place on, that no later entry gives back
abbrev pub life_grants : ℕ → ℕ → List Entry → List Grant
life_grants life place [] = []
life_grants life place (entry ∷ later) =
    map (λ write. record { life = life; place = place; write = write }) (filter (λ write. not
    (is_given_back later write)) (grant_of entry))
    ++ life_grants life (place + 1) later

abbrev pub lives_grants : ℕ → List BookRecord → List Grant
lives_grants life [] = []
lives_grants life (book ∷ books) = life_grants life 0 book.entries ++ lives_grants (life + 1) books

-- every write that may act: past, or granted and not given back
abbrev pub grants : History → List Grant
grants history = past_grants 0 history.past ++ lives_grants 1 (lives history)

abbrev pub sight_of : ℕ → ℕ → Option reads.Read → ℕ → ℕ → List Sight
sight_of life place None raw at = []
sight_of life place (Some read) raw at = record { life = life; place = place; read = read; raw = raw; at = at } ∷ []

abbrev pub sight_by : ℕ → ℕ → List Entry → Call → Reply → List Sight
sight_by life place before (calls.Saw at inverter number raw) reply = if is_seen reply
    then sight_of life place (pending_read inverter before) raw at else []
sight_by life place before _ reply = []

-- the answered reads of a life's later entries, behind those before them
abbrev pub life_sights : ℕ → ℕ → List Entry → List Entry → List Sight
life_sights life place before [] = []
life_sights life place before (entry ∷ later) = sight_by life place before entry.call entry.reply
    ++ life_sights life (place + 1) (before ++ entry ∷ []) later

abbrev pub lives_sights : ℕ → List BookRecord → List Sight
lives_sights life [] = []
lives_sights life (book ∷ books) = life_sights life 0 [] book.entries ++ lives_sights (life + 1) books

-- every answered read: one with a Saw answered Freed or Strange
abbrev pub sights : History → List Sight
sights history = lives_sights 1 (lives history)

-- whether a write was granted after the Saw of an answered read
abbrev pub is_granted_after : Sight → Grant → Bool
is_granted_after sight grant = nat_lt sight.life grant.life || (sight.life == grant.life)
    && nat_lt sight.place grant.place

-- The link of a write, by its life and its number there. Each past write is on a link of its own.
abbrev pub link_of_grant : Grant → ℕ × ℕ
link_of_grant grant = if grant.life == 0 then (0, grant.place) else (grant.life, grant.write.link)

abbrev pub link_of_sight : Sight → ℕ × ℕ
link_of_sight sight = (sight.life, sight.read.link)

-- no life begins before the last moment of the one before it
abbrev pub InTurn : List BookRecord → Type 0
InTurn [] = Unit {0}
InTurn (book ∷ []) = Unit {0}
InTurn (book ∷ next ∷ books) = (now_of book ≤ next.start) × InTurn (next ∷ books)

-- the moment at which the first life begins
abbrev pub first_start : List BookRecord → ℕ → ℕ
first_start [] otherwise = otherwise
first_start (book ∷ books) otherwise = book.start

-- the past fits: its writes and the floors, the greatest of each inverter, sum to at most the site's cap
abbrev pub Fits : SiteRecord → List writes.Write → Type 0
Fits site past = sum_below (inverters site) (λ inverter. covering site inverter (filter
    (λ write. write.inverter == inverter) past)) ≤ site.cap

-- what is true of every history
pub record IsHistory (history : History) : Type 0 where
  pub books : AllByRecursion IsBook (lives history)
  pub one_site : AllByRecursion (λ book. book.site ≡ history.life.site) (lives history)
  pub in_turn : InTurn (lives history)
  pub before : AllByRecursion (λ write. write.at ≤ first_start
      (lives history) history.life.start) history.past
  pub fits : Fits history.life.site history.past

-- a past that a life of this site, begun at this moment, may follow: no write of it is later, and it fits
pub record IsPast (site : SiteRecord) (start : ℕ) (past : List writes.Write) : Type 0 where
  pub before : AllByRecursion (λ write. write.at ≤ start) past
  pub fits : Fits site past

-- one life behind a past, which is still on
abbrev pub life_after : List writes.Write → BookRecord → History
life_after past book = record { past = past; earlier = []; life = book }

-- a plant whose first life began with every inverter at its floor
abbrev pub IsCommissioned : History → Type 0
IsCommissioned history = history.past ≡ []
