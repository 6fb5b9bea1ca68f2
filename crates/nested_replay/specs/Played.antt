-- What is done of the calls of a plant with buses, and how it is written.
use Rattle.std.specs.Prelude.{◌≡◌, ◌⊎◌, ℕ, ◌<◌, ◌≤◌, List, [], ◌∷◌, ◌++◌, length, codes, Option, None, Some}
use Rattle.std.specs.List.{flat_map}
use Rattle.plant_book.specs.declared.call.Call.{Call}
use Rattle.plant_book.specs.declared.call.Call.TheVariants as calls
use Rattle.plant_book.specs.declared.book.Entry.{Entry}
use Rattle.plant_book.specs.Calls.{entered}
use Rattle.plant_book.specs.Site.{SiteRecord}
use Rattle.plant_book.specs.Book.{BookRecord}
use Rattle.plant_ledger.specs.Plant.{right_reply}
use Rattle.script_text.specs.Words.{Text, Number, line_text}
use Rattle.script_text.specs.Grammar.{call_words}
use Rattle.script_text.specs.Text.{head_text, entry_text, replied_text}
use Rattle.busbars.specs.declared.bus.Bus as bus
use Rattle.busbars.specs.Caps.{HasRoomOnAll, IsFirstFull}
use Rattle.nested_replay.specs.Nested.{bus_words}

-- a call that was entered, or an Ask that a bus refused, by the bus's place and what was left on it
pub data Deed : Type 0 where
  Entered : (entry : Entry) → Deed
  Refused : (at inverter raw : ℕ) (bus left : ℕ) → Deed

-- the entry of a call behind a book: as it is entered, with the rule's reply
abbrev pub entry_for : BookRecord → Call → Entry
entry_for book call = record { call = entered book.start book.entries call; reply = right_reply book call }

abbrev pub with_call : BookRecord → Call → BookRecord
with_call book call = record {
  site = book.site;
  start = book.start;
  entries = book.entries ++ entry_for book call ∷ [];
}

-- the book has room for one more call
abbrev pub HasPlaceFor : BookRecord → Type 0
HasPlaceFor book = length book.entries < book.site.room

-- no call is done where the book is at its room
abbrev pub IsStopped : BookRecord → List Deed → Option ℕ → Type 0
IsStopped book deeds full =
    (book.site.room ≤ length book.entries) × (deeds ≡ []) × (full ≡ Some (length book.entries))

-- What is done of calls behind a book, and at how many calls the book was full, if an entry found it so. Each call is
-- entered. Before an Ask a Tick of its moment is; then the first bus that lacks the room refuses it, or it is entered.
abbrev pub Plays : List bus.Bus → BookRecord → List Call → List Deed → Option ℕ → Type 0
Plays buses book [] deeds full = (deeds ≡ []) × (full ≡ None)
Plays buses book (calls.Ask at inverter raw ∷ more) deeds full =
    IsStopped book deeds full
    ⊎ (HasPlaceFor book × (later : List Deed) × (deeds ≡ Entered (entry_for book (calls.Tick at)) ∷ later)
    × (((place left : ℕ) × (last : List Deed)
    × IsFirstFull (with_call book (calls.Tick at)) buses inverter raw place left
    × (later ≡ Refused at inverter raw place left ∷ last)
    × Plays buses (with_call book (calls.Tick at)) more last full)
    ⊎ (HasRoomOnAll (with_call book (calls.Tick at)) buses inverter raw
    × (IsStopped (with_call book (calls.Tick at)) later full
    ⊎ (HasPlaceFor (with_call book (calls.Tick at)) × (last : List Deed)
    × (later ≡ Entered (entry_for (with_call book (calls.Tick at)) (calls.Ask at inverter raw)) ∷ last)
    × Plays buses (with_call (with_call book (calls.Tick at)) (calls.Ask at inverter raw)) more last full)))))
Plays buses book (call ∷ more) deeds full =
    IsStopped book deeds full
    ⊎ (HasPlaceFor book × (later : List Deed) × (deeds ≡ Entered (entry_for book call) ∷ later)
    × Plays buses (with_call book call) more later full)

-- the entries that were made
abbrev pub entries_of : List Deed → List Entry
entries_of [] = []
entries_of (Entered entry ∷ more) = entry ∷ entries_of more
entries_of (Refused at inverter raw bus left ∷ more) = entries_of more

-- the book that they make
abbrev pub book_of : SiteRecord → ℕ → List Deed → BookRecord
book_of site start deeds = record { site = site; start = start; entries = entries_of deeds }

abbrev pub deed_text : Deed → List ℕ
deed_text (Entered entry) = entry_text entry
deed_text (Refused at inverter raw bus left) =
    replied_text (call_words (calls.Ask at inverter raw))
    (Text (codes "busfull") ∷ Number bus ∷ Number left ∷ [])

-- a bus's line: its words alone
abbrev pub bus_text : bus.Bus → List ℕ
bus_text bus = line_text (bus_words bus)

-- the lines of the buses, the head, and a line for all that was done
abbrev pub nested_text : List bus.Bus → SiteRecord → ℕ → List Deed → List ℕ
nested_text buses site start deeds =
    flat_map bus_text buses ++ head_text site start ++ flat_map deed_text deeds
