-- Books whose replies are right, and what is true of every book that the ledger keeps.
use Rattle.std.specs.Prelude.{◌≡◌, ℕ, ◌<◌, ◌≤◌, ◌^◌, List, [], ◌∷◌, ◌++◌, length, IfSome}
use Rattle.plant_book.specs.declared.call.Call.{Call}
use Rattle.plant_book.specs.declared.call.Call.TheVariants as calls
use Rattle.plant_book.specs.declared.call.TheConstants.{MOMENT_MAX}
use Rattle.plant_book.specs.declared.carry.TheConstants.{CALLS_MAX}
use Rattle.plant_book.specs.declared.site.TheConstants.{INVERTERS_MAX}
use Rattle.plant_book.specs.declared.book.Entry.{Entry}
use Rattle.plant_book.specs.Site.{SiteRecord, IsSite, inverters, floors}
use Rattle.plant_book.specs.Book.{BookRecord}
use Rattle.plant_book.specs.Calls.{moment, named, latest}
use Rattle.plant_book.specs.Answer.{reply_to}

-- each of the later entries has this fact, with the entries before it
abbrev pub EachInTurn : (List Entry → Entry → Type 0) → List Entry → List Entry → Type 0
EachInTurn Fact before [] = Unit {0}
EachInTurn Fact before (entry ∷ later) = Fact before entry × EachInTurn Fact (before ++ entry ∷ []) later

-- the book with these entries alone
abbrev pub with_entries : BookRecord → List Entry → BookRecord
with_entries book entries = record { site = book.site; start = book.start; entries = entries }

-- the reply of an entry is the one that the entries before it ask for
abbrev pub IsAnswer : BookRecord → List Entry → Entry → Type 0
IsAnswer book before entry = entry.reply ≡ reply_to (with_entries book before) entry.call

-- every entry of the book has the right reply
abbrev pub IsAnswered : BookRecord → Type 0
IsAnswered book = EachInTurn (IsAnswer book) [] book.entries

-- the numbers of a call are in the ranges of what they count: 16 bits for a raw percentage and a request, 32 for a
-- link, and at most 10^14 mW for a wish and for a cap
abbrev pub IsInRange : Call → Type 0
IsInRange (calls.Link at inverter) = Unit {0}
IsInRange (calls.Ask at inverter raw) = raw ≤ 65535
IsInRange (calls.Read at inverter) = Unit {0}
IsInRange (calls.Saw at inverter number raw) = (number ≤ 65535) × (raw ≤ 65535)
IsInRange (calls.Back at inverter link number) = (link ≤ 4294967295) × (number ≤ 65535)
IsInRange (calls.Want at inverter mw) = mw ≤ 10 ^ 14
IsInRange (calls.Tick at) = Unit {0}
IsInRange (calls.Stop at) = Unit {0}
IsInRange (calls.Cap at mw) = mw ≤ 10 ^ 14

-- A call that may be entered behind these entries of a book: its moment is neither below theirs nor above the
-- greatest, its inverter is of the site, and its numbers are in range.
pub record IsNext (site : SiteRecord) (start : ℕ) (before : List Entry) (call : Call) : Type 0 where
  pub later : latest start before ≤ moment call
  pub moment_high : moment call ≤ MOMENT_MAX
  pub of_site : IfSome (named call) (λ inverter. inverter < inverters site)
  pub in_range : IsInRange call

-- a site that a ledger opens a book of: 1 to 64 inverters, whose floors sum to at most the cap
pub record IsOpenable (site : SiteRecord) : Type 0 where
  pub checked : IsSite site
  pub some : 1 ≤ inverters site
  pub few : inverters site ≤ INVERTERS_MAX
  pub floors : floors site ≤ site.cap

-- what is true of every book that the ledger keeps
pub record IsBook (book : BookRecord) : Type 0 where
  pub openable : IsOpenable book.site
  pub start_high : book.start ≤ MOMENT_MAX
  pub calls : length book.entries ≤ CALLS_MAX
  pub answered : IsAnswered book
  pub entered : EachInTurn (λ before entry. IsNext book.site book.start before entry.call) [] book.entries
