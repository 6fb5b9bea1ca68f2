-- A book with one more right entry at its end is a book again.
use Rattle.std.proofs.Common.{◌≡◌, ℕ, ◌<◌, ◌≤◌, max, List, [], ◌∷◌, ◌++◌, length, Option, refl, sym, subst, append_assoc, arith}
use Rattle.std.specs.Prelude.{IfSome}
use Rattle.std.proofs.lemmas.List.{append-nil, length_push}
use Rattle.plant_book.proofs.Steps.{latest-push}
use Rattle.plant_book.specs.declared.call.Call.{Call}
use Rattle.plant_book.specs.declared.call.Call.TheVariants as calls
use Rattle.plant_book.specs.declared.call.TheConstants.{MOMENT_MAX}
use Rattle.plant_book.specs.declared.carry.TheConstants.{CALLS_MAX}
use Rattle.plant_book.specs.declared.book.Entry.{Entry}
use Rattle.plant_book.specs.Site.{SiteRecord, inverters}
use Rattle.plant_book.specs.Book.{BookRecord}
use Rattle.plant_book.specs.Calls.{moment, at_moment, named, latest, entered}
use Rattle.plant_book.specs.Answer.{reply_to}
use Rattle.plant_book.specs.Answered.{EachInTurn, IsAnswer, IsNext, IsOpenable, IsBook, IsInRange, with_entries}

-- what each entry has with the entries before it, one more entry has behind all of them
pub EachInTurn-push : (Fact : List Entry → Entry → Type 0) (before later : List Entry) (entry : Entry) → EachInTurn Fact before later → Fact (before ++ later) entry → EachInTurn Fact before (later ++ entry ∷ [])
EachInTurn-push Fact before [] entry each fact = (subst (λ (es : List Entry). Fact es entry) (append-nil before) fact, tt)
EachInTurn-push Fact before (first ∷ later) entry each fact =
    (each.0, EachInTurn-push Fact (before ++ first ∷ []) later entry each.1 (subst (λ (es : List Entry). Fact es entry) (sym (append_assoc before (first ∷ []) later)) fact))

-- the moment, the inverter and the ranges of a call that is moved
pub moment-at_moment : (at : ℕ) (call : Call) → moment (at_moment at call) ≡ at
moment-at_moment at (calls.Link old inverter) = refl
moment-at_moment at (calls.Ask old inverter raw) = refl
moment-at_moment at (calls.Read old inverter) = refl
moment-at_moment at (calls.Saw old inverter number raw) = refl
moment-at_moment at (calls.Back old inverter link number) = refl
moment-at_moment at (calls.Want old inverter mw) = refl
moment-at_moment at (calls.Tick old) = refl
moment-at_moment at (calls.Stop old) = refl
moment-at_moment at (calls.Cap old mw) = refl

pub named-at_moment : (at : ℕ) (call : Call) → named (at_moment at call) ≡ named call
named-at_moment at (calls.Link old inverter) = refl
named-at_moment at (calls.Ask old inverter raw) = refl
named-at_moment at (calls.Read old inverter) = refl
named-at_moment at (calls.Saw old inverter number raw) = refl
named-at_moment at (calls.Back old inverter link number) = refl
named-at_moment at (calls.Want old inverter mw) = refl
named-at_moment at (calls.Tick old) = refl
named-at_moment at (calls.Stop old) = refl
named-at_moment at (calls.Cap old mw) = refl

pub IsInRange-at_moment : (at : ℕ) (call : Call) → IsInRange call → IsInRange (at_moment at call)
IsInRange-at_moment at (calls.Link old inverter) ranged = ranged
IsInRange-at_moment at (calls.Ask old inverter raw) ranged = ranged
IsInRange-at_moment at (calls.Read old inverter) ranged = ranged
IsInRange-at_moment at (calls.Saw old inverter number raw) ranged = ranged
IsInRange-at_moment at (calls.Back old inverter link number) ranged = ranged
IsInRange-at_moment at (calls.Want old inverter mw) ranged = ranged
IsInRange-at_moment at (calls.Tick old) ranged = ranged
IsInRange-at_moment at (calls.Stop old) ranged = ranged
IsInRange-at_moment at (calls.Cap old mw) ranged = ranged

-- a book with no entry is at its start
start_low : (start : ℕ) → start ≤ MOMENT_MAX → latest start [] ≤ MOMENT_MAX
unfolding latest
start_low start low = low

-- no moment of a book is above the greatest
latest_high : (site : SiteRecord) (start : ℕ) (before later : List Entry) → latest start before ≤ MOMENT_MAX → EachInTurn (λ es entry. IsNext site start es entry.call) before later → latest start (before ++ later) ≤ MOMENT_MAX
latest_high site start before [] low each = subst (λ (es : List Entry). latest start es ≤ MOMENT_MAX) (sym (append-nil before)) low
latest_high site start before (first ∷ later) low each =
    let next : latest start (before ++ first ∷ []) ≤ MOMENT_MAX = subst (λ (m : ℕ). m ≤ MOMENT_MAX) (sym (latest-push start before first)) each.0.moment_high in
    subst (λ (es : List Entry). latest start es ≤ MOMENT_MAX) (append_assoc before (first ∷ []) later) (latest_high site start (before ++ first ∷ []) later next each.1)

-- the call as it is entered may be entered
pub IsNext-entered : (book : BookRecord) (call : Call) → IsBook book → moment call ≤ MOMENT_MAX → IfSome (named call) (λ inverter. inverter < inverters book.site)
    → IsInRange call → IsNext book.site book.start book.entries (entered book.start book.entries call)
IsNext-entered book call kept high of_site in_range =
    let at = max (moment call) (latest book.start book.entries) in
    let is : moment (entered book.start book.entries call) ≡ at = moment-at_moment at call in
    let same : named (entered book.start book.entries call) ≡ named call = named-at_moment at call in
    let latest_low : latest book.start book.entries ≤ MOMENT_MAX = latest_high book.site book.start [] book.entries (start_low book.start kept.start_high) kept.entered in
    record {
      later = omega (arith, is);
      moment_high = omega (arith, is, latest_low);
      of_site = subst (λ (n : Option ℕ). IfSome n (λ inverter. inverter < inverters book.site)) (sym same) of_site;
      in_range = IsInRange-at_moment at call in_range;
    }

-- the book with one more entry
abbrev pub with_entry : BookRecord → Entry → BookRecord
with_entry book entry = with_entries book (book.entries ++ entry ∷ [])

pub IsBook-push : (book : BookRecord) (entry : Entry) → IsBook book → length book.entries < CALLS_MAX → IsNext book.site book.start book.entries entry.call → entry.reply ≡ reply_to book entry.call → IsBook (with_entry book entry)
IsBook-push book entry kept room next reply = record {
  openable = kept.openable;
  start_high = kept.start_high;
  calls = omega (arith, length_push book.entries entry);
  answered = EachInTurn-push (IsAnswer book) [] book.entries entry kept.answered reply;
  entered = EachInTurn-push (λ es e. IsNext book.site book.start es e.call) [] book.entries entry kept.entered next;
}

-- an empty book of a site that can be opened
abbrev pub empty_book : SiteRecord → ℕ → BookRecord
empty_book site start = record { site = site; start = start; entries = [] }

pub IsBook-empty : (site : SiteRecord) (start : ℕ) → IsOpenable site → start ≤ MOMENT_MAX → IsBook (empty_book site start)
IsBook-empty site start openable low = record { openable = openable; start_high = low; calls = omega arith; answered = tt; entered = tt }
