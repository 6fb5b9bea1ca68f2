-- The accounts of all inverters follow the calls.
use Rattle.std.proofs.Common.{◌≡◌, ℕ, ◌<◌, ◌≤◌, Bool, true, false, cond, ◌||◌, List, [], ◌∷◌, ◌++◌, length, get_or, map, take, drop, Option, Some, None, refl, sym, ap, subst, ◌∙◌, append_assoc, arith, inl, inr, length-set}
use Rattle.std.specs.Prelude.{IfSome, slice_get, slice_set}
use Rattle.std.specs.List.{list_any}
use Rattle.std.proofs.lemmas.Bool.{cases_Bool, cases_eq}
use Rattle.std.proofs.lemmas.List.{append-nil, length-map, get_or-map, get_or-set_same, get_or-set_other}
use Rattle.std.proofs.lemmas.List.FromFn.{get_or-map-range_with_len}
use Rattle.std.proofs.lemmas.List.Folds.{list_any-append}
use Rattle.std.proofs.lemmas.List.Sums.{count_by-le-length}
use Rattle.std.proofs.Math.Seq.{take-append_seam}
use Rattle.plant_book.specs.declared.call.Call.{Call}
use Rattle.plant_book.specs.declared.call.Call.TheVariants as calls
use Rattle.plant_book.specs.declared.call.Reply.{Reply}
use Rattle.plant_book.specs.declared.call.TheConstants.{MOMENT_MAX}
use Rattle.plant_book.specs.declared.carry.TheConstants.{CALLS_MAX}
use Rattle.plant_book.specs.declared.site.Unit.{Unit as Inverter}
use Rattle.plant_book.specs.declared.book.Entry.{Entry}
use Rattle.plant_book.specs.Site.{SiteRecord, inverters}
use Rattle.plant_book.specs.Book.{BookRecord}
use Rattle.plant_book.specs.Part.{UnitRecord, CarryRecord, PartRecord, begin_of, calls_of, last_moment_of, book_before, book_behind}
use Rattle.plant_book.specs.Writes.{live}
use Rattle.plant_book.specs.Carry.{unit_of, mark_of, carry_of, IsBehind, IsBookPart, EachBefore, EachBook}
use Rattle.plant_book.specs.declared.carry.CapMark as marks
use Rattle.plant_book.specs.Sums.{last_that}
use Rattle.plant_book.specs.Calls.{moment, named, latest}
use Rattle.plant_book.specs.Requests as counted
use Rattle.plant_book.specs.Caps.{sets_by, sets_cap, cap_by, cap_of}
use Rattle.plant_book.specs.Reserved.{now_of}
use Rattle.plant_book.specs.Answer.{stops, is_stopped}
use Rattle.plant_book.specs.Answered.{IsBook, IsNext, IsAnswer, IsOpenable, with_entries}
use Rattle.plant_book.proofs.CapInForce.{cap_of-set, cap_of-same, cap_of-empty}
use Rattle.plant_book.proofs.Behind.{carry_is, nothing_before, calls_of-is, last_moment_of-is, IsBehind-first}
use Rattle.plant_book.proofs.Inverters.{mw_at-is, floor_at-is, floor_raw_at-is, full_at-is, rated_at-is, raw_at-is}
use Rattle.plant_book.proofs.Steps.{latest-push}
use Rattle.plant_book.proofs.Growth.{IsBook-push, IsBook-empty, empty_book, with_entry}
use Rattle.uncertain_writes.proofs.Pending.{PendsOwn-answered}
use Rattle.plant_ledger.specs.Account.{Account}
use Rattle.plant_ledger.specs.Account.{IsAccount, HasRoom, first_account, after_call}
use Rattle.plant_ledger.specs.Ledger.{IsUnit, AreAccounts, IsLedger, IsLedgerOf, account_at}
use Rattle.plant_ledger.specs.Plant.{with_one, next_book, Rolls}
use Rattle.plant_ledger.proofs.Following.{own_account, other_account, later_account, first_is_account}
use Rattle.plant_ledger.proofs.Fitting.{fits_call, has_room, granted_next}
use Rattle.plant_ledger.proofs.Standing.{IsNextGrant, any_account}
use Rattle.plant_book.proofs.Few.{live_few}
use Rattle.plant_book.specs.declared.call.Write as writes
use Rattle.plant_book.specs.declared.call.Reply.TheVariants as replies

-- a list that was written through a slice of all of it
pub whole : {X : Type 0} (xs ys : List X) (len : ℕ) → length xs ≡ len → take len (xs ++ drop (length xs) ys) ≡ xs
whole xs ys len is = rw (← is) (take-append_seam xs (drop (length xs) ys))

-- at a later moment
pub later_accounts : (book : BookRecord) (now later : ℕ) (accounts : List Account) → now ≤ later → AreAccounts book now accounts
    → AreAccounts book later (map (account_at book.site.rules later) accounts)
later_accounts book now later accounts le are =
    let at : Account → Account = λ account. account_at book.site.rules later account in
    record {
      count = length-map accounts at ∙ are.count;
      each = λ inverter otherwise of_site.
          subst (λ (account : Account). IsAccount book later inverter account) (sym (get_or-map at accounts inverter otherwise otherwise (omega (arith, are.count))))
          (later_account book now later inverter (get_or accounts inverter otherwise) le (are.each inverter otherwise of_site));
    }

pub later_ledger : (book : BookRecord) (now later : ℕ) (accounts others : List Account) (cap : ℕ) (stopped : Bool) → now ≤ later → later ≤ MOMENT_MAX → others ≡ map (account_at book.site.rules later) accounts
    → IsLedger book now accounts cap stopped → IsLedger book later others cap stopped
later_ledger book now later accounts others cap stopped le high are ledger = record {
  kept = ledger.kept;
  later = omega (arith, ledger.later);
  high = high;
  of_inverters = subst (λ (all : List Account). AreAccounts book later all) (sym are) (later_accounts book now later accounts le ledger.of_inverters);
  in_force = ledger.in_force;
  stop = ledger.stop;
}

-- an entry that may stand behind those of a book
pub record MayEnter (book : BookRecord) (now : ℕ) (entry : Entry) : Type 0 where
  pub calls : length book.entries < CALLS_MAX
  pub next : IsNext book.site book.start book.entries entry.call
  pub answer : IsAnswer book book.entries entry
  pub at_once : moment entry.call ≡ now

-- how the accounts follow one more entry
pub record Follow (book : BookRecord) (entry : Entry) (accounts others : List Account) : Type 0 where
  pub follows : (inverter : ℕ) (otherwise : Account) → named entry.call ≡ Some inverter
      → others ≡ slice_set accounts inverter (after_call book.site.rules entry.call entry.reply (get_or accounts inverter otherwise))
  pub stays : named entry.call ≡ None → others ≡ accounts

module _ (book : BookRecord) (entry : Entry) (accounts others : List Account) (are : AreAccounts book (moment entry.call) accounts)
    (right : IsBook book) (answer : IsAnswer book book.entries entry) (next : IsNext book.site book.start book.entries entry.call) where
  next_named : (named_by : ℕ) → named entry.call ≡ Some named_by → named_by < inverters book.site
      → (otherwise : Account) → others ≡ slice_set accounts named_by (after_call book.site.rules entry.call entry.reply (get_or accounts named_by otherwise))
      → AreAccounts (with_entry book entry) (moment entry.call) others
  next_named named_by is within otherwise written =
      let now = moment entry.call in
      let pends = PendsOwn-answered book right.answered in
      let fits = fits_call book entry answer in
      let account = after_call book.site.rules entry.call entry.reply (get_or accounts named_by otherwise) in
      let below : named_by < length accounts = omega (arith, are.count) in
      let new = own_account book entry named_by (get_or accounts named_by otherwise) (are.each named_by otherwise within) pends answer fits is in
      subst (λ (all : List Account). AreAccounts (with_entry book entry) now all) (sym written) (record {
        count = length-set accounts named_by account ∙ are.count;
        each = λ inverter default of_site.
            elim (cases_eq inverter named_by) [
              | inl same ↦
                  subst (λ (i : ℕ). IsAccount (with_entry book entry) now i (get_or (slice_set accounts named_by account) i default)) (sym same)
                  (subst (λ (a : Account). IsAccount (with_entry book entry) now named_by a) (sym (get_or-set_same accounts named_by account default below)) new)
              | inr apart ↦
                  subst (λ (a : Account). IsAccount (with_entry book entry) now inverter a) (sym (get_or-set_other accounts named_by inverter account default apart))
                  (other_account book entry inverter (get_or accounts inverter default) (are.each inverter default of_site) pends answer fits
                  (λ its. apart (some_is inverter named_by (sym its ∙ is))))
            ];
      })
    where
      some_is : (i j : ℕ) → ◌≡◌ {A = Option ℕ} (Some i) (Some j) → i ≡ j
      some_is i j is = cc

  next_unnamed : named entry.call ≡ None → others ≡ accounts → AreAccounts (with_entry book entry) (moment entry.call) others
  next_unnamed none same =
      let pends = PendsOwn-answered book right.answered in
      let fits = fits_call book entry answer in
      subst (λ (all : List Account). AreAccounts (with_entry book entry) (moment entry.call) all) (sym same) (record {
        count = are.count;
        each = λ inverter default of_site.
            other_account book entry inverter (get_or accounts inverter default) (are.each inverter default of_site) pends answer fits (λ its. let never = sym none ∙ its in cc);
      })

next_accounts : (book : BookRecord) (entry : Entry) (accounts others : List Account) → AreAccounts book (moment entry.call) accounts
    → IsBook book → IsAnswer book book.entries entry → IsNext book.site book.start book.entries entry.call → Follow book entry accounts others
    → (who : Option ℕ) → named entry.call ≡ who → AreAccounts (with_entry book entry) (moment entry.call) others
next_accounts book entry accounts others are right answer next follow None is = next_unnamed book entry accounts others are right answer next is (follow.stays is)
next_accounts book entry accounts others are right answer next follow (Some inverter) is =
    let within : inverter < inverters book.site = subst (λ (o : Option ℕ). IfSome o (λ i. i < inverters book.site)) is next.of_site in
    let any = any_account accounts (omega (arith, within, are.count)) in
    next_named book entry accounts others are right answer next inverter is within any (follow.follows inverter any is)

or_false : (a b : Bool) → (a || (b || false)) ≡ (a || b)
or_false a true = refl
or_false a false = refl

stopped_next : (book : BookRecord) (entry : Entry) → is_stopped (with_entry book entry) ≡ (is_stopped book || stops entry.call)
unfolding is_stopped
stopped_next book entry =
    list_any-append (λ (e : Entry). stops e.call) book.entries (entry ∷ []) ∙ or_false (list_any (λ (e : Entry). stops e.call) book.entries) (stops entry.call)

-- the cap in force after one more entry
cap_next : (book : BookRecord) (entry : Entry) (cap : ℕ) → cap ≡ cap_of book → cap_of (with_entry book entry) ≡ cond (sets_cap entry) (cap_by cap entry.call) cap
cap_next book entry cap is =
    elim (cases_Bool (sets_cap entry)) [
      | inl set ↦ rw set (cap_of-set book book.entries entry set ∙ set_by entry.call entry.reply book.site.cap cap set)
      | inr other ↦ rw other (cap_of-same book book.entries entry other ∙ sym is)
    ]
  where
    set_by : (call : Call) (reply : Reply) (one other : ℕ) → sets_by call reply ≡ true → cap_by one call ≡ cap_by other call
    set_by (calls.Cap at watts) reply one other set = refl
    set_by _ reply one other set = absurd cc

-- what the ledger keeps after one more entry
pub next_ledger : (book : BookRecord) (entry : Entry) (now : ℕ) (accounts others : List Account) (cap : ℕ) (stopped : Bool) → IsLedger book now accounts cap stopped → MayEnter book now entry
    → Follow book entry accounts others → (in_force : ℕ) (after : Bool) → in_force ≡ cond (sets_cap entry) (cap_by cap entry.call) cap → after ≡ (stopped || stops entry.call)
    → IsLedger (with_entry book entry) now others in_force after
unfolding now_of
next_ledger book entry now accounts others cap stopped ledger may follow in_force after set stop = record {
  kept = IsBook-push book entry ledger.kept may.calls may.next may.answer;
  later = omega (arith, latest-push book.start book.entries entry, may.at_once);
  high = ledger.high;
  of_inverters = subst (λ (at : ℕ). AreAccounts (with_entry book entry) at others) may.at_once
      (next_accounts book entry accounts others (subst (λ (at : ℕ). AreAccounts book at accounts) (sym may.at_once) ledger.of_inverters) ledger.kept may.answer may.next follow (named entry.call) refl);
  in_force = set ∙ sym (cap_next book entry cap ledger.in_force);
  stop = stop ∙ ap (λ (b : Bool). b || stops entry.call) ledger.stop ∙ sym (stopped_next book entry);
}

-- no account has had as many links as a number of them can count
pub few_links : (book : BookRecord) (now inverter : ℕ) (account : Account) → length book.entries < CALLS_MAX → IsAccount book now inverter account → account.link < 4294967295
unfolding counted.link_number
few_links book now inverter account fewer its =
    omega (arith, its.link, count_by-le-length (counted.is_link inverter) book.entries, fewer)

module _ (book : BookRecord) (entry : Entry) (now : ℕ) (accounts : List Account) (cap : ℕ) (stopped : Bool) (ledger : IsLedger book now accounts cap stopped)
    (may : MayEnter book now entry) (inverter : ℕ) (otherwise : Account) (is : named entry.call ≡ Some inverter) where
  within : inverter < inverters book.site
  within = subst (λ (o : Option ℕ). IfSome o (λ i. i < inverters book.site)) is may.next.of_site

  pub links_left : (get_or accounts inverter otherwise).link < 4294967295
  links_left = few_links book now inverter (get_or accounts inverter otherwise) may.calls (ledger.of_inverters.each inverter otherwise within)

  pub room_left : HasRoom entry.reply (get_or accounts inverter otherwise)
  room_left = has_room book entry now inverter (get_or accounts inverter otherwise) (ledger.of_inverters.each inverter otherwise within) is may.at_once ledger.high may.answer

  pub next_left : (write : writes.Write) → entry.reply ≡ replies.Granted write → IsNextGrant now write (get_or accounts inverter otherwise)
  next_left write grants = granted_next book entry now inverter (get_or accounts inverter otherwise) write (ledger.of_inverters.each inverter otherwise within) is may.at_once may.answer grants

-- no account has more than so many live writes
pub few_live : (book : BookRecord) (now : ℕ) (accounts : List Account) (cap : ℕ) (stopped : Bool) → IsLedger book now accounts cap stopped
    → (inverter : ℕ) (otherwise : Account) → inverter < length accounts → length (get_or accounts inverter otherwise).live ≤ 32
few_live book now accounts cap stopped ledger inverter otherwise within =
    let its = ledger.of_inverters.each inverter otherwise (omega (arith, within, ledger.of_inverters.count)) in
    omega (arith, ap (λ (ws : List writes.Write). length ws) its.live, live_few book ledger.kept now inverter ledger.later)

-- what the ledger keeps of a book without entries
pub first_ledger : (site : SiteRecord) (start : ℕ) → IsOpenable site → start ≤ MOMENT_MAX → IsLedger (empty_book site start) start (map first_account site.units) site.cap false
unfolding now_of latest is_stopped
first_ledger site start openable low = record {
  kept = IsBook-empty site start openable low;
  later = omega arith;
  high = low;
  of_inverters = record {
    count = length-map site.units first_account;
    each = λ inverter otherwise of_site. first_is_account site start inverter otherwise of_site;
  };
  in_force = sym (cap_of-empty (empty_book site start));
  stop = refl;
}

-- the numbers of an inverter's unit
pub numbers_of : (site : SiteRecord) (inverter : ℕ) (unit : Inverter) → slice_get site.units inverter ≡ Some unit → IsUnit site inverter unit
numbers_of site inverter unit is = record {
  floor = floor_at-is site inverter unit is;
  floor_raw = floor_raw_at-is site inverter unit is;
  full = full_at-is site inverter unit is;
  rated = rated_at-is site inverter unit is;
  mw = mw_at-is site inverter unit is;
  raw = raw_at-is site inverter unit is;
}

-- a part with one more entry is behind the same entries as without it
pub without_one : (before : List Entry) (part : PartRecord) (entry : Entry) → IsBehind before (with_one part entry) → IsBehind before part
without_one before part entry is =
    subst (λ (es : List Entry). IsBehind before (record { site = part.site; start = part.start; carry = part.carry; entries = es }))
    (take-append_seam part.entries (entry ∷ [])) (IsBehind-first (with_one part entry) before (length part.entries) is)

-- what the ledger keeps of the lives that go on in a book: at a later moment, and after one more entry
pub later_of : (part : PartRecord) (now later : ℕ) (accounts others : List Account) (cap : ℕ) (stopped : Bool) → now ≤ later → later ≤ MOMENT_MAX
    → others ≡ map (account_at part.site.rules later) accounts → IsLedgerOf part now accounts cap stopped → IsLedgerOf part later others cap stopped
later_of part now later accounts others cap stopped le high are ledger = record {
  of_life = ledger.of_life;
  later = omega (arith, ledger.later);
  high = high;
  count = ap (λ (all : List Account). length all) are ∙ length-map accounts (account_at part.site.rules later) ∙ ledger.count;
  each = λ before is. later_ledger (book_behind before part) now later accounts others cap stopped le high are (ledger.each before is);
}

-- an entry that may stand behind those of a part
pub record MayFollow (part : PartRecord) (now : ℕ) (entry : Entry) : Type 0 where
  pub calls : calls_of part < CALLS_MAX
  pub next : IsNext part.site (begin_of part) part.entries entry.call
  pub answer : EachBefore part (λ before. IsAnswer (book_behind before part) (before ++ part.entries) entry)
  pub at_once : moment entry.call ≡ now

pub may_enter : (part : PartRecord) (now : ℕ) (entry : Entry) (before : List Entry) → MayFollow part now entry → IsBehind before part → MayEnter (book_behind before part) now entry
unfolding now_of
may_enter part now entry before may is = record {
  calls = omega (arith, may.calls, calls_of-is part before is);
  next = record { later = omega (arith, may.next.later, last_moment_of-is part before is); moment_high = may.next.moment_high; of_site = may.next.of_site; in_range = may.next.in_range };
  answer = may.answer before is;
  at_once = may.at_once;
}

pub next_of : (part : PartRecord) (entry : Entry) (now : ℕ) (accounts others : List Account) (cap : ℕ) (stopped : Bool) → IsLedgerOf part now accounts cap stopped → MayFollow part now entry
    → length others ≡ length accounts → ((before : List Entry) → Follow (book_behind before part) entry accounts others) → (in_force : ℕ) (after : Bool)
    → in_force ≡ cond (sets_cap entry) (cap_by cap entry.call) cap → after ≡ (stopped || stops entry.call) → IsLedgerOf (with_one part entry) now others in_force after
next_of part entry now accounts others cap stopped ledger may count follow in_force after set stop =
    let through : (before : List Entry) → (before ++ part.entries) ++ entry ∷ [] ≡ before ++ (part.entries ++ entry ∷ []) = λ before. append_assoc before part.entries (entry ∷ []) in
    let step : (before : List Entry) → IsBehind before part → IsLedger (with_entry (book_behind before part) entry) now others in_force after =
    λ before is. next_ledger (book_behind before part) entry now accounts others cap stopped (ledger.each before is) (may_enter part now entry before may is) (follow before) in_force after set stop in
    let first = ledger.of_life.before in
    let behind = ledger.of_life.behind in
    record {
      of_life = record { before = first; behind = record { carry = behind.carry; book = subst (λ (es : List Entry). IsBook (with_entries (book_behind first part) es)) (through first) (step first behind).kept } };
      later = omega (arith, latest-push (begin_of part) part.entries entry, may.at_once);
      high = ledger.high;
      count = count ∙ ledger.count;
      each = λ before is. subst (λ (es : List Entry). IsLedger (with_entries (book_behind before part) es) now others in_force after) (through before) (step before (without_one before part entry is));
    }

-- what the ledger keeps of a life without calls
pub first_of : (site : SiteRecord) (start : ℕ) → IsOpenable site → start ≤ MOMENT_MAX
    → IsLedgerOf (record { site = site; start = start; carry = None; entries = [] }) start (map first_account site.units) site.cap false
unfolding latest
first_of site start openable low = record {
  of_life = record { before = []; behind = record { carry = refl; book = IsBook-empty site start openable low } };
  later = omega arith;
  high = low;
  count = length-map site.units first_account;
  each = λ before is.
      let none = nothing_before (record { site = site; start = start; carry = None; entries = [] }) before is refl in
      subst (λ (es : List Entry). IsLedger (record { site = site; start = start; entries = es ++ [] }) start (map first_account site.units) site.cap false) (sym none) (first_ledger site start openable low);
}

-- A book that leaves the same has the same numbers.
module _ (whole other : BookRecord) (sites : other.site ≡ whole.site) (carries : carry_of whole ≡ carry_of other) where
  same_unit : (inverter : ℕ) → inverter < inverters whole.site → unit_of whole inverter ≡ unit_of other inverter
  same_unit inverter of_site =
      let units = ap (λ (carry : CarryRecord). get_or carry.units inverter (unit_of whole inverter)) carries in
      sym (get_or-map-range_with_len (unit_of whole) 0 (inverters whole.site) inverter inverter (unit_of whole inverter) of_site (omega arith))
      ∙ units
      ∙ get_or-map-range_with_len (unit_of other) 0 (inverters other.site) inverter inverter (unit_of whole inverter) (omega (arith, of_site, ap (λ (site : SiteRecord). inverters site) sites)) (omega arith)

  same_account : (now inverter : ℕ) (account : Account) → now ≡ now_of whole → inverter < inverters whole.site → IsAccount whole now inverter account → IsAccount other now inverter account
  same_account now inverter account last of_site its =
      let same = same_unit inverter of_site in
      let at : now_of other ≡ now = sym (last ∙ ap (λ (carry : CarryRecord). carry.last) carries) in
      record {
        unit = ap (λ (site : SiteRecord). slice_get site.units inverter) sites ∙ its.unit;
        link = its.link ∙ ap (λ (unit : UnitRecord). unit.link) same;
        requests = its.requests ∙ ap (λ (unit : UnitRecord). unit.sent) same;
        pending = its.pending ∙ ap (λ (unit : UnitRecord). unit.pending) same;
        strange = its.strange ∙ ap (λ (unit : UnitRecord). unit.strange) same;
        wish = its.wish ∙ ap (λ (unit : UnitRecord). unit.wish) same;
        live = its.live ∙ ap (λ (n : ℕ). live whole.site.rules whole.entries n inverter) last ∙ ap (λ (unit : UnitRecord). unit.writes) same ∙ ap (λ (n : ℕ). live other.site.rules other.entries n inverter) at;
      }

  same_ledger : (now : ℕ) (accounts : List Account) (cap : ℕ) (stopped : Bool) → now ≡ now_of whole → IsBook other → IsLedger whole now accounts cap stopped → IsLedger other now accounts cap stopped
  same_ledger now accounts cap stopped last kept ledger = record {
    kept = kept;
    later = omega (arith, last, ap (λ (carry : CarryRecord). carry.last) carries);
    high = ledger.high;
    of_inverters = record {
      count = ledger.of_inverters.count ∙ sym (ap (λ (site : SiteRecord). inverters site) sites);
      each = λ inverter otherwise of_site.
          let within : inverter < inverters whole.site = omega (arith, of_site, ap (λ (site : SiteRecord). inverters site) sites) in
          same_account now inverter (get_or accounts inverter otherwise) last within (ledger.of_inverters.each inverter otherwise within);
    };
    in_force = ledger.in_force ∙ ap (λ (carry : CarryRecord). carry.cap) carries;
    stop = ledger.stop ∙ ap (λ (carry : CarryRecord). carry.stop) carries;
  }

-- the same numbers are kept over a roll
pub rolled_of : (part next : PartRecord) (now : ℕ) (accounts : List Account) (cap : ℕ) (stopped : Bool) → IsLedgerOf part now accounts cap stopped → now ≡ last_moment_of part
    → EachBefore part (λ before. Rolls before part next) → IsLedgerOf next now accounts cap stopped × (now ≡ last_moment_of next)
unfolding latest
rolled_of part next now accounts cap stopped ledger last rolls =
    let first = ledger.of_life.before in
    let behind = ledger.of_life.behind in
    let whole = book_behind first part in
    let roll = rolls first behind in
    let made = next_book first part in
    let at : now ≡ now_of whole = last ∙ last_moment_of-is part first behind in
    subst (λ (book : PartRecord). IsLedgerOf book now accounts cap stopped × (now ≡ last_moment_of book)) (sym roll.begins) (
      record {
        of_life = record { before = first ++ part.entries; behind = subst (IsBehind (first ++ part.entries)) roll.begins roll.answered };
        later = omega (arith, at);
        high = ledger.high;
        count = ledger.count;
        each = λ before is.
            let other = book_before before made in
            let all : before ++ [] ≡ before = append-nil before in
            let kept : IsBook other = subst (λ (es : List Entry). IsBook (with_entries whole es)) all is.book in
            subst (λ (es : List Entry). IsLedger (with_entries whole es) now accounts cap stopped) (sym all)
            (same_ledger whole other refl (carry_is made before (carry_of whole) is refl) now accounts cap stopped at kept (ledger.each first behind));
      },
      at,
    )

-- so is the mark of the last Cap
pub rolled_mark : (part next : PartRecord) (mark : Option marks.CapMark) → IsBookPart part → EachBefore part (λ before. Rolls before part next)
    → EachBook part (λ whole. mark ≡ mark_of whole) → EachBook next (λ whole. mark ≡ mark_of whole)
rolled_mark part next mark kept rolls is_mark =
    let first = kept.before in
    let whole = book_behind first part in
    let made = next_book first part in
    subst (λ (book : PartRecord). EachBook book (λ other. mark ≡ mark_of other)) (sym (rolls first kept.behind).begins)
    (λ before is.
    is_mark first kept.behind
    ∙ ap (λ (carry : CarryRecord). carry.set) (carry_is made before (carry_of whole) is refl)
    ∙ sym (ap (λ (es : List Entry). mark_of (with_entries whole es)) (append-nil before)))

-- a life without calls has none
pub first_mark : (site : SiteRecord) (start : ℕ) (mark : Option marks.CapMark) → mark ≡ None
    → EachBook (record { site = site; start = start; carry = None; entries = [] }) (λ whole. mark ≡ mark_of whole)
unfolding last_that
first_mark site start mark is before behind =
    let none = nothing_before (record { site = site; start = start; carry = None; entries = [] }) before behind refl in
    is ∙ subst (λ (es : List Entry). ◌≡◌ {A = Option marks.CapMark} None (mark_of (record { site = site; start = start; entries = es ++ [] }))) (sym none) refl
