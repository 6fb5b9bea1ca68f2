-- An inverter's account follows the calls.
use Rattle.std.proofs.Common.{◌≡◌, ℕ, ◌+◌, ◌<◌, ◌≤◌, Bool, true, false, cond, eqb, [], ◌∷◌, ◌++◌, get_or, map, Option, Some, None, refl, sym, ap, subst, ◌∙◌, arith, inl, inr}
use Rattle.std.specs.Prelude.{is_some, unwrap_or, slice_get}
use Rattle.std.proofs.lemmas.Bool.{cases_Bool, eq-eqb, ne_eqb}
use Rattle.std.proofs.lemmas.List.{get_or-map}
use Rattle.std.proofs.lemmas.Option.{slice_get_cases}
use Rattle.limiter_num.specs.declared.rules.Rules.{Rules}
use Rattle.plant_book.specs.declared.call.Call.{Call}
use Rattle.plant_book.specs.declared.call.Call.TheVariants as calls
use Rattle.plant_book.specs.declared.call.Reply.{Reply}
use Rattle.plant_book.specs.declared.call.Reply.TheVariants as replies
use Rattle.plant_book.specs.declared.call.Read as reads
use Rattle.plant_book.specs.declared.book.Entry.{Entry}
use Rattle.plant_book.specs.Sums.{last_that}
use Rattle.plant_book.specs.declared.site.Unit.{Unit as Inverter}
use Rattle.plant_book.specs.Site.{SiteRecord, inverters, rated_at}
use Rattle.plant_book.specs.Book.{BookRecord}
use Rattle.plant_book.specs.Calls.{moment, named}
use Rattle.plant_book.specs.Requests as counted
use Rattle.plant_book.specs.Policy as rule
use Rattle.plant_book.specs.Writes.{live}
use Rattle.plant_book.specs.Answered.{IsAnswer, with_entries}
use Rattle.plant_book.proofs.Inverters.{rated_at-is}
use Rattle.plant_book.proofs.Steps.{count_by-push, requests-push_link, requests-push, last_that-push}
use Rattle.uncertain_writes.specs.Live.{is_past, without}
use Rattle.uncertain_writes.specs.Calls.{after_reply}
use Rattle.uncertain_writes.proofs.Pending.{PendsOwn, pending-push}
use Rattle.uncertain_writes.proofs.Entries.{live-later, live-entry, no_live}
use Rattle.plant_ledger.specs.Account.{Account}
use Rattle.plant_ledger.specs.Account.{IsAccount, IsReplyTo, first_account, after_ask, after_read, after_saw, after_back, after_call}
use Rattle.plant_ledger.specs.Ledger.{account_at}

-- the account after one more entry, by the tests of the definitions
abbrev after_entry : Rules → ℕ → Entry → Account → Account
after_entry rules inverter entry account = record {
  unit = account.unit;
  link = cond (counted.is_link inverter entry) (account.link + 1) account.link;
  requests = cond (counted.is_link inverter entry) 0 (cond (counted.is_request inverter entry) (account.requests + 1) account.requests);
  pending = cond (counted.changes_pending inverter entry) (counted.read_of entry.reply) account.pending;
  strange = cond (rule.is_sight inverter entry) (rule.tells_strange entry.reply) account.strange;
  wish = unwrap_or (rule.wish_by inverter entry.call) account.wish;
  live = after_reply rules inverter account.pending entry.call entry.reply account.live;
}

counts_more : (count : ℕ) (b : Bool) → count + cond b 1 0 ≡ cond b (count + 1) count
counts_more count true = refl
counts_more count false = omega arith

strange_more : (b : Bool) (entry : Entry) (last : Option Entry) → rule.strange_after (cond b (Some entry) last) ≡ cond b (rule.tells_strange entry.reply) (rule.strange_after last)
strange_more true entry last = refl
strange_more false entry last = refl

wish_more : (otherwise inverter : ℕ) (entry : Entry) (last : Option Entry) (wished : Option ℕ) → rule.wish_by inverter entry.call ≡ wished
    → rule.wish_after otherwise inverter (cond (is_some wished) (Some entry) last) ≡ unwrap_or wished (rule.wish_after otherwise inverter last)
wish_more otherwise inverter entry last None is = refl
wish_more otherwise inverter entry last (Some mw) is = ap (λ (w : Option ℕ). unwrap_or w otherwise) is

module _ (book : BookRecord) (entry : Entry) (inverter : ℕ) (account : Account) (its : IsAccount book (moment entry.call) inverter account) where
  link_next : counted.link_number inverter (book.entries ++ entry ∷ []) ≡ cond (counted.is_link inverter entry) (account.link + 1) account.link
  unfolding counted.link_number
  link_next = count_by-push (counted.is_link inverter) book.entries entry ∙ ap (λ (n : ℕ). n + cond (counted.is_link inverter entry) 1 0) (sym its.link) ∙ counts_more account.link (counted.is_link inverter entry)

  requests_next : counted.requests inverter (book.entries ++ entry ∷ [])
      ≡ cond (counted.is_link inverter entry) 0 (cond (counted.is_request inverter entry) (account.requests + 1) account.requests)
  requests_next =
      elim (cases_Bool (counted.is_link inverter entry)) [
        | inl link ↦ rw link (requests-push_link inverter book.entries entry link)
        | inr other ↦ rw other (requests-push inverter book.entries entry other ∙ ap (λ (n : ℕ). n + cond (counted.is_request inverter entry) 1 0) (sym its.requests) ∙ counts_more account.requests (counted.is_request inverter entry))
      ]

  strange_next : rule.is_strange inverter (book.entries ++ entry ∷ []) ≡ cond (rule.is_sight inverter entry) (rule.tells_strange entry.reply) account.strange
  unfolding rule.is_strange
  strange_next =
      ap rule.strange_after (last_that-push (rule.is_sight inverter) book.entries entry)
      ∙ strange_more (rule.is_sight inverter entry) entry (last_that (rule.is_sight inverter) book.entries)
      ∙ ap (cond (rule.is_sight inverter entry) (rule.tells_strange entry.reply)) (sym its.strange)

  wish_next : rule.wish (with_entries book (book.entries ++ entry ∷ [])) inverter ≡ unwrap_or (rule.wish_by inverter entry.call) account.wish
  unfolding rule.wish
  wish_next =
      let rated = rated_at book.site inverter in
      let last = last_that (rule.is_want inverter) book.entries in
      ap (rule.wish_after rated inverter) (last_that-push (rule.is_want inverter) book.entries entry)
      ∙ wish_more rated inverter entry last (rule.wish_by inverter entry.call) refl
      ∙ ap (unwrap_or (rule.wish_by inverter entry.call)) (sym its.wish)

  live_next : PendsOwn book.entries → IsAnswer book book.entries entry
      → live book.site.rules (book.entries ++ entry ∷ []) (moment entry.call) inverter
      ≡ after_reply book.site.rules inverter account.pending entry.call entry.reply account.live
  live_next pends answer =
      let rules = book.site.rules in
      let at = moment entry.call in
      live-entry book book.entries entry at inverter pends answer (omega arith)
      ∙ ap (after_reply rules inverter (counted.pending_read inverter book.entries) entry.call entry.reply) (sym (live-later rules book.entries at at inverter (omega arith)) ∙ sym its.live)
      ∙ ap (λ (pending : Option reads.Read). after_reply rules inverter pending entry.call entry.reply account.live) (sym its.pending)

  next_account : PendsOwn book.entries → IsAnswer book book.entries entry
      → IsAccount (with_entries book (book.entries ++ entry ∷ [])) (moment entry.call) inverter (after_entry book.site.rules inverter entry account)
  next_account pends answer = record {
    unit = its.unit;
    link = sym link_next;
    requests = sym requests_next;
    pending = sym (pending-push inverter book.entries entry ∙ ap (cond (counted.changes_pending inverter entry) (counted.read_of entry.reply)) (sym its.pending));
    strange = sym strange_next;
    wish = sym wish_next;
    live = sym (live_next pends answer);
  }

-- for a call of the inverter that is what the code does
own_link : (reply : Reply) → IsReplyTo (calls.Link 0 0) reply → counted.read_of reply ≡ None
own_link (replies.Granted write) is = absurd is
own_link (replies.ReadAs read) is = absurd is
own_link _ is = refl

module _ (rules : Rules) (inverter other at : ℕ) (account : Account) (own : eqb other inverter ≡ true) where
  own_ask : (raw : ℕ) (reply : Reply) → IsReplyTo (calls.Ask at other raw) reply
      → after_entry rules inverter (record { call = calls.Ask at other raw; reply = reply }) account ≡ after_ask reply account
  own_ask raw (replies.Granted write) is =
      let its : eqb write.inverter inverter ≡ true = ap (λ (i : ℕ). eqb i inverter) is ∙ own in
      rw (own, its) refl
  own_ask raw (replies.ReadAs read) is = absurd is
  own_ask raw _ is = refl

  own_read : (reply : Reply) → IsReplyTo (calls.Read at other) reply
      → after_entry rules inverter (record { call = calls.Read at other; reply = reply }) account ≡ after_read reply account
  own_read (replies.Granted write) is = absurd is
  own_read (replies.ReadAs read) is =
      let its : eqb read.inverter inverter ≡ true = ap (λ (i : ℕ). eqb i inverter) is ∙ own in
      rw its refl
  own_read _ is = refl

  own_saw : (number raw : ℕ) (reply : Reply) → IsReplyTo (calls.Saw at other number raw) reply
      → after_entry rules inverter (record { call = calls.Saw at other number raw; reply = reply }) account ≡ after_saw rules raw reply account
  own_saw number raw (replies.Granted write) is = absurd is
  own_saw number raw (replies.ReadAs read) is = absurd is
  own_saw number raw (replies.Freed count reserved) is = rw own refl
  own_saw number raw (replies.Strange seen) is = rw own refl
  own_saw number raw _ is = rw own refl

  own_back : (link number : ℕ) (reply : Reply) → IsReplyTo (calls.Back at other link number) reply
      → after_entry rules inverter (record { call = calls.Back at other link number; reply = reply }) account ≡ after_back link number reply account
  own_back link number (replies.Granted write) is = absurd is
  own_back link number (replies.ReadAs read) is = absurd is
  own_back link number replies.Taken is = rw own refl
  own_back link number _ is = refl

some_number : (i j : ℕ) → ◌≡◌ {A = Option ℕ} (Some i) (Some j) → eqb i j ≡ true
some_number i j is = eq-eqb i j (let same : i ≡ j = cc in same)

own_call : (rules : Rules) (inverter : ℕ) (account : Account) (call : Call) (reply : Reply) → named call ≡ Some inverter → IsReplyTo call reply
    → after_entry rules inverter (record { call = call; reply = reply }) account ≡ after_call rules call reply account
own_call rules inverter account (calls.Link at other) reply is fits = rw (some_number other inverter is, own_link reply fits) refl
own_call rules inverter account (calls.Ask at other raw) reply is fits = own_ask rules inverter other at account (some_number other inverter is) raw reply fits
own_call rules inverter account (calls.Read at other) reply is fits = own_read rules inverter other at account (some_number other inverter is) reply fits
own_call rules inverter account (calls.Saw at other number raw) reply is fits = own_saw rules inverter other at account (some_number other inverter is) number raw reply fits
own_call rules inverter account (calls.Back at other link number) reply is fits = own_back rules inverter other at account (some_number other inverter is) link number reply fits
own_call rules inverter account (calls.Want at other mw) reply is fits = own_want reply fits (some_number other inverter is)
  where
    own_want : (r : Reply) → IsReplyTo (calls.Want at other mw) r → eqb other inverter ≡ true
        → after_entry rules inverter (record { call = calls.Want at other mw; reply = r }) account ≡ record account { wish = mw }
    own_want (replies.Granted write) is own = absurd is
    own_want (replies.ReadAs read) is own = absurd is
    own_want _ is own = rw own refl
own_call rules inverter account (calls.Tick at) reply is fits = absurd cc
own_call rules inverter account (calls.Stop at) reply is fits = absurd cc
own_call rules inverter account (calls.Cap at mw) reply is fits = absurd cc

-- for a call that doesn't name the inverter nothing changes
module _ (rules : Rules) (inverter other at : ℕ) (account : Account) (apart : eqb other inverter ≡ false) where
  other_ask : (raw : ℕ) (reply : Reply) → IsReplyTo (calls.Ask at other raw) reply
      → after_entry rules inverter (record { call = calls.Ask at other raw; reply = reply }) account ≡ account
  other_ask raw (replies.Granted write) is =
      let its : eqb write.inverter inverter ≡ false = ap (λ (i : ℕ). eqb i inverter) is ∙ apart in
      rw (apart, its) refl
  other_ask raw (replies.ReadAs read) is = absurd is
  other_ask raw _ is = refl

  other_read : (reply : Reply) → IsReplyTo (calls.Read at other) reply
      → after_entry rules inverter (record { call = calls.Read at other; reply = reply }) account ≡ account
  other_read (replies.Granted write) is = absurd is
  other_read (replies.ReadAs read) is =
      let its : eqb read.inverter inverter ≡ false = ap (λ (i : ℕ). eqb i inverter) is ∙ apart in
      rw its refl
  other_read _ is = refl

  other_link : (reply : Reply) → IsReplyTo (calls.Link at other) reply
      → after_entry rules inverter (record { call = calls.Link at other; reply = reply }) account ≡ account
  other_link (replies.Granted write) is = absurd is
  other_link (replies.ReadAs read) is = absurd is
  other_link _ is = rw apart refl

  other_saw : (number raw : ℕ) (reply : Reply) → IsReplyTo (calls.Saw at other number raw) reply
      → after_entry rules inverter (record { call = calls.Saw at other number raw; reply = reply }) account ≡ account
  other_saw number raw (replies.Granted write) is = absurd is
  other_saw number raw (replies.ReadAs read) is = absurd is
  other_saw number raw (replies.Freed count reserved) is = rw apart refl
  other_saw number raw _ is = rw apart refl

  other_back : (link number : ℕ) (reply : Reply) → IsReplyTo (calls.Back at other link number) reply
      → after_entry rules inverter (record { call = calls.Back at other link number; reply = reply }) account ≡ account
  other_back link number (replies.Granted write) is = absurd is
  other_back link number (replies.ReadAs read) is = absurd is
  other_back link number replies.Taken is = rw apart refl
  other_back link number _ is = refl

  other_want : (mw : ℕ) (reply : Reply) → IsReplyTo (calls.Want at other mw) reply
      → after_entry rules inverter (record { call = calls.Want at other mw; reply = reply }) account ≡ account
  other_want mw (replies.Granted write) is = absurd is
  other_want mw (replies.ReadAs read) is = absurd is
  other_want mw _ is = rw apart refl

module _ (rules : Rules) (inverter at : ℕ) (account : Account) where
  other_tick : (reply : Reply) → IsReplyTo (calls.Tick at) reply → after_entry rules inverter (record { call = calls.Tick at; reply = reply }) account ≡ account
  other_tick (replies.Granted write) is = absurd is
  other_tick (replies.ReadAs read) is = absurd is
  other_tick _ is = refl

  other_stop : (reply : Reply) → IsReplyTo (calls.Stop at) reply → after_entry rules inverter (record { call = calls.Stop at; reply = reply }) account ≡ account
  other_stop (replies.Granted write) is = absurd is
  other_stop (replies.ReadAs read) is = absurd is
  other_stop _ is = refl

  other_cap : (mw : ℕ) (reply : Reply) → IsReplyTo (calls.Cap at mw) reply → after_entry rules inverter (record { call = calls.Cap at mw; reply = reply }) account ≡ account
  other_cap mw (replies.Granted write) is = absurd is
  other_cap mw (replies.ReadAs read) is = absurd is
  other_cap mw _ is = refl

abbrev some : ℕ → Option ℕ
some i = Some i

no_number : (i j : ℕ) → (some i ≡ some j → ⊥) → eqb i j ≡ false
no_number i j differs = ne_eqb i j (λ same. differs (ap some same))

other_call : (rules : Rules) (inverter : ℕ) (account : Account) (call : Call) (reply : Reply) → (named call ≡ some inverter → ⊥) → IsReplyTo call reply
    → after_entry rules inverter (record { call = call; reply = reply }) account ≡ account
other_call rules inverter account (calls.Link at other) reply differs fits = other_link rules inverter other at account (no_number other inverter differs) reply fits
other_call rules inverter account (calls.Ask at other raw) reply differs fits = other_ask rules inverter other at account (no_number other inverter differs) raw reply fits
other_call rules inverter account (calls.Read at other) reply differs fits = other_read rules inverter other at account (no_number other inverter differs) reply fits
other_call rules inverter account (calls.Saw at other number raw) reply differs fits = other_saw rules inverter other at account (no_number other inverter differs) number raw reply fits
other_call rules inverter account (calls.Back at other link number) reply differs fits = other_back rules inverter other at account (no_number other inverter differs) link number reply fits
other_call rules inverter account (calls.Want at other mw) reply differs fits = other_want rules inverter other at account (no_number other inverter differs) mw reply fits
other_call rules inverter account (calls.Tick at) reply differs fits = other_tick rules inverter at account reply fits
other_call rules inverter account (calls.Stop at) reply differs fits = other_stop rules inverter at account reply fits
other_call rules inverter account (calls.Cap at mw) reply differs fits = other_cap rules inverter at account mw reply fits

module _ (book : BookRecord) (entry : Entry) (inverter : ℕ) (account : Account) (its : IsAccount book (moment entry.call) inverter account)
    (pends : PendsOwn book.entries) (answer : IsAnswer book book.entries entry) (fits : IsReplyTo entry.call entry.reply) where
  -- the account of the inverter that one more entry names
  pub own_account : named entry.call ≡ some inverter
      → IsAccount (with_entries book (book.entries ++ entry ∷ [])) (moment entry.call) inverter (after_call book.site.rules entry.call entry.reply account)
  own_account is =
      subst (λ (a : Account). IsAccount (with_entries book (book.entries ++ entry ∷ [])) (moment entry.call) inverter a)
      (own_call book.site.rules inverter account entry.call entry.reply is fits) (next_account book entry inverter account its pends answer)

  -- that of another one
  pub other_account : (named entry.call ≡ some inverter → ⊥)
      → IsAccount (with_entries book (book.entries ++ entry ∷ [])) (moment entry.call) inverter account
  other_account differs =
      subst (λ (a : Account). IsAccount (with_entries book (book.entries ++ entry ∷ [])) (moment entry.call) inverter a)
      (other_call book.site.rules inverter account entry.call entry.reply differs fits) (next_account book entry inverter account its pends answer)

-- an account at a later moment
pub later_account : (book : BookRecord) (now later inverter : ℕ) (account : Account) → now ≤ later → IsAccount book now inverter account
    → IsAccount book later inverter (account_at book.site.rules later account)
later_account book now later inverter account le its = record {
  unit = its.unit;
  link = its.link;
  requests = its.requests;
  pending = its.pending;
  strange = its.strange;
  wish = its.wish;
  live = ap (without (is_past book.site.rules later)) its.live ∙ sym (live-later book.site.rules book.entries now later inverter le);
}

-- the account of an inverter in a book without entries
first_of : (site : SiteRecord) (start inverter : ℕ) (unit : Inverter) → slice_get site.units inverter ≡ Some unit
    → IsAccount (record { site = site; start = start; entries = [] }) start inverter (first_account unit)
unfolding counted.link_number counted.requests counted.pending_read rule.is_strange rule.wish last_that
first_of site start inverter unit is = record {
  unit = is;
  link = refl;
  requests = refl;
  pending = refl;
  strange = refl;
  wish = sym (rated_at-is site inverter unit is);
  live = sym (no_live site.rules start inverter);
}

pub first_is_account : (site : SiteRecord) (start inverter : ℕ) (otherwise : Account) → inverter < inverters site
    → IsAccount (record { site = site; start = start; entries = [] }) start inverter (get_or (map first_account site.units) inverter otherwise)
first_is_account site start inverter otherwise of_site =
    elim (slice_get_cases site.units inverter).1 [
      | inl found ↦
          subst (λ (account : Account). IsAccount (record { site = site; start = start; entries = [] }) start inverter account)
          (sym (get_or-map first_account site.units inverter found.0 otherwise of_site ∙ ap first_account found.3))
          (first_of site start inverter found.0 found.2)
      | inr past ↦ absurd (omega (arith, past.0))
    ]

-- an account keeps its inverter
pub unit_stays : (rules : Rules) (call : Call) (reply : Reply) (account : Account) → (after_call rules call reply account).unit ≡ account.unit
unit_stays rules (calls.Link at inverter) reply account = refl
unit_stays rules (calls.Ask at inverter raw) reply account = by_ask reply
  where
    by_ask : (r : Reply) → (after_ask r account).unit ≡ account.unit
    by_ask (replies.Granted write) = refl
    by_ask _ = refl
unit_stays rules (calls.Read at inverter) reply account = by_read reply
  where
    by_read : (r : Reply) → (after_read r account).unit ≡ account.unit
    by_read (replies.ReadAs read) = refl
    by_read _ = refl
unit_stays rules (calls.Saw at inverter number raw) reply account = by_saw reply
  where
    by_saw : (r : Reply) → (after_saw rules raw r account).unit ≡ account.unit
    by_saw (replies.Freed count reserved) = refl
    by_saw (replies.Strange seen) = refl
    by_saw _ = refl
unit_stays rules (calls.Back at inverter link number) reply account = by_back reply
  where
    by_back : (r : Reply) → (after_back link number r account).unit ≡ account.unit
    by_back replies.Taken = refl
    by_back _ = refl
unit_stays rules (calls.Want at inverter mw) reply account = refl
unit_stays rules (calls.Tick at) reply account = refl
unit_stays rules (calls.Stop at) reply account = refl
unit_stays rules (calls.Cap at mw) reply account = refl
