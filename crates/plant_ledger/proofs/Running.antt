-- What the ledger keeps of all accounts together, and how it follows the calls.
use Rattle.std.proofs.Common.{◌≡◌, ℕ, suc, ◌+◌, ◌-◌, ◌*◌, ◌^◌, ◌<◌, ◌≤◌, Bool, List, [], ◌∷◌, ◌++◌, length, get_or, map, Option, Some, None, refl, sym, ap, subst, ◌∙◌, add-zero, arith, append_assoc, inl, inr}
use Rattle.std.specs.Prelude.{Result, Ok, Err, IfOk, sum_by, max, slice_get, slice_set}
use Rattle.std.specs.List.{All, range_with_len}
use Rattle.std.proofs.lemmas.Bool.{le-ltb, cases_Bool}
use Rattle.std.proofs.lemmas.Simd.{map-map}
use Rattle.std.proofs.lemmas.List.Elements.{All-head, All-tail, All-weaker, All-set, All-push}
use Rattle.std.proofs.lemmas.List.Sums.{sum_by-cons, sum_by-set, get_or-le-sum_by, sum_by-le}
use Rattle.std.proofs.Math.Seq.{map-set_same}
use Rattle.std.proofs.Math.Nat.{mul-le-mul_right}
use Rattle.limiter_num.specs.declared.rules.Rules.{Rules}
use Rattle.limiter_num.specs.Timers.{reach}
use Rattle.limiter_num.specs.Rating.{mw}
use Rattle.share_policy.specs.declared.claim.Claim.{Claim}
use Rattle.share_policy.specs.Shares.{level_of}
use Rattle.share_policy.specs.Claims.{IsFeasible}
use Rattle.plant_book.specs.declared.call.Write as writes
use Rattle.plant_book.specs.declared.site.Unit.{Unit as Inverter}
use Rattle.plant_book.specs.Site.{SiteRecord, inverters, floor_at}
use Rattle.plant_book.specs.Book.{BookRecord}
use Rattle.plant_book.specs.Caps.{sets_cap, cap_of}
use Rattle.plant_book.specs.Reserved.{covering, reserved_at, total_at, now_of}
use Rattle.plant_book.specs.Writes.{live}
use Rattle.plant_book.specs.Policy as rule
use Rattle.plant_book.specs.declared.book.Entry.{Entry}
use Rattle.plant_book.specs.declared.carry.CapMark as marks
use Rattle.plant_book.specs.Calls.{moment}
use Rattle.plant_book.specs.Part.{PartRecord, book_behind}
use Rattle.plant_book.specs.Carry.{mark_of, IsBehind}
use Rattle.plant_book.specs.Carry as carries
use Rattle.plant_book.specs.Answered.{with_entries}
use Rattle.plant_book.proofs.Marks.{mark_of-sets, mark_of-stays}
use Rattle.plant_ledger.specs.Plant.{with_one}
use Rattle.plant_book.proofs.Claims.{sum_by-range, claims-feasible}
use Rattle.plant_book.proofs.Maxima.{fold_max-push}
use Rattle.plant_book.proofs.Inverters.{floor_at-is, rated_at-is, covering-is}
use Rattle.uncertain_writes.specs.Live.{is_past, without}
use Rattle.uncertain_writes.proofs.Lists.{fold_max-from}
use Rattle.plant_ledger.specs.declared.sums.Sums.{Sums}
use Rattle.plant_ledger.specs.Account.{Account, IsAccount, AreFrom, most_of, reserved_of, claim_by, unit_by}
use Rattle.plant_ledger.specs.declared.known.Known.{Known}
use Rattle.plant_ledger.specs.Known.{IsKnown}
use Rattle.plant_ledger.specs.Ledger.{AreAccounts, IsLedgerOf, AreSums, IsLevel, IsFallLevel, account_at, mark_after}

-- what holds of a value holds of what follows from it
pub if_ok : {T E : Type 0} (result : Result T E) (P Q : T → Type 0) → ((value : T) → P value → Q value) → IfOk result P → IfOk result Q
if_ok (Ok value) P Q then fact = then value fact
if_ok (Err fault) P Q then fact = tt

-- nothing that is known is right
pub no_level : (cap : ℕ) (accounts : List Account) (level : Known) → level.made ≡ None → level.probe ≡ None → IsLevel cap accounts level
no_level cap accounts level unmade none = record { made = rw unmade tt; probe = rw none tt }

pub no_fall_level : (cap : ℕ) (site : SiteRecord) (level : Option ℕ) → level ≡ None → IsFallLevel cap site level
no_fall_level cap site level none = rw none tt

-- what no writes reserve, and one more
pub most_of-none : (unit : Inverter) → most_of unit [] ≡ mw unit.rating unit.floor
unfolding most_of
most_of-none unit = omega arith

pub most_of-push : (unit : Inverter) (its : List writes.Write) (write : writes.Write) → most_of unit (its ++ write ∷ []) ≡ max (most_of unit its) (mw unit.rating write.raw)
unfolding most_of
most_of-push unit its write = omega (arith, fold_max-push (λ (w : writes.Write). mw unit.rating w.raw) 0 its write)

-- one more write is from a moment that isn't later
pub from_push : (old new : ℕ) (its : List writes.Write) (write : writes.Write) → new ≤ old → new ≤ write.at → AreFrom old its → AreFrom new (its ++ write ∷ [])
from_push old new its write le at from =
    All-push (λ (w : writes.Write). new ≤ w.at) its write (All-weaker (λ (w : writes.Write). old ≤ w.at) (λ (w : writes.Write). new ≤ w.at) (λ w its. omega (arith, its, le)) its from) at

-- no write is past where none is as old
pub none_past : (rules : Rules) (now oldest : ℕ) (its : List writes.Write) → now ≤ oldest + reach rules → AreFrom oldest its → without (is_past rules now) its ≡ its
none_past rules now oldest [] le from = refl
none_past rules now oldest (write ∷ later) le from =
    let at : oldest ≤ write.at = All-head (λ (w : writes.Write). oldest ≤ w.at) write later from in
    rw (le-ltb (write.at + reach rules) now (omega (arith, at, le)))
    (ap (λ (ws : List writes.Write). write ∷ ws) (none_past rules now oldest later le (All-tail (λ (w : writes.Write). oldest ≤ w.at) write later from)))

-- nor does an account change
pub same_account_at : (rules : Rules) (now oldest : ℕ) (account : Account) → now ≤ oldest + reach rules → AreFrom oldest account.live → account_at rules now account ≡ account
same_account_at rules now oldest account le from =
    ap (λ (its : List writes.Write). record account { live = its }) (none_past rules now oldest account.live le from)

pub same_accounts_at : (rules : Rules) (now oldest : ℕ) (accounts : List Account) → now ≤ oldest + reach rules → All (λ account. AreFrom oldest account.live) accounts
    → map (account_at rules now) accounts ≡ accounts
same_accounts_at rules now oldest [] le from = refl
same_accounts_at rules now oldest (account ∷ later) le from =
    let its = All-head (λ (a : Account). AreFrom oldest a.live) account later from in
    let others = All-tail (λ (a : Account). AreFrom oldest a.live) account later from in
    rw (same_account_at rules now oldest account le its, same_accounts_at rules now oldest later le others) refl

-- numbers of the accounts are numbers by the inverters
each_from : {Y : Type 0} (f : Account → Y) (g : ℕ → Y) (first : ℕ) (accounts : List Account)
    → ((place : ℕ) (otherwise : Account) → place < length accounts → f (get_or accounts place otherwise) ≡ g (first + place))
    → map f accounts ≡ map g (range_with_len first (length accounts))
each_from f g first [] each = refl
each_from f g first (account ∷ later) each =
    rw (
      each 0 account (omega arith) ∙ ap g (add-zero first),
      each_from f g (first + 1) later (λ place otherwise within. each (suc place) otherwise (omega (arith, within)) ∙ ap g (let e : first + suc place ≡ first + 1 + place = omega arith in e)),
    ) refl

pub each_is : {Y : Type 0} (f : Account → Y) (g : ℕ → Y) (count : ℕ) (accounts : List Account) → length accounts ≡ count
    → ((inverter : ℕ) (otherwise : Account) → inverter < count → f (get_or accounts inverter otherwise) ≡ g inverter)
    → map f accounts ≡ map g (range_with_len 0 count)
each_is f g count accounts is each =
    each_from f g 0 accounts (λ place otherwise within. each place otherwise (omega (arith, within, is)) ∙ ap g (let e : place ≡ 0 + place = omega arith in e))
    ∙ ap (λ (n : ℕ). map g (range_with_len 0 n)) is

-- what writes of an inverter reserve is what the definition says
pub most_of-is : (site : SiteRecord) (inverter : ℕ) (unit : Inverter) (its : List writes.Write) → slice_get site.units inverter ≡ Some unit → most_of unit its ≡ covering site inverter its
unfolding most_of
most_of-is site inverter unit its is =
    sym (covering-is site inverter unit is its ∙ fold_max-from (mw unit.rating unit.floor) (map (λ (write : writes.Write). mw unit.rating write.raw) its))

pub reserved_is : (book : BookRecord) (now inverter : ℕ) (account : Account) → IsAccount book now inverter account → reserved_of account ≡ reserved_at book now inverter
unfolding reserved_at
reserved_is book now inverter account its = most_of-is book.site inverter account.unit account.live its.unit ∙ ap (covering book.site inverter) its.live

-- the running sum is the total
pub total_is : (book : BookRecord) (now : ℕ) (accounts : List Account) → AreAccounts book now accounts → sum_by reserved_of accounts ≡ total_at book now
unfolding total_at
total_is book now accounts are =
    let at = reserved_at book now in
    let same = each_is reserved_of at (inverters book.site) accounts are.count (λ inverter otherwise within. reserved_is book now inverter (get_or accounts inverter otherwise) (are.each inverter otherwise within)) in
    sum_by-id accounts ∙ ap (sum_by (λ (n : ℕ). n)) same ∙ sum_by-range (λ (n : ℕ). n) at (inverters book.site)
  where
    sum_by-id : (xs : List Account) → sum_by reserved_of xs ≡ sum_by (λ (n : ℕ). n) (map reserved_of xs)
    sum_by-id [] = refl
    sum_by-id (x ∷ xs) = omega (arith, sum_by-cons reserved_of x xs, sum_by-cons (λ (n : ℕ). n) (reserved_of x) (map reserved_of xs), sum_by-id xs)

-- the claims by the accounts are those of the definition
pub claim_is : (book : BookRecord) (now inverter : ℕ) (account : Account) → IsAccount book now inverter account → claim_by account ≡ rule.claim_of book inverter
unfolding rule.trusted
claim_is book now inverter account its =
    let floor : mw account.unit.rating account.unit.floor ≡ floor_at book.site inverter = sym (floor_at-is book.site inverter account.unit its.unit) in
    let most = sym (rated_at-is book.site inverter account.unit its.unit) in
    rw (floor, most, its.wish, its.strange) refl

pub claims_are : (book : BookRecord) (now : ℕ) (accounts : List Account) → AreAccounts book now accounts → map claim_by accounts ≡ rule.claims book
unfolding rule.claims
claims_are book now accounts are =
    each_is claim_by (rule.claim_of book) (inverters book.site) accounts are.count (λ inverter otherwise within. claim_is book now inverter (get_or accounts inverter otherwise) (are.each inverter otherwise within))

-- the level that is kept is the definition's
pub level_is : (book : BookRecord) (now : ℕ) (accounts : List Account) (cap : ℕ) → AreAccounts book now accounts → cap ≡ cap_of book
    → level_of cap (map claim_by accounts) ≡ level_of (cap_of book) (rule.claims book)
level_is book now accounts cap are in_force =
    ap (λ (n : ℕ). level_of n (map claim_by accounts)) in_force ∙ ap (level_of (cap_of book)) (claims_are book now accounts are)

-- the claims that are kept are feasible, and have the level that the definition has
module _ (part : PartRecord) (now : ℕ) (accounts : List Account) (claims : List Claim) (cap : ℕ) (stopped : Bool) (ledger : IsLedgerOf part now accounts cap stopped)
    (are : claims ≡ map claim_by accounts) where
  pub kept_feasible : IsFeasible cap claims
  kept_feasible =
      let life = ledger.of_life in
      let whole = book_behind life.before part in
      let its = ledger.each life.before life.behind in
      subst (λ (all : List Claim). IsFeasible cap all) (sym (are ∙ claims_are whole now accounts its.of_inverters))
      (subst (λ (n : ℕ). IsFeasible n (rule.claims whole)) (sym its.in_force) (claims-feasible whole life.behind.book))

  pub kept_level : (before : List Entry) → IsBehind before part → level_of cap claims ≡ level_of (cap_of (book_behind before part)) (rule.claims (book_behind before part))
  kept_level before is =
      let its = ledger.each before is in
      ap (level_of cap) are ∙ level_is (book_behind before part) now accounts cap its.of_inverters its.in_force

  pub kept_known : (known : Known) → IsLevel cap accounts known → IsKnown cap claims known
  kept_known known is = subst (λ (all : List Claim). IsKnown cap all known) (sym are) is

  pub known_kept : (known : Known) → IsKnown cap claims known → IsLevel cap accounts known
  known_kept known is = subst (λ (all : List Claim). IsKnown cap all known) are is

-- the mark after one more entry
pub mark_next : (part : PartRecord) (before : List Entry) (entry : Entry) (total : ℕ) (mark : Option marks.CapMark) → mark ≡ mark_of (book_behind before part)
    → total ≡ total_at (book_behind before (with_one part entry)) (moment entry.call) → mark_after mark entry total ≡ mark_of (book_behind before (with_one part entry))
mark_next part before entry total mark is sum =
    let whole = book_behind before part in
    let old = before ++ part.entries in
    let through = ap (λ (es : List Entry). mark_of (with_entries whole es)) (append_assoc before part.entries (entry ∷ [])) in
    let joined = ap (λ (es : List Entry). total_at (with_entries whole es) (moment entry.call)) (append_assoc before part.entries (entry ∷ [])) in
    elim (cases_Bool (sets_cap entry)) [
      | inl sets ↦ rw sets (ap (marked (moment entry.call)) (sum ∙ sym joined) ∙ sym (mark_of-sets whole old entry sets) ∙ through)
      | inr stays ↦ rw stays (is ∙ sym (mark_of-stays whole old entry stays) ∙ through)
    ]
  where
    marked : ℕ → ℕ → Option marks.CapMark
    marked at was = Some (record { at = at; was = was })

-- what an account leaves at the last moment of a book is what the definition says
pub unit_is : (book : BookRecord) (now inverter : ℕ) (account : Account) → now ≡ now_of book → IsAccount book now inverter account → unit_by account ≡ carries.unit_of book inverter
unit_is book now inverter account last its =
    let writes = its.live ∙ ap (λ (n : ℕ). live book.site.rules book.entries n inverter) last in
    rw (its.link, its.requests, its.pending, its.strange, its.wish, writes) refl

pub units_are : (book : BookRecord) (now : ℕ) (accounts : List Account) → now ≡ now_of book → AreAccounts book now accounts → map unit_by accounts ≡ carries.units_of book
units_are book now accounts last are =
    each_is unit_by (carries.unit_of book) (inverters book.site) accounts are.count (λ inverter otherwise within. unit_is book now inverter (get_or accounts inverter otherwise) last (are.each inverter otherwise within))

-- later accounts have the same claims
pub later_claims : (rules : Rules) (now : ℕ) (accounts : List Account) → map claim_by (map (account_at rules now) accounts) ≡ map claim_by accounts
later_claims rules now accounts = map-map claim_by (account_at rules now) accounts

-- all that is reserved is less than a word holds
abbrev pub reserved_max : ℕ
reserved_max = 65535 * 10 ^ 12

pub total_low : (accounts : List Account) → length accounts ≤ 64 → All (λ account. reserved_of account ≤ reserved_max) accounts → sum_by reserved_of accounts ≤ 64 * reserved_max
total_low accounts few each = omega (arith, sum_by-le reserved_of reserved_max accounts each, mul-le-mul_right reserved_max few)

-- an older moment is before all of them too
pub older_from : (old new : ℕ) (accounts : List Account) → new ≤ old → All (λ account. AreFrom old account.live) accounts → All (λ account. AreFrom new account.live) accounts
older_from old new accounts le from =
    All-weaker (λ (a : Account). AreFrom old a.live) (λ (a : Account). AreFrom new a.live) (λ a its. All-weaker (λ (w : writes.Write). old ≤ w.at) (λ (w : writes.Write). new ≤ w.at) (λ w at. omega (arith, le, at)) a.live its) accounts from

-- the numbers of all accounts after one of them changed
module _ (accounts : List Account) (sums : Sums) (are : AreSums accounts sums) (inverter : ℕ) (within : inverter < length accounts) (account otherwise : Account) where
  pub reserved_below : reserved_of (get_or accounts inverter otherwise) ≤ sums.total
  reserved_below = omega (arith, get_or-le-sum_by reserved_of accounts inverter otherwise within, are.total)

  pub sums_next : (new : Sums) → reserved_of account ≤ reserved_max → AreFrom new.oldest account.live → new.oldest ≤ sums.oldest
      → new.total ≡ sums.total - reserved_of (get_or accounts inverter otherwise) + reserved_of account → AreSums (slice_set accounts inverter account) new
  sums_next new low from older total = record {
    total = omega (arith, total, reserved_below, are.total, sum_by-set reserved_of accounts inverter account otherwise within);
    each = All-set (λ (a : Account). reserved_of a ≤ reserved_max) accounts inverter account low are.each;
    oldest = All-set (λ (a : Account). AreFrom new.oldest a.live) accounts inverter account from
        (older_from sums.oldest new.oldest accounts older are.oldest);
  }

-- the level of the claims is known as well, where none of them changed
pub level_next : (cap : ℕ) (accounts : List Account) (inverter : ℕ) (account otherwise : Account) (level : Known) → claim_by account ≡ claim_by (get_or accounts inverter otherwise)
    → IsLevel cap accounts level → IsLevel cap (slice_set accounts inverter account) level
level_next cap accounts inverter account otherwise level same is =
    subst (λ (claims : List Claim). IsKnown cap claims level) (sym (map-set_same claim_by accounts inverter account otherwise same)) is
