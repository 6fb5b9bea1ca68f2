-- A book of a life and what the ledger keeps beside it.
use Rattle.std.specs.Prelude.{◌≡◌, ℕ, ◌*◌, ◌^◌, ◌<◌, ◌≤◌, Bool, if◌then◌else◌, List, length}
use Rattle.std.specs.Prelude.{map, sum_by, Option, Some, IfSome, slice_index_or}
use Rattle.std.specs.List.{All}
use Rattle.limiter_num.specs.declared.rules.Rules.{Rules}
use Rattle.limiter_num.specs.Timers.{reach}
use Rattle.limiter_num.specs.Rating as rating
use Rattle.plant_book.specs.declared.call.TheConstants.{MOMENT_MAX}
use Rattle.plant_book.specs.declared.site.Unit.{Unit as Inverter}
use Rattle.plant_book.specs.Site.{SiteRecord, inverters, mw_at, floor_at, floor_raw_at, full_at, rated_at, raw_at}
use Rattle.plant_book.specs.Book.{BookRecord}
use Rattle.plant_book.specs.Part.{PartRecord, last_moment_of}
use Rattle.plant_book.specs.Carry.{mark_of, IsBookPart, EachBook}
use Rattle.plant_book.specs.declared.carry.CapMark as marks
use Rattle.plant_book.specs.declared.book.Entry.{Entry}
use Rattle.plant_book.specs.Calls.{moment}
use Rattle.plant_book.specs.Caps.{sets_cap, cap_of}
use Rattle.plant_book.specs.Reserved.{now_of}
use Rattle.plant_book.specs.Answer.{is_stopped}
use Rattle.plant_book.specs.Answered.{IsBook}
use Rattle.uncertain_writes.specs.Live.{is_past, without}
use Rattle.share_policy.specs.declared.claim.Claim.{Claim}
use Rattle.share_policy.specs.Shares.{level_of}
use Rattle.plant_book.specs.Policy.{fall_claims}
use Rattle.plant_ledger.specs.declared.sums.Sums.{Sums}
use Rattle.plant_ledger.specs.declared.known.Known.{Known}
use Rattle.plant_ledger.specs.Known.{IsKnown}
use Rattle.plant_ledger.specs.Account.{Account, IsAccount, AreFrom, reserved_of, claim_by}
use Rattle.plant_ledger.specs.Plant.{IsKept}
use Rattle.plant_ledger.specs.Queue.{AreQueued}
use Rattle.revert_timers.specs.declared.expiries.Due.{Due}

-- the last book of a life, and a moment from its last one on
pub record LedgerRecord : Type 0 where
  pub book : PartRecord
  pub at : ℕ

-- an inverter's numbers are those of its unit
pub record IsUnit (site : SiteRecord) (inverter : ℕ) (unit : Inverter) : Type 0 where
  pub floor : floor_at site inverter ≡ rating.mw unit.rating unit.floor
  pub floor_raw : floor_raw_at site inverter ≡ unit.floor
  pub full : full_at site inverter ≡ rating.full unit.rating
  pub rated : rated_at site inverter ≡ rating.rated unit.rating
  pub mw : (raw : ℕ) → mw_at site inverter raw ≡ rating.mw unit.rating raw
  pub raw : (watts : ℕ) → raw_at site inverter watts ≡ rating.raw_at_most unit.rating watts

-- each inverter of the site has its account at this moment
pub record AreAccounts (book : BookRecord) (now : ℕ) (accounts : List Account) : Type 0 where
  pub count : length accounts ≡ inverters book.site
  pub each : (inverter : ℕ) (otherwise : Account) → inverter < inverters book.site
      → IsAccount book now inverter (slice_index_or accounts inverter otherwise)

-- what the ledger keeps are the numbers of its book
pub record IsLedger (book : BookRecord) (now : ℕ) (accounts : List Account) (cap : ℕ) (stopped : Bool)
    : Type 0 where
  pub kept : IsBook book
  pub later : now_of book ≤ now
  pub high : now ≤ MOMENT_MAX
  pub of_inverters : AreAccounts book now accounts
  pub in_force : cap ≡ cap_of book
  pub stop : stopped ≡ is_stopped book

-- what the ledger keeps are the numbers of each life whose last book this is
pub record IsLedgerOf (part : PartRecord) (now : ℕ) (accounts : List Account) (cap : ℕ) (stopped : Bool)
    : Type 0 where
  pub of_life : IsBookPart part
  pub later : last_moment_of part ≤ now
  pub high : now ≤ MOMENT_MAX
  pub count : length accounts ≡ inverters part.site
  pub each : EachBook part (λ whole. IsLedger whole now accounts cap stopped)

-- what of all accounts is kept together
pub record AreSums (accounts : List Account) (sums : Sums) : Type 0 where
  pub total : sums.total ≡ sum_by reserved_of accounts
  pub each : All (λ account. reserved_of account ≤ 65535 * 10 ^ 12) accounts
  pub oldest : All (λ account. AreFrom sums.oldest account.live) accounts

-- what is known of the level of the claims under the cap is right
abbrev pub IsLevel : ℕ → List Account → Known → Type 0
IsLevel cap accounts level = IsKnown cap (map claim_by accounts) level

-- a level of the fall shares that is kept is theirs
abbrev pub IsFallLevel : ℕ → SiteRecord → Option ℕ → Type 0
IsFallLevel cap site level = IfSome level (λ mw. mw ≡ level_of cap (fall_claims site))

-- the mark of the last Cap that was set, after one more entry with so much reserved right after it
abbrev pub mark_after : Option marks.CapMark → Entry → ℕ → Option marks.CapMark
mark_after mark entry total = if sets_cap entry then Some (record { at = moment entry.call; was = total }) else mark

-- All that the ledger keeps: each number is the definition's of the lives that go on in this book.
pub record Keeps (part : PartRecord) (now : ℕ) (accounts : List Account) (claims : List Claim)
    (queue : List Due) (together : Sums) (cap : ℕ) (stopped : Bool) (held : ℕ) : Type 0 where
  pub reach_is : held ≡ reach part.site.rules
  pub reach_low : held ≤ 130860000
  pub numbers : IsLedgerOf part now accounts cap stopped
  pub claims_are : claims ≡ map claim_by accounts
  pub sums : AreSums accounts together
  pub level : IsLevel cap accounts together.level
  pub fall : IsFallLevel cap part.site together.fall
  pub set : EachBook part (λ whole. together.set ≡ mark_of whole)
  pub queued : AreQueued part.site.rules now queue accounts

-- an account at a later moment: what is past by then is gone
abbrev pub account_at : Rules → ℕ → Account → Account
account_at rules now account = record account { live = without (is_past rules now) account.live }

-- a ledger at the last moment of its book
pub record IsAtLast (ledger : LedgerRecord) : Type 0 where
  pub kept : IsKept ledger.book
  pub last : ledger.at ≡ last_moment_of ledger.book
