-- What the ledger keeps of one inverter, and what one more entry makes of it.
use Rattle.std.specs.Prelude.{◌≡◌, ℕ, ◌+◌, ◌*◌, ◌^◌, ◌<◌, ◌≤◌, Bool, true, false, if◌then◌else◌, List}
use Rattle.std.specs.Prelude.{◌∷◌, [], ◌++◌, length, map, fold, max, slice_get, Option, Some, None}
use Rattle.std.specs.Prelude.{IfSome}
use Rattle.std.specs.List.{All}
use Rattle.limiter_num.specs.declared.rules.Rules.{Rules}
use Rattle.limiter_num.specs.Rating.{mw, full, rated}
use Rattle.limiter_num.specs.declared.rating.Rating.{Rating}
use Rattle.share_policy.specs.declared.claim.Claim.{Claim}
use Rattle.plant_book.specs.declared.site.Unit.{Unit as Inverter}
use Rattle.plant_book.specs.declared.call.Call.{Call}
use Rattle.plant_book.specs.declared.call.Call.TheVariants as calls
use Rattle.plant_book.specs.declared.call.Reply.{Reply}
use Rattle.plant_book.specs.declared.call.Reply.TheVariants as replies
use Rattle.plant_book.specs.declared.call.TheConstants.{MOMENT_MAX, REQUESTS_MAX}
use Rattle.plant_book.specs.declared.call.Write as written
use Rattle.plant_book.specs.declared.call.Read as reads
use Rattle.plant_book.specs.Book.{BookRecord}
use Rattle.plant_book.specs.Part.{UnitRecord}
use Rattle.plant_book.specs.Requests as counted
use Rattle.plant_book.specs.Policy as rule
use Rattle.plant_book.specs.Writes as writes
use Rattle.uncertain_writes.specs.Live.{live_max, has_numbers, without}

-- what contracts see of an account: the inverter, its link, its requests since then, its pending read, whether it
-- is strange, its wish, and its live writes
pub record Account : Type 0 where
  pub unit : Inverter
  pub link : ℕ
  pub requests : ℕ
  pub pending : Option reads.Read
  pub strange : Bool
  pub wish : ℕ
  pub live : List written.Write

-- the greatest of an inverter's floor and the limits of these writes, in milliwatts
unfoldable pub most_of : Inverter → List written.Write → ℕ
most_of unit its_writes =
    max (mw unit.rating unit.floor) (fold max 0 (map (λ write. mw unit.rating write.raw) its_writes))

-- what is reserved for the inverter of an account, in milliwatts
abbrev pub reserved_of : Account → ℕ
reserved_of account = most_of account.unit account.live

-- what its share goes by
abbrev pub claim_by : Account → Claim
claim_by account = record {
  floor = mw account.unit.rating account.unit.floor;
  wish = account.wish;
  rated = if account.strange then mw account.unit.rating account.unit.floor else rated account.unit.rating;
}

-- what it leaves to the next book
abbrev pub unit_by : Account → UnitRecord
unit_by account = record {
  link = account.link;
  sent = account.requests;
  pending = account.pending;
  strange = account.strange;
  wish = account.wish;
  writes = account.live;
}

-- no write of these was granted before this moment
abbrev pub AreFrom : ℕ → List written.Write → Type 0
AreFrom oldest its_writes = All (λ write. oldest ≤ write.at) its_writes

-- the milliwatts of each raw percentage are as many times these
abbrev pub IsStep : Rating → ℕ → Type 0
IsStep rating step = (raw : ℕ) → mw rating raw ≡ raw * step

-- What an account keeps that follows from the inverter and its live writes.
pub record Follows (unit : Inverter) (its_writes : List written.Write) (floor_mw raw mw_at_raw watts at : ℕ)
    (mw_at_one : Option ℕ) : Type 0 where
  pub floor : floor_mw ≡ mw unit.rating unit.floor
  pub low : floor_mw ≤ 65535 * 10 ^ 12
  pub top : raw ≡ full unit.rating
  pub most : mw_at_raw ≡ rated unit.rating
  pub reserved : watts ≡ most_of unit its_writes
  pub below : watts ≤ 65535 * 10 ^ 12
  pub oldest : AreFrom at its_writes
  pub step : IfSome mw_at_one (IsStep unit.rating)

-- the numbers of an inverter's account are those of the book at this moment
pub record IsAccount (book : BookRecord) (now inverter : ℕ) (account : Account) : Type 0 where
  pub unit : slice_get book.site.units inverter ≡ Some account.unit
  pub link : account.link ≡ counted.link_number inverter book.entries
  pub requests : account.requests ≡ counted.requests inverter book.entries
  pub pending : account.pending ≡ counted.pending_read inverter book.entries
  pub strange : account.strange ≡ rule.is_strange inverter book.entries
  pub wish : account.wish ≡ rule.wish book inverter
  pub live : account.live ≡ writes.live book.site.rules book.entries now inverter

-- the account of an inverter that no call named: it wishes for its rating
abbrev pub first_account : Inverter → Account
first_account unit = record {
  unit = unit;
  link = 0;
  requests = 0;
  pending = None;
  strange = false;
  wish = rated unit.rating;
  live = [];
}

-- a grant answers an Ask of the write's inverter, and a numbered read a Read of its own
abbrev pub IsReplyTo : Call → Reply → Type 0
IsReplyTo (calls.Ask at inverter raw) (replies.Granted write) = write.inverter ≡ inverter
IsReplyTo (calls.Read at inverter) (replies.ReadAs read) = read.inverter ≡ inverter
IsReplyTo call (replies.Granted write) = ⊥
IsReplyTo call (replies.ReadAs read) = ⊥
IsReplyTo call _ = Unit {0}

-- there is room for what a reply adds to the account
abbrev pub HasRoom : Reply → Account → Type 0
HasRoom (replies.Granted write) account = (account.requests < REQUESTS_MAX) × (length account.live < live_max)
    × (write.at ≤ MOMENT_MAX)
HasRoom (replies.ReadAs read) account = account.requests < REQUESTS_MAX
HasRoom _ account = Unit {0}

-- the account after each call of the inverter, by the reply
abbrev pub after_ask : Reply → Account → Account
after_ask (replies.Granted write) account =
    record account { requests = account.requests + 1; live = account.live ++ write ∷ [] }
after_ask _ account = account

abbrev pub after_read : Reply → Account → Account
after_read (replies.ReadAs read) account =
    record account { requests = account.requests + 1; pending = Some read }
after_read _ account = account

abbrev pub after_saw : Rules → ℕ → Reply → Account → Account
after_saw rules raw (replies.Freed count reserved) account =
    record account {
      pending = None;
      strange = false;
      live = without (writes.frees rules account.pending raw) account.live;
    }
after_saw rules raw (replies.Strange seen) account = record account { pending = None; strange = true }
after_saw rules raw _ account = account

abbrev pub after_back : ℕ → ℕ → Reply → Account → Account
after_back link number replies.Taken account =
    record account { live = without (has_numbers link number) account.live }
after_back link number _ account = account

abbrev pub after_call : Rules → Call → Reply → Account → Account
after_call rules (calls.Link at inverter) reply account =
    record account { link = account.link + 1; requests = 0; pending = None }
after_call rules (calls.Ask at inverter raw) reply account = after_ask reply account
after_call rules (calls.Read at inverter) reply account = after_read reply account
after_call rules (calls.Saw at inverter number raw) reply account = after_saw rules raw reply account
after_call rules (calls.Back at inverter link number) reply account = after_back link number reply account
after_call rules (calls.Want at inverter mw) reply account = record account { wish = mw }
after_call rules (calls.Tick at) reply account = account
after_call rules (calls.Stop at) reply account = account
after_call rules (calls.Cap at mw) reply account = account
