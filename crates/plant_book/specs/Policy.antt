-- What the policy allows an inverter.
use Rattle.std.specs.Prelude.{ℕ, Bool, true, false, ◌==◌, nat_lt, if◌then◌else◌, min}
use Rattle.std.specs.Prelude.{map, List, Option, Some, None, is_some, unwrap_or}
use Rattle.std.specs.List.{range_with_len}
use Rattle.share_policy.specs.declared.claim.Claim.{Claim}
use Rattle.share_policy.specs.declared.claim.Policy.TheVariants as policies
use Rattle.plant_book.specs.declared.call.Call.{Call}
use Rattle.plant_book.specs.declared.call.Call.TheVariants as calls
use Rattle.plant_book.specs.declared.call.Reply.{Reply}
use Rattle.plant_book.specs.declared.call.Reply.TheVariants as replies
use Rattle.plant_book.specs.declared.book.Entry.{Entry}
use Rattle.plant_book.specs.Sums.{last_that}
use Rattle.plant_book.specs.Site.{SiteRecord, inverters, floor_at, rated_at}
use Rattle.plant_book.specs.Book.{BookRecord}
use Rattle.plant_book.specs.Caps.{cap_of}
use Rattle.plant_book.specs.Reserved.{total_at, now_of}
use Rattle.plant_book.specs.Requests.{is_seen}
use Rattle.share_policy.specs.Shares.{level_of, target_of}

abbrev pub sees : ℕ → Call → Reply → Bool
sees inverter (calls.Saw at other number raw) reply = if other == inverter then is_seen reply else false
sees inverter _ reply = false

-- whether an entry is a Saw of the inverter answered Freed or Strange
abbrev pub is_sight : ℕ → Entry → Bool
is_sight inverter entry = sees inverter entry.call entry.reply

abbrev pub tells_strange : Reply → Bool
tells_strange (replies.Strange raw) = true
tells_strange _ = false

abbrev pub strange_after : Option Entry → Bool
strange_after None = false
strange_after (Some entry) = tells_strange entry.reply

-- an inverter is strange where the last such entry was answered Strange
unfoldable pub is_strange : ℕ → List Entry → Bool
is_strange inverter entries = strange_after (last_that (is_sight inverter) entries)

-- what a call wishes for the inverter, where it does
abbrev pub wish_by : ℕ → Call → Option ℕ
wish_by inverter (calls.Want at other mw) = if other == inverter then Some mw else None
wish_by inverter _ = None

abbrev pub is_want : ℕ → Entry → Bool
is_want inverter entry = is_some (wish_by inverter entry.call)

abbrev pub wish_after : ℕ → ℕ → Option Entry → ℕ
wish_after otherwise inverter None = otherwise
wish_after otherwise inverter (Some entry) = unwrap_or (wish_by inverter entry.call) otherwise

-- the wish of an inverter: that of its last Want, or its rating
unfoldable pub wish : BookRecord → ℕ → ℕ
wish book inverter = wish_after (rated_at book.site inverter) inverter (last_that
    (is_want inverter) book.entries)

-- the rating that the policy goes by: the floor for a strange inverter
unfoldable pub trusted : BookRecord → ℕ → ℕ
trusted book inverter = if is_strange inverter book.entries then floor_at book.site inverter
    else rated_at book.site inverter

-- what an inverter's share goes by
abbrev pub claim_of : BookRecord → ℕ → Claim
claim_of book inverter = record {
  floor = floor_at book.site inverter;
  wish = wish book inverter;
  rated = trusted book inverter;
}

-- the claims of all inverters in the order of their numbers
unfoldable pub claims : BookRecord → List Claim
claims book = map (claim_of book) (range_with_len 0 (inverters book.site))

-- the greatest limit in milliwatts that the policy allows the inverter under the cap in force
unfoldable pub policy_target : BookRecord → ℕ → ℕ
policy_target book inverter = target_of book.site.policy (level_of (cap_of book) (claims book))
    (claim_of book inverter)

-- what an inverter's fall share goes by: neither wishes nor strangeness count
abbrev pub fall_claim : SiteRecord → ℕ → Claim
fall_claim site inverter = record {
  floor = floor_at site inverter;
  wish = rated_at site inverter;
  rated = rated_at site inverter;
}

unfoldable pub fall_claims : SiteRecord → List Claim
fall_claims site = map (fall_claim site) (range_with_len 0 (inverters site))

-- The fall share of an inverter under a cap: its fair share if every inverter wished for its rating.
unfoldable pub fall_share : SiteRecord → ℕ → ℕ → ℕ
fall_share site cap inverter = target_of policies.Fair (level_of cap (fall_claims site))
    (fall_claim site inverter)

-- The greatest limit in milliwatts that the inverter may ask for at a moment: the policy's, and no more than
-- its fall share while more is reserved than the cap in force.
unfoldable pub target_at : BookRecord → ℕ → ℕ → ℕ
target_at book now inverter = if nat_lt (cap_of book) (total_at book now)
    then min (policy_target book inverter) (fall_share book.site (cap_of book) inverter)
    else policy_target book inverter

-- the same at the last moment of the book
abbrev pub target : BookRecord → ℕ → ℕ
target book inverter = target_at book (now_of book) inverter
