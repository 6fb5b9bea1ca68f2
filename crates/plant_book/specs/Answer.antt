-- The reply to a call, from the whole book before it.
use Rattle.std.specs.Prelude.{ℕ, ◌+◌, ◌-◌, Bool, true, false, not, ◌||◌, nat_le, nat_lt, ◌==◌}
use Rattle.std.specs.Prelude.{if◌then◌else◌, min, max, List, length, filter, Option, Some, None}
use Rattle.std.specs.List.{list_any}
use Rattle.limiter_num.specs.Timers.{reach}
use Rattle.plant_book.specs.declared.call.Call.{Call}
use Rattle.plant_book.specs.declared.call.Call.TheVariants as calls
use Rattle.plant_book.specs.declared.call.Reply.{Reply}
use Rattle.plant_book.specs.declared.call.Reply.TheVariants as replies
use Rattle.plant_book.specs.declared.call.Write as writes
use Rattle.plant_book.specs.declared.call.Read as reads
use Rattle.plant_book.specs.declared.call.TheConstants.{REQUESTS_MAX, LIVE_MAX}
use Rattle.plant_book.specs.Site.{SiteRecord, mw_at, floor_raw_at, full_at, raw_at, floors}
use Rattle.plant_book.specs.Book.{BookRecord}
use Rattle.plant_book.specs.Requests.{link_number, requests, pending_read}
use Rattle.plant_book.specs.Writes.{live, frees, is_numbered}
use Rattle.plant_book.specs.Reserved.{covering, reserved_at, total_at, unreserved_at, reserved, unreserved}
use Rattle.plant_book.specs.Policy.{target_at, target}

-- the last moment at which earlier lives may still act
abbrev pub silent_until : BookRecord → ℕ
silent_until book = book.start + reach book.site.rules

-- how much more than now would be reserved for the inverter with this limit
abbrev pub raise_at : BookRecord → ℕ → ℕ → ℕ → ℕ
raise_at book now inverter raw = max (reserved_at book now inverter)
    (mw_at book.site inverter raw) - reserved_at book now inverter

-- the write that is granted at this moment
abbrev pub write_at : BookRecord → ℕ → ℕ → ℕ → writes.Write
write_at book now inverter raw = record {
  inverter = inverter;
  link = link_number inverter book.entries;
  number = requests inverter book.entries + 1;
  at = now;
  raw = raw;
}

-- the reply to an Ask that the policy allows: the unreserved watts, the count of live writes, or the grant
unfoldable pub reply_by_watts : BookRecord → ℕ → ℕ → ℕ → Reply
reply_by_watts book now inverter raw =
    if nat_lt (unreserved_at book now) (raise_at book now inverter raw) then replies.NoWatts
    (unreserved_at book now)
    else if nat_le LIVE_MAX (length (live book.site.rules book.entries now inverter)) then replies.Crowded
    else replies.Granted (write_at book now inverter raw)

-- the reply to an Ask on a link with requests left: the greatest raw percentage, the silence, the policy
unfoldable pub reply_by_policy : BookRecord → ℕ → ℕ → ℕ → Reply
reply_by_policy book now inverter raw =
    if nat_lt (full_at book.site inverter) raw then replies.Over (full_at book.site inverter)
    else if nat_le now (silent_until book) then replies.Silent (silent_until book)
    else if nat_lt (target_at book now inverter) (mw_at book.site inverter raw) then replies.NotAllowed
    (raw_at book.site inverter (target_at book now inverter))
    else reply_by_watts book now inverter raw

-- the reply to an Ask: the first refusal that applies, or the grant
unfoldable pub reply_to_ask : BookRecord → ℕ → ℕ → ℕ → Reply
reply_to_ask book now inverter raw =
    if link_number inverter book.entries == 0 then replies.Unlinked
    else if nat_le REQUESTS_MAX (requests inverter book.entries) then replies.Spent
    else reply_by_policy book now inverter raw

-- the reply to a Read
unfoldable pub reply_to_read : BookRecord → ℕ → ℕ → Reply
reply_to_read book now inverter =
    if link_number inverter book.entries == 0 then replies.Unlinked
    else if nat_le REQUESTS_MAX (requests inverter book.entries) then replies.Spent
    else replies.ReadAs (record {
      inverter = inverter;
      link = link_number inverter book.entries;
      number = requests inverter book.entries + 1;
      at = now;
    })

-- whether a raw percentage is the floor's or that of one of these writes
abbrev pub is_raw_of : ℕ → ℕ → List writes.Write → Bool
is_raw_of floor raw its_writes = (raw == floor) || list_any (λ write. write.raw == raw) its_writes

-- the reply to a Saw of this pending read, where these are the live writes: a raw percentage that is neither the
-- floor nor that of a live write is strange; else the writes that the look settles, and whose raw percentage
-- differs, are free
abbrev pub reply_to_sight : SiteRecord → ℕ → Option reads.Read → ℕ → List writes.Write → Reply
reply_to_sight site inverter pending raw its_writes =
    if not (is_raw_of (floor_raw_at site inverter) raw its_writes) then replies.Strange raw
    else replies.Freed (length (filter (frees site.rules pending raw) its_writes))
    (covering site inverter (filter (λ write. not (frees site.rules pending raw write)) its_writes))

abbrev pub is_pending : Option reads.Read → ℕ → Bool
is_pending None number = false
is_pending (Some read) number = read.number == number

-- the reply to a Saw: what the pending read of this number showed
unfoldable pub reply_to_saw : BookRecord → ℕ → ℕ → ℕ → ℕ → Reply
reply_to_saw book now inverter number raw =
    if not (is_pending (pending_read inverter book.entries) number) then replies.NoRead
    else reply_to_sight book.site inverter (pending_read inverter book.entries) raw
    (live book.site.rules book.entries now inverter)

-- the reply to a Back: whether a live write has these numbers
unfoldable pub reply_to_back : BookRecord → ℕ → ℕ → ℕ → ℕ → Reply
reply_to_back book now inverter link number =
    if list_any (is_numbered inverter link number) (live book.site.rules book.entries now inverter)
    then replies.Taken else replies.NoWrite

-- the ceiling right after a cap is set: the site's cap through the silence, else the greater of the new cap
-- and what is reserved
abbrev pub ceiling_with : BookRecord → ℕ → ℕ → ℕ
ceiling_with book now mw = if nat_le now (silent_until book) then book.site.cap
    else max mw (total_at book now)

-- the reply to a Cap: whether the floors fit under it, and the site's cap is no lower
unfoldable pub reply_to_cap : BookRecord → ℕ → ℕ → Reply
reply_to_cap book now mw =
    if nat_lt mw (floors book.site) || nat_lt book.site.cap mw
    then replies.CapOut (floors book.site) book.site.cap
    else replies.CapSet mw (ceiling_with book now mw)

-- the reply to a call as it is entered
abbrev pub reply_to : BookRecord → Call → Reply
reply_to book (calls.Link at inverter) = replies.Linked (link_number inverter book.entries + 1)
reply_to book (calls.Ask at inverter raw) = reply_to_ask book at inverter raw
reply_to book (calls.Read at inverter) = reply_to_read book at inverter
reply_to book (calls.Saw at inverter number raw) = reply_to_saw book at inverter number raw
reply_to book (calls.Back at inverter link number) = reply_to_back book at inverter link number
reply_to book (calls.Want at inverter mw) = replies.Taken
reply_to book (calls.Tick at) = replies.Total (total_at book at)
reply_to book (calls.Stop at) = replies.Taken
reply_to book (calls.Cap at mw) = reply_to_cap book at mw

-- the limit that an inverter may aim at: the greatest that the policy and the watts allow at the last moment
unfoldable pub goal_raw : BookRecord → ℕ → ℕ
goal_raw book inverter = raw_at book.site inverter (min (target book inverter)
    (reserved book inverter + unreserved book))

abbrev pub stops : Call → Bool
stops (calls.Stop at) = true
stops _ = false

-- whether a Stop stands in the book
unfoldable pub is_stopped : BookRecord → Bool
is_stopped book = list_any (λ entry. stops entry.call) book.entries
