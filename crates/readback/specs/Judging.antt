-- What an answer to a read-back shows. Of several causes the one that stands first counts.
use Rattle.std.specs.Prelude.{ℕ, ◌==◌, not, length, Option, Some, None, if◌then◌else◌}
use Rattle.modbus_pdu.specs.declared.pdu.Reply.{Reply}
use Rattle.modbus_pdu.specs.declared.pdu.Reply.TheVariants as reply
use Rattle.mbap_frames.specs.declared.frame.Frame.{Frame}
use Rattle.der_models.specs.declared.limit.LimitView.{LimitView}
use Rattle.der_models.specs.Limit.{view_of}
use Rattle.limiter_num.specs.declared.rating.Point.TheVariants as point
use Rattle.limiter_num.specs.declared.rules.Rules.{Rules}
use Rattle.plant_book.specs.declared.call.Read as reads
use Rattle.plant_book.specs.declared.site.Unit as units
use Rattle.plant_book.specs.Port.{PortRecord}
use Rattle.readback.specs.declared.judging.Judged.{Judged}
use Rattle.readback.specs.declared.judging.Judged.TheVariants as judged
use Rattle.readback.specs.Replies.{reply_of}

-- The first of these points that isn't as it was written: WMaxLimPctEna 1, WMaxLimPctRvrt the floor, WMaxLimPctEnaRvrt 1,
-- WMaxLimPctRvrtTms the timer. Where all are, WMaxLimPct is shown.
unfoldable pub limit_judgement : (floor timer : ℕ) → LimitView → Judged
limit_judgement floor timer view =
    if not (view.ena == 1) then judged.Differs point.Ena 1 view.ena
    else if not (view.pct_rvrt == floor) then judged.Differs point.PctRvrt floor view.pct_rvrt
    else if not (view.ena_rvrt == 1) then judged.Differs point.EnaRvrt 1 view.ena_rvrt
    else if not (view.tms == timer) then judged.Differs point.RvrtTms timer view.tms
    else judged.Shows view.pct

-- A reply: an exception to function 03, eight registers, or one that wasn't asked for.
abbrev pub reply_judgement : (floor timer : ℕ) → Option Reply → Judged
reply_judgement floor timer (Some (reply.Exception function code)) =
    if function == 3 then judged.Exception code else judged.WrongReply
reply_judgement floor timer (Some (reply.Regs values)) =
    if length values == 8 then limit_judgement floor timer (view_of values) else judged.WrongReply
reply_judgement floor timer (Some (reply.Wrote start count)) = judged.WrongReply
reply_judgement floor timer None = judged.WrongReply

-- A frame that came to a read: of another transaction number, of another unit number, or with a reply.
abbrev pub judgement : reads.Read → units.Unit → PortRecord → Rules → Frame → Judged
judgement read unit port rules frame =
    if not (frame.transaction == read.number) then judged.WrongNumber frame.transaction
    else if not (frame.unit == port.unit) then judged.WrongUnit frame.unit
    else reply_judgement unit.floor rules.timer (reply_of frame.pdu)
