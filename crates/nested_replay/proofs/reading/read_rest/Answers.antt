use Rattle.std.proofs.Common.{sym, ◌∙◌}
use Rattle.nested_replay.proofs.Calls.{rest_is_read}
use Rattle.nested_replay.proofs.reading.read_rest.Goals as goal

pub unreachable-requires : goal.unreachable-requires
unreachable-requires c = rest_is_read c.args.lines.now c.judge_rest.result c.requires c.judge_rest.ensures (sym c.is_err.ensures.value ∙ c.if-is_err.true)
