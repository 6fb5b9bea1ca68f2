use Rattle.std.proofs.Common.{refl}
use Rattle.site_config.specs.Summary.{summary}
use Rattle.check_command.proofs.command.check_file.Goals as goal

pub returns-in-Ok-write_whole-clause-ends : goal.returns-in-Ok-write_whole-clause-ends
returns-in-Ok-write_whole-clause-ends g c = (
  c.in-Ok.ensures.file.0,
  record {
    cause = tt;
    read = c.in-Ok.ensures.file.1.whole;
    gained = (
      summary c.in-Ok.file,
      record { file = c.in-Ok.file; is_file = c.in-Ok.ensures.file.1.is_file; text_is = refl },
      rw (c.deref.ensures.value, c.in-Ok-summary_of.ensures) at c.in-Ok-write_whole.ensures.all,
      c.in-Ok-write_whole.ensures.cause.kept,
    );
  },
)

pub returns-clause-ends : goal.returns-clause-ends
returns-clause-ends g c = (
  c.in-Ok.ensures.file.0,
  record {
    cause = c.in-Err-write_whole.ensures.cause.failed;
    read = c.in-Ok.ensures.file.1.whole;
    gained = (
      summary c.in-Ok.file,
      record { file = c.in-Ok.file; is_file = c.in-Ok.ensures.file.1.is_file; text_is = refl },
      rw (c.deref.ensures.value, c.in-Ok-summary_of.ensures) at c.in-Err-write_whole.ensures.front,
    );
  },
)
