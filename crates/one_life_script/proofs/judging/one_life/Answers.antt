use Rattle.std.proofs.Common.{List, ℕ, Result, Ok, Err, MatchResult}
use Rattle.std.specs.Str.Lines.{lines}
use Rattle.script_text.specs.declared.fault.ScriptFault.{ScriptFault}
use Rattle.script_text.specs.declared.size.SiteSize as sizes
use Rattle.one_life_script.specs.OneLife.{EndNoBook, IsJudged, HasOneLife, IsBadOneLife}
use Rattle.one_life_script.proofs.Ends.{no_end_bad, no_end_good}
use Rattle.one_life_script.proofs.judging.one_life.Goals as goal

no_end : (bytes : List ℕ) (judged : Result sizes.SiteSize ScriptFault) → EndNoBook (lines bytes) → IsJudged bytes judged
    → MatchResult judged (λ size. HasOneLife bytes size) (λ fault. IsBadOneLife fault bytes)
no_end bytes (Ok size) one judged = no_end_good bytes size one judged
no_end bytes (Err fault) one judged = no_end_bad bytes fault one judged

pub returns-in-None : goal.returns-in-None
returns-in-None c = no_end c.args.bytes.now c.site_size-judged.result c.in-None.ensures c.site_size-judged.ensures
