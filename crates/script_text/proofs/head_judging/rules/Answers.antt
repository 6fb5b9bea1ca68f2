-- The numbers that are checked are those that were given.
use Rattle.std.proofs.Common.{◌≡◌, ◌≢◌, ◌∙◌, ℕ, Option, Some, None, Result, Ok, Err, ap, sym, rules}
use Rattle.std.specs.Prelude.{MatchOption, MatchResult, IfOk}
use Rattle.std.specs.Result.{result_ok}
use Rattle.limiter_num.specs.Timers.{rules_out}
use Rattle.limiter_num.specs.declared.rules.Rules.{Rules}
use Rattle.limiter_num.specs.declared.rules.RulesOut.{RulesOut}
use Rattle.script_text.proofs.head_judging.rules.Goals as goal

no_fault : (fault : RulesOut) (found : Option RulesOut) → found ≡ Some fault → found ≡ None → ⊥
no_fault fault found some none = cc

same_out : (a b c d e a' b' c' d' e' : ℕ) → a' ≡ a → b' ≡ b → c' ≡ c → d' ≡ d → e' ≡ e → rules_out a' b' c' d' e' ≡ rules_out a b c d e
same_out a b c d e a' b' c' d' e' p q r s t =
    ap (λ (x : ℕ). rules_out x b' c' d' e') p ∙ ap (λ (x : ℕ). rules_out a x c' d' e') q ∙ ap (λ (x : ℕ). rules_out a b x d' e') r
    ∙ ap (λ (x : ℕ). rules_out a b c x e') s ∙ ap (λ (x : ℕ). rules_out a b c d x) t

checked : (r : Result Rules RulesOut) (a b c d e a' b' c' d' e' : ℕ) → a' ≡ a → b' ≡ b → c' ≡ c → d' ≡ d → e' ≡ e
    → MatchResult r (λ _. rules_out a' b' c' d' e' ≡ None) (λ fault. rules_out a' b' c' d' e' ≡ Some fault)
    → IfOk r (λ found. (found.send ≡ a') × (found.delay ≡ b') × (found.timer ≡ c') × (found.per_mille ≡ d') × (found.slack ≡ e'))
    → MatchOption (result_ok r) (rules_out a b c d e ≢ None) (λ found. (found.send ≡ a) × (found.delay ≡ b) × (found.timer ≡ c) × (found.per_mille ≡ d) × (found.slack ≡ e))
checked (Ok found) a b c d e a' b' c' d' e' p q r s t fault numbers = (numbers.0 ∙ p, numbers.1 ∙ q, numbers.2 ∙ r, numbers.3 ∙ s, numbers.4 ∙ t)
checked (Err out) a b c d e a' b' c' d' e' p q r s t fault numbers = no_fault out (rules_out a b c d e) (sym (same_out a b c d e a' b' c' d' e' p q r s t) ∙ fault)

pub returns : goal.returns
returns c =
    let send : c.in_ok-send.send ≡ c.args.send = search rules in
    let delay : c.in_ok-delay.delay ≡ c.args.delay = search rules in
    let timer : c.in_ok-timer.timer ≡ c.args.timer = search rules in
    let per_mille : c.in_ok-per_mille.per_mille ≡ c.args.per_mille = search rules in
    let slack : c.in_ok-slack.slack ≡ c.args.slack = search rules in
    rw c.ok-6.ensures.value (checked c.new.result c.args.send c.args.delay c.args.timer c.args.per_mille c.args.slack
    c.in_ok-send.send c.in_ok-delay.delay c.in_ok-timer.timer c.in_ok-per_mille.per_mille c.in_ok-slack.slack
    send delay timer per_mille slack c.new.ensures.fault c.new.ensures.numbers)
