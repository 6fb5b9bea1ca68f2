use Rattle.std.proofs.Common.{◌≡◌, ◌∙◌, ◌≤◌, ◌+◌, ◌++◌, [], ◌∷◌, List, ℕ, ap, sym, arith, length, length-append, append_assoc}
use Rattle.operator_console.specs.Comments.{reply_line, goal_line}
use Rattle.operator_console.specs.Deeds.{Told}
use Rattle.operator_console.specs.Handling.{goals_text}
use Rattle.operator_console.proofs.Telling.{none_again, told_more, text_more}
use Rattle.operator_console.proofs.status.status_text.Goals as goal

pub loop-inverter-preserved : goal.loop-inverter-preserved
loop-inverter-preserved g c =
    let before = c.loop-inverter.invariant in
    let desk = g.D.Desk.state c.args.desk.now in
    let mid = g.D.Desk.state c.loop-inverter.desk in
    let now = g.D.Desk.state c.goal-goal.new.self in
    let n = c.loop-inverter.inverter in
    let line : List ℕ = goal_line n c.goal-goal.result in
    let one : Told = record { inverter = n; front = now.front; goal = c.goal-goal.result } in
    let added : c.extend_from_slice.new.self ≡ c.loop-inverter.text ++ line = c.extend_from_slice.ensures ∙ ap (λ (t : List ℕ). c.loop-inverter.text ++ t) (c.as_slice-in-loop-inverter.ensures.value ∙ c.goal_text.ensures.line) in
    let text : c.loop-inverter.text ++ line ≡ reply_line c.args.reply.now ++ (goals_text before.0.0 ++ line) = ap (λ (t : List ℕ). t ++ line) before.0.1 ∙ append_assoc (reply_line c.args.reply.now) (goals_text before.0.0) line in
    let goals : goals_text before.0.0 ++ line ≡ goals_text (before.0.0 ++ one ∷ []) = sym (text_more before.0.0 one) in
    let short : length line ≤ 56 = omega (arith, ap length c.goal_text.ensures.line, c.goal_text.ensures.short) in
    let long : length c.extend_from_slice.new.self ≡ length c.loop-inverter.text + length line = ap length added ∙ length-append c.loop-inverter.text line in (
      (
        before.0.0 ++ one ∷ [],
        added ∙ text ∙ ap (λ (t : List ℕ). reply_line c.args.reply.now ++ t) goals,
        told_more _ _ n desk mid now before.0.0 c.goal-goal.result before.0.2 c.goal-goal.ensures.last.goals before.1 c.goal-goal.ensures.none c.goal-goal.ensures.told,
      ),
      none_again desk mid now before.1 c.goal-goal.ensures.none,
      record {
        goals = λ a b d e is. c.goal-goal.ensures.last.goals a b d e (before.2.goals a b d e is);
        full = λ is. c.goal-goal.ensures.last.full (before.2.full is);
        rolls = λ a b is. c.goal-goal.ensures.last.rolls a b (before.2.rolls a b is);
        lives = λ a is. c.goal-goal.ensures.last.lives a (before.2.lives a is);
      },
      c.goal-goal.ensures.kept ∙ before.3,
      omega (arith, long, short, before.4),
    )
