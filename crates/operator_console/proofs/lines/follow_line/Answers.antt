use Rattle.std.proofs.Common.{◌≡◌, ◌∙◌, ℕ, List, [], sym, ap, subst, arith, length}
use Rattle.std.specs.Prelude.{OnOk}
use Rattle.std.specs.Io.KnownBytes.{Appends}
use Rattle.std.proofs.lemmas.Bool.Decides.{nat_tests}
use Rattle.operator_console.specs.declared.order.Order.{Order}
use Rattle.operator_console.specs.Comments.{bad_line}
use Rattle.operator_console.specs.Orders.{IsOrder}
use Rattle.operator_console.proofs.Texts.{front_is}
use Rattle.operator_console.proofs.Handled.{bad_handled}
use Rattle.operator_console.proofs.lines.follow_line.Goals as goal

pub returns-in-None-clause-handled : goal.returns-in-None-clause-handled
returns-in-None-clause-handled g c =
    let line = c.args.line.now in
    let desk = g.D.Desk.state c.args.desk.now in
    let some : ¬ (line ≡ []) = λ is. let none : length line ≡ 0 = ap length is in grind (arith, nat_tests, none, c.is_empty.ensures, c.if-is_empty.false) in
    let spells : (order : Order) → IsOrder desk.inverters line order → ⊥ = λ order spelled.
    let P : ℕ → Type 0 = λ n. IsOrder n line order in
    let no = c.in-None.ensures.exact order (subst P (sym c.requires.of_desk) spelled) in cc in
    let same : c.as_slice.result.now ≡ bad_line c.args.number = c.as_slice.ensures.value ∙ c.bad_text.ensures in
    let Q : List ℕ → Type 0 = λ t. OnOk c.write.result (Appends (g.O.Sink.taken c.args.out.now) (g.O.Sink.taken c.write.new.out) t) in
    bad_handled c.write.result _ _ c.args.number line desk _ _ some spells (subst Q same c.write.ensures.all) (front_is c.write.result _ _ _ _ same c.write.ensures.front) c.write.ensures.failed
