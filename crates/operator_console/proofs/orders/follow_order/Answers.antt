use Rattle.std.proofs.Common.{◌≡◌, ℕ, List, refl, subst}
use Rattle.operator_console.specs.declared.order.Order.{Order}
use Rattle.operator_console.specs.declared.order.Order.TheVariants as orders
use Rattle.operator_console.specs.Orders.{IsOrder}
use Rattle.operator_console.proofs.Handled.{roll_handled, status_handled, stop_handled, told_handled}
use Rattle.operator_console.proofs.orders.follow_order.Goals as goal

-- the line spells an order to the desk's inverters
spells : (count inverters : ℕ) (line : List ℕ) (a b : Order) → count ≡ inverters → a ≡ b → IsOrder count line a → IsOrder inverters line b
spells count inverters line a b same is spelled =
    let P : ℕ → Type 0 = λ n. IsOrder n line b in
    let Q : Order → Type 0 = λ o. IsOrder count line o in
    subst P same (subst Q is spelled)

pub returns-in-Status-clause-handled : goal.returns-in-Status-clause-handled
returns-in-Status-clause-handled g c = λ number line spelled.
    status_handled c.show_status.result _ _ number line c.now.result _ _ _ _ (spells _ _ line _ orders.Status c.requires.of_desk c.in-Status.is spelled) c.now.ensures.given c.show_status.ensures.shown

pub returns-in-Want-clause-handled : goal.returns-in-Want-clause-handled
returns-in-Want-clause-handled g c = λ number line spelled.
    told_handled c.tell_call.result _ _ number line (orders.Want c.in-Want.inverter c.in-Want.mw) c.now-at.result _ _ _ _ _ (spells _ _ line _ _ c.requires.of_desk c.in-Want.is spelled) c.now-at.ensures.given
    refl refl (λ e. cc) (λ e. cc) c.tell_call.ensures.told

pub returns-in-Stop-clause-handled : goal.returns-in-Stop-clause-handled
returns-in-Stop-clause-handled g c = λ number line spelled.
    stop_handled c.stop.result _ _ number line c.now-in-Stop.result _ _ _ _ (spells _ _ line _ orders.Stop c.requires.of_desk c.in-Stop.is spelled) c.now-in-Stop.ensures.given c.stop.ensures.stopped

pub returns-in-Cap-clause-handled : goal.returns-in-Cap-clause-handled
returns-in-Cap-clause-handled g c = λ number line spelled.
    told_handled c.tell_call-in-Cap.result _ _ number line (orders.Cap c.in-Cap.mw) c.now-at-in-Cap.result _ _ _ _ _ (spells _ _ line _ _ c.requires.of_desk c.in-Cap.is spelled) c.now-at-in-Cap.ensures.given
    refl refl (λ e. cc) (λ e. cc) c.tell_call-in-Cap.ensures.told

pub returns-in-Roll-clause-handled : goal.returns-in-Roll-clause-handled
returns-in-Roll-clause-handled g c = λ number line spelled.
    roll_handled c.roll.result _ _ number line _ _ _ _ (spells _ _ line _ orders.Roll c.requires.of_desk c.in-Roll.is spelled) c.roll.ensures.rolled
