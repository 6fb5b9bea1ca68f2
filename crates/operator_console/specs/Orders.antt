-- The orders of an operator, the lines that spell them, and the calls that they make.
use Rattle.std.specs.Prelude.{◌≡◌, ℕ, ◌^◌, ◌<◌, ◌≤◌, ◌⊎◌, List, [], ◌∷◌, ◌++◌, codes, Option, Some, None}
use Rattle.std.specs.List.{range_with_len}
use Rattle.std.specs.Fmt.{decimal}
use Rattle.std.specs.Str.Iter.{LacksByte}
use Rattle.plant_book.specs.declared.call.Call.{Call}
use Rattle.plant_book.specs.declared.call.Call.TheVariants as calls
use Rattle.operator_console.specs.declared.order.Order.{Order}
use Rattle.operator_console.specs.declared.order.Order.TheVariants as orders

-- the line of an order: its words and its numbers, one space between two
abbrev pub order_line : Order → List ℕ
order_line orders.Status = codes "status"
order_line (orders.Want inverter mw) = codes "want " ++ decimal inverter ++ codes " " ++ decimal mw
order_line orders.Stop = codes "stop"
order_line (orders.Cap mw) = codes "cap " ++ decimal mw
order_line orders.Roll = codes "roll"

-- its inverter is one of so many, and a wish or a cap is at most 10^14 mW
abbrev pub IsInRange : (inverters : ℕ) → Order → Type 0
IsInRange inverters (orders.Want inverter mw) = (inverter < inverters) × (mw ≤ 10 ^ 14)
IsInRange inverters (orders.Cap mw) = mw ≤ 10 ^ 14
IsInRange inverters _ = Unit {0}

-- the line spells an order to a plant of so many inverters
pub record IsOrder (inverters : ℕ) (line : List ℕ) (order : Order) : Type 0 where
  pub spelling : line ≡ order_line order
  pub in_range : IsInRange inverters order

-- The call that an order makes at a reading of the clock. A roll makes none.
abbrev pub call_of : Order → (reading : ℕ) → Option Call
call_of orders.Status reading = Some (calls.Tick reading)
call_of (orders.Want inverter mw) reading = Some (calls.Want reading inverter mw)
call_of orders.Stop reading = Some (calls.Stop reading)
call_of (orders.Cap mw) reading = Some (calls.Cap reading mw)
call_of orders.Roll reading = None

-- the inverters whose goals an order asks for, by their numbers from 0: all for a status, and else none
abbrev pub asked_by : Order → (inverters : ℕ) → List ℕ
asked_by orders.Status inverters = range_with_len 0 inverters
asked_by _ inverters = []

-- the bytes end in a carriage return
abbrev pub EndsInReturn : List ℕ → Type 0
EndsInReturn bytes = (before : List ℕ) × (bytes ≡ before ++ 13 ∷ [])

-- A line and its end: CR LF, or LF alone, behind which the line ends in no CR. The last line of an input may have no
-- end, and is not empty then.
pub record IsLine (line end : List ℕ) : Type 0 where
  pub one : LacksByte 10 line
  pub ended : (end ≡ 13 ∷ 10 ∷ []) ⊎ (((end ≡ 10 ∷ []) × ¬ EndsInReturn line) ⊎ ((end ≡ []) × ¬ (line ≡ [])))
