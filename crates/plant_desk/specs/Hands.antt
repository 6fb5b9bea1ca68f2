-- What seats at the table of a desk know.
use Rattle.std.specs.Prelude.{ℕ, List, [], ◌∷◌, ◌++◌, map, take, drop, false, true, None}
use Rattle.std.proofs.Common.{lit≤}
use Rattle.std.specs.List.{range_with_len, sum_by}
use Rattle.limiter_num.specs.declared.rules.Rules.{Rules}
use Rattle.plant_book.specs.declared.Policy.TheVariants.{Open}
use Rattle.plant_book.specs.Part.{PartRecord}
use Rattle.plant_desk.specs.declared.deed.Deed.{Deed}
use Rattle.plant_desk.specs.declared.board.Hand.{Hand}
use Rattle.plant_desk.specs.declared.board.View.{View}

-- what the pass of this number knows once it has seen these deeds
abbrev pub hand : PartRecord → ℕ → ℕ → List Deed → Hand
hand book passes number seen = record { plant = book; passes = passes; number = number; seen = seen }

-- a seat of one pass, without the turn and with it
abbrev pub idle : Hand → View
idle one = record { hands = one ∷ []; holds = false }

abbrev pub busy : Hand → View
busy one = record { hands = one ∷ []; holds = true }

-- a seat whose passes went to other seats
abbrev pub spent : View
spent = record { hands = []; holds = false }

-- the first seat has the hands of all passes, none of which has seen a deed
abbrev pub first_view : PartRecord → ℕ → View
first_view book passes =
    record { hands = map (λ number. hand book passes number []) (range_with_len 1 passes); holds = false }

-- a seat is split into one with its first pass, and one with the others
abbrev pub first_of : View → View
first_of view = record { hands = take 1 view.hands; holds = false }

abbrev pub others_of : View → View
others_of view = record { hands = drop 1 view.hands; holds = view.holds }

-- two seats made one
abbrev pub both : View → View → View
both view other = record { hands = other.hands ++ view.hands; holds = view.holds }

-- what stands for the hand of a seat without a pass
abbrev no_rules : Rules
no_rules = record {
  send = 1;
  delay = 0;
  timer = 1;
  per_mille = 0;
  slack = 0;
  send_low = lit≤ tt;
  send_high = lit≤ tt;
  delay_high = lit≤ tt;
  timer_low = lit≤ tt;
  timer_high = lit≤ tt;
  per_mille_high = lit≤ tt;
  slack_high = lit≤ tt;
}

abbrev no_book : PartRecord
no_book = record {
  site = record { cap = 0; rules = no_rules; policy = Open; room = 0; units = [] };
  start = 0;
  carry = None;
  entries = [];
}

-- what the first pass of a seat knows
abbrev pub first_by : List Hand → Hand
first_by [] = hand no_book 0 0 []
first_by (one ∷ hands) = one

abbrev pub first_hand : View → Hand
first_hand view = first_by view.hands

-- the numbers of a seat's passes, weighed and added up
abbrev pub weight : (ℕ → ℕ) → View → ℕ
weight heavy view = sum_by (λ (one : Hand). heavy one.number) view.hands
