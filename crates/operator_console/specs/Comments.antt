-- What a console writes.
use Rattle.std.specs.Prelude.{ℕ, List, [], ◌++◌, codes, Option, Some, None}
use Rattle.std.specs.List.{flat_map}
use Rattle.std.specs.Fmt.{decimal}
use Rattle.plant_book.specs.declared.call.Reply.{Reply}
use Rattle.plant_book.specs.declared.call.Reply.TheVariants as replies
use Rattle.plant_book.specs.Site.{SiteRecord}
use Rattle.plant_book.specs.Part.{PartRecord, CarryRecord}
use Rattle.plant_ledger.specs.declared.plant.Goal.{Goal}
use Rattle.script_text.specs.Text.{head_text, entry_text, roll_text}

-- the comment line of the reply to an order's call
abbrev pub reply_line : Reply → List ℕ
reply_line (replies.Total total) = codes "# total " ++ decimal total ++ codes "\n"
reply_line replies.Taken = codes "# taken\n"
reply_line (replies.CapSet cap ceiling) =
    codes "# cap " ++ decimal cap ++ codes " ceiling " ++ decimal ceiling ++ codes "\n"
reply_line (replies.CapOut least most) =
    codes "# cap out " ++ decimal least ++ codes " " ++ decimal most ++ codes "\n"
reply_line _ = []

-- the comment line of an inverter's goal
abbrev pub goal_line : (inverter : ℕ) → Goal → List ℕ
goal_line inverter goal = codes "# inverter " ++ decimal inverter ++ codes " reserved " ++ decimal goal.reserved
    ++ codes " goal " ++ decimal goal.raw ++ codes "\n"

-- the comment line of a line that spells no order, by its number from 1
abbrev pub bad_line : (number : ℕ) → List ℕ
bad_line number = codes "# bad line " ++ decimal number ++ codes "\n"

-- the comment line of a life that is full
abbrev pub full_line : List ℕ
full_line = codes "# life full\n"

-- the head lines, which stand only before the first book of a life
abbrev pub head_before : SiteRecord → (start : ℕ) → Option CarryRecord → List ℕ
head_before site start None = head_text site start
head_before site start (Some carry) = []

-- the text of a book that was rolled, and of its roll
abbrev pub rolled_text : PartRecord → List ℕ
rolled_text book = head_before book.site book.start book.carry ++ flat_map entry_text book.entries ++ roll_text
