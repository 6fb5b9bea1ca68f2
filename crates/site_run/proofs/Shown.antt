-- The lines that a console tells are comments.
use Rattle.std.proofs.Common.{◌≡◌, ℕ, true, List, [], ◌∷◌, ◌++◌, refl}
use Rattle.std.specs.Prelude.{codes}
use Rattle.std.specs.List.{flat_map}
use Rattle.std.specs.Fmt.{decimal}
use Rattle.plant_book.specs.declared.call.Reply.{Reply}
use Rattle.plant_book.specs.declared.call.Reply.TheVariants as replies
use Rattle.plant_ledger.specs.declared.plant.Goal.{Goal}
use Rattle.script_text.proofs.LineEnds.{is_plain, plain_more}
use Rattle.script_text.proofs.Back.{decimal_plain}
use Rattle.script_replay.proofs.Mixed.{IsMixed, none_mixed, mixed_more, comment_mixed}
use Rattle.operator_console.specs.Comments.{reply_line, goal_line, bad_line, full_line}
use Rattle.operator_console.specs.Deeds.{Told}

-- a number behind plain bytes leaves them plain
number_more : (text : List ℕ) (number : ℕ) → is_plain text ≡ true → is_plain (text ++ decimal number) ≡ true
number_more text number plain = plain_more text (decimal number) plain (decimal_plain number)

-- the line of a reply is a comment, or there is none
pub reply_mixed : (reply : Reply) → IsMixed [] (reply_line reply)
reply_mixed (replies.Total total) =
    comment_mixed (codes "# total " ++ decimal total) (number_more (codes "# total ") total refl) refl
reply_mixed replies.Taken = comment_mixed (codes "# taken") refl refl
reply_mixed (replies.CapSet cap ceiling) =
    let first : List ℕ = codes "# cap " ++ decimal cap in
    let named : List ℕ = first ++ codes " ceiling " in
    comment_mixed (named ++ decimal ceiling) (number_more named ceiling (plain_more first (codes " ceiling ") (number_more (codes "# cap ") cap refl) refl)) refl
reply_mixed (replies.CapOut least most) =
    let first : List ℕ = codes "# cap out " ++ decimal least in
    let spaced : List ℕ = first ++ codes " " in
    comment_mixed (spaced ++ decimal most) (number_more spaced most (plain_more first (codes " ") (number_more (codes "# cap out ") least refl) refl)) refl
reply_mixed _ = none_mixed

-- the line of a goal is a comment
goal_mixed : (inverter : ℕ) (goal : Goal) → IsMixed [] (goal_line inverter goal)
goal_mixed inverter goal =
    let first : List ℕ = codes "# inverter " ++ decimal inverter in
    let named : List ℕ = first ++ codes " reserved " in
    let reserved : List ℕ = named ++ decimal goal.reserved in
    let last : List ℕ = reserved ++ codes " goal " in
    let named_plain : is_plain named ≡ true = plain_more first (codes " reserved ") (number_more (codes "# inverter ") inverter refl) refl in
    let last_plain : is_plain last ≡ true = plain_more reserved (codes " goal ") (number_more named goal.reserved named_plain) refl in
    comment_mixed (last ++ decimal goal.raw) (number_more last goal.raw last_plain) refl

-- so are those of goals one after another
pub goals_mixed : (told : List Told) → IsMixed [] (flat_map (λ one. goal_line one.inverter one.goal) told)
goals_mixed [] = none_mixed
goals_mixed (one ∷ told) = mixed_more (goal_mixed one.inverter one.goal) (goals_mixed told)

-- the line of a line that spells no order is a comment
pub bad_mixed : (number : ℕ) → IsMixed [] (bad_line number)
bad_mixed number = comment_mixed (codes "# bad line " ++ decimal number) (number_more (codes "# bad line ") number refl) refl

-- so is that of a full life
pub full_mixed : IsMixed [] full_line
full_mixed = comment_mixed (codes "# life full") refl refl
