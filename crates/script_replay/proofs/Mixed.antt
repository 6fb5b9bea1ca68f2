-- Texts with comments put in say what the texts say.
use Rattle.std.proofs.Common.{◌≡◌, ℕ, true, List, [], ◌∷◌, ◌++◌, map, Option, Some, None, refl, sym, ap, subst, ◌∙◌, append_assoc}
use Rattle.std.specs.Prelude.{codes}
use Rattle.std.specs.List.{flat_map, All, AllByRecursion}
use Rattle.std.specs.Str.Lines.{lines}
use Rattle.std.proofs.lemmas.List.{append-nil}
use Rattle.std.proofs.lemmas.List.Concat.{flat_map-append}
use Rattle.std.proofs.lemmas.List.Elements.{All-head, All-tail}
use Rattle.plant_book.specs.declared.site.Unit as unit
use Rattle.plant_book.specs.declared.book.Entry.{Entry}
use Rattle.plant_book.specs.Site.{SiteRecord}
use Rattle.script_text.specs.declared.line.Line.TheVariants as lines_of
use Rattle.script_text.specs.Words.{Word, Text, written, spaced, line_text}
use Rattle.script_text.specs.Grammar.{Statement, Begin, Says, IsComment, call_words, reply_words, line_words, statement_words}
use Rattle.script_text.specs.Script.{ScriptRecord, Say, statements_of, IsScript, site_statement, inverter_statement}
use Rattle.script_text.specs.Text.{statement_text, inverters_text, head_text, entry_text, roll_text}
use Rattle.script_text.proofs.LineEnds.{is_plain, plain_lacks}
use Rattle.script_text.proofs.Back.{texts_plain, texts_more, words_plain, statement_plain, reply_plain}
use Rattle.script_text.proofs.Comments.{row_of, lines_behind, comment_row}
use Rattle.script_replay.specs.Comments.{AreComments}
use Rattle.script_replay.specs.Lives.{Row, Told, PutIn, IsRow, row_bytes, told_bytes, HasComments}

-- what the rows say

-- comments say nothing
comments_say : (rows : List (List ℕ)) → All IsComment rows → (said : List (Option Statement)) × Say rows said × (statements_of said ≡ [])
comments_say [] all = ([], tt, refl)
comments_say (row ∷ rows) all =
    let more = comments_say rows (All-tail IsComment row rows all) in
    (None ∷ more.0, (All-head IsComment row rows all, more.1), more.2)

-- a comment before some rows adds nothing to what they say
say_put : (rows : List (List ℕ)) (row : List ℕ) (statements : List Statement) → IsComment row
    → (said : List (Option Statement)) × Say rows said × (statements_of said ≡ statements) → (said : List (Option Statement)) × Say (row ∷ rows) said × (statements_of said ≡ statements)
say_put rows row statements is more = (None ∷ more.0, (is, more.1), more.2)

-- a row that both begin with adds the same to what they say
say_told : (rows others : List (List ℕ)) (row : List ℕ) (said : List (Option Statement)) → Say (row ∷ others) said
    → ((later : List (Option Statement)) → Say others later → (now : List (Option Statement)) × Say rows now × (statements_of now ≡ statements_of later))
    → (now : List (Option Statement)) × Say (row ∷ rows) now × (statements_of now ≡ statements_of said)
say_told rows others row [] say more = absurd say
say_told rows others row (None ∷ later) say more = let found = more later say.1 in (None ∷ found.0, (say.0, found.1), found.2)
say_told rows others row (Some statement ∷ later) say more =
    let found = more later say.1 in
    (Some statement ∷ found.0, (say.0, found.1), ap (λ (x : List Statement). statement ∷ x) found.2)

-- where no row is told, nothing is said
none_told : (rows : List (List ℕ)) (said : List (Option Statement)) → Say [] said
    → (now : List (Option Statement)) × Say rows now × (statements_of now ≡ []) → (now : List (Option Statement)) × Say rows now × (statements_of now ≡ statements_of said)
none_told rows [] say more = more
none_told rows (None ∷ later) say more = absurd say
none_told rows (Some statement ∷ later) say more = absurd say

-- the first line, and what stands behind it
front_is : (line rest behind : List ℕ) → ((line ++ 10 ∷ []) ++ rest) ++ behind ≡ line ++ 10 ∷ (rest ++ behind)
front_is line rest behind = ap (λ (x : List ℕ). x ++ behind) (append_assoc line (10 ∷ []) rest) ∙ append_assoc line (10 ∷ rest) behind

-- with comments put in, rows say what they say without
rows_say : (rows : List Row) (behind : List ℕ) (said : List (Option Statement)) → AllByRecursion IsRow rows → AreComments behind → Say (lines (flat_map told_bytes rows)) said
    → (now : List (Option Statement)) × Say (lines (flat_map row_bytes rows ++ behind)) now × (statements_of now ≡ statements_of said)
rows_say [] behind said each comments say = none_told (lines behind) said say (comments_say (lines behind) comments)
rows_say (Told line ∷ rows) behind said each comments say =
    let told : List ℕ = flat_map told_bytes rows in
    let all : List ℕ = flat_map row_bytes rows in
    let own : lines ((line ++ 10 ∷ []) ++ told) ≡ row_of line ∷ lines told = ap lines (append_assoc line (10 ∷ []) told) ∙ lines_behind line told each.0 in
    let mixed : lines (((line ++ 10 ∷ []) ++ all) ++ behind) ≡ row_of line ∷ lines (all ++ behind) = ap lines (front_is line all behind) ∙ lines_behind line (all ++ behind) each.0 in
    subst (λ (x : List (List ℕ)). (now : List (Option Statement)) × Say x now × (statements_of now ≡ statements_of said)) (sym mixed)
    (say_told (lines (all ++ behind)) (lines told) (row_of line) said (subst (λ (x : List (List ℕ)). Say x said) own say) (λ later its. rows_say rows behind later each.1 comments its))
rows_say (PutIn line ∷ rows) behind said each comments say =
    let all : List ℕ = flat_map row_bytes rows in
    let mixed : lines (((line ++ 10 ∷ []) ++ all) ++ behind) ≡ row_of line ∷ lines (all ++ behind) = ap lines (front_is line all behind) ∙ lines_behind line (all ++ behind) each.0.0 in
    subst (λ (x : List (List ℕ)). (now : List (Option Statement)) × Say x now × (statements_of now ≡ statements_of said)) (sym mixed)
    (say_put (lines (all ++ behind)) (row_of line) (statements_of said) (comment_row line each.0.1) (rows_say rows behind said each.1 comments say))

-- bytes that are a script with comments put in are that script
pub script_mixed : (text bytes : List ℕ) (script : ScriptRecord) → HasComments text bytes → IsScript text script → IsScript bytes script
script_mixed text bytes script has is =
    let found = rows_say has.rows has.behind is.said has.each has.comments (subst (λ (x : List ℕ). Say (lines x) is.said) has.text_is is.say) in
    record {
      said = found.0;
      say = subst (λ (x : List ℕ). Say (lines x) found.0) (sym has.bytes_are) found.1;
      statements = found.2 ∙ is.statements;
      each = is.each;
    }

-- whole lines of a text with comment lines put in, from which longer ones are made

pub record IsMixed (text bytes : List ℕ) : Type 0 where
  pub rows : List Row
  pub each : AllByRecursion IsRow rows
  pub text_is : text ≡ flat_map told_bytes rows
  pub bytes_are : bytes ≡ flat_map row_bytes rows

-- no lines are a text of none
pub none_mixed : IsMixed [] []
none_mixed = record { rows = []; each = tt; text_is = refl; bytes_are = refl }

-- rows with more rows behind them
each_more : (rows more : List Row) → AllByRecursion IsRow rows → AllByRecursion IsRow more → AllByRecursion IsRow (rows ++ more)
each_more [] more p q = q
each_more (row ∷ rows) more p q = (p.0, each_more rows more p.1 q)

-- one behind the other
pub mixed_more : {text bytes later behind : List ℕ} → IsMixed text bytes → IsMixed later behind → IsMixed (text ++ later) (bytes ++ behind)
mixed_more p q = record {
  rows = p.rows ++ q.rows;
  each = each_more p.rows q.rows p.each q.each;
  text_is = (λ i. p.text_is i ++ q.text_is i) ∙ sym (flat_map-append told_bytes p.rows q.rows);
  bytes_are = (λ i. p.bytes_are i ++ q.bytes_are i) ∙ sym (flat_map-append row_bytes p.rows q.rows);
}

-- a comment line alone
pub comment_mixed : (line : List ℕ) → is_plain line ≡ true → IsComment line → IsMixed [] (line ++ 10 ∷ [])
comment_mixed line plain is =
    record { rows = PutIn line ∷ []; each = ((plain_lacks line plain, is), tt); text_is = refl; bytes_are = sym (append-nil (line ++ 10 ∷ [])) }

-- and with any comments behind it
pub comments_behind : {text bytes : List ℕ} (behind : List ℕ) → IsMixed text bytes → AreComments behind → HasComments text (bytes ++ behind)
comments_behind behind p comments = record {
  rows = p.rows;
  behind = behind;
  each = p.each;
  comments = comments;
  text_is = p.text_is;
  bytes_are = ap (λ (x : List ℕ). x ++ behind) p.bytes_are;
}

-- the texts of lives have their own lines alone

-- a line that is written
line_mixed : (words : List Word) → texts_plain words ≡ true → IsMixed (line_text words) (line_text words)
line_mixed words plain =
    let line : List ℕ = spaced (map written words) in
    record { rows = Told line ∷ []; each = (plain_lacks line (words_plain words plain), tt); text_is = sym (append-nil (line ++ 10 ∷ [])); bytes_are = sym (append-nil (line ++ 10 ∷ [])) }

-- that of a statement of the head
statement_mixed : (statement : Statement) → IsMixed (statement_text statement) (statement_text statement)
statement_mixed statement = line_mixed (statement_words statement) (statement_plain statement)

-- those of the inverters
inverters_mixed : (units : List unit.Unit) → IsMixed (inverters_text units) (inverters_text units)
inverters_mixed [] = none_mixed
inverters_mixed (one ∷ units) = mixed_more (statement_mixed (inverter_statement one)) (inverters_mixed units)

-- the head of a book
pub head_mixed : (site : SiteRecord) (start : ℕ) → IsMixed (head_text site start) (head_text site start)
head_mixed site start =
    mixed_more (mixed_more (statement_mixed (site_statement site.cap site.rules site.policy site.room)) (inverters_mixed site.units)) (statement_mixed (Begin start))

-- an entry
entry_mixed : (entry : Entry) → IsMixed (entry_text entry) (entry_text entry)
entry_mixed entry =
    let reply : List Word = Text (codes "=") ∷ reply_words entry.reply in
    line_mixed (call_words entry.call ++ reply) (texts_more (call_words entry.call) reply (statement_plain (Says (lines_of.One entry.call))) (reply_plain entry.reply))

-- entries one after another
pub entries_mixed : (entries : List Entry) → IsMixed (flat_map entry_text entries) (flat_map entry_text entries)
entries_mixed [] = none_mixed
entries_mixed (entry ∷ entries) = mixed_more (entry_mixed entry) (entries_mixed entries)

-- a roll
pub roll_mixed : IsMixed roll_text roll_text
roll_mixed = line_mixed (line_words lines_of.Roll ++ Text (codes "=") ∷ Text (codes "rolled") ∷ []) refl
