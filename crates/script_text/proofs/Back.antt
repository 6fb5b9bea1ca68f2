-- A text that is written is a script again.
use Rattle.std.proofs.Common.{◌≡◌, ℕ, zero, suc, ◌+◌, ◌/◌, ◌%◌, ◌^◌, ◌<◌, ◌≤◌, inl, inr, Bool, true, false, cond, eqb, ltb, List, [], ◌∷◌, ◌++◌, map, Some, refl, sym, ap, subst, ◌∙◌, arith, append_assoc, length-append, ℤ, pos, negsuc}
use Rattle.std.specs.Prelude.{codes, ◌≤ℤ◌}
use Rattle.std.specs.List.{flat_map, AllByRecursion}
use Rattle.std.specs.Fmt.{decimal, digits, digits_onto, digit_glyph}
use Rattle.std.specs.Str.Lines.{lines}
use Rattle.std.proofs.lemmas.Bool.{ne_eqb, cases_Bool}
use Rattle.std.proofs.lemmas.Int.{ints}
use Rattle.std.proofs.lemmas.List.{append-nil, map-append}
use Rattle.std.proofs.lemmas.List.Concat.{flat_map-append}
use Rattle.share_policy.specs.declared.claim.Policy.{Policy}
use Rattle.share_policy.specs.declared.claim.Policy.TheVariants as policies
use Rattle.plant_book.specs.declared.site.Unit as unit
use Rattle.plant_book.specs.declared.call.Call.{Call}
use Rattle.plant_book.specs.declared.call.Call.TheVariants as calls
use Rattle.plant_book.specs.declared.call.Reply.{Reply}
use Rattle.plant_book.specs.declared.call.Reply.TheVariants as replies
use Rattle.plant_book.specs.Site.{SiteRecord}
use Rattle.script_text.specs.declared.line.Line.{Line}
use Rattle.script_text.specs.declared.line.Line.TheVariants as lines_of
use Rattle.script_text.specs.Words.{Word, Text, Number, Signed, IsWord, AreWords, spaced, written, line_text}
use Rattle.script_text.specs.Grammar.{Statement, Site, Inverter, Begin, Says, policy_word, call_words, reply_words, statement_words, IsSpelled}
use Rattle.script_text.specs.Script.{ScriptRecord, Say, statements_of, InRange, EachMayFollow, IsScript, site_statement, inverter_statement, head_statements, script_statements}
use Rattle.script_text.specs.Text.{statement_text, inverters_text, head_text, replied_text, Deed, Entered, Begun, Rolled, deed_line, deed_text, lives_text}
use Rattle.script_text.specs.Reading.{row_at, behind_row}
use Rattle.script_text.proofs.LineEnds.{is_plain, plain_more, row_past, behind_past, lines_first}
use Rattle.script_text.proofs.Numbers.{decimal_is, Fits16, signed_decimal_is}
use Rattle.script_text.proofs.Ranges.{bounds_of}

both : (a b : Bool) → cond a b false ≡ true → (a ≡ true) × (b ≡ true)
both true b e = (refl, e)
both false b e = absurd cc

-- what is written ends no row

glyph_plain : (digit : ℕ) (rest : List ℕ) → is_plain rest ≡ true → is_plain (digit_glyph false digit ∷ rest) ≡ true
glyph_plain digit rest plain =
    elim (cases_Bool (ltb digit 10)) [
      | inl low ↦ rw (low, ne_eqb (48 + digit) 10 (omega arith), ne_eqb (48 + digit) 13 (omega arith)) plain
      | inr high ↦ rw (high, ne_eqb (87 + digit) 10 (omega arith), ne_eqb (87 + digit) 13 (omega arith)) plain
    ]

digits_plain : (fuel n : ℕ) (rest : List ℕ) → is_plain rest ≡ true → is_plain (digits_onto fuel 10 false n rest) ≡ true
digits_plain zero n rest plain = plain
digits_plain (suc fuel) n rest plain =
    elim (cases_Bool (eqb (n / 10) 0)) [
      | inl end ↦ rw end (glyph_plain (n % 10) rest plain)
      | inr more ↦ rw more (digits_plain fuel (n / 10) (digit_glyph false (n % 10) ∷ rest) (glyph_plain (n % 10) rest plain))
    ]

pub decimal_plain : (n : ℕ) → is_plain (decimal n) ≡ true
unfolding digits
decimal_plain n = digits_plain 64 n [] refl

abbrev pub texts_plain : List Word → Bool
texts_plain [] = true
texts_plain (Text text ∷ words) = cond (is_plain text) (texts_plain words) false
texts_plain (Number number ∷ words) = texts_plain words
texts_plain (Signed number ∷ words) = texts_plain words

written_plain : (word : Word) (words : List Word) → texts_plain (word ∷ words) ≡ true → (is_plain (written word) ≡ true) × (texts_plain words ≡ true)
written_plain (Text text) words plain = both (is_plain text) (texts_plain words) plain
written_plain (Number number) words plain = (decimal_plain number, plain)
written_plain (Signed (pos number)) words plain = (decimal_plain number, plain)
written_plain (Signed (negsuc number)) words plain = (decimal_plain (suc number), plain)

spaces_plain : (words : List Word) → texts_plain words ≡ true → is_plain (flat_map (λ word. 32 ∷ word) (map written words)) ≡ true
spaces_plain [] plain = refl
spaces_plain (word ∷ words) plain =
    let parts = written_plain word words plain in
    plain_more (written word) (flat_map (λ word. 32 ∷ word) (map written words)) parts.0 (spaces_plain words parts.1)

pub words_plain : (words : List Word) → texts_plain words ≡ true → is_plain (spaced (map written words)) ≡ true
words_plain [] plain = refl
words_plain (word ∷ words) plain =
    let parts = written_plain word words plain in
    plain_more (written word) (flat_map (λ word. 32 ∷ word) (map written words)) parts.0 (spaces_plain words parts.1)

-- words with more words behind them
pub texts_more : (words more : List Word) → texts_plain words ≡ true → texts_plain more ≡ true → texts_plain (words ++ more) ≡ true
texts_more [] more p q = q
texts_more (Text text ∷ words) more p q = let parts = both (is_plain text) (texts_plain words) p in rw parts.0 (texts_more words more parts.1 q)
texts_more (Number number ∷ words) more p q = texts_more words more p q
texts_more (Signed number ∷ words) more p q = texts_more words more p q

-- a line that is written, with or without a reply

-- the numbers of words are such that what is written is read
abbrev pub FitWord : Word → Type 0
FitWord (Text text) = Unit {0}
FitWord (Number number) = number < 2 ^ 64
FitWord (Signed number) = Fits16 number

abbrev pub FitWords : List Word → Type 0
FitWords [] = Unit {0}
FitWords (word ∷ words) = FitWord word × FitWords words

word_is : (word : Word) → FitWord word → IsWord word (written word)
word_is (Text text) fit = refl
word_is (Number number) fit = decimal_is number fit
word_is (Signed number) fit = signed_decimal_is number fit

words_are : (words : List Word) → FitWords words → AreWords words (map written words)
words_are [] fit = tt
words_are (word ∷ words) fit = (word_is word fit.0, words_are words fit.1)

-- every statement in range has such words
number_fit : (n most : ℕ) → n ≤ most → most < 2 ^ 64 → n < 2 ^ 64
number_fit n most le small = omega (arith, le, small)

signed_fit : (z : ℤ) → negsuc 32767 ≤ℤ z → z ≤ℤ pos 32767 → Fits16 z
signed_fit (pos n) low high = omega (arith, ints)
signed_fit (negsuc n) low high = omega (arith, ints)

pub fit_of : (statement : Statement) → InRange statement → FitWords (statement_words statement)
fit_of (Site cap send delay timer per_mille slack policy room) range =
    let rules = bounds_of send delay timer per_mille slack range.1 in
    (tt, (omega (arith, range.0), (omega (arith, rules), (omega (arith, rules), (omega (arith, rules), (omega (arith, rules), (omega (arith, rules), (tt, (omega (arith, range.3), tt)))))))))
fit_of (Inverter wmax wsf psf floor) range = (tt, (omega (arith, range.0), (signed_fit wsf range.1 range.2, (signed_fit psf range.3 range.4, (omega (arith, range.5), tt)))))
fit_of (Begin at) range = (tt, (omega (arith, range), tt))
fit_of (Says (lines_of.One (calls.Link at inverter))) range = (tt, (omega (arith, range), (omega (arith, range), tt)))
fit_of (Says (lines_of.One (calls.Ask at inverter raw))) range = (tt, (omega (arith, range), (omega (arith, range), (omega (arith, range), tt))))
fit_of (Says (lines_of.One (calls.Read at inverter))) range = (tt, (omega (arith, range), (omega (arith, range), tt)))
fit_of (Says (lines_of.One (calls.Saw at inverter number raw))) range = (tt, (omega (arith, range), (omega (arith, range), (omega (arith, range), (omega (arith, range), tt)))))
fit_of (Says (lines_of.One (calls.Back at inverter link number))) range = (tt, (omega (arith, range), (omega (arith, range), (omega (arith, range), (omega (arith, range), tt)))))
fit_of (Says (lines_of.One (calls.Want at inverter mw))) range = (tt, (omega (arith, range), (omega (arith, range), (omega (arith, range), tt))))
fit_of (Says (lines_of.One (calls.Tick at))) range = (tt, (omega (arith, range), tt))
fit_of (Says (lines_of.One (calls.Stop at))) range = (tt, (omega (arith, range), tt))
fit_of (Says (lines_of.One (calls.Cap at mw))) range = (tt, (omega (arith, range), (omega (arith, range), tt)))
fit_of (Says (lines_of.Restart at)) range = (tt, (omega (arith, range), tt))
fit_of (Says lines_of.Roll) range = (tt, tt)

policy_plain : (policy : Policy) → is_plain (policy_word policy) ≡ true
policy_plain policies.Open = refl
policy_plain policies.Fair = refl

pub statement_plain : (statement : Statement) → texts_plain (statement_words statement) ≡ true
statement_plain (Site cap send delay timer per_mille slack policy room) = rw (policy_plain policy) refl
statement_plain (Inverter wmax wsf psf floor) = refl
statement_plain (Begin at) = refl
statement_plain (Says (lines_of.One (calls.Link at inverter))) = refl
statement_plain (Says (lines_of.One (calls.Ask at inverter raw))) = refl
statement_plain (Says (lines_of.One (calls.Read at inverter))) = refl
statement_plain (Says (lines_of.One (calls.Saw at inverter number raw))) = refl
statement_plain (Says (lines_of.One (calls.Back at inverter link number))) = refl
statement_plain (Says (lines_of.One (calls.Want at inverter mw))) = refl
statement_plain (Says (lines_of.One (calls.Tick at))) = refl
statement_plain (Says (lines_of.One (calls.Stop at))) = refl
statement_plain (Says (lines_of.One (calls.Cap at mw))) = refl
statement_plain (Says (lines_of.Restart at)) = refl
statement_plain (Says lines_of.Roll) = refl

pub reply_plain : (reply : Reply) → texts_plain (reply_words reply) ≡ true
reply_plain (replies.Linked link) = refl
reply_plain (replies.Granted write) = refl
reply_plain (replies.ReadAs read) = refl
reply_plain (replies.Freed count reserved) = refl
reply_plain replies.Taken = refl
reply_plain (replies.Total total) = refl
reply_plain replies.Unlinked = refl
reply_plain replies.Spent = refl
reply_plain (replies.Over full) = refl
reply_plain (replies.Silent until) = refl
reply_plain (replies.NotAllowed raw) = refl
reply_plain (replies.NoWatts unreserved) = refl
reply_plain replies.Crowded = refl
reply_plain replies.NoRead = refl
reply_plain (replies.Strange raw) = refl
reply_plain replies.NoWrite = refl
reply_plain (replies.CapSet cap ceiling) = refl
reply_plain (replies.CapOut least most) = refl

-- a text is a row that spells the statement, with its end
record IsRowOf (text : List ℕ) (statement : Statement) : Type 0 where
  row : List ℕ
  parts : text ≡ row ++ 10 ∷ []
  plain : is_plain row ≡ true
  is : IsSpelled row statement

bare_row : (statement : Statement) → InRange statement → IsRowOf (line_text (statement_words statement)) statement
bare_row statement range = record {
  row = spaced (map written (statement_words statement));
  parts = refl;
  plain = words_plain (statement_words statement) (statement_plain statement);
  is = record {
    words = map written (statement_words statement);
    unread = [];
    are = words_are (statement_words statement) (fit_of statement range);
    spelling = sym (append-nil (spaced (map written (statement_words statement))));
    is_unread = tt;
  };
}

-- words with others behind them
spaced_more : (word : Word) (words more : List Word) → spaced (map written ((word ∷ words) ++ more)) ≡ spaced (map written (word ∷ words)) ++ flat_map (λ word. 32 ∷ word) (map written more)
spaced_more word words more =
    ap (λ (x : List (List ℕ)). written word ++ flat_map (λ word. 32 ∷ word) x) (map-append written words more)
    ∙ ap (λ (x : List ℕ). written word ++ x) (flat_map-append (λ word. 32 ∷ word) (map written words) (map written more))
    ∙ sym (append_assoc (written word) (flat_map (λ word. 32 ∷ word) (map written words)) (flat_map (λ word. 32 ∷ word) (map written more)))

replied_row : (statement : Statement) (word : Word) (words reply : List Word) → statement_words statement ≡ word ∷ words → InRange statement → texts_plain reply ≡ true → IsRowOf (replied_text (statement_words statement) reply) statement
replied_row statement word words reply are range plain =
    let behind : List ℕ = flat_map (λ word. 32 ∷ word) (map written (Text (codes "=") ∷ reply)) in
    let front : List ℕ = spaced (map written (statement_words statement)) in
    let spelled : spaced (map written (statement_words statement ++ Text (codes "=") ∷ reply)) ≡ front ++ behind =
    subst (λ (ws : List Word). spaced (map written (ws ++ Text (codes "=") ∷ reply)) ≡ spaced (map written ws) ++ behind) (sym are) (spaced_more word words (Text (codes "=") ∷ reply)) in
    let all : is_plain (front ++ behind) ≡ true = plain_more front behind (words_plain (statement_words statement) (statement_plain statement)) (spaces_plain (Text (codes "=") ∷ reply) plain) in
    record {
      row = front ++ behind;
      parts = ap (λ (x : List ℕ). x ++ 10 ∷ []) spelled;
      plain = all;
      is = record {
        words = map written (statement_words statement);
        unread = behind;
        are = words_are (statement_words statement) (fit_of statement range);
        spelling = refl;
        is_unread = inr (refl, inl refl);
      };
    }

entry_row : (call : Call) (reply : Reply) → InRange (Says (lines_of.One call)) → IsRowOf (replied_text (call_words call) (reply_words reply)) (Says (lines_of.One call))
entry_row (calls.Link at inverter) reply range = replied_row (Says (lines_of.One (calls.Link at inverter))) (Text (codes "link")) (Number at ∷ Number inverter ∷ []) (reply_words reply) refl range (reply_plain reply)
entry_row (calls.Ask at inverter raw) reply range = replied_row (Says (lines_of.One (calls.Ask at inverter raw))) (Text (codes "ask")) (Number at ∷ Number inverter ∷ Number raw ∷ []) (reply_words reply) refl range (reply_plain reply)
entry_row (calls.Read at inverter) reply range = replied_row (Says (lines_of.One (calls.Read at inverter))) (Text (codes "read")) (Number at ∷ Number inverter ∷ []) (reply_words reply) refl range (reply_plain reply)
entry_row (calls.Saw at inverter number raw) reply range = replied_row (Says (lines_of.One (calls.Saw at inverter number raw))) (Text (codes "saw")) (Number at ∷ Number inverter ∷ Number number ∷ Number raw ∷ []) (reply_words reply) refl range (reply_plain reply)
entry_row (calls.Back at inverter link number) reply range = replied_row (Says (lines_of.One (calls.Back at inverter link number))) (Text (codes "back")) (Number at ∷ Number inverter ∷ Number link ∷ Number number ∷ []) (reply_words reply) refl range (reply_plain reply)
entry_row (calls.Want at inverter mw) reply range = replied_row (Says (lines_of.One (calls.Want at inverter mw))) (Text (codes "want")) (Number at ∷ Number inverter ∷ Number mw ∷ []) (reply_words reply) refl range (reply_plain reply)
entry_row (calls.Tick at) reply range = replied_row (Says (lines_of.One (calls.Tick at))) (Text (codes "tick")) (Number at ∷ []) (reply_words reply) refl range (reply_plain reply)
entry_row (calls.Stop at) reply range = replied_row (Says (lines_of.One (calls.Stop at))) (Text (codes "stop")) (Number at ∷ []) (reply_words reply) refl range (reply_plain reply)
entry_row (calls.Cap at mw) reply range = replied_row (Says (lines_of.One (calls.Cap at mw))) (Text (codes "cap")) (Number at ∷ Number mw ∷ []) (reply_words reply) refl range (reply_plain reply)

deed_row : (deed : Deed) → InRange (Says (deed_line deed)) → IsRowOf (deed_text deed) (Says (deed_line deed))
deed_row (Entered entry) range = entry_row entry.call entry.reply range
deed_row (Begun at) range = replied_row (Says (lines_of.Restart at)) (Text (codes "restart")) (Number at ∷ []) (Text (codes "begun") ∷ []) refl range refl
deed_row Rolled range = replied_row (Says lines_of.Roll) (Text (codes "roll")) [] (Text (codes "rolled") ∷ []) refl range refl

-- rows one behind the other

abbrev AreRows : List (List ℕ) → List Statement → Type 0
AreRows [] [] = Unit {0}
AreRows (text ∷ texts) (statement ∷ statements) = IsRowOf text statement × AreRows texts statements
AreRows _ _ = ⊥

abbrev joined : List (List ℕ) → List ℕ
joined texts = flat_map (λ text. text) texts

rows_say : (texts : List (List ℕ)) (statements : List Statement) → AreRows texts statements → Say (lines (joined texts)) (map (λ statement. Some statement) statements)
rows_say [] [] are = tt
rows_say [] (statement ∷ statements) are = absurd are
rows_say (text ∷ texts) [] are = absurd are
rows_say (text ∷ texts) (statement ∷ statements) are =
    let one = are.0 in
    let rest : List ℕ = joined texts in
    let all : text ++ rest ≡ one.row ++ 10 ∷ rest = ap (λ (x : List ℕ). x ++ rest) one.parts ∙ append_assoc one.row (10 ∷ []) rest in
    let row : row_at (one.row ++ 10 ∷ rest) ≡ one.row = row_past one.row (10 ∷ rest) one.plain ∙ append-nil one.row in
    let behind : behind_row (one.row ++ 10 ∷ rest) ≡ rest = behind_past one.row (10 ∷ rest) one.plain in
    let first : lines (text ++ rest) ≡ one.row ∷ lines rest =
    ap lines all ∙ lines_first (one.row ++ 10 ∷ rest) (omega (arith, length-append one.row (10 ∷ rest))) ∙ (λ i. row i ∷ lines (behind i)) in
    subst (λ (rows : List (List ℕ)). Say rows (Some statement ∷ map (λ statement. Some statement) statements)) (sym first) (one.is, rows_say texts statements are.1)

rows_more : (texts more : List (List ℕ)) (statements others : List Statement) → AreRows texts statements → AreRows more others → AreRows (texts ++ more) (statements ++ others)
rows_more [] more [] others p q = q
rows_more [] more (statement ∷ statements) others p q = absurd p
rows_more (text ∷ texts) more [] others p q = absurd p
rows_more (text ∷ texts) more (statement ∷ statements) others p q = (p.0, rows_more texts more statements others p.1 q)

all_in_range : (before later : List Statement) → EachMayFollow before later → AllByRecursion InRange later
all_in_range before [] each = tt
all_in_range before (statement ∷ later) each = (each.0.range, all_in_range (before ++ statement ∷ []) later each.1)

range_parts : (a b : List Statement) → AllByRecursion InRange (a ++ b) → AllByRecursion InRange a × AllByRecursion InRange b
range_parts [] b all = (tt, all)
range_parts (one ∷ a) b all = let parts = range_parts a b all.1 in ((all.0, parts.0), parts.1)

bare_rows : (statements : List Statement) → AllByRecursion InRange statements → AreRows (map statement_text statements) statements
bare_rows [] all = tt
bare_rows (statement ∷ statements) all = (bare_row statement all.0, bare_rows statements all.1)

deed_rows : (deeds : List Deed) → AllByRecursion InRange (map (λ line. Says line) (map deed_line deeds)) → AreRows (map deed_text deeds) (map (λ line. Says line) (map deed_line deeds))
deed_rows [] all = tt
deed_rows (deed ∷ deeds) all = (deed_row deed all.0, deed_rows deeds all.1)

joined_more : (a b : List (List ℕ)) → joined (a ++ b) ≡ joined a ++ joined b
joined_more a b = flat_map-append (λ (text : List ℕ). text) a b

joined_map : {A : Type 0} (f : A → List ℕ) (xs : List A) → joined (map f xs) ≡ flat_map f xs
joined_map f [] = refl
joined_map f (x ∷ xs) = ap (λ (y : List ℕ). f x ++ y) (joined_map f xs)

joined_units : (units : List unit.Unit) → joined (map statement_text (map inverter_statement units)) ≡ inverters_text units
joined_units [] = refl
joined_units (one ∷ units) = ap (λ (y : List ℕ). statement_text (inverter_statement one) ++ y) (joined_units units)

head_joined : (site : SiteRecord) (start : ℕ) → joined (map statement_text (head_statements site start)) ≡ head_text site start
head_joined site start =
    let first : List ℕ = statement_text (site_statement site.cap site.rules site.policy site.room) in
    ap (λ (x : List ℕ). first ++ x) (ap joined (map-append statement_text (map inverter_statement site.units) (Begin start ∷ [])) ∙ joined_more (map statement_text (map inverter_statement site.units)) (statement_text (Begin start) ∷ [])
    ∙ ap (λ (x : List ℕ). x ++ joined (statement_text (Begin start) ∷ [])) (joined_units site.units) ∙ ap (λ (x : List ℕ). inverters_text site.units ++ x) (append-nil (statement_text (Begin start))))
    ∙ sym (append_assoc first (inverters_text site.units) (statement_text (Begin start)))

somes : (statements : List Statement) → statements_of (map (λ statement. Some statement) statements) ≡ statements
somes [] = refl
somes (statement ∷ statements) = ap (λ (x : List Statement). statement ∷ x) (somes statements)

pub reads_back : (script : ScriptRecord) (deeds : List Deed) → map deed_line deeds ≡ script.lines → EachMayFollow [] (script_statements script) → IsScript (lives_text script.site script.start deeds) script
reads_back script deeds are each =
    let head : List Statement = head_statements script.site script.start in
    let its : List Statement = map (λ line. Says line) (map deed_line deeds) in
    let all : head ++ its ≡ script_statements script = ap (λ (x : List Line). head ++ map (λ line. Says line) x) are in
    let ranges = range_parts head its (all_in_range [] (head ++ its) (subst (λ (x : List Statement). EachMayFollow [] x) (sym all) each)) in
    let rows = rows_more (map statement_text head) (map deed_text deeds) head its (bare_rows head ranges.0) (deed_rows deeds ranges.1) in
    let text : joined (map statement_text head ++ map deed_text deeds) ≡ lives_text script.site script.start deeds =
    joined_more (map statement_text head) (map deed_text deeds) ∙ (λ i. head_joined script.site script.start i ++ joined_map deed_text deeds i) in
    record {
      said = map (λ statement. Some statement) (head ++ its);
      say = subst (λ (x : List ℕ). Say (lines x) (map (λ statement. Some statement) (head ++ its))) text (rows_say (map statement_text head ++ map deed_text deeds) (head ++ its) rows);
      statements = somes (head ++ its) ∙ all;
      each = each;
    }
