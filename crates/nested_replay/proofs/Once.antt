-- An input is one list of buses and one script at most, or it has a bad line.
use Rattle.std.proofs.Common.{◌≡◌, ℕ, ◌+◌, ◌<◌, ◌≤◌, inl, inr, List, [], ◌∷◌, ◌++◌, length, Option, Some, None, refl, sym, ap, subst, ◌∙◌, arith, append_assoc, length-append}
use Rattle.std.specs.Prelude.{codes}
use Rattle.std.specs.List.{flat_map}
use Rattle.std.specs.Option.{option_to_list}
use Rattle.std.specs.Str.Lines.{lines}
use Rattle.std.proofs.lemmas.Bool.{cases_order}
use Rattle.std.proofs.lemmas.List.{append-nil, append_cancel_left}
use Rattle.std.proofs.lemmas.List.Concat.{flat_map-append}
use Rattle.plant_book.specs.declared.call.Call.TheVariants as calls
use Rattle.script_text.specs.declared.line.Line.TheVariants as kinds_of_line
use Rattle.script_text.specs.declared.line.LineKind.{LineKind}
use Rattle.script_text.specs.declared.line.LineKind.TheVariants as kinds
use Rattle.script_text.specs.Words.{Text, Number, Signed, AreWords, spaced}
use Rattle.script_text.specs.Grammar.{Statement, Site, Inverter, Begin, Says, IsSpelled, IsComment, policy_word}
use Rattle.script_text.specs.Script.{ScriptRecord, Say, statements_of}
use Rattle.script_text.proofs.Spelled.{spelled_once}
use Rattle.script_text.proofs.Spelled as spelled
use Rattle.one_life_script.specs.Rows.{BeginsWith, SpellsWords}
use Rattle.one_life_script.specs.OneLife.{EndsBook, EndNoBook, IsOneLifeScript, IsFirstBadLineOfOne}
use Rattle.one_life_script.proofs.Ends.{cut}
use Rattle.one_life_script.proofs.Calls.{first_word}
use Rattle.one_life_script.proofs.Once as one
use Rattle.busbars.specs.declared.bus.Bus as bus
use Rattle.nested_replay.specs.Nested.{bus_words, IsBusInRange, SayBuses, buses_of, BeginsNoBus, NestedRecord, IsNested, IsBadBus, IsBadBusFirst, IsFirstBadNested}

-- what a bus's line is not

begins_of : (row : List ℕ) (b : bus.Bus) → SpellsWords row (bus_words b) → BeginsWith (codes "bus") row
begins_of row b s = first_word (codes "bus") (Number b.cap ∷ Number b.lo ∷ Number b.hi ∷ []) s.spelled s.unread row s.are s.spelling

abbrev first_byte : List ℕ → ℕ
first_byte [] = 0
first_byte (byte ∷ more) = byte

abbrev second_byte : List ℕ → ℕ
second_byte (byte ∷ next ∷ more) = next
second_byte _ = 0

no_comment : (row : List ℕ) → BeginsWith (codes "bus") row → IsComment row → ⊥
no_comment [] begins is = is
no_comment (byte ∷ row) begins is = let e : byte ≡ 98 = ap first_byte begins.1 in omega (arith, e, is)

apart : (text more other row : List ℕ) → row ≡ text ++ more → row ≡ codes "bus" ++ other → text ++ more ≡ codes "bus" ++ other
apart text more other row p q = sym p ∙ q

no_statement : (row : List ℕ) (statement : Statement) → BeginsWith (codes "bus") row → IsSpelled row statement → ⊥
no_statement row (Site cap send delay timer per_mille slack policy room) b is = let w = first_word (codes "site") (Number cap ∷ Number send ∷ Number delay ∷ Number timer ∷ Number per_mille ∷ Number slack ∷ Text (policy_word policy) ∷ Number room ∷ []) is.words is.unread row is.are is.spelling in let e : 115 ≡ 98 = ap first_byte (apart (codes "site") w.0 b.0 row w.1 b.1) in omega (arith, e)
no_statement row (Inverter wmax wsf psf floor) b is = let w = first_word (codes "inverter") (Number wmax ∷ Signed wsf ∷ Signed psf ∷ Number floor ∷ []) is.words is.unread row is.are is.spelling in let e : 105 ≡ 98 = ap first_byte (apart (codes "inverter") w.0 b.0 row w.1 b.1) in omega (arith, e)
no_statement row (Begin at) b is = let w = first_word (codes "begin") (Number at ∷ []) is.words is.unread row is.are is.spelling in let e : 101 ≡ 117 = ap second_byte (apart (codes "begin") w.0 b.0 row w.1 b.1) in omega (arith, e)
no_statement row (Says (kinds_of_line.Restart at)) b is = let w = first_word (codes "restart") (Number at ∷ []) is.words is.unread row is.are is.spelling in let e : 114 ≡ 98 = ap first_byte (apart (codes "restart") w.0 b.0 row w.1 b.1) in omega (arith, e)
no_statement row (Says kinds_of_line.Roll) b is = let w = first_word (codes "roll") [] is.words is.unread row is.are is.spelling in let e : 114 ≡ 98 = ap first_byte (apart (codes "roll") w.0 b.0 row w.1 b.1) in omega (arith, e)
no_statement row (Says (kinds_of_line.One (calls.Link at i))) b is = let w = first_word (codes "link") (Number at ∷ Number i ∷ []) is.words is.unread row is.are is.spelling in let e : 108 ≡ 98 = ap first_byte (apart (codes "link") w.0 b.0 row w.1 b.1) in omega (arith, e)
no_statement row (Says (kinds_of_line.One (calls.Ask at i raw))) b is = let w = first_word (codes "ask") (Number at ∷ Number i ∷ Number raw ∷ []) is.words is.unread row is.are is.spelling in let e : 97 ≡ 98 = ap first_byte (apart (codes "ask") w.0 b.0 row w.1 b.1) in omega (arith, e)
no_statement row (Says (kinds_of_line.One (calls.Read at i))) b is = let w = first_word (codes "read") (Number at ∷ Number i ∷ []) is.words is.unread row is.are is.spelling in let e : 114 ≡ 98 = ap first_byte (apart (codes "read") w.0 b.0 row w.1 b.1) in omega (arith, e)
no_statement row (Says (kinds_of_line.One (calls.Saw at i number raw))) b is = let w = first_word (codes "saw") (Number at ∷ Number i ∷ Number number ∷ Number raw ∷ []) is.words is.unread row is.are is.spelling in let e : 115 ≡ 98 = ap first_byte (apart (codes "saw") w.0 b.0 row w.1 b.1) in omega (arith, e)
no_statement row (Says (kinds_of_line.One (calls.Back at i link number))) b is = let w = first_word (codes "back") (Number at ∷ Number i ∷ Number link ∷ Number number ∷ []) is.words is.unread row is.are is.spelling in let e : 97 ≡ 117 = ap second_byte (apart (codes "back") w.0 b.0 row w.1 b.1) in omega (arith, e)
no_statement row (Says (kinds_of_line.One (calls.Want at i mw))) b is = let w = first_word (codes "want") (Number at ∷ Number i ∷ Number mw ∷ []) is.words is.unread row is.are is.spelling in let e : 119 ≡ 98 = ap first_byte (apart (codes "want") w.0 b.0 row w.1 b.1) in omega (arith, e)
no_statement row (Says (kinds_of_line.One (calls.Tick at))) b is = let w = first_word (codes "tick") (Number at ∷ []) is.words is.unread row is.are is.spelling in let e : 116 ≡ 98 = ap first_byte (apart (codes "tick") w.0 b.0 row w.1 b.1) in omega (arith, e)
no_statement row (Says (kinds_of_line.One (calls.Stop at))) b is = let w = first_word (codes "stop") (Number at ∷ []) is.words is.unread row is.are is.spelling in let e : 115 ≡ 98 = ap first_byte (apart (codes "stop") w.0 b.0 row w.1 b.1) in omega (arith, e)
no_statement row (Says (kinds_of_line.One (calls.Cap at mw))) b is = let w = first_word (codes "cap") (Number at ∷ Number mw ∷ []) is.words is.unread row is.are is.spelling in let e : 99 ≡ 98 = ap first_byte (apart (codes "cap") w.0 b.0 row w.1 b.1) in omega (arith, e)

-- a row of a script doesn't begin as a bus's line does
no_bus_row : (row : List ℕ) (rows : List (List ℕ)) (said : List (Option Statement)) → Say (row ∷ rows) said → BeginsWith (codes "bus") row → ⊥
no_bus_row row rows [] say begins = say
no_bus_row row rows (None ∷ said) say begins = no_comment row begins say.0
no_bus_row row rows (Some statement ∷ said) say begins = no_statement row statement begins say.0

-- a row spells one bus: as one Ask, whose line has a text and three numbers too

cut_text : (row more : List ℕ) (b : bus.Bus) → row ≡ codes "bus" ++ more → SpellsWords row (bus_words b) → IsSpelled (codes "ask" ++ more) (Says (kinds_of_line.One (calls.Ask b.cap b.lo b.hi)))
cut_text row more b is s = by_words s.spelled s.are s.spelling
  where
    by_words : (words : List (List ℕ)) → AreWords (bus_words b) words → row ≡ spaced words ++ s.unread → IsSpelled (codes "ask" ++ more) (Says (kinds_of_line.One (calls.Ask b.cap b.lo b.hi)))
    by_words [] are e = absurd are
    by_words (word ∷ words) are e =
        let all : codes "bus" ++ more ≡ codes "bus" ++ (flat_map (λ word. 32 ∷ word) words ++ s.unread) =
        sym is ∙ e ∙ append_assoc word (flat_map (λ word. 32 ∷ word) words) s.unread ∙ ap (λ (x : List ℕ). x ++ (flat_map (λ word. 32 ∷ word) words ++ s.unread)) are.0 in
        let rest : more ≡ flat_map (λ word. 32 ∷ word) words ++ s.unread = append_cancel_left (codes "bus") more (flat_map (λ word. 32 ∷ word) words ++ s.unread) all in
        record { words = codes "ask" ∷ words; unread = s.unread; are = (refl, are.1); spelling = ap (λ (x : List ℕ). codes "ask" ++ x) rest; is_unread = s.is_unread }

ask_numbers : Statement → ℕ × ℕ × ℕ
ask_numbers (Says (kinds_of_line.One (calls.Ask a b c))) = (a, b, c)
ask_numbers _ = (0, 0, 0)

one_bus : (row : List ℕ) (a b : bus.Bus) → SpellsWords row (bus_words a) → SpellsWords row (bus_words b) → a ≡ b
unfolding ask_numbers
one_bus row a b p q =
    let begins = begins_of row a p in
    let same = spelled_once (codes "ask" ++ begins.0) (Says (kinds_of_line.One (calls.Ask a.cap a.lo a.hi))) (Says (kinds_of_line.One (calls.Ask b.cap b.lo b.hi))) (cut_text row begins.0 a begins.1 p) (cut_text row begins.0 b begins.1 q) in
    let numbers = ap ask_numbers same in
    λ i. record { cap = (numbers i).0; lo = (numbers i).1; hi = (numbers i).2 }

-- rows in front of a script, and rows of one

-- these rows are comments
abbrev AreComments : List (List ℕ) → Type 0
AreComments [] = Unit {0}
AreComments (row ∷ rows) = IsComment row × AreComments rows

record Parts (mid : List (List ℕ)) (said : List (Option bus.Bus)) : Type 0 where
  comments : AreComments mid
  none : buses_of said ≡ []

-- rows that are said by buses and by a script are comments
by_say : (mid rows : List (List ℕ)) (said : List (Option bus.Bus)) (all : List (Option Statement)) → SayBuses mid said → Say (mid ++ rows) all → Parts mid said
by_say [] rows [] all p q = record { comments = tt; none = refl }
by_say [] rows (None ∷ said) all p q = absurd p
by_say [] rows (Some b ∷ said) all p q = absurd p
by_say (row ∷ mid) rows [] all p q = absurd p
by_say (row ∷ mid) rows (None ∷ said) [] p q = absurd q
by_say (row ∷ mid) rows (None ∷ said) (None ∷ all) p q = let more = by_say mid rows said all p.1 q.1 in record { comments = (p.0, more.comments); none = more.none }
by_say (row ∷ mid) rows (None ∷ said) (Some statement ∷ all) p q = let more = by_say mid rows said all p.1 q.1 in record { comments = (p.0, more.comments); none = more.none }
by_say (row ∷ mid) rows (Some b ∷ said) all p q = absurd (no_bus_row row (mid ++ rows) all q (begins_of row b p.0))

-- so are rows before which no bus begins
by_begin : (mid rows : List (List ℕ)) (said : List (Option bus.Bus)) → SayBuses mid said → BeginsNoBus (mid ++ rows) → Parts mid said
by_begin [] rows [] p q = record { comments = tt; none = refl }
by_begin [] rows (None ∷ said) p q = absurd p
by_begin [] rows (Some b ∷ said) p q = absurd p
by_begin (row ∷ mid) rows [] p q = absurd p
by_begin (row ∷ mid) rows (None ∷ said) p (inl q) = let more = by_begin mid rows said p.1 q.1 in record { comments = (p.0, more.comments); none = more.none }
by_begin (row ∷ mid) rows (None ∷ said) p (inr q) = absurd (q.0 p.0)
by_begin (row ∷ mid) rows (Some b ∷ said) p (inl q) = absurd (no_comment row (begins_of row b p.0) q.0)
by_begin (row ∷ mid) rows (Some b ∷ said) p (inr q) = absurd (q.1 (begins_of row b p.0))

-- comments before the rows of a script say nothing
record Same (rows : List (List ℕ)) (said : List (Option Statement)) : Type 0 where
  other : List (Option Statement)
  say : Say rows other
  same : statements_of other ≡ statements_of said

without : (mid rows : List (List ℕ)) (all : List (Option Statement)) → AreComments mid → Say (mid ++ rows) all → Same rows all
without [] rows all p q = record { other = all; say = q; same = refl }
without (row ∷ mid) rows [] p q = absurd q
without (row ∷ mid) rows (None ∷ all) p q = let more = without mid rows all p.1 q.1 in record { other = more.other; say = more.say; same = more.same }
without (row ∷ mid) rows (Some statement ∷ all) p q = absurd (comment_said row statement p.0 q.0)
  where
    comment_said : (row : List ℕ) (statement : Statement) → IsComment row → IsSpelled row statement → ⊥
    comment_said row statement c s = spelled.no_comment row statement s c

with_comments : (mid rows : List (List ℕ)) (all : List (Option Statement)) → AreComments mid → Say rows all → Same (mid ++ rows) all
with_comments [] rows all p q = record { other = all; say = q; same = refl }
with_comments (row ∷ mid) rows all p q = let more = with_comments mid rows all p.1 q in record { other = None ∷ more.other; say = (p.0, more.say); same = more.same }

comment_ends_not : (row : List ℕ) → IsComment row → EndsBook row → ⊥
comment_ends_not [] c e = c
comment_ends_not (byte ∷ row) c (inl (more, e)) = let r : byte ≡ 114 = ap first_byte e in omega (arith, r, c)
comment_ends_not (byte ∷ row) c (inr (more, e)) = let r : byte ≡ 114 = ap first_byte e in omega (arith, r, c)

end_none_back : (mid rows : List (List ℕ)) → EndNoBook (mid ++ rows) → EndNoBook rows
end_none_back [] rows all = all
end_none_back (row ∷ mid) rows all = end_none_back mid rows all.1

end_none_with : (mid rows : List (List ℕ)) → AreComments mid → EndNoBook rows → EndNoBook (mid ++ rows)
end_none_with [] rows c all = all
end_none_with (row ∷ mid) rows c all = (comment_ends_not row c.0, end_none_with mid rows c.1 all)

drop_comments : (bytes rest : List ℕ) (mid : List (List ℕ)) (script : ScriptRecord) → lines bytes ≡ mid ++ lines rest → AreComments mid → IsOneLifeScript bytes script → IsOneLifeScript rest script
drop_comments bytes rest mid script rows c p =
    let s = without mid (lines rest) p.is_script.said c (subst (λ (x : List (List ℕ)). Say x p.is_script.said) rows p.is_script.say) in
    record {
      is_script = record { said = s.other; say = s.say; statements = s.same ∙ p.is_script.statements; each = p.is_script.each };
      one = end_none_back mid (lines rest) (subst EndNoBook rows p.one);
    }

put_comments : (bytes rest : List ℕ) (mid : List (List ℕ)) (script : ScriptRecord) → lines bytes ≡ mid ++ lines rest → AreComments mid → IsOneLifeScript rest script → IsOneLifeScript bytes script
put_comments bytes rest mid script rows c p =
    let s = with_comments mid (lines rest) p.is_script.said c p.is_script.say in
    record {
      is_script = record { said = s.other; say = subst (λ (x : List (List ℕ)). Say x s.other) (sym rows) s.say; statements = s.same ∙ p.is_script.statements; each = p.is_script.each };
      one = subst EndNoBook (sym rows) (end_none_with mid (lines rest) c p.one);
    }

-- what rows say in front of a script, with what rows before them say

record Behind (rows : List (List ℕ)) (said said' : List (Option bus.Bus)) : Type 0 where
  more : List (Option bus.Bus)
  say : SayBuses rows more
  said_is : said ≡ said' ++ more

behind : (before rows : List (List ℕ)) (said said' : List (Option bus.Bus)) → SayBuses (before ++ rows) said → SayBuses before said' → Behind rows said said'
behind [] rows said [] p q = record { more = said; say = p; said_is = refl }
behind [] rows said (None ∷ said') p q = absurd q
behind [] rows said (Some b ∷ said') p q = absurd q
behind (row ∷ before) rows [] said' p q = absurd p
behind (row ∷ before) rows (None ∷ said) [] p q = absurd q
behind (row ∷ before) rows (Some a ∷ said) [] p q = absurd q
behind (row ∷ before) rows (None ∷ said) (None ∷ said') p q =
    let more = behind before rows said said' p.1 q.1 in
    record { more = more.more; say = more.say; said_is = ap (λ (z : List (Option bus.Bus)). None ∷ z) more.said_is }
behind (row ∷ before) rows (None ∷ said) (Some b ∷ said') p q = absurd (no_comment row (begins_of row b q.0) p.0)
behind (row ∷ before) rows (Some a ∷ said) (None ∷ said') p q = absurd (no_comment row (begins_of row a p.0) q.0)
behind (row ∷ before) rows (Some a ∷ said) (Some b ∷ said') p q =
    let more = behind before rows said said' p.2 q.2 in
    let same : a ≡ b = one_bus row a b p.0 q.0 in
    let rest = more.said_is in
    record { more = more.more; say = more.say; said_is = λ i. Some (same i) ∷ rest i }

-- one input

nested_from : (bytes : List ℕ) (a b : NestedRecord) (p : IsNested bytes a) (q : IsNested bytes b) → length p.front ≤ length q.front → a ≡ b
nested_from bytes a b p q le =
    let c = cut p.front q.front (lines p.rest) (lines q.rest) (sym p.rows ∙ q.rows) le in
    let more = behind p.front c.rows q.said p.said (subst (λ (x : List (List ℕ)). SayBuses x q.said) c.before_is q.say) p.say in
    let parts = by_say c.rows (lines q.rest) more.more p.script.is_script.said more.say (subst (λ (x : List (List ℕ)). Say x p.script.is_script.said) c.rest_is p.script.is_script.say) in
    let script : a.script ≡ b.script = one.one_script q.rest a.script b.script (drop_comments p.rest q.rest c.rows a.script c.rest_is parts.comments p.script) q.script in
    let said : buses_of q.said ≡ buses_of p.said =
    ap buses_of more.said_is ∙ flat_map-append option_to_list p.said more.more ∙ ap (λ (x : List bus.Bus). buses_of p.said ++ x) parts.none ∙ append-nil (buses_of p.said) in
    let buses : a.buses ≡ b.buses = p.buses ∙ sym said ∙ sym q.buses in
    λ i. record { buses = buses i; script = script i }

pub one_nested : (bytes : List ℕ) (a b : NestedRecord) → IsNested bytes a → IsNested bytes b → a ≡ b
one_nested bytes a b p q =
    elim (cases_order (length p.front) (length q.front)) [
      | inl same ↦ nested_from bytes a b p q (omega (arith, same))
      | inr other ↦ elim other [ inl less ↦ nested_from bytes a b p q (omega (arith, less)) | inr more ↦ sym (nested_from bytes b a q p (omega (arith, more))) ]
    ]

-- a bad bus's line is none of an input

begins_bad : (kind : LineKind) (before : List bus.Bus) (row : List ℕ) → IsBadBus kind before row → BeginsWith (codes "bus") row
begins_bad kinds.Form before row bad = bad.0
begins_bad kinds.Value before row bad = begins_of row bad.1 bad.2
begins_bad kinds.Inverter before row bad = absurd bad
begins_bad kinds.Time before row bad = absurd bad

good_bus : (kind : LineKind) (before : List bus.Bus) (row : List ℕ) (b : bus.Bus) → length before < 32 → SpellsWords row (bus_words b) → IsBusInRange b → IsBadBus kind before row → ⊥
good_bus kinds.Form before row b less s range (begins, inl full) = omega (arith, less, full)
good_bus kinds.Form before row b less s range (begins, inr none) = none b s
good_bus kinds.Value before row b less s range bad = bad.3 (subst IsBusInRange (one_bus row b bad.1 s bad.2) range)
good_bus kinds.Inverter before row b less s range bad = bad
good_bus kinds.Time before row b less s range bad = bad

bad_said : (kind : LineKind) (rows rest : List (List ℕ)) (said said' : List (Option bus.Bus)) → 1 ≤ length rows → SayBuses rows said → length (buses_of said') + length (buses_of said) ≤ 32 → IsBadBusFirst kind (buses_of said') (rows ++ rest) → ⊥
bad_said kind [] rest said said' some say few bad = omega (arith, some)
bad_said kind (row ∷ rows) rest [] said' some say few bad = say
bad_said kind (row ∷ rows) rest (None ∷ said) said' some say few bad = no_comment row (begins_bad kind (buses_of said') row bad) say.0
bad_said kind (row ∷ rows) rest (Some b ∷ said) said' some say few bad = good_bus kind (buses_of said') row b (omega (arith, few)) say.0 say.1 bad

bad_in_script : (kind : LineKind) (before : List bus.Bus) (rows : List (List ℕ)) (said : List (Option Statement)) → Say rows said → IsBadBusFirst kind before rows → ⊥
bad_in_script kind before [] said say bad = bad
bad_in_script kind before (row ∷ rows) said say bad = no_bus_row row rows said say (begins_bad kind before row bad)

say_back : (mid rows : List (List ℕ)) (all : List (Option Statement)) → Say (mid ++ rows) all → (said : List (Option Statement)) × Say rows said
say_back [] rows all say = (all, say)
say_back (row ∷ mid) rows [] say = absurd say
say_back (row ∷ mid) rows (None ∷ all) say = say_back mid rows all say.1
say_back (row ∷ mid) rows (Some statement ∷ all) say = say_back mid rows all say.1

bad_bus : (bytes : List ℕ) (a : NestedRecord) (kind : LineKind) (p : IsNested bytes a) (front : List (List ℕ)) (said : List (Option bus.Bus)) (rest : List ℕ) → lines bytes ≡ front ++ lines rest → SayBuses front said → IsBadBusFirst kind (buses_of said) (lines rest) → ⊥
bad_bus bytes a kind p front said rest rows say bad =
    elim (cases_order (length front) (length p.front)) [
      | inl same ↦ behind_front (omega (arith, same))
      | inr other ↦ elim other [ inl less ↦ within less | inr more ↦ behind_front (omega (arith, more)) ]
    ]
  where
    behind_front : length p.front ≤ length front → ⊥
    behind_front le =
        let c = cut p.front front (lines p.rest) (lines rest) (sym p.rows ∙ rows) le in
        let here = say_back c.rows (lines rest) p.script.is_script.said (subst (λ (x : List (List ℕ)). Say x p.script.is_script.said) c.rest_is p.script.is_script.say) in
        bad_in_script kind (buses_of said) (lines rest) here.0 here.1 bad

    within : length front < length p.front → ⊥
    within less =
        let c = cut front p.front (lines rest) (lines p.rest) (sym rows ∙ p.rows) (omega (arith, less)) in
        let more = behind front c.rows p.said said (subst (λ (x : List (List ℕ)). SayBuses x p.said) c.before_is p.say) say in
        let all : buses_of p.said ≡ buses_of said ++ buses_of more.more = ap buses_of more.said_is ∙ flat_map-append option_to_list said more.more in
        bad_said kind c.rows (lines p.rest) more.more said (omega (arith, less, ap length c.before_is, length-append front c.rows)) more.say
        (omega (arith, p.few, ap length p.buses, ap length all, length-append (buses_of said) (buses_of more.more)))
        (subst (IsBadBusFirst kind (buses_of said)) c.rest_is bad)

bad_script : (bytes : List ℕ) (a : NestedRecord) (kind : LineKind) (line : ℕ) (p : IsNested bytes a) (front : List (List ℕ)) (said : List (Option bus.Bus)) (rest : List ℕ) → lines bytes ≡ front ++ lines rest → SayBuses front said → BeginsNoBus (lines rest)
    → IsFirstBadLineOfOne rest line kind → ⊥
bad_script bytes a kind line p front said rest rows say begins bad =
    elim (cases_order (length front) (length p.front)) [
      | inl same ↦ before_front (omega (arith, same))
      | inr other ↦ elim other [ inl less ↦ before_front (omega (arith, less)) | inr more ↦ behind_front (omega (arith, more)) ]
    ]
  where
    before_front : length front ≤ length p.front → ⊥
    before_front le =
        let c = cut front p.front (lines rest) (lines p.rest) (sym rows ∙ p.rows) le in
        let more = behind front c.rows p.said said (subst (λ (x : List (List ℕ)). SayBuses x p.said) c.before_is p.say) say in
        let parts = by_begin c.rows (lines p.rest) more.more more.say (subst BeginsNoBus c.rest_is begins) in
        one.not_both rest a.script line kind (put_comments rest p.rest c.rows a.script c.rest_is parts.comments p.script) bad

    behind_front : length p.front ≤ length front → ⊥
    behind_front le =
        let c = cut p.front front (lines p.rest) (lines rest) (sym p.rows ∙ rows) le in
        let more = behind p.front c.rows said p.said (subst (λ (x : List (List ℕ)). SayBuses x said) c.before_is say) p.say in
        let parts = by_say c.rows (lines rest) more.more p.script.is_script.said more.say (subst (λ (x : List (List ℕ)). Say x p.script.is_script.said) c.rest_is p.script.is_script.say) in
        one.not_both rest a.script line kind (drop_comments p.rest rest c.rows a.script c.rest_is parts.comments p.script) bad

pub not_both : (bytes : List ℕ) (a : NestedRecord) (number : ℕ) (kind : LineKind) → IsNested bytes a → IsFirstBadNested bytes number kind → ⊥
not_both bytes a number kind p q =
    elim q.bad [
      | inl bad ↦ bad_bus bytes a kind p q.front q.said q.rest q.rows q.say bad.0
      | inr bad ↦ bad_script bytes a kind bad.1 p q.front q.said q.rest q.rows q.say bad.0 bad.2
    ]
