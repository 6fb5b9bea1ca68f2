-- What is read of a TOML text leaves a shorter one, by at least as much as the arrays that were read hold items.
use Rattle.std.proofs.Common.{◌≡◌, ℕ, zero, suc, ◌+◌, ◌<◌, ◌≤◌, Bool, true, false, ◌&&◌, ◌==◌, cond, List, [], ◌∷◌, ◌++◌, length, take, drop, Option, Some, None, is_some, unwrap_or, option_map, option_and_then, IfSome, refl, sym, arith}
use Rattle.std.specs.Prelude.{slice_index}
use Rattle.std.specs.List.{prefix_len}
use Rattle.std.proofs.lemmas.Bool.{false≢true, and_parts}
use Rattle.std.proofs.lemmas.Bool.Decides.{nat_tests}
use Rattle.std.proofs.lemmas.List.{length-drop}
use Rattle.toml_parser.specs.Lexical.{Read, first, skip_ws, skip_turn, skip_from, skip_blank, line_feed, starts_newline, is_bare, is_ws, comma, equals, left_bracket, right_bracket, left_brace, right_brace, dot}
use Rattle.toml_parser.specs.Strings.{Key, key, key_after, simple_key, one_line, quoted, body, special, at_delims, escape, escape_char, hex_escape, hex_len, simple_escape, prepend, after_piece, trim_newline, starts_string, recursion_limit}
use Rattle.toml_parser.specs.Numbers.{unquoted, word_len, word_value}
use Rattle.toml_parser.specs.declared.scalar.Scalar.{Scalar}
use Rattle.toml_parser.specs.declared.scalar.Scalar.TheVariants.{Boolean, Integer, Float, Datetime}
use Rattle.toml.specs.Data.{Data, string, integer, float, boolean, datetime, array, table, Items, no_items, item, Members, as_table, push_item, get_member}
use Rattle.toml.specs.Tables.{Nodes, no_nodes, Expression, Document, put, define}
use Rattle.toml.specs.Parse.{after_byte, after_element, key_equals, keyval, items, members, scalar_data, atom, val, header_key, expression, line, lines, skip_bom, parse_document, ends_line}
use Rattle.site_config.specs.declared.key.Key.TheVariants as keys
use Rattle.site_config.specs.Keys.{name_of, value_at, tables_of, as_tables, inverters_at}
use Rattle.site_config.proofs.Weights.{get_member_within, weight, items_weight, members_weight, nodes_weight, definition_weight, items_weight-push, members_weight-close, put_adds, define_adds}

-- blanks

shorter_if : (b : Bool) (x y : List ℕ) (much : ℕ) → length x ≤ much → length y ≤ much → length (cond b x y) ≤ much
shorter_if true x y much a c = a
shorter_if false x y much a c = c

drop_within : (n : ℕ) (text : List ℕ) → length (drop n text) ≤ length text
drop_within n text = omega (arith, length-drop n text)

skip_from_within : (comments inside : Bool) (text : List ℕ) → length (skip_from comments inside text) ≤ length text
unfolding skip_from
skip_from_within comments inside [] = omega arith
skip_from_within comments inside (c ∷ cs) =
    let more : length (skip_from comments (unwrap_or (skip_turn comments inside c (first cs)) false) cs) ≤ suc (length cs) =
    omega (arith, skip_from_within comments (unwrap_or (skip_turn comments inside c (first cs)) false) cs) in
    shorter_if (is_some (skip_turn comments inside c (first cs))) _ _ (suc (length cs)) more (omega arith)

skip_blank_within : (text : List ℕ) → length (skip_blank text) ≤ length text
skip_blank_within text = skip_from_within true false text

skip_ws_within : (text : List ℕ) → length (skip_ws text) ≤ length text
unfolding skip_ws
skip_ws_within text = drop_within (prefix_len is_ws text) text

-- a text that begins with a byte other than 0 isn't empty
begun : (text : List ℕ) (byte : ℕ) → (first text == byte) ≡ true → 0 < byte → 1 ≤ length text
begun [] byte is some = absurd (grind (arith, nat_tests))
begun (c ∷ cs) byte is some = omega arith

-- readings that leave no more than was there

-- what holds of a value that may be there
pub record Holds {A : Type 0} (o : Option A) (P : A → Type 0) : Type 0 where
  pub it : IfSome o P

none : {A : Type 0} {P : A → Type 0} → Holds None P
none = record { it = tt }

some : {A : Type 0} {a : A} {P : A → Type 0} → P a → Holds (Some a) P
some h = record { it = h }

either : {A : Type 0} (b : Bool) {x y : Option A} {P : A → Type 0} → (b ≡ true → Holds x P) → (b ≡ false → Holds y P) → Holds (cond b x y) P
either true then else = then refl
either false then else = else refl

bind : {A B : Type 0} (o : Option A) (f : A → Option B) (P : B → Type 0) → Holds o (λ a. Holds (f a) P) → Holds (option_and_then f o) P
bind None f P h = none
bind (Some a) f P h = h.it

mapped : {A B : Type 0} (o : Option A) (f : A → B) (P : B → Type 0) → Holds o (λ a. P (f a)) → Holds (option_map f o) P
mapped None f P h = none
mapped (Some a) f P h = some h.it

always : {A : Type 0} (o : Option A) {P : A → Type 0} → ((a : A) → P a) → Holds o P
always None h = none
always (Some a) h = some (h a)

weaker : {A : Type 0} (o : Option A) {P Q : A → Type 0} → ((a : A) → P a → Q a) → Holds o P → Holds o Q
weaker None h held = none
weaker (Some a) h held = some (h a held.it)

hex_escape_leaves : (n : ℕ) (text : List ℕ) → Holds (hex_escape n text) (λ p. length p.1 ≤ length text)
unfolding hex_escape
hex_escape_leaves n text = search (either, some, none, drop_within)

escape_char_leaves : (text : List ℕ) → Holds (escape_char text) (λ p. length p.1 ≤ length text)
unfolding escape_char
escape_char_leaves text =
    let hex = weaker (hex_escape (hex_len (first text)) (drop 1 text)) {Q = λ p. length p.1 ≤ length text} (λ p h. omega (arith, drop_within 1 text)) (hex_escape_leaves (hex_len (first text)) (drop 1 text)) in
    let simple : Holds (option_map (λ (c : ℕ). (c, drop 1 text)) (simple_escape (first text))) (λ (p : ℕ × List ℕ). length p.1 ≤ length text) =
    mapped (simple_escape (first text)) _ _ (always (simple_escape (first text)) (λ _. drop_within 1 text)) in
    search (either, hex, simple)

escape_leaves : (multi : Bool) (text : List ℕ) → Holds (escape multi text) (λ p. length p.1 ≤ length text)
unfolding escape
escape_leaves multi text = search (either, some, mapped, skip_from_within, escape_char_leaves)

at_delims_leaves : (delim : ℕ) (text : List ℕ) → Holds (at_delims delim text) (λ p. length p.1 ≤ length text)
at_delims_leaves delim text = search (either, some, none, drop_within)

pub special_leaves : (delim : ℕ) (multi : Bool) (text : List ℕ) → Holds (special delim multi text) (λ p. length p.1 ≤ length text)
unfolding special
special_leaves delim multi text =
    let escaped = weaker (escape multi (drop 1 text)) {Q = λ p. length p.1 ≤ length text} (λ p h. omega (arith, drop_within 1 text)) (escape_leaves multi (drop 1 text)) in
    search (either, some, none, mapped, drop_within, at_delims_leaves, escaped)

prepend_leaves : (front : List ℕ) (r : Read (List ℕ)) (much : ℕ) → Holds r (λ p. length p.1 ≤ much) → Holds (prepend front r) (λ p. length p.1 ≤ much)
prepend_leaves front None much h = none
prepend_leaves front (Some p) much h = some h.it

after_piece_leaves : (more : List ℕ → Read (List ℕ)) (piece : Option (List ℕ)) (rest : List ℕ) (much : ℕ) → length rest ≤ much
    → Holds (more rest) (λ p. length p.1 ≤ much) → Holds (after_piece more piece rest) (λ p. length p.1 ≤ much)
after_piece_leaves more None rest much le h = some le
after_piece_leaves more (Some bytes) rest much le h = prepend_leaves bytes (more rest) much h

body_leaves : (delim : ℕ) (multi : Bool) (n : ℕ) (text : List ℕ) → Holds (body delim multi n text) (λ p. length p.1 ≤ length text)
unfolding body
body_leaves delim multi zero text = none
body_leaves delim multi (suc n) text =
    let plain : Holds (prepend (first text ∷ []) (body delim multi n (drop 1 text))) (λ (p : List ℕ × List ℕ). length p.1 ≤ length text) =
    prepend_leaves (first text ∷ []) (body delim multi n (drop 1 text)) (length text)
    (weaker (body delim multi n (drop 1 text)) (λ p h. omega (arith, drop_within 1 text)) (body_leaves delim multi n (drop 1 text))) in
    let other : Holds (option_and_then (λ (p : Option (List ℕ) × List ℕ). after_piece (body delim multi n) p.0 p.1) (special delim multi text)) (λ (p : List ℕ × List ℕ). length p.1 ≤ length text) =
    bind (special delim multi text) _ _ (weaker (special delim multi text) (λ p h.
    after_piece_leaves (body delim multi n) p.0 p.1 (length text) h
    (weaker (body delim multi n p.1) (λ q k. omega arith) (body_leaves delim multi n p.1))) (special_leaves delim multi text)) in
    search (either, plain, other)

-- one byte less of a text that isn't empty
drop_below : (n : ℕ) (text : List ℕ) → 1 ≤ n → 1 ≤ length text → length (drop n text) < length text
drop_below n text some begins = omega (arith, length-drop n text)

one_line_leaves : (text : List ℕ) → 1 ≤ length text → Holds (one_line text) (λ p. length p.1 < length text)
unfolding one_line
one_line_leaves text begins =
    weaker (body (first text) false (length text) (drop 1 text)) (λ p h. omega (arith, drop_below 1 text (omega arith) begins)) (body_leaves (first text) false (length text) (drop 1 text))

trim_newline_within : (text : List ℕ) → length (trim_newline text) ≤ length text
trim_newline_within text =
    shorter_if (first text == line_feed) _ _ (length text) (drop_within 1 text)
    (shorter_if (starts_newline text) _ _ (length text) (drop_within 2 text) (omega arith))

quoted_leaves : (text : List ℕ) → 1 ≤ length text → Holds (quoted text) (λ p. length p.1 < length text)
unfolding quoted
quoted_leaves text begins =
    let long : Holds (body (first text) true (length text) (trim_newline (drop 3 text))) (λ (p : List ℕ × List ℕ). length p.1 < length text) =
    weaker (body (first text) true (length text) (trim_newline (drop 3 text)))
    (λ p h. omega (arith, drop_below 3 text (omega arith) begins, trim_newline_within (drop 3 text)))
    (body_leaves (first text) true (length text) (trim_newline (drop 3 text))) in
    let short = one_line_leaves text begins in
    search (either, long, short)

-- a text at which a string starts isn't empty
string_begun : (text : List ℕ) → starts_string text ≡ true → 1 ≤ length text
string_begun [] starts = absurd (false≢true starts)
string_begun (c ∷ cs) starts = omega arith

simple_key_leaves : (text : List ℕ) → Holds (simple_key text) (λ p. length p.1 ≤ length text)
unfolding simple_key
simple_key_leaves text =
    either (starts_string text)
    (λ starts. weaker (one_line text) (λ p h. omega arith) (one_line_leaves text (string_begun text starts)))
    (λ _. either (is_bare (first text)) (λ _. some (drop_within (prefix_len is_bare text) text)) (λ _. none))

key_after_leaves : (n : ℕ) (path : List (List ℕ)) (text : List ℕ) → Holds (key_after n path text) (λ p. length p.1 ≤ length text)
unfolding key_after
key_after_leaves zero path text = none
key_after_leaves (suc n) path text =
    bind (simple_key text) _ _ (weaker (simple_key text) (λ part h.
    let rest = skip_ws part.1 in
    let more : Holds (key_after n (path ++ part.0 ∷ []) (skip_ws (drop 1 rest))) (λ (p : Key × List ℕ). length p.1 ≤ length text) =
    weaker (key_after n (path ++ part.0 ∷ []) (skip_ws (drop 1 rest)))
    (λ p k. omega (arith, skip_ws_within part.1, drop_within 1 rest, skip_ws_within (drop 1 rest)))
    (key_after_leaves n (path ++ part.0 ∷ []) (skip_ws (drop 1 rest))) in
    let last : Holds (Some ((path, part.0), rest)) (λ (p : Key × List ℕ). length p.1 ≤ length text) = some (omega (arith, skip_ws_within part.1)) in
    either (first rest == dot) (λ _. more) (λ _. last)) (simple_key_leaves text))

key_leaves : (text : List ℕ) → Holds (key text) (λ p. length p.1 ≤ length text)
key_leaves text = key_after_leaves recursion_limit [] text

-- values

-- a value that was read and what is left are less than the text
abbrev Costs : Read Data → ℕ → Type 0
Costs r much = Holds r (λ p. weight p.0 + length p.1 < much)

scalar_weight : (scalar : Scalar) → weight (scalar_data scalar) ≡ 0
scalar_weight (Boolean b) = refl
scalar_weight (Integer z) = refl
scalar_weight (Float x) = refl
scalar_weight (Datetime dt) = refl

-- a text with a word isn't empty
word_begun : (text : List ℕ) → (word_len text == 0) ≡ false → 1 ≤ length text
unfolding word_len
word_begun [] word = absurd (false≢true (sym word))
word_begun (c ∷ cs) word = omega arith

unquoted_costs : (text : List ℕ) → Holds (unquoted text) (λ p. length p.1 < length text)
unfolding unquoted
unquoted_costs text =
    either (word_len text == 0) (λ _. none)
    (λ word. mapped (word_value (take (word_len text) text)) _ _
    (always (word_value (take (word_len text) text)) (λ _. drop_below (word_len text) text (grind (arith, nat_tests)) (word_begun text word))))

atom_costs : (text : List ℕ) → Costs (atom text) (length text)
unfolding atom
atom_costs text =
    either (starts_string text)
    (λ starts. mapped (quoted text) _ _ (weaker (quoted text) (λ p h. omega arith) (quoted_leaves text (string_begun text starts))))
    (λ _. mapped (unquoted text) _ _ (weaker (unquoted text) (λ p h. omega (arith, scalar_weight p.0)) (unquoted_costs text)))

after_byte_leaves : (byte : ℕ) (text : List ℕ) → Holds (after_byte byte text) (λ rest. length rest ≤ length text)
after_byte_leaves byte text = either (first text == byte) (λ _. some (drop_within 1 text)) (λ _. none)

after_element_leaves : (closing : ℕ) (text : List ℕ) → Holds (after_element closing text) (λ rest. length rest ≤ length text)
unfolding after_element
after_element_leaves closing text =
    either (first (skip_blank text) == comma) (λ _. some (omega (arith, drop_within 1 (skip_blank text), skip_blank_within text)))
    (λ _. either (first (skip_blank text) == closing) (λ _. some (skip_blank_within text)) (λ _. none))

-- a reader of values of which each costs its text
record IsCostly (read : List ℕ → Read Data) : Type 0 where
  costs : (text : List ℕ) → Costs (read text) (length text)

items_cost : (read : List ℕ → Read Data) → IsCostly read → (n : ℕ) (found : Items) (text : List ℕ) → Holds (items read n found text) (λ p. items_weight p.0 + length p.1 ≤ items_weight found + length text)
unfolding items
items_cost read costly zero found text = none
items_cost read costly (suc n) found text =
    let start = skip_blank text in
    either (first start == right_bracket) (λ _. some (omega (arith, drop_within 1 start, skip_blank_within text)))
    (λ _. bind (read start) _ _ (weaker (read start) (λ v h.
    bind (after_element right_bracket v.1) _ _ (weaker (after_element right_bracket v.1) (λ rest k.
    weaker (items read n (push_item found v.0) rest) (λ p l. omega (arith, items_weight-push found v.0, skip_blank_within text)) (items_cost read costly n (push_item found v.0) rest))
    (after_element_leaves right_bracket v.1))) (costly.costs start)))

key_equals_leaves : (text : List ℕ) → Holds (key_equals text) (λ k. length k.1 ≤ length text)
unfolding key_equals
key_equals_leaves text =
    bind (key text) _ _ (weaker (key text) (λ k h.
    mapped (after_byte equals k.1) _ _ (weaker (after_byte equals k.1) (λ rest l. omega (arith, skip_ws_within rest)) (after_byte_leaves equals k.1))) (key_leaves text))

keyval_costs : (read : List ℕ → Read Data) → IsCostly read → (text : List ℕ) → Holds (keyval read text) (λ e. weight e.0.1 + length e.1 < length text)
keyval_costs read costly text =
    bind (key_equals text) _ _ (weaker (key_equals text) (λ k h.
    mapped (read k.1) _ _ (weaker (read k.1) (λ v l. omega arith) (costly.costs k.1))) (key_equals_leaves text))

-- one more key and value among nodes
put_within : (k : Key) (held : Data) (found : Nodes) → Holds (put k held found) (λ more. nodes_weight more ≤ nodes_weight found + weight held)
put_within k held found = record { it = (put_adds k held).at_most found }

members_cost : (read : List ℕ → Read Data) → IsCostly read → (n : ℕ) (found : Nodes) (text : List ℕ) → Holds (members read n found text) (λ p. members_weight p.0 + length p.1 ≤ nodes_weight found + length text)
unfolding members
members_cost read costly zero found text = none
members_cost read costly (suc n) found text =
    let start = skip_blank text in
    either (first start == right_brace) (λ _. some (omega (arith, drop_within 1 start, skip_blank_within text, members_weight-close found)))
    (λ _. bind (keyval read start) _ _ (weaker (keyval read start) (λ e h.
    bind (put e.0.0 e.0.1 found) _ _ (weaker (put e.0.0 e.0.1 found) (λ more g.
    bind (after_element right_brace e.1) _ _ (weaker (after_element right_brace e.1) (λ rest k.
    weaker (members read n more rest) (λ p l. omega (arith, skip_blank_within text)) (members_cost read costly n more rest))
    (after_element_leaves right_brace e.1))) (put_within e.0.0 e.0.1 found))) (keyval_costs read costly start)))

val_costs : (depth : ℕ) → IsCostly (val depth)
unfolding val
val_costs zero = record { costs = atom_costs }
val_costs (suc depth) = record {
  costs = λ text.
      either (first text == left_bracket)
      (λ opens. mapped (items (val depth) (length text) no_items (drop 1 text)) _ _
      (weaker (items (val depth) (length text) no_items (drop 1 text)) (λ p h. omega (arith, drop_below 1 text (omega arith) (begun text left_bracket opens (omega arith))))
      (items_cost (val depth) (val_costs depth) (length text) no_items (drop 1 text))))
      (λ _. either (first text == left_brace)
      (λ opens. mapped (members (val depth) (length text) no_nodes (drop 1 text)) _ _
      (weaker (members (val depth) (length text) no_nodes (drop 1 text)) (λ p h. omega (arith, drop_below 1 text (omega arith) (begun text left_brace opens (omega arith))))
      (members_cost (val depth) (val_costs depth) (length text) no_nodes (drop 1 text))))
      (λ _. atom_costs text));
}

-- lines

header_key_leaves : (text : List ℕ) → Holds (header_key text) (λ k. length k.1 ≤ length text)
unfolding header_key
header_key_leaves text =
    bind (key (skip_ws text)) _ _ (weaker (key (skip_ws text)) (λ k h.
    mapped (after_byte right_bracket k.1) _ _ (weaker (after_byte right_bracket k.1) (λ rest l. omega (arith, skip_ws_within text)) (after_byte_leaves right_bracket k.1))) (key_leaves (skip_ws text)))

expression_costs : (text : List ℕ) → Holds (expression text) (λ e. definition_weight e.0.1 + length e.1 ≤ length text)
unfolding expression
expression_costs text =
    either (first text == left_bracket && slice_index text 1 == left_bracket)
    (λ opens.
    let begins = begun text left_bracket (and_parts (first text == left_bracket) (slice_index text 1 == left_bracket) opens).0 (omega arith) in
    bind (header_key (drop 2 text)) _ _ (weaker (header_key (drop 2 text)) (λ k h.
    mapped (after_byte right_bracket k.1) _ _ (weaker (after_byte right_bracket k.1) (λ rest l. omega (arith, drop_below 2 text (omega arith) begins)) (after_byte_leaves right_bracket k.1)))
    (header_key_leaves (drop 2 text))))
    (λ _. either (first text == left_bracket)
    (λ _. mapped (header_key (drop 1 text)) _ _ (weaker (header_key (drop 1 text)) (λ k h. omega (arith, drop_within 1 text)) (header_key_leaves (drop 1 text))))
    (λ _. mapped (keyval (val recursion_limit) text) _ _ (weaker (keyval (val recursion_limit) text) (λ e h. omega arith) (keyval_costs (val recursion_limit) (val_costs recursion_limit) text))))

line_costs : (text : List ℕ) → Holds (line text) (λ e. definition_weight e.0.1 + length e.1 ≤ length text)
unfolding line
line_costs text =
    bind (expression text) _ _ (weaker (expression text) (λ e h. either (ends_line (skip_ws e.1)) (λ _. some h) (λ _. none)) (expression_costs text))

define_within : (doc : Document) (e : Expression) → Holds (define doc e) (λ next. nodes_weight next.0 ≤ nodes_weight doc.0 + definition_weight e.1)
define_within doc e = record { it = define_adds doc e }

lines_cost : (n : ℕ) (doc : Document) (text : List ℕ) → Holds (lines n doc text) (λ last. nodes_weight last.0 ≤ nodes_weight doc.0 + length text)
unfolding lines
lines_cost zero doc text = none
lines_cost (suc n) doc text =
    let start = skip_blank text in
    either (length start == 0) (λ _. some (omega arith))
    (λ _. bind (line start) _ _ (weaker (line start) (λ e h.
    bind (define doc e.0) _ _ (weaker (define doc e.0) (λ next k.
    weaker (lines n next e.1) (λ last l. omega (arith, skip_blank_within text)) (lines_cost n next e.1))
    (define_within doc e.0))) (line_costs start)))

skip_bom_within : (text : List ℕ) → length (skip_bom text) ≤ length text
unfolding skip_bom
skip_bom_within text = shorter_if ((first text == 0xEF && slice_index text 1 == 0xBB) && slice_index text 2 == 0xBF) _ _ (length text) (drop_within 3 text) (omega arith)

-- the arrays of a document hold no more items than its text has bytes
document_weight : (text : List ℕ) (whole : Members) → parse_document text ≡ Some whole → members_weight whole ≤ length text
unfolding parse_document
document_weight text whole parsed =
    let h : Holds (parse_document text) (λ members. members_weight members ≤ length text) =
    mapped (lines (suc (length text)) (no_nodes, []) (skip_bom text)) _ _
    (weaker (lines (suc (length text)) (no_nodes, []) (skip_bom text)) (λ last l. omega (arith, members_weight-close last.0, skip_bom_within text)) (lines_cost (suc (length text)) (no_nodes, []) (skip_bom text))) in
    (rw parsed at h.it)

-- the inverters of a document

tables_within : (items : Items) → Holds (tables_of items) (λ tables. length tables ≤ items_weight items)
tables_within no_items = some (omega arith)
tables_within (item first more) =
    bind (as_table first) _ _ (always (as_table first) (λ t.
    mapped (tables_of more) _ _ (weaker (tables_of more) (λ tables h. omega arith) (tables_within more))))

as_tables_within : (held : Data) → Holds (as_tables held) (λ tables. length tables ≤ weight held)
as_tables_within (array items) = tables_within items
as_tables_within (table _) = none
as_tables_within (string bytes) = none
as_tables_within (integer z) = none
as_tables_within (float x) = none
as_tables_within (boolean b) = none
as_tables_within (datetime d) = none

length_or_none : (o : Option (List Members)) (much : ℕ) → Holds o (λ tables. length tables ≤ much) → length (unwrap_or o []) ≤ much
length_or_none None much h = omega arith
length_or_none (Some tables) much h = h.it

held_by : (k : List ℕ) (whole : Members) → Holds (get_member k whole) (λ held. weight held ≤ members_weight whole)
held_by k whole = record { it = get_member_within k whole }

-- a document has no more inverters than its text has bytes
pub few_inverters : (text : List ℕ) (whole : Members) → parse_document text ≡ Some whole → length (inverters_at whole) ≤ length text
unfolding inverters_at value_at
few_inverters text whole parsed =
    let within = document_weight text whole parsed in
    length_or_none (option_and_then as_tables (get_member (name_of keys.Inverter) whole)) (length text)
    (bind (get_member (name_of keys.Inverter) whole) _ _
    (weaker (get_member (name_of keys.Inverter) whole) (λ held h. weaker (as_tables held) (λ tables k. omega arith) (as_tables_within held)) (held_by (name_of keys.Inverter) whole)))
