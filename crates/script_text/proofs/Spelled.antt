-- What is read of a row is what it spells, and what a row spells is read of it.
use Rattle.std.proofs.Common.{◌≡◌, ℕ, suc, ◌+◌, ◌≤◌, min, Bool, true, false, cond, eqb, ◌&&◌, List, [], ◌∷◌, ◌++◌, Option, Some, None, refl, sym, ap, subst, ◌∙◌, arith, inl, inr, ℤ, pos, negsuc, append_assoc, sum, map}
use Rattle.std.specs.Prelude.{codes}
use Rattle.std.specs.List.{flat_map}
use Rattle.std.proofs.lemmas.Bool.{ne_eqb, cases_Bool}
use Rattle.share_policy.specs.declared.claim.Policy.{Policy}
use Rattle.share_policy.specs.declared.claim.Policy.TheVariants as policies
use Rattle.plant_book.specs.declared.call.Call.TheVariants as calls
use Rattle.script_text.specs.declared.line.Line.TheVariants as lines
use Rattle.script_text.specs.declared.fields.Fields.{Fields}
use Rattle.script_text.specs.declared.fields.Fields.TheVariants as fields
use Rattle.script_text.specs.Words.{Word, Text, Number, Signed, IsDigits, IsNumber, IsSigned, IsWord, AreWords, spaced}
use Rattle.script_text.specs.Grammar.{Statement, Site, Inverter, Begin, Says, policy_word, statement_words, IsUnread, IsSpelled, IsComment}
use Rattle.script_text.specs.Reading.{rest_after, begins_with, row_at, behind_row, end_at, next_at, signed_at, policy_at, none_at, one_at, two_at, three_at, four_at, site_at, inverter_at, fields_at, statement_of, cut, fields_of}
use Rattle.script_text.proofs.LineEnds.{some, some_is, none_some, is_plain, plain_more, row_past, behind_past, end_taken, ending_of, row_parts, row_ends, row_lacks, lacks_feed, lacks_back, end_found, unread_ends}
use Rattle.script_text.proofs.Numbers.{bind_some, after_is, behind_is, no_digit, next_taken, next_found, signed_taken, signed_found}

-- words one behind the other

-- words of these kinds stand at the front, each behind a space
pub record Behind (kinds : List Word) (bytes tail : List ℕ) : Type 0 where
  pub words : List (List ℕ)
  pub are : AreWords kinds words
  pub parts : bytes ≡ flat_map (λ word. 32 ∷ word) words ++ tail

none_behind : (tail : List ℕ) → Behind [] tail tail
none_behind tail = record { words = []; are = tt; parts = refl }

one_behind : (kind : Word) (kinds : List Word) (word bytes rest tail : List ℕ) → bytes ≡ 32 ∷ (word ++ rest) → IsWord kind word → Behind kinds rest tail → Behind (kind ∷ kinds) bytes tail
one_behind kind kinds word bytes rest tail parts is more = record {
  words = word ∷ more.words;
  are = (is, more.are);
  parts = parts ∙ ap (λ (x : List ℕ). 32 ∷ x) (ap (λ (x : List ℕ). word ++ x) more.parts ∙ sym (append_assoc word (flat_map (λ word. 32 ∷ word) more.words) tail));
}

digits_plain : (digits : List ℕ) → IsDigits digits → is_plain digits ≡ true
digits_plain [] are = refl
digits_plain (digit ∷ digits) are = rw (ne_eqb digit 10 (omega (arith, are.0)), ne_eqb digit 13 (omega (arith, are.0))) (digits_plain digits are.2)

number_plain : (word : List ℕ) (number : ℕ) → IsNumber word number → is_plain word ≡ true
number_plain [] number is = absurd is
number_plain (first ∷ digits) number (inl (nil, none, value)) = rw (nil, none) refl
number_plain (first ∷ digits) number (inr (low, high, are, value)) = rw (ne_eqb first 10 (omega (arith, low)), ne_eqb first 13 (omega (arith, low))) (digits_plain digits are)

signed_plain : (word : List ℕ) (number : ℤ) → IsSigned word number → is_plain word ≡ true
signed_plain word (pos number) is = number_plain word number is
signed_plain word (negsuc number) (size, spelled, is) = rw spelled (number_plain size (suc number) is)

abbrev kind_plain : Word → Bool
kind_plain (Text text) = is_plain text
kind_plain (Number number) = true
kind_plain (Signed number) = true

abbrev kinds_plain : List Word → Bool
kinds_plain [] = true
kinds_plain (kind ∷ kinds) = cond (kind_plain kind) (kinds_plain kinds) false

word_plain : (kind : Word) (word : List ℕ) → IsWord kind word → kind_plain kind ≡ true → is_plain word ≡ true
word_plain (Text text) word is plain = ap is_plain is ∙ plain
word_plain (Number number) word is plain = number_plain word number is
word_plain (Signed number) word is plain = signed_plain word number is

both_plain : (a b : Bool) → cond a b false ≡ true → (a ≡ true) × (b ≡ true)
both_plain true b e = (refl, e)
both_plain false b e = absurd cc

words_plain : (kinds : List Word) (words : List (List ℕ)) → AreWords kinds words → kinds_plain kinds ≡ true → is_plain (flat_map (λ word. 32 ∷ word) words) ≡ true
words_plain [] [] are plain = refl
words_plain [] (word ∷ words) are plain = absurd are
words_plain (kind ∷ kinds) [] are plain = absurd are
words_plain (kind ∷ kinds) (word ∷ words) are plain =
    let both = both_plain (kind_plain kind) (kinds_plain kinds) plain in
    plain_more word (flat_map (λ word. 32 ∷ word) words) (word_plain kind word are.0 both.0) (words_plain kinds words are.1 both.1)

-- what is read is spelled

pub record Row (bytes rest : List ℕ) (statement : Statement) : Type 0 where
  pub is : IsSpelled (row_at bytes) statement
  pub behind : rest ≡ behind_row bytes

assemble : (statement : Statement) (word : List ℕ) (kinds : List Word) (bytes rest tail end : List ℕ) → statement_words statement ≡ Text word ∷ kinds → is_plain word ≡ true → kinds_plain kinds ≡ true
    → bytes ≡ word ++ rest → Behind kinds rest tail → end_at tail ≡ Some end → Row bytes end statement
assemble statement word kinds bytes rest tail end words plain plain_kinds parts behind ends =
    let more : List ℕ = flat_map (λ word. 32 ∷ word) behind.words in
    let all : is_plain (word ++ more) ≡ true = plain_more word more plain (words_plain kinds behind.words behind.are plain_kinds) in
    let spelled : bytes ≡ (word ++ more) ++ tail = parts ∙ ap (λ (x : List ℕ). word ++ x) behind.parts ∙ sym (append_assoc word more tail) in
    let done = end_taken tail end ends in
    record {
      is = record {
        words = word ∷ behind.words;
        unread = row_at tail;
        are = subst (λ (ks : List Word). AreWords ks (word ∷ behind.words)) (sym words) (refl, behind.are);
        spelling = ap row_at spelled ∙ row_past (word ++ more) tail all;
        is_unread = done.unread;
      };
      behind = done.rest_is ∙ sym (ap behind_row spelled ∙ behind_past (word ++ more) tail all);
    }

-- a statement whose numbers were read, and whose row stands at the front
pub record Found (most most_size : ℕ) (bytes : List ℕ) (x : Fields × List ℕ) : Type 0 where
  pub statement : Statement
  pub fields_are : x.0 ≡ fields_of most most_size statement
  pub row : Row bytes x.1 statement

finish : (most most_size : ℕ) (statement : Statement) (word : List ℕ) (kinds : List Word) (bytes rest tail end : List ℕ) (made : Fields) (x : Fields × List ℕ) → statement_words statement ≡ Text word ∷ kinds
    → made ≡ fields_of most most_size statement → is_plain word ≡ true → kinds_plain kinds ≡ true → bytes ≡ word ++ rest → Behind kinds rest tail → end_at tail ≡ Some end → some (made, end) ≡ some x
    → Found most most_size bytes x
finish most most_size statement word kinds bytes rest tail end made x words are plain plain_kinds parts behind ends e =
    let same = some_is (made, end) x e in
    record {
      statement = statement;
      fields_are = sym (ap (λ (p : Fields × List ℕ). p.0) same) ∙ are;
      row = assemble statement word kinds bytes rest tail x.1 words plain plain_kinds parts behind (ends ∙ ap (λ (p : Fields × List ℕ). some p.1) same);
    }

none_taken : (most most_size : ℕ) (made : Fields) (statement : Statement) (word bytes rest : List ℕ) (x : Fields × List ℕ) → statement_words statement ≡ Text word ∷ [] → made ≡ fields_of most most_size statement → is_plain word ≡ true
    → bytes ≡ word ++ rest → none_at made rest ≡ Some x → Found most most_size bytes x
unfolding none_at
none_taken most most_size made statement word bytes rest x words are plain parts e =
    let z = bind_some (end_at rest) (λ (r : List ℕ). Some (made, r)) x e in
    finish most most_size statement word [] bytes rest rest z.0 made x words are plain refl parts (none_behind rest) z.1 z.2

one_taken : (most most_size : ℕ) (make : ℕ → Fields) (say : ℕ → Statement) (word bytes rest : List ℕ) (x : Fields × List ℕ) → 9 ≤ most
    → ((a : ℕ) → statement_words (say a) ≡ Text word ∷ Number a ∷ [])
    → ((a : ℕ) → make (min a most) ≡ fields_of most most_size (say a)) → is_plain word ≡ true
    → bytes ≡ word ++ rest → one_at most make rest ≡ Some x → Found most most_size bytes x
unfolding one_at
one_taken most most_size make say word bytes rest x big words are plain parts e =
    let a = bind_some (next_at most rest) _ x e in
    let z = bind_some (end_at a.0.1) (λ (r : List ℕ). Some (make a.0.0, r)) x a.2 in
    let na = next_taken most rest a.0.0 a.0.1 big a.1 in
    finish most most_size (say na.number) word (Number na.number ∷ []) bytes rest a.0.1 z.0 (make a.0.0) x (words na.number) (ap (λ (y : ℕ). make y) na.value_is ∙ are na.number) plain refl parts
    (one_behind (Number na.number) ([]) na.word rest a.0.1 a.0.1 na.parts na.is (none_behind a.0.1)) z.1 z.2

two_taken : (most most_size : ℕ) (make : ℕ → ℕ → Fields) (say : ℕ → ℕ → Statement) (word bytes rest : List ℕ) (x : Fields × List ℕ) → 9 ≤ most
    → ((a b : ℕ) → statement_words (say a b) ≡ Text word ∷ Number a ∷ Number b ∷ [])
    → ((a b : ℕ) → make (min a most) (min b most) ≡ fields_of most most_size (say a b)) → is_plain word ≡ true
    → bytes ≡ word ++ rest → two_at most make rest ≡ Some x → Found most most_size bytes x
unfolding two_at
two_taken most most_size make say word bytes rest x big words are plain parts e =
    let a = bind_some (next_at most rest) _ x e in
    let b = bind_some (next_at most a.0.1) _ x a.2 in
    let z = bind_some (end_at b.0.1) (λ (r : List ℕ). Some (make a.0.0 b.0.0, r)) x b.2 in
    let na = next_taken most rest a.0.0 a.0.1 big a.1 in
    let nb = next_taken most a.0.1 b.0.0 b.0.1 big b.1 in
    finish most most_size (say na.number nb.number) word (Number na.number ∷ Number nb.number ∷ []) bytes rest b.0.1 z.0 (make a.0.0 b.0.0) x (words na.number nb.number) (ap (λ (y : ℕ). make y b.0.0) na.value_is ∙ ap (λ (y : ℕ). make (min na.number most) y) nb.value_is ∙ are na.number nb.number) plain refl parts
    (one_behind (Number na.number) (Number nb.number ∷ []) na.word rest a.0.1 b.0.1 na.parts na.is (one_behind (Number nb.number) ([]) nb.word a.0.1 b.0.1 b.0.1 nb.parts nb.is (none_behind b.0.1))) z.1 z.2

three_taken : (most most_size : ℕ) (make : ℕ → ℕ → ℕ → Fields) (say : ℕ → ℕ → ℕ → Statement) (word bytes rest : List ℕ) (x : Fields × List ℕ) → 9 ≤ most
    → ((a b c : ℕ) → statement_words (say a b c) ≡ Text word ∷ Number a ∷ Number b ∷ Number c ∷ [])
    → ((a b c : ℕ) → make (min a most) (min b most) (min c most) ≡ fields_of most most_size (say a b c)) → is_plain word ≡ true
    → bytes ≡ word ++ rest → three_at most make rest ≡ Some x → Found most most_size bytes x
unfolding three_at
three_taken most most_size make say word bytes rest x big words are plain parts e =
    let a = bind_some (next_at most rest) _ x e in
    let b = bind_some (next_at most a.0.1) _ x a.2 in
    let c = bind_some (next_at most b.0.1) _ x b.2 in
    let z = bind_some (end_at c.0.1) (λ (r : List ℕ). Some (make a.0.0 b.0.0 c.0.0, r)) x c.2 in
    let na = next_taken most rest a.0.0 a.0.1 big a.1 in
    let nb = next_taken most a.0.1 b.0.0 b.0.1 big b.1 in
    let nc = next_taken most b.0.1 c.0.0 c.0.1 big c.1 in
    finish most most_size (say na.number nb.number nc.number) word (Number na.number ∷ Number nb.number ∷ Number nc.number ∷ []) bytes rest c.0.1 z.0 (make a.0.0 b.0.0 c.0.0) x (words na.number nb.number nc.number) (ap (λ (y : ℕ). make y b.0.0 c.0.0) na.value_is ∙ ap (λ (y : ℕ). make (min na.number most) y c.0.0) nb.value_is ∙ ap (λ (y : ℕ). make (min na.number most) (min nb.number most) y) nc.value_is ∙ are na.number nb.number nc.number) plain refl parts
    (one_behind (Number na.number) (Number nb.number ∷ Number nc.number ∷ []) na.word rest a.0.1 c.0.1 na.parts na.is (one_behind (Number nb.number) (Number nc.number ∷ []) nb.word a.0.1 b.0.1 c.0.1 nb.parts nb.is (one_behind (Number nc.number) ([]) nc.word b.0.1 c.0.1 c.0.1 nc.parts nc.is (none_behind c.0.1)))) z.1 z.2

four_taken : (most most_size : ℕ) (make : ℕ → ℕ → ℕ → ℕ → Fields) (say : ℕ → ℕ → ℕ → ℕ → Statement) (word bytes rest : List ℕ) (x : Fields × List ℕ) → 9 ≤ most
    → ((a b c d : ℕ) → statement_words (say a b c d) ≡ Text word ∷ Number a ∷ Number b ∷ Number c ∷ Number d ∷ [])
    → ((a b c d : ℕ) → make (min a most) (min b most) (min c most) (min d most) ≡ fields_of most most_size (say a b c d)) → is_plain word ≡ true
    → bytes ≡ word ++ rest → four_at most make rest ≡ Some x → Found most most_size bytes x
unfolding four_at
four_taken most most_size make say word bytes rest x big words are plain parts e =
    let a = bind_some (next_at most rest) _ x e in
    let b = bind_some (next_at most a.0.1) _ x a.2 in
    let c = bind_some (next_at most b.0.1) _ x b.2 in
    let d = bind_some (next_at most c.0.1) _ x c.2 in
    let z = bind_some (end_at d.0.1) (λ (r : List ℕ). Some (make a.0.0 b.0.0 c.0.0 d.0.0, r)) x d.2 in
    let na = next_taken most rest a.0.0 a.0.1 big a.1 in
    let nb = next_taken most a.0.1 b.0.0 b.0.1 big b.1 in
    let nc = next_taken most b.0.1 c.0.0 c.0.1 big c.1 in
    let nd = next_taken most c.0.1 d.0.0 d.0.1 big d.1 in
    finish most most_size (say na.number nb.number nc.number nd.number) word (Number na.number ∷ Number nb.number ∷ Number nc.number ∷ Number nd.number ∷ []) bytes rest d.0.1 z.0 (make a.0.0 b.0.0 c.0.0 d.0.0) x (words na.number nb.number nc.number nd.number) (ap (λ (y : ℕ). make y b.0.0 c.0.0 d.0.0) na.value_is ∙ ap (λ (y : ℕ). make (min na.number most) y c.0.0 d.0.0) nb.value_is ∙ ap (λ (y : ℕ). make (min na.number most) (min nb.number most) y d.0.0) nc.value_is ∙ ap (λ (y : ℕ). make (min na.number most) (min nb.number most) (min nc.number most) y) nd.value_is ∙ are na.number nb.number nc.number nd.number) plain refl parts
    (one_behind (Number na.number) (Number nb.number ∷ Number nc.number ∷ Number nd.number ∷ []) na.word rest a.0.1 d.0.1 na.parts na.is (one_behind (Number nb.number) (Number nc.number ∷ Number nd.number ∷ []) nb.word a.0.1 b.0.1 d.0.1 nb.parts nb.is (one_behind (Number nc.number) (Number nd.number ∷ []) nc.word b.0.1 c.0.1 d.0.1 nc.parts nc.is (one_behind (Number nd.number) ([]) nd.word c.0.1 d.0.1 d.0.1 nd.parts nd.is (none_behind d.0.1))))) z.1 z.2

policy_taken : (bytes : List ℕ) (policy : Policy) (rest : List ℕ) → policy_at bytes ≡ Some (policy, rest) → bytes ≡ 32 ∷ (policy_word policy ++ rest)
unfolding policy_at
policy_taken bytes policy rest e =
    elim (behind_is (rest_after (codes " open") bytes) (λ (r : List ℕ). some (policies.Open, r)) _ (policy, rest) e) [
      | inl at ↦
          let same = some_is (policies.Open, at.0) (policy, rest) at.2 in
          after_is (codes " open") bytes at.0 at.1 ∙ ap (λ (p : Policy × List ℕ). 32 ∷ (policy_word p.0 ++ p.1)) same
      | inr other ↦
          elim (behind_is (rest_after (codes " fair") bytes) (λ (r : List ℕ). some (policies.Fair, r)) None (policy, rest) other) [
            | inl at ↦
                let same = some_is (policies.Fair, at.0) (policy, rest) at.2 in
                after_is (codes " fair") bytes at.0 at.1 ∙ ap (λ (p : Policy × List ℕ). 32 ∷ (policy_word p.0 ++ p.1)) same
            | inr none ↦ absurd cc
          ]
    ]

policy_plain : (policy : Policy) → is_plain (policy_word policy) ≡ true
policy_plain policies.Open = refl
policy_plain policies.Fair = refl

site_taken : (most most_size : ℕ) (bytes rest : List ℕ) (x : Fields × List ℕ) → 9 ≤ most → bytes ≡ codes "site" ++ rest → site_at most rest ≡ Some x → Found most most_size bytes x
unfolding site_at
site_taken most most_size bytes rest x big parts e =
    let cap = bind_some (next_at most rest) _ x e in
    let send = bind_some (next_at most cap.0.1) _ x cap.2 in
    let delay = bind_some (next_at most send.0.1) _ x send.2 in
    let timer = bind_some (next_at most delay.0.1) _ x delay.2 in
    let per = bind_some (next_at most timer.0.1) _ x timer.2 in
    let slack = bind_some (next_at most per.0.1) _ x per.2 in
    let policy = bind_some (policy_at slack.0.1) _ x slack.2 in
    let room = bind_some (next_at most policy.0.1) _ x policy.2 in
    let z = bind_some (end_at room.0.1) (λ (r : List ℕ). Some (fields.Site cap.0.0 send.0.0 delay.0.0 timer.0.0 per.0.0 slack.0.0 policy.0.0 room.0.0, r)) x room.2 in
    let n_cap = next_taken most rest cap.0.0 cap.0.1 big cap.1 in
    let n_send = next_taken most cap.0.1 send.0.0 send.0.1 big send.1 in
    let n_delay = next_taken most send.0.1 delay.0.0 delay.0.1 big delay.1 in
    let n_timer = next_taken most delay.0.1 timer.0.0 timer.0.1 big timer.1 in
    let n_per = next_taken most timer.0.1 per.0.0 per.0.1 big per.1 in
    let n_slack = next_taken most per.0.1 slack.0.0 slack.0.1 big slack.1 in
    let n_room = next_taken most policy.0.1 room.0.0 room.0.1 big room.1 in
    let made = ap (λ (y : ℕ). fields.Site y send.0.0 delay.0.0 timer.0.0 per.0.0 slack.0.0 policy.0.0 room.0.0) n_cap.value_is ∙ ap (λ (y : ℕ). fields.Site (min n_cap.number most) y delay.0.0 timer.0.0 per.0.0 slack.0.0 policy.0.0 room.0.0) n_send.value_is ∙ ap (λ (y : ℕ). fields.Site (min n_cap.number most) (min n_send.number most) y timer.0.0 per.0.0 slack.0.0 policy.0.0 room.0.0) n_delay.value_is ∙ ap (λ (y : ℕ). fields.Site (min n_cap.number most) (min n_send.number most) (min n_delay.number most) y per.0.0 slack.0.0 policy.0.0 room.0.0) n_timer.value_is ∙ ap (λ (y : ℕ). fields.Site (min n_cap.number most) (min n_send.number most) (min n_delay.number most) (min n_timer.number most) y slack.0.0 policy.0.0 room.0.0) n_per.value_is ∙ ap (λ (y : ℕ). fields.Site (min n_cap.number most) (min n_send.number most) (min n_delay.number most) (min n_timer.number most) (min n_per.number most) y policy.0.0 room.0.0) n_slack.value_is ∙ ap (λ (y : ℕ). fields.Site (min n_cap.number most) (min n_send.number most) (min n_delay.number most) (min n_timer.number most) (min n_per.number most) (min n_slack.number most) policy.0.0 y) n_room.value_is in
    finish most most_size (Site n_cap.number n_send.number n_delay.number n_timer.number n_per.number n_slack.number policy.0.0 n_room.number) (codes "site") (Number n_cap.number ∷ Number n_send.number ∷ Number n_delay.number ∷ Number n_timer.number ∷ Number n_per.number ∷ Number n_slack.number ∷ Text (policy_word policy.0.0) ∷ Number n_room.number ∷ []) bytes rest room.0.1 z.0 (fields.Site cap.0.0 send.0.0 delay.0.0 timer.0.0 per.0.0 slack.0.0 policy.0.0 room.0.0) x refl made refl (rw (policy_plain policy.0.0) refl) parts
    (one_behind (Number n_cap.number) (Number n_send.number ∷ Number n_delay.number ∷ Number n_timer.number ∷ Number n_per.number ∷ Number n_slack.number ∷ Text (policy_word policy.0.0) ∷ Number n_room.number ∷ []) n_cap.word rest cap.0.1 room.0.1 n_cap.parts n_cap.is (one_behind (Number n_send.number) (Number n_delay.number ∷ Number n_timer.number ∷ Number n_per.number ∷ Number n_slack.number ∷ Text (policy_word policy.0.0) ∷ Number n_room.number ∷ []) n_send.word cap.0.1 send.0.1 room.0.1 n_send.parts n_send.is (one_behind (Number n_delay.number) (Number n_timer.number ∷ Number n_per.number ∷ Number n_slack.number ∷ Text (policy_word policy.0.0) ∷ Number n_room.number ∷ []) n_delay.word send.0.1 delay.0.1 room.0.1 n_delay.parts n_delay.is (one_behind (Number n_timer.number) (Number n_per.number ∷ Number n_slack.number ∷ Text (policy_word policy.0.0) ∷ Number n_room.number ∷ []) n_timer.word delay.0.1 timer.0.1 room.0.1 n_timer.parts n_timer.is (one_behind (Number n_per.number) (Number n_slack.number ∷ Text (policy_word policy.0.0) ∷ Number n_room.number ∷ []) n_per.word timer.0.1 per.0.1 room.0.1 n_per.parts n_per.is (one_behind (Number n_slack.number) (Text (policy_word policy.0.0) ∷ Number n_room.number ∷ []) n_slack.word per.0.1 slack.0.1 room.0.1 n_slack.parts n_slack.is (one_behind (Text (policy_word policy.0.0)) (Number n_room.number ∷ []) (policy_word policy.0.0) slack.0.1 policy.0.1 room.0.1 (policy_taken slack.0.1 policy.0.0 policy.0.1 policy.1) refl (one_behind (Number n_room.number) ([]) n_room.word policy.0.1 room.0.1 room.0.1 n_room.parts n_room.is (none_behind room.0.1))))))))) z.1 z.2

inverter_taken : (most most_size : ℕ) (bytes rest : List ℕ) (x : Fields × List ℕ) → 9 ≤ most → most_size ≤ most → bytes ≡ codes "inverter" ++ rest → inverter_at most most_size rest ≡ Some x → Found most most_size bytes x
unfolding inverter_at
inverter_taken most most_size bytes rest x big le parts e =
    let wmax = bind_some (next_at most rest) _ x e in
    let wsf = bind_some (signed_at most most_size wmax.0.1) _ x wmax.2 in
    let psf = bind_some (signed_at most most_size wsf.0.1) _ x wsf.2 in
    let floor = bind_some (next_at most psf.0.1) _ x psf.2 in
    let z = bind_some (end_at floor.0.1) (λ (r : List ℕ). Some (fields.Inverter wmax.0.0 wsf.0.0 psf.0.0 floor.0.0, r)) x floor.2 in
    let n_wmax = next_taken most rest wmax.0.0 wmax.0.1 big wmax.1 in
    let n_wsf = signed_taken most most_size wmax.0.1 wsf.0.0 wsf.0.1 big le wsf.1 in
    let n_psf = signed_taken most most_size wsf.0.1 psf.0.0 psf.0.1 big le psf.1 in
    let n_floor = next_taken most psf.0.1 floor.0.0 floor.0.1 big floor.1 in
    let made =
    ap (λ (y : ℕ). fields.Inverter y wsf.0.0 psf.0.0 floor.0.0) n_wmax.value_is
    ∙ ap (λ (y : ℤ). fields.Inverter (min n_wmax.number most) y psf.0.0 floor.0.0) n_wsf.value_is
    ∙ ap (λ (y : ℤ). fields.Inverter (min n_wmax.number most) (cut most_size n_wsf.number) y floor.0.0) n_psf.value_is
    ∙ ap (λ (y : ℕ). fields.Inverter (min n_wmax.number most) (cut most_size n_wsf.number) (cut most_size n_psf.number) y) n_floor.value_is in
    finish most most_size (Inverter n_wmax.number n_wsf.number n_psf.number n_floor.number) (codes "inverter") (Number n_wmax.number ∷ Signed n_wsf.number ∷ Signed n_psf.number ∷ Number n_floor.number ∷ []) bytes rest floor.0.1 z.0
    (fields.Inverter wmax.0.0 wsf.0.0 psf.0.0 floor.0.0) x refl made refl refl parts
    (one_behind (Number n_wmax.number) (Signed n_wsf.number ∷ Signed n_psf.number ∷ Number n_floor.number ∷ []) n_wmax.word rest wmax.0.1 floor.0.1 n_wmax.parts n_wmax.is
    (one_behind (Signed n_wsf.number) (Signed n_psf.number ∷ Number n_floor.number ∷ []) n_wsf.word wmax.0.1 wsf.0.1 floor.0.1 n_wsf.parts n_wsf.is
    (one_behind (Signed n_psf.number) (Number n_floor.number ∷ []) n_psf.word wsf.0.1 psf.0.1 floor.0.1 n_psf.parts n_psf.is
    (one_behind (Number n_floor.number) [] n_floor.word psf.0.1 floor.0.1 floor.0.1 n_floor.parts n_floor.is (none_behind floor.0.1))))) z.1 z.2

pub fields_taken : (most most_size : ℕ) (bytes : List ℕ) (x : Fields × List ℕ) → 9 ≤ most → most_size ≤ most → fields_at most most_size bytes ≡ Some x → Found most most_size bytes x
unfolding fields_at
fields_taken most most_size bytes x big le e0 =
    elim (behind_is (rest_after (codes "tick") bytes) (one_at most fields.Tick) _ x e0) [
      | inl at ↦ one_taken most most_size fields.Tick (λ a. Says (lines.One (calls.Tick a))) (codes "tick") bytes at.0 x big (λ _. refl) (λ _. refl) refl (after_is (codes "tick") bytes at.0 at.1) at.2
      | inr e1 ↦
          elim (behind_is (rest_after (codes "ask") bytes) (three_at most fields.Ask) _ x e1) [
            | inl at ↦ three_taken most most_size fields.Ask (λ a b c. Says (lines.One (calls.Ask a b c))) (codes "ask") bytes at.0 x big (λ _ _ _. refl) (λ _ _ _. refl) refl (after_is (codes "ask") bytes at.0 at.1) at.2
            | inr e2 ↦
                elim (behind_is (rest_after (codes "read") bytes) (two_at most fields.Read) _ x e2) [
                  | inl at ↦ two_taken most most_size fields.Read (λ a b. Says (lines.One (calls.Read a b))) (codes "read") bytes at.0 x big (λ _ _. refl) (λ _ _. refl) refl (after_is (codes "read") bytes at.0 at.1) at.2
                  | inr e3 ↦
                      elim (behind_is (rest_after (codes "saw") bytes) (four_at most fields.Saw) _ x e3) [
                        | inl at ↦ four_taken most most_size fields.Saw (λ a b c d. Says (lines.One (calls.Saw a b c d))) (codes "saw") bytes at.0 x big (λ _ _ _ _. refl) (λ _ _ _ _. refl) refl (after_is (codes "saw") bytes at.0 at.1) at.2
                        | inr e4 ↦
                            elim (behind_is (rest_after (codes "want") bytes) (three_at most fields.Want) _ x e4) [
                              | inl at ↦ three_taken most most_size fields.Want (λ a b c. Says (lines.One (calls.Want a b c))) (codes "want") bytes at.0 x big (λ _ _ _. refl) (λ _ _ _. refl) refl (after_is (codes "want") bytes at.0 at.1) at.2
                              | inr e5 ↦
                                  elim (behind_is (rest_after (codes "back") bytes) (four_at most fields.Back) _ x e5) [
                                    | inl at ↦ four_taken most most_size fields.Back (λ a b c d. Says (lines.One (calls.Back a b c d))) (codes "back") bytes at.0 x big (λ _ _ _ _. refl) (λ _ _ _ _. refl) refl (after_is (codes "back") bytes at.0 at.1) at.2
                                    | inr e6 ↦
                                        elim (behind_is (rest_after (codes "link") bytes) (two_at most fields.Link) _ x e6) [
                                          | inl at ↦ two_taken most most_size fields.Link (λ a b. Says (lines.One (calls.Link a b))) (codes "link") bytes at.0 x big (λ _ _. refl) (λ _ _. refl) refl (after_is (codes "link") bytes at.0 at.1) at.2
                                          | inr e7 ↦
                                              elim (behind_is (rest_after (codes "stop") bytes) (one_at most fields.Stop) _ x e7) [
                                                | inl at ↦ one_taken most most_size fields.Stop (λ a. Says (lines.One (calls.Stop a))) (codes "stop") bytes at.0 x big (λ _. refl) (λ _. refl) refl (after_is (codes "stop") bytes at.0 at.1) at.2
                                                | inr e8 ↦
                                                    elim (behind_is (rest_after (codes "restart") bytes) (one_at most fields.Restart) _ x e8) [
                                                      | inl at ↦ one_taken most most_size fields.Restart (λ a. Says (lines.Restart a)) (codes "restart") bytes at.0 x big (λ _. refl) (λ _. refl) refl (after_is (codes "restart") bytes at.0 at.1) at.2
                                                      | inr e9 ↦
                                                          elim (behind_is (rest_after (codes "roll") bytes) (none_at fields.Roll) _ x e9) [
                                                            | inl at ↦ none_taken most most_size fields.Roll (Says lines.Roll) (codes "roll") bytes at.0 x refl refl refl (after_is (codes "roll") bytes at.0 at.1) at.2
                                                            | inr e10 ↦
                                                                elim (behind_is (rest_after (codes "cap") bytes) (two_at most fields.Cap) _ x e10) [
                                                                  | inl at ↦ two_taken most most_size fields.Cap (λ a b. Says (lines.One (calls.Cap a b))) (codes "cap") bytes at.0 x big (λ _ _. refl) (λ _ _. refl) refl (after_is (codes "cap") bytes at.0 at.1) at.2
                                                                  | inr ecap ↦
                                                                      elim (behind_is (rest_after (codes "inverter") bytes) (inverter_at most most_size) _ x ecap) [
                                                                        | inl at ↦ inverter_taken most most_size bytes at.0 x big le (after_is (codes "inverter") bytes at.0 at.1) at.2
                                                                        | inr e11 ↦
                                                                            elim (behind_is (rest_after (codes "site") bytes) (site_at most) _ x e11) [
                                                                              | inl at ↦ site_taken most most_size bytes at.0 x big (after_is (codes "site") bytes at.0 at.1) at.2
                                                                              | inr e12 ↦
                                                                                  elim (behind_is (rest_after (codes "begin") bytes) (one_at most fields.Begin) None x e12) [
                                                                                    | inl at ↦ one_taken most most_size fields.Begin (λ a. Begin a) (codes "begin") bytes at.0 x big (λ _. refl) (λ _. refl) refl (after_is (codes "begin") bytes at.0 at.1) at.2
                                                                                    | inr e13 ↦ absurd cc
                                                                                  ]
                                                                            ]
                                                                      ]
                                                                ]
                                                          ]
                                                    ]
                                              ]
                                        ]
                                  ]
                            ]
                      ]
                ]
          ]
    ]

-- what is spelled is read

-- a word that was read, with the words behind it
record Step {A : Type 0} (read : Option (A × List ℕ)) (value : A) (kinds : List Word) (tail : List ℕ) : Type 0 where
  words : List (List ℕ)
  are : AreWords kinds words
  reads : read ≡ Some (value, flat_map (λ word. 32 ∷ word) words ++ tail)

no_digit_behind : (words : List (List ℕ)) (tail : List ℕ) → no_digit tail ≡ true → no_digit (flat_map (λ word. 32 ∷ word) words ++ tail) ≡ true
no_digit_behind [] tail none = none
no_digit_behind (word ∷ words) tail none = refl

next_step : (most n : ℕ) (kinds : List Word) (words : List (List ℕ)) (tail : List ℕ) → 9 ≤ most → AreWords (Number n ∷ kinds) words → no_digit tail ≡ true → Step (next_at most (flat_map (λ word. 32 ∷ word) words ++ tail)) (min n most) kinds tail
next_step most n kinds [] tail big are none = absurd are
next_step most n kinds (word ∷ words) tail big are none =
    let more : List ℕ = flat_map (λ word. 32 ∷ word) words in
    record {
      words = words;
      are = are.1;
      reads = ap (λ (x : List ℕ). next_at most (32 ∷ x)) (append_assoc word more tail) ∙ next_found most word (more ++ tail) n big are.0 (no_digit_behind words tail none);
    }

signed_step : (most most_size : ℕ) (z : ℤ) (kinds : List Word) (words : List (List ℕ)) (tail : List ℕ) → 9 ≤ most → most_size ≤ most → AreWords (Signed z ∷ kinds) words → no_digit tail ≡ true
    → Step (signed_at most most_size (flat_map (λ word. 32 ∷ word) words ++ tail)) (cut most_size z) kinds tail
signed_step most most_size z kinds [] tail big le are none = absurd are
signed_step most most_size z kinds (word ∷ words) tail big le are none =
    let more : List ℕ = flat_map (λ word. 32 ∷ word) words in
    record {
      words = words;
      are = are.1;
      reads = ap (λ (x : List ℕ). signed_at most most_size (32 ∷ x)) (append_assoc word more tail) ∙ signed_found most most_size word (more ++ tail) z big le are.0 (no_digit_behind words tail none);
    }

policy_reads : (policy : Policy) (rest : List ℕ) → policy_at (32 ∷ (policy_word policy ++ rest)) ≡ Some (policy, rest)
unfolding policy_at
policy_reads policies.Open rest = refl
policy_reads policies.Fair rest = refl

policy_step : (policy : Policy) (kinds : List Word) (words : List (List ℕ)) (tail : List ℕ) → AreWords (Text (policy_word policy) ∷ kinds) words → Step (policy_at (flat_map (λ word. 32 ∷ word) words ++ tail)) policy kinds tail
policy_step policy kinds [] tail are = absurd are
policy_step policy kinds (word ∷ words) tail are =
    let more : List ℕ = flat_map (λ word. 32 ∷ word) words in
    record {
      words = words;
      are = are.1;
      reads = ap (λ (x : List ℕ). policy_at (32 ∷ x)) (append_assoc word more tail) ∙ ap (λ (x : List ℕ). policy_at (32 ∷ (x ++ (more ++ tail)))) are.0 ∙ policy_reads policy (more ++ tail);
    }

none_left : (words : List (List ℕ)) (tail rest : List ℕ) → AreWords [] words → end_at tail ≡ Some rest → end_at (flat_map (λ word. 32 ∷ word) words ++ tail) ≡ Some rest
none_left [] tail rest are ends = ends
none_left (word ∷ words) tail rest are ends = absurd are

none_found : (made : Fields) (words : List (List ℕ)) (tail rest : List ℕ) → AreWords [] words → end_at tail ≡ Some rest → none_at made (flat_map (λ word. 32 ∷ word) words ++ tail) ≡ Some (made, rest)
unfolding none_at
none_found made words tail rest are ends = rw (none_left words tail rest are ends) refl

one_found : (most : ℕ) (make : ℕ → Fields) (a : ℕ) (words : List (List ℕ)) (tail rest : List ℕ) → 9 ≤ most → AreWords (Number a ∷ []) words → no_digit tail ≡ true → end_at tail ≡ Some rest
    → one_at most make (flat_map (λ word. 32 ∷ word) words ++ tail) ≡ Some (make (min a most), rest)
unfolding one_at
one_found most make a words tail rest big are none ends =
    let sa = next_step most a ([]) words tail big are none in
    rw (sa.reads, none_left sa.words tail rest sa.are ends) refl

two_found : (most : ℕ) (make : ℕ → ℕ → Fields) (a b : ℕ) (words : List (List ℕ)) (tail rest : List ℕ) → 9 ≤ most → AreWords (Number a ∷ Number b ∷ []) words → no_digit tail ≡ true → end_at tail ≡ Some rest
    → two_at most make (flat_map (λ word. 32 ∷ word) words ++ tail) ≡ Some (make (min a most) (min b most), rest)
unfolding two_at
two_found most make a b words tail rest big are none ends =
    let sa = next_step most a (Number b ∷ []) words tail big are none in
    let sb = next_step most b ([]) sa.words tail big sa.are none in
    rw (sa.reads, sb.reads, none_left sb.words tail rest sb.are ends) refl

three_found : (most : ℕ) (make : ℕ → ℕ → ℕ → Fields) (a b c : ℕ) (words : List (List ℕ)) (tail rest : List ℕ) → 9 ≤ most → AreWords (Number a ∷ Number b ∷ Number c ∷ []) words → no_digit tail ≡ true → end_at tail ≡ Some rest
    → three_at most make (flat_map (λ word. 32 ∷ word) words ++ tail) ≡ Some (make (min a most) (min b most) (min c most), rest)
unfolding three_at
three_found most make a b c words tail rest big are none ends =
    let sa = next_step most a (Number b ∷ Number c ∷ []) words tail big are none in
    let sb = next_step most b (Number c ∷ []) sa.words tail big sa.are none in
    let sc = next_step most c ([]) sb.words tail big sb.are none in
    rw (sa.reads, sb.reads, sc.reads, none_left sc.words tail rest sc.are ends) refl

four_found : (most : ℕ) (make : ℕ → ℕ → ℕ → ℕ → Fields) (a b c d : ℕ) (words : List (List ℕ)) (tail rest : List ℕ) → 9 ≤ most → AreWords (Number a ∷ Number b ∷ Number c ∷ Number d ∷ []) words → no_digit tail ≡ true → end_at tail ≡ Some rest
    → four_at most make (flat_map (λ word. 32 ∷ word) words ++ tail) ≡ Some (make (min a most) (min b most) (min c most) (min d most), rest)
unfolding four_at
four_found most make a b c d words tail rest big are none ends =
    let sa = next_step most a (Number b ∷ Number c ∷ Number d ∷ []) words tail big are none in
    let sb = next_step most b (Number c ∷ Number d ∷ []) sa.words tail big sa.are none in
    let sc = next_step most c (Number d ∷ []) sb.words tail big sb.are none in
    let sd = next_step most d ([]) sc.words tail big sc.are none in
    rw (sa.reads, sb.reads, sc.reads, sd.reads, none_left sd.words tail rest sd.are ends) refl

site_found : (most cap send delay timer per_mille slack : ℕ) (policy : Policy) (room : ℕ) (words : List (List ℕ)) (tail rest : List ℕ) → 9 ≤ most
    → AreWords (Number cap ∷ Number send ∷ Number delay ∷ Number timer ∷ Number per_mille ∷ Number slack ∷ Text (policy_word policy) ∷ Number room ∷ []) words → no_digit tail ≡ true → end_at tail ≡ Some rest
    → site_at most (flat_map (λ word. 32 ∷ word) words ++ tail) ≡ Some (fields.Site (min cap most) (min send most) (min delay most) (min timer most) (min per_mille most) (min slack most) policy (min room most), rest)
unfolding site_at
site_found most cap send delay timer per_mille slack policy room words tail rest big are none ends =
    let s_cap = next_step most cap (Number send ∷ Number delay ∷ Number timer ∷ Number per_mille ∷ Number slack ∷ Text (policy_word policy) ∷ Number room ∷ []) words tail big are none in
    let s_send = next_step most send (Number delay ∷ Number timer ∷ Number per_mille ∷ Number slack ∷ Text (policy_word policy) ∷ Number room ∷ []) s_cap.words tail big s_cap.are none in
    let s_delay = next_step most delay (Number timer ∷ Number per_mille ∷ Number slack ∷ Text (policy_word policy) ∷ Number room ∷ []) s_send.words tail big s_send.are none in
    let s_timer = next_step most timer (Number per_mille ∷ Number slack ∷ Text (policy_word policy) ∷ Number room ∷ []) s_delay.words tail big s_delay.are none in
    let s_per_mille = next_step most per_mille (Number slack ∷ Text (policy_word policy) ∷ Number room ∷ []) s_timer.words tail big s_timer.are none in
    let s_slack = next_step most slack (Text (policy_word policy) ∷ Number room ∷ []) s_per_mille.words tail big s_per_mille.are none in
    let s_policy = policy_step policy (Number room ∷ []) s_slack.words tail s_slack.are in
    let s_room = next_step most room ([]) s_policy.words tail big s_policy.are none in
    rw (s_cap.reads, s_send.reads, s_delay.reads, s_timer.reads, s_per_mille.reads, s_slack.reads, s_policy.reads, s_room.reads, none_left s_room.words tail rest s_room.are ends) refl

inverter_found : (most most_size wmax : ℕ) (wsf psf : ℤ) (floor : ℕ) (words : List (List ℕ)) (tail rest : List ℕ) → 9 ≤ most → most_size ≤ most → AreWords (Number wmax ∷ Signed wsf ∷ Signed psf ∷ Number floor ∷ []) words
    → no_digit tail ≡ true → end_at tail ≡ Some rest
    → inverter_at most most_size (flat_map (λ word. 32 ∷ word) words ++ tail) ≡ Some (fields.Inverter (min wmax most) (cut most_size wsf) (cut most_size psf) (min floor most), rest)
unfolding inverter_at
inverter_found most most_size wmax wsf psf floor words tail rest big le are none ends =
    let a = next_step most wmax (Signed wsf ∷ Signed psf ∷ Number floor ∷ []) words tail big are none in
    let b = signed_step most most_size wsf (Signed psf ∷ Number floor ∷ []) a.words tail big le a.are none in
    let c = signed_step most most_size psf (Number floor ∷ []) b.words tail big le b.are none in
    let d = next_step most floor [] c.words tail big c.are none in
    rw (a.reads, b.reads, c.reads, d.reads, none_left d.words tail rest d.are ends) refl

-- the first word of a line is its text
record First (text : List ℕ) (kinds : List Word) (words : List (List ℕ)) : Type 0 where
  more : List (List ℕ)
  are : AreWords kinds more
  words_are : words ≡ text ∷ more

first_text : (text : List ℕ) (kinds : List Word) (words : List (List ℕ)) → AreWords (Text text ∷ kinds) words → First text kinds words
first_text text kinds [] are = absurd are
first_text text kinds (word ∷ more) are = record { more = more; are = are.1; words_are = ap (λ (x : List ℕ). x ∷ more) are.0 }

spaced_is : (text : List ℕ) (words more : List (List ℕ)) (tail : List ℕ) → words ≡ text ∷ more → spaced words ++ tail ≡ text ++ (flat_map (λ word. 32 ∷ word) more ++ tail)
spaced_is text words more tail e = ap (λ (ws : List (List ℕ)). spaced ws ++ tail) e ∙ append_assoc text (flat_map (λ word. 32 ∷ word) more) tail

pub words_found : (most most_size : ℕ) (statement : Statement) (words : List (List ℕ)) (tail rest : List ℕ) → 9 ≤ most → most_size ≤ most → AreWords (statement_words statement) words → no_digit tail ≡ true → end_at tail ≡ Some rest
    → fields_at most most_size (spaced words ++ tail) ≡ Some (fields_of most most_size statement, rest)
unfolding fields_at
words_found most most_size (Says (lines.One (calls.Tick a))) words tail rest big le are none ends =
    let f = first_text (codes "tick") (Number a ∷ []) words are in
    ap (fields_at most most_size) (spaced_is (codes "tick") words f.more tail f.words_are) ∙ one_found most fields.Tick a f.more tail rest big f.are none ends
words_found most most_size (Says (lines.One (calls.Ask a b c))) words tail rest big le are none ends =
    let f = first_text (codes "ask") (Number a ∷ Number b ∷ Number c ∷ []) words are in
    ap (fields_at most most_size) (spaced_is (codes "ask") words f.more tail f.words_are) ∙ three_found most fields.Ask a b c f.more tail rest big f.are none ends
words_found most most_size (Says (lines.One (calls.Read a b))) words tail rest big le are none ends =
    let f = first_text (codes "read") (Number a ∷ Number b ∷ []) words are in
    ap (fields_at most most_size) (spaced_is (codes "read") words f.more tail f.words_are) ∙ two_found most fields.Read a b f.more tail rest big f.are none ends
words_found most most_size (Says (lines.One (calls.Saw a b c d))) words tail rest big le are none ends =
    let f = first_text (codes "saw") (Number a ∷ Number b ∷ Number c ∷ Number d ∷ []) words are in
    ap (fields_at most most_size) (spaced_is (codes "saw") words f.more tail f.words_are) ∙ four_found most fields.Saw a b c d f.more tail rest big f.are none ends
words_found most most_size (Says (lines.One (calls.Want a b c))) words tail rest big le are none ends =
    let f = first_text (codes "want") (Number a ∷ Number b ∷ Number c ∷ []) words are in
    ap (fields_at most most_size) (spaced_is (codes "want") words f.more tail f.words_are) ∙ three_found most fields.Want a b c f.more tail rest big f.are none ends
words_found most most_size (Says (lines.One (calls.Back a b c d))) words tail rest big le are none ends =
    let f = first_text (codes "back") (Number a ∷ Number b ∷ Number c ∷ Number d ∷ []) words are in
    ap (fields_at most most_size) (spaced_is (codes "back") words f.more tail f.words_are) ∙ four_found most fields.Back a b c d f.more tail rest big f.are none ends
words_found most most_size (Says (lines.One (calls.Link a b))) words tail rest big le are none ends =
    let f = first_text (codes "link") (Number a ∷ Number b ∷ []) words are in
    ap (fields_at most most_size) (spaced_is (codes "link") words f.more tail f.words_are) ∙ two_found most fields.Link a b f.more tail rest big f.are none ends
words_found most most_size (Says (lines.One (calls.Stop a))) words tail rest big le are none ends =
    let f = first_text (codes "stop") (Number a ∷ []) words are in
    ap (fields_at most most_size) (spaced_is (codes "stop") words f.more tail f.words_are) ∙ one_found most fields.Stop a f.more tail rest big f.are none ends
words_found most most_size (Says (lines.One (calls.Cap a b))) words tail rest big le are none ends =
    let f = first_text (codes "cap") (Number a ∷ Number b ∷ []) words are in
    ap (fields_at most most_size) (spaced_is (codes "cap") words f.more tail f.words_are) ∙ two_found most fields.Cap a b f.more tail rest big f.are none ends
words_found most most_size (Says (lines.Restart a)) words tail rest big le are none ends =
    let f = first_text (codes "restart") (Number a ∷ []) words are in
    ap (fields_at most most_size) (spaced_is (codes "restart") words f.more tail f.words_are) ∙ one_found most fields.Restart a f.more tail rest big f.are none ends
words_found most most_size (Says lines.Roll) words tail rest big le are none ends =
    let f = first_text (codes "roll") ([]) words are in
    ap (fields_at most most_size) (spaced_is (codes "roll") words f.more tail f.words_are) ∙ none_found fields.Roll f.more tail rest f.are ends
words_found most most_size (Inverter wmax wsf psf floor) words tail rest big le are none ends =
    let f = first_text (codes "inverter") (Number wmax ∷ Signed wsf ∷ Signed psf ∷ Number floor ∷ []) words are in
    ap (fields_at most most_size) (spaced_is (codes "inverter") words f.more tail f.words_are) ∙ inverter_found most most_size wmax wsf psf floor f.more tail rest big le f.are none ends
words_found most most_size (Site cap send delay timer per_mille slack policy room) words tail rest big le are none ends =
    let f = first_text (codes "site") (Number cap ∷ Number send ∷ Number delay ∷ Number timer ∷ Number per_mille ∷ Number slack ∷ Text (policy_word policy) ∷ Number room ∷ []) words are in
    ap (fields_at most most_size) (spaced_is (codes "site") words f.more tail f.words_are) ∙ site_found most cap send delay timer per_mille slack policy room f.more tail rest big f.are none ends
words_found most most_size (Begin a) words tail rest big le are none ends =
    let f = first_text (codes "begin") (Number a ∷ []) words are in
    ap (fields_at most most_size) (spaced_is (codes "begin") words f.more tail f.words_are) ∙ one_found most fields.Begin a f.more tail rest big f.are none ends

no_digit_unread : (unread tail : List ℕ) → IsUnread unread → no_digit tail ≡ true → no_digit (unread ++ tail) ≡ true
no_digit_unread [] tail is none = none
no_digit_unread (byte ∷ more) tail (inl equals) none = rw equals refl
no_digit_unread (byte ∷ more) tail (inr (space, is)) none = rw space refl

no_digit_alone : (unread : List ℕ) → IsUnread unread → no_digit unread ≡ true
no_digit_alone [] is = refl
no_digit_alone (byte ∷ more) (inl equals) = rw equals refl
no_digit_alone (byte ∷ more) (inr (space, is)) = rw space refl

no_digit_end : (bytes : List ℕ) → no_digit (ending_of bytes ++ behind_row bytes) ≡ true
no_digit_end [] = refl
no_digit_end (byte ∷ rest) =
    elim (cases_Bool (eqb byte 10)) [
      | inl is ↦ rw is refl
      | inr not ↦ elim (cases_Bool (eqb byte 13 && begins_with 10 rest)) [ inl both ↦ rw (not, both) refl | inr other ↦ rw (not, other) (no_digit_end rest) ]
    ]

-- what a row at the front spells is read there
pub row_found : (most most_size : ℕ) (bytes : List ℕ) (statement : Statement) → 9 ≤ most → most_size ≤ most → IsSpelled (row_at bytes) statement → fields_at most most_size bytes ≡ Some (fields_of most most_size statement, behind_row bytes)
row_found most most_size bytes statement big le is =
    let end : List ℕ = ending_of bytes ++ behind_row bytes in
    let lacks : lacks_feed is.unread ≡ true = lacks_back (spaced is.words) is.unread (ap lacks_feed (sym is.spelling) ∙ row_lacks bytes) in
    let parts : bytes ≡ spaced is.words ++ (is.unread ++ end) = row_parts bytes ∙ ap (λ (x : List ℕ). x ++ end) is.spelling ∙ append_assoc (spaced is.words) is.unread end in
    ap (fields_at most most_size) parts
    ∙ words_found most most_size statement is.words (is.unread ++ end) (behind_row bytes) big le is.are (no_digit_unread is.unread end is.is_unread (no_digit_end bytes)) (end_found is.unread end (behind_row bytes) is.is_unread lacks (row_ends bytes))

-- a row spells one statement

abbrev word_size : Word → ℕ
word_size (Text text) = 0
word_size (Number number) = number
word_size (Signed (pos number)) = number
word_size (Signed (negsuc number)) = suc number

-- no number of the statement is greater
abbrev size_of : Statement → ℕ
size_of statement = sum (map word_size (statement_words statement))

cut_exact : (most : ℕ) (z : ℤ) → word_size (Signed z) ≤ most → cut most z ≡ z
cut_exact most (pos n) le = ap (λ (k : ℕ). pos k) (omega (arith, le))
cut_exact most (negsuc n) le = ap (λ (k : ℕ). negsuc k) (omega (arith, le))

exact : (most : ℕ) (statement : Statement) → size_of statement ≤ most → statement_of (fields_of most most statement) ≡ statement
exact most (Says (lines.One (calls.Tick a))) le =
    let ea : min a most ≡ a = omega (arith, le) in
    rw (ea) refl
exact most (Says (lines.One (calls.Ask a b c))) le =
    let ea : min a most ≡ a = omega (arith, le) in
    let eb : min b most ≡ b = omega (arith, le) in
    let ec : min c most ≡ c = omega (arith, le) in
    rw (ea, eb, ec) refl
exact most (Says (lines.One (calls.Read a b))) le =
    let ea : min a most ≡ a = omega (arith, le) in
    let eb : min b most ≡ b = omega (arith, le) in
    rw (ea, eb) refl
exact most (Says (lines.One (calls.Saw a b c d))) le =
    let ea : min a most ≡ a = omega (arith, le) in
    let eb : min b most ≡ b = omega (arith, le) in
    let ec : min c most ≡ c = omega (arith, le) in
    let ed : min d most ≡ d = omega (arith, le) in
    rw (ea, eb, ec, ed) refl
exact most (Says (lines.One (calls.Want a b c))) le =
    let ea : min a most ≡ a = omega (arith, le) in
    let eb : min b most ≡ b = omega (arith, le) in
    let ec : min c most ≡ c = omega (arith, le) in
    rw (ea, eb, ec) refl
exact most (Says (lines.One (calls.Back a b c d))) le =
    let ea : min a most ≡ a = omega (arith, le) in
    let eb : min b most ≡ b = omega (arith, le) in
    let ec : min c most ≡ c = omega (arith, le) in
    let ed : min d most ≡ d = omega (arith, le) in
    rw (ea, eb, ec, ed) refl
exact most (Says (lines.One (calls.Link a b))) le =
    let ea : min a most ≡ a = omega (arith, le) in
    let eb : min b most ≡ b = omega (arith, le) in
    rw (ea, eb) refl
exact most (Says (lines.One (calls.Stop a))) le =
    let ea : min a most ≡ a = omega (arith, le) in
    rw (ea) refl
exact most (Says (lines.One (calls.Cap a b))) le =
    let ea : min a most ≡ a = omega (arith, le) in
    let eb : min b most ≡ b = omega (arith, le) in
    rw (ea, eb) refl
exact most (Says (lines.Restart a)) le =
    let ea : min a most ≡ a = omega (arith, le) in
    rw (ea) refl
exact most (Says lines.Roll) le = refl
exact most (Inverter wmax wsf psf floor) le =
    let a : min wmax most ≡ wmax = omega (arith, le) in
    let b : cut most wsf ≡ wsf = cut_exact most wsf (omega (arith, le)) in
    let c : cut most psf ≡ psf = cut_exact most psf (omega (arith, le)) in
    let d : min floor most ≡ floor = omega (arith, le) in
    rw (a, b, c, d) refl
exact most (Site cap send delay timer per_mille slack policy room) le =
    let a : min cap most ≡ cap = omega (arith, le) in
    let b : min send most ≡ send = omega (arith, le) in
    let c : min delay most ≡ delay = omega (arith, le) in
    let d : min timer most ≡ timer = omega (arith, le) in
    let f : min per_mille most ≡ per_mille = omega (arith, le) in
    let g : min slack most ≡ slack = omega (arith, le) in
    let h : min room most ≡ room = omega (arith, le) in
    rw (a, b, c, d, f, g, h) refl
exact most (Begin a) le =
    let ea : min a most ≡ a = omega (arith, le) in
    rw (ea) refl

-- a row by itself is read
row_alone : (most : ℕ) (row : List ℕ) (statement : Statement) → 9 ≤ most → IsSpelled row statement → (rest : List ℕ) × (fields_at most most row ≡ Some (fields_of most most statement, rest))
row_alone most row statement big is =
    let end = unread_ends is.unread is.is_unread in
    (end.0, ap (fields_at most most) is.spelling ∙ words_found most most statement is.words is.unread end.0 big (omega arith) is.are (no_digit_alone is.unread is.is_unread) end.1)

pub spelled_once : (row : List ℕ) (a b : Statement) → IsSpelled row a → IsSpelled row b → a ≡ b
spelled_once row a b p q =
    let most : ℕ = size_of a + size_of b + 9 in
    let big : 9 ≤ most = omega arith in
    let x = row_alone most row a big p in
    let y = row_alone most row b big q in
    let same = some_is (fields_of most most a, x.0) (fields_of most most b, y.0) (sym x.1 ∙ y.1) in
    sym (exact most a (omega arith)) ∙ ap (λ (z : Fields × List ℕ). statement_of z.0) same ∙ exact most b (omega arith)

comment_unread : (most : ℕ) (row : List ℕ) → IsComment row → fields_at most most row ≡ None
unfolding fields_at
comment_unread most [] is = absurd is
comment_unread most (byte ∷ more) is = rw is refl

-- a comment spells none
pub no_comment : (row : List ℕ) (statement : Statement) → IsSpelled row statement → IsComment row → ⊥
no_comment row statement is comment =
    let x = row_alone 9 row statement (omega arith) is in
    none_some (fields_at 9 9 row) (fields_of 9 9 statement, x.0) (comment_unread 9 row comment) x.1
