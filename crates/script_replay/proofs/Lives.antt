-- The text of a life that a ledger keeps is replayed as itself.
use Rattle.std.proofs.Common.{◌≡◌, ℕ, ◌+◌, ◌<◌, ◌≤◌, List, [], ◌∷◌, ◌++◌, length, map, None, refl, sym, ap, subst, ◌∙◌, arith, append_assoc}
use Rattle.std.specs.List.{flat_map}
use Rattle.std.proofs.lemmas.List.{append-nil}
use Rattle.plant_book.specs.declared.book.Entry.{Entry}
use Rattle.plant_book.specs.Site.{SiteRecord}
use Rattle.plant_book.specs.Book.{BookRecord}
use Rattle.plant_book.specs.Part.{PartRecord}
use Rattle.plant_book.specs.Life.{Life, IsPart, AreParts, IsLife, entries_of, joined_book}
use Rattle.plant_book.specs.Answered.{EachInTurn, IsAnswer, IsBook, with_entries}
use Rattle.plant_book.specs.History.{History, IsHistory, life_after}
use Rattle.plant_book.specs.Safe.{IsSafeAlways}
use Rattle.plant_book.proofs.Safe.{life_is_history, no_past, safe_always}
use Rattle.script_text.specs.Script.{IsScript}
use Rattle.script_text.specs.Text.{Deed, Entered, Begun, Rolled, deed_text, head_text, entry_text, lives_text, book_text}
use Rattle.script_text.proofs.Back.{reads_back}
use Rattle.script_text.proofs.Books.{entries_in, AreOfLife, deeds_script, life_follows}
use Rattle.script_replay.specs.Chain.{Chain, first_chain, chain_behind, AreDone, history_of, IsSafeChain}
use Rattle.script_replay.specs.Comments.{AreComments}
use Rattle.script_replay.specs.Lives.{HasComments, ended_text, life_text}
use Rattle.script_replay.specs.Replay.{IsReplay}
use Rattle.script_replay.proofs.Mixed.{script_mixed, mixed_more, comments_behind, head_mixed, entries_mixed}

-- what was done of a life

-- behind so many calls of a book, each book has room for its calls
abbrev HaveRoom : (room calls : ℕ) → List Deed → Type 0
HaveRoom room calls [] = Unit {0}
HaveRoom room calls (Entered entry ∷ deeds) = (calls < room) × HaveRoom room (calls + 1) deeds
HaveRoom room calls (Begun at ∷ deeds) = HaveRoom room 0 deeds
HaveRoom room calls (Rolled ∷ deeds) = HaveRoom room 0 deeds

-- the one life so far: the book with these entries
abbrev chain_with : BookRecord → List Entry → ℕ → Chain
chain_with book entries calls = record { earlier = []; life = with_entries book entries; calls = calls }

-- where there is room, and each reply is right, they are done
deeds_done : (book : BookRecord) (before : List Entry) (calls : ℕ) (deeds : List Deed) → AreOfLife deeds → HaveRoom book.site.room calls deeds → EachInTurn (IsAnswer book) before (entries_in deeds)
    → AreDone (chain_with book before calls) deeds
deeds_done book before calls [] life room each = tt
deeds_done book before calls (Entered entry ∷ deeds) life room each = ((room.0, each.0), deeds_done book (before ++ entry ∷ []) (calls + 1) deeds life room.1 each.1)
deeds_done book before calls (Begun at ∷ deeds) life room each = absurd life
deeds_done book before calls (Rolled ∷ deeds) life room each = (tt, deeds_done book before 0 deeds life room each)

-- what they come to is one life with their entries
history_is : (book : BookRecord) (before : List Entry) (calls : ℕ) (deeds : List Deed) → AreOfLife deeds → history_of (chain_behind (chain_with book before calls) deeds) ≡ life_after [] (with_entries book (before ++ entries_in deeds))
history_is book before calls [] life = ap (λ (x : List Entry). life_after [] (with_entries book x)) (sym (append-nil before))
history_is book before calls (Entered entry ∷ deeds) life =
    history_is book (before ++ entry ∷ []) (calls + 1) deeds life ∙ ap (λ (x : List Entry). life_after [] (with_entries book x)) (append_assoc before (entry ∷ []) (entries_in deeds))
history_is book before calls (Begun at ∷ deeds) life = absurd life
history_is book before calls (Rolled ∷ deeds) life = history_is book before 0 deeds life

-- which is safe at every moment
safe_life : (book : BookRecord) (deeds : List Deed) → IsBook book → AreOfLife deeds → entries_in deeds ≡ book.entries → IsSafeChain (chain_behind (first_chain book.site book.start) deeds)
safe_life book deeds kept life are =
    let same : life_after [] book ≡ history_of (chain_behind (first_chain book.site book.start) deeds) = sym (history_is book [] 0 deeds life ∙ ap (λ (x : List Entry). life_after [] (with_entries book x)) are) in
    let is : IsHistory (life_after [] book) = life_is_history book [] kept (no_past book kept) in
    record {
      commissioned = ap (λ (h : History). h.past) (sym same);
      history = subst IsHistory same is;
      safe = subst IsSafeAlways same (safe_always (life_after [] book) is);
    }

-- the deeds of a life in books: the calls of each book, and a roll behind each but the last

abbrev book_deeds : List Entry → List Deed → List Deed
book_deeds entries later = map (λ entry. Entered entry) entries ++ later

abbrev deeds_behind : List PartRecord → List Deed → List Deed
deeds_behind [] later = later
deeds_behind (part ∷ parts) later = book_deeds part.entries (Rolled ∷ deeds_behind parts later)

abbrev deeds_of : Life → List Deed
deeds_of life = deeds_behind life.ended (book_deeds life.last.entries [])

-- the entries of a book's deeds are its own
book_entries : (entries : List Entry) (later : List Deed) → entries_in (book_deeds entries later) ≡ entries ++ entries_in later
book_entries [] later = refl
book_entries (entry ∷ entries) later = ap (λ (x : List Entry). entry ∷ x) (book_entries entries later)

-- they begin no life
book_of_life : (entries : List Entry) (later : List Deed) → AreOfLife later → AreOfLife (book_deeds entries later)
book_of_life [] later life = life
book_of_life (entry ∷ entries) later life = book_of_life entries later life

-- a book of at most so many calls has room for them
book_room : (room calls : ℕ) (entries : List Entry) (later : List Deed) → calls + length entries ≤ room → ((n : ℕ) → HaveRoom room n later) → HaveRoom room calls (book_deeds entries later)
book_room room calls [] later few more = more calls
book_room room calls (entry ∷ entries) later few more = (omega (arith, few), book_room room (calls + 1) entries later (omega (arith, few)) more)

-- and they are written as its entries are
book_texts : (entries : List Entry) (later : List Deed) → flat_map deed_text (book_deeds entries later) ≡ flat_map entry_text entries ++ flat_map deed_text later
book_texts [] later = refl
book_texts (entry ∷ entries) later = ap (λ (x : List ℕ). entry_text entry ++ x) (book_texts entries later) ∙ sym (append_assoc (entry_text entry) (flat_map entry_text entries) (flat_map deed_text later))

-- the same of all books that ended
parts_entries : (parts : List PartRecord) (later : List Deed) → entries_in (deeds_behind parts later) ≡ entries_of parts ++ entries_in later
parts_entries [] later = refl
parts_entries (part ∷ parts) later =
    book_entries part.entries (Rolled ∷ deeds_behind parts later) ∙ ap (λ (x : List Entry). part.entries ++ x) (parts_entries parts later) ∙ sym (append_assoc part.entries (entries_of parts) (entries_in later))

-- none of them begins a life
parts_of_life : (parts : List PartRecord) (later : List Deed) → AreOfLife later → AreOfLife (deeds_behind parts later)
parts_of_life [] later life = life
parts_of_life (part ∷ parts) later life = book_of_life part.entries (Rolled ∷ deeds_behind parts later) (parts_of_life parts later life)

-- each book of a life has room for its calls
parts_room : (site : SiteRecord) (start : ℕ) (before parts : List PartRecord) (last : PartRecord) → AreParts site start before (parts ++ last ∷ []) → HaveRoom site.room 0 (deeds_behind parts (book_deeds last.entries []))
parts_room site start before [] last are = book_room site.room 0 last.entries [] (omega (arith, are.0.room)) (λ n. tt)
parts_room site start before (part ∷ parts) last are =
    book_room site.room 0 part.entries (Rolled ∷ deeds_behind parts (book_deeds last.entries [])) (omega (arith, are.0.room)) (λ n. parts_room site start (before ++ part ∷ []) parts last are.1)

-- and each is written with its roll behind it
parts_text : (parts : List PartRecord) (later : List Deed) → flat_map deed_text (deeds_behind parts later) ≡ flat_map ended_text parts ++ flat_map deed_text later
parts_text [] later = refl
parts_text (part ∷ parts) later =
    let roll : List ℕ = deed_text Rolled in
    let own : List ℕ = flat_map entry_text part.entries in
    let rest : List ℕ = flat_map ended_text parts in
    let behind : List ℕ = flat_map deed_text later in
    book_texts part.entries (Rolled ∷ deeds_behind parts later) ∙ ap (λ (x : List ℕ). own ++ (roll ++ x)) (parts_text parts later)
    ∙ ap (λ (x : List ℕ). own ++ x) (sym (append_assoc roll rest behind)) ∙ sym (append_assoc own (roll ++ rest) behind) ∙ ap (λ (x : List ℕ). x ++ behind) (sym (append_assoc own roll rest))

-- the deeds of a life enter what its joined book has
life_entries : (life : Life) → entries_in (deeds_of life) ≡ (joined_book life).entries
life_entries life =
    parts_entries life.ended (book_deeds life.last.entries []) ∙ ap (λ (x : List Entry). entries_of life.ended ++ x) (book_entries life.last.entries [] ∙ append-nil life.last.entries)

-- what was done of it, written, is its text
life_text_is : (life : Life) → lives_text life.last.site life.last.start (deeds_of life) ≡ life_text life
life_text_is life =
    let head : List ℕ = head_text life.last.site life.last.start in
    let ended : List ℕ = flat_map ended_text life.ended in
    let last : List ℕ = flat_map entry_text life.last.entries in
    ap (λ (x : List ℕ). head ++ x) (parts_text life.ended (book_deeds life.last.entries []) ∙ ap (λ (x : List ℕ). ended ++ x) (book_texts life.last.entries [] ∙ append-nil last)) ∙ sym (append_assoc head ended last)

-- the text of a life, with comments between its lines or none, is replayed as that text
pub life_replays : (life : Life) (bytes : List ℕ) → IsLife life → HasComments (life_text life) bytes → IsReplay bytes None (life_text life)
life_replays life bytes kept has =
    let book : BookRecord = joined_book life in
    let deeds : List Deed = deeds_of life in
    let of_life : AreOfLife deeds = parts_of_life life.ended (book_deeds life.last.entries []) (book_of_life life.last.entries [] tt) in
    let are : entries_in deeds ≡ book.entries = life_entries life in
    let text : lives_text book.site book.start deeds ≡ life_text life = life_text_is life in
    let is : IsScript (life_text life) (deeds_script book deeds) =
    subst (λ (x : List ℕ). IsScript x (deeds_script book deeds)) text (reads_back (deeds_script book deeds) deeds refl (life_follows book deeds kept.book of_life are)) in
    record {
      script = deeds_script book deeds;
      is_script = script_mixed (life_text life) bytes (deeds_script book deeds) has is;
      openable = kept.book.openable;
      deeds = deeds;
      reaches = refl;
      done = deeds_done book [] 0 deeds of_life (parts_room life.last.site life.last.start [] life.ended life.last kept.parts)
          (subst (λ (x : List Entry). EachInTurn (IsAnswer book) [] x) (sym are) kept.book.answered);
      safe = safe_life book deeds kept.book of_life are;
      text_is = sym text;
    }

-- a life in one book

abbrev life_in : BookRecord → Life
life_in book = record { ended = []; last = record { site = book.site; start = book.start; carry = None; entries = book.entries } }

-- so is that of a book that stands alone, with comments behind it
pub book_replays : (book : BookRecord) (behind : List ℕ) → IsBook book → length book.entries ≤ book.site.room → AreComments behind → IsReplay (book_text book ++ behind) None (book_text book)
book_replays book behind kept room comments =
    let first : IsPart book.site book.start [] (life_in book).last = record { one_site = refl; one_start = refl; carry = refl; room = room } in
    let text : life_text (life_in book) ≡ book_text book = ap (λ (x : List ℕ). x ++ flat_map entry_text book.entries) (append-nil (head_text book.site book.start)) in
    let has : HasComments (book_text book) (book_text book ++ behind) = comments_behind behind (mixed_more (head_mixed book.site book.start) (entries_mixed book.entries)) comments in
    subst (λ (x : List ℕ). IsReplay (book_text book ++ behind) None x) text
    (life_replays (life_in book) (book_text book ++ behind) (record { parts = (first, tt); book = kept }) (subst (λ (x : List ℕ). HasComments x (book_text book ++ behind)) (sym text) has))
