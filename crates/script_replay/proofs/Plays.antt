-- Deeds one behind the other, and what a line of a script may rely on.
use Rattle.std.proofs.Common.{◌≡◌, ℕ, suc, ◌+◌, ◌<◌, ◌≤◌, max, List, [], ◌∷◌, ◌++◌, length, map, take, drop, get_or, Option, Some, None, Result, Ok, Err, refl, sym, ap, subst, ◌∙◌, arith, append_assoc, length-append, drop-cons}
use Rattle.std.specs.Prelude.{IfSome, MatchOption, OnOk}
use Rattle.std.specs.List.{flat_map, AllByRecursion}
use Rattle.std.proofs.lemmas.List.{append-nil, map_push, map-append, take_more, take-append-drop, take-append-le, flat_map_more, length-map, length-take, take_all}
use Rattle.plant_book.specs.declared.call.Call.{Call}
use Rattle.plant_book.specs.declared.call.Call.TheVariants as calls
use Rattle.plant_book.specs.declared.call.Reply.{Reply}
use Rattle.plant_book.specs.declared.call.TheConstants.{MOMENT_MAX}
use Rattle.plant_book.specs.declared.book.Entry.{Entry}
use Rattle.plant_book.specs.Site.{SiteRecord, inverters}
use Rattle.plant_book.specs.Book.{BookRecord}
use Rattle.plant_book.specs.Calls.{moment, named, at_moment, latest, entered}
use Rattle.plant_book.specs.Part.{PartRecord, CarryRecord, book_behind, book_before, begin_of, last_moment_of, calls_of}
use Rattle.plant_book.specs.Answered.{IsBook, IsOpenable, with_entries}
use Rattle.plant_book.specs.Answer.{reply_to}
use Rattle.plant_book.specs.Reserved.{now_of}
use Rattle.plant_book.specs.Carry.{IsBehind, carry_of}
use Rattle.plant_book.specs.History.{lives, InTurn, Fits, IsHistory}
use Rattle.plant_book.proofs.Growth.{IsBook-empty}
use Rattle.plant_book.proofs.Steps.{latest-push}
use Rattle.plant_book.proofs.Behind.{calls_of-is, last_moment_of-is}
use Rattle.plant_book.proofs.Safe.{first_books, first_in_turn, life_is_history, no_past, safe_always}
use Rattle.plant_ledger.specs.Plant as ledger
use Rattle.script_text.specs.declared.line.Line.{Line}
use Rattle.script_text.specs.declared.line.Line.TheVariants as lines
use Rattle.script_text.specs.Grammar.{Statement, Begin, Says}
use Rattle.script_text.specs.Script.{ScriptRecord, MayFollow, EachMayFollow, moment_on, last_of, site_statement, inverter_statement, head_statements, script_statements, IsScript}
use Rattle.script_text.specs.Text.{Deed, Entered, Begun, Rolled, deed_line, deed_text, head_text, lives_text}
use Rattle.script_text.specs.declared.lines.Lines.{Lines}
use Rattle.script_text.specs.declared.fault.ScriptFault.{ScriptFault}
use Rattle.script_text.specs.declared.fault.ScriptFault.TheVariants as readings
use Rattle.script_text.specs.Progress.{IsBegun}
use Rattle.script_text.specs.Progress as reading
use Rattle.script_text.specs.Reader.{AreLast, HasRead, LineRead, with_lines}
use Rattle.script_text.proofs.Count.{read_within}
use Rattle.std.proofs.Math.Seq.{get_or-append_seam, take-append_seam}
use Rattle.script_text.proofs.Steps.{begun_on}
use Rattle.script_text.proofs.Taken.{head_begun}
use Rattle.script_replay.specs.Chain.{Chain, empty_life, first_chain, chain_after, chain_behind, IsDone, AreDone, history_of, IsSafeChain}
use Rattle.script_replay.specs.Playing.{Stands, LineFits, Played, Does, FindsFull, Ends, IsFirstLife, script_with, IsReplayed, IsReplayedWhole, FaultExplained}
use Rattle.script_replay.specs.declared.replay.ReplayFault.{ReplayFault}
use Rattle.script_replay.specs.declared.replay.ReplayFault.TheVariants as faults
use Rattle.script_replay.specs.Replay.{IsReplay, Explains, RefusesSite, fault_of}
use Rattle.script_replay.proofs.Refused.{openable_is, no_memory}

-- one more deed

pub behind_more : (chain : Chain) (deeds : List Deed) (deed : Deed) → chain_behind chain (deeds ++ deed ∷ []) ≡ chain_after (chain_behind chain deeds) deed
behind_more chain [] deed = refl
behind_more chain (first ∷ deeds) deed = behind_more (chain_after chain first) deeds deed

pub done_more : (chain : Chain) (deeds : List Deed) (deed : Deed) → AreDone chain deeds → IsDone (chain_behind chain deeds) deed → AreDone chain (deeds ++ deed ∷ [])
done_more chain [] deed done one = (one, tt)
done_more chain (first ∷ deeds) deed done one = (done.0, done_more (chain_after chain first) deeds deed done.1 one)

pub text_more : (site : SiteRecord) (start : ℕ) (deeds : List Deed) (deed : Deed) → lives_text site start (deeds ++ deed ∷ []) ≡ lives_text site start deeds ++ deed_text deed
text_more site start deeds deed = sym (flat_map_more deed_text (head_text site start) deeds deed)

pub played_more : (script : ScriptRecord) (count : ℕ) (line : Line) (old new : PartRecord) (before after : List ℕ) → count < length script.lines → line ≡ get_or script.lines count line → Played script count old before → Does line old new before after
    → Played script (count + 1) new after
played_more script count line old new before after less is p does =
    let chain : Chain = chain_behind (first_chain script.site script.start) p.deeds in
    record {
      deeds = p.deeds ++ does.deed ∷ [];
      lines_are = map_push deed_line p.deeds does.deed ∙ ap (λ (x : List Line). x ++ deed_line does.deed ∷ []) p.lines_are ∙ ap (λ (x : Line). take count script.lines ++ x ∷ []) (does.line_is ∙ is) ∙ sym (take_more script.lines count line less);
      done = done_more (first_chain script.site script.start) p.deeds does.deed p.done (does.done chain p.stands);
      stands = subst (λ (c : Chain). Stands c new) (sym (behind_more (first_chain script.site script.start) p.deeds does.deed)) (does.stands chain p.stands);
      text_is = does.text_is ∙ ap (λ (x : List ℕ). x ++ deed_text does.deed) p.text_is ∙ sym (text_more script.site script.start p.deeds does.deed);
    }

-- the last moment, and how many calls there are

now_after : (chain : Chain) (deed : Deed) → now_of (chain_after chain deed).life ≡ last_of (now_of chain.life) (moment_on (Says (deed_line deed)))
unfolding now_of latest
now_after chain (Entered entry) = latest-push chain.life.start chain.life.entries entry
now_after chain (Begun at) = refl
now_after chain Rolled = refl

last_more : (number : ℕ) (a b : List ℕ) → last_of number (a ++ b) ≡ last_of (last_of number a) b
last_more number [] b = refl
last_more number (x ∷ a) b = last_more x a b

abbrev moments : List Line → List ℕ
moments its = flat_map moment_on (map (λ line. Says line) its)

now_behind : (chain : Chain) (deeds : List Deed) → now_of (chain_behind chain deeds).life ≡ last_of (now_of chain.life) (moments (map deed_line deeds))
now_behind chain [] = refl
now_behind chain (deed ∷ deeds) =
    now_behind (chain_after chain deed) deeds ∙ ap (λ (n : ℕ). last_of n (moments (map deed_line deeds))) (now_after chain deed)
    ∙ sym (last_more (now_of chain.life) (moment_on (Says (deed_line deed))) (moments (map deed_line deeds)))

calls_behind : (chain : Chain) (deeds : List Deed) → length (chain_behind chain deeds).life.entries ≤ length chain.life.entries + length deeds
calls_behind chain [] = omega arith
calls_behind chain (Entered entry ∷ deeds) = omega (arith, calls_behind (chain_after chain (Entered entry)) deeds, length-append chain.life.entries (entry ∷ []))
calls_behind chain (Begun at ∷ deeds) = omega (arith, calls_behind (chain_after chain (Begun at)) deeds)
calls_behind chain (Rolled ∷ deeds) = omega (arith, calls_behind (chain_after chain Rolled) deeds)

site_behind : (chain : Chain) (deeds : List Deed) → (chain_behind chain deeds).life.site ≡ chain.life.site
site_behind chain [] = refl
site_behind chain (Entered entry ∷ deeds) = site_behind (chain_after chain (Entered entry)) deeds
site_behind chain (Begun at ∷ deeds) = site_behind (chain_after chain (Begun at)) deeds
site_behind chain (Rolled ∷ deeds) = site_behind (chain_after chain Rolled) deeds

pub site_is : (script : ScriptRecord) (count : ℕ) (part : PartRecord) (text : List ℕ) → Played script count part text → part.site ≡ script.site
site_is script count part text p = sym (ap (λ (b : BookRecord). b.site) p.stands.life_is) ∙ site_behind (first_chain script.site script.start) p.deeds

-- the next line of a script

begun_behind : (units start : ℕ) (head : List Statement) (its : List Line) → IsBegun units start head → IsBegun units (last_of start (moments its)) (head ++ map (λ line. Says line) its)
begun_behind units start head [] begun = subst (λ (x : List Statement). IsBegun units start x) (sym (append-nil head)) begun
begun_behind units start head (line ∷ its) begun =
    let next = begun_behind units (last_of start (moment_on (Says line))) (head ++ Says line ∷ []) its (begun_on units start head line begun) in
    subst (λ (n : ℕ). IsBegun units n (head ++ Says line ∷ map (λ line. Says line) its)) (sym (last_more start (moment_on (Says line)) (moments its)))
    (subst (λ (x : List Statement). IsBegun units (last_of (last_of start (moment_on (Says line))) (moments its)) x) (append_assoc head (Says line ∷ []) (map (λ line. Says line) its)) next)

each_at : (acc xs ys : List Statement) (one : Statement) → EachMayFollow acc (xs ++ one ∷ ys) → MayFollow (acc ++ xs) one
each_at acc [] ys one each = subst (λ (x : List Statement). MayFollow x one) (sym (append-nil acc)) each.0
each_at acc (first ∷ xs) ys one each = subst (λ (x : List Statement). MayFollow x one) (append_assoc acc (first ∷ []) xs) (each_at (acc ++ first ∷ []) xs ys one each.1)

next_may : (script : ScriptRecord) (count : ℕ) (line : Line) → EachMayFollow [] (script_statements script) → count < length script.lines → line ≡ get_or script.lines count line
    → MayFollow (head_statements script.site script.start ++ map (λ line. Says line) (take count script.lines)) (Says line)
next_may script count line each less is =
    let head : List Statement = head_statements script.site script.start in
    let cut : script.lines ≡ take count script.lines ++ line ∷ drop (suc count) script.lines =
    sym (take-append-drop count script.lines) ∙ ap (λ (x : List Line). take count script.lines ++ x) (drop-cons script.lines count line less ∙ ap (λ (x : Line). x ∷ drop (suc count) script.lines) (sym is)) in
    let all : script_statements script ≡ (head ++ map (λ line. Says line) (take count script.lines)) ++ Says line ∷ map (λ line. Says line) (drop (suc count) script.lines) =
    ap (λ (x : List Statement). head ++ x) (ap (map (λ line. Says line)) cut ∙ map-append (λ line. Says line) (take count script.lines) (line ∷ drop (suc count) script.lines))
    ∙ sym (append_assoc head (map (λ line. Says line) (take count script.lines)) (Says line ∷ map (λ line. Says line) (drop (suc count) script.lines))) in
    each_at [] (head ++ map (λ line. Says line) (take count script.lines)) (map (λ line. Says line) (drop (suc count) script.lines)) (Says line) (subst (λ (x : List Statement). EachMayFollow [] x) all each)

head_is_begun : (script : ScriptRecord) → IsBegun (length script.site.units) script.start (head_statements script.site script.start)
head_is_begun script = head_begun (site_statement script.site.cap script.site.rules script.site.policy script.site.room) script.site.units script.start refl refl

fits_of : (units latest : ℕ) (before : List Statement) (part : PartRecord) (line : Line) → IsBegun units latest before → MayFollow before (Says line) → inverters part.site ≡ units → last_moment_of part ≡ latest
    → (ledger.IsFullLife part → ⊥) → LineFits part line
fits_of units latest before part (lines.One call) begun may same moment_is few = (
  may.range.0,
  subst (λ (n : ℕ). IfSome (named call) (λ inverter. inverter < n)) (begun.inverters_are ∙ sym same) may.of_site,
  may.range.2,
  omega (arith, may.in_time, begun.latest_is, moment_is),
)
fits_of units latest before part (lines.Restart at) begun may same moment_is few = (may.range, omega (arith, may.in_time, begun.latest_is, moment_is))
fits_of units latest before part lines.Roll begun may same moment_is few = few

now_first : (site : SiteRecord) (start : ℕ) (its : List ℕ) → last_of (now_of (first_chain site start).life) its ≡ last_of start its
unfolding now_of latest
now_first site start its = refl

few_deeds : (script : ScriptRecord) (count : ℕ) (deeds : List Deed) → map deed_line deeds ≡ take count script.lines → length deeds ≤ length script.lines
few_deeds script count deeds are = omega (arith, ap length are, length-map deeds deed_line, length-take count script.lines)

pub room_high : (script : ScriptRecord) → EachMayFollow [] (script_statements script) → script.site.room ≤ 1048576
room_high script each = each.0.range.3

pub line_fits : (script : ScriptRecord) (count : ℕ) (line : Line) (part : PartRecord) (text : List ℕ) → EachMayFollow [] (script_statements script) → length script.lines ≤ 134217728 → count < length script.lines
    → line ≡ get_or script.lines count line → Played script count part text → LineFits part line
line_fits script count line part text each few less is p =
    let room : part.site.room ≤ 1048576 = subst (λ (s : SiteRecord). s.room ≤ 1048576) (sym (site_is script count part text p)) (room_high script each) in
    let chain : Chain = chain_behind (first_chain script.site script.start) p.deeds in
    let moment_is : last_moment_of part ≡ last_of script.start (moments (take count script.lines)) =
    last_moment_of-is part p.stands.before p.stands.behind ∙ sym (ap now_of p.stands.life_is) ∙ now_behind (first_chain script.site script.start) p.deeds
    ∙ now_first script.site script.start (moments (map deed_line p.deeds)) ∙ ap (λ (x : List Line). last_of script.start (moments x)) p.lines_are in
    let calls : calls_of part ≡ length chain.life.entries = calls_of-is part p.stands.before p.stands.behind ∙ sym (ap (λ (b : BookRecord). length b.entries) p.stands.life_is) in
    let most = calls_behind (first_chain script.site script.start) p.deeds in
    let deeds : length p.deeds ≤ length script.lines = few_deeds script count p.deeds p.lines_are in
    fits_of (length script.site.units) (last_of script.start (moments (take count script.lines))) (head_statements script.site script.start ++ map (λ line. Says line) (take count script.lines)) part line
    (begun_behind (length script.site.units) script.start (head_statements script.site script.start) (take count script.lines) (head_is_begun script)) (next_may script count line each less is)
    (ap inverters (site_is script count part text p)) moment_is (λ full. omega (arith, full, calls, most, deeds, few, room))

-- a history whose last life goes on, or is followed by the next one

pub goes_on : (earlier : List BookRecord) (old new : BookRecord) → IsBook new → new.site ≡ old.site → new.start ≡ old.start → IsHistory (record { past = []; earlier = earlier; life = old }) → IsHistory (record { past = []; earlier = earlier; life = new })
goes_on earlier old new kept site start is = record {
  books = first_books IsBook earlier old new [] is.books (λ was. kept);
  one_site = subst (λ (s : SiteRecord). AllByRecursion (λ b. b.site ≡ s) (earlier ++ new ∷ [])) (sym site) (first_books (λ b. b.site ≡ old.site) earlier old new [] is.one_site (λ was. site));
  in_turn = first_in_turn earlier old new [] is.in_turn start;
  before = tt;
  fits = subst (λ (s : SiteRecord). Fits s []) (sym site) is.fits;
}

all_more : (P : BookRecord → Type 0) (books : List BookRecord) (next : BookRecord) → AllByRecursion P books → P next → AllByRecursion P (books ++ next ∷ [])
all_more P [] next all fact = (fact, tt)
all_more P (book ∷ books) next all fact = (all.0, all_more P books next all.1 fact)

in_turn_more : (earlier : List BookRecord) (old next : BookRecord) → InTurn (earlier ++ old ∷ []) → now_of old ≤ next.start → InTurn ((earlier ++ old ∷ []) ++ next ∷ [])
in_turn_more [] old next turn later = (later, tt)
in_turn_more (book ∷ []) old next turn later = (turn.0, (later, tt))
in_turn_more (book ∷ two ∷ earlier) old next turn later = (turn.0, in_turn_more (two ∷ earlier) old next turn.1 later)

pub restarts : (earlier : List BookRecord) (old new : BookRecord) → IsBook new → new.site ≡ old.site → now_of old ≤ new.start → IsHistory (record { past = []; earlier = earlier; life = old })
    → IsHistory (record { past = []; earlier = earlier ++ old ∷ []; life = new })
restarts earlier old new kept site later is = record {
  books = all_more IsBook (earlier ++ old ∷ []) new is.books kept;
  one_site = subst (λ (s : SiteRecord). AllByRecursion (λ b. b.site ≡ s) ((earlier ++ old ∷ []) ++ new ∷ [])) (sym site) (all_more (λ b. b.site ≡ old.site) (earlier ++ old ∷ []) new is.one_site site);
  in_turn = in_turn_more earlier old new is.in_turn later;
  before = tt;
  fits = subst (λ (s : SiteRecord). Fits s []) (sym site) is.fits;
}

-- what the lines do

same_moment : (call : Call) → at_moment (moment call) call ≡ call
same_moment (calls.Link at inverter) = refl
same_moment (calls.Ask at inverter raw) = refl
same_moment (calls.Read at inverter) = refl
same_moment (calls.Saw at inverter number raw) = refl
same_moment (calls.Back at inverter link number) = refl
same_moment (calls.Want at inverter mw) = refl
same_moment (calls.Tick at) = refl
same_moment (calls.Stop at) = refl
same_moment (calls.Cap at mw) = refl

-- a call that isn't early is entered as it is
entered_is : (start : ℕ) (entries : List Entry) (call : Call) → latest start entries ≤ moment call → entered start entries call ≡ call
entered_is start entries call later =
    let same : max (moment call) (latest start entries) ≡ moment call = omega (arith, later) in
    ap (λ (at : ℕ). at_moment at call) same ∙ same_moment call

abbrev no_entries : List Entry
no_entries = []

no_entries_same : no_entries ≡ no_entries
no_entries_same = refl

first_behind : (part : PartRecord) → part.carry ≡ None → IsBook (book_behind [] part) → IsBehind [] part
first_behind part none kept = record { carry = subst (λ (c : Option CarryRecord). MatchOption c (no_entries ≡ no_entries) (λ carry. carry ≡ carry_of (book_before no_entries part))) (sym none) no_entries_same; book = kept }

now_is : (book : BookRecord) → now_of book ≡ latest book.start book.entries
unfolding now_of
now_is book = refl

entry_done : (chain : Chain) (old new : PartRecord) (call : Call) (reply : Reply) → last_moment_of old ≤ moment call → length old.entries < old.site.room → ((first : List Entry) → IsBehind first old → ledger.GoesOn first old call reply new)
    → Stands chain old → IsDone chain (Entered (record { call = call; reply = reply }))
entry_done chain old new call reply later room lives stands =
    let book : BookRecord = book_behind stands.before old in
    let at : latest book.start book.entries ≤ moment call = omega (arith, later, last_moment_of-is old stands.before stands.behind, now_is book) in
    let right : reply ≡ reply_to book call = (lives stands.before stands.behind).right ∙ ap (reply_to book) (entered_is book.start book.entries call at) in
    (omega (arith, stands.calls_are, room, ap (λ (b : BookRecord). b.site.room) stands.life_is), right ∙ ap (λ (b : BookRecord). reply_to b call) (sym stands.life_is))

pub enters : (old new : PartRecord) (call : Call) (reply : Reply) (before after : List ℕ) → last_moment_of old ≤ moment call → length old.entries < old.site.room → new ≡ ledger.entered old call reply
    → ((first : List Entry) → IsBehind first old → ledger.GoesOn first old call reply new) → after ≡ before ++ deed_text (Entered (record { call = call; reply = reply })) → Does (lines.One call) old new before after
enters old new call reply before after later room is lives added =
    let entry : Entry = record { call = call; reply = reply } in
    let as_is : entered (begin_of old) old.entries call ≡ call = entered_is (begin_of old) old.entries call later in
    let entries : new.entries ≡ old.entries ++ entry ∷ [] = ap (λ (b : PartRecord). b.entries) is ∙ ap (λ (c : Call). old.entries ++ record { call = c; reply = reply } ∷ []) as_is in
    let site : new.site ≡ old.site = ap (λ (b : PartRecord). b.site) is in
    let start : new.start ≡ old.start = ap (λ (b : PartRecord). b.start) is in
    record {
      deed = Entered entry;
      line_is = refl;
      text_is = added;
      done = λ chain stands. entry_done chain old new call reply later room lives stands;
      stands = λ chain stands.
          let goes = lives stands.before stands.behind in
          let life : (chain_after chain (Entered entry)).life ≡ book_behind stands.before new =
          ap (λ (b : BookRecord). with_entries b (b.entries ++ entry ∷ [])) stands.life_is
          ∙ ap (λ (x : List Entry). record { site = old.site; start = old.start; entries = x }) (append_assoc stands.before old.entries (entry ∷ []) ∙ ap (λ (x : List Entry). stands.before ++ x) (sym entries))
          ∙ (λ i. record { site = sym site i; start = sym start i; entries = stands.before ++ new.entries }) in
          record {
            before = stands.before;
            behind = goes.answered;
            life_is = life;
            calls_are = omega (arith, stands.calls_are, ap length entries, length-append old.entries (entry ∷ []));
            history = goes_on chain.earlier chain.life (chain_after chain (Entered entry)).life (subst IsBook (sym life) goes.answered.book) refl refl stands.history;
          };
    }

pub begins_life : (old new : PartRecord) (at : ℕ) (before after : List ℕ) → at ≤ MOMENT_MAX → last_moment_of old ≤ at → new ≡ record { site = old.site; start = at; carry = None; entries = [] } → IsOpenable new.site → after ≡ before ++ deed_text (Begun at)
    → Does (lines.Restart at) old new before after
begins_life old new at before after high later is openable added = record {
  deed = Begun at;
  line_is = refl;
  text_is = added;
  done = λ chain stands. tt;
  stands = λ chain stands.
      let site : chain.life.site ≡ new.site = ap (λ (b : BookRecord). b.site) stands.life_is ∙ sym (ap (λ (b : PartRecord). b.site) is) in
      let life : empty_life chain.life.site at ≡ book_behind [] new = ap (λ (s : SiteRecord). empty_life s at) (ap (λ (b : BookRecord). b.site) stands.life_is) ∙ ap (book_behind []) (sym is) in
      let kept : IsBook (empty_life chain.life.site at) = IsBook-empty chain.life.site at (subst IsOpenable (sym site) openable) high in
      record {
        before = [];
        behind = first_behind new (ap (λ (b : PartRecord). b.carry) is) (subst IsBook life kept);
        life_is = life;
        calls_are = sym (ap (λ (b : PartRecord). length b.entries) is);
        history = restarts chain.earlier chain.life (empty_life chain.life.site at) kept refl (omega (arith, later, last_moment_of-is old stands.before stands.behind, ap now_of stands.life_is)) stands.history;
      };
}

pub rolls : (old new : PartRecord) (before after : List ℕ) → ((first : List Entry) → IsBehind first old → ledger.Rolls first old new) → after ≡ before ++ deed_text Rolled → Does lines.Roll old new before after
rolls old new before after lives added = record {
  deed = Rolled;
  line_is = refl;
  text_is = added;
  done = λ chain stands. tt;
  stands = λ chain stands.
      let roll = lives stands.before stands.behind in
      let entries : new.entries ≡ [] = ap (λ (b : PartRecord). b.entries) roll.begins in
      let site : new.site ≡ old.site = ap (λ (b : PartRecord). b.site) roll.begins in
      let start : new.start ≡ old.start = ap (λ (b : PartRecord). b.start) roll.begins in
      let whole : (stands.before ++ old.entries) ++ new.entries ≡ stands.before ++ old.entries = ap (λ (x : List Entry). (stands.before ++ old.entries) ++ x) entries ∙ append-nil (stands.before ++ old.entries) in
      record {
        before = stands.before ++ old.entries;
        behind = roll.answered;
        life_is = stands.life_is ∙ (λ i. record { site = sym site i; start = sym start i; entries = sym whole i });
        calls_are = sym (ap length entries);
        history = stands.history;
      };
}

-- the whole

pub first_played : (script : ScriptRecord) (part : PartRecord) (text : List ℕ) → script.start ≤ MOMENT_MAX → part ≡ record { site = script.site; start = script.start; carry = None; entries = [] } → IsOpenable script.site
    → text ≡ lives_text script.site script.start [] → Played script 0 part text
first_played script part text high is openable added =
    let kept : IsBook (empty_life script.site script.start) = IsBook-empty script.site script.start openable high in
    let life : empty_life script.site script.start ≡ book_behind [] part = ap (book_behind []) (sym is) in
    record {
      deeds = [];
      lines_are = refl;
      done = tt;
      stands = record {
        before = [];
        behind = first_behind part (ap (λ (b : PartRecord). b.carry) is) (subst IsBook life kept);
        life_is = life;
        calls_are = sym (ap (λ (b : PartRecord). length b.entries) is);
        history = life_is_history (empty_life script.site script.start) [] kept (no_past (empty_life script.site script.start) kept);
      };
      text_is = added;
    }

pub safe_chain : (chain : Chain) (part : PartRecord) → Stands chain part → IsSafeChain chain
safe_chain chain part stands = record { commissioned = refl; history = stands.history; safe = safe_always (history_of chain) stands.history }

pub on_ok : {T E : Type 0} (r : Result T E) (P Q : Type 0) → (P → Q) → OnOk r P → OnOk r Q
on_ok (Ok x) P Q f p = f p
on_ok (Err e) P Q f p = tt

-- one line after another

-- what was played of a script's first lines was played of the script
played_in : (script : ScriptRecord) (done more : List Line) (part : PartRecord) (text : List ℕ) → script.lines ≡ done ++ more → Played (record { site = script.site; start = script.start; lines = done }) (length done) part text
    → Played script (length done) part text
played_in script done more part text are p = record {
  deeds = p.deeds;
  lines_are = p.lines_are ∙ sym (take-append-le (length done) done more (omega arith)) ∙ ap (λ (x : List Line). take (length done) x) (sym are);
  done = p.done;
  stands = p.stands;
  text_is = p.text_is;
}

seam_less : (its done more : List Line) (line : Line) → its ≡ done ++ line ∷ more → length done < length its
seam_less its done more line are = omega (arith, ap length are, length-append done (line ∷ more))

seam_is : (its done more : List Line) (line : Line) → its ≡ done ++ line ∷ more → line ≡ get_or its (length done) line
seam_is its done more line are = sym (ap (λ (x : List Line). get_or x (length done) line) are ∙ get_or-append_seam done line more line)

pub next_fits : (bytes : List ℕ) (first part : PartRecord) (old new : Lines) (text : List ℕ) (line : Line) → length bytes ≤ 134217728 → LineRead old line new → IsReplayed bytes first old part text → LineFits part line
next_fits bytes first part old new text line few one r =
    let whole : ScriptRecord = script_with first (r.done ++ line ∷ []) in
    let has : HasRead bytes whole new = one.goes_on bytes (script_with first r.done) r.read in
    let short : length whole.lines ≤ 134217728 = omega (arith, few, read_within bytes whole new has) in
    line_fits whole (length r.done) line part text has.is_at.each short (seam_less (r.done ++ line ∷ []) r.done [] line refl) (seam_is (r.done ++ line ∷ []) r.done [] line refl) (played_in whole r.done (line ∷ []) part text refl r.played)

pub line_done : (bytes : List ℕ) (first part next : PartRecord) (old new : Lines) (before after : List ℕ) (line : Line) → LineRead old line new → IsReplayed bytes first old part before → Does line part next before after
    → IsReplayed bytes first new next after
line_done bytes first part next old new before after line one r does =
    let whole : ScriptRecord = script_with first (r.done ++ line ∷ []) in
    let more = played_more whole (length r.done) line part next before after (seam_less (r.done ++ line ∷ []) r.done [] line refl) (seam_is (r.done ++ line ∷ []) r.done [] line refl) (played_in whole r.done (line ∷ []) part before refl r.played) does in
    let count : length r.done + 1 ≡ length (r.done ++ line ∷ []) = omega (arith, length-append r.done (line ∷ [])) in
    record {
      done = r.done ++ line ∷ [];
      read = one.goes_on bytes (script_with first r.done) r.read;
      played = subst (λ (n : ℕ). Played whole n next after) count more;
    }

ends_full : (script : ScriptRecord) (done more : List Line) (line : Line) (old new : PartRecord) (before after : List ℕ) (calls : ℕ) → script.lines ≡ done ++ line ∷ more → Played script (length done) old before
    → FindsFull line old new before after calls → Ends script new after (Some calls)
ends_full script done more line old new before after calls are p step =
    let count : ℕ = length done in
    let played : Played script count new after = subst (λ (part : PartRecord). Played script count part after) (sym step.same) (subst (λ (t : List ℕ). Played script count old t) (sym step.text) p) in
    let site : old.site ≡ script.site = site_is script count old before p in
    let room : old.site.room ≡ script.site.room = ap (λ (s : SiteRecord). s.room) site in
    let front : take count script.lines ≡ done = ap (λ (x : List Line). take count x) are ∙ take-append_seam done (line ∷ more) in (
      count,
      played,
      step.call,
      more,
      are ∙ ap (λ (x : List Line). x ++ line ∷ more) (sym front) ∙ ap (λ (x : Line). take count script.lines ++ x ∷ more) step.line_is,
      ap (λ (b : PartRecord). length b.entries) step.same ∙ step.full ∙ room,
      step.room ∙ room,
    )

pub found_full : (bytes : List ℕ) (first part next : PartRecord) (old new : Lines) (before after : List ℕ) (line : Line) (calls : ℕ) → LineRead old line new → IsReplayed bytes first old part before
    → FindsFull line part next before after calls → AreLast new → IsReplayedWhole bytes first next after (Some calls)
found_full bytes first part next old new before after line calls one r step last =
    let rest = last bytes (script_with first (r.done ++ line ∷ [])) (one.goes_on bytes (script_with first r.done) r.read) in
    let its : List Line = (r.done ++ line ∷ []) ++ rest.0 in
    let are : its ≡ r.done ++ line ∷ rest.0 = append_assoc r.done (line ∷ []) rest.0 in
    record {
      lines = its;
      is_script = rest.1;
      ends = ends_full (script_with first its) r.done rest.0 line part next before after calls are (played_in (script_with first its) r.done (line ∷ rest.0) part before are r.played) step;
    }

pub all_done : (bytes : List ℕ) (first part : PartRecord) (left : Lines) (text : List ℕ) → ((bytes : List ℕ) (script : ScriptRecord) → HasRead bytes script left → IsScript bytes script) → IsReplayed bytes first left part text
    → IsReplayedWhole bytes first part text None
all_done bytes first part left text ends r = record { lines = r.done; is_script = ends bytes (script_with first r.done) r.read; ends = r.played }

pub not_further : (bytes : List ℕ) (first part : PartRecord) (left : Lines) (text : List ℕ) (fault : ReplayFault) → FaultExplained left fault → IsReplayed bytes first left part text → Explains fault bytes
not_further bytes first part left text fault bad r = bad bytes (script_with first r.done) r.read

pub not_past : (bytes : List ℕ) (first part : PartRecord) (old new : Lines) (text : List ℕ) (line : Line) (fault : ReplayFault) → LineRead old line new → FaultExplained new fault → IsReplayed bytes first old part text → Explains fault bytes
not_past bytes first part old new text line fault one bad r = bad bytes (script_with first (r.done ++ line ∷ [])) (one.goes_on bytes (script_with first r.done) r.read)

-- judging alone

pub fault_explains : (fault : ScriptFault) (bytes : List ℕ) → reading.IsBadLine fault bytes → Explains (fault_of fault) bytes
fault_explains (readings.BadLine line kind) bytes why = why
fault_explains readings.NoMemory bytes why = absurd why

-- from bytes to the text

pub start_high : (script : ScriptRecord) → EachMayFollow [] (script_statements script) → script.start ≤ MOMENT_MAX
start_high script each =
    let head : List Statement = site_statement script.site.cap script.site.rules script.site.policy script.site.room ∷ map inverter_statement script.site.units in
    let its : List Statement = map (λ line. Says line) script.lines in
    (each_at [] head its (Begin script.start) (subst (λ (x : List Statement). EachMayFollow [] x) (append_assoc head (Begin script.start ∷ []) its) each)).range

pub starts : (bytes : List ℕ) (script : ScriptRecord) (left : Lines) → HasRead bytes script left → script.start ≤ MOMENT_MAX
starts bytes script left has = start_high script has.is_at.each

pub begun : (bytes : List ℕ) (site : SiteRecord) (start : ℕ) (left : Lines) (part : PartRecord) (text : List ℕ) → HasRead bytes (record { site = site; start = start; lines = [] }) left
    → IsFirstLife (record { site = site; start = start; lines = [] }) part → text ≡ head_text site start → IsReplayed bytes part left part text
begun bytes site start left part text has first added =
    let script : ScriptRecord = record { site = site; start = start; lines = [] } in
    let same : script ≡ script_with part [] = ap (λ (b : PartRecord). script_with b []) (sym first.0) in
    let played : Played script 0 part text = first_played script part text (starts bytes script left has) first.0 first.1 (added ∙ sym (append-nil (head_text site start))) in
    record {
      done = [];
      read = subst (λ (s : ScriptRecord). HasRead bytes s left) same has;
      played = subst (λ (s : ScriptRecord). Played s 0 part text) same played;
    }

pub refuses : (bytes : List ℕ) (script : ScriptRecord) (fault : ReplayFault) → IsScript bytes script → RefusesSite script.site fault → Explains fault bytes
refuses bytes script faults.NoMemory is refused = no_memory bytes script is refused
refuses bytes script (faults.BadLine line kind) is refused = absurd refused
refuses bytes script (faults.BadSite fault) is refused = record { script = script; is_script = is; refused = refused }

pub is_replay : (bytes : List ℕ) (script : ScriptRecord) (part : PartRecord) (text : List ℕ) (full : Option ℕ) → IsScript bytes script → IsOpenable script.site → Ends script part text full → IsReplay bytes full text
is_replay bytes script part text None is openable p = record {
  script = script;
  is_script = is;
  openable = openable;
  deeds = p.deeds;
  reaches = p.lines_are ∙ take_all (length script.lines) script.lines (omega arith);
  done = p.done;
  safe = safe_chain (chain_behind (first_chain script.site script.start) p.deeds) part p.stands;
  text_is = p.text_is;
}
is_replay bytes script part text (Some calls) is openable ends =
    let p = ends.1 in
    record {
      script = script;
      is_script = is;
      openable = openable;
      deeds = p.deeds;
      reaches = (ends.2, ends.3, ends.4 ∙ ap (λ (x : List Line). x ++ lines.One ends.2 ∷ ends.3) (sym p.lines_are), p.stands.calls_are ∙ ends.5, ends.6);
      done = p.done;
      safe = safe_chain (chain_behind (first_chain script.site script.start) p.deeds) part p.stands;
      text_is = p.text_is;
    }

pub whole_replay : (bytes : List ℕ) (script : ScriptRecord) (first part : PartRecord) (text : List ℕ) (full : Option ℕ) → IsFirstLife script first → IsReplayedWhole bytes first part text full → IsReplay bytes full text
whole_replay bytes script first part text full begins r =
    is_replay bytes (script_with first r.lines) part text full r.is_script (subst IsOpenable (ap (λ (b : PartRecord). b.site) (sym begins.0)) begins.1) r.ends

-- the site of what was played opens a book
played_openable : (script : ScriptRecord) (count : ℕ) (part : PartRecord) (text : List ℕ) → Played script count part text → IsOpenable script.site
played_openable script count part text p = subst IsOpenable (site_is script count part text p) p.stands.behind.book.openable

pub none_bad : (bytes : List ℕ) (first part : PartRecord) (old new : Lines) (text : List ℕ) (line : Line) → LineRead old line new → AreLast new → IsReplayed bytes first old part text → Explains faults.NoMemory bytes
none_bad bytes first part old new text line one last r =
    let rest = last bytes (script_with first (r.done ++ line ∷ [])) (one.goes_on bytes (script_with first r.done) r.read) in
    no_memory bytes _ rest.1 (openable_is first.site (played_openable (script_with first r.done) (length r.done) part text r.played))

pub refuses_rest : (bytes : List ℕ) (script : ScriptRecord) (left : Lines) (fault : ReplayFault) → HasRead bytes script left → AreLast left → RefusesSite script.site fault → Explains fault bytes
refuses_rest bytes script left fault has last refused =
    let rest = last bytes script has in
    refuses bytes (with_lines script rest.0) fault rest.1 refused
