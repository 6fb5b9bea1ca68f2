-- A script has one replay, and its text is replayed as itself.
use Rattle.std.proofs.Common.{◌≡◌, ℕ, List, [], ◌∷◌, ◌++◌, map, Option, Some, None, refl, sym, ap, subst, ◌∙◌, arith, append_assoc}
use Rattle.std.proofs.lemmas.List.{append-nil, map-append}
use Rattle.plant_book.specs.declared.call.Call.{Call}
use Rattle.plant_book.specs.Site.{SiteRecord}
use Rattle.plant_book.specs.Answer.{reply_to}
use Rattle.script_text.specs.declared.line.Line.{Line}
use Rattle.script_text.specs.declared.line.Line.TheVariants as lines
use Rattle.script_text.specs.Grammar.{Statement, Says}
use Rattle.script_text.specs.Script.{ScriptRecord, IsScript, EachMayFollow, head_statements, script_statements}
use Rattle.script_text.specs.Text.{Deed, Entered, Begun, Rolled, deed_line, lives_text}
use Rattle.script_text.proofs.Once.{one_script, one_line, not_both}
use Rattle.script_text.proofs.Back.{reads_back}
use Rattle.script_replay.specs.declared.replay.ReplayFault.{ReplayFault}
use Rattle.script_replay.specs.declared.replay.ReplayFault.TheVariants as faults
use Rattle.script_replay.specs.Chain.{Chain, first_chain, chain_after, chain_behind, IsDone, AreDone}
use Rattle.script_replay.specs.Replay.{Reaches, IsReplay, Explains, HasRoom}
use Rattle.script_replay.proofs.Refused.{openable_is, not_refused_of, of_script}
use Rattle.std.proofs.lemmas.Option.{same_Some}

-- the deeds of lines are one

same_line : (a b : Line) (x y : List Line) → a ∷ x ≡ b ∷ y → a ≡ b
same_line a b x y e = cc

same_lines : (a b : Line) (x y : List Line) → a ∷ x ≡ b ∷ y → x ≡ y
same_lines a b x y e = cc

-- two deeds of one line are one
same_deed : (chain : Chain) (a b : Deed) → IsDone chain a → IsDone chain b → deed_line a ≡ deed_line b → a ≡ b
same_deed chain (Entered x) (Entered y) p q e =
    let call : x.call ≡ y.call = cc in
    let reply : x.reply ≡ y.reply = p.1 ∙ ap (λ (c : Call). reply_to chain.life c) call ∙ sym q.1 in
    λ i. Entered (record { call = call i; reply = reply i })
same_deed chain (Entered x) (Begun at) p q e = absurd cc
same_deed chain (Entered x) Rolled p q e = absurd cc
same_deed chain (Begun at) (Entered y) p q e = absurd cc
same_deed chain (Begun at) (Begun other) p q e = cc
same_deed chain (Begun at) Rolled p q e = absurd cc
same_deed chain Rolled (Entered y) p q e = absurd cc
same_deed chain Rolled (Begun at) p q e = absurd cc
same_deed chain Rolled Rolled p q e = refl

same_deeds : (chain : Chain) (a b : List Deed) → AreDone chain a → AreDone chain b → map deed_line a ≡ map deed_line b → a ≡ b
same_deeds chain [] [] p q e = refl
same_deeds chain [] (deed ∷ b) p q e = absurd cc
same_deeds chain (deed ∷ a) [] p q e = absurd cc
same_deeds chain (one ∷ a) (other ∷ b) p q e =
    let first : one ≡ other = same_deed chain one other p.0 q.0 (same_line (deed_line one) (deed_line other) (map deed_line a) (map deed_line b) e) in
    let rest : a ≡ b = same_deeds (chain_after chain one) a b p.1 (subst (λ (d : Deed). AreDone (chain_after chain d) b) (sym first) q.1) (same_lines (deed_line one) (deed_line other) (map deed_line a) (map deed_line b) e) in
    λ i. first i ∷ rest i

-- where these deeds find a book full, no deeds of more lines are done
no_further : (chain : Chain) (a b : List Deed) (call : Call) (more : List Line) → AreDone chain a → AreDone chain b → (chain_behind chain a).calls ≡ (chain_behind chain a).life.site.room → map deed_line b ≡ map deed_line a ++ lines.One call ∷ more → ⊥
no_further chain [] [] call more p q full e = absurd cc
no_further chain [] (Entered entry ∷ b) call more p q full e = omega (arith, q.0.0, full)
no_further chain [] (Begun at ∷ b) call more p q full e = absurd cc
no_further chain [] (Rolled ∷ b) call more p q full e = absurd cc
no_further chain (one ∷ a) [] call more p q full e = absurd cc
no_further chain (one ∷ a) (other ∷ b) call more p q full e =
    let first : one ≡ other = same_deed chain one other p.0 q.0 (sym (same_line (deed_line other) (deed_line one) (map deed_line b) (map deed_line a ++ lines.One call ∷ more) e)) in
    no_further (chain_after chain one) a b call more p.1 (subst (λ (d : Deed). AreDone (chain_after chain d) b) (sym first) q.1) full (same_lines (deed_line other) (deed_line one) (map deed_line b) (map deed_line a ++ lines.One call ∷ more) e)

site_behind : (chain : Chain) (deeds : List Deed) → (chain_behind chain deeds).life.site ≡ chain.life.site
site_behind chain [] = refl
site_behind chain (Entered entry ∷ deeds) = site_behind (chain_after chain (Entered entry)) deeds
site_behind chain (Begun at ∷ deeds) = site_behind (chain_after chain (Begun at)) deeds
site_behind chain (Rolled ∷ deeds) = site_behind (chain_after chain Rolled) deeds

-- two lists of deeds, each up to a call that finds a book full, are one
same_full : (chain : Chain) (a b : List Deed) (call other : Call) (more rest : List Line) → AreDone chain a → AreDone chain b → (chain_behind chain a).calls ≡ (chain_behind chain a).life.site.room
    → (chain_behind chain b).calls ≡ (chain_behind chain b).life.site.room → map deed_line a ++ lines.One call ∷ more ≡ map deed_line b ++ lines.One other ∷ rest → a ≡ b
same_full chain [] [] call other more rest p q f g e = refl
same_full chain [] (Entered entry ∷ b) call other more rest p q f g e = absurd (omega (arith, q.0.0, f))
same_full chain [] (Begun at ∷ b) call other more rest p q f g e = absurd cc
same_full chain [] (Rolled ∷ b) call other more rest p q f g e = absurd cc
same_full chain (Entered entry ∷ a) [] call other more rest p q f g e = absurd (omega (arith, p.0.0, g))
same_full chain (Begun at ∷ a) [] call other more rest p q f g e = absurd cc
same_full chain (Rolled ∷ a) [] call other more rest p q f g e = absurd cc
same_full chain (one ∷ a) (two ∷ b) call other more rest p q f g e =
    let first : one ≡ two = same_deed chain one two p.0 q.0 (same_line (deed_line one) (deed_line two) (map deed_line a ++ lines.One call ∷ more) (map deed_line b ++ lines.One other ∷ rest) e) in
    let later : a ≡ b =
    same_full (chain_after chain one) a b call other more rest p.1 (subst (λ (d : Deed). AreDone (chain_after chain d) b) (sym first) q.1) f (subst (λ (d : Deed). (chain_behind (chain_after chain d) b).calls ≡ (chain_behind (chain_after chain d) b).life.site.room) (sym first) g)
    (same_lines (deed_line one) (deed_line two) (map deed_line a ++ lines.One call ∷ more) (map deed_line b ++ lines.One other ∷ rest) e) in
    λ i. first i ∷ later i

-- one replay

at_room : (script : ScriptRecord) (deeds : List Deed) → (chain_behind (first_chain script.site script.start) deeds).calls ≡ script.site.room
    → (chain_behind (first_chain script.site script.start) deeds).calls ≡ (chain_behind (first_chain script.site script.start) deeds).life.site.room
at_room script deeds full = full ∙ sym (ap (λ (s : SiteRecord). s.room) (site_behind (first_chain script.site script.start) deeds))

one_way : (script : ScriptRecord) (a b : Option ℕ) (x y : List Deed) → AreDone (first_chain script.site script.start) x → AreDone (first_chain script.site script.start) y → Reaches script x a → Reaches script y b → (a ≡ b) × (x ≡ y)
one_way script None None x y p q r s = (refl, same_deeds (first_chain script.site script.start) x y p q (r ∙ sym s))
one_way script None (Some calls) x y p q r s = absurd (no_further (first_chain script.site script.start) y x s.0 s.1 q p (at_room script y s.3) (r ∙ s.2))
one_way script (Some calls) None x y p q r s = absurd (no_further (first_chain script.site script.start) x y r.0 r.1 p q (at_room script x r.3) (s ∙ r.2))
one_way script (Some calls) (Some others) x y p q r s = (
  ap (λ (n : ℕ). Some n) (r.4 ∙ sym s.4),
  same_full (first_chain script.site script.start) x y r.0 s.0 r.1 s.1 p q (at_room script x r.3) (at_room script y s.3) (sym r.2 ∙ s.2),
)

pub one_replay : (bytes : List ℕ) (a b : Option ℕ) (x y : List ℕ) → IsReplay bytes a x → IsReplay bytes b y → (a ≡ b) × (x ≡ y)
one_replay bytes a b x y p q =
    let same : q.script ≡ p.script = one_script bytes q.script p.script q.is_script p.is_script in
    let way = one_way p.script a b p.deeds q.deeds p.done (subst (λ (s : ScriptRecord). AreDone (first_chain s.site s.start) q.deeds) same q.done) p.reaches (subst (λ (s : ScriptRecord). Reaches s q.deeds b) same q.reaches) in
    (way.0, p.text_is ∙ ap (λ (d : List Deed). lives_text p.script.site p.script.start d) way.1 ∙ sym (q.text_is ∙ ap (λ (s : ScriptRecord). lives_text s.site s.start q.deeds) same))

-- the text of a replay

front : (acc a b : List Statement) → EachMayFollow acc (a ++ b) → EachMayFollow acc a
front acc [] b each = tt
front acc (one ∷ a) b each = (each.0, front (acc ++ one ∷ []) a b each.1)

reached : (script : ScriptRecord) (deeds : List Deed) (full : Option ℕ) → Reaches script deeds full → (more : List Line) × (script.lines ≡ map deed_line deeds ++ more)
reached script deeds None r = ([], sym r ∙ sym (append-nil (map deed_line deeds)))
reached script deeds (Some calls) r = (lines.One r.0 ∷ r.1, r.2)

pub replays_itself : (bytes : List ℕ) (full : Option ℕ) (text : List ℕ) → IsReplay bytes full text → IsReplay text None text
replays_itself bytes full text p =
    let script : ScriptRecord = record { site = p.script.site; start = p.script.start; lines = map deed_line p.deeds } in
    let more = reached p.script p.deeds full p.reaches in
    let says : List Line → List Statement = map (λ line. Says line) in
    let head : List Statement = head_statements p.script.site p.script.start in
    let all : script_statements p.script ≡ (head ++ says (map deed_line p.deeds)) ++ says more.0 =
    ap (λ (x : List Line). head ++ says x) more.1 ∙ ap (λ (x : List Statement). head ++ x) (map-append (λ line. Says line) (map deed_line p.deeds) more.0) ∙ sym (append_assoc head (says (map deed_line p.deeds)) (says more.0)) in
    let each : EachMayFollow [] (script_statements script) = front [] (head ++ says (map deed_line p.deeds)) (says more.0) (subst (λ (x : List Statement). EachMayFollow [] x) all p.is_script.each) in
    record {
      script = script;
      is_script = subst (λ (x : List ℕ). IsScript x script) (sym p.text_is) (reads_back script p.deeds refl each);
      openable = p.openable;
      deeds = p.deeds;
      reaches = refl;
      done = p.done;
      safe = p.safe;
      text_is = p.text_is;
    }

-- where there is room

pub not_refused : (bytes : List ℕ) (fault : ReplayFault) → HasRoom bytes → Explains fault bytes → fault ≡ faults.NoMemory
not_refused bytes faults.NoMemory room explains = refl
not_refused bytes (faults.BadLine line kind) room explains = absurd (not_both bytes room.script line kind room.is_script explains)
not_refused bytes (faults.BadSite fault) room explains =
    absurd (not_refused_of bytes room.script room.is_script (openable_is room.script.site room.openable) fault explains)

pub not_full : (bytes : List ℕ) (calls : ℕ) (text : List ℕ) → HasRoom bytes → IsReplay bytes (Some calls) text → ⊥
not_full bytes calls text room p =
    let same : room.script ≡ p.script = one_script bytes room.script p.script room.is_script p.is_script in
    let done = subst (λ (s : ScriptRecord). AreDone (first_chain s.site s.start) room.deeds) same room.done in
    let all : map deed_line room.deeds ≡ p.script.lines = room.all ∙ ap (λ (s : ScriptRecord). s.lines) same in
    no_further (first_chain p.script.site p.script.start) p.deeds room.deeds p.reaches.0 p.reaches.1 p.done done (at_room p.script p.deeds p.reaches.3) (all ∙ p.reaches.2)

-- one fault

pub replay_stands : (bytes : List ℕ) (full : Option ℕ) (text : List ℕ) (fault : ReplayFault) → IsReplay bytes full text → Explains fault bytes → fault ≡ faults.NoMemory
replay_stands bytes full text faults.NoMemory p explains = refl
replay_stands bytes full text (faults.BadLine line kind) p explains = absurd (not_both bytes p.script line kind p.is_script explains)
replay_stands bytes full text (faults.BadSite fault) p explains =
    absurd (not_refused_of bytes p.script p.is_script (openable_is p.script.site p.openable) fault explains)

pub one_fault : (bytes : List ℕ) (f g : ReplayFault) → Explains f bytes → Explains g bytes → f ≡ g
one_fault bytes faults.NoMemory faults.NoMemory p q = refl
one_fault bytes faults.NoMemory (faults.BadLine line kind) p q = absurd (p.0 line kind q)
one_fault bytes faults.NoMemory (faults.BadSite fault) p q = absurd (p.1 fault q)
one_fault bytes (faults.BadLine line kind) faults.NoMemory p q = absurd (q.0 line kind p)
one_fault bytes (faults.BadLine line kind) (faults.BadLine other more) p q =
    let same = one_line bytes line other kind more p q in
    λ i. faults.BadLine (same.0 i) (same.1 i)
one_fault bytes (faults.BadLine line kind) (faults.BadSite fault) p q = absurd (not_both bytes q.script line kind q.is_script p)
one_fault bytes (faults.BadSite fault) faults.NoMemory p q = absurd (q.1 fault p)
one_fault bytes (faults.BadSite fault) (faults.BadLine line kind) p q = absurd (not_both bytes p.script line kind p.is_script q)
one_fault bytes (faults.BadSite fault) (faults.BadSite other) p q = ap faults.BadSite (same_Some fault other (sym p.refused ∙ of_script bytes q.script other q.is_script q.refused p.script p.is_script))
