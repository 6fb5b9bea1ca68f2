-- What is done of a call, by what a plant with buses answers.
use Rattle.std.proofs.Common.{◌≡◌, ℕ, ◌<◌, ◌⊎◌, inl, inr, List, [], ◌∷◌, ◌++◌, length, drop, map, Option, Some, None, Result, Ok, Err, refl, sym, ap, subst, ◌∙◌, append_assoc, arith}
use Rattle.std.specs.List.{flat_map}
use Rattle.std.proofs.Math.Seq.{drop-append_seam}
use Rattle.std.proofs.lemmas.List.{append-nil, map_push, map-append}
use Rattle.std.proofs.lemmas.List.Concat.{flat_map-append}
use Rattle.plant_book.specs.declared.call.Call.{Call}
use Rattle.plant_book.specs.declared.call.Call.TheVariants as calls
use Rattle.plant_book.specs.declared.call.Reply.{Reply}
use Rattle.plant_book.specs.declared.book.Entry.{Entry}
use Rattle.plant_book.specs.Calls.{entered}
use Rattle.plant_book.specs.Site.{SiteRecord}
use Rattle.plant_book.specs.Book.{BookRecord}
use Rattle.plant_book.specs.Part.{PartRecord, book_behind}
use Rattle.plant_book.specs.Answered.{IsBook}
use Rattle.plant_book.specs.Carry.{IsBehind, EachBook}
use Rattle.plant_ledger.specs.declared.plant.BookFull.{BookFull}
use Rattle.plant_ledger.specs.declared.plant.Outcome.{Outcome}
use Rattle.script_text.specs.declared.line.Line.{Line}
use Rattle.script_text.specs.declared.line.Line.TheVariants as lines
use Rattle.script_text.specs.Script.{ScriptRecord, IsScript}
use Rattle.script_text.specs.Reader.{with_lines}
use Rattle.script_text.specs.Text.{head_text, entry_text}
use Rattle.busbars.specs.declared.bus.Bus as bus
use Rattle.busbars.specs.declared.plant.BusReply.{BusReply}
use Rattle.busbars.specs.declared.plant.BusReply.TheVariants as told
use Rattle.busbars.specs.Caps.{ReservesUnderCaps}
use Rattle.busbars.specs.Applied.{BusPlantRecord, IsThePlants, IsAsked, IsPlain, IsApplied}
use Rattle.busbars.proofs.Under.{applied_under}
use Rattle.one_life_script.proofs.Calls.{AreCalls}
use Rattle.nested_replay.specs.Played.{Deed, Entered, Refused, entry_for, with_call, HasPlaceFor, IsStopped, Plays, entries_of, book_of, deed_text, bus_text, nested_text}
use Rattle.nested_replay.specs.Playing.{refused_text, told_text, full_in, Steps, IsSafeBook, EachSafe, part_of, Stands, IsPlayed}

-- the first book of a life, as a plant keeps it and as a whole
abbrev part : SiteRecord → ℕ → List Entry → PartRecord
part site start entries = record { site = site; start = start; carry = None; entries = entries }

abbrev book : SiteRecord → ℕ → List Entry → BookRecord
book site start entries = record { site = site; start = start; entries = entries }

behind_none : (site : SiteRecord) (start : ℕ) (entries : List Entry) → IsBook (book site start entries) → IsBehind [] (part site start entries)
behind_none site start entries kept = record { carry = refl; book = kept }

each_of : (site : SiteRecord) (start : ℕ) (entries : List Entry) (Fact : BookRecord → Type 0) → Fact (book site start entries) → EachBook (part site start entries) Fact
each_of site start entries Fact fact = λ before behind. subst (λ (b : List Entry). Fact (book_behind b (part site start entries))) (sym behind.carry) fact

-- a call that the plant entered
record Enters (buses : List bus.Bus) (site : SiteRecord) (start : ℕ) (entries : List Entry) (call : Call) (new : PartRecord) : Type 0 where
  room : length entries < site.room
  new_is : new ≡ part site start (entries ++ entry_for (book site start entries) call ∷ [])
  safe : IsSafeBook buses (book site start (entries ++ entry_for (book site start entries) call ∷ []))

enters : (buses : List bus.Bus) (site : SiteRecord) (start : ℕ) (entries : List Entry) (call : Call) (outcome : Outcome) (new : PartRecord) → IsBook (book site start entries) → IsThePlants call (Ok outcome) (part site start entries) new
    → EachBook new (ReservesUnderCaps buses) → Enters buses site start entries call new
enters buses site start entries call outcome new kept plants under =
    let goes = plants.3 [] (behind_none site start entries kept) in
    let is : new ≡ part site start (entries ++ entry_for (book site start entries) call ∷ []) =
    plants.1 ∙ ap (λ (reply : Reply). part site start (entries ++ record { call = entered start entries call; reply = reply } ∷ [])) goes.right in
    record {
      room = plants.0;
      new_is = is;
      safe = record {
        book_is = subst (λ (p : PartRecord). IsBook (book_behind [] p)) is goes.answered.book;
        under = subst (λ (p : PartRecord). ReservesUnderCaps buses (book_behind [] p)) is (under [] goes.answered);
      };
    }

-- fronts of short lists

nothing_before : (P : List Deed → Type 0) (first later : List Deed) → [] ≡ first ++ later → P [] → P first
nothing_before P [] later e p = p
nothing_before P (x ∷ first) later e p = absurd cc

deed_same : (a b : Deed) (x y : List Deed) → a ∷ x ≡ b ∷ y → (a ≡ b) × (x ≡ y)
deed_same a b x y e = (cc, cc)

one_before : (P : List Deed → Type 0) (d : Deed) (first later : List Deed) → d ∷ [] ≡ first ++ later → P [] → P (d ∷ []) → P first
one_before P d [] later e p q = p
one_before P d (x ∷ first) later e p q =
    let both = deed_same d x [] (first ++ later) e in
    nothing_before (λ (more : List Deed). P (x ∷ more)) first later both.1 (subst (λ (y : Deed). P (y ∷ [])) both.0 q)

two_before : (P : List Deed → Type 0) (d f : Deed) (first later : List Deed) → d ∷ f ∷ [] ≡ first ++ later → P [] → P (d ∷ []) → P (d ∷ f ∷ []) → P first
two_before P d f [] later e p q r = p
two_before P d f (x ∷ first) later e p q r =
    let both = deed_same d x (f ∷ []) (first ++ later) e in
    one_before (λ (more : List Deed). P (x ∷ more)) f first later both.1 (subst (λ (y : Deed). P (y ∷ [])) both.0 q) (subst (λ (y : Deed). P (y ∷ f ∷ [])) both.0 r)

-- what was done of a call behind these entries

abbrev Goes : List bus.Bus → SiteRecord → ℕ → List Entry → Call → List Deed → Result BusReply BookFull → Type 0
Goes buses site start entries call deeds (Ok reply) = (more : List Call) (later : List Deed) (full : Option ℕ) → Plays buses (book site start (entries ++ entries_of deeds)) more later full
    → Plays buses (book site start entries) (call ∷ more) (deeds ++ later) full
Goes buses site start entries call deeds (Err full) = (more : List Call) → Plays buses (book site start entries) (call ∷ more) deeds (Some full.calls)

record Does (buses : List bus.Bus) (site : SiteRecord) (start : ℕ) (entries : List Entry) (call : Call) (answer : Result BusReply BookFull) (new : PartRecord) : Type 0 where
  deeds : List Deed
  new_is : new ≡ part site start (entries ++ entries_of deeds)
  text : flat_map deed_text deeds ≡ flat_map entry_text (entries_of deeds) ++ told_text call answer
  each : (first later : List Deed) → deeds ≡ first ++ later → IsSafeBook buses (book site start (entries ++ entries_of first))
  plays : Goes buses site start entries call deeds answer

abbrev IsNoAsk : Call → Type 0
IsNoAsk (calls.Ask at inverter raw) = ⊥
IsNoAsk call = Unit {0}

as_plays : (buses : List bus.Bus) (b : BookRecord) (call : Call) (more : List Call) (deeds : List Deed) (full : Option ℕ) → IsNoAsk call
    → IsStopped b deeds full ⊎ (HasPlaceFor b × (later : List Deed) × (deeds ≡ Entered (entry_for b call) ∷ later) × Plays buses (with_call b call) more later full) → Plays buses b (call ∷ more) deeds full
as_plays buses b (calls.Ask at inverter raw) more deeds full apart p = absurd apart
as_plays buses b (calls.Link at inverter) more deeds full apart p = p
as_plays buses b (calls.Read at inverter) more deeds full apart p = p
as_plays buses b (calls.Saw at inverter number raw) more deeds full apart p = p
as_plays buses b (calls.Back at inverter link number) more deeds full apart p = p
as_plays buses b (calls.Want at inverter mw) more deeds full apart p = p
as_plays buses b (calls.Tick at) more deeds full apart p = p
as_plays buses b (calls.Stop at) more deeds full apart p = p
as_plays buses b (calls.Cap at mw) more deeds full apart p = p

none_refused : (call : Call) (outcome : Outcome) → refused_text call (told.Plain outcome) ≡ []
none_refused (calls.Ask at inverter raw) outcome = refl
none_refused (calls.Link at inverter) outcome = refl
none_refused (calls.Read at inverter) outcome = refl
none_refused (calls.Saw at inverter number raw) outcome = refl
none_refused (calls.Back at inverter link number) outcome = refl
none_refused (calls.Want at inverter mw) outcome = refl
none_refused (calls.Tick at) outcome = refl
none_refused (calls.Stop at) outcome = refl
none_refused (calls.Cap at mw) outcome = refl

abbrev some_calls : ℕ → Option ℕ
some_calls n = Some n

module _ (buses : List bus.Bus) (site : SiteRecord) (start : ℕ) (entries : List Entry) (safe : IsSafeBook buses (book site start entries)) where
  at_start : IsSafeBook buses (book site start (entries ++ []))
  at_start = subst (λ (es : List Entry). IsSafeBook buses (book site start es)) (sym (append-nil entries)) safe

  -- no bus has more than its cap
  under_all : EachBook (part site start entries) (ReservesUnderCaps buses)
  under_all = each_of site start entries (ReservesUnderCaps buses) safe.under

  stopped : (call : Call) (full : BookFull) (new : PartRecord) → IsThePlants call (Err full) (part site start entries) new → IsStopped (book site start entries) [] (Some full.calls)
  stopped call full new plants = (omega (arith, plants.0, plants.1), refl, ap some_calls plants.0)

  nothing_done : (call : Call) (full : BookFull) (new : PartRecord) → IsThePlants call (Err full) (part site start entries) new
      → ((more : List Call) → Plays buses (book site start entries) (call ∷ more) [] (Some full.calls)) → Does buses site start entries call (Err full) new
  nothing_done call full new plants plays = record {
    deeds = [];
    new_is = plants.2 ∙ ap (part site start) (sym (append-nil entries));
    text = refl;
    each = λ first later e. nothing_before (λ (ds : List Deed). IsSafeBook buses (book site start (entries ++ entries_of ds))) first later e at_start;
    plays = plays;
  }

  plain_done : (call : Call) (answer : Result BusReply BookFull) (new : PartRecord) → IsNoAsk call → IsPlain call answer (part site start entries) new → EachBook new (ReservesUnderCaps buses) → Does buses site start entries call answer new
  plain_done call (Ok (told.BusFull place left)) new apart plain under = absurd plain
  plain_done call (Err full) new apart plain under = nothing_done call full new plain (λ more. as_plays buses (book site start entries) call more [] (Some full.calls) apart (inl (stopped call full new plain)))
  plain_done call (Ok (told.Plain outcome)) new apart plain under =
      let e = enters buses site start entries call outcome new safe.book_is plain under in
      let one : Entry = entry_for (book site start entries) call in
      record {
        deeds = Entered one ∷ [];
        new_is = e.new_is;
        text = sym (ap (λ (x : List ℕ). (entry_text one ++ []) ++ x) (none_refused call outcome) ∙ append-nil (entry_text one ++ []));
        each = λ first later is. one_before (λ (ds : List Deed). IsSafeBook buses (book site start (entries ++ entries_of ds))) (Entered one) first later is at_start e.safe;
        plays = λ more later full p. as_plays buses (book site start entries) call more (Entered one ∷ later) full apart (inr (e.room, later, refl, p));
      }

  module _ (at inverter raw : ℕ) where
    abbrev tick : Entry
    tick = entry_for (book site start entries) (calls.Tick at)

    abbrev ticked : List Entry
    ticked = entries ++ tick ∷ []

    abbrev Safe : List Deed → Type 0
    Safe ds = IsSafeBook buses (book site start (entries ++ entries_of ds))

    asked_done : (answer : Result BusReply BookFull) (new : PartRecord) → length entries < site.room → IsSafeBook buses (book site start ticked) → IsAsked buses at inverter raw answer (part site start ticked) new → EachBook new (ReservesUnderCaps buses)
        → Does buses site start entries (calls.Ask at inverter raw) answer new
    asked_done (Ok (told.BusFull place left)) new room safe' asked under =
        let one : Deed = Refused at inverter raw place left in
        record {
          deeds = Entered tick ∷ one ∷ [];
          new_is = asked.0;
          text = ap (λ (x : List ℕ). entry_text tick ++ x) (append-nil (deed_text one)) ∙ ap (λ (x : List ℕ). x ++ deed_text one) (sym (append-nil (entry_text tick)));
          each = λ first later is. two_before Safe (Entered tick) one first later is at_start safe' safe';
          plays = λ more later full p. inr (room, one ∷ later, refl, inl (place, left, later, asked.1 [] (behind_none site start ticked safe'.book_is), refl, p));
        }
    asked_done (Ok (told.Plain outcome)) new room safe' asked under =
        let e = enters buses site start ticked (calls.Ask at inverter raw) outcome new safe'.book_is asked.1 under in
        let one : Entry = entry_for (book site start ticked) (calls.Ask at inverter raw) in
        let whole : ticked ++ one ∷ [] ≡ entries ++ tick ∷ one ∷ [] = append_assoc entries (tick ∷ []) (one ∷ []) in
        record {
          deeds = Entered tick ∷ Entered one ∷ [];
          new_is = e.new_is ∙ ap (part site start) whole;
          text = sym (append-nil (entry_text tick ++ (entry_text one ++ [])));
          each = λ first later is. two_before Safe (Entered tick) (Entered one) first later is at_start safe' (subst (λ (es : List Entry). IsSafeBook buses (book site start es)) whole e.safe);
          plays = λ more later full p. inr (
            room,
            Entered one ∷ later,
            refl,
            inr (
              asked.0 [] (behind_none site start ticked safe'.book_is),
              inr (e.room, later, refl, subst (λ (es : List Entry). Plays buses (book site start es) more later full) (sym whole) p),
            ),
          );
        }
    asked_done (Err full) new room safe' asked under =
        let plants = asked.1 in
        record {
          deeds = Entered tick ∷ [];
          new_is = plants.2;
          text = sym (append-nil (entry_text tick ++ []));
          each = λ first later is. one_before Safe (Entered tick) first later is at_start safe';
          plays = λ more. inr (room, [], refl, inr (asked.0 [] (behind_none site start ticked safe'.book_is), inl (omega (arith, plants.0, plants.1), refl, ap some_calls plants.0)));
        }

  done_of : (call : Call) (answer : Result BusReply BookFull) (new : PartRecord) → IsApplied buses call answer (part site start entries) new → Does buses site start entries call answer new
  done_of (calls.Ask at inverter raw) answer new (inl (full, is, plants)) =
      subst (λ (r : Result BusReply BookFull). Does buses site start entries (calls.Ask at inverter raw) r new) (sym is)
      (nothing_done (calls.Ask at inverter raw) full new plants (λ more. inl (stopped (calls.Tick at) full new plants)))
  done_of (calls.Ask at inverter raw) answer new (inr (between, outcome, plants, asked)) =
      let e = enters buses site start entries (calls.Tick at) outcome between safe.book_is plants (applied_under buses (calls.Tick at) (Ok (told.Plain outcome)) (part site start entries) between plants under_all) in
      asked_done at inverter raw answer new e.room e.safe (subst (λ (p : PartRecord). IsAsked buses at inverter raw answer p new) e.new_is asked)
      (applied_under buses (calls.Ask at inverter raw) answer (part site start entries) new (inr (between, outcome, plants, asked)) under_all)
  done_of (calls.Link at inverter) answer new applied = plain_done (calls.Link at inverter) answer new tt applied (applied_under buses (calls.Link at inverter) answer (part site start entries) new applied under_all)
  done_of (calls.Read at inverter) answer new applied = plain_done (calls.Read at inverter) answer new tt applied (applied_under buses (calls.Read at inverter) answer (part site start entries) new applied under_all)
  done_of (calls.Saw at inverter number raw) answer new applied = plain_done (calls.Saw at inverter number raw) answer new tt applied (applied_under buses (calls.Saw at inverter number raw) answer (part site start entries) new applied under_all)
  done_of (calls.Back at inverter link number) answer new applied = plain_done (calls.Back at inverter link number) answer new tt applied (applied_under buses (calls.Back at inverter link number) answer (part site start entries) new applied under_all)
  done_of (calls.Want at inverter mw) answer new applied = plain_done (calls.Want at inverter mw) answer new tt applied (applied_under buses (calls.Want at inverter mw) answer (part site start entries) new applied under_all)
  done_of (calls.Tick at) answer new applied = plain_done (calls.Tick at) answer new tt applied (applied_under buses (calls.Tick at) answer (part site start entries) new applied under_all)
  done_of (calls.Stop at) answer new applied = plain_done (calls.Stop at) answer new tt applied (applied_under buses (calls.Stop at) answer (part site start entries) new applied under_all)
  done_of (calls.Cap at mw) answer new applied = plain_done (calls.Cap at mw) answer new tt applied (applied_under buses (calls.Cap at mw) answer (part site start entries) new applied under_all)

-- one more call

entries_more : (a b : List Deed) → entries_of (a ++ b) ≡ entries_of a ++ entries_of b
entries_more [] b = refl
entries_more (Entered entry ∷ a) b = ap (λ (x : List Entry). entry ∷ x) (entries_more a b)
entries_more (Refused at inverter raw bus left ∷ a) b = entries_more a b

-- a front of two lists is a front of the first, or holds it
split : (a b first later : List Deed) → a ++ b ≡ first ++ later → ((rest : List Deed) × (a ≡ first ++ rest)) ⊎ ((more : List Deed) × (first ≡ a ++ more) × (b ≡ more ++ later))
split a b [] later e = inl (a, refl)
split [] b (x ∷ first) later e = inr (x ∷ first, refl, e)
split (y ∷ a) b (x ∷ first) later e =
    let both = deed_same y x (a ++ b) (first ++ later) e in
    let one = both.0 in
    elim (split a b first later both.1) [
      | inl p ↦ let rest = p.1 in inl (p.0, λ i. one i ∷ rest i)
      | inr q ↦ let rest = q.1 in inr (q.0, (λ i. sym one i ∷ rest i), q.2)
    ]

each_on : (buses : List bus.Bus) (site : SiteRecord) (start : ℕ) (a b : List Deed) → EachSafe buses site start a
    → ((first later : List Deed) → b ≡ first ++ later → IsSafeBook buses (book site start (entries_of a ++ entries_of first))) → EachSafe buses site start (a ++ b)
each_on buses site start a b before each = λ first later e.
    elim (split a b first later e) [
      | inl p ↦ before first p.0 p.1
      | inr q ↦ subst (λ (es : List Entry). IsSafeBook buses (book site start es)) (sym (ap entries_of q.1 ∙ entries_more a q.0)) (each q.0 later q.2)
    ]

module _ (script : ScriptRecord) (old new : BusPlantRecord) (before after : List ℕ) (call : Call) (full : Option ℕ) (s : Stands script old before) (st : Steps call old new before after full) where
  abbrev was : List Entry
  was = entries_of s.deeds

  now_safe : IsSafeBook old.buses (book script.site script.start was)
  now_safe = s.each s.deeds [] (sym (append-nil s.deeds))

  does : Does old.buses script.site script.start was call st.answer new.book
  does = done_of old.buses script.site script.start was now_safe call st.answer new.book (subst (λ (p : PartRecord). IsApplied old.buses call st.answer p new.book) s.book_is st.applied)

  new_each : EachSafe old.buses script.site script.start (s.deeds ++ does.deeds)
  new_each = each_on old.buses script.site script.start s.deeds does.deeds s.each does.each

  new_text : after ≡ nested_text old.buses script.site script.start (s.deeds ++ does.deeds)
  new_text =
      let front : List ℕ = flat_map bus_text old.buses ++ head_text script.site script.start in
      let added : drop (length old.book.entries) new.book.entries ≡ entries_of does.deeds =
      ap (λ (p : PartRecord). drop (length p.entries) new.book.entries) s.book_is ∙ ap (λ (p : PartRecord). drop (length was) p.entries) does.new_is ∙ drop-append_seam was (entries_of does.deeds) in
      st.text_is ∙ ap (λ (es : List Entry). (before ++ flat_map entry_text es) ++ told_text call st.answer) added
      ∙ append_assoc before (flat_map entry_text (entries_of does.deeds)) (told_text call st.answer)
      ∙ ap (λ (x : List ℕ). before ++ x) (sym does.text)
      ∙ ap (λ (x : List ℕ). x ++ flat_map deed_text does.deeds) s.text_is
      ∙ append_assoc front (flat_map deed_text s.deeds) (flat_map deed_text does.deeds)
      ∙ ap (λ (x : List ℕ). front ++ x) (sym (flat_map-append deed_text s.deeds does.deeds))

pub same_site : (script : ScriptRecord) (old new : BusPlantRecord) (before after : List ℕ) (call : Call) → Stands script old before → Steps call old new before after None → new.book.site ≡ old.book.site
same_site script old new before after call s st =
    ap (λ (p : PartRecord). p.site) (does script old new before after call None s st).new_is ∙ sym (ap (λ (p : PartRecord). p.site) s.book_is)

goes_ok : (buses : List bus.Bus) (site : SiteRecord) (start : ℕ) (entries : List Entry) (call : Call) (deeds : List Deed) (answer : Result BusReply BookFull) → None ≡ full_in answer → Goes buses site start entries call deeds answer
    → (more : List Call) (later : List Deed) (full : Option ℕ) → Plays buses (book site start (entries ++ entries_of deeds)) more later full → Plays buses (book site start entries) (call ∷ more) (deeds ++ later) full
goes_ok buses site start entries call deeds (Ok reply) e goes = goes
goes_ok buses site start entries call deeds (Err full) e goes = absurd cc

some_same : (m n : ℕ) → some_calls m ≡ some_calls n → m ≡ n
some_same m n e = cc

goes_full : (buses : List bus.Bus) (site : SiteRecord) (start : ℕ) (entries : List Entry) (call : Call) (deeds : List Deed) (answer : Result BusReply BookFull) (n : ℕ) → Some n ≡ full_in answer → Goes buses site start entries call deeds answer
    → (more : List Call) → Plays buses (book site start entries) (call ∷ more) deeds (Some n)
goes_full buses site start entries call deeds (Ok reply) n e goes = absurd cc
goes_full buses site start entries call deeds (Err full) n e goes = λ more. subst (λ (k : ℕ). Plays buses (book site start entries) (call ∷ more) deeds (some_calls k)) (sym (some_same n full.calls e)) (goes more)

pub stands_on : (script : ScriptRecord) (old new : BusPlantRecord) (before after : List ℕ) (call : Call) → Stands script old before → Steps call old new before after None → Stands (with_lines script (lines.One call ∷ [])) new after
stands_on script old new before after call s st =
    let d = does script old new before after call None s st in
    let whole : entries_of (s.deeds ++ d.deeds) ≡ entries_of s.deeds ++ entries_of d.deeds = entries_more s.deeds d.deeds in
    let book_is : new.book ≡ part_of script.site script.start (s.deeds ++ d.deeds) = d.new_is ∙ ap (part script.site script.start) (sym whole) in
    let buses_are = st.buses in
    let is : new ≡ record { book = part_of script.site script.start (s.deeds ++ d.deeds); buses = old.buses } = λ i. record { book = book_is i; buses = buses_are i } in
    subst (λ (plant : BusPlantRecord). Stands (with_lines script (lines.One call ∷ [])) plant after) (sym is)
    (record {
      calls = s.calls ++ call ∷ [];
      lines_are = ap (λ (x : List Line). x ++ lines.One call ∷ []) s.lines_are ∙ sym (map_push (λ call. lines.One call) s.calls call);
      deeds = s.deeds ++ d.deeds;
      goes_on = λ more later full p.
          let here = subst (λ (es : List Entry). Plays old.buses (book script.site script.start es) more later full) whole p in
          let one = goes_ok old.buses script.site script.start (entries_of s.deeds) call d.deeds st.answer st.full_is d.plays more later full here in
          let all = s.goes_on (call ∷ more) (d.deeds ++ later) full one in
          subst (λ (ds : List Deed). Plays old.buses (book_of script.site script.start []) ((s.calls ++ call ∷ []) ++ more) ds full) (sym (append_assoc s.deeds d.deeds later))
          (subst (λ (cs : List Call). Plays old.buses (book_of script.site script.start []) cs (s.deeds ++ (d.deeds ++ later)) full) (sym (append_assoc s.calls (call ∷ []) more)) all);
      each = new_each script old new before after call None s st;
      book_is = refl;
      text_is = new_text script old new before after call None s st;
    })

calls_back : (a more : List Line) → AreCalls (a ++ more) → AreCalls more
calls_back [] more are = are
calls_back (line ∷ a) more ([], e) = absurd cc
calls_back (line ∷ a) more (call ∷ its, e) = calls_back a more (its, rest_same line (lines.One call) (a ++ more) (map (λ call. lines.One call) its) e)
  where
    rest_same : (x y : Line) (xs ys : List Line) → x ∷ xs ≡ y ∷ ys → xs ≡ ys
    rest_same x y xs ys e = cc

pub full_played : (bytes : List ℕ) (script : ScriptRecord) (old new : BusPlantRecord) (before after : List ℕ) (call : Call) (n : ℕ) (more : List Line) → Stands script old before → Steps call old new before after (Some n)
    → IsScript bytes (with_lines (with_lines script (lines.One call ∷ [])) more) → AreCalls ((script.lines ++ lines.One call ∷ []) ++ more) → IsPlayed bytes old.book.site old.buses after (Some n)
full_played bytes script old new before after call n more s st is are =
    let d = does script old new before after call (Some n) s st in
    let rest = calls_back (script.lines ++ lines.One call ∷ []) more are in
    let all : List Call = s.calls ++ call ∷ rest.0 in
    record {
      script = with_lines (with_lines script (lines.One call ∷ [])) more;
      site_is = sym (ap (λ (p : PartRecord). p.site) s.book_is);
      is_script = is;
      calls = all;
      lines_are = append_assoc script.lines (lines.One call ∷ []) more ∙ ap (λ (x : List Line). script.lines ++ lines.One call ∷ x) rest.1
          ∙ ap (λ (x : List Line). x ++ lines.One call ∷ map (λ call. lines.One call) rest.0) s.lines_are ∙ sym (map-append (λ call. lines.One call) s.calls (call ∷ rest.0));
      deeds = s.deeds ++ d.deeds;
      plays = s.goes_on (call ∷ rest.0) d.deeds (Some n) (goes_full old.buses script.site script.start (entries_of s.deeds) call d.deeds st.answer n st.full_is d.plays rest.0);
      each = new_each script old new before after call (Some n) s st;
      text_is = new_text script old new before after call (Some n) s st;
    }

pub all_played : (bytes : List ℕ) (script : ScriptRecord) (plant : BusPlantRecord) (text : List ℕ) → Stands script plant text → IsScript bytes script → IsPlayed bytes plant.book.site plant.buses text None
all_played bytes script plant text s is = record {
  script = script;
  site_is = sym (ap (λ (p : PartRecord). p.site) s.book_is);
  is_script = is;
  calls = s.calls;
  lines_are = s.lines_are;
  deeds = s.deeds;
  plays = subst (λ (ds : List Deed). Plays plant.buses (book_of script.site script.start []) s.calls ds None) (append-nil s.deeds)
      (subst (λ (cs : List Call). Plays plant.buses (book_of script.site script.start []) cs (s.deeds ++ []) None) (append-nil s.calls) (s.goes_on [] [] None (refl, refl)));
  each = s.each;
  text_is = s.text_is;
}
