-- An input has one replay, or a fault.
use Rattle.std.proofs.Common.{◌≡◌, ℕ, ◌<◌, ◌⊎◌, inl, inr, List, [], ◌∷◌, ◌++◌, length, map, Option, None, refl, sym, ap, subst, ◌∙◌, arith, append_assoc, false, eqb, ltb}
use Rattle.std.proofs.lemmas.Bool.{cases_order, ne_eqb, le-ltb}
use Rattle.std.proofs.lemmas.Option.{none-some}
use Rattle.std.proofs.lemmas.List.{append-nil}
use Rattle.plant_book.specs.declared.call.Call.{Call}
use Rattle.plant_book.specs.declared.call.Call.TheVariants as calls
use Rattle.plant_book.specs.Site.{SiteRecord, inverters, floors}
use Rattle.plant_book.specs.Book.{BookRecord}
use Rattle.plant_book.specs.Answered.{IsOpenable}
use Rattle.plant_book.proofs.Growing.{has_place}
use Rattle.plant_ledger.specs.Opening.{open_fault}
use Rattle.script_text.specs.declared.line.Line.{Line}
use Rattle.script_text.specs.declared.line.Line.TheVariants as lines
use Rattle.busbars.specs.declared.bus.Bus as bus
use Rattle.busbars.specs.declared.bus.BusCause.{BusCause}
use Rattle.busbars.specs.declared.bus.BusCause.TheVariants as causes
use Rattle.busbars.specs.declared.bus.BusFault.{BusFault}
use Rattle.busbars.specs.Buses.{Fits, EachFits, HasCause, IsFirstFault}
use Rattle.busbars.specs.Caps.{left_on, LacksRoom, HasRoomOnAll, IsFirstFull}
use Rattle.nested_replay.specs.declared.replay.NestedFault.{NestedFault}
use Rattle.nested_replay.specs.declared.replay.NestedFault.TheVariants as faults
use Rattle.nested_replay.specs.Nested.{NestedRecord}
use Rattle.nested_replay.specs.Played.{Deed, Entered, Refused, entry_for, with_call, HasPlaceFor, IsStopped, Plays, book_of, nested_text}
use Rattle.nested_replay.specs.Replay.{IsNestedReplay, Explains}
use Rattle.nested_replay.proofs.Once.{one_nested, not_both}

-- the first full bus is one

bus_same : (a b : bus.Bus) (x y : List bus.Bus) → a ∷ x ≡ b ∷ y → (a ≡ b) × (x ≡ y)
bus_same a b x y e = (cc, cc)

record Earlier (a b x : List bus.Bus) (full : bus.Bus) : Type 0 where
  more : List bus.Bus
  is : b ≡ a ++ full ∷ more

earlier : (a b x y : List bus.Bus) (full : bus.Bus) → a ++ full ∷ x ≡ b ++ y → length a < length b → Earlier a b x full
earlier [] [] x y full e less = absurd (omega (arith, less))
earlier [] (one ∷ b) x y full e less = let both = bus_same full one x (b ++ y) e in record { more = b; is = ap (λ (z : bus.Bus). z ∷ b) (sym both.0) }
earlier (one ∷ a) [] x y full e less = absurd (omega (arith, less))
earlier (one ∷ a) (other ∷ b) x y full e less =
    let both = bus_same one other (a ++ full ∷ x) (b ++ y) e in
    let more = earlier a b x y full both.1 (omega (arith, less)) in
    let same = both.0 in
    let rest = more.is in
    record { more = more.more; is = λ i. sym same i ∷ rest i }

same_place : (a b x y : List bus.Bus) (f g : bus.Bus) → a ++ f ∷ x ≡ b ++ g ∷ y → length a ≡ length b → f ≡ g
same_place [] [] x y f g e len = (bus_same f g x y e).0
same_place [] (one ∷ b) x y f g e len = absurd (omega (arith, len))
same_place (one ∷ a) [] x y f g e len = absurd (omega (arith, len))
same_place (one ∷ a) (other ∷ b) x y f g e len = same_place a b x y f g (bus_same one other (a ++ f ∷ x) (b ++ g ∷ y) e).1 (omega (arith, len))

module _ (book : BookRecord) (buses : List bus.Bus) (inverter raw : ℕ) where
  no_earlier : (m n k l : ℕ) (p : IsFirstFull book buses inverter raw m k) (q : IsFirstFull book buses inverter raw n l) → length p.before < length q.before → ⊥
  no_earlier m n k l p q less =
      let e = earlier p.before q.before p.later (q.full ∷ q.later) p.full (sym p.are ∙ q.are) less in
      has_place (λ b. LacksRoom book inverter raw b → ⊥) p.before p.full e.more (subst (λ (bs : List bus.Bus). HasRoomOnAll book bs inverter raw) e.is q.room) p.lacks

  one_full : (m n k l : ℕ) → IsFirstFull book buses inverter raw m k → IsFirstFull book buses inverter raw n l → (m ≡ n) × (k ≡ l)
  one_full m n k l p q =
      elim (cases_order (length p.before) (length q.before)) [
        | inl same ↦
            let full = same_place p.before q.before p.later q.later p.full q.full (sym p.are ∙ q.are) same in
            (omega (arith, p.place_is, q.place_is, same), p.left_is ∙ ap (left_on book) full ∙ sym q.left_is)
        | inr other ↦ elim other [ inl less ↦ absurd (no_earlier m n k l p q less) | inr more ↦ absurd (no_earlier n m l k q p more) ]
      ]

  full_or_room : (m k : ℕ) → IsFirstFull book buses inverter raw m k → HasRoomOnAll book buses inverter raw → ⊥
  full_or_room m k p room = has_place (λ b. LacksRoom book inverter raw b → ⊥) p.before p.full p.later (subst (λ (bs : List bus.Bus). HasRoomOnAll book bs inverter raw) p.are room) p.lacks

-- what is done of calls is one

record Same (deeds deeds' : List Deed) (full full' : Option ℕ) : Type 0 where
  deeds_are : deeds ≡ deeds'
  full_is : full ≡ full'

stopped_same : (b : BookRecord) (d d' : List Deed) (f f' : Option ℕ) → IsStopped b d f → IsStopped b d' f' → Same d d' f f'
stopped_same b d d' f f' p q = record { deeds_are = p.1 ∙ sym q.1; full_is = p.2 ∙ sym q.2 }

not_stopped : (b : BookRecord) (d : List Deed) (f : Option ℕ) → IsStopped b d f → HasPlaceFor b → ⊥
not_stopped b d f p room = omega (arith, p.0, room)

behind_one : (deed : Deed) (x y d d' : List Deed) (f f' : Option ℕ) → d ≡ deed ∷ x → d' ≡ deed ∷ y → Same x y f f' → Same d d' f f'
behind_one deed x y d d' f f' p q s = record { deeds_are = p ∙ ap (λ (z : List Deed). deed ∷ z) s.deeds_are ∙ sym q; full_is = s.full_is }

abbrev Plain : List bus.Bus → BookRecord → Call → List Call → List Deed → Option ℕ → Type 0
Plain buses b call more d f = IsStopped b d f ⊎ (HasPlaceFor b × (later : List Deed) × (d ≡ Entered (entry_for b call) ∷ later) × Plays buses (with_call b call) more later f)

abbrev OneWay : List bus.Bus → BookRecord → List Call → Type 0
OneWay buses b its = (d d' : List Deed) (f f' : Option ℕ) → Plays buses b its d f → Plays buses b its d' f' → Same d d' f f'

plain_same : (buses : List bus.Bus) (b : BookRecord) (call : Call) (more : List Call) → OneWay buses (with_call b call) more → (d d' : List Deed) (f f' : Option ℕ) → Plain buses b call more d f → Plain buses b call more d' f' → Same d d' f f'
plain_same buses b call more on d d' f f' (inl p) (inl q) = stopped_same b d d' f f' p q
plain_same buses b call more on d d' f f' (inl p) (inr q) = absurd (not_stopped b d f p q.0)
plain_same buses b call more on d d' f f' (inr p) (inl q) = absurd (not_stopped b d' f' q p.0)
plain_same buses b call more on d d' f f' (inr p) (inr q) = behind_one (Entered (entry_for b call)) p.1 q.1 d d' f f' p.2 q.2 (on p.1 q.1 f f' p.3 q.3)

module _ (buses : List bus.Bus) (b : BookRecord) (at inverter raw : ℕ) (more : List Call) where
  abbrev ticked : BookRecord
  ticked = with_call b (calls.Tick at)

  -- what is done behind the Tick
  abbrev Choice : List Deed → Option ℕ → Type 0
  Choice later f =
      ((place left : ℕ) × (last : List Deed) × IsFirstFull ticked buses inverter raw place left × (later ≡ Refused at inverter raw place left ∷ last) × Plays buses ticked more last f)
      ⊎ (HasRoomOnAll ticked buses inverter raw × Plain buses ticked (calls.Ask at inverter raw) more later f)

  choice_same : OneWay buses ticked more → OneWay buses (with_call ticked (calls.Ask at inverter raw)) more → (d d' : List Deed) (f f' : Option ℕ) → Choice d f → Choice d' f' → Same d d' f f'
  choice_same on on' d d' f f' (inl p) (inl q) =
      let same = one_full ticked buses inverter raw p.0 q.0 p.1 q.1 p.3 q.3 in
      let place = same.0 in
      let left = same.1 in
      let deed : Refused at inverter raw q.0 q.1 ≡ Refused at inverter raw p.0 p.1 = λ i. Refused at inverter raw (sym place i) (sym left i) in
      behind_one (Refused at inverter raw p.0 p.1) p.2 q.2 d d' f f' p.4 (q.4 ∙ ap (λ (x : Deed). x ∷ q.2) deed) (on p.2 q.2 f f' p.5 q.5)
  choice_same on on' d d' f f' (inl p) (inr q) = absurd (full_or_room ticked buses inverter raw p.0 p.1 p.3 q.0)
  choice_same on on' d d' f f' (inr p) (inl q) = absurd (full_or_room ticked buses inverter raw q.0 q.1 q.3 p.0)
  choice_same on on' d d' f f' (inr p) (inr q) = plain_same buses ticked (calls.Ask at inverter raw) more on' d d' f f' p.1 q.1

  ask_same : OneWay buses ticked more → OneWay buses (with_call ticked (calls.Ask at inverter raw)) more → OneWay buses b (calls.Ask at inverter raw ∷ more)
  ask_same on on' d d' f f' (inl p) (inl q) = stopped_same b d d' f f' p q
  ask_same on on' d d' f f' (inl p) (inr q) = absurd (not_stopped b d f p q.0)
  ask_same on on' d d' f f' (inr p) (inl q) = absurd (not_stopped b d' f' q p.0)
  ask_same on on' d d' f f' (inr p) (inr q) = behind_one (Entered (entry_for b (calls.Tick at))) p.1 q.1 d d' f f' p.2 q.2 (choice_same on on' p.1 q.1 f f' p.3 q.3)

one_way : (buses : List bus.Bus) (its : List Call) (b : BookRecord) → OneWay buses b its
one_way buses [] b = λ d d' f f' p q. record { deeds_are = p.0 ∙ sym q.0; full_is = p.1 ∙ sym q.1 }
one_way buses (calls.Ask at inverter raw ∷ more) b = ask_same buses b at inverter raw more (one_way buses more _) (one_way buses more _)
one_way buses (calls.Link at inverter ∷ more) b = plain_same buses b (calls.Link at inverter) more (one_way buses more _)
one_way buses (calls.Read at inverter ∷ more) b = plain_same buses b (calls.Read at inverter) more (one_way buses more _)
one_way buses (calls.Saw at inverter number raw ∷ more) b = plain_same buses b (calls.Saw at inverter number raw) more (one_way buses more _)
one_way buses (calls.Back at inverter link number ∷ more) b = plain_same buses b (calls.Back at inverter link number) more (one_way buses more _)
one_way buses (calls.Want at inverter mw ∷ more) b = plain_same buses b (calls.Want at inverter mw) more (one_way buses more _)
one_way buses (calls.Tick at ∷ more) b = plain_same buses b (calls.Tick at) more (one_way buses more _)
one_way buses (calls.Stop at ∷ more) b = plain_same buses b (calls.Stop at) more (one_way buses more _)
one_way buses (calls.Cap at mw ∷ more) b = plain_same buses b (calls.Cap at mw) more (one_way buses more _)

-- one replay

line_same : (a b : Line) (x y : List Line) → a ∷ x ≡ b ∷ y → (a ≡ b) × (x ≡ y)
line_same a b x y e = (cc, cc)

call_same : (a b : Call) → lines.One a ≡ lines.One b → a ≡ b
call_same a b e = cc

calls_same : (a b : List Call) → map (λ call. lines.One call) a ≡ map (λ call. lines.One call) b → a ≡ b
calls_same [] [] e = refl
calls_same [] (call ∷ b) e = absurd cc
calls_same (call ∷ a) [] e = absurd cc
calls_same (call ∷ a) (other ∷ b) e =
    let both = line_same (lines.One call) (lines.One other) (map (λ call. lines.One call) a) (map (λ call. lines.One call) b) e in
    let one = call_same call other both.0 in
    let more = calls_same a b both.1 in
    λ i. one i ∷ more i

pub one_replay : (bytes : List ℕ) (a b : Option ℕ) (x y : List ℕ) → IsNestedReplay bytes a x → IsNestedReplay bytes b y → (a ≡ b) × (x ≡ y)
one_replay bytes a b x y p q =
    let nested : p.nested ≡ q.nested = one_nested bytes p.nested q.nested p.is_nested q.is_nested in
    let its : p.calls ≡ q.calls = calls_same p.calls q.calls (sym p.lines ∙ ap (λ (n : NestedRecord). n.script.lines) nested ∙ q.lines) in
    let plays : Plays p.nested.buses (book_of p.nested.script.site p.nested.script.start []) p.calls q.deeds b =
    subst (λ (cs : List Call). Plays p.nested.buses (book_of p.nested.script.site p.nested.script.start []) cs q.deeds b) (sym its)
    (subst (λ (n : NestedRecord). Plays n.buses (book_of n.script.site n.script.start []) q.calls q.deeds b) (sym nested) q.plays) in
    let same = one_way p.nested.buses p.calls (book_of p.nested.script.site p.nested.script.start []) p.deeds q.deeds a b p.plays plays in
    (same.full_is, p.text_is ∙ ap (nested_text p.nested.buses p.nested.script.site p.nested.script.start) same.deeds_are ∙ ap (λ (n : NestedRecord). nested_text n.buses n.script.site n.script.start q.deeds) nested ∙ sym q.text_is)

-- an input that is replayed is refused by none

openable_is : (site : SiteRecord) → IsOpenable site → open_fault site ≡ None
openable_is site openable =
    let some : eqb (inverters site) 0 ≡ false = ne_eqb (inverters site) 0 (omega (arith, openable.some)) in
    let few : ltb 64 (inverters site) ≡ false = le-ltb 64 (inverters site) openable.few in
    let fit : ltb site.cap (floors site) ≡ false = le-ltb site.cap (floors site) openable.floors in
    rw (some, few, fit) refl

fits_at : (site : SiteRecord) (acc before : List bus.Bus) (first : bus.Bus) (later : List bus.Bus) → EachFits site acc (before ++ first ∷ later) → Fits site (acc ++ before) first
fits_at site acc [] first later each = subst (λ (x : List bus.Bus). Fits site x first) (sym (append-nil acc)) each.0
fits_at site acc (one ∷ before) first later each = subst (λ (x : List bus.Bus). Fits site x first) (append_assoc acc (one ∷ []) before) (fits_at site (acc ++ one ∷ []) before first later each.1)

no_cause : (site : SiteRecord) (before : List bus.Bus) (first : bus.Bus) (cause : BusCause) → Fits site before first → HasCause site before first cause → ⊥
no_cause site before first causes.Range fits has = has fits.of_site
no_cause site before first causes.Crossing fits has = fits.nested has.1
no_cause site before first (causes.FloorsOver sum) fits has = omega (arith, fits.floors, has.2, has.3)

no_bus_fault : (site : SiteRecord) (buses : List bus.Bus) (fault : BusFault) → EachFits site [] buses → IsFirstFault site buses fault → ⊥
no_bus_fault site buses fault each is = no_cause site is.before is.first fault.cause (fits_at site [] is.before is.first is.later (subst (λ (bs : List bus.Bus). EachFits site [] bs) is.are each)) is.cause

pub not_refused : (bytes : List ℕ) (full : Option ℕ) (text : List ℕ) (fault : NestedFault) → IsNestedReplay bytes full text → Explains fault bytes → fault ≡ faults.NoMemory
not_refused bytes full text faults.NoMemory p why = refl
not_refused bytes full text (faults.BadLine line kind) p why = absurd (not_both bytes p.nested line kind p.is_nested why)
not_refused bytes full text (faults.BadSite fault) p why =
    absurd (none-some fault (sym (openable_is p.nested.script.site p.openable) ∙ ap (λ (n : NestedRecord). open_fault n.script.site) (one_nested bytes p.nested why.nested p.is_nested why.is_nested) ∙ why.refused))
not_refused bytes full text (faults.BadBus fault) p why =
    absurd (no_bus_fault p.nested.script.site p.nested.buses fault p.fit (subst (λ (n : NestedRecord). IsFirstFault n.script.site n.buses fault) (one_nested bytes why.nested p.nested why.is_nested p.is_nested) why.refused))
