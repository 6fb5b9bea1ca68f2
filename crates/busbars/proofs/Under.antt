-- Each bus stays under its cap, whatever call is entered, and so does what its members hold.
use Rattle.std.proofs.Common.{◌≡◌, ℕ, ◌+◌, ◌≤◌, max, Bool, true, false, List, [], None, sym, ap, subst, ◌∙◌, arith, inl, inr}
use Rattle.std.specs.Prelude.{Result, Ok, Err}
use Rattle.std.specs.List.{flat_map}
use Rattle.std.proofs.lemmas.Bool.{cases_Bool, cases_lt}
use Rattle.plant_book.specs.declared.call.Call.{Call}
use Rattle.plant_book.specs.declared.call.Call.TheVariants as calls
use Rattle.plant_book.specs.declared.call.Reply.{Reply}
use Rattle.plant_book.specs.declared.call.Reply.TheVariants as replies
use Rattle.plant_book.specs.declared.call.Write as writes
use Rattle.plant_book.specs.declared.book.Entry.{Entry}
use Rattle.plant_book.specs.Site.{inverters, floor_at}
use Rattle.plant_book.specs.Book.{BookRecord}
use Rattle.plant_book.specs.Calls.{latest, at_moment, moment}
use Rattle.plant_book.specs.Writes.{grant_of, granted}
use Rattle.plant_book.specs.Reserved.{reserved, now_of}
use Rattle.plant_book.specs.Answer.{reply_to}
use Rattle.plant_book.specs.Safe.{held_mw}
use Rattle.plant_book.specs.Part.{PartRecord, begin_of, book_behind, first_book}
use Rattle.plant_book.specs.Carry.{IsBehind, EachBook}
use Rattle.plant_book.proofs.Cover.{reserved_nothing_granted}
use Rattle.plant_book.proofs.Device.{covers_held}
use Rattle.plant_book.proofs.Behind.{nothing_before, last_moment_of-is}
use Rattle.plant_book.proofs.Cap.{grant_cases}
use Rattle.plant_ledger.specs.declared.plant.BookFull.{BookFull}
use Rattle.plant_ledger.specs.declared.plant.Outcome.{Outcome}
use Rattle.plant_ledger.specs.Account.{IsReplyTo}
use Rattle.plant_ledger.specs.Plant.{entry_of, entered, GoesOn}
use Rattle.plant_ledger.proofs.Accounts.{without_one}
use Rattle.plant_ledger.proofs.Fitting.{fits_call}
use Rattle.busbars.specs.declared.bus.Bus as bus
use Rattle.busbars.specs.declared.plant.BusReply.{BusReply}
use Rattle.busbars.specs.declared.plant.BusReply.TheVariants as told
use Rattle.busbars.specs.Buses.{holds, EachFits}
use Rattle.busbars.specs.Caps.{reserved_on, left_on, asked_more, LacksRoom, HasRoomOnAll, ReservesUnderCaps, HoldsUnder, HoldsUnderCaps}
use Rattle.busbars.specs.Applied.{IsThePlants, IsAsked, IsPlain, IsApplied}
use Rattle.busbars.proofs.Lists.{all_both, all_weaker, each_that_fits}
use Rattle.busbars.specs.Sums.{AreSums}
use Rattle.busbars.proofs.Members.{members_le, members_raise, sum_below_same}
use Rattle.busbars.proofs.Raises.{no_more, raised, grant_is_its_own, grant_is_no_others, no_grant, granted_is_asked}

-- what the members hold is at most what they have reserved
pub holds_under : (buses : List bus.Bus) (book : BookRecord) → ReservesUnderCaps buses book → HoldsUnderCaps buses book
holds_under buses book under history is life when =
    let covered = covers_held book history is life when in
    all_weaker (λ b. reserved_on history.life b ≤ b.cap) (HoldsUnder history)
    (λ b low events first rest at behaves from cut.
    omega (
      arith,
      low,
      members_le history.life.site b (λ k. held_mw history.life.site k (first k)) (reserved history.life)
          (λ k lt on. covered k (events k) (first k) (rest k) at (behaves k lt on) from (cut k lt on)),
    ))
    buses (subst (ReservesUnderCaps buses) (sym life) under)

-- with no call the floors are all that is reserved
pub floors_alone : (book : BookRecord) → book.entries ≡ [] → (inverter : ℕ) → reserved book inverter ≡ floor_at book.site inverter
floors_alone book none inverter = reserved_nothing_granted book (now_of book) inverter (ap (flat_map grant_of) none)

pub fitting_under : (buses : List bus.Bus) (book : BookRecord) → book.entries ≡ [] → EachFits book.site [] buses → ReservesUnderCaps buses book
fitting_under buses book none fit =
    each_that_fits book.site (λ b. reserved_on book b ≤ b.cap)
    (λ earlier b fits. omega (arith, fits.floors, members_le book.site b (reserved book) (floor_at book.site) (λ k lt on. omega (arith, floors_alone book none k))))
    [] buses fit

-- One entry of a plant's book behind a joined book.
module _ (part : PartRecord) (call : Call) (reply : Reply) (before : List Entry) (goes : GoesOn before part call reply (entered part call reply)) where
  abbrev book : BookRecord
  book = book_behind before part

  abbrev next : BookRecord
  next = book_behind before (entered part call reply)

  -- where it grants nothing no bus has more reserved than before
  pub no_more_on : granted reply ≡ [] → (b : bus.Bus) → reserved_on next b ≤ reserved_on book b
  no_more_on none b =
      members_le part.site b (reserved next) (reserved book)
      (λ k lt on. no_more book (entry_of part call reply) next goes.reserved.lifetime k (no_grant (entry_of part call reply) k none))

  -- a bus without the inverter of the grant has no more, and one with it what the limit asks for besides
  pub no_more_off : (write : writes.Write) → reply ≡ replies.Granted write → (b : bus.Bus) → (holds b write.inverter ≡ true → ⊥) → reserved_on next b ≤ reserved_on book b
  no_more_off write is b off =
      members_le part.site b (reserved next) (reserved book)
      (λ k lt on. no_more book (entry_of part call reply) next goes.reserved.lifetime k (grant_is_no_others (entry_of part call reply) write k is (λ same. off (subst (λ (i : ℕ). holds b i ≡ true) same on))))

  pub raised_on : (write : writes.Write) → reply ≡ replies.Granted write → (b : bus.Bus) → reserved_on next b ≤ reserved_on book b + asked_more book write.inverter write.raw
  raised_on write is b =
      members_raise part.site b write.inverter (asked_more book write.inverter write.raw) (reserved next) (reserved book)
      (λ k other. no_more book (entry_of part call reply) next goes.reserved.lifetime k (grant_is_no_others (entry_of part call reply) write k is other))
      (omega (arith, raised book (entry_of part call reply) next goes.reserved.lifetime write.inverter write (grant_is_its_own (entry_of part call reply) write is)))

  -- a bus that lacks no room for the limit stays under its cap
  pub stays_under : (write : writes.Write) → reply ≡ replies.Granted write → (b : bus.Bus) → reserved_on book b ≤ b.cap → (LacksRoom book write.inverter write.raw b → ⊥) → reserved_on next b ≤ b.cap
  stays_under write is b under room =
      elim (cases_Bool (holds b write.inverter)) [
        | inl on ↦ elim (cases_lt (left_on book b) (asked_more book write.inverter write.raw)) [
          | inl lacks ↦ absurd (room (on, lacks))
          | inr has ↦ omega (arith, under, has, raised_on write is b)
        ]
        | inr off ↦ omega (arith, under, no_more_off write is b (λ on. never (sym off ∙ on)))
      ]
    where
      never : ◌≡◌ {A = Bool} false true → ⊥
      never is = cc

-- a call that isn't an Ask is granted nothing
abbrev IsNoAsk : Call → Type 0
IsNoAsk (calls.Ask at inverter raw) = ⊥
IsNoAsk call = Unit {0}

no_ask_granted : (call : Call) (at : ℕ) (write : writes.Write) → IsNoAsk call → IsReplyTo (at_moment at call) (replies.Granted write) → ⊥
no_ask_granted (calls.Ask at inverter raw) later write apart is = apart
no_ask_granted call later write apart is = is

granted_none : (call : Call) (at : ℕ) (reply : Reply) → IsNoAsk call → IsReplyTo (at_moment at call) reply → granted reply ≡ []
granted_none call at reply apart fits =
    elim (grant_cases reply) [
      | inl grant ↦ absurd (no_ask_granted call at grant.0 apart (subst (IsReplyTo (at_moment at call)) grant.1 fits))
      | inr none ↦ none
    ]

-- the entry of a call is the one that the joined book answers
module _ (part : PartRecord) (call : Call) (reply : Reply) (before : List Entry) (behind : IsBehind before part) (goes : GoesOn before part call reply (entered part call reply)) where
  abbrev whole : BookRecord
  whole = book_behind before part

  same_moment : latest (begin_of part) part.entries ≡ latest whole.start whole.entries
  unfolding now_of
  same_moment = last_moment_of-is part before behind

  answers : reply ≡ reply_to whole (entry_of part call reply).call
  answers = goes.right ∙ ap (λ (last : ℕ). reply_to whole (at_moment (max (moment call) last) call)) (sym same_moment)

  pub replies_to : IsReplyTo (entry_of part call reply).call reply
  replies_to = fits_call whole (entry_of part call reply) answers

-- what was asked by an Ask is what it was granted
asked_is_granted : (part : PartRecord) (at inverter raw : ℕ) (reply : Reply) (before : List Entry) (write : writes.Write) → GoesOn before part (calls.Ask at inverter raw) reply (entered part (calls.Ask at inverter raw) reply)
    → reply ≡ replies.Granted write → (write.inverter ≡ inverter) × (write.raw ≡ raw)
asked_is_granted part at inverter raw reply before write goes is =
    let made = granted_is_asked (book_behind before part) _ inverter raw write (sym goes.right ∙ is) in
    (sym (ap (λ (w : writes.Write). w.inverter) made), sym (ap (λ (w : writes.Write). w.raw) made))

module _ (buses : List bus.Bus) where
  -- each joined book behind the entered call is one behind which it was entered
  next_under : (old new : PartRecord) (call : Call) (reply : Reply) → new ≡ entered old call reply → EachBook old (ReservesUnderCaps buses)
      → ((before : List Entry) → IsBehind before old → ReservesUnderCaps buses (book_behind before old) → ReservesUnderCaps buses (book_behind before (entered old call reply)))
      → EachBook new (ReservesUnderCaps buses)
  next_under old new call reply is under step before behind =
      let was = without_one before old (entry_of old call reply) (subst (IsBehind before) is behind) in
      subst (λ (part : PartRecord). ReservesUnderCaps buses (book_behind before part)) (sym is) (step before was (under before was))

  plain_under : (call : Call) (result : Result Outcome BookFull) (old new : PartRecord) → IsNoAsk call → IsThePlants call result old new → EachBook old (ReservesUnderCaps buses) → EachBook new (ReservesUnderCaps buses)
  plain_under call (Ok outcome) old new apart plants under =
      next_under old new call outcome.reply plants.1 under (λ before behind low.
      let goes = subst (GoesOn before old call outcome.reply) plants.1 (plants.3 before behind) in
      let none = granted_none call _ outcome.reply apart (replies_to old call outcome.reply before behind goes) in
      all_weaker (λ b. reserved_on (book_behind before old) b ≤ b.cap) (λ b. reserved_on (book_behind before (entered old call outcome.reply)) b ≤ b.cap)
      (λ b le. omega (arith, le, no_more_on old call outcome.reply before goes none b)) buses low)
  plain_under call (Err full) old new apart plants under = subst (λ (part : PartRecord). EachBook part (ReservesUnderCaps buses)) (sym plants.2) under

  asked_under : (at inverter raw : ℕ) (result : Result Outcome BookFull) (old new : PartRecord) → EachBook old (λ whole. HasRoomOnAll whole buses inverter raw) → IsThePlants (calls.Ask at inverter raw) result old new
      → EachBook old (ReservesUnderCaps buses) → EachBook new (ReservesUnderCaps buses)
  asked_under at inverter raw (Ok outcome) old new room plants under =
      let call = calls.Ask at inverter raw in
      next_under old new call outcome.reply plants.1 under (λ before behind low.
      let goes = subst (GoesOn before old call outcome.reply) plants.1 (plants.3 before behind) in
      elim (grant_cases outcome.reply) [
        | inl grant ↦
            let asked = asked_is_granted old at inverter raw outcome.reply before grant.0 goes grant.1 in
            let has = subst (λ (r : ℕ). HasRoomOnAll (book_behind before old) buses grant.0.inverter r) (sym asked.1) (subst (λ (i : ℕ). HasRoomOnAll (book_behind before old) buses i raw) (sym asked.0) (room before behind)) in
            all_both (λ b. reserved_on (book_behind before old) b ≤ b.cap) (λ b. LacksRoom (book_behind before old) grant.0.inverter grant.0.raw b → ⊥) (λ b. reserved_on (book_behind before (entered old call outcome.reply)) b ≤ b.cap)
            (λ b le lacks. stays_under old call outcome.reply before goes grant.0 grant.1 b le lacks) buses low has
        | inr none ↦
            all_weaker (λ b. reserved_on (book_behind before old) b ≤ b.cap) (λ b. reserved_on (book_behind before (entered old call outcome.reply)) b ≤ b.cap)
            (λ b le. omega (arith, le, no_more_on old call outcome.reply before goes none b)) buses low
      ])
  asked_under at inverter raw (Err full) old new room plants under = subst (λ (part : PartRecord). EachBook part (ReservesUnderCaps buses)) (sym plants.2) under

  behind_tick_under : (at inverter raw : ℕ) (result : Result BusReply BookFull) (old new : PartRecord) → IsAsked buses at inverter raw result old new → EachBook old (ReservesUnderCaps buses) → EachBook new (ReservesUnderCaps buses)
  behind_tick_under at inverter raw (Ok (told.BusFull place left)) old new asked under = subst (λ (part : PartRecord). EachBook part (ReservesUnderCaps buses)) (sym asked.0) under
  behind_tick_under at inverter raw (Ok (told.Plain outcome)) old new asked under = asked_under at inverter raw (Ok outcome) old new asked.0 asked.1 under
  behind_tick_under at inverter raw (Err full) old new asked under = asked_under at inverter raw (Err full) old new asked.0 asked.1 under

  plain_call_under : (call : Call) (result : Result BusReply BookFull) (old new : PartRecord) → IsNoAsk call → IsPlain call result old new → EachBook old (ReservesUnderCaps buses) → EachBook new (ReservesUnderCaps buses)
  plain_call_under call (Ok (told.Plain outcome)) old new apart plain under = plain_under call (Ok outcome) old new apart plain under
  plain_call_under call (Ok (told.BusFull place left)) old new apart plain under = absurd plain
  plain_call_under call (Err full) old new apart plain under = plain_under call (Err full) old new apart plain under

  -- what comes of a call keeps each bus under its cap
  pub applied_under : (call : Call) (result : Result BusReply BookFull) (old new : PartRecord) → IsApplied buses call result old new → EachBook old (ReservesUnderCaps buses) → EachBook new (ReservesUnderCaps buses)
  applied_under (calls.Ask at inverter raw) result old new applied under =
      elim applied [
        | inl full ↦ plain_under (calls.Tick at) (Err full.0) old new tt full.2 under
        | inr ticked ↦ behind_tick_under at inverter raw result ticked.0 new ticked.3 (plain_under (calls.Tick at) (Ok ticked.1) old ticked.0 tt ticked.2 under)
      ]
  applied_under call result old new applied under = plain_call_under call result old new tt applied under

-- A call leaves the site, and no carry.
pub record IsSameLife (old new : PartRecord) : Type 0 where
  pub site : new.site ≡ old.site
  pub carry : new.carry ≡ old.carry

pub plants_same : (call : Call) (result : Result Outcome BookFull) (old new : PartRecord) → IsThePlants call result old new → IsSameLife old new
plants_same call (Ok outcome) old new plants = record { site = ap (λ (part : PartRecord). part.site) plants.1; carry = ap (λ (part : PartRecord). part.carry) plants.1 }
plants_same call (Err full) old new plants = record { site = ap (λ (part : PartRecord). part.site) plants.2; carry = ap (λ (part : PartRecord). part.carry) plants.2 }

behind_tick_same : (buses : List bus.Bus) (at inverter raw : ℕ) (result : Result BusReply BookFull) (old new : PartRecord) → IsAsked buses at inverter raw result old new → IsSameLife old new
behind_tick_same buses at inverter raw (Ok (told.BusFull place left)) old new asked = record { site = ap (λ (part : PartRecord). part.site) asked.0; carry = ap (λ (part : PartRecord). part.carry) asked.0 }
behind_tick_same buses at inverter raw (Ok (told.Plain outcome)) old new asked = plants_same (calls.Ask at inverter raw) (Ok outcome) old new asked.1
behind_tick_same buses at inverter raw (Err full) old new asked = plants_same (calls.Ask at inverter raw) (Err full) old new asked.1

plain_same : (call : Call) (result : Result BusReply BookFull) (old new : PartRecord) → IsPlain call result old new → IsSameLife old new
plain_same call (Ok (told.Plain outcome)) old new plain = plants_same call (Ok outcome) old new plain
plain_same call (Ok (told.BusFull place left)) old new plain = absurd plain
plain_same call (Err full) old new plain = plants_same call (Err full) old new plain

pub applied_same : (buses : List bus.Bus) (call : Call) (result : Result BusReply BookFull) (old new : PartRecord) → IsApplied buses call result old new → IsSameLife old new
applied_same buses (calls.Ask at inverter raw) result old new applied =
    elim applied [
      | inl full ↦ plants_same (calls.Tick at) (Err full.0) old new full.2
      | inr ticked ↦
          let first = plants_same (calls.Tick at) (Ok ticked.1) old ticked.0 ticked.2 in
          let then = behind_tick_same buses at inverter raw result ticked.0 new ticked.3 in
          record { site = then.site ∙ first.site; carry = then.carry ∙ first.carry }
    ]
applied_same buses call result old new applied = plain_same call result old new applied

-- what is so of the first book of a life is so of each joined book that goes on in it
pub each_book : (P : BookRecord → Type 0) (part : PartRecord) → part.carry ≡ None → P (first_book part) → EachBook part P
each_book P part none fact before behind = subst (λ (es : List Entry). P (book_behind es part)) (sym (nothing_before part before behind none)) fact

-- a plant without a call fits its buses
pub fitting_each : (buses : List bus.Bus) (part : PartRecord) → part.entries ≡ [] → part.carry ≡ None → EachFits part.site [] buses → EachBook part (ReservesUnderCaps buses)
fitting_each buses part none first fit = each_book (ReservesUnderCaps buses) part first (fitting_under buses (first_book part) none fit)

pub floors_are : (plant : PartRecord) (sums : List ℕ) → plant.entries ≡ [] → AreSums (inverters plant.site) (reserved (first_book plant)) sums → AreSums (inverters plant.site) (floor_at plant.site) sums
floors_are plant sums none are below le = are below le ∙ sum_below_same below (reserved (first_book plant)) (floor_at plant.site) (λ k. floors_alone (first_book plant) none k)
