-- What a look showed excludes each write that it freed from then on.
use Rattle.std.proofs.Common.{◌≡◌, ℕ, ◌+◌, ◌≤◌, Bool, true, false, cond, ◌&&◌, ◌||◌, eqb, ltb, List, [], ◌∷◌, ◌++◌, Option, Some, None, refl, sym, ap, subst, ◌∙◌, append_assoc, arith, inl, inr}
use Rattle.std.specs.Prelude.{find, count_by, Contains}
use Rattle.std.proofs.lemmas.Bool.{cases_Bool, and_parts, or_cases, eqb-true, ltb-true}
use Rattle.std.proofs.lemmas.List.Elements.{Contains-append_cases}
use Rattle.limiter_num.specs.Timers.{last_act}
use Rattle.plant_book.specs.declared.call.Call.{Call}
use Rattle.plant_book.specs.declared.call.Call.TheVariants as calls
use Rattle.plant_book.specs.declared.call.Reply.{Reply}
use Rattle.plant_book.specs.declared.call.Read as reads
use Rattle.plant_book.specs.declared.book.Entry.{Entry}
use Rattle.plant_book.specs.Sums.{last_that}
use Rattle.plant_book.specs.Requests.{is_seen, pending_read}
use Rattle.plant_book.specs.Writes.{settles}
use Rattle.plant_book.specs.Book.{BookRecord}
use Rattle.plant_book.specs.Site.{floor_raw_at}
use Rattle.plant_book.specs.History.{History, Grant, Sight, sight_of, sight_by, life_sights, lives_sights, sights, lives, link_of_grant, link_of_sight}
use Rattle.plant_book.specs.Behaviour.{Event, Act, Revert, Look, Timed, is_change, is_look_of, held, held_by, IsBehaviour, Precedes}
use Rattle.plant_book.specs.Held.{IsNoLook, IsCut}
use Rattle.plant_book.proofs.Maxima.{only_element}
use Rattle.plant_book.proofs.Places.{Same, Before, After, places, find_none-append, last_that-is, counted_stands, count_by-append, count_by-none}

-- an answered read is known by the life and the place of its Saw
record SeenAt (life place : ℕ) (sight : Sight) : Type 0 where
  in_life : sight.life ≡ life
  in_place : sight.place ≡ place

seen_of : (life place : ℕ) (pending : Option reads.Read) (raw at : ℕ) (sight : Sight) → Contains (sight_of life place pending raw at) sight → SeenAt life place sight
seen_of life place None raw at sight within = absurd (omega (arith, within.1))
seen_of life place (Some read) raw at sight within =
    subst (λ (s : Sight). SeenAt life place s) (only_element (record { life = life; place = place; read = read; raw = raw; at = at }) sight within) (record { in_life = refl; in_place = refl })

one_of : (life place : ℕ) (pending : Option reads.Read) (raw at : ℕ) (a b : Sight) → Contains (sight_of life place pending raw at) a → Contains (sight_of life place pending raw at) b → a ≡ b
one_of life place None raw at a b one other = absurd (omega (arith, one.1))
one_of life place (Some read) raw at a b one other =
    let the : Sight = record { life = life; place = place; read = read; raw = raw; at = at } in
    sym (only_element the a one) ∙ only_element the b other

no_sight : (sight : Sight) → Contains [] sight → ⊥
no_sight sight within = omega (arith, within.1)

seen_by_answer : (b : Bool) (life place : ℕ) (pending : Option reads.Read) (raw at : ℕ) (sight : Sight) → Contains (cond b (sight_of life place pending raw at) []) sight → SeenAt life place sight
seen_by_answer true life place pending raw at sight within = seen_of life place pending raw at sight within
seen_by_answer false life place pending raw at sight within = absurd (no_sight sight within)

one_by_answer : (t : Bool) (life place : ℕ) (pending : Option reads.Read) (raw at : ℕ) (a b : Sight) → Contains (cond t (sight_of life place pending raw at) []) a → Contains (cond t (sight_of life place pending raw at) []) b → a ≡ b
one_by_answer true life place pending raw at a b one other = one_of life place pending raw at a b one other
one_by_answer false life place pending raw at a b one other = absurd (no_sight a one)

seen_by : (life place : ℕ) (before : List Entry) (call : Call) (reply : Reply) (sight : Sight) → Contains (sight_by life place before call reply) sight → SeenAt life place sight
seen_by life place before (calls.Saw at inverter number raw) reply sight within = seen_by_answer (is_seen reply) life place (pending_read inverter before) raw at sight within
seen_by life place before _ reply sight within = absurd (no_sight sight within)

one_by : (life place : ℕ) (before : List Entry) (call : Call) (reply : Reply) (a b : Sight) → Contains (sight_by life place before call reply) a → Contains (sight_by life place before call reply) b → a ≡ b
one_by life place before (calls.Saw at inverter number raw) reply a b one other = one_by_answer (is_seen reply) life place (pending_read inverter before) raw at a b one other
one_by life place before _ reply a b one other = absurd (no_sight a one)

record SeenFrom (life place : ℕ) (sight : Sight) : Type 0 where
  in_life : sight.life ≡ life
  from : place ≤ sight.place

seen_from : (life place : ℕ) (before later : List Entry) (sight : Sight) → Contains (life_sights life place before later) sight → SeenFrom life place sight
seen_from life place before [] sight within = absurd (no_sight sight within)
seen_from life place before (entry ∷ later) sight within =
    elim (Contains-append_cases (sight_by life place before entry.call entry.reply) (life_sights life (place + 1) (before ++ entry ∷ []) later) sight within) [
      | inl here ↦ let seen = seen_by life place before entry.call entry.reply sight here in record { in_life = seen.in_life; from = omega (arith, seen.in_place) }
      | inr rest ↦ let seen = seen_from life (place + 1) (before ++ entry ∷ []) later sight rest in record { in_life = seen.in_life; from = omega (arith, seen.from) }
    ]

one_in_life : (life place : ℕ) (before later : List Entry) (a b : Sight) → Contains (life_sights life place before later) a → Contains (life_sights life place before later) b → a.place ≡ b.place → a ≡ b
one_in_life life place before [] a b one other same = absurd (no_sight a one)
one_in_life life place before (entry ∷ later) a b one other same =
    let through = before ++ entry ∷ [] in
    let here = sight_by life place before entry.call entry.reply in
    let rest = life_sights life (place + 1) through later in
    elim (Contains-append_cases here rest a one) [
      | inl a_here ↦ elim (Contains-append_cases here rest b other) [
        | inl b_here ↦ one_by life place before entry.call entry.reply a b a_here b_here
        | inr b_rest ↦ absurd (omega (arith, same, (seen_by life place before entry.call entry.reply a a_here).in_place, (seen_from life (place + 1) through later b b_rest).from))
      ]
      | inr a_rest ↦ elim (Contains-append_cases here rest b other) [
        | inl b_here ↦ absurd (omega (arith, same, (seen_by life place before entry.call entry.reply b b_here).in_place, (seen_from life (place + 1) through later a a_rest).from))
        | inr b_rest ↦ one_in_life life (place + 1) through later a b a_rest b_rest same
      ]
    ]

seen_in_lives : (life : ℕ) (books : List BookRecord) (sight : Sight) → Contains (lives_sights life books) sight → life ≤ sight.life
seen_in_lives life [] sight within = absurd (no_sight sight within)
seen_in_lives life (book ∷ books) sight within =
    elim (Contains-append_cases (life_sights life 0 [] book.entries) (lives_sights (life + 1) books) sight within) [
      | inl here ↦ omega (arith, (seen_from life 0 [] book.entries sight here).in_life)
      | inr rest ↦ omega (arith, seen_in_lives (life + 1) books sight rest)
    ]

-- two answered reads of one life and place are one
pub one_sight : (life : ℕ) (books : List BookRecord) (a b : Sight) → Contains (lives_sights life books) a → Contains (lives_sights life books) b → a.life ≡ b.life → a.place ≡ b.place → a ≡ b
one_sight life [] a b one other same_life same = absurd (no_sight a one)
one_sight life (book ∷ books) a b one other same_life same =
    let here = life_sights life 0 [] book.entries in
    let rest = lives_sights (life + 1) books in
    elim (Contains-append_cases here rest a one) [
      | inl a_here ↦ elim (Contains-append_cases here rest b other) [
        | inl b_here ↦ one_in_life life 0 [] book.entries a b a_here b_here same
        | inr b_rest ↦ absurd (omega (arith, same_life, (seen_from life 0 [] book.entries a a_here).in_life, seen_in_lives (life + 1) books b b_rest))
      ]
      | inr a_rest ↦ elim (Contains-append_cases here rest b other) [
        | inl b_here ↦ absurd (omega (arith, same_life, (seen_from life 0 [] book.entries b b_here).in_life, seen_in_lives (life + 1) books a a_rest))
        | inr b_rest ↦ one_sight (life + 1) books a b a_rest b_rest same_life same
      ]
    ]

-- an event that is a look of an answered read: which one
record LookOf (sight : Sight) (event : Event) : Type 0 where
  other : Sight
  is : event ≡ Look other
  same_life : other.life ≡ sight.life
  same_place : other.place ≡ sight.place

look_of : (sight : Sight) (event : Event) → is_look_of sight event ≡ true → LookOf sight event
look_of sight (Act grant) is = absurd cc
look_of sight Revert is = absurd cc
look_of sight (Look other) is =
    let both = and_parts (eqb other.life sight.life) (eqb other.place sight.place) is in
    record { other = other; is = refl; same_life = eqb-true other.life sight.life both.0; same_place = eqb-true other.place sight.place both.1 }

no_look : (sight : Sight) (event : Event) → IsNoLook event → is_look_of sight event ≡ false
no_look sight (Act grant) none = refl
no_look sight Revert none = refl
no_look sight (Look other) none = absurd none

act_is_no_look : (grant : Grant) (sight : Sight) → Act grant ≡ Look sight → ⊥
act_is_no_look grant sight is = cc

module _ (history : History) (inverter at : ℕ) (events first rest : List Timed) (device : IsBehaviour history inverter events) (cut : IsCut events at first rest) where
  -- where the look of an answered read of the inverter stands before the cut
  record Looked (sight : Sight) : Type 0 where
    before : List Timed
    after : List Timed
    moment : ℕ
    stand : first ≡ before ++ record { at = moment; event = Look sight } ∷ after

  looked_at : (sight : Sight) → Contains (sights history) sight → sight.read.inverter ≡ inverter → Looked sight
  looked_at sight within its =
      let is_look : Timed → Bool = λ timed. is_look_of sight timed.event in
      let once : count_by is_look (first ++ rest) ≡ 1 = subst (λ (ts : List Timed). count_by is_look ts ≡ 1) cut.parts (device.looked sight within its) in
      let none : count_by is_look rest ≡ 0 = count_by-none is_look (λ (timed : Timed). IsNoLook timed.event) (λ timed no. no_look sight timed.event no) rest cut.looked in
      let some : 1 ≤ count_by is_look first = omega (arith, once, none, count_by-append is_look first rest) in
      let place = counted_stands is_look first some in
      let look = look_of sight place.one.event place.passes in
      let stands : first ≡ place.before ++ record { at = place.one.at; event = Look look.other } ∷ place.after =
      place.stand ∙ ap (λ (e : Event). place.before ++ record { at = place.one.at; event = e } ∷ place.after) look.is in
      let all : events ≡ place.before ++ record { at = place.one.at; event = Look look.other } ∷ (place.after ++ rest) =
      cut.parts ∙ ap (λ (ts : List Timed). ts ++ rest) stands ∙ append_assoc place.before (record { at = place.one.at; event = Look look.other } ∷ place.after) rest in
      let found = device.looks place.before (place.after ++ rest) place.one.at look.other all in
      let same : look.other ≡ sight = one_sight 1 (lives history) look.other sight found.0 within look.same_life look.same_place in
      record { before = place.before; after = place.after; moment = place.one.at; stand = stands ∙ ap (λ (s : Sight). place.before ++ record { at = place.one.at; event = Look s } ∷ place.after) same }

  module _ (grant : Grant) (sight : Sight) (within : Contains (sights history) sight) (its : sight.read.inverter ≡ inverter)
      (one_life : sight.life ≡ grant.life) (a_life : 1 ≤ grant.life) (settled : settles history.life.site.rules sight.read grant.write ≡ true) (other : sight.raw ≡ grant.write.raw → ⊥) where
    link_is : (sight.read.link ≡ grant.write.link) → link_of_grant grant ≡ link_of_sight sight
    link_is same =
        let not_past : eqb grant.life 0 ≡ false = elim (cases_Bool (eqb grant.life 0)) [ inl past ↦ absurd (omega (arith, a_life, eqb-true grant.life 0 past)) | inr lives ↦ lives ] in
        rw (not_past, one_life, same) refl

    -- a settled write acts nowhere behind the look
    none_behind : (look act : Timed) → Precedes events look act → look.event ≡ Look sight → act.event ≡ Act grant
        → (sight.read.at ≤ look.at) → (act.at ≤ last_act history.life.site.rules grant.write.at) → ⊥
    none_behind look act order looks acts from until =
        let parts = and_parts (eqb grant.write.inverter sight.read.inverter) ((eqb grant.write.link sight.read.link && ltb grant.write.number sight.read.number) || ltb (last_act history.life.site.rules grant.write.at) sight.read.at) settled in
        elim (or_cases (eqb grant.write.link sight.read.link && ltb grant.write.number sight.read.number) (ltb (last_act history.life.site.rules grant.write.at) sight.read.at) parts.1) [
          | inl on_link ↦
              let both = and_parts (eqb grant.write.link sight.read.link) (ltb grant.write.number sight.read.number) on_link in
              let rises = device.numbers look act order (link_of_sight sight) sight.read.number grant.write.number
              (rw looks (refl, refl)) (rw acts (link_is (sym (eqb-true grant.write.link sight.read.link both.0)), refl)) in
              omega (arith, rises, ltb-true grant.write.number sight.read.number both.1)
          | inr past ↦ omega (arith, ltb-true (last_act history.life.site.rules grant.write.at) sight.read.at past, device.in_order look act order, from, until)
        ]

    -- and what it did before isn't what is held at the look
    pub not_the_last : (before after : List Timed) (acted : ℕ) → first ≡ before ++ record { at = acted; event = Act grant } ∷ after → find is_change after ≡ None → ⊥
    unfolding held
    not_the_last before after acted stand none =
        let look = looked_at sight within its in
        let looked : Timed = record { at = look.moment; event = Look sight } in
        let act : Timed = record { at = acted; event = Act grant } in
        let through : events ≡ look.before ++ looked ∷ (look.after ++ rest) = cut.parts ∙ ap (λ (ts : List Timed). ts ++ rest) look.stand ∙ append_assoc look.before (looked ∷ look.after) rest in
        let acts_at : events ≡ before ++ act ∷ (after ++ rest) = cut.parts ∙ ap (λ (ts : List Timed). ts ++ rest) stand ∙ append_assoc before (act ∷ after) rest in
        elim (places look.before looked look.after before act after (sym look.stand ∙ stand)) [
          | Same a b c ↦ act_is_no_look grant sight (ap (λ (t : Timed). t.event) (sym b))
          | Before earlier ↦
              let order : Precedes events looked act = record {
                before = look.before;
                between = earlier.between;
                after = after ++ rest;
                stand = through ∙ ap (λ (ts : List Timed). look.before ++ looked ∷ (ts ++ rest)) earlier.to_after ∙ ap (λ (ts : List Timed). look.before ++ looked ∷ ts) (append_assoc earlier.between (act ∷ after) rest);
              } in
              none_behind looked act order refl refl (device.looks look.before (look.after ++ rest) look.moment sight through).2 (device.acts before (after ++ rest) acted grant acts_at).3
          | After earlier ↦
              let quiet = find_none-append is_change earlier.between (looked ∷ look.after) (sym (ap (find is_change) earlier.to_after) ∙ none) in
              let last : last_that is_change look.before ≡ Some act = ap (last_that is_change) earlier.to_later ∙ last_that-is is_change before act earlier.between refl quiet.0 in
              let shows = device.shown look.before (look.after ++ rest) look.moment sight through in
              other (sym shows ∙ ap (held_by (floor_raw_at history.life.site inverter)) last)
        ]
