-- A live write since whose grant no read was answered may act at the last moment at which it may.
use Rattle.std.proofs.Common.{◌≡◌, ℕ, ◌+◌, ◌<◌, ◌≤◌, max, Bool, true, false, cond, ◌&&◌, ◌||◌, eqb, leb, ltb, List, [], ◌∷◌, ◌++◌, length, Option, Some, None, refl, sym, ap, subst, ◌∙◌, append_assoc, arith, inl, inr}
use Rattle.std.specs.Prelude.{find, Contains, IsSomeAnd, count_by}
use Rattle.std.specs.List.{AllByRecursion}
use Rattle.std.specs.Option.{option_or}
use Rattle.std.proofs.lemmas.Bool.{cases_Bool, cases_lt, and_parts, eq-eqb, leb-true, ltb-false}
use Rattle.std.proofs.lemmas.List.{append-nil, length-append}
use Rattle.std.proofs.lemmas.List.Elements.{Contains-append_cases, Contains-append_left}
use Rattle.std.proofs.lemmas.List.Folds.{find-append}
use Rattle.limiter_num.specs.Timers.{tmax, reach, last_act}
use Rattle.plant_book.specs.declared.call.Reply.{Reply}
use Rattle.plant_book.specs.declared.call.Reply.TheVariants as replies
use Rattle.plant_book.specs.declared.call.Write as writes
use Rattle.plant_book.specs.declared.book.Entry.{Entry}
use Rattle.plant_book.specs.Sums.{last_that}
use Rattle.plant_book.specs.Book.{BookRecord}
use Rattle.plant_book.specs.Calls.{moment, latest}
use Rattle.plant_book.specs.Requests.{link_number, requests, grants_to}
use Rattle.plant_book.specs.Writes.{grant_of, is_current, standing, live}
use Rattle.plant_book.specs.Policy.{is_sight}
use Rattle.plant_book.specs.Reserved.{now_of}
use Rattle.plant_book.specs.Answered.{EachInTurn, IsAnswer, IsNext, IsBook, with_entries}
use Rattle.plant_book.specs.History.{History, Grant, Sight, grants, life_grants, sights, life_sights, life_after, link_of_grant}
use Rattle.plant_book.specs.Behaviour.{Event, Act, Revert, Look, Timed, is_change, is_look_of, IsAsked, Precedes, IsBehaviour}
use Rattle.plant_book.specs.Tight.{IsUnreadSince, MayHold, IsTight}
use Rattle.plant_book.proofs.Steps.{latest-push}
use Rattle.plant_book.proofs.Granting.{IsCovered, granted_is_covered}
use Rattle.plant_book.proofs.Freeing.{Contains-filter}
use Rattle.plant_book.proofs.Cover.{granted_by}
use Rattle.plant_book.proofs.Last.{last_that-stands, none_from_last, some_is}
use Rattle.plant_book.proofs.Places.{Same, Before, After, places, last_that-is, find_none-append, count_by-append, count_by-none}
use Rattle.plant_book.specs.Start.{IsStart}
use Rattle.plant_book.proofs.Growing.{tmin_le-tmax, has_place, AtLast, Sooner, push_places, start_push, start_of, behaviour_of, all_map, all_push, act_may, revert_may}
use Rattle.plant_book.proofs.Behaviours.{revert_is_no_act, no_act}
use Rattle.plant_book.proofs.Numbers.{number_rises, request_is_no_link, IsReadAt, read_is_at, StandsAt, stands_at, grant_within, grant_at, SightAt, sight_at, ReadAt, read_at, last_that_passes, read_inverter, grant_is_no_sight}

-- what holds of each entry with those before it holds at a place, and from a place on
each_at : (Fact : List Entry → Entry → Type 0) (before front : List Entry) (entry : Entry) (behind : List Entry) → EachInTurn Fact before (front ++ entry ∷ behind) → Fact (before ++ front) entry
each_at Fact before [] entry behind each = subst (λ (es : List Entry). Fact es entry) (sym (append-nil before)) each.0
each_at Fact before (one ∷ front) entry behind each =
    subst (λ (es : List Entry). Fact es entry) (append_assoc before (one ∷ []) front) (each_at Fact (before ++ one ∷ []) front entry behind each.1)

each_from : (Fact : List Entry → Entry → Type 0) (before front : List Entry) (entry : Entry) (behind : List Entry) → EachInTurn Fact before (front ++ entry ∷ behind) → EachInTurn Fact ((before ++ front) ++ entry ∷ []) behind
each_from Fact before [] entry behind each = subst (λ (es : List Entry). EachInTurn Fact (es ++ entry ∷ []) behind) (sym (append-nil before)) each.1
each_from Fact before (one ∷ front) entry behind each =
    subst (λ (es : List Entry). EachInTurn Fact (es ++ entry ∷ []) behind) (append_assoc before (one ∷ []) front) (each_from Fact (before ++ one ∷ []) front entry behind each.1)

module _ (book : BookRecord) (kept : IsBook book) where
  right_at : (front : List Entry) (entry : Entry) (behind : List Entry) → book.entries ≡ front ++ entry ∷ behind → IsAnswer book front entry
  right_at front entry behind stand = each_at (IsAnswer book) [] front entry behind (subst (EachInTurn (IsAnswer book) []) stand kept.answered)

  moments_rise : (before between : List Entry) (entry : Entry) (behind : List Entry) → EachInTurn (λ es e. IsNext book.site book.start es e.call) before (between ++ entry ∷ behind) → latest book.start before ≤ moment entry.call
  moments_rise before [] entry behind next = next.0.later
  moments_rise before (one ∷ between) entry behind next =
      omega (arith, next.0.later, latest-push book.start before one, moments_rise (before ++ one ∷ []) between entry behind next.1)

  -- a later entry has no lower moment
  moment_le : (front : List Entry) (first : Entry) (between : List Entry) (second : Entry) (behind : List Entry) → book.entries ≡ front ++ first ∷ (between ++ second ∷ behind) → moment first.call ≤ moment second.call
  moment_le front first between second behind stand =
      let from = each_from (λ es e. IsNext book.site book.start es e.call) [] front first (between ++ second ∷ behind) (subst (EachInTurn (λ es e. IsNext book.site book.start es e.call) []) stand kept.entered) in
      omega (arith, latest-push book.start front first, moments_rise (front ++ first ∷ []) between second behind from)

  -- what a grant is
  grant_is : (front : List Entry) (entry : Entry) (behind : List Entry) (write : writes.Write) → book.entries ≡ front ++ entry ∷ behind → Contains (grant_of entry) write → IsCovered (with_entries book front) (moment entry.call) write
  grant_is front entry behind write stand grants = granted_is_covered (with_entries book front) entry.call write (sym (right_at front entry behind stand) ∙ granted_by book entry.reply write grants)

  -- a request at a place has a lower number than one behind it on its link
  lower : (inverter : ℕ) (front : List Entry) (entry : Entry) (between : List Entry) (whole behind : List Entry) → whole ≡ front ++ entry ∷ between → book.entries ≡ whole ++ behind
      → grants_to inverter entry.reply ≡ true → link_number inverter whole ≡ link_number inverter front → requests inverter front + 1 ≤ requests inverter whole
  lower inverter front entry between whole behind stand all request same =
      let at : book.entries ≡ front ++ entry ∷ (between ++ behind) = all ∙ ap (λ (es : List Entry). es ++ behind) stand ∙ append_assoc front (entry ∷ between) behind in
      let rises = number_rises inverter front between entry request (request_is_no_link inverter (with_entries book front) entry.call entry.reply (right_at front entry (between ++ behind) at) request) (ap (link_number inverter) (sym stand) ∙ same) in
      omega (arith, rises, ap (requests inverter) stand)

  module _ (write : writes.Write) (at : StandsAt book.site.rules book.entries write) (unread : IsUnreadSince book.entries write) where
    abbrev history : History
    history = life_after [] book

    abbrev its_grant : Grant
    its_grant = record { life = 1; place = 0 + length at.front; write = write }

    covered : IsCovered (with_entries book at.front) (moment at.entry.call) write
    covered = grant_is at.front at.entry at.behind write at.stand at.grants

    its_link : write.link ≡ link_number write.inverter at.front
    its_link = ap (λ (w : writes.Write). w.link) covered.is

    its_number : write.number ≡ requests write.inverter at.front + 1
    its_number = ap (λ (w : writes.Write). w.number) covered.is

    it_may_act : Contains (grants history) its_grant
    it_may_act =
        Contains-append_left (life_grants 1 0 book.entries) [] its_grant
        (subst (λ (es : List Entry). Contains (life_grants 1 0 es) its_grant) (sym at.stand) (grant_within 1 0 at.front at.entry at.behind write at.grants at.kept))

    -- an answered read was entered and seen before the grant
    record IsSooner (sight : Sight) : Type 0 where
      in_life : sight.life ≡ 1
      place : sight.place < length at.front
      until : sight.at ≤ write.at
      number : sight.read.link ≡ write.link → sight.read.number ≤ write.number

    module _ (sight : Sight) (its : sight.read.inverter ≡ write.inverter) (seen : SightAt 1 0 [] book.entries sight) where
      its_read : ReadAt seen.inverter seen.front sight.read
      its_read = read_at seen.inverter seen.front sight.read seen.pending

      read_stands : book.entries ≡ its_read.front ++ its_read.entry ∷ (its_read.behind ++ seen.entry ∷ seen.behind)
      read_stands = seen.stand ∙ ap (λ (es : List Entry). es ++ seen.entry ∷ seen.behind) its_read.stand ∙ append_assoc its_read.front (its_read.entry ∷ its_read.behind) (seen.entry ∷ seen.behind)

      read_right : IsAnswer book its_read.front its_read.entry
      read_right = right_at its_read.front its_read.entry (its_read.behind ++ seen.entry ∷ seen.behind) read_stands

      same_inverter : seen.inverter ≡ write.inverter
      same_inverter = sym (read_inverter seen.inverter (with_entries book its_read.front) its_read.entry.call its_read.entry.reply sight.read read_right its_read.passes its_read.reply) ∙ its

      is_a_sight : is_sight write.inverter seen.entry ≡ true
      is_a_sight = subst (λ (i : ℕ). is_sight i seen.entry ≡ true) same_inverter seen.seen

      read_number : IsReadAt (with_entries book its_read.front) (moment its_read.entry.call) sight.read
      read_number = read_is_at (with_entries book its_read.front) its_read.entry.call sight.read (sym read_right ∙ its_read.reply)

      number_is_lower : (between : List Entry) → at.front ≡ seen.front ++ seen.entry ∷ between → sight.read.link ≡ write.link → sight.read.number ≤ write.number
      number_is_lower between stand same =
          let i = write.inverter in
          let whole : at.front ≡ its_read.front ++ its_read.entry ∷ (its_read.behind ++ seen.entry ∷ between) =
          stand ∙ ap (λ (es : List Entry). es ++ seen.entry ∷ between) its_read.stand ∙ append_assoc its_read.front (its_read.entry ∷ its_read.behind) (seen.entry ∷ between) in
          let request : grants_to i its_read.entry.reply ≡ true = subst (λ (r : Reply). grants_to i r ≡ true) (sym its_read.reply) (eq-eqb sight.read.inverter i its) in
          let link : sight.read.link ≡ link_number i its_read.front = read_number.link ∙ ap (λ (j : ℕ). link_number j its_read.front) its in
          let number : sight.read.number ≡ requests i its_read.front + 1 = read_number.number ∙ ap (λ (j : ℕ). requests j its_read.front + 1) its in
          let less = lower i its_read.front its_read.entry (its_read.behind ++ seen.entry ∷ between) at.front (at.entry ∷ at.behind) whole at.stand request (sym its_link ∙ sym same ∙ link) in
          omega (arith, less, number, its_number)

      sooner : IsSooner sight
      sooner =
          elim (places seen.front seen.entry seen.behind at.front at.entry at.behind (sym seen.stand ∙ at.stand)) as (λ _. IsSooner sight) [
            | Same a b c ↦
                absurd (grant_is_no_sight write.inverter seen.entry.call seen.entry.reply write is_a_sight (ap (λ (e : Entry). e.reply) b ∙ granted_by book at.entry.reply write at.grants))
            | Before earlier ↦
                let stand : book.entries ≡ seen.front ++ seen.entry ∷ (earlier.between ++ at.entry ∷ at.behind) = seen.stand ∙ ap (λ (es : List Entry). seen.front ++ seen.entry ∷ es) earlier.to_after in
                record {
                  in_life = seen.in_life;
                  place = omega (arith, seen.in_place, ap (λ (es : List Entry). length es) earlier.to_later, length-append seen.front (seen.entry ∷ earlier.between));
                  until = omega (arith, seen.at, covered.at, moment_le seen.front seen.entry earlier.between at.entry at.behind stand);
                  number = number_is_lower earlier.between earlier.to_later;
                }
            | After earlier ↦
                let none = unread at.front at.behind at.entry at.stand at.grants in
                let never = has_place (λ (e : Entry). is_sight write.inverter e ≡ false) earlier.between seen.entry seen.behind (subst (AllByRecursion (λ (e : Entry). is_sight write.inverter e ≡ false)) earlier.to_after none) in
                absurd (let two = sym never ∙ is_a_sight in cc)
          ]

    sooner_of : (sight : Sight) → Contains (sights history) sight → sight.read.inverter ≡ write.inverter → IsSooner sight
    sooner_of sight within its =
        elim (Contains-append_cases (life_sights 1 0 [] book.entries) [] sight within) [
          | inl here ↦ sooner sight its (sight_at 1 0 [] book.entries sight here)
          | inr none ↦ absurd (omega (arith, none.1))
        ]

    -- another grant on the link, and not behind this one, has no greater number
    number_of_act : (grant : Grant) → Contains (grants history) grant → grant.write.inverter ≡ write.inverter → grant.place ≤ length at.front → link_of_grant grant ≡ link_of_grant its_grant → grant.write.number ≤ write.number
    number_of_act grant within its early link =
        elim (Contains-append_cases (life_grants 1 0 book.entries) [] grant within) [
          | inl here ↦
              let other = grant_at 1 0 book.entries grant here in
              let is = grant_is other.front other.entry other.behind grant.write other.stand other.grants in
              let reply = granted_by book other.entry.reply grant.write other.grants in
              let pair = subst (λ (n : ℕ). cond (eqb n 0) (0, grant.place) (n, grant.write.link) ≡ link_of_grant its_grant) other.in_life link in
              let on_link : grant.write.link ≡ write.link = ap (λ (p : ℕ × ℕ). p.1) pair in
              let i = write.inverter in
              elim (places other.front other.entry other.behind at.front at.entry at.behind (sym other.stand ∙ at.stand)) as (λ _. grant.write.number ≤ write.number) [
                | Same a b c ↦
                    let one = sym reply ∙ ap (λ (e : Entry). e.reply) b ∙ granted_by book at.entry.reply write at.grants in
                    omega (arith, granted_number grant.write write one)
                | Before earlier ↦
                    let link_is : grant.write.link ≡ link_number i other.front = ap (λ (w : writes.Write). w.link) is.is ∙ ap (λ (j : ℕ). link_number j other.front) its in
                    let number_is : grant.write.number ≡ requests i other.front + 1 = ap (λ (w : writes.Write). w.number) is.is ∙ ap (λ (j : ℕ). requests j other.front + 1) its in
                    let request : grants_to i other.entry.reply ≡ true = subst (λ (r : Reply). grants_to i r ≡ true) (sym reply) (eq-eqb grant.write.inverter i its) in
                    let less = lower i other.front other.entry earlier.between at.front (at.entry ∷ at.behind) earlier.to_later at.stand request (sym its_link ∙ sym on_link ∙ link_is) in
                    omega (arith, less, number_is, its_number)
                | After later ↦ absurd (omega (arith, early, other.in_place, ap (λ (es : List Entry). length es) later.to_later, length-append at.front (at.entry ∷ later.between)))
              ]
          | inr none ↦ absurd (omega (arith, none.1))
        ]
      where
        granted_alike : (a b : writes.Write) → replies.Granted a ≡ replies.Granted b → a ≡ b
        granted_alike a b is = cc

        granted_number : (a b : writes.Write) → replies.Granted a ≡ replies.Granted b → a.number ≡ b.number
        granted_number a b is = ap (λ (w : writes.Write). w.number) (granted_alike a b is)

abbrev is_look : Event → Bool
is_look (Act grant) = false
is_look Revert = false
is_look (Look sight) = true

abbrev is_a_look : Timed → Bool
is_a_look timed = is_look timed.event

look_is : (event : Event) → is_look event ≡ true → (sight : Sight) × (event ≡ Look sight)
look_is (Act grant) is = absurd cc
look_is Revert is = absurd cc
look_is (Look sight) is = (sight, refl)

not_looked : (sight : Sight) (event : Event) → is_look event ≡ false → is_look_of sight event ≡ false
not_looked sight (Act grant) is = refl
not_looked sight Revert is = refl
not_looked sight (Look other) is = absurd cc

-- none passes where none is found
all_fail : {X : Type 0} (p : X → Bool) (xs : List X) → find p xs ≡ None → AllByRecursion (λ x. p x ≡ false) xs
all_fail p [] is = tt
all_fail p (x ∷ xs) is =
    elim (cases_Bool (p x)) [
      | inl passes ↦ absurd (let never = rw passes at is in cc)
      | inr fails ↦ let rest = rw fails at is in (fails, all_fail p xs rest)
    ]

-- where an element that is found stands
record FoundAt {X : Type 0} (p : X → Bool) (xs : List X) (x : X) : Type 0 where
  front : List X
  behind : List X
  stand : xs ≡ front ++ x ∷ behind

found_at : {X : Type 0} (p : X → Bool) (xs : List X) (x : X) → find p xs ≡ Some x → FoundAt p xs x
found_at p [] x is = absurd cc
found_at {X = X} p (y ∷ xs) x is =
    elim (cases_Bool (p y)) [
      | inl passes ↦ let one = rw passes at is in record { front = []; behind = xs; stand = ap (λ (z : X). z ∷ xs) (some_is y x one) }
      | inr fails ↦
          let more = rw fails at is in
          let rest = found_at p xs x more in
          record { front = y ∷ rest.front; behind = rest.behind; stand = ap (λ (zs : List X). y ∷ zs) rest.stand }
    ]

-- what holds at each place holds of each
all_places : {X : Type 0} (P : X → Type 0) (xs : List X) → ((before : List X) (x : X) (after : List X) → xs ≡ before ++ x ∷ after → P x) → AllByRecursion P xs
all_places P [] each = tt
all_places {X = X} P (x ∷ xs) each = (each [] x xs refl, all_places P xs (λ before y after is. each (x ∷ before) y after (ap (λ (zs : List X). x ∷ zs) is)))

module _ (book : BookRecord) (kept : IsBook book) (write : writes.Write) (at : StandsAt book.site.rules book.entries write) (unread : IsUnreadSince book.entries write)
    (events : List Timed) (device : IsBehaviour (life_after [] book) write.inverter events) where
  abbrev its_history : History
  its_history = life_after [] book

  abbrev the_grant : Grant
  the_grant = record { life = 1; place = 0 + length at.front; write = write }

  abbrev longest : ℕ
  longest = tmax book.site.rules

  -- what may come before the Act on its link
  abbrev IsLower : Timed → Type 0
  IsLower timed = (number : ℕ) → IsAsked timed.event (link_of_grant the_grant) number → number ≤ write.number

  -- the events up to and with the last look
  record Seen : Type 0 where
    first : List Timed
    rest : List Timed
    stand : events ≡ first ++ rest
    no_look : find is_a_look rest ≡ None
    until : AllByRecursion (λ timed. timed.at ≤ write.at) first
    numbers : AllByRecursion IsLower first
    ready : (before after : List Timed) (acted : ℕ) (other : Grant) → first ≡ before ++ record { at = acted; event = Act other } ∷ after → find is_change after ≡ None → AllByRecursion (λ timed. timed.at ≤ acted + longest) first

  module _ (front : List Timed) (look : Timed) (behind : List Timed) (sight : Sight) (looks : look.event ≡ Look sight) (stand : events ≡ front ++ look ∷ behind) where
    look_at : events ≡ front ++ record { at = look.at; event = Look sight } ∷ behind
    look_at = stand ∙ ap (λ (e : Event). front ++ record { at = look.at; event = e } ∷ behind) looks

    its_sooner : IsSooner book kept write at unread sight
    its_sooner = let facts = device.looks front behind look.at sight look_at in sooner_of book kept write at unread sight facts.0 facts.1

    look_until : look.at ≤ write.at
    look_until = omega (arith, (device.looks front behind look.at sight look_at).3, its_sooner.until)

    -- each event before the look, with the look behind it
    stands_before : (before : List Timed) (timed : Timed) (after : List Timed) → front ≡ before ++ timed ∷ after → events ≡ before ++ timed ∷ (after ++ look ∷ behind)
    stands_before before timed after is = stand ∙ ap (λ (ts : List Timed). ts ++ look ∷ behind) is ∙ append_assoc before (timed ∷ after) (look ∷ behind)

    before_look : (before : List Timed) (timed : Timed) (after : List Timed) → front ≡ before ++ timed ∷ after → Precedes events timed look
    before_look before timed after is = record { before = before; between = after; after = behind; stand = stands_before before timed after is }

    act_early : (grant : Grant) (timed : Timed) → Precedes events timed look → timed.event ≡ Act grant → grant.life ≡ 1 → grant.place ≤ length at.front
    act_early grant timed order acts in_life =
        let not_after = device.looks_first sight grant timed look order acts looks in
        elim (cases_lt (length at.front) grant.place) [
          | inl behind_it ↦ absurd (late sight.life grant.life sight.place grant.place its_sooner.in_life in_life (omega (arith, its_sooner.place, behind_it)) not_after)
          | inr early ↦ early
        ]
      where
        lt_ltb : (c d : ℕ) → c < d → ltb c d ≡ true
        lt_ltb c d lt = elim (cases_Bool (ltb c d)) [ inl is ↦ is | inr fails ↦ absurd (omega (arith, lt, ltb-false c d fails)) ]

        or_true : (b : Bool) → (b || true) ≡ false → ⊥
        or_true true is = cc
        or_true false is = cc

        late : (a b c d : ℕ) → a ≡ 1 → b ≡ 1 → c < d → (ltb a b || ((eqb a b) && ltb c d)) ≡ false → ⊥
        late a b c d one other lt is =
            let less : ltb c d ≡ true = lt_ltb c d lt in
            let same : eqb a b ≡ true = eq-eqb a b (one ∙ sym other) in
            let never = rw (less, same) at is in or_true (ltb a b) never

    lower_event : (before : List Timed) (timed : Timed) (after : List Timed) → front ≡ before ++ timed ∷ after → (event : Event) → timed.event ≡ event → (number : ℕ) → IsAsked event (link_of_grant the_grant) number → number ≤ write.number
    lower_event before timed after is (Act grant) acts number asked =
        let order = before_look before timed after is in
        let place : events ≡ before ++ record { at = timed.at; event = Act grant } ∷ (after ++ look ∷ behind) = stands_before before timed after is ∙ ap (λ (e : Event). before ++ record { at = timed.at; event = e } ∷ (after ++ look ∷ behind)) acts in
        let may = device.acts before (after ++ look ∷ behind) timed.at grant place in
        let early = act_early grant timed order acts (life_of grant may.0) in
        omega (arith, number_of_act book kept write at unread grant may.0 may.1 early asked.0, asked.1)
      where
        life_of : (grant : Grant) → Contains (grants (life_after [] book)) grant → grant.life ≡ 1
        life_of grant within =
            elim (Contains-append_cases (life_grants 1 0 book.entries) [] grant within) [
              | inl here ↦ (grant_at 1 0 book.entries grant here).in_life
              | inr none ↦ absurd (omega (arith, none.1))
            ]
    lower_event before timed after is Revert reverts number asked = absurd asked
    lower_event before timed after is (Look other) shows number asked =
        let order = before_look before timed after is in
        let place : events ≡ before ++ record { at = timed.at; event = Look other } ∷ (after ++ look ∷ behind) = stands_before before timed after is ∙ ap (λ (e : Event). before ++ record { at = timed.at; event = e } ∷ (after ++ look ∷ behind)) shows in
        let facts = device.looks before (after ++ look ∷ behind) timed.at other place in
        let other_sooner = sooner_of book kept write at unread other facts.0 facts.1 in
        omega (arith, other_sooner.number (ap (λ (p : ℕ × ℕ). p.1) asked.0), asked.1)

    look_ready : (before after : List Timed) (acted : ℕ) (other : Grant) → front ++ look ∷ [] ≡ before ++ record { at = acted; event = Act other } ∷ after → find is_change after ≡ None → look.at ≤ acted + longest
    look_ready before after acted other is none =
        let all : events ≡ before ++ record { at = acted; event = Act other } ∷ (after ++ behind) =
        stand ∙ sym (append_assoc front (look ∷ []) behind) ∙ ap (λ (ts : List Timed). ts ++ behind) is ∙ append_assoc before (record { at = acted; event = Act other } ∷ after) behind in
        let next : find is_change (after ++ behind) ≡ find is_change behind = find-append is_change after behind ∙ ap (λ (o : Option Timed). option_or o (find is_change behind)) none in
        let ends = subst (λ (o : Option Timed). IsSomeAnd o (λ t. t.at ≤ acted + longest)) next (device.ends before (after ++ behind) acted other all) in
        by_next (find is_change behind) refl ends
      where
        by_next : (next : Option Timed) → find is_change behind ≡ next → IsSomeAnd next (λ t. t.at ≤ acted + longest) → look.at ≤ acted + longest
        by_next None found ends = absurd ends
        by_next (Some one) found ends =
            let place = found_at is_change behind one found in
            let order : Precedes events look one = record { before = front; between = place.front; after = place.behind; stand = stand ∙ ap (λ (ts : List Timed). front ++ look ∷ ts) place.stand } in
            omega (arith, ends, device.in_order look one order)

    before_look_at : AllByRecursion (λ timed. timed.at ≤ look.at) (front ++ look ∷ [])
    before_look_at = all_push (λ timed. timed.at ≤ look.at) front look (all_places (λ timed. timed.at ≤ look.at) front (λ before timed after is. device.in_order timed look (before_look before timed after is))) (omega arith)

    seen_to_look : find is_a_look behind ≡ None → Seen
    seen_to_look none = record {
      first = front ++ look ∷ [];
      rest = behind;
      stand = stand ∙ sym (append_assoc front (look ∷ []) behind);
      no_look = none;
      until = all_map (λ timed. timed.at ≤ look.at) (λ timed. timed.at ≤ write.at) (λ timed le. omega (arith, le, look_until)) (front ++ look ∷ []) before_look_at;
      numbers = all_push IsLower front look (all_places IsLower front (λ before timed after is. lower_event before timed after is timed.event refl))
          (λ number asked. let at_look = subst (λ (e : Event). IsAsked e (link_of_grant the_grant) number) looks asked in omega (arith, its_sooner.number (ap (λ (p : ℕ × ℕ). p.1) at_look.0), at_look.1));
      ready = λ before after acted other is none. all_map (λ timed. timed.at ≤ look.at) (λ timed. timed.at ≤ acted + longest) (λ timed le. omega (arith, le, look_ready before after acted other is none)) (front ++ look ∷ []) before_look_at;
    }

  seen_by_last : (last : Option Timed) → last_that is_a_look events ≡ last → Seen
  seen_by_last None none = record {
    first = [];
    rest = events;
    stand = refl;
    no_look = none_from_last is_a_look events none;
    until = tt;
    numbers = tt;
    ready = λ before after acted other is gone. tt;
  }
  seen_by_last (Some look) found =
      let stands = last_that-stands is_a_look events look found in
      let its = look_is look.event (last_that_passes is_a_look events look found) in
      seen_to_look stands.before look stands.after its.0 its.1 stands.stand stands.none_after

  seen : Seen
  seen = seen_by_last (last_that is_a_look events) refl

  seen_start : IsStart its_history write.inverter seen.first
  seen_start = start_of its_history write.inverter seen.first seen.rest (subst (IsBehaviour its_history write.inverter) seen.stand device)

  seen_once : (sight : Sight) → Contains (sights its_history) sight → sight.read.inverter ≡ write.inverter → count_by (λ timed. is_look_of sight timed.event) seen.first ≡ 1
  seen_once sight within its =
      let is_its : Timed → Bool = λ timed. is_look_of sight timed.event in
      let all : count_by is_its (seen.first ++ seen.rest) ≡ 1 = subst (λ (ts : List Timed). count_by is_its ts ≡ 1) seen.stand (device.looked sight within its) in
      let none : count_by is_its seen.rest ≡ 0 = count_by-none is_its (λ timed. is_a_look timed ≡ false) (λ timed is. not_looked sight timed.event is) seen.rest (all_fail is_a_look seen.rest seen.no_look) in
      omega (arith, all, none, count_by-append is_its seen.first seen.rest)

  abbrev last_act_at : ℕ
  last_act_at = last_act book.site.rules write.at

  -- events behind which the write may act at its last moment
  record Ready : Type 0 where
    list : List Timed
    start : IsStart its_history write.inverter list
    until : AllByRecursion (λ timed. timed.at ≤ last_act_at) list
    numbers : AllByRecursion IsLower list
    ends : (before after : List Timed) (acted : ℕ) (other : Grant) → list ≡ before ++ record { at = acted; event = Act other } ∷ after → find is_change after ≡ None → last_act_at ≤ acted + longest
    once : (sight : Sight) → Contains (sights its_history) sight → sight.read.inverter ≡ write.inverter → count_by (λ timed. is_look_of sight timed.event) list ≡ 1

  seen_until : AllByRecursion (λ timed. timed.at ≤ last_act_at) seen.first
  seen_until = all_map (λ timed. timed.at ≤ write.at) (λ timed. timed.at ≤ last_act_at) (λ timed le. omega (arith, le)) seen.first seen.until

  -- as they are
  ready_as_seen : ((before after : List Timed) (acted : ℕ) (other : Grant) → seen.first ≡ before ++ record { at = acted; event = Act other } ∷ after → find is_change after ≡ None → last_act_at ≤ acted + longest) → Ready
  ready_as_seen ends = record { list = seen.first; start = seen_start; until = seen_until; numbers = seen.numbers; ends = ends; once = seen_once }

  -- with the Revert of the last Act
  module _ (acted : ℕ) (grant : Grant) (last : last_that is_change seen.first ≡ Some (record { at = acted; event = Act grant })) (early : acted + longest < last_act_at) where
    abbrev reverted : Timed
    reverted = record { at = acted + longest; event = Revert }

    revert_until : AllByRecursion (λ timed. timed.at ≤ acted + longest) seen.first
    revert_until =
        let stands = last_that-stands is_change seen.first (record { at = acted; event = Act grant }) last in
        seen.ready stands.before stands.after acted grant stands.stand stands.none_after

    revert_ends : (before after : List Timed) (moment : ℕ) (other : Grant) → seen.first ++ reverted ∷ [] ≡ before ++ record { at = moment; event = Act other } ∷ after → find is_change after ≡ None → last_act_at ≤ moment + longest
    revert_ends before after moment other is none =
        elim (push_places seen.first reverted before (record { at = moment; event = Act other }) after is) as (λ _. last_act_at ≤ moment + longest) [
          | AtLast a b c ↦ absurd (no_act other (sym (ap (λ (t : Timed). t.event) b)))
          | Sooner p ↦ absurd (let two = find_none-append is_change p.rest (reverted ∷ []) (sym (ap (find is_change) p.to_after) ∙ none) in some_reverted two.1)
        ]
      where
        some_reverted : find is_change (reverted ∷ []) ≡ None → ⊥
        some_reverted is = cc

    ready_reverted : Ready
    ready_reverted = record {
      list = seen.first ++ reverted ∷ [];
      start = start_push its_history write.inverter seen.first reverted seen_start
          (revert_may its_history write.inverter seen.first (acted + longest) revert_until acted grant last (omega (arith, tmin_le-tmax book.site.rules)) (omega arith));
      until = all_push (λ timed. timed.at ≤ last_act_at) seen.first reverted seen_until (omega (arith, early));
      numbers = all_push IsLower seen.first reverted seen.numbers (λ number asked. absurd asked);
      ends = revert_ends;
      once = λ sight within its. omega (arith, seen_once sight within its, count_by-append (λ (timed : Timed). is_look_of sight timed.event) seen.first (reverted ∷ []));
    }

  ready_by_event : (last : Timed) (event : Event) → last.event ≡ event → last_that is_change seen.first ≡ Some last → Ready
  ready_by_event last (Act grant) acts found =
      let at_last : last_that is_change seen.first ≡ Some (record { at = last.at; event = Act grant }) = found ∙ ap (λ (e : Event). Some (record { at = last.at; event = e })) acts in
      elim (cases_lt (last.at + longest) last_act_at) [
        | inl early ↦ ready_reverted last.at grant at_last early
        | inr late ↦ ready_as_seen (λ before after acted other is none.
            let same = some_is (record { at = acted; event = Act other }) last (sym (ap (last_that is_change) is ∙ last_that-is is_change before (record { at = acted; event = Act other }) after refl none) ∙ found) in
            omega (arith, late, ap (λ (t : Timed). t.at) same))
      ]
  ready_by_event last Revert reverts found =
      ready_as_seen (λ before after acted other is none.
      absurd (let same = some_is (record { at = acted; event = Act other }) last (sym (ap (last_that is_change) is ∙ last_that-is is_change before (record { at = acted; event = Act other }) after refl none) ∙ found) in
      no_act other (sym (ap (λ (t : Timed). t.event) same ∙ reverts))))
  ready_by_event last (Look sight) looks found =
      ready_as_seen (λ before after acted other is none.
      absurd (let same = some_is (record { at = acted; event = Act other }) last (sym (ap (last_that is_change) is ∙ last_that-is is_change before (record { at = acted; event = Act other }) after refl none) ∙ found) in
      act_no_look other sight (ap (λ (t : Timed). t.event) same ∙ looks)))
    where
      act_no_look : (grant : Grant) (seen : Sight) → Act grant ≡ Look seen → ⊥
      act_no_look grant seen is = cc

  ready_by_last : (last : Option Timed) → last_that is_change seen.first ≡ last → Ready
  ready_by_last None none =
      ready_as_seen (λ before after acted other is gone.
      absurd (never (record { at = acted; event = Act other }) (sym (ap (last_that is_change) is ∙ last_that-is is_change before (record { at = acted; event = Act other }) after refl gone) ∙ none)))
    where
      never : (timed : Timed) → Some timed ≡ None → ⊥
      never timed is = cc
  ready_by_last (Some last) found = ready_by_event last last.event refl found

  ready : Ready
  ready = ready_by_last (last_that is_change seen.first) refl

  abbrev acts : Timed
  acts = record { at = last_act_at; event = Act the_grant }

  abbrev reverts : Timed
  reverts = record { at = last_act_at + longest; event = Revert }

  acted_start : IsStart its_history write.inverter (ready.list ++ acts ∷ [])
  acted_start =
      start_push its_history write.inverter ready.list acts ready.start
      (act_may its_history write.inverter ready.list last_act_at ready.until the_grant (it_may_act book kept write at unread) refl (omega arith) (omega arith) ready.numbers ready.ends)

  acted_holds : last_that is_change (ready.list ++ acts ∷ []) ≡ Some acts
  acted_holds = last_that-is is_change ready.list acts [] refl refl

  acted_until : AllByRecursion (λ timed. timed.at ≤ last_act_at) (ready.list ++ acts ∷ [])
  acted_until = all_push (λ timed. timed.at ≤ last_act_at) ready.list acts ready.until (omega arith)

  held_start : IsStart its_history write.inverter ((ready.list ++ acts ∷ []) ++ reverts ∷ [])
  held_start =
      start_push its_history write.inverter (ready.list ++ acts ∷ []) reverts acted_start
      (revert_may its_history write.inverter (ready.list ++ acts ∷ []) (last_act_at + longest)
      (all_map (λ timed. timed.at ≤ last_act_at) (λ timed. timed.at ≤ last_act_at + longest) (λ timed le. omega (arith, le)) (ready.list ++ acts ∷ []) acted_until)
      last_act_at the_grant acted_holds (omega (arith, tmin_le-tmax book.site.rules)) (omega arith))

  held_once : (sight : Sight) → Contains (sights its_history) sight → sight.read.inverter ≡ write.inverter → count_by (λ timed. is_look_of sight timed.event) ((ready.list ++ acts ∷ []) ++ reverts ∷ []) ≡ 1
  held_once sight within its =
      let is_its : Timed → Bool = λ timed. is_look_of sight timed.event in
      omega (arith, ready.once sight within its, count_by-append is_its ready.list (acts ∷ []), count_by-append is_its (ready.list ++ acts ∷ []) (reverts ∷ []))

  held_behaviour : IsBehaviour its_history write.inverter ((ready.list ++ acts ∷ []) ++ reverts ∷ [])
  held_behaviour =
      behaviour_of its_history write.inverter ((ready.list ++ acts ∷ []) ++ reverts ∷ []) held_start
      (λ other moment is. revert_is_no_act reverts (record { at = moment; event = Act other }) other refl refl (sym (last_that-is is_change (ready.list ++ acts ∷ []) reverts [] refl refl) ∙ is))
      held_once

  pub may_hold : now_of book ≤ write.at + reach book.site.rules → MayHold its_history write
  unfolding reach
  may_hold current = record {
    events = (ready.list ++ acts ∷ []) ++ reverts ∷ [];
    behaviour = held_behaviour;
    at = max (now_of book) last_act_at;
    from = omega arith;
    first = ready.list ++ acts ∷ [];
    rest = reverts ∷ [];
    cut = record {
      parts = refl;
      earlier = all_map (λ timed. timed.at ≤ last_act_at) (λ timed. timed.at ≤ max (now_of book) last_act_at) (λ timed le. omega (arith, le)) (ready.list ++ acts ∷ []) acted_until;
      later = (omega (arith, current), tt);
      looked = (tt, tt);
    };
    grant = the_grant;
    of_write = refl;
    acted = last_act_at;
    holds = acted_holds;
  }

-- a commissioned life is tight
pub tight : (book : BookRecord) → IsBook book → IsTight book
unfolding live
tight book kept write events within unread device =
    let passes = Contains-filter (is_current book.site.rules (now_of book) write.inverter) (standing book.site.rules [] book.entries) write within in
    let both = and_parts (eqb write.inverter write.inverter) (leb (now_of book) (write.at + reach book.site.rules)) passes.passes in
    may_hold book kept write (stands_at book.site.rules [] book.entries write passes.within) unread events device (leb-true (now_of book) (write.at + reach book.site.rules) both.1)
