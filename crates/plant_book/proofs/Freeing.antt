-- What becomes of a granted write: it stands, it was given back, or an answered read freed it.
use Rattle.std.proofs.Common.{◌≡◌, ℕ, ◌+◌, Bool, true, false, not, ◌||◌, eqb, List, [], ◌∷◌, ◌++◌, map, Option, Some, None, refl, sym, ap, subst, ◌∙◌, arith, inl, inr, ◌⊎◌}
use Rattle.std.specs.Prelude.{filter, Contains}
use Rattle.std.proofs.lemmas.Bool.{cases_Bool, and_parts, or_cases, eq-eqb}
use Rattle.std.proofs.lemmas.List.Elements.{Contains-push, Contains-append_cases, Contains-append_left, Contains-append_right}
use Rattle.limiter_num.specs.declared.rules.Rules.{Rules}
use Rattle.plant_book.specs.declared.call.Call.{Call}
use Rattle.plant_book.specs.declared.call.Call.TheVariants as calls
use Rattle.plant_book.specs.declared.call.Reply.{Reply}
use Rattle.plant_book.specs.declared.call.Reply.TheVariants as replies
use Rattle.plant_book.specs.declared.call.Write as writes
use Rattle.plant_book.specs.declared.call.Read as reads
use Rattle.plant_book.specs.declared.book.Entry.{Entry}
use Rattle.plant_book.specs.Requests.{is_seen, pending_read}
use Rattle.plant_book.specs.Writes.{settles, frees, is_freed, grant_of, ends, ends_by, ends_later, standing}
use Rattle.plant_book.specs.History.{Grant, Sight, gives_back, is_given_back, life_grants, sight_of, sight_by, life_sights}
use Rattle.plant_book.proofs.Maxima.{only_element}

-- an answered read of this life that settles the write, and showed another raw percentage
pub record FreedBy (rules : Rules) (life : ℕ) (write : writes.Write) (seen : List Sight) : Type 0 where
  pub sight : Sight
  pub within : Contains seen sight
  pub in_life : sight.life ≡ life
  pub settled : settles rules sight.read write ≡ true
  pub other : sight.raw ≡ write.raw → ⊥

-- more answered reads
pub freed_among : (rules : Rules) (life : ℕ) (write : writes.Write) (seen more : List Sight) → ((sight : Sight) → Contains seen sight → Contains more sight) → FreedBy rules life write seen → FreedBy rules life write more
freed_among rules life write seen more all freed = record { sight = freed.sight; within = all freed.sight freed.within; in_life = freed.in_life; settled = freed.settled; other = freed.other }

-- false is not true
never : false ≡ true → ⊥
never is = cc

freed_by_pending : (rules : Rules) (life place : ℕ) (pending : Option reads.Read) (raw at : ℕ) (write : writes.Write) → frees rules pending raw write ≡ true → FreedBy rules life write (sight_of life place pending raw at)
freed_by_pending rules life place None raw at write is = absurd (never is)
freed_by_pending rules life place (Some read) raw at write is =
    let both = and_parts (settles rules read write) (not (eqb write.raw raw)) is in
    record {
      sight = record { life = life; place = place; read = read; raw = raw; at = at };
      within = Contains-push [] (record { life = life; place = place; read = read; raw = raw; at = at });
      in_life = refl;
      settled = both.0;
      other = λ same. never (subst (λ (b : Bool). not b ≡ true) (eq-eqb write.raw raw (sym same)) both.1);
    }

freed_is_seen : (reply : Reply) → is_freed reply ≡ true → is_seen reply ≡ true
freed_is_seen (replies.Freed count reserved) is = refl
freed_is_seen _ is = absurd (never is)

-- an entry that ends a write and doesn't give it back is a look that frees it
freed_by : (rules : Rules) (life place : ℕ) (before : List Entry) (call : Call) (reply : Reply) (write : writes.Write) → ends_by rules before call reply write ≡ true → gives_back call reply write ≡ false → FreedBy rules life write (sight_by life place before call reply)
freed_by rules life place before (calls.Back at inverter link number) reply write is kept = absurd (never (sym kept ∙ is))
freed_by rules life place before (calls.Saw at inverter number raw) reply write is kept =
    let both = and_parts (is_freed reply) (frees rules (pending_read inverter before) raw write) is in
    rw (freed_is_seen reply both.0) (freed_by_pending rules life place (pending_read inverter before) raw at write both.1)
freed_by rules life place before _ reply write is kept = absurd (never is)

pub or_false_parts : (a b : Bool) → (a || b) ≡ false → (a ≡ false) × (b ≡ false)
or_false_parts true b is = absurd (never (sym is))
or_false_parts false b is = (refl, is)

-- the same for the later entries
freed_later : (rules : Rules) (life place : ℕ) (before later : List Entry) (write : writes.Write) → ends_later rules before later write ≡ true → is_given_back later write ≡ false → FreedBy rules life write (life_sights life place before later)
unfolding ends_later
freed_later rules life place before [] write is kept = absurd (never is)
freed_later rules life place before (entry ∷ later) write is kept =
    let back = or_false_parts (gives_back entry.call entry.reply write) (is_given_back later write) kept in
    let here = sight_by life place before entry.call entry.reply in
    let behind = life_sights life (place + 1) (before ++ entry ∷ []) later in
    elim (or_cases (ends rules before entry write) (ends_later rules (before ++ entry ∷ []) later write) is) [
      | inl first ↦ freed_among rules life write here (here ++ behind) (λ sight within. Contains-append_left here behind sight within) (freed_by rules life place before entry.call entry.reply write first back.0)
      | inr rest ↦ freed_among rules life write behind (here ++ behind) (λ sight within. Contains-append_right here behind sight within) (freed_later rules life (place + 1) (before ++ entry ∷ []) later write rest back.1)
    ]

-- an element of a filtered list is one of the list, and passes
pub record Passes {X : Type 0} (p : X → Bool) (xs : List X) (x : X) : Type 0 where
  pub within : Contains xs x
  pub passes : p x ≡ true

pub Contains-filter : {X : Type 0} (p : X → Bool) (xs : List X) (x : X) → Contains (filter p xs) x → Passes p xs x
Contains-filter p [] x within = absurd (omega (arith, within.1))
Contains-filter p (y ∷ xs) x within =
    elim (cases_Bool (p y)) [
      | inl passes ↦
          let more = rw passes at within in
          elim (Contains-append_cases (y ∷ []) (filter p xs) x more) [
            | inl here ↦ let same = only_element y x here in
                record { within = subst (λ z. Contains (y ∷ xs) z) same (Contains-append_left (y ∷ []) xs y (Contains-push [] y)); passes = subst (λ z. p z ≡ true) same passes }
            | inr later ↦ let rest = Contains-filter p xs x later in record { within = Contains-append_right (y ∷ []) xs x rest.within; passes = rest.passes }
          ]
      | inr fails ↦ let less = rw fails at within in let rest = Contains-filter p xs x less in
          record { within = Contains-append_right (y ∷ []) xs x rest.within; passes = rest.passes }
    ]

-- what passes stays in a filtered list
pub Contains-filtered : {X : Type 0} (p : X → Bool) (xs : List X) (x : X) → Contains xs x → p x ≡ true → Contains (filter p xs) x
Contains-filtered p [] x within passes = absurd (omega (arith, within.1))
Contains-filtered p (y ∷ xs) x within passes =
    elim (Contains-append_cases (y ∷ []) xs x within) [
      | inl here ↦
          let same = only_element y x here in
          let first : p y ≡ true = subst (λ z. p z ≡ true) (sym same) passes in
          rw first (subst (λ z. Contains (y ∷ filter p xs) z) same (Contains-append_left (y ∷ []) (filter p xs) y (Contains-push [] y)))
      | inr later ↦ elim (cases_Bool (p y)) [
        | inl more ↦ rw more (Contains-append_right (y ∷ []) (filter p xs) x (Contains-filtered p xs x later passes))
        | inr fails ↦ rw fails (Contains-filtered p xs x later passes)
      ]
    ]

-- a grant made of a list of writes is of one of them
record MadeOf (life place : ℕ) (its : List writes.Write) (grant : Grant) : Type 0 where
  within : Contains its grant.write
  in_life : grant.life ≡ life

made_of : (life place : ℕ) (its : List writes.Write) (grant : Grant) → Contains (map (λ (write : writes.Write). record { life = life; place = place; write = write }) its) grant → MadeOf life place its grant
made_of life place [] grant within = absurd (omega (arith, within.1))
made_of life place (write ∷ its) grant within =
    elim (Contains-append_cases (record { life = life; place = place; write = write } ∷ []) _ grant within) [
      | inl here ↦
          let same = only_element _ grant here in
          record {
            within = subst (λ (g : Grant). Contains (write ∷ its) g.write) same (Contains-append_left (write ∷ []) its write (Contains-push [] write));
            in_life = subst (λ (g : Grant). g.life ≡ life) same refl;
          }
      | inr later ↦ let rest = made_of life place its grant later in record { within = Contains-append_right (write ∷ []) its grant.write rest.within; in_life = rest.in_life }
    ]

-- what became of a grant of a life's entries that wasn't given back
pub record Fate (rules : Rules) (life place : ℕ) (before later : List Entry) (grant : Grant) : Type 0 where
  pub in_life : grant.life ≡ life
  pub is : Contains (standing rules before later) grant.write ⊎ FreedBy rules life grant.write (life_sights life place before later)

not_false : (b : Bool) → not b ≡ true → b ≡ false
not_false true is = absurd (never is)
not_false false is = refl

fate_here : (rules : Rules) (life place : ℕ) (before : List Entry) (entry : Entry) (later : List Entry) (grant : Grant)
    → Contains (map (λ (write : writes.Write). record { life = life; place = place; write = write }) (filter (λ write. not (is_given_back later write)) (grant_of entry))) grant
    → Fate rules life place before (entry ∷ later) grant
unfolding standing
fate_here rules life place before entry later grant within =
    let made = made_of life place (filter (λ write. not (is_given_back later write)) (grant_of entry)) grant within in
    let kept = Contains-filter (λ write. not (is_given_back later write)) (grant_of entry) grant.write made.within in
    let through = before ++ entry ∷ [] in
    elim (cases_Bool (ends_later rules through later grant.write)) [
      | inl ended ↦
          let freed = freed_later rules life (place + 1) through later grant.write ended (not_false (is_given_back later grant.write) kept.passes) in
          let here = sight_by life place before entry.call entry.reply in
          record { in_life = made.in_life; is = inr (freed_among rules life grant.write (life_sights life (place + 1) through later) (here ++ life_sights life (place + 1) through later) (λ sight in_them. Contains-append_right here (life_sights life (place + 1) through later) sight in_them) freed) }
      | inr stays ↦
          let passes : not (ends_later rules through later grant.write) ≡ true = ap not stays in
          record {
            in_life = made.in_life;
            is = inl (Contains-append_left (filter (λ write. not (ends_later rules through later write)) (grant_of entry)) (standing rules through later) grant.write
                (Contains-filtered (λ write. not (ends_later rules through later write)) (grant_of entry) grant.write kept.within passes));
          }
    ]

pub life_fate : (rules : Rules) (life place : ℕ) (before later : List Entry) (grant : Grant) → Contains (life_grants life place later) grant → Fate rules life place before later grant
unfolding standing
life_fate rules life place before [] grant within = absurd (omega (arith, within.1))
life_fate rules life place before (entry ∷ later) grant within =
    let through = before ++ entry ∷ [] in
    let stays = filter (λ write. not (ends_later rules through later write)) (grant_of entry) in
    let here = sight_by life place before entry.call entry.reply in
    elim (Contains-append_cases _ (life_grants life (place + 1) later) grant within) [
      | inl first ↦ fate_here rules life place before entry later grant first
      | inr rest ↦
          let fate = life_fate rules life (place + 1) through later grant rest in
          record {
            in_life = fate.in_life;
            is = elim fate.is [
              | inl stands ↦ inl (Contains-append_right stays (standing rules through later) grant.write stands)
              | inr freed ↦ inr (freed_among rules life grant.write (life_sights life (place + 1) through later) (here ++ life_sights life (place + 1) through later) (λ sight in_them. Contains-append_right here (life_sights life (place + 1) through later) sight in_them) freed)
            ];
          }
    ]
