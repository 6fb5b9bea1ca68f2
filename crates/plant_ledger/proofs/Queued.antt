-- What the queue of grants tells of the accounts.
use Rattle.std.proofs.Common.{◌≡◌, ◌≢◌, ◌⊎◌, ℕ, ◌+◌, ◌<◌, ◌≤◌, Bool, true, false, cond, not, ◌&&◌, ◌||◌, eqb, List, [], ◌∷◌, length, get_or, map, Some, None, refl, sym, ap, subst, ◌∙◌, arith, inl, inr}
use Rattle.std.specs.Prelude.{filter, slice_set}
use Rattle.std.specs.List.{All, list_any}
use Rattle.std.proofs.lemmas.Bool.{cases_Bool, cases_eq, cases_lt, and_parts, eqb-true, ne_eqb, lt-ltb, le-ltb}
use Rattle.std.proofs.lemmas.List.{get_or-set_same, get_or-set_other}
use Rattle.std.proofs.lemmas.List.Elements.{All-head, All-tail, All-weaker, All-filter, filter_passes}
use Rattle.std.proofs.Math.Seq.{map-set_same}
use Rattle.limiter_num.specs.declared.rules.Rules.{Rules}
use Rattle.limiter_num.specs.Timers.{reach, last_moment}
use Rattle.plant_book.specs.declared.call.Write as writes
use Rattle.revert_timers.specs.declared.expiries.Due.{Due}
use Rattle.revert_timers.specs.Expiries.{first_past}
use Rattle.revert_timers.specs.Expiries as dues
use Rattle.uncertain_writes.specs.Live.{is_past}
use Rattle.uncertain_writes.proofs.Lists.{filter-filter}
use Rattle.plant_ledger.specs.Account.{Account, AreFrom}
use Rattle.plant_ledger.specs.Ledger.{account_at}
use Rattle.plant_ledger.specs.Queue.{is_due, HavePlaces}

-- what the elements that pass have by the test too
all_filter : {X : Type 0} (p : X → Bool) (P Q : X → Type 0) → ((x : X) → p x ≡ true → P x → Q x) → (xs : List X) → All P xs → All Q (filter p xs)
all_filter p P Q also xs all = λ k d within. also _ (filter_passes p xs k d within) (All-filter p P xs all k d within)

-- a write that has its place in a queue has it in the queue without another's
module _ (rules : Rules) (now : ℕ) (due : Due) (rest : List Due) (inverter : ℕ) (write : writes.Write) where
  behind : is_due rules inverter write due ≡ false → list_any (is_due rules inverter write) (due ∷ rest) ≡ true → list_any (is_due rules inverter write) rest ≡ true
  behind other found = sym (ap (λ (b : Bool). b || list_any (is_due rules inverter write) rest) other) ∙ found

  pub behind_other : due.inverter ≢ inverter → list_any (is_due rules inverter write) (due ∷ rest) ≡ true → list_any (is_due rules inverter write) rest ≡ true
  behind_other apart is = behind (ap (λ (b : Bool). b && eqb due.last (last_moment rules write.at)) (ne_eqb due.inverter inverter apart)) is

  pub behind_past : due.last < now → not (is_past rules now write) ≡ true → list_any (is_due rules inverter write) (due ∷ rest) ≡ true → list_any (is_due rules inverter write) rest ≡ true
  behind_past past stays is =
      elim (cases_Bool (is_due rules inverter write due)) [
        | inl its ↦
            let last = eqb-true due.last (last_moment rules write.at) (and_parts (eqb due.inverter inverter) (eqb due.last (last_moment rules write.at)) its).1 in
            let gone = lt-ltb (last_moment rules write.at) now (omega (arith, past, last)) in
            absurd (let both : false ≡ true = sym (ap not gone) ∙ stays in cc)
        | inr other ↦ behind other is
      ]

-- what is past goes once
at_twice : (rules : Rules) (now : ℕ) (account : Account) → account_at rules now (account_at rules now account) ≡ account_at rules now account
at_twice rules now account =
    let stays = λ (write : writes.Write). not (is_past rules now write) in
    ap (λ (its : List writes.Write). record account { live = its }) (filter-filter stays stays stays (λ write. both_same (stays write)) account.live)
  where
    both_same : (b : Bool) → b ≡ (b && b)
    both_same true = refl
    both_same false = refl

-- accounts of which one dropped what is past are the same at that moment
pub expired_same : (rules : Rules) (now place : ℕ) (accounts others : List Account) → (length accounts ≤ place → others ≡ accounts)
    → ((otherwise : Account) → place < length accounts → others ≡ slice_set accounts place (account_at rules now (get_or accounts place otherwise)))
    → map (account_at rules now) others ≡ map (account_at rules now) accounts
expired_same rules now place [] others same changed = ap (map (account_at rules now)) (same (omega arith))
expired_same rules now place (first ∷ later) others same changed =
    let at = account_at rules now in
    let accounts = first ∷ later in
    elim (cases_lt place (length accounts)) [
      | inl lt ↦ ap (map at) (changed first lt) ∙ map-set_same at accounts place (at (get_or accounts place first)) first (at_twice rules now (get_or accounts place first))
      | inr le ↦ ap (map at) (same le)
    ]

-- and their writes have their places in the queue without the one that was at its front
module _ (rules : Rules) (now place : ℕ) (accounts others : List Account) (count : length others ≡ length accounts)
    (same : length accounts ≤ place → others ≡ accounts)
    (changed : (otherwise : Account) → place < length accounts → others ≡ slice_set accounts place (account_at rules now (get_or accounts place otherwise))) where
  expired_own : (inverter : ℕ) (otherwise : Account) → inverter ≡ place → inverter < length accounts
      → get_or others inverter otherwise ≡ account_at rules now (get_or accounts inverter otherwise)
  expired_own inverter otherwise is within =
      let at = λ (i : ℕ). account_at rules now (get_or accounts i otherwise) in
      ap (λ (i : ℕ). get_or others i otherwise) is
      ∙ ap (λ (all : List Account). get_or all place otherwise) (changed otherwise (omega (arith, is, within)))
      ∙ get_or-set_same accounts place (at place) otherwise (omega (arith, is, within))
      ∙ ap at (sym is)

  expired_other : (inverter : ℕ) (otherwise : Account) → inverter ≢ place → get_or others inverter otherwise ≡ get_or accounts inverter otherwise
  expired_other inverter otherwise apart =
      elim (cases_lt place (length accounts)) [
        | inl lt ↦ ap (λ (all : List Account). get_or all inverter otherwise) (changed otherwise lt)
            ∙ get_or-set_other accounts place inverter (account_at rules now (get_or accounts place otherwise)) otherwise apart
        | inr le ↦ ap (λ (all : List Account). get_or all inverter otherwise) (same le)
      ]

  pub places_next : (due : Due) (rest : List Due) → due.inverter ≡ place → due.last < now → HavePlaces rules (due ∷ rest) accounts → HavePlaces rules rest others
  places_next due rest at past queued inverter otherwise within =
      let below : inverter < length accounts = omega (arith, within, count) in
      let old = queued inverter otherwise below in
      let its = (get_or accounts inverter otherwise).live in
      let P : writes.Write → Type 0 = λ write. list_any (is_due rules inverter write) (due ∷ rest) ≡ true in
      let Q : writes.Write → Type 0 = λ write. list_any (is_due rules inverter write) rest ≡ true in
      elim (cases_eq inverter place) [
        | inl is ↦ subst (λ (account : Account). All Q account.live) (sym (expired_own inverter otherwise is below))
            (all_filter (λ (write : writes.Write). not (is_past rules now write)) P Q (λ write stays was. behind_past rules now due rest inverter write past stays was) its old)
        | inr apart ↦ subst (λ (account : Account). All Q account.live) (sym (expired_other inverter otherwise apart))
            (All-weaker P Q (λ write was. behind_other rules now due rest inverter write (λ is. apart (sym is ∙ at)) was) its old)
      ]

-- what is taken from the front of a queue is past
pub front_past : (now : ℕ) (due : Due) (rest queue : List Due) → queue ≡ due ∷ rest → Some due ≡ first_past now queue → due.last < now
front_past now due rest queue is popped =
    elim (cases_lt due.last now) [
      | inl lt ↦ lt
      | inr le ↦ absurd (let none : Some due ≡ None = popped ∙ ap (first_past now) is ∙ ap (λ (b : Bool). cond b (Some due) None) (le-ltb due.last now le) in cc)
    ]

-- where nothing in the queue is past, no write is
last_of : (rules : Rules) (now inverter : ℕ) (write : writes.Write) (queue : List Due) → list_any (is_due rules inverter write) queue ≡ true
    → All (λ due. now ≤ due.last) queue → now ≤ last_moment rules write.at
last_of rules now inverter write [] found later = absurd cc
last_of rules now inverter write (due ∷ rest) found later =
    elim (cases_Bool (is_due rules inverter write due)) [
      | inl its ↦
          let last = eqb-true due.last (last_moment rules write.at) (and_parts (eqb due.inverter inverter) (eqb due.last (last_moment rules write.at)) its).1 in
          omega (arith, last, All-head (λ (d : Due). now ≤ d.last) due rest later)
      | inr other ↦ last_of rules now inverter write rest (sym (ap (λ (b : Bool). b || list_any (is_due rules inverter write) rest) other) ∙ found)
          (All-tail (λ (d : Due). now ≤ d.last) due rest later)
    ]

pub queued_from : (rules : Rules) (now oldest : ℕ) (queue : List Due) (accounts : List Account) → HavePlaces rules queue accounts
    → All (λ due. now ≤ due.last) queue → oldest + reach rules ≤ now ⊎ (oldest ≡ 0) → All (λ account. AreFrom oldest account.live) accounts
queued_from rules now oldest queue accounts queued later low =
    λ inverter otherwise within.
    All-weaker (λ (write : writes.Write). list_any (is_due rules inverter write) queue ≡ true) (λ (write : writes.Write). oldest ≤ write.at) (λ write is. from inverter write is low)
    (get_or accounts inverter otherwise).live (queued inverter otherwise within)
  where
    from : (inverter : ℕ) (write : writes.Write) → list_any (is_due rules inverter write) queue ≡ true → oldest + reach rules ≤ now ⊎ (oldest ≡ 0) → oldest ≤ write.at
    from inverter write is (inr zero) = omega (arith, zero)
    from inverter write found (inl bound) = omega (arith, bound, last_of rules now inverter write queue found later)

-- an entry at the front that is past isn't among those that stay
pub behind_front : (now : ℕ) (due : Due) (rest queue : List Due) → queue ≡ due ∷ rest → due.last < now
    → filter (λ d. not (dues.is_past now d)) rest ≡ filter (λ d. not (dues.is_past now d)) queue
behind_front now due rest queue is past =
    sym (ap (filter (λ (d : Due). not (dues.is_past now d))) is ∙ ap (λ (b : Bool). cond (not b) (due ∷ filter (λ (d : Due). not (dues.is_past now d)) rest) (filter (λ (d : Due). not (dues.is_past now d)) rest)) (lt-ltb due.last now past))
