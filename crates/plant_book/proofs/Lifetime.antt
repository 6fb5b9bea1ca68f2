-- What one more entry makes of the live writes and of what is reserved.
use Rattle.std.proofs.Common.{◌≡◌, ℕ, ◌+◌, ◌≤◌, Bool, true, false, cond, not, ◌&&◌, eqb, leb, List, [], ◌∷◌, ◌++◌, refl, sym, ap, ◌∙◌, arith, inl, inr}
use Rattle.std.specs.Prelude.{filter}
use Rattle.std.proofs.lemmas.Bool.{cases_Bool, le-leb, leb-true}
use Rattle.std.proofs.lemmas.List.{append-nil}
use Rattle.limiter_num.specs.declared.rules.Rules.{Rules}
use Rattle.limiter_num.specs.Timers.{reach}
use Rattle.plant_book.specs.declared.call.Call.{Call}
use Rattle.plant_book.specs.declared.call.Call.TheVariants as calls
use Rattle.plant_book.specs.declared.call.Reply.{Reply}
use Rattle.plant_book.specs.declared.call.Reply.TheVariants as replies
use Rattle.plant_book.specs.declared.call.Write as writes
use Rattle.plant_book.specs.declared.book.Entry.{Entry}
use Rattle.plant_book.specs.Book.{BookRecord}
use Rattle.plant_book.specs.Calls.{moment, latest}
use Rattle.plant_book.specs.Writes.{grant_of, granted, ends, ends_by, standing, is_current, live}
use Rattle.plant_book.specs.Reserved.{covering, reserved_at, reserved, now_of}
use Rattle.plant_book.specs.Answered.{IsAnswer, with_entries}
use Rattle.plant_book.specs.Lifetime.{is_refusal, left_after, granted_to, LiveOn, ChangesNothing}
use Rattle.plant_book.proofs.Steps.{latest-push}
use Rattle.plant_book.proofs.Standing.{standing-push, filter_all_pass}
use Rattle.plant_book.proofs.Rest.{filter-swap}
use Rattle.plant_book.proofs.Granting.{granted_is_covered}
use Rattle.plant_book.proofs.Cap.{live-push, grant_cases}

-- two filters are one
pub filter-both : {X : Type 0} (p q r : X → Bool) → ((x : X) → (q x && p x) ≡ r x) → (xs : List X) → filter p (filter q xs) ≡ filter r xs
filter-both p q r same [] = refl
filter-both p q r same (x ∷ xs) =
    elim (cases_Bool (q x)) [
      | inl passes ↦ let is : p x ≡ r x = rw passes at (same x) in rw (passes, is) (ap (λ (ys : List _). cond (r x) (x ∷ ys) ys) (filter-both p q r same xs))
      | inr fails ↦ let is : false ≡ r x = rw fails at (same x) in rw (fails, ← is) (filter-both p q r same xs)
    ]

-- current at two moments is current at the later one
pub current_both : (rules : Rules) (old new inverter : ℕ) (write : writes.Write) → old ≤ new
    → ((eqb write.inverter inverter && leb old (write.at + reach rules)) && leb new (write.at + reach rules)) ≡ (eqb write.inverter inverter && leb new (write.at + reach rules))
current_both rules old new inverter write le =
    elim (cases_Bool (leb new (write.at + reach rules))) [
      | inl now ↦ rw (now, le-leb old (write.at + reach rules) (omega (arith, leb-true new (write.at + reach rules) now))) (and_true (eqb write.inverter inverter && true))
      | inr past ↦ rw past (and_false (eqb write.inverter inverter) (leb old (write.at + reach rules)))
    ]
  where
    and_true : (a : Bool) → (a && true) ≡ a
    and_true true = refl
    and_true false = refl

    and_false : (a b : Bool) → ((a && b) && false) ≡ (a && false)
    and_false true true = refl
    and_false true false = refl
    and_false false b = refl

module _ (book : BookRecord) (before : List Entry) (entry : Entry) (right : IsAnswer book before entry) (later : latest book.start before ≤ moment entry.call) (inverter : ℕ) where
  -- what is left of the writes that were live
  left_live : filter (is_current book.site.rules (moment entry.call) inverter) (filter (λ write. not (ends book.site.rules before entry write)) (standing book.site.rules [] before))
      ≡ left_after book.site.rules before entry (live book.site.rules before (latest book.start before) inverter)
  unfolding live
  left_live =
      let rules = book.site.rules in
      let now = moment entry.call in
      let old = latest book.start before in
      let stays : writes.Write → Bool = λ write. not (ends rules before entry write) in
      let all = standing rules [] before in
      sym (ap (filter (λ (write : writes.Write). leb now (write.at + reach rules))) (filter-swap stays (is_current rules old inverter) all)
      ∙ filter-both (λ (write : writes.Write). leb now (write.at + reach rules)) (is_current rules old inverter) (is_current rules now inverter) (λ write. current_both rules old now inverter write later) (filter stays all))

  -- a grant is current at its own moment
  grant_current : filter (is_current book.site.rules (moment entry.call) inverter) (grant_of entry) ≡ granted_to inverter entry
  grant_current =
      elim (grant_cases entry.reply) [
        | inl grant ↦
            let write = grant.0 in
            let covered = granted_is_covered (with_entries book before) entry.call write (sym right ∙ grant.1) in
            let one : grant_of entry ≡ write ∷ [] = ap granted grant.1 in
            let now : leb (moment entry.call) (write.at + reach book.site.rules) ≡ true = le-leb (moment entry.call) (write.at + reach book.site.rules) (omega (arith, covered.at)) in
            ap (filter (is_current book.site.rules (moment entry.call) inverter)) one ∙ current_one write now ∙ sym (ap (filter (λ (w : writes.Write). eqb w.inverter inverter)) one)
        | inr none ↦ ap (filter (is_current book.site.rules (moment entry.call) inverter)) none ∙ sym (ap (filter (λ (w : writes.Write). eqb w.inverter inverter)) none)
      ]
    where
      and_true : (a : Bool) → (a && true) ≡ a
      and_true true = refl
      and_true false = refl

      current_one : (write : writes.Write) → leb (moment entry.call) (write.at + reach book.site.rules) ≡ true
          → filter (is_current book.site.rules (moment entry.call) inverter) (write ∷ []) ≡ filter (λ w. eqb w.inverter inverter) (write ∷ [])
      current_one write now = rw (now, and_true (eqb write.inverter inverter)) refl

  -- the live writes behind one more entry
  pub live-next : live book.site.rules (before ++ entry ∷ []) (moment entry.call) inverter
      ≡ left_after book.site.rules before entry (live book.site.rules before (latest book.start before) inverter) ++ granted_to inverter entry
  live-next =
      live-push book before entry (moment entry.call) (moment entry.call) (omega arith) inverter
      ∙ ap (λ (ws : List writes.Write). ws ++ filter (is_current book.site.rules (moment entry.call) inverter) (grant_of entry)) left_live
      ∙ ap (λ (ws : List writes.Write). left_after book.site.rules before entry (live book.site.rules before (latest book.start before) inverter) ++ ws) grant_current

-- a refused call ends no write and grants none
ends_none : (rules : Rules) (before : List Entry) (call : Call) (reply : Reply) (write : writes.Write) → is_refusal reply ≡ true → ends_by rules before call reply write ≡ false
ends_none rules before (calls.Back at inverter link number) reply write is = back reply is
  where
    back : (r : Reply) → is_refusal r ≡ true → ends_by rules before (calls.Back at inverter link number) r write ≡ false
    back replies.Taken is = absurd cc
    back _ is = refl
ends_none rules before (calls.Saw at inverter number raw) reply write is = saw reply is
  where
    saw : (r : Reply) → is_refusal r ≡ true → ends_by rules before (calls.Saw at inverter number raw) r write ≡ false
    saw (replies.Freed count reserved) is = absurd cc
    saw _ is = refl
ends_none rules before _ reply write is = refl

grants_none : (reply : Reply) → is_refusal reply ≡ true → granted reply ≡ []
grants_none (replies.Granted write) is = absurd cc
grants_none _ is = refl

module _ (book : BookRecord) (entry : Entry) (right : IsAnswer book book.entries entry) (later : now_of book ≤ moment entry.call) where
  pub lives_on : LiveOn book entry (with_entries book (book.entries ++ entry ∷ []))
  unfolding reserved_at now_of
  lives_on inverter =
      ap (λ (now : ℕ). covering book.site inverter (live book.site.rules (book.entries ++ entry ∷ []) now inverter)) (latest-push book.start book.entries entry)
      ∙ ap (covering book.site inverter) (live-next book book.entries entry right later inverter)

  -- an entry that ends no write and grants none changes no reservation beyond what is past by its moment
  pub unchanged : ((write : writes.Write) → ends book.site.rules book.entries entry write ≡ false) → granted entry.reply ≡ []
      → (inverter : ℕ) → reserved (with_entries book (book.entries ++ entry ∷ [])) inverter ≡ reserved_at book (moment entry.call) inverter
  unfolding reserved_at now_of live
  unchanged none_ended none_granted inverter =
      let rules = book.site.rules in
      let now = moment entry.call in
      let stay = filter_all_pass (λ (write : writes.Write). not (ends rules book.entries entry write)) (λ write. ap not (none_ended write)) (standing rules [] book.entries) in
      let same : standing rules [] (book.entries ++ entry ∷ []) ≡ standing rules [] book.entries =
      standing-push rules [] book.entries entry ∙ ap (λ (ws : List writes.Write). filter (λ write. not (ends rules book.entries entry write)) (standing rules [] book.entries) ++ ws) none_granted
      ∙ append-nil _ ∙ stay in
      ap (λ (at : ℕ). covering book.site inverter (filter (is_current rules at inverter) (standing rules [] (book.entries ++ entry ∷ [])))) (latest-push book.start book.entries entry)
      ∙ ap (λ (ws : List writes.Write). covering book.site inverter (filter (is_current rules now inverter) ws)) same

  pub changes_nothing : ChangesNothing book entry (with_entries book (book.entries ++ entry ∷ []))
  changes_nothing refused inverter =
      unchanged (λ write. ends_none book.site.rules book.entries entry.call entry.reply write refused) (grants_none entry.reply refused) inverter
