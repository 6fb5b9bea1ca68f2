-- No link has more than 65,535 requests.
use Rattle.std.proofs.Common.{◌≡◌, ℕ, ◌+◌, ◌<◌, ◌≤◌, true, List, [], ◌∷◌, ◌++◌, refl, sym, subst, ◌∙◌, append_assoc, arith, inl, inr}
use Rattle.std.proofs.lemmas.List.{append-nil}
use Rattle.std.proofs.lemmas.Bool.{cases_Bool, eqb-true}
use Rattle.plant_book.specs.declared.call.Call.{Call}
use Rattle.plant_book.specs.declared.call.Reply.{Reply}
use Rattle.plant_book.specs.declared.call.Reply.TheVariants as replies
use Rattle.plant_book.specs.declared.call.TheConstants.{REQUESTS_MAX}
use Rattle.plant_book.specs.declared.book.Entry.{Entry}
use Rattle.plant_book.specs.Book.{BookRecord}
use Rattle.plant_book.specs.Requests.{is_link, is_request, grants_to, requests}
use Rattle.plant_book.specs.Answer.{reply_to}
use Rattle.plant_book.specs.Answered.{EachInTurn, IsAnswer, IsBook, with_entries}
use Rattle.plant_book.proofs.Steps.{requests-push_link, requests-push}
use Rattle.plant_book.proofs.Granting.{granted_is_covered}
use Rattle.plant_book.proofs.Numbers.{read_is_at}

-- an entry that makes a request finds one left
request_left : (inverter : ℕ) (book : BookRecord) (call : Call) (reply : Reply) → reply ≡ reply_to book call → grants_to inverter reply ≡ true → requests inverter book.entries < REQUESTS_MAX
request_left inverter book call (replies.Granted write) right request =
    subst (λ (i : ℕ). requests i book.entries < REQUESTS_MAX) (eqb-true write.inverter inverter request) (granted_is_covered book call write (sym right)).left
request_left inverter book call (replies.ReadAs read) right request =
    subst (λ (i : ℕ). requests i book.entries < REQUESTS_MAX) (eqb-true read.inverter inverter request) (read_is_at book call read (sym right)).left
request_left inverter book call _ right request = absurd cc

module _ (book : BookRecord) (inverter : ℕ) where
  -- one more entry keeps them few
  few-push : (before : List Entry) (entry : Entry) → requests inverter before ≤ 65535 → IsAnswer book before entry → requests inverter (before ++ entry ∷ []) ≤ 65535
  few-push before entry few right =
      elim (cases_Bool (is_link inverter entry)) [
        | inl link ↦ omega (arith, requests-push_link inverter before entry link)
        | inr other ↦ elim (cases_Bool (is_request inverter entry)) [
          | inl request ↦
              let more : requests inverter (before ++ entry ∷ []) ≡ requests inverter before + 1 = requests-push inverter before entry other ∙ rw request refl in
              omega (arith, more, request_left inverter (with_entries book before) entry.call entry.reply right request)
          | inr none ↦
              let same : requests inverter (before ++ entry ∷ []) ≡ requests inverter before + 0 = requests-push inverter before entry other ∙ rw none refl in
              omega (arith, same, few)
        ]
      ]

  few_along : (before later : List Entry) → requests inverter before ≤ 65535 → EachInTurn (IsAnswer book) before later → requests inverter (before ++ later) ≤ 65535
  few_along before [] few each = subst (λ (es : List Entry). requests inverter es ≤ 65535) (sym (append-nil before)) few
  few_along before (entry ∷ later) few each =
      subst (λ (es : List Entry). requests inverter es ≤ 65535) (append_assoc before (entry ∷ []) later)
      (few_along (before ++ entry ∷ []) later (few-push before entry few each.0) each.1)

  pub requests_few : IsBook book → requests inverter book.entries ≤ 65535
  unfolding requests
  requests_few kept = few_along [] book.entries (omega arith) kept.answered
