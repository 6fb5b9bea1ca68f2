-- What the replies to a Saw and a Back are by an inverter's account.
use Rattle.std.proofs.Common.{◌≡◌, ℕ, Bool, true, cond, not, eqb, leb, List, [], ◌∷◌, Option, refl, sym, ap, ◌∙◌, inl, inr}
use Rattle.std.specs.Prelude.{filter}
use Rattle.std.specs.List.{list_any}
use Rattle.std.proofs.lemmas.Bool.{cases_Bool, and_parts}
use Rattle.limiter_num.specs.declared.rules.Rules.{Rules}
use Rattle.limiter_num.specs.Timers.{last_moment}
use Rattle.plant_book.specs.declared.call.Reply.TheVariants as replies
use Rattle.plant_book.specs.declared.call.Write as writes
use Rattle.plant_book.specs.declared.call.Read as reads
use Rattle.plant_book.specs.declared.book.Entry.{Entry}
use Rattle.plant_book.specs.Book.{BookRecord}
use Rattle.plant_book.specs.Requests.{pending_read}
use Rattle.plant_book.specs.Writes.{is_numbered, is_current, standing, live}
use Rattle.plant_book.specs.Answer.{is_pending, reply_to_sight, reply_to_saw, reply_to_back}
use Rattle.uncertain_writes.specs.Live.{has_numbers}

-- tests that agree on what a filter leaves find the same there
list_any-filter : {X : Type 0} (p q left : X → Bool) → ((x : X) → left x ≡ true → p x ≡ q x) → (xs : List X) → list_any p (filter left xs) ≡ list_any q (filter left xs)
list_any-filter p q left same [] = refl
list_any-filter p q left same (x ∷ xs) =
    elim (cases_Bool (left x)) [
      | inl stays ↦ rw (stays, same x stays, list_any-filter p q left same xs) refl
      | inr goes ↦ rw goes (list_any-filter p q left same xs)
    ]

-- all live writes of an inverter are its own
pub numbered_live : (rules : Rules) (entries : List Entry) (now inverter link number : ℕ)
    → list_any (is_numbered inverter link number) (live rules entries now inverter) ≡ list_any (has_numbers link number) (live rules entries now inverter)
unfolding live
numbered_live rules entries now inverter link number =
    list_any-filter (is_numbered inverter link number) (has_numbers link number) (is_current rules now inverter)
    (λ write is. let own = (and_parts (eqb write.inverter inverter) (leb now (last_moment rules write.at)) is).0 in rw own refl) (standing rules [] entries)

-- the reply to a Saw by the pending read
pub reply_to_saw-is : (book : BookRecord) (now inverter number raw : ℕ) (pending : Option reads.Read) → pending ≡ pending_read inverter book.entries
    → reply_to_saw book now inverter number raw
    ≡ cond (not (is_pending pending number)) replies.NoRead (reply_to_sight book.site inverter pending raw (live book.site.rules book.entries now inverter))
unfolding reply_to_saw
reply_to_saw-is book now inverter number raw pending is = rw is refl

-- the reply to a Back by the live writes
pub reply_to_back-is : (book : BookRecord) (now inverter link number : ℕ) (its : List writes.Write) → its ≡ live book.site.rules book.entries now inverter
    → reply_to_back book now inverter link number ≡ cond (list_any (has_numbers link number) its) replies.Taken replies.NoWrite
unfolding reply_to_back
reply_to_back-is book now inverter link number its is =
    ap (λ (b : Bool). cond b replies.Taken replies.NoWrite) (numbered_live book.site.rules book.entries now inverter link number ∙ ap (list_any (has_numbers link number)) (sym is))
