-- What links and restarts of a simulated plant, and whole steps, make of what its inverters did so far.
use Rattle.std.proofs.Common.{◌≡◌, ℕ, zero, suc, ◌+◌, ◌≤◌, List, [], ◌∷◌, ◌++◌, length, Some, refl, sym, ap, subst, ◌∙◌, add-one, arith, inr}
use Rattle.std.specs.Prelude.{slice_get}
use Rattle.std.proofs.lemmas.Bool.{ne_eqb}
use Rattle.std.proofs.lemmas.List.{length_push}
use Rattle.plant_book.specs.declared.call.Call.TheVariants as calls
use Rattle.plant_book.specs.declared.book.Entry.{Entry}
use Rattle.plant_book.specs.Sums.{last_that}
use Rattle.plant_book.specs.Book.{BookRecord}
use Rattle.plant_book.specs.Calls.{latest}
use Rattle.plant_book.specs.Requests.{link_number}
use Rattle.plant_book.specs.Reserved.{now_of}
use Rattle.plant_book.specs.Answer.{reply_to}
use Rattle.plant_book.specs.Answered.{with_entries}
use Rattle.plant_simulator.specs.Words.{draw}
use Rattle.plant_simulator.specs.World.{InverterRecord, World}
use Rattle.plant_simulator.specs.Inverter.{emptied, changed_at}
use Rattle.plant_simulator.specs.Call.{entry_in, with_entry, called}
use Rattle.plant_simulator.specs.Step.{drawn, changed, passed, line_of, relinked, linked, next_life, restarted, ticked, happened, stepped}
use Rattle.plant_simulator.proofs.Ready.{is_linked, linked_more}
use Rattle.plant_simulator.proofs.Follows.{Follows}
use Rattle.plant_simulator.proofs.Acting.{is_emptied, follows_link, follows_next}
use Rattle.plant_simulator.proofs.Plants.{is_mapped, IsAt, Each, each_drawn, each_passed, at, at_now, each_entered, each_one, no_sights, Leads, leads_if, goes_on, leads_asked, leads_read_back, leads_wished, leads_tick}
use Rattle.plant_simulator.proofs.Happenings.{changed_none, leads_by_line, leads_came_late}

line_emptied : (life : ℕ) (its : InverterRecord) → (emptied life its).line ≡ []
unfolding emptied
line_emptied life its = refl

module _ (earlier : List BookRecord) (world : World) (is : Each earlier world) (number : ℕ) where
  abbrev link_entry : Entry
  link_entry = record { call = calls.Link (at earlier world is) number; reply = reply_to world.book (calls.Link (at earlier world is) number) }

  abbrev link_book : BookRecord
  link_book = with_entries world.book (world.book.entries ++ link_entry ∷ [])

  -- a Link of an inverter, whose line is empty then
  each_link : (granted freed : ℕ) (change : InverterRecord → InverterRecord) (bound : ℕ) → bound ≤ link_number number world.book.entries + 1
      → ((its : InverterRecord) → slice_get world.inverters number ≡ Some its → IsAt earlier world.book number world.moment its → Follows earlier world.book number world.moment bound (change its) × ((change its).line ≡ []))
      → Each earlier (record world { book = link_book; granted = granted; freed = freed; inverters = changed_at number change world.inverters })
  each_link granted freed change bound narrow own =
      each_entered earlier world is link_entry (λ write. refl) refl refl (at_now earlier world is) granted freed (changed_at number change world.inverters)
      (each_one earlier world is link_entry (λ write. refl) refl refl (at_now earlier world is) number change (λ i other. ne_eqb number i (λ same. other (sym same))) (λ i other sight within mine. no_sights earlier sight within)
      (λ its found was.
      let facts = own its found was in
      follows_link earlier world.book number world.moment bound (at earlier world is) link_entry.reply refl (omega (arith, at_now earlier world is)) narrow (change its) facts.0 facts.1))

  -- a new link: what is on its way is old
  pub leads_relinked : Leads earlier world.book (relinked number world)
  unfolding relinked called with_entry entry_in
  leads_relinked =
      let after = called (calls.Link world.moment number) (changed number (emptied world.life) world) in
      let old : (its : InverterRecord) → slice_get world.inverters number ≡ Some its → IsAt earlier world.book number world.moment its → Follows earlier world.book number world.moment (link_number number world.book.entries + 1) (emptied world.life its) × ((emptied world.life its).line ≡ []) =
      λ its found was.
      (subst (λ (life : ℕ). Follows earlier world.book number world.moment (link_number number world.book.entries + 1) (emptied life its)) (sym is.life) (is_emptied earlier world.book number world.moment was.timed its was.follows), line_emptied world.life its) in
      goes_on earlier world.book (relinked number world) (each_link after.granted after.freed (emptied world.life) (link_number number world.book.entries + 1) (omega arith) old) refl refl

-- a plant to whose inverters nothing of a link is on its way
pub record Quiet (earlier : List BookRecord) (world : World) : Type 0 where
  pub each : Each earlier world
  pub empty : (i : ℕ) (its : InverterRecord) → slice_get world.inverters i ≡ Some its → its.line ≡ []

module _ (earlier : List BookRecord) where
  quiet_link : (number : ℕ) (world : World) → Quiet earlier world → Quiet earlier (called (calls.Link world.moment number) world)
  unfolding called with_entry entry_in
  quiet_link number world quiet =
      let after = called (calls.Link world.moment number) world in
      record {
        each = subst (λ (xs : List InverterRecord). Each earlier (record world { book = link_book earlier world quiet.each number; granted = after.granted; freed = after.freed; inverters = xs })) (changed_none number world.inverters)
            (each_link earlier world quiet.each number after.granted after.freed (λ its. its) (link_number number world.book.entries) (omega arith) (λ its found was. (was.follows, quiet.empty number its found)));
        empty = quiet.empty;
      }

  -- the first inverters get their Links
  pub quiet_linked : (count : ℕ) (world : World) → Quiet earlier world → Quiet earlier (linked count world)
  unfolding linked
  quiet_linked zero world quiet = quiet
  quiet_linked (suc count) world quiet =
      subst (Quiet earlier) (linked_more count world ∙ ap (λ (n : ℕ). linked n world) (add-one count)) (quiet_link count (linked count world) (quiet_linked count world quiet))

module _ (earlier : List BookRecord) where
  -- the next life begins
  quiet_next : (world : World) → Each earlier world → Quiet (earlier ++ world.book ∷ []) (next_life world)
  unfolding now_of latest last_that
  quiet_next world is = record {
    each = record {
      life = omega (arith, is.life, length_push earlier world.book);
      time = omega arith;
      plain = refl;
      each = λ i new found.
          let place = is_mapped world.inverters (emptied world.life) i new found in
          let was = is.each i place.its place.was in
          let next = (next_life world).book in
          record {
            timed = was.timed;
            follows = subst (λ (its : InverterRecord). Follows (earlier ++ world.book ∷ []) next i world.moment (link_number i next.entries) its) (sym place.is)
                (follows_next earlier world.book next i world.moment (link_number i world.book.entries + 1) refl refl (emptied world.life place.its)
                (subst (λ (life : ℕ). Follows earlier world.book i world.moment (link_number i world.book.entries + 1) (emptied life place.its)) (sym is.life) (is_emptied earlier world.book i world.moment was.timed place.its was.follows))
                (line_emptied world.life place.its));
          };
    };
    empty = λ i new found. let place = is_mapped world.inverters (emptied world.life) i new found in ap (λ (its : InverterRecord). its.line) place.is ∙ line_emptied world.life place.its;
  }

  leads_restarted : (world : World) → Each earlier world → Leads earlier world.book (restarted world)
  unfolding restarted
  leads_restarted world is =
      let facts = is_linked (length world.inverters) (next_life world) in
      let quiet = quiet_linked (earlier ++ world.book ∷ []) (length world.inverters) (next_life world) (quiet_next world is) in
      record { is = inr (record { each = quiet.each; site = facts.site; start = omega (arith, facts.start, is.time) }) }

  leads_ticked : (world : World) → Each earlier world → Leads earlier world.book (ticked world)
  unfolding ticked
  leads_ticked world is =
      let some = each_drawn earlier 1 world is in
      leads_if earlier world.book _ _ _ (leads_restarted (drawn 1 world) some) (leads_tick earlier (drawn 1 world) some)

  leads_happened : (kind number : ℕ) (world : World) → Each earlier world → Leads earlier world.book (happened kind number world)
  unfolding happened
  leads_happened kind number world is =
      leads_if earlier world.book _ _ _ (leads_asked earlier number world is)
      (leads_if earlier world.book _ _ _ (leads_read_back earlier number world is)
      (leads_if earlier world.book _ _ _ (leads_by_line earlier number (line_of number world) world is refl)
      (leads_if earlier world.book _ _ _ (leads_came_late earlier number world is)
      (leads_if earlier world.book _ _ _ (leads_wished earlier number world is)
      (leads_if earlier world.book _ _ _ (leads_relinked earlier world is number) (leads_ticked world is))))))

  same_book : (world : World) → (passed world).book ≡ world.book
  unfolding passed
  same_book world = refl

  -- a whole step
  pub leads_stepped : (world : World) → Each earlier world → Leads earlier world.book (stepped world)
  unfolding stepped
  leads_stepped world is =
      let then = passed world in
      subst (λ (book : BookRecord). Leads earlier book (stepped world)) (same_book world)
      (leads_happened (draw 1 16 then.words) (draw 0 (length then.inverters) then.words) (drawn 2 then) (each_drawn earlier 2 then (each_passed earlier world is)))
