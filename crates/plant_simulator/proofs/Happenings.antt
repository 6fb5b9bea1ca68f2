-- What deliveries, links and restarts of a simulated plant make of what its inverters did so far.
use Rattle.std.proofs.Common.{◌≡◌, ℕ, zero, suc, ◌+◌, List, [], ◌∷◌, ◌++◌, length, Option, Some, None, refl, sym, ap, subst, ◌∙◌, arith, inl, inr}
use Rattle.std.specs.Prelude.{slice_get, Contains}
use Rattle.std.specs.Option.{option_map_or}
use Rattle.std.proofs.lemmas.Bool.{cases_Bool}
use Rattle.plant_book.specs.declared.call.Call.TheVariants as calls
use Rattle.plant_book.specs.declared.call.Write as writes
use Rattle.plant_book.specs.declared.call.Read as reads
use Rattle.plant_book.specs.declared.book.Entry.{Entry}
use Rattle.plant_book.specs.Book.{BookRecord}
use Rattle.plant_book.specs.Requests.{link_number, is_seen}
use Rattle.plant_book.specs.Answer.{reply_to, reply_to_saw}
use Rattle.plant_book.specs.Answered.{with_entries}
use Rattle.plant_book.specs.History.{Sight, sight_by}
use Rattle.plant_simulator.specs.declared.inverter.Request.{Request}
use Rattle.plant_simulator.specs.declared.inverter.Request.TheVariants as sent
use Rattle.plant_simulator.specs.declared.inverter.OldWrite.{OldWrite}
use Rattle.plant_simulator.specs.Words.{draw}
use Rattle.plant_simulator.specs.World.{InverterRecord, World, held_by}
use Rattle.plant_simulator.specs.Inverter.{holding, without_first, without_old, changed_at}
use Rattle.plant_simulator.specs.Call.{entry_in, with_entry, called}
use Rattle.plant_simulator.specs.Step.{drawn, changed, acted, delivered, line_of, reached, by_line, old_of, by_place, came_late}
use Rattle.plant_simulator.proofs.Longer.{number_of}
use Rattle.plant_simulator.proofs.Follows.{Follows}
use Rattle.plant_simulator.proofs.Acting.{acts_kept, acts_first, acts_late, loses_first}
use Rattle.plant_simulator.proofs.Calling.{saw_is_its, saw_nothing, saw_kept, saw_first}
use Rattle.plant_simulator.proofs.Plants.{changed_twice, IsAt, Each, each_drawn, each_changed, at, at_now, each_entered, each_one, Leads, leads_if, goes_on}

pub changed_none : (number : ℕ) (xs : List InverterRecord) → changed_at number (λ its. its) xs ≡ xs
changed_none number [] = refl
changed_none zero (x ∷ xs) = refl
changed_none (suc number) (x ∷ xs) = ap (λ (ys : List InverterRecord). x ∷ ys) (changed_none number xs)

-- the inverter whose line this is
record HasLine (number : ℕ) (world : World) (line : List Request) : Type 0 where
  its : InverterRecord
  found : slice_get world.inverters number ≡ Some its

has_line : (number : ℕ) (world : World) (request : Request) (rest : List Request) → line_of number world ≡ request ∷ rest → HasLine number world (request ∷ rest)
has_line number world request rest stand = by_found (slice_get world.inverters number) refl stand
  where
    by_found : (found : Option InverterRecord) → slice_get world.inverters number ≡ found → option_map_or (λ its. its.line) found [] ≡ request ∷ rest → HasLine number world (request ∷ rest)
    by_found None none stand = absurd cc
    by_found (Some its) found stand = record { its = its; found = found }

its_line : (number : ℕ) (world : World) (its : InverterRecord) → slice_get world.inverters number ≡ Some its → its.line ≡ line_of number world
its_line number world its found = sym (ap (λ (o : Option InverterRecord). option_map_or (λ i. i.line) o []) found)

pub its_held : (number : ℕ) (world : World) (its : InverterRecord) → slice_get world.inverters number ≡ Some its → held_by world number ≡ its.held
its_held number world its found = ap (λ (o : Option InverterRecord). option_map_or (λ i. i.held) o 0) found

same_held : (number : ℕ) (xs : List InverterRecord) → option_map_or (λ i. i.held) (slice_get (changed_at number without_first xs) number) 0 ≡ option_map_or (λ i. i.held) (slice_get xs number) 0
unfolding without_first
same_held number [] = refl
same_held zero (x ∷ xs) = refl
same_held (suc number) (x ∷ xs) = same_held number xs

module _ (earlier : List BookRecord) where
  -- a write of the line acts, and stays or leaves
  module _ (number : ℕ) (world : World) (is : Each earlier world) (write : writes.Write) (rest : List Request) (stand : line_of number world ≡ sent.Write write ∷ rest) where
    abbrev revert : ℕ
    revert = world.moment + 58300 + draw 0 3401 world.words

    own_line : (its : InverterRecord) → slice_get world.inverters number ≡ Some its → its.line ≡ sent.Write write ∷ rest
    own_line its found = its_line number world its found ∙ stand

    leads_write_kept : Leads earlier world.book (acted number write world)
    unfolding acted
    leads_write_kept =
        goes_on earlier world.book (acted number write world)
        (each_changed earlier (drawn 1 world) (each_drawn earlier 1 world is) number (holding write.raw revert)
        (λ its found was. acts_kept earlier world.book number world.moment was.timed its was.follows revert (omega arith) (omega arith) write rest (own_line its found))) refl refl

    leads_write_first : Leads earlier world.book (acted number write (changed number without_first world))
    unfolding acted
    leads_write_first =
        let hold : InverterRecord → InverterRecord = holding write.raw revert in
        goes_on earlier world.book (acted number write (changed number without_first world))
        (subst (λ (xs : List InverterRecord). Each earlier (record (drawn 1 world) { inverters = xs })) (sym (changed_twice number without_first hold world.inverters))
        (each_changed earlier (drawn 1 world) (each_drawn earlier 1 world is) number (λ its. hold (without_first its))
        (λ its found was. acts_first earlier world.book number world.moment was.timed its was.follows revert (omega arith) (omega arith) write rest (own_line its found)))) refl refl

  -- a read of the line shows what is held, and stays or leaves
  module _ (number : ℕ) (world : World) (is : Each earlier world) (read : reads.Read) (rest : List Request) (stand : line_of number world ≡ sent.Read read ∷ rest) where
    abbrev now : ℕ
    now = at earlier world is

    abbrev saw_entry : ℕ → Entry
    saw_entry raw = record { call = calls.Saw now number read.number raw; reply = reply_to world.book (calls.Saw now number read.number raw) }

    abbrev saw_book : ℕ → BookRecord
    saw_book raw = with_entries world.book (world.book.entries ++ saw_entry raw ∷ [])

    module _ (its : InverterRecord) (found : slice_get world.inverters number ≡ Some its) (was : IsAt earlier world.book number world.moment its) where
      own_read : its.line ≡ sent.Read read ∷ rest
      own_read = its_line number world its found ∙ stand

      shows_kept : Follows earlier (saw_book its.held) number world.moment (link_number number (saw_book its.held).entries) its
      shows_kept =
          let reply = reply_to_saw world.book now number read.number its.held in
          elim (cases_Bool (is_seen reply)) [
            | inl seen ↦ saw_kept earlier world.book number world.moment now read.number (at_now earlier world is) was.timed its was.follows reply refl seen read rest refl own_read
            | inr unseen ↦ saw_nothing earlier world.book number world.moment now read.number (at_now earlier world is) was.timed its was.follows reply refl unseen its.line was.follows
          ]

      shows_first : Follows earlier (saw_book its.held) number world.moment (link_number number (saw_book its.held).entries) (without_first its)
      unfolding without_first
      shows_first =
          let reply = reply_to_saw world.book now number read.number its.held in
          elim (cases_Bool (is_seen reply)) [
            | inl seen ↦ saw_first earlier world.book number world.moment now read.number (at_now earlier world is) was.timed its was.follows reply refl seen read rest refl own_read
            | inr unseen ↦ saw_nothing earlier world.book number world.moment now read.number (at_now earlier world is) was.timed its was.follows reply refl unseen (without_first its).line
                (loses_first earlier world.book number world.moment was.timed its was.follows)
          ]

      -- whichever number is held
      with_held : (raw : ℕ) (change : InverterRecord → InverterRecord) → raw ≡ its.held → Follows earlier (saw_book its.held) number world.moment (link_number number (saw_book its.held).entries) (change its)
          → Follows earlier (saw_book raw) number world.moment (link_number number (saw_book raw).entries) (change its)
      with_held raw change same follows = subst (λ (n : ℕ). Follows earlier (saw_book n) number world.moment (link_number number (saw_book n).entries) (change its)) (sym same) follows

    only_its : (raw i : ℕ) → (i ≡ number → ⊥) → (sight : Sight) → Contains (sight_by (number_of earlier) (length world.book.entries) world.book.entries (saw_entry raw).call (saw_entry raw).reply) sight → sight.read.inverter ≡ i → ⊥
    only_its raw i other sight within mine =
        let has = has_line number world (sent.Read read) rest stand in
        let was = is.each number has.its has.found in
        other (sym mine ∙ saw_is_its earlier world.book number world.moment now read.number raw (saw_entry raw).reply was.follows.pending sight within)

    each_saw : (raw granted freed : ℕ) (change : InverterRecord → InverterRecord) → raw ≡ held_by world number
        → ((its : InverterRecord) → slice_get world.inverters number ≡ Some its → IsAt earlier world.book number world.moment its → Follows earlier (saw_book its.held) number world.moment (link_number number (saw_book its.held).entries) (change its))
        → Each earlier (record world { book = saw_book raw; granted = granted; freed = freed; inverters = changed_at number change world.inverters })
    each_saw raw granted freed change same own =
        each_entered earlier world is (saw_entry raw) (λ write. refl) refl refl (at_now earlier world is) granted freed (changed_at number change world.inverters)
        (each_one earlier world is (saw_entry raw) (λ write. refl) refl refl (at_now earlier world is) number change (λ i other. refl) (only_its raw)
        (λ its found was. with_held its found was raw change (same ∙ its_held number world its found) (own its found was)))

    leads_read_kept : Leads earlier world.book (called (calls.Saw world.moment number read.number (held_by world number)) world)
    unfolding called with_entry entry_in
    leads_read_kept =
        let raw = held_by world number in
        let after = called (calls.Saw world.moment number read.number raw) world in
        goes_on earlier world.book after
        (subst (λ (xs : List InverterRecord). Each earlier (record world { book = saw_book raw; granted = after.granted; freed = after.freed; inverters = xs })) (changed_none number world.inverters)
        (each_saw raw after.granted after.freed (λ its. its) refl shows_kept)) refl refl

    leads_read_first : Leads earlier world.book (called (calls.Saw world.moment number read.number (held_by (changed number without_first world) number)) (changed number without_first world))
    unfolding called with_entry entry_in
    leads_read_first =
        let raw = held_by (changed number without_first world) number in
        goes_on earlier world.book (called (calls.Saw world.moment number read.number raw) (changed number without_first world))
        (each_saw raw _ _ without_first (same_held number world.inverters) shows_first) refl refl

  leads_delivered_kept : (number : ℕ) (request : Request) (rest : List Request) (world : World) → Each earlier world → line_of number world ≡ request ∷ rest → Leads earlier world.book (delivered number request world)
  unfolding delivered
  leads_delivered_kept number (sent.Write write) rest world is stand = leads_write_kept number world is write rest stand
  leads_delivered_kept number (sent.Read read) rest world is stand = leads_read_kept number world is read rest stand

  leads_delivered_first : (number : ℕ) (request : Request) (rest : List Request) (world : World) → Each earlier world → line_of number world ≡ request ∷ rest → Leads earlier world.book (delivered number request (changed number without_first world))
  unfolding delivered
  leads_delivered_first number (sent.Write write) rest world is stand = leads_write_first number world is write rest stand
  leads_delivered_first number (sent.Read read) rest world is stand = leads_read_first number world is read rest stand

  -- what happens to the first request of a line
  leads_reached : (number : ℕ) (request : Request) (rest : List Request) (world : World) → Each earlier world → line_of number world ≡ request ∷ rest → Leads earlier world.book (reached number request world)
  unfolding reached
  leads_reached number request rest world is stand =
      let some = each_drawn earlier 2 world is in
      leads_if earlier world.book _ _ _
      (goes_on earlier world.book (changed number without_first (drawn 2 world)) (each_changed earlier (drawn 2 world) some number without_first (λ its found was. loses_first earlier world.book number world.moment was.timed its was.follows)) refl refl)
      (leads_if earlier world.book _ _ _ (leads_delivered_kept number request rest (drawn 2 world) some stand) (leads_delivered_first number request rest (drawn 2 world) some stand))

  pub leads_by_line : (number : ℕ) (line : List Request) (world : World) → Each earlier world → line_of number world ≡ line → Leads earlier world.book (by_line number line world)
  leads_by_line number [] world is stand = goes_on earlier world.book world is refl refl
  leads_by_line number (request ∷ rest) world is stand = leads_reached number request rest world is stand

  -- an old write acts
  leads_by_place : (number place : ℕ) (found : Option OldWrite) (world : World) → Each earlier world → slice_get (old_of number world) place ≡ found → Leads earlier world.book (by_place number place found world)
  unfolding acted
  leads_by_place number place None world is stand = goes_on earlier world.book world is refl refl
  leads_by_place number place (Some chosen) world is stand =
      let revert = world.moment + 58300 + draw 0 3401 world.words in
      let hold : InverterRecord → InverterRecord = holding chosen.write.raw revert in
      let old : (its : InverterRecord) → slice_get world.inverters number ≡ Some its → slice_get its.strays place ≡ Some chosen =
      λ its found. ap (λ (strays : List OldWrite). slice_get strays place) (sym (ap (λ (o : Option InverterRecord). option_map_or (λ i. i.strays) o []) found)) ∙ stand in
      goes_on earlier world.book (acted number chosen.write (changed number (without_old place chosen) world))
      (subst (λ (xs : List InverterRecord). Each earlier (record (drawn 1 world) { inverters = xs })) (sym (changed_twice number (without_old place chosen) hold world.inverters))
      (each_changed earlier (drawn 1 world) (each_drawn earlier 1 world is) number (λ its. hold (without_old place chosen its))
      (λ its found was. acts_late earlier world.book number world.moment was.timed its was.follows revert (omega arith) (omega arith) place chosen (old its found)))) refl refl

  pub leads_came_late : (number : ℕ) (world : World) → Each earlier world → Leads earlier world.book (came_late number world)
  unfolding came_late
  leads_came_late number world is =
      leads_if earlier world.book _ _ _ (goes_on earlier world.book world is refl refl)
      (leads_by_place number (draw 0 (length (old_of number world)) world.words) (slice_get (old_of number world) (draw 0 (length (old_of number world)) world.words)) (drawn 1 world) (each_drawn earlier 1 world is) refl)
