-- What is true of a plant behind any count of steps.
use Rattle.std.proofs.Common.{◌≡◌, ℕ, zero, suc, ◌+◌, ◌*◌, ◌<◌, ◌≤◌, max, ◌^◌, Bool, true, false, cond, ltb, List, [], ◌∷◌, length, replicate, Option, Some, None, refl, sym, subst, ap, ◌∙◌, add-one, arith, lit≤}
use Rattle.std.specs.Prelude.{◌==◌, IfSome, slice_get}
use Rattle.std.specs.Option.{option_map_or}
use Rattle.std.specs.List.{AllByRecursion}
use Rattle.std.proofs.lemmas.Bool.{le-ltb, ne_eqb}
use Rattle.std.proofs.lemmas.List.{length-map, length_push}
use Rattle.std.proofs.Math.ListN.{length-replicate}
use Rattle.limiter_num.specs.Rating.{mw}
use Rattle.limiter_num.specs.Milliwatts.{mw_of, scaled_up}
use Rattle.plant_book.specs.declared.call.Call.{Call}
use Rattle.plant_book.specs.declared.call.Call.TheVariants as calls
use Rattle.plant_book.specs.declared.call.Reply.{Reply}
use Rattle.plant_book.specs.declared.call.Reply.TheVariants as replies
use Rattle.plant_book.specs.declared.call.Write as writes
use Rattle.plant_book.specs.Sums.{sum_below}
use Rattle.plant_book.specs.Site.{inverters, floor_at, floors}
use Rattle.plant_book.specs.Calls.{moment, named, latest}
use Rattle.plant_book.specs.Reserved.{now_of}
use Rattle.plant_book.specs.Answer.{goal_raw}
use Rattle.plant_book.specs.Answered.{IsInRange, IsOpenable}
use Rattle.plant_book.proofs.Growth.{IsBook-empty, moment-at_moment}
use Rattle.plant_ledger.specs.Opening.{open_fault}
use Rattle.plant_simulator.specs.declared.inverter.Request.{Request}
use Rattle.plant_simulator.specs.declared.inverter.Request.TheVariants as sent
use Rattle.plant_simulator.specs.declared.inverter.OldWrite.{OldWrite}
use Rattle.plant_simulator.specs.Words.{draw}
use Rattle.plant_simulator.specs.Site.{site_of, unit}
use Rattle.plant_simulator.specs.World.{InverterRecord, World, fresh, held_by, held_in}
use Rattle.plant_simulator.specs.Inverter.{inverter_at, requested, queued, holding, emptied, without_first, without_old}
use Rattle.plant_simulator.specs.Call.{entry_in, grants_in, with_entry, reply_in, called}
use Rattle.plant_simulator.specs.Step.{drawn, changed, passed, asked_for, asked, read_back, acted, delivered, line_of, reached, by_line, old_of, by_place, came_late, wished, relinked, linked, next_life, restarted, ticked, happened, stepped}
use Rattle.plant_simulator.specs.Summary.{unlinked, beginning, plant_after, peak_after}
use Rattle.plant_simulator.specs.Ready.{IsReady}
use Rattle.plant_simulator.proofs.Lists.{length-changed_at}
use Rattle.plant_simulator.proofs.Ready.{IsSound, sound_same, MayCall, sound_called, is_linked, sound_linked, sound_next, sound_passed, ready}
use Rattle.plant_simulator.proofs.Ranges.{goal_small, freed_by_call, all_at, InRangeOf, IsRanged, ranged_fresh, ranged_at, ranged_queued, ranged_holding, ranged_emptied, ranged_without_first, ranged_without_old, all_changed, all_each, all_replicate, asked_ranged, read_ranged}

-- the site that is simulated can be opened
watts_of : (n inverter : ℕ) → option_map_or (λ u. mw u.rating u.floor) (slice_get (replicate n unit) inverter) 0 ≤ 600000
unfolding mw_of scaled_up
watts_of zero inverter = omega arith
watts_of (suc n) zero = lit≤ tt
watts_of (suc n) (suc inverter) = watts_of n inverter

sum_at_most : (n : ℕ) (f : ℕ → ℕ) (most : ℕ) → ((k : ℕ) → f k ≤ most) → sum_below n f ≤ n * most
unfolding sum_below
sum_at_most zero f most each = omega arith
sum_at_most (suc n) f most each = omega (arith, sum_at_most n f most each, each n)

pub floors_fit : (n : ℕ) → floors (site_of n) ≤ n * 600000
unfolding floor_at
floors_fit n = omega (arith, sum_at_most (length (replicate n unit)) (floor_at (site_of n)) 600000 (λ k. watts_of n k), length-replicate n unit)

module _ (n : ℕ) (some : 1 ≤ n) (few : n ≤ 64) where
  count_is : inverters (site_of n) ≡ n
  count_is = length-replicate n unit

  pub openable : IsOpenable (site_of n)
  openable = record {
    checked = record { cap = omega arith; room_low = lit≤ tt; room_high = lit≤ tt; units = omega (arith, count_is, few) };
    some = omega (arith, count_is, some);
    few = omega (arith, count_is, few);
    floors = omega (arith, floors_fit n);
  }

  pub no_fault : open_fault (site_of n) ≡ None
  no_fault =
      rw (
        ne_eqb (inverters (site_of n)) 0 (omega (arith, count_is, some)),
        le-ltb 64 (inverters (site_of n)) (omega (arith, count_is, few)),
        le-ltb (site_of n).cap (floors (site_of n)) (omega (arith, floors_fit n)),
      ) refl

-- the counts of a plant behind so many calls
pub record Counts (count : ℕ) (world : World) : Type 0 where
  pub entries : length world.book.entries ≤ 64 + count
  pub life : world.life ≤ 1 + count
  pub granted : world.granted ≤ count
  pub freed : world.freed ≤ 32 * count

-- a plant of so many inverters at a moment, behind so many calls
pub record IsFine (count at many : ℕ) (world : World) : Type 0 where
  pub sound : IsSound world
  pub counts : Counts count world
  pub now_at : world.moment ≡ at
  pub as_many : length world.inverters ≡ many
  pub ranged : AllByRecursion IsRanged world.inverters

module _ (count at many : ℕ) (high : at ≤ 10 ^ 15) where
  fine_drawn : (n : ℕ) (world : World) → IsFine count at many world → IsFine count at many (drawn n world)
  fine_drawn n world is = record {
    sound = sound_same world (drawn n world) is.sound refl refl (omega arith);
    counts = record { entries = is.counts.entries; life = is.counts.life; granted = is.counts.granted; freed = is.counts.freed };
    now_at = is.now_at;
    as_many = is.as_many;
    ranged = is.ranged;
  }

  fine_changed : (number : ℕ) (change : InverterRecord → InverterRecord) (world : World) → ((its : InverterRecord) → IsRanged its → IsRanged (change its)) → IsFine count at many world → IsFine count at many (changed number change world)
  fine_changed number change world keeps is =
      let same = length-changed_at world.inverters number change in
      record {
        sound = sound_same world (changed number change world) is.sound refl same (omega arith);
        counts = record { entries = is.counts.entries; life = is.counts.life; granted = is.counts.granted; freed = is.counts.freed };
        now_at = is.now_at;
        as_many = same ∙ is.as_many;
        ranged = all_changed IsRanged number change world.inverters keeps is.ranged;
      }

either : {count at many : ℕ} (b : Bool) (x y : World) → IsFine count at many x → IsFine count at many y → IsFine count at many (cond b x y)
either true x y one two = one
either false x y one two = two

granted_one : (reply : Reply) → grants_in reply ≤ 1
granted_one (replies.Granted write) = omega arith
granted_one _ = omega arith

-- a call
module _ (count at many : ℕ) (high : at ≤ 10 ^ 15) (room : count ≤ 1000000) (world : World) (is : IsFine count at many world) where
  pub fine_called : (call : Call) → moment call ≡ world.moment → IfSome (named call) (λ inverter. inverter < many) → IsInRange call → IsFine (count + 1) at many (called call world)
  unfolding called with_entry entry_in now_of
  fine_called call now of_site in_range =
      let entry = entry_in world.book call in
      let may : MayCall world call = record {
        moment = omega (arith, now);
        high = omega (arith, is.now_at, high);
        of_site = subst (λ (n : ℕ). IfSome (named call) (λ inverter. inverter < n)) (sym is.as_many) of_site;
        in_range = in_range;
        room = omega (arith, is.counts.entries, room);
      } in
      let last = latest world.book.start world.book.entries in
      let then : now_of world.book ≤ moment entry.call = omega (arith, moment-at_moment (max (moment call) last) call) in
      record {
        sound = sound_called world call is.sound may;
        counts = record {
          entries = omega (arith, length_push world.book.entries entry, is.counts.entries);
          life = omega (arith, is.counts.life);
          granted = omega (arith, is.counts.granted, granted_one entry.reply);
          freed = omega (arith, is.counts.freed, (freed_by_call world.book entry.call is.sound.book then).is);
        };
        now_at = is.now_at;
        as_many = is.as_many;
        ranged = is.ranged;
      }

module _ (count at many : ℕ) (high : at ≤ 10 ^ 15) (room : count ≤ 1000000) where
  -- a request: its call, and what the reply adds to the line
  fine_requested : (number : ℕ) (call : Call) (world : World) → IsFine count at many world → moment call ≡ world.moment → IfSome (named call) (λ inverter. inverter < many) → IsInRange call
      → AllByRecursion InRangeOf (requested (reply_in world call)) → IsFine (count + 1) at many (changed number (queued (reply_in world call)) (called call world))
  fine_requested number call world is now of_site in_range new =
      fine_changed (count + 1) at many high number (queued (reply_in world call)) (called call world)
      (λ its was. ranged_queued (reply_in world call) its new was)
      (fine_called count at many high room world is call now of_site in_range)

  fine_asked_for : (number raw : ℕ) (world : World) → number < many → raw ≤ 65535 → IsFine count at many world → IsFine (count + 1) at many (asked_for number raw world)
  unfolding asked_for entry_in
  fine_asked_for number raw world of_site small is =
      fine_requested number (calls.Ask world.moment number raw) world is refl of_site small
      (asked_ranged world.book (max world.moment (latest world.book.start world.book.entries)) number raw small)

  fine_asked : (number : ℕ) (world : World) → number < many → IsFine count at many world → IsFine (count + 1) at many (asked number world)
  unfolding asked
  fine_asked number world of_site is =
      either (draw 0 2 world.words == 0) _ _
      (fine_asked_for number (goal_raw world.book number) (drawn 1 world) of_site (goal_small world.book number) (fine_drawn count at many high 1 world is))
      (fine_asked_for number (draw 1 1001 world.words) (drawn 2 world) of_site (omega arith) (fine_drawn count at many high 2 world is))

  fine_read_back : (number : ℕ) (world : World) → number < many → IsFine count at many world → IsFine (count + 1) at many (read_back number world)
  unfolding read_back entry_in
  fine_read_back number world of_site is =
      fine_requested number (calls.Read world.moment number) world is refl of_site tt
      (read_ranged world.book (max world.moment (latest world.book.start world.book.entries)) number)

  -- a plant behind no call is one behind fewer than one more
  fine_more : (world : World) → IsFine count at many world → IsFine (count + 1) at many world
  fine_more world is = record {
    sound = is.sound;
    counts = record {
      entries = omega (arith, is.counts.entries);
      life = omega (arith, is.counts.life);
      granted = omega (arith, is.counts.granted);
      freed = omega (arith, is.counts.freed);
    };
    now_at = is.now_at;
    as_many = is.as_many;
    ranged = is.ranged;
  }

  fine_acted : (number : ℕ) (write : writes.Write) (world : World) → write.raw ≤ 65535 → IsFine count at many world → IsFine (count + 1) at many (acted number write world)
  unfolding acted
  fine_acted number write world small is =
      let revert = world.moment + 58300 + draw 0 3401 world.words in
      fine_more (acted number write world)
      (fine_changed count at many high number (holding write.raw revert) (drawn 1 world) (λ its was. ranged_holding write.raw revert its small was) (fine_drawn count at many high 1 world is))

  held_small : (number : ℕ) (world : World) → IsFine count at many world → held_by world number ≤ 65535
  held_small number world is = by_found (slice_get world.inverters number) refl
    where
      by_found : (found : Option InverterRecord) → slice_get world.inverters number ≡ found → option_map_or (λ its. its.held) found 0 ≤ 65535
      by_found None none = omega arith
      by_found (Some its) found = (all_at IsRanged world.inverters number its is.ranged found).held

  fine_delivered : (number : ℕ) (request : Request) (world : World) → number < many → InRangeOf request → IsFine count at many world → IsFine (count + 1) at many (delivered number request world)
  unfolding delivered
  fine_delivered number (sent.Write write) world of_site small is = fine_acted number write world small is
  fine_delivered number (sent.Read read) world of_site small is =
      fine_called count at many high room world is (calls.Saw world.moment number read.number (held_by world number)) refl of_site (small, held_small number world is)

  fine_reached : (number : ℕ) (request : Request) (world : World) → number < many → InRangeOf request → IsFine count at many world → IsFine (count + 1) at many (reached number request world)
  unfolding reached
  fine_reached number request world of_site small is =
      let behind_two = fine_drawn count at many high 2 world is in
      let without = fine_changed count at many high number without_first (drawn 2 world) ranged_without_first behind_two in
      either (draw 0 4 world.words == 0) _ _ (fine_more (changed number without_first (drawn 2 world)) without)
      (either (draw 1 8 world.words == 0) _ _ (fine_delivered number request (drawn 2 world) of_site small behind_two)
      (fine_delivered number request (changed number without_first (drawn 2 world)) of_site small without))

  line_ranged : (number : ℕ) (world : World) → IsFine count at many world → AllByRecursion InRangeOf (line_of number world)
  line_ranged number world is = by_found (slice_get world.inverters number) refl
    where
      by_found : (found : Option InverterRecord) → slice_get world.inverters number ≡ found → AllByRecursion InRangeOf (option_map_or (λ its. its.line) found [])
      by_found None none = tt
      by_found (Some its) found = (all_at IsRanged world.inverters number its is.ranged found).line

  fine_by_line : (number : ℕ) (line : List Request) (world : World) → number < many → AllByRecursion InRangeOf line → IsFine count at many world → IsFine (count + 1) at many (by_line number line world)
  fine_by_line number [] world of_site small is = fine_more world is
  fine_by_line number (request ∷ rest) world of_site small is = fine_reached number request world of_site small.0 is

  old_ranged : (number : ℕ) (world : World) → IsFine count at many world → AllByRecursion (λ stray. stray.write.raw ≤ 65535) (old_of number world)
  old_ranged number world is = by_found (slice_get world.inverters number) refl
    where
      by_found : (found : Option InverterRecord) → slice_get world.inverters number ≡ found → AllByRecursion (λ stray. stray.write.raw ≤ 65535) (option_map_or (λ its. its.strays) found [])
      by_found None none = tt
      by_found (Some its) found = (all_at IsRanged world.inverters number its is.ranged found).strays

  fine_by_place : (number place : ℕ) (found : Option OldWrite) (world : World) → ((chosen : OldWrite) → found ≡ Some chosen → chosen.write.raw ≤ 65535) → IsFine count at many world → IsFine (count + 1) at many (by_place number place found world)
  fine_by_place number place None world small is = fine_more world is
  fine_by_place number place (Some chosen) world small is =
      fine_acted number chosen.write (changed number (without_old place chosen) world) (small chosen refl)
      (fine_changed count at many high number (without_old place chosen) world (ranged_without_old place chosen) is)

  fine_came_late : (number : ℕ) (world : World) → IsFine count at many world → IsFine (count + 1) at many (came_late number world)
  unfolding came_late
  fine_came_late number world is =
      let place = draw 0 (length (old_of number world)) world.words in
      either (length (old_of number world) == 0) _ _ (fine_more world is)
      (fine_by_place number place (slice_get (old_of number world) place) (drawn 1 world)
      (λ chosen found. all_at (λ stray. stray.write.raw ≤ 65535) (old_of number world) place chosen (old_ranged number world is) found)
      (fine_drawn count at many high 1 world is))

  fine_wished : (number : ℕ) (world : World) → number < many → IsFine count at many world → IsFine (count + 1) at many (wished number world)
  unfolding wished
  fine_wished number world of_site is =
      fine_called count at many high room (drawn 1 world) (fine_drawn count at many high 1 world is) (calls.Want world.moment number (draw 0 6000001 world.words)) refl of_site (omega arith)

  fine_relinked : (number : ℕ) (world : World) → number < many → IsFine count at many world → IsFine (count + 1) at many (relinked number world)
  unfolding relinked
  fine_relinked number world of_site is =
      fine_called count at many high room (changed number (emptied world.life) world) (fine_changed count at many high number (emptied world.life) world (ranged_emptied world.life) is)
      (calls.Link world.moment number) refl of_site tt

  fine_restarted : (world : World) → IsFine count at many world → IsFine (count + 1) at many (restarted world)
  unfolding restarted
  fine_restarted world is =
      let next = next_life world in
      let same = length-map world.inverters (emptied world.life) in
      let linked_facts = is_linked (length world.inverters) next in
      record {
        sound = sound_linked (length world.inverters) next (sound_next world is.sound (omega (arith, is.now_at, high))) (omega (arith, is.now_at, high)) (omega (arith, is.sound.few)) (omega (arith, same));
        counts = record {
          entries = omega (arith, linked_facts.entries, is.sound.few);
          life = omega (arith, linked_facts.life, is.counts.life);
          granted = omega (arith, linked_facts.granted, is.counts.granted);
          freed = omega (arith, linked_facts.freed, is.counts.freed);
        };
        now_at = linked_facts.moment ∙ is.now_at;
        as_many = ap (λ (xs : List InverterRecord). length xs) linked_facts.inverters ∙ same ∙ is.as_many;
        ranged = subst (AllByRecursion IsRanged) (sym linked_facts.inverters) (all_each IsRanged (emptied world.life) world.inverters (ranged_emptied world.life) is.ranged);
      }

  fine_ticked : (world : World) → IsFine count at many world → IsFine (count + 1) at many (ticked world)
  unfolding ticked
  fine_ticked world is =
      let behind_one = fine_drawn count at many high 1 world is in
      either (draw 0 64 world.words == 0) _ _ (fine_restarted (drawn 1 world) behind_one)
      (fine_called count at many high room (drawn 1 world) behind_one (calls.Tick world.moment) refl tt tt)

  fine_happened : (kind number : ℕ) (world : World) → number < many → IsFine count at many world → IsFine (count + 1) at many (happened kind number world)
  unfolding happened
  fine_happened kind number world of_site is =
      either (ltb kind 4) _ _ (fine_asked number world of_site is)
      (either (ltb kind 7) _ _ (fine_read_back number world of_site is)
      (either (ltb kind 12) _ _ (fine_by_line number (line_of number world) world of_site (line_ranged number world is) is)
      (either (kind == 12) _ _ (fine_came_late number world is)
      (either (kind == 13) _ _ (fine_wished number world of_site is)
      (either (kind == 14) _ _ (fine_relinked number world of_site is) (fine_ticked world is))))))

fine_passed : (count at many : ℕ) (world : World) → IsFine count at many world → IsFine count (passed world).moment many (passed world)
unfolding passed
fine_passed count at many world is =
    let now = (passed world).moment in
    record {
      sound = sound_passed world is.sound;
      counts = record { entries = is.counts.entries; life = is.counts.life; granted = is.counts.granted; freed = is.counts.freed };
      now_at = refl;
      as_many = length-map world.inverters (inverter_at now) ∙ is.as_many;
      ranged = all_each IsRanged (inverter_at now) world.inverters (ranged_at now) is.ranged;
    }

passed_by : (world : World) → (passed world).moment ≤ world.moment + 2000
unfolding passed
passed_by world = omega arith

fine_now : (count at many : ℕ) (world : World) → IsFine count at many world → IsFine count world.moment many world
fine_now count at many world is = subst (λ (n : ℕ). IsFine count n many world) (sym is.now_at) is

-- what is true of a plant behind so many steps
pub record Runs (count many : ℕ) (world : World) : Type 0 where
  pub fine : IsFine count world.moment many world
  pub time : world.moment ≤ 2000 * count

pub runs_stepped : (count many : ℕ) (world : World) → count < 1000000 → 1 ≤ many → Runs count many world → Runs (count + 1) many (stepped world)
unfolding stepped
runs_stepped count many world room some runs =
    let at = passed world in
    let then = passed_by world in
    let high : at.moment ≤ 10 ^ 15 = omega (arith, then, runs.time, room) in
    let passes = fine_passed count world.moment many world runs.fine in
    let number = draw 0 (length at.inverters) at.words in
    let of_site : number < many = omega (arith, passes.as_many, some) in
    let fine = fine_happened count at.moment many high (omega (arith, room)) (draw 1 16 at.words) number (drawn 2 at) of_site (fine_drawn count at.moment many high 2 at passes) in
    record {
      fine = fine_now (count + 1) at.moment many (happened (draw 1 16 at.words) number (drawn 2 at)) fine;
      time = omega (arith, fine.now_at, then, runs.time);
    }

-- the beginning
fresh_plant : (seed n : ℕ) → 1 ≤ n → n ≤ 64 → IsSound (unlinked seed n)
unfolding now_of latest
fresh_plant seed n some few =
    let many = length-replicate n fresh in
    record {
      book = IsBook-empty (site_of n) 0 (openable n some few) (omega arith);
      site = ap site_of (sym many);
      some = omega (arith, many, some);
      few = omega (arith, many, few);
      time = omega arith;
    }

pub ready_unlinked : (seed n : ℕ) → 1 ≤ n → n ≤ 64 → IsReady (unlinked seed n)
ready_unlinked seed n some few = ready (unlinked seed n) (fresh_plant seed n some few) (record { moment = omega arith; room = omega arith; granted = omega arith; freed = omega arith })

runs_beginning : (seed n : ℕ) → 1 ≤ n → n ≤ 64 → Runs 0 n (beginning seed n)
unfolding beginning
runs_beginning seed n some few =
    let many = length-replicate n fresh in
    let facts = is_linked n (unlinked seed n) in
    let now : (linked n (unlinked seed n)).moment ≡ 0 = facts.moment in
    record {
      fine = record {
        sound = sound_linked n (unlinked seed n) (fresh_plant seed n some few) (omega arith) (omega (arith, few)) (omega (arith, many));
        counts = record {
          entries = omega (arith, facts.entries, few);
          life = omega (arith, facts.life);
          granted = omega (arith, facts.granted);
          freed = omega (arith, facts.freed);
        };
        now_at = refl;
        as_many = ap (λ (xs : List InverterRecord). length xs) facts.inverters ∙ many;
        ranged = subst (AllByRecursion IsRanged) (sym facts.inverters) (all_replicate IsRanged n fresh ranged_fresh);
      };
      time = omega (arith, now);
    }

pub runs_after : (seed n count : ℕ) → 1 ≤ n → n ≤ 64 → count ≤ 1000000 → Runs count n (plant_after seed n count)
unfolding plant_after
runs_after seed n zero some few room = runs_beginning seed n some few
runs_after seed n (suc count) some few room =
    subst (λ (k : ℕ). Runs k n (stepped (plant_after seed n count))) (add-one count)
    (runs_stepped count n (plant_after seed n count) (omega (arith, room)) some (runs_after seed n count some few (omega (arith, room))))

-- each plant that is simulated is ready for a step
pub record IsStepReady (world : World) : Type 0 where
  pub ready : IsReady world
  pub life : world.life < 2 ^ 31
  pub moment : world.moment + 2000 ≤ 10 ^ 15

pub step_ready : (seed n count : ℕ) → 1 ≤ n → n ≤ 64 → count ≤ 1000000 → IsStepReady (plant_after seed n count)
step_ready seed n count some few room =
    let runs = runs_after seed n count some few room in
    let world = plant_after seed n count in
    record {
      ready = ready world runs.fine.sound (record {
        moment = omega (arith, runs.time, room);
        room = omega (arith, runs.fine.counts.entries, room);
        granted = omega (arith, runs.fine.counts.granted, room);
        freed = omega (arith, runs.fine.counts.freed, room);
      });
      life = omega (arith, runs.fine.counts.life, room);
      moment = omega (arith, runs.time, room);
    }

pub plant_first : (seed n : ℕ) → plant_after seed n 0 ≡ beginning seed n
unfolding plant_after
plant_first seed n = refl

pub plant_more : (seed n count : ℕ) → plant_after seed n (count + 1) ≡ stepped (plant_after seed n count)
unfolding plant_after
plant_more seed n count = rw add-one refl

pub peak_first : (seed n : ℕ) → peak_after seed n 0 ≡ held_in (beginning seed n)
unfolding peak_after plant_after
peak_first seed n = refl

pub peak_more : (seed n count : ℕ) → peak_after seed n (count + 1) ≡ max (peak_after seed n count) (held_in (plant_after seed n (count + 1)))
unfolding peak_after
peak_more seed n count = rw add-one refl
