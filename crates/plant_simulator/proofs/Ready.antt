-- What stays true of a plant.
use Rattle.std.proofs.Common.{◌≡◌, ℕ, zero, suc, ◌+◌, ◌<◌, ◌≤◌, max, ◌^◌, List, length, refl, sym, subst, ap, ◌∙◌, add-one, arith}
use Rattle.std.specs.Prelude.{IfSome}
use Rattle.std.proofs.lemmas.List.{length-map, length_push}
use Rattle.std.proofs.Math.ListN.{length-replicate}
use Rattle.plant_book.specs.declared.call.Call.{Call}
use Rattle.plant_book.specs.declared.call.Call.TheVariants as calls
use Rattle.plant_book.specs.Sums.{sum_below}
use Rattle.plant_book.specs.Site.{SiteRecord}
use Rattle.plant_book.specs.Book.{BookRecord}
use Rattle.plant_book.specs.Calls.{moment, named, latest}
use Rattle.plant_book.specs.Reserved.{now_of}
use Rattle.plant_book.specs.Answered.{IsInRange, IsBook}
use Rattle.plant_book.proofs.Growth.{IsBook-push, IsBook-empty, IsNext-entered, moment-at_moment}
use Rattle.plant_book.proofs.Steps.{latest-push}
use Rattle.plant_simulator.specs.World.{InverterRecord, World}
use Rattle.plant_simulator.specs.Inverter.{emptied, inverter_at}
use Rattle.plant_simulator.specs.Call.{entry_in, with_entry, called}
use Rattle.plant_simulator.specs.Step.{drawn, changed, linked, next_life, passed}
use Rattle.plant_simulator.specs.Ready.{IsReady}
use Rattle.plant_simulator.specs.Site.{site_of, unit}
use Rattle.plant_simulator.proofs.Lists.{length-changed_at}

-- A plant of 1 to 64 inverters, whose book is one of right replies.
pub record IsSound (world : World) : Type 0 where
  pub book : IsBook world.book
  pub site : world.book.site ≡ site_of (length world.inverters)
  pub some : 1 ≤ length world.inverters
  pub few : length world.inverters ≤ 64
  pub time : now_of world.book ≤ world.moment

pub sound_ready : (world : World) → IsReady world → IsSound world
sound_ready world is = record { book = is.book; site = is.site; some = is.some; few = is.few; time = is.time }

-- what a plant has room for
pub record HasRoom (world : World) : Type 0 where
  pub moment : world.moment ≤ 10 ^ 15
  pub room : length world.book.entries < 1048576
  pub granted : world.granted < 2 ^ 31
  pub freed : world.freed < 2 ^ 31

pub room_ready : (world : World) → IsReady world → HasRoom world
room_ready world is = record { moment = is.moment; room = is.room; granted = is.granted; freed = is.freed }

pub ready : (world : World) → IsSound world → HasRoom world → IsReady world
ready world is has = record {
  book = is.book;
  site = is.site;
  some = is.some;
  few = is.few;
  time = is.time;
  moment = has.moment;
  room = has.room;
  granted = has.granted;
  freed = has.freed;
}

-- a plant with as many inverters, and the same book no earlier
pub sound_same : (old new : World) → IsSound old → new.book ≡ old.book → length new.inverters ≡ length old.inverters → old.moment ≤ new.moment → IsSound new
sound_same old new is book count later = record {
  book = subst IsBook (sym book) is.book;
  site = ap (λ (b : BookRecord). b.site) book ∙ is.site ∙ ap site_of (sym count);
  some = omega (arith, count, is.some);
  few = omega (arith, count, is.few);
  time = omega (arith, ap now_of book, is.time, later);
}

pub ready_drawn : (count : ℕ) (world : World) → IsReady world → IsReady (drawn count world)
ready_drawn count world is = ready (drawn count world) (sound_same world (drawn count world) (sound_ready world is) refl refl (omega arith))
    (record { moment = is.moment; room = is.room; granted = is.granted; freed = is.freed })

pub ready_changed : (number : ℕ) (change : InverterRecord → InverterRecord) (world : World) → IsReady world → IsReady (changed number change world)
ready_changed number change world is = ready (changed number change world)
    (sound_same world (changed number change world) (sound_ready world is) refl (length-changed_at world.inverters number change) (omega arith))
    (record { moment = is.moment; room = is.room; granted = is.granted; freed = is.freed })

-- a call that may be entered
pub record MayCall (world : World) (call : Call) : Type 0 where
  pub moment : moment call ≤ world.moment
  pub high : world.moment ≤ 10 ^ 15
  pub of_site : IfSome (named call) (λ inverter. inverter < length world.inverters)
  pub in_range : IsInRange call
  pub room : length world.book.entries < 1048576

count_units : (n : ℕ) → length (site_of n).units ≡ n
count_units n = length-replicate n unit

module _ (world : World) (call : Call) (is : IsSound world) (may : MayCall world call) where
  its_site : IfSome (named call) (λ inverter. inverter < length world.book.site.units)
  its_site = subst (λ (n : ℕ). IfSome (named call) (λ inverter. inverter < n)) (sym (ap (λ (s : SiteRecord). length s.units) is.site ∙ count_units (length world.inverters))) may.of_site

  pub sound_called : IsSound (called call world)
  unfolding called with_entry entry_in now_of
  sound_called =
      let at = max (moment call) (latest world.book.start world.book.entries) in
      let entry = entry_in world.book call in
      let next = IsNext-entered world.book call is.book (omega (arith, may.moment, may.high)) its_site may.in_range in
      record {
        book = IsBook-push world.book entry is.book (omega (arith, may.room)) next refl;
        site = is.site;
        some = is.some;
        few = is.few;
        time = omega (arith, latest-push world.book.start world.book.entries entry, moment-at_moment at call, may.moment, is.time);
      }

-- links of the first inverters change the book alone
pub record IsLinked (count : ℕ) (old new : World) : Type 0 where
  pub moment : new.moment ≡ old.moment
  pub life : new.life ≡ old.life
  pub granted : new.granted ≡ old.granted
  pub freed : new.freed ≡ old.freed
  pub inverters : new.inverters ≡ old.inverters
  pub entries : length new.book.entries ≡ length old.book.entries + count
  pub site : new.book.site ≡ old.book.site
  pub start : new.book.start ≡ old.book.start

pub is_linked : (count : ℕ) (world : World) → IsLinked count world (linked count world)
unfolding linked called with_entry entry_in
is_linked zero world = record { moment = refl; life = refl; granted = refl; freed = refl; inverters = refl; entries = omega arith; site = refl; start = refl }
is_linked (suc count) world =
    let before = is_linked count world in
    let entry = entry_in (linked count world).book (calls.Link world.moment count) in
    record {
      moment = before.moment;
      life = before.life;
      granted = omega (arith, before.granted);
      freed = omega (arith, before.freed);
      inverters = before.inverters;
      entries = omega (arith, before.entries, length_push (linked count world).book.entries entry);
      site = before.site;
      start = before.start;
    }

pub sound_linked : (count : ℕ) (world : World) → IsSound world → world.moment ≤ 10 ^ 15 → length world.book.entries + count ≤ 1048576 → count ≤ length world.inverters → IsSound (linked count world)
unfolding linked
sound_linked zero world is high room of_site = is
sound_linked (suc count) world is high room of_site =
    let before = is_linked count world in
    let sound = sound_linked count world is high (omega (arith, room)) (omega (arith, of_site)) in
    sound_called (linked count world) (calls.Link world.moment count) sound (record {
      moment = omega (arith, before.moment);
      high = omega (arith, before.moment, high);
      of_site = omega (arith, of_site, ap (λ (xs : List InverterRecord). length xs) before.inverters);
      in_range = tt;
      room = omega (arith, before.entries, room);
    })

pub ready_linked : (count : ℕ) (world : World) → IsReady world → length world.book.entries + length world.inverters < 1048576 → count ≤ length world.inverters → IsReady (linked count world)
ready_linked count world is room of_site =
    let before = is_linked count world in
    ready (linked count world) (sound_linked count world (sound_ready world is) is.moment (omega (arith, room, of_site)) of_site)
    (record {
      moment = omega (arith, before.moment, is.moment);
      room = omega (arith, before.entries, room, of_site);
      granted = omega (arith, before.granted, is.granted);
      freed = omega (arith, before.freed, is.freed);
    })

-- the next life begins
pub sound_next : (world : World) → IsSound world → world.moment ≤ 10 ^ 15 → IsSound (next_life world)
unfolding now_of latest
sound_next world is high =
    let same = length-map world.inverters (emptied world.life) in
    record {
      book = IsBook-empty world.book.site world.moment is.book.openable high;
      site = is.site ∙ ap site_of (sym same);
      some = omega (arith, same, is.some);
      few = omega (arith, same, is.few);
      time = omega arith;
    }

pub sound_passed : (world : World) → IsSound world → IsSound (passed world)
unfolding passed
sound_passed world is = sound_same world (passed world) is refl (length-map world.inverters (inverter_at (passed world).moment)) (omega arith)

linked_suc : (count : ℕ) (world : World) → called (calls.Link world.moment count) (linked count world) ≡ linked (suc count) world
unfolding linked
linked_suc count world = refl

pub linked_more : (count : ℕ) (world : World) → called (calls.Link (linked count world).moment count) (linked count world) ≡ linked (count + 1) world
linked_more count world =
    ap (λ (at : ℕ). called (calls.Link at count) (linked count world)) (is_linked count world).moment ∙ linked_suc count world
    ∙ ap (λ (n : ℕ). linked n world) (sym (add-one count))

pub ready_next : (world : World) → IsReady world → IsReady (next_life world)
ready_next world is = ready (next_life world) (sound_next world (sound_ready world is) is.moment)
    (record { moment = is.moment; room = omega arith; granted = is.granted; freed = is.freed })

pub ready_passed : (world : World) → IsReady world → world.moment + 2000 ≤ 10 ^ 15 → IsReady (passed world)
unfolding passed
ready_passed world is high = ready (passed world) (sound_passed world (sound_ready world is))
    (record { moment = omega (arith, high); room = is.room; granted = is.granted; freed = is.freed })

pub length_passed : (world : World) → length (passed world).inverters ≡ length world.inverters
unfolding passed
length_passed world = length-map world.inverters (inverter_at (passed world).moment)

pub life_passed : (world : World) → (passed world).life ≡ world.life
unfolding passed
life_passed world = refl

pub sum_more : (n : ℕ) (f : ℕ → ℕ) → sum_below (n + 1) f ≡ sum_below n f + f n
unfolding sum_below
sum_more n f = rw add-one refl
