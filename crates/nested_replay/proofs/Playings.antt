-- Going on call by call.
use Rattle.std.proofs.Common.{◌≡◌, ℕ, List, [], ◌∷◌, ◌++◌, Some, None, refl, sym, ap, subst, ◌∙◌}
use Rattle.std.specs.List.{flat_map}
use Rattle.std.proofs.lemmas.List.{append-nil}
use Rattle.plant_book.specs.declared.call.Call.{Call}
use Rattle.plant_book.specs.declared.book.Entry.{Entry}
use Rattle.plant_book.specs.Site.{SiteRecord}
use Rattle.plant_book.specs.Part.{PartRecord, book_behind}
use Rattle.plant_book.specs.Answered.{IsBook}
use Rattle.plant_book.specs.Carry.{EachBook}
use Rattle.plant_ledger.specs.Plant.{IsKept}
use Rattle.script_text.specs.declared.line.Line.TheVariants as lines
use Rattle.script_text.specs.declared.lines.Lines.{Lines}
use Rattle.script_text.specs.Script.{ScriptRecord, IsScript}
use Rattle.script_text.specs.Reader.{HasRead, AreLast, with_lines, script_begun}
use Rattle.script_text.specs.declared.lines.Begun.{Begun}
use Rattle.script_text.specs.declared.size.SiteSize as sizes
use Rattle.one_life_script.specs.OneLife.{HasOneLife}
use Rattle.busbars.specs.declared.bus.BusFault.{BusFault}
use Rattle.busbars.specs.Buses.{EachFits, IsFirstFault}
use Rattle.nested_replay.specs.declared.front.Front as fronts
use Rattle.nested_replay.specs.Reading.{front_buses}
use Rattle.script_text.specs.Text.{head_text}
use Rattle.busbars.specs.declared.bus.Bus as bus
use Rattle.busbars.specs.Caps.{ReservesUnderCaps}
use Rattle.busbars.specs.Applied.{BusPlantRecord}
use Rattle.nested_replay.specs.declared.replay.Opened.{Opened}
use Rattle.nested_replay.specs.Played.{Deed, book_of, bus_text}
use Rattle.nested_replay.specs.Playing.{IsReading, CallRead, NextCall, Steps, IsSafeBook, part_of, IsPlaying, IsPlayed, bytes_of, script_at, IsOpened, OpensFront}
use Rattle.nested_replay.proofs.Calls.{rest_are_calls}
use Rattle.nested_replay.proofs.Deeds.{stands_on, full_played, all_played}

module _ (old new : Lines) (plant : BusPlantRecord) (text : List ℕ) (call : Call) (p : IsPlaying old plant text) (one : CallRead old call new) where
  abbrev read_on : HasRead (bytes_of old) (with_lines p.script (lines.One call ∷ [])) new
  read_on = (one.goes_on p.script p.read).0

  pub reading_on : IsReading new
  reading_on = record {
    script = with_lines p.script (lines.One call ∷ []);
    read = subst (λ (b : List ℕ). HasRead b (with_lines p.script (lines.One call ∷ [])) new) (sym one.whole) read_on;
    whole = p.whole;
    one = rw one.whole p.one;
  }

pub plays_on : (old new : Lines) (plant next : BusPlantRecord) (text after : List ℕ) (call : Call) → IsPlaying old plant text → CallRead old call new → Steps call plant next text after None → IsPlaying new next after
unfolding reading_on
plays_on old new plant next text after call p one st =
    let r = reading_on old new plant text call p one in
    record { script = r.script; read = r.read; whole = r.whole; one = r.one; stands = stands_on p.script plant next text after call p.stands st }

pub plays_full : (old new : Lines) (plant next : BusPlantRecord) (text after : List ℕ) (call : Call) (n : ℕ) → IsPlaying old plant text → CallRead old call new → Steps call plant next text after (Some n) → AreLast new
    → IsPlayed (bytes_of old) plant.book.site plant.buses after (Some n)
plays_full old new plant next text after call n p one st last =
    let script : ScriptRecord = with_lines p.script (lines.One call ∷ []) in
    let rest = last (bytes_of old) script (read_on old new plant text call p one) in
    full_played (bytes_of old) p.script plant next text after call n rest.0 p.stands st rest.1 (rest_are_calls (bytes_of old) script p.whole rest.0 p.one rest.1)

pub plays_end : (old new : Lines) (plant : BusPlantRecord) (text : List ℕ) → IsPlaying old plant text → NextCall old new None → IsPlayed (bytes_of old) plant.book.site plant.buses text None
plays_end old new plant text p ends = all_played (bytes_of old) p.script plant text p.stands (ends p.script p.read)

-- the start

nothing_is : (first later : List Deed) → [] ≡ first ++ later → [] ≡ first
nothing_is [] later e = refl
nothing_is (x ∷ first) later e = absurd cc

pub starts_playing : (opened : Opened) (text : List ℕ) → IsOpened opened → text ≡ flat_map bus_text opened.plant.buses ++ head_text opened.plant.book.site opened.start → IsPlaying opened.lines opened.plant text
starts_playing opened text is added =
    let site : SiteRecord = opened.plant.book.site in
    record {
      script = script_at opened;
      read = is.read;
      whole = is.whole;
      one = is.one;
      stands = record {
        calls = [];
        lines_are = refl;
        deeds = [];
        goes_on = λ more later full p. p;
        each = λ first later e. subst (λ (ds : List Deed). IsSafeBook opened.plant.buses (book_of site opened.start ds)) (nothing_is first later e) is.safe;
        book_is = is.book_is;
        text_is = added ∙ sym (append-nil (flat_map bus_text opened.plant.buses ++ head_text site opened.start));
      };
    }

-- the book of a plant that was opened
pub opened_book : (part : PartRecord) (site : SiteRecord) (start : ℕ) → part ≡ part_of site start [] → IsKept part → IsBook (book_of site start [])
opened_book part site start is kept =
    let k = subst IsKept is kept in
    let before = k.of_life.before in
    let behind = k.of_life.behind in
    subst (λ (b : List Entry). IsBook (book_behind b (part_of site start []))) behind.carry behind.book

pub opened_under : (part : PartRecord) (site : SiteRecord) (start : ℕ) (buses : List bus.Bus) → part ≡ part_of site start [] → IsBook (book_of site start []) → EachBook part (ReservesUnderCaps buses) → ReservesUnderCaps buses (book_of site start [])
opened_under part site start buses is kept under =
    let each = subst (λ (p : PartRecord). EachBook p (ReservesUnderCaps buses)) is under in
    each [] (record { carry = refl; book = kept })

-- the head of a script of one life was read

pub reads_head : (bytes : List ℕ) (begun : Begun) (size : sizes.SiteSize) → HasOneLife bytes size → HasRead bytes (script_begun begun) begun.lines → IsReading begun.lines
reads_head bytes begun size one has = record {
  script = script_begun begun;
  read = subst (λ (b : List ℕ). HasRead b (script_begun begun) begun.lines) (sym has.whole) has;
  whole = one.script;
  one = rw has.whole one.is_script;
}

pub opens : (front : fronts.Front) (size : sizes.SiteSize) (begun : Begun) (part : PartRecord) (buses : List bus.Bus) (made : BusPlantRecord) → HasOneLife front.script.now size → HasRead front.script.now (script_begun begun) begun.lines
    → part ≡ part_of begun.site begun.start [] → IsKept part → buses ≡ front_buses front → made ≡ record { book = part; buses = buses } → EachFits part.site [] buses → EachBook part (ReservesUnderCaps buses)
    → OpensFront front (record { plant = made; start = begun.start; lines = begun.lines })
unfolding reads_head
opens front size begun part buses made one has is kept are made_is fit under =
    let reading = reads_head front.script.now begun size one has in
    let book = opened_book part begun.site begun.start is kept in
    let own : BusPlantRecord = record { book = part_of begun.site begun.start []; buses = buses } in
    let same : made ≡ own = made_is ∙ ap (λ (p : PartRecord). record { book = p; buses = buses }) is in
    subst (λ (plant : BusPlantRecord). OpensFront front (record { plant = plant; start = begun.start; lines = begun.lines })) (sym same)
    (record {
      is = record {
        whole = one.script;
        one = reading.one;
        read = reading.read;
        book_is = refl;
        safe = record { book_is = book; under = opened_under part begun.site begun.start buses is book under };
        fit = subst (λ (p : PartRecord). EachFits p.site [] buses) is fit;
      };
      bytes_are = has.whole;
      buses_are = are;
    })

pub not_opened : (front : fronts.Front) (begun : Begun) (part : PartRecord) (buses : List bus.Bus) (fault : BusFault) → HasRead front.script.now (script_begun begun) begun.lines → part ≡ part_of begun.site begun.start []
    → buses ≡ front_buses front → IsFirstFault part.site buses fault → AreLast begun.lines
    → (script : ScriptRecord) × IsScript front.script.now script × IsFirstFault script.site (front_buses front) fault
not_opened front begun part buses fault has is are refused last =
    let rest = last front.script.now (script_begun begun) has in
    (with_lines (script_begun begun) rest.0, rest.1, subst (λ (bs : List bus.Bus). IsFirstFault begun.site bs fault) are (subst (λ (p : PartRecord). IsFirstFault p.site buses fault) is refused))
