-- From an input to its replay.
use Rattle.std.proofs.Common.{◌≡◌, ℕ, List, [], Option, Some, None, refl, sym, ap, subst, ◌∙◌}
use Rattle.std.proofs.lemmas.Option.{none-some}
use Rattle.plant_book.specs.Site.{SiteRecord}
use Rattle.plant_ledger.specs.declared.opening.OpenFault.{OpenFault}
use Rattle.plant_ledger.specs.Opening.{open_fault}
use Rattle.plant_ledger.proofs.Kept.{kept_sound}
use Rattle.script_text.specs.declared.size.SiteSize as sizes
use Rattle.script_text.specs.Script.{ScriptRecord}
use Rattle.script_text.proofs.Once as script
use Rattle.one_life_script.specs.OneLife.{IsOneLifeScript}
use Rattle.busbars.specs.declared.bus.Bus as bus
use Rattle.busbars.specs.Buses.{EachFits, IsFirstFault}
use Rattle.busbars.proofs.Under.{holds_under}
use Rattle.nested_replay.specs.declared.front.Front as fronts
use Rattle.nested_replay.specs.declared.replay.Opened.{Opened}
use Rattle.nested_replay.specs.declared.replay.NestedFault.{NestedFault}
use Rattle.nested_replay.specs.declared.replay.NestedFault.TheVariants as faults
use Rattle.nested_replay.specs.Nested.{NestedRecord, IsNested}
use Rattle.nested_replay.specs.Reading.{IsFront, IsJudged, front_buses}
use Rattle.nested_replay.specs.Played.{book_of, entries_of}
use Rattle.nested_replay.specs.Playing.{IsPlayed, OpensFront, NotOpened, bytes_of}
use Rattle.nested_replay.specs.Replay.{IsNestedReplay, IsSiteRefused, IsBadNested, Explains}
use Rattle.nested_replay.proofs.Rows.{taken_few}
use Rattle.nested_replay.proofs.Once.{one_nested, not_both}

abbrev nested_of : fronts.Front → ScriptRecord → NestedRecord
nested_of front script = record { buses = front_buses front; script = script }

is_nested : (bytes : List ℕ) (front : fronts.Front) (script : ScriptRecord) → IsFront bytes front → IsOneLifeScript front.script.now script → IsNested bytes (nested_of front script)
is_nested bytes front script is one = record {
  front = is.read.front;
  said = is.read.said;
  rest = front.script.now;
  rows = is.read.rows;
  say = is.read.say;
  buses = sym is.read.buses_are;
  few = taken_few front.count front.places is.few;
  script = one;
}

pub site_refused : (bytes : List ℕ) (front : fronts.Front) (size : sizes.SiteSize) (fault : OpenFault) (j : IsJudged bytes front size) → Some fault ≡ open_fault j.one.script.site → IsSiteRefused bytes fault
site_refused bytes front size fault j is = record { nested = nested_of front j.one.script; is_nested = is_nested bytes front j.one.script j.front_is j.one.is_script; refused = sym is }

pub no_memory : (bytes : List ℕ) (front : fronts.Front) (size : sizes.SiteSize) (j : IsJudged bytes front size) → None ≡ open_fault j.one.script.site → Explains faults.NoMemory bytes
no_memory bytes front size j none =
    let nested = is_nested bytes front j.one.script j.front_is j.one.is_script in (
      (λ line kind bad. not_both bytes (nested_of front j.one.script) line kind nested bad),
      (λ fault refused. none-some fault (none ∙ ap (λ (n : NestedRecord). open_fault n.script.site) (one_nested bytes (nested_of front j.one.script) refused.nested nested refused.is_nested) ∙ refused.refused)),
    )

pub bad_explains : (bytes : List ℕ) (fault : NestedFault) → IsBadNested fault bytes → Explains fault bytes
bad_explains bytes (faults.BadLine line kind) bad = bad
bad_explains bytes (faults.BadSite fault) bad = absurd bad
bad_explains bytes (faults.BadBus fault) bad = absurd bad
bad_explains bytes faults.NoMemory bad = absurd bad

pub not_opened_explains : (bytes : List ℕ) (front : fronts.Front) (size : sizes.SiteSize) (fault : NestedFault) (j : IsJudged bytes front size) → None ≡ open_fault j.one.script.site → NotOpened front fault → Explains fault bytes
not_opened_explains bytes front size (faults.BadLine line kind) j none why = absurd why
not_opened_explains bytes front size (faults.BadSite fault) j none why = absurd why
not_opened_explains bytes front size faults.NoMemory j none why = no_memory bytes front size j none
not_opened_explains bytes front size (faults.BadBus fault) j none why =
    let same = script.one_script front.script.now j.one.script why.0 j.one.is_script.is_script why.1 in
    record {
      nested = nested_of front j.one.script;
      is_nested = is_nested bytes front j.one.script j.front_is j.one.is_script;
      openable = sym none;
      refused = subst (λ (s : ScriptRecord). IsFirstFault s.site (front_buses front) fault) (sym same) why.2;
    }

pub is_replay : (bytes : List ℕ) (front : fronts.Front) (size : sizes.SiteSize) (opened : Opened) (text : List ℕ) (full : Option ℕ) (j : IsJudged bytes front size) → OpensFront front opened
    → IsPlayed (bytes_of opened.lines) opened.plant.book.site opened.plant.buses text full → IsNestedReplay bytes full text
is_replay bytes front size opened text full j o p0 =
    let p = subst (λ (b : List ℕ). IsPlayed b opened.plant.book.site opened.plant.buses text full) o.bytes_are p0 in
    let q = subst (λ (bs : List bus.Bus). IsPlayed front.script.now opened.plant.book.site bs text full) o.buses_are p in
    let whole : IsOneLifeScript front.script.now q.script = record { is_script = q.is_script; one = j.one.is_script.one } in
    let safe = q.each [] q.deeds refl in
    record {
      nested = nested_of front q.script;
      is_nested = is_nested bytes front q.script j.front_is whole;
      openable = safe.book_is.openable;
      fit = subst (λ (site : SiteRecord). EachFits site [] (front_buses front)) (sym q.site_is) (subst (λ (bs : List bus.Bus). EachFits opened.plant.book.site [] bs) o.buses_are o.is.fit);
      calls = q.calls;
      lines = q.lines_are;
      deeds = q.deeds;
      plays = q.plays;
      life = λ first later e. (q.each first later e).book_is;
      sound = λ first later e. kept_sound (record { site = q.script.site; start = q.script.start; carry = None; entries = entries_of first }) [] (record { carry = refl; book = (q.each first later e).book_is });
      holds = λ first later e. holds_under (front_buses front) (book_of q.script.site q.script.start first) (q.each first later e).under;
      text_is = q.text_is;
    }
