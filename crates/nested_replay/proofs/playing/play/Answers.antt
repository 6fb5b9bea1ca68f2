use Rattle.std.proofs.Common.{◌≡◌, ◌∙◌, ℕ, List, subst, None, Some, rules}
use Rattle.plant_book.specs.Site.{SiteRecord}
use Rattle.busbars.specs.declared.bus.Bus as bus
use Rattle.nested_replay.specs.Playing.{IsPlayed, bytes_of}
use Rattle.nested_replay.proofs.Playings.{reading_on, plays_on, plays_full, plays_end}
use Rattle.nested_replay.proofs.Deeds.{same_site}
use Rattle.nested_replay.proofs.playing.play.Goals as goal

pub read_rest-requires : goal.read_rest-requires
read_rest-requires c = reading_on c.loop-call.lines c.next_call.new.lines c.loop-call.plant c.loop-call.text.items c.in-Some.call c.loop-call.invariant.playing c.in-Some.ensures

pub returns-in-Some-2 : goal.returns-in-Some-2
returns-in-Some-2 c =
    let i = c.loop-call.invariant in
    subst (λ (b : List ℕ). IsPlayed b c.args.plant.now.book.site c.args.plant.now.buses c.step.new.text.items (Some c.in-Some-2.calls)) i.bytes
    (subst (λ (site : SiteRecord). IsPlayed (bytes_of c.loop-call.lines) site c.args.plant.now.buses c.step.new.text.items (Some c.in-Some-2.calls)) i.site
    (subst (λ (bs : List bus.Bus). IsPlayed (bytes_of c.loop-call.lines) c.loop-call.plant.book.site bs c.step.new.text.items (Some c.in-Some-2.calls)) i.buses
    (plays_full c.loop-call.lines c.next_call.new.lines c.loop-call.plant c.step.new.plant c.loop-call.text.items c.step.new.text.items c.in-Some.call c.in-Some-2.calls i.playing c.in-Some.ensures (rw c.in-Some-2.is at c.in_ok-calls.ensures) c.read_rest.ensures)))

pub loop-call-preserved : goal.loop-call-preserved
loop-call-preserved c =
    let i = c.loop-call.invariant in
    let none : c.in_ok-calls.field-0 ≡ None = search rules in
    let steps = rw none at c.in_ok-calls.ensures in
    record {
      playing = plays_on c.loop-call.lines c.next_call.new.lines c.loop-call.plant c.step.new.plant c.loop-call.text.items c.step.new.text.items c.in-Some.call i.playing c.in-Some.ensures steps;
      bytes = c.in-Some.ensures.whole ∙ i.bytes;
      site = same_site i.playing.script c.loop-call.plant c.step.new.plant c.loop-call.text.items c.step.new.text.items c.in-Some.call i.playing.stands steps ∙ i.site;
      buses = steps.buses ∙ i.buses;
    }

pub returns : goal.returns
returns c =
    let i = c.loop-call.invariant in
    let none : c.next_call.result ≡ None = search rules in
    subst (λ (b : List ℕ). IsPlayed b c.args.plant.now.book.site c.args.plant.now.buses c.loop-call.text.items None) i.bytes
    (subst (λ (site : SiteRecord). IsPlayed (bytes_of c.loop-call.lines) site c.args.plant.now.buses c.loop-call.text.items None) i.site
    (subst (λ (bs : List bus.Bus). IsPlayed (bytes_of c.loop-call.lines) c.loop-call.plant.book.site bs c.loop-call.text.items None) i.buses
    (plays_end c.loop-call.lines c.next_call.new.lines c.loop-call.plant c.loop-call.text.items i.playing (rw none at c.next_call.ensures))))
