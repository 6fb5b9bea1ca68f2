use Rattle.std.proofs.Common.{◌≡◌, ◌∙◌, List, ℕ, ◌++◌, ap, refl, sym, subst, Option, Some, None, false}
use Rattle.std.specs.Prelude.{is_some, OnErr}
use Rattle.plant_book.specs.Site.{SiteRecord}
use Rattle.plant_book.specs.Part.{CarryRecord, PartRecord}
use Rattle.stream_io.specs.Streams.{AppendsFront}
use Rattle.script_text.specs.Text as texts
use Rattle.operator_console.specs.Comments.{head_before}
use Rattle.operator_console.proofs.Texts.{front_is}
use Rattle.operator_console.proofs.rolled.write_head.Goals as goal

first_head : (site : SiteRecord) (start : ℕ) (carry : Option CarryRecord) → is_some carry ≡ false → texts.head_text site start ≡ head_before site start carry
first_head site start None e = refl
first_head site start (Some carry) e = absurd cc

pub returns-in-Ok-clause-front : goal.returns-in-Ok-clause-front
returns-in-Ok-clause-front g c =
    let book = c.book.inside in
    let same : c.deref.result.now ≡ texts.head_text book.site book.start = c.deref.ensures.value ∙ c.in-Ok.ensures.text ∙ ap (λ (t : List ℕ). t ++ texts.head_text book.site book.start) c.new-text.ensures.items in
    let first : is_some book.carry ≡ false = sym c.is_some.ensures ∙ c.if-is_some.false in
    let P : PartRecord → Type 0 = λ b. OnErr c.write.result (AppendsFront (g.O.Sink.taken c.args.out.now) (g.O.Sink.taken c.write.new.out) (head_before b.site b.start b.carry)) in
    subst P c.book.view_is (front_is c.write.result _ _ _ _ (same ∙ first_head book.site book.start book.carry first) c.write.ensures.front)
