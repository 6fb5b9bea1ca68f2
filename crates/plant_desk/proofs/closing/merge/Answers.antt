use Rattle.std.proofs.Common.{◌≡◌, List, [], ◌∷◌, ◌++◌, ap, subst, ◌∙◌, arith}
use Rattle.std.specs.Prelude.{All}
use Rattle.std.proofs.lemmas.List.Elements.{All-head, All-tail}
use Rattle.plant_desk.specs.Rule.{Sat}
use Rattle.plant_desk.specs.Passes.{PassRecord}
use Rattle.plant_desk.proofs.Ends.{comes, joins}
use Rattle.plant_desk.proofs.closing.merge.Goals as goal

at_middle : (P : PassRecord → Type 0) (before : List PassRecord) (pass : PassRecord) (later : List PassRecord) → All P ((before ++ pass ∷ []) ++ later) → P pass
at_middle P [] pass later all = All-head P pass later all
at_middle P (one ∷ before) pass later all = at_middle P before pass later (All-tail P one ((before ++ pass ∷ []) ++ later) all)

pub load_new_seat-all-requires : goal.load_new_seat-all-requires
load_new_seat-all-requires c = let board = c.requires.board in let words = board.words in (omega arith, comes _ _ _)

pub join_seat-requires : goal.join_seat-requires
join_seat-requires c =
    let board = c.requires.board in
    let words = board.words in
    let i = c.loop-pass.invariant in (
      i.0,
      ap (λ (v : PassRecord). v.desk.name) c.pass.view_is
          ∙ at_middle (λ (v : PassRecord). v.desk.name ≡ c.args.board.now.table_id) c.pop.new.self.items c.in-Some.pass i.1.0
          (subst (All (λ (v : PassRecord). v.desk.name ≡ c.args.board.now.table_id)) (i.1.1 ∙ ap (λ (ps : List PassRecord). ps ++ i.1.0) c.in-Some.ensures.items) c.requires.passes),
      ap (λ (m : Sat). m.1) c.pass.invariant,
      omega arith,
      joins _ _ _ _ _ _ (ap (λ (m : Sat). m.0.holds) i.1.2) (ap (λ (m : Sat). m.0.holds) c.pass.invariant),
    )
