use Rattle.std.proofs.Common.{arith, length, subst}
use Rattle.pp_store.specs.declared.held.Held.{Held}
use Rattle.pp_store.specs.declared.held.Held.TheVariants.{Tree}
use Rattle.pp_store.specs.Values.{IsBefore}
use Rattle.std.proofs.lemmas.List.{get_or_default}
use Rattle.pp_store.proofs.Marking.{marks_leaf, marks_tree}
use Rattle.pp_store.proofs.below.mark.Goals as goal
use Rattle.pp_store.proofs.below.mark.Goals.{in-Tree, in_default}

pub loop-field-preserved : goal.loop-field-preserved
loop-field-preserved c =
    elim c.match-field.branch [
      | in-Tree w ↦
          marks_tree c.args.fields.now c.loop-field.field-index _ c.args.marks.now c.loop-field.marks
          c.match-field.marks c.loop-field-test.true
          (get_or_default c.args.fields.now c.loop-field.field-index _ _ c.loop-field-test.true)
          c.loop-field.invariant w.in-Tree.number w.in-Tree.is
          (let below : IsBefore (length c.args.marks.now) (Tree w.in-Tree.number) =
          subst (λ (h : Held). IsBefore (length c.args.marks.now) h) w.in-Tree.is
          (c.requires c.loop-field.field-index _ c.loop-field-test.true) in
          omega (arith, below, c.loop-field.auto.marks))
          w.marks-is
      | in_default w ↦
          marks_leaf c.args.fields.now c.loop-field.field-index _ c.args.marks.now c.loop-field.marks
          c.match-field.marks c.loop-field-test.true
          (get_or_default c.args.fields.now c.loop-field.field-index _ _ c.loop-field-test.true)
          c.loop-field.invariant w.in_default.not-Tree w.marks-is
    ]
