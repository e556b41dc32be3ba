use Rattle.std.proofs.Common.{◌∙◌, ◌++◌, ◌∷◌, [], ◌+◌, ap, sym, drop}
use Rattle.pp_declared.specs.Declare.{ctors_after}
use Rattle.pp_declared.specs.Shown.{class_ins}
use Rattle.pp_fault.specs.Part.{and_then}
use Rattle.pp_declared.proofs.NextCtor.{few_at, ctors_step}
use Rattle.pp_fault.proofs.Parts.{stops_by}
use Rattle.pp_declared.proofs.ctors.all_ctors.Goals as goal

pub next_ctor-requires-clause-few : goal.next_ctor-requires-clause-few
next_ctor-requires-clause-few c = few_at c.args.classes.now c.loop-i.i _ c.loop-i-test.true c.requires

pub returns-in_err-ctor : goal.returns-in_err-ctor
returns-in_err-ctor c =
    stops_by c.from_residual-in_err-ctor.result c.in_err-ctor.field-0.0 _ _ _ c.from_residual-in_err-ctor.ensures
    (c.loop-i.invariant.0
    ∙ ctors_step (class_ins c.args.roots.now.classes.now) c.loop-i.counted.ctors c.args.classes.now c.loop-i.i _
    c.loop-i-test.true) c.in_err-ctor.ensures.told

pub loop-i-preserved : goal.loop-i-preserved
loop-i-preserved c =
    let roots = class_ins c.args.roots.now.classes.now in
    let rest = class_ins (drop (c.loop-i.i + 1) c.args.classes.now) in (
      c.loop-i.invariant.0 ∙ ctors_step roots c.loop-i.counted.ctors c.args.classes.now c.loop-i.i _ c.loop-i-test.true
          ∙ ap (λ p. and_then p (λ t. ctors_after roots (c.loop-i.counted.ctors ++ t ∷ []) rest))
          c.in_ok-ctor.ensures.told
          ∙ ap (λ l. ctors_after roots l rest) (sym c.in_ok-push.ensures.adds),
      c.in_ok-push.ensures.roots ∙ c.loop-i.invariant.1,
    )
