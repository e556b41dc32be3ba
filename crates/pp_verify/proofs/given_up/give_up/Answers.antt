use Rattle.std.proofs.Common.{◌∙◌, ◌+◌, List, Bool, arith, subst, sym}
use Rattle.pp_verify.specs.GivenUp.{GivesUpTo}
use Rattle.pp_verify.proofs.GivenUp.{gives_up_next, gives_up_none, gives_up_same}
use Rattle.pp_verify.proofs.given_up.give_up.Goals as goal
use Rattle.pp_verify.proofs.given_up.give_up.Goals.{then-in_cone, else-in_cone}

pub loop-g-init : goal.loop-g-init
loop-g-init c = gives_up_none c.args.program.now c.args.f.0 c.args.marks.now

pub loop-g-preserved : goal.loop-g-preserved
loop-g-preserved c =
    let p = c.args.program.now in
    let so = c.loop-g.invariant in
    let tells = c.in_cone.ensures p c.requires.plan (omega (arith, c.loop-g-test.true, c.function_count-g-end.ensures))
    c.requires.function in
    elim c.if-in_cone.branch [
      | then-in_cone w ↦ gives_up_next p c.args.f.0 c.args.marks.now c.loop-g.g c.loop-g.marks c.if-in_cone.marks so
          (omega (arith, so.size, c.requires.size, c.loop-g-test.true, c.function_count-g-end.ensures))
          (tells.0 w.if-in_cone.true) (w.marks-is ∙ w.set.ensures)
      | else-in_cone w ↦
          subst (λ (l : List Bool). GivesUpTo p (c.loop-g.g + 1) c.args.f.0 c.args.marks.now l) (sym w.marks-is)
          (gives_up_same p c.args.f.0 c.args.marks.now c.loop-g.g c.loop-g.marks so
          (λ cone. let told = tells.1 cone in let off = w.if-in_cone.false in cc))
    ]
