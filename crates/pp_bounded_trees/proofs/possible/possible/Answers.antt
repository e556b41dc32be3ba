use Rattle.std.proofs.Common.{◌≡◌, ◌∙◌, ◌+◌, List, length, refl, slice_get, sym, ap, arith, subst}
use Rattle.pp_prog.specs.declared.id.CtorId.{CtorId}
use Rattle.pp_prog.specs.declared.types.Ctor.{Ctor}
use Rattle.pp_prog.specs.Sizes.{ctors_of}
use Rattle.pp_gate.proofs.Places.{at_read}
use Rattle.pp_bounded_trees.proofs.Candidates.{PossibleBefore, possible_all, possible_push, possible_skip}
use Rattle.pp_bounded_trees.proofs.possible.possible.Goals as goal
use Rattle.pp_bounded_trees.proofs.possible.possible.Goals.{then-is_possible+in_ok-push, else-is_possible}

pub loop-place-preserved : goal.loop-place-preserved
loop-place-preserved c =
    let at = at_read c.ctors_of-ctors.result.now c.loop-place.place c.index-ctors-place.result c.loop-place-test.true
    c.index-ctors-place.is in
    let here = ap (λ (ks : List Ctor). slice_get ks c.loop-place.place) (sym c.ctors_of-ctors.ensures) ∙ at in
    elim c.if-is_possible.branch [
      | then-is_possible+in_ok-push w ↦
          subst (λ (cs : List CtorId). PossibleBefore c.args.table.now c.args.height c.args.of
          c.datatype.result.now.first.0 (c.loop-place.place + 1) cs) (sym w.found-is)
          (possible_push c.args.table.now c.args.height c.args.of c.datatype.result.now c.datatype.ensures
          c.loop-place.place c.index-ctors-place.result c.loop-place.found here c.loop-place.invariant _ _
          w.in_ok-push.ensures.ok refl (sym c.is_possible.ensures ∙ w.if-is_possible.true))
      | else-is_possible w ↦
          subst (λ (cs : List CtorId). PossibleBefore c.args.table.now c.args.height c.args.of
          c.datatype.result.now.first.0 (c.loop-place.place + 1) cs) (sym w.found-is)
          (possible_skip c.args.table.now c.args.height c.args.of c.datatype.result.now c.datatype.ensures
          c.loop-place.place c.index-ctors-place.result c.loop-place.found here c.loop-place.invariant
          (sym c.is_possible.ensures ∙ w.if-is_possible.false))
    ]

pub returns : goal.returns
returns c =
    let end : c.loop-place.place ≡ length (ctors_of c.args.table.now c.args.of) =
    (let t = c.loop-place-test.false in let e = c.loop-place.auto.place-end in
    let l = ap length c.ctors_of-ctors.ensures in omega arith) in
    possible_all c.args.table.now c.args.height c.args.of c.datatype.result.now c.datatype.ensures c.loop-place.place
    c.loop-place.found end c.loop-place.invariant
