use Rattle.std.proofs.Common.{◌+◌, ◌∙◌, [], ◌∷◌, ap, length, arith, length-append}
use Rattle.pp_gate.proofs.Growing.{Grows_more}
use Rattle.pp_bounded_trees.proofs.Exclusive.{choices_turn}
use Rattle.pp_bounded_trees.proofs.choices.choices.Goals as goal

pub returns-in_err-none-clause-grows : goal.returns-in_err-none-clause-grows
returns-in_err-none-clause-grows c =
    Grows_more _ _ _ _ 3 _ c.loop-place.invariant.grows
    (Grows_more _ _ _ 2 1 3 (Grows_more _ _ _ 1 1 2 c.in_ok-input.ensures.grows c.in_ok-first.ensures.adds.grows
    (omega arith)) c.in_err-none.ensures.adds.grows (omega arith))
    (let end = c.loop-place-test.true in let e = c.loop-place.auto._place-end in omega arith)

pub loop-place-preserved : goal.loop-place-preserved
loop-place-preserved c =
    let now = c.loop-place.invariant in
    let input = c.in_ok-input.ensures in
    record {
      grows = Grows_more _ _ _ _ 3 _ now.grows
          (Grows_more _ _ _ 2 1 3 (Grows_more _ _ _ 1 1 2 input.grows c.in_ok-first.ensures.adds.grows (omega arith))
          c.in_ok-none.ensures.adds.grows (omega arith))
          (omega arith);
      circuit = c.in_ok-none.ensures.adds.circuit;
      len = ap length c.in_ok-push.ensures.ok ∙ length-append c.loop-place.lits (c.in_ok-first.first ∷ [])
          ∙ ap (λ n. n + 1) now.len;
      choices = choices_turn _ _ _ _ _ _ _ _ _ _ _ _ _ now.grows input.grows input.input input.var input.value
          c.in_ok-first.ensures.adds c.in_ok-first.ensures.stands c.negated.ensures c.in_ok-none.ensures.adds
          c.in_ok-none.ensures.stands c.in_ok-push.ensures.ok now.choices;
    }
