use Rattle.std.proofs.Common.{◌∙◌, ◌∷◌, [], ◌++◌, ap, sym, reverse}
use Rattle.pp_store.proofs.Pairs.{reverse_push}
use Rattle.pp_store.proofs.Steps.{taken_next}
use Rattle.pp_store.proofs.unload.popped.Goals as goal

pub loop-preserved : goal.loop-preserved
loop-preserved g c =
    let before = sym c.loop.invariant.1 ∙ ap reverse c.in-Some.ensures ∙ reverse_push c.pop.new.self c.in-Some.value in
    let all = reverse c.args.values.now in
    let next = taken_next c.loop.counter all (reverse c.pop.new.self) c.in-Some.value before in (
      c.in_ok-push-in-Some.ensures.ok ∙ ap (λ l. l ++ c.in-Some.value ∷ []) c.loop.invariant.0 ∙ sym next.0,
      sym next.1,
    )
