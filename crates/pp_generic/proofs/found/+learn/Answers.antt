use Rattle.std.proofs.Common.{◌≡◌, ap, sym, ◌∙◌, arith, map, true}
use Rattle.std.specs.Prelude.{nat_eq}
use Rattle.pp_generic.specs.Found.{learn, learn_all}
use Rattle.pp_generic.proofs.Ends.{learn_rest, learn_roots}
use Rattle.pp_generic.proofs.found.+learn.Goals as goal

pub returns-after-loop-i : goal.returns-after-loop-i
returns-after-loop-i t c =
    let xs = c.as_slice-xs.result.now in
    let ys = c.as_slice-ys.result.now in
    let f = c.args.found.now in
    let same : nat_eq c.in-Root-Root.r c.in-Root-Root.q ≡ true = grind (arith, c.if-r-q.false) in
    let own = learn_roots c.args.declared.now c.args.actual.now c.in-Root-Root.r c.in-Root-Root.q c.in-Root-Root.xs
    c.in-Root-Root.ys f c.in-Root-Root.is-0 c.in-Root-Root.is-1 same in
    let read = ap (λ zs. learn_all (map learn zs) ys f) c.as_slice-xs.ensures
    ∙ ap (λ zs. learn_all (map learn c.in-Root-Root.xs) zs f) c.as_slice-ys.ensures in
    let done = learn_rest xs ys c.loop-i.found c.loop-i.i (omega (arith, c.loop-i-test.false, c.min-i-end.ensures)) in
    sym done ∙ sym c.loop-i.invariant ∙ read ∙ sym own
