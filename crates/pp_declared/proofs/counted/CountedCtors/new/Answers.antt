use Rattle.std.proofs.Common.{◌∙◌, ◌++◌, ◌∷◌, [], ap, sym, add-one}
use Rattle.pp_declared.specs.Counts.{counts_from}
use Rattle.pp_declared.proofs.Counting.{counts_none}
use Rattle.pp_declared.proofs.counted.CountedCtors.new.Goals as goal

pub loop-preserved : goal.loop-preserved
loop-preserved c =
    c.in_ok-push.ensures.ok ∙ ap (λ l. l ++ 0 ∷ []) c.loop.invariant ∙ counts_none 0 c.loop.counter
    ∙ ap (λ n. counts_from 0 n []) (sym (add-one c.loop.counter))
