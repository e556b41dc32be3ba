use Rattle.std.proofs.Common.{List, ◌++◌, ◌∷◌, [], ap, ◌∙◌}
use Rattle.pp_clause.specs.declared.log.Lemma.{Lemma}
use Rattle.pp_cdcl.proofs.Moves.{refutes}
use Rattle.pp_cdcl.proofs.analyze.refute.Goals as goal

pub returns : goal.returns
returns c = refutes _ _ _ c.args.search.now.watch c.args.search.now.log c.push.new.self c.in_ok-last.last
    c.requires.logged
    c.requires.assumed (rw c.clauses.ensures.value at c.in_ok-last.ensures.derives)
    (rw c.trail.ensures.value at c.in_ok-last.ensures.decided)
    (c.in_ok-push.ensures.ok ∙ ap (λ (z : List Lemma). z ++ c.in_ok-last.last ∷ []) c.take_log-log.ensures.log)
