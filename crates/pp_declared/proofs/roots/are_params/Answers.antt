use Rattle.pp_declared.proofs.Owned.{params_count}
use Rattle.pp_declared.proofs.roots.are_params.Goals as goal

pub returns-then-params-texts : goal.returns-then-params-texts
returns-then-params-texts c = params_count c.args.params.now c.args.texts.now c.if-params-texts.true
