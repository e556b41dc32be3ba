use Rattle.std.proofs.Common.{◌∙◌}
use Rattle.pp_declared.proofs.Owned.{bare}
use Rattle.pp_declared.proofs.roots.is_bare.Goals as goal

pub returns : goal.returns
returns c = c.is_empty.ensures ∙ bare c.args.texts.now
