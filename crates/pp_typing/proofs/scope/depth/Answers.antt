use Rattle.std.proofs.Common.{sym}
use Rattle.std.proofs.lemmas.List.{length-map}
use Rattle.pp_typing.specs.Views.{shown}
use Rattle.pp_typing.proofs.scope.depth.Goals as goal

pub returns : goal.returns
returns c = let e = length-map c.args.scope.now shown in sym e
