use Rattle.pp_tree.specs.Shown.{type_of}
use Rattle.pp_typing.proofs.Told.{sort_told}
use Rattle.pp_typing.proofs.checks.written.Goals as goal

pub returns : goal.returns
returns c =
    sort_told c.sort_of.result _ _ _ _ _ _ (type_of c.args.text.now) c.types_of-scope.ensures.roots
    c.types_of-scope.ensures.params c.types_of-scope.ensures.source c.sort_of.ensures
