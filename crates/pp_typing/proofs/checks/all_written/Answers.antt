use Rattle.std.proofs.Common.{map}
use Rattle.pp_tree.specs.Shown.{type_of, type_trees}
use Rattle.pp_typing.proofs.Told.{sorts_told}
use Rattle.pp_typing.proofs.checks.all_written.Goals as goal

pub returns : goal.returns
returns c =
    sorts_told c.sorts_of.result _ _ _ _ _ _ (type_trees (map type_of c.args.texts.now)) c.types_of-scope.ensures.roots
    c.types_of-scope.ensures.params c.types_of-scope.ensures.source c.sorts_of.ensures
