use Rattle.std.proofs.Common.{◌∙◌}
use Rattle.pp_declared.specs.Shown.{class_ins, def_ins}
use Rattle.pp_declared.proofs.Known.{known}
use Rattle.pp_declared.proofs.all.with_sorts.Goals as goal

pub of-requires-clause-names : goal.of-requires-clause-names
of-requires-clause-names c =
    let k = known (class_ins c.args.roots.now) (class_ins c.args.ctors.now)
    (def_ins c.args.defs.now) c.in_ok-declared.declared c.in_ok-declared.ensures in
    let n = k.names in
    record {
      roots_named = c.requires.roots ∙ n.roots_named;
      ctors_named = c.requires.ctors ∙ n.ctors_named;
      functions_named = c.requires.functions ∙ n.functions_named;
    }

pub of-requires-clause-owners : goal.of-requires-clause-owners
of-requires-clause-owners c =
    (known (class_ins c.args.roots.now) (class_ins c.args.ctors.now)
    (def_ins c.args.defs.now) c.in_ok-declared.declared c.in_ok-declared.ensures).owners
