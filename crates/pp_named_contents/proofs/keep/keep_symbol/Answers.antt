use Rattle.std.proofs.Common.{[], ◌∷◌, Some, ap, subst, sym}
use Rattle.pp_domain.specs.declared.symbol.Symbol.{Symbol}
use Rattle.pp_named_trees.specs.declared.arena.NamedTree.{NamedTree}
use Rattle.pp_named_contents.specs.Kept.{AreKept}
use Rattle.pp_named_contents.proofs.Kept.{keeps_one, kept_new, kept_tree}
use Rattle.pp_named_contents.proofs.keep.keep_symbol.Goals as goal

pub returns-in_ok-keep-in-Tree-clause-keeps : goal.returns-in_ok-keep-in-Tree-clause-keeps
returns-in_ok-keep-in-Tree-clause-keeps c =
    keeps_one c.args.circuit.now c.args.trees.now c.keep.new.self _
    (c.requires.named 0 c.in-Tree.tree (ap Some c.in-Tree.is)) c.in_ok-keep-in-Tree.ensures.kept

pub returns-in_ok-keep-in-Tree-clause-kept : goal.returns-in_ok-keep-in-Tree-clause-kept
returns-in_ok-keep-in-Tree-clause-kept c =
    subst (λ (x : Symbol NamedTree). AreKept c.keep.new.self.nodes (x ∷ [])) (sym c.in-Tree.is)
    (kept_tree c.keep.new.self.nodes c.in-Tree.tree
    (kept_new c.args.trees.now c.keep.new.self c.in-Tree.tree c.in_ok-keep-in-Tree.ensures.kept))
