use Rattle.std.proofs.Common.{subst}
use Rattle.pp_domain.specs.Answers.{IsFieldRead}
use Rattle.pp_named_trees.specs.declared.arena.NamedTrees.{NamedTrees}
use Rattle.pp_named_trees.specs.Meaning.{named_sense}
use Rattle.pp_named.proofs.domain.NamedDomain.field.Goals as goal

pub returns-clause-answer : goal.returns-clause-answer
returns-clause-answer c = λ s has.
    subst (λ (d : NamedTrees). IsFieldRead named_sense c.args.table.now d c.args.circuit.now c.field.new.trees
    c.field.new.circuit c.args.tree.now c.args.ctor c.args.place s c.in_ok-symbol.symbol) c.self.view_is
    (c.in_ok-symbol.ensures.answer s has)
