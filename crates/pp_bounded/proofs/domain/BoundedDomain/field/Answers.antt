use Rattle.std.proofs.Common.{subst}
use Rattle.pp_domain.specs.Answers.{IsFieldRead}
use Rattle.pp_bounded_trees.specs.declared.arena.Trees.{Trees}
use Rattle.pp_bounded_trees.specs.Meaning.{bounded_sense}
use Rattle.pp_bounded.proofs.domain.BoundedDomain.field.Goals as goal

pub returns-clause-answer : goal.returns-clause-answer
returns-clause-answer c = λ s has.
    subst (λ (d : Trees). IsFieldRead bounded_sense c.args.table.now d c.args.circuit.now c.field_symbol.new.self
    c.field_symbol.new.circuit c.args.tree.now c.args.ctor c.args.place s c.in_ok-symbol.symbol) c.self.view_is
    (c.in_ok-symbol.ensures.answer s has)
