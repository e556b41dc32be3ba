use Rattle.std.proofs.Common.{◌≡◌, ◌∙◌, refl, sym, subst}
use Rattle.pp_prog.specs.declared.sort.Sort.{Sort}
use Rattle.pp_prog.specs.declared.sort.Sort.TheVariants as sort
use Rattle.pp_domain.specs.declared.symbol.Symbol.TheVariants as symbol
use Rattle.pp_bounded_trees.specs.Fields.{IsBlank}
use Rattle.pp_bounded_trees.specs.Meaning.{bounded_sense}
use Rattle.pp_domain.proofs.UnknownSymbols.{plain_height, plain_symbol}
use Rattle.pp_bounded_trees.proofs.Blank.{Moves_unmoved, empty_fits, field_sort_same, pushed_fits}
use Rattle.pp_bounded_trees.proofs.Known.{Moves_same}
use Rattle.pp_bounded_trees.proofs.Pushed.{Moves_pushed}
use Rattle.pp_bounded_trees.proofs.arena.Trees.blank.Goals as goal

pub returns-in_err-tree-in-Tree-clause-moves : goal.returns-in_err-tree-in-Tree-clause-moves
returns-in_err-tree-in-Tree-clause-moves c =
    Moves_same _ _ _ _ c.requires.fits c.in_err-tree-in-Tree.ensures.err c.in_err-tree-in-Tree.ensures.ok

pub returns-in_ok-tree-in-Tree-clause-moves : goal.returns-in_ok-tree-in-Tree-clause-moves
returns-in_ok-tree-in-Tree-clause-moves c =
    Moves_pushed _ _ _ _ _ c.requires.fits c.in_ok-tree-in-Tree.ensures.nodes c.in_ok-tree-in-Tree.ensures.ok
    (empty_fits _ _ _ _ _ c.new-alternatives.ensures)

pub returns-in_ok-tree-in-Tree-clause-answer : goal.returns-in_ok-tree-in-Tree-clause-answer
returns-in_ok-tree-in-Tree-clause-answer c = λ s has.
    let is : sort.Tree c.in-Tree.of ≡ s = sym c.in-Tree.is ∙ field_sort_same c.args.table.now c.args.ctor
    c.args.place _ s c.field_sort-sort.ensures has in
    let tree = c.in_ok-tree-in-Tree.ensures in
    subst (λ (q : Sort). IsBlank c.push.new.self c.args.circuit.now c.args.height q
    (symbol.Tree c.in_ok-tree-in-Tree.tree)) is
    (record {
      of = (
        pushed_fits _ _ _ _ tree.nodes tree.number tree.of tree.height c.requires.height,
        tree.of,
      );
      height = tree.height;
    })

pub returns-in_err-plain-in_default-clause-moves : goal.returns-in_err-plain-in_default-clause-moves
returns-in_err-plain-in_default-clause-moves c = Moves_unmoved _ _ _ _ c.requires.fits refl

pub returns-in_ok-plain-in_default-clause-moves : goal.returns-in_ok-plain-in_default-clause-moves
returns-in_ok-plain-in_default-clause-moves c = Moves_unmoved _ _ _ _ c.requires.fits refl

pub returns-in_ok-plain-in_default-clause-answer : goal.returns-in_ok-plain-in_default-clause-answer
returns-in_ok-plain-in_default-clause-answer c = λ s has.
    let is : c.field_sort-sort.result ≡ s = field_sort_same c.args.table.now c.args.ctor c.args.place _ s
    c.field_sort-sort.ensures has in
    let plain = c.in_ok-plain-in_default.ensures.blank.of in
    subst (λ (q : Sort). IsBlank c.args.self.now c.args.circuit.now c.args.height q c.in_ok-plain-in_default.plain) is
    (record {
      of = plain_symbol bounded_sense c.args.self.now _ _ _ plain;
      height = plain_height bounded_sense c.args.self.now _ _ _ _ plain;
    })
