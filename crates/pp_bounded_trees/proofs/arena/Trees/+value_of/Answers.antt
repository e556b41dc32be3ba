use Rattle.std.proofs.Common.{◌∙◌, List, slice_get, sym, ap, arith}
use Rattle.std.proofs.lemmas.List.{take_all}
use Rattle.pp_clause.specs.Assignment.{assigned}
use Rattle.pp_gate.proofs.Places.{at_read}
use Rattle.pp_domain.specs.declared.symbol.Symbol.{Symbol}
use Rattle.pp_bounded_trees.specs.declared.arena.BoundedTree.{BoundedTree}
use Rattle.pp_bounded_trees.specs.Values.{built, field_values, symbol_value, values_of}
use Rattle.pp_bounded_trees.proofs.Reading.{fields_next, rank, read_own, some_true}
use Rattle.pp_bounded_trees.proofs.arena.Trees.+value_of.Goals as goal

pub first_true-place-requires : goal.first_true-place-requires
first_true-place-requires t c =
    some_true c.args.table.now c.args.self.now (assigned c.args.assignment.now) c.args.symbol.now c.in-Tree.tree
    c.requires c.in-Tree.is c.alternatives-alternatives.result.now c.alternatives-alternatives.ensures

pub value_of-requires : goal.value_of-requires
value_of-requires t c =
    let read = read_own c.args.table.now c.args.self.now (assigned c.args.assignment.now) c.args.symbol.now
    c.in-Tree.tree c.requires c.in-Tree.is c.alternatives-alternatives.result.now c.alternatives-alternatives.ensures
    c.first_true-place.result c.index-alternatives-place.result c.first_true-place.ensures.own
    c.first_true-place.ensures.within c.index-alternatives-place.is in
    let at = at_read c.as_slice-fields.result.now c.loop-field.field-index c.field-item.result c.loop-field-test.true
    c.field-item.is in
    let field = read.fields c.loop-field.field-index c.field-item.result
    (ap (λ (xs : List (Symbol BoundedTree)). slice_get xs c.loop-field.field-index) (sym c.as_slice-fields.ensures)
    ∙ at) in
    let whole = ap rank c.in-Tree.is in
    (omega (arith, field.1, whole), field.0)

pub loop-field-preserved : goal.loop-field-preserved
loop-field-preserved t c =
    fields_next (symbol_value (assigned c.args.assignment.now)
    (values_of (assigned c.args.assignment.now) c.args.self.now.nodes)) c.as_slice-fields.result.now
    c.loop-field.field-index c.field-item.result c.loop-field.values c.push.new.self c.in_ok-value-in-Tree.value
    (at_read c.as_slice-fields.result.now c.loop-field.field-index c.field-item.result c.loop-field-test.true
    c.field-item.is) c.loop-field.invariant c.in_ok-value-in-Tree.ensures c.in_ok-push-in-Tree.ensures.ok

pub returns-after-loop-field : goal.returns-after-loop-field
returns-after-loop-field t c =
    let read = read_own c.args.table.now c.args.self.now (assigned c.args.assignment.now) c.args.symbol.now
    c.in-Tree.tree c.requires c.in-Tree.is c.alternatives-alternatives.result.now c.alternatives-alternatives.ensures
    c.first_true-place.result c.index-alternatives-place.result c.first_true-place.ensures.own
    c.first_true-place.ensures.within c.index-alternatives-place.is in
    let value = symbol_value (assigned c.args.assignment.now)
    (values_of (assigned c.args.assignment.now) c.args.self.now.nodes) in
    let fields = field_values (assigned c.args.assignment.now)
    (values_of (assigned c.args.assignment.now) c.args.self.now.nodes) in
    let all = take_all c.loop-field.field-index c.as_slice-fields.result.now c.loop-field-test.false
    ∙ c.as_slice-fields.ensures in
    ap value c.in-Tree.is ∙ read.whole ∙ ap (built c.index-alternatives-place.result.ctor)
    (ap fields (sym all) ∙ c.loop-field.invariant)
