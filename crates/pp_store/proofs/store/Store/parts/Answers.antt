use Rattle.std.proofs.Common.{arith, ◌+◌, ◌≤◌, ◌∙◌, List, false, ap, length, sym, subst}
use Rattle.pp_prog.specs.declared.value.Value.TheVariants as value
use Rattle.pp_store.specs.declared.held.Held.{Held}
use Rattle.pp_store.specs.Nodes.{fields_at}
use Rattle.pp_store.specs.Values.{AreBefore, AreHeld, values_of}
use Rattle.pp_store.proofs.Nodes.{node_of, number_within}
use Rattle.pp_store.proofs.store.Store.parts.Goals as goal

pub index-node-requires : goal.index-node-requires
index-node-requires c =
    let within = number_within c.self.inside.fields.items c.self.inside.nodes.items c.args.self.now c.args.number
    c.self.view_is c.requires in omega (arith, within, c.self.inside.nodes.ok.0)

pub fields_of-fields-requires : goal.fields_of-fields-requires
fields_of-fields-requires c =
    let node = node_of c.self.inside.fields.items c.self.inside.nodes.items c.args.self.now c.args.number
    c.index-node.result.now c.self.invariant c.self.view_is c.requires c.index-node.ensures in
    subst (λ (hs : List Held). c.index-node.result.now.first + c.index-node.result.now.count ≤ length hs)
    (sym c.as_slice.ensures.value) node.inside

pub returns-clause-value : goal.returns-clause-value
returns-clause-value c =
    let node = node_of c.self.inside.fields.items c.self.inside.nodes.items c.args.self.now c.args.number
    c.index-node.result.now c.self.invariant c.self.view_is c.requires c.index-node.ensures in
    let fields = c.fields_of-fields.ensures
    ∙ ap (λ (hs : List Held). fields_at hs c.index-node.result.now) c.as_slice.ensures.value in
    node.tree (value.Bool false)
    ∙ ap (λ (hs : List Held). value.Tree c.index-node.result.now.ctor (values_of c.args.self.now hs)) (sym fields)

pub returns-clause-held : goal.returns-clause-held
returns-clause-held c =
    let node = node_of c.self.inside.fields.items c.self.inside.nodes.items c.args.self.now c.args.number
    c.index-node.result.now c.self.invariant c.self.view_is c.requires c.index-node.ensures in
    let fields = c.fields_of-fields.ensures
    ∙ ap (λ (hs : List Held). fields_at hs c.index-node.result.now) c.as_slice.ensures.value in
    subst (λ (hs : List Held). AreHeld c.args.self.now hs) (sym fields) node.held

pub returns-clause-earlier : goal.returns-clause-earlier
returns-clause-earlier c =
    let node = node_of c.self.inside.fields.items c.self.inside.nodes.items c.args.self.now c.args.number
    c.index-node.result.now c.self.invariant c.self.view_is c.requires c.index-node.ensures in
    let fields = c.fields_of-fields.ensures
    ∙ ap (λ (hs : List Held). fields_at hs c.index-node.result.now) c.as_slice.ensures.value in
    subst (λ (hs : List Held). AreBefore c.args.number hs) (sym fields) node.earlier
