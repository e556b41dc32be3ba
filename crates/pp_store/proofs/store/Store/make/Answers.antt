use Rattle.std.proofs.Common.{arith}
use Rattle.pp_store.proofs.Nodes.{kept_extends, kept_nodes, made_extends, made_nodes, made_stands}
use Rattle.pp_store.proofs.store.Store.make.Goals as goal

pub invariant_of-self-in_err-push : goal.invariant_of-self-in_err-push
invariant_of-self-in_err-push c =
    kept_nodes c.self.inside.fields.items c.args.fields.now c.extend_from_slice.new.self.items c.self.inside.nodes.items
    c.args.self.now c.self.invariant c.self.view_is c.requires c.in_ok-extend_from_slice.ensures.items
    c.push.new.self.items c.in_err-push.ensures.items

pub returns-in_err-push-clause-extends : goal.returns-in_err-push-clause-extends
returns-in_err-push-clause-extends c =
    kept_extends c.self.inside.fields.items c.args.fields.now c.extend_from_slice.new.self.items
    c.self.inside.nodes.items c.args.self.now c.self.invariant c.self.view_is c.requires
    c.in_ok-extend_from_slice.ensures.items c.push.new.self.items c.in_err-push.ensures.items

pub invariant_of-self-2 : goal.invariant_of-self-2
invariant_of-self-2 c =
    made_nodes c.self.inside.fields.items c.args.fields.now c.extend_from_slice.new.self.items c.self.inside.nodes.items
    c.args.self.now c.self.invariant c.self.view_is c.requires c.in_ok-extend_from_slice.ensures.items _
    c.push.new.self.items c.in_ok-push.ensures.items (omega (arith, c.in_ok-first.ensures, c.len-2.ensures))
    (omega (arith, c.in_ok-count.ensures))

pub returns-clause-extends : goal.returns-clause-extends
returns-clause-extends c =
    made_extends c.self.inside.fields.items c.args.fields.now c.extend_from_slice.new.self.items
    c.self.inside.nodes.items c.args.self.now c.self.invariant c.self.view_is c.requires
    c.in_ok-extend_from_slice.ensures.items _ c.push.new.self.items c.in_ok-push.ensures.items
    (omega (arith, c.in_ok-first.ensures, c.len-2.ensures)) (omega (arith, c.in_ok-count.ensures))

pub returns-clause-made : goal.returns-clause-made
returns-clause-made c =
    made_stands c.self.inside.fields.items c.args.fields.now c.extend_from_slice.new.self.items
    c.self.inside.nodes.items c.args.self.now c.self.invariant c.self.view_is c.requires
    c.in_ok-extend_from_slice.ensures.items _ c.push.new.self.items c.in_ok-push.ensures.items
    (omega (arith, c.in_ok-first.ensures, c.len-2.ensures)) (omega (arith, c.in_ok-count.ensures))
    c.in_ok-number.number (omega (arith, c.in_ok-number.ensures, c.len.ensures))
