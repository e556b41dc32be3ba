use Rattle.std.proofs.Common.{ap, ◌∙◌, arith}
use Rattle.pp_order.proofs.Listing.{are_listed, few_listed}
use Rattle.pp_order.proofs.Made.{added, skipped}
use Rattle.pp_order.specs.Instances.{as_function, as_root}
use Rattle.pp_order.proofs.listed.Goals as goal
use Rattle.pp_order.proofs.listed.Goals.{in-Function+in_ok-instance-in-Function+in_ok-push-in-Function}
use Rattle.pp_order.proofs.listed.Goals.{in-Root+in_ok-instance-in-Root+in_ok-push-in-Root}

pub loop-member-preserved : goal.loop-member-preserved
loop-member-preserved c =
    let typed = c.args.typed.now in
    let ms = c.as_slice-member-items.result.now in
    let i = c.loop-member.member-index in
    let m = c.member-item.result in
    let lt = c.loop-member-test.true in
    let before = c.loop-member.invariant in
    elim c.match-member.branch [
      | in-Function+in_ok-instance-in-Function+in_ok-push-in-Function w ↦ record {
        functions = added typed as_function ms i m w.in-Function.f lt c.member-item.is (ap as_function w.in-Function.is)
            w.in_ok-instance-in-Function.ensures before.functions
            (ap (λ v. v.items) w.functions-is ∙ w.in_ok-push-in-Function.ensures.items);
        roots = skipped typed as_root ms i m lt c.member-item.is (ap as_root w.in-Function.is) before.roots
            (ap (λ v. v.items) w.roots-is);
      }
      | in-Root+in_ok-instance-in-Root+in_ok-push-in-Root w ↦ record {
        functions = skipped typed as_function ms i m lt c.member-item.is (ap as_function w.in-Root.is) before.functions
            (ap (λ v. v.items) w.functions-is);
        roots = added typed as_root ms i m w.in-Root.r lt c.member-item.is (ap as_root w.in-Root.is)
            w.in_ok-instance-in-Root.ensures before.roots
            (ap (λ v. v.items) w.roots-is ∙ w.in_ok-push-in-Root.ensures.items);
      }
    ]

pub returns-clause-listed : goal.returns-clause-listed
returns-clause-listed c =
    let found = c.loop-member.invariant in
    let functions = c.in_order.ensures in
    let roots = c.in_order-2.ensures in
    are_listed c.args.typed.now c.as_slice-member-items.result.now c.args.members.now c.loop-member.member-index
    c.loop-member.functions.items c.loop-member.roots.items _ _ c.requires.sorted c.requires.proper c.requires.once
    c.as_slice-member-items.ensures.all (omega (arith, c.loop-member-test.false)) found.functions found.roots
    functions.same functions.sorted roots.same roots.sorted

pub returns-clause-few_functions : goal.returns-clause-few_functions
returns-clause-few_functions c =
    few_listed c.args.typed.now c.as_slice-member-items.result.now c.args.members.now c.loop-member.member-index
    as_function c.loop-member.functions.items _ c.as_slice-member-items.ensures.all
    (omega (arith, c.loop-member-test.false)) c.loop-member.invariant.functions c.in_order.ensures.same c.requires.few

pub returns-clause-few_roots : goal.returns-clause-few_roots
returns-clause-few_roots c =
    few_listed c.args.typed.now c.as_slice-member-items.result.now c.args.members.now c.loop-member.member-index
    as_root c.loop-member.roots.items _ c.as_slice-member-items.ensures.all
    (omega (arith, c.loop-member-test.false)) c.loop-member.invariant.roots c.in_order-2.ensures.same c.requires.few
