use Rattle.std.proofs.Common.{◌≡◌, ℕ, ◌-◌, refl, subst, arith, length, take, drop}
use Rattle.std.proofs.lemmas.List.{drop_all}
use Rattle.pp_print.proofs.Pending.{IsAdding, adding_more, adding_none, first_field, first_of, no_element, no_fields}
use Rattle.pp_print.proofs.Pending.{one_before}
use Rattle.pp_print.proofs.value.add_fields.Goals as goal

pub loop-i-init : goal.loop-i-init
loop-i-init c =
    let rest = take (length c.args.fields.now - 1) (drop 1 c.args.fields.now) in
    adding_none c.args.pending.now c.push.new.self (drop (length rest) rest) (drop_all (length rest) rest (omega arith))
    c.in_ok-push.ensures.ok

pub loop-i-preserved : goal.loop-i-preserved
loop-i-preserved c =
    let rest = take (length c.args.fields.now - 1) (drop 1 c.args.fields.now) in
    adding_more c.args.pending.now c.loop-i.pending c.push-in-loop-i.new.self (drop (c.loop-i.i - 1) rest)
    (drop c.loop-i.i rest) _ c.index-rest-i.result c.loop-i.invariant c.in_ok-push-2.ensures.ok
    (one_before rest c.loop-i.i c.index-rest-i.result c.loop-i-test.true c.loop-i.auto.i c.index-rest-i.is)
    (λ ctors. refl) refl

pub returns-in_default : goal.returns-in_default
returns-in_default c =
    no_fields c.args.pending.now c.push.new.self c.args.fields.now (no_element c.args.fields.now c.in_default.len_below)
    c.in_ok-push.ensures.ok

pub returns-in_ok-push-3 : goal.returns-in_ok-push-3
returns-in_ok-push-3 c =
    let rest = take (length c.args.fields.now - 1) (drop 1 c.args.fields.now) in
    let none : c.loop-i.i ≡ 0 = omega (arith, c.loop-i-test.false) in
    first_field c.args.pending.now c.loop-i.pending c.push-in-len1-up.new.self c.args.fields.now rest _
    c.first-item.result
    (subst (λ (k : ℕ). IsAdding c.args.pending.now c.loop-i.pending (drop k rest)) none c.loop-i.invariant)
    c.in_ok-push-3.ensures.ok
    (first_of c.args.fields.now c.first-item.result c.in-len1-up.len_at_least c.first-item.is) (λ ctors. refl) refl
