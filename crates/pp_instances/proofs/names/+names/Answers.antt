use Rattle.std.proofs.Common.{◌<◌, length, arith, rules}
use Rattle.std.specs.String.{string_bytes}
use Rattle.pp_instances.proofs.Pieces.{later_more, bracketed_is}
use Rattle.pp_instances.proofs.names.+names.Goals as goal

pub add_args-loop-i-preserved : goal.add_args-loop-i-preserved
add_args-loop-i-preserved t c =
    later_more c.args.typed.now c.args.sorts.now c.loop-i.i c.index-sorts-i.result (string_bytes c.add_sort.new.out)
    c.loop-i.auto.i c.loop-i-test.true c.index-sorts-i.is c.loop-i.invariant c.in_ok-push_text-2.ensures
    c.in_ok-add_sort-2.ensures

pub add_args-returns : goal.add_args-returns
add_args-returns t c =
    let some : 0 < length c.args.sorts.now = search rules in
    bracketed_is c.args.typed.now c.args.sorts.now c.loop-i.i c.index-sorts-0.result (string_bytes c.args.out.now) some
    c.index-sorts-0.is (omega (arith, c.loop-i-test.false)) c.in_ok-push_text.ensures c.in_ok-add_sort.ensures
    c.loop-i.invariant c.in_ok-push_text-3.ensures
