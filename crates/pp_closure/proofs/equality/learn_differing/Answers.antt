use Rattle.std.proofs.Common.{sym}
use Rattle.pp_closure.proofs.Equals.{differ_where}
use Rattle.pp_closure.proofs.GoingDown.{different}
use Rattle.pp_closure.proofs.Totals.{sorted_word}
use Rattle.pp_closure.proofs.equality.learn_differing.Goals as goal

pub returns-then-are_ints : goal.returns-then-are_ints
returns-then-are_ints c v sorts left right says holds =
    let a = c.args.two.0 in
    let b = c.args.two.1 in
    let differ = differ_where _ _ _ _ says (c.is.ensures v.values holds c.if-is.true) in
    let apart = different _ v a b (c.are_ints.ensures v sorts c.if-are_ints.true) sorts left right differ in
    c.learn_apart-then-are_ints.ensures v.values (λ e. apart (sym e))
    (sorted_word v.types.ctors (v.values b) (v.sorts b) (v.sorted b right))
    (c.learn_apart.ensures v.values apart (sorted_word v.types.ctors (v.values a) (v.sorts a) (v.sorted a left)) holds)
