use Rattle.std.proofs.Common.{◌≡◌, ap, ◌∙◌, arith}
use Rattle.std.proofs.lemmas.Int.{ints}
use Rattle.pp_closure.specs.Sums.{total}
use Rattle.pp_closure.proofs.sums.expanded.Goals as goal
use Rattle.pp_closure.proofs.sums.expanded.Goals.{else-loop-test, then-loop-test+then-len-gt-MOST_TERMS}
use lib.IntN.{pos, ◌+ℤ◌}

pub loop-init : goal.loop-init
loop-init c v holds = let none = ap (total v.values) c.new-done.ensures in (pos 0, omega (arith, ints, none))

pub loop-preserved : goal.loop-preserved
loop-preserved c v holds =
    let i = c.loop.invariant v holds in
    let taken = c.in-Some.ensures v.values in
    let r = c.in_ok-replace-in-Some.ensures v holds in
    (i.0 +ℤ r.0, omega (arith, ints, i.1, taken, r.1))

pub returns : goal.returns
returns c v holds =
    let i = c.loop.invariant v holds in
    let a = c.in_ok-add_all.ensures v.values in
    let s = ap (total v.values) c.as_slice.ensures in
    let e : total v.values c.loop-test.left ≡ total v.values c.loop.left = elim c.loop-test.branch [
      | else-loop-test w ↦ ap (total v.values) w.left-is
      | then-loop-test+then-len-gt-MOST_TERMS w ↦ ap (total v.values) w.left-is
      | goal.then-loop-test+else-len-gt-MOST_TERMS+else-len-gt-MOST_TERMS-2+in-None w ↦
          ap (total v.values) (w.left-is ∙ w.in-None.ensures)
    ] in
    (a.0 +ℤ i.0, omega (arith, ints, i.1, a.1, s, e))
