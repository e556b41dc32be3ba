use Rattle.std.proofs.Common.{◌≡◌, ◌++◌, List, OnOk, sym, subst}
use Rattle.pp_prog.specs.declared.sort.Sort.{Sort}
use Rattle.pp_prog.specs.Results.{binds}
use Rattle.pp_checks.proofs.Binding.{bind_here, bind_more, bind_past}
use Rattle.pp_checks.proofs.sorts.+bind.Goals as goal

pub bind_all-loop-i-preserved : goal.bind_all-loop-i-preserved
bind_all-loop-i-preserved t c =
    bind_more (binds c.args.ctors.now) c.args.patterns.now c.args.sorts.now c.loop-i.i c.index-patterns-i.result
    c.args.scope.now c.loop-i.scope c.bind_at.new.scope c.loop-i-test.true c.index-patterns-i.is
    c.loop-i.invariant c.in_ok-bind_at.ensures

pub bind_at-returns-in-None : goal.bind_at-returns-in-None
bind_at-returns-in-None t c =
    bind_past (binds c.args.ctors.now c.args.pattern.now) c.args.scope.now c.args.sorts.now c.args.i (sym
    c.in-None.ensures)

pub bind_at-returns-in-Some : goal.bind_at-returns-in-Some
bind_at-returns-in-Some t c =
    subst (λ (l : List Sort). OnOk c.bind.result (c.bind.new.scope ≡ c.args.scope.now ++ l)) (sym (bind_here (binds
    c.args.ctors.now c.args.pattern.now) c.args.sorts.now c.args.i c.in-Some.s.now (sym c.in-Some.ensures)))
    c.bind.ensures
