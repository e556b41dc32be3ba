use Rattle.std.proofs.Common.{◌≡◌, length}
use Rattle.pp_grammar.specs.Joining.{seal}
use Rattle.pp_parse_state.specs.Shown.{expr_on, shown, under_expr}
use Rattle.pp_parse_state.proofs.joining.seal.Given as goal

abbrev pub invariant-loop-stack : goal.invariant-loop-stack
invariant-loop-stack l =
    seal (under_expr (shown l.stack)) (expr_on (shown l.stack))
    ≡ seal (under_expr (shown l.fn.stack)) (expr_on (shown l.fn.stack))

abbrev pub decreases-loop-stack : goal.decreases-loop-stack
decreases-loop-stack l = length (shown l.stack).kinds
