use Rattle.std.proofs.Common.{◌≡◌, length}
use Rattle.pp_grammar.specs.Joining.{unwind}
use Rattle.pp_parse_state.specs.Shown.{expr_on, shown, under_expr}
use Rattle.pp_parse_state.proofs.joining.unwind.Given as goal

abbrev pub invariant-loop-stack : goal.invariant-loop-stack
invariant-loop-stack l =
    unwind l.tight (under_expr (shown l.stack)) (expr_on (shown l.stack)) l.holed
    ≡ unwind l.tight (under_expr (shown l.fn.stack)) (expr_on (shown l.fn.stack)) l.fn.holed

abbrev pub decreases-loop-stack : goal.decreases-loop-stack
decreases-loop-stack l = length (shown l.stack).kinds
