use Rattle.std.proofs.Common.{arith}
use Rattle.pp_parse_state.specs.Shown.{shown, without_expr}
use Rattle.pp_parse_exprs.proofs.infix.on_match.Goals as goal
use Rattle.pp_parse_exprs.proofs.infix.on_match.Goals.{then-holed-via-then-holed, then-holed-via-else-holed+then-floor-gt0}

pub returns : goal.returns
returns c = let h = c.floor.ensures.kinds (without_expr (shown c.args.stack.now)).parts in grind arith

pub returns-then-holed : goal.returns-then-holed
returns-then-holed c =
    let h = c.refuse.ensures in
    elim c.then-holed.branch [
      | then-holed-via-then-holed w ↦ grind arith
      | then-holed-via-else-holed+then-floor-gt0 w ↦
          let f = w.floor.ensures.kinds (without_expr (shown c.args.stack.now)).parts in grind arith
    ]
