use Rattle.std.proofs.Common.{◌≡◌, ap, sym, ◌∙◌, subst}
use Rattle.pp_grammar.specs.Frames.{Move}
use Rattle.pp_grammar.specs.StepExprs.{on_semi, on_semicolon}
use Rattle.pp_parse_state.specs.Shown.{Moves, Shown, below, expr_on, over, shown, under_expr, with_frame, without_expr}
use Rattle.pp_parse_exprs.proofs.Semicolons.{semicolon_as_newline}
use Rattle.pp_parse_exprs.proofs.closing.on_semicolon.Goals as goal

pub returns-in_default-frame : goal.returns-in_default-frame
returns-in_default-frame c =
    let text = c.args.cx.now.text.now in
    let t = c.args.cx.now.token in
    let f = c.in-Some.frame in
    let s = shown c.pop.new.self in
    let parts = (without_expr s).parts in
    let P : Move → Type 0 = λ m. Moves c.on_semi_above.result c.on_semi_above.new.stack m in
    let same : on_semicolon text t (under_expr (shown c.args.stack.now)) (expr_on (shown c.args.stack.now))
    ≡ on_semi text t (under_expr (with_frame f s)) (expr_on s) =
    ap (λ (x : Shown). on_semicolon text t (under_expr x) (expr_on x)) c.in-Some.ensures
    ∙ semicolon_as_newline text t f parts (over s.kinds (below f parts)) (expr_on s) c.in_default-frame.not-IfThen in
    subst P (sym same) c.on_semi_above.ensures
