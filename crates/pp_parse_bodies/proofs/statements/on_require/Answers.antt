use Rattle.std.proofs.Common.{◌≡◌, ap, sym, ◌∙◌, subst}
use Rattle.pp_grammar.specs.StepBodies.{on_require}
use Rattle.pp_parse_state.specs.declared.frame.Frame.TheVariants.{HeadBraces}
use Rattle.pp_parse_state.specs.Shown.{Moves, Shown, frames_of, shown, with_frame}
use Rattle.pp_parse_bodies.proofs.statements.on_require.Goals as goal

pub returns-in-Some-HeadBraces : goal.returns-in-Some-HeadBraces
returns-in-Some-HeadBraces c =
    let P : Shown → Type 0 = λ s. Moves c.on_require_word.result c.on_require_word.new.stack
    (on_require c.args.cx.now.text.now c.args.cx.now.token (frames_of s)) in
    let same : shown c.args.stack.now ≡ with_frame HeadBraces (shown c.pop.new.self) =
    c.in-Some-HeadBraces.ensures ∙ ap (λ f. with_frame f (shown c.pop.new.self)) c.in-Some-HeadBraces.field-0-is in
    subst P (sym same) c.on_require_word.ensures
