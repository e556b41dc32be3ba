use Rattle.std.proofs.Common.{◌≡◌, ap, sym, ◌∙◌, subst}
use Rattle.pp_grammar.specs.StepTypes.{on_have_type}
use Rattle.pp_parse_state.specs.declared.frame.Frame.TheVariants.{Header, ParamType}
use Rattle.pp_parse_state.specs.Shown.{Moves, Shown, shown, type_on, under_type, with_frame}
use Rattle.pp_parse_types.proofs.types.on_param_type.Goals as goal

pub returns-in-Some-Header : goal.returns-in-Some-Header
returns-in-Some-Header c =
    let t = c.args.cx.now.token in
    let P : Shown → Type 0 = λ s. Moves c.on_typed_param.result c.on_typed_param.new.stack (on_have_type
    c.args.cx.now.text.now t (under_type (with_frame (ParamType c.args.at) s)) (type_on s) t.kind) in
    let same : shown c.args.stack.now ≡ with_frame (Header c.in-Some-Header.kind) (shown c.pop.new.self) =
    c.in-Some-Header.ensures ∙ ap (λ f. with_frame f (shown c.pop.new.self)) c.in-Some-Header.field-0-is in
    subst P (sym same) c.on_typed_param.ensures
