use Rattle.std.proofs.Common.{◌≡◌, ap, sym, ◌∙◌, subst}
use Rattle.pp_parse_state.specs.declared.frame.Frame.TheVariants.{ResultNameTypeInRound}
use Rattle.pp_parse_state.specs.declared.mode.Mode.TheVariants.{HaveType}
use Rattle.pp_parse_state.specs.Shown.{Moves, Shown, shown, step_in, with_frame}
use Rattle.pp_parse_types.proofs.types.on_have_type.Goals as goal

pub returns-in-ResultNameTypeInRound : goal.returns-in-ResultNameTypeInRound
returns-in-ResultNameTypeInRound c =
    let r = c.on_result_name_type_in_round.result in
    let new = c.on_result_name_type_in_round.new.stack in
    let P : Shown → Type 0 = λ s. Moves r new (step_in c.args.cx.now.text.now c.args.cx.now.token HaveType s) in
    let same : shown c.args.stack.now ≡ with_frame ResultNameTypeInRound (shown c.pop.new.self) =
    c.in-Some.ensures ∙ ap (λ f. with_frame f (shown c.pop.new.self)) c.in-ResultNameTypeInRound.is in
    subst P (sym same) c.on_result_name_type_in_round.ensures
