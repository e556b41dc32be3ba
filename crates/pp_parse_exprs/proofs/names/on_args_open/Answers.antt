use Rattle.std.proofs.Common.{◌≡◌, Bool, subst, sym}
use Rattle.std.specs.Prelude.{MatchBool}
use Rattle.pp_tokens.specs.declared.token.Bracket.TheVariants.{CloseRound}
use Rattle.pp_tokens.specs.declared.token.TokenKind.TheVariants.{Mark}
use Rattle.pp_tree.specs.Plain.{no_types}
use Rattle.pp_grammar.specs.Frames.{Move}
use Rattle.pp_grammar.specs.Joining.{types_onto}
use Rattle.pp_parse_state.specs.Parts.{top_type_list}
use Rattle.pp_parse_state.specs.Shown.{Moves, frames_of, name_on, shown, without_name, without_type_list}
use Rattle.pp_parse_exprs.proofs.ArgsOpen.{first_arg}
use Rattle.pp_parse_exprs.proofs.names.on_args_open.Goals as goal

pub returns-then-not-closes_round : goal.returns-then-not-closes_round
returns-then-not-closes_round c =
    let text = c.args.cx.now.text.now in
    let t = c.args.cx.now.token in
    let s = shown c.args.stack.now in
    let k = t.kind in
    let ts = types_onto (top_type_list s.parts) no_types in
    let P : Move → Type 0 = λ m. Moves c.on_first_arg.result c.on_first_arg.new.stack m in
    let Q : Bool → Type 0 = λ b. MatchBool b (k ≡ Mark CloseRound) (k ≡ Mark CloseRound → ⊥) in
    let other : k ≡ Mark CloseRound → ⊥ = subst Q c.if-not-closes_round.true c.closes_round.ensures in
    let under = frames_of (without_type_list (without_name s)) in
    subst P (sym (first_arg text t under c.args.at (name_on s) ts k other))
    c.on_first_arg.ensures
