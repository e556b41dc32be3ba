use Rattle.std.proofs.Common.{◌≡◌, Bool, subst, sym}
use Rattle.std.specs.Prelude.{MatchBool}
use Rattle.pp_tokens.specs.declared.token.Bracket.TheVariants.{CloseRound}
use Rattle.pp_tokens.specs.declared.token.TokenKind.TheVariants.{Mark}
use Rattle.pp_grammar.specs.Frames.{Move}
use Rattle.pp_parse_state.specs.Shown.{Moves, name_on, shown, under_name}
use Rattle.pp_parse_patterns.proofs.ArgsOpen.{first_arg}
use Rattle.pp_parse_patterns.proofs.patterns.on_pattern_args_open.Goals as goal

pub returns-then-not-closes_round : goal.returns-then-not-closes_round
returns-then-not-closes_round c =
    let text = c.args.cx.now.text.now in
    let t = c.args.cx.now.token in
    let s = shown c.args.stack.now in
    let k = t.kind in
    let P : Move → Type 0 = λ m. Moves c.on_first_arg.result c.on_first_arg.new.stack m in
    let Q : Bool → Type 0 = λ b. MatchBool b (k ≡ Mark CloseRound) (k ≡ Mark CloseRound → ⊥) in
    let other : k ≡ Mark CloseRound → ⊥ = subst Q c.if-not-closes_round.true c.closes_round.ensures in
    subst P (sym (first_arg text t (under_name s) c.args.at (name_on s) k other))
    c.on_first_arg.ensures
