use Rattle.std.proofs.Common.{◌≡◌, Bool, subst, sym}
use Rattle.std.specs.Prelude.{MatchBool}
use Rattle.pp_tokens.specs.declared.token.Bracket.TheVariants.{OpenRound}
use Rattle.pp_tokens.specs.declared.token.TokenKind.{TokenKind}
use Rattle.pp_tokens.specs.declared.token.TokenKind.TheVariants.{Mark, Name}
use Rattle.pp_grammar.specs.Frames.{Move}
use Rattle.pp_parse_state.specs.Shown.{Moves, frames}
use Rattle.pp_parse_bodies.proofs.Claims.{lambda_or_claim}
use Rattle.pp_parse_bodies.proofs.posts.on_want_lambda.Goals as goal

pub returns : goal.returns
returns c =
    let text = c.args.cx.now.text.now in
    let t = c.args.cx.now.token in
    let s = frames c.args.stack.now in
    let k = t.kind in
    let P : Move → Type 0 = λ m. Moves c.on_claim.result c.on_claim.new.stack m in
    let Q : TokenKind → Bool → Type 0 = λ x b. MatchBool b (k ≡ x) (k ≡ x → ⊥) in
    let name : k ≡ Name → ⊥ = subst (Q Name) c.if-is_name.false c.is_name.ensures in
    let opening : k ≡ Mark OpenRound → ⊥ = subst (Q (Mark OpenRound)) c.if-opens_round.false c.opens_round.ensures in
    subst P (sym (lambda_or_claim text t s k name opening))
    c.on_claim.ensures
