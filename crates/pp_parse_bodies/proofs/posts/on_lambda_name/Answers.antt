use Rattle.std.proofs.Common.{◌≡◌, Bool, subst, sym}
use Rattle.std.specs.Prelude.{MatchBool}
use Rattle.pp_tokens.specs.declared.token.Operator.TheVariants.{Arrow, Colon}
use Rattle.pp_tokens.specs.declared.token.TokenKind.{TokenKind}
use Rattle.pp_tokens.specs.declared.token.TokenKind.TheVariants.{Op}
use Rattle.pp_grammar.specs.Frames.{Move}
use Rattle.pp_parse_state.specs.Shown.{Moves, name_on, shown, under_name}
use Rattle.pp_parse_bodies.proofs.Claims.{name_or_claim}
use Rattle.pp_parse_bodies.proofs.posts.on_lambda_name.Goals as goal

pub returns : goal.returns
returns c =
    let text = c.args.cx.now.text.now in
    let t = c.args.cx.now.token in
    let s = shown c.args.stack.now in
    let k = t.kind in
    let P : Move → Type 0 = λ m. Moves c.on_claim_name.result c.on_claim_name.new.stack m in
    let Q : TokenKind → Bool → Type 0 = λ x b. MatchBool b (k ≡ x) (k ≡ x → ⊥) in
    let arrow : k ≡ Op Arrow → ⊥ = subst (Q (Op Arrow)) c.if-is_arrow.false c.is_arrow.ensures in
    let colon : k ≡ Op Colon → ⊥ = subst (Q (Op Colon)) c.if-is_colon.false c.is_colon.ensures in
    subst P (sym (name_or_claim text t (under_name s) c.args.at (name_on s) k arrow colon))
    c.on_claim_name.ensures
