-- A postcondition with its check.
use Rattle.std.proofs.Common.{◌≡◌, ℕ, List, [], ◌∷◌, ◌++◌, Option, Some, None, length, sym, subst}
use Rattle.pp_prog.specs.declared.expr.Expr.{Expr}
use Rattle.pp_prog.specs.declared.id.CheckId.{CheckId}
use Rattle.pp_translation.specs.Defs.{TranslatesPost, no_post, one_post, post_check}
use Rattle.pp_translation.specs.Numbered.{Translates}
use Rattle.pp_translation.specs.Setting.{Setting}
use Rattle.pp_translation.specs.declared.frame.CheckAt.{CheckAt}
use Rattle.pp_translation.specs.declared.frame.Frame.{Frame}
use Rattle.pp_typed.specs.declared.typed.Typed.{Typed}
use Rattle.pp_typed.specs.declared.typed.TypedPost.{TypedPost}

module _ (typed : Typed) (set : Setting) (own : Frame) (source : ℕ) where
  pub is_no_post : (post : Option TypedPost) (old : List CheckAt) → post ≡ None
      → TranslatesPost typed set own source post None old old
  is_no_post post old p =
      subst (λ (z : Option TypedPost). TranslatesPost typed set own source z None old old) (sym p) no_post

  pub is_post : (post : Option TypedPost) (q : TypedPost) (claim : Expr) (n : CheckId) (old mid new : List CheckAt)
      → post ≡ Some q
      → Translates typed set own q.claim claim old mid → n.0 ≡ length mid
      → new ≡ mid ++ post_check typed set own source q.at ∷ []
      → TranslatesPost typed set own source post (Some (n, claim)) old new
  is_post post q claim n old mid new p t num more =
      let numbered : ℕ → CheckId = λ i. record { 0 = i } in
      let made : TranslatesPost typed set own source (Some q) (Some (numbered (length mid), claim)) old
      (mid ++ post_check typed set own source q.at ∷ []) = one_post t in
      let named = subst (λ (i : ℕ). TranslatesPost typed set own source (Some q) (Some (numbered i, claim)) old
      (mid ++ post_check typed set own source q.at ∷ [])) (sym num) made in
      let listed = subst (λ (l : List CheckAt). TranslatesPost typed set own source (Some q) (Some (n, claim)) old l)
      (sym more) named in
      subst (λ (z : Option TypedPost). TranslatesPost typed set own source z (Some (n, claim)) old new) (sym p) listed
