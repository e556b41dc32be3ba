-- A measure in two brackets: nothing stands beside the inner ones.
use Rattle.std.proofs.Common.{◌≡◌, ℕ, ◌<◌, length, arith, List, [], ◌∷◌, refl}
use Rattle.pp_tokens.specs.declared.token.Token.{Token}
use Rattle.pp_tree.specs.Plain.{Word, Tree}
use Rattle.pp_grammar.specs.Frames.{Frame, measuring}
use Rattle.pp_grammar.specs.StepBodies.{on_tuple_closed}
use Rattle.pp_grammar.specs.StepExprs.{on_measured}
use Rattle.pp_grammar.specs.StepTypes.{refuse}
use Rattle.pp_parse_state.specs.Values.{stacked}

module _ (text : Word) (t : Token) where
  refused_more : {B : Type 0} (f : B → Tree) (at : ℕ) (xs : List B) (y : Tree) (ys : List Tree) (s : List Frame)
      (es : List Tree) → on_tuple_closed text t (measuring at (stacked f xs (y ∷ ys)) ∷ s) es ≡ refuse text t
  refused_more f at [] y ys s es = refl
  refused_more f at (x ∷ xs) y ys s es = refused_more f at xs (f x) (y ∷ ys) s es

  pub tuple_refused : {B : Type 0} (f : B → Tree) (at : ℕ) (xs : List B) (s : List Frame) (es : List Tree)
      → 0 < length xs
      → on_tuple_closed text t (measuring at (stacked f xs []) ∷ s) es ≡ refuse text t
  tuple_refused f at [] s es some = absurd (omega arith)
  tuple_refused f at (x ∷ xs) s es some = refused_more f at xs (f x) [] s es

  pub tuple_taken : {B : Type 0} (f : B → Tree) (at : ℕ) (xs : List B) (s : List Frame) (es : List Tree) → length xs ≡ 0
      → on_tuple_closed text t (measuring at (stacked f xs []) ∷ s) es ≡ on_measured text t s at es
  tuple_taken f at [] s es none = refl
  tuple_taken f at (x ∷ xs) s es none = cc
