-- The automaton reads each type that is spelled.
use Rattle.pp_grammar.specs.Frames.{Frame, Parsed, after_name_types, after_type_name, have_type, name_types, type_args}
use Rattle.pp_grammar.specs.Frames.{want_type}
use Rattle.pp_grammar.specs.Joining.{types_onto}
use Rattle.pp_grammar.specs.StepTypes.{on_have_type, on_type_name}
use Rattle.pp_grammar.specs.Types.{IsType, IsTypes, last_type, one_more_type, type_name, type_of}
use Rattle.pp_grammar.specs.Words.{word}
use Rattle.pp_grammar_complete.proofs.Steps.{Ends, Run, go_on, goes_on, take_step}
use Rattle.pp_tokens.specs.declared.token.Bracket.TheVariants.{OpenSquare}
use Rattle.pp_tokens.specs.declared.token.Token.{Token}
use Rattle.pp_tokens.specs.declared.token.TokenKind.{TokenKind}
use Rattle.pp_tokens.specs.declared.token.TokenKind.TheVariants.{Mark}
use Rattle.pp_tree.specs.Plain.{TypeTree, TypeTrees, Word, no_types, type_text}
use Rattle.std.proofs.Common.{Bool, List, [], ap, false, refl, ℕ, ◌∙◌, ◌∷◌, ◌≡◌}

module _ (text : Word) (d : Parsed) (b : Bool) where
  type_name_is : (t : Token) (s : List Frame) (at : ℕ) (w : Word) (k : TokenKind) → goes_on k ≡ false
      → on_type_name text t s at w k ≡ on_have_type text t s (type_text at w no_types) k
  type_name_is t s at w (Mark OpenSquare) unlike = absurd (cc)
  type_name_is t s at w _ unlike = refl

  named_type : (ts : List Token) (s : List Frame) (at : ℕ) (w : Word) → Ends ts
      → Run text d b ts s (after_type_name at w) ≡ Run text d b ts s (have_type (type_text at w no_types))
  named_type [] s at w fin = absurd fin
  named_type (t ∷ ts) s at w fin = go_on text d b t ts _ _ (type_name_is t s at w t.kind fin)

  mutual
    pub reaches_type : {ts us : List Token} {a : TypeTree} → IsType text ts us a → (s : List Frame) → Ends us
        → Run text d b ts s want_type ≡ Run text d b us s (have_type a)
    reaches_type {us = us} (type_name t is) s fin =
        take_step text d b t us s want_type _ is ∙ named_type us s t.from (word text t) fin
    reaches_type {us = us} (type_of {ts = ts} t o is is_o r) s fin =
        take_step text d b t (o ∷ ts) s want_type _ is
        ∙ take_step text d b o ts s (after_type_name t.from (word text t)) _ is_o
        ∙ reaches_types r s t.from (word text t) []

    reaches_types : {ts us : List Token} {tys : TypeTrees} → IsTypes text ts us tys
        → (s : List Frame) (at : ℕ) (w : Word)
        (ds : List TypeTree) → Run text d b ts (type_args at w ds ∷ s) want_type
        ≡ Run text d b us s (have_type (type_text at w (types_onto ds tys)))
    reaches_types {us = us} (last_type {a = a} c r is) s at w ds =
        reaches_type r (type_args at w ds ∷ s) (ap goes_on is)
        ∙ take_step text d b c us (type_args at w ds ∷ s) (have_type a) _ is
    reaches_types (one_more_type {us = us} {a = a} c r is rs) s at w ds =
        reaches_type r (type_args at w ds ∷ s) (ap goes_on is)
        ∙ take_step text d b c us (type_args at w ds ∷ s) (have_type a) _ is ∙ reaches_types rs s at w (a ∷ ds)

  -- the type arguments of a name
  pub reaches_name_types : {ts us : List Token} {tys : TypeTrees} → IsTypes text ts us tys → (s : List Frame) (at : ℕ)
      (w : Word) (ds : List TypeTree) → Run text d b ts (name_types at w ds ∷ s) want_type
      ≡ Run text d b us s (after_name_types at w (types_onto ds tys))
  reaches_name_types {us = us} (last_type {a = a} c r is) s at w ds =
      reaches_type r (name_types at w ds ∷ s) (ap goes_on is)
      ∙ take_step text d b c us (name_types at w ds ∷ s) (have_type a) _ is
  reaches_name_types (one_more_type {us = us} {a = a} c r is rs) s at w ds =
      reaches_type r (name_types at w ds ∷ s) (ap goes_on is)
      ∙ take_step text d b c us (name_types at w ds ∷ s) (have_type a) _ is ∙ reaches_name_types rs s at w (a ∷ ds)
