-- A semicolon behind an expression: but in the first branch of an `if` it is as a newline.
use Rattle.std.proofs.Common.{◌≡◌, List, ◌∷◌, refl}
use Rattle.pp_tokens.specs.declared.token.Token.{Token}
use Rattle.pp_tree.specs.Plain.{Word, Tree}
use Rattle.pp_grammar.specs.Frames.{Frame as plain_frame}
use Rattle.pp_grammar.specs.StepExprs.{on_semi, on_semicolon}
use Rattle.pp_parse_state.specs.declared.frame.Frame.{Frame}
use Rattle.pp_parse_state.specs.declared.frame.Frame.TheVariants as frame
use Rattle.pp_parse_state.specs.Parts.{Parts}
use Rattle.pp_parse_state.specs.Shown.{frame_of}

pub semicolon_as_newline : (text : Word) (t : Token) (f : Frame) (p : Parts) (s : List plain_frame) (e : Tree)
    → ((at : _) → f ≡ frame.IfThen at → ⊥)
    → on_semicolon text t (frame_of f p ∷ s) e ≡ on_semi text t (frame_of f p ∷ s) e
semicolon_as_newline text t (frame.IfThen at) p s e unlike = absurd (unlike at refl)
semicolon_as_newline text t _ p s e unlike = refl
