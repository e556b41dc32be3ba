-- Pieces that were written one after another, whose outcomes are added to the numbers that stand.
use Rattle.std.proofs.Common.{◌≡◌, ℕ, List, [], ◌++◌, length, sym, ap, ◌∙◌, subst}
use Rattle.std.proofs.Common.{append_assoc, append-nil}
use Rattle.pp_steps.specs.declared.step.Step.{Step}
use Rattle.pp_steps.specs.Piece.{Piece, after, bind, plain}
use Rattle.pp_compile.specs.declared.work.Ends.{Ends}
use Rattle.pp_compile.specs.declared.work.Work.{Work}
use Rattle.pp_compile.specs.Guessed.{IsAdded}
use Rattle.pp_compile.specs.Written.{IsMade}
use Rattle.pp_compile.proofs.Joining.{end_is, written_join}

-- from o the whole is to be written, and from n on the rest, and their outcomes are to be added
pub record IsAheadAdded (o n : Work) (p q : List ℕ) (whole rest : Piece (List ℕ)) : Type 0 where
  pub steps : o.steps ++ whole.steps ≡ n.steps ++ rest.steps
  pub fails : o.fails ++ whole.fails ≡ n.fails ++ rest.fails
  pub out : p ++ whole.out ≡ q ++ rest.out

-- a piece, and then the rest, whose outcomes come behind the first ones
abbrev pub both_added : ℕ → Piece (List ℕ) → (ℕ → Piece (List ℕ)) → ℕ → Piece (List ℕ)
both_added k x go z = bind k x (λ n first _. bind n (go n) (λ m rest _. plain [] (first ++ rest) z))

pub added_join : (o m n : Work) (p q r : List ℕ) (x : Piece (List ℕ)) (go : ℕ → Piece (List ℕ)) (z : ℕ)
    → IsAdded o m p q x → IsAdded m n q r (go (length m.steps))
    → IsAdded o n p r (both_added (length o.steps) x go z)
added_join o m n p q r x go z h g =
    let k = after (length o.steps) x in
    let Y = go k in
    let y = subst (λ i. IsAdded m n q r (go i)) (end_is o m x h.written) g in
    let w = written_join o m n x Y h.written y.written in
    record {
      written = record {
        steps = w.steps ∙ sym (ap (λ (l : List Step). o.steps ++ (x.steps ++ l)) (append-nil Y.steps));
        fails = w.fails ∙ sym (ap (λ (l : List ℕ). o.fails ++ (x.fails ++ l)) (append-nil Y.fails));
      };
      added = y.added ∙ ap (λ (l : List ℕ). l ++ Y.out) h.added ∙ append_assoc p x.out Y.out;
    }

-- a number, and then a piece whose outcomes are added
pub bind_added : (o m n : Work) (p q : List ℕ) (x : Piece ℕ) (go : ℕ → ℕ → ℕ → Piece (List ℕ)) (r : Ends)
    → IsMade o m x r → IsAdded m n p q (go (length m.steps) r.out r.alive)
    → IsAdded o n p q (bind (length o.steps) x go)
bind_added o m n p q x go r h g =
    let k = after (length o.steps) x in
    let g1 = subst (λ i. IsAdded m n p q (go i r.out r.alive)) (end_is o m x h.written) g in
    let g2 = subst (λ i. IsAdded m n p q (go k i r.alive)) h.out g1 in
    let g3 = subst (λ i. IsAdded m n p q (go k x.out i)) h.alive g2 in
    record {
      written = written_join o m n x (go k x.out x.alive) h.written g3.written;
      added = g3.added;
    }
