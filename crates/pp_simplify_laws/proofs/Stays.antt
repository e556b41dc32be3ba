-- What was folded stays as more steps are folded.
use Rattle.std.proofs.Common.{◌≡◌, ℕ, suc, ◌<◌, List, [], ◌∷◌, ◌++◌, length, slice_get, Some, refl}
use Rattle.std.proofs.Common.{ap, ◌∙◌, inl, inr, arith}
use Rattle.pp_steps.specs.declared.step.Step.{Step}
use Rattle.pp_simplify.specs.Folded.{Folding, folded, folded_from, next, source}
use Rattle.pp_simplify.specs.Names.{name_or, named}
use Rattle.pp_simplify.specs.Operands.{renamed}
use Rattle.pp_simplify.proofs.Naming.{get_push}
use Rattle.pp_simplify.proofs.Turns.{push_length}

pub front_get : {X : Type 0} (xs : List X) (y : X) (k : ℕ) → k < length xs
    → slice_get (xs ++ y ∷ []) k ≡ slice_get xs k
front_get xs y k lt = elim (get_push xs y k) [ inl e ↦ e | inr p ↦ absurd (omega (arith, p.0)) ]

last_get : {X : Type 0} (xs : List X) (y : X) → slice_get (xs ++ y ∷ []) (length xs) ≡ Some y
last_get [] y = refl
last_get (x ∷ xs) y = last_get xs y

more : (k n m : ℕ) → k < n → m ≡ suc n → k < m
more k n m lt e = omega arith

self : (n m : ℕ) → m ≡ suc n → n < m
self n m e = omega arith

pub steps_stay : (f : Folding) (ss : List Step) (k : ℕ) → k < length f.steps
    → slice_get (folded_from f ss).steps k ≡ slice_get f.steps k
steps_stay f [] k lt = refl
steps_stay f (s ∷ ss) k lt =
    let t = folded f.steps (renamed (named f.names) s) in
    steps_stay (next f s) ss k (more k (length f.steps) _ lt (push_length f.steps t)) ∙ front_get f.steps t k lt

pub names_stay : (f : Folding) (ss : List Step) (k : ℕ) → k < length f.names
    → named (folded_from f ss).names k ≡ named f.names k
names_stay f [] k lt = refl
names_stay f (s ∷ ss) k lt =
    let o = source f.steps (folded f.steps (renamed (named f.names) s)) in
    names_stay (next f s) ss k (more k (length f.names) _ lt (push_length f.names o))
    ∙ ap (name_or k) (front_get f.names o k lt)

-- the next step and its name
pub step_here : (f : Folding) (s : Step) (ss : List Step)
    → slice_get (folded_from f (s ∷ ss)).steps (length f.steps) ≡ Some (folded f.steps (renamed (named f.names) s))
step_here f s ss =
    let t = folded f.steps (renamed (named f.names) s) in
    steps_stay (next f s) ss (length f.steps) (self (length f.steps) _ (push_length f.steps t)) ∙ last_get f.steps t

pub name_here : (f : Folding) (s : Step) (ss : List Step)
    → named (folded_from f (s ∷ ss)).names (length f.names)
    ≡ name_or (length f.names) (Some (source f.steps (folded f.steps (renamed (named f.names) s))))
name_here f s ss =
    let o = source f.steps (folded f.steps (renamed (named f.names) s)) in
    names_stay (next f s) ss (length f.names) (self (length f.names) _ (push_length f.names o))
    ∙ ap (name_or (length f.names)) (last_get f.names o)
