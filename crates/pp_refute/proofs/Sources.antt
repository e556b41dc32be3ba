-- What a chain derives has only literals of the clauses that it names.
use Rattle.std.proofs.Common.{ℕ, ◌≡◌, List, [], ◌∷◌, Option, Some, None, ◌++◌, sym, subst, true, All, inl, inr}
use Rattle.std.specs.Prelude.{IfSome}
use Rattle.std.specs.Option.{option_and_then}
use Rattle.std.proofs.lemmas.List.Elements.{All-head, All-tail}
use Rattle.pp_clause.specs.Literal.{Literal}
use Rattle.pp_clause.specs.Clause.{has}
use Rattle.pp_clause.specs.Derivation.{numbered, resolvent, reached_by, derived_by}
use Rattle.pp_clause.proofs.Has.{has-append_cases}
use Rattle.pp_clause.proofs.Resolving.{some_eq, none_not_some, resolves_from, without-has}
use Rattle.pp_clause.proofs.Soundness.{then_some}

-- no clause that the chain names has the literal
unfoldable pub IsFree : List (List Literal) → Literal → List ℕ → Type 0
IsFree cs m ns = All (λ n. IfSome (numbered cs n) (λ c. has c m ≡ true → ⊥)) ns

here : (m : Literal) (o : Option (List Literal)) (c : List Literal) → o ≡ Some c → IfSome o (λ d. has d m ≡ true → ⊥)
    → has c m ≡ true → ⊥
here m None c e f h = none_not_some c e
here m (Some d) c e f h = f (subst (λ (z : List Literal). has z m ≡ true) (sym (some_eq d c e)) h)

resolvent_from : (xs ys zs : List Literal) (m : Literal) → resolvent xs ys ≡ Some zs → (has xs m ≡ true → ⊥)
    → (has ys m ≡ true → ⊥) → has zs m ≡ true → ⊥
resolvent_from xs ys zs m h f g k =
    let p = resolves_from xs ys zs h in
    let both = (without-has p.0.var (xs ++ ys) m (subst (λ (z : List Literal). has z m ≡ true) p.1.is k)).0 in
    elim (has-append_cases xs ys m both) [ inl a ↦ f a | inr b ↦ g b ]

reached_free : (cs : List (List Literal)) (m : Literal) (ns : List ℕ) (xs found : List Literal) → IsFree cs m ns
    → (has xs m ≡ true → ⊥) → reached_by cs xs ns ≡ Some found → has found m ≡ true → ⊥
unfolding reached_by IsFree
reached_free cs m [] xs found f n h = subst (λ (z : List Literal). has z m ≡ true → ⊥) (some_eq _ _ h) n
reached_free cs m (k ∷ ns) xs found f n h =
    let p = then_some (numbered cs k) (λ ys. option_and_then (λ next. reached_by cs next ns) (resolvent xs ys)) found
    h in
    let q = then_some (resolvent xs p.0) (λ next. reached_by cs next ns) found p.2 in
    let P : ℕ → Type 0 = λ i. IfSome (numbered cs i) (λ c. has c m ≡ true → ⊥) in
    reached_free cs m ns q.0 found (All-tail P k ns f)
    (resolvent_from xs p.0 q.0 m q.1 n (here m (numbered cs k) p.0 p.1 (All-head P k ns f))) q.2

pub derived_free : (cs : List (List Literal)) (m : Literal) (ns : List ℕ) (found : List Literal) → IsFree cs m ns
    → derived_by cs ns ≡ Some found → has found m ≡ true → ⊥
unfolding derived_by IsFree
derived_free cs m [] found f h = absurd (none_not_some found h)
derived_free cs m (k ∷ ns) found f h =
    let p = then_some (numbered cs k) (λ ys. reached_by cs ys ns) found h in
    let P : ℕ → Type 0 = λ i. IfSome (numbered cs i) (λ c. has c m ≡ true → ⊥) in
    reached_free cs m ns p.0 found (All-tail P k ns f) (here m (numbered cs k) p.0 p.1 (All-head P k ns f)) p.2
