-- Paths of calls, and groups.
use Rattle.std.proofs.Common.{◌≡◌, ◌↔◌, ◌<◌, ◌≤◌, ℕ, List, [], length, Contains, sym, subst, arith, inl, inr}
use Rattle.std.proofs.lemmas.Option.{slice_get_cases}
use Rattle.pp_graph.specs.Reaches.{Reaches, by_call, by_more, SameGroup, IsGroup, called_by, calls_of}

pub nothing : {A : Type 0} (x : A) → Contains [] x → ⊥
nothing x h = let lt = h.1 in absurd (omega arith)

module _ (calls : List (List ℕ)) where
  pub further : (f g h : ℕ) → Reaches calls f g → Reaches calls g h → Reaches calls f h
  further _ _ h (by_call f g c) r = by_more f g h c r
  further _ k h (by_more f g _ c p) r = by_more f g h c (further g k h p r)

  -- a function that calls is one of the graph
  calls_within : (f g : ℕ) → Contains (calls_of calls f) g → f < length calls
  calls_within f g c =
      elim (slice_get_cases calls f).1
      [ inl here ↦ here.1 | inr past ↦ absurd (nothing g (subst (λ o. Contains (called_by o) g) past.1 c)) ]

  pub source_within : (f g : ℕ) → Reaches calls f g → f < length calls
  source_within _ _ (by_call f g c) = calls_within f g c
  source_within _ _ (by_more f g h c r) = calls_within f g c

  pub back : (f g : ℕ) → SameGroup calls f g → SameGroup calls g f
  back f g (inl e) = inl (sym e)
  back f g (inr r) = inr (r.1, r.0)

  pub across : (f g h : ℕ) → SameGroup calls f g → SameGroup calls g h → SameGroup calls f h
  across f g h (inl e) b = subst (λ n. SameGroup calls n h) (sym e) b
  across f g h (inr r) (inl e) = subst (λ n. SameGroup calls f n) e (inr r)
  across f g h (inr r) (inr q) = inr (further f g h r.0 q.0, further h g f q.1 r.1)

  -- one number exactly for the functions of one group
  pub one_number : (f g n m : ℕ) → IsGroup calls f n → IsGroup calls g m → (n ≡ m) ↔ SameGroup calls f g
  one_number f g n m a b = (
    λ e. across f n g a.inside (back g n (subst (λ k. SameGroup calls g k) (sym e) b.inside)),
    λ s. let le : n ≤ m = a.least m (across f g m s b.inside) in
        let ge : m ≤ n = b.least n (across g f n (back f g s) a.inside) in
        omega arith,
  )
