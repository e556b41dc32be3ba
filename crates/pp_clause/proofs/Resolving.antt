-- A step of a chain: what the resolvent has, and that it is true wherever the two clauses are.
use Rattle.std.proofs.Common.{ℕ, ◌≡◌, Bool, true, false, List, [], ◌∷◌, ◌++◌, Some, None, sym, refl, ap, ◌∙◌, subst}
use Rattle.std.proofs.Common.{inl, inr, eqb, not}
use Rattle.std.specs.Prelude.{◌==◌}
use Rattle.std.specs.Option.{option_map}
use Rattle.std.proofs.lemmas.Bool.{eq-eqb}
use Rattle.std.proofs.lemmas.Bool.Decides.{eqb_tells}
use Rattle.pp_clause.specs.Literal.{Literal, opposite, lit_value}
use Rattle.pp_clause.specs.Clause.{has, clause_value}
use Rattle.pp_clause.specs.Derivation.{clashes, only_item, without, resolvent}
use Rattle.pp_clause.proofs.Has.{has-nil, has-cases, has-here, has-append_cases, has-append_left, has-append_right}
use Rattle.pp_clause.proofs.Has.{has-filter, filter-has, opposite_twice, same_var_cases, false_not_true}
use Rattle.pp_clause.proofs.Truth.{Witness, true_from_has, has_from_true, lit_value_opposite}
use Rattle.pp_clause.proofs.Ascending.{Consistent}

pub some_eq : (xs ys : List Literal) → Some xs ≡ Some ys → xs ≡ ys
some_eq xs ys h = cc

pub none_not_some : (zs : List Literal) → None ≡ Some zs → ⊥
none_not_some zs h = cc

not_equal : (x y : ℕ) → (x ≡ y → ⊥) → not (eqb x y) ≡ true
not_equal x y h = elim (eqb_tells x y) [ inl p ↦ absurd (h p.1) | inr p ↦ ap not p.0 ]

apart_from : (x y : ℕ) → not (eqb x y) ≡ true → x ≡ y → ⊥
apart_from x y h e = false_not_true (sym (ap not (eq-eqb x y e)) ∙ h)

-- where one literal clashes, the resolvent is what the two clauses have beside it
pub resolvent_of : (xs ys : List Literal) (l : Literal) → clashes xs ys ≡ l ∷ []
    → resolvent xs ys ≡ Some (without l.var (xs ++ ys))
unfolding resolvent
resolvent_of xs ys l e = ap (λ (z : List Literal). option_map (λ k. without k.var (xs ++ ys)) (only_item z)) e

-- what stays without a variable
pub has-without : (x : ℕ) (ls : List Literal) (m : Literal) → has ls m ≡ true → (m.var ≡ x → ⊥)
    → has (without x ls) m ≡ true
has-without x ls m h n = has-filter (λ l. not (l.var == x)) ls m h (not_equal m.var x n)

pub without-has : (x : ℕ) (ls : List Literal) (m : Literal) → has (without x ls) m ≡ true → (has ls m ≡ true)
    × (m.var ≡ x → ⊥)
without-has x ls m h =
    let p = filter-has (λ l. not (l.var == x)) ls m h in
    (p.0, apart_from m.var x p.1)

-- the clash of a step: the one literal of the clause whose negation was reached
pub record Resolves (xs ys : List Literal) (l : Literal) (zs : List Literal) : Type 0 where
  pub new_side : has ys l ≡ true
  pub old_side : has xs (opposite l) ≡ true
  pub alone : (m : Literal) → has ys m ≡ true → has xs (opposite m) ≡ true → m ≡ l
  pub is : zs ≡ without l.var (xs ++ ys)

clash_alone : (xs ys zs cs : List Literal) → clashes xs ys ≡ cs
    → option_map (λ l. without l.var (xs ++ ys)) (only_item cs) ≡ Some zs → (l : Literal) × Resolves xs ys l zs
clash_alone xs ys zs [] e h = absurd (none_not_some zs h)
clash_alone xs ys zs (l ∷ (m ∷ ms)) e h = absurd (none_not_some zs h)
clash_alone xs ys zs (l ∷ []) e h =
    let p : Literal → Bool = λ m. has xs (opposite m) in
    let here : has (clashes xs ys) l ≡ true = subst (λ (c : List Literal). has c l ≡ true) (sym e) (has-here l []) in
    let both = filter-has p ys l here in (
      l,
      record {
        new_side = both.0;
        old_side = both.1;
        alone = λ m k j. let found : has (l ∷ []) m ≡ true =
            subst (λ (c : List Literal). has c m ≡ true) e (has-filter p ys m k j) in
            elim (has-cases l [] m found) [ inl s ↦ s | inr n ↦ absurd (has-nil m n) ];
        is = sym (some_eq _ _ h);
      },
    )

pub resolves_from : (xs ys zs : List Literal) → resolvent xs ys ≡ Some zs → (l : Literal) × Resolves xs ys l zs
unfolding resolvent
resolves_from xs ys zs h = clash_alone xs ys zs (clashes xs ys) refl h

not_both_true : (b : Bool) → b ≡ true → not b ≡ true → ⊥
not_both_true true h k = false_not_true k
not_both_true false h k = false_not_true h

opposite_true : (s : ℕ → Bool) (l : Literal) → lit_value s l ≡ true → lit_value s (opposite l) ≡ true → ⊥
opposite_true s l h k = not_both_true (lit_value s l) h (sym (lit_value_opposite s l) ∙ k)

pub resolvent-true : (s : ℕ → Bool) (xs ys zs : List Literal) → Consistent xs → Consistent ys → clause_value s xs ≡ true
    → clause_value s ys ≡ true → resolvent xs ys ≡ Some zs → clause_value s zs ≡ true
resolvent-true s xs ys zs cx cy tx ty h =
    let p = resolves_from xs ys zs h in
    let l = p.0 in
    let r : Resolves xs ys l zs = p.1 in
    let wx : Witness s xs = has_from_true s xs tx in
    let wy : Witness s ys = has_from_true s ys ty in
    let done : (m : Literal) → has (xs ++ ys) m ≡ true → lit_value s m ≡ true → (m.var ≡ l.var → ⊥)
    → clause_value s zs ≡ true =
    λ m k t n. rw r.is (true_from_has s (without l.var (xs ++ ys)) m (has-without l.var (xs ++ ys) m k n) t) in
    elim (eqb_tells wx.literal.var l.var) [
      | inr n ↦ done wx.literal (has-append_left xs ys wx.literal wx.held) wx.holds n.1
      | inl e ↦ elim (eqb_tells wy.literal.var l.var) [
        | inr n ↦ done wy.literal (has-append_right xs ys wy.literal wy.held) wy.holds n.1
        | inl f ↦ absurd (
            elim (same_var_cases wx.literal l e.1) [
              | inl q ↦ cx.apart l (subst (λ (z : Literal). has xs z ≡ true) q wx.held) r.old_side
              | inr q ↦ elim (same_var_cases wy.literal l f.1) [
                | inl t ↦ opposite_true s l (subst (λ (z : Literal). lit_value s z ≡ true) t wy.holds)
                    (subst (λ (z : Literal). lit_value s z ≡ true) q wx.holds)
                | inr t ↦ cy.apart l r.new_side (subst (λ (z : Literal). has ys z ≡ true) t wy.held)
              ]
            ])
      ]
    ]

-- the resolvent has no literal with its negation either
pub resolvent-consistent : (xs ys zs : List Literal) → Consistent xs → Consistent ys → resolvent xs ys ≡ Some zs
    → Consistent zs
resolvent-consistent xs ys zs cx cy h =
    let p = resolves_from xs ys zs h in
    let l = p.0 in
    let r : Resolves xs ys l zs = p.1 in
    record {
      apart = λ m k j.
          let km = without-has l.var (xs ++ ys) m (subst (λ (z : List Literal). has z m ≡ true) r.is k) in
          let jm = without-has l.var (xs ++ ys) (opposite m)
          (subst (λ (z : List Literal). has z (opposite m) ≡ true) r.is j) in
          elim (has-append_cases xs ys m km.0) [
            | inl a ↦ elim (has-append_cases xs ys (opposite m) jm.0) [
              | inl b ↦ cx.apart m a b
              | inr b ↦ km.1 (ap (λ (z : Literal). z.var)
                  (r.alone (opposite m) b (subst (λ (z : Literal). has xs z ≡ true) (sym (opposite_twice m)) a)))
            ]
            | inr a ↦ elim (has-append_cases xs ys (opposite m) jm.0) [
              | inl b ↦ km.1 (ap (λ (z : Literal). z.var) (r.alone m a b))
              | inr b ↦ cy.apart m a b
            ]
          ];
    }
