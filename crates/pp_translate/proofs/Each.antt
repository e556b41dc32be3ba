-- Patterns, each at the sort at its place.
use Rattle.std.proofs.Common.{◌≡◌, ℕ, zero, suc, ◌+◌, ◌<◌, ◌≤◌, min, List, [], ◌∷◌, ◌++◌, map, take, length, get_or}
use Rattle.std.proofs.Common.{refl, sym, ap, ◌∙◌, arith}
use Rattle.pp_translation.specs.Patterns.{AtSort, each_at}
use Rattle.pp_prog.specs.declared.expr.Pattern.{Pattern}
use Rattle.pp_typed.specs.declared.pattern.TypedPattern.{TypedPattern}
use Rattle.pp_typed.specs.declared.sort.GenericSort.{GenericSort}

module _ (f : TypedPattern → AtSort) where
  one : (ps : List TypedPattern) (ss : List GenericSort) (i : ℕ) (p : TypedPattern) (s : GenericSort) → i < length ps
      → i < length ss
      → p ≡ get_or ps i p → s ≡ get_or ss i s
      → each_at (map f (take (suc i) ps)) ss ≡ each_at (map f (take i ps)) ss ++ f p s ∷ []
  one [] ss i p s lt l2 is at = absurd (omega (arith, lt))
  one (q ∷ ps) [] i p s lt l2 is at = absurd (omega (arith, l2))
  one (q ∷ ps) (r ∷ ss) zero p s lt l2 is at = ap (λ z. f z r ∷ []) (sym is) ∙ ap (λ z. f p z ∷ []) (sym at)
  one (q ∷ ps) (r ∷ ss) (suc i) p s lt l2 is at =
      ap (λ l. f q r ∷ l) (one ps ss i p s (omega arith) (omega arith) is at)

  pub each_turn : (ps : List TypedPattern) (ss : List GenericSort) (i n : ℕ) (p : TypedPattern) (s : GenericSort)
      {done new : List Pattern}
      → i < n → n ≡ min (length ps) (length ss) → p ≡ get_or ps i p → s ≡ get_or ss i s
      → done ≡ each_at (map f (take i ps)) ss
      → new ≡ done ++ f p s ∷ [] → new ≡ each_at (map f (take (i + 1) ps)) ss
  each_turn ps ss i n p s {done} {new} lt least is at was more =
      let next : suc i ≡ i + 1 = omega arith in
      more ∙ ap (λ l. l ++ f p s ∷ []) was ∙ sym (one ps ss i p s (omega arith) (omega arith) is at)
      ∙ ap (λ k. each_at (map f (take k ps)) ss) next

  pub each_all : (ps : List TypedPattern) (ss : List GenericSort) (i : ℕ) → min (length ps) (length ss) ≤ i
      → each_at (map f (take i ps)) ss ≡ each_at (map f ps) ss
  each_all [] ss zero h = refl
  each_all [] ss (suc i) h = refl
  each_all (p ∷ ps) [] zero h = refl
  each_all (p ∷ ps) [] (suc i) h = refl
  each_all (p ∷ ps) (s ∷ ss) zero h = absurd (omega (arith, h))
  each_all (p ∷ ps) (s ∷ ss) (suc i) h = ap (λ l. f p s ∷ l) (each_all ps ss i (omega arith))
