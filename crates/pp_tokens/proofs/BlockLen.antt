-- A block comment, one character at a time.
use Rattle.std.proofs.Common.{ℕ, ◌≡◌, ◌+◌, ◌-◌, List, ◌∷◌, drop, sym, ap, ◌∙◌, refl, arith, Bool, true, false, Option}
use Rattle.std.proofs.Common.{Some, None}
use Rattle.std.specs.Prelude.{◌==◌}
use Rattle.std.proofs.lemmas.List.{drop-drop}
use Rattle.std.proofs.lemmas.Bool.Decides.{nat_tests}
use Rattle.pp_tokens.specs.Characters.{opens_block, closes_block}
use Rattle.pp_tokens.specs.Comments.{block_len, more_by}

more_by_more : (i n : ℕ) (o : Option ℕ) → more_by i (more_by n o) ≡ more_by (i + n) o
more_by_more i n None = refl
more_by_more i n (Some m) = ap (λ (k : ℕ). Some k) (omega arith)

unequal : (d : ℕ) → (d ≡ 1 → ⊥) → (d == 1) ≡ false
unequal d one = grind (arith, nat_tests)

-- what one character does to the count of open comments
module _ (x d e : ℕ) (p q : Bool) (rest : List ℕ) where
  pub passes : p ≡ true → e ≡ d → q ≡ false → block_len d p (x ∷ rest) ≡ more_by 1 (block_len e q rest)
  passes hp he hq = rw (hp, he, hq)

  pub opens : p ≡ false → e ≡ d + 1 → q ≡ true → opens_block x rest ≡ true
      → block_len d p (x ∷ rest) ≡ more_by 1 (block_len e q rest)
  opens hp he hq h = rw (hp, he, hq, h)

  pub closes : p ≡ false → e ≡ d - 1 → q ≡ true → opens_block x rest ≡ false → closes_block x rest ≡ true → (d ≡ 1 → ⊥)
      → block_len d p (x ∷ rest) ≡ more_by 1 (block_len e q rest)
  closes hp he hq g h one =
      let ne : (d == 1) ≡ false = unequal d one in
      rw (hp, he, hq, g, h, ne)

  pub stays : p ≡ false → e ≡ d → q ≡ p → opens_block x rest ≡ false → closes_block x rest ≡ false
      → block_len d p (x ∷ rest) ≡ more_by 1 (block_len e q rest)
  stays hp he hq g h = rw (he, hq, hp, g, h)

module _ (cs rest : List ℕ) (i d x : ℕ) (split : drop i cs ≡ x ∷ rest) where
  behind : drop (i + 1) cs ≡ rest
  behind = ap (λ (k : ℕ). drop k cs) (omega arith) ∙ sym (drop-drop 1 i cs) ∙ ap (drop 1) split

  pub turn : (p q : Bool) (e : ℕ) (w : Option ℕ) → more_by i (block_len d p (drop i cs)) ≡ w
      → block_len d p (x ∷ rest) ≡ more_by 1 (block_len e q rest)
      → more_by (i + 1) (block_len e q (drop (i + 1) cs)) ≡ w
  turn p q e w so_far one =
      ap (λ (l : List ℕ). more_by (i + 1) (block_len e q l)) behind ∙ sym (more_by_more i 1 (block_len e q rest))
      ∙ ap (more_by i) (sym one) ∙ ap (λ (l : List ℕ). more_by i (block_len d p l)) (sym split) ∙ so_far
