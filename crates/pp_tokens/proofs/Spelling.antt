-- A text, one character at a time.
use Rattle.std.proofs.Common.{ℕ, ◌≡◌, ◌+◌, ◌<◌, ◌≤◌, List, [], ◌∷◌, get_or, drop, length, sym, ap, ◌∙◌, refl, arith}
use Rattle.std.proofs.Common.{Bool, true, false}
use Rattle.std.specs.Prelude.{◌&&◌, ◌==◌}
use Rattle.std.proofs.lemmas.List.{drop_more, drop_all}
use Rattle.std.proofs.lemmas.Bool.Decides.{nat_tests}
use Rattle.pp_tokens.specs.Words.{spells}

and_false : (b : Bool) → (b && false) ≡ false
and_false true = refl
and_false false = refl

pub unequal_lengths : (cs bs : List ℕ) → (length cs ≡ length bs → ⊥) → spells cs bs ≡ false
unequal_lengths [] [] ne = absurd (ne refl)
unequal_lengths [] (b ∷ bs) ne = refl
unequal_lengths (c ∷ cs) [] ne = refl
unequal_lengths (c ∷ cs) (b ∷ bs) ne =
    ap (λ (r : Bool). (c == b) && r) (unequal_lengths cs bs (λ e. ne (omega arith))) ∙ and_false (c == b)

module _ (cs bs : List ℕ) (i : ℕ) (lt : i < length cs) (same : length cs ≡ length bs) where
  here : spells (drop i cs) (drop i bs) ≡
      ((get_or cs i 0 == get_or bs i 0) && spells (drop (i + 1) cs) (drop (i + 1) bs))
  here =
      let lt' : i < length bs = omega arith in
      ap (λ (l : List ℕ). spells l (drop i bs)) (drop_more cs i 0 lt)
      ∙ ap (spells (get_or cs i 0 ∷ drop (i + 1) cs)) (drop_more bs i 0 lt')

  pub one_spelled : get_or cs i 0 ≡ get_or bs i 0
      → spells (drop (i + 1) cs) (drop (i + 1) bs) ≡ spells (drop i cs) (drop i bs)
  one_spelled e =
      let t : (get_or cs i 0 == get_or bs i 0) ≡ true = grind (arith, nat_tests) in
      sym (here ∙ ap (λ (b : Bool). b && spells (drop (i + 1) cs) (drop (i + 1) bs)) t)

  pub one_differs : (get_or cs i 0 ≡ get_or bs i 0 → ⊥) → spells (drop i cs) (drop i bs) ≡ false
  one_differs ne =
      let t : (get_or cs i 0 == get_or bs i 0) ≡ false = grind (arith, nat_tests) in
      here ∙ ap (λ (b : Bool). b && spells (drop (i + 1) cs) (drop (i + 1) bs)) t

pub all_spelled : (cs bs : List ℕ) (i : ℕ) → length cs ≤ i → length bs ≤ i → spells (drop i cs) (drop i bs) ≡ true
all_spelled cs bs i le le' =
    ap (λ (l : List ℕ). spells l (drop i bs)) (drop_all i cs le) ∙ ap (spells []) (drop_all i bs le')

-- what the loop over the characters asks for
pub ruleset spelling_steps = (unequal_lengths, one_spelled, one_differs, all_spelled)
