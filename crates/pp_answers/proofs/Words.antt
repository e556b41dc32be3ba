-- A line says its words behind the name of the function, and so one verdict alone.
use Rattle.std.proofs.Common.{◌≡◌, ℕ, List, ◌++◌, codes, get_or, sym, ◌∙◌, ap, arith}
use Rattle.std.proofs.lemmas.List.{append_cancel_left}
use Rattle.pp_answers.specs.Claims.{Says}
use Rattle.pp_prog.specs.declared.expr.Function.{Function}

module _ (f : Function) (line : List ℕ) where
  -- at each place behind the name stands one letter
  letters : (a b : List ℕ) (k : ℕ) → (s : Says a f line) → (t : Says b f line)
      → get_or (a ++ s.0) k 0 ≡ get_or (b ++ t.0) k 0
  letters a b k s t =
      ap (λ (l : List ℕ). get_or l k 0) (append_cancel_left f.name (a ++ s.0) (b ++ t.0) (sym s.1 ∙ t.1))

  pub valid_not_depends : Says (codes ": valid, ") f line → Says (codes ": depends on ") f line → ⊥
  valid_not_depends s t =
      let no : 118 ≡ 100 = letters (codes ": valid, ") (codes ": depends on ") 2 s t in omega (arith, no)

  pub valid_not_invalid : Says (codes ": valid, ") f line → Says (codes ": invalid, ") f line → ⊥
  valid_not_invalid s t =
      let no : 118 ≡ 105 = letters (codes ": valid, ") (codes ": invalid, ") 2 s t in omega (arith, no)

  pub valid_not_open : Says (codes ": valid, ") f line → Says (codes ": open ") f line → ⊥
  valid_not_open s t = let no : 118 ≡ 111 = letters (codes ": valid, ") (codes ": open ") 2 s t in omega (arith, no)

  pub invalid_not_depends : Says (codes ": invalid, ") f line → Says (codes ": depends on ") f line → ⊥
  invalid_not_depends s t =
      let no : 105 ≡ 100 = letters (codes ": invalid, ") (codes ": depends on ") 2 s t in omega (arith, no)

  pub invalid_not_open : Says (codes ": invalid, ") f line → Says (codes ": open ") f line → ⊥
  invalid_not_open s t = let no : 105 ≡ 111 = letters (codes ": invalid, ") (codes ": open ") 2 s t in omega (arith, no)

  pub depends_not_open : Says (codes ": depends on ") f line → Says (codes ": open ") f line → ⊥
  depends_not_open s t =
      let no : 100 ≡ 111 = letters (codes ": depends on ") (codes ": open ") 2 s t in omega (arith, no)

  -- `at` or `before`
  pub at_not_before : Says (codes ": open at round ") f line → Says (codes ": open before round 0") f line → ⊥
  at_not_before s t =
      let no : 97 ≡ 98 = letters (codes ": open at round ") (codes ": open before round 0") 7 s t in omega (arith, no)
