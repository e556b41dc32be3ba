-- A run of operator characters, one character at a time.
use Rattle.std.proofs.Common.{ℕ, ◌≡◌, ◌+◌, ◌≤◌, List, ◌∷◌, drop, length, sym, ap, ◌∙◌, arith, Bool, true, false, cond}
use Rattle.std.proofs.lemmas.List.{drop-drop, at_drop_all}
use Rattle.pp_tokens.specs.Operators.{run_len, runs_on}

module _ (cs rest : List ℕ) (i x : ℕ) (split : drop i cs ≡ x ∷ rest) where
  behind : rest ≡ drop (i + 1) cs
  behind = sym (ap (λ (k : ℕ). drop k cs) (omega arith) ∙ sym (drop-drop 1 i cs) ∙ ap (drop 1) split)

  here : run_len (drop i cs) ≡ cond (runs_on x rest) (1 + run_len (drop (i + 1) cs)) 0
  here = ap run_len split ∙ ap (λ (l : List ℕ). cond (runs_on x rest) (1 + run_len l) 0) behind

  pub run_goes_on : runs_on x rest ≡ true → run_len (drop i cs) ≡ 1 + run_len (drop (i + 1) cs)
  run_goes_on h = here ∙ ap (λ (b : Bool). cond b (1 + run_len (drop (i + 1) cs)) 0) h

  pub run_stops : runs_on x rest ≡ false → run_len (drop i cs) ≡ 0
  run_stops h = here ∙ ap (λ (b : Bool). cond b (1 + run_len (drop (i + 1) cs)) 0) h

pub run_ends : (cs : List ℕ) (i : ℕ) → length cs ≤ i → run_len (drop i cs) ≡ 0
run_ends cs i le = at_drop_all run_len cs i le

-- what the loop over the characters asks for
pub ruleset run_len_steps = (run_goes_on, run_stops, run_ends)
