-- Texts that grow at their end.
use Rattle.std.proofs.Common.{ℕ, ◌+◌, ◌/◌, ◌%◌, ◌^◌, ◌≡◌, ◌<◌, ◌≤◌, List, [], ◌∷◌, ◌++◌, sym, ap, ◌∙◌, arith}
use Rattle.std.proofs.Common.{append_assoc}
use Rattle.std.specs.Fmt.{decimal}
use Rattle.std.proofs.lemmas.Fmt.{decimal_step, decimal_digit}

pub decimal_more : (old : List ℕ) (n : ℕ) → 10 ≤ n → n < 2 ^ 32
    → (old ++ decimal (n / 10)) ++ ((48 + n % 10) ∷ []) ≡ old ++ decimal n
decimal_more old n big lt =
    append_assoc old (decimal (n / 10)) ((48 + n % 10) ∷ [])
    ∙ ap (λ (z : List ℕ). old ++ z) (sym (decimal_step n big (omega arith)))

pub decimal_one : (old : List ℕ) (n : ℕ) → n < 10 → old ++ ((48 + n % 10) ∷ []) ≡ old ++ decimal n
decimal_one old n lt =
    let same : n % 10 ≡ n = omega arith in
    ap (λ (d : ℕ). old ++ ((48 + d) ∷ [])) same ∙ ap (λ (z : List ℕ). old ++ z) (sym (decimal_digit n lt))
