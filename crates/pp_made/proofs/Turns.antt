-- What is written turn by turn.
use Rattle.std.proofs.Common.{◌≡◌, ◌∙◌, ℕ, ◌+◌, [], ◌∷◌, ◌++◌, codes, map, sym, ap, arith, append_assoc, append-nil}
use Rattle.std.proofs.lemmas.List.Folds.{concat-append}
use Rattle.std.proofs.lemmas.List.FromFn.{map-range_with_len_more}
use Rattle.std.specs.List.{concat, range_with_len}
use Rattle.pp_made.specs.Made.{Text, count_with, functions_text, functions_to, opening, made_source, step_with}

-- the functions of one more number stand behind the earlier ones
functions_more : (n : ℕ) → functions_to (n + 1) ≡ functions_to n ++ functions_text (n + 1)
functions_more n =
    ap concat (map-range_with_len_more functions_text 1 n (n + 1) (omega arith))
    ∙ concat-append (map functions_text (range_with_len 1 n)) (functions_text (n + 1) ∷ [])
    ∙ ap (λ text. functions_to n ++ text) (append-nil (functions_text (n + 1)))

-- after a turn the functions of one more number stand behind the opening
pub functions_turn : (n bound : ℕ) (old counted stepped : Text)
    → bound ≡ 10 + (n + 1) → old ≡ opening ++ functions_to n
    → counted ≡ old ++ concat (count_with (n + 1) bound) → stepped ≡ counted ++ concat (step_with (n + 1) bound)
    → stepped ≡ opening ++ functions_to (n + 1)
functions_turn n bound old counted stepped above earlier count step =
    let counts = concat (count_with (n + 1) bound) in
    let steps = concat (step_with (n + 1) bound) in
    step
    ∙ ap (λ text. text ++ steps) (count ∙ ap (λ text. text ++ counts) earlier)
    ∙ append_assoc (opening ++ functions_to n) counts steps
    ∙ append_assoc opening (functions_to n) (counts ++ steps)
    ∙ ap (λ b. opening ++ (functions_to n ++ (concat (count_with (n + 1) b) ++ concat (step_with (n + 1) b)))) above
    ∙ ap (λ text. opening ++ text) (sym (functions_more n))

-- the brace behind the last functions ends the source
pub source_end : (last seed : ℕ) (old new : Text) → last ≡ seed → old ≡ opening ++ functions_to last
    → new ≡ old ++ codes "}\n" → new ≡ made_source seed
source_end last seed old new same earlier added =
    added
    ∙ ap (λ text. text ++ codes "}\n") (earlier ∙ ap (λ n. opening ++ functions_to n) same)
    ∙ append_assoc opening (functions_to seed) (codes "}\n")
