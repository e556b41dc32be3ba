-- The name of another function ends where the number of the checks begins.
use Rattle.std.proofs.Common.{◌≡◌, ◌∙◌, ℕ, List, [], ◌∷◌, ◌++◌, codes, decimal, sym, ap, subst, arith}
use Rattle.std.proofs.Common.{append_assoc}
use Rattle.std.specs.Prelude.{reverse}
use Rattle.std.proofs.lemmas.Fmt.{decimal_injective}
use Rattle.std.proofs.lemmas.Grind.{reverse_onto}
use Rattle.std.proofs.lemmas.List.{append_cancel_right, reverse-append, reverse-reverse}
use Rattle.pp_tokens.proofs.Every.{Every}
use Rattle.pp_line_contents.proofs.Spans.{one_span, rest_same}
use Rattle.pp_line_contents.proofs.Words.{IsDigit, digits}
use Rattle.pp_line_contents.specs.Contents.{IsSmall}

every_more : (P : ℕ → Type 0) (cs : List ℕ) (c : ℕ) → Every P cs → P c → Every P (cs ++ c ∷ [])
every_more P [] c h p = (p, tt)
every_more P (d ∷ cs) c h p = (h.0, every_more P cs c h.1 p)

every_reversed : (P : ℕ → Type 0) (cs : List ℕ) → Every P cs → Every P (reverse cs)
every_reversed P [] h = tt
every_reversed P (c ∷ cs) h =
    subst (Every P) (sym (reverse_onto cs c [])) (every_more P (reverse cs) c (every_reversed P cs h.1) h.0)

reversed_same : (a b : List ℕ) → reverse a ≡ reverse b → a ≡ b
reversed_same a b e = sym (reverse-reverse a) ∙ ap reverse e ∙ reverse-reverse b

-- a blank is no digit
pub no_blank : IsDigit 32 → ⊥
no_blank h = omega (arith, h.0)

-- from the end
reversed : (a : List ℕ) (m : ℕ) → reverse (a ++ 44 ∷ 32 ∷ decimal m) ≡ reverse (decimal m) ++ 32 ∷ 44 ∷ reverse a
reversed a m =
    ap reverse (sym (append_assoc a (44 ∷ 32 ∷ []) (decimal m)))
    ∙ reverse-append (a ++ 44 ∷ 32 ∷ []) (decimal m)
    ∙ ap (λ l. reverse (decimal m) ++ l) (reverse-append a (44 ∷ 32 ∷ []))

ending : (a : List ℕ) (m : ℕ) → a ++ (codes ", " ++ (decimal m ++ codes " checks\n"))
    ≡ (a ++ 44 ∷ 32 ∷ decimal m) ++ codes " checks\n"
ending a m = sym (append_assoc a (44 ∷ 32 ∷ decimal m) (codes " checks\n"))

pub one_ending : (a b : List ℕ) (m n : ℕ) → IsSmall m → IsSmall n
    → a ++ (codes ", " ++ (decimal m ++ codes " checks\n")) ≡ b ++ (codes ", " ++ (decimal n ++ codes " checks\n"))
    → (a ≡ b) × (m ≡ n)
one_ending a b m n p q e =
    let fronts = append_cancel_right (a ++ 44 ∷ 32 ∷ decimal m) (b ++ 44 ∷ 32 ∷ decimal n) (codes " checks\n")
    (sym (ending a m) ∙ e ∙ ending b n) in
    let both = one_span IsDigit (reverse (decimal m)) (reverse (decimal n)) _ _
    (every_reversed IsDigit (decimal m) (digits m p)) (every_reversed IsDigit (decimal n) (digits n q)) no_blank
    no_blank (sym (reversed a m) ∙ ap reverse fronts ∙ reversed b n) in (
      reversed_same a b (rest_same (rest_same both.1)),
      decimal_injective m n p q (reversed_same (decimal m) (decimal n) both.0),
    )
