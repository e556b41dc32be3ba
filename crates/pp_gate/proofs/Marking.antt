-- Marks on the variables of literals.
use Rattle.std.proofs.Common.{◌≡◌, ℕ, ◌+◌, ◌-◌, ◌<◌, Bool, true, false, List, ◌++◌, replicate, ◌∙◌, inl, inr, arith}
use Rattle.std.proofs.lemmas.Grind.{common_steps}
use Rattle.std.proofs.lemmas.List.{get_or-replicate}
use Rattle.std.proofs.lemmas.List.Elements.{Contains-append_left, Contains-append_right, Contains-append_cases}
use Rattle.pp_clause.specs.Literal.{Literal}
use Rattle.pp_clause.specs.Assignment.{assigned}
use Rattle.pp_gate.specs.Marks.{Marks}

pub marks_more : (a b c : List Bool) (xs ys : List Literal) → Marks a b xs → Marks b c ys → Marks a c (xs ++ ys)
marks_more a b c xs ys f g = record {
  len = g.len ∙ f.len;
  stays = λ x h. g.stays x (f.stays x h);
  these = λ l at. elim (Contains-append_cases xs ys l at) [ inl p ↦ g.stays l.var (f.these l p) | inr p ↦ g.these l p ];
  only = λ x some h. elim (g.only x some h) [
    | inl p ↦ elim (f.only x some p) [ inl q ↦ inl q | inr q ↦ inr (q.0, Contains-append_left xs ys q.0 q.1, q.2) ]
    | inr p ↦ inr (p.0, Contains-append_right xs ys p.0 p.1, p.2)
  ];
}

-- nothing is marked in the beginning
pub none_marked : (n x : ℕ) → assigned (replicate n false) x ≡ true → ⊥
none_marked n x h = grind (arith, common_steps)

-- everything is, where all marks are set
pub all_marked : (n k : ℕ) (marks : List Bool) → marks ≡ replicate n true → k < n → assigned marks (k + 1) ≡ true
all_marked n k marks e lt = rw e (get_or-replicate n (k + 1 - 1) true false (omega arith))
