-- The loop that sees whether literals stand in ascending order of variable.
use Rattle.std.proofs.Common.{ℕ, ◌+◌, ◌≡◌, ◌<◌, ◌≤◌, ◌⊎◌, true, List, [], sym, refl, subst, ◌∙◌, inl, inr, arith}
use Rattle.std.proofs.Common.{length, get_or, take, All}
use Rattle.std.proofs.lemmas.List.{get_or-take, get_or_default, length-take-le}
use Rattle.std.proofs.lemmas.List.Elements.{All-nil, All-push, All-weaker}
use Rattle.std.proofs.lemmas.List.Quantifiers.{all_pairs_push}
use Rattle.pp_clause.specs.Literal.{Literal, IsVariable}
use Rattle.pp_clause.specs.Clause.{has, IsClause}
use Rattle.pp_clause.proofs.Has.{has-push_last, has-All}
use Rattle.pp_clause.proofs.Merging.{one_more}

-- the literals that were seen are in order, and the last of them has this variable
pub record Climbed (done : List Literal) (last : ℕ) : Type 0 where
  pub order : IsClause done
  pub most : All (λ m. m.var ≤ last) done
  pub ends : (last ≡ 0) ⊎ ((l : Literal) × (has done l ≡ true) × (l.var ≡ last))

pub climbed_none : Climbed [] 0
climbed_none = record {
  order = record { ascending = λ j k d lt within. absurd (omega arith); in_range = All-nil (λ l. IsVariable l.var) };
  most = All-nil (λ m. m.var ≤ 0);
  ends = inl refl;
}

pub climbed_next : (ls : List Literal) (i last : ℕ) (x : Literal) → i < length ls → x ≡ get_or ls i x → IsVariable x.var
    → last < x.var
    → Climbed (take i ls) last → Climbed (take (i + 1) ls) x.var
climbed_next ls i last x lt is v up c = rw (one_more ls i x lt is) (record {
  order = record {
    ascending = all_pairs_push (λ l m. l.var < m.var) (take i ls) x c.order.ascending
        (All-weaker (λ l. l.var ≤ last) (λ l. l.var < x.var) (λ l h. omega arith) (take i ls) c.most);
    in_range = All-push (λ l. IsVariable l.var) (take i ls) x c.order.in_range v;
  };
  most = All-push (λ l. l.var ≤ x.var) (take i ls) x
      (All-weaker (λ l. l.var ≤ last) (λ l. l.var ≤ x.var) (λ l h. omega arith) (take i ls) c.most) (omega arith);
  ends = inr (x, has-push_last (take i ls) x x refl, refl);
})

-- the literals of a clause before place i have a lesser variable than the one there
before_at : (ls : List Literal) (i : ℕ) (x : Literal) → IsClause ls → i < length ls → x ≡ get_or ls i x
    → All (λ m. m.var < x.var) (take i ls)
before_at ls i x o lt is = λ k d h.
    let cut : length (take i ls) ≡ i = length-take-le i ls (omega arith) in
    let inside : k < i = omega arith in
    let step : (get_or ls k x).var < (get_or ls i x).var = o.ascending k i x inside lt in
    let here : (get_or ls k x).var < x.var = subst (λ (z : Literal). (get_or ls k x).var < z.var) (sym is) step in
    let same : get_or (take i ls) k d ≡ get_or ls k x =
    get_or-take i ls k d inside ∙ get_or_default ls k d x (omega arith) in
    subst (λ (z : Literal). z.var < x.var) (sym same) here

-- a literal that has no greater variable than the one before it
pub falls : (ls : List Literal) (i last : ℕ) (x : Literal) → i < length ls → x ≡ get_or ls i x → 1 ≤ x.var
    → x.var ≤ last → Climbed (take i ls) last → IsClause ls → ⊥
falls ls i last x lt is some down c o =
    elim c.ends [
      | inl none ↦ absurd (omega arith)
      | inr l ↦ (let less : l.0.var < x.var =
          has-All (λ m. m.var < x.var) (take i ls) l.0 (before_at ls i x o lt is) l.1 in absurd (omega (arith, l.2)))
    ]
