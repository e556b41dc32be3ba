-- A bound that grows as literals are read.
use Rattle.std.proofs.Common.{ℕ, ◌+◌, ◌-◌, ◌^◌, ◌≡◌, ◌∙◌, ap, Some, ◌<◌, ◌≤◌, List, sym, subst, arith, length, get_or}
use Rattle.std.proofs.Common.{take, All}
use Rattle.std.specs.Prelude.{max, slice_get}
use Rattle.std.proofs.lemmas.Option.{get_or_from_slice_get}
use Rattle.std.proofs.lemmas.List.{take_all}
use Rattle.std.proofs.lemmas.List.Elements.{All-more, All-weaker}
use Rattle.pp_clause.specs.Literal.{Literal}
use Rattle.pp_clause.specs.Bound.{IsUpTo}

pub up_to_higher : (a b : ℕ) (ls : List Literal) → a ≤ b → IsUpTo a ls → IsUpTo b ls
up_to_higher a b ls le h = All-weaker (λ l. l.var ≤ a) (λ l. l.var ≤ b) (λ l k. omega arith) ls h

-- the bound after the first literals, from the bound before them
pub record IsBound (bound : ℕ) (ls : List Literal) (count greatest : ℕ) : Type 0 where
  pub kept : bound ≤ greatest
  pub up_to : IsUpTo greatest (take count ls)
  pub least : (vars : ℕ) → bound ≤ vars → IsUpTo vars ls → greatest ≤ vars
  pub small : bound ≤ 2 ^ 30 → greatest ≤ 2 ^ 30

pub bound_more : (bound : ℕ) (ls : List Literal) (i greatest next : ℕ) (l : Literal) → IsBound bound ls i greatest
    → i < length ls → l ≡ get_or ls i l → l.var ≤ 2 ^ 30 → next ≡ max greatest l.var → IsBound bound ls (i + 1) next
bound_more bound ls i greatest next l h lt is low e =
    let here : (get_or ls i l).var ≤ next = subst (λ (z : Literal). z.var ≤ next) is (omega arith) in
    record {
      kept = (let k = h.kept in omega arith);
      up_to = All-more (λ m. m.var ≤ next) ls i l lt (up_to_higher greatest next (take i ls) (omega arith) h.up_to)
          here;
      least = λ vars le up. (
          let a = h.least vars le up in
          let b : l.var ≤ vars = subst (λ (z : Literal). z.var ≤ vars) (sym is) (up i l lt) in
          omega arith);
      small = λ le. (let a = h.small le in omega arith);
    }

-- the bound after the first clauses
pub record IsGreatest (cs : List (List Literal)) (count greatest : ℕ) : Type 0 where
  pub up_to : All (IsUpTo greatest) (take count cs)
  pub least : (vars : ℕ) → All (IsUpTo vars) cs → greatest ≤ vars
  pub small : greatest ≤ 2 ^ 30

pub greatest_more : (cs : List (List Literal)) (i greatest next : ℕ) (c : List Literal) → IsGreatest cs i greatest
    → i < length cs → slice_get cs (i + 1 - 1) ≡ Some c → greatest ≤ next → IsUpTo next c →
    ((vars : ℕ) → greatest ≤ vars → IsUpTo vars c → next ≤ vars) → (greatest ≤ 2 ^ 30 → next ≤ 2 ^ 30)
    → IsGreatest cs (i + 1) next
greatest_more cs i greatest next c h lt at le up least small =
    let back : i + 1 - 1 ≡ i = omega arith in
    let got : get_or cs i c ≡ c = get_or_from_slice_get cs i c c (ap (slice_get cs) (sym back) ∙ at) in
    record {
      up_to = All-more (IsUpTo next) cs i c lt (All-weaker (IsUpTo greatest) (IsUpTo next)
          (λ d k. up_to_higher greatest next d le k) (take i cs) h.up_to) (rw got up);
      least = λ vars all. least vars (h.least vars all) (rw got at (all i c lt));
      small = small h.small;
    }

-- what holds of the first i elements, where there are no more
pub all_of : {X : Type 0} (P : X → Type 0) (xs : List X) (i : ℕ) → length xs ≤ i → All P (take i xs) → All P xs
all_of P xs i le h = subst (λ zs. All P zs) (take_all i xs le) h
