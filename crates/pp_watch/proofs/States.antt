-- States of a watch, as their parts change.
use Rattle.std.proofs.Common.{ℕ, zero, suc, ◌+◌, ◌-◌, ◌≡◌, ◌<◌, ◌≤◌, true, false, List, [], ◌∷◌, ◌++◌, All}
use Rattle.std.proofs.Common.{Vec, Global, sym, refl, ap, ◌∙◌, subst, inl, inr, arith, length}
use Rattle.std.proofs.Common.{append_assoc, append-nil}
use Rattle.std.specs.Prelude.{IsSome}
use Rattle.std.proofs.lemmas.Bool.{both_ways}
use Rattle.std.proofs.lemmas.Option.{slice_get-get_or}
use Rattle.std.proofs.lemmas.List.Elements.{All-append, All-nil}
use Rattle.pp_clause.specs.Literal.{Literal, opposite}
use Rattle.pp_clause.specs.Clause.{has}
use Rattle.pp_clause.specs.Log.{all_negated}
use Rattle.pp_clause.specs.New.{OthersNegated}
use Rattle.pp_clause.specs.Bound.{IsUpTo}
use Rattle.pp_clause.proofs.Has.{has-All, same_var_cases, opposite_twice}
use Rattle.pp_trail.specs.declared.step.Step.{Step}
use Rattle.pp_trail.specs.Trail.{Trail, Extends, IsFalse, IsReason, lits}
use Rattle.pp_trail.proofs.Places.{IsAbsent, absent_from_lits}
use Rattle.pp_trail.proofs.Negated.{all_negated_from}
use Rattle.pp_trail.proofs.Growing.{extends_push}
use Rattle.pp_trail.specs.Marks.{code}
use Rattle.pp_watch.specs.Watching.{clause_at, IsWatching}
use Rattle.pp_watch.specs.Watching.{IsSound, Grows}
use Rattle.pp_watch.specs.Looking.{IsClauseOf, IsCut}
use Rattle.pp_watch.specs.declared.head.Head.{Head}
use Rattle.pp_watch.specs.declared.watcher.Watcher.{Watcher}
use Rattle.pp_watch.specs.declared.state.State.{State}
use Rattle.pp_trail.proofs.Truths.{code_within}
use Rattle.pp_watch.proofs.Guarded.{has_after, visited_push, visited_cut}
use Rattle.pp_watch.proofs.Closed.{same_literal}

-- the state with one step more
abbrev pub with_step : State → Step → State
with_step s step = record {
  trail = record { clauses = s.trail.clauses; steps = s.trail.steps ++ step ∷ []; vars = s.trail.vars };
  heads = s.heads;
  lists = s.lists;
  levels = s.levels;
  visited = s.visited;
}

-- the state with these levels
abbrev pub with_levels : State → Vec ℕ Global → State
with_levels s v = record { trail = s.trail; heads = s.heads; lists = s.lists; levels = v; visited = s.visited }

pub sound_step : (s : State) (step : Step) → IsSound s → IsSound (with_step s step)
sound_step s step h = record {
  watching = h.watching;
  visited = visited_push s.trail.clauses s.heads.items s.trail.steps s.visited s.levels.items step h.visited;
}

pub sound_levels : (s : State) (v : Vec ℕ Global) (bound : ℕ) → IsSound s → IsCut s.levels.items bound v.items →
    IsSound (with_levels s v)
sound_levels s v bound h c = record {
  watching = h.watching;
  visited = visited_cut s.trail.clauses s.heads.items s.trail.steps s.visited s.levels.items bound v.items h.visited c;
}

-- trails grow
pub extends_none : (ss : List Step) → Extends ss ss
extends_none ss = record { added = []; is = sym (append-nil ss); reasons = All-nil (λ s. IsSome s.reason) }

pub extends_along : (xs ys zs : List Step) → Extends xs ys → Extends ys zs → Extends xs zs
extends_along xs ys zs e f = record {
  added = e.added ++ f.added;
  is = f.is ∙ ap (λ (z : List Step). z ++ f.added) e.is ∙ append_assoc xs e.added f.added;
  reasons = All-append (λ s. IsSome s.reason) e.added f.added e.reasons f.reasons;
}

pub grows_none : (t : Trail) → Grows t t
grows_none t = record { clauses = refl; vars = refl; steps = extends_none t.steps }

pub grows_along : (r s t : Trail) → Grows r s → Grows s t → Grows r t
grows_along r s t g h = record {
  clauses = h.clauses ∙ g.clauses;
  vars = h.vars ∙ g.vars;
  steps =
      extends_along r.steps s.steps t.steps g.steps h.steps;
}

pub grows_step : (s : State) (step : Step) → IsSome step.reason → Grows s.trail (with_step s step).trail
grows_step s step r = record {
  clauses = refl;
  vars = refl;
  steps = extends_push s.trail.steps s.trail.steps step
      (extends_none s.trail.steps) r;
}

pub has_grown : (s t : Trail) (m : Literal) → Grows s t → has (lits s.steps) m ≡ true → has (lits t.steps) m ≡ true
has_grown s t m g h = ap (λ (z : List Step). has (lits z) m) g.steps.is ∙ has_more s.steps g.steps.added m h
  where
    has_more : (gs bs : List Step) (m : Literal) → has (lits gs) m ≡ true → has (lits (gs ++ bs)) m ≡ true
    has_more gs [] m h = ap (λ (z : List Step). has (lits z) m) (append-nil gs) ∙ h
    has_more gs (b ∷ bs) m h = ap (λ (z : List Step). has (lits z) m) (sym (append_assoc gs (b ∷ []) bs))
        ∙ has_more (gs ++ b ∷ []) bs m (has_after gs b m h)

-- literals of the clause with a number
pub clause_of_number : (cs : List (List Literal)) (vars n k : ℕ) (c : List Literal) → IsClauseOf cs vars n c → n
    ≡ k + 1 → clause_at cs k ≡ c
clause_of_number cs vars n k c h e = ap (clause_at cs) (let f : k ≡ n - 1 = omega arith in f) ∙ h.at

pub clause_at_number : (cs : List (List Literal)) (vars n : ℕ) (c : List Literal) → IsClauseOf cs vars n c →
    IsClauseOf cs vars n (clause_at cs (n - 1))
clause_at_number cs vars n c h = subst (λ (z : List Literal). IsClauseOf cs vars n z) (sym h.at) h

-- the clause with a number that there is
clause_by_place : (cs : List (List Literal)) (vars k : ℕ) → k < length cs → All (IsUpTo vars) cs →
    IsClauseOf cs vars (suc k) (clause_at cs k)
clause_by_place cs vars k lt up = record {
  is = slice_get-get_or cs k [] lt;
  at = ap (clause_at cs) (let e : suc k - 1 ≡ k = omega arith in e);
  up_to = up k [] lt;
}

pub clause_by_number : (cs : List (List Literal)) (vars n : ℕ) → 1 ≤ n → n ≤ length cs → All (IsUpTo vars) cs →
    IsClauseOf cs vars n (clause_at cs (n - 1))
clause_by_number cs vars zero low high up = absurd (omega arith)
clause_by_number cs vars (suc k) low high up =
    subst (λ (j : ℕ). IsClauseOf cs vars (suc k) (clause_at cs j)) (let e : k ≡ suc k - 1 = omega arith in e)
    (clause_by_place cs vars k (omega arith) up)

pub var_within : (cs : List (List Literal)) (vars n k : ℕ) (c : List Literal) (l : Literal) →
    IsClauseOf cs vars n c → n ≡ k + 1 → has (clause_at cs k) l ≡ true → l.var ≤ vars
var_within cs vars n k c l h e held = has-All (λ m. m.var ≤ vars) c l h.up_to
    (ap (λ (z : List Literal). has z l) (sym (clause_of_number cs vars n k c h e)) ∙ held)

pub code_of_clause : (cs : List (List Literal)) (vars n k : ℕ) (c : List Literal) (l : Literal) (heads : List Head)
    (lists : List (List Watcher)) → IsClauseOf cs vars n c → n ≡ k + 1 → has (clause_at cs k) l ≡ true →
    IsWatching cs vars heads lists → code l < length lists
code_of_clause cs vars n k c l heads lists h e held w =
    let b = code_within l vars (var_within cs vars n k c l h e held) in
    let s = w.sized in
    omega arith

-- a literal that is neither true nor false
pub open_absent : (ss : List Step) (l : Literal) → has (lits ss) l ≡ false → has (lits ss) (opposite l) ≡ false →
    IsAbsent l.var ss
open_absent ss l itself negation =
    absent_from_lits l.var ss (λ m h e. elim (same_var_cases l m (sym e)) [
      | inl s ↦ both_ways (has (lits ss) l) itself (subst (λ (z : Literal). has (lits ss) z ≡ true) (sym s) h)
      | inr s ↦ both_ways (has (lits ss) (opposite l)) negation
          (subst (λ (z : Literal). has (lits ss) z ≡ true) (sym (ap opposite s ∙ opposite_twice m)) h)
    ])

-- a clause whose literals are all false
pub false_clause : (cs : List (List Literal)) (vars n : ℕ) (c : List Literal) (set : List Literal) →
    IsClauseOf cs vars n c → all_negated set c ≡ true → IsFalse cs set n
false_clause cs vars n c set h neg = record { clause = c; is = h.is; negated = neg }

pub others_false : (set c : List Literal) (l : Literal) → OthersNegated set c l → has set (opposite l) ≡ true →
    all_negated set c ≡ true
others_false set c l o h = all_negated_from set c (λ m k. elim (same_literal m l) [
  | inl e ↦ ap (λ (z : Literal). has set (opposite z)) e ∙ h
  | inr ne ↦ o.negated m k ne
])

-- a reason by the number of a clause
pub reason_of : (cs : List (List Literal)) (vars n k : ℕ) (c set : List Literal) (l : Literal) →
    IsClauseOf cs vars n c → n ≡ k + 1 → has (clause_at cs k) l ≡ true → OthersNegated set (clause_at cs k) l →
    IsReason cs set l n
reason_of cs vars n k c set l h e held others =
    let same = clause_of_number cs vars n k c h e in
    record {
      clause = c;
      is = h.is;
      held = ap (λ (z : List Literal). has z l) (sym same) ∙ held;
      others = subst (λ (z : List Literal). OthersNegated set z l) same others;
    }
