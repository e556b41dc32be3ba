-- The false clause that the analysis begins with.
use Rattle.std.proofs.Common.{ℕ, ◌-◌, ◌≡◌, ◌<◌, ◌≤◌, Bool, true, false, List, Some, ◌∷◌, [], sym, refl, ap, ◌∙◌, subst}
use Rattle.std.proofs.Common.{inl, inr, arith, length, take}
use Rattle.std.specs.Prelude.{◌||◌, slice_get}
use Rattle.std.proofs.lemmas.Bool.{cases_lt, and_parts, and_from}
use Rattle.pp_clause.specs.Literal.{Literal, opposite}
use Rattle.pp_clause.specs.Clause.{has}
use Rattle.pp_clause.proofs.Has.{opposite_twice, same_var_cases, same_bool, false_not_true, All-from_has}
use Rattle.pp_trail.specs.declared.step.Step.{Step}
use Rattle.pp_trail.specs.Trail.{lits, IsTrail, IsFalse}
use Rattle.pp_trail.proofs.Places.{has_at}
use Rattle.pp_trail.proofs.Negated.{negated_at, all_negated_from}
use Rattle.pp_clause.specs.Bound.{Fits}
use Rattle.pp_learn.specs.Seen.{is_marked, has_var, MarksAll, AreBlank, IsClear}
use Rattle.pp_learn.specs.Reached.{IsTrailFor, Reached}
use Rattle.pp_learn.proofs.Places.{literal_in, step_in_range, trail_consistent}
use Rattle.pp_learn.proofs.Chains.{derived_one, numbered_within, numbered_is}
use Rattle.pp_learn.proofs.Turning.{bearer, has_var_from}

-- the clause that is looked up is the false one
pub conflict_clause : (cs : List (List Literal)) (set : List Literal) (n : ℕ) (c got : List Literal)
    → (f : IsFalse cs set n) → slice_get cs (n - 1) ≡ Some got → c ≡ got → c ≡ f.clause
conflict_clause cs set n c got f look same = same ∙ numbered_is cs n f.clause got f.is look

pub conflict_numbered : (cs : List (List Literal)) (set : List Literal) (n : ℕ) → IsFalse cs set n → (1 ≤ n)
    × (n ≤ length cs)
conflict_numbered cs set n f = let w = numbered_within cs n f.clause f.is in (w.0, w.1)

-- its literals are false
pub false_at : (cs : List (List Literal)) (set : List Literal) (n : ℕ) (c got : List Literal) (f : IsFalse cs set n)
    → slice_get cs (n - 1) ≡ Some got → c ≡ got → (m : Literal) → has c m ≡ true → has set (opposite m) ≡ true
false_at cs set n c got f look same m h =
    negated_at set f.clause m f.negated (subst (λ (z : List Literal). has z m ≡ true)
    (conflict_clause cs set n c got f look same) h)

pub conflict_fits : (cs : List (List Literal)) (steps : List Step) (seen : List Bool) (n : ℕ) (c got : List Literal)
    → IsTrailFor cs steps seen → IsFalse cs (lits steps) n → slice_get cs (n - 1) ≡ Some got → c ≡ got
    → Fits (length seen) c
conflict_fits cs steps seen n c got trail f look same =
    All-from_has (λ l. l.var < length seen) c (λ m h.
    let p = literal_in steps (opposite m) (false_at cs (lits steps) n c got f look same m h) in
    let r = step_in_range cs (length seen - 1) steps p.place p.step trail p.stands in
    let var : p.step.lit.var ≡ m.var = ap (λ (z : Literal). z.var) p.is in
    omega (arith, r.0, r.1, var))

false_or : (a b : Bool) → a ≡ false → (a || b) ≡ b
false_or true b h = absurd (false_not_true (sym h))
false_or false b h = refl

-- and the marks show it
pub begins : (cs : List (List Literal)) (vars : ℕ) (steps : List Step) (old new : List Bool) (n : ℕ)
    (c got : List Literal) (chain : List ℕ) → IsTrail cs vars steps → IsFalse cs (lits steps) n
    → slice_get cs (n - 1) ≡ Some got → c ≡ got → AreBlank old → MarksAll old new c → chain ≡ n ∷ []
    → Reached cs steps new chain
begins cs vars steps old new n c got chain trail f look same blank all is = record {
  found = c;
  by_chain = ap (λ (z : List ℕ). Rattle.pp_clause.specs.Derivation.derived_by cs z) is
      ∙ derived_one cs n c (f.is ∙ ap (λ (z : List Literal). Some z)
      (sym (conflict_clause cs (lits steps) n c got f look same)));
  shown = record {
    same = λ m. same_bool _ _
        (λ h. and_from (is_marked new m.var) (has (lits steps) (opposite m))
        (all.same m.var ∙ false_or (is_marked old m.var) (has_var c m.var) (blank.blank m.var) ∙ has_var_from c m h)
        (false_at cs (lits steps) n c got f look same m h))
        (λ h. let p = and_parts (is_marked new m.var) (has (lits steps) (opposite m)) h in
        let b = bearer c m.var (sym (false_or (is_marked old m.var) (has_var c m.var) (blank.blank m.var))
        ∙ sym (all.same m.var) ∙ p.0) in
        elim (same_var_cases b.literal m b.is) [
          | inl e ↦ subst (λ (z : Literal). has c z ≡ true) e b.held
          | inr e ↦ absurd ((trail_consistent cs vars steps trail).apart m
              (subst (λ (z : Literal). has (lits steps) z ≡ true) (ap opposite e ∙ opposite_twice m)
              (false_at cs (lits steps) n c got f look same b.literal b.held))
              p.1)
        ]);
  };
}

-- where no step from `start` on is marked, the clause was false before
pub begins_later : (cs : List (List Literal)) (steps : List Step) (old new : List Bool) (n : ℕ) (c got : List Literal)
    → IsFalse cs (lits steps) n → slice_get cs (n - 1) ≡ Some got → c ≡ got → AreBlank old → MarksAll old new c
    → (start : ℕ) → IsClear steps new start (length steps) → IsFalse cs (lits (take start steps)) n
begins_later cs steps old new n c got f look same blank all start clear = record {
  clause = c;
  is = f.is ∙ ap (λ (z : List Literal). Some z) (sym (conflict_clause cs (lits steps) n c got f look same));
  negated = all_negated_from (lits (take start steps)) c (λ m h.
      let p = literal_in steps (opposite m) (false_at cs (lits steps) n c got f look same m h) in
      let marked : is_marked new p.step.lit.var ≡ true =
      ap (is_marked new) (ap (λ (z : Literal). z.var) p.is) ∙ all.same m.var
      ∙ false_or (is_marked old m.var) (has_var c m.var) (blank.blank m.var) ∙ has_var_from c m h in
      elim (cases_lt p.place start) [
        | inl lt ↦ subst (λ (z : Literal). has (lits (take start steps)) z ≡ true) p.is
            (has_at steps p.place start p.step p.stands lt)
        | inr ge ↦ absurd (false_not_true (sym (clear.clear p.place p.step ge p.before p.stands) ∙ marked))
      ]);
}
