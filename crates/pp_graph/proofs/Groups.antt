-- The first function of a group, read from the table of rows.
use Rattle.std.proofs.Common.{◌≡◌, ◌⊎◌, ◌<◌, ◌≤◌, ◌+◌, ◌-◌, ℕ, zero, suc, Bool, true, false, List, length, refl}
use Rattle.std.proofs.Common.{sym, ap, ◌∙◌, subst, arith, inl, inr, ⊎_elim}
use Rattle.std.proofs.lemmas.Bool.Decides.{eqb_tells}
use Rattle.std.proofs.lemmas.Bool.{and_parts}
use Rattle.pp_graph.specs.Reaches.{Reaches, SameGroup, IsGroup, AreGroups}
use Rattle.pp_graph.specs.Rows.{Tells, Grouped, mutual_at, first_or, first_from, group}
use Rattle.pp_graph.proofs.Paths.{source_within}

pub first_on : (rows : List (List Bool)) (f g : ℕ) → g < f → mutual_at rows f g ≡ false
    → first_from rows f g (f - g) ≡ first_from rows f (g + 1) (f - (g + 1))
first_on rows f g lt h =
    let one : f - g ≡ suc (f - (g + 1)) = omega arith in
    let two : suc g ≡ g + 1 = omega arith in
    rw one (rw h (ap (λ n. first_from rows f n (f - (g + 1))) two))

pub first_least : (rows : List (List Bool)) (f g k : ℕ) → f ≡ g + k → first_from rows f g k ≤ f
first_least rows f g zero e = omega arith
first_least rows f g (suc k) e = by (mutual_at rows f g) (first_least rows f (suc g) k (omega arith))
  where
    by : (t : Bool) → first_from rows f (suc g) k ≤ f → first_or t g (first_from rows f (suc g) k) ≤ f
    by true more = omega arith
    by false more = more

pub group_least : (rows : List (List Bool)) (f : ℕ) → group rows f ≤ f
group_least rows f = first_least rows f 0 f (omega arith)

module _ (calls : List (List ℕ)) (rows : List (List Bool)) (t : Tells calls (length calls) rows) where
  related : (f g : ℕ) → f < length calls → g < length calls → mutual_at rows f g ≡ true → Reaches calls f g
      × Reaches calls g f
  related f g inf ing h = let p = and_parts _ _ h in ((t.tells f g inf ing).0 p.0, (t.tells g f ing inf).0 p.1)

  tested : (f g : ℕ) → Reaches calls f g → Reaches calls g f → mutual_at rows f g ≡ true
  tested f g a b =
      let inf = source_within calls f g a in
      let ing = source_within calls g f b in
      rw ((t.tells f g inf ing).1 a, (t.tells g f ing inf).1 b) refl

  -- what is found is of the group
  first_inside : (f g k : ℕ) → f < length calls → f ≡ g + k → SameGroup calls f (first_from rows f g k)
  first_inside f g zero inf e = inl refl
  first_inside f g (suc k) inf e =
      by (mutual_at rows f g) refl (first_inside f (suc g) k inf (omega arith))
    where
      by : (b : Bool) → mutual_at rows f g ≡ b → SameGroup calls f (first_from rows f (suc g) k)
          → SameGroup calls f (first_or b g (first_from rows f (suc g) k))
      by true h more = inr (related f g inf (omega arith) h)
      by false h more = more

  -- and nothing before it is
  first_first : (f g k h : ℕ) → f ≡ g + k → g ≤ h → h < first_from rows f g k → mutual_at rows f h ≡ true → ⊥
  first_first f g zero h e le lt m =
      let over = first_least rows f g zero e in absurd (omega arith)
  first_first f g (suc k) h e le lt m =
      by (mutual_at rows f g) refl lt (λ more. first_first f (suc g) k h (omega arith) more)
    where
      same : h ≡ g → mutual_at rows f g ≡ true
      same is = subst (λ n. mutual_at rows f n ≡ true) is m

      by : (b : Bool) → mutual_at rows f g ≡ b → h < first_or b g (first_from rows f (suc g) k)
          → (suc g ≤ h → h < first_from rows f (suc g) k → mutual_at rows f h ≡ true → ⊥) → ⊥
      by true e1 lt more = absurd (omega arith)
      by false e1 lt more =
          ⊎_elim (λ is. let x : false ≡ true = sym e1 ∙ same is in cc) (λ gt. more gt lt m) (equal_or g h le)
        where
          equal_or : (g h : ℕ) → g ≤ h → (h ≡ g) ⊎ (suc g ≤ h)
          equal_or g h le = elim (eqb_tells h g) [ inl e ↦ inl e.1 | inr e ↦ inr (omega (arith, e.1)) ]

  below_none : (f h : ℕ) → h < group rows f → SameGroup calls f h → ⊥
  below_none f h lt (inl e) = let le = group_least rows f in absurd (omega arith)
  below_none f h lt (inr r) = first_first f 0 f h (omega arith) (omega arith) lt (tested f h r.0 r.1)

  le_or : (a b : ℕ) → (b < a → ⊥) → a ≤ b
  le_or a b never = grind (arith, never)

  pub group_is : (f : ℕ) → f < length calls → IsGroup calls f (group rows f)
  group_is f inf = record {
    inside = first_inside f 0 f inf (omega arith);
    least = λ g s. le_or (group rows f) g (λ lt. below_none f g lt s);
  }

  pub are_groups : (groups : List ℕ) → Grouped rows (length rows) groups → AreGroups calls groups
  are_groups groups g = record {
    size = g.size ∙ t.size;
    each = λ f n is. let p = g.each f n is in
        subst (λ m. IsGroup calls f m) (sym p.1) (group_is f (omega (arith, p.0, t.size)));
  }
