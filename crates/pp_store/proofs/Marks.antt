-- The search of a tree from the greatest number down: what is marked, and what is left to look at.
use Rattle.std.proofs.Common.{◌≡◌, ◌≢◌, ◌∙◌, ◌⊎◌, ℕ, zero, suc, ◌+◌, ◌-◌, ◌<◌, ◌≤◌, Bool, true, false, List, [], ◌∷◌}
use Rattle.std.proofs.Common.{append-nil, take, drop, ◌++◌}
use Rattle.std.proofs.Common.{Contains, get_or, length, refl, sym, ap, subst, arith, inl, inr, ⊎_elim}
use Rattle.std.proofs.lemmas.Bool.{cases_lt}
use Rattle.std.proofs.lemmas.List.{drop_all, get_or_default, take_all}
use Rattle.std.proofs.lemmas.List.Elements.{All-contains}
use Rattle.pp_prog.specs.declared.id.CtorId.{CtorId}
use Rattle.pp_prog.specs.declared.value.Value.{Value}
use Rattle.pp_prog.specs.declared.value.Value.TheVariants as value
use Rattle.pp_prog.specs.declared.value.Value.TheViews.{out-Value}
use Rattle.pp_prog.specs.Values.{IsBelow, is_field, is_deeper}
use Rattle.pp_prog.proofs.Values.{below_tree}
use Rattle.pp_store.specs.declared.held.Held.{Held}
use Rattle.pp_store.specs.declared.held.Held.TheVariants as held
use Rattle.pp_store.specs.Values.{AreBefore, IsBefore, value_of, values_of}
use Rattle.pp_store.specs.Marks.{IsMarked, Marks}

-- ---- proper subtrees

-- what lies below what lies below a tree lies below it
pub below_below : {t v u : Value} → IsBelow t v → IsBelow v u → IsBelow t u
below_below b (is_field c fields e has) = is_deeper c fields e has b
below_below b (is_deeper c fields e has deep) = is_deeper c fields e has (below_below b deep)

-- nothing lies below a number or a truth value
pub none_below_int : (t : Value) (n : _) → IsBelow t (value.Int n) → ⊥
none_below_int t n (is_field c fields e has) =
    let o = sym (value.outs-Int n) ∙ ap out-Value e ∙ value.outs-Tree c fields in cc
none_below_int t n (is_deeper c fields e has b) =
    let o = sym (value.outs-Int n) ∙ ap out-Value e ∙ value.outs-Tree c fields in cc

pub none_below_bool : (t : Value) (b : Bool) → IsBelow t (value.Bool b) → ⊥
none_below_bool t b (is_field c fields e has) =
    let o = sym (value.outs-Bool b) ∙ ap out-Value e ∙ value.outs-Tree c fields in cc
none_below_bool t b (is_deeper c fields e has d) =
    let o = sym (value.outs-Bool b) ∙ ap out-Value e ∙ value.outs-Tree c fields in cc

-- a number below the next one is less, or the one
cases : (k n : ℕ) → k < n + 1 → (k < n) ⊎ (k ≡ n)
cases k n lt = ⊎_elim inl (λ ge. inr (omega (arith, lt, ge))) (cases_lt k n)

-- ---- values of lists

module _ (trees : List Value) where
  -- what is held among these has its value among theirs
  pub value_contained : (hs : List Held) (h : Held) → Contains hs h → Contains (values_of trees hs) (value_of trees h)
  value_contained [] h (k, lt, is) = absurd (omega (arith, lt))
  value_contained (x ∷ xs) h (zero, lt, is) = (zero, omega arith, ap (value_of trees) is)
  value_contained (x ∷ xs) h (suc k, lt, is) =
      let (j, less, at) = value_contained xs h (k, omega (arith, lt), is) in (suc j, omega (arith, less), at)

  -- a value among theirs is that of one of these
  pub contained_value : (hs : List Held) (v : Value) → Contains (values_of trees hs) v
      → (h : Held) × Contains hs h × (value_of trees h ≡ v)
  contained_value [] v (k, lt, is) = absurd (omega (arith, lt))
  contained_value (x ∷ xs) v (zero, lt, is) = (x, (zero, omega arith, refl), is)
  contained_value (x ∷ xs) v (suc k, lt, is) =
      let (h, (j, less, at), same) = contained_value xs v (k, omega (arith, lt), is) in
      (h, (suc j, omega (arith, less), at), same)

  abbrev tree : ℕ → Value
  tree k = value_of trees (held.Tree k)

  -- ---- the loop

  module _ (a : Value) (top : ℕ) where
    -- what is marked is the tree itself or below it, and if the value is below the tree, then it is below one that is
    -- marked and not yet looked at
    pub record IsSearch (marks : List Bool) (left : ℕ) : Type 0 where
      pub size : length marks ≡ top + 1
      pub within : left ≤ top + 1
      pub sound : (k : ℕ) → IsMarked marks k → (tree k ≡ tree top) ⊎ IsBelow (tree k) (tree top)
      pub complete : IsBelow a (tree top) → (k : ℕ) × (k < left) × IsMarked marks k × IsBelow a (tree k)

    -- the node that is looked at next
    module _ (marks : List Bool) (left : ℕ) (is : IsSearch marks (left + 1)) where
      from_marked : (v : Value) (k : ℕ) → IsMarked marks k → IsBelow v (tree k) → IsBelow v (tree top)
      from_marked v k m b =
          ⊎_elim (λ e. subst (λ u. IsBelow v u) e b) (λ deep. below_below b deep) (is.sound k m)

      -- one that isn't marked may be passed over
      pub passed_over : get_or marks left false ≡ false → IsSearch marks left
      passed_over not =
          record {
            size = is.size;
            within = omega (arith, is.within);
            sound = is.sound;
            complete = λ b. let (k, lt, m, under) = is.complete b in
                let other : k ≢ left = λ e. let f : false ≡ true =
                sym not ∙ ap (λ i. get_or marks i false) (sym e) ∙ m in cc in
                (k, omega (arith, lt, other), m, under);
          }

      module _ (c : CtorId) (fields : List Held) (marked : IsMarked marks left)
          (parts : tree left ≡ value.Tree c (values_of trees fields))
        where
          field_below : (v : Value) → Contains (values_of trees fields) v → IsBelow v (tree left)
          field_below v has = is_field c (values_of trees fields) parts has

          -- a field that is the value is found below the tree
          pub found : Contains (values_of trees fields) a → IsBelow a (tree top)
          found has = from_marked a left marked (field_below a has)

          deeper : (h : Held) → Contains fields h → AreBefore left fields → IsBelow a (value_of trees h)
              → (new : List Bool)
              → Marks fields marks new → (k : ℕ) × (k < left) × IsMarked new k × IsBelow a (tree k)
          deeper (held.Int n) has all b new m = absurd (none_below_int a n b)
          deeper (held.Bool t) has all b new m = absurd (none_below_bool a t b)
          deeper (held.Tree k) has all b new m =
              (k, All-contains (IsBefore left) fields (held.Tree k) all has, (m.marked k).1 (inr has), b)

          -- where no field is the value, the fields are looked at later
          pub looked_at : (Contains (values_of trees fields) a → ⊥) → AreBefore left fields → (new : List Bool)
              → Marks fields marks new → IsSearch new left
          looked_at none all new m =
              record {
                size = m.length ∙ is.size;
                within = omega (arith, is.within);
                sound = λ k mk. ⊎_elim (is.sound k)
                    (λ has. inr (from_marked (tree k) left marked
                    (field_below (tree k) (value_contained fields (held.Tree k) has))))
                    ((m.marked k).0 mk);
                complete = λ b. let (k, lt, mk, under) = is.complete b in
                    elim (cases k left lt) [
                      | inl less ↦ (k, less, (m.marked k).1 (inl mk), under)
                      | inr e ↦ let at_left = subst (λ i. IsBelow a (tree i)) e under in
                          let (v, has, or) = below_tree a (tree left) c (values_of trees fields) parts at_left in
                          ⊎_elim
                          (λ same. absurd (none (subst (λ w. Contains (values_of trees fields) w) (sym same) has)))
                          (λ deep. let (h, in_fields, value) = contained_value fields v has in
                          deeper h in_fields all (subst (λ w. IsBelow a w) (sym value) deep) new m) or
                    ];
              }

    -- ---- the same, as the loop has it

    pub next_number : (left : ℕ) → 0 < left → left ≡ (left - 1) + 1
    next_number left lt = omega (arith, lt)

    module _ (marks : List Bool) (left : ℕ) (is : IsSearch marks left) (lt : 0 < left) (b : Bool)
        (read : b ≡ get_or marks (left - 1) b)
      where
        at_next : IsSearch marks ((left - 1) + 1)
        at_next = subst (λ n. IsSearch marks n) (next_number left lt) is

        read_mark : get_or marks (left - 1) false ≡ b
        read_mark = get_or_default marks (left - 1) false b (omega (arith, lt, is.size, is.within)) ∙ sym read

        pub next_passed : b ≡ false → IsSearch marks (left - 1)
        next_passed no_mark = passed_over marks (left - 1) at_next (read_mark ∙ no_mark)

        module _ (marked : b ≡ true) (c : CtorId) (fields : List Held)
            (parts : tree (left - 1) ≡ value.Tree c (values_of trees fields))
          where
            pub next_found : Contains (values_of trees fields) a → IsBelow a (tree top)
            next_found has = found marks (left - 1) at_next c fields (read_mark ∙ marked) parts has

            pub next_looked_at : (Contains (values_of trees fields) a → ⊥) → AreBefore (left - 1) fields
                → (now new : List Bool) → now ≡ marks → Marks fields now new → (n : ℕ) → n ≡ length marks
                → IsSearch (take n (new ++ drop (length new) marks)) (left - 1)
            next_looked_at none all now new same m n e =
                let ms = subst (λ (l : List Bool). Marks fields l new) same m in
                let rest : drop (length new) marks ≡ [] = drop_all (length new) marks (omega (arith, ms.length)) in
                let whole : take n (new ++ drop (length new) marks) ≡ new =
                ap (λ (l : List Bool). take n (new ++ l)) rest ∙ ap (take n) (append-nil new)
                ∙ take_all n new (omega (arith, e, ms.length)) in
                subst (λ (l : List Bool). IsSearch l (left - 1)) (sym whole)
                (looked_at marks (left - 1) at_next c fields (read_mark ∙ marked) parts none all new ms)

    -- nothing is left to look at
    pub none_left : (marks : List Bool) → IsSearch marks 0 → IsBelow a (tree top) → ⊥
    none_left marks is b = let (k, lt, m, under) = is.complete b in omega (arith, lt)
