-- Folded steps do what the old ones do.
use Rattle.std.proofs.Common.{◌≡◌, ℕ, zero, suc, ◌+◌, Bool, true, false, List, [], ◌∷◌, ◌++◌, length, map}
use Rattle.std.proofs.Common.{slice_get, Option, Some, None, refl, sym, ap, ◌∙◌, subst, arith}
use Rattle.std.proofs.Math.Bool.{and-false}
use Rattle.std.specs.Prelude.{if◌then◌else◌, not, ◌&&◌, nat_eq}
use Rattle.std.proofs.lemmas.Bool.{false≢true}
use Rattle.std.proofs.lemmas.List.{length-map}
use Rattle.std.proofs.lemmas.Option.{same_Some}
use Rattle.pp_prog.specs.declared.id.CtorId.{CtorId}
use Rattle.pp_prog.specs.declared.sort.Sort.{Sort}
use Rattle.pp_prog.specs.declared.sort.Sort.TheVariants as sort
use Rattle.pp_prog.specs.declared.types.Ctor.{Ctor}
use Rattle.pp_prog.specs.declared.types.TypeTable.{TypeTable}
use Rattle.pp_prog.specs.declared.value.Value.{Value}
use Rattle.pp_prog.specs.declared.value.Value.TheVariants.{Bool as Truth, outs-Bool, outs-Tree}
use Rattle.pp_steps.proofs.Counting.{add_suc, plus_zero}
use Rattle.pp_steps.specs.declared.step.Step.{Step}
use Rattle.pp_steps.specs.declared.step.Step.TheVariants as steps
use Rattle.pp_steps.specs.Known.{Tells}
use Rattle.pp_steps.specs.Meaning.{Does, Missing, Obeys, Values, bit, bit_in, has_ctor, has_ctor_in}
use Rattle.pp_steps.specs.Sorted.{AllSorted, IsSorted, Sorts}
use Rattle.pp_simplify.specs.Folded.{both, bool_at, bool_of, chosen, folded, taken, tested, turned}
use Rattle.pp_simplify.specs.Literals.{computed, stated}
use Rattle.pp_simplify.proofs.Stating.{stated_by}
use Rattle.pp_simplify_laws.proofs.Computed.{computed_does, computed_sorted}
use Rattle.pp_simplify_laws.proofs.Forms.{tells_anyway}

bool_is : (o : Option Step) (b : Bool) → bool_of o ≡ Some b → o ≡ Some (steps.Bool b)
bool_is (Some (steps.Bool v)) b e = ap (λ x. Some (steps.Bool x)) (same_Some v b e)
bool_is o b e = absurd (cc)

truth_bit : (b : Bool) → bit (Truth b) ≡ b
truth_bit b = ap bit_in (outs-Bool b)

module _ (ctors : List Ctor) (missing : Missing) (ρ : Values) where
  does_at : (k : ℕ) (ss : List Step) (i : ℕ) (s : Step) → Obeys ctors missing ρ k ss → slice_get ss i ≡ Some s
      → Does ctors missing ρ s (ρ (k + i))
  does_at k [] i s obeys at = absurd (cc)
  does_at k (x ∷ ss) zero s obeys at =
      subst (λ j. Does ctors missing ρ s (ρ j)) (sym (plus_zero k))
      (subst (λ y. Does ctors missing ρ y (ρ k)) (same_Some x s at) obeys.0)
  does_at k (x ∷ ss) (suc i) s obeys at =
      subst (λ j. Does ctors missing ρ s (ρ j)) (sym (add_suc k i)) (does_at (suc k) ss i s obeys.1 at)

  pub obeys_push : (k : ℕ) (ss : List Step) (t : Step) → Obeys ctors missing ρ k ss
      → Does ctors missing ρ t (ρ (k + length ss)) → Obeys ctors missing ρ k (ss ++ t ∷ [])
  obeys_push k [] t obeys does = (subst (λ j. Does ctors missing ρ t (ρ j)) (plus_zero k) does, tt)
  obeys_push k (x ∷ ss) t obeys does = (
    obeys.0,
    obeys_push (suc k) ss t obeys.1 (subst (λ j. Does ctors missing ρ t (ρ j)) (add_suc k (length ss)) does),
  )

  module _ (news : List Step) (obeys : Obeys ctors missing ρ 0 news) where
    here : (i : ℕ) → 0 + i ≡ i
    here i = omega arith

    pub value_of : (i : ℕ) (s : Step) → slice_get news i ≡ Some s → Does ctors missing ρ s (ρ i)
    value_of i s at = subst (λ j. Does ctors missing ρ s (ρ j)) (here i) (does_at 0 news i s obeys at)

    truth_at : (a : ℕ) (b : Bool) → bool_at news a ≡ Some b → ρ a ≡ Truth b
    truth_at a b e = value_of a (steps.Bool b) (bool_is (slice_get news a) b e)

    pub bit_at : (a : ℕ) (b : Bool) → bool_at news a ≡ Some b → bit (ρ a) ≡ b
    bit_at a b e = ap bit (truth_at a b e) ∙ truth_bit b

    -- ---- values

    turned_does : (a : ℕ) (v : Value) (o : Option Bool) → bool_at news a ≡ o → v ≡ Truth (not (bit (ρ a)))
        → Does ctors missing ρ (turned a o) v
    turned_does a v None e d = d
    turned_does a v (Some b) e d = d ∙ ap (λ x. Truth (not x)) (bit_at a b e)

    both_does : (a b : ℕ) (v : Value) (x y : Option Bool) → bool_at news a ≡ x → bool_at news b ≡ y
        → v ≡ Truth (bit (ρ a) && bit (ρ b)) → Does ctors missing ρ (both a b x y) v
    both_does a b v (Some false) y e f d = d ∙ ap (λ i. Truth (i && bit (ρ b))) (bit_at a false e)
    both_does a b v (Some true) (Some w) e f d =
        d ∙ ap (λ i. Truth (i && bit (ρ b))) (bit_at a true e) ∙ ap Truth (bit_at b w f)
    both_does a b v (Some true) None e f d = d
    both_does a b v None (Some false) e f d =
        d ∙ ap (λ i. Truth (bit (ρ a) && i)) (bit_at b false f) ∙ ap Truth (and-false (bit (ρ a)))
    both_does a b v None (Some true) e f d = d
    both_does a b v None None e f d = d

    taken_does : (c a : ℕ) (v : Value) (x : Option Bool) → bool_at news a ≡ x → v ≡ ρ a
        → Does ctors missing ρ (taken c a x) v
    taken_does c a v (Some w) e d = d ∙ truth_at a w e
    taken_does c a v None e d = d ∙ same (bit (ρ c))
      where
        same : (b : Bool) → ρ a ≡ (if b then ρ a else ρ a)
        same true = refl
        same false = refl

    chosen_does : (c a b : ℕ) (v : Value) (o x y : Option Bool) → bool_at news c ≡ o → bool_at news a ≡ x
        → bool_at news b ≡ y → v ≡ (if bit (ρ c) then ρ a else ρ b) → Does ctors missing ρ (chosen c a b o x y) v
    chosen_does c a b v (Some true) x y e f g d =
        taken_does c a v x f (d ∙ ap (λ i. if i then ρ a else ρ b) (bit_at c true e))
    chosen_does c a b v (Some false) x y e f g d =
        taken_does c b v y g (d ∙ ap (λ i. if i then ρ a else ρ b) (bit_at c false e))
    chosen_does c a b v None x y e f g d = d

    tested_does : (c : CtorId) (n a : ℕ) (v : Value) (o : Option Step) → slice_get news a ≡ o
        → v ≡ Truth (has_ctor c n (ρ a)) → Does ctors missing ρ (tested c n a o) v
    tested_does c n a v (Some (steps.Construct k fields)) e d =
        d ∙ ap (λ x. Truth (has_ctor c n x)) (value_of a (steps.Construct k fields) e)
        ∙ ap (λ x. Truth (has_ctor_in c n x)) (outs-Tree k (map ρ fields))
        ∙ ap (λ m. Truth (nat_eq c.0 k.0 && nat_eq n m)) (length-map fields ρ)
    tested_does c n a v o e d = d

    pub folded_does : (s : Step) (v : Value) → Does ctors missing ρ s v → Does ctors missing ρ (folded news s) v
    folded_does (steps.Not a) v d = turned_does a v (bool_at news a) refl d
    folded_does (steps.Both a b) v d = both_does a b v (bool_at news a) (bool_at news b) refl refl d
    folded_does (steps.Choose c a b) v d =
        chosen_does c a b v (bool_at news c) (bool_at news a) (bool_at news b) refl refl refl d
    folded_does (steps.IsCtor c n a) v d = tested_does c n a v (slice_get news a) refl d
    folded_does s v d = computed_does ctors missing ρ news value_of s v d

    -- ---- what is known

    module _ (K : ℕ → Type 0) (k : ℕ) where
      turned_tells : (a : ℕ) (o : Option Bool) → Tells ρ K (turned a o) k → Tells ρ K (steps.Not a) k
      turned_tells a None t = t
      turned_tells a (Some b) t = λ x. t

      both_tells : (a b : ℕ) (x y : Option Bool) → Tells ρ K (both a b x y) k → Tells ρ K (steps.Both a b) k
      both_tells a b (Some false) y t = λ p q. t
      both_tells a b (Some true) (Some w) t = λ p q. t
      both_tells a b (Some true) None t = t
      both_tells a b None (Some false) t = λ p q. t
      both_tells a b None (Some true) t = t
      both_tells a b None None t = t

      chosen_tells : (c a b : ℕ) (o x y : Option Bool) → bool_at news c ≡ o
          → Tells ρ K (chosen c a b o x y) k → Tells ρ K (steps.Choose c a b) k
      chosen_tells c a b (Some true) (Some w) y e t = λ p q r. t
      chosen_tells c a b (Some true) None y e t =
          λ p q r. t p q (λ off. absurd (false≢true (sym off ∙ bit_at c true e)))
      chosen_tells c a b (Some false) x (Some w) e t = λ p q r. t
      chosen_tells c a b (Some false) x None e t =
          λ p q r. t p (λ on. absurd (false≢true (sym (bit_at c false e) ∙ on))) r
      chosen_tells c a b None x y e t = t

      tested_tells : (c : CtorId) (n a : ℕ) (o : Option Step) → Tells ρ K (tested c n a o) k
          → Tells ρ K (steps.IsCtor c n a) k
      tested_tells c n a (Some (steps.Construct d fields)) t = λ x. t
      tested_tells c n a o t = t

      computed_tells : (s : Step) → Tells ρ K (stated s (computed news s)) k → Tells ρ K s k
      computed_tells s t = stated_by (λ u. Tells ρ K u k → Tells ρ K s k) s (computed news s) (λ h. h)
          (λ n e h. tells_anyway ρ K k s h) (λ b e h. tells_anyway ρ K k s h) t

      pub folded_tells : (s : Step) → Tells ρ K (folded news s) k → Tells ρ K s k
      folded_tells (steps.Not a) t = turned_tells a (bool_at news a) t
      folded_tells (steps.Both a b) t = both_tells a b (bool_at news a) (bool_at news b) t
      folded_tells (steps.Choose c a b) t =
          chosen_tells c a b (bool_at news c) (bool_at news a) (bool_at news b) refl t
      folded_tells (steps.IsCtor c n a) t = tested_tells c n a (slice_get news a) t
      folded_tells s t = computed_tells s t

-- ---- sorts

module _ (types : TypeTable) (σ : Sorts) where
  pub sorted_at : (k : ℕ) (ss : List Step) (i : ℕ) (s : Step) → AllSorted types σ k ss → slice_get ss i ≡ Some s
      → IsSorted types σ s (σ (k + i))
  sorted_at k [] i s all at = absurd (cc)
  sorted_at k (x ∷ ss) zero s all at =
      subst (λ j. IsSorted types σ s (σ j)) (sym (plus_zero k))
      (subst (λ y. IsSorted types σ y (σ k)) (same_Some x s at) all.0)
  sorted_at k (x ∷ ss) (suc i) s all at =
      subst (λ j. IsSorted types σ s (σ j)) (sym (add_suc k i)) (sorted_at (suc k) ss i s all.1 at)

  pub sorted_push : (k : ℕ) (ss : List Step) (t : Step) → AllSorted types σ k ss
      → IsSorted types σ t (σ (k + length ss)) → AllSorted types σ k (ss ++ t ∷ [])
  sorted_push k [] t all is = (subst (λ j. IsSorted types σ t (σ j)) (plus_zero k) is, tt)
  sorted_push k (x ∷ ss) t all is = (
    all.0,
    sorted_push (suc k) ss t all.1 (subst (λ j. IsSorted types σ t (σ j)) (add_suc k (length ss)) is),
  )

  module _ (news : List Step) (all : AllSorted types σ 0 news) where
    from : (i : ℕ) → 0 + i ≡ i
    from i = omega arith

    step_sort : (i : ℕ) (s : Step) → slice_get news i ≡ Some s → IsSorted types σ s (σ i)
    step_sort i s at = subst (λ j. IsSorted types σ s (σ j)) (from i) (sorted_at 0 news i s all at)

    bool_sort : (a : ℕ) (b : Bool) → bool_at news a ≡ Some b → σ a ≡ sort.Bool
    bool_sort a b e = step_sort a (steps.Bool b) (bool_is (slice_get news a) b e)

    turned_sorted : (a : ℕ) (t : Sort) (o : Option Bool) → IsSorted types σ (steps.Not a) t
        → IsSorted types σ (turned a o) t
    turned_sorted a t None h = h
    turned_sorted a t (Some b) h = h.1

    both_sorted : (a b : ℕ) (t : Sort) (x y : Option Bool) → IsSorted types σ (steps.Both a b) t
        → IsSorted types σ (both a b x y) t
    both_sorted a b t (Some false) y h = h.2
    both_sorted a b t (Some true) (Some w) h = h.2
    both_sorted a b t (Some true) None h = h
    both_sorted a b t None (Some false) h = h.2
    both_sorted a b t None (Some true) h = h
    both_sorted a b t None None h = h

    taken_sorted : (c a : ℕ) (t : Sort) (x : Option Bool) → bool_at news a ≡ x → σ c ≡ sort.Bool → σ a ≡ t
        → IsSorted types σ (taken c a x) t
    taken_sorted c a t (Some w) e h i = sym i ∙ bool_sort a w e
    taken_sorted c a t None e h i = (h, i, i)

    chosen_sorted : (c a b : ℕ) (t : Sort) (o x y : Option Bool) → bool_at news a ≡ x → bool_at news b ≡ y
        → IsSorted types σ (steps.Choose c a b) t → IsSorted types σ (chosen c a b o x y) t
    chosen_sorted c a b t (Some true) x y e f h = taken_sorted c a t x e h.0 h.1
    chosen_sorted c a b t (Some false) x y e f h = taken_sorted c b t y f h.0 h.2
    chosen_sorted c a b t None x y e f h = h

    tested_sorted : (c : CtorId) (n a : ℕ) (t : Sort) (o : Option Step) → IsSorted types σ (steps.IsCtor c n a) t
        → IsSorted types σ (tested c n a o) t
    tested_sorted c n a t (Some (steps.Construct d fields)) h = h.1
    tested_sorted c n a t o h = h

    pub folded_sorted : (s : Step) (t : Sort) → IsSorted types σ s t → IsSorted types σ (folded news s) t
    folded_sorted (steps.Not a) t h = turned_sorted a t (bool_at news a) h
    folded_sorted (steps.Both a b) t h = both_sorted a b t (bool_at news a) (bool_at news b) h
    folded_sorted (steps.Choose c a b) t h =
        chosen_sorted c a b t (bool_at news c) (bool_at news a) (bool_at news b) refl refl h
    folded_sorted (steps.IsCtor c n a) t h = tested_sorted c n a t (slice_get news a) h
    folded_sorted s t h = computed_sorted types σ news step_sort s t h
