-- Pairs that are pending: how they begin, what is left when one is taken apart, and when all are the same.
use Rattle.std.proofs.Common.{◌≡◌, ◌∙◌, ◌↔◌, ℕ, ◌<◌, Bool, true, false, List, [], ◌∷◌, ◌++◌, All}
use Rattle.std.proofs.Common.{length, reverse, refl, sym, ap, subst, arith, append-nil}
use Rattle.std.specs.List.{sum_by}
use Rattle.std.proofs.lemmas.List.{length-map, reverse-append, reverse-reverse}
use Rattle.std.proofs.lemmas.List.Elements.{All-append, All-cons, All-head, All-nil, All-push, All-tail}
use Rattle.std.proofs.lemmas.List.Sums.{sum_by-append, sum_by-cons, sum_by_push}
use Rattle.pp_prog.specs.declared.id.CtorId.{CtorId}
use Rattle.pp_prog.specs.declared.value.Value.{Value}
use Rattle.pp_prog.specs.declared.value.Value.TheVariants as value
use Rattle.pp_prog.proofs.Values.{same_ctor, same_fields}
use Rattle.pp_store.specs.declared.held.Held.{Held}
use Rattle.pp_store.specs.declared.same.Pair.{Pair}
use Rattle.pp_store.specs.Values.{AreHeld, IsBefore, IsHeld, value_of, values_of}
use Rattle.pp_store.specs.Pairs.{IsHeldPair, IsSame, IsSplit, Splits, left_size, pairs, weight}
use Rattle.pp_store.specs.Sizes.{size}
use Rattle.pp_store.proofs.Sizes.{size_of_tree, size_positive}

-- ---- lists in reverse

module _ {A : Type 0} where
  pub reverse_cons : (x : A) (xs : List A) → reverse (x ∷ xs) ≡ reverse xs ++ x ∷ []
  reverse_cons x xs = reverse-append (x ∷ []) xs

  pub reverse_push : (xs : List A) (x : A) → reverse (xs ++ x ∷ []) ≡ x ∷ reverse xs
  reverse_push xs x = reverse-append xs (x ∷ [])

  pub all_reverse : (P : A → Type 0) (xs : List A) → All P xs → All P (reverse xs)
  all_reverse P [] all = All-nil P
  all_reverse P (x ∷ xs) all =
      subst (All P) (sym (reverse_cons x xs))
      (All-push P (reverse xs) x (all_reverse P xs (All-tail P x xs all)) (All-head P x xs all))

  pub all_from_reverse : (P : A → Type 0) (xs : List A) → All P (reverse xs) → All P xs
  all_from_reverse P xs all = subst (All P) (reverse-reverse xs) (all_reverse P (reverse xs) all)

  pub sum_by_reverse : (f : A → ℕ) (xs : List A) → sum_by f (reverse xs) ≡ sum_by f xs
  sum_by_reverse f [] = refl
  sum_by_reverse f (x ∷ xs) =
      omega (
        arith,
        ap (sum_by f) (reverse_cons x xs),
        sum_by_push f (reverse xs) x,
        sum_by_reverse f xs,
        sum_by-cons f x xs,
      )

  pub all_left : (P : A → Type 0) (xs ys : List A) → All P (xs ++ ys) → All P xs
  all_left P [] ys all = All-nil P
  all_left P (x ∷ xs) ys all =
      All-cons P x xs (All-head P x (xs ++ ys) all) (all_left P xs ys (All-tail P x (xs ++ ys) all))

  pub all_right : (P : A → Type 0) (xs ys : List A) → All P (xs ++ ys) → All P ys
  all_right P [] ys all = all
  all_right P (x ∷ xs) ys all = all_right P xs ys (All-tail P x (xs ++ ys) all)

module _ (trees : List Value) where
  abbrev SamePair : Pair → Type 0
  SamePair = IsSame trees

  abbrev HeldPair : Pair → Type 0
  HeldPair = IsHeldPair trees

  -- ---- the pairs of two lists of fields

  pairs_held : (xs ys : List Held) → AreHeld trees xs → AreHeld trees ys → All HeldPair (pairs xs ys)
  pairs_held [] ys all also = All-nil HeldPair
  pairs_held (x ∷ xs) [] all also = All-nil HeldPair
  pairs_held (x ∷ xs) (y ∷ ys) all also =
      let P : Held → Type 0 = IsBefore (length trees) in
      All-cons HeldPair (record { left = x; right = y }) (pairs xs ys) (All-head P x xs all, All-head P y ys also)
      (pairs_held xs ys (All-tail P x xs all) (All-tail P y ys also))

  same_pairs : (xs ys : List Held) → length xs ≡ length ys → All SamePair (pairs xs ys)
      → values_of trees xs ≡ values_of trees ys
  same_pairs [] [] e all = refl
  same_pairs [] (y ∷ ys) e all = absurd (omega (arith, e))
  same_pairs (x ∷ xs) [] e all = absurd (omega (arith, e))
  same_pairs (x ∷ xs) (y ∷ ys) e all =
      let p : Pair = record { left = x; right = y } in
      let here : value_of trees x ≡ value_of trees y = All-head SamePair p (pairs xs ys) all in
      let rest = same_pairs xs ys (omega (arith, e)) (All-tail SamePair p (pairs xs ys) all) in cc

  pairs_same : (xs ys : List Held) → values_of trees xs ≡ values_of trees ys → All SamePair (pairs xs ys)
  pairs_same [] ys e = All-nil SamePair
  pairs_same (x ∷ xs) [] e = All-nil SamePair
  pairs_same (x ∷ xs) (y ∷ ys) e =
      let p : Pair = record { left = x; right = y } in
      let here : value_of trees x ≡ value_of trees y = cc in
      let rest : values_of trees xs ≡ values_of trees ys = cc in
      All-cons SamePair p (pairs xs ys) here (pairs_same xs ys rest)

  pairs_weight : (xs ys : List Held) → length xs ≡ length ys
      → weight trees (pairs xs ys) ≡ sum_by size (values_of trees xs)
  pairs_weight [] ys e = refl
  pairs_weight (x ∷ xs) [] e = absurd (omega (arith, e))
  pairs_weight (x ∷ xs) (y ∷ ys) e =
      let p : Pair = record { left = x; right = y } in
      omega (
        arith,
        pairs_weight xs ys (omega (arith, e)),
        sum_by-cons (left_size trees) p (pairs xs ys),
        sum_by-cons size (value_of trees x) (values_of trees xs),
      )

  -- ---- a pair is taken apart

  -- the test says whether the two are the same, and nothing is pending
  pub split_leaf : (p : Pair) (old : List Pair) (b : Bool) → (b ≡ true → IsSame trees p) → (IsSame trees p → b ≡ true)
      → IsSplit trees p old old b
  split_leaf p old true is back =
      record {
        more = [];
        grows = sym (append-nil old);
        held = All-nil HeldPair;
        same = (λ _. is refl, λ _. All-nil SamePair);
        less = size_positive (value_of trees p.left);
      }
  split_leaf p old false is back = λ e. let f : false ≡ true = back e in cc

  -- two trees of one constructor give way to the pairs of their fields
  pub split_fields : (p : Pair) (old new : List Pair) (c : CtorId) (xs ys : List Held)
      → value_of trees p.left ≡ value.Tree c (values_of trees xs)
      → value_of trees p.right ≡ value.Tree c (values_of trees ys)
      → length xs ≡ length ys → AreHeld trees xs → AreHeld trees ys → new ≡ old ++ reverse (pairs xs ys)
      → Splits trees p old new
  split_fields p old new c xs ys left right e all also grows =
      record {
        more = reverse (pairs xs ys);
        grows = grows;
        held = all_reverse HeldPair (pairs xs ys) (pairs_held xs ys all also);
        same = (
          λ s. left
              ∙ ap (λ (vs : List Value). value.Tree c vs)
              (same_pairs xs ys e (all_from_reverse SamePair (pairs xs ys) s))
              ∙ sym right,
          λ s. all_reverse SamePair (pairs xs ys)
              (pairs_same xs ys
              (same_fields c c (values_of trees xs) (values_of trees ys) (sym left ∙ s ∙ right))),
        );
        less = omega (
          arith,
          sum_by_reverse (left_size trees) (pairs xs ys),
          pairs_weight xs ys e,
          ap size left,
          size_of_tree c (values_of trees xs),
        );
      }

  -- trees of two constructors, or of different numbers of fields, differ
  pub ctors_differ : (p : Pair) (c d : CtorId) (xs ys : List Held)
      → value_of trees p.left ≡ value.Tree c (values_of trees xs)
      → value_of trees p.right ≡ value.Tree d (values_of trees ys) → IsSame trees p → c ≡ d
  ctors_differ p c d xs ys left right s =
      same_ctor c d (values_of trees xs) (values_of trees ys) (sym left ∙ s ∙ right)

  pub same_lengths : (p : Pair) (c d : CtorId) (xs ys : List Held)
      → value_of trees p.left ≡ value.Tree c (values_of trees xs)
      → value_of trees p.right ≡ value.Tree d (values_of trees ys) → IsSame trees p → length xs ≡ length ys
  same_lengths p c d xs ys left right s =
      let e = same_fields c d (values_of trees xs) (values_of trees ys) (sym left ∙ s ∙ right) in
      sym (length-map xs (value_of trees)) ∙ ap length e ∙ length-map ys (value_of trees)

  -- ---- the loop

  -- all pending pairs are the same exactly if the fact holds
  pub record IsPending (P : Type 0) (ps : List Pair) : Type 0 where
    pub held : All HeldPair ps
    pub same : All SamePair ps ↔ P

  pub pending_first : (p : Pair) → IsHeld trees p.left → IsHeld trees p.right → IsPending (IsSame trees p) (p ∷ [])
  pending_first p left right =
      record {
        held = All-cons HeldPair p [] (left, right) (All-nil HeldPair);
        same = (λ s. All-head SamePair p [] s, λ s. All-cons SamePair p [] s (All-nil SamePair));
      }

  module _ (P : Type 0) (ps rest : List Pair) (p : Pair) (is : IsPending P ps) (popped : ps ≡ rest ++ p ∷ []) where
    pub pending_held : IsHeldPair trees p
    pending_held =
        All-head HeldPair p [] (all_right HeldPair rest (p ∷ []) (subst (All HeldPair) popped is.held))

    pub pending_split : (new : List Pair) → Splits trees p rest new → IsPending P new
    pending_split new s =
        let held = all_left HeldPair rest (p ∷ []) (subst (All HeldPair) popped is.held) in
        record {
          held = subst (All HeldPair) (sym s.grows) (All-append HeldPair rest s.more held s.held);
          same = (
            λ all. let both = subst (All SamePair) s.grows all in
                is.same.0 (subst (All SamePair) (sym popped)
                (All-push SamePair rest p (all_left SamePair rest s.more both)
                (s.same.0 (all_right SamePair rest s.more both)))),
            λ holds. let both = subst (All SamePair) popped (is.same.1 holds) in
                subst (All SamePair) (sym s.grows)
                (All-append SamePair rest s.more (all_left SamePair rest (p ∷ []) both)
                (s.same.1 (All-head SamePair p [] (all_right SamePair rest (p ∷ []) both)))),
          );
        }

    pub pending_false : (IsSame trees p → ⊥) → P → ⊥
    pending_false differ holds =
        differ
        (All-head SamePair p [] (all_right SamePair rest (p ∷ []) (subst (All SamePair) popped (is.same.1 holds))))

    pub pending_less : (new : List Pair) → Splits trees p rest new → weight trees new < weight trees ps
    pending_less new s =
        omega (
          arith,
          ap (weight trees) s.grows,
          sum_by-append (left_size trees) rest s.more,
          ap (weight trees) popped,
          sum_by_push (left_size trees) rest p,
          s.less,
        )

  pub pending_none : (P : Type 0) (ps : List Pair) → IsPending P ps → ps ≡ [] → P
  pending_none P ps is e = is.same.0 (subst (All SamePair) (sym e) (All-nil SamePair))
