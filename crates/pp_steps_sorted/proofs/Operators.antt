-- The steps of operators are well sorted where those of the operands are.
use Rattle.std.proofs.Common.{◌≡◌, ℕ, suc, List, [], ◌∷◌, Option, Some, refl, sym, ap, ◌∙◌, subst}
use Rattle.std.specs.Prelude.{pos}
use Rattle.std.proofs.lemmas.Option.{same_Some}
use Rattle.pp_operators.specs.declared.class.OperatorClass.TheVariants as class
use Rattle.pp_tree.specs.declared.operator.BinaryOp.{BinaryOp}
use Rattle.pp_tree.specs.declared.operator.BinaryOp.TheVariants.{Equal, AndAlso, OrElse, Div, Rem}
use Rattle.pp_tree.specs.declared.operator.UnaryOp.{UnaryOp}
use Rattle.pp_prog.specs.declared.id.CheckId.{CheckId}
use Rattle.pp_prog.specs.declared.sort.Sort.{Sort}
use Rattle.pp_prog.specs.declared.sort.Sort.TheVariants as sort
use Rattle.pp_prog.specs.declared.types.TypeTable.{TypeTable}
use Rattle.pp_prog.specs.ExprSorts.{binary_sort, class_sort, unary_sort}
use Rattle.pp_prog.proofs.PartSorts.{binary_parts, logic_parts, sum_parts, unary_part}
use Rattle.pp_steps.proofs.Counting.{plus_zero}
use Rattle.pp_steps.specs.declared.step.Step.TheVariants as steps
use Rattle.pp_steps.specs.Compile.{Compiling, binary, one, operating, quotient, skipping, unless, when}
use Rattle.pp_steps.specs.Piece.{Piece, after, asks, bind, choice, demand, plain}
use Rattle.pp_steps.specs.Sorted.{Sorts, operated_sort}
use Rattle.pp_steps_sorted.proofs.Forms.{Compiles}
use Rattle.pp_steps_sorted.proofs.Pieces.{AreOf, IsOf, MaybeOf, WellSorted, choice_sorted, demand_sorted, joined_sorted}
use Rattle.pp_steps_sorted.proofs.Pieces.{none_sorted, one_sorted, plain_sorted, unless_sorted, when_sorted}
use Rattle.pp_steps_sorted.proofs.Steps.{binary_makes, equal_makes, unary_makes}

-- `/` and `%` have an Int on the right
right_int : (a b s : Sort) → class_sort class.Quotient (Some a) (Some b) ≡ Some s → b ≡ sort.Int
right_int a b s h = same_Some b sort.Int (sum_parts (Some a) (Some b) s h).1

same_operated : (op : BinaryOp) (a b t u : Sort) → a ≡ t → b ≡ u
    → operated_sort op (Some a) (Some b) ≡ operated_sort op (Some t) (Some u)
same_operated op a b t u e f =
    ap (λ v. operated_sort op (Some v) (Some b)) e ∙ ap (λ v. operated_sort op (Some t) (Some v)) f

module _ (types : TypeTable) (σ : Sorts) where
  -- ---- the operator itself

  quotient_sorted : (asked : Option CheckId) (op : BinaryOp) (check : Option CheckId) (k alive x y : ℕ) (s : Sort)
      → σ alive ≡ sort.Bool → σ y ≡ sort.Int → operated_sort op (Some (σ x)) (Some (σ y)) ≡ Some s
      → WellSorted types σ (IsOf types σ s) k (quotient asked op check k alive x y)
  quotient_sorted asked op check k alive x y s a int h =
      let zero_steps = steps.Int (pos 0) ∷ steps.Binary Equal y k ∷ steps.Not (suc k) ∷ [] in
      joined_sorted types σ k (plain zero_steps (suc (suc k)) alive) _
      (plain_sorted types σ {R = IsOf types σ sort.Bool} k zero_steps (suc (suc k)) alive
      (λ all.
      let test = equal_makes types σ y k (suc k) (int ∙ sym all.0) all.1.0 in
      (((all.0, refl), (test.0, ((test.1, all.1.1.0), tt))), all.1.1.0, a)))
      (λ z. joined_sorted types σ _ (demand (asks asked check) _ alive _) _
      (demand_sorted types σ (asks asked check) _ alive _ a z.out)
      (λ d. one_sorted types σ (steps.Binary op x y) s _ _ (binary_makes types σ op x y _ s h) d.alive))

  operating_sorted : (asked : Option CheckId) (op : BinaryOp) (check : Option CheckId) (k alive x y : ℕ) (s : Sort)
      → σ alive ≡ sort.Bool → operated_sort op (Some (σ x)) (Some (σ y)) ≡ Some s
      → WellSorted types σ (IsOf types σ s) k (operating asked op check k alive x y)
  operating_sorted asked Div check k alive x y s a h =
      quotient_sorted asked Div check k alive x y s a (right_int (σ x) (σ y) s h) h
  operating_sorted asked Rem check k alive x y s a h =
      quotient_sorted asked Rem check k alive x y s a (right_int (σ x) (σ y) s h) h
  operating_sorted asked op check k alive x y s a h =
      one_sorted types σ (steps.Binary op x y) s k alive (binary_makes types σ op x y k s h) a

  -- ---- with its operands

  skipping_sorted : (b : Compiling) (scope : List Sort) → Compiles types σ scope sort.Bool b → (k : ℕ) (env : List ℕ)
      (taken x alive : ℕ) → AreOf types σ scope env → σ taken ≡ sort.Bool → σ x ≡ sort.Bool → σ alive ≡ sort.Bool
      → WellSorted types σ (IsOf types σ sort.Bool) k (skipping b k env taken x alive)
  skipping_sorted b scope hb k env taken x alive e t o a =
      let y = b k env taken in
      let z : Piece (Option ℕ) = plain [] (Some x) alive in
      subst (λ n. WellSorted types σ (IsOf types σ sort.Bool) k (choice n taken y z)) (plus_zero (after k y))
      (choice_sorted types σ sort.Bool k taken y z t (hb k env taken e t)
      (none_sorted types σ {R = MaybeOf types σ sort.Bool} (after k y) (Some x) alive o a))

  -- an operator whose operands have sorts where there are such
  pub binary_compiles : (asked : Option CheckId) (op : BinaryOp) (check : Option CheckId) (a b : Compiling)
      (scope : List Sort) (o q : Option Sort) (s : Sort)
      → ((t : Sort) → o ≡ Some t → Compiles types σ scope t a)
      → ((t : Sort) → q ≡ Some t → Compiles types σ scope t b)
      → binary_sort op o q ≡ Some s → Compiles types σ scope s (binary asked op a b check)
  binary_compiles asked op check a b scope o q s ha hb h =
      let both = binary_parts op o q s h in
      on_sorts asked op check a b scope both.0.0 both.1.0 s (ha both.0.0 both.0.1) (hb both.1.0 both.1.1)
      (sym (ap (λ v. binary_sort op v q) both.0.1 ∙ ap (λ v. binary_sort op (Some both.0.0) v) both.1.1) ∙ h)
    where
      on_sorts : (asked : Option CheckId) (op : BinaryOp) (check : Option CheckId) (a b : Compiling)
          (scope : List Sort) (t u s : Sort) → Compiles types σ scope t a → Compiles types σ scope u b
          → binary_sort op (Some t) (Some u) ≡ Some s → Compiles types σ scope s (binary asked op a b check)
      on_sorts asked AndAlso check a b scope t u s ha hb h k env reach e r =
          let q = logic_parts (Some t) (Some u) s h in
          subst (λ v. WellSorted types σ (IsOf types σ v) k (binary asked AndAlso a b check k env reach)) q.2
          (joined_sorted types σ k (a k env reach) _ (ha k env reach e r)
          (λ x. joined_sorted types σ _ (when _ _ _) _
          (when_sorted types σ _ _ _ x.alive (x.out ∙ same_Some t sort.Bool q.0))
          (λ w. skipping_sorted b scope (subst (λ v. Compiles types σ scope v b) (same_Some u sort.Bool q.1) hb) _ env _
          _ _ e w.out
          (x.out ∙ same_Some t sort.Bool q.0) x.alive)))
      on_sorts asked OrElse check a b scope t u s ha hb h k env reach e r =
          let q = logic_parts (Some t) (Some u) s h in
          subst (λ v. WellSorted types σ (IsOf types σ v) k (binary asked OrElse a b check k env reach)) q.2
          (joined_sorted types σ k (a k env reach) _ (ha k env reach e r)
          (λ x. joined_sorted types σ _ (unless _ _ _) _
          (unless_sorted types σ _ _ _ x.alive (x.out ∙ same_Some t sort.Bool q.0))
          (λ w. skipping_sorted b scope (subst (λ v. Compiles types σ scope v b) (same_Some u sort.Bool q.1) hb) _ env _
          _ _ e w.out
          (x.out ∙ same_Some t sort.Bool q.0) x.alive)))
      on_sorts asked op check a b scope t u s ha hb h k env reach e r =
          joined_sorted types σ k (a k env reach) _ (ha k env reach e r)
          (λ x. joined_sorted types σ _ (b _ env _) _ (hb _ env _ e x.alive)
          (λ y. operating_sorted asked op check _ _ _ _ s y.alive
          (same_operated op _ _ t u x.out y.out ∙ h)))

  pub unary_compiles : (op : UnaryOp) (a : Compiling) (scope : List Sort) (o : Option Sort) (s : Sort)
      → ((t : Sort) → o ≡ Some t → Compiles types σ scope t a) → unary_sort op o ≡ Some s
      → Compiles types σ scope s (λ k env reach. bind k (a k env reach) (λ n x alive. one (steps.Unary op x) n alive))
  unary_compiles op a scope o s ha h k env reach e r =
      let has = unary_part op o s h in
      let there = sym (ap (unary_sort op) has.1) ∙ h in
      joined_sorted types σ k (a k env reach) _ (ha has.0 has.1 k env reach e r)
      (λ x. one_sorted types σ (steps.Unary op _) s _ _
      (unary_makes types σ op _ _ s (ap (λ t. unary_sort op (Some t)) x.out ∙ there)) x.alive)
