-- The sorts of single steps, by those of their operands.
use Rattle.std.proofs.Common.{◌≡◌, ℕ, List, [], Option, Some, slice_get, sym, ap, ◌∙◌}
use Rattle.pp_tree.specs.declared.operator.BinaryOp.{BinaryOp}
use Rattle.pp_tree.specs.declared.operator.BinaryOp.TheVariants.{Equal}
use Rattle.pp_tree.specs.declared.operator.UnaryOp.{UnaryOp}
use Rattle.pp_prog.specs.declared.id.CtorId.{CtorId}
use Rattle.pp_prog.specs.declared.id.DataId.{DataId}
use Rattle.pp_prog.specs.declared.sort.Sort.{Sort}
use Rattle.pp_prog.specs.declared.sort.Sort.TheVariants as sort
use Rattle.pp_prog.specs.declared.types.Ctor.{Ctor}
use Rattle.pp_prog.specs.declared.types.TypeTable.{TypeTable}
use Rattle.pp_prog.specs.ExprSorts.{a_tree, field_of_ctor, field_sort, sort_if, unary_sort}
use Rattle.pp_prog.proofs.ValueSorts.{its_sort}
use Rattle.pp_steps.specs.declared.step.Step.TheVariants as steps
use Rattle.pp_steps.specs.Sorted.{Sorts, operated_sort}
use Rattle.pp_steps_sorted.proofs.Assigned.{or_bool, tree_of}
use Rattle.pp_steps_sorted.proofs.Pieces.{AreOf, Makes}

equal_sort : (s t : Sort) → s ≡ t → operated_sort Equal (Some s) (Some t) ≡ Some sort.Bool
equal_sort s t e =
    ap (λ u. operated_sort Equal (Some u) (Some t)) e ∙ ap (λ b. sort_if b sort.Bool) (its_sort t)

module _ (types : TypeTable) (σ : Sorts) where
  -- the sort that a step has, where there is one
  made : (k : ℕ) (o : Option Sort) (r : Sort) → σ k ≡ or_bool o → o ≡ Some r → (o ≡ Some (σ k)) × (σ k ≡ r)
  made k o r e h = let is : σ k ≡ r = e ∙ ap or_bool h in (h ∙ ap Some (sym is), is)

  pub unary_makes : (op : UnaryOp) (a k : ℕ) (r : Sort) → unary_sort op (Some (σ a)) ≡ Some r
      → Makes types σ r k (steps.Unary op a)
  unary_makes op a k r h = λ e. made k (unary_sort op (Some (σ a))) r e h

  pub binary_makes : (op : BinaryOp) (a b k : ℕ) (r : Sort) → operated_sort op (Some (σ a)) (Some (σ b)) ≡ Some r
      → Makes types σ r k (steps.Binary op a b)
  binary_makes op a b k r h = λ e. made k (operated_sort op (Some (σ a)) (Some (σ b))) r e h

  pub equal_makes : (a b k : ℕ) → σ a ≡ σ b → Makes types σ sort.Bool k (steps.Binary Equal a b)
  equal_makes a b k h = binary_makes Equal a b k sort.Bool (equal_sort (σ a) (σ b) h)

  pub construct_makes : (c : CtorId) (ctor : Ctor) (fields : List ℕ) (k : ℕ) → slice_get types.ctors c.0 ≡ Some ctor
      → AreOf types σ ctor.fields fields → Makes types σ (sort.Tree ctor.of) k (steps.Construct c fields)
  construct_makes c ctor fields k is h = λ e.
      let it = made k (tree_of (slice_get types.ctors c.0)) (sort.Tree ctor.of) e (ap tree_of is) in
      (record { ctor = ctor; stands = is; fields = h; result = it.1 }, it.1)

  pub select_makes : (c : CtorId) (ctor : Ctor) (i a k : ℕ) (r : Sort) → slice_get types.ctors c.0 ≡ Some ctor
      → σ a ≡ sort.Tree ctor.of → slice_get ctor.fields i ≡ Some r → Makes types σ r k (steps.CtorField c i a)
  select_makes c ctor i a k r is h g = λ e.
      let it = made k (field_of_ctor (slice_get types.ctors c.0) i) r e (ap (λ o. field_of_ctor o i) is ∙ g) in
      (record { ctor = ctor; stands = is; operand = h; field = g ∙ ap Some (sym it.1) }, it.1)

  pub field_makes : (d : DataId) (i a k : ℕ) (r : Sort) → σ a ≡ sort.Tree d → field_sort types [] d i ≡ Some r
      → Makes types σ r k (steps.Field a i)
  field_makes d i a k r h g = λ e.
      let go : DataId → Option Sort = λ x. field_sort types [] x i in
      let it = made k (a_tree (Some (σ a)) go) r e (ap (λ s. a_tree (Some s) go) h ∙ g) in
      (record { datatype = d; operand = h; field = g ∙ ap Some (sym it.1) }, it.1)
