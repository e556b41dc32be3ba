-- What steps say of their values.
use Rattle.std.proofs.Common.{◌≡◌, ◌<◌, ◌&&◌, ℕ, Bool, true, false, List, Some}
use Rattle.std.proofs.Common.{Result, Ok, Err, OnOk, map, sym, ap, ◌∙◌, subst, arith}
use Rattle.std.specs.Prelude.{length, not, slice_get}
use Rattle.std.proofs.lemmas.List.{length-map}
use Rattle.std.proofs.lemmas.Option.{same_Some, slice_get_within}
use Rattle.pp_tree.specs.declared.operator.BinaryOp.TheVariants.{Equal, Differ}
use Rattle.pp_tree.specs.declared.operator.UnaryOp.TheVariants.{Not}
use Rattle.pp_prog.specs.declared.id.CtorId.{CtorId}
use Rattle.pp_prog.specs.declared.sort.Sort.{Sort}
use Rattle.pp_prog.specs.declared.sort.Sort.TheVariants as sort
use Rattle.pp_prog.specs.declared.value.Value.TheVariants.{Bool as Truth, outs-Bool}
use Rattle.pp_prog.specs.Fits.{same_truth}
use Rattle.pp_prog.specs.Sorts.{has_sort}
use Rattle.pp_prog.proofs.PartSorts.{bool_then, equality_parts}
use Rattle.pp_prog.proofs.ValueSorts.{bool_value}
use Rattle.pp_eval.specs.Equality.{equal}
use Rattle.pp_eval.specs.Operators.{truth_in, unary}
use Rattle.pp_eval.specs.Part.{and_then}
use Rattle.pp_steps.specs.declared.step.Step.{Step}
use Rattle.pp_steps.specs.declared.step.Step.TheVariants as steps
use Rattle.pp_steps.specs.Meaning.{bit, has_ctor, value_or}
use Rattle.pp_closure.specs.Valuation.{Valuation}
use Rattle.pp_closure.proofs.Values.{bit_of, has_own}

-- what follows from what a success says is said too
pub on_ok : {T E : Type 0} (r : Result T E) (P Q : Type 0) → (P → Q) → OnOk r P → OnOk r Q
on_ok (Ok x) P Q go h = go h
on_ok (Err e) P Q go h = tt

module _ (ss : List Step) (v : Valuation ss) (k : ℕ) where
  pub bool_said : (b : Bool) → slice_get ss k ≡ Some (steps.Bool b) → bit (v.values k) ≡ b
  bool_said b at = bit_of (v.values k) b (v.does k (steps.Bool b) at)

  pub not_said : (a : ℕ) → slice_get ss k ≡ Some (steps.Not a) → bit (v.values k) ≡ not (bit (v.values a))
  not_said a at = bit_of (v.values k) _ (v.does k (steps.Not a) at)

  pub not_operator_said : (a : ℕ) → slice_get ss k ≡ Some (steps.Unary Not a)
      → bit (v.values k) ≡ not (bit (v.values a))
  not_operator_said a at =
      let Has : Sort → Type 0 = λ s. has_sort v.types.ctors (v.values a) s ≡ true in
      let is_bool = bool_then (Some (v.sorts a)) _ (v.sorts k) (v.typed k (steps.Unary Not a) at) in
      let within = slice_get_within ss k (steps.Unary Not a) at in
      let below = v.reads k (steps.Unary Not a) at in
      let t = bool_value v.types.ctors (v.values a)
      (subst Has (same_Some (v.sorts a) sort.Bool is_bool.0) (v.sorted a (omega (arith, below, within)))) in
      let made = v.does k (steps.Unary Not a) at in
      bit_of (v.values k) (not t.truth)
      (made ∙ ap (λ x. value_or (Truth false) (unary Not x)) t.is
      ∙ ap (λ o. value_or (Truth false) (and_then (truth_in o) (λ b. Ok (Truth (not b))))) (outs-Bool t.truth))
      ∙ ap not (sym (bit_of (v.values a) t.truth t.is))

  pub both_said : (a b : ℕ) → slice_get ss k ≡ Some (steps.Both a b)
      → bit (v.values k) ≡ (bit (v.values a) && bit (v.values b))
  both_said a b at = bit_of (v.values k) _ (v.does k (steps.Both a b) at)

  pub test_said : (c : CtorId) (n a : ℕ) → slice_get ss k ≡ Some (steps.IsCtor c n a)
      → bit (v.values k) ≡ has_ctor c n (v.values a)
  test_said c n a at = bit_of (v.values k) _ (v.does k (steps.IsCtor c n a) at)

  pub made_said : (c : CtorId) (fields : List ℕ) (n : ℕ) → slice_get ss k ≡ Some (steps.Construct c fields)
      → n ≡ length fields → has_ctor c n (v.values k) ≡ true
  made_said c fields n at many =
      subst (λ m. has_ctor c m (v.values k) ≡ true) (length-map fields v.values ∙ sym many)
      (has_own c (map v.values fields) (v.values k) (v.does k (steps.Construct c fields) at))

  pub equal_said : (a b : ℕ) → slice_get ss k ≡ Some (steps.Binary Equal a b)
      → bit (v.values k) ≡ same_truth true (equal (v.values a) (v.values b))
  equal_said a b at = bit_of (v.values k) _ (v.does k (steps.Binary Equal a b) at)

  pub differ_said : (a b : ℕ) → slice_get ss k ≡ Some (steps.Binary Differ a b)
      → bit (v.values k) ≡ not (equal (v.values a) (v.values b))
  differ_said a b at = bit_of (v.values k) _ (v.does k (steps.Binary Differ a b) at)

  -- two steps that are compared: they have one sort
  pub record AreCompared (a b : ℕ) : Type 0 where
    pub sort : v.sorts a ≡ v.sorts b
    pub left : a < length ss
    pub right : b < length ss

  pub equal_compared : (a b : ℕ) → slice_get ss k ≡ Some (steps.Binary Equal a b) → AreCompared a b
  equal_compared a b at =
      let s = equality_parts (Some (v.sorts a)) (Some (v.sorts b)) (v.sorts k) (v.typed k (steps.Binary Equal a b) at)
      in
      let below = v.reads k (steps.Binary Equal a b) at in
      let within = slice_get_within ss k (steps.Binary Equal a b) at in
      record {
        sort = same_Some (v.sorts a) s.0 s.1.0 ∙ sym (same_Some (v.sorts b) s.0 s.1.1);
        left = omega (arith, below.0, within);
        right = omega (arith, below.1, within);
      }

  pub differ_compared : (a b : ℕ) → slice_get ss k ≡ Some (steps.Binary Differ a b) → AreCompared a b
  differ_compared a b at =
      let s = equality_parts (Some (v.sorts a)) (Some (v.sorts b)) (v.sorts k) (v.typed k (steps.Binary Differ a b) at)
      in
      let below = v.reads k (steps.Binary Differ a b) at in
      let within = slice_get_within ss k (steps.Binary Differ a b) at in
      record {
        sort = same_Some (v.sorts a) s.0 s.1.0 ∙ sym (same_Some (v.sorts b) s.0 s.1.1);
        left = omega (arith, below.0, within);
        right = omega (arith, below.1, within);
      }
