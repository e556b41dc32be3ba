-- Operators on two values: their steps weigh at most what their visits are worth.
use Rattle.std.proofs.Common.{◌≡◌, ℕ, suc, ◌+◌, ◌≤◌, List, [], ◌∷◌, ◌++◌, Option, Some, refl, sym, ap, ◌∙◌, subst}
use Rattle.std.proofs.Common.{arith}
use Rattle.std.proofs.lemmas.Option.{same_Some}
use Rattle.std.proofs.Math.Nat.{add-zero}
use Rattle.std.specs.Prelude.{pos}
use Rattle.pp_prog.specs.ExprSorts.{class_sort}
use Rattle.pp_operators.specs.Classes.{class_of}
use Rattle.pp_operators.specs.declared.class.OperatorClass.{OperatorClass}
use Rattle.pp_operators.specs.declared.class.OperatorClass.TheVariants as class
use Rattle.pp_tree.specs.declared.operator.BinaryOp.{BinaryOp}
use Rattle.pp_tree.specs.declared.operator.BinaryOp.TheVariants.{Div, Rem, Equal, AndAlso, OrElse}
use Rattle.pp_prog.specs.declared.id.CheckId.{CheckId}
use Rattle.pp_prog.specs.declared.sort.Sort.{Sort}
use Rattle.pp_prog.specs.declared.sort.Sort.TheVariants as sort
use Rattle.pp_prog.specs.declared.types.TypeTable.{TypeTable}
use Rattle.pp_prog.specs.ExprSorts.{Sorting, binary_sort, gives}
use Rattle.pp_prog.specs.Sizes.{by_sort}
use Rattle.pp_prog.proofs.PartSorts.{binary_parts, logic_parts}
use Rattle.pp_estimate.specs.declared.shape.Shape.{Shape}
use Rattle.pp_estimate.specs.Visits.{Visiting, binary_extra, class_extra, node, shape}
use Rattle.pp_estimate_laws.proofs.Numbers.{le_same}
use Rattle.pp_steps.specs.declared.step.OpenCall.{OpenCall}
use Rattle.pp_steps.specs.declared.step.Step.TheVariants as steps
use Rattle.pp_steps.specs.Compile.{Compiling, binary, one, quotient, skipping, unless, when}
use Rattle.pp_steps.specs.Piece.{Piece, after, asks, bind, demand, joined, plain}
use Rattle.pp_steps.specs.Sorted.{AllSorted, IsSorted, Sorts}
use Rattle.pp_steps_gates.proofs.Operators.{bits_within, le_more, operated_binary, result_is, visited}
use Rattle.pp_steps_gates.proofs.Pieces.{IsBit}
use Rattle.pp_guess_gates.specs.Measure.{class_gates, operator_gates}
use Rattle.pp_operators.specs.Gates.{number_gates}
use Rattle.pp_guess_gates.proofs.Pieces.{Is, IsLight, choice_light, demand_light, joined_light, lighter, load}
use Rattle.pp_guess_gates.proofs.Pieces.{one_light, sorted_left, sorted_one, sorted_right, unless_light, when_light}
use Rattle.pp_guess_gates.proofs.Prices.{Prices, worth, worth_of_both, worth_of_node}
use Rattle.pp_guess_gates.proofs.Scopes.{Are, Covers, IsCovered, covered}

-- two values of a sort are equal or not
pub equal_low : (s : Sort) → by_sort 64 1 (λ d. 64) s ≤ 64
equal_low sort.Int = le_same 64
equal_low sort.Bool = omega arith
equal_low (sort.Tree d) = le_same 64

module _ (types : TypeTable) where
  equal_within : (s : Sort) (n : ℕ) → by_sort 64 1 (λ d. 64) s ≤ n + 64
  equal_within s n = let low = equal_low s in omega arith

  class_fits : (c : OperatorClass) (s : Sort) (p e : Shape) → class_gates types c s ≤ class_extra types c p e + 64
  class_fits class.Equality s p e = equal_within s _
  class_fits class.Bitwise s p e = bits_within s _
  class_fits c s p e = le_more (number_gates c)

  operator_fits : (op : BinaryOp) (s : Sort) (p e : Shape) → operator_gates types op s ≤ binary_extra types op p e + 64
  operator_fits op s p e = class_fits (class_of op) s p e

module _ (types : TypeTable) (σ : Sorts) (ψ : Prices) (left : OpenCall → ℕ) (old : List Shape) where
  abbrev C : Compiling → Visiting → Sorting → Type 0
  C = Covers types σ ψ left old

  abbrev L : {A : Type 0} → ℕ → Piece A → ℕ
  L = load types σ ψ left

  -- the result of the step of an operator on numbers of these sorts
  module _ (op : BinaryOp) (x y n : ℕ) (o q : Option Sort) (s a b : Sort) where
    step_has : binary_sort op o q ≡ Some s → o ≡ Some a → q ≡ Some b → Is σ a x → Is σ b y
        → IsSorted types σ (steps.Binary op x y) (σ n) → Is σ s n
    step_has h oa qb hx hy made = same_Some (σ n) s
        (sym (operated_binary op (Some (σ x)) (Some (σ y)) (σ n) made)
        ∙ ap (λ z. binary_sort op (Some z) (Some (σ y))) hx
        ∙ ap (λ z. binary_sort op (Some a) (Some z)) hy
        ∙ ap (λ z. binary_sort op z (Some b)) (sym oa) ∙ ap (binary_sort op o) (sym qb) ∙ h)

  module _ (op : BinaryOp) (a b : Compiling) (v w : Visiting) (t u : Sorting) (ha : C a v t) (hb : C b w u) where
    -- an operator that is one step
    plain_covers : C (λ k env reach. bind k (a k env reach) (λ n x alive. bind n (b n env alive)
        (λ m y going. one (steps.Binary op x y) m going))) (visited types op v w)
        (λ scope. binary_sort op (t scope) (u scope))
    plain_covers k env reach shapes scope s are r h m =
        let q = binary_parts op (t scope) (u scope) s h in
        let x = a k env reach in
        let n = after k x in
        let y = b n env x.alive in
        let i = after n y in
        let z = one (steps.Binary op x.out y.out) i y.alive in
        let p = v old shapes in
        let e = w old shapes in
        let my = sorted_right types σ k x (joined y z) m in
        let mz = sorted_right types σ n y z my in
        let hx = ha k env reach shapes scope q.0.0 are r q.0.1 (sorted_left types σ k x (joined y z) m) in
        let hy = hb n env x.alive shapes scope q.1.0 are hx.alive q.1.1 (sorted_left types σ n y z my) in
        let is = step_has op x.out y.out i (t scope) (u scope) s q.0.0 q.1.0 h q.0.1 q.1.1
        hx.out hy.out mz.0 in
        let fits = operator_fits types op (σ x.out) p.shape e.shape in
        let extra = binary_extra types op p.shape e.shape in
        let gates = operator_gates types op (σ x.out) in
        let few_x = hx.few in
        let few_y = hy.few in
        let one_is = worth_of_both ψ (p.events ++ e.events) (node extra) in
        let two_is = worth_of_both ψ p.events e.events in
        let three = worth_of_node ψ extra in
        covered types σ ψ left k (joined x (joined y z)) s (visited types op v w old shapes)
        (L k x + (L n y + (1 + gates)))
        (result_is op (t scope) (u scope) p.shape.sort q.0.0 s q.0.1 hx.shape h)
        (joined_light types σ ψ left (Is σ s) k x (joined y z) (L k x) (L n y + (1 + gates)) (le_same (L k x))
        (joined_light types σ ψ left (Is σ s) n y z (L n y) (1 + gates) (le_same (L n y))
        (one_light types σ ψ left (Is σ s) (steps.Binary op x.out y.out) i y.alive is hy.alive))) (omega arith)

    quotient_covers : (asked check : Option CheckId) → C (λ k env reach. bind k (a k env reach) (λ n x alive.
        bind n (b n env alive) (λ m y going. quotient asked op check m going x y))) (visited types op v w)
        (λ scope. binary_sort op (t scope) (u scope))
    quotient_covers asked check k env reach shapes scope s are r h m =
        let q = binary_parts op (t scope) (u scope) s h in
        let x = a k env reach in
        let n = after k x in
        let y = b n env x.alive in
        let i = after n y in
        let f : Piece ℕ = plain (steps.Int (pos 0) ∷ steps.Binary Equal y.out i ∷ steps.Not (suc i) ∷ [])
        (suc (suc i)) y.alive in
        let j = after i f in
        let d = demand (asks asked check) j y.alive (suc (suc i)) in
        let l = after j d in
        let z = one (steps.Binary op x.out y.out) l d.alive in
        let p = v old shapes in
        let e = w old shapes in
        let my = sorted_right types σ k x (joined y (joined f (joined d z))) m in
        let mf = sorted_right types σ n y (joined f (joined d z)) my in
        let md = sorted_right types σ i f (joined d z) mf in
        let mz = sorted_right types σ j d z md in
        let hx = ha k env reach shapes scope q.0.0 are r q.0.1
        (sorted_left types σ k x (joined y (joined f (joined d z))) m) in
        let hy = hb n env x.alive shapes scope q.1.0 are hx.alive q.1.1
        (sorted_left types σ n y (joined f (joined d z)) my) in
        let hd = demand_light types σ ψ left (asks asked check) j y.alive (suc (suc i))
        (sorted_left types σ j d z md) in
        let is = step_has op x.out y.out l (t scope) (u scope) s q.0.0 q.1.0 h q.0.1 q.1.1
        hx.out hy.out mz.0 in
        let fits = operator_fits types op (σ x.out) p.shape e.shape in
        let zero_is = equal_low (σ y.out) in
        let extra = binary_extra types op p.shape e.shape in
        let gates = operator_gates types op (σ x.out) in
        let few_f : L i f ≤ 67 = omega arith in
        let few_x = hx.few in
        let few_y = hy.few in
        let one_is = worth_of_both ψ (p.events ++ e.events) (node extra) in
        let two_is = worth_of_both ψ p.events e.events in
        let three = worth_of_node ψ extra in
        covered types σ ψ left k (joined x (joined y (joined f (joined d z)))) s (visited types op v w old shapes)
        (L k x + (L n y + (67 + (7 + (1 + gates)))))
        (result_is op (t scope) (u scope) p.shape.sort q.0.0 s q.0.1 hx.shape h)
        (joined_light types σ ψ left (Is σ s) k x (joined y (joined f (joined d z))) (L k x) _ (le_same (L k x))
        (joined_light types σ ψ left (Is σ s) n y (joined f (joined d z)) (L n y) _ (le_same (L n y))
        (joined_light types σ ψ left (Is σ s) i f (joined d z) 67 _ few_f
        (joined_light types σ ψ left (Is σ s) j d z 7 (1 + gates) hd.few
        (one_light types σ ψ left (Is σ s) (steps.Binary op x.out y.out) l d.alive is hd.alive))))) (omega arith)

  -- ---- operators that may skip their right side

  -- the right side begins at number n, where its number `taken` tells whether it is reached
  skip_light : (b : Compiling) (w : Visiting) (u : Sorting) → C b w u → (n : ℕ) (env : List ℕ) (taken x alive : ℕ)
      (shapes : List Shape) (scope : List Sort) → Are σ env shapes scope → IsBit σ taken → IsBit σ alive
      → Is σ sort.Bool x → u scope ≡ Some sort.Bool → AllSorted types σ n (skipping b n env taken x alive).steps
      → IsLight types σ ψ left (Is σ sort.Bool) n (skipping b n env taken x alive) (worth ψ (w old shapes).events)
  skip_light b w u hb n env taken x alive shapes scope are bit live hx is m =
      let y = b n env taken in
      let z : Piece (Option ℕ) = plain [] (Some x) alive in
      let hy = hb n env taken shapes scope sort.Bool are bit is (sorted_one types σ n (after n y) taken y z m) in
      let few_y = hy.few in
      let hz = choice_light types σ ψ left sort.Bool n taken y z (after n y) (add-zero (after n y)) hy.out hy.alive hx m
      in
      let few_z = hz.few in
      record { out = hz.out; alive = hz.alive; few = omega arith }

  module _ (a b : Compiling) (v w : Visiting) (t u : Sorting) (ha : C a v t) (hb : C b w u) where
    module _ (k : ℕ) (env : List ℕ) (reach : ℕ) (shapes : List Shape) (scope : List Sort) (s : Sort)
        (are : Are σ env shapes scope) (r : IsBit σ reach)
        (h : class_sort class.Logic (t scope) (u scope) ≡ Some s) where
      abbrev x : Piece ℕ
      x = a k env reach

      abbrev n : ℕ
      n = after k x

      -- what goes on after the left side, with a step that tells whether the right side is reached
      skip_covers : (op : BinaryOp) → binary_extra types op (v old shapes).shape (w old shapes).shape ≡ 0
          → gives op (v old shapes).shape.sort ≡ sort.Bool → (f : Piece ℕ)
          → (hx : IsCovered types σ ψ left k x sort.Bool (v old shapes)) → IsLight types σ ψ left (IsBit σ) n f 3
          → AllSorted types σ (after n f) (skipping b (after n f) env f.out x.out x.alive).steps
          → IsCovered types σ ψ left k (joined x (joined f (skipping b (after n f) env f.out x.out x.alive))) s
          (visited types op v w old shapes)
      skip_covers op none result f hx hf m =
          let q = logic_parts (t scope) (u scope) s h in
          let p = v old shapes in
          let e = w old shapes in
          let z = skipping b (after n f) env f.out x.out x.alive in
          let hz = skip_light b w u hb (after n f) env f.out x.out x.alive shapes scope are hf.out hx.alive
          hx.out q.1 m in
          let few = hx.few in
          let extra = binary_extra types op p.shape e.shape in
          let one_is = worth_of_both ψ (p.events ++ e.events) (node extra) in
          let two_is = worth_of_both ψ p.events e.events in
          let three = worth_of_node ψ extra in
          covered types σ ψ left k (joined x (joined f z)) s (visited types op v w old shapes)
          (L k x + (3 + worth ψ e.events)) (result ∙ q.2)
          (subst (λ c. IsLight types σ ψ left (Is σ c) k (joined x (joined f z)) (L k x + (3 + worth ψ e.events))) q.2
          (joined_light types σ ψ left (Is σ sort.Bool) k x (joined f z) (L k x) _ (le_same (L k x))
          (joined_light types σ ψ left (Is σ sort.Bool) n f z 3 (worth ψ e.events) hf.few hz))) (omega arith)

    and_covers : (asked check : Option CheckId) → C (binary asked AndAlso a b check) (visited types AndAlso v w)
        (λ scope. class_sort class.Logic (t scope) (u scope))
    and_covers asked check k env reach shapes scope s are r h m =
        let q = logic_parts (t scope) (u scope) s h in
        let c = a k env reach in
        let i = after k c in
        let f = when i c.alive c.out in
        let z = skipping b (after i f) env i c.out c.alive in
        let mf = sorted_right types σ k c (joined f z) m in
        skip_covers k env reach shapes scope s are r h AndAlso refl refl f
        (ha k env reach shapes scope sort.Bool are r q.0 (sorted_left types σ k c (joined f z) m))
        (lighter types σ ψ left (IsBit σ) i f 2 3
        (when_light types σ ψ left i c.alive c.out (sorted_left types σ i f z mf)) (omega arith))
        (sorted_right types σ i f z mf)

    or_covers : (asked check : Option CheckId) → C (binary asked OrElse a b check) (visited types OrElse v w)
        (λ scope. class_sort class.Logic (t scope) (u scope))
    or_covers asked check k env reach shapes scope s are r h m =
        let q = logic_parts (t scope) (u scope) s h in
        let c = a k env reach in
        let i = after k c in
        let f = unless i c.alive c.out in
        let z = skipping b (after i f) env (suc i) c.out c.alive in
        let mf = sorted_right types σ k c (joined f z) m in
        skip_covers k env reach shapes scope s are r h OrElse refl refl f
        (ha k env reach shapes scope sort.Bool are r q.0 (sorted_left types σ k c (joined f z) m))
        (unless_light types σ ψ left i c.alive c.out (sorted_left types σ i f z mf)) (sorted_right types σ i f z mf)

  pub binary_covers : (asked : Option CheckId) (op : BinaryOp) (check : Option CheckId) (a b : Compiling)
      (v w : Visiting) (t u : Sorting) → C a v t → C b w u
      → C (binary asked op a b check) (visited types op v w) (λ scope. binary_sort op (t scope) (u scope))
  binary_covers asked AndAlso check a b v w t u ha hb = and_covers a b v w t u ha hb asked check
  binary_covers asked OrElse check a b v w t u ha hb = or_covers a b v w t u ha hb asked check
  binary_covers asked Div check a b v w t u ha hb = quotient_covers Div a b v w t u ha hb asked check
  binary_covers asked Rem check a b v w t u ha hb = quotient_covers Rem a b v w t u ha hb asked check
  binary_covers asked op check a b v w t u ha hb = plain_covers op a b v w t u ha hb
