-- Operators on two values: their steps take at most twice what their visits cost.
use Rattle.std.proofs.Common.{◌≡◌, ℕ, suc, ◌+◌, ◌*◌, ◌≤◌, max, min, List, [], ◌∷◌, ◌++◌, Option, Some, None, refl, sym}
use Rattle.std.proofs.Common.{ap, ◌∙◌, subst, arith}
use Rattle.std.proofs.lemmas.Option.{same_Some}
use Rattle.std.proofs.Math.Nat.{add-zero, le-max_left, min-le_left}
use Rattle.std.specs.Prelude.{pos}
use Rattle.pp_operators.specs.Classes.{class_of}
use Rattle.pp_operators.specs.declared.class.OperatorClass.{OperatorClass}
use Rattle.pp_operators.specs.declared.class.OperatorClass.TheVariants as class
use Rattle.pp_tree.specs.declared.operator.BinaryOp.{BinaryOp}
use Rattle.pp_tree.specs.declared.operator.BinaryOp.TheVariants.{Div, Rem, Equal, AndAlso, OrElse}
use Rattle.pp_prog.specs.declared.id.CheckId.{CheckId}
use Rattle.pp_prog.specs.declared.sort.Sort.{Sort}
use Rattle.pp_prog.specs.declared.sort.Sort.TheVariants as sort
use Rattle.pp_prog.specs.declared.types.TypeTable.{TypeTable}
use Rattle.pp_prog.specs.ExprSorts.{Sorting, binary_sort, class_sort, gives}
use Rattle.pp_prog.specs.Sizes.{bits, by_sort}
use Rattle.pp_prog.proofs.Results.{binary_is}
use Rattle.pp_estimate.specs.declared.shape.Shape.{Shape}
use Rattle.pp_estimate.specs.Events.{cost}
use Rattle.pp_estimate.specs.Visits.{Visiting, binary_extra, class_extra, node, shape, visit}
use Rattle.pp_estimate_laws.proofs.Growth.{cost_of_both}
use Rattle.pp_estimate_laws.proofs.Numbers.{le_same, le_then, plus_grows, times_grow}
use Rattle.pp_estimate_laws.proofs.Sizes.{bits_grow}
use Rattle.pp_prog.proofs.PartSorts.{binary_parts, equality_parts, logic_parts}
use Rattle.pp_steps.specs.declared.step.Step.TheVariants as steps
use Rattle.pp_steps.specs.Compile.{Compiling, binary, one, quotient, skipping, unless, when}
use Rattle.pp_steps.specs.Gates.{Heights, binary_gates, class_gates, equality_gates}
use Rattle.pp_operators.specs.Gates.{number_gates}
use Rattle.pp_steps.specs.Piece.{Piece, after, asks, bind, demand, joined, plain}
use Rattle.pp_steps.specs.Sorted.{IsSorted, Sorts, class_operated, operated_sort}
use Rattle.pp_steps_gates.proofs.Pieces.{Has, IsBit, IsFew, IsMade, choice_few, demand_few, joined_few, load, made_left}
use Rattle.pp_steps_gates.proofs.Pieces.{made_one, made_right, one_few, unless_few, when_few}
use Rattle.pp_steps_gates.proofs.Scopes.{Are, Covers, IsCovered, cost_of_node, covered}

class_binary : (c : OperatorClass) (o q : Option Sort) (s : Sort) → class_operated c o q ≡ Some s
    → class_sort c o q ≡ Some s
class_binary class.Logic o q s h = let no : None ≡ Some s = h in cc
class_binary c o q s h = h

pub operated_binary : (op : BinaryOp) (o q : Option Sort) (s : Sort) → operated_sort op o q ≡ Some s
    → binary_sort op o q ≡ Some s
operated_binary op o q s h = class_binary (class_of op) o q s h

-- a node has room for more
pub le_more : (n : ℕ) → n ≤ n + 64
le_more n = omega arith

-- bit by bit takes at most a gate a bit
pub bits_within : (s : Sort) (n : ℕ) → by_sort 64 1 (λ d. 0) s ≤ n + 64
bits_within sort.Int n = omega arith
bits_within sort.Bool n = omega arith
bits_within (sort.Tree d) n = omega arith

-- the result's sort is that of the operands' sorts
pub result_is : (op : BinaryOp) (o q : Option Sort) (r a s : Sort) → o ≡ Some a → r ≡ a → binary_sort op o q ≡ Some s
    → gives op r ≡ s
result_is op o q r a s oa ra h = binary_is op o q r s (λ t e. ra ∙ same_Some a t (sym oa ∙ e)) h

module _ (types : TypeTable) where
  pub equality_fits : (s : Sort) (g h : ℕ) → g ≤ h → equality_gates types g s ≤ 4 * (32 + bits types h s)
  equality_fits sort.Int g h le = omega arith
  equality_fits sort.Bool g h le = omega arith
  equality_fits (sort.Tree d) g h le =
      times_grow 4 4 _ _ (le_same 4) (plus_grows 32 32 _ _ (le_same 32) (bits_grow types g h (sort.Tree d) le))

  equality_within : (s : Sort) (g h : ℕ) (p e : Shape) → p.sort ≡ s → g ≤ p.height
      → equality_gates types (min g h) s ≤ 4 * (32 + bits types (max p.height e.height) p.sort) + 64
  equality_within s g h p e is le =
      let low = le_then (min g h) g (max p.height e.height) (min-le_left g h)
      (le_then g p.height (max p.height e.height) le (le-max_left p.height e.height)) in
      let most = max p.height e.height in
      subst (λ t. equality_gates types (min g h) s ≤ 4 * (32 + bits types most t) + 64) (sym is)
      (le_then _ _ _ (equality_fits s (min g h) most low) (le_more (4 * (32 + bits types most s))))

  class_fits : (c : OperatorClass) (s : Sort) (g h : ℕ) (p e : Shape) → p.sort ≡ s → g ≤ p.height
      → class_gates types c (min g h) s ≤ class_extra types c p e + 64
  class_fits class.Equality s g h p e is le = equality_within s g h p e is le
  class_fits class.Bitwise s g h p e is le = bits_within s _
  class_fits c s g h p e is le = le_more (number_gates c)

  operator_fits : (op : BinaryOp) (s : Sort) (g h : ℕ) (p e : Shape) → p.sort ≡ s → g ≤ p.height
      → binary_gates types op (min g h) s ≤ binary_extra types op p e + 64
  operator_fits op s g h p e is le = class_fits (class_of op) s g h p e is le

-- the visit of an operator on two values
abbrev pub visited : TypeTable → BinaryOp → Visiting → Visiting → Visiting
visited types op v w o env =
    visit (shape (gives op (v o env).shape.sort) 0)
    ((v o env).events ++ (w o env).events ++ node (binary_extra types op (v o env).shape (w o env).shape))

module _ (types : TypeTable) (σ : Sorts) (η : Heights) (old : List Shape) where
  abbrev C : Compiling → Visiting → Sorting → Type 0
  C = Covers types σ η old

  abbrev L : {A : Type 0} → ℕ → Piece A → ℕ
  L = load types σ η

  abbrev H : Sort → ℕ → ℕ → Type 0
  H = Has types σ η

  -- the result of the step of an operator on numbers of these sorts
  module _ (op : BinaryOp) (x y n : ℕ) (p e : Shape) (o q : Option Sort) (s a b : Sort) where
    step_has : binary_sort op o q ≡ Some s → o ≡ Some a → q ≡ Some b → H a p.height x → H b e.height y
        → IsSorted types σ (steps.Binary op x y) (σ n) → η n ≡ 0 → H s 0 n
    step_has h oa qb hx hy made flat = record {
      sort = same_Some (σ n) s
          (sym (operated_binary op (Some (σ x)) (Some (σ y)) (σ n) made)
          ∙ ap (λ z. binary_sort op (Some z) (Some (σ y))) hx.sort
          ∙ ap (λ z. binary_sort op (Some a) (Some z)) hy.sort
          ∙ ap (λ z. binary_sort op z (Some b)) (sym oa) ∙ ap (binary_sort op o) (sym qb) ∙ h);
      height = subst (λ z. z ≤ 0) (sym flat) (le_same 0);
    }

  step_fits : (op : BinaryOp) (x y : ℕ) (p e : Shape) (a : Sort) → H a p.height x → p.sort ≡ a
      → binary_gates types op (min (η x) (η y)) (σ x) ≤ binary_extra types op p e + 64
  step_fits op x y p e a hx is =
      operator_fits types op (σ x) (η x) (η y) p e (is ∙ sym hx.sort) hx.height

  module _ (op : BinaryOp) (a b : Compiling) (v w : Visiting) (t u : Sorting) (ha : C a v t) (hb : C b w u) where
    -- an operator that is one step
    plain_covers : C (λ k env reach. bind k (a k env reach) (λ n x alive. bind n (b n env alive)
        (λ m y going. one (steps.Binary op x y) m going))) (visited types op v w)
        (λ scope. binary_sort op (t scope) (u scope))
    plain_covers k env reach shapes scope s are r h m =
        let q = binary_parts op (t scope) (u scope) s h in
        let x = a k env reach in
        let n = after k x in
        let y = b n env x.alive in
        let i = after n y in
        let z = one (steps.Binary op x.out y.out) i y.alive in
        let p = v old shapes in
        let e = w old shapes in
        let my = made_right types σ η k x (joined y z) m in
        let mz = made_right types σ η n y z my in
        let hx = ha k env reach shapes scope q.0.0 are r q.0.1 (made_left types σ η k x (joined y z) m) in
        let hy = hb n env x.alive shapes scope q.1.0 are hx.alive q.1.1 (made_left types σ η n y z my) in
        let is = step_has op x.out y.out i p.shape e.shape (t scope) (u scope) s q.0.0 q.1.0 h q.0.1 q.1.1
        hx.out hy.out mz.0.0 mz.0.1 in
        let fits = step_fits op x.out y.out p.shape e.shape q.0.0 hx.out hx.shape in
        let extra = binary_extra types op p.shape e.shape in
        let gates = binary_gates types op (min (η x.out) (η y.out)) (σ x.out) in
        let few_x = hx.few in
        let few_y = hy.few in
        let one_is = cost_of_both (p.events ++ e.events) (node extra) in
        let two_is = cost_of_both p.events e.events in
        let three = cost_of_node extra in
        covered types σ η k (joined x (joined y z)) s (visited types op v w old shapes) (L k x + (L n y + gates))
        (result_is op (t scope) (u scope) p.shape.sort q.0.0 s q.0.1 hx.shape h)
        (joined_few types σ η (H s 0) k x (joined y z) (L k x) (L n y + gates) (le_same (L k x))
        (joined_few types σ η (H s 0) n y z (L n y) gates (le_same (L n y))
        (one_few types σ η (H s 0) (steps.Binary op x.out y.out) i y.alive is hy.alive))) (omega arith)

    -- the divisor of a quotient is compared with 0
    nonzero_fits : (y k : ℕ) → σ k ≡ sort.Int → IsSorted types σ (steps.Binary Equal y k) (σ (suc k))
        → equality_gates types (min (η y) (η k)) (σ y) ≡ 64
    nonzero_fits y k int made =
        let both = (equality_parts (Some (σ y)) (Some (σ k)) (σ (suc k)) made).1 in
        ap (equality_gates types (min (η y) (η k))) (same_Some (σ y) (σ k) (both.0 ∙ sym both.1) ∙ int)

    quotient_covers : (asked check : Option CheckId) → C (λ k env reach. bind k (a k env reach) (λ n x alive.
        bind n (b n env alive) (λ m y going. quotient asked op check m going x y))) (visited types op v w)
        (λ scope. binary_sort op (t scope) (u scope))
    quotient_covers asked check k env reach shapes scope s are r h m =
        let q = binary_parts op (t scope) (u scope) s h in
        let x = a k env reach in
        let n = after k x in
        let y = b n env x.alive in
        let i = after n y in
        let f : Piece ℕ = plain (steps.Int (pos 0) ∷ steps.Binary Equal y.out i ∷ steps.Not (suc i) ∷ [])
        (suc (suc i)) y.alive in
        let j = after i f in
        let d = demand (asks asked check) j y.alive (suc (suc i)) in
        let l = after j d in
        let z = one (steps.Binary op x.out y.out) l d.alive in
        let p = v old shapes in
        let e = w old shapes in
        let my = made_right types σ η k x (joined y (joined f (joined d z))) m in
        let mf = made_right types σ η n y (joined f (joined d z)) my in
        let md = made_right types σ η i f (joined d z) mf in
        let mz = made_right types σ η j d z md in
        let hx = ha k env reach shapes scope q.0.0 are r q.0.1
        (made_left types σ η k x (joined y (joined f (joined d z))) m) in
        let hy = hb n env x.alive shapes scope q.1.0 are hx.alive q.1.1
        (made_left types σ η n y (joined f (joined d z)) my) in
        let hd = demand_few types σ η (asks asked check) j y.alive (suc (suc i)) (made_left types σ η j d z md) in
        let is = step_has op x.out y.out l p.shape e.shape (t scope) (u scope) s q.0.0 q.1.0 h q.0.1 q.1.1
        hx.out hy.out mz.0.0 mz.0.1 in
        let fits = step_fits op x.out y.out p.shape e.shape q.0.0 hx.out hx.shape in
        let zero_is = nonzero_fits y.out i mf.0.0.0 mf.1.0.0 in
        let extra = binary_extra types op p.shape e.shape in
        let gates = binary_gates types op (min (η x.out) (η y.out)) (σ x.out) in
        let few_f : L i f ≤ 64 = omega arith in
        let few_x = hx.few in
        let few_y = hy.few in
        let one_is = cost_of_both (p.events ++ e.events) (node extra) in
        let two_is = cost_of_both p.events e.events in
        let three = cost_of_node extra in
        covered types σ η k (joined x (joined y (joined f (joined d z)))) s (visited types op v w old shapes)
        (L k x + (L n y + (64 + (3 + gates))))
        (result_is op (t scope) (u scope) p.shape.sort q.0.0 s q.0.1 hx.shape h)
        (joined_few types σ η (H s 0) k x (joined y (joined f (joined d z))) (L k x) _ (le_same (L k x))
        (joined_few types σ η (H s 0) n y (joined f (joined d z)) (L n y) _ (le_same (L n y))
        (joined_few types σ η (H s 0) i f (joined d z) 64 _ few_f
        (joined_few types σ η (H s 0) j d z 3 gates hd.few
        (one_few types σ η (H s 0) (steps.Binary op x.out y.out) l d.alive is hd.alive))))) (omega arith)

  -- ---- operators that may skip their right side

  module _ (flat : (i : ℕ) → σ i ≡ sort.Bool → η i ≡ 0) where
    bit_has : (h n : ℕ) → H sort.Bool h n → H sort.Bool 0 n
    bit_has h n a = record { sort = a.sort; height = subst (λ z. z ≤ 0) (sym (flat n a.sort)) (le_same 0) }

    -- the right side begins at number n, where its number `taken` tells whether it is reached
    skip_few : (b : Compiling) (w : Visiting) (u : Sorting) → C b w u → (n : ℕ) (env : List ℕ) (taken x alive : ℕ)
        (shapes : List Shape) (scope : List Sort) → Are types σ η env shapes scope → IsBit σ taken → IsBit σ alive
        → H sort.Bool 0 x → u scope ≡ Some sort.Bool → IsMade types σ η n (skipping b n env taken x alive).steps
        → IsFew types σ η (H sort.Bool 0) n (skipping b n env taken x alive) (2 * cost (w old shapes).events)
    skip_few b w u hb n env taken x alive shapes scope are bit live hx is m =
        let y = b n env taken in
        let z : Piece (Option ℕ) = plain [] (Some x) alive in
        let hy = hb n env taken shapes scope sort.Bool are bit is (made_one types σ η n (after n y) taken y z m) in
        let few_y = hy.few in
        let hz = choice_few types σ η sort.Bool 0 n taken y z (after n y) (add-zero (after n y))
        (bit_has (w old shapes).shape.height y.out hy.out) hy.alive hx m in
        let few_z = hz.few in
        record { out = hz.out; alive = hz.alive; few = omega arith }

    module _ (a b : Compiling) (v w : Visiting) (t u : Sorting) (ha : C a v t) (hb : C b w u) where
      module _ (k : ℕ) (env : List ℕ) (reach : ℕ) (shapes : List Shape) (scope : List Sort) (s : Sort)
          (are : Are types σ η env shapes scope) (r : IsBit σ reach)
          (h : class_sort class.Logic (t scope) (u scope) ≡ Some s) where
        abbrev x : Piece ℕ
        x = a k env reach

        abbrev n : ℕ
        n = after k x

        -- what goes on after the left side, with a step that tells whether the right side is reached
        skip_covers : (op : BinaryOp) → binary_extra types op (v old shapes).shape (w old shapes).shape ≡ 0
            → gives op (v old shapes).shape.sort ≡ sort.Bool → (f : Piece ℕ)
            → (hx : IsCovered types σ η k x sort.Bool (v old shapes)) → IsFew types σ η (IsBit σ) n f 1
            → IsMade types σ η (after n f) (skipping b (after n f) env f.out x.out x.alive).steps
            → IsCovered types σ η k (joined x (joined f (skipping b (after n f) env f.out x.out x.alive))) s
            (visited types op v w old shapes)
        skip_covers op none result f hx hf m =
            let q = logic_parts (t scope) (u scope) s h in
            let p = v old shapes in
            let e = w old shapes in
            let z = skipping b (after n f) env f.out x.out x.alive in
            let hz = skip_few b w u hb (after n f) env f.out x.out x.alive shapes scope are hf.out hx.alive
            (bit_has p.shape.height x.out hx.out) q.1 m in
            let few = hx.few in
            let extra = binary_extra types op p.shape e.shape in
            let one_is = cost_of_both (p.events ++ e.events) (node extra) in
            let two_is = cost_of_both p.events e.events in
            let three = cost_of_node extra in
            covered types σ η k (joined x (joined f z)) s (visited types op v w old shapes)
            (L k x + (1 + 2 * cost e.events)) (result ∙ q.2)
            (subst (λ c. IsFew types σ η (H c 0) k (joined x (joined f z)) (L k x + (1 + 2 * cost e.events))) q.2
            (joined_few types σ η (H sort.Bool 0) k x (joined f z) (L k x) _ (le_same (L k x))
            (joined_few types σ η (H sort.Bool 0) n f z 1 (2 * cost e.events) hf.few hz))) (omega arith)

      and_covers : (asked check : Option CheckId) → C (binary asked AndAlso a b check) (visited types AndAlso v w)
          (λ scope. class_sort class.Logic (t scope) (u scope))
      and_covers asked check k env reach shapes scope s are r h m =
          let q = logic_parts (t scope) (u scope) s h in
          let c = a k env reach in
          let i = after k c in
          let f = when i c.alive c.out in
          let z = skipping b (after i f) env i c.out c.alive in
          let mf = made_right types σ η k c (joined f z) m in
          skip_covers k env reach shapes scope s are r h AndAlso refl refl f
          (ha k env reach shapes scope sort.Bool are r q.0 (made_left types σ η k c (joined f z) m))
          (when_few types σ η i c.alive c.out (made_left types σ η i f z mf)) (made_right types σ η i f z mf)

      or_covers : (asked check : Option CheckId) → C (binary asked OrElse a b check) (visited types OrElse v w)
          (λ scope. class_sort class.Logic (t scope) (u scope))
      or_covers asked check k env reach shapes scope s are r h m =
          let q = logic_parts (t scope) (u scope) s h in
          let c = a k env reach in
          let i = after k c in
          let f = unless i c.alive c.out in
          let z = skipping b (after i f) env (suc i) c.out c.alive in
          let mf = made_right types σ η k c (joined f z) m in
          skip_covers k env reach shapes scope s are r h OrElse refl refl f
          (ha k env reach shapes scope sort.Bool are r q.0 (made_left types σ η k c (joined f z) m))
          (unless_few types σ η i c.alive c.out (made_left types σ η i f z mf)) (made_right types σ η i f z mf)

    pub binary_covers : (asked : Option CheckId) (op : BinaryOp) (check : Option CheckId) (a b : Compiling)
        (v w : Visiting) (t u : Sorting) → C a v t → C b w u
        → C (binary asked op a b check) (visited types op v w) (λ scope. binary_sort op (t scope) (u scope))
    binary_covers asked AndAlso check a b v w t u ha hb = and_covers a b v w t u ha hb asked check
    binary_covers asked OrElse check a b v w t u ha hb = or_covers a b v w t u ha hb asked check
    binary_covers asked Div check a b v w t u ha hb = quotient_covers Div a b v w t u ha hb asked check
    binary_covers asked Rem check a b v w t u ha hb = quotient_covers Rem a b v w t u ha hb asked check
    binary_covers asked op check a b v w t u ha hb = plain_covers op a b v w t u ha hb
