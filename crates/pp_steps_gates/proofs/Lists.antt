-- Expressions in a row, constructors, fields and calls: their steps take at most twice what their visits cost.
use Rattle.std.proofs.Common.{◌≡◌, ℕ, ◌+◌, ◌*◌, ◌-◌, ◌≤◌, nat_eq, true, false, if◌then◌else◌, List, [], ◌∷◌, ◌++◌, map}
use Rattle.std.proofs.Common.{length, Option, Some, None, sym, ap, ◌∙◌, subst, arith, append_assoc, append-nil}
use Rattle.std.proofs.lemmas.Option.{same_Some}
use Rattle.std.proofs.Math.Nat.{le-min}
use Rattle.std.specs.Prelude.{slice_get}
use Rattle.pp_prog.specs.declared.expr.Function.{Function}
use Rattle.pp_prog.specs.declared.id.CheckId.{CheckId}
use Rattle.pp_prog.specs.declared.id.CtorId.{CtorId}
use Rattle.pp_prog.specs.declared.id.DataId.{DataId}
use Rattle.pp_prog.specs.declared.id.FunctionId.{FunctionId}
use Rattle.pp_prog.specs.declared.sort.Sort.{Sort}
use Rattle.pp_prog.specs.declared.sort.Sort.TheVariants as sort
use Rattle.pp_prog.specs.declared.types.Ctor.{Ctor}
use Rattle.pp_prog.specs.declared.types.Datatype.{Datatype}
use Rattle.pp_prog.specs.declared.types.TypeTable.{TypeTable}
use Rattle.pp_prog.specs.ExprSorts.{Sorting, a_tree, call_sort, field_of_ctor, field_of_data, field_sort, sorts_in}
use Rattle.pp_prog.specs.ExprSorts.{tree_sort}
use Rattle.pp_prog.specs.Results.{field_result, fields_of_ctor, first_ctor, or_int, sort_at, tree_result}
use Rattle.pp_prog.specs.Sizes.{height_at}
use Rattle.pp_prog.specs.Sorts.{param_sorts}
use Rattle.pp_prog.specs.Values.{greatest}
use Rattle.pp_estimate.specs.declared.shape.Shape.{Shape}
use Rattle.pp_estimate.specs.Cut.{cut, top}
use Rattle.pp_estimate.specs.Events.{Event, called, cost}
use Rattle.pp_estimate.specs.Visits.{Calls, Visit, Visiting, all_events, look_at, node, part, shape, shape_of, tallest}
use Rattle.pp_estimate.specs.Visits.{visit, visits}
use Rattle.pp_estimate_laws.proofs.Growth.{cost_of_both}
use Rattle.pp_estimate_laws.proofs.Numbers.{le_same}
use Rattle.pp_estimate_laws.proofs.Sizes.{height_grows}
use Rattle.pp_prog.proofs.PartSorts.{call_sort_is, tree_sort_is, tree_then}
use Rattle.pp_steps.specs.declared.step.Step.TheVariants as steps
use Rattle.pp_steps.specs.Compile.{Compiling, Site, all, all_from, one}
use Rattle.pp_steps.specs.Gates.{Heights}
use Rattle.pp_steps.specs.Piece.{Piece, after, bind, joined}
use Rattle.pp_steps.specs.Sorted.{Constructs, SelectsOnly, Sorts}
use Rattle.pp_steps_gates.proofs.Pieces.{Has, IsBit, IsMade, joined_few, load, load_of_both, made_left, made_right}
use Rattle.pp_steps_gates.proofs.Pieces.{one_few}
use Rattle.pp_steps_gates.proofs.Scopes.{Are, Covers, IsOf, are_as_high, cost_of_look, cost_of_node, covered}
use Rattle.pp_steps_gates.proofs.Scopes.{covered_of}
use Rattle.pp_steps_gates.proofs.Aligned.{Aligned, aligned_join}

pub same_data : (a b : DataId) (s : Sort) → s ≡ sort.Tree a → s ≡ sort.Tree b → a ≡ b
same_data a b s h g = cc

-- the field of a datatype with one constructor
pub field_of_only : (ctors : List Ctor) (o : Option Datatype) (k : ℕ) (s : Sort) → field_of_data ctors o k ≡ Some s
    → sort_at (fields_of_ctor (first_ctor ctors o)) k ≡ s
field_of_only ctors None k s e = let no : None ≡ Some s = e in cc
field_of_only ctors (Some t) k s e = by (nat_eq t.count 1) (slice_get ctors t.first.0) e
  where
    by : (b : _) (o : Option Ctor) → (if b then field_of_ctor o k else None) ≡ Some s → sort_at (fields_of_ctor o) k ≡ s
    by false o e = let no : None ≡ Some s = e in cc
    by true None e = let no : None ≡ Some s = e in cc
    by true (Some c) e = ap or_int e

module _ (types : TypeTable) (σ : Sorts) (η : Heights) (old : List Shape) where
  abbrev C : Compiling → Visiting → Sorting → Type 0
  C = Covers types σ η old

  abbrev L : {A : Type 0} → ℕ → Piece A → ℕ
  L = load types σ η

  abbrev H : Sort → ℕ → ℕ → Type 0
  H = Has types σ η

  -- ---- expressions in a row

  -- The piece begins at number k: its outcomes are of these shapes and sorts, and it takes at most twice what the
  -- events cost, less a node's weight for each of n expressions.
  pub record AreCovered (k : ℕ) (x : Piece (List ℕ)) (n : ℕ) (hs : List Shape) (ss : List Sort)
      (es : List Event) : Type 0 where
    pub out : Are types σ η x.out hs ss
    pub alive : IsBit σ x.alive
    pub few : L k x + 64 * n ≤ 2 * cost es

  pub all_covered : (ms : List Compiling) (vs : List Visiting) (ts : List Sorting) → Aligned C ms vs ts
      → (done : List ℕ) (dh : List Shape) (ds : List Sort) → Are types σ η done dh ds
      → (k : ℕ) (env : List ℕ) (reach : ℕ) (shapes : List Shape) (scope ss : List Sort)
      → Are types σ η env shapes scope → IsBit σ reach → sorts_in scope ts ≡ map Some ss
      → IsMade types σ η k (all_from done ms k env reach).steps
      → AreCovered k (all_from done ms k env reach) (length ms) (dh ++ map shape_of (visits vs old shapes)) (ds ++ ss)
      (all_events (visits vs old shapes))
  all_covered [] [] [] h done dh ds d k env reach shapes scope [] are r e m = record {
    out = subst (λ l. Are types σ η done l (ds ++ [])) (sym (append-nil dh))
        (subst (λ l. Are types σ η done dh l) (sym (append-nil ds)) d);
    alive = r;
    few = omega arith;
  }
  all_covered [] [] [] h done dh ds d k env reach shapes scope (s ∷ ss) are r e m =
      let no : [] ≡ Some s ∷ map Some ss = e in cc
  all_covered (a ∷ ms) (v ∷ vs) (t ∷ ts) h done dh ds d k env reach shapes scope [] are r e m =
      let no : t scope ∷ sorts_in scope ts ≡ [] = e in cc
  all_covered (a ∷ ms) (v ∷ vs) (t ∷ ts) h done dh ds d k env reach shapes scope (s ∷ ss) are r e m =
      let both : t scope ∷ sorts_in scope ts ≡ Some s ∷ map Some ss = e in
      let here : t scope ≡ Some s = cc in
      let rest : sorts_in scope ts ≡ map Some ss = cc in
      let x = a k env reach in
      let p = v old shapes in
      let n = after k x in
      let y = all_from (done ++ x.out ∷ []) ms n env x.alive in
      let hx = h.0 k env reach shapes scope s are r here (made_left types σ η k x y m) in
      let hy = all_covered ms vs ts h.1 (done ++ x.out ∷ []) (dh ++ p.shape ∷ []) (ds ++ s ∷ [])
      (aligned_join (IsOf types σ η) done dh ds (x.out ∷ []) (p.shape ∷ []) (s ∷ []) d
      (covered_of types σ η k x s p hx, tt))
      n env x.alive shapes scope ss are hx.alive rest (made_right types σ η k x y m) in
      let hs = map shape_of (visits vs old shapes) in
      let few_x = hx.few in
      let few_y = hy.few in
      let sum_is = load_of_both types σ η k x y in
      let cost_is = cost_of_both p.events (all_events (visits vs old shapes)) in
      record {
        out = subst (λ l. Are types σ η y.out l (ds ++ s ∷ ss)) (append_assoc dh (p.shape ∷ []) hs)
            (subst (λ l. Are types σ η y.out ((dh ++ p.shape ∷ []) ++ hs) l) (append_assoc ds (s ∷ []) ss) hy.out);
        alive = hy.alive;
        few = omega arith;
      }
  all_covered ms vs ts h done dh ds d k env reach shapes scope ss are r e m = absurd h

  -- ---- constructors and fields

  pub construct_covers : ((i : ℕ) → η i ≤ top) → (c : CtorId) (ms : List Compiling) (vs : List Visiting)
      (ts : List Sorting) → Aligned C ms vs ts
      → C (λ k env reach. bind k (all ms k env reach) (λ n xs alive. one (steps.Construct c xs) n alive))
      (λ o env. let s = tree_result (slice_get types.ctors c.0) in
      visit (shape s (cut (tallest (map shape_of (visits vs o env)) + 1)))
      (all_events (visits vs o env) ++ look_at s ++ node 0))
      (λ scope. tree_sort (slice_get types.ctors c.0) (sorts_in scope ts))
  construct_covers low c ms vs ts h k env reach shapes scope s are r e m =
      let q = tree_sort_is (slice_get types.ctors c.0) (sorts_in scope ts) s e in
      let x = all ms k env reach in
      let n = after k x in
      let y = one (steps.Construct c x.out) n x.alive in
      let ps = visits vs old shapes in
      let hs = map shape_of ps in
      let hx = all_covered ms vs ts h [] [] [] tt k env reach shapes scope q.0.fields are r q.2
      (made_left types σ η k x y m) in
      let my = made_right types σ η k x y m in
      let made : Constructs types σ c x.out (σ n) = my.0.0 in
      let same : made.ctor ≡ q.0 = same_Some made.ctor q.0 (sym made.stands ∙ q.1) in
      let is : σ n ≡ s = made.result ∙ ap (λ (z : Ctor). sort.Tree z.of) same ∙ q.3 in
      let tall = are_as_high types σ η x.out hs q.0.fields hx.out in
      let height_is : η n ≡ 1 + greatest (map η x.out) = my.0.1 in
      let up : η n ≤ tallest hs + 1 = omega arith in
      let t = tree_result (slice_get types.ctors c.0) in
      let few = hx.few in
      let one_is = cost_of_both (all_events ps ++ look_at t) (node 0) in
      let two_is = cost_of_both (all_events ps) (look_at t) in
      let three = cost_of_look t in
      let four = cost_of_node 0 in
      covered types σ η k (joined x y) s
      (visit (shape t (cut (tallest hs + 1))) (all_events ps ++ look_at t ++ node 0)) (L k x + 0)
      (ap tree_result q.1 ∙ q.3)
      (joined_few types σ η (H s (cut (tallest hs + 1))) k x y (L k x) 0 (le_same (L k x))
      (one_few types σ η (H s (cut (tallest hs + 1))) (steps.Construct c x.out) n x.alive
      (record { sort = is; height = le-min up (low n) }) hx.alive)) (omega arith)

  pub field_covers : (functions : List Function) (i : ℕ) (a : Compiling) (v : Visiting) (t : Sorting) → C a v t
      → C (λ k env reach. bind k (a k env reach) (λ n x alive. one (steps.Field x i) n alive))
      (λ o env. visit (part (v o env).shape (field_result types (v o env).shape.sort i))
      ((v o env).events ++ look_at (v o env).shape.sort ++ node 0))
      (λ scope. a_tree (t scope) (λ d. field_sort types functions d i))
  field_covers functions i a v t ha k env reach shapes scope s are r h m =
      let q = tree_then (t scope) (λ d. field_sort types functions d i) s h in
      let x = a k env reach in
      let n = after k x in
      let y = one (steps.Field x.out i) n x.alive in
      let p = v old shapes in
      let hx = ha k env reach shapes scope (sort.Tree q.0) are r q.1 (made_left types σ η k x y m) in
      let my = made_right types σ η k x y m in
      let made : SelectsOnly types σ x.out i (σ n) = my.0.0 in
      let same : made.datatype ≡ q.0 = same_data made.datatype q.0 (σ x.out) made.operand hx.out.sort in
      let found : field_sort types functions q.0 i ≡ Some (σ n) =
      subst (λ d. field_sort types functions d i ≡ Some (σ n)) same made.field in
      let is : σ n ≡ s = same_Some (σ n) s (sym found ∙ q.2) in
      let read : field_result types p.shape.sort i ≡ s =
      ap (λ z. field_result types z i) hx.shape ∙ field_of_only types.ctors (slice_get types.datatypes q.0.0) i s q.2 in
      let height_is : η n ≡ height_at (η x.out - 1) (σ n) = my.0.1 in
      let below = hx.out.height in
      let less : η x.out - 1 ≤ p.shape.height - 1 = omega arith in
      let up : η n ≤ height_at (p.shape.height - 1) (field_result types p.shape.sort i) =
      subst (λ z. η n ≤ height_at (p.shape.height - 1) z) (is ∙ sym read)
      (subst (λ z. z ≤ height_at (p.shape.height - 1) (σ n)) (sym height_is)
      (height_grows (η x.out - 1) (p.shape.height - 1) (σ n) less)) in
      let few = hx.few in
      let w = part p.shape (field_result types p.shape.sort i) in
      let one_is = cost_of_both (p.events ++ look_at p.shape.sort) (node 0) in
      let two_is = cost_of_both p.events (look_at p.shape.sort) in
      let three = cost_of_look p.shape.sort in
      let four = cost_of_node 0 in
      covered types σ η k (joined x y) s (visit w (p.events ++ look_at p.shape.sort ++ node 0)) (L k x + 0) read
      (joined_few types σ η (H s w.height) k x y (L k x) 0 (le_same (L k x))
      (one_few types σ η (H s w.height) (steps.Field x.out i) n x.alive
      (record { sort = is; height = up }) hx.alive)) (omega arith)

  -- ---- calls

  -- The piece of a call begins at number k: its outcome has the sort and at most the height of the visit's shape, and
  -- it takes at most twice what the visit costs.
  pub record IsAnswered (k : ℕ) (x : Piece ℕ) (s : Sort) (v : Visit) : Type 0 where
    pub shape : v.shape.sort ≡ s
    pub out : H s v.shape.height x.out
    pub alive : IsBit σ x.alive
    pub few : L k x ≤ 2 * cost v.events

  -- the steps of a call of a function that stands, on arguments of its parameters' sorts, take at most so much
  abbrev pub Answers : List Function → Site → Calls → Type 0
  Answers functions site calls =
      (k reach : ℕ) (g : FunctionId) (pre down : Option CheckId) (args : List ℕ) (hs : List Shape) (f : Function)
      → slice_get functions g.0 ≡ Some f → Are types σ η args hs (param_sorts f.params) → IsBit σ reach
      → IsMade types σ η k (site k reach g pre down args).steps
      → IsAnswered k (site k reach g pre down args) f.result (calls g down old hs)

  pub call_covers : (functions : List Function) (site : Site) (calls : Calls) → Answers functions site calls
      → (g : FunctionId) (pre down : Option CheckId) (ms : List Compiling) (vs : List Visiting) (ts : List Sorting)
      → Aligned C ms vs ts
      → C (λ k env reach. bind k (all ms k env reach) (λ n xs alive. site n alive g pre down xs))
      (λ o env. let ps = visits vs o env in
      let v = calls g down o (map shape_of ps) in
      visit v.shape (all_events ps ++ node 0 ++ called g ∷ v.events))
      (λ scope. call_sort (slice_get functions g.0) (sorts_in scope ts))
  call_covers functions site calls its g pre down ms vs ts h k env reach shapes scope s are r e m =
      let q = call_sort_is (slice_get functions g.0) (sorts_in scope ts) s e in
      let x = all ms k env reach in
      let n = after k x in
      let y = site n x.alive g pre down x.out in
      let ps = visits vs old shapes in
      let hs = map shape_of ps in
      let hx = all_covered ms vs ts h [] [] [] tt k env reach shapes scope (param_sorts q.0.params) are r q.2
      (made_left types σ η k x y m) in
      let v = calls g down old hs in
      let hy = its n x.alive g pre down x.out hs q.0 q.1 hx.out hx.alive (made_right types σ η k x y m) in
      let few_x = hx.few in
      let few_y = hy.few in
      let one_is = cost_of_both (all_events ps ++ node 0) (called g ∷ v.events) in
      let two_is = cost_of_both (all_events ps) (node 0) in
      let three = cost_of_node 0 in
      covered types σ η k (joined x y) s (visit v.shape (all_events ps ++ node 0 ++ called g ∷ v.events))
      (L k x + L n y) (hy.shape ∙ q.3)
      (joined_few types σ η (H s v.shape.height) k x y (L k x) (L n y) (le_same (L k x)) (record {
        out =
            subst (λ z. H z v.shape.height y.out) q.3 hy.out;
        alive = hy.alive;
        few = le_same (L n y);
      })) (omega arith)
