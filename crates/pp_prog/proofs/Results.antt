-- Where an expression has a sort, it is the one that is read off its form.
use Rattle.std.proofs.Common.{◌≡◌, ℕ, nat_eq, Bool, true, false, if◌then◌else◌, List, [], ◌∷◌, ◌++◌, map, Option, Some}
use Rattle.std.proofs.Common.{None, slice_get, refl, sym, ap, ◌∙◌}
use Rattle.std.proofs.lemmas.Option.{same_Some}
use Rattle.pp_prog.proofs.Induction.{case_under, each_expr, each_pattern, pattern_under, under}
use Rattle.pp_list.proofs.With.{With, elements}
use Rattle.pp_tree.specs.declared.operator.BinaryOp.{BinaryOp}
use Rattle.pp_operators.specs.Classes.{class_of}
use Rattle.pp_prog.specs.declared.expr.Case.{Case}
use Rattle.pp_prog.specs.declared.expr.Expr.{Expr}
use Rattle.pp_prog.specs.declared.expr.Expr.TheFolds.{fold-roll-Case, fold-roll-Expr, map-Case}
use Rattle.pp_prog.specs.declared.expr.Expr.TheFolds.{map-Expr}
use Rattle.pp_prog.specs.declared.expr.Expr.TheOpen as layer
use Rattle.pp_prog.specs.declared.expr.Expr.TheViews.{roll-Case, roll-Expr}
use Rattle.pp_prog.specs.declared.expr.Function.{Function}
use Rattle.pp_prog.specs.declared.expr.Pattern.{Pattern}
use Rattle.pp_prog.specs.declared.expr.Pattern.TheFolds.{fold-roll-Pattern, map-Pattern}
use Rattle.pp_prog.specs.declared.expr.Pattern.TheOpen as pattern
use Rattle.pp_prog.specs.declared.expr.Pattern.TheViews.{roll-Pattern}
use Rattle.pp_tree.specs.declared.operator.UnaryOp.{UnaryOp}
use Rattle.pp_tree.specs.declared.operator.UnaryOp.TheVariants.{Neg, Not, Flip}
use Rattle.pp_prog.specs.declared.id.DataId.{DataId}
use Rattle.pp_prog.specs.declared.sort.Sort.{Sort}
use Rattle.pp_prog.specs.declared.sort.Sort.TheVariants as sort
use Rattle.pp_prog.specs.declared.types.Ctor.{Ctor}
use Rattle.pp_prog.specs.declared.types.Datatype.{Datatype}
use Rattle.pp_prog.specs.declared.types.TypeTable.{TypeTable}
use Rattle.pp_prog.specs.ExprSorts.{Arm, Sorting, a_bool, a_tree, alike, an_int, arm_sort, arm_step, arm_with}
use Rattle.pp_prog.specs.ExprSorts.{arms_like, arms_sort, binary_sort, call_sort, case_sorts, field_of_ctor}
use Rattle.pp_prog.specs.ExprSorts.{field_of_data, field_sort, gives, guarded_sort, match_sorts, sort_if, sort_of}
use Rattle.pp_prog.specs.ExprSorts.{sort_step, then_sort, tree_sort, unary_sort}
use Rattle.pp_prog.specs.PatternSorts.{Binding, bind_fields, bind_step, bind_tree, binds_none, bound_sorts, then_bind}
use Rattle.pp_prog.specs.Sorts.{is_int, param_sorts, same_sort}
use Rattle.pp_prog.specs.Results.{Binds, Body, Result, bind_each, binds, binds_step, body, body_step, call_result}
use Rattle.pp_prog.specs.Results.{field_result, fields_of_ctor, first_ctor, first_result}
use Rattle.pp_prog.specs.Results.{or_int, result_of, result_step, sort_at, tree_result, unary_result}
use Rattle.pp_prog.proofs.PartSorts.{operands}

if_sort : (b : Bool) (t s : Sort) → sort_if b t ≡ Some s → t ≡ s
if_sort true t s e = same_Some t s e
if_sort false t s e = let no : None ≡ Some s = e in cc

after_int : (a : Option Sort) (o : Option Sort) (s : Sort) → an_int a o ≡ Some s → o ≡ Some s
after_int None o s e = let no : None ≡ Some s = e in cc
after_int (Some sort.Int) o s e = e
after_int (Some sort.Bool) o s e = let no : None ≡ Some s = e in cc
after_int (Some (sort.Tree d)) o s e = let no : None ≡ Some s = e in cc

after_bool : (a : Option Sort) (o : Option Sort) (s : Sort) → a_bool a o ≡ Some s → o ≡ Some s
after_bool None o s e = let no : None ≡ Some s = e in cc
after_bool (Some sort.Int) o s e = let no : None ≡ Some s = e in cc
after_bool (Some sort.Bool) o s e = e
after_bool (Some (sort.Tree d)) o s e = let no : None ≡ Some s = e in cc

left_alike : (a b : Option Sort) (s : Sort) → alike a b ≡ Some s → a ≡ Some s
left_alike None b s e = let no : None ≡ Some s = e in cc
left_alike (Some t) None s e = let no : None ≡ Some s = e in cc
left_alike (Some t) (Some u) s e = ap Some (if_sort _ t s e)

pub unary_is : (op : UnaryOp) (a : Option Sort) (s : Sort) → unary_sort op a ≡ Some s → unary_result op ≡ s
unary_is Neg a s e = same_Some sort.Int s (after_int a (Some sort.Int) s e)
unary_is Not a s e = same_Some sort.Bool s (after_bool a (Some sort.Bool) s e)
unary_is Flip a s e = same_Some sort.Int s (after_int a (Some sort.Int) s e)

-- where the left operand's sort is read off rightly, so is the result's
pub binary_is : (op : BinaryOp) (a b : Option Sort) (r s : Sort) → ((t : Sort) → a ≡ Some t → r ≡ t)
    → binary_sort op a b ≡ Some s → gives op r ≡ s
binary_is op a b r s left e =
    let o = operands (class_of op) a b s e in ap (gives op) (left o.left o.is_left) ∙ o.given

data_is : (ctors : List Ctor) (t : Datatype) (k : ℕ) (s : Sort) → field_of_data ctors (Some t) k ≡ Some s
    → sort_at (fields_of_ctor (slice_get ctors t.first.0)) k ≡ s
data_is ctors t k s e = by (nat_eq t.count 1) (slice_get ctors t.first.0) e
  where
    by : (b : Bool) (o : Option Ctor) → (if b then field_of_ctor o k else None) ≡ Some s
        → sort_at (fields_of_ctor o) k ≡ s
    by false o e = let no : None ≡ Some s = e in cc
    by true None e = let no : None ≡ Some s = e in cc
    by true (Some c) e = ap or_int e

field_is : (types : TypeTable) (functions : List Function) (d : DataId) (k : ℕ) (s : Sort)
    → field_sort types functions d k ≡ Some s → field_result types (sort.Tree d) k ≡ s
field_is types functions d k s e = by (slice_get types.datatypes d.0) e
  where
    by : (o : Option Datatype) → field_of_data types.ctors o k ≡ Some s
        → sort_at (fields_of_ctor (first_ctor types.ctors o)) k ≡ s
    by None e = let no : None ≡ Some s = e in cc
    by (Some t) e = data_is types.ctors t k s e

tree_is : (o : Option Ctor) (ss : List (Option Sort)) (s : Sort) → tree_sort o ss ≡ Some s → tree_result o ≡ s
tree_is None ss s e = let no : None ≡ Some s = e in cc
tree_is (Some c) ss s e = if_sort (match_sorts ss c.fields) (sort.Tree c.of) s e

call_is : (o : Option Function) (ss : List (Option Sort)) (s : Sort) → call_sort o ss ≡ Some s → call_result o ≡ s
call_is None ss s e = let no : None ≡ Some s = e in cc
call_is (Some f) ss s e = if_sort (match_sorts ss (param_sorts f.params)) f.result s e

-- the sorts that a pattern binds
module _ (ctors : List Ctor) where
  abbrev R : Pattern → Type 0
  R p = (s : Sort) (l : List Sort) → bound_sorts ctors p s ≡ Some l → binds ctors p s ≡ l

  fields_bind : (ps : List (With R)) (ss : List Sort) (l : List Sort)
      → bind_fields (map (bound_sorts ctors) (elements ps)) ss ≡ Some l
      → bind_each (map (binds ctors) (elements ps)) ss ≡ l
  fields_bind [] [] l e = cc
  fields_bind [] (s ∷ ss) l e = let no : None ≡ Some l = e in cc
  fields_bind (p ∷ ps) [] l e = let no : None ≡ Some l = e in cc
  fields_bind (p ∷ ps) (s ∷ ss) l e =
      by (bound_sorts ctors p.0 s) (bind_fields (map (bound_sorts ctors) (elements ps)) ss) (p.1 s)
      (fields_bind ps ss) e
    where
      by : (a b : Option (List Sort)) → ((x : List Sort) → a ≡ Some x → binds ctors p.0 s ≡ x)
          → ((x : List Sort) → b ≡ Some x → bind_each (map (binds ctors) (elements ps)) ss ≡ x)
          → then_bind a (λ here. then_bind b (λ more. Some (here ++ more))) ≡ Some l
          → binds ctors p.0 s ++ bind_each (map (binds ctors) (elements ps)) ss ≡ l
      by None b f g e = let no : None ≡ Some l = e in cc
      by (Some here) None f g e = let no : None ≡ Some l = e in cc
      by (Some here) (Some more) f g e =
          let same : here ++ more ≡ l = cc in
          ap (λ (x : List Sort). x ++ bind_each (map (binds ctors) (elements ps)) ss) (f here refl)
          ∙ ap (λ (x : List Sort). here ++ x) (g more refl) ∙ same

  none_bound : (b : Bool) (l : List Sort) → binds_none b ≡ Some l → [] ≡ l
  none_bound true l e = cc
  none_bound false l e = let no : None ≡ Some l = e in cc

  pattern_level : (y : pattern.Pattern-F (With R)) (s : Sort) (l : List Sort)
      → bind_step ctors (map-Pattern Pattern Binding (bound_sorts ctors) (pattern_under y)) s ≡ Some
      l → binds_step ctors (map-Pattern Pattern Binds (binds ctors) (pattern_under y)) s ≡ l
  pattern_level pattern.Any s l e = cc
  pattern_level (pattern.Bind inner) s l e = by (bound_sorts ctors inner.0 s) (inner.1 s) e
    where
      by : (o : Option (List Sort)) → ((x : List Sort) → o ≡ Some x → binds ctors inner.0 s ≡ x)
          → then_bind o (λ more. Some (s ∷ more)) ≡ Some l → s ∷ binds ctors inner.0 s ≡ l
      by None f e = let no : None ≡ Some l = e in cc
      by (Some more) f e =
          let same : s ∷ more ≡ l = cc in ap (λ (x : List Sort). s ∷ x) (f more refl) ∙ same
  pattern_level (pattern.Int n) s l e = none_bound _ l e
  pattern_level (pattern.Bool b) s l e = none_bound _ l e
  pattern_level (pattern.Ctor c ps) s l e = by (slice_get ctors c.0) e
    where
      test : (b : Bool) (o : Option (List Sort)) → (if b then o else None) ≡ Some l → o ≡ Some l
      test true o e = e
      test false o e = let no : None ≡ Some l = e in cc

      by : (k : Option Ctor) → bind_tree k (map (bound_sorts ctors) (elements ps)) s ≡ Some l
          → bind_each (map (binds ctors) (elements ps)) (fields_of_ctor k) ≡ l
      by None e = let no : None ≡ Some l = e in cc
      by (Some k) e =
          fields_bind ps k.fields l
          (test (same_sort (sort.Tree k.of) s)
          (bind_fields (map (bound_sorts ctors) (elements ps)) k.fields) e)

  at_pattern : (y : pattern.Pattern-F (With R)) → R (roll-Pattern (pattern_under y))
  at_pattern y s l e =
      let z = pattern_under y in
      ap (λ (f : Binds). f s) (fold-roll-Pattern Binds (binds_step ctors) z)
      ∙ pattern_level y s l (ap (λ (f : Binding). f s) (sym (fold-roll-Pattern Binding (bind_step ctors) z)) ∙ e)

  pub binds_are : (p : Pattern) → R p
  binds_are = each_pattern R at_pattern

module _ (types : TypeTable) (functions : List Function) where
  abbrev sorting : Case → Arm
  sorting = case_sorts types functions

  abbrev P : Expr → Type 0
  P e = (scope : List Sort) (s : Sort) → sort_of types functions e scope ≡ Some s
      → result_of types functions e scope ≡ s

  abbrev Q : Case → Type 0
  Q k = (m : Sort) (scope : List Sort) (s : Sort) → arm_sort types functions (sorting k) m scope ≡ Some s
      → (body types functions k).1 (scope ++ binds types.ctors (body types functions k).0 m) ≡ s

  -- the first case has the sort of all
  first_like : (arms : List Arm) (m : Sort) (scope : List Sort) (t : Option Sort) (s : Sort)
      → arms_like types functions t arms m scope ≡ Some s → t ≡ Some s
  first_like [] m scope t s e = e
  first_like (a ∷ arms) m scope t s e =
      left_alike t (arm_sort types functions a m scope) s
      (first_like arms m scope (alike t (arm_sort types functions a m scope)) s e)

  first_is : (ks : List (With Q)) (m : Sort) (scope : List Sort) (s : Sort)
      → arms_sort types functions (map sorting (elements ks)) m scope ≡ Some s
      → first_result types functions (map (body types functions) (elements ks)) m scope ≡ s
  first_is [] m scope s e = let no : None ≡ Some s = e in cc
  first_is (k ∷ ks) m scope s e =
      k.1 m scope s (first_like (map sorting (elements ks)) m scope
      (arm_sort types functions (sorting k.0) m scope) s e)

  tree_of : (o : Option Sort) (go : DataId → Option Sort) (s : Sort) → a_tree o go ≡ Some s → (d : DataId)
      × (o ≡ Some (sort.Tree d)) × (go d ≡ Some s)
  tree_of None go s e = let no : None ≡ Some s = e in cc
  tree_of (Some sort.Int) go s e = let no : None ≡ Some s = e in cc
  tree_of (Some sort.Bool) go s e = let no : None ≡ Some s = e in cc
  tree_of (Some (sort.Tree d)) go s e = (d, refl, e)

  then_of : (o : Option Sort) (go : Sort → Option Sort) (s : Sort) → then_sort o go ≡ Some s → (t : Sort) × (o ≡ Some t)
      × (go t ≡ Some s)
  then_of None go s e = let no : None ≡ Some s = e in cc
  then_of (Some t) go s e = (t, refl, e)

  level : (y : layer.Expr-F (With P) (With Q)) (scope : List Sort) (s : Sort)
      → sort_step types functions (map-Expr Expr Case Sorting Arm (sort_of types functions) sorting (under y)) scope ≡
      Some s → result_step types functions
      (map-Expr Expr Case Result Body (result_of types functions) (body types functions) (under y)) scope ≡ s
  level (layer.Int n) scope s e = if_sort (is_int n) sort.Int s e
  level (layer.Bool b) scope s e = same_Some sort.Bool s e
  level (layer.Var i) scope s e = ap or_int e
  level (layer.Unary op a) scope s e = unary_is op (sort_of types functions a.0 scope) s e
  level (layer.Binary op a b check) scope s e =
      binary_is op (sort_of types functions a.0 scope) (sort_of types functions b.0 scope)
      (result_of types functions a.0 scope) s (a.1 scope) e
  level (layer.Construct c args) scope s e = tree_is (slice_get types.ctors c.0) _ s e
  level (layer.Field x k) scope s e =
      let t = tree_of (sort_of types functions x.0 scope) (λ d. field_sort types functions d k) s e in
      ap (λ (z : Sort). field_result types z k) (x.1 scope (sort.Tree t.0) t.1) ∙ field_is types functions t.0 k s t.2
  level (layer.If c a b) scope s e =
      a.1 scope s (left_alike (sort_of types functions a.0 scope) (sort_of types functions b.0 scope) s
      (after_bool (sort_of types functions c.0 scope)
      (alike (sort_of types functions a.0 scope) (sort_of types functions b.0 scope)) s e))
  level (layer.Match x ks check) scope s e =
      let t = then_of (sort_of types functions x.0 scope)
      (λ m. arms_sort types functions (map sorting (elements ks)) m scope) s e in
      ap (λ (z : Sort). first_result types functions (map (body types functions) (elements ks)) z scope)
      (x.1 scope t.0 t.1) ∙ first_is ks t.0 scope s t.2
  level (layer.Val a b) scope s e =
      let t = then_of (sort_of types functions a.0 scope) (λ m. sort_of types functions b.0 (scope ++ m ∷ [])) s e in
      ap (λ (z : Sort). result_of types functions b.0 (scope ++ z ∷ [])) (a.1 scope t.0 t.1)
      ∙ b.1 (scope ++ t.0 ∷ []) s t.2
  level (layer.Assert check c b) scope s e =
      b.1 scope s (after_bool (sort_of types functions c.0 scope) (sort_of types functions b.0 scope) s e)
  level (layer.Call g args pre measure) scope s e = call_is (slice_get functions g.0) _ s e

  at_level : (y : layer.Expr-F (With P) (With Q)) → P (roll-Expr (under y))
  at_level y scope s e =
      let z = under y in
      ap (λ (f : Result). f scope) (fold-roll-Expr Result Body (result_step types functions) body_step z)
      ∙ level y scope s (ap (λ (f : Sorting). f scope)
      (sym (fold-roll-Expr Sorting Arm (sort_step types functions) arm_step z)) ∙ e)

  guarded_is : (g : Option Sorting) (scope : List Sort) (o : Option Sort) (s : Sort) → guarded_sort g scope o ≡ Some s
      → o ≡ Some s
  guarded_is None scope o s e = e
  guarded_is (Some g) scope o s e = after_bool (g scope) o s e

  at_parts : (p : Pattern) (o : Option (With P)) (b : With P) → let z =
      case_under Q (record { pattern = p; guard = o; body = b }) in
      (m : Sort) (scope : List Sort) (s : Sort)
      → arm_sort types functions (arm_step (map-Case Expr Case Sorting Arm (sort_of types functions) sorting z)) m
      scope ≡ Some s
      → (body_step (map-Case Expr Case Result Body (result_of types functions) (body types functions) z)).1
      (scope ++ binds types.ctors
      (body_step (map-Case Expr Case Result Body (result_of types functions) (body types functions) z)).0 m) ≡ s
  at_parts p None b m scope s e = by (bound_sorts types.ctors p m) (binds_are types.ctors p m) e
    where
      by : (l : Option (List Sort)) → ((x : List Sort) → l ≡ Some x → binds types.ctors p m ≡ x)
          → arm_with (record { pattern = p; guard = None; body = sort_of types functions b.0 }) scope l ≡ Some s
          → result_of types functions b.0 (scope ++ binds types.ctors p m) ≡ s
      by None f e = let no : None ≡ Some s = e in cc
      by (Some x) f e = ap (λ (z : List Sort). result_of types functions b.0 (scope ++ z)) (f x refl)
          ∙ b.1 (scope ++ x) s e
  at_parts p (Some g) b m scope s e = by (bound_sorts types.ctors p m) (binds_are types.ctors p m) e
    where
      by : (l : Option (List Sort)) → ((x : List Sort) → l ≡ Some x → binds types.ctors p m ≡ x)
          → arm_with (record {
            pattern = p;
            guard = Some (sort_of types functions g.0);
            body =
                sort_of types functions b.0;
          }) scope l ≡ Some s
          → result_of types functions b.0 (scope ++ binds types.ctors p m) ≡ s
      by None f e = let no : None ≡ Some s = e in cc
      by (Some x) f e =
          ap (λ (z : List Sort). result_of types functions b.0 (scope ++ z)) (f x refl)
          ∙ b.1 (scope ++ x) s (after_bool (sort_of types functions g.0 (scope ++ x))
          (sort_of types functions b.0 (scope ++ x)) s e)

  at_case : (y : layer.Case-F (With P) (With Q)) → Q (roll-Case (case_under Q y))
  at_case y m scope s e =
      let z = case_under Q y in
      let one = fold-roll-Case Result Body (result_step types functions) body_step z in
      let two = fold-roll-Case Sorting Arm (sort_step types functions) arm_step z in
      ap (λ (b : Body). b.1 (scope ++ binds types.ctors b.0 m)) one
      ∙ at_parts y.pattern y.guard y.body m scope s
      (ap (λ (a : Arm). arm_sort types functions a m scope) (sym two) ∙ e)

  pub result_is : (e : Expr) (scope : List Sort) (s : Sort) → sort_of types functions e scope ≡ Some s
      → result_of types functions e scope ≡ s
  result_is = each_expr P Q at_level at_case
