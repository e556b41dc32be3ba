-- The equations of `constraints`, and that a value satisfies the constraints of a pattern exactly where it fits.
use Rattle.std.proofs.Common.{◌≡◌, ℕ, ℤ, Bool, true, false, ◌&&◌, List, [], ◌∷◌, map, Option, Some, None, is_some}
use Rattle.std.proofs.Common.{if◌then◌else◌, slice_get, nat_eq, refl, sym, ap, ◌∙◌}
use Rattle.std.proofs.Math.Bool.{and-true}
use Rattle.pp_list.proofs.With.{With, elements}
use Rattle.pp_prog.proofs.Induction.{each_pattern, pattern_under}
use Rattle.pp_prog.specs.declared.expr.Pattern.{Pattern}
use Rattle.pp_prog.specs.declared.expr.Pattern.TheFolds.{para-roll-Pattern, fold-roll-Pattern, map-Pattern}
use Rattle.pp_prog.specs.declared.expr.Pattern.TheOpen as pattern
use Rattle.pp_prog.specs.declared.expr.Pattern.TheViews.{roll-Pattern}
use Rattle.pp_prog.specs.declared.expr.Pattern.TheVariants.{Any, Bind, Int, Bool as Truth, Ctor, rolls-Any, rolls-Bind}
use Rattle.pp_prog.specs.declared.expr.Pattern.TheVariants.{rolls-Int, rolls-Bool, rolls-Ctor}
use Rattle.pp_prog.specs.declared.id.CtorId.{CtorId}
use Rattle.pp_prog.specs.declared.value.Value.{Value}
use Rattle.pp_prog.specs.declared.value.Value.TheOpen as value
use Rattle.pp_prog.specs.declared.value.Value.TheViews.{out-Value}
use Rattle.pp_prog.specs.Fits.{Fitting, bound_before, bound_both, fit, fit_bool, fit_fields, fit_int, fit_step}
use Rattle.pp_prog.specs.Fits.{fit_tree, fits, fits_if}
use Rattle.pp_cover.specs.declared.constraint.Head.{Head}
use Rattle.pp_cover.specs.declared.constraint.Head.TheVariants as head
use Rattle.pp_cover.specs.Constraint.{Constraining, constraint_of, constraint_step, constraints, row_fits, fit_all}
use Rattle.pp_cover.specs.Constraint.{same_head, head_of, fields_of}

abbrev pub pattern_of : Pattern × Constraining → Pattern
pattern_of p = p.0

pub firsts : (ps : List Pattern) → map pattern_of (map (λ p. (p, constraints p)) ps) ≡ ps
firsts [] = refl
firsts (p ∷ ps) = ap (λ l. p ∷ l) (firsts ps)

pub constraints_any : (j : ℕ) → constraints Any j ≡ []
constraints_any j =
    ap (λ p. constraints p j) (sym rolls-Any)
    ∙ ap (λ (f : Constraining). f j) (para-roll-Pattern Constraining constraint_step pattern.Any)

pub constraints_bind : (p : Pattern) (j : ℕ) → constraints (Bind p) j ≡ constraints p j
constraints_bind p j =
    ap (λ p. constraints p j) (sym (rolls-Bind p))
    ∙ ap (λ (f : Constraining). f j) (para-roll-Pattern Constraining constraint_step (pattern.Bind p))

pub constraints_int : (n : ℤ) (j : ℕ) →
    constraints (Int n) j ≡ record { column = j; head = head.Int n; fields = [] } ∷ []
constraints_int n j =
    ap (λ p. constraints p j) (sym (rolls-Int n))
    ∙ ap (λ (f : Constraining). f j) (para-roll-Pattern Constraining constraint_step (pattern.Int n))

pub constraints_bool : (b : Bool) (j : ℕ) →
    constraints (Truth b) j ≡ record { column = j; head = head.Bool b; fields = [] } ∷ []
constraints_bool b j =
    ap (λ p. constraints p j) (sym (rolls-Bool b))
    ∙ ap (λ (f : Constraining). f j) (para-roll-Pattern Constraining constraint_step (pattern.Bool b))

pub constraints_ctor : (c : CtorId) (ps : List Pattern) (j : ℕ) →
    constraints (Ctor c ps) j ≡ record { column = j; head = head.Tree c; fields = ps } ∷ []
constraints_ctor c ps j =
    ap (λ p. constraints p j) (sym (rolls-Ctor c ps))
    ∙ ap (λ (f : Constraining). f j) (para-roll-Pattern Constraining constraint_step (pattern.Ctor c ps))
    ∙ ap (λ qs. constraint_of (head.Tree c) qs j) (firsts ps)

pub ruleset constraint_equations =
    (constraints_any, constraints_bind, constraints_int, constraints_bool, constraints_ctor)

bound_some : (here : List Value) (more : Option (List Value)) → is_some (bound_before here more) ≡ is_some more
bound_some here None = refl
bound_some here (Some more) = refl

both_some : (a b : Option (List Value)) → is_some (bound_both a b) ≡ is_some a && is_some b
both_some None b = refl
both_some (Some here) b = bound_some here b

some_if : (b : Bool) → is_some (fits_if b) ≡ b
some_if true = refl
some_if false = refl

-- a list of values fits a list of patterns where each fits its own
fit_fields_all : (ps : List Pattern) (vs : List Value) → is_some (fit_fields (map fit ps) vs) ≡ fit_all ps vs
fit_fields_all [] [] = refl
fit_fields_all [] (v ∷ vs) = refl
fit_fields_all (p ∷ ps) [] = refl
fit_fields_all (p ∷ ps) (v ∷ vs) =
    both_some (fit p v) (fit_fields (map fit ps) vs) ∙ ap (λ b. fits p v && b) (fit_fields_all ps vs)

int_satisfied : (n : ℤ) (w : value.Value-F Value) →
    same_head (head.Int n) (head_of w) && fit_all [] (fields_of w) ≡ is_some (fit_int n w)
int_satisfied n (value.Int m) = and-true _ ∙ sym (some_if _)
int_satisfied n (value.Bool b) = refl
int_satisfied n (value.Tree c vs) = refl

bool_satisfied : (b : Bool) (w : value.Value-F Value) →
    same_head (head.Bool b) (head_of w) && fit_all [] (fields_of w) ≡ is_some (fit_bool b w)
bool_satisfied b (value.Int m) = refl
bool_satisfied b (value.Bool a) = and-true _ ∙ sym (some_if _)
bool_satisfied b (value.Tree c vs) = refl

tree_satisfied : (c : CtorId) (ps : List Pattern) (w : value.Value-F Value) →
    same_head (head.Tree c) (head_of w) && fit_all ps (fields_of w) ≡ is_some (fit_tree c (map fit ps) w)
tree_satisfied c ps (value.Int m) = refl
tree_satisfied c ps (value.Bool a) = refl
tree_satisfied c ps (value.Tree d vs) = by (nat_eq c.0 d.0)
  where
    by : (t : Bool) → t && fit_all ps vs ≡ is_some (if t then fit_fields (map fit ps) vs else None)
    by true = sym (fit_fields_all ps vs)
    by false = refl

one_constraint : (h : Head) (ps : List Pattern) (j : ℕ) (xs : List Value) (v : Value) → slice_get xs j ≡ Some v →
    row_fits (constraint_of h ps j) xs ≡ same_head h (head_of (out-Value v)) && fit_all ps (fields_of (out-Value v))
one_constraint h ps j xs v is = rw is (and-true _)

abbrev Satisfied : Pattern → Type 0
Satisfied p = (j : ℕ) (xs : List Value) (v : Value) → slice_get xs j ≡ Some v → row_fits (constraints p j) xs ≡ fits p v

abbrev pub with_constraints : Pattern → Pattern × Constraining
with_constraints p = (p, constraints p)

layer_satisfied : (y : pattern.Pattern-F (With Satisfied)) (j : ℕ) (xs : List Value) (v : Value)
    → slice_get xs j ≡ Some v →
    let z = pattern_under y in row_fits
    (constraint_step (map-Pattern Pattern (Pattern × Constraining) with_constraints z) j) xs ≡ is_some
    (fit_step (map-Pattern Pattern Fitting fit z) v)
layer_satisfied pattern.Any j xs v is = refl
layer_satisfied (pattern.Bind o) j xs v is = o.1 j xs v is ∙ sym (bound_some (v ∷ []) (fit o.0 v))
layer_satisfied (pattern.Int n) j xs v is = one_constraint (head.Int n) [] j xs v is ∙ int_satisfied n (out-Value v)
layer_satisfied (pattern.Bool b) j xs v is = one_constraint (head.Bool b) [] j xs v is ∙ bool_satisfied b (out-Value v)
layer_satisfied (pattern.Ctor c os) j xs v is =
    let ps = elements os in
    one_constraint (head.Tree c) (map pattern_of (map with_constraints ps)) j xs v is
    ∙ ap (λ qs. same_head (head.Tree c) (head_of (out-Value v)) && fit_all qs (fields_of (out-Value v))) (firsts ps)
    ∙ tree_satisfied c ps (out-Value v)

at_pattern : (y : pattern.Pattern-F (With Satisfied)) → Satisfied (roll-Pattern (pattern_under y))
at_pattern y j xs v is =
    let z = pattern_under y in
    ap (λ (f : Constraining). row_fits (f j) xs) (para-roll-Pattern Constraining constraint_step z)
    ∙ layer_satisfied y j xs v is
    ∙ sym (ap (λ (f : Fitting). is_some (f v)) (fold-roll-Pattern Fitting fit_step z))

-- a value satisfies the constraints of a pattern exactly where it fits
pub constraints_satisfied : (p : Pattern) → Satisfied p
constraints_satisfied = each_pattern Satisfied at_pattern
