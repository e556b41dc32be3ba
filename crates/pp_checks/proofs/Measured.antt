-- The parameter with which a measure begins, as it is read off.
use Rattle.std.proofs.Common.{◌≡◌, ◌<◌, ℕ, zero, suc, Bool, true, false, List, [], ◌∷◌, Option, Some, None, length}
use Rattle.std.proofs.Common.{slice_get, refl, sym, ap, ◌∙◌, subst, arith, Contains}
use Rattle.std.proofs.lemmas.Bool.{lt-ltb, ltb-true}
use Rattle.std.specs.Prelude.{nat_lt, if◌then◌else◌}
use Rattle.pp_prog.specs.declared.expr.Case.{Case}
use Rattle.pp_prog.specs.declared.expr.Expr.{Expr}
use Rattle.pp_prog.specs.declared.expr.Expr.TheOpen as layer
use Rattle.pp_prog.specs.declared.expr.Expr.TheVariants.{Var, outs-Var, rolls-Var}
use Rattle.pp_prog.specs.declared.expr.Expr.TheViews.{out-Expr, roll-Expr, roll-out-Expr}
use Rattle.pp_prog.specs.declared.expr.Function.{Function}
use Rattle.pp_prog.specs.declared.id.CheckId.{CheckId}
use Rattle.pp_checks.specs.Marks.{as_check, first_param, if_below, variable_first, variable_in, variable_of, when}
use Rattle.pp_checks.specs.Plain.{BeginsWith}

-- ---- lists of at most one check

pub only : {A : Type 0} (x y : A) → Contains (x ∷ []) y → x ≡ y
only x y (zero, lt, e) = e
only x y (suc i, lt, e) = absurd (omega (arith, lt))

-- the check that is listed where it is asked for
pub record IsAsked (b : Bool) (o : Option CheckId) (c : ℕ) : Type 0 where
  pub so : b ≡ true
  pub check : CheckId
  pub is : o ≡ Some check
  pub number : check.0 ≡ c

pub in_when : (b : Bool) (o : Option CheckId) (c : ℕ) → Contains (when b (as_check o)) c → IsAsked b o c
in_when false o c h = absurd (omega (arith, h.1))
in_when true None c h = absurd (omega (arith, h.1))
in_when true (Some k) c h = record { so = refl; check = k; is = refl; number = only k.0 c h }

pub when_in : (b : Bool) (o : Option CheckId) (check : CheckId) → b ≡ true → o ≡ Some check
    → Contains (when b (as_check o)) check.0
when_in false o check t is = let no : false ≡ true = t in cc
when_in true None check t is = cc
when_in true (Some k) check t is = let same : k ≡ check = cc in (0, omega arith, ap (λ (n : CheckId). n.0) same)

-- ---- variables

var_layer : (y : layer.Expr-F Expr Case) (v : ℕ) → variable_in y ≡ Some v → y ≡ layer.Var v
var_layer (layer.Int n) v is = cc
var_layer (layer.Bool b) v is = cc
var_layer (layer.Var i) v is = let same : i ≡ v = cc in ap layer.Var same
var_layer (layer.Unary op a) v is = cc
var_layer (layer.Binary op a b check) v is = cc
var_layer (layer.Construct c args) v is = cc
var_layer (layer.Field e k) v is = cc
var_layer (layer.If c a b) v is = cc
var_layer (layer.Match e cases check) v is = cc
var_layer (layer.Val bound rest) v is = cc
var_layer (layer.Assert check c rest) v is = cc
var_layer (layer.Call g args pre measure) v is = cc

pub is_var : (e : Expr) (v : ℕ) → variable_of e ≡ Some v → e ≡ Var v
is_var e v is = sym (roll-out-Expr e) ∙ ap roll-Expr (var_layer (out-Expr e) v is) ∙ rolls-Var v

pub var_is : (e : Expr) (v : ℕ) → e ≡ Var v → variable_of e ≡ Some v
var_is e v is = ap variable_of is ∙ ap variable_in (outs-Var v)

-- ---- the first component

first_is : (es : List Expr) (v : ℕ) → variable_first es ≡ Some v → slice_get es 0 ≡ Some (Var v)
first_is [] v is = cc
first_is (e ∷ es) v is = ap Some (is_var e v is)

first_var : (es : List Expr) (v : ℕ) → slice_get es 0 ≡ Some (Var v) → variable_first es ≡ Some v
first_var [] v is = cc
first_var (e ∷ es) v is = let same : e ≡ Var v = cc in var_is e v same

below_is : (n : ℕ) (o : Option ℕ) (q : ℕ) → if_below n o ≡ Some q → (q < n) × (o ≡ Some q)
below_is n None q is = cc
below_is n (Some i) q is = by (nat_lt i n) refl is
  where
    by : (t : Bool) → nat_lt i n ≡ t → (if t then Some i else None) ≡ Some q → (q < n) × (Some i ≡ Some q)
    by true less is =
        let same : i ≡ q = cc in (subst (λ k. k < n) same (ltb-true i n less), is)
    by false less is = cc

is_below : (n : ℕ) (o : Option ℕ) (q : ℕ) → q < n → o ≡ Some q → if_below n o ≡ Some q
is_below n o q less is =
    ap (if_below n) is ∙ ap (λ (t : Bool). if t then Some q else None) (lt-ltb q n less)

pub begins_if : (f : Function) (q : ℕ) → first_param f ≡ Some q → BeginsWith f q
begins_if f q is =
    let b = below_is (length f.params) (variable_first f.measure) q is in (b.0, first_is f.measure q b.1)

pub first_param_is : (f : Function) (q : ℕ) → BeginsWith f q → first_param f ≡ Some q
first_param_is f q begins =
    is_below (length f.params) (variable_first f.measure) q begins.0 (first_var f.measure q begins.1)
