-- The kinds of the checks that the sites of an expression may carry, in the order of evaluation. They don't depend on
-- the numbers of checks.
use Rattle.std.proofs.Common.{◌≡◌, ℕ, ℤ, Bool, List, [], ◌∷◌, ◌++◌, map, Option, Some, None, refl, sym, ap, ◌∙◌}
use Rattle.std.specs.Option.{option_map}
use Rattle.std.specs.Prelude.{List, [], ◌∷◌, ◌++◌, map, Option, true, false}
use Rattle.pp_list.proofs.With.{With, elements}
use Rattle.pp_prog.proofs.Induction.{case_under, each_expr, under}
use Rattle.pp_list.specs.Joined.{joined, or_none}
use Rattle.pp_prog.specs.Listing.{Site, plain, division, assertion, precondition, measure, matching, postcondition}
use Rattle.pp_prog.specs.declared.check.CheckKind.{CheckKind}
use Rattle.pp_prog.specs.declared.check.CheckKind.TheVariants as kind
use Rattle.pp_operators.specs.Classes.{is_division}
use Rattle.pp_tree.specs.declared.operator.BinaryOp.{BinaryOp}
use Rattle.pp_prog.specs.declared.expr.Case.{Case}
use Rattle.pp_prog.specs.declared.expr.Expr.{Expr}
use Rattle.pp_prog.specs.declared.expr.Expr.TheFolds.{fold-roll-Case, fold-roll-Expr, fold-Case, map-Case}
use Rattle.pp_prog.specs.declared.expr.Expr.TheFolds.{map-Expr, fold-Expr}
use Rattle.pp_prog.specs.declared.expr.Expr.TheOpen as layer
use Rattle.pp_prog.specs.declared.expr.Expr.TheVariants as prog
use Rattle.pp_prog.specs.declared.expr.Expr.TheViews.{roll-Case, roll-Expr}
use Rattle.pp_prog.specs.declared.expr.Pattern.{Pattern}
use Rattle.pp_tree.specs.declared.operator.UnaryOp.{UnaryOp}
use Rattle.pp_prog.specs.declared.id.CheckId.{CheckId}
use Rattle.pp_prog.specs.declared.id.CtorId.{CtorId}
use Rattle.pp_prog.specs.declared.id.FunctionId.{FunctionId}
use Rattle.pp_translation.specs.Bare.{bare, bare_case, bare_of_case, bare_step}
use Rattle.pp_translation.specs.Exprs.{unnumbered}

abbrev pub Kinds : Type 0
Kinds = List CheckKind

-- the kind of a site; a plain site has none
abbrev pub site_kind : Site → Kinds
site_kind (plain check) = []
site_kind (division check) = kind.Division ∷ []
site_kind (assertion check) = kind.Assertion ∷ []
site_kind (precondition g check) = kind.Precondition ∷ []
site_kind (measure g check) = kind.Measure ∷ []
site_kind (matching s patterns check) = kind.Match ∷ []
site_kind (postcondition check) = kind.Postcondition ∷ []

-- the kinds of sites
abbrev pub site_kinds : List Site → Kinds
site_kinds sites = joined (map site_kind sites)

abbrev pub division_kinds : Bool → Kinds
division_kinds true = kind.Division ∷ []
division_kinds false = []

abbrev pub operator_kinds : BinaryOp → Kinds
operator_kinds op = division_kinds (is_division op)

-- one level, with the kinds of the parts in their place
abbrev pub kinds_step : layer.Expr-F Kinds Kinds → Kinds
kinds_step (layer.Int n) = []
kinds_step (layer.Bool b) = []
kinds_step (layer.Var i) = []
kinds_step (layer.Unary op a) = a
kinds_step (layer.Binary op a b check) = a ++ b ++ operator_kinds op
kinds_step (layer.Construct c args) = joined args
kinds_step (layer.Field e k) = e
kinds_step (layer.If c a b) = c ++ a ++ b
kinds_step (layer.Match e cases check) = e ++ kind.Match ∷ joined cases
kinds_step (layer.Val bound rest) = bound ++ rest
kinds_step (layer.Assert check c rest) = c ++ kind.Assertion ∷ rest
kinds_step (layer.Call g args pre down) = joined args ++ kind.Precondition ∷ kind.Measure ∷ []

abbrev pub case_kinds_step : layer.Case-F Kinds Kinds → Kinds
case_kinds_step c = or_none c.guard ++ c.body

-- the kinds of an expression, and those of a case
abbrev pub kinds : Expr → Kinds
kinds = fold-Expr Kinds Kinds kinds_step case_kinds_step

abbrev pub case_kinds : Case → Kinds
case_kinds = fold-Case Kinds Kinds kinds_step case_kinds_step

abbrev Layer : Type 0
Layer = layer.Expr-F Expr Case

-- the kinds of one level
pub rolled : (y : Layer) → kinds (roll-Expr y) ≡ kinds_step (map-Expr Expr Case Kinds Kinds kinds case_kinds y)
rolled y = fold-roll-Expr Kinds Kinds kinds_step case_kinds_step y

pub rolled_case : (y : layer.Case-F Expr Case)
    → case_kinds (roll-Case y) ≡ case_kinds_step (map-Case Expr Case Kinds Kinds kinds case_kinds y)
rolled_case y = fold-roll-Case Kinds Kinds kinds_step case_kinds_step y

pub kinds_int : (n : ℤ) → kinds (prog.Int n) ≡ []
kinds_int n = ap kinds (sym (prog.rolls-Int n)) ∙ rolled (layer.Int n)

pub kinds_bool : (b : Bool) → kinds (prog.Bool b) ≡ []
kinds_bool b = ap kinds (sym (prog.rolls-Bool b)) ∙ rolled (layer.Bool b)

pub kinds_var : (i : ℕ) → kinds (prog.Var i) ≡ []
kinds_var i = ap kinds (sym (prog.rolls-Var i)) ∙ rolled (layer.Var i)

pub kinds_unary : (op : UnaryOp) (a : Expr) → kinds (prog.Unary op a) ≡ kinds a
kinds_unary op a = ap kinds (sym (prog.rolls-Unary op a)) ∙ rolled (layer.Unary op a)

pub kinds_binary : (op : BinaryOp) (a b : Expr) (n : Option CheckId)
    → kinds (prog.Binary op a b n) ≡ kinds a ++ kinds b ++ operator_kinds op
kinds_binary op a b n = ap kinds (sym (prog.rolls-Binary op a b n)) ∙ rolled (layer.Binary op a b n)

pub kinds_construct : (c : CtorId) (xs : List Expr) → kinds (prog.Construct c xs) ≡ joined (map kinds xs)
kinds_construct c xs = ap kinds (sym (prog.rolls-Construct c xs)) ∙ rolled (layer.Construct c xs)

pub kinds_field : (a : Expr) (k : ℕ) → kinds (prog.Field a k) ≡ kinds a
kinds_field a k = ap kinds (sym (prog.rolls-Field a k)) ∙ rolled (layer.Field a k)

pub kinds_if : (c a b : Expr) → kinds (prog.If c a b) ≡ kinds c ++ kinds a ++ kinds b
kinds_if c a b = ap kinds (sym (prog.rolls-If c a b)) ∙ rolled (layer.If c a b)

pub kinds_match : (a : Expr) (ys : List Case) (n : Option CheckId)
    → kinds (prog.Match a ys n) ≡ kinds a ++ kind.Match ∷ joined (map case_kinds ys)
kinds_match a ys n = ap kinds (sym (prog.rolls-Match a ys n)) ∙ rolled (layer.Match a ys n)

pub kinds_val : (a b : Expr) → kinds (prog.Val a b) ≡ kinds a ++ kinds b
kinds_val a b = ap kinds (sym (prog.rolls-Val a b)) ∙ rolled (layer.Val a b)

pub kinds_assert : (n : CheckId) (a b : Expr) → kinds (prog.Assert n a b) ≡ kinds a ++ kind.Assertion ∷ kinds b
kinds_assert n a b = ap kinds (sym (prog.rolls-Assert n a b)) ∙ rolled (layer.Assert n a b)

pub kinds_call : (g : FunctionId) (xs : List Expr) (n m : Option CheckId)
    → kinds (prog.Call g xs n m) ≡ joined (map kinds xs) ++ kind.Precondition ∷ kind.Measure ∷ []
kinds_call g xs n m = ap kinds (sym (prog.rolls-Call g xs n m)) ∙ rolled (layer.Call g xs n m)

pub kinds_in_case : (p : Pattern) (g : Option Expr) (b : Expr)
    → case_kinds (record { pattern = p; guard = g; body = b }) ≡ or_none (option_map kinds g) ++ kinds b
kinds_in_case p None b = rolled_case (record { pattern = p; guard = None; body = b })
kinds_in_case p (Some g) b = rolled_case (record { pattern = p; guard = Some g; body = b })

-- ---- without numbers

abbrev IsSame : Expr → Type 0
IsSame x = kinds (bare x) ≡ kinds x

abbrev IsSameCase : Case → Type 0
IsSameCase y = case_kinds (bare_of_case y) ≡ case_kinds y

all_same : (ys : List (With IsSame)) → joined (map kinds (map bare (elements ys))) ≡ joined (map kinds (elements ys))
all_same [] = refl
all_same (y ∷ ys) =
    ap (λ l. l ++ joined (map kinds (map bare (elements ys)))) y.1 ∙ ap (λ l. kinds y.0 ++ l) (all_same ys)

cases_same : (ys : List (With IsSameCase))
    → joined (map case_kinds (map bare_of_case (elements ys))) ≡ joined (map case_kinds (elements ys))
cases_same [] = refl
cases_same (y ∷ ys) =
    ap (λ l. l ++ joined (map case_kinds (map bare_of_case (elements ys)))) y.1
    ∙ ap (λ l. case_kinds y.0 ++ l) (cases_same ys)

level : (y : layer.Expr-F (With IsSame) (With IsSameCase))
    → kinds (bare_step (map-Expr Expr Case Expr Case bare bare_of_case (under y)))
    ≡ kinds_step (map-Expr Expr Case Kinds Kinds kinds case_kinds (under y))
level (layer.Int n) = kinds_int n
level (layer.Bool b) = kinds_bool b
level (layer.Var i) = kinds_var i
level (layer.Unary op a) = kinds_unary op (bare a.0) ∙ a.1
level (layer.Binary op a b check) =
    kinds_binary op (bare a.0) (bare b.0) None ∙ ap (λ l. l ++ kinds (bare b.0) ++ operator_kinds op) a.1
    ∙ ap (λ l. kinds a.0 ++ l ++ operator_kinds op) b.1
level (layer.Construct c args) = kinds_construct c (map bare (elements args)) ∙ all_same args
level (layer.Field e k) = kinds_field (bare e.0) k ∙ e.1
level (layer.If c a b) =
    kinds_if (bare c.0) (bare a.0) (bare b.0) ∙ ap (λ l. l ++ kinds (bare a.0) ++ kinds (bare b.0)) c.1
    ∙ ap (λ l. kinds c.0 ++ l ++ kinds (bare b.0)) a.1 ∙ ap (λ l. kinds c.0 ++ kinds a.0 ++ l) b.1
level (layer.Match e cases check) =
    kinds_match (bare e.0) (map bare_of_case (elements cases)) None
    ∙ ap (λ l. l ++ kind.Match ∷ joined (map case_kinds (map bare_of_case (elements cases)))) e.1
    ∙ ap (λ l. kinds e.0 ++ kind.Match ∷ l) (cases_same cases)
level (layer.Val bound rest) =
    kinds_val (bare bound.0) (bare rest.0) ∙ ap (λ l. l ++ kinds (bare rest.0)) bound.1
    ∙ ap (λ l. kinds bound.0 ++ l) rest.1
level (layer.Assert check c rest) =
    kinds_assert unnumbered (bare c.0) (bare rest.0) ∙ ap (λ l. l ++ kind.Assertion ∷ kinds (bare rest.0)) c.1
    ∙ ap (λ l. kinds c.0 ++ kind.Assertion ∷ l) rest.1
level (layer.Call g args pre down) =
    kinds_call g (map bare (elements args)) None None
    ∙ ap (λ l. l ++ kind.Precondition ∷ kind.Measure ∷ []) (all_same args)

at_level : (y : layer.Expr-F (With IsSame) (With IsSameCase)) → IsSame (roll-Expr (under y))
at_level y =
    ap kinds (fold-roll-Expr Expr Case bare_step bare_case (under y)) ∙ level y ∙ sym (rolled (under y))

at_parts : (p : Pattern) (o : Option (With IsSame)) (b : With IsSame)
    → IsSameCase (roll-Case (case_under IsSameCase (record { pattern = p; guard = o; body = b })))
at_parts p None b =
    let z = case_under IsSameCase (record { pattern = p; guard = None; body = b }) in
    ap case_kinds (fold-roll-Case Expr Case bare_step bare_case z) ∙ kinds_in_case p None (bare b.0) ∙ b.1
    ∙ sym (rolled_case z)
at_parts p (Some e) b =
    let z = case_under IsSameCase (record { pattern = p; guard = Some e; body = b }) in
    ap case_kinds (fold-roll-Case Expr Case bare_step bare_case z) ∙ kinds_in_case p (Some (bare e.0)) (bare b.0)
    ∙ ap (λ l. l ++ kinds (bare b.0)) e.1 ∙ ap (λ l. kinds e.0 ++ l) b.1 ∙ sym (rolled_case z)

at_case : (y : layer.Case-F (With IsSame) (With IsSameCase)) → IsSameCase (roll-Case (case_under IsSameCase y))
at_case y = at_parts y.pattern y.guard y.body

-- the kinds of an expression are those without the numbers of its checks
pub bare_kinds : (x : Expr) → IsSame x
bare_kinds =
    each_expr IsSame IsSameCase at_level at_case
