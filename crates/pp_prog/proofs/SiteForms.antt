-- The sites of each form of an expression.
use Rattle.std.proofs.Common.{◌≡◌, ℕ, ℤ, Bool, List, [], ◌∷◌, ◌++◌, map, refl, sym, ap, ◌∙◌}
use Rattle.std.specs.Prelude.{Option}
use Rattle.pp_list.specs.Joined.{joined}
use Rattle.pp_prog.specs.ExprSorts.{sort_of}
use Rattle.pp_prog.specs.Listing.{CaseSites, Site, Sites, assertion, at_sort, case_sites, matching, measure}
use Rattle.pp_prog.specs.Listing.{operator_site, precondition, site_step, sites, sites_of_all, sites_of_cases}
use Rattle.pp_prog.specs.Listing.{unguarded, with_case_sites, with_sites}
use Rattle.pp_tree.specs.declared.operator.BinaryOp.{BinaryOp}
use Rattle.pp_prog.specs.declared.expr.Case.{Case}
use Rattle.pp_prog.specs.declared.expr.Expr.{Expr}
use Rattle.pp_prog.specs.declared.expr.Expr.TheFolds.{para-roll-Expr}
use Rattle.pp_prog.specs.declared.expr.Expr.TheOpen as layer
use Rattle.pp_prog.specs.declared.expr.Expr.TheVariants as prog
use Rattle.pp_prog.specs.declared.expr.Function.{Function}
use Rattle.pp_tree.specs.declared.operator.UnaryOp.{UnaryOp}
use Rattle.pp_prog.specs.declared.id.CheckId.{CheckId}
use Rattle.pp_prog.specs.declared.id.CtorId.{CtorId}
use Rattle.pp_prog.specs.declared.id.FunctionId.{FunctionId}
use Rattle.pp_prog.specs.declared.sort.Sort.{Sort}
use Rattle.pp_prog.specs.declared.types.TypeTable.{TypeTable}

module _ (types : TypeTable) (fs : List Function) (sc : List Sort) where
  abbrev pub In : Expr → List Site
  In x = sites types fs x sc

  pub all_sites : (xs : List Expr) → sites_of_all (with_sites types fs xs) sc ≡ joined (map In xs)
  all_sites [] = refl
  all_sites (x ∷ xs) = ap (λ l. In x ++ l) (all_sites xs)

  pub sites_int : (n : ℤ) → In (prog.Int n) ≡ []
  sites_int n = ap In (sym (prog.rolls-Int n)) ∙ ap (λ (g : Sites). g sc)
      (para-roll-Expr Sites CaseSites (site_step types fs) (case_sites types fs) (layer.Int n))

  pub sites_bool : (b : Bool) → In (prog.Bool b) ≡ []
  sites_bool b = ap In (sym (prog.rolls-Bool b)) ∙ ap (λ (g : Sites). g sc)
      (para-roll-Expr Sites CaseSites (site_step types fs) (case_sites types fs) (layer.Bool b))

  pub sites_var : (i : ℕ) → In (prog.Var i) ≡ []
  sites_var i = ap In (sym (prog.rolls-Var i)) ∙ ap (λ (g : Sites). g sc)
      (para-roll-Expr Sites CaseSites (site_step types fs) (case_sites types fs) (layer.Var i))

  pub sites_unary : (op : UnaryOp) (a : Expr) → In (prog.Unary op a) ≡ In a
  sites_unary op a = ap In (sym (prog.rolls-Unary op a))
      ∙ ap (λ (g : Sites). g sc) (para-roll-Expr Sites CaseSites (site_step types fs) (case_sites types fs)
      (layer.Unary op a))

  pub sites_binary : (op : BinaryOp) (a : Expr) (b : Expr) (n : Option CheckId)
      → In (prog.Binary op a b n) ≡ In a ++ In b ++ operator_site op n ∷ []
  sites_binary op a b n = ap In (sym (prog.rolls-Binary op a b n))
      ∙ ap (λ (g : Sites). g sc) (para-roll-Expr Sites CaseSites (site_step types fs) (case_sites types fs)
      (layer.Binary op a b n))

  pub sites_construct : (c : CtorId) (xs : List Expr) → In (prog.Construct c xs) ≡ joined (map In xs)
  sites_construct c xs = ap In (sym (prog.rolls-Construct c xs))
      ∙ ap (λ (g : Sites). g sc) (para-roll-Expr Sites CaseSites (site_step types fs) (case_sites types fs)
      (layer.Construct c xs)) ∙ all_sites xs

  pub sites_field : (a : Expr) (k : ℕ) → In (prog.Field a k) ≡ In a
  sites_field a k = ap In (sym (prog.rolls-Field a k)) ∙ ap (λ (g : Sites). g sc)
      (para-roll-Expr Sites CaseSites (site_step types fs) (case_sites types fs) (layer.Field a k))

  pub sites_if : (c : Expr) (a : Expr) (b : Expr) → In (prog.If c a b) ≡ In c ++ In a ++ In b
  sites_if c a b = ap In (sym (prog.rolls-If c a b)) ∙ ap (λ (g : Sites). g sc)
      (para-roll-Expr Sites CaseSites (site_step types fs) (case_sites types fs) (layer.If c a b))

  pub sites_match : (a : Expr) (ys : List Case) (n : Option CheckId)
      → In (prog.Match a ys n) ≡ In a ++ at_sort (sort_of types fs a sc)
      (λ s. matching s (unguarded (with_case_sites types fs ys)) n ∷ sites_of_cases (with_case_sites types fs ys) s sc)
  sites_match a ys n = ap In (sym (prog.rolls-Match a ys n))
      ∙ ap (λ (g : Sites). g sc) (para-roll-Expr Sites CaseSites (site_step types fs) (case_sites types fs)
      (layer.Match a ys n))

  pub sites_val : (a : Expr) (b : Expr) → In (prog.Val a b) ≡ In a ++ at_sort (sort_of types fs a sc)
      (λ s. sites types fs b (sc ++ s ∷ []))
  sites_val a b = ap In (sym (prog.rolls-Val a b)) ∙ ap (λ (g : Sites). g sc)
      (para-roll-Expr Sites CaseSites (site_step types fs) (case_sites types fs) (layer.Val a b))

  pub sites_assert : (n : CheckId) (a : Expr) (b : Expr) → In (prog.Assert n a b) ≡ In a ++ assertion n ∷ In b
  sites_assert n a b = ap In (sym (prog.rolls-Assert n a b))
      ∙ ap (λ (g : Sites). g sc) (para-roll-Expr Sites CaseSites (site_step types fs) (case_sites types fs)
      (layer.Assert n a b))

  pub sites_call : (g : FunctionId) (xs : List Expr) (n : Option CheckId) (m : Option CheckId)
      → In (prog.Call g xs n m) ≡ joined (map In xs) ++ precondition g n ∷ measure g m ∷ []
  sites_call g xs n m = ap In (sym (prog.rolls-Call g xs n m))
      ∙ ap (λ (g : Sites). g sc) (para-roll-Expr Sites CaseSites (site_step types fs) (case_sites types fs)
      (layer.Call g xs n m)) ∙ ap (λ l. l ++ precondition g n ∷ measure g m ∷ []) (all_sites xs)
