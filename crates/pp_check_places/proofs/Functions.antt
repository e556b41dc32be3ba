-- The sites of a function of a program have the kinds of the typed function that it is.
use Rattle.std.proofs.Common.{◌≡◌, ℕ, true, List, [], ◌∷◌, ◌++◌, map, Option, Some, None, is_some, refl, sym, ap, ◌∙◌}
use Rattle.std.specs.Option.{option_map}
use Rattle.std.proofs.lemmas.Bool.{and_parts}
use Rattle.std.proofs.lemmas.List.{append-nil}
use Rattle.pp_list.specs.Joined.{joined, or_none}
use Rattle.pp_check_places.proofs.Defs.{before_post, def_checks, def_kinds_are, post_kinds}
use Rattle.pp_check_places.proofs.Marked.{kind_of}
use Rattle.pp_check_places.proofs.SiteKinds.{Kinds, kinds, site_kinds, bare_kinds, kinds_binary}
use Rattle.pp_check_places.proofs.Sited.{HasKinds, before, expr_sited, none_has, two}
use Rattle.pp_instances.specs.declared.member.Instance.{Instance}
use Rattle.pp_instances.specs.declared.member.Member.{Member}
use Rattle.pp_prog.specs.ExprSorts.{is_of_sort, is_sorted, is_sorted_measure, is_sorted_post, is_sorted_pre, sort_of}
use Rattle.pp_prog.specs.Listing.{function_sites, measure_sites, post_sites, postcondition, pre_sites}
use Rattle.pp_prog.specs.Sorts.{param_sorts}
use Rattle.pp_prog.specs.declared.check.CheckKind.TheVariants as check
use Rattle.pp_tree.specs.declared.operator.BinaryOp.TheVariants.{AndAlso}
use Rattle.pp_prog.specs.declared.expr.Expr.{Expr}
use Rattle.pp_prog.specs.declared.expr.Function.{Function}
use Rattle.pp_prog.specs.declared.id.CheckId.{CheckId}
use Rattle.pp_prog.specs.declared.program.Program.{Program}
use Rattle.pp_prog.specs.declared.sort.Sort.{Sort}
use Rattle.pp_prog.specs.declared.sort.Sort.TheVariants as sort
use Rattle.pp_prog.proofs.PartSorts.{has_the_sort_is, some_sort}
use Rattle.pp_translation.specs.Bare.{bare, bare_function, bare_post}
use Rattle.pp_translation.specs.Exprs.{expr_at}
use Rattle.pp_translation.specs.Functions.{as_one, function_of, post_at}
use Rattle.pp_translation.proofs.Conditions.{as_one_joined}
use Rattle.pp_typed.specs.declared.typed.Typed.{Typed}
use Rattle.pp_typed.specs.declared.typed.TypedDef.{TypedDef}
use Rattle.pp_typed.specs.declared.typed.TypedPost.{TypedPost}

-- the kinds of a condition, where there is one
abbrev if_kinds : Option Expr → Kinds
if_kinds o = or_none (option_map kinds o)

-- the kinds of a postcondition
abbrev own_kinds : Option (CheckId × Expr) → Kinds
own_kinds None = []
own_kinds (Some post) = kinds post.1 ++ check.Postcondition ∷ []

-- ---- the sites

module _ (p : Program) where
  pre_has : (pre : Option Expr) (scope : List Sort) → is_sorted_pre p.types p.functions pre scope ≡ true
      → HasKinds (pre_sites p.types p.functions pre scope) (if_kinds pre)
  pre_has None scope h = none_has
  pre_has (Some x) scope h =
      expr_sited p x scope sort.Bool
      (has_the_sort_is p.types p.functions sort.Bool (sort_of p.types p.functions x scope) h)

  measure_has : (xs : List Expr) (scope : List Sort) → is_sorted_measure p.types p.functions xs scope ≡ true
      → HasKinds (measure_sites p.types p.functions xs scope) (joined (map kinds xs))
  measure_has [] scope h = none_has
  measure_has (x ∷ xs) scope h =
      let both =
      and_parts (is_some (sort_of p.types p.functions x scope)) (is_sorted_measure p.types p.functions xs scope) h in
      let s = some_sort (sort_of p.types p.functions x scope) both.0 in
      two (expr_sited p x scope s.0 s.1) (measure_has xs scope both.1)

  post_has : (post : Option (CheckId × Expr)) (result : Sort) (scope : List Sort)
      → is_sorted_post p.types p.functions post (scope ++ result ∷ []) ≡ true
      → HasKinds (post_sites p.types p.functions post result scope) (own_kinds post)
  post_has None result scope h = none_has
  post_has (Some post) result scope h =
      two (expr_sited p post.1 (scope ++ result ∷ []) sort.Bool
      (has_the_sort_is p.types p.functions sort.Bool (sort_of p.types p.functions post.1 (scope ++ result ∷ [])) h))
      (before (postcondition post.0) none_has)

  -- the sites of a sorted function
  function_has : (f : Function) → is_sorted p.types p.functions f ≡ true
      → HasKinds (function_sites p.types p.functions f)
      (if_kinds f.pre ++ joined (map kinds f.measure) ++ kinds f.body ++ own_kinds f.post)
  function_has f h =
      let scope = param_sorts f.params in
      let one = and_parts (is_sorted_pre p.types p.functions f.pre scope) _ h in
      let more = and_parts (is_sorted_measure p.types p.functions f.measure scope) _ one.1 in
      let last = and_parts (is_of_sort p.types p.functions f.result scope f.body) _ more.1 in
      two (two (two (pre_has f.pre scope one.0) (measure_has f.measure scope more.0))
      (expr_sited p f.body scope f.result
      (has_the_sort_is p.types p.functions f.result (sort_of p.types p.functions f.body scope) last.0)))
      (post_has f.post f.result scope last.1)

-- ---- the kinds

as_one_kinds : (es : List Expr) → if_kinds (as_one es) ≡ joined (map kinds es)
as_one_kinds =
    as_one_joined kinds (λ (a b : Expr). kinds_binary AndAlso a b None ∙ append-nil (kinds a ++ kinds b))

bare_if : (o : Option Expr) → if_kinds (option_map bare o) ≡ if_kinds o
bare_if None = refl
bare_if (Some x) = bare_kinds x

bare_all : (xs : List Expr) → joined (map kinds (map bare xs)) ≡ joined (map kinds xs)
bare_all [] = refl
bare_all (x ∷ xs) =
    ap (λ l. l ++ joined (map kinds (map bare xs))) (bare_kinds x) ∙ ap (λ l. kinds x ++ l) (bare_all xs)

bare_own : (o : Option (CheckId × Expr)) → own_kinds (bare_post o) ≡ own_kinds o
bare_own None = refl
bare_own (Some post) = ap (λ l. l ++ check.Postcondition ∷ []) (bare_kinds post.1)

module _ (typed : Typed) (texts : List (List ℕ)) (roots functions : List Member) (i : Instance) (d : TypedDef) where
  own_at : (post : Option TypedPost)
      → own_kinds (post_at typed texts roots functions i.args post) ≡ post_kinds typed roots functions i.args post
  own_at None = refl
  own_at (Some post) = refl

  -- the kinds of the checks that the sites of a function may carry are those of the typed function
  pub function_kinds : (p : Program) (f : Function) → bare_function f ≡ function_of typed texts roots functions i d
      → is_sorted p.types p.functions f ≡ true
      → map kind_of (def_checks d) ≡ site_kinds (function_sites p.types p.functions f)
  function_kinds p f is sorted =
      let At = expr_at typed roots functions i.args in
      let pre_kinds : Kinds = joined (map kinds (map At d.pre)) in
      let pre : if_kinds f.pre ≡ joined (map kinds (map At d.pre)) =
      sym (bare_if f.pre) ∙ ap (λ (g : Function). if_kinds g.pre) is ∙ as_one_kinds (map At d.pre) in
      let measure : joined (map kinds f.measure) ≡ joined (map kinds (map At d.measure)) =
      sym (bare_all f.measure) ∙ ap (λ (g : Function). joined (map kinds g.measure)) is in
      let body : kinds f.body ≡ kinds (At d.body) = sym (bare_kinds f.body) ∙ ap (λ (g : Function). kinds g.body) is in
      let post : own_kinds f.post ≡ post_kinds typed roots functions i.args d.post =
      sym (bare_own f.post) ∙ ap (λ (g : Function). own_kinds g.post) is ∙ own_at d.post in
      def_kinds_are typed roots functions i.args d
      ∙ sym ((function_has p f sorted).are
      ∙ ap (λ l. l ++ joined (map kinds f.measure) ++ kinds f.body ++ own_kinds f.post) pre
      ∙ ap (λ l. pre_kinds ++ l ++ kinds f.body ++ own_kinds f.post) measure
      ∙ ap (λ l. pre_kinds ++ joined (map kinds (map At d.measure)) ++ l ++ own_kinds f.post) body
      ∙ ap (λ l. before_post typed roots functions i.args d ++ l) post)
