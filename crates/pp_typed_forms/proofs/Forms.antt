-- What a well-sorted expression is made of, by its form.
use Rattle.std.proofs.Common.{◌≡◌, ℕ, List, [], ◌∷◌, ◌++◌, Some, map, length, refl, sym, ap, ◌∙◌, subst}
use Rattle.std.specs.Prelude.{IsTrue, slice_get}
use Rattle.pp_tree.specs.declared.operator.BinaryOp.{BinaryOp}
use Rattle.pp_typed.specs.InRange.{AreInRange}
use Rattle.pp_typed.specs.Operators.{Operates, unary_sort}
use Rattle.pp_typed.specs.Put.{put}
use Rattle.pp_typed.specs.Sorted.{IsSorted, AreSorted, AreSortedCases, ctors_of, is_int, param_sorts, sorted_int}
use Rattle.pp_typed.specs.Sorted.{sorted_bool, sorted_local, sorted_call, sorted_construct, sorted_field, sorted_unary}
use Rattle.pp_typed.specs.Sorted.{sorted_binary, sorted_if, sorted_match, sorted_val, sorted_assert}
use Rattle.pp_typed.specs.declared.expr.TypedCase.{TypedCase}
use Rattle.pp_typed.specs.declared.expr.TypedExpr.{TypedExpr}
use Rattle.pp_typed.specs.declared.expr.TypedKind.{TypedKind}
use Rattle.pp_typed.specs.declared.expr.TypedKind.TheOpen as layer
use Rattle.pp_typed.specs.declared.expr.TypedKind.TheVariants as kind
use Rattle.pp_typed.specs.declared.expr.TypedKind.TheViews.{out-TypedKind}
use Rattle.pp_typed.specs.declared.sort.GenericSort.{GenericSort}
use Rattle.pp_typed.specs.declared.sort.GenericSort.TheVariants as sort
use Rattle.pp_typed.specs.declared.typed.Typed.{Typed}
use Rattle.pp_typed.specs.declared.typed.TypedCtor.{TypedCtor}
use Rattle.pp_typed.specs.declared.typed.TypedDef.{TypedDef}
use Rattle.pp_typed.specs.declared.typed.TypedRoot.{TypedRoot}

abbrev pub Layer : Type 0
Layer = layer.TypedKind-F TypedKind TypedCase TypedExpr

module _ (typed : Typed) (params : ℕ) where
  pub record IsCall (scope : List GenericSort) (of : GenericSort) (f : ℕ) (sorts : List GenericSort)
      (args : List TypedExpr) : Type 0 where
    pub d : TypedDef
    pub declared : slice_get typed.defs f ≡ Some d
    pub all : length sorts ≡ d.type_params
    pub in_range : AreInRange typed.roots params sorts
    pub args_sorted : AreSorted typed params scope (map (put sorts) (param_sorts d.params)) args
    pub result : of ≡ put sorts d.result

  pub record IsConstruct (scope : List GenericSort) (of : GenericSort) (c : ℕ) (sorts : List GenericSort)
      (args : List TypedExpr) : Type 0 where
    pub k : TypedCtor
    pub root : TypedRoot
    pub declared : slice_get typed.ctors c ≡ Some k
    pub root_declared : slice_get typed.roots k.root ≡ Some root
    pub all : length sorts ≡ root.type_params
    pub in_range : AreInRange typed.roots params sorts
    pub args_sorted : AreSorted typed params scope (map (put sorts) k.fields) args
    pub result : of ≡ sort.Root k.root sorts

  pub record IsField (scope : List GenericSort) (of : GenericSort) (base : TypedExpr) (j : ℕ) : Type 0 where
    pub k : TypedCtor
    pub sorts : List GenericSort
    pub s : GenericSort
    pub base_sorted : IsSorted typed params scope base
    pub base_is : base.of ≡ sort.Root k.root sorts
    pub only : ctors_of typed.ctors k.root ≡ k ∷ []
    pub declared : slice_get k.fields j ≡ Some s
    pub result : of ≡ put sorts s

  pub record IsBinary (scope : List GenericSort) (of : GenericSort) (op : BinaryOp) (a b : TypedExpr) : Type 0 where
    pub left : IsSorted typed params scope a
    pub right : IsSorted typed params scope b
    pub operates : Operates op a.of b.of of

  pub record IsIf (scope : List GenericSort) (of : GenericSort) (c a b : TypedExpr) : Type 0 where
    pub test : IsSorted typed params scope c
    pub is_bool : c.of ≡ sort.Bool
    pub left : IsSorted typed params scope a
    pub left_is : a.of ≡ of
    pub right : IsSorted typed params scope b
    pub right_is : b.of ≡ of

  pub record IsMatch (scope : List GenericSort) (of : GenericSort) (m : TypedExpr) (cases : List TypedCase) : Type 0
    where
      pub first : TypedCase
      pub rest : List TypedCase
      pub some : cases ≡ first ∷ rest
      pub matched : IsSorted typed params scope m
      pub cases_sorted : AreSortedCases typed params scope m.of of cases

  pub record IsVal (scope : List GenericSort) (of : GenericSort) (bound rest : TypedExpr) : Type 0 where
    pub bound_sorted : IsSorted typed params scope bound
    pub rest_sorted : IsSorted typed params (scope ++ bound.of ∷ []) rest
    pub rest_is : rest.of ≡ of

  pub record IsAssert (scope : List GenericSort) (of : GenericSort) (c rest : TypedExpr) : Type 0 where
    pub test : IsSorted typed params scope c
    pub is_bool : c.of ≡ sort.Bool
    pub rest_sorted : IsSorted typed params scope rest
    pub rest_is : rest.of ≡ of

  abbrev pub IsOfForm : List GenericSort → GenericSort → Layer → Type 0
  IsOfForm scope of (layer.Int n) = (of ≡ sort.Int) × IsTrue (is_int n)
  IsOfForm scope of (layer.Bool b) = of ≡ sort.Bool
  IsOfForm scope of (layer.Local i) = slice_get scope i ≡ Some of
  IsOfForm scope of (layer.Call f sorts args) = IsCall scope of f sorts args
  IsOfForm scope of (layer.Construct c sorts args) = IsConstruct scope of c sorts args
  IsOfForm scope of (layer.Field base j) = IsField scope of base j
  IsOfForm scope of (layer.Unary op a) = IsSorted typed params scope a × (a.of ≡ unary_sort op) × (of ≡ unary_sort op)
  IsOfForm scope of (layer.Binary op a b) = IsBinary scope of op a b
  IsOfForm scope of (layer.If c a b) = IsIf scope of c a b
  IsOfForm scope of (layer.Match m cases) = IsMatch scope of m cases
  IsOfForm scope of (layer.Val bound rest) = IsVal scope of bound rest
  IsOfForm scope of (layer.Assert c rest) = IsAssert scope of c rest

  shown : (scope : List GenericSort) (e : TypedExpr) {k : TypedKind} {l : Layer} → e.kind ≡ k → out-TypedKind k ≡ l
      → IsOfForm scope e.of l
      → IsOfForm scope e.of (out-TypedKind e.kind)
  shown scope e {k} {l} is o h = subst (IsOfForm scope e.of) (sym (ap out-TypedKind is ∙ o)) h

  -- a sorted expression is one of its form
  pub form : {scope : List GenericSort} {e : TypedExpr} → IsSorted typed params scope e
      → IsOfForm scope e.of (out-TypedKind e.kind)
  form {scope} {e} (sorted_int n k is range) = shown scope e k (kind.outs-Int n) (is, range)
  form {scope} {e} (sorted_bool b k is) = shown scope e k (kind.outs-Bool b) is
  form {scope} {e} (sorted_local i k is) = shown scope e k (kind.outs-Local i) is
  form {scope} {e} (sorted_call f d sorts args k declared all in_range args_sorted is) = shown scope e k
      (kind.outs-Call f sorts args) (record {
        d = d;
        declared = declared;
        all = all;
        in_range = in_range;
        args_sorted = args_sorted;
        result = is;
      })
  form {scope} {e} (sorted_construct c ctor root sorts args k declared root_declared all in_range args_sorted is) =
      shown scope e k (kind.outs-Construct c sorts args) (record {
        k = ctor;
        root = root;
        declared = declared;
        root_declared = root_declared;
        all = all;
        in_range = in_range;
        args_sorted = args_sorted;
        result = is;
      })
  form {scope} {e} (sorted_field {base = base} j ctor sorts s k base_sorted base_is only declared is) = shown scope e k
      (kind.outs-Field base j) (record {
        k = ctor;
        sorts = sorts;
        s = s;
        base_sorted = base_sorted;
        base_is = base_is;
        only = only;
        declared = declared;
        result = is;
      })
  form {scope} {e} (sorted_unary {a = a} op k sorted is result) = shown scope e k (kind.outs-Unary op a)
      (sorted, is, result)
  form {scope} {e} (sorted_binary {a = a} {b = b} op k left right operates) = shown scope e k
      (kind.outs-Binary op a b) (record {
        left = left;
        right = right;
        operates = operates;
      })
  form {scope} {e} (sorted_if {c = c} {a = a} {b = b} k test is_bool left left_is right right_is) = shown scope e k
      (kind.outs-If c a b) (record {
        test = test;
        is_bool = is_bool;
        left = left;
        left_is = left_is;
        right = right;
        right_is = right_is;
      })
  form {scope} {e} (sorted_match {m = m} {c = c} {cs = cs} k matched cases_sorted) = shown scope e k
      (kind.outs-Match m (c ∷ cs)) (record {
        first = c;
        rest = cs;
        some = refl;
        matched = matched;
        cases_sorted = cases_sorted;
      })
  form {scope} {e} (sorted_val {bound = bound} {rest = rest} k bound_sorted rest_sorted rest_is) = shown scope e k
      (kind.outs-Val bound rest) (record {
        bound_sorted = bound_sorted;
        rest_sorted = rest_sorted;
        rest_is = rest_is;
      })
  form {scope} {e} (sorted_assert {c = c} {rest = rest} k test is_bool rest_sorted rest_is) = shown scope e k
      (kind.outs-Assert c rest) (record {
        test = test;
        is_bool = is_bool;
        rest_sorted = rest_sorted;
        rest_is = rest_is;
      })
