-- Which typed expressions and patterns have the sorts that they carry. Source: Scala Language Specification 6, 8.1 and
-- 12.2; the rest is own.
use Rattle.std.specs.Prelude.{◌≡◌, ◌^◌, ℕ, ℤ, pos, neg_ℤ, int_le, int_lt, nat_eq, Bool, true, false, ◌&&◌, List, []}
use Rattle.std.specs.Prelude.{◌∷◌, ◌++◌, Option, Some, None, map, filter, length, slice_get, IsTrue}
use Rattle.pp_tree.specs.declared.operator.BinaryOp.{BinaryOp}
use Rattle.pp_tree.specs.declared.operator.UnaryOp.{UnaryOp}
use Rattle.pp_typed.specs.InRange.{AreInRange}
use Rattle.pp_typed.specs.Operators.{Operates, unary_sort}
use Rattle.pp_typed.specs.Put.{put}
use Rattle.pp_typed.specs.declared.expr.TypedCase.{TypedCase}
use Rattle.pp_typed.specs.declared.expr.TypedExpr.{TypedExpr}
use Rattle.pp_typed.specs.declared.expr.TypedKind.TheVariants as kind
use Rattle.pp_typed.specs.declared.expr.TypedKind.TheViews.{out-TypedCase}
use Rattle.pp_typed.specs.declared.pattern.TypedPattern.{TypedPattern}
use Rattle.pp_typed.specs.declared.pattern.TypedPatternKind.TheVariants as pattern
use Rattle.pp_typed.specs.declared.sort.GenericSort.{GenericSort}
use Rattle.pp_typed.specs.declared.sort.GenericSort.TheVariants as sort
use Rattle.pp_typed.specs.declared.typed.Typed.{Typed}
use Rattle.pp_typed.specs.declared.typed.TypedCtor.{TypedCtor}
use Rattle.pp_typed.specs.declared.typed.TypedDef.{TypedDef}
use Rattle.pp_typed.specs.declared.typed.TypedParam.{TypedParam}
use Rattle.pp_typed.specs.declared.typed.TypedRoot.{TypedRoot}

-- an Int is a number from -2^31 to 2^31 - 1
abbrev pub is_int : ℤ → Bool
is_int n = int_le (neg_ℤ (pos (2 ^ 31))) n && int_lt n (pos (2 ^ 31))

abbrev pub sort_of_param : TypedParam → GenericSort
sort_of_param p = p.of

-- the sorts of parameters
abbrev pub param_sorts : List TypedParam → List GenericSort
param_sorts = map sort_of_param

-- the constructors of a root, in order
abbrev pub ctors_of : List TypedCtor → ℕ → List TypedCtor
ctors_of ctors r = filter (λ c. nat_eq c.root r) ctors

-- what a pattern adds to the values in scope before its parts do: the value that it is matched with, or nothing
abbrev pub own_value : Bool → GenericSort → List GenericSort
own_value true s = s ∷ []
own_value false s = []

module _ (typed : Typed) where
  mutual
    -- a pattern of values of a sort binds values of these sorts: the outer before the inner, from left to right
    pub data Binds : GenericSort → TypedPattern → List GenericSort → Type 0 where
      binds_any : {s : GenericSort} {p : TypedPattern} → p.kind ≡ pattern.Any → Binds s p (own_value p.binds s)
      binds_int : {s : GenericSort} {p : TypedPattern} (n : ℤ) → p.kind ≡ pattern.Int n → s ≡ sort.Int
          → IsTrue (is_int n)
          → Binds s p (own_value p.binds s)
      binds_bool : {s : GenericSort} {p : TypedPattern} (b : Bool) → p.kind ≡ pattern.Bool b → s ≡ sort.Bool
          → Binds s p (own_value p.binds s)
      binds_ctor : {s : GenericSort} {p : TypedPattern} {inner : List GenericSort} (c : ℕ) (k : TypedCtor)
          (args : List GenericSort) (parts : List TypedPattern) → p.kind ≡ pattern.Ctor c parts
          → slice_get typed.ctors c ≡ Some k → s ≡ sort.Root k.root args
          → BindEach (map (put args) k.fields) parts inner
          → Binds s p (own_value p.binds s ++ inner)

    -- a pattern for each sort, and none is left over
    pub data BindEach : List GenericSort → List TypedPattern → List GenericSort → Type 0 where
      bind_none : BindEach [] [] []
      bind_more : {s : GenericSort} {ss : List GenericSort} {p : TypedPattern} {ps : List TypedPattern}
          {here more : List GenericSort} → Binds s p here → BindEach ss ps more
          → BindEach (s ∷ ss) (p ∷ ps) (here ++ more)

  -- in a declaration with so many type parameters
  module _ (params : ℕ) where
    mutual
      -- an expression, with the values of these sorts in scope, has the sort that it carries, and so have its parts
      pub data IsSorted : List GenericSort → TypedExpr → Type 0 where
        sorted_int : {scope : List GenericSort} {e : TypedExpr} (n : ℤ) → e.kind ≡ kind.Int n → e.of ≡ sort.Int
            → IsTrue (is_int n) → IsSorted scope e
        sorted_bool : {scope : List GenericSort} {e : TypedExpr} (b : Bool) → e.kind ≡ kind.Bool b → e.of ≡ sort.Bool
            → IsSorted scope e
        sorted_local : {scope : List GenericSort} {e : TypedExpr} (i : ℕ) → e.kind ≡ kind.Local i
            → slice_get scope i ≡ Some e.of → IsSorted scope e
        sorted_call : {scope : List GenericSort} {e : TypedExpr} (f : ℕ) (d : TypedDef) (sorts : List GenericSort)
            (args : List TypedExpr) → e.kind ≡ kind.Call f sorts args → slice_get typed.defs f ≡ Some d
            → length sorts ≡ d.type_params → AreInRange typed.roots params sorts
            → AreSorted scope (map (put sorts) (param_sorts d.params)) args → e.of ≡ put sorts d.result
            → IsSorted scope e
        sorted_construct : {scope : List GenericSort} {e : TypedExpr} (c : ℕ) (k : TypedCtor) (root : TypedRoot)
            (sorts : List GenericSort) (args : List TypedExpr) → e.kind ≡ kind.Construct c sorts args
            → slice_get typed.ctors c ≡ Some k → slice_get typed.roots k.root ≡ Some root
            → length sorts ≡ root.type_params → AreInRange typed.roots params sorts
            → AreSorted scope (map (put sorts) k.fields) args → e.of ≡ sort.Root k.root sorts → IsSorted scope e
        sorted_field : {scope : List GenericSort} {e base : TypedExpr} (j : ℕ) (k : TypedCtor)
            (sorts : List GenericSort)
            (s : GenericSort) → e.kind ≡ kind.Field base j → IsSorted scope base → base.of ≡ sort.Root k.root sorts
            → ctors_of typed.ctors k.root ≡ k ∷ [] → slice_get k.fields j ≡ Some s → e.of ≡ put sorts s
            → IsSorted scope e
        sorted_unary : {scope : List GenericSort} {e a : TypedExpr} (op : UnaryOp) → e.kind ≡ kind.Unary op a
            → IsSorted scope a → a.of ≡ unary_sort op → e.of ≡ unary_sort op → IsSorted scope e
        sorted_binary : {scope : List GenericSort} {e a b : TypedExpr} (op : BinaryOp) → e.kind ≡ kind.Binary op a b
            → IsSorted scope a → IsSorted scope b → Operates op a.of b.of e.of → IsSorted scope e
        sorted_if : {scope : List GenericSort} {e c a b : TypedExpr} → e.kind ≡ kind.If c a b
            → IsSorted scope c → c.of ≡ sort.Bool → IsSorted scope a → a.of ≡ e.of → IsSorted scope b → b.of ≡ e.of
            → IsSorted scope e
        sorted_match : {scope : List GenericSort} {e m : TypedExpr} {c : TypedCase} {cs : List TypedCase}
            → e.kind ≡ kind.Match m (c ∷ cs) → IsSorted scope m → AreSortedCases scope m.of e.of (c ∷ cs)
            → IsSorted scope e
        sorted_val : {scope : List GenericSort} {e bound rest : TypedExpr} → e.kind ≡ kind.Val bound rest
            → IsSorted scope bound → IsSorted (scope ++ bound.of ∷ []) rest → rest.of ≡ e.of → IsSorted scope e
        sorted_assert : {scope : List GenericSort} {e c rest : TypedExpr} → e.kind ≡ kind.Assert c rest
            → IsSorted scope c → c.of ≡ sort.Bool → IsSorted scope rest → rest.of ≡ e.of → IsSorted scope e

      -- an expression for each sort, and none is left over
      pub data AreSorted : List GenericSort → List GenericSort → List TypedExpr → Type 0 where
        none_sorted : {scope : List GenericSort} → AreSorted scope [] []
        more_sorted : {scope : List GenericSort} {s : GenericSort} {ss : List GenericSort} {e : TypedExpr}
            {es : List TypedExpr} → IsSorted scope e → e.of ≡ s → AreSorted scope ss es
            → AreSorted scope (s ∷ ss) (e ∷ es)

      -- a guard, where one is written, is Boolean
      pub data IsSortedGuard : List GenericSort → Option TypedExpr → Type 0 where
        no_guard : {scope : List GenericSort} → IsSortedGuard scope None
        one_guard : {scope : List GenericSort} {g : TypedExpr} → IsSorted scope g → g.of ≡ sort.Bool
            → IsSortedGuard scope (Some g)

      -- cases of a matched value of the first sort, whose bodies have the second. Guard and body see what the pattern
      -- binds after the values in scope
      pub data AreSortedCases : List GenericSort → GenericSort → GenericSort → List TypedCase → Type 0 where
        no_cases : {scope : List GenericSort} {s of : GenericSort} → AreSortedCases scope s of []
        more_cases : {scope bound : List GenericSort} {s of : GenericSort} {c : TypedCase} {cs : List TypedCase}
            → Binds s (out-TypedCase c).pattern bound → IsSortedGuard (scope ++ bound) (out-TypedCase c).guard
            → IsSorted (scope ++ bound) (out-TypedCase c).body → (out-TypedCase c).body.of ≡ of
            → AreSortedCases scope s of cs → AreSortedCases scope s of (c ∷ cs)
