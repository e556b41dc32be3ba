-- Each instance is proper.
use Rattle.std.proofs.Common.{◌≡◌, ℕ, List, length, Some, refl, sym, ap, ◌∙◌, subst}
use Rattle.std.specs.Prelude.{Contains, slice_get}
use Rattle.pp_instances.specs.Closure.{AreInstances}
use Rattle.pp_instances.specs.Uses.{function_at, root_at}
use Rattle.pp_instances.specs.declared.member.Decl.TheVariants.{Function, Root}
use Rattle.pp_instances.specs.declared.member.Member.{Member}
use Rattle.pp_members.proofs.Closed.{proper_members}
use Rattle.pp_members.specs.Proper.{IsProper, of_function, of_root}
use Rattle.pp_typed.specs.InRange.{AreInRange}
use Rattle.pp_typed.specs.WellSorted.{IsWellSorted}
use Rattle.pp_typed.specs.declared.sort.GenericSort.{GenericSort}
use Rattle.pp_typed.specs.declared.typed.Typed.{Typed}
use Rattle.pp_typed.specs.declared.typed.TypedDef.{TypedDef}
use Rattle.pp_typed.specs.declared.typed.TypedRoot.{TypedRoot}

-- each instance is one of a declaration, at as many sorts without parameters as that has type parameters
pub members_are_proper : (typed : Typed) (ms : List Member) → IsWellSorted typed → AreInstances typed ms
    → (m : Member) → Contains ms m → IsProper typed m
members_are_proper typed ms well is m has = proper_members typed ms well is m has

-- what a proper instance of a function is of
pub record IsFunctionInstance (typed : Typed) (f : ℕ) (args : List GenericSort) : Type 0 where
  pub d : TypedDef
  pub declared : slice_get typed.defs f ≡ Some d
  pub all : length args ≡ d.type_params
  pub ground : AreInRange typed.roots 0 args

-- what a proper instance of a root is of
pub record IsRootInstance (typed : Typed) (r : ℕ) (args : List GenericSort) : Type 0 where
  pub root : TypedRoot
  pub declared : slice_get typed.roots r ≡ Some root
  pub all : length args ≡ root.type_params
  pub ground : AreInRange typed.roots 0 args

module _ (typed : Typed) where
  function_by : {m : Member} (f : ℕ) (args : List GenericSort) → IsProper typed m → m ≡ function_at f args
      → IsFunctionInstance typed f args
  function_by f args (of_function g d parts is declared all each) e =
      let of : Function g ≡ Function f = ap (λ (z : Member). z.of) (sym is ∙ e) in
      let are : parts ≡ args = ap (λ (z : Member). z.args) (sym is ∙ e) in
      let number : g ≡ f = cc in
      record {
        d = d;
        declared = ap (slice_get typed.defs) (sym number) ∙ declared;
        all = ap length (sym are) ∙ all;
        ground = subst (AreInRange typed.roots 0) are each;
      }
  function_by f args (of_root r root parts is declared all each) e =
      let no : Root r ≡ Function f = ap (λ (z : Member). z.of) (sym is ∙ e) in cc

  root_by : {m : Member} (r : ℕ) (args : List GenericSort) → IsProper typed m → m ≡ root_at r args
      → IsRootInstance typed r args
  root_by r args (of_root q root parts is declared all each) e =
      let of : Root q ≡ Root r = ap (λ (z : Member). z.of) (sym is ∙ e) in
      let are : parts ≡ args = ap (λ (z : Member). z.args) (sym is ∙ e) in
      let number : q ≡ r = cc in
      record {
        root = root;
        declared = ap (slice_get typed.roots) (sym number) ∙ declared;
        all = ap length (sym are) ∙ all;
        ground = subst (AreInRange typed.roots 0) are each;
      }
  root_by r args (of_function f d parts is declared all each) e =
      let no : Function f ≡ Root r = ap (λ (z : Member). z.of) (sym is ∙ e) in cc

  pub function_instance : (f : ℕ) (args : List GenericSort) → IsProper typed (function_at f args)
      → IsFunctionInstance typed f args
  function_instance f args h = function_by f args h refl

  pub root_instance : (r : ℕ) (args : List GenericSort) → IsProper typed (root_at r args) → IsRootInstance typed r args
  root_instance r args h = root_by r args h refl
