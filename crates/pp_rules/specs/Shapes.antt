-- What is applied, and what is selected. Source: own.
use Rattle.std.specs.Prelude.{ℕ, zero, suc, nat_lt, Bool, true, false, if◌then◌else◌, List, [], ◌∷◌, ◌++◌, length}
use Rattle.std.specs.Prelude.{Option, Some, None, option_map, slice_get}
use Rattle.pp_names.specs.Find.{ctors_of, find_ctor, find_function}
use Rattle.pp_names.specs.Places.{place_of}
use Rattle.pp_tree.specs.Plain.{Word}
use Rattle.pp_typed.specs.declared.declared.Declared.{Declared}
use Rattle.pp_typed.specs.declared.declared.Signature.{Signature}
use Rattle.pp_typed.specs.declared.expr.TypedExpr.{TypedExpr}
use Rattle.pp_typed.specs.declared.expr.TypedKind.{TypedKind}
use Rattle.pp_typed.specs.declared.expr.TypedKind.TheVariants as kind
use Rattle.pp_typed.specs.declared.sort.GenericSort.{GenericSort}
use Rattle.pp_typed.specs.declared.sort.GenericSort.TheVariants as sort
use Rattle.pp_typed.specs.declared.typed.TypedCtor.{TypedCtor}
use Rattle.pp_typed.specs.declared.typed.TypedRoot.{TypedRoot}
use Rattle.pp_rules.specs.declared.callee.Callee.{Callee}
use Rattle.pp_rules.specs.declared.callee.Target.{Target}
use Rattle.pp_rules.specs.declared.callee.Target.TheVariants.{Function, Ctor}

-- the application of a target to type arguments and arguments
abbrev pub application : Target → List GenericSort → List TypedExpr → TypedKind
application (Function i) sorts es = kind.Call i sorts es
application (Ctor i) sorts es = kind.Construct i sorts es

abbrev pub function_callee : ℕ → Signature → Callee
function_callee i s =
    record { target = Function i; type_params = s.type_params; params = s.params; result = s.result }

-- the first n parameters of a declaration, as sorts
abbrev pub own_params : ℕ → List GenericSort
own_params zero = []
own_params (suc n) = own_params n ++ sort.Param n ∷ []

-- a constructor gives its root at the root's own parameters
abbrev pub ctor_callee : ℕ → TypedCtor → TypedRoot → Callee
ctor_callee i c r = record {
  target = Ctor i;
  type_params = r.type_params;
  params = c.fields;
  result = sort.Root c.root (own_params r.type_params);
}

-- the one element of a list that has one
abbrev pub the_only : List ℕ → Option ℕ
the_only [] = None
the_only (c ∷ []) = Some c
the_only (c ∷ e ∷ cs) = None

module _ (d : Declared) where
  -- the function at this place
  abbrev pub function_at : Option ℕ → Option Callee
  function_at None = None
  function_at (Some i) = option_map (function_callee i) (slice_get d.functions i)

  abbrev pub ctor_of_root : ℕ → Option TypedCtor → Option Callee
  ctor_of_root i None = None
  ctor_of_root i (Some c) = option_map (ctor_callee i c) (slice_get d.roots c.root)

  -- the constructor at this place
  abbrev pub ctor_at : Option ℕ → Option Callee
  ctor_at None = None
  ctor_at (Some i) = ctor_of_root i (slice_get d.ctors i)

  -- the place of a function, where it has no parameter list
  abbrev pub is_bare_function : Option Signature → Bool
  is_bare_function None = false
  is_bare_function (Some s) = if s.list then false else true

  abbrev pub bare_function : Option ℕ → Option ℕ
  bare_function None = None
  bare_function (Some i) = if is_bare_function (slice_get d.functions i) then Some i else None

  abbrev pub is_object : Option TypedCtor → Bool
  is_object None = false
  is_object (Some c) = c.object

  -- the place of a constructor, where it is a case object
  abbrev pub case_object : Option ℕ → Option ℕ
  case_object None = None
  case_object (Some i) = if is_object (slice_get d.ctors i) then Some i else None

  abbrev pub or_else : Option Callee → Option Callee → Option Callee
  or_else None b = b
  or_else (Some a) b = Some a

  -- what an application of a name applies: the function of that name or, where there is none, the constructor
  abbrev pub applied_by : Word → Option Callee
  applied_by w = or_else (function_at (find_function d w)) (ctor_at (find_ctor d w))

  -- what a name that is no local stands for: a function without a parameter list or, where there is none, a case object
  abbrev pub named_by : Word → Option Callee
  named_by w = or_else (function_at (bare_function (find_function d w))) (ctor_at (case_object (find_ctor d w)))

  -- the one constructor of a root that has one
  abbrev pub only_ctor : ℕ → Option ℕ
  only_ctor r = if nat_lt r (length d.roots) then the_only (ctors_of d r) else None

  abbrev pub place_in : Word → Option (List Word) → Option ℕ
  place_in w None = None
  place_in w (Some ws) = place_of w ws

  -- the place of the field of this name among the fields of a constructor
  abbrev pub field_place : ℕ → Word → Option ℕ
  field_place c w = place_in w (slice_get d.field_names c)

  abbrev pub field_of : ℕ → Option TypedCtor → Option GenericSort
  field_of j None = None
  field_of j (Some c) = slice_get c.fields j

  -- the declared sort of a field
  abbrev pub field_sort : ℕ → ℕ → Option GenericSort
  field_sort c j = field_of j (slice_get d.ctors c)
