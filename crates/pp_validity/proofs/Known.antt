-- What is known of the numbers of a program whose members are closed: each instance that is used is found.
use Rattle.std.proofs.Common.{◌≡◌, ℕ, List, [], ◌∷◌, map, length}
use Rattle.std.specs.Prelude.{◌↔◌, IsTrue, Some, slice_get, Contains}
use Rattle.pp_instances.specs.Same.{place_of}
use Rattle.pp_instances.specs.Uses.{function_at, root_at, types_in}
use Rattle.pp_instances.specs.declared.member.Member.{Member}
use Rattle.pp_prog.specs.Calls.{OneGroup}
use Rattle.pp_prog.specs.Sorts.{param_sorts as sorts_of_params}
use Rattle.pp_prog.specs.Valid.{has_measure, has_precondition}
use Rattle.pp_prog.specs.declared.expr.Function.{Function}
use Rattle.pp_prog.specs.declared.types.Datatype.{Datatype}
use Rattle.pp_translation.specs.Numbers.{ctor_at, ctor_number, function_number, sort_at}
use Rattle.pp_translation.specs.Numbered.{has_measure as has_typed_measure, has_pre, same_number}
use Rattle.pp_translation.specs.Setting.{Setting}
use Rattle.pp_translation.specs.declared.frame.Frame.{Frame}
use Rattle.pp_typed.specs.InRange.{AreInRange, IsInRange}
use Rattle.pp_typed.specs.Put.{put}
use Rattle.pp_typed.specs.Sorted.{ctors_of, param_sorts}
use Rattle.pp_typed.specs.declared.sort.GenericSort.{GenericSort}
use Rattle.pp_typed.specs.declared.typed.Typed.{Typed}
use Rattle.pp_typed.specs.declared.typed.TypedCtor.{TypedCtor}
use Rattle.pp_typed.specs.declared.typed.TypedDef.{TypedDef}
use Rattle.pp_typed.specs.declared.typed.TypedRoot.{TypedRoot}

-- the types that a sort is made of are members
abbrev pub HasTypes : List Member → GenericSort → Type 0
HasTypes ms s = (m : Member) → Contains (types_in s) m → Contains ms m

pub record IsFunctionAt (set : Setting) (fs : List Function) (f : ℕ) (d : TypedDef) (args : List GenericSort) : Type 0
  where
    pub g : Function
    pub found : slice_get fs (function_number set.functions f args).0 ≡ Some g
    pub params : sorts_of_params g.params ≡ map (sort_at set.roots args) (param_sorts d.params)
    pub result : g.result ≡ sort_at set.roots args d.result

pub record IsOnlyAt (typed : Typed) (set : Setting) (r : ℕ) (k : TypedCtor) (args : List GenericSort) : Type 0 where
  pub c : ℕ
  pub declared : slice_get typed.ctors c ≡ Some k
  pub t : Datatype
  pub found : slice_get set.types.datatypes (place_of set.roots (root_at r args)) ≡ Some t
  pub one : t.count ≡ 1
  pub first : slice_get set.types.ctors t.first.0 ≡ Some
      (ctor_at typed set.roots (place_of set.roots (root_at r args)) args k)

-- the numbers of the program are those of these members, which are closed, and its functions have the sorts of theirs
pub record IsKnown (typed : Typed) (set : Setting) (ms : List Member) (fs : List Function) : Type 0 where
  pub ctors : (c : ℕ) (k : TypedCtor) (args : List GenericSort) → slice_get typed.ctors c ≡ Some k
      → Contains ms (root_at k.root args)
      → slice_get set.types.ctors (ctor_number typed.ctors set.roots c args).0 ≡ Some
      (ctor_at typed set.roots (place_of set.roots (root_at k.root args)) args k)
  pub only : (k : TypedCtor) (args : List GenericSort) → ctors_of typed.ctors k.root ≡ k ∷ []
      → Contains ms (root_at k.root args) → IsOnlyAt typed set k.root k args
  pub functions : (f : ℕ) (d : TypedDef) (args : List GenericSort) → slice_get typed.defs f ≡ Some d
      → Contains ms (function_at f args) → IsFunctionAt set fs f d args
  pub fields : (c : ℕ) (k : TypedCtor) (args : List GenericSort) → slice_get typed.ctors c ≡ Some k
      → Contains ms (root_at k.root args)
      → (s : GenericSort) → Contains k.fields s → HasTypes ms (put args s)
  pub owner : (c : ℕ) (k : TypedCtor) → slice_get typed.ctors c ≡ Some k → (root : TypedRoot)
      × (slice_get typed.roots k.root ≡ Some root) × AreInRange typed.roots root.type_params k.fields
  pub signature : (f : ℕ) (d : TypedDef) → slice_get typed.defs f ≡ Some d
      → AreInRange typed.roots d.type_params (param_sorts d.params) × IsInRange typed.roots d.type_params d.result
  pub whole : (r : ℕ) (root : TypedRoot) (args : List GenericSort) → slice_get typed.roots r ≡ Some root
      → Contains ms (root_at r args) → length args ≡ root.type_params

-- what is known of the contracts and the groups of the functions of a program
pub record IsGrouped (typed : Typed) (set : Setting) (ms : List Member) (fs : List Function) (own : Frame) : Type 0
  where
    pub pres : (f : ℕ) (d : TypedDef) (args : List GenericSort) → slice_get typed.defs f ≡ Some d
        → Contains ms (function_at f args)
        → has_precondition (slice_get fs (function_number set.functions f args).0) ≡ has_pre (slice_get typed.defs f)
    pub measures : (f : ℕ) (d : TypedDef) (args : List GenericSort) → slice_get typed.defs f ≡ Some d
        → Contains ms (function_at f args)
        → has_measure (slice_get fs (function_number set.functions f args).0)
        ≡ has_typed_measure (slice_get typed.defs f)
    pub measured : own.measured ≡ has_measure (slice_get fs own.number)
    pub grouped : (g : ℕ) (h : Function) → slice_get fs g ≡ Some h
        → IsTrue (same_number (slice_get set.groups own.number) (slice_get set.groups g)) ↔ OneGroup fs own.number g
