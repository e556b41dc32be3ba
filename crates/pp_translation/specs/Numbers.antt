-- The numbers of instances, and the table of datatypes: the constructors of each datatype are those of its root, in
-- program order. Source: own.
use Rattle.std.specs.Prelude.{ℕ, suc, ◌+◌, List, [], ◌∷◌, ◌++◌, map, take, length, Option, Some, None, slice_get}
use Rattle.std.specs.List.{sum_by}
use Rattle.pp_instances.specs.Order.{MemberOf}
use Rattle.pp_instances.specs.Same.{place_of}
use Rattle.pp_instances.specs.Uses.{function_at, root_at}
use Rattle.pp_instances.specs.declared.member.Decl.{Decl}
use Rattle.pp_instances.specs.declared.member.Decl.TheVariants.{Function, Root}
use Rattle.pp_instances.specs.declared.member.Instance.{Instance}
use Rattle.pp_instances.specs.declared.member.Member.{Member}
use Rattle.pp_prog.specs.declared.id.CtorId.{CtorId}
use Rattle.pp_prog.specs.declared.id.DataId.{DataId}
use Rattle.pp_prog.specs.declared.id.FunctionId.{FunctionId}
use Rattle.pp_prog.specs.declared.sort.Sort.{Sort}
use Rattle.pp_prog.specs.declared.sort.Sort.TheVariants as prog
use Rattle.pp_prog.specs.declared.types.Ctor.{Ctor}
use Rattle.pp_prog.specs.declared.types.Datatype.{Datatype}
use Rattle.pp_typed.specs.Put.{put}
use Rattle.pp_typed.specs.Sorted.{ctors_of}
use Rattle.pp_typed.specs.declared.sort.GenericSort.{GenericSort}
use Rattle.pp_typed.specs.declared.sort.GenericSort.TheOpen as layer
use Rattle.pp_typed.specs.declared.sort.GenericSort.TheViews.{out-GenericSort}
use Rattle.pp_typed.specs.declared.typed.Typed.{Typed}
use Rattle.pp_typed.specs.declared.typed.TypedCtor.{TypedCtor}

-- the member that an instance of a kind stands for
abbrev pub stands_for : MemberOf → Instance → Member
stands_for kind i = record { of = kind i.number; args = i.args }

-- the function of the program that a function is at these arguments
abbrev pub function_number : List Member → ℕ → List GenericSort → FunctionId
function_number functions f args = record { 0 = place_of functions (function_at f args) }

-- the datatype of the program that a root is at these arguments
abbrev pub data_number : List Member → ℕ → List GenericSort → DataId
data_number roots r args = record { 0 = place_of roots (root_at r args) }

abbrev pub sort_of_layer : List Member → layer.GenericSort-F GenericSort → Sort
sort_of_layer roots layer.Int = prog.Int
sort_of_layer roots layer.Bool = prog.Bool
sort_of_layer roots (layer.Param i) = prog.Int
sort_of_layer roots (layer.Root r args) = prog.Tree (data_number roots r args)

-- the sort of the program that a sort without type parameters is
abbrev pub program_sort : List Member → GenericSort → Sort
program_sort roots s = sort_of_layer roots (out-GenericSort s)

-- the sort of the program that a sort is at these arguments
abbrev pub sort_at : List Member → List GenericSort → GenericSort → Sort
sort_at roots args s = program_sort roots (put args s)

-- the arguments of a root
abbrev pub args_in_layer : layer.GenericSort-F GenericSort → List GenericSort
args_in_layer layer.Int = []
args_in_layer layer.Bool = []
args_in_layer (layer.Param i) = []
args_in_layer (layer.Root r args) = args

abbrev pub args_of : GenericSort → List GenericSort
args_of s = args_in_layer (out-GenericSort s)

abbrev pub decl_number : Decl → ℕ
decl_number (Function f) = f
decl_number (Root r) = r

abbrev pub fields_of : Option TypedCtor → List GenericSort
fields_of None = []
fields_of (Some c) = c.fields

-- the place of constructor c among those of its root
abbrev pub rank_of : List TypedCtor → ℕ → TypedCtor → ℕ
rank_of all c k = length (ctors_of (take c all) k.root)

-- how many constructors a datatype has
abbrev pub count_of : List TypedCtor → Member → ℕ
count_of all m = length (ctors_of all (decl_number m.of))

-- among these constructors and these datatypes
module _ (all : List TypedCtor) (roots : List Member) where
  -- the first constructor of the datatype with this number
  abbrev pub first_of : ℕ → ℕ
  first_of d = sum_by (count_of all) (take d roots)

  abbrev pub ctor_if : ℕ → List GenericSort → Option TypedCtor → CtorId
  ctor_if c args None = record { 0 = 0 }
  ctor_if c args (Some k) = record { 0 = first_of (place_of roots (root_at k.root args)) + rank_of all c k }

  -- the constructor of the program that constructor c is at these arguments
  abbrev pub ctor_number : ℕ → List GenericSort → CtorId
  ctor_number c args = ctor_if c args (slice_get all c)

-- the table of the datatypes of a program
module _ (typed : Typed) (roots : List Member) where
  abbrev pub ctor_at : ℕ → List GenericSort → TypedCtor → Ctor
  ctor_at d args c = record {
    name = c.name;
    of = record { 0 = d };
    fields = map (sort_at roots args) c.fields;
    object =
        c.object;
  }

  -- the constructors of the datatype with the number d
  abbrev pub ctors_at : ℕ → Member → List Ctor
  ctors_at d m = map (ctor_at d m.args) (ctors_of typed.ctors (decl_number m.of))

  abbrev pub ctors_from : ℕ → List Member → List Ctor
  ctors_from d [] = []
  ctors_from d (m ∷ ms) = ctors_at d m ++ ctors_from (suc d) ms

  -- the constructors of the program
  abbrev pub ctors : List Ctor
  ctors = ctors_from 0 roots

-- the datatypes of the program that stand behind so many constructors
abbrev pub datatypes_from : List TypedCtor → ℕ → List Instance → List Datatype
datatypes_from all first [] = []
datatypes_from all first (i ∷ is) =
    let count = count_of all (stands_for Root i) in
    record { name = i.name; first = record { 0 = first }; count = count } ∷ datatypes_from all (first + count) is

-- the datatypes of the program
abbrev pub datatypes : Typed → List Instance → List Datatype
datatypes typed roots = datatypes_from typed.ctors 0 roots
