-- Which typed units are well sorted: each number is in range, each expression and each pattern has the sort that it
-- carries, each root has a value, and names tell roots and functions apart. Source: own.
use Rattle.std.specs.Prelude.{◌≡◌, ◌≢◌, ◌≤◌, ℕ, List, [], ◌∷◌, ◌++◌, Option, Some, None, All, Contains, length}
use Rattle.std.specs.Prelude.{slice_get}
use Rattle.pp_typed.specs.InRange.{IsInRange, AreInRange}
use Rattle.pp_typed.specs.Sorted.{IsSorted, ctors_of, param_sorts}
use Rattle.pp_typed.specs.Value.{IsInhabited}
use Rattle.pp_typed.specs.declared.expr.TypedExpr.{TypedExpr}
use Rattle.pp_typed.specs.declared.sort.GenericSort.{GenericSort}
use Rattle.pp_typed.specs.declared.sort.GenericSort.TheVariants as sort
use Rattle.pp_typed.specs.declared.typed.Typed.{Typed}
use Rattle.pp_typed.specs.declared.typed.TypedCtor.{TypedCtor}
use Rattle.pp_typed.specs.declared.typed.TypedDef.{TypedDef}
use Rattle.pp_typed.specs.declared.typed.TypedPost.{TypedPost}
use Rattle.pp_typed.specs.declared.typed.TypedRoot.{TypedRoot}

-- the most constructors of a root, and the most type parameters, fields and parameters of a declaration
abbrev pub most_ctors : ℕ
most_ctors = 64

abbrev pub most_type_params : ℕ
most_type_params = 4

abbrev pub most_fields : ℕ
most_fields = 16

-- a name that a printed type can hold: it has none of `,`, `[` and `]`
abbrev pub IsPlain : List ℕ → Type 0
IsPlain name = (b : ℕ) → Contains name b → (b ≢ 44) × (b ≢ 91) × (b ≢ 93)

-- the bytes of `Int` and of `Boolean`
abbrev pub int_name : List ℕ
int_name = 73 ∷ 110 ∷ 116 ∷ []

abbrev pub boolean_name : List ℕ
boolean_name = 66 ∷ 111 ∷ 111 ∷ 108 ∷ 101 ∷ 97 ∷ 110 ∷ []

module _ (typed : Typed) where
  -- the root at a place has from 1 to 64 constructors, at most four type parameters, a value, and a name that isn't
  -- that of another type
  pub record IsRoot (r : ℕ) (root : TypedRoot) : Type 0 where
    pub few_ctors : length (ctors_of typed.ctors r) ≤ most_ctors
    pub few_params : root.type_params ≤ most_type_params
    pub inhabited : IsInhabited typed.roots typed.ctors r root
    pub plain : IsPlain root.name
    pub no_int : root.name ≢ int_name
    pub no_boolean : root.name ≢ boolean_name

  -- a constructor is one of a root, and its fields speak of the root's type parameters
  pub record IsCtor (c : TypedCtor) : Type 0 where
    pub owner : TypedRoot
    pub declared : slice_get typed.roots c.root ≡ Some owner
    pub few_fields : length c.fields ≤ most_fields
    pub fields : AreInRange typed.roots owner.type_params c.fields

  -- an expression of the function has this sort
  abbrev pub HasSort : TypedDef → List GenericSort → GenericSort → TypedExpr → Type 0
  HasSort d scope s e = IsSorted typed d.type_params scope e × (e.of ≡ s)

  -- the claim of a postcondition sees the result after the parameters
  abbrev pub IsPost : TypedDef → Option TypedPost → Type 0
  IsPost d None = Unit {0}
  IsPost d (Some post) = HasSort d (param_sorts d.params ++ d.result ∷ []) sort.Bool post.claim

  -- a function: its sorts are in range, each `require` and the claim of its postcondition are Boolean, its measure's
  -- components have sorts, and its body has that of its result
  pub record IsDef (d : TypedDef) : Type 0 where
    pub few_type_params : d.type_params ≤ most_type_params
    pub few_params : length d.params ≤ most_fields
    pub params : AreInRange typed.roots d.type_params (param_sorts d.params)
    pub result : IsInRange typed.roots d.type_params d.result
    pub pre : All (HasSort d (param_sorts d.params) sort.Bool) d.pre
    pub measure : All (IsSorted typed d.type_params (param_sorts d.params)) d.measure
    pub body : HasSort d (param_sorts d.params) d.result d.body
    pub post : IsPost d d.post
    pub plain : IsPlain d.name

-- no two roots have one name, and no two functions have
abbrev pub RootsDiffer : List TypedRoot → Type 0
RootsDiffer roots = (i j : ℕ) (a b : TypedRoot) → slice_get roots i ≡ Some a → slice_get roots j ≡ Some b
    → a.name ≡ b.name → i ≡ j

abbrev pub DefsDiffer : List TypedDef → Type 0
DefsDiffer defs = (i j : ℕ) (a b : TypedDef) → slice_get defs i ≡ Some a → slice_get defs j ≡ Some b → a.name ≡ b.name
    → i ≡ j

-- the typed units are well sorted
pub record IsWellSorted (typed : Typed) : Type 0 where
  pub roots : (r : ℕ) (root : TypedRoot) → slice_get typed.roots r ≡ Some root → IsRoot typed r root
  pub ctors : All (IsCtor typed) typed.ctors
  pub defs : All (IsDef typed) typed.defs
  pub roots_differ : RootsDiffer typed.roots
  pub defs_differ : DefsDiffer typed.defs
