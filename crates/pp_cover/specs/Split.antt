-- Which matrices one is taken apart into, by a column: the answers of the private functions of src/split.rt. No public
-- clause speaks of them. Source: own.
use Rattle.std.specs.Prelude.{ℕ, suc, nat_lt, true, false, List, [], ◌∷◌, ◌++◌, Option, Some, None, drop, length, take}
use Rattle.std.specs.Prelude.{slice_get}
use Rattle.pp_prog.specs.declared.sort.Sort.{Sort}
use Rattle.pp_prog.specs.declared.sort.Sort.TheVariants as sort
use Rattle.pp_prog.specs.declared.types.Ctor.{Ctor}
use Rattle.pp_prog.specs.declared.types.Datatype.{Datatype}
use Rattle.pp_prog.specs.declared.types.TypeTable.{TypeTable}
use Rattle.pp_cover.specs.declared.constraint.Head.{Head}
use Rattle.pp_cover.specs.declared.constraint.Head.TheVariants as head
use Rattle.pp_cover.specs.declared.matrix.Matrix.{Matrix}
use Rattle.pp_cover.specs.Matrix.{default_matrix, keep_if, names, specialize}

-- the head of the trees of constructor number c
abbrev pub ctor_head : ℕ → Head
ctor_head c = head.Tree (record { 0 = c })

-- the constructors of a datatype
abbrev pub block_of : List Ctor → Option Datatype → List Ctor
block_of ctors None = []
block_of ctors (Some t) = take t.count (drop t.first.0 ctors)

-- the number of the first of them
abbrev pub first_of : Option Datatype → ℕ
first_of None = 0
first_of (Some t) = t.first.0

module _ (m : Matrix) (k : ℕ) where
  -- a matrix for each constructor that some row names in column k; the first has the number c
  abbrev pub named_parts : ℕ → List Ctor → List Matrix
  named_parts c [] = []
  named_parts c (ctor ∷ ctors) =
      keep_if (names k (ctor_head c) m.rows) (specialize m k (ctor_head c) ctor.fields) (named_parts (suc c) ctors)

  -- where that leaves constructors over, all of them have one matrix
  abbrev pub tree_parts : ℕ → List Ctor → List Matrix
  tree_parts c ctors =
      let named = named_parts c ctors in
      named ++ keep_if (nat_lt (length named) (length ctors)) (default_matrix m k) []

  abbrev pub bool_parts : List Matrix
  bool_parts = specialize m k (head.Bool true) [] ∷ specialize m k (head.Bool false) [] ∷ []

  abbrev pub data_parts : List Ctor → Option Datatype → List Matrix
  data_parts ctors t = tree_parts (first_of t) (block_of ctors t)

  -- some number is named by no row, and what covers it covers all numbers
  abbrev pub parts_by : TypeTable → Option Sort → List Matrix
  parts_by table None = []
  parts_by table (Some sort.Int) = default_matrix m k ∷ []
  parts_by table (Some sort.Bool) = bool_parts
  parts_by table (Some (sort.Tree d)) = data_parts table.ctors (slice_get table.datatypes d.0)

-- the matrices that together stand for this one
abbrev pub parts : TypeTable → Matrix → ℕ → List Matrix
parts table m k = parts_by m k table (slice_get m.sorts k)
