-- The sizes of a sort grow with the height.
use Rattle.std.proofs.Common.{◌≤◌, ℕ, zero, suc, length, arith}
use Rattle.pp_prog.specs.declared.sort.Sort.{Sort}
use Rattle.pp_prog.specs.declared.sort.Sort.TheVariants as sort
use Rattle.pp_prog.specs.declared.types.TypeTable.{TypeTable}
use Rattle.pp_prog.specs.Sizes.{bits, ctors_of, fields_of, height_at, nodes}
use Rattle.pp_estimate_laws.proofs.Numbers.{le_same, plus_grows, sum_grows}
use Rattle.pp_list.proofs.Numbers.{less_one, none_below}

pub bits_grow : (types : TypeTable) (h k : ℕ) (s : Sort) → h ≤ k → bits types h s ≤ bits types k s
bits_grow types zero zero s le = le_same (bits types zero s)
bits_grow types zero (suc k) sort.Int le = le_same 32
bits_grow types zero (suc k) sort.Bool le = le_same 1
bits_grow types zero (suc k) (sort.Tree d) le = none_below _
bits_grow types (suc h) zero s le = absurd (omega arith)
bits_grow types (suc h) (suc k) sort.Int le = le_same 32
bits_grow types (suc h) (suc k) sort.Bool le = le_same 1
bits_grow types (suc h) (suc k) (sort.Tree d) le =
    plus_grows (length (ctors_of types d)) (length (ctors_of types d)) _ _ (le_same _)
    (sum_grows (bits types h) (bits types k) (fields_of types d) (λ s. bits_grow types h k s (less_one h k le)))

pub nodes_grow : (types : TypeTable) (h k : ℕ) (s : Sort) → h ≤ k → nodes types h s ≤ nodes types k s
nodes_grow types zero zero s le = le_same (nodes types zero s)
nodes_grow types zero (suc k) sort.Int le = le_same 0
nodes_grow types zero (suc k) sort.Bool le = le_same 0
nodes_grow types zero (suc k) (sort.Tree d) le = none_below _
nodes_grow types (suc h) zero s le = absurd (omega arith)
nodes_grow types (suc h) (suc k) sort.Int le = le_same 0
nodes_grow types (suc h) (suc k) sort.Bool le = le_same 0
nodes_grow types (suc h) (suc k) (sort.Tree d) le =
    plus_grows 1 1 _ _ (le_same 1)
    (sum_grows (nodes types h) (nodes types k) (fields_of types d) (λ s. nodes_grow types h k s (less_one h k le)))

pub height_grows : (h k : ℕ) (s : Sort) → h ≤ k → height_at h s ≤ height_at k s
height_grows h k sort.Int le = le_same 0
height_grows h k sort.Bool le = le_same 0
height_grows h k (sort.Tree d) le = le
