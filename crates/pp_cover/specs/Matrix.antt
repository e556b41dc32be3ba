-- What matrices of constraints mean, and what is left of one where the head of a column's value is known. The public
-- clause of this crate, that of `covered`, speaks of values and patterns alone: what stands here is what its steps keep
-- true and what private functions answer, and no meaning rests on it.
-- Source: L. Maranget, "Warnings for pattern matching", 2007: `specialize` gives its specialized matrix, and
-- `default_matrix` its default matrix.
use Rattle.std.specs.Prelude.{ℕ, nat_eq, Bool, true, false, not, ◌&&◌, ◌||◌, List, [], ◌∷◌, ◌++◌, length, IsTrue}
use Rattle.pp_prog.specs.declared.sort.Sort.{Sort}
use Rattle.pp_prog.specs.declared.types.Ctor.{Ctor}
use Rattle.pp_prog.specs.declared.value.Value.{Value}
use Rattle.pp_prog.specs.Sorts.{have_sorts}
use Rattle.pp_cover.specs.declared.constraint.Constraint.{Constraint}
use Rattle.pp_cover.specs.declared.constraint.Head.{Head}
use Rattle.pp_cover.specs.declared.matrix.Matrix.{Matrix}
use Rattle.pp_cover.specs.Constraint.{placed, row_fits, same_head}

-- the values satisfy each constraint of some row
abbrev pub any_fits : List (List Constraint) → List Value → Bool
any_fits [] vs = false
any_fits (row ∷ rows) vs = row_fits row vs || any_fits rows vs

-- all values of the columns' sorts satisfy each constraint of some row
abbrev pub CoversMatrix : List Ctor → Matrix → Type 0
CoversMatrix ctors m = (vs : List Value) → IsTrue (have_sorts ctors vs m.sorts) → IsTrue (any_fits m.rows vs)

abbrev pub AllCovered : List Ctor → List Matrix → Type 0
AllCovered ctors [] = Unit {0}
AllCovered ctors (m ∷ ms) = CoversMatrix ctors m × AllCovered ctors ms

abbrev pub is_in : ℕ → Constraint → Bool
is_in k c = nat_eq c.column k

-- the row constrains the value in column k
abbrev pub mentions : ℕ → List Constraint → Bool
mentions k [] = false
mentions k (c ∷ row) = is_in k c || mentions k row

abbrev pub any_mentions : ℕ → List (List Constraint) → Bool
any_mentions k [] = false
any_mentions k (row ∷ rows) = mentions k row || any_mentions k rows

-- some constraint on the value in column k is that it has this head
abbrev pub names_in_row : ℕ → Head → List Constraint → Bool
names_in_row k h [] = false
names_in_row k h (c ∷ row) = (is_in k c && same_head c.head h) || names_in_row k h row

abbrev pub names : ℕ → Head → List (List Constraint) → Bool
names k h [] = false
names k h (row ∷ rows) = names_in_row k h row || names k h rows

abbrev pub implies : Bool → Bool → Bool
implies true b = b
implies false b = true

-- a value with this head, and with so many fields, can satisfy the constraint
abbrev pub can_satisfy : Head → ℕ → Constraint → Bool
can_satisfy h arity c = same_head c.head h && nat_eq (length c.fields) arity

-- such a value in column k can satisfy each constraint of the row there
abbrev pub admits : ℕ → Head → ℕ → List Constraint → Bool
admits k h arity [] = true
admits k h arity (c ∷ row) = implies (is_in k c) (can_satisfy h arity c) && admits k h arity row

abbrev pub specialized_if : Bool → ℕ → Constraint → List Constraint
specialized_if true n c = placed n c.fields
specialized_if false n c = c ∷ []

-- the row with the constraints on the value in column k replaced by those on its fields, in the columns from n on
abbrev pub specialized_row : ℕ → ℕ → List Constraint → List Constraint
specialized_row k n [] = []
specialized_row k n (c ∷ row) = specialized_if (is_in k c) n c ++ specialized_row k n row

abbrev pub keep_if : {A : Type 0} → Bool → A → List A → List A
keep_if true x xs = x ∷ xs
keep_if false x xs = xs

abbrev pub specialized_rows : ℕ → Head → ℕ → ℕ → List (List Constraint) → List (List Constraint)
specialized_rows k h arity n [] = []
specialized_rows k h arity n (row ∷ rows) =
    keep_if (admits k h arity row) (specialized_row k n row) (specialized_rows k h arity n rows)

-- the rows that don't constrain the value in column k
abbrev pub default_rows : ℕ → List (List Constraint) → List (List Constraint)
default_rows k [] = []
default_rows k (row ∷ rows) = keep_if (not (mentions k row)) row (default_rows k rows)

-- the matrix where the value in column k has this head: its fields, of these sorts, get columns at the end
abbrev pub specialize : Matrix → ℕ → Head → List Sort → Matrix
specialize m k h fields =
    record { sorts = m.sorts ++ fields; rows = specialized_rows k h (length fields) (length m.sorts) m.rows }

-- the matrix where the value in column k has a head that no row names
abbrev pub default_matrix : Matrix → ℕ → Matrix
default_matrix m k = record { sorts = m.sorts; rows = default_rows k m.rows }
