-- What a visit of an expression meets, one after another, and what that costs. Source: own.
use Rattle.std.specs.Prelude.{ℕ, ◌+◌, nat_eq, Bool, true, false, List, [], ◌∷◌}
use Rattle.pp_prog.specs.declared.id.DataId.{DataId}
use Rattle.pp_prog.specs.declared.id.FunctionId.{FunctionId}

-- a node with its weight; a constructor pattern, a constructor expression or a field selection of a datatype; a call
-- of a function; a component of a datatype that is compared
pub data Event : Type 0 where
  work : ℕ → Event
  look : DataId → Event
  called : FunctionId → Event
  compare : Event

abbrev pub weight : Event → ℕ
weight (work n) = n
weight _ = 0

-- the sum of the weights
abbrev pub cost : List Event → ℕ
cost [] = 0
cost (e ∷ es) = weight e + cost es

abbrev pub one_if : Bool → ℕ
one_if true = 1
one_if false = 0

abbrev pub is_look : ℕ → Event → Bool
is_look d (look e) = nat_eq e.0 d
is_look d _ = false

abbrev pub is_call : ℕ → Event → Bool
is_call g (called f) = nat_eq f.0 g
is_call g _ = false

abbrev pub is_compare : Event → Bool
is_compare compare = true
is_compare _ = false

-- how many events pass the test
abbrev pub count : (Event → Bool) → List Event → ℕ
count test [] = 0
count test (e ∷ es) = one_if (test e) + count test es

-- the looks at datatype d, the calls of function g, and the comparisons
abbrev pub looks : List Event → ℕ → ℕ
looks es d = count (is_look d) es

abbrev pub calls : List Event → ℕ → ℕ
calls es g = count (is_call g) es

abbrev pub compares : List Event → ℕ
compares es = count is_compare es
