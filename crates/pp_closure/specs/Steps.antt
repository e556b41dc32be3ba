-- What is read off a step that was looked up. Source: own.
use Rattle.std.specs.Prelude.{◌≡◌, ℕ, suc, nat_eq, Bool, true, false, if◌then◌else◌, Option, Some, None, slice_get}
use Rattle.std.specs.Prelude.{List, [], ◌∷◌}
use Rattle.pp_tree.specs.declared.operator.BinaryOp.{BinaryOp}
use Rattle.pp_tree.specs.declared.operator.BinaryOp.TheVariants.{Add, Sub, Mul, Rem, Equal, Differ, And, Or, Xor}
use Rattle.pp_prog.specs.declared.id.CtorId.{CtorId}
use Rattle.pp_prog.specs.declared.sort.Sort.{Sort}
use Rattle.pp_prog.specs.declared.sort.Sort.TheVariants as sort
use Rattle.pp_prog.specs.declared.value.Value.{Value}
use Rattle.pp_prog.specs.declared.value.Value.TheVariants.{Bool as Truth}
use Rattle.pp_steps.specs.Meaning.{Missing, applied, ctor_field, value_or}
use Rattle.pp_steps.specs.declared.step.Step.{Step}
use Rattle.pp_steps.specs.declared.step.Step.TheVariants as steps
use Rattle.pp_closure.specs.declared.additions.Addition.{Addition}
use Rattle.pp_closure.specs.declared.orders.Order.{Order}
use Rattle.pp_closure.specs.Order.{order_of}

-- what the step says of the order of two others
abbrev pub order_in : Option Step → Option Order
order_in (Some (steps.Binary op a b)) = order_of op a b
order_in o = None

-- what a step with the number and the operator says of a sum: that it is one of two others, or the rest of one
abbrev pub addition_of : BinaryOp → ℕ → ℕ → ℕ → Option Addition
addition_of Add k a b = Some (record { sum = k; one = a; other = b })
addition_of Sub k a b = Some (record { sum = a; one = k; other = b })
addition_of op k a b = None

abbrev pub addition_in : ℕ → Option Step → Option Addition
addition_in k (Some (steps.Binary op a b)) = addition_of op k a b
addition_in k o = None

-- whether the operator makes the same of operands that are turned round
abbrev pub commutes : BinaryOp → Bool
commutes Add = true
commutes Mul = true
commutes Equal = true
commutes Differ = true
commutes And = true
commutes Or = true
commutes Xor = true
commutes op = false

-- the value that a step with the operator makes of two values
abbrev pub made_of_two : BinaryOp → Value → Value → Value
made_of_two op x y = value_or (Truth false) (applied op x y)

-- the divisor, if the step is a remainder
abbrev pub divisor_in : Option Step → Option ℕ
divisor_in (Some (steps.Binary Rem a b)) = Some b
divisor_in o = None

-- the field at the place, if the step makes the constructor
abbrev pub field_in : CtorId → ℕ → Option Step → Option ℕ
field_in c i (Some (steps.Construct d fields)) = if nat_eq d.0 c.0 then slice_get fields i else None
field_in c i o = None

-- the fields of the value at the places from this one on, as that of the constructor, are these
abbrev pub AreFields : Missing → CtorId → Value → ℕ → List Value → Type 0
AreFields missing c v place [] = Unit {0}
AreFields missing c v place (x ∷ xs) = (ctor_field missing c place v ≡ x) × AreFields missing c v (suc place) xs

abbrev pub is_bool : Sort → Bool
is_bool sort.Bool = true
is_bool s = false

abbrev pub is_int_sort : Sort → Bool
is_int_sort sort.Int = true
is_int_sort s = false

-- whether the step shows by itself that it is a number
abbrev pub int_in : Option Step → Bool
int_in (Some (steps.Int n)) = true
int_in (Some (steps.Answer c)) = is_int_sort c.result
int_in (Some (steps.Open s)) = is_int_sort s
int_in (Some (steps.Binary Sub a b)) = true
int_in o = false

-- whether the step shows by itself that it is a truth value
abbrev pub truth_in : Option Step → Bool
truth_in (Some (steps.Answer c)) = is_bool c.result
truth_in (Some (steps.Open s)) = is_bool s
truth_in (Some (steps.HasAnswer c)) = true
truth_in (Some (steps.Bool b)) = true
truth_in (Some (steps.Not a)) = true
truth_in (Some (steps.Both a b)) = true
truth_in (Some (steps.IsCtor c n a)) = true
truth_in o = false
