-- What it means that values obey steps: step number k has the value ρ k, which its operands' values determine. Dead
-- branches have values too, since each step has one. Source: own; straight-line code as in static single assignment.
use Rattle.std.specs.Prelude.{◌≡◌, ℕ, suc, nat_eq, Bool, false, not, ◌&&◌, if◌then◌else◌, List, [], ◌∷◌, length, map}
use Rattle.std.specs.Prelude.{slice_get, Ok, Err, Option, Some, None, true}
use Rattle.std.specs.Int.{w32}
use Rattle.pp_word.specs.Word.{word_div, word_rem}
use Rattle.pp_tree.specs.declared.operator.BinaryOp.{BinaryOp}
use Rattle.pp_tree.specs.declared.operator.BinaryOp.TheVariants.{Div, Rem}
use Rattle.pp_prog.specs.declared.id.CtorId.{CtorId}
use Rattle.pp_prog.specs.declared.id.FunctionId.{FunctionId}
use Rattle.pp_prog.specs.declared.sort.Sort.{Sort}
use Rattle.pp_prog.specs.declared.types.Ctor.{Ctor}
use Rattle.pp_prog.specs.declared.value.Value.{Value}
use Rattle.pp_prog.specs.declared.value.Value.TheOpen as layer
use Rattle.pp_prog.specs.declared.value.Value.TheVariants.{Int, Bool as Truth, Tree}
use Rattle.pp_prog.specs.declared.value.Value.TheViews.{out-Value}
use Rattle.pp_eval.specs.Measure.{goes_down, one_sort}
use Rattle.pp_eval.specs.Meaning.{field}
use Rattle.pp_eval.specs.Operators.{number, operated, unary}
use Rattle.pp_eval.specs.Part.{Part, and_then, found}
use Rattle.pp_steps.specs.declared.step.OpenCall.{OpenCall}
use Rattle.pp_steps.specs.declared.step.Step.{Step}
use Rattle.pp_steps.specs.declared.step.Step.TheVariants as steps

-- the values of all steps, by number
abbrev pub Values : Type 0
Values = ℕ → Value

abbrev pub bit_in : layer.Value-F Value → Bool
bit_in (layer.Int n) = false
bit_in (layer.Bool b) = b
bit_in (layer.Tree c fields) = false

-- whether the value is true
abbrev pub bit : Value → Bool
bit v = bit_in (out-Value v)

-- the part's value, or this one where it stops
abbrev pub value_or : Value → Part Value → Value
value_or d (Ok v) = v
value_or d (Err s) = d

-- an operator on two values. A quotient by 0 is what words make of it; the check stands before.
abbrev pub applied : BinaryOp → Value → Value → Part Value
applied Div x y = and_then (number x) (λ a. and_then (number y) (λ b. Ok (Int (word_div w32 a b))))
applied Rem x y = and_then (number x) (λ a. and_then (number y) (λ b. Ok (Int (word_rem w32 a b))))
applied op x y = operated op None x y

abbrev pub has_ctor_in : CtorId → ℕ → layer.Value-F Value → Bool
has_ctor_in c n (layer.Int m) = false
has_ctor_in c n (layer.Bool b) = false
has_ctor_in c n (layer.Tree d fields) = nat_eq c.0 d.0 && nat_eq n (length fields)

-- whether the value has the constructor and n fields
abbrev pub has_ctor : CtorId → ℕ → Value → Bool
has_ctor c n v = has_ctor_in c n (out-Value v)

abbrev pub ctor_field_in : Value → CtorId → ℕ → layer.Value-F Value → Value
ctor_field_in d c k (layer.Int m) = d
ctor_field_in d c k (layer.Bool b) = d
ctor_field_in d c k (layer.Tree e fields) = if nat_eq c.0 e.0 then value_or d (found (slice_get fields k)) else d

-- What stands for the field at a place where a value has another constructor, and the answer of a call that is left
-- open, where it has one: by how long the call waits, the function, its sorts and the arguments.
pub record Missing : Type 0 where
  pub field : CtorId → ℕ → Value
  pub answer : ℕ → FunctionId → List Sort → Sort → List Value → Option Value

-- the field of the constructor at the place
abbrev pub ctor_field : Missing → CtorId → ℕ → Value → Value
ctor_field missing c k v = ctor_field_in (missing.field c k) c k (out-Value v)

abbrev pub is_answered : Option Value → Bool
is_answered None = false
is_answered (Some v) = true

-- the answer of the open call, where the arguments have these values
abbrev pub answer_of : Missing → Values → OpenCall → Option Value
answer_of missing ρ c = missing.answer c.wait c.callee c.params c.result (map ρ c.args)

module _ (ctors : List Ctor) (missing : Missing) where
  -- whether v may be the value of the step, where the earlier ones have these
  abbrev pub Does : Values → Step → Value → Type 0
  Does ρ (steps.Open s) v = Unit {0}
  Does ρ (steps.Int n) v = v ≡ Int n
  Does ρ (steps.Bool b) v = v ≡ Truth b
  Does ρ (steps.Not a) v = v ≡ Truth (not (bit (ρ a)))
  Does ρ (steps.Both a b) v = v ≡ Truth (bit (ρ a) && bit (ρ b))
  Does ρ (steps.Choose c a b) v = v ≡ (if bit (ρ c) then ρ a else ρ b)
  Does ρ (steps.Unary op a) v = v ≡ value_or (Truth false) (unary op (ρ a))
  Does ρ (steps.Binary op a b) v = v ≡ value_or (Truth false) (applied op (ρ a) (ρ b))
  Does ρ (steps.Construct c fields) v = v ≡ Tree c (map ρ fields)
  Does ρ (steps.IsCtor c n a) v = v ≡ Truth (has_ctor c n (ρ a))
  Does ρ (steps.CtorField c k a) v = v ≡ ctor_field missing c k (ρ a)
  Does ρ (steps.Field a k) v = v ≡ value_or (Truth false) (field (ρ a) k)
  Does ρ (steps.IsAlike a b) v = v ≡ Truth (one_sort ctors (out-Value (ρ a)) (out-Value (ρ b)))
  Does ρ (steps.GoesDown a b) v = v ≡ Truth (goes_down (ρ a) (ρ b))
  -- nothing is said of a call that isn't reached
  Does ρ (steps.HasAnswer c) v = bit (ρ c.reach) ≡ true → v ≡ Truth (is_answered (answer_of missing ρ c))
  Does ρ (steps.Answer c) v = bit (ρ c.reach) ≡ true → (u : Value) → answer_of missing ρ c ≡ Some u → v ≡ u

  -- the values obey the steps, the first of which has the number k
  abbrev pub Obeys : Values → ℕ → List Step → Type 0
  Obeys ρ k [] = Unit {0}
  Obeys ρ k (s ∷ ss) = Does ρ s (ρ k) × Obeys ρ (suc k) ss
