-- Words and literals that stand for what an operator makes of numbers and truth values, where it has a value. A part is
-- given by the assignment, under which its operands have their values. Source: own.
use Rattle.std.specs.Prelude.{◌≡◌, ℕ, ℤ, Bool, List, All, length, None, Ok}
use Rattle.std.specs.Int.{w32}
use Rattle.pp_prog.specs.declared.value.Value.{Value}
use Rattle.pp_prog.specs.declared.value.Value.TheVariants.{Int, Bool as Truth}
use Rattle.pp_clause.specs.Literal.{Literal, lit_value}
use Rattle.pp_gate.specs.declared.gate.Gate.{Gate}
use Rattle.pp_gate.specs.Circuit.{IsOf, Gives}
use Rattle.pp_wordgate.specs.Meaning.{word_of}
use Rattle.pp_eval.specs.Operators.{on_numbers}
use Rattle.pp_eval.specs.Part.{Part}
use Rattle.pp_tree.specs.declared.operator.BinaryOp.{BinaryOp}
use Rattle.pp_tree.specs.declared.operator.BinaryOp.TheVariants.{Div, Rem}
use Rattle.pp_word.specs.Word.{word_div, word_rem}

-- a word of the circuit, which stands for the number that the part comes to
pub record IsNumberOf (gs : List Gate) (r : List Literal) (part : (ℕ → Bool) → Part Value) : Type 0 where
  pub len : length r ≡ 32
  pub of : All (IsOf gs) r
  pub value : (s : ℕ → Bool) (n : ℤ) → Gives s gs → part s ≡ Ok (Int n) → word_of w32 s r ≡ n

-- a literal of the circuit, which stands for the truth value that the part comes to
pub record IsTruthOf (gs : List Gate) (r : Literal) (part : (ℕ → Bool) → Part Value) : Type 0 where
  pub of : IsOf gs r
  pub value : (s : ℕ → Bool) (b : Bool) → Gives s gs → part s ≡ Ok (Truth b) → lit_value s r ≡ b

-- what an operator makes of two numbers in steps: a quotient by 0 is what words make of it
abbrev pub applied_number : BinaryOp → ℤ → ℤ → Part Value
applied_number Div a b = Ok (Int (word_div w32 a b))
applied_number Rem a b = Ok (Int (word_rem w32 a b))
applied_number op a b = on_numbers op None a b
