-- The order of two values that are numbers, and what steps say of it. Source: own.
use Rattle.std.specs.Prelude.{◌≡◌, ◌<ℤ◌, ◌≤ℤ◌, ◌+ℤ◌, ℕ, ℤ, pos, Bool, false, true, Option, Some, None}
use Rattle.std.specs.Int.{w32}
use Rattle.pp_tree.specs.declared.operator.BinaryOp.{BinaryOp}
use Rattle.pp_tree.specs.declared.operator.BinaryOp.TheVariants.{Less, AtMost, More, AtLeast}
use Rattle.pp_prog.specs.declared.value.Value.{Value}
use Rattle.pp_prog.specs.declared.value.Value.TheOpen as layer
use Rattle.pp_prog.specs.declared.value.Value.TheViews.{out-Value}
use Rattle.pp_prog.specs.Fits.{same_truth}
use Rattle.pp_word.specs.Word.{word_less}
use Rattle.pp_word.specs.Wrapping.{IsWord}
use Rattle.pp_steps.specs.Meaning.{Values, bit}
use Rattle.pp_closure.specs.Sums.{whole}
use Rattle.pp_closure.specs.declared.orders.Order.{Order}

abbrev pub is_less_in : layer.Value-F Value → layer.Value-F Value → Bool
is_less_in (layer.Int a) (layer.Int b) = word_less a b
is_less_in (layer.Int a) (layer.Bool b) = false
is_less_in (layer.Int a) (layer.Tree d fields) = false
is_less_in (layer.Bool a) y = false
is_less_in (layer.Tree c fields) y = false

-- whether both are numbers, and the first is less
abbrev pub is_less : Value → Value → Bool
is_less x y = is_less_in (out-Value x) (out-Value y)

-- what an operator on two steps says of their order: that one is less, or that it isn't
abbrev pub order_of : BinaryOp → ℕ → ℕ → Option Order
order_of Less a b = Some (record { low = a; high = b; positive = true })
order_of More a b = Some (record { low = b; high = a; positive = true })
order_of AtMost a b = Some (record { low = b; high = a; positive = false })
order_of AtLeast a b = Some (record { low = a; high = b; positive = false })
order_of op a b = None

-- the step is true exactly where the one is less, or where it isn't, as is said
abbrev pub Says : Values → ℕ → Option Order → Type 0
Says ρ k None = Unit {0}
Says ρ k (Some o) = bit (ρ k) ≡ same_truth o.positive (is_less (ρ o.low) (ρ o.high))

-- the step says whether the one number is less than the other; both are words, and if they are one the values are
pub record Compares (ρ : Values) (k : ℕ) (o : Order) : Type 0 where
  pub says : bit (ρ k) ≡ same_truth o.positive (word_less (whole (ρ o.low)) (whole (ρ o.high)))
  pub low : IsWord w32 (whole (ρ o.low))
  pub high : IsWord w32 (whole (ρ o.high))
  pub one : whole (ρ o.low) ≡ whole (ρ o.high) → ρ o.low ≡ ρ o.high

abbrev pub Ordered : Values → ℕ → Option Order → Type 0
Ordered ρ k None = Unit {0}
Ordered ρ k (Some o) = Compares ρ k o

-- the one number and so many more are at most the other one
abbrev pub Apart : Values → ℕ → ℤ → ℕ → Type 0
Apart ρ low n high = (whole (ρ low) +ℤ n) ≤ℤ whole (ρ high)

-- where the divisor is a positive number, the remainder, which is the value of step r, is less
pub record DividesBelow (ρ : Values) (b r : ℕ) : Type 0 where
  pub divisor : IsWord w32 (whole (ρ b))
  pub below : pos 0 <ℤ whole (ρ b) → whole (ρ r) <ℤ whole (ρ b)

-- of a natural number a it is known that r is one too, and no greater
pub record Reduces (a r : ℤ) : Type 0 where
  pub natural : pos 0 ≤ℤ a → pos 0 ≤ℤ r
  pub most : pos 0 ≤ℤ a → r ≤ℤ a

-- what is known of the remainder r of a by b
pub record Leaves (a b r : ℤ) : Type 0 where
  pub below : pos 0 <ℤ b → r <ℤ b
  pub natural : pos 0 <ℤ b → pos 0 ≤ℤ a → pos 0 ≤ℤ r
  pub most : pos 0 <ℤ b → pos 0 ≤ℤ a → r ≤ℤ a
