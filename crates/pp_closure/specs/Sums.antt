-- Sums of products of values that are numbers, as integers that don't wrap. Source: own.
use Rattle.std.specs.Prelude.{◌≡◌, ◌≢◌, ◌^◌, ℕ, ℤ, pos, ◌+ℤ◌, ◌*ℤ◌, Bool, true, false, List, [], ◌∷◌}
use Rattle.std.specs.Prelude.{Option, Some, None}
use Rattle.std.specs.Int.{w32}
use Rattle.pp_prog.specs.declared.value.Value.{Value}
use Rattle.pp_prog.specs.declared.value.Value.TheOpen as layer
use Rattle.pp_prog.specs.declared.value.Value.TheVariants.{Int}
use Rattle.pp_prog.specs.declared.value.Value.TheViews.{out-Value}
use Rattle.pp_word.specs.Wrapping.{IsWord, SameModulo}
use Rattle.pp_steps.specs.Meaning.{Values}
use Rattle.pp_closure.specs.declared.additions.Addition.{Addition}
use Rattle.pp_closure.specs.declared.parts.Part.{Part}
use Rattle.pp_closure.specs.declared.parts.Part.TheVariants as part
use Rattle.pp_closure.specs.declared.product.Product.{Product}
use Rattle.pp_closure.specs.declared.terms.Term.{Term}

abbrev pub whole_in : layer.Value-F Value → ℤ
whole_in (layer.Int n) = n
whole_in (layer.Bool b) = pos 0
whole_in (layer.Tree c fields) = pos 0

-- the number that a value is, and 0 where it is none
abbrev pub whole : Value → ℤ
whole v = whole_in (out-Value v)

-- the value of the step, and 1 where there is none
abbrev pub factor : Values → Option ℕ → ℤ
factor ρ None = pos 1
factor ρ (Some k) = whole (ρ k)

-- the product of the values of its steps
abbrev pub product : Values → Product → ℤ
product ρ p = factor ρ p.first *ℤ (factor ρ p.second *ℤ (factor ρ p.third *ℤ factor ρ p.fourth))

-- the product so many times
abbrev pub amount : Values → Term → ℤ
amount ρ t = t.coefficient *ℤ product ρ t.product

-- the sum of the terms
abbrev pub total : Values → List Term → ℤ
total ρ [] = pos 0
total ρ (t ∷ ts) = amount ρ t +ℤ total ρ ts

-- the same up to what wrapping takes away
abbrev pub AlikeWords : ℤ → ℤ → Type 0
AlikeWords = SameModulo (2 ^ 32)

-- the step's value is a number, and that a word
pub record HasNumber (ρ : Values) (k : ℕ) : Type 0 where
  pub is : ρ k ≡ Int (whole (ρ k))
  pub word : IsWord w32 (whole (ρ k))

-- three numbers of which the one is the sum of the two others, up to what wrapping takes away
pub record Adds (ρ : Values) (s : Addition) : Type 0 where
  pub alike : AlikeWords (whole (ρ s.one) +ℤ whole (ρ s.other)) (whole (ρ s.sum))
  pub sum : HasNumber ρ s.sum
  pub one : HasNumber ρ s.one
  pub other : HasNumber ρ s.other

-- the sum doesn't wrap
abbrev pub IsExact : Values → Addition → Type 0
IsExact ρ s = whole (ρ s.sum) ≡ whole (ρ s.one) +ℤ whole (ρ s.other)

abbrev pub MayAdd : Values → Option Addition → Type 0
MayAdd ρ None = Unit {0}
MayAdd ρ (Some s) = Adds ρ s

-- there is a term, and it has the product
abbrev pub HasProduct : Option Term → Product → Type 0
HasProduct o p = (t : Term) × (o ≡ Some t) × ((ρ : Values) → product ρ t.product ≡ product ρ p)

-- the number is 0, or a word other than 0
abbrev pub IsZero : Bool → ℤ → Type 0
IsZero true z = z ≡ pos 0
IsZero false z = IsWord w32 z × (z ≢ pos 0)

-- the number is made of the part
abbrev pub IsPart : Values → Part → ℤ → Type 0
IsPart ρ (part.Number n) w = w ≡ n
IsPart ρ (part.Linear a x b y) w = AlikeWords ((a *ℤ whole (ρ x)) +ℤ (b *ℤ whole (ρ y))) w
IsPart ρ (part.Product x y) w = AlikeWords (whole (ρ x) *ℤ whole (ρ y)) w
IsPart ρ (part.Step r) w = whole (ρ r) ≡ w

-- whether the part shows that the value is a number
abbrev pub shows_number : Part → Bool
shows_number (part.Number n) = true
shows_number (part.Linear a x b y) = true
shows_number (part.Product x y) = true
shows_number (part.Step r) = false
