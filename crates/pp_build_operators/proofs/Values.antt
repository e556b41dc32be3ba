-- What operators make of numbers and truth values: which of them have a value, of which sort, and how many gates they
-- have.
use Rattle.std.proofs.Common.{◌≡◌, ℕ, ℤ, Bool, true, false, Some, None, Ok, refl, ap, ◌∙◌, arith, sym}
use Rattle.std.specs.Prelude.{pos, not, ◌&&◌, int_le, int_lt}
use Rattle.std.specs.Int.{w32}
use Rattle.std.proofs.lemmas.Int.{ints}
use Rattle.pp_prog.proofs.PartSorts.{equality_parts}
use Rattle.pp_word.specs.Word.{word_div, word_rem, word_neg, word_not}
use Rattle.pp_tree.specs.declared.operator.BinaryOp.{BinaryOp}
use Rattle.pp_tree.specs.declared.operator.BinaryOp.TheVariants.{Add, Sub, Mul, Div, Rem, Equal, Differ, Less, AtMost}
use Rattle.pp_tree.specs.declared.operator.BinaryOp.TheVariants.{More, AtLeast, AndAlso, OrElse, And, Or, Xor, Shl, Shr}
use Rattle.pp_tree.specs.declared.operator.BinaryOp.TheVariants.{Ushr}
use Rattle.pp_tree.specs.declared.operator.UnaryOp.{UnaryOp}
use Rattle.pp_tree.specs.declared.operator.UnaryOp.TheVariants.{Neg, Not, Flip}
use Rattle.pp_prog.specs.declared.sort.Sort.{Sort}
use Rattle.pp_prog.specs.declared.sort.Sort.TheVariants as sort
use Rattle.pp_prog.specs.declared.types.TypeTable.{TypeTable}
use Rattle.pp_prog.specs.declared.value.Value.{Value}
use Rattle.pp_prog.specs.declared.value.Value.TheOpen as layer
use Rattle.pp_prog.specs.declared.value.Value.TheVariants.{Int, Bool as Truth, outs-Int, outs-Bool}
use Rattle.pp_prog.specs.declared.value.Value.TheViews.{out-Value}
use Rattle.pp_prog.specs.ExprSorts.{unary_sort}
use Rattle.pp_eval.specs.Measure.{goes_down, layer_down}
use Rattle.pp_eval.specs.Operators.{number, number_in, on_layers, on_numbers, on_truths, truth, truth_in, unary}
use Rattle.pp_eval.specs.Part.{Part, and_then}
use Rattle.pp_steps.specs.Gates.{binary_gates}
use Rattle.pp_steps.specs.Meaning.{applied}
use Rattle.pp_steps.specs.Sorted.{operated_sort}
use Rattle.pp_build_operators.specs.Plain.{applied_number}
use Rattle.pp_operators.specs.Classes.{class_of, is_equality, is_order}
use Rattle.pp_operators.specs.Gates.{number_gates}

number_int : (x : ℤ) → number (Int x) ≡ Ok x
number_int x = ap number_in (outs-Int x)

truth_bool : (b : Bool) → truth (Truth b) ≡ Ok b
truth_bool b = ap truth_in (outs-Bool b)

-- ---- one operand

pub neg_int : (x : ℤ) → unary Neg (Int x) ≡ Ok (Int (word_neg w32 x))
neg_int x = ap (λ (p : Part ℤ). and_then p (λ n. Ok (Int (word_neg w32 n)))) (number_int x)

pub flip_int : (x : ℤ) → unary Flip (Int x) ≡ Ok (Int (word_not w32 x))
flip_int x = ap (λ (p : Part ℤ). and_then p (λ n. Ok (Int (word_not w32 n)))) (number_int x)

not_truth : (b : Bool) → unary Not (Truth b) ≡ Ok (Truth (not b))
not_truth b = ap (λ (p : Part Bool). and_then p (λ n. Ok (Truth (not n)))) (truth_bool b)

-- the part comes to a number
pub record MakesNumber (part : Part Value) : Type 0 where
  pub number : ℤ
  pub is : part ≡ Ok (Int number)

-- the part comes to a truth value
pub record MakesTruth (part : Part Value) : Type 0 where
  pub truth : Bool
  pub is : part ≡ Ok (Truth truth)

pub unary_makes_number : (op : UnaryOp) (u : Sort) (x : ℤ) → unary_sort op (Some sort.Int) ≡ Some u
    → MakesNumber (unary op (Int x))
unary_makes_number Neg u x h = record { number = _; is = neg_int x }
unary_makes_number Flip u x h = record { number = _; is = flip_int x }
unary_makes_number Not u x h = absurd (cc)

pub unary_number_sort : (op : UnaryOp) (u : Sort) → unary_sort op (Some sort.Int) ≡ Some u → u ≡ sort.Int
unary_number_sort Neg u h = cc
unary_number_sort Flip u h = cc
unary_number_sort Not u h = absurd (cc)

pub unary_makes_truth : (op : UnaryOp) (u : Sort) (x : Bool) → unary_sort op (Some sort.Bool) ≡ Some u
    → unary op (Truth x) ≡ Ok (Truth (not x))
unary_makes_truth Neg u x h = absurd (cc)
unary_makes_truth Flip u x h = absurd (cc)
unary_makes_truth Not u x h = not_truth x

pub unary_truth_sort : (op : UnaryOp) (u : Sort) → unary_sort op (Some sort.Bool) ≡ Some u → u ≡ sort.Bool
unary_truth_sort Neg u h = absurd (cc)
unary_truth_sort Flip u h = absurd (cc)
unary_truth_sort Not u h = cc

-- ---- two operands

numbers_of : (op : BinaryOp) (x y : ℤ)
    → on_layers op None (out-Value (Int x)) (out-Value (Int y)) ≡ on_numbers op None x y
numbers_of op x y =
    ap (λ (o : layer.Value-F Value). on_layers op None o (out-Value (Int y))) (outs-Int x)
    ∙ ap (λ (o : layer.Value-F Value). on_layers op None (layer.Int x) o) (outs-Int y)

truths_of : (op : BinaryOp) (x y : Bool)
    → on_layers op None (out-Value (Truth x)) (out-Value (Truth y)) ≡ on_truths op x y
truths_of op x y =
    ap (λ (o : layer.Value-F Value). on_layers op None o (out-Value (Truth y))) (outs-Bool x)
    ∙ ap (λ (o : layer.Value-F Value). on_layers op None (layer.Bool x) o) (outs-Bool y)

quotient_of : (go : ℤ → ℤ → ℤ) (x y : ℤ)
    → and_then (number (Int x)) (λ a. and_then (number (Int y)) (λ b. Ok (Int (go a b)))) ≡ Ok (Int (go x y))
quotient_of go x y =
    ap (λ (p : Part ℤ). and_then p (λ a. and_then (number (Int y)) (λ b. Ok (Int (go a b))))) (number_int x)
    ∙ ap (λ (p : Part ℤ). and_then p (λ b. Ok (Int (go x b)))) (number_int y)

pub applied_numbers : (op : BinaryOp) (x y : ℤ) → is_equality op ≡ false
    → applied op (Int x) (Int y) ≡ applied_number op x y
applied_numbers Equal x y other = absurd (cc)
applied_numbers Differ x y other = absurd (cc)
applied_numbers Div x y other = quotient_of (word_div w32) x y
applied_numbers Rem x y other = quotient_of (word_rem w32) x y
applied_numbers op x y other = numbers_of op x y

pub ordered_number : (op : BinaryOp) (x y : ℤ) → is_order op ≡ true → applied_number op x y ≡ on_numbers op None x y
ordered_number Less x y order = refl
ordered_number AtMost x y order = refl
ordered_number More x y order = refl
ordered_number AtLeast x y order = refl
ordered_number op x y order = absurd (cc)

pub applied_truths : (op : BinaryOp) (u : Sort) (x y : Bool) → is_equality op ≡ false
    → operated_sort op (Some sort.Bool) (Some sort.Bool) ≡ Some u → applied op (Truth x) (Truth y) ≡ on_truths op x y
applied_truths Equal u x y other h = absurd (cc)
applied_truths Differ u x y other h = absurd (cc)
applied_truths Div u x y other h = absurd (cc)
applied_truths Rem u x y other h = absurd (cc)
applied_truths op u x y other h = truths_of op x y

pub makes_number : (op : BinaryOp) (u : Sort) (x y : ℤ) → is_equality op ≡ false → is_order op ≡ false
    → operated_sort op (Some sort.Int) (Some sort.Int) ≡ Some u → MakesNumber (applied_number op x y)
makes_number Add u x y other plain h = record { number = _; is = refl }
makes_number Sub u x y other plain h = record { number = _; is = refl }
makes_number Mul u x y other plain h = record { number = _; is = refl }
makes_number Div u x y other plain h = record { number = _; is = refl }
makes_number Rem u x y other plain h = record { number = _; is = refl }
makes_number And u x y other plain h = record { number = _; is = refl }
makes_number Or u x y other plain h = record { number = _; is = refl }
makes_number Xor u x y other plain h = record { number = _; is = refl }
makes_number Shl u x y other plain h = record { number = _; is = refl }
makes_number Shr u x y other plain h = record { number = _; is = refl }
makes_number Ushr u x y other plain h = record { number = _; is = refl }
makes_number op u x y other plain h = absurd (cc)

pub order_makes_truth : (op : BinaryOp) (u : Sort) (x y : ℤ) → is_order op ≡ true
    → operated_sort op (Some sort.Int) (Some sort.Int) ≡ Some u → MakesTruth (on_numbers op None x y)
order_makes_truth Less u x y order h = record { truth = _; is = refl }
order_makes_truth AtMost u x y order h = record { truth = _; is = refl }
order_makes_truth More u x y order h = record { truth = _; is = refl }
order_makes_truth AtLeast u x y order h = record { truth = _; is = refl }
order_makes_truth op u x y order h = absurd (cc)

pub makes_truth : (op : BinaryOp) (u : Sort) (x y : Bool) → is_equality op ≡ false
    → operated_sort op (Some sort.Bool) (Some sort.Bool) ≡ Some u → MakesTruth (on_truths op x y)
makes_truth And u x y other h = record { truth = _; is = refl }
makes_truth Or u x y other h = record { truth = _; is = refl }
makes_truth Xor u x y other h = record { truth = _; is = refl }
makes_truth op u x y other h = absurd (cc)

-- ---- their sorts

pub number_sort : (op : BinaryOp) (u : Sort) → is_equality op ≡ false → is_order op ≡ false
    → operated_sort op (Some sort.Int) (Some sort.Int) ≡ Some u → u ≡ sort.Int
number_sort Add u other plain h = cc
number_sort op u other plain h = cc

pub order_sort : (op : BinaryOp) (u : Sort) → is_order op ≡ true
    → operated_sort op (Some sort.Int) (Some sort.Int) ≡ Some u → u ≡ sort.Bool
order_sort Less u order h = cc
order_sort op u order h = cc

pub truth_sort : (op : BinaryOp) (u : Sort) → is_equality op ≡ false
    → operated_sort op (Some sort.Bool) (Some sort.Bool) ≡ Some u → u ≡ sort.Bool
truth_sort And u other h = cc
truth_sort op u other h = cc

pub equality_sort : (op : BinaryOp) (s t u : Sort) → is_equality op ≡ true → operated_sort op (Some s) (Some t) ≡ Some u
    → u ≡ sort.Bool
equality_sort Equal s t u is h = sym (equality_parts (Some s) (Some t) u h).1.2
equality_sort Differ s t u is h = sym (equality_parts (Some s) (Some t) u h).1.2
equality_sort op s t u is h = absurd (cc)

-- ---- their gates

pub order_gates : (types : TypeTable) (op : BinaryOp) (h : ℕ) (s : Sort) → is_order op ≡ true
    → binary_gates types op h s ≡ 256
order_gates types Less h s order = refl
order_gates types AtMost h s order = refl
order_gates types More h s order = refl
order_gates types AtLeast h s order = refl
order_gates types op h s order = absurd (cc)

pub number_gates_are : (types : TypeTable) (op : BinaryOp) (h : ℕ) (u : Sort) → is_equality op ≡ false
    → is_order op ≡ false → operated_sort op (Some sort.Int) (Some sort.Int) ≡ Some u
    → binary_gates types op h sort.Int ≡ number_gates (class_of op)
number_gates_are types Equal h u other plain is = absurd (cc)
number_gates_are types Differ h u other plain is = absurd (cc)
number_gates_are types AndAlso h u other plain is = absurd (cc)
number_gates_are types OrElse h u other plain is = absurd (cc)
number_gates_are types op h u other plain is = refl

pub truth_gates : (types : TypeTable) (op : BinaryOp) (h : ℕ) (u : Sort) → is_equality op ≡ false
    → operated_sort op (Some sort.Bool) (Some sort.Bool) ≡ Some u → binary_gates types op h sort.Bool ≡ 1
truth_gates types And h u other is = refl
truth_gates types Or h u other is = refl
truth_gates types Xor h u other is = refl
truth_gates types op h u other is = absurd (cc)

-- ---- measures

pub number_down : (x y : ℤ) → goes_down (Int x) (Int y) ≡ (int_le (pos 0) x && int_lt x y)
number_down x y =
    ap (λ (o : layer.Value-F Value). layer_down (Int x, Int y) o (out-Value (Int y))) (outs-Int x)
    ∙ ap (λ (o : layer.Value-F Value). layer_down (Int x, Int y) (layer.Int x) o) (outs-Int y)

pub truth_stays : (x : Bool) (v : Value) → goes_down (Truth x) v ≡ false
truth_stays x v = ap (λ (o : layer.Value-F Value). layer_down (Truth x, v) o (out-Value v)) (outs-Bool x)

pub not_negative : (x : ℤ) → not (int_lt x (pos 0)) ≡ int_le (pos 0) x
not_negative x = grind (arith, ints)
