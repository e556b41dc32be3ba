-- What operators make of values, in a run and in steps.
use Rattle.std.proofs.Common.{◌≡◌, Bool, true, false, Option, None, Ok, refl, sym, ap, ◌∙◌}
use Rattle.std.specs.Prelude.{pos}
use Rattle.std.specs.Ordering.{int_eq}
use Rattle.std.specs.Int.{w32}
use Rattle.pp_word.specs.Word.{word_div, word_rem}
use Rattle.pp_tree.specs.declared.operator.BinaryOp.{BinaryOp}
use Rattle.pp_tree.specs.declared.operator.BinaryOp.TheVariants.{Add, Sub, Mul, Div, Rem, Equal, Differ, Less, AtMost}
use Rattle.pp_tree.specs.declared.operator.BinaryOp.TheVariants.{More, AtLeast, AndAlso, OrElse, And, Or, Xor, Shl, Shr}
use Rattle.pp_tree.specs.declared.operator.BinaryOp.TheVariants.{Ushr}
use Rattle.pp_tree.specs.declared.operator.UnaryOp.{UnaryOp}
use Rattle.pp_tree.specs.declared.operator.UnaryOp.TheVariants.{Neg, Not, Flip}
use Rattle.pp_prog.specs.declared.id.CheckId.{CheckId}
use Rattle.pp_prog.specs.declared.value.Value.{Value}
use Rattle.pp_prog.specs.declared.value.Value.TheFolds.{fold-roll-Value, fold_out-Value, map-Value}
use Rattle.pp_prog.specs.declared.value.Value.TheOpen as layer
use Rattle.pp_prog.specs.declared.value.Value.TheVariants.{Int, Bool as Truth, outs-Int, rolls-Int, rolls-Bool}
use Rattle.pp_prog.specs.declared.value.Value.TheViews.{out-Value}
use Rattle.pp_eval.specs.Equality.{equal, equal_layer, equal_step}
use Rattle.pp_eval.specs.Operators.{number, number_in, on_layers, on_numbers, on_truths, operated, truth_in, unary}
use Rattle.pp_eval.specs.Part.{Part, and_then, either, failed}
use Rattle.pp_steps.specs.Meaning.{applied}
use Rattle.pp_steps_run.proofs.Lasting.{Lasts}
use lib.IntN.{ℤ}

-- the part has a value
pub record Ends {A : Type 0} (part : Part A) : Type 0 where
  pub value : A
  pub is : part ≡ Ok value

-- ---- equality with a number and a truth value

pub equal_int : (n : ℤ) (v : Value) → equal (Int n) v ≡ equal_layer (layer.Int n) (out-Value v)
equal_int n v =
    ap (λ u. equal u v) (sym (rolls-Int n)) ∙ ap (λ (f : Value → Bool). f v)
    (fold-roll-Value (Value → Bool) equal_step (layer.Int n))

pub equal_truth : (b : Bool) (v : Value) → equal (Truth b) v ≡ equal_layer (layer.Bool b) (out-Value v)
equal_truth b v =
    ap (λ u. equal u v) (sym (rolls-Bool b)) ∙ ap (λ (f : Value → Bool). f v)
    (fold-roll-Value (Value → Bool) equal_step (layer.Bool b))

-- ---- one operand

neg_ends : (o : layer.Value-F Value) (go : ℤ → Value) → Lasts (and_then (number_in o) (λ n. Ok (go n)))
    → Ends (and_then (number_in o) (λ n. Ok (go n)))
neg_ends (layer.Int n) go h = record { value = go n; is = refl }
neg_ends (layer.Bool b) go h = absurd (h.meant refl)
neg_ends (layer.Tree c fields) go h = absurd (h.meant refl)

not_ends : (o : layer.Value-F Value) (go : Bool → Value) → Lasts (and_then (truth_in o) (λ b. Ok (go b)))
    → Ends (and_then (truth_in o) (λ b. Ok (go b)))
not_ends (layer.Int n) go h = absurd (h.meant refl)
not_ends (layer.Bool b) go h = record { value = go b; is = refl }
not_ends (layer.Tree c fields) go h = absurd (h.meant refl)

pub unary_ends : (op : UnaryOp) (v : Value) → Lasts (unary op v) → Ends (unary op v)
unary_ends Neg v h = neg_ends (out-Value v) _ h
unary_ends Not v h = not_ends (out-Value v) _ h
unary_ends Flip v h = neg_ends (out-Value v) _ h

-- ---- two operands

abbrev pub divides : BinaryOp → Bool
divides Div = true
divides Rem = true
divides op = false

-- both parts have the value
pub record EndAlike {A : Type 0} (part other : Part A) : Type 0 where
  pub value : A
  pub is : part ≡ Ok value
  pub other_is : other ≡ Ok value

numbers_end : (op : BinaryOp) → divides op ≡ false → (check : Option CheckId) (a b : ℤ)
    → Lasts (on_numbers op check a b)
    → EndAlike (on_numbers op check a b) (on_numbers op None a b)
numbers_end Add d check a b h = record { value = _; is = refl; other_is = refl }
numbers_end Sub d check a b h = record { value = _; is = refl; other_is = refl }
numbers_end Mul d check a b h = record { value = _; is = refl; other_is = refl }
numbers_end Div d check a b h = absurd (cc)
numbers_end Rem d check a b h = absurd (cc)
numbers_end Equal d check a b h = absurd (h.meant refl)
numbers_end Differ d check a b h = absurd (h.meant refl)
numbers_end Less d check a b h = record { value = _; is = refl; other_is = refl }
numbers_end AtMost d check a b h = record { value = _; is = refl; other_is = refl }
numbers_end More d check a b h = record { value = _; is = refl; other_is = refl }
numbers_end AtLeast d check a b h = record { value = _; is = refl; other_is = refl }
numbers_end AndAlso d check a b h = absurd (h.meant refl)
numbers_end OrElse d check a b h = absurd (h.meant refl)
numbers_end And d check a b h = record { value = _; is = refl; other_is = refl }
numbers_end Or d check a b h = record { value = _; is = refl; other_is = refl }
numbers_end Xor d check a b h = record { value = _; is = refl; other_is = refl }
numbers_end Shl d check a b h = record { value = _; is = refl; other_is = refl }
numbers_end Shr d check a b h = record { value = _; is = refl; other_is = refl }
numbers_end Ushr d check a b h = record { value = _; is = refl; other_is = refl }

truths_end : (op : BinaryOp) (a b : Bool) → Lasts (on_truths op a b) → EndAlike (on_truths op a b) (on_truths op a b)
truths_end And a b h = record { value = _; is = refl; other_is = refl }
truths_end Or a b h = record { value = _; is = refl; other_is = refl }
truths_end Xor a b h = record { value = _; is = refl; other_is = refl }
truths_end op a b h = absurd (h.meant refl)

layers_end : (op : BinaryOp) → divides op ≡ false → (check : Option CheckId) (o q : layer.Value-F Value)
    → Lasts (on_layers op check o q) → EndAlike (on_layers op check o q) (on_layers op None o q)
layers_end op d check (layer.Int a) (layer.Int b) h = numbers_end op d check a b h
layers_end op d check (layer.Int a) (layer.Bool b) h = absurd (h.meant refl)
layers_end op d check (layer.Int a) (layer.Tree c fields) h = absurd (h.meant refl)
layers_end op d check (layer.Bool a) (layer.Int b) h = absurd (h.meant refl)
layers_end op d check (layer.Bool a) (layer.Bool b) h = truths_end op a b h
layers_end op d check (layer.Bool a) (layer.Tree c fields) h = absurd (h.meant refl)
layers_end op d check (layer.Tree c fields) q h = absurd (h.meant refl)

-- an operator without a check ends alike in a run and in steps
pub operated_ends : (op : BinaryOp) → divides op ≡ false → (check : Option CheckId) (x y : Value)
    → Lasts (operated op check x y) → EndAlike (operated op check x y) (applied op x y)
operated_ends Equal d check x y h = record { value = _; is = refl; other_is = refl }
operated_ends Differ d check x y h = record { value = _; is = refl; other_is = refl }
operated_ends Div d check x y h = absurd (cc)
operated_ends Rem d check x y h = absurd (cc)
operated_ends op d check x y h = layers_end op d check (out-Value x) (out-Value y) h

-- ---- quotients

-- the operands of a quotient that has a meaning are numbers, and what it comes to
pub record Divided (op : BinaryOp) (check : Option CheckId) (x y : Value) : Type 0 where
  pub divisor : ℤ
  pub is_divisor : out-Value y ≡ layer.Int divisor
  pub value : Value
  pub is : operated op check x y ≡ either (int_eq divisor (pos 0)) (failed check) (Ok value)
  pub applied_is : applied op x y ≡ Ok value

div_there : (check : Option CheckId) (x y : Value) (o q : layer.Value-F Value) → out-Value x ≡ o → out-Value y ≡ q
    → Lasts (on_layers Div check o q) → Divided Div check x y
div_there check x y (layer.Int a) (layer.Int b) e f h = record {
  divisor = b;
  is_divisor = f;
  value = Int (word_div w32 a b);
  is = ap (λ o. on_layers Div check o (out-Value y)) e ∙ ap (λ q. on_layers Div check (layer.Int a) q) f;
  applied_is = ap (λ o. and_then (number_in o) (λ m. and_then (number y) (λ n. Ok (Int (word_div w32 m n))))) e
      ∙ ap (λ q. and_then (number_in q) (λ n. Ok (Int (word_div w32 a n)))) f;
}
div_there check x y (layer.Int a) (layer.Bool b) e f h = absurd (h.meant refl)
div_there check x y (layer.Int a) (layer.Tree c fields) e f h = absurd (h.meant refl)
div_there check x y (layer.Bool a) (layer.Int b) e f h = absurd (h.meant refl)
div_there check x y (layer.Bool a) (layer.Bool b) e f h = absurd (h.meant refl)
div_there check x y (layer.Bool a) (layer.Tree c fields) e f h = absurd (h.meant refl)
div_there check x y (layer.Tree c fields) q e f h = absurd (h.meant refl)

rem_there : (check : Option CheckId) (x y : Value) (o q : layer.Value-F Value) → out-Value x ≡ o → out-Value y ≡ q
    → Lasts (on_layers Rem check o q) → Divided Rem check x y
rem_there check x y (layer.Int a) (layer.Int b) e f h = record {
  divisor = b;
  is_divisor = f;
  value = Int (word_rem w32 a b);
  is = ap (λ o. on_layers Rem check o (out-Value y)) e ∙ ap (λ q. on_layers Rem check (layer.Int a) q) f;
  applied_is = ap (λ o. and_then (number_in o) (λ m. and_then (number y) (λ n. Ok (Int (word_rem w32 m n))))) e
      ∙ ap (λ q. and_then (number_in q) (λ n. Ok (Int (word_rem w32 a n)))) f;
}
rem_there check x y (layer.Int a) (layer.Bool b) e f h = absurd (h.meant refl)
rem_there check x y (layer.Int a) (layer.Tree c fields) e f h = absurd (h.meant refl)
rem_there check x y (layer.Bool a) (layer.Int b) e f h = absurd (h.meant refl)
rem_there check x y (layer.Bool a) (layer.Bool b) e f h = absurd (h.meant refl)
rem_there check x y (layer.Bool a) (layer.Tree c fields) e f h = absurd (h.meant refl)
rem_there check x y (layer.Tree c fields) q e f h = absurd (h.meant refl)

pub div_is : (check : Option CheckId) (x y : Value) → Lasts (operated Div check x y) → Divided Div check x y
div_is check x y h = div_there check x y (out-Value x) (out-Value y) refl refl h

pub rem_is : (check : Option CheckId) (x y : Value) → Lasts (operated Rem check x y) → Divided Rem check x y
rem_is check x y h = rem_there check x y (out-Value x) (out-Value y) refl refl h

-- whether a divisor is 0
pub zero_is : (y : Value) (b : ℤ) → out-Value y ≡ layer.Int b → equal y (Int (pos 0)) ≡ int_eq b (pos 0)
zero_is y b e =
    ap (λ (f : Value → Bool). f (Int (pos 0))) (fold_out-Value (Value → Bool) equal_step y)
    ∙ ap (λ o. equal_layer (map-Value Value (Value → Bool) equal o) (out-Value (Int (pos 0)))) e
    ∙ ap (equal_layer (layer.Int b)) (outs-Int (pos 0))
