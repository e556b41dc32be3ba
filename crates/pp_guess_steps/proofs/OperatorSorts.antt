-- What operators of steps make of values of their operands' sorts has the step's sort, quotients by 0 too.
use Rattle.std.proofs.Common.{◌≡◌, Bool, true, false, List, Some, None, Ok, sym, ap, ◌∙◌, subst}
use Rattle.std.proofs.Common.{◌⊎◌, ⊎_elim}
use Rattle.std.specs.Prelude.{ℤ, not}
use Rattle.std.specs.Int.{w32}
use Rattle.std.proofs.lemmas.Option.{same_Some}
use Rattle.pp_word.specs.Word.{word_div, word_neg, word_not, word_rem}
use Rattle.pp_operators.specs.declared.class.OperatorClass.TheVariants as class
use Rattle.pp_tree.specs.declared.operator.BinaryOp.{BinaryOp}
use Rattle.pp_tree.specs.declared.operator.BinaryOp.TheVariants.{Add, Sub, Mul, Div, Rem, Equal, Differ, Less, AtMost}
use Rattle.pp_tree.specs.declared.operator.BinaryOp.TheVariants.{More, AtLeast, AndAlso, OrElse, And, Or, Xor, Shl, Shr}
use Rattle.pp_tree.specs.declared.operator.BinaryOp.TheVariants.{Ushr}
use Rattle.pp_tree.specs.declared.operator.UnaryOp.{UnaryOp}
use Rattle.pp_tree.specs.declared.operator.UnaryOp.TheVariants.{Neg, Not, Flip}
use Rattle.pp_prog.specs.declared.sort.Sort.{Sort}
use Rattle.pp_prog.specs.declared.sort.Sort.TheVariants as sort
use Rattle.pp_prog.specs.declared.types.Ctor.{Ctor}
use Rattle.pp_prog.specs.declared.value.Value.{Value}
use Rattle.pp_prog.specs.declared.value.Value.TheOpen as layer
use Rattle.pp_prog.specs.declared.value.Value.TheVariants.{Int, Bool as Truth, outs-Int, outs-Bool}
use Rattle.pp_prog.specs.declared.value.Value.TheViews.{out-Value}
use Rattle.pp_prog.specs.ExprSorts.{class_sort, unary_sort}
use Rattle.pp_prog.specs.Sorts.{is_int}
use Rattle.pp_prog.proofs.PartSorts.{Operated, bits_parts, bool_then, equality_parts, int_then, order_parts}
use Rattle.pp_prog.proofs.PartSorts.{shift_parts}
use Rattle.pp_prog.proofs.PartSorts.{sum_parts}
use Rattle.pp_prog.proofs.ValueSorts.{Has, bool_value, int_has, int_value, truth_has}
use Rattle.pp_eval.specs.Equality.{equal}
use Rattle.pp_eval.specs.Operators.{number, number_in, on_layers, on_numbers, on_truths, truth_in, unary}
use Rattle.pp_eval.specs.Part.{Part, and_then}
use Rattle.pp_sound.proofs.Words.{add_int, sub_int, mul_int, neg_int, div_int, rem_int, shl_int, shr_int, ushr_int}
use Rattle.pp_sound.proofs.Words.{and_int, or_int, xor_int, not_int}
use Rattle.pp_steps.specs.Meaning.{applied, value_or}
use Rattle.pp_steps.specs.Sorted.{operated_sort}

module _ (ctors : List Ctor) where
  -- the part has a value of the sort
  abbrev Gives : Sort → Part Value → Type 0
  Gives r part = Has ctors r (value_or (Truth false) part)

  number_gives : (n : ℤ) (r : Sort) → is_int n ≡ true → Some sort.Int ≡ Some r → Gives r (Ok (Int n))
  number_gives n r fits e = subst (λ s. Has ctors s (Int n)) (same_Some sort.Int r e) (int_has ctors n fits)

  truth_gives : (b : Bool) (r : Sort) → Some sort.Bool ≡ Some r → Gives r (Ok (Truth b))
  truth_gives b r e = subst (λ s. Has ctors s (Truth b)) (same_Some sort.Bool r e) (truth_has ctors b)

  -- what goes on with the number of an Int
  of_number : (go : ℤ → Part Value) (r s : Sort) (v : Value) → Has ctors s v → Some s ≡ Some sort.Int
      → ((n : ℤ) → is_int n ≡ true → Gives r (go n)) → Gives r (and_then (number v) go)
  of_number go r s v h e each =
      let n = int_value ctors v (subst (λ t. Has ctors t v) (same_Some s sort.Int e) h) in
      subst (λ l. Gives r (and_then (number_in l) go)) (sym (ap out-Value n.is ∙ outs-Int n.number))
      (each n.number n.fits)

  pub unary_gives : (op : UnaryOp) (s r : Sort) (v : Value) → Has ctors s v → unary_sort op (Some s) ≡ Some r
      → Gives r (unary op v)
  unary_gives Neg s r v h e =
      let d = int_then (Some s) (Some sort.Int) r e in
      of_number (λ n. Ok (Int (word_neg w32 n))) r s v h d.0 (λ n fits. number_gives _ r (neg_int n) d.1)
  unary_gives Not s r v h e =
      let d = bool_then (Some s) (Some sort.Bool) r e in
      let b = bool_value ctors v (subst (λ t. Has ctors t v) (same_Some s sort.Bool d.0) h) in
      subst (λ l. Gives r (and_then (truth_in l) (λ t. Ok (Truth (not t)))))
      (sym (ap out-Value b.is ∙ outs-Bool b.truth)) (truth_gives (not b.truth) r d.1)
  unary_gives Flip s r v h e =
      let d = int_then (Some s) (Some sort.Int) r e in
      of_number (λ n. Ok (Int (word_not w32 n))) r s v h d.0 (λ n fits. number_gives _ r (not_int n fits) d.1)

  -- ---- two operands

  numbers_give : (op : BinaryOp) (s t u r : Sort) (v w : Value) → Has ctors s v → Has ctors t w
      → Operated (Some s) (Some t) sort.Int u r
      → ((a b : ℤ) → is_int a ≡ true → is_int b ≡ true → Some u ≡ Some r → Gives r (on_numbers op None a b))
      → Gives r (on_layers op None (out-Value v) (out-Value w))
  numbers_give op s t u r v w hv hw are each =
      let a = int_value ctors v (subst (λ q. Has ctors q v) (same_Some s sort.Int are.0) hv) in
      let b = int_value ctors w (subst (λ q. Has ctors q w) (same_Some t sort.Int are.1) hw) in
      subst (λ l. Gives r (on_layers op None l (out-Value w))) (sym (ap out-Value a.is ∙ outs-Int a.number))
      (subst (λ l. Gives r (on_layers op None (layer.Int a.number) l)) (sym (ap out-Value b.is ∙ outs-Int b.number))
      (each a.number b.number a.fits b.fits (ap Some are.2)))

  truths_give : (op : BinaryOp) (s t r : Sort) (v w : Value) → Has ctors s v → Has ctors t w
      → Operated (Some s) (Some t) sort.Bool sort.Bool r
      → ((a b : Bool) → Some sort.Bool ≡ Some r → Gives r (on_truths op a b))
      → Gives r (on_layers op None (out-Value v) (out-Value w))
  truths_give op s t r v w hv hw are each =
      let a = bool_value ctors v (subst (λ q. Has ctors q v) (same_Some s sort.Bool are.0) hv) in
      let b = bool_value ctors w (subst (λ q. Has ctors q w) (same_Some t sort.Bool are.1) hw) in
      subst (λ l. Gives r (on_layers op None l (out-Value w))) (sym (ap out-Value a.is ∙ outs-Bool a.truth))
      (subst (λ l. Gives r (on_layers op None (layer.Bool a.truth) l)) (sym (ap out-Value b.is ∙ outs-Bool b.truth))
      (each a.truth b.truth (ap Some are.2)))

  bits_give : (op : BinaryOp) (s t r : Sort) (v w : Value) → Has ctors s v → Has ctors t w
      → Operated (Some s) (Some t) sort.Int sort.Int r ⊎ Operated (Some s) (Some t) sort.Bool sort.Bool r
      → ((a b : ℤ) → is_int a ≡ true → is_int b ≡ true → Some sort.Int ≡ Some r → Gives r (on_numbers op None a b))
      → ((a b : Bool) → Some sort.Bool ≡ Some r → Gives r (on_truths op a b))
      → Gives r (on_layers op None (out-Value v) (out-Value w))
  bits_give op s t r v w hv hw are f g =
      ⊎_elim (λ k. numbers_give op s t sort.Int r v w hv hw k f) (λ k. truths_give op s t r v w hv hw k g) are

  -- a quotient or a remainder
  quotient_gives : (f : ℤ → ℤ → ℤ) (s t r : Sort) (v w : Value) → Has ctors s v → Has ctors t w
      → Operated (Some s) (Some t) sort.Int sort.Int r
      → ((a b : ℤ) → is_int a ≡ true → is_int (f a b) ≡ true)
      → Gives r (and_then (number v) (λ a. and_then (number w) (λ b. Ok (Int (f a b)))))
  quotient_gives f s t r v w hv hw are fits =
      of_number (λ a. and_then (number w) (λ b. Ok (Int (f a b)))) r s v hv are.0
      (λ a ok. of_number (λ b. Ok (Int (f a b))) r t w hw are.1 (λ b fine. number_gives _ r (fits a b ok)
      (ap Some are.2)))

  equality_gives : (b : Bool) (s t r : Sort) → class_sort class.Equality (Some s) (Some t) ≡ Some r
      → Gives r (Ok (Truth b))
  equality_gives b s t r e = truth_gives b r (ap Some (equality_parts (Some s) (Some t) r e).1.2)

  pub applied_gives : (op : BinaryOp) (s t r : Sort) (v w : Value) → Has ctors s v → Has ctors t w
      → operated_sort op (Some s) (Some t) ≡ Some r → Gives r (applied op v w)
  applied_gives Add s t r v w hv hw e =
      numbers_give Add s t sort.Int r v w hv hw (sum_parts _ _ r e) (λ a b x y. number_gives _ r (add_int a b))
  applied_gives Sub s t r v w hv hw e =
      numbers_give Sub s t sort.Int r v w hv hw (sum_parts _ _ r e) (λ a b x y. number_gives _ r (sub_int a b))
  applied_gives Mul s t r v w hv hw e =
      numbers_give Mul s t sort.Int r v w hv hw (sum_parts _ _ r e) (λ a b x y. number_gives _ r (mul_int a b))
  applied_gives Div s t r v w hv hw e =
      quotient_gives (word_div w32) s t r v w hv hw (sum_parts _ _ r e) (λ a b x. div_int a b)
  applied_gives Rem s t r v w hv hw e =
      quotient_gives (word_rem w32) s t r v w hv hw (sum_parts _ _ r e) (λ a b x. rem_int a b x)
  applied_gives Equal s t r v w hv hw e = equality_gives (equal v w) s t r e
  applied_gives Differ s t r v w hv hw e = equality_gives (not (equal v w)) s t r e
  applied_gives Less s t r v w hv hw e =
      numbers_give Less s t sort.Bool r v w hv hw (order_parts _ _ r e) (λ a b x y. truth_gives _ r)
  applied_gives AtMost s t r v w hv hw e =
      numbers_give AtMost s t sort.Bool r v w hv hw (order_parts _ _ r e) (λ a b x y. truth_gives _ r)
  applied_gives More s t r v w hv hw e =
      numbers_give More s t sort.Bool r v w hv hw (order_parts _ _ r e) (λ a b x y. truth_gives _ r)
  applied_gives AtLeast s t r v w hv hw e =
      numbers_give AtLeast s t sort.Bool r v w hv hw (order_parts _ _ r e) (λ a b x y. truth_gives _ r)
  applied_gives AndAlso s t r v w hv hw e = cc
  applied_gives OrElse s t r v w hv hw e = cc
  applied_gives And s t r v w hv hw e =
      bits_give And s t r v w hv hw (bits_parts _ _ r e) (λ a b x y. number_gives _ r (and_int a b x))
      (λ a b. truth_gives _ r)
  applied_gives Or s t r v w hv hw e =
      bits_give Or s t r v w hv hw (bits_parts _ _ r e) (λ a b x y. number_gives _ r (or_int a b x y))
      (λ a b. truth_gives _ r)
  applied_gives Xor s t r v w hv hw e =
      bits_give Xor s t r v w hv hw (bits_parts _ _ r e) (λ a b x y. number_gives _ r (xor_int a b x y))
      (λ a b. truth_gives _ r)
  applied_gives Shl s t r v w hv hw e =
      numbers_give Shl s t sort.Int r v w hv hw (shift_parts _ _ r e) (λ a b x y. number_gives _ r (shl_int a b))
  applied_gives Shr s t r v w hv hw e =
      numbers_give Shr s t sort.Int r v w hv hw (shift_parts _ _ r e) (λ a b x y. number_gives _ r (shr_int a b x))
  applied_gives Ushr s t r v w hv hw e =
      numbers_give Ushr s t sort.Int r v w hv hw (shift_parts _ _ r e) (λ a b x y. number_gives _ r (ushr_int a b x))
