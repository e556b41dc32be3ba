-- What an operator makes of values of its operands' sorts is fine.
use Rattle.std.proofs.Common.{◌≡◌, ℕ, Bool, true, false, List, Option, Some, is_some, Ok, refl, sym, subst}
use Rattle.std.proofs.Common.{◌⊎◌, ⊎_elim}
use Rattle.std.specs.Prelude.{not, pos}
use Rattle.std.specs.Ordering.{int_eq}
use Rattle.std.specs.Int.{w32}
use Rattle.pp_word.specs.Word.{word_neg, word_not}
use Rattle.pp_tree.specs.declared.operator.BinaryOp.{BinaryOp}
use Rattle.pp_tree.specs.declared.operator.BinaryOp.TheVariants.{Add, Sub, Mul, Div, Rem, Equal, Differ, Less, AtMost}
use Rattle.pp_tree.specs.declared.operator.BinaryOp.TheVariants.{More, AtLeast, AndAlso, OrElse, And, Or, Xor, Shl, Shr}
use Rattle.pp_tree.specs.declared.operator.BinaryOp.TheVariants.{Ushr}
use Rattle.pp_tree.specs.declared.operator.UnaryOp.{UnaryOp}
use Rattle.pp_tree.specs.declared.operator.UnaryOp.TheVariants.{Neg, Not, Flip}
use Rattle.pp_prog.specs.declared.id.CheckId.{CheckId}
use Rattle.pp_prog.specs.declared.program.Program.{Program}
use Rattle.pp_prog.specs.declared.sort.Sort.{Sort}
use Rattle.pp_prog.specs.declared.sort.Sort.TheVariants as sort
use Rattle.pp_prog.specs.declared.types.Ctor.{Ctor}
use Rattle.pp_prog.specs.declared.value.Value.{Value}
use Rattle.pp_prog.specs.declared.value.Value.TheFolds.{map-Value}
use Rattle.pp_prog.specs.declared.value.Value.TheOpen as value
use Rattle.pp_prog.specs.declared.value.Value.TheVariants.{Int, Bool as Truth}
use Rattle.pp_prog.specs.declared.value.Value.TheViews.{out-Value}
use Rattle.pp_prog.specs.ExprSorts.{binary_sort, unary_sort}
use Rattle.pp_prog.specs.Listing.{operator_site}
use Rattle.pp_prog.specs.Sorts.{has_sort, has_step, is_int}
use Rattle.pp_eval.specs.Equality.{equal}
use Rattle.pp_eval.specs.Meaning.{Frame, Meaning, binary}
use Rattle.pp_eval.specs.Operators.{divided, number, number_in, on_layers, on_numbers, on_truths, truth, truth_in}
use Rattle.pp_eval.specs.Operators.{unary}
use Rattle.pp_eval.specs.Part.{Part, and_then, either}
use Rattle.pp_prog.proofs.ValueSorts.{Has, int_has, level_has, tree_is, truth_has}
use Rattle.pp_sound.proofs.Parts.{IsAny, IsFine, IsOwn, IsSorted, MayStop, fine_either, fine_failed, fine_then}
use Rattle.pp_sound.proofs.Parts.{fine_value}
use Rattle.pp_sound.proofs.Sites.{IsMet}
use Rattle.pp_prog.proofs.PartSorts.{Operated, bits_parts, bool_then, equality_parts, int_then, logic_parts}
use Rattle.pp_prog.proofs.PartSorts.{order_parts}
use Rattle.pp_prog.proofs.PartSorts.{shift_parts, sum_parts}
use Rattle.pp_sound.proofs.Words.{add_int, sub_int, mul_int, neg_int, div_int, rem_int, shl_int, shr_int, ushr_int}
use Rattle.pp_sound.proofs.Words.{and_int, or_int, xor_int, not_int}
use lib.IntN.{ℤ}

module _ (ctors : List Ctor) where
  -- the value with this layer has the sort
  abbrev Level : value.Value-F Value → Sort → Type 0
  Level o s = has_step ctors (map-Value Value (Sort → Bool) (has_sort ctors) o) s ≡ true

  int_level : (o : value.Value-F Value) → Level o sort.Int → (n : ℤ) × (o ≡ value.Int n) × (is_int n ≡ true)
  int_level (value.Int n) h = (n, refl, h)
  int_level (value.Bool b) h = cc
  int_level (value.Tree c fields) h = let k = tree_is _ _ sort.Int h in cc (k.2)

  truth_level : (o : value.Value-F Value) → Level o sort.Bool → (b : Bool) × (o ≡ value.Bool b)
  truth_level (value.Int n) h = cc
  truth_level (value.Bool b) h = (b, refl)
  truth_level (value.Tree c fields) h = let k = tree_is _ _ sort.Bool h in cc (k.2)

  number_is : (v : Value) → Has ctors sort.Int v → (n : ℤ) × (out-Value v ≡ value.Int n) × (is_int n ≡ true)
  number_is v h = int_level (out-Value v) (level_has ctors v sort.Int h)

  truth_is : (v : Value) → Has ctors sort.Bool v → (b : Bool) × (out-Value v ≡ value.Bool b)
  truth_is v h = truth_level (out-Value v) (level_has ctors v sort.Bool h)

module _ (p : Program) (D : Type 0) (i : ℕ) where
  truth_fine : (v : Value) → Has p.types.ctors sort.Bool v → IsFine (MayStop p D i) (IsAny {A = Bool}) (truth v)
  truth_fine v h =
      let k = truth_is p.types.ctors v h in
      subst (λ o. IsFine (MayStop p D i) (IsAny {A = Bool}) (truth_in o)) (sym k.1) (fine_value tt)

  -- a Boolean part comes to a truth value
  pub condition : (part : Part Value) → IsSorted p D i sort.Bool part
      → IsFine (MayStop p D i) (IsAny {A = Bool}) (and_then part truth)
  condition part h = fine_then h truth_fine

  -- what goes on with the truth value of a Boolean part
  pub judged : {B : Type 0} {W : B → Type 0} {part : Part Value} {go : Bool → Part B} → IsSorted p D i sort.Bool part
      → ((t : Bool) → IsFine (MayStop p D i) W (go t)) → IsFine (MayStop p D i) W
      (and_then part (λ v. and_then (truth v) go))
  judged h k = fine_then h (λ v is. fine_then (truth_fine v is) (λ t _. k t))

  -- what goes on with the number of a part that is an Int
  counted : {W : Value → Type 0} {part : Part Value} (go : ℤ → Part Value) → IsSorted p D i sort.Int part
      → ((n : ℤ) → is_int n ≡ true → IsFine (MayStop p D i) W (go n))
      → IsFine (MayStop p D i) W (and_then part (λ v. and_then (number v) go))
  counted {W = W} go h k =
      fine_then h (λ v is. let n = number_is p.types.ctors v is in
      subst (λ o. IsFine (MayStop p D i) W (and_then (number_in o) go)) (sym n.1) (k n.0 n.2))

  -- the part is fine at the sort that there is
  abbrev pub IsAt : Option Sort → Part Value → Type 0
  IsAt o part = (s : Sort) → o ≡ Some s → IsSorted p D i s part

  pub at_sort : (s : Sort) (part : Part Value) → IsSorted p D i s part → IsAt (Some s) part
  at_sort s part h t e = let same : s ≡ t = cc in subst (λ u. IsSorted p D i u part) same h

  an_int_value : (n : ℤ) → is_int n ≡ true → IsSorted p D i sort.Int (Ok (Int n))
  an_int_value n h = fine_value (int_has p.types.ctors n h)

  a_truth_value : (b : Bool) → IsSorted p D i sort.Bool (Ok (Truth b))
  a_truth_value b = fine_value (truth_has p.types.ctors b)

  pub unary_fine : (op : UnaryOp) (o : Option Sort) (part : Part Value) → IsAt o part
      → IsAt (unary_sort op o) (and_then part (unary op))
  unary_fine Neg o part k s h =
      let e = int_then o (Some sort.Int) s h in
      at_sort sort.Int _ (counted (λ n. Ok (Int (word_neg w32 n))) (k sort.Int e.0)
      (λ n is. an_int_value _ (neg_int n))) s e.1
  unary_fine Not o part k s h =
      let e = bool_then o (Some sort.Bool) s h in
      at_sort sort.Bool _ (judged (k sort.Bool e.0) (λ b. a_truth_value (not b))) s e.1
  unary_fine Flip o part k s h =
      let e = int_then o (Some sort.Int) s h in
      at_sort sort.Int _ (counted (λ n. Ok (Int (word_not w32 n))) (k sort.Int e.0)
      (λ n is. an_int_value _ (not_int n is))) s e.1

  -- ---- two operands that were evaluated

  -- the operator on the values of two parts
  abbrev both_on : BinaryOp → Option CheckId → Part Value → Part Value → Part Value
  both_on op check m n = and_then m (λ x. and_then n (λ y. on_layers op check (out-Value x) (out-Value y)))

  numbers_fine : (op : BinaryOp) (check : Option CheckId) (o q : Option Sort) (r s : Sort) (m n : Part Value)
      → Operated o q sort.Int r s → IsAt o m → IsAt q n
      → ((a b : ℤ) → is_int a ≡ true → is_int b ≡ true → IsSorted p D i r (on_numbers op check a b))
      → IsSorted p D i s (both_on op check m n)
  numbers_fine op check o q r s m n are km kn f =
      subst (λ u. IsSorted p D i u (both_on op check m n)) are.2
      (fine_then (km sort.Int are.0) (λ x hx. fine_then (kn sort.Int are.1) (λ y hy.
      let a = number_is p.types.ctors x hx in
      let b = number_is p.types.ctors y hy in
      subst (λ l. IsSorted p D i r (on_layers op check l (out-Value y))) (sym a.1)
      (subst (λ l. IsSorted p D i r (on_layers op check (value.Int a.0) l)) (sym b.1) (f a.0 b.0 a.2 b.2)))))

  truths_fine : (op : BinaryOp) (check : Option CheckId) (o q : Option Sort) (s : Sort) (m n : Part Value)
      → Operated o q sort.Bool sort.Bool s → IsAt o m → IsAt q n
      → ((a b : Bool) → IsSorted p D i sort.Bool (on_truths op a b))
      → IsSorted p D i s (both_on op check m n)
  truths_fine op check o q s m n are km kn f =
      subst (λ u. IsSorted p D i u (both_on op check m n)) are.2
      (fine_then (km sort.Bool are.0) (λ x hx. fine_then (kn sort.Bool are.1) (λ y hy.
      let a = truth_is p.types.ctors x hx in
      let b = truth_is p.types.ctors y hy in
      subst (λ l. IsSorted p D i sort.Bool (on_layers op check l (out-Value y))) (sym a.1)
      (subst (λ l. IsSorted p D i sort.Bool (on_layers op check (value.Bool a.0) l)) (sym b.1) (f a.0 b.0)))))

  bits_fine : (op : BinaryOp) (check : Option CheckId) (o q : Option Sort) (s : Sort) (m n : Part Value)
      → Operated o q sort.Int sort.Int s ⊎ Operated o q sort.Bool sort.Bool s → IsAt o m → IsAt q n
      → ((a b : ℤ) → is_int a ≡ true → is_int b ≡ true → IsSorted p D i sort.Int (on_numbers op check a b))
      → ((a b : Bool) → IsSorted p D i sort.Bool (on_truths op a b))
      → IsSorted p D i s (both_on op check m n)
  bits_fine op check o q s m n are km kn f g =
      ⊎_elim (λ k. numbers_fine op check o q sort.Int s m n k km kn f)
      (λ k. truths_fine op check o q s m n k km kn g) are

  equality_fine : (test : Value → Value → Bool) (o q : Option Sort) (a s : Sort) (m n : Part Value)
      → Operated o q a sort.Bool s → IsAt o m → IsAt q n
      → IsSorted p D i s (and_then m (λ x. and_then n (λ y. Ok (Truth (test x y)))))
  equality_fine test o q a s m n are km kn =
      subst (λ u. IsSorted p D i u (and_then m (λ x. and_then n (λ y. Ok (Truth (test x y)))))) are.2
      (fine_then (km a are.0) (λ x hx. fine_then (kn a are.1) (λ y hy. a_truth_value (test x y))))

  divided_fine : (check : Option CheckId) (b n : ℤ) → is_some check ≡ true → IsOwn p i check → is_int n ≡ true
      → IsSorted p D i sort.Int (divided check b n)
  divided_fine check b n some own h = fine_either (int_eq b (pos 0)) (fine_failed p D i check some own)
      (an_int_value n h)

  -- ---- each operator

  -- the right side is evaluated on one of the two truth values
  skipped_fine : (go : Bool → Part Value) (o q : Option Sort) (s : Sort) (m n : Part Value)
      → Operated o q sort.Bool sort.Bool s → IsAt o m → IsAt q n
      → (IsSorted p D i sort.Bool n → (t : Bool) → IsSorted p D i sort.Bool (go t))
      → IsSorted p D i s (and_then m (λ x. and_then (truth x) go))
  skipped_fine go o q s m n are km kn f =
      subst (λ u. IsSorted p D i u (and_then m (λ x. and_then (truth x) go))) are.2
      (judged (km sort.Bool are.0) (f (kn sort.Bool are.1)))

  pub binary_fine : (op : BinaryOp) (check : Option CheckId) → IsMet p i (operator_site op check)
      → (a b : Meaning) (frame : Frame) (env : List Value) (o q : Option Sort) → IsAt o (a frame env)
      → IsAt q (b frame env)
      → IsAt (binary_sort op o q) (binary op a b check frame env)
  binary_fine Add check met a b frame env o q ka kb s h =
      numbers_fine Add check o q sort.Int s _ _ (sum_parts o q s h) ka kb (λ c d k l. an_int_value _ (add_int c d))
  binary_fine Sub check met a b frame env o q ka kb s h =
      numbers_fine Sub check o q sort.Int s _ _ (sum_parts o q s h) ka kb (λ c d k l. an_int_value _ (sub_int c d))
  binary_fine Mul check met a b frame env o q ka kb s h =
      numbers_fine Mul check o q sort.Int s _ _ (sum_parts o q s h) ka kb (λ c d k l. an_int_value _ (mul_int c d))
  binary_fine Div check met a b frame env o q ka kb s h =
      numbers_fine Div check o q sort.Int s _ _ (sum_parts o q s h) ka kb
      (λ c d k l. divided_fine check d _ met.carries met.own (div_int c d))
  binary_fine Rem check met a b frame env o q ka kb s h =
      numbers_fine Rem check o q sort.Int s _ _ (sum_parts o q s h) ka kb
      (λ c d k l. divided_fine check d _ met.carries met.own (rem_int c d k))
  binary_fine Equal check met a b frame env o q ka kb s h =
      let e = equality_parts o q s h in equality_fine equal o q e.0 s _ _ e.1 ka kb
  binary_fine Differ check met a b frame env o q ka kb s h =
      let e = equality_parts o q s h in equality_fine (λ x y. not (equal x y)) o q e.0 s _ _ e.1 ka kb
  binary_fine Less check met a b frame env o q ka kb s h =
      numbers_fine Less check o q sort.Bool s _ _ (order_parts o q s h) ka kb (λ c d k l. a_truth_value _)
  binary_fine AtMost check met a b frame env o q ka kb s h =
      numbers_fine AtMost check o q sort.Bool s _ _ (order_parts o q s h) ka kb (λ c d k l. a_truth_value _)
  binary_fine More check met a b frame env o q ka kb s h =
      numbers_fine More check o q sort.Bool s _ _ (order_parts o q s h) ka kb (λ c d k l. a_truth_value _)
  binary_fine AtLeast check met a b frame env o q ka kb s h =
      numbers_fine AtLeast check o q sort.Bool s _ _ (order_parts o q s h) ka kb (λ c d k l. a_truth_value _)
  binary_fine AndAlso check met a b frame env o q ka kb s h =
      skipped_fine (λ t. either t (b frame env) (Ok (Truth false))) o q s _ _ (logic_parts o q s h) ka kb
      (λ n t. fine_either t n (a_truth_value false))
  binary_fine OrElse check met a b frame env o q ka kb s h =
      skipped_fine (λ t. either t (Ok (Truth true)) (b frame env)) o q s _ _ (logic_parts o q s h) ka kb
      (λ n t. fine_either t (a_truth_value true) n)
  binary_fine And check met a b frame env o q ka kb s h =
      bits_fine And check o q s _ _ (bits_parts o q s h) ka kb (λ c d k l. an_int_value _ (and_int c d k))
      (λ c d. a_truth_value _)
  binary_fine Or check met a b frame env o q ka kb s h =
      bits_fine Or check o q s _ _ (bits_parts o q s h) ka kb (λ c d k l. an_int_value _ (or_int c d k l))
      (λ c d. a_truth_value _)
  binary_fine Xor check met a b frame env o q ka kb s h =
      bits_fine Xor check o q s _ _ (bits_parts o q s h) ka kb (λ c d k l. an_int_value _ (xor_int c d k l))
      (λ c d. a_truth_value _)
  binary_fine Shl check met a b frame env o q ka kb s h =
      numbers_fine Shl check o q sort.Int s _ _ (shift_parts o q s h) ka kb (λ c d k l. an_int_value _ (shl_int c d))
  binary_fine Shr check met a b frame env o q ka kb s h =
      numbers_fine Shr check o q sort.Int s _ _ (shift_parts o q s h) ka kb (λ c d k l. an_int_value _ (shr_int c d k))
  binary_fine Ushr check met a b frame env o q ka kb s h =
      numbers_fine Ushr check o q sort.Int s _ _ (shift_parts o q s h) ka kb
      (λ c d k l. an_int_value _ (ushr_int c d k))
