-- Sums of products of the values of steps: what steps are made of, and how sums are changed and compared.
use Rattle.std.proofs.Common.{◌≡◌, ◌<◌, ◌≤◌, ℕ, zero, suc, Bool, true, false, refl, sym, ap, subst, ◌∙◌}
use Rattle.std.proofs.Common.{List, [], ◌∷◌, ◌++◌, Some, None, Ok, ◌+◌, ◌^◌, length, take, get_or, arith}
use Rattle.std.specs.Prelude.{IfSome, Option, slice_get, remove}
use Rattle.std.specs.Int.{w32, int_wrap, cast_signed, cast_unsigned}
use Rattle.std.specs.Int.RustNames.{FitsSigned}
use Rattle.std.proofs.Math.IntN.{*ℤ_comm}
use Rattle.std.proofs.lemmas.Bool.{and_parts}
use Rattle.std.proofs.lemmas.List.{take_more}
use Rattle.std.proofs.lemmas.Int.{ints, to_z-of_z}
use Rattle.std.proofs.lemmas.Option.{same_Some, slice_get_within}
use Rattle.pp_tree.specs.declared.operator.BinaryOp.{BinaryOp}
use Rattle.pp_tree.specs.declared.operator.BinaryOp.TheVariants.{Add, Sub, Mul}
use Rattle.pp_tree.specs.declared.operator.UnaryOp.TheVariants.{Neg}
use Rattle.pp_word.specs.Word.{word_add, word_mul, word_neg, word_sub}
use Rattle.pp_word.specs.Wrapping.{IsWord}
use Rattle.pp_word.proofs.Wraps.{WrapsTo-int_wrap}
use Rattle.pp_operators.specs.declared.class.OperatorClass.TheVariants as class
use Rattle.pp_prog.specs.declared.sort.Sort.{Sort}
use Rattle.pp_prog.specs.declared.sort.Sort.TheVariants as sort
use Rattle.pp_prog.specs.declared.types.Ctor.{Ctor}
use Rattle.pp_prog.specs.declared.value.Value.{Value}
use Rattle.pp_prog.specs.declared.value.Value.TheFolds.{map-Value}
use Rattle.pp_prog.specs.declared.value.Value.TheOpen as layer
use Rattle.pp_prog.specs.declared.value.Value.TheVariants.{Int, Bool as Truth, outs-Int}
use Rattle.pp_prog.specs.declared.value.Value.TheViews.{out-Value}
use Rattle.pp_prog.specs.ExprSorts.{class_sort}
use Rattle.pp_prog.specs.Sorts.{has_sort, has_step, same_sort}
use Rattle.pp_prog.proofs.PartSorts.{Operated, int_then, sum_parts}
use Rattle.pp_prog.proofs.ValueSorts.{Has, IsNumber, int_value, level_has, one_sort}
use Rattle.pp_eval.specs.Operators.{number_in, on_layers, unary}
use Rattle.pp_eval.specs.Part.{and_then}
use Rattle.pp_eval.specs.Equality.{equal}
use Rattle.pp_eval.proofs.Trees.{equal_same, same_equal}
use Rattle.pp_eval.proofs.Ranges.{int_fits, word_from}
use Rattle.pp_steps.specs.declared.step.Step.{Step}
use Rattle.pp_steps.specs.declared.step.Step.TheVariants as steps
use Rattle.pp_steps.specs.Meaning.{Values, applied, value_or}
use Rattle.pp_closure.specs.Facts.{IsAnswer}
use Rattle.pp_closure.specs.Sums.{AlikeWords, HasProduct, IsZero, amount, product, total, whole, whole_in}
use Rattle.pp_closure.specs.declared.product.Product.{Product}
use Rattle.pp_closure.specs.declared.terms.Term.{Term}
use Rattle.pp_closure.specs.Valuation.{Valuation}
use Rattle.pp_closure.proofs.Ring.{sum_times, times_first, times_sum, times_times}
use lib.IntN.{ℤ, pos, negsuc, ◌+ℤ◌, ◌-ℤ◌, ◌*ℤ◌, neg_ℤ}

-- ---- words that are alike

alike_self : (a b : ℤ) → a ≡ b → AlikeWords a b
alike_self a b e = (pos 0, omega (arith, ints))

wrap_alike : (z : ℤ) → AlikeWords z (int_wrap w32 z)
wrap_alike z = (WrapsTo-int_wrap w32 z).same

pub add_alike : (a b : ℤ) → AlikeWords (word_add w32 a b) (a +ℤ b)
unfolding word_add
add_alike a b = let h = wrap_alike (a +ℤ b) in (neg_ℤ h.0, omega (arith, ints, h.1))

pub mul_alike : (a b : ℤ) → AlikeWords (word_mul w32 a b) (a *ℤ b)
unfolding word_mul
mul_alike a b = let h = wrap_alike (a *ℤ b) in (neg_ℤ h.0, omega (arith, ints, h.1))

-- the sum and the product of words, which wrap
pub word_sum : (r a b : ℤ) → FitsSigned w32 a → FitsSigned w32 b
    → r ≡ word_add w32 (cast_signed w32 (cast_unsigned w32 a)) (cast_signed w32 (cast_unsigned w32 b))
    → AlikeWords r (a +ℤ b)
word_sum r a b f g e =
    let x = to_z-of_z w32 a f in
    let y = to_z-of_z w32 b g in
    subst (λ z. AlikeWords z (a +ℤ b)) (sym (e ∙ ap (λ z. word_add w32 z (cast_signed w32 (cast_unsigned w32 b))) x
    ∙ ap (λ z. word_add w32 a z) y)) (add_alike a b)

pub word_product : (r a b : ℤ) → FitsSigned w32 a → FitsSigned w32 b
    → r ≡ word_mul w32 (cast_signed w32 (cast_unsigned w32 a)) (cast_signed w32 (cast_unsigned w32 b))
    → AlikeWords r (a *ℤ b)
word_product r a b f g e =
    let x = to_z-of_z w32 a f in
    let y = to_z-of_z w32 b g in
    subst (λ z. AlikeWords z (a *ℤ b)) (sym (e ∙ ap (λ z. word_mul w32 z (cast_signed w32 (cast_unsigned w32 b))) x
    ∙ ap (λ z. word_mul w32 a z) y)) (mul_alike a b)

pub alike_times : (a b c : ℤ) → AlikeWords a b → AlikeWords (a *ℤ c) (b *ℤ c)
alike_times a b c e =
    let k = e.0 in
    let m = pos (2 ^ 32) in
    let g : (k *ℤ m) *ℤ c ≡ (k *ℤ c) *ℤ m =
    times_times k m c ∙ ap (λ z. k *ℤ z) (*ℤ_comm m c) ∙ sym (times_times k c m) in
    (k *ℤ c, ap (λ z. z *ℤ c) e.1 ∙ times_sum b (k *ℤ m) c ∙ ap (λ z. (b *ℤ c) +ℤ z) g)

alike_trans : (a b c : ℤ) → AlikeWords a b → AlikeWords b c → AlikeWords a c
alike_trans a b c h k = (h.0 +ℤ k.0, omega (arith, ints, h.1, k.1))

times_alike : (c a b : ℤ) → AlikeWords a b → AlikeWords (c *ℤ a) (c *ℤ b)
times_alike c a b h =
    subst (λ z. AlikeWords z (c *ℤ b)) (*ℤ_comm a c)
    (subst (λ z. AlikeWords (a *ℤ c) z) (*ℤ_comm b c) (alike_times a b c h))

-- what a number, a sum and a product make of a product, c times

pub number_multiplied : (t z r c n w p : ℤ) → t ≡ r *ℤ p → z ≡ pos 0 → AlikeWords r (c *ℤ n) → w ≡ n
    → AlikeWords (t +ℤ z) (c *ℤ (w *ℤ p))
number_multiplied t z r c n w p e f h g =
    let k = alike_times r (c *ℤ n) p h in
    let a = times_times c n p in
    let b = ap (λ x. c *ℤ (x *ℤ p)) g in
    (k.0, omega (arith, ints, e, f, a, b, k.1))

pub linear_multiplied : (s t q r c a b x y w p : ℤ) → s ≡ q *ℤ (x *ℤ p) → t ≡ r *ℤ (y *ℤ p) → AlikeWords q (c *ℤ a)
    → AlikeWords r (c *ℤ b) → AlikeWords ((a *ℤ x) +ℤ (b *ℤ y)) w → AlikeWords (s +ℤ t) (c *ℤ (w *ℤ p))
linear_multiplied s t q r c a b x y w p e f h k g =
    let one = alike_times q (c *ℤ a) (x *ℤ p) h in
    let two = alike_times r (c *ℤ b) (y *ℤ p) k in
    let i = times_times c a (x *ℤ p) ∙ ap (λ z. c *ℤ z) (sym (times_times a x p)) in
    let j = times_times c b (y *ℤ p) ∙ ap (λ z. c *ℤ z) (sym (times_times b y p)) in
    let both = sum_times c ((a *ℤ x) *ℤ p) ((b *ℤ y) *ℤ p) in
    let sum = ap (λ z. c *ℤ z) (times_sum (a *ℤ x) (b *ℤ y) p) in
    let last = times_alike c _ _ (alike_times ((a *ℤ x) +ℤ (b *ℤ y)) w p g) in
    ((one.0 +ℤ two.0) +ℤ last.0, omega (arith, ints, e, f, one.1, two.1, i, j, both, sum, last.1))

pub product_multiplied : (t z c x y w p o : ℤ) → t ≡ c *ℤ (y *ℤ o) → o ≡ x *ℤ p → z ≡ pos 0 → AlikeWords (x *ℤ y) w
    → AlikeWords (t +ℤ z) (c *ℤ (w *ℤ p))
product_multiplied t z c x y w p o e f n g =
    let a = ap (λ u. c *ℤ (y *ℤ u)) f in
    let b = ap (λ u. c *ℤ u) (times_first y x p ∙ sym (times_times x y p)) in
    let last = times_alike c _ _ (alike_times (x *ℤ y) w p g) in
    (last.0, omega (arith, ints, e, a, b, n, last.1))

-- two words that are alike are one
pub words_same : (a b : ℤ) → IsWord w32 a → IsWord w32 b → AlikeWords a b → a ≡ b
words_same a b h k e =
    let w = WrapsTo-int_wrap w32 a in w.only a h (alike_self a a refl) ∙ sym (w.only b k e)

-- ---- what steps are made of

pub whole_int : (v : Value) (n : ℤ) → v ≡ Int n → whole v ≡ n
whole_int v n e = ap whole e ∙ ap whole_in (outs-Int n)

-- a value of the sort of numbers has no other sort
int_sort : (ctors : List Ctor) (v : Value) (s : Sort) → Has ctors sort.Int v → Has ctors s v → s ≡ sort.Int
int_sort ctors v s h k =
    let n = int_value ctors v h in
    let e : out-Value v ≡ layer.Int n.number = ap out-Value n.is ∙ outs-Int n.number in
    let t : has_step ctors (map-Value Value (Sort → Bool) (has_sort ctors) (layer.Int n.number)) s ≡ true =
    subst (λ l. has_step ctors (map-Value Value (Sort → Bool) (has_sort ctors) l) s ≡ true) e
    (level_has ctors v s k) in
    sym (one_sort sort.Int s (and_parts (same_sort sort.Int s) _ t).0)

-- the number that an operator makes of two numbers, where it wraps
abbrev Makes : BinaryOp → (ℤ → ℤ → ℤ) → Type 0
Makes op f = (v w : Value) (a b : ℤ) → v ≡ Int a → w ≡ Int b
    → value_or (Truth false) (applied op v w) ≡ Int (int_wrap w32 (f a b))

add_is : Makes Add (λ a b. a +ℤ b)
unfolding word_add
add_is v w a b e f =
    ap (λ l. value_or (Truth false) (on_layers Add None l (out-Value w))) (ap out-Value e ∙ outs-Int a)
    ∙ ap (λ l. value_or (Truth false) (on_layers Add None (layer.Int a) l)) (ap out-Value f ∙ outs-Int b)

sub_is : Makes Sub (λ a b. a -ℤ b)
unfolding word_sub
sub_is v w a b e f =
    ap (λ l. value_or (Truth false) (on_layers Sub None l (out-Value w))) (ap out-Value e ∙ outs-Int a)
    ∙ ap (λ l. value_or (Truth false) (on_layers Sub None (layer.Int a) l)) (ap out-Value f ∙ outs-Int b)

mul_is : Makes Mul (λ a b. a *ℤ b)
unfolding word_mul
mul_is v w a b e f =
    ap (λ l. value_or (Truth false) (on_layers Mul None l (out-Value w))) (ap out-Value e ∙ outs-Int a)
    ∙ ap (λ l. value_or (Truth false) (on_layers Mul None (layer.Int a) l)) (ap out-Value f ∙ outs-Int b)

neg_is : (v : Value) (a : ℤ) → v ≡ Int a → value_or (Truth false) (unary Neg v) ≡ Int (int_wrap w32 (neg_ℤ a))
unfolding word_neg
neg_is v a e =
    ap (λ l. value_or (Truth false) (and_then (number_in l) (λ n. Ok (Int (word_neg w32 n)))))
    (ap out-Value e ∙ outs-Int a)

pub zero_word : IsWord w32 (pos 0)
zero_word = (omega (arith, ints), omega (arith, ints))

-- a value that has a sort is a word, as a number
pub sorted_word : (ctors : List Ctor) (v : Value) (s : Sort) → Has ctors s v → IsWord w32 (whole v)
sorted_word ctors v s h = by (out-Value v) refl
  where
    by : (o : layer.Value-F Value) → out-Value v ≡ o → IsWord w32 (whole_in o)
    by (layer.Int n) e =
        let t : has_step ctors (map-Value Value (Sort → Bool) (has_sort ctors) (layer.Int n)) s ≡ true =
        subst (λ l. has_step ctors (map-Value Value (Sort → Bool) (has_sort ctors) l) s ≡ true) e
        (level_has ctors v s h) in
        word_from n (and_parts (same_sort sort.Int s) _ t).1
    by (layer.Bool b) e = zero_word
    by (layer.Tree c fields) e = zero_word

module _ (ss : List Step) (v : Valuation ss) where
  abbrev number_at : ℕ → Type 0
  number_at k = Has v.types.ctors sort.Int (v.values k)

  pub sorted_int : (k : ℕ) → k < length ss → v.sorts k ≡ sort.Int → number_at k
  sorted_int k lt e = subst (λ s. Has v.types.ctors s (v.values k)) e (v.sorted k lt)

  pub number_sort : (j : ℕ) (n : ℤ) → slice_get ss j ≡ Some (steps.Int n) → v.sorts j ≡ sort.Int
  number_sort j n at = (v.typed j _ at).0

  pub made_number : (j : ℕ) (n : ℤ) → slice_get ss j ≡ Some (steps.Int n)
      → whole (v.values j) ≡ cast_signed w32 (cast_unsigned w32 n)
  made_number j n at =
      whole_int (v.values j) n (v.does j _ at) ∙ sym (to_z-of_z w32 n (int_fits n (v.typed j _ at).1))

  -- the operands of a step that makes a number of two
  made_of_two : (op : BinaryOp) (f : ℤ → ℤ → ℤ) (j x y : ℕ) → Makes op f → slice_get ss j ≡ Some (steps.Binary op x y)
      → Operated (Some (v.sorts x)) (Some (v.sorts y)) sort.Int sort.Int (v.sorts j)
      → AlikeWords (f (whole (v.values x)) (whole (v.values y))) (whole (v.values j))
  made_of_two op f j x y makes at p =
      let lt = slice_get_within ss j _ at in
      let r = v.reads j _ at in
      let a = int_value v.types.ctors (v.values x)
      (sorted_int x (omega (arith, lt, r.0)) (same_Some (v.sorts x) sort.Int p.0)) in
      let b = int_value v.types.ctors (v.values y)
      (sorted_int y (omega (arith, lt, r.1)) (same_Some (v.sorts y) sort.Int p.1)) in
      let is = v.does j (steps.Binary op x y) at ∙ makes (v.values x) (v.values y) a.number b.number a.is b.is in
      let l = whole_int _ a.number a.is in
      let m = whole_int _ b.number b.is in
      let n = whole_int (v.values j) _ is in
      let e : f (whole (v.values x)) (whole (v.values y)) ≡ f a.number b.number = cc in
      subst (λ z. AlikeWords (f (whole (v.values x)) (whole (v.values y))) z) (sym n)
      (subst (λ z. AlikeWords z (int_wrap w32 (f a.number b.number))) (sym e) (wrap_alike (f a.number b.number)))

  two : (x y k : ℕ) → class_sort class.Sum (Some (v.sorts x)) (Some (v.sorts y)) ≡ Some (v.sorts k)
      → Operated (Some (v.sorts x)) (Some (v.sorts y)) sort.Int sort.Int (v.sorts k)
  two x y k h = sum_parts (Some (v.sorts x)) (Some (v.sorts y)) (v.sorts k) h

  pub sum_sort : (j x y : ℕ) → slice_get ss j ≡ Some (steps.Binary Add x y) → v.sorts j ≡ sort.Int
  sum_sort j x y at = sym (two x y j (v.typed j _ at)).2

  pub less_sort : (j x y : ℕ) → slice_get ss j ≡ Some (steps.Binary Sub x y) → v.sorts j ≡ sort.Int
  less_sort j x y at = sym (two x y j (v.typed j _ at)).2

  pub product_sort : (j x y : ℕ) → slice_get ss j ≡ Some (steps.Binary Mul x y) → v.sorts j ≡ sort.Int
  product_sort j x y at = sym (two x y j (v.typed j _ at)).2

  pub negated_sort : (j x : ℕ) → slice_get ss j ≡ Some (steps.Unary Neg x) → v.sorts j ≡ sort.Int
  negated_sort j x at =
      sym (same_Some sort.Int (v.sorts j) (int_then (Some (v.sorts x)) _ (v.sorts j) (v.typed j _ at)).1)

  pub made_sum : (j x y : ℕ) → slice_get ss j ≡ Some (steps.Binary Add x y)
      → AlikeWords ((pos 1 *ℤ whole (v.values x)) +ℤ (pos 1 *ℤ whole (v.values y))) (whole (v.values j))
  made_sum j x y at =
      let h = made_of_two Add (λ a b. a +ℤ b) j x y add_is at (two x y j (v.typed j _ at)) in
      (h.0, omega (arith, ints, h.1))

  pub made_less : (j x y : ℕ) → slice_get ss j ≡ Some (steps.Binary Sub x y)
      → AlikeWords ((pos 1 *ℤ whole (v.values x)) +ℤ (negsuc 0 *ℤ whole (v.values y))) (whole (v.values j))
  made_less j x y at =
      let h = made_of_two Sub (λ a b. a -ℤ b) j x y sub_is at (two x y j (v.typed j _ at)) in
      (h.0, omega (arith, ints, h.1))

  pub made_product : (j x y : ℕ) → slice_get ss j ≡ Some (steps.Binary Mul x y)
      → AlikeWords (whole (v.values x) *ℤ whole (v.values y)) (whole (v.values j))
  made_product j x y at = made_of_two Mul (λ a b. a *ℤ b) j x y mul_is at (two x y j (v.typed j _ at))

  pub made_negated : (j x : ℕ) → slice_get ss j ≡ Some (steps.Unary Neg x)
      → AlikeWords ((negsuc 0 *ℤ whole (v.values x)) +ℤ (pos 0 *ℤ whole (v.values x))) (whole (v.values j))
  made_negated j x at =
      let lt = slice_get_within ss j _ at in
      let r = v.reads j _ at in
      let p = int_then (Some (v.sorts x)) _ (v.sorts j) (v.typed j _ at) in
      let a = int_value v.types.ctors (v.values x)
      (sorted_int x (omega (arith, lt, r)) (same_Some (v.sorts x) sort.Int p.0)) in
      let l = whole_int _ a.number a.is in
      let n = whole_int (v.values j) _ (v.does j _ at ∙ neg_is (v.values x) a.number a.is) in
      let h = wrap_alike (neg_ℤ a.number) in
      (h.0, omega (arith, ints, l, n, h.1))

  -- a step that has a number's value has its sort
  pub sort_from : (j k : ℕ) → j < length ss → k < length ss → v.values j ≡ v.values k → v.sorts j ≡ sort.Int
      → v.sorts k ≡ sort.Int
  sort_from j k lj lk e is =
      int_sort v.types.ctors (v.values k) (v.sorts k)
      (subst (λ u. Has v.types.ctors sort.Int u) e (sorted_int j lj is)) (v.sorted k lk)

-- ---- sums of terms

module _ (ρ : Values) where
  pub total_push : (ts : List Term) (t : Term) → total ρ (ts ++ t ∷ []) ≡ total ρ ts +ℤ amount ρ t
  total_push [] t = omega (arith, ints)
  total_push (x ∷ xs) t = omega (arith, ints, total_push xs t)

  pub total_take : (ts : List Term) (i : ℕ) (t d : Term) → i < length ts → get_or ts i d ≡ t
      → total ρ (take (i + 1) ts) ≡ total ρ (take i ts) +ℤ amount ρ t
  total_take ts i t d lt e =
      ap (total ρ) (take_more ts i d lt) ∙ total_push (take i ts) (get_or ts i d)
      ∙ ap (λ x. total ρ (take i ts) +ℤ amount ρ x) e

  pub total_taken : (ts : List Term) (i : ℕ) → length ts ≤ i → total ρ (take i ts) ≡ total ρ ts
  total_taken [] zero h = refl
  total_taken [] (suc i) h = refl
  total_taken (x ∷ xs) zero h = absurd (omega (arith, h))
  total_taken (x ∷ xs) (suc i) h = ap (λ z. amount ρ x +ℤ z) (total_taken xs i (omega (arith, h)))

  pub total_remove : (ts : List Term) (i : ℕ) (t : Term) → slice_get ts i ≡ Some t
      → total ρ ts ≡ amount ρ t +ℤ total ρ (remove ts i)
  total_remove [] i t at = cc
  total_remove (x ∷ xs) zero t at = let e : x ≡ t = cc in ap (λ y. amount ρ y +ℤ total ρ xs) e
  total_remove (x ∷ xs) (suc i) t at = omega (arith, ints, total_remove xs i t at)

  -- a term that has the product is taken out
  pub total_like : (ts : List Term) (i : ℕ) (t : Term) (p : Product) → HasProduct (slice_get ts i) p
      → slice_get ts i ≡ Some t → total ρ ts ≡ (t.coefficient *ℤ product ρ p) +ℤ total ρ (remove ts i)
  total_like ts i t p h at =
      let same : h.0 ≡ t = same_Some h.0 t (sym h.1 ∙ at) in
      let e : product ρ t.product ≡ product ρ p = ap (λ (x : Term). product ρ x.product) (sym same) ∙ h.2 ρ in
      total_remove ts i t at ∙ ap (λ z. (t.coefficient *ℤ z) +ℤ total ρ (remove ts i)) e

-- a term whose product is there before times, and more times
pub added : (before more c p old rest new : ℤ) → old ≡ (before *ℤ p) +ℤ rest → AlikeWords c (before +ℤ more)
    → new ≡ (c *ℤ p) +ℤ rest → AlikeWords new (old +ℤ (more *ℤ p))
added before more c p old rest new e f g =
    let h = alike_times c (before +ℤ more) p f in
    let s = times_sum before more p in
    (h.0, omega (arith, ints, e, g, s, h.1))

-- ---- numbers that are compared

-- two numbers are equal exactly where their difference is 0
pub equal_numbers : (ss : List Step) (v : Valuation ss) (a b : ℕ) (z : ℤ) (none : Bool) → a < length ss → b < length ss
    → v.sorts a ≡ v.sorts b → v.sorts a ≡ sort.Int → AlikeWords z (whole (v.values a) -ℤ whole (v.values b))
    → IsZero none z → equal (v.values a) (v.values b) ≡ none
equal_numbers ss v a b z none la lb e is alike known = by none known
  where
    m : IsNumber v.types.ctors (v.values a)
    m = int_value v.types.ctors (v.values a) (sorted_int ss v a la is)

    n : IsNumber v.types.ctors (v.values b)
    n = int_value v.types.ctors (v.values b) (sorted_int ss v b lb (sym e ∙ is))

    by : (none : Bool) → IsZero none z → equal (v.values a) (v.values b) ≡ none
    by true i =
        let x = whole_int _ _ m.is in
        let y = whole_int _ _ n.is in
        let same : AlikeWords m.number n.number = (neg_ℤ alike.0, omega (arith, ints, x, y, i, alike.1)) in
        let one = words_same m.number n.number (word_from m.number m.fits) (word_from n.number n.fits) same in
        same_equal (v.values a) (v.values b) (m.is ∙ ap Int one ∙ sym n.is)
    by false i = unlike (equal (v.values a) (v.values b)) refl
      where
        unlike : (t : Bool) → equal (v.values a) (v.values b) ≡ t → t ≡ false
        unlike false h = refl
        unlike true h =
            let x = ap whole (equal_same (v.values a) (v.values b) h) in
            let same : AlikeWords z (pos 0) = (alike.0, omega (arith, ints, x, alike.1)) in
            absurd (i.1 (words_same z (pos 0) i.0 zero_word same))

-- the answer whether two numbers are equal, from terms that are their difference
pub equal_answer : (ss : List Step) (v : Valuation ss) (a b : ℕ) (ts : List Term) (o : Option Bool) → a < length ss
    → b < length ss → v.sorts a ≡ v.sorts b → v.sorts a ≡ sort.Int
    → AlikeWords (total v.values ts) (whole (v.values a) -ℤ whole (v.values b))
    → IfSome o (λ zero. (ρ : Values) → IsZero zero (total ρ ts)) → IsAnswer o (equal (v.values a) (v.values b))
equal_answer ss v a b ts None la lb e is alike known = tt
equal_answer ss v a b ts (Some t) la lb e is alike known =
    equal_numbers ss v a b (total v.values ts) t la lb e is alike (known v.values)
