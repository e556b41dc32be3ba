-- What steps say of the order of numbers.
use Rattle.std.proofs.Common.{◌≡◌, ◌<◌, ℕ, true, false, Option, Some, None, refl, sym, ap, ◌∙◌, arith}
use Rattle.std.proofs.Common.{subst}
use Rattle.std.specs.Prelude.{ℤ, List, length, not, slice_get}
use Rattle.std.specs.Int.RustNames.{int_le, int_lt}
use Rattle.std.proofs.lemmas.Int.{ints}
use Rattle.std.proofs.lemmas.Option.{same_Some, slice_get_within}
use Rattle.pp_tree.specs.declared.operator.BinaryOp.{BinaryOp}
use Rattle.pp_tree.specs.declared.operator.BinaryOp.TheVariants.{Less, AtMost, More, AtLeast}
use Rattle.pp_operators.specs.declared.class.OperatorClass.TheVariants as class
use Rattle.pp_prog.specs.declared.sort.Sort.{Sort}
use Rattle.pp_prog.specs.declared.sort.Sort.TheVariants as sort
use Rattle.pp_prog.specs.declared.value.Value.{Value}
use Rattle.pp_prog.specs.declared.value.Value.TheOpen as layer
use Rattle.pp_prog.specs.declared.value.Value.TheVariants.{outs-Int, Bool as Truth}
use Rattle.pp_prog.specs.declared.value.Value.TheViews.{out-Value, roll-Value, roll-out-Value}
use Rattle.pp_prog.specs.Fits.{same_truth}
use Rattle.pp_prog.specs.ExprSorts.{class_sort}
use Rattle.pp_prog.specs.Sorts.{has_sort}
use Rattle.pp_prog.proofs.PartSorts.{order_parts}
use Rattle.pp_prog.proofs.ValueSorts.{int_value}
use Rattle.pp_word.specs.Word.{word_less}
use Rattle.pp_eval.specs.Operators.{on_layers}
use Rattle.pp_steps.proofs.Bits.{bit_truth}
use Rattle.pp_steps.specs.declared.step.Step.{Step}
use Rattle.pp_steps.specs.declared.step.Step.TheVariants as steps
use Rattle.pp_steps.specs.Meaning.{bit, value_or}
use Rattle.pp_closure.specs.Order.{Compares, Ordered, Says, is_less, is_less_in, order_of}
use Rattle.pp_closure.specs.declared.orders.Order.{Order}
use Rattle.pp_closure.specs.Sums.{whole, whole_in}
use Rattle.pp_closure.proofs.Totals.{sorted_word}
use Rattle.pp_closure.specs.Steps.{order_in}
use Rattle.pp_closure.specs.Valuation.{Valuation}

at_most_is : (a b : ℤ) → int_le a b ≡ not (int_lt b a)
at_most_is a b = grind (arith, ints)

pub not_less_self : (a : ℤ) → int_lt a a ≡ false
not_less_self a = grind (arith, ints)

not_both : (a b : ℤ) → int_lt a b ≡ true → int_lt b a ≡ false
not_both a b h = grind (arith, ints)

-- nothing is less than itself
pub irreflexive : (x : Value) → is_less x x ≡ false
irreflexive x = by (out-Value x)
  where
    by : (o : layer.Value-F Value) → is_less_in o o ≡ false
    by (layer.Int a) = not_less_self a
    by (layer.Bool b) = refl
    by (layer.Tree c fields) = refl

-- of two values one at most is less
pub asymmetric : (x y : Value) → is_less x y ≡ true → is_less y x ≡ false
asymmetric x y = by (out-Value x) (out-Value y)
  where
    by : (o q : layer.Value-F Value) → is_less_in o q ≡ true → is_less_in q o ≡ false
    by (layer.Int a) (layer.Int b) h = not_both a b h
    by (layer.Int a) (layer.Bool b) h = refl
    by (layer.Int a) (layer.Tree c fields) h = refl
    by (layer.Bool a) q h = absurd (cc)
    by (layer.Tree c fields) q h = absurd (cc)

-- ---- operators

less_bit : (o q : layer.Value-F Value) → bit (value_or (Truth false) (on_layers Less None o q)) ≡ is_less_in o q
less_bit (layer.Int a) (layer.Int b) = bit_truth (int_lt a b)
less_bit (layer.Int a) (layer.Bool b) = bit_truth false
less_bit (layer.Int a) (layer.Tree c fields) = bit_truth false
less_bit (layer.Bool a) (layer.Int b) = bit_truth false
less_bit (layer.Bool a) (layer.Bool b) = bit_truth false
less_bit (layer.Bool a) (layer.Tree c fields) = bit_truth false
less_bit (layer.Tree c fields) q = bit_truth false

more_bit : (o q : layer.Value-F Value) → bit (value_or (Truth false) (on_layers More None o q)) ≡ is_less_in q o
more_bit (layer.Int a) (layer.Int b) = bit_truth (int_lt b a)
more_bit (layer.Int a) (layer.Bool b) = bit_truth false
more_bit (layer.Int a) (layer.Tree c fields) = bit_truth false
more_bit (layer.Bool a) (layer.Int b) = bit_truth false
more_bit (layer.Bool a) (layer.Bool b) = bit_truth false
more_bit (layer.Bool a) (layer.Tree c fields) = bit_truth false
more_bit (layer.Tree c fields) (layer.Int b) = bit_truth false
more_bit (layer.Tree c fields) (layer.Bool b) = bit_truth false
more_bit (layer.Tree c fields) (layer.Tree d more) = bit_truth false

at_most_bit : (o q : layer.Value-F Value) (m n : ℤ) → o ≡ layer.Int m → q ≡ layer.Int n
    → bit (value_or (Truth false) (on_layers AtMost None o q)) ≡ not (is_less_in q o)
at_most_bit o q m n e f = rw (e, f) (bit_truth (int_le m n) ∙ at_most_is m n)

at_least_bit : (o q : layer.Value-F Value) (m n : ℤ) → o ≡ layer.Int m → q ≡ layer.Int n
    → bit (value_or (Truth false) (on_layers AtLeast None o q)) ≡ not (is_less_in o q)
at_least_bit o q m n e f = rw (e, f) (bit_truth (int_le n m) ∙ at_most_is n m)

-- of numbers
less_whole : (o q : layer.Value-F Value) (m n : ℤ) → o ≡ layer.Int m → q ≡ layer.Int n
    → is_less_in o q ≡ word_less (whole_in o) (whole_in q)
less_whole o q m n e f = rw (e, f) refl

-- ---- steps

module _ (ss : List Step) (v : Valuation ss) where
  -- the number that a step's value is, by its sort
  pub record IsInt (k : ℕ) : Type 0 where
    pub number : ℤ
    pub is : out-Value (v.values k) ≡ layer.Int number

  pub int_at : (k : ℕ) → v.sorts k ≡ sort.Int → k < length ss → IsInt k
  int_at k e within =
      let Has : Sort → Type 0 = λ s. has_sort v.types.ctors (v.values k) s ≡ true in
      let n = int_value v.types.ctors (v.values k) (subst Has e (v.sorted k within)) in
      record { number = n.number; is = ap out-Value n.is ∙ outs-Int n.number }

  -- the operands of a step that orders numbers
  operands : (k : ℕ) (op : BinaryOp) (a b : ℕ) → slice_get ss k ≡ Some (steps.Binary op a b)
      → class_sort class.Order (Some (v.sorts a)) (Some (v.sorts b)) ≡ Some (v.sorts k) → IsInt a × IsInt b
  operands k op a b at sorted =
      let parts = order_parts (Some (v.sorts a)) (Some (v.sorts b)) (v.sorts k) sorted in
      let below = v.reads k (steps.Binary op a b) at in
      let within = slice_get_within ss k (steps.Binary op a b) at in (
        int_at a (same_Some (v.sorts a) sort.Int parts.0) (omega (arith, below.0, within)),
        int_at b (same_Some (v.sorts b) sort.Int parts.1) (omega (arith, below.1, within)),
      )

  both_within : (k : ℕ) (op : BinaryOp) (a b : ℕ) → slice_get ss k ≡ Some (steps.Binary op a b)
      → (a < length ss) × (b < length ss)
  both_within k op a b at =
      let below = v.reads k (steps.Binary op a b) at in
      let within = slice_get_within ss k (steps.Binary op a b) at in
      (omega (arith, below.0, within), omega (arith, below.1, within))

  pub says_op : (k : ℕ) (op : BinaryOp) (a b : ℕ) → slice_get ss k ≡ Some (steps.Binary op a b)
      → Says v.values k (order_of op a b)
  says_op k Less a b at =
      ap bit (v.does k (steps.Binary Less a b) at) ∙ less_bit (out-Value (v.values a)) (out-Value (v.values b))
  says_op k More a b at =
      ap bit (v.does k (steps.Binary More a b) at) ∙ more_bit (out-Value (v.values a)) (out-Value (v.values b))
  says_op k AtMost a b at =
      let both = operands k AtMost a b at (v.typed k (steps.Binary AtMost a b) at) in
      ap bit (v.does k (steps.Binary AtMost a b) at)
      ∙ at_most_bit (out-Value (v.values a)) (out-Value (v.values b)) both.0.number both.1.number both.0.is both.1.is
  says_op k AtLeast a b at =
      let both = operands k AtLeast a b at (v.typed k (steps.Binary AtLeast a b) at) in
      ap bit (v.does k (steps.Binary AtLeast a b) at)
      ∙ at_least_bit (out-Value (v.values a)) (out-Value (v.values b)) both.0.number both.1.number both.0.is both.1.is
  says_op k op a b at = tt

  -- two numbers that are one make one value
  pub same_numbers : (x y : Value) (m n : ℤ) → out-Value x ≡ layer.Int m → out-Value y ≡ layer.Int n → whole x ≡ whole y
      → x ≡ y
  same_numbers x y m n e f h =
      let i : m ≡ n = sym (ap whole_in e) ∙ h ∙ ap whole_in f in
      sym (roll-out-Value x) ∙ ap roll-Value (e ∙ ap layer.Int i ∙ sym f) ∙ roll-out-Value y

  pub compares : (k : ℕ) (o : Order) → Says v.values k (Some o) → IsInt o.low → IsInt o.high → o.low < length ss
      → o.high < length ss → Compares v.values k o
  compares k o says l h ll lh = record {
    says = says ∙ ap (same_truth o.positive)
        (less_whole (out-Value (v.values o.low)) (out-Value (v.values o.high)) l.number h.number l.is h.is);
    low = sorted_word v.types.ctors (v.values o.low) (v.sorts o.low) (v.sorted o.low ll);
    high = sorted_word v.types.ctors (v.values o.high) (v.sorts o.high) (v.sorted o.high lh);
    one = same_numbers (v.values o.low) (v.values o.high) l.number h.number l.is h.is;
  }

  pub ordered : (k : ℕ) (op : BinaryOp) (a b : ℕ) → slice_get ss k ≡ Some (steps.Binary op a b)
      → Ordered v.values k (order_of op a b)
  ordered k Less a b at =
      let i = operands k Less a b at (v.typed k (steps.Binary Less a b) at) in
      let w = both_within k Less a b at in
      compares k (record { low = a; high = b; positive = true }) (says_op k Less a b at) i.0 i.1 w.0 w.1
  ordered k More a b at =
      let i = operands k More a b at (v.typed k (steps.Binary More a b) at) in
      let w = both_within k More a b at in
      compares k (record { low = b; high = a; positive = true }) (says_op k More a b at) i.1 i.0 w.1 w.0
  ordered k AtMost a b at =
      let i = operands k AtMost a b at (v.typed k (steps.Binary AtMost a b) at) in
      let w = both_within k AtMost a b at in
      compares k (record { low = b; high = a; positive = false }) (says_op k AtMost a b at) i.1 i.0 w.1 w.0
  ordered k AtLeast a b at =
      let i = operands k AtLeast a b at (v.typed k (steps.Binary AtLeast a b) at) in
      let w = both_within k AtLeast a b at in
      compares k (record { low = a; high = b; positive = false }) (says_op k AtLeast a b at) i.0 i.1 w.0 w.1
  ordered k op a b at = tt

  pub says_at : (k : ℕ) (o : Option Step) → slice_get ss k ≡ o → Says v.values k (order_in o)
  says_at k (Some (steps.Binary op a b)) at = says_op k op a b at
  says_at k o at = tt

  pub ordered_at : (k : ℕ) (o : Option Step) → slice_get ss k ≡ o → Ordered v.values k (order_in o)
  ordered_at k (Some (steps.Binary op a b)) at = ordered k op a b at
  ordered_at k o at = tt
