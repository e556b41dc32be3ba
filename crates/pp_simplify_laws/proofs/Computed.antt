-- What an operator on literals comes to has the value and the sort of the step in whose place it stands.
use Rattle.std.proofs.Common.{◌≡◌, ℕ, Bool, true, false, List, [], Option, Some, None, Ok, Err, slice_get, refl, sym}
use Rattle.std.proofs.Common.{ap, ◌∙◌, subst}
use Rattle.std.specs.Prelude.{ℤ, pos, not}
use Rattle.std.specs.Int.{w32}
use Rattle.std.specs.Ordering.{int_eq}
use Rattle.std.proofs.lemmas.Option.{same_Some}
use Rattle.pp_operators.specs.declared.class.OperatorClass.TheVariants as class
use Rattle.pp_word.specs.Word.{word_div, word_neg, word_not, word_rem}
use Rattle.pp_tree.specs.declared.operator.BinaryOp.{BinaryOp}
use Rattle.pp_tree.specs.declared.operator.BinaryOp.TheVariants.{Add, Sub, Mul, Div, Rem, Equal, Differ, Less, AtMost}
use Rattle.pp_tree.specs.declared.operator.BinaryOp.TheVariants.{More, AtLeast, And, Or, Xor, Shl, Shr, Ushr}
use Rattle.pp_tree.specs.declared.operator.UnaryOp.{UnaryOp}
use Rattle.pp_tree.specs.declared.operator.UnaryOp.TheVariants.{Neg, Not, Flip}
use Rattle.pp_prog.specs.declared.sort.Sort.{Sort}
use Rattle.pp_prog.specs.declared.sort.Sort.TheVariants as sort
use Rattle.pp_prog.specs.declared.types.Ctor.{Ctor}
use Rattle.pp_prog.specs.declared.types.TypeTable.{TypeTable}
use Rattle.pp_prog.specs.declared.value.Value.{Value}
use Rattle.pp_prog.specs.declared.value.Value.TheOpen as layer
use Rattle.pp_prog.specs.declared.value.Value.TheVariants.{Int, Bool as Truth, outs-Int, outs-Bool}
use Rattle.pp_prog.specs.declared.value.Value.TheViews.{out-Value}
use Rattle.pp_prog.specs.ExprSorts.{a_bool, an_int, class_sort, unary_sort}
use Rattle.pp_prog.specs.Sorts.{is_int}
use Rattle.pp_prog.proofs.PartSorts.{equality_parts}
use Rattle.pp_eval.specs.Equality.{equal}
use Rattle.pp_eval.specs.Measure.{goes_down, one_sort}
use Rattle.pp_eval.specs.Operators.{divided, number_in, on_layers, on_numbers, on_truths, operated, truth_in, unary}
use Rattle.pp_eval.specs.Part.{Part, and_then, either, failed}
use Rattle.pp_sound.proofs.Words.{add_int, sub_int, mul_int, neg_int, div_int, rem_int, shl_int, shr_int, ushr_int}
use Rattle.pp_sound.proofs.Words.{and_int, or_int, xor_int, not_int}
use Rattle.pp_steps.specs.declared.step.Step.{Step}
use Rattle.pp_steps.specs.declared.step.Step.TheVariants as steps
use Rattle.pp_steps.specs.Meaning.{Does, Missing, Values, applied, value_or}
use Rattle.pp_steps.specs.Sorted.{IsSorted, Sorts, operated_sort}
use Rattle.pp_simplify.specs.Literals.{computed, literal_at, literal_of, literal_or, of_two, stated}
use Rattle.pp_simplify.proofs.Stating.{stated_by}

-- ---- parts that have a value

same_ok : (p : Part Value) (x y : Value) → p ≡ Ok x → p ≡ Ok y → x ≡ y
same_ok p x y e f = cc

-- a part that goes on with another's value
record Goes (p : Part Value) (go : Value → Part Value) (w : Value) : Type 0 where
  value : Value
  is : p ≡ Ok value
  on : go value ≡ Ok w

goes : (p : Part Value) (go : Value → Part Value) (w : Value) → and_then p go ≡ Ok w → Goes p go w
goes (Ok x) go w h = record { value = x; is = refl; on = h }
goes (Err e) go w h = absurd (cc)

passed : (b : Bool) (p : Part Value) (w : Value) → either b (failed None) p ≡ Ok w → p ≡ Ok w
passed true p w h = absurd (cc)
passed false p w h = h

-- ---- an operator in a run and in steps

div_applied : (o q : layer.Value-F Value) (w : Value) → on_layers Div None o q ≡ Ok w
    → and_then (number_in o) (λ a. and_then (number_in q) (λ b. Ok (Int (word_div w32 a b)))) ≡ Ok w
div_applied (layer.Int a) (layer.Int b) w h = passed (int_eq b (pos 0)) (Ok (Int (word_div w32 a b))) w h
div_applied (layer.Int a) (layer.Bool b) w h = absurd (cc)
div_applied (layer.Int a) (layer.Tree c fields) w h = absurd (cc)
div_applied (layer.Bool a) (layer.Int b) w h = absurd (cc)
div_applied (layer.Bool a) (layer.Bool b) w h = absurd (cc)
div_applied (layer.Bool a) (layer.Tree c fields) w h = absurd (cc)
div_applied (layer.Tree c fields) q w h = absurd (cc)

rem_applied : (o q : layer.Value-F Value) (w : Value) → on_layers Rem None o q ≡ Ok w
    → and_then (number_in o) (λ a. and_then (number_in q) (λ b. Ok (Int (word_rem w32 a b)))) ≡ Ok w
rem_applied (layer.Int a) (layer.Int b) w h = passed (int_eq b (pos 0)) (Ok (Int (word_rem w32 a b))) w h
rem_applied (layer.Int a) (layer.Bool b) w h = absurd (cc)
rem_applied (layer.Int a) (layer.Tree c fields) w h = absurd (cc)
rem_applied (layer.Bool a) (layer.Int b) w h = absurd (cc)
rem_applied (layer.Bool a) (layer.Bool b) w h = absurd (cc)
rem_applied (layer.Bool a) (layer.Tree c fields) w h = absurd (cc)
rem_applied (layer.Tree c fields) q w h = absurd (cc)

applied_is : (op : BinaryOp) (x y w : Value) → operated op None x y ≡ Ok w → applied op x y ≡ Ok w
applied_is Div x y w h = div_applied (out-Value x) (out-Value y) w h
applied_is Rem x y w h = rem_applied (out-Value x) (out-Value y) w h
applied_is op x y w h = h

-- ---- values

abbrev IsPlain : layer.Value-F Value → Type 0
IsPlain (layer.Int n) = Unit {0}
IsPlain (layer.Bool b) = Unit {0}
IsPlain (layer.Tree c fields) = ⊥

literal_plain : (o : Option Step) (x : Value) → literal_of o ≡ Ok x → IsPlain (out-Value x)
literal_plain (Some (steps.Int n)) x h =
    subst (λ y. IsPlain (out-Value y)) (same_ok (Ok (Int n)) (Int n) x refl h) (subst IsPlain (sym (outs-Int n)) tt)
literal_plain (Some (steps.Bool b)) x h =
    subst (λ y. IsPlain (out-Value y)) (same_ok (Ok (Truth b)) (Truth b) x refl h)
    (subst IsPlain (sym (outs-Bool b)) tt)
literal_plain o x h = absurd (cc)

-- of a value that is no tree no constructor is looked up
alike_plain : (ctors : List Ctor) (o q : layer.Value-F Value) → IsPlain o → one_sort ctors o q ≡ one_sort [] o q
alike_plain ctors (layer.Tree c fields) q plain = absurd plain
alike_plain ctors o q plain = refl

module _ (ctors : List Ctor) (missing : Missing) (ρ : Values) (news : List Step)
    (does : (i : ℕ) (s : Step) → slice_get news i ≡ Some s → Does ctors missing ρ s (ρ i))
  where
    literal_is : (a : ℕ) (o : Option Step) (x : Value) → slice_get news a ≡ o → literal_of o ≡ Ok x → ρ a ≡ x
    literal_is a (Some (steps.Int n)) x e h = does a (steps.Int n) e ∙ same_ok (Ok (Int n)) (Int n) x refl h
    literal_is a (Some (steps.Bool b)) x e h = does a (steps.Bool b) e ∙ same_ok (Ok (Truth b)) (Truth b) x refl h
    literal_is a o x e h = absurd (cc)

    one_is : (a : ℕ) (f : Value → Part Value) (w : Value) → and_then (literal_at news a) f ≡ Ok w → f (ρ a) ≡ Ok w
    one_is a f w h =
        let k = goes (literal_at news a) f w h in
        ap f (literal_is a (slice_get news a) k.value refl k.is) ∙ k.on

    two_is : (a b : ℕ) (f : Value → Value → Part Value) (w : Value) → of_two news a b f ≡ Ok w
        → f (ρ a) (ρ b) ≡ Ok w
    two_is a b f w h = one_is b (f (ρ a)) w (one_is a (λ x. and_then (literal_at news b) (f x)) w h)

    plain_at : (a : ℕ) (f : Value → Part Value) (w : Value) → and_then (literal_at news a) f ≡ Ok w
        → IsPlain (out-Value (ρ a))
    plain_at a f w h =
        let k = goes (literal_at news a) f w h in
        subst (λ x. IsPlain (out-Value x)) (sym (literal_is a (slice_get news a) k.value refl k.is))
        (literal_plain (slice_get news a) k.value k.is)

    -- the value of the step is the one that it comes to
    computed_is : (s : Step) (v w : Value) → Does ctors missing ρ s v → computed news s ≡ Ok w → v ≡ w
    computed_is (steps.Unary op a) v w d h = d ∙ ap (value_or (Truth false)) (one_is a (unary op) w h)
    computed_is (steps.Binary op a b) v w d h =
        d ∙ ap (value_or (Truth false)) (applied_is op (ρ a) (ρ b) w (two_is a b (operated op None) w h))
    computed_is (steps.IsAlike a b) v w d h =
        let f = λ (x y : Value). Ok (Truth (one_sort [] (out-Value x) (out-Value y))) in
        d ∙ ap Truth (alike_plain ctors (out-Value (ρ a)) (out-Value (ρ b))
        (plain_at a (λ x. and_then (literal_at news b) (f x)) w h))
        ∙ same_ok (f (ρ a) (ρ b)) _ w refl (two_is a b f w h)
    computed_is (steps.GoesDown a b) v w d h =
        let f = λ (x y : Value). Ok (Truth (goes_down x y)) in
        d ∙ same_ok (f (ρ a) (ρ b)) _ w refl (two_is a b f w h)
    computed_is s v w d h = absurd (cc)

    pub computed_does : (s : Step) (v : Value) → Does ctors missing ρ s v
        → Does ctors missing ρ (stated s (computed news s)) v
    computed_does s v d = stated_by (λ t. Does ctors missing ρ t v) s (computed news s) d
        (λ n e. computed_is s v (Int n) d e) (λ b e. computed_is s v (Truth b) d e)

-- ---- sorts

module _ (types : TypeTable) (σ : Sorts) (news : List Step)
    (sorted : (i : ℕ) (s : Step) → slice_get news i ≡ Some s → IsSorted types σ s (σ i))
  where
    -- what is stated in the place of a step of the sort has it too
    abbrev Suits : Sort → Part Value → Type 0
    Suits t p = (s : Step) → IsSorted types σ s t → IsSorted types σ (stated s p) t

    int_suits : (n : ℤ) (t : Sort) → is_int n ≡ true → Some sort.Int ≡ Some t → Suits t (Ok (Int n))
    int_suits n t is e s h =
        subst (λ o. IsSorted types σ (literal_or s o) t) (sym (outs-Int n)) (sym (same_Some sort.Int t e), is)

    truth_suits : (b : Bool) (t : Sort) → Some sort.Bool ≡ Some t → Suits t (Ok (Truth b))
    truth_suits b t e s h =
        subst (λ o. IsSorted types σ (literal_or s o) t) (sym (outs-Bool b)) (sym (same_Some sort.Bool t e))

    quotient_suits : (b n : ℤ) (t : Sort) → is_int n ≡ true → Some sort.Int ≡ Some t → Suits t (divided None b n)
    quotient_suits b n t is e = by (int_eq b (pos 0))
      where
        by : (zero : Bool) → Suits t (either zero (failed None) (Ok (Int n)))
        by true = λ s own. own
        by false = int_suits n t is e

    -- ---- operators on literals of their sorts

    -- the layer is a literal's of the sort
    abbrev IsLiteral : Sort → layer.Value-F Value → Type 0
    IsLiteral t (layer.Int n) = (t ≡ sort.Int) × (is_int n ≡ true)
    IsLiteral t (layer.Bool b) = t ≡ sort.Bool
    IsLiteral t (layer.Tree c fields) = ⊥

    of_number : (f : ℤ → ℤ) → ((n : ℤ) → is_int n ≡ true → is_int (f n) ≡ true) → (o : layer.Value-F Value) (u t : Sort)
        → IsLiteral u o → an_int (Some u) (Some sort.Int) ≡ Some t
        → Suits t (and_then (number_in o) (λ n. Ok (Int (f n))))
    of_number f fits (layer.Int n) u t is h =
        int_suits (f n) t (fits n is.1) (sym (ap (λ s. an_int (Some s) (Some sort.Int)) is.0) ∙ h)
    of_number f fits o u t is h = λ s own. own

    of_truth : (o : layer.Value-F Value) (u t : Sort) → IsLiteral u o → a_bool (Some u) (Some sort.Bool) ≡ Some t
        → Suits t (and_then (truth_in o) (λ b. Ok (Truth (not b))))
    of_truth (layer.Bool b) u t is h =
        truth_suits (not b) t (sym (ap (λ s. a_bool (Some s) (Some sort.Bool)) is) ∙ h)
    of_truth o u t is h = λ s own. own

    unary_suits : (op : UnaryOp) (x : Value) (u t : Sort) → IsLiteral u (out-Value x) → unary_sort op (Some u) ≡ Some t
        → Suits t (unary op x)
    unary_suits Neg x u t is h = of_number (word_neg w32) (λ n i. neg_int n) (out-Value x) u t is h
    unary_suits Not x u t is h = of_truth (out-Value x) u t is h
    unary_suits Flip x u t is h = of_number (word_not w32) not_int (out-Value x) u t is h

    numbers_suit : (op : BinaryOp) (m n : ℤ) (t : Sort) → is_int m ≡ true → is_int n ≡ true
        → operated_sort op (Some sort.Int) (Some sort.Int) ≡ Some t → Suits t (on_numbers op None m n)
    numbers_suit Add m n t a b h = int_suits _ t (add_int m n) h
    numbers_suit Sub m n t a b h = int_suits _ t (sub_int m n) h
    numbers_suit Mul m n t a b h = int_suits _ t (mul_int m n) h
    numbers_suit Div m n t a b h = quotient_suits n _ t (div_int m n) h
    numbers_suit Rem m n t a b h = quotient_suits n _ t (rem_int m n a) h
    numbers_suit Less m n t a b h = truth_suits _ t h
    numbers_suit AtMost m n t a b h = truth_suits _ t h
    numbers_suit More m n t a b h = truth_suits _ t h
    numbers_suit AtLeast m n t a b h = truth_suits _ t h
    numbers_suit And m n t a b h = int_suits _ t (and_int m n a) h
    numbers_suit Or m n t a b h = int_suits _ t (or_int m n a b) h
    numbers_suit Xor m n t a b h = int_suits _ t (xor_int m n a b) h
    numbers_suit Shl m n t a b h = int_suits _ t (shl_int m n) h
    numbers_suit Shr m n t a b h = int_suits _ t (shr_int m n a) h
    numbers_suit Ushr m n t a b h = int_suits _ t (ushr_int m n a) h
    numbers_suit op m n t a b h = λ s own. own

    truths_suit : (op : BinaryOp) (p q : Bool) (t : Sort)
        → operated_sort op (Some sort.Bool) (Some sort.Bool) ≡ Some t → Suits t (on_truths op p q)
    truths_suit And p q t h = truth_suits _ t h
    truths_suit Or p q t h = truth_suits _ t h
    truths_suit Xor p q t h = truth_suits _ t h
    truths_suit op p q t h = λ s own. own

    same_operated : (op : BinaryOp) (a b t u : Sort) → a ≡ t → b ≡ u
        → operated_sort op (Some t) (Some u) ≡ operated_sort op (Some a) (Some b)
    same_operated op a b t u e f =
        ap (λ v. operated_sort op (Some v) (Some u)) (sym e) ∙ ap (λ v. operated_sort op (Some a) (Some v)) (sym f)

    layers_suit : (op : BinaryOp) (o q : layer.Value-F Value) (u v t : Sort) → IsLiteral u o → IsLiteral v q
        → operated_sort op (Some u) (Some v) ≡ Some t → Suits t (on_layers op None o q)
    layers_suit op (layer.Int m) (layer.Int n) u v t a b h =
        numbers_suit op m n t a.1 b.1 (same_operated op u v sort.Int sort.Int a.0 b.0 ∙ h)
    layers_suit op (layer.Bool p) (layer.Bool q) u v t a b h =
        truths_suit op p q t (same_operated op u v sort.Bool sort.Bool a b ∙ h)
    layers_suit op o q u v t a b h = λ s own. own

    equality_suits : (b : Bool) (u v t : Sort) → class_sort class.Equality (Some u) (Some v) ≡ Some t
        → Suits t (Ok (Truth b))
    equality_suits b u v t h = truth_suits b t (ap Some (equality_parts (Some u) (Some v) t h).1.2)

    binary_suits : (op : BinaryOp) (x y : Value) (u v t : Sort) → IsLiteral u (out-Value x) → IsLiteral v (out-Value y)
        → operated_sort op (Some u) (Some v) ≡ Some t → Suits t (operated op None x y)
    binary_suits Equal x y u v t a b h = equality_suits (equal x y) u v t h
    binary_suits Differ x y u v t a b h = equality_suits (not (equal x y)) u v t h
    binary_suits op x y u v t a b h = layers_suit op (out-Value x) (out-Value y) u v t a b h

    -- ---- literals of the list

    is_literal : (a : ℕ) (o : Option Step) (x : Value) → slice_get news a ≡ o → literal_of o ≡ Ok x
        → IsLiteral (σ a) (out-Value x)
    is_literal a (Some (steps.Int n)) x e h =
        subst (λ y. IsLiteral (σ a) (out-Value y)) (same_ok (Ok (Int n)) (Int n) x refl h)
        (subst (IsLiteral (σ a)) (sym (outs-Int n)) (sorted a (steps.Int n) e))
    is_literal a (Some (steps.Bool b)) x e h =
        subst (λ y. IsLiteral (σ a) (out-Value y)) (same_ok (Ok (Truth b)) (Truth b) x refl h)
        (subst (IsLiteral (σ a)) (sym (outs-Bool b)) (sorted a (steps.Bool b) e))
    is_literal a o x e h = absurd (cc)

    one_suits : (a : ℕ) (f : Value → Part Value) (t : Sort)
        → ((x : Value) → IsLiteral (σ a) (out-Value x) → Suits t (f x)) → Suits t (and_then (literal_at news a) f)
    one_suits a f t go = by (literal_at news a) refl
      where
        by : (p : Part Value) → literal_at news a ≡ p → Suits t (and_then p f)
        by (Ok x) e = go x (is_literal a (slice_get news a) x refl e)
        by (Err d) e = λ s own. own

    two_suit : (a b : ℕ) (f : Value → Value → Part Value) (t : Sort)
        → ((x y : Value) → IsLiteral (σ a) (out-Value x) → IsLiteral (σ b) (out-Value y) → Suits t (f x y))
        → Suits t (of_two news a b f)
    two_suit a b f t go =
        one_suits a (λ x. and_then (literal_at news b) (f x)) t (λ x is. one_suits b (f x) t (λ y. go x y is))

    pub computed_sorted : (s : Step) (t : Sort) → IsSorted types σ s t → IsSorted types σ (stated s (computed news s)) t
    computed_sorted (steps.Unary op a) t h =
        one_suits a (unary op) t (λ x is. unary_suits op x (σ a) t is h) (steps.Unary op a) h
    computed_sorted (steps.Binary op a b) t h =
        two_suit a b (operated op None) t (λ x y is it. binary_suits op x y (σ a) (σ b) t is it h)
        (steps.Binary op a b) h
    computed_sorted (steps.IsAlike a b) t h =
        two_suit a b (λ x y. Ok (Truth (one_sort [] (out-Value x) (out-Value y)))) t
        (λ x y is it. truth_suits _ t (ap Some (sym h.1))) (steps.IsAlike a b) h
    computed_sorted (steps.GoesDown a b) t h =
        two_suit a b (λ x y. Ok (Truth (goes_down x y))) t
        (λ x y is it. truth_suits _ t (ap Some (sym h.1))) (steps.GoesDown a b) h
    computed_sorted s t h = h
