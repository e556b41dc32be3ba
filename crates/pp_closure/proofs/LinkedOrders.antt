-- Chains of orders.
use Rattle.std.proofs.Common.{◌≡◌, Bool, true, false, Option, Some, None, refl, sym, ap, ◌∙◌, subst, arith}
use Rattle.std.specs.Prelude.{IfSome, not}
use Rattle.std.proofs.Math.Bool.{beq}
use Rattle.std.specs.Int.RustNames.{int_le, int_lt}
use Rattle.std.proofs.lemmas.Int.{ints}
use Rattle.pp_prog.specs.Fits.{same_truth}
use lib.IntN.{ℤ, pos, ◌+ℤ◌, ◌-ℤ◌}
use lib.Signed.{◌≤ℤ◌}

-- what follows from what is said of an item is said of it too
pub if_some : {A : Type 0} (o : Option A) (P Q : A → Type 0) → ((x : A) → P x → Q x) → IfSome o P → IfSome o Q
if_some None P Q go h = tt
if_some (Some x) P Q go h = go x h

pub each_some : {A : Type 0} (o : Option A) (P : A → Type 0) → ((x : A) → o ≡ Some x → P x) → IfSome o P
each_some None P go = tt
each_some (Some x) P go = go x refl

pub of_some : {A : Type 0} (o : Option A) (P : A → Type 0) (x : A) → IfSome o P → o ≡ Some x → P x
of_some {A} o P x h e = let Q : Option A → Type 0 = λ q. IfSome q P in subst Q e h

-- where a step is as it says
is_said : (t p x : Bool) → t ≡ same_truth p x → t ≡ p → x ≡ true
is_said t p x says is = by p (sym says ∙ is)
  where
    by : (q : Bool) → same_truth q x ≡ q → x ≡ true
    by true h = h
    by false h = turned x h
      where
        turned : (e : Bool) → not e ≡ false → e ≡ true
        turned true g = refl
        turned false g = absurd (cc)

-- where a step isn't as it says
pub not_said : (a b : ℤ) (t p : Bool) → t ≡ same_truth p (int_lt a b) → t ≡ not p → int_lt a b ≡ false
not_said a b t p says is = by p (sym says ∙ is)
  where
    by : (q : Bool) → same_truth q (int_lt a b) ≡ not q → int_lt a b ≡ false
    by true h = h
    by false h = turned (int_lt a b) h
      where
        turned : (e : Bool) → not e ≡ true → e ≡ false
        turned true g = absurd (cc)
        turned false g = refl

double : (b : Bool) → b ≡ not (not b)
double true = refl
double false = refl

not_both : (a b : ℤ) → int_lt a b ≡ true → int_lt b a ≡ false
not_both a b h = grind (arith, ints)

one_more : (a b : ℤ) → int_lt a b ≡ true → (a +ℤ pos 1) ≤ℤ b
one_more a b h = grind (arith, ints)

no_more : (a b : ℤ) → int_lt a b ≡ false → (b +ℤ pos 0) ≤ℤ a
no_more a b h = grind (arith, ints)

pub less_apart : (a b : ℤ) (t p : Bool) → t ≡ same_truth p (int_lt a b) → t ≡ p → (a +ℤ pos 1) ≤ℤ b
less_apart a b t p says is = one_more a b (is_said t p (int_lt a b) says is)

pub not_less_apart : (a b : ℤ) (t p : Bool) → t ≡ same_truth p (int_lt a b) → t ≡ not p → (b +ℤ pos 0) ≤ℤ a
not_less_apart a b t p says is = no_more a b (not_said a b t p says is)

-- numbers that are apart, one after another
pub apart_both : (a b d l m n : ℤ) → (a +ℤ l) ≤ℤ b → (b +ℤ m) ≤ℤ d → n ≡ l +ℤ m → (a +ℤ n) ≤ℤ d
apart_both a b d l m n h g e = omega (arith, ints, h, g, e)

pub apart_ends : (a b x y n : ℤ) → a ≡ x → b ≡ y → (x +ℤ n) ≤ℤ y → (a +ℤ n) ≤ℤ b
apart_ends a b x y n e f h = omega (arith, ints, e, f, h)

-- a part and its sum, by the other part
pub part_apart : (a b x y o n : ℤ) → a ≡ x → b ≡ y → y ≡ x +ℤ o → n ≤ℤ o → (a +ℤ n) ≤ℤ b
part_apart a b x y o n e f s h = omega (arith, ints, e, f, s, h)

-- a sum and its part
pub sum_apart : (a b x y o n m : ℤ) → a ≡ y → b ≡ x → y ≡ x +ℤ o → o ≤ℤ m → n ≡ pos 0 -ℤ m → (a +ℤ n) ≤ℤ b
sum_apart a b x y o n m e f s h g = omega (arith, ints, e, f, s, h, g)

pub apart_none : (a b : ℤ) → a ≡ b → (a +ℤ pos 0) ≤ℤ b
apart_none a b e = omega (arith, ints, e)

pub neither_less : (a b : ℤ) → int_lt a b ≡ false → int_lt b a ≡ false → a ≡ b
neither_less a b h k = grind (arith, ints)

pub said_less : (t p l : Bool) → t ≡ same_truth p l → l ≡ true → t ≡ p
said_less t true l says is = says ∙ is
said_less t false l says is = says ∙ ap not is

pub said_not_less : (t p l : Bool) → t ≡ same_truth p l → l ≡ false → t ≡ not p
said_not_less t true l says is = says ∙ is
said_not_less t false l says is = says ∙ ap not is

pub less_by : (a b n : ℤ) → (a +ℤ n) ≤ℤ b → int_lt (pos 0) n ≡ true → int_lt a b ≡ true
less_by a b n h g = grind (arith, ints)

pub not_less_by : (a b n : ℤ) → (a +ℤ n) ≤ℤ b → int_le (pos 0) n ≡ true → int_lt b a ≡ false
not_less_by a b n h g = grind (arith, ints)

-- two steps that compare alike
pub same_said : (t u p q x y : Bool) → t ≡ same_truth p x → u ≡ same_truth q y → x ≡ y → t ≡ same_truth (beq p q) u
same_said t u true true x y e f g = e ∙ g ∙ sym f
same_said t u true false x y e f g = e ∙ g ∙ double y ∙ ap not (sym f)
same_said t u false true x y e f g = e ∙ ap not g ∙ ap not (sym f)
same_said t u false false x y e f g = e ∙ ap not g ∙ sym f

-- of two steps that compare two numbers, and these turned round, only one can be as it says
pub turned_said : (t u p q : Bool) (a b : ℤ) → t ≡ same_truth p (int_lt a b) → u ≡ same_truth q (int_lt b a) → t ≡ p
    → u ≡ not q
turned_said t u p q a b e f g = said_not_less u q (int_lt b a) f (not_both a b (is_said t p (int_lt a b) e g))

-- a number that is at least another one, and isn't that, is more
pub past_low : (w n : ℤ) → n ≤ℤ w → (w ≡ n → ⊥) → (n +ℤ pos 1) ≤ℤ w
past_low w n least differ = by (int_lt n w) refl
  where
    not_less : int_lt w n ≡ false
    not_less = grind (arith, ints)

    by : (b : Bool) → int_lt n w ≡ b → (n +ℤ pos 1) ≤ℤ w
    by true h = one_more n w h
    by false h = absurd (differ (neither_less w n not_less h))

-- and so with at most and less
pub past_high : (w n : ℤ) → w ≤ℤ n → (w ≡ n → ⊥) → w ≤ℤ (n -ℤ pos 1)
past_high w n most differ = by (int_lt w n) refl
  where
    not_less : int_lt n w ≡ false
    not_less = grind (arith, ints)

    one_less : int_lt w n ≡ true → w ≤ℤ (n -ℤ pos 1)
    one_less h = grind (arith, ints)

    by : (b : Bool) → int_lt w n ≡ b → w ≤ℤ (n -ℤ pos 1)
    by true h = one_less h
    by false h = absurd (differ (neither_less w n h not_less))
