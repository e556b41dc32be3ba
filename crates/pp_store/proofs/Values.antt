-- What was held stays held, and stands for the same value, when a store grows.
use Rattle.std.proofs.Common.{◌≡◌, ◌∙◌, ℕ, ◌≤◌, List, [], ◌∷◌, ◌++◌, length, false, refl, sym}
use Rattle.std.proofs.Common.{ap, subst, arith, append-nil, append_assoc, length-append}
use Rattle.std.proofs.lemmas.List.{get_or_append_left}
use Rattle.std.proofs.lemmas.List.Elements.{All-weaker, All-head, All-tail}
use Rattle.pp_prog.specs.declared.value.Value.{Value}
use Rattle.pp_prog.specs.declared.value.Value.TheVariants as value
use Rattle.pp_store.specs.declared.held.Held.{Held}
use Rattle.pp_store.specs.declared.held.Held.TheVariants.{Int, Bool, Tree}
use Rattle.pp_store.specs.Values.{AreBefore, AreHeld, Extends, IsBefore, IsHeld, StandsFor, value_of, values_of}

pub before_more : (m n : ℕ) (h : Held) → m ≤ n → IsBefore m h → IsBefore n h
before_more m n (Int i) le b = tt
before_more m n (Bool t) le b = tt
before_more m n (Tree k) le b = omega (arith, le, b)

pub all_before_more : (m n : ℕ) (hs : List Held) → m ≤ n → AreBefore m hs → AreBefore n hs
all_before_more m n hs le all = All-weaker (IsBefore m) (IsBefore n) (λ h b. before_more m n h le b) hs all

-- ---- with more trees behind

pub value_kept : (trees more : List Value) (h : Held) → IsHeld trees h → value_of (trees ++ more) h ≡ value_of trees h
value_kept trees more (Int i) b = refl
value_kept trees more (Bool t) b = refl
value_kept trees more (Tree k) b = get_or_append_left trees more (value.Bool false) k b

pub values_kept : (trees more : List Value) (hs : List Held) → AreHeld trees hs
    → values_of (trees ++ more) hs ≡ values_of trees hs
values_kept trees more [] all = refl
values_kept trees more (h ∷ hs) all =
    let here = value_kept trees more h (All-head (IsBefore (length trees)) h hs all) in
    let rest = values_kept trees more hs (All-tail (IsBefore (length trees)) h hs all) in cc

le_append : (trees more : List Value) → length trees ≤ length (trees ++ more)
le_append trees more = omega (arith, length-append trees more)

-- ---- in a store that extends another

pub extends_length : (old new : List Value) → Extends old new → length old ≤ length new
extends_length old new (more, e) = subst (λ (l : List Value). length old ≤ length l) (sym e) (le_append old more)

pub extends_held : (old new : List Value) → Extends old new → (h : Held) → IsHeld old h → IsHeld new h
extends_held old new x h b = before_more (length old) (length new) h (extends_length old new x) b

pub extends_all_held : (old new : List Value) → Extends old new → (hs : List Held) → AreHeld old hs → AreHeld new hs
extends_all_held old new x hs all = all_before_more (length old) (length new) hs (extends_length old new x) all

pub extends_value : (old new : List Value) → Extends old new → (h : Held) → IsHeld old h
    → value_of new h ≡ value_of old h
extends_value old new (more, e) h b = ap (λ (l : List Value). value_of l h) e ∙ value_kept old more h b

pub extends_values : (old new : List Value) → Extends old new → (hs : List Held) → AreHeld old hs
    → values_of new hs ≡ values_of old hs
extends_values old new (more, e) hs all = ap (λ (l : List Value). values_of l hs) e ∙ values_kept old more hs all

pub extends_stands : (old new : List Value) → Extends old new → (h : Held) (v : Value) → StandsFor old h v
    → StandsFor new h v
extends_stands old new x h v s =
    record { held = extends_held old new x h s.held; value = extends_value old new x h s.held ∙ s.value }

pub extends_refl : (trees : List Value) → Extends trees trees
extends_refl trees = ([], sym (append-nil trees))

pub extends_trans : (a b c : List Value) → Extends a b → Extends b c → Extends a c
extends_trans a b c (xs, e) (ys, f) =
    (xs ++ ys, f ∙ ap (λ (l : List Value). l ++ ys) e ∙ append_assoc a xs ys)
