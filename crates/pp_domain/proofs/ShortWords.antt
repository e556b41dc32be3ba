-- Short words: inputs of which the last one is repeated, and the numbers that they can stand for.
use Rattle.std.proofs.Common.{◌≡◌, ℕ, ◌+◌, ◌-◌, ◌*◌, ◌^◌, ◌<◌, ◌≤◌, ⊎_elim, Bool, true, false, List, [], ◌∷◌, ◌++◌, All}
use Rattle.std.proofs.Common.{length, replicate, get_or, refl, sym, ap, ◌∙◌, subst, arith, length-append}
use Rattle.std.proofs.Common.{append_assoc}
use Rattle.std.proofs.lemmas.List.{append-nil, length-replicate, replicate_more}
use Rattle.std.proofs.lemmas.List.Elements.{All-append, All-replicate}
use Rattle.std.proofs.lemmas.Nat.{pow-add}
use Rattle.pp_clause.specs.Literal.{Literal, lit_value}
use Rattle.pp_gate.specs.declared.gate.Gate.{Gate}
use Rattle.pp_gate.specs.Circuit.{Gives, IsOf}
use Rattle.pp_bits.specs.Inputs.{AreInputs, ChosenNumber}
use Rattle.pp_bits.specs.Number.{bit, nat_of}
use Rattle.pp_bits.proofs.Numbers.{nat_of_append, nat_of_first, nat_of_ones, nat_of_padded, nat_of_top, power_next}
use Rattle.pp_domain.specs.Short.{IsShortWord}

-- ---- lists of which the end is one element repeated, as far as place i

pub repeated_none : {X : Type 0} (xs : List X) (n : ℕ) (x : X) → xs ≡ xs ++ replicate (n - n) x
repeated_none xs n x =
    let none : n - n ≡ 0 = omega arith in
    sym (ap (λ k. xs ++ replicate k x) none ∙ append-nil xs)

pub repeated_more : {X : Type 0} (xs ys zs : List X) (n i : ℕ) (x : X) → n ≤ i → ys ≡ xs ++ replicate (i - n) x
    → zs ≡ ys ++ x ∷ [] → zs ≡ xs ++ replicate (i + 1 - n) x
repeated_more xs ys zs n i x h e f =
    let one : i - n + 1 ≡ i + 1 - n = omega arith in
    f ∙ ap (λ l. l ++ x ∷ []) e ∙ append_assoc xs (replicate (i - n) x) (x ∷ [])
    ∙ ap (λ l. xs ++ l) (replicate_more (i - n) x ∙ ap (λ k. replicate k x) one)

pub length_repeated : {X : Type 0} (xs ys : List X) (n k : ℕ) (x : X) → ys ≡ xs ++ replicate k x → length xs ≡ n
    → length ys ≡ n + k
length_repeated xs ys n k x e len =
    ap length e ∙ length-append xs (replicate k x) ∙ (λ i. len i + length-replicate k x i)

All_repeated : {X : Type 0} (P : X → Type 0) (xs ys : List X) (k top : ℕ) (x : X) → ys ≡ xs ++ replicate k x
    → top < length xs → x ≡ get_or xs top x → All P xs → All P ys
All_repeated P xs ys k top x e h at all =
    subst (All P) (sym e) (All-append P xs (replicate k x) all
    (All-replicate P k x (subst P (sym at) (all top x h))))

-- ---- numbers

-- the highest digit is 0 where the number is below its power
top_is_false : (s : ℕ → Bool) (ls : List Literal) (top : ℕ) (l : Literal) → length ls ≡ top + 1 → l ≡ get_or ls top l
    → nat_of s ls < 2 ^ top → lit_value s l ≡ false
top_is_false s ls top l len at small =
    let e = nat_of_top s ls top l l (sym len) at in
    zero_bit (lit_value s l) (2 ^ top) _ e small
  where
    zero_bit : (b : Bool) (p n : ℕ) {m : ℕ} → m ≡ n + p * bit b → m < p → b ≡ false
    zero_bit true p n e h = absurd (omega arith)
    zero_bit false p n e h = refl

-- and otherwise 1
top_is_true : (s : ℕ → Bool) (ls : List Literal) (top : ℕ) (l : Literal) → length ls ≡ top + 1 → l ≡ get_or ls top l
    → 2 ^ top ≤ nat_of s ls → lit_value s l ≡ true
top_is_true s ls top l len at large =
    let e = nat_of_top s ls top l l (sym len) at in
    one_bit (lit_value s l) (2 ^ top) _ e large (nat_of_first s ls top (omega arith))
  where
    one_bit : (b : Bool) (p n : ℕ) {m : ℕ} → m ≡ n + p * bit b → p ≤ m → n < p → b ≡ true
    one_bit true p n e h small = refl
    one_bit false p n e h small = absurd (omega arith)

-- k digits that are all 1 above n digits
nat_of_ones_above : (s : ℕ → Bool) (ls : List Literal) (n k : ℕ) (l : Literal) → length ls ≡ n → lit_value s l ≡ true
    → nat_of s (ls ++ replicate k l) + 2 ^ n ≡ nat_of s ls + 2 ^ (n + k)
nat_of_ones_above s ls n k l len on =
    rw (nat_of_append s ls (replicate k l), len, pow-add 2 n k, ← nat_of_ones s k l on) (omega arith)

-- ---- short words

-- a small number stands in the low digits alone
chosen_small : (gs hs : List Gate) (a : ℕ → Bool) (low k : ℕ) (ls word : List Literal) (sign : Literal)
    → length ls ≡ low + 1 → sign ≡ get_or ls low sign → word ≡ ls ++ replicate k sign → (v : ℕ) → v < 2 ^ low
    → ChosenNumber gs hs a ls v → ChosenNumber gs hs a word v
chosen_small gs hs a low k ls word sign len at is v small pick = record {
  assignment = pick.assignment;
  gives = pick.gives;
  keeps = pick.keeps;
  number =
      let off = top_is_false pick.assignment ls low sign len at (omega (arith, pick.number)) in
      ap (nat_of pick.assignment) is ∙ nat_of_padded pick.assignment ls k sign off ∙ pick.number;
}

-- a number that is small below 2^(low + 1 + k) stands there with its distance from that power
chosen_large : (gs hs : List Gate) (a : ℕ → Bool) (low k : ℕ) (ls word : List Literal) (sign : Literal)
    → length ls ≡ low + 1 → sign ≡ get_or ls low sign → word ≡ ls ++ replicate k sign → (v w : ℕ) → 2 ^ low ≤ w
    → v + 2 ^ (low + 1) ≡ w + 2 ^ (low + 1 + k) → ChosenNumber gs hs a ls w → ChosenNumber gs hs a word v
chosen_large gs hs a low k ls word sign len at is v w large differ pick = record {
  assignment = pick.assignment;
  gives = pick.gives;
  keeps = pick.keeps;
  number =
      let on = top_is_true pick.assignment ls low sign len at (omega (arith, pick.number)) in
      let e = nat_of_ones_above pick.assignment ls (low + 1) k sign len on in
      ap (nat_of pick.assignment) is ∙ omega (arith, pick.number);
}

-- low + 1 inputs, and then the last of them as far as place 32
pub word_is_short : (gs hs : List Gate) (low end : ℕ) (ls word : List Literal) (sign : Literal) → low < 32 → end ≡ 32
    → AreInputs gs hs (low + 1) ls
    → ((s : ℕ → Bool) → Gives s gs → (v : ℕ) → v < 2 ^ (low + 1) → ChosenNumber gs hs s ls v)
    → sign ≡ get_or ls low sign → word ≡ ls ++ replicate (end - (low + 1)) sign → IsShortWord gs hs low word
word_is_short gs hs low end ls word sign h all inputs chosen at is = record {
  len = length_repeated ls word (low + 1) k sign is inputs.len ∙ whole;
  of = All_repeated (IsOf hs) ls word k low sign is within at inputs.of;
  fresh = All_repeated (λ l. length gs < l.var) ls word k low sign is within at inputs.fresh;
  chosen = λ a gives v short. ⊎_elim (chosen_if_small a gives v) (chosen_if_large a gives v) short;
}
  where
    k : ℕ
    k = end - (low + 1)

    whole : low + 1 + k ≡ 32
    whole = omega arith

    within : low < length ls
    within = omega (arith, inputs.len)

    chosen_if_small : (a : ℕ → Bool) → Gives a gs → (v : ℕ) → v < 2 ^ low → ChosenNumber gs hs a word v
    chosen_if_small a gives v small =
        chosen_small gs hs a low k ls word sign inputs.len at is v small
        (chosen a gives v (omega (arith, power_next low)))

    chosen_if_large : (a : ℕ → Bool) → Gives a gs → (v : ℕ) → (2 ^ 32 ≤ v + 2 ^ low) × (v < 2 ^ 32)
        → ChosenNumber gs hs a word v
    chosen_if_large a gives v large =
        let twice = power_next low in
        let w = v + 2 ^ (low + 1) - 2 ^ 32 in
        let differ : v + 2 ^ (low + 1) ≡ w + 2 ^ 32 = omega arith in
        chosen_large gs hs a low k ls word sign inputs.len at is v w (omega arith)
        (differ ∙ ap (λ (n : ℕ). w + 2 ^ n) (sym whole)) (chosen a gives w (omega arith))
