-- The numbers that lists of literals stand for, also of lists that are put together and of parts of lists.
use Rattle.std.proofs.Common.{◌≡◌, ℕ, zero, suc, ◌+◌, ◌-◌, ◌*◌, ◌/◌, ◌%◌, ◌^◌, ◌<◌, ◌≤◌, Bool, true, false, not, List}
use Rattle.std.proofs.Common.{[], ◌∷◌, ◌++◌, length, take, drop, replicate, get_or, refl, sym, ap, ◌∙◌, subst, arith}
use Rattle.std.proofs.Common.{add-one, Option, unwrap_or}
use Rattle.std.proofs.Math.Nat.{pow-succ', mod-eq_of_lt, add-mul-mod_self_left}
use Rattle.std.proofs.lemmas.Nat.{div-mul-add}
use Rattle.std.proofs.lemmas.Option.{unwrap_or-slice_get}
use Rattle.std.proofs.lemmas.List.{take_more, take_all, take-append-drop, length-take-le, length-drop}
use Rattle.pp_clause.specs.Literal.{Literal, opposite, lit_value}
use Rattle.pp_clause.proofs.Truth as truth
use Rattle.pp_bits.specs.Number.{bit, lit_bit, nat_of}
use Rattle.pp_bits.specs.Repeated.{IsRepeatedAt}

pub nat_of_nil : (s : ℕ → Bool) → nat_of s [] ≡ 0
unfolding nat_of
nat_of_nil s = refl

pub nat_of_cons : (s : ℕ → Bool) (l : Literal) (ls : List Literal) → nat_of s (l ∷ ls) ≡ lit_bit s l + 2 * nat_of s ls
unfolding nat_of
nat_of_cons s l ls = refl

pub bit_small : (b : Bool) → bit b ≤ 1
bit_small true = omega arith
bit_small false = omega arith

pub bit_not : (b : Bool) → bit (not b) + bit b ≡ 1
bit_not true = refl
bit_not false = refl

pub power_next : (i : ℕ) → 2 ^ (i + 1) ≡ 2 * 2 ^ i
power_next i = ap (λ (k : ℕ). 2 ^ k) (add-one i) ∙ pow-succ' 2 i

pub power_halves : (n : ℕ) → 0 < n → 2 ^ n ≡ 2 * 2 ^ (n - 1)
power_halves n h = ap (λ (k : ℕ). 2 ^ k) (omega arith) ∙ power_next (n - 1)

-- the digits of one list below those of another
pub nat_of_append : (s : ℕ → Bool) (xs ys : List Literal)
    → nat_of s (xs ++ ys) ≡ nat_of s xs + 2 ^ length xs * nat_of s ys
unfolding nat_of
nat_of_append s [] ys = omega arith
nat_of_append s (x ∷ xs) ys = rw (nat_of_append s xs ys, pow-succ' 2 (length xs)) (omega arith)

pub nat_of_below : (s : ℕ → Bool) (ls : List Literal) → nat_of s ls < 2 ^ length ls
unfolding nat_of
nat_of_below s [] = omega arith
nat_of_below s (l ∷ ls) = rw (pow-succ' 2 (length ls)) (omega (arith, nat_of_below s ls, bit_small (lit_value s l)))

pub nat_of_within : (s : ℕ → Bool) (ls : List Literal) (n : ℕ) → length ls ≡ n → nat_of s ls < 2 ^ n
nat_of_within s ls n len = subst (λ (k : ℕ). nat_of s ls < 2 ^ k) len (nat_of_below s ls)

-- one digit more at the top
pub nat_of_pushed : (s : ℕ → Bool) (out new : List Literal) (i : ℕ) (l : Literal) → length out ≡ i → new ≡ out ++ l ∷ []
    → nat_of s new ≡ nat_of s out + 2 ^ i * lit_bit s l
unfolding nat_of
nat_of_pushed s out new i l len is = rw (is, nat_of_append s out (l ∷ []), len) (omega arith)

-- the first digits of a number, and one more
pub nat_of_next : (s : ℕ → Bool) (xs : List Literal) (i : ℕ) (x d : Literal) → i < length xs → x ≡ get_or xs i d
    → nat_of s (take (i + 1) xs) ≡ nat_of s (take i xs) + 2 ^ i * lit_bit s x
nat_of_next s xs i x d h e =
    nat_of_pushed s (take i xs) (take (i + 1) xs) i x (length-take-le i xs (omega arith))
    (take_more xs i d h ∙ ap (λ l. take i xs ++ l ∷ []) (sym e))

-- a number is its lower digits and its highest
pub nat_of_top : (s : ℕ → Bool) (xs : List Literal) (top : ℕ) (x d : Literal) → top + 1 ≡ length xs
    → x ≡ get_or xs top d → nat_of s xs ≡ nat_of s (take top xs) + 2 ^ top * lit_bit s x
nat_of_top s xs top x d len e =
    ap (nat_of s) (sym (take_all (top + 1) xs (omega arith))) ∙ nat_of_next s xs top x d (omega arith) e

-- whatever that digit is
pub nat_of_split : (s : ℕ → Bool) (xs : List Literal) (n : ℕ) → length xs ≡ n + 1 → (t : Bool)
    × (nat_of s xs ≡ nat_of s (take n xs) + 2 ^ n * bit t)
nat_of_split s [] n len = absurd (omega arith)
nat_of_split s (x ∷ xs) n len =
    let highest = get_or (x ∷ xs) n x in
    (lit_value s highest, nat_of_top s (x ∷ xs) n highest x (sym len) refl)

-- a number is its lowest digit and the others
pub nat_of_uncons : (s : ℕ → Bool) (xs : List Literal) (x : Literal) → 0 < length xs → x ≡ get_or xs 0 x
    → nat_of s xs ≡ lit_bit s x + 2 * nat_of s (drop 1 xs)
nat_of_uncons s [] x h e = absurd (omega arith)
nat_of_uncons s (y ∷ ys) x h e = nat_of_cons s y ys ∙ ap (λ (l : Literal). lit_bit s l + 2 * nat_of s ys) (sym e)

-- a list without its first element, as the code slices it
pub tail_is : {X : Type 0} (xs : List X) → take (length xs - 1) (drop 1 xs) ≡ drop 1 xs
tail_is xs = take_all (length xs - 1) (drop 1 xs) (rw length-drop (omega arith))

pub nat_of_first : (s : ℕ → Bool) (xs : List Literal) (i : ℕ) → i ≤ length xs → nat_of s (take i xs) < 2 ^ i
nat_of_first s xs i h = nat_of_within s (take i xs) i (length-take-le i xs h)

-- a repeated literal is read at the place before it too
get_or_repeated : (xs : List Literal) (i : ℕ) (d : Literal) → IsRepeatedAt xs i → get_or xs i d ≡ get_or xs (i - 1) d
get_or_repeated xs i d r =
    sym (unwrap_or-slice_get xs i d) ∙ ap (λ (o : Option Literal). unwrap_or o d) r.same
    ∙ unwrap_or-slice_get xs (i - 1) d

-- a number, and the same number with its highest digit, which stands at weight p, once more above it
pub record TopRepeated (p first next : ℕ) : Type 0 where
  pub lower : ℕ
  pub top : Bool
  pub below : lower < p
  pub once : first ≡ lower + p * bit top
  pub twice : next ≡ first + 2 * p * bit top

-- the numbers of the first i digits and of the first i + 1, where the digit at place i is a repeated one
pub nat_of_repeated : (s : ℕ → Bool) (xs : List Literal) (i : ℕ) → i < length xs → IsRepeatedAt xs i
    → TopRepeated (2 ^ (i - 1)) (nat_of s (take i xs)) (nat_of s (take (i + 1) xs))
nat_of_repeated s [] i h r = absurd (omega arith)
nat_of_repeated s (x ∷ xs) i h r =
    let all = x ∷ xs in
    let top = get_or all i x in
    let after : i - 1 + 1 ≡ i = omega (arith, r.after) in
    record {
      lower = nat_of s (take (i - 1) all);
      top = lit_value s top;
      below = nat_of_first s all (i - 1) (omega arith);
      once = ap (λ (k : ℕ). nat_of s (take k all)) (sym after)
          ∙ nat_of_next s all (i - 1) top x (omega arith) (get_or_repeated all i x r);
      twice = nat_of_next s all i top x h refl
          ∙ ap (λ (p : ℕ). nat_of s (take i all) + p * lit_bit s top) (power_halves i r.after);
    }

-- m is the remainder of v by p, if it is below p and differs from v by a multiple of p
pub remainder_is : (p m k v : ℕ) → m < p → m + p * k ≡ v → m ≡ v % p
remainder_is p m k v h e = sym (mod-eq_of_lt h) ∙ sym (add-mul-mod_self_left m p k) ∙ ap (λ (x : ℕ). x % p) e

-- a number is its first k digits and the others
pub nat_of_parts : (s : ℕ → Bool) (k : ℕ) (ls : List Literal) → k ≤ length ls
    → nat_of s (take k ls) + 2 ^ k * nat_of s (drop k ls) ≡ nat_of s ls
nat_of_parts s k ls h =
    ap (λ j. nat_of s (take k ls) + 2 ^ j * nat_of s (drop k ls)) (sym (length-take-le k ls h))
    ∙ sym (nat_of_append s (take k ls) (drop k ls)) ∙ ap (nat_of s) (take-append-drop k ls)

pub nat_of_take : (s : ℕ → Bool) (k : ℕ) (ls : List Literal) → k ≤ length ls
    → nat_of s (take k ls) ≡ nat_of s ls % 2 ^ k
nat_of_take s k ls h = remainder_is (2 ^ k) (nat_of s (take k ls)) (nat_of s (drop k ls)) (nat_of s ls)
    (nat_of_first s ls k h) (nat_of_parts s k ls h)

pub nat_of_drop : (s : ℕ → Bool) (k : ℕ) (ls : List Literal) → k ≤ length ls
    → nat_of s (drop k ls) ≡ nat_of s ls / 2 ^ k
nat_of_drop s k ls h =
    sym (div-mul-add (nat_of s (drop k ls)) (2 ^ k) (nat_of s (take k ls)) (nat_of_first s ls k h))
    ∙ ap (λ v. v / 2 ^ k) (omega (arith, nat_of_parts s k ls h))

pub nat_of_zeros : (s : ℕ → Bool) (n : ℕ) (l : Literal) → lit_value s l ≡ false → nat_of s (replicate n l) ≡ 0
unfolding nat_of
nat_of_zeros s zero l h = refl
nat_of_zeros s (suc n) l h = let e : lit_bit s l ≡ 0 = ap bit h in omega (arith, e, nat_of_zeros s n l h)

pub nat_of_padded : (s : ℕ → Bool) (xs : List Literal) (n : ℕ) (l : Literal) → lit_value s l ≡ false
    → nat_of s (xs ++ replicate n l) ≡ nat_of s xs
nat_of_padded s xs n l h =
    nat_of_append s xs (replicate n l) ∙ ap (λ k. nat_of s xs + 2 ^ length xs * k) (nat_of_zeros s n l h) ∙ omega arith

pub nat_of_ones : (s : ℕ → Bool) (n : ℕ) (l : Literal) → lit_value s l ≡ true → nat_of s (replicate n l) + 1 ≡ 2 ^ n
unfolding nat_of
nat_of_ones s zero l h = refl
nat_of_ones s (suc n) l h = let e : lit_bit s l ≡ 1 = ap bit h in
    rw (pow-succ' 2 n) (omega (arith, e, nat_of_ones s n l h))

pub lit_value_negated : (s : ℕ → Bool) (l m : Literal) → l ≡ opposite m → lit_value s l ≡ not (lit_value s m)
lit_value_negated s l m e = ap (lit_value s) e ∙ truth.lit_value_opposite s m

-- the literal that is false, where `truth` is true
pub negated_truth : (s : ℕ → Bool) (l truth : Literal) → l ≡ opposite truth → lit_value s truth ≡ true
    → lit_value s l ≡ false
negated_truth s l truth e h = lit_value_negated s l truth e ∙ ap not h
