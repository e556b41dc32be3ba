-- Numbers that are made digit by digit: the turns of the loops of `bitwise` and `choice`.
use Rattle.std.proofs.Common.{◌≡◌, ℕ, ◌+◌, ◌*◌, ◌^◌, ◌<◌, ◌%◌, ◌/◌, ◌==◌, Bool, true, false, not, if◌then◌else◌, List}
use Rattle.std.proofs.Common.{[], ◌∷◌, ◌++◌, length, take, get_or, refl, sym, ap, ◌∙◌, arith}
use Rattle.std.proofs.lemmas.Bool.Decides.{nat_tests}
use Rattle.std.proofs.lemmas.Nat.{and_block, or_block, xor_block}
use Rattle.pp_clause.specs.Literal.{Literal, lit_value}
use Rattle.pp_bits.specs.Number.{bit, lit_bit, nat_of}
use Rattle.pp_bits.specs.Bitwise.{bit_by, bits_by}
use Rattle.pp_bits.specs.declared.bitwise.Bitwise.{Bitwise}
use Rattle.pp_bits.specs.declared.bitwise.Bitwise.TheVariants.{And, Or, Xor}
use Rattle.pp_bits.proofs.Numbers.{bit_not, nat_of_next, nat_of_first, nat_of_pushed, power_next}

-- one digit more, where f of two numbers has g of their digits as its digits
pub digit_turn : (f : ℕ → ℕ → ℕ) (g : Bool → Bool → Bool)
    → ((i m n a b : ℕ) (x y : Bool) → m < 2 ^ i → n < 2 ^ i → a ≡ m + 2 ^ i * bit x → b ≡ n + 2 ^ i * bit y
    → f m n + 2 ^ i * bit (g x y) ≡ f a b)
    → (s : ℕ → Bool) (xs ys out new : List Literal) (i : ℕ) (x y l : Literal)
    → i < length xs → i < length ys → x ≡ get_or xs i x → y ≡ get_or ys i y → length out ≡ i → new ≡ out ++ l ∷ []
    → lit_value s l ≡ g (lit_value s x) (lit_value s y)
    → nat_of s out ≡ f (nat_of s (take i xs)) (nat_of s (take i ys))
    → nat_of s new ≡ f (nat_of s (take (i + 1) xs)) (nat_of s (take (i + 1) ys))
digit_turn f g law s xs ys out new i x y l hx hy ex ey len is digit lower =
    nat_of_pushed s out new i l len is ∙ (λ j. lower j + 2 ^ i * bit (digit j))
    ∙ law i _ _ _ _ (lit_value s x) (lit_value s y) (nat_of_first s xs i (omega arith))
    (nat_of_first s ys i (omega arith)) (nat_of_next s xs i x x hx ex) (nat_of_next s ys i y y hy ey)

pub bits_by_none : (s : ℕ → Bool) (op : Bitwise) → nat_of s [] ≡ bits_by op (nat_of s []) (nat_of s [])
unfolding nat_of
bits_by_none s And = refl
bits_by_none s Or = refl
bits_by_none s Xor = refl

-- on two numbers of one digit
bits_by_bit : (op : Bitwise) (x y : Bool) → bits_by op (bit x) (bit y) ≡ bit (bit_by op x y)
bits_by_bit And x y = grind (arith, nat_tests)
bits_by_bit Or x y = grind (arith, nat_tests)
bits_by_bit Xor x y = grind (arith, nat_tests)

-- on numbers of more digits, from the highest digit and the others
bits_by_block : (op : Bitwise) (k a b r t : ℕ) → r < 2 ^ k → t < 2 ^ k
    → bits_by op (a * 2 ^ k + r) (b * 2 ^ k + t) ≡ bits_by op a b * 2 ^ k + bits_by op r t
bits_by_block And k a b r t hr ht = and_block k a b r t hr ht
bits_by_block Or k a b r t hr ht = or_block k a b r t hr ht
bits_by_block Xor k a b r t hr ht = xor_block k a b r t hr ht

pub bits_by_digit : (op : Bitwise) (i m n a b : ℕ) (x y : Bool) → m < 2 ^ i → n < 2 ^ i → a ≡ m + 2 ^ i * bit x
    → b ≡ n + 2 ^ i * bit y → bits_by op m n + 2 ^ i * bit (bit_by op x y) ≡ bits_by op a b
bits_by_digit op i m n a b x y hm hn ea eb =
    let left : a ≡ bit x * 2 ^ i + m = omega arith in
    let right : b ≡ bit y * 2 ^ i + n = omega arith in
    let low = bits_by op m n in
    let turned : (d : ℕ) → d * 2 ^ i + low ≡ low + 2 ^ i * d = λ d. omega arith in
    sym ((λ j. bits_by op (left j) (right j)) ∙ bits_by_block op i (bit x) (bit y) m n hm hn
    ∙ turned (bits_by op (bit x) (bit y)) ∙ ap (λ d. low + 2 ^ i * d) (bits_by_bit op x y))

pub choose_none : (s : ℕ → Bool) (v : Bool) → nat_of s [] ≡ (if v then nat_of s [] else nat_of s [])
choose_none s true = refl
choose_none s false = refl

pub choose_digit : (v : Bool) (i m n a b : ℕ) (x y : Bool) → m < 2 ^ i → n < 2 ^ i → a ≡ m + 2 ^ i * bit x
    → b ≡ n + 2 ^ i * bit y → (if v then m else n) + 2 ^ i * bit (if v then x else y) ≡ (if v then a else b)
choose_digit true i m n a b x y hm hn ea eb = sym ea
choose_digit false i m n a b x y hm hn ea eb = sym eb

-- each digit and its negation make 1
pub invert_turn : (s : ℕ → Bool) (xs out new : List Literal) (i : ℕ) (x l : Literal)
    → i < length xs → x ≡ get_or xs i x → length out ≡ i → new ≡ out ++ l ∷ [] → lit_value s l ≡ not (lit_value s x)
    → nat_of s out + nat_of s (take i xs) + 1 ≡ 2 ^ i
    → nat_of s new + nat_of s (take (i + 1) xs) + 1 ≡ 2 ^ (i + 1)
invert_turn s xs out new i x l h ex len is f e =
    let one = ap (λ (b : Bool). 2 ^ i * (bit b + lit_bit s x)) f ∙ ap (λ k. 2 ^ i * k) (bit_not (lit_value s x)) in
    omega (arith, nat_of_pushed s out new i l len is, nat_of_next s xs i x x h ex, one, power_next i)

-- the digits of a number are its remainders by 2, one quotient after another
pub constant_turn : (s : ℕ → Bool) (out new : List Literal) (i rest v : ℕ) (l : Literal)
    → length out ≡ i → new ≡ out ++ l ∷ [] → lit_value s l ≡ (rest % 2 == 1)
    → nat_of s out + 2 ^ i * rest ≡ v
    → nat_of s new + 2 ^ (i + 1) * (rest / 2) ≡ v
constant_turn s out new i rest v l len is f e =
    let digit = ap (λ (b : Bool). 2 ^ i * (bit b + 2 * (rest / 2))) f ∙ ap (λ (k : ℕ). 2 ^ i * k) (halves rest) in
    omega (arith, nat_of_pushed s out new i l len is, digit, ap (λ (k : ℕ). k * (rest / 2)) (power_next i))
  where
    halves : (n : ℕ) → bit (n % 2 == 1) + 2 * (n / 2) ≡ n
    halves n = grind (arith, nat_tests)
