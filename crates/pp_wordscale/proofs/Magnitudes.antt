-- Signs and magnitudes in two's complement, and what the quotients and remainders of magnitudes make of words.
use Rattle.std.proofs.Common.{◌≡◌, ◌≢◌, ℕ, ◌-◌, ◌%◌, ◌^◌, ◌<◌, ⊎_elim, Bool, true, false, if◌then◌else◌, leb}
use Rattle.std.proofs.Common.{List, length, refl, sym, ap, ◌∙◌, subst, arith}
use Rattle.std.specs.Int.{Width, cast_signed}
use Rattle.std.specs.Int.RustNames.{unsigned_abs}
use Rattle.std.proofs.Math.Nat.{mod-eq_of_lt}
use Rattle.std.proofs.Math.Path.{transport}
use Rattle.std.proofs.lemmas.Nat.{pow_pos}
use Rattle.std.proofs.lemmas.Int.{to_z_pos}
use Rattle.std.proofs.lemmas.Bool.{cases_lt}
use Rattle.pp_clause.specs.Literal.{Literal}
use Rattle.pp_gate.specs.declared.gate.Gate.{Gate}
use Rattle.pp_gate.specs.Gate.{xor_of}
use Rattle.pp_gate.specs.Circuit.{Gives}
use Rattle.pp_word.specs.Bits.{differ}
use Rattle.pp_word.specs.Word.{word_div, word_rem}
use Rattle.pp_word.proofs.Ranges.{IsWord-cast_signed}
use Rattle.pp_wordlaws.proofs.Readings.{is_negative, is_negative-cast_signed, unsigned_abs-cast_signed}
use Rattle.pp_wordlaws.proofs.Quotients.{quotient_of_bits, remainder_of_bits}
use Rattle.pp_bits.specs.Number.{nat_of}
use Rattle.pp_bits.proofs.Numbers.{nat_of_below, nat_of_within}
use Rattle.pp_bits.proofs.Signs.{one_less}
use Rattle.pp_products.specs.Division.{Divides}
use Rattle.pp_wordgate.specs.Meaning.{word_of}
use Rattle.pp_wordscale.specs.Division.{magnitude_of, StandsForDivision}
use lib.IntN.{ℤ, pos}
use mir.Val.{bits, hbits}

-- a number that is not 0 has a magnitude
magnitude_some : (n v : ℕ) (high : Bool) → v < 2 ^ n → 0 < v → 0 < (if high then (2 ^ n - v) % 2 ^ n else v)
magnitude_some n v false small some = some
magnitude_some n v true small some =
    let same : (2 ^ n - v) % 2 ^ n ≡ 2 ^ n - v = mod-eq_of_lt (omega arith) in omega arith

pub divisor_some : (s : ℕ → Bool) (b : List Literal) (n d : ℕ) → n ≡ length b → d ≡ magnitude_of n (nat_of s b)
    → 0 < nat_of s b → 0 < d
divisor_some s b n d same e some =
    subst (λ k. 0 < k) (sym (e ∙ ap (λ k. magnitude_of k (nat_of s b)) same))
    (magnitude_some (length b) (nat_of s b) _ (nat_of_below s b) some)

pub Divides_same : {m n d e q r : ℕ} → m ≡ n → d ≡ e → Divides m d q r → Divides n e q r
Divides_same {q} {r} x y h = transport (λ i. Divides (x i) (y i) q r) h

-- ---- at the widths of Rust's integers

-- the top digit is the sign
top_digit : (w : Width) (s : ℕ → Bool) (a : List Literal) → length a ≡ bits w
    → leb (2 ^ (length a - 1)) (nat_of s a) ≡ leb (2 ^ hbits w) (nat_of s a)
top_digit w s a wide = ap (λ k. leb (2 ^ (k - 1)) (nat_of s a)) wide ∙ ap (λ k. leb (2 ^ k) (nat_of s a)) (one_less w)

sign_word : (w : Width) (s : ℕ → Bool) (a : List Literal) (x : Bool) → length a ≡ bits w
    → x ≡ leb (2 ^ (length a - 1)) (nat_of s a)
    → x ≡ is_negative (word_of w s a)
unfolding word_of
sign_word w s a x wide e = e ∙ top_digit w s a wide ∙ sym (is_negative-cast_signed w (nat_of s a))

magnitude_word : (w : Width) (s : ℕ → Bool) (a : List Literal) (n : ℕ) → n ≡ length a → length a ≡ bits w
    → magnitude_of n (nat_of s a) ≡ unsigned_abs (word_of w s a)
unfolding word_of
magnitude_word w s a n same wide =
    let negative = leb (2 ^ (n - 1)) (nat_of s a) in
    let is : negative ≡ leb (2 ^ hbits w) (nat_of s a) =
    ap (λ k. leb (2 ^ (k - 1)) (nat_of s a)) same ∙ top_digit w s a wide in
    ap (λ k. if negative then (2 ^ k - nat_of s a) % 2 ^ k else nat_of s a) (same ∙ wide)
    ∙ sym (unsigned_abs-cast_signed w (nat_of s a) negative (nat_of_within s a (bits w) wide) is)

-- a word other than 0 has a number other than 0
pub word_some : (w : Width) (s : ℕ → Bool) (b : List Literal) → word_of w s b ≢ pos 0 → 0 < nat_of s b
unfolding word_of
word_some w s b other = ⊎_elim
    (λ some. some)
    (λ none.
    let zero_is : nat_of s b ≡ 0 = omega arith in
    absurd (other (ap (cast_signed w) zero_is ∙ to_z_pos w 0 (pow_pos (hbits w)))))
    (cases_lt 0 (nat_of s b))

Divides_words : (w : Width) (s : ℕ → Bool) (a b : List Literal) (q r : ℕ) → length a ≡ length b → length a ≡ bits w
    → Divides (magnitude_of (length a) (nat_of s a)) (magnitude_of (length a) (nat_of s b)) q r
    → Divides (unsigned_abs (word_of w s a)) (unsigned_abs (word_of w s b)) q r
Divides_words w s a b q r same wide d =
    Divides_same (magnitude_word w s a (length a) refl wide)
    (magnitude_word w s b (length a) same (sym same ∙ wide)) d

xor_is_differ : (x y : Bool) → xor_of x y ≡ differ x y
xor_is_differ true y = refl
xor_is_differ false y = refl

-- the quotient that the code lends, with its sign
pub quotient_word : (w : Width) (s : ℕ → Bool) (a b q lq all : List Literal) (x y negative : Bool) (rest : ℕ)
    → length a ≡ length b → length a ≡ bits w → lq ≡ q → length q ≡ length a
    → x ≡ leb (2 ^ (length a - 1)) (nat_of s a) → y ≡ leb (2 ^ (length b - 1)) (nat_of s b) → negative ≡ xor_of x y
    → Divides (magnitude_of (length a) (nat_of s a)) (magnitude_of (length a) (nat_of s b)) (nat_of s q) rest
    → nat_of s all ≡ (if negative then (2 ^ length lq - nat_of s lq) % 2 ^ length lq else nat_of s lq)
    → word_of w s all ≡ word_div w (word_of w s a) (word_of w s b)
unfolding word_of
quotient_word w s a b q lq all x y negative rest same wide eq hq ex ey en d e =
    let n = cast_signed w (nat_of s a) in
    let m = cast_signed w (nat_of s b) in
    let parts = Divides_words w s a b (nat_of s q) rest same wide d in
    let signs : negative ≡ differ (is_negative n) (is_negative m) =
    en ∙ xor_is_differ x y ∙ (λ i. differ (sign_word w s a x wide ex i) (sign_word w s b y (sym same ∙ wide) ey i)) in
    ap (cast_signed w) (e
    ∙ (λ i. if signs i then (2 ^ length (eq i) - nat_of s (eq i)) % 2 ^ length (eq i) else nat_of s (eq i))
    ∙ ap (λ k. if differ (is_negative n) (is_negative m) then (2 ^ k - nat_of s q) % 2 ^ k else nat_of s q) (hq ∙ wide))
    ∙ quotient_of_bits w n m (nat_of s q) rest
    (IsWord-cast_signed w (nat_of s a) (nat_of_within s a (bits w) wide)) parts.whole parts.below

pub remainder_word : (w : Width) (s : ℕ → Bool) (a b r lr all : List Literal) (negative : Bool) (q : ℕ)
    → length a ≡ length b → length a ≡ bits w → lr ≡ r → length r ≡ length a
    → negative ≡ leb (2 ^ (length a - 1)) (nat_of s a)
    → Divides (magnitude_of (length a) (nat_of s a)) (magnitude_of (length a) (nat_of s b)) q (nat_of s r)
    → nat_of s all ≡ (if negative then (2 ^ length lr - nat_of s lr) % 2 ^ length lr else nat_of s lr)
    → word_of w s all ≡ word_rem w (word_of w s a) (word_of w s b)
unfolding word_of
remainder_word w s a b r lr all negative q same wide er hr en d e =
    let n = cast_signed w (nat_of s a) in
    let m = cast_signed w (nat_of s b) in
    let parts = Divides_words w s a b q (nat_of s r) same wide d in
    let sign : negative ≡ is_negative n = sign_word w s a negative wide en in
    ap (cast_signed w) (e
    ∙ (λ i. if sign i then (2 ^ length (er i) - nat_of s (er i)) % 2 ^ length (er i) else nat_of s (er i))
    ∙ ap (λ k. if is_negative n then (2 ^ k - nat_of s r) % 2 ^ k else nat_of s r) (hr ∙ wide))
    ∙ remainder_of_bits w n m q (nat_of s r)
    (IsWord-cast_signed w (nat_of s a) (nat_of_within s a (bits w) wide)) (nat_of_within s r (bits w) (hr ∙ wide))
    parts.whole parts.below

-- what the code lends of two words, and makes a word of
pub division_word : {operation : Width → ℤ → ℤ → ℤ} (w : Width) {gs : List Gate} {a b la lb digits r : List Literal}
    → la ≡ a → lb ≡ b → length a ≡ bits w
    → r ≡ digits → StandsForDivision operation gs la lb digits
    → (s : ℕ → Bool) → Gives s gs → word_of w s b ≢ pos 0 → word_of w s r ≡ operation w (word_of w s a) (word_of w s b)
division_word {operation} w ea eb wide er stands s gives some =
    ap (word_of w s) er
    ∙ stands.value w (ap length ea ∙ wide) s gives (λ e. some (ap (word_of w s) (sym eb) ∙ e))
    ∙ (λ i. operation w (word_of w s (ea i)) (word_of w s (eb i)))
