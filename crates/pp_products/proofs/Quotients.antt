-- The arithmetic of quotients, digit by digit.
use Rattle.std.proofs.Common.{◌≡◌, ℕ, ◌+◌, ◌-◌, ◌*◌, ◌^◌, ◌<◌, ◌≤◌, Bool, true, false, not, if◌then◌else◌, ◌||◌, min}
use Rattle.std.proofs.Common.{◌%◌, List, ◌∷◌, length, take, drop, get_or, All, sym, ap, ◌∙◌, subst, arith}
use Rattle.std.specs.Prelude.{nat_le}
use Rattle.std.proofs.Math.Nat.{mod-eq_of_lt, mod-le}
use Rattle.std.proofs.Math.Path.{transport}
use Rattle.std.proofs.lemmas.Bool.{leb-true, leb-false}
use Rattle.std.proofs.lemmas.List.{length-drop}
use Rattle.std.proofs.lemmas.List.Elements.{All-cons, All-take}
use Rattle.pp_clause.specs.Literal.{Literal, opposite, lit_value}
use Rattle.pp_gate.specs.declared.gate.Gate.{Gate}
use Rattle.pp_gate.specs.Circuit.{IsOf}
use Rattle.pp_gate.specs.Growth.{AddsGates}
use Rattle.pp_bits.specs.Number.{bit, lit_bit, nat_of}
use Rattle.pp_bits.proofs.Growing as growing
use Rattle.pp_bits.proofs.Numbers as numbers
use Rattle.pp_products.specs.Division.{Divides}
use Rattle.pp_products.proofs.Cuts.{first_digits}

-- the quotient's digit is whether the subtraction needs no borrow, and the divisor no digit that wasn't subtracted
digit_value : (b greater : Bool) (w d q e less : ℕ) → w < 2 * d → w < q → less < q → e ≡ d % q → greater ≡ nat_le q d
    → less + e ≡ w + q * bit b
    → Divides w d (bit (not (b || greater))) (if b || greater then w else less)
digit_value true greater w d q e less h lw ll cut g sub =
    record { whole = omega arith; below = omega (arith, mod-le d q) }
digit_value false true w d q e less h lw ll cut g sub =
    record { whole = omega arith; below = omega (arith, leb-true q d (sym g)) }
digit_value false false w d q e less h lw ll cut g sub =
    let small : d < q = leb-false q d (sym g) in
    let same : e ≡ d = cut ∙ mod-eq_of_lt small in
    record { whole = omega arith; below = omega arith }

-- what is chosen fits p, so its digits past p are zeros
left_value : (b : Bool) (p w less cut_w cut_less left : ℕ) → (if b then w else less) < p → (w < p → cut_w ≡ w)
    → (less < p → cut_less ≡ less)
    → left ≡ (if b then cut_w else cut_less) → left ≡ (if b then w else less)
left_value true p w less cut_w cut_less left h f g e = e ∙ f h
left_value false p w less cut_w cut_less left h f g e = e ∙ g h

-- what the code of a digit leaves
pub divide_turn : (s : ℕ → Bool) (ds rest wide divisor less left us vs ws ls : List Literal) (n places : ℕ)
    (low borrow greater stays digit : Literal)
    → n ≡ length rest + 1 → wide ≡ low ∷ rest → nat_of s divisor ≡ nat_of s ds % 2 ^ n
    → lit_value s greater ≡ nat_le (2 ^ n) (nat_of s ds)
    → us ≡ wide → vs ≡ divisor → ws ≡ wide → ls ≡ less → places ≡ min n (length ds)
    → length less ≡ length us → nat_of s less + nat_of s vs ≡ nat_of s us + 2 ^ length us * lit_bit s borrow
    → lit_value s stays ≡ (lit_value s borrow || lit_value s greater)
    → nat_of s left ≡ (if lit_value s stays then nat_of s (take places ws) else nat_of s (take places ls))
    → digit ≡ opposite stays → nat_of s rest < nat_of s ds
    → Divides (lit_bit s low + 2 * nat_of s rest) (nat_of s ds) (lit_bit s digit) (nat_of s left)
divide_turn s ds rest wide divisor less left us vs ws ls n places low borrow greater stays digit count iwide idivisor
    igreater iu iv iw il ip len sub istays chosen idigit below =
    let wide_len : length wide ≡ n = ap length iwide ∙ omega arith in
    let q = 2 ^ n in
    let d = nat_of s ds in
    let w = nat_of s wide in
    let b = lit_value s borrow in
    let g = lit_value s greater in
    let is : w ≡ lit_bit s low + 2 * nat_of s rest = ap (nat_of s) iwide ∙ numbers.nat_of_cons s low rest in
    let small : w < 2 * d = omega (arith, is, numbers.bit_small (lit_value s low)) in
    let less_len : length less ≡ n = len ∙ ap length iu ∙ wide_len in
    let step : nat_of s less + nat_of s divisor ≡ w + q * bit b =
    ap (λ (l : List Literal). nat_of s less + nat_of s l) (sym iv) ∙ sub
    ∙ (λ i. nat_of s (iu i) + 2 ^ (ap length iu ∙ wide_len) i * bit b) in
    let all : Divides w d (bit (not (b || g))) (if b || g then w else nat_of s less) =
    digit_value b g w d q (nat_of s divisor) (nat_of s less) small (numbers.nat_of_within s wide n wide_len)
    (numbers.nat_of_within s less n less_len) idivisor igreater step in
    let fits : (if b || g then w else nat_of s less) < 2 ^ length ds =
    omega (arith, all.below, numbers.nat_of_below s ds) in
    let cut : (ms : List Literal) → length ms ≡ n → nat_of s ms < 2 ^ length ds
    → nat_of s (take places ms) ≡ nat_of s ms =
    λ ms e h. first_digits s ms places (length ds) (omega arith) ∙ mod-eq_of_lt h in
    let value = left_value (b || g) (2 ^ length ds) w (nat_of s less) (nat_of s (take places wide))
    (nat_of s (take places less)) (nat_of s left) fits
    (cut wide wide_len) (cut less less_len)
    (chosen ∙ (λ i. if istays i then nat_of s (take places (iw i)) else nat_of s (take places (il i)))) in
    let sign : bit (not (b || g)) ≡ lit_bit s digit =
    ap bit (ap not (sym istays) ∙ sym (numbers.lit_value_negated s digit stays idigit)) in
    transport (λ i. Divides (is i) d (sign i) (sym value i)) all

-- one more digit of the quotient
divides_more : (low n d q r b left : ℕ) → Divides n d q r → Divides (low + 2 * r) d b left
    → Divides (low + 2 * n) d (b + 2 * q) left
divides_more low n d q r b left e f = record { whole = omega (arith, e.whole, f.whole); below = f.below }

pub divide_more : (s : ℕ → Bool) (xs ds q qs r lent left all : List Literal) (low digit : Literal)
    → 0 < length xs → low ≡ get_or xs 0 low → lent ≡ r → qs ≡ q → all ≡ digit ∷ qs
    → Divides (nat_of s (take (length xs - 1) (drop 1 xs))) (nat_of s ds) (nat_of s q) (nat_of s r)
    → (nat_of s lent < nat_of s ds → Divides (lit_bit s low + 2 * nat_of s lent) (nat_of s ds) (lit_bit s digit)
    (nat_of s left))
    → Divides (nat_of s xs) (nat_of s ds) (nat_of s all) (nat_of s left)
divide_more s xs ds q qs r lent left all low digit some islow il iq iall e f =
    let d = nat_of s ds in
    let above = nat_of s (drop 1 xs) in
    let first : Divides above d (nat_of s q) (nat_of s r) =
    subst (λ (l : List Literal). Divides (nat_of s l) d (nat_of s q) (nat_of s r)) (numbers.tail_is xs) e in
    let next : Divides (lit_bit s low + 2 * nat_of s r) d (lit_bit s digit) (nat_of s left) =
    subst (λ (l : List Literal). nat_of s l < d → Divides (lit_bit s low + 2 * nat_of s l) d (lit_bit s digit)
    (nat_of s left)) il f first.below in
    let quotient : nat_of s all ≡ lit_bit s digit + 2 * nat_of s q =
    ap (nat_of s) (iall ∙ ap (λ (l : List Literal). digit ∷ l) iq) ∙ numbers.nat_of_cons s digit q in
    transport (λ i. Divides (sym (numbers.nat_of_uncons s xs low some islow) i) d (sym quotient i) (nat_of s left))
    (divides_more (lit_bit s low) above d (nat_of s q) (nat_of s r) (lit_bit s digit) (nat_of s left) first next)

-- the gates of the digits
pub divide_budget : {X Y : Type 0} (ds : List Y) (xs : List X) → 0 < length xs
    → (5 * length ds + 4) * length (take (length xs - 1) (drop 1 xs)) + (5 * length ds + 4) ≤ (5 * length ds + 4) *
    length xs
divide_budget ds xs h =
    let more : length xs ≡ length (take (length xs - 1) (drop 1 xs)) + 1 =
    omega (arith, ap length (numbers.tail_is xs), length-drop 1 xs) in
    omega (arith, ap (λ (k : ℕ). (5 * length ds + 4) * k) more)

-- one literal below others of the circuit
pub AreOf_over : (gs : List Gate) (l : Literal) (ls lent all : List Literal) → lent ≡ ls → all ≡ l ∷ lent → IsOf gs l
    → All (IsOf gs) ls → All (IsOf gs) all
AreOf_over gs l ls lent all same e of are =
    subst (All (IsOf gs)) (sym (e ∙ ap (λ (ms : List Literal). l ∷ ms) same)) (All-cons (IsOf gs) l ls of are)

-- the digits that a step chooses among are of the circuit as it has grown
pub AreOf_cut : (old new : List Gate) (n k : ℕ) (ls lent : List Literal) → lent ≡ ls → All (IsOf old) ls
    → AddsGates old new n → All (IsOf new) (take k lent)
AreOf_cut old new n k ls lent e of g =
    All-take (IsOf new) k lent (subst (All (IsOf new)) (sym e) (growing.AreOf_more old new n ls g.grows of))

-- the gates of a step before its choice: those of the comparison of the higher digits, the difference and the `or`
pub step_grows : (a b c e : List Gate) (d rest lent low : List Literal) (x : Literal) → lent ≡ low → low ≡ x ∷ rest
    → length rest ≤ length d → AddsGates a b (length d) → AddsGates b c (3 * length lent) → AddsGates c e 1
    → AddsGates a e (4 * length d + 4)
step_grows a b c e d rest lent low x is wide le exceeds less stays =
    growing.AddsGates_more a c e (4 * length d + 3) 1 _
    (growing.AddsGates_more a b c (length d) (3 * length lent) _ exceeds less (omega (arith, ap length (is ∙ wide))))
    stays (omega arith)

-- a remainder, written with as many digits as the divisor
pub Divides_resized : (s : ℕ → Bool) (n q : ℕ) (ds r lent all : List Literal) → lent ≡ r
    → nat_of s all ≡ nat_of s lent % 2 ^ length ds
    → Divides n (nat_of s ds) q (nat_of s r) → Divides n (nat_of s ds) q (nat_of s all)
Divides_resized s n q ds r lent all e cut h =
    let small : nat_of s r < 2 ^ length ds = omega (arith, h.below, numbers.nat_of_below s ds) in
    let same : nat_of s all ≡ nat_of s r =
    cut ∙ ap (λ (l : List Literal). nat_of s l % 2 ^ length ds) e ∙ mod-eq_of_lt small in
    subst (Divides n (nat_of s ds) q) (sym same) h
