-- Moves to the right, one after another and by too many places, and what they have in common with moves to the left.
use Rattle.std.proofs.Common.{◌≡◌, ℕ, ◌+◌, ◌-◌, ◌*◌, ◌/◌, ◌%◌, ◌^◌, ◌<◌, ◌≤◌, ⊎_elim, min, Bool, true, false, sym, ap}
use Rattle.std.proofs.Common.{if◌then◌else◌, ◌∙◌, arith}
use Rattle.std.proofs.Math.Nat.{div-add-mod', div-le_self, div-eq_of_lt, div-one, mod-eq_of_lt, mul-one, mul-zero}
use Rattle.std.proofs.Math.Nat.{pow-le-pow_right}
use Rattle.std.proofs.lemmas.Nat.{div_below, shr-shr, div-mul-add, mod_below, pow_pos}
use Rattle.std.proofs.lemmas.Bool.{cases_lt}
use Rattle.pp_bits.specs.Number.{bit}
use Rattle.pp_shifts.specs.Shift.{moved_right}
use Rattle.pp_shifts.proofs.Powers.{product_none, product_more}

moved_right_none : (n : ℕ) (fill : Bool) (v : ℕ) → v < 2 ^ n → moved_right n fill v 0 ≡ v
moved_right_none n false v h = div-one v
moved_right_none n true v h = ap (λ x. 2 ^ n - 1 - x) (div-one (2 ^ n - 1 - v)) ∙ omega arith

moved_right_more : (n : ℕ) (fill : Bool) (v i j : ℕ)
    → moved_right n fill (moved_right n fill v i) j ≡ moved_right n fill v (i + j)
moved_right_more n false v i j = shr-shr v i j
moved_right_more n true v i j =
    let rest = 2 ^ n - 1 - v in
    let back : 2 ^ n - 1 - (2 ^ n - 1 - rest / 2 ^ i) ≡ rest / 2 ^ i = omega (arith, div-le_self rest (2 ^ i)) in
    ap (λ x. 2 ^ n - 1 - x) (ap (λ x. x / 2 ^ j) back ∙ shr-shr rest i j)

moved_right_below : (n : ℕ) (fill : Bool) (v k : ℕ) → v < 2 ^ n → moved_right n fill v k < 2 ^ n
moved_right_below n false v k h = omega (arith, div-le_self v (2 ^ k))
moved_right_below n true v k h = omega arith

-- by n places or more nothing of the number is left
div_none : (v n k : ℕ) → v < 2 ^ n → n ≤ k → v / 2 ^ k ≡ 0
div_none v n k h le = let more : 2 ^ n ≤ 2 ^ k = pow-le-pow_right (omega arith) le in div-eq_of_lt (omega arith)

moved_right_all : (n : ℕ) (fill : Bool) (v j k : ℕ) → v < 2 ^ n → n ≤ j → n ≤ k
    → moved_right n fill v j ≡ moved_right n fill v k
moved_right_all n false v j k h p q = div_none v n j h p ∙ sym (div_none v n k h q)
moved_right_all n true v j k h p q =
    let rest = 2 ^ n - 1 - v in
    ap (λ x. 2 ^ n - 1 - x) (div_none rest n j (omega arith) p ∙ sym (div_none rest n k (omega arith) q))

-- the complement of a number below p * q, without what is left of it by q
pub complement_moved : (p q v : ℕ) → 0 < q → v < p * q → (p * q - 1 - v) / q ≡ p - 1 - v / q
complement_moved p q v some h =
    let a = v / q in
    let r = v % q in
    let c = p - 1 - a in
    let whole : a * q + r ≡ v = div-add-mod' v q in
    let small : r < q = mod_below v q some in
    let fewer : a < p = div_below v q p some h in
    let parts : p ≡ a + 1 + c = omega arith in
    let rest : p * q - 1 - v ≡ c * q + (q - 1 - r) = omega (arith, ap (λ x. x * q) parts) in
    ap (λ x. x / q) rest ∙ div-mul-add c q (q - 1 - r) (omega arith)

-- ---- what moves to the left and to the right have in common

-- f moves the n digits of a number by so many places
pub record IsMove (n : ℕ) (f : ℕ → ℕ → ℕ) : Type 0 where
  pub none : (v : ℕ) → v < 2 ^ n → f v 0 ≡ v
  pub more : (v i j : ℕ) → f (f v i) j ≡ f v (i + j)
  pub all : (v j k : ℕ) → v < 2 ^ n → n ≤ j → n ≤ k → f v j ≡ f v k
  pub below : (v k : ℕ) → v < 2 ^ n → f v k < 2 ^ n

pub left_moves : (n : ℕ) → IsMove n (λ v k. (v * 2 ^ k) % 2 ^ n)
left_moves n = record {
  none = λ v h. ap (λ k. k % 2 ^ n) (mul-one v) ∙ mod-eq_of_lt h;
  more = λ v i j. product_more v n i j;
  all = λ v j k h p q. product_none v n j p ∙ sym (product_none v n k q);
  below = λ v k h. mod_below (v * 2 ^ k) (2 ^ n) (pow_pos n);
}

pub right_moves : (n : ℕ) (fill : Bool) → IsMove n (moved_right n fill)
right_moves n fill = record {
  none = moved_right_none n fill;
  more = moved_right_more n fill;
  all = moved_right_all n fill;
  below = moved_right_below n fill;
}

-- by a distance that is cut off at a number of at least n
pub move_cut : {n : ℕ} {f : ℕ → ℕ → ℕ} → IsMove n f → (v by k most : ℕ) → v < 2 ^ n → n ≤ most → by ≡ min k most
    → f v by ≡ f v k
move_cut {n} {f} move v by k most h le e = ⊎_elim
    (λ lt. ap (f v) (omega arith))
    (λ ge. move.all v by k h (omega arith) (omega arith))
    (cases_lt k most)

-- by a digit of the distance: where it is true, the moved number is chosen
pub move_chosen : {n : ℕ} {f : ℕ → ℕ → ℕ} → IsMove n f → (b : Bool) (v moved by r : ℕ) → v < 2 ^ n → moved ≡ f v by
    → r ≡ (if b then moved else v) → r ≡ f v (by * bit b)
move_chosen {n} {f} move true v moved by r h e chosen = chosen ∙ e ∙ ap (f v) (sym (mul-one by))
move_chosen {n} {f} move false v moved by r h e chosen = chosen ∙ sym (ap (f v) (mul-zero by) ∙ move.none v h)

-- by one more digit of the distance
pub move_turn : {n : ℕ} {f : ℕ → ℕ → ℕ} → IsMove n f → (b : Bool) (v w r by place most sum : ℕ) → v < 2 ^ n → n ≤ most
    → by ≡ min place most → w ≡ f v sum → r ≡ f w (by * bit b) → r ≡ f v (sum + place * bit b)
move_turn {n} {f} move true v w r by place most sum h le cut e moved =
    moved ∙ (λ i. f (e i) (mul-one by i)) ∙ move_cut move (f v sum) by place most (move.below v sum h) le cut
    ∙ move.more v sum place ∙ ap (f v) (omega arith)
move_turn {n} {f} move false v w r by place most sum h le cut e moved =
    moved ∙ (λ i. f (e i) (mul-zero by i)) ∙ move.more v sum 0 ∙ ap (f v) (omega arith)
