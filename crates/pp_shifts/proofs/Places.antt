-- The numbers of lists of literals that are moved by some places.
use Rattle.std.proofs.Common.{◌≡◌, ℕ, ◌+◌, ◌-◌, ◌*◌, ◌/◌, ◌%◌, ◌^◌, ◌<◌, ◌≤◌, min, Bool, true, false, List, ◌++◌}
use Rattle.std.proofs.Common.{length, take, drop, replicate, refl, sym, ap, ◌∙◌, arith}
use Rattle.std.proofs.lemmas.Nat.{div_below, pow-add, pow_pos}
use Rattle.std.proofs.lemmas.List.{length-drop, length-replicate}
use Rattle.pp_clause.specs.Literal.{Literal, lit_value}
use Rattle.pp_bits.specs.Number.{nat_of}
use Rattle.pp_bits.proofs.Numbers.{nat_of_append, nat_of_below, nat_of_drop, nat_of_ones, nat_of_padded, nat_of_take}
use Rattle.pp_bits.proofs.Numbers.{nat_of_zeros}
use Rattle.pp_shifts.specs.Shift.{moved_right}
use Rattle.pp_shifts.proofs.Powers.{product_low}
use Rattle.pp_shifts.proofs.Moved.{complement_moved, left_moves, right_moves, move_cut}

-- the literals that remain of a list that is moved to the right, and as many others after them as were dropped
moved_by : (s : ℕ → Bool) (ls : List Literal) (m : ℕ) (fill : Literal) (b : Bool) → m ≤ length ls → lit_value s fill ≡ b
    → nat_of s (drop m ls ++ replicate m fill) ≡ moved_right (length ls) b (nat_of s ls) m
moved_by s ls m fill false le h = nat_of_padded s (drop m ls) m fill h ∙ nat_of_drop s m ls le
moved_by s ls m fill true le h =
    let v = nat_of s ls in
    let p = 2 ^ (length ls - m) in
    let q = 2 ^ m in
    let places : p * q ≡ 2 ^ length ls = sym (pow-add 2 (length ls - m) m) ∙ ap (λ k. 2 ^ k) (omega arith) in
    let within : v < p * q = omega (arith, nat_of_below s ls) in
    let fewer : v / q < p = div_below v q p (pow_pos m) within in
    let all : nat_of s (drop m ls ++ replicate m fill) ≡ v / q + p * nat_of s (replicate m fill) =
    nat_of_append s (drop m ls) (replicate m fill)
    ∙ (λ i. nat_of_drop s m ls le i + 2 ^ length-drop m ls i * nat_of s (replicate m fill)) in
    let rest : (2 ^ length ls - 1 - v) / q ≡ p - 1 - v / q =
    ap (λ x. (x - 1 - v) / q) (sym places) ∙ complement_moved p q v (pow_pos m) within in
    omega (arith, ap (λ x. p * x) (nat_of_ones s m fill h))

pub nat_of_moved : (s : ℕ → Bool) (ls : List Literal) (by m : ℕ) (fill : Literal) → m ≡ min by (length ls)
    → nat_of s (drop m ls ++ replicate m fill) ≡ moved_right (length ls) (lit_value s fill) (nat_of s ls) by
nat_of_moved s ls by m fill e =
    moved_by s ls m fill (lit_value s fill) (omega arith) refl
    ∙ move_cut (right_moves (length ls) (lit_value s fill)) (nat_of s ls) m by (length ls) (nat_of_below s ls)
    (omega arith) e

-- the literals that remain of a list that is moved to the left, and as many zeros before them as were dropped
pub nat_of_raised : (s : ℕ → Bool) (ls : List Literal) (by m : ℕ) (fill : Literal) → lit_value s fill ≡ false
    → m ≡ min by (length ls)
    → nat_of s (replicate m fill ++ take (length ls - m) ls) ≡ (nat_of s ls * 2 ^ by) % 2 ^ length ls
nat_of_raised s ls by m fill h e =
    let n : ℕ = length ls in
    let v = nat_of s ls in
    let high : 2 ^ m * (v % 2 ^ (n - m)) ≡ (v * 2 ^ m) % 2 ^ n =
    sym (product_low v (n - m) m) ∙ ap (λ k. (v * 2 ^ m) % 2 ^ k) (omega arith) in
    nat_of_append s (replicate m fill) (take (n - m) ls)
    ∙ (λ i. nat_of_zeros s m fill h i + 2 ^ length-replicate m fill i * nat_of_take s (n - m) ls (omega arith) i)
    ∙ omega (arith, high)
    ∙ move_cut (left_moves n) v m by n (nat_of_below s ls) (omega arith) e
