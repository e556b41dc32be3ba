-- What holds from some number on.
use Rattle.std.proofs.Common.{ℕ, ◌+◌, ◌≤◌, arith}

-- P holds from some number on
pub record Eventually (P : ℕ → Type 0) : Type 0 where
  pub from : ℕ
  pub holds : (m : ℕ) → from ≤ m → P m

pub mapped : {P R : ℕ → Type 0} → Eventually P → ((m : ℕ) → P m → R m) → Eventually R
mapped h go = record { from = h.from; holds = λ m le. go m (h.holds m le) }

pub both_eventually : {P Q R : ℕ → Type 0} → Eventually P → Eventually Q → ((m : ℕ) → P m → Q m → R m) → Eventually R
both_eventually h k go = record {
  from = h.from + k.from;
  holds = λ m le. go m (h.holds m (omega (arith, le))) (k.holds m (omega (arith, le)));
}

pub together : {P Q : ℕ → Type 0} → Eventually P → Eventually Q → Eventually (λ m. P m × Q m)
together h k = both_eventually h k (λ m a b. (a, b))
