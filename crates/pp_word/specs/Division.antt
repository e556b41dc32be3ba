-- What quotient and remainder mean, in plain integers.
use Rattle.std.specs.Prelude.{◌≡◌, ◌<◌, ◌≤◌, ◌⊎◌, ℤ, pos, ◌+ℤ◌, ◌*ℤ◌, ◌<ℤ◌, unsigned_abs}

abbrev pub HaveOneSign : ℤ → ℤ → Type 0
HaveOneSign n d = ((pos 0 <ℤ n) × (pos 0 <ℤ d)) ⊎ ((n <ℤ pos 0) × (d <ℤ pos 0))

abbrev pub HaveOppositeSigns : ℤ → ℤ → Type 0
HaveOppositeSigns n d = ((pos 0 <ℤ n) × (d <ℤ pos 0)) ⊎ ((n <ℤ pos 0) × (pos 0 <ℤ d))

-- q is the quotient of n by d, rounded toward zero, as JLS 15.17.2 has it: "an integer value q whose magnitude is as
-- large as possible while satisfying |d * q| <= |n|. Moreover, q is positive when |n| >= |d| and n and d have the same
-- sign, but q is negative when |n| >= |d| and n and d have opposite signs."
pub record IsQuotient (n d q : ℤ) : Type 0 where
  pub within : unsigned_abs (d *ℤ q) ≤ unsigned_abs n
  pub largest : (p : ℤ) → unsigned_abs (d *ℤ p) ≤ unsigned_abs n → unsigned_abs p ≤ unsigned_abs q
  pub positive : unsigned_abs d ≤ unsigned_abs n → HaveOneSign n d → pos 0 <ℤ q
  pub negative : unsigned_abs d ≤ unsigned_abs n → HaveOppositeSigns n d → q <ℤ pos 0

-- r is the remainder of n by d, as JLS 15.17.3 has it: the quotient times d, and r, make n; r is negative only if n is,
-- and positive only if n is; and the magnitude of r is less than that of d.
pub record IsRemainder (n d r : ℤ) : Type 0 where
  pub rest : (q : ℤ) × IsQuotient n d q × (((q *ℤ d) +ℤ r) ≡ n)
  pub negative : r <ℤ pos 0 → n <ℤ pos 0
  pub positive : pos 0 <ℤ r → pos 0 <ℤ n
  pub smaller : unsigned_abs r < unsigned_abs d
