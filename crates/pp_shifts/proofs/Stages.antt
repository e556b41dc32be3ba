-- The turns of the loops over stages.
use Rattle.std.proofs.Common.{◌≡◌, ℕ, ◌+◌, ◌*◌, ◌^◌, ◌<◌, ◌≤◌, min, get_or, Bool, List, [], length, All, take, sym, ap}
use Rattle.std.proofs.Common.{◌∙◌, subst, arith}
use Rattle.std.proofs.lemmas.Nat.{column_fits}
use Rattle.pp_clause.specs.Literal.{Literal, lit_value}
use Rattle.pp_bits.specs.Number.{lit_bit, nat_of}
use Rattle.pp_gate.specs.declared.gate.Gate.{Gate}
use Rattle.pp_gate.specs.Circuit.{IsOf}
use Rattle.pp_gate.specs.Growth.{AddsGates}
use Rattle.pp_bits.proofs.Growing.{Digits, AddsGates_more}
use Rattle.pp_bits.proofs.Numbers.{nat_of_next, nat_of_nil, nat_of_within, power_next}
use Rattle.pp_shifts.proofs.Moved.{IsMove, move_turn}

-- before the first stage
pub stages_none : {n : ℕ} {f : ℕ → ℕ → ℕ} → IsMove n f → (s : ℕ → Bool) (ls all : List Literal) → length ls ≡ n
    → all ≡ ls → nat_of s all ≡ f (nat_of s ls) (nat_of s [])
stages_none {n} {f} move s ls all len e =
    ap (nat_of s) e
    ∙ sym (ap (f (nat_of s ls)) (nat_of_nil s) ∙ move.none (nat_of s ls) (nat_of_within s ls n len))

pub same_digits : (gs : List Gate) (ls all : List Literal) → all ≡ ls → All (IsOf gs) ls → Digits gs (length ls) all
same_digits gs ls all e of = record { len = ap length e; of = subst (All (IsOf gs)) (sym e) of }

-- one stage more
pub stages_turn : (f : ℕ → ℕ → ℕ → ℕ) (n : ℕ) → IsMove n (f n) → (s : ℕ → Bool) (ls ks lent : List Literal)
    (old i by most r : ℕ) (k : Literal) → i < length ks → k ≡ get_or ks i k
    → length ls ≡ n → n ≤ most → by ≡ min (2 ^ i) most → length lent ≡ n → nat_of s lent ≡ old
    → old ≡ f n (nat_of s ls) (nat_of s (take i ks))
    → r ≡ f (length lent) (nat_of s lent) (by * lit_bit s k)
    → r ≡ f n (nat_of s ls) (nat_of s (take (i + 1) ks))
stages_turn f n move s ls ks lent old i by most r k h ek len le cut wide same e stage =
    move_turn move (lit_value s k) (nat_of s ls) old r by (2 ^ i) most (nat_of s (take i ks)) (nat_of_within s ls n len)
    le cut e (stage ∙ (λ j. f (wide j) (same j) (by * lit_bit s k)))
    ∙ ap (f n (nat_of s ls)) (sym (nat_of_next s ks i k k h ek))

-- the places of the next stage
pub doubled_places : (by i most next : ℕ) → by ≡ min (2 ^ i) most → next ≡ min (by * 2) most
    → next ≡ min (2 ^ (i + 1)) most
doubled_places by i most next e f = let p : 2 ^ (i + 1) ≡ 2 * 2 ^ i = power_next i in omega arith

-- the gates of the next of m stages, also where it wanted memory
pub AddsGates_stage : (old mid new : List Gate) (lent : List Literal) (n i m : ℕ) → i < m → length lent ≡ n
    → AddsGates old mid (n * i) → AddsGates mid new (length lent) → AddsGates old new (n * m)
AddsGates_stage old mid new lent n i m h len g more =
    AddsGates_more old mid new (n * i) (length lent) (n * m) g more (omega (arith, column_fits n i n m h (omega arith)))
