-- Whether one function reaches another can be decided, so a group that is known to be is at hand.
use Rattle.std.proofs.Common.{◌≡◌, ◌≢◌, ◌==◌, nat_eq, ◌⊎◌, ◌<◌, ℕ, zero, suc, Bool, true, false, List, length, Contains}
use Rattle.std.proofs.Common.{Decides, refl, subst, arith, inl, inr, ⊎_elim}
use Rattle.std.proofs.Math.Bridge.{le_prop}
use Rattle.std.proofs.Math.Logic.{∥∥₁_elim}
use Rattle.std.proofs.Props.{props}
use Rattle.std.proofs.lemmas.Bool.Decides.{Decides-eqb, eqb_tells}
use Rattle.std.proofs.lemmas.Map.Made.{is_member-Decides}
use Rattle.std.specs.Set.{is_member}
use Rattle.pp_graph.specs.Reaches.{Reaches, by_call, by_more, SameGroup, AreGroups, calls_of}
use Rattle.pp_graph.proofs.Paths.{further, source_within}

-- what is decided holds or does not
pub or_not : {P : Type 0} (b : Bool) → Decides b P → P ⊎ (P → ⊥)
or_not true d = inl (d.0 refl)
or_not false d = inr (λ p. let e : false ≡ true = d.1 p in cc)

both_or_not : {P Q : Type 0} → P ⊎ (P → ⊥) → Q ⊎ (Q → ⊥) → (P × Q) ⊎ (P × Q → ⊥)
both_or_not (inl p) (inl q) = inl (p, q)
both_or_not (inl p) (inr never) = inr (λ r. never r.1)
both_or_not (inr never) q = inr (λ r. never r.0)

either_or_not : {P Q : Type 0} → P ⊎ (P → ⊥) → Q ⊎ (Q → ⊥) → (P ⊎ Q) ⊎ (P ⊎ Q → ⊥)
either_or_not (inl p) q = inl (inl p)
either_or_not (inr never) (inl q) = inl (inr q)
either_or_not (inr never) (inr neither) = inr (λ r. ⊎_elim never neither r)

module _ (calls : List (List ℕ)) where
  -- a path whose functions between the ends are below k
  abbrev Via : ℕ → ℕ → ℕ → Type 0
  Via zero f g = Contains (calls_of calls f) g
  Via (suc k) f g = Via k f g ⊎ (Via k f k × Via k k g)

  via_or_not : (k f g : ℕ) → Via k f g ⊎ (Via k f g → ⊥)
  via_or_not zero f g =
      or_not (is_member (λ x y. x == y) (calls_of calls f) g) (is_member-Decides Decides-eqb (calls_of calls f) g)
  via_or_not (suc k) f g =
      either_or_not (via_or_not k f g) (both_or_not (via_or_not k f k) (via_or_not k k g))

  via_reaches : (k f g : ℕ) → Via k f g → Reaches calls f g
  via_reaches zero f g c = by_call f g c
  via_reaches (suc k) f g (inl v) = via_reaches k f g v
  via_reaches (suc k) f g (inr v) = further calls f k g (via_reaches k f k v.0) (via_reaches k k g v.1)

  to_last : (k f : ℕ) → Via (suc k) f k → Via k f k
  to_last k f (inl v) = v
  to_last k f (inr v) = v.0

  from_last : (k g : ℕ) → Via (suc k) k g → Via k k g
  from_last k g (inl v) = v
  from_last k g (inr v) = v.1

  -- paths through functions below k join
  abbrev Joins : ℕ → Type 0
  Joins k = (f g h : ℕ) → g < k → Via k f g → Via k g h → Via k f h

  through : (k f g h : ℕ) → g < k → Via k f g → Via k g h → Via k f h
  through zero f g h lt a b = absurd (omega arith)
  through (suc k) f g h lt a b = by (eqb_tells g k) (λ x y z less v w. through k x y z less v w) a b
    where
      below : g < k → Joins k → Via (suc k) f g → Via (suc k) g h → Via (suc k) f h
      below less join (inl v) (inl w) = inl (join f g h less v w)
      below less join (inl v) (inr w) = inr (join f g k less v w.0, w.1)
      below less join (inr v) (inl w) = inr (v.0, join k g h less v.1 w)
      below less join (inr v) (inr w) = inr (v.0, w.1)

      by : ((nat_eq g k ≡ true) × (g ≡ k)) ⊎ ((nat_eq g k ≡ false) × (g ≢ k)) → Joins k → Via (suc k) f g
          → Via (suc k) g h → Via (suc k) f h
      by (inl e) join v w =
          inr (to_last k f (subst (λ n. Via (suc k) f n) e.1 v), from_last k h (subst (λ n. Via (suc k) n h) e.1 w))
      by (inr e) join v w = below (omega (arith, e.1)) join v w

  call_via : (k f g : ℕ) → Contains (calls_of calls f) g → Via k f g
  call_via zero f g c = c
  call_via (suc k) f g c = inl (call_via k f g c)

  reaches_via : (f g : ℕ) → Reaches calls f g → Via (length calls) f g
  reaches_via _ _ (by_call f g c) = call_via (length calls) f g c
  reaches_via _ _ (by_more f g h c r) =
      through (length calls) f g h (source_within calls g h r) (call_via (length calls) f g c) (reaches_via g h r)

  pub reaches_or_not : (f g : ℕ) → Reaches calls f g ⊎ (Reaches calls f g → ⊥)
  reaches_or_not f g =
      elim (via_or_not (length calls) f g)
      [ inl v ↦ inl (via_reaches (length calls) f g v) | inr never ↦ inr (λ r. never (reaches_via f g r)) ]

  same_or_not : (f g : ℕ) → (f ≡ g) ⊎ (f ≡ g → ⊥)
  same_or_not f g = or_not (f == g) (Decides-eqb f g)

  pub group_or_not : (f g : ℕ) → SameGroup calls f g ⊎ (SameGroup calls f g → ⊥)
  group_or_not f g =
      either_or_not (same_or_not f g) (both_or_not (reaches_or_not f g) (reaches_or_not g f))

  -- group numbers that there are, at hand
  pub groups_sure : (groups : List ℕ) → ∥ AreGroups calls groups ∥₁ → AreGroups calls groups
  groups_sure groups known = record {
    size = ∥∥₁_elim known nat_prop (λ a. a.size);
    each = λ f n is. record {
      inside = elim (group_or_not f n)
          [ inl s ↦ s | inr never ↦ absurd (∥∥₁_elim known ⊥_prop (λ a. never (a.each f n is).inside)) ];
      least = λ g s. ∥∥₁_elim known le_prop (λ a. (a.each f n is).least g s);
    };
  }
    where
      ⊥_prop : IsProp ⊥
      ⊥_prop = hlevel

      nat_prop : {n m : ℕ} → IsProp (n ≡ m)
      nat_prop = hlevel props
