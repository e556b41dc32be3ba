-- What a written row does to a table, and visits one after another.
use Rattle.std.proofs.Common.{◌≡◌, ◌≢◌, ◌∙◌, ◌⊎◌, inl, inr, ℕ, zero, suc, ◌+◌, ◌*◌, ◌<◌, Bool, true, false, ◌||◌}
use Rattle.std.proofs.Common.{nat_eq, List, [], ◌∷◌, Some, length, slice_get, slice_set, get_or, Contains, refl, sym}
use Rattle.std.proofs.Common.{ap, subst, arith, true≢false}
use Rattle.std.proofs.lemmas.Bool.Decides.{eqb_tells}
use Rattle.std.proofs.Math.ListN.{length-set}
use Rattle.pp_inhabited.specs.Laws.{FewTypeParams, FitsMask, IsSound}
use Rattle.pp_inhabited.specs.Settled.{rows_left, IsClosedAtPlace, IsClosedBelow, AreClosed, Visited}
use Rattle.pp_inhabited.specs.Table.{all_live, look}
use Rattle.pp_typed.specs.Value.{HasValue, a_tree}
use Rattle.pp_inhabited.proofs.Visits.{all_have}
use Rattle.pp_typed.specs.declared.sort.GenericSort.TheVariants.{Root}
use Rattle.pp_typed.specs.declared.typed.TypedCtor.{TypedCtor}
use Rattle.pp_typed.specs.declared.typed.TypedRoot.{TypedRoot}

pub fewer_left : (t : List Bool) (k : ℕ) → k < length t → get_or t k false ≡ false
    → rows_left (slice_set t k true) < rows_left t
fewer_left [] k lt e = absurd (omega arith)
fewer_left (true ∷ bs) zero lt e = absurd (true≢false e)
fewer_left (false ∷ bs) zero lt e = omega arith
fewer_left (b ∷ bs) (suc k) lt e = let less = fewer_left bs k (omega arith) e in omega arith

other_row : (t : List Bool) (k j : ℕ) → j ≢ k → get_or (slice_set t k true) j false ≡ get_or t j false
other_row [] k j ne = refl
other_row (b ∷ bs) zero zero ne = absurd (ne refl)
other_row (b ∷ bs) zero (suc j) ne = refl
other_row (b ∷ bs) (suc k) zero ne = refl
other_row (b ∷ bs) (suc k) (suc j) ne = other_row bs k j (λ e. ne (ap suc e))

same_root : (r q m n : ℕ) → m < 16 → n < 16 → 16 * r + m ≡ 16 * q + n → r ≡ q
same_root r q m n a b e = omega arith

same_mask : (r q m n : ℕ) → m < 16 → n < 16 → 16 * r + m ≡ 16 * q + n → m ≡ n
same_mask r q m n a b e = omega arith

module _ (roots : List TypedRoot) (ctors : List TypedCtor) where
  -- a written row keeps the table sound
  pub sound_set : (t : List Bool) (c : TypedCtor) (m : ℕ) → FewTypeParams roots → IsSound roots ctors t
      → Contains ctors c → m < 16 → all_live roots t m c.fields ≡ true
      → IsSound roots ctors (slice_set t (16 * c.root + m) true)
  sound_set t c m few sound has small live r n root args lt row there count fits =
      by (eqb_tells (16 * r + n) (16 * c.root + m))
    where
      by : ((nat_eq (16 * r + n) (16 * c.root + m) ≡ true) × (16 * r + n ≡ 16 * c.root + m))
          ⊎ ((nat_eq (16 * r + n) (16 * c.root + m) ≡ false) × (16 * r + n ≢ 16 * c.root + m))
          → HasValue roots ctors (Root r args)
      by (inl h) =
          let er = same_root r c.root n m lt small h.1 in
          let em = same_mask r c.root n m lt small h.1 in
          a_tree c root args (ap (λ k. Root k args) er) has (subst (λ k. slice_get roots k ≡ Some root) er there) count
          (all_have roots ctors t few sound m args (subst (λ k. FitsMask roots ctors t k args) em fits) c.fields live)
      by (inr h) = sound r n root args lt (sym (other_row t (16 * c.root + m) (16 * r + n) h.1) ∙ row) there count fits

  pub row_written : (t new : List Bool) (c : TypedCtor) (m : ℕ) (Holds : List Bool → Type 0) → FewTypeParams roots
      → IsSound roots ctors t → Contains ctors c → m < 16
      → all_live roots t m c.fields ≡ true → look t c.root m ≡ false → 16 * c.root + m < length t
      → new ≡ slice_set t (16 * c.root + m) true
      → Visited roots ctors t new true Holds
  row_written t new c m Holds few sound has small live unwritten within is = record {
    size = ap length is ∙ length-set t (16 * c.root + m) true;
    sound = subst (IsSound roots ctors) (sym is) (sound_set t c m few sound has small live);
    quiet = λ h. absurd (true≢false h);
    less = λ h. subst (λ l. rows_left l < rows_left t) (sym is) (fewer_left t (16 * c.root + m) within unwritten);
  }

  pub none_visited : (t : List Bool) (Holds : List Bool → Type 0) → IsSound roots ctors t → Holds t
      → Visited roots ctors t t false Holds
  none_visited t Holds sound h = record {
    size = refl;
    sound = sound;
    quiet = λ e. (refl, h);
    less = λ e. absurd (true≢false (sym e));
  }

  neither : (a b : Bool) → (a || b) ≡ false → (a ≡ false) × (b ≡ false)
  neither true b e = absurd (true≢false e)
  neither false b e = (refl, e)

  fewer : (a b : Bool) (old mid new : ℕ) → (a ≡ true → mid < old) → (a ≡ false → mid ≡ old) → (b ≡ true
      → new < mid) → (b ≡ false → new ≡ mid) → (a || b) ≡ true → new < old
  fewer true true old mid new p q r s e = let x = p refl in let y = r refl in omega arith
  fewer true false old mid new p q r s e = let x = p refl in let y = s refl in omega arith
  fewer false true old mid new p q r s e = let x = q refl in let y = r refl in omega arith
  fewer false false old mid new p q r s e = absurd (true≢false (sym e))

  pub visited_next : (old mid new : List Bool) (a b c : Bool) (P Q R : List Bool → Type 0)
      → Visited roots ctors old mid a P → Visited roots ctors mid new b Q → c ≡ (a || b)
      → ((t : List Bool) → P t → Q t → R t) → Visited roots ctors old new c R
  visited_next old mid new a b c P Q R first next is both = record {
    size = next.size ∙ first.size;
    sound = next.sound;
    quiet = λ h. let n = neither a b (sym is ∙ h) in let p = first.quiet n.0 in let q = next.quiet n.1 in
        (q.0 ∙ p.0, both old p.1 (subst Q p.0 q.1));
    less = λ h. fewer a b (rows_left old) (rows_left mid) (rows_left new) first.less (λ e. ap rows_left
        (first.quiet e).0) next.less (λ e. ap rows_left (next.quiet e).0) (sym is ∙ h);
  }

  -- one more mask, and one more constructor
  pub below_next : (c n : ℕ) (t : List Bool) → IsClosedBelow roots ctors c n t → IsClosedAtPlace roots ctors c n t
      → IsClosedBelow roots ctors c (n + 1) t
  below_next c n t p q m lt = by (eqb_tells m n)
    where
      by : ((nat_eq m n ≡ true) × (m ≡ n)) ⊎ ((nat_eq m n ≡ false) × (m ≢ n)) → IsClosedAtPlace roots ctors c m t
      by (inl h) = subst (λ k. IsClosedAtPlace roots ctors c k t) (sym h.1) q
      by (inr h) = let ne = h.1 in p m (omega arith)

  pub closed_next : (n : ℕ) (t : List Bool) → AreClosed roots ctors n t → IsClosedBelow roots ctors n 16 t
      → AreClosed roots ctors (n + 1) t
  closed_next n t p q c lt = by (eqb_tells c n)
    where
      by : ((nat_eq c n ≡ true) × (c ≡ n)) ⊎ ((nat_eq c n ≡ false) × (c ≢ n)) → IsClosedBelow roots ctors c 16 t
      by (inl h) = subst (λ k. IsClosedBelow roots ctors k 16 t) (sym h.1) q
      by (inr h) = let ne = h.1 in p c (omega arith)
