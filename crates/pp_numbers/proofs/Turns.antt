-- Turns of the loops that make tables.
use Rattle.std.proofs.Common.{◌≡◌, ◌⊎◌, ⊎_elim, inl, inr, ℕ, zero, suc, ◌+◌, ◌<◌, Bool, true, false, cond, List, []}
use Rattle.std.proofs.Common.{◌∷◌, ◌++◌, Some, take, length, get_or, refl, sym, ap, ◌∙◌, arith, nat_eq, eq-eqb}
use Rattle.std.specs.Prelude.{slice_get, slice_set}
use Rattle.std.proofs.lemmas.Bool.{eqb-true}
use Rattle.std.proofs.lemmas.Option.{slice_get_read}
use Rattle.pp_numbers.proofs.Counts.{count_more}
use Rattle.pp_numbers.proofs.Found.{before_push, at_push, set_here, set_other}
use Rattle.pp_translation.specs.Numbers.{rank_of}
use Rattle.pp_typed.specs.Sorted.{ctors_of}
use Rattle.pp_typed.specs.declared.typed.TypedCtor.{TypedCtor}

below_or_last : (c i : ℕ) → c < i + 1 → (c ≡ i) ⊎ (c < i)
below_or_last zero zero h = inl refl
below_or_last zero (suc i) h = inr (omega arith)
below_or_last (suc c) zero h = absurd (omega arith)
below_or_last (suc c) (suc i) h =
    ⊎_elim (λ e. inl (ap suc e)) (λ (lt : c < i). inr (omega arith)) (below_or_last c i (omega arith))

module _ (all : List TypedCtor) (n i : ℕ) (k : TypedCtor) (counts : List ℕ) (before : ℕ) where
  abbrev counted : ℕ → ℕ → ℕ
  counted j r = length (ctors_of (take j all) r)

  -- the counts, one constructor later
  pub counted_turn : i < length all → k ≡ get_or all i k → length counts ≡ n → k.root < n
      → ((r : ℕ) → r < n → slice_get counts r ≡ Some (counted i r)) → before ≡ counted i k.root
      → (r : ℕ) → r < n → slice_get (slice_set counts k.root (before + 1)) r ≡ Some (counted (i + 1) r)
  counted_turn lt is sized own each was r within = by (nat_eq k.root r) refl
    where
      by : (b : Bool) → nat_eq k.root r ≡ b
          → slice_get (slice_set counts k.root (before + 1)) r ≡ Some (counted (i + 1) r)
      by true e =
          let same = eqb-true k.root r e in
          let more : counted (i + 1) r ≡ counted i r + 1 =
          count_more all i k r lt is ∙ ap (λ b. counted i r + cond b 1 0) e in
          let value : before + 1 ≡ counted (i + 1) r = ap (λ z. z + 1) (was ∙ ap (counted i) same) ∙ sym more in
          ap (λ z. slice_get (slice_set counts k.root (before + 1)) z) (sym same)
          ∙ set_here counts k.root (before + 1) (omega arith) ∙ ap Some value
      by false e =
          let more : counted (i + 1) r ≡ counted i r =
          count_more all i k r lt is ∙ ap (λ b. counted i r + cond b 1 0) e ∙ (omega arith) in
          let apart : k.root ≡ r → ⊥ = λ s. (let t : true ≡ false = sym (eq-eqb k.root r s) ∙ e in cc) in
          set_other counts k.root r (before + 1) apart ∙ each r within ∙ ap Some (sym more)

-- the ranks, one constructor later
pub ranked_turn : (all : List TypedCtor) (i : ℕ) (k : TypedCtor) (ranks : List ℕ) (rank : ℕ) → i < length all
    → k ≡ get_or all i k
    → length ranks ≡ i → rank ≡ rank_of all i k
    → ((c : ℕ) (q : TypedCtor) → c < i → slice_get all c ≡ Some q → slice_get ranks c ≡ Some (rank_of all c q))
    → (c : ℕ) (q : TypedCtor) → c < i + 1 → slice_get all c ≡ Some q
    → slice_get (ranks ++ rank ∷ []) c ≡ Some (rank_of all c q)
ranked_turn all i k ranks rank lt is sized was each c q within at =
    ⊎_elim (λ e. let here : slice_get all i ≡ Some k = slice_get_read all (length all) i k refl lt is in
    let same : q ≡ k = (let two : Some q ≡ Some k = sym at ∙ ap (slice_get all) e ∙ here in cc) in
    ap (slice_get (ranks ++ rank ∷ [])) (e ∙ sym sized) ∙ at_push ranks rank
    ∙ ap Some (was ∙ ap (rank_of all i) (sym same) ∙ ap (λ j. rank_of all j q) (sym e)))
    (λ (lt : c < i). before_push ranks rank c (omega arith) ∙ each c q lt at) (below_or_last c i within)

-- the first constructors, one datatype later
pub firsts_turn : (f : ℕ → ℕ) (firsts : List ℕ) (i first : ℕ) → length firsts ≡ i → first ≡ f i
    → ((d : ℕ) → d < i → slice_get firsts d ≡ Some (f d)) → (d : ℕ) → d < i + 1
    → slice_get (firsts ++ first ∷ []) d ≡ Some (f d)
firsts_turn f firsts i first sized was each d within =
    ⊎_elim (λ e. ap (slice_get (firsts ++ first ∷ [])) (e ∙ sym sized) ∙ at_push firsts first
    ∙ ap Some (was ∙ ap f (sym e)))
    (λ (lt : d < i). before_push firsts first d (omega arith) ∙ each d lt) (below_or_last d i within)
