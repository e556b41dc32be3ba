-- Trees that are expanded stay so, and one more is after a step that looks at it.
use Rattle.std.proofs.Common.{◌≡◌, ℕ, ◌<◌, Bool, true, false, ◌||◌, nat_eq, List, [], ◌∷◌, ◌++◌, length, Some}
use Rattle.std.proofs.Common.{slice_get, refl, sym, ap, ◌∙◌, subst, arith, ◌⊎◌, inl, inr, length-append}
use Rattle.std.proofs.lemmas.Bool.{eqb-true}
use Rattle.std.proofs.lemmas.Option.{same_Some, slice_get_within}
use Rattle.pp_prog.specs.declared.sort.Sort.{Sort}
use Rattle.pp_prog.specs.declared.sort.Sort.TheVariants as sort
use Rattle.pp_prog.specs.declared.types.TypeTable.{TypeTable}
use Rattle.pp_gate.specs.declared.gate.Gate.{Gate}
use Rattle.pp_gate.proofs.Places.{at_left, at_push}
use Rattle.pp_domain.specs.declared.symbol.Symbol.{Symbol}
use Rattle.pp_domain.specs.declared.symbol.Symbol.TheVariants as symbol
use Rattle.pp_domain.specs.Moves.{Moves}
use Rattle.pp_domain.specs.Sense.{Sense}
use Rattle.pp_domain.specs.Symbols.{IsSymbol}
use Rattle.pp_steps.specs.Gates.{Heights}
use Rattle.pp_steps.specs.Sorted.{Sorts}
use Rattle.pp_build.specs.Registers.{AreExpanded, AreRegisters}
use Rattle.pp_build.specs.StepGates.{is_seen}

-- ---- numbers

seen_one : (i k : ℕ) → is_seen (i ∷ []) k ≡ true → k ≡ i
seen_one i k found = by (nat_eq k i) refl found
  where
    by : (b : Bool) → nat_eq k i ≡ b → (b || false) ≡ true → k ≡ i
    by true e found = eqb-true k i e
    by false e found = cc

-- a number of two lists is one of either
seen_either : (ks ls : List ℕ) (k : ℕ) → is_seen (ks ++ ls) k ≡ true → (is_seen ks k ≡ true) ⊎ (is_seen ls k ≡ true)
seen_either [] ls k found = inr found
seen_either (x ∷ ks) ls k found = by (nat_eq k x) (seen_either ks ls k) found
  where
    by : (b : Bool) → (is_seen (ks ++ ls) k ≡ true → (is_seen ks k ≡ true) ⊎ (is_seen ls k ≡ true))
        → (b || is_seen (ks ++ ls) k) ≡ true → ((b || is_seen ks k) ≡ true) ⊎ (is_seen ls k ≡ true)
    by true rest found = inl refl
    by false rest found = rest found

pushed : {X : Type 0} (rs : List X) (r : X) (k : ℕ) → k < length rs → k < length (rs ++ r ∷ [])
pushed rs r k lt = omega (arith, lt, length-append rs (r ∷ []))

-- ---- trees

tree_at : {T : Type 0} (t u : T) → Some (symbol.Tree t) ≡ Some (symbol.Tree u) → t ≡ u
tree_at t u e = cc

module _ {D T : Type 0} (m : Sense D T) where
  pub none_expanded : (d : D) (rs : List (Symbol T)) → AreExpanded m d rs []
  none_expanded d rs = record { within = λ k found. cc; expanded = λ k found t at. cc }

  -- the tree of an earlier step
  pub one_expanded : (e : D) (rs : List (Symbol T)) (r : Symbol T) (i : ℕ) (t : T)
      → slice_get rs i ≡ Some (symbol.Tree t) → m.Expanded e t → AreExpanded m e (rs ++ r ∷ []) (i ∷ [])
  one_expanded e rs r i t at there = record {
    within = λ k found.
        let same = seen_one i k found in
        let lt = slice_get_within rs i (symbol.Tree t) at in
        let more = length-append rs (r ∷ []) in omega (arith, same, lt, more);
    expanded = λ k found u here.
        let same = seen_one i k found in
        let own : slice_get (rs ++ r ∷ []) k ≡ Some (symbol.Tree t) =
        ap (slice_get (rs ++ r ∷ [])) same ∙ at_left rs (r ∷ []) i (symbol.Tree t) at in
        subst (m.Expanded e) (tree_at t u (sym own ∙ here)) there;
  }

  -- the tree of the step itself
  pub own_expanded : (e : D) (rs : List (Symbol T)) (t : T) → m.Expanded e t
      → AreExpanded m e (rs ++ symbol.Tree t ∷ []) (length rs ∷ [])
  own_expanded e rs t there = record {
    within = λ k found.
        let same = seen_one (length rs) k found in
        let more = length-append rs (symbol.Tree t ∷ []) in omega (arith, same, more);
    expanded =
        λ k found u here. by u (seen_one (length rs) k found) (at_push rs (symbol.Tree t) k (symbol.Tree u) here);
  }
    where
      by : {k : ℕ} (u : T) → k ≡ length rs
          → (slice_get rs k ≡ Some (symbol.Tree u)) ⊎ ((k ≡ length rs) × (symbol.Tree t ≡ symbol.Tree u))
          → m.Expanded e u
      by {k} u same (inl there_too) =
          absurd (let lt = slice_get_within rs k (symbol.Tree u) there_too in omega (arith, same, lt))
      by {k} u same (inr last) = subst (m.Expanded e) (tree_at t u (ap Some last.1)) there

  -- those of two lists
  pub both_expanded : (e : D) (rs : List (Symbol T)) (ks ls : List ℕ) → AreExpanded m e rs ks → AreExpanded m e rs ls
      → AreExpanded m e rs (ks ++ ls)
  both_expanded e rs ks ls first rest = record {
    within = λ k found. elim (seen_either ks ls k found) [
      | inl own ↦ first.within k own
      | inr other ↦ rest.within k other
    ];
    expanded = λ k found t at. elim (seen_either ks ls k found) [
      | inl own ↦ first.expanded k own t at
      | inr other ↦ rest.expanded k other t at
    ];
  }

  node_of : (d : D) (gs : List Gate) (s : Sort) (t : T) → IsSymbol m d gs s (symbol.Tree t) → m.Node d t
  node_of d gs (sort.Tree of) t is = is.0
  node_of d gs sort.Int t is = absurd is
  node_of d gs sort.Bool t is = absurd is

  -- what was expanded is, with one register more
  pub expanded_later : (types : TypeTable) (d e : D) (gs hs : List Gate) (n : ℕ) (σ : Sorts) (η : Heights)
      (rs : List (Symbol T)) (r : Symbol T) (ks : List ℕ) → Moves m types d gs e hs n → AreRegisters m d gs σ η rs
      → AreExpanded m d rs ks → AreExpanded m e (rs ++ r ∷ []) ks
  expanded_later types d e gs hs n σ η rs r ks moves are before = record {
    within = λ k found. pushed rs r k (before.within k found);
    expanded = λ k found t at. by k found t (at_push rs r k (symbol.Tree t) at);
  }
    where
      by : (k : ℕ) → is_seen ks k ≡ true → (t : T)
          → (slice_get rs k ≡ Some (symbol.Tree t)) ⊎ ((k ≡ length rs) × (r ≡ symbol.Tree t)) → m.Expanded e t
      by k found t (inl at) =
          (moves.nodes t (node_of d gs (σ k) t (are.of k (symbol.Tree t) at))).expanded
          (before.expanded k found t at)
      by k found t (inr last) = absurd (let lt = before.within k found in omega (arith, lt, last.0))
