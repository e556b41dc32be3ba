-- The operands of a step, and what is known of them and of the step behind them.
use Rattle.std.proofs.Common.{◌≡◌, ℕ, ◌<◌, Bool, List, [], ◌∷◌, ◌++◌, length, Some, slice_get, refl, sym, ap, ◌∙◌}
use Rattle.std.proofs.Common.{subst}
use Rattle.std.specs.Prelude.{IsTrue}
use Rattle.std.proofs.lemmas.Option.{same_Some}
use Rattle.pp_prog.specs.declared.id.DataId.{DataId}
use Rattle.pp_prog.specs.declared.sort.Sort.TheVariants as sort
use Rattle.pp_prog.specs.declared.types.TypeTable.{TypeTable}
use Rattle.pp_prog.specs.declared.value.Value.{Value}
use Rattle.pp_prog.specs.declared.value.Value.TheVariants.{Bool as Truth}
use Rattle.pp_prog.specs.Sorts.{has_sort}
use Rattle.pp_clause.specs.Literal.{Literal, lit_value}
use Rattle.pp_gate.specs.declared.gate.Gate.{Gate}
use Rattle.pp_gate.specs.Circuit.{IsOf}
use Rattle.pp_gate.proofs.Places.{at_left, at_next, at_some}
use Rattle.pp_domain.specs.declared.symbol.Symbol.{Symbol}
use Rattle.pp_domain.specs.declared.symbol.Symbol.TheVariants as symbol
use Rattle.pp_domain.specs.Naming.{Naming}
use Rattle.pp_domain.specs.Sense.{Sense}
use Rattle.pp_domain.specs.Symbols.{IsSymbol, SymbolStands}
use Rattle.pp_steps.specs.Gates.{Heights}
use Rattle.pp_steps.specs.Meaning.{Values}
use Rattle.pp_steps.specs.Sorted.{Sorts}
use Rattle.pp_build_operators.specs.Operated.{StandsAs}
use Rattle.pp_build.specs.Registers.{AreRegisters, IsKnown, IsLiteralAt}
use Rattle.pp_prog.proofs.ValueSorts.{truth_has}

module _ {D T : Type 0} (m : Sense D T) where
  -- the register of a truth value
  pub record BitAt (gs : List Gate) (rs : List (Symbol T)) (k : ℕ) : Type 0 where
    pub lit : Literal
    pub at : slice_get rs k ≡ Some (symbol.Bit lit)
    pub of : IsOf gs lit

  pub bit_at : (d : D) (gs : List Gate) (σ : Sorts) (η : Heights) (rs : List (Symbol T)) (k : ℕ)
      → AreRegisters m d gs σ η rs → σ k ≡ sort.Bool → k < length rs → BitAt gs rs k
  bit_at d gs σ η rs k are is lt =
      let x = at_some rs k lt in by x.0 x.1 (subst (λ s. IsSymbol m d gs s x.0) is (are.of k x.0 x.1))
    where
      by : (x : Symbol T) → slice_get rs k ≡ Some x → IsSymbol m d gs sort.Bool x → BitAt gs rs k
      by (symbol.Word w) at of = absurd of
      by (symbol.Bit l) at of = record { lit = l; at = at; of = of }
      by (symbol.Tree t) at of = absurd of

  -- the literal that is read of it
  pub literal_of : (d : D) (gs : List Gate) (σ : Sorts) (η : Heights) (rs : List (Symbol T)) (k : ℕ) (l : Literal)
      → AreRegisters m d gs σ η rs → σ k ≡ sort.Bool → k < length rs → IsLiteralAt rs k l → IsOf gs l
  literal_of d gs σ η rs k l are is lt read =
      let b = bit_at d gs σ η rs k are is lt in subst (IsOf gs) (sym (read.is b.lit b.at)) b.of

  -- the register of a tree
  pub tree_of : (d : D) (gs : List Gate) (σ : Sorts) (η : Heights) (rs : List (Symbol T)) (i : ℕ) (of : DataId) (t : T)
      → AreRegisters m d gs σ η rs → slice_get rs i ≡ Some (symbol.Tree t) → σ i ≡ sort.Tree of
      → m.Node d t × (m.data_of d t ≡ of)
  tree_of d gs σ η rs i of t are at is =
      subst (λ s. IsSymbol m d gs s (symbol.Tree t)) is (are.of i (symbol.Tree t) at)

  -- which is no other symbol
  pub not_other : (d : D) (gs : List Gate) (σ : Sorts) (η : Heights) (rs : List (Symbol T)) (i : ℕ) (of : DataId)
      (x : Symbol T) → AreRegisters m d gs σ η rs → slice_get rs i ≡ Some x → σ i ≡ sort.Tree of
      → ((t : T) → x ≡ symbol.Tree t → ⊥) → ⊥
  not_other d gs σ η rs i of x are at is none =
      by x (subst (λ s. IsSymbol m d gs s x) is (are.of i x at)) none
    where
      by : (y : Symbol T) → IsSymbol m d gs (sort.Tree of) y → ((t : T) → y ≡ symbol.Tree t → ⊥) → ⊥
      by (symbol.Word w) it other = absurd it
      by (symbol.Bit l) it other = absurd it
      by (symbol.Tree t) it other = other t refl

  module _ (types : TypeTable) (e : D) (a : ℕ → Bool) (n : Naming) (σ : Sorts) (ρ : Values) (rs : List (Symbol T))
      (r : Symbol T) where
    -- a known operand
    pub operand_stands : (k : ℕ) (x : Symbol T) → slice_get rs k ≡ Some x
        → IsKnown m types e a n σ ρ (rs ++ r ∷ []) k → StandsAs m types e a n (σ k) x (ρ k)
    operand_stands k x at known =
        let same : known.register ≡ x = same_Some known.register x (sym known.at ∙ at_left rs (r ∷ []) k x at) in
        record {
          stands = subst (λ y. SymbolStands m e a n y (ρ k)) same known.stands;
          sorted = known.sorted;
        }

    -- the step itself, whose register stands for its value
    pub step_known : (v : Value) → ρ (length rs) ≡ v → StandsAs m types e a n (σ (length rs)) r v
        → IsKnown m types e a n σ ρ (rs ++ r ∷ []) (length rs)
    step_known v is stands = record {
      register = r;
      at = at_next rs [] r;
      stands = subst (SymbolStands m e a n r) (sym is) stands.stands;
      sorted = subst (λ u. IsTrue (has_sort types.ctors u (σ (length rs)))) (sym is) stands.sorted;
    }

    -- a known truth value
    pub bit_known : (gs : List Gate) (d : D) (η : Heights) (k : ℕ) (l : Literal) → AreRegisters m d gs σ η rs
        → σ k ≡ sort.Bool → k < length rs → IsLiteralAt rs k l
        → IsKnown m types e a n σ ρ (rs ++ r ∷ []) k → ρ k ≡ Truth (lit_value a l)
    bit_known gs d η k l are is lt read known =
        let b = bit_at d gs σ η rs k are is lt in
        let s = operand_stands k (symbol.Bit b.lit) b.at known in
        s.stands ∙ ap (λ (x : Literal). Truth (lit_value a x)) (sym (read.is b.lit b.at))

  -- a step that is a truth value
  pub truth_known : (types : TypeTable) (e : D) (a : ℕ → Bool) (n : Naming) (σ : Sorts) (ρ : Values)
      (rs : List (Symbol T)) (l : Literal) (b : Bool) → σ (length rs) ≡ sort.Bool → ρ (length rs) ≡ Truth b
      → lit_value a l ≡ b → IsKnown m types e a n σ ρ (rs ++ symbol.Bit l ∷ []) (length rs)
  truth_known types e a n σ ρ rs l b sorted is value =
      step_known types e a n σ ρ rs (symbol.Bit l) (Truth b) is (record {
        stands = ap Truth (sym value);
        sorted = ap (has_sort types.ctors (Truth b)) sorted ∙ truth_has types.ctors b;
      })
