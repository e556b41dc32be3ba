-- Performed steps on values of any sort and on truth values.
use Rattle.std.proofs.Common.{◌≡◌, ◌+◌, ℕ, max, Bool, true, false, not, ◌&&◌, if◌then◌else◌, List, [], ◌∷◌, ◌++◌}
use Rattle.std.proofs.Common.{length}
use Rattle.std.proofs.Common.{Some, slice_get, refl, sym, ap, ◌∙◌, subst, arith}
use Rattle.std.specs.Prelude.{ℤ, IsTrue}
use Rattle.std.specs.Int.{w32}
use Rattle.pp_prog.specs.declared.types.TypeTable.{TypeTable}
use Rattle.pp_prog.specs.declared.value.Value.TheVariants.{Int}
use Rattle.pp_prog.specs.declared.value.Value.TheViews.{out-Value}
use Rattle.pp_prog.specs.Sorts.{has_sort, is_int}
use Rattle.pp_clause.specs.Literal.{Literal, lit_value, opposite}
use Rattle.pp_gate.specs.declared.gate.Gate.{Gate}
use Rattle.pp_gate.specs.Circuit.{IsOf, StandsFor}
use Rattle.pp_gate.specs.Growth.{AddsGates}
use Rattle.pp_bits.proofs.Growing.{IsOf_opposite}
use Rattle.pp_bits.proofs.Numbers.{lit_value_negated}
use Rattle.pp_wordgate.specs.Meaning.{StandsForWord}
use Rattle.pp_domain.specs.declared.symbol.Symbol.{Symbol}
use Rattle.pp_domain.specs.declared.symbol.Symbol.TheVariants as symbol
use Rattle.pp_domain.specs.AnySort.{AreOfOneSort, IsChoice, choose_gates}
use Rattle.pp_domain.specs.Laws.{Lawful}
use Rattle.pp_domain.specs.Naming.{Naming, Names}
use Rattle.pp_domain.specs.Sense.{Sense, Good}
use Rattle.pp_domain.specs.Symbols.{IsSymbol, SymbolStands, symbol_height}
use Rattle.pp_domain.proofs.Composition.{Extended_grown, exactly}
use Rattle.pp_eval.specs.Measure.{one_sort}
use Rattle.pp_steps.specs.declared.step.Step.{Step}
use Rattle.pp_steps.specs.declared.step.Step.TheVariants as steps
use Rattle.pp_steps.specs.Known.{Tells}
use Rattle.pp_steps.specs.Gates.{height_of}
use Rattle.pp_steps.specs.Meaning.{Does, Missing, Values, bit}
use Rattle.pp_build.specs.Followed.{CanFollow}
use Rattle.pp_build.specs.Performed.{CanPerform, IsPerformed, Performs}
use Rattle.pp_build.proofs.Told.{IsPlain, performed}
use Rattle.pp_bits.proofs.Growing.{AddsGates_none}
use Rattle.pp_domain.proofs.AnySort.{Moves_gates}
use Rattle.pp_domain.specs.Moves.{Moves, SameLooks}
use Rattle.pp_domain.specs.Allowance.{bits_at}
use Rattle.pp_prog.specs.Sizes.{by_sort}
use Rattle.pp_build.proofs.StepGates.{keeps_same}
use Rattle.pp_build.specs.Registers.{AreExpanded, IsKnown, IsLiteralAt}
use Rattle.pp_build.specs.StepGates.{looked_trees}
use Rattle.pp_build.proofs.Expanded.{none_expanded}
use Rattle.pp_build.proofs.Operands.{bit_known, literal_of, operand_stands, step_known, truth_known}
use Rattle.pp_build.proofs.Gates.{choose_gates_are}
use Rattle.pp_build.proofs.Performing.{IsCount}
use Rattle.pp_eval.proofs.Alike.{alike}
use Rattle.pp_steps.proofs.Bits.{bit_truth}
use Rattle.pp_prog.proofs.ValueSorts.{int_has}

module _ {D T : Type 0} (m : Sense D T) (types : TypeTable) (law : Lawful m) (d : D) (gs : List Gate)
    (rs : List (Symbol T)) (fits : m.Fits types d gs) where
  -- gates that aren't inputs
  pub by_gates : (step : Step) (hs : List Gate) (k : ℕ) (can : CanPerform m types d gs rs step) (r : Symbol T)
      → AddsGates gs hs k → IsPlain step → looked_trees (length rs) step ≡ []
      → IsSymbol m d hs (can.sorts (length rs)) r
      → symbol_height m d r ≡ height_of types can.sorts can.heights (length rs) step
      → ((n : Naming) (a : ℕ → Bool) (ρ : Values) (missing : Missing) → Good m types d hs n a
      → Does types.ctors missing ρ step (ρ (length rs))
      → Tells ρ (IsKnown m types d a n can.sorts ρ (rs ++ r ∷ [])) step (length rs))
      → IsPerformed m types d gs rs step can.sorts can.heights can.seen d hs r
  by_gates step hs k can r adds plain none of high known =
      performed m types d d gs hs k (Moves_gates m types law d gs hs k fits adds) rs step can r plain
      (keeps_same m types d d can.sorts can.seen (length rs) step
      (λ inexact. record { looks = refl; compares = refl }))
      (subst (AreExpanded m d (rs ++ r ∷ [])) (sym none) (none_expanded m d (rs ++ r ∷ []))) of high
      (λ exact n a good. Extended_grown m types law d gs hs k n a a fits adds.grows adds.circuit good)
      (λ inexact n a ρ missing follow. Extended_grown m types law d gs hs k n a a fits adds.grows adds.circuit
      follow.good) known

  none : AddsGates gs gs 0
  none = AddsGates_none gs 0 (law.circuit types d gs fits)

  pub int_performed : (n z : ℤ) (w : List Literal) (hs : List Gate) → (is_int n ≡ true → z ≡ n)
      → AddsGates gs hs 0 → StandsForWord w32 hs w (λ s. z)
      → Performs m types d gs rs (steps.Int n) d hs (symbol.Word w)
  int_performed n z w hs same adds stands can =
      by_gates (steps.Int n) hs 0 can (symbol.Word w) adds tt refl
      (subst (λ s. IsSymbol m d hs s (symbol.Word w)) (sym can.sorted.0) (stands.len, stands.of)) refl
      (λ k a ρ missing good is.
      step_known m types d a k can.sorts ρ rs (symbol.Word w) (Int n) is (record {
        stands = ap Int (sym (stands.value a good.gates ∙ same can.sorted.1));
        sorted = ap (has_sort types.ctors (Int n)) can.sorted.0 ∙ int_has types.ctors n can.sorted.1;
      }))

  pub bool_performed : (b : Bool) (l : Literal) → StandsFor gs l (λ s. b)
      → Performs m types d gs rs (steps.Bool b) d gs (symbol.Bit l)
  bool_performed b l stands can =
      by_gates (steps.Bool b) gs 0 can (symbol.Bit l) none tt refl
      (subst (λ s. IsSymbol m d gs s (symbol.Bit l)) (sym can.sorted) stands.of) refl
      (λ k a ρ missing good is.
      truth_known m types d a k can.sorts ρ rs l b can.sorted is (stands.value a good.gates))

  pub not_performed : (i : ℕ) (l r : Literal) → IsLiteralAt rs i l → r ≡ opposite l
      → Performs m types d gs rs (steps.Not i) d gs (symbol.Bit r)
  not_performed i l r read turned can =
      by_gates (steps.Not i) gs 0 can (symbol.Bit r) none tt refl
      (subst (λ s. IsSymbol m d gs s (symbol.Bit r)) (sym can.sorted.1)
      (subst (IsOf gs) (sym turned) (IsOf_opposite gs l
      (literal_of m d gs can.sorts can.heights rs i l can.registers can.sorted.0 can.reads read)))) refl
      (λ k a ρ missing good is known.
      let operand = bit_known m types d a k can.sorts ρ rs (symbol.Bit r) gs d can.heights i l can.registers
      can.sorted.0 can.reads read known in
      truth_known m types d a k can.sorts ρ rs r (not (bit (ρ i))) can.sorted.1 is
      (lit_value_negated a r l turned ∙ ap not (sym (ap bit operand ∙ bit_truth (lit_value a l)))))

  -- two values of one sort
  pub alike_performed : (i j : ℕ) (l : Literal) → StandsFor gs l (λ s. true)
      → Performs m types d gs rs (steps.IsAlike i j) d gs (symbol.Bit l)
  alike_performed i j l stands can =
      by_gates (steps.IsAlike i j) gs 0 can (symbol.Bit l) none tt refl
      (subst (λ s. IsSymbol m d gs s (symbol.Bit l)) (sym can.sorted.1) stands.of) refl
      (λ k a ρ missing good is left right.
      truth_known m types d a k can.sorts ρ rs l (one_sort types.ctors (out-Value (ρ i)) (out-Value (ρ j)))
      can.sorted.1 is (stands.value a good.gates
      ∙ sym (alike types.ctors (can.sorts i) (ρ i) (ρ j) left.sorted
      (subst (λ s. has_sort types.ctors (ρ j) s ≡ true) (sym can.sorted.0) right.sorted))))

  pub both_left : (i j : ℕ) (l : Literal) → IsLiteralAt rs i l → CanPerform m types d gs rs (steps.Both i j)
      → IsOf gs l
  both_left i j l read can =
      literal_of m d gs can.sorts can.heights rs i l can.registers can.sorted.0 can.reads.0 read

  pub both_right : (i j : ℕ) (l : Literal) → IsLiteralAt rs j l → CanPerform m types d gs rs (steps.Both i j)
      → IsOf gs l
  both_right i j l read can =
      literal_of m d gs can.sorts can.heights rs j l can.registers can.sorted.1 can.reads.1 read

  pub both_performed : (i j : ℕ) (l o r : Literal) (hs : List Gate) → IsLiteralAt rs i l → IsLiteralAt rs j o
      → AddsGates gs hs 1 → StandsFor hs r (λ s. lit_value s l && lit_value s o)
      → Performs m types d gs rs (steps.Both i j) d hs (symbol.Bit r)
  both_performed i j l o r hs left right adds stands can =
      by_gates (steps.Both i j) hs 1 can (symbol.Bit r) adds tt refl
      (subst (λ s. IsSymbol m d hs s (symbol.Bit r)) (sym can.sorted.2) stands.of) refl
      (λ k a ρ missing good is known more.
      let one = bit_known m types d a k can.sorts ρ rs (symbol.Bit r) gs d can.heights i l can.registers
      can.sorted.0 can.reads.0 left known in
      let first = ap bit one ∙ bit_truth (lit_value a l) in
      truth_known m types d a k can.sorts ρ rs r (bit (ρ i) && bit (ρ j)) can.sorted.2 is
      (stands.value a good.gates ∙ by k a ρ (lit_value a l) refl first more))
    where
      by : (k : Naming) (a : ℕ → Bool) (ρ : Values) (b : Bool) → lit_value a l ≡ b → bit (ρ i) ≡ lit_value a l
          → (bit (ρ i) ≡ true → IsKnown m types d a k can.sorts ρ (rs ++ symbol.Bit r ∷ []) j)
          → (lit_value a l && lit_value a o) ≡ (bit (ρ i) && bit (ρ j))
      by k a ρ true e first more =
          let other = bit_known m types d a k can.sorts ρ rs (symbol.Bit r) gs d can.heights j o can.registers
          can.sorted.1 can.reads.1 right (more (first ∙ e)) in
          ap (λ x. x && lit_value a o) (sym first)
          ∙ ap (λ x. bit (ρ i) && x) (sym (ap bit other ∙ bit_truth (lit_value a o)))
      by k a ρ false e first more =
          ap (λ x. x && lit_value a o) e ∙ sym (ap (λ x. x && bit (ρ j)) (first ∙ e))

  pub choice_of : (c : ℕ) (i j : ℕ) (l : Literal) → IsLiteralAt rs c l
      → CanPerform m types d gs rs (steps.Choose c i j) → IsOf gs l
  choice_of c i j l read can =
      literal_of m d gs can.sorts can.heights rs c l can.registers can.sorted.0 can.reads.0 read

  pub choice_sorts : (c i j : ℕ) (x y : Symbol T) → slice_get rs i ≡ Some x → slice_get rs j ≡ Some y
      → CanPerform m types d gs rs (steps.Choose c i j) → AreOfOneSort m types d gs x y
  choice_sorts c i j x y left right can = record {
    sort = can.sorts (length rs);
    first = subst (λ s. IsSymbol m d gs s x) can.sorted.1 (can.registers.of i x left);
    second = subst (λ s. IsSymbol m d gs s y) can.sorted.2 (can.registers.of j y right);
  }

  pub choice_count : (c i j : ℕ) (x y : Symbol T) → slice_get rs i ≡ Some x
      → slice_get rs j ≡ Some y → IsCount m types d gs rs (steps.Choose c i j) (choose_gates m types d x y)
  choice_count c i j x y left right can =
      let s = can.sorts (length rs) in
      choose_gates_are m types d gs s x y
      (subst (λ r. IsSymbol m d gs r x) can.sorted.1 (can.registers.of i x left))
      (subst (λ r. IsSymbol m d gs r y) can.sorted.2 (can.registers.of j y right))
      ∙ ap (λ h. by_sort 32 1 (λ of. 32 + bits_at m types of (max h (symbol_height m d y))) s)
      (can.registers.high i x left)
      ∙ ap (λ h. by_sort 32 1 (λ of. 32 + bits_at m types of (max (can.heights i) h)) s) (can.registers.high j y right)

  pub choice_performed : (e : D) (hs : List Gate) (g : ℕ) → Moves m types d gs e hs g → SameLooks m d e
      → (c i j : ℕ) (l : Literal) (x y r : Symbol T)
      → IsLiteralAt rs c l → slice_get rs i ≡ Some x → slice_get rs j ≡ Some y
      → IsChoice m types d gs e hs l x y r → Performs m types d gs rs (steps.Choose c i j) e hs r
  choice_performed e hs g moves looks c i j l x y r read left right choice can =
      performed m types d e gs hs g moves rs (steps.Choose c i j) can r tt
      (keeps_same m types d e can.sorts can.seen (length rs) (steps.Choose c i j) (λ inexact. looks))
      (none_expanded m e (rs ++ r ∷ []))
      (choice.of (can.sorts (length rs))
      (subst (λ s. IsSymbol m d gs s x) can.sorted.1 (can.registers.of i x left)))
      (choice.height ∙ ap (λ h. max h (symbol_height m d y)) (can.registers.high i x left)
      ∙ ap (λ h. max (can.heights i) h) (can.registers.high j y right))
      (λ exact k a good. choice.extends k a good (exactly m _ exact))
      (λ inexact k a ρ missing follow. choice.extends k a follow.good (λ _. (
        ρ i,
        ρ j,
        follow.stand i x left,
        follow.stand j y right,
        one_named k a ρ missing follow (lit_value a l) refl,
      )))
      (λ k a ρ missing good is known first second.
      let chosen = bit_known m types e a k can.sorts ρ rs r gs d can.heights c l can.registers
      can.sorted.0 can.reads.0 read known in
      by k a ρ good is (lit_value a l) refl (ap bit chosen ∙ bit_truth (lit_value a l)) first second)
    where
      one_named : (k : Naming) (a : ℕ → Bool) (ρ : Values) (missing : Missing)
          → CanFollow m types d gs rs (steps.Choose c i j) can.sorts k a ρ missing → (b : Bool) → lit_value a l ≡ b
          → Names types k (if lit_value a l then ρ i else ρ j)
      one_named k a ρ missing follow true e =
          subst (λ (z : Bool). Names types k (if z then ρ i else ρ j)) (sym e)
          (follow.are.named i (let lt = can.reads.1 in omega arith))
      one_named k a ρ missing follow false e =
          subst (λ (z : Bool). Names types k (if z then ρ i else ρ j)) (sym e)
          (follow.are.named j (let lt = can.reads.2 in omega arith))

      known_by : (k : Naming) (a : ℕ → Bool) (ρ : Values) (q : ℕ) → ρ (length rs) ≡ ρ q
          → can.sorts q ≡ can.sorts (length rs) → IsTrue (has_sort types.ctors (ρ q) (can.sorts q))
          → SymbolStands m e a k r (ρ q) → IsKnown m types e a k can.sorts ρ (rs ++ r ∷ []) (length rs)
      known_by k a ρ q is same sorted stands =
          step_known m types e a k can.sorts ρ rs r (ρ q) is (record {
            stands = stands;
            sorted = ap (has_sort types.ctors (ρ q)) (sym same) ∙ sorted;
          })

      by : (k : Naming) (a : ℕ → Bool) (ρ : Values) → Good m types e hs k a
          → ρ (length rs) ≡ (if bit (ρ c) then ρ i else ρ j) → (b : Bool) → lit_value a l ≡ b
          → bit (ρ c) ≡ lit_value a l
          → (bit (ρ c) ≡ true → IsKnown m types e a k can.sorts ρ (rs ++ r ∷ []) i)
          → (bit (ρ c) ≡ false → IsKnown m types e a k can.sorts ρ (rs ++ r ∷ []) j)
          → IsKnown m types e a k can.sorts ρ (rs ++ r ∷ []) (length rs)
      by k a ρ good is true v told first second =
          let s = operand_stands m types e a k can.sorts ρ rs r i x left (first (told ∙ v)) in
          known_by k a ρ i (is ∙ ap (λ (z : Bool). if z then ρ i else ρ j) (told ∙ v)) can.sorted.1 s.sorted
          (choice.means k a (ρ i) good
          (subst (λ (z : Bool). SymbolStands m e a k (if z then x else y) (ρ i)) (sym v) s.stands))
      by k a ρ good is false v told first second =
          let s = operand_stands m types e a k can.sorts ρ rs r j y right (second (told ∙ v)) in
          known_by k a ρ j (is ∙ ap (λ (z : Bool). if z then ρ i else ρ j) (told ∙ v)) can.sorted.2 s.sorted
          (choice.means k a (ρ j) good
          (subst (λ (z : Bool). SymbolStands m e a k (if z then x else y) (ρ j)) (sym v) s.stands))
