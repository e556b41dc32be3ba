-- Performed steps that are operators, and steps of which nothing is known.
use Rattle.std.proofs.Common.{◌≡◌, ◌+◌, ◌*◌, if◌then◌else◌, ℕ, min, true, false, List, [], ◌∷◌, ◌++◌, arith, length}
use Rattle.std.proofs.Common.{Some, slice_get, refl, sym, ap, ◌∙◌, subst}
use Rattle.pp_tree.specs.declared.operator.BinaryOp.{BinaryOp}
use Rattle.pp_tree.specs.declared.operator.UnaryOp.{UnaryOp}
use Rattle.pp_prog.specs.declared.sort.Sort.{Sort}
use Rattle.pp_prog.specs.declared.sort.Sort.TheVariants as sort
use Rattle.pp_prog.specs.declared.types.TypeTable.{TypeTable}
use Rattle.pp_prog.specs.declared.value.Value.TheVariants.{Bool as Truth}
use Rattle.pp_prog.specs.Sizes.{by_sort, height_at}
use Rattle.pp_gate.specs.declared.gate.Gate.{Gate}
use Rattle.pp_domain.specs.declared.symbol.Symbol.{Symbol}
use Rattle.pp_domain.specs.AnySort.{AreOfOneSort, IsUnknownSymbol}
use Rattle.pp_domain.specs.Sense.{Sense}
use Rattle.pp_domain.specs.Symbols.{IsSymbol, SymbolStands, symbol_height}
use Rattle.pp_domain.specs.Moves.{Moves}
use Rattle.pp_prog.specs.Sorts.{has_sort}
use Rattle.pp_eval.specs.Measure.{goes_down}
use Rattle.pp_eval.specs.Operators.{unary as unary_value}
use Rattle.pp_steps.specs.declared.step.OpenCall.{OpenCall}
use Rattle.pp_steps.specs.declared.step.Step.{Step}
use Rattle.pp_steps.specs.declared.step.Step.TheVariants as steps
use Rattle.pp_steps.specs.Gates.{Heights, binary_gates, height_of}
use Rattle.pp_steps.specs.Known.{Tells}
use Rattle.pp_steps.specs.Sorted.{Sorts}
use Rattle.pp_domain.specs.Allowance.{bits_at, equality_gates, nodes_at}
use Rattle.pp_build.specs.Registers.{AreExpanded}
use Rattle.pp_build.specs.StepGates.{looked_trees}
use Rattle.pp_build.proofs.Expanded.{none_expanded}
use Rattle.pp_build.proofs.StepGates.{keeps_compared, keeps_same}
use Rattle.pp_steps.specs.Meaning.{Values, applied, value_or}
use Rattle.pp_operators.specs.Classes.{is_equality}
use Rattle.pp_build_operators.specs.Budget.{goes_down_gates, operator_gates}
use Rattle.pp_build_operators.specs.Operated.{IsBinary, IsDescent, IsUnary, StandsAs}
use Rattle.pp_build.specs.Performed.{CanPerform, Performs}
use Rattle.pp_build.proofs.Operands.{operand_stands, step_known}
use Rattle.pp_domain.proofs.Composition.{exactly}
use Rattle.pp_build.proofs.Performing.{IsCount}
use Rattle.pp_build.proofs.Told.{performed}
use Rattle.pp_build.proofs.Gates.{goes_down_gates_are, operator_gates_are}

module _ {D T : Type 0} (m : Sense D T) (types : TypeTable) (d : D) (gs : List Gate) (rs : List (Symbol T)) where
  -- ---- a step of which nothing is known

  -- a step of this sort that tells nothing has an unknown symbol
  nothing_told : (step : Step) (s : Sort)
      → ((can : CanPerform m types d gs rs step) → can.sorts (length rs) ≡ s)
      → ((σ : Sorts) (η : Heights) → height_of types σ η (length rs) step ≡ 0)
      → ((ρ : Values) (K : ℕ → Type 0) → Tells ρ K step (length rs)) → looked_trees (length rs) step ≡ []
      → (e : D) (hs : List Gate) (r : Symbol T)
      → IsUnknownSymbol m types d gs e hs s 0 r → Performs m types d gs rs step e hs r
  nothing_told step s of_sort low tells none e hs r unknown can = record {
    of = subst (λ q. IsSymbol m e hs q r) (sym (of_sort can)) unknown.of;
    high = unknown.height ∙ no_height s ∙ sym (low can.sorts can.heights);
    extends = λ exact n a good. unknown.extends exact refl n a good;
    looks = keeps_same m types d e can.sorts can.seen (length rs) step (λ inexact. unknown.looks);
    expanded = subst (AreExpanded m e (rs ++ r ∷ [])) (sym none) (none_expanded m e (rs ++ r ∷ []));
    follows = λ inexact n a ρ missing follow.
        let k = length rs in
        unknown.named inexact n a (ρ k) follow.good
        (subst (λ q. has_sort types.ctors (ρ k) q ≡ true) (of_sort can) (follow.are.sorted k (omega arith)))
        (follow.are.named k (omega arith));
    known = λ n a ρ missing good compared is. tells ρ _;
  }
    where
      no_height : (q : Sort) → height_at 0 q ≡ 0
      no_height sort.Int = refl
      no_height sort.Bool = refl
      no_height (sort.Tree of) = refl

  pub unknown_performed : (s : Sort) (e : D) (hs : List Gate) (r : Symbol T)
      → IsUnknownSymbol m types d gs e hs s 0 r → Performs m types d gs rs (steps.Open s) e hs r
  unknown_performed s = nothing_told (steps.Open s) s (λ can. can.sorted.0) (λ σ η. refl) (λ ρ K. tt) refl

  pub has_answer_performed : (c : OpenCall) (e : D) (hs : List Gate) (r : Symbol T)
      → IsUnknownSymbol m types d gs e hs sort.Bool 0 r → Performs m types d gs rs (steps.HasAnswer c) e hs r
  has_answer_performed c =
      nothing_told (steps.HasAnswer c) sort.Bool (λ can. can.sorted.2) (λ σ η. refl) (λ ρ K. tt) refl

  pub answer_performed : (c : OpenCall) (e : D) (hs : List Gate) (r : Symbol T)
      → IsUnknownSymbol m types d gs e hs c.result 0 r → Performs m types d gs rs (steps.Answer c) e hs r
  answer_performed c = nothing_told (steps.Answer c) c.result (λ can. can.sorted.1) (λ σ η. refl) (λ ρ K. tt) refl

  -- ---- one operand

  pub unary_performed : (op : UnaryOp) (i : ℕ) (x : Symbol T) (e : D) (hs : List Gate) (g : ℕ)
      → Moves m types d gs e hs g → (r : Symbol T) → slice_get rs i ≡ Some x → IsUnary m types op d gs e hs x r
      → Performs m types d gs rs (steps.Unary op i) e hs r
  unary_performed op i x e hs g moves r at unary can =
      let made = unary (can.sorts i) (can.sorts (length rs)) (can.registers.of i x at) can.sorted in
      performed m types d e gs hs g moves rs (steps.Unary op i) can r tt
      (keeps_same m types d e can.sorts can.seen (length rs) (steps.Unary op i) made.2)
      (none_expanded m e (rs ++ r ∷ [])) made.0.of made.0.low
      (λ exact n a good. made.0.extends n a good (exactly m _ exact))
      (λ inexact n a ρ missing follow. made.0.extends n a follow.good
      (λ _. (ρ i ∷ [], (follow.stand i x at, tt))))
      (λ n a ρ missing good is known.
      step_known m types e a n can.sorts ρ rs r (value_or (Truth false) (unary_value op (ρ i))) is
      (made.1 n a (ρ i) good (operand_stands m types e a n can.sorts ρ rs r i x at known)))

  -- ---- two operands

  module _ (i j : ℕ) (x y : Symbol T) (left : slice_get rs i ≡ Some x) (right : slice_get rs j ≡ Some y) where
    pub binary_count : (op : BinaryOp)
        → IsCount m types d gs rs (steps.Binary op i j) (operator_gates m types op d x y)
    binary_count op can =
        operator_gates_are m types op d gs (can.sorts i) (can.sorts j) (can.sorts (length rs)) x y
        (can.registers.of i x left) (can.registers.of j y right) can.sorted
        ∙ ap (λ h. if is_equality op then by_sort 64 1 (λ of. equality_gates m types of
        (min h (symbol_height m d y))) (can.sorts i) else binary_gates types op 0 (can.sorts i))
        (can.registers.high i x left)
        ∙ ap (λ h. if is_equality op then by_sort 64 1 (λ of. equality_gates m types of
        (min (can.heights i) h)) (can.sorts i) else binary_gates types op 0 (can.sorts i))
        (can.registers.high j y right)

    pub binary_performed : (op : BinaryOp) (e : D) (hs : List Gate) (g : ℕ) → Moves m types d gs e hs g
        → (r : Symbol T) → IsBinary m types op d gs e hs x y r → Performs m types d gs rs (steps.Binary op i j) e hs r
    binary_performed op e hs g moves r binary can =
        let made = binary (can.sorts i) (can.sorts j) (can.sorts (length rs)) (can.registers.of i x left)
        (can.registers.of j y right) can.sorted in
        performed m types d e gs hs g moves rs (steps.Binary op i j) can r tt
        (keeps_same m types d e can.sorts can.seen (length rs) (steps.Binary op i j) made.2)
        (none_expanded m e (rs ++ r ∷ [])) made.0.of made.0.low
        (λ exact n a good. made.0.extends n a good (exactly m _ exact))
        (λ inexact n a ρ missing follow. made.0.extends n a follow.good
        (λ _. (ρ i ∷ ρ j ∷ [], (follow.stand i x left, (follow.stand j y right, tt)))))
        (λ n a ρ missing good is one other.
        step_known m types e a n can.sorts ρ rs r (value_or (Truth false) (applied op (ρ i) (ρ j))) is
        (made.1 n a (ρ i) (ρ j) good (operand_stands m types e a n can.sorts ρ rs r i x left one)
        (operand_stands m types e a n can.sorts ρ rs r j y right other)))

    pub descent_sorts : CanPerform m types d gs rs (steps.GoesDown i j) → AreOfOneSort m types d gs x y
    descent_sorts can = record {
      sort = can.sorts i;
      first = can.registers.of i x left;
      second = subst (λ s. IsSymbol m d gs s y) (sym can.sorted.0) (can.registers.of j y right);
    }

    pub descent_count : IsCount m types d gs rs (steps.GoesDown i j) (goes_down_gates m types d x y)
    descent_count can =
        goes_down_gates_are m types d gs (can.sorts i) x y (can.registers.of i x left)
        (subst (λ s. IsSymbol m d gs s y) (sym can.sorted.0) (can.registers.of j y right))
        ∙ ap (λ h. by_sort 1024 0 (λ of. if m.exact then 64 + 4 * (32 + bits_at m types of h)
        * (1 + nodes_at m types of (symbol_height m d y)) else 194 + 128 * length (m.looks d)) (can.sorts i))
        (can.registers.high i x left)
        ∙ ap (λ h. by_sort 1024 0 (λ of. if m.exact then 64 + 4 * (32 + bits_at m types of (can.heights i))
        * (1 + nodes_at m types of h) else 194 + 128 * length (m.looks d)) (can.sorts i))
        (can.registers.high j y right)

    pub descent_performed : (e : D) (hs : List Gate) (r : Symbol T) → IsDescent m types d gs e hs x y r
        → Performs m types d gs rs (steps.GoesDown i j) e hs r
    descent_performed e hs r descent can =
        let made = descent (can.sorts i) (can.registers.of i x left)
        (subst (λ s. IsSymbol m d gs s y) (sym can.sorted.0) (can.registers.of j y right)) in
        record {
          of = subst (λ s. IsSymbol m e hs s r) (sym can.sorted.1) made.0.of;
          high = made.0.low;
          extends = λ exact n a good. made.0.extends n a good (exactly m _ exact);
          looks = keeps_compared m types d e can.sorts can.seen (length rs) i j made.3;
          expanded = none_expanded m e (rs ++ r ∷ []);
          follows = λ inexact n a ρ missing follow.
              let lt = can.reads.0 in
              let less = can.reads.1 in
              let goes = made.2 inexact n a (ρ i) (ρ j) follow.good
              (record { stands = follow.stand i x left; sorted = follow.are.sorted i (omega arith) })
              (record {
                stands = follow.stand j y right;
                sorted = subst (λ s. has_sort types.ctors (ρ j) s ≡ true) (sym can.sorted.0)
                    (follow.are.sorted j (omega arith));
              }) in
              (goes.0, subst (SymbolStands m e goes.0.next n r) (sym follow.does) goes.1);
          known = λ n a ρ missing good compared is one other.
              step_known m types e a n can.sorts ρ rs r (Truth (goes_down (ρ i) (ρ j))) is
              (subst (λ s. StandsAs m types e a n s r (Truth (goes_down (ρ i) (ρ j)))) (sym can.sorted.1)
              (made.1 compared n a (ρ i) (ρ j) good (operand_stands m types e a n can.sorts ρ rs r i x left one)
              (subst (λ s. StandsAs m types e a n s y (ρ j)) (sym can.sorted.0)
              (operand_stands m types e a n can.sorts ρ rs r j y right other))));
        }
