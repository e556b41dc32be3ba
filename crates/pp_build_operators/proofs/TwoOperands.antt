-- Operators with two operands on symbols.
use Rattle.std.proofs.Common.{◌≡◌, ℕ, Bool, List, [], ◌∷◌, true, false, not, Some, None, refl, sym, ap, ◌∙◌, subst}
use Rattle.std.specs.Int.{w32}
use Rattle.pp_tree.specs.declared.operator.BinaryOp.{BinaryOp}
use Rattle.pp_tree.specs.declared.operator.BinaryOp.TheVariants.{Equal, Differ}
use Rattle.pp_prog.specs.declared.sort.Sort.TheVariants as sort
use Rattle.pp_prog.specs.declared.types.TypeTable.{TypeTable}
use Rattle.pp_prog.specs.declared.value.Value.{Value}
use Rattle.pp_prog.specs.declared.value.Value.TheVariants.{Int, Bool as Truth}
use Rattle.pp_clause.specs.Literal.{Literal, lit_value, opposite}
use Rattle.pp_gate.specs.declared.gate.Gate.{Gate}
use Rattle.pp_gate.specs.Circuit.{IsOf}
use Rattle.pp_gate.specs.Growth.{AddsGates}
use Rattle.pp_bits.proofs.Growing.{IsOf_opposite}
use Rattle.pp_bits.proofs.Numbers.{lit_value_negated}
use Rattle.pp_wordgate.specs.Meaning.{word_of}
use Rattle.pp_domain.specs.declared.symbol.Symbol.{Symbol}
use Rattle.pp_domain.specs.declared.symbol.Symbol.TheVariants as symbol
use Rattle.pp_domain.specs.AnySort.{IsSame}
use Rattle.pp_domain.specs.Laws.{Lawful}
use Rattle.pp_domain.specs.Moves.{Moves, SameLooks}
use Rattle.pp_domain.specs.Naming.{Naming}
use Rattle.pp_domain.specs.Sense.{Sense}
use Rattle.pp_domain.specs.Symbols.{SymbolStands, SymbolsStand}
use Rattle.pp_domain.proofs.AnySort.{Moves_gates, SameLooks_none}
use Rattle.pp_eval.specs.Equality.{equal}
use Rattle.pp_eval.specs.Operators.{on_numbers, on_truths}
use Rattle.pp_eval.proofs.Trees.{one_answer, trees}
use Rattle.pp_steps.specs.Meaning.{applied, value_or}
use Rattle.pp_steps.specs.Sorted.{operated_sort}
use Rattle.pp_operators.specs.Classes.{class_of, is_equality, is_order}
use Rattle.pp_build_operators.specs.Budget.{operator_gates, symbol_sort}
use Rattle.pp_operators.specs.Gates.{number_gates}
use Rattle.pp_build_operators.specs.Operated.{CanOperate, IsMade, StandsAs, IsBinary}
use Rattle.pp_build_operators.specs.Plain.{IsNumberOf, IsTruthOf, applied_number}
use Rattle.pp_build_operators.proofs.Results.{number_made, number_of_part, truth_made, truth_of_part, truth_stands}
use Rattle.pp_build_operators.proofs.SymbolSorts.{operands_sorted, plain_gates}
use Rattle.pp_build_operators.proofs.Values.{applied_numbers, applied_truths, equality_sort, makes_number}
use Rattle.pp_build_operators.proofs.Values.{ordered_number, makes_truth, number_gates_are, number_sort, order_gates}
use Rattle.pp_build_operators.proofs.Values.{order_makes_truth, order_sort, truth_gates, truth_sort}

-- what the operator makes of two values is what it makes of equal ones
applied_to : (op : BinaryOp) (v w x y : Value) → v ≡ x → w ≡ y → applied op v w ≡ applied op x y
applied_to op v w x y one other =
    ap (λ (u : Value). applied op u w) one ∙ ap (λ (u : Value). applied op x u) other

module _ {D T : Type 0} (m : Sense D T) (types : TypeTable) (law : Lawful m) where
  -- ---- gates

  -- the sort of an operator on two symbols by their forms
  sort_by_forms : (op : BinaryOp) (d : D) (gs : List Gate) (x y : Symbol T) → (can : CanOperate m op d gs x y)
      → operated_sort op (Some (symbol_sort m types d x)) (Some (symbol_sort m types d y)) ≡ Some can.result
  sort_by_forms op d gs x y can =
      operands_sorted m types op d gs can.left_sort can.right_sort can.result x y can.left_is can.right_is can.sorted

  pub order_moves : (op : BinaryOp) (d : D) (gs hs : List Gate) (a b : List Literal) → m.Fits types d gs
      → is_equality op ≡ false → is_order op ≡ true → AddsGates gs hs 256
      → Moves m types d gs d hs (operator_gates m types op d (symbol.Word a) (symbol.Word b))
  order_moves op d gs hs a b fits other order adds =
      subst (λ (k : ℕ). Moves m types d gs d hs k)
      (sym (plain_gates m types op d (symbol.Word a) (symbol.Word b) other ∙ order_gates types op 0 sort.Int order))
      (Moves_gates m types law d gs hs 256 fits adds)

  pub number_moves : (op : BinaryOp) (d : D) (gs hs : List Gate) (a b : List Literal) → m.Fits types d gs
      → is_equality op ≡ false → is_order op ≡ false → CanOperate m op d gs (symbol.Word a) (symbol.Word b)
      → AddsGates gs hs (number_gates (class_of op))
      → Moves m types d gs d hs (operator_gates m types op d (symbol.Word a) (symbol.Word b))
  number_moves op d gs hs a b fits other plain can adds =
      subst (λ (k : ℕ). Moves m types d gs d hs k)
      (sym (plain_gates m types op d (symbol.Word a) (symbol.Word b) other ∙ number_gates_are types op 0 can.result
      other plain (sort_by_forms op d gs (symbol.Word a) (symbol.Word b) can)))
      (Moves_gates m types law d gs hs (number_gates (class_of op)) fits adds)

  pub truth_moves : (op : BinaryOp) (d : D) (gs hs : List Gate) (a b : Literal) → m.Fits types d gs
      → is_equality op ≡ false → CanOperate m op d gs (symbol.Bit a) (symbol.Bit b) → AddsGates gs hs 1
      → Moves m types d gs d hs (operator_gates m types op d (symbol.Bit a) (symbol.Bit b))
  truth_moves op d gs hs a b fits other can adds =
      subst (λ (k : ℕ). Moves m types d gs d hs k)
      (sym (plain_gates m types op d (symbol.Bit a) (symbol.Bit b) other ∙ truth_gates types op 0 can.result other
      (sort_by_forms op d gs (symbol.Bit a) (symbol.Bit b) can)))
      (Moves_gates m types law d gs hs 1 fits adds)

  -- ---- meanings

  pub number_binary : (op : BinaryOp) (d : D) (gs hs : List Gate) (k : ℕ) (a b r : List Literal) → m.Fits types d gs
      → is_equality op ≡ false → is_order op ≡ false → AddsGates gs hs k
      → IsNumberOf hs r (λ s. applied_number op (word_of w32 s a) (word_of w32 s b))
      → IsBinary m types op d gs d hs (symbol.Word a) (symbol.Word b) (symbol.Word r)
  number_binary op d gs hs k a b r fits other plain adds is = λ s t u one two h.
      let sorted = operands_sorted m types op d gs s t u (symbol.Word a) (symbol.Word b) one two h in
      let same = sym (number_sort op u other plain sorted) in (
        subst (λ q. IsMade m types d gs (symbol.Word a ∷ symbol.Word b ∷ []) d hs q (symbol.Word r)) same
            (number_made m types law (symbol.Word a ∷ symbol.Word b ∷ []) d gs hs k r fits adds is.len is.of),
        λ n e v w good first second.
            let x = word_of w32 e a in
            let y = word_of w32 e b in
            subst (λ q. StandsAs m types d e n q (symbol.Word r) (value_or (Truth false) (applied op v w))) same
            (number_of_part m types d e n hs r _ (applied op v w) is good.gates
            (makes_number op u x y other plain sorted)
            (applied_to op v w (Int x) (Int y) first.stands second.stands ∙ applied_numbers op x y other)),
        λ inexact. SameLooks_none m types law d,
      )

  pub order_binary : (op : BinaryOp) (d : D) (gs hs : List Gate) (k : ℕ) (a b : List Literal) (r : Literal)
      → m.Fits types d gs → is_equality op ≡ false → is_order op ≡ true → AddsGates gs hs k
      → IsTruthOf hs r (λ s. on_numbers op None (word_of w32 s a) (word_of w32 s b))
      → IsBinary m types op d gs d hs (symbol.Word a) (symbol.Word b) (symbol.Bit r)
  order_binary op d gs hs k a b r fits other order adds is = λ s t u one two h.
      let sorted = operands_sorted m types op d gs s t u (symbol.Word a) (symbol.Word b) one two h in
      let same = sym (order_sort op u order sorted) in (
        subst (λ q. IsMade m types d gs (symbol.Word a ∷ symbol.Word b ∷ []) d hs q (symbol.Bit r)) same
            (truth_made m types law (symbol.Word a ∷ symbol.Word b ∷ []) d gs hs k r fits adds is.of),
        λ n e v w good first second.
            let x = word_of w32 e a in
            let y = word_of w32 e b in
            subst (λ q. StandsAs m types d e n q (symbol.Bit r) (value_or (Truth false) (applied op v w))) same
            (truth_of_part m types d e n hs r _ (applied op v w) is good.gates
            (order_makes_truth op u x y order sorted)
            (applied_to op v w (Int x) (Int y) first.stands second.stands
            ∙ applied_numbers op x y other ∙ ordered_number op x y order)),
        λ inexact. SameLooks_none m types law d,
      )

  pub truth_binary : (op : BinaryOp) (d : D) (gs hs : List Gate) (k : ℕ) (a b r : Literal) → m.Fits types d gs
      → is_equality op ≡ false → AddsGates gs hs k
      → IsTruthOf hs r (λ s. on_truths op (lit_value s a) (lit_value s b))
      → IsBinary m types op d gs d hs (symbol.Bit a) (symbol.Bit b) (symbol.Bit r)
  truth_binary op d gs hs k a b r fits other adds is = λ s t u one two h.
      let sorted = operands_sorted m types op d gs s t u (symbol.Bit a) (symbol.Bit b) one two h in
      let same = sym (truth_sort op u other sorted) in (
        subst (λ q. IsMade m types d gs (symbol.Bit a ∷ symbol.Bit b ∷ []) d hs q (symbol.Bit r)) same
            (truth_made m types law (symbol.Bit a ∷ symbol.Bit b ∷ []) d gs hs k r fits adds is.of),
        λ n e v w good first second.
            let x = lit_value e a in
            let y = lit_value e b in
            subst (λ q. StandsAs m types d e n q (symbol.Bit r) (value_or (Truth false) (applied op v w))) same
            (truth_of_part m types d e n hs r _ (applied op v w) is good.gates (makes_truth op u x y other sorted)
            (applied_to op v w (Truth x) (Truth y) first.stands second.stands
            ∙ applied_truths op u x y other sorted)),
        λ inexact. SameLooks_none m types law d,
      )

module _ {D T : Type 0} (m : Sense D T) (types : TypeTable) where
  pub two_values : (d : D) (a : ℕ → Bool) (n : Naming) (x y : Symbol T) (vs : List Value)
      → SymbolsStand m d a n (x ∷ y ∷ []) vs
      → (v w : Value) × SymbolStands m d a n x v × SymbolStands m d a n y w
  two_values d a n x y [] stand = absurd stand
  two_values d a n x y (v ∷ []) stand = absurd stand.1
  two_values d a n x y (v ∷ w ∷ []) stand = (v, w, stand.0, stand.1.0)
  two_values d a n x y (v ∷ w ∷ u ∷ us) stand = absurd stand.1.1

  -- a literal that is made from the one of an equality
  from_equality : (d e : D) (gs hs : List Gate) (left right : Symbol T) (l r : Literal)
      → IsSame m types d gs e hs left right l → IsOf hs r
      → IsMade m types d gs (left ∷ right ∷ []) e hs sort.Bool (symbol.Bit r)
  from_equality d e gs hs left right l r is of = record {
    of = of;
    low = refl;
    extends = λ n a good any.
        is.extends n a good (λ inexact. let o = any inexact in two_values d a n left right o.0 o.1);
  }

  pub equal_binary : (d e : D) (gs hs : List Gate) (left right : Symbol T) (l : Literal) → SameLooks m d e
      → IsSame m types d gs e hs left right l
      → IsBinary m types Equal d gs e hs left right (symbol.Bit l)
  equal_binary d e gs hs left right l looks is = λ s t u one two sorted.
      let same = sym (equality_sort Equal s t u refl sorted) in (
        subst (λ q. IsMade m types d gs (left ∷ right ∷ []) e hs q (symbol.Bit l)) same
            (from_equality d e gs hs left right l l is is.of),
        λ n a v w good first second.
            subst (λ q. StandsAs m types e a n q (symbol.Bit l) (Truth (equal v w))) same
            (truth_stands m types e a n l (Truth (equal v w))
            (ap Truth (one_answer (v ≡ w) (equal v w) (lit_value a l) (trees.same v w)
            (is.means n a v w good first.stands second.stands)))),
        λ inexact. looks,
      )

  pub differ_binary : (d e : D) (gs hs : List Gate) (left right : Symbol T) (l r : Literal)
      → SameLooks m d e → IsSame m types d gs e hs left right l → r ≡ opposite l
      → IsBinary m types Differ d gs e hs left right (symbol.Bit r)
  differ_binary d e gs hs left right l r looks is turned = λ s t u one two sorted.
      let same = sym (equality_sort Differ s t u refl sorted) in (
        subst (λ q. IsMade m types d gs (left ∷ right ∷ []) e hs q (symbol.Bit r)) same
            (from_equality d e gs hs left right l r is
            (subst (λ (q : Literal). IsOf hs q) (sym turned) (IsOf_opposite hs l is.of))),
        λ n a v w good first second.
            subst (λ q. StandsAs m types e a n q (symbol.Bit r) (Truth (not (equal v w)))) same
            (truth_stands m types e a n r (Truth (not (equal v w)))
            (ap Truth (ap not (one_answer (v ≡ w) (equal v w) (lit_value a l) (trees.same v w)
            (is.means n a v w good first.stands second.stands)) ∙ sym (lit_value_negated a r l turned)))),
        λ inexact. looks,
      )
