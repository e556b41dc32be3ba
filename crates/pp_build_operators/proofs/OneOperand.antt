-- Operators with one operand on symbols.
use Rattle.std.proofs.Common.{◌≡◌, ℕ, List, [], ◌∷◌, false, sym, ap, ◌∙◌, subst}
use Rattle.std.specs.Int.{w32}
use Rattle.pp_tree.specs.declared.operator.UnaryOp.{UnaryOp}
use Rattle.pp_prog.specs.declared.sort.Sort.{Sort}
use Rattle.pp_prog.specs.declared.sort.Sort.TheVariants as sort
use Rattle.pp_prog.specs.declared.types.TypeTable.{TypeTable}
use Rattle.pp_prog.specs.declared.value.Value.TheVariants.{Int, Bool as Truth}
use Rattle.pp_clause.specs.Literal.{Literal, lit_value, opposite}
use Rattle.pp_gate.specs.declared.gate.Gate.{Gate}
use Rattle.pp_gate.specs.Circuit.{IsOf}
use Rattle.pp_gate.specs.Growth.{AddsGates}
use Rattle.pp_bits.proofs.Growing.{AddsGates_none, IsOf_opposite}
use Rattle.pp_bits.proofs.Numbers.{lit_value_negated}
use Rattle.pp_wordgate.specs.Meaning.{word_of}
use Rattle.pp_domain.specs.declared.symbol.Symbol.TheVariants as symbol
use Rattle.pp_domain.specs.Laws.{Lawful}
use Rattle.pp_domain.specs.Sense.{Sense}
use Rattle.pp_domain.specs.Symbols.{IsSymbol}
use Rattle.pp_domain.proofs.AnySort.{SameLooks_none}
use Rattle.pp_eval.specs.Operators.{unary}
use Rattle.pp_steps.specs.Meaning.{value_or}
use Rattle.pp_build_operators.specs.Operated.{IsMade, StandsAs, IsUnary}
use Rattle.pp_build_operators.specs.Plain.{IsNumberOf}
use Rattle.pp_build_operators.proofs.Results.{number_made, number_of_part, truth_made, truth_stands}
use Rattle.pp_build_operators.proofs.SymbolSorts.{operand_sorted}
use Rattle.pp_build_operators.proofs.Values.{unary_makes_number, unary_makes_truth, unary_number_sort, unary_truth_sort}

module _ {D T : Type 0} (m : Sense D T) (types : TypeTable) (law : Lawful m) where
  pub number_unary : (op : UnaryOp) (d : D) (gs hs : List Gate) (k : ℕ) (a r : List Literal) → m.Fits types d gs
      → AddsGates gs hs k → IsNumberOf hs r (λ s. unary op (Int (word_of w32 s a)))
      → IsUnary m types op d gs d hs (symbol.Word a) (symbol.Word r)
  number_unary op d gs hs k a r fits adds is = λ s u of h.
      let sorted = operand_sorted m types op d gs s u (symbol.Word a) of h in
      let same = sym (unary_number_sort op u sorted) in (
        subst (λ t. IsMade m types d gs (symbol.Word a ∷ []) d hs t (symbol.Word r)) same
            (number_made m types law (symbol.Word a ∷ []) d gs hs k r fits adds is.len is.of),
        λ n e v good stands.
            subst (λ t. StandsAs m types d e n t (symbol.Word r) (value_or (Truth false) (unary op v))) same
            (number_of_part m types d e n hs r _ (unary op v) is good.gates
            (unary_makes_number op u (word_of w32 e a) sorted) (ap (unary op) stands.stands)),
        λ inexact. SameLooks_none m types law d,
      )

  pub truth_unary : (op : UnaryOp) (d : D) (gs : List Gate) (a r : Literal) → m.Fits types d gs → r ≡ opposite a
      → IsUnary m types op d gs d gs (symbol.Bit a) (symbol.Bit r)
  truth_unary op d gs a r fits is = λ s u of h.
      let sorted = operand_sorted m types op d gs s u (symbol.Bit a) of h in
      let same = sym (unary_truth_sort op u sorted) in (
        subst (λ t. IsMade m types d gs (symbol.Bit a ∷ []) d gs t (symbol.Bit r)) same
            (truth_made m types law (symbol.Bit a ∷ []) d gs gs 0 r fits
            (AddsGates_none gs 0 (law.circuit types d gs fits))
            (subst (λ (l : Literal). IsOf gs l) (sym is) (IsOf_opposite gs a (bit_of_circuit d gs s a of)))),
        λ n e v good stands.
            let part = ap (unary op) stands.stands ∙ unary_makes_truth op u (lit_value e a) sorted in
            subst (λ t. StandsAs m types d e n t (symbol.Bit r) (value_or (Truth false) (unary op v))) same
            (truth_stands m types d e n r (value_or (Truth false) (unary op v))
            (ap (value_or (Truth false)) part ∙ ap Truth (sym (lit_value_negated e r a is)))),
        λ inexact. SameLooks_none m types law d,
      )
    where
      bit_of_circuit : (d : D) (gs : List Gate) (s : Sort) (a : Literal) → IsSymbol m d gs s (symbol.Bit a) → IsOf gs a
      bit_of_circuit d gs sort.Bool a of = of
      bit_of_circuit d gs sort.Int a of = absurd of
      bit_of_circuit d gs (sort.Tree t) a of = absurd of
