-- What entering a tree leaves, and that a good assignment under which it stands for a value goes on.
use Rattle.std.proofs.Common.{◌≡◌, ℕ, ◌≤◌, ◌&&◌, List, sym, subst, arith}
use Rattle.pp_prog.specs.declared.types.TypeTable.{TypeTable}
use Rattle.pp_clause.specs.Literal.{Literal, lit_value}
use Rattle.pp_gate.specs.declared.gate.Gate.{Gate}
use Rattle.pp_gate.specs.Circuit.{StandsFor}
use Rattle.pp_gate.specs.Growth.{AddsGates}
use Rattle.pp_gate.proofs.Growing.{AddsGates_more, AddsGates_weaker}
use Rattle.pp_graph.specs.Reaches.{AreGroups}
use Rattle.pp_checks.specs.Tables.{field_table}
use Rattle.pp_domain.specs.Moves.{Moves}
use Rattle.pp_domain.specs.Sense.{Extended}
use Rattle.pp_named_trees.specs.declared.arena.Expansion.{Expansion}
use Rattle.pp_named_trees.specs.declared.arena.NamedTrees.{NamedTrees}
use Rattle.pp_named_trees.specs.Arena.{ExpansionFits}
use Rattle.pp_named_trees.specs.Kept.{with_expansion}
use Rattle.pp_named_trees.specs.Meaning.{NamedFits, named_sense}
use Rattle.pp_named_trees.proofs.Answering.{Moves_same}
use Rattle.pp_named_instances.specs.Condition.{IsCondition}
use Rattle.pp_named_expand.specs.Entered.{IsEntered, condition_gates, enter_gates}
use Rattle.pp_named_expand.proofs.Comparable.{condition_later}
use Rattle.pp_named_expand.proofs.Entering.{entered_extends, entered_moves}

-- gates alone
pub gates_moves : (types : TypeTable) (d e : NamedTrees) (gs hs : List Gate) (n k : ℕ) → NamedFits types d gs
    → AddsGates gs hs n → n ≤ k → e ≡ d → Moves named_sense types d gs e hs k
gates_moves types d e gs hs n k fits adds le same =
    let more = AddsGates_weaker gs hs n k adds le in
    Moves_same types d e gs hs k fits more.grows more.circuit same

module _ (types : TypeTable) (d : NamedTrees) (gs fs hs : List Gate) (y : Expansion) (l ok : Literal)
    (fits : NamedFits types d gs) (first : AddsGates gs fs (condition_gates d y)) (second : AddsGates fs hs 1) where
  pub both_adds : AddsGates gs hs (enter_gates d y)
  both_adds = AddsGates_more gs fs hs (condition_gates d y) 1 (enter_gates d y) first second (omega arith)

  module _ (are : AreGroups (field_table types) d.groups) (own : ExpansionFits gs d.nodes types y)
      (condition : IsCondition types fs d y l)
      (both : StandsFor hs ok (λ s. lit_value s d.ok && lit_value s l)) (e : NamedTrees)
      (is : e ≡ with_expansion d y ok) where
    pub entry_moves : Moves named_sense types d gs e hs (enter_gates d y)
    entry_moves =
        subst (λ (f : NamedTrees). Moves named_sense types d gs f hs (enter_gates d y)) (sym is)
        (entered_moves types d gs hs (enter_gates d y) y l ok fits both_adds.grows both_adds.circuit are own
        (condition_later types fs hs 1 d y l second condition) both)

    pub entry_is : IsEntered types d gs e hs y
    entry_is = record {
      ok = ok;
      is = is;
      extends = λ n a good holds.
          subst (λ (f : NamedTrees). Extended named_sense types gs n a f hs) (sym is)
          (entered_extends types d gs hs (enter_gates d y) y l ok fits both_adds.grows both_adds.circuit are own
          (condition_later types fs hs 1 d y l second condition) both n a good holds);
    }
