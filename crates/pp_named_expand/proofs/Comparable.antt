-- A tree with fitting contents can be compared with the others, and put in order.
use Rattle.std.proofs.Common.{◌≡◌, ℕ, ◌&&◌, arith, ◌+◌, zero, suc, List, [], ◌∷◌, Some, sym}
use Rattle.std.proofs.Common.{ap, ◌∙◌, subst, slice_get}
use Rattle.std.proofs.lemmas.Option.{same_Some}
use Rattle.pp_prog.specs.declared.sort.Sort.{Sort}
use Rattle.pp_prog.specs.declared.sort.Sort.TheVariants as sort
use Rattle.pp_prog.specs.declared.types.Ctor.{Ctor}
use Rattle.pp_prog.specs.declared.types.Datatype.{Datatype}
use Rattle.pp_prog.specs.declared.types.TypeTable.{TypeTable}
use Rattle.pp_gate.specs.declared.gate.Gate.{Gate}
use Rattle.pp_gate.specs.Circuit.{StandsFor}
use Rattle.pp_gate.specs.Growth.{AddsGates}
use Rattle.pp_bits.proofs.Growing.{Gives_before}
use Rattle.pp_clause.specs.Literal.{Literal, lit_value}
use Rattle.pp_gate.proofs.Growing.{AddsGates_more}
use Rattle.pp_domain.specs.declared.symbol.Symbol.{Symbol}
use Rattle.pp_domain.specs.declared.symbol.Symbol.TheVariants as symbol
use Rattle.pp_named_trees.specs.declared.arena.Alternative.{Alternative}
use Rattle.pp_named_trees.specs.declared.arena.Expansion.{Expansion}
use Rattle.pp_named_trees.specs.declared.arena.Level.{Level}
use Rattle.pp_named_trees.specs.declared.arena.NamedTree.{NamedTree}
use Rattle.pp_named_trees.specs.declared.arena.NamedTrees.{NamedTrees}
use Rattle.pp_named_trees.specs.declared.arena.Node.{Node}
use Rattle.pp_named_trees.specs.Arena.{AlternativeFits, ExpansionFits, IsName}
use Rattle.pp_named_trees.specs.Meaning.{NamedFits}
use Rattle.pp_named_trees.specs.Parts.{PartFits, PartsFit}
use Rattle.pp_named_trees.proofs.Parts.{parts_of_fields}
use Rattle.pp_named_instances.specs.Condition.{HaveLevels, IsCondition}
use Rattle.pp_named_instances.specs.OrderTests.{AreCtors, AreFields, IsField, IsOrderTest, order_gates}
use Rattle.pp_named_instances.specs.Tests.{AreLooks, AreOfOneCtor, IsAgreementTest, IsLookLike}
use Rattle.pp_named_instances.specs.Tests.{agreements_gates}
use Rattle.pp_named_instances.proofs.Conditions.{condition_is}
use Rattle.pp_named_expand.specs.Entered.{condition_gates}

fields_of_parts : (gs : List Gate) (ss : List Sort) (xs : List (Symbol NamedTree)) → PartsFit gs ss xs → AreFields gs xs
fields_of_parts gs ss [] fits p x at = cc
fields_of_parts gs (s ∷ ss) (y ∷ xs) fits zero x at =
    subst (λ z. IsField gs z) (same_Some y x at) (field_of_part s y fits.0)
  where
    field_of_part : (s : Sort) (y : Symbol NamedTree) → PartFits gs s y → IsField gs y
    field_of_part s (symbol.Word w) fits = tt
    field_of_part s (symbol.Bit l) fits = tt
    field_of_part (sort.Tree of) (symbol.Tree t) fits = fits.0
    field_of_part sort.Int (symbol.Tree t) fits = absurd fits
    field_of_part sort.Bool (symbol.Tree t) fits = absurd fits
fields_of_parts gs (s ∷ ss) (y ∷ xs) fits (suc p) x at = fields_of_parts gs ss xs fits.1 p x at
fields_of_parts gs [] (y ∷ xs) fits p x at = absurd fits

module _ (types : TypeTable) (gs : List Gate) (nodes : List Node)
    (named : (i : ℕ) (x : Node) → slice_get nodes i ≡ Some x → IsName gs x.name) where
  ctor_pair : (t : Datatype) (j : ℕ) (u v : Alternative) → AlternativeFits gs nodes types t j u
      → AlternativeFits gs nodes types t j v → AreOfOneCtor gs u v
  ctor_pair t j u v f g =
      let entry : g.entry ≡ f.entry =
      same_Some g.entry f.entry (sym g.at ∙ ap (slice_get types.ctors) (g.ctor ∙ sym f.ctor) ∙ f.at) in record {
        first = f.lit;
        second = g.lit;
        fields = record {
          sorts = f.entry.fields;
          first = parts_of_fields gs nodes named f.entry.fields u.fields f.fields;
          second = subst (λ (k : Ctor). PartsFit gs k.fields v.fields) entry
              (parts_of_fields gs nodes named g.entry.fields v.fields g.fields);
        };
      }

  look_like : (y z : Expansion) → ExpansionFits gs nodes types y → ExpansionFits gs nodes types z → z.of.0 ≡ y.of.0
      → IsLookLike gs y z
  look_like y z f g same =
      let kind : g.datatype ≡ f.datatype =
      same_Some g.datatype f.datatype (sym g.at ∙ ap (slice_get types.datatypes) same ∙ f.at) in record {
        name = g.name;
        contents = record {
          many = f.many ∙ sym (ap (λ (t : Datatype). t.count) kind) ∙ sym g.many;
          each = λ j u v at to. ctor_pair f.datatype j u v (f.each j u at)
              (subst (λ (t : Datatype). AlternativeFits gs nodes types t j v) kind (g.each j v to));
        };
      }

  pub ctors_fit : (y : Expansion) → ExpansionFits gs nodes types y → AreCtors gs y.alternatives
  ctors_fit y f = record {
    lits = λ j x at. (f.each j x at).lit;
    fields = λ j x at.
        let own = f.each j x at in
        fields_of_parts gs own.entry.fields x.fields
        (parts_of_fields gs nodes named own.entry.fields x.fields own.fields);
  }

-- as the call reads the list
pub are_looks : (types : TypeTable) (d : NamedTrees) (gs : List Gate) (y : Expansion) (zs : List Expansion)
    → NamedFits types d gs → ExpansionFits gs d.nodes types y → zs ≡ d.expansions → AreLooks gs y zs
are_looks types d gs y zs fits own same = record {
  own = own.name;
  each = λ i z at like.
      look_like types gs d.nodes fits.nodes y z own
      (fits.expansions i z (ap (λ us. slice_get us i) (sym same) ∙ at)) like;
}

-- ---- the condition

pub condition_first : (gs fs : List Gate) (d : NamedTrees) (y : Expansion) (zs : List Expansion) → zs ≡ d.expansions
    → AddsGates gs fs (agreements_gates y zs) → AddsGates gs fs (agreements_gates y d.expansions)
condition_first gs fs d y zs same adds = subst (λ us. AddsGates gs fs (agreements_gates y us)) same adds

pub condition_second : (gs fs ms : List Gate) (d : NamedTrees) (y : Expansion) (zs : List Expansion) → zs ≡ d.expansions
    → AddsGates gs fs (agreements_gates y zs) → AddsGates fs ms (order_gates y)
    → AddsGates gs ms (agreements_gates y d.expansions + order_gates y)
condition_second gs fs ms d y zs same first second =
    AddsGates_more gs fs ms (agreements_gates y d.expansions) (order_gates y)
    (agreements_gates y d.expansions + order_gates y) (condition_first gs fs d y zs same first) second (omega arith)

pub condition_third : (gs fs ms hs : List Gate) (d : NamedTrees) (y : Expansion) (zs : List Expansion)
    → zs ≡ d.expansions → AddsGates gs fs (agreements_gates y zs) → AddsGates fs ms (order_gates y) → AddsGates ms hs 1
    → AddsGates gs hs (condition_gates d y)
condition_third gs fs ms hs d y zs same first second third =
    AddsGates_more gs ms hs (agreements_gates y d.expansions + order_gates y) 1 (condition_gates d y)
    (condition_second gs fs ms d y zs same first second) third (omega arith)

pub condition_read : (types : TypeTable) (d : NamedTrees) (gs fs ms hs : List Gate) (j k : ℕ) (y : Expansion)
    (agree order l : Literal) (zs : List Expansion) (groups : List ℕ) (levels : List Level) → NamedFits types d gs
    → ExpansionFits gs d.nodes types y → HaveLevels d.groups d.levels y → zs ≡ d.expansions → groups ≡ d.groups
    → levels ≡ d.levels → AddsGates gs hs (condition_gates d y) → IsAgreementTest fs y zs agree → AddsGates fs ms j
    → IsOrderTest ms groups levels y order → AddsGates ms hs k
    → StandsFor hs l (λ s. lit_value s agree && lit_value s order) → IsCondition types hs d y l
condition_read types d gs fs ms hs j k y agree order l zs groups levels fits own have one two three whole agreement
    first ordered second both =
    condition_is types d gs fs ms hs (condition_gates d y) j k y agree order l whole.grows own fits.expansions have
    (subst (λ us. IsAgreementTest fs y us agree) one agreement) first
    (subst (λ vs. IsOrderTest ms d.groups vs y order) three
    (subst (λ ns. IsOrderTest ms ns levels y order) two ordered)) second both

pub condition_later : (types : TypeTable) (fs hs : List Gate) (k : ℕ) (d : NamedTrees) (y : Expansion) (l : Literal)
    → AddsGates fs hs k → IsCondition types fs d y l → IsCondition types hs d y l
condition_later types fs hs k d y l adds is = record {
  of = adds.literals l is.of;
  agrees = λ a gives. is.agrees a (Gives_before fs hs k adds a gives);
  ordered = λ a gives. is.ordered a (Gives_before fs hs k adds a gives);
  holds = λ a n gives. is.holds a n (Gives_before fs hs k adds a gives);
}
