-- The laws of the domain of bounded trees. (own)
use Rattle.std.specs.Prelude.{◌≡◌, ℕ, List, [], ◌∷◌, Option, Some}
use Rattle.std.proofs.Common.{sym, ap, ◌∙◌, inl, inr}
use Rattle.pp_prog.specs.declared.sort.Sort.{Sort}
use Rattle.pp_prog.specs.declared.sort.Sort.TheVariants as sort
use Rattle.pp_prog.specs.declared.types.TypeTable.{TypeTable}
use Rattle.pp_prog.specs.declared.value.Value.{Value}
use Rattle.pp_gate.specs.declared.gate.Gate.{Gate}
use Rattle.pp_gate.specs.Growth.{Grows}
use Rattle.pp_gate.proofs.Agreement.{Gives_old}
use Rattle.pp_gate.proofs.Growing.{IsOf_more}
use Rattle.pp_bits.proofs.Growing.{AreOf_more}
use Rattle.pp_domain.specs.declared.symbol.Symbol.{Symbol}
use Rattle.pp_domain.specs.declared.symbol.Symbol.TheVariants as symbol
use Rattle.pp_domain.specs.Laws.{Lawful}
use Rattle.pp_domain.specs.Numbering.{numbering}
use Rattle.pp_domain.proofs.Numbering.{numbering_is, numbering_names}
use Rattle.pp_bounded_trees.specs.declared.arena.BoundedTree.{BoundedTree}
use Rattle.pp_bounded_trees.specs.declared.arena.Node.{Node}
use Rattle.pp_bounded_trees.specs.Agreement.{values_agree}
use Rattle.pp_bounded_trees.specs.Arena.{ArenaFits, FieldFits, FieldsFit, NodeFits}
use Rattle.pp_bounded_trees.specs.Meaning.{bounded_sense}
use Rattle.pp_bounded_trees.specs.Values.{value_at}

-- an arena fits also where gates and inputs were added
module _ (gs hs : List Gate) (n : ℕ) (grows : Grows gs hs n) (nodes : List Node) where
  field_later : (k h : ℕ) (s : Sort) (x : Symbol BoundedTree) → FieldFits gs nodes k h s x → FieldFits hs nodes k h s x
  field_later k h sort.Int (symbol.Word w) fits = (fits.0, AreOf_more gs hs n w grows fits.1)
  field_later k h sort.Bool (symbol.Bit l) fits = IsOf_more gs hs n l grows fits
  field_later k h (sort.Tree of) (symbol.Tree t) fits = fits
  field_later k h sort.Int (symbol.Bit l) fits = absurd fits
  field_later k h sort.Int (symbol.Tree t) fits = absurd fits
  field_later k h sort.Bool (symbol.Word w) fits = absurd fits
  field_later k h sort.Bool (symbol.Tree t) fits = absurd fits
  field_later k h (sort.Tree of) (symbol.Word w) fits = absurd fits
  field_later k h (sort.Tree of) (symbol.Bit l) fits = absurd fits

  fields_later : (k h : ℕ) (ss : List Sort) (xs : List (Symbol BoundedTree)) → FieldsFit gs nodes k h ss xs
      → FieldsFit hs nodes k h ss xs
  fields_later k h [] [] fits = tt
  fields_later k h (s ∷ ss) (x ∷ xs) fits = (field_later k h s x fits.0, fields_later k h ss xs fits.1)
  fields_later k h [] (x ∷ xs) fits = absurd fits
  fields_later k h (s ∷ ss) [] fits = absurd fits

  node_later : (types : TypeTable) (k : ℕ) (x : Node) → NodeFits gs nodes types k x → NodeFits hs nodes types k x
  node_later types k x fits = record {
    each = λ j y at.
        let own = fits.each j y at in record {
          low = own.low;
          lit_of = IsOf_more gs hs n y.lit grows own.lit_of;
          entry = own.entry;
          at = own.at;
          data_of = own.data_of;
          fields = fields_later k x.height own.entry.fields y.fields own.fields;
        };
    order = fits.order;
    one = elim fits.one [
      | inl e ↦ inl e
      | inr e ↦ inr (λ a gives. e a (Gives_old gs hs n grows a gives))
    ];
  }

  pub arena_later : (types : TypeTable) → ArenaFits types gs nodes → ArenaFits types hs nodes
  arena_later types fits = record { each = λ k x at. node_later types k x (fits.each k x at) }

some_same : {X : Type 0} (x y : X) → Some x ≡ Some y → x ≡ y
some_same x y e = cc

pub bounded_laws : Lawful bounded_sense
bounded_laws = record {
  circuit = λ types d gs fits. fits.circuit;
  ok_of = λ types d gs fits. fits.ok_of;
  grows = λ types d gs hs n fits grows is. record {
    circuit = is;
    ok_of = IsOf_more gs hs n d.ok grows fits.ok_of;
    arena = arena_later gs hs n grows d.nodes types fits.arena;
  };
  stands = λ types d gs n a b t v fits node agree is.
      ap (λ (os : List (Option Value)). value_at os t.number)
      (sym (values_agree gs a b agree types d.nodes fits.arena)) ∙ is;
  matches = λ types d gs n a b fits agree is. tt;
  fitting = λ exact d n a. tt;
  decided = λ exact d n k a t v is. is;
  single = λ types d gs n a t v w fits good node one other. some_same v w (sym one ∙ other);
  naming = λ types n is. is;
  names = λ types d gs fits vs few. record {
    naming = numbering types vs;
    admitted = numbering_is types vs few;
    reaches = tt;
    names = numbering_names types vs;
  };
}
