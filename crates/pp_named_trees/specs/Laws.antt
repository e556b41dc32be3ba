-- The laws of the domain of named trees. (own)
use Rattle.std.specs.Prelude.{◌≡◌, ◌<◌, ◌≤◌, ◌^◌, min, ℕ, Bool, true, false, List, [], ◌∷◌, length, Some, slice_get}
use Rattle.std.specs.Int.{w32}
use Rattle.std.proofs.Common.{sym, ap, ◌∙◌, arith}
use Rattle.std.proofs.Math.Pow.{pow_mono}
use Rattle.std.proofs.lemmas.Option.{same_Some}
use Rattle.pp_prog.specs.declared.sort.Sort.{Sort}
use Rattle.pp_prog.specs.declared.sort.Sort.TheVariants as sort
use Rattle.pp_prog.specs.declared.types.Datatype.{Datatype}
use Rattle.pp_prog.specs.declared.types.TypeTable.{TypeTable}
use Rattle.pp_prog.specs.declared.value.Value.{Value}
use Rattle.pp_prog.specs.declared.value.Value.TheVariants as value
use Rattle.pp_clause.specs.Literal.{Literal}
use Rattle.pp_gate.specs.declared.gate.Gate.{Gate}
use Rattle.pp_gate.specs.Growth.{Grows}
use Rattle.pp_gate.specs.Laws.{AgreeUpTo}
use Rattle.pp_gate.proofs.Agreement.{Gives_old, lit_agree}
use Rattle.pp_gate.proofs.Growing.{IsOf_more}
use Rattle.pp_bits.specs.Number.{nat_of}
use Rattle.pp_bits.proofs.Chosen.{nat_of_agree}
use Rattle.pp_bits.proofs.Growing.{AreOf_more}
use Rattle.pp_domain.specs.declared.symbol.Symbol.{Symbol}
use Rattle.pp_domain.specs.declared.symbol.Symbol.TheVariants as symbol
use Rattle.pp_domain.specs.Laws.{Lawful}
use Rattle.pp_domain.specs.Naming.{Naming}
use Rattle.pp_domain.proofs.Symbols.{word_of_agree}
use Rattle.pp_named_order.proofs.Ordered.{lists_are_ordered}
use Rattle.pp_named_order.specs.Ranks.{ranked}
use Rattle.pp_named_trees.specs.declared.arena.Alternative.{Alternative}
use Rattle.pp_named_trees.specs.declared.arena.Level.{Level}
use Rattle.pp_named_trees.specs.declared.arena.Expansion.{Expansion}
use Rattle.pp_named_trees.specs.declared.arena.NamedTree.{NamedTree}
use Rattle.pp_named_trees.specs.declared.arena.NamedTrees.{NamedTrees}
use Rattle.pp_named_trees.specs.declared.arena.Node.{Node}
use Rattle.pp_named_trees.specs.Arena.{AlternativeFits, FieldFits, FieldsFit, IsKept, IsName, ExpansionFits}
use Rattle.pp_named_trees.specs.Holding.{LevelsHold, ExpansionHolds, SymbolHolds, SymbolsHold}
use Rattle.pp_named_trees.specs.Meaning.{NamedFits, NamedMatches, named_sense}

-- what fits a circuit fits it also where gates and inputs were added
module _ (gs hs : List Gate) (n : ℕ) (grows : Grows gs hs n) where
  pub name_later : (ls : List Literal) → IsName gs ls → IsName hs ls
  name_later ls is = record { len = is.len; of = AreOf_more gs hs n ls grows is.of }

  module _ (nodes : List Node) where
    field_later : (s : Sort) (x : Symbol NamedTree) → FieldFits gs nodes s x → FieldFits hs nodes s x
    field_later sort.Int (symbol.Word w) fits = (fits.0, AreOf_more gs hs n w grows fits.1)
    field_later sort.Bool (symbol.Bit l) fits = IsOf_more gs hs n l grows fits
    field_later (sort.Tree of) (symbol.Tree t) fits = fits
    field_later sort.Int (symbol.Bit l) fits = absurd fits
    field_later sort.Int (symbol.Tree t) fits = absurd fits
    field_later sort.Bool (symbol.Word w) fits = absurd fits
    field_later sort.Bool (symbol.Tree t) fits = absurd fits
    field_later (sort.Tree of) (symbol.Word w) fits = absurd fits
    field_later (sort.Tree of) (symbol.Bit l) fits = absurd fits

    fields_later : (ss : List Sort) (xs : List (Symbol NamedTree)) → FieldsFit gs nodes ss xs → FieldsFit hs nodes ss xs
    fields_later [] [] fits = tt
    fields_later (s ∷ ss) (x ∷ xs) fits = (field_later s x fits.0, fields_later ss xs fits.1)
    fields_later [] (x ∷ xs) fits = absurd fits
    fields_later (s ∷ ss) [] fits = absurd fits

    pub alternative_later : (types : TypeTable) (t : Datatype) (j : ℕ) (x : Alternative)
        → AlternativeFits gs nodes types t j x → AlternativeFits hs nodes types t j x
    alternative_later types t j x fits = record {
      ctor = fits.ctor;
      lit = IsOf_more gs hs n x.lit grows fits.lit;
      entry = fits.entry;
      at = fits.at;
      fields = fields_later fits.entry.fields x.fields fits.fields;
      blank = λ a gives off. fits.blank a (Gives_old gs hs n grows a gives) off;
    }

    pub expansion_later : (types : TypeTable) (y : Expansion) → ExpansionFits gs nodes types y
        → ExpansionFits hs nodes types y
    expansion_later types y fits = record {
      name = name_later y.name fits.name;
      datatype = fits.datatype;
      at = fits.at;
      many = fits.many;
      each = λ j x at. alternative_later types fits.datatype j x (fits.each j x at);
      one = λ a gives. fits.one a (Gives_old gs hs n grows a gives);
    }

-- what holds depends on the variables of the circuit alone
module _ (gs : List Gate) (a b : ℕ → Bool) (agree : AgreeUpTo (length gs) a b) (n : Naming) where
  pub number_agree : (ls : List Literal) → IsName gs ls → nat_of a ls ≡ nat_of b ls
  number_agree ls is = nat_of_agree gs a b ls is.of agree

  module _ (nodes : List Node) (kept : (i : ℕ) (x : Node) → slice_get nodes i ≡ Some x → IsName gs x.name) where
    pub tree_agree : (t : NamedTree) → IsKept nodes t → nat_of a t.name ≡ nat_of b t.name
    tree_agree t is =
        ap (nat_of a) (sym is.name) ∙ number_agree is.node.name (kept is.number is.node is.at) ∙ ap (nat_of b) is.name

    pub stands_agree : (t : NamedTree) (v : Value) → IsKept nodes t → n t.of (nat_of a t.name) ≡ Some v
        → n t.of (nat_of b t.name) ≡ Some v
    stands_agree t v is stands = ap (λ (k : ℕ). n t.of k) (sym (tree_agree t is)) ∙ stands

    symbol_agree : (s : Sort) (x : Symbol NamedTree) (v : Value) → FieldFits gs nodes s x → SymbolHolds a n x v
        → SymbolHolds b n x v
    symbol_agree sort.Int (symbol.Word w) v fits is = is ∙ ap value.Int (word_of_agree w32 gs a b w fits.1 agree)
    symbol_agree sort.Bool (symbol.Bit l) v fits is = is ∙ ap value.Bool (lit_agree (length gs) a b l fits agree)
    symbol_agree (sort.Tree of) (symbol.Tree t) v fits is = stands_agree t v fits.0 is
    symbol_agree sort.Int (symbol.Bit l) v fits is = absurd fits
    symbol_agree sort.Int (symbol.Tree t) v fits is = absurd fits
    symbol_agree sort.Bool (symbol.Word w) v fits is = absurd fits
    symbol_agree sort.Bool (symbol.Tree t) v fits is = absurd fits
    symbol_agree (sort.Tree of) (symbol.Word w) v fits is = absurd fits
    symbol_agree (sort.Tree of) (symbol.Bit l) v fits is = absurd fits

    symbols_agree : (ss : List Sort) (xs : List (Symbol NamedTree)) (vs : List Value) → FieldsFit gs nodes ss xs
        → SymbolsHold a n xs vs → SymbolsHold b n xs vs
    symbols_agree ss [] [] fits are = tt
    symbols_agree (s ∷ ss) (x ∷ xs) (v ∷ vs) fits are =
        (symbol_agree s x v fits.0 are.0, symbols_agree ss xs vs fits.1 are.1)
    symbols_agree [] (x ∷ xs) (v ∷ vs) fits are = absurd fits
    symbols_agree ss [] (v ∷ vs) fits are = absurd are
    symbols_agree ss (x ∷ xs) [] fits are = absurd are

    pub expansion_agree : (types : TypeTable) (y : Expansion) → ExpansionFits gs nodes types y → ExpansionHolds a n y
        → ExpansionHolds b n y
    expansion_agree types y fits holds = record {
      value = holds.value;
      named = ap (λ (k : ℕ). n y.of k) (sym (number_agree y.name fits.name)) ∙ holds.named;
      each = λ j x at.
          let own = holds.each j x at in
          let fit = fits.each j x at in
          let same = lit_agree (length gs) a b x.lit fit.lit agree in record {
            own = λ fields is. let h = own.own fields is in
                (sym same ∙ h.0, symbols_agree fit.entry.fields x.fields fields fit.fields h.1);
            other = λ no. sym same ∙ own.other no;
          };
    }

    pub levels_agree : (groups : List ℕ) (levels : List Level)
        → ((i : ℕ) (z : Level) → slice_get levels i ≡ Some z → IsName gs z.word) → LevelsHold a n groups levels
        → LevelsHold b n groups levels
    levels_agree groups levels named holds = record {
      level = holds.level;
      order = holds.order;
      words = λ i z at. sym (number_agree z.word (named i z at)) ∙ holds.words i z at;
    }

pub matches_agree : (types : TypeTable) (d : NamedTrees) (gs : List Gate) (n : Naming) (a b : ℕ → Bool)
    → NamedFits types d gs → AgreeUpTo (length gs) a b → NamedMatches d a n → NamedMatches d b n
matches_agree types d gs n a b fits agree matches = record {
  short = matches.short;
  expansions = λ i y at.
      expansion_agree gs a b agree n d.nodes fits.nodes types y (fits.expansions i y at) (matches.expansions i y at);
  levels = λ i z at.
      levels_agree gs a b agree n d.nodes fits.nodes d.groups d.levels fits.levels (matches.levels i z at);
}

fewer : (n low high : ℕ) → n < 2 ^ low → low ≤ high → n < 2 ^ high
fewer n low high few most = let le = pow_mono {i = low} {j = high} most in omega (arith, few, le)

never : {X : Type 0} → false ≡ true → X
never e = cc

pub named_laws : Lawful named_sense
named_laws = record {
  circuit = λ types d gs fits. fits.circuit;
  ok_of = λ types d gs fits. fits.ok_of;
  grows = λ types d gs hs n fits grows is. record {
    circuit = is;
    ok_of = IsOf_more gs hs n d.ok grows fits.ok_of;
    low = fits.low;
    groups = fits.groups;
    nodes = λ i x at. name_later gs hs n grows x.name (fits.nodes i x at);
    expansions = λ i y at. expansion_later gs hs n grows d.nodes types y (fits.expansions i y at);
    levels = λ i z at. name_later gs hs n grows z.word (fits.levels i z at);
    instances = λ a gives ok. fits.instances a (Gives_old gs hs n grows a gives) ok;
  };
  stands = λ types d gs n a b t v fits node agree is. stands_agree gs a b agree n d.nodes fits.nodes t v node is;
  matches = λ types d gs n a b fits agree matches. matches_agree types d gs n a b fits agree matches;
  fitting = λ exact d n a. never exact;
  decided = λ exact d n k a t v is. never exact;
  single = λ types d gs n a t v w fits good node one other. same_Some v w (sym one ∙ other);
  naming = λ types n is. is.naming;
  names = λ types d gs fits vs few.
      let all = lists_are_ordered types vs (fewer (length vs) (min d.low 30) 30 few (omega arith)) in record {
        naming = ranked types vs;
        admitted = record { naming = all.naming; order = λ groups are. all.order groups };
        reaches = all.short d.low (fewer (length vs) (min d.low 30) d.low few (omega arith));
        names = all.names;
      };
}
