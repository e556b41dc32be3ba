-- A node of one known constructor: it fits, and stands for the constructor with the values of its fields.
use Rattle.std.proofs.Common.{◌≡◌, ℕ, zero, suc, ◌+◌, ◌<◌, ◌≤◌, ◌^◌, max, Bool, true, if◌then◌else◌, List, [], ◌∷◌}
use Rattle.std.proofs.Common.{◌++◌, length, map, Some, None, refl, sym, ap, ◌∙◌, subst, arith, slice_get, inl, inr}
use Rattle.std.proofs.Common.{length-append}
use Rattle.pp_prog.specs.declared.id.CtorId.{CtorId}
use Rattle.pp_prog.specs.declared.sort.Sort.{Sort}
use Rattle.pp_prog.specs.declared.sort.Sort.TheVariants as sort
use Rattle.pp_prog.specs.declared.types.Ctor.{Ctor}
use Rattle.pp_prog.specs.declared.types.TypeTable.{TypeTable}
use Rattle.pp_prog.specs.declared.value.Value.{Value}
use Rattle.pp_prog.specs.Values.{greatest}
use Rattle.pp_prog.proofs.Values.{greatest_push}
use Rattle.pp_clause.specs.Literal.{Literal, lit_value}
use Rattle.pp_gate.specs.declared.gate.Gate.{Gate}
use Rattle.pp_gate.specs.Circuit.{StandsFor}
use Rattle.pp_bits.specs.Number.{bit}
use Rattle.pp_domain.specs.declared.symbol.Symbol.{Symbol}
use Rattle.pp_domain.specs.declared.symbol.Symbol.TheVariants as symbol
use Rattle.pp_gate.proofs.Places.{at_next}
use Rattle.pp_domain.specs.Answers.{IsConstruct}
use Rattle.pp_domain.specs.Moves.{Moves}
use Rattle.pp_domain.specs.Naming.{Naming}
use Rattle.pp_domain.specs.Symbols.{AreSymbols, IsSymbol, SymbolStands, SymbolsStand, symbol_height}
use Rattle.pp_bounded_trees.specs.declared.arena.Alternative.{Alternative}
use Rattle.pp_bounded_trees.specs.declared.arena.Trees.{Trees}
use Rattle.pp_bounded_trees.specs.declared.arena.BoundedTree.{BoundedTree}
use Rattle.pp_bounded_trees.specs.declared.arena.Node.{Node}
use Rattle.pp_bounded_trees.specs.Arena.{AlternativeFits, ArenaFits, FieldFits, FieldsFit, NodeFits, height_of}
use Rattle.pp_bounded_trees.specs.Arena.{true_among}
use Rattle.pp_bounded_trees.specs.Meaning.{BoundedFits, bounded_sense}
use Rattle.pp_bounded_trees.specs.Values.{all_values, built, field_values, prepended, symbol_value, value_among}
use Rattle.pp_bounded_trees.specs.Values.{value_at, values_of}
use Rattle.pp_domain.proofs.Composition.{Moves_none}
use Rattle.pp_bounded_trees.proofs.Lawful.{bounded_lawful}
use Rattle.pp_bounded_trees.proofs.Locality.{node_value}
use Rattle.pp_bounded_trees.proofs.Pushed.{arena_pushed}

module _ (d : Trees) (gs : List Gate) where
  pub fields_fit : (h : ℕ) (ss : List Sort) (xs : List (Symbol BoundedTree)) → AreSymbols bounded_sense d gs ss xs
      → greatest (map (symbol_height bounded_sense d) xs) < h → FieldsFit gs d.nodes (length d.nodes) h ss xs
  fields_fit h [] [] are low = tt
  fields_fit h (s ∷ ss) (x ∷ xs) are low =
      (field_fit s x are.0 (omega arith), fields_fit h ss xs are.1 (omega arith))
    where
      field_fit : (s : Sort) (x : Symbol BoundedTree) → IsSymbol bounded_sense d gs s x
          → symbol_height bounded_sense d x < h
          → FieldFits gs d.nodes (length d.nodes) h s x
      field_fit sort.Int (symbol.Word w) is lt = is
      field_fit sort.Bool (symbol.Bit l) is lt = is
      field_fit (sort.Tree of) (symbol.Tree t) is lt = (is.0, is.1, lt)
      field_fit sort.Int (symbol.Bit l) is lt = absurd is
      field_fit sort.Int (symbol.Tree t) is lt = absurd is
      field_fit sort.Bool (symbol.Word w) is lt = absurd is
      field_fit sort.Bool (symbol.Tree t) is lt = absurd is
      field_fit (sort.Tree of) (symbol.Word w) is lt = absurd is
      field_fit (sort.Tree of) (symbol.Bit l) is lt = absurd is
  fields_fit h [] (x ∷ xs) are low = absurd are
  fields_fit h (s ∷ ss) [] are low = absurd are

-- symbols that stand for values have them
pub symbol_is : (d : Trees) (n : Naming) (a : ℕ → Bool) (x : Symbol BoundedTree) (v : Value)
    → SymbolStands bounded_sense d a n x v → symbol_value a (values_of a d.nodes) x ≡ Some v
symbol_is d n a (symbol.Word w) v is = ap Some (sym is)
symbol_is d n a (symbol.Bit l) v is = ap Some (sym is)
symbol_is d n a (symbol.Tree t) v is = is

pub fields_are : (d : Trees) (n : Naming) (a : ℕ → Bool) (xs : List (Symbol BoundedTree)) (vs : List Value)
    → SymbolsStand bounded_sense d a n xs vs → field_values a (values_of a d.nodes) xs ≡ Some vs
fields_are d n a [] [] is = refl
fields_are d n a (x ∷ xs) (v ∷ vs) is =
    ap (λ o. all_values (o ∷ map (symbol_value a (values_of a d.nodes)) xs)) (symbol_is d n a x v is.0)
    ∙ ap (prepended v) (fields_are d n a xs vs is.1)
fields_are d n a [] (v ∷ vs) is = absurd is
fields_are d n a (x ∷ xs) [] is = absurd is

-- one constructor, with a literal that is always true
pub known_fits : (types : TypeTable) (d : Trees) (gs : List Gate) (c : CtorId) (entry : Ctor) (l : Literal)
    (xs : List (Symbol BoundedTree)) (node : Node) → slice_get types.ctors c.0 ≡ Some entry
    → AreSymbols bounded_sense d gs entry.fields xs → StandsFor gs l (λ s. true) → entry.of ≡ node.of
    → node.height ≡ 1 + greatest (map (symbol_height bounded_sense d) xs)
    → node.alternatives ≡ record { ctor = c; lit = l; fields = xs } ∷ []
    → NodeFits gs d.nodes types (length d.nodes) node
known_fits types d gs c entry l xs node at are truth of height is = record {
  each = λ j y here. one_of j y (subst (λ (ys : List Alternative). slice_get ys j ≡ Some y) is here);
  order = λ i j y z lt one other. absurd (two i j z lt (subst (λ (ys : List Alternative). slice_get ys j ≡ Some z) is
      other));
  one = inr (λ a gives. ap (λ ys. true_among a ys) is ∙ ap (λ b. bit b + 0) (truth.value a gives));
}
  where
    known : Alternative
    known = record { ctor = c; lit = l; fields = xs }

    fits : AlternativeFits gs d.nodes types (length d.nodes) node.of node.height known
    fits = record {
      low = omega arith;
      lit_of = truth.of;
      entry = entry;
      at = at;
      data_of = of;
      fields = fields_fit d gs node.height entry.fields xs are (omega arith);
    }

    one_of : (j : ℕ) (y : Alternative) → slice_get (known ∷ []) j ≡ Some y
        → AlternativeFits gs d.nodes types (length d.nodes) node.of node.height y
    one_of zero y here = subst (λ (z : Alternative). AlternativeFits gs d.nodes types (length d.nodes) node.of
        node.height z) (same here) fits
      where
        same : Some known ≡ Some y → known ≡ y
        same e = cc
    one_of (suc j) y here = cc

    two : (i j : ℕ) (z : Alternative) → i < j → slice_get (known ∷ []) j ≡ Some z → ⊥
    two i zero z lt e = omega arith
    two i (suc j) z lt e = cc

-- the greatest height of the fields is no more than that of any tree of the arena
heights_most : (d : Trees) (gs : List Gate) (ss : List Sort) (xs : List (Symbol BoundedTree))
    → AreSymbols bounded_sense d gs ss xs
    → greatest (map (symbol_height bounded_sense d) xs) ≤ 2 ^ 32 + length d.nodes
heights_most d gs [] [] are = omega arith
heights_most d gs (s ∷ ss) (x ∷ xs) are =
    let one = height_most s x are.0 in let more = heights_most d gs ss xs are.1 in omega arith
  where
    height_most : (s : Sort) (x : Symbol BoundedTree) → IsSymbol bounded_sense d gs s x
        → symbol_height bounded_sense d x ≤ 2 ^ 32 + length d.nodes
    height_most s (symbol.Word w) is = omega arith
    height_most s (symbol.Bit l) is = omega arith
    height_most (sort.Tree of) (symbol.Tree t) is = is.0.most
    height_most sort.Int (symbol.Tree t) is = absurd is
    height_most sort.Bool (symbol.Tree t) is = absurd is
heights_most d gs [] (x ∷ xs) are = absurd are
heights_most d gs (s ∷ ss) [] are = absurd are

-- the whole answer of `construct`
pub known_construct : (types : TypeTable) (d e : Trees) (gs : List Gate) (c : CtorId) (entry : Ctor) (l : Literal)
    (xs : List (Symbol BoundedTree)) (node : Node) (t : BoundedTree) → BoundedFits types d gs
    → slice_get types.ctors c.0 ≡ Some entry → AreSymbols bounded_sense d gs entry.fields xs
    → StandsFor gs l (λ s. true)
    → entry.of ≡ node.of → node.height ≡ 1 + greatest (map (symbol_height bounded_sense d) xs)
    → node.alternatives ≡ record { ctor = c; lit = l; fields = xs } ∷ []
    → e.nodes ≡ d.nodes ++ node ∷ [] → e.ok ≡ d.ok → t.number ≡ length d.nodes → t.of ≡ node.of → t.height ≡ node.height
    → IsConstruct bounded_sense types d gs e gs c xs t
known_construct types d e gs c entry l xs node t fits at are truth of height is pushed ok number t_of t_height =
    record {
      node = record {
        node = node;
        at = ap (λ k. slice_get e.nodes k) number ∙ here;
        before = let m = more in omega arith;
        data_of = sym t_of;
        height = let h = t_height in omega arith;
        most = let h = t_height in let m = more in let lo = low in omega arith;
      };
      data_of = (entry, at, of ∙ sym t_of);
      height = t_height ∙ height;
      looks = record { expanded = tt; once = inl (record { looks = refl; compares = refl }, refl) };
      means = λ n a vs good stand.
          ap (λ k. value_at (values_of a e.nodes) k) number
          ∙ node_value a gs types e.nodes (length d.nodes) node arena here
          ∙ ap (λ ys. value_among a (values_of a e.nodes) ys) is
          ∙ ap (λ (b : Bool). if b then built c (field_values a (values_of a e.nodes) xs) else None)
          (truth.value a good.gates)
          ∙ ap (built c) (fields_are e n a xs vs stand);
      extends = λ n a good any. record {
        next = a;
        agree = record { agree = λ x low high. refl };
        good = record {
          gates = good.gates;
          ok = ap (λ m. lit_value a m) ok ∙ good.ok;
          matches = tt;
          admitted = good.admitted;
        };
      };
    }
  where
    own : NodeFits gs d.nodes types (length d.nodes) node
    own = known_fits types d gs c entry l xs node at are truth of height is

    arena : ArenaFits types gs e.nodes
    arena = arena_pushed d.nodes e.nodes node pushed gs types fits.arena own

    here : slice_get e.nodes (length d.nodes) ≡ Some node
    here = ap (λ ys. slice_get ys (length d.nodes)) pushed ∙ at_next d.nodes [] node

    more : length e.nodes ≡ length d.nodes + 1
    more = ap length pushed ∙ length-append d.nodes (node ∷ [])

    low : greatest (map (symbol_height bounded_sense d) xs) ≤ 2 ^ 32 + length d.nodes
    low = heights_most d gs entry.fields xs are

-- the heights of symbols are read off them
pub heights_same : (d : Trees) (xs : List (Symbol BoundedTree))
    → map (symbol_height bounded_sense d) xs ≡ map height_of xs
heights_same d [] = refl
heights_same d (symbol.Word w ∷ xs) = ap (λ ns. 0 ∷ ns) (heights_same d xs)
heights_same d (symbol.Bit l ∷ xs) = ap (λ ns. 0 ∷ ns) (heights_same d xs)
heights_same d (symbol.Tree t ∷ xs) = ap (λ ns. t.height ∷ ns) (heights_same d xs)

heights_push : (xs : List (Symbol BoundedTree)) (x : Symbol BoundedTree)
    → map height_of (xs ++ x ∷ []) ≡ map height_of xs ++ height_of x ∷ []
heights_push [] x = refl
heights_push (y ∷ xs) x = ap (λ ns. height_of y ∷ ns) (heights_push xs x)

-- the greatest height with one more symbol at the end
pub highest_push : (xs : List (Symbol BoundedTree)) (x : Symbol BoundedTree)
    → greatest (map height_of (xs ++ x ∷ [])) ≡ max (greatest (map height_of xs)) (height_of x)
highest_push xs x = ap greatest (heights_push xs x) ∙ greatest_push (map height_of xs) (height_of x)

-- an arena that is the same
pub Moves_same : (types : TypeTable) (d e : Trees) (gs : List Gate) → BoundedFits types d gs → e.nodes ≡ d.nodes
    → e.ok ≡ d.ok → Moves bounded_sense types d gs e gs 0
Moves_same types d e gs fits nodes ok =
    let own : d ≡ e = λ i. record { nodes = sym nodes i; ok = sym ok i } in
    subst (λ (f : Trees). Moves bounded_sense types d gs f gs 0) own
    (Moves_none bounded_sense types bounded_lawful d gs fits)
