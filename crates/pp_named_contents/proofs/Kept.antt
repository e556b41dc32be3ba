-- What trees that come in leave: old trees are kept, what fits goes on to fit, and good assignments stay good.
use Rattle.std.proofs.Common.{◌≡◌, ℕ, zero, suc, ◌+◌, Bool, List, [], ◌∷◌, ◌++◌, length, Some, refl, sym}
use Rattle.std.proofs.Common.{ap}
use Rattle.std.proofs.Common.{◌∙◌, subst, arith, slice_get, inl, inr}
use Rattle.std.proofs.lemmas.Bool.{cases_lt}
use Rattle.std.proofs.lemmas.List.{append-nil, append_assoc}
use Rattle.std.proofs.lemmas.Option.{same_Some}
use Rattle.pp_prog.specs.declared.id.DataId.{DataId}
use Rattle.pp_prog.specs.declared.sort.Sort.{Sort}
use Rattle.pp_prog.specs.declared.sort.Sort.TheVariants as sort
use Rattle.pp_prog.specs.declared.types.TypeTable.{TypeTable}
use Rattle.pp_gate.specs.declared.gate.Gate.{Gate}
use Rattle.pp_gate.proofs.Growing.{Grows_none}
use Rattle.pp_gate.proofs.Places.{at_left, at_next}
use Rattle.pp_clause.specs.Literal.{Literal}
use Rattle.pp_domain.specs.declared.symbol.Symbol.{Symbol}
use Rattle.pp_domain.specs.declared.symbol.Symbol.TheVariants as symbol
use Rattle.pp_domain.specs.Moves.{Moves}
use Rattle.pp_domain.specs.Naming.{Naming}
use Rattle.pp_domain.specs.Sense.{Good}
use Rattle.pp_domain.proofs.Composition.{Moves_more, Moves_none}
use Rattle.pp_named_trees.specs.declared.arena.Alternative.{Alternative}
use Rattle.pp_named_trees.specs.declared.arena.NamedTree.{NamedTree}
use Rattle.pp_named_trees.specs.declared.arena.NamedTrees.{NamedTrees}
use Rattle.pp_named_trees.specs.declared.arena.Node.{Node}
use Rattle.pp_named_trees.specs.Arena.{ExpansionFits, FieldsFit, IsKept, IsName}
use Rattle.pp_named_trees.specs.Kept.{with_node}
use Rattle.pp_named_trees.specs.Meaning.{NamedFits, named_sense}
use Rattle.pp_named_trees.specs.Parts.{PartsFit}
use Rattle.pp_named_trees.proofs.Keeping.{Moves_kept}
use Rattle.pp_named_trees.proofs.Lawful.{named_lawful}
use Rattle.pp_named_contents.specs.Fitting.{ContentsFit}
use Rattle.pp_named_contents.specs.Kept.{AreKept, AreKeptTo, AreNamed, FieldsKept, FieldsKeptTo, FieldsNamed, Keeps}
use Rattle.pp_named_contents.specs.Kept.{with_nodes}

pub keeps_none : (gs : List Gate) (d : NamedTrees) → Keeps gs d d
keeps_none gs d = record {
  added = [];
  is = ap (λ (ns : List Node). record d { nodes = ns }) (sym (append-nil d.nodes));
  names = λ i x at. cc;
}

pub keeps_same : (gs : List Gate) (d e : NamedTrees) → e ≡ d → Keeps gs d e
keeps_same gs d e same = subst (λ (f : NamedTrees). Keeps gs d f) (sym same) (keeps_none gs d)

pub keeps_one : (gs : List Gate) (d e : NamedTrees) (x : Node) → IsName gs x.name → e ≡ with_node d x → Keeps gs d e
keeps_one gs d e x name is = record { added = x ∷ []; is = is; names = named }
  where
    named : (i : ℕ) (y : Node) → slice_get (x ∷ []) i ≡ Some y → IsName gs y.name
    named zero y at = subst (λ (z : Node). IsName gs z.name) (same_Some x y at) name
    named (suc i) y at = cc

names_append : (gs : List Gate) (xs ys : List Node) → ((i : ℕ) (x : Node) → slice_get xs i ≡ Some x → IsName gs x.name)
    → ((i : ℕ) (y : Node) → slice_get ys i ≡ Some y → IsName gs y.name)
    → (i : ℕ) (z : Node) → slice_get (xs ++ ys) i ≡ Some z → IsName gs z.name
names_append gs [] ys first second i z at = second i z at
names_append gs (x ∷ xs) ys first second zero z at = first 0 z at
names_append gs (x ∷ xs) ys first second (suc i) z at =
    names_append gs xs ys (λ j y to. first (suc j) y to) second i z at

pub keeps_more : (gs : List Gate) (c d e : NamedTrees) → Keeps gs c d → Keeps gs d e → Keeps gs c e
keeps_more gs c d e p q = record {
  added = p.added ++ q.added;
  is = q.is ∙ ap (λ (m : NamedTrees). with_nodes m q.added) p.is
      ∙ ap (λ (ns : List Node). record c { nodes = ns }) (append_assoc c.nodes p.added q.added);
  names = names_append gs p.added q.added p.names q.names;
}

pub keeps_kept : (gs : List Gate) (d e : NamedTrees) (t : NamedTree) → Keeps gs d e → IsKept d.nodes t
    → IsKept e.nodes t
keeps_kept gs d e t keeps is = record {
  number = is.number;
  node = is.node;
  at = ap (λ (f : NamedTrees). slice_get f.nodes is.number) keeps.is
      ∙ at_left d.nodes keeps.added is.number is.node is.at;
  of = is.of;
  name = is.name;
}

-- the tree that came in is kept
pub kept_new : (d e : NamedTrees) (t : NamedTree) → e ≡ with_node d (record { of = t.of; name = t.name })
    → IsKept e.nodes t
kept_new d e t is = record {
  number = length d.nodes;
  node = record { of = t.of; name = t.name };
  at = ap (λ (f : NamedTrees). slice_get f.nodes (length d.nodes)) is ∙ at_next d.nodes [] _;
  of = refl;
  name = refl;
}

-- ---- the loops

pub named_one : (gs : List Gate) (xs : List (Symbol NamedTree)) (i : ℕ) (x : Symbol NamedTree) → slice_get xs i ≡ Some x
    → AreNamed gs xs → AreNamed gs (x ∷ [])
named_one gs xs i x at named zero t is = named i t (at ∙ is)
named_one gs xs i x at named (suc p) t is = cc

pub kept_tree : (nodes : List Node) (t : NamedTree) → IsKept nodes t → AreKept nodes (symbol.Tree t ∷ [])
kept_tree nodes t is zero u at = subst (λ (z : NamedTree). IsKept nodes z) (tree_same t u at) is
  where
    tree_same : (t u : NamedTree) → Some (symbol.Tree t) ≡ Some (symbol.Tree u) → t ≡ u
    tree_same t u e = cc
kept_tree nodes t is (suc p) u at = cc

pub kept_turn : (gs : List Gate) (d e : NamedTrees) (xs : List (Symbol NamedTree)) (i : ℕ) (x : Symbol NamedTree)
    → slice_get xs i ≡ Some x → Keeps gs d e → AreKeptTo d.nodes i xs → AreKept e.nodes (x ∷ [])
    → AreKeptTo e.nodes (i + 1) xs
kept_turn gs d e xs i x at keeps before own p t lt is = elim (cases_lt p i) [
  | inl less ↦ keeps_kept gs d e t keeps (before p t less is)
  | inr more ↦
      let here : i ≡ p = omega (arith, lt, more) in own 0 t (sym at ∙ ap (slice_get xs) here ∙ is)
]

pub fields_turn : (gs : List Gate) (d e : NamedTrees) (ys : List Alternative) (i : ℕ) (y : Alternative)
    (xs : List (Symbol NamedTree)) → slice_get ys i ≡ Some y → xs ≡ y.fields → Keeps gs d e → FieldsKeptTo d.nodes i ys
    → AreKept e.nodes xs → FieldsKeptTo e.nodes (i + 1) ys
fields_turn gs d e ys i y xs at same keeps before own j z lt is = elim (cases_lt j i) [
  | inl less ↦ λ p t here. keeps_kept gs d e t keeps (before j z less is p t here)
  | inr more ↦
      let here : i ≡ j = omega (arith, lt, more) in
      let one : y ≡ z = same_Some y z (sym at ∙ ap (slice_get ys) here ∙ is) in
      λ p t there. own p t (ap (λ zs. slice_get zs p) (same ∙ ap (λ (u : Alternative). u.fields) one) ∙ there)
]

pub fields_named_at : (gs : List Gate) (ys : List Alternative) (i : ℕ) (y : Alternative) (xs : List (Symbol NamedTree))
    → slice_get ys i ≡ Some y → xs ≡ y.fields → FieldsNamed gs ys → AreNamed gs xs
fields_named_at gs ys i y xs at same named p t is = named i y at p t (ap (λ zs. slice_get zs p) (sym same) ∙ is)

-- ---- what fits

parts_named : (gs : List Gate) (ss : List Sort) (xs : List (Symbol NamedTree)) → PartsFit gs ss xs → AreNamed gs xs
parts_named gs ss [] fits p t at = cc
parts_named gs (sort.Tree of ∷ ss) (symbol.Tree u ∷ xs) fits zero t at =
    subst (λ (z : NamedTree). IsName gs z.name) (tree_same u t at) fits.0.0
  where
    tree_same : (t u : NamedTree) → Some (symbol.Tree t) ≡ Some (symbol.Tree u) → t ≡ u
    tree_same t u e = cc
parts_named gs (s ∷ ss) (symbol.Word w ∷ xs) fits zero t at = cc
parts_named gs (s ∷ ss) (symbol.Bit l ∷ xs) fits zero t at = cc
parts_named gs (sort.Int ∷ ss) (symbol.Tree u ∷ xs) fits zero t at = absurd fits.0
parts_named gs (sort.Bool ∷ ss) (symbol.Tree u ∷ xs) fits zero t at = absurd fits.0
parts_named gs (s ∷ ss) (x ∷ xs) fits (suc p) t at = parts_named gs ss xs fits.1 p t at
parts_named gs [] (x ∷ xs) fits p t at = absurd fits

pub contents_named : (gs : List Gate) (types : TypeTable) (of : DataId) (xs : List Alternative)
    → ContentsFit gs types of xs → FieldsNamed gs xs
contents_named gs types of xs fits j x at =
    let own = fits.each j x at in parts_named gs own.entry.fields x.fields own.fields

fields_fit : (gs : List Gate) (nodes : List Node) (ss : List Sort) (xs : List (Symbol NamedTree)) → PartsFit gs ss xs
    → AreKept nodes xs → FieldsFit gs nodes ss xs
fields_fit gs nodes [] [] fits kept = tt
fields_fit gs nodes (sort.Int ∷ ss) (symbol.Word w ∷ xs) fits kept =
    ((fits.0.len, fits.0.of), fields_fit gs nodes ss xs fits.1 (λ p t at. kept (suc p) t at))
fields_fit gs nodes (sort.Bool ∷ ss) (symbol.Bit l ∷ xs) fits kept =
    (fits.0, fields_fit gs nodes ss xs fits.1 (λ p t at. kept (suc p) t at))
fields_fit gs nodes (sort.Tree of ∷ ss) (symbol.Tree t ∷ xs) fits kept =
    ((kept 0 t refl, fits.0.1), fields_fit gs nodes ss xs fits.1 (λ p u at. kept (suc p) u at))
fields_fit gs nodes (sort.Int ∷ ss) (symbol.Bit l ∷ xs) fits kept = absurd fits.0
fields_fit gs nodes (sort.Int ∷ ss) (symbol.Tree t ∷ xs) fits kept = absurd fits.0
fields_fit gs nodes (sort.Bool ∷ ss) (symbol.Word w ∷ xs) fits kept = absurd fits.0
fields_fit gs nodes (sort.Bool ∷ ss) (symbol.Tree t ∷ xs) fits kept = absurd fits.0
fields_fit gs nodes (sort.Tree of ∷ ss) (symbol.Word w ∷ xs) fits kept = absurd fits.0
fields_fit gs nodes (sort.Tree of ∷ ss) (symbol.Bit l ∷ xs) fits kept = absurd fits.0
fields_fit gs nodes [] (x ∷ xs) fits kept = absurd fits
fields_fit gs nodes (s ∷ ss) [] fits kept = absurd fits

-- contents whose trees are kept can be those of a tree that is looked at
pub expansion_fits : (gs : List Gate) (nodes : List Node) (types : TypeTable) (of : DataId) (name : List Literal)
    (xs : List Alternative) → ContentsFit gs types of xs → FieldsKept nodes xs → IsName gs name
    → ExpansionFits gs nodes types (record { of = of; name = name; alternatives = xs })
expansion_fits gs nodes types of name xs fits kept named = record {
  name = named;
  datatype = fits.datatype;
  at = fits.at;
  many = fits.many;
  each = λ j x at. let own = fits.each j x at in record {
    ctor = own.ctor;
    lit = own.lit;
    entry = own.entry;
    at = own.at;
    fields = fields_fit gs nodes own.entry.fields x.fields own.fields (kept j x at);
    blank = own.blank;
  };
  one = fits.one;
}

module _ (types : TypeTable) (gs : List Gate) where
  moves_all : (xs : List Node) (d : NamedTrees) → NamedFits types d gs
      → ((i : ℕ) (x : Node) → slice_get xs i ≡ Some x → IsName gs x.name)
      → Moves named_sense types d gs (with_nodes d xs) gs 0
  moves_all [] d fits named =
      subst (λ (ns : List Node). Moves named_sense types d gs (record d { nodes = ns }) gs 0) (sym (append-nil d.nodes))
      (Moves_none named_sense types named_lawful d gs fits)
  moves_all (x ∷ xs) d fits named =
      let one = Moves_kept types d gs gs 0 x fits (Grows_none gs) fits.circuit (named 0 x refl) in
      let rest = moves_all xs (with_node d x) one.fits (λ i y at. named (suc i) y at) in
      subst (λ (ns : List Node). Moves named_sense types d gs (record d { nodes = ns }) gs 0)
      (append_assoc d.nodes (x ∷ []) xs)
      (Moves_more named_sense types d (with_node d x) (with_nodes (with_node d x) xs) gs gs gs 0 0 0 one rest
      (omega arith))

  pub keeps_moves : (d e : NamedTrees) → NamedFits types d gs → Keeps gs d e → Moves named_sense types d gs e gs 0
  keeps_moves d e fits keeps =
      subst (λ (f : NamedTrees). Moves named_sense types d gs f gs 0) (sym keeps.is)
      (moves_all keeps.added d fits keeps.names)

  pub keeps_good : (d e : NamedTrees) (n : Naming) (a : ℕ → Bool) → Keeps gs d e → Good named_sense types d gs n a
      → Good named_sense types e gs n a
  keeps_good d e n a keeps good =
      subst (λ (f : NamedTrees). Good named_sense types f gs n a) (sym keeps.is) (record {
        gates = good.gates;
        ok = good.ok;
        matches = record {
          short = good.matches.short;
          expansions = good.matches.expansions;
          levels = good.matches.levels;
        };
        admitted = good.admitted;
      })
