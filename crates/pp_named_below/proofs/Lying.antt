-- Where a field of a tree lies: below the value of the tree.
use Rattle.std.proofs.Common.{◌≡◌, ◌⊎◌, ℕ, zero, suc, Bool, true, List, [], ◌∷◌, Contains, Some, refl, sym}
use Rattle.std.proofs.Common.{ap, ◌∙◌, subst, slice_get, inl, inr, arith}
use Rattle.std.proofs.lemmas.Option.{same_Some}
use Rattle.pp_prog.specs.declared.id.DataId.{DataId}
use Rattle.pp_prog.specs.declared.sort.Sort.{Sort}
use Rattle.pp_prog.specs.declared.sort.Sort.TheVariants as sort
use Rattle.pp_prog.specs.declared.types.TypeTable.{TypeTable}
use Rattle.pp_prog.specs.declared.value.Value.{Value}
use Rattle.pp_prog.specs.Values.{IsBelow, is_deeper, is_field}
use Rattle.pp_clause.specs.Literal.{lit_value}
use Rattle.pp_gate.specs.declared.gate.Gate.{Gate}
use Rattle.pp_gate.specs.Circuit.{IsOf}
use Rattle.pp_bits.specs.Number.{nat_of}
use Rattle.pp_domain.specs.declared.symbol.Symbol.{Symbol}
use Rattle.pp_domain.specs.declared.symbol.Symbol.TheVariants as symbol
use Rattle.pp_domain.specs.Naming.{HasCtor, Naming}
use Rattle.pp_domain.specs.Sense.{Good}
use Rattle.pp_named_trees.specs.declared.arena.Alternative.{Alternative}
use Rattle.pp_named_trees.specs.declared.arena.Node.{Node}
use Rattle.pp_named_trees.specs.declared.arena.NamedTree.{NamedTree}
use Rattle.pp_named_trees.specs.declared.arena.NamedTrees.{NamedTrees}
use Rattle.pp_named_trees.specs.Arena.{FieldFits, FieldsFit, IsKept}
use Rattle.pp_named_trees.specs.Holding.{AlternativeHolds, SymbolHolds, SymbolsHold}
use Rattle.pp_named_trees.specs.Meaning.{NamedFits, named_sense}
use Rattle.pp_named_trees.proofs.Parts.{kept_named}
use Rattle.pp_named_trees.proofs.Reading.{test_means}
use Rattle.pp_named_below.specs.declared.fields.TreeField.{TreeField}
use Rattle.pp_named_below.specs.Fields.{AreTreeFields, looked_at, not_looked_at}
use Rattle.pp_named_below.specs.Search.{HaveNames}
use Rattle.pp_named_below.specs.Sound.{LiesBelow}
use Rattle.pp_named_below.proofs.Reading.{ctor_of}

-- a proper subtree of a proper subtree is one (a lemma on values alone: it belongs beside `IsBelow`)
below_below : (u v w : Value) → IsBelow u v → IsBelow v w → IsBelow u w
below_below u v w low (is_field c fields e has) = is_deeper c fields e has low
below_below u v w low (is_deeper {v = x} c fields e has high) = is_deeper c fields e has (below_below u v x low high)

pub below_under : (a : ℕ → Bool) (n : Naming) (t : NamedTree) (v w : Value) → LiesBelow a n t v
    → (v ≡ w) ⊎ IsBelow v w → LiesBelow a n t w
below_under a n t v w lies (inl same) = subst (λ (u : Value). LiesBelow a n t u) same lies
below_under a n t v w lies (inr high) = record {
  value = lies.value;
  stands = lies.stands;
  below = below_below lies.value v w lies.below high;
}

-- ---- its name

module _ (gs : List Gate) (nodes : List Node) where
  kept_one : (s : Sort) (t : NamedTree) → FieldFits gs nodes s (symbol.Tree t) → IsKept nodes t
  kept_one (sort.Tree of) t fits = fits.0
  kept_one sort.Int t fits = absurd fits
  kept_one sort.Bool t fits = absurd fits

  kept_at : (ss : List Sort) (xs : List (Symbol NamedTree)) (p : ℕ) (t : NamedTree) → FieldsFit gs nodes ss xs
      → slice_get xs p ≡ Some (symbol.Tree t) → IsKept nodes t
  kept_at [] [] p t fits at = cc
  kept_at (s ∷ ss) [] p t fits at = absurd fits
  kept_at [] (x ∷ xs) p t fits at = absurd fits
  kept_at (s ∷ ss) (x ∷ xs) zero t fits at =
      kept_one s t (subst (λ z. FieldFits gs nodes s z) (same_Some x (symbol.Tree t) at) fits.0)
  kept_at (s ∷ ss) (x ∷ xs) (suc p) t fits at = kept_at ss xs p t fits.1 at

nothing_at : {X : Type 0} {Y : Type 0} (xs : List X) (k : ℕ) (x : X) → xs ≡ [] → slice_get xs k ≡ Some x → Y
nothing_at xs k x none at = let no : slice_get [] k ≡ Some x = subst (λ ys. slice_get ys k ≡ Some x) none at in cc

pub fields_named : (types : TypeTable) (d : NamedTrees) (gs : List Gate) (t : NamedTree) (fs : List TreeField)
    → NamedFits types d gs → AreTreeFields d.expansions t fs → HaveNames gs fs
fields_named types d gs t fs fits (not_looked_at before none) k f at = nothing_at fs k f none at
fields_named types d gs t fs fits (looked_at i y there of name all) k f at =
    let c = ctor_of y.alternatives k f (ap (λ gs. slice_get gs k) (sym all) ∙ at) in
    let fit = (fits.expansions i y there).each c.number c.alternative c.at in record {
      lit = subst (IsOf gs) (sym c.own.lit) fit.lit;
      name = kept_named gs d.nodes fits.nodes f.tree
          (kept_at gs d.nodes fit.entry.fields c.alternative.fields c.own.place f.tree fit.fields c.own.here);
    }

-- ---- its value

held_at : (a : ℕ → Bool) (n : Naming) (xs : List (Symbol NamedTree)) (vs : List Value) (p : ℕ) (t : NamedTree)
    → SymbolsHold a n xs vs → slice_get xs p ≡ Some (symbol.Tree t)
    → (u : Value) × Contains vs u × (n t.of (nat_of a t.name) ≡ Some u)
held_at a n [] vs p t are at = cc
held_at a n (x ∷ xs) [] p t are at = absurd are
held_at a n (x ∷ xs) (v ∷ vs) zero t are at =
    (v, (zero, omega arith, refl), subst (λ z. SymbolHolds a n z v) (same_Some x (symbol.Tree t) at) are.0)
held_at a n (x ∷ xs) (v ∷ vs) (suc p) t are at =
    let r = held_at a n xs vs p t are.1 at in
    let has = r.1 in (r.0, (suc has.0, omega (arith, has.1), has.2), r.2)

ctor_lies : (a : ℕ → Bool) (n : Naming) (x : Alternative) (p : ℕ) (t : NamedTree) (v : Value)
    → AlternativeHolds a n v x → HasCtor x.ctor v → slice_get x.fields p ≡ Some (symbol.Tree t) → LiesBelow a n t v
ctor_lies a n x p t v holds has here =
    let r = held_at a n x.fields has.0 p t (holds.own has.0 has.1).1 here in
    record { value = r.0; stands = r.2; below = is_field x.ctor has.0 has.1 r.1 }

data_same : (d e : DataId) → d.0 ≡ e.0 → d ≡ e
data_same d e same = ap (λ (k : ℕ). record { 0 = k }) same

pub field_lies : (types : TypeTable) (d : NamedTrees) (hs : List Gate) (n : Naming) (a : ℕ → Bool) (t : NamedTree)
    (fs : List TreeField) (k : ℕ) (f : TreeField) (v : Value) → NamedFits types d hs → Good named_sense types d hs n a
    → AreTreeFields d.expansions t fs → slice_get fs k ≡ Some f → lit_value a f.lit ≡ true
    → n t.of (nat_of a t.name) ≡ Some v → LiesBelow a n f.tree v
field_lies types d hs n a t fs k f v fits good (not_looked_at before none) at on stands = nothing_at fs k f none at
field_lies types d hs n a t fs k f v fits good (looked_at i y there of name all) at on stands =
    let c = ctor_of y.alternatives k f (ap (λ gs. slice_get gs k) (sym all) ∙ at) in
    let kind = data_same y.of t.of of in
    let has = (test_means types d hs fits t i y there kind name c.number c.alternative c.at n a v good stands).0
    (ap (lit_value a) (sym c.own.lit) ∙ on) in
    let holds = good.matches.expansions i y there in
    let same : holds.value ≡ v = same_Some holds.value v
    (sym holds.named ∙ ap (λ e. n e (nat_of a y.name)) kind ∙ ap (λ l. n t.of (nat_of a l)) name ∙ stands) in
    ctor_lies a n c.alternative c.own.place f.tree v
    (subst (λ u. AlternativeHolds a n u c.alternative) same (holds.each c.number c.alternative c.at)) has c.own.here
