-- What a field of a tree is, and stands for.
use Rattle.std.proofs.Common.{◌≡◌, ℕ, zero, suc, ◌+◌, ◌-◌, ◌≤◌, ◌^◌, Bool, List, [], ◌∷◌, length, map, Option, Some}
use Rattle.std.proofs.Common.{None, refl, sym, ap, ◌∙◌, subst, arith, slice_get, inl}
use Rattle.std.proofs.lemmas.Option.{same_Some}
use Rattle.pp_prog.specs.declared.id.CtorId.{CtorId}
use Rattle.pp_prog.specs.declared.sort.Sort.{Sort}
use Rattle.pp_prog.specs.declared.sort.Sort.TheVariants as sort
use Rattle.pp_prog.specs.declared.types.Ctor.{Ctor}
use Rattle.pp_prog.specs.declared.types.TypeTable.{TypeTable}
use Rattle.pp_prog.specs.declared.value.Value.{Value}
use Rattle.pp_prog.proofs.Values.{same_fields}
use Rattle.pp_gate.specs.declared.gate.Gate.{Gate}
use Rattle.pp_domain.specs.declared.symbol.Symbol.{Symbol}
use Rattle.pp_domain.specs.declared.symbol.Symbol.TheVariants as symbol
use Rattle.pp_domain.specs.Answers.{HasField, IsFieldRead}
use Rattle.pp_domain.specs.Moves.{LooksAt, Moves, Steady}
use Rattle.pp_domain.specs.Naming.{HasCtor, IsFieldOf, Naming, own, other}
use Rattle.pp_domain.specs.Symbols.{SymbolStands}
use Rattle.pp_domain.proofs.Composition.{Extended_none, Extended_steady}
use Rattle.pp_bounded_trees.specs.declared.arena.Alternative.{Alternative}
use Rattle.pp_bounded_trees.specs.declared.arena.Trees.{Trees}
use Rattle.pp_bounded_trees.specs.declared.arena.BoundedTree.{BoundedTree}
use Rattle.pp_bounded_trees.specs.declared.arena.Node.{Node}
use Rattle.pp_bounded_trees.specs.Alternatives.{IsOwn, field_in, found}
use Rattle.pp_bounded_trees.specs.Arena.{FieldFits, FieldsFit, TreeFits}
use Rattle.pp_bounded_trees.specs.Fields.{IsBlank, lowered}
use Rattle.pp_bounded_trees.specs.Meaning.{BoundedFits, bounded_sense}
use Rattle.pp_bounded_trees.specs.Values.{all_values, prepended, symbol_value, value_at, values_of}
use Rattle.pp_bounded_trees.proofs.Alternatives.{own_of}
use Rattle.pp_bounded_trees.proofs.Found.{found_has, found_some}
use Rattle.pp_bounded_trees.proofs.Lawful.{bounded_lawful}
use Rattle.pp_bounded_trees.proofs.Locality.{node_value}
use Rattle.pp_prog.proofs.Values.{same_ctor}

-- the values of all are those of the first and of the rest
pub record FirstOfAll (o : Option Value) (os : List (Option Value)) (vs : List Value) : Type 0 where
  pub first : Value
  pub rest : List Value
  pub first_is : o ≡ Some first
  pub rest_is : all_values os ≡ Some rest
  pub whole : vs ≡ first ∷ rest

pub all_first : (o : Option Value) (os : List (Option Value)) (vs : List Value) → all_values (o ∷ os) ≡ Some vs
    → FirstOfAll o os vs
all_first None os vs e = cc
all_first (Some v) os vs e = step (all_values os) refl e
  where
    step : (r : Option (List Value)) → all_values os ≡ r → prepended v r ≡ Some vs → FirstOfAll (Some v) os vs
    step None is g = cc
    step (Some rest) is g = record {
      first = v;
      rest = rest;
      first_is = refl;
      rest_is = is;
      whole = same_Some vs (v ∷ rest) (sym g);
    }

-- the value at a place is that of the symbol there
pub values_at : (f : Symbol BoundedTree → Option Value) (xs : List (Symbol BoundedTree)) (vs : List Value) (i : ℕ)
    (x : Symbol BoundedTree) (u : Value) → all_values (map f xs) ≡ Some vs → slice_get xs i ≡ Some x
    → slice_get vs i ≡ Some u → f x ≡ Some u
values_at f [] vs i x u all at here = cc
values_at f (y ∷ xs) vs zero x u all at here =
    let o = all_first (f y) (map f xs) vs all in
    ap f (same_Some x y (sym at)) ∙ o.first_is ∙ ap (λ (us : List Value). slice_get us 0) (sym o.whole) ∙ here
values_at f (y ∷ xs) vs (suc i) x u all at here =
    let o = all_first (f y) (map f xs) vs all in
    values_at f xs o.rest i x u o.rest_is at (ap (λ (us : List Value). slice_get us (suc i)) (sym o.whole) ∙ here)

-- each sort has a field
pub record FieldAt (gs : List Gate) (nodes : List Node) (k h : ℕ) (s : Sort) (xs : List (Symbol BoundedTree)) (i : ℕ)
    : Type 0 where
  pub field : Symbol BoundedTree
  pub at : slice_get xs i ≡ Some field
  pub fits : FieldFits gs nodes k h s field

pub field_at : (gs : List Gate) (nodes : List Node) (k h : ℕ) (ss : List Sort) (xs : List (Symbol BoundedTree)) (i : ℕ)
    (s : Sort) → FieldsFit gs nodes k h ss xs → slice_get ss i ≡ Some s → FieldAt gs nodes k h s xs i
field_at gs nodes k h [] xs i s fits at = cc
field_at gs nodes k h (r ∷ ss) [] i s fits at = absurd fits
field_at gs nodes k h (r ∷ ss) (x ∷ xs) zero s fits at = record {
  field = x;
  at = refl;
  fits = subst (λ (q : Sort). FieldFits gs nodes k h q x) (same_Some r s at) fits.0;
}
field_at gs nodes k h (r ∷ ss) (x ∷ xs) (suc i) s fits at =
    let rest = field_at gs nodes k h ss xs i s fits.1 at in
    record { field = rest.field; at = rest.at; fits = rest.fits }

-- a symbol stands for the value that it has
pub symbol_has : (d : Trees) (n : Naming) (a : ℕ → Bool) (x : Symbol BoundedTree) (v : Value)
    → symbol_value a (values_of a d.nodes) x ≡ Some v → SymbolStands bounded_sense d a n x v
symbol_has d n a (symbol.Word w) v is = same_Some _ _ (sym is)
symbol_has d n a (symbol.Bit l) v is = same_Some _ _ (sym is)
symbol_has d n a (symbol.Tree t) v is = is

-- also as one of another height
lowered_has : (d : Trees) (n : Naming) (a : ℕ → Bool) (h : ℕ) (x : Symbol BoundedTree) (v : Value)
    → symbol_value a (values_of a d.nodes) x ≡ Some v → SymbolStands bounded_sense d a n (lowered h x) v
lowered_has d n a h (symbol.Word w) v is = same_Some _ _ (sym is)
lowered_has d n a h (symbol.Bit l) v is = same_Some _ _ (sym is)
lowered_has d n a h (symbol.Tree t) v is = is

lowered_blank : (d : Trees) (gs : List Gate) (k h m : ℕ) (s : Sort) (x : Symbol BoundedTree)
    → FieldFits gs d.nodes k h s x → k ≤ length d.nodes → h ≤ suc m → m ≤ 2 ^ 32 + length d.nodes
    → IsBlank d gs m s (lowered m x)
lowered_blank d gs k h m sort.Int (symbol.Word w) fits within low most = record { of = fits; height = refl }
lowered_blank d gs k h m sort.Bool (symbol.Bit l) fits within low most = record { of = fits; height = refl }
lowered_blank d gs k h m (sort.Tree of) (symbol.Tree t) fits within low most =
    record {
      of = (
        record {
          node = fits.0.node;
          at = fits.0.at;
          before = let b = fits.0.before in omega arith;
          data_of = fits.0.data_of;
          height = let b = fits.0.height in let c = fits.2 in omega arith;
          most = most;
        },
        fits.1,
      );
      height = refl;
    }
lowered_blank d gs k h m sort.Int (symbol.Bit l) fits within low most = absurd fits
lowered_blank d gs k h m sort.Int (symbol.Tree t) fits within low most = absurd fits
lowered_blank d gs k h m sort.Bool (symbol.Word w) fits within low most = absurd fits
lowered_blank d gs k h m sort.Bool (symbol.Tree t) fits within low most = absurd fits
lowered_blank d gs k h m (sort.Tree of) (symbol.Word w) fits within low most = absurd fits
lowered_blank d gs k h m (sort.Tree of) (symbol.Bit l) fits within low most = absurd fits

module _ (types : TypeTable) (d : Trees) (gs : List Gate) (t : BoundedTree) (c : CtorId) (i : ℕ)
    (fits : BoundedFits types d gs) (tree : TreeFits d.nodes (length d.nodes) t) where
  -- where the node may have the constructor, the field is there
  own_field : (s : Sort) (y : Alternative) → HasField types c i s → found c.0 tree.node.alternatives ≡ Some y
      → FieldAt gs d.nodes t.number tree.node.height s y.fields i
  own_field s y has here =
      let f = found_some c.0 tree.node.alternatives y here in
      let fit = (fits.arena.each t.number tree.node tree.at).each f.place y f.at in
      let same : fit.entry ≡ has.0 =
      same_Some fit.entry has.0 (sym fit.at ∙ ap (λ k. slice_get types.ctors k) f.ctor ∙ has.1) in
      field_at gs d.nodes t.number tree.node.height fit.entry.fields y.fields i s fit.fields
      (ap (λ (e : Ctor). slice_get e.fields i) same ∙ has.2)

  -- a value of the constructor is one that the node may have, and its fields are those that it has there
  module _ (a : ℕ → Bool) (v : Value) (is : value_at (values_of a d.nodes) t.number ≡ Some v) (has : HasCtor c v)
    where
      its : IsOwn a (values_of a d.nodes) tree.node.alternatives v
      its = own_of a (values_of a d.nodes) tree.node.alternatives v
          (sym (node_value a gs types d.nodes t.number tree.node fits.arena tree.at) ∙ is)

      found_own : found c.0 tree.node.alternatives ≡ Some its.own
      found_own =
          found_has c.0 tree.node.alternatives its.place its.own
          (fits.arena.each t.number tree.node tree.at).order its.at
          (ap (λ (e : CtorId). e.0) (same_ctor its.own.ctor c its.fields has.0 (sym its.value ∙ has.1)))

      own_value : (x : Symbol BoundedTree) (u : Value) → slice_get its.own.fields i ≡ Some x
          → slice_get has.0 i ≡ Some u → symbol_value a (values_of a d.nodes) x ≡ Some u
      own_value x u at here =
          values_at (symbol_value a (values_of a d.nodes)) its.own.fields its.fields i x u its.stand at
          (ap (λ us. slice_get us i) (same_fields its.own.ctor c its.fields has.0 (sym its.value ∙ has.1)) ∙ here)

  field_of_value : (n : Naming) (s : Sort) (v u : Value) (has : HasCtor c v) → IsFieldOf n c i s v u
      → slice_get has.0 i ≡ Some u
  field_of_value n s v u has (own fields e at) =
      ap (λ us. slice_get us i) (same_fields c c has.0 fields (sym has.1 ∙ e)) ∙ at
  field_of_value n s v u has (other b fields e differ default) =
      absurd (differ (same_ctor b c fields has.0 (sym e ∙ has.1)))

  looks : (e : Trees) → LooksAt bounded_sense d gs e gs t t.of
  looks e = record { expanded = tt; once = inl (record { looks = refl; compares = refl }, refl) }

  -- the whole answer, where the node may have the constructor
  pub field_read : (s : Sort) (x : Symbol BoundedTree) → HasField types c i s
      → field_in i (found c.0 tree.node.alternatives) ≡ Some x
      → IsFieldRead bounded_sense types d gs d gs t c i s (lowered (t.height - 1) x)
  field_read s x has is = step (found c.0 tree.node.alternatives) refl is
    where
      step : (o : Option Alternative) → found c.0 tree.node.alternatives ≡ o → field_in i o ≡ Some x
          → IsFieldRead bounded_sense types d gs d gs t c i s (lowered (t.height - 1) x)
      step None here g = cc
      step (Some y) here g =
          let f = own_field s y has here in
          let same : f.field ≡ x = same_Some f.field x (sym f.at ∙ g) in
          let blank = lowered_blank d gs t.number tree.node.height (t.height - 1) s x
          (subst (λ (z : Symbol BoundedTree). FieldFits gs d.nodes t.number tree.node.height s z) same f.fits)
          (let b = tree.before in omega arith) (let b = tree.height in omega arith)
          (let b = tree.most in omega arith) in
          record {
            of = blank.of;
            height = blank.height;
            looks = looks d;
            means = λ n a v u good stands field has.
                let own = found_own a v stands (has refl) in
                lowered_has d n a (t.height - 1) x u
                (own_value a v stands (has refl) x u
                (ap (λ (z : Alternative). slice_get z.fields i) (same_Some _ y (sym own ∙ here)) ∙ g)
                (field_of_value n s v u (has refl) field));
            extends = λ n a good any. Extended_none bounded_sense types d gs n a good;
          }

  -- and where it can't
  pub field_blank : (e : Trees) (s : Sort) (r : Symbol BoundedTree) → HasField types c i s
      → field_in i (found c.0 tree.node.alternatives) ≡ None → Moves bounded_sense types d gs e gs 0
      → Steady bounded_sense d gs e gs → IsBlank e gs (t.height - 1) s r
      → IsFieldRead bounded_sense types d gs e gs t c i s r
  field_blank e s r has none moves steady blank = record {
    of = blank.of;
    height = blank.height;
    looks = looks e;
    means = λ n a v u good stands field has.
        absurd (no_own a v ((moves.stands n a a t v tree (record { agree = λ x low high. refl })).1 stands) (has refl));
    extends = λ n a good any.
        Extended_steady bounded_sense types bounded_lawful refl d e gs gs 0 n a fits moves steady good;
  }
    where
      no_own : (a : ℕ → Bool) (v : Value) → value_at (values_of a d.nodes) t.number ≡ Some v → HasCtor c v → ⊥
      no_own a v is has' =
          let own = found_own a v is has' in
          let f = own_field s _ has own in
          let no : Some f.field ≡ None = sym f.at ∙ sym (ap (field_in i) own) ∙ none in cc
