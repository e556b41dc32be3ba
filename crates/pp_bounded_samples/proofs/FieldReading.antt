-- What is read of a field of a kept tree.
use Rattle.std.proofs.Common.{◌≡◌, ℕ, zero, suc, Bool, true, false, List, [], ◌∷◌, Some, slice_get}
use Rattle.std.proofs.Common.{refl}
use Rattle.std.proofs.Common.{sym, ap, ◌∙◌, subst, arith, inl, inr}
use Rattle.std.proofs.lemmas.Bool.{and_parts}
use Rattle.std.proofs.lemmas.Option.{same_Some}
use Rattle.pp_prog.specs.declared.id.CtorId.{CtorId}
use Rattle.pp_prog.specs.declared.id.DataId.{DataId}
use Rattle.pp_prog.specs.declared.sort.Sort.{Sort}
use Rattle.pp_prog.specs.declared.types.Ctor.{Ctor}
use Rattle.pp_prog.specs.declared.types.TypeTable.{TypeTable}
use Rattle.pp_prog.specs.declared.value.Value.{Value}
use Rattle.pp_prog.specs.declared.value.Value.TheVariants.{Tree}
use Rattle.pp_prog.specs.Sorts.{have_sorts}
use Rattle.pp_clause.specs.Literal.{Literal, lit_value}
use Rattle.pp_gate.specs.declared.gate.Gate.{Gate}
use Rattle.pp_gate.specs.Circuit.{Gives}
use Rattle.pp_gate.proofs.Places.{at_some}
use Rattle.pp_domain.specs.declared.symbol.Symbol.{Symbol}
use Rattle.pp_domain.specs.Answers.{HasField, IsCtorOf, IsCtorTest, IsFieldRead}
use Rattle.pp_prog.proofs.Values.{same_ctor}
use Rattle.pp_prog.proofs.ValueSorts.{tree_value}
use Rattle.pp_domain.specs.Moves.{LooksAt, Moves}
use Rattle.pp_domain.specs.Naming.{HasCtor, IsFieldOf, IsOfData, Naming, own}
use Rattle.pp_domain.specs.Sense.{Good}
use Rattle.pp_bounded_trees.specs.declared.arena.BoundedTree.{BoundedTree}
use Rattle.pp_bounded_trees.specs.declared.arena.Trees.{Trees}
use Rattle.pp_bounded_trees.specs.Laws.{bounded_laws}
use Rattle.pp_bounded_trees.specs.Meaning.{bounded_sense}
use Rattle.pp_bounded_trees.specs.Readable.{IsReadable}
use Rattle.pp_bounded_trees.proofs.Known.{symbol_is}
use Rattle.pp_bounded_samples.specs.Kept.{Goes, IsPlaceIn, Kept, Looked}
use Rattle.pp_bounded_samples.proofs.Keeping.{goes}

-- a constructor of the datatype has a field at each place below their number
pub field_sort : (types : TypeTable) (c : CtorId) (of : DataId) (place : ℕ) → IsCtorOf types c of
    → IsPlaceIn types c place → (s : Sort) × HasField types c place s
field_sort types c of place is below =
    let own = at_some is.0.fields place (below is.0 is.1) in (own.0, (is.0, is.1, own.1))

differ : true ≡ false → ⊥
differ e = cc

-- a look at a tree adds nothing to the circuit
pub looked : (types : TypeTable) (d e : Trees) (gs hs : List Gate) (k : ℕ) (t : BoundedTree) (of : DataId)
    → Moves bounded_sense types d gs e hs k → LooksAt bounded_sense d gs e hs t of → Looked types d gs e hs
looked types d e gs hs k t of moves looks = record {
  goes = go;
  reads = λ a u can. record {
    fits = moves.fits;
    kept = go.kept u can.kept;
    gives = subst (λ (ls : List Gate). Gives a ls) (sym same) can.gives;
  };
}
  where
    go : Goes types d gs e hs
    go = goes types d e gs hs k moves

    same : hs ≡ gs
    same = elim looks.once [
      | inl none ↦ none.1
      | inr first ↦ absurd (differ first.inexact)
    ]

-- sorted values have one at each place of the sorts
value_there : (types : TypeTable) (vs : List Value) (ss : List Sort) (i : ℕ) (s : Sort)
    → have_sorts types.ctors vs ss ≡ true → slice_get ss i ≡ Some s → (u : Value) × (slice_get vs i ≡ Some u)
value_there types vs [] i s sorted at = cc
value_there types [] (r ∷ ss) i s sorted at = cc
value_there types (v ∷ vs) (r ∷ ss) zero s sorted at = (v, refl)
value_there types (v ∷ vs) (r ∷ ss) (suc i) s sorted at =
    value_there types vs ss i s (and_parts _ _ sorted).1 at

-- a value of the datatype that has the constructor has its field
field_there : (types : TypeTable) (n : Naming) (of : DataId) (c : CtorId) (place : ℕ) (s : Sort) (v : Value)
    → IsOfData types of v → HasCtor c v → HasField types c place s → (u : Value) × IsFieldOf n c place s v u
field_there types n of c place s v sorted has field =
    let tree = tree_value types.ctors of v sorted in
    let same : tree.ctor ≡ c = same_ctor tree.ctor c tree.fields has.0 (sym tree.is ∙ has.1) in
    let entry : tree.entry ≡ field.0 =
    same_Some tree.entry field.0
    (sym tree.at ∙ ap (λ (k : CtorId). slice_get types.ctors k.0) same ∙ field.1) in
    let there = value_there types tree.fields tree.entry.fields place s tree.sorts
    (ap (λ (k : Ctor). slice_get k.fields place) entry ∙ field.2) in
    (there.0, own tree.fields (tree.is ∙ ap (λ (k : CtorId). Tree k tree.fields) same) there.1)

-- the field of the constructor that the tree has can be read
module _ (types : TypeTable) (d e f : Trees) (gs hs is : List Gate) (k : ℕ) (a : ℕ → Bool) (t : BoundedTree)
    (c : CtorId) (place : ℕ) (s : Sort) (l : Literal) (r : Symbol BoundedTree) where
  pub field_readable : Moves bounded_sense types e hs f is k → Kept types e hs t → Gives a is
      → lit_value a f.ok ≡ true → IsCtorTest bounded_sense types d gs e hs t c l → lit_value a l ≡ true
      → HasField types c place s → IsFieldRead bounded_sense types e hs f is t c place s r → IsReadable types f a r
  field_readable moves kept gives ok test holds field answer =
      let admitted = bounded_laws.names types f is moves.fits [] (omega arith) in
      let n = admitted.naming in
      let good : Good bounded_sense types f is n a =
      record { gates = gives; ok = ok; matches = tt; admitted = admitted.admitted } in
      let before = moves.back n a good in
      let tree = kept.stands n a before in
      let has : HasCtor c tree.value = (test.means n a tree.value before tree.stands).0 holds in
      let after : bounded_sense.Stands f a n t tree.value =
      (moves.stands n a a t tree.value kept.node (record { agree = λ x low high. refl })).0 tree.stands in
      let found = field_there types n t.of c place s tree.value tree.sort has field in
      record {
        gates = is;
        fits = moves.fits;
        gives = gives;
        sort = s;
        of = answer.of;
        value = found.0;
        stands = symbol_is f n a r found.0 (answer.means n a tree.value found.0 good after found.1 (λ e. has));
      }
