-- New contents of a datatype can be those of each of its values.
use Rattle.std.proofs.Common.{◌≡◌, ℕ, suc, ◌+◌, Bool, List, [], ◌∷◌, length, Some, refl, sym}
use Rattle.std.proofs.Common.{ap}
use Rattle.std.proofs.Common.{◌∙◌, subst, arith, slice_get}
use Rattle.std.proofs.lemmas.Option.{same_Some, slice_get_within}
use Rattle.pp_prog.specs.declared.id.DataId.{DataId}
use Rattle.pp_prog.specs.declared.types.Ctor.{Ctor}
use Rattle.pp_prog.specs.declared.types.Datatype.{Datatype}
use Rattle.pp_prog.specs.declared.types.TypeTable.{TypeTable}
use Rattle.pp_prog.specs.declared.value.Value.{Value}
use Rattle.pp_prog.specs.declared.value.Value.TheVariants.{Tree}
use Rattle.pp_prog.specs.Sizes.{ctors_of}
use Rattle.pp_prog.proofs.Values.{ctor_same}
use Rattle.pp_prog.proofs.ValueSorts.{tree_value}
use Rattle.pp_clause.specs.Literal.{Literal}
use Rattle.pp_gate.specs.declared.gate.Gate.{Gate}
use Rattle.pp_gate.specs.Circuit.{Gives}
use Rattle.pp_gate.specs.Growth.{Grows}
use Rattle.pp_gate.proofs.Agreement.{Gives_old, agree_along}
use Rattle.pp_gate.proofs.Growing.{length-Grows}
use Rattle.pp_gate.proofs.Places.{at_some}
use Rattle.pp_bits.specs.Number.{lit_bit}
use Rattle.pp_domain.specs.Naming.{Naming, IsOfData}
use Rattle.pp_bounded_trees.specs.Choices.{AreChoices, true_in}
use Rattle.pp_bounded_trees.proofs.Candidates.{in_block_ctor}
use Rattle.pp_named_trees.specs.declared.arena.Alternative.{Alternative}
use Rattle.pp_named_trees.specs.Arena.{true_among}
use Rattle.pp_named_contents.specs.Contents.{CanHolds, ChosenContents}
use Rattle.pp_named_contents.specs.Fitting.{ContentsFit}
use Rattle.pp_named_contents.specs.FreshContents.{AreFresh, AreOf, CanHoldFields, ctor_from, fields_at, sorts_from}
use Rattle.pp_named_contents.proofs.Blocks.{block_length, ctor_fits}
use Rattle.pp_named_contents.proofs.Going.{goes_with}

-- as many literals are true among the constructors as in the list
true_same : (a : ℕ → Bool) (ls : List Literal) (xs : List Alternative) → length xs ≡ length ls
    → ((j : ℕ) (x : Alternative) → slice_get xs j ≡ Some x → slice_get ls j ≡ Some x.lit)
    → true_among a xs ≡ true_in a ls
true_same a [] [] len each = refl
true_same a (l ∷ ls) (x ∷ xs) len each =
    let one : l ≡ x.lit = same_Some l x.lit (each 0 x refl) in
    let rest = true_same a ls xs (omega arith) (λ j y at. each (suc j) y at) in
    let own = ap (lit_bit a) one in omega arith
true_same a [] (x ∷ xs) len each = absurd (omega arith)
true_same a (l ∷ ls) [] len each = absurd (omega arith)

module _ (types : TypeTable) (gs fs hs : List Gate) (m n top : ℕ) (of : DataId) (t : Datatype) (ls : List Literal)
    (xs : List Alternative) (first : Grows gs fs m) (second : Grows fs hs n)
    (is : slice_get types.datatypes of.0 ≡ Some t) (len : length ls ≡ length (ctors_of types of))
    (choices : AreChoices gs fs ls)
    (all : AreOf fs hs top t.first.0 (ctors_of types of) ls (length (ctors_of types of)) xs) where
  fresh_fits : ContentsFit hs types of xs
  fresh_fits = record {
    datatype = t;
    at = is;
    many = all.many ∙ block_length types of t is;
    each = λ j x at. ctor_fits types hs of t is j x
        (let w = slice_get_within xs j x at in omega (arith, all.many)) (all.contents.each j x at);
    one = λ a gives. true_same a ls xs (all.many ∙ sym len) all.lits_are
        ∙ choices.one a (Gives_old fs hs n second a gives);
  }

  fresh_chosen : (a : ℕ → Bool) (nam : Naming) (v : Value) → Gives a gs → IsOfData types of v
      → CanHoldFields top types nam v → ChosenContents gs hs a nam v xs
  fresh_chosen a nam v gives sorted can =
      let tree = tree_value types.ctors of v sorted in
      let block = in_block_ctor types of tree.ctor.0 tree.entry tree.at tree.data_of in
      let same : block.datatype ≡ t = same_Some block.datatype t (sym block.at_data ∙ is) in
      let number : tree.ctor.0 ≡ t.first.0 + block.place =
      block.number ∙ ap (λ (u : Datatype). u.first.0 + block.place) same in
      let l = at_some ls block.place
      (let w = slice_get_within (ctors_of types of) block.place tree.entry block.at in omega arith) in
      let pick = choices.picked a block.place l.0 gives l.1 in
      let here : v ≡ Tree (ctor_from t.first.0 block.place) tree.fields =
      tree.is ∙ ap (λ c. Tree c tree.fields) (ctor_same tree.ctor (ctor_from t.first.0 block.place) number) in
      let held : CanHolds top nam (sorts_from (ctors_of types of) block.place) tree.fields =
      subst (λ ss. CanHolds top nam ss tree.fields) (sym (ap fields_at block.at))
      (can tree.ctor tree.entry tree.fields tree.at tree.is) in
      let next = all.contents.chosen pick.next nam v pick.gives (λ j x at.
      goes_with top pick.next nam v t.first.0 (ctors_of types of) ls block.place l.0 tree.fields
      (choices.one pick.next pick.gives) l.1 pick.is here held j x.lit (all.lits_are j x at)) in record {
        next = next.next;
        gives = next.gives;
        keeps = agree_along (length gs) (length fs) a pick.next next.next (length-Grows gs fs m first).0 pick.keeps
            next.keeps;
        holds = next.holds;
      }

  pub are_fresh : AreFresh types gs hs top of xs
  are_fresh = record { fits = fresh_fits; chosen = fresh_chosen }

-- as the call reads the lists
pub fresh_read : (types : TypeTable) (gs fs hs : List Gate) (m n top : ℕ) (of : DataId) (t : Datatype)
    (lits ls : List Literal) (ctors : List Ctor) (xs : List Alternative) → Grows gs fs m → Grows fs hs n
    → slice_get types.datatypes of.0 ≡ Some t → length lits ≡ length ctors → AreChoices gs fs lits
    → ctors ≡ ctors_of types of → ls ≡ lits → AreOf fs hs top t.first.0 ctors ls (length ctors) xs
    → AreFresh types gs hs top of xs
fresh_read types gs fs hs m n top of t lits ls ctors xs first second is len choices block same all =
    are_fresh types gs fs hs m n top of t lits xs first second is (len ∙ ap length block) choices
    (subst (λ ks. AreOf fs hs top t.first.0 ks lits (length ks) xs) block
    (subst (λ l. AreOf fs hs top t.first.0 ctors l (length ctors) xs) same all))
